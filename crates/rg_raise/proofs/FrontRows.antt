-- Fronts that stand at an address, as rows.
use Rattle.std.proofs.Common.{◌≡◌, ℕ, suc, ◌+◌, ◌<◌, ◌≤◌, Bool as Truth, List, [], ◌∷◌, ◌++◌, length, map, drop, get_or, Option, Some, None}
use Rattle.std.proofs.Common.{Ok, Err, Vec, Global, refl, sym, ap, ◌∙◌, subst, append_assoc, arith}
use Rattle.std.specs.List.{remove}
use Rattle.std.proofs.Math.Seq.{drop-cons}
use Rattle.std.proofs.lemmas.List.{append-nil, drop_all, length-map}
use Rattle.std.proofs.lemmas.List.Elements.{All-nil, All-cons, All-head, All-tail}
use Rattle.rg_base.specs.declared.ty.Ty.{Ty}
use Rattle.rg_tree.specs.declared.rows.Path as rows
use Rattle.rg_tree.specs.Tree.{Path}
use Rattle.rg_tree.specs.Rows.Tables.{Tables}
use Rattle.rg_tree.specs.Rows.RowsExist.{IsExprNumber}
use Rattle.rg_tree.proofs.Callers.{Keeps-same}
use Rattle.rg_tree.proofs.Adding.{extends-same}
use Rattle.rg_code.specs.declared.op.Op.{Op}
use Rattle.rg_verify_expressions.specs.declared.refusal.Refusal.{Refusal}
use Rattle.rg_verify_expressions.specs.declared.refusal.Refusal.TheVariants as refusal
use Rattle.rg_verify_expressions.specs.declared.front.FrontRow.{FrontRow}
use Rattle.rg_verify_expressions.specs.declared.front.FrontRow.TheVariants as front
use Rattle.rg_verify_expressions.specs.Raised.{Raised, named, Front, expression, object, place}
use Rattle.rg_verify_expressions.specs.Rows.{front_named, front_at, IsFrontIn, IsTree}
use Rattle.rg_verify_expressions.specs.Raises.{Stand, RaisesAll}
use Rattle.rg_verify_expressions.specs.Raising.{raised, walk}
use Rattle.rg_verify_expressions.specs.Statements.{used, all_used}
use Rattle.rg_verify_expressions.specs.Blocks.{◌>>=◌, Told, values_in}
use Rattle.rg_verify_expressions.proofs.Raises.{raised-stand}
use Rattle.rg_verify_expressions.proofs.Again.{stand-raised}
use Rattle.rg_raise.specs.declared.said.Fronts.{Fronts}
use Rattle.rg_raise.specs.Uses.{used_in}
use Rattle.rg_raise.specs.Fronts.{IsFront, AreFrontRows, AreTrees, AreFrontsAt, AreLeft, MakesFronts, TakesFront, TakesFirst, start_by, rows_alone}
use Rattle.rg_raise.specs.Fronts.{FindsAlone, FindsExprs}
use Rattle.rg_raise.specs.Telling.{IsPathTo, MakesAs}
use Rattle.rg_raise.proofs.Used.{raised-uses, place-uses}
use Rattle.rg_raise.proofs.Telling.{makes-none, makes-no-memory}

-- At an address

nothing-raised : (at : ℕ) → raised [] at ≡ Some ([], at)
unfolding raised walk
nothing-raised at = refl

rows-none : (t : Tables) (m : Truth) → AreFrontRows t m [] []
rows-none t m = record { is = λ u k. refl; there = λ u k. All-nil (IsFrontIn u) }

-- past the end there are none
pub fronts-past : (t : Tables) (m : Truth) (ops : List Op) (from : ℕ) (rows : Vec FrontRow Global) → length ops < from → rows.items ≡ []
    → MakesFronts t t m ops from (Ok (record { rows = rows; code = record { from = from; end = from } }))
fronts-past t m ops from rows lt e =
    let past : length ops ≤ from = omega (arith, lt) in
    let told : raised (drop from ops) from ≡ Some ([], from) =
    ap (λ (os : List Op). raised os from) (drop_all from ops past) ∙ nothing-raised from in
    ([], refl, extends-same t, record { told = told; rows = subst (λ (rs : List FrontRow). AreFrontRows t m rs []) (sym e) (rows-none t m) })

not-raised : (ops : List Op) (at : ℕ) → ((fs : List Front) (end : ℕ) → Stand ops at fs end → ⊥) → raised ops at ≡ None
not-raised ops at h = by (raised ops at) refl
  where
    by : (r : Option (List Front × ℕ)) → raised ops at ≡ r → raised ops at ≡ None
    by None e = e
    by (Some x) e = absurd (h x.0 x.1 (raised-stand ops at x.0 x.1 e))

pub fronts-refused : (t u : Tables) (m : Truth) (ops : List Op) (from : ℕ) (e : Refusal) → RaisesAll t u m (drop from ops) from (Err e)
    → MakesFronts t u m ops from (Err e)
fronts-refused t u m ops from refusal.Memory h = tt
fronts-refused t u m ops from refusal.NotRaised h = not-raised (drop from ops) from h

pub fronts-raised : (t u : Tables) (m : Truth) (ops : List Op) (from : ℕ) (rows : Vec FrontRow Global) (end : ℕ)
    → RaisesAll t u m (drop from ops) from (Ok (rows, end))
    → MakesFronts t u m ops from (Ok (record { rows = rows; code = record { from = from; end = end } }))
fronts-raised t u m ops from rows end (fs, stand, extends, are) =
    (fs, refl, extends, record { told = stand-raised (drop from ops) from fs end stand; rows = are })

-- One after the other

module _ (t : Tables) (m : Truth) where
  pub rows-many : (rs : List FrontRow) (fs : List Front) → AreFrontRows t m rs fs → length rs ≡ length fs
  rows-many rs fs a =
      let same : map (front_at t) rs ≡ map (front_named m) fs = a.is t (Keeps-same t) in
      sym (length-map rs (front_at t)) ∙ ap length same ∙ length-map fs (front_named m)

  rows-head : (r : FrontRow) (rs : List FrontRow) (f : Front) (fs : List Front) → AreFrontRows t m (r ∷ rs) (f ∷ fs) → IsFront t m r f
  rows-head r rs f fs a = record { is = λ u k. let p = a.is u k in cc; there = λ u k. All-head (IsFrontIn u) r rs (a.there u k) }

  rows-tail : (r : FrontRow) (rs : List FrontRow) (f : Front) (fs : List Front) → AreFrontRows t m (r ∷ rs) (f ∷ fs) → AreFrontRows t m rs fs
  rows-tail r rs f fs a = record { is = λ u k. let p = a.is u k in cc; there = λ u k. All-tail (IsFrontIn u) r rs (a.there u k) }

  pub takes-none : (rs new : List FrontRow) (fs : List Front) → length rs ≡ 0 → AreFrontRows t m rs fs → TakesFront t m new fs None
  takes-none rs new [] none a = tt
  takes-none rs new (f ∷ fs) none a =
      let many : 0 ≡ suc (length fs) = sym none ∙ rows-many rs (f ∷ fs) a in
      absurd (omega (arith, many))

  pub takes-front : (rs : List FrontRow) (r : FrontRow) (fs : List Front) → (length rs ≡ 0 → ⊥) → r ≡ get_or rs 0 r → AreFrontRows t m rs fs
      → TakesFront t m (remove rs 0) fs (Some r)
  takes-front [] r fs some e a = absurd (some refl)
  takes-front (q ∷ rs) r [] some e a =
      let many : suc (length rs) ≡ 0 = rows-many (q ∷ rs) [] a in
      absurd (omega (arith, many))
  takes-front (q ∷ rs) r (f ∷ fs) some e a =
      (subst (λ (x : FrontRow). IsFront t m x f) (sym e) (rows-head q rs f fs a), rows-tail q rs f fs a)

  -- what the first front is, by its row
  pub is-expression : (n : ℕ) (f : Front) → IsFront t m (front.Expression n) f → (e : Raised) × (f ≡ expression e) × IsTree t n (named m e)
  is-expression n (expression e) a = (e, refl, record { is = λ u k. let p = a.is u k in cc; there = a.there })
  is-expression n (object s ks) a = let p = a.is t (Keeps-same t) in absurd cc
  is-expression n (place s ks e) a = let p = a.is t (Keeps-same t) in absurd cc

  pub is-object : (p : rows.Path) (f : Front) → IsFront t m (front.Object p) f
      → (s : ℕ) × (ks : List ℕ) × (f ≡ object s ks) × IsPathTo t m p s ks
  is-object p (expression e) a = let q = a.is t (Keeps-same t) in absurd cc
  is-object p (object s ks) a = (s, ks, refl, record { is = λ u k. let q = a.is u k in cc; there = a.there })
  is-object p (place s ks e) a = let q = a.is t (Keeps-same t) in absurd cc

  pub is-place : (p : rows.Path) (n : ℕ) (f : Front) → IsFront t m (front.Place p n) f
      → (s : ℕ) × (ks : List ℕ) × (e : Raised) × (f ≡ place s ks e) × IsPathTo t m p s ks × IsTree t n (named m e)
  is-place p n (expression e) a = let q = a.is t (Keeps-same t) in absurd cc
  is-place p n (object s ks) a = let q = a.is t (Keeps-same t) in absurd cc
  is-place p n (place s ks e) a = (
    s,
    ks,
    e,
    refl,
    record { is = λ u k. let q = a.is u k in cc; there = λ u k. (a.there u k).0 },
    record { is = λ u k. let q = a.is u k in cc; there = λ u k. (a.there u k).1 },
  )

  pub none-left : (rs : List FrontRow) (fs : List Front) → AreFrontRows t m rs fs → length rs ≡ 0 → fs ≡ []
  none-left rs [] a none = refl
  none-left rs (f ∷ fs) a none =
      let many : 0 ≡ suc (length fs) = sym none ∙ rows-many rs (f ∷ fs) a in
      absurd (omega (arith, many))

  pub some-left : (rs : List FrontRow) (fs : List Front) → AreFrontRows t m rs fs → (length rs ≡ 0 → ⊥) → fs ≡ [] → ⊥
  some-left rs [] a some e = some (rows-many rs [] a)
  some-left rs (f ∷ fs) a some e = cc

  -- the front that was taken, by its row

  pub taken-none : (new : List FrontRow) (fs : List Front) → TakesFront t m new fs None → fs ≡ []
  taken-none new [] h = refl
  taken-none new (f ∷ fs) h = absurd h

  pub taken-expression : (new : List FrontRow) (fs : List Front) (r : FrontRow) (n : ℕ) → r ≡ front.Expression n → TakesFront t m new fs (Some r)
      → (e : Raised) × (rest : List Front) × (fs ≡ expression e ∷ rest) × IsTree t n (named m e) × AreFrontRows t m new rest
  taken-expression new [] r n is h = absurd h
  taken-expression new (f ∷ fs) r n is (first, rest) =
      let (e, same, tree) = is-expression n f (subst (λ (x : FrontRow). IsFront t m x f) is first) in
      (e, fs, ap (λ (x : Front). x ∷ fs) same, tree, rest)

  pub taken-object : (new : List FrontRow) (fs : List Front) (r : FrontRow) (p : rows.Path) → r ≡ front.Object p → TakesFront t m new fs (Some r)
      → (s : ℕ) × (ks : List ℕ) × (rest : List Front) × (fs ≡ object s ks ∷ rest) × IsPathTo t m p s ks × AreFrontRows t m new rest
  taken-object new [] r p is h = absurd h
  taken-object new (f ∷ fs) r p is (first, rest) =
      let (s, ks, same, path) = is-object p f (subst (λ (x : FrontRow). IsFront t m x f) is first) in
      (s, ks, fs, ap (λ (x : Front). x ∷ fs) same, path, rest)

  pub taken-place : (new : List FrontRow) (fs : List Front) (r : FrontRow) (p : rows.Path) (n : ℕ) → r ≡ front.Place p n
      → TakesFront t m new fs (Some r)
      → (s : ℕ) × (ks : List ℕ) × (e : Raised) × (rest : List Front) × (fs ≡ place s ks e ∷ rest)
  taken-place new [] r p n is h = absurd h
  taken-place new (f ∷ fs) r p n is (first, rest) =
      let (s, ks, e, same, path, tree) = is-place p n f (subst (λ (x : FrontRow). IsFront t m x f) is first) in
      (s, ks, e, fs, ap (λ (x : Front). x ∷ fs) same)

-- The first of the fronts at an address

module _ (t : Tables) (m : Truth) (ops : List Op) (old new : Fronts) (end : new.code.end ≡ old.code.end) where
  pub takes-first : (fs : List Front) (r : Option FrontRow) → new.code.from ≡ start_by ops r old.code → AreFrontsAt t m ops old fs
      → TakesFront t m new.rows.items fs r → TakesFirst t m ops new fs r
  takes-first [] None from a h = tt
  takes-first [] (Some r) from a h = absurd h
  takes-first (f ∷ fs) None from a h = absurd h
  takes-first (expression e ∷ fs) (Some (front.Expression n)) from a (first, rest) = record {
    first = first;
    rows = rest;
    spans = λ types. rw (end, from) (raised-uses ops old.code.from (expression e ∷ fs) old.code.end a.told types);
  }
  takes-first (object s ks ∷ fs) (Some (front.Object p)) from a (first, rest) = record {
    first = first;
    rows = rest;
    spans = λ types. rw (end, from) (raised-uses ops old.code.from (object s ks ∷ fs) old.code.end a.told types);
  }
  takes-first (place s ks e ∷ fs) (Some (front.Place p n)) from a (first, rest) = record {
    first = first;
    rows = rest;
    spans = λ types. rw (end, from) (place-uses ops old.code.from s ks e fs old.code.end a.told types);
  }
  takes-first (expression e ∷ fs) (Some (front.Object p)) from a (first, rest) = let q = first.is t (Keeps-same t) in absurd cc
  takes-first (expression e ∷ fs) (Some (front.Place p n)) from a (first, rest) = let q = first.is t (Keeps-same t) in absurd cc
  takes-first (object s ks ∷ fs) (Some (front.Expression n)) from a (first, rest) = let q = first.is t (Keeps-same t) in absurd cc
  takes-first (object s ks ∷ fs) (Some (front.Place p n)) from a (first, rest) = let q = first.is t (Keeps-same t) in absurd cc
  takes-first (place s ks e ∷ fs) (Some (front.Expression n)) from a (first, rest) = let q = first.is t (Keeps-same t) in absurd cc
  takes-first (place s ks e ∷ fs) (Some (front.Object p)) from a (first, rest) = let q = first.is t (Keeps-same t) in absurd cc

-- Expressions alone

-- what is left of rows, with those that are done
pub alone-next : (rs : List FrontRow) (at : ℕ) (r : FrontRow) → at < length rs → r ≡ get_or rs at r → drop at rs ≡ r ∷ drop (at + 1) rs
alone-next rs at r lt e =
    let one : suc at ≡ at + 1 = omega arith in
    drop-cons rs at r lt ∙ ap (λ (x : FrontRow). x ∷ drop (suc at) rs) (sym e) ∙ ap (λ (k : ℕ). r ∷ drop k rs) one

pub alone-ends : (rs : List FrontRow) (at : ℕ) (done : List ℕ) → length rs ≤ at → rows_alone done (drop at rs) ≡ rows_alone [] rs
    → rows_alone [] rs ≡ Some done
alone-ends rs at done le same = sym same ∙ ap (rows_alone done) (drop_all at rs le)

pub alone-not : (rs : List FrontRow) (at : ℕ) (done : List ℕ) (r : FrontRow) → drop at rs ≡ r ∷ drop (at + 1) rs
    → rows_alone done (drop at rs) ≡ rows_alone [] rs → ((n : ℕ) → r ≡ front.Expression n → ⊥) → rows_alone [] rs ≡ None
alone-not rs at done (front.Expression n) next same other = absurd (other n refl)
alone-not rs at done (front.Object p) next same other = sym same ∙ ap (rows_alone done) next
alone-not rs at done (front.Place p n) next same other = sym same ∙ ap (rows_alone done) next

pub alone-on : (rs : List FrontRow) (at : ℕ) (done : List ℕ) (n : ℕ) → drop at rs ≡ front.Expression n ∷ drop (at + 1) rs
    → rows_alone done (drop at rs) ≡ rows_alone [] rs → rows_alone (done ++ n ∷ []) (drop (at + 1) rs) ≡ rows_alone [] rs
alone-on rs at done n next same = sym (ap (rows_alone done) next) ∙ same

trees-cons : {t : Tables} (m : Truth) (n : ℕ) (ns : List ℕ) (e : Raised) (es : List Raised) → IsTree t n (named m e)
    → AreTrees t ns (map (named m) es) → AreTrees t (n ∷ ns) (map (named m) (e ∷ es))
trees-cons m n ns e es a b = record {
  is = λ u k. let p = a.is u k in let q = b.is u k in cc;
  there = λ u k. All-cons (IsExprNumber u) n ns (a.there u k) (b.there u k);
}

values-one : (e : Raised) (fs : List Front) (o : Option (List Raised)) → values_in fs ≡ o →
    values_in (expression e ∷ fs) ≡ ◌>>=◌ o (λ es. Some (e ∷ es))
values-one e fs o h = ap (λ (x : Option (List Raised)). ◌>>=◌ x (λ es. Some (e ∷ es))) h

-- rows that are done, and then those of the values
record Values (t : Tables) (m : Truth) (done ns : List ℕ) (fs : List Front) : Type 0 where
  rs : List Raised
  told : values_in fs ≡ Some rs
  rest : List ℕ
  all : ns ≡ done ++ rest
  trees : AreTrees t rest (map (named m) rs)

alone-some : (t : Tables) (m : Truth) (rows : List FrontRow) (fs : List Front) (done ns : List ℕ) → AreFrontRows t m rows fs
    → rows_alone done rows ≡ Some ns → Values t m done ns fs
alone-some t m [] [] done ns a e =
    record {
      rs = [];
      told = refl;
      rest = [];
      all = let p : done ≡ ns = cc in sym p ∙ sym (append-nil done);
      trees = record { is = λ u k. refl; there = λ u k. All-nil (IsExprNumber u) };
    }
alone-some t m [] (f ∷ fs) done ns a e = let many : 0 ≡ suc (length fs) = rows-many t m [] (f ∷ fs) a in absurd (omega (arith, many))
alone-some t m (r ∷ rs) [] done ns a e = let many : suc (length rs) ≡ 0 = rows-many t m (r ∷ rs) [] a in absurd (omega (arith, many))
alone-some t m (front.Object p ∷ rs) (f ∷ fs) done ns a e = absurd cc
alone-some t m (front.Place p n ∷ rs) (f ∷ fs) done ns a e = absurd cc
alone-some t m (front.Expression n ∷ rs) (f ∷ fs) done ns a e =
    let (x, same, tree) = is-expression t m n f (rows-head t m (front.Expression n) rs f fs a) in
    let v = alone-some t m rs fs (done ++ n ∷ []) ns (rows-tail t m (front.Expression n) rs f fs a) e in
    record {
      rs = x ∷ v.rs;
      told = ap (λ (g : Front). values_in (g ∷ fs)) same ∙ values-one x fs (Some v.rs) v.told;
      rest = n ∷ v.rest;
      all = v.all ∙ append_assoc done (n ∷ []) v.rest;
      trees = trees-cons m n v.rest x v.rs tree v.trees;
    }

alone-none : (t : Tables) (m : Truth) (rows : List FrontRow) (fs : List Front) (done : List ℕ) → AreFrontRows t m rows fs
    → rows_alone done rows ≡ None → values_in fs ≡ None
alone-none t m [] [] done a e = absurd cc
alone-none t m [] (f ∷ fs) done a e = let many : 0 ≡ suc (length fs) = rows-many t m [] (f ∷ fs) a in absurd (omega (arith, many))
alone-none t m (r ∷ rs) [] done a e = let many : suc (length rs) ≡ 0 = rows-many t m (r ∷ rs) [] a in absurd (omega (arith, many))
alone-none t m (front.Expression n ∷ rs) (f ∷ fs) done a e =
    let (x, same, tree) = is-expression t m n f (rows-head t m (front.Expression n) rs f fs a) in
    let none = alone-none t m rs fs (done ++ n ∷ []) (rows-tail t m (front.Expression n) rs f fs a) e in
    ap (λ (g : Front). values_in (g ∷ fs)) same ∙ values-one x fs None none
alone-none t m (front.Object p ∷ rs) (f ∷ fs) done a e =
    let (s, ks, same, path) = is-object t m p f (rows-head t m (front.Object p) rs f fs a) in
    ap (λ (g : Front). values_in (g ∷ fs)) same
alone-none t m (front.Place p n ∷ rs) (f ∷ fs) done a e =
    let (s, ks, x, same, path, tree) = is-place t m p n f (rows-head t m (front.Place p n) rs f fs a) in
    ap (λ (g : Front). values_in (g ∷ fs)) same

-- what expressions alone use up
used-values : (types : List Ty) (fs : List Front) (rs : List Raised) → values_in fs ≡ Some rs → used_in types fs ≡ all_used types rs
used-values types [] rs e = let p : [] ≡ rs = cc in ap (all_used types) p
used-values types (object s ks ∷ fs) rs e = absurd cc
used-values types (place s ks x ∷ fs) rs e = absurd cc
used-values types (expression x ∷ fs) rs e = by (used-values types fs) (values_in fs) refl (sym (values-one x fs (values_in fs) refl) ∙ e)
  where
    by : ((es : List Raised) → values_in fs ≡ Some es → used_in types fs ≡ all_used types es) → (o : Option (List Raised)) → values_in fs ≡ o
        → ◌>>=◌ o (λ es. Some (x ∷ es)) ≡ Some rs → used_in types (expression x ∷ fs) ≡ all_used types rs
    by others None h f = absurd cc
    by others (Some es) h f =
        let p : x ∷ es ≡ rs = cc in
        ap (λ (ss : List ℕ). used types x ++ ss) (others es h) ∙ ap (all_used types) p

module _ {t : Tables} {m : Truth} {ops : List Op} {x : Fronts} {fs : List Front} (a : AreLeft t m ops x fs) where
  pub finds-none : (e : Refusal) → FindsAlone x.rows.items (Err e) → FindsExprs t m ops x fs (Err e)
  finds-none refusal.Memory h = tt
  finds-none refusal.NotRaised h = alone-none t m x.rows.items fs [] a.rows h

  pub finds-some : (ns : Vec ℕ Global) → rows_alone [] x.rows.items ≡ Some ns.items
      → FindsExprs t m ops x fs (Ok (record { rows = ns; code = x.code }))
  finds-some ns e =
      let v = alone-some t m x.rows.items fs [] ns.items a.rows e in (
        v.rs,
        v.told,
        refl,
        record {
          trees = subst (λ (ks : List ℕ). AreTrees t ks (map (named m) v.rs)) (sym v.all) v.trees;
          spans = λ types. a.spans types ∙ used-values types fs v.rs v.told;
        },
      )

-- what is refused where there are others
pub exprs-refuse : {W B : Type 0} (Js : Tables → W → B → Type 0) (t : Tables) (m : Truth) (ops : List Op) (x : Fronts) (fs : List Front)
    (v w : Tables) (p : Told B) (e : Refusal) → FindsExprs t m ops x fs (Err e) → (values_in fs ≡ None → p ≡ None) → MakesAs Js v w p (Err e)
exprs-refuse Js t m ops x fs v w p refusal.Memory h f = makes-no-memory Js v w p
exprs-refuse Js t m ops x fs v w p refusal.NotRaised h f = makes-none Js v w p (f h)
