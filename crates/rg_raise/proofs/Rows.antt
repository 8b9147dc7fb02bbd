-- Rows of statements, put together from rows of their parts.
use Rattle.std.proofs.Common.{◌≡◌, ℕ, ◌<◌, Bool as Truth, List, [], ◌∷◌, ◌++◌, All, map, length}
use Rattle.std.proofs.Common.{refl, sym, ◌∙◌, ap, subst}
use Rattle.std.proofs.lemmas.List.{map-append}
use Rattle.std.proofs.lemmas.List.Elements.{All-nil, All-push}
use Rattle.rg_tree.specs.declared.rows.Span.{Span}
use Rattle.rg_tree.specs.declared.rows.Path as rows
use Rattle.rg_tree.specs.Tree as tree
use Rattle.rg_tree.specs.Tree.{Name, Variable}
use Rattle.rg_tree.specs.Rows.Tables.{Tables, name_at, numbers_in}
use Rattle.rg_tree.specs.Rows.RowTrees.{path_of, expr_at, call_of, program_of}
use Rattle.rg_tree.specs.Rows.RowsExist.{Holds, IsWithin, IsNameIn, IsPathIn, IsCallIn, IsSpanBelow}
use Rattle.rg_tree.specs.Keeps.{Keeps}
use Rattle.rg_tree.proofs.Callers.{Keeps-same, Keeps-trans, Holds-keeps, IsAbove-Keeps}
use Rattle.rg_tree.proofs.Grows.{numbers_in-grows}
use Rattle.rg_verify_expressions.specs.Naming.{field_name, method_name}
use Rattle.rg_verify_expressions.specs.Raised.{named, path_named}
use Rattle.rg_tree.specs.Adds.{Extends, Means, Adds}
use Rattle.rg_raise.specs.Fronts.{AreTrees}
use Rattle.rg_verify_expressions.specs.Statements.{Call}
use Rattle.rg_verify_expressions.specs.Found.{call_named}
use Rattle.rg_verify_expressions.specs.Rows.{AreNames}
use Rattle.rg_raise.specs.Telling.{IsPathTo}
use Rattle.rg_tree.proofs.Adding.{extends-by, extends-trans, means-later}

module _ {V A : Type 0} {at : Tables → V → A} {exists : Tables → V → Type 0} where
  pub means-there : {t : Tables} {v : V} {a : A} → Means at exists t v a → exists t v
  means-there {t} m = m.there t (Keeps-same t)

  pub means-now : {t : Tables} {v : V} {a : A} → Means at exists t v a → at t v ≡ a
  means-now {t} m = m.is t (Keeps-same t)

  -- what was added stands for that
  pub adds-later : {t u w : Tables} {v : V} {a : A} → Adds at exists t u v a → Extends u w → Means at exists w v a
  adds-later a g = means-later a.means g

-- no names
pub names-none : (t : Tables) → AreNames t [] []
names-none t = record { is = λ u k. refl; there = λ u k. All-nil (IsNameIn u) }

-- a row over one, two and three others

module _ {W B : Type 0} {at : Tables → W → B} {exists : Tables → W → Type 0} where
  pub means-one : {V A : Type 0} {at1 : Tables → V → A} {exists1 : Tables → V → Type 0} (row : V → W) (f : A → B)
      → ((u : Tables) (v : V) → at u (row v) ≡ f (at1 u v)) → ((u : Tables) (v : V) → exists1 u v → exists u (row v))
      → {t : Tables} {v : V} {a : A} → Means at1 exists1 t v a → Means at exists t (row v) (f a)
  means-one row f e h {v = v} a = record { is = λ w k. e w v ∙ ap f (a.is w k); there = λ w k. h w v (a.there w k) }

  pub means-two : {V1 A1 V2 A2 : Type 0} {at1 : Tables → V1 → A1} {exists1 : Tables → V1 → Type 0}
      {at2 : Tables → V2 → A2} {exists2 : Tables → V2 → Type 0} (row : V1 → V2 → W) (f : A1 → A2 → B)
      → ((u : Tables) (v1 : V1) (v2 : V2) → at u (row v1 v2) ≡ f (at1 u v1) (at2 u v2))
      → ((u : Tables) (v1 : V1) (v2 : V2) → exists1 u v1 → exists2 u v2 → exists u (row v1 v2))
      → {t : Tables} {v1 : V1} {v2 : V2} {a1 : A1} {a2 : A2} → Means at1 exists1 t v1 a1 → Means at2 exists2 t v2 a2
      → Means at exists t (row v1 v2) (f a1 a2)
  means-two row f e h {v1 = v1} {v2 = v2} a b = record {
    is = λ w k. let p = a.is w k in let q = b.is w k in e w v1 v2 ∙ cc;
    there = λ w k. h w v1 v2 (a.there w k) (b.there w k);
  }

  pub means-three : {V1 A1 V2 A2 V3 A3 : Type 0} {at1 : Tables → V1 → A1} {exists1 : Tables → V1 → Type 0}
      {at2 : Tables → V2 → A2} {exists2 : Tables → V2 → Type 0} {at3 : Tables → V3 → A3} {exists3 : Tables → V3 → Type 0}
      (row : V1 → V2 → V3 → W) (f : A1 → A2 → A3 → B)
      → ((u : Tables) (v1 : V1) (v2 : V2) (v3 : V3) → at u (row v1 v2 v3) ≡ f (at1 u v1) (at2 u v2) (at3 u v3))
      → ((u : Tables) (v1 : V1) (v2 : V2) (v3 : V3) → exists1 u v1 → exists2 u v2 → exists3 u v3 → exists u (row v1 v2 v3))
      → {t : Tables} {v1 : V1} {v2 : V2} {v3 : V3} {a1 : A1} {a2 : A2} {a3 : A3} → Means at1 exists1 t v1 a1
      → Means at2 exists2 t v2 a2 → Means at3 exists3 t v3 a3 → Means at exists t (row v1 v2 v3) (f a1 a2 a3)
  means-three row f e h {v1 = v1} {v2 = v2} {v3 = v3} a b c = record {
    is = λ w k. let p = a.is w k in let q = b.is w k in let r = c.is w k in e w v1 v2 v3 ∙ cc;
    there = λ w k. h w v1 v2 v3 (a.there w k) (b.there w k) (c.there w k);
  }

-- what was added over one that was added
pub adds-one : {W B V A : Type 0} {at : Tables → W → B} {exists : Tables → W → Type 0} {at1 : Tables → V → A} {exists1 : Tables → V → Type 0}
    (row : V → W) (f : A → B) → ((u : Tables) (v : V) → at u (row v) ≡ f (at1 u v)) → ((u : Tables) (v : V) → exists1 u v → exists u (row v))
    → {t u : Tables} {v : V} {a : A} → Adds at1 exists1 t u v a → Adds at exists t u (row v) (f a)
adds-one row f e h a = record { extends = a.extends; means = means-one row f e h a.means }

-- a span of rows
pub means-span : {A : Type 0} (at : Tables → ℕ → A) (size : Tables → ℕ) {t : Tables} {ns : List ℕ} {s : Span} {xs : List A}
    → Means (λ u. map (at u)) (λ u. All (λ k. k < size u)) t ns xs → Holds t s ns
    → Means (λ w s. map (at w) (numbers_in w s)) (λ w. IsSpanBelow w (size w)) t s xs
means-span at size {ns = ns} {s = s} a h = record {
  is = λ w k. ap (map (at w)) (Holds-keeps k s ns h).these_are ∙ a.is w k;
  there = λ w k. let i = Holds-keeps k s ns h in
      record { within = i.within; each = subst (All (λ k. k < size w)) (sym i.these_are) (a.there w k) };
}

-- a call whose path and arguments are there
pub call-put : {t u v : Tables} (m : Truth) (c : Call) (place : ℕ) {p : rows.Path} {n : ℕ} {args : List ℕ} {s : Span}
    → Adds name_at IsNameIn t u n (method_name place) → Keeps u v → program_of v ≡ program_of u → Holds v s args
    → c.callee.place ≡ place → IsPathTo t m p c.slot c.fields → AreTrees t args (map (named m) c.args)
    → Adds call_of IsCallIn t v (record { path = p; method = n; args = s }) (call_named m c)
call-put {v = v} m c place {n = n} a k e h same p args =
    let g = extends-by k e in
    let later = extends-trans a.extends g in
    let name = means-later a.means g in
    let name = subst (λ (x : ℕ). Means name_at IsNameIn v n (method_name x)) (sym same) name in
    record {
      extends = later;
      means = means-three {at = call_of} {exists = IsCallIn} (λ q n s. record { path = q; method = n; args = s })
          (λ q n s. record { target = q; method = n; args = s }) (λ u q n s. refl)
          (λ u q n s x y z. record { target = x; method = y; args = z }) (means-later p later) name
          (means-span expr_at (λ w. length w.exprs) (means-later args later) h);
    }

-- a path that goes on by a field
pub path-longer : {t u v : Tables} (m : Truth) (s : ℕ) (ks : List ℕ) (k : ℕ) {p : rows.Path} {n : ℕ} {ns : List ℕ} {to : Span}
    → IsPathTo t m p s ks → Adds name_at IsNameIn t u n (field_name k) → ns ≡ numbers_in u p.fields ++ n ∷ [] → Keeps u v
    → program_of v ≡ program_of u → Holds v to ns
    → Adds path_of IsPathIn t v (record { base = p.base; fields = to }) (path_named m s (ks ++ k ∷ []))
path-longer {t} {u} {v} m s ks k {p} {n} {ns} {to} old a ns_are keeps e h =
    let g = extends-by keeps e in
    let later = extends-trans a.extends g in
    let path = means-later old later in
    let name = means-later a.means g in
    let path_u = means-later old a.extends in
    let within : IsWithin u p.fields = (means-there path_u).fields.within in
    record {
      extends = later;
      means = record {
        is = λ w j.
            let numbers : numbers_in w p.fields ≡ numbers_in u p.fields = numbers_in-grows (IsAbove-Keeps (Keeps-trans keeps j)) p.fields within in
            let fields : map (name_at w) (numbers_in u p.fields) ≡ map field_name ks =
            ap (map (name_at w)) (sym numbers) ∙ ap (λ (q : tree.Path). q.fields) (path.is w j) in
            let last = name.is w j in
            let all : map (name_at w) (numbers_in w to) ≡ map field_name (ks ++ k ∷ []) =
            ap (map (name_at w)) (◌∙◌ {b = ns} (Holds-keeps j to ns h).these_are ns_are) ∙ map-append (name_at w) (numbers_in u p.fields) (n ∷ [])
            ∙ ap (λ (xs : List Name). xs ++ name_at w n ∷ []) fields
            ∙ ap (λ (x : Name). map field_name ks ++ x ∷ []) last ∙ sym (map-append field_name ks (k ∷ [])) in
            ap (λ (b : Variable). record { base = b; fields = map (name_at w) (numbers_in w to) }) (ap (λ (q : tree.Path). q.base) (path.is w j))
            ∙ ap (λ (fs : List Name). record { base = (path_named m s ks).base; fields = fs }) all;
        there = λ w j.
            let i = Holds-keeps j to ns h in
            let there = path.there w j in
            let numbers : numbers_in w p.fields ≡ numbers_in u p.fields = numbers_in-grows (IsAbove-Keeps (Keeps-trans keeps j)) p.fields within in
            let each : All (λ k. k < length w.names) (numbers_in u p.fields) = subst (All (λ k. k < length w.names)) numbers there.fields.each in
            record {
              base = there.base;
              fields = record {
                within = i.within;
                each = subst (All (λ k. k < length w.names)) (sym (i.these_are ∙ ns_are))
                    (All-push (λ k. k < length w.names) _ n each (name.there w j));
              };
            };
      };
    }
