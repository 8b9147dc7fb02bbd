-- Classes and their members are read by their rows.
use Rattle.std.proofs.Common.{◌≡◌, ◌≢◌, ℕ, ◌<◌, Bool, List, [], ◌∷◌, ◌++◌, length, option_map, true, false, Option, Some, None, refl, ◌∙◌, ap}
use Rattle.std.proofs.Common.{append_assoc, append-nil, arith}
use Rattle.std.proofs.lemmas.List.Elements.{All-nil}
use Rattle.rg_base.specs.declared.words.Cap.{Cap}
use Rattle.rg_base.specs.declared.words.Keyword.TheVariants as w
use Rattle.rg_base.specs.declared.words.Sign.TheVariants as s
use Rattle.rg_base.specs.declared.token.Kind.{Kind}
use Rattle.rg_base.specs.declared.token.Kind.TheVariants as k
use Rattle.rg_base.specs.declared.fault.Code.TheVariants.{Syntax}
use Rattle.rg_tree.specs.declared.rows.Span.{Span}
use Rattle.rg_tree.specs.declared.rows.TypeRow.{TypeRow}
use Rattle.rg_tree.specs.declared.rows.MemberRow.{MemberRow}
use Rattle.rg_tree.specs.declared.rows.MemberRow.TheVariants as member_row
use Rattle.rg_tree.specs.Tree.{Name, Param, Member, field, method}
use Rattle.rg_tree.specs.Forms as form
use Rattle.rg_tree.specs.Forms.{Given}
use Rattle.rg_tree.specs.Phrases.{Symbol, that, mark, class_name, field_name, method_name, param_name, the}
use Rattle.rg_tree.specs.Phrases as p
use Rattle.rg_tree.specs.Grammar.{Reads, text, class_row, tmp_class_row, members_row, element_row, field_row, method_row, no_members, first_param}
use Rattle.rg_tree.specs.Grammar.{no_params, next_param, no_more_params}
use Rattle.rg_tree.specs.Stuck.{line_at, fits}
use Rattle.rg_tree.specs.Rows.Tables.{Tables, name_at}
use Rattle.rg_tree.specs.Rows.RowTrees.{type_of, param_at, param_of, member_at, member_of, members_under, class_of}
use Rattle.rg_tree.specs.Rows.RowsExist.{IsSpanBelow, IsNameIn, IsParamIn, IsClassIn, IsParamNumber, IsMemberNumber}
use Rattle.rg_tree.specs.Table.{next, row}
use Rattle.rg_tree.proofs.Passing.{passes}
use Rattle.rg_tree.proofs.Stopping.{kind_is}
use Rattle.rg_tree.specs.Adds.{Means}
use Rattle.rg_reader.specs.declared.reader.halt.Halt.{Halt}
use Rattle.rg_reader.specs.declared.reader.halt.Halt.TheVariants as halt
use Rattle.rg_reader.specs.declared.reader.limits.Role.TheVariants as role
use Rattle.rg_reader.specs.Lists.{numbers_of, IsListed}
use Rattle.rg_parse.specs.Inner.Readings.{FoundClass, FoundClassRest, rest_in, IsRestIn, FoundMembers, FoundMember, FoundParams, FoundParam}
use Rattle.rg_parse.specs.Inner.Readings.{param_symbols, param_row, FoundBlock}
use Rattle.rg_reader.specs.Readings.{FoundType, FoundCap, FoundResult}
use Rattle.rg_reader.specs.Steps.{State, Extends, Took, took, took_brace, took_paren, took_bracket, Declared, declared, found, Kept, kept, Halts}
use Rattle.rg_reader.proofs.Growing.{extends-same, extends-trans, means-later, means-as}
use Rattle.rg_reader.proofs.Halting.{halts-none, halts-row, halts-took, halts-declared, halts-found, halts-tables}
use Rattle.rg_reader.proofs.Loops.{st, Along, along, means-nil, means-push, means-span}

-- classes

-- the row of a class stands for the class
class-means : {t u : Tables} {n : ℕ} {x : Option TypeRow × Span} {y : Given form.ClassRest} {name : Name} (is_tmp : Bool) (line : ℕ)
    → Means name_at IsNameIn t n name → Extends t u → Means rest_in IsRestIn u x y
    → Means class_of IsClassIn u (record { name = n; is_tmp = is_tmp; element = x.0; members = x.1; line = line })
    (record { name = name; is_tmp = is_tmp; element = y.0; members = y.1; line = line })
class-means {x = x} {y = y} is_tmp line n g m = record {
  is =
      λ v o.
      let e1 = (means-later n g).is v o in
      let e2 : option_map (type_of v) x.0 ≡ y.0 = ap (λ (r : Given form.ClassRest). r.0) (m.is v o) in
      let e3 : members_under v x.0 x.1 ≡ y.1 = ap (λ (r : Given form.ClassRest). r.1) (m.is v o) in
      cc;
  there = λ v o. record { name = (means-later n g).there v o; element = (m.there v o).0; members = (m.there v o).1 };
}

pub class-found : {a b c d : State} {n : ℕ} {x : Option TypeRow × Span} (line : ℕ) → line ≡ line_at 0 a.rest → Took (k.Word w.Class) a b
    → Declared class_name b n c → FoundClassRest c x d
    → FoundClass a (record { name = n; is_tmp = false; element = x.0; members = x.1; line = line }) d
class-found line z (took {t = t} i1 h1) (declared {source = source} {t = v} h2 l2 n g2) (found y r m g) =
    rw z (found (record { name = text source v; is_tmp = false; element = y.0; members = y.1; line = t.line }) (class_row h1 h2 l2 r)
    (class-means false t.line n g m) (extends-trans g2 g))

pub tmp_class-found : {a b c d e : State} {n : ℕ} {x : Option TypeRow × Span} (line : ℕ) → line ≡ line_at 0 a.rest → Took (k.Word w.Tmp) a b
    → Took (k.Word w.Class) b c → Declared class_name c n d → FoundClassRest d x e
    → FoundClass a (record { name = n; is_tmp = true; element = x.0; members = x.1; line = line }) e
tmp_class-found line z (took {t = t} i1 h1) (took i h) (declared {source = source} {t = v} h2 l2 n g2) (found y r m g) =
    rw z (found (record { name = text source v; is_tmp = true; element = y.0; members = y.1; line = t.line }) (tmp_class_row h1 h h2 l2 r)
    (class-means true t.line n g m) (extends-trans g2 g))

-- what stands behind their names

pub members_row-found : {a b c d : State} {x : Span} → Took (k.Mark s.OpenBrace) a b → FoundMembers b x c → Took (k.Mark s.CloseBrace) c d
    → FoundClassRest a (None, x) d
members_row-found (took i h) q t = absurd i
members_row-found (took_brace h l) (found y r m g) (took i f) =
    found (None, y) (members_row h l r f)
    (record { is = λ u o. let e = m.is u o in cc; there = λ u o. (tt, m.there u o) }) g

-- no members
no_members-there : (u : Tables) → IsSpanBelow u (length u.members) (record { from = 0; to = 0 })
no_members-there u = record { within = record { ordered = omega arith; ends = omega arith }; each = All-nil (λ k. k < length u.members) }

pub element_row-found : {a b c d e : State} {y : TypeRow} → Took (k.Mark s.OpenBracket) a b → FoundType b y c → Took (k.Mark s.CloseBracket) c d
    → Took (k.Mark s.Semicolon) d e → FoundClassRest a (Some y, record { from = 0; to = 0 }) e
element_row-found (took i h) q t v = absurd i
element_row-found (took_bracket h l) (found y r m g) (took i f) (took i' f') =
    found (Some y, []) (element_row h l r f f')
    (record { is = λ u o. let e = m.is u o in cc; there = λ u o. (m.there u o, no_members-there u) }) g

pub no-class_rest : (o : Option Kind) → o ≢ Some (k.Mark s.OpenBrace) → o ≢ Some (k.Mark s.OpenBracket) → row p.ClassRest o ≡ None
no-class_rest (Some (k.Mark s.OpenBrace)) h i = absurd (h refl)
no-class_rest (Some (k.Mark s.OpenBracket)) h i = absurd (i refl)
no-class_rest _ h i = refl

-- members

pub field-found : {a b c d e : State} {n : ℕ} {y : TypeRow} (line : ℕ) → line ≡ line_at 0 a.rest → Declared field_name a n b
    → Took (k.Mark s.Colon) b c
    → FoundType c y d → Took (k.Mark s.Semicolon) d e → FoundMember a (member_row.Field n y line) e
field-found line z (declared {source = source} {t = t} h1 l1 n g1) (took i2 h2) (found x r m g) (took i4 h4) =
    found (field (record { name = text source t; ty = x; line = t.line }))
    (record {
      reads = λ more e vs q. field_row h1 l1 h2 r h4 q;
      stops = λ u v e b q. halts-tables _ u e (halts-row _ e (ap (λ y. row p.Members (Some y)) h1)
          (halts-declared role.Field e (declared h1 l1 n g1) (halts-took e (took i2 h2) (halts-found form.Type' e tt (found x r m g)
          (halts-took e (took i4 h4) (halts-tables v _ e q))))));
    })
    (record {
      is = λ u o. let e1 = (means-later n g).is u o in let e2 = m.is u o in cc;
      there = λ u o. ((means-later n g).there u o, m.there u o);
    })
    (extends-trans g1 g)

pub method-found : {a b c d e f g h i : State} {v : Cap} {n : ℕ} {x y : Span} {o : Option TypeRow} (line : ℕ) → line ≡ line_at 0 a.rest
    → Took (k.Word w.Def) a b → FoundCap b v c → Declared method_name c n d → Took (k.Mark s.OpenParen) d e → FoundParams e x f
    → Took (k.Mark s.CloseParen) f g → FoundResult g o h → FoundBlock h y i → FoundMember a (member_row.Method v n x o y line) i
method-found line z (took i1 h1) cap name (took i4 h4) ps t o b = absurd i4
method-found line z (took {t = t} i1 h1) (found c r2 m2 g2) (declared {source = source} {t = v} h3 l3 n g3) (took_paren h4 l4) (found ps r5 m5 g5)
    (took i6 h6) (found o r7 m7 g7) (found b r8 m8 g8) =
    let g78 = extends-trans g7 g8 in
    let g58 = extends-trans g5 g78 in
    let g38 = extends-trans g3 g58 in
    found (method (record { receiver = c; name = text source v; params = ps; result = o; body = b; line = t.line }))
    (record {
      reads = λ more e vs q. method_row h1 r2 h3 l3 h4 l4 r5 h6 r7 r8 q;
      stops = λ u w e x q. halts-tables _ u e (halts-row _ e (ap (λ y. row p.Members (Some y)) h1)
          (halts-took e (took i1 h1) (halts-found form.Cap e tt (found c r2 m2 g2) (halts-declared role.Method e (declared h3 l3 n g3)
          (halts-took e (took_paren h4 l4) (halts-found form.Params e tt (found ps r5 m5 g5) (halts-took e (took i6 h6)
          (halts-found form.Result e tt (found o r7 m7 g7) (halts-found form.Block e tt (found b r8 m8 g8) (halts-tables w _ e q))))))))));
    })
    (record {
      is =
          λ u k.
          let e2 = (means-later m2 g38).is u k in
          let e3 = (means-later n g58).is u k in
          let e5 = (means-later m5 g78).is u k in
          let e7 = (means-later m7 g8).is u k in
          let e8 = m8.is u k in
          cc;
      there = λ u k. ((means-later n g58).there u k, (means-later m5 g78).there u k, (means-later m7 g8).there u k, m8.there u k);
    })
    (extends-trans g2 g38)

abbrev pub AlongMembers : State → List ℕ → State → Type 0
AlongMembers = Along (λ source. Reads source form.Members) (λ source. Reads source form.Members) (◌++◌ {A = Member}) p.Members p.Members member_at
    IsMemberNumber

pub members-start : (a : State) → AlongMembers a [] a
members-start a = along [] (means-nil member_at IsMemberNumber a.tables) (extends-same a.tables) (λ r e vs q. q) (λ e b h. h)

pub members-step : {a m n o : State} {ks : List ℕ} {x : MemberRow} {v : ℕ} → AlongMembers a ks m → FoundMember m x n → Kept n o
    → Means member_at IsMemberNumber o.tables v (member_of n.tables x) → AlongMembers a (ks ++ v ∷ []) o
members-step (along done m g reads halts) (found {v = u} y r q l) (kept k) n =
    along (done ++ y ∷ []) (means-push (means-later m (extends-trans l k)) (means-as n (q.is u (extends-same u).keeps)))
    (extends-trans g (extends-trans l k))
    (λ z e vs t. rw (append_assoc done (y ∷ []) z) (reads (y ∷ z) e vs (r.reads z e vs t)))
    (λ e b t. halts e b (r.stops _ _ e b t))

pub members-end : {a m n : State} {ks : List ℕ} {x : Span} → AlongMembers a ks m → next m.rest ≡ Some (k.Mark s.CloseBrace) → Kept m n
    → Means numbers_of IsListed n.tables x ks → FoundMembers a x n
members-end (along {us = us} {d = d} done m g reads halts) h (kept l) o =
    found done (rw append-nil at (reads [] d us (no_members h))) (means-span (λ t. length t.members) (means-later m l) o) (extends-trans g l)

pub no-member : (o : Option Kind) → o ≢ Some (k.Mark s.CloseBrace) → o ≢ Some k.Name → o ≢ Some (k.Word w.Def) → row p.Members o ≡ None
no-member (Some (k.Mark s.CloseBrace)) h i j = absurd (h refl)
no-member (Some k.Name) h i j = absurd (i refl)
no-member (Some (k.Word w.Def)) h i j = absurd (j refl)
no-member _ h i j = refl

-- parameters

pub param-found : {a b c d e : State} {n m : ℕ} {y : TypeRow} → Declared param_name a n b → Took (k.Mark s.Colon) b c → FoundType c y d → Kept d e
    → Means param_at IsParamNumber e.tables m (param_of d.tables (record { name = n; ty = y })) → FoundParam a m e
param-found (declared {source = source} {t = t} h1 l1 n g1) (took i2 h2) (found {v = u} x r m g) (kept k) q =
    found (record { name = text source t; ty = x }) (param_row h1 l1 h2 r)
    (record {
      is = λ v h. let e1 = (means-later n g).is u (extends-same u).keeps in let e2 = m.is u (extends-same u).keeps in q.is v h ∙ cc;
      there = q.there;
    })
    (extends-trans g1 (extends-trans g k))

halts-param : {a m b : State} {n : ℕ} {ys : List Symbol} (e : Halt) → FoundParam a n m → Halts ys m e b → Halts (param_symbols ++ ys) a e b
halts-param halt.Memory f h = record { stops = tt }
halts-param (halt.At f) (found x (param_row h1 l h2 r) m g) h = record {
  stops = λ ss. fits {y = param_name} (kind_is h1) l (fits {y = that (k.Mark s.Colon)} (kind_is h2) refl (passes r tt (h.stops ss)));
}

-- some symbols stop, in front of others
pub halts-front : {a b : State} (xs ys : List Symbol) (e : Halt) → Halts xs a e b → Halts (xs ++ ys) a e b
halts-front xs ys halt.Memory h = record { stops = tt }
halts-front xs ys (halt.At f) h = record { stops = λ ss. rw (append_assoc xs ys ss) (h.stops (ys ++ ss)) }

abbrev pub AlongParams : State → List ℕ → State → Type 0
AlongParams = Along (λ source. Reads source form.Params) (λ source. Reads source form.MoreParams) (◌++◌ {A = Param}) p.Params p.MoreParams param_at
    IsParamNumber

pub params-start : {a b : State} {n : ℕ} → next a.rest ≡ Some k.Name → FoundParam a n b → AlongParams a (n ∷ []) b
params-start i (found {source = source} {ts = ts} {c = c} {u = u} x (param_row h1 l h2 r) m g) =
    along (x ∷ []) (means-push (means-nil param_at IsParamNumber _) m) g (λ y e vs q. first_param h1 l h2 r q)
    (λ e b q. halts-row (st source ts c u) e (ap (row p.Params) i) (halts-param e (found x (param_row h1 l h2 r) m g) q))

pub params-step : {a m i n : State} {ks : List ℕ} {v : ℕ} → AlongParams a ks m → Took (k.Mark s.Comma) m i → FoundParam i v n
    → AlongParams a (ks ++ v ∷ []) n
params-step (along done m g reads halts) (took i h) (found x (param_row h1 c h2 r) n l) =
    along (done ++ x ∷ []) (means-push (means-later m l) n) (extends-trans g l)
    (λ y e vs q. rw (append_assoc done (x ∷ []) y) (reads (x ∷ y) e vs (next_param h h1 c h2 r q)))
    (λ e b q. halts e b (halts-row _ e (ap (λ z. row p.MoreParams (Some z)) h)
    (halts-took e (took i h) (halts-param e (found x (param_row h1 c h2 r) n l) q))))

pub params-first_halts : {a b : State} (e : Halt) → next a.rest ≡ Some k.Name → Halts param_symbols a e b → Halts (the p.Params ∷ []) a e b
params-first_halts {a} e i h = halts-row a e (ap (row p.Params) i) (halts-front param_symbols (the p.MoreParams ∷ []) e h)

pub params-stop : {a m b : State} {ks : List ℕ} (e : Halt) → AlongParams a ks m → next m.rest ≡ Some (k.Mark s.Comma)
    → Halts (mark s.Comma ∷ param_symbols ++ the p.MoreParams ∷ []) m e b → Halts (the p.Params ∷ []) a e b
params-stop {b = b} e (along done m g reads halts) i h = halts e b (halts-row _ e (ap (row p.MoreParams) i) h)

no_more-row : (o : Option Kind) → o ≢ Some (k.Mark s.Comma) → o ≢ Some (k.Mark s.CloseParen) → row p.MoreParams o ≡ None
no_more-row (Some (k.Mark s.Comma)) h i = absurd (h refl)
no_more-row (Some (k.Mark s.CloseParen)) h i = absurd (i refl)
no_more-row _ h i = refl

pub params-none : {a m : State} {ks : List ℕ} (e : Halt) → AlongParams a ks m → next m.rest ≢ Some (k.Mark s.Comma)
    → (e ≡ halt.At Syntax) × (next m.rest ≢ Some (k.Mark s.CloseParen)) → Halts (the p.Params ∷ []) a e m
params-none e (along {us = us} done m g reads halts) h i = rw i.0 (halts (halt.At Syntax) _ (halts-none _ (no_more-row (next us) h i.1)))

pub params-end : {a m n : State} {ks : List ℕ} {x : Span} → AlongParams a ks m → next m.rest ≡ Some (k.Mark s.CloseParen) → Kept m n
    → Means numbers_of IsListed n.tables x ks → FoundParams a x n
params-end (along {us = us} {d = d} done m g reads halts) h (kept l) o =
    found done (rw append-nil at (reads [] d us (no_more_params h))) (means-span (λ t. length t.params) (means-later m l) o) (extends-trans g l)

pub no_params-found : {a b : State} {x : Span} → next a.rest ≡ Some (k.Mark s.CloseParen) → Kept a b → Means numbers_of IsListed b.tables x []
    → FoundParams a x b
no_params-found h (kept l) o = found [] (no_params h) (means-span (λ t. length t.params) (means-nil param_at IsParamNumber _) o) l

pub no-params : (o : Option Kind) → o ≢ Some (k.Mark s.CloseParen) → o ≢ Some k.Name → row p.Params o ≡ None
no-params (Some (k.Mark s.CloseParen)) h i = absurd (h refl)
no-params (Some k.Name) h i = absurd (i refl)
no-params _ h i = refl

pub param-there : {a b c d : State} {n : ℕ} {y : TypeRow} → Declared param_name a n b → Took (k.Mark s.Colon) b c → FoundType c y d
    → IsParamIn d.tables (record { name = n; ty = y })
param-there (declared h1 l1 n g1) (took i2 h2) (found {v = u} x r m g) = record {
  name = n.there u g.keeps;
  ty = m.there u (extends-same u).keeps;
}
