-- Lists that grow part by part: so many parts as have a count, each of which has a spelling.
use Rattle.std.proofs.Common.{◌≡◌, refl, sym, ap, ◌∙◌, subst, ℕ, suc, ◌+◌, ◌<◌, ◌≤◌, ◌-◌, ◌^◌}
use Rattle.std.proofs.Common.{min, Option, None, List, [], ◌∷◌, ◌++◌, length, map, take, drop, get_or, All, Some}
use Rattle.std.proofs.Common.{slice_get, append_assoc, arith}
use Rattle.std.proofs.lemmas.List.{drop_more, length-map, length-take, map-append, take_more}
use Rattle.std.proofs.lemmas.Option.{get_or_from_slice_get, slice_get_within}
use Rattle.std.proofs.lemmas.List.Elements.{All-push, All-get_or}
use Rattle.std.specs.List.{AllByRecursion}
use Rattle.rg_base.proofs.Callers.Lists.{drop-here}
use Rattle.rg_base.specs.declared.ty.Ty.{Ty}
use Rattle.rg_tree.specs.Tree.{Param, Member, field, method, Class}
use Rattle.rg_tree.specs.declared.rows.ClassRow.{ClassRow}
use Rattle.rg_tree.specs.declared.rows.Span.{Span}
use Rattle.rg_tree.specs.declared.rows.TypeRow.{TypeRow}
use Rattle.rg_tree.specs.Rows.Tables.{Tables, numbers_in}
use Rattle.rg_tree.specs.Rows.RowTrees.{class_of, classes_of, member_at, members_under, param_at}
use Rattle.rg_rules.specs.Types.{type_of}
use Rattle.rg_spell.specs.declared.rows.Head.{Head}
use Rattle.rg_spell.specs.declared.rows.Shape.{Shape}
use Rattle.rg_module.specs.Parts.{Parts}
use Rattle.rg_build.specs.ModuleOf.{field_types, shape_of, member_heads, class_heads}

all-push : {X : Type 0} (P : X → Type 0) (xs : List X) (x : X) → AllByRecursion P xs → P x → AllByRecursion P (xs ++ x ∷ [])
all-push P [] x h p = (p, tt)
all-push P (y ∷ ys) x h p = (h.0, all-push P ys x h.1 p)

pub all-is : {X : Type 0} (P : X → Type 0) (xs ys : List X) (x : X) → ys ≡ xs ++ x ∷ [] → AllByRecursion P xs → P x → AllByRecursion P ys
all-is P xs ys x e h p = subst (AllByRecursion P) (sym e) (all-push P xs x h p)

-- one more of the first parts
pub taken : {X : Type 0} (xs : List X) (i : ℕ) (x : X) → slice_get xs i ≡ Some x → take (i + 1) xs ≡ take i xs ++ x ∷ []
taken {X} xs i x g =
    take_more xs i x (slice_get_within xs i x g) ∙ ap (λ (y : X). take i xs ++ y ∷ []) (get_or_from_slice_get xs i x x g)

pub all-taken : {X : Type 0} (P : X → Type 0) (xs : List X) (i : ℕ) (x : X) → slice_get xs i ≡ Some x → All P (take i xs) → P x →
    All P (take (i + 1) xs)
all-taken P xs i x g h p = subst (All P) (sym (taken xs i x g)) (All-push P (take i xs) x h p)

-- what holds of all parts holds of one of them
pub all-at : {X : Type 0} (P : X → Type 0) (xs : List X) (i : ℕ) (x : X) → slice_get xs i ≡ Some x → All P xs → P x
all-at P xs i x g h = subst P (get_or_from_slice_get xs i x x g) (All-get_or P xs i x (slice_get_within xs i x g) h)

-- Fields, parameters, members

field_types-cons : (cs : List Class) (m : Member) (ms : List Member) → field_types cs (m ∷ ms) ≡ field_types cs (m ∷ []) ++ field_types cs ms
field_types-cons cs (field f) ms = refl
field_types-cons cs (method m) ms = refl

-- one member more
pub fields-turn : (t : Tables) (types new whole : List Ty) (these : List ℕ) (i : ℕ) (m : Member) → i < length these →
    types ++ field_types (classes_of t) (map (member_at t) (drop i these)) ≡ whole → m ≡ member_at t (get_or these i 0) →
    new ≡ types ++ field_types (classes_of t) (m ∷ []) →
    new ++ field_types (classes_of t) (map (member_at t) (drop (i + 1) these)) ≡ whole
fields-turn t types new whole these i m l e s n =
    let cs = classes_of t in
    let rest = map (member_at t) (drop (i + 1) these) in
    let split : field_types cs (map (member_at t) (drop i these)) ≡ field_types cs (m ∷ []) ++ field_types cs rest =
    ap (λ (ks : List ℕ). field_types cs (map (member_at t) ks)) (drop_more these i 0 l)
    ∙ field_types-cons cs (member_at t (get_or these i 0)) rest
    ∙ ap (λ (k : Member). field_types cs (k ∷ []) ++ field_types cs rest) (sym s) in
    ap (λ (ts : List Ty). ts ++ field_types cs rest) n ∙ append_assoc types (field_types cs (m ∷ [])) (field_types cs rest)
    ∙ ap (λ (ts : List Ty). types ++ ts) (sym split) ∙ e

-- one parameter more
pub params-turn : (t : Tables) (types new whole : List Ty) (these : List ℕ) (i : ℕ) (y : Ty) → i < length these →
    types ++ map (λ (p : Param). type_of (classes_of t) p.ty) (map (param_at t) (drop i these)) ≡ whole →
    y ≡ type_of (classes_of t) (param_at t (get_or these i 0)).ty → new ≡ types ++ y ∷ [] →
    new ++ map (λ (p : Param). type_of (classes_of t) p.ty) (map (param_at t) (drop (i + 1) these)) ≡ whole
params-turn t types new whole these i y l e s n =
    let rest = map (λ (p : Param). type_of (classes_of t) p.ty) (map (param_at t) (drop (i + 1) these)) in
    let split : map (λ (p : Param). type_of (classes_of t) p.ty) (map (param_at t) (drop i these)) ≡ y ∷ rest =
    ap (λ (ks : List ℕ). map (λ (p : Param). type_of (classes_of t) p.ty) (map (param_at t) ks)) (drop_more these i 0 l)
    ∙ ap (λ (z : Ty). z ∷ rest) (sym s) in
    ap (λ (ts : List Ty). ts ++ rest) n ∙ append_assoc types (y ∷ []) rest ∙ ap (λ (ts : List Ty). types ++ ts) (sym split) ∙ e

-- Methods

member_heads-cons : (cs : List Class) (c : ℕ) (m : Member) (ms : List Member) →
    member_heads cs c (m ∷ ms) ≡ member_heads cs c (m ∷ []) ++ member_heads cs c ms
member_heads-cons cs c (field f) ms = refl
member_heads-cons cs c (method m) ms = refl

-- more heads, and then others
pub heads-more : (old now new whole : Parts) (more rest all : List Head) → record now { methods = now.methods ++ all } ≡ whole →
    all ≡ more ++ rest → new ≡ record now { methods = now.methods ++ more } → record new { methods = new.methods ++ rest } ≡ whole
heads-more old now new whole more rest all e s n =
    ap (λ (m : Parts). record m { methods = m.methods ++ rest }) n
    ∙ ap (λ (hs : List Head). record now { methods = hs }) (append_assoc now.methods more rest
    ∙ ap (λ (hs : List Head). now.methods ++ hs) (sym s)) ∙ e

pub members-heads : (t : Tables) (c : ℕ) (these : List ℕ) (i : ℕ) (m : Member) → i < length these → m ≡ member_at t (get_or these i 0) →
    member_heads (classes_of t) c (map (member_at t) (drop i these))
    ≡ member_heads (classes_of t) c (m ∷ []) ++ member_heads (classes_of t) c (map (member_at t) (drop (i + 1) these))
members-heads t c these i m l s =
    let cs = classes_of t in
    let rest = map (member_at t) (drop (i + 1) these) in
    ap (λ (ks : List ℕ). member_heads cs c (map (member_at t) ks)) (drop_more these i 0 l)
    ∙ member_heads-cons cs c (member_at t (get_or these i 0)) rest
    ∙ ap (λ (k : Member). member_heads cs c (k ∷ []) ++ member_heads cs c rest) (sym s)

pub classes-heads : (cs : List Class) (c : ℕ) (d : Class) (members : List Member) → slice_get cs c ≡ Some d → members ≡ d.members →
    class_heads cs c (drop c cs) ≡ member_heads cs c members ++ class_heads cs (c + 1) (drop (c + 1) cs)
classes-heads cs c d members g e =
    let one : c + 1 ≡ suc c = omega arith in
    ap (class_heads cs c) (drop-here cs c d g)
    ∙ ap (λ (ms : List Member). member_heads cs c ms ++ class_heads cs (suc c) (drop (c + 1) cs)) (sym e)
    ∙ ap (λ (k : ℕ). member_heads cs c members ++ class_heads cs k (drop (c + 1) cs)) (sym one)

-- Classes

pub shapes-turn : (cs : List Class) (old now new : Parts) (c : ℕ) (d : Class) (s : Shape) → slice_get cs c ≡ Some d →
    now ≡ record old { classes = map (shape_of cs) (take c cs) } → s ≡ shape_of cs d → new ≡ record now { classes = now.classes ++ s ∷ [] } →
    new ≡ record old { classes = map (shape_of cs) (take (c + 1) cs) }
shapes-turn cs old now new c d s g e h n =
    let more : map (shape_of cs) (take (c + 1) cs) ≡ map (shape_of cs) (take c cs) ++ shape_of cs d ∷ [] =
    ap (map (shape_of cs)) (taken cs c d g) ∙ map-append (shape_of cs) (take c cs) (d ∷ []) in
    n ∙ ap (λ (m : Parts). record m { classes = m.classes ++ s ∷ [] }) e
    ∙ ap (λ (z : Shape). record old { classes = map (shape_of cs) (take c cs) ++ z ∷ [] }) h
    ∙ ap (λ (zs : List Shape). record old { classes = zs }) (sym more)

members-few : (t : Tables) (element : Option TypeRow) (s : Span) → length (members_under t element s) ≤ s.to
members-few t None s =
    let these = drop s.from t.numbers in
    let e : length (numbers_in t s) ≡ min (s.to - s.from) (length these) = length-take (s.to - s.from) these in
    let m : length (members_under t None s) ≡ length (numbers_in t s) = length-map (numbers_in t s) _ in
    omega (arith, e, m)
members-few t (Some y) s = omega arith

-- a class has no more members than a span holds
pub few-members : (t : Tables) (r : ClassRow) (these : List ℕ) → map (member_at t) these ≡ (class_of t r).members → r.members.to < 2 ^ 32 →
    length these < 2 ^ 32
few-members t r these e lt =
    let n : length these ≡ length (class_of t r).members = sym (length-map these (member_at t)) ∙ ap length e in
    let le = members-few t r.element r.members in
    omega (arith, n, le, lt)
