-- What a behaviour leaves to its cowns may be owned.
use Rattle.std.proofs.Common.{◌≡◌, refl, sym, ap, ◌∙◌, subst, ℕ, suc, Bool as Truth, List, [], ◌∷◌, map, Some}
use Rattle.std.proofs.Common.{slice_get}
use Rattle.std.proofs.lemmas.Option.{same_Some, get_or_from_slice_get}
use Rattle.rg_base.specs.declared.words.Cap.TheVariants.{Iso}
use Rattle.rg_base.specs.declared.ty.Ty.{Ty}
use Rattle.rg_base.specs.declared.ty.Ty.TheVariants.{Ref}
use Rattle.rg_base.specs.declared.object.Seen.{Seen}
use Rattle.rg_base.specs.declared.value.Val.{Val}
use Rattle.rg_base.specs.declared.value.Val.TheVariants.{Nil, Int, Bool, Obj}
use Rattle.rg_tree.specs.Tree.{Field, Tree}
use Rattle.rg_rules.specs.Types.{type_of, fields_of}
use Rattle.rg_rules.specs.State.{State}
use Rattle.rg_rules.specs.Runs.{Ending, Running, Done, Stopped}
use Rattle.rg_cown.specs.Cargo.{CargoList}
use Rattle.rg_cown.specs.Contents.{cargo_of, no_object}
use Rattle.rg_opening.specs.Beginning.{MayOwn}
use Rattle.rg_opening.specs.Laws.{ContentGoesBack}
use Rattle.rg_first.specs.First.{IsOfBehaviour}
use Rattle.rg_plan.specs.declared.cown.Cown.{Cown}
use Rattle.rg_sched_atomic.specs.Contents.{Content, Away, Empty, Held, onto_if, iso_values, content_of, goes_back, left_by}
use Rattle.rg_contents.proofs.Lists.{AllPut, put-none}
use Rattle.rg_contents.proofs.Owners.{Takes, nothing, other, one}

-- what a cown has may be owned by a field of its class
abbrev pub OwnedAt : Tree → List Cown → ℕ → Content → Type 0
OwnedAt t cowns n x = (c : Cown) (y : CargoList) → slice_get cowns n ≡ Some c → x ≡ Held y → MayOwn t (Ref Iso c.class) y

not-held : {B : Type 0} (x : Content) (y : CargoList) → x ≡ Empty → x ≡ Held y → B
not-held x y e h = absurd (differ (sym e ∙ h))
  where
    differ : Empty ≡ Held y → ⊥
    differ d = cc

pub none-owned : (t : Tree) (cowns : List Cown) (n : ℕ) → OwnedAt t cowns n Empty
none-owned t cowns n c y there is = not-held Empty y refl is

away-owned : (t : Tree) (cowns : List Cown) (ns : List ℕ) → AllPut (OwnedAt t cowns) ns (map (λ n. Away) ns)
away-owned t cowns [] = tt
away-owned t cowns (n ∷ ns) = (λ c y there is. absurd (differ y is), away-owned t cowns ns)
  where
    differ : (y : CargoList) → Away ≡ Held y → ⊥
    differ y d = cc

empty-owned : (t : Tree) (cowns : List Cown) (ns : List ℕ) → AllPut (OwnedAt t cowns) ns (map (λ n. Empty) ns)
empty-owned t cowns [] = tt
empty-owned t cowns (n ∷ ns) = (none-owned t cowns n, empty-owned t cowns ns)

pub held-is : (x y : CargoList) → Held x ≡ Held y → x ≡ y
held-is x y e = ap (λ (c : Content). of c x) e
  where
    of : Content → CargoList → CargoList
    of Away d = d
    of Empty d = d
    of (Held z) d = z

-- what a field leads to
content-owned : (t : Tree) (s : State) (cowns : List Cown) (ty : Ty) (c : Cown) (n : ℕ) (v : Val) → ty ≡ Ref Iso c.class → slice_get cowns n ≡ Some c
    → ((a : ℕ) → v ≡ Obj a → MayOwn t ty (cargo_of s.store s.managers a)) → OwnedAt t cowns n (content_of s v)
content-owned t s cowns ty c n Nil is there own d y at h = not-held Empty y refl h
content-owned t s cowns ty c n (Int z) is there own d y at h = not-held Empty y refl h
content-owned t s cowns ty c n (Bool b) is there own d y at h = not-held Empty y refl h
content-owned t s cowns ty c n (Obj a) is there own d y at h =
    let same : c ≡ d = same_Some c d (sym there ∙ at) in
    subst (MayOwn t (Ref Iso d.class)) (held-is (cargo_of s.store s.managers a) y h)
    (subst (λ (q : Ty). MayOwn t q (cargo_of s.store s.managers a)) (is ∙ ap (λ (q : Cown). Ref Iso q.class) same) (own a refl))

back-owned : (t : Tree) (s : State) (cowns : List Cown) (fs : List Field) (vs : List Val) (ns : List ℕ) → Takes t.classes cowns fs ns
    → ((k a class : ℕ) (f : Field) → slice_get fs k ≡ Some f → type_of t.classes f.ty ≡ Ref Iso class → slice_get vs k ≡ Some (Obj a)
    → MayOwn t (type_of t.classes f.ty) (cargo_of s.store s.managers a))
    → AllPut (OwnedAt t cowns) ns (map (content_of s) (iso_values fs vs))
back-owned t s cowns [] vs [] nothing own = tt
back-owned t s cowns [] vs (n ∷ ns) takes own = elim takes [ ]
back-owned t s cowns (f ∷ fs) [] ns takes own = put-none (OwnedAt t cowns) (none-owned t cowns) ns
back-owned t s cowns (f ∷ fs) (v ∷ vs) ns (other out takes) own =
    let P : Truth → Type 0 = λ b. AllPut (OwnedAt t cowns) ns (map (content_of s) (onto_if b v (iso_values fs vs))) in
    subst P (sym out) (back-owned t s cowns fs vs ns takes (λ k a class g at is there. own (suc k) a class g at is there))
back-owned t s cowns (f ∷ fs) (v ∷ vs) (n ∷ ns) (one c there iso is takes) own =
    let P : Truth → Type 0 = λ b. AllPut (OwnedAt t cowns) (n ∷ ns) (map (content_of s) (onto_if b v (iso_values fs vs))) in
    subst P (sym iso) (
      content-owned t s cowns (type_of t.classes f.ty) c n v is there (λ a e. own 0 a c.class f refl is (ap Some e)),
      back-owned t s cowns fs vs ns takes (λ k a class g at is there. own (suc k) a class g at is there),
    )

done-owned : ContentGoesBack → (t : Tree) (s : State) (cowns : List Cown) (class : ℕ) (ns : List ℕ) → IsOfBehaviour t class s
    → Takes t.classes cowns (fields_of t.classes class) ns → AllPut (OwnedAt t cowns) ns (goes_back (fields_of t.classes class) s)
done-owned back t s cowns class ns h takes =
    let o = h.first.object in
    let P : Seen → Type 0 = λ q. AllPut (OwnedAt t cowns) ns (map (content_of s) (iso_values (fields_of t.classes class) q.fields)) in
    subst P (sym (get_or_from_slice_get s.store 0 o no_object h.first.there))
    (back-owned t s cowns (fields_of t.classes class) o.fields ns takes (λ k a c f at is there.
    back t s 0 k a c 0 o f h.fit h.first.there h.first.label_is (ap (λ q. slice_get (fields_of t.classes q) k) h.first.class_is ∙ at) is there))

pub left-owned : ContentGoesBack → (t : Tree) (s : State) (cowns : List Cown) (class : ℕ) (e : Ending) (ns : List ℕ) → IsOfBehaviour t class s
    → Takes t.classes cowns (fields_of t.classes class) ns → AllPut (OwnedAt t cowns) ns (left_by (fields_of t.classes class) s e ns)
left-owned back t s cowns class Running ns h takes = away-owned t cowns ns
left-owned back t s cowns class Done ns h takes = done-owned back t s cowns class ns h takes
left-owned back t s cowns class (Stopped kind line) ns h takes = empty-owned t cowns ns
