-- The `iso` fields of a behaviour's class, each with the cown whose content it takes.
use Rattle.std.proofs.Common.{◌≡◌, refl, sym, ap, ◌∙◌, ℕ, zero, suc, ◌<◌, true, false, List, [], ◌∷◌, length, map, filter_map, Option, None, Some}
use Rattle.std.proofs.Common.{slice_get, arith}
use Rattle.std.specs.Prelude.{All}
use Rattle.std.specs.List.{cons_option}
use Rattle.std.proofs.lemmas.List.Elements.{All-head, All-tail}
use Rattle.rg_base.specs.declared.words.Cap.TheVariants.{Mut, Tmp, Paused, Imm, Iso}
use Rattle.rg_base.specs.declared.ty.Ty.TheVariants.{Ref}
use Rattle.rg_tree.specs.Tree.{Ty as Written, int, bool, ref, Field, Member, field, method, Class}
use Rattle.rg_rules.specs.Types.{class_number, type_of, field_member, members_of, fields_of}
use Rattle.rg_rules.specs.Headers.{is_iso_written}
use Rattle.rg_plan.specs.declared.cown.Cown.{Cown}
use Rattle.rg_plan.specs.Plans.{Turn as Behaviour}
use Rattle.rg_plan.specs.Lines.{owned_type, owned_by, cown_classes}
use Rattle.rg_plan.specs.Laws.{IsGoodTurn}

-- the `iso` fields, and the cowns of these numbers, are of the same classes in the same order
pub data Takes (classes : List Class) (cowns : List Cown) : List Field → List ℕ → Type 0 where
  nothing : Takes classes cowns [] []
  other : {f : Field} {fs : List Field} {ns : List ℕ} → is_iso_written f.ty ≡ false → Takes classes cowns fs ns → Takes classes cowns (f ∷ fs) ns
  one : {f : Field} {fs : List Field} {n : ℕ} {ns : List ℕ} → (c : Cown) → slice_get cowns n ≡ Some c → is_iso_written f.ty ≡ true
      → type_of classes f.ty ≡ Ref Iso c.class → Takes classes cowns fs ns → Takes classes cowns (f ∷ fs) (n ∷ ns)

-- the classes of the `iso` fields
abbrev iso_classes : List Class → List Field → List ℕ
iso_classes classes [] = []
iso_classes classes (f ∷ fs) = cons_option (owned_type (type_of classes f.ty)) (iso_classes classes fs)

owned-fields : (classes : List Class) (ms : List Member) → filter_map (owned_by classes) ms ≡ iso_classes classes (filter_map field_member ms)
owned-fields classes [] = refl
owned-fields classes (field f ∷ ms) = ap (cons_option (owned_type (type_of classes f.ty))) (owned-fields classes ms)
owned-fields classes (method m ∷ ms) = owned-fields classes ms

-- a field is `iso` by its written type, or it isn't
data OwnsOrNot (classes : List Class) (w : Written) : Type 0 where
  owns : (class : ℕ) → is_iso_written w ≡ true → type_of classes w ≡ Ref Iso class → owned_type (type_of classes w) ≡ Some class → OwnsOrNot classes w
  not_so : is_iso_written w ≡ false → owned_type (type_of classes w) ≡ None → OwnsOrNot classes w

owns_or_not : (classes : List Class) (w : Written) → OwnsOrNot classes w
owns_or_not classes int = not_so refl refl
owns_or_not classes bool = not_so refl refl
owns_or_not classes (ref Mut x) = not_so refl refl
owns_or_not classes (ref Tmp x) = not_so refl refl
owns_or_not classes (ref Paused x) = not_so refl refl
owns_or_not classes (ref Imm x) = not_so refl refl
owns_or_not classes (ref Iso x) = owns (class_number classes x) refl refl refl

-- the classes of cowns, of which the first is there
cown-first : (cowns : List Cown) (n : ℕ) (ns : List ℕ) (c : Cown) → slice_get cowns n ≡ Some c
    → cown_classes cowns (n ∷ ns) ≡ c.class ∷ cown_classes cowns ns
cown-first cowns n ns c there =
    ap (λ (o : Option Cown). map (λ (c : Cown). c.class) (cons_option o (filter_map (slice_get cowns) ns))) there

cown-there : (cowns : List Cown) (n : ℕ) → n < length cowns → (c : Cown) × (slice_get cowns n ≡ Some c)
cown-there cowns n l = by (slice_get cowns n) refl
  where
    missing : (cs : List Cown) (k : ℕ) → k < length cs → slice_get cs k ≡ None → ⊥
    missing [] k l e = omega (arith, l)
    missing (c ∷ cs) zero l e = cc
    missing (c ∷ cs) (suc k) l e = missing cs k (omega (arith, l)) e

    by : (o : Option Cown) → slice_get cowns n ≡ o → (c : Cown) × (slice_get cowns n ≡ Some c)
    by None e = absurd (missing cowns n l e)
    by (Some c) e = (c, e)

same-first : (a b : ℕ) (as_ bs : List ℕ) → a ∷ as_ ≡ b ∷ bs → (a ≡ b) × (as_ ≡ bs)
same-first a b as_ bs e = (ap (λ (xs : List ℕ). first xs a) e, ap after e)
  where
    first : List ℕ → ℕ → ℕ
    first [] d = d
    first (x ∷ xs) d = x

    after : List ℕ → List ℕ
    after [] = []
    after (x ∷ xs) = xs

takes-by : (classes : List Class) (cowns : List Cown) (fs : List Field) (ns : List ℕ) → All (λ n. n < length cowns) ns
    → iso_classes classes fs ≡ cown_classes cowns ns → Takes classes cowns fs ns
takes-by classes cowns [] [] below same = nothing
takes-by classes cowns [] (n ∷ ns) below same =
    let c = cown-there cowns n (All-head (λ n. n < length cowns) n ns below) in
    let no : [] ≡ c.0.class ∷ cown_classes cowns ns = same ∙ cown-first cowns n ns c.0 c.1 in absurd cc
takes-by classes cowns (f ∷ fs) ns below same = by (owns_or_not classes f.ty) ns below same (takes-by classes cowns fs)
  where
    by : OwnsOrNot classes f.ty → (ns : List ℕ) → All (λ n. n < length cowns) ns → iso_classes classes (f ∷ fs) ≡ cown_classes cowns ns
        → ((ns : List ℕ) → All (λ n. n < length cowns) ns → iso_classes classes fs ≡ cown_classes cowns ns → Takes classes cowns fs ns)
        → Takes classes cowns (f ∷ fs) ns
    by (not_so out none) ns below same rest =
        other out (rest ns below (sym (ap (λ o. cons_option o (iso_classes classes fs)) none) ∙ same))
    by (owns class iso is some) [] below same rest =
        let no : class ∷ iso_classes classes fs ≡ [] = sym (ap (λ o. cons_option o (iso_classes classes fs)) some) ∙ same in absurd cc
    by (owns class iso is some) (n ∷ ns) below same rest =
        let c = cown-there cowns n (All-head (λ n. n < length cowns) n ns below) in
        let both = same-first class c.0.class (iso_classes classes fs) (cown_classes cowns ns)
        (sym (ap (λ o. cons_option o (iso_classes classes fs)) some) ∙ same ∙ cown-first cowns n ns c.0 c.1) in
        one c.0 c.1 iso (is ∙ ap (Ref Iso) both.0) (rest ns (All-tail (λ n. n < length cowns) n ns below) both.1)

-- so it is for a behaviour of a plan that is read
pub turn-takes : (classes : List Class) (cowns : List Cown) (b : Behaviour) → IsGoodTurn classes cowns b
    → Takes classes cowns (fields_of classes b.class) b.cowns
turn-takes classes cowns b good =
    takes-by classes cowns (fields_of classes b.class) b.cowns good.below
    (sym (owned-fields classes (members_of (slice_get classes b.class))) ∙ good.owned)
