-- What becomes of the objects of region 0 where the store changes.
use Rattle.std.proofs.Common.{◌≡◌, refl, sym, ◌∙◌, ap, subst, inl, inr, ℕ, zero, suc, Bool as Truth, true, false, if◌then◌else◌, List, [], ◌∷◌, ◌++◌}
use Rattle.std.proofs.Common.{length, Option, Some, None, option_map, slice_get, slice_set, arith}
use Rattle.std.proofs.lemmas.Option.{same_Some}
use Rattle.std.proofs.lemmas.Bool.{cases_eq}
use Rattle.rg_base.specs.declared.object.Label.{Label}
use Rattle.rg_base.specs.declared.object.Label.TheVariants.{Region}
use Rattle.rg_base.specs.declared.object.Seen.{Seen}
use Rattle.rg_base.specs.declared.value.Val.{Val}
use Rattle.rg_base.specs.declared.value.Val.TheVariants.{Nil, Int, Bool, Obj}
use Rattle.rg_tree.specs.Tree.{Name, Class}
use Rattle.rg_rules.specs.Types.{fields_of, field_place}
use Rattle.rg_rules.specs.State.{State}
use Rattle.rg_rules.specs.Regions.{among, in_regions, relabelled, relabelled_object}
use Rattle.rg_rules.specs.Evaluation.{with_field, with_element}
use Rattle.rg_rules.specs.RightSides.{Use}
use Rattle.rg_rules.specs.Steps.{put_field, put_element}
use Rattle.rg_rules.proofs.Region.{slice_get-relabelled}
use Rattle.rg_sound.proofs.Basics.{none-some}
use Rattle.rg_sound.proofs.Owners.Owner.{get-set, get-set-other, length-slice_set}

-- an object of the same class, with the same label and as many values
pub record IsLike (o n : Seen) : Type 0 where
  pub class_is : n.class ≡ o.class
  pub label_is : n.label ≡ o.label
  pub many : length n.fields ≡ length o.fields

pub like-same : (o : Seen) → IsLike o o
like-same o = record { class_is = refl; label_is = refl; many = refl }

like-then : (a b c : Seen) → IsLike a b → IsLike b c → IsLike a c
like-then a b c p q = record { class_is = q.class_is ∙ p.class_is; label_is = q.label_is ∙ p.label_is; many = q.many ∙ p.many }

-- an object like it is at the address
abbrev pub StillAt : List Seen → ℕ → Seen → Type 0
StillAt store a o = (n : Seen) × (slice_get store a ≡ Some n) × IsLike o n

-- each object of region 0 is still there
abbrev pub Keeps : List Seen → List Seen → Type 0
Keeps old new = (a : ℕ) (o : Seen) → slice_get old a ≡ Some o → o.label ≡ Region 0 → StillAt new a o

pub keeps-same : (store : List Seen) → Keeps store store
keeps-same store a o there first = (o, there, like-same o)

pub keeps-is : (old new : List Seen) → new ≡ old → Keeps old new
keeps-is old new is = subst (Keeps old) (sym is) (keeps-same old)

pub keeps-then : (old mid new : List Seen) → Keeps old mid → Keeps mid new → Keeps old new
keeps-then old mid new k h a o there first =
    let n = k a o there first in
    let m = h a n.0 n.1 (n.2.label_is ∙ first) in (m.0, m.1, like-then o n.0 m.0 n.2 m.2)

-- one more object
pub keeps-push : (store : List Seen) (n : Seen) → Keeps store (store ++ n ∷ [])
keeps-push store n a o there first = (o, by store a there, like-same o)
  where
    by : (os : List Seen) (i : ℕ) → slice_get os i ≡ Some o → slice_get (os ++ n ∷ []) i ≡ Some o
    by [] i e = none-some e
    by (p ∷ os) zero e = e
    by (p ∷ os) (suc i) e = by os i e

-- another object like that which was there
pub keeps-set : (store : List Seen) (b : ℕ) (was n : Seen) → slice_get store b ≡ Some was → IsLike was n → Keeps store (slice_set store b n)
keeps-set store b was n at like a o there first = elim (cases_eq a b) [
  | inl here ↦
      let one : was ≡ o = same_Some was o (sym at ∙ ap (slice_get store) (sym here) ∙ there) in
      (n, ap (slice_get (slice_set store b n)) here ∙ get-set store b n was at, subst (λ (q : Seen). IsLike q n) one like)
  | inr away ↦ (o, get-set-other store b a n away ∙ there, like-same o)
]

-- other labels for other regions
pub keeps-relabelled : (regions : List ℕ) (label : Label) (store : List Seen) → among regions 0 ≡ false → Keeps store (relabelled regions label store)
keeps-relabelled regions label store out a o there first = (
  o,
  slice_get-relabelled regions label store a ∙ ap (option_map (relabelled_object regions label)) there
      ∙ ap Some (untouched (in_regions regions o.label) (ap (in_regions regions) first ∙ out)),
  like-same o,
)
  where
    untouched : (c : Truth) → c ≡ false → (if c then record o { label = label } else o) ≡ o
    untouched true h = grind arith
    untouched false h = refl

-- Where a value goes

-- whatever a value is put to, objects of region 0 are still there
abbrev pub UseKeeps : Use → Type 0
UseKeeps put = (s : State) (v : Val) → Keeps s.store (put s v).store

field-like : (classes : List Class) (x : Name) (v : Val) (o : Seen) → IsLike o (with_field classes x v o)
field-like classes x v o = by (field_place (fields_of classes o.class) x)
  where
    by : (k : Option ℕ) → IsLike o (elim k [ None ↦ o | Some k ↦ record o { fields = slice_set o.fields k v } ])
    by None = like-same o
    by (Some k) = record { class_is = refl; label_is = refl; many = length-slice_set o.fields k v }

pub field-keeps : (classes : List Class) (at : Val) (x : Name) → UseKeeps (put_field classes at x)
field-keeps classes Nil x s v = keeps-same s.store
field-keeps classes (Int z) x s v = keeps-same s.store
field-keeps classes (Bool b) x s v = keeps-same s.store
field-keeps classes (Obj a) x s v = by (slice_get s.store a) refl
  where
    by : (o : Option Seen) → slice_get s.store a ≡ o → Keeps s.store ((λ (q : State). q.store)
        (elim o [ None ↦ s | Some o ↦ record s { store = slice_set s.store a (with_field classes x v o) } ]))
    by None e = keeps-same s.store
    by (Some o) e = keeps-set s.store a o (with_field classes x v o) e (field-like classes x v o)

pub element-keeps : (at : Val) (k : ℕ) → UseKeeps (put_element at k)
element-keeps Nil k s v = keeps-same s.store
element-keeps (Int z) k s v = keeps-same s.store
element-keeps (Bool b) k s v = keeps-same s.store
element-keeps (Obj a) k s v = by (slice_get s.store a) refl
  where
    by : (o : Option Seen) → slice_get s.store a ≡ o → Keeps s.store ((λ (q : State). q.store)
        (elim o [ None ↦ s | Some o ↦ record s { store = slice_set s.store a (with_element k v o) } ]))
    by None e = keeps-same s.store
    by (Some o) e = keeps-set s.store a o (with_element k v o) e
        (record { class_is = refl; label_is = refl; many = length-slice_set o.fields k v })
