-- What the fields of an object own, in a state that is written out.
use Rattle.std.proofs.Common.{◌≡◌, ℕ, refl, sym, ◌∙◌, ap, [], ◌∷◌, Some, None, pos, slice_get}
use Rattle.std.proofs.lemmas.Option.{same_Some}
use Rattle.rg_base.specs.declared.words.Manager.TheVariants.{Arena, Count, Trace}
use Rattle.rg_base.specs.declared.object.Label.TheVariants.{Region, Frozen}
use Rattle.rg_base.specs.declared.object.Seen.{Seen}
use Rattle.rg_base.specs.declared.value.Val.TheVariants.{Nil, Int, Obj}
use Rattle.rg_rules.specs.State.{State}
use Rattle.rg_cown.specs.Contents.{cargo_of, read_on}
use Rattle.rg_cown.specs.Cargo.{CargoList}
use Rattle.rg_content.specs.Fields.{IsContent}

-- an object with two fields, of which one owns a region that owns another one
abbrev object : Seen
object = record { class = 2; fields = Obj 2 ∷ Nil ∷ []; label = Region 0 }

abbrev state : State
state = record {
  store = object ∷ record { class = 0; fields = Int (pos 7) ∷ []; label = Region 3 }
      ∷ record { class = 1; fields = Obj 1 ∷ Obj 3 ∷ []; label = Region 1 } ∷ record { class = 0; fields = Int (pos 9) ∷ []; label = Frozen } ∷ [];
  frames = [];
  windows = [];
  managers = Arena ∷ Trace ∷ Arena ∷ Count ∷ [];
  windows_made = 1;
  items = [];
  input = [];
  output = [];
}

abbrev owned : CargoList
owned = record {
  cells = record { class = 1; label = Region 0; fields = Obj 1 ∷ Obj 2 ∷ [] } ∷ record { class = 0; label = Region 1; fields = Int (pos 7) ∷ [] }
      ∷ record { class = 0; label = Frozen; fields = Int (pos 9) ∷ [] } ∷ [];
  managers = Trace ∷ Count ∷ [];
}

owned-is : cargo_of state.store state.managers 2 ≡ owned
unfolding read_on
owned-is = refl

first-field : IsContent state 0 0 (Some owned)
first-field = (2, (object, refl, refl), sym owned-is)

second-field : IsContent state 0 1 None
second-field = (object, refl, refl)

-- where a region is owned there is a content
not-nothing : IsContent state 0 0 None → ⊥
not-nothing h = never (sym h.2 ∙ ap (λ (o : Seen). slice_get o.fields 0) (sym (same_Some object h.0 h.1)))
  where
    never : Some Nil ≡ Some (Obj 2) → ⊥
    never e = cc

-- and at nil there is none
not-something : IsContent state 0 1 (Some owned) → ⊥
not-something h = never h.0 (sym h.1.2 ∙ ap (λ (o : Seen). slice_get o.fields 1) (sym (same_Some object h.1.0 h.1.1)))
  where
    never : (b : ℕ) → Some (Obj b) ≡ Some Nil → ⊥
    never b e = cc
