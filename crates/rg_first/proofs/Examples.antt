-- The object of a behaviour, in states that are written out.
use Rattle.std.proofs.Common.{◌≡◌, refl, ap, ◌∙◌, ℕ, List, [], ◌∷◌, None, pos, false, codes, unwrap_or}
use Rattle.rg_base.specs.declared.words.Cap.TheVariants.{Mut, Iso}
use Rattle.rg_base.specs.declared.words.Manager.TheVariants.{Arena}
use Rattle.rg_base.specs.declared.object.Label.TheVariants.{Region, Frozen}
use Rattle.rg_base.specs.declared.object.Seen.{Seen}
use Rattle.rg_base.specs.declared.value.Val.TheVariants.{Int, Obj}
use Rattle.rg_tree.specs.Tree.{int, Method, stmt, collect, empty as none, then as next, Class}
use Rattle.rg_rules.specs.State.{State}
use Rattle.rg_rules.proofs.Sources.{to, field_named, method_named, class_named}
use Rattle.rg_cown.specs.Cargo.{CargoList}
use Rattle.rg_opening.specs.declared.given.Given.TheVariants.{Held}
use Rattle.rg_opening.specs.Opening.{opening_of}
use Rattle.rg_first.specs.First.{IsFirst}

-- class N { v: int; }
-- class A { n: iso N; def mut m() { collect; } }
abbrev classes : List Class
classes = class_named "N" false (field_named "v" int ∷ [])
    ∷ class_named "A" false (field_named "n" (to Iso "N") ∷ method_named Mut "m" [] None (collect ∷ []) ∷ []) ∷ []

-- `def mut m() { collect; }`
abbrev collects : Method
collects = record { receiver = Mut; name = codes "m"; params = []; result = None; body = next (stmt 1 collect) none; line = 1 }

-- an N with 2, in an arena
abbrev small : CargoList
small = record { cells = record { class = 0; label = Region 0; fields = Int (pos 2) ∷ [] } ∷ []; managers = Arena ∷ [] }

abbrev begins : State
begins = opening_of 1 collects (Held small ∷ [])

-- an A that owns the N
first-example : IsFirst classes 1 begins
first-example = record {
  object = record { class = 1; fields = Obj 1 ∷ []; label = Region 0 };
  there = refl;
  class_is = refl;
  label_is = refl;
  many = refl;
}

-- it is no N, and it isn't there any more where it was frozen
not-n : IsFirst classes 0 begins → ⊥
not-n f = let one : ◌≡◌ {A = ℕ} 1 0 = ap (λ o. (unwrap_or o f.object).class) f.there ∙ f.class_is in absurd cc

abbrev frozen_object : Seen
frozen_object = record { class = 1; fields = Obj 1 ∷ []; label = Frozen }

abbrev frozen_state : State
frozen_state = record begins { store = frozen_object ∷ [] }

frozen-not : IsFirst classes 1 frozen_state → ⊥
frozen-not f = let one : Frozen ≡ Region 0 = ap (λ o. (unwrap_or o f.object).label) f.there ∙ f.label_is in absurd cc
