-- A heap on which a behaviour's object is held, written out.
use Rattle.std.proofs.Common.{◌≡◌, zero, suc, refl, ◌∙◌, ap, [], ◌∷◌, Some, None}
use Rattle.std.proofs.lemmas.Option.{none-some, same_Some}
use Rattle.rg_base.specs.declared.words.Manager.{Manager}
use Rattle.rg_base.specs.declared.words.Manager.TheVariants.{Arena, Count}
use Rattle.rg_base.specs.declared.object.Label.{Label}
use Rattle.rg_base.specs.declared.object.Label.TheVariants.{Region}
use Rattle.rg_cells.specs.declared.cell.Body.{Body}
use Rattle.rg_regions.specs.Table.{Record}
use Rattle.rg_machine.specs.Parts.{Parts}
use Rattle.rg_step.specs.Behaviours.{HasManager, HoldsFirst}
use Rattle.rg_step.specs.Stepping.{nothing}

abbrev body : Label → Body
body l = record { serial = 0; class = 4; label = l; fields = [] }

abbrev zeroth : Manager → Record
zeroth m = record { number = 0; manager = m; members = 1 ∷ []; bridge = None; room = 0 }

-- the first object lies at slot 1, under a label, and region 0 has a manager; at slot 0 an object was freed
abbrev parts : Label → Manager → Parts
parts l m = record nothing {
  heap = record {
    cells = record { heap = record { slots = Some None ∷ Some (Some (body l)) ∷ []; next = 2 }; marks = 0 ∷ 0 ∷ []; links = None ∷ None ∷ [] };
    regions = record { records = Some (zeroth m) ∷ []; links = None ∷ []; next = 1 };
  };
}

held : HoldsFirst (parts (Region 0) Arena)
held = record { slot = 1; first = (body (Region 0), refl, refl); lies = refl; arena = (0, zeroth Arena, refl, refl, refl) }

-- where region 0 counts it isn't
no-arena : HasManager (parts (Region 0) Count).heap.regions 0 Arena → ⊥
no-arena (zero, r, at, is, manager) = never (ap (λ (x : Record). x.manager) (same_Some (zeroth Count) r at) ∙ manager)
  where
    never : Count ≡ Arena → ⊥
    never e = cc
no-arena (suc key, r, at, is, manager) = none-some r at

not-counted : HoldsFirst (parts (Region 0) Count) → ⊥
not-counted f = no-arena f.arena
