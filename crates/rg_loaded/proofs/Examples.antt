-- What loads leave, computed (docs/architecture.md, "Cargo" and "Images").
use Rattle.std.proofs.Common.{◌≡◌, refl, pos, [], ◌∷◌, Some, None}
use Rattle.rg_base.specs.declared.words.Manager.TheVariants.{Arena, Count, Trace}
use Rattle.rg_base.specs.declared.object.Label.TheVariants.{Region, Frozen}
use Rattle.rg_base.specs.declared.value.Val.TheVariants.{Nil, Int, Obj}
use Rattle.rg_base.specs.declared.value.Word.TheVariants as word
use Rattle.rg_cells.specs.Table.{Heap}
use Rattle.rg_regions.specs.Table.{RegionTable}
use Rattle.rg_cown.specs.Cargo.{CargoList, SoundCargo}
use Rattle.rg_cown.specs.Contents.{cargo_at, read_on}
use Rattle.rg_image.specs.ImageText.{image_text}

-- an object with a number, alone in an arena
abbrev one : CargoList
one = record { cells = record { class = 0; label = Region 0; fields = Int (pos 2) ∷ [] } ∷ []; managers = Arena ∷ [] }

-- it was loaded into slot 1, which was free, as region 3
abbrev one-heap : Heap
one-heap = record {
  slots = None ∷ Some (Some (record { class = 0; label = Region 3; serial = 4; fields = word.Int (pos 2) ∷ [] })) ∷ [];
  next = 5;
}

abbrev one-regions : RegionTable
one-regions = record {
  records = Some (record { number = 3; manager = Arena; members = 1 ∷ []; bridge = Some 1; room = 0 }) ∷ [];
  links = [];
  next = 4;
}

one-back : cargo_at one-heap one-regions 1 ≡ one
unfolding read_on
one-back = refl

-- its image is the 52 bytes that it was read from
one-image : image_text (Some (cargo_at one-heap one-regions 1)) ≡ 82 ∷ 71 ∷ 73 ∷ 49 ∷ 1
    ∷ 0 ∷ 0 ∷ 0 ∷ 0 ∷ 0 ∷ 0 ∷ 0 ∷ 1 ∷ 0
    ∷ 0 ∷ 0 ∷ 0 ∷ 0 ∷ 0 ∷ 0 ∷ 0 ∷ 1
    ∷ 0 ∷ 0 ∷ 0 ∷ 0
    ∷ 0 ∷ 0 ∷ 0 ∷ 0 ∷ 0 ∷ 0 ∷ 0 ∷ 0 ∷ 0
    ∷ 0 ∷ 0 ∷ 0 ∷ 0 ∷ 0 ∷ 0 ∷ 0 ∷ 1
    ∷ 1 ∷ 0 ∷ 0 ∷ 0 ∷ 0 ∷ 0 ∷ 0 ∷ 0 ∷ 2 ∷ []
unfolding read_on
one-image = refl

-- two regions, a frozen object, and an object that leads to itself
abbrev rich : CargoList
rich = record {
  cells = record { class = 5; label = Region 0; fields = Obj 1 ∷ Obj 2 ∷ Obj 0 ∷ [] }
      ∷ record { class = 2; label = Frozen; fields = Int (pos 2) ∷ [] }
      ∷ record { class = 1; label = Region 1; fields = Nil ∷ [] } ∷ [];
  managers = Trace ∷ Count ∷ [];
}

rich-sound : SoundCargo rich
rich-sound = refl

-- its objects were loaded into slots 3, 4 and 0, and its regions under keys 2 and 1, beside a cell that was held
abbrev rich-heap : Heap
rich-heap = record {
  slots = Some (Some (record { class = 1; label = Region 8; serial = 8; fields = word.Nil ∷ [] }))
      ∷ Some None
      ∷ Some (Some (record { class = 2; label = Region 0; serial = 0; fields = word.Slot 3 ∷ [] }))
      ∷ Some (Some (record { class = 5; label = Region 7; serial = 6; fields = word.Slot 4 ∷ word.Slot 0 ∷ word.Slot 3 ∷ [] }))
      ∷ Some (Some (record { class = 2; label = Frozen; serial = 7; fields = word.Int (pos 2) ∷ [] })) ∷ [];
  next = 9;
}

abbrev rich-regions : RegionTable
rich-regions = record {
  records = Some (record { number = 0; manager = Arena; members = 2 ∷ []; bridge = None; room = 0 })
      ∷ Some (record { number = 8; manager = Count; members = 0 ∷ []; bridge = Some 0; room = 0 })
      ∷ Some (record { number = 7; manager = Trace; members = 3 ∷ []; bridge = Some 3; room = 0 }) ∷ [];
  links = [];
  next = 9;
}

rich-back : cargo_at rich-heap rich-regions 3 ≡ rich
unfolding read_on
rich-back = refl
