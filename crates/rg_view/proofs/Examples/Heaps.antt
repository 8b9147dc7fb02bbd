-- Two held cells, a slot that was freed and taken again, and a region that is gone.
use Rattle.std.proofs.Common.{◌≡◌, refl, [], ◌∷◌, Some, None, true}
use Rattle.rg_base.specs.declared.object.Label.TheVariants.{Region, Frozen}
use Rattle.rg_base.specs.declared.words.Manager.TheVariants.{Arena, Count, Trace}
use Rattle.rg_base.specs.declared.value.Val.TheVariants as val
use Rattle.rg_base.specs.declared.value.Word.TheVariants as word
use Rattle.rg_cells.specs.Table.{Heap}
use Rattle.rg_regions.specs.Table.{RegionTable}
use Rattle.rg_frames.specs.Stack.{Stack}
use Rattle.rg_frames.specs.Changes.{begun, pushed_of, opened}
use Rattle.rg_heap.specs.Parts.{Parts}
use Rattle.rg_base.specs.declared.object.Place.TheVariants as place
use Rattle.rg_view.specs.View.{store_of, machine_of}
use Rattle.rg_held.specs.Gone.{gone}

-- serials 0 and 1 were made, then 1 was freed and its slot taken again by 2
abbrev small : Heap
small = record {
  slots =
      Some (Some (record { class = 3; label = Region 0; serial = 0; fields = word.Slot 1 ∷ word.Nil ∷ [] }))
      ∷ Some (Some (record { class = 4; label = Frozen; serial = 2; fields = word.Bool true ∷ [] }))
      ∷ Some None ∷ [];
  next = 4;
}

store_there : store_of small ≡ record { class = 3; fields = val.Obj 2 ∷ val.Nil ∷ []; label = Region 0 } ∷ gone
    ∷ record { class = 4; fields = val.Bool true ∷ []; label = Frozen } ∷ gone ∷ []
store_there = refl

-- region 1 is gone, and region 2 has its key
abbrev regions : RegionTable
regions = record {
  records =
      Some (record { number = 0; manager = Trace; members = 0 ∷ []; bridge = None; room = 1 })
      ∷ Some (record { number = 2; manager = Count; members = []; bridge = None; room = 0 }) ∷ [];
  links = None ∷ None ∷ [];
  next = 3;
}

abbrev both : Parts
both = record { cells = record { heap = small; marks = 0 ∷ 0 ∷ 0 ∷ []; links = None ∷ None ∷ None ∷ [] }; regions = regions }

-- main with one slot, a method with two, and a window on region 2
abbrev stack : Stack
stack = opened (pushed_of (begun 0 1) 7 (word.Slot 0 ∷ word.Slot 1 ∷ [])) 1 (place.Var 0 0) 2

machine_there : machine_of both stack 5 ≡ record {
  store = store_of small;
  frames = record { slots = val.Obj 0 ∷ val.Obj 2 ∷ []; back = 7 } ∷ record { slots = val.Nil ∷ []; back = 0 } ∷ [];
  windows =
      record { number = 1; region = 2; owner = Some (place.Var 0 0); base = 2 }
      ∷ record { number = 0; region = 0; owner = None; base = 0 } ∷ [];
  managers = Trace ∷ Arena ∷ Count ∷ [];
  windows_made = 2;
  at = 5;
}
machine_there = refl
