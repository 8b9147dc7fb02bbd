-- A state in which a behaviour begins, written out.
use Rattle.std.proofs.Common.{◌≡◌, refl, List, [], ◌∷◌, None, pos}
use Rattle.rg_base.specs.declared.words.Cap.TheVariants.{Mut}
use Rattle.rg_base.specs.declared.words.Manager.TheVariants.{Arena, Count, Trace}
use Rattle.rg_base.specs.declared.object.Label.TheVariants.{Region, Frozen}
use Rattle.rg_base.specs.declared.value.Val.TheVariants.{Nil, Int, Obj}
use Rattle.rg_tree.specs.Tree.{Method, stmt, collect, empty as none, then as next}
use Rattle.rg_rules.specs.Items.{Do, EndAt, Back}
use Rattle.rg_cown.specs.Cargo.{CargoList}
use Rattle.rg_opening.specs.declared.given.Given.{Given}
use Rattle.rg_opening.specs.declared.given.Given.TheVariants.{Start, Held}
use Rattle.rg_opening.specs.Opening.{opening_of}

-- an object with a number, in an arena
abbrev small : CargoList
small = record { cells = record { class = 0; label = Region 0; fields = Int (pos 2) ∷ [] } ∷ []; managers = Arena ∷ [] }

-- an object with one of its own region, one of a region beneath it, and a frozen one
abbrev rich : CargoList
rich = record {
  cells = record { class = 1; label = Region 0; fields = Obj 1 ∷ Obj 2 ∷ Obj 3 ∷ [] }
      ∷ record { class = 1; label = Region 0; fields = Nil ∷ Nil ∷ Nil ∷ [] } ∷ record { class = 0; label = Region 1; fields = Int (pos 7) ∷ [] }
      ∷ record { class = 0; label = Frozen; fields = Int (pos 9) ∷ [] } ∷ [];
  managers = Trace ∷ Count ∷ [];
}

abbrev given : List Given
given = Held small ∷ Start (Int (pos 0)) ∷ Held rich ∷ Start Nil ∷ []

-- `def mut m() { collect; }`
abbrev collects : Method
collects = record { receiver = Mut; name = []; params = []; result = None; body = next (stmt 5 collect) none; line = 4 }

-- the contents stand behind the behaviour's object, and their regions behind region 0
store-example : (opening_of 3 collects given).store
    ≡ record { class = 3; fields = Obj 1 ∷ Int (pos 0) ∷ Obj 2 ∷ Nil ∷ []; label = Region 0 }
    ∷ record { class = 0; fields = Int (pos 2) ∷ []; label = Region 1 }
    ∷ record { class = 1; fields = Obj 3 ∷ Obj 4 ∷ Obj 5 ∷ []; label = Region 2 }
    ∷ record { class = 1; fields = Nil ∷ Nil ∷ Nil ∷ []; label = Region 2 }
    ∷ record { class = 0; fields = Int (pos 7) ∷ []; label = Region 3 }
    ∷ record { class = 0; fields = Int (pos 9) ∷ []; label = Frozen } ∷ []
store-example = refl

managers-example : (opening_of 3 collects given).managers ≡ Arena ∷ Arena ∷ Trace ∷ Count ∷ []
managers-example = refl

-- the method's body, its end, and main's end
items-example : (opening_of 3 collects given).items ≡ Do (stmt 5 collect) ∷ Back ∷ EndAt 0 ∷ []
items-example = refl
