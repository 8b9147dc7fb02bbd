-- Programs with their modules and the bytes of these, computed.
use Rattle.std.proofs.Common.{◌≡◌, refl, pos, true, false, [], ◌∷◌, length, Some, None, codes}
use Rattle.rg_base.specs.declared.ty.Ty.{Ty}
use Rattle.rg_base.specs.declared.ty.Ty.TheVariants as ty
use Rattle.rg_base.specs.declared.words.Cap.TheVariants as cap
use Rattle.rg_base.specs.declared.words.Manager.TheVariants as manager
use Rattle.rg_tree.specs.Tree.{int, bool, number, boolean, value, new, new_tmp, new_iso, result_of, declare, branch, while}
use Rattle.rg_tree.specs.Tree.{enter, print, return, otherwise, Tree}
use Rattle.rg_rules.proofs.Sources.{var, dot, use_of, to, call_of, block, param, field_named, method_named, class_named, program}
use Rattle.rg_module.specs.Follows.{code_for}
use Rattle.rg_module.specs.Spelling.{spelling}
use Rattle.rg_build.specs.Maps.{maps_of}
use Rattle.rg_build.specs.ModuleOf.{module_of}

-- `main arena { print 7; }`: its module has 59 bytes
abbrev seven : Tree
seven = program [] manager.Arena (print (number (pos 7)) ∷ [])

seven-length : length (spelling (module_of seven)) ≡ 59
seven-length = refl

seven-bytes : spelling (module_of seven) ≡
    82 ∷ 71 ∷ 77 ∷ 49 ∷ 0 ∷ 0 ∷ 0 ∷ 0 ∷ 0 ∷ 0 ∷ 0 ∷ 0 ∷ 0 ∷ 0 ∷ 0 ∷ 0 ∷ 6
    ∷ 0 ∷ 0 ∷ 0 ∷ 0 ∷ 0 ∷ 0 ∷ 0 ∷ 0 ∷ 1 ∷ 0 ∷ 0 ∷ 0 ∷ 0
    ∷ 1 ∷ 0 ∷ 0 ∷ 0 ∷ 0 ∷ 0 ∷ 0 ∷ 0 ∷ 7
    ∷ 46
    ∷ 0 ∷ 0 ∷ 0 ∷ 0 ∷ 0 ∷ 0 ∷ 0 ∷ 0 ∷ 1 ∷ 0 ∷ 0 ∷ 0 ∷ 0
    ∷ 45 ∷ 0 ∷ 0 ∷ 0 ∷ 0
    ∷ 50 ∷ []
seven-bytes = refl

abbrev mut_0 : Ty
mut_0 = ty.Ref cap.Mut 0

-- a class with a field between two methods, of which one has a result; main has a loop and an `if`
abbrev counting : Tree
counting = program
    (class_named "R" false
    (method_named cap.Mut "go" (param "k" int ∷ param "b" bool ∷ []) (Some int)
    (declare (codes "r") int (value (use_of "k"))
    ∷ branch (use_of "b") (block (declare (codes "c") bool (value (use_of "b")) ∷ [])) (otherwise (block (print (use_of "r") ∷ [])))
    ∷ return (use_of "r") ∷ [])
    ∷ field_named "v" int
    ∷ method_named cap.Paused "still" [] None (print (number (pos 0)) ∷ []) ∷ []) ∷ [])
    manager.Trace
    (declare (codes "a") (to cap.Mut "R") (new (codes "R") None)
    ∷ while (boolean true) (block (declare (codes "n") int (result_of (call_of (var "a") "go" (number (pos 1) ∷ boolean false ∷ []))) ∷ []))
    ∷ print (number (pos 7)) ∷ [])

counting-parts : ((module_of counting).manager ≡ manager.Trace)
    × ((module_of counting).classes ≡ record { is_tmp = false; fields = ty.Int ∷ []; element = None } ∷ [])
    × ((module_of counting).methods ≡
    record { class = 0; cap = cap.Mut; params = ty.Int ∷ ty.Bool ∷ []; result = Some ty.Int }
    ∷ record { class = 0; cap = cap.Paused; params = []; result = None } ∷ [])
counting-parts = (refl, refl, refl)

-- main: in front of the declaration, of the loop, of what the loop declares, at the end of its block, of `print`, at the end; then `go`: in
-- front of the declaration, of the `if`, within each of its blocks and at their ends, of `return`; then `still`, and its end
counting-maps : maps_of counting ≡
    [] ∷ (mut_0 ∷ []) ∷ (mut_0 ∷ []) ∷ (mut_0 ∷ ty.Int ∷ []) ∷ (mut_0 ∷ []) ∷ (mut_0 ∷ [])
    ∷ (mut_0 ∷ ty.Int ∷ ty.Bool ∷ []) ∷ (mut_0 ∷ ty.Int ∷ ty.Bool ∷ ty.Int ∷ [])
    ∷ (mut_0 ∷ ty.Int ∷ ty.Bool ∷ ty.Int ∷ []) ∷ (mut_0 ∷ ty.Int ∷ ty.Bool ∷ ty.Int ∷ ty.Bool ∷ [])
    ∷ (mut_0 ∷ ty.Int ∷ ty.Bool ∷ ty.Int ∷ []) ∷ (mut_0 ∷ ty.Int ∷ ty.Bool ∷ ty.Int ∷ [])
    ∷ (mut_0 ∷ ty.Int ∷ ty.Bool ∷ ty.Int ∷ [])
    ∷ (ty.Ref cap.Paused 0 ∷ []) ∷ (ty.Ref cap.Paused 0 ∷ []) ∷ []
counting-maps = refl

-- the rest of its code follows from its classes, heads and instructions
counting-follows : (module_of counting).code ≡ code_for (module_of counting).classes (module_of counting).methods (module_of counting).code.ops
counting-follows = refl

-- an array class, a tmp class, and a window in which another bridge is given
abbrev handing : Tree
handing = program
    (class_named "N" false (field_named "v" int ∷ field_named "w" (to cap.Iso "N") ∷ [])
    ∷ record { name = codes "A"; is_tmp = true; element = Some (to cap.Paused "N"); members = []; line = 1 } ∷ [])
    manager.Count
    (declare (codes "y") (to cap.Iso "N") (new_iso (codes "N") None manager.Trace)
    ∷ enter (var "y") (codes "z")
    (block (declare (codes "w") (to cap.Mut "N") (new (codes "N") None)
    ∷ enter (dot "w" "w") (codes "u") (block []) None ∷ [])) (Some (codes "w"))
    ∷ declare (codes "a") (to cap.Tmp "A") (new_tmp (codes "A") (Some (number (pos 2)))) ∷ [])

handing-classes : (module_of handing).classes ≡
    record { is_tmp = false; fields = ty.Int ∷ ty.Ref cap.Iso 0 ∷ []; element = None }
    ∷ record { is_tmp = true; fields = []; element = Some (ty.Ref cap.Paused 0) } ∷ []
handing-classes = refl

-- in front of the first declaration, of `enter`, of what stands in it, within the inner window at its end, at the end of the outer one, of
-- the last declaration, at the end
handing-maps : maps_of handing ≡
    [] ∷ (ty.Ref cap.Iso 0 ∷ [])
    ∷ (ty.Ref cap.Iso 0 ∷ mut_0 ∷ []) ∷ (ty.Ref cap.Iso 0 ∷ mut_0 ∷ mut_0 ∷ []) ∷ (ty.Ref cap.Iso 0 ∷ mut_0 ∷ mut_0 ∷ mut_0 ∷ [])
    ∷ (ty.Ref cap.Iso 0 ∷ mut_0 ∷ mut_0 ∷ [])
    ∷ (ty.Ref cap.Iso 0 ∷ []) ∷ (ty.Ref cap.Iso 0 ∷ ty.Ref cap.Tmp 1 ∷ []) ∷ []
handing-maps = refl

handing-follows : (module_of handing).code ≡ code_for (module_of handing).classes (module_of handing).methods (module_of handing).code.ops
handing-follows = refl
