-- Where items begin: behind the first block of an `if` in a loop, at the ends of windows and methods, and at a `return`.
use Rattle.std.proofs.Common.{refl, [], ◌∷◌, Some, None, codes}
use Rattle.rg_base.specs.declared.words.Cap.TheVariants as cap
use Rattle.rg_base.specs.declared.ty.Ty.TheVariants as ty
use Rattle.rg_tree.specs.Tree.{path, value, new_iso, freeze, more, declare, assign, call, enter, print, collect, return, stmt, then, empty}
use Rattle.rg_base.specs.declared.words.Manager.TheVariants as manager
use Rattle.rg_rules.specs.Items.{Do, EndAt, LeaveAt, Back}
use Rattle.rg_rules.specs.State.{Declares, Drops}
use Rattle.rg_code.specs.Lowering.{Scope, lowered}
use Rattle.rg_code.specs.Places.{Level, Lies}
use Rattle.rg_rules.proofs.Sources.{var, dot, dots, use_of, to, call_of}
use Rattle.rg_code.proofs.Examples.Calls.{recursion}
use Rattle.rg_code.proofs.Examples.Windows.{regions}
use Rattle.rg_code.proofs.Examples.Loops.{loop, merging}

-- `t`, `y` and `go` in their slots
abbrev three : Scope
three = record { name = Some (codes "t"); ty = ty.Ref cap.Tmp 1 } ∷ record { name = Some (codes "y"); ty = ty.Ref cap.Iso 0 }
    ∷ record { name = Some (codes "go"); ty = ty.Bool } ∷ []

-- main's frame with these variables
abbrev main_level : Scope → Level
main_level scope = record { scope = scope; slots = 4; target = Drops; back = 0 }

-- the first block of the `if` ends at 22, and the code goes on behind the `else`
first_block_ends : Lies merging.classes (lowered merging).ops (main_level three ∷ [])
    (EndAt 3
    ∷ Do (stmt 21 (assign (var "y") (new_iso (codes "N") None manager.Trace)))
    ∷ Do (stmt 22 (assign (var "go") more))
    ∷ EndAt 3
    ∷ Do (stmt 14 loop)
    ∷ Do (stmt 24 (call (call_of (var "t") "take" (use_of "y" ∷ []))))
    ∷ Do (stmt 25 collect)
    ∷ EndAt 0 ∷ [])
    22
first_block_ends =
    (refl, refl, ((refl, refl), ((refl, refl), (refl, refl, ((refl, refl), ((refl, refl), ((refl, refl), (refl, refl, refl))))))))

-- `return` stands at 39; what it gives is stored at 13, and main goes on behind
result_is_taken : Lies recursion.classes (lowered recursion).ops
    (record {
      scope = record { name = None; ty = ty.Ref cap.Mut 0 } ∷ record { name = Some (codes "k"); ty = ty.Int }
          ∷ record { name = Some (codes "r"); ty = ty.Int } ∷ [];
      slots = 3;
      target = Declares (codes "r") ty.Int;
      back = 13;
    }
    ∷ record {
      scope = record { name = Some (codes "a"); ty = ty.Ref cap.Mut 0 } ∷ record { name = Some (codes "n"); ty = ty.Int } ∷ [];
      slots = 3;
      target = Drops;
      back = 0;
    } ∷ [])
    (Do (stmt 7 (return (use_of "r"))) ∷ Do (stmt 14 (print (use_of "r"))) ∷ EndAt 0 ∷ [])
    39
result_is_taken = ((refl, refl), ((refl, refl), ((refl, refl), (refl, refl, refl))))

-- the end of the block of an `enter` stands at 27, and the items behind it at 29
window_ends : Lies regions.classes (lowered regions).ops
    (record {
      scope = record { name = Some (codes "y"); ty = ty.Ref cap.Iso 0 } ∷ record { name = Some (codes "w"); ty = ty.Ref cap.Iso 0 }
          ∷ record { name = Some (codes "z"); ty = ty.Ref cap.Mut 0 } ∷ record { name = Some (codes "q"); ty = ty.Ref cap.Mut 0 } ∷ [];
      slots = 4;
      target = Drops;
      back = 0;
    } ∷ [])
    (LeaveAt 3
    ∷ LeaveAt 2
    ∷ Do (stmt 21 (assign (var "w") (value (use_of "y"))))
    ∷ Do (stmt 22 (declare (codes "f") (to cap.Imm "N") (freeze (codes "w"))))
    ∷ Do (stmt 23 (print (path (dots "f" "down" "v")))) ∷ EndAt 0 ∷ [])
    27
window_ends = (refl, refl, (refl, refl, ((refl, refl), ((refl, refl), ((refl, refl), (refl, refl, refl))))))

-- a method without a result ends at 51, and main goes on at 18
method_ends : Lies regions.classes (lowered regions).ops
    (record {
      scope = record { name = None; ty = ty.Ref cap.Mut 0 } ∷ record { name = Some (codes "k"); ty = ty.Int } ∷ [];
      slots = 2;
      target = Drops;
      back = 18;
    }
    ∷ record {
      scope = record { name = Some (codes "y"); ty = ty.Ref cap.Iso 0 } ∷ record { name = Some (codes "w"); ty = ty.Ref cap.Iso 0 }
          ∷ record { name = Some (codes "z"); ty = ty.Ref cap.Mut 0 } ∷ [];
      slots = 4;
      target = Drops;
      back = 0;
    } ∷ [])
    (Back
    ∷ Do (stmt 17 (enter (dot "z" "down") (codes "q") (then (stmt 18 (call (call_of (var "q") "get" []))) empty) None))
    ∷ LeaveAt 2
    ∷ Do (stmt 21 (assign (var "w") (value (use_of "y"))))
    ∷ Do (stmt 22 (declare (codes "f") (to cap.Imm "N") (freeze (codes "w"))))
    ∷ Do (stmt 23 (print (path (dots "f" "down" "v")))) ∷ EndAt 0 ∷ [])
    51
method_ends = (refl, refl, refl, ((refl, refl), (refl, refl, ((refl, refl), ((refl, refl), ((refl, refl), (refl, refl, refl)))))))
