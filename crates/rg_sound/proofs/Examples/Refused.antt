-- Programs that would break a part of the invariant, or write where they mayn't: what the checker says of each
-- (docs/language.md, "What always holds").
use Rattle.std.proofs.Common.{◌≡◌, refl, true, List, [], ◌∷◌, Some, None, codes, pos}
use Rattle.rg_base.specs.declared.fault.Code.TheVariants as code
use Rattle.rg_base.specs.declared.words.Cap.TheVariants as cap
use Rattle.rg_base.specs.declared.words.Manager.TheVariants as manager
use Rattle.rg_tree.specs.Tree.{int, boolean, nil, number, value, new, new_iso, StmtKind, declare, assign, swap, branch, no_else, enter, return, Tree}
use Rattle.rg_rules.specs.Acceptance.{first_fault}
use Rattle.rg_rules.proofs.Sources.{var, dot, use_of, to, field_named}
use Rattle.rg_sound.proofs.Examples.Programs.{lines, class_named, method_named}

-- class N { v: int; next: mut N; down: iso N; } main arena { let a: mut N = new N; let y: iso N = new iso N in trace; .. }
abbrev with_body : List StmtKind → Tree
with_body ks = record {
  classes = class_named "N" (field_named "v" int ∷ field_named "next" (to cap.Mut "N") ∷ field_named "down" (to cap.Iso "N") ∷ []) ∷ [];
  manager = manager.Arena;
  line = 1;
  body = lines 2
      (declare (codes "a") (to cap.Mut "N") (new (codes "N") None) ∷ declare (codes "y") (to cap.Iso "N") (new_iso (codes "N") None manager.Trace) ∷
      ks);
}

-- `enter y as z { .. }`, whose body begins at line 10
abbrev within : StmtKind → List StmtKind
within k = enter (var "y") (codes "z") (lines 10 (k ∷ [])) None ∷ []

-- frames: a method goes back from inside a block
back_early : first_fault (record (with_body []) {
  classes = class_named "N" (method_named cap.Paused "get" [] (Some int)
      (lines 10 (branch (boolean true) (lines 20 (return (number (pos 1)) ∷ [])) no_else ∷ [])) ∷ []) ∷ [];
  body = lines 2 [];
}) ≡ Some (record { code = code.Return; line = 20 })
back_early = refl

-- values: a variable from outside takes a reference into the region
taken_out : first_fault (with_body (within (assign (var "a") (value (use_of "z"))))) ≡ Some (record { code = code.OutsideWindow; line = 10 })
taken_out = refl

-- objects: a `mut` field takes a reference into another region
led_out : first_fault (with_body (within (assign (dot "z" "next") (value (use_of "a"))))) ≡ Some (record { code = code.Mismatch; line = 10 })
led_out = refl

-- open regions: the owner of one is written
owner_lost : first_fault (with_body (within (assign (var "y") (value nil)))) ≡ Some (record { code = code.Unavailable; line = 10 })
owner_lost = refl

-- the forest: a region gets two owners
owned_twice : first_fault (with_body (declare (codes "w") (to cap.Iso "N") (value (use_of "y"))
    ∷ declare (codes "u") (to cap.Iso "N") (value (use_of "y")) ∷ [])) ≡ Some (record { code = code.Unavailable; line = 5 })
owned_twice = refl

-- the forest: a region hangs beneath itself
owns_itself : first_fault (with_body (within (swap (codes "y") (dot "z" "down")))) ≡ Some (record { code = code.Unavailable; line = 10 })
owns_itself = refl

-- an object of the region beneath is written
written_beneath : first_fault (with_body (within (assign (dot "a" "v") (value (number (pos 1))))))
    ≡ Some (record { code = code.Capability; line = 10 })
written_beneath = refl
