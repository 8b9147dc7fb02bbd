-- Bodies with their numbers, computed.
use Rattle.std.proofs.Common.{◌≡◌, ℕ, pos, false, List, [], ◌∷◌, Some, None, codes, refl}
use Prim.Native.String.{String}
use Rattle.std.specs.Fmt.{digits}
use Rattle.rg_base.specs.declared.words.Cap.TheVariants as cap
use Rattle.rg_base.specs.declared.words.Manager.TheVariants as manager
use Rattle.rg_base.specs.declared.ty.Ty.TheVariants as ty
use Rattle.rg_tree.specs.Tree as tree
use Rattle.rg_tree.specs.Tree.{Class, Method, Block, StmtKind, stmt, then as next, field, method}
use Rattle.rg_code.specs.Lowering.{method_scope}
use Rattle.rg_verify_expressions.specs.Raised.{number, path}
use Rattle.rg_verify_expressions.specs.Statements as numbers
use Rattle.rg_verify_expressions.specs.Found.{block_named}
use Rattle.rg_numbered.specs.Numbered.{numbered_block}
use Rattle.rg_numbered.specs.ModuleNames.{HasModuleNames}

-- statements that all stand on line 2
abbrev in_line : List StmtKind → Block
in_line [] = tree.empty
in_line (k ∷ ks) = next (stmt 2 k) (in_line ks)

abbrev numbers_in_line : List numbers.Kind → numbers.Block
numbers_in_line [] = numbers.empty
numbers_in_line (k ∷ ks) = numbers.next 2 k (numbers_in_line ks)

abbrev at_v : String → List (List ℕ) → tree.Path
at_v x fs = record { base = Some (codes x); fields = fs }

-- `def mut m0(v1: int): int { return v1; }`
abbrev gives : Method
gives = record {
  receiver = cap.Mut;
  name = codes "m0";
  params = record { name = codes "v1"; ty = tree.int } ∷ [];
  result = Some tree.int;
  body = in_line (tree.return (tree.path (at_v "v1" [])) ∷ []);
  line = 1;
}

-- `class c0 { f0: int; f1: iso c0; def mut m0(v1: int): int { return v1; } }`
abbrev classes : List Class
classes = record {
  name = codes "c0";
  is_tmp = false;
  element = None;
  members =
      field (record { name = codes "f0"; ty = tree.int; line = 1 })
      ∷ field (record { name = codes "f1"; ty = tree.ref cap.Iso (codes "c0"); line = 1 })
      ∷ method gives ∷ [];
  line = 1;
} ∷ []

-- `let v0: iso c0 = new iso c0 in trace; enter v0 as v1 { v1.f0 = 7; let v2: int = call v1.m0(v1.f0); enter v1.f1 as v3 { print v2; } }`
abbrev body : Block
body = in_line (
    tree.declare (codes "v0") (tree.ref cap.Iso (codes "c0")) (tree.new_iso (codes "c0") None manager.Trace)
    ∷ tree.enter (at_v "v0" []) (codes "v1") (in_line (
    tree.assign (at_v "v1" (codes "f0" ∷ [])) (tree.value (tree.number (pos 7)))
    ∷ tree.declare (codes "v2") tree.int (tree.result_of (record {
      target = at_v "v1" [];
      method = codes "m0";
      args = tree.path (at_v "v1" (codes "f0" ∷ [])) ∷ [];
    }))
    ∷ tree.enter (at_v "v1" (codes "f1" ∷ [])) (codes "v3") (in_line (tree.print (tree.path (at_v "v2" [])) ∷ [])) None ∷ []
    )) None ∷ []
    )

abbrev numbers_of_body : numbers.Block
numbers_of_body = numbers_in_line (
    numbers.declare (ty.Ref cap.Iso 0) (numbers.new_iso 0 None manager.Trace)
    ∷ numbers.enter 0 0 (numbers_in_line (
    numbers.write 1 [] 0 (numbers.value (number (pos 7)))
    ∷ numbers.declare ty.Int (numbers.result_of (record {
      slot = 1;
      fields = [];
      callee = record { number = 0; place = 0; result = Some ty.Int };
      args = path 1 (0 ∷ []) ∷ [];
    }))
    ∷ numbers.enter_field 1 [] 1 0 (numbers_in_line (numbers.print (path 2 []) ∷ [])) None ∷ []
    )) None ∷ []
    )

body-numbered : numbered_block classes [] body ≡ numbers_of_body
body-numbered = refl

body-named : block_named false 0 numbers_of_body ≡ body
unfolding digits
body-named = refl

-- the body of the method, behind `self` and a parameter
gives-numbered : numbered_block classes (method_scope classes 0 gives) gives.body ≡ numbers_in_line (numbers.return (path 1 []) ∷ [])
gives-numbered = refl

-- the names of the program are those of a module
has-names : HasModuleNames (record { classes = classes; manager = manager.Trace; body = body; line = 9 })
unfolding digits
has-names = record {
  classes = (refl, tt);
  members = (
    record {
      fields = (refl, (refl, tt));
      methods = (refl, tt);
      bodies = (record { params = (refl, tt); body = (tt, tt) }, tt);
    },
    tt,
  );
  main = (refl, ((refl, (tt, (refl, ((refl, (tt, tt)), tt)))), tt));
}
