-- Blocks with their code and their names, and told from their code, computed.
use Rattle.std.proofs.Common.{◌≡◌, ℕ, pos, false, true, List, [], ◌∷◌, ◌++◌, replicate, Some, None, codes, refl, arith}
use Prim.Native.String.{String}
use Rattle.std.proofs.lemmas.Bool.{false≢true}
use Rattle.std.specs.Fmt.{digits}
use Rattle.rg_base.specs.declared.words.Cap.TheVariants as cap
use Rattle.rg_base.specs.declared.words.Manager.TheVariants as manager
use Rattle.rg_base.specs.declared.ty.Ty.{Ty}
use Rattle.rg_base.specs.declared.ty.Ty.TheVariants as ty
use Rattle.rg_tree.specs.declared.rows.BinOp.TheVariants as op
use Rattle.rg_tree.specs.Tree as tree
use Rattle.rg_tree.specs.Tree.{Class, field, method}
use Rattle.rg_code.specs.declared.op.Op.{Op}
use Rattle.rg_code.specs.declared.op.Op.TheVariants as i
use Rattle.rg_code.specs.Lowering.{method_scope}
use Rattle.rg_verify_expressions.specs.Raised.{number, path, nil, is_nil, size, element, binary}
use Rattle.rg_verify_expressions.specs.declared.callee.Callee.{Callee}
use Rattle.rg_verify_expressions.specs.Statements.{value, new, new_tmp, new_iso, freeze, result_of, Kind, declare, assign, write, write_element, call}
use Rattle.rg_verify_expressions.specs.Statements.{swap, branch, while, enter, enter_field, print, collect, return, no_else, otherwise, Block, empty}
use Rattle.rg_verify_expressions.specs.Statements.{next, block_ops}
use Rattle.rg_verify_expressions.specs.Found.{block_named, IsBlockFound}
use Rattle.rg_verify_expressions.specs.Raising.{walk, raised}
use Rattle.rg_verify_expressions.specs.Blocks.{Given, block_told}
use Rattle.rg_verify_expressions.specs.Standing.{block_depth, BlockStand}

-- statements that all stand on line 1
abbrev in_line : List Kind → Block
in_line [] = empty
in_line (k ∷ ks) = next 1 k (in_line ks)

-- `iso c0`, `mut c0`
abbrev iso : Ty
iso = ty.Ref cap.Iso 0

abbrev mut : Ty
mut = ty.Ref cap.Mut 0

-- `v7`, from its bytes
abbrev at_v : String → tree.Path
at_v x = record { base = Some (codes x); fields = [] }

-- `print 7;`
abbrev seven : Block
seven = in_line (print (number (pos 7)) ∷ [])

seven-code : block_ops [] 0 seven ≡ i.Mark 1 ∷ i.Int (pos 7) ∷ i.Print ∷ []
seven-code = refl

seven-named : block_named false 0 seven ≡ tree.then (tree.stmt 1 (tree.print (tree.number (pos 7)))) tree.empty
seven-named = refl

-- `class c0 { f0: int; f1: iso c0; }`
abbrev classes : List Class
classes =
    record {
      name = codes "c0";
      is_tmp = false;
      element = None;
      members =
          field (record { name = codes "f0"; ty = tree.int; line = 1 })
          ∷ field (record { name = codes "f1"; ty = tree.ref cap.Iso (codes "c0"); line = 1 }) ∷ [];
      line = 1;
    } ∷ []

-- `let v0: int = 0; let v1: iso c0 = nil; while v0 < 3 { let v2: iso c0 = v1; v1 = v2; v0 = v0 + 1; }`
abbrev loop : Block
loop = in_line (
    declare ty.Int (value (number (pos 0)))
    ∷ declare iso (value nil)
    ∷ while (binary op.Lt (path 0 []) (number (pos 3))) (in_line (
    declare iso (value (path 1 []))
    ∷ assign 1 (value (path 2 []))
    ∷ assign 0 (value (binary op.Add (path 0 []) (number (pos 1)))) ∷ []
    )) ∷ []
    )

abbrev loop_ops : (fails back : ℕ) → List Op
loop_ops fails back =
    i.Mark 1 ∷ i.Int (pos 0) ∷ i.Store 0
    ∷ i.Mark 1 ∷ i.Nil ∷ i.Store 1
    ∷ i.Mark 1 ∷ i.Load 0 ∷ i.Int (pos 3) ∷ i.Lt ∷ i.JumpFalse fails
    ∷ i.Mark 1 ∷ i.Load 1 ∷ i.Clear 1 ∷ i.Store 2
    ∷ i.Mark 1 ∷ i.Load 2 ∷ i.Clear 2 ∷ i.Own 1
    ∷ i.Mark 1 ∷ i.Load 0 ∷ i.Int (pos 1) ∷ i.Add ∷ i.Store 0
    ∷ i.Mark 1 ∷ i.End 2 ∷ i.Jump back ∷ []

loop-code : block_ops [] 0 loop ≡ loop_ops 27 6
loop-code = refl

-- it is told from its code, in front of the end of main, with the maps of its marks
abbrev loop_given : (fails back : ℕ) → Given
loop_given fails back = record {
  ops = loop_ops fails back ++ i.Mark 1 ∷ i.End 0 ∷ i.Halt ∷ [];
  maps = [] ∷ [] ∷ [] ∷ (ty.Int ∷ []) ∷ [] ∷ [] ∷ (ty.Int ∷ iso ∷ []) ∷ [] ∷ [] ∷ [] ∷ [] ∷ (ty.Int ∷ iso ∷ []) ∷ [] ∷ [] ∷ []
      ∷ (ty.Int ∷ iso ∷ iso ∷ []) ∷ [];
  methods = [];
}

loop-told : block_told (loop_given 27 6) 64 [] 0 ≡ Some (loop, 27)
unfolding block_told raised walk
loop-told = refl

-- nothing is told where the test leads elsewhere, where the jump does, and where no block may stand in another
loop-apart : (block_told (loop_given 25 6) 64 [] 0 ≡ None) × (block_told (loop_given 28 6) 64 [] 0 ≡ None)
    × (block_told (loop_given 27 3) 64 [] 0 ≡ None) × (block_told (loop_given 27 6) 1 [] 0 ≡ None)
unfolding block_told raised walk
loop-apart = (refl, refl, refl, refl)

loop-found : IsBlockFound classes [] false loop
unfolding digits
loop-found = (
  (refl, tt),
  ((refl, tt), ((((refl, tt), tt), ((refl, (refl, tt)), (((refl, tt), (refl, tt)), (((refl, tt), ((refl, tt), tt)), tt)))), tt)),
)

-- owners that are entered, exchanged and frozen: `let v0: iso c0 = new iso c0 in arena; let v1: iso c0 = new iso c0 in count;
-- enter v1 as v2 { v2.f0 = 9; } enter v0 as v2 { swap v1, v2.f1; } let v2: imm c0 = freeze v0; print v2.f1.f0;`
abbrev owners : Block
owners = in_line (
    declare iso (new_iso 0 None manager.Arena)
    ∷ declare iso (new_iso 0 None manager.Count)
    ∷ enter 1 0 (in_line (write 2 [] 0 (value (number (pos 9))) ∷ [])) None
    ∷ enter 0 0 (in_line (swap 1 2 [] 1 ∷ [])) None
    ∷ declare (ty.Ref cap.Imm 0) (freeze 0)
    ∷ print (path 2 (1 ∷ 0 ∷ [])) ∷ []
    )

owners-code : block_ops [] 0 owners
    ≡ i.Mark 1 ∷ i.NewIso 0 manager.Arena ∷ i.Store 0
    ∷ i.Mark 1 ∷ i.NewIso 0 manager.Count ∷ i.Store 1
    ∷ i.Mark 1 ∷ i.Enter 1 2
    ∷ i.Mark 1 ∷ i.Load 2 ∷ i.Check ∷ i.Int (pos 9) ∷ i.Put 0
    ∷ i.Mark 1 ∷ i.Leave 2
    ∷ i.Mark 1 ∷ i.Enter 0 2
    ∷ i.Mark 1 ∷ i.Load 2 ∷ i.Check ∷ i.Swap 1 1
    ∷ i.Mark 1 ∷ i.Leave 2
    ∷ i.Mark 1 ∷ i.Freeze 0 ∷ i.Store 2
    ∷ i.Mark 1 ∷ i.Load 2 ∷ i.Field 1 ∷ i.Field 0 ∷ i.Print ∷ []
owners-code = refl

owners-found : IsBlockFound classes [] false owners
unfolding digits
owners-found = (
  (refl, (refl, tt)),
  (
    (refl, (refl, tt)),
    (
      (record { path = (refl, tt); class = refl }, (((refl, (refl, tt)), tt), tt), tt),
      ((record { path = (refl, tt); class = refl }, ((refl, (refl, (refl, tt))), tt), tt), ((refl, refl), ((refl, (refl, (refl, tt))), tt))),
    ),
  ),
)

-- an object of the active region, whose field is entered: `let v0: mut c0 = new c0; v0.f1 = new iso c0 in trace; enter v0.f1 as v1 { collect; }`
abbrev field_entered : Block
field_entered = in_line (
    declare mut (new 0 None)
    ∷ write 0 [] 1 (new_iso 0 None manager.Trace)
    ∷ enter_field 0 [] 1 0 (in_line (collect ∷ [])) None ∷ []
    )

field_entered-code : block_ops [] 0 field_entered
    ≡ i.Mark 1 ∷ i.New 0 ∷ i.Store 0 ∷ i.Pace
    ∷ i.Mark 1 ∷ i.Load 0 ∷ i.Check ∷ i.NewIso 0 manager.Trace ∷ i.Put 1
    ∷ i.Mark 1 ∷ i.Load 0 ∷ i.EnterField 1 1
    ∷ i.Mark 1 ∷ i.Collect
    ∷ i.Mark 1 ∷ i.Leave 1 ∷ []
field_entered-code = refl

-- `def mut m0(v1: int): int { let v2: int = v1; if v1 > 0 { v2 = call self.m0(v1 - 1); } return v2; }`
abbrev go : Callee
go = record { number = 0; place = 0; result = Some ty.Int }

abbrev descent : Block
descent = in_line (
    declare ty.Int (value (path 1 []))
    ∷ branch (binary op.Gt (path 1 []) (number (pos 0))) (in_line (
    assign 2 (result_of (record { slot = 0; fields = []; callee = go; args = binary op.Sub (path 1 []) (number (pos 1)) ∷ [] })) ∷ []
    )) no_else
    ∷ return (path 2 []) ∷ []
    )

descent-code : block_ops (mut ∷ ty.Int ∷ []) 100 descent
    ≡ i.Mark 1 ∷ i.Load 1 ∷ i.Store 2
    ∷ i.Mark 1 ∷ i.Load 1 ∷ i.Int (pos 0) ∷ i.Gt ∷ i.JumpFalse 119
    ∷ i.Mark 1 ∷ i.Load 0 ∷ i.Check ∷ i.Load 1 ∷ i.Int (pos 1) ∷ i.Sub ∷ i.Room ∷ i.Call 0 ∷ i.Store 2
    ∷ i.Mark 1 ∷ i.End 3
    ∷ i.Mark 1 ∷ i.Load 2 ∷ i.Ret ∷ []
descent-code = refl

abbrev descent_method : tree.Method
descent_method = record {
  receiver = cap.Mut;
  name = codes "m0";
  params = record { name = codes "v1"; ty = tree.int } ∷ [];
  result = Some tree.int;
  body = block_named true 2 descent;
  line = 1;
}

abbrev descents : List Class
descents = record { name = codes "c0"; is_tmp = false; element = None; members = method descent_method ∷ []; line = 1 } ∷ []

descent-found : IsBlockFound descents (method_scope descents 0 descent_method) true descent
unfolding digits
descent-found = (
  (refl, (refl, tt)),
  (
    (((refl, tt), tt), (((refl, tt), record { target = (refl, tt); args = (((refl, tt), tt), tt); number = refl; result = refl }), tt), tt),
    ((refl, tt), tt),
  ),
)

descent-named : block_named true 2 descent
    ≡ tree.then (tree.stmt 1 (tree.declare (codes "v2") tree.int (tree.value (tree.path (at_v "v1")))))
    (tree.then (tree.stmt 1 (tree.branch (tree.binary op.Gt (tree.path (at_v "v1")) (tree.number (pos 0)))
    (tree.then (tree.stmt 1 (tree.assign (at_v "v2") (tree.result_of (record {
      target = record { base = None; fields = [] };
      method = codes "m0";
      args = tree.binary op.Sub (tree.path (at_v "v1")) (tree.number (pos 1)) ∷ [];
    })))) tree.empty)
    tree.no_else))
    (tree.then (tree.stmt 1 (tree.return (tree.path (at_v "v2")))) tree.empty))
unfolding digits
descent-named = refl

-- methods with an owner as their result, a truth value, and none

abbrev drops : Callee
drops = record { number = 0; place = 2; result = Some iso }

abbrev pops : Callee
pops = record { number = 1; place = 3; result = Some ty.Bool }

abbrev leaves : Callee
leaves = record { number = 2; place = 4; result = None }

-- both blocks of an `if`, and results that nobody takes: `if v0 is nil { call v1.m2(v0); } else { call v1.m3(); call v1.m4(); }`
abbrev choice : Block
choice = next 4 (branch (is_nil 0 [])
    (next 5 (call (record { slot = 1; fields = []; callee = drops; args = path 0 [] ∷ [] })) empty)
    (otherwise (
    next 7 (call (record { slot = 1; fields = []; callee = pops; args = [] }))
    (next 8 (call (record { slot = 1; fields = []; callee = leaves; args = [] })) empty)))) empty

abbrev choice_ops : Op → List Op
choice_ops left =
    i.Mark 4 ∷ i.Load 0 ∷ i.IsNil ∷ i.JumpFalse 15
    ∷ i.Mark 5 ∷ i.Load 1 ∷ i.Check ∷ i.Load 0 ∷ i.Room ∷ i.Clear 0 ∷ i.Call 0 ∷ left
    ∷ i.Mark 4 ∷ i.End 2 ∷ i.Jump 28
    ∷ i.Mark 7 ∷ i.Load 1 ∷ i.Check ∷ i.Room ∷ i.Call 1 ∷ i.Pop
    ∷ i.Mark 8 ∷ i.Load 1 ∷ i.Check ∷ i.Room ∷ i.Call 2
    ∷ i.Mark 4 ∷ i.End 2 ∷ []

choice-code : block_ops (iso ∷ mut ∷ []) 0 choice ≡ choice_ops i.Drop
choice-code = refl

abbrev choice_given : Op → Given
choice_given left = record {
  ops = choice_ops left ++ i.Mark 9 ∷ i.RetVoid ∷ [];
  maps = [];
  methods = drops ∷ pops ∷ leaves ∷ [];
}

choice-told : block_told (choice_given i.Drop) 64 (iso ∷ mut ∷ []) 0 ≡ Some (choice, 28)
unfolding block_told raised walk
choice-told = refl

-- an owner that nobody takes is released
choice-apart : block_told (choice_given i.Pop) 64 (iso ∷ mut ∷ []) 0 ≡ None
unfolding block_told raised walk
choice-apart = refl

-- Arrays, and a window that gives its bridge

-- `class c0 { f0: int; f1: iso c0; } class c1 [mut c0]; class c2 [int];`
abbrev array_classes : List Class
array_classes =
    classes
    ++ record { name = codes "c1"; is_tmp = false; element = Some (tree.ref cap.Mut (codes "c0")); members = []; line = 1 }
    ∷ record { name = codes "c2"; is_tmp = true; element = Some tree.int; members = []; line = 1 } ∷ []

abbrev mut_row : Ty
mut_row = ty.Ref cap.Mut 1

abbrev tmp_row : Ty
tmp_row = ty.Ref cap.Tmp 2

-- `let v0: mut c1 = new c1 [3]; let v1: tmp c2 = new tmp c2 [size v0]; v0[1] = new c0; v1[v1[0]] = size v0 + 2; let v2: mut c0 = v0[1];`
abbrev arrays : Block
arrays = in_line (
    declare mut_row (new 1 (Some (number (pos 3))))
    ∷ declare tmp_row (new_tmp 2 (Some (size 0 [])))
    ∷ write_element 0 [] (number (pos 1)) (new 0 None)
    ∷ write_element 1 [] (element 1 [] (number (pos 0))) (value (binary op.Add (size 0 []) (number (pos 2))))
    ∷ declare mut (value (element 0 [] (number (pos 1)))) ∷ []
    )

abbrev arrays_ops : List Op
arrays_ops =
    i.Mark 1 ∷ i.Int (pos 3) ∷ i.NewArray 1 ∷ i.Store 0 ∷ i.Pace
    ∷ i.Mark 1 ∷ i.Load 0 ∷ i.Size ∷ i.NewTmpArray 2 ∷ i.Store 1
    ∷ i.Mark 1 ∷ i.Load 0 ∷ i.Check ∷ i.Int (pos 1) ∷ i.Bound ∷ i.New 0 ∷ i.PutElement ∷ i.Pace
    ∷ i.Mark 1 ∷ i.Load 1 ∷ i.Check ∷ i.Load 1 ∷ i.Check ∷ i.Int (pos 0) ∷ i.Bound ∷ i.Element ∷ i.Bound ∷ i.Load 0 ∷ i.Size ∷ i.Int (pos 2) ∷ i.Add
    ∷ i.PutElement
    ∷ i.Mark 1 ∷ i.Load 0 ∷ i.Check ∷ i.Int (pos 1) ∷ i.Bound ∷ i.Element ∷ i.Store 2 ∷ []

arrays-code : block_ops [] 0 arrays ≡ arrays_ops
arrays-code = refl

abbrev array_maps : List (List Ty)
array_maps =
    replicate 5 [] ++ (mut_row ∷ []) ∷ (replicate 4 [] ++ (mut_row ∷ tmp_row ∷ []) ∷ (replicate 28 [] ++ (mut_row ∷ tmp_row ∷ mut ∷ []) ∷ []))

arrays-told : block_told (record { ops = arrays_ops ++ i.Mark 1 ∷ i.End 0 ∷ i.Halt ∷ []; maps = array_maps; methods = [] })
    64 [] 0 ≡ Some (arrays, 39)
unfolding block_told raised walk
arrays-told = refl

arrays-found : IsBlockFound array_classes [] false arrays
unfolding digits
arrays-found = (
  (refl, (refl, tt)),
  (
    (refl, (refl, (refl, tt))),
    (
      ((refl, tt), tt, (refl, tt)),
      (((refl, tt), ((refl, tt), tt), ((refl, tt), tt)), ((refl, ((refl, tt), tt)), tt)),
    ),
  ),
)

-- `let v0: iso c0 = new iso c0 in trace; enter v0 as v1 { let v2: mut c0 = new c0; } giving v2;`
abbrev giving : Block
giving = in_line (
    declare iso (new_iso 0 None manager.Trace)
    ∷ enter 0 0 (in_line (declare mut (new 0 None) ∷ [])) (Some 2) ∷ []
    )

abbrev giving_ops : List Op
giving_ops =
    i.Mark 1 ∷ i.NewIso 0 manager.Trace ∷ i.Store 0
    ∷ i.Mark 1 ∷ i.Enter 0 1
    ∷ i.Mark 1 ∷ i.New 0 ∷ i.Store 2 ∷ i.Pace
    ∷ i.Mark 1 ∷ i.LeaveGiving 2 1 ∷ []

giving-code : block_ops [] 0 giving ≡ giving_ops
giving-code = refl

giving-told : block_told (record {
  ops = giving_ops ++ i.Mark 1 ∷ i.End 0 ∷ i.Halt ∷ [];
  maps = [] ∷ [] ∷ [] ∷ (iso ∷ []) ∷ [] ∷ (iso ∷ mut ∷ []) ∷ [] ∷ [] ∷ [] ∷ (iso ∷ mut ∷ mut ∷ []) ∷ [];
  methods = [];
}) 64 [] 0 ≡ Some (giving, 11)
unfolding block_told raised walk
giving-told = refl

giving-found : IsBlockFound classes [] false giving
unfolding digits
giving-found = (
  (refl, (refl, tt)),
  ((record { path = (refl, tt); class = refl }, ((refl, (refl, tt)), tt), refl), tt),
)

-- Blocks that stand where they are told, and what their code alone doesn't tell

loop-stands : BlockStand (loop_given 27 6) [] 0 loop 27
loop-stands = record {
  code = record { parts = refl; place = refl };
  fits = (
    (tt, refl),
    (λ e. absurd (false≢true e)),
    (
      (tt, refl),
      (λ e. absurd (false≢true e)),
      (
        (
          (tt, refl),
          (λ e. absurd (false≢true e)),
          (
            (tt, (λ e. absurd (omega (arith, e)))),
            (λ e. absurd (false≢true e)),
            ((tt, (λ e. absurd (omega (arith, e)))), (λ e. absurd (false≢true e)), tt),
          ),
        ),
        (λ e. absurd (false≢true e)),
        tt,
      ),
    ),
  );
  closes = ((1, refl), refl);
}

choice-stands : BlockStand (choice_given i.Drop) (iso ∷ mut ∷ []) 0 choice 28
choice-stands = record {
  code = record { parts = refl; place = refl };
  fits = (
    (
      (refl, (λ e. absurd (false≢true e)), tt),
      (refl, (λ e. absurd (false≢true e)), (refl, (λ e. absurd (false≢true e)), tt)),
    ),
    (λ e. absurd (false≢true e)),
    tt,
  );
  closes = ((9, refl), refl);
}

-- the map in front of a window's block has the class of the bridge
giving-stands : BlockStand (record {
  ops = giving_ops ++ i.Mark 1 ∷ i.End 0 ∷ i.Halt ∷ [];
  maps = [] ∷ [] ∷ [] ∷ (iso ∷ []) ∷ [] ∷ (iso ∷ mut ∷ []) ∷ [] ∷ [] ∷ [] ∷ (iso ∷ mut ∷ mut ∷ []) ∷ [];
  methods = [];
}) [] 0 giving 11
giving-stands = record {
  code = record { parts = refl; place = refl };
  fits = (
    (tt, refl),
    (λ e. absurd (false≢true e)),
    ((refl, ((tt, refl), (λ e. absurd (false≢true e)), tt)), (λ e. absurd (false≢true e)), tt),
  );
  closes = ((1, refl), refl);
}

depths : (block_depth empty ≡ 1) × (block_depth loop ≡ 2) × (block_depth choice ≡ 2)
depths = (refl, refl, refl)

-- `v0 = 7` into the slot that comes next has the code of `let v0: int = 7`
let-code : block_ops [] 0 (in_line (assign 0 (value (number (pos 7))) ∷ []))
    ≡ block_ops [] 0 (in_line (declare ty.Int (value (number (pos 7))) ∷ []))
let-code = refl

-- of two types a `let` has the one of the map
let-types : block_ops [] 0 (in_line (declare mut (value nil) ∷ [])) ≡ block_ops [] 0 (in_line (declare mut_row (value nil) ∷ []))
let-types = refl

-- a call has the code of one of another result
call-code : block_ops (mut ∷ []) 0 (in_line (call (record { slot = 0; fields = []; callee = pops; args = [] }) ∷ []))
    ≡ block_ops (mut ∷ []) 0 (in_line (call (record { slot = 0; fields = []; callee = record pops { result = Some ty.Int }; args = [] }) ∷ []))
call-code = refl

-- behind `return` the block has ended
return-told : block_told (record {
  ops = i.Mark 1 ∷ i.Int (pos 7) ∷ i.Ret ∷ i.Mark 1 ∷ i.Collect ∷ i.Mark 1 ∷ i.End 0 ∷ i.Halt ∷ [];
  maps = [];
  methods = [];
}) 64 [] 0 ≡ Some (in_line (return (number (pos 7)) ∷ []), 3)
unfolding block_told raised walk
return-told = refl
