-- Tables and the programs that they stand for, computed.
use Rattle.std.proofs.Common.{◌≡◌, ℕ, pos, [], ◌∷◌, true, false, Some, None, codes, refl}
use Rattle.rg_base.specs.declared.words.Cap.TheVariants.{Mut, Iso}
use Rattle.rg_base.specs.declared.words.Manager.TheVariants.{Arena, Trace}
use Rattle.rg_tree.specs.declared.rows.BinOp.TheVariants.{Add, Sub}
use Rattle.rg_tree.specs.declared.rows.TypeRow.TheVariants as type_row
use Rattle.rg_tree.specs.declared.rows.MemberRow.TheVariants as member_row
use Rattle.rg_tree.specs.declared.rows.Right.TheVariants as right_row
use Rattle.rg_tree.specs.declared.rows.StmtKind.TheVariants as kind_row
use Rattle.rg_tree.specs.declared.rows.ExprRow.TheVariants as expr_row
use Rattle.rg_tree.specs.declared.rows.Span.{Span}
use Rattle.rg_tree.specs.declared.rows.Path.{Path}
use Rattle.rg_tree.specs.Rows.Tables.{Tables}
use Rattle.rg_tree.specs.Rows.RowTrees.{exprs_of, stmts_of, params_of, members_of, classes_of, program_of}
use Rattle.rg_tree.specs.Canonical.{canon}
use Rattle.std.specs.Fmt.{digits}
use Rattle.rg_tree.proofs.Texts.{lines}

-- the numbers from a place up to another
abbrev span : ℕ → ℕ → Span
span from to = record { from = from; to = to }

-- a variable
abbrev var : ℕ → Path
var n = record { base = Some n; fields = span 0 0 }

-- class A, with a field and a method, and an array class; a main that makes an A in a region, tests a number and makes an array
abbrev of_rows : Tables
of_rows = record {
  names = codes "A" ∷ codes "x" ∷ codes "m" ∷ codes "a" ∷ codes "y" ∷ codes "w" ∷ codes "R" ∷ [];
  numbers = 1 ∷ 0 ∷ 1 ∷ 0 ∷ 0 ∷ 1 ∷ 2 ∷ 4 ∷ 3 ∷ 5 ∷ 6 ∷ 7 ∷ [];
  params = record { name = 3; ty = type_row.Int } ∷ [];
  members =
      member_row.Field 1 type_row.Int 2
      ∷ member_row.Method Mut 2 (span 3 4) (Some type_row.Int) (span 4 5) 3 ∷ [];
  classes =
      record { name = 0; is_tmp = false; element = None; members = span 1 3; line = 1 }
      ∷ record { name = 6; is_tmp = true; element = Some type_row.Int; members = span 0 0; line = 4 } ∷ [];
  stmts =
      record { line = 4; kind = kind_row.Return 0 }
      ∷ record { line = 8; kind = kind_row.Set (record { base = Some 5; fields = span 0 1 }) (right_row.Expr 3) }
      ∷ record { line = 9; kind = kind_row.Print 5 }
      ∷ record { line = 7; kind = kind_row.Enter (var 4) 5 (span 5 7) (Some 5) }
      ∷ record { line = 6; kind = kind_row.Let 4 (type_row.Ref Iso 0) (right_row.NewIso 0 None Trace) }
      ∷ record { line = 11; kind = kind_row.If 6 (span 0 0) (Some (span 0 0)) }
      ∷ record { line = 13; kind = kind_row.If 6 (span 0 0) None }
      ∷ record { line = 15; kind = kind_row.SetAt (var 4) 7 (right_row.NewTmp 6 (Some 8)) } ∷ [];
  exprs =
      expr_row.Path (record { base = None; fields = span 0 1 })
      ∷ expr_row.Int (pos 1)
      ∷ expr_row.Int (pos 2)
      ∷ expr_row.Binary Add 1 2
      ∷ expr_row.Path (record { base = Some 5; fields = span 0 1 })
      ∷ expr_row.Binary Sub 4 3
      ∷ expr_row.Bool true
      ∷ expr_row.Size (var 4)
      ∷ expr_row.At (var 4) 7 ∷ [];
  manager = Arena;
  body = span 7 12;
  line = 5;
}

text_of_rows : canon (program_of of_rows) ≡ lines
    (codes "class A {" ∷ codes "  x: int;" ∷ codes "  def mut m(a: int): int {" ∷ codes "    return self.x;" ∷ codes "  }" ∷ codes "}"
    ∷ codes "tmp class R [int];" ∷ codes "main arena {" ∷ codes "  let y: iso A = new iso A in trace;" ∷ codes "  enter y as w {"
    ∷ codes "    w.x = 1 + 2;" ∷ codes "    print w.x - (1 + 2);" ∷ codes "  } giving w;" ∷ codes "  if true {" ∷ codes "  } else {" ∷ codes "  }"
    ∷ codes "  if true {" ∷ codes "  }" ∷ codes "  y[size y] = new tmp R [y[size y]];" ∷ codes "}" ∷ [])
unfolding exprs_of stmts_of params_of members_of classes_of digits
text_of_rows = refl
