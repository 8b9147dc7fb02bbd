-- What calls make of bodies that are told (docs/architecture.md, "Modules").
use Rattle.std.specs.Prelude.{ℕ, Bool as Truth, false, true, List, [], ◌∷◌, length}
use Rattle.rg_tree.specs.Rows.Tables.{Tables}
use Rattle.rg_tree.specs.Adds.{Means}
use Rattle.rg_spell.specs.declared.rows.Head.{Head}
use Rattle.rg_module.specs.Parts.{Parts}
use Rattle.rg_verify_expressions.specs.declared.callee.Callee.{Callee}
use Rattle.rg_verify_expressions.specs.Found.{block_named}
use Rattle.rg_verify_expressions.specs.Blocks.{Given}
use Rattle.rg_classes.specs.declared.body_row.BodyRow.{BodyRow}
use Rattle.rg_classes.specs.Written.{Bodied}
use Rattle.rg_classes.specs.Rows.{body_of, IsBodyIn, AreBodies}
use Rattle.rg_bodies.specs.declared.rows.BodyRows.{BodyRows}
use Rattle.rg_bodies.specs.Bodies.{RaisedBody, Bodies, types_in_front}

-- what bodies are raised from
abbrev pub given_by : Parts → List Callee → Given
given_by m callees = record { ops = m.code.ops; maps = m.maps; methods = callees }

-- a body with its names, behind so many variables
abbrev pub body_named : (in_method : Truth) → (slots : ℕ) → RaisedBody → Bodied
body_named m n b = record { block = block_named m n b.block; line = b.line }

-- that of a method
abbrev pub method_named : Head → RaisedBody → Bodied
method_named h b = body_named true (length (types_in_front h)) b

-- those of methods in order
abbrev pub methods_named : List Head → List RaisedBody → List Bodied
methods_named [] bs = []
methods_named (h ∷ hs) [] = []
methods_named (h ∷ hs) (b ∷ bs) = method_named h b ∷ methods_named hs bs

-- a body by its row
abbrev pub IsBodySaid : (in_method : Truth) → (slots : ℕ) → Tables → BodyRow → RaisedBody → Type 0
IsBodySaid m n t r b = Means body_of IsBodyIn t r (body_named m n b)

-- the bodies of methods by their rows, in order
abbrev pub AreMethodsSaid : List Head → Tables → List BodyRow → List RaisedBody → Type 0
AreMethodsSaid hs t rows bs = AreBodies t rows (methods_named hs bs)

-- all bodies by their rows
abbrev pub AreBodiesSaid : List Head → Tables → BodyRows → Bodies → Type 0
AreBodiesSaid hs t rows x = IsBodySaid false 0 t rows.main x.main × AreMethodsSaid hs t rows.methods.items x.methods
