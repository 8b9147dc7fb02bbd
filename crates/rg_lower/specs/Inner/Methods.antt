-- Code with the bodies of methods, their entries, and the openings of classes (docs/language.md, "Instructions and lowering").
use Rattle.std.specs.Prelude.{ℕ, suc, List, [], ◌∷◌, ◌++◌, map, length, option_map}
use Rattle.rg_tree.specs.Tree.{Method, Member, field, method, Class}
use Rattle.rg_tree.specs.Rows.Tables.{Tables, name_at, numbers_in}
use Rattle.rg_tree.specs.Rows.RowTrees as rows
use Rattle.rg_code.specs.declared.op.Op.{Op}
use Rattle.rg_code.specs.Code.{Code}
use Rattle.rg_code.specs.Lowering.{Methods, slots_of, method_code, opening_of}
use Rattle.rg_tree.specs.declared.rows.MethodRow.{MethodRow}

-- the method of a row
abbrev pub method_of : Tables → MethodRow → Method
method_of t m = record {
  receiver = m.cap;
  name = name_at t m.name;
  params = map (rows.param_at t) (numbers_in t m.params);
  result = option_map (rows.type_of t) m.result;
  body = rows.block_of t m.body;
  line = m.line;
}

-- the code with the body of a method, and its entry
abbrev pub with_body : Code → (given : ℕ) → (body : List Op) → Code
with_body c given body = record c {
  ops = c.ops ++ body;
  entries = c.entries ++ record { at = length c.ops; given = given; slots = slots_of given body } ∷ [];
}

-- the code with a member of the class of a number: only a method has a body
abbrev pub with_member : List Class → ℕ → Member → Code → Code
with_member classes k (field f) c = c
with_member classes k (method m) c = with_body c (suc (length m.params)) (method_code classes (length c.ops) k m)

-- the code with what stands behind it
abbrev pub with_methods : Code → Methods → Code
with_methods c m = record c { ops = c.ops ++ m.ops; entries = c.entries ++ m.entries }

-- the code with the openings of more classes
abbrev pub with_openings : Code → List Class → Code
with_openings c classes = record c { openings = c.openings ++ map (λ (k : Class). opening_of k.element k.members) classes }
