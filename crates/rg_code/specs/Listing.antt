-- The listing of a code (docs/language.md, "Instructions and lowering"): a line for each instruction, with its address, its name and
-- its numbers, and a line in front of each body.
use Rattle.std.specs.Prelude.{ℕ, suc, ◌==◌, if◌then◌else◌, List, [], ◌∷◌, ◌++◌, codes}
use Rattle.std.specs.Fmt.{decimal, signed_decimal}
use Rattle.std.specs.List.{flat_map}
use Rattle.rg_base.specs.Text.{bool_text}
use Rattle.rg_tree.specs.Tree.{Name, Member, field, method, Class, Tree}
use Rattle.rg_tree.specs.Canonical.{manager_text}
use Rattle.rg_code.specs.declared.op.Op.{Op}
use Rattle.rg_code.specs.declared.operands.Operand.{Operand}
use Rattle.rg_code.specs.declared.operands.Operand.TheVariants as p
use Rattle.rg_code.specs.declared.code.Entry.{Entry}
use Rattle.rg_code.specs.Code.{Code}
use Rattle.rg_code.specs.Operands.{name_of, operands_of}

-- an operand
abbrev pub operand_text : Operand → List ℕ
operand_text (p.Line n) = decimal n
operand_text (p.Int z) = signed_decimal z
operand_text (p.Bool b) = bool_text b
operand_text (p.Slot s) = decimal s
operand_text (p.From s) = decimal s
operand_text (p.Field k) = decimal k
operand_text (p.Class c) = decimal c
operand_text (p.Method m) = decimal m
operand_text (p.Address t) = decimal t
operand_text (p.Manager m) = manager_text m

-- operands, each behind a blank
abbrev pub operands_text : List Operand → List ℕ
operands_text ps = flat_map (λ a. 32 ∷ operand_text a) ps

-- an instruction: its name and its operands
abbrev pub op_text : Op → List ℕ
op_text o = name_of o ++ operands_text (operands_of o)

-- an instruction at its address
abbrev pub op_line : (at : ℕ) → Op → List ℕ
op_line at o = decimal at ++ 32 ∷ op_text o ++ 10 ∷ []

-- the names of methods among the members of a class
abbrev pub member_names : (class : Name) → List Member → List Name
member_names c [] = []
member_names c (field f ∷ ms) = member_names c ms
member_names c (method m ∷ ms) = (c ++ codes "." ++ m.name) ∷ member_names c ms

-- the names of the methods of classes in order, each with its class
abbrev pub method_names : List Class → List Name
method_names [] = []
method_names (c ∷ cs) = member_names c.name c.members ++ method_names cs

-- a name in front of the instruction at an address
pub record Heading : Type 0 where
  pub at : ℕ
  pub name : Name

-- the names of methods, each where it begins
abbrev pub headings : List Entry → List Name → List Heading
headings [] names = []
headings (e ∷ es) [] = []
headings (e ∷ es) (x ∷ xs) = record { at = e.at; name = x } ∷ headings es xs

-- the line of a heading
abbrev pub heading_line : Name → List ℕ
heading_line x = x ++ codes ":" ++ 10 ∷ []

-- the first of these headings, if it stands in front of an address
abbrev pub heading_at : (at : ℕ) → List Heading → List ℕ
heading_at at [] = []
heading_at at (h ∷ hs) = if h.at == at then heading_line h.name else []

-- the headings behind an address
abbrev pub headings_behind : (at : ℕ) → List Heading → List Heading
headings_behind at [] = []
headings_behind at (h ∷ hs) = if h.at == at then hs else h ∷ hs

-- the lines of instructions, the first of which stands at an address
abbrev pub lines : List Heading → (at : ℕ) → List Op → List ℕ
lines hs at [] = []
lines hs at (o ∷ os) = heading_at at hs ++ op_line at o ++ lines (headings_behind at hs) (suc at) os

-- the listing of the code of a program
abbrev pub listing : Tree → Code → List ℕ
listing t c = heading_line (codes "main") ++ lines (headings c.entries (method_names t.classes)) 0 c.ops
