-- Words for examples: parts of programs as they are written, canonical texts and listings line by line.
use Rattle.std.proofs.Common.{◌≡◌, ℕ, List, [], ◌∷◌, ◌++◌, Bool, Option, Some, None, codes}
use Prim.Native.String.{String}
use Rattle.rg_base.specs.declared.words.Cap.{Cap}
use Rattle.rg_base.specs.declared.words.Manager.{Manager}
use Rattle.rg_tree.specs.Tree.{Ty, Block, Param, Member, field, method, Class, Tree}
use Rattle.rg_tree.specs.Canonical.{canon}
use Rattle.rg_code.specs.Lowering.{lowered}
use Rattle.rg_code.specs.Listing.{listing}

-- `x: T;` on a line
abbrev pub field_on : (line : ℕ) → String → Ty → Member
field_on line x t = field (record { name = codes x; ty = t; line = line })

-- `def mut m(a: T): R { .. }` on a line
abbrev pub method_on : (line : ℕ) → Cap → String → List Param → Option Ty → Block → Member
method_on line k m ps r body = method (record { receiver = k; name = codes m; params = ps; result = r; body = body; line = line })

-- `class C { .. }` or `tmp class C { .. }` on a line
abbrev pub class_on : (line : ℕ) → String → (is_tmp : Bool) → List Member → Class
class_on line c is_tmp members = record { name = codes c; is_tmp = is_tmp; element = None; members = members; line = line }

-- `class C [T];` or `tmp class C [T];` on a line
abbrev pub array_on : (line : ℕ) → String → (is_tmp : Bool) → Ty → Class
array_on line c is_tmp t = record { name = codes c; is_tmp = is_tmp; element = Some t; members = []; line = line }

-- classes, and `main M { .. }` on a line
abbrev pub program_on : (line : ℕ) → List Class → Manager → Block → Tree
program_on line classes m body = record { classes = classes; manager = m; body = body; line = line }

-- lines, each with its end
abbrev pub lines_of : List String → List ℕ
lines_of [] = []
lines_of (s ∷ ss) = codes s ++ 10 ∷ lines_of ss

-- a canonical text, the listing of its code, and the tree of both
abbrev pub Lists : (text listing : List String) → Tree → Type 0
Lists text lines t = (canon t ≡ lines_of text) × (listing t (lowered t) ≡ lines_of lines)
