-- A program without the lines that no mark of its code has (docs/architecture.md, "Modules"): those of classes, of fields, and of methods with
-- a result, since the last statement of these gives it. Each statement keeps its line, and so do a method without a result and main, whose
-- ends have marks.
use Rattle.std.specs.Prelude.{◌≡◌, ℕ, List, map, Option, Some, None}
use Rattle.rg_tree.specs.Tree.{Ty, Field, Method, Member, field, method, Class, Tree}

-- the line of a method, if there is a mark at its end, which one with a result has not; else 0
abbrev pub end_line : (result : Option Ty) → (line : ℕ) → ℕ
end_line None line = line
end_line (Some t) line = 0

-- a field with line 0
abbrev pub field_unlined : Field → Field
field_unlined f = record f { line = 0 }

-- a method with the line of its end's mark
abbrev pub method_unlined : Method → Method
method_unlined m = record m { line = end_line m.result m.line }

-- a member without a line that no mark has
abbrev pub member_unlined : Member → Member
member_unlined (field f) = field (field_unlined f)
member_unlined (method m) = method (method_unlined m)

-- a class with line 0, and its members so
abbrev pub class_unlined : Class → Class
class_unlined c = record c { members = map member_unlined c.members; line = 0 }

-- the classes of a program so
abbrev pub classes_unlined : List Class → List Class
classes_unlined classes = map class_unlined classes

-- a program without the lines that no mark has
abbrev pub unlined : Tree → Tree
unlined t = record t { classes = classes_unlined t.classes }

-- two programs are the same but for these lines
abbrev pub SameButLines : Tree → Tree → Type 0
SameButLines t u = unlined t ≡ unlined u
