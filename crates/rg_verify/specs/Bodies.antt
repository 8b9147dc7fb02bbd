-- The bodies of a program with numbers in place of names (docs/architecture.md, "Modules").
use Rattle.std.specs.Prelude.{ℕ, suc, List, [], ◌∷◌, ◌++◌}
use Rattle.rg_tree.specs.Tree.{Method, Member, field, method, Class, Tree}
use Rattle.rg_code.specs.Lowering.{method_scope}
use Rattle.rg_lines.specs.Unlined.{end_line}
use Rattle.rg_bodies.specs.Bodies.{RaisedBody, Bodies}
use Rattle.rg_numbered.specs.Numbered.{numbered_block}

-- the body of a method of the class of a number, with the line of the mark at its end
abbrev pub method_numbered : List Class → (c : ℕ) → Method → RaisedBody
method_numbered classes c m = record { block = numbered_block classes (method_scope classes c m) m.body; line = end_line m.result m.line }

-- those of the methods among the members of the class of a number
abbrev pub members_numbered : List Class → (c : ℕ) → List Member → List RaisedBody
members_numbered classes c [] = []
members_numbered classes c (field f ∷ ms) = members_numbered classes c ms
members_numbered classes c (method m ∷ ms) = method_numbered classes c m ∷ members_numbered classes c ms

-- those of the methods of classes in order, the first of which has the number
abbrev pub classes_numbered : List Class → (c : ℕ) → List Class → List RaisedBody
classes_numbered classes c [] = []
classes_numbered classes c (k ∷ ks) = members_numbered classes c k.members ++ classes_numbered classes (suc c) ks

-- all bodies of a program
abbrev pub bodies_numbered : Tree → Bodies
bodies_numbered t = record {
  main = record { block = numbered_block t.classes [] t.body; line = t.line };
  methods = classes_numbered t.classes 0 t.classes;
}
