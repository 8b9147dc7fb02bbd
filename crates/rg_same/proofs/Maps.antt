-- The module of a program is the same without the lines that no mark has, and tells the others.
use Rattle.std.proofs.Common.{◌≡◌, refl, sym, ap, ◌∙◌, ℕ, suc, Bool as Truth, true, List, [], ◌∷◌, ◌++◌, map, Option, option_map}
use Rattle.rg_base.specs.declared.ty.Ty.{Ty}
use Rattle.rg_tree.specs.Tree.{stmt, StmtKind, branch, while, enter, Else, no_else, otherwise, Block, empty as none, then as next, Method, Member}
use Rattle.rg_tree.specs.Tree.{field, method, Class, Tree}
use Rattle.rg_tree.specs.Lineless.{lineless}
use Rattle.rg_rules.specs.Types.{type_of, param_types, method_result}
use Rattle.rg_code.specs.Code.{Code}
use Rattle.rg_code.specs.Lowering.{Scope, scope_behind, scope_inside, method_scope, lowered}
use Rattle.rg_spell.specs.declared.rows.Shape.{Shape}
use Rattle.rg_spell.specs.declared.rows.Head.{Head}
use Rattle.rg_module.specs.Parts.{Parts}
use Rattle.rg_build.specs.Maps.{types_in, inner_maps, else_maps, block_maps, is_end_marked, method_maps, members_maps, methods_maps, maps_of}
use Rattle.rg_build.specs.ModuleOf.{field_types, shape_of, shapes_of, head_of, member_heads, class_heads, heads_of, laid, module_of}
use Rattle.rg_lines.specs.Unlined.{method_unlined, member_unlined, class_unlined, classes_unlined, unlined, SameButLines}
use Rattle.rg_lines.proofs.Types.{type_of-unlined, types_of-unlined, param_types-unlined, method_result-unlined}
use Rattle.rg_marks.proofs.Told.{code-tells}
use Rattle.rg_marks.proofs.Bodies.{scope_behind-unlined, scope_inside-unlined, method_scope-unlined, lowered-unlined}

-- Maps

mutual
  inner_maps-unlined : (cs : List Class) (sc : Scope) (k : StmtKind) → inner_maps (classes_unlined cs) sc k ≡ inner_maps cs sc k
  inner_maps-unlined cs sc (branch e b other) =
      ap (λ ms. ms ++ else_maps (classes_unlined cs) sc other) (block_maps-unlined cs true sc b)
      ∙ ap (λ ms. block_maps cs true sc b ++ ms) (else_maps-unlined cs sc other)
  inner_maps-unlined cs sc (while e b) = block_maps-unlined cs true sc b
  inner_maps-unlined cs sc (enter p z b giving) =
      ap (λ s. block_maps (classes_unlined cs) true s b) (scope_inside-unlined cs sc p z) ∙ block_maps-unlined cs true (scope_inside cs sc p z) b
  inner_maps-unlined cs sc _ = refl

  else_maps-unlined : (cs : List Class) (sc : Scope) (o : Else) → else_maps (classes_unlined cs) sc o ≡ else_maps cs sc o
  else_maps-unlined cs sc no_else = refl
  else_maps-unlined cs sc (otherwise b) = block_maps-unlined cs true sc b

  block_maps-unlined : (cs : List Class) (marked : Truth) (sc : Scope) (b : Block) →
      block_maps (classes_unlined cs) marked sc b ≡ block_maps cs marked sc b
  block_maps-unlined cs marked sc none = refl
  block_maps-unlined cs marked sc (next (stmt line k) b) =
      ap (λ ms. types_in sc ∷ (ms ++ block_maps (classes_unlined cs) marked (scope_behind (classes_unlined cs) sc k) b)) (inner_maps-unlined cs sc k)
      ∙ (ap (λ s. types_in sc ∷ (inner_maps cs sc k ++ block_maps (classes_unlined cs) marked s b)) (scope_behind-unlined cs sc k)
      ∙ ap (λ ms. types_in sc ∷ (inner_maps cs sc k ++ ms)) (block_maps-unlined cs marked (scope_behind cs sc k) b))

method_maps-unlined : (cs : List Class) (c : ℕ) (m : Method) → method_maps (classes_unlined cs) c (method_unlined m) ≡ method_maps cs c m
method_maps-unlined cs c m =
    ap (λ s. block_maps (classes_unlined cs) (is_end_marked m.result) s m.body) (method_scope-unlined cs c m)
    ∙ block_maps-unlined cs (is_end_marked m.result) (method_scope cs c m) m.body

members_maps-unlined : (cs : List Class) (c : ℕ) (ms : List Member) →
    members_maps (classes_unlined cs) c (map member_unlined ms) ≡ members_maps cs c ms
members_maps-unlined cs c [] = refl
members_maps-unlined cs c (field f ∷ ms) = members_maps-unlined cs c ms
members_maps-unlined cs c (method m ∷ ms) =
    ap (λ maps. maps ++ members_maps (classes_unlined cs) c (map member_unlined ms)) (method_maps-unlined cs c m)
    ∙ ap (λ maps. method_maps cs c m ++ maps) (members_maps-unlined cs c ms)

methods_maps-unlined : (cs : List Class) (c : ℕ) (ks : List Class) →
    methods_maps (classes_unlined cs) c (classes_unlined ks) ≡ methods_maps cs c ks
methods_maps-unlined cs c [] = refl
methods_maps-unlined cs c (k ∷ ks) =
    ap (λ maps. maps ++ methods_maps (classes_unlined cs) (suc c) (classes_unlined ks)) (members_maps-unlined cs c k.members)
    ∙ ap (λ maps. members_maps cs c k.members ++ maps) (methods_maps-unlined cs (suc c) ks)

maps_of-unlined : (t : Tree) → maps_of (unlined t) ≡ maps_of t
maps_of-unlined t =
    ap (λ maps. maps ++ methods_maps (classes_unlined t.classes) 0 (classes_unlined t.classes)) (block_maps-unlined t.classes true [] t.body)
    ∙ ap (λ maps. block_maps t.classes true [] t.body ++ maps) (methods_maps-unlined t.classes 0 t.classes)

-- Shapes

field_types-unlined : (cs : List Class) (ms : List Member) → field_types (classes_unlined cs) (map member_unlined ms) ≡ field_types cs ms
field_types-unlined cs [] = refl
field_types-unlined cs (field f ∷ ms) =
    ap (λ t. t ∷ field_types (classes_unlined cs) (map member_unlined ms)) (type_of-unlined cs f.ty)
    ∙ ap (λ ts. type_of cs f.ty ∷ ts) (field_types-unlined cs ms)
field_types-unlined cs (method m ∷ ms) = field_types-unlined cs ms

shape_of-unlined : (cs : List Class) (c : Class) → shape_of (classes_unlined cs) (class_unlined c) ≡ shape_of cs c
shape_of-unlined cs c =
    let f : List Ty → Option Ty → Shape = λ fields element. record { is_tmp = c.is_tmp; fields = fields; element = element } in
    ap (λ fields. f fields (option_map (type_of (classes_unlined cs)) c.element)) (field_types-unlined cs c.members)
    ∙ ap (f (field_types cs c.members)) (types_of-unlined cs c.element)

shapes_by : (cs ds : List Class) → map (shape_of (classes_unlined cs)) (classes_unlined ds) ≡ map (shape_of cs) ds
shapes_by cs [] = refl
shapes_by cs (d ∷ ds) =
    ap (λ s. s ∷ map (shape_of (classes_unlined cs)) (classes_unlined ds)) (shape_of-unlined cs d) ∙ ap (λ ss. shape_of cs d ∷ ss) (shapes_by cs ds)

-- Heads

head_of-unlined : (cs : List Class) (c : ℕ) (m : Method) → head_of (classes_unlined cs) c (method_unlined m) ≡ head_of cs c m
head_of-unlined cs c m =
    let f : List Ty → Option Ty → Head = λ params result. record { class = c; cap = m.receiver; params = params; result = result } in
    ap (λ params. f params (method_result (classes_unlined cs) m)) (param_types-unlined cs m) ∙ ap (f (param_types cs m)) (method_result-unlined cs m)

member_heads-unlined : (cs : List Class) (c : ℕ) (ms : List Member) →
    member_heads (classes_unlined cs) c (map member_unlined ms) ≡ member_heads cs c ms
member_heads-unlined cs c [] = refl
member_heads-unlined cs c (field f ∷ ms) = member_heads-unlined cs c ms
member_heads-unlined cs c (method m ∷ ms) =
    ap (λ h. h ∷ member_heads (classes_unlined cs) c (map member_unlined ms)) (head_of-unlined cs c m)
    ∙ ap (λ hs. head_of cs c m ∷ hs) (member_heads-unlined cs c ms)

class_heads-unlined : (cs : List Class) (c : ℕ) (ks : List Class) → class_heads (classes_unlined cs) c (classes_unlined ks) ≡ class_heads cs c ks
class_heads-unlined cs c [] = refl
class_heads-unlined cs c (k ∷ ks) =
    ap (λ hs. hs ++ class_heads (classes_unlined cs) (suc c) (classes_unlined ks)) (member_heads-unlined cs c k.members)
    ∙ ap (λ hs. member_heads cs c k.members ++ hs) (class_heads-unlined cs (suc c) ks)

-- Modules

module_of-unlined : (t : Tree) → module_of (unlined t) ≡ module_of t
module_of-unlined t =
    let f : List Shape → List Head → Code → List (List Ty) → Parts = λ shapes heads code maps. record {
      manager = t.manager;
      classes = shapes;
      methods = heads;
      code = code;
      maps = laid code.ops maps;
    } in
    ap (λ shapes. f shapes (heads_of (classes_unlined t.classes)) (lowered (unlined t)) (maps_of (unlined t))) (shapes_by t.classes t.classes)
    ∙ (ap (λ heads. f (shapes_of t.classes) heads (lowered (unlined t)) (maps_of (unlined t))) (class_heads-unlined t.classes 0 t.classes)
    ∙ (ap (λ code. f (shapes_of t.classes) (heads_of t.classes) code (maps_of (unlined t))) (lowered-unlined t)
    ∙ ap (f (shapes_of t.classes) (heads_of t.classes) (lowered t)) (maps_of-unlined t)))

pub same-module : (t u : Tree) → SameButLines t u → module_of t ≡ module_of u
same-module t u h = sym (module_of-unlined t) ∙ (ap module_of h ∙ module_of-unlined u)

pub module-tells : (t u : Tree) → lineless t ≡ lineless u → module_of t ≡ module_of u → SameButLines t u
module-tells t u h g = code-tells t u h (ap (λ (p : Parts). p.code) g)
