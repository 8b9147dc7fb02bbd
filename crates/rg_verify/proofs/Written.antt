-- The classes that are written from a program's tables and its bodies with numbers are the program's, but for lines.
use Rattle.std.proofs.Common.{◌≡◌, refl, sym, ap, ◌∙◌, ℕ, suc, ◌==◌, ◌<◌, Bool as Truth, true, false, if◌then◌else◌, List, [], ◌∷◌, ◌++◌}
use Rattle.std.proofs.Common.{map, drop, length, Option, Some, None, option_map, arith}
use Rattle.std.proofs.lemmas.Bool.Decides.{nat_tests}
use Rattle.std.proofs.lemmas.List.{length-map}
use Rattle.rg_base.specs.declared.ty.Ty.{Ty}
use Rattle.rg_tree.specs.Tree.{Name, Ty as Written, Block, Param, Method, Member, field, method, Class, Tree}
use Rattle.rg_rules.specs.Types.{type_of, param_types, method_result}
use Rattle.rg_code.specs.Lowering.{Slot, method_scope}
use Rattle.rg_spell.specs.declared.rows.Head.{Head}
use Rattle.rg_build.specs.ModuleOf.{field_types, shape_of, shapes_of, head_of, member_heads, class_heads, heads_of, module_of}
use Rattle.rg_lines.specs.Unlined.{end_line, method_unlined, member_unlined, class_unlined, classes_unlined, SameButLines}
use Rattle.rg_verify_expressions.specs.Naming.{class_name, written}
use Rattle.rg_verify_expressions.specs.Found.{block_named}
use Rattle.rg_classes.specs.Written.{Bodied, field_written, param_written, numbered, method_written, methods_written, run, members_written}
use Rattle.rg_classes.specs.Written.{class_written}
use Rattle.rg_classes.specs.Written.{classes_written}
use Rattle.rg_bodies.specs.Bodies.{RaisedBody, types_in_front}
use Rattle.rg_bodies.specs.Rows.{method_named, methods_named}
use Rattle.rg_raised.specs.Raises.{AreParamsNumbered, IsMethodNumbered, AreMethodsNumbered, AreMembersNumbered, AreMembers, AreClassesNumbered}
use Rattle.rg_raised.specs.Raises.{IsNumbered as HasNumbers}
use Rattle.rg_raised.specs.Told.{tree_named}
use Rattle.rg_numbered.specs.Numbered.{numbered_block}
use Rattle.rg_numbered.specs.Laws.{IsNumbered}
use Rattle.rg_verify.specs.Bodies.{method_numbered, members_numbered, classes_numbered, bodies_numbered}
use Rattle.rg_verify.proofs.Back.{IsBackIfAny, AreParamsBack, AreMembersBack, AreClassesBack}
use Rattle.rg_verify.proofs.BodyCode.{AreNumbered, AreAllNumbered, method-types}

back-any : (cs : List Class) (o : Option Written) → IsBackIfAny cs o → option_map written (option_map (type_of cs) o) ≡ o
back-any cs None h = refl
back-any cs (Some t) h = ap (λ (u : Written). Some u) h

-- Heads of later classes

abbrev Later : (c : ℕ) → List Head → Type 0
Later c [] = Unit {0}
Later c (h ∷ hs) = (h.class == c) ≡ false

later-members : (cs : List Class) (c d : ℕ) (ms : List Member) (hs : List Head) → (d == c) ≡ false → Later c hs → Later c (member_heads cs d ms ++ hs)
later-members cs c d [] hs e h = h
later-members cs c d (field f ∷ ms) hs e h = later-members cs c d ms hs e h
later-members cs c d (method m ∷ ms) hs e h = e

later-classes : (cs : List Class) (c d : ℕ) (ks : List Class) → c < d → Later c (class_heads cs d ks)
later-classes cs c d [] l = tt
later-classes cs c d (k ∷ ks) l =
    let other : (d == c) ≡ false = grind (arith, nat_tests) in
    later-members cs c d k.members (class_heads cs (suc d) ks) other (later-classes cs c (suc d) ks (omega (arith, l)))

later-run : (c : ℕ) (hs : List Head) → Later c hs → run c hs ≡ 0
later-run c [] h = refl
later-run c (x ∷ hs) h = ap (λ (t : Truth). if t then suc (run c hs) else 0) h

later-written : (c k : ℕ) (hs : List Head) (bs : List Bodied) → Later c hs → methods_written c k hs bs ≡ []
later-written c k [] bs h = refl
later-written c k (x ∷ hs) [] h = refl
later-written c k (x ∷ hs) (b ∷ bs) h =
    ap (λ (t : Truth). if t then method (method_written k x b) ∷ methods_written c (suc k) hs bs else []) h

same-number : (c : ℕ) → (c == c) ≡ true
same-number c = grind (arith, nat_tests)

-- The bodies of a class with their names

abbrev members_bodied : List Class → (c : ℕ) → List Member → List Bodied
members_bodied cs c [] = []
members_bodied cs c (field f ∷ ms) = members_bodied cs c ms
members_bodied cs c (method m ∷ ms) = method_named (head_of cs c m) (method_numbered cs c m) ∷ members_bodied cs c ms

named-then : (cs : List Class) (c : ℕ) (ms : List Member) (hs : List Head) (bs : List RaisedBody) →
    methods_named (member_heads cs c ms ++ hs) (members_numbered cs c ms ++ bs) ≡ members_bodied cs c ms ++ methods_named hs bs
named-then cs c [] hs bs = refl
named-then cs c (field f ∷ ms) hs bs = named-then cs c ms hs bs
named-then cs c (method m ∷ ms) hs bs =
    ap (λ (xs : List Bodied). method_named (head_of cs c m) (method_numbered cs c m) ∷ xs) (named-then cs c ms hs bs)

-- what is left for the classes behind it
heads-left : (cs : List Class) (c : ℕ) (ms : List Member) (hs : List Head) → Later c hs →
    drop (run c (member_heads cs c ms ++ hs)) (member_heads cs c ms ++ hs) ≡ hs
heads-left cs c [] hs l = ap (λ (n : ℕ). drop n hs) (later-run c hs l)
heads-left cs c (field f ∷ ms) hs l = heads-left cs c ms hs l
heads-left cs c (method m ∷ ms) hs l =
    let rest = member_heads cs c ms ++ hs in
    ap (λ (t : Truth). drop (if t then suc (run c rest) else 0) (head_of cs c m ∷ rest)) (same-number c) ∙ heads-left cs c ms hs l

bodies-left : (cs : List Class) (c : ℕ) (ms : List Member) (hs : List Head) (bs : List Bodied) → Later c hs →
    drop (run c (member_heads cs c ms ++ hs)) (members_bodied cs c ms ++ bs) ≡ bs
bodies-left cs c [] hs bs l = ap (λ (n : ℕ). drop n bs) (later-run c hs l)
bodies-left cs c (field f ∷ ms) hs bs l = bodies-left cs c ms hs bs l
bodies-left cs c (method m ∷ ms) hs bs l =
    let rest = member_heads cs c ms ++ hs in
    let b = method_named (head_of cs c m) (method_numbered cs c m) in
    ap (λ (t : Truth). drop (if t then suc (run c rest) else 0) (b ∷ (members_bodied cs c ms ++ bs))) (same-number c) ∙ bodies-left cs c ms hs bs l

-- Methods

params-back : (cs : List Class) (s : ℕ) (ps : List Param) → AreParamsNumbered s ps → AreParamsBack cs ps →
    numbered param_written s (map (λ (p : Param). type_of cs p.ty) ps) ≡ ps
params-back cs s [] n b = refl
params-back cs s (p ∷ ps) n b =
    let more = numbered param_written (suc s) (map (λ (q : Param). type_of cs q.ty) ps) in
    let f : Name → Written → Param = λ x t. record { name = x; ty = t } in
    ap (λ (x : Name). f x (written (type_of cs p.ty)) ∷ more) (sym n.0) ∙ ap (λ (t : Written). f p.name t ∷ more) b.0
    ∙ ap (λ (qs : List Param). p ∷ qs) (params-back cs (suc s) ps n.1 b.1)

line-once : (r : Option Written) (line : ℕ) → end_line r (end_line r line) ≡ end_line r line
line-once None line = refl
line-once (Some t) line = refl

body-back : (cs : List Class) (c : ℕ) (m : Method) → IsNumbered cs (method_scope cs c m) true m.body →
    block_named true (length (types_in_front (head_of cs c m))) (numbered_block cs (method_scope cs c m) m.body) ≡ m.body
body-back cs c m n =
    let s = method_scope cs c m in
    let long : length (types_in_front (head_of cs c m)) ≡ length s =
    ap (λ (ts : List Ty). length ts) (sym (method-types cs c m)) ∙ length-map s (λ (x : Slot). x.ty) in
    ap (λ (k : ℕ). block_named true k (numbered_block cs s m.body)) long ∙ n.named

method-back : (cs : List Class) (c k : ℕ) (m : Method) → IsMethodNumbered k m → AreParamsBack cs m.params → IsBackIfAny cs m.result →
    IsNumbered cs (method_scope cs c m) true m.body →
    method_unlined (method_written k (head_of cs c m) (method_named (head_of cs c m) (method_numbered cs c m))) ≡ method_unlined m
method-back cs c k m n ps r b =
    let f : Name → List Param → Option Written → Block → Method = λ x qs o body. record {
      receiver = m.receiver;
      name = x;
      params = qs;
      result = o;
      body = body;
      line = end_line o (end_line m.result m.line);
    } in
    let params = numbered param_written 1 (param_types cs m) in
    let result = option_map written (method_result cs m) in
    let body = block_named true (length (types_in_front (head_of cs c m))) (numbered_block cs (method_scope cs c m) m.body) in
    ap (λ (x : Name). f x params result body) (sym n.name)
    ∙ ap (λ (qs : List Param). f m.name qs result body) (params-back cs 1 m.params n.params ps)
    ∙ ap (λ (o : Option Written). f m.name m.params o body) (back-any cs m.result r)
    ∙ ap (f m.name m.params m.result) (body-back cs c m b)
    ∙ ap (λ (l : ℕ). record m { line = l }) (line-once m.result m.line)

-- Members

methods-back : (cs : List Class) (c k : ℕ) (ms : List Member) (hs : List Head) (bs : List Bodied) → AreMethodsNumbered k ms → AreMembersBack cs ms →
    AreNumbered cs c ms → Later c hs →
    map member_unlined (methods_written c k (member_heads cs c ms ++ hs) (members_bodied cs c ms ++ bs)) ≡ map member_unlined ms
methods-back cs c k [] hs bs n t b l = ap (map member_unlined) (later-written c k hs bs l)
methods-back cs c k (field f ∷ ms) hs bs n t b l = absurd n
methods-back cs c k (method m ∷ ms) hs bs n t b l =
    let h = head_of cs c m in
    let x = method_named h (method_numbered cs c m) in
    let rest = methods_written c (suc k) (member_heads cs c ms ++ hs) (members_bodied cs c ms ++ bs) in
    ap (λ (q : Truth). map member_unlined (if q then method (method_written k h x) ∷ rest else [])) (same-number c)
    ∙ ap (λ (q : Method). method q ∷ map member_unlined rest) (method-back cs c k m n.0 t.0 t.1 b.0)
    ∙ ap (λ (qs : List Member). method (method_unlined m) ∷ qs) (methods-back cs c (suc k) ms hs bs n.1 t.2 b.1 l)

-- methods alone have no types of fields
no-types : (cs : List Class) (j : ℕ) (ms : List Member) → AreMethodsNumbered j ms → field_types cs ms ≡ []
no-types cs j [] n = refl
no-types cs j (field f ∷ ms) n = absurd n
no-types cs j (method m ∷ ms) n = no-types cs (suc j) ms n.1

members-back : (cs : List Class) (c k : ℕ) (ms : List Member) (hs : List Head) (bs : List Bodied) → AreMembersNumbered k ms → AreMembersBack cs ms →
    AreNumbered cs c ms → Later c hs →
    map member_unlined (numbered field_written k (field_types cs ms)
    ++ methods_written c 0 (member_heads cs c ms ++ hs) (members_bodied cs c ms ++ bs))
    ≡ map member_unlined ms
members-back cs c k [] hs bs n t b l = ap (map member_unlined) (later-written c 0 hs bs l)
members-back cs c k (field f ∷ ms) hs bs n t b l =
    let rest = numbered field_written (suc k) (field_types cs ms)
    ++ methods_written c 0 (member_heads cs c ms ++ hs) (members_bodied cs c ms ++ bs) in
    let g : Name → Written → Member = λ x u. field (record { name = x; ty = u; line = 0 }) in
    ap (λ (x : Name). g x (written (type_of cs f.ty)) ∷ map member_unlined rest) (sym n.0)
    ∙ ap (λ (u : Written). g f.name u ∷ map member_unlined rest) t.0
    ∙ ap (λ (qs : List Member). g f.name f.ty ∷ qs) (members-back cs c (suc k) ms hs bs n.1 t.1 b l)
members-back cs c k (method m ∷ ms) hs bs n t b l =
    let all = methods_written c 0 (member_heads cs c (method m ∷ ms) ++ hs) (members_bodied cs c (method m ∷ ms) ++ bs) in
    ap (λ (ts : List Ty). map member_unlined (numbered field_written k ts ++ all)) (no-types cs 0 (method m ∷ ms) n)
    ∙ methods-back cs c 0 (method m ∷ ms) hs bs n t b l

-- Classes

whole-members : (cs : List Class) (c : ℕ) (e : Option Written) (ms : List Member) (hs : List Head) (bs : List Bodied) → AreMembers e ms →
    AreMembersBack cs ms → AreNumbered cs c ms → Later c hs →
    map member_unlined (members_written (option_map (type_of cs) e) (field_types cs ms)
    (methods_written c 0 (member_heads cs c ms ++ hs) (members_bodied cs c ms ++ bs)))
    ≡ map member_unlined ms
whole-members cs c None ms hs bs n t b l = members-back cs c 0 ms hs bs n t b l
whole-members cs c (Some u) ms hs bs n t b l = ap (map member_unlined) (sym n)

class-back : (cs : List Class) (c : ℕ) (k : Class) (hs : List Head) (bs : List Bodied) → k.name ≡ class_name c → AreMembers k.element k.members →
    IsBackIfAny cs k.element → AreMembersBack cs k.members → AreNumbered cs c k.members → Later c hs →
    class_unlined (class_written c (shape_of cs k) (methods_written c 0 (member_heads cs c k.members ++ hs) (members_bodied cs c k.members ++ bs)))
    ≡ class_unlined k
class-back cs c k hs bs name n e t b l =
    let f : Name → Option Written → List Member → Class = λ x o ms. record {
      name = x;
      is_tmp = k.is_tmp;
      element = o;
      members = ms;
      line = 0;
    } in
    let element = option_map written (option_map (type_of cs) k.element) in
    let members = map member_unlined (members_written (option_map (type_of cs) k.element) (field_types cs k.members)
    (methods_written c 0 (member_heads cs c k.members ++ hs) (members_bodied cs c k.members ++ bs))) in
    ap (λ (x : Name). f x element members) (sym name) ∙ ap (λ (o : Option Written). f k.name o members) (back-any cs k.element e)
    ∙ ap (f k.name k.element) (whole-members cs c k.element k.members hs bs n t b l)

pub classes-back : (cs : List Class) (c : ℕ) (ks : List Class) → AreClassesNumbered c ks → AreClassesBack cs ks → AreAllNumbered cs c ks →
    classes_unlined (classes_written c (map (shape_of cs) ks) (class_heads cs c ks) (methods_named (class_heads cs c ks) (classes_numbered cs c ks)))
    ≡ classes_unlined ks
classes-back cs c [] n t b = refl
classes-back cs c (k ∷ ks) n t b =
    let hs = class_heads cs (suc c) ks in
    let rest = methods_named hs (classes_numbered cs (suc c) ks) in
    let heads = member_heads cs c k.members ++ hs in
    let l = later-classes cs c (suc c) ks (omega arith) in
    let f : List Bodied → List Class = λ bs.
    classes_unlined (class_written c (shape_of cs k) (methods_written c 0 heads bs)
    ∷ classes_written (suc c) (map (shape_of cs) ks) (drop (run c heads) heads) (drop (run c heads) bs)) in
    let bs = members_bodied cs c k.members ++ rest in
    let own = class_unlined (class_written c (shape_of cs k) (methods_written c 0 heads bs)) in
    ap f (named-then cs c k.members hs (classes_numbered cs (suc c) ks))
    ∙ ap (λ (gs : List Head). own ∷ classes_unlined (classes_written (suc c) (map (shape_of cs) ks) gs (drop (run c heads) bs)))
    (heads-left cs c k.members hs l)
    ∙ ap (λ (xs : List Bodied). own ∷ classes_unlined (classes_written (suc c) (map (shape_of cs) ks) hs xs)) (bodies-left cs c k.members hs rest l)
    ∙ ap (λ (q : Class). q ∷ classes_unlined (classes_written (suc c) (map (shape_of cs) ks) hs rest))
    (class-back cs c k hs rest n.0 n.1 t.0 t.1 b.0 l)
    ∙ ap (λ (qs : List Class). class_unlined k ∷ qs) (classes-back cs (suc c) ks n.2 t.2 b.1)

-- the program that is written from its own tables and bodies
pub named-alike : (t : Tree) → HasNumbers t → AreClassesBack t.classes t.classes → IsNumbered t.classes [] false t.body →
    AreAllNumbered t.classes 0 t.classes → SameButLines (tree_named (module_of t) (bodies_numbered t)) t
named-alike t n back main methods =
    let f : List Class → Block → Tree = λ cs b. record { classes = cs; manager = t.manager; body = b; line = t.line } in
    let classes = classes_unlined (classes_written 0 (shapes_of t.classes) (heads_of t.classes)
    (methods_named (heads_of t.classes) (classes_numbered t.classes 0 t.classes))) in
    ap (f classes) main.named ∙ ap (λ (cs : List Class). f cs t.body) (classes-back t.classes 0 t.classes n.classes back methods)
