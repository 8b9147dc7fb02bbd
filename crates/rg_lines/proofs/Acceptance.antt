-- The first fault of a program without the lines that no mark has is that of the program, up to its line.
use Rattle.std.proofs.Common.{◌≡◌, refl, sym, ap, ◌∙◌, ℕ, suc, false, List, [], ◌∷◌, map, Option, Some, None, option_map, Ok, Err}
use Rattle.std.specs.Result.{result_err}
use Rattle.rg_base.specs.declared.ty.Ty.{Ty}
use Rattle.rg_base.specs.declared.ty.Ty.TheVariants.{Ref}
use Rattle.rg_base.specs.declared.fault.Code.TheVariants.{BadType}
use Rattle.rg_base.specs.declared.fault.Fault.{Fault}
use Rattle.rg_tree.specs.Tree.{Name, Ty as Written, Param, Field, Method, Member, field, method, Class, Tree}
use Rattle.rg_rules.specs.Answers.{◌>>◌, test, Answer, Lined, Passed, at_line}
use Rattle.rg_rules.specs.Types.{method_result}
use Rattle.rg_rules.specs.Environment.{Env, with_variable, empty}
use Rattle.rg_rules.specs.Headers.{field_header, element_header, param_headers, result_header, method_header, member_headers, no_members, rest_header}
use Rattle.rg_rules.specs.Headers.{class_names, class_members, judge_headers}
use Rattle.rg_rules.specs.Bodies.{Body, with_params, method_env, method_end, method_body, main_body, judge_body, judge_method, judge_members}
use Rattle.rg_rules.specs.Bodies.{judge_methods}
use Rattle.rg_rules.specs.Acceptance.{judge_program, first_fault, Accepted}
use Rattle.rg_lines.specs.Unlined.{field_unlined, method_unlined, member_unlined, class_unlined, classes_unlined, unlined, SameButLines}
use Rattle.rg_lines.specs.Laws.{fault_code}
use Rattle.rg_lines.proofs.DoBlocks.{then-same}
use Rattle.rg_lines.proofs.Types.{type_of-unlined, good_type-unlined, method_result-unlined}
use Rattle.rg_lines.proofs.Judgements.{judge_block-unlined}

-- Faults without their lines

-- a fault without its line
abbrev lineless_fault : {A : Type 0} → Lined A → Answer A
lineless_fault (Ok a) = Ok a
lineless_fault (Err f) = Err f.code

-- two answers are the same up to the lines of faults
abbrev Alike : {A : Type 0} → Lined A → Lined A → Type 0
Alike r s = lineless_fault r ≡ lineless_fault s

alike-then : {A B : Type 0} (r s : Lined A) (rest more : Lined B) → Alike r s → Alike rest more → Alike (◌>>◌ r rest) (◌>>◌ s more)
alike-then (Ok a) (Ok b) rest more h g = g
alike-then (Ok a) (Err f) rest more h g = cc
alike-then (Err e) (Ok b) rest more h g = cc
alike-then (Err e) (Err f) rest more h g = ap Err (cc)

alike_by : {A : Type 0} (i j : ℕ) (s : Answer A) → Alike (at_line i s) (at_line j s)
alike_by i j (Ok a) = refl
alike_by i j (Err c) = refl

alike-line : {A : Type 0} (i j : ℕ) (r s : Answer A) → r ≡ s → Alike (at_line i r) (at_line j s)
alike-line i j r s e = ap (λ x. lineless_fault (at_line i x)) e ∙ alike_by i j s

-- Headers

param_headers-unlined : (cs : List Class) (earlier : List Name) (ps : List Param) →
    param_headers (classes_unlined cs) earlier ps ≡ param_headers cs earlier ps
param_headers-unlined cs earlier [] = refl
param_headers-unlined cs earlier (p ∷ ps) =
    then-same _ _ _ _ refl (then-same _ _ _ _ (good_type-unlined cs p.ty) (param_headers-unlined cs (p.name ∷ earlier) ps))

result_header-unlined : (cs : List Class) (o : Option Written) → result_header (classes_unlined cs) o ≡ result_header cs o
result_header-unlined cs None = refl
result_header-unlined cs (Some t) = then-same _ _ _ _ (good_type-unlined cs t) refl

field_header-unlined : (cs : List Class) (c : Class) (f : Field) →
    field_header (classes_unlined cs) (class_unlined c) (field_unlined f) ≡ field_header cs c f
field_header-unlined cs c f = then-same _ _ _ _ (good_type-unlined cs f.ty) refl

element_header-unlined : (cs : List Class) (c : Class) (t : Written) → element_header (classes_unlined cs) (class_unlined c) t ≡ element_header cs c t
element_header-unlined cs c t = then-same _ _ _ _ (good_type-unlined cs t) refl

method_header-unlined : (cs : List Class) (c : Class) (m : Method) →
    method_header (classes_unlined cs) (class_unlined c) (method_unlined m) ≡ method_header cs c m
method_header-unlined cs c m =
    then-same _ _ _ _ refl (then-same _ _ _ _ (param_headers-unlined cs [] m.params) (result_header-unlined cs m.result))

member_headers-unlined : (cs : List Class) (c : Class) (earlier : List Name) (ms : List Member) →
    Alike (member_headers (classes_unlined cs) (class_unlined c) earlier (map member_unlined ms)) (member_headers cs c earlier ms)
member_headers-unlined cs c earlier [] = refl
member_headers-unlined cs c earlier (field f ∷ ms) =
    alike-then _ _ _ _ (alike-line 0 f.line _ _ refl) (alike-then _ _ _ _ (alike-line 0 f.line _ _ (field_header-unlined cs c f))
    (member_headers-unlined cs c (f.name ∷ earlier) ms))
member_headers-unlined cs c earlier (method m ∷ ms) =
    alike-then _ _ _ _ (alike-line _ m.line _ _ refl) (alike-then _ _ _ _ (alike-line _ m.line _ _ (method_header-unlined cs c m))
    (member_headers-unlined cs c (m.name ∷ earlier) ms))

no_members-unlined : (ms : List Member) → no_members (map member_unlined ms) ≡ no_members ms
no_members-unlined [] = refl
no_members-unlined (m ∷ ms) = refl

rest_header-unlined : (cs : List Class) (c : Class) (o : Option Written) →
    Alike (rest_header (classes_unlined cs) (class_unlined c) o) (rest_header cs c o)
rest_header-unlined cs c None = member_headers-unlined cs c [] c.members
rest_header-unlined cs c (Some t) =
    alike-then _ _ _ _ (alike-line 0 c.line _ _ (element_header-unlined cs c t))
    (alike-line 0 c.line _ _ (ap (λ b. test b BadType) (no_members-unlined c.members)))

class_names-unlined : (earlier : List Name) (cs : List Class) → Alike (class_names earlier (classes_unlined cs)) (class_names earlier cs)
class_names-unlined earlier [] = refl
class_names-unlined earlier (c ∷ cs) = alike-then _ _ _ _ (alike-line 0 c.line _ _ refl) (class_names-unlined (c.name ∷ earlier) cs)

class_members-unlined : (cs ds : List Class) → Alike (class_members (classes_unlined cs) (classes_unlined ds)) (class_members cs ds)
class_members-unlined cs [] = refl
class_members-unlined cs (d ∷ ds) = alike-then _ _ _ _ (rest_header-unlined cs d d.element) (class_members-unlined cs ds)

judge_headers-unlined : (cs : List Class) → Alike (judge_headers (classes_unlined cs)) (judge_headers cs)
judge_headers-unlined cs = alike-then _ _ _ _ (class_names-unlined [] cs) (class_members-unlined cs cs)

-- Bodies

with_params-unlined : (cs : List Class) (ps : List Param) (env : Env) → with_params (classes_unlined cs) ps env ≡ with_params cs ps env
with_params-unlined cs [] env = refl
with_params-unlined cs (p ∷ ps) env = rw (type_of-unlined cs p.ty) (with_params-unlined cs ps _)

method_body-unlined : (cs : List Class) (c : ℕ) (m : Method) → method_body (classes_unlined cs) c (method_unlined m) ≡ method_body cs c m
method_body-unlined cs c m =
    let f : Env → Option Ty → Body = λ e t. record { front = e; result = t; block = m.body; after = method_end m.result } in
    ap (λ e. f e (method_result (classes_unlined cs) m)) (with_params-unlined cs m.params (with_variable empty None (Ref m.receiver c) false))
    ∙ ap (f (method_env cs c m)) (method_result-unlined cs m)

judge_body-unlined : (cs : List Class) (b : Body) → judge_body (classes_unlined cs) b ≡ judge_body cs b
judge_body-unlined cs b = judge_block-unlined cs b.result b.front b.block

judge_method-unlined : (cs : List Class) (c : ℕ) (m : Method) →
    Alike (judge_method (classes_unlined cs) c (method_unlined m)) (judge_method cs c m)
judge_method-unlined cs c m =
    alike-then _ _ _ _ (ap lineless_fault (ap (judge_body (classes_unlined cs)) (method_body-unlined cs c m)
    ∙ judge_body-unlined cs (method_body cs c m))) (alike-line _ m.line _ _ refl)

judge_members-unlined : (cs : List Class) (c : ℕ) (ms : List Member) →
    Alike (judge_members (classes_unlined cs) c (map member_unlined ms)) (judge_members cs c ms)
judge_members-unlined cs c [] = refl
judge_members-unlined cs c (field f ∷ ms) = judge_members-unlined cs c ms
judge_members-unlined cs c (method m ∷ ms) = alike-then _ _ _ _ (judge_method-unlined cs c m) (judge_members-unlined cs c ms)

judge_methods-unlined : (cs : List Class) (c : ℕ) (ds : List Class) →
    Alike (judge_methods (classes_unlined cs) c (classes_unlined ds)) (judge_methods cs c ds)
judge_methods-unlined cs c [] = refl
judge_methods-unlined cs c (d ∷ ds) = alike-then _ _ _ _ (judge_members-unlined cs c d.members) (judge_methods-unlined cs (suc c) ds)

-- Programs

judge_program-unlined : (t : Tree) → Alike (judge_program (unlined t)) (judge_program t)
judge_program-unlined t =
    alike-then _ _ _ _ (judge_headers-unlined t.classes) (alike-then _ _ _ _ (judge_methods-unlined t.classes 0 t.classes)
    (alike-then _ _ _ _ (ap lineless_fault (judge_body-unlined t.classes (main_body t))) refl))

code_by : (r : Lined Passed) → option_map (λ (f : Fault). f.code) (result_err r) ≡ result_err (lineless_fault r)
code_by (Ok a) = refl
code_by (Err f) = refl

pub fault_code-unlined : (t : Tree) → fault_code (unlined t) ≡ fault_code t
fault_code-unlined t =
    code_by (judge_program (unlined t)) ∙ (ap result_err (judge_program-unlined t) ∙ sym (code_by (judge_program t)))

none_by : (o : Option Fault) → option_map (λ (f : Fault). f.code) o ≡ None → o ≡ None
none_by None h = refl
none_by (Some f) h = cc

pub same-fault : (t u : Tree) → SameButLines t u → fault_code t ≡ fault_code u
same-fault t u h = sym (fault_code-unlined t) ∙ (ap fault_code h ∙ fault_code-unlined u)

pub same-acceptance : (t u : Tree) → SameButLines t u → Accepted t → Accepted u
same-acceptance t u h accepted = none_by (first_fault u) (sym (same-fault t u h) ∙ ap (option_map (λ (f : Fault). f.code)) accepted)
