-- The bytes of the lexemes are the canonical text: each lemma says it of the lexemes of one kind of phrase, in front of others.
use Rattle.std.proofs.Common.{◌≡◌, ℕ, suc, ◌*◌, Bool, true, false, nat_lt, List, [], ◌∷◌, ◌++◌, replicate, Option, None, Some, codes, refl, sym, ◌∙◌}
use Rattle.std.proofs.Common.{ap, append_assoc, append-nil}
use Rattle.std.specs.Prelude.{flat_map}
use Rattle.rg_base.specs.declared.words.Cap.{Cap}
use Rattle.rg_base.specs.declared.words.Cap.TheVariants.{Mut, Tmp, Paused, Imm, Iso}
use Rattle.rg_base.specs.declared.words.Manager.{Manager}
use Rattle.rg_base.specs.declared.words.Manager.TheVariants.{Arena, Count, Trace}
use Rattle.rg_base.specs.declared.words.Sign.TheVariants as s
use Rattle.rg_base.specs.declared.words.Keyword.TheVariants as w
use Rattle.rg_tree.specs.declared.rows.BinOp.{BinOp}
use Rattle.rg_tree.specs.declared.rows.BinOp.TheVariants.{Or, And, Eq, Ne, Lt, Le, Gt, Ge, Add, Sub, Mul, Div, Rem}
use Rattle.rg_base.specs.Text.{bool_text}
use Rattle.rg_tree.specs.Tree.{Name, Variable, Path, Ty, int, bool, ref, Expr, number, boolean, nil, path, is_nil, neg, not, binary, size, element}
use Rattle.rg_tree.specs.Tree.{Call, Right, value, new, new_tmp, new_iso, freeze, merge, read, more, result_of, Stmt, stmt, StmtKind, declare, assign}
use Rattle.rg_tree.specs.Tree.{assign_element, call, swap, branch, while, enter, print, collect, return, Else, no_else, otherwise, Block, empty, then}
use Rattle.rg_tree.specs.Tree.{Param, Member, field, method, Class, Tree}
use Rattle.rg_tree.specs.Canonical.{op_text, cap_text, manager_text, level, left_level, right_level, base_text, path_text, in_parens, expr_text}
use Rattle.rg_tree.specs.Canonical.{ty_text, joined, arg_texts, call_text, size_text, right_text, giving_text, stmt_text, kind_text, else_text}
use Rattle.rg_tree.specs.Canonical.{block_text, param_texts, result_text, member_text, class_word, rest_text, class_text, line_of, canon}
use Rattle.rg_print.proofs.Canon.Lexemes.{Lexeme, word, mark, named, lexeme_text, text_of, word_text, space, newline, indent, cap_word, manager_word}
use Rattle.rg_print.proofs.Canon.Lexemes.{op_lexeme, base_lexeme, dotted, path_lexemes, ty_lexemes, boolean_word, enclosed, expr_lexemes}
use Rattle.rg_print.proofs.Canon.Lexemes.{index_lexemes, size_lexemes, more_arg_lexemes, arg_lexemes, call_lexemes, right_lexemes, giving_lexemes}
use Rattle.rg_print.proofs.Canon.Lexemes.{braces, stmt_lexemes, kind_lexemes, else_lexemes, block_lexemes, more_param_lexemes, param_lexemes}
use Rattle.rg_print.proofs.Canon.Lexemes.{result_lexemes, member_lexemes, members_lexemes, class_lexemes, rest_lexemes, one_class_lexemes}
use Rattle.rg_print.proofs.Canon.Lexemes.{classes_lexemes, program_lexemes}

-- words and signs
cap-text : (c : Cap) → word_text (cap_word c) ≡ cap_text c
cap-text Mut = refl
cap-text Tmp = refl
cap-text Paused = refl
cap-text Imm = refl
cap-text Iso = refl

manager-text : (m : Manager) → word_text (manager_word m) ≡ manager_text m
manager-text Arena = refl
manager-text Count = refl
manager-text Trace = refl

op-text : (op : BinOp) (rest : List Lexeme) → text_of (space ∷ op_lexeme op ∷ space ∷ rest) ≡ op_text op ++ text_of rest
op-text Or rest = refl
op-text And rest = refl
op-text Eq rest = refl
op-text Ne rest = refl
op-text Lt rest = refl
op-text Le rest = refl
op-text Gt rest = refl
op-text Ge rest = refl
op-text Add rest = refl
op-text Sub rest = refl
op-text Mul rest = refl
op-text Div rest = refl
op-text Rem rest = refl

bool-text : (b : Bool) → word_text (boolean_word b) ≡ bool_text b
bool-text true = refl
bool-text false = refl

-- paths and types
base-text : (v : Variable) → lexeme_text (base_lexeme v) ≡ base_text v
base-text None = refl
base-text (Some x) = refl

dotted-text : (fs : List Name) (rest : List Lexeme) → text_of (dotted fs rest) ≡ flat_map (λ f. codes "." ++ f) fs ++ text_of rest
dotted-text [] rest = refl
dotted-text (f ∷ fs) rest = rw (dotted-text fs rest) (simp append_assoc)

path-text : (q : Path) (rest : List Lexeme) → text_of (path_lexemes q rest) ≡ path_text q ++ text_of rest
path-text q rest = rw (base-text q.base, dotted-text q.fields rest) (simp append_assoc)

ty-text : (t : Ty) (rest : List Lexeme) → text_of (ty_lexemes t rest) ≡ ty_text t ++ text_of rest
ty-text int rest = refl
ty-text bool rest = refl
ty-text (ref c n) rest = rw (cap-text c) (simp append_assoc)

-- expressions
enclosed-text : (v : Bool) (inner : List Lexeme → List Lexeme) (text : List ℕ) → ((rest : List Lexeme) → text_of (inner rest) ≡ text ++ text_of rest)
    → (rest : List Lexeme) → text_of (enclosed v inner rest) ≡ in_parens v text ++ text_of rest
enclosed-text true inner text h rest = rw (h (mark s.CloseParen ∷ rest)) (simp append_assoc)
enclosed-text false inner text h rest = h rest

expr-text : (e : Expr) (rest : List Lexeme) → text_of (expr_lexemes e rest) ≡ expr_text e ++ text_of rest
expr-text (number z) rest = refl
expr-text (boolean b) rest = rw (bool-text b) refl
expr-text nil rest = refl
expr-text (path q) rest = path-text q rest
expr-text (is_nil q) rest = path-text q _ ∙ simp append_assoc
expr-text (neg a) rest = rw (enclosed-text (nat_lt (level a) 7) (expr_lexemes a) (expr_text a) (expr-text a) rest) refl
expr-text (not a) rest = rw (enclosed-text (nat_lt (level a) 3) (expr_lexemes a) (expr_text a) (expr-text a) rest) refl
expr-text (binary op a b) rest =
    enclosed-text (nat_lt (level a) (left_level op)) (expr_lexemes a) (expr_text a) (expr-text a) _
    ∙ (rw (
      op-text op (enclosed (nat_lt (level b) (right_level op)) (expr_lexemes b) rest),
      enclosed-text (nat_lt (level b) (right_level op)) (expr_lexemes b) (expr_text b) (expr-text b) rest,
    ) (simp append_assoc))
expr-text (size q) rest = rw (path-text q rest) refl
expr-text (element q e) rest =
    path-text q (mark s.OpenBracket ∷ expr_lexemes e (mark s.CloseBracket ∷ rest))
    ∙ (rw (expr-text e (mark s.CloseBracket ∷ rest)) (simp append_assoc))

-- texts with a comma between, as the first one and the rest
joined-cons : (x : List ℕ) (xs : List (List ℕ)) → joined (x ∷ xs) ≡ x ++ flat_map (λ y. codes ", " ++ y) xs
joined-cons x [] = rw append-nil refl
joined-cons x (y ∷ xs) = rw (joined-cons y xs) (simp append_assoc)

-- arguments, calls and right sides
more-args-text : (es : List Expr) (rest : List Lexeme)
    → text_of (more_arg_lexemes es rest) ≡ flat_map (λ y. codes ", " ++ y) (arg_texts es) ++ text_of rest
more-args-text [] rest = refl
more-args-text (e ∷ es) rest = rw (expr-text e (more_arg_lexemes es rest), more-args-text es rest) (simp append_assoc)

args-text : (es : List Expr) (rest : List Lexeme) → text_of (arg_lexemes es rest) ≡ joined (arg_texts es) ++ text_of rest
args-text [] rest = refl
args-text (e ∷ es) rest =
    rw (expr-text e (more_arg_lexemes es rest), more-args-text es rest, joined-cons (expr_text e) (arg_texts es)) (simp append_assoc)

call-text : (a : Call) (rest : List Lexeme) → text_of (call_lexemes a rest) ≡ call_text a ++ text_of rest
call-text a rest =
    rw (
      path-text a.target (mark s.Dot ∷ named a.method ∷ mark s.OpenParen ∷ arg_lexemes a.args (mark s.CloseParen ∷ rest)),
      args-text a.args (mark s.CloseParen ∷ rest),
    ) (simp append_assoc)

size-text : (o : Option Expr) (rest : List Lexeme) → text_of (size_lexemes o rest) ≡ size_text o ++ text_of rest
size-text None rest = refl
size-text (Some e) rest = rw (expr-text e (mark s.CloseBracket ∷ rest)) (simp append_assoc)

right-text : (r : Right) (rest : List Lexeme) → text_of (right_lexemes r rest) ≡ right_text r ++ text_of rest
right-text (value e) rest = expr-text e rest
right-text (new n o) rest = rw (size-text o rest) (simp append_assoc)
right-text (new_tmp n o) rest = rw (size-text o rest) (simp append_assoc)
right-text (new_iso n o m) rest =
    rw (size-text o (space ∷ word w.In ∷ space ∷ word (manager_word m) ∷ rest), manager-text m) (simp append_assoc)
right-text read rest = refl
right-text more rest = refl
right-text (result_of a) rest = call-text a rest
right-text _ rest = simp append_assoc

-- the lines of a block in its braces
braces-text : (d : ℕ) (body : List Lexeme → List Lexeme) (text : List ℕ) → ((rest : List Lexeme) → text_of (body rest) ≡ text ++ text_of rest)
    → (rest : List Lexeme) → text_of (braces d body rest) ≡ codes "{" ++ 10 ∷ [] ++ text ++ replicate (2 * d) 32 ++ codes "}" ++ text_of rest
braces-text d body text h rest = rw (h (indent d ∷ mark s.CloseBrace ∷ rest)) (simp append_assoc)

-- the same, where the text of what follows is known
braces-before : (d : ℕ) (body : List Lexeme → List Lexeme) (text : List ℕ) → ((rest : List Lexeme) → text_of (body rest) ≡ text ++ text_of rest)
    → (rest : List Lexeme) (t : List ℕ) → text_of rest ≡ t
    → text_of (braces d body rest) ≡ codes "{" ++ 10 ∷ [] ++ text ++ replicate (2 * d) 32 ++ codes "}" ++ t
braces-before d body text h rest t e =
    braces-text d body text h rest ∙ ap (λ x. codes "{" ++ 10 ∷ [] ++ text ++ replicate {A = ℕ} (2 * d) 32 ++ codes "}" ++ x) e

giving-text : (o : Option Name) (rest : List Lexeme) → text_of (giving_lexemes o rest) ≡ giving_text o ++ text_of rest
giving-text None rest = refl
giving-text (Some n) rest = simp append_assoc

-- a line of five parts behind its indent
line-of-five : (r a b c d e f g : List ℕ) → r ++ (a ++ (b ++ (c ++ (d ++ (e ++ (f ++ g)))))) ≡ (r ++ (a ++ b ++ c ++ d ++ e) ++ f) ++ g
line-of-five r a b c d e f g = simp append_assoc

-- an if, where the lines from the brace that closes its first block on are known
lines-of-if : (r a e o n b c f x t : List ℕ) → r ++ c ++ f ≡ x ++ t
    → r ++ (a ++ (e ++ (o ++ n ++ b ++ r ++ c ++ f))) ≡ ((r ++ (a ++ e ++ o) ++ n) ++ b ++ x) ++ t
lines-of-if r a e o n b c f x t h =
    let k : r ++ (c ++ f) ≡ x ++ t = sym (append_assoc r c f) ∙ h in
    simp append_assoc (rw k refl)

-- statements, else and blocks
mutual
  stmt-text : (d : ℕ) (a : Stmt) (rest : List Lexeme) → text_of (stmt_lexemes d a rest) ≡ stmt_text d a ++ text_of rest
  stmt-text d (stmt line k) rest = kind-text d k rest

  -- behind the indent, with the end of the last line
  kind-text : (d : ℕ) (k : StmtKind) (rest : List Lexeme) → replicate (2 * d) 32 ++ text_of (kind_lexemes d k (newline ∷ rest))
      ≡ kind_text d k ++ text_of rest
  kind-text d (declare n t r) rest =
      rw (
        ty-text t (space ∷ mark s.Assign ∷ space ∷ right_lexemes r (mark s.Semicolon ∷ newline ∷ rest)),
        right-text r (mark s.Semicolon ∷ newline ∷ rest),
      ) (simp append_assoc)
  kind-text d (assign q r) rest =
      rw (
        path-text q (space ∷ mark s.Assign ∷ space ∷ right_lexemes r (mark s.Semicolon ∷ newline ∷ rest)),
        right-text r (mark s.Semicolon ∷ newline ∷ rest),
      ) (simp append_assoc)
  kind-text d (assign_element q e r) rest =
      let after = space ∷ mark s.Assign ∷ space ∷ right_lexemes r (mark s.Semicolon ∷ newline ∷ rest) in
      rw (
        path-text q (index_lexemes e after),
        expr-text e (mark s.CloseBracket ∷ after),
        right-text r (mark s.Semicolon ∷ newline ∷ rest),
      ) (simp append_assoc)
  kind-text d (call a) rest = rw (call-text a (mark s.Semicolon ∷ newline ∷ rest)) (simp append_assoc)
  kind-text d (swap n q) rest =
      rw (path-text q (mark s.Semicolon ∷ newline ∷ rest))
      (line-of-five (replicate {A = ℕ} (2 * d) 32) (codes "swap ") n (codes ", ") (path_text q) (codes ";") (10 ∷ []) (text_of rest))
  kind-text d (branch e b o) rest =
      rw (
        expr-text e (space ∷ braces d (block_lexemes (suc d) b) (else_lexemes d o (newline ∷ rest))),
        braces-text d (block_lexemes (suc d) b) (block_text (suc d) b) (block-text (suc d) b) (else_lexemes d o (newline ∷ rest)),
      )
      (lines-of-if (replicate {A = ℕ} (2 * d) 32) (codes "if ") (expr_text e) (codes " {") (10 ∷ []) (block_text (suc d) b) (codes "}")
      (text_of (else_lexemes d o (newline ∷ rest))) (else_text d o) (text_of rest) (else-text d o rest))
  kind-text d (while e b) rest =
      rw (
        expr-text e (space ∷ braces d (block_lexemes (suc d) b) (newline ∷ rest)),
        braces-text d (block_lexemes (suc d) b) (block_text (suc d) b) (block-text (suc d) b) (newline ∷ rest),
      ) (simp append_assoc)
  kind-text d (enter q n b o) rest =
      let after = giving_lexemes o (newline ∷ rest) in
      rw (
        path-text q (space ∷ word w.As ∷ space ∷ named n ∷ space ∷ braces d (block_lexemes (suc d) b) after),
        braces-before d (block_lexemes (suc d) b) (block_text (suc d) b) (block-text (suc d) b) after
            (giving_text o ++ text_of (newline ∷ rest)) (giving-text o (newline ∷ rest)),
      ) (simp append_assoc)
  kind-text d (print e) rest = rw (expr-text e (mark s.Semicolon ∷ newline ∷ rest)) (simp append_assoc)
  kind-text d collect rest = simp append_assoc
  kind-text d (return e) rest = rw (expr-text e (mark s.Semicolon ∷ newline ∷ rest)) (simp append_assoc)

  -- from the indent of the brace that closes the first block
  else-text : (d : ℕ) (o : Else) (rest : List Lexeme)
      → replicate (2 * d) 32 ++ codes "}" ++ text_of (else_lexemes d o (newline ∷ rest)) ≡ else_text d o ++ text_of rest
  else-text d no_else rest = simp append_assoc
  else-text d (otherwise b) rest =
      rw (braces-text d (block_lexemes (suc d) b) (block_text (suc d) b) (block-text (suc d) b) (newline ∷ rest)) (simp append_assoc)

  block-text : (d : ℕ) (b : Block) (rest : List Lexeme) → text_of (block_lexemes d b rest) ≡ block_text d b ++ text_of rest
  block-text d empty rest = refl
  block-text d (then a b) rest = rw (stmt-text d a (block_lexemes d b rest), block-text d b rest) (simp append_assoc)

-- members, classes and programs
more-params-text : (ps : List Param) (rest : List Lexeme)
    → text_of (more_param_lexemes ps rest) ≡ flat_map (λ y. codes ", " ++ y) (param_texts ps) ++ text_of rest
more-params-text [] rest = refl
more-params-text (p ∷ ps) rest = rw (ty-text p.ty (more_param_lexemes ps rest), more-params-text ps rest) (simp append_assoc)

params-text : (ps : List Param) (rest : List Lexeme) → text_of (param_lexemes ps rest) ≡ joined (param_texts ps) ++ text_of rest
params-text [] rest = refl
params-text (p ∷ ps) rest =
    rw (ty-text p.ty (more_param_lexemes ps rest), more-params-text ps rest, joined-cons (p.name ++ codes ": " ++ ty_text p.ty) (param_texts ps))
    (simp append_assoc)

result-text : (o : Option Ty) (rest : List Lexeme) → text_of (result_lexemes o rest) ≡ result_text o ++ text_of rest
result-text None rest = refl
result-text (Some t) rest = rw (ty-text t rest) (simp append_assoc)

member-text : (m : Member) (rest : List Lexeme) → text_of (member_lexemes m rest) ≡ member_text m ++ text_of rest
member-text (field f) rest = rw (ty-text f.ty (mark s.Semicolon ∷ newline ∷ rest)) (simp append_assoc)
member-text (method m) rest =
    let body = space ∷ braces 1 (block_lexemes 2 m.body) (newline ∷ rest) in
    rw (
      cap-text m.receiver,
      params-text m.params (mark s.CloseParen ∷ result_lexemes m.result body),
      result-text m.result body,
      braces-text 1 (block_lexemes 2 m.body) (block_text 2 m.body) (block-text 2 m.body) (newline ∷ rest),
    ) (simp append_assoc)

members-text : (ms : List Member) (rest : List Lexeme) → text_of (members_lexemes ms rest) ≡ flat_map member_text ms ++ text_of rest
members-text [] rest = refl
members-text (m ∷ ms) rest = rw (member-text m (members_lexemes ms rest), members-text ms rest) (simp append_assoc)

class-word-text : (v : Bool) (rest : List Lexeme) → text_of (class_lexemes v (space ∷ rest)) ≡ class_word v ++ text_of rest
class-word-text false rest = refl
class-word-text true rest = refl

rest-text : (o : Option Ty) (ms : List Member) (rest : List Lexeme)
    → text_of (space ∷ rest_lexemes o ms rest) ≡ rest_text o ms ++ text_of rest
rest-text None ms rest =
    rw (members-text ms (mark s.CloseBrace ∷ newline ∷ rest))
    (ap (λ x. codes " {" ++ 10 ∷ x) (sym (append_assoc (flat_map member_text ms) (line_of 0 (codes "}")) (text_of rest))))
rest-text (Some t) ms rest = rw (ty-text t (mark s.CloseBracket ∷ mark s.Semicolon ∷ newline ∷ rest)) (simp append_assoc)

-- a class, where what stands behind its name is known
class-of-parts : (a n x y t : List ℕ) → x ≡ y ++ t → a ++ (n ++ x) ≡ (a ++ n ++ y) ++ t
class-of-parts a n x y t h = rw h (simp append_assoc)

class-text : (k : Class) (rest : List Lexeme) → text_of (one_class_lexemes k rest) ≡ class_text k ++ text_of rest
class-text k rest =
    let behind = space ∷ rest_lexemes k.element k.members rest in
    rw (class-word-text k.is_tmp (named k.name ∷ behind))
    (class-of-parts (class_word k.is_tmp) k.name (text_of behind) (rest_text k.element k.members) (text_of rest)
    (rest-text k.element k.members rest))

classes-text : (ks : List Class) (rest : List Lexeme) → text_of (classes_lexemes ks rest) ≡ flat_map class_text ks ++ text_of rest
classes-text [] rest = refl
classes-text (k ∷ ks) rest = rw (class-text k (classes_lexemes ks rest), classes-text ks rest) (simp append_assoc)

-- the bytes of a program's lexemes are its canonical text
pub program-text : (r : Tree) → text_of (program_lexemes r) ≡ canon r
program-text r =
    let body = braces 0 (block_lexemes 1 r.body) (newline ∷ []) in
    rw (
      classes-text r.classes (word w.Main ∷ space ∷ word (manager_word r.manager) ∷ space ∷ body),
      manager-text r.manager,
      braces-text 0 (block_lexemes 1 r.body) (block_text 1 r.body) (block-text 1 r.body) (newline ∷ []),
    ) (simp append_assoc)
