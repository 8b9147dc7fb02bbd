-- A program is made of itself without lines and of the lines of its marks, in the order of its code.
use Rattle.std.proofs.Common.{◌≡◌, refl, sym, ap, ◌∙◌, ℕ, List, [], ◌∷◌, map, Option, Some, None}
use Rattle.rg_tree.specs.Tree.{Ty, stmt, StmtKind, declare, assign, assign_element, call, swap, branch, while, enter, print, collect, return, Else}
use Rattle.rg_tree.specs.Tree.{no_else, otherwise, Block, empty as none, then as next, Method, Member, field, method, Class, Tree}
use Rattle.rg_tree.specs.Lineless.{kind_lineless, else_lineless, block_lineless, member_lineless, class_lineless, lineless}
use Rattle.rg_lines.specs.Unlined.{end_line, method_unlined, member_unlined, classes_unlined, unlined, SameButLines}

-- The lines of marks, in front of others

abbrev mutual
  -- those behind the first mark of a statement of a line
  pub kind_lines : (line : ℕ) → StmtKind → List ℕ → List ℕ
  kind_lines line (declare x t r) ls = ls
  kind_lines line (assign p r) ls = ls
  kind_lines line (assign_element q e r) ls = ls
  kind_lines line (call c) ls = ls
  kind_lines line (swap y p) ls = ls
  kind_lines line (branch e b other) ls = block_lines b (line ∷ else_lines line other ls)
  kind_lines line (while e b) ls = block_lines b (line ∷ ls)
  kind_lines line (enter p z b giving) ls = block_lines b (line ∷ ls)
  kind_lines line (print e) ls = ls
  kind_lines line collect ls = ls
  kind_lines line (return e) ls = ls

  pub else_lines : (line : ℕ) → Else → List ℕ → List ℕ
  else_lines line no_else ls = ls
  else_lines line (otherwise b) ls = block_lines b (line ∷ ls)

  pub block_lines : Block → List ℕ → List ℕ
  block_lines none ls = ls
  block_lines (next (stmt line k) b) ls = line ∷ kind_lines line k (block_lines b ls)

-- the mark at the end of a method, if there is one
abbrev pub end_lines : (result : Option Ty) → (line : ℕ) → List ℕ → List ℕ
end_lines None line ls = line ∷ ls
end_lines (Some t) line ls = ls

abbrev pub members_lines : List Member → List ℕ → List ℕ
members_lines [] ls = ls
members_lines (field f ∷ ms) ls = members_lines ms ls
members_lines (method m ∷ ms) ls = block_lines m.body (end_lines m.result m.line (members_lines ms ls))

abbrev pub methods_lines : List Class → List ℕ → List ℕ
methods_lines [] ls = ls
methods_lines (c ∷ cs) ls = members_lines c.members (methods_lines cs ls)

-- main's, and then those of the methods
abbrev pub tree_lines : Tree → List ℕ
tree_lines t = block_lines t.body (t.line ∷ methods_lines t.classes [])

-- What is made of these lines again, with the lines that are left

-- the first line, or 0
abbrev first : List ℕ → ℕ
first [] = 0
first (l ∷ ls) = l

-- the lines behind it
abbrev others : List ℕ → List ℕ
others [] = []
others (l ∷ ls) = ls

-- the end of a block has the line of its statement, which is left out
abbrev ended : {A B : Type 0} → (A → B) → A × List ℕ → B × List ℕ
ended f p = (f p.0, others p.1)

-- two parts, one behind the other
abbrev both : {A B C : Type 0} → (A → B → C) → A × List ℕ → (List ℕ → B × List ℕ) → C × List ℕ
both f p go = (f p.0 (go p.1).0, (go p.1).1)

abbrev mutual
  kind_relined : StmtKind → List ℕ → StmtKind × List ℕ
  kind_relined (declare x t r) ls = (declare x t r, ls)
  kind_relined (assign p r) ls = (assign p r, ls)
  kind_relined (assign_element q e r) ls = (assign_element q e r, ls)
  kind_relined (call c) ls = (call c, ls)
  kind_relined (swap y p) ls = (swap y p, ls)
  kind_relined (branch e b other) ls = both (λ b o. branch e b o) (ended (λ b. b) (block_relined b ls)) (else_relined other)
  kind_relined (while e b) ls = ended (λ b. while e b) (block_relined b ls)
  kind_relined (enter p z b giving) ls = ended (λ b. enter p z b giving) (block_relined b ls)
  kind_relined (print e) ls = (print e, ls)
  kind_relined collect ls = (collect, ls)
  kind_relined (return e) ls = (return e, ls)

  else_relined : Else → List ℕ → Else × List ℕ
  else_relined no_else ls = (no_else, ls)
  else_relined (otherwise b) ls = ended (λ b. otherwise b) (block_relined b ls)

  block_relined : Block → List ℕ → Block × List ℕ
  block_relined none ls = (none, ls)
  block_relined (next (stmt line k) b) ls = both (λ k b. next (stmt (first ls) k) b) (kind_relined k (others ls)) (block_relined b)

-- a method with a result gets no line
abbrev end_relined : (result : Option Ty) → List ℕ → ℕ × List ℕ
end_relined None ls = (first ls, others ls)
end_relined (Some t) ls = (0, ls)

abbrev method_relined : Method → List ℕ → Method × List ℕ
method_relined m ls = both (λ b line. record m { body = b; line = line }) (block_relined m.body ls) (end_relined m.result)

abbrev members_relined : List Member → List ℕ → List Member × List ℕ
members_relined [] ls = ([], ls)
members_relined (field f ∷ ms) ls = both (λ (m : Member) ms. m ∷ ms) (field f, ls) (members_relined ms)
members_relined (method m ∷ ms) ls = both (λ m ms. method m ∷ ms) (method_relined m ls) (members_relined ms)

abbrev methods_relined : List Class → List ℕ → List Class × List ℕ
methods_relined [] ls = ([], ls)
methods_relined (c ∷ cs) ls = both (λ ms cs. record c { members = ms } ∷ cs) (members_relined c.members ls) (methods_relined cs)

-- a program without lines, with these
abbrev relined : Tree → List ℕ → Tree
relined t ls = record t {
  body = (block_relined t.body ls).0;
  line = first (block_relined t.body ls).1;
  classes = (methods_relined t.classes (others (block_relined t.body ls).1)).0;
}

-- So a program is made of the two

-- of two parts of which this is so
both-is : {A B C : Type 0} (f : A → B → C) (p : A × List ℕ) (go : List ℕ → B × List ℕ) (a : A) (b : B) (ms ls : List ℕ) → p ≡ (a, ms) →
    go ms ≡ (b, ls) → both f p go ≡ (f a b, ls)
both-is f p go a b ms ls h g = ap (λ q. both f q go) h ∙ ap (λ (q : _ × List ℕ). (f a q.0, q.1)) g

mutual
  kind-relined : (line : ℕ) (k : StmtKind) (ls : List ℕ) → kind_relined (kind_lineless k) (kind_lines line k ls) ≡ (k, ls)
  kind-relined line (branch e b other) ls =
      both-is (λ b o. branch e b o) _ (else_relined (else_lineless other)) b other (else_lines line other ls) ls
      (ap (ended (λ b. b)) (block-relined b (line ∷ else_lines line other ls))) (else-relined line other ls)
  kind-relined line (while e b) ls = ap (ended (λ b. while e b)) (block-relined b (line ∷ ls))
  kind-relined line (enter p z b giving) ls = ap (ended (λ b. enter p z b giving)) (block-relined b (line ∷ ls))
  kind-relined line _ ls = refl

  else-relined : (line : ℕ) (o : Else) (ls : List ℕ) → else_relined (else_lineless o) (else_lines line o ls) ≡ (o, ls)
  else-relined line no_else ls = refl
  else-relined line (otherwise b) ls = ap (ended (λ b. otherwise b)) (block-relined b (line ∷ ls))

  block-relined : (b : Block) (ls : List ℕ) → block_relined (block_lineless b) (block_lines b ls) ≡ (b, ls)
  block-relined none ls = refl
  block-relined (next (stmt line k) b) ls =
      both-is (λ k b. next (stmt line k) b) _ (block_relined (block_lineless b)) k b (block_lines b ls) ls
      (kind-relined line k (block_lines b ls)) (block-relined b ls)

end-relined : (o : Option Ty) (line : ℕ) (ls : List ℕ) → end_relined o (end_lines o line ls) ≡ (end_line o line, ls)
end-relined None line ls = refl
end-relined (Some t) line ls = refl

members-relined : (ms : List Member) (ls : List ℕ) →
    members_relined (map member_lineless ms) (members_lines ms ls) ≡ (map member_unlined ms, ls)
members-relined [] ls = refl
members-relined (field f ∷ ms) ls = ap (λ (p : List Member × List ℕ). (member_unlined (field f) ∷ p.0, p.1)) (members-relined ms ls)
members-relined (method m ∷ ms) ls =
    let behind = members_lines ms ls in
    both-is (λ m ms. method m ∷ ms) _ (members_relined (map member_lineless ms)) (method_unlined m) (map member_unlined ms) behind ls
    (both-is (λ b line. record m { body = b; line = line }) _ (end_relined m.result) m.body (end_line m.result m.line)
    (end_lines m.result m.line behind) behind (block-relined m.body (end_lines m.result m.line behind)) (end-relined m.result m.line behind))
    (members-relined ms ls)

methods-relined : (cs : List Class) (ls : List ℕ) → methods_relined (map class_lineless cs) (methods_lines cs ls) ≡ (classes_unlined cs, ls)
methods-relined [] ls = refl
methods-relined (c ∷ cs) ls =
    both-is (λ ms cs. record (class_lineless c) { members = ms } ∷ cs) _ (methods_relined (map class_lineless cs))
    (map member_unlined c.members) (classes_unlined cs) (methods_lines cs ls) ls (members-relined c.members (methods_lines cs ls))
    (methods-relined cs ls)

relined-is : (t : Tree) → relined (lineless t) (tree_lines t) ≡ unlined t
relined-is t =
    let f : Block × List ℕ → Tree = λ p. record t {
      body = p.0;
      line = first p.1;
      classes = (methods_relined (map class_lineless t.classes) (others p.1)).0;
    } in
    let g : List Class × List ℕ → Tree = λ p. record t { classes = p.0 } in
    ap f (block-relined t.body (t.line ∷ methods_lines t.classes [])) ∙ ap g (methods-relined t.classes [])

pub lines-tell : (t u : Tree) → lineless t ≡ lineless u → tree_lines t ≡ tree_lines u → SameButLines t u
lines-tell t u h g = sym (relined-is t) ∙ (ap (λ v. relined v (tree_lines t)) h ∙ (ap (relined (lineless u)) g ∙ relined-is u))
