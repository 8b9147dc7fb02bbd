-- The canonical text of a program doesn't speak of its lines.
use Rattle.std.proofs.Common.{◌≡◌, ℕ, suc, List, [], ◌∷◌, map, Option, Some, None, refl, sym, ◌∙◌, ap}
use Rattle.std.specs.Prelude.{flat_map}
use Rattle.rg_tree.specs.Tree.{Ty, Stmt, stmt, StmtKind, branch, while, enter, Else, no_else, otherwise, Block, empty, then, Member, field, method}
use Rattle.rg_tree.specs.Tree.{Class, Tree}
use Rattle.rg_tree.specs.Canonical.{stmt_text, kind_text, else_text, block_text, member_text, rest_text, class_text, canon}
use Rattle.rg_tree.specs.Lineless.{stmt_lineless, kind_lineless, else_lineless, block_lineless, member_lineless, class_lineless, lineless}

-- statements, else and blocks
mutual
  stmt-lineless : (d : ℕ) (a : Stmt) → stmt_text d (stmt_lineless a) ≡ stmt_text d a
  stmt-lineless d (stmt l k) = kind-lineless d k

  kind-lineless : (d : ℕ) (k : StmtKind) → kind_text d (kind_lineless k) ≡ kind_text d k
  kind-lineless d (branch e b o) = let x = block-lineless (suc d) b in let y = else-lineless d o in rw (x, y) refl
  kind-lineless d (while e b) = let x = block-lineless (suc d) b in rw x refl
  kind-lineless d (enter q n b o) = let x = block-lineless (suc d) b in rw x refl
  kind-lineless d _ = refl

  else-lineless : (d : ℕ) (o : Else) → else_text d (else_lineless o) ≡ else_text d o
  else-lineless d no_else = refl
  else-lineless d (otherwise b) = let x = block-lineless (suc d) b in rw x refl

  block-lineless : (d : ℕ) (b : Block) → block_text d (block_lineless b) ≡ block_text d b
  block-lineless d empty = refl
  block-lineless d (then a b) = let x = stmt-lineless d a in let y = block-lineless d b in rw (x, y) refl

-- members and classes
member-lineless : (m : Member) → member_text (member_lineless m) ≡ member_text m
member-lineless (field f) = refl
member-lineless (method m) = let x = block-lineless 2 m.body in rw x refl

members-lineless : (ms : List Member) → flat_map member_text (map member_lineless ms) ≡ flat_map member_text ms
members-lineless [] = refl
members-lineless (m ∷ ms) = let x = member-lineless m in let y = members-lineless ms in rw (x, y) refl

rest-lineless : (o : Option Ty) (ms : List Member) → rest_text o (map member_lineless ms) ≡ rest_text o ms
rest-lineless None ms = let x = members-lineless ms in rw x refl
rest-lineless (Some t) ms = refl

class-lineless : (k : Class) → class_text (class_lineless k) ≡ class_text k
class-lineless k = let x = rest-lineless k.element k.members in rw x refl

classes-lineless : (ks : List Class) → flat_map class_text (map class_lineless ks) ≡ flat_map class_text ks
classes-lineless [] = refl
classes-lineless (k ∷ ks) = let x = class-lineless k in let y = classes-lineless ks in rw (x, y) refl

-- it is that of the program without lines
pub canon-lineless : (r : Tree) → canon (lineless r) ≡ canon r
canon-lineless r = let x = classes-lineless r.classes in let y = block-lineless 1 r.body in rw (x, y) refl

-- programs that are the same up to lines have one canonical text
pub canon-same : (a b : Tree) → lineless a ≡ lineless b → canon a ≡ canon b
canon-same a b h = sym (canon-lineless a) ∙ ap canon h ∙ canon-lineless b
