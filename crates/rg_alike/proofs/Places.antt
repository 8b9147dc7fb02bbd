-- Items begin at the same place of the code by the classes of either of two programs whose statements have the same code.
use Rattle.std.proofs.Common.{◌≡◌, subst, ℕ, ◌+◌, List, [], ◌∷◌, length}
use Rattle.rg_tree.specs.Tree.{stmt, StmtKind, declare, assign, assign_element, call, swap, branch, while, enter, print, collect, return, Class}
use Rattle.rg_rules.specs.Items.{Item, Do, EndAt, LeaveAt, LeaveGiving, Back}
use Rattle.rg_rules.specs.State.{Target, Declares, Assigns, Drops}
use Rattle.rg_code.specs.declared.op.Op.{Op}
use Rattle.rg_code.specs.Lowering.{Scope, scope_behind, kind_code}
use Rattle.rg_code.specs.Places.{Level, StandsIn, Lying, TakesResult, LiesBehind, Lies}

-- statements have the same code by these classes, and leave the same variables
pub record LowersAlike (cs ds : List Class) : Type 0 where
  pub kinds : (sc : Scope) (at line : ℕ) (k : StmtKind) → kind_code cs sc at line k ≡ kind_code ds sc at line k
  pub behind : (sc : Scope) (k : StmtKind) → scope_behind cs sc k ≡ scope_behind ds sc k

-- where the one lies, the other does
abbrev Moves : (p q : Lying) → Type 0
Moves p q = (levels : List Level) (at : ℕ) → p levels at → q levels at

takes-alike : (code : List Op) (target : Target) (back : ℕ) (ls : List Level) (p q : Lying) → Moves p q → TakesResult code target back ls p →
    TakesResult code target back ls q
takes-alike code target back [] p q f h = absurd h
takes-alike code (Declares x t) back (l ∷ ls) p q f h = (h.0, f _ _ h.1)
takes-alike code (Assigns x) back (l ∷ ls) p q f h = (h.0, f _ _ h.1)
takes-alike code Drops back (l ∷ ls) p q f h = (h.0, f _ _ h.1)

module _ (cs ds : List Class) (same : LowersAlike cs ds) (code : List Op) where
  behind-alike : (l : Level) (ls : List Level) (end : ℕ) (k : StmtKind) (p q : Lying) → Moves p q → LiesBehind cs code l ls end k p →
      LiesBehind ds code l ls end k q
  behind-alike l ls end (declare x t r) p q f h =
      subst (λ (sc : Scope). q (record l { scope = sc } ∷ ls) end) (same.behind l.scope (declare x t r)) (f _ _ h)
  behind-alike l ls end (assign y r) p q f h = f _ _ h
  behind-alike l ls end (assign_element y e r) p q f h = f _ _ h
  behind-alike l ls end (call c) p q f h = f _ _ h
  behind-alike l ls end (swap y z) p q f h = f _ _ h
  behind-alike l ls end (branch e b other) p q f h = f _ _ h
  behind-alike l ls end (while e b) p q f h = f _ _ h
  behind-alike l ls end (enter y z b giving) p q f h = f _ _ h
  behind-alike l ls end (print e) p q f h = f _ _ h
  behind-alike l ls end collect p q f h = f _ _ h
  behind-alike l ls end (return e) p q f h = takes-alike code l.target l.back ls p q f h

  pub lies-alike : (ls : List Level) (its : List Item) (at : ℕ) → Lies cs code ls its at → Lies ds code ls its at
  lies-alike ls [] at h = h
  lies-alike [] (i ∷ rest) at h = absurd h
  lies-alike (l ∷ ls) (Do (stmt line k) ∷ rest) at h =
      let e = same.kinds l.scope at line k in
      let lies : Lying = λ levels here. Lies ds code levels rest here in (
        subst (StandsIn code l at) e h.0,
        subst (λ (ops : List Op). LiesBehind ds code l ls (at + length ops) k lies) e
            (behind-alike l ls (at + length (kind_code cs l.scope at line k)) k (λ levels here. Lies cs code levels rest here) lies
            (λ levels here g. lies-alike levels rest here g) h.1),
      )
  lies-alike (l ∷ ls) (EndAt k ∷ rest) at h = (h.0, h.1, lies-alike _ rest _ h.2)
  lies-alike (l ∷ ls) (LeaveAt k ∷ rest) at h = (h.0, h.1, lies-alike _ rest _ h.2)
  lies-alike (l ∷ ls) (LeaveGiving line k w ∷ rest) at h = (h.0, lies-alike _ rest _ h.1)
  lies-alike (l ∷ ls) (Back ∷ rest) at h = (h.0, h.1, h.2, lies-alike ls rest l.back h.3)
