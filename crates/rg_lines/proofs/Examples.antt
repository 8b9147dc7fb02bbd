-- Programs with other lines, computed: which of these no mark has, and what the others do.
use Rattle.std.proofs.Common.{◌≡◌, refl, sym, ap, ◌∙◌, ℕ, ◌<◌, pos, false, [], ◌∷◌, Some, None, codes, arith}
use Rattle.rg_base.specs.declared.words.Cap.TheVariants as cap
use Rattle.rg_base.specs.declared.words.Manager.TheVariants as manager
use Rattle.rg_base.specs.declared.fault.Code.TheVariants as code
use Rattle.rg_base.specs.declared.outcome.Trap.TheVariants as trap
use Rattle.rg_tree.specs.declared.rows.BinOp.TheVariants as op
use Rattle.rg_tree.specs.Tree.{Ty, int, number, binary, new, stmt, declare, call, return, empty, then, field, method, Tree}
use Rattle.rg_tree.specs.Lineless.{lineless}
use Rattle.rg_rules.specs.Acceptance.{first_fault, Accepted}
use Rattle.rg_rules.specs.Runs.{Ending, Running, Done, Stopped, plain_from, plain}
use Rattle.rg_rules.proofs.Sources.{var, to, call_of}
use Rattle.rg_lines.specs.Unlined.{SameButLines}
use Rattle.rg_lines.specs.Laws.{fault_code}
use Rattle.rg_lines.proofs.Plain.{same-runs}

apart : (n m : ℕ) → n ≡ m → n < m → ⊥
apart n m e l = omega arith

-- class C { f: T; def mut m(): int { return 1 / 0; } } main arena { let x: mut C = new C; call x.m(); }
-- with the lines of the class, of its field, of its method, and of what stands in the method
abbrev pub dividing : Ty → (class field method inside : ℕ) → Tree
dividing ty c f m i = record {
  classes = record {
    name = codes "C";
    is_tmp = false;
    element = None;
    members = field (record { name = codes "f"; ty = ty; line = f })
        ∷ method (record {
          receiver = cap.Mut;
          name = codes "m";
          params = [];
          result = Some int;
          body = then (stmt i (return (binary op.Div (number (pos 1)) (number (pos 0))))) empty;
          line = m;
        }) ∷ [];
    line = c;
  } ∷ [];
  manager = manager.Arena;
  body = then (stmt 6 (declare (codes "x") (to cap.Mut "C") (new (codes "C") None))) (then (stmt 7 (call (call_of (var "x") "m" []))) empty);
  line = 5;
}

-- it is accepted, and traps at the line of the `return`
dividing-accepted : Accepted (dividing int 1 2 3 4)
dividing-accepted = refl

dividing-traps : (plain (dividing int 1 2 3 4) [] 9).ending ≡ Stopped trap.Zero 4
unfolding plain_from
dividing-traps = refl

-- class, field and method stand elsewhere, the `return` doesn't
elsewhere-same : SameButLines (dividing int 1 2 3 4) (dividing int 10 20 30 4)
elsewhere-same = refl

-- the `return` stands elsewhere: the program is the same up to all lines, and traps at another one
further : lineless (dividing int 1 2 3 4) ≡ lineless (dividing int 1 2 3 9)
further = refl

further-traps : (plain (dividing int 1 2 3 9) [] 9).ending ≡ Stopped trap.Zero 9
unfolding plain_from
further-traps = refl

-- the line of a trap
abbrev trap_line : Ending → ℕ
trap_line Running = 0
trap_line Done = 0
trap_line (Stopped kind line) = line

further-differs : SameButLines (dividing int 1 2 3 4) (dividing int 1 2 3 9) → ⊥
further-differs h =
    let run = same-runs (dividing int 1 2 3 4) (dividing int 1 2 3 9) h [] 9 in
    apart 4 9 (ap trap_line (sym dividing-traps ∙ (ap (λ r. r.ending) run ∙ further-traps))) (omega arith)

-- a fault of the field has its line, which no mark has: the first faults are the same up to it
abbrev missing : Ty
missing = to cap.Mut "D"

missing-first : first_fault (dividing missing 1 2 3 4) ≡ Some (record { code = code.Unknown; line = 2 })
missing-first = refl

missing-elsewhere : first_fault (dividing missing 10 20 30 4) ≡ Some (record { code = code.Unknown; line = 20 })
missing-elsewhere = refl

missing-same : fault_code (dividing missing 1 2 3 4) ≡ fault_code (dividing missing 10 20 30 4)
missing-same = refl

-- class C { def mut m() { } } main arena { }: the method's end has a mark, and so its line
abbrev pub resting : (line : ℕ) → Tree
resting l = record {
  classes = record {
    name = codes "C";
    is_tmp = false;
    element = None;
    members = method (record { receiver = cap.Mut; name = codes "m"; params = []; result = None; body = empty; line = l }) ∷ [];
    line = 1;
  } ∷ [];
  manager = manager.Arena;
  body = empty;
  line = 3;
}

-- the line of the method
abbrev method_line : Tree → ℕ
method_line t = elim (t.classes) [ [] ↦ 0 | c ∷ cs ↦ elim (c.members) [ [] ↦ 0 | m ∷ ms ↦ elim m [ field f ↦ 0 | method n ↦ n.line ] ] ]

resting-differs : SameButLines (resting 2) (resting 4) → ⊥
resting-differs h = apart 2 4 (ap method_line h) (omega arith)
