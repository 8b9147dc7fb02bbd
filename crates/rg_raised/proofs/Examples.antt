-- Programs that raise modules, and names that don't, computed.
use Rattle.std.proofs.Common.{◌≡◌, ℕ, pos, List, [], ◌∷◌, bytes_eq, codes, refl, ap, arith}
use Rattle.std.proofs.lemmas.Bool.{false≢true}
use Rattle.std.specs.Fmt.{digits}
use Rattle.rg_base.specs.declared.words.Manager.TheVariants as manager
use Rattle.rg_tree.specs.Tree.{int, number, value, declare, stmt, print, empty, then as next, Tree}
use Rattle.rg_limits.specs.Limits.{IsWithinLimits}
use Rattle.rg_build.specs.ModuleOf.{module_of}
use Rattle.rg_raised.specs.Raises.{IsNumbered, Raises}

-- `main arena { print 7; }`
abbrev seven : Tree
seven = record { classes = []; manager = manager.Arena; body = next (stmt 1 (print (number (pos 7)))) empty; line = 1 }

seven-within : IsWithinLimits seven
seven-within = record {
  parts = record { classes = omega arith; members = tt };
  names = record { methods = λ k d l. absurd (omega arith); main = omega arith };
  signs = record { methods = λ k d l. absurd (omega arith); main = ((omega arith, tt), tt) };
  numbers = record { methods = λ k d l. absurd (omega arith); main = (((omega arith, tt), tt), tt) };
  brackets = omega arith;
}

-- it raises its module
seven-raises : Raises (module_of seven) seven
seven-raises = record {
  accepted = refl;
  within = seven-within;
  its_module = refl;
  numbered = record { classes = tt; body = (tt, tt) };
}

-- `let v0: int = 7;` has the name of its slot; with another name the program raises nothing
abbrev one : List ℕ → Tree
one x = record {
  classes = [];
  manager = manager.Arena;
  body = next (stmt 1 (declare x int (value (number (pos 7))))) empty;
  line = 1;
}

one-numbered : IsNumbered (one (codes "v0"))
unfolding digits
one-numbered = record { classes = tt; body = (refl, tt) }

one-other : IsNumbered (one (codes "v1")) → ⊥
unfolding digits
one-other n = false≢true (ap (λ (x : List ℕ). bytes_eq x (codes "v0")) n.body.0)
