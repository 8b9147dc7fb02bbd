-- The exits of the verifier: where a test refuses the program that a module tells, no program raises the module, since the told one would; and
-- where it passes all tests, it does.
use Rattle.std.proofs.Common.{◌≡◌, sym, ap, ◌∙◌, subst, Bool as Truth, false, true, Option, Some, None, Result, Ok, Err, arith}
use Rattle.rg_tree.specs.Tree.{Tree}
use Rattle.rg_tree.specs.Rows.Tables.{Tables}
use Rattle.rg_tree.specs.Rows.RowTrees.{program_of}
use Rattle.rg_rules.specs.Acceptance.{Accepted}
use Rattle.rg_check.specs.Checked.{Checked}
use Rattle.rg_limits.specs.Limits.{IsWithinLimits}
use Rattle.rg_module.specs.Parts.{Parts}
use Rattle.rg_build.specs.ModuleOf.{module_of}
use Rattle.rg_compare.specs.Telling.{TellsSame}
use Rattle.rg_verify_expressions.specs.declared.refusal.Refusal.{Refusal}
use Rattle.rg_verify_expressions.specs.declared.refusal.Refusal.TheVariants as refusal
use Rattle.rg_raised.specs.Raises.{Raises}
use Rattle.rg_raised.specs.Told.{program_told, IsRaised}
use Rattle.rg_told.specs.Laws.{ToldAreNumbered}
use Rattle.rg_verify.specs.Told.{ToldRaisesIfAny}
use Rattle.rg_verify.specs.Verdict.{NoneRaises}
use Rattle.rg_verify.specs.Inner.Verdicts.{IsAllowed, AllowsAs, RaisesAs}

some-is : {A : Type 0} {x y : A} → Some x ≡ Some y → x ≡ y
some-is e = grind arith

none-some : {A : Type 0} {x : A} → None ≡ Some x → ⊥
none-some e = grind arith

-- What raising answers

told-by : (o : Option Tree) (p : Tables) → IsRaised o (Ok p) → o ≡ Some (program_of p)
told-by (Some t) p h = ap (λ (u : Tree). Some u) (sym h)
told-by None p h = absurd h

pub is-told : (m : Parts) (p : Tables) → IsRaised (program_told m) (Ok p) → program_told m ≡ Some (program_of p)
is-told m p h = told-by (program_told m) p h

untold-by : (o : Option Tree) → IsRaised o (Err refusal.NotRaised) → o ≡ None
untold-by (Some t) h = h
untold-by None h = h

module _ (law : ToldRaisesIfAny) where
  -- none is told
  none-told : (m : Parts) → IsRaised (program_told m) (Err refusal.NotRaised) → NoneRaises m
  none-told m h t r = let a = law m t r in none-some (sym (untold-by (program_told m) h) ∙ a.is_told)

  -- what is told raises the module, if any does
  told-does : (m : Parts) (t : Tree) → program_told m ≡ Some t → (u : Tree) → Raises m u → Raises m t
  told-does m t e u h = let a = law m u h in subst (Raises m) (some-is (sym a.is_told ∙ e)) a.raises

  -- it isn't allowed
  none-allowed : (m : Parts) (t : Tree) → program_told m ≡ Some t → (Accepted t → IsWithinLimits t → ⊥) → NoneRaises m
  none-allowed m t e refused u h = let r = told-does m t e u h in refused r.accepted r.within

  -- its module is another one
  pub none-same : (m : Parts) (p : Tables) (a : Checked) → program_told m ≡ Some (program_of p) → IsAllowed p a →
      TellsSame false (module_of (program_of a.program)) m → NoneRaises m
  none-same m p a e h other u r =
      other (ap (λ (q : Tables). module_of (program_of q)) h.program ∙ (told-does m (program_of p) e u r).its_module)

  -- so a refusal of raising, and of a test, says that none raises it

  pub raise-refused : (m : Parts) (e : Refusal) → IsRaised (program_told m) (Err e) → RaisesAs m (Err e)
  raise-refused m refusal.NotRaised h = none-told m h
  raise-refused m refusal.Memory h = tt

  pub allow-refused : (m : Parts) (p : Tables) (e : Refusal) → program_told m ≡ Some (program_of p) → AllowsAs p (Err e) → RaisesAs m (Err e)
  allow-refused m p refusal.NotRaised told h = none-allowed m (program_of p) told h
  allow-refused m p refusal.Memory told h = tt

-- it passes all tests
pub all-passed : ToldAreNumbered → (m : Parts) (p : Tables) (a : Checked) → program_told m ≡ Some (program_of p) → IsAllowed p a →
    TellsSame true (module_of (program_of a.program)) m → Raises m (program_of a.program)
all-passed law m p a e h same =
    let moved : Raises m (program_of p) = record {
      accepted = h.accepted;
      within = h.within;
      its_module = subst (λ (q : Tables). module_of (program_of q) ≡ m) h.program same;
      numbered = law m (program_of p) e;
    } in
    subst (λ (q : Tables). Raises m (program_of q)) (sym h.program) moved
