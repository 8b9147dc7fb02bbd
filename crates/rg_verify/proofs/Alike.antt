-- What follows where each program that raises a module is told by it: two such are alike, and the one that is told raises the module, too.
use Rattle.std.proofs.Common.{◌≡◌, sym, ap, ◌∙◌, Option, Some, arith}
use Rattle.rg_tree.specs.Tree.{Tree}
use Rattle.rg_module.specs.Parts.{Parts}
use Rattle.rg_lines.specs.Unlined.{unlined, SameButLines}
use Rattle.rg_lines.specs.Laws.{SameAcceptance}
use Rattle.rg_limits.specs.Laws.{LimitsAreLineless}
use Rattle.rg_same.specs.Laws.{SameModule}
use Rattle.rg_raised.specs.Raises.{Raises}
use Rattle.rg_raised.specs.Told.{program_told}
use Rattle.rg_told.specs.Laws.{ToldAreNumbered}
use Rattle.rg_verify.specs.Told.{TellsRaised, RaisedAlike, ToldRaisesIfAny}

some-is : {A : Type 0} {x y : A} → Some x ≡ Some y → x ≡ y
some-is e = grind arith

pub raised-alike : (told : Parts → Option Tree) → TellsRaised told → RaisedAlike
raised-alike told tells m t u h g =
    let a = tells m t h in
    let b = tells m u g in
    sym a.alike ∙ ap unlined (some-is (sym a.is_told ∙ b.is_told)) ∙ b.alike

module _ (tells : TellsRaised program_told) (numbered : ToldAreNumbered) (accepted : SameAcceptance) (within : LimitsAreLineless)
    (its_module : SameModule) where
  pub told-raises : ToldRaisesIfAny
  told-raises m t h =
      let a = tells m t h in
      let e : SameButLines t a.program = sym a.alike in
      record {
        program = a.program;
        is_told = a.is_told;
        raises = record {
          accepted = accepted t a.program e h.accepted;
          within = within t a.program e h.within;
          its_module = sym (its_module t a.program e) ∙ h.its_module;
          numbered = numbered m a.program a.is_told;
        };
      }
