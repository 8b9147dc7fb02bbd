-- Each program that raises a module is told by it: its bodies with numbers stand in the module's code, so they are the ones that are told, and
-- with names they are the program, but for lines.
use Rattle.std.proofs.Common.{◌≡◌, sym, ap, ◌∙◌, subst, Bool as Truth, false, List, [], length, Some, option_map}
use Rattle.rg_base.specs.declared.limits.TheConstants.{BRACKETS}
use Rattle.rg_tree.specs.Tree.{Tree}
use Rattle.rg_rules.specs.Acceptance.{Accepted}
use Rattle.rg_rules.proofs.Acceptance.{Accepted-parts, Accepted-method}
use Rattle.rg_code.specs.declared.op.Op.{Op}
use Rattle.rg_code.specs.Lowering.{methods_code, lowered}
use Rattle.rg_limits.specs.Limits.{IsWithinLimits}
use Rattle.rg_limits.specs.Laws.{LimitsBound}
use Rattle.rg_module.specs.Parts.{Parts}
use Rattle.rg_build.specs.ModuleOf.{heads_of, module_of}
use Rattle.rg_verify_expressions.specs.declared.callee.Callee.{Callee}
use Rattle.rg_verify_expressions.specs.Found.{BlocksHaveTheirCode}
use Rattle.rg_verify_expressions.specs.Blocks.{◌>>◌, test}
use Rattle.rg_classes.specs.Order.{callees_of}
use Rattle.rg_bodies.specs.Bodies.{bodies_told}
use Rattle.rg_bodies.specs.Rows.{given_by}
use Rattle.rg_bodies.specs.Standing.{main_ops, BodiesStand, StandingBodiesAreTold}
use Rattle.rg_raised.specs.Raises.{IsNumbered as HasNumbers}
use Rattle.rg_raised.specs.Told.{module_told, tree_named, program_told}
use Rattle.rg_numbered.specs.ModuleNames.{HasModuleNames}
use Rattle.rg_numbered.proofs.Classes.{good-written}
use Rattle.rg_numbered.specs.Laws.{IsNumbered, AcceptedAreNumbered}
use Rattle.rg_fitted.specs.Laws.{given_of, ModulesFit}
use Rattle.rg_verify.specs.Bodies.{bodies_numbered}
use Rattle.rg_verify.specs.Told.{TellsAlike, TellsRaised}
use Rattle.rg_verify.proofs.Back.{GoodIsBack, headers-are-back}
use Rattle.rg_verify.proofs.BodyCode.{AreAllNumbered, main-same, lowered-code}
use Rattle.rg_verify.proofs.Fits.{methods-fit}
use Rattle.rg_verify.proofs.Found.{all-numbered}
use Rattle.rg_verify.proofs.Levels.{shallow-within}
use Rattle.rg_verify.proofs.Names.{module-names}
use Rattle.rg_verify.proofs.SameCallees.{callees-same}
use Rattle.rg_told.proofs.Tables.{few-tables}
use Rattle.rg_verify.proofs.Written.{named-alike}

module _ (code : BlocksHaveTheirCode) (numbers : AcceptedAreNumbered) (fit : ModulesFit) (told : StandingBodiesAreTold)
    (limits : LimitsBound) where
  module _ (t : Tree) (a : Accepted t) (n : HasNumbers t) (w : IsWithinLimits t) where
    abbrev names : HasModuleNames t
    names = module-names t n

    good-back : GoodIsBack t.classes
    good-back ty made h = good-written t.classes ty made (record { names = names.classes; members = names.members }) h

    main-numbered : IsNumbered t.classes [] false t.body
    main-numbered = numbers.main t a names

    methods-numbered : AreAllNumbered t.classes 0 t.classes
    methods-numbered = all-numbered t.classes (numbers.methods t a names) (Accepted-parts t a).headers

    -- the bodies stand in the code of the module
    stand : BodiesStand (given_of t) (heads_of t.classes) (bodies_numbered t)
    stand =
        let at = length (main_ops (bodies_numbered t).main) in
        let entries : (lowered t).entries ≡ (methods_code t.classes at 0 t.classes).entries =
        ap (λ (os : List Op). (methods_code t.classes (length os) 0 t.classes).entries) (main-same code t main-numbered) in
        record {
          code = lowered-code code t main-numbered methods-numbered;
          main = record { block = (fit.main t a names).fits; end = tt };
          methods = methods-fit code t.classes (given_of t) (lowered t).entries
              (λ c x m e. let f = fit.methods t a names c x m e in record { entry = f.entry; there = f.there; fits = f.body.fits })
              (λ c x m e. (Accepted-method t a c x m e).gives) at (Accepted-parts t a).headers methods-numbered entries;
        }

    -- so the module tells them
    own-told : module_told (module_of t) ≡ Some (bodies_numbered t)
    own-told =
        let m = module_of t in
        let bounded = limits t w in
        let hs = heads_of t.classes in
        ap (λ (b : Truth). ◌>>◌ (test b) (bodies_told (given_by m (callees_of hs)) BRACKETS hs)) (few-tables t n bounded.0)
        ∙ ap (λ (ks : List Callee). bodies_told (given_by m ks) BRACKETS hs) (sym (callees-same t.classes))
        ∙ told (given_of t) BRACKETS hs (bodies_numbered t) (shallow-within BRACKETS t bounded.1) stand

    own-alike : TellsAlike (program_told (module_of t)) t
    own-alike = record {
      program = tree_named (module_of t) (bodies_numbered t);
      is_told = ap (option_map (tree_named (module_of t))) own-told;
      alike = named-alike t n (headers-are-back t.classes good-back (Accepted-parts t a).headers) main-numbered methods-numbered;
    }

  pub raised-told : TellsRaised program_told
  raised-told m t h = subst (λ (p : Parts). TellsAlike (program_told p) t) h.its_module (own-alike t h.accepted h.numbered h.within)
