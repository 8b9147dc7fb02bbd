use Rattle.std.proofs.Common.{ap}
use Rattle.rg_tree.specs.Rows.RowTrees.{class_of, classes_of}
use Rattle.rg_spell.specs.Spelling.{FitsShape}
use Rattle.rg_module.specs.Parts.{Parts}
use Rattle.rg_build.proofs.Counting.{shapes-turn, all-is}
use Rattle.rg_build.proofs.classes.add_classes.Goals as goal

pub loop-class-preserved : goal.loop-class-preserved
loop-class-preserved c =
    let t = c.args.book.now.program in (
      shapes-turn (classes_of t) c.args.«module».now c.loop-class.«module» c.add_class.new.self c.loop-class.class (class_of t c.class.result)
          c.in_ok-found.found c.class.ensures.tree c.loop-class.invariant.0 c.in_ok-found.ensures.is c.in_ok-add_class.ensures.ok,
      all-is FitsShape c.loop-class.«module».classes c.add_class.new.self.classes c.in_ok-found.found
          (ap (λ (m : Parts). m.classes) c.in_ok-add_class.ensures.ok) c.loop-class.invariant.1 c.in_ok-found.ensures.fits,
    )
