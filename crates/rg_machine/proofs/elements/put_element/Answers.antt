use Rattle.std.proofs.Common.{rules}
use Rattle.rg_machine.specs.Cores.{core_of}
use Rattle.rg_machine.specs.Parts.{val_in}
use Rattle.rg_machine.proofs.Indexed.{put-effect, put-has, shown-under}
use Rattle.rg_machine.proofs.elements.put_element.Goals as goal

pub put_element-requires-clause-given : goal.put_element-requires-clause-given
put_element-requires-clause-given c =
    let old = core_of c.args.p.now in
    let a = c.pop.new.self in
    let b = c.pop-2.new.self in
    let d = c.pop-3.new.self in
    let w = c.in-Some.w in
    let x = c.in-Some-pop.index in
    let r = c.in-Some-pop-2.r in
    let mid = shown-under old (core_of a) a b w x c.in-Some.ensures.core c.in-Some-pop.ensures.some in
    let first = shown-under old (core_of a) b d w r mid c.in-Some-pop-2.ensures.some in
    let second = shown-under (core_of a) (core_of b) b d x r c.in-Some-pop.ensures.core c.in-Some-pop-2.ensures.some in
    put-has old (core_of a) (core_of b) (core_of d) (val_in d w) (val_in d x) (val_in d r) first second c.in-Some-pop-2.ensures.core c.requires.given

pub returns : goal.returns
returns c at =
    let old = core_of c.args.p.now in
    let a = c.pop.new.self in
    let b = c.pop-2.new.self in
    let d = c.pop-3.new.self in
    let w = c.in-Some.w in
    let x = c.in-Some-pop.index in
    let r = c.in-Some-pop-2.r in
    let mid = shown-under old (core_of a) a b w x c.in-Some.ensures.core c.in-Some-pop.ensures.some in
    let first = shown-under old (core_of a) b d w r mid c.in-Some-pop-2.ensures.some in
    let second = shown-under (core_of a) (core_of b) b d x r c.in-Some-pop.ensures.core c.in-Some-pop-2.ensures.some in
    record {
      effect = put-effect old (core_of a) (core_of b) (core_of d) (val_in d w) (val_in d x) (val_in d r) first second
          c.in-Some-pop-2.ensures.core (core_of c.put_element.new.self) at c.put_element.ensures.put;
      keeps = search rules;
      high = search rules;
    }
