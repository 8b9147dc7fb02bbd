use Rattle.std.proofs.Common.{◌-◌, length, arith}
use Rattle.rg_frames.proofs.Nils.{front-all, front-four, front-kept, front-on, front-whole, nil-past}
use Rattle.rg_frames.proofs.Unwriting.{nil-more}
use Rattle.rg_frames.proofs.frames.make_all_nil.Goals as goal

pub nil-init : goal.nil-init
nil-init c =
    let xs = c.args.part.now in
    let four = front-four xs in
    let five = front-on xs _ 4 four in
    let six = front-on xs _ 5 five in
    let seven = front-on xs _ 6 six in
    let many = seven.many in
    (seven, nil-past _ (length xs) (omega (arith, many)) (omega (arith, many)))

pub nil-preserved : goal.nil-preserved
nil-preserved c = (
  front-kept c.args.part.now c.nil.part 7 (c.nil.at - 1) c.nil.invariant.0,
  nil-more c.nil.part c.nil.at (omega (arith, c.nil-test.true)) c.nil.invariant.1,
)

pub returns-then-many-lt5 : goal.returns-then-many-lt5
returns-then-many-lt5 c = front-whole c.args.part.now _ 4 (omega (arith, c.if-many-lt5.true)) (front-four c.args.part.now)

pub returns-then-many-lt6 : goal.returns-then-many-lt6
returns-then-many-lt6 c =
    let xs = c.args.part.now in
    front-whole xs _ 5 (omega (arith, c.if-many-lt6.true)) (front-on xs _ 4 (front-four xs))

pub returns-then-many-lt7 : goal.returns-then-many-lt7
returns-then-many-lt7 c =
    let xs = c.args.part.now in
    front-whole xs _ 6 (omega (arith, c.if-many-lt7.true)) (front-on xs _ 5 (front-on xs _ 4 (front-four xs)))

pub returns : goal.returns
returns c = front-all c.args.part.now c.nil.part 7 c.nil.at (omega (arith, c.nil-test.false)) c.nil.invariant.0 c.nil.invariant.1
