use Rattle.std.proofs.Common.{◌≡◌, ℕ, List}
use Rattle.rg_input.proofs.Input.{OnInput-map}
use Rattle.rg_plain.specs.Machine.{state_of}
use Rattle.rg_plain.specs.Runs.{RunIs}
use Rattle.rg_plain.proofs.Runs.Machine.{RunOn, QuietOn}
use Rattle.rg_plain.proofs.machine.PlainMachine.run.Goals as goal

pub returns-clause-run : goal.returns-clause-run
returns-clause-run g c =
    let t = c.args.program.now in
    let start = c.args.self.now in
    let new = c.run_counting.new.self in
    let old = g.O.Sink.taken c.args.out.now in
    let out = g.O.Sink.taken c.run_counting.new.out in
    let Q : List ℕ → List ℕ → Type 0 = λ before after.
    (k : ℕ) × RunIs t (state_of t start before) c.args.n k new after old out c.run_counting.result.ended in
    OnInput-map _ _ _ _ (RunOn t start c.args.n c.run_counting.result.steps new old out c.run_counting.result.ended) Q c.run_counting.ensures.run
    (λ before after is. (c.run_counting.result.steps, is))

pub returns-clause-reads_nothing : goal.returns-clause-reads_nothing
returns-clause-reads_nothing g c =
    let t = c.args.program.now in
    let start = c.args.self.now in
    let new = c.run_counting.new.self in
    let old = g.O.Sink.taken c.args.out.now in
    let out = g.O.Sink.taken c.run_counting.new.out in
    let r = c.run_counting.result.ended in
    let k = c.run_counting.result.steps in
    let Still : Type 0 = (c.run_counting.new.input ≡ c.args.input.now) × (c.run_counting.new.source ≡ c.args.source.now) in
    let Q : List ℕ → List ℕ → Type 0 = λ before after. (k : ℕ) × QuietOn t start c.args.n k new old out r Still before after in
    OnInput-map _ _ _ _ (QuietOn t start c.args.n k new old out r Still) Q c.run_counting.ensures.reads_nothing (λ before after is. (k, is))
