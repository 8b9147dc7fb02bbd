use Rattle.std.proofs.Common.{◌∙◌, ℕ, List, ap, subst}
use Rattle.rg_base.specs.Report as report
use Rattle.rg_io.specs.Content.{AppendsPart}
use Rattle.rg_commands.proofs.bulk.put_bulk_line.Goals as goal

-- the output has failed
pub returns-clause-put : goal.returns-clause-put
returns-clause-put g c =
    let Q : List ℕ → Type 0 = λ t. AppendsPart (g.O.Sink.taken c.args.out.now) (g.O.Sink.taken c.put_all.new.out) t in
    subst Q (c.bytes.ensures ∙ c.in-Ok.ensures ∙ ap (λ n. report.bulk_line n c.numbers-numbers.result) c.from.ensures
    ∙ ap (report.bulk_line c.args.size) c.numbers-numbers.ensures) c.in-Err-put_all.ensures.part
