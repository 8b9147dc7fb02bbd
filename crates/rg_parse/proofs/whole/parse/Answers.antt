use Rattle.rg_lex.proofs.Spans.{cut-spans}
use Rattle.rg_parse.proofs.Span.{AreWithin-spans}
use Rattle.rg_parse.proofs.StuckSources.{stuck-with, stuck-spells_none}
use Rattle.rg_parse.proofs.whole.parse.Goals as goal

pub new-reader-requires : goal.new-reader-requires
new-reader-requires c = rw c.as_slice.ensures (AreWithin-spans 0 _ _ (cut-spans _ _ c.requires.cut))

pub returns-clause-fault : goal.returns-clause-fault
returns-clause-fault c =
    λ f e. stuck-with c.args.bytes.now c.args.tokens.now c.in-Err-At.code c.line-line.result f
    (rw c.in-Err-At.field-0-is at c.in-Err-At.ensures.fault)
    (rw c.as_slice.ensures at c.new-reader.ensures.start) (rw c.end_line.ensures at c.line-line.ensures) (cc)

pub returns-clause-none : goal.returns-clause-none
returns-clause-none c = λ f e. stuck-spells_none c.args.bytes.now c.args.tokens.now f (returns-clause-fault c f e)
