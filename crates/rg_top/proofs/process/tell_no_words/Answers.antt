-- What was told is the status of a call without words.
use Rattle.rg_top.proofs.process.tell_no_words.Goals as goal

pub returns-in-NotText-clause-took : goal.returns-in-NotText-clause-took
returns-in-NotText-clause-took g c = λ m. rw c.in-NotText.is (c.tell.ensures.took m)

pub returns-in-Memory-clause-took : goal.returns-in-Memory-clause-took
returns-in-Memory-clause-took g c = λ m. rw c.in-Memory.is (c.tell-in-Memory.ensures.took m)
