use Rattle.std.proofs.Common.{◌∙◌, arith, refl, sym, subst}
use Rattle.rg_io.specs.Files.{SameFiles}
use Rattle.rg_io.proofs.Told.{Reads-then, SameFiles-same, SameFiles-read, HasFile-read, HasLongFile-read}
use Rattle.rg_io.proofs.Told.{room-then, refused-long, refused-fault}
use Rattle.rg_io.proofs.files.take_all.Goals as goal

pub returns-in-Err-clause-same_files : goal.returns-in-Err-clause-same_files
returns-in-Err-clause-same_files g c = SameFiles-same _ _ c.in-Err.ensures.kept

pub loop-n-preserved : goal.loop-n-preserved
loop-n-preserved g c =
    let piece = c.in-Ok-add_piece.ensures in
    record {
      taken = Reads-then _ _ _ _ _ _ c.loop-n.invariant.taken c.in-Ok-read.ensures.read piece.0;
      room = room-then _ _ _ _ _ _ piece.0 piece.1 c.loop-n.invariant.room;
      begun = c.in-Ok-read.ensures.begins_none ∙ c.loop-n.invariant.begun;
      never_falls = omega arith;
    }

pub returns-in-Err-read-clause-same_files : goal.returns-in-Err-read-clause-same_files
returns-in-Err-read-clause-same_files g c =
    subst (λ o. SameFiles (g.F.Files.told c.args.files.now) o) (sym c.in-Err-read.ensures.kept)
    (SameFiles-read _ _ _ _ _ c.in-Ok.ensures.begun c.loop-n.invariant.taken)

pub returns-then-n-eq0-clause-ok : goal.returns-then-n-eq0-clause-ok
returns-then-n-eq0-clause-ok g c =
    HasFile-read _ _ _ _ _ c.in-Ok.ensures.begun c.loop-n.invariant.taken (c.in-Ok-read.ensures.end c.if-n-eq0.true)

pub returns-then-n-eq0-clause-same_files : goal.returns-then-n-eq0-clause-same_files
returns-then-n-eq0-clause-same_files g c =
    SameFiles-read _ _ _ _ _ c.in-Ok.ensures.begun (Reads-then _ _ _ _ _ _ c.loop-n.invariant.taken c.in-Ok-read.ensures.read refl)

pub returns-in-Err-add_piece-clause-source_fault : goal.returns-in-Err-add_piece-clause-source_fault
returns-in-Err-add_piece-clause-source_fault g c fault = absurd (refused-fault _ _ _ _ _ c.in-Err-add_piece.ensures fault)

pub returns-in-Err-add_piece-clause-long : goal.returns-in-Err-add_piece-clause-long
returns-in-Err-add_piece-clause-long g c long =
    HasLongFile-read _ _ _ _ _ _ _ _ _ c.in-Ok.ensures.begun c.loop-n.invariant.taken c.in-Ok-read.ensures.read c.loop-n.invariant.room
    (refused-long _ _ _ _ _ c.in-Err-add_piece.ensures long)

pub returns-in-Err-add_piece-clause-same_files : goal.returns-in-Err-add_piece-clause-same_files
returns-in-Err-add_piece-clause-same_files g c =
    SameFiles-read _ _ _ _ _ c.in-Ok.ensures.begun (Reads-then _ _ _ _ _ _ c.loop-n.invariant.taken c.in-Ok-read.ensures.read refl)
