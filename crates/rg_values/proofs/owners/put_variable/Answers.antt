use Rattle.std.proofs.Common.{◌≡◌, length, map, reverse, ap, sym, ◌∙◌, arith}
use Rattle.std.proofs.lemmas.List.{length-map, length-reverse}
use Rattle.rg_rules.specs.State.{State}
use Rattle.rg_values.specs.Kept.{frame_of, kept_frame, kept_of, plain_of}
use Rattle.rg_values.proofs.Rows.Numbered.{set-past}
use Rattle.rg_values.proofs.owners.put_variable.Goals as goal

pub returns-else-frame-beneath-2-clause-put : goal.returns-else-frame-beneath-2-clause-put
returns-else-frame-beneath-2-clause-put c input =
    let t = c.args.book.now.program in
    let below = c.args.m.now.below.items in
    let s = plain_of t (kept_of c.args.m.now) input in
    let many : length (map (frame_of t) (reverse (map kept_frame below))) ≡ length below =
    length-map (reverse (map kept_frame below)) (frame_of t) ∙ length-reverse (map kept_frame below) ∙ length-map below kept_frame in
    ap (λ q. let u : State = record s { frames = q } in u) (sym (set-past c.args.slot c.args.v c.args.frame s.frames
    (omega (arith, many, c.len-beneath.ensures, c.if-frame-beneath.false, c.if-frame-beneath-2.false))))
