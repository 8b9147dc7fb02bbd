use Rattle.std.proofs.Common.{◌≡◌, None, Some, if◌then◌else◌, length, sym, subst, ◌∙◌}
use Rattle.std.proofs.lemmas.Result.{on_ok_weaker}
use Rattle.std.specs.Map.{lookup}
use Rattle.rg_flow.specs.Scope.{same_name}
use Rattle.rg_flow.specs.Inner.Layout.{place_in}
use Rattle.rg_flow.proofs.Place.{noted-again, noted-first, noted-anyway}
use Rattle.rg_flow.proofs.env.places.note_last.Goals as goal

pub returns-in-Some-clause-noted : goal.returns-in-Some-clause-noted
returns-in-Some-clause-noted c v e =
    noted-again c.args.places.now c.args.vars.now v c.in-Some.field-0 c.requires.noted
    (subst (λ n. place_in n c.args.vars.now ≡ Some c.in-Some.field-0) (sym e) (sym c.in-Some.ensures.place))

pub returns-in-None-clause-noted : goal.returns-in-None-clause-noted
returns-in-None-clause-noted c =
    on_ok_weaker c.note.result (λ h v e.
    noted-first c.args.places.now c.note.new.self c.args.vars.now v c.requires.noted
    (subst (λ n. place_in n c.args.vars.now ≡ None) (sym e) (sym c.in-None.ensures.place))
    (λ q. h q ∙ (λ i. if same_name (sym e i) q then Some (length c.args.vars.now) else lookup (same_name q) c.args.places.now)))
    c.note.ensures.noted

pub returns-in-None-clause-still : goal.returns-in-None-clause-still
returns-in-None-clause-still c =
    noted-anyway c.note.result c.args.places.now c.note.new.self c.args.vars.now c.args.name (length c.args.vars.now) c.requires.noted
    (sym c.in-None.ensures.place)
    c.note.ensures.noted c.note.ensures.err
