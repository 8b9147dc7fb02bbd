use Rattle.std.proofs.Common.{◌≡◌, ◌++◌, ◌∷◌, ◌∙◌, ℕ, [], List, None, subst, sym, ap}
use Rattle.rg_frames.specs.declared.rows.Window.{Window}
use Rattle.rg_frames.specs.Stack.{IsEmpty}
use Rattle.rg_frames.proofs.Beginning.{begun-is, empty-roomed}
use Rattle.rg_frames.proofs.frames.Frames.begin.Goals as goal
use Rattle.rg_frames.proofs.frames.Frames.begin.Goals.{After-push_reserved-2}

-- nothing was made yet
empty : (c : After-push_reserved-2) → IsEmpty (Rattle.rg_frames.specs.contracts.frames.Frames.the_view c.self.inside)
empty c =
    subst IsEmpty (sym (c.self.view_is ∙ c.reserve.ensures.same))
    (empty-roomed c.args.self.now c.reserve.new.self.frame_room c.reserve.new.self.slot_room c.requires)

windows : (c : After-push_reserved-2)
    → c.push_reserved.new.self.items ≡ record { number = 0; region = c.args.region; owner = None; base = 0 } ∷ []
windows c =
    let w : Window = record { number = 0; region = c.args.region; owner = None; base = 0 } in
    c.push_reserved.ensures.items ∙ ap (λ (xs : List Window). xs ++ w ∷ []) (c.reserve_both.ensures.first ∙ (empty c).windows)

marks : (c : After-push_reserved-2) → c.push_reserved-2.new.self.items ≡ 0 ∷ []
marks c = c.push_reserved-2.ensures.items ∙ ap (λ (xs : List ℕ). xs ++ 0 ∷ []) (c.reserve_both.ensures.second ∙ (empty c).marks)

pub returns-clause-ok : goal.returns-clause-ok
returns-clause-ok c =
    let d = (goal.at.returns-clause-ok c).After-push_reserved-2 in
    begun-is _ _ _ _ _ _ (empty d) (windows d) (marks d) c.push_frame.ensures
