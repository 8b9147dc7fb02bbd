use Rattle.std.proofs.Common.{◌≡◌, ap, sym, ◌∙◌, subst}
use Rattle.std.proofs.lemmas.Option.{same_Some}
use Rattle.rg_base.specs.declared.object.Label.TheVariants.{Region}
use Rattle.rg_cells.specs.Table.{Table}
use Rattle.rg_frames.specs.Stack.{Stack}
use Rattle.rg_heap.specs.Changes.{LeadsNowhere, OnActive, Makes, Rewritten, with_one}
use Rattle.rg_heap.specs.Parts.{OnTop}
use Rattle.rg_stack.specs.Machine.{value_of_word}
use Rattle.rg_begin.specs.Inner.First.{main_frame}
use Rattle.rg_begin.specs.Inner.Laid.{start_value, Laid}
use Rattle.rg_begin.proofs.Alone.{both-ok, first-laid}
use Rattle.rg_begin.proofs.first.make_first.Goals as goal
use Rattle.std.proofs.Common.{map}

pub returns : goal.returns
returns c =
    let p = c.begin.new.self in
    let q = c.make.new.self in
    let v = c.begin-2.new.self in
    let code = c.args.code.now in
    let given = c.args.given.now in
    let key = c.in_ok-key.key in
    let words = c.opening.result.now in
    let opens = c.requires.opens in
    let same : opens.words ≡ words = same_Some opens.words words (sym opens.there ∙ c.opening.ensures) in
    let plain = subst LeadsNowhere same opens.plain in
    let values = subst (λ ws. map value_of_word ws ≡ map start_value given) same opens.values in
    let frames : v ≡ main_frame key code.main_slots v.frame_room v.slot_room =
    c.in_ok-begin.ensures.ok ∙ ap (λ n. main_frame key n v.frame_room v.slot_room) c.main_slots.ensures in
    let cells = c.in_ok-key.ensures.cells in
    both-ok c.make.result c.make.ensures.cell c.make.ensures.member (λ slot made member.
    record {
      laid = subst (λ (x : Stack). Laid q x slot c.args.class given 0) (sym frames)
          (first-laid p q c.args.heap.now.regions key code.main_slots v.frame_room v.slot_room slot c.args.class words given
          (ap (λ (t : Table). t.heap.slots) cells ∙ c.requires.nothing.slots) (ap (λ (t : Table). t.heap.next) cells ∙ c.requires.nothing.serials)
          c.requires.nothing.records c.requires.nothing.numbers c.in_ok-key.ensures.added
          (subst (λ (x : Stack). OnActive p.regions x (λ k m. Makes p.cells q.cells slot c.args.class (Region m) words)) frames made)
          (subst (λ (x : Stack). OnTop x (λ w. Rewritten p.regions q.regions w.region (with_one slot))) frames member)
          plain values c.is_forest.ensures.serials);
      key = key;
      frames = frames;
    })
