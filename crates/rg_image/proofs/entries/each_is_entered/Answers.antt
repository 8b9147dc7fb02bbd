use Rattle.std.proofs.Common.{◌≡◌, ℕ, length, replicate, ap, ◌∙◌}
use Rattle.std.specs.List.{list_all, range_with_len}
use Rattle.std.proofs.lemmas.List.{length-replicate}
use Rattle.rg_cown.specs.Cargo.{is_entered}
use Rattle.rg_image.specs.Inner.Entries.{are_right}
use Rattle.rg_image.proofs.Counts.{right_are, counted-all}
use Rattle.rg_image.proofs.entries.each_is_entered.Goals as goal

pub returns : goal.returns
returns c =
    let cells = c.args.cells.now in
    let regions = length c.args.managers.now in
    let counts = c.count_all.new.counts.items in
    let none : c.in-Ok.counts.items ≡ replicate regions 0 = c.in-Ok.ensures.items_if_clones_equal (λ y h. h) in
    let many : length counts ≡ regions = c.count_all.ensures.even ∙ ap length none ∙ length-replicate regions 0 in
    c.are_right.ensures ∙ ap (are_right 0) c.as_slice.ensures.value
    ∙ right_are cells 0 counts (counted-all cells c.in-Ok.counts.items counts regions none c.count_all.ensures)
    ∙ ap (λ (n : ℕ). list_all (is_entered cells) (range_with_len 0 n)) many
