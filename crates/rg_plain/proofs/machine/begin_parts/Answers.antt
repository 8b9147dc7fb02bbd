use Rattle.std.proofs.Common.{◌≡◌, ◌∙◌, [], ◌∷◌, ◌++◌, List, ap, length}
use Rattle.rg_base.specs.declared.words.Manager.{Manager}
use Rattle.rg_tree.specs.Rows.RowTrees.{block_of}
use Rattle.rg_rules.specs.Items.{EndAt, items_of}
use Rattle.rg_values.specs.Kept.{Kept, shown}
use Rattle.rg_plain.specs.Machine.{fresh}
use Rattle.rg_values.proofs.Item.{shown-none}
use Rattle.rg_plain.proofs.machine.begin_parts.Goals as goal

pub returns-clause-begun : goal.returns-clause-begun
returns-clause-begun c =
    let t = c.args.book.now.program in
    let none : c.reserve.new.self.items ≡ [] = c.in-Ok.ensures.items ∙ ap (λ q. q.items) c.requires.fresh in
    let managers : c.push.new.self.items ≡ t.manager ∷ [] =
    c.in-Ok-push.ensures.items ∙ ap (λ q. q.managers ++ c.main_manager.result ∷ []) c.requires.fresh ∙ ap (λ m. m ∷ []) c.main_manager.ensures in
    let changed : Kept → List Manager → Kept = λ q ms. record q { managers = ms; items = c.open.new.items.items } in
    record {
      kept = ap (λ q. changed q c.push.new.self.items) c.requires.fresh ∙ ap (changed fresh.kept) managers;
      items =
          c.open.ensures.shown
          ∙ ap (λ s. items_of (block_of t s) (EndAt 0 ∷ shown t c.reserve.new.self.items)) c.main_body.ensures.row
          ∙ ap (λ rest. items_of (block_of t t.body) (EndAt 0 ∷ rest)) (shown-none t c.reserve.new.self.items (ap length none));
      fit = c.open.ensures.fit;
    }
