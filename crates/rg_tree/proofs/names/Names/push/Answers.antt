use Rattle.std.proofs.Common.{◌≡◌, ◌∙◌, refl, sym, ap, length, map, None, Some, rules}
use Rattle.std.proofs.lemmas.List.{length-map}
use Rattle.rg_tree.specs.Rows.Tables.{number_of}
use Rattle.rg_tree.proofs.Name.{map-insert_new, number_of-new, slice_get-number_of}
use Rattle.rg_tree.proofs.names.Names.push.Goals as goal

pub returns-clause-names : goal.returns-clause-names
returns-clause-names c =
    let key = c.in-Ok.key in
    let keys = c.self.inside.keys.keys in
    let same : key.items ≡ c.args.bytes.now = search rules in
    let new : number_of (map (λ key. key.items) keys) key.items ≡ None = rw (c.self.view_is, same) c.requires.new in
    rw c.in-Ok-insert.ensures.keys (map-insert_new (λ key. key.items) keys key new ∙ rw (c.self.view_is, same) refl)

pub returns-clause-number : goal.returns-clause-number
returns-clause-number c =
    let len : c.in_ok-number.number ≡ length c.args.self.now =
    c.in_ok-number.ensures.number ∙ c.len.ensures.len ∙ sym (length-map c.self.inside.keys.keys (λ key. key.items)) ∙ ap length c.self.view_is in
    ap (λ names. number_of names c.args.bytes.now) (returns-clause-names c) ∙ number_of-new c.args.self.now c.args.bytes.now c.requires.new
    ∙ ap Some (sym len)

pub returns-clause-stored : goal.returns-clause-stored
returns-clause-stored c = slice_get-number_of _ c.args.bytes.now c.in_ok-number.number (returns-clause-number c)
