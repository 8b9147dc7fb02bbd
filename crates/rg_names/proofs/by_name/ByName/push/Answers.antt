use Rattle.std.proofs.Common.{◌≡◌, ◌∙◌, ◌∷◌, [], ◌++◌, None, ap, nat_eq}
use Rattle.std.specs.Map.{lookup}
use Rattle.indexmap.proofs.CallerLemmas.{insert_entry-new}
use Rattle.rg_names.proofs.by_name.ByName.push.Goals as goal

pub returns-clause-ok : goal.returns-clause-ok
returns-clause-ok g c =
    let new : lookup (nat_eq c.args.name) c.self.inside.map.entries ≡ None = rw c.self.view_is c.requires in
    rw c.in-Ok.ensures.entries
    (insert_entry-new nat_eq c.self.inside.map c.args.name c.args.value new ∙ ap (λ es. es ++ (c.args.name, c.args.value) ∷ []) c.self.view_is)
