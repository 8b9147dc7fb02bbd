use Rattle.std.proofs.Common.{rules, bytes_eq}
use Rattle.rg_tree.proofs.Name.{position-map}
use Rattle.rg_tree.proofs.names.Names.find.Goals as goal

pub returns-in-Some : goal.returns-in-Some
returns-in-Some c = rw (← c.self.view_is, position-map (λ key. key.items) (bytes_eq c.args.bytes.now) c.self.inside.keys.keys) (search rules)

pub returns-in-None : goal.returns-in-None
returns-in-None c = rw (← c.self.view_is, position-map (λ key. key.items) (bytes_eq c.args.bytes.now) c.self.inside.keys.keys) (search rules)
