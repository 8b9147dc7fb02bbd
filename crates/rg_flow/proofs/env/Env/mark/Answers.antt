use Rattle.std.proofs.Common.{◌≡◌, ◌∙◌, sym, ap, subst}
use Rattle.rg_tree.specs.Rows.RowTrees.{variable_of}
use Rattle.rg_flow.specs.Scope.{Scope, marked, env_of}
use Rattle.rg_rules.specs.Environment as rules
use Rattle.rg_flow.specs.States.{readiness_of, IsReadable}
use Rattle.rg_flow.proofs.Envs.{kept-named, scope-named}
use Rattle.rg_flow.proofs.Scope.{marked-tree, marked-in}
use Rattle.rg_flow.proofs.env.Env.mark.Goals as goal

pub invariant_of-self : goal.invariant_of-self
invariant_of-self c =
    let i = c.self.inside in
    kept-named i.depth i.vars.items i.places i.flow c.set_named.new.flow c.args.name (readiness_of c.args.now) c.self.invariant
    (rw c.deref.ensures.value at c.set_named.ensures)

pub returns-clause-marked : goal.returns-clause-marked
returns-clause-marked c =
    let i = c.self.inside in
    scope-named i.depth i.vars.items i.flow c.set_named.new.flow c.args.name (readiness_of c.args.now)
    (rw c.deref.ensures.value at c.set_named.ensures)
    ∙ ap (λ (s : Scope). marked c.args.name (readiness_of c.args.now) s) c.self.view_is

pub returns-clause-within : goal.returns-clause-within
returns-clause-within c t h =
    subst (λ (s : Scope). IsReadable t s) (sym (returns-clause-marked c))
    (marked-in t c.args.name (readiness_of c.args.now) c.args.self.now h)

pub returns-clause-tree : goal.returns-clause-tree
returns-clause-tree c t h n =
    subst (λ (s : Scope). env_of t s ≡ rules.marked (variable_of t c.args.name) (readiness_of c.args.now) (env_of t c.args.self.now))
    (sym (returns-clause-marked c)) (marked-tree t h.names c.args.name n (readiness_of c.args.now) c.args.self.now h.slots)
