use Rattle.std.proofs.Common.{◌≡◌, [], ◌∷◌, subst, sym, ap, ◌∙◌}
use Rattle.std.proofs.lemmas.Bool.{false≢true}
use Rattle.rg_stack.specs.Needs.{closed_into}
use Rattle.rg_machine.specs.Effects.{without}
use Rattle.rg_machine.specs.Parts.{Parts, machine_in, val_in}
use Rattle.rg_machine.specs.Cores.{core_of}
use Rattle.rg_machine.specs.contracts.machine.Machine.{the_view}
use Rattle.rg_machine.proofs.Release.Effect.{Asked, may-release, stands-behind, lead-behind, core-behind, core-same, closed-none, filter-none}
use Rattle.rg_machine.proofs.Callers.High.{none-dropped}
use Rattle.rg_machine.proofs.machine.Machine.release.Goals as goal

pub drop_iso-requires : goal.drop_iso-requires
drop_iso-requires c =
    let a = subst (λ p. Asked p c.args.w) (sym c.self.view_is)
    (record { leads = c.requires.leads; once = c.requires.once; free = c.requires.loose; apart = c.requires.stack }) in
    may-release (the_view c.self.inside) c.args.w c.is_forest.ensures.serials c.is_forest.ensures.forest c.self.invariant.0
    a.leads (c.owns.ensures.closed c.if-owns.true) a.free

pub invariant_of-self : goal.invariant_of-self
invariant_of-self c =
    let a = subst (λ p. Asked p c.args.w) (sym c.self.view_is)
    (record { leads = c.requires.leads; once = c.requires.once; free = c.requires.loose; apart = c.requires.stack }) in
    let p = the_view c.self.inside in
    let q = c.is_forest.ensures.serials in
    let g = c.is_forest.ensures.forest in
    let l = c.owns.ensures.closed c.if-owns.true in (
      stands-behind p c.args.w q g c.self.invariant.0 c.drop_iso.new.self c.self.invariant.1 l a.once a.free a.apart c.drop_iso.ensures.released
          c.is_forest-then-owns.ensures.forest,
      lead-behind p c.args.w q g c.self.invariant.0 c.drop_iso.new.self c.self.invariant.1 l a.once a.free a.apart c.drop_iso.ensures.released
          c.is_forest-then-owns.ensures.forest,
    )

pub returns-then-owns-clause-gone : goal.returns-then-owns-clause-gone
returns-then-owns-clause-gone c =
    let a = subst (λ p. Asked p c.args.w) (sym c.self.view_is)
    (record { leads = c.requires.leads; once = c.requires.once; free = c.requires.loose; apart = c.requires.stack }) in
    let p = the_view c.self.inside in
    core-behind p c.args.w c.is_forest.ensures.serials c.is_forest.ensures.forest c.self.invariant.0 c.drop_iso.new.self c.self.invariant.1
    (c.owns.ensures.closed c.if-owns.true) a.once a.free a.apart c.drop_iso.ensures.released c.is_forest-then-owns.ensures.forest
    ∙ ap (λ p. without (core_of p) (val_in p c.args.w ∷ [])) c.self.view_is

pub returns-else-owns-clause-gone : goal.returns-else-owns-clause-gone
returns-else-owns-clause-gone c =
    let P : Parts → Type 0 = λ p. core_of p ≡ without (core_of p) (val_in p c.args.w ∷ []) in
    let p = the_view c.self.inside in
    let q = c.is_forest.ensures.serials in
    let g = c.is_forest.ensures.forest in
    let none = closed-none p c.args.w q g c.self.invariant.0 (λ l. false≢true (sym c.if-owns.false ∙ c.owns.ensures.only l)) in
    subst P c.self.view_is (core-same p q g c.self.invariant.0 (val_in p c.args.w ∷ [])
    (filter-none (closed_into (machine_in p)) (val_in p c.args.w) none))

pub returns-then-owns-clause-high : goal.returns-then-owns-clause-high
returns-then-owns-clause-high c =
    rw (← c.self.view_is)
    (none-dropped c.self.inside.heap c.drop_iso.new.self c.self.inside.frames c.args.w (c.owns.ensures.closed c.if-owns.true)
    c.drop_iso.ensures.released)
