use Rattle.std.proofs.Common.{◌≡◌, IfOk, ℕ, subst, sym}
use Rattle.std.proofs.lemmas.Option.{none-some}
use Rattle.rg_tree.specs.Tree.{Tree}
use Rattle.rg_rules.specs.State.{State}
use Rattle.rg_sound.specs.Fit.{Fit}
use Rattle.rg_code.specs.Code.{Code}
use Rattle.rg_held.specs.Shown.{ShowsHeld}
use Rattle.rg_machine.specs.Parts.{machine_in}
use Rattle.rg_content.specs.Fields.{IsContent, IsOwnField}
use Rattle.rg_step.specs.Behaviours.{HoldsFirst}
use Rattle.rg_step.specs.Inner.Held.{stepping}
use Rattle.rg_step.specs.Stepping.{Stepping}
use Rattle.rg_step.proofs.Held.{shows-none, shows-some}
use Rattle.rg_step.proofs.stepper.Stepper.content.Goals as goal

is-some : (c : goal.In-Some) → stepping c.in-Some.p c.self.inside.kept ≡ c.args.self.now
is-some c = shows-some c.self.inside.machine c.in-Some.p c.self.inside.kept c.args.self.now c.in-Some.is c.self.view_is

abbrev Owns : (field : ℕ) → Stepping → Type 0
Owns field n = (t : Tree) × (code : Code) × (s : State) × Fit t s × ShowsHeld t.classes code (machine_in n.parts) s × IsOwnField t.classes s.store 0 field

pub content-requires-clause-held : goal.content-requires-clause-held
content-requires-clause-held c =
    let P : Stepping → Type 0 = λ n. HoldsFirst n.parts in
    let f = subst P (sym (is-some c)) c.requires.first in (f.slot, f.first)

pub content-requires-clause-owns : goal.content-requires-clause-owns
content-requires-clause-owns c = subst (Owns c.args.field) (sym (is-some c)) c.requires.owns

pub unreachable-requires : goal.unreachable-requires
unreachable-requires c =
    let P : Stepping → Type 0 = λ n. HoldsFirst n.parts in
    let is = shows-none c.self.inside.machine c.self.inside.kept c.args.self.now c.in_default.is c.self.view_is in
    let f = subst P (sym is) c.requires.first in
    none-some f.first.0 f.first.1

pub returns : goal.returns
returns c =
    let P : Stepping → Type 0 = λ n. (t : Tree) (code : Code) (s : State) → Fit t s → ShowsHeld t.classes code (machine_in n.parts) s
    → IsOwnField t.classes s.store 0 c.args.field → IfOk c.content.result (IsContent s 0 c.args.field) in
    let is = shows-some c.self.inside.machine c.in-Some.p c.self.inside.kept c.args.self.now c.in-Some.is c.self.view_is in
    subst P is c.content.ensures
