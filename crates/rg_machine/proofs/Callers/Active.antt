-- The active region: its window and its record are there. For callers.
use Rattle.std.proofs.Common.{◌≡◌, ◌-◌, length, sym, ap, subst, ◌∙◌, arith}
use Rattle.std.proofs.lemmas.Option.{same_Some}
use Rattle.rg_base.proofs.Callers.Lists.{there}
use Rattle.rg_base.specs.declared.words.Manager.TheVariants.{Count, Trace}
use Rattle.rg_regions.specs.Collection.{OfRegion}
use Rattle.rg_regions.specs.Table.{Record, record_at}
use Rattle.rg_frames.specs.declared.rows.Window.{Window}
use Rattle.rg_heap.specs.Parts.{OnTop}
use Rattle.rg_machine.specs.Active.{OnActive}
use Rattle.rg_machine.specs.Parts.{Parts}
use Rattle.rg_machine.specs.Stands.{Stands}
use Rattle.rg_machine.proofs.Callers.Collect.{has-record}

-- the managers that count and that trace are two
pub trace-apart : Trace ≡ Count → ⊥
trace-apart e = cc

module _ (p : Parts) (P : Window → Record → Type 0) where
  -- what holds if they are there holds of them
  pub on-there : Stands p.heap p.frames → OnTop p.frames (λ w. OfRegion p.heap.regions w.region (λ r. P w r)) → OnActive p P
  on-there stands holds =
      let some = stands.opened.some in
      let top = there p.frames.windows (length p.frames.windows - 1) (omega (arith, some)) in
      let n = stands.opened.known (length p.frames.windows - 1) top.0 top.1 in
      let r = has-record p.heap top.0.region n.0 n.1 in
      (top.0, r.0, top.1, r.1, holds top.0 top.1 r.0 r.1)

  -- and what holds of them holds of what is there
  pub on-each : OnActive p P → OnTop p.frames (λ w. OfRegion p.heap.regions w.region (λ r. P w r))
  on-each a u at q known =
      let same : a.0 ≡ u = same_Some a.0 u (sym a.2 ∙ at) in
      let rec : a.1 ≡ q = same_Some a.1 q (sym a.3 ∙ ap (λ (x : Window). record_at p.heap.regions x.region) same ∙ known) in
      subst (λ (x : Window). P x q) same (subst (P a.0) rec a.4)
