-- What a step frees: by the law on the store that is shown, and by the table of regions beside it.
use Rattle.std.proofs.Common.{◌≡◌, ◌≢◌, inl, inr, ℕ, zero, suc, true, List, [], Option, Some, None, option_map, slice_get}
use Rattle.std.proofs.Common.{IfErr, IsSome, Result, Ok, Err, refl, sym, ap, ◌∙◌, subst, arith}
use Rattle.std.proofs.lemmas.Bool.{false≢true}
use Rattle.std.proofs.lemmas.Option.{same_Some}
use Rattle.rg_base.specs.declared.object.Label.TheVariants.{Region}
use Rattle.rg_base.specs.declared.object.Seen.{Seen}
use Rattle.rg_base.proofs.Callers.Lists.{there}
use Rattle.rg_cells.specs.declared.cell.Body.{Body}
use Rattle.rg_code.specs.Code.{Code}
use Rattle.rg_regions.specs.Reach.{LiesIn}
use Rattle.rg_regions.specs.Table.{InTable, Record, record_at}
use Rattle.rg_regions.proofs.Callers.Told.{labelled_held}
use Rattle.rg_stack.specs.Machine.{Machine}
use Rattle.rg_stack.specs.Labels.{is_open}
use Rattle.rg_stack.specs.Refusals.{Orderly}
use Rattle.rg_held.specs.Frees.{free_step as step}
use Rattle.rg_held.specs.Gone.{gone}
use Rattle.rg_held.specs.Freed.{FreesOnly as StoreFrees, RegionEnded, StepFrees}
use Rattle.rg_held.proofs.Callers.Freed.{steps-free}
use Rattle.rg_held.proofs.Callers.Gone.{StaysGone as StoreStays, StepStays, step-stays}
use Rattle.rg_view.proofs.Callers.Link.{gone-region, store-back}
use Rattle.rg_view.proofs.Callers.Look.{store-held}
use Rattle.rg_view.proofs.Callers.Open.{window-open}
use Rattle.rg_view.proofs.Callers.Shown.{held-body}
use Rattle.rg_machine.specs.Core.{Core, started, work_of}
use Rattle.rg_machine.specs.Parts.{Parts, machine_in}
use Rattle.rg_compute.specs.Known.{GoesOn, with_left}
use Rattle.rg_step.specs.declared.step.Did.{Did}
use Rattle.rg_step.specs.declared.step.Did.TheVariants as did
use Rattle.rg_step.specs.declared.stopped.Stopped.{Stopped}
use Rattle.rg_step.specs.Frees.{FreesOnly, StaysGone}
use Rattle.rg_step.specs.Inner.Refusals.{StopLeaves, asks_at}
use Rattle.rg_step.specs.Sound.{IsSound}
use Rattle.rg_step.specs.Inner.Walks.{StepIs}
use Rattle.rg_step.specs.Steps.{IsRunning}
use Rattle.rg_step.proofs.Walking.Stops.{stop-same}
use Rattle.rg_step.proofs.Callers.Serve.{has-record}

-- By the store that is shown

-- a machine that stays frees nothing
pub still-frees : (old new : Machine) → new ≡ old → StoreFrees old new
still-frees old new same serial o was live away =
    absurd (live (away o (ap (λ (m : Machine). slice_get m.store serial) same ∙ was)))

-- a step frees what the law says
pub did-frees : (code : Code) (c new : Core) (d : Result Did Stopped) (before after : List ℕ) → IsRunning code c.machine
    → (Orderly code.ops c.machine → IfErr d (StopLeaves c.machine (asks_at code.ops c.machine) new.machine)) → StepIs code c new d before after
    → Orderly code.ops c.machine → StoreFrees c.machine new.machine
did-frees code c new d before after (t, p, r) leaves is o = by d (leaves o) is
  where
    law : StepFrees c.machine (step code (work_of (started c) before))
    law = steps-free t code (work_of (started c) before) p r.accepted r.lowers r.fits r.shows refl r.left

    by : (d : Result Did Stopped) → IfErr d (StopLeaves c.machine (asks_at code.ops c.machine) new.machine) → StepIs code c new d before after
        → StoreFrees c.machine new.machine
    by (Ok did.Goes) left is = subst (StepFrees c.machine) is.0 law
    by (Ok did.Ends) left is = subst (StepFrees c.machine) is.0 law
    by (Err why) left is = still-frees c.machine new.machine (stop-same why c.machine (asks_at code.ops c.machine) new.machine left)

-- so does a known one
pub goes-frees : (code : Code) (old new : Machine) → IsRunning code old → GoesOn code old new → StoreFrees old new
goes-frees code old new (t, p, r) goes =
    subst (StepFrees old) (goes p.input) (steps-free t code (with_left old p.input) p r.accepted r.lowers r.fits r.shows refl r.left)

-- What is gone stays so

-- nothing changes
pub same-gone : (old new : Machine) → new ≡ old → StoreStays old.store new.store
same-gone old new same a e = ap (λ (m : Machine). slice_get m.store a) same ∙ e

-- behind a step
pub did-stays : (code : Code) (c new : Core) (d : Result Did Stopped) (before after : List ℕ)
    → (Orderly code.ops c.machine → IfErr d (StopLeaves c.machine (asks_at code.ops c.machine) new.machine)) → StepIs code c new d before after
    → Orderly code.ops c.machine → StoreStays c.machine.store new.machine.store
did-stays code c new d before after leaves is o = by d (leaves o) is
  where
    law : StepStays c.machine (step code (work_of (started c) before))
    law = step-stays code (work_of (started c) before)

    by : (d : Result Did Stopped) → IfErr d (StopLeaves c.machine (asks_at code.ops c.machine) new.machine) → StepIs code c new d before after
        → StoreStays c.machine.store new.machine.store
    by (Ok did.Goes) left is = subst (StepStays c.machine) is.0 law
    by (Ok did.Ends) left is = subst (StepStays c.machine) is.0 law
    by (Err why) left is = same-gone c.machine new.machine (stop-same why c.machine (asks_at code.ops c.machine) new.machine left)

-- and a known one
pub goes-stays : (code : Code) (old new : Machine) → GoesOn code old new → StoreStays old.store new.store
goes-stays code old new goes = subst (StepStays old) (goes []) (step-stays code (with_left old []))

-- By the table of regions

module _ (old new : Parts) (was : IsSound old.heap old.frames) (is : IsSound new.heap new.frames) where
  -- a region in which an object lies is in the table
  in-table : (serial : ℕ) (o : Seen) (r : ℕ) → slice_get (machine_in old).store serial ≡ Some o → o.label ≡ Region r
      → InTable old.heap.regions r
  in-table serial o r held lies = elim (store-back old.heap.cells.heap serial o held) [
    | inl x ↦ was.forest.labels r x.slot
        (ap (option_map (λ (b : Body). b.label)) x.held ∙ ap Some (sym (ap (λ (u : Seen). u.label) x.shown) ∙ lies))
    | inr x ↦ absurd (gone-region r (sym (ap (λ (u : Seen). u.label) x) ∙ lies))
  ]

  -- a cell of a region is an object in it
  lies-shown : (r slot : ℕ) → LiesIn new.heap.cells.heap r slot
      → (serial : ℕ) × (o : Seen) × (slice_get (machine_in new).store serial ≡ Some o) × (o.label ≡ Region r)
  lies-shown r slot lies =
      let h = new.heap.cells.heap in
      let b = held-body h slot (labelled_held h slot (Region r) lies) in (
        b.0.serial,
        _,
        store-held h slot b.0 is.serials b.1,
        same_Some b.0.label (Region r) (sym (ap (option_map (λ (u : Body). u.label)) b.1) ∙ lies),
      )

  -- region 0 is open
  first-open : is_open (machine_in new).windows 0 ≡ true
  first-open =
      let opened = is.stands.opened in
      let w = there new.frames.windows 0 opened.some in
      window-open new.heap.regions new.frames (record { known = opened.known; numbers = is.forest.numbers }) 0 0 w.0 w.1 (opened.first w.0 w.1)

  -- so a region that is closed, and in which nothing lies, isn't in the table: it would have a bridge
  not-in-table : (r : ℕ) → RegionEnded (machine_in old) (machine_in new) r → InTable new.heap.regions r → ⊥
  not-in-table r ended (key, has) =
      let rec = has-record new.heap.regions key r has in
      let number : rec.0.number ≡ r = same_Some rec.0.number r (sym (ap (option_map (λ (u : Record). u.number)) rec.1) ∙ has) in
      by rec.0 rec.1 number rec.0.bridge refl
    where
      bridged : (n : ℕ) → n ≡ r → (n ≢ 0 → ⊥) → ⊥
      bridged zero same some =
          false≢true (sym ended.closed ∙ subst (λ q. is_open (machine_in new).windows q ≡ true) same first-open)
      bridged (suc n) same some = some (λ e. absurd (omega (arith, e)))

      by : (rec : Record) → record_at new.heap.regions key ≡ Some rec → rec.number ≡ r → (b : Option ℕ) → rec.bridge ≡ b → ⊥
      by rec at number None none = bridged rec.number number (λ some.
          false≢true (subst (λ (b : Option ℕ). IsSome b) none ((is.stands.bridges key rec at).0 some)))
      by rec at number (Some slot) some =
          let lies = subst (λ n. LiesIn new.heap.cells.heap n slot) number (is.forest.bridges key slot rec at some) in
          let x = lies-shown r slot lies in
          ended.empty x.0 x.1 x.2 x.3

  -- what went as the store shows it went as the table has it
  pub table-frees : StoreFrees (machine_in old) (machine_in new) → FreesOnly old new
  table-frees frees serial o held live away = elim (frees serial o held live away) [
    | inl temp ↦ inl temp
    | inr (r, lies, ended) ↦ inr (
      r,
      lies,
      record {
        was = in-table serial o r held lies;
        left = not-in-table r ended;
        all_gone = λ a u at in_region v there. same_Some v gone (sym there ∙ ended.all_gone a u at in_region);
      },
    )
  ]

-- parts that stay free nothing
pub none-stays : (p : Parts) → StaysGone p p
none-stays p serial e = e

pub none-frees : (p : Parts) → FreesOnly p p
none-frees p serial o held live away = absurd (live (away o held))
