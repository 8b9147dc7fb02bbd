-- A behaviour's object is held exactly where the machine shows it, in region 0 that is an arena.
use Rattle.std.proofs.Common.{◌≡◌, inl, inr, ℕ, true, List, Some, option_map, slice_get, sym, ap, ◌∙◌, subst}
use Rattle.std.proofs.lemmas.Option.{same_Some}
use Rattle.rg_base.specs.declared.object.Label.TheVariants.{Region}
use Rattle.rg_base.specs.declared.object.Seen.{Seen}
use Rattle.rg_base.specs.declared.words.Manager.{Manager}
use Rattle.rg_base.specs.declared.words.Manager.TheVariants.{Arena}
use Rattle.rg_base.proofs.Callers.Lists.{there}
use Rattle.rg_cells.specs.declared.cell.Body.{Body}
use Rattle.rg_regions.specs.Table.{Record, InTable, record_at}
use Rattle.rg_held.specs.Gone.{gone}
use Rattle.rg_view.specs.View.{object_of, store_of}
use Rattle.rg_view.proofs.Callers.Link.{store-back}
use Rattle.rg_view.proofs.Callers.Look.{store-held}
use Rattle.rg_view.proofs.Callers.Manager.{manager-at}
use Rattle.rg_machine.specs.Collects.{holds}
use Rattle.rg_machine.specs.Parts.{Parts, machine_in}
use Rattle.rg_machine.proofs.Callers.Collect.{has-record}
use Rattle.rg_machine.proofs.Callers.Gather.{holds-there}
use Rattle.rg_step.specs.Behaviours.{HoldsFirst}
use Rattle.rg_step.specs.Sound.{IsSound}

-- the first object of a store lies in region 0, which is an arena
pub record InArena (store : List Seen) (managers : List Manager) : Type 0 where
  pub object : Seen
  pub there : slice_get store 0 ≡ Some object
  pub lies : object.label ≡ Region 0
  pub arena : slice_get managers 0 ≡ Some Arena

pub gone-not : (o : Seen) → o.label ≡ Region 0 → o ≡ gone → ⊥
gone-not o lies is = never (sym lies ∙ ap (λ (x : Seen). x.label) is)
  where
    never : Region 0 ≡ gone.label → ⊥
    never e = cc

abbrev pub Shows : Parts → Type 0
Shows w = InArena (machine_in w).store (machine_in w).managers

module _ (w : Parts) (sound : IsSound w.heap w.frames) where
  pub held-shows : HoldsFirst w → Shows w
  held-shows f =
      let h = w.heap.cells.heap in
      let b = f.first.0 in
      let P : ℕ → Type 0 = λ n. slice_get (store_of h) n ≡ Some (object_of h (Some b)) in
      let M : ℕ → Type 0 = λ n. slice_get (machine_in w).managers n ≡ Some f.arena.1.manager in
      record {
        object = object_of h (Some b);
        there = subst P f.first.2 (store-held h f.slot b sound.serials f.first.1);
        lies = same_Some b.label (Region 0) (sym (ap (option_map (λ (b : Body). b.label)) f.first.1) ∙ f.lies);
        arena = subst M f.arena.3 (manager-at w.heap.regions f.arena.0 f.arena.1 sound.stands.numbers f.arena.2) ∙ ap Some f.arena.4;
      }

  pub holds-first : HoldsFirst w → holds w.heap.cells.heap 0 ≡ true
  holds-first f =
      let h = w.heap.cells.heap in
      let P : ℕ → Type 0 = λ n. holds h n ≡ true in
      subst P f.first.2 (holds-there h f.slot f.first.0 f.first.1)

  -- region 0 is in the table
  abbrev Known : Type 0
  Known = (key : ℕ) × (r : Record) × (record_at w.heap.regions key ≡ Some r) × (r.number ≡ 0)

  zero-known : Known
  zero-known =
      let u = there w.frames.windows 0 sound.stands.opened.some in
      let r = has-record w.heap u.0.region 0 (sound.stands.opened.first u.0 u.1) in
      (u.0.region, r.0, r.1, r.2)

  pub first-in : InTable w.heap.regions 0
  first-in = let k = zero-known in (k.0, ap (option_map (λ (r : Record). r.number)) k.2 ∙ ap Some k.3)

  arena-is : (k : Known) → slice_get (machine_in w).managers 0 ≡ Some Arena → k.1.manager ≡ Arena
  arena-is k e =
      let M : ℕ → Type 0 = λ n. slice_get (machine_in w).managers n ≡ Some k.1.manager in
      same_Some k.1.manager Arena (sym (subst M k.3 (manager-at w.heap.regions k.0 k.1 sound.stands.numbers k.2)) ∙ e)

  pub shows-held : Shows w → HoldsFirst w
  shows-held x = elim (store-back w.heap.cells.heap 0 x.object x.there) [
    | inl y ↦
        (let k = zero-known in
        record {
          slot = y.slot;
          first = (y.body, y.held, y.serial);
          lies = ap (option_map (λ (b : Body). b.label)) y.held ∙ ap Some (ap (λ (o : Seen). o.label) (sym y.shown) ∙ x.lies);
          arena = (k.0, k.1, k.2, k.3, arena-is k x.arena);
        })
    | inr is ↦ absurd (gone-not x.object x.lies is)
  ]
