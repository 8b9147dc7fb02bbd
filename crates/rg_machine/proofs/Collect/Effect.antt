-- A collection of the active region by its manager: what the heap asks for, and what the machine shows behind it.
use Rattle.std.proofs.Common.{◌≡◌, ℕ, ◌+◌, ◌-◌, List, [], true, drop, length, Option, Some, slice_get}
use Rattle.std.proofs.Common.{refl, sym, ap, ◌∙◌, subst, arith}
use Rattle.std.proofs.lemmas.Option.{none-some}
use Rattle.rg_base.specs.declared.object.Label.TheVariants.{Temp}
use Rattle.rg_base.specs.declared.value.Val.{Val}
use Rattle.rg_base.specs.declared.value.Word.{Word}
use Rattle.rg_base.specs.declared.words.Manager.{Manager}
use Rattle.rg_base.specs.declared.words.Manager.TheVariants.{Arena, Count, Trace}
use Rattle.rg_cells.specs.Table.{Serials}
use Rattle.rg_regions.specs.Collection.{AllHeld, OfRegion, TempsLeadToHeld, roots_of}
use Rattle.rg_regions.specs.Grove.{Grove}
use Rattle.rg_regions.specs.Reach.{LiesIn, Roots}
use Rattle.rg_regions.specs.Reach.{Stands as Root}
use Rattle.rg_regions.specs.Table.{Record, record_at}
use Rattle.rg_regions.proofs.Callers.Told.{labelled_held}
use Rattle.rg_frames.specs.Stack.{Stack, mark}
use Rattle.rg_stack.specs.Needs.{owned_once}
use Rattle.rg_heap.specs.declared.answers.Collected.{Collected}
use Rattle.rg_heap.specs.Collects.{Collects, CollectsBy}
use Rattle.rg_heap.specs.Ends.{top_temps}
use Rattle.rg_heap.specs.Parts.{OnTop, Parts}
use Rattle.rg_view.specs.View.{machine_of}
use Rattle.rg_view.proofs.Callers.Leave.{top-temp}
use Rattle.rg_view.proofs.Callers.Shown.{get-drop}
use Rattle.rg_machine.specs.Collects.{Gathers}
use Rattle.rg_machine.specs.High.{NoneMade}
use Rattle.rg_machine.specs.Stands.{AllLead, Stands}
use Rattle.rg_machine.proofs.Callers.Collect.{active, lead-behind, roots_in, stands-behind}
use Rattle.rg_machine.proofs.Callers.Gather.{collection-gathered, collection-keeps}

-- What the heap asks for

module _ (p : Parts) (v : Stack) (g : Grove p.cells p.regions) (st : Stands p v) where
  pub asks-temps : AllHeld p.cells.heap (top_temps v)
  asks-temps i s e =
      let a = active p v st.opened in
      labelled_held p.cells.heap s (Temp a.window.number)
      (st.opened.temps (length v.windows - 1) s a.window a.is (top-temp p v g st.opened i s e))

pub asks-leads : (p : Parts) (v : Stack) → Stands p v → TempsLeadToHeld p.cells.heap (top_temps v)
asks-leads p v st i s k to e f = st.opened.lead (mark v + i) s (sym (get-drop (mark v) i v.temps) ∙ e) k to f

-- By the manager

-- where nothing goes
pub nothing : (p : Parts) (key : ℕ) (rec : Record) → record_at p.regions key ≡ Some rec → Collects p p key rec (λ s. ⊥)
nothing p key rec e = record {
  freed = λ s l cell. absurd cell;
  lost = λ n s goes l. absurd goes.1.gone;
  cells = λ s out away. refl;
  removed = λ k n goes h. absurd goes.1.gone;
  records = λ k d away. refl;
  own = (rec, e, refl, refl, refl);
  serials = refl;
  high = refl;
  numbers = refl;
}

-- whatever the manager, no root goes
pub by-manager : (P : Type 0) (old new : Parts) (key : ℕ) (rec : Record) (roots : Roots) (told : Option Collected) (manager : Manager)
    → record_at old.regions key ≡ Some rec → CollectsBy manager old new key rec roots told
    → ((Cell : ℕ → Type 0) → Collects old new key rec Cell
    → ((s : ℕ) → LiesIn old.cells.heap rec.number s → Root old.cells.heap roots s → Cell s → ⊥) → P) → P
by-manager P old new key rec roots told Arena e by go =
    go (λ s. ⊥) (subst (λ n. Collects old n key rec (λ s. ⊥)) (sym by.1) (nothing old key rec e)) (λ s lies stands cell. cell)
by-manager P old new key rec roots told Count e by go =
    go _ by.3 (λ s lies stands cell. cell.1.no_root cell.2.0 s cell.2.1 stands)
by-manager P old new key rec roots told Trace e by go =
    go _ by.3 (λ s lies stands cell. cell (0, omega arith, (lies, stands)))

module _ (old new : Parts) (v : Stack) (at : ℕ) (q : Serials old.cells.heap) (g : Grove old.cells old.regions)
    (st : Stands old v) (once : owned_once (machine_of old v at) ≡ true) (told : Option Collected)
    (by : OnTop v (λ w. OfRegion old.regions w.region (λ r.
    CollectsBy r.manager old new w.region r (roots_of r.bridge (drop w.base v.slots) (top_temps v)) told))) where
  pub collected-stands : Stands new v
  collected-stands =
      let a = active old v st.opened in
      by-manager (Stands new v) old new a.window.region a.rec (roots_in old v a) told a.rec.manager a.known
      (by a.window a.is a.rec a.known)
      (λ Cell c root. stands-behind old new v at q g st once a Cell c root)

  pub collected-high : NoneMade old new
  collected-high =
      let a = active old v st.opened in
      by-manager (NoneMade old new) old new a.window.region a.rec (roots_in old v a) told a.rec.manager a.known (by a.window a.is a.rec a.known)
      (λ Cell c root. record { made = c.serials; high = c.high })

  pub collected-gathers : Grove new.cells new.regions → (words : List Word) (printed : Option Val) → Gathers
      (record { heap = old; frames = v; words = words; at = at; printed = printed })
      (record { heap = new; frames = v; words = words; at = at; printed = printed })
  collected-gathers gn words printed =
      let a = active old v st.opened in
      by-manager (Gathers (record { heap = old; frames = v; words = words; at = at; printed = printed })
      (record { heap = new; frames = v; words = words; at = at; printed = printed }))
      old new a.window.region a.rec (roots_in old v a) told a.rec.manager a.known (by a.window a.is a.rec a.known)
      (λ Cell c root. record {
        keeps = collection-keeps old new v at q g (lead-behind old new v at q g st once a Cell c root gn) st once a Cell c root;
        gathered = collection-gathered old new v at q g (lead-behind old new v at q g st once a Cell c root gn) st once a Cell c root;
        frames = refl;
        words = refl;
        at = refl;
        printed = refl;
      })

-- nothing stands on the stack
pub none-lead : (p : Parts) (v : Stack) (words : List Word) → words ≡ [] → AllLead p v words
none-lead p v words e k w there = absurd (none-some w (sym (ap (λ ws. slice_get ws k) e) ∙ there))
