-- What the machine holds where an object isn't made for want of memory: all stands, and it shows what it did.
use Rattle.std.proofs.Common.{◌≡◌, inl, ℕ, ◌-◌, List, [], ◌∷◌, Option, length, map, slice_get, option_map, option_and_then, IsSome, Result, Ok}
use Rattle.std.proofs.Common.{Err, OnErr, refl, sym, ap, ◌∙◌, subst}
use Rattle.rg_base.specs.declared.object.Seen.{Seen}
use Rattle.rg_base.specs.declared.words.Manager.{Manager}
use Rattle.rg_base.specs.declared.value.Word.{Word}
use Rattle.rg_cells.specs.declared.cell.Body.{Body}
use Rattle.rg_cells.specs.Table.{Table, Serials, label_at, IsHeld}
use Rattle.rg_regions.specs.Grove.{Grove}
use Rattle.rg_frames.specs.Stack.{Stack}
use Rattle.rg_stack.specs.Machine.{Frame, Machine, Window as WindowOf}
use Rattle.rg_heap.specs.Parts.{Parts, OnTop}
use Rattle.rg_heap.specs.Answers.{obj_of}
use Rattle.rg_heap.specs.Changes.{Rewritten, SameCells, SameRecords, as_it_is}
use Rattle.rg_view.specs.View.{machine_of, store_of}
use Rattle.rg_view.proofs.Callers.Manager.{SameNumbers, same-managers}
use Rattle.rg_view.proofs.Callers.Become.{becomes-store}
use Rattle.rg_view.proofs.Callers.Shown.{frames-same, object-same}
use Rattle.rg_view.proofs.Callers.Table.{rewritten-numbers, same-records, same-windows}
use Rattle.rg_machine.specs.Stands.{AllLead, Stands}
use Rattle.rg_machine.proofs.New.Grow.{Grown, grown-stands, grown-all-lead}
use Rattle.rg_machine.proofs.Kept.{Kept, rewritten-kept, same-kept, equal-kept, equal-numbers}
use Rattle.rg_machine.proofs.Known.{top-window, windows-known}

-- what holds anyhow holds where it is refused
pub on-err : {A E : Type 0} → (r : Result A E) (P : Type 0) → P → OnErr r P
on-err (Ok x) P h = tt
on-err (Err e) P h = h

-- Where it is refused

-- what holds behind it
pub record Refused (old new : Parts) (v : Stack) (words : List Word) (at : ℕ) : Type 0 where
  pub stands : Stands new v
  pub lead : AllLead new v words
  pub machine : machine_of new v at ≡ machine_of old v at

-- the machine that a stack and an address make of what is shown
module _ (v : Stack) (at : ℕ) where
  abbrev pub machine : List Seen → List Frame → List WindowOf → List Manager → Machine
  machine store frames windows managers =
      record { store = store; frames = frames; windows = windows; managers = managers; windows_made = v.next; at = at }

  same-machine : (s s₂ : List Seen) (f f₂ : List Frame) (w w₂ : List WindowOf) (m m₂ : List Manager) → s ≡ s₂ → f ≡ f₂ → w ≡ w₂ → m ≡ m₂
      → machine s f w m ≡ machine s₂ f₂ w₂ m₂
  same-machine s s₂ f f₂ w w₂ m m₂ a b c d =
      ap (λ x. machine x f w m) a ∙ ap (λ x. machine s₂ x w m) b ∙ ap (λ x. machine s₂ f₂ x m) c ∙ ap (machine s₂ f₂ w₂) d

map-itself : (xs : List Seen) → map (λ x. x) xs ≡ xs
map-itself [] = refl
map-itself (x ∷ xs) = ap (λ ys. x ∷ ys) (map-itself xs)

-- cells that stay show the same
pub same-store : (old new : Table) → SameCells old new → Serials old.heap → store_of new.heap ≡ store_of old.heap
same-store old new s q = becomes-store old.heap new.heap (λ x. x) q (record {
  next = s.next;
  gone_stays = refl;
  each = λ k b e. inl (record {
    body = b;
    held = s.bodies k ∙ e;
    serial = refl;
    shown = object-same old.heap new.heap b (λ i x f. ap obj_of (s.bodies x));
  });
  none = λ k e. s.bodies k ∙ e;
}) ∙ map-itself (store_of old.heap)

same-held : (old new : Table) (s : ℕ) → SameCells old new → IsHeld old.heap s → IsHeld new.heap s
same-held old new s c h = subst (λ (o : Option Body). IsSome o) (sym (c.bodies s)) h

same-label : (old new : Table) (s : ℕ) → SameCells old new → label_at new.heap s ≡ label_at old.heap s
same-label old new s c = ap (option_map (λ (b : Body). b.label)) (c.bodies s)

pub equal-cells : (old new : Table) → new ≡ old → SameCells old new
equal-cells old new e = subst (λ (t : Table). SameCells old t) (sym e) (record { bodies = λ s. refl; marks = λ s. refl; next = refl })

module _ (old new : Parts) (v : Stack) (words : List Word) (at : ℕ) (g : Grove old.cells old.regions) (q : Serials old.cells.heap)
    (st : Stands old v) (l : AllLead old v words) where
  same-grown : SameCells old.cells new.cells → Kept old.regions new.regions → Grown old new v v.temps
  same-grown c k = record {
    held = λ s h. same-held old.cells new.cells s c h;
    label = λ s l e. same-label old.cells new.cells s c ∙ e;
    label_back = λ s l h e. sym (same-label old.cells new.cells s c) ∙ e;
    field_back = λ s k to e. sym (ap (option_and_then (λ (b : Body). slice_get b.fields k)) (c.bodies s)) ∙ e;
    number = k.number;
    bridge = k.bridge;
    numbers = k.numbers;
    bridges = k.bridges;
    temps = λ i s w e t. same-label old.cells new.cells s c ∙ st.opened.temps i s w e t;
    all_temps = λ i s w e l. st.opened.all_temps i s w e (sym (same-label old.cells new.cells s c) ∙ l);
    once = st.opened.once;
    windows = λ s n l. st.temps s n (sym (same-label old.cells new.cells s c) ∙ l);
  }

  -- cells stay, and the regions' records stay but for room
  pub refused : SameCells old.cells new.cells → Kept old.regions new.regions → SameNumbers old.regions new.regions
      → Refused old new v words at
  refused c k n =
      let grown = same-grown c k in
      record {
        stands = grown-stands old new v v.temps g st grown;
        lead = grown-all-lead old new v v.temps g st grown words l;
        machine = same-machine v at _ _ _ _ _ _ _ _
            (same-store old.cells new.cells c q)
            (frames-same old.cells.heap new.cells.heap v (λ i s e. ap obj_of (c.bodies s)))
            (same-windows old.regions new.regions v n (windows-known old v st))
            (same-managers old.regions new.regions n st.numbers);
      }

  -- an object of the active region
  pub make-refused : new.cells ≡ old.cells → OnTop v (λ w. Rewritten old.regions new.regions w.region as_it_is) → Refused old new v words at
  make-refused e member =
      let w = top-window old v st in
      let key = windows-known old v st (length v.windows - 1) w.0 w.1 in
      refused (equal-cells old.cells new.cells e)
      (rewritten-kept old.regions new.regions w.0.region as_it_is (member w.0 w.1) key (λ r. refl) (λ r. refl) st.numbers st.bridges)
      (rewritten-numbers old.regions new.regions w.0.region as_it_is (member w.0 w.1) key (λ r. refl) (λ r. refl))

  -- a temporary
  pub temp-refused : SameCells old.cells new.cells → new.regions ≡ old.regions → Refused old new v words at
  temp-refused c e =
      refused c (equal-kept old.regions new.regions e st.numbers st.bridges)
      (equal-numbers old.regions new.regions e)

  -- a region
  pub region-refused : new.cells ≡ old.cells → SameRecords old.regions new.regions → Refused old new v words at
  region-refused e s =
      refused (equal-cells old.cells new.cells e) (same-kept old.regions new.regions s st.numbers st.bridges)
      (same-records old.regions new.regions s)
