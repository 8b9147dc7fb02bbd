-- What stays where regions go with all beneath them, and maybe some cells besides: cells and records are as they were, and windows keep their
-- regions.
use Rattle.std.proofs.Common.{◌≡◌, ℕ, Bool as Truth, true, false, List, Option, Some, None, length, option_map, refl, sym, ap, ◌∙◌, subst}
use Rattle.std.proofs.lemmas.Bool.{false≢true}
use Rattle.std.proofs.lemmas.Option.{none-some, same_Some}
use Rattle.rg_base.specs.declared.object.Label.{Label}
use Rattle.rg_base.specs.declared.object.Label.TheVariants.{Region}
use Rattle.rg_base.specs.declared.value.Word.{Word}
use Rattle.rg_rules.specs.Regions.{among}
use Rattle.rg_cells.specs.declared.cell.Body.{Body}
use Rattle.rg_cells.specs.Table.{label_at, field_at, Serials, IsHeld}
use Rattle.rg_regions.specs.Table.{Record, record_at, HasNumber, IsBridge}
use Rattle.rg_regions.specs.Reach.{LiesIn}
use Rattle.rg_regions.specs.Grove.{Grove, Parent}
use Rattle.rg_frames.specs.declared.rows.Window.{Window as WindowRow}
use Rattle.rg_frames.specs.Stack.{Stack}
use Rattle.rg_stack.specs.Effects.{beneath_by_labels}
use Rattle.rg_stack.specs.Labels.{is_open}
use Rattle.rg_heap.specs.Parts.{Parts}
use Rattle.rg_heap.specs.Ends.{Released}
use Rattle.rg_heap.specs.Opened.{IsWindow}
use Rattle.rg_view.specs.Links.{BelowSome}
use Rattle.rg_view.specs.Names.{Names, AreTemps}
use Rattle.rg_view.specs.View.{store_of, windows_of, managers_of}
use Rattle.rg_view.proofs.Callers.Gone.After.{label-was, field-was, key-was, parent-was}
use Rattle.rg_view.proofs.Callers.Gone.Beneath.{beneath-names}
use Rattle.rg_view.proofs.Callers.Need.{keyed}
use Rattle.rg_view.proofs.Callers.Open.{window-open}
use Rattle.rg_view.proofs.Callers.Shown.{held-body, body-held}
use Rattle.rg_machine.specs.Stands.{Stands}

-- what is left was so before, where these regions and these cells went; and what isn't theirs is left
pub record Stays (old new : Parts) (v : Stack) (Goes Cell : ℕ → Type 0) : Type 0 where
  pub held : (x : ℕ) → (Cell x → ⊥) → ((r : ℕ) → Goes r → LiesIn old.cells.heap r x → ⊥) → IsHeld old.cells.heap x → IsHeld new.cells.heap x
  pub label : (x : ℕ) (l : Label) → label_at new.cells.heap x ≡ Some l → label_at old.cells.heap x ≡ Some l
  pub field : (x k : ℕ) (w : Word) → field_at new.cells.heap x k ≡ Some w → field_at old.cells.heap x k ≡ Some w
  pub parent : (p r : ℕ) → Parent new.cells.heap p r → Parent old.cells.heap p r
  pub key : (key r : ℕ) → HasNumber new.regions key r → HasNumber old.regions key r
  pub was : (key : ℕ) (r : Record) → record_at new.regions key ≡ Some r → record_at old.regions key ≡ Some r
  -- a bridge of a region that some cell lies in
  pub bridge : (r x : ℕ) → LiesIn new.cells.heap r x → IsBridge old.regions r x → IsBridge new.regions r x
  pub window : (i : ℕ) (w : WindowRow) (n : ℕ) → IsWindow v i w → HasNumber old.regions w.region n → HasNumber new.regions w.region n

module _ (old new : Parts) (v : Stack) (at : ℕ) (q : Serials old.cells.heap) (g : Grove old.cells old.regions) (s : Stands old v)
    (tops : List ℕ) (ended : Option ℕ) (Cell : ℕ → Type 0) (cells : AreTemps old.cells.heap ended Cell)
    (released : Released old new (BelowSome old.cells.heap old.regions tops) Cell)
    (closed : (r : ℕ) → BelowSome old.cells.heap old.regions tops r → is_open (windows_of old.regions v) r ≡ true → ⊥) where
  abbrev regions : List ℕ
  regions = beneath_by_labels (store_of old.cells.heap) (length (managers_of old.regions)) tops

  names : Names regions (BelowSome old.cells.heap old.regions tops)
  names = beneath-names old q g s.numbers tops

  old-label : (x : ℕ) (l : Label) → label_at new.cells.heap x ≡ Some l → label_at old.cells.heap x ≡ Some l
  old-label x l e = label-was old new tops regions ended Cell released names cells g x l e

  bridge-stays : (r x : ℕ) → LiesIn new.cells.heap r x → IsBridge old.regions r x → IsBridge new.regions r x
  bridge-stays r x lies b = (
    b.0,
    b.1,
    released.records b.0 (λ p goes h.
        let number : p ≡ r = same_Some p r (sym h ∙ ap (option_map (λ (r : Record). r.number)) b.2 ∙ ap Some b.3) in
        let gone = released.freed p x goes (old-label x (Region p) (subst (λ n. LiesIn new.cells.heap n x) (sym number) lies)) in
        none-some (Region r) (sym (ap (option_map (λ (b : Body). b.label)) gone) ∙ lies)) ∙ b.2,
    b.3,
    b.4,
  )

  record-was : (key : ℕ) (r : Record) → record_at new.regions key ≡ Some r → record_at old.regions key ≡ Some r
  record-was key r e = by (record_at old.regions key) refl
    where
      by : (o : Option Record) → record_at old.regions key ≡ o → record_at old.regions key ≡ Some r
      by None f = absurd (none-some r (sym (released.records key (λ p goes h.
          none-some p (sym (ap (option_map (λ (r : Record). r.number)) f) ∙ h)) ∙ f) ∙ e))
      by (Some u) f =
          released-or-same (among regions u.number) refl
        where
          has : HasNumber old.regions key u.number
          has = ap (option_map (λ (r : Record). r.number)) f

          released-or-same : (t : Truth) → among regions u.number ≡ t → record_at old.regions key ≡ Some r
          released-or-same true i = absurd (none-some r (sym (released.removed key u.number (names.only u.number i) has) ∙ e))
          released-or-same false i =
              sym (released.records key (λ p goes h.
              let number : u.number ≡ p = same_Some u.number p (sym has ∙ h) in
              false≢true (sym i ∙ ap (among regions) number ∙ names.all p goes))) ∙ e

  pub stays : Stays old new v (BelowSome old.cells.heap old.regions tops) Cell
  stays = record {
    held = λ x keep out held.
        let b = held-body old.cells.heap x held in body-held new.cells.heap x b.0 (released.cells x out keep ∙ b.1);
    label = old-label;
    field = λ x k w e. field-was old new tops regions ended Cell released names cells g x k w e;
    parent = λ p r a. parent-was old new tops regions ended Cell released names cells g p r a;
    key = λ key r h. key-was old new tops regions ended Cell released names cells g key r h;
    was = record-was;
    bridge = bridge-stays;
    window = λ i w n e h.
        ap (option_map (λ (r : Record). r.number)) (released.records w.region (λ r b h.
        closed r b (window-open old.regions v (keyed old v at q g s.opened) r i w e h))) ∙ h;
  }
