-- One release behind another: what goes at the second, and the machine behind both.
use Rattle.std.proofs.Common.{◌≡◌, ◌<◌, ◌||◌, inl, inr, ℕ, Bool as Truth, true, false, if◌then◌else◌, List, [], ◌∷◌, ◌++◌, map, length}
use Rattle.std.proofs.Common.{Option, Some, None, option_map, option_and_then, slice_get, slice_index_or, refl, sym, ap, ◌∙◌, subst, arith}
use Rattle.std.specs.List.{list_any, range_with_len}
use Rattle.std.proofs.lemmas.Bool.{false≢true}
use Rattle.std.proofs.lemmas.Option.{none-some}
use Rattle.std.proofs.lemmas.List.FromFn.{length-map-range_with_len}
use Rattle.rg_base.specs.declared.object.Label.{Label}
use Rattle.rg_base.specs.declared.object.Label.TheVariants.{Region}
use Rattle.rg_base.specs.declared.object.Seen.{Seen}
use Rattle.rg_base.specs.declared.value.Word.{Word}
use Rattle.rg_base.specs.declared.words.Manager.{Manager}
use Rattle.rg_base.specs.declared.words.Manager.TheVariants.{Arena}
use Rattle.rg_base.proofs.Callers.Labels.{region-same, temp-region}
use Rattle.rg_rules.specs.Regions.{in_regions}
use Rattle.rg_cells.specs.declared.cell.Body.{Body}
use Rattle.rg_cells.specs.Table.{Heap, body_at, label_at, field_at}
use Rattle.rg_regions.specs.Table.{Record, record_at, HasNumber, InTable}
use Rattle.rg_regions.specs.Reach.{LiesIn}
use Rattle.rg_regions.specs.Grove.{Parent, Above, direct, further, Grove}
use Rattle.rg_stack.specs.Machine.{Window}
use Rattle.rg_stack.specs.Effects.{with_store}
use Rattle.rg_stack.specs.Tops.{Work}
use Rattle.rg_stack.specs.Labels.{is_open, lies_in}
use Rattle.rg_heap.specs.Parts.{Parts}
use Rattle.rg_heap.specs.Ends.{Released, NoCell}
use Rattle.rg_view.specs.Names.{Names, AreTemps}
use Rattle.rg_view.specs.Links.{BelowSome}
use Rattle.rg_view.proofs.List.{map-numbers}
use Rattle.rg_view.proofs.Callers.Gone.Released.{kept-body}
use Rattle.rg_view.proofs.Callers.Gone.Records.{released-numbers}
use Rattle.rg_view.proofs.Callers.Gone.Lists.{bury-more}
use Rattle.rg_view.proofs.Callers.Gone.Managers.{lives_in, remembered, index-of}
use Rattle.rg_held.specs.Frees.{is_temp, buried, bury, forgotten}
use Rattle.rg_held.specs.Gone.{gone}
use Rattle.rg_held.proofs.Callers.Forget.{made-at}

-- no temporaries
pub no-temps : (h : Heap) → AreTemps h None NoCell
no-temps h = record { all = λ s n e is. absurd (none-some n is); only = λ s c. absurd c }

-- labels and fields were there where bodies were

pub labels-were : (old new : Heap) → ((s : ℕ) (b : Body) → body_at new s ≡ Some b → body_at old s ≡ Some b) → (s : ℕ) (l : Label)
    → label_at new s ≡ Some l → label_at old s ≡ Some l
labels-were old new was s l e = by (body_at new s) refl
  where
    by : (c : Option Body) → body_at new s ≡ c → label_at old s ≡ Some l
    by None f = absurd (none-some l (sym (ap (option_map (λ (b : Body). b.label)) f) ∙ e))
    by (Some b) f = ap (option_map (λ (b : Body). b.label)) (was s b f ∙ sym f) ∙ e

pub fields-were : (old new : Heap) → ((s : ℕ) (b : Body) → body_at new s ≡ Some b → body_at old s ≡ Some b) → (s k : ℕ) (w : Word)
    → field_at new s k ≡ Some w → field_at old s k ≡ Some w
fields-were old new was s k w e = by (body_at new s) refl
  where
    by : (c : Option Body) → body_at new s ≡ c → field_at old s k ≡ Some w
    by None f = absurd (none-some w (sym (ap (option_and_then (λ (b : Body). slice_get b.fields k)) f) ∙ e))
    by (Some b) f = ap (option_and_then (λ (b : Body). slice_get b.fields k)) (was s b f ∙ sym f) ∙ e

-- The regions that go

module _ (old new : Parts) (tops regions : List ℕ) (temps : Option ℕ) (Cell : ℕ → Type 0)
    (r : Released old new (BelowSome old.cells.heap old.regions tops) Cell)
    (names : Names regions (BelowSome old.cells.heap old.regions tops)) (cells : AreTemps old.cells.heap temps Cell)
    (g : Grove old.cells old.regions) where
  -- a region that goes at first
  abbrev pub WentFirst : ℕ → Type 0
  WentFirst q = BelowSome old.cells.heap old.regions tops q

  pub was : (s : ℕ) (b : Body) → body_at new.cells.heap s ≡ Some b → body_at old.cells.heap s ≡ Some b
  was s b e = kept-body old new WentFirst Cell regions temps r names cells s b e

  pub label-was : (s : ℕ) (l : Label) → label_at new.cells.heap s ≡ Some l → label_at old.cells.heap s ≡ Some l
  label-was s l e = labels-were old.cells.heap new.cells.heap was s l e

  pub field-was : (s k : ℕ) (w : Word) → field_at new.cells.heap s k ≡ Some w → field_at old.cells.heap s k ≡ Some w
  field-was s k w e = fields-were old.cells.heap new.cells.heap was s k w e

  pub key-was : (key q : ℕ) → HasNumber new.regions key q → HasNumber old.regions key q
  key-was key q has = by (record_at new.regions key) refl
    where
      by : (o : Option Record) → record_at new.regions key ≡ o → HasNumber old.regions key q
      by None f = absurd (none-some q (sym (ap (option_map (λ (r : Record). r.number)) f) ∙ has))
      by (Some x) f =
          let u = (released-numbers old new WentFirst Cell regions r names).there key x f in
          ap (option_map (λ (r : Record). r.number)) u.1 ∙ ap Some u.2 ∙ (sym (ap (option_map (λ (r : Record). r.number)) f) ∙ has)

  -- and so do its cells
  pub cell-stays : (q s : ℕ) → (WentFirst q → ⊥) → LiesIn old.cells.heap q s → body_at new.cells.heap s ≡ body_at old.cells.heap s
  cell-stays q s out lies =
      r.cells s (λ p went l. out (subst WentFirst (region-same p q (sym l ∙ lies)) went))
      (λ c. let t = cells.only s c in temp-region t.0 q (sym t.1 ∙ lies))

  pub parent-was : (p q : ℕ) → Parent new.cells.heap p q → Parent old.cells.heap p q
  parent-was p q a = record {
    differ = a.differ;
    from = a.from;
    field = a.field;
    to = a.to;
    lies = label-was a.from (Region p) a.lies;
    leads = field-was a.from a.field _ a.leads;
    child_has = label-was a.to (Region q) a.child_has;
  }

  parent-stays : (p q : ℕ) → (WentFirst p → ⊥) → (WentFirst q → ⊥) → Parent old.cells.heap p q → Parent new.cells.heap p q
  parent-stays p q up down a =
      let from = cell-stays p a.from up a.lies in
      let to = cell-stays q a.to down a.child_has in
      record {
        differ = a.differ;
        from = a.from;
        field = a.field;
        to = a.to;
        lies = ap (option_map (λ (b : Body). b.label)) from ∙ a.lies;
        leads = ap (option_and_then (λ (b : Body). slice_get b.fields a.field)) from ∙ a.leads;
        child_has = ap (option_map (λ (b : Body). b.label)) to ∙ a.child_has;
      }

  above-was : {p q : ℕ} → Above new.cells.heap p q → Above old.cells.heap p q
  above-was (direct {p = p} {r = q} a) = direct (parent-was p q a)
  above-was (further {p = p} {q = m} {r = q} x a) = further (above-was x) (parent-was m q a)

  -- what hangs beneath a region that goes, goes with it
  pub went-along : (m q : ℕ) → Parent old.cells.heap m q → WentFirst m → WentFirst q
  went-along m q a went =
      let known : InTable old.regions q = g.labels q a.to a.child_has in
      elim went.2 [
        | inl is ↦ (went.0, went.1, inr (known, subst (λ x. Above old.cells.heap x q) is (direct a)))
        | inr x ↦ (went.0, went.1, inr (known, further x.1 a))
      ]

  above-stays : {p q : ℕ} → Above old.cells.heap p q → (WentFirst q → ⊥) → Above new.cells.heap p q
  above-stays (direct {p = p} {r = q} a) out = direct (parent-stays p q (λ w. out (went-along p q a w)) out a)
  above-stays (further {p = p} {q = m} {r = q} x a) out =
      let mid : WentFirst m → ⊥ = λ w. out (went-along m q a w) in
      further (above-stays x mid) (parent-stays m q mid out a)

-- The machine behind both

if-same : (b : Truth) (x y d : Manager) → (b ≡ true → x ≡ y) → (if b then x else d) ≡ (if b then y else d)
if-same true x y d h = h refl
if-same false x y d h = refl

-- managers that are forgotten twice are forgotten once, where what lives then has lived before
pub remembered-twice : (ws us : List Window) (store left : List Seen) (ms : List Manager)
    → ((r : ℕ) → lives_in us left r ≡ true → lives_in ws store r ≡ true)
    → remembered us left (remembered ws store ms) ≡ remembered us left ms
remembered-twice ws us store left ms h =
    ap (λ k. map (λ r. if lives_in us left r then slice_index_or (remembered ws store ms) r Arena else Arena) (range_with_len 0 k)) many
    ∙ map-numbers (λ r. if lives_in us left r then slice_index_or (remembered ws store ms) r Arena else Arena)
    (λ r. if lives_in us left r then slice_index_or ms r Arena else Arena) 0 (length ms)
    (λ r le lt. if-same (lives_in us left r) (slice_index_or (remembered ws store ms) r Arena) (slice_index_or ms r Arena) Arena
    (λ e. at r (omega (arith, lt)) (h r e)))
  where
    many : length (remembered ws store ms) ≡ length ms
    many = length-map-range_with_len (λ r. if lives_in ws store r then slice_index_or ms r Arena else Arena) 0 (length ms)

    at : (r : ℕ) → r < length ms → lives_in ws store r ≡ true → slice_index_or (remembered ws store ms) r Arena ≡ slice_index_or ms r Arena
    at r lt e =
        index-of (remembered ws store ms) r (if lives_in ws store r then slice_index_or ms r Arena else Arena)
        (made-at (λ r. if lives_in ws store r then slice_index_or ms r Arena else Arena) (length ms) r lt)
        ∙ ap (λ t. if t then slice_index_or ms r Arena else Arena) e

-- an object that is left in a region lay there before
buried-lies : (regions : List ℕ) (temps : Option ℕ) (r : ℕ) (o : Seen) → lies_in r (buried regions temps o).label ≡ true
    → lies_in r o.label ≡ true
buried-lies regions temps r o e = by (in_regions regions o.label || is_temp temps o.label) e
  where
    by : (t : Truth) → lies_in r (if t then gone else o).label ≡ true → lies_in r o.label ≡ true
    by true e = absurd (false≢true e)
    by false e = e

any-less : (f : Seen → Seen) (test : Seen → Truth) → ((o : Seen) → test (f o) ≡ true → test o ≡ true) → (os : List Seen)
    → list_any test (map f os) ≡ true → list_any test os ≡ true
any-less f test h [] e = e
any-less f test h (o ∷ os) e = by (test (f o)) refl e (λ i. any-less f test h os i)
  where
    by : (t : Truth) → test (f o) ≡ t → (t || list_any test (map f os)) ≡ true → (list_any test (map f os) ≡ true → list_any test os ≡ true)
        → (test o || list_any test os) ≡ true
    by true is e rest = ap (λ t. t || list_any test os) (h o is)
    by false is e rest = later (test o) (rest e)
      where
        later : (t : Truth) → list_any test os ≡ true → (t || list_any test os) ≡ true
        later true e = refl
        later false e = e

-- what lives where some is buried lived before
pub bury-lives : (ws : List Window) (regions : List ℕ) (temps : Option ℕ) (store : List Seen) (r : ℕ)
    → lives_in ws (bury regions temps store) r ≡ true → lives_in ws store r ≡ true
bury-lives ws regions temps store r e = by (is_open ws r) e
  where
    by : (t : Truth) → (t || list_any (λ (o : Seen). lies_in r o.label) (bury regions temps store)) ≡ true
        → (t || list_any (λ (o : Seen). lies_in r o.label) store) ≡ true
    by true e = refl
    by false e = any-less (buried regions temps) (λ (o : Seen). lies_in r o.label) (λ o. buried-lies regions temps r o) store e

-- what is forgotten behind each of two burials is what is forgotten behind both
pub forget-bury : (w : Work) (early late : List ℕ) (temps : Option ℕ)
    → forgotten (with_store (forgotten (with_store w (bury early None w.machine.store))) (bury late temps (bury early None w.machine.store)))
    ≡ forgotten (with_store w (bury (early ++ late) temps w.machine.store))
forget-bury w early late temps =
    let ws = w.machine.windows in
    let one = bury early None w.machine.store in
    ap (λ ms. record w { machine = record w.machine { store = bury late temps one; managers = ms } })
    (remembered-twice ws ws one (bury late temps one) w.machine.managers (λ r e. bury-lives ws late temps one r e))
    ∙ ap (λ s. forgotten (with_store w s)) (bury-more early late temps w.machine.store)
