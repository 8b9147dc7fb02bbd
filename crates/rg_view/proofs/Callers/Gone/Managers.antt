-- A region is in the table exactly if it is open or some cell lies in it: behind a release, a freeze or a merge the managers that are shown are
-- those that the machine which frees doesn't forget.
use Rattle.std.proofs.Common.{◌≡◌, ◌<◌, ◌||◌, inl, inr, ℕ, zero, suc, Bool as Truth, true, false, if◌then◌else◌, List, [], ◌∷◌, map, length}
use Rattle.std.proofs.Common.{Option, Some, None, option_map, slice_get, slice_index_or, refl, sym, ap, ◌∙◌, subst}
use Rattle.std.specs.List.{list_any, range_with_len}
use Rattle.std.proofs.lemmas.Bool.{cases_eq, false≢true, eq-eqb, false_from_ne_true}
use Rattle.std.proofs.lemmas.Option.{none-some, same_Some}
use Rattle.std.proofs.lemmas.Map.Keys.{any_passes_from_place}
use Rattle.rg_base.specs.declared.object.Label.{Label}
use Rattle.rg_base.specs.declared.object.Label.TheVariants.{Region}
use Rattle.rg_base.specs.declared.object.Seen.{Seen}
use Rattle.rg_base.specs.declared.value.Val.{Val}
use Rattle.rg_base.specs.declared.words.Manager.{Manager}
use Rattle.rg_base.specs.declared.words.Manager.TheVariants.{Arena}
use Rattle.rg_base.proofs.Callers.Options.{some-there}
use Rattle.rg_base.proofs.Callers.Lists.{there}
use Rattle.rg_rules.specs.Regions.{among, relabelled}
use Rattle.rg_cells.specs.declared.cell.Body.{Body}
use Rattle.rg_cells.specs.Table.{Heap, body_at, Serials}
use Rattle.rg_regions.specs.Table.{Record, RegionTable, record_at, HasNumber, InTable}
use Rattle.rg_regions.specs.Reach.{LiesIn}
use Rattle.rg_regions.specs.Grove.{Grove}
use Rattle.rg_frames.specs.declared.rows.Window.{Window as WindowRow}
use Rattle.rg_frames.specs.Stack.{Stack}
use Rattle.rg_stack.specs.Machine.{Window}
use Rattle.rg_stack.specs.Labels.{is_open, lies_in}
use Rattle.rg_heap.specs.Parts.{Parts}
use Rattle.rg_heap.specs.Answers.{AllLead, IsClosed}
use Rattle.rg_heap.specs.Ends.{Released}
use Rattle.rg_heap.specs.Opened.{Opened, IsWindow}
use Rattle.rg_view.specs.View.{object_of, store_of, number_in, number_of, windows_of, manager_with, managers_of, machine_of}
use Rattle.rg_view.specs.Names.{Names, AreTemps}
use Rattle.rg_view.specs.Numbers.{Numbers, HasBridges}
use Rattle.rg_view.specs.Links.{BelowSome}
use Rattle.rg_view.proofs.List.{map-numbers}
use Rattle.rg_view.proofs.Callers.Look.{store-held}
use Rattle.rg_view.proofs.Callers.Link.{store-back, gone-region}
use Rattle.rg_view.proofs.Callers.Manager.{Known, Unknown, look-number, managers-length, manager-at}
use Rattle.rg_view.proofs.Callers.Table.{FewerNumbers, kept-windows}
use Rattle.rg_view.proofs.Callers.Open.{any-back, Keyed, open-back, window-open, closed-not-open}
use Rattle.rg_view.proofs.Callers.Need.{keyed, closed-not-above}
use Rattle.rg_view.proofs.Callers.Gone.Released.{released-store, released-serials}
use Rattle.rg_view.proofs.Callers.Label.{Labels, labels-store, labels-serials}
use Rattle.rg_view.proofs.Callers.Gone.Records.{released-numbers}
use Rattle.rg_view.proofs.Callers.Machine.{WindowsKept, released-machine, labelled-machine}
use Rattle.rg_held.specs.Frees.{bury, forgotten}
use Rattle.rg_held.proofs.Places.{lies-back}

-- whether a region is open in these windows, or an object of this store lies in it
abbrev pub lives_in : List Window → List Seen → ℕ → Truth
lives_in ws store r = is_open ws r || list_any (λ (o : Seen). lies_in r o.label) store

-- the managers that `forgotten` keeps
abbrev pub remembered : List Window → List Seen → List Manager → List Manager
remembered ws store ms = map (λ r. if lives_in ws store r then slice_index_or ms r Arena else Arena) (range_with_len 0 (length ms))

pub index-of : (ms : List Manager) (k : ℕ) (m : Manager) → slice_get ms k ≡ Some m → slice_index_or ms k Arena ≡ m
index-of [] k m e = absurd (none-some m e)
index-of (x ∷ ms) zero m e = same_Some x m e
index-of (x ∷ ms) (suc k) m e = index-of ms k m e

-- a number that no record has isn't in the table
unknown-not-in : (t : RegionTable) (r : ℕ) → Unknown t r → InTable t r → ⊥
unknown-not-in t r u known = by (record_at t known.0) refl
  where
    by : (o : Option Record) → record_at t known.0 ≡ o → ⊥
    by None e = none-some r (sym (ap (option_map (λ (r : Record). r.number)) e) ∙ known.1)
    by (Some x) e = u.none known.0 x e (same_Some x.number r (sym (ap (option_map (λ (r : Record). r.number)) e) ∙ known.1))

-- windows on regions that are left keep their numbers
pub fewer-windows : (old new : RegionTable) (v : Stack) → FewerNumbers old new
    → ((i : ℕ) (w : WindowRow) → IsWindow v i w → (n : ℕ) × HasNumber new w.region n) → WindowsKept old new v
fewer-windows old new v f known i w e = by (record_at new w.region) refl
  where
    by : (o : Option Record) → record_at new w.region ≡ o → number_of new w.region ≡ number_of old w.region
    by None a =
        let n = known i w e in absurd (none-some n.0 (sym (ap (option_map (λ (r : Record). r.number)) a) ∙ n.1))
    by (Some r) a = let u = f.there w.region r a in ap number_in a ∙ sym u.2 ∙ sym (ap number_in u.1)

-- there are windows, the first one is on region 0, and the regions of all are in the table
pub record WindowsLeft (t : RegionTable) (v : Stack) : Type 0 where
  pub some : 0 < length v.windows
  pub first : (w : WindowRow) → IsWindow v 0 w → HasNumber t w.region 0
  pub known : (i : ℕ) (w : WindowRow) → IsWindow v i w → (n : ℕ) × HasNumber t w.region n

-- the same of windows as the machine sees them: region 0 is open, and open regions are in the table
pub record OpenLeft (t : RegionTable) (ws : List Window) : Type 0 where
  pub first : is_open ws 0 ≡ true
  pub known : (r : ℕ) → is_open ws r ≡ true → InTable t r

-- where a cell lies, the store has an object
pub object-lies : (h : Heap) (r s : ℕ) → Serials h → LiesIn h r s → list_any (λ (o : Seen). lies_in r o.label) (store_of h) ≡ true
object-lies h r s q lies = by (body_at h s) refl
  where
    by : (c : Option Body) → body_at h s ≡ c → list_any (λ (o : Seen). lies_in r o.label) (store_of h) ≡ true
    by None e = absurd (none-some (Region r) (sym (ap (option_map (λ (b : Body). b.label)) e) ∙ lies))
    by (Some c) e =
        let label : c.label ≡ Region r = same_Some c.label (Region r) (sym (ap (option_map (λ (b : Body). b.label)) e) ∙ lies) in
        any_passes_from_place (λ (o : Seen). lies_in r o.label) (store_of h) c.serial (object_of h (Some c)) (store-held h s c q e)
        (ap (lies_in r) label ∙ eq-eqb r r refl)

-- and the other way round
pub lies-object : (h : Heap) (r : ℕ) → list_any (λ (o : Seen). lies_in r o.label) (store_of h) ≡ true → (s : ℕ) × LiesIn h r s
lies-object h r e =
    let a = any-back (λ (o : Seen). lies_in r o.label) (store_of h) e in
    let is : a.1.label ≡ Region r = lies-back r a.1.label a.3 in
    elim (store-back h a.0 a.1 a.2) [
      | inl x ↦
          let label : x.body.label ≡ Region r = sym (ap (λ (o : Seen). o.label) x.shown) ∙ is in
          (x.slot, ap (option_map (λ (b : Body). b.label)) x.held ∙ ap Some label)
      | inr x ↦ absurd (gone-region r (sym (ap (λ (o : Seen). o.label) x) ∙ is))
    ]

module _ (old new : Parts) (f : FewerNumbers old.regions new.regions) (n : Numbers old.regions) (q : Serials new.cells.heap)
    (g : Grove new.cells new.regions) (b : HasBridges new.regions) where
  -- a region of the table lives
  known-lives : (ws : List Window) (r : ℕ) → OpenLeft new.regions ws → Known new.regions r → lives_in ws (store_of new.cells.heap) r ≡ true
  known-lives ws r w k = elim (cases_eq r 0) [
    | inl is ↦ ap (λ t. t || list_any (λ (o : Seen). lies_in r o.label) (store_of new.cells.heap)) (ap (is_open ws) is ∙ w.first)
    | inr d ↦
        let s = some-there k.rec.bridge ((b k.key k.rec k.there).0 (λ zero. d (sym k.number ∙ zero))) in
        let lies : LiesIn new.cells.heap r s.0 = subst (λ x. LiesIn new.cells.heap x s.0) k.number (g.bridges k.key s.0 k.rec k.there s.1) in
        later (is_open ws r) (object-lies new.cells.heap r s.0 q lies)
  ]
    where
      later : (t : Truth) → list_any (λ (o : Seen). lies_in r o.label) (store_of new.cells.heap) ≡ true
          → (t || list_any (λ (o : Seen). lies_in r o.label) (store_of new.cells.heap)) ≡ true
      later true e = refl
      later false e = e

  -- any other one doesn't
  unknown-dead : (ws : List Window) (r : ℕ) → OpenLeft new.regions ws → Unknown new.regions r → lives_in ws (store_of new.cells.heap) r ≡ false
  unknown-dead ws r w u =
      ap (λ t. t || list_any (λ (o : Seen). lies_in r o.label) (store_of new.cells.heap))
      (false_from_ne_true (is_open ws r) (λ e. unknown-not-in new.regions r u (w.known r e)))
      ∙ false_from_ne_true (list_any (λ (o : Seen). lies_in r o.label) (store_of new.cells.heap)) (λ e.
      let s = lies-object new.cells.heap r e in unknown-not-in new.regions r u (g.labels r s.0 s.1))

  keeps-at : (ws : List Window) (r : ℕ) → OpenLeft new.regions ws → manager_with r new.regions.records
      ≡ (if lives_in ws (store_of new.cells.heap) r then slice_index_or (managers_of old.regions) r Arena else Arena)
  keeps-at ws r w = elim (look-number new.regions r) [
    | inl k ↦
        let u = f.there k.key k.rec k.there in
        let at : slice_get (managers_of old.regions) r ≡ Some k.rec.manager =
        ap (slice_get (managers_of old.regions)) (sym (u.2 ∙ k.number)) ∙ manager-at old.regions k.key u.0 n u.1 ∙ ap Some u.3 in
        k.shown
        ∙ sym (ap (λ t. if t then slice_index_or (managers_of old.regions) r Arena else Arena) (known-lives ws r w k)
        ∙ index-of (managers_of old.regions) r k.rec.manager at)
    | inr u ↦
        u.shown ∙ sym (ap (λ t. if t then slice_index_or (managers_of old.regions) r Arena else Arena) (unknown-dead ws r w u))
  ]

  -- the managers that are left are those that aren't forgotten
  pub forgets-by : (ws : List Window) → OpenLeft new.regions ws
      → managers_of new.regions ≡ remembered ws (store_of new.cells.heap) (managers_of old.regions)
  forgets-by ws w =
      map-numbers (λ r. manager_with r new.regions.records)
      (λ r. if lives_in ws (store_of new.cells.heap) r then slice_index_or (managers_of old.regions) r Arena else Arena)
      0 new.regions.next (λ r le lt. keeps-at ws r w)
      ∙ ap (λ k. map (λ r. if lives_in ws (store_of new.cells.heap) r then slice_index_or (managers_of old.regions) r Arena else Arena)
      (range_with_len 0 k)) (sym (managers-length old.regions ∙ sym f.next))

  -- the windows of a stack are such windows, where their regions are left
  pub windows-left : (v : Stack) → WindowsLeft new.regions v → OpenLeft new.regions (windows_of new.regions v)
  windows-left v l =
      let keyed : Keyed new.regions v = record { known = l.known; numbers = g.numbers } in
      let w = there v.windows 0 l.some in
      record {
        first = window-open new.regions v keyed 0 0 w.0 w.1 (l.first w.0 w.1);
        known = λ r e. let a = open-back new.regions v keyed r e in (a.1.region, a.3);
      }

  -- so are those that are open behind it
  pub windows-are : (v : Stack) → Opened new v → OpenLeft new.regions (windows_of new.regions v)
  windows-are v o = windows-left v (record { some = o.some; first = o.first; known = o.known })

  -- and those in front of it, where their regions are left
  pub windows-were : (v : Stack) → WindowsLeft new.regions v → OpenLeft new.regions (windows_of old.regions v)
  windows-were v l =
      subst (OpenLeft new.regions) (kept-windows old.regions new.regions v (fewer-windows old.regions new.regions v f l.known)) (windows-left v l)

  -- they show the same in front of it
  pub windows-before : (v : Stack) → Opened new v → windows_of new.regions v ≡ windows_of old.regions v
  windows-before v o = kept-windows old.regions new.regions v (fewer-windows old.regions new.regions v f o.known)

  pub forgets : (v : Stack) → Opened new v
      → managers_of new.regions ≡ remembered (windows_of old.regions v) (store_of new.cells.heap) (managers_of old.regions)
  forgets v o =
      forgets-by (windows_of new.regions v) (windows-are v o)
      ∙ ap (λ ws. remembered ws (store_of new.cells.heap) (managers_of old.regions)) (windows-before v o)

-- where no open region goes, the regions of all windows are left
pub released-windows : (old new : Parts) (Gone Cell : ℕ → Type 0) (v : Stack) → Released old new Gone Cell → Grove old.cells old.regions
    → Opened old v → ((q : ℕ) → Gone q → is_open (windows_of old.regions v) q ≡ false) → WindowsLeft new.regions v
released-windows old new Gone Cell v r g o away = record {
  some = o.some;
  first = λ w is. keeps 0 w 0 is (o.first w is);
  known = λ i w is. let n = o.known i w is in (n.0, keeps i w n.0 is n.1);
}
  where
    keyed : Keyed old.regions v
    keyed = record { known = o.known; numbers = g.numbers }

    keeps : (i : ℕ) (w : WindowRow) (n : ℕ) → IsWindow v i w → HasNumber old.regions w.region n → HasNumber new.regions w.region n
    keeps i w n is has =
        ap (option_map (λ (r : Record). r.number))
        (r.records w.region (λ q went h. false≢true (sym (away q went) ∙ window-open old.regions v keyed q i w is h))) ∙ has

-- nothing beneath closed regions is open
pub below-closed : (p : Parts) (v : Stack) (at : ℕ) → Serials p.cells.heap → Grove p.cells p.regions → Opened p v → (tops : List ℕ)
    → ((t : ℕ) → among tops t ≡ true → IsClosed p.regions v t) → (q : ℕ) → BelowSome p.cells.heap p.regions tops q
    → is_open (windows_of p.regions v) q ≡ false
below-closed p v at s g o tops closed q b =
    let c = closed b.0 b.1 in
    elim b.2 [
      | inl is ↦ ap (is_open (windows_of p.regions v)) is ∙ closed-not-open p.regions v (keyed p v at s g o) b.0 c
      | inr x ↦ false_from_ne_true (is_open (windows_of p.regions v) q) (λ e. closed-not-above p v at s g o b.0 q c e x.1)
    ]

-- the machine behind a release, with what is forgotten under the windows of some moment, as in front of a window's end
pub released-remembered : (v : Stack) (at : ℕ) (old new : Parts) (Gone Cell : ℕ → Type 0) (regions : List ℕ) (temps : Option ℕ)
    (ws : List Window) → Released old new Gone Cell → Names regions Gone → AreTemps old.cells.heap temps Cell
    → Serials old.cells.heap → Numbers old.regions → ((s : ℕ) → AllLead new.cells.heap s)
    → Grove new.cells new.regions → HasBridges new.regions → Opened new v
    → OpenLeft new.regions ws
    → machine_of new v at ≡ record (machine_of old v at) {
      store = bury regions temps (store_of old.cells.heap);
      managers = remembered ws (bury regions temps (store_of old.cells.heap)) (managers_of old.regions);
    }
released-remembered v at old new Gone Cell regions temps ws r names cells q n lead g b o w =
    let f = released-numbers old new Gone Cell regions r names in
    let serials = released-serials old new Gone Cell regions temps r names cells q lead in
    released-machine v at old new Gone Cell regions temps r names cells q lead (λ k s e. o.slots k s e)
    (fewer-windows old.regions new.regions v f o.known)
    ∙ ap (λ ms. record (machine_of old v at) { store = bury regions temps (store_of old.cells.heap); managers = ms })
    (forgets-by old new f n serials g b ws w
    ∙ ap (λ store. remembered ws store (managers_of old.regions))
    (released-store old new Gone Cell regions temps r names cells q lead))

-- the machine behind a release is that in which what goes is buried, without the managers that are forgotten
pub released-forgotten : (v : Stack) (at : ℕ) (old new : Parts) (Gone Cell : ℕ → Type 0) (regions : List ℕ) (temps : Option ℕ)
    (i : List ℕ) (printed : Option Val) → Released old new Gone Cell → Names regions Gone → AreTemps old.cells.heap temps Cell
    → Serials old.cells.heap → Numbers old.regions → ((s : ℕ) → AllLead new.cells.heap s)
    → Grove new.cells new.regions → HasBridges new.regions → Opened new v
    → machine_of new v at ≡ (forgotten (record {
      machine = record (machine_of old v at) { store = bury regions temps (store_of old.cells.heap) };
      input = i;
      printed = printed;
    })).machine
released-forgotten v at old new Gone Cell regions temps i printed r names cells q n lead g b o =
    released-remembered v at old new Gone Cell regions temps (windows_of old.regions v) r names cells q n lead g b o
    (windows-were old new (released-numbers old new Gone Cell regions r names) n
    (released-serials old new Gone Cell regions temps r names cells q lead) g b v
    (record { some = o.some; first = o.first; known = o.known }))

-- and so it is behind a freeze and a merge
pub labelled-forgotten : (v : Stack) (at : ℕ) (old new : Parts) (regions : List ℕ) (label : Label)
    (i : List ℕ) (printed : Option Val) → Labels old.cells.heap new.cells.heap regions label → FewerNumbers old.regions new.regions
    → Serials old.cells.heap → Numbers old.regions → Grove new.cells new.regions → HasBridges new.regions → Opened new v
    → machine_of new v at ≡ (forgotten (record {
      machine = record (machine_of old v at) { store = relabelled regions label (store_of old.cells.heap) };
      input = i;
      printed = printed;
    })).machine
labelled-forgotten v at old new regions label i printed l f q n g b o =
    let serials = labels-serials old.cells.heap new.cells.heap regions label l q in
    labelled-machine v at old new regions label l q (fewer-windows old.regions new.regions v f o.known)
    ∙ ap (λ ms. record (machine_of old v at) { store = relabelled regions label (store_of old.cells.heap); managers = ms })
    (forgets old new f n serials g b v o
    ∙ ap (λ store. remembered (windows_of old.regions v) store (managers_of old.regions))
    (labels-store old.cells.heap new.cells.heap regions label l q))
