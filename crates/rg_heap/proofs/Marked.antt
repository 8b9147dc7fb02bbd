-- Marks of cells in regions that count, and how they follow a write (docs/architecture.md, "The heap").
use Rattle.std.proofs.Common.{◌≡◌, ℕ, zero, suc, ◌+◌, ◌-◌, ◌<◌, ◌^◌, Bool, false, true, cond, List, [], ◌∷◌, Option, Some, None, refl, ap}
use Rattle.std.proofs.Common.{sym, ◌∙◌}
use Rattle.std.proofs.Common.{subst, ◌⊎◌, inl, inr, option_map, option_and_then, slice_get, length, arith}
use Rattle.std.proofs.lemmas.Bool.Decides.{eqb_tells}
use Rattle.std.proofs.lemmas.Option.{same_Some}
use Rattle.rg_base.specs.declared.words.Manager.{Manager}
use Rattle.rg_base.specs.declared.words.Manager.TheVariants.{Count}
use Rattle.rg_base.specs.declared.object.Label.TheVariants.{Region, Temp, Frozen}
use Rattle.rg_base.specs.declared.value.Word.{Word}
use Rattle.rg_base.specs.declared.value.Word.TheVariants.{Nil, Int, Bool as Truth, Slot}
use Rattle.rg_cells.specs.declared.cell.Body.{Body}
use Rattle.rg_cells.specs.Table.{Heap, Table, body_at, field_at, label_at, mark_at, width, field_total, with_field}
use Rattle.rg_cells.specs.Replacing.{ReplacesPlain}
use Rattle.rg_regions.specs.Table.{Record, RegionTable, record_at, HasNumber}
use Rattle.rg_regions.specs.Reach.{LiesIn, belongs}
use Rattle.rg_regions.specs.Grove.{Grove, referrers, leads_to}
use Rattle.rg_regions.proofs.Callers.Told.{field_within, one_region, number_of}
use Rattle.rg_regions.proofs.Callers.Fewer.{belongs_not, lies_belongs}
use Rattle.rg_count.proofs.Written.{count-fits, referrers-written}
use Rattle.rg_frames.specs.declared.rows.Window.{Window}
use Rattle.rg_frames.specs.Stack.{Stack, IsTop}
use Rattle.rg_heap.specs.Writes.{Stays, Comes, LeadsOut, InActive, IsCounting, counted}
use Rattle.rg_heap.specs.Ends.{IsTemp}
use Rattle.rg_heap.proofs.Readers.{one_top}
use Rattle.rg_heap.specs.Inner.Marks.{LeadsNowhere, MayWrite, Recounts, leads_once}
use Rattle.rg_heap.proofs.Written.{grove_written}
use Rattle.rg_heap.proofs.Left.{temp_apart}

-- where a field leads to a slot, it is counted
pub referrers_some : (h : Heap) (q p k s : ℕ) → LiesIn h q p → field_at h p k ≡ Some (Slot s) → 0 < referrers h q s
referrers_some h q p k s l f =
    let a = referrers-written h q p k s (Slot s) Nil l f in
    let o : leads_once s (Slot s) ≡ 1 = elim (eqb_tells s s) [ inl e ↦ ap (λ x. cond {A = ℕ} x 1 0) e.0 | inr e ↦ absurd (e.1 refl) ] in
    omega (arith, a, o)

pub counting_of : (t : RegionTable) (key n : ℕ) (m : Manager) → option_map (λ (r : Record). r.manager) (record_at t key) ≡ Some m → m ≡ Count
    → HasNumber t key n → IsCounting t n
counting_of t key n m a e b = by_record (record_at t key) refl a b
  where
    by_record : (o : Option Record) → record_at t key ≡ o → option_map (λ (r : Record). r.manager) o ≡ Some m
        → option_map (λ (r : Record). r.number) o ≡ Some n → IsCounting t n
    by_record None q a b = cc
    by_record (Some r) q a b = (key, r, q, same_Some r.number n b, same_Some r.manager m a ∙ e)

-- the region of a cell into which may be written
pub region_here : (h : Heap) (t : RegionTable) (key slot region : ℕ) (w : Word) → MayWrite h t key slot w → LiesIn h region slot
    → HasNumber t key region × Stays h region w
region_here h t key slot region w m l = elim m [
  | inl a ↦
      let P : ℕ → Type 0 = λ n. HasNumber t key n × Stays h n w in
      subst P (one_region h slot a.0 region a.2 l) (a.1, a.3)
  | inr a ↦ absurd (temp_apart h slot region a l)
]

pub counts_here : (h : Heap) (t : RegionTable) (key slot region : ℕ) (w : Word) (m : Manager) → MayWrite h t key slot w → LiesIn h region slot
    → option_map (λ (r : Record). r.manager) (record_at t key) ≡ Some m → m ≡ Count → IsCounting t region
counts_here h t key slot region w m may l a e = counting_of t key region m a e (region_here h t key slot region w may l).0

-- the mark of a cell of a region that counts
pub mark_is : (c : Table) (t : RegionTable) (r s : ℕ) → Grove c t → IsCounting t r → LiesIn c.heap r s → mark_at c s ≡ referrers c.heap r s
mark_is c t r s g a l =
    let P : ℕ → Type 0 = λ n. LiesIn c.heap n s in
    g.counts a.0 s a.1 a.2 a.4 (subst P (sym a.3) l) ∙ ap (λ n. referrers c.heap n s) a.3

pub mark_room : (c : Table) (t : RegionTable) (r s : ℕ) → Grove c t → field_total c.heap < 2 ^ 64 - 1 → IsCounting t r → LiesIn c.heap r s
    → mark_at c s < 2 ^ 64 - 1
mark_room c t r s g few a l =
    let e = mark_is c t r s g a l in
    let le = count-fits c.heap r s in
    omega (arith, e, le, few)

-- no region counts in which the cell lies
pub not_counting : (c : Table) (t : RegionTable) (key slot : ℕ) (w : Word) (m : Manager) → Grove c t → MayWrite c.heap t key slot w
    → option_map (λ (r : Record). r.manager) (record_at t key) ≡ Some m → (m ≡ Count → ⊥) → (r : ℕ) → LiesIn c.heap r slot → IsCounting t r → ⊥
not_counting c t key slot w m g may a n r l i =
    let here = region_here c.heap t key slot r w may l in
    let same : i.0 ≡ key = g.numbers i.0 key r (number_of t i.0 r i.1 i.2 i.3) here.0 in
    let P : ℕ → Type 0 = λ z. record_at t z ≡ Some i.1 in
    n (same_Some m i.1.manager (sym a ∙ ap (option_map (λ (r : Record). r.manager)) (subst P same i.2)) ∙ i.4)

counted_here : (h : Heap) (r : ℕ) (w : Word) (s : ℕ) → LiesIn h r s → counted h r w s ≡ leads_once s w
counted_here h r w s l =
    let b : cond {A = ℕ} (belongs r (body_at h s)) 1 0 ≡ 1 = ap (λ x. cond {A = ℕ} x 1 0) (lies_belongs r (body_at h s) l) in
    ap (λ n. cond {A = ℕ} (leads_to s w) n 0) b

counted_there : (h : Heap) (r : ℕ) (w : Word) (s : ℕ) → (LiesIn h r s → ⊥) → counted h r w s ≡ 0
counted_there h r w s out =
    let b : cond {A = ℕ} (belongs r (body_at h s)) 1 0 ≡ 0 = ap (λ x. cond {A = ℕ} x 1 0) (belongs_not r (body_at h s) out) in
    ap (λ n. cond {A = ℕ} (leads_to s w) n 0) b ∙ both (leads_to s w)
  where
    both : (x : Bool) → cond {A = ℕ} x 0 0 ≡ 0
    both false = refl
    both true = refl

-- no mark changes where none counts
pub recounts_none : (c : Table) (t : RegionTable) (slot k : ℕ) (w : Word) → ((r : ℕ) → LiesIn c.heap r slot → IsCounting t r → ⊥)
    → Recounts c t c slot k w
recounts_none c t slot k w n = record {
  heap = refl;
  recounted = λ r s old f l i m. absurd (n r l i);
  uncounted = λ s m. refl;
}

-- nor where neither the old word nor the new one leads to an object
nowhere : (w : Word) → LeadsNowhere w → (s : ℕ) → leads_once s w ≡ 0
nowhere Nil n s = refl
nowhere (Int z) n s = refl
nowhere (Truth b) n s = refl
nowhere (Slot t) n s = absurd (n t refl)

pub recounts_nowhere : (c : Table) (t : RegionTable) (slot k : ℕ) (old w : Word) → field_at c.heap slot k ≡ Some old → LeadsNowhere old
    → LeadsNowhere w → Recounts c t c slot k w
recounts_nowhere c t slot k old w f a b = record {
  heap = refl;
  recounted = λ r s old2 f2 l i m.
      ap (λ n. mark_at c s + n)
      (ap (leads_once s) (same_Some old2 old (sym f2 ∙ f)) ∙ nowhere old a s ∙ sym (nowhere w b s));
  uncounted = λ s m. refl;
}

-- marks are raised for the new word, and then lowered for the old one
pub recounts : (c mid cells : Table) (t : RegionTable) (region slot k : ℕ) (old w : Word) → IsCounting t region → LiesIn c.heap region slot
    → field_at c.heap slot k ≡ Some old → mid.heap ≡ c.heap → ((s : ℕ) → mark_at mid s ≡ mark_at c s + counted c.heap region w s)
    → cells.heap ≡ mid.heap → ((s : ℕ) → mark_at cells s + counted mid.heap region old s ≡ mark_at mid s) → Recounts c t cells slot k w
recounts c mid cells t region slot k old w i here f e up d down = record {
  heap = d ∙ e;
  recounted = λ r s old2 f2 l j m.
      let q : r ≡ region = one_region c.heap slot r region l here in
      let L : ℕ → Type 0 = λ n. LiesIn c.heap n s in
      let n : LiesIn c.heap region s = subst L q m in
      let a = up s in
      let b = down s in
      let x = counted_here c.heap region w s n in
      let H : Heap → Type 0 = λ h. LiesIn h region s in
      let y = counted_here mid.heap region old s (subst H (sym e) n) in
      let z : leads_once s old ≡ leads_once s old2 = ap (leads_once s) (same_Some old old2 (sym f ∙ f2)) in
      omega (arith, a, b, x, y, z);
  uncounted = λ s n.
      let out : LiesIn c.heap region s → ⊥ = λ l. n region here i l in
      let a = up s in
      let b = down s in
      let x = counted_there c.heap region w s out in
      let y = counted_there mid.heap region old s (λ l. let H : Heap → Type 0 = λ h. LiesIn h region s in out (subst H e l)) in
      omega (arith, a, b, x, y);
}

-- the cell and the word at a place of a field
pub field_there : (h : Heap) (slot k : ℕ) → k < width (body_at h slot) → (b : Body) × (old : Word) × (body_at h slot ≡ Some b)
    × (slice_get b.fields k ≡ Some old)
field_there h slot k l = by_body (body_at h slot) refl l
  where
    got : (ws : List Word) (k : ℕ) → k < length ws → (old : Word) × (slice_get ws k ≡ Some old)
    got [] k l = absurd (omega (arith, l))
    got (x ∷ ws) zero l = (x, refl)
    got (x ∷ ws) (suc k) l = got ws k (omega (arith, l))

    by_body : (o : Option Body) → body_at h slot ≡ o → k < width o
        → (b : Body) × (old : Word) × (body_at h slot ≡ Some b) × (slice_get b.fields k ≡ Some old)
    by_body None e l = absurd (omega (arith, l))
    by_body (Some b) e l = let x = got b.fields k l in (b, x.0, e, x.1)

-- the field is written behind that
pub grove_recounted : (c mid cells : Table) (t : RegionTable) (key slot k : ℕ) (w : Word) → Grove c t → Recounts c t mid slot k w
    → cells ≡ record mid { heap = with_field mid.heap slot k w } → k < width (body_at c.heap slot) → MayWrite c.heap t key slot w → Grove cells t
grove_recounted c mid cells t key slot k w g a e l may =
    let x = field_there c.heap slot k l in
    let now : cells.heap ≡ with_field c.heap slot k w = ap (λ (z : Table). z.heap) e ∙ ap (λ h. with_field h slot k w) a.heap in
    grove_written c t cells slot k x.0 x.1 w g (record {
      is = x.2;
      was = x.3;
      now = now;
      not_frozen = λ f. not_ice x.0 x.2 f;
      may = λ r i. inl (region_here c.heap t key slot r w may i).1;
      recounted = λ r s i j m.
          ap (λ (z : Table). mark_at z s + leads_once s x.1) e
          ∙ a.recounted r s x.1 (ap (option_and_then (λ (b : Body). slice_get b.fields k)) x.2 ∙ x.3) i j m;
      uncounted = λ s n. ap (λ (z : Table). mark_at z s) e ∙ a.uncounted s n;
    })
  where
    not_ice : (b : Body) → body_at c.heap slot ≡ Some b → b.label ≡ Frozen → ⊥
    not_ice b x f =
        let y : label_at c.heap slot ≡ Some Frozen = ap (option_map (λ (b : Body). b.label)) x ∙ ap Some f in
        elim may [
          | inl m ↦ let z : Some Frozen ≡ Some (Region m.0) = sym y ∙ m.2 in cc
          | inr m ↦ let z : Some Frozen ≡ Some (Temp m.0) = sym y ∙ m.1 in cc
        ]

-- the top window names the region of the cell
pub may_write : (h : Heap) (t : RegionTable) (v : Stack) (top : Window) (slot : ℕ) (w : Word) → IsTop v top
    → InActive h t v slot (λ n. Stays h n w) ⊎ IsTemp h slot → MayWrite h t top.region slot w
may_write h t v top slot w a p = elim p [
  | inl x ↦
      let P : Window → Type 0 = λ z. HasNumber t z.region x.1 in
      inl (x.1, subst P (one_top v x.0 top x.2 a) x.3, x.4, x.5)
  | inr x ↦ inr x
]

leads_zero : (s : ℕ) (w : Word) → (w ≡ Slot s → ⊥) → leads_once s w ≡ 0
leads_zero s Nil n = refl
leads_zero s (Int i) n = refl
leads_zero s (Truth b) n = refl
leads_zero s (Slot x) n = elim (eqb_tells s x) [ inl e ↦ absurd (n (ap Slot (sym e.1))) | inr e ↦ ap (λ b. cond {A = ℕ} b 1 0) e.0 ]

-- what a field owns is swapped: no mark changes
pub grove_swapped : (c cells : Table) (t : RegionTable) (v : Stack) (slot k : ℕ) (w : Word) → Grove c t
    → cells ≡ record c { heap = with_field c.heap slot k w } → k < width (body_at c.heap slot)
    → InActive c.heap t v slot (λ n. Comes c.heap t n w × LeadsOut c.heap slot k n) ⊎ IsTemp c.heap slot → Grove cells t
grove_swapped c cells t v slot k w g e l place =
    let x = field_there c.heap slot k l in
    let now : cells.heap ≡ with_field c.heap slot k w = ap (λ (z : Table). z.heap) e in
    grove_written c t cells slot k x.0 x.1 w g (record {
      is = x.2;
      was = x.3;
      now = now;
      not_frozen = λ f. not_ice x.0 x.2 f;
      may = λ r i. inr (here r i).0;
      recounted = λ r s i j m.
          let a = leads_zero s x.1 (λ q.
          let F : Word → Type 0 = λ z. field_at c.heap slot k ≡ Some z in
          (here r i).1 s (subst F q (ap (option_and_then (λ (b : Body). slice_get b.fields k)) x.2 ∙ x.3)) m) in
          let b = leads_zero s w (λ q. let y = (here r i).0 s q in y.2 (one_region c.heap s y.0 r y.1.lies m)) in
          let u = ap (λ (z : Table). mark_at z s) e in
          omega (arith, a, b, u);
      uncounted = λ s n. ap (λ (z : Table). mark_at z s) e;
    })
  where
    here : (r : ℕ) → LiesIn c.heap r slot → Comes c.heap t r w × LeadsOut c.heap slot k r
    here r i = elim place [
      | inl a ↦
          let P : ℕ → Type 0 = λ n. Comes c.heap t n w × LeadsOut c.heap slot k n in
          subst P (one_region c.heap slot a.1 r a.4 i) a.5
      | inr a ↦ absurd (temp_apart c.heap slot r a i)
    ]

    not_ice : (b : Body) → body_at c.heap slot ≡ Some b → b.label ≡ Frozen → ⊥
    not_ice b x f =
        let y : label_at c.heap slot ≡ Some Frozen = ap (option_map (λ (b : Body). b.label)) x ∙ ap Some f in
        elim place [
          | inl m ↦ let z : Some Frozen ≡ Some (Region m.1) = sym y ∙ m.4 in cc
          | inr m ↦ let z : Some Frozen ≡ Some (Temp m.0) = sym y ∙ m.1 in cc
        ]

-- a word that led nowhere is replaced by one that leads nowhere, or nothing is
pub grove_replaced : (r : Bool) (c cells : Table) (t : RegionTable) (key slot k : ℕ) (w : Word) → Grove c t → ReplacesPlain r c cells slot k w
    → LeadsNowhere w → (k < width (body_at c.heap slot) → MayWrite c.heap t key slot w) → Grove cells t
grove_replaced true c cells t key slot k w g p plain may =
    let l = field_within c.heap slot k p.0 p.1 in
    grove_recounted c c cells t key slot k w g (recounts_nowhere c t slot k p.0 w p.1 p.2 plain) p.3 l (may l)
grove_replaced false c cells t key slot k w g p plain may = let P : Table → Type 0 = λ z. Grove z t in subst P (sym p) g
