-- A region is collected and its cells move, and the regions that lost their owner are released (docs/architecture.md, "The heap").
use Rattle.std.proofs.Common.{◌≡◌, ◌≢◌, ℕ, ◌+◌, true, List, [], ◌∷◌, Option, Some, None, refl, ap, sym, ◌∙◌, subst, ◌⊎◌}
use Rattle.std.proofs.Common.{inl, inr, arith, ◌<◌, ◌-◌, drop, get_or, option_map, option_and_then, slice_get, length, count_by, is_some}
use Rattle.std.proofs.lemmas.Bool.{cases_eq}
use Rattle.std.proofs.lemmas.Option.{slice_get_cases, slice_get_past, same_Some}
use Rattle.std.proofs.lemmas.Option.{slice_get-get_or}
use Rattle.rg_base.specs.declared.object.Label.TheVariants.{Region, Frozen}
use Rattle.rg_base.specs.declared.words.Manager.{Manager}
use Rattle.rg_base.specs.declared.words.Manager.TheVariants.{Count}
use Rattle.rg_base.specs.declared.value.Word.{Word}
use Rattle.rg_base.specs.declared.value.Word.TheVariants.{Nil, Int, Bool as Truth, Slot}
use Rattle.rg_base.proofs.Callers.Labels.{slot-same}
use Rattle.rg_cells.specs.declared.cell.Body.{Body}
use Rattle.rg_cells.specs.Table.{Heap, Table, body_at, field_at, label_at}
use Rattle.rg_frames.specs.declared.rows.Window.{Window}
use Rattle.rg_frames.specs.Stack.{Stack, IsTop}
use Rattle.rg_regions.specs.Table.{Record, RegionTable, record_at, HasNumber, Has, Chained}
use Rattle.rg_regions.specs.Reach.{LiesIn, Roots, Reach, is_bridge}
use Rattle.rg_regions.specs.Grove.{Grove}
use Rattle.rg_regions.specs.Collection.{AllHeld, ChainsOrphans, HasManager, roots_of}
use Rattle.rg_regions.proofs.Callers.Told.{one_region, lies_or_not, lies_held, number_of, reach_lies}
use Rattle.rg_regions.proofs.Callers.Shares.{has_place}
use Rattle.rg_release.specs.Released.{Unowned}
use Rattle.rg_regions.specs.Reach.{OutOfReach}
use Rattle.rg_copy.specs.Slid.{Slid, Becomes, AllBecome, top_roots, top_slots, top_temps}
use Rattle.rg_heap.specs.declared.answers.Collected.{Collected}
use Rattle.rg_heap.specs.Parts.{Parts}
use Rattle.rg_heap.specs.Collects.{CollectsBy, Told}
use Rattle.rg_heap.specs.Slides.{Slides, SlidesBy}
use Rattle.rg_heap.specs.Inner.Chains.{Gone}
use Rattle.rg_heap.proofs.Orphaned.{Leaves, unowned, below_one, lost_below, lost_apart, own_stays, tells}

same_some : (o : Option Word) (a b : Word) → o ≡ Some a → b ≡ a → o ≡ Some b
same_some o a b p q = p ∙ ap Some (sym q)

-- a slot stands in a list, or doesn't
has_or_not : (xs : List ℕ) (s : ℕ) → (Has xs s → ⊥) ⊎ Has xs s
has_or_not [] s = inl (λ e. e)
has_or_not (x ∷ xs) s = elim (cases_eq s x) [
  | inl e ↦ inr (inl e)
  | inr d ↦ elim (has_or_not xs s) [ inl n ↦ inl (λ h. elim h [ inl e ↦ d e | inr i ↦ n i ]) | inr i ↦ inr (inr i) ]
]

-- the body of a held cell
body_of : (o : Option Body) → is_some o ≡ true → (b : Body) × (o ≡ Some b)
body_of None e = cc
body_of (Some b) e = (b, refl)

-- a word of a list that became another one, and the one that it was
was_word : (h : Heap) (r : ℕ) (roots : Roots) (place : ℕ → ℕ) (olds news : List Word) (k : ℕ) (now : Word)
    → AllBecome h r roots place olds news → slice_get news k ≡ Some now
    → (w : Word) × (slice_get olds k ≡ Some w) × Becomes h r roots place w now
was_word h r roots place olds news k now a e = elim (slice_get_cases olds k).1 [
  | inl x ↦ (x.0, x.2, a.each k x.0 now x.2 e)
  | inr x ↦
      let z : None ≡ Some now = sym (slice_get_past news k (omega (arith, a.as_many, x.0))) ∙ e in
      cc
]

-- words that become what they were
same_words : (h : Heap) (r : ℕ) (roots : Roots) (place : ℕ → ℕ) (olds news : List Word) (k : ℕ)
    → AllBecome h r roots place olds news
    → ((w now : Word) → slice_get olds k ≡ Some w → Becomes h r roots place w now → now ≡ w)
    → slice_get news k ≡ slice_get olds k
same_words h r roots place olds news k a f = elim (slice_get_cases news k).1 [
  | inl x ↦
      let w = was_word h r roots place olds news k x.0 a x.2 in
      x.2 ∙ ap Some (f w.0 x.0 w.1 w.2) ∙ sym w.1
  | inr x ↦ x.1 ∙ sym (slice_get_past olds k (omega (arith, a.as_many, x.0)))
]

module _ (c : Table) (t : RegionTable) (key : ℕ) (rec : Record) (v : Stack) (mid : Table) (tm : RegionTable) (frames : Stack)
    (g : Grove c t) (at : record_at t key ≡ Some rec) (held : AllHeld c.heap (top_temps v))
    (w : Slid c t key rec v mid tm frames) where
  abbrev InReach : ℕ → Type 0
  InReach s = Reach c.heap rec.number (top_roots rec v) s

  lies : (s : ℕ) → InReach s → LiesIn c.heap rec.number s
  lies s x = reach_lies c.heap rec.number (top_roots rec v) s x

  temp_body : (s : ℕ) → Has (top_temps v) s → (b : Body) × (body_at c.heap s ≡ Some b)
  temp_body s a = let i = has_place (top_temps v) s a in body_of (body_at c.heap s) (held i.0 s i.1)

  -- a slot outside the region has the label that it had
  label_off : (s : ℕ) → (LiesIn c.heap rec.number s → ⊥) → label_at mid.heap s ≡ label_at c.heap s
  label_off s out = elim (has_or_not (top_temps v) s) [
    | inl n ↦ ap (option_map (λ (b : Body). b.label)) (w.others s n out)
    | inr a ↦
        let b = temp_body s a in
        let d = w.temps s b.0 a out b.1 in
        ap (option_map (λ (b : Body). b.label)) d.1 ∙ ap Some d.2.label ∙ sym (ap (option_map (λ (b : Body). b.label)) b.1)
  ]

  lay : (q s : ℕ) → LiesIn mid.heap q s → LiesIn c.heap q s
  lay q s l = elim (lies_or_not c.heap rec.number s) [
    | inl out ↦ sym (label_off s out) ∙ l
    | inr i ↦ elim (lies_or_not mid.heap rec.number s) [
      | inl n ↦
          let z : None ≡ Some (Region q) = sym (ap (option_map (λ (b : Body). b.label)) (w.gone s i n)) ∙ l in
          cc
      | inr m ↦ let L : ℕ → Type 0 = λ z. LiesIn c.heap z s in subst L (one_region mid.heap s rec.number q m l) i
    ]
  ]

  outside : (q s : ℕ) → q ≢ rec.number → LiesIn c.heap q s → LiesIn c.heap rec.number s → ⊥
  outside q s d l i = d (one_region c.heap s q rec.number l i)

  -- a field that leads into the region from another one leads to the bridge
  to_bridge : (q s k x : ℕ) → q ≢ rec.number → LiesIn c.heap q s → field_at c.heap s k ≡ Some (Slot x)
      → LiesIn c.heap rec.number x → rec.bridge ≡ Some x
  to_bridge q s k x d l f i = elim (g.fields q s k x l f) [
    | inl a ↦ let z : Some Frozen ≡ Some (Region rec.number) = sym a ∙ i in cc
    | inr a ↦ elim a [
      | inl b ↦ absurd (d (one_region c.heap x q rec.number b i))
      | inr b ↦
          let n = one_region c.heap x b.0 rec.number b.2 i in
          let z = b.3 in
          let k = g.numbers z.0 key rec.number (number_of t z.0 rec.number z.1 z.2 (z.3 ∙ n)) (number_of t key rec.number rec at refl) in
          let same = same_Some z.1 rec (sym z.2 ∙ ap (record_at t) k ∙ at) in
          sym (ap (λ (y : Record). y.bridge) same) ∙ z.4
    ]
  ]

  bridge_reach : (x : ℕ) → rec.bridge ≡ Some x → InReach x
  bridge_reach x e = (0, omega arith, (g.bridges key x rec at e, is_bridge e))

  -- so a word in a field of another region stays
  same_word : (q s k : ℕ) (a now : Word) → q ≢ rec.number → LiesIn c.heap q s → field_at c.heap s k ≡ Some a
      → Becomes c.heap rec.number (top_roots rec v) w.place a now → now ≡ a
  same_word q s k Nil now d l f b = b.stays (λ x e. cc)
  same_word q s k (Int i) now d l f b = b.stays (λ x e. cc)
  same_word q s k (Truth i) now d l f b = b.stays (λ x e. cc)
  same_word q s k (Slot y) now d l f b = elim (lies_or_not c.heap rec.number y) [
    | inl n ↦ b.stays (λ x e r. let L : ℕ → Type 0 = λ z. LiesIn c.heap rec.number z in n (subst L (sym (slot-same y x e)) (lies x r)))
    | inr i ↦
        let e = to_bridge q s k y d l f i in
        b.moved y refl (bridge_reach y e) ∙ ap Slot (w.bridge y e)
  ]

  same_fields : (q s k : ℕ) → q ≢ rec.number → LiesIn c.heap q s → field_at mid.heap s k ≡ field_at c.heap s k
  same_fields q s k d l = elim (has_or_not (top_temps v) s) [
    | inl n ↦ ap (option_and_then (λ (b : Body). slice_get b.fields k)) (w.others s n (outside q s d l))
    | inr a ↦
        let b = temp_body s a in
        let n = w.temps s b.0 a (outside q s d l) b.1 in
        let F : Option Body → Option Word = λ o. option_and_then (λ (b : Body). slice_get b.fields k) o in
        ap F n.1 ∙ same_words c.heap rec.number (top_roots rec v) w.place b.0.fields n.0.fields k n.2.fields
        (λ o now e z. same_word q s k o now d l (ap F b.1 ∙ e) z) ∙ sym (ap F b.1)
  ]

  -- a cell that stands in the region now was in reach, and what leads from it out of the region did
  led : (q s k to : ℕ) → q ≢ rec.number → LiesIn mid.heap rec.number s → field_at mid.heap s k ≡ Some (Slot to) → LiesIn mid.heap q to
      → (x : ℕ) × LiesIn c.heap rec.number x × (field_at c.heap x k ≡ Some (Slot to)) × (OutOfReach c.heap rec.number (top_roots rec v) x → ⊥)
  led q s k to d l f i =
      let a = w.only s l in
      let b = body_of (body_at c.heap a.0) (lies_held c.heap rec.number a.0 (lies a.0 a.1)) in
      let e = w.stands a.0 b.0 a.1 b.1 in
      let F : Option Body → Option Word = λ o. option_and_then (λ (b : Body). slice_get b.fields k) o in
      let now : slice_get e.0.fields k ≡ Some (Slot to) = sym (ap F e.1) ∙ ap (λ n. field_at mid.heap n k) a.2 ∙ f in
      let z = was_word c.heap rec.number (top_roots rec v) w.place b.0.fields e.0.fields k (Slot to) e.2.fields now in
      let far : (y : ℕ) → z.0 ≡ Slot y → InReach y → ⊥ = λ y p r.
      let there = slot-same to (w.place y) (z.2.moved y p r) in
      let n = body_of (body_at c.heap y) (lies_held c.heap rec.number y (lies y r)) in
      let m = w.stands y n.0 r n.1 in
      let h : LiesIn mid.heap rec.number (w.place y) = ap (option_map (λ (b : Body). b.label)) m.1 ∙ ap Some m.2.label
      ∙ sym (ap (option_map (λ (b : Body). b.label)) n.1) ∙ lies y r in
      let L : ℕ → Type 0 = λ x. LiesIn mid.heap rec.number x in
      d (one_region mid.heap to q rec.number i (subst L (sym there) h)) in (
        a.0,
        lies a.0 a.1,
        ap F b.1 ∙ same_some (slice_get b.0.fields k) z.0 (Slot to) z.1 (z.2.stays far),
        λ out. out a.1,
      )

  leaves : Leaves c t key rec mid tm (OutOfReach c.heap rec.number (top_roots rec v))
  leaves = record {
    own = (w.own.0, w.own.1, w.own.2);
    records = w.records;
    lay = lay;
    stay = λ q s d l. label_off s (outside q s d l) ∙ l;
    fields = same_fields;
    led = led;
  }

  module _ (head : Option ℕ) (o : ChainsOrphans c.heap t rec.number (OutOfReach c.heap rec.number (top_roots rec v)) tm.links head) where
    pub slid_chain : (keys : List ℕ) × Chained tm.links head keys × Unowned mid.heap tm keys
    slid_chain = (
      o.0,
      o.1.chain,
      unowned c t key rec mid tm (OutOfReach c.heap rec.number (top_roots rec v)) g at leaves tm.links head o.0 o.1,
    )

    module _ (cells : Table) (regions : RegionTable) (n : (keys : List ℕ) → Chained tm.links head keys → Gone mid tm keys cells regions) where
      gone : Gone mid tm o.0 cells regions
      gone = n o.0 o.1.chain

      pub slid_slides : Slides (record { cells = c; regions = t }) (record { cells = cells; regions = regions }) key rec v frames
      slid_slides =
          let Cell : ℕ → Type 0 = OutOfReach c.heap rec.number (top_roots rec v) in
          let down = below_one c t key rec mid tm Cell g at leaves tm.links head o.0 o.1 in
          let up = lost_below c t key rec mid tm Cell g at leaves tm.links head o.0 o.1 in
          record {
            mid = record { cells = mid; regions = tm };
            slid = w;
            released = record {
              freed = λ q s x l. gone.freed q s (down q x) l;
              ended = λ s x. absurd x;
              cells = λ s a b. (gone.stay s (λ q x l. a q (up q x) l)).0;
              removed = λ k q x a. gone.removed k q (down q x) a;
              records = λ k a. gone.records k (λ q x b. a q (up q x) b);
              serials = gone.serials;
              high = gone.high;
              numbers = gone.numbers;
            };
            apart = λ x. lost_apart c t key rec mid tm Cell g at leaves rec.number x refl;
            own = own_stays c t key rec mid tm Cell g at leaves tm.links head o.0 o.1 cells regions gone;
          }

      pub slid_told : (number held kept released : ℕ) (m : Manager) (members : List ℕ) → HasNumber t key number → HasManager t key m
          → option_map (λ (z : Record). z.members) (record_at t key) ≡ Some members → held ≡ length members
          → ((now : Record) → record_at tm key ≡ Some now → kept ≡ length now.members)
          → released + count_by is_some regions.records ≡ count_by is_some tm.records
          → Told (record { cells = c; regions = t }) (record { cells = cells; regions = regions }) key rec
          (record { region = number; manager = m; held = held; kept = kept; released = released })
      slid_told = tells c t key rec mid tm (OutOfReach c.heap rec.number (top_roots rec v)) g at leaves tm.links head o.0 o.1 cells regions gone

-- the words from the base of the top window, which is there
pub shown_is : (v : Stack) (slots : List Word) → 0 < length v.windows → ((w : Window) → IsTop v w → slots ≡ drop w.base v.slots)
    → slots ≡ top_slots v
shown_is v slots b w =
    let last = get_or v.windows (length v.windows - 1) (record { number = 0; region = 0; owner = None; base = 0 }) in
    let is = slice_get-get_or v.windows (length v.windows - 1) _ (omega (arith, b)) in
    let F : Option Window → ℕ = λ o. elim o [ None ↦ 0 | Some w ↦ w.base ] in
    w last is ∙ ap (λ n. drop n v.slots) (sym (ap F is))

-- a region that counts is collected, and nothing moves
pub slides_still : (old new : Parts) (key : ℕ) (rec : Record) (v : Stack) (result : Option Collected) (slots : List Word) (temps : List ℕ)
    → Some rec.manager ≡ Some Count → slots ≡ top_slots v → temps ≡ top_temps v
    → CollectsBy rec.manager old new key rec (roots_of rec.bridge slots temps) result → SlidesBy rec.manager old new key rec v v result
slides_still old new key rec v result slots temps m s t w =
    let P : Manager → Type 0 = λ k. CollectsBy k old new key rec (top_roots rec v) result → SlidesBy k old new key rec v v result in
    let C : List Word → List ℕ → Type 0 = λ s t. CollectsBy rec.manager old new key rec (roots_of rec.bridge s t) result in
    let on = subst (λ t. C (top_slots v) t) t (subst (λ s. C s temps) s w) in
    subst P (sym (same_Some _ _ m)) (λ w. (w, refl)) on
