-- The closed regions that some cells own, chained one by one (docs/architecture.md, "The heap").
use Rattle.std.proofs.Common.{◌≡◌, ◌≢◌, ℕ, ◌+◌, ◌<◌, List, ◌∷◌, Option, Some, None, get_or, set, refl, ap, sym, ◌∙◌}
use Rattle.std.proofs.Common.{subst, ◌⊎◌, inl, inr, slice_get, arith, option_map, false, true}
use Rattle.std.specs.List.{list_any}
use Rattle.std.proofs.lemmas.Bool.{cases_lt}
use Rattle.std.proofs.lemmas.List.{get_or-set_other, get_or-set_same}
use Rattle.std.proofs.lemmas.Option.{same_Some}
use Rattle.rg_base.specs.declared.value.Word.{Word}
use Rattle.rg_base.specs.declared.value.Word.TheVariants.{Slot}
use Rattle.rg_base.proofs.Callers.Labels.{slot-same}
use Rattle.rg_cells.specs.Table.{Heap, body_at, field_at, width}
use Rattle.rg_regions.specs.Table.{Record, RegionTable, HasNumber, Has, Chained}
use Rattle.rg_regions.specs.Reach.{LiesIn}
use Rattle.rg_regions.proofs.Callers.Told.{one_number, one_region, field_within}
use Rattle.rg_regions.proofs.Callers.Chain.{chained_agree}
use Rattle.rg_frames.specs.Stack.{Stack, has_region}
use Rattle.rg_heap.specs.Answers.{IsClosed}
use Rattle.rg_heap.specs.Inner.Chains.{OneKey, PutFirst, PutNone, OwnedBefore, Chains, OwnsOnce}

-- numbers are those of the records
pub number_on : (old new : RegionTable) (key n : ℕ) → new.records ≡ old.records → HasNumber old key n → HasNumber new key n
number_on old new key n e a =
    let P : List (Option Record) → Type 0 = λ rs. option_map (λ (r : Record). r.number) (get_or rs key None) ≡ Some n in
    subst P (sym e) a

pub closed_on : (old new : RegionTable) (v : Stack) (q : ℕ) → new.records ≡ old.records → IsClosed old v q → IsClosed new v q
closed_on old new v q e a = (a.0, number_on old new a.0 q e a.1, a.2)

-- a region is open, so it isn't closed
pub not_closed : (h : Heap) (t : RegionTable) (v : Stack) (key r to q : ℕ) → OneKey t → LiesIn h r to → HasNumber t key r
    → list_any (has_region key) v.windows ≡ true → LiesIn h q to → IsClosed t v q → ⊥
not_closed h t v key r to q one l n open_is i a =
    let e : r ≡ q = one_region h to r q l i in
    let P : ℕ → Type 0 = λ z. HasNumber t key z in
    let k : key ≡ a.0 = one key a.0 q (subst P e n) a.1 in
    let B : ℕ → Type 0 = λ z. list_any (has_region z) v.windows ≡ true in
    let z : true ≡ false = sym (subst B k open_is) ∙ a.2 in
    cc

weaken : (h : Heap) (t : RegionTable) (v : Stack) (slots : List ℕ) (i k j m q : ℕ) → OwnedBefore h t v slots i k q
    → ((a b : ℕ) → (a < i) ⊎ ((a ≡ i) × (b < k)) → (a < j) ⊎ ((a ≡ j) × (b < m))) → OwnedBefore h t v slots j m q
weaken h t v slots i k j m q o f = record {
  closed = o.closed;
  place = o.place;
  slot = o.slot;
  field = o.field;
  to = o.to;
  before = f o.place o.field o.before;
  stands = o.stands;
  leads = o.leads;
  lies = o.lies;
}

later : (i k a b : ℕ) → (a < i) ⊎ ((a ≡ i) × (b < k)) → (a < i) ⊎ ((a ≡ i) × (b < k + 1))
later i k a b (inl x) = inl x
later i k a b (inr x) = inr (x.0, omega (arith, x.1))

next_cell : (i k a b : ℕ) → (a < i) ⊎ ((a ≡ i) × (b < k)) → (a < i + 1) ⊎ ((a ≡ i + 1) × (b < 0))
next_cell i k a b (inl x) = inl (omega (arith, x))
next_cell i k a b (inr x) = inl (omega (arith, x.0))

-- a region owned before the next place is owned before this one, or right here
split : (h : Heap) (t : RegionTable) (v : Stack) (slots : List ℕ) (i k q slot : ℕ) (w : Word) → slice_get slots i ≡ Some slot
    → field_at h slot k ≡ Some w → OwnedBefore h t v slots i (k + 1) q
    → OwnedBefore h t v slots i k q ⊎ ((to : ℕ) × (w ≡ Slot to) × LiesIn h q to × IsClosed t v q)
split h t v slots i k q slot w stands leads o = elim o.before [
  | inl x ↦ inl (moved (inl x))
  | inr x ↦ elim (cases_lt o.field k) [
    | inl y ↦ inl (moved (inr (x.0, y)))
    | inr y ↦ inr (
        let b = x.1 in
        let e : o.field ≡ k = omega (arith, b, y) in
        let P : ℕ → Type 0 = λ z. slice_get slots z ≡ Some o.slot in
        let s : o.slot ≡ slot = same_Some o.slot slot (sym (subst P x.0 o.stands) ∙ stands) in
        let F : ℕ → Type 0 = λ z. field_at h z o.field ≡ Some (Slot o.to) in
        let G : ℕ → Type 0 = λ z. field_at h slot z ≡ Some (Slot o.to) in
        (o.to, same_Some w (Slot o.to) (sym leads ∙ subst G e (subst F s o.leads)), o.lies, o.closed))
  ]
]
  where
    moved : (o.place < i) ⊎ ((o.place ≡ i) × (o.field < k)) → OwnedBefore h t v slots i k q
    moved x = record {
      closed = o.closed;
      place = o.place;
      slot = o.slot;
      field = o.field;
      to = o.to;
      before = x;
      stands = o.stands;
      leads = o.leads;
      lies = o.lies;
    }

pub chains_none : (h : Heap) (t : RegionTable) (v : Stack) (slots : List ℕ) (i k slot : ℕ) (now new : RegionTable) (head result : Option ℕ)
    (keys : List ℕ) (w : Word) → slice_get slots i ≡ Some slot → field_at h slot k ≡ Some w → Chains h t v slots i k now head keys
    → PutNone h v w head result now new → Chains h t v slots i (k + 1) new result keys
chains_none h t v slots i k slot now new head result keys w stands leads c p =
    let C : Option ℕ → Type 0 = λ o. Chained now.links o keys in
    let D : RegionTable → Type 0 = λ (z : RegionTable). Chained z.links result keys in
    record {
      records = ap (λ (z : RegionTable). z.records) p.same ∙ c.records;
      next = ap (λ (z : RegionTable). z.next) p.same ∙ c.next;
      chain = subst D (sym p.same) (subst C (sym p.head_is) c.chain);
      each = λ key x. let a = c.each key x in (a.0, a.1, weaken h t v slots i k i (k + 1) a.0 a.2 (later i k));
      all = λ key q n o. elim (split h t v slots i k q slot w stands leads o) [
        | inl x ↦ c.all key q n x
        | inr x ↦ absurd (p.none q x.0 x.1 x.2 (closed_on t now v q c.records x.3))
      ];
    }

pub chains_put : (h : Heap) (t : RegionTable) (v : Stack) (slots : List ℕ) (i k slot : ℕ) (now new : RegionTable) (head result : Option ℕ)
    (keys : List ℕ) (w : Word) → OwnsOnce h t v slots → slice_get slots i ≡ Some slot → field_at h slot k ≡ Some w
    → Chains h t v slots i k now head keys → (p : PutFirst h v w head result now new) → Chains h t v slots i (k + 1) new result (p.key ∷ keys)
chains_put h t v slots i k slot now new head result keys w once stands leads c p = record {
  records = ap (λ (z : RegionTable). z.records) p.links ∙ c.records;
  next = ap (λ (z : RegionTable). z.next) p.links ∙ c.next;
  chain = (p.first, apart, subst D (sym link) rest);
  each = λ key x. elim x [
    | inl e ↦ let P : ℕ → Type 0 = λ z. HasNumber t z p.region in (p.region, subst P (sym e) number, here)
    | inr x ↦ let a = c.each key x in (a.0, a.1, weaken h t v slots i k i (k + 1) a.0 a.2 (later i k))
  ];
  all = λ key q n o. elim (split h t v slots i k q slot w stands leads o) [
    | inl x ↦ inr (c.all key q n x)
    | inr x ↦
        let e : x.0 ≡ p.to = slot-same x.0 p.to (sym x.1 ∙ p.leads) in
        let L : ℕ → Type 0 = λ z. LiesIn h q z in
        let r : q ≡ p.region = one_region h p.to q p.region (subst L e x.2) p.lies in
        let N : ℕ → Type 0 = λ z. HasNumber t key z in
        inl (once.keys key p.key p.region (subst N r n) number)
  ];
}
  where
    number : HasNumber t p.key p.region
    number = number_on now t p.key p.region (sym c.records) p.number

    closed : IsClosed t v p.region
    closed = (p.key, number, p.closed)

    leads_here : field_at h slot k ≡ Some (Slot p.to)
    leads_here = leads ∙ ap Some p.leads

    here : OwnedBefore h t v slots i (k + 1) p.region
    here = record {
      closed = closed;
      place = i;
      slot = slot;
      field = k;
      to = p.to;
      before = inr (refl, omega arith);
      stands = stands;
      leads = leads_here;
      lies = p.lies;
    }

    -- the key isn't on the chain yet
    apart : Has keys p.key → ⊥
    apart x =
        let a = c.each p.key x in
        let o = a.2 in
        let e : a.0 ≡ p.region = one_number t p.key a.0 p.region a.1 number in
        let L : ℕ → Type 0 = λ z. LiesIn h z o.to in
        let s = once.one p.region o.place o.slot o.field o.to i slot k p.to closed o.stands o.leads (subst L e o.lies) stands leads_here p.lies in
        let P : ℕ → Type 0 = λ z. slice_get slots o.place ≡ Some z in
        let j : o.place ≡ i = once.once o.place i slot (subst P s.0 o.stands) stands in
        let f : o.field ≡ k = s.1 in
        elim o.before [ inl b ↦ omega (arith, b, j) | inr b ↦ let y = b.1 in omega (arith, y, f) ]

    links : new.links ≡ set now.links p.key head
    links = ap (λ (z : RegionTable). z.links) p.links

    link : get_or new.links p.key None ≡ head
    link = ap (λ ls. get_or ls p.key None) links ∙ get_or-set_same now.links p.key head None p.within

    off_chain : (j : ℕ) → Has keys j → j ≢ p.key
    off_chain j x e = let P : ℕ → Type 0 = λ z. Has keys z in apart (subst P e x)

    rest : Chained new.links head keys
    rest = chained_agree now.links new.links head keys
        (λ j x. ap (λ ls. get_or ls j None) links ∙ get_or-set_other now.links p.key j head None (off_chain j x)) c.chain

    D : Option ℕ → Type 0
    D o = Chained new.links o keys

pub chains_next : (h : Heap) (t : RegionTable) (v : Stack) (slots : List ℕ) (i slot : ℕ) (now : RegionTable) (head : Option ℕ)
    (keys : List ℕ) → slice_get slots i ≡ Some slot → Chains h t v slots i (width (body_at h slot)) now head keys
    → Chains h t v slots (i + 1) 0 now head keys
chains_next h t v slots i slot now head keys stands c = record {
  records = c.records;
  next = c.next;
  chain = c.chain;
  each = λ key x. let a = c.each key x in (a.0, a.1, weaken h t v slots i wide (i + 1) 0 a.0 a.2 (next_cell i wide));
  all = λ key q n o. c.all key q n (record {
    closed = o.closed;
    place = o.place;
    slot = o.slot;
    field = o.field;
    to = o.to;
    before = before o;
    stands = o.stands;
    leads = o.leads;
    lies = o.lies;
  });
}
  where
    wide : ℕ
    wide = width (body_at h slot)

    before : {q : ℕ} → (o : OwnedBefore h t v slots (i + 1) 0 q) → (o.place < i) ⊎ ((o.place ≡ i) × (o.field < wide))
    before o = elim o.before [
      | inl x ↦ elim (cases_lt o.place i) [
        | inl y ↦ inl y
        | inr y ↦
            let e : o.place ≡ i = omega (arith, x, y) in
            let P : ℕ → Type 0 = λ z. slice_get slots z ≡ Some o.slot in
            let s : o.slot ≡ slot = same_Some o.slot slot (sym (subst P e o.stands) ∙ stands) in
            let F : ℕ → Type 0 = λ z. field_at h z o.field ≡ Some (Slot o.to) in
            inr (e, field_within h slot o.field (Slot o.to) (subst F s o.leads))
      ]
      | inr x ↦ let y = x.1 in absurd (omega (arith, y))
    ]
