-- Each turn of the search for the regions that cells own which go (docs/architecture.md, "Regions").
use Rattle.std.proofs.Common.{◌≡◌, ◌≢◌, ℕ, ◌+◌, ◌<◌, ◌≤◌, List, [], ◌∷◌, length, Option, Some, None, get_or, set, refl, ap}
use Rattle.std.proofs.Common.{sym, ◌∙◌}
use Rattle.std.proofs.Common.{subst, arith, ◌⊎◌, inl, inr, option_map}
use Rattle.std.proofs.lemmas.List.{get_or-set_same, get_or-set_other}
use Rattle.std.proofs.lemmas.Bool.{cases_lt}
use Rattle.std.proofs.lemmas.Option.{same_Some}
use Rattle.rg_base.specs.declared.value.Word.{Word}
use Rattle.rg_base.specs.declared.value.Word.TheVariants.{Slot}
use Rattle.rg_cells.specs.Table.{Heap, field_at, body_at, width}
use Rattle.rg_regions.specs.Table.{Record, RegionTable, HasNumber, Has, Chained}
use Rattle.rg_regions.specs.Reach.{LiesIn}
use Rattle.rg_regions.specs.Collection.{Lost}
use Rattle.rg_regions.specs.Chains.{PutFirst, Follows, OwnsOnce}
use Rattle.rg_regions.proofs.Callers.Told.{field_within, one_region, one_number}
use Rattle.rg_regions.proofs.Callers.Chain.{chained_agree}
use Rattle.rg_regions.specs.Owned.{Owned, OwnedInFront, ChainsOwned, OwnsNone, Every, FollowsFields, FollowsMembers}

slot_is : (a b : ℕ) → Some (Slot a) ≡ Some (Slot b) → a ≡ b
slot_is a b q = cc

-- exactly the same regions are chained where exactly the same are owned
pub owned_alike : (h : Heap) (goes : ℕ → Type 0) (r : ℕ) (members more rest : List ℕ) (t : RegionTable) (i k m n : ℕ)
    (now : RegionTable) (head : Option ℕ) → ((q : ℕ) → Owned h goes r members i k q → Owned h goes r more m n q)
    → ((q : ℕ) → Owned h goes r more m n q → Owned h goes r members i k q)
    → ChainsOwned h goes r members rest t i k now head → ChainsOwned h goes r more rest t m n now head
owned_alike h goes r members more rest t i k m n now head on back o = (
  o.0,
  record {
    records = o.1.records;
    next = o.1.next;
    chain = o.1.chain;
    old = o.1.old;
    each = λ key w. elim (o.1.each key w) [ inl a ↦ inl a | inr e ↦ inr (e.0, e.1, on e.0 e.2) ];
    all = λ q key w a. o.1.all q key (back q w) a;
    apart = o.1.apart;
  },
)

-- with nothing behind them, each key that is chained is that of a region which lost its owner
pub lost_each : (h : Heap) (goes freed : ℕ → Type 0) (r : ℕ) (members : List ℕ) (t : RegionTable) (i k : ℕ)
    (now : RegionTable) (head : Option ℕ) (keys : List ℕ)
    → ((p : ℕ) → p < length members → goes (get_or members p 0) → LiesIn h r (get_or members p 0) × freed (get_or members p 0))
    → OwnedInFront h goes r members [] t i k now head keys → (key : ℕ) → Has keys key
    → (q : ℕ) × HasNumber t key q × Lost h r freed q
lost_each h goes freed r members t i k now head keys lost o key m = elim (o.each key m) [
  | inl x ↦ absurd x
  | inr w ↦
      let own = w.2 in
      let a = lost own.place own.within own.gone in (
        w.0,
        w.1,
        record {
          slot = get_or members own.place 0;
          field = own.field;
          to = own.to;
          from = a.0;
          gone = a.1;
          leads = own.leads;
          lies = own.lies;
          other = own.other;
        },
      )
]

module _ (h : Heap) (goes : ℕ → Type 0) (r : ℕ) (members : List ℕ) where
  -- it is owned by the fields that are meant
  earlier : (i k m n q : ℕ) (o : Owned h goes r members i k q) → ((o.place < m) ⊎ ((o.place ≡ m) × (o.field < n)))
      → Owned h goes r members m n q
  earlier i k m n q o e = record {
    place = o.place;
    field = o.field;
    to = o.to;
    early = e;
    within = o.within;
    gone = o.gone;
    leads = o.leads;
    lies = o.lies;
    other = o.other;
  }

  -- what is owned by earlier fields is owned by more fields
  later : (i k m n q : ℕ) → ((p f : ℕ) → ((p < i) ⊎ ((p ≡ i) × (f < k))) → (p < m) ⊎ ((p ≡ m) × (f < n)))
      → Owned h goes r members i k q → Owned h goes r members m n q
  later i k m n q w o = earlier i k m n q o (w o.place o.field o.early)

  next_field : (i k q : ℕ) → Owned h goes r members i k q → Owned h goes r members i (k + 1) q
  next_field i k q = later i k i (k + 1) q (λ p f w. elim w [ inl a ↦ inl a | inr b ↦ inr (b.0, omega (arith, b.1)) ])

  next_member : (i k q : ℕ) → Owned h goes r members i k q → Owned h goes r members (i + 1) 0 q
  next_member i k q = later i k (i + 1) 0 q
      (λ p f w. elim w [ inl a ↦ inl (omega (arith, a)) | inr b ↦ inl (omega (arith, b.0)) ])

  -- the last field of those followed is the one that leads there
  at_last : (i k q : ℕ) (o : Owned h goes r members i (k + 1) q) → o.place ≡ i → o.field < k + 1 → k ≤ o.field
      → field_at h (get_or members i 0) k ≡ Some (Slot o.to)
  at_last i k q o p l a =
      let same : o.field ≡ k = omega (arith, l, a) in
      ap (λ z. field_at h (get_or members i 0) z) (sym same) ∙ ap (λ z. field_at h (get_or members z 0) o.field) (sym p)
      ∙ o.leads

  module _ (rest : List ℕ) (t : RegionTable) where
    -- before the first member
    pub owned_begin : (head : Option ℕ) → Chained t.links head rest → ChainsOwned h goes r members rest t 0 0 t head
    owned_begin head c = (
      rest,
      record {
        records = refl;
        next = refl;
        chain = c;
        old = λ key m. m;
        each = λ key m. inl m;
        all = λ q key w n. elim (w.early) [ inl a ↦ absurd (omega (arith, a)) | inr b ↦ absurd (omega (arith, b.1)) ];
        apart = λ key m. refl;
      },
    )

    -- by another field no region more is owned, where it leads into no other region
    pub owned_skip : (i k : ℕ) (now : RegionTable) (head : Option ℕ)
        → ((to q : ℕ) → field_at h (get_or members i 0) k ≡ Some (Slot to) → LiesIn h q to → q ≢ r → ⊥)
        → ChainsOwned h goes r members rest t i k now head → ChainsOwned h goes r members rest t i (k + 1) now head
    owned_skip i k now head none =
        owned_alike h goes r members members rest t i k i (k + 1) now head (next_field i k) back
      where
        back : (q : ℕ) → Owned h goes r members i (k + 1) q → Owned h goes r members i k q
        back q w = elim (w.early) [
          | inl a ↦ earlier i (k + 1) i k q w (inl a)
          | inr b ↦ elim (cases_lt w.field k) [
            | inl c ↦ earlier i (k + 1) i k q w (inr (b.0, c))
            | inr c ↦ absurd (none w.to q (at_last i k q w b.0 b.1 c) w.lies w.other)
          ]
        ]

    -- all fields of a member were followed
    pub owned_next : (i k : ℕ) (now : RegionTable) (head : Option ℕ) → width (body_at h (get_or members i 0)) ≤ k
        → ChainsOwned h goes r members rest t i k now head → ChainsOwned h goes r members rest t (i + 1) 0 now head
    owned_next i k now head l =
        owned_alike h goes r members members rest t i k (i + 1) 0 now head (next_member i k) back
      where
        back : (q : ℕ) → Owned h goes r members (i + 1) 0 q → Owned h goes r members i k q
        back q w = elim (cases_lt w.place i) [
          | inl a ↦ earlier (i + 1) 0 i k q w (inl a)
          | inr a ↦
              let p : w.place ≡ i = elim (w.early)
              [ inl b ↦ omega (arith, a, b) | inr b ↦ absurd (omega (arith, b.1)) ] in
              let f : field_at h (get_or members i 0) w.field ≡ Some (Slot w.to) =
              ap (λ z. field_at h (get_or members z 0) w.field) (sym p) ∙ w.leads in
              let b : w.field < width (body_at h (get_or members i 0)) =
              field_within h (get_or members i 0) w.field (Slot w.to) f in
              earlier (i + 1) 0 i k q w (inr (p, omega (arith, b, l)))
        ]

    -- a member that stays owns nothing that is lost
    pub owned_stays : (i : ℕ) (now : RegionTable) (head : Option ℕ) → (goes (get_or members i 0) → ⊥)
        → ChainsOwned h goes r members rest t i 0 now head → ChainsOwned h goes r members rest t (i + 1) 0 now head
    owned_stays i now head stays =
        owned_alike h goes r members members rest t i 0 (i + 1) 0 now head (next_member i 0) back
      where
        back : (q : ℕ) → Owned h goes r members (i + 1) 0 q → Owned h goes r members i 0 q
        back q w = elim (cases_lt w.place i) [
          | inl a ↦ earlier (i + 1) 0 i 0 q w (inl a)
          | inr a ↦
              let p : w.place ≡ i = elim (w.early)
              [ inl b ↦ omega (arith, a, b) | inr b ↦ absurd (omega (arith, b.1)) ] in
              let G : ℕ → Type 0 = λ z. goes (get_or members z 0) in
              absurd (stays (subst G p w.gone))
        ]

    -- a field of a member leads into another region, which becomes the head of the chain
    pub owned_more : (i k : ℕ) (now new : RegionTable) (head result : Option ℕ) (to q : ℕ) → OwnsOnce h r members
        → OwnsNone h r t rest
        → i < length members → goes (get_or members i 0) → field_at h (get_or members i 0) k ≡ Some (Slot to)
        → LiesIn h q to → q ≢ r
        → PutFirst now q head result new → ChainsOwned h goes r members rest t i k now head
        → ChainsOwned h goes r members rest t i (k + 1) new result
    owned_more i k now new head result to q w free l gone leads lies other c o =
        let N : (key n : ℕ) → List (Option Record)
        → Type 0 = λ key n rs. option_map (λ (r : Record). r.number) (get_or rs key None) ≡ Some n in
        let has : HasNumber t c.key q = subst (N c.key q) o.1.records c.has in
        let only : (key : ℕ) → HasNumber t key q
        → key ≡ c.key = λ key n. c.only key (subst (N key q) (sym o.1.records) n) in
        let links : new.links ≡ set now.links c.key head = ap (λ (z : RegionTable). z.links) c.new_is in
        let fresh : Has o.0 c.key → ⊥ = λ m. elim (o.1.each c.key m) [
          | inl a ↦ free c.key q (get_or members i 0) k to a has other (w.lie i l) leads lies
          | inr e ↦
              let same : e.0 ≡ q = one_number t c.key e.0 q e.1 has in
              let L : ℕ → Type 0 = λ z. LiesIn h z e.2.to in
              let from = get_or members e.2.place 0 in
              let u = w.one q (get_or members i 0) k to from e.2.field e.2.to other (w.lie i l) leads lies
              (w.lie e.2.place e.2.within) e.2.leads (subst L same e.2.lies) in
              let p : i ≡ e.2.place = w.once i e.2.place l e.2.within u.0 in
              elim (e.2.early) [ inl a ↦ omega (arith, p, a) | inr b ↦ omega (arith, u.1, b.1) ]
        ] in
        let C : List (Option ℕ) → Type 0 = λ ls. Chained ls (Some c.key) (c.key ∷ o.0) in
        let R : Option ℕ → Type 0 = λ z. Chained new.links z (c.key ∷ o.0) in
        let D : Option ℕ → Type 0 = λ z. Chained (set now.links c.key head) z o.0 in
        let P : ℕ → Type 0 = λ z. Has o.0 z in
        let agree : (x : ℕ) → Has o.0 x → get_or (set now.links c.key head) x None ≡ get_or now.links x None =
        λ x m. get_or-set_other now.links c.key x head None (λ e. fresh (subst P e m)) in (
          c.key ∷ o.0,
          record {
            records = ap (λ (z : RegionTable). z.records) c.new_is ∙ o.1.records;
            next = ap (λ (z : RegionTable). z.next) c.new_is ∙ o.1.next;
            chain = subst R (sym c.is) (subst C (sym links) (
              refl,
              fresh,
              subst D (sym (get_or-set_same now.links c.key head None c.within))
                  (chained_agree now.links (set now.links c.key head) head o.0 agree o.1.chain),
            ));
            old = λ key a. inr (o.1.old key a);
            each = λ key m. elim m [
              | inl e ↦
                  let H : ℕ → Type 0 = λ z. HasNumber t z q in
                  inr (
                    q,
                    subst H (sym e) has,
                    record {
                      place = i;
                      field = k;
                      to = to;
                      early = inr (refl, omega arith);
                      within = l;
                      gone = gone;
                      leads = leads;
                      lies = lies;
                      other = other;
                    },
                  )
              | inr n ↦ elim (o.1.each key n) [ inl a ↦ inl a | inr e ↦ inr (e.0, e.1, next_field i k e.0 e.2) ]
            ];
            all = λ x key w n. elim (w.early) [
              | inl a ↦ inr (o.1.all x key (earlier i (k + 1) i k x w (inl a)) n)
              | inr b ↦ elim (cases_lt w.field k) [
                | inl a ↦ inr (o.1.all x key (earlier i (k + 1) i k x w (inr (b.0, a))) n)
                | inr a ↦
                    let z : w.to ≡ to = slot_is w.to to (sym (at_last i k x w b.0 b.1 a) ∙ leads) in
                    let L : ℕ → Type 0 = λ y. LiesIn h x y in
                    let H : ℕ → Type 0 = λ v. HasNumber t key v in
                    inl (only key (subst H (one_region h to x q (subst L z w.lies) lies) n))
              ]
            ];
            apart = λ key m. ap (λ ls. get_or ls key None) links
                ∙ get_or-set_other now.links c.key key head None (λ e. m (inl e)) ∙ o.1.apart key (λ a. m (inr a));
          },
        )

-- a word of a member was followed
pub fields_more : (h : Heap) (goes : ℕ → Type 0) (r slot k : ℕ) (old mid new : RegionTable)
    (head middle result : Option ℕ) (w : Word) → field_at h slot k ≡ Some w
    → Follows h r w middle result mid new → FollowsFields h goes r slot k old mid head middle
    → FollowsFields h goes r slot (k + 1) old new head result
fields_more h goes r slot k old mid new head middle result w at g f = elim g [
  | inl s ↦
      let F : Option ℕ → RegionTable → Type 0 = λ o t. FollowsFields h goes r slot (k + 1) old t head o in
      let R : Option ℕ → Type 0 = λ o. F o new in
      let N : RegionTable → Type 0 = λ t. F middle t in
      subst R (sym s.head_is) (subst N (sym s.same) (record {
        records = f.records;
        chained = λ members rest t i o n l e a q.
            owned_skip h goes r members rest t i k mid middle
            (λ to n f b d. s.none to n (same_Some w (Slot to) (sym at ∙ ap (λ y. field_at h y k) (sym e) ∙ f)) b d)
            (f.chained members rest t i o n l e a q);
      }))
  | inr j ↦ record {
    records = ap (λ (t : RegionTable). t.records) j.chains.new_is ∙ f.records;
    chained = λ members rest t i o n l e a q.
        owned_more h goes r members rest t i k mid new middle result j.to j.number o n l (subst goes (sym e) a)
        (ap (λ y. field_at h y k) e ∙ at ∙ ap Some j.leads) j.lies j.other j.chains
        (f.chained members rest t i o n l e a q);
  }
]

pub members_none : (h : Heap) (r : ℕ) (members : List ℕ) (t : RegionTable) (head : Option ℕ)
    → FollowsMembers h r members 0 t t head head
members_none h r members t head =
    record { records = refl; next = λ rest n c. owned_begin h Every r members rest t head c }

-- the fields of a member were followed
pub members_more : (h : Heap) (r : ℕ) (members : List ℕ) (i slot : ℕ) (old mid new : RegionTable)
    (head middle result : Option ℕ)
    → OwnsOnce h r members → i < length members → get_or members i 0 ≡ slot
    → FollowsFields h Every r slot (width (body_at h slot)) mid new middle result
    → FollowsMembers h r members i old mid head middle
    → FollowsMembers h r members (i + 1) old new head result
members_more h r members i slot old mid new head middle result o l is f s = record {
  records = f.records ∙ s.records;
  next = λ rest n c.
      owned_next h Every r members rest old i (width (body_at h slot)) new result
      (omega (arith, ap (λ z. width (body_at h z)) is))
      (f.chained members rest old i o n l is tt (s.next rest n c));
}
