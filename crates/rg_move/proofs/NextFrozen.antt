-- From one frozen region to the next, and the end (docs/architecture.md, "Freeze and merge").
use Rattle.std.proofs.Common.{◌≡◌, ◌≢◌, ℕ, List, [], ◌∷◌, Option, Some, None, get_or, refl, ap, sym, ◌∙◌, subst, ◌⊎◌}
use Rattle.std.proofs.Common.{inl, inr, option_map}
use Rattle.std.proofs.lemmas.Bool.{cases_eq}
use Rattle.rg_base.specs.declared.object.Label.TheVariants.{Frozen}
use Rattle.rg_base.specs.declared.value.Word.TheVariants.{Slot}
use Rattle.rg_cells.specs.Table.{Table, field_at}
use Rattle.rg_regions.specs.Table.{Record, RegionTable, record_at, link_at, HasNumber, Has, Chained}
use Rattle.rg_regions.specs.Reach.{LiesIn}
use Rattle.rg_regions.specs.Grove.{Grove, Parent, Above, direct, further}
use Rattle.rg_regions.specs.Owned.{HandsOver}
use Rattle.rg_regions.proofs.Callers.Told.{one_region, one_number, number_of, led_held, owns_once}
use Rattle.rg_move.specs.Closed.{Closed, BelowKey}
use Rattle.rg_move.specs.Frozen.{labelled, CellsFreeze, CellsStay, RecordsGo, RecordsStay}
use Rattle.rg_move.specs.Inner.Freezes.{IsReady, Hardens, IsGone, Goes, Hardened, IsLeft, Freezing}
use Rattle.rg_move.proofs.PartFrozen.{record_was, number_was, not_gone, lies_on, gone_or_here, same_here, fields_same}
use Rattle.rg_move.proofs.PartFrozen.{held_on, lay, in_table}
use Rattle.rg_move.proofs.PartFrozen.{parent_was}
use Rattle.rg_move.proofs.GroveFrozen.{grove_frozen}

-- before the first region
pub freezing_begin : (c : Table) (t : RegionTable) (key : ℕ) (regions : RegionTable) → Closed c.heap t key
    → regions.records ≡ t.records
    → regions.next ≡ t.next → ((k : ℕ) → k ≢ key → link_at regions k ≡ link_at t k)
    → Freezing c t key c regions (key ∷ [])
freezing_begin c t key regions o same next links =
    let at : (k : ℕ) → record_at regions k ≡ record_at t k = λ k. same_at k in
    let none : (q : ℕ) → IsGone t regions q → ⊥ = λ q a.
    let v : None ≡ Some q = sym (ap (option_map (λ (z : Record). z.number)) (sym (at a.0) ∙ a.2)) ∙ a.1 in
    cc in
    record {
      hardened = record {
        records = λ k. inl (at k);
        froze = λ q s a l. absurd (none q a);
        others = λ s n. (refl, refl, refl);
        serials = refl;
        high = refl;
        numbers = next;
      };
      below = λ q a. absurd (none q a);
      left = λ k m. elim m [
        | inl e ↦
            let P : ℕ → Type 0 = λ z. HasNumber regions z o.number in
            (o.number, subst P (sym e) (ap (option_map (λ (z : Record). z.number)) (at key) ∙ o.has), inl e)
        | inr n ↦ absurd n
      ];
      first = λ q h. inr (key, h, inl refl);
      children = λ p q a b. absurd (none p b);
      links = λ k n. links k (λ e.
          let P : ℕ → Type 0 = λ z. HasNumber t z o.number in
          n o.number (o.number, o.has, inl refl) (subst P (sym e) o.has));
    }
  where
    same_at : (k : ℕ) → record_at regions k ≡ record_at t k
    same_at k = ap (λ (z : RegionTable). record_at z k) (records_are regions t.records same)
      where
        records_are : (z : RegionTable) (rs : List (Option Record)) → z.records ≡ rs → z ≡ record z { records = rs }
        records_are z rs e = ap (λ ys. record z { records = ys }) e

module _ (c : Table) (t : RegionTable) (key : ℕ) (cells : Table) (regions : RegionTable) (k : ℕ) (rest : List ℕ)
    (g : Grove c t)
    (o : Closed c.heap t key) (i : Freezing c t key cells regions (k ∷ rest)) (rec : Record)
    (e : record_at regions k ≡ Some rec) where
  number_now : HasNumber regions k rec.number
  number_now = number_of regions k rec.number rec e refl

  number_first : HasNumber t k rec.number
  number_first = number_was c t cells regions g i.hardened k rec.number number_now

  here : IsGone t regions rec.number → ⊥
  here = not_gone c t cells regions g i.hardened k rec.number number_now

  was : (q s : ℕ) → LiesIn cells.heap q s → LiesIn c.heap q s
  was q s l = (lay c t cells regions g i.hardened q s l).0

  field_was : (s f to : ℕ) → field_at cells.heap s f ≡ Some (Slot to) → field_at c.heap s f ≡ Some (Slot to)
  field_was s f to x = sym (fields_same c t cells regions g i.hardened s f) ∙ x

  -- only a region that has gone leads into one whose key is left
  unowned_left : (j q p s f to : ℕ) → Has (k ∷ rest) j → HasNumber regions j q → p ≢ q → LiesIn cells.heap p s
      → field_at cells.heap s f ≡ Some (Slot to) → LiesIn cells.heap q to → ⊥
  unowned_left j q p s f to m h d l x y =
      let a = lay c t cells regions g i.hardened p s l in
      let b = was q to y in
      let v = i.left j m in
      let same : v.0 ≡ q = one_number regions j v.0 q v.1 h in
      let lead = field_was s f to x in
      elim (v.2) [
        | inl z ↦
            let P : ℕ → Type 0 = λ u. HasNumber t u q in
            let n : q ≡ o.number = one_number t key q o.number (subst P z
            (number_was c t cells regions g i.hardened j q h)) o.has in
            let L : ℕ → Type 0 = λ u. LiesIn c.heap u to in
            o.alone p s f to (λ u. d (u ∙ sym n)) a.0 lead (subst L n b)
        | inr z ↦
            let u = z.1 in
            let L : ℕ → Type 0 = λ n. LiesIn c.heap n u.to in
            let S : ℕ → Type 0 = λ n. LiesIn c.heap z.0 n in
            let G : ℕ → Type 0 = λ n. IsGone t regions n in
            let one = g.one_in q p s f to z.0 u.from u.field u.to d a.0 lead b
            (λ n. u.differ (n ∙ sym same)) u.lies u.leads (subst L same u.child_has) in
            a.1 (subst G (one_region c.heap s z.0 p (subst S (sym one.0) u.lies) a.0) z.2)
      ]

  -- the first of the keys that are left can be frozen
  pub ready_first : Chained regions.links (Some k) (k ∷ rest) → IsReady cells.heap regions k rec rest
  ready_first chain =
      let at = record_was c t cells regions g i.hardened k rec e in
      let m = g.members k rec at in
      let u = owns_once c t k rec g at in
      record {
        at = e;
        chain = chain;
        members = record {
          lie = λ j s q. lies_on c t cells regions g i.hardened rec.number s here (m.lie j s q);
          all = λ s l. m.all s (was rec.number s l);
          once = m.once;
        };
        owns = record {
          one = λ q s f to s2 f2 to2 d l x y l2 x2 y2.
              u.one q s f to s2 f2 to2 d (was rec.number s l) (field_was s f to x) (was q to y)
              (was rec.number s2 l2) (field_was s2 f2 to2 x2) (was q to2 y2);
          lie = λ j n. lies_on c t cells regions g i.hardened rec.number (get_or rec.members j 0) here (u.lie j n);
          once = u.once;
        };
        lead = λ p f s l x.
            held_on c t cells regions g i.hardened s (led_held c t g rec.number p f s (was rec.number p l)
            (field_was p f s x));
        labels = in_table c t cells regions g i.hardened;
        free = λ j q s f to n h d l x y. unowned_left j q rec.number s f to (inr n) h (λ z. d (sym z)) l x y;
      }

  module _ (done : Table) (new : RegionTable) (head : Option ℕ) (keys : List ℕ) (hard : Hardens cells rec.number done)
      (hand : HandsOver cells.heap regions k rec.number rest new head keys) where
    gone_on : (q : ℕ) → IsGone t regions q → IsGone t new q
    gone_on q a =
        let d : a.0 ≢ k = λ z. let v : None ≡ Some rec = sym (ap (record_at regions) (sym z) ∙ a.2) ∙ e in cc in
        (a.0, a.1, hand.stay a.0 d ∙ a.2)

    gone_first : IsGone t new rec.number
    gone_first = (k, number_first, hand.gone)

    gone_back : (q : ℕ) → IsGone t new q → IsGone t regions q ⊎ (q ≡ rec.number)
    gone_back q a = elim (cases_eq a.0 k) [
      | inl z ↦ let P : ℕ → Type 0 = λ u. HasNumber t u q in inr (one_number t k q rec.number (subst P z a.1)
          number_first)
      | inr d ↦ inl (a.0, a.1, sym (hand.stay a.0 d) ∙ a.2)
    ]

    goes_on : (q : ℕ) → Goes t regions (k ∷ rest) q → Goes t new keys q
    goes_on q a = elim a [
      | inl b ↦ inl (gone_on q b)
      | inr b ↦ elim (b.2) [
        | inl z ↦ let P : ℕ → Type 0 = λ u. HasNumber t u q in inl (k, subst P z b.1, hand.gone)
        | inr m ↦ inr (b.0, b.1, hand.old b.0 m)
      ]
    ]

    -- a child of the region that is frozen
    child_goes : (q : ℕ) → Parent c.heap rec.number q → Goes t new keys q
    child_goes q a = elim (gone_or_here c t cells regions g i.hardened q a.to a.child_has) [
      | inl b ↦ inl (gone_on q b)
      | inr b ↦
          let p : Parent cells.heap rec.number q = record {
            differ = a.differ;
            from = a.from;
            field = a.field;
            to = a.to;
            lies = lies_on c t cells regions g i.hardened rec.number a.from here a.lies;
            leads = fields_same c t cells regions g i.hardened a.from a.field ∙ a.leads;
            child_has = b.1;
          } in
          inr (b.0.0, number_was c t cells regions g i.hardened b.0.0 q b.0.1, hand.all b.0.0 q p b.0.1)
    ]

    -- what is left is below the first of all
    left_below : (j q : ℕ) → HasNumber t j q → ((j ≡ key) ⊎ ((p : ℕ) × Parent c.heap p q × BelowKey c.heap t key p))
        → BelowKey c.heap t key q
    left_below j q h v = elim v [
      | inl z ↦ let P : ℕ → Type 0 = λ u. HasNumber t u q in (q, subst P z h, inl refl)
      | inr z ↦
          let b = z.2 in (
            b.0,
            b.1,
            elim (b.2) [
              | inl y ↦ let P : ℕ → Type 0 = λ u. Parent c.heap u q in inr ((j, h), direct (subst P y z.1))
              | inr y ↦ inr ((j, h), further y.1 z.1)
            ],
          )
    ]

    first_below : BelowKey c.heap t key rec.number
    first_below =
        let v = i.left k (inl refl) in
        let same : v.0 ≡ rec.number = one_number regions k v.0 rec.number v.1 number_now in
        let B : ℕ → Type 0 = λ u. BelowKey c.heap t key u in
        subst B same (left_below k v.0 (number_was c t cells regions g i.hardened k v.0 v.1) (elim (v.2) [
          | inl z ↦ inl z
          | inr z ↦ inr (z.0, z.1, i.below z.0 z.2)
        ]))

    gone_below : (q : ℕ) → IsGone t new q → BelowKey c.heap t key q
    gone_below q a = elim (gone_back q a) [
      | inl b ↦ i.below q b
      | inr z ↦ let B : ℕ → Type 0 = λ u. BelowKey c.heap t key u in subst B (sym z) first_below
    ]

    not_first : (j : ℕ) → Has keys j → j ≢ k
    not_first j m z = let P : ℕ → Type 0 = λ u. Has keys u in hand.unkeyed (subst P z m)

    number_on : (j q : ℕ) → j ≢ k → HasNumber regions j q → HasNumber new j q
    number_on j q d h = ap (option_map (λ (z : Record). z.number)) (hand.stay j d) ∙ h

    left_on : (j : ℕ) → Has keys j → IsLeft c.heap t new key j
    left_on j m = elim (hand.each j m) [
      | inl n ↦
          let v = i.left j (inr n) in (
            v.0,
            number_on j v.0 (not_first j m) v.1,
            elim (v.2) [
              | inl z ↦ inl z
              | inr z ↦ inr
                  (z.0, z.1, gone_on z.0 z.2)
            ],
          )
      | inr n ↦ (
        n.0,
        number_on j n.0 (not_first j m) n.1,
        inr
            (rec.number, parent_was c t cells regions g i.hardened rec.number n.0 n.2, gone_first),
      )
    ]

    hardened_on : Hardened c t done new
    hardened_on = record {
      records = λ j. elim (cases_eq j k) [
        | inl z ↦ inr (ap (record_at new) z ∙ hand.gone)
        | inr d ↦ elim (i.hardened.records j) [ inl y ↦ inl (hand.stay j d ∙ y) | inr y ↦ inr (hand.stay j d ∙ y) ]
      ];
      froze = λ q s a l. elim (gone_back q a) [
        | inl b ↦
            let f = i.hardened.froze q s b l in
            let G : ℕ → Type 0 = λ u. IsGone t regions u in
            let off : LiesIn cells.heap rec.number s
            → ⊥ = λ y. here (subst G (one_region c.heap s q rec.number l (was rec.number s y)) b) in
            let x = hard.others s off in
            (x.0 ∙ f.0, x.1 ∙ f.1, x.2 ∙ f.2)
        | inr z ↦
            let L : ℕ → Type 0 = λ u. LiesIn c.heap u s in
            let m = subst L z l in
            let x = same_here c t cells regions g i.hardened rec.number s here m in
            let f = hard.froze s (lies_on c t cells regions g i.hardened rec.number s here m) in
            (f.0 ∙ ap (labelled Frozen) x.0, f.1, f.2 ∙ x.2)
      ];
      others = λ s n.
          let a = i.hardened.others s (λ q b l. n q (gone_on q b) l) in
          let b = hard.others s (λ l. n rec.number gone_first (was rec.number s l)) in
          (b.0 ∙ a.0, b.1 ∙ a.1, b.2 ∙ a.2);
      serials = hard.serials ∙ i.hardened.serials;
      high = hard.high ∙ i.hardened.high;
      numbers = hand.numbers ∙ i.hardened.numbers;
    }

    pub freezing_turn : Freezing c t key done new keys
    freezing_turn = record {
      hardened = hardened_on;
      below = gone_below;
      left = left_on;
      first = λ q h. goes_on q (i.first q h);
      children = λ p q a b. elim (gone_back p b) [
        | inl x ↦ goes_on q (i.children p q a x)
        | inr z ↦ let P : ℕ → Type 0 = λ u. Parent c.heap u q in child_goes q (subst P z a)
      ];
      links = λ j n.
          let d : j ≢ k = λ z. let P : ℕ
          → Type 0 = λ u. HasNumber t u rec.number in n rec.number first_below (subst P (sym z) number_first) in
          let m : Has keys j → ⊥ = λ y.
          let v = left_on j y in
          let h : HasNumber regions j v.0 = ap (option_map (λ (z : Record). z.number)) (sym (hand.stay j d)) ∙ v.1 in
          let has = number_was c t cells regions g i.hardened j v.0 h in
          n v.0 (left_below j v.0 has (elim (v.2) [ inl z ↦ inl z | inr z ↦ inr (z.0, z.1, gone_below z.0 z.2) ]))
          has in
          hand.apart j d m ∙ i.links j n;
    }

-- no key is left
module _ (c : Table) (t : RegionTable) (key : ℕ) (cells : Table) (regions : RegionTable) (g : Grove c t)
    (i : Freezing c t key cells regions []) where
  goes_gone : (q : ℕ) → Goes t regions [] q → IsGone t regions q
  goes_gone q a = elim a [ inl b ↦ b | inr b ↦ absurd b.2 ]

  child_gone : (p q : ℕ) → Parent c.heap p q → IsGone t regions p → IsGone t regions q
  child_gone p q a b = goes_gone q (i.children p q a b)

  beneath_gone : (p q : ℕ) → IsGone t regions p → Above c.heap p q → IsGone t regions q
  beneath_gone p q a (direct b) = child_gone p q b a
  beneath_gone p q a (further {q = m} b x) = child_gone m q x (beneath_gone p m a b)

  all_gone : (q : ℕ) → BelowKey c.heap t key q → IsGone t regions q
  all_gone q b =
      let top = goes_gone b.0 (i.first b.0 b.1) in
      elim (b.2) [
        | inl z ↦ let G : ℕ → Type 0 = λ u. IsGone t regions u in subst G (sym z) top
        | inr z ↦ beneath_gone b.0 q top z.1
      ]

  pub cells_freeze : CellsFreeze c t cells key
  cells_freeze = λ q s b l. i.hardened.froze q s (all_gone q b) l

  pub cells_stay : CellsStay c t cells key
  cells_stay = λ s n. i.hardened.others s (λ q a l. n q (i.below q a) l)

  pub records_go : RecordsGo c.heap t regions key
  records_go = λ k q b h. let a = all_gone q b in ap (record_at regions) (g.numbers k a.0 q h a.1) ∙ a.2

  pub records_stay : RecordsStay c.heap t regions key
  records_stay = λ k n. (
    elim (i.hardened.records k) [ inl e ↦ e | inr e ↦ e ∙ sym (none_before k n e (record_at t k) refl) ],
    i.links k n,
  )
    where
      none_before : (k : ℕ) → ((q : ℕ) → BelowKey c.heap t key q → HasNumber t k q → ⊥) → record_at regions k ≡ None
          → (o : Option Record) → record_at t k ≡ o → record_at t k ≡ None
      none_before k n e None f = f
      none_before k n e (Some z) f = let h = number_of t k z.number z f refl in absurd (n z.number (i.below z.number
          (k, h, e)) h)

  pub grove_kept : Grove cells regions
  grove_kept = grove_frozen c t cells regions g i.hardened child_gone
