-- A region is collected, and the regions that lost their owner are released (docs/architecture.md, "The heap").
use Rattle.std.proofs.Common.{◌≡◌, ◌≢◌, ℕ, suc, ◌+◌, cond, List, [], ◌∷◌, Option, Some, None}
use Rattle.std.proofs.Common.{refl, ap, sym, ◌∙◌, subst, ◌⊎◌, inl, inr, arith, option_map, option_and_then, slice_get, count_by, is_some, length}
use Rattle.std.proofs.Common.{get_or}
use Rattle.std.proofs.lemmas.Bool.{cases_eq}
use Rattle.std.proofs.lemmas.List.Sums.{sum_by-cons}
use Rattle.std.proofs.lemmas.Option.{same_Some}
use Rattle.rg_base.specs.declared.object.Label.TheVariants.{Region}
use Rattle.rg_base.specs.declared.value.Word.{Word}
use Rattle.rg_base.specs.declared.value.Word.TheVariants.{Slot}
use Rattle.rg_cells.specs.declared.cell.Body.{Body}
use Rattle.rg_cells.specs.Table.{Table, body_at, field_at}
use Rattle.rg_regions.specs.declared.region.Kept.{Kept}
use Rattle.rg_regions.specs.Table.{Record, RegionTable, record_at, HasNumber, Has, Chained}
use Rattle.rg_regions.specs.Reach.{LiesIn, Roots}
use Rattle.rg_regions.specs.Grove.{Grove, Parent, Above, direct, further}
use Rattle.rg_regions.specs.Collection.{Lost, Orphaning, ChainsOrphans, HasManager, OfRegion}
use Rattle.rg_regions.specs.Shrinks.{OneShrinks}
use Rattle.rg_regions.proofs.Callers.Told.{one_number, one_region, lies_or_not, number_of, same_members, lost_parent}
use Rattle.rg_regions.proofs.Callers.Fewer.{label_before, field_before, above_both, above_by, parent_by}
use Rattle.rg_release.specs.Released.{Unowned, BelowOne}
use Rattle.rg_heap.specs.declared.answers.Collected.{Collected as Tells}
use Rattle.rg_heap.specs.Parts.{Parts}
use Rattle.rg_base.specs.declared.words.Manager.{Manager}
use Rattle.rg_base.specs.declared.words.Manager.TheVariants.{Arena, Count, Trace}
use Rattle.rg_regions.specs.Spent.{Spent}
use Rattle.rg_count.specs.Counted.{Counted}
use Rattle.rg_trace.specs.Collected.{Collected}
use Rattle.rg_regions.specs.Reach.{OutOfReach}
use Rattle.rg_heap.specs.Collects.{Collects, CollectsBy, LostBelow, Told}
use Rattle.rg_heap.specs.Inner.Chains.{Gone}
use Rattle.rg_heap.proofs.Ended.{gone_sub}

-- What the chain of the regions that lost their owner rests on. Of other regions the cells stay where they are, and
-- lead where they led; a field of the collected region that leads into another one stood in a cell that didn't go.
pub record Leaves (c : Table) (t : RegionTable) (key : ℕ) (rec : Record) (mid : Table) (tm : RegionTable) (Cell : ℕ → Type 0) : Type 0
  where
    pub own : (now : Record) × (record_at tm key ≡ Some now) × (now.number ≡ rec.number)
    pub records : (k : ℕ) → k ≢ key → record_at tm k ≡ record_at t k
    pub lay : (q s : ℕ) → LiesIn mid.heap q s → LiesIn c.heap q s
    pub stay : (q s : ℕ) → q ≢ rec.number → LiesIn c.heap q s → LiesIn mid.heap q s
    pub fields : (q s k : ℕ) → q ≢ rec.number → LiesIn c.heap q s → field_at mid.heap s k ≡ field_at c.heap s k
    pub led : (q s k to : ℕ) → q ≢ rec.number → LiesIn mid.heap rec.number s → field_at mid.heap s k ≡ Some (Slot to)
        → LiesIn mid.heap q to
        → (x : ℕ) × LiesIn c.heap rec.number x × (field_at c.heap x k ≡ Some (Slot to)) × (Cell x → ⊥)

module _ (c : Table) (t : RegionTable) (key : ℕ) (rec : Record) (mid : Table) (tm : RegionTable) (Cell : ℕ → Type 0) (g : Grove c t)
    (at : record_at t key ≡ Some rec) (w : Leaves c t key rec mid tm Cell) where
  own_number : HasNumber t key rec.number
  own_number = number_of t key rec.number rec at refl

  pub number_back : (k n : ℕ) → HasNumber tm k n → HasNumber t k n
  number_back k n a = elim (cases_eq k key) [
    | inl e ↦
        let P : ℕ → Type 0 = λ z. HasNumber tm z n in
        let N : ℕ → Type 0 = λ z. HasNumber t z n in
        let b = one_number tm key w.own.0.number n (number_of tm key w.own.0.number w.own.0 w.own.1 refl) (subst P e a) in
        subst N (sym e) (number_of t key n rec at (sym w.own.2 ∙ b))
    | inr d ↦ sym (ap (option_map (λ (z : Record). z.number)) (w.records k d)) ∙ a
  ]

  pub number_on : (k n : ℕ) → HasNumber t k n → HasNumber tm k n
  number_on k n a = elim (cases_eq k key) [
    | inl e ↦
        let P : ℕ → Type 0 = λ z. HasNumber t z n in
        let N : ℕ → Type 0 = λ z. HasNumber tm z n in
        let b = one_number t key rec.number n own_number (subst P e a) in
        subst N (sym e) (number_of tm key n w.own.0 w.own.1 (w.own.2 ∙ b))
    | inr d ↦ ap (option_map (λ (z : Record). z.number)) (w.records k d) ∙ a
  ]

  -- the collected region isn't beneath one that lost its owner
  parent_of : (top : ℕ) → Lost c.heap rec.number Cell top → Parent c.heap rec.number top
  parent_of top = lost_parent c.heap rec.number top Cell

  apart : (top q : ℕ) → Lost c.heap rec.number Cell top → (q ≡ top) ⊎ Above c.heap top q → q ≢ rec.number
  apart top q l b e = elim b [
    | inl x ↦ l.other (sym x ∙ e)
    | inr x ↦
        let P : ℕ → Type 0 = λ z. Above c.heap top z in
        g.no_cycle rec.number (above_both c.heap rec.number top rec.number (direct (parent_of top l)) (subst P e x))
  ]

  -- parents, and chains of them, are those that were there
  parent_on : (p q : ℕ) → p ≢ rec.number → q ≢ rec.number → Parent c.heap p q → Parent mid.heap p q
  parent_on p q d n a = record {
    differ = a.differ;
    from = a.from;
    field = a.field;
    to = a.to;
    lies = w.stay p a.from d a.lies;
    leads = w.fields p a.from a.field d a.lies ∙ a.leads;
    child_has = w.stay q a.to n a.child_has;
  }

  parent_back : (p q : ℕ) → Parent mid.heap p q → Parent c.heap p q
  parent_back p q a = elim (cases_eq p rec.number) [
    | inl e ↦
        let L : ℕ → Type 0 = λ z. LiesIn mid.heap z a.from in
        let x = w.led q a.from a.field a.to (λ i. a.differ (e ∙ sym i)) (subst L e a.lies) a.leads a.child_has in
        let M : ℕ → Type 0 = λ z. LiesIn c.heap z x.0 in
        record {
          differ = a.differ;
          from = x.0;
          field = a.field;
          to = a.to;
          lies = subst M (sym e) x.1;
          leads = x.2;
          child_has = w.lay q a.to a.child_has;
        }
    | inr d ↦
        let l = w.lay p a.from a.lies in
        parent_by c.heap mid.heap p q a l (sym (w.fields p a.from a.field d l) ∙ a.leads) (w.lay q a.to a.child_has)
  ]

  above_on : (top q : ℕ) → Lost c.heap rec.number Cell top → Above c.heap top q → Above mid.heap top q
  above_on top q l (direct a) = direct (parent_on top q (apart top top l (inl refl)) (apart top q l (inr (direct a))) a)
  above_on top q l (further {q = m} a b) =
      further (above_on top m l a) (parent_on m q (apart top m l (inr a)) (apart top q l (inr (further a b))) b)

  abbrev old : Parts
  old = record { cells = c; regions = t }

  pub lost_apart : (q : ℕ) → LostBelow old rec.number Cell q → q ≢ rec.number
  lost_apart q x = apart x.0 q x.1 (elim x.2 [ inl e ↦ inl e | inr a ↦ inr a.1 ])

  -- as many regions as before
  pub count_mid : count_by is_some tm.records ≡ count_by is_some t.records
  count_mid = by_records t.records tm.records (λ k. elim (cases_eq k key) [
    | inl e ↦
        let P : ℕ → Type 0 = λ z. is_some (record_at tm z) ≡ is_some (record_at t z) in
        subst P (sym e) (ap is_some w.own.1 ∙ sym (ap is_some at))
    | inr d ↦ ap is_some (w.records k d)
  ])
    where
      head_more : (x : Option Record) (xs : List (Option Record)) → count_by is_some (x ∷ xs) ≡ cond {A = ℕ} (is_some x) 1 0 + count_by is_some xs
      head_more x xs = sum_by-cons (λ y. cond (is_some y) 1 0) x xs

      by_records : (xs ys : List (Option Record)) → ((k : ℕ) → is_some (get_or ys k None) ≡ is_some (get_or xs k None))
          → count_by is_some ys ≡ count_by is_some xs
      by_records [] [] e = refl
      by_records [] (y ∷ ys) e =
          let a = head_more y ys in
          let b : cond {A = ℕ} (is_some y) 1 0 ≡ 0 = ap (λ z. cond {A = ℕ} z 1 0) (e 0) in
          let i : count_by is_some ys ≡ 0 = by_records [] ys (λ k. e (suc k)) in
          a ∙ omega (arith, b, i)
      by_records (x ∷ xs) [] e =
          let a = head_more x xs in
          let b : 0 ≡ cond {A = ℕ} (is_some x) 1 0 = ap (λ z. cond {A = ℕ} z 1 0) (e 0) in
          let i : 0 ≡ count_by is_some xs = by_records xs [] (λ k. e (suc k)) in
          sym (a ∙ omega (arith, b, i))
      by_records (x ∷ xs) (y ∷ ys) e =
          let b : cond {A = ℕ} (is_some y) 1 0 ≡ cond {A = ℕ} (is_some x) 1 0 = ap (λ z. cond {A = ℕ} z 1 0) (e 0) in
          let i = by_records xs ys (λ k. e (suc k)) in
          let j : cond {A = ℕ} (is_some y) 1 0 + count_by is_some ys ≡ cond {A = ℕ} (is_some x) 1 0 + count_by is_some xs = omega (arith, b, i) in
          head_more y ys ∙ j ∙ sym (head_more x xs)

  module _ (links : List (Option ℕ)) (head : Option ℕ) (keys : List ℕ) (o : Orphaning c.heap t rec.number Cell links head keys) where
    -- the region of a key on the chain lost its owner
    lost_one : (k q : ℕ) → Has keys k → HasNumber t k q → Lost c.heap rec.number Cell q
    lost_one k q x a =
        let b = o.each k x in
        let P : ℕ → Type 0 = λ z. Lost c.heap rec.number Cell z in
        subst P (one_number t k b.0 q b.1 a) b.2

    -- no field of another region leads into one that lost its owner
    alone : (q p s j to : ℕ) → Lost c.heap rec.number Cell q → p ≢ q → LiesIn mid.heap p s → field_at mid.heap s j ≡ Some (Slot to)
        → LiesIn mid.heap q to → ⊥
    alone q p s j to y d l f i =
        let one = λ (n m : ℕ) (nd : n ≢ q) (a : LiesIn c.heap n m) (b : field_at c.heap m j ≡ Some (Slot to)).
        g.one_in q n m j to rec.number y.slot y.field y.to nd a b (w.lay q to i) (λ e. y.other (sym e)) y.from y.leads y.lies in
        elim (cases_eq p rec.number) [
          | inl e ↦
              let L : ℕ → Type 0 = λ z. LiesIn mid.heap z s in
              let x = w.led q s j to y.other (subst L e l) f i in
              x.3 (subst Cell (sym (one rec.number x.0 (λ z. y.other (sym z)) x.1 x.2).0) y.gone)
          | inr n ↦
              let a = w.lay p s l in
              let B : ℕ → Type 0 = λ z. LiesIn c.heap p z in
              n (one_region c.heap y.slot p rec.number (subst B (one p s d a (sym (w.fields p s j n a) ∙ f)).0 a) y.from)
        ]

    pub unowned : Unowned mid.heap tm keys
    unowned = record {
      there = λ k x. let b = o.each k x in (b.0, number_on k b.0 b.1);
      not_first = λ k x a.
          let l = lost_one k 0 x (number_back k 0 a) in
          g.none_into_first rec.number l.slot l.field l.to (λ e. l.other (sym e)) l.from l.leads l.lies;
      alone = λ k q p s j to x a. alone q p s j to (lost_one k q x (number_back k q a));
    }

    pub below_one : (q : ℕ) → LostBelow old rec.number Cell q → BelowOne mid.heap tm keys q
    below_one q x =
        let k = g.labels x.0 x.1.to x.1.lies in
        record {
          key = k.0;
          top = x.0;
          one = o.all x.0 k.0 x.1 k.1;
          has = number_on k.0 x.0 k.1;
          below = elim x.2 [
            | inl e ↦ inl e
            | inr a ↦ inr ((a.0.0, number_on a.0.0 q a.0.1), above_on x.0 q x.1 a.1)
          ];
        }

    pub lost_below : (q : ℕ) → BelowOne mid.heap tm keys q → LostBelow old rec.number Cell q
    lost_below q x = (
      x.top,
      lost_one x.key x.top x.one (number_back x.key x.top x.has),
      elim x.below [
        | inl e ↦ inl e
        | inr a ↦ inr ((a.0.0, number_back a.0.0 q a.0.1), above_by c.heap mid.heap parent_back x.top q a.1)
      ],
    )

    module _ (cells : Table) (regions : RegionTable) (n : Gone mid tm keys cells regions) where
      pub own_stays : record_at regions key ≡ record_at tm key
      own_stays = n.records key (λ q x a. lost_apart q (lost_below q x) (one_number t key q rec.number (number_back key q a) own_number))

      pub tells : (number held kept released : ℕ) (m : Manager) (members : List ℕ) → HasNumber t key number → HasManager t key m
          → option_map (λ (z : Record). z.members) (record_at t key) ≡ Some members → held ≡ length members
          → ((now : Record) → record_at tm key ≡ Some now → kept ≡ length now.members)
          → released + count_by is_some regions.records ≡ count_by is_some tm.records
          → Told old (record { cells = cells; regions = regions }) key rec
          (record { region = number; manager = m; held = held; kept = kept; released = released })
      tells number held kept released m members a b d e f h = record {
        region = one_number t key number rec.number a own_number;
        manager = sym b.2 ∙ ap (λ (z : Record). z.manager) (same_Some b.0 rec (sym b.1 ∙ at));
        held = e ∙ ap length (sym (same_members (record_at t key) rec members at d));
        kept = λ now y. f now (sym own_stays ∙ y);
        released = h ∙ count_mid;
      }

-- cells that go, and none that moves, leave it so
module _ (c : Table) (t : RegionTable) (key : ℕ) (rec : Record) (mid : Table) (tm : RegionTable) (Cell : ℕ → Type 0) (g : Grove c t)
    (at : record_at t key ≡ Some rec) (w : OneShrinks c t key rec mid tm)
    (gone : (s : ℕ) → LiesIn c.heap rec.number s → Cell s → body_at mid.heap s ≡ None)
    (freed : (s : ℕ) → LiesIn c.heap rec.number s → body_at mid.heap s ≡ None → Cell s) where
  lay : (q s : ℕ) → LiesIn mid.heap q s → LiesIn c.heap q s
  lay q s l = label_before c.heap mid.heap s (Region q) (w.fewer s) l

  had : (s k : ℕ) (v : Word) → field_at mid.heap s k ≡ Some v → field_at c.heap s k ≡ Some v
  had s k v f = field_before c.heap mid.heap s k v (w.fewer s) f

  same : (q s : ℕ) → q ≢ rec.number → LiesIn c.heap q s → body_at mid.heap s ≡ body_at c.heap s
  same q s d l = (w.others s (λ i. d (one_region c.heap s q rec.number l i))).0

  leaves : Leaves c t key rec mid tm Cell
  leaves = record {
    own = (w.own.0, w.own.1, w.own.2);
    records = w.records;
    lay = lay;
    stay = λ q s d l. ap (option_map (λ (b : Body). b.label)) (same q s d l) ∙ l;
    fields = λ q s k d l. ap (option_and_then (λ (b : Body). slice_get b.fields k)) (same q s d l);
    led = λ q s k to d l f i. (
      s,
      lay rec.number s l,
      had s k (Slot to) f,
      λ x.
          let z : None ≡ Some (Region rec.number) = sym (ap (option_map (λ (b : Body). b.label)) (gone s (lay rec.number s l) x)) ∙ l in
          cc,
    );
  }

  module _ (links : List (Option ℕ)) (head : Option ℕ) (keys : List ℕ) (o : Orphaning c.heap t rec.number Cell links head keys)
      (cells : Table) (regions : RegionTable) (n : Gone mid tm keys cells regions) where
    down : (q : ℕ) → LostBelow (record { cells = c; regions = t }) rec.number Cell q → BelowOne mid.heap tm keys q
    down = below_one c t key rec mid tm Cell g at leaves links head keys o

    up : (q : ℕ) → BelowOne mid.heap tm keys q → LostBelow (record { cells = c; regions = t }) rec.number Cell q
    up = lost_below c t key rec mid tm Cell g at leaves links head keys o

    off : (q : ℕ) → LostBelow (record { cells = c; regions = t }) rec.number Cell q → q ≢ rec.number
    off = lost_apart c t key rec mid tm Cell g at leaves

    collects : Collects (record { cells = c; regions = t }) (record { cells = cells; regions = regions }) key rec Cell
    collects = record {
      freed = λ s l x. elim (gone_sub mid tm keys cells n.freed n.stay s) [ inl e ↦ e ∙ gone s l x | inr e ↦ e ];
      lost = λ q s x l. n.freed q s (down q x) (ap (option_map (λ (b : Body). b.label)) (same q s (off q x) l) ∙ l);
      cells = λ s a b. (n.stay s (λ q x l. b q (up q x) (lay q s l))).0 ∙ elim (w.fewer s) [
        | inl e ↦ e
        | inr e ↦ elim (lies_or_not c.heap rec.number s) [
          | inl out ↦ (w.others s out).0
          | inr l ↦ absurd (a l (freed s l e))
        ]
      ];
      removed = λ k q x a. n.removed k q (down q x) (number_on c t key rec mid tm Cell g at leaves k q a);
      records = λ k d b.
          n.records k (λ q x a. b q (up q x) (number_back c t key rec mid tm Cell g at leaves k q a)) ∙ w.records k d;
      own = (
        w.own.0,
        own_stays c t key rec mid tm Cell g at leaves links head keys o cells regions n ∙ w.own.1,
        w.own.2,
        w.own.3,
        w.own.4,
      );
      serials = n.serials ∙ w.serials;
      high = n.high ∙ w.high;
      numbers = n.numbers ∙ w.numbers;
    }

-- one region was collected: which cells of it went, and which regions are chained
pub record Shrunk (c : Table) (t : RegionTable) (key : ℕ) (rec : Record) (mid : Table) (tm : RegionTable) (Cell : ℕ → Type 0)
    (head : Option ℕ) : Type 0 where
  pub shrinks : OneShrinks c t key rec mid tm
  pub gone : (s : ℕ) → LiesIn c.heap rec.number s → Cell s → body_at mid.heap s ≡ None
  pub freed : (s : ℕ) → LiesIn c.heap rec.number s → body_at mid.heap s ≡ None → Cell s
  pub orphans : ChainsOrphans c.heap t rec.number Cell tm.links head

pub of_counted : (c : Table) (t : RegionTable) (key : ℕ) (rec : Record) (roots : Roots) (mid : Table) (tm : RegionTable) (head : Option ℕ)
    → Counted c t key rec roots mid tm → ChainsOrphans c.heap t rec.number (Spent c.heap rec.number roots) tm.links head
    → Shrunk c t key rec mid tm (Spent c.heap rec.number roots) head
of_counted c t key rec roots mid tm head w o = record {
  shrinks = w.shrinks;
  gone = λ s l x. w.gone s x;
  freed = w.freed;
  orphans = o;
}

pub of_collected : (c : Table) (t : RegionTable) (key : ℕ) (rec : Record) (roots : Roots) (mid : Table) (tm : RegionTable) (head : Option ℕ)
    → Collected c t key rec roots mid tm → ChainsOrphans c.heap t rec.number (OutOfReach c.heap rec.number roots) tm.links head
    → Shrunk c t key rec mid tm (OutOfReach c.heap rec.number roots) head
of_collected c t key rec roots mid tm head w o = record {
  shrinks = w.shrinks;
  gone = w.gone;
  freed = λ s l e x.
      let z : None ≡ Some (Region rec.number) = sym (ap (option_map (λ (b : Body). b.label)) (sym (w.kept s x) ∙ e)) ∙ l in
      cc;
  orphans = o;
}

module _ (c : Table) (t : RegionTable) (key : ℕ) (rec : Record) (mid : Table) (tm : RegionTable) (Cell : ℕ → Type 0) (head : Option ℕ)
    (g : Grove c t) (at : record_at t key ≡ Some rec) (w : Shrunk c t key rec mid tm Cell head) where
  shrunk : Leaves c t key rec mid tm Cell
  shrunk = leaves c t key rec mid tm Cell g at w.shrinks w.gone w.freed

  pub shrunk_chain : (keys : List ℕ) × Chained tm.links head keys × Unowned mid.heap tm keys
  shrunk_chain = (
    w.orphans.0,
    w.orphans.1.chain,
    unowned c t key rec mid tm Cell g at shrunk tm.links head w.orphans.0 w.orphans.1,
  )

  module _ (cells : Table) (regions : RegionTable) (n : (keys : List ℕ) → Chained tm.links head keys → Gone mid tm keys cells regions) where
    pub shrunk_collects : Collects (record { cells = c; regions = t }) (record { cells = cells; regions = regions }) key rec Cell
    shrunk_collects = collects c t key rec mid tm Cell g at w.shrinks w.gone w.freed tm.links head w.orphans.0 w.orphans.1 cells regions
        (n w.orphans.0 w.orphans.1.chain)

    pub shrunk_told : (number held kept released : ℕ) (m : Manager) (members : List ℕ) → HasNumber t key number → HasManager t key m
        → option_map (λ (z : Record). z.members) (record_at t key) ≡ Some members → held ≡ length members
        → ((now : Record) → record_at tm key ≡ Some now → kept ≡ length now.members)
        → released + count_by is_some regions.records ≡ count_by is_some tm.records
        → Told (record { cells = c; regions = t }) (record { cells = cells; regions = regions }) key rec
        (record { region = number; manager = m; held = held; kept = kept; released = released })
    shrunk_told = tells c t key rec mid tm Cell g at shrunk tm.links head w.orphans.0 w.orphans.1 cells regions
        (n w.orphans.0 w.orphans.1.chain)

-- a collection by that manager left of the region of a key what that manager keeps, and tells how much that is
abbrev pub LeftBy : Manager → (c : Table) (t : RegionTable) (key : ℕ) → Record → Roots → (mid : Table) (tm : RegionTable) → Kept → Type 0
LeftBy Arena c t key rec roots mid tm k = ⊥
LeftBy Count c t key rec roots mid tm k =
    Shrunk c t key rec mid tm (Spent c.heap rec.number roots) k.orphans × OfRegion tm key (λ now. k.kept ≡ length now.members)
LeftBy Trace c t key rec roots mid tm k =
    Shrunk c t key rec mid tm (OutOfReach c.heap rec.number roots) k.orphans × OfRegion tm key (λ now. k.kept ≡ length now.members)

pub left_alike : (m n : Manager) (c : Table) (t : RegionTable) (key : ℕ) (rec : Record) (roots : Roots) (mid cells : Table)
    (tm regions : RegionTable) (k l : Kept) → m ≡ n → mid ≡ cells → tm ≡ regions → k ≡ l
    → LeftBy n c t key rec roots cells regions l → LeftBy m c t key rec roots mid tm k
left_alike m n c t key rec roots mid cells tm regions k l a b d e w = rw (a, b, d, e) w

module _ (c : Table) (t : RegionTable) (key : ℕ) (rec : Record) (roots : Roots) (mid : Table) (tm : RegionTable) (k : Kept)
    (g : Grove c t) (at : record_at t key ≡ Some rec) where
  pub left_chain : (m : Manager) → LeftBy m c t key rec roots mid tm k
      → (keys : List ℕ) × Chained tm.links k.orphans keys × Unowned mid.heap tm keys
  left_chain Arena w = absurd w
  left_chain Count w = shrunk_chain c t key rec mid tm _ k.orphans g at w.0
  left_chain Trace w = shrunk_chain c t key rec mid tm _ k.orphans g at w.0

  module _ (cells : Table) (regions : RegionTable)
      (n : (keys : List ℕ) → Chained tm.links k.orphans keys → Gone mid tm keys cells regions)
      (number held released : ℕ) (members : List ℕ) (is : HasNumber t key number)
      (has : option_map (λ (z : Record). z.members) (record_at t key) ≡ Some members) (all : held ≡ length members)
      (count : released + count_by is_some regions.records ≡ count_by is_some tm.records) where
    collects_by : (m : Manager) → rec.manager ≡ m → LeftBy m c t key rec roots mid tm k
        → CollectsBy m (record { cells = c; regions = t }) (record { cells = cells; regions = regions }) key rec roots
        (Some (record { region = number; manager = m; held = held; kept = k.kept; released = released }))
    collects_by Arena e w = absurd w
    collects_by Count e w = (
      _,
      refl,
      shrunk_told c t key rec mid tm _ k.orphans g at w.0 cells regions n number held k.kept released Count members is (rec, at, e)
          has all w.1 count,
      shrunk_collects c t key rec mid tm _ k.orphans g at w.0 cells regions n,
    )
    collects_by Trace e w = (
      _,
      refl,
      shrunk_told c t key rec mid tm _ k.orphans g at w.0 cells regions n number held k.kept released Trace members is (rec, at, e)
          has all w.1 count,
      shrunk_collects c t key rec mid tm _ k.orphans g at w.0 cells regions n,
    )

    -- the manager is the one that was read
    pub collected_by : (m : Manager) → rec.manager ≡ m → LeftBy m c t key rec roots mid tm k
        → CollectsBy rec.manager (record { cells = c; regions = t }) (record { cells = cells; regions = regions }) key rec roots
        (Some (record { region = number; manager = m; held = held; kept = k.kept; released = released }))
    collected_by m e w =
        let told : Tells = record { region = number; manager = m; held = held; kept = k.kept; released = released } in
        let P : Manager → Type 0 = λ z. CollectsBy z (record { cells = c; regions = t }) (record { cells = cells; regions = regions })
        key rec roots (Some told) in
        subst P (sym e) (collects_by m e w)
