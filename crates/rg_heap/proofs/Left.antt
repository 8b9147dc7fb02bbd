-- A window is left: its temporaries go, and the regions that they own (docs/architecture.md, "The heap").
use Rattle.std.proofs.Common.{◌≡◌, ◌≢◌, ◌==◌, arith, ℕ, zero, suc, List, [], ◌∷◌, Option, Some, None, length}
use Rattle.std.proofs.Common.{refl, ap, sym, ◌∙◌, subst, ◌⊎◌, inl, inr, slice_get, option_map, true, false}
use Rattle.std.proofs.lemmas.Bool.{cases_eq, eqb-true}
use Rattle.std.proofs.lemmas.Option.{slice_get_within, same_Some}
use Rattle.rg_base.specs.declared.object.Label.{Label}
use Rattle.rg_base.specs.declared.object.Label.TheVariants.{Region, Temp, Frozen}
use Rattle.rg_base.specs.declared.value.Word.{Word}
use Rattle.rg_base.specs.declared.value.Word.TheVariants.{Slot}
use Rattle.rg_base.proofs.Callers.Labels.{region-same}
use Rattle.rg_cells.specs.declared.cell.Body.{Body}
use Rattle.rg_cells.specs.Table.{Heap, Table, IsHeld, body_at, field_at, label_at, mark_at}
use Rattle.rg_regions.specs.Table.{RegionTable, HasNumber, Has}
use Rattle.rg_regions.specs.Reach.{LiesIn}
use Rattle.rg_regions.specs.Grove.{Grove, Below, referrers}
use Rattle.rg_regions.proofs.Callers.Told.{one_number, labelled_held}
use Rattle.rg_regions.proofs.Callers.Fewer.{label_before, field_before, above_before, belongs_not, total_alike, weight, weighs_none}
use Rattle.rg_release.specs.Released.{Unowned, BelowOne}
use Rattle.rg_frames.specs.Stack.{Stack}
use Rattle.rg_heap.specs.Parts.{Parts}
use Rattle.rg_heap.specs.Answers.{IsClosed}
use Rattle.rg_heap.specs.Ends.{IsTemp}
use Rattle.rg_heap.specs.Ends.{Released, CanLeave, GoesAlong, OwnedByOne, IsTopTemp, NoCell, top_temps}
use Rattle.rg_heap.specs.Inner.Chains.{Chains, ChainsCells, FirstFreed, Gone, OwnedBefore, OwnsOnce}
use Rattle.rg_heap.proofs.OwnedChained.{number_on}
use Rattle.rg_heap.proofs.Comes.{grove_same, same_cells}
use Rattle.rg_heap.proofs.Ended.{gone_on, same_records}

pub temp_apart : (h : Heap) (s q : ℕ) → IsTemp h s → LiesIn h q s → ⊥
temp_apart h s q a l = let z : Some (Temp a.0) ≡ Some (Region q) = sym a.1 ∙ l in cc

pub temp_held : (h : Heap) (s : ℕ) → IsTemp h s → IsHeld h s
temp_held h s a = labelled_held h s (Temp a.0) a.1

-- a slot is as it was, or its temporary is gone
abbrev pub StaysOrEnds : Table → Table → ℕ → Type 0
StaysOrEnds c cells s =
    ((body_at cells.heap s ≡ body_at c.heap s) × (mark_at cells s ≡ mark_at c s))
    ⊎ (IsTemp c.heap s × (body_at cells.heap s ≡ None) × (mark_at cells s ≡ 0))

module _ (c cells : Table) (t : RegionTable) (w : (s : ℕ) → StaysOrEnds c cells s) where
  sub : (s : ℕ) → (body_at cells.heap s ≡ body_at c.heap s) ⊎ (body_at cells.heap s ≡ None)
  sub s = elim (w s) [ inl a ↦ inl a.0 | inr a ↦ inr a.1 ]

  lay : (s : ℕ) (l : Label) → label_at cells.heap s ≡ Some l → label_at c.heap s ≡ Some l
  lay s l e = label_before c.heap cells.heap s l (sub s) e

  had : (s k : ℕ) (v : Word) → field_at cells.heap s k ≡ Some v → field_at c.heap s k ≡ Some v
  had s k v f = field_before c.heap cells.heap s k v (sub s) f

  lies_on : (q s : ℕ) → LiesIn c.heap q s → LiesIn cells.heap q s
  lies_on q s l = elim (w s) [
    | inl a ↦ ap (option_map (λ (b : Body). b.label)) a.0 ∙ l
    | inr a ↦ absurd (temp_apart c.heap s q a.0 l)
  ]

  ice_on : (s : ℕ) → label_at c.heap s ≡ Some Frozen → label_at cells.heap s ≡ Some Frozen
  ice_on s l = elim (w s) [
    | inl a ↦ ap (option_map (λ (b : Body). b.label)) a.0 ∙ l
    | inr a ↦ let x = a.0 in let z : Some (Temp x.0) ≡ Some Frozen = sym x.1 ∙ l in cc
  ]

  mark_on : (q s : ℕ) → LiesIn c.heap q s → mark_at cells s ≡ mark_at c s
  mark_on q s l = elim (w s) [ inl a ↦ a.1 | inr a ↦ absurd (temp_apart c.heap s q a.0 l) ]

  referrers_on : (q s : ℕ) → referrers cells.heap q s ≡ referrers c.heap q s
  referrers_on q s = total_alike (weight q s) refl c.heap.slots cells.heap.slots (λ n. elim (w n) [
    | inl a ↦ ap (weight q s) a.0
    | inr a ↦
        ap (weight q s) a.1
        ∙ sym (weighs_none q s (body_at c.heap n) (belongs_not q (body_at c.heap n) (λ l. temp_apart c.heap n q a.0 l)))
  ])

  pub grove_ended : Grove c t → Grove cells t
  grove_ended g = record {
    numbers = g.numbers;
    members = λ k z e.
        let m = g.members k z e in
        record {
          lie = λ i s x. lies_on z.number s (m.lie i s x);
          all = λ s l. m.all s (lay s (Region z.number) l);
          once = m.once;
        };
    bridges = λ k s z e x. lies_on z.number s (g.bridges k s z e x);
    labels = λ q s l. g.labels q s (lay s (Region q) l);
    frozen = λ s k to l f. ice_on to (g.frozen s k to (lay s Frozen l) (had s k (Slot to) f));
    fields = λ p s k to l f. elim (g.fields p s k to (lay s (Region p) l) (had s k (Slot to) f)) [
      | inl x ↦ inl (ice_on to x)
      | inr x ↦ elim x [
        | inl y ↦ inr (inl (lies_on p to y))
        | inr y ↦ inr (inr (y.0, y.1, lies_on y.0 to y.2, y.3))
      ]
    ];
    one_in = λ q p s k to p2 s2 k2 to2 d l f i d2 l2 f2 i2.
        g.one_in q p s k to p2 s2 k2 to2 d (lay s (Region p) l) (had s k (Slot to) f) (lay to (Region q) i)
        d2 (lay s2 (Region p2) l2) (had s2 k2 (Slot to2) f2) (lay to2 (Region q) i2);
    none_into_first = λ p s k to d l f i.
        g.none_into_first p s k to d (lay s (Region p) l) (had s k (Slot to) f) (lay to (Region 0) i);
    no_cycle = λ r a. g.no_cycle r (above_before c.heap cells.heap sub r r a);
    counts = λ k s z e m l.
        let x = lay s (Region z.number) l in
        mark_on z.number s x ∙ g.counts k s z e m x ∙ sym (referrers_on z.number s);
    unmarked = λ s n. elim (w s) [
      | inl a ↦ a.1 ∙ g.unmarked s (λ k z e m l. n k z e m (lies_on z.number s l))
      | inr a ↦ a.2
    ];
  }

-- whether a slot stands in a list
among : (slots : List ℕ) (s : ℕ) → ((j : ℕ) × (slice_get slots j ≡ Some s)) ⊎ ((j : ℕ) → slice_get slots j ≡ Some s → ⊥)
among [] s = inr (λ j e. cc)
among (x ∷ xs) s = elim (cases_eq x s) [
  | inl e ↦ inl (0, ap Some e)
  | inr d ↦ elim (among xs s) [ inl a ↦ inl (suc a.0, a.1) | inr n ↦ inr (λ j e. not_there j d n e) ]
]
  where
    not_there : (j : ℕ) → x ≢ s → ((j : ℕ) → slice_get xs j ≡ Some s → ⊥) → slice_get (x ∷ xs) j ≡ Some s → ⊥
    not_there zero d n e = d (same_Some x s e)
    not_there (suc j) d n e = n j e

module _ (c : Table) (t : RegionTable) (v : Stack) (g : Grove c t) (a : CanLeave (record { cells = c; regions = t }) v) where
  pub owns_once : OwnsOnce c.heap t v (top_temps v)
  owns_once = record {
    keys = g.numbers;
    once = a.once;
    one = λ q i s k to j s2 k2 to2 d e f l e2 f2 l2.
        a.one_outside q s k to s2 k2 to2 d (temp_apart c.heap s q (a.temps i s e)) f l (temp_apart c.heap s2 q (a.temps j s2 e2)) f2 l2;
  }

  module _ (mid : RegionTable) (head : Option ℕ) (keys : List ℕ) (chains : Chains c.heap t v (top_temps v) (length (top_temps v)) 0 mid head keys)
    where
      number_is : (key q n : ℕ) → Has keys key → HasNumber t key n → (o : ℕ) × (o ≡ n)
          × OwnedBefore c.heap t v (top_temps v) (length (top_temps v)) 0 o
      number_is key q n x e = let b = chains.each key x in (b.0, one_number t key b.0 n b.1 e, b.2)

      pub unowned : Unowned c.heap mid keys
      unowned = record {
        there = λ key x. let b = chains.each key x in (b.0, number_on t mid key b.0 chains.records b.1);
        not_first = λ key x n.
            let b = number_is key 0 0 x (number_on mid t key 0 (sym chains.records) n) in
            let o = b.2 in
            let d = o.closed in
            let P : ℕ → Type 0 = λ z. HasNumber t d.0 z in
            let z : true ≡ false = sym (a.first d.0 (subst P b.1 d.1)) ∙ d.2 in
            cc;
        alone = λ key q p s k to x n d l f i.
            let b = number_is key q q x (number_on mid t key q (sym chains.records) n) in
            let o = b.2 in
            let temp = a.temps o.place o.slot o.stands in
            let C : ℕ → Type 0 = λ z. IsClosed t v z in
            let L : ℕ → Type 0 = λ z. LiesIn c.heap z o.to in
            let same = a.one_outside q s k to o.slot o.field o.to (subst C b.1 o.closed) (λ y. d (lies_one s p q l y)) f i
            (temp_apart c.heap o.slot q temp) o.leads (subst L b.1 o.lies) in
            let T : ℕ → Type 0 = λ z. LiesIn c.heap p z in
            temp_apart c.heap o.slot p temp (subst T same.0 l);
      }
        where
          lies_one : (s p q : ℕ) → LiesIn c.heap p s → LiesIn c.heap q s → p ≡ q
          lies_one s p q x y = region-same p q (sym x ∙ y)

      -- what goes along is below a key of the chain, and the other way round
      pub below_one : (q : ℕ) → GoesAlong (record { cells = c; regions = t }) v q → BelowOne c.heap t keys q
      below_one q x =
          let o = x.1 in
          let d = o.closed in
          record {
            key = d.0;
            top = x.0;
            one = chains.all d.0 x.0 d.1 (record {
              closed = d;
              place = o.place;
              slot = o.slot;
              field = o.field;
              to = o.to;
              before = inl (slice_get_within (top_temps v) o.place o.slot o.stands);
              stands = o.stands;
              leads = o.leads;
              lies = o.lies;
            });
            has = d.1;
            below = x.2;
          }

      pub goes_along : (q : ℕ) → BelowOne c.heap t keys q → GoesAlong (record { cells = c; regions = t }) v q
      goes_along q x =
          let b = number_is x.key x.top x.top x.one x.has in
          let o = b.2 in
          let P : ℕ → Type 0 = λ z. OwnedByOne c.heap t v (top_temps v) z in (
            x.top,
            subst P b.1 (record {
              closed = o.closed;
              place = o.place;
              slot = o.slot;
              field = o.field;
              to = o.to;
              stands = o.stands;
              leads = o.leads;
              lies = o.lies;
            }),
            x.below,
          )

      module _ (freed : Table) (regions : RegionTable) (gone : Gone c mid keys freed regions) where
        was_gone : Gone c t keys freed regions
        was_gone = gone_on c t mid keys freed regions chains.records chains.next gone

        temp_stays : (s : ℕ) → IsTemp c.heap s → body_at freed.heap s ≡ body_at c.heap s
        temp_stays s x = (was_gone.stay s (λ q w l. temp_apart c.heap s q x l)).0

        pub temp_on : (s : ℕ) → IsTemp c.heap s → IsTemp freed.heap s
        temp_on s x = (x.0, ap (option_map (λ (b : Body). b.label)) (temp_stays s x) ∙ x.1)

        module _ (cells : Table) (ended : FirstFreed freed (top_temps v) (length (top_temps v)) cells) where
          is_gone : (j s : ℕ) → slice_get (top_temps v) j ≡ Some s → (body_at cells.heap s ≡ None) × (mark_at cells s ≡ 0)
          is_gone j s e = ended.gone j s (slice_get_within (top_temps v) j s e) e

          pub stays_or_ends : (s : ℕ) → StaysOrEnds freed cells s
          stays_or_ends s = elim (among (top_temps v) s) [
            | inl x ↦ let y = is_gone x.0 s x.1 in inr (temp_on s (a.temps x.0 s x.1), y.0, y.1)
            | inr n ↦ inl (ended.others s (λ j l e. n j e))
          ]

          pub grove_left : Grove freed regions → Grove cells regions
          grove_left g = grove_ended freed cells regions stays_or_ends g

          pub released : Released (record { cells = c; regions = t }) (record { cells = cells; regions = regions })
              (GoesAlong (record { cells = c; regions = t }) v) (IsTopTemp v)
          released = record {
            freed = λ q s w l.
                (ended.others s (λ j m e. temp_apart c.heap s q (a.temps j s e) l)).0 ∙ was_gone.freed q s (below_one q w) l;
            ended = λ s w. (is_gone w.0 s w.1).0;
            cells = λ s n m.
                (ended.others s (λ j l e. m (j, e))).0 ∙ (was_gone.stay s (λ q w l. n q (goes_along q w) l)).0;
            removed = λ key q w e. was_gone.removed key q (below_one q w) e;
            records = λ key n. was_gone.records key (λ q w e. n q (goes_along q w) e);
            serials = ended.serials ∙ was_gone.serials;
            high = ended.high ∙ was_gone.high;
            numbers = was_gone.numbers;
          }

pub no_temps : (ts : List ℕ) → (length ts == 0) ≡ true → ts ≡ []
no_temps [] e = refl
no_temps (x ∷ xs) e = let none = eqb-true (length (x ∷ xs)) 0 e in absurd (omega (arith, none))

-- a window that has no temporaries
pub released_none : (p : Parts) (v : Stack) → top_temps v ≡ [] → Released p p (GoesAlong p v) (IsTopTemp v)
released_none p v none = record {
  freed = λ q s w l. absurd (no_temp w.1.place w.1.slot w.1.stands);
  ended = λ s w. absurd (no_temp w.0 s w.1);
  cells = λ s n m. refl;
  removed = λ key q w h. absurd (no_temp w.1.place w.1.slot w.1.stands);
  records = λ key n. refl;
  serials = refl;
  high = refl;
  numbers = refl;
}
  where
    no_temp : (i s : ℕ) → slice_get (top_temps v) i ≡ Some s → ⊥
    no_temp i s is = let z : None ≡ Some s = sym (ap (λ ts. slice_get ts i) none) ∙ is in cc

-- the chain that was made of the temporaries
pub chain_of : (c : Table) (t : RegionTable) (v : Stack) (mid : RegionTable) (head : Option ℕ) (slots : List ℕ) → Grove c t
    → CanLeave (record { cells = c; regions = t }) v → slots ≡ top_temps v → ChainsCells c.heap v slots (length slots) t mid head
    → (keys : List ℕ) × Chains c.heap t v (top_temps v) (length (top_temps v)) 0 mid head keys
chain_of c t v mid head slots g a e w =
    let P : List ℕ → Type 0 = λ z. ChainsCells c.heap v z (length z) t mid head in
    subst P e w (owns_once c t v g a)

pub freed_of : (old new : Table) (v : Stack) (slots : List ℕ) → slots ≡ top_temps v → FirstFreed old slots (length slots) new
    → FirstFreed old (top_temps v) (length (top_temps v)) new
freed_of old new v slots e f = let P : List ℕ → Type 0 = λ z. FirstFreed old z (length z) new in subst P e f

pub grove_chained : (c : Table) (t mid : RegionTable) → Grove c t → mid.records ≡ t.records → mid.next ≡ t.next → Grove c mid
grove_chained c t mid g e n = grove_same c t c mid g (same_cells c c refl) (same_records t mid e n)

-- one region is released
pub released_one : (old new : Parts) (key n : ℕ) → HasNumber old.regions key n → Gone old.cells old.regions (key ∷ []) new.cells new.regions
    → Released old new (Below old.cells.heap old.regions n) NoCell
released_one old new key n has g = record {
  freed = λ q s w l. g.freed q s (below_one q w) l;
  ended = λ s w. absurd w;
  cells = λ s m o. (g.stay s (λ q w l. m q (below q w) l)).0;
  removed = λ k q w a. g.removed k q (below_one q w) a;
  records = λ k m. g.records k (λ q w a. m q (below q w) a);
  serials = g.serials;
  high = g.high;
  numbers = g.numbers;
}
  where
    below_one : (q : ℕ) → Below old.cells.heap old.regions n q → BelowOne old.cells.heap old.regions (key ∷ []) q
    below_one q w = record { key = key; top = n; one = inl refl; has = has; below = w }

    below : (q : ℕ) → BelowOne old.cells.heap old.regions (key ∷ []) q → Below old.cells.heap old.regions n q
    below q w = elim w.one [
      | inl e ↦
          let N : ℕ → Type 0 = λ z. HasNumber old.regions z w.top in
          let P : ℕ → Type 0 = λ z. Below old.cells.heap old.regions z q in
          subst P (one_number old.regions key w.top n (subst N e w.has) has) w.below
      | inr e ↦ absurd e
    ]
