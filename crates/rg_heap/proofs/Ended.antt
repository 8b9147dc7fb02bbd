-- Cells that are freed, and regions that are released (docs/architecture.md, "The heap").
use Rattle.std.proofs.Common.{◌≡◌, ◌≢◌, ℕ, ◌+◌, ◌<◌, List, [], ◌∷◌, Option, Some, None, IsSome, get_or, set, length}
use Rattle.std.proofs.Common.{refl, ap, sym, ◌∙◌, subst, ◌⊎◌, inl, inr, slice_get, arith, option_map}
use Rattle.std.proofs.lemmas.Bool.{cases_eq, cases_lt}
use Rattle.std.proofs.lemmas.List.{get_or-set_other, get_or-set_same}
use Rattle.std.proofs.lemmas.Option.{same_Some}
use Rattle.rg_cells.specs.declared.cell.Body.{Body}
use Rattle.rg_cells.specs.Table.{Heap, Table, IsHeld, body_at, body_in, mark_at, freed_from}
use Rattle.rg_cells.proofs.SerialsKept.{none_at}
use Rattle.rg_regions.specs.Table.{Record, RegionTable, record_at, HasNumber, IsKey, Has, Chained}
use Rattle.rg_regions.specs.Grove.{Below}
use Rattle.rg_regions.proofs.Callers.Freed.{zero_here, count-freed, held_once}
use Rattle.rg_release.specs.Released.{Unowned, BelowOne, CellsGo, CellsStay}
use Rattle.rg_heap.specs.Changes.{SameRecords}
use Rattle.rg_heap.proofs.OwnedChained.{number_on}
use Rattle.rg_heap.specs.Inner.Chains.{FirstFreed, Gone}

-- the next one is still held
pub still_held : (old t : Table) (slots : List ℕ) (i s : ℕ) → ((i j s : ℕ) → slice_get slots i ≡ Some s → slice_get slots j ≡ Some s → i ≡ j)
    → slice_get slots i ≡ Some s → IsHeld old.heap s → FirstFreed old slots i t → IsHeld t.heap s
still_held old t slots i s once stands held f =
    let P : Option Body → Type 0 = λ o. IsSome o in
    subst P (sym (f.others s (λ j l e. let d : j ≡ i = once j i s e stands in omega (arith, l, d))).0) held

pub freed_more : (old t : Table) (slots : List ℕ) (i s : ℕ) → ((i j s : ℕ) → slice_get slots i ≡ Some s → slice_get slots j ≡ Some s → i ≡ j)
    → slice_get slots i ≡ Some s → IsHeld old.heap s → FirstFreed old slots i t → FirstFreed old slots (i + 1) (freed_from t s)
freed_more old t slots i s once stands held f =
    let here : body_at (freed_from t s).heap s ≡ None = none_at t.heap.slots s in
    let here0 : mark_at (freed_from t s) s ≡ 0 = zero_here t.marks s in
    let there : (x : ℕ) → x ≢ s → body_at (freed_from t s).heap x ≡ body_at t.heap x =
    λ x d. ap body_in (get_or-set_other t.heap.slots s x (Some None) None d) in
    let there0 : (x : ℕ) → x ≢ s → mark_at (freed_from t s) x ≡ mark_at t x = λ x d. get_or-set_other t.marks s x 0 0 d in
    let is_held = still_held old t slots i s once stands held f in
    let o = held_once t.heap s is_held in
    record {
      gone = λ j x l e. elim (cases_eq x s) [
        | inl q ↦ (ap (λ n. body_at (freed_from t s).heap n) q ∙ here, ap (λ n. mark_at (freed_from t s) n) q ∙ here0)
        | inr d ↦ elim (cases_lt j i) [
          | inl m ↦ let g = f.gone j x m e in (there x d ∙ g.0, there0 x d ∙ g.1)
          | inr m ↦
              let q : j ≡ i = omega (arith, l, m) in
              let P : ℕ → Type 0 = λ n. slice_get slots n ≡ Some x in
              absurd (d (same_Some x s (sym (subst P q e) ∙ stands)))
        ]
      ];
      others = λ x n.
          let d : x ≢ s = λ q. let P : ℕ → Type 0 = λ y. slice_get slots i ≡ Some y in n i (omega arith) (subst P (sym q) stands) in
          let g = f.others x (λ j l e. n j (omega (arith, l)) e) in
          (there x d ∙ g.0, there0 x d ∙ g.1);
      serials = f.serials;
      high = count-freed t.heap.slots s o.0 o.1 ∙ f.high;
    }

-- a body is as it was, or there is none
pub gone_sub : (c : Table) (t : RegionTable) (keys : List ℕ) (cells : Table) → CellsGo c t cells keys → CellsStay c t cells keys
    → (s : ℕ) → (body_at cells.heap s ≡ body_at c.heap s) ⊎ (body_at cells.heap s ≡ None)
gone_sub c t keys cells go stay s = by_body (body_at cells.heap s) refl
  where
    by_body : (o : Option Body) → body_at cells.heap s ≡ o → (body_at cells.heap s ≡ body_at c.heap s) ⊎ (body_at cells.heap s ≡ None)
    by_body None e = inr e
    by_body (Some b) e = inl (stay s (λ q w l. let z : None ≡ Some b = sym (go q s w l) ∙ e in cc)).0

-- nothing goes with no key
pub gone_none : (c : Table) (t : RegionTable) (keys : List ℕ) → keys ≡ [] → Gone c t keys c t
gone_none c t keys e = record {
  freed = λ q s w l. absurd (none q w);
  removed = λ k q w n. absurd (none q w);
  stay = λ s n. (refl, refl, refl);
  records = λ k n. refl;
  serials = refl;
  high = refl;
  numbers = refl;
}
  where
    none : (q : ℕ) → BelowOne c.heap t keys q → ⊥
    none q w = let P : List ℕ → Type 0 = λ ks. Has ks w.key in subst P e w.one

pub key_there : (t : RegionTable) (key n : ℕ) → HasNumber t key n → IsKey t key
key_there t key n a = by_record (record_at t key) a
  where
    by_record : (o : Option Record) → option_map (λ (r : Record). r.number) o ≡ Some n → IsSome o
    by_record None e = cc
    by_record (Some r) e = refl

-- what is said of records stays where they stay
pub below_on : (h : Heap) (old new : RegionTable) (top q : ℕ) → new.records ≡ old.records → Below h old top q → Below h new top q
below_on h old new top q e b = elim b [
  | inl x ↦ inl x
  | inr x ↦ inr ((x.0.0, number_on old new x.0.0 q e x.0.1), x.1)
]

pub below_one_on : (h : Heap) (old new : RegionTable) (keys : List ℕ) (q : ℕ) → new.records ≡ old.records → BelowOne h old keys q
    → BelowOne h new keys q
below_one_on h old new keys q e w = record {
  key = w.key;
  top = w.top;
  one = w.one;
  has = number_on old new w.key w.top e w.has;
  below = below_on h old new w.top q e w.below;
}

pub unowned_on : (h : Heap) (old new : RegionTable) (keys : List ℕ) → new.records ≡ old.records → Unowned h old keys → Unowned h new keys
unowned_on h old new keys e u = record {
  there = λ key x. let a = u.there key x in (a.0, number_on old new key a.0 e a.1);
  not_first = λ key x n. u.not_first key x (number_on new old key 0 (sym e) n);
  alone = λ key q p s k to x n d l f i. u.alone key q p s k to x (number_on new old key q (sym e) n) d l f i;
}

pub gone_on : (c : Table) (old mid : RegionTable) (keys : List ℕ) (cells : Table) (regions : RegionTable) → mid.records ≡ old.records
    → mid.next ≡ old.next → Gone c mid keys cells regions → Gone c old keys cells regions
gone_on c old mid keys cells regions e n g = record {
  freed = λ q s w l. g.freed q s (below_one_on c.heap old mid keys q e w) l;
  removed = λ k q w a. g.removed k q (below_one_on c.heap old mid keys q e w) (number_on old mid k q e a);
  stay = λ s m. g.stay s (λ q w l. m q (below_one_on c.heap mid old keys q (sym e) w) l);
  records = λ k m.
      g.records k (λ q w a. m q (below_one_on c.heap mid old keys q (sym e) w) (number_on mid old k q (sym e) a))
      ∙ ap (λ (rs : List (Option Record)). get_or rs k None) e;
  serials = g.serials;
  high = g.high;
  numbers = g.numbers ∙ n;
}

pub same_records : (old new : RegionTable) → new.records ≡ old.records → new.next ≡ old.next → SameRecords old new
same_records old new e n = record { records = λ k. ap (λ (rs : List (Option Record)). get_or rs k None) e; next = n }

-- one key is a chain
pub one_chained : (links joins : List (Option ℕ)) (key : ℕ) → joins ≡ set links key None → key < length links → Chained joins (Some key) (key ∷ [])
one_chained links joins key e l = (refl, λ x. x, ap (λ ls. get_or ls key None) e ∙ get_or-set_same links key None None l)
