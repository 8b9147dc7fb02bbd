-- What is read of a closed region that was loaded is the cargo (docs/architecture.md, "Cargo").
use Rattle.std.proofs.Common.{◌≡◌, ℕ, ◌<◌, ◌≤◌, List, [], ◌∷◌, length, map, Option, Some, None, slice_get, sum_by, cond, refl, sym, ap}
use Rattle.std.proofs.Common.{◌∙◌, subst, arith}
use Rattle.std.specs.Prelude.{slice_index, is_some, count_by}
use Rattle.std.specs.List.{range_with_len}
use Rattle.std.proofs.lemmas.List.Sums.{sum_by-cons}
use Rattle.std.proofs.lemmas.Option.{slice_get_within, get_or_from_slice_get}
use Rattle.rg_base.specs.declared.object.Seen.{Seen}
use Rattle.rg_base.specs.declared.words.Manager.{Manager}
use Rattle.rg_base.specs.declared.value.Val.{Val}
use Rattle.rg_base.specs.declared.value.Val.TheVariants.{Nil, Int, Bool, Obj}
use Rattle.rg_cells.specs.declared.cell.Body.{Body}
use Rattle.rg_cells.specs.Table.{Table, body_at, one, total, high_of}
use Rattle.rg_regions.specs.Table.{RegionTable}
use Rattle.rg_regions.specs.Grove.{Grove}
use Rattle.rg_regions.proofs.Callers.Shares.{has_place, distinct_by, share, sum-agree, parted-le}
use Rattle.rg_cown.specs.declared.cargo.CargoCell.{CargoCell}
use Rattle.rg_cown.specs.Cargo.{CargoList, SoundCargo}
use Rattle.rg_cown.specs.Contents.{Reading, read_on, from_object, by_slot, seen_in, manager_in, cargo_at}
use Rattle.rg_cown.specs.Loads.{word_in, Loaded}
use Rattle.rg_cown.specs.Cargo.{label_from}
use Rattle.rg_cown.proofs.GroveLoaded.{there_is}
use Rattle.rg_cown.proofs.Renamed.{Renames, other_value, other_object, other_reading, reading_on}
use Rattle.rg_cown.proofs.SoundParts.{in_range}
use Rattle.rg_loaded.specs.Back.{LoadedBack, ImageComesBack}
use Rattle.rg_image.specs.ImageText.{image_text}
use Rattle.rg_loaded.proofs.Managed.{manager-of, managers-from}
use Rattle.rg_loaded.proofs.ReadBack.{counted-from, listed, so-far, read-back}

-- Slots

held-high : (xs : List (Option (Option Body))) → total one xs ≤ count_by is_some xs
held-high [] = omega arith
held-high (None ∷ xs) =
    let n = sum_by-cons (λ (z : Option (Option Body)). cond (is_some z) 1 0) None xs in
    let l = held-high xs in
    omega (arith, n, l)
held-high (Some None ∷ xs) =
    let n = sum_by-cons (λ (z : Option (Option Body)). cond (is_some z) 1 0) (Some None) xs in
    let l = held-high xs in
    omega (arith, n, l)
held-high (Some (Some b) ∷ xs) =
    let n = sum_by-cons (λ (z : Option (Option Body)). cond (is_some z) 1 0) (Some (Some b)) xs in
    let l = held-high xs in
    omega (arith, n, l)

ones : (xs : List ℕ) → sum_by (λ x. 1) xs ≡ length xs
ones [] = refl
ones (x ∷ xs) = let n = sum_by-cons (λ (z : ℕ). 1) x xs in let l = ones xs in omega (arith, n, l)

-- Words

module _ (slots : List ℕ) where
  abbrev pub slot-at : ℕ → ℕ
  slot-at k = slice_index slots k

  value-at : (v : Val) → by_slot (word_in slots v) ≡ other_value slot-at v
  value-at Nil = refl
  value-at (Int i) = refl
  value-at (Bool b) = refl
  value-at (Obj a) = refl

  values-at : (vs : List Val) → map by_slot (map (word_in slots) vs) ≡ map (other_value slot-at) vs
  values-at [] = refl
  values-at (v ∷ vs) =
      ap (λ z. z ∷ map by_slot (map (word_in slots) vs)) (value-at v) ∙ ap (λ zs. other_value slot-at v ∷ zs) (values-at vs)

-- What came

module _ (c : CargoList) (bridge : ℕ) (old new : Table) (t u : RegionTable) (s : SoundCargo c) (w : Loaded c bridge old t new u) where
  slot-of : (k : ℕ) → k < length c.cells → (x : ℕ) × (slice_get w.slots k ≡ Some x)
  slot-of k l = let m = w.cells_are.many in there_is w.slots k (omega (arith, l, m))

  slot-is : (k x : ℕ) → slice_get w.slots k ≡ Some x → slot-at w.slots k ≡ x
  slot-is k x e = get_or_from_slice_get w.slots k x 0 e

  body-held : (k x : ℕ) → slice_get w.slots k ≡ Some x → one (body_at new.heap x) ≡ 1
  body-held k x e =
      let l = slice_get_within w.slots k x e in
      let m = w.cells_are.many in
      let o = there_is c.cells k (omega (arith, l, m)) in
      ap one (w.cells_are.bodies k x o.0 e o.1)

  -- each object has a slot of its own, so no more are read than slots were ever held
  few : length c.cells ≤ high_of new.heap
  few =
      let all = parted-le one refl new.heap.slots w.slots (distinct_by w.slots w.cells_are.once) in
      let each = sum-agree (share one new.heap.slots) (λ x. 1) w.slots
      (λ x h. let p = has_place w.slots x h in body-held p.0 x p.1) in
      let n = ones w.slots in
      let l = held-high new.heap.slots in
      let m = w.cells_are.many in
      omega (arith, all, each, n, l, m)

  -- the cells are the objects of the list, which go by their slots
  renamed : Renames (slot-at w.slots) (λ k. k < length c.cells) (listed t.next c.cells) (λ x. seen_in (body_at new.heap x))
  renamed = record {
    differ = λ x y p q e.
        let a = slot-of x p in
        let b = slot-of y q in
        let same : a.0 ≡ b.0 = sym (slot-is x a.0 a.1) ∙ e ∙ slot-is y b.0 b.1 in
        w.cells_are.once x y b.0 (a.1 ∙ ap Some same) b.1;
    same = λ x p.
        let a = slot-of x p in
        let o = there_is c.cells x p in
        let shown : List Val → Seen = λ vs. record { class = o.0.class; fields = vs; label = label_from t.next o.0.label } in
        ap (λ z. seen_in (body_at new.heap z)) (slot-is x a.0 a.1)
        ∙ ap seen_in (w.cells_are.bodies x a.0 o.0 a.1 o.1)
        ∙ ap shown (values-at w.slots o.0.fields)
        ∙ sym (ap (λ z. other_object (slot-at w.slots) (counted-from t.next z)) o.1);
    on = λ x k b p e.
        let o = there_is c.cells x p in
        let P : Option CargoCell → Type 0 = λ z. slice_get ((λ (y : Seen). y.fields) (counted-from t.next z)) k ≡ Some (Obj b) in
        in_range c x k b s (record { cell = o.0; there = o.1; value = subst P o.1 e });
  }

  managers-are : Grove new u → map (manager_in u.records) (range_with_len t.next (length c.managers)) ≡ c.managers
  managers-are g = managers-from (manager_in u.records) t.next c.managers (λ i m at.
      let l = slice_get_within c.managers i m at in
      let many = w.regions_are.many in
      let key = there_is w.keys i (omega (arith, l, many)) in
      let r = w.regions_are.records i key.0 m key.1 at in
      ap (manager_in u.records) (sym r.2) ∙ manager-of u key.0 r.0 g.numbers r.1 ∙ r.3)

  pub content-is : Grove new u → cargo_at new.heap u bridge ≡ c
  content-is g =
      let f = slot-at w.slots in
      let other : ℕ → Seen = λ x. seen_in (body_at new.heap x) in
      let most = high_of new.heap in
      let first : f 0 ≡ bridge = slot-is 0 bridge w.first in
      let some = slice_get_within w.slots 0 bridge w.first in
      let many = w.cells_are.many in
      let read = reading_on f (λ k. k < length c.cells) (listed t.next c.cells) other most (from_object 0) renamed
      (omega (arith, some, many), tt) in
      let whole = so-far t.next (length c.cells) (length c.managers) c.cells in
      let content : Reading → CargoList = λ z. record { cells = z.cells; managers = map (manager_in u.records) z.regions } in
      let managed : List Manager → CargoList = λ z. record { cells = c.cells; managers = z } in
      ap (λ z. content (read_on other most (from_object z))) (sym first)
      ∙ ap content (read ∙ ap (other_reading f) (read-back t.next most c s few))
      ∙ ap managed (managers-are g)

pub loaded-back : LoadedBack
loaded-back c slot cells regions s w = content-is c slot w.old_cells cells w.old_regions regions s w.loaded w.grove

pub image-comes-back : ImageComesBack
image-comes-back t bytes c slot cells regions i w =
    ap (λ z. image_text (Some z)) (loaded-back c slot cells regions i.fits.0 w) ∙ sym i.text
