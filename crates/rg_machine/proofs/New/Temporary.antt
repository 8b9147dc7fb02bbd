-- A temporary comes: those of the other windows stay, and it is one of the topmost window.
use Rattle.std.proofs.Common.{◌≡◌, ◌≤◌, ◌<◌, ◌⊎◌, inl, inr, ℕ, ◌+◌, ◌-◌, zero, suc, List, [], ◌∷◌, Some, length, take, slice_get}
use Rattle.std.proofs.Common.{slice_index_or, sym, ap, ◌∙◌, arith}
use Rattle.std.proofs.lemmas.Option.{none-some, slice_get-get_or, slice_get_within}
use Rattle.std.proofs.lemmas.List.{get_or_past, get_or_default, length_push as one-longer}
use Rattle.std.proofs.lemmas.Bool.{cases_lt as order}
use Rattle.rg_base.specs.declared.object.Label.TheVariants.{Temp}
use Rattle.rg_base.proofs.Callers.Lists.{there}
use Rattle.rg_tree.proofs.TreesFrom.{slice_get-push}
use Rattle.rg_sound.proofs.Owners.Owner.{get-take-within}
use Rattle.rg_sound.proofs.Frames.Stands.{snoc-cases as in-front-or}
use Rattle.rg_cells.specs.Table.{IsHeld}
use Rattle.rg_regions.proofs.Callers.Told.{labelled_held}
use Rattle.rg_frames.specs.declared.rows.Window.{Window}
use Rattle.rg_frames.specs.Stack.{Stack}
use Rattle.rg_frames.specs.Changes.{MarksLie, with_temp}
use Rattle.rg_frames.proofs.Unwriting.{got-longer}
use Rattle.rg_heap.specs.Parts.{Parts}
use Rattle.rg_heap.specs.Opened.{IsWindow, IsTempOf}
use Rattle.rg_view.proofs.Callers.Shown.{get-drop, get-take}
use Rattle.rg_machine.specs.Stands.{Stands}

-- Lists by their places

taken-within : {A : Type 0} → (n k : ℕ) (xs : List A) (x : A) → slice_get (take n xs) k ≡ Some x → k < n
taken-within zero k xs x e = absurd (none-some x e)
taken-within (suc n) k [] x e = absurd (none-some x e)
taken-within (suc n) zero (y ∷ xs) x e = omega arith
taken-within (suc n) (suc k) (y ∷ xs) x e = let lt = taken-within n k xs x e in omega (arith, lt)

-- Marks

-- a temporary of the window at a place stands between its mark and the next one
record Between (v : Stack) (i s : ℕ) : Type 0 where
  place : ℕ
  from : slice_index_or v.marks i 0 ≤ place
  to : place < slice_index_or v.marks (i + 1) (length v.temps)
  stands : slice_get v.temps place ≡ Some s

between : (v : Stack) (i s : ℕ) → IsTempOf v i s → Between v i s
between v i s t =
    let begin = slice_index_or v.marks i 0 in
    let end = slice_index_or v.marks (i + 1) (length v.temps) in
    let e : slice_get (take end v.temps) (begin + t.0) ≡ Some s = sym (get-drop begin t.0 (take end v.temps)) ∙ t.1 in
    record {
      place = begin + t.0;
      from = omega arith;
      to = taken-within end (begin + t.0) v.temps s e;
      stands = get-take end (begin + t.0) v.temps s e;
    }

is-temp : (v : Stack) (i s : ℕ) → Between v i s → IsTempOf v i s
is-temp v i s b =
    let begin = slice_index_or v.marks i 0 in
    let end = slice_index_or v.marks (i + 1) (length v.temps) in
    let from = b.from in
    let at : begin + (b.place - begin) ≡ b.place = omega (arith, from) in (
      b.place - begin,
      get-drop begin (b.place - begin) (take end v.temps) ∙ ap (slice_get (take end v.temps)) at
          ∙ get-take-within end v.temps b.place b.to ∙ b.stands,
    )

module _ (v : Stack) (m : MarksLie v) (slot : ℕ) where
  longer : length (with_temp v slot).temps ≡ length v.temps + 1
  longer = one-longer v.temps slot

  -- the next window's mark ends a window's temporaries as before
  same-end : (i : ℕ) → i + 1 < length v.marks
      → slice_index_or v.marks (i + 1) (length v.temps) ≡ slice_index_or v.marks (i + 1) (length (with_temp v slot).temps)
  same-end i lt = get_or_default v.marks (i + 1) (length v.temps) (length (with_temp v slot).temps) lt

  -- a temporary of a window stays one
  pub temp-on : (i s : ℕ) → IsTempOf v i s → IsTempOf (with_temp v slot) i s
  temp-on i s t =
      let b = between v i s t in
      is-temp (with_temp v slot) i s (record {
        place = b.place;
        from = b.from;
        to = elim (order (i + 1) (length v.marks)) [
          | inl lt ↦ (let same = same-end i lt in let to = b.to in omega (arith, same, to))
          | inr le ↦
              let end = get_or_past v.marks (i + 1) (length (with_temp v slot).temps) le in
              let within = slice_get_within v.temps b.place s b.stands in
              let more = longer in
              omega (arith, end, within, more)
        ];
        stands = got-longer v.temps (slot ∷ []) b.place s b.stands;
      })

  -- one that is there now was there, or is the new one, and the window is the topmost
  pub temp-back : (i s : ℕ) → IsTempOf (with_temp v slot) i s → IsTempOf v i s ⊎ ((slot ≡ s) × (length v.marks ≤ i + 1))
  temp-back i s t = by (between (with_temp v slot) i s t)
    where
      by : Between (with_temp v slot) i s → IsTempOf v i s ⊎ ((slot ≡ s) × (length v.marks ≤ i + 1))
      by b = elim (in-front-or v.temps slot s b.place b.stands) [
        | inl was ↦ inl (is-temp v i s (record {
          place = b.place;
          from = b.from;
          to = elim (order (i + 1) (length v.marks)) [
            | inl lt ↦ (let same = same-end i lt in let to = b.to in omega (arith, same, to))
            | inr le ↦
                let end = get_or_past v.marks (i + 1) (length v.temps) le in
                let within = slice_get_within v.temps b.place s was in
                omega (arith, end, within)
          ];
          stands = was;
        }))
        | inr last ↦ elim (order (i + 1) (length v.marks)) [
          | inl lt ↦
              let d = length (with_temp v slot).temps in
              let within = m.within (i + 1) (slice_index_or v.marks (i + 1) d) (slice_get-get_or v.marks (i + 1) d lt) in
              let to = b.to in
              let at = last.0 in
              absurd (omega (arith, within, to, at))
          | inr le ↦ inr (last.1, le)
        ]
      ]

  -- the new one
  pub temp-new : (i : ℕ) → i < length v.marks → length v.marks ≤ i + 1 → IsTempOf (with_temp v slot) i slot
  temp-new i lt le =
      is-temp (with_temp v slot) i slot (record {
        place = length v.temps;
        from = m.within i (slice_index_or v.marks i 0) (slice_get-get_or v.marks i 0 lt);
        to =
            let end = get_or_past v.marks (i + 1) (length (with_temp v slot).temps) le in
            let more = longer in
            omega (arith, end, more);
        stands = slice_get-push v.temps slot;
      })

-- where window 0's temporaries begin at the first one, each is one of a window
module _ (p : Parts) (v : Stack) (st : Stands p v) where
  begins : slice_index_or v.marks 0 0 ≡ 0
  begins = elim (order 0 (length v.marks)) [
    | inl lt ↦ st.first_mark (slice_index_or v.marks 0 0) (slice_get-get_or v.marks 0 0 lt)
    | inr le ↦ get_or_past v.marks 0 0 le
  ]

  among : (k j s : ℕ) → slice_get v.temps j ≡ Some s → k < length v.marks → j < slice_index_or v.marks (k + 1) (length v.temps)
      → (i : ℕ) × (i < length v.marks) × IsTempOf v i s
  among zero j s e lt to =
      let first = begins in
      (0, lt, is-temp v 0 s (record { place = j; from = omega (arith, first); to = to; stands = e }))
  among (suc k) j s e lt to = elim (order j (slice_index_or v.marks (suc k) 0)) [
    | inl less ↦
        let at : suc k ≡ k + 1 = omega arith in
        let same = get_or_default v.marks (suc k) 0 (length v.temps) lt ∙ ap (λ n. slice_index_or v.marks n (length v.temps)) at in
        among k j s e (omega (arith, lt)) (omega (arith, less, same))
    | inr from ↦ (suc k, lt, is-temp v (suc k) s (record { place = j; from = from; to = to; stands = e }))
  ]

  pub temp-of : (j s : ℕ) → slice_get v.temps j ≡ Some s → (i : ℕ) × (w : Window) × IsWindow v i w × IsTempOf v i s
  temp-of j s e =
      let some = st.opened.some in
      let many = st.opened.as_many in
      let last = length v.marks - 1 in
      let within = slice_get_within v.temps j s e in
      let end = get_or_past v.marks (last + 1) (length v.temps) (omega arith) in
      let t = among last j s e (omega (arith, some, many)) (omega (arith, within, end)) in
      let lt = t.1 in
      let w = there v.windows t.0 (omega (arith, lt, many)) in
      (t.0, w.0, w.1, t.2)

  -- so it is held
  pub temp-held : (j s : ℕ) → slice_get v.temps j ≡ Some s → IsHeld p.cells.heap s
  temp-held j s e = let t = temp-of j s e in labelled_held p.cells.heap s (Temp t.1.number) (st.opened.temps t.0 s t.1 t.2 t.3)
