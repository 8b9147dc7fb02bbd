-- Elements by their places: what is read at one, and what a write needs.
use Rattle.std.proofs.Common.{◌≡◌, ◌<◌, ◌≤◌, ◌^◌, ◌∷◌, [], ℕ, ℤ, pos, negsuc, List, Option, Some, None, IfSome, IfNone, Result}
use Rattle.std.proofs.Common.{Ok, Err, ok_or, length, nat_lt, Bool as Truth, true, false, if◌then◌else◌, slice_get, zero, suc, refl, sym, ap, subst}
use Rattle.std.proofs.Common.{◌∙◌, arith, of_z, w64, SFits}
use Rattle.std.specs.Prelude.{option_and_then}
use Rattle.std.proofs.lemmas.Option.{none-some}
use Rattle.rg_base.specs.declared.object.Seen.{Seen}
use Rattle.rg_base.specs.declared.outcome.Trap.{Trap}
use Rattle.rg_base.specs.declared.outcome.Trap.TheVariants as trap
use Rattle.rg_base.specs.declared.value.Val.{Val}
use Rattle.rg_base.specs.declared.value.Val.TheVariants.{Nil}
use Rattle.rg_base.specs.declared.value.Word.{Word}
use Rattle.rg_base.specs.declared.value.Word.TheVariants as word
use Rattle.rg_rules.specs.Evaluation.{element_place, object_at, place_among}
use Rattle.rg_rules.specs.Values.{as_int}
use Rattle.rg_cells.specs.declared.cell.Body.{Body}
use Rattle.rg_cells.specs.Table.{Heap, body_at, field_at, width}
use Rattle.rg_regions.proofs.Callers.Told.{field_within}
use Rattle.rg_heap.specs.Reads.{Reads}
use Rattle.rg_code.specs.declared.op.Op.TheVariants as i
use Rattle.rg_stack.specs.Effects.{element_in}
use Rattle.rg_machine.specs.Among.{ElementIs, IsAmong, NamesPlace}
use Rattle.rg_machine.specs.Core.{Has}
use Rattle.rg_machine.specs.Cores.{core_of}
use Rattle.rg_machine.specs.Inner.Arrays.{place_behind}
use Rattle.rg_machine.specs.Parts.{Parts, machine_in, val_in}
use Rattle.rg_machine.specs.Stands.{Leads}
use Rattle.rg_machine.proofs.Callers.Word.{Known, word-shown, word-leads}
use Rattle.rg_machine.proofs.Indexed.{element-field, element-given, element-nil, element-none, object-size, place-some, placed, put-there}

-- a number of 64 bits names its bits, or a place that no array has
pub place-of : (z : ℤ) → SFits w64 z → NamesPlace z (of_z w64 z)
place-of (pos k) fits many few = refl
place-of (negsuc k) fits many few =
    let past : nat_lt (of_z w64 (negsuc k)) many ≡ false = grind (arith, fits, few) in
    sym (ap (λ b. if b then Some (of_z w64 (negsuc k)) else None) past)

-- what is no reference has no elements
pub no-object : (p : Parts) (r : Word) (x : Val) → ((s : ℕ) → r ≡ word.Slot s → ⊥) → IsAmong (machine_in p) (val_in p r) x → ⊥
no-object p word.Nil x n a = let e = a.leads in cc
no-object p (word.Int z) x n a = let e = a.leads in cc
no-object p (word.Bool b) x n a = let e = a.leads in cc
no-object p (word.Slot s) x n a = n s refl

-- where no field is, the place is past the width
none-past : (h : Heap) (slot k : ℕ) → field_at h slot k ≡ None → width (body_at h slot) ≤ k
none-past h slot k e = by_body (body_at h slot) e
  where
    past : (ws : List Word) (k : ℕ) → slice_get ws k ≡ None → length ws ≤ k
    past [] k e = omega arith
    past (w ∷ ws) zero e = let no : Some w ≡ None = e in absurd (none-some w (sym no))
    past (w ∷ ws) (suc k) e = let l = past ws k e in omega (arith, l)

    by_body : (o : Option Body) → option_and_then (λ (b : Body). slice_get b.fields k) o ≡ None → width o ≤ k
    by_body None e = omega arith
    by_body (Some b) e = past b.fields k e

-- whether a place is within
within-is : (n many : ℕ) → n < many → nat_lt n many ≡ true
within-is n many t = grind (arith, t)

past-is : (n many : ℕ) → many ≤ n → nat_lt n many ≡ false
past-is n many t = grind (arith, t)

-- a word leads to a slot, and another names a place there
pub record Located (p : Parts) (r x : Word) (slot n : ℕ) : Type 0 where
  pub is : r ≡ word.Slot slot
  pub known : Known p
  pub leads : Leads p.heap p.frames r
  pub few : width (body_at p.heap.cells.heap slot) < 2 ^ 32
  pub names : NamesPlace (as_int (val_in p x)) n

module _ (p : Parts) (r x : Word) (slot n : ℕ) (l : Located p r x slot n) where
  of : (o : Seen) × (object_at (machine_in p).store (val_in p r) ≡ Ok o) × (width (body_at p.heap.cells.heap slot) ≡ length o.fields)
  of = object-size p r slot (width (body_at p.heap.cells.heap slot)) l.is l.known l.leads refl

  named : n < width (body_at p.heap.cells.heap slot) → place_among (width (body_at p.heap.cells.heap slot)) (as_int (val_in p x)) ≡ Some n
  named t =
      l.names (width (body_at p.heap.cells.heap slot)) l.few
      ∙ ap (λ b. if b then Some n else None) (within-is n (width (body_at p.heap.cells.heap slot)) t)

  pub among-at : n < width (body_at p.heap.cells.heap slot) → IsAmong (machine_in p) (val_in p r) (val_in p x)
  among-at t = record {
    object = of.0;
    place = n;
    leads = of.1;
    there = ap (λ m. ok_or (place_among m (as_int (val_in p x))) trap.Index) (sym of.2) ∙ ap (λ q. ok_or q trap.Index) (named t);
  }

  pub place-at : n < width (body_at p.heap.cells.heap slot) → place_behind (machine_in p).store (val_in p r) (val_in p x) ≡ Ok n
  place-at t =
      sym (place-some (machine_in p).store (val_in p r) (val_in p x) (width (body_at p.heap.cells.heap slot)) (as_int (val_in p x)) (Some n) of
      refl (sym (named t)) n refl)

  pub lacks-at : width (body_at p.heap.cells.heap slot) ≤ n → IsAmong (machine_in p) (val_in p r) (val_in p x) → ⊥
  lacks-at t a =
      let none : place_among (width (body_at p.heap.cells.heap slot)) (as_int (val_in p x)) ≡ None =
      l.names (width (body_at p.heap.cells.heap slot)) l.few
      ∙ ap (λ b. if b then Some n else None) (past-is n (width (body_at p.heap.cells.heap slot)) t) in
      let same : a.object ≡ of.0 = ok-same a.object of.0 (sym a.leads ∙ of.1) in
      let e : ◌≡◌ {A = Result ℕ Trap} (Err trap.Index) (Ok a.place) =
      sym (ap (λ q. ok_or q trap.Index) none)
      ∙ ap (λ m. ok_or (place_among m (as_int (val_in p x))) trap.Index) (of.2 ∙ ap (λ (o : Seen). length o.fields) (sym same))
      ∙ a.there in
      cc
    where
      ok-same : (a b : Seen) → ◌≡◌ {A = Result Seen Trap} (Ok a) (Ok b) → a ≡ b
      ok-same a b e = cc

  -- what is read
  pub element-some : (o : Option Word) → o ≡ field_at p.heap.cells.heap slot n
      → (IsAmong (machine_in p) (val_in p r) (val_in p x)
      → Has i.Element (record (core_of p) { stack = val_in p x ∷ val_in p r ∷ [] }))
      → IfSome o (ElementIs p (val_in p r) (val_in p x))
  element-some None e given = tt
  element-some (Some w) e given =
      let t = field_within p.heap.cells.heap slot n w (sym e) in
      let R : Word → Type 0 = λ y. Reads p.heap.cells.heap y n (Ok w) in
      let reads : Reads p.heap.cells.heap r n (Ok w) = subst R (sym l.is) (w, refl, sym e) in
      let place = place-at t in
      record {
        among = among-at t;
        value = element-field (machine_in p).store (val_in p r) (val_in p x) (val_in p w) n place
            (word-shown p r slot n (Ok w) l.is l.known l.leads reads);
        leads = word-leads p r slot n (Ok w) l.is l.known l.leads
            (element-given (core_of p) (val_in p r) (val_in p x) n (given (among-at t)) place) reads;
      }

  pub element-lacks : (o : Option Word) → o ≡ field_at p.heap.cells.heap slot n
      → IfNone o (IsAmong (machine_in p) (val_in p r) (val_in p x) → ⊥)
  element-lacks (Some w) e = tt
  element-lacks None e = lacks-at (none-past p.heap.cells.heap slot n (sym e))

-- nothing is read where nothing is
pub element-absent : (p : Parts) (r x : Val) → (IsAmong (machine_in p) r x → ⊥) → Nil ≡ element_in (machine_in p).store r x
element-absent p r x n = by (object_at (machine_in p).store r) refl
  where
    by_place : (o : Seen) → object_at (machine_in p).store r ≡ Ok o → (q : Result ℕ Trap) → element_place o x ≡ q
        → Nil ≡ element_in (machine_in p).store r x
    by_place o at (Ok k) e = absurd (n (record { object = o; place = k; leads = at; there = e }))
    by_place o at (Err t) e =
        element-none (machine_in p).store r x t
        (ap (λ (q : Result Seen Trap). elim q [ Ok o ↦ element_place o x | Err t ↦ Err t ]) at ∙ e)

    by : (q : Result Seen Trap) → object_at (machine_in p).store r ≡ q → Nil ≡ element_in (machine_in p).store r x
    by (Err t) at = element-nil (machine_in p).store r x t at
    by (Ok o) at = by_place o at (element_place o x) refl

-- what is put where the instruction has what it needs is put
pub put-there-is : (b : Truth) (p : Parts) (r x w : Word)
    → Has i.PutElement (record (core_of p) { stack = val_in p w ∷ val_in p x ∷ val_in p r ∷ [] })
    → (b ≡ false → (IsAmong (machine_in p) (val_in p r) (val_in p x) → ⊥)) → b ≡ true
put-there-is true p r x w given lacks = refl
put-there-is false p r x w given lacks = absurd (by (place_behind (machine_in p).store (val_in p r) (val_in p x)) refl)
  where
    by : (q : Result ℕ Trap) → place_behind (machine_in p).store (val_in p r) (val_in p x) ≡ q → ⊥
    by (Err t) e = put-there (core_of p) (val_in p r) (val_in p x) (val_in p w) t given e
    by (Ok k) e =
        let a = placed (machine_in p).store (val_in p r) (val_in p x) k e in
        lacks refl (record {
          object = a.object;
          place = k;
          leads = a.there;
          there = sym (ap (λ (q : Result Seen Trap). elim q [ Ok o ↦ element_place o (val_in p x) | Err t ↦ Err t ]) a.there) ∙ e;
        })
