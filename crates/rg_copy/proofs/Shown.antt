-- Each turn of rewriting the top window's slots (docs/architecture.md, "A manager that moves its cells").
use Rattle.std.proofs.Common.{◌≡◌, ℕ, ◌+◌, ◌-◌, ◌<◌, suc, List, length, Some, refl, ap, sym, ◌∙◌, subst, arith, slice_get}
use Rattle.std.proofs.Common.{get_or, set, drop, Option, None}
use Rattle.std.proofs.lemmas.Option.{slice_get-get_or}
use Rattle.rg_base.specs.declared.value.Word.{Word}
use Rattle.rg_base.specs.declared.value.Word.TheVariants.{Nil, Int, Bool as Truth, Slot}
use Rattle.rg_frames.specs.declared.rows.Window.{Window}
use Rattle.rg_frames.specs.Stack.{Stack, IsTop}
use Rattle.rg_frames.specs.Changes.{Begun, IsShown, with_shown}
use Rattle.rg_copy.specs.Slid.{base_of}
use Rattle.rg_copy.specs.Inner.Moves.{moved_word, changed_from, ForwardsSlots}
use Rattle.rg_copy.proofs.Words.{from-get, from-set, from-skip, from-length}

-- the top window, and its base
pub top_window : (v : Stack) → Begun v → (w : Window) × IsTop v w
top_window v b =
    let d : Window = record { number = 0; region = 0; owner = None; base = 0 } in
    (get_or v.windows (length v.windows - 1) d, slice_get-get_or v.windows (length v.windows - 1) d (omega (arith, b.1)))

pub base-is : (v : Stack) (w : Window) → IsTop v w → base_of v ≡ w.base
base-is v w t = let F : Option Window → ℕ = λ o. elim o [ None ↦ 0 | Some w ↦ w.base ] in ap F t

-- a word that leads nowhere stays
pub stays_put : (to : ℕ → Option ℕ) (w : Word) → ((s : ℕ) → w ≡ Slot s → ⊥) → moved_word to w ≡ w
stays_put to Nil n = refl
stays_put to (Int i) n = refl
stays_put to (Truth b) n = refl
stays_put to (Slot s) n = absurd (n s refl)

module _ (f : Word → Word) (k : ℕ) (v u : Stack) (b : Begun v) (n : ForwardsSlots f k v u) where
  pub top_now : (w : Window) × IsTop u w × (base_of v ≡ w.base)
  top_now =
      let t = top_window v b in
      let P : List Window → Type 0 = λ ws. slice_get ws (length ws - 1) ≡ Some t.0 in
      (t.0, subst P (sym (ap (λ (z : Stack). z.windows) n)) t.1, base-is v t.0 t.1)

  module _ (shown : List Word) (is : (w : Window) → IsTop u w → shown ≡ drop w.base u.slots) where
    pub shown-is : shown ≡ drop (base_of v) (changed_from f (base_of v) k v.slots)
    shown-is =
        let t = top_now in
        is t.0 t.1 ∙ ap (λ d. drop d u.slots) (sym t.2) ∙ ap (λ (z : Stack). drop (base_of v) z.slots) n

    pub shown-length : length shown ≡ length (drop (base_of v) v.slots)
    shown-length = ap (λ (ws : List Word). length ws) shown-is ∙ from-length f (base_of v) k v.slots

    pub shown-get : k < length (drop (base_of v) v.slots)
        → slice_get (drop (base_of v) v.slots) k ≡ Some (get_or shown k Nil)
    shown-get l =
        let q = shown-length in
        sym (from-get f (base_of v) k v.slots) ∙ ap (λ (ws : List Word). slice_get ws k) (sym shown-is)
        ∙ slice_get-get_or shown k Nil (omega (arith, l, q))

  pub is_shown : k < length (drop (base_of v) v.slots) → IsShown u k
  is_shown l =
      let t = top_now in
      let q : length (drop t.0.base u.slots) ≡ length (drop (base_of v) v.slots) =
      ap (λ d. length (drop d u.slots)) (sym t.2) ∙ ap (λ (z : Stack). length (drop (base_of v) z.slots)) n
      ∙ from-length f (base_of v) k v.slots in
      (t.0, t.1, omega (arith, q, l))

  -- the next word is rewritten, or stays as it is
  pub slots-write : (w : Word) (new : Stack) → slice_get (drop (base_of v) v.slots) k ≡ Some w
      → ((t : Window) → IsTop u t → new ≡ with_shown u t k (f w)) → ForwardsSlots f (k + 1) v new
  slots-write w new e is =
      let t = top_now in
      let b : ℕ = base_of v in
      let one : suc k ≡ k + 1 = omega arith in
      let slots : set u.slots (t.0.base + k) (f w) ≡ changed_from f (base_of v) (k + 1) v.slots =
      ap (λ (z : Stack). set z.slots (t.0.base + k) (f w)) n
      ∙ from-set f (base_of v) k (t.0.base + k) v.slots w (omega (arith, t.2)) e
      ∙ ap (λ m. changed_from f (base_of v) m v.slots) one in
      is t.0 t.1 ∙ ap (λ (ws : List Word). record u { slots = ws }) slots
      ∙ ap (λ (z : Stack). record z { slots = changed_from f (base_of v) (k + 1) v.slots }) n

  pub slots-skip : (w : Word) → slice_get (drop (base_of v) v.slots) k ≡ Some w → f w ≡ w
      → ForwardsSlots f (k + 1) v u
  slots-skip w e q =
      let one : suc k ≡ k + 1 = omega arith in
      n ∙ ap (λ (ws : List Word). record v { slots = ws })
      (sym (from-skip f (base_of v) k v.slots w e q) ∙ ap (λ m. changed_from f (base_of v) m v.slots) one)
