-- States in parts, a variable in the next slot, and the frames in which windows opened.
use Rattle.std.proofs.Common.{◌≡◌, ℕ, zero, suc, ◌+◌, ◌-◌, ◌<◌, true, false, Bool as Truth, true≢false, List, [], ◌∷◌, ◌++◌, length, map, replicate}
use Rattle.std.proofs.Common.{None, refl, sym, ap, ◌∙◌, arith, append_assoc, length-append, slice_set}
use Rattle.std.proofs.lemmas.List.{length-map, map-append, length-set}
use Rattle.std.proofs.Math.Seq.{set-append_seam}
use Rattle.std.proofs.lemmas.Bool.{ltb-false}
use Rattle.std.specs.Prelude.{not, nat_lt}
use Rattle.rg_base.specs.declared.value.Val.{Val}
use Rattle.rg_base.specs.declared.value.Val.TheVariants as val
use Rattle.rg_base.specs.declared.object.Seen.{Seen}
use Rattle.rg_base.specs.declared.words.Manager.{Manager}
use Rattle.rg_rules.specs.Items.{Item}
use Rattle.rg_rules.specs.State.{Local, State, Frame as Body, Window as Opened}
use Rattle.rg_stack.specs.Machine.{Frame, Window}
use Rattle.rg_stack.specs.Tops.{Work}
use Rattle.rg_stack.specs.Shows.{ShowsWindows, place_among}

-- a slot that is named is there
room_by : (slots n k : ℕ) → n ≡ k → (t : Truth) → nat_lt slots (n + 1) ≡ t → not t ≡ true → k < slots
room_by slots n k is true e h = absurd (true≢false (sym h))
room_by slots n k is false e h = let most = ltb-false slots (n + 1) e in omega (arith, is, most)

pub room_of : (slots n k : ℕ) → n ≡ k → not (nat_lt slots (n + 1)) ≡ true → k < slots
room_of slots n k is h = room_by slots n k is (nat_lt slots (n + 1)) refl h

-- what the machine works on, and the plain state that it shows; they have the same store, managers, numbers and input
abbrev pub work_of : (store : List Seen) (frames : List Frame) (windows : List Window) (managers : List Manager) (made at : ℕ) (input : List ℕ) → Work
work_of store frames windows managers made at input = record {
  machine = record { store = store; frames = frames; windows = windows; managers = managers; windows_made = made; at = at };
  input = input;
  printed = None;
}

abbrev pub state_of : (store : List Seen) (frames : List Body) (windows : List Opened) (managers : List Manager) (made : ℕ) (input : List ℕ)
    (output : List Val) (items : List Item) → State
state_of store frames windows managers made input output items = record
    { store = store; frames = frames; windows = windows; managers = managers; windows_made = made; items = items; input = input; output = output }

-- a value into the first slot behind the variables
stored_next : (vals : List Val) (k : ℕ) (v : Val) → 0 < k → slice_set (vals ++ replicate k val.Nil) (length vals) v ≡ (vals ++ v ∷ [])
    ++ replicate (k - 1) val.Nil
stored_next vals zero v h = absurd (omega (arith, h))
stored_next vals (suc k) v h =
    let e : suc k - 1 ≡ k = omega arith in
    set-append_seam vals val.Nil (replicate k val.Nil) v ∙ sym (append_assoc vals (v ∷ []) (replicate k val.Nil))
    ∙ ap (λ n. (vals ++ v ∷ []) ++ replicate n val.Nil) (sym e)

-- a variable more is shown by the next slot
pub shows_next : (slots : List Val) (locals : List Local) (l : Local) → slots ≡ map (λ (l : Local). l.value) locals
    ++ replicate (length slots - length locals) val.Nil → length locals < length slots
    → slice_set slots (length locals) l.value ≡ map (λ (l : Local). l.value) (locals ++ l ∷ [])
    ++ replicate (length (slice_set slots (length locals) l.value) - length (locals ++ l ∷ [])) val.Nil
shows_next slots locals l h room =
    let vals = map (λ (l : Local). l.value) locals in
    let k = length slots - length locals in
    let n : length vals ≡ length locals = length-map locals (λ (l : Local). l.value) in
    let first : slice_set slots (length locals) l.value
    ≡ slice_set (vals ++ replicate k val.Nil) (length vals) l.value = ap (λ s. slice_set s (length locals) l.value) h
    ∙ ap (λ m. slice_set (vals ++ replicate k val.Nil) m l.value) (sym n) in
    let sizes : k - 1 ≡ length (slice_set slots (length locals) l.value) - length (locals ++ l ∷ []) = omega
    (arith, length-set slots (length locals) l.value, length-append locals (l ∷ [])) in
    first
    ∙ stored_next vals k l.value (omega (arith, room))
    ∙ ap (λ m. (vals ++ l.value ∷ []) ++ replicate m val.Nil) sizes
    ∙ ap (λ vs. vs ++ replicate (length (slice_set slots (length locals) l.value) - length (locals ++ l ∷ [])) val.Nil)
    (sym (map-append (λ (l : Local). l.value) locals (l ∷ [])))

-- windows that were opened in the lower frames, so many
abbrev pub OpenedBelow : ℕ → List Opened → Type 0
OpenedBelow n [] = Unit {0}
OpenedBelow n (p ∷ ps) = (p.base_frame < n) × OpenedBelow n ps

-- a frame above doesn't move the places of the lower ones
pub place_below : (xs : List ℕ) (y n i : ℕ) → n < length xs → place_among (xs ++ y ∷ []) n i ≡ place_among xs n i
place_below [] y n i h = absurd (omega (arith, h))
place_below (x ∷ xs) y zero i h = refl
place_below (x ∷ xs) y (suc n) i h = let less : n < length xs = omega (arith, h) in ap (λ k. x + k) (place_below xs y n i less)

pub windows_below : (xs : List ℕ) (y : ℕ) (ws : List Window) (ps : List Opened) → OpenedBelow (length xs) ps → ShowsWindows (xs ++ y ∷ []) ws ps
    → ShowsWindows xs ws ps
windows_below xs y [] [] o h = tt
windows_below xs y [] (p ∷ ps) o h = h
windows_below xs y (w ∷ ws) [] o h = h
windows_below xs y (w ∷ ws) (p ∷ ps) o h = (
  record { number = h.0.number; region = h.0.region; owner = h.0.owner; base = h.0.base ∙ place_below xs y p.base_frame p.base_place o.0 },
  windows_below xs y ws ps o.1 h.1,
)
