-- What words, fields and frames show where cells change but keep their serials.
use Rattle.std.proofs.Common.{◌≡◌, ℕ, zero, suc, ◌+◌, List, [], ◌∷◌, map, take, drop, reverse, Option, Some, None}
use Rattle.std.proofs.Common.{IsSome, option_and_then, slice_get, refl, sym, ap, ◌∙◌, arith}
use Rattle.std.proofs.lemmas.Option.{none-some}
use Rattle.rg_base.specs.declared.object.Label.{Label}
use Rattle.rg_base.specs.declared.object.Seen.{Seen}
use Rattle.rg_base.specs.declared.value.Val.{Val}
use Rattle.rg_base.specs.declared.value.Word.{Word}
use Rattle.rg_base.specs.declared.value.Word.TheVariants as word
use Rattle.rg_cells.specs.declared.cell.Body.{Body}
use Rattle.rg_cells.specs.Table.{Heap, body_at, field_at, IsHeld}
use Rattle.rg_frames.specs.declared.rows.Frame.{Frame as FrameRow}
use Rattle.rg_frames.specs.Stack.{Stack}
use Rattle.rg_frames.specs.Layers.{layers_from}
use Rattle.rg_stack.specs.Machine.{Frame, value_of_word}
use Rattle.rg_heap.specs.Answers.{val_of, obj_of}
use Rattle.rg_heap.specs.Changes.{LeadsNowhere}
use Rattle.rg_view.specs.View.{object_of, frame_of, frames_of, values_of}

-- a cell of the one heap has the serial that it has in the other
abbrev pub IsSameObject : (old new : Heap) → (slot : ℕ) → Type 0
IsSameObject old new s = obj_of (body_at new s) ≡ obj_of (body_at old s)

-- so it is for all cells to which words lead
abbrev pub LeadToSame : (old new : Heap) → List Word → Type 0
LeadToSame old new ws = (k s : ℕ) → slice_get ws k ≡ Some (word.Slot s) → IsSameObject old new s

pub val-same : (old new : Heap) (w : Word) → ((s : ℕ) → w ≡ word.Slot s → IsSameObject old new s) → val_of new w ≡ val_of old w
val-same old new word.Nil h = refl
val-same old new (word.Int z) h = refl
val-same old new (word.Bool b) h = refl
val-same old new (word.Slot s) h = h s refl

pub vals-same : (old new : Heap) (ws : List Word) → LeadToSame old new ws → map (val_of new) ws ≡ map (val_of old) ws
vals-same old new [] h = refl
vals-same old new (w ∷ ws) h =
    ap (λ v. v ∷ map (val_of new) ws) (val-same old new w (λ s e. h 0 s (ap Some e)))
    ∙ ap (λ vs. val_of old w ∷ vs) (vals-same old new ws (λ k s e. h (suc k) s e))

-- an object of these parts
abbrev pub object : (class : ℕ) → Label → List Val → Seen
object c l vs = record { class = c; fields = vs; label = l }

pub object-same : (old new : Heap) (b : Body) → LeadToSame old new b.fields → object_of new (Some b) ≡ object_of old (Some b)
object-same old new b h = ap (object b.class b.label) (vals-same old new b.fields h)

-- words none of which is a reference show the same in any heap
pub plain-vals : (h : Heap) (ws : List Word) → LeadsNowhere ws → map (val_of h) ws ≡ map value_of_word ws
plain-vals h [] n = refl
plain-vals h (w ∷ ws) n =
    ap (λ v. v ∷ map (val_of h) ws) (plain w (λ s e. n 0 s (ap Some e)))
    ∙ ap (λ vs. value_of_word w ∷ vs) (plain-vals h ws (λ k s e. n (suc k) s e))
  where
    plain : (w : Word) → ((s : ℕ) → w ≡ word.Slot s → ⊥) → val_of h w ≡ value_of_word w
    plain word.Nil n = refl
    plain (word.Int z) n = refl
    plain (word.Bool b) n = refl
    plain (word.Slot s) n = absurd (n s refl)

-- the body of a held cell
pub held-body : (h : Heap) (s : ℕ) → IsHeld h s → (b : Body) × (body_at h s ≡ Some b)
held-body h s held = there (body_at h s) held
  where
    there : (o : Option Body) → IsSome o → (b : Body) × (o ≡ Some b)
    there None q = absurd cc
    there (Some b) q = (b, refl)

pub body-held : (h : Heap) (s : ℕ) (b : Body) → body_at h s ≡ Some b → IsHeld h s
body-held h s b e = rw e refl

-- what a field holds
pub field-in : (h : Heap) (s k : ℕ) (b : Body) → body_at h s ≡ Some b → field_at h s k ≡ slice_get b.fields k
field-in h s k b e = ap (option_and_then (λ (b : Body). slice_get b.fields k)) e

-- slots that are dropped or taken
pub get-drop : {A : Type 0} → (n k : ℕ) (xs : List A) → slice_get (drop n xs) k ≡ slice_get xs (n + k)
get-drop zero k xs = let e : k ≡ 0 + k = omega arith in ap (slice_get xs) e
get-drop (suc n) k [] = refl
get-drop (suc n) k (x ∷ xs) = let e : suc (n + k) ≡ suc n + k = omega arith in get-drop n k xs ∙ ap (slice_get (x ∷ xs)) e

pub get-take : {A : Type 0} → (n k : ℕ) (xs : List A) (x : A) → slice_get (take n xs) k ≡ Some x → slice_get xs k ≡ Some x
get-take zero k xs x e = absurd (none-some x e)
get-take (suc n) k [] x e = absurd (none-some x e)
get-take (suc n) zero (y ∷ xs) x e = e
get-take (suc n) (suc k) (y ∷ xs) x e = get-take n k xs x e

-- a frame in front of others
abbrev pub framed : ℕ → List Frame → List Val → List Frame
framed back fs vs = record { slots = vs; back = back } ∷ fs

layers-same : (old new : Heap) (slots : List Word) (first : ℕ) (fs : List FrameRow) → LeadToSame old new slots
    → map (frame_of new) (layers_from slots first fs) ≡ map (frame_of old) (layers_from slots first fs)
layers-same old new slots first [] h = refl
layers-same old new slots first (f ∷ fs) h =
    ap (framed f.back (map (frame_of new) (layers_from (take first slots) f.below fs)))
    (vals-same old new (drop first slots) (λ k s e. h (first + k) s (sym (get-drop first k slots) ∙ e)))
    ∙ ap (λ gs. frame_of old (record { slots = drop first slots; back = f.back }) ∷ gs)
    (layers-same old new (take first slots) f.below fs (λ k s e. h k s (get-take first k slots (word.Slot s) e)))

-- the frames show the same where their slots lead to cells that keep their serials
pub frames-same : (old new : Heap) (v : Stack) → LeadToSame old new v.slots → frames_of new v ≡ frames_of old v
frames-same old new v h = layers-same old new v.slots v.first (reverse v.frames) h

-- and so does a stack of words
pub values-same : (old new : Heap) (ws : List Word) → LeadToSame old new (reverse ws) → values_of new ws ≡ values_of old ws
values-same old new ws h = vals-same old new (reverse ws) h
