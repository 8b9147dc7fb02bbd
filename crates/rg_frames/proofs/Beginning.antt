-- Main's frame and window 0, behind no frame.
use Rattle.std.proofs.Common.{◌≡◌, ◌-◌, ◌++◌, ◌∷◌, ℕ, [], List, None, length, replicate, sym, ap, ◌∙◌}
use Rattle.rg_base.specs.declared.value.Word.{Word}
use Rattle.rg_base.specs.declared.value.Word.TheVariants.{Nil}
use Rattle.rg_frames.specs.declared.rows.Frame.{Frame}
use Rattle.rg_frames.specs.declared.rows.Window.{Window}
use Rattle.rg_frames.specs.Stack.{Stack, IsEmpty}
use Rattle.rg_frames.specs.Changes.{begun, pushed, roomed}

pub empty-roomed : (v : Stack) (a b : ℕ) → IsEmpty v → IsEmpty (roomed v a b)
empty-roomed v a b e = record {
  slots = e.slots;
  first = e.first;
  frames = e.frames;
  windows = e.windows;
  temps = e.temps;
  marks = e.marks;
}

abbrev first-window : ℕ → Window
first-window r = record { number = 0; region = r; owner = None; base = 0 }

-- a frame of so many slots over these parts
abbrev over-parts : (n region a b : ℕ) → List Word → ℕ → List Frame → (temps : List ℕ) → Stack
over-parts n region a b slots first frames temps = record {
  slots = slots ++ replicate n Nil;
  first = length slots;
  frames = frames ++ record { back = 0; below = first } ∷ [];
  windows = first-window region ∷ [];
  temps = temps;
  marks = 0 ∷ [];
  next = 1;
  frame_room = a - 1;
  slot_room = b - n;
}

pub begun-is : (v new : Stack) (region n : ℕ) (ws : List Window) (ms : List ℕ) → IsEmpty v → ws ≡ first-window region ∷ [] → ms ≡ 0 ∷ []
    → new ≡ pushed (record v { windows = ws; marks = ms; next = 1 }) 0 n
    → new ≡ roomed (begun region n) new.frame_room new.slot_room
begun-is v new region n ws ms e w m is =
    let F = over-parts n region v.frame_room v.slot_room in
    let here : new ≡ roomed (begun region n) (v.frame_room - 1) (v.slot_room - n) =
    is ∙ ap (λ ws. pushed (record v { windows = ws; marks = ms; next = 1 }) 0 n) w
    ∙ ap (λ ms. pushed (record v { windows = first-window region ∷ []; marks = ms; next = 1 }) 0 n) m
    ∙ ap (λ xs. F xs v.first v.frames v.temps) e.slots
    ∙ ap (λ k. F [] k v.frames v.temps) e.first
    ∙ ap (λ fs. F [] 0 fs v.temps) e.frames
    ∙ ap (λ ts. F [] 0 [] ts) e.temps in
    here ∙ ap (λ (u : Stack). roomed (begun region n) u.frame_room u.slot_room) (sym here)
