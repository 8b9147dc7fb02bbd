use Rattle.std.proofs.Common.{◌≡◌, ◌≢◌, ◌≤◌, ◌<◌, ◌+◌, ◌-◌, ℕ, List, rules, length, take, get_or, ap, sym}
use Rattle.std.proofs.Common.{subst, arith, refl}
use Rattle.std.proofs.lemmas.List.{length-drop, length-take-le}
use Rattle.rg_base.specs.declared.value.Word.{Word}
use Rattle.rg_base.specs.declared.value.Word.TheVariants.{Nil}
use Rattle.rg_frames.specs.declared.rows.Window.{Window}
use Rattle.rg_frames.specs.Inner.Layout.{IsPast, Unwritten, frames_of, lives_of}
use Rattle.rg_frames.specs.Stack.{Stack, IsTop}
use Rattle.rg_frames.specs.Changes.{IsShown}
use Rattle.rg_frames.proofs.Rising.{is-last}
use Rattle.rg_frames.proofs.Taken.{Set, set-taken, shown-at}
use Rattle.rg_frames.proofs.Unwriting.{lies-set}
use Rattle.rg_frames.proofs.Raised.{unwritten-live, unwritten-over}
use Rattle.rg_frames.proofs.frames.Frames.set_shown.Goals as goal
use Rattle.rg_frames.proofs.frames.Frames.set_shown.Goals.{After-index}

-- a place that is shown is one of the slots
shown_within : (v : Stack) (k n : ℕ) (u : Window) → IsShown v k → n ≡ length v.windows → u ≡ get_or v.windows (n - 1) u
    → u.base + k < length v.slots
shown_within v k n u h m f =
    let same : h.0.base ≡ u.base = ap (λ (w : Window). w.base) (is-last v.windows n h.0 u m h.1 f) in
    omega (arith, same, h.2, length-drop h.0.base v.slots)

-- the window that was read is the one on top
top_is : (c : After-index) (t : Window) → IsTop c.args.self.now t → t ≡ c.index.result.now
top_is c t e =
    let s = c.self.inside in
    let P : Stack → Type 0 = λ v. IsTop v t in
    is-last s.windows.items c.len.result t c.index.result.now (omega (arith, c.len.ensures, s.windows.ok.0)) (subst P (sym c.self.view_is) e)
    c.index.ensures

-- the place is a slot of some frame
within : (c : After-index) → c.index.result.now.base + c.args.k < length (take c.self.inside.top c.self.inside.slots.items)
within c =
    let s = c.self.inside in
    let P : Stack → Type 0 = λ v. IsShown v c.args.k in
    shown_within (Rattle.rg_frames.specs.contracts.frames.Frames.the_view s) c.args.k c.len.result c.index.result.now
    (subst P (sym c.self.view_is) c.requires) (omega (arith, c.len.ensures, s.windows.ok.0)) c.index.ensures

set : (c : After-index) → Set c.self.inside.slots.items (c.index.result.now.base + c.args.k) c.self.inside.top c.args.w
set c =
    let s = c.self.inside in
    let lt = within c in
    let order = c.self.invariant.2.order in
    set-taken _ _ _ _ (omega (arith, lt, length-take-le s.top s.slots.items order)) c.self.invariant.2

pub invariant_of-self : goal.invariant_of-self
invariant_of-self c =
    let s = c.self.inside in
    let slots : List Word = take s.top s.slots.items in
    let live : ℕ = c.above-self-inside.result in
    let place : ℕ = c.index.result.now.base + c.args.k in
    let n : length slots ≡ s.top = length-take-le s.top s.slots.items c.self.invariant.2.order in
    let order = c.self.invariant.1.top.order in
    let most : live ≤ length slots = omega (arith, n, c.above-self-inside.ensures.within (omega (arith, n, order))) in
    let P : ℕ → Type 0 = λ z. IsPast place live z in
    let before : Unwritten slots s.first (frames_of s.rows.items) live (lives_of s.rows.items) =
    unwritten-live _ _ _ _ _ _ c.above-self-inside.ensures.least most c.self.invariant.1 in
    let w = set (goal.at.invariant_of-self c).After-index in (
      rw (w.view, c.raise.ensures.frames, c.raise.ensures.len, c.raise.ensures.capacity) (lies-set _ _ _ _ _ _ _ c.self.invariant.0),
      rw w.view (c.raise.ensures.nil slots live c.args.w (subst P (sym n) c.above-self-inside.ensures.past) before),
      w.nil,
      rw (w.many, c.raise.ensures.capacity) c.self.invariant.3,
    )

pub invariant_of-self-else-eq : goal.invariant_of-self-else-eq
invariant_of-self-else-eq c =
    let d = (goal.at.invariant_of-self-else-eq c).After-index in
    let was : Word = c.index-2.result.now in
    let differs : was ≢ Nil = λ q. search (rules, q) in
    let w = set d in (
      rw w.view (lies-set _ _ _ _ _ _ _ c.self.invariant.0),
      rw w.view (unwritten-over _ _ _ _ _ _ was _ (shown-at _ _ _ _ c.self.invariant.2 (within d) c.index-2.ensures) differs c.self.invariant.1),
      w.nil,
      rw w.many c.self.invariant.3,
    )

pub returns-then-eq : goal.returns-then-eq
returns-then-eq c = λ t e.
    let d = (goal.at.returns-then-eq c).After-index in
    let same = top_is d t e in
    let w = set d in
    rw (← c.self.view_is, same, w.view, w.many, c.raise.ensures.frames, c.raise.ensures.len, c.raise.ensures.capacity) refl

pub returns-else-eq : goal.returns-else-eq
returns-else-eq c = λ t e.
    let d = (goal.at.returns-else-eq c).After-index in
    let same = top_is d t e in
    let w = set d in
    rw (← c.self.view_is, same, w.view, w.many) refl
