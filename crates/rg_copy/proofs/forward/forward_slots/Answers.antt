use Rattle.std.proofs.Common.{◌≡◌, ap, sym, ◌∙◌, subst, arith, ℕ, List, length, drop, get_or, Some}
use Rattle.rg_base.specs.declared.value.Word.{Word}
use Rattle.rg_base.specs.declared.value.Word.TheVariants.{Nil}
use Rattle.rg_frames.specs.declared.rows.Window.{Window}
use Rattle.rg_frames.specs.Stack.{IsTop}
use Rattle.rg_frames.specs.Changes.{with_shown}
use Rattle.rg_copy.specs.Slid.{base_of, top_slots}
use Rattle.rg_copy.specs.Inner.Moves.{moved_word, target, ForwardsSlots}
use Rattle.rg_copy.proofs.Words.{from-none}
use Rattle.rg_copy.proofs.Shown.{top_window, base-is, shown-length, shown-get, is_shown, slots-write, slots-skip, stays_put}
use Rattle.rg_copy.proofs.forward.forward_slots.Goals.{then-leads, else-leads}
use Rattle.rg_copy.proofs.forward.forward_slots.Goals as goal

pub loop-k-init : goal.loop-k-init
loop-k-init c =
    ap (λ (ws : List Word). record c.args.frames.now { slots = ws })
    (sym (from-none (moved_word (target c.args.cells.now c.args.region)) (base_of c.args.frames.now)
    c.args.frames.now.slots))

pub bounds-slots-k : goal.bounds-slots-k
bounds-slots-k c =
    let f : Word → Word = moved_word (target c.args.cells.now c.args.region) in
    let q = shown-length f c.loop-k.k c.args.frames.now c.loop-k.frames c.requires.begun c.loop-k.invariant
    c.slots.result.now c.slots.ensures in
    let t = top_window c.args.frames.now c.requires.begun in
    let z : length c.slots-k-end.result.now ≡ length (top_slots c.args.frames.now) =
    ap (λ (ws : List Word). length ws) (c.slots-k-end.ensures t.0 t.1
    ∙ ap (λ d. drop d c.args.frames.now.slots) (sym (base-is c.args.frames.now t.0 t.1))) in
    omega (arith, q, z, c.loop-k-test.true)

pub forward-requires : goal.forward-requires
forward-requires c s e =
    let f : Word → Word = moved_word (target c.args.cells.now c.args.region) in
    let t = top_window c.args.frames.now c.requires.begun in
    let z : length c.slots-k-end.result.now ≡ length (top_slots c.args.frames.now) =
    ap (λ (ws : List Word). length ws) (c.slots-k-end.ensures t.0 t.1
    ∙ ap (λ d. drop d c.args.frames.now.slots) (sym (base-is c.args.frames.now t.0 t.1))) in
    let g = shown-get f c.loop-k.k c.args.frames.now c.loop-k.frames c.requires.begun c.loop-k.invariant
    c.slots.result.now c.slots.ensures (omega (arith, z, c.loop-k-test.true)) in
    c.requires.lead c.loop-k.k s (g ∙ ap Some e)

pub set_shown-requires : goal.set_shown-requires
set_shown-requires c =
    let f : Word → Word = moved_word (target c.args.cells.now c.args.region) in
    let t = top_window c.args.frames.now c.requires.begun in
    let z : length c.slots-k-end.result.now ≡ length (top_slots c.args.frames.now) =
    ap (λ (ws : List Word). length ws) (c.slots-k-end.ensures t.0 t.1
    ∙ ap (λ d. drop d c.args.frames.now.slots) (sym (base-is c.args.frames.now t.0 t.1))) in
    is_shown f c.loop-k.k c.args.frames.now c.loop-k.frames c.requires.begun c.loop-k.invariant
    (omega (arith, z, c.loop-k-test.true))

pub loop-k-preserved : goal.loop-k-preserved
loop-k-preserved c =
    let f : Word → Word = moved_word (target c.args.cells.now c.args.region) in
    let t = top_window c.args.frames.now c.requires.begun in
    let z : length c.slots-k-end.result.now ≡ length (top_slots c.args.frames.now) =
    ap (λ (ws : List Word). length ws) (c.slots-k-end.ensures t.0 t.1
    ∙ ap (λ d. drop d c.args.frames.now.slots) (sym (base-is c.args.frames.now t.0 t.1))) in
    let w : Word = get_or c.slots.result.now c.loop-k.k Nil in
    let g = shown-get f c.loop-k.k c.args.frames.now c.loop-k.frames c.requires.begun c.loop-k.invariant
    c.slots.result.now c.slots.ensures (omega (arith, z, c.loop-k-test.true)) in
    elim c.if-leads.branch [
      | then-leads x ↦
          let S : Word → Type 0 = λ y. (t : Window) → IsTop c.loop-k.frames t
          → x.set_shown.new.self ≡ with_shown c.loop-k.frames t c.loop-k.k y in
          rw x.frames-is (slots-write f c.loop-k.k c.args.frames.now c.loop-k.frames c.requires.begun
          c.loop-k.invariant w x.set_shown.new.self g (subst S x.forward.ensures x.set_shown.ensures))
      | else-leads x ↦
          rw x.frames-is (slots-skip f c.loop-k.k c.args.frames.now c.loop-k.frames c.requires.begun c.loop-k.invariant
          w g (stays_put (target c.args.cells.now c.args.region) w (c.leads.ensures x.if-leads.false)))
    ]

pub returns : goal.returns
returns c =
    let f : Word → Word = moved_word (target c.args.cells.now c.args.region) in
    let t = top_window c.args.frames.now c.requires.begun in
    let z : length c.slots-k-end.result.now ≡ length (top_slots c.args.frames.now) =
    ap (λ (ws : List Word). length ws) (c.slots-k-end.ensures t.0 t.1
    ∙ ap (λ d. drop d c.args.frames.now.slots) (sym (base-is c.args.frames.now t.0 t.1))) in
    let P : ℕ → Type 0 = λ n. ForwardsSlots f n c.args.frames.now c.loop-k.frames in
    let q : c.loop-k.k ≡ length (top_slots c.args.frames.now) =
    omega (arith, z, c.loop-k-test.false, c.loop-k.auto) in
    subst P q c.loop-k.invariant
