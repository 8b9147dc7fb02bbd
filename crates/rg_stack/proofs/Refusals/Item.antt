-- A step's code asks for the input, and may collect, exactly where the first item does as it is written.
use Rattle.std.proofs.Common.{◌≡◌, ℕ, ◌+◌, false, true≢false, inl, inr, List, [], ◌∷◌, Option, Some, None, length, drop, take, refl, sym, ap, subst}
use Rattle.std.proofs.Common.{◌∙◌}
use Rattle.std.proofs.Common.{arith, slice_get}
use Rattle.rg_base.specs.declared.event.Cause.{Cause}
use Rattle.rg_tree.specs.Tree.{stmt, StmtKind, declare, return, Class, Tree}
use Rattle.rg_rules.specs.Bodies.{is_return}
use Rattle.rg_rules.specs.Outside.Inputs.{first_asks}
use Rattle.rg_rules.specs.Items.{Item, Do, EndAt, LeaveAt, LeaveGiving, Back}
use Rattle.rg_rules.specs.State.{Frame as Body, Window as Opened}
use Rattle.rg_sound.specs.Frames.{FramesFit}
use Rattle.rg_code.specs.declared.op.Op.{Op}
use Rattle.rg_code.specs.declared.op.Op.TheVariants as i
use Rattle.rg_code.specs.Lowering.{slot_of, scope_behind, kind_code}
use Rattle.rg_code.specs.Places.{is_mark, behind_end, scope_of, Level, Lies}
use Rattle.rg_stack.specs.Machine.{Frame}
use Rattle.rg_stack.specs.Shows.{ShowsFrames, levels_of}
use Rattle.rg_stack.specs.Left.{SomeLeft}
use Rattle.rg_stack.proofs.Basics.{is_halt}
use Rattle.rg_stack.proofs.Callers.Mark.{drop-stands, first-drop, lies_at_mark}
use Rattle.rg_stack.proofs.Callers.Left.{do-other, leave-other, giving-other, running-left}
use Rattle.rg_stack.proofs.Refusals.Kind.{behind_first}
use Rattle.rg_stack.proofs.Refusals.Plain.{tells, nothing}
use Rattle.rg_stack.proofs.Refusals.Tell.{tells-mark, kind-tells, written_due}

-- why the first item may collect, as it is written
abbrev pub first_written : List Item → Option Cause
first_written (Do (stmt line k) ∷ rest) = written_due k
first_written _ = None

module _ (classes : List Class) (code : List Op) where
  lies-tells : (ls : List Level) (j : Item) (rest : List Item) (at : ℕ) → Lies classes code ls (j ∷ rest) at → tells (drop at code) ≡ nothing
  lies-tells ls j rest at h = tells-mark (drop at code) (ap is_mark (first-drop code at) ∙ lies_at_mark classes code ls j rest at h)

  behind-tells : (os : List Op) (n : ℕ) (items : List Item) (ls : List Level) → slice_get code n ≡ slice_get os 0
      → Lies classes code ls items (behind_end (slice_get os 0) n) → tells os ≡ nothing
  behind-tells [] n items ls is lies = refl
  behind-tells (i.Jump t ∷ os) n items ls is lies = refl
  behind-tells (i.Mark line ∷ os) n items ls is lies = refl
  behind-tells (i.Halt ∷ os) n items ls is lies = refl
  behind-tells (o ∷ os) n [] ls is lies = absurd (true≢false (sym (ap is_halt (sym is ∙ lies))))
  behind-tells (o ∷ os) n (j ∷ rest) ls is lies = absurd (true≢false (sym (ap is_mark (sym is) ∙ lies_at_mark classes code ls j rest n lies)))

  -- behind a statement that isn't a `return`
  do-tells : (l : Level) (ls : List Level) (line : ℕ) (k : StmtKind) (j : Item) (rest : List Item) (at : ℕ)
      → Lies classes code (l ∷ ls) (Do (stmt line k) ∷ j ∷ rest) at → is_return k ≡ false
      → tells (drop (at + length (kind_code classes l.scope at line k)) code) ≡ nothing
  do-tells l ls line (declare x t r) j rest at h e = lies-tells (record l { scope = scope_behind classes l.scope (declare x t r) } ∷ ls) j rest _ h.1
  do-tells l ls line (return c) j rest at h e = absurd (true≢false e)
  do-tells l ls line _ j rest at h e = lies-tells (l ∷ ls) j rest _ h.1

  item-tells : (l : Level) (ls : List Level) (j : Item) (rest : List Item) (at : ℕ) → ((j ≡ EndAt 0 → ⊥) → SomeLeft rest)
      → Lies classes code (l ∷ ls) (j ∷ rest) at → tells (drop (at + 1) code) ≡ (first_asks (j ∷ rest), first_written (j ∷ rest))
  item-tells l ls (Do (stmt line k)) [] at left h = absurd (left (do-other (stmt line k)))
  item-tells l ls (Do (stmt line k)) (j ∷ rest) at left h = kind-tells classes code l.scope at line k h.0.0 (do-tells l ls line k j rest at h)
  item-tells l ls (EndAt k) rest at left h =
      let two : at + 1 + 1 ≡ at + 2 = omega arith in
      ap tells (drop-stands code (at + 1) (i.End k ∷ []) h.1 ∙ ap (λ n. i.End k ∷ drop n code) two)
      ∙ behind-tells (drop (at + 2) code) (at + 2) rest (record l { scope = take k l.scope } ∷ ls) (sym (first-drop code (at + 2)))
      (subst (λ o. Lies classes code (record l { scope = take k l.scope } ∷ ls) rest (behind_end o (at + 2))) (sym (first-drop code (at + 2))) h.2)
  item-tells l ls (LeaveAt k) [] at left h = absurd (left (leave-other k))
  item-tells l ls (LeaveAt k) (j ∷ rest) at left h =
      let two : at + 1 + 1 ≡ at + 2 = omega arith in
      ap tells (drop-stands code (at + 1) (i.Leave k ∷ []) h.1 ∙ ap (λ n. i.Leave k ∷ drop n code) two)
      ∙ lies-tells (record l { scope = take k l.scope } ∷ ls) j rest (at + 2) h.2
  item-tells l ls (LeaveGiving line k w) [] at left h = absurd (left (giving-other line k w))
  item-tells l ls (LeaveGiving line k w) (j ∷ rest) at left h =
      let o = i.LeaveGiving (slot_of l.scope (Some w)) k in
      let two : at + length (i.Mark line ∷ o ∷ []) ≡ at + 2 = omega arith in
      ap tells (behind_first code at (i.Mark line) (o ∷ []) h.0 ∙ ap (λ n. o ∷ drop n code) two)
      ∙ lies-tells (record l { scope = take k l.scope } ∷ ls) j rest (at + 2) h.1
  item-tells l ls Back rest at left h = ap tells (drop-stands code (at + 1) (i.RetVoid ∷ []) h.1)

pub all-tells : (t : Tree) (code : List Op) (at : ℕ) (mfs : List Frame) (fs : List Body) (ws : List Opened) (items : List Item)
    → SomeLeft items → FramesFit t fs ws items → ShowsFrames mfs fs → Lies t.classes code (levels_of mfs fs) items at
    → tells (drop (at + 1) code) ≡ (first_asks items, first_written items)
all-tells t code at mfs fs ws [] left frames shows lies = absurd left
all-tells t code at mfs [] ws (j ∷ rest) left frames shows lies = absurd frames
all-tells t code at [] (f ∷ fs) ws (j ∷ rest) left frames shows lies = absurd shows
all-tells t code at (mf ∷ mfs) (f ∷ fs) ws (j ∷ rest) left (inl h) shows lies =
    item-tells t.classes code (record { scope = scope_of f.locals; slots = length mf.slots; target = f.target; back = mf.back }) (levels_of mfs fs)
    j rest at (running-left t f fs ws j rest h) lies
all-tells t code at (mf ∷ mfs) (f ∷ fs) ws (j ∷ rest) left (inr h) shows lies = absurd (subst SomeLeft h.no_item left)
