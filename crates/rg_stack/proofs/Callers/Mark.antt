-- A step of the stack machine is one of the machine that never frees: what all kinds of statement share.
use Rattle.std.proofs.Common.{◌≡◌, ℕ, zero, suc, ◌+◌, true, false, Bool as Truth, true≢false, if◌then◌else◌, List, [], ◌∷◌, ◌++◌, length, map, drop}
use Rattle.std.proofs.Common.{Some, replicate, refl, sym, ap, ◌∙◌, slice_get, unwrap_or}
use Rattle.std.proofs.lemmas.Option.{same_Some}
use Rattle.std.proofs.lemmas.List.{take-append-drop, drop-drop}
use Rattle.rg_base.specs.declared.value.Val.{Val}
use Rattle.rg_base.specs.declared.value.Val.TheVariants as val
use Rattle.rg_tree.specs.Tree.{Variable, stmt, StmtKind, declare, Class}
use Rattle.rg_rules.specs.Environment.{same_variable}
use Rattle.rg_rules.specs.Items.{Item, Do, LeaveGiving}
use Rattle.rg_rules.specs.State.{Local, value_in}
use Rattle.rg_code.specs.declared.op.Op.{Op}
use Rattle.rg_code.specs.declared.op.Op.TheVariants as i
use Rattle.rg_code.specs.Code.{Code}
use Rattle.rg_code.specs.Lowering.{Scope, slot_of, kind_code}
use Rattle.rg_code.specs.Places.{Stands, is_mark, scope_of, Level, Lies}
use Rattle.rg_sound.proofs.Basics.{none-some}
use Rattle.rg_stack.specs.Effects.{Stops}
use Rattle.rg_stack.specs.Tops.{Work}
use Rattle.rg_stack.specs.Given.{given_walk as walk}

-- what stands at an address is the front of the code there
pub drop-stands : (code : List Op) (at : ℕ) (ops : List Op) → Stands code at ops → drop at code ≡ ops ++ drop (at + length ops) code
drop-stands code at ops h =
    sym (take-append-drop (length ops) (drop at code))
    ∙ ap (λ l. l ++ drop (length ops) (drop at code)) h
    ∙ ap (λ l. ops ++ l) (drop-drop (length ops) at code)

-- the slot of a variable holds its value
shown_by : (t : Truth) (v : Val) (slots : List Val) (n : ℕ) (rest : Val) → unwrap_or (slice_get slots n) val.Nil ≡ rest
    → unwrap_or (slice_get (v ∷ slots) (if t then 0 else suc n)) val.Nil ≡ (if t then v else rest)
shown_by true v slots n rest e = refl
shown_by false v slots n rest e = e

none_first : (k : ℕ) → unwrap_or (slice_get (replicate k val.Nil) 0) val.Nil ≡ val.Nil
none_first zero = refl
none_first (suc k) = refl

pub shown_slot : (locals : List Local) (k : ℕ) (x : Variable)
    → unwrap_or (slice_get (map (λ (l : Local). l.value) locals ++ replicate k val.Nil) (slot_of (scope_of locals) x)) val.Nil ≡ value_in locals x
shown_slot [] k x = none_first k
shown_slot (l ∷ ls) k x = shown_by (same_variable l.name x) l.value _ _ _ (shown_slot ls k x)

-- and that of the variable at a place
pub shown-at : (locals : List Local) (k i : ℕ) (l : Local) → slice_get locals i ≡ Some l →
    slice_get (map (λ (l : Local). l.value) locals ++ replicate k val.Nil) i ≡ Some l.value
shown-at [] k i l e = none-some e
shown-at (x ∷ ls) k zero l e = ap (λ q. Some q.value) (same_Some x l e)
shown-at (x ∷ ls) k (suc i) l e = shown-at ls k i l e

-- a statement begins with its mark
pub starts : (classes : List Class) (scope : Scope) (at line : ℕ) (k : StmtKind) (more : List Op)
    → is_mark (slice_get (kind_code classes scope at line k ++ more) 0) ≡ true
starts classes scope at line (declare x t r) more = refl
starts classes scope at line _ more = refl

-- a walk with nothing on the stack ends at a mark
pub walk_at_mark : (classes : List Class) (code : Code) (ops : List Op) (at : ℕ) (w : Work) → is_mark (slice_get ops 0) ≡ true
    → walk code ops at 0 [] w ≡ Stops at w
walk_at_mark classes code [] at w e = absurd (true≢false (sym e))
walk_at_mark classes code (i.Mark line ∷ ops) at w e = refl
walk_at_mark classes code (o ∷ ops) at w e = absurd (true≢false (sym e))

-- the first of some instructions
pub first-drop : (code : List Op) (at : ℕ) → slice_get (drop at code) 0 ≡ slice_get code at
first-drop code zero = refl
first-drop [] (suc n) = refl
first-drop (o ∷ os) (suc n) = first-drop os n

-- items begin at a mark
pub lies_at_mark : (classes : List Class) (code : List Op) (ls : List Level) (j : Item) (rest : List Item) (at : ℕ)
    → Lies classes code ls (j ∷ rest) at → is_mark (slice_get code at) ≡ true
lies_at_mark classes code [] j rest at h = absurd h
lies_at_mark classes code (l ∷ ls) (Do (stmt line k)) rest at h = ap is_mark
    (sym (first-drop code at) ∙ ap (λ l. slice_get l 0) (drop-stands code at (kind_code classes l.scope at line k) h.0.0))
    ∙ starts classes l.scope at line k (drop (at + length (kind_code classes l.scope at line k)) code)
lies_at_mark classes code (l ∷ ls) (LeaveGiving line k w) rest at h = ap is_mark
    (sym (first-drop code at)
    ∙ ap (λ l. slice_get l 0) (drop-stands code at (i.Mark line ∷ i.LeaveGiving (slot_of l.scope (Some w)) k ∷ []) h.0))
lies_at_mark classes code (l ∷ ls) _ rest at h = h.0

-- a walk ends where items begin
pub walk_to_items : (classes : List Class) (code : Code) (ls : List Level) (j : Item) (rest : List Item) (at : ℕ) (w : Work)
    → Lies classes code.ops ls (j ∷ rest) at → walk code (drop at code.ops) at 0 [] w ≡ Stops at w
walk_to_items classes code ls j rest at w h = walk_at_mark classes code (drop at code.ops) at w
    (ap is_mark (first-drop code.ops at) ∙ lies_at_mark classes code.ops ls j rest at h)

-- a mark that stands somewhere, and what is behind it
mark-first : (ops : List Op) → is_mark (slice_get ops 0) ≡ true → (line : ℕ) × (ops ≡ i.Mark line ∷ drop 1 ops)
mark-first [] e = absurd (true≢false (sym e))
mark-first (i.Mark line ∷ ops) e = (line, refl)
mark-first (o ∷ ops) e = absurd (true≢false (sym e))

pub mark-there : (code : List Op) (at : ℕ) → is_mark (slice_get code at) ≡ true → (line : ℕ) × (drop at code ≡ i.Mark line ∷ drop (at + 1) code)
mark-there code at e = let h = mark-first (drop at code) (ap is_mark (first-drop code at) ∙ e) in
    (h.0, h.1 ∙ ap (λ l. i.Mark h.0 ∷ l) (drop-drop 1 at code))
