-- The end of the block of an `enter` with `giving`.
use Rattle.std.proofs.Common.{◌≡◌, ◌≢◌, ◌∙◌, refl, sym, ap, ℕ, List, [], ◌∷◌, length, map, reverse, Some, Ok, Err, arith}
use Rattle.std.proofs.lemmas.List.{length-map, length-reverse}
use Rattle.rg_base.specs.declared.object.Seen.{Seen}
use Rattle.rg_base.specs.declared.outcome.Trap.{Trap}
use Rattle.rg_tree.specs.Tree.{Name}
use Rattle.rg_tree.specs.Rows.Tables.{Tables}
use Rattle.rg_tree.specs.Rows.RowTrees.{classes_of}
use Rattle.rg_rules.specs.Items.{Item, LeaveGiving}
use Rattle.rg_rules.specs.State.{Window, State, locals_of, value_in}
use Rattle.rg_rules.specs.Evaluation.{object_at}
use Rattle.rg_rules.specs.Steps.{step_leave, put_at, step_leave_giving, step_first, stepped, next, Went, Trapped}
use Rattle.rg_values.specs.declared.state.rows.WindowRow.{WindowRow}
use Rattle.rg_statements.specs.Inner.Windows.{left_at}
use Rattle.rg_values.specs.Kept.{Kept, plain_of, shown, window_of}

-- the windows beneath the topmost one
windows-none : (outer : List WindowRow) → length outer ≡ 0 → map window_of (reverse outer) ≡ []
windows-none [] none = refl
windows-none (w ∷ ws) none = absurd (omega arith)

windows-some : (outer : List WindowRow) → length outer ≢ 0 → map window_of (reverse outer) ≢ []
windows-some outer some e =
    let none : length outer ≡ 0 = sym (length-reverse outer) ∙ sym (length-map (reverse outer) window_of) ∙ ap length e in some none

-- a window that is alone stays
alone : (k : ℕ) (x : Name) (s : State) (top : Window) (others : List Window) → others ≡ [] →
    step_leave_giving k x s (top ∷ others) ≡ Ok (step_leave k s (top ∷ others))
alone k x s top [] none = refl
alone k x s top (w ∷ ws) none = absurd (cc)

cut : (k : ℕ) (x : Name) (s : State) (top : Window) (others : List Window) (trap : Trap) → others ≢ [] →
    object_at s.store (value_in (locals_of s) (Some x)) ≡ Err trap → step_leave_giving k x s (top ∷ others) ≡ Err trap
cut k x s top [] trap some is = absurd (some refl)
cut k x s top (w ∷ ws) trap some is = rw (step_leave_giving, is) refl

ends : (k : ℕ) (x : Name) (s : State) (top : Window) (others : List Window) (o : Seen) → others ≢ [] →
    object_at s.store (value_in (locals_of s) (Some x)) ≡ Ok o →
    step_leave_giving k x s (top ∷ others) ≡ Ok (put_at top.owner (step_leave k s (top ∷ others)) (value_in (locals_of s) (Some x)))
ends k x s top [] o some is = absurd (some refl)
ends k x s top (w ∷ ws) o some is = rw (step_leave_giving, is) refl

-- the step of the item
giving-next : (t : Tables) (k : Kept) (input : List ℕ) (line kept : ℕ) (x : Name) (rest : List Item) →
    shown t k.items ≡ LeaveGiving line kept x ∷ rest →
    next (classes_of t) (plain_of t k input)
    ≡ stepped line (step_leave_giving kept x (record (plain_of t k input) { items = rest }) (plain_of t k input).windows)
giving-next t k input line kept x rest is = ap (step_first (classes_of t) (plain_of t k input)) is

pub giving-alone : (t : Tables) (k : Kept) (input : List ℕ) (line kept : ℕ) (x : Name) (rest : List Item) (new : State) →
    shown t k.items ≡ LeaveGiving line kept x ∷ rest → length k.outer ≡ 0 → new ≡ left_at kept (plain_of t k input) rest →
    next (classes_of t) (plain_of t k input) ≡ Went new
giving-alone t k input line kept x rest new is none new_is =
    giving-next t k input line kept x rest is
    ∙ ap (stepped line) (alone kept x (record (plain_of t k input) { items = rest }) (window_of k.window) (map window_of (reverse k.outer))
    (windows-none k.outer none))
    ∙ ap Went (sym new_is)

pub giving-cut : (t : Tables) (k : Kept) (input : List ℕ) (line kept : ℕ) (x : Name) (rest : List Item) (trap : Trap) →
    shown t k.items ≡ LeaveGiving line kept x ∷ rest → length k.outer ≢ 0 →
    object_at k.store (value_in (locals_of (plain_of t k input)) (Some x)) ≡ Err trap → next (classes_of t) (plain_of t k input) ≡ Trapped trap line
giving-cut t k input line kept x rest trap is some at =
    giving-next t k input line kept x rest is
    ∙ ap (stepped line) (cut kept x (record (plain_of t k input) { items = rest }) (window_of k.window) (map window_of (reverse k.outer)) trap
    (windows-some k.outer some) at)

pub giving-ends : (t : Tables) (k : Kept) (input : List ℕ) (line kept : ℕ) (x : Name) (rest : List Item) (o : Seen) (mid new : State) →
    shown t k.items ≡ LeaveGiving line kept x ∷ rest → length k.outer ≢ 0 →
    object_at k.store (value_in (locals_of (plain_of t k input)) (Some x)) ≡ Ok o → mid ≡ left_at kept (plain_of t k input) rest →
    new ≡ put_at k.window.owner mid (value_in (locals_of (plain_of t k input)) (Some x)) → next (classes_of t) (plain_of t k input) ≡ Went new
giving-ends t k input line kept x rest o mid new is some at mid_is new_is =
    let given = value_in (locals_of (plain_of t k input)) (Some x) in
    giving-next t k input line kept x rest is
    ∙ ap (stepped line) (ends kept x (record (plain_of t k input) { items = rest }) (window_of k.window) (map window_of (reverse k.outer)) o
    (windows-some k.outer some) at)
    ∙ ap (λ q. Went (put_at k.window.owner q given)) (sym mid_is) ∙ ap Went (sym new_is)
