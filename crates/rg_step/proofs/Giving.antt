-- A step's code ends a window with `giving` exactly where the first thing to do does.
use Rattle.std.proofs.Common.{◌≡◌, ℕ, ◌+◌, Bool as Truth, true, false, true≢false, inl, inr, List, [], ◌∷◌, ◌++◌, length, drop, Option, Some, None}
use Rattle.std.proofs.Common.{slice_get, refl, sym, ap, ◌∙◌, subst}
use Rattle.std.proofs.lemmas.List.{drop-drop}
use Rattle.rg_tree.specs.Tree.{Variable, Name, Expr, number, boolean, nil, path, is_nil, neg, not, binary, size, element, Right}
use Rattle.rg_tree.specs.Tree.{value, new, new_tmp, new_iso, freeze, merge, read, more, result_of, stmt, StmtKind, declare, assign, assign_element}
use Rattle.rg_tree.specs.Tree.{call, swap, branch, while, enter, print, collect, return, Class, Tree}
use Rattle.rg_rules.specs.Bodies.{is_return}
use Rattle.rg_rules.specs.Items.{Item, Do, EndAt, LeaveAt, LeaveGiving, Back}
use Rattle.rg_rules.specs.State.{Frame as Body, State, Window as Opened}
use Rattle.rg_sound.specs.Frames.{FramesFit}
use Rattle.rg_code.specs.declared.op.Op.{Op}
use Rattle.rg_code.specs.declared.op.Op.TheVariants as i
use Rattle.rg_code.specs.Code.{Code}
use Rattle.rg_code.specs.Lowering.{Scope, slot_of, expr_code, new_code, right_code, assign_code, swap_code, enter_code, kind_code, scope_behind}
use Rattle.rg_code.specs.Places.{is_mark, scope_of, Level, Lies}
use Rattle.rg_stack.specs.Machine.{Frame, Machine}
use Rattle.rg_stack.specs.Shows.{ShowsFrames, levels_of}
use Rattle.rg_stack.specs.Left.{SomeLeft}
use Rattle.rg_stack.proofs.Callers.Left.{do-other, running-left}
use Rattle.rg_stack.proofs.Callers.Mark.{drop-stands, first-drop, lies_at_mark}
use Rattle.rg_step.specs.Writes.{gives, gives_at}
use Rattle.rg_step.specs.Steps.{Runs}

-- whether the first thing to do ends a window with `giving`
abbrev pub first_gives : List Item → Truth
first_gives (LeaveGiving line k w ∷ rest) = true
first_gives _ = false

-- whether the first of some instructions does
abbrev gives_first : List Op → Truth
gives_first os = gives (slice_get os 0)

-- What begins with an instruction that doesn't

-- whatever stands behind some instructions
abbrev Firm : List Op → Type 0
Firm ops = (rest : List Op) → gives_first (ops ++ rest) ≡ false

firm-front : (xs ys : List Op) → Firm xs → Firm (xs ++ ys)
firm-front [] ys h rest = h (ys ++ rest)
firm-front (x ∷ xs) ys h rest = h rest

firm-expr : (classes : List Class) (scope : Scope) (at : ℕ) (e : Expr) → Firm (expr_code classes scope at e)
firm-expr classes scope at (number z) rest = refl
firm-expr classes scope at (boolean b) rest = refl
firm-expr classes scope at nil rest = refl
firm-expr classes scope at (path p) rest = refl
firm-expr classes scope at (is_nil p) rest = refl
firm-expr classes scope at (size q) rest = refl
firm-expr classes scope at (element q e) rest = refl
firm-expr classes scope at (neg a) rest = firm-front (expr_code classes scope at a) _ (firm-expr classes scope at a) rest
firm-expr classes scope at (not a) rest = firm-front (expr_code classes scope at a) _ (firm-expr classes scope at a) rest
firm-expr classes scope at (binary o a b) rest = firm-front (expr_code classes scope at a) _ (firm-expr classes scope at a) rest

firm-whole : (classes : List Class) (scope : Scope) (at : ℕ) (e : Expr) (behind : List Op) → Firm (expr_code classes scope at e ++ behind)
firm-whole classes scope at e behind = firm-front (expr_code classes scope at e) behind (firm-expr classes scope at e)

firm-new : (classes : List Class) (scope : Scope) (at : ℕ) (object array : Op) (n : Option Expr) → Firm (object ∷ [])
    → Firm (new_code classes scope at object array n)
firm-new classes scope at object array None h = h
firm-new classes scope at object array (Some e) h = firm-whole classes scope at e (array ∷ [])

firm-right : (classes : List Class) (scope : Scope) (at : ℕ) (r : Right) → Firm (right_code classes scope at r)
firm-right classes scope at (value e) rest = firm-whole classes scope at e _ rest
firm-right classes scope at (new x n) rest = firm-new classes scope at _ _ n (λ rest. refl) rest
firm-right classes scope at (new_tmp x n) rest = firm-new classes scope at _ _ n (λ rest. refl) rest
firm-right classes scope at (new_iso x n m) rest = firm-new classes scope at _ _ n (λ rest. refl) rest
firm-right classes scope at (freeze y) rest = refl
firm-right classes scope at (merge y) rest = refl
firm-right classes scope at read rest = refl
firm-right classes scope at more rest = refl
firm-right classes scope at (result_of c) rest = refl

firm-assign : (classes : List Class) (scope : Scope) (at : ℕ) (x : Variable) (fs : List Name) (r : Right) → Firm (assign_code classes scope at x fs r)
firm-assign classes scope at x [] r = firm-front (right_code classes scope at r) _ (firm-right classes scope at r)
firm-assign classes scope at x (f ∷ fs) r = λ rest. refl

firm-enter : (classes : List Class) (scope : Scope) (x : Variable) (fs : List Name) → Firm (enter_code classes scope x fs)
firm-enter classes scope x [] = λ rest. refl
firm-enter classes scope x (f ∷ fs) = λ rest. refl

-- an exchange without a field has no instruction
quiet-swap : (classes : List Class) (scope : Scope) (y : Name) (x : Variable) (fs : List Name) (rest : List Op) → gives_first rest ≡ false
    → gives_first (swap_code classes scope y x fs ++ rest) ≡ false
quiet-swap classes scope y x [] rest h = h
quiet-swap classes scope y x (f ∷ fs) rest h = refl

-- behind its mark no statement begins so, where nothing else does
kind-quiet : (classes : List Class) (scope : Scope) (at line : ℕ) (k : StmtKind) (rest : List Op) → (is_return k ≡ false → gives_first rest ≡ false)
    → gives (slice_get (kind_code classes scope at line k ++ rest) 1) ≡ false
kind-quiet classes scope at line (declare x t r) rest h =
    firm-front (right_code classes scope (at + 1) r) _ (firm-right classes scope (at + 1) r) rest
kind-quiet classes scope at line (assign p r) rest h = firm-assign classes scope (at + 1) p.base p.fields r rest
kind-quiet classes scope at line (assign_element q e r) rest h = refl
kind-quiet classes scope at line (call c) rest h = refl
kind-quiet classes scope at line (swap y p) rest h = quiet-swap classes scope y p.base p.fields rest (h refl)
kind-quiet classes scope at line (branch e b other) rest h =
    firm-front (expr_code classes scope (at + 1) e ++ _) _ (firm-whole classes scope (at + 1) e _) rest
kind-quiet classes scope at line (while e b) rest h =
    firm-front (expr_code classes scope (at + 1) e ++ _) _ (firm-whole classes scope (at + 1) e _) rest
kind-quiet classes scope at line (enter p z b giving) rest h =
    firm-front (enter_code classes scope p.base p.fields) _ (firm-enter classes scope p.base p.fields) rest
kind-quiet classes scope at line (print e) rest h =
    firm-front (expr_code classes scope (at + 1) e ++ _) _ (firm-whole classes scope (at + 1) e _) rest
kind-quiet classes scope at line collect rest h = refl
kind-quiet classes scope at line (return e) rest h =
    firm-front (expr_code classes scope (at + 1) e ++ _) _ (firm-whole classes scope (at + 1) e _) rest

-- The first thing to do

module _ (classes : List Class) (code : List Op) where
  -- a mark gives nothing
  mark-quiet : (o : Option Op) → is_mark o ≡ true → gives o ≡ false
  mark-quiet None e = refl
  mark-quiet (Some (i.Mark line)) e = refl
  mark-quiet (Some o) e = absurd (true≢false (sym e))

  lies-quiet : (ls : List Level) (j : Item) (rest : List Item) (at : ℕ) → Lies classes code ls (j ∷ rest) at → gives_first (drop at code) ≡ false
  lies-quiet ls j rest at h = ap gives (first-drop code at) ∙ mark-quiet (slice_get code at) (lies_at_mark classes code ls j rest at h)

  -- behind a statement that isn't a `return`
  do-quiet : (l : Level) (ls : List Level) (line : ℕ) (k : StmtKind) (j : Item) (rest : List Item) (at : ℕ)
      → Lies classes code (l ∷ ls) (Do (stmt line k) ∷ j ∷ rest) at → is_return k ≡ false
      → gives_first (drop (at + length (kind_code classes l.scope at line k)) code) ≡ false
  do-quiet l ls line (declare x t r) j rest at h e = lies-quiet (record l { scope = scope_behind classes l.scope (declare x t r) } ∷ ls) j rest _ h.1
  do-quiet l ls line (return c) j rest at h e = absurd (true≢false e)
  do-quiet l ls line _ j rest at h e = lies-quiet (l ∷ ls) j rest _ h.1

  -- the instruction behind the one at an address
  second : (at : ℕ) → slice_get code (at + 1) ≡ slice_get (drop at code) 1
  second at = sym (first-drop code (at + 1)) ∙ ap (λ (l : List Op). slice_get l 0) (sym (drop-drop 1 at code)) ∙ first-drop (drop at code) 1

  item-gives : (l : Level) (ls : List Level) (j : Item) (rest : List Item) (at : ℕ) → ((j ≡ EndAt 0 → ⊥) → SomeLeft rest)
      → Lies classes code (l ∷ ls) (j ∷ rest) at → gives (slice_get code (at + 1)) ≡ first_gives (j ∷ rest)
  item-gives l ls (Do (stmt line k)) [] at left h = absurd (left (do-other (stmt line k)))
  item-gives l ls (Do (stmt line k)) (j ∷ rest) at left h =
      ap gives (second at ∙ ap (λ (os : List Op). slice_get os 1) (drop-stands code at (kind_code classes l.scope at line k) h.0.0))
      ∙ kind-quiet classes l.scope at line k (drop (at + length (kind_code classes l.scope at line k)) code) (do-quiet l ls line k j rest at h)
  item-gives l ls (EndAt k) rest at left h =
      ap gives (sym (first-drop code (at + 1)) ∙ ap (λ (os : List Op). slice_get os 0) (drop-stands code (at + 1) (i.End k ∷ []) h.1))
  item-gives l ls (LeaveAt k) rest at left h =
      ap gives (sym (first-drop code (at + 1)) ∙ ap (λ (os : List Op). slice_get os 0) (drop-stands code (at + 1) (i.Leave k ∷ []) h.1))
  item-gives l ls (LeaveGiving line k w) rest at left h =
      ap gives (second at
      ∙ ap (λ (os : List Op). slice_get os 1) (drop-stands code at (i.Mark line ∷ i.LeaveGiving (slot_of l.scope (Some w)) k ∷ []) h.0))
  item-gives l ls Back rest at left h =
      ap gives (sym (first-drop code (at + 1)) ∙ ap (λ (os : List Op). slice_get os 0) (drop-stands code (at + 1) (i.RetVoid ∷ []) h.1))

all-gives : (t : Tree) (code : List Op) (at : ℕ) (mfs : List Frame) (fs : List Body) (ws : List Opened) (items : List Item) → SomeLeft items
    → FramesFit t fs ws items → ShowsFrames mfs fs → Lies t.classes code (levels_of mfs fs) items at
    → gives (slice_get code (at + 1)) ≡ first_gives items
all-gives t code at mfs fs ws [] left frames shows lies = absurd left
all-gives t code at mfs [] ws (j ∷ rest) left frames shows lies = absurd frames
all-gives t code at [] (f ∷ fs) ws (j ∷ rest) left frames shows lies = absurd shows
all-gives t code at (mf ∷ mfs) (f ∷ fs) ws (j ∷ rest) left (inl h) shows lies =
    item-gives t.classes code (record { scope = scope_of f.locals; slots = length mf.slots; target = f.target; back = mf.back }) (levels_of mfs fs)
    j rest at (running-left t f fs ws j rest h) lies
all-gives t code at (mf ∷ mfs) (f ∷ fs) ws (j ∷ rest) left (inr h) shows lies = absurd (subst SomeLeft h.no_item left)

pub runs-give : (t : Tree) (code : Code) (m : Machine) (p : State) → Runs t code m p → gives_at code.ops m ≡ first_gives p.items
runs-give t code m p r =
    let h = r.shows in
    ap (λ n. gives (slice_get code.ops (n + 1))) h.beside.at
    ∙ all-gives t code.ops h.grown.at h.grown.frames p.frames p.windows p.items r.left r.fits.frames h.shows.slots h.shows.places
