-- The items of a block begin where its code stands.
use Rattle.std.proofs.Common.{◌≡◌, ℕ, ◌+◌, true, ◌&&◌, List, [], ◌∷◌, ◌++◌, length, take, drop, Some, refl, sym}
use Rattle.std.proofs.Common.{ap, subst, ◌∙◌, arith, append_assoc, append-nil, length-append, slice_get}
use Rattle.std.proofs.Math.Seq.{drop-append_seam, take-append_seam}
use Rattle.std.proofs.lemmas.List.{drop-drop}
use Rattle.rg_tree.specs.Tree.{stmt, StmtKind, declare, return, Block, empty as none}
use Rattle.rg_tree.specs.Tree.{then as next, Class}
use Rattle.rg_rules.specs.Items.{Item, items_of}
use Rattle.rg_code.specs.declared.op.Op.{Op}
use Rattle.rg_code.specs.declared.op.Op.TheVariants as i
use Rattle.rg_code.specs.Lowering.{Scope, scope_behind, scope_at_end, kind_code, block_code}
use Rattle.rg_code.specs.Places.{Stands, StandsIn, roomy, is_mark, Level, Lies, LiesBehind, Lying}
use Rattle.rg_stack.proofs.Callers.Mark.{drop-stands, first-drop, starts}
use Rattle.rg_stack.proofs.Basics.{and-left, and-right}

pub stands-of : (code : List Op) (at : ℕ) (ops more : List Op) → drop at code ≡ ops ++ more → Stands code at ops
stands-of code at ops more e = ap (take (length ops)) e ∙ take-append_seam ops more

pub stands-front : (code : List Op) (at : ℕ) (xs ys : List Op) → Stands code at (xs ++ ys) → Stands code at xs
stands-front code at xs ys h = stands-of code at xs (ys ++ drop (at + length (xs ++ ys)) code)
    (drop-stands code at (xs ++ ys) h ∙ append_assoc xs ys (drop (at + length (xs ++ ys)) code))

pub stands-back : (code : List Op) (at : ℕ) (xs ys : List Op) → Stands code at (xs ++ ys) → Stands code (at + length xs) ys
stands-back code at xs ys h =
    stands-of code (at + length xs) ys (drop (at + length (xs ++ ys)) code)
    (sym (drop-drop (length xs) at code)
    ∙ ap (drop (length xs)) (drop-stands code at (xs ++ ys) h ∙ append_assoc xs ys (drop (at + length (xs ++ ys)) code))
    ∙ drop-append_seam xs (ys ++ drop (at + length (xs ++ ys)) code))

pub roomy-front : (n : ℕ) (xs ys : List Op) → roomy n (xs ++ ys) ≡ true → roomy n xs ≡ true
roomy-front n [] ys e = refl
roomy-front n (x ∷ xs) ys e = ap (λ t. t && roomy n xs) (and-left _ _ e) ∙ roomy-front n xs ys (and-right _ _ e)

pub roomy-back : (n : ℕ) (xs ys : List Op) → roomy n (xs ++ ys) ≡ true → roomy n ys ≡ true
roomy-back n [] ys e = e
roomy-back n (x ∷ xs) ys e = roomy-back n xs ys (and-right _ _ e)

pub front_in : (code : List Op) (l : Level) (at : ℕ) (xs ys : List Op) → StandsIn code l at (xs ++ ys) → StandsIn code l at xs
front_in code l at xs ys h = (stands-front code at xs ys h.0, roomy-front l.slots xs ys h.1)

pub back_in : (code : List Op) (l : Level) (at : ℕ) (xs ys : List Op) → StandsIn code l at (xs ++ ys) → StandsIn code l (at + length xs) ys
back_in code l at xs ys h = (stands-back code at xs ys h.0, roomy-back l.slots xs ys h.1)

-- a statement that isn't a `return`
abbrev pub GoesOn : StmtKind → Type 0
GoesOn (return e) = ⊥
GoesOn _ = Unit {0}

-- none of a block's statements is a `return`
abbrev pub AllGoOn : Block → Type 0
AllGoOn none = Unit {0}
AllGoOn (next (stmt line k) b) = GoesOn k × AllGoOn b

-- what lies behind such a statement
pub lies_behind : (classes : List Class) (code : List Op) (l : Level) (ls : List Level) (end : ℕ) (k : StmtKind) (lies : Lying) → GoesOn k
    → lies (record l { scope = scope_behind classes l.scope k } ∷ ls) end → LiesBehind classes code l ls end k lies
lies_behind classes code l ls end (return e) lies g h = absurd g
lies_behind classes code l ls end _ lies g h = h

-- the items of a block begin where its code stands, if what is done behind it begins at its end
pub lies_block : (classes : List Class) (code : List Op) (b : Block) (l : Level) (ls : List Level) (at : ℕ) (after : List Item)
    → StandsIn code l at (block_code classes l.scope at b)
    → AllGoOn b
    → Lies classes code (record l { scope = scope_at_end classes l.scope b } ∷ ls) after (at + length (block_code classes l.scope at b))
    → Lies classes code (l ∷ ls) (items_of b after) at
lies_block classes code none l ls at after h g behind = let e : at + 0 ≡ at = omega arith in subst (Lies classes code (l ∷ ls) after) e behind
lies_block classes code (next (stmt line k) b) l ls at after h g behind =
    let first = kind_code classes l.scope at line k in
    let inner = scope_behind classes l.scope k in
    let others = block_code classes inner (at + length first) b in
    let e : at + length (first ++ others) ≡ at + length first + length others = omega (arith, length-append first others) in (
      front_in code l at first others h,
      lies_behind classes code l ls (at + length first) k (λ levels here. Lies classes code levels (items_of b after) here) g.0
          (lies_block classes code b (record l { scope = inner }) ls (at + length first) after (back_in code l at first others h) g.1
          (subst (Lies classes code (record l { scope = scope_at_end classes inner b } ∷ ls) after) e behind)),
    )

-- a statement only adds variables
extends_kind : (classes : List Class) (k : StmtKind) (scope : Scope) → (more : Scope) × (scope_behind classes scope k ≡ scope ++ more)
extends_kind classes (declare x t r) scope = (_, refl)
extends_kind classes _ scope = ([], sym (append-nil scope))

pub extends : (classes : List Class) (b : Block) (scope : Scope) → (more : Scope) × (scope_at_end classes scope b ≡ scope ++ more)
extends classes none scope = ([], sym (append-nil scope))
extends classes (next (stmt line k) b) scope =
    let here = extends_kind classes k scope in
    let h = extends classes b (scope_behind classes scope k) in
    (here.0 ++ h.0, h.1 ∙ ap (λ s. s ++ h.0) here.1 ∙ append_assoc scope here.0 h.0)

-- the variables in front of a block stay behind it
pub take-at_end : (classes : List Class) (b : Block) (scope : Scope) → take (length scope) (scope_at_end classes scope b) ≡ scope
take-at_end classes b scope = let h = extends classes b scope in ap (take (length scope)) h.1 ∙ take-append_seam scope h.0

-- the instruction where one stands
pub get-stands : (code : List Op) (at : ℕ) (o : Op) (more : List Op) → Stands code at (o ∷ more) → slice_get code at ≡ Some o
get-stands code at o more h = sym (first-drop code at) ∙ ap (λ l. slice_get l 0) (drop-stands code at (o ∷ more) h)

-- the code of a block, or what stands behind it, begins with a mark
pub block_starts : (classes : List Class) (scope : Scope) (at line : ℕ) (b : Block) (more : List Op)
    → is_mark (slice_get (block_code classes scope at b ++ i.Mark line ∷ more) 0) ≡ true
block_starts classes scope at line none more = refl
block_starts classes scope at line (next (stmt here k) b) more =
    let first = kind_code classes scope at here k in
    let others = block_code classes (scope_behind classes scope k) (at + length first) b in
    ap (λ l. is_mark (slice_get l 0)) (append_assoc first others (i.Mark line ∷ more)) ∙ starts classes scope at here k (others ++ i.Mark line ∷ more)
