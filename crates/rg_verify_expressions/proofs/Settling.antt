-- Trees that come on a stack, and the code of what stands on it.
use Rattle.std.proofs.Common.{◌≡◌, ◌==◌, ℕ, ◌+◌, ◌<◌, ◌≤◌, Bool, true, false, List, [], ◌∷◌, ◌++◌, length, Some}
use Rattle.std.proofs.Common.{if◌then◌else◌, refl, sym, ap, ◌∙◌, append_assoc, arith}
use Rattle.std.proofs.lemmas.Bool.Decides.{nat_tests}
use Rattle.std.proofs.lemmas.List.{length-append}
use Rattle.rg_code.specs.declared.op.Op.{Op}
use Rattle.rg_code.specs.declared.op.Op.TheVariants as i
use Rattle.rg_code.specs.Lowering.{gap, operator_code}
use Rattle.rg_verify_expressions.specs.declared.part.Junction.{Junction}
use Rattle.rg_verify_expressions.specs.declared.part.Junction.TheVariants as junctions
use Rattle.rg_verify_expressions.specs.Raised.{Raised, element, binary, Front, expression, object, place, ops_of, holder_ops, place_ops, front_ops, fronts_ops}
use Rattle.rg_verify_expressions.specs.Raising.{operator_of, Item, tree, checked, indexed, waits, settle, front_in, fronts}

-- the instruction of a junction
abbrev pub jump_of : Junction → (to : ℕ) → Op
jump_of junctions.And to = i.And to
jump_of junctions.Or to = i.Or to

pub junction-code : (j : Junction) (to : ℕ) (right : List Op) → operator_code (operator_of j) to right ≡ jump_of j to ∷ right
junction-code junctions.And to right = refl
junction-code junctions.Or to right = refl

pub junction-gap : (j : Junction) → gap (operator_of j) ≡ 1
junction-gap junctions.And = refl
junction-gap junctions.Or = refl

-- the code of an element is that of its place, and one instruction more
pub element-ops : (n : ℕ) (s : ℕ) (ks : List ℕ) (a : Raised) (o : Op) → o ≡ i.Element → ops_of n (element s ks a) ≡ place_ops n s ks a ++ o ∷ []
element-ops n s ks a o is =
    let array = holder_ops s ks in
    let code = ops_of (n + length array) a in
    ap (λ (os : List Op). array ++ os) (sym (append_assoc code (i.Bound ∷ []) (i.Element ∷ [])))
    ∙ sym (append_assoc array (code ++ i.Bound ∷ []) (i.Element ∷ []))
    ∙ ap (λ (q : Op). (array ++ (code ++ i.Bound ∷ [])) ++ q ∷ []) (sym is)

-- the code of what stands on a stack, the lowest item's from an address on

abbrev pub item_ops : (at : ℕ) → Item → List Op
item_ops at (tree r) = ops_of at r
item_ops at (checked s ks) = holder_ops s ks
item_ops at (indexed s ks e) = place_ops at s ks e
item_ops at (waits j a to) = ops_of at a ++ jump_of j to ∷ []

abbrev pub items_ops : (at : ℕ) → List Item → List Op
items_ops at [] = []
items_ops at (item ∷ below) =
    let front = items_ops at below in
    front ++ item_ops (at + length front) item

-- the code of a junction with both operands
junction-ops : (at : ℕ) (j : Junction) (a r : Raised) (to : ℕ)
    → to ≡ at + length (ops_of at a ++ jump_of j to ∷ []) + length (ops_of (at + length (ops_of at a ++ jump_of j to ∷ [])) r)
    → ops_of at (binary (operator_of j) a r) ≡ (ops_of at a ++ jump_of j to ∷ []) ++ ops_of (at + length (ops_of at a ++ jump_of j to ∷ [])) r
junction-ops at j a r to e =
    let left = ops_of at a in
    let middle : at + length left + gap (operator_of j) ≡ at + length (left ++ jump_of j to ∷ []) =
    omega (arith, junction-gap j, length-append left (jump_of j to ∷ [])) in
    let right = ops_of (at + length (left ++ jump_of j to ∷ [])) r in
    ap (λ (m : ℕ). left ++ operator_code (operator_of j) (m + length (ops_of m r)) (ops_of m r)) middle
    ∙ ap (λ (n : ℕ). left ++ operator_code (operator_of j) n right) (sym e)
    ∙ ap (λ (os : List Op). left ++ os) (junction-code j to right)
    ∙ sym (append_assoc left (jump_of j to ∷ []) right)

-- a tree that comes adds its code
pub settle-ops : (at end : ℕ) (r : Raised) (items : List Item)
    → end ≡ at + length (items_ops at items) + length (ops_of (at + length (items_ops at items)) r)
    → items_ops at (settle end r items) ≡ items_ops at items ++ ops_of (at + length (items_ops at items)) r
settle-ops at end r [] e = refl
settle-ops at end r (tree a ∷ below) e = refl
settle-ops at end r (checked s ks ∷ below) e = refl
settle-ops at end r (indexed s ks a ∷ below) e = refl
settle-ops at end r (waits j a to ∷ below) e = by (λ long. settle-ops at end (binary (operator_of j) a r) below long) (to == end) refl
  where
    front : List Op
    front = items_ops at below

    here : ℕ
    here = at + length front

    left : List Op
    left = ops_of here a ++ jump_of j to ∷ []

    len : length (front ++ left) ≡ length front + length left
    len = length-append front left

    Below : Type 0
    Below = end ≡ here + length (ops_of here (binary (operator_of j) a r))
        → items_ops at (settle end (binary (operator_of j) a r) below) ≡ front ++ ops_of here (binary (operator_of j) a r)

    by : Below → (b : Bool) → (to == end) ≡ b → items_ops at (if b then settle end
        (binary (operator_of j) a r) below else tree r ∷ waits j a to ∷ below)
        ≡ (front ++ left) ++ ops_of (at + length (front ++ left)) r
    by under false f = refl
    by under true f =
        let same : to ≡ end = grind (arith, nat_tests, f) in
        let place : at + length (front ++ left) ≡ here + length left = omega (arith, len) in
        let goes : to ≡ here + length left + length (ops_of (here + length left) r) =
        same ∙ e ∙ ap (λ (n : ℕ). n + length (ops_of n r)) place in
        let whole : ops_of here (binary (operator_of j) a r) ≡ left ++ ops_of (here + length left) r = junction-ops here j a r to goes in
        let long : end ≡ here + length (ops_of here (binary (operator_of j) a r)) =
        sym same ∙ goes ∙ omega (arith, length-append left (ops_of (here + length left) r)) ∙ ap (λ (os : List Op). here + length os) (sym whole) in
        under long
        ∙ ap (λ (os : List Op). front ++ os) whole
        ∙ sym (append_assoc front left (ops_of (here + length left) r))
        ∙ ap (λ (n : ℕ). (front ++ left) ++ ops_of n r) (sym place)

-- one more front behind the code of a stack
front-more : (at : ℕ) (front : List Op) (f : Front) (done rs : List Front)
    → front ++ fronts_ops (at + length front) (f ∷ done) ≡ fronts_ops at rs
    → (front ++ front_ops (at + length front) f) ++ fronts_ops (at + length (front ++ front_ops (at + length front) f)) done ≡ fronts_ops at rs
front-more at front f done rs h =
    let first = front_ops (at + length front) f in
    let there : at + length (front ++ first) ≡ at + length front + length first = omega (arith, length-append front first) in
    append_assoc front first (fronts_ops (at + length (front ++ first)) done)
    ∙ ap (λ (n : ℕ). front ++ (first ++ fronts_ops n done)) there
    ∙ h

-- the fronts of a stack in front of others have their code in order
pub all-fronts-ops : (at : ℕ) (items : List Item) (done rs : List Front) → fronts items done ≡ Some rs
    → items_ops at items ++ fronts_ops (at + length (items_ops at items)) done ≡ fronts_ops at rs
all-fronts-ops at [] done rs e =
    let zeroth : at + 0 ≡ at = omega arith in
    let same : done ≡ rs = cc in
    ap (λ (n : ℕ). fronts_ops n done) zeroth ∙ ap (fronts_ops at) same
all-fronts-ops at (waits j a to ∷ below) done rs e = absurd cc
all-fronts-ops at (tree r ∷ below) done rs e =
    front-more at (items_ops at below) (expression r) done rs (all-fronts-ops at below (expression r ∷ done) rs e)
all-fronts-ops at (checked s ks ∷ below) done rs e =
    front-more at (items_ops at below) (object s ks) done rs (all-fronts-ops at below (object s ks ∷ done) rs e)
all-fronts-ops at (indexed s ks a ∷ below) done rs e =
    front-more at (items_ops at below) (place s ks a) done rs (all-fronts-ops at below (place s ks a ∷ done) rs e)

-- what waits on top of a stack waits for this end, or for one behind it
abbrev pub Waits : (end : ℕ) → List Item → Type 0
Waits end [] = Unit {0}
Waits end (tree a ∷ below) = Unit {0}
Waits end (checked s ks ∷ below) = Unit {0}
Waits end (indexed s ks e ∷ below) = Unit {0}
Waits end (waits j a to ∷ below) = end ≤ to

-- before that, a tree just comes on top
pub settle-before : (here end : ℕ) (r : Raised) (items : List Item) → here < end → Waits end items → settle here r items ≡ tree r ∷ items
settle-before here end r [] lt w = refl
settle-before here end r (tree a ∷ below) lt w = refl
settle-before here end r (checked s ks ∷ below) lt w = refl
settle-before here end r (indexed s ks e ∷ below) lt w = refl
settle-before here end r (waits j a to ∷ below) lt w =
    let other : (to == here) ≡ false = grind (arith, nat_tests, lt, w) in
    rw other refl

-- where nothing waits on top, a tree comes on top
abbrev pub Rests : List Item → Type 0
Rests [] = Unit {0}
Rests (tree a ∷ below) = Unit {0}
Rests (checked s ks ∷ below) = Unit {0}
Rests (indexed s ks e ∷ below) = Unit {0}
Rests (waits j a to ∷ below) = ⊥

pub settle-rests : (end : ℕ) (r : Raised) (items : List Item) → Rests items → settle end r items ≡ tree r ∷ items
settle-rests end r [] w = refl
settle-rests end r (tree a ∷ below) w = refl
settle-rests end r (checked s ks ∷ below) w = refl
settle-rests end r (indexed s ks e ∷ below) w = refl
settle-rests end r (waits j a to ∷ below) w = absurd w

-- what waits for this end takes the tree
pub settle-taken : (end : ℕ) (r : Raised) (j : Junction) (a : Raised) (items : List Item)
    → settle end r (waits j a end ∷ items) ≡ settle end (binary (operator_of j) a r) items
settle-taken end r j a items =
    let same : (end == end) ≡ true = grind (arith, nat_tests) in
    rw same refl
