-- Each block whose code stands at an address is told there.
use Rattle.std.proofs.Common.{◌≡◌, ℕ, zero, suc, ◌+◌, ◌-◌, ◌≤◌, ◌<◌, max, Bool as Truth, true, false, if◌then◌else◌}
use Rattle.std.proofs.Common.{List, [], ◌∷◌, ◌++◌, length, drop}
use Rattle.std.proofs.Common.{Some, None, refl, sym, ap, ◌∙◌, subst, arith}
use Rattle.std.proofs.Math.Nat.{le-max_left, le-max_right}
use Rattle.std.proofs.lemmas.List.{length-append, length-drop}
use Rattle.std.proofs.lemmas.Option.{same_Some}
use Rattle.rg_base.specs.declared.ty.Ty.{Ty}
use Rattle.rg_code.specs.declared.op.Op.{Op}
use Rattle.rg_code.specs.declared.op.Op.TheVariants as i
use Rattle.rg_code.specs.Lowering.{clears, operator_code, gap}
use Rattle.rg_verify_expressions.specs.Raised.{Raised, neg, not, binary, ops_of}
use Rattle.rg_verify_expressions.specs.Statements.{Right, value, new, new_tmp, new_iso, Kind, declare, assign, write}
use Rattle.rg_verify_expressions.specs.Statements.{write_element, call, swap, branch, while, enter, enter_field, print, collect, return, Else, no_else, otherwise}
use Rattle.rg_verify_expressions.specs.Statements.{Block, empty, next, used, types_behind, whole_ops, right_ops, kind_ops, block_ops}
use Rattle.rg_verify_expressions.specs.Signs.{mark_of, closing_of}
use Rattle.rg_verify_expressions.specs.Blocks.{Given, sign, Inner, kind_told, starts_by, starts, is_last, followed, block_by, statements, block_told, Piece}
use Rattle.rg_verify_expressions.specs.Standing.{kind_depth, else_depth, block_depth, returns, Closes, BlockStand, StandingBlocksAreTold}
use Rattle.rg_verify_expressions.specs.Standing.{BlocksStandOnce}
use Rattle.rg_verify_expressions.proofs.Pieces.{piece-parts, piece-is}
use Rattle.rg_verify_expressions.proofs.Reading.{bind-is, first, behind, stays}
use Rattle.rg_verify_expressions.proofs.KindsAgain.{Tells, ElseTells, KindTells, IsMark, kind-marked, kind-told}

-- Code that doesn't begin with what ends a block

abbrev IsOpen : List Op → Type 0
IsOpen [] = ⊥
IsOpen (o ∷ os) = closing_of o ≡ None

open-more : (xs ys : List Op) → IsOpen xs → IsOpen (xs ++ ys)
open-more [] ys h = absurd h
open-more (x ∷ xs) ys h = h

expression-open : (e : Raised) (at : ℕ) → IsOpen (ops_of at e)
expression-open (neg a) at = open-more (ops_of at a) (i.Neg ∷ []) (expression-open a at)
expression-open (not a) at = open-more (ops_of at a) (i.Not ∷ []) (expression-open a at)
expression-open (binary o a b) at =
    let left = ops_of at a in
    let middle : ℕ = at + length left + gap o in
    let right = ops_of middle b in
    open-more left (operator_code o (middle + length right) right) (expression-open a at)
expression-open _ at = refl

whole-open : (types : List Ty) (e : Raised) (at : ℕ) (os : List Op) → IsOpen (whole_ops types at e ++ os)
whole-open types e at os =
    open-more (whole_ops types at e) os (open-more (ops_of at e) (clears (used types e)) (expression-open e at))

right-open : (types : List Ty) (r : Right) (at : ℕ) (os : List Op) → IsOpen (right_ops types at r ++ os)
right-open types (value e) at os = whole-open types e at os
right-open types (new c None) at os = refl
right-open types (new c (Some e)) at os =
    open-more (ops_of at e ++ i.NewArray c ∷ []) os (open-more (ops_of at e) (i.NewArray c ∷ []) (expression-open e at))
right-open types (new_tmp c None) at os = refl
right-open types (new_tmp c (Some e)) at os =
    open-more (ops_of at e ++ i.NewTmpArray c ∷ []) os (open-more (ops_of at e) (i.NewTmpArray c ∷ []) (expression-open e at))
right-open types (new_iso c None m) at os = refl
right-open types (new_iso c (Some e) m) at os =
    open-more (ops_of at e ++ i.NewIsoArray c m ∷ []) os (open-more (ops_of at e) (i.NewIsoArray c m ∷ []) (expression-open e at))
right-open types _ at os = refl

-- a statement is its mark, and then no end of a block
kind-open : (types : List Ty) (at line : ℕ) (k : Kind) → (os : List Op) × (kind_ops types at line k ≡ i.Mark line ∷ os) × IsOpen os
kind-open types at line (declare t r) = (_, refl, right-open types r (at + 1) _)
kind-open types at line (assign s r) = (_, refl, right-open types r (at + 1) _)
kind-open types at line (branch e b other) = (_, refl, whole-open types e (at + 1) _)
kind-open types at line (while e b) = (_, refl, whole-open types e (at + 1) _)
kind-open types at line (print e) = (_, refl, whole-open types e (at + 1) _)
kind-open types at line (return e) = (_, refl, whole-open types e (at + 1) _)
kind-open types at line _ = (_, refl, refl)

kind-long : (types : List Ty) (at line : ℕ) (k : Kind) → 1 ≤ length (kind_ops types at line k)
kind-long types at line k =
    let (os, is, h) = kind-open types at line k in
    let long : length (kind_ops types at line k) ≡ suc (length os) = ap length is in
    omega (arith, long)

block-deep : (b : Block) → 1 ≤ block_depth b
block-deep empty = omega arith
block-deep (next line k b) =
    let le : suc (kind_depth k) ≤ max (suc (kind_depth k)) (block_depth b) = le-max_left (suc (kind_depth k)) (block_depth b) in
    omega (arith, le)

module _ (g : Given) where
  -- where a statement stands, it starts
  starts-told : (types : List Ty) (at line end : ℕ) (k : Kind) → Piece g.ops at (kind_ops types at line k) end → starts g.ops at ≡ Some line
  starts-told types at line end k p =
      let (os, is, h) = kind-open types at line k in
      bind-is (sign mark_of g.ops at) _ line (kind-marked g types at end line k p)
      ∙ ap (starts_by line) (by os h (behind (piece-is g.ops is p)))
    where
      by : (os : List Op) → IsOpen os → Piece g.ops (suc at) os end → sign closing_of g.ops (suc at) ≡ None
      by [] h q = absurd h
      by (o ∷ os) h q = first _ q ∙ h

  -- where a block ends, none does
  ends-told : (end : ℕ) → Closes g.ops end false → starts g.ops end ≡ None
  ends-told end ((line, m), c) = bind-is (sign mark_of g.ops end) _ line m ∙ ap (starts_by line) c

  -- a block that isn't the empty one behind a `return` begins with a mark
  begins : (types : List Ty) (at end : ℕ) (b : Block) → BlockStand g types at b end → IsMark g at
  begins types at end empty s = subst (λ (n : ℕ). IsMark g n) (sym (stays s.code)) s.closes.0
  begins types at end (next line k b) s =
      let one = kind_ops types at line k in
      let (front, rest) = piece-parts g.ops at end one (block_ops (types_behind types k) (at + length one) b) s.code in
      (line, kind-marked g types at (at + length one) line k front)

  -- a statement that was told, and those behind it
  followed-told : (others : Inner) (types : List Ty) (line mid end : ℕ) (k : Kind) (b : Block) (last : Truth) → (last ≡ true → b ≡ empty)
      → Piece g.ops mid (block_ops (types_behind types k) mid b) end
      → (last ≡ false → others (types_behind types k) mid ≡ Some (b, end))
      → followed others types line k mid last ≡ Some (next line k b, end)
  followed-told others types line mid end k b true alone p tells =
      let is : b ≡ empty = alone refl in
      let q : Piece g.ops mid [] end = piece-is g.ops (ap (block_ops (types_behind types k) mid) is) p in
      ap (λ (c : Block). Some (next line k c, mid)) (sym is) ∙ ap (λ (n : ℕ). Some (next line k b, n)) (stays q)
  followed-told others types line mid end k b false alone p tells = bind-is (others (types_behind types k) mid) _ (b, end) (tells refl)

  -- a block that begins with a statement
  module _ (types : List Ty) (at line end : ℕ) (k : Kind) (b : Block) (s : BlockStand g types at (next line k b) end) where
    abbrev mid : ℕ
    mid = at + length (kind_ops types at line k)

    next-parts : Piece g.ops at (kind_ops types at line k) mid × Piece g.ops mid (block_ops (types_behind types k) mid b) end
    next-parts = piece-parts g.ops at end (kind_ops types at line k) (block_ops (types_behind types k) mid b) s.code

    others-stand : is_last k ≡ false → BlockStand g (types_behind types k) mid b end
    others-stand e = record {
      code = next-parts.1;
      fits = s.fits.2;
      closes = subst (λ (r : Truth). Closes g.ops end (if r then true else returns b)) e s.closes;
    }

    next-told : (inner others : Inner) → KindTells g inner k
        → (BlockStand g (types_behind types k) mid b end → others (types_behind types k) mid ≡ Some (b, end))
        → block_by g inner others types at (starts g.ops at) ≡ Some (next line k b, end)
    next-told inner others tells rest =
        ap (block_by g inner others types at) (starts-told types at line mid k next-parts.0)
        ∙ bind-is (kind_told g inner types line at) _ (k, mid)
        (kind-told g types inner line at mid k tells s.fits.0 (λ e. begins (types_behind types k) mid end b (others-stand e)) next-parts.0)
        ∙ followed-told others types line mid end k b (is_last k) s.fits.1 next-parts.1 (λ e. rest (others-stand e))

  empty-told : (inner others : Inner) (types : List Ty) (at end : ℕ) → BlockStand g types at empty end
      → block_by g inner others types at (starts g.ops at) ≡ Some (empty, end)
  empty-told inner others types at end s =
      let same = stays s.code in
      ap (λ (n : ℕ). block_by g inner others types n (starts g.ops n)) same
      ∙ ap (block_by g inner others types end) (ends-told end s.closes)

  -- Turns

  turns : (d : ℕ) (types : List Ty) (at : ℕ) → block_told g (suc d) types at ≡ statements g (block_told g d) (suc (length g.ops)) types at
  unfolding block_told
  turns d types at = refl

  -- there are as many as instructions
  piece-long : (at end : ℕ) (os : List Op) → Piece g.ops at os end → length os ≤ length g.ops
  piece-long at end os p =
      let all : length g.ops - at ≡ length os + length (drop end g.ops) =
      sym (length-drop at g.ops) ∙ ap length p.parts ∙ length-append os (drop end g.ops) in
      omega (arith, all)

  -- the statements of a block in so many turns, with blocks in it so deep
  abbrev TellsIn : (depth : ℕ) → Block → Type 0
  TellsIn d b =
      (n : ℕ) (types : List Ty) (at end : ℕ) → length (block_ops types at b) < n → BlockStand g types at b end
      → statements g (block_told g d) n types at ≡ Some (b, end)

  within : (b : Block) (d : ℕ) → block_depth b ≤ d → ((e : ℕ) → block_depth b ≤ suc e → TellsIn e b) → Tells g (block_told g d) b
  within b zero le tells types at end s = absurd (omega (arith, block-deep b, le))
  within b (suc d) le tells types at end s =
      let long = piece-long at end (block_ops types at b) s.code in
      turns d types at ∙ tells d le (suc (length g.ops)) types at end (omega (arith, long)) s

  mutual
    kind-tells : (k : Kind) (d : ℕ) → kind_depth k ≤ d → KindTells g (block_told g d) k
    kind-tells (branch e b other) d le =
        let first_in : block_depth b ≤ max (block_depth b) (else_depth other) = le-max_left (block_depth b) (else_depth other) in
        let second_in : else_depth other ≤ max (block_depth b) (else_depth other) = le-max_right (block_depth b) (else_depth other) in
        (within b d (omega (arith, first_in, le)) (λ f in_f. block-tells b f in_f), else-tells other d (omega (arith, second_in, le)))
    kind-tells (while e b) d le = within b d le (λ f in_f. block-tells b f in_f)
    kind-tells (enter s c b w) d le = within b d le (λ f in_f. block-tells b f in_f)
    kind-tells (enter_field s ks k c b w) d le = within b d le (λ f in_f. block-tells b f in_f)
    kind-tells (declare t r) d le = tt
    kind-tells (assign s r) d le = tt
    kind-tells (write s ks k r) d le = tt
    kind-tells (write_element s ks e r) d le = tt
    kind-tells (call c) d le = tt
    kind-tells (swap y s ks k) d le = tt
    kind-tells (print e) d le = tt
    kind-tells collect d le = tt
    kind-tells (return e) d le = tt

    else-tells : (other : Else) (d : ℕ) → else_depth other ≤ d → ElseTells g (block_told g d) other
    else-tells no_else d le = tt
    else-tells (otherwise b) d le = within b d le (λ f in_f. block-tells b f in_f)

    block-tells : (b : Block) (d : ℕ) → block_depth b ≤ suc d → TellsIn d b
    block-tells empty d le zero types at end long s = absurd (omega (arith, long))
    block-tells empty d le (suc n) types at end long s = empty-told (block_told g d) (statements g (block_told g d) n) types at end s
    block-tells (next line k b) d le zero types at end long s = absurd (omega (arith, long))
    block-tells (next line k b) d le (suc n) types at end long s =
        let one = kind_ops types at line k in
        let mid : ℕ = at + length one in
        let others = block_ops (types_behind types k) mid b in
        let both : length (one ++ others) ≡ length one + length others = length-append one others in
        let some = kind-long types at line k in
        let kind_in : suc (kind_depth k) ≤ max (suc (kind_depth k)) (block_depth b) = le-max_left (suc (kind_depth k)) (block_depth b) in
        let block_in : block_depth b ≤ max (suc (kind_depth k)) (block_depth b) = le-max_right (suc (kind_depth k)) (block_depth b) in
        next-told types at line end k b s (block_told g d) (statements g (block_told g d) n) (kind-tells k d (omega (arith, kind_in, le)))
        (λ rest. block-tells b d (omega (arith, block_in, le)) n (types_behind types k) mid end (omega (arith, long, both, some)) rest)

pub standing-blocks-are-told : StandingBlocksAreTold
standing-blocks-are-told g depth types at b end le s = within g b depth le (λ d in_d. block-tells g b d in_d) types at end s

pub blocks-stand-once : BlocksStandOnce
blocks-stand-once g types at b c m n s t =
    let depth : ℕ = max (block_depth b) (block_depth c) in
    let x : Block × ℕ = (b, m) in
    let y : Block × ℕ = (c, n) in
    let told_b = standing-blocks-are-told g depth types at b m (le-max_left (block_depth b) (block_depth c)) s in
    let told_c = standing-blocks-are-told g depth types at c n (le-max_right (block_depth b) (block_depth c)) t in
    let both : x ≡ y = same_Some x y (sym told_b ∙ told_c) in
    (ap (λ (z : Block × ℕ). z.0) both, ap (λ (z : Block × ℕ). z.1) both)
