-- Jumps over blocks, set once the code behind them is there.
use Rattle.std.proofs.Common.{◌≡◌, refl, sym, ap, ◌∙◌, ℕ, ◌+◌, List, [], ◌∷◌, ◌++◌, length, slice_set, append_assoc, length-append, arith}
use Rattle.std.proofs.Math.Seq.{set-append_seam}
use Rattle.rg_tree.specs.Tree.{Expr, Block, otherwise, Class}
use Rattle.rg_code.specs.declared.op.Op.{Op}
use Rattle.rg_code.specs.declared.op.Op.TheVariants as i
use Rattle.rg_code.specs.Code.{Code, with_op}
use Rattle.rg_code.specs.Lowering.{Scope, whole_code, block_code, else_code}
use Rattle.rg_lower.specs.Inner.Emitted.{with_ops}
use Rattle.rg_lower.specs.Inner.Statements.{test_code, nested_code, loop_code}
use Rattle.rg_lower.proofs.Codes.{emitted-jump}

set-middle : (o w b : List Op) (x y : Op) (j : ℕ) → j ≡ length o + length w → slice_set (o ++ (w ++ x ∷ b)) j y ≡ o ++ (w ++ y ∷ b)
set-middle o w b x y j e =
    ap (λ (n : ℕ). slice_set (o ++ (w ++ x ∷ b)) n y) (e ∙ sym (length-append o w))
    ∙ ap (λ (xs : List Op). slice_set xs (length (o ++ w)) y) (sym (append_assoc o w (x ∷ b)))
    ∙ set-append_seam (o ++ w) x b y ∙ append_assoc o w (y ∷ b)

three-parts : (o w b e : List Op) (x m n : Op) → ((o ++ (w ++ x ∷ [])) ++ (b ++ m ∷ n ∷ [])) ++ e ≡ o ++ (w ++ x ∷ (b ++ m ∷ n ∷ e))
three-parts o w b e x m n = simp append_assoc refl

-- a test, a block with its end, and what stands behind it
pub over-block : (cs : List Class) (sc : Scope) (old tested inner behind new : Code) (line : ℕ) (e : Expr) (b : Block) (more : ℕ →
    List Op) (far jump to : ℕ) →
    tested ≡ with_ops old (test_code cs sc (length old.ops) e 0) → jump ≡ length old.ops + length (whole_code cs sc (length old.ops) e) →
    inner ≡ with_ops tested (nested_code cs sc (length tested.ops) line b) → behind ≡ with_ops inner (more (length inner.ops)) →
    to + 2 ≡ length inner.ops + far → new ≡ record behind { ops = slice_set behind.ops jump (i.JumpFalse to) } →
    new ≡ with_ops old (
    let test = whole_code cs sc (length old.ops) e in
    let inside = length old.ops + length test + 1 in
    let block = block_code cs sc inside b in
    test ++ i.JumpFalse (inside + length block + far) ∷ (block ++ i.Mark line ∷ i.End (length sc) ∷ more (inside + length block + 2)))
over-block cs sc old tested inner behind new line e b more far jump to t j n h z s =
    let test : List Op = whole_code cs sc (length old.ops) e in
    let inside : ℕ = length old.ops + length test + 1 in
    let block : List Op = block_code cs sc inside b in
    let x : Op = i.JumpFalse 0 in
    let m : Op = i.Mark line in
    let d : Op = i.End (length sc) in
    let n1 : length tested.ops ≡ inside = rw t (omega (arith, length-append old.ops (test ++ x ∷ []), length-append test (x ∷ []))) in
    let i' : inner ≡ with_ops tested (block ++ m ∷ d ∷ []) = rw n1 at n in
    let n2 : length inner.ops ≡ inside + length block + 2 =
    ap (λ (c : Code). length c.ops) i' ∙ (omega (arith, n1, length-append tested.ops (block ++ m ∷ d ∷ []), length-append block (m ∷ d ∷ []))) in
    let rest : List Op = more (inside + length block + 2) in
    let h' : behind ≡ with_ops inner rest = rw n2 at h in
    let far' : to ≡ inside + length block + far = omega (arith, n2, z) in
    let whole : behind ≡ with_ops old (test ++ x ∷ (block ++ m ∷ d ∷ rest)) =
    rw (h', i', t) (ap (λ (ops : List Op). record old { ops = ops }) (three-parts old.ops test block rest x m d)) in
    rw (s, whole, far') (ap (λ (ops : List Op). record old { ops = ops })
    (set-middle old.ops test (block ++ m ∷ d ∷ rest) x (i.JumpFalse (inside + length block + far)) jump j))

-- `while e { .. }`
pub over-loop : (cs : List Class) (sc : Scope) (old tested inner pushed new : Code) (head line : ℕ) (e : Expr) (b : Block) (jump to : ℕ) →
    tested ≡ with_ops old (test_code cs sc (length old.ops) e 0) → jump ≡ length old.ops + length (whole_code cs sc (length old.ops) e) →
    inner ≡ with_ops tested (nested_code cs sc (length tested.ops) line b) → pushed ≡ with_op inner (i.Jump head) →
    to ≡ length pushed.ops → new ≡ record pushed { ops = slice_set pushed.ops jump (i.JumpFalse to) } →
    new ≡ with_ops old (loop_code cs sc head (length old.ops) line e b)
over-loop cs sc old tested inner pushed new head line e b jump to t j n p z s =
    let z' : to + 2 ≡ length inner.ops + 3 = rw (z, p) (omega (arith, length-append inner.ops (i.Jump head ∷ []))) in
    over-block cs sc old tested inner pushed new line e b (λ at. i.Jump head ∷ []) 3 jump to t j n p z' s

-- `else { .. }`
pub over-else : (cs : List Class) (sc : Scope) (old pushed inner new : Code) (line : ℕ) (b : Block) (over end : ℕ) →
    over ≡ length old.ops → pushed ≡ with_op old (i.Jump 0) → inner ≡ with_ops pushed (nested_code cs sc (length pushed.ops) line b) →
    end ≡ length inner.ops → new ≡ record inner { ops = slice_set inner.ops over (i.Jump end) } →
    new ≡ with_ops old (else_code cs sc (length old.ops) line (otherwise b))
over-else cs sc old pushed inner new line b over end o p n z s =
    let block : List Op = block_code cs sc (length old.ops + 1) b in
    let tail : List Op = block ++ i.Mark line ∷ i.End (length sc) ∷ [] in
    let n1 : length pushed.ops ≡ length old.ops + 1 = rw p (length-append old.ops (i.Jump 0 ∷ [])) in
    let n' : inner ≡ with_ops pushed tail = rw n1 at n in
    let far : end ≡ length old.ops + 1 + length block + 2 =
    z ∙ ap (λ (c : Code). length c.ops) n'
    ∙ (omega (arith, n1, length-append pushed.ops tail, length-append block (i.Mark line ∷ i.End (length sc) ∷ []))) in
    emitted-jump old pushed inner new (i.Jump 0) (i.Jump end) tail over o p n' s ∙ ap (λ (t : ℕ). with_ops old (i.Jump t ∷ tail)) far
