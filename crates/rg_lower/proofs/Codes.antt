-- Code that grows behind its end.
use Rattle.std.proofs.Common.{◌≡◌, sym, ap, ◌∙◌, ℕ, ◌+◌, ◌<◌, List, [], ◌∷◌, ◌++◌, map, length, slice_set, append_assoc, append-nil}
use Rattle.std.proofs.Common.{length-append, arith}
use Rattle.std.proofs.Math.Seq.{set-append_seam}
use Rattle.rg_base.specs.declared.ty.Ty.{Ty}
use Rattle.rg_tree.specs.declared.rows.BinOp.{BinOp}
use Rattle.rg_tree.specs.Tree.{Expr, Class}
use Rattle.rg_tree.specs.Rows.Tables.{Tables, name_at}
use Rattle.rg_tree.specs.Rows.RowTrees.{classes_of}
use Rattle.rg_code.specs.declared.op.Op.{Op}
use Rattle.rg_code.specs.declared.op.Op.TheVariants as i
use Rattle.rg_code.specs.Code.{Code, with_op}
use Rattle.rg_code.specs.Lowering.{Scope, field_number, type_behind, type_along, fields_code, gap, operator_code, expr_code}
use Rattle.rg_lower.specs.Inner.Emitted.{with_ops, behind_code}

pub with_ops-none : (c : Code) → with_ops c [] ≡ c
with_ops-none c = ap (λ (ops : List Op). record c { ops = ops }) (append-nil c.ops)

-- one piece behind another
pub with_ops-then : (c : Code) (a b : List Op) → with_ops (with_ops c a) b ≡ with_ops c (a ++ b)
with_ops-then c a b = ap (λ (ops : List Op). record c { ops = ops }) (append_assoc c.ops a b)

-- a piece, and then another whose code depends on where it stands
pub emitted-then : (old mid new : Code) (a : List Op) (b : ℕ → List Op) → mid ≡ with_ops old a → new ≡ with_ops mid (b (length mid.ops))
    → new ≡ with_ops old (a ++ b (length old.ops + length a))
emitted-then old mid new a b m n = rw (n, m, length-append old.ops a) (with_ops-then old a _)

-- a jump is set behind what it jumps over
pub emitted-jump : (old pushed mid new : Code) (x y : Op) (b : List Op) (i : ℕ) → i ≡ length old.ops → pushed ≡ with_op old x →
    mid ≡ with_ops pushed b
    → new ≡ record mid { ops = slice_set mid.ops i y } → new ≡ with_ops old (y ∷ b)
emitted-jump old pushed mid new x y b i at p m n =
    let e : (old.ops ++ x ∷ []) ++ b ≡ old.ops ++ x ∷ b = append_assoc old.ops (x ∷ []) b in
    rw (n, m, p, e, at) (ap (λ (ops : List Op). record old { ops = ops }) (set-append_seam old.ops x b y))

-- where a jump was pushed there is an instruction
pub jump-there : (old pushed mid : Code) (x : Op) (b : List Op) → pushed ≡ with_op old x → mid ≡ with_ops pushed b → length old.ops < length mid.ops
jump-there old pushed mid x b p m = rw (m, p) (omega (arith, length-append (old.ops ++ x ∷ []) b, length-append old.ops (x ∷ [])))

-- `and` and `or` behind their left operand
pub behind-jump : (cs : List Class) (sc : Scope) (old pushed mid new : Code) (x y : Op) (o : BinOp) (e : Expr) (i end : ℕ) → gap o ≡ 1 →
    i ≡ length old.ops
    → pushed ≡ with_op old x → mid ≡ with_ops pushed (expr_code cs sc (length pushed.ops) e) → end ≡ length mid.ops
    → ((right : List Op) → operator_code o end right ≡ y ∷ right) → new ≡ record mid { ops = slice_set mid.ops i y }
    → new ≡ with_ops old (behind_code cs sc (length old.ops) o e)
behind-jump cs sc old pushed mid new x y o e i end g at p m z h s =
    let middle : length pushed.ops ≡ length old.ops + gap o = rw (p, g) (length-append old.ops (x ∷ [])) in
    let r = expr_code cs sc (length old.ops + gap o) e in
    let m' : mid ≡ with_ops pushed r = rw middle at m in
    let k : end ≡ length old.ops + gap o + length r =
    z ∙ ap (λ (c : Code). length c.ops) m' ∙ length-append pushed.ops r ∙ ap (λ (n : ℕ). n + length r) middle in
    emitted-jump old pushed mid new x y r i at p m' s ∙ ap (λ (ops : List Op). with_ops old ops) (sym (rw k at h r))

-- from a type some fields have led to another, and others are left
pub record FollowedTo (t : Tables) (old : Code) (from : Ty) (fields : List ℕ) (code : Code) (here : Ty) (rest : List ℕ) : Type 0 where
  pub code_is : with_ops code (fields_code (classes_of t) here (map (name_at t) rest))
      ≡ with_ops old (fields_code (classes_of t) from (map (name_at t) fields))
  pub ty_is : type_along (classes_of t) here (map (name_at t) rest) ≡ type_along (classes_of t) from (map (name_at t) fields)

pub FollowedTo-step : (t : Tables) (old : Code) (from : Ty) (fields : List ℕ) (code : Code) (here : Ty) (f : ℕ) (rest : List ℕ)
    (next : Code) (ty : Ty) →
    FollowedTo t old from fields code here (f ∷ rest) → next ≡ with_op code (i.Field (field_number (classes_of t) here (name_at t f))) →
    ty ≡ type_behind (classes_of t) here (name_at t f) → FollowedTo t old from fields next ty rest
FollowedTo-step t old from fields code here f rest next ty w n e = record {
  code_is = rw (n, e) (with_ops-then code (i.Field (field_number (classes_of t) here (name_at t f)) ∷ []) _ ∙ w.code_is);
  ty_is = rw e w.ty_is;
}
