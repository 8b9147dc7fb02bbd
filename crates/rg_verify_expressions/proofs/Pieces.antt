-- Pieces of code, one behind the other, and what is told of an instruction.
use Rattle.std.proofs.Common.{◌≡◌, ◌==◌, ℕ, suc, ◌+◌, Bool as Truth, true, false, List, [], ◌∷◌, ◌++◌, length, drop, slice_get, Option, Some, None}
use Rattle.std.proofs.Common.{refl, sym, ap, ◌∙◌, subst, append_assoc, arith}
use Rattle.std.proofs.lemmas.Bool.{eqb-true}
use Rattle.std.proofs.lemmas.List.{drop-drop, length-append}
use Rattle.std.proofs.lemmas.Option.{same_Some}
use Rattle.rg_base.specs.declared.ty.Ty.{Ty}
use Rattle.rg_base.proofs.Callers.Lists.{drop-get}
use Rattle.rg_code.specs.declared.op.Op.{Op}
use Rattle.rg_code.specs.declared.op.Op.TheVariants as i
use Rattle.rg_code.specs.Lowering.{clears}
use Rattle.rg_verify_expressions.specs.declared.signs.Making.{Making}
use Rattle.rg_verify_expressions.specs.declared.signs.Target.{Target}
use Rattle.rg_verify_expressions.specs.declared.signs.Target.TheVariants as target
use Rattle.rg_verify_expressions.specs.declared.signs.Close.{Close}
use Rattle.rg_verify_expressions.specs.declared.signs.Close.TheVariants as close
use Rattle.rg_verify_expressions.specs.declared.signs.Open.{Open}
use Rattle.rg_verify_expressions.specs.declared.signs.Open.TheVariants as opens
use Rattle.rg_verify_expressions.specs.declared.signs.Walk.{Walk}
use Rattle.rg_verify_expressions.specs.declared.signs.Walk.TheVariants as walk
use Rattle.rg_verify_expressions.specs.declared.signs.Behind.{Behind}
use Rattle.rg_verify_expressions.specs.declared.signs.Behind.TheVariants as behind
use Rattle.rg_verify_expressions.specs.declared.signs.Leave.{Leave}
use Rattle.rg_verify_expressions.specs.Raised.{Raised, path, Front, expression, object, place, ops_of, all_ops, fronts_ops}
use Rattle.rg_verify_expressions.specs.Statements.{right_ops, leave_op}
use Rattle.rg_verify_expressions.specs.Signs.{making_of, target_of, close_of, open_of, walk_of, behind_of, mark_of, clear_of, call_of, put_of, jump_of, end_of}
use Rattle.rg_verify_expressions.specs.Signs.{put_element_of, leave_of, left_of, pace_of}
use Rattle.rg_verify_expressions.specs.Blocks.{◌>>=◌, ◌>>◌, test, Given, sign, fronts_at, values_in, path_in, cleared, right_of, Piece}
use Rattle.rg_verify_expressions.proofs.Raises.{raised-stand}

-- What a block that told something says of its parts

pub bind-some : {A B : Type 0} (o : Option A) (go : A → Option B) (b : B) → ◌>>=◌ o go ≡ Some b → (a : A) × (o ≡ Some a) × (go a ≡ Some b)
bind-some (Some a) go b e = (a, refl, e)
bind-some None go b e = absurd cc

pub then-some : {A B : Type 0} (o : Option A) (rest : Option B) (b : B) → ◌>>◌ o rest ≡ Some b → (a : A) × (o ≡ Some a) × (rest ≡ Some b)
then-some (Some a) rest b e = (a, refl, e)
then-some None rest b e = absurd cc

pub test-some : {B : Type 0} (t : Truth) (rest : Option B) (b : B) → ◌>>◌ (test t) rest ≡ Some b → (t ≡ true) × (rest ≡ Some b)
test-some true rest b e = (refl, e)
test-some false rest b e = absurd cc

pub equal : (a b : ℕ) → (a == b) ≡ true → a ≡ b
equal a b e = eqb-true a b e

-- Pieces

drop-front : (xs ys : List Op) → drop (length xs) (xs ++ ys) ≡ ys
drop-front [] ys = refl
drop-front (x ∷ xs) ys = drop-front xs ys

module _ (ops : List Op) where
  pub piece-nil : (at : ℕ) → Piece ops at [] at
  piece-nil at = record { parts = refl; place = omega arith }

  pub piece-one : (at : ℕ) (o : Op) → slice_get ops at ≡ Some o → Piece ops at (o ∷ []) (suc at)
  piece-one at o e = record { parts = drop-get ops at o e; place = omega arith }

  pub piece-then : {at mid end : ℕ} {x y : List Op} → Piece ops at x mid → Piece ops mid y end → Piece ops at (x ++ y) end
  piece-then {end = end} {x = x} {y = y} p q = record {
    parts = p.parts ∙ ap (λ (os : List Op). x ++ os) q.parts ∙ sym (append_assoc x y (drop end ops));
    place = omega (arith, p.place, q.place, length-append x y);
  }

  -- a piece in front of another
  pub piece-parts : (at end : ℕ) (x y : List Op) → Piece ops at (x ++ y) end
      → Piece ops at x (at + length x) × Piece ops (at + length x) y end
  piece-parts at end x y p =
      let rest : drop (at + length x) ops ≡ y ++ drop end ops =
      sym (drop-drop (length x) at ops) ∙ ap (drop (length x)) (p.parts ∙ append_assoc x y (drop end ops)) ∙ drop-front x (y ++ drop end ops) in (
        record { parts = p.parts ∙ append_assoc x y (drop end ops) ∙ ap (λ (os : List Op). x ++ os) (sym rest); place = refl },
        record { parts = rest; place = omega (arith, p.place, length-append x y) },
      )

  pub piece-is : {at end : ℕ} {x y : List Op} → x ≡ y → Piece ops at x end → Piece ops at y end
  piece-is {at = at} {end = end} e p = subst (λ (os : List Op). Piece ops at os end) e p

-- What an instruction is

pub making-is : (types : List Ty) (at : ℕ) (o : Op) (m : Making) → making_of o ≡ Some m → o ∷ [] ≡ right_ops types at (right_of m)
making-is types at (i.New c) m e = ap (λ (n : Making). right_ops types at (right_of n)) (same_Some _ _ e)
making-is types at (i.NewTmp c) m e = ap (λ (n : Making). right_ops types at (right_of n)) (same_Some _ _ e)
making-is types at (i.NewIso c g) m e = ap (λ (n : Making). right_ops types at (right_of n)) (same_Some _ _ e)
making-is types at (i.Freeze s) m e = ap (λ (n : Making). right_ops types at (right_of n)) (same_Some _ _ e)
making-is types at (i.Merge s) m e = ap (λ (n : Making). right_ops types at (right_of n)) (same_Some _ _ e)
making-is types at i.Read m e = ap (λ (n : Making). right_ops types at (right_of n)) (same_Some _ _ e)
making-is types at i.More m e = ap (λ (n : Making). right_ops types at (right_of n)) (same_Some _ _ e)
making-is types at o m e = absurd cc

-- the instruction of each sign

abbrev pub target_op : Target → Op
target_op (target.Store s) = i.Store s
target_op (target.Own s) = i.Own s

abbrev pub close_op : Close → Op
close_op close.Print = i.Print
close_op close.Return = i.Ret
close_op (close.Test t) = i.JumpFalse t

abbrev pub open_op : Open → Op
open_op opens.Collect = i.Collect
open_op (opens.Enter s z) = i.Enter s z

abbrev pub walk_op : Walk → Op
walk_op (walk.Enter k z) = i.EnterField k z
walk_op (walk.New c) = i.NewArray c
walk_op (walk.NewTmp c) = i.NewTmpArray c
walk_op (walk.NewIso c m) = i.NewIsoArray c m

abbrev pub behind_op : Behind → Op
behind_op behind.Room = i.Room
behind_op (behind.Swap s k) = i.Swap s k

abbrev pub left_op : Truth → Op
left_op true = i.Drop
left_op false = i.Pop

abbrev pub left_by : Leave → Op
left_by w = leave_op w.slot w.given

abbrev pub put_element_op : Unit {0} → Op
put_element_op u = i.PutElement

abbrev pub pace_op : Unit {0} → Op
pace_op u = i.Pace

-- what a sign tells is such an instruction
abbrev pub Tells : {A : Type 0} → (Op → Option A) → (A → Op) → Type 0
Tells {A} of op = (o : Op) (x : A) → of o ≡ Some x → o ≡ op x

pub target-is : Tells target_of target_op
target-is (i.Store s) x e = ap target_op (same_Some _ _ e)
target-is (i.Own s) x e = ap target_op (same_Some _ _ e)
target-is o x e = absurd cc

pub close-is : Tells close_of close_op
close-is i.Print x e = ap close_op (same_Some _ _ e)
close-is i.Ret x e = ap close_op (same_Some _ _ e)
close-is (i.JumpFalse t) x e = ap close_op (same_Some _ _ e)
close-is o x e = absurd cc

pub open-is : Tells open_of open_op
open-is i.Collect x e = ap open_op (same_Some _ _ e)
open-is (i.Enter s z) x e = ap open_op (same_Some _ _ e)
open-is o x e = absurd cc

pub walk-is : Tells walk_of walk_op
walk-is (i.EnterField k z) x e = ap walk_op (same_Some _ _ e)
walk-is (i.NewArray c) x e = ap walk_op (same_Some _ _ e)
walk-is (i.NewTmpArray c) x e = ap walk_op (same_Some _ _ e)
walk-is (i.NewIsoArray c m) x e = ap walk_op (same_Some _ _ e)
walk-is o x e = absurd cc

pub behind-is : Tells behind_of behind_op
behind-is i.Room x e = ap behind_op (same_Some _ _ e)
behind-is (i.Swap s k) x e = ap behind_op (same_Some _ _ e)
behind-is o x e = absurd cc

pub mark-is : Tells mark_of i.Mark
mark-is (i.Mark l) x e = ap i.Mark (same_Some _ _ e)
mark-is o x e = absurd cc

pub clear-is : Tells clear_of i.Clear
clear-is (i.Clear s) x e = ap i.Clear (same_Some _ _ e)
clear-is o x e = absurd cc

pub call-is : Tells call_of i.Call
call-is (i.Call m) x e = ap i.Call (same_Some _ _ e)
call-is o x e = absurd cc

pub put-is : Tells put_of i.Put
put-is (i.Put k) x e = ap i.Put (same_Some _ _ e)
put-is o x e = absurd cc

pub put-element-is : Tells put_element_of put_element_op
put-element-is i.PutElement x e = refl
put-element-is o x e = absurd cc

pub jump-is : Tells jump_of i.Jump
jump-is (i.Jump t) x e = ap i.Jump (same_Some _ _ e)
jump-is o x e = absurd cc

pub end-is : Tells end_of i.End
end-is (i.End s) x e = ap i.End (same_Some _ _ e)
end-is o x e = absurd cc

pub leave-is : Tells leave_of left_by
leave-is (i.Leave s) x e = ap left_by (same_Some _ _ e)
leave-is (i.LeaveGiving w s) x e = ap left_by (same_Some _ _ e)
leave-is o x e = absurd cc

pub left-is : Tells left_of left_op
left-is i.Pop x e = ap left_op (same_Some _ _ e)
left-is i.Drop x e = ap left_op (same_Some _ _ e)
left-is o x e = absurd cc

pub pace-is : Tells pace_of pace_op
pace-is i.Pace x e = refl
pace-is o x e = absurd cc

pub path-is : (e : Raised) (p : ℕ × List ℕ) → path_in e ≡ Some p → e ≡ path p.0 p.1
path-is (path s ks) p e = let same : (s, ks) ≡ p = same_Some _ _ e in ap (λ (q : ℕ × List ℕ). path q.0 q.1) same
path-is r p e = absurd cc

-- expressions alone have the code of expressions
pub values-ops : (fs : List Front) (es : List Raised) (at : ℕ) → values_in fs ≡ Some es → fronts_ops at fs ≡ all_ops at es
values-ops [] es at e = ap (all_ops at) (same_Some _ _ e)
values-ops (expression r ∷ fs) es at e =
    let (rs, f, h) = bind-some (values_in fs) (λ rs. Some (r ∷ rs)) es e in
    let first = ops_of at r in
    ap (λ (os : List Op). first ++ os) (values-ops fs rs (at + length first) f) ∙ ap (all_ops at) (same_Some (r ∷ rs) es h)
values-ops (object s ks ∷ fs) es at e = absurd cc
values-ops (place s ks r ∷ fs) es at e = absurd cc

module _ (g : Given) where
  -- the instruction at an address
  pub sign-piece : {A : Type 0} {of : Op → Option A} {op : A → Op} → Tells of op → (at : ℕ) (x : A) → sign of g.ops at ≡ Some x
      → Piece g.ops at (op x ∷ []) (suc at)
  sign-piece {of = of} {op = op} tells at x e =
      let (o, there, is) = bind-some (slice_get g.ops at) of x e in
      piece-is g.ops (ap (λ (p : Op). p ∷ []) (tells o x is)) (piece-one g.ops at o there)

  pub making-piece : (types : List Ty) (n at : ℕ) (m : Making) → sign making_of g.ops at ≡ Some m
      → Piece g.ops at (right_ops types n (right_of m)) (suc at)
  making-piece types n at m e =
      let (o, there, is) = bind-some (slice_get g.ops at) making_of m e in
      piece-is g.ops (making-is types n o m is) (piece-one g.ops at o there)

  pub fronts-piece : (at end : ℕ) (fs : List Front) → fronts_at g.ops at ≡ Some (fs, end) → Piece g.ops at (fronts_ops at fs) end
  fronts-piece at end fs e =
      let s = raised-stand (drop at g.ops) at fs end e in
      let body = fronts_ops at fs in
      let rest : drop end g.ops ≡ s.rest =
      ap (λ (n : ℕ). drop n g.ops) s.place ∙ sym (drop-drop (length body) at g.ops)
      ∙ ap (λ (os : List Op). drop (length body) os) s.parts ∙ drop-front body s.rest in
      record { parts = s.parts ∙ ap (λ (os : List Op). body ++ os) (sym rest); place = s.place }

  pub cleared-piece : (ss : List ℕ) (at end : ℕ) → cleared g.ops ss at ≡ Some end → Piece g.ops at (clears ss) end
  cleared-piece [] at end e = subst (λ (n : ℕ). Piece g.ops at [] n) (same_Some _ _ e) (piece-nil g.ops at)
  cleared-piece (s ∷ ss) at end e =
      let (t, there, f) = bind-some (sign clear_of g.ops at) _ end e in
      let (same, h) = test-some (t == s) (cleared g.ops ss (suc at)) end f in
      let first : Piece g.ops at (i.Clear s ∷ []) (suc at) =
      piece-is g.ops (ap (λ (n : ℕ). i.Clear n ∷ []) (equal t s same)) (sign-piece clear-is at t there) in
      piece-then g.ops first (cleared-piece ss (suc at) end h)
