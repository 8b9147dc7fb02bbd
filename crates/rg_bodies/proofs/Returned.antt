-- A block that is told ends by a `return` where its last instruction is `ret`, and only there.
use Rattle.std.proofs.Common.{◌≡◌, ℕ, suc, ◌+◌, ◌-◌, nat_lt, ◌&&◌, Bool as Truth, true, false, if◌then◌else◌, List, [], ◌∷◌, ◌++◌}
use Rattle.std.proofs.Common.{length, drop, slice_get, Option, Some, None, refl, sym, ap, ◌∙◌, subst, arith}
use Rattle.std.proofs.lemmas.Bool.Decides.{nat_tests}
use Rattle.std.proofs.lemmas.Bool.{false≢true}
use Rattle.rg_base.specs.declared.ty.Ty.{Ty}
use Rattle.rg_rules.specs.Capabilities.{is_iso}
use Rattle.rg_code.specs.declared.op.Op.{Op}
use Rattle.rg_code.specs.declared.op.Op.TheVariants as i
use Rattle.rg_code.specs.Lowering.{clears, dropped_code}
use Rattle.rg_verify_expressions.specs.Raised.{path_ops, holder_ops, place_ops, all_ops}
use Rattle.rg_verify_expressions.specs.Statements.{Right, value, new, new_tmp, new_iso, freeze, merge, read, more, result_of, Kind, declare, assign, write}
use Rattle.rg_verify_expressions.specs.Statements.{write_element, call, swap, branch, while, enter, enter_field, print, collect, return, no_else, otherwise}
use Rattle.rg_verify_expressions.specs.Statements.{Block, empty, next, types_behind, types_inside, type_at, all_used, whole_ops, right_ops, pace_ops, assign_op}
use Rattle.rg_verify_expressions.specs.Statements.{leave_op, kind_ops, block_ops}
use Rattle.rg_verify_expressions.specs.Blocks.{◌>>=◌, Given, sign, is_last, block_told, Piece}
use Rattle.rg_verify_expressions.specs.Standing.{IsBlockFit, returns, Closes, TellsBlock}
use Rattle.rg_verify_expressions.proofs.BlockRaises.{raised-blocks-stand}
use Rattle.rg_verify_expressions.proofs.ToldStands.{blocks-are-told}
use Rattle.rg_bodies.specs.Inner.Ends.{return_of, is_there, is_returned}
use Rattle.rg_bodies.proofs.Places.{drop-is, drop-next}

-- The last of instructions

abbrev last_of : Op → List Op → Op
last_of o [] = o
last_of o (p ∷ ps) = last_of p ps

abbrev is_ret : Op → Truth
is_ret o = is_there (return_of o)

abbrev last_returns : List Op → Truth
last_returns [] = false
last_returns (o ∷ os) = is_ret (last_of o os)

last-append : (o : Op) (xs ys : List Op) → last_of o (xs ++ ys) ≡ last_of (last_of o xs) ys
last-append o [] ys = refl
last-append o (x ∷ xs) ys = last-append x xs ys

last-behind : (o : Op) (xs : List Op) (p : Op) (ys : List Op) → last_of o (xs ++ p ∷ ys) ≡ last_of p ys
last-behind o xs p ys = last-append o xs (p ∷ ys)

last-far : (o : Op) (xs ys : List Op) (p : Op) (zs : List Op) → last_of o (xs ++ (ys ++ p ∷ zs)) ≡ last_of p zs
last-far o xs ys p zs = last-append o xs (ys ++ p ∷ zs) ∙ last-behind (last_of o xs) ys p zs

-- of two lists, the second of which is empty or isn't
nothing-behind : (xs ys : List Op) → ys ≡ [] → last_returns (xs ++ ys) ≡ last_returns xs
nothing-behind [] ys e = ap last_returns e
nothing-behind (x ∷ xs) ys e = ap is_ret (last-append x xs ys ∙ ap (last_of (last_of x xs)) e)

something-behind : (xs : List Op) (y : Op) (ys : List Op) → last_returns (xs ++ y ∷ ys) ≡ last_returns (y ∷ ys)
something-behind [] y ys = refl
something-behind (x ∷ xs) y ys = ap is_ret (last-behind x xs y ys)

-- Statements

paced-last : (r : Right) (o : Op) → is_ret o ≡ false → is_ret (last_of o (pace_ops r)) ≡ false
paced-last (value e) o h = h
paced-last (new c n) o h = refl
paced-last (new_tmp c n) o h = h
paced-last (new_iso c n m) o h = h
paced-last (freeze s) o h = h
paced-last (merge s) o h = h
paced-last read o h = h
paced-last more o h = h
paced-last (result_of c) o h = h

assigned-by : (iso : Truth) (s : ℕ) → is_ret (if iso then i.Own s else i.Store s) ≡ false
assigned-by true s = refl
assigned-by false s = refl

left-last : (n : ℕ) (w : Option ℕ) → is_ret (leave_op n w) ≡ false
left-last n None = refl
left-last n (Some w) = refl

dropped-by : (iso : Truth) (o : Op) (xs : List Op) → is_ret (last_of o (xs ++ (if iso then i.Drop ∷ [] else i.Pop ∷ []))) ≡ false
dropped-by true o xs = ap is_ret (last-behind o xs i.Drop [])
dropped-by false o xs = ap is_ret (last-behind o xs i.Pop [])

-- a call that ends by its instruction, and then what drops its result, if it has one
called-last : (o : Op) (xs ys zs : List Op) (m : ℕ) (result : Option Ty)
    → is_ret (last_of o ((xs ++ (ys ++ i.Room ∷ (zs ++ i.Call m ∷ []))) ++ dropped_code result)) ≡ false
called-last o xs ys zs m None =
    let whole = xs ++ (ys ++ i.Room ∷ (zs ++ i.Call m ∷ [])) in
    ap is_ret (last-append o whole [] ∙ last-far o xs ys i.Room (zs ++ i.Call m ∷ []) ∙ last-behind i.Room zs (i.Call m) [])
called-last o xs ys zs m (Some t) = dropped-by (is_iso t) o (xs ++ (ys ++ i.Room ∷ (zs ++ i.Call m ∷ [])))

-- code behind the first block of an `if`
otherwise-last : (xs : List Op) (a line n : ℕ) → is_ret (last_of (i.End n) (i.Jump a ∷ xs ++ i.Mark line ∷ i.End n ∷ [])) ≡ false
otherwise-last xs a line n = ap is_ret (last-behind (i.Jump a) xs (i.Mark line) (i.End n ∷ []))

kind-last : (types : List Ty) (at line : ℕ) (k : Kind) → last_returns (kind_ops types at line k) ≡ is_last k
kind-last types at line (declare t r) =
    ap is_ret (last-behind (i.Mark line) (right_ops types (at + 1) r) (i.Store (length types)) (pace_ops r))
    ∙ paced-last r (i.Store (length types)) refl
kind-last types at line (assign s r) =
    ap is_ret (last-behind (i.Mark line) (right_ops types (at + 1) r) (assign_op types s) (pace_ops r))
    ∙ paced-last r (assign_op types s) (assigned-by (is_iso (type_at types s)) s)
kind-last types at line (write s ks k r) =
    ap is_ret (last-far (i.Mark line) (holder_ops s ks) (right_ops types (at + 1 + length (holder_ops s ks)) r) (i.Put k) (pace_ops r))
    ∙ paced-last r (i.Put k) refl
kind-last types at line (write_element s ks e r) =
    let place = place_ops (at + 1) s ks e in
    ap is_ret (last-far (i.Mark line) place (right_ops types (at + 1 + length place) r) i.PutElement (pace_ops r)) ∙ paced-last r i.PutElement refl
kind-last types at line (call c) =
    let receiver = holder_ops c.slot c.fields in
    called-last (i.Mark line) receiver (all_ops (at + 1 + length receiver) c.args) (clears (all_used types c.args)) c.callee.number c.callee.result
kind-last types at line (swap y s ks k) = ap is_ret (last-behind (i.Mark line) (path_ops s ks) i.Check (i.Swap y k ∷ []))
kind-last types at line (branch e b no_else) =
    let test = whole_ops types (at + 1) e in
    let inside = at + 1 + length test + 1 in
    let block = block_ops types inside b in
    let to = inside + length block + 2 in
    ap is_ret (last-behind (i.Mark line) test (i.JumpFalse to) (block ++ i.Mark line ∷ i.End (length types) ∷ [])
    ∙ last-behind (i.JumpFalse to) block (i.Mark line) (i.End (length types) ∷ []))
kind-last types at line (branch e b (otherwise c)) =
    let test = whole_ops types (at + 1) e in
    let inside = at + 1 + length test + 1 in
    let block = block_ops types inside b in
    let to = inside + length block + 3 in
    let from = inside + length block + 2 in
    let other = block_ops types (from + 1) c in
    let rest = i.Jump (from + 1 + length other + 2) ∷ other ++ i.Mark line ∷ i.End (length types) ∷ [] in
    ap is_ret (last-behind (i.Mark line) test (i.JumpFalse to) (block ++ i.Mark line ∷ i.End (length types) ∷ rest)
    ∙ last-behind (i.JumpFalse to) block (i.Mark line) (i.End (length types) ∷ rest))
    ∙ otherwise-last other (from + 1 + length other + 2) line (length types)
kind-last types at line (while e b) =
    let test = whole_ops types (at + 1) e in
    let inside = at + 1 + length test + 1 in
    let block = block_ops types inside b in
    let to = inside + length block + 3 in
    let end = i.End (length types) ∷ i.Jump at ∷ [] in
    ap is_ret (last-behind (i.Mark line) test (i.JumpFalse to) (block ++ i.Mark line ∷ end) ∙ last-behind (i.JumpFalse to) block (i.Mark line) end)
kind-last types at line (enter s c b w) =
    let n = length types in
    let block = block_ops (types_inside types c) (at + 1 + 1) b in
    ap is_ret (last-behind (i.Enter s n) block (i.Mark line) (leave_op n w ∷ [])) ∙ left-last n w
kind-last types at line (enter_field s ks k c b w) =
    let n = length types in
    let front = path_ops s ks ++ i.EnterField k n ∷ [] in
    let block = block_ops (types_inside types c) (at + 1 + length front) b in
    ap is_ret (last-far (i.Mark line) front block (i.Mark line) (leave_op n w ∷ [])) ∙ left-last n w
kind-last types at line (print e) = ap is_ret (last-behind (i.Mark line) (whole_ops types (at + 1) e) i.Print [])
kind-last types at line collect = refl
kind-last types at line (return e) = ap is_ret (last-behind (i.Mark line) (whole_ops types (at + 1) e) i.Ret [])

-- each statement begins with its mark
kind-begins : (types : List Ty) (at line : ℕ) (k : Kind) → (os : List Op) × (kind_ops types at line k ≡ i.Mark line ∷ os)
kind-begins types at line (declare t r) = (_, refl)
kind-begins types at line (assign s r) = (_, refl)
kind-begins types at line (write s ks k r) = (_, refl)
kind-begins types at line (write_element s ks e r) = (_, refl)
kind-begins types at line (call c) = (_, refl)
kind-begins types at line (swap y s ks k) = (_, refl)
kind-begins types at line (branch e b other) = (_, refl)
kind-begins types at line (while e b) = (_, refl)
kind-begins types at line (enter s c b w) = (_, refl)
kind-begins types at line (enter_field s ks k c b w) = (_, refl)
kind-begins types at line (print e) = (_, refl)
kind-begins types at line collect = (_, refl)
kind-begins types at line (return e) = (_, refl)

-- Blocks

-- nothing stands behind a `return`
abbrev IsTidy : Block → Type 0
IsTidy empty = Unit {0}
IsTidy (next line k b) = (is_last k ≡ true → b ≡ empty) × IsTidy b

fit-tidy : (g : Given) (types : List Ty) (at : ℕ) (b : Block) → IsBlockFit g types at b → IsTidy b
fit-tidy g types at empty f = tt
fit-tidy g types at (next line k b) (own, last, rest) = (last, fit-tidy g (types_behind types k) (at + length (kind_ops types at line k)) b rest)

-- so where it doesn't end by one
open-tidy : (b : Block) → returns b ≡ false → IsTidy b
open-tidy empty e = tt
open-tidy (next line k b) e = by (is_last k) refl e (λ h. open-tidy b h)
  where
    by : (last : Truth) → is_last k ≡ last → (if last then true else returns b) ≡ false → (returns b ≡ false → IsTidy b) → IsTidy (next line k b)
    by true l h rest = absurd (false≢true (sym h))
    by false l h rest = ((λ t. absurd (false≢true (sym l ∙ t))), rest h)

whether : (t : Truth) → t ≡ (if t then true else false)
whether true = refl
whether false = refl

block-last : (types : List Ty) (at : ℕ) (b : Block) → IsTidy b → last_returns (block_ops types at b) ≡ returns b
block-last types at empty t = refl
block-last types at (next line k empty) t =
    nothing-behind (kind_ops types at line k) [] refl ∙ kind-last types at line k ∙ whether (is_last k)
block-last types at (next line k (next l j b)) (last, t) =
    by (is_last k) refl (block-last (types_behind types k) (at + length (kind_ops types at line k)) (next l j b) t)
  where
    own : List Op
    own = kind_ops types at line k

    rest : List Op
    rest = block_ops (types_behind types k) (at + length (kind_ops types at line k)) (next l j b)

    by : (ends : Truth) → is_last k ≡ ends → last_returns rest ≡ returns (next l j b)
        → last_returns (own ++ rest) ≡ (if is_last k then true else returns (next l j b))
    by true e behind = let none : next l j b ≡ empty = last e in absurd cc
    by false e behind =
        let (os, begins) = kind-begins (types_behind types k) (at + length own) l j in
        let tail =
        block_ops (types_behind (types_behind types k) j) (at + length own + length (kind_ops (types_behind types k) (at + length own) l j)) b in
        let there : rest ≡ i.Mark l ∷ (os ++ tail) = ap (λ (xs : List Op). xs ++ tail) begins in
        let some : last_returns (own ++ rest) ≡ last_returns rest =
        subst (λ (xs : List Op). last_returns (own ++ xs) ≡ last_returns xs) (sym there) (something-behind own (i.Mark l) (os ++ tail)) in
        some ∙ behind ∙ ap (λ (x : Truth). if x then true else returns (next l j b)) (sym e)

-- Code that is read

last-there : (ops : List Op) (at : ℕ) (o : Op) (os rest : List Op) → drop at ops ≡ o ∷ (os ++ rest)
    → slice_get ops (at + length os) ≡ Some (last_of o os)
last-there ops at o [] rest h = let e : at + 0 ≡ at = omega arith in rw e (drop-is ops at o rest h)
last-there ops at o (p ∷ ps) rest h =
    let e : at + length (p ∷ ps) ≡ suc at + length ps = omega arith in
    rw e (last-there ops (suc at) p ps rest (drop-next ops at o (p ∷ (ps ++ rest)) h))

returned-piece : (ops : List Op) (at end : ℕ) (body : List Op) → Piece ops at body end → is_returned ops at end ≡ last_returns body
returned-piece ops at end [] p =
    let none : nat_lt at end ≡ false = grind (arith, nat_tests, p.place) in
    ap (λ (x : Truth). x && is_there (sign return_of ops (end - 1))) none
returned-piece ops at end (o ∷ os) p =
    let some : nat_lt at end ≡ true = grind (arith, nat_tests, p.place) in
    let before : end - 1 ≡ at + length os = omega (arith, p.place) in
    let there : slice_get ops (end - 1) ≡ Some (last_of o os) = rw before (last-there ops at o os (drop end ops) p.parts) in
    ap (λ (x : Truth). x && is_there (sign return_of ops (end - 1))) some ∙ ap (λ (x : Option Op). is_there (◌>>=◌ x return_of)) there

module _ (g : Given) (depth : ℕ) (types : List Ty) (at : ℕ) (b : Block) (end : ℕ) (told : block_told g depth types at ≡ Some (b, end)) where
  tells : TellsBlock g depth types at (Some (b, end))
  tells = subst (TellsBlock g depth types at) told (blocks-are-told g depth types at)

  tidy : (t : Truth) → returns b ≡ t → IsTidy b
  tidy false e = open-tidy b e
  tidy true e =
      let (deep, stands, others) = tells in
      fit-tidy g types at b (stands (subst (Closes g.ops end) (sym e) tt)).fits

  -- where a block was told, its last instruction says whether it ends by a `return`
  pub told-returned : returns b ≡ is_returned g.ops at end
  told-returned =
      sym (block-last types at b (tidy (returns b) refl))
      ∙ sym (returned-piece g.ops at end (block_ops types at b) (raised-blocks-stand g depth types at b end told))
