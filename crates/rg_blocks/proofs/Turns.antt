-- The turns of a loop over the statements of a block.
use Rattle.std.proofs.Common.{◌≡◌, ℕ, zero, suc, ◌+◌, ◌-◌, ◌<◌, ◌≤◌, Bool as Truth, false, List, [], ◌∷◌, ◌++◌, drop, take, length, slice_get, Vec}
use Rattle.std.proofs.Common.{Option, Some, None, Ok, Err, refl, sym, ap, ◌∙◌, subst, append_assoc, arith}
use Rattle.std.proofs.Math.Seq.{take-append_seam}
use Rattle.std.proofs.lemmas.List.{length-append, length-drop}
use Rattle.std.proofs.lemmas.Option.{slice_get_within}
use Rattle.std.specs.declared.alloc.Global.{Global}
use Rattle.rg_base.specs.declared.ty.Ty.{Ty}
use Rattle.rg_tree.specs.declared.rows.Span.{Span}
use Rattle.rg_tree.specs.Tree as tree
use Rattle.rg_tree.specs.Rows.Tables.{Tables}
use Rattle.rg_tree.specs.Rows.RowTrees.{stmt_at, block_of}
use Rattle.rg_tree.specs.Rows.RowsExist.{IsStmtNumber, IsBlockIn}
use Rattle.rg_tree.specs.Adds.{Extends, Means, Adds}
use Rattle.rg_tree.proofs.Adding.{extends-trans}
use Rattle.rg_code.specs.declared.op.Op.{Op}
use Rattle.rg_verify_expressions.specs.declared.refusal.Refusal.{Refusal}
use Rattle.rg_verify_expressions.specs.Statements.{Kind, declare, assign, write, write_element, call, swap, branch, while, enter, enter_field, print, collect}
use Rattle.rg_verify_expressions.specs.Statements.{return, Block, empty, next, types_behind, kind_ops}
use Rattle.rg_verify_expressions.specs.Found.{kind_named}
use Rattle.rg_verify_expressions.specs.Signs.{mark_of}
use Rattle.rg_verify_expressions.specs.Blocks.{◌>>=◌, Given, Told, sign, starts, is_last, kind_told, statements, block_told}
use Rattle.rg_verify_expressions.proofs.BlockRaises.{kind-piece, starts-marked, block-piece}
use Rattle.rg_raise.specs.declared.said.KindSaid.{KindSaid}
use Rattle.rg_raise.specs.declared.said.After.TheVariants as after
use Rattle.rg_raise.specs.Telling.{MakesAs, IsKindSaid, kind_of, after_of}
use Rattle.rg_blocks.specs.Blocks.{AreSaid, IsBlockSaid, AddsBlock}
use Rattle.rg_raise.proofs.Rows.{means-now}
use Rattle.rg_raise.proofs.Telling.{bind-none, makes-some, makes-so, refused}
use Rattle.rg_blocks.proofs.Going.{Going, going-later, going-on, going-ends, loop-ends, loop-refused, loop-last, loop-more, behind-last, behind-same}
use Rattle.rg_blocks.proofs.Going.{behind-more, Looping}

-- a statement has an instruction at least: its mark
marked : (types : List Ty) (at line : ℕ) (k : Kind) → 0 < length (kind_ops types at line k)
marked types at line (declare t r) = omega arith
marked types at line (assign s r) = omega arith
marked types at line (write s ks k r) = omega arith
marked types at line (write_element s ks e r) = omega arith
marked types at line (call c) = omega arith
marked types at line (swap y s ks k) = omega arith
marked types at line (branch e b other) = omega arith
marked types at line (while e b) = omega arith
marked types at line (enter s c b w) = omega arith
marked types at line (enter_field s ks k c b w) = omega arith
marked types at line (print e) = omega arith
marked types at line collect = omega arith
marked types at line (return e) = omega arith

-- where a statement begins there is an instruction
sign-within : {A : Type 0} (of : Op → Option A) (ops : List Op) (at : ℕ) (a : A) → sign of ops at ≡ Some a → at < length ops
sign-within of ops at a e = by (slice_get ops at) refl e
  where
    by : (o : Option Op) → slice_get ops at ≡ o → ◌>>=◌ o of ≡ Some a → at < length ops
    by None f h = absurd cc
    by (Some x) f h = slice_get_within ops at x f

module _ (g : Given) (depth : ℕ) (types : List Ty) (line at : ℕ) (begins : starts g.ops at ≡ Some line) where
  begins-within : at < length g.ops
  begins-within = sign-within mark_of g.ops at line (starts-marked g at line begins)

  -- a statement ends behind its beginning, within the code
  turn-ends : (k : Kind) (end : ℕ) → kind_told g (block_told g depth) types line at ≡ Some (k, end) → (at < end) × (end ≤ length g.ops)
  turn-ends k end told =
      let p = kind-piece g types line at (starts-marked g at line begins) (block_told g depth) (block-piece g depth) end k told in
      let body = kind_ops types at line k in
      let some = marked types at line k in
      let all : length g.ops - at ≡ length body + (length g.ops - end) =
      sym (length-drop at g.ops) ∙ ap length p.parts ∙ length-append body (drop end g.ops)
      ∙ ap (λ (n : ℕ). length body + n) (length-drop end g.ops) in
      (omega (arith, some, p.place), omega (arith, some, p.place, all, begins-within))

-- the statements of a block that has ended
stmts-made : (m : Truth) (slots : ℕ) (old v : Tables) (ns : Vec ℕ Global) (types : List Ty) (wanted rest : Told Block)
    → Going m slots v ns.items types wanted rest → (end : ℕ) → Extends old v → rest ≡ Some (empty, end)
    → MakesAs (AreSaid m slots) old v wanted (Ok (ns, end))
stmts-made m slots old v ns types wanted rest going end grown ended =
    let (b, told, named) = going-ends m slots v ns.items types wanted rest going end ended in
    makes-so (AreSaid m slots) old v wanted ns b end end told refl grown (going.stmts, going.are, named)

-- a block that is not too deep
pub block-inner : (g : Given) (depth inner : ℕ) (types : List Ty) (at : ℕ) → depth ≡ suc inner
    → block_told g depth types at ≡ statements g (block_told g inner) (suc (length g.ops)) types at
unfolding block_told
block-inner g depth inner types at e = ap (λ (d : ℕ). block_told g d types at) e

-- a number that isn't 0 is one more than another one
pub under : (depth : ℕ) → (depth ≡ 0 → ⊥) → depth ≡ suc (depth - 1)
under zero other = absurd (other refl)
under (suc d) other = omega arith

module _ (m : Truth) (g : Given) (depth inner : ℕ) (types : List Ty) (at : ℕ) (deep : depth ≡ suc inner) (old u : Tables) where
  pub block-refused : (f : Refusal)
      → MakesAs (AreSaid m (length types)) old u (statements g (block_told g inner) (suc (length g.ops)) types at) (Err f)
      → MakesAs (IsBlockSaid m (length types)) old u (block_told g depth types at) (Err f)
  block-refused f made =
      refused (AreSaid m (length types)) (IsBlockSaid m (length types)) old u old u
      (statements g (block_told g inner) (suc (length g.ops)) types at) (block_told g depth types at) f made
      (λ n. block-inner g depth inner types at deep ∙ n)

  -- the statements of a block, and then its row
  pub block-made : (w : Tables) (ns : Vec ℕ Global) (span : Span) (end : ℕ)
      → MakesAs (AreSaid m (length types)) old u (statements g (block_told g inner) (suc (length g.ops)) types at) (Ok (ns, end))
      → AddsBlock u w ns.items span → MakesAs (IsBlockSaid m (length types)) old w (block_told g depth types at) (Ok (span, end))
  block-made w ns span end made block =
      let (b, told, grown, is) = makes-some (AreSaid m (length types)) old u
      (statements g (block_told g inner) (suc (length g.ops)) types at) ns end made in
      let (ss, are, named) = is in
      let adds = block ss are in
      makes-so (IsBlockSaid m (length types)) old w (block_told g depth types at) span b end end (block-inner g depth inner types at deep ∙ told) refl
      (extends-trans grown adds.extends) (subst (λ (x : tree.Block). Means block_of IsBlockIn w span x) (sym named) adds.means)

-- the types in front of a block are there again
pub shortened : (before more types : List Ty) → types ≡ before ++ more → take (length before) types ≡ before
shortened before more types e = ap (take (length before)) e ∙ take-append_seam before more

module _ (m : Truth) (g : Given) (depth : ℕ) (old t : Tables) (before types : List Ty) (numbers : List ℕ) (at end line : ℕ)
    (l : Looping m g (block_told g depth) old t before types numbers at end) (begins : starts g.ops end ≡ Some line) where
  abbrev pub wanted : Told Block
  wanted = statements g (block_told g depth) (suc (length g.ops)) before at

  abbrev pub left : Told Block
  left = statements g (block_told g depth) (suc l.left) types end

  -- as many turns are left as instructions
  fueled : (n : ℕ) × (l.left ≡ suc n)
  fueled = by l.left l.fuel
    where
      by : (k : ℕ) → length g.ops ≤ k + end → (n : ℕ) × (k ≡ suc n)
      by zero fuel = absurd (omega (arith, fuel, begins-within g depth types line end begins))
      by (suc n) fuel = (n, refl)

  -- a statement that is refused
  pub turn-refused : (u : Tables) (f : Refusal)
      → MakesAs (IsKindSaid m (length types)) t u (kind_told g (block_told g depth) types line end) (Err f)
      → MakesAs (AreSaid m (length before)) old u wanted (Err f)
  turn-refused u f made =
      refused (IsKindSaid m (length types)) (AreSaid m (length before)) t u old u (kind_told g (block_told g depth) types line end) wanted f made
      (λ n. l.going.told ∙ bind-none left _ (loop-refused g (block_told g depth) l.left types end line begins n))

  module _ (u v : Tables) (said : KindSaid) (behind number : ℕ)
      (made : MakesAs (IsKindSaid m (length types)) t u (kind_told g (block_told g depth) types line end) (Ok (said, behind)))
      (put : Adds stmt_at IsStmtNumber u v number (tree.stmt line (kind_of u said.row))) where
    -- the statement that was told, and its row
    record Turn (k : Kind) : Type 0 where
      told : kind_told g (block_told g depth) types line end ≡ Some (k, behind)
      grown : Extends t u
      after_is : said.after ≡ after_of k
      adds : Adds stmt_at IsStmtNumber u v number (tree.stmt line (kind_named m (length types) k))

    turn : (k : Kind) × Turn k
    turn =
        let (k, told, grown, is) = makes-some (IsKindSaid m (length types)) t u (kind_told g (block_told g depth) types line end) said behind made in
        let same : kind_of u said.row ≡ kind_named m (length types) k = means-now is.0 in (
          k,
          record {
            told = told;
            grown = grown;
            after_is = is.1;
            adds = subst (λ (x : tree.StmtKind). Adds stmt_at IsStmtNumber u v number (tree.stmt line x)) same put;
          },
        )

    -- the loop goes on
    pub turn-smaller : (end < behind) × (behind ≤ length g.ops)
    turn-smaller = let (k, x) = turn in turn-ends g depth types line end begins k behind x.told

    next-turn : (k : Kind) → Turn k → is_last k ≡ false → (more : List Ty) → types_behind types k ≡ before ++ more
        → Looping m g (block_told g depth) old v before (types_behind types k) (numbers ++ number ∷ []) at behind
    next-turn k x goes more types_are =
        let (n, left_is) = fueled in
        let (later, within) = turn-ends g depth types line end begins k behind x.told in
        let old_going = going-later m (length before) t numbers types wanted left l.going u x.grown in
        let going = going-on m (length before) u numbers types wanted left old_going v line number k
        (statements g (block_told g depth) l.left (types_behind types k) behind)
        (loop-more g (block_told g depth) l.left types end line begins k behind x.told goes) x.adds in
        record {
          left = n;
          grown = extends-trans l.grown (extends-trans x.grown put.extends);
          going = subst (λ (j : ℕ). Going m (length before) v (numbers ++ number ∷ []) (types_behind types k) wanted
              (statements g (block_told g depth) j (types_behind types k) behind)) left_is going;
          fuel = omega (arith, l.fuel, left_is, later);
          more = more;
          types_are = types_are;
        }

    pub turn-same : said.after ≡ after.Same → Looping m g (block_told g depth) old v before types (numbers ++ number ∷ []) at behind
    turn-same e =
        let (k, x) = turn in
        let (goes, same) = behind-same types k (sym x.after_is ∙ e) in
        subst (λ (ts : List Ty). Looping m g (block_told g depth) old v before ts (numbers ++ number ∷ []) at behind) same
        (next-turn k x goes l.more (same ∙ l.types_are))

    pub turn-more : (ty : Ty) → said.after ≡ after.More ty
        → Looping m g (block_told g depth) old v before (types ++ ty ∷ []) (numbers ++ number ∷ []) at behind
    turn-more ty e =
        let (k, x) = turn in
        let (goes, same) = behind-more types k ty (sym x.after_is ∙ e) in
        subst (λ (ts : List Ty). Looping m g (block_told g depth) old v before ts (numbers ++ number ∷ []) at behind) same
        (next-turn k x goes (l.more ++ ty ∷ [])
        (same ∙ ap (λ (ts : List Ty). ts ++ ty ∷ []) l.types_are ∙ append_assoc before l.more (ty ∷ [])))

    pub turn-last : (ns : Vec ℕ Global) → ns.items ≡ numbers ++ number ∷ [] → said.after ≡ after.Last
        → MakesAs (AreSaid m (length before)) old v wanted (Ok (ns, behind))
    turn-last ns all e =
        let (k, x) = turn in
        let last = behind-last k (sym x.after_is ∙ e) in
        let old_going = going-later m (length before) t numbers types wanted left l.going u x.grown in
        let one : left ≡ ◌>>=◌ {A = Block × ℕ} (Some (empty, behind)) (λ b. Some (next line k b.0, b.1)) =
        loop-last g (block_told g depth) l.left types end line begins k behind x.told last in
        let going = going-on m (length before) u numbers types wanted left old_going v line number k (Some (empty, behind)) one x.adds in
        stmts-made m (length before) old v ns (types_behind types k) wanted (Some (empty, behind))
        (subst (λ (ks : List ℕ). Going m (length before) v ks (types_behind types k) wanted (Some (empty, behind))) (sym all) going) behind
        (extends-trans l.grown (extends-trans x.grown put.extends)) refl

-- the statements end where none begins
pub statements-end : (m : Truth) (g : Given) (depth : ℕ) (old t : Tables) (before types : List Ty) (ns : Vec ℕ Global) (at end : ℕ)
    → Looping m g (block_told g depth) old t before types ns.items at end → starts g.ops end ≡ None
    → MakesAs (AreSaid m (length before)) old t (statements g (block_told g depth) (suc (length g.ops)) before at) (Ok (ns, end))
statements-end m g depth old t before types ns at end l none =
    stmts-made m (length before) old t ns types _ (statements g (block_told g depth) (suc l.left) types end) l.going end l.grown
    (loop-ends g (block_told g depth) l.left types end none)
