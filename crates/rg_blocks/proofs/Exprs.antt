-- Statements that begin with an expression alone, or with nothing.
use Rattle.std.proofs.Common.{◌≡◌, ◌==◌, ℕ, suc, ◌+◌, Bool as Truth, true, false, List, [], ◌∷◌, length, Some, None, Result, Ok, Err}
use Rattle.std.proofs.Common.{refl, sym, ap, ◌∙◌, subst, arith}
use Rattle.std.proofs.lemmas.Bool.{eqb-true}
use Rattle.rg_base.specs.declared.ty.Ty.{Ty}
use Rattle.rg_tree.specs.declared.rows.Span.{Span}
use Rattle.rg_tree.specs.declared.rows.StmtKind.TheVariants as kind_row
use Rattle.rg_tree.specs.Rows.Tables.{Tables}
use Rattle.rg_tree.proofs.Adding.{extends-same}
use Rattle.rg_verify_expressions.specs.declared.refusal.Refusal.{Refusal}
use Rattle.rg_verify_expressions.specs.declared.refusal.Refusal.TheVariants as refusal
use Rattle.rg_verify_expressions.specs.declared.signs.Close.TheVariants as close
use Rattle.rg_verify_expressions.specs.declared.signs.Open.TheVariants as opens
use Rattle.rg_verify_expressions.specs.declared.signs.Walk.{Walk}
use Rattle.rg_verify_expressions.specs.declared.signs.Walk.TheVariants as walk
use Rattle.rg_verify_expressions.specs.Raised.{Raised, named, Front}
use Rattle.rg_verify_expressions.specs.Rows.{IsTree}
use Rattle.rg_verify_expressions.specs.Statements.{Block, Kind, Right, new, new_tmp, new_iso, while, print, return, collect, all_used}
use Rattle.rg_verify_expressions.specs.Signs.{close_of, open_of, walk_of, jump_of}
use Rattle.rg_verify_expressions.specs.Blocks.{Given, Inner, Told, sign, cleared, right_behind, taken, otherwise_told, jumped, tested, close_by}
use Rattle.rg_verify_expressions.specs.Blocks.{expr_by, open_by, fronts_at, kind_by, kind_told}
use Rattle.rg_raise.specs.declared.said.Fronts.{Fronts}
use Rattle.rg_raise.specs.declared.said.KindSaid.{KindSaid}
use Rattle.rg_raise.specs.declared.said.RightSaid.{RightSaid}
use Rattle.rg_raise.specs.declared.said.After.TheVariants as after
use Rattle.rg_raise.specs.Fronts.{AreFrontsAt, MakesFronts}
use Rattle.rg_raise.specs.Telling.{array_of, MakesAs, MakesOne, IsRightSaid, IsKindSaid}
use Rattle.rg_blocks.specs.Blocks.{array_told, IsBlockSaid}
use Rattle.rg_raise.proofs.Telling.{bind-is, bind-none, makes-none, makes-no-memory, makes-some, makes-so, makes-behind, refused, one-some}
use Rattle.rg_raise.proofs.Telling.{one-refused}
use Rattle.rg_blocks.proofs.BlockParts.{jumped-back, jumped-over, kind-unread, kind-as}
use Rattle.rg_blocks.proofs.BlockRows.{print-said, return-said, while-said}

-- other numbers aren't equal
pub astray : (a b : ℕ) → (a ≡ b → ⊥) → (a == b) ≡ false
astray a b other = by (a == b) refl
  where
    by : (x : Truth) → (a == b) ≡ x → x ≡ false
    by false e = refl
    by true e = absurd (other (eqb-true a b e))

-- a new array goes into a slot
module _ (m : Truth) (g : Given) (types : List Ty) (e : Raised) (at : ℕ) (w : Walk) (t u : Tables) where
  pub array-refused : (f : Refusal) → MakesOne (IsRightSaid m) t u (array_of w e) (Err f)
      → MakesAs (IsKindSaid m (length types)) t u (array_told g types e at w) (Err f)
  array-refused f made =
      one-refused (IsRightSaid m) (IsKindSaid m (length types)) t u t u (array_of w e) (array_told g types e at w) f made
      (λ n. bind-none (array_of w e) _ n)

  pub array-taken : (v : Tables) (said : RightSaid) (r : Result (KindSaid × ℕ) Refusal) → MakesOne (IsRightSaid m) t u (array_of w e) (Ok said)
      → ((x : Right) → IsRightSaid m u said x → MakesAs (IsKindSaid m (length types)) u v (taken g types x (at + 1)) r)
      → MakesAs (IsKindSaid m (length types)) t v (array_told g types e at w) r
  array-taken v said r made goes =
      let (x, told, grown, is) = one-some (IsRightSaid m) t u (array_of w e) said made in
      subst (λ (o : Told Kind). MakesAs (IsKindSaid m (length types)) t v o r) (sym (bind-is (array_of w e) _ x told))
      (makes-behind (IsKindSaid m (length types)) t u v (taken g types x (at + 1)) r grown (goes x is))

module _ (m : Truth) (g : Given) (inner : Inner) (types : List Ty) (line : ℕ) where
  -- a loop, or an `if` with two blocks, whose first block has ended in front of a jump
  module _ (start : ℕ) (t : Tables) (test : ℕ) (e : Raised) (yes : Span) (b : Block) (fails at to : ℕ) (jump : sign jump_of g.ops at ≡ Some to)
      (falls : fails ≡ at + 1) where
    pub jumped-made : IsTree t test (named m e) → IsBlockSaid m (length types) t yes b → to ≡ start
        → MakesAs (IsKindSaid m (length types)) t t (jumped g inner types line start e b fails at)
        (Ok (record { row = kind_row.While test yes; after = after.Same }, at + 1))
    jumped-made is block same =
        let one : suc at ≡ at + 1 = omega arith in
        makes-so (IsKindSaid m (length types)) t t (jumped g inner types line start e b fails at) _ (while e b) (at + 1) (suc at)
        (jumped-back g inner types line start e b fails at to jump (falls ∙ sym one) same) (sym one) (extends-same t)
        (while-said m (length types) t test e is yes b block)

    pub jumped-goes : (v : Tables) (r : Result (KindSaid × ℕ) Refusal) → (to ≡ start → ⊥)
        → MakesAs (IsKindSaid m (length types)) t v (otherwise_told g inner types line e b to (at + 1)) r
        → MakesAs (IsKindSaid m (length types)) t v (jumped g inner types line start e b fails at) r
    jumped-goes v r other made =
        let one : suc at ≡ at + 1 = omega arith in
        subst (λ (o : Told Kind). MakesAs (IsKindSaid m (length types)) t v o r)
        (sym (jumped-over g inner types line start e b fails at to jump (falls ∙ sym one) (astray to start other)
        ∙ ap (otherwise_told g inner types line e b to) one)) made

  -- by what stands behind a whole expression
  module _ (start : ℕ) (e : Raised) (at : ℕ) (t : Tables) where
    module _ (test : ℕ) (is : IsTree t test (named m e)) where
      pub close-print : sign close_of g.ops at ≡ Some close.Print
          → MakesAs (IsKindSaid m (length types)) t t (close_by g inner types line start e at (sign close_of g.ops at))
          (Ok (record { row = kind_row.Print test; after = after.Same }, at + 1))
      close-print h =
          let one : at + 1 ≡ suc at = omega arith in
          makes-so (IsKindSaid m (length types)) t t (close_by g inner types line start e at (sign close_of g.ops at)) _ (print e) (at + 1) (suc at)
          (ap (close_by g inner types line start e at) h) one (extends-same t) (print-said m (length types) t test e is)

      pub close-return : sign close_of g.ops at ≡ Some close.Return
          → MakesAs (IsKindSaid m (length types)) t t (close_by g inner types line start e at (sign close_of g.ops at))
          (Ok (record { row = kind_row.Return test; after = after.Last }, at + 1))
      close-return h =
          let one : at + 1 ≡ suc at = omega arith in
          makes-so (IsKindSaid m (length types)) t t (close_by g inner types line start e at (sign close_of g.ops at)) _ (return e) (at + 1) (suc at)
          (ap (close_by g inner types line start e at) h) one (extends-same t) (return-said m (length types) t test e is)

    pub close-test : (to : ℕ) (v : Tables) (r : Result (KindSaid × ℕ) Refusal) → sign close_of g.ops at ≡ Some (close.Test to)
        → MakesAs (IsKindSaid m (length types)) t v (tested g inner types line start e to (at + 1)) r
        → MakesAs (IsKindSaid m (length types)) t v (close_by g inner types line start e at (sign close_of g.ops at)) r
    close-test to v r h made =
        let one : at + 1 ≡ suc at = omega arith in
        subst (λ (o : Told Kind). MakesAs (IsKindSaid m (length types)) t v o r)
        (ap (tested g inner types line start e to) one ∙ ap (close_by g inner types line start e at) (sym h)) made

  -- by what stands behind an expression
  module _ (start : ℕ) (e : Raised) (at : ℕ) where
    pub expr-uncleared : cleared g.ops (all_used types (e ∷ [])) at ≡ None → expr_by g inner types line start e at None ≡ None
    expr-uncleared h = bind-none (cleared g.ops (all_used types (e ∷ [])) at) _ h

    pub expr-closed : (behind : ℕ) → cleared g.ops (all_used types (e ∷ [])) at ≡ Some behind
        → expr_by g inner types line start e at None ≡ close_by g inner types line start e behind (sign close_of g.ops behind)
    expr-closed behind h = bind-is (cleared g.ops (all_used types (e ∷ [])) at) _ behind h

    by-array : (w : Walk) → ((k z : ℕ) → w ≡ walk.Enter k z → ⊥)
        → expr_by g inner types line start e at (Some w) ≡ array_told g types e at w
    by-array (walk.Enter k z) other = absurd (other k z refl)
    by-array (walk.New c) other = let one : suc at ≡ at + 1 = omega arith in ap (taken g types (new c (Some e))) one
    by-array (walk.NewTmp c) other = let one : suc at ≡ at + 1 = omega arith in ap (taken g types (new_tmp c (Some e))) one
    by-array (walk.NewIso c n) other = let one : suc at ≡ at + 1 = omega arith in ap (taken g types (new_iso c (Some e) n)) one

    pub expr-array : (w : Walk) → sign walk_of g.ops at ≡ Some w → ((k z : ℕ) → w ≡ walk.Enter k z → ⊥)
        → expr_by g inner types line start e at (sign walk_of g.ops at) ≡ array_told g types e at w
    expr-array w some other = ap (expr_by g inner types line start e at) some ∙ by-array w other

  -- by the first instruction, with nothing in front
  module _ (at : ℕ) where
    pub open-refused : (t u : Tables) (f : Refusal) → MakesAs (IsRightSaid m) t u (right_behind g types [] at) (Err f)
        → MakesAs (IsKindSaid m (length types)) t u (open_by g inner types line at None) (Err f)
    open-refused t u f made =
        refused (IsRightSaid m) (IsKindSaid m (length types)) t u t u (right_behind g types [] at)
        (open_by g inner types line at None) f made (λ n. bind-none (right_behind g types [] at) _ n)

    pub open-taken : (t u v : Tables) (said : RightSaid) (end : ℕ) (r : Result (KindSaid × ℕ) Refusal)
        → MakesAs (IsRightSaid m) t u (right_behind g types [] at) (Ok (said, end))
        → ((x : Right) → IsRightSaid m u said x → MakesAs (IsKindSaid m (length types)) u v (taken g types x end) r)
        → MakesAs (IsKindSaid m (length types)) t v (open_by g inner types line at None) r
    open-taken t u v said end r made goes =
        let (x, told, grown, is) = makes-some (IsRightSaid m) t u (right_behind g types [] at) said end made in
        subst (λ (o : Told Kind). MakesAs (IsKindSaid m (length types)) t v o r)
        (sym (bind-is (right_behind g types [] at) _ (x, end) told))
        (makes-behind (IsKindSaid m (length types)) t u v (taken g types x end) r grown (goes x is))

    pub open-collect : (t : Tables) → sign open_of g.ops at ≡ Some opens.Collect
        → MakesAs (IsKindSaid m (length types)) t t (open_by g inner types line at (sign open_of g.ops at))
        (Ok (record { row = kind_row.Collect; after = after.Same }, at + 1))
    open-collect t h =
        let one : at + 1 ≡ suc at = omega arith in
        makes-so (IsKindSaid m (length types)) t t (open_by g inner types line at (sign open_of g.ops at)) _ collect (at + 1) (suc at)
        (ap (open_by g inner types line at) h) one (extends-same t)
        (record { is = λ u k. refl; there = λ u k. tt }, refl)

  -- by what it begins with
  module _ (at : ℕ) (t u : Tables) where
    pub kind-refused : (f : Refusal) → MakesFronts t u m g.ops (at + 1) (Err f)
        → MakesAs (IsKindSaid m (length types)) t u (kind_told g inner types line at) (Err f)
    kind-refused refusal.Memory h = makes-no-memory (IsKindSaid m (length types)) t u (kind_told g inner types line at)
    kind-refused refusal.NotRaised h =
        makes-none (IsKindSaid m (length types)) t u (kind_told g inner types line at) (kind-unread g inner types line at h)

    pub kind-made : (x : Fronts) → MakesFronts t u m g.ops (at + 1) (Ok x) → (v : Tables) (r : Result (KindSaid × ℕ) Refusal)
        → ((fs : List Front) → AreFrontsAt u m g.ops x fs → MakesAs (IsKindSaid m (length types)) u v (kind_by g inner types line at fs x.code.end) r)
        → MakesAs (IsKindSaid m (length types)) t v (kind_told g inner types line at) r
    kind-made x (fs, from, grown, are) v r goes =
        subst (λ (o : Told Kind). MakesAs (IsKindSaid m (length types)) t v o r)
        (sym (kind-as g inner types line at fs x.code.end (ap (fronts_at g.ops) (sym from) ∙ are.told)))
        (makes-behind (IsKindSaid m (length types)) t u v (kind_by g inner types line at fs x.code.end) r grown (goes fs are))
