-- Statements that begin with an object.
use Rattle.std.proofs.Common.{◌≡◌, ℕ, suc, ◌+◌, Bool as Truth, List, [], ◌∷◌, ◌++◌, length, Option, Some, None, Result, Ok, Err}
use Rattle.std.proofs.Common.{refl, sym, ap, ◌∙◌, subst, arith}
use Rattle.rg_base.specs.declared.ty.Ty.{Ty}
use Rattle.rg_tree.specs.declared.rows.Path as rows
use Rattle.rg_tree.specs.declared.rows.StmtKind.TheVariants as kind_row
use Rattle.rg_tree.specs.Tree as tree
use Rattle.rg_tree.specs.Rows.Tables.{Tables, name_at}
use Rattle.rg_tree.specs.Rows.RowTrees.{path_of}
use Rattle.rg_tree.specs.Rows.RowsExist.{IsNameIn, IsPathIn}
use Rattle.rg_tree.specs.Adds.{Extends, Means, Adds}
use Rattle.rg_tree.proofs.Adding.{extends-same, extends-trans, means-later}
use Rattle.rg_verify_expressions.specs.declared.refusal.Refusal.{Refusal}
use Rattle.rg_verify_expressions.specs.declared.front.FrontRow.{FrontRow}
use Rattle.rg_verify_expressions.specs.Naming.{variable_name}
use Rattle.rg_verify_expressions.specs.Raised.{Raised, Front, path_named}
use Rattle.rg_verify_expressions.specs.Statements.{Call, Kind, call, swap}
use Rattle.rg_verify_expressions.specs.Found.{call_named}
use Rattle.rg_verify_expressions.specs.Signs.{target_of}
use Rattle.rg_verify_expressions.specs.Blocks.{◌>>=◌, Given, Told, sign, called, dropped, call_by, written_to, room_by, swap_by}
use Rattle.rg_raise.specs.declared.said.CallSaid.{CallSaid}
use Rattle.rg_raise.specs.declared.said.KindSaid.{KindSaid}
use Rattle.rg_raise.specs.declared.said.After.TheVariants as after
use Rattle.rg_raise.specs.Fronts.{AreFrontRows}
use Rattle.rg_raise.specs.Telling.{MakesAs, kind_of, IsKindRow, IsCallSaid, IsKindSaid}
use Rattle.rg_raise.proofs.Rows.{means-one, means-two}
use Rattle.rg_raise.proofs.FrontRows.{rows-many}
use Rattle.rg_raise.proofs.Telling.{bind-is, bind-none, makes-so, makes-behind, refused}

-- A call alone

module _ (g : Given) (types : List Ty) (c : Call) (at : ℕ) where
  module _ (none : sign target_of g.ops at ≡ None) where
    dropped-as : call_by g types c at (sign target_of g.ops at) ≡ ◌>>=◌ (dropped g.ops c.callee.result at) (λ end. Some (call c, end))
    dropped-as = ap (call_by g types c at) none

    pub call-undropped : dropped g.ops c.callee.result at ≡ None → call_by g types c at (sign target_of g.ops at) ≡ None
    call-undropped h = dropped-as ∙ bind-none (dropped g.ops c.callee.result at) _ h

    pub call-made : (t : Tables) (m : Truth) (said : CallSaid) (end : ℕ) → IsCallSaid m t said c → dropped g.ops c.callee.result at ≡ Some end
        → MakesAs (IsKindSaid m (length types)) t t (call_by g types c at (sign target_of g.ops at))
        (Ok (record { row = kind_row.Call said.row; after = after.Same }, end))
    call-made t m said end is h =
        let means : Means kind_of IsKindRow t (kind_row.Call said.row) (tree.call (call_named m c)) =
        means-one {at = kind_of} {exists = IsKindRow} kind_row.Call tree.call (λ w x. refl) (λ w x i. i) is.0 in
        makes-so (IsKindSaid m (length types)) t t (call_by g types c at (sign target_of g.ops at)) _ (call c) end end
        (dropped-as ∙ bind-is (dropped g.ops c.callee.result at) _ end h) refl (extends-same t) (means, refl)

-- Behind `room`

module _ (g : Given) (types : List Ty) (s : ℕ) (ks : List ℕ) (fs : List Front) (o : Option (List Raised)) (at : ℕ) where
  pub room-written : o ≡ None → room_by g types s ks fs o at ≡ written_to g types s ks fs at
  room-written e = ap (λ (x : Option (List Raised)). room_by g types s ks fs x at) e

  module _ (rs : List Raised) (told : o ≡ Some rs) where
    room-as : room_by g types s ks fs o at
        ≡ ◌>>=◌ (called g types s ks rs (at + 1)) (λ c. call_by g types c.0 c.1 (sign target_of g.ops c.1))
    room-as =
        let one : suc at ≡ at + 1 = omega arith in
        ap (λ (x : Option (List Raised)). room_by g types s ks fs x at) told
        ∙ ap (λ (n : ℕ). ◌>>=◌ (called g types s ks rs n) (λ c. call_by g types c.0 c.1 (sign target_of g.ops c.1))) one

    pub room-refused : (t u : Tables) (m : Truth) (f : Refusal) → MakesAs (IsCallSaid m) t u (called g types s ks rs (at + 1)) (Err f)
        → MakesAs (IsKindSaid m (length types)) t u (room_by g types s ks fs o at) (Err f)
    room-refused t u m f made =
        refused (IsCallSaid m) (IsKindSaid m (length types)) t u t u (called g types s ks rs (at + 1)) (room_by g types s ks fs o at) f made
        (λ n. room-as ∙ bind-none (called g types s ks rs (at + 1)) _ n)

    pub room-called : (t u v : Tables) (m : Truth) (c : Call) (end : ℕ) (r : Result (KindSaid × ℕ) Refusal)
        → called g types s ks rs (at + 1) ≡ Some (c, end) → Extends t u
        → MakesAs (IsKindSaid m (length types)) u v (call_by g types c end (sign target_of g.ops end)) r
        → MakesAs (IsKindSaid m (length types)) t v (room_by g types s ks fs o at) r
    room-called t u v m c end r h grown made =
        let same : room_by g types s ks fs o at ≡ call_by g types c end (sign target_of g.ops end) =
        room-as ∙ bind-is (called g types s ks rs (at + 1)) _ (c, end) h in
        subst (λ (x : Told Kind). MakesAs (IsKindSaid m (length types)) t v x r) (sym same)
        (makes-behind (IsKindSaid m (length types)) t u v (call_by g types c end (sign target_of g.ops end)) r grown made)

-- A field and a variable change places

module _ (t : Tables) (m : Truth) (rs : List FrontRow) (s : ℕ) (ks : List ℕ) (fs : List Front) (y k at : ℕ) (a : AreFrontRows t m rs fs) where
  pub swap-many : (length rs ≡ 0 → ⊥) → swap_by s ks fs y k at ≡ None
  swap-many some = by fs a
    where
      by : (xs : List Front) → AreFrontRows t m rs xs → swap_by s ks xs y k at ≡ None
      by [] b = absurd (some (rows-many t m rs [] b))
      by (x ∷ xs) b = refl

  pub swap-made : (u v : Tables) (n name : ℕ) (to : rows.Path) → length rs ≡ 0 → Adds name_at IsNameIn t u name (variable_name y)
      → Adds path_of IsPathIn u v to (path_named m s (ks ++ k ∷ []))
      → MakesAs (IsKindSaid m n) t v (swap_by s ks fs y k at) (Ok (record { row = kind_row.Swap name to; after = after.Same }, at + 1))
  swap-made u v n name to none named path = by fs a
    where
      means : Means kind_of IsKindRow v (kind_row.Swap name to) (tree.swap (variable_name y) (path_named m s (ks ++ k ∷ [])))
      means =
          means-two {at = kind_of} {exists = IsKindRow} kind_row.Swap tree.swap (λ w x y. refl) (λ w x y i j. (i, j))
          (means-later named.means path.extends) path.means

      by : (xs : List Front) → AreFrontRows t m rs xs
          → MakesAs (IsKindSaid m n) t v (swap_by s ks xs y k at) (Ok (record { row = kind_row.Swap name to; after = after.Same }, at + 1))
      by [] b =
          let one : at + 1 ≡ suc at = omega arith in
          makes-so (IsKindSaid m n) t v (swap_by s ks [] y k at) _ (swap y s ks k) (at + 1) (suc at) refl one
          (extends-trans named.extends path.extends) (means, refl)
      by (x ∷ xs) b =
          let many : 0 ≡ suc (length xs) = sym none ∙ rows-many t m rs (x ∷ xs) b in
          absurd (omega (arith, many))
