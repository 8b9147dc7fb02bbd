-- Values that go into slots, fields and elements.
use Rattle.std.proofs.Common.{◌≡◌, ◌==◌, ℕ, suc, ◌+◌, Bool as Truth, true, false, List, [], ◌∷◌, ◌++◌, length, Option, Some, None, Ok, Err}
use Rattle.std.proofs.Common.{refl, sym, ap, ◌∙◌, subst, arith}
use Rattle.std.proofs.lemmas.Bool.{eq-eqb, eqb-true}
use Rattle.rg_base.specs.declared.ty.Ty.{Ty}
use Rattle.rg_rules.specs.Capabilities.{is_iso}
use Rattle.rg_tree.specs.declared.rows.Path as rows
use Rattle.rg_tree.specs.declared.rows.TypeRow.{TypeRow}
use Rattle.rg_tree.specs.declared.rows.StmtKind.TheVariants as kind_row
use Rattle.rg_tree.specs.Tree as tree
use Rattle.rg_tree.specs.Rows.Tables.{Tables, name_at}
use Rattle.rg_tree.specs.Rows.RowTrees.{path_of, type_of}
use Rattle.rg_tree.specs.Rows.RowsExist.{IsNameIn, IsTypeIn, IsPathIn}
use Rattle.rg_tree.specs.Adds.{Extends, Means, Adds}
use Rattle.rg_tree.proofs.Adding.{extends-trans, means-later}
use Rattle.rg_verify_expressions.specs.declared.refusal.Refusal.{Refusal}
use Rattle.rg_verify_expressions.specs.declared.signs.Target.{Target}
use Rattle.rg_verify_expressions.specs.declared.signs.Target.TheVariants as target
use Rattle.rg_verify_expressions.specs.Naming.{variable_name, written}
use Rattle.rg_verify_expressions.specs.Raised.{Raised, path_named, named, Front}
use Rattle.rg_verify_expressions.specs.Rows.{IsTree}
use Rattle.rg_verify_expressions.specs.Statements.{Right, assign, write, write_element, type_at}
use Rattle.rg_verify_expressions.specs.Statements as statements
use Rattle.rg_verify_expressions.specs.Found.{right_named}
use Rattle.rg_verify_expressions.specs.Signs.{target_of, put_of, put_element_of}
use Rattle.rg_verify_expressions.specs.Blocks.{◌>>=◌, Given, sign, slot_type, right_behind, paces, paced, stored, taken_by, taken, written_to}
use Rattle.rg_verify_expressions.specs.Blocks.{element_written}
use Rattle.rg_raise.specs.declared.said.RightSaid.{RightSaid}
use Rattle.rg_raise.specs.declared.said.KindSaid.{KindSaid}
use Rattle.rg_raise.specs.declared.said.After.TheVariants as after
use Rattle.rg_raise.specs.Telling.{IsPathTo, MakesAs, MakesOne, kind_of, IsKindRow, IsRightSaid, IsKindSaid}
use Rattle.rg_raise.proofs.Rows.{means-two, means-three}
use Rattle.rg_raise.proofs.RightSides.{then-is, then-none}
use Rattle.rg_raise.proofs.Telling.{bind-is, bind-none, makes-so, refused, one-some, one-so, one-refused}

-- A value goes into a slot

module _ (m : Truth) (t : Tables) (r : Right) (right : RightSaid) (is : IsRightSaid m t right r) where
  pub declared-made : (u v : Tables) (g : Given) (types : List Ty) (end slot : ℕ) (ty : Ty) (name : ℕ) (row : TypeRow)
      → slot_type g.ops g.maps end slot ≡ Some ty → slot ≡ length types → Adds name_at IsNameIn t u name (variable_name slot)
      → Adds type_of IsTypeIn u v row (written ty)
      → MakesOne (IsKindSaid m (length types)) t v (stored g types r end slot true)
      (Ok (record { row = kind_row.Let name row right.row; after = after.More ty }))
  declared-made u v g types end slot ty name row h same a b =
      let later = extends-trans a.extends b.extends in
      let means : Means kind_of IsKindRow v (kind_row.Let name row right.row) (tree.declare (variable_name slot) (written ty) (right_named m r)) =
      means-three {at = kind_of} {exists = IsKindRow} kind_row.Let tree.declare (λ w x y z. refl) (λ w x y z p q s. (p, q, s))
      (means-later a.means b.extends) b.means (means-later is.0 later) in
      let named = subst (λ (k : ℕ). Means kind_of IsKindRow v (kind_row.Let name row right.row)
      (tree.declare (variable_name k) (written ty) (right_named m r))) same means in
      one-so (IsKindSaid m (length types)) t v (stored g types r end slot true) _ (statements.declare ty r)
      (bind-is (slot_type g.ops g.maps end slot) _ ty h) later (named, refl)

  pub assigned-made : (u : Tables) (n slot : ℕ) (path : rows.Path) → Adds path_of IsPathIn t u path (path_named m slot [])
      → MakesOne (IsKindSaid m n) t u (Some (assign slot r)) (Ok (record { row = kind_row.Set path right.row; after = after.Same }))
  assigned-made u n slot path a =
      let means : Means kind_of IsKindRow u (kind_row.Set path right.row) (tree.assign (path_named m slot []) (right_named m r)) =
      means-two {at = kind_of} {exists = IsKindRow} kind_row.Set tree.assign (λ w x y. refl) (λ w x y p q. (p, q)) a.means
      (means-later is.0 a.extends) in
      (a.extends, (means, refl))

module _ (g : Given) (types : List Ty) (r : Right) (end s : ℕ) where
  stored-by : (b : Truth) → (s == length types) ≡ b → stored g types r end s (s == length types) ≡ stored g types r end s b
  stored-by b e = ap (stored g types r end s) e

  pub stored-next : s ≡ length types → stored g types r end s (s == length types) ≡ stored g types r end s true
  stored-next e = stored-by true (eq-eqb s (length types) e)

  not-next : (b : Truth) → (s == length types) ≡ b → (s ≡ length types → ⊥) → (s == length types) ≡ false
  not-next false e other = e
  not-next true e other = absurd (other (eqb-true s (length types) e))

  pub stored-there : (s ≡ length types → ⊥) → is_iso (type_at types s) ≡ false → stored g types r end s (s == length types) ≡ Some (assign s r)
  stored-there other iso = stored-by false (not-next (s == length types) refl other) ∙ rw iso refl

  pub stored-not : (s ≡ length types → ⊥) → is_iso (type_at types s) ≡ true → stored g types r end s (s == length types) ≡ None
  stored-not other iso = stored-by false (not-next (s == length types) refl other) ∙ rw iso refl

  pub own-there : is_iso (type_at types s) ≡ true → taken_by g types r end (target.Own s) ≡ Some (assign s r)
  own-there iso = rw iso refl

module _ (g : Given) (types : List Ty) (r : Right) (at : ℕ) (k : Target) (told : sign target_of g.ops at ≡ Some k) where
  module _ (p : Truth) (same : p ≡ paces r) where
    pub taken-unpaced : paced g.ops p (at + 1) ≡ None → taken g types r at ≡ None
    taken-unpaced h =
        let one : suc at ≡ at + 1 = omega arith in
        let none : paced g.ops (paces r) (suc at) ≡ None =
        ap (λ (b : Truth). paced g.ops b (suc at)) (sym same) ∙ ap (paced g.ops p) one ∙ h in
        bind-is (sign target_of g.ops at) _ k told ∙ bind-none (paced g.ops (paces r) (suc at)) _ none

    module _ (end : ℕ) (pace : paced g.ops p (at + 1) ≡ Some end) where
      taken-as : taken g types r at ≡ ◌>>=◌ (taken_by g types r end k) (λ x. Some (x, end))
      taken-as =
          let one : suc at ≡ at + 1 = omega arith in
          let some : paced g.ops (paces r) (suc at) ≡ Some end =
          ap (λ (b : Truth). paced g.ops b (suc at)) (sym same) ∙ ap (paced g.ops p) one ∙ pace in
          bind-is (sign target_of g.ops at) _ k told ∙ bind-is (paced g.ops (paces r) (suc at)) _ end some

      pub taken-refused : (t u : Tables) (m : Truth) (e : Refusal)
          → MakesOne (IsKindSaid m (length types)) t u (taken_by g types r end k) (Err e)
          → MakesAs (IsKindSaid m (length types)) t u (taken g types r at) (Err e)
      taken-refused t u m e made =
          one-refused (IsKindSaid m (length types)) (IsKindSaid m (length types)) t u t u (taken_by g types r end k) (taken g types r at) e made
          (λ n. taken-as ∙ bind-none (taken_by g types r end k) _ n)

      pub taken-made : (t u : Tables) (m : Truth) (v : KindSaid)
          → MakesOne (IsKindSaid m (length types)) t u (taken_by g types r end k) (Ok v)
          → MakesAs (IsKindSaid m (length types)) t u (taken g types r at) (Ok (v, end))
      taken-made t u m v made =
          let (x, is, grown, means) = one-some (IsKindSaid m (length types)) t u (taken_by g types r end k) v made in
          makes-so (IsKindSaid m (length types)) t u (taken g types r at) v x end end
          (taken-as ∙ bind-is (taken_by g types r end k) _ x is) refl grown
          means

-- A field or an element is written

-- what is asked of a pacer, behind what writes
paced-behind : (g : Given) (r : Right) (behind : ℕ) (p : Truth) (o : Option ℕ) → p ≡ paces r → paced g.ops p (behind + 1) ≡ o
    → paced g.ops (paces r) (suc behind) ≡ o
paced-behind g r behind p o same h =
    let one : suc behind ≡ behind + 1 = omega arith in
    ap (λ (b : Truth). paced g.ops b (suc behind)) (sym same) ∙ ap (paced g.ops p) one ∙ h

module _ (g : Given) (types : List Ty) (s : ℕ) (ks : List ℕ) (fs : List Front) (at : ℕ) where
  pub write-refused : (t u v w : Tables) (m : Truth) (f : Refusal) → MakesAs (IsRightSaid m) t u (right_behind g types fs at) (Err f)
      → MakesAs (IsKindSaid m (length types)) v w (written_to g types s ks fs at) (Err f)
  write-refused t u v w m f made =
      refused (IsRightSaid m) (IsKindSaid m (length types)) t u v w (right_behind g types fs at) (written_to g types s ks fs at) f made
      (λ n. bind-none (right_behind g types fs at) _ n)

  module _ (r : Right) (behind : ℕ) (right : right_behind g types fs at ≡ Some (r, behind)) where
    pub write-nowhere : sign put_of g.ops behind ≡ None → written_to g types s ks fs at ≡ None
    write-nowhere h = bind-is (right_behind g types fs at) _ (r, behind) right ∙ bind-none (sign put_of g.ops behind) _ h

    module _ (k : ℕ) (put : sign put_of g.ops behind ≡ Some k) (p : Truth) (same : p ≡ paces r) where
      pub write-unpaced : paced g.ops p (behind + 1) ≡ None → written_to g types s ks fs at ≡ None
      write-unpaced h =
          bind-is (right_behind g types fs at) _ (r, behind) right ∙ bind-is (sign put_of g.ops behind) _ k put
          ∙ bind-none (paced g.ops (paces r) (suc behind)) _ (paced-behind g r behind p None same h)

      pub write-made : (t u v : Tables) (m : Truth) (end : ℕ) (said : RightSaid) (to : rows.Path) → paced g.ops p (behind + 1) ≡ Some end
          → Extends t u → IsRightSaid m u said r → Adds path_of IsPathIn u v to (path_named m s (ks ++ k ∷ []))
          → MakesAs (IsKindSaid m (length types)) t v (written_to g types s ks fs at)
          (Ok (record { row = kind_row.Set to said.row; after = after.Same }, end))
      write-made t u v m end said to h grown is a =
          let told : written_to g types s ks fs at ≡ Some (write s ks k r, end) =
          bind-is (right_behind g types fs at) _ (r, behind) right ∙ bind-is (sign put_of g.ops behind) _ k put
          ∙ bind-is (paced g.ops (paces r) (suc behind)) _ end (paced-behind g r behind p (Some end) same h) in
          let means : Means kind_of IsKindRow v (kind_row.Set to said.row) (tree.assign (path_named m s (ks ++ k ∷ [])) (right_named m r)) =
          means-two {at = kind_of} {exists = IsKindRow} kind_row.Set tree.assign (λ w x y. refl) (λ w x y i j. (i, j)) a.means
          (means-later is.0 a.extends) in
          makes-so (IsKindSaid m (length types)) t v (written_to g types s ks fs at) _ (write s ks k r) end end told refl
          (extends-trans grown a.extends) (means, refl)

  module _ (e : Raised) where
    pub element-refused : (t u v w : Tables) (m : Truth) (f : Refusal) → MakesAs (IsRightSaid m) t u (right_behind g types fs at) (Err f)
        → MakesAs (IsKindSaid m (length types)) v w (element_written g types s ks e fs at) (Err f)
    element-refused t u v w m f made =
        refused (IsRightSaid m) (IsKindSaid m (length types)) t u v w (right_behind g types fs at) (element_written g types s ks e fs at) f made
        (λ n. bind-none (right_behind g types fs at) _ n)

    module _ (r : Right) (behind : ℕ) (right : right_behind g types fs at ≡ Some (r, behind)) where
      pub element-nowhere : sign put_element_of g.ops behind ≡ None → element_written g types s ks e fs at ≡ None
      element-nowhere h =
          bind-is (right_behind g types fs at) _ (r, behind) right ∙ then-none (sign put_element_of g.ops behind) _ h

      module _ (put : sign put_element_of g.ops behind ≡ Some tt) (p : Truth) (same : p ≡ paces r) where
        element-as : element_written g types s ks e fs at
            ≡ ◌>>=◌ (paced g.ops (paces r) (suc behind)) (λ end. Some (write_element s ks e r, end))
        element-as = bind-is (right_behind g types fs at) _ (r, behind) right ∙ then-is (sign put_element_of g.ops behind) _ tt put

        pub element-unpaced : paced g.ops p (behind + 1) ≡ None → element_written g types s ks e fs at ≡ None
        element-unpaced h = element-as ∙ bind-none (paced g.ops (paces r) (suc behind)) _ (paced-behind g r behind p None same h)

        pub element-made : (t u : Tables) (m : Truth) (end : ℕ) (said : RightSaid) (path : rows.Path) (index : ℕ)
            → paced g.ops p (behind + 1) ≡ Some end → Extends t u → IsRightSaid m u said r → IsPathTo t m path s ks
            → IsTree t index (named m e)
            → MakesAs (IsKindSaid m (length types)) t u (element_written g types s ks e fs at)
            (Ok (record { row = kind_row.SetAt path index said.row; after = after.Same }, end))
        element-made t u m end said path index h grown is to tree_is =
            let told : element_written g types s ks e fs at ≡ Some (write_element s ks e r, end) =
            element-as ∙ bind-is (paced g.ops (paces r) (suc behind)) _ end (paced-behind g r behind p (Some end) same h) in
            let means : Means kind_of IsKindRow u (kind_row.SetAt path index said.row)
            (tree.assign_element (path_named m s ks) (named m e) (right_named m r)) =
            means-three {at = kind_of} {exists = IsKindRow} kind_row.SetAt tree.assign_element (λ w x y z. refl) (λ w x y z i j k. (i, j, k))
            (means-later to grown) (means-later tree_is grown) is.0 in
            makes-so (IsKindSaid m (length types)) t u (element_written g types s ks e fs at) _ (write_element s ks e r) end end told refl grown
            (means, refl)
