-- Statements with blocks, as rows.
use Rattle.std.proofs.Common.{◌≡◌, ◌==◌, ℕ, suc, ◌+◌, Bool as Truth, false, List, [], ◌∷◌, ◌++◌, length, Option, Some, None, option_map, Result, Ok}
use Rattle.std.proofs.Common.{Err}
use Rattle.std.proofs.Common.{refl, sym, ap, ◌∙◌, subst, arith}
use Rattle.std.proofs.lemmas.List.{length-append}
use Rattle.rg_base.specs.declared.words.Cap.TheVariants as cap
use Rattle.rg_base.specs.declared.ty.Ty.{Ty}
use Rattle.rg_base.specs.declared.ty.Ty.TheVariants as ty
use Rattle.rg_tree.specs.declared.rows.Path as rows
use Rattle.rg_tree.specs.declared.rows.Span.{Span}
use Rattle.rg_tree.specs.declared.rows.StmtKind.TheVariants as kind_row
use Rattle.rg_tree.specs.Tree as tree
use Rattle.rg_tree.specs.Rows.Tables.{Tables, name_at}
use Rattle.rg_tree.specs.Rows.RowTrees.{path_of, variable_of}
use Rattle.rg_tree.specs.Rows.RowsExist.{IsNameIn, IsVariableIn, IsPathIn}
use Rattle.rg_tree.specs.Adds.{Extends, Means, Adds}
use Rattle.rg_tree.proofs.Adding.{extends-trans, means-later}
use Rattle.rg_verify_expressions.specs.declared.refusal.Refusal.{Refusal}
use Rattle.rg_verify_expressions.specs.declared.signs.Open.TheVariants as opens
use Rattle.rg_verify_expressions.specs.declared.signs.Walk.TheVariants as walk
use Rattle.rg_verify_expressions.specs.Naming.{variable_name}
use Rattle.rg_verify_expressions.specs.Raised.{Raised, named, path_named}
use Rattle.rg_verify_expressions.specs.Rows.{IsTree, IsPath}
use Rattle.rg_verify_expressions.specs.Statements.{Block, Kind, branch, while, enter, enter_field, print, return, no_else, otherwise, types_inside}
use Rattle.rg_verify_expressions.specs.Signs.{end_of}
use Rattle.rg_verify_expressions.specs.Blocks.{Given, Inner, Told, slot_type, bridge_class, path_in, ended, otherwise_told, jumped, tested, window_end, window}
use Rattle.rg_verify_expressions.specs.Blocks.{expr_by, open_by}
use Rattle.rg_raise.specs.declared.said.KindSaid.{KindSaid}
use Rattle.rg_blocks.specs.declared.said.WindowSaid.{WindowSaid}
use Rattle.rg_raise.specs.declared.said.After.TheVariants as after
use Rattle.rg_raise.specs.Telling.{MakesAs, kind_of, IsKindRow, IsKindSaid}
use Rattle.rg_blocks.specs.Blocks.{IsBlockSaid, IsWindowSaid, window_named, Enters}
use Rattle.rg_raise.proofs.Rows.{means-one, means-two, means-three}
use Rattle.rg_blocks.proofs.Put.{means-four}
use Rattle.rg_raise.proofs.Telling.{bind-is, bind-none, makes-some, makes-so, makes-behind, refused}
use Rattle.rg_blocks.proofs.BlockParts.{otherwise-so, tested-alone, tested-more, window-none, window-so}

module _ (m : Truth) (n : ℕ) (t : Tables) (test : ℕ) (e : Raised) (is : IsTree t test (named m e)) where
  pub print-said : IsKindSaid m n t (record { row = kind_row.Print test; after = after.Same }) (print e)
  print-said = (means-one {at = kind_of} {exists = IsKindRow} kind_row.Print tree.print (λ w x. refl) (λ w x i. i) is, refl)

  pub return-said : IsKindSaid m n t (record { row = kind_row.Return test; after = after.Last }) (return e)
  return-said = (means-one {at = kind_of} {exists = IsKindRow} kind_row.Return tree.return (λ w x. refl) (λ w x i. i) is, refl)

  module _ (yes : Span) (b : Block) (block : IsBlockSaid m n t yes b) where
    pub while-said : IsKindSaid m n t (record { row = kind_row.While test yes; after = after.Same }) (while e b)
    while-said = (means-two {at = kind_of} {exists = IsKindRow} kind_row.While tree.while (λ w x y. refl) (λ w x y i j. (i, j)) is block, refl)

    pub branch-one : IsKindSaid m n t (record { row = kind_row.If test yes None; after = after.Same }) (branch e b no_else)
    branch-one = (
      means-two {at = kind_of} {exists = IsKindRow} (λ x y. kind_row.If x y None) (λ x y. tree.branch x y tree.no_else) (λ w x y. refl)
          (λ w x y i j. (i, j, tt)) is block,
      refl,
    )

    pub branch-two : (u : Tables) (second : Span) (c : Block) → Extends t u → IsBlockSaid m n u second c
        → IsKindSaid m n u (record { row = kind_row.If test yes (Some second); after = after.Same }) (branch e b (otherwise c))
    branch-two u second c g other = (
      means-three {at = kind_of} {exists = IsKindRow} (λ x y z. kind_row.If x y (Some z)) (λ x y z. tree.branch x y (tree.otherwise z))
          (λ w x y z. refl) (λ w x y z i j k. (i, j, k)) (means-later is g) (means-later block g) other,
      refl,
    )

module _ (m : Truth) (g : Given) (inner : Inner) (types : List Ty) (line : ℕ) where
  pub otherwise-made : (t u : Tables) (test : ℕ) (e : Raised) (first second : Span) (b : Block) (to at mid end : ℕ) → IsTree t test (named m e)
      → IsBlockSaid m (length types) t first b → MakesAs (IsBlockSaid m (length types)) t u (inner types at) (Ok (second, mid))
      → ended end_of g.ops line (length types) mid ≡ Some end → to ≡ end
      → MakesAs (IsKindSaid m (length types)) t u (otherwise_told g inner types line e b to at)
      (Ok (record { row = kind_row.If test first (Some second); after = after.Same }, end))
  otherwise-made t u test e first second b to at mid end is block made ends same =
      let (c, told, grown, other) = makes-some (IsBlockSaid m (length types)) t u (inner types at) second mid made in
      makes-so (IsKindSaid m (length types)) t u (otherwise_told g inner types line e b to at) _ (branch e b (otherwise c)) end end
      (otherwise-so g inner types line e b to at c mid told end ends same) refl grown
      (branch-two m (length types) t test e is first b block u second c grown other)

  module _ (start : ℕ) (t u : Tables) (test : ℕ) (e : Raised) (yes : Span) (fails at mid end : ℕ) (is : IsTree t test (named m e))
      (made : MakesAs (IsBlockSaid m (length types)) t u (inner types at) (Ok (yes, mid)))
      (ends : ended end_of g.ops line (length types) mid ≡ Some end) where
    pub tested-made : fails ≡ end
        → MakesAs (IsKindSaid m (length types)) t u (tested g inner types line start e fails at)
        (Ok (record { row = kind_row.If test yes None; after = after.Same }, end))
    tested-made same =
        let (b, told, grown, block) = makes-some (IsBlockSaid m (length types)) t u (inner types at) yes mid made in
        makes-so (IsKindSaid m (length types)) t u (tested g inner types line start e fails at) _ (branch e b no_else) end end
        (tested-alone g inner types line start e fails at b mid told end ends same) refl grown
        (branch-one m (length types) u test e (means-later is grown) yes b block)

    pub tested-goes : (v : Tables) (r : Result (KindSaid × ℕ) Refusal) → (fails == end) ≡ false
        → ((b : Block) → IsTree u test (named m e) → IsBlockSaid m (length types) u yes b
        → MakesAs (IsKindSaid m (length types)) u v (jumped g inner types line start e b fails end) r)
        → MakesAs (IsKindSaid m (length types)) t v (tested g inner types line start e fails at) r
    tested-goes v r other goes =
        let (b, told, grown, block) = makes-some (IsBlockSaid m (length types)) t u (inner types at) yes mid made in
        subst (λ (o : Told Kind). MakesAs (IsKindSaid m (length types)) t v o r)
        (sym (tested-more g inner types line start e fails at b mid told end ends other))
        (makes-behind (IsKindSaid m (length types)) t u v (jumped g inner types line start e b fails end) r grown
        (goes b (means-later is grown) block))

-- Windows

-- the block within a window, behind one more variable
inside-said : (m : Truth) (t : Tables) (types : List Ty) (of : Ty) (block : Span) (b : Block) → IsBlockSaid m (length (types ++ of ∷ [])) t block b
    → IsBlockSaid m (length types + 1) t block b
inside-said m t types of block b is = subst (λ (n : ℕ). IsBlockSaid m n t block b) (length-append types (of ∷ [])) is

module _ (m : Truth) (g : Given) (inner : Inner) (types : List Ty) (line z at : ℕ) (next : z ≡ length types) (of : Ty)
    (typed : slot_type g.ops g.maps at z ≡ Some of) (c : ℕ) (class : bridge_class of ≡ Some c) (t u : Tables) where
  pub window-closed : (f : Refusal) → MakesAs (IsBlockSaid m (length (types_inside types c))) t u (inner (types_inside types c) at) (Err f)
      → MakesAs (IsWindowSaid m (length types)) t u (window g inner types line z at) (Err f)
  window-closed f made =
      refused (IsBlockSaid m (length (types_inside types c))) (IsWindowSaid m (length types)) t u t u (inner (types_inside types c) at)
      (window g inner types line z at) f made (window-none g inner types line z at next of typed c class)

  pub window-made : (block : Span) (mid : ℕ) (given : Option ℕ) (end : ℕ)
      → MakesAs (IsBlockSaid m (length (types_inside types c))) t u (inner (types_inside types c) at) (Ok (block, mid))
      → window_end g.ops line (length types) mid ≡ Some (given, end)
      → MakesAs (IsWindowSaid m (length types)) t u (window g inner types line z at) (Ok (record { block = block; given = given }, end))
  window-made block mid given end made ends =
      let (b, told, grown, is) = makes-some (IsBlockSaid m (length (types_inside types c))) t u (inner (types_inside types c) at) block mid made in
      makes-so (IsWindowSaid m (length types)) t u (window g inner types line z at) _ (c, b, given) end end
      (window-so g inner types line z at next of typed c class b mid told given end ends) refl grown
      (inside-said m u types (ty.Ref cap.Mut c) block b is, refl)

module _ (m : Truth) (g : Given) (inner : Inner) (types : List Ty) (line : ℕ) where
  -- the window of a variable
  module _ (s z at : ℕ) where
    pub open-closed : (t u : Tables) (f : Refusal) → MakesAs (IsWindowSaid m (length types)) t u (window g inner types line z (at + 1)) (Err f)
        → MakesAs (IsKindSaid m (length types)) t u (open_by g inner types line at (Some (opens.Enter s z))) (Err f)
    open-closed t u f made =
        let one : suc at ≡ at + 1 = omega arith in
        refused (IsWindowSaid m (length types)) (IsKindSaid m (length types)) t u t u (window g inner types line z (at + 1))
        (open_by g inner types line at (Some (opens.Enter s z))) f made
        (λ n. bind-none (window g inner types line z (suc at)) _ (ap (window g inner types line z) one ∙ n))

    pub open-made : (t u v y : Tables) (w : WindowSaid) (end : ℕ) (to : rows.Path) (said : KindSaid)
        → MakesAs (IsWindowSaid m (length types)) t u (window g inner types line z (at + 1)) (Ok (w, end)) → z ≡ length types
        → Adds path_of IsPathIn u v to (path_named m s [])
        → ((q : tree.Path) (x : ℕ × Block × Option ℕ) → IsPath v to q → IsWindowSaid m z v w x → Enters m z v y q x said)
        → MakesAs (IsKindSaid m (length types)) t y (open_by g inner types line at (Some (opens.Enter s z))) (Ok (said, end))
    open-made t u v y w end to said made next path enters =
        let one : suc at ≡ at + 1 = omega arith in
        let (x, told, grown, is) = makes-some (IsWindowSaid m (length types)) t u (window g inner types line z (at + 1)) w end made in
        let there = subst (λ (n : ℕ). IsWindowSaid m n v w x) (sym next) (means-later is.0 path.extends, is.1) in
        let (later, means, same) = enters (path_named m s []) x path.means there in
        makes-so (IsKindSaid m (length types)) t y (open_by g inner types line at (Some (opens.Enter s z))) said (enter s x.0 x.1 x.2) end end
        (bind-is (window g inner types line z (suc at)) _ (x, end) (ap (window g inner types line z) one ∙ told)) refl
        (extends-trans grown (extends-trans path.extends later))
        (subst (λ (n : ℕ). Means kind_of IsKindRow y said.row (window_named m n (path_named m s []) x)) next means, same)

  -- the window of a field
  module _ (start : ℕ) (e : Raised) (k z at : ℕ) where
    pub field-unfound : path_in e ≡ None → expr_by g inner types line start e at (Some (walk.Enter k z)) ≡ None
    field-unfound h = bind-none (path_in e) _ h

    module _ (q : ℕ × List ℕ) (found : path_in e ≡ Some q) where
      pub field-closed : (t u : Tables) (f : Refusal) → MakesAs (IsWindowSaid m (length types)) t u (window g inner types line z (at + 1)) (Err f)
          → MakesAs (IsKindSaid m (length types)) t u (expr_by g inner types line start e at (Some (walk.Enter k z))) (Err f)
      field-closed t u f made =
          let one : suc at ≡ at + 1 = omega arith in
          refused (IsWindowSaid m (length types)) (IsKindSaid m (length types)) t u t u (window g inner types line z (at + 1))
          (expr_by g inner types line start e at (Some (walk.Enter k z))) f made
          (λ n. bind-is (path_in e) _ q found ∙ bind-none (window g inner types line z (suc at)) _ (ap (window g inner types line z) one ∙ n))

      pub field-made : (t u v y : Tables) (w : WindowSaid) (end : ℕ) (to : rows.Path) (said : KindSaid)
          → MakesAs (IsWindowSaid m (length types)) t u (window g inner types line z (at + 1)) (Ok (w, end)) → z ≡ length types
          → Adds path_of IsPathIn u v to (path_named m q.0 (q.1 ++ k ∷ []))
          → ((p : tree.Path) (x : ℕ × Block × Option ℕ) → IsPath v to p → IsWindowSaid m z v w x → Enters m z v y p x said)
          → MakesAs (IsKindSaid m (length types)) t y (expr_by g inner types line start e at (Some (walk.Enter k z))) (Ok (said, end))
      field-made t u v y w end to said made next path enters =
          let one : suc at ≡ at + 1 = omega arith in
          let (x, told, grown, is) = makes-some (IsWindowSaid m (length types)) t u (window g inner types line z (at + 1)) w end made in
          let there = subst (λ (n : ℕ). IsWindowSaid m n v w x) (sym next) (means-later is.0 path.extends, is.1) in
          let (later, means, same) = enters (path_named m q.0 (q.1 ++ k ∷ [])) x path.means there in
          makes-so (IsKindSaid m (length types)) t y (expr_by g inner types line start e at (Some (walk.Enter k z))) said
          (enter_field q.0 q.1 k x.0 x.1 x.2) end end
          (bind-is (path_in e) _ q found
          ∙ bind-is (window g inner types line z (suc at)) _ (x, end) (ap (window g inner types line z) one ∙ told)) refl
          (extends-trans grown (extends-trans path.extends later))
          (subst (λ (n : ℕ). Means kind_of IsKindRow y said.row (window_named m n (path_named m q.0 (q.1 ++ k ∷ [])) x)) next means, same)

-- a window, whose path and block are there
pub enters-made : (m : Truth) (n : ℕ) (t u v : Tables) (to : rows.Path) (name : ℕ) (giving : Option ℕ) (w : WindowSaid) (q : tree.Path)
    (x : ℕ × Block × Option ℕ) → IsPath t to q → IsWindowSaid m n t w x → Adds name_at IsNameIn t u name (variable_name n)
    → Adds variable_of IsVariableIn u v giving (option_map variable_name w.given)
    → Enters m n t v q x (record { row = kind_row.Enter to name w.block giving; after = after.Same })
enters-made m n t u v to name giving w q x path is put given =
    let later = extends-trans put.extends given.extends in
    let gives : Means variable_of IsVariableIn v giving (option_map variable_name x.2) =
    subst (λ (o : Option ℕ). Means variable_of IsVariableIn v giving (option_map variable_name o)) is.1 given.means in (
      later,
      means-four {at = kind_of} {exists = IsKindRow} kind_row.Enter tree.enter (λ w p y z o. refl) (λ w p y z o i j k l. (i, j, k, l))
          (means-later path later) (means-later put.means given.extends) (means-later is.0 later) gives,
      refl,
    )
