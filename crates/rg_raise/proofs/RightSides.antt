-- Right sides that are told at an address.
use Rattle.std.proofs.Common.{◌≡◌, ℕ, suc, ◌+◌, Bool as Truth, true, false, List, [], ◌∷◌, Option, Some, None, Ok, Err}
use Rattle.std.proofs.Common.{refl, ap, ◌∙◌, arith}
use Rattle.rg_base.specs.declared.ty.Ty.{Ty}
use Rattle.rg_base.specs.declared.words.Manager.{Manager}
use Rattle.rg_tree.specs.declared.rows.Right.TheVariants as right_row
use Rattle.rg_tree.specs.Tree as tree
use Rattle.rg_tree.specs.Tree.{Name, Expr}
use Rattle.rg_tree.specs.Rows.Tables.{Tables, name_at}
use Rattle.rg_tree.specs.Rows.RowTrees.{right_of}
use Rattle.rg_tree.specs.Rows.RowsExist.{IsNameIn, IsRightIn}
use Rattle.rg_tree.specs.Adds.{Adds}
use Rattle.rg_tree.proofs.Adding.{extends-same, means-later}
use Rattle.rg_verify_expressions.specs.declared.refusal.Refusal.{Refusal}
use Rattle.rg_verify_expressions.specs.declared.refusal.Refusal.TheVariants as refusal
use Rattle.rg_verify_expressions.specs.declared.signs.Walk.{Walk}
use Rattle.rg_verify_expressions.specs.declared.signs.Walk.TheVariants as walk
use Rattle.rg_verify_expressions.specs.Naming.{class_name}
use Rattle.rg_verify_expressions.specs.Raised.{Raised, named, Front, expression}
use Rattle.rg_verify_expressions.specs.Rows.{IsTree}
use Rattle.rg_verify_expressions.specs.Statements.{Call, Right, value, new, new_tmp, new_iso, result_of, all_used}
use Rattle.rg_verify_expressions.specs.Signs.{behind_of, walk_of}
use Rattle.rg_verify_expressions.specs.Blocks.{◌>>=◌, ◌>>◌, test, Given, sign, cleared, called, is_room, right_by, result_by, right_behind}
use Rattle.rg_raise.specs.declared.said.CallSaid.{CallSaid}
use Rattle.rg_raise.specs.declared.said.RightSaid.{RightSaid}
use Rattle.rg_raise.specs.Telling.{MakesAs, MakesOne, IsCallSaid, AddsName, IsRightSaid, roomed, array_of}
use Rattle.rg_raise.proofs.Rows.{means-one, means-two}
use Rattle.rg_raise.proofs.Telling.{bind-is, bind-none, makes-some, makes-so, refused, one-some, one-refused}

-- a test behind what it tests
bind-test : {A B : Type 0} (o : Option A) (p : A → Truth) (rest : Option B)
    → ◌>>=◌ o (λ a. ◌>>◌ (test (p a)) rest) ≡ ◌>>◌ (◌>>=◌ o (λ a. test (p a))) rest
bind-test None p rest = refl
bind-test (Some a) p rest = refl

pub then-is : {A B : Type 0} (o : Option A) (rest : Option B) (a : A) → o ≡ Some a → ◌>>◌ o rest ≡ rest
then-is o rest a e = ap (λ (x : Option _). ◌>>◌ x rest) e

pub then-none : {A B : Type 0} (o : Option A) (rest : Option B) → o ≡ None → ◌>>◌ o rest ≡ None
then-none o rest e = ap (λ (x : Option _). ◌>>◌ x rest) e

-- a call that is a right side
pub call-right : (t : Tables) (m : Truth) (said : CallSaid) (c : Call) → IsCallSaid m t said c
    → IsRightSaid m t (record { row = right_row.Call said.row; paces = false }) (result_of c)
call-right t m said c is = (means-one {at = right_of} {exists = IsRightIn} right_row.Call tree.result_of (λ w x. refl) (λ w x i. i) is.0, refl)

-- The result of a call

module _ (g : Given) (types : List Ty) (s : ℕ) (ks : List ℕ) (o : Option (List Raised)) (at : ℕ) where
  pub result-unknown : o ≡ None → result_by g types s ks o at ≡ None
  result-unknown e = ap (λ (x : Option (List Raised)). result_by g types s ks x at) e

  module _ (rs : List Raised) (told : o ≡ Some rs) where
    result-as : result_by g types s ks o at
        ≡ ◌>>◌ (roomed g.ops at) (◌>>=◌ (called g types s ks rs (suc at)) (λ c. Some (result_of c.0, c.1)))
    result-as = ap (λ (x : Option (List Raised)). result_by g types s ks x at) told ∙ bind-test (sign behind_of g.ops at) is_room _

    pub result-unroomed : roomed g.ops at ≡ None → result_by g types s ks o at ≡ None
    result-unroomed h = result-as ∙ then-none (roomed g.ops at) _ h

    module _ (room : roomed g.ops at ≡ Some tt) where
      result-called : result_by g types s ks o at ≡ ◌>>=◌ (called g types s ks rs (at + 1)) (λ c. Some (result_of c.0, c.1))
      result-called =
          let one : suc at ≡ at + 1 = omega arith in
          result-as ∙ then-is (roomed g.ops at) _ tt room
          ∙ ap (λ (n : ℕ). ◌>>=◌ (called g types s ks rs n) (λ c. Some (result_of c.0, c.1))) one

      pub result-refused : (t u : Tables) (m : Truth) (f : Refusal)
          → MakesAs (IsCallSaid m) t u (called g types s ks rs (at + 1)) (Err f)
          → MakesAs (IsRightSaid m) t u (result_by g types s ks o at) (Err f)
      result-refused t u m f made =
          refused (IsCallSaid m) (IsRightSaid m) t u t u (called g types s ks rs (at + 1)) (result_by g types s ks o at) f made
          (λ n. result-called ∙ bind-none (called g types s ks rs (at + 1)) _ n)

      pub result-made : (t u : Tables) (m : Truth) (c : CallSaid) (end : ℕ)
          → MakesAs (IsCallSaid m) t u (called g types s ks rs (at + 1)) (Ok (c, end))
          → MakesAs (IsRightSaid m) t u (result_by g types s ks o at) (Ok (record { row = right_row.Call c.row; paces = false }, end))
      result-made t u m c end made =
          let (call, told_so, extends, said) = makes-some (IsCallSaid m) t u (called g types s ks rs (at + 1)) c end made in
          makes-so (IsRightSaid m) t u (result_by g types s ks o at) _ (result_of call) end end
          (result-called ∙ bind-is (called g types s ks rs (at + 1)) _ (call, end) told_so) refl extends (call-right u m c call said)

-- A new array

module _ (m : Truth) {t u : Tables} (c : ℕ) {name size : ℕ} (e : Raised) (a : Adds name_at IsNameIn t u name (class_name c))
    (is : IsTree t size (named m e)) where
  pub array-new : MakesOne (IsRightSaid m) t u (array_of (walk.New c) e) (Ok (record { row = right_row.New name (Some size); paces = true }))
  array-new =
      let means = means-two {at = right_of} {exists = IsRightIn} (λ n k. right_row.New n (Some k)) (λ (n : Name) (x : Expr). tree.new n (Some x))
      (λ w x y. refl) (λ w x y p q. (p, q)) a.means (means-later is a.extends) in
      (a.extends, (means, refl))

  pub array-tmp : MakesOne (IsRightSaid m) t u (array_of (walk.NewTmp c) e) (Ok (record { row = right_row.NewTmp name (Some size); paces = false }))
  array-tmp =
      let means = means-two {at = right_of} {exists = IsRightIn} (λ n k. right_row.NewTmp n (Some k))
      (λ (n : Name) (x : Expr). tree.new_tmp n (Some x)) (λ w x y. refl) (λ w x y p q. (p, q)) a.means (means-later is a.extends) in
      (a.extends, (means, refl))

  pub array-iso : (manager : Manager)
      → MakesOne (IsRightSaid m) t u (array_of (walk.NewIso c manager) e)
      (Ok (record { row = right_row.NewIso name (Some size) manager; paces = false }))
  array-iso manager =
      let means = means-two {at = right_of} {exists = IsRightIn} (λ n k. right_row.NewIso n (Some k) manager)
      (λ (n : Name) (x : Expr). tree.new_iso n (Some x) manager) (λ w x y. refl) (λ w x y p q. (p, q)) a.means (means-later is a.extends) in
      (a.extends, (means, refl))

pub array-unnamed : (t u : Tables) (m : Truth) (x : Name) (o : Option Right) (e : Refusal) → AddsName t u x (Err e)
    → MakesOne (IsRightSaid m) t u o (Err e)
array-unnamed t u m x None refusal.Memory h = tt
array-unnamed t u m x (Some r) refusal.Memory h = tt
array-unnamed t u m x o refusal.NotRaised h = absurd h

-- A right side that begins with an expression alone

module _ (g : Given) (types : List Ty) (e : Raised) (at : ℕ) where
  pub right-uncleared : cleared g.ops (all_used types (e ∷ [])) at ≡ None → right_by g types e at None ≡ None
  right-uncleared h = bind-none (cleared g.ops (all_used types (e ∷ [])) at) _ h

  pub right-value : (t : Tables) (m : Truth) (row end : ℕ) → cleared g.ops (all_used types (e ∷ [])) at ≡ Some end → IsTree t row (named m e)
      → MakesAs (IsRightSaid m) t t (right_by g types e at None) (Ok (record { row = right_row.Expr row; paces = false }, end))
  right-value t m row end h is =
      makes-so (IsRightSaid m) t t (right_by g types e at None) _ (value e) end end
      (bind-is (cleared g.ops (all_used types (e ∷ [])) at) _ end h) refl (extends-same t)
      (means-one {at = right_of} {exists = IsRightIn} right_row.Expr tree.value (λ u v. refl) (λ u v i. i) is, refl)

  by-array : (w : Walk) → right_by g types e at (Some w) ≡ ◌>>=◌ (array_of w e) (λ r. Some (r, at + 1))
  by-array (walk.New c) = let one : suc at ≡ at + 1 = omega arith in ap (λ (n : ℕ). Some (new c (Some e), n)) one
  by-array (walk.NewTmp c) = let one : suc at ≡ at + 1 = omega arith in ap (λ (n : ℕ). Some (new_tmp c (Some e), n)) one
  by-array (walk.NewIso c m) = let one : suc at ≡ at + 1 = omega arith in ap (λ (n : ℕ). Some (new_iso c (Some e) m, n)) one
  by-array (walk.Enter k z) = refl

  module _ (w : Walk) (some : sign walk_of g.ops at ≡ Some w) where
    array-as : right_by g types e at (sign walk_of g.ops at) ≡ ◌>>=◌ (array_of w e) (λ r. Some (r, at + 1))
    array-as = ap (right_by g types e at) some ∙ by-array w

    pub array-refused : (t u : Tables) (m : Truth) (f : Refusal) → MakesOne (IsRightSaid m) t u (array_of w e) (Err f)
        → MakesAs (IsRightSaid m) t u (right_by g types e at (sign walk_of g.ops at)) (Err f)
    array-refused t u m f made =
        one-refused (IsRightSaid m) (IsRightSaid m) t u t u (array_of w e) (right_by g types e at (sign walk_of g.ops at)) f made
        (λ n. array-as ∙ bind-none (array_of w e) _ n)

    pub array-made : (t u : Tables) (m : Truth) (said : RightSaid) → MakesOne (IsRightSaid m) t u (array_of w e) (Ok said)
        → MakesAs (IsRightSaid m) t u (right_by g types e at (sign walk_of g.ops at)) (Ok (said, at + 1))
    array-made t u m said made =
        let (r, told, grown, is) = one-some (IsRightSaid m) t u (array_of w e) said made in
        makes-so (IsRightSaid m) t u (right_by g types e at (sign walk_of g.ops at)) said r (at + 1) (at + 1)
        (array-as ∙ bind-is (array_of w e) _ r told) refl grown is

-- more behind an expression
pub right-many : (g : Given) (types : List Ty) (e : Raised) (fs : List Front) (at : ℕ) → (fs ≡ [] → ⊥) →
    right_behind g types (expression e ∷ fs) at ≡ None
right-many g types e [] at some = absurd (some refl)
right-many g types e (f ∷ fs) at some = refl
