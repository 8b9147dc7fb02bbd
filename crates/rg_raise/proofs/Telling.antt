-- What is told at an address, put together from what calls made of its parts.
use Rattle.std.proofs.Common.{◌≡◌, ℕ, suc, ◌+◌, Bool as Truth, List, map, slice_get, Option, Some, None, Result, Ok, Err}
use Rattle.std.proofs.Common.{refl, sym, ap, ◌∙◌, subst, arith}
use Rattle.rg_base.specs.declared.ty.Ty.{Ty}
use Rattle.rg_tree.specs.declared.rows.Path as rows
use Rattle.rg_tree.specs.declared.rows.CallRow.{CallRow}
use Rattle.rg_tree.specs.Rows.Tables.{Tables}
use Rattle.rg_tree.specs.Rows.RowTrees.{call_of}
use Rattle.rg_tree.specs.Rows.RowsExist.{IsCallIn}
use Rattle.rg_tree.specs.Adds.{Extends, Adds}
use Rattle.rg_tree.proofs.Adding.{extends-trans}
use Rattle.rg_verify_expressions.specs.declared.refusal.Refusal.{Refusal}
use Rattle.rg_verify_expressions.specs.declared.refusal.Refusal.TheVariants as refusal
use Rattle.rg_verify_expressions.specs.declared.callee.Callee.{Callee}
use Rattle.rg_verify_expressions.specs.Raised.{Raised, named}
use Rattle.rg_verify_expressions.specs.Statements.{Call, all_used}
use Rattle.rg_verify_expressions.specs.Found.{call_named}
use Rattle.rg_verify_expressions.specs.Signs as signs
use Rattle.rg_verify_expressions.specs.Blocks.{◌>>=◌, ◌>>◌, Given, Told, sign, cleared, called}
use Rattle.rg_raise.specs.Fronts.{AreTrees}
use Rattle.rg_raise.specs.Telling.{IsPathTo, MakesAs, MakesOne, IsCallSaid}

-- What a block tells, by its parts

pub bind-is : {A B : Type 0} (o : Option A) (go : A → Option B) (a : A) → o ≡ Some a → ◌>>=◌ o go ≡ go a
bind-is o go a e = ap (λ (x : Option _). ◌>>=◌ x go) e

pub bind-none : {A B : Type 0} (o : Option A) (go : A → Option B) → o ≡ None → ◌>>=◌ o go ≡ None
bind-none o go e = ap (λ (x : Option _). ◌>>=◌ x go) e

-- What calls made

module _ {V A : Type 0} (Is : Tables → V → A → Type 0) (t u : Tables) where
  pub makes-none : (o : Told A) → o ≡ None → MakesAs Is t u o (Err refusal.NotRaised)
  makes-none None e = refl
  makes-none (Some x) e = absurd cc

  pub makes-no-memory : (o : Told A) → MakesAs Is t u o (Err refusal.Memory)
  makes-no-memory None = tt
  makes-no-memory (Some x) = tt

  pub makes-some : (o : Told A) (v : V) (end : ℕ) → MakesAs Is t u o (Ok (v, end))
      → (a : A) × (o ≡ Some (a, end)) × Extends t u × Is u v a
  makes-some (Some x) v end (same, g, is) =
      (x.0, ap (λ (n : ℕ). Some (x.0, n)) (sym same), g, is)
  makes-some None v end h = absurd h

  pub makes-so : (o : Told A) (v : V) (a : A) (end fin : ℕ) → o ≡ Some (a, fin) → end ≡ fin → Extends t u → Is u v a
      → MakesAs Is t u o (Ok (v, end))
  makes-so (Some x) v a end fin e same g is =
      subst (λ (o : Told A). MakesAs Is t u o (Ok (v, end))) (sym e) (same, g, is)
  makes-so None v a end fin e same g is = absurd cc

-- a part that is refused refuses all
pub refused : {V A W B : Type 0} (Is : Tables → V → A → Type 0) (Js : Tables → W → B → Type 0) (t u v w : Tables) (o : Told A) (p : Told B)
    (e : Refusal) → MakesAs Is t u o (Err e) → (o ≡ None → p ≡ None) → MakesAs Js v w p (Err e)
refused Is Js t u v w o p refusal.Memory h f = makes-no-memory Js v w p
refused Is Js t u v w None p refusal.NotRaised h f = makes-none Js v w p (f refl)
refused Is Js t u v w (Some x) p refusal.NotRaised h f = absurd cc

-- what was made behind tables that had grown
pub makes-behind : {V A : Type 0} (Is : Tables → V → A → Type 0) (t u v : Tables) (o : Told A) (r : Result (V × ℕ) Refusal) → Extends t u
    → MakesAs Is u v o r → MakesAs Is t v o r
makes-behind Is t u v (Some x) (Ok y) g (same, h, is) = (same, extends-trans g h, is)
makes-behind Is t u v None (Ok y) g h = absurd h
makes-behind Is t u v (Some x) (Err refusal.NotRaised) g h = absurd cc
makes-behind Is t u v None (Err refusal.NotRaised) g h = refl
makes-behind Is t u v (Some x) (Err refusal.Memory) g h = tt
makes-behind Is t u v None (Err refusal.Memory) g h = tt

-- One row

module _ {V A : Type 0} (Is : Tables → V → A → Type 0) (t u : Tables) where
  pub one-some : (o : Option A) (v : V) → MakesOne Is t u o (Ok v) → (a : A) × (o ≡ Some a) × Extends t u × Is u v a
  one-some (Some a) v (g, is) = (a, refl, g, is)
  one-some None v h = absurd h

  pub one-so : (o : Option A) (v : V) (a : A) → o ≡ Some a → Extends t u → Is u v a → MakesOne Is t u o (Ok v)
  one-so o v a e g is = subst (λ (x : Option A). MakesOne Is t u x (Ok v)) (sym e) (g, is)

pub one-refused : {V A W B : Type 0} (Is : Tables → V → A → Type 0) (Js : Tables → W → B → Type 0) (t u v w : Tables) (o : Option A) (p : Told B)
    (e : Refusal) → MakesOne Is t u o (Err e) → (o ≡ None → p ≡ None) → MakesAs Js v w p (Err e)
one-refused Is Js t u v w o p refusal.Memory h f = makes-no-memory Js v w p
one-refused Is Js t u v w None p refusal.NotRaised h f = makes-none Js v w p (f refl)
one-refused Is Js t u v w (Some x) p refusal.NotRaised h f = absurd cc

-- Calls

module _ (g : Given) (types : List Ty) (s : ℕ) (ks : List ℕ) (args : List Raised) (at : ℕ) where
  pub called-uncleared : cleared g.ops (all_used types args) at ≡ None → called g types s ks args at ≡ None
  called-uncleared h = bind-none (cleared g.ops (all_used types args) at) _ h

  module _ (behind : ℕ) (clear : cleared g.ops (all_used types args) at ≡ Some behind) where
    pub called-nothing : sign signs.call_of g.ops behind ≡ None → called g types s ks args at ≡ None
    called-nothing h =
        bind-is (cleared g.ops (all_used types args) at) _ behind clear ∙ bind-none (sign signs.call_of g.ops behind) _ h

    module _ (k : ℕ) (call : sign signs.call_of g.ops behind ≡ Some k) where
      pub called-nobody : slice_get g.methods k ≡ None → called g types s ks args at ≡ None
      called-nobody h =
          bind-is (cleared g.ops (all_used types args) at) _ behind clear ∙ bind-is (sign signs.call_of g.ops behind) _ k call
          ∙ bind-none (slice_get g.methods k) _ h

      called-so : (f : Callee) → slice_get g.methods k ≡ Some f
          → called g types s ks args at ≡ Some (record { slot = s; fields = ks; callee = record f { number = k }; args = args }, suc behind)
      called-so f h =
          bind-is (cleared g.ops (all_used types args) at) _ behind clear ∙ bind-is (sign signs.call_of g.ops behind) _ k call
          ∙ bind-is (slice_get g.methods k) _ f h

      -- the call, as a row
      pub called-made : (t u : Tables) (m : Truth) (f : Callee) (p : rows.Path) (ns : List ℕ) (row : CallRow) → slice_get g.methods k ≡ Some f
          → IsPathTo t m p s ks → AreTrees t ns (map (named m) args)
          → ((c : Call) → c.callee.place ≡ f.place → IsPathTo t m p c.slot c.fields → AreTrees t ns (map (named m) c.args)
          → Adds call_of IsCallIn t u row (call_named m c))
          → MakesAs (IsCallSaid m) t u (called g types s ks args at) (Ok (record { row = row; result = f.result }, behind + 1))
      called-made t u m f p ns row h is trees adds =
          let c : Call = record { slot = s; fields = ks; callee = record f { number = k }; args = args } in
          let a = adds c refl is trees in
          let one : behind + 1 ≡ suc behind = omega arith in
          makes-so (IsCallSaid m) t u (called g types s ks args at) (record { row = row; result = f.result }) c (behind + 1) (suc behind)
          (called-so f h)
          one a.extends (a.means, refl)
