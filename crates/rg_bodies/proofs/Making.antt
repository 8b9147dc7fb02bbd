-- Bodies as rows, put together from what calls made of their parts.
use Rattle.std.proofs.Common.{◌≡◌, ℕ, Bool as Truth, false, List, [], ◌∷◌, ◌++◌, Option, Some, None}
use Rattle.std.proofs.Common.{Ok, Err, Vec, Global, refl, sym, ap, ◌∙◌}
use Rattle.std.proofs.lemmas.List.{map-append}
use Rattle.std.proofs.lemmas.List.Elements.{All-nil, All-push}
use Rattle.rg_base.specs.declared.ty.Ty.{Ty}
use Rattle.rg_tree.specs.declared.rows.Span.{Span}
use Rattle.rg_tree.specs.Tree as tree
use Rattle.rg_tree.specs.Rows.Tables.{Tables}
use Rattle.rg_tree.specs.Adds.{Extends}
use Rattle.rg_tree.proofs.Adding.{extends-trans, means-later}
use Rattle.rg_spell.specs.declared.rows.Head.{Head}
use Rattle.rg_verify_expressions.specs.declared.refusal.Refusal.{Refusal}
use Rattle.rg_verify_expressions.specs.declared.refusal.Refusal.TheVariants as refusal
use Rattle.rg_verify_expressions.specs.Statements.{Block}
use Rattle.rg_verify_expressions.specs.Blocks.{Given, block_told}
use Rattle.rg_verify_expressions.specs.Standing.{returns}
use Rattle.rg_raise.specs.Telling.{MakesAs, MakesOne}
use Rattle.rg_raise.proofs.Telling.{bind-is, bind-none, makes-none, makes-some, makes-so, refused, one-some, one-so}
use Rattle.rg_blocks.specs.Blocks.{IsBlockSaid}
use Rattle.rg_classes.specs.declared.body_row.BodyRow.{BodyRow}
use Rattle.rg_classes.specs.Written.{Bodied}
use Rattle.rg_classes.specs.Rows.{body_of, IsBodyIn, AreBodies}
use Rattle.rg_bodies.specs.declared.ending.Ending.{Ending}
use Rattle.rg_bodies.specs.declared.ending.Ending.TheVariants as ending
use Rattle.rg_bodies.specs.Bodies.{RaisedBody, Bodies, end_told, body_told, methods_told, bodies_told}
use Rattle.rg_bodies.specs.Rows.{body_named, IsBodySaid, AreMethodsSaid, AreBodiesSaid}
use Rattle.rg_bodies.specs.Inner.Ends.{is_returned}
use Rattle.rg_bodies.proofs.Returned.{told-returned}

-- One body

module _ (g : Given) (d : ℕ) (types : List Ty) (e : Ending) (at : ℕ) (m : Truth) (n : ℕ) (t u : Tables) where
  pub block-refused : (r : Refusal) → MakesAs (IsBlockSaid m n) t u (block_told g d types at) (Err r)
      → MakesAs (IsBodySaid m n) t u (body_told g d types e at) (Err r)
  block-refused r made =
      refused (IsBlockSaid m n) (IsBodySaid m n) t u t u (block_told g d types at) (body_told g d types e at) r made
      (λ none. bind-none (block_told g d types at) _ none)

  module _ (s : Span) (behind : ℕ) (read : Option (ℕ × ℕ)) (raised : MakesAs (IsBlockSaid m n) t u (block_told g d types at) (Ok (s, behind)))
      (reads : (b : Block) → returns b ≡ is_returned g.ops at behind → read ≡ end_told g.ops e b behind) where
    pub end-refused : read ≡ None → MakesAs (IsBodySaid m n) t u (body_told g d types e at) (Err refusal.NotRaised)
    end-refused none =
        let (b, told, grown, said) = makes-some (IsBlockSaid m n) t u (block_told g d types at) s behind raised in
        let no : end_told g.ops e b behind ≡ None = sym (reads b (told-returned g d types at b behind told)) ∙ none in
        makes-none (IsBodySaid m n) t u (body_told g d types e at)
        (bind-is (block_told g d types at) _ (b, behind) told ∙ bind-none (end_told g.ops e b behind) _ no)

    pub body-made : (line end : ℕ) → read ≡ Some (line, end)
        → MakesAs (IsBodySaid m n) t u (body_told g d types e at) (Ok (record { block = s; line = line }, end))
    body-made line end some =
        let (b, told, grown, said) = makes-some (IsBlockSaid m n) t u (block_told g d types at) s behind raised in
        let yes : end_told g.ops e b behind ≡ Some (line, end) = sym (reads b (told-returned g d types at b behind told)) ∙ some in
        let made : RaisedBody = record { block = b; line = line } in
        let is : IsBodySaid m n u (record { block = s; line = line }) made = record {
          is = λ w k. ap (λ (c : tree.Block). record { block = c; line = line }) (said.is w k);
          there = λ w k. said.there w k;
        } in
        makes-so (IsBodySaid m n) t u (body_told g d types e at) (record { block = s; line = line }) made end end
        (bind-is (block_told g d types at) _ (b, behind) told ∙ bind-is (end_told g.ops e b behind) _ (line, end) yes) refl grown is

-- No memory

pub one-no-memory : {V A : Type 0} (Is : Tables → V → A → Type 0) (t u : Tables) (o : Option A) → MakesOne Is t u o (Err refusal.Memory)
one-no-memory Is t u None = tt
one-no-memory Is t u (Some a) = tt

pub one-none : {V A : Type 0} (Is : Tables → V → A → Type 0) (t u : Tables) (o : Option A) → o ≡ None → MakesOne Is t u o (Err refusal.NotRaised)
one-none Is t u None e = refl
one-none Is t u (Some a) e = absurd cc

-- a part that is refused refuses all
pub many-refused : {V A W B : Type 0} (Is : Tables → V → A → Type 0) (Js : Tables → W → B → Type 0) (t u v w : Tables) (o : Option (A × ℕ))
    (p : Option B) (r : Refusal) → MakesAs Is t u o (Err r) → (o ≡ None → p ≡ None) → MakesOne Js v w p (Err r)
many-refused Is Js t u v w o p refusal.Memory h f = one-no-memory Js v w p
many-refused Is Js t u v w None p refusal.NotRaised h f = one-none Js v w p (f refl)
many-refused Is Js t u v w (Some x) p refusal.NotRaised h f = absurd cc

pub rest-refused : {V A W B : Type 0} (Is : Tables → V → A → Type 0) (Js : Tables → W → B → Type 0) (t u v w : Tables) (o : Option A)
    (p : Option B) (r : Refusal) → MakesOne Is t u o (Err r) → (o ≡ None → p ≡ None) → MakesOne Js v w p (Err r)
rest-refused Is Js t u v w o p refusal.Memory h f = one-no-memory Js v w p
rest-refused Is Js t u v w None p refusal.NotRaised h f = one-none Js v w p (f refl)
rest-refused Is Js t u v w (Some x) p refusal.NotRaised h f = absurd cc

-- Rows in order

pub bodies-none : (t : Tables) → AreBodies t [] []
bodies-none t = record { is = λ u k. refl; there = λ u k. All-nil (IsBodyIn u) }

pub bodies-push : {t u : Tables} {rows : List BodyRow} {bs : List Bodied} (m : Truth) (n : ℕ) (r : BodyRow) (b : RaisedBody) → AreBodies t rows bs
    → Extends t u → IsBodySaid m n u r b → AreBodies u (rows ++ r ∷ []) (bs ++ body_named m n b ∷ [])
bodies-push {t} {u} {rows} {bs} m n r b all grown one =
    let later : AreBodies u rows bs = means-later all grown in
    record {
      is = λ w k. let e = later.is w k in let f = one.is w k in map-append (body_of w) rows (r ∷ []) ∙ cc;
      there = λ w k. All-push (IsBodyIn w) rows r (later.there w k) (one.there w k);
    }

-- All bodies

module _ (g : Given) (d : ℕ) (hs : List Head) (t u : Tables) where
  pub main-refused : (r : Refusal) → MakesAs (IsBodySaid false 0) t u (body_told g d [] ending.Main 0) (Err r)
      → MakesOne (AreBodiesSaid hs) t u (bodies_told g d hs) (Err r)
  main-refused r made =
      many-refused (IsBodySaid false 0) (AreBodiesSaid hs) t u t u (body_told g d [] ending.Main 0) (bodies_told g d hs) r made
      (λ none. bind-none (body_told g d [] ending.Main 0) _ none)

  module _ (main : BodyRow) (behind : ℕ) (raised : MakesAs (IsBodySaid false 0) t u (body_told g d [] ending.Main 0) (Ok (main, behind)))
      (v : Tables) where
    abbrev Is : Tables → Vec BodyRow Global → List RaisedBody → Type 0
    Is w rows = AreMethodsSaid hs w rows.items

    pub methods-refused : (r : Refusal) → MakesOne Is u v (methods_told g d hs behind) (Err r)
        → MakesOne (AreBodiesSaid hs) t v (bodies_told g d hs) (Err r)
    methods-refused r made =
        let (b, told, grown, said) = makes-some (IsBodySaid false 0) t u (body_told g d [] ending.Main 0) main behind raised in
        rest-refused Is (AreBodiesSaid hs) u v t v (methods_told g d hs behind) (bodies_told g d hs) r made
        (λ none. bind-is (body_told g d [] ending.Main 0) _ (b, behind) told ∙ bind-none (methods_told g d hs behind) _ none)

    pub bodies-made : (methods : Vec BodyRow Global) → MakesOne Is u v (methods_told g d hs behind) (Ok methods)
        → MakesOne (AreBodiesSaid hs) t v (bodies_told g d hs) (Ok (record { main = main; methods = methods }))
    bodies-made methods made =
        let (b, told, grown, said) = makes-some (IsBodySaid false 0) t u (body_told g d [] ending.Main 0) main behind raised in
        let (bs, all, more, are) = one-some Is u v (methods_told g d hs behind) methods made in
        let whole : Bodies = record { main = b; methods = bs } in
        one-so (AreBodiesSaid hs) t v (bodies_told g d hs) (record { main = main; methods = methods }) whole
        (bind-is (body_told g d [] ending.Main 0) _ (b, behind) told ∙ bind-is (methods_told g d hs behind) _ bs all)
        (extends-trans grown more) (means-later said more, are)
