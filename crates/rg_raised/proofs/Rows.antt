-- A whole program, as rows: its bodies, then its classes, then main.
use Rattle.std.proofs.Common.{◌≡◌, ◌==◌, ℕ, suc, Bool as Truth, true, false, List, [], ◌∷◌, ◌++◌, length, Option, Some, None, option_map}
use Rattle.std.proofs.Common.{Ok, Err, refl, ap, sym, subst, ◌∙◌, arith}
use Rattle.std.proofs.lemmas.List.{length-map}
use Rattle.rg_base.specs.declared.limits.TheConstants.{BRACKETS}
use Rattle.rg_tree.specs.Tree.{Block, Class, Tree}
use Rattle.rg_tree.specs.Rows.Tables.{Tables}
use Rattle.rg_tree.specs.Rows.RowTrees.{block_of, classes_of, program_of, no_program}
use Rattle.rg_tree.specs.Rows.RowsExist.{IsBlockIn}
use Rattle.rg_tree.specs.Keeps.{Keeps}
use Rattle.rg_tree.specs.Adds.{Extends}
use Rattle.rg_tree.proofs.Callers.{Keeps-same}
use Rattle.rg_spell.specs.declared.rows.Head.{Head}
use Rattle.rg_spell.specs.declared.rows.Shape.{Shape}
use Rattle.rg_module.specs.Parts.{Parts}
use Rattle.rg_verify_expressions.specs.declared.refusal.Refusal.{Refusal}
use Rattle.rg_verify_expressions.specs.declared.refusal.Refusal.TheVariants as refusal
use Rattle.rg_verify_expressions.specs.declared.callee.Callee.{Callee}
use Rattle.rg_verify_expressions.specs.Blocks.{◌>>=◌, ◌>>◌, test, Given}
use Rattle.rg_verify_expressions.specs.Found.{block_named}
use Rattle.rg_raise.specs.Telling.{MakesOne}
use Rattle.rg_classes.specs.Written.{Bodied, classes_written}
use Rattle.rg_classes.specs.Order.{are_tables, callees_of, FindsCallees}
use Rattle.rg_classes.specs.Rows.{body_of, AreBodies, AreMethods, AddsClasses}
use Rattle.rg_bodies.specs.declared.rows.BodyRows.{BodyRows}
use Rattle.rg_bodies.specs.Bodies.{RaisedBody, Bodies, body_told, method_told, methods_told, bodies_told}
use Rattle.rg_bodies.specs.declared.ending.Ending.TheVariants as ending
use Rattle.rg_bodies.specs.Rows.{given_by, methods_named, AreBodiesSaid}
use Rattle.rg_raised.specs.Told.{module_told, tree_named, program_told, IsRaised}
use Rattle.rg_raised.proofs.Few.{tables-parts, few-methods, few-params}

bind-some : {A B : Type 0} (o : Option A) (go : A → Option B) (b : B) → ◌>>=◌ o go ≡ Some b → (a : A) × (o ≡ Some a) × (go a ≡ Some b)
bind-some (Some a) go b e = (a, refl, e)
bind-some None go b e = absurd cc

some-is : {A : Type 0} {x y : A} → Some x ≡ Some y → x ≡ y
some-is e = cc

-- as many bodies as methods are told
methods-length : (g : Given) (d : ℕ) (hs : List Head) (at : ℕ) (bs : List RaisedBody) → methods_told g d hs at ≡ Some bs → length bs ≡ length hs
methods-length g d [] at bs e = none (at == length g.ops) bs e
  where
    none : (t : Truth) (bs : List RaisedBody) → ◌>>◌ (test t) (Some []) ≡ Some bs → length bs ≡ 0
    none true [] e = refl
    none true (b ∷ bs) e = absurd cc
    none false bs e = absurd cc
methods-length g d (h ∷ hs) at bs e =
    let (x, told, rest) = bind-some (method_told g d h at) _ bs e in
    let (ys, others, last) = bind-some (methods_told g d hs x.1) _ bs rest in
    sym (ap length (some-is last)) ∙ ap (λ (n : ℕ). suc n) (methods-length g d hs x.1 ys others)

named-length : (hs : List Head) (bs : List RaisedBody) → length bs ≡ length hs → length (methods_named hs bs) ≡ length hs
named-length [] bs e = refl
named-length (h ∷ hs) [] e = absurd (omega (arith, e))
named-length (h ∷ hs) (b ∷ bs) e = ap (λ (n : ℕ). suc n) (named-length hs bs (omega (arith, e)))

ends-told : (g : Given) (d : ℕ) (hs : List Head) (x : Bodies) (o : Option (RaisedBody × ℕ))
    → ◌>>=◌ o (λ (main : RaisedBody × ℕ). ◌>>=◌ (methods_told g d hs main.1)
    (λ (ms : List RaisedBody). Some (record { main = main.0; methods = ms })))
    ≡ Some x → length x.methods ≡ length hs
ends-told g d hs x None e = absurd cc
ends-told g d hs x (Some main) e =
    let (ms, methods, last) = bind-some (methods_told g d hs main.1) (λ (ms : List RaisedBody). Some (record { main = main.0; methods = ms })) x e in
    sym (ap (λ (y : Bodies). length y.methods) (some-is last)) ∙ methods-length g d hs main.1 ms methods

told-length : (g : Given) (d : ℕ) (hs : List Head) (x : Bodies) → bodies_told g d hs ≡ Some x → length x.methods ≡ length hs
told-length g d hs x e = ends-told g d hs x (body_told g d [] ending.Main 0) e

-- what was made of bodies that are told
makes-some : {V A : Type 0} (Is : Tables → V → A → Type 0) (t u : Tables) (o : Option A) (v : V) → MakesOne Is t u o (Ok v)
    → (a : A) × (o ≡ Some a) × Extends t u × Is u v a
makes-some Is t u None v e = absurd e
makes-some Is t u (Some a) v e = (a, refl, e.0, e.1)

module _ (m : Parts) (cs : List Callee) (tables : are_tables m.classes m.methods ≡ true) (numbered : cs ≡ callees_of m.methods) where
  told-is : module_told m ≡ bodies_told (given_by m cs) BRACKETS m.methods
  told-is =
      ap (λ (t : Truth). ◌>>◌ (test t) (bodies_told (given_by m (callees_of m.methods)) BRACKETS m.methods)) tables
      ∙ ap (λ (ks : List Callee). bodies_told (given_by m ks) BRACKETS m.methods) (sym numbered)

  -- no bodies are told
  pub none-told : (t u : Tables) (e : Refusal) → MakesOne (AreBodiesSaid m.methods) t u (bodies_told (given_by m cs) BRACKETS m.methods) (Err e)
      → IsRaised (program_told m) (Err e)
  none-told t u refusal.NotRaised e = ap (option_map (tree_named m)) (told-is ∙ e)
  none-told t u refusal.Memory e = memory (program_told m)
    where
      memory : (o : Option Tree) → IsRaised o (Err refusal.Memory)
      memory None = tt
      memory (Some t) = tt

  module _ (t u : Tables) (rows : BodyRows)
      (made : MakesOne (AreBodiesSaid m.methods) t u (bodies_told (given_by m cs) BRACKETS m.methods) (Ok rows)) where
    pub methods-fit : AreMethods u m.methods rows.methods.items
    methods-fit =
        let (x, told, grown, said) = makes-some (AreBodiesSaid m.methods) t u (bodies_told (given_by m cs) BRACKETS m.methods) rows made in
        let (main, methods) = said in
        let (most, thin, ordered) = tables-parts m.classes m.methods tables in
        let long = named-length m.methods x.methods (told-length (given_by m cs) BRACKETS m.methods x told) in
        record {
          few = few-methods m.classes m.methods most ordered;
          params = few-params m.classes 0 0 m.methods most ordered;
          bodies = methods.there u (Keeps-same u);
          same = sym (length-map rows.methods.items (body_of u)) ∙ ap length (methods.is u (Keeps-same u)) ∙ long;
        }

    -- main's block is there, behind the classes
    pub main-there : (v : Tables) → Keeps u v → IsBlockIn v rows.main.block
    main-there v k =
        let (x, told, grown, said) = makes-some (AreBodiesSaid m.methods) t u (bodies_told (given_by m cs) BRACKETS m.methods) rows made in
        let (main, methods) = said in
        main.there v k

    -- the bodies that the classes take
    pub bodies-are : (x : Bodies) × (bodies_told (given_by m cs) BRACKETS m.methods ≡ Some x)
        × AreBodies u rows.methods.items (methods_named m.methods x.methods)
    bodies-are =
        let (x, told, grown, said) = makes-some (AreBodiesSaid m.methods) t u (bodies_told (given_by m cs) BRACKETS m.methods) rows made in
        let (main, methods) = said in
        (x, told, methods)

    -- the whole program
    pub whole-told : program_of t ≡ no_program → (v w : Tables)
        → ((bs : List Bodied) → AreBodies u rows.methods.items bs → AddsClasses u v (classes_written 0 m.classes m.methods bs))
        → program_of w ≡ record (program_of v) { manager = m.manager; body = block_of v rows.main.block; line = rows.main.line }
        → IsRaised (program_told m) (Ok w)
    whole-told first v w adds set =
        let (x, told, grown, said) = makes-some (AreBodiesSaid m.methods) t u (bodies_told (given_by m cs) BRACKETS m.methods) rows made in
        let (main, methods) = said in
        let a = adds (methods_named m.methods x.methods) methods in
        let cs = classes_written 0 m.classes m.methods (methods_named m.methods x.methods) in
        let none : classes_of u ≡ [] = ap (λ (p : Tree). p.classes) (grown.program ∙ first) in
        let classes : (program_of v).classes ≡ cs = ap (λ (p : Tree). p.classes) a.program ∙ ap (λ (ks : List Class). ks ++ cs) none in
        let said = main.is v a.keeps in
        let block = ap (λ (b : Bodied). b.block) said in
        let line = ap (λ (b : Bodied). b.line) said in
        let is : program_of w ≡ tree_named m x =
        set ∙ ap (λ (ks : List Class). record { classes = ks; manager = m.manager; body = block_of v rows.main.block; line = rows.main.line }) classes
        ∙ ap (λ (b : Block). record { classes = cs; manager = m.manager; body = b; line = rows.main.line }) block
        ∙ ap (λ (n : ℕ). record { classes = cs; manager = m.manager; body = block_named false 0 x.main.block; line = n }) line in
        subst (λ (o : Option Bodies). IsRaised (option_map (tree_named m) o) (Ok w)) (sym (told-is ∙ told)) is

-- the tables are of no program
pub no-tables : (m : Parts) → are_tables m.classes m.methods ≡ false → program_told m ≡ None
no-tables m e =
    ap (λ (t : Truth). option_map (tree_named m) (◌>>◌ (test t) (bodies_told (given_by m (callees_of m.methods)) BRACKETS m.methods))) e

-- so none is told
pub no-callees : (m : Parts) (shapes : List Shape) (heads : List Head) (e : Refusal) → shapes ≡ m.classes → heads ≡ m.methods
    → FindsCallees shapes heads (Err e) → IsRaised (program_told m) (Err e)
no-callees m shapes heads refusal.NotRaised s h f =
    no-tables m (sym (ap (λ (ss : List Shape). are_tables ss heads) s ∙ ap (are_tables m.classes) h) ∙ f)
no-callees m shapes heads refusal.Memory s h f = memory (program_told m)
  where
    memory : (o : Option Tree) → IsRaised o (Err refusal.Memory)
    memory None = tt
    memory (Some t) = tt
