-- The statements of a block that were told so far, as rows.
use Rattle.std.proofs.Common.{◌≡◌, ℕ, suc, ◌+◌, ◌≤◌, Bool as Truth, true, false, List, [], ◌∷◌, ◌++◌, length, Some, None}
use Rattle.std.proofs.Common.{refl, sym, ap, ◌∙◌, arith}
use Rattle.std.proofs.lemmas.List.{append-nil, length-append, map-append}
use Rattle.std.proofs.lemmas.List.Elements.{All-nil, All-push}
use Rattle.rg_base.specs.declared.ty.Ty.{Ty}
use Rattle.rg_tree.specs.Tree as tree
use Rattle.rg_tree.specs.Tree.{Stmt}
use Rattle.rg_tree.specs.Rows.Tables.{Tables}
use Rattle.rg_tree.specs.Rows.RowTrees.{stmt_at}
use Rattle.rg_raise.specs.declared.said.After.TheVariants as after
use Rattle.rg_verify_expressions.specs.Statements.{Kind, declare, assign, write, write_element, call, swap, branch, while, enter, enter_field, print, collect}
use Rattle.rg_verify_expressions.specs.Statements.{return, Block}
use Rattle.rg_verify_expressions.specs.Statements.{empty, next, types_behind}
use Rattle.rg_verify_expressions.specs.Found.{slots_behind, kind_named, block_named}
use Rattle.rg_tree.specs.Adds.{Extends}
use Rattle.rg_verify_expressions.specs.Blocks.{◌>>=◌, Given, Told, Inner, is_last, followed, starts, kind_told, block_by, statements}
use Rattle.rg_tree.specs.Adds.{Adds}
use Rattle.rg_raise.specs.Telling.{after_of}
use Rattle.rg_blocks.specs.Blocks.{AreStmts, block_with}
use Rattle.rg_tree.specs.Rows.RowsExist.{IsStmtNumber}
use Rattle.rg_tree.proofs.Adding.{extends-same, means-later}
use Rattle.rg_raise.proofs.Telling.{bind-is, bind-none}

-- statements in front of a block
abbrev pub ahead : List Stmt → tree.Block → tree.Block
ahead [] b = b
ahead (s ∷ ss) b = tree.then s (ahead ss b)

ahead-with : (ss : List Stmt) → ahead ss tree.empty ≡ block_with ss
ahead-with [] = refl
ahead-with (s ∷ ss) = ap (tree.then s) (ahead-with ss)

ahead-push : (ss : List Stmt) (s : Stmt) (b : tree.Block) → ahead ss (tree.then s b) ≡ ahead (ss ++ s ∷ []) b
ahead-push [] s b = refl
ahead-push (x ∷ ss) s b = ap (tree.then x) (ahead-push ss s b)

-- What was told so far stands in front of what is left.
pub record Going (m : Truth) (slots : ℕ) (t : Tables) (numbers : List ℕ) (types : List Ty) (wanted rest : Told Block) : Type 0 where
  pub front : Block → Block
  pub stmts : List Stmt
  pub named : (b : Block) → block_named m slots (front b) ≡ ahead stmts (block_named m (length types) b)
  pub are : AreStmts t numbers stmts
  pub told : wanted ≡ ◌>>=◌ rest (λ x. Some (front x.0, x.1))

same-block : (o : Told Block) → o ≡ ◌>>=◌ o (λ x. Some (x.0, x.1))
same-block None = refl
same-block (Some x) = refl

pub going-begins : (m : Truth) (t : Tables) (types : List Ty) (o : Told Block) → Going m (length types) t [] types o o
going-begins m t types o = record {
  front = λ b. b;
  stmts = [];
  named = λ b. refl;
  are = record { is = λ u k. refl; there = λ u k. All-nil (IsStmtNumber u) };
  told = same-block o;
}

-- the number of variables behind a statement
pub slots-along : (types : List Ty) (k : Kind) → length (types_behind types k) ≡ slots_behind (length types) k
slots-along types (declare t r) = length-append types (t ∷ [])
slots-along types (assign s r) = refl
slots-along types (write s ks k r) = refl
slots-along types (write_element s ks e r) = refl
slots-along types (call c) = refl
slots-along types (swap y s ks k) = refl
slots-along types (branch e b other) = refl
slots-along types (while e b) = refl
slots-along types (enter s c b w) = refl
slots-along types (enter_field s ks k c b w) = refl
slots-along types (print e) = refl
slots-along types collect = refl
slots-along types (return e) = refl

push-stmts : {t u : Tables} {ns : List ℕ} {n : ℕ} {ss : List Stmt} {s : Stmt} → AreStmts t ns ss → Adds stmt_at IsStmtNumber t u n s
    → AreStmts u (ns ++ n ∷ []) (ss ++ s ∷ [])
push-stmts {ns = ns} {n = n} m b =
    let later = means-later m b.extends in
    record {
      is = λ w k. let e = later.is w k in let f = b.means.is w k in map-append (stmt_at w) ns (n ∷ []) ∙ cc;
      there = λ w k. All-push (IsStmtNumber w) ns n (later.there w k) (b.means.there w k);
    }

-- what goes on behind one more statement
bind-front : (o : Told Block) (line : ℕ) (k : Kind) (front : Block → Block)
    → ◌>>=◌ {A = Block × ℕ} {B = Block × ℕ} (◌>>=◌ {B = Block × ℕ} o (λ b. Some (next line k b.0, b.1))) (λ x. Some (front x.0, x.1))
    ≡ ◌>>=◌ {B = Block × ℕ} o (λ x. Some (front (next line k x.0), x.1))
bind-front None line k front = refl
bind-front (Some x) line k front = refl

module _ (m : Truth) (slots : ℕ) (t : Tables) (numbers : List ℕ) (types : List Ty) (wanted rest : Told Block)
    (g : Going m slots t numbers types wanted rest) where
  pub going-later : (u : Tables) → Extends t u → Going m slots u numbers types wanted rest
  going-later u grown = record { front = g.front; stmts = g.stmts; named = g.named; are = means-later g.are grown; told = g.told }

  pub going-on : (u : Tables) (line n : ℕ) (k : Kind) (o : Told Block) → rest ≡ ◌>>=◌ o (λ b. Some (next line k b.0, b.1))
      → Adds stmt_at IsStmtNumber t u n (tree.stmt line (kind_named m (length types) k))
      → Going m slots u (numbers ++ n ∷ []) (types_behind types k) wanted o
  going-on u line n k o e a =
      let s : Stmt = tree.stmt line (kind_named m (length types) k) in
      record {
        front = λ b. g.front (next line k b);
        stmts = g.stmts ++ s ∷ [];
        named = λ b.
            g.named (next line k b) ∙ ahead-push g.stmts s (block_named m (slots_behind (length types) k) b)
            ∙ ap (λ (j : ℕ). ahead (g.stmts ++ s ∷ []) (block_named m j b)) (sym (slots-along types k));
        are = push-stmts g.are a;
        told = g.told ∙ ap (λ (x : Told Block). ◌>>=◌ x (λ y. Some (g.front y.0, y.1))) e ∙ bind-front o line k g.front;
      }

  -- the block ends
  pub going-ends : (at : ℕ) → rest ≡ Some (empty, at) → (b : Block) × (wanted ≡ Some (b, at)) × (block_named m slots b ≡ block_with g.stmts)
  going-ends at e =
      (g.front empty, g.told ∙ bind-is rest _ (empty, at) e, g.named empty ∙ ahead-with g.stmts)

-- One turn of the loop

module _ (g : Given) (inner : Inner) (n : ℕ) (types : List Ty) (at : ℕ) where
  pub loop-ends : starts g.ops at ≡ None → statements g inner (suc n) types at ≡ Some (empty, at)
  loop-ends h = ap (block_by g inner (statements g inner n) types at) h

  module _ (line : ℕ) (begins : starts g.ops at ≡ Some line) where
    pub loop-refused : kind_told g inner types line at ≡ None → statements g inner (suc n) types at ≡ None
    loop-refused h = ap (block_by g inner (statements g inner n) types at) begins ∙ bind-none (kind_told g inner types line at) _ h

    module _ (k : Kind) (end : ℕ) (told : kind_told g inner types line at ≡ Some (k, end)) where
      pub loop-last : is_last k ≡ true → statements g inner (suc n) types at ≡ Some (next line k empty, end)
      loop-last last =
          ap (block_by g inner (statements g inner n) types at) begins ∙ bind-is (kind_told g inner types line at) _ (k, end) told
          ∙ ap (followed (statements g inner n) types line k end) last

      pub loop-more : is_last k ≡ false
          → statements g inner (suc n) types at ≡ ◌>>=◌ (statements g inner n (types_behind types k) end) (λ b. Some (next line k b.0, b.1))
      loop-more more =
          ap (block_by g inner (statements g inner n) types at) begins ∙ bind-is (kind_told g inner types line at) _ (k, end) told
          ∙ ap (followed (statements g inner n) types line k end) more

-- what a statement changes for those behind it

pub behind-last : (k : Kind) → after_of k ≡ after.Last → is_last k ≡ true
behind-last (declare t r) e = absurd cc
behind-last (assign s r) e = absurd cc
behind-last (write s ks k r) e = absurd cc
behind-last (write_element s ks e r) f = absurd cc
behind-last (call c) e = absurd cc
behind-last (swap y s ks k) e = absurd cc
behind-last (branch e b other) f = absurd cc
behind-last (while e b) f = absurd cc
behind-last (enter s c b w) e = absurd cc
behind-last (enter_field s ks k c b w) e = absurd cc
behind-last (print e) f = absurd cc
behind-last collect e = absurd cc
behind-last (return e) f = refl

pub behind-same : (types : List Ty) (k : Kind) → after_of k ≡ after.Same → (is_last k ≡ false) × (types_behind types k ≡ types)
behind-same types (declare t r) e = absurd cc
behind-same types (assign s r) e = (refl, refl)
behind-same types (write s ks k r) e = (refl, refl)
behind-same types (write_element s ks e r) f = (refl, refl)
behind-same types (call c) e = (refl, refl)
behind-same types (swap y s ks k) e = (refl, refl)
behind-same types (branch e b other) f = (refl, refl)
behind-same types (while e b) f = (refl, refl)
behind-same types (enter s c b w) e = (refl, refl)
behind-same types (enter_field s ks k c b w) e = (refl, refl)
behind-same types (print e) f = (refl, refl)
behind-same types collect e = (refl, refl)
behind-same types (return e) f = absurd cc

pub behind-more : (types : List Ty) (k : Kind) (t : Ty) → after_of k ≡ after.More t → (is_last k ≡ false) × (types_behind types k ≡ types ++ t ∷ [])
behind-more types (declare u r) t e = (refl, cc)
behind-more types (assign s r) t e = absurd cc
behind-more types (write s ks k r) t e = absurd cc
behind-more types (write_element s ks e r) t f = absurd cc
behind-more types (call c) t e = absurd cc
behind-more types (swap y s ks k) t e = absurd cc
behind-more types (branch e b other) t f = absurd cc
behind-more types (while e b) t f = absurd cc
behind-more types (enter s c b w) t e = absurd cc
behind-more types (enter_field s ks k c b w) t e = absurd cc
behind-more types (print e) t f = absurd cc
behind-more types collect t e = absurd cc
behind-more types (return e) t f = absurd cc

-- what a loop over the statements of a block keeps: the tables have grown, as many turns are left as instructions, and the types in
-- front of the block are still there
pub record Looping (m : Truth) (g : Given) (inner : Inner) (old t : Tables) (before types : List Ty) (numbers : List ℕ) (at end : ℕ) : Type 0 where
  pub left : ℕ
  pub grown : Extends old t
  pub going : Going m (length before) t numbers types (statements g inner (suc (length g.ops)) before at) (statements g inner (suc left) types end)
  pub fuel : length g.ops ≤ left + end
  pub more : List Ty
  pub types_are : types ≡ before ++ more

pub looping-begins : (m : Truth) (g : Given) (inner : Inner) (t : Tables) (types : List Ty) (at : ℕ) → Looping m g inner t t types types [] at at
looping-begins m g inner t types at = record {
  left = length g.ops;
  grown = extends-same t;
  going = going-begins m t types (statements g inner (suc (length g.ops)) types at);
  fuel = omega arith;
  more = [];
  types_are = sym (append-nil types);
}
