-- Rows that stand for trees, put together.
use Rattle.std.proofs.Common.{◌≡◌, ℕ, ◌<◌, List, [], ◌∷◌, ◌++◌, All, map, length, refl, sym, ◌∙◌, ap, subst}
use Rattle.std.proofs.lemmas.List.{map-append}
use Rattle.std.proofs.lemmas.List.Elements.{All-nil, All-push}
use Rattle.rg_base.specs.declared.words.Manager.{Manager}
use Rattle.rg_tree.specs.declared.rows.Span.{Span}
use Rattle.rg_tree.specs.declared.rows.ClassRow.{ClassRow}
use Rattle.rg_tree.specs.Tree.{Tree, Class, Stmt, Block, then}
use Rattle.rg_tree.specs.Rows.Tables.{Tables, numbers_in}
use Rattle.rg_tree.specs.Rows.RowTrees.{class_of, classes_of, program_of, stmt_at, block_over, block_of}
use Rattle.rg_tree.specs.Rows.RowsExist.{Holds, IsSpanBelow, IsBlockIn, IsClassIn}
use Rattle.rg_tree.specs.Keeps.{Keeps}
use Rattle.rg_tree.proofs.Callers.{Keeps-same, Keeps-trans, Holds-keeps, IsAbove-Keeps, block_of-keeps}
use Rattle.rg_tree.proofs.Grows.{IsBlockIn-grows}
use Rattle.rg_tree.specs.Adds.{Extends, Adds}
use Rattle.rg_tree.proofs.Adding.{extends-same, extends-trans, means-later, extends-by}
use Rattle.rg_make.specs.Inner.Adds.{AddsAll, AddsBlock, AddsClass, block_with}

module _ {V A : Type 0} {at : Tables → V → A} {exists : Tables → V → Type 0} where
  -- the row exists
  pub adds-there : {t u : Tables} {v : V} {a : A} → Adds at exists t u v a → exists u v
  adds-there {u = u} a = a.means.there u (Keeps-same u)

-- a row of one part, and of two and three that are added in turn

module _ {B W : Type 0} {at : Tables → W → B} {exists : Tables → W → Type 0} where
  pub adds-one : {V A : Type 0} {at1 : Tables → V → A} {exists1 : Tables → V → Type 0} (row : V → W) (f : A → B)
      → ((u : Tables) (v : V) → at u (row v) ≡ f (at1 u v)) → ((u : Tables) (v : V) → exists1 u v → exists u (row v))
      → {t u : Tables} {v : V} {a : A} → Adds at1 exists1 t u v a → Adds at exists t u (row v) (f a)
  adds-one row f e h {v = v} a = record {
    extends = a.extends;
    means = record { is = λ w k. e w v ∙ ap f (a.means.is w k); there = λ w k. h w v (a.means.there w k) };
  }

  pub adds-two : {V1 A1 V2 A2 : Type 0} {at1 : Tables → V1 → A1} {exists1 : Tables → V1 → Type 0}
      {at2 : Tables → V2 → A2} {exists2 : Tables → V2 → Type 0} (row : V1 → V2 → W) (f : A1 → A2 → B)
      → ((u : Tables) (v1 : V1) (v2 : V2) → at u (row v1 v2) ≡ f (at1 u v1) (at2 u v2))
      → ((u : Tables) (v1 : V1) (v2 : V2) → exists1 u v1 → exists2 u v2 → exists u (row v1 v2))
      → {t u w : Tables} {v1 : V1} {v2 : V2} {a1 : A1} {a2 : A2} → Adds at1 exists1 t u v1 a1 → Adds at2 exists2 u w v2 a2
      → Adds at exists t w (row v1 v2) (f a1 a2)
  adds-two row f e h {v1 = v1} {v2 = v2} a b =
      let m = means-later a.means b.extends in
      record {
        extends = extends-trans a.extends b.extends;
        means = record {
          is = λ x k. let p = m.is x k in let q = b.means.is x k in e x v1 v2 ∙ cc;
          there = λ x k. h x v1 v2 (m.there x k) (b.means.there x k);
        };
      }

  pub adds-three : {V1 A1 V2 A2 V3 A3 : Type 0} {at1 : Tables → V1 → A1} {exists1 : Tables → V1 → Type 0}
      {at2 : Tables → V2 → A2} {exists2 : Tables → V2 → Type 0} {at3 : Tables → V3 → A3} {exists3 : Tables → V3 → Type 0}
      (row : V1 → V2 → V3 → W) (f : A1 → A2 → A3 → B)
      → ((u : Tables) (v1 : V1) (v2 : V2) (v3 : V3) → at u (row v1 v2 v3) ≡ f (at1 u v1) (at2 u v2) (at3 u v3))
      → ((u : Tables) (v1 : V1) (v2 : V2) (v3 : V3) → exists1 u v1 → exists2 u v2 → exists3 u v3 → exists u (row v1 v2 v3))
      → {t u w x : Tables} {v1 : V1} {v2 : V2} {v3 : V3} {a1 : A1} {a2 : A2} {a3 : A3} → Adds at1 exists1 t u v1 a1
      → Adds at2 exists2 u w v2 a2 → Adds at3 exists3 w x v3 a3 → Adds at exists t x (row v1 v2 v3) (f a1 a2 a3)
  adds-three row f e h {v1 = v1} {v2 = v2} {v3 = v3} a b c =
      let m = means-later a.means (extends-trans b.extends c.extends) in
      let n = means-later b.means c.extends in
      record {
        extends = extends-trans a.extends (extends-trans b.extends c.extends);
        means = record {
          is = λ x k. let p = m.is x k in let q = n.is x k in let r = c.means.is x k in e x v1 v2 v3 ∙ cc;
          there = λ x k. h x v1 v2 v3 (m.there x k) (n.there x k) (c.means.there x k);
        };
      }

  pub adds-four : {V1 A1 V2 A2 V3 A3 V4 A4 : Type 0} {at1 : Tables → V1 → A1} {exists1 : Tables → V1 → Type 0}
      {at2 : Tables → V2 → A2} {exists2 : Tables → V2 → Type 0} {at3 : Tables → V3 → A3} {exists3 : Tables → V3 → Type 0}
      {at4 : Tables → V4 → A4} {exists4 : Tables → V4 → Type 0} (row : V1 → V2 → V3 → V4 → W) (f : A1 → A2 → A3 → A4 → B)
      → ((u : Tables) (v1 : V1) (v2 : V2) (v3 : V3) (v4 : V4) → at u (row v1 v2 v3 v4) ≡ f (at1 u v1) (at2 u v2) (at3 u v3) (at4 u v4))
      → ((u : Tables) (v1 : V1) (v2 : V2) (v3 : V3) (v4 : V4) → exists1 u v1 → exists2 u v2 → exists3 u v3
      → exists4 u v4 → exists u (row v1 v2 v3 v4))
      → {t u w x y : Tables} {v1 : V1} {v2 : V2} {v3 : V3} {v4 : V4} {a1 : A1} {a2 : A2} {a3 : A3} {a4 : A4} → Adds at1 exists1 t u v1 a1
      → Adds at2 exists2 u w v2 a2 → Adds at3 exists3 w x v3 a3 → Adds at4 exists4 x y v4 a4 → Adds at exists t y (row v1 v2 v3 v4) (f a1 a2 a3 a4)
  adds-four row f e h {v1 = v1} {v2 = v2} {v3 = v3} {v4 = v4} a b c d =
      let later = extends-trans c.extends d.extends in
      let m = means-later a.means (extends-trans b.extends later) in
      let n = means-later b.means later in
      let o = means-later c.means d.extends in
      record {
        extends = extends-trans a.extends (extends-trans b.extends later);
        means = record {
          is = λ x k. let p = m.is x k in let q = n.is x k in let r = o.is x k in let s = d.means.is x k in e x v1 v2 v3 v4 ∙ cc;
          there = λ x k. h x v1 v2 v3 v4 (m.there x k) (n.there x k) (o.there x k) (d.means.there x k);
        };
      }

-- rows by their numbers, one after another

pub adds-none : {A : Type 0} (at : Tables → ℕ → A) (exists : Tables → ℕ → Type 0) (t : Tables) → AddsAll at exists t t [] []
adds-none at exists t = record {
  extends = extends-same t;
  means = record { is = λ u k. refl; there = λ u k. All-nil (exists u) };
}

module _ {A : Type 0} {at : Tables → ℕ → A} {exists : Tables → ℕ → Type 0} where
  pub adds-push : {t u v : Tables} {ks : List ℕ} {n : ℕ} {xs : List A} {x : A} → AddsAll at exists t u ks xs → Adds at exists u v n x
      → AddsAll at exists t v (ks ++ n ∷ []) (xs ++ x ∷ [])
  adds-push {ks = ks} {n = n} a b =
      let m = means-later a.means b.extends in
      record {
        extends = extends-trans a.extends b.extends;
        means = record {
          is = λ w k. let e = m.is w k in let f = b.means.is w k in map-append (at w) ks (n ∷ []) ∙ cc;
          there = λ w k. All-push (exists w) ks n (m.there w k) (b.means.there w k);
        };
      }

-- a span of those numbers
pub adds-span : {A : Type 0} (at : Tables → ℕ → A) (size : Tables → ℕ) {t u v : Tables} {ks : List ℕ} {s : Span} {xs : List A}
    → AddsAll at (λ w k. k < size w) t u ks xs → Extends u v → Holds v s ks
    → Adds (λ w s. map (at w) (numbers_in w s)) (λ w. IsSpanBelow w (size w)) t v s xs
adds-span at size {ks = ks} {s = s} a g h =
    let m = means-later a.means g in
    record {
      extends = extends-trans a.extends g;
      means = record {
        is = λ w k. ap (map (at w)) (Holds-keeps k s ks h).these_are ∙ m.is w k;
        there = λ w k. let i = Holds-keeps k s ks h in
            record { within = i.within; each = subst (All (λ k. k < size w)) (sym i.these_are) (m.there w k) };
      };
    }

-- a list of those numbers is kept
pub adds-order : {A : Type 0} (at : Tables → ℕ → A) (size : Tables → ℕ) {t u v : Tables} {ks : List ℕ} {s : Span} {xs : List A}
    → AddsAll at (λ w k. k < size w) t u ks xs → Keeps u v → program_of v ≡ program_of u → Holds v s ks
    → Adds (λ w s. map (at w) (numbers_in w s)) (λ w. IsSpanBelow w (size w)) t v s xs
adds-order at size a k p h = adds-span at size a (extends-by k p) h

-- the block of a span of statements

block_over-map : (f : ℕ → Stmt) (ks : List ℕ) → block_over f ks ≡ block_with (map f ks)
block_over-map f [] = refl
block_over-map f (k ∷ ks) = ap (then (f k)) (block_over-map f ks)

pub adds-block : {u v : Tables} {ks : List ℕ} {s : Span} → Keeps u v → program_of v ≡ program_of u → Holds v s ks → AddsBlock u v ks s
adds-block {s = s} k p h t ss a =
    let b = adds-span stmt_at (λ w. length w.stmts) a (extends-by k p) h in
    record {
      extends = b.extends;
      means = record {
        is = λ w k. block_over-map (stmt_at w) (numbers_in w s) ∙ ap block_with (b.means.is w k);
        there = b.means.there;
      };
    }

-- a block that is there
pub block-there : (t : Tables) (s : Span) → IsBlockIn t s → Adds block_of IsBlockIn t t s (block_of t s)
block-there t s h = record {
  extends = extends-same t;
  means = record {
    is = λ u k. block_of-keeps k s h;
    there = λ u k. IsBlockIn-grows (IsAbove-Keeps k) s h;
  };
}

-- what is added over a part that was added before
pub adds-over : {V W A B : Type 0} {at1 : Tables → V → A} {exists1 : Tables → V → Type 0} {at : Tables → W → B} {exists : Tables → W → Type 0}
    (f : A → B) {t u w : Tables} {v : V} {n : W} {a : A} → Adds at1 exists1 t u v a → Adds at exists u w n (f (at1 u v)) → Adds at exists t w n (f a)
adds-over f {u = u} a b =
    let same = a.means.is u (Keeps-same u) in
    record {
      extends = extends-trans a.extends b.extends;
      means = record { is = λ x k. b.means.is x k ∙ ap f same; there = b.means.there };
    }

module _ {V1 A1 V2 A2 : Type 0} {at1 : Tables → V1 → A1} {exists1 : Tables → V1 → Type 0} {at2 : Tables → V2 → A2}
    {exists2 : Tables → V2 → Type 0} {t u w : Tables} {v1 : V1} {v2 : V2} {a1 : A1} {a2 : A2} where
  -- the first of two rows exists still
  pub adds-there_first : Adds at1 exists1 t u v1 a1 → Adds at2 exists2 u w v2 a2 → exists1 w v1
  adds-there_first a b = (means-later a.means b.extends).there w (Keeps-same w)

  -- what is added over two parts that were added before
  pub adds-over_two : {X B : Type 0} {at : Tables → X → B} {exists : Tables → X → Type 0} (f : A1 → A2 → B) {x : Tables} {n : X}
      → Adds at1 exists1 t u v1 a1 → Adds at2 exists2 u w v2 a2 → Adds at exists w x n (f (at1 w v1) (at2 w v2)) → Adds at exists t x n (f a1 a2)
  adds-over_two f a b c =
      let p = (means-later a.means b.extends).is w (Keeps-same w) in
      let q = b.means.is w (Keeps-same w) in
      record {
        extends = extends-trans a.extends (extends-trans b.extends c.extends);
        means = record { is = λ y k. c.means.is y k ∙ cc; there = c.means.there };
      }

-- a class that was made is put last
pub adds-class : {t u v : Tables} {r : ClassRow} {c : Class} → Adds class_of IsClassIn t u r c → Keeps u v
    → program_of v ≡ record (program_of u) { classes = classes_of u ++ class_of u r ∷ [] } → AddsClass t v c
adds-class {u = u} a k e =
    let same = a.means.is u (Keeps-same u) in
    let old = ap (λ (p : Tree). p.classes) a.extends.program in
    record {
      keeps = Keeps-trans a.extends.keeps k;
      classes = ap (λ (p : Tree). p.classes) e ∙ cc;
    }

-- main is set over its block
pub main-set : {t u : Tables} (v : Tables) {m : Manager} {s : Span} {b : Block} {line : ℕ} → Adds block_of IsBlockIn t u s b
    → program_of v ≡ record (program_of u) { manager = m; body = block_of u s; line = line }
    → program_of v ≡ record { classes = classes_of t; manager = m; body = b; line = line }
main-set {u = u} v a e =
    let same = a.means.is u (Keeps-same u) in
    let old = ap (λ (p : Tree). p.classes) a.extends.program in
    e ∙ cc
