-- Rows that stand for trees, put together.
use Rattle.std.proofs.Common.{◌≡◌, ℕ, ◌==◌, ◌&&◌, Bool as Truth, zero, suc, true, false, List, [], ◌∷◌, ◌++◌, All, map, Option}
use Rattle.std.proofs.Common.{Some, None}
use Rattle.std.proofs.Common.{refl, sym, ◌∙◌, ap, subst, arith, true≢false}
use Rattle.std.proofs.lemmas.Bool.Decides.{nat_tests}
use Rattle.std.proofs.lemmas.List.{map-append}
use Rattle.std.proofs.lemmas.List.Elements.{All-nil, All-push}
use Rattle.rg_tree.specs.declared.rows.Span.{Span}
use Rattle.rg_tree.specs.Tree.{Name, Variable}
use Rattle.rg_tree.specs.Rows.Tables.{Tables, name_at, numbers_in}
use Rattle.rg_tree.specs.Rows.RowTrees.{path_of, program_of, variable_of}
use Rattle.rg_tree.specs.Rows.RowsExist.{Holds, IsNameIn, IsPathIn, IsVariableIn}
use Rattle.rg_tree.specs.Keeps.{Keeps}
use Rattle.rg_tree.proofs.Callers.{Holds-keeps}
use Rattle.rg_tree.specs.Adds.{Extends, Means, Adds}
use Rattle.rg_tree.proofs.Adding.{extends-same, extends-trans, extends-by, means-later}
use Rattle.rg_verify_expressions.specs.Naming.{variable_name, variable_in}
use Rattle.rg_verify_expressions.specs.Rows.{AreNames}

module _ {V A : Type 0} {at : Tables → V → A} {exists : Tables → V → Type 0} where
  -- what is there was added to what it is in
  pub adds-same : {t : Tables} {v : V} {a : A} → Means at exists t v a → Adds at exists t t v a
  adds-same {t} m = record { extends = extends-same t; means = m }

  pub adds-behind : {t u w : Tables} {v : V} {a : A} → Extends t u → Adds at exists u w v a → Adds at exists t w v a
  adds-behind g a = record { extends = extends-trans g a.extends; means = a.means }

-- no names, and one more
pub names-none : (t : Tables) → AreNames t [] []
names-none t = record { is = λ u k. refl; there = λ u k. All-nil (IsNameIn u) }

pub names-push : {t u : Tables} {ns : List ℕ} {n : ℕ} {xs : List Name} {x : Name} → AreNames t ns xs → Adds name_at IsNameIn t u n x
    → AreNames u (ns ++ n ∷ []) (xs ++ x ∷ [])
names-push {ns = ns} {n = n} m b =
    let later = means-later m b.extends in
    record {
      is = λ w k. let e = later.is w k in let f = b.means.is w k in map-append (name_at w) ns (n ∷ []) ∙ cc;
      there = λ w k. All-push (IsNameIn w) ns n (later.there w k) (b.means.there w k);
    }

-- a path over its variable and the names of its fields
pub path-put : {t u v : Tables} {o : Option ℕ} {x : Variable} {s : Span} {ns : List ℕ} {xs : List Name} → Adds variable_of IsVariableIn t u o x
    → AreNames t ns xs → Keeps u v → program_of v ≡ program_of u → Holds v s ns
    → Adds path_of IsPathIn t v (record { base = o; fields = s }) (record { base = x; fields = xs })
path-put {o = o} {x = x} {s = s} {ns = ns} {xs = xs} a m k p h =
    let base = means-later a.means (extends-by k p) in
    let names = means-later m (extends-trans a.extends (extends-by k p)) in
    record {
      extends = extends-trans a.extends (extends-by k p);
      means = record {
        is = λ w j.
            ap (λ (b : Variable). record { base = b; fields = map (name_at w) (numbers_in w s) }) (base.is w j)
            ∙ ap (λ (fs : List Name). record { base = x; fields = fs }) (ap (map (name_at w)) (Holds-keeps j s ns h).these_are ∙ names.is w j);
        there = λ w j. let i = Holds-keeps j s ns h in
            record {
              base = base.there w j;
              fields = record { within = i.within; each = subst (All (IsNameIn w)) (sym i.these_are) (names.there w j) };
            };
      };
    }

-- a variable that has a name, and `self`

has-name : (m : Truth) (s : ℕ) → (m && (s == 0)) ≡ false → variable_in m s ≡ Some (variable_name s)
has-name false s h = refl
has-name true zero h = absurd cc
has-name true (suc s) h = refl

is-self : (m : Truth) (s : ℕ) → (m && (s == 0)) ≡ true → variable_in m s ≡ None
is-self false s h = absurd cc
is-self true zero h = refl
is-self true (suc s) h =
    let no : (suc s == 0) ≡ false = grind (arith, nat_tests) in
    absurd (true≢false (sym h ∙ no))

pub base-put : {t u : Tables} {n : ℕ} (m : Truth) (s : ℕ) → (m && (s == 0)) ≡ false → Adds name_at IsNameIn t u n (variable_name s)
    → Adds variable_of IsVariableIn t u (Some n) (variable_in m s)
base-put m s h a = record {
  extends = a.extends;
  means = record { is = λ w k. ap Some (a.means.is w k) ∙ sym (has-name m s h); there = a.means.there };
}

pub base-self : (t : Tables) (m : Truth) (s : ℕ) → (m && (s == 0)) ≡ true → Adds variable_of IsVariableIn t t None (variable_in m s)
base-self t m s h = record {
  extends = extends-same t;
  means = record { is = λ w k. sym (is-self m s h); there = λ w k. tt };
}
