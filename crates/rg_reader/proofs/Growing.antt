-- Rows stand for the same trees wherever the tables grow.
use Rattle.std.proofs.Common.{◌≡◌, ℕ, List, Option, None, Some, IfSome, option_map, refl, ap, ◌∙◌}
use Rattle.rg_tree.specs.declared.rows.Span.{Span}
use Rattle.rg_tree.specs.declared.rows.Path as row_path
use Rattle.rg_tree.specs.Rows.Tables.{Tables, name_at}
use Rattle.rg_tree.specs.Rows.RowTrees.{path_of}
use Rattle.rg_tree.specs.Rows.RowsExist.{IsNameIn, IsPathIn, Holds}
use Rattle.rg_tree.proofs.Callers.{Holds-keeps}
use Rattle.rg_tree.proofs.Grows.{path_of-grows, IsPathIn-grows}
use Rattle.rg_reader.specs.Lists.{numbers_of, IsListed}
use Rattle.rg_tree.proofs.Callers.{Keeps-same, Keeps-trans, IsAbove-Keeps}
use Rattle.rg_base.specs.declared.token.Kind.{Kind}
use Rattle.rg_base.specs.declared.token.Token.{Token}
use Rattle.rg_tree.specs.declared.counts.Counts.{Counts}
use Rattle.rg_tree.specs.Keeps.{Keeps}
use Rattle.rg_tree.specs.Adds.{Means}
use Rattle.rg_tree.proofs.Adding.{name-means, means-kept}
use Rattle.rg_reader.specs.Steps.{State, Extends, Found, found, Took, took, took_brace, took_paren, took_bracket, Signed, signed, Kept, kept}

pub order-means : {t : Tables} (s : Span) (ks : List ℕ) → Holds t s ks → Means numbers_of IsListed t s ks
order-means s ks h = record { is = λ u k. (Holds-keeps k s ks h).these_are; there = λ u k. (Holds-keeps k s ks h).within }

-- tables that grow by no class

pub extends-same : (t : Tables) → Extends t t
extends-same t = record { keeps = Keeps-same t; classes = refl }

pub extends-trans : {t u v : Tables} → Extends t u → Extends u v → Extends t v
extends-trans a b = record { keeps = Keeps-trans a.keeps b.keeps; classes = b.classes ∙ a.classes }

-- nothing is read where rows of no class are added
pub kept-with : {source : List ℕ} {ts : List Token} {c : Counts} {u v : Tables} → Keeps u v → v.classes ≡ u.classes
    → Kept (record { source = source; rest = ts; counts = c; tables = u }) (record { source = source; rest = ts; counts = c; tables = v })
kept-with k e = kept (record { keeps = k; classes = e })

-- what a row stands for stays
pub means-later : {V A : Type 0} {tree : Tables → V → A} {exists : Tables → V → Type 0} {t u : Tables} {v : V} {a : A} → Means tree exists t v a
    → Extends t u → Means tree exists u v a
means-later m g = means-kept m g.keeps

pub base-means : {t : Tables} (o : Option ℕ) → IfSome o (IsNameIn t)
    → Means (λ u. option_map (name_at u)) (λ u b. IfSome b (IsNameIn u)) t o (option_map (name_at t) o)
base-means None h = record { is = λ u k. refl; there = λ u k. tt }
base-means (Some n) h = let m = name-means n _ refl h in record { is = λ u k. ap Some (m.is u k); there = m.there }

pub path-means : {t : Tables} (q : row_path.Path) → IsPathIn t q → Means path_of IsPathIn t q (path_of t q)
path-means q h = record { is = λ u k. path_of-grows (IsAbove-Keeps k) q h; there = λ u k. IsPathIn-grows (IsAbove-Keeps k) q h }

-- it stands for an equal tree
pub means-as : {V A : Type 0} {tree : Tables → V → A} {exists : Tables → V → Type 0} {t : Tables} {v : V} {a b : A} → Means tree exists t v a → a ≡ b
    → Means tree exists t v b
means-as m e = record { is = λ w k. m.is w k ∙ e; there = m.there }

-- what was read exists
pub found-there : {V A : Type 0} {reads : List ℕ → Counts → List Token → A → Counts → List Token → Type 0} {tree : Tables → V → A}
    {exists : Tables → V → Type 0} {a b : State} {v : V} → Found reads tree exists a v b → exists b.tables v
found-there (found {v = u} x r m g) = m.there u (extends-same u).keeps

-- and later
pub found-later : {V A : Type 0} {reads : List ℕ → Counts → List Token → A → Counts → List Token → Type 0} {tree : Tables → V → A}
    {exists : Tables → V → Type 0} {a b : State} {v : V} {t : Tables} → Found reads tree exists a v b → Extends b.tables t → exists t v
found-later (found x r m g) k = m.there _ k.keeps

-- tables grow where something is read
pub found-extends : {V A : Type 0} {reads : List ℕ → Counts → List Token → A → Counts → List Token → Type 0} {tree : Tables → V → A}
    {exists : Tables → V → Type 0} {a b : State} {v : V} → Found reads tree exists a v b → Extends a.tables b.tables
found-extends (found x r m g) = g

-- and stay where a token is passed
pub took-stays : {x : Kind} {a b : State} → Took x a b → Extends a.tables b.tables
took-stays (took {u = u} i h) = extends-same u
took-stays (took_brace {u = u} h l) = extends-same u
took-stays (took_paren {u = u} h l) = extends-same u
took-stays (took_bracket {u = u} h l) = extends-same u

pub signed-stays : {x : Kind} {a b : State} → Signed x a b → Extends a.tables b.tables
signed-stays (signed {u = u} i h) = extends-same u
