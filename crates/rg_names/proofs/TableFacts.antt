-- What the table of a program says of the tree behind its clauses.
use Rattle.std.proofs.Common.{◌≡◌, refl, ℕ, suc, ◌<◌, List, [], ◌∷◌, map, length, slice_get, All, Option, Some, None, IfSome, Ok, sym, ap, subst, ◌∙◌}
use Rattle.std.proofs.lemmas.List.{length-map}
use Rattle.std.proofs.lemmas.List.Elements.{All-nil, All-cons, All-head, All-tail}
use Rattle.rg_tree.specs.Tree.{Param}
use Rattle.rg_tree.specs.Rows.Tables.{Tables, name_at, numbers_in}
use Rattle.rg_tree.specs.Rows.RowTrees.{classes_of, param_at}
use Rattle.rg_tree.proofs.Programs.{length-classes_of}
use Rattle.rg_rules.specs.Types.{type_of, good_type}
use Rattle.rg_rules.proofs.Header.{good_type-type_of, judge_headers-method, method_header-parts}
use Rattle.rg_names.specs.declared.entry.Sig.{Sig}
use Rattle.rg_names.specs.Table.{Table, IsClass}
use Rattle.rg_names.specs.TableOf.{IsTableOf}
use Rattle.rg_names.specs.TreeAnswers.{MethodIs, MethodAnswer, IsGoodParam, HasGoodParams}
use Rattle.rg_names.proofs.TypeFacts.{head_of}

-- as many classes as the tree has
pub length-heads : (t : Tables) (table : Table) → IsTableOf t table → length table.heads ≡ length (classes_of t)
length-heads t table is =
    ap (λ (v : Table). length v.heads) is.table_is ∙ length-map t.classes head_of ∙ sym (length-classes_of t)

-- a class of the tree is one of the table: what an answer's type names may be handed in again
pub IsClass-tree : (t : Tables) (table : Table) → IsTableOf t table → (class : ℕ) → class < length (classes_of t) → IsClass table class
IsClass-tree t table is class l = rw (length-heads t table is) l

-- and the other way round
pub IsClass-table : (t : Tables) (table : Table) → IsTableOf t table → (class : ℕ) → IsClass table class → class < length (classes_of t)
IsClass-table t table is class l = rw (length-heads t table is) at l

-- the type of each parameter of a method is good
pub MethodIs-param : (t : Tables) (table : Table) → IsTableOf t table → (class name : ℕ) (s : Sig) (m : MethodIs t class name s) (i : ℕ) (p : Param) →
    slice_get m.method.params i ≡ Some p → good_type (classes_of t) p.ty ≡ Ok (type_of (classes_of t) p.ty)
MethodIs-param t table is class name s m i p at =
    let h = judge_headers-method (classes_of t) class (name_at t name) m.method is.headers m.named in
    let g = (method_header-parts (classes_of t) h.class m.method h.passed).params i p at in
    g.1 ∙ ap Ok (good_type-type_of (classes_of t) p.ty g.0 g.1)

-- parameters by their numbers, where each is good at its place
params-good : (t : Tables) (ks : List ℕ) → All (λ k. k < length t.params) ks →
    ((i : ℕ) (p : Param) → slice_get (map (param_at t) ks) i ≡ Some p → good_type (classes_of t) p.ty ≡ Ok (type_of (classes_of t) p.ty)) →
    All (IsGoodParam t) ks
params-good t [] a h = All-nil (IsGoodParam t)
params-good t (k ∷ ks) a h =
    All-cons (IsGoodParam t) k ks (record { within = All-head (λ k. k < length t.params) k ks a; good = h 0 (param_at t k) refl })
    (params-good t ks (All-tail (λ k. k < length t.params) k ks a) (λ i p e. h (suc i) p e))

-- all of them, of the method that is found
pub MethodAnswer-params : (t : Tables) (table : Table) → IsTableOf t table → (class name : ℕ) (answer : Option Sig) →
    MethodAnswer t class name answer → IfSome answer (HasGoodParams t)
MethodAnswer-params t table is class name None m = tt
MethodAnswer-params t table is class name (Some s) m =
    params-good t (numbers_in t s.params) m.rows.each
    (λ i p e. MethodIs-param t table is class name s m i p (subst (λ ps. slice_get ps i ≡ Some p) m.params e))
