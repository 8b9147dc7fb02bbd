-- Parameters with their values, one after another.
use Rattle.std.proofs.Common.{◌≡◌, ℕ, zero, suc, ◌+◌, ◌<◌, List, [], ◌∷◌, ◌++◌, length, map, drop, get_or, Some, unwrap_or, IfSome, slice_get, refl}
use Rattle.std.proofs.Common.{sym, ◌∙◌, ap, append_assoc, add-one}
use Rattle.std.proofs.lemmas.List.{drop_more, map-append}
use Rattle.std.proofs.lemmas.List.Elements.{All-nil, All-cons, All-head, All-tail}
use Rattle.rg_base.specs.declared.ty.Ty.{Ty}
use Rattle.rg_base.specs.declared.value.Val.{Val}
use Rattle.rg_base.specs.declared.value.Val.TheVariants.{Nil}
use Rattle.rg_tree.specs.Tree.{Param, Class}
use Rattle.rg_tree.specs.Rows.Tables.{Tables}
use Rattle.rg_tree.specs.declared.rows.ParamRow.{ParamRow}
use Rattle.rg_tree.specs.Rows.RowTrees.{param_of, type_of as written}
use Rattle.rg_tree.specs.Rows.RowsExist.{IsNameIn}
use Rattle.rg_rules.specs.Types.{type_of}
use Rattle.rg_rules.specs.State.{Local}
use Rattle.rg_rules.specs.RightSides.{bound}
use Rattle.rg_values.specs.declared.state.rows.LocalRow.{LocalRow}
use Rattle.rg_values.specs.Shown.{local_of, locals_of, AreNamed}

bound-first : (cs : List Class) (p : Param) (ps : List Param) (vs : List Val) (i : ℕ) →
    bound cs (p ∷ ps) (drop i vs)
    ≡ record { name = Some p.name; ty = type_of cs p.ty; value = unwrap_or (slice_get vs i) Nil } ∷ bound cs ps (drop (suc i) vs)
bound-first cs p ps [] zero = refl
bound-first cs p ps [] (suc i) = refl
bound-first cs p ps (v ∷ vs) zero = refl
bound-first cs p ps (v ∷ vs) (suc i) = bound-first cs p ps vs i

pub bound-more : (cs : List Class) (param : ℕ → Param) (ks : List ℕ) (vs : List Val) (i : ℕ) (front new : List Local) → i < length ks →
    new ≡ front ++ record {
      name = Some (param (get_or ks i 0)).name;
      ty = type_of cs (param (get_or ks i 0)).ty;
      value = unwrap_or (slice_get vs i) Nil;
    } ∷ [] →
    new ++ bound cs (map param (drop (i + 1) ks)) (drop (i + 1) vs) ≡ front ++ bound cs (map param (drop i ks)) (drop i vs)
bound-more cs param ks vs i front new within new_is =
    let p = param (get_or ks i 0) in
    let l : Local = record { name = Some p.name; ty = type_of cs p.ty; value = unwrap_or (slice_get vs i) Nil } in
    let rest = bound cs (map param (drop (i + 1) ks)) (drop (i + 1) vs) in
    let first : bound cs (map param (drop i ks)) (drop i vs) ≡ l ∷ rest =
    ap (λ js. bound cs (map param js) (drop i vs)) (drop_more ks i 0 within) ∙ bound-first cs p (map param (drop (i + 1) ks)) vs i
    ∙ ap (λ n. l ∷ bound cs (map param (drop (i + 1) ks)) (drop n vs)) (sym (add-one i)) in
    ap (λ q. q ++ rest) new_is ∙ append_assoc front (l ∷ []) rest ∙ ap (λ q. front ++ q) (sym first)

-- a variable is added
pub locals_of-push : (t : Tables) (ls : List LocalRow) (l : LocalRow) → locals_of t (ls ++ l ∷ []) ≡ locals_of t ls ++ local_of t l ∷ []
locals_of-push t ls l = map-append (local_of t) ls (l ∷ [])

pub AreNamed-push : (t : Tables) (ls : List LocalRow) (l : LocalRow) → AreNamed t ls → IfSome l.name (IsNameIn t) → AreNamed t (ls ++ l ∷ [])
AreNamed-push t [] l named one = All-cons (λ m. IfSome m.name (IsNameIn t)) l [] one (All-nil (λ m. IfSome m.name (IsNameIn t)))
AreNamed-push t (m ∷ ms) l named one =
    All-cons (λ k. IfSome k.name (IsNameIn t)) m (ms ++ l ∷ []) (All-head (λ k. IfSome k.name (IsNameIn t)) m ms named)
    (AreNamed-push t ms l (All-tail (λ k. IfSome k.name (IsNameIn t)) m ms named) one)

-- the row of a parameter
pub local_of-param : (t : Tables) (cs : List Class) (r : ParamRow) (p : Param) (ty : Ty) (v w : Val) →
    p ≡ param_of t r → ty ≡ type_of cs (written t r.ty) → v ≡ w →
    local_of t (record { name = Some r.name; ty = ty; value = v }) ≡ record { name = Some p.name; ty = type_of cs p.ty; value = w }
local_of-param t cs r p ty v w p_is ty_is v_is = rw (p_is, ty_is, v_is) refl
