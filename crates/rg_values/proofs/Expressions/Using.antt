-- What is used up, of one variable after another.
use Rattle.std.proofs.Common.{◌≡◌, ℕ, ◌+◌, ◌<◌, length, map, take, get_or, append-nil, add-one, Bool, true, false, if◌then◌else◌, List, [], ◌∷◌, ◌++◌}
use Rattle.std.proofs.Common.{refl, sym, ◌∙◌, ap}
use Rattle.std.specs.Prelude.{flat_map}
use Rattle.std.proofs.Math.Seq.{take-suc}
use Rattle.std.proofs.lemmas.List.{map-append}
use Rattle.std.proofs.lemmas.List.Concat.{flat_map-append}
use Rattle.rg_base.specs.declared.value.Val.{Val}
use Rattle.rg_base.specs.declared.value.Val.TheVariants.{Nil}
use Rattle.rg_tree.specs.declared.rows.BinOp.{BinOp}
use Rattle.rg_tree.specs.Tree.{Name, Variable, Expr, path, neg, not, binary, element}
use Rattle.rg_rules.specs.Environment.{same_variable}
use Rattle.rg_rules.specs.State.{Local, set_in}
use Rattle.rg_rules.specs.Evaluation.{is_iso_local, uses_path, uses, cleared}
use Rattle.rg_sound.proofs.Values.Argument.{cleared-append}

-- a write leaves the types
is_iso_local-set_in : (ls : List Local) (x y : Variable) (v : Val) → is_iso_local (set_in y v ls) x ≡ is_iso_local ls x
is_iso_local-set_in [] x y v = refl
is_iso_local-set_in (l ∷ ls) x y v = by (same_variable l.name y) (is_iso_local-set_in ls x y v)
  where
    by : (b : Bool) → is_iso_local (set_in y v ls) x ≡ is_iso_local ls x →
        is_iso_local (if b then record l { value = v } ∷ ls else l ∷ set_in y v ls) x ≡ is_iso_local (l ∷ ls) x
    by true rest = refl
    by false rest = rw rest refl

is_iso_local-cleared : (xs : List Variable) (ls : List Local) (x : Variable) → is_iso_local (cleared xs ls) x ≡ is_iso_local ls x
is_iso_local-cleared [] ls x = refl
is_iso_local-cleared (y ∷ ys) ls x = is_iso_local-cleared ys (set_in y Nil ls) x ∙ is_iso_local-set_in ls x y Nil

-- so what an expression uses up stays the same
uses_path-cleared : (xs : List Variable) (ls : List Local) (x : Variable) (fields : List Name) → uses_path (cleared xs ls) x fields ≡ uses_path ls x
    fields
uses_path-cleared xs ls x [] = rw (is_iso_local-cleared xs ls x) refl
uses_path-cleared xs ls x (f ∷ fs) = refl

uses-cleared : (xs : List Variable) (ls : List Local) (e : Expr) → uses (cleared xs ls) e ≡ uses ls e
uses-cleared xs ls (path p) = uses_path-cleared xs ls p.base p.fields
uses-cleared xs ls (neg a) = uses-cleared xs ls a
uses-cleared xs ls (not a) = uses-cleared xs ls a
uses-cleared xs ls (binary op a b) = rw (uses-cleared xs ls a, uses-cleared xs ls b) refl
uses-cleared xs ls (element q e) = uses-cleared xs ls e
uses-cleared xs ls _ = refl

-- the left operand, and then the right one
pub cleared-binary : (op : BinOp) (a b : Expr) (ls left right : List Local) → left ≡ cleared (uses ls a) ls → right ≡ cleared (uses left b) left →
    right ≡ cleared (uses ls (binary op a b)) ls
cleared-binary op a b ls left right left_is right_is =
    let again : cleared (uses left b) left ≡ cleared (uses ls b) (cleared (uses ls a) ls) =
    rw (left_is, uses-cleared (uses ls a) ls b) refl in
    right_is ∙ again ∙ sym (cleared-append (uses ls a) (uses ls b) ls)

-- one more expression
pub cleared-more : (expr : ℕ → Expr) (args : List ℕ) (i : ℕ) (ls mid new : List Local) → i < length args →
    mid ≡ cleared (flat_map (uses ls) (map expr (take i args))) ls → new ≡ cleared (uses mid (expr (get_or args i 0))) mid →
    new ≡ cleared (flat_map (uses ls) (map expr (take (i + 1) args))) ls
cleared-more expr args i ls mid new within mid_is new_is =
    let xs = flat_map (uses ls) (map expr (take i args)) in
    let e = expr (get_or args i 0) in
    let again : cleared (uses mid e) mid ≡ cleared (uses ls e) (cleared xs ls) = rw (mid_is, uses-cleared xs ls e) refl in
    let more : map expr (take (i + 1) args) ≡ map expr (take i args) ++ e ∷ [] =
    ap (map expr) (rw add-one (take-suc args i 0 within)) ∙ map-append expr (take i args) (get_or args i 0 ∷ []) in
    let whole : flat_map (uses ls) (map expr (take (i + 1) args)) ≡ xs ++ uses ls e =
    ap (flat_map (uses ls)) more ∙ flat_map-append (uses ls) (map expr (take i args)) (e ∷ []) ∙ ap (λ q. xs ++ q) (append-nil (uses ls e)) in
    new_is ∙ again ∙ sym (cleared-append xs (uses ls e) ls) ∙ sym (ap (λ ys. cleared ys ls) whole)
