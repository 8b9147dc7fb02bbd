-- How many brackets the texts open that stand in a line of a statement, where its names have none.
use Rattle.std.proofs.Common.{◌≡◌, refl, sym, ◌∙◌, subst, ℕ, suc, max, Bool as Truth, true, false, List, [], ◌∷◌, ◌++◌, codes, flat_map, append_assoc}
use Rattle.std.proofs.Common.{Option, Some, None, IfSome, arith}
use Rattle.std.specs.List.{AllByRecursion, list_any}
use Rattle.rg_base.specs.declared.words.Cap.{Cap}
use Rattle.rg_base.specs.declared.words.Cap.TheVariants.{Mut, Tmp, Paused, Imm, Iso}
use Rattle.rg_base.specs.declared.words.Manager.{Manager}
use Rattle.rg_base.specs.declared.words.Manager.TheVariants.{Arena, Count, Trace}
use Rattle.rg_base.specs.Text.{bool_text}
use Rattle.rg_tree.specs.declared.rows.BinOp.{BinOp}
use Rattle.rg_tree.specs.declared.rows.BinOp.TheVariants.{Or, And, Eq, Ne, Lt, Le, Gt, Ge, Add, Sub, Mul, Div, Rem}
use Rattle.rg_tree.specs.Tree.{Name, Variable, Path, Ty, int, bool, ref, Expr, Right, Param, Method}
use Rattle.rg_tree.specs.Canonical.{op_text, cap_text, manager_text, base_text, path_text, expr_text, ty_text, joined, size_text, right_text}
use Rattle.rg_tree.specs.Canonical.{giving_text, param_texts, result_text, head_text, class_word}
use Rattle.rg_limits.specs.Bare.{is_bracket, IsBare, IsBarePath, IsBareType, IsBareParam}
use Rattle.rg_limits.proofs.Texts.{Stays, both, nothing, as-many, bare, around}

-- Words

pub op-bare : (op : BinOp) → list_any is_bracket (op_text op) ≡ false
op-bare Or = refl
op-bare And = refl
op-bare Eq = refl
op-bare Ne = refl
op-bare Lt = refl
op-bare Le = refl
op-bare Gt = refl
op-bare Ge = refl
op-bare Add = refl
op-bare Sub = refl
op-bare Mul = refl
op-bare Div = refl
op-bare Rem = refl

cap-bare : (c : Cap) → list_any is_bracket (cap_text c) ≡ false
cap-bare Mut = refl
cap-bare Tmp = refl
cap-bare Paused = refl
cap-bare Imm = refl
cap-bare Iso = refl

manager-bare : (m : Manager) → list_any is_bracket (manager_text m) ≡ false
manager-bare Arena = refl
manager-bare Count = refl
manager-bare Trace = refl

class-bare : (b : Truth) → list_any is_bracket (class_word b) ≡ false
class-bare true = refl
class-bare false = refl

pub bool-bare : (b : Truth) → list_any is_bracket (bool_text b) ≡ false
bool-bare true = refl
bool-bare false = refl

-- a text with the most that are open in it, which it closes again
pub record StayText : Type 0 where
  pub text : List ℕ
  pub most : ℕ
  pub stays : Stays most text

infixl 20 ◌&◌
abbrev pub ◌&◌ : StayText → StayText → StayText
a & b = record { text = a.text ++ b.text; most = max a.most b.most; stays = both a.most b.most a.text b.text a.stays b.stays }

-- a text without brackets
abbrev pub plain : (s : List ℕ) → list_any is_bracket s ≡ false → StayText
plain s h = record { text = s; most = 0; stays = bare 0 s h }

abbrev pub of : (p : ℕ) (s : List ℕ) → Stays p s → StayText
of p s h = record { text = s; most = p; stays = h }

-- so many are open in it
pub so : (p : ℕ) (x : StayText) → x.most ≡ p → Stays p x.text
so p x e = as-many 0 0 x.most p x.text e x.stays

-- a field behind a path
abbrev field_text : Name → List ℕ
field_text f = codes "." ++ f

base-stays : (v : Variable) → IfSome v IsBare → Stays 0 (base_text v)
base-stays None h = bare 0 (codes "self") refl
base-stays (Some x) h = bare 0 x h

fields-stay : (fs : List Name) → AllByRecursion IsBare fs → Stays 0 (flat_map field_text fs)
fields-stay [] h = nothing
fields-stay (f ∷ fs) h =
    so 0 (of 0 (field_text f) (so 0 (plain (codes ".") refl & plain f h.0) (omega arith)) & of 0 (flat_map field_text fs) (fields-stay fs h.1))
    (omega arith)

pub path-stays : (q : Path) → IsBarePath q → Stays 0 (path_text q)
path-stays q h =
    so 0 (of 0 (base_text q.base) (base-stays q.base h.base) & of 0 (flat_map field_text q.fields) (fields-stay q.fields h.fields)) (omega arith)

pub type-stays : (t : Ty) → IsBareType t → Stays 0 (ty_text t)
type-stays int h = bare 0 (codes "int") refl
type-stays bool h = bare 0 (codes "bool") refl
type-stays (ref c x) h = so 0 (plain (cap_text c) (cap-bare c) & plain (codes " ") refl & plain x h) (omega arith)

-- an index behind a text
pub index-stays : (f : List ℕ) (e : Expr) (p : ℕ) → Stays 0 f → Stays p (expr_text e) → Stays (suc p) (f ++ codes "[" ++ expr_text e ++ codes "]")
index-stays f e p h i = around 91 93 p f (expr_text e) refl refl refl h i

module _ (p : ℕ) (o : Option Expr) (size : Stays p (size_text o)) (x : Name) (h : IsBare x) where
  pub new-stays : Stays p ((codes "new " ++ x) ++ size_text o)
  new-stays = so p (plain (codes "new ") refl & plain x h & of p (size_text o) size) (omega arith)

  pub new_tmp-stays : Stays p ((codes "new tmp " ++ x) ++ size_text o)
  new_tmp-stays = so p (plain (codes "new tmp ") refl & plain x h & of p (size_text o) size) (omega arith)

  pub new_iso-stays : (m : Manager) → Stays p ((((codes "new iso " ++ x) ++ size_text o) ++ codes " in ") ++ manager_text m)
  new_iso-stays m =
      so p (plain (codes "new iso ") refl & plain x h & of p (size_text o) size & plain (codes " in ") refl & plain (manager_text m) (manager-bare m))
      (omega arith)

pub call-stays : (q : Path) (m : Name) (p : ℕ) (args : List ℕ) → IsBarePath q → IsBare m → Stays p args
    → Stays (suc p) ((((((codes "call " ++ path_text q) ++ codes ".") ++ m) ++ codes "(") ++ args) ++ codes ")")
call-stays q m p args h i j =
    around 40 41 p (((codes "call " ++ path_text q) ++ codes ".") ++ m) args refl refl refl
    (so 0 (plain (codes "call ") refl & of 0 (path_text q) (path-stays q h) & plain (codes ".") refl & plain m i) (omega arith)) j

pub giving-stays : (o : Option Name) → IfSome o IsBare → Stays 0 (giving_text o)
giving-stays None h = nothing
giving-stays (Some w) h = so 0 (plain (codes " giving ") refl & plain w h & plain (codes ";") refl) (omega arith)

params-stay : (ps : List Param) → AllByRecursion IsBareParam ps → Stays 0 (joined (param_texts ps))
params-stay [] h = nothing
params-stay (p ∷ []) h = so 0 (plain p.name h.0.name & plain (codes ": ") refl & of 0 (ty_text p.ty) (type-stays p.ty h.0.ty)) (omega arith)
params-stay (p ∷ q ∷ ps) h =
    so 0 (plain p.name h.0.name & plain (codes ": ") refl & of 0 (ty_text p.ty) (type-stays p.ty h.0.ty)
    & plain (codes ", ") refl & of 0 (joined (param_texts (q ∷ ps))) (params-stay (q ∷ ps) h.1)) (omega arith)

result-stays : (o : Option Ty) → IfSome o IsBareType → Stays 0 (result_text o)
result-stays None h = nothing
result-stays (Some t) h = so 0 (plain (codes ": ") refl & of 0 (ty_text t) (type-stays t h)) (omega arith)

pub freeze-stays : (y : Name) → IsBare y → Stays 0 (codes "freeze " ++ y)
freeze-stays y h = so 0 (plain (codes "freeze ") refl & plain y h) (omega arith)

pub merge-stays : (y : Name) → IsBare y → Stays 0 (codes "merge " ++ y)
merge-stays y h = so 0 (plain (codes "merge ") refl & plain y h) (omega arith)

-- What stands in the lines of statements

module _ (p : ℕ) (r : Right) (right : Stays p (right_text r)) where
  -- `q[e] = r;`
  pub element-stays : (q : Path) (e : Expr) (n : ℕ) → IsBarePath q → Stays n (expr_text e)
      → Stays (max (suc n) p) (path_text q ++ codes "[" ++ expr_text e ++ codes "] = " ++ right_text r ++ codes ";")
  element-stays q e n hq he =
      let front = (path_text q ++ codes "[") ++ expr_text e in
      let place = index-stays (path_text q) e n (path-stays q hq) he in
      let same : (front ++ 93 ∷ []) ++ codes " = " ≡ front ++ codes "] = " = append_assoc front (93 ∷ []) (codes " = ") in
      let upto : Stays (suc n) (front ++ codes "] = ") = subst (Stays (suc n)) same
      (so (suc n) (of (suc n) (front ++ 93 ∷ []) place & plain (codes " = ") refl) (omega arith)) in
      so (max (suc n) p) (of (suc n) (front ++ codes "] = ") upto & of p (right_text r) right & plain (codes ";") refl) (omega arith)

  pub let-stays : (x : Name) (t : Ty) → IsBare x → IsBareType t
      → Stays p ((((((codes "let " ++ x) ++ codes ": ") ++ ty_text t) ++ codes " = ") ++ right_text r) ++ codes ";")
  let-stays x t hx ht =
      so p (plain (codes "let ") refl & plain x hx & plain (codes ": ") refl & of 0 (ty_text t) (type-stays t ht) & plain (codes " = ") refl
      & of p (right_text r) right & plain (codes ";") refl) (omega arith)

  pub assign-stays : (q : Path) → IsBarePath q → Stays p (((path_text q ++ codes " = ") ++ right_text r) ++ codes ";")
  assign-stays q hq =
      so p (of 0 (path_text q) (path-stays q hq) & plain (codes " = ") refl & of p (right_text r) right & plain (codes ";") refl) (omega arith)

pub swap-stays : (y : Name) (q : Path) → IsBare y → IsBarePath q → Stays 0 ((((codes "swap " ++ y) ++ codes ", ") ++ path_text q) ++ codes ";")
swap-stays y q hy hq =
    so 0 (plain (codes "swap ") refl & plain y hy & plain (codes ", ") refl & of 0 (path_text q) (path-stays q hq) & plain (codes ";") refl)
    (omega arith)

pub enter-stays : (q : Path) (z : Name) → IsBarePath q → IsBare z → Stays 0 (((codes "enter " ++ path_text q) ++ codes " as ") ++ z)
enter-stays q z hq hz =
    so 0 (plain (codes "enter ") refl & of 0 (path_text q) (path-stays q hq) & plain (codes " as ") refl & plain z hz) (omega arith)

-- a text behind a word, and in front of a semicolon
pub after-stays : (p : ℕ) (word s : List ℕ) → list_any is_bracket word ≡ false → Stays p s → Stays p (word ++ s)
after-stays p word s h i = so p (plain word h & of p s i) (omega arith)

pub ended-stays : (p : ℕ) (s : List ℕ) → Stays p s → Stays p (s ++ codes ";")
ended-stays p s h = so p (of p s h & plain (codes ";") refl) (omega arith)

pub field-stays : (x : Name) (t : Ty) → IsBare x → IsBareType t → Stays 0 (((x ++ codes ": ") ++ ty_text t) ++ codes ";")
field-stays x t hx ht =
    so 0 (plain x hx & plain (codes ": ") refl & of 0 (ty_text t) (type-stays t ht) & plain (codes ";") refl) (omega arith)

-- the line of main
pub main-stays : (m : Manager) → Stays 0 (codes "main " ++ manager_text m)
main-stays m = so 0 (plain (codes "main ") refl & plain (manager_text m) (manager-bare m)) (omega arith)

pub class-stays : (b : Truth) (x : Name) → IsBare x → Stays 0 (class_word b ++ x)
class-stays b x h = so 0 (plain (class_word b) (class-bare b) & plain x h) (omega arith)

-- `[T];` and the end of the line
pub elements-stay : (t : Ty) → IsBareType t → Stays 1 (((codes " [" ++ ty_text t) ++ codes "];") ++ 10 ∷ [])
elements-stay t h =
    let p = around 91 93 0 (32 ∷ []) (ty_text t) refl refl refl (bare 0 (32 ∷ []) refl) (type-stays t h) in
    let x = codes " [" ++ ty_text t in
    let e : (x ++ 93 ∷ []) ++ (59 ∷ 10 ∷ []) ≡ (x ++ codes "];") ++ 10 ∷ [] =
    append_assoc x (93 ∷ []) (59 ∷ 10 ∷ []) ∙ sym (append_assoc x (codes "];") (10 ∷ [])) in
    subst (Stays 1) e (so 1 (of 1 (x ++ 93 ∷ []) p & plain (59 ∷ 10 ∷ []) refl) (omega arith))

-- the line that opens a method
pub head-stays : (m : Method) → IsBare m.name → AllByRecursion IsBareParam m.params → IfSome m.result IsBareType → Stays 1 (head_text m)
head-stays m name params result =
    let front = (cap_text m.receiver ++ codes " ") ++ m.name in
    let begins : Stays 0 front =
    so 0 (plain (cap_text m.receiver) (cap-bare m.receiver) & plain (codes " ") refl & plain m.name name) (omega arith) in
    so 1 (of 1 (((front ++ codes "(") ++ joined (param_texts m.params)) ++ codes ")")
    (around 40 41 0 front (joined (param_texts m.params)) refl refl refl begins (params-stay m.params params))
    & of 0 (result_text m.result) (result-stays m.result result)) (omega arith)
