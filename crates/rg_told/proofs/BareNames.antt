-- Names of numbers, and expressions and right sides with such names, have no brackets.
use Rattle.std.proofs.Common.{◌≡◌, refl, ℕ, zero, suc, ◌+◌, ◌/◌, ◌%◌, ◌<◌, ◌==◌, Bool as Truth, true, false, if◌then◌else◌, List, [], ◌∷◌, map}
use Rattle.std.proofs.Common.{Option, Some, None, option_map, IfSome, option_to_list, decimal, arith}
use Rattle.std.specs.Prelude.{nat_lt}
use Rattle.std.specs.List.{AllByRecursion, list_any}
use Rattle.std.specs.Fmt.{digits, digits_onto, digit_glyph}
use Rattle.std.proofs.lemmas.Bool.Decides.{nat_tests}
use Rattle.rg_base.specs.declared.ty.Ty.{Ty}
use Rattle.rg_base.specs.declared.ty.Ty.TheVariants as ty
use Rattle.rg_limits.specs.Bare.{is_bracket, IsBare, IsBarePath, IsBareType, IsBareExpr, IsBareCall, IsBareRight}
use Rattle.rg_limits.specs.Each.{right_exprs}
use Rattle.rg_limits.specs.Numbers.{HasSmall}
use Rattle.rg_verify_expressions.specs.Naming.{variable_name, field_name, class_name, method_name, written, variable_in}
use Rattle.rg_verify_expressions.specs.Raised.{Raised, number, boolean, nil, path, is_nil, size, element, neg, not, binary, path_named, named}
use Rattle.rg_verify_expressions.specs.Statements.{Call, Right, value, new, new_tmp, new_iso, freeze, merge, read, more, result_of}
use Rattle.rg_verify_expressions.specs.Found.{call_named, right_named}

-- Digits

digit-bare : (d : ℕ) → d < 10 → is_bracket (48 + d) ≡ false
digit-bare d l = grind (arith, nat_tests)

glyph-bare : (n : ℕ) → is_bracket (digit_glyph false (n % 10)) ≡ false
glyph-bare n =
    let l : n % 10 < 10 = omega arith in
    let t : nat_lt (n % 10) 10 ≡ true = grind (arith, nat_tests) in rw t (digit-bare (n % 10) l)

one-more : (b : ℕ) (bs : List ℕ) → is_bracket b ≡ false → list_any is_bracket bs ≡ false → list_any is_bracket (b ∷ bs) ≡ false
one-more b bs e h = rw e h

-- however many digits are written
digits-bare : (k n : ℕ) (bs : List ℕ) → list_any is_bracket bs ≡ false → list_any is_bracket (digits_onto k 10 false n bs) ≡ false
digits-bare zero n bs h = h
digits-bare (suc k) n bs h =
    let own = one-more (digit_glyph false (n % 10)) bs (glyph-bare n) h in
    by (n / 10 == 0) (digit_glyph false (n % 10) ∷ bs) (digits_onto k 10 false (n / 10) (digit_glyph false (n % 10) ∷ bs)) own
    (digits-bare k (n / 10) (digit_glyph false (n % 10) ∷ bs) own)
  where
    by : (t : Truth) (xs ys : List ℕ) → list_any is_bracket xs ≡ false → list_any is_bracket ys ≡ false →
        list_any is_bracket (if t then xs else ys) ≡ false
    by true xs ys e f = e
    by false xs ys e f = f

decimal-bare : (n : ℕ) → list_any is_bracket (decimal n) ≡ false
unfolding digits
decimal-bare n = digits-bare 64 n [] refl

-- Names: a letter and digits

pub variable-bare : (s : ℕ) → IsBare (variable_name s)
variable-bare s = decimal-bare s

pub field-bare : (k : ℕ) → IsBare (field_name k)
field-bare k = decimal-bare k

pub class-bare : (c : ℕ) → IsBare (class_name c)
class-bare c = decimal-bare c

pub method-bare : (k : ℕ) → IsBare (method_name k)
method-bare k = decimal-bare k

pub written-bare : (t : Ty) → IsBareType (written t)
written-bare ty.Int = tt
written-bare ty.Bool = tt
written-bare (ty.Ref cap c) = class-bare c

base-bare : (m : Truth) (s : ℕ) → IfSome (variable_in m s) IsBare
base-bare false s = variable-bare s
base-bare true zero = tt
base-bare true (suc s) = variable-bare (suc s)

fields-bare : (ks : List ℕ) → AllByRecursion IsBare (map field_name ks)
fields-bare [] = tt
fields-bare (k ∷ ks) = (field-bare k, fields-bare ks)

pub path-bare : (m : Truth) (s : ℕ) (ks : List ℕ) → IsBarePath (path_named m s ks)
path-bare m s ks = record { base = base-bare m s; fields = fields-bare ks }

-- Expressions

pub expr-bare : (m : Truth) (e : Raised) → HasSmall (named m e) → IsBareExpr (named m e)
expr-bare m (number z) h = h
expr-bare m (boolean b) h = tt
expr-bare m nil h = tt
expr-bare m (path s ks) h = path-bare m s ks
expr-bare m (is_nil s ks) h = path-bare m s ks
expr-bare m (size s ks) h = path-bare m s ks
expr-bare m (element s ks e) h = (path-bare m s ks, expr-bare m e h)
expr-bare m (neg a) h = expr-bare m a h
expr-bare m (not a) h = expr-bare m a h
expr-bare m (binary o a b) h = (expr-bare m a h.0, expr-bare m b h.1)

exprs-bare : (m : Truth) (es : List Raised) → AllByRecursion HasSmall (map (named m) es) → AllByRecursion IsBareExpr (map (named m) es)
exprs-bare m [] h = tt
exprs-bare m (e ∷ es) h = (expr-bare m e h.0, exprs-bare m es h.1)

pub call-bare : (m : Truth) (c : Call) → AllByRecursion HasSmall (map (named m) c.args) → IsBareCall (call_named m c)
call-bare m c h = record { target = path-bare m c.slot c.fields; method = method-bare c.callee.place; args = exprs-bare m c.args h }

-- Right sides

count-bare : (m : Truth) (n : Option Raised) → AllByRecursion HasSmall (option_to_list (option_map (named m) n)) →
    IfSome (option_map (named m) n) IsBareExpr
count-bare m None h = tt
count-bare m (Some e) h = expr-bare m e h.0

pub right-bare : (m : Truth) (r : Right) → AllByRecursion HasSmall (right_exprs (right_named m r)) → IsBareRight (right_named m r)
right-bare m (value e) h = expr-bare m e h.0
right-bare m (new c n) h = (class-bare c, count-bare m n h)
right-bare m (new_tmp c n) h = (class-bare c, count-bare m n h)
right-bare m (new_iso c n manager) h = (class-bare c, count-bare m n h)
right-bare m (freeze s) h = variable-bare s
right-bare m (merge s) h = variable-bare s
right-bare m read h = tt
right-bare m more h = tt
right-bare m (result_of c) h = call-bare m c h
