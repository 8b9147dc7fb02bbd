-- How many parts a program has that is within the limits, and what its classes, methods and instructions are numbered with.
use Rattle.std.proofs.Common.{◌≡◌, refl, ap, ℕ, zero, suc, ◌<◌, ◌≤◌, ◌^◌, Bool as Truth, true, false, if◌then◌else◌, bytes_eq}
use Rattle.std.proofs.Common.{List, [], ◌∷◌, ◌++◌, length, map, filter_map, Option, Some, None, option_map, codes, length-append, arith}
use Rattle.std.specs.List.{flat_map, AllByRecursion}
use Rattle.rg_base.specs.declared.limits.TheConstants.{CLASSES, CLASS_FIELDS}
use Rattle.rg_base.specs.declared.ty.Ty.{Ty}
use Rattle.rg_tree.specs.Tree.{Name, Ty as Written, int, bool, ref, Method, Member, field, method, Class}
use Rattle.rg_rules.specs.Types.{class_number, type_of, field_member, fields_of, method_named}
use Rattle.rg_limits.specs.Parts.{HasFewMembers}
use Rattle.rg_code.specs.Lowering.{method_place, methods_among, method_number, number_called}
use Rattle.rg_spell.specs.declared.rows.Head.{Head}
use Rattle.rg_spell.specs.Spelling.{manager_number, four, counted, ty_bytes, cap_number, result_bytes, shape_bytes, head_bytes, row_bytes, FitsTy}
use Rattle.rg_spell.specs.Spelling.{FitsMembers, FitsShape}
use Rattle.rg_code.specs.declared.op.Op.{Op}
use Rattle.rg_module.specs.Parts.{Parts}
use Rattle.rg_module.specs.Spelling.{rows_of, spelling}
use Rattle.rg_build.specs.ModuleOf.{field_types, shape_of, shapes_of, member_heads, class_heads, heads_of}
use Rattle.rg_packed.proofs.Lined.{HasLinedMembers, IsLinedClass}

-- Classes and types

number_by : (b : Truth) (n k : ℕ) → n ≤ k → (if b then 0 else suc n) ≤ suc k
number_by true n k h = omega arith
number_by false n k h = omega (arith, h)

class-within : (cs : List Class) (x : Name) → class_number cs x ≤ length cs
class-within [] x = omega arith
class-within (c ∷ cs) x = number_by (bytes_eq c.name x) (class_number cs x) (length cs) (class-within cs x)

pub class-few : (cs : List Class) (x : Name) → length cs ≤ CLASSES → class_number cs x < 2 ^ 32
class-few cs x h = let w = class-within cs x in omega (arith, w, h)

type-fits : (cs : List Class) (w : Written) → length cs ≤ CLASSES → FitsTy (type_of cs w)
type-fits cs int h = tt
type-fits cs bool h = tt
type-fits cs (ref cap x) h = class-few cs x h

-- Fields

fields-within : (cs : List Class) (c : ℕ) → AllByRecursion HasFewMembers cs → length (fields_of cs c) ≤ CLASS_FIELDS
fields-within [] c h = omega arith
fields-within (k ∷ ks) zero h = h.0.fields
fields-within (k ∷ ks) (suc c) h = fields-within ks c h.1

pub fields-few : (cs : List Class) (c : ℕ) → AllByRecursion HasFewMembers cs → length (fields_of cs c) < 2 ^ 32
fields-few cs c h = let w = fields-within cs c h in omega (arith, w)

types-long : (cs : List Class) (ms : List Member) → length (field_types cs ms) ≡ length (filter_map field_member ms)
types-long cs [] = refl
types-long cs (field f ∷ ms) = ap suc (types-long cs ms)
types-long cs (method m ∷ ms) = types-long cs ms

types-fit : (cs : List Class) (ms : List Member) → length cs ≤ CLASSES → AllByRecursion FitsTy (field_types cs ms)
types-fit cs [] h = tt
types-fit cs (field f ∷ ms) h = (type-fits cs f.ty h, types-fit cs ms h)
types-fit cs (method m ∷ ms) h = types-fit cs ms h

members-fit : (cs : List Class) (most : ℕ) (o : Option Written) (ms : List Member) → length cs ≤ CLASSES → HasLinedMembers most o ms →
    length (filter_map field_member ms) ≤ CLASS_FIELDS → FitsMembers (field_types cs ms) (option_map (type_of cs) o)
members-fit cs most None ms h g l = let e = types-long cs ms in (omega (arith, e, l), types-fit cs ms h)
members-fit cs most (Some t) ms h g l = (ap (field_types cs) g, type-fits cs t h)

shapes-by : (cs : List Class) (most : ℕ) (ks : List Class) → length cs ≤ CLASSES → AllByRecursion (IsLinedClass most) ks →
    AllByRecursion HasFewMembers ks → AllByRecursion FitsShape (map (shape_of cs) ks)
shapes-by cs most [] h g few = tt
shapes-by cs most (k ∷ ks) h g few =
    (members-fit cs most k.element k.members h g.0 few.0.fields, shapes-by cs most ks h g.1 few.1)

pub shapes-fit : (cs : List Class) (most : ℕ) → length cs ≤ CLASSES → AllByRecursion (IsLinedClass most) cs → AllByRecursion HasFewMembers cs →
    AllByRecursion FitsShape (shapes_of cs)
shapes-fit cs most h g few = shapes-by cs most cs h g few

-- Methods

place-within : (ms : List Method) (x : Name) → method_place ms x ≤ length ms
place-within [] x = omega arith
place-within (m ∷ ms) x = number_by (bytes_eq m.name x) (method_place ms x) (length ms) (place-within ms x)

heads-long : (cs : List Class) (c : ℕ) (ms : List Member) → length (member_heads cs c ms) ≡ length (methods_among ms)
heads-long cs c [] = refl
heads-long cs c (field f ∷ ms) = heads-long cs c ms
heads-long cs c (method m ∷ ms) = ap suc (heads-long cs c ms)

-- the number of a method is at most that of all
method-within : (cs : List Class) (n c : ℕ) (ks : List Class) (x : Name) → method_number ks c x ≤ length (class_heads cs n ks)
method-within cs n c [] x = omega arith
method-within cs n zero (k ∷ ks) x =
    let own = member_heads cs n k.members in
    let l = length-append own (class_heads cs (suc n) ks) in
    let e = heads-long cs n k.members in
    let w = place-within (methods_among k.members) x in
    omega (arith, l, e, w)
method-within cs n (suc c) (k ∷ ks) x =
    let own = member_heads cs n k.members in
    let l = length-append own (class_heads cs (suc n) ks) in
    let e = heads-long cs n k.members in
    let w = method-within cs (suc n) c ks x in
    omega (arith, l, e, w)

called_by : (o : Option Method) (n k : ℕ) → n ≤ k → (elim o [ None ↦ 0 | Some m ↦ n ]) ≤ k
called_by None n k h = omega arith
called_by (Some m) n k h = h

pub called-few : (cs : List Class) (c : ℕ) (x : Name) → length (heads_of cs) < 2 ^ 32 → number_called cs c x < 2 ^ 32
called-few cs c x h =
    let w : number_called cs c x ≤ length (heads_of cs) =
    called_by (method_named cs c x) (method_number cs c x) (length (heads_of cs)) (method-within cs 0 c cs x) in
    omega (arith, w, h)

-- The bytes of a module are no fewer than its methods and instructions

flat-long : {A : Type 0} (part : A → List ℕ) → ((x : A) → 1 ≤ length (part x)) → (xs : List A) → length xs ≤ length (flat_map part xs)
flat-long part one [] = omega arith
flat-long part one (x ∷ xs) =
    let l = length-append (part x) (flat_map part xs) in
    let o = one x in
    let h = flat-long part one xs in
    omega (arith, l, o, h)

counted-long : {A : Type 0} (part : A → List ℕ) → ((x : A) → 1 ≤ length (part x)) → (xs : List A) → length xs ≤ length (counted part xs)
counted-long part one xs =
    let l = length-append (four (length xs)) (flat_map part xs) in
    let h = flat-long part one xs in
    omega (arith, l, h)

head-long : (h : Head) → 1 ≤ length (head_bytes h)
head-long h =
    let l = length-append (four h.class) (cap_number h.cap ∷ (counted ty_bytes h.params ++ result_bytes h.result)) in omega (arith, l)

row-long : (r : Op × List Ty) → 1 ≤ length (row_bytes r)
row-long r = omega arith

-- so many rows and heads as there are bytes, at most
pub record AreShort (m : Parts) (n : ℕ) : Type 0 where
  pub methods : length m.methods ≤ n
  pub rows : length (rows_of m) ≤ n

pub parts-short : (m : Parts) → AreShort m (length (spelling m))
parts-short m =
    let classes = counted shape_bytes m.classes in
    let heads = counted head_bytes m.methods in
    let rows = counted row_bytes (rows_of m) in
    let whole = length-append (codes "RGM1") (manager_number m.manager ∷ (classes ++ (heads ++ rows))) in
    let first = length-append classes (heads ++ rows) in
    let second = length-append heads rows in
    let h = counted-long head_bytes head-long m.methods in
    let r = counted-long row_bytes row-long (rows_of m) in
    record { methods = omega (arith, whole, first, second, h, r); rows = omega (arith, whole, first, second, h, r) }
