-- The heads and the maps of a program whose bodies have few names have spellings.
use Rattle.std.proofs.Common.{◌≡◌, ℕ, suc, ◌+◌, ◌<◌, ◌≤◌, ◌^◌, true, false, Bool as Truth, if◌then◌else◌, bytes_eq, List, [], ◌∷◌, ◌++◌, length}
use Rattle.std.proofs.Common.{map, find, Option, Some, None, option_map, unwrap_or, All, arith}
use Rattle.std.proofs.lemmas.List.{length-map}
use Rattle.std.proofs.lemmas.List.Elements.{All-head, All-tail}
use Rattle.std.specs.List.{AllByRecursion}
use Rattle.rg_base.specs.declared.limits.TheConstants.{BODY_NAMES}
use Rattle.rg_base.specs.declared.ty.Ty.{Ty}
use Rattle.rg_base.specs.declared.ty.Ty.TheVariants as ty
use Rattle.rg_base.specs.declared.words.Cap.TheVariants as cap
use Rattle.rg_tree.specs.Tree.{Name, Variable, Ty as Written, int, bool, ref, Path, Field, stmt, StmtKind, declare, assign, assign_element}
use Rattle.rg_tree.specs.Tree.{call, swap}
use Rattle.rg_tree.specs.Tree.{branch, while, enter, print, collect, return, Else, no_else, otherwise, Block, empty as none, then as next, Param}
use Rattle.rg_tree.specs.Tree.{Method, Member, field, method, Class, Tree}
use Rattle.rg_rules.specs.Environment.{same_variable}
use Rattle.rg_rules.specs.Names.{kind_names, else_names, block_names, HasFewNames, FewNames}
use Rattle.rg_rules.specs.Types.{class_number, type_of, fields_of}
use Rattle.rg_code.specs.Lowering.{Scope, with_slot, type_in, type_behind, type_along, class_of}
use Rattle.rg_code.specs.Lowering.{scope_behind, scope_inside, with_params, method_scope}
use Rattle.rg_spell.specs.declared.rows.Head.{Head}
use Rattle.rg_spell.specs.Spelling.{Counted, FitsTy, FitsResult, FitsHead}
use Rattle.rg_build.specs.Maps.{types_in, end_maps, inner_maps, else_maps, block_maps}
use Rattle.rg_build.specs.Maps.{is_end_marked, method_maps, members_maps, methods_maps, maps_of}
use Rattle.rg_build.specs.ModuleOf.{head_of, member_heads, class_heads, heads_of}
use Rattle.rg_build.proofs.Near.{slot_by, behind-length, inside-length, method-length}

-- Types

class_number-within : (cs : List Class) (x : Name) → class_number cs x ≤ length cs
class_number-within [] x = omega arith
class_number-within (c ∷ cs) x = slot_by (bytes_eq c.name x) (class_number cs x) (length cs) (class_number-within cs x)

type-fits : (cs : List Class) (w : Written) → length cs < 2 ^ 32 → FitsTy (type_of cs w)
type-fits cs int n = tt
type-fits cs bool n = tt
type-fits cs (ref cap x) n = let w = class_number-within cs x in omega (arith, w, n)

result-fits : (cs : List Class) (w : Option Written) → length cs < 2 ^ 32 → FitsResult (option_map (type_of cs) w)
result-fits cs None n = tt
result-fits cs (Some w) n = type-fits cs w n

found-fits : (cs : List Class) (o : Option Field) → length cs < 2 ^ 32 → FitsTy (unwrap_or (option_map (λ (f : Field). type_of cs f.ty) o) ty.Int)
found-fits cs None n = tt
found-fits cs (Some f) n = type-fits cs f.ty n

behind-fits : (cs : List Class) (t : Ty) (x : Name) → length cs < 2 ^ 32 → FitsTy (type_behind cs t x)
behind-fits cs ty.Int x n = tt
behind-fits cs ty.Bool x n = tt
behind-fits cs (ty.Ref k c) x n = found-fits cs (find (λ (f : Field). bytes_eq f.name x) (fields_of cs c)) n

along-fits : (cs : List Class) (t : Ty) (fs : List Name) → length cs < 2 ^ 32 → FitsTy t → FitsTy (type_along cs t fs)
along-fits cs t [] n h = h
along-fits cs t (f ∷ fs) n h = along-fits cs (type_behind cs t f) fs n (behind-fits cs t f n)

class-fits : (cs : List Class) (t : Ty) → length cs < 2 ^ 32 → FitsTy t → class_of cs t < 2 ^ 32
class-fits cs ty.Int n h = n
class-fits cs ty.Bool n h = n
class-fits cs (ty.Ref k c) n h = h

-- Variables

-- the types of variables have spellings
abbrev Typed : Scope → Type 0
Typed sc = AllByRecursion FitsTy (types_in sc)

in_by : (b : Truth) (t u : Ty) → FitsTy t → FitsTy u → FitsTy (if b then t else u)
in_by true t u h g = h
in_by false t u h g = g

in-fits : (sc : Scope) (x : Variable) → Typed sc → FitsTy (type_in sc x)
in-fits [] x h = tt
in-fits (s ∷ ss) x h = in_by (same_variable s.name x) s.ty (type_in ss x) h.0 (in-fits ss x h.1)

slot-more : (sc : Scope) (x : Variable) (t : Ty) → Typed sc → FitsTy t → Typed (with_slot sc x t)
slot-more [] x t h f = (f, tt)
slot-more (s ∷ ss) x t h f = (h.0, slot-more ss x t h.1 f)

typed-behind : (cs : List Class) (sc : Scope) (k : StmtKind) → length cs < 2 ^ 32 → Typed sc → Typed (scope_behind cs sc k)
typed-behind cs sc (declare x t r) n h = slot-more sc (Some x) (type_of cs t) h (type-fits cs t n)
typed-behind cs sc (assign p r) n h = h
typed-behind cs sc (assign_element q e r) n h = h
typed-behind cs sc (call c) n h = h
typed-behind cs sc (swap y p) n h = h
typed-behind cs sc (branch e b other) n h = h
typed-behind cs sc (while e b) n h = h
typed-behind cs sc (enter p z b giving) n h = h
typed-behind cs sc (print e) n h = h
typed-behind cs sc collect n h = h
typed-behind cs sc (return e) n h = h

typed-inside : (cs : List Class) (sc : Scope) (p : Path) (z : Name) → length cs < 2 ^ 32 → Typed sc → Typed (scope_inside cs sc p z)
typed-inside cs sc p z n h =
    let owner = type_along cs (type_in sc p.base) p.fields in
    slot-more sc (Some z) (ty.Ref cap.Mut (class_of cs owner)) h
    (class-fits cs owner n (along-fits cs (type_in sc p.base) p.fields n (in-fits sc p.base h)))

typed-params : (cs : List Class) (sc : Scope) (ps : List Param) → length cs < 2 ^ 32 → Typed sc → Typed (with_params cs sc ps)
typed-params cs sc [] n h = h
typed-params cs sc (p ∷ ps) n h =
    typed-params cs (with_slot sc (Some p.name) (type_of cs p.ty)) ps n (slot-more sc (Some p.name) (type_of cs p.ty) h (type-fits cs p.ty n))

-- Maps

-- maps that have spellings
abbrev pub Short : List (List Ty) → Type 0
Short maps = AllByRecursion (Counted FitsTy) maps

short-then : (a b : List (List Ty)) → Short a → Short b → Short (a ++ b)
short-then [] b h g = g
short-then (m ∷ ms) b h g = (h.0, short-then ms b h.1 g)

types-counted : (sc : Scope) → length sc ≤ BODY_NAMES → Typed sc → Counted FitsTy (types_in sc)
types-counted sc few h =
    let l : length (types_in sc) ≡ length sc = length-map sc _ in
    let le : length sc ≤ 256 = few in
    (omega (arith, l, le), h)

end-short : (marked : Truth) (sc : Scope) → length sc ≤ BODY_NAMES → Typed sc → Short (end_maps marked sc)
end-short false sc few h = tt
end-short true sc few h = (types-counted sc few h, tt)

mutual
  inner-short : (cs : List Class) (sc : Scope) (k : StmtKind) → length cs < 2 ^ 32 → length sc + kind_names k ≤ BODY_NAMES → Typed sc →
      Short (inner_maps cs sc k)
  inner-short cs sc (declare x t r) n few h = tt
  inner-short cs sc (assign p r) n few h = tt
  inner-short cs sc (assign_element q e r) n few h = tt
  inner-short cs sc (call c) n few h = tt
  inner-short cs sc (swap y p) n few h = tt
  inner-short cs sc (branch e b other) n few h =
      short-then (block_maps cs true sc b) (else_maps cs sc other) (block-short cs true sc b n (omega (arith, few)) h)
      (else-short cs sc other n (omega (arith, few)) h)
  inner-short cs sc (while e b) n few h = block-short cs true sc b n few h
  inner-short cs sc (enter p z b giving) n few h =
      let one = inside-length cs sc p z in
      block-short cs true (scope_inside cs sc p z) b n (omega (arith, one, few)) (typed-inside cs sc p z n h)
  inner-short cs sc (print e) n few h = tt
  inner-short cs sc collect n few h = tt
  inner-short cs sc (return e) n few h = tt

  else-short : (cs : List Class) (sc : Scope) (other : Else) → length cs < 2 ^ 32 → length sc + else_names other ≤ BODY_NAMES → Typed sc →
      Short (else_maps cs sc other)
  else-short cs sc no_else n few h = tt
  else-short cs sc (otherwise b) n few h = block-short cs true sc b n few h

  block-short : (cs : List Class) (marked : Truth) (sc : Scope) (b : Block) → length cs < 2 ^ 32 → length sc + block_names b ≤ BODY_NAMES →
      Typed sc → Short (block_maps cs marked sc b)
  block-short cs marked sc none n few h = end-short marked sc (omega (arith, few)) h
  block-short cs marked sc (next (stmt line k) b) n few h =
      let behind = scope_behind cs sc k in
      let room : length behind + block_names b ≤ BODY_NAMES = let l = behind-length cs sc k in omega (arith, l, few) in (
        types-counted sc (omega (arith, few)) h,
        short-then (inner_maps cs sc k) (block_maps cs marked behind b) (inner-short cs sc k n (omega (arith, few)) h)
            (block-short cs marked behind b n room (typed-behind cs sc k n h)),
      )

method-short : (cs : List Class) (c : ℕ) (m : Method) → length cs < 2 ^ 32 → c < length cs → HasFewNames (method m) → Short (method_maps cs c m)
method-short cs c m n lt few =
    let l = method-length cs c m in
    block-short cs (is_end_marked m.result) (method_scope cs c m) m.body n (omega (arith, l, few))
    (typed-params cs (with_slot [] None (ty.Ref m.receiver c)) m.params n (omega (arith, n, lt), tt))

members-short : (cs : List Class) (c : ℕ) (ms : List Member) → length cs < 2 ^ 32 → c < length cs → All HasFewNames ms → Short (members_maps cs c ms)
members-short cs c [] n lt few = tt
members-short cs c (field f ∷ ms) n lt few = members-short cs c ms n lt (All-tail HasFewNames (field f) ms few)
members-short cs c (method m ∷ ms) n lt few =
    short-then (method_maps cs c m) (members_maps cs c ms) (method-short cs c m n lt (All-head HasFewNames (method m) ms few))
    (members-short cs c ms n lt (All-tail HasFewNames (method m) ms few))

-- the bodies of a class have few names
abbrev IsSmall : Class → Type 0
IsSmall k = All HasFewNames k.members

methods-short : (cs : List Class) (c : ℕ) (ks : List Class) → length cs < 2 ^ 32 → c + length ks ≤ length cs → All IsSmall ks →
    Short (methods_maps cs c ks)
methods-short cs c [] n le few = tt
methods-short cs c (k ∷ ks) n le few =
    short-then (members_maps cs c k.members) (methods_maps cs (suc c) ks)
    (members-short cs c k.members n (omega (arith, le)) (All-head IsSmall k ks few))
    (methods-short cs (suc c) ks n (omega (arith, le)) (All-tail IsSmall k ks few))

pub maps-short : (t : Tree) → FewNames t → length t.classes < 2 ^ 32 → Short (maps_of t)
maps-short t few n =
    let rest = few.main in
    short-then (block_maps t.classes true [] t.body) (methods_maps t.classes 0 t.classes)
    (block-short t.classes true [] t.body n (omega (arith, rest)) tt) (methods-short t.classes 0 t.classes n (omega arith) few.methods)

-- Heads

params-fit : (cs : List Class) (ps : List Param) → length cs < 2 ^ 32 → AllByRecursion FitsTy (map (λ (p : Param). type_of cs p.ty) ps)
params-fit cs [] n = tt
params-fit cs (p ∷ ps) n = (type-fits cs p.ty n, params-fit cs ps n)

head-fits : (cs : List Class) (c : ℕ) (m : Method) → length cs < 2 ^ 32 → c < length cs → HasFewNames (method m) → FitsHead (head_of cs c m)
head-fits cs c m n lt few =
    let l : length (map (λ (p : Param). type_of cs p.ty) m.params) ≡ length m.params = length-map m.params _ in
    let le : suc (length m.params) + block_names m.body ≤ 256 = few in
    record { class = omega (arith, n, lt); params = (omega (arith, l, le), params-fit cs m.params n); result = result-fits cs m.result n }

heads-then : (a b : List Head) → AllByRecursion FitsHead a → AllByRecursion FitsHead b → AllByRecursion FitsHead (a ++ b)
heads-then [] b h g = g
heads-then (x ∷ xs) b h g = (h.0, heads-then xs b h.1 g)

members-fit : (cs : List Class) (c : ℕ) (ms : List Member) → length cs < 2 ^ 32 → c < length cs → All HasFewNames ms →
    AllByRecursion FitsHead (member_heads cs c ms)
members-fit cs c [] n lt few = tt
members-fit cs c (field f ∷ ms) n lt few = members-fit cs c ms n lt (All-tail HasFewNames (field f) ms few)
members-fit cs c (method m ∷ ms) n lt few =
    (head-fits cs c m n lt (All-head HasFewNames (method m) ms few), members-fit cs c ms n lt (All-tail HasFewNames (method m) ms few))

classes-fit : (cs : List Class) (c : ℕ) (ks : List Class) → length cs < 2 ^ 32 → c + length ks ≤ length cs → All IsSmall ks →
    AllByRecursion FitsHead (class_heads cs c ks)
classes-fit cs c [] n le few = tt
classes-fit cs c (k ∷ ks) n le few =
    heads-then (member_heads cs c k.members) (class_heads cs (suc c) ks)
    (members-fit cs c k.members n (omega (arith, le)) (All-head IsSmall k ks few))
    (classes-fit cs (suc c) ks n (omega (arith, le)) (All-tail IsSmall k ks few))

pub heads-fit : (t : Tree) → FewNames t → length t.classes < 2 ^ 32 → AllByRecursion FitsHead (heads_of t.classes)
heads-fit t few n = classes-fit t.classes 0 t.classes n (omega arith) few.methods
