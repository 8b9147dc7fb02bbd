-- The program that a module tells has no brackets but those of its form, if its numbers are small.
use Rattle.std.proofs.Common.{◌≡◌, refl, subst, ℕ, zero, suc, ◌+◌, ◌==◌, Bool as Truth, true, false, if◌then◌else◌, List, [], ◌∷◌, ◌++◌, drop, length, All}
use Rattle.std.proofs.Common.{Option, Some, None, option_map, IfSome, arith}
use Rattle.std.specs.List.{AllByRecursion}
use Rattle.std.proofs.lemmas.List.Elements.{recursion_from_All}
use Rattle.rg_base.specs.declared.ty.Ty.{Ty}
use Rattle.rg_tree.specs.Tree.{Member, method, Class, Tree}
use Rattle.rg_spell.specs.declared.rows.Shape.{Shape}
use Rattle.rg_spell.specs.declared.rows.Head.{Head}
use Rattle.rg_module.specs.Parts.{Parts}
use Rattle.rg_limits.specs.Bare.{IsBare, IsBareType, IsBareKind, IsBareElse, IsBareBlock, IsBareParam, IsBareMember, HasBareMembers, IsBareClass}
use Rattle.rg_limits.specs.Bare.{IsBareTree}
use Rattle.rg_limits.specs.Each.{HoldsWithin, HoldsBehind, HoldsInBlock, HoldsInMember}
use Rattle.rg_limits.specs.Numbers.{HasOwnSmall, HasSmallNumbers}
use Rattle.rg_verify_expressions.specs.Naming.{variable_name, written}
use Rattle.rg_verify_expressions.specs.Statements.{Kind, declare, assign, write, write_element, call, swap, branch, while, enter, enter_field, print, collect}
use Rattle.rg_verify_expressions.specs.Statements.{return, Else, no_else, otherwise, Block, empty, next}
use Rattle.rg_verify_expressions.specs.Found.{slots_behind, kind_named, else_named, block_named}
use Rattle.rg_classes.specs.Written.{Bodied, field_written, param_written, numbered, method_written, methods_written, run, members_written}
use Rattle.rg_classes.specs.Written.{classes_written}
use Rattle.rg_bodies.specs.Bodies.{RaisedBody, Bodies, types_in_front}
use Rattle.rg_bodies.specs.Rows.{methods_named}
use Rattle.rg_raised.specs.Told.{module_told, tree_named, program_told}
use Rattle.rg_told.proofs.BareNames.{variable-bare, field-bare, class-bare, method-bare, written-bare, path-bare, expr-bare, call-bare, right-bare}

-- Blocks

giving-bare : (w : Option ℕ) → IfSome (option_map variable_name w) IsBare
giving-bare None = tt
giving-bare (Some w) = variable-bare w

mutual
  kind-bare : (m : Truth) (n : ℕ) (k : Kind) → HasOwnSmall (kind_named m n k) → HoldsWithin HasOwnSmall (kind_named m n k) →
      IsBareKind (kind_named m n k)
  kind-bare m n (declare t r) h g = (variable-bare n, written-bare t, right-bare m r h)
  kind-bare m n (assign s r) h g = (path-bare m s [], right-bare m r h)
  kind-bare m n (write s ks k r) h g = (path-bare m s (ks ++ k ∷ []), right-bare m r h)
  kind-bare m n (write_element s ks e r) h g = (path-bare m s ks, expr-bare m e h.0, right-bare m r h.1)
  kind-bare m n (call c) h g = call-bare m c h
  kind-bare m n (swap y s ks k) h g = (variable-bare y, path-bare m s (ks ++ k ∷ []))
  kind-bare m n (branch e b other) h g = (expr-bare m e h.0, block-bare m n b g.0, else-bare m n other g.1)
  kind-bare m n (while e b) h g = (expr-bare m e h.0, block-bare m n b g)
  kind-bare m n (enter s c b w) h g = (path-bare m s [], variable-bare n, block-bare m (n + 1) b g, giving-bare w)
  kind-bare m n (enter_field s ks k c b w) h g =
      (path-bare m s (ks ++ k ∷ []), variable-bare n, block-bare m (n + 1) b g, giving-bare w)
  kind-bare m n (print e) h g = expr-bare m e h.0
  kind-bare m n collect h g = tt
  kind-bare m n (return e) h g = expr-bare m e h.0

  else-bare : (m : Truth) (n : ℕ) (o : Else) → HoldsBehind HasOwnSmall (else_named m n o) → IsBareElse (else_named m n o)
  else-bare m n no_else h = tt
  else-bare m n (otherwise b) h = block-bare m n b h

  block-bare : (m : Truth) (n : ℕ) (b : Block) → HoldsInBlock HasOwnSmall (block_named m n b) → IsBareBlock (block_named m n b)
  block-bare m n empty h = tt
  block-bare m n (next line k b) h = (kind-bare m n k h.0.0 h.0.1, block-bare m (slots_behind n k) b h.1)

-- Methods. A body is bare where its numbers are small.

abbrev BareIfSmall : Bodied → Type 0
BareIfSmall b = HoldsInBlock HasOwnSmall b.block → IsBareBlock b.block

named-bare : (hs : List Head) (bs : List RaisedBody) → AllByRecursion BareIfSmall (methods_named hs bs)
named-bare [] bs = tt
named-bare (h ∷ hs) [] = tt
named-bare (h ∷ hs) (b ∷ bs) = (λ small. block-bare true (length (types_in_front h)) b.block small, named-bare hs bs)

params-bare : (s : ℕ) (ts : List Ty) → AllByRecursion IsBareParam (numbered param_written s ts)
params-bare s [] = tt
params-bare s (t ∷ ts) = (record { name = variable-bare s; ty = written-bare t }, params-bare (suc s) ts)

result-bare : (o : Option Ty) → IfSome (option_map written o) IsBareType
result-bare None = tt
result-bare (Some t) = written-bare t

abbrev AreSmall : List Member → Type 0
AreSmall ms = AllByRecursion (HoldsInMember HasOwnSmall) ms

abbrev AreBare : List Member → Type 0
AreBare ms = AllByRecursion IsBareMember ms

methods-bare : (c k : ℕ) (hs : List Head) (bs : List Bodied) → AllByRecursion BareIfSmall bs → AreSmall (methods_written c k hs bs) →
    AreBare (methods_written c k hs bs)
methods-bare c k [] bs w h = tt
methods-bare c k (q ∷ hs) [] w h = tt
methods-bare c k (q ∷ hs) (b ∷ bs) w h = by (q.class == c) (methods_written c (suc k) hs bs) h (methods-bare c (suc k) hs bs w.1)
  where
    by : (t : Truth) (ms : List Member) → AreSmall (if t then method (method_written k q b) ∷ ms else []) → (AreSmall ms → AreBare ms) →
        AreBare (if t then method (method_written k q b) ∷ ms else [])
    by true ms h r = ((method-bare k, params-bare 1 q.params, result-bare q.result, w.0 h.0), r h.1)
    by false ms h r = tt

-- Classes

members-bare : (e : Option Ty) (ts : List Ty) (ms : List Member) → AreSmall (members_written e ts ms) → (AreSmall ms → AreBare ms) →
    HasBareMembers (option_map written e) (members_written e ts ms)
members-bare (Some t) ts ms h r = (written-bare t, refl)
members-bare None ts ms h r = fields 0 ts h
  where
    fields : (k : ℕ) (us : List Ty) → AreSmall (numbered field_written k us ++ ms) → AreBare (numbered field_written k us ++ ms)
    fields k [] g = r g
    fields k (u ∷ us) g = ((field-bare k, written-bare u), fields (suc k) us g.1)

all-drop : {A : Type 0} (P : A → Type 0) (n : ℕ) (xs : List A) → AllByRecursion P xs → AllByRecursion P (drop n xs)
all-drop P zero xs h = h
all-drop P (suc n) [] h = tt
all-drop P (suc n) (x ∷ xs) h = all-drop P n xs h.1

-- the members of a class have small numbers
abbrev IsSmall : Class → Type 0
IsSmall c = All (HoldsInMember HasOwnSmall) c.members

classes-bare : (k : ℕ) (ss : List Shape) (hs : List Head) (bs : List Bodied) → AllByRecursion BareIfSmall bs →
    AllByRecursion IsSmall (classes_written k ss hs bs) → AllByRecursion IsBareClass (classes_written k ss hs bs)
classes-bare k [] hs bs w h = tt
classes-bare k (s ∷ ss) hs bs w h =
    let n = run k hs in
    let own = methods_written k 0 hs bs in (
      record {
        name = class-bare k;
        members = members-bare s.element s.fields own
            (recursion_from_All (HoldsInMember HasOwnSmall) (members_written s.element s.fields own) h.0) (methods-bare k 0 hs bs w);
      },
      classes-bare (suc k) ss (drop n hs) (drop n bs) (all-drop BareIfSmall n bs w) h.1,
    )

-- Programs

tree-bare : (m : Parts) (x : Bodies) → HasSmallNumbers (tree_named m x) → IsBareTree (tree_named m x)
tree-bare m x h =
    let bs = methods_named m.methods x.methods in
    record {
      classes = classes-bare 0 m.classes m.methods bs (named-bare m.methods x.methods)
          (recursion_from_All IsSmall (classes_written 0 m.classes m.methods bs) h.methods);
      body = block-bare false 0 x.main.block h.main;
    }

bare_by : (m : Parts) (o : Option Bodies) (t : Tree) → option_map (tree_named m) o ≡ Some t → HasSmallNumbers t → IsBareTree t
bare_by m None t e h = grind arith
bare_by m (Some x) t e h =
    let same : tree_named m x ≡ t = grind arith in
    subst (λ (u : Tree). HasSmallNumbers u → IsBareTree u) same (tree-bare m x) h

pub told-bare : (m : Parts) (t : Tree) → program_told m ≡ Some t → HasSmallNumbers t → IsBareTree t
told-bare m t e = bare_by m (module_told m) t e
