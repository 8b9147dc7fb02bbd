-- Blocks with names have the code of those with numbers.
use Rattle.std.proofs.Common.{◌≡◌, ℕ, ◌+◌, Bool as Truth, List, [], ◌∷◌, ◌++◌, map, length, Option, Some, None, refl, sym, ap, ◌∙◌, option_map}
use Rattle.std.proofs.Common.{append_assoc, arith}
use Rattle.std.proofs.lemmas.List.{length-append, length-map, map-append}
use Rattle.rg_base.specs.declared.words.Cap.TheVariants as cap
use Rattle.rg_base.specs.declared.ty.Ty.{Ty}
use Rattle.rg_base.specs.declared.ty.Ty.TheVariants as ty
use Rattle.rg_tree.specs.Tree.{Name, Variable, Class}
use Rattle.rg_rules.specs.Types.{type_of}
use Rattle.rg_code.specs.declared.op.Op.{Op}
use Rattle.rg_code.specs.declared.op.Op.TheVariants as i
use Rattle.rg_code.specs.Lowering.{slot_of, holder_code, held_number, Scope, Slot, with_slot, scope_behind, scope_inside, assign_code, swap_code}
use Rattle.rg_code.specs.Lowering.{enter_code, kind_code, else_code, block_code}
use Rattle.rg_code.specs.Lowering.{pace_code, right_code, dropped_code, call_result, else_gap as gap_behind, path_code, expr_code, scope_at_end}
use Rattle.rg_code.specs.Lowering.{assign_element_code, leave_op as leaves}
use Rattle.rg_verify_expressions.specs.Naming.{variable_name, field_name, variable_in, written}
use Rattle.rg_verify_expressions.specs.Raised.{Raised, path_named, named, path_ops, holder_ops, place_ops, ops_of, IsPathFound, IsFound}
use Rattle.rg_verify_expressions.specs.Statements.{Right, Kind, declare, assign, write, write_element, call, swap, branch, while, enter, enter_field, print}
use Rattle.rg_verify_expressions.specs.Statements.{collect, return}
use Rattle.rg_verify_expressions.specs.Statements.{Else, no_else, otherwise, Block, empty, next, types_behind, types_inside, whole_ops, call_ops}
use Rattle.rg_verify_expressions.specs.Statements.{right_ops, pace_ops, leave_op, else_gap, kind_ops, else_ops, block_ops}
use Rattle.rg_verify_expressions.specs.Found.{call_named, right_named, slots_behind, kind_named, else_named, block_named, IsEntryFound, IsKindFound, IsElseFound}
use Rattle.rg_verify_expressions.specs.Found.{IsSlotFound, IsRightFound, IsGivingFound, IsBlockFound, types_of, BlocksHaveTheirCode}
use Rattle.rg_verify_expressions.proofs.Named.{path-named, code-named}
use Rattle.rg_verify_expressions.proofs.NamedParts.{ending, holder-named, held-named, whole-named, assign-named, call-named, right-named, pace-named}

-- one variable more
more-types : (scope : Scope) (x : Variable) (t : Ty) → types_of (with_slot scope x t) ≡ types_of scope ++ t ∷ []
more-types scope x t = map-append (λ (s : Slot). s.ty) scope (record { name = x; ty = t } ∷ [])

more-slots : (scope : Scope) (x : Variable) (t : Ty) → length (with_slot scope x t) ≡ length scope + 1
more-slots scope x t = length-append scope (record { name = x; ty = t } ∷ [])

types-long : (scope : Scope) → length (types_of scope) ≡ length scope
types-long scope = length-map scope (λ (s : Slot). s.ty)

module _ (classes : List Class) (m : Truth) where
  -- the types and the number of variables behind a statement
  behind-types : (k : Kind) (scope : Scope) → IsKindFound classes scope m k
      → types_of (scope_behind classes scope (kind_named m (length scope) k)) ≡ types_behind (types_of scope) k
  behind-types (declare t r) scope (e, h) =
      more-types scope (Some (variable_name (length scope))) (type_of classes (written t)) ∙ ap (λ (u : Ty). types_of scope ++ u ∷ []) e
  behind-types (write s ks k r) scope h = refl
  behind-types (enter_field s ks k c b w) scope h = refl
  behind-types _ scope h = refl

  behind-slots : (k : Kind) (scope : Scope)
      → length (scope_behind classes scope (kind_named m (length scope) k)) ≡ slots_behind (length scope) k
  behind-slots (declare t r) scope = more-slots scope (Some (variable_name (length scope))) (type_of classes (written t))
  behind-slots (write s ks k r) scope = refl
  behind-slots (enter_field s ks k c b w) scope = refl
  behind-slots _ scope = refl

  -- those in front of the block of an `enter`
  inside-types : (scope : Scope) (s : ℕ) (ks : List ℕ) (c : ℕ) → IsEntryFound classes scope m s ks c
      → types_of (scope_inside classes scope (path_named m s ks) (variable_name (length scope))) ≡ types_inside (types_of scope) c
  inside-types scope s ks c h = rw (more-types scope (Some (variable_name (length scope))) (ty.Ref cap.Mut _), h.class) refl

  inside-slots : (scope : Scope) (s : ℕ) (ks : List ℕ)
      → length (scope_inside classes scope (path_named m s ks) (variable_name (length scope))) ≡ length scope + 1
  inside-slots scope s ks = more-slots scope (Some (variable_name (length scope))) (ty.Ref cap.Mut _)

  -- how far the code goes on where the test of an `if` fails
  gap-named : (n : ℕ) (other : Else) → gap_behind (else_named m n other) ≡ else_gap other
  gap-named n no_else = refl
  gap-named n (otherwise b) = refl

  -- how a window is left
  leave-named : (scope : Scope) (n : ℕ) (w : Option ℕ) → IsGivingFound scope w → leaves scope n (option_map variable_name w) ≡ leave_op n w
  leave-named scope n None h = refl
  leave-named scope n (Some w) h = ap (λ (s : ℕ). i.LeaveGiving s n) h

  -- an element is written
  element-written : (scope : Scope) (s : ℕ) (ks : List ℕ) (e : Raised) (r : Right) (at : ℕ) → IsPathFound classes scope m s ks
      → IsFound classes scope m e → IsRightFound classes scope m r
      → assign_element_code classes scope at (path_named m s ks) (named m e) (right_named m r)
      ≡ place_ops at s ks e ++ (right_ops (types_of scope) (at + length (place_ops at s ks e)) r ++ i.PutElement ∷ pace_ops r)
  element-written scope s ks e r at f g h =
      let right : ℕ → List Op = λ n. right_code classes scope n (right_named m r) in
      let index : ℕ → List Op = λ n. expr_code classes scope n (named m e) in
      let pace = pace_code (right_named m r) in
      let array = holder_ops s ks in
      let bound = ops_of (at + length array) e ++ i.Bound ∷ [] in
      let whole : List Op → List Op → List Op → List Op =
      λ q x p. q ++ (x ++ (right (at + length q + length x) ++ i.PutElement ∷ p)) in
      let there : at + length array + length bound ≡ at + length (array ++ bound) = omega (arith, length-append array bound) in
      ap (λ (os : List Op). whole (os ++ i.Check ∷ []) (index (at + length (os ++ i.Check ∷ [])) ++ i.Bound ∷ []) pace)
      (path-named classes scope m s ks f)
      ∙ ap (λ (os : List Op). whole array (os ++ i.Bound ∷ []) pace) (code-named classes scope m e (at + length array) g)
      ∙ ap (λ (os : List Op). whole array bound os) (pace-named classes scope m r)
      ∙ ap (λ (os : List Op). array ++ (bound ++ (os ++ i.PutElement ∷ pace_ops r)))
      (right-named classes scope m r (at + length array + length bound) h)
      ∙ ap (λ (n : ℕ). array ++ (bound ++ (right_ops (types_of scope) n r ++ i.PutElement ∷ pace_ops r))) there
      ∙ sym (append_assoc array bound (right_ops (types_of scope) (at + length (array ++ bound)) r ++ i.PutElement ∷ pace_ops r))

  -- What has a last field: `q.f = r`, `swap y, q.f`, `enter q.f as z`

  module _ (scope : Scope) (s : ℕ) (ks : List ℕ) (k : ℕ) (h : IsPathFound classes scope m s (ks ++ k ∷ [])) where
    -- code made of the walk to the object of the last field and of its number
    last-named : (made : List Op → ℕ → List Op) (code : List Name → List Op)
        → ((f : Name) (fs : List Name)
        → code (f ∷ fs) ≡ made (holder_code classes scope (variable_in m s) f fs) (held_number classes scope (variable_in m s) f fs))
        → code (map field_name (ks ++ k ∷ [])) ≡ made (path_ops s ks) k
    last-named made code is =
        let e = ending ks k in
        ap code e.same ∙ is e.first e.more
        ∙ ap (λ (os : List Op). made os (held_number classes scope (variable_in m s) e.first e.more)) (holder-named classes scope m s ks k h)
        ∙ ap (λ (n : ℕ). made (path_ops s ks) n) (held-named classes scope m s ks k h)

    write-named : (at : ℕ) (r : Right) → IsRightFound classes scope m r
        → assign_code classes scope at (variable_in m s) (map field_name (ks ++ k ∷ [])) (right_named m r)
        ≡ holder_ops s ks ++ (right_ops (types_of scope) (at + length (holder_ops s ks)) r ++ i.Put k ∷ pace_ops r)
    write-named at r g =
        let right : ℕ → List Op = λ n. right_code classes scope n (right_named m r) in
        let pace = pace_code (right_named m r) in
        let holder = holder_ops s ks in
        let inside = at + length holder in
        let made : List Op → ℕ → List Op = λ q n. (q ++ i.Check ∷ []) ++ (right (at + length (q ++ i.Check ∷ [])) ++ i.Put n ∷ pace) in
        last-named made (λ (fs : List Name). assign_code classes scope at (variable_in m s) fs (right_named m r)) (λ f fs. refl)
        ∙ ap (λ (os : List Op). holder ++ (os ++ i.Put k ∷ pace)) (right-named classes scope m r inside g)
        ∙ ap (λ (os : List Op). holder ++ (right_ops (types_of scope) inside r ++ i.Put k ∷ os)) (pace-named classes scope m r)

    swap-named : (y : ℕ) → IsSlotFound scope y
        → swap_code classes scope (variable_name y) (variable_in m s) (map field_name (ks ++ k ∷ [])) ≡ path_ops s ks ++ i.Check ∷ i.Swap y k ∷ []
    swap-named y e =
        last-named (λ q n. q ++ i.Check ∷ i.Swap (slot_of scope (Some (variable_name y))) n ∷ [])
        (λ (fs : List Name). swap_code classes scope (variable_name y) (variable_in m s) fs) (λ f fs. refl)
        ∙ ap (λ (n : ℕ). path_ops s ks ++ i.Check ∷ i.Swap n k ∷ []) e

    enter-named : enter_code classes scope (variable_in m s) (map field_name (ks ++ k ∷ []))
        ≡ path_ops s ks ++ i.EnterField k (length (types_of scope)) ∷ []
    enter-named =
        last-named (λ q n. q ++ i.EnterField n (length scope) ∷ []) (λ (fs : List Name). enter_code classes scope (variable_in m s) fs) (λ f fs. refl)
        ∙ ap (λ (n : ℕ). path_ops s ks ++ i.EnterField k n ∷ []) (sym (types-long scope))

  mutual
    kind-named : (k : Kind) (scope : Scope) (at line : ℕ) → IsKindFound classes scope m k
        → kind_code classes scope at line (kind_named m (length scope) k) ≡ kind_ops (types_of scope) at line k
    kind-named (declare t r) scope at line (e, h) =
        rw (right-named classes scope m r (at + 1) h, pace-named classes scope m r, types-long scope) refl
    kind-named (assign s r) scope at line (h, g) =
        rw (right-named classes scope m r (at + 1) g, pace-named classes scope m r, assign-named classes scope m s h.0) refl
    kind-named (write s ks k r) scope at line h = ap (λ (os : List Op). i.Mark line ∷ os) (write-named scope s ks k h.0 (at + 1) r h.1)
    kind-named (write_element s ks e r) scope at line (f, g, h) =
        ap (λ (os : List Op). i.Mark line ∷ os) (element-written scope s ks e r (at + 1) f g h)
    kind-named (call c) scope at line h =
        ap (λ (os : List Op). i.Mark line ∷ os ++ dropped_code (call_result classes scope (call_named m c))) (call-named classes scope m c (at + 1) h)
        ∙ ap (λ (t : Option Ty). i.Mark line ∷ call_ops (types_of scope) (at + 1) c ++ dropped_code t) h.result
    kind-named (swap y s ks k) scope at line h = ap (λ (os : List Op). i.Mark line ∷ os) (swap-named scope s ks k h.1 y h.0)
    kind-named (branch e b other) scope at line (f, g, h) =
        let types = types_of scope in
        let inside = at + 1 + length (whole_ops types (at + 1) e) + 1 in
        rw (whole-named classes scope m e (at + 1) f) (rw (block-named b scope inside g) (rw (
          gap-named (length scope) other,
          else-named other scope (inside + length (block_ops types inside b) + 2) line h,
          types-long scope,
        ) refl))
    kind-named (while e b) scope at line (f, g) =
        let types = types_of scope in
        let inside = at + 1 + length (whole_ops types (at + 1) e) + 1 in
        rw (whole-named classes scope m e (at + 1) f) (rw (block-named b scope inside g, types-long scope) refl)
    kind-named (enter s c b w) scope at line (f, g, h) =
        let p = path_named m s [] in
        let inner = scope_inside classes scope p (variable_name (length scope)) in
        rw (
          ← inside-slots scope s [],
          leave-named (scope_at_end classes inner (block_named m (length inner) b)) (length scope) w h,
          block-named b inner (at + 1 + 1) g,
          inside-types scope s [] c f,
          f.path.0,
          types-long scope,
        ) refl
    kind-named (enter_field s ks k c b w) scope at line (f, g, h) =
        let inner = scope_inside classes scope (path_named m s (ks ++ k ∷ [])) (variable_name (length scope)) in
        let entered = enter_code classes scope (variable_in m s) (map field_name (ks ++ k ∷ [])) in
        let giving = option_map variable_name w in
        let n = length scope in
        let end : ℕ → List Op = λ z. i.Mark line ∷ leave_op z w ∷ [] in
        let ends : ℕ → List Op = λ z. i.Mark line ∷ leaves (scope_at_end classes inner (block_named m z b)) n giving ∷ [] in
        let whole : List Op → ℕ → List Op =
        λ front z. i.Mark line ∷ (front ++ (block_code classes inner (at + 1 + length front) (block_named m z b) ++ ends z)) in
        let front = path_ops s ks ++ i.EnterField k (length (types_of scope)) ∷ [] in
        let inside = at + 1 + length front in
        ap (λ (n : ℕ). whole entered n) (sym (inside-slots scope s (ks ++ k ∷ [])))
        ∙ ap (λ (os : List Op). whole os (length inner)) (enter-named scope s ks k f.path)
        ∙ ap (λ (o : Op). i.Mark line ∷ (front ++ (block_code classes inner inside (block_named m (length inner) b) ++ i.Mark line ∷ o ∷ [])))
        (leave-named (scope_at_end classes inner (block_named m (length inner) b)) n w h)
        ∙ ap (λ (os : List Op). i.Mark line ∷ (front ++ (os ++ end n))) (block-named b inner inside g)
        ∙ ap (λ (ts : List Ty). i.Mark line ∷ (front ++ (block_ops ts inside b ++ end n))) (inside-types scope s (ks ++ k ∷ []) c f)
        ∙ ap (λ (z : ℕ). i.Mark line ∷ (front ++ (block_ops (types_inside (types_of scope) c) inside b ++ end z))) (sym (types-long scope))
    kind-named (print e) scope at line h = ap (λ (os : List Op). i.Mark line ∷ os ++ i.Print ∷ []) (whole-named classes scope m e (at + 1) h)
    kind-named collect scope at line h = refl
    kind-named (return e) scope at line h = ap (λ (os : List Op). i.Mark line ∷ os ++ i.Ret ∷ []) (whole-named classes scope m e (at + 1) h)

    else-named : (other : Else) (scope : Scope) (at line : ℕ) → IsElseFound classes scope m other
        → else_code classes scope at line (else_named m (length scope) other) ≡ else_ops (types_of scope) at line other
    else-named no_else scope at line h = refl
    else-named (otherwise b) scope at line h = rw (block-named b scope (at + 1) h, types-long scope) refl

    block-named : (b : Block) (scope : Scope) (at : ℕ) → IsBlockFound classes scope m b
        → block_code classes scope at (block_named m (length scope) b) ≡ block_ops (types_of scope) at b
    block-named empty scope at h = refl
    block-named (next line k b) scope at (f, g) =
        let first = kind_ops (types_of scope) at line k in
        let behind = scope_behind classes scope (kind_named m (length scope) k) in
        rw (
          kind-named k scope at line f,
          ← behind-slots k scope,
          block-named b behind (at + length first) g,
          behind-types k scope f,
        ) refl

pub blocks-have-their-code : BlocksHaveTheirCode
blocks-have-their-code classes scope m at b h = block-named classes m b scope at h
