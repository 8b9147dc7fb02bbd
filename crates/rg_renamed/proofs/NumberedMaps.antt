-- The maps of a body are those of its block with numbers, whatever names it has; and those of a block with names that are found.
use Rattle.std.proofs.Common.{◌≡◌, refl, sym, ap, ◌∙◌, ℕ, suc, ◌+◌, Bool as Truth, false, true, List, [], ◌∷◌, ◌++◌, map, length, Option, Some, None}
use Rattle.std.proofs.lemmas.List.{length-append, length-map, map-append}
use Rattle.rg_base.specs.declared.words.Cap.TheVariants as cap
use Rattle.rg_base.specs.declared.ty.Ty.{Ty}
use Rattle.rg_base.specs.declared.ty.Ty.TheVariants as ty
use Rattle.rg_tree.specs.Tree as tree
use Rattle.rg_tree.specs.Tree.{Name, Variable, Path, stmt, StmtKind, declare, assign, assign_element, call, swap, branch, while, enter, print}
use Rattle.rg_tree.specs.Tree.{collect}
use Rattle.rg_tree.specs.Tree.{return, Else, no_else, otherwise, Block, empty, then as next, Class}
use Rattle.rg_rules.specs.Types.{type_of}
use Rattle.rg_code.specs.Lowering.{Scope, Slot, with_slot, slot_of, scope_behind, scope_inside, scope_at_end, class_of, type_in, type_along}
use Rattle.rg_build.specs.Maps.{types_in, end_maps, inner_maps, else_maps, block_maps}
use Rattle.rg_verify_expressions.specs.Naming.{variable_name, written}
use Rattle.rg_verify_expressions.specs.Raised.{path_named}
use Rattle.rg_verify_expressions.specs.Statements as numbers
use Rattle.rg_verify_expressions.specs.Statements.{types_behind, types_inside}
use Rattle.rg_verify_expressions.specs.Found as found
use Rattle.rg_verify_expressions.specs.Found.{kind_named, else_named, block_named, IsEntryFound, IsKindFound, IsElseFound, IsBlockFound}
use Rattle.rg_numbered.specs.Numbered.{numbered_right, numbered_assign, numbered_swap, numbered_enter, bridge_class, giving_slot, numbered_kind}
use Rattle.rg_numbered.specs.Numbered.{numbered_else, numbered_block}
use Rattle.rg_renamed.proofs.NumberedCode.{behind-types}

-- the map of a mark at the end of a block, if one stands there
abbrev ending_maps : (marked : Truth) → List Ty → List (List Ty)
ending_maps false ts = []
ending_maps true ts = ts ∷ []

-- The maps of blocks with numbers
abbrev mutual
  kind_maps : List Ty → numbers.Kind → List (List Ty)
  kind_maps ts (numbers.declare t r) = []
  kind_maps ts (numbers.assign s r) = []
  kind_maps ts (numbers.write s ks k r) = []
  kind_maps ts (numbers.write_element s ks e r) = []
  kind_maps ts (numbers.call c) = []
  kind_maps ts (numbers.swap y s ks k) = []
  kind_maps ts (numbers.branch e b other) = maps_in true ts b ++ behind_maps ts other
  kind_maps ts (numbers.while e b) = maps_in true ts b
  kind_maps ts (numbers.enter s c b w) = maps_in true (types_inside ts c) b
  kind_maps ts (numbers.enter_field s ks k c b w) = maps_in true (types_inside ts c) b
  kind_maps ts (numbers.print e) = []
  kind_maps ts numbers.collect = []
  kind_maps ts (numbers.return e) = []

  behind_maps : List Ty → numbers.Else → List (List Ty)
  behind_maps ts numbers.no_else = []
  behind_maps ts (numbers.otherwise b) = maps_in true ts b

  pub maps_in : (marked : Truth) → List Ty → numbers.Block → List (List Ty)
  maps_in marked ts numbers.empty = ending_maps marked ts
  maps_in marked ts (numbers.next line k b) = ts ∷ (kind_maps ts k ++ maps_in marked (types_behind ts k) b)

more-types : (ss : Scope) (x : Variable) (t : Ty) → types_in (with_slot ss x t) ≡ types_in ss ++ t ∷ []
more-types ss x t = map-append (λ (s : Slot). s.ty) ss (record { name = x; ty = t } ∷ [])

end-is : (marked : Truth) (ss : Scope) → end_maps marked ss ≡ ending_maps marked (types_in ss)
end-is false ss = refl
end-is true ss = refl

-- Of bodies

module _ (cs : List Class) where
  assign-maps : (ss : Scope) (ts : List Ty) (x : Variable) (fs : List Name) (r : numbers.Right) → [] ≡ kind_maps ts (numbered_assign cs ss x fs r)
  assign-maps ss ts x [] r = refl
  assign-maps ss ts x (f ∷ fs) r = refl

  swap-maps : (ss : Scope) (ts : List Ty) (y : ℕ) (x : Variable) (fs : List Name) → [] ≡ kind_maps ts (numbered_swap cs ss y x fs)
  swap-maps ss ts y x [] = refl
  swap-maps ss ts y x (f ∷ fs) = refl

  enter-maps : (ss : Scope) (ts : List Ty) (x : Variable) (fs : List Name) (b : numbers.Block) (w : Option ℕ) →
      maps_in true (types_inside ts (bridge_class cs ss x fs)) b ≡ kind_maps ts (numbered_enter cs ss x fs b w)
  enter-maps ss ts x [] b w = refl
  enter-maps ss ts x (f ∷ fs) b w = refl

  mutual
    kind-is : (ss : Scope) (k : StmtKind) → inner_maps cs ss k ≡ kind_maps (types_in ss) (numbered_kind cs ss k)
    kind-is ss (declare x t r) = refl
    kind-is ss (assign p r) = assign-maps ss (types_in ss) p.base p.fields (numbered_right cs ss r)
    kind-is ss (assign_element q e r) = refl
    kind-is ss (call c) = refl
    kind-is ss (swap y p) = swap-maps ss (types_in ss) (slot_of ss (Some y)) p.base p.fields
    kind-is ss (branch e b other) =
        ap (λ (ms : List (List Ty)). ms ++ else_maps cs ss other) (block-is true ss b)
        ∙ ap (λ (ms : List (List Ty)). maps_in true (types_in ss) (numbered_block cs ss b) ++ ms) (else-is ss other)
    kind-is ss (while e b) = block-is true ss b
    kind-is ss (enter p z b w) =
        let inside = scope_inside cs ss p z in
        block-is true inside b
        ∙ ap (λ (ts : List Ty). maps_in true ts (numbered_block cs inside b))
        (more-types ss (Some z) (ty.Ref cap.Mut (bridge_class cs ss p.base p.fields)))
        ∙ enter-maps ss (types_in ss) p.base p.fields (numbered_block cs inside b) (giving_slot (scope_at_end cs inside b) w)
    kind-is ss (print e) = refl
    kind-is ss collect = refl
    kind-is ss (return e) = refl

    else-is : (ss : Scope) (o : Else) → else_maps cs ss o ≡ behind_maps (types_in ss) (numbered_else cs ss o)
    else-is ss no_else = refl
    else-is ss (otherwise b) = block-is true ss b

    pub block-is : (marked : Truth) (ss : Scope) (b : Block) → block_maps cs marked ss b ≡ maps_in marked (types_in ss) (numbered_block cs ss b)
    block-is marked ss empty = end-is marked ss
    block-is marked ss (next (stmt line k) b) =
        let behind = scope_behind cs ss k in
        let inner = numbered_block cs behind b in
        ap (λ (ms : List (List Ty)). types_in ss ∷ (ms ++ block_maps cs marked behind b)) (kind-is ss k)
        ∙ ap (λ (ms : List (List Ty)). types_in ss ∷ (kind_maps (types_in ss) (numbered_kind cs ss k) ++ ms)) (block-is marked behind b)
        ∙ ap (λ (ts : List Ty). types_in ss ∷ (kind_maps (types_in ss) (numbered_kind cs ss k) ++ maps_in marked ts inner)) (behind-types cs ss k)

-- Of blocks with names that are found

module _ (cs : List Class) (m : Truth) where
  named-behind : (k : numbers.Kind) (ss : Scope) → IsKindFound cs ss m k →
      types_in (scope_behind cs ss (kind_named m (length ss) k)) ≡ types_behind (types_in ss) k
  named-behind (numbers.declare t r) ss (e, h) =
      more-types ss (Some (variable_name (length ss))) (type_of cs (written t)) ∙ ap (λ (u : Ty). types_in ss ++ u ∷ []) e
  named-behind (numbers.assign s r) ss h = refl
  named-behind (numbers.write s ks k r) ss h = refl
  named-behind (numbers.write_element s ks e r) ss h = refl
  named-behind (numbers.call c) ss h = refl
  named-behind (numbers.swap y s ks k) ss h = refl
  named-behind (numbers.branch e b other) ss h = refl
  named-behind (numbers.while e b) ss h = refl
  named-behind (numbers.enter s c b w) ss h = refl
  named-behind (numbers.enter_field s ks k c b w) ss h = refl
  named-behind (numbers.print e) ss h = refl
  named-behind numbers.collect ss h = refl
  named-behind (numbers.return e) ss h = refl

  slots-behind : (k : numbers.Kind) (ss : Scope) → length (scope_behind cs ss (kind_named m (length ss) k)) ≡ found.slots_behind (length ss) k
  slots-behind (numbers.declare t r) ss = length-append ss (record { name = Some (variable_name (length ss)); ty = type_of cs (written t) } ∷ [])
  slots-behind (numbers.assign s r) ss = refl
  slots-behind (numbers.write s ks k r) ss = refl
  slots-behind (numbers.write_element s ks e r) ss = refl
  slots-behind (numbers.call c) ss = refl
  slots-behind (numbers.swap y s ks k) ss = refl
  slots-behind (numbers.branch e b other) ss = refl
  slots-behind (numbers.while e b) ss = refl
  slots-behind (numbers.enter s c b w) ss = refl
  slots-behind (numbers.enter_field s ks k c b w) ss = refl
  slots-behind (numbers.print e) ss = refl
  slots-behind numbers.collect ss = refl
  slots-behind (numbers.return e) ss = refl

  -- in front of the block of an `enter`
  named-inside : (ss : Scope) (s : ℕ) (ks : List ℕ) (c : ℕ) → IsEntryFound cs ss m s ks c →
      types_in (scope_inside cs ss (path_named m s ks) (variable_name (length ss))) ≡ types_inside (types_in ss) c
  named-inside ss s ks c h =
      let p = path_named m s ks in
      more-types ss (Some (variable_name (length ss))) (ty.Ref cap.Mut (class_of cs (type_along cs (type_in ss p.base) p.fields)))
      ∙ ap (λ (d : ℕ). types_in ss ++ ty.Ref cap.Mut d ∷ []) h.class

  inside-slots : (ss : Scope) (s : ℕ) (ks : List ℕ) →
      length (scope_inside cs ss (path_named m s ks) (variable_name (length ss))) ≡ length ss + 1
  inside-slots ss s ks =
      let p = path_named m s ks in
      length-append ss (record {
        name = Some (variable_name (length ss));
        ty = ty.Ref cap.Mut (class_of cs (type_along cs (type_in ss p.base) p.fields));
      } ∷ [])

  -- `enter`, from what is said of its block
  inside-named : (ss : Scope) (s : ℕ) (ks : List ℕ) (c : ℕ) (b : numbers.Block) → IsEntryFound cs ss m s ks c →
      (let inside = scope_inside cs ss (path_named m s ks) (variable_name (length ss)) in
      block_maps cs true inside (block_named m (length inside) b) ≡ maps_in true (types_in inside) b) →
      block_maps cs true (scope_inside cs ss (path_named m s ks) (variable_name (length ss))) (block_named m (length ss + 1) b)
      ≡ maps_in true (types_inside (types_in ss) c) b
  inside-named ss s ks c b f r =
      let inside = scope_inside cs ss (path_named m s ks) (variable_name (length ss)) in
      ap (λ (n : ℕ). block_maps cs true inside (block_named m n b)) (sym (inside-slots ss s ks)) ∙ r
      ∙ ap (λ (ts : List Ty). maps_in true ts b) (named-inside ss s ks c f)

  mutual
    kind-named : (k : numbers.Kind) (ss : Scope) → IsKindFound cs ss m k →
        inner_maps cs ss (kind_named m (length ss) k) ≡ kind_maps (types_in ss) k
    kind-named (numbers.declare t r) ss h = refl
    kind-named (numbers.assign s r) ss h = refl
    kind-named (numbers.write s ks k r) ss h = refl
    kind-named (numbers.write_element s ks e r) ss h = refl
    kind-named (numbers.call c) ss h = refl
    kind-named (numbers.swap y s ks k) ss h = refl
    kind-named (numbers.branch e b other) ss (f, g, h) =
        ap (λ (ms : List (List Ty)). ms ++ else_maps cs ss (else_named m (length ss) other)) (block-named true b ss g)
        ∙ ap (λ (ms : List (List Ty)). maps_in true (types_in ss) b ++ ms) (else-named other ss h)
    kind-named (numbers.while e b) ss (f, g) = block-named true b ss g
    kind-named (numbers.enter s c b w) ss (f, g, h) =
        inside-named ss s [] c b f (block-named true b (scope_inside cs ss (path_named m s []) (variable_name (length ss))) g)
    kind-named (numbers.enter_field s ks k c b w) ss (f, g, h) =
        inside-named ss s (ks ++ k ∷ []) c b f
        (block-named true b (scope_inside cs ss (path_named m s (ks ++ k ∷ [])) (variable_name (length ss))) g)
    kind-named (numbers.print e) ss h = refl
    kind-named numbers.collect ss h = refl
    kind-named (numbers.return e) ss h = refl

    else-named : (o : numbers.Else) (ss : Scope) → IsElseFound cs ss m o → else_maps cs ss (else_named m (length ss) o) ≡ behind_maps (types_in ss) o
    else-named numbers.no_else ss h = refl
    else-named (numbers.otherwise b) ss h = block-named true b ss h

    pub block-named : (marked : Truth) (b : numbers.Block) (ss : Scope) → IsBlockFound cs ss m b →
        block_maps cs marked ss (block_named m (length ss) b) ≡ maps_in marked (types_in ss) b
    block-named marked numbers.empty ss h = end-is marked ss
    block-named marked (numbers.next line k b) ss (f, g) =
        let behind = scope_behind cs ss (kind_named m (length ss) k) in
        ap (λ (ms : List (List Ty)). types_in ss ∷ (ms ++ block_maps cs marked behind (block_named m (found.slots_behind (length ss) k) b)))
        (kind-named k ss f)
        ∙ ap (λ (n : ℕ). types_in ss ∷ (kind_maps (types_in ss) k ++ block_maps cs marked behind (block_named m n b))) (sym (slots-behind k ss))
        ∙ ap (λ (ms : List (List Ty)). types_in ss ∷ (kind_maps (types_in ss) k ++ ms)) (block-named marked b behind g)
        ∙ ap (λ (ts : List Ty). types_in ss ∷ (kind_maps (types_in ss) k ++ maps_in marked ts b)) (named-behind k ss f)
