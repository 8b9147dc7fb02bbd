-- The maps of a body are those of its block with numbers.
use Rattle.std.proofs.Common.{◌≡◌, refl, sym, ap, ◌∙◌, ℕ, Bool as Truth, true, false, List, [], ◌∷◌, ◌++◌, Option}
use Rattle.std.proofs.lemmas.List.{map-append}
use Rattle.rg_base.specs.declared.ty.Ty.{Ty}
use Rattle.rg_tree.specs.Tree as tree
use Rattle.rg_tree.specs.Tree.{Name, Variable, Path, stmt, Class}
use Rattle.rg_code.specs.Lowering.{Slot, Scope, scope_behind, scope_inside, scope_at_end}
use Rattle.rg_build.specs.Maps.{end_maps, inner_maps, else_maps, block_maps}
use Rattle.rg_verify_expressions.specs.Statements.{Right, Kind, declare, assign, write, write_element, call, swap, branch, while, enter, enter_field, print}
use Rattle.rg_verify_expressions.specs.Statements.{collect, return, Else, no_else, otherwise, Block, empty, next, types_behind, types_inside}
use Rattle.rg_verify_expressions.specs.Found.{types_of}
use Rattle.rg_numbered.specs.Numbered.{numbered_right, numbered_assign, numbered_swap, bridge_class, numbered_enter, giving_slot, numbered_kind}
use Rattle.rg_numbered.specs.Numbered.{numbered_else, numbered_block}

abbrev pub end_types : (marked : Truth) → (types : List Ty) → List (List Ty)
end_types false types = []
end_types true types = types ∷ []

abbrev mutual
  pub inner_types : (types : List Ty) → Kind → List (List Ty)
  inner_types types (declare t r) = []
  inner_types types (assign s r) = []
  inner_types types (write s ks k r) = []
  inner_types types (write_element s ks e r) = []
  inner_types types (call c) = []
  inner_types types (swap y s ks k) = []
  inner_types types (branch e b other) = block_types true types b ++ else_types types other
  inner_types types (while e b) = block_types true types b
  inner_types types (enter s c b w) = block_types true (types_inside types c) b
  inner_types types (enter_field s ks k c b w) = block_types true (types_inside types c) b
  inner_types types (print e) = []
  inner_types types collect = []
  inner_types types (return e) = []

  pub else_types : (types : List Ty) → Else → List (List Ty)
  else_types types no_else = []
  else_types types (otherwise b) = block_types true types b

  pub block_types : (marked : Truth) → (types : List Ty) → Block → List (List Ty)
  block_types marked types empty = end_types marked types
  block_types marked types (next line k b) = types ∷ (inner_types types k ++ block_types marked (types_behind types k) b)

more-types : (ss : Scope) (s : Slot) → types_of (ss ++ s ∷ []) ≡ types_of ss ++ s.ty ∷ []
more-types ss s = map-append (λ (q : Slot). q.ty) ss (s ∷ [])

assign-types : (cs : List Class) (ss : Scope) (types : List Ty) (x : Variable) (fs : List Name) (r : Right) →
    (types_behind types (numbered_assign cs ss x fs r) ≡ types) × (inner_types types (numbered_assign cs ss x fs r) ≡ [])
assign-types cs ss types x [] r = (refl, refl)
assign-types cs ss types x (f ∷ fs) r = (refl, refl)

swap-types : (cs : List Class) (ss : Scope) (types : List Ty) (y : ℕ) (x : Variable) (fs : List Name) →
    (types_behind types (numbered_swap cs ss y x fs) ≡ types) × (inner_types types (numbered_swap cs ss y x fs) ≡ [])
swap-types cs ss types y x [] = (refl, refl)
swap-types cs ss types y x (f ∷ fs) = (refl, refl)

enter-types : (cs : List Class) (ss : Scope) (types : List Ty) (x : Variable) (fs : List Name) (b : Block) (w : Option ℕ) →
    (types_behind types (numbered_enter cs ss x fs b w) ≡ types)
    × (inner_types types (numbered_enter cs ss x fs b w) ≡ block_types true (types_inside types (bridge_class cs ss x fs)) b)
enter-types cs ss types x [] b w = (refl, refl)
enter-types cs ss types x (f ∷ fs) b w = (refl, refl)

pub inside-types : (cs : List Class) (ss : Scope) (p : Path) (z : Name) →
    types_of (scope_inside cs ss p z) ≡ types_inside (types_of ss) (bridge_class cs ss p.base p.fields)
inside-types cs ss p z = more-types ss _

pub behind-types : (cs : List Class) (ss : Scope) (k : tree.StmtKind) →
    types_of (scope_behind cs ss k) ≡ types_behind (types_of ss) (numbered_kind cs ss k)
behind-types cs ss (tree.declare x t r) = more-types ss _
behind-types cs ss (tree.assign p r) = sym (assign-types cs ss (types_of ss) p.base p.fields (numbered_right cs ss r)).0
behind-types cs ss (tree.assign_element q e r) = refl
behind-types cs ss (tree.call c) = refl
behind-types cs ss (tree.swap y p) = sym (swap-types cs ss (types_of ss) _ p.base p.fields).0
behind-types cs ss (tree.branch e b other) = refl
behind-types cs ss (tree.while e b) = refl
behind-types cs ss (tree.enter p z b giving) = sym (enter-types cs ss (types_of ss) p.base p.fields _ _).0
behind-types cs ss (tree.print e) = refl
behind-types cs ss tree.collect = refl
behind-types cs ss (tree.return e) = refl

end-same : (marked : Truth) (ss : Scope) → end_maps marked ss ≡ end_types marked (types_of ss)
end-same true ss = refl
end-same false ss = refl

mutual
  inner-same : (cs : List Class) (ss : Scope) (k : tree.StmtKind) → inner_maps cs ss k ≡ inner_types (types_of ss) (numbered_kind cs ss k)
  inner-same cs ss (tree.declare x t r) = refl
  inner-same cs ss (tree.assign p r) = sym (assign-types cs ss (types_of ss) p.base p.fields (numbered_right cs ss r)).1
  inner-same cs ss (tree.assign_element q e r) = refl
  inner-same cs ss (tree.call c) = refl
  inner-same cs ss (tree.swap y p) = sym (swap-types cs ss (types_of ss) _ p.base p.fields).1
  inner-same cs ss (tree.branch e b other) =
      ap (λ (q : List (List Ty)). q ++ else_maps cs ss other) (same-maps cs true ss b)
      ∙ ap (λ (q : List (List Ty)). block_types true (types_of ss) (numbered_block cs ss b) ++ q) (else-same cs ss other)
  inner-same cs ss (tree.while e b) = same-maps cs true ss b
  inner-same cs ss (tree.enter p z b giving) =
      let inside = scope_inside cs ss p z in
      same-maps cs true inside b ∙ ap (λ (q : List Ty). block_types true q (numbered_block cs inside b)) (inside-types cs ss p z)
      ∙ sym (enter-types cs ss (types_of ss) p.base p.fields (numbered_block cs inside b) (giving_slot (scope_at_end cs inside b) giving)).1
  inner-same cs ss (tree.print e) = refl
  inner-same cs ss tree.collect = refl
  inner-same cs ss (tree.return e) = refl

  else-same : (cs : List Class) (ss : Scope) (o : tree.Else) → else_maps cs ss o ≡ else_types (types_of ss) (numbered_else cs ss o)
  else-same cs ss tree.no_else = refl
  else-same cs ss (tree.otherwise b) = same-maps cs true ss b

  pub same-maps : (cs : List Class) (marked : Truth) (ss : Scope) (b : tree.Block) →
      block_maps cs marked ss b ≡ block_types marked (types_of ss) (numbered_block cs ss b)
  same-maps cs marked ss tree.empty = end-same marked ss
  same-maps cs marked ss (tree.then (stmt line k) b) =
      let behind = scope_behind cs ss k in
      let types = types_of ss in
      ap (λ (q : List (List Ty)). types ∷ (q ++ block_maps cs marked behind b)) (inner-same cs ss k)
      ∙ ap (λ (q : List (List Ty)). types ∷ (inner_types types (numbered_kind cs ss k) ++ q)) (same-maps cs marked behind b
      ∙ ap (λ (q : List Ty). block_types marked q (numbered_block cs behind b)) (behind-types cs ss k))
