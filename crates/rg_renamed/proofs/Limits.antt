-- With numbers for names a program has as many parts, names and signs as before, and the same numbers.
use Rattle.std.proofs.Common.{◌≡◌, refl, sym, ap, ◌∙◌, subst, ℕ, suc, ◌+◌, ◌≤◌, Bool as Truth, true, false, List, [], ◌∷◌, ◌++◌, length, map}
use Rattle.std.proofs.Common.{filter_map, All, Option, Some, None, option_map, option_to_list}
use Rattle.std.specs.List.{AllByRecursion}
use Rattle.std.proofs.lemmas.List.Elements.{recursion_from_All, All-from_recursion}
use Rattle.rg_base.specs.declared.limits.TheConstants.{CLASSES, CLASS_FIELDS, CLASS_METHODS, PARAMETERS, BODY_NAMES, STATEMENT_SIGNS}
use Rattle.rg_tree.specs.Tree.{Name, Variable, Expr, number, boolean, nil, path, is_nil, neg, not, binary, size, element, Right, value, new, new_tmp}
use Rattle.rg_tree.specs.Tree.{new_iso, freeze, merge, read, more, result_of, stmt, StmtKind, declare, assign, assign_element, call, swap, branch}
use Rattle.rg_tree.specs.Tree.{while, enter, print, collect, return, Else, no_else, otherwise, Block, empty, then as next, Field, Method}
use Rattle.rg_tree.specs.Tree.{Member, field, method, Class, Tree}
use Rattle.rg_rules.specs.Names.{kind_names, else_names, block_names, HasFewNames, FewNames}
use Rattle.rg_rules.specs.Types.{field_member, method_member}
use Rattle.rg_limits.specs.Parts.{HasFewMembers, HasFewParts}
use Rattle.rg_limits.specs.Each.{right_exprs, own_exprs, HoldsWithin, HoldsBehind, HoldsInBlock, HoldsInMember, HoldsOfEach}
use Rattle.rg_limits.specs.Signs.{expr_signs, exprs_signs, HasFewOwnSigns, HasFewSigns}
use Rattle.rg_limits.specs.Numbers.{HasSmall, HasOwnSmall, HasSmallNumbers}
use Rattle.rg_code.specs.Lowering.{Scope, slot_of, method_scope, scope_behind, scope_inside, scope_at_end}
use Rattle.rg_verify_expressions.specs.Raised.{named}
use Rattle.rg_verify_expressions.specs.Statements as numbers
use Rattle.rg_verify_expressions.specs.Found as found
use Rattle.rg_verify_expressions.specs.Found.{right_named, kind_named, else_named, block_named}
use Rattle.rg_numbered.specs.Numbered.{numbered, numbered_right, numbered_assign, numbered_swap, numbered_enter, giving_slot, numbered_kind}
use Rattle.rg_numbered.specs.Numbered.{numbered_else}
use Rattle.rg_numbered.specs.Numbered.{numbered_block}
use Rattle.rg_renamed.specs.Renamed.{renamed_classes, renamed_method, renamed_field, renamed_from, renamed_members, renamed_class, renamed}
use Rattle.rg_renamed.proofs.Names.{from-long}
use Rattle.rg_renamed.proofs.Numbered.{params-long}
use Rattle.rg_renamed.proofs.Classes.{classes-long, member-fields, member-methods}

module _ (cs : List Class) (m : Truth) where
  -- Names

  assign-names : (ss : Scope) (n : ℕ) (x : Variable) (fs : List Name) (r : numbers.Right) →
      kind_names (kind_named m n (numbered_assign cs ss x fs r)) ≡ 0
  assign-names ss n x [] r = refl
  assign-names ss n x (f ∷ fs) r = refl

  swap-names : (ss : Scope) (n y : ℕ) (x : Variable) (fs : List Name) → kind_names (kind_named m n (numbered_swap cs ss y x fs)) ≡ 0
  swap-names ss n y x [] = refl
  swap-names ss n y x (f ∷ fs) = refl

  enter-names : (ss : Scope) (n : ℕ) (x : Variable) (fs : List Name) (b : numbers.Block) (w : Option ℕ) →
      kind_names (kind_named m n (numbered_enter cs ss x fs b w)) ≡ suc (block_names (block_named m (n + 1) b))
  enter-names ss n x [] b w = refl
  enter-names ss n x (f ∷ fs) b w = refl

  mutual
    kind-names : (ss : Scope) (n : ℕ) (k : StmtKind) → kind_names (kind_named m n (numbered_kind cs ss k)) ≡ kind_names k
    kind-names ss n (declare x t r) = refl
    kind-names ss n (assign p r) = assign-names ss n p.base p.fields (numbered_right cs ss r)
    kind-names ss n (assign_element q e r) = refl
    kind-names ss n (call c) = refl
    kind-names ss n (swap y p) = swap-names ss n (slot_of ss (Some y)) p.base p.fields
    kind-names ss n (branch e b other) =
        ap (λ (i : ℕ). i + else_names (else_named m n (numbered_else cs ss other))) (block-names ss n b)
        ∙ ap (λ (i : ℕ). block_names b + i) (else-names ss n other)
    kind-names ss n (while e b) = block-names ss n b
    kind-names ss n (enter p z b w) =
        let inside = scope_inside cs ss p z in
        enter-names ss n p.base p.fields (numbered_block cs inside b) (giving_slot (scope_at_end cs inside b) w)
        ∙ ap (λ (i : ℕ). suc i) (block-names inside (n + 1) b)
    kind-names ss n (print e) = refl
    kind-names ss n collect = refl
    kind-names ss n (return e) = refl

    else-names : (ss : Scope) (n : ℕ) (o : Else) → else_names (else_named m n (numbered_else cs ss o)) ≡ else_names o
    else-names ss n no_else = refl
    else-names ss n (otherwise b) = block-names ss n b

    pub block-names : (ss : Scope) (n : ℕ) (b : Block) → block_names (block_named m n (numbered_block cs ss b)) ≡ block_names b
    block-names ss n empty = refl
    block-names ss n (next (stmt line k) b) =
        let behind = scope_behind cs ss k in
        let to = found.slots_behind n (numbered_kind cs ss k) in
        ap (λ (i : ℕ). i + block_names (block_named m to (numbered_block cs behind b))) (kind-names ss n k)
        ∙ ap (λ (i : ℕ). kind_names k + i) (block-names behind to b)

  -- Expressions

  abbrev renew : Scope → Expr → Expr
  renew ss e = named m (numbered cs ss e)

  expr-signs : (ss : Scope) (e : Expr) → expr_signs (renew ss e) ≡ expr_signs e
  expr-signs ss (number z) = refl
  expr-signs ss (boolean b) = refl
  expr-signs ss nil = refl
  expr-signs ss (path q) = refl
  expr-signs ss (is_nil q) = refl
  expr-signs ss (neg a) = expr-signs ss a
  expr-signs ss (not a) = expr-signs ss a
  expr-signs ss (binary o a b) =
      ap (λ (i : ℕ). suc (i + expr_signs (renew ss b))) (expr-signs ss a) ∙ ap (λ (i : ℕ). suc (expr_signs a + i)) (expr-signs ss b)
  expr-signs ss (size q) = refl
  expr-signs ss (element q e) = expr-signs ss e

  exprs-signs : (ss : Scope) (es : List Expr) → exprs_signs (map (renew ss) es) ≡ exprs_signs es
  exprs-signs ss [] = refl
  exprs-signs ss (e ∷ es) =
      ap (λ (i : ℕ). i + exprs_signs (map (renew ss) es)) (expr-signs ss e) ∙ ap (λ (i : ℕ). expr_signs e + i) (exprs-signs ss es)

  expr-small : (ss : Scope) (e : Expr) → HasSmall e → HasSmall (renew ss e)
  expr-small ss (number z) h = h
  expr-small ss (boolean b) h = h
  expr-small ss nil h = h
  expr-small ss (path q) h = h
  expr-small ss (is_nil q) h = h
  expr-small ss (neg a) h = expr-small ss a h
  expr-small ss (not a) h = expr-small ss a h
  expr-small ss (binary o a b) h = (expr-small ss a h.0, expr-small ss b h.1)
  expr-small ss (size q) h = h
  expr-small ss (element q e) h = expr-small ss e h

  exprs-small : (ss : Scope) (es : List Expr) → AllByRecursion HasSmall es → AllByRecursion HasSmall (map (renew ss) es)
  exprs-small ss [] h = tt
  exprs-small ss (e ∷ es) h = (expr-small ss e h.0, exprs-small ss es h.1)

  args-renewed : (ss : Scope) (es : List Expr) → map (named m) (map (numbered cs ss) es) ≡ map (renew ss) es
  args-renewed ss [] = refl
  args-renewed ss (e ∷ es) = ap (λ (xs : List Expr). renew ss e ∷ xs) (args-renewed ss es)

  size-renewed : (ss : Scope) (n : Option Expr) →
      option_to_list (option_map (named m) (option_map (numbered cs ss) n)) ≡ map (renew ss) (option_to_list n)
  size-renewed ss None = refl
  size-renewed ss (Some e) = refl

  right-renewed : (ss : Scope) (r : Right) → right_exprs (right_named m (numbered_right cs ss r)) ≡ map (renew ss) (right_exprs r)
  right-renewed ss (value e) = refl
  right-renewed ss (new x n) = size-renewed ss n
  right-renewed ss (new_tmp x n) = size-renewed ss n
  right-renewed ss (new_iso x n manager) = size-renewed ss n
  right-renewed ss (freeze y) = refl
  right-renewed ss (merge y) = refl
  right-renewed ss read = refl
  right-renewed ss more = refl
  right-renewed ss (result_of c) = args-renewed ss c.args

  assign-exprs : (ss : Scope) (n : ℕ) (x : Variable) (fs : List Name) (r : numbers.Right) →
      own_exprs (kind_named m n (numbered_assign cs ss x fs r)) ≡ right_exprs (right_named m r)
  assign-exprs ss n x [] r = refl
  assign-exprs ss n x (f ∷ fs) r = refl

  swap-exprs : (ss : Scope) (n y : ℕ) (x : Variable) (fs : List Name) → own_exprs (kind_named m n (numbered_swap cs ss y x fs)) ≡ []
  swap-exprs ss n y x [] = refl
  swap-exprs ss n y x (f ∷ fs) = refl

  enter-exprs : (ss : Scope) (n : ℕ) (x : Variable) (fs : List Name) (b : numbers.Block) (w : Option ℕ) →
      own_exprs (kind_named m n (numbered_enter cs ss x fs b w)) ≡ []
  enter-exprs ss n x [] b w = refl
  enter-exprs ss n x (f ∷ fs) b w = refl

  own-renewed : (ss : Scope) (n : ℕ) (k : StmtKind) → own_exprs (kind_named m n (numbered_kind cs ss k)) ≡ map (renew ss) (own_exprs k)
  own-renewed ss n (declare x t r) = right-renewed ss r
  own-renewed ss n (assign p r) = assign-exprs ss n p.base p.fields (numbered_right cs ss r) ∙ right-renewed ss r
  own-renewed ss n (assign_element q e r) = ap (λ (es : List Expr). renew ss e ∷ es) (right-renewed ss r)
  own-renewed ss n (call c) = args-renewed ss c.args
  own-renewed ss n (swap y p) = swap-exprs ss n (slot_of ss (Some y)) p.base p.fields
  own-renewed ss n (branch e b other) = refl
  own-renewed ss n (while e b) = refl
  own-renewed ss n (enter p z b w) = enter-exprs ss n p.base p.fields _ _
  own-renewed ss n (print e) = refl
  own-renewed ss n collect = refl
  own-renewed ss n (return e) = refl

  own-signs : (ss : Scope) (n : ℕ) (k : StmtKind) → HasFewOwnSigns k → HasFewOwnSigns (kind_named m n (numbered_kind cs ss k))
  own-signs ss n k h =
      subst (λ (i : ℕ). i ≤ STATEMENT_SIGNS)
      (sym (ap (λ (es : List Expr). exprs_signs es) (own-renewed ss n k) ∙ exprs-signs ss (own_exprs k))) h

  own-small : (ss : Scope) (n : ℕ) (k : StmtKind) → HasOwnSmall k → HasOwnSmall (kind_named m n (numbered_kind cs ss k))
  own-small ss n k h = subst (AllByRecursion HasSmall) (sym (own-renewed ss n k)) (exprs-small ss (own_exprs k) h)

  -- What holds of each statement

  module _ (P : StmtKind → Type 0) (keeps : (ss : Scope) (n : ℕ) (k : StmtKind) → P k → P (kind_named m n (numbered_kind cs ss k))) where
    assign-holds : (ss : Scope) (n : ℕ) (x : Variable) (fs : List Name) (r : numbers.Right) →
        HoldsWithin P (kind_named m n (numbered_assign cs ss x fs r))
    assign-holds ss n x [] r = tt
    assign-holds ss n x (f ∷ fs) r = tt

    swap-holds : (ss : Scope) (n y : ℕ) (x : Variable) (fs : List Name) → HoldsWithin P (kind_named m n (numbered_swap cs ss y x fs))
    swap-holds ss n y x [] = tt
    swap-holds ss n y x (f ∷ fs) = tt

    enter-holds : (ss : Scope) (n : ℕ) (x : Variable) (fs : List Name) (b : numbers.Block) (w : Option ℕ) →
        HoldsInBlock P (block_named m (n + 1) b) → HoldsWithin P (kind_named m n (numbered_enter cs ss x fs b w))
    enter-holds ss n x [] b w h = h
    enter-holds ss n x (f ∷ fs) b w h = h

    mutual
      kind-holds : (ss : Scope) (n : ℕ) (k : StmtKind) → HoldsWithin P k → HoldsWithin P (kind_named m n (numbered_kind cs ss k))
      kind-holds ss n (declare x t r) h = tt
      kind-holds ss n (assign p r) h = assign-holds ss n p.base p.fields (numbered_right cs ss r)
      kind-holds ss n (assign_element q e r) h = tt
      kind-holds ss n (call c) h = tt
      kind-holds ss n (swap y p) h = swap-holds ss n (slot_of ss (Some y)) p.base p.fields
      kind-holds ss n (branch e b other) h = (block-holds ss n b h.0, else-holds ss n other h.1)
      kind-holds ss n (while e b) h = block-holds ss n b h
      kind-holds ss n (enter p z b w) h = enter-holds ss n p.base p.fields _ _ (block-holds (scope_inside cs ss p z) (n + 1) b h)
      kind-holds ss n (print e) h = tt
      kind-holds ss n collect h = tt
      kind-holds ss n (return e) h = tt

      else-holds : (ss : Scope) (n : ℕ) (o : Else) → HoldsBehind P o → HoldsBehind P (else_named m n (numbered_else cs ss o))
      else-holds ss n no_else h = tt
      else-holds ss n (otherwise b) h = block-holds ss n b h

      pub block-holds : (ss : Scope) (n : ℕ) (b : Block) → HoldsInBlock P b → HoldsInBlock P (block_named m n (numbered_block cs ss b))
      block-holds ss n empty h = tt
      block-holds ss n (next (stmt line k) b) h =
          ((keeps ss n k h.0.0, kind-holds ss n k h.0.1), block-holds (scope_behind cs ss k) (found.slots_behind n (numbered_kind cs ss k)) b h.1)

-- Members of classes

module _ (cs : List Class) where
  -- what holds of members
  module _ (P : Member → Type 0) (of-field : (k : ℕ) (f : Field) → P (field f) → P (field (renamed_field cs k f)))
      (of-method : (c k : ℕ) (m : Method) → P (method m) → P (method (renamed_method cs c k m))) where
    methods-hold : (c k : ℕ) (ms : List Member) → AllByRecursion P ms →
        AllByRecursion P (renamed_from (λ j m. method (renamed_method cs c j m)) k (filter_map method_member ms))
    methods-hold c k [] h = tt
    methods-hold c k (field f ∷ ms) h = methods-hold c k ms h.1
    methods-hold c k (method m ∷ ms) h = (of-method c k m h.0, methods-hold c (suc k) ms h.1)

    fields-hold : (k : ℕ) (ms rest : List Member) → AllByRecursion P ms → AllByRecursion P rest →
        AllByRecursion P (renamed_from (λ j f. field (renamed_field cs j f)) k (filter_map field_member ms) ++ rest)
    fields-hold k [] rest h g = g
    fields-hold k (field f ∷ ms) rest h g = (of-field k f h.0, fields-hold (suc k) ms rest h.1 g)
    fields-hold k (method m ∷ ms) rest h g = fields-hold k ms rest h.1 g

    members-hold : (c : ℕ) (ms : List Member) → All P ms → All P (renamed_members cs c ms)
    members-hold c ms h =
        let r = recursion_from_All P ms h in
        All-from_recursion P (renamed_members cs c ms)
        (fields-hold 0 ms (renamed_from (λ j m. method (renamed_method cs c j m)) 0 (filter_map method_member ms)) r (methods-hold c 0 ms r))

    abbrev OfClass : Class → Type 0
    OfClass d = All P d.members

    classes-from : (c : ℕ) (ds : List Class) → AllByRecursion OfClass ds → AllByRecursion OfClass (renamed_from (renamed_class cs) c ds)
    classes-from c [] h = tt
    classes-from c (d ∷ ds) h = (members-hold c d.members h.0, classes-from (suc c) ds h.1)

    classes-hold : All OfClass cs → All OfClass (renamed_classes cs)
    classes-hold h = All-from_recursion OfClass (renamed_classes cs) (classes-from 0 cs (recursion_from_All OfClass cs h))

  few-again : (c k : ℕ) (m : Method) → HasFewNames (method m) → HasFewNames (method (renamed_method cs c k m))
  few-again c k m h =
      subst (λ (n : ℕ). n ≤ BODY_NAMES)
      (sym (ap (λ (n : ℕ). suc n + block_names (renamed_method cs c k m).body) (params-long cs 1 m.params)
      ∙ ap (λ (n : ℕ). suc (length m.params) + n) (block-names cs true (method_scope cs c m) (length (method_scope cs c m)) m.body))) h

  -- parts

  few-params : (c k : ℕ) (ms : List Method) → AllByRecursion (λ (m : Method). length m.params ≤ PARAMETERS) ms →
      AllByRecursion (λ (m : Method). length m.params ≤ PARAMETERS) (renamed_from (renamed_method cs c) k ms)
  few-params c k [] h = tt
  few-params c k (m ∷ ms) h =
      (subst (λ (n : ℕ). n ≤ PARAMETERS) (sym (params-long cs 1 m.params)) h.0, few-params c (suc k) ms h.1)

  few-members : (c : ℕ) (d : Class) → HasFewMembers d → HasFewMembers (renamed_class cs c d)
  few-members c d h = record {
    fields = subst (λ (n : ℕ). n ≤ CLASS_FIELDS)
        (sym (ap (λ (fs : List Field). length fs) (member-fields cs c d.members)
        ∙ from-long (renamed_field cs) 0 (filter_map field_member d.members))) h.fields;
    methods = subst (λ (n : ℕ). n ≤ CLASS_METHODS)
        (sym (ap (λ (ms : List Method). length ms) (member-methods cs c d.members)
        ∙ from-long (renamed_method cs c) 0 (filter_map method_member d.members))) h.methods;
    params = subst (AllByRecursion (λ (m : Method). length m.params ≤ PARAMETERS)) (sym (member-methods cs c d.members))
        (few-params c 0 (filter_map method_member d.members) h.params);
  }

  few-classes : (c : ℕ) (ds : List Class) → AllByRecursion HasFewMembers ds → AllByRecursion HasFewMembers (renamed_from (renamed_class cs) c ds)
  few-classes c [] h = tt
  few-classes c (d ∷ ds) h = (few-members c d h.0, few-classes (suc c) ds h.1)

-- Programs

pub parts-again : (t : Tree) → HasFewParts t → HasFewParts (renamed t)
parts-again t h = record {
  classes = subst (λ (n : ℕ). n ≤ CLASSES) (sym (classes-long t.classes)) h.classes;
  members = few-classes t.classes 0 t.classes h.members;
}

pub names-again : (t : Tree) → FewNames t → FewNames (renamed t)
names-again t h = record {
  methods = classes-hold t.classes HasFewNames (λ k f q. q) (few-again t.classes) h.methods;
  main = subst (λ (n : ℕ). n ≤ BODY_NAMES) (sym (block-names t.classes false [] 0 t.body)) h.main;
}

each-again : (P : StmtKind → Type 0) (t : Tree) →
    ((m : Truth) (ss : Scope) (n : ℕ) (k : StmtKind) → P k → P (kind_named m n (numbered_kind t.classes ss k))) →
    HoldsOfEach P t → HoldsOfEach P (renamed t)
each-again P t keeps h = record {
  methods = classes-hold t.classes (HoldsInMember P) (λ k f q. q)
      (λ c k m q. block-holds t.classes true P (keeps true) (method_scope t.classes c m) (length (method_scope t.classes c m)) m.body q) h.methods;
  main = block-holds t.classes false P (keeps false) [] 0 t.body h.main;
}

pub signs-again : (t : Tree) → HasFewSigns t → HasFewSigns (renamed t)
signs-again t h = each-again HasFewOwnSigns t (λ m ss n k q. own-signs t.classes m ss n k q) h

pub small-again : (t : Tree) → HasSmallNumbers t → HasSmallNumbers (renamed t)
small-again t h = each-again HasOwnSmall t (λ m ss n k q. own-small t.classes m ss n k q) h
