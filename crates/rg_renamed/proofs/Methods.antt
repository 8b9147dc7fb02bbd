-- A method that has no fault has none again with numbers for names, and its code and its maps are the same.
use Rattle.std.proofs.Common.{◌≡◌, refl, sym, ap, ◌∙◌, subst, ℕ, suc, ◌+◌, ◌<◌, ◌^◌, Bool as Truth, true, false, List, [], ◌∷◌, ◌++◌, length, Option}
use Rattle.std.proofs.Common.{Some}
use Rattle.std.proofs.Common.{None, option_map, Ok, arith}
use Rattle.rg_base.specs.declared.ty.Ty.{Ty}
use Rattle.rg_base.specs.declared.fault.Code.TheVariants.{Return}
use Rattle.rg_tree.specs.Tree.{Name, Variable, Ty as Written, stmt, StmtKind, declare, assign, assign_element, call, swap, branch, while, enter}
use Rattle.rg_tree.specs.Tree.{print}
use Rattle.rg_tree.specs.Tree.{collect, return, Block, empty, then as next, Method, Class}
use Rattle.rg_rules.specs.Answers.{◌>>◌, test, at_line}
use Rattle.rg_rules.specs.Names.{block_names, method_names}
use Rattle.rg_rules.specs.Types.{method_result}
use Rattle.rg_rules.specs.Headers.{param_headers}
use Rattle.rg_rules.specs.Environment.{Env}
use Rattle.rg_rules.specs.Statements.{judge_block}
use Rattle.rg_rules.specs.Bodies.{method_env, method_body, judge_body, is_return, last_is_return, ends_in_return, gives_result, judge_method}
use Rattle.rg_code.specs.declared.op.Op.{Op}
use Rattle.rg_code.specs.Lowering.{Scope, slot_of, method_scope, block_code, method_end_code, method_code, scope_behind}
use Rattle.rg_build.specs.Maps.{types_in, block_maps, is_end_marked, method_maps}
use Rattle.rg_verify_expressions.specs.Statements as numbers
use Rattle.rg_verify_expressions.specs.Statements.{block_ops}
use Rattle.rg_verify_expressions.specs.Found as found
use Rattle.rg_verify_expressions.specs.Found.{kind_named, block_named, types_of, BlocksHaveTheirCode}
use Rattle.rg_numbered.specs.Numbered.{numbered_right, numbered_assign, numbered_swap, numbered_enter, numbered_kind, numbered_block}
use Rattle.rg_renamed.specs.Renamed.{renamed_classes, renamed_type, renamed_block, renamed_params, renamed_method, renamed_from}
use Rattle.rg_renamed.proofs.Numbered.{method-slots}
use Rattle.rg_renamed.proofs.NumberedCode.{block-code}
use Rattle.rg_renamed.proofs.NumberedMaps.{maps_in, block-is, block-named}
use Rattle.rg_renamed.proofs.Classes.{AreFew, result-again}
use Rattle.rg_renamed.proofs.Scopes.{slot_again, scope_again, env_again, Scoped}
use Rattle.rg_renamed.proofs.Behind.{scope-long}
use Rattle.rg_renamed.proofs.Blocks.{block-follows}
use Rattle.rg_renamed.proofs.BlocksFound.{block-swaps, block-found}
use Rattle.rg_renamed.proofs.Parameters.{method-scoped, method-scope-again, method-env-again}

-- What a block ends in

assign-end : (cs : List Class) (ss : Scope) (m : Truth) (n : ℕ) (x : Variable) (fs : List Name) (r : numbers.Right) →
    is_return (kind_named m n (numbered_assign cs ss x fs r)) ≡ false
assign-end cs ss m n x [] r = refl
assign-end cs ss m n x (f ∷ fs) r = refl

swap-end : (cs : List Class) (ss : Scope) (m : Truth) (n y : ℕ) (x : Variable) (fs : List Name) →
    is_return (kind_named m n (numbered_swap cs ss y x fs)) ≡ false
swap-end cs ss m n y x [] = refl
swap-end cs ss m n y x (f ∷ fs) = refl

enter-end : (cs : List Class) (ss : Scope) (m : Truth) (n : ℕ) (x : Variable) (fs : List Name) (b : numbers.Block) (w : Option ℕ) →
    is_return (kind_named m n (numbered_enter cs ss x fs b w)) ≡ false
enter-end cs ss m n x [] b w = refl
enter-end cs ss m n x (f ∷ fs) b w = refl

kind-end : (cs : List Class) (ss : Scope) (m : Truth) (n : ℕ) (k : StmtKind) → is_return (kind_named m n (numbered_kind cs ss k)) ≡ is_return k
kind-end cs ss m n (declare x t r) = refl
kind-end cs ss m n (assign p r) = assign-end cs ss m n p.base p.fields (numbered_right cs ss r)
kind-end cs ss m n (assign_element q e r) = refl
kind-end cs ss m n (call c) = refl
kind-end cs ss m n (swap y p) = swap-end cs ss m n (slot_of ss (Some y)) p.base p.fields
kind-end cs ss m n (branch e b other) = refl
kind-end cs ss m n (while e b) = refl
kind-end cs ss m n (enter p z b w) = enter-end cs ss m n p.base p.fields _ _
kind-end cs ss m n (print e) = refl
kind-end cs ss m n collect = refl
kind-end cs ss m n (return e) = refl

last-end : (cs : List Class) (ts ss : Scope) (m : Truth) (i n : ℕ) (k : StmtKind) (b : Block) →
    last_is_return (kind_named m i (numbered_kind cs ts k)) (block_named m n (numbered_block cs ss b)) ≡ last_is_return k b
last-end cs ts ss m i n k empty = kind-end cs ts m i k
last-end cs ts ss m i n k (next (stmt line j) b) =
    last-end cs ss (scope_behind cs ss j) m n (found.slots_behind n (numbered_kind cs ss j)) j b

block-end : (cs : List Class) (ss : Scope) (m : Truth) (n : ℕ) (b : Block) →
    ends_in_return (block_named m n (numbered_block cs ss b)) ≡ ends_in_return b
block-end cs ss m n empty = refl
block-end cs ss m n (next (stmt line k) b) =
    last-end cs ss (scope_behind cs ss k) m n (found.slots_behind n (numbered_kind cs ss k)) k b

gives-again : (cs : List Class) (ss : Scope) (m : Truth) (r : Option Written) (b : Block) →
    gives_result (option_map (renamed_type cs) r) (renamed_block cs ss m b) ≡ gives_result r b
gives-again cs ss m None b = refl
gives-again cs ss m (Some t) b = block-end cs ss m (length ss) b

end-code : (cs : List Class) (line : ℕ) (r : Option Written) → method_end_code line (option_map (renamed_type cs) r) ≡ method_end_code line r
end-code cs line None = refl
end-code cs line (Some t) = refl

end-marked : (cs : List Class) (r : Option Written) → is_end_marked (option_map (renamed_type cs) r) ≡ is_end_marked r
end-marked cs None = refl
end-marked cs (Some t) = refl

types-from : (m : Truth) (k : ℕ) (ss : Scope) → types_of (renamed_from (slot_again m) k ss) ≡ types_of ss
types-from m k [] = refl
types-from m k (s ∷ ss) = ap (λ (ts : List Ty). s.ty ∷ ts) (types-from m (suc k) ss)

-- a method without a fault
pub record MethodFine (cs : List Class) (c : ℕ) (m : Method) : Type 0 where
  pub params : param_headers cs [] m.params ≡ Ok tt
  pub out : Env
  pub body : judge_body cs (method_body cs c m) ≡ Ok out
  pub gives : gives_result m.result m.body ≡ true
  pub room : method_names m < 2 ^ 64

module _ (cs : List Class) (few : AreFew cs) where
  abbrev again : List Class
  again = renamed_classes cs

  -- the code and the maps of a body
  module _ (m : Truth) (result : Option Ty) (env out : Env) (ss : Scope) (b : Block) (s : Scoped m env ss) (l : length ss + block_names b < 2 ^ 64)
      (h : judge_block cs result env b ≡ Ok out) where
    abbrev numbers_are : numbers.Block
    numbers_are = numbered_block cs ss b

    pub code-again : BlocksHaveTheirCode → (at : ℕ) → block_code again (scope_again m ss) at (renamed_block cs ss m b) ≡ block_code cs ss at b
    code-again law at =
        ap (λ (n : ℕ). block_code again (scope_again m ss) at (block_named m n numbers_are)) (sym (scope-long m ss))
        ∙ law again (scope_again m ss) m at numbers_are (block-found cs few m result env out ss b s l h)
        ∙ ap (λ (ts : List Ty). block_ops ts at numbers_are) (types-from m 0 ss)
        ∙ sym (block-code cs ss b at (block-swaps cs result env out b h))

    pub maps-again : (marked : Truth) → block_maps again marked (scope_again m ss) (renamed_block cs ss m b) ≡ block_maps cs marked ss b
    maps-again marked =
        ap (λ (n : ℕ). block_maps again marked (scope_again m ss) (block_named m n numbers_are)) (sym (scope-long m ss))
        ∙ block-named again m marked numbers_are (scope_again m ss) (block-found cs few m result env out ss b s l h)
        ∙ ap (λ (ts : List Ty). maps_in marked ts numbers_are) (types-from m 0 ss)
        ∙ sym (block-is cs marked ss b)

  module _ (c k : ℕ) (m : Method) (f : MethodFine cs c m) where
    abbrev renewed : Method
    renewed = renamed_method cs c k m

    abbrev scope : Scope
    scope = method_scope cs c m

    scoped : Scoped true (method_env cs c m) scope
    scoped = let r = f.room in method-scoped cs c m f.params (omega (arith, r))

    room : length scope + block_names m.body < 2 ^ 64
    room = subst (λ (n : ℕ). n + block_names m.body < 2 ^ 64) (sym (method-slots cs c m)) f.room

    pub method-fine : judge_method again c renewed ≡ Ok tt
    method-fine =
        let body' = renamed_block cs scope true m.body in
        let body : judge_body again (method_body again c renewed) ≡ Ok (env_again true f.out) =
        ap (λ (r : Option Ty). judge_block again r (method_env again c renewed) body') (result-again cs few m.result)
        ∙ ap (λ (e : Env). judge_block again (method_result cs m) e body') (method-env-again cs few c k m)
        ∙ (block-follows cs few true (method_result cs m) (method_env cs c m) scope m.body scoped room).ok f.out f.body in
        ap (λ q. ◌>>◌ q (at_line m.line (test (gives_result renewed.result body') Return))) body
        ∙ ap (λ (b : Truth). at_line m.line (test b Return)) (gives-again cs scope true m.result m.body ∙ f.gives)

    pub method-code-again : BlocksHaveTheirCode → (at : ℕ) → method_code again at c renewed ≡ method_code cs at c m
    method-code-again law at =
        let body' = renamed_block cs scope true m.body in
        ap (λ (ss : Scope). block_code again ss at body' ++ method_end_code m.line renewed.result) (method-scope-again cs few c k m)
        ∙ ap (λ (os : List Op). os ++ method_end_code m.line renewed.result)
        (code-again true (method_result cs m) (method_env cs c m) f.out scope m.body scoped room f.body law at)
        ∙ ap (λ (os : List Op). block_code cs scope at m.body ++ os) (end-code cs m.line m.result)

    pub method-maps-again : method_maps again c renewed ≡ method_maps cs c m
    method-maps-again =
        let body' = renamed_block cs scope true m.body in
        ap (λ (ss : Scope). block_maps again (is_end_marked renewed.result) ss body') (method-scope-again cs few c k m)
        ∙ ap (λ (b : Truth). block_maps again b (scope_again true scope) body') (end-marked cs m.result)
        ∙ maps-again true (method_result cs m) (method_env cs c m) f.out scope m.body scoped room f.body (is_end_marked m.result)
