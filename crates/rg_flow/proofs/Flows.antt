-- Variables with the states that a flow has.
use Rattle.std.proofs.Common.{◌≡◌, ℕ, zero, suc, ◌+◌, ◌<◌, ◌≤◌, Bool, true, false, List, [], ◌∷◌, ◌++◌, length, take, slice_get, map, Option, None}
use Rattle.std.proofs.Common.{Some, option_map, if◌then◌else◌, refl, sym, ap, subst, ◌∙◌, arith}
use Rattle.rg_rules.specs.Environment.{Readiness, ready, gone, lent, joined_readiness}
use Rattle.rg_flow.specs.declared.flow.Flow.{Flow}
use Rattle.rg_flow.specs.Flows.{state_of}
use Rattle.rg_flow.specs.Scope.{Slot, same_name, marked_slot}
use Rattle.rg_flow.specs.States.{state_at, slot_of, restated_from, joined_from}
use Rattle.rg_flow.specs.Inner.Layout.{slots_from, place_in, names_at, ready_slot}
use Rattle.rg_flow.specs.declared.env.var.Var.{Var}

-- how many variables there are
pub length-slots_from : (flow : Flow) (vars : List Var) (k : ℕ) → length (slots_from flow k vars) ≡ length vars
length-slots_from flow [] k = refl
length-slots_from flow (v ∷ vs) k = ap suc (length-slots_from flow vs (suc k))

-- only the states at the places of the variables count
pub slots_from-ext : (f g : Flow) (vars : List Var) (k : ℕ) → ((i : ℕ) → k ≤ i → i < k + length vars → state_of f i ≡ state_of g i) →
    slots_from f k vars ≡ slots_from g k vars
slots_from-ext f g [] k h = refl
slots_from-ext f g (v ∷ vs) k h =
    ap (λ r. record { name = v.name; ty = v.ty; depth = v.depth; readiness = r; assignable = v.assignable } ∷ slots_from f (suc k) vs)
    (h k (omega arith) (omega arith))
    ∙ ap (λ (ss : List Slot). record { name = v.name; ty = v.ty; depth = v.depth; readiness = state_of g k; assignable = v.assignable } ∷ ss)
    (slots_from-ext f g vs (suc k) (λ i l m. h i (omega arith) (omega arith)))

-- one more variable
pub slots_from-push : (flow : Flow) (vars : List Var) (v : Var) (k : ℕ) → state_of flow (k + length vars) ≡ ready →
    slots_from flow k (vars ++ v ∷ []) ≡ slots_from flow k vars ++ ready_slot v ∷ []
slots_from-push flow [] v k h =
    let e : k + 0 ≡ k = omega arith in
    ap (λ r. record { name = v.name; ty = v.ty; depth = v.depth; readiness = r; assignable = v.assignable } ∷ [])
    (subst (λ i. state_of flow i ≡ ready) e h)
slots_from-push flow (u ∷ vs) v k h =
    let e : k + suc (length vs) ≡ suc k + length vs = omega arith in
    ap (λ (ss : List Slot). record { name = u.name; ty = u.ty; depth = u.depth; readiness = state_of flow k; assignable = u.assignable } ∷ ss)
    (slots_from-push flow vs v (suc k) (subst (λ i. state_of flow i ≡ ready) e h))

-- the first variables
pub slots_from-take : (flow : Flow) (vars : List Var) (n k : ℕ) → slots_from flow k (take n vars) ≡ take n (slots_from flow k vars)
slots_from-take flow [] zero k = refl
slots_from-take flow [] (suc n) k = refl
slots_from-take flow (v ∷ vs) zero k = refl
slots_from-take flow (v ∷ vs) (suc n) k =
    ap (λ (ss : List Slot). record { name = v.name; ty = v.ty; depth = v.depth; readiness = state_of flow k; assignable = v.assignable } ∷ ss)
    (slots_from-take flow vs n (suc k))

-- the state of each place
pub state_at-slots_from : (flow : Flow) (vars : List Var) (k : ℕ) → ((i : ℕ) → k + length vars ≤ i → state_of flow i ≡ gone) → (i : ℕ) →
    state_of flow (k + i) ≡ state_at (slots_from flow k vars) i
state_at-slots_from flow [] k h i = h (k + i) (omega arith)
state_at-slots_from flow (v ∷ vs) k h zero = let e : k + 0 ≡ k = omega arith in ap (state_of flow) e
state_at-slots_from flow (v ∷ vs) k h (suc i) =
    let e : k + suc i ≡ suc k + i = omega arith in
    ap (state_of flow) e ∙ state_at-slots_from flow vs (suc k) (λ j l. h j (omega arith)) i

-- the variables of a name are in another state
pub slots_from-named : (f g : Flow) (name : Option ℕ) (now : Readiness) (vars : List Var) (k : ℕ) →
    ((i : ℕ) → state_of g (k + i) ≡ (if names_at name vars i then now else state_of f (k + i))) →
    slots_from g k vars ≡ map (marked_slot name now) (slots_from f k vars)
slots_from-named f g name now [] k h = refl
slots_from-named f g name now (v ∷ vs) k h =
    let e : k + 0 ≡ k = omega arith in
    let here = subst (λ i. state_of g i ≡ (if same_name v.name name then now else state_of f i)) e (h 0) in
    let rest = slots_from-named f g name now vs (suc k)
    (λ i. let s : k + suc i ≡ suc k + i = omega arith in subst (λ j. state_of g j ≡ (if names_at name vs i then now else state_of f j)) s
    (h (suc i))) in
    by (same_name v.name name) here rest
  where
    by : (b : Bool) → state_of g k ≡ (if b then now else state_of f k) →
        slots_from g (suc k) vs ≡ map (marked_slot name now) (slots_from f (suc k) vs) →
        slots_from g k (v ∷ vs)
        ≡ (if b then record { name = v.name; ty = v.ty; depth = v.depth; readiness = now; assignable = v.assignable } else record
        { name = v.name; ty = v.ty; depth = v.depth; readiness = state_of f k; assignable = v.assignable })
        ∷ map (marked_slot name now) (slots_from f (suc k) vs)
    by true e r = (λ i. record { name = v.name; ty = v.ty; depth = v.depth; readiness = e i; assignable = v.assignable } ∷ r i)
    by false e r = (λ i. record { name = v.name; ty = v.ty; depth = v.depth; readiness = e i; assignable = v.assignable } ∷ r i)

-- past the variables none has a name
pub names_at-past : (name : Option ℕ) (vars : List Var) (w : ℕ) → length vars ≤ w → names_at name vars w ≡ false
names_at-past name [] w l = refl
names_at-past name (v ∷ vs) zero l = absurd (omega arith)
names_at-past name (v ∷ vs) (suc w) l = names_at-past name vs w (omega arith)

-- the variable at a place has a name
pub names_at-is : (name : Option ℕ) (vars : List Var) (k : ℕ) (v : Var) → slice_get vars k ≡ Some v → names_at name vars k ≡ same_name v.name name
names_at-is name [] k v h = cc
names_at-is name (u ∷ vs) zero v h = let e : u ≡ v = cc in ap (λ (x : Var). same_name x.name name) e
names_at-is name (u ∷ vs) (suc k) v h = names_at-is name vs k v h

-- the first variable of a name
pub slot_of-place : (flow : Flow) (name : Option ℕ) (vars : List Var) (k i : ℕ) (v : Var) → place_in name vars ≡ Some i → slice_get vars i ≡ Some v →
    slot_of name (slots_from flow k vars) ≡ Some
    (record { name = v.name; ty = v.ty; depth = v.depth; readiness = state_of flow (k + i); assignable = v.assignable })
slot_of-place flow name [] k i v h is = cc
slot_of-place flow name (u ∷ vs) k i v h is = by (same_name u.name name) h (λ j. slot_of-place flow name vs (suc k) j v)
  where
    on : (o : Option ℕ) → place_in name vs ≡ o → option_map suc o ≡ Some i →
        ((j : ℕ) → place_in name vs ≡ Some j → slice_get vs j ≡ Some v →
        slot_of name (slots_from flow (suc k) vs)
        ≡ Some (record { name = v.name; ty = v.ty; depth = v.depth; readiness = state_of flow (suc k + j); assignable = v.assignable })) →
        slot_of name (slots_from flow (suc k) vs)
        ≡ Some (record { name = v.name; ty = v.ty; depth = v.depth; readiness = state_of flow (k + i); assignable = v.assignable })
    on None e h rest = cc
    on (Some j) e h rest =
        let s : suc j ≡ i = cc in
        let n : suc k + j ≡ k + i = omega arith in
        rest j e (subst (λ x. slice_get (u ∷ vs) x ≡ Some v) (sym s) is)
        ∙ ap (λ x. Some (record { name = v.name; ty = v.ty; depth = v.depth; readiness = state_of flow x; assignable = v.assignable })) n

    by : (b : Bool) → (if b then Some 0 else option_map suc (place_in name vs)) ≡ Some i →
        ((j : ℕ) → place_in name vs ≡ Some j → slice_get vs j ≡ Some v →
        slot_of name (slots_from flow (suc k) vs)
        ≡ Some (record { name = v.name; ty = v.ty; depth = v.depth; readiness = state_of flow (suc k + j); assignable = v.assignable })) →
        (if b then Some (record { name = u.name; ty = u.ty; depth = u.depth; readiness = state_of flow k; assignable = u.assignable }) else slot_of
        name (slots_from flow (suc k) vs))
        ≡ Some (record { name = v.name; ty = v.ty; depth = v.depth; readiness = state_of flow (k + i); assignable = v.assignable })
    by true h rest =
        let z : 0 ≡ i = cc in
        let e : u ≡ v = (let r : slice_get (u ∷ vs) 0 ≡ Some v = subst (λ x. slice_get (u ∷ vs) x ≡ Some v) (sym z) is in cc) in
        let n : k ≡ k + i = omega arith in
        (λ j. Some (record { name = (e j).name; ty = (e j).ty; depth = (e j).depth; readiness = state_of flow (n j); assignable = (e j).assignable }))
    by false h rest = on (place_in name vs) refl h rest

-- no variable of a name
pub slot_of-none : (flow : Flow) (name : Option ℕ) (vars : List Var) (k : ℕ) → place_in name vars ≡ None →
    slot_of name (slots_from flow k vars) ≡ None
slot_of-none flow name [] k h = refl
slot_of-none flow name (u ∷ vs) k h = by (same_name u.name name) h (slot_of-none flow name vs (suc k))
  where
    on : (o : Option ℕ) → place_in name vs ≡ o → option_map suc o ≡ None →
        (place_in name vs ≡ None → slot_of name (slots_from flow (suc k) vs) ≡ None) →
        slot_of name (slots_from flow (suc k) vs) ≡ None
    on None e h rest = rest e
    on (Some j) e h rest = cc

    by : (b : Bool) → (if b then Some 0 else option_map suc (place_in name vs)) ≡ None →
        (place_in name vs ≡ None → slot_of name (slots_from flow (suc k) vs) ≡ None) →
        (if b then Some (record { name = u.name; ty = u.ty; depth = u.depth; readiness = state_of flow k; assignable = u.assignable }) else slot_of
        name (slots_from flow (suc k) vs)) ≡ None
    by true h rest = cc
    by false h rest = on (place_in name vs) refl h rest

-- the same variables with another flow
pub slots_from-restated : (f g : Flow) (vars : List Var) (k : ℕ) → slots_from g k vars ≡ restated_from g k (slots_from f k vars)
slots_from-restated f g [] k = refl
slots_from-restated f g (v ∷ vs) k =
    ap (λ (ss : List Slot). record { name = v.name; ty = v.ty; depth = v.depth; readiness = state_of g k; assignable = v.assignable } ∷ ss)
    (slots_from-restated f g vs (suc k))

-- two flows are joined
pub slots_from-joined : (f g both : Flow) → ((w : ℕ) → state_of both w ≡ joined_readiness (state_of f w) (state_of g w)) → (vars : List Var) (k : ℕ) →
    slots_from both k vars ≡ joined_from f k (slots_from g k vars)
slots_from-joined f g both h [] k = refl
slots_from-joined f g both h (v ∷ vs) k = (λ i.
    record { name = v.name; ty = v.ty; depth = v.depth; readiness = h k i; assignable = v.assignable } ∷ slots_from-joined f g both h vs (suc k) i)

joined-gone : (r : Readiness) → joined_readiness r gone ≡ gone
joined-gone ready = refl
joined-gone gone = refl
joined-gone lent = refl

-- past the variables all stays gone
pub joined-past : (f g both : Flow) (n : ℕ) → ((w : ℕ) → state_of both w ≡ joined_readiness (state_of f w) (state_of g w)) →
    ((k : ℕ) → n ≤ k → state_of g k ≡ gone) →
    (k : ℕ) → n ≤ k → state_of both k ≡ gone
joined-past f g both n h past k l = h k ∙ ap (joined_readiness (state_of f k)) (past k l) ∙ joined-gone (state_of f k)
