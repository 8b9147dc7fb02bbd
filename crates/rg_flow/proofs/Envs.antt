-- What the visible variables keep, as each call leaves them.
use Rattle.std.proofs.Common.{◌≡◌, ℕ, ◌+◌, ◌<◌, ◌≤◌, Bool, true, false, not, ◌&&◌, ◌⊎◌, inl, inr, List, [], ◌∷◌, ◌++◌, length, take, Option, None}
use Rattle.std.proofs.Common.{Some, nat_eq, nat_lt, IsTrue, ◌↔◌, if◌then◌else◌, refl, sym, ap, subst, ◌∙◌, arith}
use Rattle.std.proofs.lemmas.Bool.{cases_lt}
use Rattle.std.proofs.lemmas.Bool.Decides.{nat_tests}
use Rattle.std.proofs.lemmas.List.{length-append, length-take-le}
use Rattle.std.specs.Prelude.{Ok, Err}
use Rattle.rg_base.specs.declared.fault.Code.TheVariants.{Unknown}
use Rattle.rg_flow.specs.declared.env.found.Found.{Found}
use Rattle.rg_rules.specs.Environment.{Readiness, ready, gone, is_ready, joined_readiness}
use Rattle.rg_flow.specs.declared.flow.Flow.{Flow}
use Rattle.rg_flow.specs.Flows.{state_of, Sets, Covers}
use Rattle.rg_flow.specs.Scope.{Slot, Scope, marked}
use Rattle.rg_flow.specs.States.{slot_of, FoundAs, AreStatesOf, state_at, IsSaved, restated, joined_with, CoversStates}
use Rattle.rg_flow.specs.declared.env.saved.Saved.{Saved}
use Rattle.rg_flow.specs.Inner.Layout.{slots_from, scope_of, place_in, names_at, IsFoundAt, ready_slot, with_slot, AreNoted, IsKept}
use Rattle.rg_flow.specs.declared.env.var.Var.{Var}
use Rattle.rg_flow.proofs.Place.{place_in-take}
use Rattle.rg_flow.proofs.Flows.{length-slots_from, slots_from-ext, slots_from-push, slots_from-take, slots_from-named, slots_from-restated}
use Rattle.rg_flow.proofs.Flows.{slots_from-joined, slot_of-place, slot_of-none, state_at-slots_from, names_at-past}
use Rattle.rg_flow.proofs.FlowSteps.{IsGoneTo}

other-state : (f g : Flow) (k i : ℕ) (now : Readiness) → Sets f g k now → nat_eq i k ≡ false → state_of g i ≡ state_of f i
other-state f g k i now s e = s i ∙ ap (λ (b : Bool). if b then now else state_of f i) e

-- how many variables are seen
pub length-seen : (depth : ℕ) (vars : List Var) (f : Flow) (scope : Scope) → scope_of depth vars f ≡ scope → length vars ≡ length scope.slots
length-seen depth vars f scope e = sym (length-slots_from f vars 0) ∙ ap (λ (s : Scope). length s.slots) e

-- other places
pub kept-noted : (depth : ℕ) (vars : List Var) (places new : List (Option ℕ × ℕ)) (f : Flow) → IsKept depth vars places f → AreNoted new vars →
    IsKept depth vars new f
kept-noted depth vars places new f h noted = record { within = h.within; ordered = h.ordered; past = h.past; noted = noted }

-- one more variable
pub kept-push : (depth : ℕ) (vars : List Var) (places new : List (Option ℕ × ℕ)) (f g : Flow) (v : Var) (n : ℕ) → n ≡ length vars →
    IsKept depth vars places f → length vars < 256 →
    Sets f g n ready → AreNoted new (vars ++ v ∷ []) → IsKept depth (vars ++ v ∷ []) new g
kept-push depth vars places new f g v n is h l t noted = let s : Sets f g (length vars) ready = subst (λ k. Sets f g k ready) is t in record {
  within = rw (length-append vars (v ∷ [])) (omega arith);
  ordered = let o = h.ordered in rw (length-append vars (v ∷ [])) (omega arith);
  past = λ k m.
      let m' : length vars + 1 ≤ k = rw (length-append vars (v ∷ [])) at m in
      let e : nat_eq k (length vars) ≡ false = grind (arith, nat_tests) in
      other-state f g (length vars) k ready s e ∙ h.past k (omega arith);
  noted = noted;
}

-- what is seen with one more variable
pub scope-push : (depth : ℕ) (vars : List Var) (f g : Flow) (v : Var) (n : ℕ) → n ≡ length vars → Sets f g n ready →
    scope_of depth (vars ++ v ∷ []) g ≡ with_slot (scope_of depth vars f) (ready_slot v)
scope-push depth vars f g v n is t =
    let s : Sets f g (length vars) ready = subst (λ k. Sets f g k ready) is t in
    let same : nat_eq (length vars) (length vars) ≡ true = grind (arith, nat_tests) in
    let here : state_of g (length vars) ≡ ready = s (length vars) ∙ ap (λ (b : Bool). if b then ready else state_of f (length vars)) same in
    ap (λ (ss : List Slot). record { depth = depth; slots = ss })
    (slots_from-push g vars v 0 (let z : 0 + length vars ≡ length vars = omega arith in rw z here)
    ∙ ap (λ (ss : List Slot). ss ++ ready_slot v ∷ [])
    (slots_from-ext g f vars 0 (λ i a b. let e : nat_eq i (length vars)
    ≡ false = grind (arith, nat_tests) in other-state f g (length vars) i ready s e)))

-- the first variables
pub kept-take : (depth old n : ℕ) (vars : List Var) (places : List (Option ℕ × ℕ)) (f g : Flow) → IsKept old vars places f → depth ≤ n →
    n ≤ length vars →
    IsGoneTo g f n (length vars) → IsKept depth (take n vars) places g
kept-take depth old n vars places f g h o l gone-to =
    let len : length (take n vars) ≡ n = length-take-le n vars l in
    record {
      within = rw len (omega (arith, h.within));
      ordered = rw len o;
      past = λ k m.
          let m' : n ≤ k = rw len at m in
          let far : nat_lt k n ≡ false = grind (arith, nat_tests) in
          gone-to k ∙ by k m' far (cases_lt k (length vars));
      noted = λ name k e. h.noted name k (place_in-take name vars n k e);
    }
  where
    by : (k : ℕ) → n ≤ k → nat_lt k n ≡ false → (k < length vars) ⊎ (length vars ≤ k) →
        (if not (nat_lt k n) && nat_lt k (length vars) then gone else state_of f k) ≡ gone
    by k m far (inl near) = let t : nat_lt k (length vars) ≡ true = grind (arith, nat_tests) in rw (far, t) refl
    by k m far (inr past) = let t : nat_lt k (length vars) ≡ false = grind (arith, nat_tests) in rw (far, t) (h.past k past)

pub scope-take : (depth old n : ℕ) (vars : List Var) (f g : Flow) → n ≤ length vars → IsGoneTo g f n (length vars) →
    scope_of depth (take n vars) g ≡ record { depth = depth; slots = take n (scope_of old vars f).slots }
scope-take depth old n vars f g l gone-to =
    let len : length (take n vars) ≡ n = length-take-le n vars l in
    ap (λ (ss : List Slot). record { depth = depth; slots = ss })
    (slots_from-ext g f (take n vars) 0 (λ i a b.
    let near : i < n = let b' : i < 0 + n = rw len at b in omega arith in
    let t : nat_lt i n ≡ true = grind (arith, nat_tests) in
    gone-to i ∙ rw t refl)
    ∙ slots_from-take f vars n 0)

-- the variables of a name are in another state
pub kept-named : (depth : ℕ) (vars : List Var) (places : List (Option ℕ × ℕ)) (f g : Flow) (name : Option ℕ) (now : Readiness) →
    IsKept depth vars places f →
    ((w : ℕ) → state_of g w ≡ (if names_at name vars w then now else state_of f w)) → IsKept depth vars places g
kept-named depth vars places f g name now h s = record {
  within = h.within;
  ordered = h.ordered;
  past = λ k l. s k ∙ ap (λ (b : Bool). if b then now else state_of f k) (names_at-past name vars k l) ∙ h.past k l;
  noted = h.noted;
}

pub scope-named : (depth : ℕ) (vars : List Var) (f g : Flow) (name : Option ℕ) (now : Readiness) →
    ((w : ℕ) → state_of g w ≡ (if names_at name vars w then now else state_of f w)) →
    scope_of depth vars g ≡ marked name now (scope_of depth vars f)
scope-named depth vars f g name now s =
    ap (λ (ss : List Slot). record { depth = depth; slots = ss })
    (slots_from-named f g name now vars 0 (λ i. let e : 0 + i
    ≡ i = omega arith in subst (λ j. state_of g j ≡ (if names_at name vars i then now else state_of f j)) (sym e) (s i)))

-- a new flow without states past the variables
pub kept-flow : (depth : ℕ) (vars : List Var) (places : List (Option ℕ × ℕ)) (f g : Flow) → IsKept depth vars places f →
    ((k : ℕ) → length vars ≤ k → state_of g k ≡ gone) → IsKept depth vars places g
kept-flow depth vars places f g h past = record { within = h.within; ordered = h.ordered; past = past; noted = h.noted }

pub scope-restated : (depth : ℕ) (vars : List Var) (f g : Flow) → scope_of depth vars g ≡ restated g (scope_of depth vars f)
scope-restated depth vars f g = ap (λ (ss : List Slot). record { depth = depth; slots = ss }) (slots_from-restated f g vars 0)

pub scope-joined : (depth : ℕ) (vars : List Var) (f g both : Flow) → ((w : ℕ) → state_of both w ≡ joined_readiness (state_of f w) (state_of g w)) →
    scope_of depth vars both ≡ joined_with f (scope_of depth vars g)
scope-joined depth vars f g both h = ap (λ (ss : List Slot). record { depth = depth; slots = ss }) (slots_from-joined f g both h vars 0)

-- the states that are seen
pub states-seen : (depth : ℕ) (vars : List Var) (places : List (Option ℕ × ℕ)) (f : Flow) (scope : Scope) → IsKept depth vars places f →
    scope_of depth vars f ≡ scope → AreStatesOf f scope.slots
states-seen depth vars places f scope h e k =
    let z : 0 + k ≡ k = omega arith in
    let s : state_of f (0 + k) ≡ state_at (slots_from f 0 vars) k = state_at-slots_from f vars 0
    (λ i l. h.past i (let z' : 0 + length vars ≡ length vars = omega arith in rw z' at l)) k in
    sym (ap (state_of f) z) ∙ s ∙ ap (λ (sc : Scope). state_at sc.slots k) e

-- what the flow has ready is ready among the variables
pub covers-seen : (b : Bool) (here head : Flow) (slots : List Slot) → AreStatesOf here slots → IsTrue b ↔ Covers here head →
    IsTrue b ↔ CoversStates head slots
covers-seen b here head slots h d = (
  λ t k r. subst (λ x. IsTrue (is_ready x)) (h k) (d.0 t k r),
  λ all. d.1 (λ k r. subst (λ x. IsTrue (is_ready x)) (sym (h k)) (all k r)),
)

-- a point that is saved
pub saved-seen : (saved : Saved) (vars : List Var) (places : List (Option ℕ × ℕ)) (scope : Scope) → IsKept saved.depth vars places saved.flow →
    scope_of saved.depth vars saved.flow ≡ scope →
    saved.len ≡ length vars → IsSaved saved scope
saved-seen saved vars places scope h e l = record {
  depth = ap (λ (sc : Scope). sc.depth) e;
  len = l ∙ length-seen saved.depth vars saved.flow scope e;
  states = states-seen saved.depth vars places saved.flow scope h e;
  ordered = rw l h.ordered;
}

-- what is found is the first variable of the name
pub found-some : (depth : ℕ) (vars : List Var) (flow : Flow) (scope : Scope) (name : Option ℕ) (k : ℕ) (f : Found) →
    scope_of depth vars flow ≡ scope → place_in name vars ≡ Some k →
    IsFoundAt vars flow k f → FoundAs (slot_of name scope.slots) (Ok f)
found-some depth vars flow scope name k f e at h =
    let z : 0 + k ≡ k = omega arith in
    let first = slot_of-place flow name vars 0 k h.var at h.at in
    let is = sym (ap (λ (s : Scope). slot_of name s.slots) e) ∙ first in
    rw is (λ i. record {
      name = h.var.name;
      ty = h.ty i;
      depth = h.depth i;
      readiness = (h.state ∙ ap (state_of flow) (sym z)) i;
      assignable =
          h.assignable i;
    })

pub found-none : (depth : ℕ) (vars : List Var) (flow : Flow) (scope : Scope) (name : Option ℕ) → scope_of depth vars flow ≡ scope →
    place_in name vars ≡ None →
    FoundAs (slot_of name scope.slots) (Err Unknown)
found-none depth vars flow scope name e at =
    let is = sym (ap (λ (s : Scope). slot_of name s.slots) e) ∙ slot_of-none flow name vars 0 at in
    rw is refl

-- another depth
pub kept-deeper : (depth now : ℕ) (vars : List Var) (places : List (Option ℕ × ℕ)) (f : Flow) → IsKept depth vars places f → now ≤ length vars →
    IsKept now vars places f
kept-deeper depth now vars places f h l = record { within = h.within; ordered = l; past = h.past; noted = h.noted }
