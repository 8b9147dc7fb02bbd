-- The place of the first variable of a name, as it is looked up.
use Rattle.std.proofs.Common.{◌≡◌, ℕ, zero, suc, Bool, true, false, ◌⊎◌, inl, inr, List, [], ◌∷◌, ◌++◌, length, take, slice_get, Option, None, Some}
use Rattle.std.proofs.Common.{option_map, if◌then◌else◌, refl, sym, ap, subst, ◌∙◌, true≢false}
use Rattle.std.specs.Prelude.{Result, Ok, Err, OnOk, OnErr}
use Rattle.std.specs.Map.{lookup}
use Rattle.rg_base.specs.declared.fault.Memory.{Memory}
use Rattle.rg_flow.specs.Scope.{same_name}
use Rattle.rg_flow.specs.Inner.Layout.{place_in, AreNoted}
use Rattle.rg_flow.specs.declared.env.var.Var.{Var}
use Rattle.rg_flow.proofs.NameTests.{same-eq}

some-suc : (o : Option ℕ) (k : ℕ) → option_map suc o ≡ Some k → (j : ℕ) × (k ≡ suc j) × (o ≡ Some j)
some-suc None k h = cc
some-suc (Some j) k h = (j, cc, refl)

-- what stands at the place has the name
pub place_in-has : (name : Option ℕ) (vars : List Var) (k : ℕ) → place_in name vars ≡ Some k →
    (v : Var) × (slice_get vars k ≡ Some v) × (same_name v.name name ≡ true)
place_in-has name [] k h = cc
place_in-has name (v ∷ vs) k h = by (same_name v.name name) refl h (place_in-has name vs)
  where
    by : (b : Bool) → same_name v.name name ≡ b → (if b then Some 0 else option_map suc (place_in name vs)) ≡ Some k →
        ((j : ℕ) → place_in name vs ≡ Some j → (u : Var) × (slice_get vs j ≡ Some u) × (same_name u.name name ≡ true)) →
        (u : Var) × (slice_get (v ∷ vs) k ≡ Some u) × (same_name u.name name ≡ true)
    by true e h rest = let z : 0 ≡ k = cc in (v, subst (λ i. slice_get (v ∷ vs) i ≡ Some v) z refl, e)
    by false e h rest =
        let s = some-suc (place_in name vs) k h in
        let r = rest s.0 s.2 in
        (r.0, subst (λ i. slice_get (v ∷ vs) i ≡ Some r.0) (sym s.1) r.1, r.2)

-- where one has the name, there is a place
pub has-place_in : (name : Option ℕ) (vars : List Var) (k : ℕ) (v : Var) → slice_get vars k ≡ Some v → same_name v.name name ≡ true →
    (j : ℕ) × (place_in name vars ≡ Some j)
has-place_in name [] k v h e = cc
has-place_in name (u ∷ vs) k v h e = by (same_name u.name name) refl k h (λ i l. has-place_in name vs i v l e)
  where
    by : (b : Bool) → same_name u.name name ≡ b → (i : ℕ) → slice_get (u ∷ vs) i ≡ Some v →
        ((i : ℕ) → slice_get vs i ≡ Some v → (j : ℕ) × (place_in name vs ≡ Some j)) →
        (j : ℕ) × ((if b then Some 0 else option_map suc (place_in name vs)) ≡ Some j)
    by true e' i h rest = (0, refl)
    by false e' zero h rest = let same : u ≡ v = cc in absurd (true≢false (sym e ∙ sym (ap (λ (x : Var). same_name x.name name) same) ∙ e'))
    by false e' (suc i) h rest = let r = rest i h in (suc r.0, ap (option_map suc) r.1)

-- a noted place with no variable
pub noted-past : (places : List (Option ℕ × ℕ)) (vars : List Var) (name : Option ℕ) (k : ℕ) → AreNoted places vars →
    lookup (same_name name) places ≡ Some k →
    slice_get vars k ≡ None → place_in name vars ≡ None
noted-past places vars name k h at none = by (place_in name vars) refl
  where
    by : (o : Option ℕ) → place_in name vars ≡ o → o ≡ None
    by None e = refl
    by (Some j) e =
        let n : lookup (same_name name) places ≡ Some j = h name j e in
        let same : j ≡ k = cc in
        let r = place_in-has name vars j e in
        let s : slice_get vars k ≡ Some r.0 = subst (λ i. slice_get vars i ≡ Some r.0) same r.1 in
        cc

-- a noted place whose variable has the name
pub noted-same : (places : List (Option ℕ × ℕ)) (vars : List Var) (name : Option ℕ) (k : ℕ) (v : Var) → AreNoted places vars →
    lookup (same_name name) places ≡ Some k →
    slice_get vars k ≡ Some v → same_name v.name name ≡ true → place_in name vars ≡ Some k
noted-same places vars name k v h at is e =
    let r = has-place_in name vars k v is e in
    let n : lookup (same_name name) places ≡ Some r.0 = h name r.0 r.1 in
    let same : r.0 ≡ k = cc in
    r.1 ∙ ap Some same

-- a noted place whose variable has another name
pub noted-other : (places : List (Option ℕ × ℕ)) (vars : List Var) (name : Option ℕ) (k : ℕ) (v : Var) → AreNoted places vars →
    lookup (same_name name) places ≡ Some k →
    slice_get vars k ≡ Some v → same_name v.name name ≡ false → place_in name vars ≡ None
noted-other places vars name k v h at is apart = by (place_in name vars) refl
  where
    by : (o : Option ℕ) → place_in name vars ≡ o → o ≡ None
    by None e = refl
    by (Some j) e =
        let n : lookup (same_name name) places ≡ Some j = h name j e in
        let same : j ≡ k = cc in
        let r = place_in-has name vars j e in
        let s : slice_get vars k ≡ Some r.0 = subst (λ i. slice_get vars i ≡ Some r.0) same r.1 in
        let u : r.0 ≡ v = cc in
        absurd (true≢false (sym r.2 ∙ ap (λ (x : Var). same_name x.name name) u ∙ apart))

-- the place among the variables with one more
pub place_in-push : (name : Option ℕ) (vars : List Var) (v : Var) (k : ℕ) → place_in name (vars ++ v ∷ []) ≡ Some k →
    (place_in name vars ≡ Some k) ⊎ ((place_in name vars ≡ None) × (same_name v.name name ≡ true) × (k ≡ length vars))
place_in-push name [] v k h = by (same_name v.name name) refl h
  where
    by : (b : Bool) → same_name v.name name ≡ b → (if b then Some 0 else None) ≡ Some k →
        (place_in name [] ≡ Some k) ⊎ ((place_in name [] ≡ None) × (same_name v.name name ≡ true) × (k ≡ 0))
    by true e h = inr (refl, e, cc)
    by false e h = cc
place_in-push name (u ∷ vs) v k h = by (same_name u.name name) h (place_in-push name vs v)
  where
    on : (j : ℕ) → k ≡ suc j → (place_in name vs ≡ Some j) ⊎ ((place_in name vs ≡ None) × (same_name v.name name ≡ true) × (j ≡ length vs)) →
        (option_map suc (place_in name vs) ≡ Some k) ⊎
        ((option_map suc (place_in name vs) ≡ None) × (same_name v.name name ≡ true) × (k ≡ suc (length vs)))
    on j e (inl p) = inl (ap (option_map suc) p ∙ ap Some (sym e))
    on j e (inr p) = inr (ap (option_map suc) p.0, p.1, e ∙ ap suc p.2)

    by : (b : Bool) → (if b then Some 0 else option_map suc (place_in name (vs ++ v ∷ []))) ≡ Some k →
        ((j : ℕ) → place_in name (vs ++ v ∷ []) ≡ Some j →
        (place_in name vs ≡ Some j) ⊎ ((place_in name vs ≡ None) × (same_name v.name name ≡ true) × (j ≡ length vs))) →
        ((if b then Some 0 else option_map suc (place_in name vs)) ≡ Some k)
        ⊎ (((if b then Some 0 else option_map suc (place_in name vs)) ≡ None) × (same_name v.name name ≡ true) × (k ≡ suc (length vs)))
    by true h rest = inl h
    by false h rest = let s = some-suc (place_in name (vs ++ v ∷ [])) k h in on s.0 s.1 (rest s.0 s.2)

-- a variable whose name is there already needs no new place
pub noted-again : (places : List (Option ℕ × ℕ)) (vars : List Var) (v : Var) (j : ℕ) → AreNoted places vars → place_in v.name vars ≡ Some j →
    AreNoted places (vars ++ v ∷ [])
noted-again places vars v j h at name k e = by (place_in-push name vars v k e)
  where
    by : (place_in name vars ≡ Some k) ⊎ ((place_in name vars ≡ None) × (same_name v.name name ≡ true) × (k ≡ length vars)) →
        lookup (same_name name) places ≡ Some k
    by (inl p) = h name k p
    by (inr p) = let s : v.name ≡ name = same-eq v.name name p.1 in let q : place_in name vars
        ≡ Some j = subst (λ n. place_in n vars ≡ Some j) s at in cc

-- a new name with its place
pub noted-first : (old new : List (Option ℕ × ℕ)) (vars : List Var) (v : Var) → AreNoted old vars → place_in v.name vars ≡ None →
    ((q : Option ℕ) → lookup (same_name q) new ≡ (if same_name v.name q then Some (length vars) else lookup (same_name q) old)) →
    AreNoted new (vars ++ v ∷ [])
noted-first old new vars v h none is name k e = is name ∙ by (same_name v.name name) refl (place_in-push name vars v k e)
  where
    by : (b : Bool) → same_name v.name name ≡ b →
        (place_in name vars ≡ Some k) ⊎ ((place_in name vars ≡ None) × (same_name v.name name ≡ true) × (k ≡ length vars)) →
        (if b then Some (length vars) else lookup (same_name name) old) ≡ Some k
    by true e (inl p) = let s : v.name ≡ name = same-eq v.name name e in let q : place_in name vars
        ≡ None = subst (λ n. place_in n vars ≡ None) s none in cc
    by true e (inr p) = ap Some (sym p.2)
    by false e (inl p) = h name k p
    by false e (inr p) = absurd (true≢false (sym p.1 ∙ e))

-- a place among the first variables is one among all
pub place_in-take : (name : Option ℕ) (vars : List Var) (n k : ℕ) → place_in name (take n vars) ≡ Some k → place_in name vars ≡ Some k
place_in-take name [] zero k h = h
place_in-take name [] (suc n) k h = h
place_in-take name (v ∷ vs) zero k h = cc
place_in-take name (v ∷ vs) (suc n) k h = by (same_name v.name name) h (place_in-take name vs n)
  where
    by : (b : Bool) → (if b then Some 0 else option_map suc (place_in name (take n vs))) ≡ Some k →
        ((j : ℕ) → place_in name (take n vs) ≡ Some j → place_in name vs ≡ Some j) →
        (if b then Some 0 else option_map suc (place_in name vs)) ≡ Some k
    by true h rest = h
    by false h rest = let s = some-suc (place_in name (take n vs)) k h in ap (option_map suc) (rest s.0 s.2) ∙ ap Some (sym s.1)

-- a new name that is noted leaves the places of these
pub noted-still : (old new : List (Option ℕ × ℕ)) (vars : List Var) (x : Option ℕ) (m : ℕ) → AreNoted old vars → place_in x vars ≡ None →
    ((q : Option ℕ) → lookup (same_name q) new ≡ (if same_name x q then Some m else lookup (same_name q) old)) → AreNoted new vars
noted-still old new vars x m h none is name k e = is name ∙ by (same_name x name) refl
  where
    by : (b : Bool) → same_name x name ≡ b → (if b then Some m else lookup (same_name name) old) ≡ Some k
    by true s = let same : x ≡ name = same-eq x name s in let q : place_in name vars ≡ None = subst (λ n. place_in n vars ≡ None) same none in cc
    by false s = h name k e

-- whether or not it could be noted
pub noted-anyway : (r : Result (Unit {0}) Memory) (old new : List (Option ℕ × ℕ)) (vars : List Var) (x : Option ℕ) (m : ℕ) → AreNoted old vars →
    place_in x vars ≡ None →
    OnOk r ((q : Option ℕ) → lookup (same_name q) new ≡ (if same_name x q then Some m else lookup (same_name q) old)) → OnErr r (new ≡ old) →
    AreNoted new vars
noted-anyway (Ok u) old new vars x m h none ok err = noted-still old new vars x m h none ok
noted-anyway (Err e) old new vars x m h none ok err = subst (λ ps. AreNoted ps vars) (sym err) h
