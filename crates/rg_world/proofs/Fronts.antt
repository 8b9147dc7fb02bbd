-- Those that stand right in front of a behaviour, one after another.
use Rattle.std.proofs.Common.{◌≡◌, ℕ, zero, suc, ◌+◌, ◌<◌, ◌≤◌, Bool, true, false, ◌&&◌, List, [], ◌∷◌, length, take, drop, get_or, Option, Some, None}
use Rattle.std.proofs.Common.{option_map, unwrap_or, slice_get, refl, sym, ap, ◌∙◌, subst, arith}
use Rattle.std.specs.List.{list_all}
use Rattle.std.proofs.lemmas.List.{drop_more}
use Rattle.rg_queues.proofs.LastOnes.{front-below}
use Rattle.rg_plan.specs.Plans.{Turn as Behaviour, all_cowns, in_front_of}
use Rattle.rg_world.specs.declared.progress.Progress.{Progress}
use Rattle.rg_world.specs.Inner.Steps.{is_ended, ended_in, all_ended_in}

length-take : {X : Type 0} → (xs : List X) (i : ℕ) → length (take i xs) ≤ i
length-take [] zero = omega arith
length-take [] (suc i) = omega arith
length-take (x ∷ xs) zero = omega arith
length-take (x ∷ xs) (suc i) = let l = length-take xs i in omega (arith, l)

-- they are there
pub front-there : (bs : List Behaviour) (i : ℕ) (b : Behaviour) (front : List ℕ) (ps : List Progress) (k : ℕ) → front ≡ in_front_of bs i b
    → i < length bs → length ps ≡ length bs → k < length front → get_or front k 0 < length ps
front-there bs i b front ps k is l many within =
    let before = take i (all_cowns bs) in
    let below : get_or front k 0 < length before =
    subst (λ z. get_or z k 0 < length before) (sym is) (front-below before b.cowns k 0 (subst (λ z. k < length z) is within)) in
    let most = length-take (all_cowns bs) i in
    omega (arith, below, most, l, many)

abbrev ends : List Progress → ℕ → Bool
ends ps k = ended_in (slice_get ps k)

ended-by : (o : Option Progress) (b : Bool) → option_map (λ (p : Progress). is_ended p.standing) o ≡ Some b → ended_in o ≡ b
ended-by None b e = absurd (cc)
ended-by (Some p) b e = ap (λ z. unwrap_or z b) e

next : (ps : List Progress) (front : List ℕ) (k : ℕ) → k < length front
    → list_all (ends ps) (drop k front) ≡ (ends ps (get_or front k 0) && list_all (ends ps) (drop (k + 1) front))
next ps front k l = ap (list_all (ends ps)) (drop_more front k 0 l)

pub ended-next : (ps : List Progress) (front : List ℕ) (k : ℕ) → k < length front
    → option_map (λ (p : Progress). is_ended p.standing) (slice_get ps (get_or front k 0)) ≡ Some true
    → list_all (ends ps) (drop k front) ≡ list_all (ends ps) front → list_all (ends ps) (drop (k + 1) front) ≡ list_all (ends ps) front
ended-next ps front k l e h =
    sym (next ps front k l ∙ ap (λ z. z && list_all (ends ps) (drop (k + 1) front)) (ended-by (slice_get ps (get_or front k 0)) true e)) ∙ h

pub waits-next : (ps : List Progress) (front : List ℕ) (k : ℕ) → k < length front
    → option_map (λ (p : Progress). is_ended p.standing) (slice_get ps (get_or front k 0)) ≡ Some false
    → list_all (ends ps) (drop k front) ≡ list_all (ends ps) front → false ≡ all_ended_in ps front
waits-next ps front k l e h =
    sym (next ps front k l ∙ ap (λ z. z && list_all (ends ps) (drop (k + 1) front)) (ended-by (slice_get ps (get_or front k 0)) false e)) ∙ h

drop-past : {X : Type 0} → (xs : List X) (k : ℕ) → length xs ≤ k → drop k xs ≡ []
drop-past [] zero l = refl
drop-past [] (suc k) l = refl
drop-past (x ∷ xs) zero l = absurd (omega (arith, l))
drop-past (x ∷ xs) (suc k) l = drop-past xs k (omega (arith, l))

pub ended-end : (ps : List Progress) (front : List ℕ) (k : ℕ) → length front ≤ k
    → list_all (ends ps) (drop k front) ≡ list_all (ends ps) front → true ≡ all_ended_in ps front
ended-end ps front k l h = sym (ap (list_all (ends ps)) (drop-past front k l)) ∙ h

pub front-as : (ps : List Progress) (one other : List ℕ) → one ≡ other → all_ended_in ps one ≡ all_ended_in ps other
front-as ps one other e = ap (all_ended_in ps) e
