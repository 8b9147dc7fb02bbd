-- The `iso` fields of members against cowns, one after another.
use Rattle.std.proofs.Common.{◌≡◌, ◌∙◌, refl, sym, ℕ, ◌+◌, ◌<◌, ◌≤◌, Bool, false, bytes_eq, List, [], ◌∷◌, length, map, drop, get_or}
use Rattle.std.proofs.Common.{option_map, Option, Some, None, slice_get, All, arith}
use Rattle.std.proofs.lemmas.List.{drop_more, drop_all}
use Rattle.rg_base.proofs.Callers.Lists.{there as there_at}
use Rattle.std.proofs.lemmas.List.Elements.{All-head}
use Rattle.rg_tree.specs.Rows.Tables.{Tables}
use Rattle.rg_tree.specs.Rows.RowTrees.{classes_of, member_at}
use Rattle.rg_plan.specs.declared.cown.Cown.{Cown}
use Rattle.rg_plan.specs.Lines.{cown_classes}
use Rattle.rg_plan.specs.Inner.Found.{no_numbers}
use Rattle.rg_plan.specs.Inner.Owned.{owned_among, Matches}

-- the class of the first cown
there : (cowns : List Cown) (n k : ℕ) (rest : List ℕ) → option_map (λ (c : Cown). c.class) (slice_get cowns n) ≡ Some k →
    cown_classes cowns (n ∷ rest) ≡ k ∷ cown_classes cowns rest
there cowns n k rest h = by (slice_get cowns n) refl h
  where
    by : (o : Option Cown) → slice_get cowns n ≡ o → option_map (λ (c : Cown). c.class) o ≡ Some k →
        cown_classes cowns (n ∷ rest) ≡ k ∷ cown_classes cowns rest
    by None e g = grind arith
    by (Some c) e g = let same : c.class ≡ k = grind arith in rw (e, same) refl

-- the members from a place on
abbrev pub owned_from : Tables → List ℕ → ℕ → List ℕ
owned_from t ks i = owned_among (classes_of t) (map (member_at t) (drop i ks))

pub owned-next : (t : Tables) (ks : List ℕ) (i : ℕ) (cowns : List Cown) (ns rest : List ℕ) → i < length ks →
    Matches (classes_of t) (member_at t (get_or ks i 0)) cowns ns (Some rest) →
    bytes_eq (owned_from t ks i) (cown_classes cowns ns) ≡ bytes_eq (owned_from t ks (i + 1)) (cown_classes cowns rest)
owned-next t ks i cowns ns rest l h = rw (drop_more ks i 0 l) (h (map (member_at t) (drop (i + 1) ks)))

pub owned-other : (t : Tables) (ks : List ℕ) (i : ℕ) (cowns : List Cown) (ns : List ℕ) → i < length ks →
    Matches (classes_of t) (member_at t (get_or ks i 0)) cowns ns None → bytes_eq (owned_from t ks i) (cown_classes cowns ns) ≡ false
owned-other t ks i cowns ns l h = rw (drop_more ks i 0 l) (h (map (member_at t) (drop (i + 1) ks)))

-- no member is left
empty-same : (cowns : List Cown) (ns : List ℕ) → All (λ n. n < length cowns) ns → bytes_eq [] (cown_classes cowns ns) ≡ no_numbers ns
empty-same cowns [] all = refl
empty-same cowns (n ∷ ns) all =
    let c = there_at cowns n (All-head (λ n. n < length cowns) n ns all) in
    let is : cown_classes cowns (n ∷ ns) ≡ c.0.class ∷ cown_classes cowns ns = there cowns n c.0.class ns (rw c.1 refl) in
    rw is refl

pub owned-end : (t : Tables) (ks : List ℕ) (i : ℕ) (cowns : List Cown) (ns : List ℕ) (whole : Bool) → length ks ≤ i →
    bytes_eq (owned_from t ks i) (cown_classes cowns ns) ≡ whole → All (λ n. n < length cowns) ns → no_numbers ns ≡ whole
owned-end t ks i cowns ns whole l h all =
    let d = drop_all i ks l in
    let e : bytes_eq [] (cown_classes cowns ns) ≡ whole = rw d at h in
    sym (empty-same cowns ns all) ∙ e
