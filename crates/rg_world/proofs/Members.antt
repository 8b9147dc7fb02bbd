-- The members of a class, one after another.
use Rattle.std.proofs.Common.{◌≡◌, ℕ, zero, suc, ◌+◌, ◌<◌, ◌≤◌, List, [], ◌∷◌, length, map, filter_map, drop, get_or, Some, None, refl, ap, ◌∙◌, arith}
use Rattle.std.proofs.lemmas.List.{drop_more}
use Rattle.rg_tree.specs.Rows.Tables.{Tables}
use Rattle.rg_tree.specs.Rows.RowTrees.{member_at}
use Rattle.rg_tree.specs.Tree.{Member, Field}
use Rattle.rg_rules.specs.Types.{field_member}

members-next : (t : Tables) (ms : List ℕ) (k : ℕ) → k < length ms
    → filter_map field_member (map (member_at t) (drop k ms)) ≡ filter_map field_member (member_at t (get_or ms k 0) ∷ map (member_at t) (drop (k + 1) ms))
members-next t ms k l = ap (λ z. filter_map field_member (map (member_at t) z)) (drop_more ms k 0 l)

pub members-field : (t : Tables) (ms : List ℕ) (k : ℕ) (f : Field) → k < length ms → field_member (member_at t (get_or ms k 0)) ≡ Some f
    → filter_map field_member (map (member_at t) (drop k ms)) ≡ f ∷ filter_map field_member (map (member_at t) (drop (k + 1) ms))
members-field t ms k f l is = members-next t ms k l ∙ some (member_at t (get_or ms k 0)) (map (member_at t) (drop (k + 1) ms)) is
  where
    some : (m : Member) (rest : List Member) → field_member m ≡ Some f → filter_map field_member (m ∷ rest) ≡ f ∷ filter_map field_member rest
    some m rest e = rw e refl

pub members-method : (t : Tables) (ms : List ℕ) (k : ℕ) → k < length ms → field_member (member_at t (get_or ms k 0)) ≡ None
    → filter_map field_member (map (member_at t) (drop k ms)) ≡ filter_map field_member (map (member_at t) (drop (k + 1) ms))
members-method t ms k l is = members-next t ms k l ∙ none (member_at t (get_or ms k 0)) (map (member_at t) (drop (k + 1) ms)) is
  where
    none : (m : Member) (rest : List Member) → field_member m ≡ None → filter_map field_member (m ∷ rest) ≡ filter_map field_member rest
    none m rest e = rw e refl

drop-past : {X : Type 0} → (xs : List X) (k : ℕ) → length xs ≤ k → drop k xs ≡ []
drop-past [] zero l = refl
drop-past [] (suc k) l = refl
drop-past (x ∷ xs) zero l = absurd (omega (arith, l))
drop-past (x ∷ xs) (suc k) l = drop-past xs k (omega (arith, l))

pub members-end : (t : Tables) (ms : List ℕ) (k : ℕ) → length ms ≤ k → filter_map field_member (map (member_at t) (drop k ms)) ≡ []
members-end t ms k l = ap (λ z. filter_map field_member (map (member_at t) z)) (drop-past ms k l)
