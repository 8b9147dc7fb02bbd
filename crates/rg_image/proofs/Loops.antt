-- Parts that are written one behind the other, as a loop does.
use Rattle.std.proofs.Common.{◌≡◌, ℕ, ◌+◌, List, [], ◌∷◌, ◌++◌, take, slice_get, Some, sym, ap, ◌∙◌, append_assoc}
use Rattle.std.specs.List.{flat_map}
use Rattle.std.proofs.lemmas.List.{take_more, flat_map_more}
use Rattle.std.proofs.lemmas.Option.{slice_get_within, get_or_from_slice_get}

-- one part more that is written
pub text-next : {A : Type 0} (part : A → List ℕ) (xs : List A) (k : ℕ) (x : A) (front old mid new : List ℕ) → slice_get xs k ≡ Some x
    → mid ≡ old ++ (front ++ flat_map part (take k xs)) → new ≡ mid ++ part x → new ≡ old ++ (front ++ flat_map part (take (k + 1) xs))
text-next part xs k x front old mid new there so_far came =
    let one : take (k + 1) xs ≡ take k xs ++ x ∷ [] =
    take_more xs k x (slice_get_within xs k x there) ∙ ap (λ y. take k xs ++ y ∷ []) (get_or_from_slice_get xs k x x there) in
    came ∙ ap (λ ys. ys ++ part x) (so_far ∙ sym (append_assoc old front (flat_map part (take k xs))))
    ∙ flat_map_more part (old ++ front) (take k xs) x ∙ append_assoc old front (flat_map part (take k xs ++ x ∷ []))
    ∙ ap (λ ys. old ++ (front ++ flat_map part ys)) (sym one)
