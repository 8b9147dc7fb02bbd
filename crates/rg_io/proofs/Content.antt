-- Counts of faults and pieces of content, one call after another. For callers.
use Rattle.std.proofs.Common.{◌≡◌, ℕ, ◌+◌, ◌-◌, ◌≤◌, List, [], ◌++◌, Option, Some, None, IfSome, take, drop, length, append_assoc, append-nil}
use Rattle.std.proofs.Common.{length-drop, refl, sym, ◌∙◌, ap, subst, inl, inr, arith}
use Rattle.std.proofs.Math.Seq.{take-add}
use Rattle.std.proofs.lemmas.List.{take_all, take-append-drop}
use Rattle.rg_io.specs.Content.{Rose, Appends, Gives, AppendsPart}

-- a count that rose in the last of some calls rose over all of them
pub Rose-since : (first before after : ℕ) → first ≤ before → Rose before after → Rose first after
Rose-since first before after up (inl rose) = inl (omega arith)
Rose-since first before after up (inr rose) = inr rose

-- no bytes came
pub Appends-none : (content : Option (List ℕ)) → Appends content content []
Appends-none None = refl
Appends-none (Some old) = ap Some (sym (append-nil old))

-- bytes came, and then more
pub Appends-more : (a b c : Option (List ℕ)) (xs ys : List ℕ) → Appends a b xs → Appends b c ys → Appends a c (xs ++ ys)
Appends-more None b c xs ys came more = let P : Option (List ℕ) → Type 0 = λ o. Appends o c ys in subst P came more
Appends-more (Some zs) b c xs ys came more =
    let P : Option (List ℕ) → Type 0 = λ o. Appends o c ys in
    rw (← append_assoc zs xs ys) (subst P came more)

-- the first bytes of a list came, and then some of those behind them
pub Appends-taken : (a b c : Option (List ℕ)) (at n : ℕ) (bytes : List ℕ) →
    Appends a b (take at bytes) → Appends b c (take n (take (length bytes - at) (drop at bytes))) → Appends a c (take (at + n) bytes)
Appends-taken a b c at n bytes came more =
    let rest_is : take (length bytes - at) (drop at bytes) ≡ drop at bytes =
    take_all (length bytes - at) (drop at bytes) (omega (arith, length-drop at bytes)) in
    let P : List ℕ → Type 0 = λ xs. Appends b c (take n xs) in
    rw (take-add at n bytes) (Appends-more a b c (take at bytes) (take n (drop at bytes)) came (subst P rest_is more))

-- the first bytes of a list came, and then nothing changed
pub AppendsPart-taken : (a b c : Option (List ℕ)) (at : ℕ) (bytes : List ℕ) →
    Appends a b (take at bytes) → c ≡ b → AppendsPart a c bytes
AppendsPart-taken a b c at bytes came same =
    let P : Option (List ℕ) → Type 0 = λ o. Appends a o (take at bytes) in
    (take at bytes, record { rest = drop at bytes; whole_is = sym (take-append-drop at bytes) }, subst P (sym same) came)

-- no bytes were given
pub Gives-none : (content : Option (List ℕ)) → Gives content content []
Gives-none None = refl
Gives-none (Some left) = (left, refl, refl)

-- bytes were given, and then more
pub Gives-more : (a b c : Option (List ℕ)) (xs ys : List ℕ) → Gives a b xs → Gives b c ys → Gives a c (xs ++ ys)
Gives-more None b c xs ys gave more = let P : Option (List ℕ) → Type 0 = λ o. Gives o c ys in subst P gave more
Gives-more (Some zs) b c xs ys gave more =
    let P : Option (List ℕ) → Type 0 = λ o. Gives o c ys in
    let second : Gives (Some gave.0) c ys = subst P gave.2 more in
    (second.0, gave.1 ∙ ap (λ q. xs ++ q) second.1 ∙ sym (append_assoc xs ys second.0), second.2)

-- at the end of a source all of it was given
pub Gives-all : (left left' : Option (List ℕ)) (xs : List ℕ) →
    Gives left left' xs → IfSome left' (λ ys. ys ≡ []) → IfSome left (λ whole. whole ≡ xs)
Gives-all None left' xs gave none_left = tt
Gives-all (Some zs) left' xs gave none_left =
    let P : Option (List ℕ) → Type 0 = λ o. IfSome o (λ ys. ys ≡ []) in
    let none : gave.0 ≡ [] = subst P gave.2 none_left in
    gave.1 ∙ ap (λ q. xs ++ q) none ∙ append-nil xs
