-- Parts that are read behind others, by a function that appends each.
use Rattle.std.proofs.Common.{◌≡◌, ℕ, ◌-◌, ◌+◌, ◌<◌, List, [], ◌∷◌, ◌++◌, Option, Some, None, refl, subst}
use Rattle.std.proofs.lemmas.Option.{same_Some}
use Rattle.rg_spell.specs.declared.refusal.Refusal.{Refusal}
use Rattle.rg_spell.specs.declared.refusal.Refusal.TheVariants as refusal
use Rattle.rg_spell.specs.Reading.{Fails, many_at}
use Rattle.rg_spell.proofs.Loops.{with_front, goes_on}
use Rattle.rg_image.specs.Inner.Reading.{behind}

no-part : {A : Type 0} (others : List A) (read : Option (A × List ℕ)) → behind others read ≡ None → read ≡ None
no-part others None e = refl
no-part others (Some x) e = absurd cc

-- one that isn't there
pub none-behind : {A : Type 0} (others : List A) (e : Refusal) (read : Option (A × List ℕ)) → Fails e (behind others read) → Fails e read
none-behind others refusal.NotSpelt read fails = no-part others read fails
none-behind others refusal.Memory read fails = tt

one-behind : {A : Type 0} (reader : List ℕ → Option (A × List ℕ)) (front new : List A) (count i : ℕ) (bytes after : List ℕ)
    (total : Option (List A × List ℕ)) (read : Option (A × List ℕ)) → i < count → reader bytes ≡ read → behind front read ≡ Some (new, after)
    → with_front front (many_at reader (count - i) bytes) ≡ total → with_front new (many_at reader (count - (i + 1)) after) ≡ total
one-behind reader front new count i bytes after total None lt is e so_far = absurd cc
one-behind {A} reader front new count i bytes after total (Some x) lt is e so_far =
    subst (λ (p : List A × List ℕ). with_front p.0 (many_at reader (count - (i + 1)) p.1) ≡ total)
    (same_Some (front ++ x.0 ∷ [], x.1) (new, after) e) (goes_on reader front count i bytes x.0 x.1 total lt is so_far)

-- one more
pub goes_behind : {A : Type 0} (reader : List ℕ → Option (A × List ℕ)) (front new : List A) (count i : ℕ) (bytes after : List ℕ)
    (total : Option (List A × List ℕ)) → i < count → behind front (reader bytes) ≡ Some (new, after)
    → with_front front (many_at reader (count - i) bytes) ≡ total → with_front new (many_at reader (count - (i + 1)) after) ≡ total
goes_behind reader front new count i bytes after total lt e so_far =
    one-behind reader front new count i bytes after total (reader bytes) lt refl e so_far
