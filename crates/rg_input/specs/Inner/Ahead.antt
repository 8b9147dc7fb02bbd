-- What comes from a source, a piece at a time (docs/language.md, "Input numbers").
use Rattle.std.specs.Prelude.{◌≡◌, ◌⊎◌, ℕ, Bool, true, false, List, [], ◌++◌, Option}
use Rattle.rg_io.specs.Content.{Gives, Reply, gave, failed}
use Rattle.rg_input.specs.Numbers.{Pending, with_piece}

-- Bytes came from a source behind those that were held. It was asked only where nothing was held and it had not ended.
pub record Came (old_left new_left : Option (List ℕ)) (old new : Pending) : Type 0 where
  pub read : List ℕ
  pub given : Gives old_left new_left read
  pub kept : new.held ≡ old.held ++ read
  pub ended : old.ended ≡ true → (read ≡ []) × (new.ended ≡ true)
  pub asked : ((read ≡ []) × (new.ended ≡ old.ended)) ⊎ (old ≡ record { held = []; ended = false })

-- The source wasn't asked, or gave one piece; or it failed. It was asked only where nothing was held and it had not ended.
abbrev pub Refills : {T : Type 0} → (T → Reply → T → Type 0) → Bool → (old new : Pending) → (old_source new_source : T) → Type 0
Refills replies false old new s t =
    ((new ≡ old) × (t ≡ s)) ⊎ ((bytes : List ℕ) × (old ≡ record { held = []; ended = false }) × (new ≡ with_piece old bytes) × replies s (gave bytes) t)
Refills replies true old new s t = (old ≡ record { held = []; ended = false }) × (new ≡ old) × replies s failed t
