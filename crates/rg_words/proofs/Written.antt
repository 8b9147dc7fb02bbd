-- Where nothing was given to an output, it has taken no text.
use Rattle.std.proofs.Common.{◌≡◌, ℕ, ◌∙◌, List, [], Option, Some, None, sym, ap, append-nil}
use Rattle.rg_io.specs.Content.{Appends}

pub untouched-text : (old new : Option (List ℕ)) → new ≡ old → Appends old new []
untouched-text None new e = e
untouched-text (Some xs) new e = e ∙ ap Some (sym (append-nil xs))
