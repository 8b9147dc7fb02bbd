-- What an input without bytes tells (docs/architecture.md).
use Rattle.std.specs.Prelude.{◌≡◌, ℕ, List, [], Option, Some}
use Rattle.rg_io.specs.Content.{Reply, gave}
use Rattle.rg_commands.specs.declared.setting.NoInput.{NoInput}

-- it has nothing left
abbrev pub nothing_left : NoInput → Option (List ℕ)
nothing_left input = Some []

-- a read gives nothing
abbrev pub gives_nothing : NoInput → Reply → NoInput → Type 0
gives_nothing old reply new = reply ≡ gave []

-- it never fails
abbrev pub no_faults : NoInput → ℕ
no_faults input = 0
