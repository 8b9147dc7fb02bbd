-- What a new array is made of, and where an element is (docs/architecture.md, "The machine").
use Rattle.std.specs.Prelude.{◌≡◌, ℕ, List, [], ◌∷◌, replicate, Result, Ok, Err, slice_get, unwrap_or}
use Rattle.rg_base.specs.declared.fault.Memory.{Memory}
use Rattle.rg_base.specs.declared.object.Seen.{Seen}
use Rattle.rg_base.specs.declared.outcome.Trap.{Trap}
use Rattle.rg_base.specs.declared.value.Val.{Val}
use Rattle.rg_base.specs.declared.value.Word.{Word}
use Rattle.rg_base.specs.declared.value.Word.TheVariants.{Nil}
use Rattle.rg_rules.specs.Evaluation.{element_place, object_at}
use Rattle.rg_rules.specs.RightSides.{array_size}
use Rattle.rg_machine.specs.declared.next.Next.{Next}
use Rattle.rg_machine.specs.declared.next.Next.TheVariants as next
use Rattle.rg_stack.specs.Effects.{Traps, on_top}
use Rattle.rg_machine.specs.Core.{Core, Effect, with_top}

-- the word with which each element starts, by the opening of its class
abbrev pub opening_word : List Word → Word
opening_word ws = unwrap_or (slice_get ws 0) Nil

-- the topmost value went, which says how many elements of an opening these words are
pub record Sizes (old new : Core) (opening words : List Word) : Type 0 where
  pub size : Val
  pub many : ℕ
  pub top : old ≡ with_top new size
  pub says : array_size size ≡ Ok many
  pub equal : words ≡ replicate many (opening_word opening)

-- an instruction that takes a size from the stack, and traps where an array can't have it
abbrev pub Sized : (ℕ → Effect) → Effect
Sized f go stack w = on_top stack (λ v rest. elim (array_size v) [ Ok n ↦ f n go rest w | Err t ↦ Traps t ])

-- how a walk goes on behind what makes an object or finds no memory
abbrev pub next_of : Result (Unit {0}) Memory → Next
next_of (Ok u) = next.On
next_of (Err m) = next.Memory

-- the place of the element that a value names in what another leads to
abbrev pub place_behind : List Seen → (array index : Val) → Result ℕ Trap
place_behind store r i = elim (object_at store r) [ Ok o ↦ element_place o i | Err t ↦ Err t ]

-- fewer than two values
abbrev pub IsShort : List Val → Type 0
IsShort [] = Unit {0}
IsShort (v ∷ []) = Unit {0}
IsShort (v ∷ w ∷ rest) = ⊥
