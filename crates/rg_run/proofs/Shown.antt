-- What a machine answers for a serial, beside the state that it shows. For callers.
use Rattle.std.proofs.Common.{◌≡◌, ℕ, ◌-◌, ◌^◌, ◌≤◌, Bool as Truth, true, false, map, None}
use Rattle.std.proofs.Common.{refl, ap, subst, arith}
use Rattle.rg_base.specs.declared.object.Label.{Label}
use Rattle.rg_base.specs.declared.object.Seen.{Seen}
use Rattle.rg_tree.specs.Tree.{Tree}
use Rattle.rg_rules.specs.Owners.{is_temp_of}
use Rattle.rg_rules.specs.State.{State, Window as Opened}
use Rattle.rg_sound.specs.Fit.{Fit}
use Rattle.rg_sound.specs.Held.{HoldsLabel, IsHeld}
use Rattle.rg_sound.proofs.Stores.Member.{among-in}
use Rattle.rg_sound.proofs.LocalRoots.{in-number}
use Rattle.rg_held.specs.Gone.{gone}
use Rattle.rg_run.specs.Machine.{Kept, IsShown}
use Rattle.rg_run.specs.Sound.{HoldsOf}

-- no window has the number of what is gone
held-there : (t : Tree) (s : State) → Fit t s → s.windows_made ≤ 2 ^ 64 - 1 → (serial : ℕ) → (h : IsHeld t.classes s serial) → h.object ≡ gone → ⊥
held-there t s fit few serial h is =
    let P : Label → Type 0 = λ q. HoldsLabel t.classes s q in
    let open_now : is_temp_of s.windows gone.label ≡ true = subst P (ap (λ (o : Seen). o.label) is) h.held in
    let x = in-number s.windows (2 ^ 64 - 1) (among-in (map (λ (w : Opened). w.number) s.windows) (2 ^ 64 - 1) open_now) in
    let less = (fit.numbers.given x.0 x.1 x.2).number in
    let at = x.3 in
    omega (arith, less, at, few)

-- and where none is answered the machine holds none, as long as not all numbers of windows are given
pub shown-none : (t : Tree) (m : Kept) (s : State) → Fit t s → s.windows_made ≤ 2 ^ 64 - 1 → (k : HoldsOf t.classes m s) → (serial : ℕ) →
    IsShown m serial None → k.holds serial ≡ false
shown-none t m s fit few k serial none = by (k.holds serial) refl
  where
    by : (b : Truth) → k.holds serial ≡ b → b ≡ false
    by true e =
        let h = k.held serial e in
        absurd (held-there t s fit few serial h (none h.object (k.same serial h.object e h.there)))
    by false e = refl
