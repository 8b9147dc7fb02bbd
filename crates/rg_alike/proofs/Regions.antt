-- The same objects are held by the classes of either of two programs that are the same but for the lines that no mark has.
use Rattle.std.proofs.Common.{◌≡◌, sym, ap, ◌∙◌, subst, ℕ, ◌++◌, true, List, [], map, length}
use Rattle.rg_base.specs.declared.object.Label.{Label}
use Rattle.rg_base.specs.declared.object.Label.TheVariants.{Region, Temp, Frozen}
use Rattle.rg_tree.specs.Tree.{Class}
use Rattle.rg_rules.specs.State.{Window, State}
use Rattle.rg_rules.specs.Regions.{joined_with, among, beneath}
use Rattle.rg_rules.specs.Owners.{led_from_frames, is_temp_of, live}
use Rattle.rg_sound.specs.Held.{HoldsLabel, IsHeld}
use Rattle.rg_lines.specs.Unlined.{classes_unlined}
use Rattle.rg_lines.proofs.Regions.{led_from-unlined, beneath-unlined}

live-unlined : (cs : List Class) (s : State) → live (classes_unlined cs) s ≡ live cs s
live-unlined cs s =
    let first : List ℕ → List ℕ = λ ns. map (λ (w : Window). w.region) s.windows ++ led_from_frames s.store s.frames ++ ns in
    ap (λ ns. beneath (classes_unlined cs) s.store (length s.managers) (joined_with [] (first ns)))
    (led_from-unlined cs s.store (is_temp_of s.windows) s.store)
    ∙ beneath-unlined cs s.store (length s.managers) _

pub live-alike : (cs ds : List Class) → classes_unlined cs ≡ classes_unlined ds → (s : State) → live cs s ≡ live ds s
live-alike cs ds e s = sym (live-unlined cs s) ∙ (ap (λ ks. live ks s) e ∙ live-unlined ds s)

module _ (cs ds : List Class) (s : State) (same : live cs s ≡ live ds s) where
  label-alike : (l : Label) → HoldsLabel cs s l → HoldsLabel ds s l
  label-alike (Region r) h = subst (λ (ns : List ℕ). among ns r ≡ true) same h
  label-alike (Temp n) h = h
  label-alike Frozen h = h

  pub held-alike : (a : ℕ) → IsHeld cs s a → IsHeld ds s a
  held-alike a h = record { object = h.object; there = h.there; held = label-alike h.object.label h.held }
