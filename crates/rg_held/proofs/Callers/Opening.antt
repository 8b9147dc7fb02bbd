-- At the opening nothing is held, and the machine that frees is the other one.
use Rattle.std.proofs.Common.{◌≡◌, ℕ, zero, suc, ◌<◌, ◌==◌, inl, inr, false, true, Bool as Truth, List, [], ◌∷◌, Some, refl, sym, subst, replicate}
use Rattle.std.proofs.Common.{arith, slice_get}
use Rattle.std.proofs.lemmas.Option.{same_Some}
use Rattle.std.proofs.lemmas.Bool.{eqb-true, or_cases}
use Rattle.std.specs.Prelude.{◌||◌}
use Rattle.rg_base.specs.declared.value.Val.{Val}
use Rattle.rg_base.specs.declared.value.Val.TheVariants as val
use Rattle.rg_tree.specs.Tree.{Tree}
use Rattle.rg_code.specs.Code.{Code}
use Rattle.rg_stack.specs.Machine.{Frame}
use Rattle.rg_stack.specs.Runs.{opening}
use Rattle.rg_stack.proofs.Basics.{none-some}
use Rattle.rg_held.specs.Part.{leads_to, Tidy, Part}
use Rattle.rg_held.specs.Ends.{Match}
use Rattle.rg_held.proofs.Lists.{off}

nil-leads : (test : ℕ → Truth) (n s : ℕ) (v : Val) → slice_get (replicate n val.Nil) s ≡ Some v → leads_to test v ≡ true
nil-leads test zero s v e = none-some v e
nil-leads test (suc n) zero v e = subst (λ x. leads_to test x ≡ true) (same_Some val.Nil v e) refl
nil-leads test (suc n) (suc s) v e = nil-leads test n s v e

main-leads : (test : ℕ → Truth) (size n : ℕ) (h : Frame) (s : ℕ) (v : Val)
    → slice_get (record { slots = replicate size val.Nil; back = 0 } ∷ []) n ≡ Some h → slice_get h.slots s ≡ Some v → leads_to test v ≡ true
main-leads test size zero h s v e f =
    nil-leads test size s v (subst (λ (x : Frame). slice_get x.slots s ≡ Some v)
    (sym (same_Some (record { slots = replicate size val.Nil; back = 0 }) h e)) f)
main-leads test size (suc n) h s v e f = none-some h e

module _ (t : Tree) (code : Code) (input : List ℕ) where
  below-one : (n : ℕ) → ((0 == n) || false) ≡ true → n < 1
  below-one n e = elim (or_cases (0 == n) false e) [ inl h ↦ (let same = eqb-true 0 n h in omega (arith, same)) | inr h ↦ off h ]

  opening-tidy : Tidy (opening t code input).machine
  opening-tidy = record {
    some_window = tt;
    differ = (refl, refl, tt);
    numbers = below-one;
    regions = below-one;
    labels = λ a o r e. none-some o e;
    fields = λ a o k v e. none-some o e;
    inside = λ a o p k v l e. none-some o e;
  }

  opening-part : Part (λ a. false) [] (opening t code input).machine (opening t code input).machine []
  opening-part = record {
    frames = refl;
    windows = refl;
    windows_made = refl;
    at = refl;
    managers_made = refl;
    open_managers = λ r e. refl;
    held_managers = λ a o r h. off h;
    objects_made = refl;
    there = λ a h. off h;
    same = λ a h. off h;
    others = λ a h. refl;
    temps = λ a o n h. off h;
    lost_temps = λ a o n h there. none-some o there;
    slots = main-leads (λ a. false) code.main_slots;
    on_stack = tt;
    fields = λ a o k v h. off h;
    owned = λ a o r h. off h;
    window_owners = (tt, tt);
    tidy = opening-tidy;
  }

  pub opening-match : Match [] (opening t code input) (opening t code input) []
  opening-match = (λ a. false, record { machine = opening-part; input = refl; printed = refl })
