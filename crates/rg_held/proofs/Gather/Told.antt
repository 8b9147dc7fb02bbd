-- What is held is told by the machine that frees: an object that is held isn't gone, since no window has the number of those that are.
use Rattle.std.proofs.Common.{◌≡◌, ◌≤◌, ◌<◌, ◌-◌, ◌^◌, inl, inr, ℕ, true, false, Bool as Truth, List, [], ◌∷◌, Option, Some, None, option_map}
use Rattle.std.proofs.Common.{refl, sym, ap, ◌∙◌, arith, slice_get}
use Rattle.std.proofs.lemmas.Option.{same_Some}
use Rattle.std.proofs.lemmas.Bool.{cases_Bool}
use Rattle.rg_base.specs.declared.object.Place.{Place}
use Rattle.rg_base.specs.declared.object.Place.TheVariants as place
use Rattle.rg_base.specs.declared.object.Seen.{Seen}
use Rattle.rg_base.specs.declared.value.Val.{Val}
use Rattle.rg_base.proofs.Callers.Lists.{there as below-get}
use Rattle.rg_stack.specs.Machine.{Window, Machine}
use Rattle.rg_stack.proofs.Basics.{none-some}
use Rattle.rg_held.specs.Gone.{gone}
use Rattle.rg_held.specs.Part.{leads_to, Placed, Part, OwnerHeld, OwnersHeld}
use Rattle.rg_held.proofs.Parts.Half.{around-objects, whole}
use Rattle.rg_held.proofs.Parts.Part.{lead-more, all-more}

module _ (held also : ℕ → Truth) (owners : List Val) (f m : Machine) (stack : List Val) (p : Part held owners f m stack) where
  -- with the same objects held
  pub part-as : ((a : ℕ) → held a ≡ also a) → Part also owners f m stack
  part-as eq = whole also owners f m stack (record {
    around = around-objects held owners f m stack p f.store m.store;
    held_managers = λ a o r here there lies. p.held_managers a o r (eq a ∙ here) there lies;
    objects_made = p.objects_made;
    there = λ a here. p.there a (eq a ∙ here);
    same = λ a here. p.same a (eq a ∙ here);
    others = λ a away. p.others a (eq a ∙ away);
    temps = λ a o n here there l. p.temps a o n (eq a ∙ here) there l;
    slots = λ n h s v there at. lead v (p.slots n h s v there at);
    on_stack = all-more held also stack now p.on_stack;
    fields = λ a o k v here there at. lead v (p.fields a o k v (eq a ∙ here) there at);
    owned = λ a o r here there lies shut. elim (p.owned a o r (eq a ∙ here) there lies shut) [ inl x ↦ inl (placed r x) | inr e ↦ inr e ];
    window_owners = all-owners m.windows p.window_owners;
    tidy = p.tidy;
  }) (λ a o n away there l. p.lost_temps a o n (eq a ∙ away) there l)
    where
      now : (a : ℕ) → held a ≡ true → also a ≡ true
      now a here = sym (eq a) ∙ here

      lead : (v : Val) → leads_to held v ≡ true → leads_to also v ≡ true
      lead v e = lead-more held also v now e

      placed : (r : ℕ) → Placed held m r → Placed also m r
      placed r (inl s) = inl s
      placed r (inr x) = inr (x.0, now x.0.object x.1)

      owner : (ws : List Window) (o : Option Place) → OwnerHeld held m.store ws o → OwnerHeld also m.store ws o
      owner ws None h = tt
      owner ws (Some (place.Var n s)) h = tt
      owner ws (Some (place.Field a k)) h = (now a h.0, h.1)

      all-owners : (ws : List Window) → OwnersHeld held m.store ws → OwnersHeld also m.store ws
      all-owners [] h = tt
      all-owners (w ∷ ws) h = (owner ws w.owner h.0, all-owners ws h.1)

  not-gone : m.windows_made ≤ 2 ^ 64 - 1 → (a : ℕ) → held a ≡ true → slice_get m.store a ≡ Some gone → ⊥
  not-gone few a here there =
      let less : 2 ^ 64 - 1 < m.windows_made = p.tidy.numbers (2 ^ 64 - 1) (p.temps a gone (2 ^ 64 - 1) here there refl) in
      omega (arith, less, few)

  -- what isn't gone is held
  pub held-as : m.windows_made ≤ 2 ^ 64 - 1
      → ((a : ℕ) → also a ≡ true → (o : Seen) × (slice_get f.store a ≡ Some o) × (o ≡ gone → ⊥))
      → ((a : ℕ) (o : Seen) → also a ≡ false → slice_get f.store a ≡ Some o → o ≡ gone)
      → (a : ℕ) → held a ≡ also a
  held-as few there away a = elim (cases_Bool (held a)) [
    | inl here ↦ elim (cases_Bool (also a)) [
      | inl e ↦ here ∙ sym e
      | inr e ↦
          (let o = below-get m.store a (p.there a here) in
          let is : o.0 ≡ gone = away a o.0 e (p.same a here ∙ o.1) in absurd (not-gone few a here (o.1 ∙ ap Some is)))
    ]
    | inr out ↦ elim (cases_Bool (also a)) [
      | inl e ↦ (let o = there a e in absurd (o.2 (is (slice_get m.store a) o.0 (sym (p.others a out) ∙ o.1))))
      | inr e ↦ out ∙ sym e
    ]
  ]
    where
      is : (q : Option Seen) (o : Seen) → option_map (λ (o : Seen). gone) q ≡ Some o → o ≡ gone
      is None o e = none-some o e
      is (Some x) o e = sym (same_Some gone o e)
