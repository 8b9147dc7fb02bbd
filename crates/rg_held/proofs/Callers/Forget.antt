-- The managers of regions that don't live any more are forgotten, and the two machines still match: they agree on those of regions that are
-- open, or of which an object is held, and these live.
use Rattle.std.proofs.Common.{◌≡◌, ◌<◌, ℕ, zero, suc, ◌+◌, true, false, if◌then◌else◌, Bool as Truth, List, length, map, Some, option_map}
use Rattle.std.proofs.Common.{inl, inr, refl, sym, ap, ◌∙◌, arith, slice_get, slice_index_or}
use Rattle.std.specs.Prelude.{◌||◌}
use Rattle.std.specs.List.{list_any, range_with_len}
use Rattle.std.proofs.lemmas.List.FromFn.{length-map-range_with_len}
use Rattle.std.proofs.lemmas.Option.{slice_get-map, slice_get-get_or}
use Rattle.std.proofs.lemmas.Bool.{eq-eqb}
use Rattle.std.proofs.lemmas.Map.Keys.{any_passes_from_place}
use Rattle.rg_base.specs.declared.object.Label.TheVariants.{Region}
use Rattle.rg_base.specs.declared.object.Seen.{Seen}
use Rattle.rg_base.specs.declared.value.Val.{Val}
use Rattle.rg_base.specs.declared.words.Manager.{Manager}
use Rattle.rg_base.specs.declared.words.Manager.TheVariants.{Arena}
use Rattle.rg_stack.specs.Machine.{Window, Machine}
use Rattle.rg_stack.specs.Tops.{Work}
use Rattle.rg_stack.specs.Labels.{is_open, lies_in}
use Rattle.rg_held.specs.Frees.{lives, forgotten}
use Rattle.rg_held.specs.Part.{Part}
use Rattle.rg_held.specs.Ends.{Match}
use Rattle.rg_held.proofs.Parts.Part.{part-beside}

-- elements of lists that are made of their places

pub numbers-at : (a n k j : ℕ) → k < n → a + k ≡ j → slice_get (range_with_len a n) k ≡ Some j
numbers-at a zero k j less e = absurd (omega (arith, less))
numbers-at a (suc n) zero j less e = let same : a ≡ j = omega (arith, e) in ap Some same
numbers-at a (suc n) (suc k) j less e = numbers-at (a + 1) n k j (omega (arith, less)) (omega (arith, e))

pub made-at : {A : Type 0} (f : ℕ → A) (n k : ℕ) → k < n → slice_get (map f (range_with_len 0 n)) k ≡ Some (f k)
made-at f n k less = slice_get-map f (range_with_len 0 n) k ∙ ap (option_map f) (numbers-at 0 n k k less (omega arith))

module _ (x : Machine) where
  -- the managers of regions that live
  abbrev pub remembered : List Manager
  remembered = map (λ r. if lives x r then slice_index_or x.managers r Arena else Arena) (range_with_len 0 (length x.managers))

  pub remembered-made : length remembered ≡ length x.managers
  remembered-made = length-map-range_with_len (λ r. if lives x r then slice_index_or x.managers r Arena else Arena) 0 (length x.managers)

  -- what lives has the same one
  pub same-manager : (r : ℕ) → r < length x.managers → lives x r ≡ true → slice_get remembered r ≡ slice_get x.managers r
  same-manager r less e = made-at (λ r. if lives x r then slice_index_or x.managers r Arena else Arena) (length x.managers) r less
      ∙ ap (λ b. Some (if b then slice_index_or x.managers r Arena else Arena)) e ∙ sym (slice_get-get_or x.managers r Arena less)

  -- an open region lives, and one in which an object lies
  pub open-lives : (r : ℕ) → is_open x.windows r ≡ true → lives x r ≡ true
  open-lives r e = ap (λ b. b || list_any (λ (o : Seen). lies_in r o.label) x.store) e

  pub object-lives : (a : ℕ) (o : Seen) (r : ℕ) → slice_get x.store a ≡ Some o → o.label ≡ Region r → lives x r ≡ true
  object-lives a o r there lies = by (is_open x.windows r)
      (any_passes_from_place (λ (o : Seen). lies_in r o.label) x.store a o there (ap (lies_in r) lies ∙ eq-eqb r r refl))
    where
      by : (b : Truth) → list_any (λ (o : Seen). lies_in r o.label) x.store ≡ true
          → (b || list_any (λ (o : Seen). lies_in r o.label) x.store) ≡ true
      by true e = refl
      by false e = e

-- all regions that are open are so in these windows
pub part-remembers : (held : ℕ → Truth) (owners : List Val) (f m : Machine) (stack : List Val) → Part held owners f m stack → (ws : List Window)
    → ((r : ℕ) → is_open m.windows r ≡ true → is_open ws r ≡ true)
    → Part held owners (record f { managers = remembered (record f { windows = ws }) }) m stack
part-remembers held owners f m stack p ws opened =
    part-beside held owners f m stack p f.frames m.frames (remembered x) m.managers f.at m.at owners stack p.frames p.at
    (remembered-made x ∙ p.managers_made) (omega arith)
    (λ r e. same-manager x r (below r (p.tidy.regions r e)) (open-lives x r (opened r e)) ∙ p.open_managers r e)
    (λ a o r h there lies. same-manager x r (below r (p.tidy.labels a o r there lies)) (object-lives x a o r (p.same a h ∙ there) lies)
    ∙ p.held_managers a o r h there lies) p.slots p.on_stack (λ r c s. inl s) (λ r c any. inr any)
  where
    x : Machine
    x = record f { windows = ws }

    below : (r : ℕ) → r < length m.managers → r < length f.managers
    below r e = let s = p.managers_made in omega (arith, s, e)

pub part-forgets : (held : ℕ → Truth) (owners : List Val) (u : Work) (m : Machine) (stack : List Val) → Part held owners u.machine m stack
    → Part held owners (forgotten u).machine m stack
part-forgets held owners u m stack p =
    part-remembers held owners u.machine m stack p u.machine.windows (λ r e. ap (λ ws. is_open ws r) p.windows ∙ e)

pub match-forgets : (owners : List Val) (u w : Work) (stack : List Val) → Match owners u w stack → Match owners (forgotten u) w stack
match-forgets owners u w stack m = (
  m.0,
  record { machine = part-forgets m.0 owners u w.machine stack m.1.machine; input = m.1.input; printed = m.1.printed },
)
