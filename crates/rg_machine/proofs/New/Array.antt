-- What an instruction does that makes an array, wherever it is made.
use Rattle.std.proofs.Common.{◌≡◌, ℕ, zero, suc, true, false, List, [], ◌∷◌, ◌++◌, map, replicate, length, Result, Ok, Err, OnOk, OnErr}
use Rattle.std.proofs.Common.{not, ◌&&◌, slice_get, unwrap_or, refl, sym, ap, subst, ◌∙◌}
use Rattle.std.proofs.lemmas.Bool.{false≢true}
use Rattle.rg_base.specs.declared.fault.Memory.{Memory}
use Rattle.rg_base.specs.declared.object.Label.{Label}
use Rattle.rg_base.specs.declared.object.Label.TheVariants.{Region, Temp}
use Rattle.rg_base.specs.declared.object.Seen.{Seen}
use Rattle.rg_base.specs.declared.outcome.Trap.{Trap}
use Rattle.rg_base.specs.declared.value.Val.{Val}
use Rattle.rg_base.specs.declared.value.Val.TheVariants.{Obj}
use Rattle.rg_base.specs.declared.value.Word.{Word}
use Rattle.rg_base.specs.declared.value.Word.TheVariants as word
use Rattle.rg_base.specs.declared.words.Manager.{Manager}
use Rattle.rg_rules.specs.RightSides.{array_size}
use Rattle.rg_stack.specs.Machine.{Machine, value_of_word}
use Rattle.rg_stack.specs.Effects.{Go, Traps, opening_element, with_store}
use Rattle.rg_stack.specs.Tops.{top_region, top_window}
use Rattle.rg_code.specs.Code.{Code}
use Rattle.rg_stack.specs.Needs.{is_closed, leads_nowhere, of_top, opens_plain}
use Rattle.rg_stack.specs.Refusals.{Takes}
use Rattle.rg_stack.proofs.Basics.{and-left}
use Rattle.rg_view.specs.View.{machine_of}
use Rattle.rg_machine.specs.declared.next.Next.TheVariants as next
use Rattle.rg_machine.specs.Acts.{Acts}
use Rattle.rg_machine.specs.Core.{Core, Effect, with_machine, with_made, with_top, work_of}
use Rattle.rg_machine.specs.Cores.{core_of}
use Rattle.rg_machine.specs.High.{NoneMade, OneMade}
use Rattle.rg_machine.specs.Inner.Arrays.{Sized, Sizes, next_of, opening_word}
use Rattle.rg_machine.specs.Keeps.{backs}
use Rattle.rg_machine.specs.Parts.{Parts, SameStore, machine_in}

-- The words

opening-shown : (ws : List Word) → value_of_word (opening_word ws) ≡ opening_element ws
opening-shown [] = refl
opening-shown (w ∷ ws) = refl

equal-shown : (n : ℕ) (w : Word) → map value_of_word (replicate n w) ≡ replicate n (value_of_word w)
equal-shown zero w = refl
equal-shown (suc n) w = ap (λ vs. value_of_word w ∷ vs) (equal-shown n w)

-- they show the elements
words-shown : (opening words : List Word) (many : ℕ) → words ≡ replicate many (opening_word opening)
    → map value_of_word words ≡ replicate many (opening_element opening)
words-shown opening words many e =
    ap (map value_of_word) e ∙ equal-shown many (opening_word opening) ∙ ap (replicate many) (opening-shown opening)

equal-plain : (w : Word) (n : ℕ) → leads_nowhere (w ∷ []) ≡ true → leads_nowhere (replicate n w) ≡ true
equal-plain word.Nil zero h = refl
equal-plain word.Nil (suc n) h = equal-plain word.Nil n h
equal-plain (word.Int z) zero h = refl
equal-plain (word.Int z) (suc n) h = equal-plain (word.Int z) n h
equal-plain (word.Bool b) zero h = refl
equal-plain (word.Bool b) (suc n) h = equal-plain (word.Bool b) n h
equal-plain (word.Slot s) n h = absurd (false≢true h)

first-plain : (ws : List Word) → leads_nowhere ws ≡ true → leads_nowhere (opening_word ws ∷ []) ≡ true
first-plain [] h = refl
first-plain (word.Nil ∷ ws) h = refl
first-plain (word.Int z ∷ ws) h = refl
first-plain (word.Bool b ∷ ws) h = refl
first-plain (word.Slot s ∷ ws) h = absurd (false≢true h)

-- none of them leads anywhere, where the class opens so
pub words-plain : (code : Code) (class : ℕ) (old mid : Core) (words : List Word)
    → Sizes old mid (unwrap_or (slice_get code.openings class) []) words
    → of_top old.stack (λ v rest. opens_plain code class && not (is_closed old.machine v)) ≡ true → leads_nowhere words ≡ true
words-plain code class old mid words z given =
    let P : Core → Type 0 = λ c. of_top c.stack (λ v rest. opens_plain code class && not (is_closed c.machine v)) ≡ true in
    let opening = unwrap_or (slice_get code.openings class) [] in
    ap leads_nowhere z.equal
    ∙ equal-plain (opening_word opening) z.many
    (first-plain opening (and-left (opens_plain code class) (not (is_closed mid.machine z.size)) (subst P z.top given)))

-- The store stays

pub machine-same : (old new : Parts) → SameStore old new → machine_in new ≡ machine_in old
machine-same old new s =
    ap (λ h. machine_of h new.frames new.at) s.heap ∙ ap (λ v. machine_of old.heap v new.at) s.frames
    ∙ ap (machine_of old.heap old.frames) s.at

none-same : (old new : Parts) → SameStore old new → NoneMade old.heap new.heap
none-same old new s = subst (λ h. NoneMade old.heap h) (sym s.heap) (record { made = refl; high = refl })

-- No array is made

module _ (f : ℕ → Effect) (at : ℕ) (old new : Parts) (s : SameStore old new) where
  pub size-trapped : (v : Val) (k : Trap) → core_of old ≡ with_top (core_of new) v → array_size v ≡ Err k
      → Acts (Sized f) at Takes false true old new (next.Trap k)
  size-trapped v k top says = record {
    effect = λ go input.
        ap (λ (c : Core). Sized f go c.stack (work_of c input)) top
        ∙ ap (λ r. elim r [ Ok n ↦ f n go (core_of new).stack (work_of (core_of new) input) | Err t ↦ Traps t ]) says;
    keeps = machine-same old new s;
    high = none-same old new s;
  }

  pub size-lost : (core_of old).stack ≡ [] → Acts (Sized f) at Takes false true old new next.Lost
  size-lost none = record {
    effect = λ go input. ap (λ vs. Sized f go vs (work_of (core_of old) input)) none;
    keeps = tt;
    high = tt;
  }

  pub no-memory : Acts (Sized f) at Takes false true old new next.Memory
  no-memory = record { effect = tt; keeps = machine-same old new s; high = tt }

-- An array is made

-- a new array of so many elements, whose class opens so
abbrev with_array : (class : ℕ) → (opening : List Word) → Label → ℕ → Effect
with_array class opening label n go rest w =
    let o : Seen = record { class = class; fields = replicate n (opening_element opening); label = label } in
    go 0 (Obj (length w.machine.store) ∷ rest) (with_store w (w.machine.store ++ o ∷ []))

-- of the active region, of the topmost window, or the bridge of a region
abbrev pub plain_array : List Word → (class : ℕ) → ℕ → Effect
plain_array opening class n go rest w = with_array class opening (Region (top_region w.machine.windows)) n go rest w

abbrev pub temp_array : List Word → (class : ℕ) → ℕ → Effect
temp_array opening class n go rest w = with_array class opening (Temp (top_window w.machine.windows)) n go rest w

abbrev pub iso_array : List Word → (class : ℕ) → Manager → ℕ → Effect
iso_array opening class manager n go rest w =
    with_array class opening (Region (length w.machine.managers)) n go rest
    (record w { machine = record w.machine { managers = w.machine.managers ++ manager ∷ [] } })

module _ (at : ℕ) (old mid new : Parts) (opening words : List Word) (z : Sizes (core_of old) (core_of mid) opening words)
    (s : SameStore old mid) (r : Result (Unit {0}) Memory) (same : OnErr r (machine_in new ≡ machine_in mid))
    (one : OnOk r (OneMade mid.heap new.heap)) where
  module _ (f : ℕ → Effect) (after : Core) (frames : after.machine.frames ≡ (machine_in mid).frames)
      (does : (go : Go) (input : List ℕ)
      → f z.many go (core_of mid).stack (work_of (core_of mid) input) ≡ go 0 after.stack (work_of after input)) where
    acts : OnOk r (core_of new ≡ after) → Acts (Sized f) at Takes false true old new (next_of r)
    acts is = by r is same one
      where
        by : (r : Result (Unit {0}) Memory) → OnOk r (core_of new ≡ after) → OnErr r (machine_in new ≡ machine_in mid)
            → OnOk r (OneMade mid.heap new.heap) → Acts (Sized f) at Takes false true old new (next_of r)
        by (Ok u) is same one = record {
          effect = λ go input.
              ap (λ (c : Core). Sized f go c.stack (work_of c input)) z.top
              ∙ ap (λ q. elim q [ Ok n ↦ f n go (core_of mid).stack (work_of (core_of mid) input) | Err t ↦ Traps t ]) z.says
              ∙ does go input ∙ sym (ap (λ (c : Core). go 0 c.stack (work_of c input)) is);
          keeps =
              ap (λ (c : Core). backs c.machine.frames) is ∙ ap backs frames
              ∙ ap (λ (m : Machine). backs m.frames) (machine-same old mid s);
          high = subst (λ h. OneMade h new.heap) s.heap one;
        }
        by (Err m) is same one = record { effect = tt; keeps = same ∙ machine-same old mid s; high = tt }

  -- the fields are those that the words show
  array-made : (class : ℕ) (c : Core) (label : Label) (go : Go) (input : List ℕ)
      → with_array class opening label z.many go c.stack (work_of c input)
      ≡ (let n = with_made c class (map value_of_word words) label in go 0 n.stack (work_of n input))
  array-made class c label go input =
      ap (λ vs. (let n = with_made c class vs label in go 0 n.stack (work_of n input))) (sym (words-shown opening words z.many z.equal))

  pub plain-acts : (class : ℕ)
      → OnOk r (core_of new ≡ with_made (core_of mid) class (map value_of_word words) (Region (top_region (machine_in mid).windows)))
      → Acts (Sized (plain_array opening class)) at Takes false true old new (next_of r)
  plain-acts class is =
      acts (plain_array opening class) (with_made (core_of mid) class (map value_of_word words) (Region (top_region (machine_in mid).windows))) refl
      (array-made class (core_of mid) (Region (top_region (machine_in mid).windows))) is

  pub temp-acts : (class : ℕ)
      → OnOk r (core_of new ≡ with_made (core_of mid) class (map value_of_word words) (Temp (top_window (machine_in mid).windows)))
      → Acts (Sized (temp_array opening class)) at Takes false true old new (next_of r)
  temp-acts class is =
      acts (temp_array opening class) (with_made (core_of mid) class (map value_of_word words) (Temp (top_window (machine_in mid).windows))) refl
      (array-made class (core_of mid) (Temp (top_window (machine_in mid).windows))) is

  pub iso-acts : (class : ℕ) (manager : Manager)
      → OnOk r (core_of new ≡ with_made (with_machine (core_of mid) (record (machine_in mid) {
        managers = (machine_in mid).managers ++ manager ∷ [];
      })) class (map value_of_word words) (Region (length (machine_in mid).managers)))
      → Acts (Sized (iso_array opening class manager)) at Takes false true old new (next_of r)
  iso-acts class manager is =
      let c = with_machine (core_of mid) (record (machine_in mid) { managers = (machine_in mid).managers ++ manager ∷ [] }) in
      acts (iso_array opening class manager) (with_made c class (map value_of_word words) (Region (length (machine_in mid).managers))) refl
      (array-made class c (Region (length (machine_in mid).managers))) is
