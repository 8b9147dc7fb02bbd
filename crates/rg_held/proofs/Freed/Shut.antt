-- The regions that end with an instruction are closed: what a slot gives up, what a window's temporaries own, and all beneath these.
use Rattle.std.proofs.Common.{◌≡◌, ℕ, true, false, not, Bool as Truth, inl, inr, List, [], ◌∷◌, length, drop, Option, Some, None, Result}
use Rattle.std.proofs.Common.{Ok, Err, refl, sym, ap, subst, ◌∙◌, slice_get}
use Rattle.std.proofs.lemmas.Option.{same_Some}
use Rattle.std.specs.Prelude.{ok_or, ◌||◌, ◌&&◌}
use Rattle.std.specs.List.{list_any}
use Rattle.rg_base.specs.declared.object.Seen.{Seen}
use Rattle.rg_base.specs.declared.outcome.Trap.{Trap}
use Rattle.rg_base.specs.declared.outcome.Trap.TheVariants as trap
use Rattle.rg_base.specs.declared.value.Val.{Val}
use Rattle.rg_base.specs.declared.value.Val.TheVariants as val
use Rattle.rg_rules.specs.Evaluation.{object_at}
use Rattle.rg_rules.specs.Regions.{region_of}
use Rattle.rg_sound.proofs.Stores.Member.{In}
use Rattle.rg_code.specs.declared.op.Op.{Op}
use Rattle.rg_code.specs.declared.op.Op.TheVariants as i
use Rattle.rg_code.specs.Code.{Code}
use Rattle.rg_stack.specs.Machine.{Window, Machine, slot_at, top_slots}
use Rattle.rg_stack.specs.Effects.{beneath_by_labels}
use Rattle.rg_stack.specs.Needs.{is_closed, closed_into, owned_once, owns_or_nil, needs}
use Rattle.rg_stack.specs.Labels.{is_open}
use Rattle.rg_stack.proofs.Basics.{none-some, and-right}
use Rattle.rg_held.specs.Frees.{Given, given_up, regions_freed, closed_among, window_that_ends, top_value}
use Rattle.rg_held.specs.Part.{Part}
use Rattle.rg_held.proofs.Lists.{off}
use Rattle.rg_held.proofs.Places.{closed-back}
use Rattle.rg_held.proofs.Parts.Burial.{freed-closed}
use Rattle.rg_held.proofs.Acts.Release.{given-back}
use Rattle.rg_held.proofs.Acts.Leave.{closed-given}
use Rattle.rg_held.proofs.Acts.Consume.{closed-region}
use Rattle.rg_held.proofs.Walks.Less.{Test}
use Rattle.rg_held.proofs.Walks.Walk.{PassesTest}

-- the region of what a slot leads to
abbrev pub region_in : Machine → (slot : ℕ) → Option ℕ
region_in m s = elim (object_at m.store (slot_at m s)) [ Ok o ↦ region_of o.label | Err t ↦ None ]

-- a region with all beneath it, or alone
abbrev pub ended_with : (all : Truth) → Machine → Option ℕ → List ℕ
ended_with all m None = []
ended_with true m (Some r) = beneath_by_labels m.store (length m.managers) (r ∷ [])
ended_with false m (Some r) = r ∷ []

-- what is freed, if something is given up
abbrev pub freed_with : Machine → Option Given → List ℕ
freed_with m None = []
freed_with m (Some g) = regions_freed m g

-- the regions that end with an instruction
abbrev pub ended : Op → List Val → Machine → List ℕ
ended (i.Freeze s) stack m = ended_with true m (region_in m s)
ended (i.Merge s) stack m = ended_with false m (region_in m s)
ended o stack m = freed_with m (given_up o stack m)

-- none of them is open
abbrev pub shut : Test
shut o stack m = not (list_any (is_open m.windows) (ended o stack m))

-- none of these is open
abbrev pub AllShut : List Window → List ℕ → Type 0
AllShut ws rs = (r : ℕ) → In r rs → is_open ws r ≡ false

pub all-shut : (ws : List Window) (rs : List ℕ) → not (list_any (is_open ws) rs) ≡ true → AllShut ws rs
all-shut ws [] e r i = absurd i
all-shut ws (q ∷ rs) e r i = by (is_open ws q) refl e i (all-shut ws rs)
  where
    by : (b : Truth) → is_open ws q ≡ b → not (b || list_any (is_open ws) rs) ≡ true → In r (q ∷ rs)
        → (not (list_any (is_open ws) rs) ≡ true → AllShut ws rs) → is_open ws r ≡ false
    by true o e i rest = off e
    by false o e (inl same) rest = subst (λ n. is_open ws n ≡ false) same o
    by false o e (inr more) rest = rest e r more

none-open : (ws : List Window) (rs : List ℕ) → AllShut ws rs → not (list_any (is_open ws) rs) ≡ true
none-open ws [] h = refl
none-open ws (r ∷ rs) h =
    ap (λ b. not (b || list_any (is_open ws) rs)) (h r (inl refl)) ∙ none-open ws rs (λ q i. h q (inr i))

-- what is given up is closed

among-shut : (m : Machine) (vs : List Val) → AllShut m.windows (closed_among m vs)
among-shut m vs r i = let h = given-back (closed_into m) vs r i in (closed-back m h.1.0 r h.1.2).closed

-- an object to which a value leads stands in the store
pub object-there : (store : List Seen) (v : Val) (o : Seen) → object_at store v ≡ Ok o
    → (a : ℕ) × (v ≡ val.Obj a) × (slice_get store a ≡ Some o)
object-there store val.Nil o e = cc
object-there store (val.Int z) o e = cc
object-there store (val.Bool b) o e = cc
object-there store (val.Obj a) o e = (a, refl, there (slice_get store a) e)
  where
    there : (x : Option Seen) → ok_or x trap.Nil ≡ Ok o → x ≡ Some o
    there None e = cc
    there (Some u) e = ap (λ (y : Result Seen Trap). elim y [ Ok z ↦ Some z | Err t ↦ None ]) e

-- an owner leads into a closed region
value-shut : (m : Machine) (v : Val) → owns_or_nil m v ≡ true → (x : Result Seen Trap) → object_at m.store v ≡ x → (r : ℕ)
    → elim x [ Ok o ↦ region_of o.label | Err t ↦ None ] ≡ Some r → is_open m.windows r ≡ false
value-shut m v h (Err t) e r is = none-some r is
value-shut m v h (Ok o) e r is =
    let at = object-there m.store v o e in
    let c = closed-region m at.0 o at.2 (subst (λ x. owns_or_nil m x ≡ true) at.1 h) in
    subst (λ n. is_open m.windows n ≡ false) (same_Some c.0 r (sym (ap region_of c.1) ∙ is)) c.2

module _ (held : ℕ → Truth) (owners : List Val) (f m : Machine) (stack : List Val) (p : Part held owners f m stack) where
  beneath-shut : (rs : List ℕ) → AllShut f.windows rs → AllShut f.windows (beneath_by_labels f.store (length f.managers) rs)
  beneath-shut rs h r i = ap (λ ws. is_open ws r) p.windows
      ∙ freed-closed held owners f m stack p rs None (λ q j. sym (ap (λ ws. is_open ws q) p.windows) ∙ h q j) r i

  slot-shut : (all : Truth) (s : ℕ) → owns_or_nil f (slot_at f s) ≡ true → AllShut f.windows (ended_with all f (region_in f s))
  slot-shut all s h = by all (region_in f s) (value-shut f (slot_at f s) h (object_at f.store (slot_at f s)) refl)
    where
      alone : (r : ℕ) → is_open f.windows r ≡ false → AllShut f.windows (r ∷ [])
      alone r c q (inl same) = subst (λ n. is_open f.windows n ≡ false) same c
      alone r c q (inr none) = absurd none

      by : (all : Truth) (o : Option ℕ) → ((r : ℕ) → o ≡ Some r → is_open f.windows r ≡ false) → AllShut f.windows (ended_with all f o)
      by all None h = λ q j. absurd j
      by true (Some r) h = beneath-shut (r ∷ []) (alone r (h r refl))
      by false (Some r) h = alone r (h r refl)

  pub ended-shut : (code : Code) (o : Op) (st : List Val) → needs code o st f ≡ true → AllShut f.windows (ended o st f)
  ended-shut code (i.Own s) st n = beneath-shut _ (among-shut f (slot_at f s ∷ []))
  ended-shut code (i.Freeze s) st n =
      slot-shut true s (and-right (not (list_any (is_closed f) st) && owned_once f) (owns_or_nil f (slot_at f s)) n)
  ended-shut code (i.Merge s) st n =
      slot-shut false s (and-right (not (list_any (is_closed f) st) && owned_once f) (owns_or_nil f (slot_at f s)) n)
  ended-shut code i.Ret st n = beneath-shut _ (among-shut f (top_slots f.frames))
  ended-shut code i.RetVoid st n = beneath-shut _ (among-shut f (top_slots f.frames))
  ended-shut code (i.Leave s) st n = beneath-shut _ (closed-given f s (window_that_ends f.windows))
  ended-shut code (i.LeaveGiving v s) st n = beneath-shut _ (closed-given f s (window_that_ends f.windows))
  ended-shut code (i.End s) st n = beneath-shut _ (among-shut f (drop s (top_slots f.frames)))
  ended-shut code i.Pop st n = beneath-shut _ (among-shut f (top_value st))
  ended-shut code i.Drop st n = beneath-shut _ (among-shut f (top_value st))
  ended-shut code o st n = λ r i. absurd i

pub shut-passes : (code : Code) → PassesTest shut code
shut-passes code o taken stack u w n given m = none-open u.machine.windows (ended o stack u.machine)
    (ended-shut m.0 _ u.machine w.machine stack m.1.machine code o stack given)
