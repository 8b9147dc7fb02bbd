-- A value may stand in a slot: the slot is one of the topmost window's, or the value leads into no open region.
use Rattle.std.proofs.Common.{◌≡◌, inl, inr, ℕ, true, false, true≢false, not, ◌||◌, List, [], ◌∷◌, Option, Some, None}
use Rattle.std.proofs.Common.{option_and_then, slice_get, refl, sym, ap, ◌∙◌}
use Rattle.std.proofs.lemmas.Bool.{or_right}
use Rattle.std.specs.Prelude.{nat_le}
use Rattle.rg_base.specs.declared.words.Cap.TheVariants.{Mut, Tmp, Paused, Imm, Iso}
use Rattle.rg_base.specs.declared.ty.Ty.{Ty}
use Rattle.rg_base.specs.declared.ty.Ty.TheVariants as ty
use Rattle.rg_base.specs.declared.object.Label.{Label}
use Rattle.rg_base.specs.declared.object.Label.TheVariants.{Region, Temp, Frozen}
use Rattle.rg_base.specs.declared.object.Seen.{Seen}
use Rattle.rg_base.specs.declared.value.Val.{Val}
use Rattle.rg_base.specs.declared.value.Val.TheVariants as val
use Rattle.rg_tree.specs.Tree.{Class}
use Rattle.rg_rules.specs.Capabilities.{is_iso, stays_at_depth}
use Rattle.rg_rules.specs.Regions.{region_of}
use Rattle.rg_rules.specs.State.{Frame as Body, Window as Opened}
use Rattle.rg_sound.specs.Values.{Meets}
use Rattle.rg_sound.proofs.Owners.Open.{open-owned}
use Rattle.rg_sound.proofs.Values.Right.{OwnsFreshAs}
use Rattle.rg_stack.specs.Machine.{Window, Machine, place_of}
use Rattle.rg_stack.specs.Effects.{begins_by}
use Rattle.rg_stack.specs.Needs.{is_open_label, leads_open, may_keep}
use Rattle.rg_stack.specs.Places.{top_base}
use Rattle.rg_stack.specs.Labels.{is_open}
use Rattle.rg_stack.proofs.Callers.List.{refused}
use Rattle.rg_stack.proofs.Callers.Lead.{ShowsFit, LeadsInto, open-shown}
use Rattle.rg_stack.proofs.Needs.Closed.{iso-owns}

-- a value that leads into no open region
not-open : (m : Machine) (v : Val) → ((r : ℕ) → LeadsInto m.store r v → is_open m.windows r ≡ true → ⊥) → leads_open m v ≡ false
not-open m val.Nil never = refl
not-open m (val.Int z) never = refl
not-open m (val.Bool b) never = refl
not-open m (val.Obj a) never = by (slice_get m.store a) refl
  where
    of_label : (l : Label) → ((r : ℕ) → region_of l ≡ Some r → is_open m.windows r ≡ true → ⊥) → is_open_label m.windows l ≡ false
    of_label (Region r) h = refused (is_open m.windows) r (h r refl)
    of_label (Temp n) h = refl
    of_label Frozen h = refl

    by : (q : Option Seen) → slice_get m.store a ≡ q →
        elim (option_and_then (λ (o : Seen). Some o.label) q) [ None ↦ false | Some l ↦ is_open_label m.windows l ] ≡ false
    by None at = refl
    by (Some o) at = of_label o.label (λ r e. never r
        (record { address = a; value = refl; lies = ap (option_and_then (λ (o : Seen). region_of o.label)) at ∙ e }))

-- one of a type that may be assigned from inside a window, and isn't `iso`
pub plain-open : (m : Machine) (ws : List Opened) (t : Ty) (v : Val) → Meets m.store ws t v → is_iso t ≡ false → stays_at_depth t ≡ false →
    leads_open m v ≡ false
plain-open m ws ty.Int val.Nil meets iso stays = absurd meets
plain-open m ws ty.Int (val.Int z) meets iso stays = refl
plain-open m ws ty.Int (val.Bool b) meets iso stays = absurd meets
plain-open m ws ty.Int (val.Obj a) meets iso stays = absurd meets
plain-open m ws ty.Bool val.Nil meets iso stays = absurd meets
plain-open m ws ty.Bool (val.Int z) meets iso stays = absurd meets
plain-open m ws ty.Bool (val.Bool b) meets iso stays = refl
plain-open m ws ty.Bool (val.Obj a) meets iso stays = absurd meets
plain-open m ws (ty.Ref Mut c) v meets iso stays = absurd (true≢false stays)
plain-open m ws (ty.Ref Tmp c) v meets iso stays = absurd (true≢false stays)
plain-open m ws (ty.Ref Paused c) v meets iso stays = absurd (true≢false stays)
plain-open m ws (ty.Ref Imm c) val.Nil meets iso stays = refl
plain-open m ws (ty.Ref Imm c) (val.Int z) meets iso stays = absurd meets
plain-open m ws (ty.Ref Imm c) (val.Bool b) meets iso stays = absurd meets
plain-open m ws (ty.Ref Imm c) (val.Obj a) meets iso stays =
    ap (λ q. elim (option_and_then (λ (o : Seen). Some o.label) q) [ None ↦ false | Some l ↦ is_open_label m.windows l ]) meets.there
    ∙ ap (is_open_label m.windows) meets.label_fits
plain-open m ws (ty.Ref Iso c) v meets iso stays = absurd (true≢false iso)

-- an `iso` one that is owned nowhere
pub fresh-open : (classes : List Class) (m : Machine) (bodies : List Body) (opened : List Opened) → ShowsFit classes m bodies opened →
    (t : Ty) (v : Val) → is_iso t ≡ true → OwnsFreshAs classes m.store bodies t v → leads_open m v ≡ false
fresh-open classes m bodies opened d t v iso fresh = not-open m v (λ r l o.
    let f = fresh r (iso-owns m.store t v r iso l) in
    elim (open-owned classes m.store bodies opened d.fits.opened.owned r (open-shown d.sizes m.windows opened r d.windows o)) [
      | inl e ↦ f.0 e
      | inr p ↦ f.1 p.0 p.1
    ])

-- where the topmost window begins
pub base-by : (ws : List Window) (n : ℕ) → begins_by ws n ≡ true → nat_le (top_base ws) n ≡ true
base-by [] n e = absurd (true≢false (sym e))
base-by (w ∷ ws) n e = e

pub keep-here : (m : Machine) (s : ℕ) (v : Val) → nat_le (top_base m.windows) (place_of m.frames s) ≡ true → may_keep m s v ≡ true
keep-here m s v e = ap (λ b. b || not (leads_open m v)) e

pub keep-away : (m : Machine) (s : ℕ) (v : Val) → leads_open m v ≡ false → may_keep m s v ≡ true
keep-away m s v e = or_right (nat_le (top_base m.windows) (place_of m.frames s)) (not (leads_open m v)) (ap not e)
