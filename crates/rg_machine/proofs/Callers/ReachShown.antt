-- The machine's heap beside a state of the machine that never frees: what the state has at the serial of a cell, its topmost window, and where
-- its topmost window's roots lead.
use Rattle.std.proofs.Common.{◌≡◌, ◌⊎◌, inl, inr, ℕ, zero, suc, ◌-◌, ◌==◌, ◌||◌, Bool as Truth, true, false, if◌then◌else◌, List, [], ◌∷◌, ◌++◌, map}
use Rattle.std.proofs.Common.{length, take, reverse, Option, Some, option_map, option_and_then, option_to_list, slice_get}
use Rattle.std.proofs.Common.{refl, sym, ap, ◌∙◌, subst, arith}
use Rattle.std.proofs.lemmas.Bool.{false≢true}
use Rattle.std.proofs.lemmas.Option.{none-some, same_Some}
use Rattle.rg_base.specs.declared.object.Label.{Label}
use Rattle.rg_base.specs.declared.object.Label.TheVariants.{Region, Temp, Frozen}
use Rattle.rg_base.specs.declared.object.Place.{Place}
use Rattle.rg_base.specs.declared.object.Place.TheVariants as place
use Rattle.rg_base.specs.declared.object.Seen.{Seen}
use Rattle.rg_base.specs.declared.value.Val.TheVariants as val
use Rattle.rg_tree.specs.Tree.{Tree}
use Rattle.rg_rules.specs.Reach.{addresses, is_temp, led_from_temps, locals_from, starts, value_at}
use Rattle.rg_rules.specs.Regions.{address, region_at, region_of}
use Rattle.rg_rules.specs.State.{Local, State, Window as OpenedRow}
use Rattle.rg_sound.specs.Fit.{Fit}
use Rattle.rg_sound.proofs.Stores.Member.{In, in-left, in-right, in-split}
use Rattle.rg_sound.proofs.LocalRoots.{label-region}
use Rattle.rg_code.specs.Code.{Code}
use Rattle.rg_cells.specs.declared.cell.Body.{Body}
use Rattle.rg_cells.specs.Table.{Heap, body_at, label_at, Serials}
use Rattle.rg_regions.specs.Grove.{Grove}
use Rattle.rg_regions.specs.Reach.{LiesIn}
use Rattle.rg_frames.specs.declared.rows.Window.{Window as WindowRow}
use Rattle.rg_frames.specs.Stack.{Stack}
use Rattle.rg_stack.specs.Machine.{Frame, Machine, Window}
use Rattle.rg_stack.specs.Labels.{has_window}
use Rattle.rg_stack.specs.Shows.{Shows, ShowsFrames, ShowsWindows, place_among, sizes_of}
use Rattle.rg_heap.specs.Parts.{Parts}
use Rattle.rg_view.specs.View.{frames_of, machine_of, number_in, object_of, window_of, windows_of}
use Rattle.rg_view.proofs.Callers.Look.{store-held}
use Rattle.rg_view.proofs.Callers.Window.{top-window}
use Rattle.rg_held.specs.Part.{OwnerHeld, OwnersHeld, Part}
use Rattle.rg_view.proofs.Callers.Link.{label-in as label-there}
use Rattle.rg_machine.specs.Collects.{holds}
use Rattle.rg_machine.specs.Stands.{Stands}
use Rattle.rg_machine.proofs.Callers.Collect.{Active}
use Rattle.rg_machine.proofs.Callers.Gather.{holds-back, holds-there}
use Rattle.rg_machine.proofs.Callers.ReachPath.{addresses-back, addresses-in}

-- the machine's heap shows a part of the machine over the growing store, which shows a state that fits
pub record Beside (p : Parts) (v : Stack) (at : ℕ) (t : Tree) (code : Code) (s : State) (m : Machine) : Type 0 where
  pub serials : Serials p.cells.heap
  pub grove : Grove p.cells p.regions
  pub stands : Stands p v
  pub fit : Fit t s
  pub shows : Shows t.classes code m s
  pub part : Part (holds p.cells.heap) [] (machine_of p v at) m []

-- a held cell with a serial
pub record CellOf (h : Heap) (n : ℕ) : Type 0 where
  pub slot : ℕ
  pub body : Body
  pub held : body_at h slot ≡ Some body
  pub serial : body.serial ≡ n

pub label-of : (h : Heap) (x : ℕ) (b : Body) (l : Label) → body_at h x ≡ Some b → label_at h x ≡ Some l → b.label ≡ l
label-of h x b l e is = same_Some b.label l (sym (ap (option_map (λ (b : Body). b.label)) e) ∙ is)

-- the topmost window of the state
pub record TopShown (sizes : List ℕ) (window : WindowRow) (region : ℕ) (ws : List OpenedRow) : Type 0 where
  pub top : OpenedRow
  pub rest : List OpenedRow
  pub is : ws ≡ top ∷ rest
  pub number : window.number ≡ top.number
  pub region_is : region ≡ top.region
  pub owner : window.owner ≡ top.owner
  pub base : window.base ≡ place_among sizes top.base_frame top.base_place

module _ (p : Parts) (v : Stack) (at : ℕ) (t : Tree) (code : Code) (s : State) (m : Machine) (z : Beside p v at t code s m) where
  abbrev h : Heap
  h = p.cells.heap

  -- the state has a held cell's object
  pub there : (x : ℕ) (b : Body) → body_at h x ≡ Some b → slice_get s.store b.serial ≡ Some (object_of h (Some b))
  there x b e =
      ap (λ l. slice_get l b.serial) (sym z.shows.store) ∙ sym (z.part.same b.serial (holds-there h x b e)) ∙ store-held h x b z.serials e

  pub cell : (n : ℕ) → holds h n ≡ true → CellOf h n
  cell n e = let x = holds-back h n e in record { slot = x.0; body = x.1; held = x.2; serial = x.3 }

  -- regions are the same
  pub region-there : (r x : ℕ) (b : Body) → body_at h x ≡ Some b → LiesIn h r x → region_at s.store b.serial ≡ Some r
  region-there r x b e lies =
      ap (option_and_then (λ (o : Seen). region_of o.label)) (there x b e) ∙ ap region_of (label-of h x b (Region r) e lies)

  pub lies-there : (r x : ℕ) (b : Body) → body_at h x ≡ Some b → region_at s.store b.serial ≡ Some r → LiesIn h r x
  lies-there r x b e is =
      label-there h x b (Region r) e
      (label-region b.label r (sym (ap (option_and_then (λ (o : Seen). region_of o.label)) (there x b e)) ∙ is))

  -- slots show variables
  pub shown-slots : ShowsFrames (frames_of h v) s.frames
  shown-slots = subst (λ (fs : List Frame). ShowsFrames fs s.frames) (sym z.part.frames) z.shows.slots

  pub top-shown : (a : Active p v) → TopShown (sizes_of (frames_of h v)) a.window a.rec.number s.windows
  top-shown a = by s.windows (subst (λ (ws : List Window). ShowsWindows (sizes_of (frames_of h v)) ws s.windows) windows shown)
    where
      below : List Window
      below = map (window_of p.regions) (reverse (take (length v.windows - 1) v.windows))

      windows : windows_of p.regions v ≡ window_of p.regions a.window ∷ below
      windows = top-window p.regions v a.window a.is

      shown : ShowsWindows (sizes_of (frames_of h v)) (windows_of p.regions v) s.windows
      shown =
          subst (λ (ws : List Window). ShowsWindows (sizes_of (frames_of h v)) ws s.windows) (sym z.part.windows)
          (subst (λ (fs : List Frame). ShowsWindows (sizes_of fs) m.windows s.windows) (sym z.part.frames) z.shows.windows)

      by : (ws : List OpenedRow) → ShowsWindows (sizes_of (frames_of h v)) (window_of p.regions a.window ∷ below) ws
          → TopShown (sizes_of (frames_of h v)) a.window a.rec.number ws
      by [] x = absurd x
      by (w ∷ ws) x = record {
        top = w;
        rest = ws;
        is = refl;
        number = x.0.number;
        region_is = sym (ap number_in a.known) ∙ x.0.region;
        owner = x.0.owner;
        base = x.0.base;
      }

  -- the object in which the topmost window's owner stands is held
  pub held-owner : (a : Active p v) (b k : ℕ) → a.window.owner ≡ Some (place.Field b k) → holds h b ≡ true
  held-owner a b k e = (subst (OwnerHeld (holds h) m.store below) e here.0).0
    where
      below : List Window
      below = map (window_of p.regions) (reverse (take (length v.windows - 1) v.windows))

      here : OwnersHeld (holds h) m.store (window_of p.regions a.window ∷ below)
      here =
          subst (OwnersHeld (holds h) m.store) (top-window p.regions v a.window a.is)
          (subst (OwnersHeld (holds h) m.store) (sym z.part.windows) z.part.window_owners)

  -- the topmost window's temporaries are held
  pub temps-held : (a : Active p v) (n : ℕ) (o : Seen) → slice_get s.store n ≡ Some o → o.label ≡ Temp a.window.number → holds h n ≡ true
  temps-held a n o at is = by (holds h n) refl
    where
      open_is : has_window m.windows a.window.number ≡ true
      open_is =
          ap (λ (ws : List Window). has_window ws a.window.number) (sym z.part.windows ∙ top-window p.regions v a.window a.is)
          ∙ ap (λ b. b || has_window (map (window_of p.regions) (reverse (take (length v.windows - 1) v.windows))) a.window.number) itself
        where
          itself : (a.window.number == a.window.number) ≡ true
          itself = grind arith

      by : (b : Truth) → holds h n ≡ b → b ≡ true
      by true e = refl
      by false e =
          let ended = (z.part.lost_temps n o a.window.number e (ap (λ l. slice_get l n) z.shows.store ∙ at) is).1 in
          absurd (false≢true (sym ended ∙ open_is))

-- Where the roots of a window lead

is-temp : (n : ℕ) (l : Label) → is_temp n l ≡ true → l ≡ Temp n
is-temp n (Region r) e = absurd (false≢true e)
is-temp n (Temp k) e = let same : n ≡ k = grind (arith, e) in ap Temp (sym same)
is-temp n Frozen e = absurd (false≢true e)

pub temps-in : (n i k a : ℕ) (os : List Seen) (o : Seen) → slice_get os i ≡ Some o → o.label ≡ Temp n → slice_get o.fields k ≡ Some (val.Obj a)
    → In a (led_from_temps n os)
temps-in n i k a [] o e is at = absurd (none-some o e)
temps-in n zero k a (x ∷ os) o e is at =
    by (is_temp n x.label) (ap (λ (x : Seen). is_temp n x.label) same ∙ ap (is_temp n) is ∙ itself)
  where
    same : x ≡ o
    same = same_Some x o e

    itself : (n == n) ≡ true
    itself = grind arith

    by : (b : Truth) → b ≡ true → In a (if b then addresses x.fields ++ led_from_temps n os else led_from_temps n os)
    by true y =
        in-left (addresses x.fields) (led_from_temps n os) a
        (addresses-in x.fields k a (ap (λ (x : Seen). slice_get x.fields k) same ∙ at))
    by false y = absurd (false≢true y)
temps-in n (suc i) k a (x ∷ os) o e is at = by (is_temp n x.label) (temps-in n i k a os o e is at)
  where
    by : (b : Truth) → In a (led_from_temps n os) → In a (if b then addresses x.fields ++ led_from_temps n os else led_from_temps n os)
    by true y = in-right (addresses x.fields) (led_from_temps n os) a y
    by false y = y

-- a field of a window's temporary that leads to an address
pub record FromTemp (n a : ℕ) (os : List Seen) : Type 0 where
  pub object : ℕ
  pub field : ℕ
  pub holder : Seen
  pub there : slice_get os object ≡ Some holder
  pub temp : holder.label ≡ Temp n
  pub leads : slice_get holder.fields field ≡ Some (val.Obj a)

pub temps-back : (n a : ℕ) (os : List Seen) → In a (led_from_temps n os) → FromTemp n a os
temps-back n a [] i = absurd i
temps-back n a (x ∷ os) i = by (is_temp n x.label) refl i (λ j. behind (temps-back n a os j))
  where
    behind : FromTemp n a os → FromTemp n a (x ∷ os)
    behind y = record { object = suc y.object; field = y.field; holder = y.holder; there = y.there; temp = y.temp; leads = y.leads }

    by : (b : Truth) → is_temp n x.label ≡ b → In a (if b then addresses x.fields ++ led_from_temps n os else led_from_temps n os)
        → (In a (led_from_temps n os) → FromTemp n a (x ∷ os)) → FromTemp n a (x ∷ os)
    by true is i rest = elim (in-split (addresses x.fields) (led_from_temps n os) a i) [
      | inl here ↦
          (let k = addresses-back x.fields a here in
          record { object = 0; field = k.0; holder = x; there = refl; temp = is-temp n x.label is; leads = k.1 })
      | inr on ↦ rest on
    ]
    by false is i rest = rest i

-- where the owner's value, variables from a base on and temporaries lead
abbrev pub owner_leads : State → Option Place → List ℕ
owner_leads s o = option_to_list (option_and_then address (option_and_then (value_at s.store s.frames) o))

abbrev pub variables_lead : State → OpenedRow → List ℕ
variables_lead s w = addresses (map (λ (l : Local). l.value) (locals_from w.base_frame w.base_place s.frames))

abbrev pub roots_lead : State → OpenedRow → List ℕ
roots_lead s w = owner_leads s w.owner ++ variables_lead s w ++ led_from_temps w.number s.store

pub roots-are : (s : State) (w : OpenedRow) (ws : List OpenedRow) → s.windows ≡ w ∷ ws → starts s.store s.frames s.windows ≡ roots_lead s w
roots-are s w ws e = ap (starts s.store s.frames) e

module _ (s : State) (w : OpenedRow) (a : ℕ) where
  pub by-owner : In a (owner_leads s w.owner) → In a (roots_lead s w)
  by-owner i =
      in-left (owner_leads s w.owner ++ variables_lead s w) (led_from_temps w.number s.store) a
      (in-left (owner_leads s w.owner) (variables_lead s w) a i)

  pub by-variable : In a (variables_lead s w) → In a (roots_lead s w)
  by-variable i =
      in-left (owner_leads s w.owner ++ variables_lead s w) (led_from_temps w.number s.store) a
      (in-right (owner_leads s w.owner) (variables_lead s w) a i)

  pub by-temp : In a (led_from_temps w.number s.store) → In a (roots_lead s w)
  by-temp i = in-right (owner_leads s w.owner ++ variables_lead s w) (led_from_temps w.number s.store) a i

  pub roots-back : In a (roots_lead s w) → In a (owner_leads s w.owner) ⊎ In a (variables_lead s w) ⊎ In a (led_from_temps w.number s.store)
  roots-back i = elim (in-split (owner_leads s w.owner ++ variables_lead s w) (led_from_temps w.number s.store) a i) [
    | inl front ↦ elim (in-split (owner_leads s w.owner) (variables_lead s w) a front) [ inl x ↦ inl x | inr y ↦ inr (inl y) ]
    | inr temp ↦ inr (inr temp)
  ]
