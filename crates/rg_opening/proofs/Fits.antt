-- The state in which a behaviour begins fits the program.
use Rattle.std.proofs.Common.{◌≡◌, refl, sym, ◌∙◌, ap, subst, inl, inr, ℕ, zero, suc, ◌+◌, true, false, List, [], ◌∷◌, ◌++◌, length, Option}
use Rattle.std.proofs.Common.{Some, None, option_map, slice_get, arith}
use Rattle.std.proofs.lemmas.Option.{same_Some}
use Rattle.rg_base.specs.declared.words.Cap.{Cap}
use Rattle.rg_base.specs.declared.words.Cap.TheVariants.{Mut}
use Rattle.rg_base.specs.declared.words.Manager.TheVariants.{Arena}
use Rattle.rg_base.specs.declared.ty.Ty.TheVariants.{Ref}
use Rattle.rg_base.specs.declared.object.Label.{Label}
use Rattle.rg_base.specs.declared.object.Label.TheVariants.{Region, Temp, Frozen}
use Rattle.rg_base.specs.declared.object.Seen.{Seen}
use Rattle.rg_base.specs.declared.value.Val.TheVariants.{Obj}
use Rattle.rg_tree.specs.Tree.{Ty as Written, Param, Method, Tree}
use Rattle.rg_rules.specs.Acceptance.{Accepted}
use Rattle.rg_rules.specs.Environment.{Readiness, lent, is_lent}
use Rattle.rg_rules.specs.Types.{fields_of}
use Rattle.rg_rules.specs.Items.{EndAt, Back, items_of}
use Rattle.rg_rules.specs.Bodies.{main_body, method_body, method_env, method_end}
use Rattle.rg_rules.specs.Points.{here, Spot, spot_at}
use Rattle.rg_rules.specs.RightSides.{bound}
use Rattle.rg_rules.specs.State.{Drops, Frame, Local, Window}
use Rattle.rg_sound.specs.Fit.{Fit}
use Rattle.rg_sound.specs.Frames.{Named, Stands, Beneath, WaitsEmpty, Running}
use Rattle.rg_sound.specs.Windows.{lowest, windows_of}
use Rattle.rg_sound.specs.Values.{Meets, FrameMeets}
use Rattle.rg_sound.specs.Bridges.{BridgesFit}
use Rattle.rg_sound.specs.Numbers.{LabelGiven, WindowGiven}
use Rattle.rg_sound.specs.Objects.{ObjectFits}
use Rattle.rg_sound.specs.OpenRegions.{OneWindowEach}
use Rattle.rg_sound.proofs.Basics.{none-some}
use Rattle.rg_sound.proofs.Frames.Body.{items_of-begins}
use Rattle.rg_sound.proofs.Frames.Method.{method_env-plain, method_env-named, Plain-at}
use Rattle.rg_sound.proofs.Frames.Spot.{leaves-items_of}
use Rattle.rg_sound.proofs.Owners.Entrance.{items_of-append}
use Rattle.rg_typed.specs.Typed.{cell_fits}
use Rattle.rg_cown.specs.declared.cargo.CargoCell.{CargoCell}
use Rattle.rg_cown.specs.Cargo.{label_of}
use Rattle.rg_cown.specs.Cargo.{label_from}
use Rattle.rg_cown.proofs.SoundParts.{region_below, no_temp}
use Rattle.rg_opening.specs.declared.given.Given.{Given}
use Rattle.rg_opening.specs.Opening.{object_from, field_values, content_objects, content_managers, opening_of}
use Rattle.rg_opening.specs.Beginning.{MayBegin}
use Rattle.rg_opening.specs.Laws.{OpeningFits}
use Rattle.rg_opening.proofs.Placed.{objects_before, regions_before, objects_before-more, IsContent, content-there, content-back, regions-within}
use Rattle.rg_opening.proofs.Objects.{AllStand, all_there, object-fits, ordinary, owner-fits}
use Rattle.rg_opening.proofs.Owners.{owner-of, opening-forest}

module _ (t : Tree) (accepted : Accepted t) (class : ℕ) (m : Method) (gs : List Given) (may : MayBegin t class m gs) where
  abbrev pub owner : Seen
  owner = record { class = class; fields = field_values 1 gs; label = Region 0 }

  abbrev pub store : List Seen
  store = owner ∷ content_objects 1 1 gs

  abbrev pub self_local : Local
  self_local = record { name = None; ty = Ref Mut class; value = Obj 0 }

  abbrev pub main_frame : Frame
  main_frame = record { locals = []; target = Drops }

  abbrev pub windows : List Window
  windows = lowest None 0 ∷ []

  -- the objects of contents stand in the store
  stand : AllStand store 1 1 gs
  stand k c at j o there =
      by (objects_before 1 gs k + j) refl
    where
      by : (a : ℕ) → a ≡ objects_before 1 gs k + j
          → slice_get store a ≡ Some (object_from (objects_before 1 gs k) (regions_before 1 gs k) o)
      by zero e = let more = objects_before-more 1 gs k in absurd (omega (arith, more, e))
      by (suc i) e = content-there 1 1 gs k j i c o at there (omega (arith, e))

  -- Objects

  objects : (a : ℕ) (o : Seen) → slice_get store a ≡ Some o → ObjectFits t.classes store windows o
  objects zero o at =
      let P : Seen → Type 0 = λ q. ObjectFits t.classes store windows q in
      subst P (same_Some owner o at)
      (owner-fits t store windows class gs (ordinary t accepted class may.name m may.method_is may.receiver) may.fields stand)
  objects (suc i) o at =
      let c = content-back 1 1 gs i o at in
      let own = (owner-of t (fields_of t.classes class) gs c.field c.content may.fields c.held).2 in
      let P : Seen → Type 0 = λ q. ObjectFits t.classes store windows q in
      subst P (sym c.object)
      (object-fits t accepted store windows c.content.cells (objects_before 1 gs c.field) (regions_before 1 gs c.field)
      (stand c.field c.content c.held) c.cell
      (all_there (cell_fits t.classes c.content.cells) c.content.cells c.place c.cell own.typed c.cell_is))

  -- Numbers

  abbrev pub regions : ℕ
  regions = length (Arena ∷ content_managers gs)

  labels : (a : ℕ) (o : Seen) → slice_get store a ≡ Some o → LabelGiven regions 1 o.label
  labels zero o at = let P : Seen → Type 0 = λ q. LabelGiven regions 1 q.label in subst P (same_Some owner o at) (omega arith)
  labels (suc i) o at =
      let c = content-back 1 1 gs i o at in
      let P : Seen → Type 0 = λ q. LabelGiven regions 1 q.label in
      subst P (sym c.object) (by c c.cell.label refl)
    where
      by : (c : IsContent 1 1 gs (1 + i) o) (l : Label) → c.cell.label ≡ l
          → LabelGiven regions 1 (label_from (regions_before 1 gs c.field) c.cell.label)
      by c (Region r) e =
          let own = (owner-of t (fields_of t.classes class) gs c.field c.content may.fields c.held).2 in
          let is : label_of c.content.cells c.place ≡ Some (Region r) = ap (option_map (λ (q : CargoCell). q.label)) c.cell_is ∙ ap Some e in
          let below = region_below c.content c.place r own.sound is in
          let all = regions-within 1 gs c.field c.content c.held in
          let P : Label → Type 0 = λ q. LabelGiven regions 1 (label_from (regions_before 1 gs c.field) q) in
          subst P (sym e) (omega (arith, below, all))
      by c (Temp n) e =
          let own = (owner-of t (fields_of t.classes class) gs c.field c.content may.fields c.held).2 in
          absurd (no_temp c.content c.place n own.sound (ap (option_map (λ (q : CargoCell). q.label)) c.cell_is ∙ ap Some e))
      by c Frozen e = let P : Label → Type 0 = λ q. LabelGiven regions 1 (label_from (regions_before 1 gs c.field) q) in subst P (sym e) tt

  given : (i : ℕ) (w : Window) → slice_get windows i ≡ Some w → WindowGiven regions 1 w
  given zero w e = let same : lowest None 0 ≡ w = same_Some (lowest None 0) w e in
      let P : Window → Type 0 = λ q. WindowGiven regions 1 q in subst P same (record { region = omega arith; number = omega arith })
  given (suc i) w e = none-some e

  -- Windows

  one_window : OneWindowEach windows
  one_window zero zero u v a b c = refl
  one_window zero (suc j) u v a b c = none-some b
  one_window (suc i) j u v a b c = none-some a

  no-bridge : BridgesFit t.classes store (record { locals = self_local ∷ []; target = Drops } ∷ main_frame ∷ []) windows
  no-bridge zero w p at named =
      let same : lowest None 0 ≡ w = same_Some (lowest None 0) w at in none-some (ap (λ (q : Window). q.owner) same ∙ named)
  no-bridge (suc i) w p at named = none-some at

  -- Frames

  abbrev pub start : Spot
  start = record { env = method_env t.classes class m; items = items_of m.body (Back ∷ []); enters = [] }

  named : Named (method_env t.classes class m).entries (self_local ∷ [])
  named =
      let all = method_env-named t.classes class m (Obj 0) [] in
      let P : List Param → Type 0 = λ q.
      Named (method_env t.classes class m).entries (record { name = None; ty = Ref m.receiver class; value = Obj 0 } ∷ bound t.classes q []) in
      let Q : Cap → Type 0 = λ q. Named (method_env t.classes class m).entries (record { name = None; ty = Ref q class; value = Obj 0 } ∷ []) in
      subst Q may.receiver (subst P may.no_parameter all)

  lent-never : (r : Readiness) → is_lent r ≡ false → r ≡ lent → ⊥
  lent-never r n e = let c : false ≡ true = sym n ∙ ap is_lent e in absurd cc

  stands : Stands (record { locals = self_local ∷ []; target = Drops }) 1 [] start
  stands =
      let plain = (method_env-plain t.classes class m).0 in
      record {
        named = named;
        entered = tt;
        bases = sym (leaves-items_of m.body (Back ∷ []));
        depths = λ i e h. (Plain-at (method_env t.classes class m).entries i e plain h).0;
        lent_are = λ i e h.
            (λ q. lent-never e.readiness (Plain-at (method_env t.classes class m).entries i e plain h).1 q, λ q. absurd q);
      }

  waits : WaitsEmpty t (main_body t) main_frame [] (EndAt 0 ∷ []) (method_body t.classes class m) Drops
  waits = record {
    is_main = refl;
    no_statement = may.no_statement;
    no_variable = refl;
    no_window = refl;
    ends = refl;
    class = class;
    name = may.name;
    called = m;
    called_is = may.method_is;
    no_result = may.no_result;
    callee_is = refl;
    nothing_taken = refl;
  }

  beneath : Beneath t (main_frame ∷ []) windows (EndAt 0 ∷ []) (method_body t.classes class m) Drops
  beneath = (main_body t, [], windows, EndAt 0 ∷ [], [], refl, refl, inr waits, (refl, refl, (None, 0, refl), refl))

  runs : Running t (record { locals = self_local ∷ []; target = Drops }) (main_frame ∷ []) windows (items_of m.body (Back ∷ EndAt 0 ∷ []))
  runs =
      let b = items_of-begins m.body (Back ∷ []) (record { first = Back; more = []; is = refl }) in
      let R : Option Written → Type 0 = λ q.
      spot_at t.classes (method_body t.classes class m) here
      ≡ Some (record { env = method_env t.classes class m; items = items_of m.body (method_end q); enters = [] }) in
      record {
        body = method_body t.classes class m;
        own = [];
        under = windows;
        windows_are = refl;
        point = here;
        spot = start;
        spot_is = subst R may.no_result refl;
        stands = stands;
        first = b.first;
        more = b.more;
        begins = b.is;
        rest = EndAt 0 ∷ [];
        items_are = items_of-append m.body (Back ∷ []) (EndAt 0 ∷ []) ∙ ap (λ q. q ++ EndAt 0 ∷ []) b.is;
        beneath = beneath;
      }

  pub fits : Fit t (opening_of class m gs)
  fits = record {
    frames = inl runs;
    values = (self-meets, ((λ i l e. none-some e), tt));
    objects = objects;
    opened = record { owned = (refl, refl); one_each = one_window };
    bridges = no-bridge;
    forest = opening-forest t accepted (fields_of t.classes class) class refl gs may.fields stand;
    numbers = record { labels = labels; given = given; rising = tt };
  }
    where
      self-meets : FrameMeets store windows 1 (self_local ∷ [])
      self-meets zero l e =
          let P : Local → Type 0 = λ q. Meets store (windows_of 1 0 windows) q.ty q.value in
          subst P (same_Some self_local l e) (record { object = owner; there = refl; class_is = refl; label_fits = refl })
      self-meets (suc i) l e = none-some e

pub opening-fits : OpeningFits
opening-fits t class m given accepted may = fits t accepted class m given may
