-- A window on the region that a field owns.
use Rattle.std.proofs.Common.{◌≡◌, ◌<◌, ℕ, ◌-◌, ◌&&◌, not, nat_lt, Bool as Truth, true, false, if◌then◌else◌, List, [], ◌∷◌, ◌++◌, Option, Some, Ok, Err}
use Rattle.std.proofs.Common.{length, slice_get, option_map, refl, sym, ap, ◌∙◌, subst, arith}
use Rattle.std.proofs.lemmas.Option.{same_Some}
use Rattle.std.proofs.lemmas.Bool.{and_parts, eqb-true as eq-true}
use Rattle.rg_base.specs.declared.object.Label.{Label}
use Rattle.rg_base.specs.declared.object.Label.TheVariants.{Region}
use Rattle.rg_base.specs.declared.object.Place.TheVariants as place
use Rattle.rg_base.specs.declared.object.Seen.{Seen}
use Rattle.rg_base.specs.declared.outcome.Trap.TheVariants as trap
use Rattle.rg_base.specs.declared.value.Val.{Val}
use Rattle.rg_base.specs.declared.value.Word.{Word}
use Rattle.rg_base.specs.declared.value.Word.TheVariants.{Slot}
use Rattle.rg_base.proofs.Callers.Labels.{region-same}
use Rattle.rg_rules.specs.Evaluation.{object_at}
use Rattle.rg_rules.specs.Regions.{region_of}
use Rattle.rg_code.specs.Code.{empty}
use Rattle.rg_code.specs.declared.op.Op.TheVariants as i
use Rattle.rg_cells.specs.declared.cell.Body.{Body}
use Rattle.rg_cells.specs.Table.{body_at, field_at, label_at, width, Serials}
use Rattle.rg_regions.specs.Table.{HasNumber}
use Rattle.rg_regions.specs.Reach.{LiesIn}
use Rattle.rg_regions.specs.Grove.{Grove}
use Rattle.rg_frames.specs.Stack.{Stack}
use Rattle.rg_heap.specs.Parts.{Parts}
use Rattle.rg_heap.specs.Answers.{val_of}
use Rattle.rg_stack.specs.Machine.{slot_at, place_of, top_slots}
use Rattle.rg_stack.specs.Needs.{is_closed, is_empty, of_object, of_top, owned_once, owns_or_nil}
use Rattle.rg_stack.specs.Places.{is_field, is_writable, field_of}
use Rattle.rg_stack.specs.Effects.{Go, Stuck, Traps, Walked, address, begins_by, on_object, on_top}
use Rattle.rg_stack.specs.Tops.{entered, top_region}
use Rattle.rg_held.specs.Frees.{free_act}
use Rattle.rg_held.proofs.Lists.{append-left as got-there}
use Rattle.rg_view.specs.View.{machine_of, object_of, store_of, values_of, windows_of}
use Rattle.rg_view.proofs.Callers.Look.{val-held}
use Rattle.rg_view.proofs.Callers.Shown.{held-body}
use Rattle.rg_view.proofs.Callers.Held.{all-lead}
use Rattle.rg_view.proofs.Callers.Need.{top, closed-other}
use Rattle.rg_view.proofs.Callers.Once.{outside-once}
use Rattle.rg_view.proofs.Callers.Read.{field-there, field-within, object-tested, object-there, pushed-value}
use Rattle.rg_machine.specs.Core.{Core, Has, work_of}
use Rattle.rg_machine.specs.Frames.{can_open}
use Rattle.rg_machine.specs.Parts.{Parts as Whole, with_word}
use Rattle.rg_machine.specs.Cores.{core_of}
use Rattle.rg_machine.specs.Stands.{AllLead, Leads, Stands}
use Rattle.rg_machine.proofs.Callers.Word.{leads-push}
use Rattle.rg_machine.proofs.Enter.Slot.{ParentBeneath, Entered, entered-by, entered_stack, machine-entered, opens-both}
use Rattle.rg_machine.proofs.Enter.Slot.{opens-within}

-- the last word of a stack
last-word : (rest : List Word) (w : Word) → slice_get (rest ++ w ∷ []) (length rest) ≡ Some w
last-word [] w = refl
last-word (x ∷ rest) w = last-word rest w

-- all words but the last one lead where those of a stack do
pub front-lead : (p : Parts) (v : Stack) (words rest : List Word) (w : Word) → words ≡ rest ++ w ∷ [] → AllLead p v words → AllLead p v rest
front-lead p v words rest w is lead k u e = lead k u (ap (λ ws. slice_get ws k) is ∙ got-there rest (w ∷ []) k u e)

module _ (p : Parts) (v : Stack) (at : ℕ) (h : Stands p v) (q : Serials p.cells.heap) (g : Grove p.cells p.regions) where
  -- what an instruction on a field of an object is given, where a word on the stack leads to it
  pub record Holds (holder k z : ℕ) : Type 0 where
    pub body : Body
    pub held : body_at p.cells.heap holder ≡ Some body
    pub once : owned_once (machine_of p v at) ≡ true
    pub writable : is_writable (machine_of p v at) body.label ≡ true
    pub within : k < width (body_at p.cells.heap holder)
    pub owns : owns_or_nil (machine_of p v at) (field_of (object_of p.cells.heap (Some body)) k) ≡ true

  pub holds : (holder k z : ℕ) (words rest : List Word) (printed : Option Val) → AllLead p v words → words ≡ rest ++ Slot holder ∷ []
      → Has (i.EnterField k z) (core_of (record { heap = p; frames = v; words = words; at = at; printed = printed })) → Holds holder k z
  holds holder k z words rest printed lead is given =
      let m = machine_of p v at in
      let held = (lead (length rest) (Slot holder) (ap (λ ws. slice_get ws (length rest)) is ∙ last-word rest (Slot holder))).held holder refl in
      let b = held-body p.cells.heap holder held in
      let o = object_of p.cells.heap (Some b.0) in
      let shown : values_of p.cells.heap words ≡ val_of p.cells.heap (Slot holder) ∷ values_of p.cells.heap rest =
      ap (values_of p.cells.heap) is ∙ pushed-value p.cells.heap rest (Slot holder) in
      let test : Seen → Truth = λ o. owned_once m && is_field m k o && owns_or_nil m (field_of o k) && not (is_closed m (slot_at m z)) in
      let on : (is_empty (values_of p.cells.heap rest) && of_object m (val_of p.cells.heap (Slot holder)) test) ≡ true =
      sym (ap (λ vs. of_top vs (λ r rest. is_empty rest && of_object m r test)) shown) ∙ given in
      let all = sym (object-tested p v at holder b.0 test q b.1)
      ∙ (and_parts (is_empty (values_of p.cells.heap rest)) (of_object m (val_of p.cells.heap (Slot holder)) test) on).1 in
      let front = (and_parts (owned_once m && is_field m k o && owns_or_nil m (field_of o k)) (not (is_closed m (slot_at m z))) all).0 in
      let own = and_parts (owned_once m && is_field m k o) (owns_or_nil m (field_of o k)) front in
      let field = and_parts (owned_once m) (is_field m k o) own.0 in
      let may = and_parts (is_writable m o.label) (nat_lt k (length o.fields)) field.1 in
      record {
        body = b.0;
        held = b.1;
        once = field.0;
        writable = may.0;
        within = field-within p v at holder k b.0 q b.1 may.1;
        owns = own.1;
      }

  -- the region that its field owns
  pub field-entered : (holder k z b : ℕ) (x : Holds holder k z) → field_at p.cells.heap holder k ≡ Some (Slot b) → Entered p v at h b
  field-entered holder k z b x leads =
      entered-by p v at h b q g (all-lead p v g h.opened h.temps holder k b leads)
      (sym (ap (owns_or_nil (machine_of p v at)) (field-there p.cells.heap holder k x.body (Slot b) x.held leads)) ∙ x.owns)

  label-is : (holder : ℕ) (b : Body) (l : Label) → body_at p.cells.heap holder ≡ Some b → label_at p.cells.heap holder ≡ Some l → b.label ≡ l
  label-is holder b l e f = same_Some b.label l (sym (ap (option_map (λ (b : Body). b.label)) e) ∙ f)

  -- an object of a region that may be written is of the active one
  active-lies : (holder k z n : ℕ) (x : Holds holder k z) → LiesIn p.cells.heap n holder → n ≡ (top p v at q g h.opened).number
  active-lies holder k z n x lies =
      eq-true n (top_region (windows_of p.regions v))
      (sym (ap (is_writable (machine_of p v at)) (label-is holder x.body (Region n) x.held lies)) ∙ x.writable)
      ∙ (top p v at q g h.opened).shown

  -- and has no parent but that of the holder
  pub field-parent : (holder k z b : ℕ) (x : Holds holder k z) (leads : field_at p.cells.heap holder k ≡ Some (Slot b))
      → ParentBeneath p v (field-entered holder k z b x leads).region
  field-parent holder k z b x leads n a =
      let e = field-entered holder k z b x leads in
      let t = top p v at q g h.opened in
      let outside : LiesIn p.cells.heap e.region holder → ⊥ =
      λ l. closed-other p v at q g h.opened e.region e.closed (active-lies holder k z e.region x l) in
      let same = outside-once p v at q g h.opened h.temps h.numbers x.once e.region a.from a.field a.to holder k b e.closed
      (λ l. a.differ (region-same n e.region (sym a.lies ∙ l))) a.leads a.child_has outside leads e.lies in
      let is : n ≡ t.number = active-lies holder k z n x (subst (LiesIn p.cells.heap n) same.0 a.lies) in
      let some = h.opened.some in
      (length v.windows - 1, t.window, omega (arith, some), t.is, subst (HasNumber p.regions t.window.region) (sym is) t.has)

  -- up to the field that is looked at
  to-the-field : (holder k z : ℕ) (words rest : List Word) (printed : Option Val) (code_at : ℕ) (x : Holds holder k z)
      → words ≡ rest ++ Slot holder ∷ [] → can_open (machine_of p v at) z ≡ true → (go : Go) (input : List ℕ)
      → free_act empty code_at (i.EnterField k z) go (values_of p.cells.heap words)
      (work_of (core_of (record { heap = p; frames = v; words = words; at = at; printed = printed })) input)
      ≡ on_object (store_of p.cells.heap) (field_of (object_of p.cells.heap (Some x.body)) k) (λ b. go 0 (values_of p.cells.heap rest)
      (entered (work_of (core_of (record { heap = p; frames = v; words = words; at = at; printed = printed })) input)
      (place.Field (address (val_of p.cells.heap (Slot holder))) k) (field_of (object_of p.cells.heap (Some x.body)) k) z (region_of b.label)))
  to-the-field holder k z words rest printed code_at x is opens go input =
      let m = machine_of p v at in
      let heap = p.cells.heap in
      let w = work_of (core_of (record { heap = p; frames = v; words = words; at = at; printed = printed })) input in
      let go_on : List Val → Walked = λ vs. on_top vs (λ r rest. on_object m.store r (λ u. on_object m.store (field_of u k) (λ b.
      go 0 rest (entered w (place.Field (address r) k) (field_of u k) z (region_of b.label))))) in
      opens-both (nat_lt z (length (top_slots m.frames))) (begins_by m.windows (place_of m.frames z)) (go_on (values_of heap words)) opens
      ∙ ap go_on (ap (values_of heap) is ∙ pushed-value heap rest (Slot holder))
      ∙ ap (λ r. elim r [
        | Ok u ↦ on_object m.store (field_of u k) (λ b. go 0 (values_of heap rest)
            (entered w (place.Field (address (val_of heap (Slot holder))) k) (field_of u k) z (region_of b.label)))
        | Err t ↦ Traps t
      ]) (object-there heap holder x.body q x.held)

  pub enter-field-effect : (holder k z b serial : ℕ) (words rest : List Word) (printed : Option Val) (code_at : ℕ) (x : Holds holder k z)
      (leads : field_at p.cells.heap holder k ≡ Some (Slot b)) → words ≡ rest ++ Slot holder ∷ []
      → option_map (λ (b : Body). b.serial) (body_at p.cells.heap holder) ≡ Some serial → can_open (machine_of p v at) z ≡ true
      → (go : Go) (input : List ℕ)
      → free_act empty code_at (i.EnterField k z) go (values_of p.cells.heap words)
      (work_of (core_of (record { heap = p; frames = v; words = words; at = at; printed = printed })) input)
      ≡ go 0 (values_of p.cells.heap rest) (work_of (core_of (record {
        heap = p;
        frames = entered_stack v (field-entered holder k z b x leads).closed.0 (place.Field serial k) z b;
        words = rest;
        at = at;
        printed = printed;
      })) input)
  enter-field-effect holder k z b serial words rest printed code_at x leads is named opens go input =
      let m = machine_of p v at in
      let heap = p.cells.heap in
      let w = work_of (core_of (record { heap = p; frames = v; words = words; at = at; printed = printed })) input in
      let e = field-entered holder k z b x leads in
      let V = val_of heap (Slot holder) in
      let R = values_of heap rest in
      let o = place.Field (address V) k in
      let serial_is : serial ≡ address V =
      same_Some serial x.body.serial (sym named ∙ ap (option_map (λ (b : Body). b.serial)) x.held)
      ∙ sym (ap address (val-held heap holder x.body x.held)) in
      to-the-field holder k z words rest printed code_at x is opens go input
      ∙ ap (λ y. on_object m.store y (λ b. go 0 R (entered w o y z (region_of b.label)))) (field-there heap holder k x.body (Slot b) x.held leads)
      ∙ ap (λ r. elim r [ Ok u ↦ go 0 R (entered w o (val_of heap (Slot b)) z (region_of u.label)) | Err t ↦ Traps t ]) e.there
      ∙ ap (λ r. go 0 R (entered w o (val_of heap (Slot b)) z r)) e.label
      ∙ ap (λ m. go 0 R (record { machine = m; input = input; printed = printed }))
      (machine-entered p v e.closed.0 (place.Field serial k) z e.region b h e.closed.1 e.closed.2 e.lies at o
      (ap (λ n. place.Field n k) serial_is) (opens-within p v at h z opens).0)

  -- a field that is nil
  pub enter-field-nil : (holder k z : ℕ) (u : Word) (words rest : List Word) (printed : Option Val) (code_at : ℕ) (x : Holds holder k z)
      (leads : field_at p.cells.heap holder k ≡ Some u) → words ≡ rest ++ Slot holder ∷ []
      → object_at (store_of p.cells.heap) (val_of p.cells.heap u) ≡ Err trap.Nil → can_open (machine_of p v at) z ≡ true
      → (go : Go) (input : List ℕ)
      → free_act empty code_at (i.EnterField k z) go (values_of p.cells.heap words)
      (work_of (core_of (record { heap = p; frames = v; words = words; at = at; printed = printed })) input) ≡ Traps trap.Nil
  enter-field-nil holder k z u words rest printed code_at x leads is none opens go input =
      let m = machine_of p v at in
      let heap = p.cells.heap in
      let w = work_of (core_of (record { heap = p; frames = v; words = words; at = at; printed = printed })) input in
      let V = val_of heap (Slot holder) in
      let R = values_of heap rest in
      let o = place.Field (address V) k in
      to-the-field holder k z words rest printed code_at x is opens go input
      ∙ ap (λ y. on_object m.store y (λ b. go 0 R (entered w o y z (region_of b.label)))) (field-there heap holder k x.body u x.held leads)
      ∙ ap (λ r. elim r [ Ok b ↦ go 0 R (entered w o (val_of heap u) z (region_of b.label)) | Err t ↦ Traps t ]) none

-- the same, where the code has the machine and its parts, and took its topmost word
pub holds-of : (m old : Whole) (h : Stands m.heap m.frames) (q : Serials m.heap.cells.heap) (g : Grove m.heap.cells m.heap.regions)
    (holder k z : ℕ) (rest : List Word) (w : Word) → m ≡ old → AllLead m.heap m.frames m.words → m.words ≡ rest ++ w ∷ [] → w ≡ Slot holder
    → Has (i.EnterField k z) (core_of old) → Holds m.heap m.frames m.at h q g holder k z
holds-of m old h q g holder k z rest w view lead words is given =
    holds m.heap m.frames m.at h q g holder k z m.words rest m.printed lead (words ∙ ap (λ w. rest ++ w ∷ []) is)
    (subst (λ (m : Whole). Has (i.EnterField k z) (core_of m)) (sym view) given)

-- the same, where the word isn't on the stack yet
pub holds-beside : (m old : Whole) (h : Stands m.heap m.frames) (q : Serials m.heap.cells.heap) (g : Grove m.heap.cells m.heap.regions)
    (holder k z : ℕ) (w : Word) → m ≡ old → AllLead m.heap m.frames m.words → Leads old.heap old.frames w → w ≡ Slot holder
    → Has (i.EnterField k z) (core_of (with_word old w)) → Holds m.heap m.frames m.at h q g holder k z
holds-beside m old h q g holder k z w view lead leads is given =
    let here = subst (λ (p : Whole). Leads p.heap p.frames w) (sym view) leads in
    holds-of (with_word m w) (with_word old w) h q g holder k z m.words w (ap (λ (p : Whole). with_word p w) view)
    (leads-push m.heap m.frames m.words w lead here) refl is given

-- where nothing is on the stack, code doesn't lead here
no-top : (a b : Truth) → (if a then (if b then Stuck else Stuck) else Stuck) ≡ Stuck
no-top true true = refl
no-top true false = refl
no-top false b = refl

pub enter-field-none : (c : Core) (k z code_at : ℕ) → c.stack ≡ [] → (go : Go) (input : List ℕ)
    → free_act empty code_at (i.EnterField k z) go c.stack (work_of c input) ≡ Stuck
enter-field-none c k z code_at none go input =
    ap (λ vs. free_act empty code_at (i.EnterField k z) go vs (work_of c input)) none
    ∙ no-top (nat_lt z (length (top_slots c.machine.frames))) (begins_by c.machine.windows (place_of c.machine.frames z))
