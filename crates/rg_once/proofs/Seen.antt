-- What a step made is seen from a variable or from an object of the topmost window behind it, so the instructions leave it held.
use Rattle.std.proofs.Common.{◌≡◌, ◌⊎◌, inl, inr, ℕ, suc, ◌≤◌, ◌<◌, ◌==◌, ◌||◌, Bool as Truth, true, false, true≢false, if◌then◌else◌, List, [], ◌∷◌}
use Rattle.std.proofs.Common.{map, length, Option, Some, None, option_map, slice_get, Ok, refl, sym, ap, ◌∙◌, subst, arith}
use Rattle.std.specs.Prelude.{unwrap_or}
use Rattle.std.specs.List.{list_any}
use Rattle.std.proofs.lemmas.Bool.{eq-eqb}
use Rattle.std.proofs.lemmas.Option.{none-some, slice_get-map}
use Rattle.rg_base.specs.declared.object.Label.TheVariants.{Region, Temp}
use Rattle.rg_base.specs.declared.object.Seen.{Seen}
use Rattle.rg_base.specs.declared.value.Val.{Val}
use Rattle.rg_base.specs.declared.value.Val.TheVariants as val
use Rattle.rg_tree.specs.Tree.{Class, Name, Tree, Variable}
use Rattle.rg_rules.specs.Environment.{same_variable}
use Rattle.rg_rules.specs.Evaluation.{field_value, follow_fields, object_at}
use Rattle.rg_rules.specs.State.{Frame as Body, Local, State, Window as Opened, locals_of, top_locals, value_in}
use Rattle.rg_rules.specs.Types.{field_place, fields_of}
use Rattle.rg_rules.proofs.Answers.{bind-ok}
use Rattle.rg_rules.proofs.Step.{object_at-ok}
use Rattle.rg_sound.proofs.Owners.Receiver.{IsTop}
use Rattle.rg_code.specs.Code.{Code}
use Rattle.rg_regions.specs.Table.{InTable}
use Rattle.rg_stack.specs.Labels.{is_open}
use Rattle.rg_stack.specs.Machine.{Frame, Machine}
use Rattle.rg_stack.specs.Shows.{ShowsFrames}
use Rattle.rg_view.proofs.Callers.Need.{keyed}
use Rattle.rg_view.proofs.Callers.Open.{open-back}
use Rattle.rg_held.specs.Part.{Part, leads_to}
use Rattle.rg_held.specs.Shown.{ShowsHeld}
use Rattle.rg_machine.specs.Collects.{holds}
use Rattle.rg_machine.specs.Parts.{machine_in}
use Rattle.rg_machine.proofs.Callers.Part.{gone-shown}
use Rattle.rg_step.specs.States.{Standing}
use Rattle.rg_once.proofs.Answer.{Answer, beside, mid, shown}
use Rattle.rg_once.proofs.Held.{longer-get, numbers-shown, regions-shown}

-- an object to which variables of the topmost frame lead by fields: it passes each test that these pass, and that fields keep
abbrev pub Led : State → ℕ → Type 0
Led p b = (test : ℕ → Truth) → ((i : ℕ) (l : Local) → slice_get (locals_of p) i ≡ Some l → leads_to test l.value ≡ true)
    → ((a k : ℕ) (o : Seen) (v : Val) → test a ≡ true → slice_get p.store a ≡ Some o → slice_get o.fields k ≡ Some v → leads_to test v ≡ true)
    → test b ≡ true

-- a variable of the topmost frame leads to an object
pub record FromLocal (q : State) (a : ℕ) : Type 0 where
  pub top : Body
  pub rest : List Body
  pub frames : q.frames ≡ top ∷ rest
  pub place : ℕ
  pub local : Local
  pub there : slice_get top.locals place ≡ Some local
  pub leads : local.value ≡ val.Obj a

-- a field does of an object of the topmost window, to which variables led before
pub record FromField (p q : State) (a : ℕ) : Type 0 where
  pub object : ℕ
  pub host : Seen
  pub stood : slice_get p.store object ≡ Some host
  pub top : IsTop p.windows host.label
  pub windows : q.windows ≡ p.windows
  pub now : Seen
  pub there : slice_get q.store object ≡ Some now
  pub label : now.label ≡ host.label
  pub field : ℕ
  pub leads : slice_get now.fields field ≡ Some (val.Obj a)
  pub led : Led p object

abbrev pub IsSeen : (p q : State) → ℕ → Type 0
IsSeen p q a = FromLocal q a ⊎ FromField p q a

-- a step that makes at most one object, which is seen behind it, and changes no label
pub record Comes (p q : State) : Type 0 where
  pub labels : (a : ℕ) (o v : Seen) → slice_get p.store a ≡ Some o → slice_get q.store a ≡ Some v → v.label ≡ o.label
  pub fresh : (a : ℕ) → length p.store ≤ a → a < length q.store → IsSeen p q a

-- Values along a path

pub value-leads : (test : ℕ → Truth) (ls : List Local) (x : Variable)
    → ((i : ℕ) (l : Local) → slice_get ls i ≡ Some l → leads_to test l.value ≡ true) → leads_to test (value_in ls x) ≡ true
value-leads test [] x h = refl
value-leads test (m ∷ ls) x h = by (same_variable m.name x) (value-leads test ls x (λ i l e. h (suc i) l e))
  where
    by : (b : Truth) → leads_to test (value_in ls x) ≡ true → leads_to test (if b then m.value else value_in ls x) ≡ true
    by true rest = h 0 m refl
    by false rest = rest

field-leads : (classes : List Class) (test : ℕ → Truth) (o : Seen) (x : Name)
    → ((k : ℕ) (v : Val) → slice_get o.fields k ≡ Some v → leads_to test v ≡ true) → leads_to test (field_value classes o x) ≡ true
field-leads classes test o x h = by (field_place (fields_of classes o.class) x)
  where
    at : (v : Option Val) → ((u : Val) → v ≡ Some u → leads_to test u ≡ true) → leads_to test (unwrap_or v val.Nil) ≡ true
    at None g = refl
    at (Some v) g = g v refl

    by : (k : Option ℕ) → leads_to test (elim k [ None ↦ val.Nil | Some n ↦ unwrap_or (slice_get o.fields n) val.Nil ]) ≡ true
    by None = refl
    by (Some k) = at (slice_get o.fields k) (λ u e. h k u e)

pub follow-leads : (classes : List Class) (store : List Seen) (test : ℕ → Truth)
    → ((a k : ℕ) (o : Seen) (v : Val) → test a ≡ true → slice_get store a ≡ Some o → slice_get o.fields k ≡ Some v → leads_to test v ≡ true)
    → (xs : List Name) (v u : Val) → leads_to test v ≡ true → follow_fields classes store v xs ≡ Ok u → leads_to test u ≡ true
follow-leads classes store test keeps [] v u lead e = let same : v ≡ u = grind arith in subst (λ x. leads_to test x ≡ true) same lead
follow-leads classes store test keeps (x ∷ xs) v u lead e =
    let o = bind-ok (object_at store v) _ u e in
    let at = object_at-ok store v o.0 o.1 in
    let here : test at.address ≡ true = subst (λ y. leads_to test y ≡ true) at.value lead in
    follow-leads classes store test keeps xs (field_value classes o.0 x) u
    (field-leads classes test o.0 x (λ k y f. keeps at.address k o.0 y here at.there f)) o.2

-- a variable's value is that of a slot
local-slot : (ms : List Frame) (b : Body) (bs : List Body) → ShowsFrames ms (b ∷ bs) → (i : ℕ) (l : Local) → slice_get b.locals i ≡ Some l
    → (f : Frame) × (slice_get ms 0 ≡ Some f) × (slice_get f.slots i ≡ Some l.value)
local-slot [] b bs shows i l e = absurd shows
local-slot (m ∷ ms) b bs shows i l e = (
  m,
  refl,
  ap (λ vs. slice_get vs i) shows.0
      ∙ longer-get (map (λ (l : Local). l.value) b.locals) _ i l.value
      (slice_get-map (λ (l : Local). l.value) b.locals i ∙ ap (option_map (λ (l : Local). l.value)) e),
)

module _ {t : Tree} {code : Code} {old : Standing} {p q : State} {new : Standing} (w : Answer t code old p q new) where
  abbrev held : ℕ → Truth
  held a = holds (mid w).heap.cells.heap a

  abbrev one : Machine
  one = (shown w).grown

  abbrev part : Part held [] (machine_in (mid w)) one []
  part = (beside w).part

  abbrev before : ShowsHeld t.classes code (machine_in old.stepper.parts) p
  before = w.runs.shows

  -- from a variable it is held
  by-local : (a : ℕ) → FromLocal q a → held a ≡ true
  by-local a s =
      let f = local-slot one.frames s.top s.rest (subst (λ (bs : List Body). ShowsFrames one.frames bs) s.frames (shown w).shows.slots) s.place
      s.local s.there in
      part.slots 0 f.0 s.place (val.Obj a) f.1 (f.2 ∙ ap Some s.leads)

  -- to which variables led was held before
  pub led-held : (b : ℕ) → Led p b → before.held b ≡ true
  led-held b led =
      led before.held (locals p.frames before.shows.slots)
      (λ a k o v h there at. before.beside.fields a o k v h (ap (λ (s : List Seen). slice_get s a) before.shows.store ∙ there) at)
    where
      locals : (bs : List Body) → ShowsFrames before.grown.frames bs → (i : ℕ) (l : Local) → slice_get (top_locals bs) i ≡ Some l
          → leads_to before.held l.value ≡ true
      locals [] shows i l e = absurd (none-some l e)
      locals (b ∷ bs) shows i l e =
          let f = local-slot before.grown.frames b bs shows i l e in before.beside.slots 0 f.0 i l.value f.1 f.2

  -- an object of the topmost window to which variables led is held still
  host-held : (b : ℕ) (host now : Seen) → slice_get p.store b ≡ Some host → IsTop p.windows host.label → q.windows ≡ p.windows
      → slice_get q.store b ≡ Some now → now.label ≡ host.label → Led p b → held b ≡ false → ⊥
  host-held b host now stood top windows there label led e = by p.windows refl top
    where
      label-not : (r n : ℕ) → Region r ≡ Temp n → ⊥
      label-not r n is = cc

      open-there : (r : ℕ) → is_open one.windows r ≡ true → InTable (mid w).heap.regions r
      open-there r is =
          let y = open-back (mid w).heap.regions (mid w).frames
          (keyed (mid w).heap (mid w).frames (mid w).at (beside w).serials (beside w).grove (beside w).stands.opened) r
          (ap (λ ws. is_open ws r) part.windows ∙ is) in
          (y.1.region, y.3)

      was-held : before.held b ≡ true
      was-held = led-held b led

      at : slice_get (machine_in old.stepper.parts).store b ≡ Some host
      at = before.beside.same b was-held ∙ ap (λ (s : List Seen). slice_get s b) before.shows.store ∙ stood

      by : (ws : List Opened) → p.windows ≡ ws → IsTop ws host.label → ⊥
      by [] is x = x
      by (o ∷ ws) is (inl region) =
          elim (w.step.serves.frees b host at (λ g. label-not o.region _ (sym region ∙ ap (λ (x : Seen). x.label) g))
          (λ x f. gone-shown (mid w).heap (mid w).frames (beside w).serials (beside w).stands b x e f)) [
            | inl ended ↦ label-not o.region ended.0 (sym region ∙ ended.1)
            | inr left ↦
                (let same : left.0 ≡ o.region = region-same (sym left.1 ∙ region) in
                left.2.left (subst (InTable (mid w).heap.regions) (sym same) (open-there o.region
                (regions-shown _ one.windows q.windows o.region (shown w).shows.windows
                ∙ ap (λ ps. list_any (λ (x : Opened). x.region == o.region) ps) (windows ∙ is)
                ∙ ap (λ c. c || list_any (λ (x : Opened). x.region == o.region) ws) (eq-eqb o.region o.region refl)))))
          ]
        where
          region-same : {r k : ℕ} → Region r ≡ Region k → r ≡ k
          region-same f = cc
      by (o ∷ ws) is (inr temp) =
          let ended = (part.lost_temps b now o.number e (ap (λ (s : List Seen). slice_get s b) (shown w).shows.store ∙ there) (label ∙ temp)).1 in
          true≢false (sym (numbers-shown _ one.windows q.windows o.number (shown w).shows.windows
          ∙ ap (λ ps. list_any (λ (x : Opened). x.number == o.number) ps) (windows ∙ is)
          ∙ ap (λ c. c || list_any (λ (x : Opened). x.number == o.number) ws) (eq-eqb o.number o.number refl)) ∙ ended)

  by-field : (a : ℕ) → FromField p q a → held a ≡ true
  by-field a s = by (held s.object) refl
    where
      by : (b : Truth) → held s.object ≡ b → held a ≡ true
      by true e =
          part.fields s.object s.now s.field (val.Obj a) e (ap (λ (l : List Seen). slice_get l s.object) (shown w).shows.store ∙ s.there) s.leads
      by false e = absurd (host-held s.object s.host s.now s.stood s.top s.windows s.there s.label s.led e)

  -- what is seen behind a step its instructions left held
  pub seen-held : (a : ℕ) → IsSeen p q a → held a ≡ true
  seen-held a (inl s) = by-local a s
  seen-held a (inr s) = by-field a s
