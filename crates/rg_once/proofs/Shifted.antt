-- Each step that freezes or merges shifts objects, and so its instructions leave the same held.
use Rattle.std.proofs.Common.{◌≡◌, ◌≢◌, inl, inr, ℕ, Bool as Truth, true, false, List, [], ◌∷◌, length, Some, option_map}
use Rattle.std.proofs.Common.{slice_get, Ok, refl, sym, ap, ◌∙◌, subst, arith}
use Rattle.std.proofs.lemmas.Option.{same_Some}
use Rattle.rg_base.specs.declared.object.Label.TheVariants.{Region, Frozen}
use Rattle.rg_base.specs.declared.object.Seen.{Seen}
use Rattle.rg_base.specs.declared.ty.Ty.{Ty}
use Rattle.rg_base.specs.declared.ty.Ty.TheVariants.{Int}
use Rattle.rg_base.specs.declared.value.Val.TheVariants as val
use Rattle.rg_base.specs.declared.words.Cap.TheVariants.{Imm, Mut}
use Rattle.rg_tree.specs.Tree.{Expr, Name, Path, Right, StmtKind, Tree, Ty as Written, Variable, assign, assign_element, declare, freeze, merge}
use Rattle.rg_tree.specs.Tree.{more}
use Rattle.rg_tree.specs.Tree.{new, new_iso, new_tmp, read, result_of, stmt, value}
use Rattle.rg_rules.specs.Acceptance.{Accepted}
use Rattle.rg_rules.specs.Environment.{Env}
use Rattle.rg_rules.specs.Evaluation.{element_place, follow_fields, object_at, path_value, value_of}
use Rattle.rg_rules.specs.Expressions.{Judged}
use Rattle.rg_rules.specs.Items.{Do, Item}
use Rattle.rg_rules.specs.Paths.{all_but_last, last_field}
use Rattle.rg_rules.specs.Regions.{beneath, region_of}
use Rattle.rg_rules.specs.Rights.{judge_right}
use Rattle.rg_rules.specs.RightSides.{Use, consumed, frozen, merged, with_right}
use Rattle.rg_rules.specs.State.{Assigns, Declares, Drops, Frame, Local, State, Target, active, add_local, locals_of, put_local, top_locals, value_in}
use Rattle.rg_rules.specs.Statements.{judge_assign, judge_assign_element, judge_declare}
use Rattle.rg_rules.specs.Steps.{Went, next, put_element, put_field, step_first, step_kind}
use Rattle.rg_rules.specs.Types.{type_of}
use Rattle.rg_rules.proofs.Answers.{at_line-ok, bind-ok, then-ok}
use Rattle.rg_rules.proofs.Expression.{judge_expr-env, number-not_iso}
use Rattle.rg_rules.proofs.Step.{stepped-went}
use Rattle.rg_sound.specs.Fit.{Fit}
use Rattle.rg_sound.specs.Frames.{Running}
use Rattle.rg_sound.proofs.Frames.Judge.{judge_assign-element, judge_assign-field, judge_assign-parts, judge_declare-parts}
use Rattle.rg_sound.proofs.Frames.Top.{Top, top-sees}
use Rattle.rg_sound.proofs.Owners.Data.{Data}
use Rattle.rg_sound.proofs.Owners.Receiver.{receiver-at}
use Rattle.rg_sound.proofs.Values.Assign.{doing, doing-judges}
use Rattle.rg_code.specs.Code.{Code}
use Rattle.rg_held.specs.Gone.{gone}
use Rattle.rg_machine.specs.Parts.{machine_in}
use Rattle.rg_step.specs.States.{Standing}
use Rattle.rg_once.proofs.Moves.{kind_moves, moves, right_moves}
use Rattle.rg_once.specs.Once.{HoldTheSame}
use Rattle.rg_once.proofs.Answer.{Answer, mid}
use Rattle.rg_once.proofs.Hang.{Shifts, hanging-stays}
use Rattle.rg_once.proofs.Held.{Labelled, mid-same}
use Rattle.rg_once.proofs.Made.{hosted, receiver-led}
use Rattle.rg_once.proofs.Move.{Taken, alone-hangs, assign-shifts, beneath-hangs, declare-shifts, element-shifts, field-shifts, goes}
use Rattle.rg_once.proofs.Move.{taken-with}
use Rattle.rg_once.proofs.Quiet.{ok-same}

module _ (t : Tree) (p q : State) (f : Frame) (fs : List Frame) (rest later : List Item) (run : Running t f fs p.windows later)
    (top : Top t f fs p.windows later run) (here : p.frames ≡ f ∷ fs)
    (d : Data t.classes p.store (f ∷ fs) p.windows (length p.managers) p.windows_made) (wanted : Ty) (j : Judged) (target : Target) (put : Use) where
  abbrev start : State
  start = record p { items = rest }

  value-is : (y : Name) → value_in (locals_of start) (Some y) ≡ value_in f.locals (Some y)
  value-is y = ap (λ gs. value_in (top_locals gs) (Some y)) here

  -- a right side that freezes or merges takes a variable
  pub right-takes : (r : Right) → right_moves r ≡ true → judge_right t.classes run.spot.env wanted r ≡ Ok j
      → with_right t.classes start target put r ≡ Ok q → (k : Taken t p f fs run.spot.env.entries) × (q ≡ put k.after (val.Obj k.address))
  right-takes (value e) moved typed h = absurd cc
  right-takes (new x size) moved typed h = absurd cc
  right-takes (new_tmp x size) moved typed h = absurd cc
  right-takes (new_iso x size m) moved typed h = absurd cc
  right-takes (freeze y) moved typed h =
      let o = bind-ok (object_at p.store (value_in (locals_of start) (Some y))) _ q h in
      let at : object_at p.store (value_in f.locals (Some y)) ≡ Ok o.0 = ap (object_at p.store) (sym (value-is y)) ∙ o.1 in
      let g = goes t p f fs rest later run top here d Imm y wanted j typed o.0 at in
      let rs = beneath t.classes p.store (length p.managers) (g.region ∷ []) in
      let k = taken-with t p f fs rest later run top here d Imm y wanted j typed o.0 at rs Frozen
      (beneath-hangs t p f fs rest later run top here d Imm y wanted j typed o.0 at) in (
        k.0,
        sym (ok-same (consumed start put (Some y) (option_map (frozen t.classes start) (region_of o.0.label))) q o.2)
            ∙ ap (λ l. consumed start put (Some y) (option_map (frozen t.classes start) (region_of l))) g.lies
            ∙ ap (put (put_local (Some y) (frozen t.classes start g.region) val.Nil)) (value-is y ∙ g.value)
            ∙ ap (λ x. put x (val.Obj g.address)) (sym k.1) ∙ ap (λ n. put k.0.after (val.Obj n)) (sym k.2),
      )
  right-takes (merge y) moved typed h =
      let o = bind-ok (object_at p.store (value_in (locals_of start) (Some y))) _ q h in
      let at : object_at p.store (value_in f.locals (Some y)) ≡ Ok o.0 = ap (object_at p.store) (sym (value-is y)) ∙ o.1 in
      let g = goes t p f fs rest later run top here d Mut y wanted j typed o.0 at in
      let k = taken-with t p f fs rest later run top here d Mut y wanted j typed o.0 at (g.region ∷ []) (Region (active p.windows))
      (alone-hangs t p f fs rest later run top here d Mut y wanted j typed o.0 at) in (
        k.0,
        sym (ok-same (consumed start put (Some y) (option_map (merged start) (region_of o.0.label))) q o.2)
            ∙ ap (λ l. consumed start put (Some y) (option_map (merged start) (region_of l))) g.lies
            ∙ ap (put (put_local (Some y) (merged start g.region) val.Nil)) (value-is y ∙ g.value)
            ∙ ap (λ x. put x (val.Obj g.address)) (sym k.1) ∙ ap (λ n. put k.0.after (val.Obj n)) (sym k.2),
      )
  right-takes read moved typed h = absurd cc
  right-takes more moved typed h = absurd cc
  right-takes (result_of c) moved typed h = absurd cc

module _ (t : Tree) (accepted : Accepted t) (p q : State) (line : ℕ) (rest : List Item) (fit : Fit t p) where
  abbrev begun : State
  begun = record p { items = rest }

  -- `let x: T = r`
  declare-moves : (x : Name) (ty : Written) (r : Right) → right_moves r ≡ true → p.items ≡ Do (stmt line (declare x ty r)) ∷ rest
      → step_kind t.classes begun line (declare x ty r) ≡ Ok q → Shifts t.classes p q
  declare-moves x ty r moved items e =
      let here = doing t accepted p line (declare x ty r) rest items fit in
      let j = doing-judges t p line (declare x ty r) rest here in
      let parts = judge_declare-parts t.classes here.r.spot.env j.out x ty r
      (at_line-ok line (judge_declare t.classes here.r.spot.env x ty r) j.out j.judged) in
      let k = right-takes t p q here.f here.fs rest (Do (stmt line (declare x ty r)) ∷ rest) here.r here.top here.frames here.fits parts.declared
      parts.judged (Declares x (type_of t.classes ty)) (add_local (Some x) (type_of t.classes ty)) r moved parts.typed e in
      subst (Shifts t.classes p) (sym k.1)
      (declare-shifts t p here.f here.fs here.r.spot.env.entries k.0 (Some x) (type_of t.classes ty))

  -- `x = r`
  assign-moves : (x : Variable) (r : Right) → right_moves r ≡ true
      → p.items ≡ Do (stmt line (assign (record { base = x; fields = [] }) r)) ∷ rest
      → step_kind t.classes begun line (assign (record { base = x; fields = [] }) r) ≡ Ok q → Shifts t.classes p q
  assign-moves x r moved items e =
      let here = doing t accepted p line (assign (record { base = x; fields = [] }) r) rest items fit in
      let j = doing-judges t p line (assign (record { base = x; fields = [] }) r) rest here in
      let parts = judge_assign-parts t.classes here.r.spot.env j.out x r
      (at_line-ok line (judge_assign t.classes here.r.spot.env x [] r) j.out j.judged) in
      let k = right-takes t p q here.f here.fs rest (Do (stmt line (assign (record { base = x; fields = [] }) r)) ∷ rest) here.r here.top here.frames
      here.fits parts.entry.ty parts.judged (Assigns x) (put_local x) r moved parts.typed e in
      subst (Shifts t.classes p) (sym k.1) (assign-shifts t p here.f here.fs here.r.spot.env.entries k.0 x parts.entry parts.there)

  -- `q.f = r`
  field-moves : (x : Variable) (f : Name) (fs : List Name) (r : Right) → right_moves r ≡ true
      → p.items ≡ Do (stmt line (assign (record { base = x; fields = f ∷ fs }) r)) ∷ rest
      → step_kind t.classes begun line (assign (record { base = x; fields = f ∷ fs }) r) ≡ Ok q → Shifts t.classes p q
  field-moves x f fs r moved items e =
      let here = doing t accepted p line (assign (record { base = x; fields = f ∷ fs }) r) rest items fit in
      let j = doing-judges t p line (assign (record { base = x; fields = f ∷ fs }) r) rest here in
      let parts = judge_assign-field t.classes here.r.spot.env j.out x f fs r
      (at_line-ok line (judge_assign t.classes here.r.spot.env x (f ∷ fs) r) j.out j.judged) in
      let at = bind-ok (follow_fields t.classes p.store (value_in (locals_of begun) x) (all_but_last f fs)) _ q e in
      let host = then-ok (object_at p.store at.0) _ q at.2 in
      let sees = top-sees t p.store here.f here.fs p.windows
      (Do (stmt line (assign (record { base = x; fields = f ∷ fs }) r)) ∷ rest) here.r here.top here.fits.values in
      let follows = subst (λ (ls : List Local). follow_fields t.classes p.store (value_in ls x) (all_but_last f fs) ≡ Ok at.0)
      (ap top_locals here.frames) at.1 in
      let v = receiver-at t.classes p.store p.windows (length here.fs) here.r.spot.env here.f.locals here.fits.objects sees x f fs parts.ty at.0
      host.0 parts.writable follows host.1 in
      let k = right-takes t p q here.f here.fs rest (Do (stmt line (assign (record { base = x; fields = f ∷ fs }) r)) ∷ rest) here.r here.top
      here.frames here.fits parts.ty parts.judged Drops (put_field t.classes at.0 (last_field f fs)) r moved parts.typed host.2 in
      subst (Shifts t.classes p) (sym k.1)
      (field-shifts t p here.f here.fs here.r.spot.env.entries k.0 host.0 v.address v.field.place v.field.value v.there v.top v.field.value_is
      (receiver-led t p x (all_but_last f fs) at.0 v.address here.f here.fs here.frames follows v.value) at.0 (last_field f fs) v.value
      v.field.place_is)

  -- `q[e] = r`
  element-moves : (a : Path) (i : Expr) (r : Right) → right_moves r ≡ true → p.items ≡ Do (stmt line (assign_element a i r)) ∷ rest
      → step_kind t.classes begun line (assign_element a i r) ≡ Ok q → Shifts t.classes p q
  element-moves a i r moved items e =
      let here = doing t accepted p line (assign_element a i r) rest items fit in
      let at = bind-ok (path_value t.classes p.store (locals_of begun) a) _ q e in
      let host = bind-ok (object_at p.store at.0) _ q at.2 in
      let index = bind-ok (value_of t.classes p.store (locals_of begun) i) _ q host.2 in
      let place = bind-ok (element_place host.0 index.0) _ q index.2 in
      let h = hosted t p line a i r rest here at.0 host.0 index.0 place.0 at.1 host.1 place.1 in
      let j = doing-judges t p line (assign_element a i r) rest here in
      let parts = judge_assign-element t.classes here.r.spot.env j.out a.base a.fields i r
      (at_line-ok line (judge_assign_element t.classes here.r.spot.env a.base a.fields i r) j.out j.judged) in
      let same : parts.index.env ≡ here.r.spot.env = judge_expr-env t.classes here.r.spot.env (Some Int) i parts.index parts.index_typed
      (number-not_iso t.classes here.r.spot.env i parts.index parts.index_typed) in
      let typed = subst (λ (env : Env). judge_right t.classes env parts.array.ty r ≡ Ok parts.judged) same parts.typed in
      let k = right-takes t p q here.f here.fs rest (Do (stmt line (assign_element a i r)) ∷ rest) here.r here.top here.frames here.fits
      parts.array.ty parts.judged Drops (put_element at.0 place.0) r moved typed place.2 in
      subst (Shifts t.classes p) (sym k.1)
      (element-shifts t p here.f here.fs here.r.spot.env.entries k.0 host.0 h.address place.0 h.old h.stood h.top h.there h.led at.0 h.value)

  kind-shifts : (k : StmtKind) → kind_moves k ≡ true → p.items ≡ Do (stmt line k) ∷ rest → step_kind t.classes begun line k ≡ Ok q
      → Shifts t.classes p q
  kind-shifts (declare x ty r) moved items e = declare-moves x ty r moved items e
  kind-shifts (assign a r) moved items e = by a.base a.fields items e
    where
      by : (x : Variable) (fs : List Name) → p.items ≡ Do (stmt line (assign (record { base = x; fields = fs }) r)) ∷ rest
          → step_kind t.classes begun line (assign (record { base = x; fields = fs }) r) ≡ Ok q → Shifts t.classes p q
      by x [] items e = assign-moves x r moved items e
      by x (f ∷ fs) items e = field-moves x f fs r moved items e
  kind-shifts (assign_element a i r) moved items e = element-moves a i r moved items e
  kind-shifts _ moved items e = absurd cc

-- a step that freezes or merges
pub step-shifts : (t : Tree) → Accepted t → (p q : State) → Fit t p → next t.classes p ≡ Went q → moves p.items ≡ true → Shifts t.classes p q
step-shifts t accepted p q fit went moved = by p.items refl moved
  where
    by : (items : List Item) → p.items ≡ items → moves items ≡ true → Shifts t.classes p q
    by (Do (stmt line k) ∷ rest) is e =
        kind-shifts t accepted p q line rest fit k e is
        (stepped-went line (step_kind t.classes (record p { items = rest }) line k) q (ap (λ is. step_first t.classes p is) (sym is) ∙ went))
    by _ is e = absurd cc

module _ {t : Tree} {code : Code} {old : Standing} {p q : State} {new : Standing} (u : Answer t code old p q new) (s : Shifts t.classes p q) where
  was-held : (a : ℕ) (o : Seen) → slice_get p.store a ≡ Some o → slice_get (machine_in old.stepper.parts).store a ≡ Some o → o ≢ gone
      → u.runs.shows.held a ≡ true
  was-held a o e stood some = by (u.runs.shows.held a) refl
    where
      by : (b : Truth) → u.runs.shows.held a ≡ b → u.runs.shows.held a ≡ true
      by true h = h
      by false h =
          absurd (some (same_Some o gone (sym stood ∙ u.runs.shows.beside.others a h
          ∙ ap (λ (l : List Seen). option_map (λ (x : Seen). gone) (slice_get l a)) u.runs.shows.shows.store
          ∙ ap (option_map (λ (x : Seen). gone)) e)))

  shifts-labelled : Labelled old p q (mid u)
  shifts-labelled a o v e g stood some = elim (s.labels a o v e g) [
    | inl label ↦ inl label
    | inr x ↦ inr (x.0, x.1, λ left. hanging-stays u s x.0 x.2 a o (was-held a o e stood some) e x.1 left)
  ]

-- so the instructions of such a step leave the same held
pub shifts-same : {t : Tree} {code : Code} {old beside_old : Standing} {p q : State} {new other : Standing} (w : Answer t code old p q new)
    (u : Answer t code beside_old p q other) → HoldTheSame old.stepper.parts beside_old.stepper.parts → Shifts t.classes p q →
    HoldTheSame (mid w) (mid u)
shifts-same {p = p} {q = q} w u alike s =
    let count = s.count in
    mid-same w u alike (shifts-labelled w s) (shifts-labelled u s) (λ a le lt. absurd (omega (arith, count, le, lt)))
    (λ a le lt. absurd (omega (arith, count, le, lt)))
