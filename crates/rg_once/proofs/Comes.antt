-- A step that neither freezes nor merges changes no label, and what it makes is seen behind it.
use Rattle.std.proofs.Common.{◌≡◌, inl, inr, ℕ, Bool as Truth, true, false, if◌then◌else◌, List, [], ◌∷◌, length, Some}
use Rattle.std.proofs.Common.{Ok, refl, sym, ap, ◌∙◌, subst, arith}
use Rattle.rg_tree.specs.Tree.{Expr, Name, Path, Right, StmtKind, Tree, Ty as Written, Variable, assign, assign_element, branch, call, collect}
use Rattle.rg_tree.specs.Tree.{declare, enter, print, return, stmt, swap, while}
use Rattle.rg_rules.specs.Acceptance.{Accepted}
use Rattle.rg_rules.specs.Evaluation.{computed, element_place, follow_fields, object_at, path_value, value_of}
use Rattle.rg_rules.specs.Items.{Do, Item, LeaveAt, LeaveGiving, leave_of}
use Rattle.rg_rules.specs.Paths.{all_but_last, last_field}
use Rattle.rg_rules.specs.State.{Assigns, Declares, Drops, Local, State, add_local, locals_of, put_local, top_locals, value_in}
use Rattle.rg_rules.specs.Steps.{Went, begin_block, begin_else, next, put_element, put_field, step_first, step_item, step_kind, step_leave_giving}
use Rattle.rg_rules.specs.Types.{type_of}
use Rattle.rg_rules.proofs.Answers.{at_line-ok, bind-ok, then-ok}
use Rattle.rg_rules.proofs.Step.{stepped-went}
use Rattle.rg_rules.specs.Values.{as_bool}
use Rattle.rg_rules.specs.Statements.{judge_assign}
use Rattle.rg_sound.specs.Fit.{Fit}
use Rattle.rg_sound.proofs.Frames.Judge.{judge_assign-field, judge_assign-parts}
use Rattle.rg_sound.proofs.Frames.Named.{first-at}
use Rattle.rg_sound.proofs.Frames.Top.{top-sees}
use Rattle.rg_sound.proofs.Owners.Receiver.{receiver-at}
use Rattle.rg_sound.proofs.Values.Assign.{doing, doing-judges}
use Rattle.rg_once.proofs.Made.{assign-comes, declare-comes, element-comes, field-comes, hosted, receiver-led}
use Rattle.rg_once.proofs.Moves.{kind_moves, moves, right_moves}
use Rattle.rg_once.proofs.Quiet.{Same, call-store, computed-store, element-same, else-store, enter-store, giving-same, leave-store, ok-same, put-same}
use Rattle.rg_once.proofs.Quiet.{return-store}
use Rattle.rg_once.proofs.Quiet.{right-does}
use Rattle.rg_once.proofs.Quiet.{still, swap-same}
use Rattle.rg_once.proofs.Seen.{Comes}

-- a step that makes nothing and changes no label
quiet-comes : (p q : State) → Same p.store q.store → Comes p q
quiet-comes p q same = record {
  labels = same.labels;
  fresh = λ a le lt. let count = same.count in absurd (omega (arith, le, lt, count));
}

module _ (t : Tree) (accepted : Accepted t) (p q : State) (line : ℕ) (rest : List Item) (fit : Fit t p) where
  abbrev start : State
  start = record p { items = rest }

  -- `let x: T = r`
  declare-right : (x : Name) (ty : Written) (r : Right) → right_moves r ≡ false → p.items ≡ Do (stmt line (declare x ty r)) ∷ rest
      → step_kind t.classes start line (declare x ty r) ≡ Ok q → Comes p q
  declare-right x ty r quiet items e =
      let here = doing t accepted p line (declare x ty r) rest items fit in
      elim (right-does t.classes start q (add_local (Some x) (type_of t.classes ty)) (λ s v. still s.store s.store refl)
      (Declares x (type_of t.classes ty)) r quiet e) [
        | inl same ↦ quiet-comes p q same
        | inr m ↦
            subst (Comes p) (sym m.is)
            (declare-comes p m.with m.object here.f here.fs m.store m.frames m.windows here.frames (Some x) (type_of t.classes ty))
      ]

  -- `x = r`
  assign-right : (x : Variable) (r : Right) → right_moves r ≡ false
      → p.items ≡ Do (stmt line (assign (record { base = x; fields = [] }) r)) ∷ rest
      → step_kind t.classes start line (assign (record { base = x; fields = [] }) r) ≡ Ok q → Comes p q
  assign-right x r quiet items e =
      let here = doing t accepted p line (assign (record { base = x; fields = [] }) r) rest items fit in
      let j = doing-judges t p line (assign (record { base = x; fields = [] }) r) rest here in
      let parts = judge_assign-parts t.classes here.r.spot.env j.out x r
      (at_line-ok line (judge_assign t.classes here.r.spot.env x [] r) j.out j.judged) in
      let first = first-at here.r.spot.env.entries here.f.locals x parts.entry here.r.stands.named parts.there in
      elim (right-does t.classes start q (put_local x) (λ s v. still s.store s.store refl) (Assigns x) r quiet e) [
        | inl same ↦ quiet-comes p q same
        | inr m ↦
            subst (Comes p) (sym m.is)
            (assign-comes p m.with m.object here.f here.fs m.store m.frames m.windows here.frames x first.local first.local_at)
      ]

  -- `q.f = r`
  field-right : (x : Variable) (f : Name) (fs : List Name) (r : Right) → right_moves r ≡ false
      → p.items ≡ Do (stmt line (assign (record { base = x; fields = f ∷ fs }) r)) ∷ rest
      → step_kind t.classes start line (assign (record { base = x; fields = f ∷ fs }) r) ≡ Ok q → Comes p q
  field-right x f fs r quiet items e =
      let here = doing t accepted p line (assign (record { base = x; fields = f ∷ fs }) r) rest items fit in
      let j = doing-judges t p line (assign (record { base = x; fields = f ∷ fs }) r) rest here in
      let parts = judge_assign-field t.classes here.r.spot.env j.out x f fs r
      (at_line-ok line (judge_assign t.classes here.r.spot.env x (f ∷ fs) r) j.out j.judged) in
      let at = bind-ok (follow_fields t.classes p.store (value_in (locals_of start) x) (all_but_last f fs)) _ q e in
      let host = then-ok (object_at p.store at.0) _ q at.2 in
      let sees = top-sees t p.store here.f here.fs p.windows
      (Do (stmt line (assign (record { base = x; fields = f ∷ fs }) r)) ∷ rest) here.r here.top here.fits.values in
      let follows = subst (λ (ls : List Local). follow_fields t.classes p.store (value_in ls x) (all_but_last f fs) ≡ Ok at.0)
      (ap top_locals here.frames) at.1 in
      let v = receiver-at t.classes p.store p.windows (length here.fs) here.r.spot.env here.f.locals here.fits.objects sees x f fs parts.ty at.0
      host.0 parts.writable follows host.1 in
      elim (right-does t.classes start q (put_field t.classes at.0 (last_field f fs)) (put-same t.classes at.0 (last_field f fs)) Drops r quiet
      host.2) [
        | inl same ↦ quiet-comes p q same
        | inr m ↦
            subst (Comes p) (sym m.is)
            (field-comes p m.with m.object here.f here.fs m.store m.frames m.windows here.frames host.0 v.address v.field.place v.field.value v.there
            v.top v.field.value_is (receiver-led t p x (all_but_last f fs) at.0 v.address here.f here.fs here.frames follows v.value)
            t.classes at.0 (last_field f fs) v.value v.field.place_is)
      ]

  -- `q[e] = r`
  element-right : (a : Path) (i : Expr) (r : Right) → right_moves r ≡ false → p.items ≡ Do (stmt line (assign_element a i r)) ∷ rest
      → step_kind t.classes start line (assign_element a i r) ≡ Ok q → Comes p q
  element-right a i r quiet items e =
      let here = doing t accepted p line (assign_element a i r) rest items fit in
      let at = bind-ok (path_value t.classes p.store (locals_of start) a) _ q e in
      let host = bind-ok (object_at p.store at.0) _ q at.2 in
      let index = bind-ok (value_of t.classes p.store (locals_of start) i) _ q host.2 in
      let place = bind-ok (element_place host.0 index.0) _ q index.2 in
      let h = hosted t p line a i r rest here at.0 host.0 index.0 place.0 at.1 host.1 place.1 in
      elim (right-does t.classes start q (put_element at.0 place.0) (element-same at.0 place.0) Drops r quiet place.2) [
        | inl same ↦ quiet-comes p q same
        | inr m ↦
            subst (Comes p) (sym m.is)
            (element-comes p m.with m.object here.f here.fs m.store m.frames m.windows here.frames host.0 h.address place.0 h.old h.stood h.top
            h.there h.led at.0 h.value)
      ]

  by-store : (u : State) → u ≡ q → u.store ≡ p.store → Comes p q
  by-store u is same = quiet-comes p q (still p.store q.store (ap (λ (x : State). x.store) (sym is) ∙ same))

  -- each statement that neither freezes nor merges
  kind-comes : (k : StmtKind) → kind_moves k ≡ false → p.items ≡ Do (stmt line k) ∷ rest → step_kind t.classes start line k ≡ Ok q → Comes p q
  kind-comes (declare x ty r) quiet items e = declare-right x ty r quiet items e
  kind-comes (assign a r) quiet items e = by a.base a.fields items e
    where
      by : (x : Variable) (fs : List Name) → p.items ≡ Do (stmt line (assign (record { base = x; fields = fs }) r)) ∷ rest
          → step_kind t.classes start line (assign (record { base = x; fields = fs }) r) ≡ Ok q → Comes p q
      by x [] items e = assign-right x r quiet items e
      by x (f ∷ fs) items e = field-right x f fs r quiet items e
  kind-comes (assign_element a i r) quiet items e = element-right a i r quiet items e
  kind-comes (call c) quiet items e = by-store q refl (call-store t.classes start q Drops c e)
  kind-comes (swap y a) quiet items e = quiet-comes p q (swap-same t.classes start q (Some y) a.base a.fields e)
  kind-comes (branch a first other) quiet items e =
      let d = bind-ok (computed t.classes start a) _ q e in
      by-store _ (ok-same _ q d.2) (by (as_bool d.0.1) d.0.0 ∙ computed-store t.classes start a d.0 d.1)
    where
      by : (b : Truth) (s : State) → (λ (x : State). x.store) (if b then begin_block s first else begin_else s other) ≡ s.store
      by true s = refl
      by false s = else-store s other
  kind-comes (while a body) quiet items e =
      let d = bind-ok (computed t.classes start a) _ q e in
      by-store _ (ok-same _ q d.2) (by (as_bool d.0.1) d.0.0 ∙ computed-store t.classes start a d.0 d.1)
    where
      by : (b : Truth) (s : State) → (λ (x : State). x.store)
          (if b then begin_block (record s { items = Do (stmt line (while a body)) ∷ rest }) body else s) ≡ s.store
      by true s = refl
      by false s = refl
  kind-comes (enter a z body giving) quiet items e =
      by-store q refl (enter-store t.classes start q a.base a.fields z body (λ kept. leave_of line kept giving) e)
  kind-comes (print a) quiet items e =
      let d = bind-ok (computed t.classes start a) _ q e in
      by-store _ (ok-same _ q d.2) (computed-store t.classes start a d.0 d.1)
  kind-comes collect quiet items e = by-store start (ok-same start q e) refl
  kind-comes (return a) quiet items e = by-store q refl (return-store t.classes start q a p.frames e)

-- a step that neither freezes nor merges changes no label, and what it makes is seen
pub step-comes : (t : Tree) → Accepted t → (p q : State) → Fit t p → next t.classes p ≡ Went q → moves p.items ≡ false → Comes p q
step-comes t accepted p q fit went quiet = by p.items refl quiet
  where
    went-same : (x : State) → Went x ≡ Went q → x ≡ q
    went-same x e = cc

    started : (i : Item) (rest : List Item) → p.items ≡ i ∷ rest → step_item t.classes (record p { items = rest }) i ≡ Went q
    started i rest is = ap (λ is. step_first t.classes p is) (sym is) ∙ went

    same : (x : State) → Went x ≡ Went q → x.store ≡ p.store → Comes p q
    same x e is = quiet-comes p q (still p.store q.store (ap (λ (y : State). y.store) (sym (went-same x e)) ∙ is))

    by : (items : List Item) → p.items ≡ items → moves items ≡ false → Comes p q
    by [] is e = same p (ap (λ is. step_first t.classes p is) (sym is) ∙ went) refl
    by (Do (stmt line k) ∷ rest) is e =
        kind-comes t accepted p q line rest fit k e is
        (stepped-went line (step_kind t.classes (record p { items = rest }) line k) q (started (Do (stmt line k)) rest is))
    by (LeaveAt k ∷ rest) is e = same _ (started (LeaveAt k) rest is) (leave-store k (record p { items = rest }) p.windows)
    by (LeaveGiving line k w ∷ rest) is e =
        quiet-comes p q (giving-same k w (record p { items = rest }) q p.windows
        (stepped-went line (step_leave_giving k w (record p { items = rest }) p.windows) q (started (LeaveGiving line k w) rest is)))
    by (i ∷ rest) is e = same _ (started i rest is) refl
