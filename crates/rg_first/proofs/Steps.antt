-- A step keeps the object of a behaviour.
use Rattle.std.proofs.Common.{◌≡◌, refl, sym, ◌∙◌, ap, subst, ℕ, List, [], ◌∷◌, Option, Some, None, Ok}
use Rattle.rg_base.specs.declared.object.Place.{Place}
use Rattle.rg_base.specs.declared.object.Place.TheVariants.{Var, Field}
use Rattle.rg_base.specs.declared.value.Val.{Val}
use Rattle.rg_base.specs.declared.value.Val.TheVariants.{Obj}
use Rattle.rg_tree.specs.Tree.{Name, stmt, Tree}
use Rattle.rg_rules.specs.Acceptance.{Accepted}
use Rattle.rg_rules.specs.Items.{Item, Do, EndAt, LeaveAt, LeaveGiving, Back}
use Rattle.rg_rules.specs.State.{Window, State, locals_of, value_in, keep_locals}
use Rattle.rg_rules.specs.Evaluation.{object_at}
use Rattle.rg_rules.specs.Steps.{Went, step_kind, step_leave, put_at, step_leave_giving, step_item, step_first, next, without_top}
use Rattle.rg_rules.proofs.Answers.{then-ok}
use Rattle.rg_rules.proofs.Step.{stepped-went}
use Rattle.rg_sound.specs.Fit.{Fit}
use Rattle.rg_sound.proofs.Frames.Quiet.{went_is}
use Rattle.rg_first.specs.Laws.{FirstStays}
use Rattle.rg_first.proofs.Stores.{Keeps, element-keeps}
use Rattle.rg_first.proofs.Rights.{ok-is}
use Rattle.rg_first.proofs.Statements.{stored, kind-keeps}

left-store : (k : ℕ) (s : State) (ws : List Window) → (step_leave k s ws).store ≡ s.store
left-store k s [] = refl
left-store k s (w ∷ []) = refl
left-store k s (w ∷ v ∷ ws) = refl

-- a value goes to a place behind a state with the same store
put_at-keeps : (s w u : State) → w.store ≡ s.store → (p : Option Place) (v : Val) → put_at p w v ≡ u → Keeps s.store u.store
put_at-keeps s w u same None v is = stored s w u same is
put_at-keeps s w u same (Some (Var n i)) v is = stored s _ u same is
put_at-keeps s w u same (Some (Field a k)) v is =
    subst (λ q. Keeps q u.store) same (subst (λ (q : State). Keeps w.store q.store) is (element-keeps (Obj a) k w v))

giving-keeps : (s u : State) (k : ℕ) (x : Name) (ws : List Window) → step_leave_giving k x s ws ≡ Ok u → Keeps s.store u.store
giving-keeps s u k x [] h = stored s s u refl (ok-is s u h)
giving-keeps s u k x (w ∷ []) h = stored s s u refl (ok-is s u h)
giving-keeps s u k x (w ∷ v ∷ ws) h =
    let o = then-ok (object_at s.store (value_in (locals_of s) (Some x))) _ u h in
    put_at-keeps s (step_leave k s (w ∷ v ∷ ws)) u (left-store k s (w ∷ v ∷ ws)) w.owner (value_in (locals_of s) (Some x)) (ok-is _ u o.2)

item-keeps : (i : Item) (t : Tree) (s u : State) (rest : List Item) → Accepted t → Fit t s → s.items ≡ i ∷ rest
    → step_item t.classes (record s { items = rest }) i ≡ Went u → Keeps s.store u.store
item-keeps (Do (stmt line k)) t s u rest a fit is h =
    kind-keeps k t s u line rest a fit is (stepped-went line (step_kind t.classes (record s { items = rest }) line k) u h)
item-keeps (EndAt k) t s u rest a fit is h = stored s _ u refl (went_is (keep_locals k (record s { items = rest })) u h)
item-keeps (LeaveAt k) t s u rest a fit is h =
    let s0 : State = record s { items = rest } in
    stored s (step_leave k s0 s.windows) u (left-store k s0 s.windows) (went_is (step_leave k s0 s.windows) u h)
item-keeps (LeaveGiving line k x) t s u rest a fit is h =
    let s0 : State = record s { items = rest } in
    giving-keeps s0 u k x s.windows (stepped-went line (step_leave_giving k x s0 s.windows) u h)
item-keeps Back t s u rest a fit is h =
    stored s _ u refl (went_is (record s { items = rest; frames = without_top s.frames }) u h)

pub next-keeps : (t : Tree) (s u : State) → Accepted t → Fit t s → next t.classes s ≡ Went u → Keeps s.store u.store
next-keeps t s u a fit went = by s.items refl
  where
    by : (items : List Item) → s.items ≡ items → Keeps s.store u.store
    by [] e = stored s s u refl (went_is s u (sym (ap (step_first t.classes s) e) ∙ went))
    by (i ∷ rest) e = item-keeps i t s u rest a fit e (sym (ap (step_first t.classes s) e) ∙ went)

pub first-stays : FirstStays
first-stays t class s u a fit first went =
    let n = next-keeps t s u a fit went 0 first.object first.there first.label_is in
    record {
      object = n.0;
      there = n.1;
      class_is = n.2.class_is ∙ first.class_is;
      label_is = n.2.label_is ∙ first.label_is;
      many = n.2.many ∙ first.many;
    }
