-- A step that makes an object makes one that is seen behind it.
use Rattle.std.proofs.Common.{◌≡◌, ◌≤◌, ◌<◌, inl, inr, ℕ, List, [], ◌∷◌, ◌++◌, length, Some, true, slice_get, slice_set, Ok}
use Rattle.std.proofs.Common.{refl, sym, ap, ◌∙◌, subst, arith}
use Rattle.std.proofs.lemmas.Bool.{cases_eq}
use Rattle.std.proofs.lemmas.List.{length-append, length-set}
use Rattle.std.proofs.lemmas.Option.{same_Some}
use Rattle.rg_base.proofs.Callers.Lists.{there as below-get}
use Rattle.rg_base.specs.declared.object.Seen.{Seen}
use Rattle.rg_base.specs.declared.ty.Ty.{Ty}
use Rattle.rg_base.specs.declared.value.Val.{Val}
use Rattle.rg_base.specs.declared.value.Val.TheVariants as val
use Rattle.rg_tree.specs.Tree.{Class, Expr, Name, Path, Right, Tree, Variable, assign_element, stmt}
use Rattle.rg_tree.proofs.TreesFrom.{slice_get-push}
use Rattle.rg_rules.specs.Evaluation.{element_place, follow_fields, object_at, path_value}
use Rattle.rg_rules.specs.Items.{Do, Item}
use Rattle.rg_rules.specs.State.{Frame, Local, State, add_local, locals_of, place_in, put_local, set_in, top_locals, value_in, with_top}
use Rattle.rg_rules.specs.Statements.{judge_assign_element}
use Rattle.rg_rules.specs.Steps.{put_element, put_field}
use Rattle.rg_rules.specs.Types.{field_place, fields_of}
use Rattle.rg_rules.proofs.Answers.{at_line-ok}
use Rattle.rg_rules.proofs.Local.{set_in-at}
use Rattle.rg_sound.proofs.Frames.Judge.{judge_assign-element}
use Rattle.rg_sound.proofs.Frames.Top.{top-sees}
use Rattle.rg_sound.proofs.Owners.Owner.{get-set, get-set-other}
use Rattle.rg_sound.proofs.Owners.Receiver.{IsTop, writes-top}
use Rattle.rg_sound.proofs.Stores.Element.{put_element-is}
use Rattle.rg_sound.proofs.Stores.Field.{put-field-is, with-field-is}
use Rattle.rg_sound.proofs.Values.Assign.{Doing, doing-judges}
use Rattle.rg_sound.proofs.Values.Value.{array-at, place-within}
use Rattle.rg_held.specs.Part.{leads_to}
use Rattle.rg_held.proofs.Lists.{push-old}
use Rattle.rg_once.proofs.Seen.{Comes, FromField, FromLocal, IsSeen, Led, follow-leads, value-leads}

-- a store with one object more
push-label : (old : List Seen) (n : Seen) (a : ℕ) (o v : Seen) → slice_get old a ≡ Some o → slice_get (old ++ n ∷ []) a ≡ Some v → v.label ≡ o.label
push-label old n a o v e f = ap (λ (x : Seen). x.label) (same_Some v o (sym f ∙ push-old old n o a e))

last-place : (old : List Seen) (n : Seen) (a size : ℕ) → size ≡ length (old ++ n ∷ []) → length old ≤ a → a < size → length old ≡ a
last-place old n a size is le lt = let more = length-append old (n ∷ []) in omega (arith, more, is, le, lt)

module _ (p s : State) (n : Seen) (f : Frame) (fs : List Frame) (store : s.store ≡ p.store ++ n ∷ []) (frames : s.frames ≡ p.frames)
    (windows : s.windows ≡ p.windows) (here : p.frames ≡ f ∷ fs) where
  -- in a new variable
  pub declare-comes : (x : Variable) (ty : Ty) → Comes p (add_local x ty s (val.Obj (length p.store)))
  declare-comes x ty = record {
    labels = λ a o v e g. push-label p.store n a o v e (ap (λ l. slice_get l a) (sym store) ∙ g);
    fresh = λ a le lt. subst (IsSeen p (add_local x ty s (val.Obj (length p.store))))
        (last-place p.store n a (length s.store) (ap length store) le lt) (inl seen);
  }
    where
      at : (add_local x ty s (val.Obj (length p.store))).frames
          ≡ record f { locals = f.locals ++ record { name = x; ty = ty; value = val.Obj (length p.store) } ∷ [] } ∷ fs
      at = ap (λ gs. with_top (top_locals gs ++ record { name = x; ty = ty; value = val.Obj (length p.store) } ∷ []) gs) (frames ∙ here)

      seen : FromLocal (add_local x ty s (val.Obj (length p.store))) (length p.store)
      seen = record {
        top = record f { locals = f.locals ++ record { name = x; ty = ty; value = val.Obj (length p.store) } ∷ [] };
        rest = fs;
        frames = at;
        place = length f.locals;
        local = record { name = x; ty = ty; value = val.Obj (length p.store) };
        there = slice_get-push f.locals (record { name = x; ty = ty; value = val.Obj (length p.store) });
        leads = refl;
      }

  -- in a variable that is there
  pub assign-comes : (x : Variable) (m : Local) → slice_get f.locals (place_in f.locals x) ≡ Some m
      → Comes p (put_local x s (val.Obj (length p.store)))
  assign-comes x m there = record {
    labels = λ a o v e g. push-label p.store n a o v e (ap (λ l. slice_get l a) (sym store) ∙ g);
    fresh = λ a le lt. subst (IsSeen p (put_local x s (val.Obj (length p.store))))
        (last-place p.store n a (length s.store) (ap length store) le lt) (inl seen);
  }
    where
      seen : FromLocal (put_local x s (val.Obj (length p.store))) (length p.store)
      seen = record {
        top = record f { locals = set_in x (val.Obj (length p.store)) f.locals };
        rest = fs;
        frames = ap (λ gs. with_top (set_in x (val.Obj (length p.store)) (top_locals gs)) gs) (frames ∙ here);
        place = place_in f.locals x;
        local = record m { value = val.Obj (length p.store) };
        there = ap (λ ls. slice_get ls (place_in f.locals x)) (set_in-at x (val.Obj (length p.store)) f.locals m there)
            ∙ get-set f.locals (place_in f.locals x) (record m { value = val.Obj (length p.store) }) m there;
        leads = refl;
      }

  -- at a place of an object of the topmost window
  module _ (host : Seen) (b k : ℕ) (x : Val) (stood : slice_get p.store b ≡ Some host) (top : IsTop p.windows host.label)
      (value : slice_get host.fields k ≡ Some x) (led : Led p b) where
    abbrev now : Seen
    now = record host { fields = slice_set host.fields k (val.Obj (length p.store)) }

    abbrev q : State
    q = record s { store = slice_set s.store b now }

    was : slice_get s.store b ≡ Some host
    was = ap (λ l. slice_get l b) store ∙ push-old p.store n host b stood

    seen : FromField p q (length p.store)
    seen = record {
      object = b;
      host = host;
      stood = stood;
      top = top;
      windows = windows;
      now = now;
      there = get-set s.store b now host was;
      label = refl;
      field = k;
      leads = get-set host.fields k (val.Obj (length p.store)) x value;
      led = led;
    }

    labels : (a : ℕ) (o v : Seen) → slice_get p.store a ≡ Some o → slice_get q.store a ≡ Some v → v.label ≡ o.label
    labels a o v e g = elim (cases_eq a b) [
      | inl same ↦
          ap (λ (x : Seen). x.label) (same_Some v now (sym g ∙ ap (slice_get q.store) same ∙ get-set s.store b now host was))
          ∙ ap (λ (x : Seen). x.label) (same_Some host o (sym stood ∙ ap (slice_get p.store) (sym same) ∙ e))
      | inr other ↦
          push-label p.store n a o v e
          (ap (λ l. slice_get l a) (sym store) ∙ sym (get-set-other s.store b a now other) ∙ g)
    ]

    q-comes : Comes p q
    q-comes = record {
      labels = labels;
      fresh = λ a le lt. subst (IsSeen p q)
          (last-place p.store n a (length q.store) (length-set s.store b now ∙ ap length store) le lt) (inr seen);
    }

    -- in a field
    pub field-comes : (classes : List Class) (at : Val) (name : Name) → at ≡ val.Obj b → field_place (fields_of classes host.class) name ≡ Some k
        → Comes p (put_field classes at name s (val.Obj (length p.store)))
    field-comes classes at name is place =
        subst (Comes p) (sym (put-field-is classes at name s (val.Obj (length p.store)) b host is was
        ∙ ap (λ v. record s { store = slice_set s.store b v }) (with-field-is classes name (val.Obj (length p.store)) host k place))) q-comes

    -- in an element
    pub element-comes : (at : Val) → at ≡ val.Obj b → Comes p (put_element at k s (val.Obj (length p.store)))
    element-comes at is = subst (Comes p) (sym (put_element-is at k s (val.Obj (length p.store)) b host is was)) q-comes

-- the receiver of a field or an element that is written, and that variables lead to it
pub receiver-led : (t : Tree) (p : State) (x : Variable) (names : List Name) (at : Val) (b : ℕ) (f : Frame) (fs : List Frame) → p.frames ≡ f ∷ fs
    → follow_fields t.classes p.store (value_in f.locals x) names ≡ Ok at → at ≡ val.Obj b → Led p b
receiver-led t p x names at b f fs here follows is test locals keeps =
    subst (λ v. leads_to test v ≡ true) is
    (follow-leads t.classes p.store test keeps names (value_in f.locals x) at
    (value-leads test f.locals x (λ i l e. locals i l (ap (λ gs. slice_get (top_locals gs) i) here ∙ e))) follows)

-- an array of which an element is written, and that variables lead to it
pub record Hosted (p : State) (at : Val) (host : Seen) (k : ℕ) : Type 0 where
  pub address : ℕ
  pub value : at ≡ val.Obj address
  pub stood : slice_get p.store address ≡ Some host
  pub top : IsTop p.windows host.label
  pub old : Val
  pub there : slice_get host.fields k ≡ Some old
  pub led : Led p address

pub hosted : (t : Tree) (p : State) (line : ℕ) (a : Path) (i : Expr) (r : Right) (rest : List Item)
    (here : Doing t p line (assign_element a i r) rest) (at : Val) (host : Seen) (index : Val) (k : ℕ)
    → path_value t.classes p.store (locals_of p) a ≡ Ok at → object_at p.store at ≡ Ok host → element_place host index ≡ Ok k → Hosted p at host k
hosted t p line a i r rest here at host index k is there placed =
    let j = doing-judges t p line (assign_element a i r) rest here in
    let parts = judge_assign-element t.classes here.r.spot.env j.out a.base a.fields i r
    (at_line-ok line (judge_assign_element t.classes here.r.spot.env a.base a.fields i r) j.out j.judged) in
    let sees = top-sees t p.store here.f here.fs p.windows (Do (stmt line (assign_element a i r)) ∷ rest) here.r here.top here.fits.values in
    let follows = subst (λ (ls : List Local). path_value t.classes p.store ls a ≡ Ok at) (ap top_locals here.frames) is in
    let v = array-at t.classes p.store p.windows (length here.fs) here.r.spot.env here.f.locals here.fits.objects sees a.base a.fields parts.array at
    host parts.walked follows there in
    let old = below-get host.fields k (place-within host index k placed) in
    record {
      address = v.address;
      value = v.value;
      stood = v.there;
      top = writes-top p.windows parts.array.receiver host.label parts.writes v.fits;
      old = old.0;
      there = old.1;
      led = receiver-led t p a.base a.fields at v.address here.f here.fs here.frames follows v.value;
    }
