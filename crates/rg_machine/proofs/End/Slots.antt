-- Slots that end one after another, from the last one on: what goes with each, and the machine behind all.
use Rattle.std.proofs.Common.{◌≡◌, ◌≤◌, ◌<◌, ◌||◌, ◌⊎◌, inl, inr, ℕ, zero, suc, ◌-◌, Bool as Truth, true, false, if◌then◌else◌, List, [], ◌∷◌}
use Rattle.std.proofs.Common.{◌++◌, length, take, drop, replicate, slice_index_or, Option, Some, None, option_map, option_and_then, slice_get}
use Rattle.std.proofs.Common.{slice_set}
use Rattle.std.proofs.Common.{unwrap_or, refl, sym, ap, ◌∙◌, arith}
use Rattle.std.specs.Prelude.{filter_map}
use Rattle.std.proofs.lemmas.Bool.{false≢true, or_right as later}
use Rattle.std.proofs.lemmas.List.{length-replicate}
use Rattle.std.proofs.lemmas.List.FromFn.{length-map-range_with_len}
use Rattle.std.proofs.lemmas.List.Elements.{filter_map-append}
use Rattle.std.proofs.lemmas.Option.{none-some, same_Some, slice_get-map}
use Rattle.rg_base.specs.declared.object.Label.{Label}
use Rattle.rg_base.specs.declared.object.Label.TheVariants.{Region}
use Rattle.rg_base.specs.declared.object.Seen.{Seen}
use Rattle.rg_base.specs.declared.value.Val.{Val}
use Rattle.rg_base.specs.declared.value.Val.TheVariants.{Nil}
use Rattle.rg_rules.specs.Regions.{address, among, in_regions, region_of, region_at}
use Rattle.rg_base.specs.declared.words.Manager.{Manager}
use Rattle.rg_base.specs.declared.words.Manager.TheVariants.{Arena}
use Rattle.rg_sound.proofs.LocalRoots.{label-region}
use Rattle.rg_stack.specs.Machine.{Frame, Machine, Window, top_slots, with_slots, slot_at, ended_slots}
use Rattle.rg_stack.specs.Effects.{beneath_by_labels}
use Rattle.rg_stack.specs.Needs.{closed_into, closed_of}
use Rattle.rg_stack.specs.Labels.{is_open, label_of}
use Rattle.rg_held.specs.Frees.{is_temp, buried, bury, closed_among}
use Rattle.rg_held.specs.Gone.{gone}
use Rattle.rg_view.specs.Links.{Link, Reached, first, next, Spans}
use Rattle.rg_view.specs.Names.{Names}
use Rattle.rg_view.proofs.Callers.Gone.After.{bury-lives, remembered-twice}
use Rattle.rg_view.proofs.Callers.Gone.Managers.{lives_in, remembered}
use Rattle.rg_view.proofs.Callers.Gone.Beneath.{beneath-spans, bury-names}
use Rattle.rg_view.proofs.Callers.Gone.Lists.{among-append, bury-more}
use Rattle.rg_view.proofs.Callers.Label.{one-is, one-there}
use Rattle.rg_view.proofs.Callers.Link.{link-at}
use Rattle.rg_machine.specs.Core.{Core, with_machine}
use Rattle.rg_machine.specs.Effects.{ending, without}
use Rattle.rg_machine.proofs.Release.Fewer.{closed-back, closed-buried, store-without}
use Rattle.rg_machine.proofs.End.Slot.{slot-nil}
use Rattle.rg_machine.proofs.Leave.Lists.{spans-names}

-- Regions that go in two steps

-- an object that isn't in these regions stays
stays-object : (regions : List ℕ) (p : ℕ) (o : Seen) → o.label ≡ Region p → among regions p ≡ false → buried regions None o ≡ o
stays-object regions p o lies out =
    ap (λ (l : Label). if in_regions regions l || is_temp None l then gone else o) lies ∙ ap (λ t. if t || false then gone else o) out

-- one that has the label of a region was there before
object-was : (regions : List ℕ) (p : ℕ) (o : Seen) → (buried regions None o).label ≡ Region p → buried regions None o ≡ o
object-was regions p o e = by (in_regions regions o.label || is_temp None o.label) e
  where
    gone-region : gone.label ≡ Region p → ⊥
    gone-region e = let c : None ≡ Some p = ap region_of e in none-some p c

    by : (t : Truth) → (if t then gone else o).label ≡ Region p → (if t then gone else o) ≡ o
    by true e = absurd (gone-region e)
    by false e = refl

module _ (store : List Seen) (regions : List ℕ) where
  -- an object behind the first step
  there-was : (a : ℕ) (o : Seen) (p : ℕ) → slice_get (bury regions None store) a ≡ Some o → o.label ≡ Region p → slice_get store a ≡ Some o
  there-was a o p e lies = by (slice_get store a) refl
    where
      by : (x : Option Seen) → slice_get store a ≡ x → slice_get store a ≡ Some o
      by None f = absurd (none-some o (sym (ap (option_map (buried regions None)) f) ∙ sym (slice_get-map (buried regions None) store a) ∙ e))
      by (Some u) f =
          let same : buried regions None u ≡ o =
          same_Some (buried regions None u) o
          (sym (ap (option_map (buried regions None)) f) ∙ sym (slice_get-map (buried regions None) store a) ∙ e) in
          f ∙ ap Some (sym (object-was regions p u (ap (λ (o : Seen). o.label) same ∙ lies)) ∙ same)

  there-stays : (a : ℕ) (o : Seen) (p : ℕ) → slice_get store a ≡ Some o → o.label ≡ Region p → among regions p ≡ false
      → slice_get (bury regions None store) a ≡ Some o
  there-stays a o p e lies out =
      slice_get-map (buried regions None) store a ∙ ap (option_map (buried regions None)) e ∙ ap Some (stays-object regions p o lies out)

  pub region-was : (a r : ℕ) → region_at (bury regions None store) a ≡ Some r → region_at store a ≡ Some r
  region-was a r e = by (slice_get (bury regions None store) a) refl
    where
      by : (x : Option Seen) → slice_get (bury regions None store) a ≡ x → region_at store a ≡ Some r
      by None f = absurd (none-some r (sym (ap (option_and_then (λ (o : Seen). region_of o.label)) f) ∙ e))
      by (Some o) f =
          let lies : region_of o.label ≡ Some r = sym (ap (option_and_then (λ (o : Seen). region_of o.label)) f) ∙ e in
          ap (option_and_then (λ (o : Seen). region_of o.label)) (there-was a o r f (label-region o.label r lies)) ∙ lies

  region-stays : (a r : ℕ) → region_at store a ≡ Some r → among regions r ≡ false → region_at (bury regions None store) a ≡ Some r
  region-stays a r e out = by (slice_get store a) refl
    where
      by : (x : Option Seen) → slice_get store a ≡ x → region_at (bury regions None store) a ≡ Some r
      by None f = absurd (none-some r (sym (ap (option_and_then (λ (o : Seen). region_of o.label)) f) ∙ e))
      by (Some o) f =
          let lies : region_of o.label ≡ Some r = sym (ap (option_and_then (λ (o : Seen). region_of o.label)) f) ∙ e in
          ap (option_and_then (λ (o : Seen). region_of o.label)) (there-stays a o r f (label-region o.label r lies) out) ∙ lies

  link-was : (p r : ℕ) → Link (bury regions None store) p r → Link store p r
  link-was p r l =
      link-at l.object l.holder l.field l.address (there-was l.object l.holder p l.there l.lies) l.lies l.value
      (region-was l.address r l.leads)

  link-stays : (p r : ℕ) → among regions p ≡ false → among regions r ≡ false → Link store p r → Link (bury regions None store) p r
  link-stays p r from to l =
      link-at l.object l.holder l.field l.address (there-stays l.object l.holder p l.there l.lies from) l.lies l.value
      (region-stays l.address r l.leads to)

module _ (store : List Seen) (n : ℕ) (bounded : (a r : ℕ) → region_at store a ≡ Some r → r < n) (early late asked : List ℕ) where
  -- what goes at first, and then
  abbrev one : List ℕ
  one = beneath_by_labels store n early

  abbrev two : List ℕ
  two = beneath_by_labels (bury one None store) n late

  module _ (within : (t : ℕ) → among late t ≡ true → among asked t ≡ true)
      (all : (t : ℕ) → among asked t ≡ true → (among one t ≡ true) ⊎ (among late t ≡ true)) where
    spans-one : Spans store early one
    spans-one = beneath-spans store n bounded early

    spans-two : Spans (bury one None store) late two
    spans-two = beneath-spans (bury one None store) n (λ a r e. bounded a r (region-was store one a r e)) late

    along-two : (p r : ℕ) → among two p ≡ true → Link store p r → (among one r ≡ true) ⊎ (among two r ≡ true)
    along-two p r i l = by (among one p) refl (among one r) refl
      where
        by : (a : Truth) → among one p ≡ a → (b : Truth) → among one r ≡ b → (among one r ≡ true) ⊎ (among two r ≡ true)
        by true e b f = inl (spans-one.along p r e l)
        by false e true f = inl f
        by false e false f = inr (spans-two.along p r i (link-stays store one p r e f l))

    either : {r : ℕ} → Reached store (asked ++ early) r → (among one r ≡ true) ⊎ (among two r ≡ true)
    either (first {r = r} i) = start (among asked r) refl (sym (among-append asked early r) ∙ i)
      where
        start : (t : Truth) → among asked r ≡ t → (t || among early r) ≡ true → (among one r ≡ true) ⊎ (among two r ≡ true)
        start true e f = elim (all r e) [ inl a ↦ inl a | inr b ↦ inr (spans-two.start r b) ]
        start false e f = inl (spans-one.start r f)
    either (next {p = p} {r = r} x l) = elim (either x) [
      | inl a ↦ inl (spans-one.along p r a l)
      | inr b ↦ along-two p r b l
    ]

    reached-one : {r : ℕ} → Reached store early r → Reached store (asked ++ early) r
    reached-one (first {r = r} i) = first (among-append asked early r ∙ later (among asked r) (among early r) i)
    reached-one (next x l) = next (reached-one x) l

    reached-two : {r : ℕ} → Reached (bury one None store) late r → Reached store (asked ++ early) r
    reached-two (first {r = r} i) = first (among-append asked early r ∙ ap (λ t. t || among early r) (within r i))
    reached-two (next {p = p} {r = r} x l) = next (reached-two x) (link-was store one p r l)

    both-names : Names (one ++ two) (Reached store (asked ++ early))
    both-names = record {
      all = λ r x. among-append one two r ∙ (elim (either x) [
        | inl a ↦ ap (λ t. t || among two r) a
        | inr b ↦ later (among one r) (among two r) b
      ]);
      only = λ r e. by r (among one r) refl (sym (among-append one two r) ∙ e);
    }
      where
        by : (r : ℕ) (t : Truth) → among one r ≡ t → (t || among two r) ≡ true → Reached store (asked ++ early) r
        by r true f e = reached-one (spans-one.only r f)
        by r false f e = reached-two (spans-two.only r e)

    -- it is what goes at once
    pub bury-both : bury (one ++ two) None store ≡ bury (beneath_by_labels store n (asked ++ early)) None store
    bury-both =
        bury-names (Reached store (asked ++ early)) (one ++ two) (beneath_by_labels store n (asked ++ early)) both-names
        (spans-names store (asked ++ early) (beneath_by_labels store n (asked ++ early))
        (beneath-spans store n bounded (asked ++ early))) None store

-- Slots

drop-more : (vs : List Val) (k : ℕ) → k < length vs → drop k vs ≡ unwrap_or (slice_get vs k) Nil ∷ drop (suc k) vs
drop-more [] k lt = absurd (omega (arith, lt))
drop-more (v ∷ vs) zero lt = refl
drop-more (v ∷ vs) (suc k) lt = drop-more vs k (omega (arith, lt))

ended-at : (vs : List Val) (k : ℕ) → slice_get (ended_slots (suc k) vs) k ≡ slice_get vs k
ended-at [] k = past (0 - suc k) (omega arith)
  where
    past : (n : ℕ) → n ≡ 0 → slice_get (replicate n Nil) k ≡ None
    past n e = ap (λ n. slice_get (replicate n Nil) k) e
ended-at (v ∷ vs) zero = refl
ended-at (v ∷ vs) (suc k) =
    let e : suc (length vs) - suc (suc k) ≡ length vs - suc k = omega arith in
    ap (λ n. slice_get (take (suc k) vs ++ replicate n Nil) k) e ∙ ended-at vs k

ended-less : (vs : List Val) (k : ℕ) → k < length vs → slice_set (ended_slots (suc k) vs) k Nil ≡ ended_slots k vs
ended-less [] k lt = absurd (omega (arith, lt))
ended-less (v ∷ vs) zero lt =
    let e : suc (length vs) - 1 ≡ length vs = omega arith in
    let f : suc (length vs) - 0 ≡ suc (length vs) = omega arith in
    ap (λ n. Nil ∷ replicate n Nil) e ∙ sym (ap (λ n. replicate n Nil) f)
ended-less (v ∷ vs) (suc k) lt =
    let e : suc (length vs) - suc (suc k) ≡ length vs - suc k = omega arith in
    let f : suc (length vs) - suc k ≡ length vs - k = omega arith in
    ap (λ n. v ∷ slice_set (take (suc k) vs ++ replicate n Nil) k Nil) e
    ∙ ap (λ us. v ∷ us) (ended-less vs k (omega (arith, lt)))
    ∙ sym (ap (λ n. v ∷ (take k vs ++ replicate n Nil)) f)

pub frames-less : (fs : List Frame) (k : ℕ) → k < length (top_slots fs)
    → with_slots (slice_set (top_slots (with_slots (ended_slots (suc k) (top_slots fs)) fs)) k Nil)
    (with_slots (ended_slots (suc k) (top_slots fs)) fs) ≡ with_slots (ended_slots k (top_slots fs)) fs
frames-less [] k lt = refl
frames-less (f ∷ fs) k lt = ap (λ vs. record f { slots = vs } ∷ fs) (ended-less f.slots k lt)

pub slot-less : (fs : List Frame) (k : ℕ)
    → slice_get (top_slots (with_slots (ended_slots (suc k) (top_slots fs)) fs)) k ≡ slice_get (top_slots fs) k
slot-less [] k = refl
slot-less (f ∷ fs) k = ended-at f.slots k

-- One slot more

among-one : (f : Val → Option ℕ) (x : Val) (t : ℕ) → among (filter_map f (x ∷ [])) t ≡ true → f x ≡ Some t
among-one f x t e = by (f x) refl
  where
    list : Option ℕ → List ℕ
    list o = elim o [ None ↦ [] | Some r ↦ r ∷ [] ]

    list-is : (o : Option ℕ) → f x ≡ o → filter_map f (x ∷ []) ≡ list o
    list-is None e = rw e refl
    list-is (Some r) e = rw e refl

    by : (o : Option ℕ) → f x ≡ o → f x ≡ Some t
    by None f = absurd (false≢true (sym (ap (λ rs. among rs t) (list-is None f)) ∙ e))
    by (Some r) f = f ∙ ap Some (one-is r t (sym (ap (λ rs. among rs t) (list-is (Some r) f)) ∙ e))

there-one : (f : Val → Option ℕ) (x : Val) (t : ℕ) → f x ≡ Some t → among (filter_map f (x ∷ [])) t ≡ true
there-one f x t e = rw e (one-there t t refl)

-- the label of what stays
label-stays : (store : List Seen) (regions : List ℕ) (v : Val) (r : ℕ) → label_of store v ≡ Some (Region r) → among regions r ≡ false
    → label_of (bury regions None store) v ≡ Some (Region r)
label-stays store regions v r e out = by (address v) e
  where
    at : (a : ℕ) (o : Option Seen) → slice_get store a ≡ o → option_and_then (λ (o : Seen). Some o.label) (slice_get store a) ≡ Some (Region r)
        → option_and_then (λ (o : Seen). Some o.label) (slice_get (bury regions None store) a) ≡ Some (Region r)
    at a None f e = absurd (none-some (Region r) (sym (ap (option_and_then (λ (o : Seen). Some o.label)) f) ∙ e))
    at a (Some o) f e =
        let lies : o.label ≡ Region r = same_Some o.label (Region r) (sym (ap (option_and_then (λ (o : Seen). Some o.label)) f) ∙ e) in
        ap (option_and_then (λ (o : Seen). Some o.label)) (there-stays store regions a o r f lies out) ∙ ap Some lies

    by : (x : Option ℕ) → option_and_then (λ a. option_and_then (λ (o : Seen). Some o.label) (slice_get store a)) x ≡ Some (Region r)
        → option_and_then (λ a. option_and_then (λ (o : Seen). Some o.label) (slice_get (bury regions None store) a)) x ≡ Some (Region r)
    by None e = absurd (none-some (Region r) e)
    by (Some a) e = at a (slice_get store a) refl e

-- a core of these parts
abbrev with-parts : Core → List Frame → List Seen → List Manager → Core
with-parts c frames store managers = with_machine c (record c.machine { frames = frames; store = store; managers = managers })

module _ (c : Core) (k : ℕ) (within : k < length (top_slots c.machine.frames))
    (bounded : (a r : ℕ) → region_at c.machine.store a ≡ Some r → r < length c.machine.managers) where
  abbrev ws : List Window
  ws = c.machine.windows

  abbrev store : List Seen
  store = c.machine.store

  -- the slots behind it, and it
  abbrev rest : List Val
  rest = drop (suc k) (top_slots c.machine.frames)

  abbrev this : Val
  this = slot_at c.machine k

  abbrev early : List ℕ
  early = closed_among c.machine rest

  abbrev asked : List ℕ
  asked = closed_among c.machine (this ∷ [])

  abbrev went : List ℕ
  went = beneath_by_labels store (length c.machine.managers) early

  abbrev left : List Seen
  left = bury went None store

  -- the closed region into which a value leads then
  abbrev closed-then : Val → Option ℕ
  closed-then v = option_and_then (closed_of ws) (label_of left v)

  abbrev late : List ℕ
  late = filter_map closed-then (this ∷ [])

  late-asked : (t : ℕ) → among late t ≡ true → among asked t ≡ true
  late-asked t e = there-one (closed_into c.machine) this t (closed-buried ws went None store t this (among-one closed-then this t e))

  asked-late : (t : ℕ) → among asked t ≡ true → (among went t ≡ true) ⊎ (among late t ≡ true)
  asked-late t e = by (among went t) refl
    where
      back : (label_of store this ≡ Some (Region t)) × (is_open ws t ≡ false)
      back = closed-back ws store this t (among-one (closed_into c.machine) this t e)

      by : (b : Truth) → among went t ≡ b → (among went t ≡ true) ⊎ (among late t ≡ true)
      by true f = inl f
      by false f =
          inr (there-one closed-then this t (ap (option_and_then (closed_of ws)) (label-stays store went this t back.0 f)
          ∙ ap (λ (b : Truth). if b then None else Some t) back.1))

  -- the regions that go are those that would go at once
  all-asked : asked ++ early ≡ closed_among c.machine (drop k (top_slots c.machine.frames))
  all-asked =
      sym (filter_map-append (closed_into c.machine) (this ∷ []) rest)
      ∙ sym (ap (closed_among c.machine) (drop-more (top_slots c.machine.frames) k within))

  abbrev ended-core : Core
  ended-core = ending c (suc k)

  this-is : slot_at ended-core.machine k ≡ this
  this-is = ap (λ o. unwrap_or o Nil) (slot-less c.machine.frames k)

  many : length (remembered ws left c.machine.managers) ≡ length c.machine.managers
  many =
      length-map-range_with_len (λ r. if lives_in ws left r then slice_index_or c.machine.managers r Arena else Arena) 0
      (length c.machine.managers)

  -- what is left of the store behind it
  abbrev then-left : (n : ℕ) → Val → List Seen
  then-left n v = bury (beneath_by_labels left n (filter_map closed-then (v ∷ []))) None left

  stores : then-left (length (remembered ws left c.machine.managers)) (slot_at ended-core.machine k)
      ≡ store-without c (drop k (top_slots c.machine.frames))
  stores =
      ap (λ n. then-left n (slot_at ended-core.machine k)) many
      ∙ ap (then-left (length c.machine.managers)) this-is
      ∙ bury-more went (beneath_by_labels left (length c.machine.managers) late) None store
      ∙ bury-both store (length c.machine.managers) bounded early late asked late-asked asked-late
      ∙ ap (λ tops. bury (beneath_by_labels store (length c.machine.managers) tops) None store) all-asked

  managers : remembered ws (then-left (length (remembered ws left c.machine.managers)) (slot_at ended-core.machine k))
      (remembered ws left c.machine.managers)
      ≡ remembered ws (store-without c (drop k (top_slots c.machine.frames))) c.machine.managers
  managers =
      remembered-twice ws ws left (then-left (length (remembered ws left c.machine.managers)) (slot_at ended-core.machine k)) c.machine.managers
      (λ r e. bury-lives ws
      (beneath_by_labels left (length (remembered ws left c.machine.managers)) (filter_map closed-then (slot_at ended-core.machine k ∷ [])))
      None left r e)
      ∙ ap (λ s. remembered ws s c.machine.managers) stores

  -- the slot ends behind those that have ended
  pub ending-step : without (slot-nil (ending c (suc k)) k) (slot_at (ending c (suc k)).machine k ∷ []) ≡ ending c k
  ending-step =
      ap (λ fs. with-parts c fs (then-left (length (remembered ws left c.machine.managers)) (slot_at ended-core.machine k))
      (remembered ws (then-left (length (remembered ws left c.machine.managers)) (slot_at ended-core.machine k))
      (remembered ws left c.machine.managers))) (frames-less c.machine.frames k within)
      ∙ ap (λ s. with-parts c (with_slots (ended_slots k (top_slots c.machine.frames)) c.machine.frames) s
      (remembered ws (then-left (length (remembered ws left c.machine.managers)) (slot_at ended-core.machine k))
      (remembered ws left c.machine.managers))) stores
      ∙ ap (with-parts c (with_slots (ended_slots k (top_slots c.machine.frames)) c.machine.frames)
      (store-without c (drop k (top_slots c.machine.frames)))) managers

-- Slots that are nil already

none-nil : (m : Machine) (n : ℕ) → closed_among m (replicate n Nil) ≡ []
none-nil m zero = refl
none-nil m (suc n) = none-nil m n

pub nil-again : (n s : ℕ) → ended_slots s (replicate n Nil) ≡ replicate n Nil
nil-again zero zero = refl
nil-again zero (suc s) = let e : 0 - suc s ≡ 0 = omega arith in ap (λ n. replicate n Nil) e
nil-again (suc n) zero =
    let many : length (replicate n Nil) ≡ n = length-replicate n Nil in
    let e : suc (length (replicate n Nil)) - 0 ≡ suc n = omega (arith, many) in
    ap (λ n. replicate n Nil) e
nil-again (suc n) (suc s) =
    let e : suc (length (replicate n Nil)) - suc s ≡ length (replicate n Nil) - s = omega arith in
    ap (λ k. Nil ∷ (take s (replicate n Nil) ++ replicate k Nil)) e ∙ ap (λ vs. Nil ∷ vs) (nil-again n s)

tail-same : (v : Val) (xs ys : List Val) → v ∷ xs ≡ v ∷ ys → xs ≡ ys
tail-same v xs ys e = ap (drop 1) e

-- further slots are nil as well
pub ended-more : (vs : List Val) (l s : ℕ) → l ≤ s → ended_slots l vs ≡ vs → ended_slots s vs ≡ vs
ended-more [] l zero le e = refl
ended-more [] l (suc s) le e = nil-again 0 (suc s)
ended-more (v ∷ vs) zero s le e =
    let n = suc (length vs) - 0 in
    ap (ended_slots s) (sym e) ∙ nil-again n s ∙ e
ended-more (v ∷ vs) (suc l) zero le e = absurd (omega (arith, le))
ended-more (v ∷ vs) (suc l) (suc s) le e =
    let x : suc (length vs) - suc l ≡ length vs - l = omega arith in
    let y : suc (length vs) - suc s ≡ length vs - s = omega arith in
    let under : ended_slots l vs ≡ vs = tail-same v (ended_slots l vs) vs (sym (ap (λ k. v ∷ (take l vs ++ replicate k Nil)) x) ∙ e) in
    ap (λ k. v ∷ (take s vs ++ replicate k Nil)) y ∙ ap (λ us. v ∷ us) (ended-more vs l s (omega (arith, le)) under)

-- and own nothing
pub ended-none : (m : Machine) (vs : List Val) (s : ℕ) → ended_slots s vs ≡ vs → closed_among m (drop s vs) ≡ []
ended-none m [] zero e = refl
ended-none m [] (suc s) e = refl
ended-none m (v ∷ vs) zero e = let n = suc (length vs) - 0 in ap (closed_among m) (sym e) ∙ none-nil m n
ended-none m (v ∷ vs) (suc s) e =
    let x : suc (length vs) - suc s ≡ length vs - s = omega arith in
    ended-none m vs s (tail-same v (ended_slots s vs) vs (sym (ap (λ k. v ∷ (take s vs ++ replicate k Nil)) x) ∙ e))

-- where they are nil, the machine stays
pub ending-none : (c : Core) (s : ℕ) → ended_slots s (top_slots c.machine.frames) ≡ top_slots c.machine.frames
    → c ≡ without c (drop s (top_slots c.machine.frames)) → c ≡ ending c s
ending-none c s e same =
    ap (λ fs. with_machine c (record c.machine { frames = fs })) (sym (frames c.machine.frames e))
    ∙ ap (λ (x : Core). with_machine x (record x.machine { frames = with_slots (ended_slots s (top_slots c.machine.frames)) c.machine.frames })) same
  where
    frames : (fs : List Frame) → ended_slots s (top_slots fs) ≡ top_slots fs → with_slots (ended_slots s (top_slots fs)) fs ≡ fs
    frames [] e = refl
    frames (f ∷ fs) e = ap (λ vs. record f { slots = vs } ∷ fs) e
