-- From the tables behind each pass to what the whole collection leaves (docs/architecture.md, "A manager that moves its
-- cells").
use Rattle.std.proofs.Common.{◌≡◌, ◌≢◌, ℕ, ◌<◌, cond, List, length, map, Option, Some, None, refl, ap, sym}
use Rattle.std.proofs.Common.{◌∙◌, subst, arith, inl, inr, get_or, slice_get, option_map, unwrap_or}
use Rattle.std.proofs.lemmas.List.{length-map}
use Rattle.std.proofs.lemmas.Bool.{cases_eq}
use Rattle.std.proofs.lemmas.Option.{slice_get_within, slice_get-map, same_Some, none-some}
use Rattle.rg_base.specs.declared.object.Label.TheVariants.{Region, Temp}
use Rattle.rg_base.specs.declared.value.Word.{Word}
use Rattle.rg_base.specs.declared.value.Word.TheVariants.{Nil, Int, Bool as Truth, Slot}
use Rattle.rg_base.specs.declared.words.Manager.TheVariants.{Trace}
use Rattle.rg_cells.specs.declared.cell.Body.{Body}
use Rattle.rg_cells.specs.Table.{Heap, Table, body_at, body_in, label_at, field_at, mark_at, link_at}
use Rattle.rg_frames.specs.Stack.{Stack}
use Rattle.rg_regions.specs.Table.{Record, RegionTable, record_at, Has}
use Rattle.rg_regions.specs.Ordered.{with_members}
use Rattle.rg_regions.specs.Reach.{LiesIn, Reach, is_bridge}
use Rattle.rg_regions.specs.Grove.{Grove, Members}
use Rattle.rg_regions.specs.Collection.{roots_of}
use Rattle.rg_regions.proofs.Callers.MembersSwept.{members_of}
use Rattle.rg_regions.proofs.Callers.Told.{lies_or_not, reach_lies}
use Rattle.rg_regions.proofs.Callers.Fewer.{belongs_not, lies_belongs}
use Rattle.rg_trace.specs.Marking.{Marked}
use Rattle.rg_trace.specs.Sweeping.{Swept, Sweeps}
use Rattle.rg_copy.specs.Slid.{top_slots, top_temps, top_roots, Becomes, AllBecome, CellBecomes}
use Rattle.rg_copy.specs.Inner.Plans.{Plan, Plans}
use Rattle.rg_copy.specs.Inner.Moves.{target, moved_word, all_fields, IsTempAt, TempsForwarded, MembersForwarded, ForwardsSlots}
use Rattle.rg_copy.specs.Inner.Shifts.{Shifts}
use Rattle.rg_copy.proofs.Fields.{target-agree, fields-agree, label-all}

-- The tables in turn: at first, marked, planned, with the temporaries rewritten, with the members rewritten, with the
-- cells moved, and swept; and the regions at first, in order, and swept.
pub record StagesAt (c m p e f s cells : Table) (t u regions : RegionTable) (key : ℕ) (rec : Record) (v frames : Stack)
    (members : List ℕ) (region : ℕ) (bridge : Option ℕ) (slots : List Word) (temps : List ℕ) : Type 0 where
  pub grove : Grove c t
  pub there : record_at t key ≡ Some rec
  pub traced : rec.manager ≡ Trace
  pub marked : Marked c.heap region (roots_of bridge slots temps) c m
  pub plans : Plans m region bridge p
  pub forwards_temps : TempsForwarded p region temps e
  pub forwarded : MembersForwarded e region members (length members) f
  pub shown : ForwardsSlots (moved_word (target f region)) (length (top_slots v)) v frames
  pub shifted : Shifts f region members (length members) s
  pub members_are : Members c.heap rec.number members
  pub swept : Sweeps s u key cells regions 0
  pub now : record_at u key ≡ Some (with_members members rec)
  pub others : (k : ℕ) → k ≢ key → record_at u k ≡ record_at t k
  pub next : u.next ≡ t.next

abbrev pub Stages : (c m p e f s cells : Table) → (t u regions : RegionTable) → (key : ℕ) → (rec : Record)
    → (v frames : Stack) → (members : List ℕ) → Type 0
Stages c m p e f s cells t u regions key rec v frames members =
    StagesAt c m p e f s cells t u regions key rec v frames members rec.number rec.bridge (top_slots v) (top_temps v)

-- what sweeping leaves are the region's members
pub swept-members : (d t : Table) (r : ℕ) (members : List ℕ) → Swept d r members 0 t → Members t.heap r members
swept-members d t r members w = members_of t.heap r members (record { lie = w.lie; once = w.once; all = w.all })

module _ {c m p e f s cells : Table} {t u regions : RegionTable} {key : ℕ} {rec : Record} {v frames : Stack}
    {members : List ℕ} (g : Stages c m p e f s cells t u regions key rec v frames members) where
  -- where a cell goes, and what becomes of a word
  abbrev pub place : ℕ → ℕ
  place x = unwrap_or (link_at p x) x

  abbrev pub change : Word → Word
  change = moved_word (target p rec.number)

  abbrev pub from : ℕ → ℕ
  from = g.shifted.0

  abbrev pub IsReached : ℕ → Type 0
  IsReached x = Reach c.heap rec.number (top_roots rec v) x

  heap-p : p.heap ≡ c.heap
  heap-p = g.plans.heap ∙ g.marked.heap

  body-p : (x : ℕ) → body_at p.heap x ≡ body_at c.heap x
  body-p x = ap (λ (h : Heap). body_at h x) heap-p

  pub label-f : (x : ℕ) → label_at f.heap x ≡ label_at c.heap x
  label-f x = g.forwarded.alike.labels x ∙ g.forwards_temps.alike.labels x ∙ ap (λ (h : Heap). label_at h x) heap-p

  links-f : f.links ≡ p.links
  links-f = g.forwarded.alike.links ∙ g.forwards_temps.alike.links

  link-f : (x : ℕ) → link_at f x ≡ link_at p x
  link-f x = ap (λ (ls : List (Option ℕ)). get_or ls x None) links-f

  mark-e : (x : ℕ) → mark_at e x ≡ mark_at m x
  mark-e x = g.forwards_temps.marks x ∙ ap (λ (ks : List ℕ). get_or ks x 0) g.plans.marks

  mark-p : (x : ℕ) → mark_at p x ≡ mark_at m x
  mark-p x = ap (λ (ks : List ℕ). get_or ks x 0) g.plans.marks

  mark-f : (x : ℕ) → mark_at f x ≡ mark_at m x
  mark-f x = ap (λ (ks : List ℕ). get_or ks x 0) g.forwarded.marks ∙ mark-e x

  pub target-f : (x : ℕ) → target f rec.number x ≡ target p rec.number x
  target-f = target-agree p f rec.number links-f (λ x. g.forwarded.alike.labels x ∙ g.forwards_temps.alike.labels x)

  target-e : (x : ℕ) → target e rec.number x ≡ target p rec.number x
  target-e = target-agree p e rec.number g.forwards_temps.alike.links g.forwards_temps.alike.labels

  planned : Plan c.heap rec.number rec.bridge p
  planned =
      let P : Heap → Type 0 = λ h. Plan h rec.number rec.bridge p in
      subst P g.marked.heap g.plans.plan

  pub lies_of : (x : ℕ) → IsReached x → LiesIn c.heap rec.number x
  lies_of x n = reach_lies c.heap rec.number (top_roots rec v) x n

  reach-marked : (x : ℕ) → IsReached x → mark_at p x ≢ 0
  reach-marked x n q = let k = g.marked.reached x n in let z = mark-p x in omega (arith, k, z, q)

  marked-reach : (x : ℕ) → LiesIn c.heap rec.number x → mark_at p x ≢ 0 → IsReached x
  marked-reach x l n = let z = mark-p x in g.marked.only x l (omega (arith, z, n))

  link-reach : (x d : ℕ) → LiesIn c.heap rec.number x → link_at p x ≡ Some d → IsReached x
  link-reach x d l k = marked-reach x l (λ z. none-some d (sym (planned.white x l z) ∙ k))

  place-is : (x d : ℕ) → link_at p x ≡ Some d → place x ≡ d
  place-is x d k = ap (λ (o : Option ℕ). unwrap_or o x) k

  reach-link : (x : ℕ) → IsReached x → link_at p x ≡ Some (place x)
  reach-link x n =
      let a = planned.goes x (lies_of x n) (reach-marked x n) in a.1 ∙ ap Some (sym (place-is x a.0 a.1))

  pub place-lies : (x : ℕ) → IsReached x → LiesIn c.heap rec.number (place x)
  place-lies x n =
      let a = planned.goes x (lies_of x n) (reach-marked x n) in
      let L : ℕ → Type 0 = λ y. LiesIn c.heap rec.number y in
      subst L (sym (place-is x a.0 a.1)) a.2

  -- words
  target-on : (x : ℕ) → LiesIn c.heap rec.number x → target p rec.number x ≡ link_at p x
  target-on x l =
      ap (λ b. cond b (link_at p x) None)
      (lies_belongs rec.number (body_at p.heap x) (ap (λ (h : Heap). label_at h x) heap-p ∙ l))

  target-off : (x : ℕ) → (LiesIn c.heap rec.number x → ⊥) → target p rec.number x ≡ None
  target-off x n =
      ap (λ b. cond b (link_at p x) None)
      (belongs_not rec.number (body_at p.heap x) (λ l. n (sym (ap (λ (h : Heap). label_at h x) heap-p) ∙ l)))

  target-none : (x : ℕ) → (IsReached x → ⊥) → target p rec.number x ≡ None
  target-none x n = elim (lies_or_not c.heap rec.number x) [
    | inl off ↦ target-off x off
    | inr l ↦ target-on x l ∙ elim (cases_eq (mark_at p x) 0) [
      | inl z ↦ planned.white x l z
      | inr z ↦ absurd (n (marked-reach x l z))
    ]
  ]

  pub change-reached : (x : ℕ) → IsReached x → change (Slot x) ≡ Slot (place x)
  change-reached x n = ap (λ (o : Option ℕ). Slot (unwrap_or o x)) (target-on x (lies_of x n))

  pub change-other : (w : Word) → ((x : ℕ) → w ≡ Slot x → IsReached x → ⊥) → change w ≡ w
  change-other Nil n = refl
  change-other (Int i) n = refl
  change-other (Truth b) n = refl
  change-other (Slot x) n = ap (λ (o : Option ℕ). Slot (unwrap_or o x)) (target-none x (n x refl))

  pub becomes : (w : Word) → Becomes c.heap rec.number (top_roots rec v) place w (change w)
  becomes w = record { moved = λ x q n. ap change q ∙ change-reached x n; stays = λ n. change-other w n }

  pub all-become : (ws : List Word) → AllBecome c.heap rec.number (top_roots rec v) place ws (map change ws)
  all-become ws = record {
    as_many = length-map ws change;
    each = λ k old new a b.
        let q : change old ≡ new = same_Some (change old) new
        (sym (ap (option_map change) a) ∙ sym (slice_get-map change ws k) ∙ b) in
        let P : Word → Type 0 = λ y. Becomes c.heap rec.number (top_roots rec v) place old y in
        subst P q (becomes old);
  }

  pub cell-becomes : (b : Body) → CellBecomes c.heap rec.number (top_roots rec v) place b (all_fields change b)
  cell-becomes b = record { class = refl; label = refl; serial = refl; fields = all-become b.fields }

  -- bodies behind the rewriting
  pub temp-not : (x : ℕ) → LiesIn c.heap rec.number x → IsTempAt p.heap x → ⊥
  temp-not x l k =
      let q : Some (Temp k.0) ≡ Some (Region rec.number) = sym k.1 ∙ ap (λ (h : Heap). label_at h x) heap-p ∙ l in cc

  pub body-e : (x : ℕ) → (IsTempAt p.heap x → ⊥) → body_at e.heap x ≡ body_at c.heap x
  body-e x n = g.forwards_temps.others x (λ k. n k.1) ∙ body-p x

  pub body-temp : (x : ℕ) → Has (top_temps v) x → IsTempAt p.heap x
      → body_at e.heap x ≡ option_map (all_fields change) (body_at c.heap x)
  body-temp x n k = g.forwards_temps.among x n k ∙ ap (option_map (all_fields change)) (body-p x)

  lies-e : (x : ℕ) → LiesIn e.heap rec.number x → LiesIn c.heap rec.number x
  lies-e x l = sym (g.forwards_temps.alike.labels x ∙ ap (λ (h : Heap). label_at h x) heap-p) ∙ l

  member : (x : ℕ) → LiesIn c.heap rec.number x → (j : ℕ) × (j < length members) × (slice_get members j ≡ Some x)
  member x l = let a = g.members_are.all x l in (a.0, slice_get_within members a.0 x a.1, a.1)

  body-f : (x : ℕ) → IsReached x → body_at f.heap x ≡ option_map (all_fields change) (body_at c.heap x)
  body-f x n =
      let a = member x (lies_of x n) in
      let z = mark-p x in
      let y = mark-e x in
      let k = reach-marked x n in
      g.forwarded.black a.0 x a.1 a.2 (λ q. k (z ∙ sym y ∙ q))
      ∙ fields-agree (target e rec.number) (target p rec.number) target-e (body_at e.heap x)
      ∙ ap (option_map (all_fields change)) (body-e x (temp-not x (lies_of x n)))

  -- outside of the region nothing moved and nothing was swept
  slot-off : (x : ℕ) → (LiesIn c.heap rec.number x → ⊥) → (from x ≡ x)
      × (get_or cells.heap.slots x None ≡ get_or s.heap.slots x None) × (mark_at cells x ≡ mark_at s x)
      × (link_at cells x ≡ link_at s x)
  slot-off x n =
      let w = g.swept.left (with_members members rec) g.now in
      let sh = g.shifted.1 in
      let o : LiesIn f.heap rec.number x → ⊥ = λ l. n (sym (label-f x) ∙ l) in
      let same = sh.outside x o in
      let os : LiesIn s.heap rec.number x → ⊥ = λ l.
      o (sym (ap (option_map (λ (b : Body). b.label)) (sh.bodies x ∙ ap (body_at f.heap) same)) ∙ l) in
      let k = w.5.others x os in
      (same, k.0, k.1, k.2)

  pub body-off : (x : ℕ) → (LiesIn c.heap rec.number x → ⊥) → body_at cells.heap x ≡ body_at e.heap x
  body-off x n =
      let sh = g.shifted.1 in
      let a = slot-off x n in
      ap body_in a.1 ∙ sh.bodies x ∙ ap (body_at f.heap) a.0
      ∙ g.forwarded.others x (λ l. n (lies-e x l))

  pub label-off : (x : ℕ) → (LiesIn c.heap rec.number x → ⊥) → label_at cells.heap x ≡ label_at c.heap x
  label-off x n = ap (option_map (λ (b : Body). b.label)) (body-off x n) ∙ g.forwards_temps.alike.labels x
      ∙ ap (λ (h : Heap). label_at h x) heap-p

  pub marks-off : (x : ℕ) → (LiesIn c.heap rec.number x → ⊥)
      → (mark_at cells x ≡ mark_at c x) × (link_at cells x ≡ link_at c x)
  marks-off x n =
      let sh = g.shifted.1 in
      let a = slot-off x n in
      let k = g.marked.outside x n in
      let L : Heap → Type 0 = λ h. LiesIn h rec.number x in (
        a.2 ∙ sh.marks x ∙ ap (mark_at f) a.0 ∙ mark-f x ∙ k.0,
        a.3 ∙ sh.links x ∙ ap (link_at f) a.0 ∙ link-f x ∙ g.plans.others x (λ l. n (subst L g.marked.heap l)) ∙ k.1,
      )

  -- what stands at a slot of the region
  pub from-inside : (x : ℕ) → LiesIn c.heap rec.number x → LiesIn c.heap rec.number (from x)
  from-inside x l = sym (label-f (from x)) ∙ g.shifted.1.inside x (label-f x ∙ l)

  pub lies-s : (x : ℕ) → LiesIn c.heap rec.number x → LiesIn s.heap rec.number x
  lies-s x l = ap (option_map (λ (b : Body). b.label)) (g.shifted.1.bodies x) ∙ g.shifted.1.inside x (label-f x ∙ l)

  pub from-place : (x : ℕ) → IsReached x → from (place x) ≡ x
  from-place x n =
      let a = member x (lies_of x n) in
      g.shifted.1.done a.0 x (place x) a.1 a.2 (link-f x ∙ reach-link x n)

  pub body-reached : (x : ℕ) → IsReached x
      → body_at cells.heap (place x) ≡ option_map (all_fields change) (body_at c.heap x)
  body-reached x n =
      let w = g.swept.left (with_members members rec) g.now in
      let sh = g.shifted.1 in
      let q = from-place x n in
      let k = sh.marks (place x) ∙ ap (mark_at f) q ∙ mark-f x in
      let l = g.marked.reached x n in
      w.5.black (place x) (lies-s (place x) (place-lies x n)) (omega (arith, k, l)) ∙ sh.bodies (place x)
      ∙ ap (body_at f.heap) q ∙ body-f x n

  pub lies-reached : (x : ℕ) → IsReached x → LiesIn cells.heap rec.number (place x)
  lies-reached x n = ap (option_map (λ (b : Body). b.label)) (body-reached x n)
      ∙ label-all change (body_at c.heap x) ∙ lies_of x n

  pub only-reached : (y : ℕ) → LiesIn cells.heap rec.number y
      → (x : ℕ) × IsReached x × (place x ≡ y) × (from y ≡ x)
  only-reached y l =
      let w = g.swept.left (with_members members rec) g.now in
      let sh = g.shifted.1 in
      let a = w.5.all y l in
      let b = w.5.after a.0 (omega arith) a.1 in
      let black : 1 < mark_at s y =
      (let z = ap (λ k. get_or s.marks k 0) a.2 in omega (arith, b.0, z)) in
      let x : ℕ = from y in
      let there : LiesIn c.heap rec.number x = sym (label-f x)
      ∙ sym (ap (option_map (λ (b : Body). b.label)) (sh.bodies y))
      ∙ sym (ap (option_map (λ (b : Body). b.label)) (w.5.only y l)) ∙ l in
      let k = sh.marks y ∙ mark-f x ∙ sym (mark-p x) in
      let n : IsReached x = marked-reach x there (λ z. omega (arith, z, k, black)) in
      (x, n, sh.one (place x) y (from-place x n), refl)

  -- what is in reach leads within the region to what is in reach
  pub reach-closed : (x k to : ℕ) → IsReached x → field_at c.heap x k ≡ Some (Slot to) → LiesIn c.heap rec.number to
      → IsReached to
  reach-closed x k to n q l =
      let a = g.marked.closed x k to (lies_of x n) (g.marked.reached x n) q l in g.marked.only to l (omega (arith, a))

  -- the bridge
  pub bridge-reached : (b : ℕ) → rec.bridge ≡ Some b → IsReached b
  bridge-reached b q = (0, omega arith, (g.grove.bridges key b rec g.there q, is_bridge q))

  pub bridge-place : (b : ℕ) → rec.bridge ≡ Some b → place b ≡ b
  bridge-place b q =
      let n = bridge-reached b q in place-is b b (planned.bridge_stays b (lies_of b n) (reach-marked b n) q)

  -- the lowest slots are taken
  pub lowest-taken : (x y : ℕ) → IsReached x → rec.bridge ≢ Some x → LiesIn c.heap rec.number y → rec.bridge ≢ Some y
      → y < place x → LiesIn cells.heap rec.number y
  lowest-taken x y n a l b low =
      let z = planned.lowest y x (place x) l b (lies_of x n) a (reach-link x n) low in
      let k = link-reach z.0 y z.1 z.2 in
      let L : ℕ → Type 0 = λ i. LiesIn cells.heap rec.number i in
      subst L (place-is z.0 y z.2) (lies-reached z.0 k)

  pub gone-slot : (x : ℕ) → LiesIn c.heap rec.number x → (LiesIn cells.heap rec.number x → ⊥)
      → body_at cells.heap x ≡ None
  gone-slot x l n =
      let w = g.swept.left (with_members members rec) g.now in
      elim (w.5.either x (lies-s x l)) [
        | inl q ↦ absurd (n (ap (option_map (λ (b : Body). b.label)) q ∙ lies-s x l))
        | inr q ↦ q.0
      ]

  pub unmarked-slot : (x : ℕ) → LiesIn c.heap rec.number x → mark_at cells x ≡ 0
  unmarked-slot x l =
      let w = g.swept.left (with_members members rec) g.now in
      elim (w.5.either x (lies-s x l)) [
        | inl q ↦
            let a = w.5.all x (ap (option_map (λ (b : Body). b.label)) q ∙ lies-s x l) in
            let b = w.5.after a.0 (omega arith) a.1 in
            ap (mark_at cells) (sym a.2) ∙ b.1
        | inr q ↦ q.1
      ]
