-- The cells of a region that goes into another one, with their marks (docs/architecture.md, "Freeze and merge").
use Rattle.std.proofs.Common.{◌≡◌, ℕ, ◌<◌, ◌≤◌, ◌^◌, List, [], ◌∷◌, length, cond, Option, Some, None, IsSome, get_or}
use Rattle.std.proofs.Common.{sum_by, refl, ◌-◌}
use Rattle.std.proofs.Common.{ap, sym, ◌∙◌, subst, arith, inl, inr}
use Rattle.std.proofs.lemmas.List.Sums.{sum_by-cons, sum_by-le-sum_by, count_by-le-length}
use Rattle.rg_base.specs.declared.object.Label.{Label}
use Rattle.rg_base.specs.declared.object.Label.TheVariants.{Region}
use Rattle.rg_cells.specs.declared.cell.Body.{Body}
use Rattle.rg_cells.specs.Table.{Heap, Table, IsHeld, body_at, mark_at, link_at as cell_link_at, width, field_total}
use Rattle.rg_regions.specs.Table.{Record, RegionTable, record_at, Has}
use Rattle.rg_regions.specs.Reach.{LiesIn, belongs}
use Rattle.rg_regions.specs.Grove.{Grove, leads_to}
use Rattle.rg_regions.specs.Chains.{LeadsToHeld}
use Rattle.rg_regions.specs.Same.{IsSameCell}
use Rattle.rg_regions.proofs.Callers.Told.{led_held, lies_or_not, owns_once, counts_or_not}
use Rattle.rg_regions.proofs.Callers.Fewer.{belongs_not}
use Rattle.rg_move.specs.Closed.{Closed}
use Rattle.rg_move.specs.Frozen.{labelled, IsLabelled}
use Rattle.rg_move.specs.Merged.{CanTake}
use Rattle.rg_move.specs.Inner.Labels.{LabelledFirst}
use Rattle.rg_move.specs.Counted.{led, led_by, HasRoomFor, Counts}
use Rattle.rg_move.specs.Inner.Joins.{Relabels, Marks}
use Rattle.rg_move.proofs.PartFrozen.{same_held}
use Rattle.rg_move.proofs.MembersLabelled.{members_labelled, others_kept}
use Rattle.rg_move.proofs.FieldsCounted.{belongs_there}
use Rattle.rg_move.proofs.GroveJoined.{led_none, leads_not, fields_stay, on_moved, was_or_moved}
use Rattle.rg_regions.proofs.Callers.Shares.{has_place, distinct_by, parted-le}

sum_none : (f : ℕ → ℕ) (ss : List ℕ) → ((s : ℕ) → Has ss s → f s ≡ 0) → sum_by f ss ≡ 0
sum_none f [] h = refl
sum_none f (s ∷ ss) h =
    let a = h s (inl refl) in
    omega (arith, sum_by-cons f s ss, a, sum_none f ss (λ x m. h x (inr m)))

-- at most all fields of a body lead to a slot
led_within : (x : ℕ) (o : Option Body) → led x o ≤ width o
led_within x None = omega arith
led_within x (Some b) = count_by-le-length (leads_to x) b.fields

same_width : (l : Label) (o : Option Body) → width (labelled l o) ≡ width o
same_width l None = refl
same_width l (Some b) = refl

module _ (c : Table) (t : RegionTable) (from into : ℕ) (a b : Record) (g : Grove c t) (at : record_at t from ≡ Some a)
    (to : record_at t into ≡ Some b) (o : Closed c.heap t from) (w : CanTake c.heap t from into) (mid : Table)
    (f : LabelledFirst (Region b.number) c a.members (length a.members) mid) where
  moved : (s : ℕ) → LiesIn c.heap a.number s → IsLabelled (Region b.number) c mid s
  moved = members_labelled (Region b.number) c a.number a.members mid (g.members from a at) f

  others : (s : ℕ) → (LiesIn c.heap a.number s → ⊥) → IsSameCell c mid s
  others = others_kept (Region b.number) c a.number a.members mid (owns_once c t from a g at) f

  relabelled : Relabels c a.number b.number mid
  relabelled = record { moved = λ s l. (moved s l).0; others = λ s n. (others s n).0 }

  -- the members lie in the region that takes them
  pub lie_now : (j : ℕ) → j < length a.members → LiesIn mid.heap b.number (get_or a.members j 0)
  lie_now j l = on_moved c t from into a b g at to o w mid relabelled (get_or a.members j 0)
      ((owns_once c t from a g at).lie j l)

  held_on : (s : ℕ) → IsHeld c.heap s → IsHeld mid.heap s
  held_on s e = elim (lies_or_not c.heap a.number s) [
    | inl n ↦ let P : Option Body → Type 0 = λ z. IsSome z in subst P (sym (others s n).0) e
    | inr l ↦ let P : Option Body
        → Type 0 = λ z. IsSome z in subst P (sym (moved s l).0) (same_held (Region b.number) (body_at c.heap s) e)
  ]

  pub leads_now : LeadsToHeld mid.heap b.number
  leads_now = λ p k s l e.
      let lead = sym (fields_stay c t from into a b g at to o w mid relabelled p k) ∙ e in
      elim (was_or_moved c t from into a b g at to o w mid relabelled b.number p l) [
        | inl y ↦ held_on s (led_held c t g b.number p k s y.1 lead)
        | inr y ↦ held_on s (led_held c t g a.number p k s y.1 lead)
      ]

  -- no field of a moved cell leads to a cell that was there before
  led_none_there : (x : ℕ) → LiesIn c.heap b.number x → led_by mid.heap a.members x ≡ 0
  led_none_there x i = sum_none (λ s. led x (body_at mid.heap s)) a.members (λ s m.
      let p = has_place a.members s m in
      led_none mid.heap s x (λ k e.
      leads_not c t from into a b g at to o w s k x ((g.members from a at).lie p.0 s p.1)
      (sym (fields_stay c t from into a b g at to o w mid relabelled s k) ∙ e) i))

  led_within_all : (x : ℕ) → led_by mid.heap a.members x ≤ sum_by (λ s. width (body_at c.heap s)) a.members
  led_within_all x = sum_by-le-sum_by (λ s. led x (body_at mid.heap s)) (λ s. width (body_at c.heap s)) a.members (λ s.
      let same : width (body_at mid.heap s) ≡ width (body_at c.heap s) = elim (lies_or_not c.heap a.number s) [
        | inl n ↦ ap width (others s n).0
        | inr l ↦ ap width (moved s l).0 ∙ same_width (Region b.number) (body_at c.heap s)
      ] in
      let n = led_within x (body_at mid.heap s) in
      omega (arith, n, same))

  -- what moves has no more fields than all cells
  moved_fields : sum_by (λ s. width (body_at c.heap s)) a.members ≤ field_total c.heap
  moved_fields = parted-le width refl c.heap.slots a.members (distinct_by a.members (g.members from a at).once)

  pub room_now : field_total c.heap < 2 ^ 64 - 1 → HasRoomFor b.number mid (led_by mid.heap a.members)
  room_now few = λ x l more. elim (was_or_moved c t from into a b g at to o w mid relabelled b.number x l) [
    | inl y ↦ let z = led_none_there x y.1 in absurd (omega (arith, z, more))
    | inr y ↦ let z = (moved x y.1).1 in omega (arith, z, led_within_all x, moved_fields, few)
  ]

  module _ (cells : Table) (n : Counts b.manager b.number mid a.members cells) where
    same_heap : cells.heap ≡ mid.heap
    same_heap = elim (counts_or_not b.manager) [
      | inl m ↦ (n.counted m).heap
      | inr m ↦ ap (λ (z : Table). z.heap) (n.same m)
    ]

    same_links : cells.links ≡ mid.links
    same_links = elim (counts_or_not b.manager) [
      | inl m ↦ (n.counted m).links
      | inr m ↦ ap (λ (z : Table). z.links) (n.same m)
    ]

    body_now : (s : ℕ) → body_at cells.heap s ≡ body_at mid.heap s
    body_now s = ap (λ (h : Heap). body_at h s) same_heap

    link_now : (s : ℕ) → cell_link_at cells s ≡ cell_link_at mid s
    link_now s = ap (λ (ls : List (Option ℕ)). get_or ls s None) same_links

    mark_kept : (s : ℕ) → (LiesIn c.heap a.number s → ⊥) → mark_at cells s ≡ mark_at mid s
    mark_kept s out = elim (counts_or_not b.manager) [
      | inl m ↦
          let k = (n.counted m).marks s in
          elim (lies_or_not mid.heap b.number s) [
            | inl off ↦
                let no : cond {A = ℕ} (belongs b.number (body_at mid.heap s)) (led_by mid.heap a.members s) 0 ≡ 0 =
                ap (λ x. cond {A = ℕ} x (led_by mid.heap a.members s) 0) (belongs_not b.number (body_at mid.heap s)
                off) in
                omega (arith, k, no)
            | inr l ↦
                let yes : cond {A = ℕ} (belongs b.number (body_at mid.heap s)) (led_by mid.heap a.members s)
                0 ≡ led_by mid.heap a.members s =
                ap (λ x. cond {A = ℕ} x (led_by mid.heap a.members s) 0) (belongs_there mid.heap b.number s l) in
                elim (was_or_moved c t from into a b g at to o w mid relabelled b.number s l) [
                  | inl y ↦ let z = led_none_there s y.1 in omega (arith, k, yes, z)
                  | inr y ↦ absurd (out y.1)
                ]
          ]
      | inr m ↦ ap (λ z. mark_at z s) (n.same m)
    ]

    pub relabels : Relabels c a.number b.number cells
    relabels = record {
      moved = λ s l. body_now s ∙ (moved s l).0;
      others = λ s out. body_now s ∙ (others s out).0;
    }

    pub links_kept : (s : ℕ) → cell_link_at cells s ≡ cell_link_at c s
    links_kept s = link_now s
        ∙ elim (lies_or_not c.heap a.number s) [ inl out ↦ (others s out).2 | inr l ↦ (moved s l).2 ]

    pub marks : Marks c a b cells
    marks = record {
      counted = λ s l m.
          let k = (n.counted m).marks s in
          let yes : cond {A = ℕ} (belongs b.number (body_at mid.heap s)) (led_by mid.heap a.members s)
          0 ≡ led_by mid.heap a.members s =
          ap (λ x. cond {A = ℕ} x (led_by mid.heap a.members s) 0)
          (belongs_there mid.heap b.number s (on_moved c t from into a b g at to o w mid relabelled s l)) in
          let now : led_by mid.heap a.members s ≡ led_by cells.heap a.members s =
          ap (λ (h : Heap). led_by h a.members s) (sym same_heap) in
          omega (arith, k, yes, now, (moved s l).1);
      uncounted = λ s l m. ap (λ z. mark_at z s) (n.same m) ∙ (moved s l).1;
      kept = λ s out. mark_kept s out ∙ (others s out).1;
    }
