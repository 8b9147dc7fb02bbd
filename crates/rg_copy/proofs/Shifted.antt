-- Each turn in which a cell changes places with what stands where it goes (docs/architecture.md, "A manager that moves
-- its cells").
use Rattle.std.proofs.Common.{◌≡◌, ◌≢◌, ℕ, ◌+◌, ◌<◌, List, length, Option, Some, None, IsSome, refl, ap, sym, ◌∙◌}
use Rattle.std.proofs.Common.{subst, arith, inl, inr, slice_get}
use Rattle.std.proofs.lemmas.Bool.{cases_eq}
use Rattle.std.proofs.lemmas.Option.{same_Some}
use Rattle.rg_cells.specs.declared.cell.Body.{Body}
use Rattle.rg_cells.specs.Table.{Table, body_at, mark_at, link_at, high_of, IsHeld, exchanged}
use Rattle.rg_cells.proofs.Exchanged.{partner_first, partner_second, partner_other, partner_once}
use Rattle.rg_cells.proofs.Exchanged.{body_exchanged, mark_exchanged, link_exchanged, high_exchanged, partner}
use Rattle.rg_regions.specs.Reach.{LiesIn}
use Rattle.rg_regions.specs.Grove.{Members}
use Rattle.rg_regions.proofs.Callers.Told.{lies_held}
use Rattle.rg_copy.specs.Inner.Plans.{Rises}
use Rattle.rg_copy.specs.Inner.Shifts.{Downward, Shifted, Shifts}

-- a cell of the region stands at each of its slots
pub shift-held : (p t : Table) (r i : ℕ) (members : List ℕ) (from : ℕ → ℕ) (s : ℕ) → Shifted p r members i t from
    → LiesIn p.heap r s → IsHeld t.heap s
shift-held p t r i members from s w l =
    let H : Option Body → Type 0 = λ o. IsSome o in
    subst H (sym (w.bodies s)) (lies_held p.heap r (from s) (w.inside s l))

pub shift-begin : (p : Table) (r : ℕ) (members : List ℕ) → Shifts p r members 0 p
shift-begin p r members = (
  (λ s. s),
  record {
    bodies = λ s. refl;
    marks = λ s. refl;
    links = λ s. refl;
    one = λ s x e. e;
    inside = λ s l. l;
    outside = λ s n. refl;
    done = λ j s d l e k. absurd (omega (arith, l));
    left = λ j s l e. refl;
    next = refl;
    high = refl;
  },
)

module _ (p t : Table) (r : ℕ) (members : List ℕ) (i slot : ℕ) (ms : Members p.heap r members)
    (at : slice_get members i ≡ Some slot) (from : ℕ → ℕ) (w : Shifted p r members i t from) where
  off : (j s : ℕ) → slice_get members j ≡ Some s → j ≢ i → s ≢ slot
  off j s e d q = d (ms.once j i slot (e ∙ ap Some q) at)

  own_link : link_at t slot ≡ link_at p slot
  own_link = w.links slot ∙ ap (link_at p) (w.left i slot (omega arith) at)

  -- a cell without a link stays
  pub shift-stay : link_at t slot ≡ None → Shifts p r members (i + 1) t
  shift-stay n = (
    from,
    record {
      bodies = w.bodies;
      marks = w.marks;
      links = w.links;
      one = w.one;
      inside = w.inside;
      outside = w.outside;
      done = λ j s d l e k. elim (cases_eq j i) [
        | inl q ↦
            let z : s ≡ slot = same_Some s slot (sym e ∙ ap (slice_get members) q ∙ at) in
            let y : None ≡ Some d = sym n ∙ own_link ∙ ap (link_at p) (sym z) ∙ k in
            cc
        | inr q ↦ w.done j s d (omega (arith, l, q)) e k
      ];
      left = λ j s l e. w.left j s (omega (arith, l)) e;
      next = w.next;
      high = w.high;
    },
  )

  -- a cell with a link goes there
  pub shift-go : (to : ℕ) (new : Table) → Rises members → Downward p.heap r p → link_at t slot ≡ Some to
      → new ≡ exchanged t slot to → slot < length t.marks → to < length t.marks → slot < length t.links
      → to < length t.links → Shifts p r members (i + 1) new
  shift-go to new rise down k n la lb ma mb =
      let link : link_at p slot ≡ Some to = sym own_link ∙ k in
      let lies : LiesIn p.heap r slot = ms.lie i slot at in
      let d = down.down slot to lies link in
      let ha = shift-held p t r i members from slot w lies in
      let hb = shift-held p t r i members from to w d.0 in
      let f : ℕ → ℕ = partner slot to in
      let L : ℕ → Type 0 = λ y. LiesIn p.heap r y in (
        (λ s. from (partner slot to s)),
        record {
          bodies = λ s. ap (λ (z : Table). body_at z.heap s) n ∙ body_exchanged t slot to ha hb s ∙ w.bodies (f s);
          marks = λ s. ap (λ (z : Table). mark_at z s) n ∙ mark_exchanged t slot to ha hb la lb s ∙ w.marks (f s);
          links = λ s. ap (λ (z : Table). link_at z s) n ∙ link_exchanged t slot to ha hb ma mb s ∙ w.links (f s);
          one = λ s x e. partner_once slot to s x (w.one (f s) (f x) e);
          inside = λ s l. elim (cases_eq s to) [
            | inl e ↦ w.inside (f s) (subst L (sym (ap f e ∙ partner_second slot to)) lies)
            | inr a ↦ elim (cases_eq s slot) [
              | inl e ↦ w.inside (f s) (subst L (sym (ap f e ∙ partner_first slot to)) d.0)
              | inr b ↦ w.inside (f s) (subst L (sym (partner_other slot to s b a)) l)
            ]
          ];
          outside = λ s o.
              let a : s ≢ slot = λ q. o (subst L (sym q) lies) in
              let b : s ≢ to = λ q. o (subst L (sym q) d.0) in
              ap from (partner_other slot to s a b) ∙ w.outside s o;
          done = λ j s x l e y. elim (cases_eq j i) [
            | inl q ↦
                let z : s ≡ slot = same_Some s slot (sym e ∙ ap (slice_get members) q ∙ at) in
                let v : x ≡ to = same_Some x to (sym y ∙ ap (link_at p) z ∙ link) in
                ap (λ g. from (f g)) v ∙ ap from (partner_second slot to) ∙ w.left i slot (omega arith) at ∙ sym z
            | inr q ↦
                let o : s ≢ slot = off j s e q in
                let was : from x ≡ s = w.done j s x (omega (arith, l, q)) e y in
                let a : x ≢ slot = λ z. o (sym was ∙ ap from z ∙ w.left i slot (omega arith) at) in
                let b : x ≢ to = λ z. o (down.apart s slot to (ms.lie j s e) lies (y ∙ ap Some z) link) in
                ap from (partner_other slot to x a b) ∙ was
          ];
          left = λ j s l e.
              let o : s ≢ slot = off j s e (omega (arith, l)) in
              let up = rise i j slot s (omega (arith, l)) at e in
              let b : s ≢ to = λ z. o (omega (arith, z, up, d.1)) in
              ap from (partner_other slot to s o b) ∙ w.left j s (omega (arith, l)) e;
          next = ap (λ (z : Table). z.heap.next) n ∙ w.next;
          high = ap (λ (z : Table). high_of z.heap) n ∙ high_exchanged t slot to ha hb ∙ w.high;
        },
      )
