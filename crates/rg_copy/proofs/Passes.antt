-- Each turn of rewriting the members of a region, and temporaries (docs/architecture.md, "A manager that moves its
-- cells").
use Rattle.std.proofs.Common.{◌≡◌, ◌≢◌, ℕ, ◌+◌, ◌<◌, List, length, Some, refl, ap, sym, ◌∙◌, subst}
use Rattle.std.proofs.Common.{arith, inl, inr, get_or, set, slice_get, option_map}
use Rattle.std.proofs.lemmas.List.{get_or-set_same, get_or-set_other}
use Rattle.std.proofs.lemmas.Bool.{cases_eq}
use Rattle.std.proofs.lemmas.Option.{slice_get_within, same_Some}
use Rattle.rg_cells.specs.declared.cell.Body.{Body}
use Rattle.rg_cells.specs.Table.{Heap, Table, body_at, label_at, mark_at, high_of}
use Rattle.rg_regions.specs.Table.{Has}
use Rattle.rg_regions.specs.Reach.{LiesIn}
use Rattle.rg_regions.specs.Grove.{Members}
use Rattle.rg_regions.proofs.Callers.Shares.{has_place, place_has}
use Rattle.rg_copy.specs.Inner.Moves.{target, moved_word, all_fields, Forwards, Alike, IsKept, IsForwarded, MembersForwarded}
use Rattle.rg_copy.specs.Inner.Moves.{IsTempAt, TempsClean, IsMarkedTemp, TempsMarked, Cleared, TempsForwarded}
use Rattle.rg_copy.proofs.Fields.{fields-agree, label-all, target-agree}

-- one cell more is rewritten: what was alike stays so, and where the cell was as at first it is rewritten as at first
pub alike-next : (p t new : Table) (r slot : ℕ) → Alike p t → Forwards r slot t new → Alike p new
alike-next p t new r slot a w = record {
  links = w.links ∙ a.links;
  next = w.next ∙ a.next;
  high = w.high ∙ a.high;
  labels = λ s. elim (cases_eq s slot) [
    | inl e ↦
        let P : ℕ → Type 0 = λ z. label_at new.heap z ≡ label_at p.heap z in
        subst P (sym e) (ap (option_map (λ (b : Body). b.label)) w.here
        ∙ label-all (moved_word (target t r)) (body_at t.heap slot) ∙ a.labels slot)
    | inr d ↦ ap (option_map (λ (b : Body). b.label)) (w.others s d) ∙ a.labels s
  ];
}

pub alike-begin : (p : Table) → Alike p p
alike-begin p = record { links = refl; next = refl; high = refl; labels = λ s. refl }

pub forwarded-next : (p t new : Table) (r slot : ℕ) → Alike p t → Forwards r slot t new → IsKept p t slot
    → IsForwarded r p new slot
forwarded-next p t new r slot a w k =
    w.here ∙ ap (option_map (all_fields (moved_word (target t r)))) k
    ∙ fields-agree (target t r) (target p r) (target-agree p t r a.links a.labels) (body_at p.heap slot)

pub members-skip : (p t : Table) (r : ℕ) (members : List ℕ) (i slot : ℕ) → slice_get members i ≡ Some slot
    → mark_at t slot ≡ 0 → MembersForwarded p r members i t → MembersForwarded p r members (i + 1) t
members-skip p t r members i slot e m w = record {
  alike = w.alike;
  marks = w.marks;
  black = λ j s l f d. elim (cases_eq j i) [
    | inl q ↦
        let z : s ≡ slot = same_Some s slot (sym f ∙ ap (slice_get members) q ∙ e) in
        let y : mark_at p s ≡ 0 = ap (mark_at p) z ∙ ap (λ (ms : List ℕ). get_or ms slot 0) (sym w.marks) ∙ m in
        absurd (d y)
    | inr n ↦ w.black j s (omega (arith, l, n)) f d
  ];
  white = w.white;
  left = λ j s l f. w.left j s (omega (arith, l)) f;
  others = w.others;
}

pub members-forward : (p t new : Table) (r : ℕ) (members : List ℕ) (i slot : ℕ) → Members p.heap r members
    → slice_get members i ≡ Some slot → mark_at t slot ≢ 0 → Forwards r slot t new
    → MembersForwarded p r members i t → MembersForwarded p r members (i + 1) new
members-forward p t new r members i slot ms e m f w =
    let lies : LiesIn p.heap r slot = ms.lie i slot e in
    let black : mark_at p slot ≢ 0 = λ q. m (ap (λ (ks : List ℕ). get_or ks slot 0) w.marks ∙ q) in
    let off : (j s : ℕ) → slice_get members j ≡ Some s → j ≢ i → s ≢ slot = λ j s h d q.
    d (ms.once j i slot (h ∙ ap Some q) e) in
    record {
      alike = alike-next p t new r slot w.alike f;
      marks = f.marks ∙ w.marks;
      black = λ j s l h d. elim (cases_eq j i) [
        | inl q ↦
            let z : s ≡ slot = same_Some s slot (sym h ∙ ap (slice_get members) q ∙ e) in
            let P : ℕ → Type 0 = λ y. IsForwarded r p new y in
            subst P (sym z) (forwarded-next p t new r slot w.alike f (w.left i slot (omega arith) e))
        | inr n ↦ f.others s (off j s h n) ∙ w.black j s (omega (arith, l, n)) h d
      ];
      white = λ j s h d.
          let n : s ≢ slot = λ q. black (ap (mark_at p) (sym q) ∙ d) in f.others s n ∙ w.white j s h d;
      left = λ j s l h. f.others s (off j s h (omega (arith, l))) ∙ w.left j s (omega (arith, l)) h;
      others = λ s n.
          let L : ℕ → Type 0 = λ y. LiesIn p.heap r y in
          let d : s ≢ slot = λ q. n (subst L (sym q) lies) in f.others s d ∙ w.others s n;
    }

-- a label is that of a temporary in both tables
pub temp-on : (p t : Table) (s : ℕ) → Alike p t → IsTempAt p.heap s → IsTempAt t.heap s
temp-on p t s a l = (l.0, a.labels s ∙ l.1)

pub temp-back : (p t : Table) (s : ℕ) → Alike p t → IsTempAt t.heap s → IsTempAt p.heap s
temp-back p t s a l = (l.0, sym (a.labels s) ∙ l.1)

pub temps-skip : (p t : Table) (r : ℕ) (temps : List ℕ) (i slot : ℕ) → slice_get temps i ≡ Some slot
    → (IsTempAt t.heap slot → ⊥) → TempsMarked p r temps i t → TempsMarked p r temps (i + 1) t
temps-skip p t r temps i slot e n w = record {
  alike = w.alike;
  done = λ j s l f k. elim (cases_eq j i) [
    | inl q ↦
        let z : s ≡ slot = same_Some s slot (sym f ∙ ap (slice_get temps) q ∙ e) in
        let P : ℕ → Type 0 = λ y. IsTempAt t.heap y in
        absurd (n (subst P z (temp-on p t s w.alike k)))
    | inr d ↦ w.done j s (omega (arith, l, d)) f k
  ];
  either = w.either;
}

pub temps-again : (p t : Table) (r : ℕ) (temps : List ℕ) (i slot : ℕ) → TempsClean p → slice_get temps i ≡ Some slot
    → IsTempAt t.heap slot → mark_at t slot ≢ 0 → TempsMarked p r temps i t → TempsMarked p r temps (i + 1) t
temps-again p t r temps i slot clean e is m w =
    let one : mark_at t slot ≡ 1 = elim (w.either slot) [
      | inl k ↦ absurd (m (k.1 ∙ clean slot (temp-back p t slot w.alike is)))
      | inr k ↦ k.mark
    ] in
    record {
      alike = w.alike;
      done = λ j s l f k. elim (cases_eq j i) [
        | inl q ↦
            let z : s ≡ slot = same_Some s slot (sym f ∙ ap (slice_get temps) q ∙ e) in
            ap (mark_at t) z ∙ one
        | inr d ↦ w.done j s (omega (arith, l, d)) f k
      ];
      either = w.either;
    }

-- a temporary that isn't marked is as it was
pub temp-kept : (p t : Table) (r : ℕ) (temps : List ℕ) (i slot : ℕ) → mark_at t slot ≡ 0 → TempsMarked p r temps i t
    → IsKept p t slot
temp-kept p t r temps i slot m w = elim (w.either slot) [
  | inl k ↦ k.0
  | inr k ↦ let z : 1 ≡ 0 = sym k.mark ∙ m in absurd (omega (arith, z))
]

pub temps-forward : (p t mid new : Table) (r : ℕ) (temps : List ℕ) (i slot : ℕ)
    → slice_get temps i ≡ Some slot → IsTempAt t.heap slot → mark_at t slot ≡ 0
    → Forwards r slot t mid → new ≡ record mid { marks = set mid.marks slot 1 } → slot < length mid.marks
    → TempsMarked p r temps i t → TempsMarked p r temps (i + 1) new
temps-forward p t mid new r temps i slot e is m f n l w =
    let kept : IsKept p t slot = temp-kept p t r temps i slot m w in
    let h : new.heap ≡ mid.heap = ap (λ (z : Table). z.heap) n in
    let a : Alike p mid = alike-next p t mid r slot w.alike f in
    let here : mark_at new slot ≡ 1 = ap (λ (z : Table). mark_at z slot) n ∙ get_or-set_same mid.marks slot 1 0 l in
    let there : (s : ℕ) → s ≢ slot → mark_at new s ≡ mark_at t s = λ s d.
    ap (λ (z : Table). mark_at z s) n ∙ get_or-set_other mid.marks slot s 1 0 d
    ∙ ap (λ (ks : List ℕ). get_or ks s 0) f.marks in
    record {
      alike = record {
        links = ap (λ (z : Table). z.links) n ∙ a.links;
        next = ap (λ (z : Heap). z.next) h ∙ a.next;
        high = ap (λ (z : Heap). high_of z) h ∙ a.high;
        labels = λ s. ap (λ (z : Heap). label_at z s) h ∙ a.labels s;
      };
      done = λ j s b g k. elim (cases_eq s slot) [
        | inl q ↦ ap (mark_at new) q ∙ here
        | inr d ↦
            let o : j ≢ i = λ q. d (same_Some s slot (sym g ∙ ap (slice_get temps) q ∙ e)) in
            there s d ∙ w.done j s (omega (arith, b, o)) g k
      ];
      either = λ s. elim (cases_eq s slot) [
        | inl q ↦
            let P : ℕ → Type 0 = λ z. IsMarkedTemp r p new temps z in
            inr (subst P (sym q) (record {
              is = temp-back p t slot w.alike is;
              among = place_has temps slot i e;
              mark = here;
              forwarded = ap (λ (z : Heap). body_at z slot) h ∙ forwarded-next p t mid r slot w.alike f kept;
            }))
        | inr d ↦
            let same : body_at new.heap s ≡ body_at t.heap s = ap (λ (z : Heap). body_at z s) h ∙ f.others s d in
            elim (w.either s) [
              | inl k ↦ inl (same ∙ k.0, there s d ∙ k.1)
              | inr k ↦ inr (record {
                is = k.is;
                among = k.among;
                mark = there s d ∙ k.mark;
                forwarded = same ∙ k.forwarded;
              })
            ]
      ];
    }

-- both passes over the temporaries
pub temps-joined : (p t u : Table) (r : ℕ) (temps : List ℕ) → TempsClean p → TempsMarked p r temps (length temps) t
    → Cleared t temps (length temps) u → TempsForwarded p r temps u
temps-joined p t u r temps clean w v =
    let body : (s : ℕ) → body_at u.heap s ≡ body_at t.heap s = λ s. ap (λ (z : Heap). body_at z s) v.heap in
    let place : (s : ℕ) → Has temps s → (i : ℕ) × (i < length temps) × (slice_get temps i ≡ Some s) = λ s n.
    let a = has_place temps s n in (a.0, slice_get_within temps a.0 s a.1, a.1) in
    record {
      alike = record {
        links = v.links ∙ w.alike.links;
        next = ap (λ (z : Heap). z.next) v.heap ∙ w.alike.next;
        high = ap (λ (z : Heap). high_of z) v.heap ∙ w.alike.high;
        labels = λ s. ap (λ (z : Heap). label_at z s) v.heap ∙ w.alike.labels s;
      };
      marks = λ s. elim (v.others s) [
        | inl a ↦ elim (w.either s) [
          | inl k ↦ a ∙ k.1
          | inr k ↦
              let n = place s k.among in
              v.done n.0 s n.1 n.2 (temp-on p t s w.alike k.is) ∙ sym (clean s k.is)
        ]
        | inr a ↦ a.1 ∙ sym (clean s (temp-back p t s w.alike a.0))
      ];
      among = λ s n is.
          let a = place s n in
          let m : mark_at t s ≡ 1 = w.done a.0 s a.1 a.2 is in
          elim (w.either s) [
            | inl k ↦ let z : 1 ≡ 0 = sym m ∙ k.1 ∙ clean s is in absurd (omega (arith, z))
            | inr k ↦ body s ∙ k.forwarded
          ];
      others = λ s n. elim (w.either s) [
        | inl k ↦ body s ∙ k.0
        | inr k ↦ absurd (n (k.among, k.is))
      ];
    }
