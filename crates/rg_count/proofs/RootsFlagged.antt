-- Each turn of the loops that flag roots.
use Rattle.std.proofs.Common.{◌≡◌, ◌≢◌, ℕ, ◌+◌, ◌<◌, List, length, Option, Some, None, get_or, set, refl, ap, sym, ◌∙◌}
use Rattle.std.proofs.Common.{subst, arith, ◌⊎◌, inl, inr, slice_get}
use Rattle.std.proofs.lemmas.List.{get_or-set_same, get_or-set_other}
use Rattle.std.proofs.lemmas.Bool.{cases_eq, cases_lt}
use Rattle.std.proofs.lemmas.Option.{same_Some}
use Rattle.rg_base.specs.declared.value.Word.{Word}
use Rattle.rg_base.specs.declared.value.Word.TheVariants.{Slot}
use Rattle.rg_base.proofs.Callers.Labels.{slot-same}
use Rattle.rg_cells.specs.Table.{Heap, Table, field_at, body_at, link_at, width}
use Rattle.rg_regions.specs.Reach.{LiesIn}
use Rattle.rg_regions.proofs.Callers.Told.{field_within}
use Rattle.rg_count.specs.Inner.Flags.{Cleared, Flags, Flagged, Among, InTemps}

pub cleared-more : (members : List ℕ) (n s : ℕ) (old mid new : Table) → slice_get members n ≡ Some s
    → s < length mid.links → new ≡ record mid { links = set mid.links s None } → Cleared members n old mid
    → Cleared members (n + 1) old new
cleared-more members n s old mid new at room e c = record {
  heap = ap (λ (t : Table). t.heap) e ∙ c.heap;
  marks = ap (λ (t : Table). t.marks) e ∙ c.marks;
  none = λ i x l q. ap (λ (t : Table). link_at t x) e ∙ elim (cases_eq x s) [
    | inl z ↦ ap (λ y. get_or (set mid.links s None) y None) z ∙ get_or-set_same mid.links s None None room
    | inr d ↦ get_or-set_other mid.links s x None None d ∙ elim (cases_lt i n) [
      | inl m ↦ c.none i x m q
      | inr m ↦ let z : i ≡ n = omega (arith, l) in absurd (d (same_Some x s (sym q ∙ ap (slice_get members) z ∙ at)))
    ]
  ];
  others = λ x m.
      ap (λ (t : Table). link_at t x) e ∙ get_or-set_other mid.links s x None None (λ q. m n (at ∙ ap Some (sym q)))
      ∙ c.others x m;
}

pub flagged-none : (h : Heap) (r : ℕ) (P : ℕ → Type 0) (t : Table) → t.heap ≡ h → ((s : ℕ) → P s → ⊥)
    → Flagged h r P t t
flagged-none h r P t e n = record {
  heap = e;
  marks = refl;
  links = λ s d. refl;
  found = λ s p l. absurd (n s p);
  only = λ s. inl refl;
}

-- one word more
pub flagged-more : (h : Heap) (r : ℕ) (P Q : ℕ → Type 0) (w : Word) (old mid new : Table) → Flagged h r P old mid
    → Flags r w mid new → ((s : ℕ) → P s → Q s) → ((s : ℕ) → w ≡ Slot s → Q s) → ((s : ℕ) → Q s → P s ⊎ (w ≡ Slot s))
    → Flagged h r Q old new
flagged-more h r P Q w old mid new f g up here back = elim g [
  | inl i ↦ record {
    heap = ap (λ (t : Table). t.heap) i.same ∙ f.heap;
    marks = ap (λ (t : Table). t.marks) i.same ∙ f.marks;
    links = λ s d. ap (λ (t : Table). link_at t s) i.same ∙ f.links s d;
    found = λ s q l. ap (λ (t : Table). link_at t s) i.same ∙ elim (back s q) [
      | inl p ↦ f.found s p l
      | inr e ↦ let L : Heap → Type 0 = λ z. LiesIn z r s in absurd (i.none s e (subst L (sym f.heap) l))
    ];
    only = λ s. elim (f.only s) [
      | inl e ↦ inl (ap (λ (t : Table). link_at t s) i.same ∙ e)
      | inr e ↦ inr (up s e.0, ap (λ (t : Table). link_at t s) i.same ∙ e.1)
    ];
  }
  | inr i ↦
      let self : link_at new i.slot ≡ Some i.slot = ap (λ (t : Table). link_at t i.slot) i.new_is
      ∙ get_or-set_same mid.links i.slot (Some i.slot) None i.within in
      let other : (s : ℕ) → s ≢ i.slot → link_at new s ≡ link_at mid s = λ s d. ap (λ (t : Table). link_at t s) i.new_is
      ∙ get_or-set_other mid.links i.slot s (Some i.slot) None d in
      let same : (s : ℕ) → s ≡ i.slot → link_at new s ≡ Some s = λ s e. ap (link_at new) e ∙ self ∙ ap Some (sym e) in
      record {
        heap = ap (λ (t : Table). t.heap) i.new_is ∙ f.heap;
        marks = ap (λ (t : Table). t.marks) i.new_is ∙ f.marks;
        links = λ s d.
            let H : Heap → Type 0 = λ z. LiesIn z r i.slot in
            let L : ℕ → Type 0 = λ z. LiesIn h r z in
            other s (λ q. d (subst L (sym q) (subst H f.heap i.lies))) ∙ f.links s d;
        found = λ s q l. elim (cases_eq s i.slot) [
          | inl e ↦ same s e
          | inr d ↦ elim (back s q) [
            | inl p ↦ other s d
                ∙ f.found s p l
            | inr e ↦ absurd (d (slot-same s i.slot (sym e ∙ i.leads)))
          ]
        ];
        only = λ s. elim (cases_eq s i.slot) [
          | inl e ↦ inr (here s (i.leads ∙ ap Slot (sym e)), same s e)
          | inr d ↦ elim (f.only s) [ inl e ↦ inl (other s d ∙ e) | inr e ↦ inr (up s e.0, other s d ∙ e.1) ]
        ];
      }
]

-- one word more of a source of words
pub among-more : (h : Heap) (r : ℕ) (word : ℕ → Option Word) (n : ℕ) (w : Word) (old mid new : Table) → word n ≡ Some w
    → Flagged h r (Among word n) old mid → Flags r w mid new → Flagged h r (Among word (n + 1)) old new
among-more h r word n w old mid new at f g = flagged-more h r (Among word n) (Among word (n + 1)) w old mid new f g
    (λ s p. (p.0, omega (arith, p.1), p.2))
    (λ s e. (n, omega arith, at ∙ ap Some e))
    (λ s q. elim (cases_lt q.0 n) [
      | inl l ↦ inl (q.0, l, q.2)
      | inr l ↦ let e : q.0 ≡ n = omega (arith, q.1) in inr (same_Some w (Slot s) (sym at ∙ ap word (sym e) ∙ q.2))
    ])

pub among-none : (h : Heap) (r : ℕ) (word : ℕ → Option Word) (t : Table) → t.heap ≡ h → Flagged h r (Among word 0) t t
among-none h r word t e = flagged-none h r (Among word 0) t e (λ s p. omega (arith, p.1))

-- one flagging after another
pub flagged-then : (h : Heap) (r : ℕ) (P Q S : ℕ → Type 0) (old mid new : Table) → Flagged h r P old mid
    → Flagged h r Q mid new → ((s : ℕ) → P s → S s) → ((s : ℕ) → Q s → S s) → ((s : ℕ) → S s → P s ⊎ Q s)
    → Flagged h r S old new
flagged-then h r P Q S old mid new f g one two back = record {
  heap = g.heap;
  marks = g.marks ∙ f.marks;
  links = λ s d. g.links s d ∙ f.links s d;
  found = λ s p l. elim (back s p) [
    | inl a ↦ elim (g.only s) [ inl e ↦ e ∙ f.found s a l | inr e ↦ e.1 ]
    | inr b ↦ g.found s b l
  ];
  only = λ s. elim (g.only s) [
    | inl e ↦ elim (f.only s) [ inl z ↦ inl (e ∙ z) | inr z ↦ inr (one s z.0, e ∙ z.1) ]
    | inr e ↦ inr (two s e.0, e.1)
  ];
}

pub temps-more : (h : Heap) (r : ℕ) (temps : List ℕ) (n temp : ℕ) (old mid new : Table) → slice_get temps n ≡ Some temp
    → Flagged h r (InTemps h temps n) old mid
    → Flagged h r (Among (λ k. field_at h temp k) (width (body_at h temp))) mid new
    → Flagged h r (InTemps h temps (n + 1)) old new
temps-more h r temps n temp old mid new at f g = flagged-then h r (InTemps h temps n)
    (Among (λ k. field_at h temp k) (width (body_at h temp))) (InTemps h temps (n + 1)) old mid new f g
    (λ s p. (p.0, p.1, p.2, omega (arith, p.3), p.4, p.5))
    (λ s p. (n, p.0, temp, omega arith, at, p.2))
    (λ s q. elim (cases_lt q.0 n) [
      | inl l ↦ inl (q.0, q.1, q.2, l, q.4, q.5)
      | inr l ↦
          let e : q.0 ≡ n = omega (arith, q.3) in
          let z : temp ≡ q.2 = same_Some temp q.2 (sym at ∙ ap (slice_get temps) (sym e) ∙ q.4) in
          let f : field_at h temp q.1 ≡ Some (Slot s) = ap (λ y. field_at h y q.1) z ∙ q.5 in
          inr (q.1, field_within h temp q.1 (Slot s) f, f)
    ])
