-- The steps of marking keep its invariant, and at its end what is marked is what is in reach (docs/architecture.md,
-- "Mark and sweep").
use Rattle.std.proofs.Common.{◌≡◌, ◌≢◌, ℕ, ◌+◌, ◌<◌, zero, suc, List, [], ◌∷◌, length, Option, Some, None, get_or}
use Rattle.std.proofs.Common.{set, refl, ap, sym, ◌∙◌, subst, arith, inl, inr}
use Rattle.std.proofs.lemmas.List.{get_or-set_same, get_or-set_other}
use Rattle.std.proofs.lemmas.Bool.{cases_eq}
use Rattle.std.proofs.lemmas.Option.{same_Some}
use Rattle.rg_cells.specs.Table.{Heap}
use Rattle.rg_regions.specs.Reach.{LiesIn, Roots, Walk, Reach}
use Rattle.rg_trace.specs.Inner.Marking.{known_count, GreyChain, TriColour, BlackDone}
use Rattle.rg_trace.specs.Inner.Marking.{OnlyGreyed, Near}
use Rattle.rg_trace.proofs.Marks.Weights.{known-grey, pending-grey, fields-grey, known-black, known-size}
use Rattle.rg_regions.specs.Table.{Has}

-- a chain speaks only of the marks and links of its cells
pub chain-agree : (h : Heap) (r : ℕ) (marks more : List ℕ) (links joins : List (Option ℕ)) (head : Option ℕ)
    (grey : List ℕ)
    → ((s : ℕ) → Has grey s → get_or more s 0 ≡ get_or marks s 0)
    → ((s : ℕ) → Has grey s → get_or joins s None ≡ get_or links s None)
    → GreyChain h r marks links head grey → GreyChain h r more joins head grey
chain-agree h r marks more links joins head [] m l c = c
chain-agree h r marks more links joins head (s ∷ grey) m l c =
    let P : Option ℕ → Type 0 = λ o. GreyChain h r more joins o grey in (
      c.0,
      c.1,
      m s (inl refl) ∙ c.2,
      c.3,
      subst P (sym (l s (inl refl)))
          (chain-agree h r marks more links joins (get_or links s None) grey (λ x q. m x (inr q)) (λ x q. l x (inr q))
          c.4),
    )

-- the cells of a chain are grey
pub chain-grey : (h : Heap) (r : ℕ) (marks : List ℕ) (links : List (Option ℕ)) (head : Option ℕ) (grey : List ℕ) (s : ℕ)
    → GreyChain h r marks links head grey → Has grey s → get_or marks s 0 ≡ 1
chain-grey h r marks links head [] s c q = absurd q
chain-grey h r marks links head (x ∷ grey) s c q =
    elim q [
      | inl e ↦ ap (λ k. get_or marks k 0) e
          ∙ c.2
      | inr p ↦ chain-grey h r marks links (get_or links x None) grey s c.4 p
    ]

-- a white cell that is near becomes grey
pub greyed : (h : Heap) (r : ℕ) (roots : Roots) (marks : List ℕ) (links : List (Option ℕ)) (head : Option ℕ)
    (grey : List ℕ) (t : ℕ) → LiesIn h r t
    → get_or marks t 0 ≡ 0 → t < length marks → t < length links → Near h r roots marks t
    → TriColour h r roots marks links head grey
    → TriColour h r roots (set marks t 1) (set links t head) (Some t) (t ∷ grey)
greyed h r roots marks links head grey t lies white l n near tri =
    let off : Has grey t → ⊥ = λ q. let e = chain-grey h r marks links head grey t tri.chain q in omega arith in
    let differs : (s : ℕ) → Has grey s → s ≢ t = λ s q e. let P : ℕ → Type 0 = λ k. Has grey k in off (subst P e q) in
    let same : get_or (set marks t 1) t 0 ≡ 1 = get_or-set_same marks t 1 0 l in
    let other : (s : ℕ) → s ≢ t → get_or (set marks t 1) s 0 ≡ get_or marks s 0 =
    λ s d. get_or-set_other marks t s 1 0 d in
    let more : known_count h r (set marks t 1) ≡ known_count h r marks + 1 = known-grey h r t marks lies white l in
    let C : Option ℕ → Type 0 = λ o. GreyChain h r (set marks t 1) (set links t head) o grey in
    record {
      chain = (
        refl,
        lies,
        same,
        off,
        subst C (sym (get_or-set_same links t head None n))
            (chain-agree h r marks (set marks t 1) links (set links t head) head grey (λ s q. other s (differs s q))
            (λ s q. get_or-set_other links t s head None (differs s q)) tri.chain),
      );
      listed = λ s i m. elim (cases_eq s t) [ inl e ↦ inl e | inr d ↦ inr (tri.listed s i (sym (other s d) ∙ m)) ];
      walked = λ s i m. elim (cases_eq s t) [
        | inl e ↦ let W : ℕ → Type 0 = λ k. Walk h r roots near.0 k in
            (near.0, omega (arith, near.1, more), subst W (sym e) near.2)
        | inr d ↦ let o = other s d in let w = tri.walked s i (omega (arith, o, m)) in
            (w.0, omega (arith, w.1, more), w.2)
      ];
    }

-- .. and nothing else changes
pub went-grey : (h : Heap) (r : ℕ) (marks : List ℕ) (t : ℕ) → LiesIn h r t → get_or marks t 0 ≡ 0 → t < length marks
    → OnlyGreyed h r marks (set marks t 1)
went-grey h r marks t lies white l =
    let same : get_or (set marks t 1) t 0 ≡ 1 = get_or-set_same marks t 1 0 l in
    let other : (s : ℕ) → s ≢ t → get_or (set marks t 1) s 0 ≡ get_or marks s 0 =
    λ s d. get_or-set_other marks t s 1 0 d in
    record {
      grows = λ s m. elim (cases_eq s t) [
        | inl e ↦ let q : get_or (set marks t 1) s 0 ≡ 1 = ap (λ k. get_or (set marks t 1) k 0) e
            ∙ same in omega (arith, q)
        | inr d ↦ let o = other s d in omega (arith, o, m)
      ];
      blacks = λ s i m. elim (cases_eq s t) [
        | inl e ↦ let q : get_or (set marks t 1) s 0 ≡ 1 = ap (λ k. get_or (set marks t 1) k 0) e
            ∙ same in absurd (omega (arith, q, m))
        | inr d ↦ let o = other s d in omega (arith, o, m)
      ];
      count = omega (arith, known-grey h r t marks lies white l);
      fields = fields-grey h r t marks lies white l;
      rest = pending-grey h r t marks lies white l;
      outside = λ s i. elim (cases_eq s t) [
        | inl e ↦ let L : ℕ → Type 0 = λ k. LiesIn h r k in absurd (i (subst L (sym e) lies))
        | inr d ↦ other s d
      ];
    }

pub went-none : (h : Heap) (r : ℕ) (marks : List ℕ) → OnlyGreyed h r marks marks
went-none h r marks = record {
  grows = λ s m. m;
  blacks = λ s i m. m;
  count = omega arith;
  fields = refl;
  rest = refl;
  outside = λ s i. refl;
}

pub went-then : (h : Heap) (r : ℕ) (a b c : List ℕ) → OnlyGreyed h r a b → OnlyGreyed h r b c → OnlyGreyed h r a c
went-then h r a b c p q = record {
  grows = λ s m. q.grows s (p.grows s m);
  blacks = λ s i m. p.blacks s i (q.blacks s i m);
  count = omega (arith, p.count, q.count);
  fields = q.fields ∙ p.fields;
  rest = q.rest ∙ p.rest;
  outside = λ s i. q.outside s i ∙ p.outside s i;
}

-- the first grey cell leaves the list and becomes black
pub popped : (h : Heap) (r : ℕ) (roots : Roots) (marks : List ℕ) (links : List (Option ℕ)) (s : ℕ) (grey : List ℕ)
    → s < length marks
    → TriColour h r roots marks links (Some s) grey → (rest : List ℕ) × LiesIn h r s × (get_or marks s 0 ≡ 1)
    × TriColour h r roots (set marks s 2) links (get_or links s None) rest
popped h r roots marks links s [] l tri = let e : Some s ≡ None = tri.chain in cc
popped h r roots marks links s (x ∷ rest) l tri =
    let e : s ≡ x = same_Some s x tri.chain.0 in
    let L : ℕ → Type 0 = λ k. LiesIn h r k in
    let lies : LiesIn h r s = subst L (sym e) tri.chain.1 in
    let one : get_or marks s 0 ≡ 1 = ap (λ k. get_or marks k 0) e ∙ tri.chain.2 in
    let N : ℕ → Type 0 = λ k. Has rest k → ⊥ in
    let off : Has rest s → ⊥ = subst N (sym e) tri.chain.3 in
    let differs : (k : ℕ) → Has rest k → k ≢ s = λ k q d. let P : ℕ → Type 0 = λ z. Has rest z in off (subst P d q) in
    let same : get_or (set marks s 2) s 0 ≡ 2 = get_or-set_same marks s 2 0 l in
    let other : (k : ℕ) → k ≢ s → get_or (set marks s 2) k 0 ≡ get_or marks k 0 =
    λ k d. get_or-set_other marks s k 2 0 d in
    let count : known_count h r (set marks s 2) ≡ known_count h r marks = known-black h r s marks lies one l in
    let C : ℕ → Type 0 = λ k. GreyChain h r marks links (get_or links k None) rest in (
      rest,
      lies,
      one,
      record {
        chain = chain-agree h r marks (set marks s 2) links links (get_or links s None) rest
            (λ k q. other k (differs k q)) (λ k q. refl)
            (subst C (sym e) tri.chain.4);
        listed = λ k i m. elim (cases_eq k s) [
          | inl d ↦ let q : get_or (set marks s 2) k 0 ≡ 2 = ap (λ z. get_or (set marks s 2) z 0) d ∙ same in
              absurd (omega (arith, q, m))
          | inr d ↦ elim (tri.listed k i (sym (other k d) ∙ m)) [ inl z ↦ absurd (d (z ∙ sym e)) | inr z ↦ z ]
        ];
        walked = λ k i m. elim (cases_eq k s) [
          | inl d ↦ let q : get_or marks k 0 ≡ 1 = ap (λ z. get_or marks z 0) d
              ∙ one in let w = tri.walked k i (omega (arith, q)) in (w.0, omega (arith, w.1, count), w.2)
          | inr d ↦ let o = other k d in let w = tri.walked k i (omega (arith, o, m)) in
              (w.0, omega (arith, w.1, count), w.2)
        ];
      },
    )

-- at the end what is marked is what is in reach
pub reached-marked : (h : Heap) (r : ℕ) (roots : Roots) (marks : List ℕ) (links : List (Option ℕ)) (grey : List ℕ)
    → TriColour h r roots marks links None grey → BlackDone h r marks
    → ((s : ℕ) → Walk h r roots zero s → 0 < get_or marks s 0) → (n s : ℕ)
    → Walk h r roots n s → 0 < get_or marks s 0
reached-marked h r roots marks links grey tri done first zero s w = first s w
reached-marked h r roots marks links grey tri done first (suc n) s w =
    let p = w.1.0 in
    let k = w.1.1 in
    let m : 0 < get_or marks p 0 = reached-marked h r roots marks links grey tri done first n p w.1.2 in
    let lies : LiesIn h r p = walk-lies h r roots n p w.1.2 in
    let no_grey : get_or marks p 0 ≢ 1 = λ e. none_listed h r marks links grey p tri.chain (tri.listed p lies e) in
    done p k lies (omega arith) s w.1.3 w.0
  where
    walk-lies : (h : Heap) (r : ℕ) (roots : Roots) (n s : ℕ) → Walk h r roots n s → LiesIn h r s
    walk-lies h r roots zero s w = w.0
    walk-lies h r roots (suc n) s w = w.0

    none_listed : (h : Heap) (r : ℕ) (marks : List ℕ) (links : List (Option ℕ)) (grey : List ℕ) (s : ℕ)
        → GreyChain h r marks links None grey
        → Has grey s → ⊥
    none_listed h r marks links [] s c q = q
    none_listed h r marks links (x ∷ grey) s c q = let e : None ≡ Some x = c.0 in cc

-- .. and no cell is grey
pub none-grey : (h : Heap) (r : ℕ) (roots : Roots) (marks : List ℕ) (links : List (Option ℕ)) (grey : List ℕ)
    → TriColour h r roots marks links None grey → (s : ℕ) → LiesIn h r s → get_or marks s 0 ≢ 1
none-grey h r roots marks links [] tri s lies e = tri.listed s lies e
none-grey h r roots marks links (x ∷ grey) tri s lies e = let q : None ≡ Some x = tri.chain.0 in cc

pub walk-lies : (h : Heap) (r : ℕ) (roots : Roots) (n s : ℕ) → Walk h r roots n s → LiesIn h r s
walk-lies h r roots zero s w = w.0
walk-lies h r roots (suc n) s w = w.0

pub marked-reached : (h : Heap) (r : ℕ) (roots : Roots) (marks : List ℕ) (links : List (Option ℕ)) (head : Option ℕ)
    (grey : List ℕ) (s : ℕ)
    → TriColour h r roots marks links head grey → LiesIn h r s → 0 < get_or marks s 0 → Reach h r roots s
marked-reached h r roots marks links head grey s tri lies m =
    let w = tri.walked s lies m in (w.0, omega (arith, w.1, known-size h r marks), w.2)
