-- Each turn of the plan: where the next member goes (docs/architecture.md, "A manager that moves its cells").
use Rattle.std.proofs.Common.{◌≡◌, ◌≢◌, ℕ, ◌+◌, ◌<◌, ◌≤◌, List, length, Option, Some, None, ap, sym, ◌∙◌, subst}
use Rattle.std.proofs.Common.{arith, ◌⊎◌, inl, inr, get_or, set, slice_get}
use Rattle.std.proofs.lemmas.List.{get_or-set_same, get_or-set_other}
use Rattle.std.proofs.lemmas.Bool.{cases_eq, cases_lt}
use Rattle.std.proofs.lemmas.Option.{slice_get_within, slice_get-get_or, same_Some, none-some}
use Rattle.rg_cells.specs.Table.{Heap, Table, mark_at, link_at}
use Rattle.rg_regions.specs.Reach.{LiesIn}
use Rattle.rg_regions.specs.Grove.{Members}
use Rattle.rg_copy.specs.Inner.Plans.{Rises, FreePlace, Planned, Plan, Plans}
use Rattle.rg_copy.specs.Inner.Shifts.{Downward}

pub bridge-cases : (b : Option ℕ) (s : ℕ) → (b ≡ Some s) ⊎ (b ≢ Some s)
bridge-cases None s = inr (λ e. cc)
bridge-cases (Some a) s = elim (cases_eq a s) [
  | inl e ↦ inl (ap Some e)
  | inr d ↦ inr (λ e. d (same_Some a s e))
]

module _ (c t new : Table) (r : ℕ) (members : List ℕ) (bridge : Option ℕ) (i free slot : ℕ) (ms : Members c.heap r members)
    (at : slice_get members i ≡ Some slot) (w : Planned c members bridge i free t) where
  off : (j s : ℕ) → slice_get members j ≡ Some s → j ≢ i → s ≢ slot
  off j s e d q = d (ms.once j i slot (e ∙ ap Some q) at)

  is_slot : (j s : ℕ) → slice_get members j ≡ Some s → j ≡ i → s ≡ slot
  is_slot j s e q = same_Some s slot (sym e ∙ ap (slice_get members) q ∙ at)

  -- to which slots links of earlier members lead
  known : (k x d : ℕ) → k < i → slice_get members k ≡ Some x → link_at t x ≡ Some d
      → ((x ≡ d) × (bridge ≡ Some d))
      ⊎ ((m : ℕ) × (m < free) × (slice_get members m ≡ Some d) × (bridge ≢ Some d))
  known k x d l e h = elim (cases_eq (mark_at c x) 0) [
    | inl z ↦ absurd (none-some d (sym (w.white k x l e z) ∙ h))
    | inr z ↦ elim (bridge-cases bridge x) [
      | inl b ↦
          let q : x ≡ d = same_Some x d (sym (w.bridge_stays k x l e z b) ∙ h) in
          inl (q, b ∙ ap Some q)
      | inr b ↦
          let g = w.goes k x l e z b in
          let q : g.1 ≡ d = same_Some g.1 d (sym g.6 ∙ h) in
          inr (g.0, g.2, g.4 ∙ ap Some q, λ y. g.5 (y ∙ ap Some (sym q)))
    ]
  ]

  module _ (v : Option ℕ) (within : slot < length t.links) (n : new ≡ record t { links = set t.links slot v }) where
    here : link_at new slot ≡ v
    here = ap (λ (z : Table). link_at z slot) n ∙ get_or-set_same t.links slot v None within

    there : (s : ℕ) → s ≢ slot → link_at new s ≡ link_at t s
    there s d = ap (λ (z : Table). link_at z s) n ∙ get_or-set_other t.links slot s v None d

    heap_is : new.heap ≡ c.heap
    heap_is = ap (λ (z : Table). z.heap) n ∙ w.heap

    marks_is : new.marks ≡ c.marks
    marks_is = ap (λ (z : Table). z.marks) n ∙ w.marks

    others_are : (s : ℕ) → ((j : ℕ) → slice_get members j ≡ Some s → ⊥) → link_at new s ≡ link_at c s
    others_are s k = there s (λ q. k i (at ∙ ap Some (sym q))) ∙ w.others s k

    -- what was planned for earlier members
    goes_old : (j s : ℕ) → j ≢ i → j < i + 1 → slice_get members j ≡ Some s → mark_at c s ≢ 0 → bridge ≢ Some s
        → (m d : ℕ) × (m < free) × (m ≤ j) × (slice_get members m ≡ Some d) × (bridge ≢ Some d)
        × (link_at new s ≡ Some d)
    goes_old j s d l g k b =
        let a = w.goes j s (omega (arith, l, d)) g k b in
        (a.0, a.1, a.2, a.3, a.4, a.5, there s (off j s g d) ∙ a.6)

    filled_old : (m d : ℕ) → m < free → slice_get members m ≡ Some d → bridge ≢ Some d
        → (j s : ℕ) × (j < i + 1) × (slice_get members j ≡ Some s) × (mark_at c s ≢ 0) × (bridge ≢ Some s)
        × (link_at new s ≡ Some d)
    filled_old k d l g b =
        let a = w.filled k d l g b in
        let q : a.0 ≢ i = λ z. omega (arith, z, a.2) in
        (a.0, a.1, omega (arith, a.2), a.3, a.4, a.5, there a.1 (off a.0 a.1 a.3 q) ∙ a.6)

    apart_old : (j k s x d : ℕ) → j ≢ i → k ≢ i → j < i + 1 → k < i + 1 → slice_get members j ≡ Some s
        → slice_get members k ≡ Some x → link_at new s ≡ Some d → link_at new x ≡ Some d → j ≡ k
    apart_old j k s x d q z l u g h a b =
        w.apart j k s x d (omega (arith, l, q)) (omega (arith, u, z)) g h (sym (there s (off j s g q)) ∙ a)
        (sym (there x (off k x h z)) ∙ b)

    -- a slot to which no earlier member goes is the new member's alone
    apart_new : (to : ℕ) → v ≡ Some to
        → ((k x d : ℕ) → k < i → slice_get members k ≡ Some x → link_at t x ≡ Some d → d ≡ to → ⊥) → (j k s x d : ℕ)
        → j < i + 1 → k < i + 1 → slice_get members j ≡ Some s → slice_get members k ≡ Some x → link_at new s ≡ Some d
        → link_at new x ≡ Some d → j ≡ k
    apart_new to e none j k s x d l u g h a b = elim (cases_eq j i) [
      | inl q ↦ elim (cases_eq k i) [
        | inl z ↦ q ∙ sym z
        | inr z ↦
            let y : to ≡ d = same_Some to d (sym e ∙ sym here ∙ ap (link_at new) (sym (is_slot j s g q)) ∙ a) in
            absurd (none k x d (omega (arith, u, z)) h (sym (there x (off k x h z)) ∙ b) (sym y))
      ]
      | inr q ↦ elim (cases_eq k i) [
        | inl z ↦
            let y : to ≡ d = same_Some to d (sym e ∙ sym here ∙ ap (link_at new) (sym (is_slot k x h z)) ∙ b) in
            absurd (none j s d (omega (arith, l, q)) g (sym (there s (off j s g q)) ∙ a) (sym y))
        | inr z ↦ apart_old j k s x d q z l u g h a b
      ]
    ]

    -- a white member goes nowhere
    pub plan-white : mark_at c slot ≡ 0 → v ≡ None → Planned c members bridge (i + 1) free new
    plan-white m e = record {
      heap = heap_is;
      marks = marks_is;
      behind = omega (arith, w.behind);
      white = λ j s l g k. elim (cases_eq j i) [
        | inl q ↦ ap (link_at new) (is_slot j s g q) ∙ here ∙ e
        | inr d ↦ there s (off j s g d) ∙ w.white j s (omega (arith, l, d)) g k
      ];
      bridge_stays = λ j s l g k b. elim (cases_eq j i) [
        | inl q ↦ absurd (k (ap (mark_at c) (is_slot j s g q) ∙ m))
        | inr d ↦ there s (off j s g d) ∙ w.bridge_stays j s (omega (arith, l, d)) g k b
      ];
      goes = λ j s l g k b. elim (cases_eq j i) [
        | inl q ↦ absurd (k (ap (mark_at c) (is_slot j s g q) ∙ m))
        | inr d ↦ goes_old j s d l g k b
      ];
      filled = filled_old;
      apart = λ j k s x d l u g h a b. elim (cases_eq j i) [
        | inl q ↦ absurd (none-some d (sym (ap (link_at new) (is_slot j s g q) ∙ here ∙ e) ∙ a))
        | inr q ↦ elim (cases_eq k i) [
          | inl z ↦ absurd (none-some d (sym (ap (link_at new) (is_slot k x h z) ∙ here ∙ e) ∙ b))
          | inr z ↦ apart_old j k s x d q z l u g h a b
        ]
      ];
      others = others_are;
    }

    -- the bridge stays
    pub plan-bridge : mark_at c slot ≢ 0 → bridge ≡ Some slot → v ≡ Some slot → Planned c members bridge (i + 1) free new
    plan-bridge m is e =
        let none : (k x d : ℕ) → k < i → slice_get members k ≡ Some x → link_at t x ≡ Some d → d ≡ slot → ⊥ =
        λ k x d l g h q. elim (known k x d l g h) [
          | inl a ↦ off k x g (λ z. omega (arith, z, l)) (a.0 ∙ q)
          | inr a ↦ a.3 (is ∙ ap Some (sym q))
        ] in
        record {
          heap = heap_is;
          marks = marks_is;
          behind = omega (arith, w.behind);
          white = λ j s l g k. elim (cases_eq j i) [
            | inl q ↦ absurd (m (ap (mark_at c) (sym (is_slot j s g q)) ∙ k))
            | inr d ↦ there s (off j s g d) ∙ w.white j s (omega (arith, l, d)) g k
          ];
          bridge_stays = λ j s l g k b. elim (cases_eq j i) [
            | inl q ↦ ap (link_at new) (is_slot j s g q) ∙ here ∙ e ∙ ap Some (sym (is_slot j s g q))
            | inr d ↦ there s (off j s g d) ∙ w.bridge_stays j s (omega (arith, l, d)) g k b
          ];
          goes = λ j s l g k b. elim (cases_eq j i) [
            | inl q ↦ absurd (b (is ∙ ap Some (sym (is_slot j s g q))))
            | inr d ↦ goes_old j s d l g k b
          ];
          filled = filled_old;
          apart = apart_new slot e none;
          others = others_are;
        }

    -- another black member goes to the next free place
    pub plan-goes : (to d0 : ℕ) → mark_at c slot ≢ 0 → bridge ≢ Some slot → v ≡ Some d0
        → slice_get members to ≡ Some d0 → bridge ≢ Some d0 → free ≤ to → to ≤ i
        → ((m d : ℕ) → m < to + 1 → slice_get members m ≡ Some d → bridge ≢ Some d → (m < free) ⊎ (d ≡ d0))
        → Planned c members bridge (i + 1) (to + 1) new
    plan-goes to d0 m is e p off0 low high next =
        let none : (k x d : ℕ) → k < i → slice_get members k ≡ Some x → link_at t x ≡ Some d → d ≡ d0 → ⊥ =
        λ k x d l g h q. elim (known k x d l g h) [
          | inl a ↦ off0 (a.1 ∙ ap Some q)
          | inr a ↦ let z : a.0 ≡ to = ms.once a.0 to d0 (a.2 ∙ ap Some q) p in omega (arith, z, a.1, low)
        ] in
        record {
          heap = heap_is;
          marks = marks_is;
          behind = omega (arith, high);
          white = λ j s l g k. elim (cases_eq j i) [
            | inl q ↦ absurd (m (ap (mark_at c) (sym (is_slot j s g q)) ∙ k))
            | inr d ↦ there s (off j s g d) ∙ w.white j s (omega (arith, l, d)) g k
          ];
          bridge_stays = λ j s l g k b. elim (cases_eq j i) [
            | inl q ↦ absurd (is (b ∙ ap Some (is_slot j s g q)))
            | inr d ↦ there s (off j s g d) ∙ w.bridge_stays j s (omega (arith, l, d)) g k b
          ];
          goes = λ j s l g k b. elim (cases_eq j i) [
            | inl q ↦ (
              to,
              d0,
              omega arith,
              omega (arith, high, q),
              p,
              off0,
              ap (link_at new) (is_slot j s g q) ∙ here ∙ e,
            )
            | inr d ↦
                let a = w.goes j s (omega (arith, l, d)) g k b in
                (a.0, a.1, omega (arith, a.2, low), a.3, a.4, a.5, there s (off j s g d) ∙ a.6)
          ];
          filled = λ k d l g b. elim (next k d l g b) [
            | inl y ↦ filled_old k d y g b
            | inr y ↦ (i, slot, omega arith, at, m, is, here ∙ e ∙ ap Some (sym y))
          ];
          apart = apart_new d0 e none;
          others = others_are;
        }

-- the free place at which a member that isn't the bridge finds room
pub free-below : (members : List ℕ) (bridge : Option ℕ) (i free to slot : ℕ) → slice_get members i ≡ Some slot
    → bridge ≢ Some slot → free ≤ i → FreePlace members bridge free to → to ≤ i
free-below members bridge i free to slot at is low f = elim (cases_eq free i) [
  | inl q ↦ let z = f.near slot (ap (slice_get members) q ∙ at) is in omega (arith, z, q)
  | inr d ↦ omega (arith, d, low, f.next)
]

pub free-next : (members : List ℕ) (bridge : Option ℕ) (free to d0 : ℕ)
    → slice_get members to ≡ Some d0 → FreePlace members bridge free to → (m d : ℕ) → m < to + 1
    → slice_get members m ≡ Some d → bridge ≢ Some d → (m < free) ⊎ (d ≡ d0)
free-next members bridge free to d0 p f m d l e b = elim (cases_lt m free) [
  | inl q ↦ inl q
  | inr q ↦
      let z : m ≡ to = elim (cases_eq m free) [
        | inl y ↦ let x = f.near d (ap (slice_get members) (sym y) ∙ e) b in y ∙ sym x
        | inr y ↦ omega (arith, q, y, l, f.next)
      ] in
      inr (same_Some d d0 (sym e ∙ ap (slice_get members) z ∙ p))
]

pub free-off : (c : Table) (r : ℕ) (members : List ℕ) (bridge : Option ℕ) (free to d0 : ℕ) → Members c.heap r members
    → slice_get members to ≡ Some d0 → FreePlace members bridge free to → bridge ≢ Some d0
free-off c r members bridge free to d0 ms p f b = elim (cases_eq to free) [
  | inl q ↦ let z = f.past d0 (ap (slice_get members) (sym q) ∙ p) b in omega (arith, z, q)
  | inr q ↦
      let l = slice_get_within members to d0 p in
      let e = slice_get-get_or members free 0 (omega (arith, l, f.from)) in
      elim (bridge-cases bridge (get_or members free 0)) [
        | inl y ↦
            let z : get_or members free 0 ≡ d0 = same_Some (get_or members free 0) d0 (sym y ∙ b) in
            absurd (q (sym (ms.once free to d0 (e ∙ ap Some z) p)))
        | inr y ↦ absurd (q (f.near (get_or members free 0) e y))
      ]
]

-- behind the last turn
pub plan-whole : (c t : Table) (r : ℕ) (members : List ℕ) (bridge : Option ℕ) (free : ℕ) → Members c.heap r members
    → Rises members → Planned c members bridge (length members) free t → Plans c r bridge t
plan-whole c t r members bridge free ms rise w =
    let place : (s : ℕ) → LiesIn c.heap r s → (j : ℕ) × (j < length members) × (slice_get members j ≡ Some s) = λ s l.
    let a = ms.all s l in (a.0, slice_get_within members a.0 s a.1, a.1) in
    let mark : (s : ℕ) → mark_at t s ≡ mark_at c s = λ s. ap (λ (ks : List ℕ). get_or ks s 0) w.marks in
    let black : (s d : ℕ) → LiesIn c.heap r s → link_at t s ≡ Some d → mark_at c s ≢ 0 = λ s d l e z.
    let a = place s l in none-some d (sym (w.white a.0 s a.1 a.2 z) ∙ e) in
    record {
      heap = w.heap;
      marks = w.marks;
      plan = record {
        white = λ s l m. let a = place s l in w.white a.0 s a.1 a.2 (sym (mark s) ∙ m);
        goes = λ s l m.
            let a = place s l in
            let k : mark_at c s ≢ 0 = λ z. m (mark s ∙ z) in
            elim (bridge-cases bridge s) [
              | inl b ↦ (s, w.bridge_stays a.0 s a.1 a.2 k b, l, omega arith)
              | inr b ↦
                  let g = w.goes a.0 s a.1 a.2 k b in
                  (g.1, g.6, ms.lie g.0 g.1 g.4, rise g.0 a.0 g.1 s g.3 g.4 a.2)
            ];
        bridge_stays = λ s l m b.
            let a = place s l in w.bridge_stays a.0 s a.1 a.2 (λ z. m (mark s ∙ z)) b;
        apart = λ s x d l k e f.
            let a = place s l in
            let b = place x k in
            let q : a.0 ≡ b.0 = w.apart a.0 b.0 s x d a.1 b.1 a.2 b.2 e f in
            same_Some s x (sym a.2 ∙ ap (slice_get members) q ∙ b.2);
        lowest = λ s x d l n k m e low.
            let a = place s l in
            let b = place x k in
            let g = w.goes b.0 x b.1 b.2 (black x d k e) m in
            let q : g.1 ≡ d = same_Some g.1 d (sym g.6 ∙ e) in
            let before : a.0 < g.0 = elim (cases_lt a.0 g.0) [
              | inl y ↦ y
              | inr y ↦ let z = rise g.0 a.0 g.1 s y g.4 a.2 in absurd (omega (arith, z, q, low))
            ] in
            let f = w.filled a.0 s (omega (arith, before, g.2)) a.2 n in
            (f.1, ms.lie f.0 f.1 f.3, f.6);
      };
      others = λ s n. w.others s (λ j e. n (ms.lie j s e));
    }

-- where links lead, for the turns in which cells change places
pub plan-down : (h : Heap) (r : ℕ) (bridge : Option ℕ) (t : Table) → Plan h r bridge t → Downward h r t
plan-down h r bridge t w = record {
  down = λ s d l e. elim (cases_eq (mark_at t s) 0) [
    | inl z ↦ absurd (none-some d (sym (w.white s l z) ∙ e))
    | inr z ↦
        let g = w.goes s l z in
        let q : g.0 ≡ d = same_Some g.0 d (sym g.1 ∙ e) in
        let L : ℕ → Type 0 = λ y. LiesIn h r y in
        (subst L q g.2, omega (arith, q, g.3))
  ];
  apart = w.apart;
}
