-- Each turn of counting down.
use Rattle.std.proofs.Common.{◌≡◌, ◌≢◌, ℕ, ◌+◌, ◌-◌, ◌<◌, ◌≤◌, ◌⊎◌, zero, suc, Bool, true, false, cond, List, [], ◌∷◌}
use Rattle.std.proofs.Common.{length, Option, Some, None, get_or, set, count_by, drop, refl, ap, sym, ◌∙◌, subst, arith}
use Rattle.std.proofs.Common.{inl, inr, slice_get, option_and_then, eq-eqb}
use Rattle.std.proofs.lemmas.List.{get_or-set_same, get_or-set_other}
use Rattle.std.proofs.lemmas.Bool.{cases_eq, false≢true}
use Rattle.std.proofs.lemmas.Bool.Decides.{eqb_tells}
use Rattle.std.proofs.lemmas.List.Sums.{sum_by-cons, sum_by-drop_more}
use Rattle.std.proofs.lemmas.Option.{slice_get_within, get_or_from_slice_get, same_Some}
use Rattle.rg_cells.specs.declared.cell.Body.{Body}
use Rattle.rg_base.specs.declared.value.Word.{Word}
use Rattle.rg_base.specs.declared.value.Word.TheVariants.{Nil, Int, Bool as Truth, Slot}
use Rattle.rg_cells.specs.Table.{Heap, Table, body_at, body_in, field_at, mark_at, link_at, total, width}
use Rattle.rg_regions.specs.Table.{Has, Chained}
use Rattle.rg_regions.specs.Reach.{LiesIn, Roots, Stands, belongs}
use Rattle.rg_regions.specs.Grove.{leads_to, referrers}
use Rattle.rg_regions.proofs.Callers.Fewer.{lies_belongs}
use Rattle.rg_regions.proofs.Callers.Chain.{chained_agree}
use Rattle.rg_count.specs.Inner.Counting.{words_of, weight, paid, owed, nothing, Spends, Counts, Lowers, Lowered}
use Rattle.rg_regions.proofs.Callers.Shares.{Distinct, parted-le, parted-more, has-cases}

pub referrers-total : (h : Heap) (r s : ℕ) → referrers h r s ≡ total (weight r s) h.slots
referrers-total h r s = total-same _ (weight r s) (λ b. by_body b) h.slots
  where
    by_body : (b : Option Body) → cond {A = ℕ} (belongs r b)
        (elim b [ None ↦ 0 | Some b ↦ count_by (leads_to s) b.fields ]) 0 ≡ weight r s b
    by_body None = refl
    by_body (Some b) = refl

    total-same : (f g : Option Body → ℕ) → ((b : Option Body) → f b ≡ g b) → (xs : List (Option (Option Body)))
        → total f xs ≡ total g xs
    total-same f g e [] = refl
    total-same f g e (x ∷ xs) = omega (arith, e (body_in x), total-same f g e xs)

-- a word that leads to a slot
pub leads-is : (s : ℕ) (w : Word) → leads_to s w ≡ true → w ≡ Slot s
leads-is s Nil e = absurd (false≢true e)
leads-is s (Int i) e = absurd (false≢true e)
leads-is s (Truth b) e = absurd (false≢true e)
leads-is s (Slot x) e = elim (eqb_tells s x) [ inl q ↦ ap Slot (sym q.1) | inr q ↦ absurd (false≢true (sym q.0 ∙ e)) ]

leads-self : (s : ℕ) → leads_to s (Slot s) ≡ true
leads-self s = eq-eqb s s refl

leads-other : (s x : ℕ) → x ≢ s → leads_to x (Slot s) ≡ false
leads-other s x d = elim (eqb_tells x s) [ inl q ↦ absurd (d q.1) | inr q ↦ q.0 ]

one_if : Bool → ℕ
one_if b = cond b 1 0

-- a list of words with one that leads to a slot
count-has : (s : ℕ) (ws : List Word) (k : ℕ) → slice_get ws k ≡ Some (Slot s) → 0 < count_by (leads_to s) ws
count-has s [] k e = cc
count-has s (w ∷ ws) zero e =
    let q : w ≡ Slot s = same_Some w (Slot s) e in
    let a : cond {A = ℕ} (leads_to s w) 1 0 ≡ 1 = ap (λ z. cond {A = ℕ} (leads_to s z) 1 0) q
    ∙ ap (λ b. cond {A = ℕ} b 1 0) (leads-self s) in
    omega (arith, sum_by-cons (λ z. cond {A = ℕ} (leads_to s z) 1 0) w ws, a)
count-has s (w ∷ ws) (suc k) e =
    let ih = count-has s ws k e in
    omega (arith, sum_by-cons (λ z. cond {A = ℕ} (leads_to s z) 1 0) w ws, ih)

fields-of : (b : Option Body) (k : ℕ) (w : Word) → option_and_then (λ (b : Body). slice_get b.fields k) b ≡ Some w
    → slice_get (words_of b) k ≡ Some w
fields-of None k w e = cc
fields-of (Some b) k w e = e

-- a referrer weighs
pub weighs : (h : Heap) (r s p k : ℕ) → LiesIn h r p → field_at h p k ≡ Some (Slot s) → 0 < weight r s (body_at h p)
weighs h r s p k l f =
    let b : belongs r (body_at h p) ≡ true = lies_belongs r (body_at h p) l in
    let n = count-has s (words_of (body_at h p)) k (fields-of (body_at h p) k (Slot s) f) in
    let e : weight r s (body_at h p) ≡ count_by (leads_to s) (words_of (body_at h p)) =
    ap (λ c. cond {A = ℕ} c (count_by (leads_to s) (words_of (body_at h p))) 0) b in
    omega (arith, n, e)

-- all fields of a cell are owed
pub owed-all : (h : Heap) (r s p : ℕ) → LiesIn h r p → owed h p 0 s ≡ weight r s (body_at h p)
owed-all h r s p l = sym (ap (λ c. cond {A = ℕ} c (count_by (leads_to s) (words_of (body_at h p))) 0)
    (lies_belongs r (body_at h p) l))

-- one field less is owed
pub owed-next : (h : Heap) (p k : ℕ) (w : Word) → field_at h p k ≡ Some w → (s : ℕ)
    → owed h p k s ≡ cond {A = ℕ} (leads_to s w) 1 0 + owed h p (k + 1) s
owed-next h p k w f s =
    let g = fields-of (body_at h p) k w f in
    let l = slice_get_within (words_of (body_at h p)) k w g in
    let e : get_or (words_of (body_at h p)) k w ≡ w = get_or_from_slice_get (words_of (body_at h p)) k w w g in
    sum_by-drop_more (λ z. cond {A = ℕ} (leads_to s z) 1 0) (words_of (body_at h p)) k w l
    ∙ ap (λ z. cond {A = ℕ} (leads_to s z) 1 0 + owed h p (k + 1) s) e

-- nothing is owed behind the last field
pub owed-none : (h : Heap) (p s : ℕ) → owed h p (width (body_at h p)) s ≡ 0
owed-none h p s = by_body (body_at h p)
  where
    none : (ws : List Word) → count_by (leads_to s) (drop (length ws) ws) ≡ 0
    none [] = refl
    none (w ∷ ws) = none ws

    by_body : (b : Option Body) → count_by (leads_to s) (drop (width b) (words_of b)) ≡ 0
    by_body None = refl
    by_body (Some b) = none b.fields

pub spends-distinct : (h : Heap) (r : ℕ) (roots : Roots) (done : List ℕ) → Spends h r roots done → Distinct done
spends-distinct h r roots [] w = w
spends-distinct h r roots (s ∷ done) w = (w.2, spends-distinct h r roots done w.4)

pub spends-lie : (h : Heap) (r : ℕ) (roots : Roots) (done : List ℕ) → Spends h r roots done → (s : ℕ) → Has done s
    → LiesIn h r s
spends-lie h r roots [] w s m = absurd m
spends-lie h r roots (x ∷ done) w s m = elim m [
  | inl e ↦ let L : ℕ → Type 0 = λ y. LiesIn h r y in subst L (sym e) w.0
  | inr n ↦ spends-lie h r roots done w.4 s n
]

-- what is done pays at most what all referrers are
pub paid-le : (h : Heap) (r : ℕ) (roots : Roots) (done : List ℕ) (s : ℕ) → Spends h r roots done
    → paid h r s done ≤ referrers h r s
paid-le h r roots done s w = let a = parted-le (weight r s) refl h.slots done (spends-distinct h r roots done w) in
    omega (arith, a, referrers-total h r s)

-- a cell without a count has no referrer that isn't done
pub all-done : (h : Heap) (r : ℕ) (roots : Roots) (done : List ℕ) (s p k : ℕ) → Spends h r roots done
    → paid h r s done ≡ referrers h r s → LiesIn h r p → field_at h p k ≡ Some (Slot s) → Has done p
all-done h r roots done s p k w e l f = elim (has-cases done p) [
  | inl m ↦ m
  | inr n ↦
      let a = parted-more (weight r s) refl h.slots done p (spends-distinct h r roots done w) n in
      let b = weighs h r s p k l f in
      absurd (omega (arith, a, b, e, referrers-total h r s))
]

-- the head stands in the list
pub chained-head : (links : List (Option ℕ)) (head : Option ℕ) (keys : List ℕ) (s : ℕ) → Chained links head keys
    → head ≡ Some s → Has keys s
chained-head links head [] s c e = let q : None ≡ Some s = sym c ∙ e in cc
chained-head links head (x ∷ keys) s c e = inl (same_Some s x (sym e ∙ c.0))

-- where as much is owed of each cell of the region, the same counts
pub count-done : (h : Heap) (r : ℕ) (roots : Roots) (first : Table) (was rest : ℕ → ℕ) (done zeros : List ℕ) (t : Table)
    (head : Option ℕ) → ((s : ℕ) → LiesIn h r s → was s ≡ rest s) → Counts h r roots first was done zeros t head
    → Counts h r roots first rest done zeros t head
count-done h r roots first was rest done zeros t head e c = record {
  heap = c.heap;
  sum = λ x l. omega (arith, c.sum x l, e x l);
  spends = c.spends;
  chain = c.chain;
  zero_lies = c.zero_lies;
  zero_mark = c.zero_mark;
  zero_root = c.zero_root;
  zero_done = c.zero_done;
  done_mark = c.done_mark;
  all = c.all;
  rooted = c.rooted;
  only = c.only;
  outside = c.outside;
}

-- a word of the cell at work was looked at
pub count-turn : (h : Heap) (r : ℕ) (roots : Roots) (first : Table) (was rest : ℕ → ℕ) (done zeros : List ℕ)
    (old new : Table) (head result : Option ℕ) (w : Word) → ((s : ℕ) → was s ≡ cond {A = ℕ} (leads_to s w) 1 0 + rest s)
    → Lowers r w head result old new → Counts h r roots first was done zeros old head
    → (now : List ℕ) × Counts h r roots first rest done now new result
count-turn h r roots first was rest done zeros old new head result w less g c = elim g [
  | inl p ↦
      let C : Table → Option ℕ → Type 0 = λ t o. Counts h r roots first rest done zeros t o in
      let C1 : Table → Type 0 = λ t. C t head in
      let C2 : Option ℕ → Type 0 = λ o. C new o in (
        zeros,
        subst C2 (sym p.head_is) (subst C1 (sym p.same) (count-done h r roots first was rest done zeros old head (λ x l.
            let off : leads_to x w ≡ false = elim (bool-cases (leads_to x w)) [
              | inl y ↦ let L : Heap → Type 0 = λ z. LiesIn z r x in absurd (p.none x (leads-is x w y) (subst L (sym c.heap) l))
              | inr y ↦ y
            ] in
            let z : cond {A = ℕ} (leads_to x w) 1 0 ≡ 0 = ap (λ b. cond {A = ℕ} b 1 0) off in
            omega (arith, less x, z)) c)),
      )
  | inr q ↦ elim q [
    | inl p ↦
        let L : Heap → Type 0 = λ z. LiesIn z r p.slot in
        let lies : LiesIn h r p.slot = subst L c.heap p.lies in
        let f = facts p.slot p.leads lies p.within (ap (λ (t : Table). t.marks) p.new_is) in
        let C2 : Option ℕ → Type 0 = λ o. Counts h r roots first rest done zeros new o in
        let links : (x : ℕ) → link_at new x ≡ link_at old x = λ x. ap (λ (t : Table). link_at t x) p.new_is in (
          zeros,
          subst C2 (sym p.head_is) (record {
            heap = ap (λ (t : Table). t.heap) p.new_is ∙ c.heap;
            sum = f.1;
            spends = c.spends;
            chain = let P : List (Option ℕ) → Type 0 = λ z. Chained z head zeros in
                subst P (sym (ap (λ (t : Table). t.links) p.new_is)) c.chain;
            zero_lies = c.zero_lies;
            zero_mark = λ x m. f.3 x (c.zero_mark x m);
            zero_root = c.zero_root;
            zero_done = c.zero_done;
            done_mark = λ x m. f.3 x (c.done_mark x m);
            all = λ x l z n. elim (cases_eq x p.slot) [
              | inl e ↦ elim (p.stays) [
                | inl d ↦ absurd (d (sym f.2 ∙ ap (mark_at new) (sym e) ∙ z))
                | inr s ↦ absurd (n (c.only x l (ap (link_at old) e ∙ s ∙ ap Some (sym e))))
              ]
              | inr d ↦ c.all x l (sym (f.4 x d) ∙ z) n
            ];
            rooted = λ x l s. links x ∙ c.rooted x l s;
            only = λ x l e. c.only x l (sym (links x) ∙ e);
            outside = λ x n.
                let M : ℕ → Type 0 = λ z. LiesIn h r z in
                let o = c.outside x n in
                (f.4 x (λ e. n (subst M (sym e) lies)) ∙ o.0, links x ∙ o.1);
          }),
        )
    | inr p ↦
        let L : Heap → Type 0 = λ z. LiesIn z r p.slot in
        let lies : LiesIn h r p.slot = subst L c.heap p.lies in
        let f = facts p.slot p.leads lies p.within (ap (λ (t : Table). t.marks) p.new_is) in
        let C2 : Option ℕ → Type 0 = λ o. Counts h r roots first rest done (p.slot ∷ zeros) new o in
        let fresh : Has zeros p.slot → ⊥ = λ m. omega (arith, f.0, c.zero_mark p.slot m) in
        let self : link_at new p.slot ≡ head = ap (λ (t : Table). link_at t p.slot) p.new_is
        ∙ get_or-set_same old.links p.slot head None p.in_links in
        let other : (x : ℕ) → x ≢ p.slot
        → link_at new x ≡ link_at old x = λ x d. ap (λ (t : Table). link_at t x) p.new_is
        ∙ get_or-set_other old.links p.slot x head None d in
        let no_root : Stands h roots p.slot → ⊥ = λ s. p.no_root (c.rooted p.slot lies s) in
        let M : ℕ → Type 0 = λ z. LiesIn h r z in
        let D : ℕ → Type 0 = λ z. Has done z in
        let Z : ℕ → Type 0 = λ z. Has zeros z in
        let S : ℕ → Type 0 = λ z. Stands h roots z in
        let C : Option ℕ → Type 0 = λ o. Chained new.links o zeros in (
          p.slot ∷ zeros,
          subst C2 (sym p.head_is) (record {
            heap = ap (λ (t : Table). t.heap) p.new_is ∙ c.heap;
            sum = f.1;
            spends = c.spends;
            chain = (
              refl,
              fresh,
              subst C (sym self)
                  (chained_agree old.links new.links head zeros (λ k m. other k (λ e. fresh (subst Z e m))) c.chain),
            );
            zero_lies = λ x m. elim m [ inl e ↦ subst M (sym e) lies | inr n ↦ c.zero_lies x n ];
            zero_mark = λ x m. elim m [ inl e ↦ ap (mark_at new) e ∙ f.2 ∙ p.last | inr n ↦ f.3 x (c.zero_mark x n) ];
            zero_root = λ x m s. elim m [ inl e ↦ no_root (subst S e s) | inr n ↦ c.zero_root x n s ];
            zero_done = λ x m d. elim m [
              | inl e ↦ omega (
                arith,
                f.0,
                c.done_mark p.slot (subst D e d),
              )
              | inr n ↦ c.zero_done x n d
            ];
            done_mark = λ x m. f.3 x (c.done_mark x m);
            all = λ x l z n. elim (cases_eq x p.slot) [
              | inl e ↦ inr (inl e)
              | inr d ↦ elim (c.all x l (sym (f.4 x d) ∙ z) n) [ inl a ↦ inl a | inr a ↦ inr (inr a) ]
            ];
            rooted = λ x l s. elim (cases_eq x p.slot)
                [ inl e ↦ absurd (no_root (subst S e s)) | inr d ↦ other x d ∙ c.rooted x l s ];
            only = λ x l k. elim (cases_eq x p.slot) [
              | inl e ↦ absurd (fresh (subst Z e
                  (chained-head old.links head zeros x c.chain (sym self ∙ ap (link_at new) (sym e) ∙ k))))
              | inr d ↦ c.only x l (sym (other x d) ∙ k)
            ];
            outside = λ x n.
                let o = c.outside x n in
                (f.4 x (λ e. n (subst M (sym e) lies)) ∙ o.0, other x (λ e. n (subst M (sym e) lies)) ∙ o.1);
          }),
        )
  ]
]
  where
    bool-cases : (b : Bool) → (b ≡ true) ⊎ (b ≡ false)
    bool-cases true = inl refl
    bool-cases false = inr refl

    -- what holds where a mark falls by one
    facts : (slot : ℕ) → w ≡ Slot slot → LiesIn h r slot → slot < length old.marks
        → new.marks ≡ set old.marks slot (mark_at old slot - 1) →
        (0 < mark_at old slot) × ((x : ℕ) → LiesIn h r x → mark_at new x + paid h r x done ≡ referrers h r x + rest x)
        × (mark_at new slot ≡ mark_at old slot - 1) × ((x : ℕ) → mark_at old x ≡ 0 → mark_at new x ≡ 0)
        × ((x : ℕ) → x ≢ slot → mark_at new x ≡ mark_at old x)
    facts slot e lies room n =
        let one : cond {A = ℕ} (leads_to slot w) 1 0 ≡ 1 = ap (λ z. cond {A = ℕ} (leads_to slot z) 1 0) e
        ∙ ap (λ b. cond {A = ℕ} b 1 0) (leads-self slot) in
        let above : 0 < mark_at old slot =
        omega (arith, c.sum slot lies, less slot, one, paid-le h r roots done slot c.spends) in
        let here : mark_at new slot ≡ mark_at old slot - 1 = ap (λ z. get_or z slot 0) n
        ∙ get_or-set_same old.marks slot (mark_at old slot - 1) 0 room in
        let other : (x : ℕ) → x ≢ slot → mark_at new x ≡ mark_at old x = λ x d. ap (λ z. get_or z x 0) n
        ∙ get_or-set_other old.marks slot x (mark_at old slot - 1) 0 d in (
          above,
          (λ x l. elim (cases_eq x slot) [
            | inl q ↦
                let P : ℕ → Type 0 = λ z. mark_at new z + paid h r z done ≡ referrers h r z + rest z in
                subst P (sym q) (omega (arith, c.sum slot lies, less slot, one, above, here))
            | inr d ↦
                let none : cond {A = ℕ} (leads_to x w) 1 0 ≡ 0 = ap (λ z. cond {A = ℕ} (leads_to x z) 1 0) e
                ∙ ap (λ b. cond {A = ℕ} b 1 0) (leads-other slot x d) in
                omega (arith, c.sum x l, less x, none, other x d)
          ]),
          here,
          (λ x z. elim (cases_eq x slot) [
            | inl q ↦ let y : mark_at old slot ≡ 0 = ap (mark_at old) (sym q) ∙ z in
                absurd (omega (arith, y, above))
            | inr d ↦ other x d ∙ z
          ]),
          other,
        )

-- the mark is above 0 where a field is still owed
pub count-above : (h : Heap) (r : ℕ) (roots : Roots) (first : Table) (was rest : ℕ → ℕ) (done zeros : List ℕ)
    (t : Table) (head : Option ℕ) (s : ℕ) → was s ≡ cond {A = ℕ} (leads_to s (Slot s)) 1 0 + rest s
    → Counts h r roots first was done zeros t head → LiesIn h r s → 0 < mark_at t s
count-above h r roots first was rest done zeros t head s e c l =
    let one : cond {A = ℕ} (leads_to s (Slot s)) 1 0 ≡ 1 = ap (λ b. cond {A = ℕ} b 1 0) (leads-self s) in
    omega (arith, c.sum s l, e, one, paid-le h r roots done s c.spends)

-- the head of the zero list is done next, and all its fields are owed
pub count-pop : (h : Heap) (r : ℕ) (roots : Roots) (first : Table) (done zeros : List ℕ) (t : Table) (s : ℕ)
    → Counts h r roots first nothing done zeros t (Some s)
    → (rest : List ℕ) × Counts h r roots first (owed h s 0) (s ∷ done) rest t (link_at t s)
count-pop h r roots first done [] t s c = let q : Some s ≡ None = c.chain in cc
count-pop h r roots first done (z ∷ rest) t s c =
    let same : s ≡ z = same_Some s z c.chain.0 in
    let lies : LiesIn h r s = c.zero_lies s (inl same) in
    let none : mark_at t s ≡ 0 = c.zero_mark s (inl same) in
    let full : paid h r s done ≡ referrers h r s = omega (arith, c.sum s lies, none) in
    let H : ℕ → Type 0 = λ y. Has rest y in
    let C : Option ℕ → Type 0 = λ o. Chained t.links o rest in
    let fresh : Has rest s → ⊥ = λ m. c.chain.1 (subst H same m) in (
      rest,
      record {
        heap = c.heap;
        sum = λ x l. omega (
          arith,
          c.sum x l,
          owed-all h r x s lies,
          sum_by-cons (λ p. weight r x (body_at h p)) s done,
        );
        spends = (
          lies,
          c.zero_root s (inl same),
          c.zero_done s (inl same),
          (λ p k l f. all-done h r roots done s p k c.spends full l f),
          c.spends,
        );
        chain = subst C (ap (link_at t) (sym same)) c.chain.2;
        zero_lies = λ x m. c.zero_lies x (inr m);
        zero_mark = λ x m. c.zero_mark x (inr m);
        zero_root = λ x m. c.zero_root x (inr m);
        zero_done = λ x m d. elim d [ inl e ↦ fresh (subst H e m) | inr n ↦ c.zero_done x (inr m) n ];
        done_mark = λ x m. elim m [ inl e ↦ ap (mark_at t) e ∙ none | inr n ↦ c.done_mark x n ];
        all = λ x l m n. elim (c.all x l m n) [
          | inl a ↦ inl (inr a)
          | inr a ↦ elim a [ inl e ↦ inl (inl (e ∙ sym same)) | inr b ↦ inr b ]
        ];
        rooted = c.rooted;
        only = c.only;
        outside = c.outside;
      },
    )

pub lowers-heap : (r : ℕ) (w : Word) (head result : Option ℕ) (old new : Table) → Lowers r w head result old new
    → new.heap ≡ old.heap
lowers-heap r w head result old new g = elim g [
  | inl p ↦ ap (λ (t : Table). t.heap) p.same
  | inr q ↦ elim q [ inl p ↦ ap (λ (t : Table). t.heap) p.new_is | inr p ↦ ap (λ (t : Table). t.heap) p.new_is ]
]

pub lowered-more : (h : Heap) (r slot k : ℕ) (old mid new : Table) (head middle result : Option ℕ) (w : Word)
    → field_at h slot k ≡ Some w → Lowers r w middle result mid new → Lowered h r slot k old mid head middle
    → Lowered h r slot (k + 1) old new head result
lowered-more h r slot k old mid new head middle result w at g f = record {
  heap = lowers-heap r w middle result mid new g ∙ f.heap;
  counts = λ roots first done zeros c.
      let d = f.counts roots first done zeros c in
      count-turn h r roots first (owed h slot k)
      (owed h slot (k + 1)) done d.0 mid new middle result w (owed-next h slot k w at) g d.1;
}
