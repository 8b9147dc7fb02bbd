-- Each turn of the loops of marking (docs/architecture.md, "Mark and sweep").
use Rattle.std.proofs.Common.{◌≡◌, ◌≢◌, ℕ, ◌+◌, ◌<◌, suc, Bool, true, false, cond, List, [], ◌∷◌, length, Option, Some}
use Rattle.std.proofs.Common.{None, get_or}
use Rattle.std.proofs.Common.{set, refl, ap, sym, ◌∙◌, subst, arith, ◌⊎◌, inl, inr, slice_get, option_map}
use Rattle.rg_cells.specs.declared.cell.Body.{Body}
use Rattle.std.proofs.lemmas.List.{get_or-set_same, get_or-set_other}
use Rattle.std.proofs.lemmas.Option.{slice_get_within, same_Some}
use Rattle.std.proofs.lemmas.Bool.Decides.{eqb_tells}
use Rattle.std.proofs.lemmas.Bool.{cases_eq, cases_lt}
use Rattle.rg_base.specs.declared.value.Word.{Word}
use Rattle.rg_base.specs.declared.value.Word.TheVariants.{Slot}
use Rattle.rg_base.specs.declared.object.Label.{Label}
use Rattle.rg_base.specs.declared.object.Label.TheVariants.{Region, Temp, Frozen}
use Rattle.rg_base.proofs.Callers.Labels.{slot-same}
use Rattle.rg_cells.specs.Table.{Heap, Table, field_at, body_at, body_in, width, mark_at, link_at}
use Rattle.rg_regions.specs.Reach.{LiesIn, Roots, Walk, belongs, is_region, is_bridge, in_slots, in_temps}
use Rattle.rg_trace.specs.Marking.{black_fields}
use Rattle.rg_trace.specs.Inner.Marking.{known_count, pending, GreyChain, Marking}
use Rattle.rg_trace.specs.Inner.Marking.{OnlyGreyed, Near, Greys, Scanned, ScannedTemps, ScannedBridge}
use Rattle.rg_regions.specs.Same.{LinksStay}
use Rattle.rg_trace.specs.Inner.Marking.{MarkingGoes}
use Rattle.rg_trace.specs.Marking.{Marked, weighed, if_black}
use Rattle.rg_trace.proofs.Marks.Weights.{known-black, fields-black, pending-black}
use Rattle.rg_trace.proofs.Marks.Colours.{greyed, went-grey, went-none, went-then, popped, reached-marked}
use Rattle.rg_trace.proofs.Marks.Colours.{marked-reached, none-grey, walk-lies}
use Rattle.rg_regions.proofs.Callers.Told.{field_within}

pub near-later : (h : Heap) (r : ℕ) (roots : Roots) (old new : List ℕ) (s : ℕ) → OnlyGreyed h r old new
    → Near h r roots old s → Near h r roots new s
near-later h r roots old new s w n = (n.0, omega (arith, n.1, w.count), n.2)

-- one word is looked at
pub record Turn (h : Heap) (r : ℕ) (w : Word) (old new : Table) (head result : Option ℕ) : Type 0 where
  pub heap : new.heap ≡ h
  pub went : OnlyGreyed h r old.marks new.marks
  pub links : LinksStay h r old new
  pub found : (s : ℕ) → w ≡ Slot s → LiesIn h r s → 0 < mark_at new s
  pub marking : (roots : Roots) → ((s : ℕ) → w ≡ Slot s → LiesIn h r s → Near h r roots old.marks s)
      → Marking h r roots old head
      → Marking h r roots new result

turn-stays : (r : ℕ) (w : Word) (t : Table) (head : Option ℕ)
    → ((s : ℕ) → w ≡ Slot s → LiesIn t.heap r s → 0 < mark_at t s)
    → Turn t.heap r w t t head head
turn-stays r w t head known = record {
  heap = refl;
  went = went-none t.heap r t.marks;
  links = λ s n. refl;
  found = known;
  marking = λ roots near m. m;
}

turn-taken : (r slot : ℕ) (t : Table) (head : Option ℕ) → LiesIn t.heap r slot → mark_at t slot ≡ 0
    → slot < length t.marks → slot < length t.links
    → Turn t.heap r (Slot slot) t (record t { marks = set t.marks slot 1; links = set t.links slot head }) head
    (Some slot)
turn-taken r slot t head lies white l n = record {
  heap = refl;
  went = went-grey t.heap r t.marks slot lies white l;
  links = λ s n. get_or-set_other t.links slot s head None (λ q. let L : ℕ → Type 0 = λ y. LiesIn t.heap r y in
      n (subst L (sym q) lies));
  found = λ s e i. let q : slot ≡ s = slot-same slot s e in let o : get_or (set t.marks slot 1) s 0
      ≡ 1 = ap (λ k. get_or (set t.marks slot 1) k 0) (sym q) ∙ get_or-set_same t.marks slot 1 0 l in omega (arith, o);
  marking = λ roots near m. (
    slot ∷ m.0,
    greyed t.heap r roots t.marks t.links head m.0 slot lies white l n (near slot refl lies) m.1,
  );
}

pub turn : (h : Heap) (r : ℕ) (w : Word) (old new : Table) (head result : Option ℕ) → old.heap ≡ h
    → Greys r w head result old new
    → Turn h r w old new head result
turn h r w old new head result e g =
    let H : Heap → Type 0 = λ z. Turn z r w old new head result in
    let R : Option ℕ → Type 0 = λ o. Turn old.heap r w old new head o in
    let T : Option ℕ → Table → Type 0 = λ o t. Turn old.heap r w old t head o in
    let W : (o : Option ℕ) → Table → Word → Type 0 = λ o t v. Turn old.heap r v old t head o in
    subst H e (elim g [
      | inl s ↦ subst R (sym s.head_is) (subst (T head) (sym s.same) (turn-stays r w old head s.known_is))
      | inr t ↦ subst R (sym t.head_is) (subst (T (Some t.slot)) (sym t.new_is)
          (subst (W (Some t.slot) (record old { marks = set old.marks t.slot 1; links = set old.links t.slot head }))
          (sym t.leads)
          (turn-taken r t.slot old head t.lies t.white t.within t.in_links)))
    ])

pub scanned-more : (h : Heap) (r : ℕ) (word : ℕ → Option Word) (n : ℕ) (old mid new : Table)
    (head middle result : Option ℕ) (w : Word) → word n
    ≡ Some w → Scanned h r word n old mid head middle → Turn h r w mid new middle result
    → Scanned h r word (n + 1) old new head result
scanned-more h r word n old mid new head middle result w at a b = record {
  heap = b.heap;
  went = went-then h r old.marks mid.marks new.marks a.went b.went;
  links = λ s n. b.links s n ∙ a.links s n;
  found = λ k s l e i. elim (cases_lt k n) [
    | inl m ↦ b.went.grows s (a.found k s m e i)
    | inr m ↦ let q : k ≡ n = omega arith in b.found s (same_Some w (Slot s) (sym at ∙ ap word (sym q) ∙ e)) i
  ];
  marking = λ roots near m. b.marking roots
      (λ s e i. near-later h r roots old.marks mid.marks s a.went (near n s (at ∙ ap Some e) i))
      (a.marking roots near m);
}

pub traced-more : (h : Heap) (r : ℕ) (temps : List ℕ) (n : ℕ) (old mid new : Table) (head middle result : Option ℕ)
    (temp : ℕ) → slice_get temps n
    ≡ Some temp → ScannedTemps h r temps n old mid head middle
    → Scanned h r (λ k. field_at h temp k) (width (body_at h temp)) mid new middle result
    → ScannedTemps h r temps (n + 1) old new head result
traced-more h r temps n old mid new head middle result temp at a b = record {
  heap = b.heap;
  went = went-then h r old.marks mid.marks new.marks a.went b.went;
  links = λ s n. b.links s n ∙ a.links s n;
  found = λ i k s other l e f lies. elim (cases_lt i n) [
    | inl m ↦ b.went.grows s (a.found i k s other m e f lies)
    | inr m ↦
        let q : i ≡ n = omega arith in
        let same : temp ≡ other = same_Some temp other (sym at ∙ ap (slice_get temps) (sym q) ∙ e) in
        let here : field_at h temp k ≡ Some (Slot s) = ap (λ z. field_at h z k) same ∙ f in
        b.found k s (field_within h temp k (Slot s) here) here lies
  ];
  marking = λ roots same m. b.marking roots
      (λ k s f lies. (0, omega arith, (lies, in_temps n k temp (ap (λ ts. slice_get ts n) same ∙ at) f)))
      (a.marking roots same m);
}

-- the first grey cell becomes black, and its fields are looked at
pub goes-more : (h : Heap) (r : ℕ) (roots : Roots) (first : Table) (old mid new : Table) (s : ℕ) (result : Option ℕ)
    → s < length old.marks → mid
    ≡ record old { marks = set old.marks s 2 } → MarkingGoes h r roots first old (Some s)
    → Scanned h r (λ k. field_at h s k) (width (body_at h s)) mid new (link_at old s) result
    → MarkingGoes h r roots first new result
goes-more h r roots first old mid new s result l e g b =
    let p = popped h r roots old.marks old.links s g.marking.0 l g.marking.1 in
    let marks : mid.marks ≡ set old.marks s 2 = ap (λ (t : Table). t.marks) e in
    let links : mid.links ≡ old.links = ap (λ (t : Table). t.links) e in
    let M : Table → Type 0 = λ t. Marking h r roots t (link_at old s) in
    let marking : Marking h r roots mid (link_at old s) = subst M (sym e) (p.0, p.3) in
    let same : get_or mid.marks s 0 ≡ 2 = ap (λ ms. get_or ms s 0) marks ∙ get_or-set_same old.marks s 2 0 l in
    let other : (k : ℕ) → k ≢ s → get_or mid.marks k 0 ≡ get_or old.marks k 0 = λ k d. ap (λ ms. get_or ms k 0) marks
    ∙ get_or-set_other old.marks s k 2 0 d in
    let w = g.marking.1.walked s p.1 (omega (arith, p.2)) in
    let W : Walk h r roots w.0 s = w.2 in
    let count : known_count h r mid.marks ≡ known_count h r old.marks = ap (known_count h r) marks
    ∙ known-black h r s old.marks p.1 p.2 l in
    let near : (k t : ℕ) → field_at h s k ≡ Some (Slot t) → LiesIn h r t
    → Near h r roots mid.marks t = λ k t f i. (suc w.0, omega (arith, w.1, count), (i, (s, k, W, f))) in
    let kept : (x : ℕ) → 0 < get_or old.marks x 0 → 0 < get_or mid.marks x 0 = λ x m. elim (cases_eq x s) [
      | inl q ↦ let o : get_or mid.marks x 0 ≡ 2 = ap (λ y. get_or mid.marks y 0) q ∙ same in omega (arith, o)
      | inr d
          ↦ let o = other x d in omega (arith, o, m)
    ] in
    record {
      heap = b.heap;
      marking = b.marking roots near marking;
      done = λ x k i m t f z. elim (cases_eq x s) [
        | inl q ↦ let here : field_at h s k ≡ Some (Slot t) = ap (λ y. field_at h y k) (sym q)
            ∙ f in b.found k t (field_within h s k (Slot t) here) here z
        | inr d ↦ let o = other x d in let was : 1 < get_or mid.marks x 0 = b.went.blacks x i m in b.went.grows t
            (kept t (g.done x k i (omega (arith, o, was)) t f z))
      ];
      roots_known = λ x v. b.went.grows x (kept x (g.roots_known x v));
      outside = λ x i.
          let L : ℕ → Type 0 = λ y. LiesIn h r y in
          let o = g.outside x i in (
            b.went.outside x i ∙ other x (λ q. i (subst L (sym q) p.1)) ∙ o.0,
            b.links x i ∙ ap (λ (t : Table). link_at t x) e ∙ o.1,
          );
    }

-- where no grey cell is left, the region is marked
pub goes-done : (h : Heap) (r : ℕ) (roots : Roots) (first : Table) (old t : Table) → first ≡ old
    → MarkingGoes h r roots first t None
    → Marked h r roots old t
goes-done h r roots first old t e g = record {
  heap = g.heap;
  reached = λ s q.
      let m : 0 < mark_at t s = reached-marked h r roots t.marks t.links g.marking.0 g.marking.1 g.done g.roots_known
      q.0 s q.2 in
      let n : mark_at t s ≢ 1 = none-grey h r roots t.marks t.links g.marking.0 g.marking.1 s
      (walk-lies h r roots q.0 s q.2) in
      omega (arith, m, n);
  closed = λ s k to l m f i.
      let d : 0 < mark_at t to = g.done s k l m to f i in
      let n : mark_at t to ≢ 1 = none-grey h r roots t.marks t.links g.marking.0 g.marking.1 to i in
      omega (arith, d, n);
  only = λ s i m. marked-reached h r roots t.marks t.links None g.marking.0 s g.marking.1 i m;
  outside = λ s i. let o = g.outside s i in
      (o.0 ∙ ap (λ (z : Table). mark_at z s) e, o.1 ∙ ap (λ (z : Table). link_at z s) e);
}

-- a region whose cells are white, before its roots are looked at
pub goes-nothing : (h : Heap) (r : ℕ) (roots : Roots) (t : Table) → ((s : ℕ) → LiesIn h r s → mark_at t s ≡ 0)
    → Marking h r roots t None
goes-nothing h r roots t white = (
  [],
  record {
    chain = refl;
    listed = λ s i m. let z = white s i in absurd (omega (arith, z, m));
    walked = λ s i m. let z = white s i in absurd (omega (arith, z, m));
  },
)

-- the fields of black cells, and the cells that aren't black, after a turn
pub fields-more : (h : Heap) (r : ℕ) (roots : Roots) (first : Table) (old mid new : Table) (s : ℕ)
    → s < length old.marks → mid
    ≡ record old { marks = set old.marks s 2 } → MarkingGoes h r roots first old (Some s)
    → OnlyGreyed h r mid.marks new.marks
    → black_fields h r new.marks ≡ black_fields h r old.marks + width (body_at h s)
fields-more h r roots first old mid new s l e g w =
    let p = popped h r roots old.marks old.links s g.marking.0 l g.marking.1 in
    let marks : mid.marks ≡ set old.marks s 2 = ap (λ (t : Table). t.marks) e in
    let a : black_fields h r mid.marks ≡ black_fields h r (set old.marks s 2) = ap (black_fields h r) marks in
    omega (arith, w.fields, a, fields-black h r s old.marks p.1 p.2 l)

pub pending-less : (h : Heap) (r : ℕ) (roots : Roots) (first : Table) (old mid new : Table) (s : ℕ)
    → s < length old.marks → mid
    ≡ record old { marks = set old.marks s 2 } → MarkingGoes h r roots first old (Some s)
    → OnlyGreyed h r mid.marks new.marks
    → pending h r new.marks < pending h r old.marks
pending-less h r roots first old mid new s l e g w =
    let p = popped h r roots old.marks old.links s g.marking.0 l g.marking.1 in
    let marks : mid.marks ≡ set old.marks s 2 = ap (λ (t : Table). t.marks) e in
    let a : pending h r mid.marks ≡ pending h r (set old.marks s 2) = ap (pending h r) marks in
    omega (arith, w.rest, a, pending-black h r s old.marks p.1 p.2 l)

-- the head of the list lies in the region
pub head-lies : (h : Heap) (r : ℕ) (roots : Roots) (t : Table) (s : ℕ) → Marking h r roots t (Some s) → LiesIn h r s
head-lies h r roots t s m = by_list m.0 m.1.chain
  where
    by_list : (grey : List ℕ) → GreyChain h r t.marks t.links (Some s) grey → LiesIn h r s
    by_list [] c = let e : Some s ≡ None = c in cc
    by_list (x ∷ grey) c = let L : ℕ → Type 0 = λ k. LiesIn h r k in subst L (sym (same_Some s x c.0)) c.1

-- where all marks of a region are 0, no cell of it is black
weighed-zero : (f : Option Body → ℕ → ℕ) (xs : List (Option (Option Body))) (ms : List ℕ)
    → ((k : ℕ) → f (body_in (get_or xs k None)) (get_or ms k 0) ≡ 0) → weighed f xs ms ≡ 0
weighed-zero f [] ms z = refl
weighed-zero f (x ∷ xs) [] z = omega (arith, z 0, weighed-zero f xs [] (λ k. z (suc k)))
weighed-zero f (x ∷ xs) (m ∷ ms) z = omega (arith, z 0, weighed-zero f xs ms (λ k. z (suc k)))

-- what isn't in a region weighs nothing, and what is in it has its label
pub belongs-cases : (r : ℕ) (b : Option Body)
    → (belongs r b ≡ false) ⊎ (option_map (λ (b : Body). b.label) b ≡ Some (Region r))
belongs-cases r None = inl refl
belongs-cases r (Some b) = by_label b.label
  where
    by_label : (l : Label) → (is_region r l ≡ false) ⊎ (Some l ≡ Some (Region r))
    by_label (Region q) = elim (eqb_tells r q) [ inl e ↦ inr (ap (λ k. Some (Region k)) (sym e.1)) | inr d ↦ inl d.0 ]
    by_label (Temp n) = inl refl
    by_label Frozen = inl refl

pub fields-white : (h : Heap) (r : ℕ) (marks : List ℕ) → ((s : ℕ) → LiesIn h r s → get_or marks s 0 ≡ 0)
    → black_fields h r marks ≡ 0
fields-white h r marks white = weighed-zero (λ b m. cond (belongs r b) (if_black (width b) m) 0) h.slots marks
    (λ k. elim (belongs-cases r (body_at h k)) [
      | inl e ↦ rw e refl
      | inr l ↦ rw (white k l) (cond-zero (belongs r (body_at h k)))
    ])
  where
    cond-zero : (b : Bool) → cond {A = ℕ} b 0 0 ≡ 0
    cond-zero true = refl
    cond-zero false = refl

pub bridged-some : (r s : ℕ) (old new : Table) (result : Option ℕ) → Greys r (Slot s) None result old new
    → ScannedBridge old.heap r (Some s) old new result
bridged-some r s old new result g =
    let b = turn old.heap r (Slot s) old new None result refl g in
    record {
      heap = b.heap;
      went = b.went;
      links = b.links;
      found = λ x e l. b.found x (ap Slot (same_Some s x e)) l;
      marking = λ roots e m. b.marking roots (λ x q l. (0, omega arith, (l, is_bridge (e ∙ ap Some (slot-same s x q)))))
          m;
    }

-- the bridge, the slots and the temporaries were looked at
pub goes-begin : (h : Heap) (r : ℕ) (bridge : Option ℕ) (slots : List Word) (temps : List ℕ) (a b c d : Table)
    (first second third : Option ℕ)
    → a.heap ≡ h → ((s : ℕ) → LiesIn h r s → mark_at a s ≡ 0) → ScannedBridge h r bridge a b first
    → Scanned h r (λ k. slice_get slots k) (length slots) b c first second
    → ScannedTemps h r temps (length temps) c d second third
    → MarkingGoes h r (record { bridge = bridge; slots = slots; temps = temps }) a d third
goes-begin h r bridge slots temps a b c d first second third e white p q t =
    let roots : Roots = record { bridge = bridge; slots = slots; temps = temps } in
    let w : OnlyGreyed h r a.marks d.marks =
    went-then h r a.marks b.marks d.marks p.went (went-then h r b.marks c.marks d.marks q.went t.went) in
    record {
      heap = t.heap;
      marking = t.marking roots refl (q.marking roots (λ k s f l. (0, omega arith, (l, in_slots k f)))
          (p.marking roots refl (goes-nothing h r roots a white)));
      done = λ s k l m. let z = white s l in let o = w.blacks s l m in absurd (omega (arith, z, o));
      roots_known = λ s v. elim (v.1) [
        | is_bridge f ↦ t.went.grows s (q.went.grows s (p.found s f v.0))
        | in_slots k f ↦ t.went.grows s (q.found k s (slice_get_within slots k (Slot s) f) f v.0)
        | in_temps i k temp f z ↦ t.found i k s temp (slice_get_within temps i temp f) f z v.0
      ];
      outside = λ s i. (w.outside s i, t.links s i ∙ q.links s i ∙ p.links s i);
    }

-- .. and no field of a black cell was looked at yet
pub fields-begin : (h : Heap) (r : ℕ) (bridge : Option ℕ) (slots : List Word) (temps : List ℕ) (a b c d : Table)
    (first second third : Option ℕ)
    → ((s : ℕ) → LiesIn h r s → mark_at a s ≡ 0) → ScannedBridge h r bridge a b first
    → Scanned h r (λ k. slice_get slots k) (length slots) b c first second
    → ScannedTemps h r temps (length temps) c d second third
    → black_fields h r d.marks ≡ 0
fields-begin h r bridge slots temps a b c d first second third white p q t =
    t.went.fields ∙ q.went.fields ∙ p.went.fields ∙ fields-white h r a.marks white
