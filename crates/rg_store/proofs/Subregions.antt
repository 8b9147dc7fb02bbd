-- Regions that are found, link by link.
use Rattle.std.proofs.Common.{◌≡◌, ℕ, zero, suc, ◌+◌, ◌<◌, ◌≤◌, ◌==◌, Bool, true, false, ◌||◌, ◌⊎◌, inl, inr, List, [], ◌∷◌, ◌++◌, length, get_or}
use Rattle.std.proofs.Common.{set, replicate, take, drop, flat_map, All, refl, sym, ◌∙◌, ap, subst, arith, append-nil, length-append, add-one}
use Rattle.std.proofs.Common.{Vec, Global, Result, Ok, Err, IfOk}
use Rattle.rg_base.specs.declared.fault.Memory.{Memory}
use Rattle.std.proofs.lemmas.Bool.{eqb-true, eq-eqb, or_cases, true≢false}
use Rattle.std.proofs.lemmas.List.{take_more, length-set, get_or-set_same, get_or-set_other}
use Rattle.std.proofs.lemmas.Grind.{flat_map-append}
use Rattle.std.proofs.Math.Bool.{or-true}
use Rattle.rg_tree.proofs.TreesFrom.{Begins-same, Begins-trans, get_or-Begins}
use Rattle.rg_rules.specs.Regions.{among}
use Rattle.rg_store.specs.declared.marks.Found.{Found}
use Rattle.rg_store.specs.Regions.{is_marked, AreMarked}
use Rattle.rg_store.specs.Links.{listed, linked}
use Rattle.rg_store.specs.Inner.Found.{FindsToo}
use Rattle.rg_store.proofs.Among.{or-false, or-assoc, among-one, among-append, AreMarked-below}
use Rattle.rg_store.proofs.LinkedObjects.{among-linked, linked-suc}

-- nothing more was found
pub FindsToo-none : (f : Found) → AreMarked f.marks.items f.regions.items → FindsToo f f []
FindsToo-none f fit = record {
  count = refl;
  fit = fit;
  before = Begins-same f.regions.items;
  marked = λ r. sym (or-false (is_marked f.marks.items r));
}

-- some regions were found, and then others
pub FindsToo-both : (f g h : Found) (rs ss : List ℕ) → FindsToo f g rs → FindsToo g h ss → FindsToo f h (rs ++ ss)
FindsToo-both f g h rs ss a b = record {
  count = b.count ∙ a.count;
  fit = b.fit;
  before = Begins-trans a.before b.before;
  marked = λ r.
      b.marked r ∙ ap (λ q. q || among ss r) (a.marked r) ∙ or-assoc (is_marked f.marks.items r) (among rs r) (among ss r)
      ∙ ap (λ q. is_marked f.marks.items r || q) (sym (among-append rs ss r));
}

marked-set : (marks : List Bool) (r q : ℕ) → r < length marks → is_marked (set marks r true) q ≡ is_marked marks q || among (r ∷ []) q
marked-set marks r q within = by (r == q) refl ∙ ap (λ b. is_marked marks q || b) (sym (among-one r q))
  where
    by : (b : Bool) → (r == q) ≡ b → is_marked (set marks r true) q ≡ is_marked marks q || b
    by true same =
        ap (is_marked (set marks r true)) (sym (eqb-true r q same)) ∙ get_or-set_same marks r true false within
        ∙ sym (or-true (is_marked marks q))
    by false other = get_or-set_other marks r q true false (λ e. true≢false (sym (eq-eqb r q (sym e)) ∙ other)) ∙ sym (or-false (is_marked marks q))

-- a region that wasn't
pub FindsToo-new : (f g : Found) (r : ℕ) → AreMarked f.marks.items f.regions.items → r < length f.marks.items →
    g.marks.items ≡ set f.marks.items r true → g.regions.items ≡ f.regions.items ++ r ∷ [] → FindsToo f g (r ∷ [])
FindsToo-new f g r fit within marks regions =
    let marked : (q : ℕ) → is_marked g.marks.items q ≡ is_marked f.marks.items q || among (r ∷ []) q =
    λ q. ap (λ ms. is_marked ms q) marks ∙ marked-set f.marks.items r q within in
    record {
      count = ap length marks ∙ length-set f.marks.items r true;
      fit = λ q.
          marked q ∙ ap (λ b. b || among (r ∷ []) q) (fit q) ∙ sym (among-append f.regions.items (r ∷ []) q)
          ∙ ap (λ rs. among rs q) (sym regions);
      before = record { more = r ∷ []; is = regions };
      marked = marked;
    }

-- the regions behind the first so many, one after another
pub drop-take-more : (xs : List ℕ) (done i d : ℕ) → done ≤ i → i < length xs →
    drop done (take (suc i) xs) ≡ drop done (take i xs) ++ get_or xs i d ∷ []
drop-take-more [] done i d after within = absurd (omega arith)
drop-take-more (x ∷ xs) zero zero d after within = refl
drop-take-more (x ∷ xs) zero (suc i) d after within = ap (λ q. x ∷ q) (drop-take-more xs zero i d (omega arith) (omega arith))
drop-take-more (x ∷ xs) (suc done) zero d after within = absurd (omega arith)
drop-take-more (x ∷ xs) (suc done) (suc i) d after within = drop-take-more xs done i d (omega arith) (omega arith)

pub drop-take-none : (xs : List ℕ) (done : ℕ) → drop done (take done xs) ≡ []
drop-take-none [] zero = refl
drop-take-none [] (suc done) = refl
drop-take-none (x ∷ xs) zero = refl
drop-take-none (x ∷ xs) (suc done) = drop-take-none xs done

-- the links of one more region were followed
pub FindsToo-more : (f g h : Found) (lists : ℕ → List ℕ) (done i r d : ℕ) (here : List ℕ) → done ≤ i → i < length f.regions.items →
    r ≡ get_or g.regions.items i d → here ≡ lists r → FindsToo f g (flat_map lists (drop done (take i f.regions.items))) → FindsToo g h here →
    FindsToo f h (flat_map lists (drop done (take (i + 1) f.regions.items)))
FindsToo-more f g h lists done i r d here after within is here_is a b =
    let known : r ≡ get_or f.regions.items i d = is ∙ get_or-Begins a.before d i within in
    let same : flat_map lists (drop done (take i f.regions.items)) ++ here ≡ flat_map lists (drop done (take (i + 1) f.regions.items)) =
    ap (λ q. flat_map lists (drop done (take i f.regions.items)) ++ q) (here_is ∙ sym (append-nil (lists r)))
    ∙ sym (flat_map-append lists (drop done (take i f.regions.items)) (r ∷ []))
    ∙ ap (λ q. flat_map lists (drop done (take i f.regions.items) ++ q ∷ [])) known
    ∙ ap (flat_map lists) (sym (drop-take-more f.regions.items done i d after within))
    ∙ ap (λ n. flat_map lists (drop done (take n f.regions.items))) (sym (add-one i)) in
    subst (λ q. FindsToo f h q) same (FindsToo-both f g h (flat_map lists (drop done (take i f.regions.items))) here a b)

-- a region that was found is below the number of marks
pub found-below : (f : Found) (count i r d : ℕ) → AreMarked f.marks.items f.regions.items → length f.marks.items ≡ count →
    i < length f.regions.items → r ≡ get_or f.regions.items i d → r < count
found-below f count i r d fit count_is within is =
    let below : get_or f.regions.items i d < length f.marks.items = AreMarked-below f.marks.items f.regions.items fit i d within in omega arith

-- what was found after so many links: the regions to which they lead, and to where the first ones lead that are done
pub record Reaches (lists : ℕ → List ℕ) (first links done : ℕ) (f : Found) : Type 0 where
  pub fit : AreMarked f.marks.items f.regions.items
  pub linked : AreMarked f.marks.items (linked lists links (first ∷ []))
  pub within : done ≤ length f.regions.items
  pub led : (r : ℕ) → among (flat_map lists (take done f.regions.items)) r ≡ true → is_marked f.marks.items r ≡ true

-- the first region was found
pub Reaches-first : (lists : ℕ → List ℕ) (first : ℕ) (f g : Found) → ((r : ℕ) → is_marked f.marks.items r ≡ false) →
    FindsToo f g (first ∷ []) → Reaches lists first 0 0 g
Reaches-first lists first f g none found = record {
  fit = found.fit;
  linked = λ r. found.marked r ∙ ap (λ b. b || among (first ∷ []) r) (none r);
  within = omega arith;
  led = λ r is. cc;
}

split : (lists : ℕ → List ℕ) (rs : List ℕ) (done r : ℕ) →
    among (flat_map lists rs) r ≡ among (flat_map lists (take done rs)) r || among (flat_map lists (drop done rs)) r
split lists rs done r =
    ap (λ q. among (flat_map lists q) r) (sym (whole rs done))
    ∙ ap (λ q. among q r) (flat_map-append lists (take done rs) (drop done rs))
    ∙ among-append (flat_map lists (take done rs)) (flat_map lists (drop done rs)) r
  where
    whole : (rs : List ℕ) (n : ℕ) → take n rs ++ drop n rs ≡ rs
    whole [] zero = refl
    whole [] (suc n) = refl
    whole (q ∷ rs) zero = refl
    whole (q ∷ rs) (suc n) = ap (λ w. q ∷ w) (whole rs n)

-- one link more
pub Reaches-more : (lists : ℕ → List ℕ) (first links done known : ℕ) (f g : Found) → Reaches lists first links done f →
    FindsToo f g (flat_map lists (drop done f.regions.items)) → known ≡ length f.regions.items → Reaches lists first (links + 1) known g
Reaches-more lists first links done known f g old found known_is =
    subst (λ n. Reaches lists first n known g) (sym (add-one links)) (record {
      fit = found.fit;
      linked = λ r.
          found.marked r
          ∙ absorbed (is_marked f.marks.items r) (among (flat_map lists (take done rs)) r) (among (flat_map lists (drop done rs)) r) (old.led r)
          ∙ ap (λ b. is_marked f.marks.items r || b) (sym (split lists rs done r)) ∙ ap (λ b. b || among (flat_map lists rs) r) (old.fit r)
          ∙ sym (among-linked lists (linked lists links (first ∷ [])) rs (λ n. sym (old.linked n) ∙ old.fit n) r)
          ∙ ap (λ q. among q r) (sym (linked-suc lists links (first ∷ [])));
      within = omega (arith, ap length found.before.is, length-append rs found.before.more);
      led = λ r is. later r (or_cases _ _ (sym (split lists rs done r) ∙ sym (ap (λ q. among (flat_map lists q) r) first_are) ∙ is));
    })
  where
    rs : List ℕ
    rs = f.regions.items

    absorbed : (m a b : Bool) → (a ≡ true → m ≡ true) → m || b ≡ m || (a || b)
    absorbed true a b done = refl
    absorbed false true b done = let e : false ≡ true = done refl in cc
    absorbed false false b done = refl

    first_are : take known g.regions.items ≡ rs
    first_are = ap (λ q. take known q) found.before.is ∙ ap (λ n. take n (rs ++ found.before.more)) known_is ∙ front rs found.before.more
      where
        front : (xs ys : List ℕ) → take (length xs) (xs ++ ys) ≡ xs
        front [] ys = refl
        front (x ∷ xs) ys = ap (λ q. x ∷ q) (front xs ys)

    later : (r : ℕ) → (among (flat_map lists (take done rs)) r ≡ true) ⊎ (among (flat_map lists (drop done rs)) r ≡ true) →
        is_marked g.marks.items r ≡ true
    later r (inl is) = found.marked r ∙ ap (λ b. b || among (flat_map lists (drop done rs)) r) (old.led r is)
    later r (inr is) = found.marked r ∙ ap (λ b. is_marked f.marks.items r || b) is ∙ or-true (is_marked f.marks.items r)

-- one more of some regions was found
pub FindsToo-next : (f g h : Found) (rs : List ℕ) (i : ℕ) → i < length rs → FindsToo f g (take i rs) → FindsToo g h (get_or rs i 0 ∷ []) →
    FindsToo f h (take (i + 1) rs)
FindsToo-next f g h rs i within a b =
    subst (λ q. FindsToo f h q) (sym (take_more rs i 0 within)) (FindsToo-both f g h (take i rs) (get_or rs i 0 ∷ []) a b)

-- no mark is set
pub none-marked : (n r : ℕ) → is_marked (replicate n false) r ≡ false
none-marked zero r = refl
none-marked (suc n) zero = refl
none-marked (suc n) (suc r) = none-marked n r

-- all regions in lists of links were made
pub links-there : (count : ℕ) (lists : List (Vec ℕ Global)) (links : ℕ → List ℕ) → length lists ≡ count → ((r : ℕ) → listed lists r ≡ links r) →
    ((r : ℕ) → All (λ q. q < count) (links r)) → (r : ℕ) → r < length lists → All (λ q. q < length lists) (listed lists r)
links-there count lists links count_is are below r within =
    subst (λ n. All (λ q. q < n) (listed lists r)) (sym count_is) (subst (λ ls. All (λ q. q < count) ls) (sym (are r)) (below r))

-- a list whose regions were all made
pub list-there : (lists : List (Vec ℕ Global)) (r count : ℕ) (here : List ℕ) → r < length lists → here ≡ listed lists r → count ≡ length lists →
    ((q : ℕ) → q < length lists → All (λ p. p < length lists) (listed lists q)) → All (λ p. p < count) here
list-there lists r count here within is count_is all =
    subst (λ n. All (λ p. p < n) here) (sym count_is) (subst (λ q. All (λ p. p < length lists) q) (sym is) (all r within))

-- the marks of the regions to which links lead, where the lists are known
pub marks-as : (count region : ℕ) (these : List ℕ) (led lists : List (Vec ℕ Global)) (result : Result (Vec Bool Global) Memory) →
    led ≡ lists → length lists ≡ count → ((n : ℕ) → among (linked (listed lists) count (region ∷ [])) n ≡ among these n) →
    IfOk result (λ marks. AreMarked marks.items (linked (listed led) (length led) (region ∷ []))) →
    IfOk result (λ marks. AreMarked marks.items these)
marks-as count region these led lists (Ok marks) same count_is are is =
    λ r. is r ∙ ap (λ q. among (linked (listed q) (length q) (region ∷ [])) r) same
    ∙ ap (λ n. among (linked (listed lists) n (region ∷ [])) r) count_is ∙ are r
marks-as count region these led lists (Err m) same count_is are is = tt
