-- Labels of regions that were made.
use Rattle.std.proofs.Common.{◌≡◌, ℕ, zero, suc, ◌<◌, ◌≤◌, List, [], ◌∷◌, length, get_or, slice_set, Option, Some, None, IfSome, sym}
use Rattle.std.proofs.Common.{subst, arith}
use Rattle.std.proofs.lemmas.List.Elements.{All-cons, All-head, All-tail}
use Rattle.rg_base.specs.declared.object.Seen.{Seen}
use Rattle.rg_base.specs.declared.object.Label.{Label}
use Rattle.rg_base.specs.declared.object.Label.TheVariants.{Region, Temp, Frozen}
use Rattle.rg_rules.specs.Regions.{region_of}
use Rattle.rg_store.specs.declared.objects.ObjectRow.{ObjectRow}
use Rattle.rg_store.specs.Regions.{LabelFits, LabelsFit}
use Rattle.rg_store.specs.Shown.{seen_of, store_of}

-- the region of a label is one of those that were made
pub some-below : (count : ℕ) (l : Label) (r : ℕ) → LabelFits count l → region_of l ≡ Some r → r < count
some-below count (Region q) r below e = let same : q ≡ r = cc in omega arith
some-below count (Temp n) r below e = cc
some-below count Frozen r below e = cc

-- in regions of which there may be more
pub LabelFits-more : (n m : ℕ) (label : Label) → n ≤ m → LabelFits n label → LabelFits m label
LabelFits-more n m (Region r) more fits = omega arith
LabelFits-more n m (Temp k) more fits = tt
LabelFits-more n m Frozen more fits = tt

-- the label of an object at a place
pub LabelsFit-at : (count : ℕ) (store : List ObjectRow) (k : ℕ) (o : ObjectRow) → k < length store → o ≡ get_or store k o →
    LabelsFit count (store_of store) → LabelFits count o.label
LabelsFit-at count [] k o within is all = absurd (omega arith)
LabelsFit-at count (r ∷ rows) zero o within is all =
    let P : Seen → Type 0 = λ q. LabelFits count q.label in
    subst (λ q. LabelFits count q.label) (sym is) (All-head P (seen_of r) (store_of rows) all)
LabelsFit-at count (r ∷ rows) (suc k) o within is all =
    let P : Seen → Type 0 = λ q. LabelFits count q.label in
    LabelsFit-at count rows k o (omega arith) is (All-tail P (seen_of r) (store_of rows) all)

-- an object was written that kept its label
pub LabelsFit-set : (count : ℕ) (store : List ObjectRow) (k : ℕ) (d o : ObjectRow) → k < length store → o.label ≡ (get_or store k d).label →
    LabelsFit count (store_of store) → LabelsFit count (store_of (slice_set store k o))
LabelsFit-set count [] k d o within same all = all
LabelsFit-set count (r ∷ rows) zero d o within same all =
    let P : Seen → Type 0 = λ q. LabelFits count q.label in
    All-cons P (seen_of o) (store_of rows) (subst (LabelFits count) (sym same) (All-head P (seen_of r) (store_of rows) all))
    (All-tail P (seen_of r) (store_of rows) all)
LabelsFit-set count (r ∷ rows) (suc k) d o within same all =
    let P : Seen → Type 0 = λ q. LabelFits count q.label in
    All-cons P (seen_of r) (store_of (slice_set rows k o)) (All-head P (seen_of r) (store_of rows) all)
    (LabelsFit-set count rows k d o (omega arith) same (All-tail P (seen_of r) (store_of rows) all))

-- the region of an object at a place was made
pub region-made : (store : List ObjectRow) (k : ℕ) (o : ObjectRow) (r : Option ℕ) → k < length store → o ≡ get_or store k o → r ≡ region_of o.label →
    IfSome r (λ q. (count : ℕ) → LabelsFit count (store_of store) → q < count)
region-made store k o None within is region = tt
region-made store k o (Some q) within is region =
    λ count fits. some-below count o.label q (LabelsFit-at count store k o within is fits) (sym region)
