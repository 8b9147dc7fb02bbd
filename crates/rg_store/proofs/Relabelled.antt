-- Other labels for objects, one after another.
use Rattle.std.proofs.Common.{◌≡◌, refl, sym, ap, ◌∙◌, subst, ℕ, zero, suc, ◌+◌, ◌<◌, ◌≤◌, Bool, true, false, if◌then◌else◌, List, [], ◌∷◌, ◌++◌, map}
use Rattle.std.proofs.Common.{length, take, drop, get_or, slice_set, All, add-one, append-nil, arith}
use Rattle.std.proofs.lemmas.List.{length-map, take_all, drop_all}
use Rattle.std.proofs.lemmas.List.Elements.{All-nil, All-cons, All-head, All-tail, All-map}
use Rattle.rg_base.specs.declared.object.Seen.{Seen}
use Rattle.rg_base.specs.declared.object.Label.{Label}
use Rattle.rg_base.proofs.Callers.Lists.{All-unmap}
use Rattle.rg_rules.specs.Regions.{in_regions, relabelled_object, relabelled}
use Rattle.rg_store.specs.declared.objects.ObjectRow.{ObjectRow}
use Rattle.rg_tree.specs.Rows.Tables.{Tables}
use Rattle.rg_tree.specs.Rows.RowTrees.{classes_of}
use Rattle.rg_rules.proofs.Region.{class-relabelled_object}
use Rattle.rg_store.specs.Regions.{LabelFits, LabelsFit}
use Rattle.rg_store.specs.Shown.{seen_of, store_of, AreOfClasses}

-- one more object was changed
changed-more : (f : Seen → Seen) (xs : List Seen) (i : ℕ) (x d : Seen) → i < length xs → x ≡ f (get_or (map f (take i xs) ++ drop i xs) i d) →
    slice_set (map f (take i xs) ++ drop i xs) i x ≡ map f (take (suc i) xs) ++ drop (suc i) xs
changed-more f [] i x d within is = absurd (omega arith)
changed-more f (y ∷ ys) zero x d within is = ap (λ q. q ∷ ys) is
changed-more f (y ∷ ys) (suc i) x d within is = ap (λ q. f y ∷ q) (changed-more f ys i x d (omega arith) is)

store_of-set : (rows : List ObjectRow) (i : ℕ) (o : ObjectRow) → store_of (slice_set rows i o) ≡ slice_set (store_of rows) i (seen_of o)
store_of-set [] i o = refl
store_of-set (r ∷ rows) zero o = refl
store_of-set (r ∷ rows) (suc i) o = ap (λ q. seen_of r ∷ q) (store_of-set rows i o)

store_of-get : (rows : List ObjectRow) (i : ℕ) (d : ObjectRow) → get_or (store_of rows) i (seen_of d) ≡ seen_of (get_or rows i d)
store_of-get [] i d = refl
store_of-get (r ∷ rows) zero d = refl
store_of-get (r ∷ rows) (suc i) d = store_of-get rows i d

pub relabelled-more : (regions : List ℕ) (label : Label) (old rows : List ObjectRow) (i : ℕ) (o d : ObjectRow) → i < length old →
    store_of rows ≡ map (relabelled_object regions label) (take i (store_of old)) ++ drop i (store_of old) →
    seen_of o ≡ relabelled_object regions label (seen_of (get_or rows i d)) →
    store_of (slice_set rows i o) ≡ map (relabelled_object regions label) (take (i + 1) (store_of old)) ++ drop (i + 1) (store_of old)
relabelled-more regions label old rows i o d within so_far is =
    let f = relabelled_object regions label in
    let short : i < length (store_of old) = omega (arith, length-map old seen_of) in
    let one : seen_of o ≡ f (get_or (map f (take i (store_of old)) ++ drop i (store_of old)) i (seen_of d)) =
    is ∙ ap f (sym (store_of-get rows i d)) ∙ ap (λ q. f (get_or q i (seen_of d))) so_far in
    store_of-set rows i o ∙ ap (λ q. slice_set q i (seen_of o)) so_far
    ∙ rw add-one (changed-more f (store_of old) i (seen_of o) (seen_of d) short one)

relabelled-classes : (n : ℕ) (regions : List ℕ) (label : Label) (store : List Seen) → All (λ (o : Seen). o.class < n) store →
    All (λ (o : Seen). o.class < n) (relabelled regions label store)
relabelled-classes n regions label [] all = All-nil (λ (o : Seen). o.class < n)
relabelled-classes n regions label (o ∷ os) all =
    let first : o.class < n = All-head (λ (o : Seen). o.class < n) o os all in
    All-cons (λ (o : Seen). o.class < n) (relabelled_object regions label o) (relabelled regions label os)
    (rw (class-relabelled_object regions label o) first)
    (relabelled-classes n regions label os (All-tail (λ (o : Seen). o.class < n) o os all))

-- other labels leave the classes
pub relabelled-AreOfClasses : (t : Tables) (regions : List ℕ) (label : Label) (old new : List ObjectRow) → AreOfClasses t old →
    store_of new ≡ relabelled regions label (store_of old) → AreOfClasses t new
relabelled-AreOfClasses t regions label old new all is =
    let P : List Seen → Type 0 = λ q. All (λ (o : Seen). o.class < length (classes_of t)) q in
    All-unmap (λ (o : Seen). o.class < length (classes_of t)) seen_of new
    (subst P (sym is) (relabelled-classes (length (classes_of t)) regions label (store_of old)
    (All-map (λ (o : Seen). o.class < length (classes_of t)) seen_of old all)))

-- all objects were changed
pub relabelled-all : (regions : List ℕ) (label : Label) (old rows : List ObjectRow) (i : ℕ) → length old ≤ i →
    store_of rows ≡ map (relabelled_object regions label) (take i (store_of old)) ++ drop i (store_of old) →
    store_of rows ≡ relabelled regions label (store_of old)
relabelled-all regions label old rows i all is =
    let f = relabelled_object regions label in
    let past : length (store_of old) ≤ i = omega (arith, length-map old seen_of) in
    is ∙ ap (λ q. map f q ++ drop i (store_of old)) (take_all i (store_of old) past)
    ∙ ap (λ q. map f (store_of old) ++ q) (drop_all i (store_of old) past) ∙ append-nil (map f (store_of old))

-- the regions that labels name were made
relabelled-fits : (count : ℕ) (regions : List ℕ) (label : Label) (store : List Seen) → LabelFits count label → LabelsFit count store →
    LabelsFit count (relabelled regions label store)
relabelled-fits count regions label [] fits all = All-nil (λ (o : Seen). LabelFits count o.label)
relabelled-fits count regions label (o ∷ os) fits all =
    let P : Seen → Type 0 = λ q. LabelFits count q.label in
    All-cons P (relabelled_object regions label o) (relabelled regions label os) (by (in_regions regions o.label) (All-head P o os all))
    (relabelled-fits count regions label os fits (All-tail P o os all))
  where
    by : (b : Bool) → LabelFits count o.label → LabelFits count (if b then record o { label = label } else o).label
    by true old = fits
    by false old = old

pub relabelled-LabelsFit : (count : ℕ) (regions : List ℕ) (label : Label) (old new : List Seen) → LabelFits count label → LabelsFit count old →
    new ≡ relabelled regions label old → LabelsFit count new
relabelled-LabelsFit count regions label old new fits all is = subst (LabelsFit count) (sym is) (relabelled-fits count regions label old fits all)
