-- The regions that links by labels reach from some are these and all beneath them, and only which regions a list names counts.
use Rattle.std.proofs.Common.{◌≡◌, ℕ, ◌<◌, ◌||◌, true, false, if◌then◌else◌, Bool as Truth, List, [], ◌∷◌}
use Rattle.std.proofs.Common.{Option, Some, length, refl, sym, ap, ◌∙◌}
use Rattle.std.proofs.lemmas.Bool.{false≢true}
use Rattle.rg_base.specs.declared.object.Label.{Label}
use Rattle.rg_base.specs.declared.object.Label.TheVariants.{Region, Temp, Frozen}
use Rattle.rg_base.specs.declared.object.Seen.{Seen}
use Rattle.rg_rules.specs.Regions.{region_at, among, in_regions, relabelled_object, relabelled}
use Rattle.rg_sound.proofs.Stores.Member.{among-in, in-among}
use Rattle.rg_stack.specs.Effects.{beneath_by_labels}
use Rattle.rg_stack.proofs.Callers.Label.{LeadsTo}
use Rattle.rg_cells.specs.Table.{Serials}
use Rattle.rg_regions.specs.Grove.{Grove}
use Rattle.rg_heap.specs.Parts.{Parts}
use Rattle.rg_view.specs.View.{store_of, managers_of}
use Rattle.rg_view.specs.Names.{Names}
use Rattle.rg_view.specs.Numbers.{Numbers}
use Rattle.rg_view.specs.Links.{Link, Reached, first, next, Spans, BelowSome}
use Rattle.rg_view.proofs.Callers.Held.{region-below}
use Rattle.rg_view.proofs.Callers.Link.{link-at, spans-below}
use Rattle.rg_held.specs.Frees.{is_temp, buried, bury}
use Rattle.rg_held.specs.Gone.{gone}
use Rattle.rg_held.proofs.Callers.Beneath.{beneath-first, beneath-links, beneath-all}

link-of : (store : List Seen) (p r : ℕ) → LeadsTo store store p r → Link store p r
link-of store p r l = link-at l.object l.holder l.field l.address l.there l.lies l.value l.leads

leads-of : (store : List Seen) (p r : ℕ) → Link store p r → LeadsTo store store p r
leads-of store p r l = record {
  object = l.object;
  holder = l.holder;
  there = l.there;
  lies = l.lies;
  field = l.field;
  address = l.address;
  value = l.value;
  leads = l.leads;
}

-- the definition's list names what links reach
pub beneath-spans : (store : List Seen) (bound : ℕ) → ((b r : ℕ) → region_at store b ≡ Some r → r < bound) → (tops : List ℕ)
    → Spans store tops (beneath_by_labels store bound tops)
beneath-spans store bound given tops = record {
  start = λ r i. in-among (beneath_by_labels store bound tops) r (beneath-first store bound tops r (among-in tops r i));
  along = λ p r i l. in-among (beneath_by_labels store bound tops) r
      (beneath-links store bound given tops p r (among-in (beneath_by_labels store bound tops) p i) (leads-of store p r l));
  only = λ r i. beneath-all store (Reached store tops) tops (λ q j. first (in-among tops q j)) (λ p q x l. next x (link-of store p q l)) bound r
      (among-in (beneath_by_labels store bound tops) r i);
}

-- what a release or a freeze takes: the regions and all beneath them
pub beneath-names : (p : Parts) → Serials p.cells.heap → Grove p.cells p.regions → Numbers p.regions → (tops : List ℕ)
    → Names (beneath_by_labels (store_of p.cells.heap) (length (managers_of p.regions)) tops) (BelowSome p.cells.heap p.regions tops)
beneath-names p q g n tops =
    let store = store_of p.cells.heap in
    let bound = length (managers_of p.regions) in
    spans-below p.cells.heap p.regions tops (beneath_by_labels store bound tops) q g.labels
    (beneath-spans store bound (λ a r e. region-below p.cells.heap p.regions a r q n g.labels e) tops)

-- Lists that name the same regions

abbrev pub SameAmong : (xs ys : List ℕ) → Type 0
SameAmong xs ys = (n : ℕ) → among xs n ≡ among ys n

pub same-names : (P : ℕ → Type 0) (xs ys : List ℕ) → Names xs P → Names ys P → SameAmong xs ys
same-names P xs ys a b n = by (among xs n) refl (among ys n) refl
  where
    by : (c : Truth) → among xs n ≡ c → (d : Truth) → among ys n ≡ d → among xs n ≡ among ys n
    by true e true f = e ∙ sym f
    by true e false f = absurd (false≢true (sym f ∙ b.all n (a.only n e)))
    by false e true f = absurd (false≢true (sym e ∙ a.all n (b.only n f)))
    by false e false f = e ∙ sym f

in-same : (xs ys : List ℕ) → SameAmong xs ys → (l : Label) → in_regions xs l ≡ in_regions ys l
in-same xs ys s (Region r) = s r
in-same xs ys s (Temp n) = refl
in-same xs ys s Frozen = refl

bury-same : (xs ys : List ℕ) → SameAmong xs ys → (temps : Option ℕ) (store : List Seen) → bury xs temps store ≡ bury ys temps store
bury-same xs ys s temps [] = refl
bury-same xs ys s temps (o ∷ os) =
    ap (λ b. (if b || is_temp temps o.label then gone else o) ∷ bury xs temps os) (in-same xs ys s o.label)
    ∙ ap (λ rest. buried ys temps o ∷ rest) (bury-same xs ys s temps os)

relabelled-same : (xs ys : List ℕ) → SameAmong xs ys → (label : Label) (store : List Seen)
    → relabelled xs label store ≡ relabelled ys label store
relabelled-same xs ys s label [] = refl
relabelled-same xs ys s label (o ∷ os) =
    ap (λ b. (if b then record o { label = label } else o) ∷ relabelled xs label os) (in-same xs ys s o.label)
    ∙ ap (λ rest. relabelled_object ys label o ∷ rest) (relabelled-same xs ys s label os)

-- what goes by one list goes by any other that names the same regions
pub bury-names : (P : ℕ → Type 0) (xs ys : List ℕ) → Names xs P → Names ys P → (temps : Option ℕ) (store : List Seen)
    → bury xs temps store ≡ bury ys temps store
bury-names P xs ys a b temps store = bury-same xs ys (same-names P xs ys a b) temps store
