-- Owner references in an object, field by field, and lists of the regions to which they lead.
use Rattle.std.proofs.Common.{◌≡◌, ℕ, zero, suc, ◌+◌, ◌<◌, ◌≤◌, ◌==◌, Bool, true, false, if◌then◌else◌, List, [], ◌∷◌, ◌++◌, length, get_or, drop}
use Rattle.std.proofs.Common.{take, filter_map, option_to_list, Some, set, refl, sym, ◌∙◌, ap, arith, append_assoc, append-nil, add-one, Vec, Global}
use Rattle.std.proofs.Common.{map, subst}
use Rattle.std.proofs.lemmas.Bool.{eqb-true, eq-eqb, true≢false}
use Rattle.std.proofs.lemmas.List.{drop_all, drop_more, length-map, get_or-map, take_all, take_more}
use Rattle.std.proofs.lemmas.List.Elements.{filter_map-append}
use Rattle.rg_base.specs.declared.object.Seen.{Seen}
use Rattle.rg_base.specs.declared.value.Val.{Val}
use Rattle.rg_base.specs.declared.value.Val.TheVariants as val
use Rattle.rg_base.specs.declared.object.Label.{Label}
use Rattle.rg_base.specs.declared.object.Label.TheVariants.{Region, Temp, Frozen}
use Rattle.rg_tree.specs.Tree.{Class, Field, Member}
use Rattle.rg_tree.specs.Rows.Tables.{Tables}
use Rattle.rg_tree.specs.Rows.RowTrees.{classes_of, member_at}
use Rattle.rg_rules.specs.Types.{fields_of, field_member}
use Rattle.rg_rules.specs.Regions.{address, region_of, region_at, owned_as, owned_in, in_regions, led_from}
use Rattle.rg_store.specs.declared.objects.ObjectRow.{ObjectRow}
use Rattle.rg_store.specs.Links.{listed}
use Rattle.rg_store.specs.Inner.Found.{links_in}
use Rattle.rg_store.specs.Shown.{seen_of, store_of}
use Rattle.rg_store.proofs.Among.{among-one}
use Rattle.rg_store.proofs.List.{listed-here, listed-other, listed-read}

owned-more : (cs : List Class) (f : Field) (fs : List Field) (vs : List Val) (place : ℕ) (d : Val) → place < length vs →
    owned_in cs (f ∷ fs) (drop place vs) ≡ option_to_list (owned_as cs f (get_or vs place d)) ++ owned_in cs fs (drop (suc place) vs)
owned-more cs f fs [] place d within = absurd (omega arith)
owned-more cs f fs (v ∷ vs) zero d within = refl
owned-more cs f fs (v ∷ vs) (suc place) d within = owned-more cs f fs vs place d (omega arith)

-- the reference in one more field was followed
pub links-more : (cs : List Class) (st : List Seen) (f : Field) (fs : List Field) (vs : List Val) (place : ℕ) (d : Val) (old new : List ℕ) →
    place < length vs → new ≡ old ++ filter_map (region_at st) (option_to_list (owned_as cs f (get_or vs place d))) →
    new ++ filter_map (region_at st) (owned_in cs fs (drop (place + 1) vs)) ≡ old ++ filter_map (region_at st) (owned_in cs (f ∷ fs) (drop place vs))
links-more cs st f fs vs place d old new within new_is =
    let h = region_at st in
    let here = option_to_list (owned_as cs f (get_or vs place d)) in
    let rest = owned_in cs fs (drop (suc place) vs) in
    ap (λ n. new ++ filter_map h (owned_in cs fs (drop n vs))) (add-one place) ∙ ap (λ q. q ++ filter_map h rest) new_is
    ∙ append_assoc old (filter_map h here) (filter_map h rest) ∙ ap (λ q. old ++ q) (sym (filter_map-append h here rest))
    ∙ ap (λ q. old ++ filter_map h q) (sym (owned-more cs f fs vs place d within))

-- without values there are none
pub owned-none : (cs : List Class) (fs : List Field) → owned_in cs fs [] ≡ []
owned-none cs [] = refl
owned-none cs (f ∷ fs) = refl

-- at the end of the values there are no more links
pub links-end : (t : Tables) (st : List Seen) (m : Member) (rest : List Member) (vs : List Val) (links : List ℕ) (n : ℕ) → length vs ≤ n →
    links ++ links_in t st rest (drop n vs) ≡ links ++ links_in t st (m ∷ rest) (drop n vs)
links-end t st m rest vs links n past =
    let h = region_at st in
    let end = drop_all n vs past in
    ap (λ q. links ++ links_in t st rest q) end
    ∙ ap (λ q. links ++ filter_map h q) (owned-none (classes_of t) (filter_map field_member rest)
    ∙ sym (owned-none (classes_of t) (filter_map field_member (m ∷ rest))))
    ∙ ap (λ q. links ++ links_in t st (m ∷ rest) q) (sym end)

-- one more member was added
pub links-turn : (t : Tables) (st : List Seen) (numbers : List ℕ) (i before n : ℕ) (values fields : List Val) (old new whole : List ℕ) →
    i < length numbers → values ≡ fields →
    ((rest : List Member) →
    new ++ links_in t st rest (drop n values) ≡ old ++ links_in t st (member_at t (get_or numbers i 0) ∷ rest) (drop before values)) →
    old ++ links_in t st (map (member_at t) (drop i numbers)) (drop before fields) ≡ whole →
    new ++ links_in t st (map (member_at t) (drop (i + 1) numbers)) (drop n fields) ≡ whole
links-turn t st numbers i before n values fields old new whole within same added known =
    let rest = map (member_at t) (drop (i + 1) numbers) in
    let m = member_at t (get_or numbers i 0) in
    subst (λ vs. new ++ links_in t st rest (drop n vs) ≡ old ++ links_in t st (m ∷ rest) (drop before vs)) same (added rest)
    ∙ ap (λ ns. old ++ links_in t st (map (member_at t) ns) (drop before fields)) (sym (drop_more numbers i 0 within)) ∙ known

led-cons : (v : Val) (vs : List Val) → filter_map address (v ∷ vs) ≡ option_to_list (address v) ++ filter_map address vs
led-cons val.Nil vs = refl
led-cons (val.Int z) vs = refl
led-cons (val.Bool b) vs = refl
led-cons (val.Obj n) vs = refl

-- the reference in one more value was followed
pub led-turn : (st : List Seen) (values : List Val) (i : ℕ) (d : Val) (old new whole : List ℕ) → i < length values →
    new ≡ old ++ filter_map (region_at st) (option_to_list (address (get_or values i d))) →
    old ++ filter_map (region_at st) (filter_map address (drop i values)) ≡ whole →
    new ++ filter_map (region_at st) (filter_map address (drop (i + 1) values)) ≡ whole
led-turn st values i d old new whole within new_is known =
    let h = region_at st in
    let here = option_to_list (address (get_or values i d)) in
    let rest = filter_map address (drop (i + 1) values) in
    ap (λ q. q ++ filter_map h rest) new_is ∙ append_assoc old (filter_map h here) (filter_map h rest)
    ∙ ap (λ q. old ++ q) (sym (filter_map-append h here rest))
    ∙ ap (λ q. old ++ filter_map h q) (sym (led-cons (get_or values i d) (drop (i + 1) values)))
    ∙ ap (λ q. old ++ filter_map h (filter_map address q)) (sym (drop_more values i d within)) ∙ known

region-label : (l : Label) (r : ℕ) → Some r ≡ region_of l → l ≡ Region r
region-label (Region q) r is = let same : q ≡ r = cc in ap Region same
region-label (Temp n) r is = cc
region-label Frozen r is = cc

-- the links of an object of a region
one-label : (l : Label) (region r : ℕ) (links : List ℕ) → l ≡ Region region →
    (if in_regions (r ∷ []) l then links ++ [] else []) ≡ (if r == region then links ++ [] else [])
one-label l region r links is =
    ap (λ q. if in_regions (r ∷ []) q then links ++ [] else []) is ∙ ap (λ b. if b then links ++ [] else []) (among-one r region)

-- the list of a region got more
pub listed-added : (lists : List (Vec ℕ Global)) (label : Label) (region : ℕ) (old v : Vec ℕ Global) (more links : List ℕ) →
    Some region ≡ region_of label → region < length lists → old ≡ get_or lists region old → v.items ≡ old.items ++ more → more ≡ links → (r : ℕ) →
    listed (set lists region v) r ≡ listed lists r ++ (if in_regions (r ∷ []) label then links ++ [] else [])
listed-added lists label region old v more links label_is within old_is v_is same r =
    by (r == region) refl ∙ ap (λ q. listed lists r ++ (if r == region then q ++ [] else [])) same
    ∙ ap (λ q. listed lists r ++ q) (sym (one-label label region r links (region-label label region label_is)))
  where
    by : (b : Bool) → (r == region) ≡ b → listed (set lists region v) r ≡ listed lists r ++ (if r == region then more ++ [] else [])
    by true same =
        let is : r ≡ region = eqb-true r region same in
        ap (listed (set lists region v)) is ∙ listed-here lists region v within ∙ v_is
        ∙ ap (λ q. q ++ more) (listed-read lists region old within old_is) ∙ ap (λ n. listed lists n ++ more) (sym is)
        ∙ ap (λ q. listed lists r ++ q) (sym (append-nil more)) ∙ ap (λ b. listed lists r ++ (if b then more ++ [] else [])) (sym same)
    by false other =
        listed-other lists region r v (λ e. true≢false (sym (eq-eqb r region e) ∙ other)) ∙ sym (append-nil (listed lists r))
        ∙ ap (λ b. listed lists r ++ (if b then more ++ [] else [])) (sym other)

-- the owner references of an object, by its label
pub owned-label : (cs : List Class) (st : List Seen) (o : Seen) (r : ℕ) →
    (if in_regions (r ∷ []) o.label then filter_map (region_at st) (owned_in cs (fields_of cs o.class) o.fields) ++ [] else [])
    ≡ led_from cs st (in_regions (r ∷ [])) (o ∷ [])
owned-label cs st o r = by o.label
  where
    by : (l : Label) →
        (if in_regions (r ∷ []) l then filter_map (region_at st) (owned_in cs (fields_of cs o.class) o.fields) ++ [] else [])
        ≡ led_from cs st (in_regions (r ∷ [])) (record o { label = l } ∷ [])
    by (Region q) = refl
    by (Temp n) = refl
    by Frozen = refl

-- the objects up to a place, and that at it
pub store_of-more : (store : List ObjectRow) (i : ℕ) (o : ObjectRow) → i < length store → o ≡ get_or store i o →
    take i (store_of store) ++ seen_of o ∷ [] ≡ take (i + 1) (store_of store)
store_of-more store i o within is =
    let short : i < length (store_of store) = omega (arith, length-map store seen_of) in
    ap (λ q. take i (store_of store) ++ q ∷ []) (ap seen_of is ∙ sym (get_or-map seen_of store i o (seen_of o) within))
    ∙ sym (take_more (store_of store) i (seen_of o) short)

-- all objects
pub store_of-whole : (store : List ObjectRow) (i : ℕ) → length store ≤ i → take i (store_of store) ≡ store_of store
store_of-whole store i whole = take_all i (store_of store) (omega (arith, length-map store seen_of))
