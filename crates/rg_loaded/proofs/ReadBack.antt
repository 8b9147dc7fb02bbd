-- A sound list that is read object by object is that list (docs/architecture.md, "Cargo").
use Rattle.std.proofs.Common.{◌≡◌, ℕ, zero, suc, ◌+◌, ◌<◌, ◌≤◌, List, [], ◌∷◌, ◌++◌, length, Option, Some, None, slice_get, refl, sym, ap, ◌∙◌}
use Rattle.std.proofs.Common.{Bool as Truth, true, false, if◌then◌else◌, option_and_then, inl, inr, arith}
use Rattle.std.specs.Prelude.{nat_eq, nat_lt}
use Rattle.std.specs.List.{range_with_len}
use Rattle.std.proofs.lemmas.List.{append-nil, append_assoc, length_push}
use Rattle.std.proofs.lemmas.List.FromFn.{length-range_with_len}
use Rattle.std.proofs.lemmas.Option.{same_Some, slice_get_past}
use Rattle.indexmap.specs.IndexSet.{insert_key}
use Rattle.rg_base.specs.declared.object.Label.{Label}
use Rattle.rg_base.specs.declared.object.Label.TheVariants.{Region, Temp, Frozen}
use Rattle.rg_base.specs.declared.object.Seen.{Seen}
use Rattle.rg_base.specs.declared.value.Val.{Val}
use Rattle.rg_base.specs.declared.value.Val.TheVariants.{Nil, Int, Bool, Obj}
use Rattle.rg_cown.specs.declared.cargo.CargoCell.{CargoCell}
use Rattle.rg_cown.specs.Cargo.{CargoList, SoundCargo, named, named_in, named_from, region_named, regions_named}
use Rattle.rg_cown.specs.Contents.{Reading, all_met, new_fields, region_met, new_label, with_object, read_on, from_object, no_object}
use Rattle.rg_cown.specs.Cargo.{label_from}
use Rattle.rg_cown.proofs.SoundParts.{less_or_not, between, parts_of, count_is}
use Rattle.rg_loaded.proofs.Following.{number-at, named-met}

-- the object of a number, where regions are counted from a number on
abbrev pub counted-from : ℕ → Option CargoCell → Seen
counted-from b None = no_object
counted-from b (Some c) = record { class = c.class; fields = c.fields; label = label_from b c.label }

abbrev pub listed : ℕ → List CargoCell → ℕ → Seen
listed b cells k = counted-from b (slice_get cells k)

-- so many objects are met, and so many regions, and these objects are read
abbrev pub so-far : (b objects regions : ℕ) → List CargoCell → Reading
so-far b n r cells = record { order = range_with_len 0 n; regions = range_with_len b r; cells = cells }

-- fields that name objects by the rule keep their numbers
record Fields (n m : ℕ) (vs : List Val) : Type 0 where
  met : all_met (range_with_len 0 n) vs ≡ range_with_len 0 m
  kept : new_fields (range_with_len 0 n) vs ≡ vs

fields-kept : (vs : List Val) (n m : ℕ) → named_in n vs ≡ Some m → Fields n m vs
fields-kept [] n m e = record { met = ap (range_with_len 0) (same_Some n m e); kept = refl }
fields-kept (Nil ∷ vs) n m e = let r = fields-kept vs n m e in record { met = r.met; kept = ap (λ z. Nil ∷ z) r.kept }
fields-kept (Int i ∷ vs) n m e = let r = fields-kept vs n m e in record { met = r.met; kept = ap (λ z. Int i ∷ z) r.kept }
fields-kept (Bool b ∷ vs) n m e = let r = fields-kept vs n m e in record { met = r.met; kept = ap (λ z. Bool b ∷ z) r.kept }
fields-kept (Obj a ∷ vs) n m e =
    let b = between (named n a) (λ x. named_in x vs) m e in
    let k = named-met 0 n a b.0 a b.1 (omega arith) in
    let r = fields-kept vs b.0 m b.2 in
    record {
      met = ap (λ z. all_met z vs) k.keys ∙ r.met;
      kept = ap (λ z. Obj z ∷ new_fields (insert_key nat_eq (range_with_len 0 n) a) vs) k.place
          ∙ ap (λ z. Obj a ∷ new_fields z vs) k.keys ∙ ap (λ z. Obj a ∷ z) r.kept;
    }

-- so does a label
record Labelled (b n m : ℕ) (l : Label) : Type 0 where
  met : region_met (range_with_len b n) (label_from b l) ≡ range_with_len b m
  kept : new_label (range_with_len b n) (label_from b l) ≡ l

label-kept : (b : ℕ) (l : Label) (n m : ℕ) → region_named n l ≡ Some m → Labelled b n m l
label-kept b (Region r) n m e = let k = named-met b n r m (b + r) e refl in record { met = k.keys; kept = ap Region k.place }
label-kept b (Temp t) n m e = cc
label-kept b Frozen n m e = record { met = ap (range_with_len b) (same_Some n m e); kept = refl }

-- one object more is read as it stands in the list
object-kept : (b n m r q : ℕ) (front : List CargoCell) (c : CargoCell) → Fields n m c.fields → Labelled b r q c.label
    → with_object (counted-from b (Some c)) (so-far b n r front) ≡ so-far b m q (front ++ c ∷ [])
object-kept b n m r q front c f l =
    let fields = new_fields (range_with_len 0 n) c.fields in
    let label = new_label (range_with_len b r) (label_from b c.label) in
    let regions = region_met (range_with_len b r) (label_from b c.label) in
    let F : List ℕ → Reading = λ z. record {
      order = z;
      regions = regions;
      cells = front ++ record { class = c.class; label = label; fields = fields } ∷ [];
    } in
    let G : List ℕ → Reading = λ z. record {
      order = range_with_len 0 m;
      regions = z;
      cells = front ++ record { class = c.class; label = label; fields = fields } ∷ [];
    } in
    let H : Label → Reading = λ z. record {
      order = range_with_len 0 m;
      regions = range_with_len b q;
      cells = front ++ record { class = c.class; label = z; fields = fields } ∷ [];
    } in
    let K : List Val → Reading = λ z. record {
      order = range_with_len 0 m;
      regions = range_with_len b q;
      cells = front ++ record { class = c.class; label = c.label; fields = z } ∷ [];
    } in
    ap F f.met ∙ ap G l.met ∙ ap H l.kept ∙ ap K f.kept

opened : (at : ℕ → Seen) (n : ℕ) (s : Reading) (a : ℕ) → slice_get s.order (length s.cells) ≡ Some a
    → read_on at (suc n) s ≡ read_on at n (with_object (at a) s)
unfolding read_on
opened at n s a e = rw (e, read_on) refl

ended : (at : ℕ → Seen) (n : ℕ) (s : Reading) → slice_get s.order (length s.cells) ≡ None → read_on at n s ≡ s
unfolding read_on
ended at zero s e = refl
ended at (suc n) s e = rw (e, read_on) refl

-- what the numbers of one object more have between
record Turn (place n m : ℕ) (c : CargoCell) (cs : List CargoCell) : Type 0 where
  named : place < n
  given : ℕ
  fields : named_in n c.fields ≡ Some given
  rest : named_from (suc place) given cs ≡ Some m

turn : (place n m : ℕ) (c : CargoCell) (rest : List CargoCell) → named_from place n (c ∷ rest) ≡ Some m → Turn place n m c rest
turn place n m c rest e = elim (less_or_not place n) [
  | inl t ↦
      let b = between (named_in n c.fields) (λ x. named_from (suc place) x rest) m (sym (chosen true t.0) ∙ e) in
      record { named = t.1; given = b.0; fields = b.1; rest = b.2 }
  | inr t ↦ absurd (none-some (sym (chosen false t.0) ∙ e))
]
  where
    behind : Option ℕ
    behind = option_and_then (λ x. named_from (suc place) x rest) (named_in n c.fields)

    chosen : (b : Truth) → nat_lt place n ≡ b → named_from place n (c ∷ rest) ≡ (if b then behind else None)
    chosen b q = ap (λ z. if z then behind else None) q

    none-some : None ≡ Some m → ⊥
    none-some z = cc

seam : (front : List CargoCell) (c : CargoCell) (rest : List CargoCell) → slice_get (front ++ c ∷ rest) (length front) ≡ Some c
seam [] c rest = refl
seam (x ∷ front) c rest = seam front c rest

-- what is left is read as it stands
record Left (all front rest : List CargoCell) (place n r q : ℕ) : Type 0 where
  parts : all ≡ front ++ rest
  read : place ≡ length front
  objects : named_from place n rest ≡ Some (length all)
  regions : regions_named r rest ≡ Some q

read-left : (b : ℕ) (all front rest : List CargoCell) (place n r q most : ℕ) → Left all front rest place n r q → length rest ≤ most
    → read_on (listed b all) most (so-far b n r front) ≡ so-far b (length all) q all
read-left b all front [] place n r q most w few =
    let same : all ≡ front = w.parts ∙ append-nil front in
    let met = same_Some n (length all) w.objects in
    let many : length all ≡ length front = ap (λ (z : List CargoCell). length z) same in
    let long = length-range_with_len 0 n in
    ended (listed b all) most (so-far b n r front) (slice_get_past (range_with_len 0 n) (length front) (omega (arith, many, long, met)))
    ∙ ap (λ z. so-far b z r front) met
    ∙ ap (λ z. so-far b (length all) z front) (same_Some r q w.regions)
    ∙ ap (λ z. so-far b (length all) q z) (sym same)
read-left b all front (c ∷ rest) place n r q zero w few = absurd (omega (arith, few))
read-left b all front (c ∷ rest) place n r q (suc most) w few =
    let t = turn place n (length all) c rest w.objects in
    let l = between (region_named r c.label) (λ z. regions_named z rest) q w.regions in
    let here : slice_get all place ≡ Some c =
    ap (λ z. slice_get z place) w.parts ∙ ap (slice_get (front ++ c ∷ rest)) w.read ∙ seam front c rest in
    let next : slice_get (range_with_len 0 n) (length front) ≡ Some place =
    ap (slice_get (range_with_len 0 n)) (sym w.read) ∙ number-at 0 n place t.named ∙ ap Some (plus place) in
    let pushed = length_push front c in
    let was = w.read in
    opened (listed b all) most (so-far b n r front) place next
    ∙ ap (λ z. read_on (listed b all) most (with_object (counted-from b z) (so-far b n r front))) here
    ∙ ap (read_on (listed b all) most)
    (object-kept b n t.given r l.0 front c (fields-kept c.fields n t.given t.fields) (label-kept b c.label r l.0 l.1))
    ∙ read-left b all (front ++ c ∷ []) rest (suc place) t.given l.0 q most (record {
      parts = w.parts ∙ sym (append_assoc front (c ∷ []) rest);
      read = omega (arith, pushed, was);
      objects = t.rest;
      regions = l.2;
    }) (omega (arith, few))
  where
    plus : (k : ℕ) → 0 + k ≡ k
    plus k = omega arith

-- so a sound list is read whole, in as many turns as it has objects, or more
pub read-back : (b most : ℕ) (c : CargoList) → SoundCargo c → length c.cells ≤ most
    → read_on (listed b c.cells) most (from_object 0) ≡ so-far b (length c.cells) (length c.managers) c.cells
read-back b most c s enough =
    let p = parts_of c s in
    read-left b c.cells [] c.cells 0 1 0 (length c.managers) most (record {
      parts = refl;
      read = refl;
      objects = count_is (length c.cells) (named_from 0 1 c.cells) p.objects;
      regions = count_is (length c.managers) (regions_named 0 c.cells) p.regions;
    }) enough
