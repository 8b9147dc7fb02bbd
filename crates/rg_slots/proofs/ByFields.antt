-- Values and contents for the fields of a class, one after another.
use Rattle.std.proofs.Common.{◌≡◌, ℕ, ◌+◌, ◌<◌, true, false, Bool, List, [], ◌∷◌, ◌++◌, length, map, filter_map, drop, get_or, Option, Some, None}
use Rattle.std.proofs.Common.{slice_get}
use Rattle.std.proofs.Common.{append_assoc, refl, sym, ap, ◌∙◌}
use Rattle.std.specs.Prelude.{if◌then◌else◌}
use Rattle.std.proofs.lemmas.List.{drop_more, map-append}
use Rattle.std.proofs.lemmas.Option.{slice_get_within, get_or_from_slice_get}
use Rattle.rg_cown.specs.Cargo.{CargoList}
use Rattle.rg_plan.specs.declared.cown.Cown.{Cown}
use Rattle.rg_sched_atomic.specs.Settings.{start_contents, start_of}
use Rattle.rg_base.specs.declared.value.Val.{Val}
use Rattle.rg_tree.specs.Rows.Tables.{Tables}
use Rattle.rg_tree.specs.Rows.RowTrees.{member_at}
use Rattle.rg_tree.specs.Tree.{Member, Field, Class}
use Rattle.rg_slots.proofs.Taken.{Next}
use Rattle.rg_slots.specs.declared.slot.Slot.{Slot}
use Rattle.rg_slots.specs.declared.slot.Slot.TheVariants as slot
use Rattle.rg_slots.specs.Slots.{content_in, first_given}
use Rattle.rg_rules.specs.Headers.{is_iso_written}
use Rattle.rg_rules.specs.RightSides.{opening_value}
use Rattle.rg_rules.specs.Types.{fields_of, members_of, field_member}
use Rattle.rg_opening.specs.declared.given.Given.{Given}
use Rattle.rg_opening.specs.declared.given.Given.TheVariants as given
use Rattle.rg_sched_atomic.specs.Contents.{Content, Held, first_of, rest_of, given_of, givens}

-- the fields of a class that is there
pub fields-are : (classes : List Class) (c : ℕ) (k : Class) (ms : List Member) → slice_get classes c ≡ Some k → ms ≡ k.members
    → filter_map field_member ms ≡ fields_of classes c
fields-are classes c k ms there are = ap (filter_map field_member) (are ∙ ap members_of (sym there))

-- a member more
pub givens-iso : (f : Field) (fs : List Field) (cs : List Content) (gs : List Given) → is_iso_written f.ty ≡ true
    → (gs ++ given_of (first_of cs) ∷ []) ++ givens fs (rest_of cs) ≡ gs ++ givens (f ∷ fs) cs
givens-iso f fs cs gs iso =
    append_assoc gs (given_of (first_of cs) ∷ []) (givens fs (rest_of cs))
    ∙ ap (λ (z : Bool). gs ++ (if z then given_of (first_of cs) else given.Start (opening_value f.ty)) ∷ givens fs (if z then rest_of cs else cs))
    (sym iso)

pub givens-other : (f : Field) (fs : List Field) (cs : List Content) (gs : List Given) → is_iso_written f.ty ≡ false
    → (gs ++ given.Start (opening_value f.ty) ∷ []) ++ givens fs cs ≡ gs ++ givens (f ∷ fs) cs
givens-other f fs cs gs other =
    append_assoc gs (given.Start (opening_value f.ty) ∷ []) (givens fs cs)
    ∙ ap (λ (z : Bool). gs ++ (if z then given_of (first_of cs) else given.Start (opening_value f.ty)) ∷ givens fs (if z then rest_of cs else cs))
    (sym other)

-- the members of a class, one after another: those that are left, where the first is a field, and where it is a method
abbrev Members : Tables → List ℕ → ℕ → List Field
Members t ms k = filter_map field_member (map (member_at t) (drop k ms))

members-next : (t : Tables) (ms : List ℕ) (k : ℕ) → k < length ms
    → Members t ms k ≡ filter_map field_member (member_at t (get_or ms k 0) ∷ map (member_at t) (drop (k + 1) ms))
members-next t ms k l = ap (λ z. filter_map field_member (map (member_at t) z)) (drop_more ms k 0 l)

pub members-field : (t : Tables) (ms : List ℕ) (k : ℕ) (f : Field) → k < length ms → field_member (member_at t (get_or ms k 0)) ≡ Some f
    → filter_map field_member (map (member_at t) (drop k ms)) ≡ f ∷ filter_map field_member (map (member_at t) (drop (k + 1) ms))
members-field t ms k f l is = members-next t ms k l ∙ some (member_at t (get_or ms k 0)) (map (member_at t) (drop (k + 1) ms)) is
  where
    some : (m : Member) (rest : List Member) → field_member m ≡ Some f → filter_map field_member (m ∷ rest) ≡ f ∷ filter_map field_member rest
    some m rest e = rw e refl

pub members-method : (t : Tables) (ms : List ℕ) (k : ℕ) → k < length ms → field_member (member_at t (get_or ms k 0)) ≡ None
    → filter_map field_member (map (member_at t) (drop k ms)) ≡ filter_map field_member (map (member_at t) (drop (k + 1) ms))
members-method t ms k l is = members-next t ms k l ∙ none (member_at t (get_or ms k 0)) (map (member_at t) (drop (k + 1) ms)) is
  where
    none : (m : Member) (rest : List Member) → field_member m ≡ None → filter_map field_member (m ∷ rest) ≡ filter_map field_member rest
    none m rest e = rw e refl

-- the next content is taken
pub first-next : (left new : List Slot) (o : Option Slot) → Next left o new
    → (given_of (first_of (map content_in left)) ≡ first_given o) × (rest_of (map content_in left) ≡ map content_in new)
first-next left new None h =
    (ap (λ z. given_of (first_of (map content_in z))) h.0, ap (λ z. rest_of (map content_in z)) h.0 ∙ ap (λ z. map content_in z) (sym h.1))
first-next left new (Some x) h = (ap (λ z. given_of (first_of (map content_in z))) h, ap (λ z. rest_of (map content_in z)) h)

pub given-iso : (before fs : List Field) (f : Field) (gs all new : List Given) (left next : List Slot) (o : Option Slot) (g : Given)
    → before ≡ f ∷ fs → gs ++ givens before (map content_in left) ≡ all → is_iso_written f.ty ≡ true → Next left o next → g ≡ first_given o →
    new ≡ gs ++ g ∷ []
    → new ++ givens fs (map content_in next) ≡ all
given-iso before fs f gs all new left next o g first h iso step is more =
    let p = first-next left next o step in
    ap (λ z. z ++ givens fs (map content_in next)) more
    ∙ ap (λ z. (gs ++ z ∷ []) ++ givens fs (map content_in next)) (is ∙ sym p.0)
    ∙ ap (λ z. (gs ++ given_of (first_of (map content_in left)) ∷ []) ++ givens fs z) (sym p.1)
    ∙ givens-iso f fs (map content_in left) gs iso ∙ ap (λ z. gs ++ givens z (map content_in left)) (sym first) ∙ h

pub given-other : (before fs : List Field) (f : Field) (gs all new : List Given) (left : List Slot) (g : Given)
    → before ≡ f ∷ fs → gs ++ givens before (map content_in left) ≡ all → is_iso_written f.ty ≡ false → g ≡ given.Start (opening_value f.ty) →
    new ≡ gs ++ g ∷ []
    → new ++ givens fs (map content_in left) ≡ all
given-other before fs f gs all new left g first h other is more =
    ap (λ z. z ++ givens fs (map content_in left)) (more ∙ ap (λ z. gs ++ z ∷ []) is) ∙ givens-other f fs (map content_in left) gs other
    ∙ ap (λ z. gs ++ givens z (map content_in left)) (sym first) ∙ h

-- a value more
pub value-more : (before fs : List Field) (f : Field) (vs all new : List Val) → before ≡ f ∷ fs
    → vs ++ map (λ (g : Field). opening_value g.ty) before ≡ all → new ≡ vs ++ opening_value f.ty ∷ []
    → new ++ map (λ (g : Field). opening_value g.ty) fs ≡ all
value-more before fs f vs all new first h more =
    ap (λ z. z ++ map (λ (g : Field). opening_value g.ty) fs) more
    ∙ append_assoc vs (opening_value f.ty ∷ []) (map (λ (g : Field). opening_value g.ty) fs)
    ∙ ap (λ z. vs ++ map (λ (g : Field). opening_value g.ty) z) (sym first) ∙ h

-- the cowns of a plan, one after another

drop-at : {X : Type 0} → (xs : List X) (n : ℕ) (x : X) → slice_get xs n ≡ Some x → drop n xs ≡ x ∷ drop (n + 1) xs
drop-at xs n x there =
    drop_more xs n x (slice_get_within xs n x there) ∙ ap (λ z. z ∷ drop (n + 1) xs) (get_or_from_slice_get xs n x x there)

pub opens-next : (classes : List Class) (cowns : List Cown) (n : ℕ) (c : Cown) (left next : List CargoList) (image content : CargoList)
    (slots new : List Slot) (all : List Content) → slice_get cowns n ≡ Some c → left ≡ image ∷ next
    → map content_in slots ++ map Held (start_contents classes (drop n cowns) left) ≡ all
    → content ≡ start_of classes c.class image c.start → new ≡ slots ++ slot.Held content ∷ []
    → map content_in new ++ map Held (start_contents classes (drop (n + 1) cowns) next) ≡ all
opens-next classes cowns n c left next image content slots new all there more h is grown =
    ap (λ z. map content_in z ++ map Held (start_contents classes (drop (n + 1) cowns) next)) grown
    ∙ ap (λ z. z ++ map Held (start_contents classes (drop (n + 1) cowns) next)) (map-append content_in slots (slot.Held content ∷ []))
    ∙ append_assoc (map content_in slots) (Held content ∷ []) (map Held (start_contents classes (drop (n + 1) cowns) next))
    ∙ ap (λ z. map content_in slots ++ Held z ∷ map Held (start_contents classes (drop (n + 1) cowns) next)) is
    ∙ ap (λ z. map content_in slots ++ map Held (start_contents classes z (image ∷ next))) (sym (drop-at cowns n c there))
    ∙ ap (λ z. map content_in slots ++ map Held (start_contents classes (drop n cowns) z)) (sym more)
    ∙ h

right-nil : {X : Type 0} → (xs : List X) → xs ++ [] ≡ xs
right-nil [] = refl
right-nil (x ∷ xs) = ap (λ z. x ∷ z) (right-nil xs)

pub opens-short : (classes : List Class) (cowns : List Cown) (n : ℕ) (c : Cown) (left : List CargoList) (slots : List Slot) (all : List Content)
    → slice_get cowns n ≡ Some c → left ≡ [] → map content_in slots ++ map Held (start_contents classes (drop n cowns) left) ≡ all
    → map content_in slots ≡ all
opens-short classes cowns n c left slots all there none h =
    sym (right-nil (map content_in slots))
    ∙ ap (λ z. map content_in slots ++ map Held (start_contents classes z [])) (sym (drop-at cowns n c there))
    ∙ ap (λ z. map content_in slots ++ map Held (start_contents classes (drop n cowns) z)) (sym none)
    ∙ h
