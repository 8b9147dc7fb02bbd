-- Each turn of rewriting the fields of a cell (docs/architecture.md, "A manager that moves its cells").
use Rattle.std.proofs.Common.{◌≡◌, ◌≢◌, ℕ, ◌+◌, ◌<◌, zero, suc, List, [], ◌∷◌, length, Option, Some, None, IsSome}
use Rattle.std.proofs.Common.{refl, ap, sym, ◌∙◌, subst, arith, inl, inr, get_or, set, slice_get, option_map}
use Rattle.std.proofs.Common.{option_and_then, cond, count_by, is_some, unwrap_or}
use Rattle.std.proofs.lemmas.List.{get_or-set_same, get_or-set_other, get_or_past}
use Rattle.std.proofs.lemmas.Bool.{cases_eq, cases_lt}
use Rattle.std.proofs.lemmas.List.Sums.{sum_by-cons}
use Rattle.rg_base.specs.declared.value.Word.{Word}
use Rattle.rg_base.specs.declared.value.Word.TheVariants.{Nil, Int, Bool as Truth, Slot}
use Rattle.rg_cells.specs.declared.cell.Body.{Body}
use Rattle.rg_cells.specs.Table.{Heap, Table, body_at, body_in, field_at, label_at, link_at, width, IsHeld, with_field}
use Rattle.rg_cells.specs.Table.{with_body, high_of}
use Rattle.rg_cells.proofs.Shown.{field-of}
use Rattle.rg_regions.specs.Reach.{belongs}
use Rattle.rg_copy.specs.Inner.Moves.{target, moved_word, first_changed, first_fields, all_fields, ForwardsFirst, Forwards}
use Rattle.rg_copy.proofs.Words.{first-get, first-set, first-all, first-length, map-agree}

-- a slot with a body
pub held_slot : (h : Heap) (s : ℕ) (b : Body) → body_at h s ≡ Some b → get_or h.slots s None ≡ Some (Some b)
held_slot h s b e = by_slot (get_or h.slots s None) e
  where
    by_slot : (x : Option (Option Body)) → body_in x ≡ Some b → x ≡ Some (Some b)
    by_slot None e = cc
    by_slot (Some o) e = ap Some e

pub held_within : (h : Heap) (s : ℕ) (b : Body) → body_at h s ≡ Some b → s < length h.slots
held_within h s b e = elim (cases_lt s (length h.slots)) [
  | inl m ↦ m
  | inr m ↦
      let q : body_at h s ≡ None = ap body_in (get_or_past h.slots s None m) in
      let z : None ≡ Some b = sym q ∙ e in
      cc
]

-- another body at a held slot: as many slots were ever held
pub count-held : (xs : List (Option (Option Body))) (s : ℕ) (o v : Option Body) → get_or xs s None ≡ Some o
    → count_by is_some (set xs s (Some v)) ≡ count_by is_some xs
count-held [] s o v e = cc
count-held (x ∷ xs) zero o v e = rw e
count-held (x ∷ xs) (suc s) o v e =
    let ih : count_by is_some (set xs s (Some v)) ≡ count_by is_some xs = count-held xs s o v e in
    sum_by-cons (λ y. cond (is_some y) 1 0) x (set xs s (Some v)) ∙ ap (λ n. cond (is_some x) 1 0 + n) ih
    ∙ sym (sum_by-cons (λ y. cond (is_some y) 1 0) x xs)

pub body-here : (h : Heap) (s : ℕ) (b d : Body) → body_at h s ≡ Some b → body_at (with_body h s d) s ≡ Some d
body-here h s b d e = ap body_in (get_or-set_same h.slots s (Some (Some d)) None (held_within h s b e))

pub body-other : (h : Heap) (s x : ℕ) (d : Body) → x ≢ s → body_at (with_body h s d) x ≡ body_at h x
body-other h s x d n = ap body_in (get_or-set_other h.slots s x (Some (Some d)) None n)

-- a word goes the same way by tables that agree
pub moved-agree : (f g : ℕ → Option ℕ) → ((x : ℕ) → f x ≡ g x) → (w : Word) → moved_word f w ≡ moved_word g w
moved-agree f g h Nil = refl
moved-agree f g h (Int i) = refl
moved-agree f g h (Truth b) = refl
moved-agree f g h (Slot x) = ap (λ (o : Option ℕ). Slot (unwrap_or o x)) (h x)

pub fields-agree : (f g : ℕ → Option ℕ) → ((x : ℕ) → f x ≡ g x) → (o : Option Body)
    → option_map (all_fields (moved_word f)) o ≡ option_map (all_fields (moved_word g)) o
fields-agree f g h None = refl
fields-agree f g h (Some b) =
    ap (λ (ws : List Word). Some (record b { fields = ws }))
    (map-agree (moved_word f) (moved_word g) (moved-agree f g h) b.fields)

-- labels and widths stay
pub label-all : (f : Word → Word) (o : Option Body)
    → option_map (λ (b : Body). b.label) (option_map (all_fields f) o) ≡ option_map (λ (b : Body). b.label) o
label-all f None = refl
label-all f (Some b) = refl

label-first : (f : Word → Word) (k : ℕ) (o : Option Body)
    → option_map (λ (b : Body). b.label) (option_map (first_fields f k) o) ≡ option_map (λ (b : Body). b.label) o
label-first f k None = refl
label-first f k (Some b) = refl

width-first : (f : Word → Word) (k : ℕ) (o : Option Body) → width (option_map (first_fields f k) o) ≡ width o
width-first f k None = refl
width-first f k (Some b) = first-length f k b.fields

field-first : (f : Word → Word) (k : ℕ) (o : Option Body)
    → option_and_then (λ (b : Body). slice_get b.fields k) (option_map (first_fields f k) o)
    ≡ option_and_then (λ (b : Body). slice_get b.fields k) o
field-first f k None = refl
field-first f k (Some b) = first-get f k b.fields

none-first : (f : Word → Word) (o : Option Body) → o ≡ option_map (first_fields f zero) o
none-first f None = refl
none-first f (Some b) = refl

whole-first : (f : Word → Word) (o : Option Body)
    → option_map (first_fields f (width o)) o ≡ option_map (all_fields f) o
whole-first f None = refl
whole-first f (Some b) = ap (λ (ws : List Word). Some (record b { fields = ws })) (first-all f b.fields)

-- the same labels and links: words go the same way
pub target-agree : (p t : Table) (r : ℕ) → t.links ≡ p.links
    → ((s : ℕ) → label_at t.heap s ≡ label_at p.heap s) → (s : ℕ) → target t r s ≡ target p r s
target-agree p t r l h s =
    ap (λ b. cond b (link_at t s) None) (same_region (body_at t.heap s) (body_at p.heap s) (h s))
    ∙ ap (λ (ls : List (Option ℕ)). cond (belongs r (body_at p.heap s)) (get_or ls s None) None) l
  where
    same_region : (a b : Option Body)
        → option_map (λ (b : Body). b.label) a ≡ option_map (λ (b : Body). b.label) b → belongs r a ≡ belongs r b
    same_region None None e = refl
    same_region None (Some b) e = cc
    same_region (Some a) None e = cc
    same_region (Some a) (Some b) e = let q : a.label ≡ b.label = cc in rw q refl

module _ (r slot k : ℕ) (old t : Table) (w : ForwardsFirst r slot k old t) where
  pub first-labels : (s : ℕ) → label_at t.heap s ≡ label_at old.heap s
  first-labels s = elim (cases_eq s slot) [
    | inl e ↦
        let P : ℕ → Type 0 = λ z. label_at t.heap z ≡ label_at old.heap z in
        subst P (sym e) (ap (option_map (λ (b : Body). b.label)) w.here
        ∙ label-first (moved_word (target old r)) k (body_at old.heap slot))
    | inr d ↦ ap (option_map (λ (b : Body). b.label)) (w.others s d)
  ]

  pub first-target : (s : ℕ) → target t r s ≡ target old r s
  first-target = target-agree old t r w.links first-labels

  pub first-width : width (body_at t.heap slot) ≡ width (body_at old.heap slot)
  first-width = ap width w.here ∙ width-first (moved_word (target old r)) k (body_at old.heap slot)

  pub first-field : field_at t.heap slot k ≡ field_at old.heap slot k
  first-field = ap (option_and_then (λ (b : Body). slice_get b.fields k)) w.here
      ∙ field-first (moved_word (target old r)) k (body_at old.heap slot)

  pub first-held : (s : ℕ) → IsHeld old.heap s → IsHeld t.heap s
  first-held s l = by_label (body_at old.heap s) (body_at t.heap s) (first-labels s) l
    where
      by_label : (a b : Option Body)
          → option_map (λ (b : Body). b.label) b ≡ option_map (λ (b : Body). b.label) a → IsSome a → IsSome b
      by_label None b e l = cc
      by_label (Some a) None e l = cc
      by_label (Some a) (Some b) e l = refl

  -- the next field is rewritten
  pub first-next : (v a : Word) (new : Table) → field_at t.heap slot k ≡ Some v → a ≡ moved_word (target t r) v
      → new ≡ record t { heap = with_field t.heap slot k a } → ForwardsFirst r slot (k + 1) old new
  first-next v a new e is n =
      by_body (body_at old.heap slot) refl
    where
      f : Word → Word
      f = moved_word (target old r)

      by_body : (o : Option Body) → body_at old.heap slot ≡ o → ForwardsFirst r slot (k + 1) old new
      by_body None q =
          let z : field_at old.heap slot k ≡ None = ap (option_and_then (λ (b : Body). slice_get b.fields k)) q in
          let y : None ≡ Some v = sym z ∙ sym first-field ∙ e in
          cc
      by_body (Some b) q =
          let now : body_at t.heap slot ≡ Some (first_fields f k b) = w.here ∙ ap (option_map (first_fields f k)) q in
          let there : slice_get b.fields k ≡ Some v =
          sym (ap (option_and_then (λ (b : Body). slice_get b.fields k)) q) ∙ sym first-field ∙ e in
          let word : a ≡ f v = is ∙ moved-agree (target t r) (target old r) first-target v in
          let fields : set (first_changed f k b.fields) k a ≡ first_changed f (suc k) b.fields =
          ap (λ y. set (first_changed f k b.fields) k y) word ∙ first-set f k b.fields v there in
          let N : Body = record b { fields = set (first_changed f k b.fields) k a } in
          let h : new.heap ≡ with_body t.heap slot N = ap (λ (z : Table). z.heap) n
          ∙ field-of t.heap slot k a (first_fields f k b) now in
          let one : suc k ≡ k + 1 = omega arith in
          record {
            marks = ap (λ (z : Table). z.marks) n ∙ w.marks;
            links = ap (λ (z : Table). z.links) n ∙ w.links;
            next = ap (λ (z : Heap). z.next) h ∙ w.next;
            high = ap (λ (z : Heap). high_of z) h
                ∙ count-held t.heap.slots slot (Some (first_fields f k b)) (Some N)
                (held_slot t.heap slot (first_fields f k b) now) ∙ w.high;
            here = ap (λ (z : Heap). body_at z slot) h ∙ body-here t.heap slot (first_fields f k b) N now
                ∙ ap (λ (ws : List Word). Some (record b { fields = ws })) fields
                ∙ ap (λ m. Some (first_fields f m b)) one
                ∙ sym (ap (option_map (first_fields f (k + 1))) q);
            others = λ s d. ap (λ (z : Heap). body_at z s) h ∙ body-other t.heap slot s N d ∙ w.others s d;
          }

-- before the first field, and behind the last one
pub first-begin : (r slot : ℕ) (old : Table) → ForwardsFirst r slot 0 old old
first-begin r slot old = record {
  marks = refl;
  links = refl;
  next = refl;
  high = refl;
  here = none-first (moved_word (target old r)) (body_at old.heap slot);
  others = λ s d. refl;
}

pub first-whole : (r slot : ℕ) (old new : Table) → ForwardsFirst r slot (width (body_at old.heap slot)) old new
    → Forwards r slot old new
first-whole r slot old new w = record {
  marks = w.marks;
  links = w.links;
  next = w.next;
  high = w.high;
  here = w.here ∙ whole-first (moved_word (target old r)) (body_at old.heap slot);
  others = w.others;
}
