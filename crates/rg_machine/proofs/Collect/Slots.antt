-- The slots of the machine and the variables that they show: from the topmost window's base on they are the same.
use Rattle.std.proofs.Common.{◌≡◌, ◌⊎◌, inl, inr, ℕ, zero, suc, ◌+◌, ◌-◌, ◌≤◌, ◌<◌, ◌==◌, nat_lt, Bool as Truth, true, false, if◌then◌else◌}
use Rattle.std.proofs.Common.{List, [], ◌∷◌, ◌++◌, length, map, take, drop, replicate, reverse, Option, Some, None, option_map, slice_get}
use Rattle.std.proofs.Common.{length-append}
use Rattle.std.proofs.Common.{refl, sym, ap, ◌∙◌, subst, arith}
use Rattle.std.proofs.lemmas.List.{length-reverse, reverse-append, length-take-le}
use Rattle.std.proofs.lemmas.Option.{none-some, same_Some, slice_get-map, slice_get_within}
use Rattle.std.proofs.lemmas.Bool.{cases_lt as order}
use Rattle.rg_base.specs.declared.value.Val.{Val}
use Rattle.rg_base.specs.declared.value.Val.TheVariants as val
use Rattle.rg_base.specs.declared.value.Word.{Word}
use Rattle.rg_tree.proofs.TreesFrom.{slice_get-push}
use Rattle.rg_rules.specs.Reach.{addresses, locals_from}
use Rattle.rg_rules.specs.State.{Local, Frame as Body, frame_at}
use Rattle.rg_sound.proofs.Stores.Member.{In}
use Rattle.rg_sound.proofs.Owners.Owner.{get-take-within}
use Rattle.rg_cells.specs.Table.{Heap}
use Rattle.rg_frames.specs.declared.rows.Frame.{Frame as FrameRow}
use Rattle.rg_frames.proofs.Unwriting.{got-longer}
use Rattle.rg_stack.specs.Machine.{Frame, place_of, slots_below}
use Rattle.rg_stack.specs.Shows.{ShowsFrames, place_among, sizes_of}
use Rattle.rg_heap.specs.Answers.{val_of}
use Rattle.rg_stack.proofs.Callers.Base.{total_of, sizes-more, sizes-length, place_top, as_many}
use Rattle.rg_stack.proofs.Callers.Frame.{place_below}
use Rattle.rg_held.proofs.Lists.{append-back as get-either, push-below as get-before}
use Rattle.rg_view.specs.Lain.{Nested}
use Rattle.rg_view.proofs.Callers.Frame.{all-slots, frames_from}
use Rattle.rg_view.proofs.Callers.Link.{word-back}
use Rattle.rg_view.proofs.Callers.Shown.{get-drop, get-take}
use Rattle.rg_machine.proofs.Callers.ReachPath.{get-right}
use Rattle.rg_machine.proofs.Callers.ReachPath.{addresses-back, mapped-leads}

-- Places among all slots, by how many slots the frames have, the lowest first

before : (sizes : List ℕ) (n m i k size : ℕ) → slice_get sizes n ≡ Some size → i < size → n < m → place_among sizes n i < place_among sizes m k
before [] n m i k size e within lt = absurd (none-some size e)
before (x ∷ xs) zero zero i k size e within lt = absurd (omega (arith, lt))
before (x ∷ xs) zero (suc m) i k size e within lt = let same : x ≡ size = same_Some x size e in omega (arith, within, same)
before (x ∷ xs) (suc n) zero i k size e within lt = absurd (omega (arith, lt))
before (x ∷ xs) (suc n) (suc m) i k size e within lt =
    let rest = before xs n m i k size e within (omega (arith, lt)) in omega (arith, rest)

along : (sizes : List ℕ) (n i k : ℕ) → place_among sizes n i + k ≡ place_among sizes n k + i
along [] n i k = omega arith
along (x ∷ xs) zero i k = omega arith
along (x ∷ xs) (suc n) i k = let rest = along xs n i k in omega (arith, rest)

-- a slot from a place on is of a higher frame, or of the same one
from-base : (sizes : List ℕ) (n m i k size : ℕ) → slice_get sizes n ≡ Some size → i < size → place_among sizes m k ≤ place_among sizes n i
    → (m < n) ⊎ ((m ≡ n) × (k ≤ i))
from-base sizes n m i k size e within le = elim (order n m) [
  | inl lt ↦ (let no = before sizes n m i k size e within lt in absurd (omega (arith, no, le)))
  | inr up ↦ elim (order m n) [
    | inl less ↦ inl less
    | inr down ↦
        let same : m ≡ n = omega (arith, up, down) in
        let here : place_among sizes n k ≤ place_among sizes n i = subst (λ x. place_among sizes x k ≤ place_among sizes n i) same le in
        let a = along sizes n i k in
        inr (same, omega (arith, here, a))
  ]
]

-- and one in front of it is in front
pub in-front : (sizes : List ℕ) (n m i k size : ℕ) → slice_get sizes n ≡ Some size → i < size → (n < m) ⊎ ((n ≡ m) × (i < k))
    → place_among sizes n i < place_among sizes m k
in-front sizes n m i k size e within (inl lt) = before sizes n m i k size e within lt
in-front sizes n m i k size e within (inr here) =
    let a = along sizes n i k in
    let lt = here.1 in
    subst (λ x. place_among sizes n i < place_among sizes x k) here.0 (omega (arith, a, lt))

-- Frames, the topmost first

-- a frame by its number, and its slots
pub record Numbered (fs : List Frame) (d i n : ℕ) (f : Frame) : Type 0 where
  pub size : slice_get (sizes_of fs) n ≡ Some (length f.slots)
  pub place : place_among (sizes_of fs) n i ≡ place_of (drop d fs) i

pub numbered : (fs : List Frame) (d i n : ℕ) (f : Frame) → slice_get fs d ≡ Some f → n + suc d ≡ length fs → Numbered fs d i n f
numbered [] d i n f e count = absurd (none-some f e)
numbered (g ∷ fs) zero i n f e count =
    let same : g ≡ f = same_Some g f e in
    let c = sizes-length fs in
    let last : n ≡ length (sizes_of fs) = omega (arith, c, count) in
    record {
      size =
          ap (λ l. slice_get l n) (sizes-more g fs) ∙ ap (slice_get (sizes_of fs ++ length g.slots ∷ [])) last
          ∙ slice_get-push (sizes_of fs) (length g.slots) ∙ ap (λ (f : Frame). Some (length f.slots)) same;
      place =
          ap (λ l. place_among l n i) (sizes-more g fs)
          ∙ ap (λ n. place_among (sizes_of fs ++ length g.slots ∷ []) n i) last
          ∙ place_top (sizes_of fs) (length g.slots) i ∙ ap (λ n. n + i) (total_of fs);
    }
numbered (g ∷ fs) (suc d) i n f e count =
    let rest = numbered fs d i n f e (omega (arith, count)) in
    let c = sizes-length fs in
    record {
      size = ap (λ l. slice_get l n) (sizes-more g fs) ∙ got-longer (sizes_of fs) (length g.slots ∷ []) n (length f.slots) rest.size;
      place =
          ap (λ l. place_among l n i) (sizes-more g fs)
          ∙ place_below (sizes_of fs) (length g.slots) n i (omega (arith, c, count)) ∙ rest.place;
    }

-- a frame that is counted from the lowest one
pub counted-back : {A : Type 0} → (fs : List A) (n : ℕ) (f : A) → slice_get (reverse fs) n ≡ Some f
    → (d : ℕ) × (slice_get fs d ≡ Some f) × (n + suc d ≡ length fs)
counted-back [] n f e = absurd (none-some f e)
counted-back (g ∷ fs) n f e =
    let at = sym (ap (λ l. slice_get l n) (reverse-append (g ∷ []) fs)) ∙ e in
    let c = length-reverse fs in
    elim (order n (length fs)) [
      | inl lt ↦
          (let r = counted-back fs n f (sym (get-before (reverse fs) g n (omega (arith, lt, c))) ∙ at) in
          let count = r.2 in
          (suc r.0, r.1, omega (arith, count)))
      | inr le ↦
          let within = slice_get_within (reverse fs ++ g ∷ []) n f at in
          let last : n ≡ length (reverse fs) = omega (arith, le, c, within, length-append (reverse fs) (g ∷ [])) in
          (0, sym (slice_get-push (reverse fs) g) ∙ ap (slice_get (reverse fs ++ g ∷ [])) (sym last) ∙ at, omega (arith, last, c))
    ]

-- Slots and variables

-- a reference in a slot is that of a variable
slot-variable : (fs : List Frame) (bs : List Body) → ShowsFrames fs bs → (d i a : ℕ) (f : Frame) → slice_get fs d ≡ Some f
    → slice_get f.slots i ≡ Some (val.Obj a)
    → (b : Body) × (l : Local) × (slice_get bs d ≡ Some b) × (slice_get b.locals i ≡ Some l) × (l.value ≡ val.Obj a)
slot-variable [] bs shows d i a f e at = absurd (none-some f e)
slot-variable (g ∷ fs) [] shows d i a f e at = absurd shows
slot-variable (g ∷ fs) (b ∷ bs) shows zero i a f e at =
    let same : g ≡ f = same_Some g f e in
    let x = local b.locals i (length g.slots - length b.locals)
    (ap (λ l. slice_get l i) (sym shows.0) ∙ ap (λ (f : Frame). slice_get f.slots i) same ∙ at) in
    (b, x.0, refl, x.1, x.2)
  where
    nil : (k i : ℕ) → slice_get (replicate k val.Nil) i ≡ Some (val.Obj a) → ⊥
    nil zero i e = none-some (val.Obj a) e
    nil (suc k) zero e = absurd cc
    nil (suc k) (suc i) e = nil k i e

    local : (ls : List Local) (i k : ℕ) → slice_get (map (λ (l : Local). l.value) ls ++ replicate k val.Nil) i ≡ Some (val.Obj a)
        → (l : Local) × (slice_get ls i ≡ Some l) × (l.value ≡ val.Obj a)
    local [] i k e = absurd (nil k i e)
    local (l ∷ ls) zero k e = (l, refl, same_Some l.value (val.Obj a) e)
    local (l ∷ ls) (suc i) k e = local ls i k e
slot-variable (g ∷ fs) (b ∷ bs) shows (suc d) i a f e at = slot-variable fs bs shows.1 d i a f e at

-- and the value of a variable is that of a slot
variable-slot : (fs : List Frame) (bs : List Body) → ShowsFrames fs bs → (d i : ℕ) (b : Body) (l : Local) → slice_get bs d ≡ Some b
    → slice_get b.locals i ≡ Some l → (f : Frame) × (slice_get fs d ≡ Some f) × (slice_get f.slots i ≡ Some l.value)
variable-slot [] [] shows d i b l e at = absurd (none-some b e)
variable-slot [] (c ∷ bs) shows d i b l e at = absurd shows
variable-slot (g ∷ fs) [] shows d i b l e at = absurd (none-some b e)
variable-slot (g ∷ fs) (c ∷ bs) shows zero i b l e at =
    let same : c ≡ b = same_Some c b e in
    let there : slice_get c.locals i ≡ Some l = ap (λ (b : Body). slice_get b.locals i) same ∙ at in (
      g,
      refl,
      ap (λ vs. slice_get vs i) shows.0
          ∙ got-longer (map (λ (l : Local). l.value) c.locals) (replicate (length g.slots - length c.locals) val.Nil) i l.value
          (slice_get-map (λ (l : Local). l.value) c.locals i ∙ ap (option_map (λ (l : Local). l.value)) there),
    )
variable-slot (g ∷ fs) (c ∷ bs) shows (suc d) i b l e at = variable-slot fs bs shows.1 d i b l e at

-- Variables from a base on

local-in : (n k number i : ℕ) (bs : List Body) (d : ℕ) (b : Body) (l : Local) → slice_get bs d ≡ Some b → slice_get b.locals i ≡ Some l
    → number + suc d ≡ length bs → (n < number) ⊎ ((n ≡ number) × (k ≤ i)) → (e : ℕ) × (slice_get (locals_from n k bs) e ≡ Some l)
local-in n k number i [] d b l there at count from = absurd (none-some b there)
local-in n k number i (c ∷ bs) zero b l there at count from = elim from [
  | inl lt ↦
      (let less : nat_lt n (length bs) ≡ true = grind (arith, lt, count) in (
        i,
        ap (λ t. slice_get (if t then c.locals ++ locals_from n k bs else (if n == length bs then drop k c.locals else [])) i) less
            ∙ got-longer c.locals (locals_from n k bs) i l here,
      ))
  | inr x ↦
      (let is = x.0 in
      let le = x.1 in
      let not_less : nat_lt n (length bs) ≡ false = grind (arith, is, count) in
      let same : (n == length bs) ≡ true = grind (arith, is, count) in
      let back : k + (i - k) ≡ i = omega (arith, le) in (
        i - k,
        ap (λ t. slice_get (if t then c.locals ++ locals_from n k bs else (if n == length bs then drop k c.locals else [])) (i - k)) not_less
            ∙ ap (λ t. slice_get (if t then drop k c.locals else []) (i - k)) same
            ∙ get-drop k (i - k) c.locals ∙ ap (slice_get c.locals) back ∙ here,
      ))
]
  where
    here : slice_get c.locals i ≡ Some l
    here = ap (λ (b : Body). slice_get b.locals i) (same_Some c b there) ∙ at
local-in n k number i (c ∷ bs) (suc d) b l there at count from =
    let less : nat_lt n (length bs) ≡ true = below from in
    let x = local-in n k number i bs d b l there at (omega (arith, count)) from in (
      length c.locals + x.0,
      ap (λ t. slice_get (if t then c.locals ++ locals_from n k bs else (if n == length bs then drop k c.locals else []))
          (length c.locals + x.0)) less
          ∙ get-right c.locals (locals_from n k bs) x.0 l x.1,
    )
  where
    below : (n < number) ⊎ ((n ≡ number) × (k ≤ i)) → nat_lt n (length bs) ≡ true
    below (inl lt) = grind (arith, lt, count)
    below (inr x) = let is = x.0 in grind (arith, is, count)

local-back : (n k e : ℕ) (bs : List Body) (l : Local) → slice_get (locals_from n k bs) e ≡ Some l
    → (d : ℕ) × (i : ℕ) × (b : Body) × (slice_get bs d ≡ Some b) × (slice_get b.locals i ≡ Some l)
local-back n k e [] l at = absurd (none-some l at)
local-back n k e (c ∷ bs) l at =
    by (nat_lt n (length bs)) (n == length bs) at (λ j on. local-back n k j bs l on)
  where
    by : (t u : Truth)
        → slice_get (if t then c.locals ++ locals_from n k bs else (if u then drop k c.locals else [])) e ≡ Some l
        → ((j : ℕ) → slice_get (locals_from n k bs) j ≡ Some l
        → (d : ℕ) × (i : ℕ) × (b : Body) × (slice_get bs d ≡ Some b) × (slice_get b.locals i ≡ Some l))
        → (d : ℕ) × (i : ℕ) × (b : Body) × (slice_get (c ∷ bs) d ≡ Some b) × (slice_get b.locals i ≡ Some l)
    by true u at rest = elim (get-either c.locals (locals_from n k bs) e l at) [
      | inl here ↦ (0, here.0, c, refl, here.1)
      | inr on ↦ (let x = rest on.0 on.1 in (suc x.0, x.1, x.2, x.3, x.4))
    ]
    by false true at rest = (0, k + e, c, refl, sym (get-drop k e c.locals) ∙ at)
    by false false at rest = absurd (none-some l at)

-- Words

module _ (h : Heap) where
  -- a word among all slots is that of a slot of a frame
  word-slot : (slots : List Word) (first : ℕ) (rows : List FrameRow) → Nested first (length slots) rows → (j : ℕ) (w : Word)
      → slice_get slots j ≡ Some w → (d : ℕ) × (i : ℕ) × (f : Frame) × (slice_get (frames_from h slots first rows) d ≡ Some f)
      × (slice_get f.slots i ≡ Some (val_of h w)) × (place_of (drop d (frames_from h slots first rows)) i ≡ j)
  word-slot slots first [] lain j w e = let within = slice_get_within slots j w e in absurd (omega (arith, within, lain))
  word-slot slots first (r ∷ rows) lain j w e =
      let taken = length-take-le first slots lain.0 in
      let under : Nested r.below (length (take first slots)) rows = subst (λ n. Nested r.below n rows) (sym taken) lain.1 in
      elim (order j first) [
        | inl lt ↦
            (let x = word-slot (take first slots) r.below rows under j w (get-take-within first slots j lt ∙ e) in
            (suc x.0, x.1, x.2, x.3, x.4, x.5))
        | inr le ↦
            let back : first + (j - first) ≡ j = omega (arith, le) in
            let here : slice_get (drop first slots) (j - first) ≡ Some w = get-drop first (j - first) slots ∙ ap (slice_get slots) back ∙ e in
            let all = all-slots h (take first slots) r.below rows under in (
              0,
              j - first,
              record { slots = map (val_of h) (drop first slots); back = r.back },
              refl,
              slice_get-map (val_of h) (drop first slots) (j - first) ∙ ap (option_map (val_of h)) here,
              omega (arith, all, taken, back),
            )
      ]

  -- and the other way round
  slot-word : (slots : List Word) (first : ℕ) (rows : List FrameRow) → Nested first (length slots) rows → (d i : ℕ) (f : Frame) (x : Val)
      → slice_get (frames_from h slots first rows) d ≡ Some f → slice_get f.slots i ≡ Some x
      → (w : Word) × (slice_get slots (place_of (drop d (frames_from h slots first rows)) i) ≡ Some w) × (val_of h w ≡ x)
  slot-word slots first [] lain d i f x e at = absurd (none-some f e)
  slot-word slots first (r ∷ rows) lain zero i f x e at =
      let taken = length-take-le first slots lain.0 in
      let under : Nested r.below (length (take first slots)) rows = subst (λ n. Nested r.below n rows) (sym taken) lain.1 in
      let here = same_Some (record { slots = map (val_of h) (drop first slots); back = r.back }) f e in
      let w = word-back h (drop first slots) i x (ap (λ (f : Frame). slice_get f.slots i) here ∙ at) in
      let all : slots_below (frames_from h (take first slots) r.below rows) ≡ first = all-slots h (take first slots) r.below rows under ∙ taken in
      (w.0, ap (λ n. slice_get slots (n + i)) all ∙ sym (get-drop first i slots) ∙ w.1, w.2)
  slot-word slots first (r ∷ rows) lain (suc d) i f x e at =
      let taken = length-take-le first slots lain.0 in
      let under : Nested r.below (length (take first slots)) rows = subst (λ n. Nested r.below n rows) (sym taken) lain.1 in
      let y = slot-word (take first slots) r.below rows under d i f x e at in
      (y.0, get-take first (place_of (drop d (frames_from h (take first slots) r.below rows)) i) slots y.0 y.1, y.2)

  module _ (slots : List Word) (at : ℕ) (rows : List FrameRow) (lain : Nested at (length slots) rows) (bs : List Body)
      (shows : ShowsFrames (frames_from h slots at rows) bs) where
    abbrev fs : List Frame
    fs = frames_from h slots at rows

    -- a reference in a slot from a base on is that of a variable from there on
    pub word-local : (n k j a : ℕ) (w : Word) → slice_get slots j ≡ Some w → val_of h w ≡ val.Obj a
        → place_among (sizes_of fs) n k ≤ j → In a (addresses (map (λ (l : Local). l.value) (locals_from n k bs)))
    word-local n k j a w e is le =
        let x = word-slot slots at rows lain j w e in
        let y = slot-variable fs bs shows x.0 x.1 a x.2 x.3 (x.4 ∙ ap Some is) in
        let within = slice_get_within fs x.0 x.2 x.3 in
        let inner = slice_get_within x.2.slots x.1 (val_of h w) x.4 in
        let number = length fs - suc x.0 in
        let count : number + suc x.0 ≡ length fs = omega (arith, within) in
        let at_number = numbered fs x.0 x.1 number x.2 x.3 count in
        let place = at_number.place in
        let same = x.5 in
        let base = from-base (sizes_of fs) number n x.1 k (length x.2.slots) at_number.size inner (omega (arith, le, place, same)) in
        let z = local-in n k number x.1 bs x.0 y.0 y.1 y.2 y.3 (count ∙ as_many fs bs shows) base in
        mapped-leads (λ (l : Local). l.value) (locals_from n k bs) z.0 a y.1 z.1 y.4

    -- a variable's value is that of a word
    variable-word : (d i : ℕ) (b : Body) (l : Local) → slice_get bs d ≡ Some b → slice_get b.locals i ≡ Some l
        → (w : Word) × (slice_get slots (place_of (drop d fs) i) ≡ Some w) × (val_of h w ≡ l.value)
    variable-word d i b l there here =
        let f = variable-slot fs bs shows d i b l there here in
        slot-word slots at rows lain d i f.0 l.value f.1 f.2

    pub local-word : (n k a : ℕ) → In a (addresses (map (λ (l : Local). l.value) (locals_from n k bs)))
        → (j : ℕ) × (w : Word) × (slice_get slots j ≡ Some w) × (val_of h w ≡ val.Obj a)
    local-word n k a i =
        let x = addresses-back (map (λ (l : Local). l.value) (locals_from n k bs)) a i in
        by x.0 (slice_get (locals_from n k bs) x.0) refl
        (sym (slice_get-map (λ (l : Local). l.value) (locals_from n k bs) x.0) ∙ x.1)
      where
        by : (e : ℕ) (o : Option Local) → slice_get (locals_from n k bs) e ≡ o
            → option_map (λ (l : Local). l.value) (slice_get (locals_from n k bs) e) ≡ Some (val.Obj a)
            → (j : ℕ) × (w : Word) × (slice_get slots j ≡ Some w) × (val_of h w ≡ val.Obj a)
        by e None there is = absurd (none-some (val.Obj a) (sym (ap (option_map (λ (l : Local). l.value)) there) ∙ is))
        by e (Some l) there is =
            let value : l.value ≡ val.Obj a = same_Some l.value (val.Obj a) (sym (ap (option_map (λ (l : Local). l.value)) there) ∙ is) in
            let y = local-back n k e bs l there in
            let w = variable-word y.0 y.1 y.2 l y.3 y.4 in
            (place_of (drop y.0 fs) y.1, w.0, w.1, w.2 ∙ value)

    -- the value of the variable of a frame that is counted from the lowest one, and its place among all slots
    pub record VariableAt (n i : ℕ) (x : Val) : Type 0 where
      pub place : ℕ
      pub word : Word
      pub there : slice_get slots place ≡ Some word
      pub shown : val_of h word ≡ x
      pub size : ℕ
      pub sized : slice_get (sizes_of fs) n ≡ Some size
      pub within : i < size
      pub is : place_among (sizes_of fs) n i ≡ place

    pub variable-at : (n i : ℕ) (b : Body) (l : Local) → frame_at bs n ≡ Some b → slice_get b.locals i ≡ Some l → VariableAt n i l.value
    variable-at n i b l e here =
        let d = counted-back bs n b e in
        let f = variable-slot fs bs shows d.0 i b l d.1 here in
        let w = slot-word slots at rows lain d.0 i f.0 l.value f.1 f.2 in
        let y = numbered fs d.0 i n f.0 f.1 (d.2 ∙ sym (as_many fs bs shows)) in
        record {
          place = place_of (drop d.0 fs) i;
          word = w.0;
          there = w.1;
          shown = w.2;
          size = length f.0.slots;
          sized = y.size;
          within = slice_get_within f.0.slots i l.value f.2;
          is = y.place;
        }
