-- Arrays and their elements: where an element is, and what is read and written there.
use Rattle.std.proofs.Common.{◌≡◌, ◌<◌, ◌∷◌, [], ℕ, ℤ, pos, negsuc, List, Option, Some, None, Result, Ok, Err, ok_or, length, nat_lt, unwrap_or}
use Rattle.std.proofs.Common.{Bool as Truth, true, false, not, ◌&&◌, if◌then◌else◌, slice_get, refl, sym, ap, subst, ◌∙◌, arith}
use Rattle.std.proofs.lemmas.Bool.{false≢true, and_from}
use Rattle.std.proofs.lemmas.List.{length-map}
use Rattle.std.proofs.lemmas.Option.{none-some, same_Some, slice_get_past}
use Rattle.rg_base.specs.declared.object.Seen.{Seen}
use Rattle.rg_base.specs.declared.outcome.Trap.{Trap}
use Rattle.rg_base.specs.declared.outcome.Trap.TheVariants as trap
use Rattle.rg_base.specs.declared.value.Val.{Val}
use Rattle.rg_base.specs.declared.value.Val.TheVariants.{Nil}
use Rattle.rg_base.specs.declared.value.Word.{Word}
use Rattle.rg_base.specs.declared.value.Word.TheVariants as word
use Rattle.rg_base.proofs.Callers.Labels.{slot-same}
use Rattle.rg_rules.specs.Evaluation.{element_place, object_at, place_among}
use Rattle.rg_rules.specs.Values.{as_int}
use Rattle.rg_cells.specs.Table.{body_at, width}
use Rattle.rg_code.specs.Code.{empty}
use Rattle.rg_code.specs.declared.op.Op.TheVariants as i
use Rattle.rg_stack.specs.Machine.{Machine}
use Rattle.rg_stack.specs.Effects.{Go, Stuck, Traps, Walked, element_in, place_named, put_element, put_in}
use Rattle.rg_stack.specs.Needs.{is_closed, is_empty, may_stand, of_element}
use Rattle.rg_stack.specs.Places.{field_of, is_field, is_writable}
use Rattle.rg_stack.proofs.Basics.{and-left, and-right}
use Rattle.rg_held.specs.Frees.{free_act}
use Rattle.rg_view.specs.View.{object_of}
use Rattle.rg_view.proofs.Callers.Read.{object-there}
use Rattle.rg_view.proofs.Callers.Shown.{held-body}
use Rattle.rg_machine.specs.declared.next.Next.TheVariants as next
use Rattle.rg_machine.specs.Core.{ActIs, Core, Has, below_top, with_machine, with_top, work_of}
use Rattle.rg_machine.specs.Inner.Arrays.{IsShort, place_behind}
use Rattle.rg_machine.specs.Parts.{Parts, machine_in, val_in, with_word}
use Rattle.rg_machine.specs.Stands.{Leads}
use Rattle.rg_machine.proofs.Callers.Word.{Known}

-- The number of elements

-- the object to which a word leads has as many fields as its cell
pub object-size : (p : Parts) (r : Word) (s n : ℕ) → r ≡ word.Slot s → Known p → Leads p.heap p.frames r
    → n ≡ width (body_at p.heap.cells.heap s)
    → (o : Seen) × (object_at (machine_in p).store (val_in p r) ≡ Ok o) × (n ≡ length o.fields)
object-size p word.Nil s n is q l e = absurd cc
object-size p (word.Int z) s n is q l e = absurd cc
object-size p (word.Bool b) s n is q l e = absurd cc
object-size p (word.Slot a) s n is q l e =
    let h = p.heap.cells.heap in
    let b = held-body h a (l.held a refl) in
    let same : s ≡ a = slot-same s a (sym is) in
    let wide : width (body_at h s) ≡ length b.0.fields = ap (λ x. width (body_at h x)) same ∙ ap width b.1 in
    (object_of h (Some b.0), object-there h a b.0 q.serials b.1, e ∙ wide ∙ sym (length-map b.0.fields (val_in p)))

-- Where an element is

-- no object, no place
pub place-nil : (store : List Seen) (r x : Val) (t : Trap) → object_at store r ≡ Err t → place_behind store r x ≡ Err t
place-nil store r x t e = ap (λ (q : Result Seen Trap). elim q [ Ok o ↦ element_place o x | Err t ↦ Err t ]) e

-- the place among the object's fields
pub place-there : (store : List Seen) (r x : Val) (o : Seen) (many : ℕ) → object_at store r ≡ Ok o → many ≡ length o.fields
    → place_behind store r x ≡ ok_or (place_among many (as_int x)) trap.Index
place-there store r x o many e n =
    ap (λ (q : Result Seen Trap). elim q [ Ok o ↦ element_place o x | Err t ↦ Err t ]) e
    ∙ ap (λ k. ok_or (place_among k (as_int x)) trap.Index) (sym n)

-- so it is that of a number among so many
module _ (store : List Seen) (r x : Val) (many : ℕ) (z : ℤ) (q : Option ℕ)
    (of : (o : Seen) × (object_at store r ≡ Ok o) × (many ≡ length o.fields)) (number : z ≡ as_int x) (among : q ≡ place_among many z) where
  placed-by : place_behind store r x ≡ ok_or q trap.Index
  placed-by =
      place-there store r x of.0 many of.1 of.2
      ∙ ap (λ o. ok_or o trap.Index) (ap (place_among many) (sym number) ∙ sym among)

  pub place-some : (k : ℕ) → q ≡ Some k → Ok k ≡ place_behind store r x
  place-some k e = sym (placed-by ∙ ap (λ o. ok_or o trap.Index) e)

  pub place-none : q ≡ None → Err trap.Index ≡ place_behind store r x
  place-none e = sym (placed-by ∙ ap (λ o. ok_or o trap.Index) e)

-- what a place is of
pub record Placed (store : List Seen) (r x : Val) (k : ℕ) : Type 0 where
  pub object : Seen
  pub there : object_at store r ≡ Ok object
  pub named : place_named object x ≡ k
  pub within : nat_lt k (length object.fields) ≡ true

among-within : (many k : ℕ) (z : ℤ) → place_among many z ≡ Some k → nat_lt k many ≡ true
among-within many k (pos n) e = by (nat_lt n many) refl e
  where
    by : (b : Truth) → nat_lt n many ≡ b → (if b then Some n else None) ≡ Some k → nat_lt k many ≡ true
    by true is e = ap (λ a. nat_lt a many) (sym (same_Some n k e)) ∙ is
    by false is e = absurd (none-some k e)
among-within many k (negsuc n) e = absurd (none-some k e)

pub placed : (store : List Seen) (r x : Val) (k : ℕ) → place_behind store r x ≡ Ok k → Placed store r x k
placed store r x k e = by (object_at store r) refl e
  where
    among : (o : Seen) (q : Option ℕ) → place_among (length o.fields) (as_int x) ≡ q → ok_or q trap.Index ≡ Ok k → object_at store r ≡ Ok o
        → Placed store r x k
    among o None at e there = absurd cc
    among o (Some j) at e there =
        let same : j ≡ k = cc in
        record {
          object = o;
          there = there;
          named = ap (λ q. unwrap_or q (length o.fields)) at ∙ same;
          within = among-within (length o.fields) k (as_int x) (at ∙ ap Some same);
        }

    by : (q : Result Seen Trap) → object_at store r ≡ q
        → ◌≡◌ {A = Result ℕ Trap} (elim q [ Ok o ↦ element_place o x | Err t ↦ Err t ]) (Ok k) → Placed store r x k
    by (Err t) at e = absurd cc
    by (Ok o) at e = among o (place_among (length o.fields) (as_int x)) refl e at

-- What is read there

-- nothing where it isn't there
pub element-none : (store : List Seen) (r x : Val) (t : Trap) → place_behind store r x ≡ Err t → Nil ≡ element_in store r x
element-none store r x t e = by (object_at store r) refl e
  where
    answer : Result Seen Trap → Val
    answer q = elim q [ Ok o ↦ unwrap_or (slice_get o.fields (place_named o x)) Nil | Err t ↦ Nil ]

    among : (o : Seen) (q : Option ℕ) → place_among (length o.fields) (as_int x) ≡ q → ok_or q trap.Index ≡ Err t
        → Nil ≡ unwrap_or (slice_get o.fields (place_named o x)) Nil
    among o (Some j) at e = absurd cc
    among o None at e =
        sym (ap (λ k. unwrap_or (slice_get o.fields k) Nil) (ap (λ q. unwrap_or q (length o.fields)) at)
        ∙ ap (λ f. unwrap_or f Nil) (slice_get_past o.fields (length o.fields) (omega arith)))

    by : (q : Result Seen Trap) → object_at store r ≡ q
        → ◌≡◌ {A = Result ℕ Trap} (elim q [ Ok o ↦ element_place o x | Err t ↦ Err t ]) (Err t) → Nil ≡ element_in store r x
    by (Err k) at e = sym (ap answer at)
    by (Ok o) at e = among o (place_among (length o.fields) (as_int x)) refl e ∙ sym (ap answer at)

-- nothing where there is no object
pub element-nil : (store : List Seen) (r x : Val) (t : Trap) → object_at store r ≡ Err t → Nil ≡ element_in store r x
element-nil store r x t e =
    sym (ap (λ (q : Result Seen Trap). elim q [ Ok o ↦ unwrap_or (slice_get o.fields (place_named o x)) Nil | Err t ↦ Nil ]) e)

-- the field of its number
pub element-field : (store : List Seen) (r x v : Val) (k : ℕ) → place_behind store r x ≡ Ok k
    → (o : Seen) × (object_at store r ≡ Ok o) × (unwrap_or (slice_get o.fields k) Nil ≡ v) → v ≡ element_in store r x
element-field store r x v k e f =
    let p = placed store r x k e in
    let same : p.object ≡ f.0 = ok-same p.object f.0 (sym p.there ∙ f.1) in
    sym f.2
    ∙ ap (λ (o : Seen). unwrap_or (slice_get o.fields k) Nil) (sym same)
    ∙ ap (λ n. unwrap_or (slice_get p.object.fields n) Nil) (sym p.named)
    ∙ sym (ap (λ (q : Result Seen Trap). elim q [ Ok o ↦ unwrap_or (slice_get o.fields (place_named o x)) Nil | Err t ↦ Nil ]) p.there)
  where
    ok-same : (a b : Seen) → ◌≡◌ {A = Result Seen Trap} (Ok a) (Ok b) → a ≡ b
    ok-same a b e = cc

-- which may be read
pub element-given : (c : Core) (r x : Val) (k : ℕ) → Has i.Element (record c { stack = x ∷ r ∷ [] }) → place_behind c.machine.store r x ≡ Ok k
    → Has (i.Field k) (record c { stack = r ∷ [] })
element-given c r x k given e =
    let m = c.machine in
    let p = placed m.store r x k e in
    let shut = and-right (not (is_closed m x)) (not (is_closed m r))
    (and-left (not (is_closed m x) && not (is_closed m r)) (of_element m r x (λ o n. true)) given) in
    ap (λ (q : Result Seen Trap). elim q [ Ok o ↦ nat_lt k (length o.fields) && not (is_closed m r) | Err t ↦ true ]) p.there
    ∙ and_from (nat_lt k (length p.object.fields)) (not (is_closed m r)) p.within shut

-- What is written there

abbrev puts : Machine → (k : ℕ) → Val → Seen → Truth
puts m k v o = is_field m k o && not (is_closed m (field_of o k)) && may_stand m o.label v

put-test : (m : Machine) (r x v : Val) → Has i.PutElement (record { machine = m; stack = v ∷ x ∷ r ∷ []; printed = None })
    → elim (object_at m.store r) [ Ok o ↦ puts m (place_named o x) v o | Err t ↦ false ] ≡ true
put-test m r x v given = and-right (true && not (is_closed m x)) _ given

-- the element is there
pub put-there : (c : Core) (r x v : Val) (t : Trap) → Has i.PutElement (record c { stack = v ∷ x ∷ r ∷ [] })
    → place_behind c.machine.store r x ≡ Err t → ⊥
put-there c r x v t given e = by (object_at c.machine.store r) refl (put-test c.machine r x v given) e
  where
    m : Machine
    m = c.machine

    past : (n : ℕ) → nat_lt n n ≡ true → ⊥
    past n e = let lt : n < n = grind (arith, e) in absurd (omega (arith, lt))

    among : (o : Seen) (q : Option ℕ) → place_among (length o.fields) (as_int x) ≡ q → ok_or q trap.Index ≡ Err t
        → puts m (place_named o x) v o ≡ true → ⊥
    among o (Some j) at e test = absurd cc
    among o None at e test =
        let named : place_named o x ≡ length o.fields = ap (λ q. unwrap_or q (length o.fields)) at in
        let k = length o.fields in
        let all : (is_field m k o && not (is_closed m (field_of o k)) && may_stand m o.label v) ≡ true =
        sym (ap (λ k. puts m k v o) named) ∙ test in
        let field : is_field m k o ≡ true = and-left _ _ (and-left _ _ all) in
        past k (and-right (is_writable m o.label) (nat_lt k k) field)

    by : (q : Result Seen Trap) → object_at c.machine.store r ≡ q
        → elim q [ Ok o ↦ puts m (place_named o x) v o | Err t ↦ false ] ≡ true
        → ◌≡◌ {A = Result ℕ Trap} (elim q [ Ok o ↦ element_place o x | Err t ↦ Err t ]) (Err t) → ⊥
    by (Err k) at test e = false≢true test
    by (Ok o) at test e = among o (place_among (length o.fields) (as_int x)) refl e test

-- and may be written
pub put-given : (c : Core) (r x v : Val) (k : ℕ) → Has i.PutElement (record c { stack = v ∷ x ∷ r ∷ [] }) → place_behind c.machine.store r x ≡ Ok k
    → Has (i.Put k) (record c { stack = v ∷ r ∷ [] })
put-given c r x v k given e =
    let m = c.machine in
    let p = placed m.store r x k e in
    let test = put-test m r x v given in
    and_from true (elim (object_at m.store r) [ Ok o ↦ puts m k v o | Err t ↦ false ]) refl
    (ap (λ (q : Result Seen Trap). elim q [ Ok o ↦ puts m k v o | Err t ↦ false ]) p.there
    ∙ ap (λ n. puts m n v p.object) (sym p.named)
    ∙ sym (ap (λ (q : Result Seen Trap). elim q [ Ok o ↦ puts m (place_named o x) v o | Err t ↦ false ]) p.there) ∙ test)

-- it is the field of its number
pub put-element : (store : List Seen) (r x v : Val) (k : ℕ) → place_behind store r x ≡ Ok k → put_in store r k v ≡ put_element store r x v
put-element store r x v k e =
    let p = placed store r x k e in
    ap (λ n. put_in store r n v) (sym p.named)
    ∙ sym (ap (λ (q : Result Seen Trap). elim q [ Ok o ↦ put_in store r (place_named o x) v | Err t ↦ store ]) p.there)

-- A place is tested

module _ (at : ℕ) (c : Core) (r x : Val) (go : Go) (input : List ℕ) where
  abbrev tested : Core
  tested = with_top (with_top c r) x

  abbrev ended : Result ℕ Trap → Walked
  ended q = elim q [ Ok k ↦ go 0 tested.stack (work_of tested input) | Err t ↦ Traps t ]

  bound-by : free_act empty at i.Bound go tested.stack (work_of tested input) ≡ ended (place_behind c.machine.store r x)
  bound-by = by (object_at c.machine.store r)
    where
      by : (q : Result Seen Trap) → elim q [ Ok o ↦ ended (element_place o x) | Err t ↦ Traps t ]
          ≡ ended (elim q [ Ok o ↦ element_place o x | Err t ↦ Err t ])
      by (Ok o) = refl
      by (Err t) = refl

  pub bound-passes : (k : ℕ) → place_behind c.machine.store r x ≡ Ok k
      → free_act empty at i.Bound go tested.stack (work_of tested input) ≡ go 0 tested.stack (work_of tested input)
  bound-passes k e = bound-by ∙ ap ended e

  pub bound-traps : (t : Trap) → place_behind c.machine.store r x ≡ Err t
      → free_act empty at i.Bound go tested.stack (work_of tested input) ≡ Traps t
  bound-traps t e = bound-by ∙ ap ended e

-- fewer than two values are none that it tests
pub bound-lost : (at : ℕ) (c : Core) → IsShort c.stack → ActIs (free_act empty at i.Bound) at c c next.Lost
bound-lost at c short go input = by c.stack short
  where
    by : (vs : List Val) → IsShort vs → free_act empty at i.Bound go vs (work_of c input) ≡ Stuck
    by [] s = refl
    by (v ∷ []) s = refl
    by (v ∷ w ∷ rest) s = absurd s

-- The instructions' effects, over what is on the stack

module _ (at : ℕ) (c : Core) (r x : Val) (is : c ≡ with_top (with_top (below_top (below_top c)) r) x) where
  pub bound-ok : (k : ℕ) → place_behind c.machine.store r x ≡ Ok k → ActIs (free_act empty at i.Bound) at c c next.On
  bound-ok k e go input =
      ap (λ (d : Core). free_act empty at i.Bound go d.stack (work_of d input)) is
      ∙ bound-passes at (below_top (below_top c)) r x go input k e
      ∙ sym (ap (λ (d : Core). go 0 d.stack (work_of d input)) is)

  pub bound-err : (t : Trap) → place_behind c.machine.store r x ≡ Err t → ActIs (free_act empty at i.Bound) at c c (next.Trap t)
  bound-err t e go input =
      ap (λ (d : Core). free_act empty at i.Bound go d.stack (work_of d input)) is
      ∙ bound-traps at (below_top (below_top c)) r x go input t e

module _ (old mid : Core) (x r : Val) (one : old ≡ with_top mid x) (two : mid ≡ with_top (below_top mid) r) where
  both : old ≡ with_top (with_top (below_top mid) r) x
  both = one ∙ ap (λ (d : Core). with_top d x) two

  pub element-has : Has i.Element old → Has i.Element (record mid { stack = x ∷ r ∷ [] })
  element-has given = subst (Has i.Element) both given

  pub element-effect : (new : Core) (y : Val) (at : ℕ) → y ≡ element_in mid.machine.store r x → new ≡ with_top (below_top mid) y
      → ActIs (free_act empty at i.Element) at old new next.On
  element-effect new y at value is go input =
      ap (λ (d : Core). free_act empty at i.Element go d.stack (work_of d input)) both
      ∙ ap (λ v. go 0 (v ∷ (below_top mid).stack) (work_of mid input)) (sym value)
      ∙ sym (ap (λ (d : Core). go 0 d.stack (work_of d input)) is)

-- a word that was taken shows what it does once another is taken
pub shown-under : (old mid : Core) (a b : Parts) (w x : Word) → old ≡ with_top mid (val_in a w) → a ≡ with_word b x → old ≡ with_top mid (val_in b w)
shown-under old mid a b w x one is = one ∙ ap (λ (p : Parts). with_top mid (val_in p w)) is

module _ (old a b under : Core) (v x r : Val) (one : old ≡ with_top a v) (two : a ≡ with_top b x) (three : b ≡ with_top under r) where
  all : old ≡ with_top (with_top (with_top under r) x) v
  all = one ∙ ap (λ (d : Core). with_top d v) (two ∙ ap (λ (d : Core). with_top d x) three)

  pub put-has : Has i.PutElement old → Has i.PutElement (record under { stack = v ∷ x ∷ r ∷ [] })
  put-has given =
      let m = under.machine in
      let test : (is_empty under.stack && not (is_closed m x) && elim (object_at m.store r) [
        | Ok o ↦ puts m (place_named o x) v o
        | Err t ↦ false
      ]) ≡ true = subst (Has i.PutElement) all given in
      and_from (true && not (is_closed m x)) (elim (object_at m.store r) [ Ok o ↦ puts m (place_named o x) v o | Err t ↦ false ])
      (and-right (is_empty under.stack) (not (is_closed m x))
      (and-left (is_empty under.stack && not (is_closed m x)) (elim (object_at m.store r) [
        | Ok o ↦ puts m (place_named o x) v o
        | Err t ↦ false
      ]) test))
      (and-right (is_empty under.stack && not (is_closed m x)) (elim (object_at m.store r) [
        | Ok o ↦ puts m (place_named o x) v o
        | Err t ↦ false
      ]) test)

  pub put-effect : (new : Core) (at : ℕ)
      → new ≡ with_machine under (record under.machine { store = put_element under.machine.store r x v })
      → ActIs (free_act empty at i.PutElement) at old new next.On
  put-effect new at is go input =
      ap (λ (d : Core). free_act empty at i.PutElement go d.stack (work_of d input)) all
      ∙ sym (ap (λ (d : Core). go 0 d.stack (work_of d input)) is)
