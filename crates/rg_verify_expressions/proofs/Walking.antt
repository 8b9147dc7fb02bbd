-- Walks along code over a stack of rows, and the rows of its trees.
use Rattle.std.proofs.Common.{◌≡◌, ℕ, suc, ◌+◌, ◌<◌, ◌≤◌, Bool as Truth, List, [], ◌∷◌, ◌++◌, drop, length, map, slice_get, reverse}
use Rattle.std.proofs.Common.{Global, option_map, Option, Some, None, Ok, Err, Vec, refl, sym, ap, subst, ◌∙◌, arith}
use Rattle.std.proofs.lemmas.List.{drop_all, reverse-append, length-append}
use Rattle.std.proofs.lemmas.List.Elements.{All-cons}
use Rattle.rg_base.proofs.Callers.Lists.{drop-here}
use Rattle.rg_tree.specs.Rows.Tables.{Tables}
use Rattle.rg_tree.specs.Adds.{Extends}
use Rattle.rg_tree.proofs.Adding.{extends-same, extends-trans, means-later}
use Rattle.rg_code.specs.declared.op.Op.{Op}
use Rattle.rg_verify_expressions.specs.declared.part.Part.{Part}
use Rattle.rg_verify_expressions.specs.declared.held.Held.{Held}
use Rattle.rg_verify_expressions.specs.declared.refusal.Refusal.{Refusal}
use Rattle.rg_verify_expressions.specs.declared.refusal.Refusal.TheVariants as refusal
use Rattle.rg_verify_expressions.specs.declared.front.FrontRow.{FrontRow}
use Rattle.rg_verify_expressions.specs.Raised.{Front}
use Rattle.rg_verify_expressions.specs.Parts.{part_of}
use Rattle.rg_verify_expressions.specs.Raises.{RaisesAll}
use Rattle.rg_verify_expressions.specs.Rows.{front_named, IsFrontIn, AreFronts}
use Rattle.rg_verify_expressions.specs.Raising.{Item, act, walk, front_in, fronts, raised}
use Rattle.rg_verify_expressions.specs.Inner.Stacks.{IsFor, Piled, Holds, Makes, Walks, MakesFront, MakesFronts}
use Rattle.rg_verify_expressions.proofs.TreeStack.{piled-later, piled-pop}
use Rattle.rg_verify_expressions.proofs.Raises.{raised-stand}
use Rattle.rg_verify_expressions.proofs.Again.{stand-raised}

-- A walk that has come to an address, with a stack, ends as the whole walk does.
pub record Walking (t u : Tables) (m : Truth) (ops : List Op) (from at : ℕ) (hs : List Held) : Type 0 where
  pub within : at ≤ length ops
  pub items : List Item
  pub holds : Holds t u m hs items
  pub same : walk (drop at ops) at items ≡ walk (drop from ops) from []

pub walking-start : (t : Tables) (m : Truth) (ops : List Op) (from : ℕ) (hs : List Held) → from ≤ length ops → hs ≡ []
    → Walking t t m ops from from hs
walking-start t m ops from hs le e =
    record { within = le; items = []; holds = record { extends = extends-same t; piled = e }; same = refl }

module _ {t u : Tables} {m : Truth} {ops : List Op} {from at : ℕ} {hs : List Held} (w : Walking t u m ops from at hs) where
  -- no instruction is left
  pub walking-past : length ops ≤ at → (stack : Vec Held Global) → stack.items ≡ hs → Walks t u m (walk (drop from ops) from []) (Ok (stack, at))
  unfolding walk
  walking-past le stack e =
      let none : walk (drop at ops) at w.items ≡ Some (w.items, at) = rw (drop_all at ops le) refl in
      (w.items, sym w.same ∙ none, subst (λ (ks : List Held). Holds t u m ks w.items) (sym e) w.holds)

  module _ (o : Op) (there : slice_get ops at ≡ Some o) where
    -- one that no expression has
    pub walking-ends : part_of o ≡ None → (stack : Vec Held Global) → stack.items ≡ hs
        → Walks t u m (walk (drop from ops) from []) (Ok (stack, at))
    unfolding walk
    walking-ends f stack e =
        let stops : walk (drop at ops) at w.items ≡ Some (w.items, at) = rw (drop-here ops at o there, walk, f) refl in
        (w.items, sym w.same ∙ stops, subst (λ (ks : List Held). Holds t u m ks w.items) (sym e) w.holds)

    module _ (p : Part) (is : part_of o ≡ Some p) where
      goes_on : (made : Option (List Item)) → act p (suc at) w.items ≡ made
          → ◌≡◌ {A = Option (List Item × ℕ)} (walk (drop at ops) at w.items)
          (elim made [ None ↦ None | Some new ↦ walk (drop (at + 1) ops) (suc at) new ])
      unfolding walk
      goes_on made e = rw (drop-here ops at o there, walk, is, e) refl

      -- it is done
      pub walking-next : (v : Tables) (news : List Held) → at < length ops
          → ((items : List Item) → Piled u m hs items → Makes u v m news (Ok tt) (act p (at + 1) items)) → Walking t v m ops from (at + 1) news
      walking-next v news lt h = by (act p (suc at) w.items) refl
        where
          one : suc at ≡ at + 1
          one = omega arith

          by : (made : Option (List Item)) → act p (suc at) w.items ≡ made → Walking t v m ops from (at + 1) news
          by None e =
              let made : Makes u v m news (Ok tt) (act p (at + 1) w.items) = h w.items w.holds.piled in
              let no : act p (at + 1) w.items ≡ None = subst (λ (n : ℕ). act p n w.items ≡ None) one e in
              absurd (subst (Makes u v m news (Ok tt)) no made)
          by (Some new) e =
              let made : Makes u v m news (Ok tt) (act p (at + 1) w.items) = h w.items w.holds.piled in
              let yes : act p (at + 1) w.items ≡ Some new = subst (λ (n : ℕ). act p n w.items ≡ Some new) one e in
              let now : Holds u v m news new = subst (Makes u v m news (Ok tt)) yes made in
              record {
                within = omega (arith, lt);
                items = new;
                holds = record { extends = extends-trans w.holds.extends now.extends; piled = now.piled };
                same = ap (λ (n : ℕ). walk (drop (at + 1) ops) n new) (sym one) ∙ sym (goes_on (Some new) e) ∙ w.same;
              }

      -- it is refused
      pub walking-refused : (v : Tables) (news : List Held) (e : Refusal)
          → ((items : List Item) → Piled u m hs items → Makes u v m news (Err e) (act p (at + 1) items))
          → Walks t v m (walk (drop from ops) from []) (Err e)
      walking-refused v news refusal.Memory h = tt
      walking-refused v news refusal.NotRaised h =
          let one : at + 1 ≡ suc at = omega arith in
          let no : act p (suc at) w.items ≡ None = subst (λ (n : ℕ). act p n w.items ≡ None) one (h w.items w.holds.piled) in
          sym w.same ∙ goes_on None no

-- The rows of the trees

-- rows of the topmost fronts, the topmost first, and what is left of the stack
pub record Taking (t u : Tables) (m : Truth) (hs : List Held) (rows : List FrontRow) (wanted : Option (List Front)) : Type 0 where
  pub items : List Item
  pub done : List Front
  pub extends : Extends t u
  pub piled : Piled u m hs items
  pub rows_are : AreFronts u (reverse rows) (map (front_named m) done)
  pub same : fronts items done ≡ wanted

-- an item as the front that it is
fronts-by : (x : Item) (below : List Item) (done : List Front) (f : Option Front) → front_in x ≡ f
    → ◌≡◌ {A = Option (List Front)} (fronts (x ∷ below) done) (elim f [ None ↦ None | Some y ↦ fronts below (y ∷ done) ])
fronts-by x below done f e = ap (λ (o : Option Front). elim o [ None ↦ None | Some y ↦ fronts below (y ∷ done) ]) e

taken-by : (t u v : Tables) (m : Truth) (news : List Held) (rows : List FrontRow) (r : FrontRow) (wanted : Option (List Front)) (x : Item)
    (below : List Item) (done : List Front) (f : Option Front) → front_in x ≡ f → Extends t u → Piled u m news below
    → AreFronts u (reverse rows) (map (front_named m) done) → fronts (x ∷ below) done ≡ wanted → MakesFront u v m f (Ok r)
    → Taking t v m news (rows ++ r ∷ []) wanted
taken-by t u v m news rows r wanted x below done None e g p are same made = absurd made
taken-by t u v m news rows r wanted x below done (Some f) e g p are same made =
    let later = means-later are made.extends in
    let turned : reverse (rows ++ r ∷ []) ≡ r ∷ reverse rows = reverse-append rows (r ∷ []) in
    record {
      items = below;
      done = f ∷ done;
      extends = extends-trans g made.extends;
      piled = piled-later m news below made.extends p;
      rows_are = rw turned (record {
        is = λ w k. let h = made.means.is w k in let l = later.is w k in cc;
        there = λ w k. All-cons (IsFrontIn w) r (reverse rows) (made.means.there w k) (later.there w k);
      });
      same = sym (fronts-by x below done (Some f) e) ∙ same;
    }

pub taking-next : {t u : Tables} (v : Tables) {m : Truth} {hs : List Held} (news : List Held) (h : Held) {rows : List FrontRow} (r : FrontRow)
    {wanted : Option (List Front)} → Taking t u m hs rows wanted → hs ≡ news ++ h ∷ []
    → ((x : Item) → IsFor u m h x → MakesFront u v m (front_in x) (Ok r)) → Taking t v m news (rows ++ r ∷ []) wanted
taking-next {t} {u} v {m} {hs} news h {rows} r {wanted} k popped made =
    let (x, below, same, is, p) = piled-pop u m hs news h k.items popped k.piled in
    taken-by t u v m news rows r wanted x below k.done (front_in x) refl k.extends p k.rows_are
    (ap (λ (xs : List Item). fronts xs k.done) (sym same) ∙ k.same) (made x is)

refused-by : (t u v : Tables) (m : Truth) (wanted : Option (List Front)) (x : Item) (below : List Item) (done : List Front) (f : Option Front)
    (e : Refusal) → front_in x ≡ f → fronts (x ∷ below) done ≡ wanted → MakesFront u v m f (Err e) → MakesFronts t v m wanted (Err e)
refused-by t u v m None x below done f refusal.Memory is same h = tt
refused-by t u v m (Some fs) x below done f refusal.Memory is same h = tt
refused-by t u v m wanted x below done None refusal.NotRaised is same h = sym same ∙ fronts-by x below done None is
refused-by t u v m wanted x below done (Some f) refusal.NotRaised is same h = absurd h

pub taking-refused : {t u : Tables} (v : Tables) {m : Truth} {hs : List Held} (news : List Held) (h : Held) {rows : List FrontRow}
    {wanted : Option (List Front)} (e : Refusal) → Taking t u m hs rows wanted → hs ≡ news ++ h ∷ []
    → ((x : Item) → IsFor u m h x → MakesFront u v m (front_in x) (Err e)) → MakesFronts t v m wanted (Err e)
taking-refused {t} {u} v {m} {hs} news h {rows} {wanted} e k popped made =
    let (x, below, same, is, p) = piled-pop u m hs news h k.items popped k.piled in
    refused-by t u v m wanted x below k.done (front_in x) e refl (ap (λ (xs : List Item). fronts xs k.done) (sym same) ∙ k.same) (made x is)

ended-by : (t u : Tables) (m : Truth) (hs : List Held) (rows : List FrontRow) (wanted : Option (List Front)) (turned : Vec FrontRow Global)
    (items : List Item) (done : List Front) → length hs ≡ 0 → Extends t u → Piled u m hs items
    → AreFronts u (reverse rows) (map (front_named m) done) → fronts items done ≡ wanted → turned.items ≡ reverse rows
    → MakesFronts t u m wanted (Ok turned)
ended-by t u m hs rows wanted turned [] done e g p are same f =
    subst (λ w. MakesFronts t u m w (Ok turned)) same (g, subst (λ (rs : List FrontRow). AreFronts u rs (map (front_named m) done)) (sym f) are)
ended-by t u m hs rows wanted turned (x ∷ xs) done e g (below, h, q, is, p) are same f =
    absurd (omega (arith, e, ap length q, length-append below (h ∷ [])))

pub taking-end : {t u : Tables} {m : Truth} {hs : List Held} {rows : List FrontRow} {wanted : Option (List Front)} (turned : Vec FrontRow Global)
    → length hs ≡ 0 → Taking t u m hs rows wanted → turned.items ≡ reverse rows → MakesFronts t u m wanted (Ok turned)
taking-end {t} {u} {m} {hs} {rows} {wanted} turned e k f = ended-by t u m hs rows wanted turned k.items k.done e k.extends k.piled k.rows_are k.same f

-- All together

raised-none : (ops : List Op) (at : ℕ) → walk ops at [] ≡ None → raised ops at ≡ None
unfolding raised
raised-none ops at e = rw (raised, e) refl

raised-fronts : (ops : List Op) (at end : ℕ) (items : List Item) (r : Option (List Front)) → walk ops at [] ≡ Some (items, end)
    → fronts items [] ≡ r → raised ops at ≡ option_map {U = List Front × ℕ} (λ (fs : List Front). (fs, end)) r
unfolding raised
raised-fronts ops at end items r e f = rw (raised, e, f) refl

refuses : (t u : Tables) (m : Truth) (ops : List Op) (at : ℕ) → raised ops at ≡ None → RaisesAll t u m ops at (Err refusal.NotRaised)
refuses t u m ops at e fs end s =
    let f : raised ops at ≡ Some (fs, end) = stand-raised ops at fs end s in
    absurd cc

pub walk-refused : (t u : Tables) (m : Truth) (ops : List Op) (at : ℕ) (e : Refusal) → Walks t u m (walk ops at []) (Err e)
    → RaisesAll t u m ops at (Err e)
walk-refused t u m ops at refusal.Memory h = tt
walk-refused t u m ops at refusal.NotRaised h = refuses t u m ops at (raised-none ops at h)

module _ (t u v : Tables) (m : Truth) (ops : List Op) (at end : ℕ) (stack : Vec Held Global)
    (h : Walks t u m (walk ops at []) (Ok (stack, end))) where
  pub rows-refused : (e : Refusal) → ((items : List Item) → Piled u m stack.items items → MakesFronts u v m (fronts items []) (Err e))
      → RaisesAll t v m ops at (Err e)
  rows-refused refusal.Memory k = tt
  rows-refused refusal.NotRaised k =
      let (items, e, holds) = h in
      refuses t v m ops at (raised-fronts ops at end items None e (k items holds.piled))

  pub rows-raised : (rows : Vec FrontRow Global) → ((items : List Item) → Piled u m stack.items items → MakesFronts u v m (fronts items []) (Ok rows))
      → RaisesAll t v m ops at (Ok (rows, end))
  rows-raised rows k =
      let (items, e, holds) = h in
      by items e holds (fronts items []) refl (k items holds.piled)
    where
      by : (items : List Item) → walk ops at [] ≡ Some (items, end) → Holds t u m stack.items items → (r : Option (List Front)) → fronts items [] ≡ r
          → MakesFronts u v m r (Ok rows) → RaisesAll t v m ops at (Ok (rows, end))
      by items e holds None f made = absurd made
      by items e holds (Some fs) f (g, are) =
          (fs, raised-stand ops at fs end (raised-fronts ops at end items (Some fs) e f), extends-trans holds.extends g, are)
