-- The machine behind a release: what the word owns is gone.
use Rattle.std.proofs.Common.{◌≡◌, ◌||◌, if◌then◌else◌, inl, inr, ℕ, true, List, [], ◌∷◌, reverse, Option, Some, None, option_map}
use Rattle.std.proofs.Common.{length, slice_get, refl, sym, ap, ◌∙◌, subst}
use Rattle.std.specs.Prelude.{filter_map}
use Rattle.std.proofs.lemmas.Bool.{cases_eq, false≢true}
use Rattle.std.proofs.lemmas.List.{reverse-reverse}
use Rattle.std.proofs.lemmas.Option.{slice_get-map}
use Rattle.rg_base.specs.declared.object.Label.{Label}
use Rattle.rg_base.specs.declared.object.Label.TheVariants.{Region, Temp, Frozen}
use Rattle.rg_base.specs.declared.object.Seen.{Seen}
use Rattle.rg_base.specs.declared.value.Val.{Val}
use Rattle.rg_base.specs.declared.value.Word.{Word}
use Rattle.rg_base.specs.declared.value.Word.TheVariants as word
use Rattle.rg_base.proofs.Callers.Labels.{slot-same}
use Rattle.rg_rules.specs.Regions.{in_regions}
use Rattle.rg_cells.specs.Table.{Serials}
use Rattle.rg_regions.specs.Reach.{LiesIn}
use Rattle.rg_regions.specs.Grove.{Grove, Below}
use Rattle.rg_stack.specs.Effects.{beneath_by_labels}
use Rattle.rg_stack.specs.Needs.{places_into, owned_once, loose, closed_into}
use Rattle.rg_heap.specs.Parts.{Parts as HeapParts}
use Rattle.rg_heap.specs.Answers.{val_of}
use Rattle.rg_heap.specs.Reads.{LeadsIntoClosed}
use Rattle.rg_heap.specs.Ends.{Released, NoCell, OnSlot, OnRegion}
use Rattle.rg_heap.specs.Writes.{Ownerless}
use Rattle.rg_held.specs.Frees.{is_temp, bury, closed_among, forgotten}
use Rattle.rg_held.specs.Gone.{gone}
use Rattle.rg_held.proofs.Lists.{reverse-back}
use Rattle.rg_view.specs.Links.{BelowSome}
use Rattle.rg_view.specs.Names.{Names}
use Rattle.rg_view.specs.View.{values_of}
use Rattle.rg_view.proofs.Callers.Gone.After.{no-temps}
use Rattle.rg_view.proofs.Callers.Gone.Beneath.{beneath-names, bury-names}
use Rattle.rg_view.proofs.Callers.Gone.Managers.{released-forgotten, forgets, remembered}
use Rattle.rg_view.proofs.Callers.Held.{all-lead}
use Rattle.rg_view.proofs.Callers.Need.{keyed, ownerless-loose}
use Rattle.rg_view.proofs.Callers.Open.{closed-there, into-closed}
use Rattle.rg_view.proofs.Callers.Gone.Released.{kept-same}
use Rattle.rg_view.proofs.Callers.Shown.{values-same}
use Rattle.rg_view.proofs.Callers.Table.{FewerNumbers}
use Rattle.rg_machine.specs.Core.{with_machine}
use Rattle.rg_machine.specs.Effects.{Apart, without}
use Rattle.rg_machine.specs.Parts.{Parts, machine_in, val_in}
use Rattle.rg_machine.specs.Cores.{core_of}
use Rattle.rg_machine.specs.Stands.{AllLead, Leads, Stands}
use Rattle.rg_machine.proofs.Release.Behind.{regions, names, released, Goes, stands-released, leads-released, no-word, none-loose}

-- what is asked of a word whose region goes
pub record Asked (p : Parts) (w : Word) : Type 0 where
  pub leads : Leads p.heap p.frames w
  pub once : owned_once (machine_in p) ≡ true
  pub free : loose (machine_in p) (val_in p w) ≡ true
  pub apart : Apart (core_of p) (val_in p w)

filter-one : {A : Type 0} (f : A → Option ℕ) (x : A) (r : ℕ) → f x ≡ Some r → filter_map f (x ∷ []) ≡ r ∷ []
filter-one f x r e = rw e refl

pub filter-none : {A : Type 0} (f : A → Option ℕ) (x : A) → f x ≡ None → filter_map f (x ∷ []) ≡ []
filter-none f x e = rw e refl

module _ (p : Parts) (w : Word) (q : Serials p.heap.cells.heap) (g : Grove p.heap.cells p.heap.regions) (s : Stands p.heap p.frames) where
  -- what a release asks of a word that owns something
  pub may-release : Leads p.heap p.frames w → LeadsIntoClosed p.heap p.frames w → loose (machine_in p) (val_in p w) ≡ true
      → OnSlot w (λ slot. (number : ℕ) × Ownerless p.heap.cells.heap p.heap.regions number slot)
  may-release l c free slot is =
      let same : c.1 ≡ slot = slot-same c.1 slot (sym c.2 ∙ is) in
      let lies : LiesIn p.heap.cells.heap c.0 slot = subst (LiesIn p.heap.cells.heap c.0) same c.3 in (
        c.0,
        ownerless-loose p.heap p.frames p.at q g s.opened c.0 slot lies c.4 (l.bridge slot c.0 is lies c.4)
            (subst (λ w. loose (machine_in p) (val_in p w) ≡ true) is free),
      )

  -- the closed region into which it leads
  pub closed-word : (c : LeadsIntoClosed p.heap p.frames w) → closed_into (machine_in p) (val_in p w) ≡ Some c.0
  closed-word c =
      ap (λ w. closed_into (machine_in p) (val_in p w)) c.2
      ∙ closed-there p.heap p.frames p.at q (keyed p.heap p.frames p.at q g s.opened) g.labels c.1 c.0 c.3 c.4

  -- a word that owns nothing leads into none
  pub closed-none : (LeadsIntoClosed p.heap p.frames w → ⊥) → closed_into (machine_in p) (val_in p w) ≡ None
  closed-none out = by (closed_into (machine_in p) (val_in p w)) refl
    where
      by : (o : Option ℕ) → closed_into (machine_in p) (val_in p w) ≡ o → closed_into (machine_in p) (val_in p w) ≡ None
      by None e = e
      by (Some r) e =
          let c = into-closed p.heap p.frames p.at q (keyed p.heap p.frames p.at q g s.opened) g.labels w r e in
          absurd (out (r, c.0, c.1, c.2, c.3))

  module _ (new : HeapParts) (lead : AllLead p.heap p.frames p.words) (c : LeadsIntoClosed p.heap p.frames w)
      (once : owned_once (machine_in p) ≡ true) (free : loose (machine_in p) (val_in p w) ≡ true) (apart : Apart (core_of p) (val_in p w))
      (rel : OnSlot w (λ slot. OnRegion p.heap slot (λ key number. Released p.heap new (Below p.heap.cells.heap p.heap.regions number) NoCell)))
      (gn : Grove new.cells new.regions) where
    went : Released p.heap new (Below p.heap.cells.heap p.heap.regions c.0) NoCell
    went = rel c.1 c.2 c.4.0 c.0 c.3 c.4.1

    none : places_into (machine_in p) c.0 ≡ 0
    none = none-loose (machine_in p) (val_in p w) c.0 (closed-word c) free

    pub stands-behind : Stands new p.frames
    stands-behind = stands-released p.heap p.frames p.at q g s new c.0 c.4 once none went gn

    -- words on the stack don't lead there
    word-out : (k x r : ℕ) → slice_get p.words k ≡ Some (word.Slot x) → LiesIn p.heap.cells.heap r x
        → Goes p.heap p.frames p.at q g s new c.0 c.4 once none went gn r → ⊥
    word-out k x r e lies goes =
        let j = reverse-back (reverse p.words) k (word.Slot x) (ap (λ ws. slice_get ws k) (reverse-reverse p.words) ∙ e) in
        let shown : slice_get (values_of p.heap.cells.heap p.words) j.0 ≡ Some (val_in p (word.Slot x)) =
        slice_get-map (val_of p.heap.cells.heap) (reverse p.words) j.0 ∙ ap (option_map (val_of p.heap.cells.heap)) j.1 in
        let a = apart j.0 c.0 (val_in p (word.Slot x)) shown in
        elim (cases_eq r c.0) [
          | inl same ↦
              a.1 (closed-there p.heap p.frames p.at q (keyed p.heap p.frames p.at q g s.opened) g.labels x c.0
              (subst (λ r. LiesIn p.heap.cells.heap r x) same lies) c.4) (closed-word c)
          | inr d ↦ no-word p.heap p.frames p.at q g s new c.0 c.4 once none went gn x r lies a.0 d goes
        ]

    pub lead-behind : AllLead new p.frames p.words
    lead-behind k x e =
        leads-released p.heap p.frames p.at q g s new c.0 c.4 once none went gn x (lead k x e)
        (λ y r is lies goes. word-out k y r (e ∙ ap Some is) lies goes)

    values : values_of new.cells.heap p.words ≡ values_of p.heap.cells.heap p.words
    values = values-same p.heap.cells.heap new.cells.heap p.words (λ k x e.
        let j = reverse-back p.words k (word.Slot x) e in
        kept-same p.heap new (Goes p.heap p.frames p.at q g s new c.0 c.4 once none went gn) NoCell
        (regions p.heap p.frames p.at q g s new c.0 c.4 once none went gn) None (released p.heap p.frames p.at q g s new c.0 c.4 once none went gn)
        (names p.heap p.frames p.at q g s new c.0 c.4 once none went gn) (no-temps p.heap.cells.heap) x
        ((lead-behind j.0 (word.Slot x) j.1).held x refl))

    pub core-behind : core_of (record p { heap = new }) ≡ without (core_of p) (val_in p w ∷ [])
    core-behind =
        let m = machine_in p in
        let shown = released-forgotten p.frames p.at p.heap new (Goes p.heap p.frames p.at q g s new c.0 c.4 once none went gn) NoCell
        (regions p.heap p.frames p.at q g s new c.0 c.4 once none went gn) None [] p.printed
        (released p.heap p.frames p.at q g s new c.0 c.4 once none went gn) (names p.heap p.frames p.at q g s new c.0 c.4 once none went gn)
        (no-temps p.heap.cells.heap) q s.numbers (all-lead new p.frames gn stands-behind.opened stands-behind.temps) gn stands-behind.bridges
        stands-behind.opened in
        ap (λ x. record { machine = x; stack = values_of new.cells.heap p.words; printed = p.printed }) shown
        ∙ ap (λ vs. record {
          machine = (forgotten (record {
            machine = record m { store = bury (beneath_by_labels m.store (length m.managers) (c.0 ∷ [])) None m.store };
            input = [];
            printed = p.printed;
          })).machine;
          stack = vs;
          printed = p.printed;
        }) values
        ∙ ap (λ tops. record {
          machine = (forgotten (record {
            machine = record m { store = bury (beneath_by_labels m.store (length m.managers) tops) None m.store };
            input = [];
            printed = p.printed;
          })).machine;
          stack = values_of p.heap.cells.heap p.words;
          printed = p.printed;
        }) (sym (filter-one (closed_into m) (val_in p w) c.0 (closed-word c)))

-- where a word owns nothing, the machine stays
pub core-same : (p : Parts) → Serials p.heap.cells.heap → Grove p.heap.cells p.heap.regions → Stands p.heap p.frames → (vs : List Val)
    → closed_among (machine_in p) vs ≡ [] → core_of p ≡ without (core_of p) vs
core-same p q g s vs e =
    let m = machine_in p in
    let same : FewerNumbers p.heap.regions p.heap.regions = record { next = refl; there = λ k r e. (r, e, refl, refl) } in
    let store : m.store ≡ bury (beneath_by_labels m.store (length m.managers) []) None m.store =
    sym (bury-none m.store) ∙ bury-names NoRegion [] (beneath_by_labels m.store (length m.managers) []) no-names
    (none-beneath p.heap (beneath_by_labels m.store (length m.managers) []) (beneath-names p.heap q g s.numbers [])) None m.store in
    let kept : m.managers ≡ remembered m.windows m.store m.managers =
    forgets p.heap p.heap same s.numbers q g s.bridges p.frames s.opened in
    ap (λ ms. with_machine (core_of p) (record m { managers = ms })) kept
    ∙ ap (λ store. with_machine (core_of p) (record m { store = store; managers = remembered m.windows store m.managers })) store
    ∙ ap (λ tops. with_machine (core_of p) (forgotten (record {
      machine = record m { store = bury (beneath_by_labels m.store (length m.managers) tops) None m.store };
      input = [];
      printed = p.printed;
    })).machine) (sym e)
  where
    NoRegion : ℕ → Type 0
    NoRegion r = ⊥

    no-names : Names [] NoRegion
    no-names = record { all = λ r x. absurd x; only = λ r e. false≢true e }

    none-beneath : (h : HeapParts) (rs : List ℕ) → Names rs (BelowSome h.cells.heap h.regions []) → Names rs NoRegion
    none-beneath h rs n = record { all = λ r x. absurd x; only = λ r e. false≢true (n.only r e).1 }

    bury-none : (store : List Seen) → bury [] None store ≡ store
    bury-none [] = refl
    bury-none (o ∷ os) = stays o.label ∙ ap (λ xs. o ∷ xs) (bury-none os)
      where
        stays : (l : Label) → (if in_regions [] l || is_temp None l then gone else o) ∷ bury [] None os ≡ o ∷ bury [] None os
        stays (Region r) = refl
        stays (Temp n) = refl
        stays Frozen = refl
