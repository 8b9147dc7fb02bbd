-- What is shown where regions are released and temporaries end: their objects are gone, and all others are as they were.
use Rattle.std.proofs.Common.{◌≡◌, ◌⊎◌, inl, inr, ℕ, ◌==◌, ◌||◌, Bool as Truth, true, false, if◌then◌else◌, List, Option, Some, None}
use Rattle.std.proofs.Common.{option_map, refl, sym, ap, ◌∙◌}
use Rattle.std.proofs.lemmas.Bool.{false≢true, eqb-true, eqb-false}
use Rattle.std.proofs.lemmas.Option.{none-some, same_Some}
use Rattle.rg_base.specs.declared.object.Label.{Label}
use Rattle.rg_base.specs.declared.object.Label.TheVariants.{Region, Temp, Frozen}
use Rattle.rg_base.proofs.Callers.Labels.{region-same, frozen-region, temp-region}
use Rattle.rg_rules.specs.Regions.{among, in_regions}
use Rattle.rg_cells.specs.declared.cell.Body.{Body}
use Rattle.rg_cells.specs.Table.{body_at, label_at, Serials, IsHeld}
use Rattle.rg_heap.specs.Parts.{Parts}
use Rattle.rg_heap.specs.Answers.{AllLead, obj_of}
use Rattle.rg_heap.specs.Ends.{Released}
use Rattle.rg_view.specs.View.{object_of, store_of}
use Rattle.rg_view.specs.Names.{Names, AreTemps}
use Rattle.rg_view.proofs.Callers.Shown.{IsSameObject, object-same, held-body, field-in}
use Rattle.rg_view.proofs.Callers.Become.{Becomes, becomes-store, becomes-serials}
use Rattle.rg_held.specs.Frees.{is_temp, buried, bury}
use Rattle.rg_held.specs.Gone.{gone}

-- whether an object with a label goes
abbrev goes : List ℕ → Option ℕ → Label → Truth
goes regions temps l = in_regions regions l || is_temp temps l

no-temp : (temps : Option ℕ) (r : ℕ) → is_temp temps (Region r) ≡ false
no-temp None r = refl
no-temp (Some n) r = refl

frozen-stays : (regions : List ℕ) (temps : Option ℕ) → goes regions temps Frozen ≡ false
frozen-stays regions None = refl
frozen-stays regions (Some n) = refl

same-temp : (n m : ℕ) → Some (Temp n) ≡ Some (Temp m) → n ≡ m
same-temp n m e = cc

frozen-temp : (n : ℕ) → Some Frozen ≡ Some (Temp n) → ⊥
frozen-temp n e = cc

module _ (old new : Parts) (Gone Cell : ℕ → Type 0) (regions : List ℕ) (temps : Option ℕ) (r : Released old new Gone Cell)
    (names : Names regions Gone) (cells : AreTemps old.cells.heap temps Cell) where
  -- a cell that goes
  pub record Goes (s : ℕ) (b : Body) : Type 0 where
    pub test : goes regions temps b.label ≡ true
    pub freed : body_at new.cells.heap s ≡ None

  -- one that stays
  pub record Stays (s : ℕ) (b : Body) : Type 0 where
    pub test : goes regions temps b.label ≡ false
    pub same : body_at new.cells.heap s ≡ Some b

  fate : (s : ℕ) (b : Body) → body_at old.cells.heap s ≡ Some b → Goes s b ⊎ Stays s b
  fate s b e = by b.label refl
    where
      label-is : label_at old.cells.heap s ≡ Some b.label
      label-is = ap (option_map (λ (b : Body). b.label)) e

      by : (l : Label) → b.label ≡ l → Goes s b ⊎ Stays s b
      by (Region q) is = test (among regions q) refl
        where
          lies : label_at old.cells.heap s ≡ Some (Region q)
          lies = label-is ∙ ap Some is

          test : (t : Truth) → among regions q ≡ t → Goes s b ⊎ Stays s b
          test true a = inl (record {
            test = ap (goes regions temps) is ∙ ap (λ t. t || is_temp temps (Region q)) a;
            freed = r.freed q s (names.only q a) lies;
          })
          test false a = inr (record {
            test = ap (goes regions temps) is ∙ ap (λ t. t || is_temp temps (Region q)) a ∙ no-temp temps q;
            same =
                r.cells s (λ p g l.
                let one = region-same p q (sym l ∙ lies) in
                false≢true (sym a ∙ ap (among regions) (sym one) ∙ names.all p g))
                (λ c. let t = cells.only s c in temp-region t.0 q (sym t.1 ∙ lies)) ∙ e;
          })
      by (Temp n) is = test temps refl
        where
          lies : label_at old.cells.heap s ≡ Some (Temp n)
          lies = label-is ∙ ap Some is

          stays : (Cell s → ⊥) → body_at new.cells.heap s ≡ Some b
          stays out = r.cells s (λ p g l. temp-region n p (sym lies ∙ l)) out ∙ e

          told : (k : ℕ) → temps ≡ Some k → (t : Truth) → (n == k) ≡ t → Goes s b ⊎ Stays s b
          told k f true a = inl (record {
            test = ap (goes regions temps) is ∙ ap (λ o. is_temp o (Temp n)) f ∙ a;
            freed = r.ended s (cells.all s n lies (f ∙ ap Some (sym (eqb-true n k a))));
          })
          told k f false a = inr (record {
            test = ap (goes regions temps) is ∙ ap (λ o. is_temp o (Temp n)) f ∙ a;
            same = stays (λ c. let t = cells.only s c in
                eqb-false n k a (same-temp n t.0 (sym lies ∙ t.1) ∙ same_Some t.0 k (sym t.2 ∙ f)));
          })

          test : (o : Option ℕ) → temps ≡ o → Goes s b ⊎ Stays s b
          test None f = inr (record {
            test = ap (goes regions temps) is ∙ ap (λ o. is_temp o (Temp n)) f;
            same = stays (λ c. let t = cells.only s c in none-some t.0 (sym f ∙ t.2));
          })
          test (Some k) f = told k f (n == k) refl
      by Frozen is = inr (record {
        test = ap (goes regions temps) is ∙ frozen-stays regions temps;
        same =
            r.cells s (λ p g l. frozen-region p (sym (label-is ∙ ap Some is) ∙ l))
            (λ c. let t = cells.only s c in frozen-temp t.0 (sym (label-is ∙ ap Some is) ∙ t.1)) ∙ e;
      })

  none-comes : (s : ℕ) → body_at old.cells.heap s ≡ None → body_at new.cells.heap s ≡ None
  none-comes s e =
      let none : label_at old.cells.heap s ≡ None = ap (option_map (λ (b : Body). b.label)) e in
      r.cells s (λ p g l. none-some (Region p) (sym none ∙ l)) (λ c. let t = cells.only s c in none-some (Temp t.0) (sym none ∙ t.1)) ∙ e

  -- what is still held is as it was
  pub kept-body : (s : ℕ) (b : Body) → body_at new.cells.heap s ≡ Some b → body_at old.cells.heap s ≡ Some b
  kept-body s b e = by (body_at old.cells.heap s) refl
    where
      by : (o : Option Body) → body_at old.cells.heap s ≡ o → body_at old.cells.heap s ≡ Some b
      by None f = absurd (none-some b (sym (none-comes s f) ∙ e))
      by (Some c) f = elim (fate s c f) [
        | inl g ↦ absurd (none-some b (sym g.freed ∙ e))
        | inr g ↦ f ∙ sym g.same ∙ e
      ]

  pub kept-same : (s : ℕ) → IsHeld new.cells.heap s → IsSameObject old.cells.heap new.cells.heap s
  kept-same s held = let b = held-body new.cells.heap s held in ap obj_of (b.1 ∙ sym (kept-body s b.0 b.1))

  becomes : ((s : ℕ) → AllLead new.cells.heap s) → Becomes old.cells.heap new.cells.heap (buried regions temps)
  becomes lead = record {
    next = r.serials;
    gone_stays = both (goes regions temps gone.label);
    each = λ s b e. elim (fate s b e) [
      | inl g ↦ inr (record { freed = g.freed; shown = ap (λ t. if t then gone else object_of old.cells.heap (Some b)) g.test })
      | inr g ↦ inl (record {
        body = b;
        held = g.same;
        serial = refl;
        shown =
            object-same old.cells.heap new.cells.heap b
            (λ k x f. kept-same x (lead s k x (field-in new.cells.heap s k b g.same ∙ f)))
            ∙ sym (ap (λ t. if t then gone else object_of old.cells.heap (Some b)) g.test);
      })
    ];
    none = none-comes;
  }
    where
      both : (t : Truth) → (if t then gone else gone) ≡ gone
      both true = refl
      both false = refl

  -- the store behind it
  pub released-store : Serials old.cells.heap → ((s : ℕ) → AllLead new.cells.heap s)
      → store_of new.cells.heap ≡ bury regions temps (store_of old.cells.heap)
  released-store q lead = becomes-store old.cells.heap new.cells.heap (buried regions temps) q (becomes lead)

  pub released-serials : Serials old.cells.heap → ((s : ℕ) → AllLead new.cells.heap s) → Serials new.cells.heap
  released-serials q lead = becomes-serials old.cells.heap new.cells.heap (buried regions temps) q (becomes lead)
