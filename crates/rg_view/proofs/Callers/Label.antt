-- What is shown where cells get another label: the store with that label of all objects in some regions.
use Rattle.std.proofs.Common.{◌≡◌, ◌⊎◌, inl, inr, ℕ, ◌==◌, Bool as Truth, true, false, if◌then◌else◌, cond, List, [], ◌∷◌, Option, Some, None}
use Rattle.std.proofs.Common.{option_map, is_some, refl, sym, ap, ◌∙◌, subst}
use Rattle.std.proofs.lemmas.Bool.{false≢true, eq-eqb, eqb-true}
use Rattle.std.proofs.lemmas.Option.{none-some}
use Rattle.rg_base.specs.declared.object.Label.{Label}
use Rattle.rg_base.specs.declared.object.Label.TheVariants.{Region, Temp, Frozen}
use Rattle.rg_base.proofs.Callers.Labels.{region-same, frozen-region, temp-region}
use Rattle.rg_rules.specs.Regions.{among, in_regions, relabelled_object, relabelled}
use Rattle.rg_cells.specs.declared.cell.Body.{Body}
use Rattle.rg_cells.specs.Table.{Heap, body_at, label_at, Serials}
use Rattle.rg_regions.specs.Table.{HasNumber}
use Rattle.rg_regions.specs.Reach.{LiesIn}
use Rattle.rg_regions.proofs.Callers.Told.{one_number}
use Rattle.rg_move.specs.Closed.{BelowKey}
use Rattle.rg_move.specs.Frozen.{labelled}
use Rattle.rg_heap.specs.Parts.{Parts}
use Rattle.rg_heap.specs.Answers.{obj_of}
use Rattle.rg_heap.specs.Moves.{Freezes, Merges}
use Rattle.rg_view.specs.View.{object_of, store_of}
use Rattle.rg_view.specs.Names.{Names}
use Rattle.rg_view.proofs.Callers.Shown.{IsSameObject, object-same}
use Rattle.rg_view.proofs.Callers.Become.{Becomes, becomes-store, becomes-serials}

-- the cells of some regions get a label, and all else stays
pub record Labels (old new : Heap) (regions : List ℕ) (label : Label) : Type 0 where
  pub next : new.next ≡ old.next
  pub moved : (q s : ℕ) → among regions q ≡ true → LiesIn old q s → body_at new s ≡ labelled label (body_at old s)
  pub stay : (s : ℕ) → ((q : ℕ) → among regions q ≡ true → LiesIn old q s → ⊥) → body_at new s ≡ body_at old s

module _ (old new : Heap) (regions : List ℕ) (label : Label) (l : Labels old new regions label) where
  -- a cell that gets the label
  record Gets (s : ℕ) (b : Body) : Type 0 where
    pub test : in_regions regions b.label ≡ true
    pub is : body_at new s ≡ Some (record b { label = label })

  -- one that keeps its own
  record Keeps (s : ℕ) (b : Body) : Type 0 where
    pub test : in_regions regions b.label ≡ false
    pub is : body_at new s ≡ Some b

  fate : (s : ℕ) (b : Body) → body_at old s ≡ Some b → Gets s b ⊎ Keeps s b
  fate s b e = by b.label refl
    where
      label-is : label_at old s ≡ Some b.label
      label-is = ap (option_map (λ (b : Body). b.label)) e

      by : (k : Label) → b.label ≡ k → Gets s b ⊎ Keeps s b
      by (Region q) is = test (among regions q) refl
        where
          lies : label_at old s ≡ Some (Region q)
          lies = label-is ∙ ap Some is

          test : (t : Truth) → among regions q ≡ t → Gets s b ⊎ Keeps s b
          test true a = inl (record {
            test = ap (in_regions regions) is ∙ a;
            is = l.moved q s a lies ∙ ap (labelled label) e;
          })
          test false a = inr (record {
            test = ap (in_regions regions) is ∙ a;
            is =
                l.stay s (λ p t m. let one = region-same p q (sym m ∙ lies) in false≢true (sym a ∙ ap (among regions) (sym one) ∙ t)) ∙ e;
          })
      by (Temp n) is = inr (record {
        test = ap (in_regions regions) is;
        is = l.stay s (λ p t m. temp-region n p (sym (label-is ∙ ap Some is) ∙ m)) ∙ e;
      })
      by Frozen is = inr (record {
        test = ap (in_regions regions) is;
        is = l.stay s (λ p t m. frozen-region p (sym (label-is ∙ ap Some is) ∙ m)) ∙ e;
      })

  none-comes : (s : ℕ) → body_at old s ≡ None → body_at new s ≡ None
  none-comes s e = l.stay s (λ p t m. none-some (Region p) (sym (ap (option_map (λ (b : Body). b.label)) e) ∙ m)) ∙ e

  -- every cell keeps its serial
  pub labels-same : (s : ℕ) → IsSameObject old new s
  labels-same s = by (body_at old s) refl
    where
      by : (o : Option Body) → body_at old s ≡ o → IsSameObject old new s
      by None e = ap obj_of (none-comes s e ∙ sym e)
      by (Some b) e = elim (fate s b e) [
        | inl g ↦ ap obj_of g.is ∙ ap obj_of (sym e)
        | inr g ↦ ap obj_of (g.is ∙ sym e)
      ]

  becomes : Becomes old new (relabelled_object regions label)
  becomes = record {
    next = l.next;
    gone_stays = refl;
    each = λ s b e. elim (fate s b e) [
      | inl g ↦ inl (record {
        body = record b { label = label };
        held = g.is;
        serial = refl;
        shown =
            object-same old new (record b { label = label }) (λ k x f. labels-same x)
            ∙ sym (ap (λ t. if t then record (object_of old (Some b)) { label = label } else object_of old (Some b)) g.test);
      })
      | inr g ↦ inl (record {
        body = b;
        held = g.is;
        serial = refl;
        shown =
            object-same old new b (λ k x f. labels-same x)
            ∙ sym (ap (λ t. if t then record (object_of old (Some b)) { label = label } else object_of old (Some b)) g.test);
      })
    ];
    none = none-comes;
  }

  -- the store behind it
  pub labels-store : Serials old → store_of new ≡ relabelled regions label (store_of old)
  labels-store q = becomes-store old new (relabelled_object regions label) q becomes

  pub labels-serials : Serials old → Serials new
  labels-serials q = becomes-serials old new (relabelled_object regions label) q becomes

-- a freeze labels the cells of the region and of all beneath it
pub freeze-labels : (old new : Parts) (key : ℕ) (regions : List ℕ) → Freezes old new key
    → Names regions (BelowKey old.cells.heap old.regions key) → Labels old.cells.heap new.cells.heap regions Frozen
freeze-labels old new key regions f names = record {
  next = f.serials;
  moved = λ q s a lies. (f.frozen q s (names.only q a) lies).0;
  stay = λ s out. (f.cells s (λ q below lies. out q (names.all q below) lies)).0;
}

-- one number among one
pub one-is : (q p : ℕ) → among (q ∷ []) p ≡ true → q ≡ p
one-is q p e = by (q == p) refl
  where
    by : (t : Truth) → (q == p) ≡ t → q ≡ p
    by true is = eqb-true q p is
    by false is = absurd (false≢true (sym (ap (λ b. is_some (cond b (Some q) None)) is) ∙ e))

pub one-there : (q p : ℕ) → q ≡ p → among (q ∷ []) p ≡ true
one-there q p e = ap (λ b. is_some (cond b (Some q) None)) (eq-eqb q p e)

-- a merge labels those of the one region
pub merge-labels : (old new : Parts) (source into from to : ℕ) → Merges old new source into
    → HasNumber old.regions source from → HasNumber old.regions into to
    → Labels old.cells.heap new.cells.heap (from ∷ []) (Region to)
merge-labels old new source into from to m f t = record {
  next = m.serials;
  moved = λ q s a lies. (m.moved from to s f t (subst (λ r. LiesIn old.cells.heap r s) (sym (one-is from q a)) lies)).0;
  stay = λ s out. (m.cells s (λ q has lies. out q (one-there from q (one_number old.regions source from q f has)) lies)).0;
}
