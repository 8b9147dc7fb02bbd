-- A machine whose numbers name rows of a program, as its value says and as its parts say.
use Rattle.std.proofs.Common.{◌≡◌, ℕ, ◌<◌, List, [], ◌∷◌, length, Option, Some, refl, sym, ap, ◌∙◌, subst, arith}
use Rattle.std.proofs.lemmas.List.Elements.{All-nil, All-map}
use Rattle.rg_base.specs.declared.object.Seen.{Seen}
use Rattle.rg_tree.specs.Rows.Tables.{Tables}
use Rattle.rg_tree.specs.Rows.RowTrees.{classes_of, block_of, program_of}
use Rattle.rg_tree.specs.Tree.{Block, empty as no_more, then as followed_by}
use Rattle.rg_rules.specs.Items.{Item, EndAt, items_of}
use Rattle.rg_rules.specs.Runs.{opening}
use Rattle.rg_base.specs.declared.outcome.Outcome.{Outcome}
use Rattle.rg_base.proofs.Callers.Lists.{All-unmap}
use Rattle.rg_names.specs.Table.{Table}
use Rattle.rg_names.specs.TableOf.{IsTableOf}
use Rattle.rg_store.specs.Shown.{seen_of}
use Rattle.rg_store.specs.Regions.{LabelFits}
use Rattle.rg_values.specs.declared.state.parts.Parts.{Parts}
use Rattle.rg_values.specs.Shown.{AreNamed}
use Rattle.rg_values.specs.Fits.{PartsFit, TargetFits}
use Rattle.rg_values.specs.declared.state.rows.WindowRow.{WindowRow}
use Rattle.rg_values.specs.Kept.{Kept, FrameKept, kept_of, kept_frame, shown, plain_of}
use Rattle.rg_plain.specs.Inner.Inputs.{SettlesOn}
use Rattle.rg_plain.specs.Outcomes.{EndsMain}
use Rattle.rg_plain.specs.Machine.{Machine, fresh, KeptFits, Fits, BegunWith, Begins}

pub parts_fit : (t : Tables) (p : Parts) → KeptFits t (kept_of p) → PartsFit t p
parts_fit t p fits = record {
  objects = All-unmap (λ (o : Seen). o.class < length (classes_of t)) seen_of p.store.items fits.classes;
  named = fits.named;
  below = All-unmap (λ (f : FrameKept). AreNamed t f.locals) kept_frame p.below.items fits.below;
  targets = All-unmap (λ (f : FrameKept). TargetFits t f.target) kept_frame p.below.items fits.targets;
  target = fits.target;
  items = fits.items;
  regions = fits.regions;
}

pub kept_fits : (t : Tables) (p : Parts) → PartsFit t p → KeptFits t (kept_of p)
kept_fits t p fits = record {
  classes = All-map (λ (o : Seen). o.class < length (classes_of t)) seen_of p.store.items fits.objects;
  named = fits.named;
  below = All-map (λ (f : FrameKept). AreNamed t f.locals) kept_frame p.below.items fits.below;
  targets = All-map (λ (f : FrameKept). TargetFits t f.target) kept_frame p.below.items fits.targets;
  target = fits.target;
  items = fits.items;
  regions = fits.regions;
}

pub ends-items_of : (b : Block) → EndsMain (items_of b (EndAt 0 ∷ []))
ends-items_of no_more = refl
ends-items_of (followed_by s no_more) = refl
ends-items_of (followed_by s (followed_by u b)) = ends-items_of (followed_by u b)

-- a machine that begins a program
pub begins : (t : Tables) (table : Table) (k : Kept) (m : Machine) → IsTableOf t table → BegunWith t k →
    m ≡ record { classes = Some table; kept = k } → Begins t m
begins t table k m is begun m_is =
    let P : Machine → Type 0 = λ q. Begins t q in
    let Q : Kept → Type 0 = λ q. KeptFits t q in
    let E : List Item → Type 0 = λ q. EndsMain q in
    let named : KeptFits t (record fresh.kept { managers = t.manager ∷ []; items = k.items }) = record {
      classes = All-nil (λ (o : Seen). o.class < length (classes_of t));
      named = All-nil _;
      below = All-nil (λ (f : FrameKept). AreNamed t f.locals);
      targets = All-nil (λ (f : FrameKept). TargetFits t f.target);
      target = tt;
      items = begun.fit;
      regions = record {
        labels = All-nil (λ (o : Seen). LabelFits 1 o.label);
        active = omega arith;
        outer = All-nil (λ (w : WindowRow). w.region < 1);
      };
    } in
    subst P (sym m_is)
    (record {
      fits = record {
        table = table;
        classes = refl;
        table_is = is;
        kept = subst Q (sym begun.kept) named;
        ends = subst E (sym begun.items) (ends-items_of (block_of t t.body));
      };
      state = λ input.
          ap (λ q. plain_of t q input) begun.kept
          ∙ ap (λ items. record (opening (program_of t) input) { items = items }) begun.items;
    })

same_table : (o : Option Table) (a b : Table) → o ≡ Some a → o ≡ Some b → a ≡ b
same_table o a b here there = let same : Some a ≡ Some b = sym here ∙ there in cc

pub is_table : (t : Tables) (m : Machine) (a : Table) → Fits t m → m.classes ≡ Some a → IsTableOf t a
is_table t m a fits there = let P : Table → Type 0 = λ q. IsTableOf t q in subst P (same_table m.classes fits.table a fits.classes there)
    fits.table_is

-- the parts of a machine that runs the program
pub fits_parts : (t : Tables) (m : Machine) (p : Parts) → Fits t m → kept_of p ≡ m.kept → PartsFit t p
fits_parts t m p fits same =
    let P : Kept → Type 0 = λ q. KeptFits t q in
    parts_fit t p (subst P (sym same) fits.kept)

-- the machine after a step still runs it
pub fits_again : (t : Tables) (m : Machine) (p : Parts) (a : Table) (new : Machine) → Fits t m → m.classes ≡ Some a → PartsFit t p →
    EndsMain (shown t p.items.items) → new.classes ≡ Some a → new.kept ≡ kept_of p → Fits t new
fits_again t m p a new fits there fit ends has same =
    let P : Kept → Type 0 = λ q. KeptFits t q in
    let E : Kept → Type 0 = λ q. EndsMain (shown t q.items) in
    record {
      table = a;
      classes = has;
      table_is = is_table t m a fits there;
      kept = subst P (sym same) (kept_fits t p fit);
      ends = subst E (sym same) ends;
    }

pub settles_as : (t : Tables) (old as_old new : Kept) (r : Outcome) (before after : List ℕ) → old ≡ as_old →
    SettlesOn t old new r before after → SettlesOn t as_old new r before after
settles_as t old as_old new r before after same h = let P : Kept → Type 0 = λ q. SettlesOn t q new r before after in subst P same h
