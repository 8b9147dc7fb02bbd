-- Labels and windows of regions that were made.
use Rattle.std.proofs.Common.{◌≡◌, ℕ, ◌<◌, ◌≤◌, List, [], ◌∷◌, ◌++◌, length, All, Some, sym, ◌∙◌}
use Rattle.std.proofs.Common.{ap, subst, arith, length-append}
use Rattle.std.proofs.lemmas.List.{map-append}
use Rattle.std.proofs.lemmas.List.Elements.{All-push, All-weaker, All-pop}
use Rattle.rg_base.specs.declared.object.Seen.{Seen}
use Rattle.rg_base.specs.declared.words.Manager.{Manager}
use Rattle.rg_store.specs.declared.objects.ObjectRow.{ObjectRow}
use Rattle.rg_store.specs.Shown.{seen_of, store_of}
use Rattle.rg_store.specs.Regions.{LabelFits}
use Rattle.rg_store.proofs.Callers.Label.{LabelFits-more}
use Rattle.rg_statements.specs.declared.new.Kind.{Kind}
use Rattle.rg_statements.specs.declared.new.Kind.TheVariants as kind
use Rattle.rg_values.specs.declared.state.rows.WindowRow.{WindowRow}
use Rattle.rg_statements.specs.Inner.Makes.{managers_with}
use Rattle.rg_values.specs.Regions.{RegionsFit}

-- one more object, in regions of which there may be more
pub RegionsFit-made : (n m : ℕ) (store : List Seen) (w : WindowRow) (outer : List WindowRow) (o : Seen) → RegionsFit n store w outer → n ≤ m →
    LabelFits m o.label → RegionsFit m (store ++ o ∷ []) w outer
RegionsFit-made n m store w outer o fits more label = record {
  labels =
      All-push (λ (q : Seen). LabelFits m q.label) store o
      (All-weaker (λ (q : Seen). LabelFits n q.label) (λ (q : Seen). LabelFits m q.label) (λ q. LabelFits-more n m q.label more) store fits.labels)
      label;
  active = let active : w.region < n = fits.active in omega arith;
  outer =
      All-weaker (λ (q : WindowRow). q.region < n) (λ (q : WindowRow). q.region < m) (λ q below. omega arith) outer fits.outer;
}

-- a window was opened
pub RegionsFit-opened : (n : ℕ) (store : List Seen) (w new : WindowRow) (outer all : List WindowRow) → RegionsFit n store w outer → new.region < n →
    all ≡ outer ++ w ∷ [] → RegionsFit n store new all
RegionsFit-opened n store w new outer all fits below is = record {
  labels = fits.labels;
  active = below;
  outer =
      subst (λ (q : List WindowRow). All (λ (v : WindowRow). v.region < n) q) (sym is)
      (All-push (λ (q : WindowRow). q.region < n) outer w fits.outer fits.active);
}

-- the topmost of the outer windows came back
pub RegionsFit-left : (n : ℕ) (store : List Seen) (w : WindowRow) (outer : List WindowRow) (back : WindowRow) (rest : List WindowRow) →
    RegionsFit n store w outer → outer ≡ rest ++ back ∷ [] → RegionsFit n store back rest
RegionsFit-left n store w outer back rest fits is =
    let parts = All-pop (λ (q : WindowRow). q.region < n) outer rest (Some back) is fits.outer in
    record { labels = fits.labels; active = parts.1; outer = parts.0 }

managers-more : (what : Kind) (managers : List Manager) → length managers ≤ length (managers_with what managers)
managers-more kind.Plain managers = omega arith
managers-more kind.Temporary managers = omega arith
managers-more (kind.Owner m) managers = omega (arith, length-append managers (m ∷ []))

-- an object was made, and its region where it owns one
pub made-fits : (what : Kind) (old new : List Manager) (rows all : List ObjectRow) (o : ObjectRow) (w : WindowRow) (outer : List WindowRow) →
    RegionsFit (length old) (store_of rows) w outer → LabelFits (length (managers_with what old)) o.label → all ≡ rows ++ o ∷ [] →
    new ≡ managers_with what old → RegionsFit (length new) (store_of all) w outer
made-fits what old new rows all o w outer fits label all_is new_is =
    let more : length old ≤ length new = omega (arith, managers-more what old, ap length new_is) in
    let label_fits : LabelFits (length new) o.label = subst (λ q. LabelFits (length q) o.label) (sym new_is) label in
    subst (λ q. RegionsFit (length new) q w outer) (sym (ap store_of all_is ∙ map-append seen_of rows (o ∷ [])))
    (RegionsFit-made (length old) (length new) (store_of rows) w outer (seen_of o) fits more label_fits)
