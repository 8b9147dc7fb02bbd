-- Objects that are written leave the machine that of its program.
use Rattle.std.proofs.Common.{◌≡◌, List, length, sym}
use Rattle.std.proofs.Common.{subst, Vec}
use Rattle.std.specs.declared.alloc.Global.{Global}
use Rattle.rg_tree.specs.Rows.Tables.{Tables}
use Rattle.rg_store.specs.declared.objects.ObjectRow.{ObjectRow}
use Rattle.rg_store.specs.Shown.{store_of, AreOfClasses}
use Rattle.rg_store.specs.Regions.{LabelsFit}
use Rattle.rg_values.specs.declared.state.parts.Parts.{Parts}
use Rattle.rg_values.specs.Fits.{PartsFit}

-- the objects were written, which keeps classes and labels; `mid` are those that were lent, and `rows` those that came back
pub PartsFit-stored : (t : Tables) (p : Parts) (mid rows : List ObjectRow) (store : Vec ObjectRow Global) → mid ≡ p.store.items → store.items ≡ rows →
    PartsFit t p → (AreOfClasses t mid → AreOfClasses t rows) →
    (LabelsFit (length p.managers.items) (store_of mid) → LabelsFit (length p.managers.items) (store_of rows)) →
    PartsFit t (record p { store = store })
PartsFit-stored t p mid rows store mid_is rows_is fits classes labels =
    let Of : List ObjectRow → Type 0 = λ q. AreOfClasses t q in
    let Fit : List ObjectRow → Type 0 = λ q. LabelsFit (length p.managers.items) (store_of q) in
    record {
      objects = subst Of (sym rows_is) (classes (subst Of (sym mid_is) fits.objects));
      named = fits.named;
      below = fits.below;
      targets = fits.targets;
      target = fits.target;
      items = fits.items;
      regions = record {
        labels = subst Fit (sym rows_is) (labels (subst Fit (sym mid_is) fits.regions.labels));
        active = fits.regions.active;
        outer = fits.regions.outer;
      };
    }
