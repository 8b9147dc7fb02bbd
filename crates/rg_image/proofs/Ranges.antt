-- Whatever is written has the numbers of its types, so what is sound fits an image.
use Rattle.std.proofs.Common.{◌≡◌, ℕ, ◌+◌, Bool as Truth, true, false, ◌&&◌, List, [], ◌∷◌, length, drop, slice_get, Option, Some, None}
use Rattle.std.proofs.Common.{option_and_then, refl, sym, subst}
use Rattle.std.specs.List.{AllByRecursion, list_all, range_with_len}
use Rattle.std.proofs.lemmas.Bool.{false≢true}
use Rattle.rg_base.proofs.Callers.Lists.{drop-here}
use Rattle.rg_base.specs.declared.object.Label.{Label}
use Rattle.rg_base.specs.declared.object.Label.TheVariants.{Region, Temp, Frozen}
use Rattle.rg_tree.specs.Tree.{Tree}
use Rattle.rg_cown.specs.declared.cargo.CargoCell.{CargoCell}
use Rattle.rg_cown.specs.Cargo.{CargoList, SoundCargo, is_in, label_of, named_from, region_named, regions_named, frozen_fits, is_entered, comes_to}
use Rattle.rg_image.specs.ImageText.{FitsLabel, FitsCell, FitsCargo, FitsContent, image_text}
use Rattle.rg_image.specs.Images.{IsContent, IsImage}
use Rattle.rg_image.specs.Inner.Ranges.{RangedLabel, RangedCell, RangedCargo, RangedContent}

-- one part more, from the back
pub ranges-next : {X : Type 0} (P : X → Type 0) (xs : List X) (k : ℕ) (x : X) → slice_get xs k ≡ Some x → P x
    → AllByRecursion P (drop (k + 1) xs) → AllByRecursion P (drop k xs)
ranges-next P xs k x there holds rest = subst (AllByRecursion P) (sym (drop-here xs k x there)) (holds, rest)

-- a label that has a number among regions isn't a temporary's
label_fits : (n m : ℕ) (l : Label) → region_named n l ≡ Some m → RangedLabel l → FitsLabel l
label_fits n m (Region r) e ranged = ranged
label_fits n m (Temp t) e ranged = absurd cc
label_fits n m Frozen e ranged = tt

step : (o : Option ℕ) (f : ℕ → Option ℕ) (m : ℕ) → option_and_then f o ≡ Some m → (k : ℕ) × (o ≡ Some k) × (f k ≡ Some m)
step (Some k) f m e = (k, refl, e)
step None f m e = absurd cc

cells_fit : (n m : ℕ) (cs : List CargoCell) → regions_named n cs ≡ Some m → AllByRecursion RangedCell cs → AllByRecursion FitsCell cs
cells_fit n m [] e ranged = tt
cells_fit n m (c ∷ cs) e ranged =
    let s = step (region_named n c.label) (λ k. regions_named k cs) m e in (
      record { class = ranged.0.class; label = label_fits n s.0 c.label s.1 ranged.0.label; fields = ranged.0.fields },
      cells_fit s.0 m cs s.2 ranged.1,
    )

comes : (n : ℕ) (o : Option ℕ) → comes_to n o ≡ true → (m : ℕ) × (o ≡ Some m)
comes n (Some m) e = (m, refl)
comes n None e = absurd (false≢true e)

third : (a b c d e : Truth) → (a && b && c && d && e) ≡ true → c ≡ true
third a b true d e h = refl
third true true false d e h = h
third true false false d e h = h
third false b false d e h = h

cargo_fits : (c : CargoList) → SoundCargo c → RangedCargo c → FitsCargo c
cargo_fits c sound ranged =
    let named =
    third (is_in 0 (label_of c.cells 0)) (comes_to (length c.cells) (named_from 0 1 c.cells))
    (comes_to (length c.managers) (regions_named 0 c.cells))
    (list_all (λ (x : CargoCell). frozen_fits c.cells x.label x.fields) c.cells)
    (list_all (is_entered c.cells) (range_with_len 0 (length c.managers))) sound in
    let m = comes (length c.managers) (regions_named 0 c.cells) named in
    record { managers = ranged.managers; cells = (ranged.cells.0, cells_fit 0 m.0 c.cells m.1 ranged.cells.1) }

-- what a program may hold
pub content_fits : (t : Tree) (content : Option CargoList) → IsContent t content → RangedContent content → FitsContent content
content_fits t None held ranged = tt
content_fits t (Some c) held ranged = cargo_fits c held.0 ranged

-- what is written of it is its image
pub encoded : (bytes : List ℕ) (content : Option CargoList) → bytes ≡ image_text content → RangedContent content → (t : Tree)
    → IsContent t content → IsImage t bytes content
encoded bytes content text ranged t held = record { text = text; numbers = content_fits t content held ranged; fits = held }
