-- What the file of a `load` line brings, by what was read of it.
use Rattle.std.proofs.Common.{◌≡◌, ◌≢◌, ℕ, suc, ◌<◌, ◌≤◌, ◌⊎◌, inl, List, length, replicate, Option, Some, None, Ok, Err, refl, subst, arith}
use Rattle.std.proofs.lemmas.List.{length-replicate}
use Rattle.rg_base.specs.declared.fault.Code.TheVariants.{Image as image_code}
use Rattle.rg_base.specs.declared.fault.Fault.{Fault}
use Rattle.rg_base.specs.declared.fault.Stop.{Stop}
use Rattle.rg_base.specs.declared.fault.Stop.TheVariants as halt
use Rattle.rg_io.specs.Files.{Told, HasFile, HasLongFile}
use Rattle.rg_tree.specs.Tree.{Tree}
use Rattle.rg_tree.specs.Rows.Tables.{Tables}
use Rattle.rg_tree.specs.Rows.RowTrees.{program_of}
use Rattle.rg_cown.specs.Cargo.{CargoList}
use Rattle.rg_opening.specs.Beginning.{bridge_class}
use Rattle.rg_image.specs.Images.{IsImage, Refuses, Answers}
use Rattle.rg_plan.specs.declared.cown.Cown.{Cown}
use Rattle.rg_words.specs.declared.status.Status.{Status}
use Rattle.rg_words.specs.declared.status.Status.TheVariants as status
use Rattle.rg_loading.specs.declared.limits.TheConstants.{IMAGE_BYTES}
use Rattle.rg_loading.specs.Loading.{Failing, no_image, IsImageOf, FileComes}
use Rattle.rg_loading.specs.Files.{status_of, IsUnread}

-- Bytes are the image of no content that a cown of a class may have

-- what isn't read is no image
pub none-refused : (t : Tree) (class : ℕ) (bytes : List ℕ) (e : Stop) (f : Fault) → Refuses t bytes e → e ≡ halt.Fault f → (x : CargoList) →
    IsImageOf t class bytes x → ⊥
none-refused t class bytes e f h is x g = let P : Stop → Type 0 = λ s. Refuses t bytes s in (subst P is h).1 (Some x) g.0

-- nothing was read
pub none-empty : (t : Tree) (class : ℕ) (bytes : List ℕ) (found : Option CargoList) → found ≡ None →
    ((content : Option CargoList) → IsImage t bytes content → Answers (Ok found) content) → (x : CargoList) → IsImageOf t class bytes x → ⊥
none-empty t class bytes found is again x g = let same : found ≡ Some x = again (Some x) g.0 in cc

-- a content was read whose bridge is of another class
pub none-bridged : (t : Tree) (class : ℕ) (bytes : List ℕ) (found : Option CargoList) (y : CargoList) → found ≡ Some y →
    ((content : Option CargoList) → IsImage t bytes content → Answers (Ok found) content) → bridge_class y ≢ Some class → (x : CargoList) →
    IsImageOf t class bytes x → ⊥
none-bridged t class bytes found y is again other x g =
    let same : found ≡ Some x = again (Some x) g.0 in
    let one : x ≡ y = cc in
    let P : CargoList → Type 0 = λ z. bridge_class z ≡ Some class in
    other (subst P one g.1)

-- a status, where a file brings no content for a cown of a program
abbrev pub FileBrings : Cown → (bytes : List ℕ) → Status → Tables → Type 0
FileBrings c bytes s p = ((why : Failing) × FileComes (program_of p) c bytes (Err why) × (s ≡ status_of why)) ⊎ IsUnread s

-- that of bytes that are no such image
pub none-comes : (p : Tables) (c : Cown) (bytes : List ℕ) (s : Status) → length bytes ≤ IMAGE_BYTES →
    ((x : CargoList) → IsImageOf (program_of p) c.class bytes x → ⊥) → s ≡ status.Refused (record { code = image_code; line = c.line }) →
    FileBrings c bytes s p
none-comes p c bytes s within none is = inl (no_image c.line, (within, none, refl), is)

-- a file that is too long has some bytes, and so many
long-list : (n : ℕ) → (bytes : List ℕ) × (n < length bytes)
long-list n = (replicate (suc n) 0, omega (arith, length-replicate {A = ℕ} (suc n) 0))

pub long-file : (told : Option Told) (file : List ℕ) (most : ℕ) → HasLongFile told file most →
    (bytes : List ℕ) × HasFile told file bytes × (most < length bytes)
long-file None file most h = let l = long-list most in (l.0, tt, l.1)
long-file (Some t) file most h = h
