-- Files as they lie in memory.
use Rattle.std.proofs.Common.{◌≡◌, ℕ, ◌-◌, ◌<◌, ◌≤◌, List, [], ◌∷◌, ◌++◌, length, map, reverse, take, Option, Some, None, get_or, slice_get}
use Rattle.std.proofs.Common.{if◌then◌else◌, refl, sym, ◌∙◌, ap, arith, true, false, zero, suc}
use Rattle.std.specs.Prelude.{bytes_eq}
use Rattle.std.proofs.Math.Seq.{take-suc}
use Rattle.std.proofs.Math.ListN.{get_or-map}
use Rattle.std.proofs.lemmas.List.{reverse-append}
use Rattle.std.proofs.lemmas.Option.{slice_get-get_or}
use Rattle.rg_io.specs.Files.{FileMap, Told, file_bytes}
use Rattle.rg_io.specs.Inner.Shelf.{bytes_of, unread, IsPlace}
use Rattle.rg_io.specs.declared.reading.Place.{Place}

-- of the first files, the newest is looked at first
pub file_bytes-take : (shelf : FileMap) (name : List ℕ) (i : ℕ) (file : List ℕ × List ℕ) → 0 < i → i ≤ length shelf →
    file ≡ get_or shelf (i - 1) file →
    file_bytes (reverse (take i shelf)) name ≡ (if bytes_eq file.0 name then Some file.1 else file_bytes (reverse (take (i - 1) shelf)) name)
file_bytes-take shelf name i file some within file_is =
    let one_less : i ≡ suc (i - 1) = omega arith in
    let whole : take i shelf ≡ take (i - 1) shelf ++ file ∷ [] =
    ap (λ n. take n shelf) one_less ∙ take-suc shelf (i - 1) file (omega arith) ∙ ap (λ f. take (i - 1) shelf ++ f ∷ []) (sym file_is) in
    ap (λ fs. file_bytes fs name) (ap reverse whole ∙ reverse-append (take (i - 1) shelf) (file ∷ []))

-- an element of a list, seen as it is seen in the list of what is seen
pub get_or-seen : {A B : Type 0} (seen : A → B) (items : List A) (shelf : List B) (i : ℕ) (item : A) → map seen items ≡ shelf →
    item ≡ get_or items i item → seen item ≡ get_or shelf i (seen item)
get_or-seen seen items shelf i item shelf_is item_is =
    ap seen item_is ∙ sym (get_or-map seen items i item) ∙ ap (λ fs. get_or fs i (seen item)) shelf_is

-- where the newest of the first files has another name, those behind it decide
pub file_bytes-other : (shelf : FileMap) (name : List ℕ) (i : ℕ) (file : List ℕ × List ℕ) → 0 < i → i ≤ length shelf →
    file ≡ get_or shelf (i - 1) file → file_bytes (reverse shelf) name ≡ file_bytes (reverse (take i shelf)) name →
    bytes_eq file.0 name ≡ false → file_bytes (reverse shelf) name ≡ file_bytes (reverse (take (i - 1) shelf)) name
file_bytes-other shelf name i file some within file_is sought other =
    sought ∙ rw other at (file_bytes-take shelf name i file some within file_is)

-- where the newest of the first files has that name, it has been found
pub file_bytes-found : (shelf : FileMap) (name : List ℕ) (i : ℕ) (file : List ℕ × List ℕ) → 0 < i → i ≤ length shelf →
    file ≡ get_or shelf (i - 1) file → file_bytes (reverse shelf) name ≡ file_bytes (reverse (take i shelf)) name →
    bytes_eq file.0 name ≡ true → file_bytes (reverse shelf) name ≡ Some (bytes_of (slice_get shelf (i - 1)))
file_bytes-found shelf name i file some within file_is sought same =
    let at : slice_get shelf (i - 1) ≡ Some file = slice_get-get_or shelf (i - 1) file (omega arith) ∙ ap Some (sym file_is) in
    sought ∙ (rw same at (file_bytes-take shelf name i file some within file_is)) ∙ sym (ap (λ o. Some (bytes_of o)) at)

-- a file behind the others doesn't change them
pub slice_get-append : (shelf more : FileMap) (i : ℕ) → i < length shelf → slice_get (shelf ++ more) i ≡ slice_get shelf i
slice_get-append [] more i within = absurd (omega arith)
slice_get-append (f ∷ fs) more zero within = refl
slice_get-append (f ∷ fs) more (suc i) within = slice_get-append fs more i (omega arith)

-- nor what is left of one that is read
pub unread-append : (shelf more : FileMap) (place : Option Place) → IsPlace shelf place → unread (shelf ++ more) place ≡ unread shelf place
unread-append shelf more None is_place = refl
unread-append shelf more (Some p) is_place = rw (slice_get-append shelf more p.file is_place.0)

-- what is told where a file came behind the others
pub told-append : (shelf more : FileMap) (file : List ℕ × List ℕ) (place : Option Place) (now : Told) → IsPlace shelf place →
    record { files = reverse shelf; rest = unread shelf place } ≡ now → more ≡ shelf ++ file ∷ [] →
    record { files = reverse more; rest = unread more place } ≡ record now { files = file ∷ now.files }
told-append shelf more file place now is_place now_is more_is =
    rw (more_is, reverse-append shelf (file ∷ []), unread-append shelf (file ∷ []) place is_place)
    (let P : Told → Told = λ t. record t { files = file ∷ t.files } in ap P now_is)
