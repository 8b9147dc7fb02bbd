-- What files tell: a map from names to bytes, and the unread rest of the file that was begun (docs/architecture.md).
use Rattle.std.specs.Prelude.{◌≡◌, ℕ, ◌<◌, List, [], ◌∷◌, ◌++◌, length, Option, Some, None, if◌then◌else◌, bytes_eq}

-- files by their names; the first of a name counts
abbrev pub FileMap : Type 0
FileMap = List (List ℕ × List ℕ)

-- the bytes of a file, by its name
abbrev pub file_bytes : FileMap → List ℕ → Option (List ℕ)
file_bytes [] name = None
file_bytes (f ∷ fs) name = if bytes_eq f.0 name then Some f.1 else file_bytes fs name

-- what files tell
pub record Told : Type 0 where
  pub files : FileMap
  pub rest : List ℕ

-- where it is told: the map has that name, and the rest is that file's bytes
abbrev pub Begins : Option Told → List ℕ → Option Told → Type 0
Begins None name new = new ≡ None
Begins (Some old) name new = (bytes : List ℕ) × (file_bytes old.files name ≡ Some bytes) × (new ≡ Some (record old { rest = bytes }))

-- where it is told: these bytes were the first of the rest and are gone; the map stays
abbrev pub Reads : Option Told → Option Told → List ℕ → Type 0
Reads None new bytes = new ≡ None
Reads (Some old) new bytes = (rest : List ℕ) × (old.rest ≡ bytes ++ rest) × (new ≡ Some (record old { rest = rest }))

-- where it is told: the rest is empty
abbrev pub NothingLeft : Option Told → Type 0
NothingLeft None = Unit {0}
NothingLeft (Some old) = old.rest ≡ []

-- where it is told: the map is as before
abbrev pub SameFiles : Option Told → Option Told → Type 0
SameFiles None new = new ≡ None
SameFiles (Some old) None = ⊥
SameFiles (Some old) (Some new) = new.files ≡ old.files

-- where it is told: the file of that name has these bytes
abbrev pub HasFile : Option Told → List ℕ → List ℕ → Type 0
HasFile None name bytes = Unit {0}
HasFile (Some t) name bytes = file_bytes t.files name ≡ Some bytes

-- where it is told: there is a file of that name, with more bytes than so many
abbrev pub HasLongFile : Option Told → List ℕ → ℕ → Type 0
HasLongFile None name most = Unit {0}
HasLongFile (Some t) name most = (bytes : List ℕ) × (file_bytes t.files name ≡ Some bytes) × (most < length bytes)

-- the names that were begun since, behind those before, are such
abbrev pub BegunAre : (Are : List (List ℕ) → Type 0) → (old new : List (List ℕ)) → Type 0
BegunAre Are old new = (names : List (List ℕ)) × Are names × (new ≡ old ++ names)
