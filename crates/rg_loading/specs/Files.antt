-- What the files of a plan's `load` lines bring to a call (docs/architecture.md, "Images").
use Rattle.std.specs.Prelude.{◌≡◌, ◌⊎◌, ◌+◌, ℕ, List, [], ◌∷◌, take, Option, Result, Ok, Err}
use Rattle.rg_base.specs.declared.fault.Code.TheVariants.{Image as image_code}
use Rattle.rg_io.specs.Files.{Told, HasFile}
use Rattle.rg_tree.specs.Tree.{Tree}
use Rattle.rg_cown.specs.Cargo.{CargoList}
use Rattle.rg_plan.specs.declared.cown.Start.{Start}
use Rattle.rg_plan.specs.declared.cown.Start.TheVariants.{New, Image}
use Rattle.rg_plan.specs.declared.cown.Cown.{Cown}
use Rattle.rg_words.specs.declared.status.Status.{Status}
use Rattle.rg_words.specs.declared.status.Status.TheVariants as status
use Rattle.rg_loading.specs.Loading.{Failing, too_long, no_image, FileComes, no_content, LoadsCome, file_names}

-- the first files of these names have these bytes, one after the other; there may be more names than files that are read
abbrev pub HaveFiles : Option Told → (names files : List (List ℕ)) → Type 0
HaveFiles told names [] = Unit {0}
HaveFiles told [] (bytes ∷ files) = ⊥
HaveFiles told (name ∷ names) (bytes ∷ files) = HasFile told name bytes × HaveFiles told names files

-- cowns come to that, with the bytes of their files
abbrev pub CownsCome : Option Told → Tree → List Cown → Result (List CargoList) Failing → Type 0
CownsCome told t cowns r = (files : List (List ℕ)) × HaveFiles told (file_names cowns) files × LoadsCome t cowns files r

-- these are the bytes of the files that are read for cowns, in order: they come to contents, or the last of them says why there are none
abbrev pub AreRead : Option Told → Tree → List Cown → (files : List (List ℕ)) → Type 0
AreRead told t cowns files = HaveFiles told (file_names cowns) files × ((r : Result (List CargoList) Failing) × LoadsCome t cowns files r)

-- names of the files that are opened for cowns, in order: those of the lines of some first cowns, which come to contents, and of the next one
abbrev pub OpensFor : Option Told → Tree → List Cown → (names : List (List ℕ)) → Type 0
OpensFor told t cowns names =
    (n : ℕ) × ((images : List CargoList) × CownsCome told t (take n cowns) (Ok images)) × (names ≡ file_names (take (n + 1) cowns))

-- one cown comes to that
abbrev pub StartComes : Option Told → Tree → Cown → Start → Result CargoList Failing → Type 0
StartComes told t c (New manager) r = r ≡ Ok no_content
StartComes told t c (Image name) r = (bytes : List ℕ) × HasFile told name bytes × FileComes t c bytes r

-- how a call ends that has no contents for that reason
abbrev pub status_of : Failing → Status
status_of too_long = status.Long
status_of (no_image line) = status.Refused (record { code = image_code; line = line })

-- a file couldn't be read, or there is no memory
pub data IsUnread : Status → Type 0 where
  source_fault : IsUnread status.SourceFault
  memory : IsUnread status.Memory

-- a call answers what there is to come, seen by `value`, unless a file is unread
abbrev pub Brings : {A B : Type 0} → (value : B → A) → (Comes : Result A Failing → Type 0) → Result B Status → Type 0
Brings value Comes (Ok b) = Comes (Ok (value b))
Brings value Comes (Err s) = ((why : Failing) × Comes (Err why) × (s ≡ status_of why)) ⊎ IsUnread s
