-- What the words of one line of a plan say (docs/architecture.md, "Plans"): nothing where they break a rule.
use Rattle.std.specs.Prelude.{ℕ, ◌+◌, ◌&&◌, Bool as Truth, true, false, not, bytes_eq, if◌then◌else◌, nat_lt, nat_le, codes, List, [], ◌∷◌, ◌++◌}
use Rattle.std.specs.Prelude.{length, map, filter_map, slice_get, Option, Some, None}
use Rattle.std.specs.List.{list_all}
use Rattle.rg_base.specs.declared.words.Cap.{Cap}
use Rattle.rg_base.specs.declared.words.Cap.TheVariants.{Mut, Iso}
use Rattle.rg_base.specs.declared.words.Manager.{Manager}
use Rattle.rg_base.specs.declared.words.Manager.TheVariants.{Arena, Count, Trace}
use Rattle.rg_base.specs.declared.ty.Ty.{Ty}
use Rattle.rg_base.specs.declared.ty.Ty.TheVariants.{Int, Bool, Ref}
use Rattle.rg_base.specs.Words.{beside}
use Rattle.rg_base.specs.Pieces.{is_empty}
use Rattle.rg_base.specs.Input.{digits_number}
use Rattle.rg_tree.specs.Tree.{Name, Param, Method, Member, field, method, Class}
use Rattle.rg_rules.specs.Types.{class_named, class_number, is_array, members_of, method_named, type_of}
use Rattle.rg_names.specs.MethodNumbers.{method_number}
use Rattle.rg_plan.specs.declared.limits.TheConstants.{NUMBER_DIGITS}
use Rattle.rg_plan.specs.declared.cown.Cown.{Cown}
use Rattle.rg_plan.specs.declared.cown.Start.TheVariants.{New, Image}
use Rattle.rg_plan.specs.declared.targets.Target.{Target}
use Rattle.rg_plan.specs.Pieces.{pieces}
use Rattle.rg_plan.specs.Plans.{Turn, among}

-- goes on with what is there; `do` blocks are read by these words
abbrev pub ◌>>=◌ : {A B : Type 0} → Option A → (A → Option B) → Option B
◌>>=◌ None go = None
◌>>=◌ (Some a) go = go a

-- goes on where a test passes
abbrev pub ◌>>◌ : {B : Type 0} → Truth → Option B → Option B
◌>>◌ true rest = rest
◌>>◌ false rest = None

-- the managers by their words
abbrev pub managers : List (List ℕ × Manager)
managers = (codes "arena", Arena) ∷ (codes "count", Count) ∷ (codes "trace", Trace) ∷ []

-- the number that one to four digits write
abbrev pub number : (word : List ℕ) → Option ℕ
number word = if nat_lt (length word) (NUMBER_DIGITS + 1) then digits_number word else None

-- what stands in the name of a file
abbrev pub is_visible : ℕ → Truth
is_visible b = nat_le 33 b && nat_le b 126

-- one or more such bytes
abbrev pub is_file_name : (word : List ℕ) → Truth
is_file_name [] = false
is_file_name (b ∷ bs) = list_all is_visible (b ∷ bs)

-- the two pieces of a text
abbrev pub pair_of : List (List ℕ) → Option (List ℕ × List ℕ)
pair_of [] = None
pair_of (a ∷ []) = None
pair_of (a ∷ b ∷ []) = Some (a, b)
pair_of (a ∷ b ∷ c ∷ rest) = None

-- the ordinary class of a name
abbrev pub ordinary_class : List Class → Name → Option Class
ordinary_class classes x = do
  c ← class_named classes x
  not c.is_tmp
  Some c

-- `cown C M`, behind its first word: C isn't an array class
abbrev pub cown_line : List Class → (line : ℕ) → (words : List (List ℕ)) → Option Cown
cown_line classes line words = do
  w ← pair_of words
  c ← ordinary_class classes w.0
  not (is_array c)
  manager ← beside managers w.1
  Some (record { class = class_number classes w.0; start = New manager; line = line })

-- `load C NAME`, behind its first word
abbrev pub load_line : List Class → (line : ℕ) → (words : List (List ℕ)) → Option Cown
load_line classes line words = do
  w ← pair_of words
  c ← ordinary_class classes w.0
  is_file_name w.1
  Some (record { class = class_number classes w.0; start = Image w.1; line = line })

-- the number of a cown behind earlier ones of its line: there are so many cowns, and it isn't among the earlier ones
abbrev pub cown_number : (cowns : ℕ) → (earlier : List ℕ) → (word : List ℕ) → Option ℕ
cown_number cowns earlier word = do
  n ← number word
  nat_lt n cowns
  not (among earlier n)
  Some n

-- the numbers that words say, behind earlier ones
abbrev pub cown_numbers : (cowns : ℕ) → (earlier : List ℕ) → (words : List (List ℕ)) → Option (List ℕ)
cown_numbers cowns earlier [] = Some earlier
cown_numbers cowns earlier (w ∷ words) = do
  n ← cown_number cowns earlier w
  cown_numbers cowns (earlier ++ n ∷ []) words

-- whether a method has no parameters and no result
abbrev pub no_params : List Param → Truth
no_params [] = true
no_params (p ∷ ps) = false

abbrev pub no_result : {A : Type 0} → Option A → Truth
no_result None = true
no_result (Some a) = false

-- `mut`
abbrev pub is_mut : Cap → Truth
is_mut Mut = true
is_mut cap = false

-- `def mut m() { .. }`
abbrev pub is_plain : Method → Truth
is_plain m = is_mut m.receiver && (no_params m.params && no_result m.result)

-- `C.m`: such a method of an ordinary class
abbrev pub target : List Class → (text : List ℕ) → Option Target
target classes text = do
  w ← pair_of (pieces 46 text)
  c ← ordinary_class classes w.0
  m ← method_named classes (class_number classes w.0) w.1
  is_plain m
  place ← method_number classes (class_number classes w.0) w.1
  Some (record { class = class_number classes w.0; method = place })

-- the class of a type, if it is `iso`
abbrev pub owned_under : Cap → (class : ℕ) → Option ℕ
owned_under Iso class = Some class
owned_under cap class = None

abbrev pub owned_type : Ty → Option ℕ
owned_type Int = None
owned_type Bool = None
owned_type (Ref cap class) = owned_under cap class

-- the class of a member that is an `iso` field
abbrev pub owned_by : List Class → Member → Option ℕ
owned_by classes (field f) = owned_type (type_of classes f.ty)
owned_by classes (method m) = None

-- the classes of the `iso` fields of a class, in order
abbrev pub owned_classes : List Class → (class : ℕ) → List ℕ
owned_classes classes class = filter_map (owned_by classes) (members_of (slice_get classes class))

-- the classes of the cowns of these numbers
abbrev pub cown_classes : List Cown → List ℕ → List ℕ
cown_classes cowns ns = map (λ (c : Cown). c.class) (filter_map (slice_get cowns) ns)

-- `C.m N N ..`: the `iso` fields of C and the cowns, one or more, have the same classes in the same order
abbrev pub turn : List Class → List Cown → (text : List ℕ) → (words : List (List ℕ)) → Option Turn
turn classes cowns text words = do
  aim ← target classes text
  ns ← cown_numbers (length cowns) [] words
  not (is_empty ns)
  bytes_eq (owned_classes classes aim.class) (cown_classes cowns ns)
  Some (record { class = aim.class; method = aim.method; name = text; cowns = ns })

-- `when C.m N N ..`, behind its first word
abbrev pub when_line : List Class → List Cown → (words : List (List ℕ)) → Option Turn
when_line classes cowns [] = None
when_line classes cowns (text ∷ words) = turn classes cowns text words
