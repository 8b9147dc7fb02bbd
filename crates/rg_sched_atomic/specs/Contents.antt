-- What cowns have, and how contents come into the fields of a behaviour's object and go back (docs/architecture.md, "Schedules").
use Rattle.std.specs.Prelude.{ℕ, Bool as Truth, true, false, if◌then◌else◌, List, [], ◌∷◌, map, slice_index_or, slice_set}
use Rattle.rg_base.specs.declared.value.Val.{Val}
use Rattle.rg_base.specs.declared.value.Val.TheVariants.{Nil, Int, Bool, Obj}
use Rattle.rg_tree.specs.Tree.{Field}
use Rattle.rg_rules.specs.Headers.{is_iso_written}
use Rattle.rg_rules.specs.RightSides.{opening_value}
use Rattle.rg_rules.specs.State.{State}
use Rattle.rg_rules.specs.Runs.{Ending, Running, Done, Stopped}
use Rattle.rg_cown.specs.Cargo.{CargoList}
use Rattle.rg_cown.specs.Contents.{cargo_of, no_object}
use Rattle.rg_opening.specs.declared.given.Given.{Given}
use Rattle.rg_opening.specs.declared.given.Given.TheVariants as given

-- what a cown has: its content is in a running behaviour, there is none, or it is at rest
pub data Content : Type 0 where
  Away : Content
  Empty : Content
  Held : CargoList → Content

-- the first of some contents, and those behind it
abbrev pub first_of : List Content → Content
first_of [] = Empty
first_of (c ∷ cs) = c

abbrev pub rest_of : List Content → List Content
rest_of [] = []
rest_of (c ∷ cs) = cs

-- what the cowns of these numbers have
abbrev pub contents_at : List Content → (cowns : List ℕ) → List Content
contents_at cs ns = map (λ n. slice_index_or cs n Empty) ns

-- the cowns of these numbers get these contents, in order, and all others keep theirs
abbrev pub put : (cowns : List ℕ) → (new old : List Content) → List Content
put [] xs cs = cs
put (n ∷ ns) xs cs = put ns (rest_of xs) (slice_set cs n (first_of xs))

-- with what an `iso` field begins: an empty content is nil
abbrev pub given_of : Content → Given
given_of Away = given.Start Nil
given_of Empty = given.Start Nil
given_of (Held c) = given.Held c

-- with what the fields of a behaviour's object begin: each `iso` field takes the next content, any other is as in a new object
abbrev pub givens : List Field → List Content → List Given
givens [] cs = []
givens (f ∷ fs) cs = (let iso = is_iso_written f.ty in
    (if iso then given_of (first_of cs) else given.Start (opening_value f.ty)) ∷ givens fs (if iso then rest_of cs else cs))

-- the values of the `iso` fields among the values of all fields
abbrev pub onto_if : Truth → Val → List Val → List Val
onto_if true v vs = v ∷ vs
onto_if false v vs = vs

abbrev pub iso_values : List Field → List Val → List Val
iso_values [] vs = []
iso_values (f ∷ fs) [] = []
iso_values (f ∷ fs) (v ∷ vs) = onto_if (is_iso_written f.ty) v (iso_values fs vs)

-- the content to which a value leads
abbrev pub content_of : State → Val → Content
content_of s Nil = Empty
content_of s (Int i) = Empty
content_of s (Bool b) = Empty
content_of s (Obj a) = Held (cargo_of s.store s.managers a)

-- the contents to which the `iso` fields of the behaviour's object lead, in order: it is the first object of the store
abbrev pub goes_back : List Field → State → List Content
goes_back fields s = map (content_of s) (iso_values fields (slice_index_or s.store 0 no_object).fields)

-- What a behaviour leaves to its cowns: their contents are away while it runs, go back where it is done, and are gone where it trapped.
abbrev pub left_by : List Field → State → Ending → (cowns : List ℕ) → List Content
left_by fields s Running ns = map (λ n. Away) ns
left_by fields s Done ns = goes_back fields s
left_by fields s (Stopped kind line) ns = map (λ n. Empty) ns
