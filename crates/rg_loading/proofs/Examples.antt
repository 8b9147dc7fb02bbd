-- Plans whose images were read by hand: what their cowns come to.
use Rattle.std.proofs.Common.{◌≡◌, ◌<◌, refl, sym, subst, ℕ, pos, List, [], ◌∷◌, length, false, codes, Option, Some, None, Result, Ok, Err, arith}
use Rattle.std.proofs.lemmas.Int.{ints}
use Rattle.rg_base.specs.declared.words.Manager.TheVariants as manager
use Rattle.rg_base.specs.declared.object.Label.TheVariants.{Region}
use Rattle.rg_base.specs.declared.value.Val.TheVariants.{Int}
use Rattle.rg_io.specs.Files.{Told}
use Rattle.rg_tree.specs.Tree.{int, Tree}
use Rattle.rg_rules.proofs.Sources.{field_named, class_named, program}
use Rattle.rg_cown.specs.Cargo.{CargoList}
use Rattle.rg_opening.specs.Beginning.{bridge_class}
use Rattle.rg_image.specs.ImageText.{image_text, FitsValue}
use Rattle.rg_image.specs.Images.{IsImage, OneContent}
use Rattle.rg_plan.specs.declared.cown.Cown.{Cown}
use Rattle.rg_plan.specs.declared.cown.Start.TheVariants.{New, Image}
use Rattle.rg_loading.specs.declared.limits.TheConstants.{IMAGE_BYTES}
use Rattle.rg_loading.specs.Loading.{Failing, too_long, no_image, IsImageOf, FileComes, OneComes, no_content, LoadsCome, file_names}
use Rattle.rg_loading.specs.Files.{AreRead}

-- `class N { v: int; } class M { v: int; } main arena { }`
abbrev two_classes : Tree
two_classes = program (class_named "N" false (field_named "v" int ∷ []) ∷ class_named "M" false (field_named "v" int ∷ []) ∷ []) manager.Arena []

-- an object of class 0 that holds 2, in a region of its own, and its image
abbrev two : CargoList
two = record { cells = record { class = 0; label = Region 0; fields = Int (pos 2) ∷ [] } ∷ []; managers = manager.Arena ∷ [] }

abbrev image_of_two : List ℕ
image_of_two = image_text (Some two)

fits_two : FitsValue (Int (pos 2))
fits_two = grind (arith, ints)

image-of-two : IsImage two_classes image_of_two (Some two)
image-of-two = record {
  text = refl;
  numbers = record {
    managers = (omega arith, (tt, tt));
    cells = (omega arith, (record { class = omega arith; label = omega arith; fields = (omega arith, (fits_two, tt)) }, tt));
  };
  fits = (refl, refl);
}

-- `cown N arena`, and `load` of classes 0 and 1, at a line
abbrev new_cown : (line : ℕ) → Cown
new_cown line = record { class = 0; start = New manager.Arena; line = line }

abbrev loaded : (class line : ℕ) → Cown
loaded class line = record { class = class; start = Image (codes "i"); line = line }

-- the names of `load` lines, in order
two_names : file_names (loaded 0 1 ∷ new_cown 2 ∷ record { class = 0; start = Image (codes "j"); line = 3 } ∷ []) ≡ codes "i" ∷ codes "j" ∷ []
two_names = refl

-- no line, and lines that name no file
no_lines : LoadsCome two_classes [] [] (Ok [])
no_lines = (refl, refl)

no_loads : LoadsCome two_classes (new_cown 1 ∷ new_cown 2 ∷ []) [] (Ok (no_content ∷ no_content ∷ []))
no_loads = (Ok (no_content ∷ []), (Ok [], (refl, refl), refl), refl)

-- a file with an image, within the limit
two-comes : FileComes two_classes (loaded 0 2) image_of_two (Ok two)
two-comes = (omega arith, (image-of-two, refl))

one_load : LoadsCome two_classes (new_cown 1 ∷ loaded 0 2 ∷ []) (image_of_two ∷ []) (Ok (no_content ∷ two ∷ []))
one_load = (Ok (two ∷ []), (Ok two, two-comes, (Ok [], (refl, refl), refl)), refl)

-- the same image for a cown of another class
zero-is_one : ◌≡◌ {A = Option ℕ} (Some 0) (Some 1) → ⊥
zero-is_one e = cc

another_class : OneContent → (x : CargoList) → IsImageOf two_classes 1 image_of_two x → ⊥
another_class law x h =
    let found = law two_classes image_of_two (Some two) (Some x) image-of-two h.0 in
    let same : two ≡ x = cc in
    let P : CargoList → Type 0 = λ y. bridge_class y ≡ Some 1 in
    zero-is_one (subst P (sym same) h.1)

-- the image of nothing, and no bytes
image-of-nothing : IsImage two_classes (image_text None) None
image-of-nothing = record { text = refl; numbers = tt; fits = tt }

nothing_there : OneContent → (x : CargoList) → IsImageOf two_classes 0 (image_text None) x → ⊥
nothing_there law x h = let found = law two_classes (image_text None) None (Some x) image-of-nothing h.0 in cc

no_bytes : (x : CargoList) → IsImageOf two_classes 0 [] x → ⊥
no_bytes x h = let text = h.0.text in cc

-- the second of two files is another's, or holds nothing: its line is told
second_of_another_class : OneContent →
    LoadsCome two_classes (loaded 0 1 ∷ new_cown 2 ∷ loaded 1 3 ∷ []) (image_of_two ∷ image_of_two ∷ []) (Err (no_image 3))
second_of_another_class law = (
  Ok two,
  two-comes,
  (Err (no_image 3), (Err (no_image 3), (Err (no_image 3), (omega arith, another_class law, refl), (refl, refl)), refl), refl),
)

second_holds_nothing : OneContent → LoadsCome two_classes (loaded 0 1 ∷ loaded 0 2 ∷ []) (image_of_two ∷ image_text None ∷ []) (Err (no_image 2))
second_holds_nothing law =
    (Ok two, two-comes, (Err (no_image 2), (Err (no_image 2), (omega arith, nothing_there law, refl), (refl, refl)), refl))

-- the first has no bytes, or too many: no second one is read
first_is_empty : LoadsCome two_classes (loaded 0 1 ∷ loaded 0 2 ∷ []) ([] ∷ []) (Err (no_image 1))
first_is_empty = (Err (no_image 1), (omega arith, no_bytes, refl), (refl, refl))

first_is_long : (bytes : List ℕ) → IMAGE_BYTES < length bytes → LoadsCome two_classes (loaded 0 1 ∷ loaded 0 2 ∷ []) (bytes ∷ []) (Err too_long)
first_is_long bytes long = (Err too_long, long, (refl, refl))

-- the files that are read, where these are there
abbrev there : (image : List ℕ) → Option Told
there image = Some (record { files = (codes "h", codes "class") ∷ (codes "i", image) ∷ []; rest = [] })

none_is_read : AreRead (there image_of_two) two_classes (new_cown 1 ∷ []) []
none_is_read = (tt, (Ok (no_content ∷ []), (Ok [], (refl, refl), refl)))

one_is_read : AreRead (there image_of_two) two_classes (new_cown 1 ∷ loaded 0 2 ∷ []) (image_of_two ∷ [])
one_is_read = ((refl, tt), (Ok (no_content ∷ two ∷ []), one_load))

-- behind one that brings no content there is none
the_first_is_read : AreRead (there []) two_classes (loaded 0 1 ∷ loaded 0 2 ∷ []) ([] ∷ [])
the_first_is_read = ((refl, tt), (Err (no_image 1), first_is_empty))

behind-none : (bytes : List ℕ) (one : Result CargoList Failing) (r : Result (List CargoList) Failing) → FileComes two_classes (loaded 0 1) [] one →
    OneComes one (λ fs q. LoadsCome two_classes (loaded 0 2 ∷ []) fs q) (bytes ∷ []) r → ⊥
behind-none bytes (Ok x) r h g = no_bytes x h.1
behind-none bytes (Err why) r h g = let none = g.0 in cc

the_second_is_not : (bytes : List ℕ) → AreRead (there []) two_classes (loaded 0 1 ∷ loaded 0 2 ∷ []) ([] ∷ bytes ∷ []) → ⊥
the_second_is_not bytes h = behind-none bytes h.1.1.0 h.1.0 h.1.1.1 h.1.1.2
