-- Contents and their images, computed.
use Rattle.std.proofs.Common.{◌≡◌, refl, ℕ, pos, negsuc, List, [], ◌∷◌, ◌++◌, true, length, take, codes, Some, None}
use Rattle.rg_base.specs.declared.words.Manager.TheVariants.{Arena, Count, Trace}
use Rattle.rg_base.specs.declared.object.Label.TheVariants.{Region, Frozen}
use Rattle.rg_base.specs.declared.value.Val.TheVariants.{Nil, Int, Bool, Obj}
use Rattle.rg_cown.specs.Cargo.{CargoList, SoundCargo}
use Rattle.rg_spell.specs.Reading.{many_at, signed_at, manager_at}
use Rattle.rg_image.specs.ImageText.{cell_bytes, image_text}
use Rattle.rg_image.specs.Inner.Reading.{count_at, counted_at, int_at, value_behind, value_at, region_at, label_behind}
use Rattle.rg_image.specs.Inner.Reading.{label_at, cell_at, cargo_at, held_at, content_behind, content_at, image_at}

-- `RGI1`, and that nothing is there
nothing : image_text None ≡ 82 ∷ 71 ∷ 73 ∷ 49 ∷ 0 ∷ []
nothing = refl

-- the least object: frozen, without fields
least-length : length (cell_bytes (record { class = 0; label = Frozen; fields = [] })) ≡ 13
least-length = refl

-- an object of class 0 with a number, in a region of its own that is an arena
abbrev one : CargoList
one = record { cells = record { class = 0; label = Region 0; fields = Int (pos 2) ∷ [] } ∷ []; managers = Arena ∷ [] }

abbrev one_bytes : List ℕ
one_bytes =
    82 ∷ 71 ∷ 73 ∷ 49 ∷ 1
    ∷ 0 ∷ 0 ∷ 0 ∷ 0 ∷ 0 ∷ 0 ∷ 0 ∷ 1 ∷ 0
    ∷ 0 ∷ 0 ∷ 0 ∷ 0 ∷ 0 ∷ 0 ∷ 0 ∷ 1
    ∷ 0 ∷ 0 ∷ 0 ∷ 0
    ∷ 0 ∷ 0 ∷ 0 ∷ 0 ∷ 0 ∷ 0 ∷ 0 ∷ 0 ∷ 0
    ∷ 0 ∷ 0 ∷ 0 ∷ 0 ∷ 0 ∷ 0 ∷ 0 ∷ 1
    ∷ 1 ∷ 0 ∷ 0 ∷ 0 ∷ 0 ∷ 0 ∷ 0 ∷ 0 ∷ 2 ∷ []

one-spelt : image_text (Some one) ≡ one_bytes
one-spelt = refl

-- 52 bytes, of which the last is the number's last
one-length : length one_bytes ≡ 52
one-length = refl

-- each kind of value, and a frozen object
abbrev rich : CargoList
rich = record {
  cells = record { class = 3; label = Region 0; fields = Obj 1 ∷ Obj 2 ∷ Bool true ∷ Nil ∷ [] }
      ∷ record { class = 256; label = Frozen; fields = [] }
      ∷ record { class = 0; label = Region 1; fields = Int (negsuc 0) ∷ [] } ∷ [];
  managers = Trace ∷ Count ∷ [];
}

abbrev rich_bytes : List ℕ
rich_bytes =
    82 ∷ 71 ∷ 73 ∷ 49 ∷ 1
    ∷ 0 ∷ 0 ∷ 0 ∷ 0 ∷ 0 ∷ 0 ∷ 0 ∷ 2 ∷ 2 ∷ 1
    ∷ 0 ∷ 0 ∷ 0 ∷ 0 ∷ 0 ∷ 0 ∷ 0 ∷ 3
    ∷ 0 ∷ 0 ∷ 0 ∷ 3
    ∷ 0 ∷ 0 ∷ 0 ∷ 0 ∷ 0 ∷ 0 ∷ 0 ∷ 0 ∷ 0
    ∷ 0 ∷ 0 ∷ 0 ∷ 0 ∷ 0 ∷ 0 ∷ 0 ∷ 4
    ∷ 3 ∷ 0 ∷ 0 ∷ 0 ∷ 0 ∷ 0 ∷ 0 ∷ 0 ∷ 1
    ∷ 3 ∷ 0 ∷ 0 ∷ 0 ∷ 0 ∷ 0 ∷ 0 ∷ 0 ∷ 2
    ∷ 2 ∷ 1
    ∷ 0
    ∷ 0 ∷ 0 ∷ 1 ∷ 0
    ∷ 1
    ∷ 0 ∷ 0 ∷ 0 ∷ 0 ∷ 0 ∷ 0 ∷ 0 ∷ 0
    ∷ 0 ∷ 0 ∷ 0 ∷ 0
    ∷ 0 ∷ 0 ∷ 0 ∷ 0 ∷ 0 ∷ 0 ∷ 0 ∷ 0 ∷ 1
    ∷ 0 ∷ 0 ∷ 0 ∷ 0 ∷ 0 ∷ 0 ∷ 0 ∷ 1
    ∷ 1 ∷ 255 ∷ 255 ∷ 255 ∷ 255 ∷ 255 ∷ 255 ∷ 255 ∷ 255 ∷ []

rich-spelt : image_text (Some rich) ≡ rich_bytes
rich-spelt = refl

rich-is_sound : SoundCargo rich
rich-is_sound = refl

-- What isn't an image: one byte less, one more, another word in front, and counts of more than there is

one_byte_less : image_at (take 51 one_bytes) ≡ None
unfolding image_at content_at content_behind held_at cargo_at counted_at count_at many_at manager_at cell_at label_at label_behind region_at
    value_at value_behind int_at signed_at
one_byte_less = refl

one_byte_more : image_at (one_bytes ++ 0 ∷ []) ≡ None
unfolding image_at content_at content_behind held_at cargo_at counted_at count_at many_at manager_at cell_at label_at label_behind region_at
    value_at value_behind int_at signed_at
one_byte_more = refl

another_word : image_at (codes "RGM1" ++ 0 ∷ []) ≡ None
unfolding image_at
another_word = refl

neither_nothing_nor_something : image_at (codes "RGI1" ++ 2 ∷ []) ≡ None
unfolding image_at content_at content_behind
neither_nothing_nor_something = refl

count_of_more : counted_at manager_at (255 ∷ 255 ∷ 255 ∷ 255 ∷ 255 ∷ 255 ∷ 255 ∷ 255 ∷ 0 ∷ 0 ∷ []) ≡ None
unfolding counted_at count_at
count_of_more = refl
