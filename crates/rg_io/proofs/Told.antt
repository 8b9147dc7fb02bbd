-- What files tell: those in memory after a call that went well, and all files after one call behind another.
use Rattle.std.proofs.Common.{◌≡◌, ℕ, ◌+◌, ◌<◌, ◌≤◌, List, [], ◌++◌, length, take, drop, Option, Some, None, IsSome, unwrap_or, refl, sym, ◌∙◌, ap}
use Rattle.std.proofs.Common.{subst, append_assoc, append-nil, length-append, arith, Result, Err}
use Rattle.std.proofs.lemmas.List.{take-append-drop}
use Rattle.rg_io.specs.Files.{Told, file_bytes, Begins, Reads, NothingLeft, SameFiles, HasFile, HasLongFile}
use Rattle.rg_io.specs.Inner.Pieces.{AddsPiece}
use Rattle.rg_io.specs.declared.files.Taken.{Taken}
use Rattle.rg_io.proofs.Piece.{take-moved}

-- what is there
pub Some-unwrap_or : (bytes : Option (List ℕ)) → IsSome bytes → bytes ≡ Some (unwrap_or bytes [])
Some-unwrap_or None known = cc
Some-unwrap_or (Some bytes) known = refl

-- a file was begun
pub Begins-known : (old held new : Told) (name : List ℕ) → held ≡ old → IsSome (file_bytes held.files name) →
    new ≡ record held { rest = unwrap_or (file_bytes held.files name) [] } → Begins (Some old) name (Some new)
Begins-known old held new name held_is known new_is =
    let P : Told → Type 0 = λ t. Begins (Some t) name (Some new) in
    let begun : P held = (unwrap_or (file_bytes held.files name) [], Some-unwrap_or (file_bytes held.files name) known, ap Some new_is) in
    subst P held_is begun

-- the first bytes of the rest were moved to the front of a buffer
pub Reads-moved : (old held new : Told) (buffer behind : List ℕ) (n : ℕ) → held ≡ old → n ≤ length held.rest →
    buffer ≡ take n held.rest ++ behind → new ≡ record held { rest = drop n held.rest } → Reads (Some old) (Some new) (take n buffer)
Reads-moved old held new buffer behind n held_is fits buffer_is new_is =
    let P : Told → Type 0 = λ t. Reads (Some t) (Some new) (take n buffer) in
    let moved : take n buffer ≡ take n held.rest = ap (take n) buffer_is ∙ take-moved n held.rest behind fits in
    let read : P held = (drop n held.rest, rw moved (sym (take-append-drop n held.rest)), ap Some new_is) in
    subst P held_is read

-- bytes were read, and then more
pub Reads-then : (a b c : Option Told) (xs ys zs : List ℕ) → Reads a b xs → Reads b c ys → zs ≡ xs ++ ys → Reads a c zs
Reads-then None b c xs ys zs came more zs_is = let P : Option Told → Type 0 = λ o. Reads o c ys in subst P came more
Reads-then (Some t) b c xs ys zs came more zs_is =
    let P : Option Told → Type 0 = λ o. Reads o c ys in
    let second : Reads (Some (record t { rest = came.0 })) c ys = subst P came.2 more in
    let whole : t.rest ≡ zs ++ second.0 =
    came.1 ∙ ap (λ q. xs ++ q) second.1 ∙ sym (append_assoc xs ys second.0) ∙ ap (λ q. q ++ second.0) (sym zs_is) in
    (second.0, whole, second.2)

-- a call that failed left the map as it is
pub SameFiles-same : (old new : Option Told) → new ≡ old → SameFiles old new
SameFiles-same None new same = same
SameFiles-same (Some t) new same = let P : Option Told → Type 0 = λ o. SameFiles (Some t) o in subst P (sym same) refl

-- a file was begun and some of it read
pub SameFiles-read : (old begun now : Option Told) (name bytes : List ℕ) → Begins old name begun → Reads begun now bytes → SameFiles old now
SameFiles-read None begun now name bytes began came = let P : Option Told → Type 0 = λ o. Reads o now bytes in subst P began came
SameFiles-read (Some t) begun now name bytes began came =
    let P : Option Told → Type 0 = λ o. Reads o now bytes in
    let read : Reads (Some (record t { rest = began.0 })) now bytes = subst P began.2 came in
    let Q : Option Told → Type 0 = λ o. SameFiles (Some t) o in subst Q (sym read.2) refl

-- a file was begun and read up to its end
pub HasFile-read : (old begun now : Option Told) (name bytes : List ℕ) → Begins old name begun → Reads begun now bytes → NothingLeft now →
    HasFile old name bytes
HasFile-read None begun now name bytes began came none_left = tt
HasFile-read (Some t) begun now name bytes began came none_left =
    let P : Option Told → Type 0 = λ o. Reads o now bytes in
    let read : Reads (Some (record t { rest = began.0 })) now bytes = subst P began.2 came in
    let Q : Option Told → Type 0 = λ o. NothingLeft o in
    let none : read.0 ≡ [] = subst Q read.2 none_left in
    began.1 ∙ ap Some (read.1 ∙ ap (λ q. bytes ++ q) none ∙ append-nil bytes)

-- a file was begun and more of it read than was allowed
pub HasLongFile-read : (old begun before now : Option Told) (name bytes piece : List ℕ) (left most : ℕ) → Begins old name begun →
    Reads begun before bytes → Reads before now piece → length bytes + left ≡ most → left < length piece → HasLongFile old name most
HasLongFile-read None begun before now name bytes piece left most began came more room long = tt
HasLongFile-read (Some t) begun before now name bytes piece left most began came more room long =
    let P : Option Told → Type 0 = λ o. Reads o now (bytes ++ piece) in
    let read : Reads (Some (record t { rest = began.0 })) now (bytes ++ piece) =
    subst P began.2 (Reads-then begun before now bytes piece (bytes ++ piece) came more refl) in
    let whole : length began.0 ≡ length (bytes ++ piece) + length read.0 = ap length read.1 ∙ length-append (bytes ++ piece) read.0 in
    let sizes : length (bytes ++ piece) ≡ length bytes + length piece = length-append bytes piece in
    (began.0, began.1, omega arith)

-- a piece came, and so many may still come
pub room-then : (old new piece : List ℕ) (now left most : ℕ) → new ≡ old ++ piece → now + length piece ≡ left → length old + left ≡ most →
    length new + now ≡ most
room-then old new piece now left most new_is now_is left_is =
    let sizes : length new ≡ length old + length piece = ap length new_is ∙ length-append old piece in omega arith

-- a piece that was refused as too long is longer than what might come
pub refused-long : {A : Type 0} (taken : Taken) (old new piece : List ℕ) (left : ℕ) → AddsPiece (Err taken) old new piece left →
    ◌≡◌ {A = Result A Taken} (Err taken) (Err Taken.Long) → left < length piece
refused-long Taken.Long old new piece left refused long = refused
refused-long Taken.Memory old new piece left refused long = cc
refused-long Taken.SourceFault old new piece left refused long = absurd refused

-- none is refused for a fault
pub refused-fault : {A : Type 0} (taken : Taken) (old new piece : List ℕ) (left : ℕ) → AddsPiece (Err taken) old new piece left →
    ◌≡◌ {A = Result A Taken} (Err taken) (Err Taken.SourceFault) → ⊥
refused-fault Taken.Long old new piece left refused fault = cc
refused-fault Taken.Memory old new piece left refused fault = cc
refused-fault Taken.SourceFault old new piece left refused fault = refused
