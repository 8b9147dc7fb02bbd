-- Images as a whole: what is read of all bytes, and what decoding answers.
use Rattle.std.proofs.Common.{◌≡◌, ℕ, ◌+◌, Bool, true, false, cond, eqb, List, [], ◌++◌, length, take, drop, codes, bytes_eq, Option, Some, None}
use Rattle.std.proofs.Common.{MatchOption, Bor, nat_eq, refl, sym, ap, subst, ◌∙◌}
use Rattle.std.specs.Cmp.Lexicographic.{pointwise}
use Rattle.std.proofs.lemmas.Bool.{eqb-true, false≢true}
use Rattle.std.proofs.lemmas.List.{append-nil, nil_from_length, take-append-drop, take_at, drop_at}
use Rattle.std.proofs.lemmas.Slice.Eq.{bytes_eq-Decides}
use Rattle.rg_tree.specs.Tree.{Tree}
use Rattle.rg_cown.specs.Cargo.{CargoList, is_sound}
use Rattle.rg_typed.specs.Typed.{is_typed}
use Rattle.rg_spell.specs.Laws.{IsBytes, Takes}
use Rattle.rg_spell.specs.Reading.{◌>>=◌, Finds}
use Rattle.rg_spell.proofs.Readers.{IsBytes-drop, bind_some, some_is}
use Rattle.rg_image.specs.ImageText.{content_bytes, image_text, FitsContent}
use Rattle.rg_image.specs.Images.{IsContent, IsImage, OneContent}
use Rattle.rg_image.specs.Inner.Reading.{content_at, magic_at, image_at}
use Rattle.rg_image.proofs.Parts.{reads_content}

-- what stands behind the word in front
pub magic-found : (bytes : List ℕ) (r : Option (Bor (List ℕ)))
    → MatchOption r (pointwise nat_eq (take 4 bytes) (codes "RGI1") ≡ false) (λ x.
    (pointwise nat_eq (take 4 bytes) (codes "RGI1") ≡ true) × (x.now ≡ drop 4 bytes) × (length x.now + 4 ≡ length bytes))
    → Finds (λ (rest : Bor (List ℕ)). rest.now) r (magic_at bytes)
magic-found bytes None h = ap (λ b. cond b (Some (drop 4 bytes)) None) h
magic-found bytes (Some x) h = ap (λ b. cond b (Some (drop 4 bytes)) None) h.0 ∙ ap Some (sym h.1)

-- a test that held
taken : {A : Type 0} (b : Bool) (r : Option A) (y : A) → cond b r None ≡ Some y → (b ≡ true) × (r ≡ Some y)
taken true r y e = (refl, e)
taken false r y e = absurd cc

magic_takes : (bytes rest : List ℕ) → IsBytes bytes → magic_at bytes ≡ Some rest → Takes bytes (codes "RGI1") rest
magic_takes bytes rest fits e =
    let t = taken (bytes_eq (take 4 bytes) (codes "RGI1")) (Some (drop 4 bytes)) rest e in
    let front : take 4 bytes ≡ codes "RGI1" = (bytes_eq-Decides (take 4 bytes) (codes "RGI1")).0 t.0 in
    let behind : drop 4 bytes ≡ rest = some_is (drop 4 bytes) rest t.1 in
    record {
      parts = sym (take-append-drop 4 bytes) ∙ ap (λ (y : List ℕ). y ++ drop 4 bytes) front ∙ ap (λ (y : List ℕ). codes "RGI1" ++ y) behind;
      rest_fits = subst IsBytes behind (IsBytes-drop 4 bytes fits);
    }

magic_again : (rest : List ℕ) → magic_at (codes "RGI1" ++ rest) ≡ Some rest
magic_again rest =
    ap (λ xs. cond (bytes_eq xs (codes "RGI1")) (Some (drop 4 (codes "RGI1" ++ rest))) None) (take_at (codes "RGI1") rest 4 refl)
    ∙ ap Some (drop_at (codes "RGI1") rest 4 refl)

image_takes : (bytes : List ℕ) (content : Option CargoList) → IsBytes bytes → image_at bytes ≡ Some content
    → (bytes ≡ image_text content) × FitsContent content
unfolding image_at
image_takes bytes content fits e =
    let a = bind_some (magic_at bytes) (λ rest. content_at rest >>= λ c. cond (eqb (length c.1) 0) (Some c.0) None) content e in
    let b = bind_some (content_at a.0) (λ c. cond (eqb (length c.1) 0) (Some c.0) None) content a.2 in
    let g = taken (eqb (length b.0.1) 0) (Some b.0.0) content b.2 in
    let t0 = magic_takes bytes a.0 fits a.1 in
    let t1 = reads_content.takes a.0 b.0 t0.rest_fits b.1 in
    let nothing : b.0.1 ≡ [] = nil_from_length b.0.1 (eqb-true _ _ g.0) in
    let all : a.0 ≡ content_bytes b.0.0 =
    t1.0.parts ∙ ap (λ (y : List ℕ). content_bytes b.0.0 ++ y) nothing ∙ append-nil (content_bytes b.0.0) in
    subst (λ (c : Option CargoList). (bytes ≡ image_text c) × FitsContent c) (some_is b.0.0 content g.1)
    (t0.parts ∙ ap (λ (y : List ℕ). codes "RGI1" ++ y) all, t1.1)

image_again : (content : Option CargoList) → FitsContent content → image_at (image_text content) ≡ Some content
unfolding image_at
image_again content fits =
    let there : content_at (content_bytes content) ≡ Some (content, []) =
    ap content_at (sym (append-nil (content_bytes content))) ∙ reads_content.again content [] fits in
    ap (λ r. r >>= λ (rest : List ℕ). content_at rest >>= λ (c : Option CargoList × List ℕ). cond (eqb (length c.1) 0) (Some c.0) None)
    (magic_again (content_bytes content))
    ∙ ap (λ r. r >>= λ (c : Option CargoList × List ℕ). cond (eqb (length c.1) 0) (Some c.0) None) there

read_again : (t : Tree) (bytes : List ℕ) (content : Option CargoList) → IsImage t bytes content → image_at bytes ≡ Some content
read_again t bytes content is = ap image_at is.text ∙ image_again content is.numbers

pub one_content : OneContent
one_content t bytes a b p q = some_is a b (sym (read_again t bytes a p) ∙ read_again t bytes b q)

-- What decoding answers

-- what was read of all bytes, as far as there was memory
abbrev pub Read : (bytes : List ℕ) → Option CargoList → Type 0
Read bytes content = image_at bytes ≡ Some content

-- a content of the program that was read
pub decoded : (t : Tree) (bytes : List ℕ) (content : Option CargoList) → IsBytes bytes → Read bytes content → IsContent t content
    → IsImage t bytes content
decoded t bytes content fits read is =
    let p = image_takes bytes content fits read in
    record { text = p.0; numbers = p.1; fits = is }

pub again : (t : Tree) (bytes : List ℕ) (content : Option CargoList) → Read bytes content → (other : Option CargoList)
    → IsImage t bytes other → content ≡ other
again t bytes content read other is = some_is content other (sym read ∙ read_again t bytes other is)

-- bytes of which nothing was read
pub unread : (t : Tree) (bytes : List ℕ) → image_at bytes ≡ None → (content : Option CargoList) → IsImage t bytes content → ⊥
unread t bytes read content is = let there = read_again t bytes content is in absurd cc

-- a cargo that was read and isn't sound, or isn't typed
pub unsound : (t : Tree) (bytes : List ℕ) (c : CargoList) → Read bytes (Some c) → is_sound c ≡ false → (content : Option CargoList)
    → IsImage t bytes content → ⊥
unsound t bytes c read fails content is =
    let same : Some c ≡ content = again t bytes (Some c) read content is in
    let fits : IsContent t (Some c) = subst (IsContent t) (sym same) is.fits in
    false≢true (sym fails ∙ fits.0)

pub untyped : (t : Tree) (bytes : List ℕ) (c : CargoList) → Read bytes (Some c) → is_typed t.classes c ≡ false
    → (content : Option CargoList) → IsImage t bytes content → ⊥
untyped t bytes c read fails content is =
    let same : Some c ≡ content = again t bytes (Some c) read content is in
    let fits : IsContent t (Some c) = subst (IsContent t) (sym same) is.fits in
    false≢true (sym fails ∙ fits.1)
