-- The bytes of lexemes that stand apart are cut into their tokens.
use Rattle.std.proofs.Common.{◌≡◌, ℕ, ℤ, pos, negsuc, suc, ◌+◌, ◌<◌, ◌^◌, ◌==◌, nat_lt, Bool, true, false, ◌&&◌, List, [], ◌∷◌, ◌++◌, length, take}
use Rattle.std.proofs.Common.{drop, Option, Some, None, option_map, Ok, refl, ◌∙◌, ap, subst, one-add, arith}
use Rattle.std.specs.List.{list_all, prefix_len}
use Rattle.std.specs.Fmt.{decimal, signed_decimal}
use Rattle.std.proofs.lemmas.Bool.Decides.{nat_tests}
use Rattle.std.proofs.lemmas.Fmt.{digits_decimal, digits_value-decimal, decimal_nonempty}
use Rattle.std.proofs.lemmas.Str.Parse.{IsNumeralModel, IsDigitsTest, FoldsDigits, numerals_by_fold}
use Rattle.std.proofs.Math.Seq.{take-append_seam, drop-append_seam}
use Rattle.rg_base.specs.declared.words.Keyword.{Keyword}
use Rattle.rg_base.specs.declared.words.Keyword.TheVariants as w
use Rattle.rg_base.specs.declared.words.Sign.{Sign}
use Rattle.rg_base.specs.declared.words.Sign.TheVariants as s
use Rattle.rg_base.specs.declared.token.Kind.{Kind}
use Rattle.rg_base.specs.declared.token.Kind.TheVariants as k
use Rattle.rg_base.specs.declared.token.Token.{Token}
use Rattle.rg_base.specs.declared.limits.TheConstants.{NAME_BYTES, GREATEST_NUMBER}
use Rattle.rg_base.specs.Words.{keyword_of, sign_of}
use Rattle.rg_base.specs.Pieces.{Piece, name, number, sign, is_blank, is_digit, is_letter, is_in_name, only_if, is_comment, comment, piece_of}
use Rattle.rg_base.specs.Tokens.{value_onto, begins_name, word_or_name, reading, read_front, with_token, line_after, cut_from, line_behind}
use Rattle.rg_base.proofs.Fronts.{both, IsOther, IsFront, piece-blank, piece-letter, piece-digit, piece-other, front-blank, front-letter, front-digit}
use Rattle.rg_base.proofs.Fronts.{front-pair, front-single, front-alone}
use Rattle.rg_base.proofs.Cuts.{cut_from-reads, token-line}
use Rattle.rg_tree.specs.Tree.{Name}
use Rattle.rg_print.proofs.Canon.Lexemes.{Lexeme, gap, word, mark, named, numeral, word_text, sign_text, text_of}

-- a token at a place and a line
abbrev pub token_at : Kind → ℕ → ℕ → ℕ → Token
token_at kind from n line = record { kind = kind; from = from; to = from + n; line = line }

-- the tokens of lexemes, from a place and a line on
abbrev pub tokens_at : ℕ → ℕ → List Lexeme → List Token
tokens_at from line [] = []
tokens_at from line (gap g ∷ xs) = tokens_at (from + length g) (line_behind line g) xs
tokens_at from line (word x ∷ xs) = token_at (k.Word x) from (length (word_text x)) line ∷ tokens_at (from + length (word_text x)) line xs
tokens_at from line (mark x ∷ xs) = token_at (k.Mark x) from (length (sign_text x)) line ∷ tokens_at (from + length (sign_text x)) line xs
tokens_at from line (named n ∷ xs) = token_at k.Name from (length n) line ∷ tokens_at (from + length n) line xs
tokens_at from line (numeral z ∷ xs) =
    token_at (k.Number z) from (length (signed_decimal z)) line ∷ tokens_at (from + length (signed_decimal z)) line xs

-- a name that is no reserved word, within its limit
pub record IsName (n : Name) : Type 0 where
  pub piece : piece_of n ≡ Some name
  pub short : nat_lt (length n) (NAME_BYTES + 1) ≡ true
  pub plain : keyword_of n ≡ None

-- a number that a source can write
abbrev pub IsNumber : ℤ → Type 0
IsNumber (pos n) = nat_lt n (GREATEST_NUMBER + 1) ≡ true
IsNumber (negsuc n) = ⊥

-- whether what may stand in a name comes first
abbrev pub goes_on : List ℕ → Bool
goes_on [] = false
goes_on (b ∷ bs) = is_in_name b

-- whether a space comes first
abbrev pub is_spaced : List ℕ → Bool
is_spaced [] = false
is_spaced (b ∷ bs) = b == 32

-- bytes in front of which a sign stays itself
abbrev pub Ends : Sign → List ℕ → Type 0
Ends s.Assign bs = is_spaced bs ≡ true
Ends s.Less bs = is_spaced bs ≡ true
Ends s.Greater bs = is_spaced bs ≡ true
Ends s.Slash bs = is_spaced bs ≡ true
Ends _ bs = Unit {0}

-- each lexeme is one, and what follows doesn't make it longer
abbrev pub StandApart : List Lexeme → Type 0
StandApart [] = Unit {0}
StandApart (gap g ∷ xs) = (list_all is_blank g ≡ true) × StandApart xs
StandApart (word x ∷ xs) = (goes_on (text_of xs) ≡ false) × StandApart xs
StandApart (mark x ∷ xs) = Ends x (text_of xs) × StandApart xs
StandApart (named n ∷ xs) = IsName n × (goes_on (text_of xs) ≡ false) × StandApart xs
StandApart (numeral z ∷ xs) = IsNumber z × (goes_on (text_of xs) ≡ false) × StandApart xs

-- Blanks.

-- blanks are passed over
cut_from-gap : (g bs : List ℕ) (from line : ℕ) → list_all is_blank g ≡ true
    → cut_from 0 from line (g ++ bs) ≡ cut_from 0 (from + length g) (line_behind line g) bs
cut_from-gap [] bs from line h = let e : from + 0 ≡ from = omega arith in rw e refl
cut_from-gap (b ∷ g) bs from line h =
    let r = both (is_blank b) (list_all is_blank g) h in
    let f = front-blank b (g ++ bs) r.0 in
    let a = cut_from-reads from line b (g ++ bs) None 1 f.length_is (rw f.piece_is refl) in
    let e : from + suc (length g) ≡ (from + 1) + length g = omega arith in
    a.cut_is ∙ (rw e (cut_from-gap g bs (from + 1) (line_after line b) r.1))

-- A token.

-- a front that is a token is that token
cut_from-token : (from line b : ℕ) (t bs : List ℕ) (p : Option Piece) (kind : Kind) → IsFront (b ∷ (t ++ bs)) (suc (length t)) p
    → reading p (b ∷ t) bs ≡ Ok (Some kind)
    → cut_from 0 from line (b ∷ (t ++ bs)) ≡ with_token (token_at kind from (suc (length t)) line) (cut_from 0 (from + suc (length t)) line bs)
cut_from-token from line b t bs p kind f h =
    let x : take (length t) (t ++ bs) ≡ t = take-append_seam t bs in
    let y : drop (length t) (t ++ bs) ≡ bs = drop-append_seam t bs in
    let r : read_front (suc (length t)) (b ∷ (t ++ bs)) ≡ Ok (Some kind) = rw (f.piece_is, x, y) h in
    let a = cut_from-reads from line b (t ++ bs) (Some kind) (suc (length t)) f.length_is r in
    let l = token-line line b (t ++ bs) kind (suc (length t)) f.length_is r in
    a.cut_is ∙ (rw (l, y) refl)

-- Names and words.

-- a run that what follows doesn't make longer
pub goes_on-prefix : (q : ℕ → Bool) (t bs : List ℕ) → ((b : ℕ) → is_in_name b ≡ false → q b ≡ false) → list_all q t ≡ true → goes_on bs ≡ false
    → prefix_len q (t ++ bs) ≡ length t
goes_on-prefix q [] [] f h e = refl
goes_on-prefix q [] (b ∷ bs) f h e = rw (f b e) refl
goes_on-prefix q (x ∷ t) bs f h e =
    let r = both (q x) (list_all q t) h in
    let i = goes_on-prefix q t bs f r.1 e in
    rw (r.0, i) (one-add (length t))

-- what a text that is a name isn't
only_if-name : (v : Bool) (p : Piece) → only_if v p ≡ Some name → (v ≡ true) × (p ≡ name)
only_if-name true p h = (refl, cc)
only_if-name false p h = cc

sign-no_name : (o : Option Sign) → option_map sign o ≡ Some name → ⊥
sign-no_name None h = cc
sign-no_name (Some x) h = cc

-- a name begins with a letter, and all of it may stand in a name
pub name-inside : (b : ℕ) (t : List ℕ) → piece_of (b ∷ t) ≡ Some name → (is_letter b ≡ true) × (list_all is_in_name t ≡ true)
name-inside b t h = blanks (is_blank b) refl
  where
    comments : IsOther b → (v : Bool) → is_comment (b ∷ t) ≡ v → (is_letter b ≡ true) × (list_all is_in_name t ≡ true)
    comments o true i = let j : Some comment ≡ Some name = rw (piece-other b t o, i) at h in cc
    comments o false i = absurd (sign-no_name _ (rw (piece-other b t o, i) at h))

    digits : is_blank b ≡ false → is_letter b ≡ false → (v : Bool) → is_digit b ≡ v → (is_letter b ≡ true) × (list_all is_in_name t ≡ true)
    digits e f true g = let j = only_if-name _ _ (rw (piece-digit b t g) at h) in let i = j.1 in cc
    digits e f false g = comments (record { blank = e; letter = f; digit = g }) (is_comment (b ∷ t)) refl

    letters : is_blank b ≡ false → (v : Bool) → is_letter b ≡ v → (is_letter b ≡ true) × (list_all is_in_name t ≡ true)
    letters e true f = (f, (only_if-name _ _ (rw (piece-letter b t f) at h)).0)
    letters e false f = digits e f (is_digit b) refl

    blanks : (v : Bool) → is_blank b ≡ v → (is_letter b ≡ true) × (list_all is_in_name t ≡ true)
    blanks true e = let j = only_if-name _ _ (rw (piece-blank b t e) at h) in let i = j.1 in cc
    blanks false e = letters e (is_letter b) refl

-- a name or a word, which what follows doesn't make longer
cut_from-name : (from line : ℕ) (n bs : List ℕ) (kind : Kind) → piece_of n ≡ Some name → nat_lt (length n) (NAME_BYTES + 1) ≡ true
    → word_or_name (keyword_of n) ≡ kind → goes_on bs ≡ false
    → cut_from 0 from line (n ++ bs) ≡ with_token (token_at kind from (length n) line) (cut_from 0 (from + length n) line bs)
cut_from-name from line [] bs kind h i j e = cc
cut_from-name from line (b ∷ t) bs kind h i j e =
    let r = name-inside b t h in
    let q : suc (prefix_len is_in_name (t ++ bs)) ≡ suc (length t) = ap suc (goes_on-prefix is_in_name t bs (λ b f. f) r.1 e) in
    let f : IsFront (b ∷ (t ++ bs)) (suc (length t)) (Some name) = subst (λ m. IsFront (b ∷ (t ++ bs)) m (Some name)) q (front-letter b
    (t ++ bs) r.0) in
    cut_from-token from line b t bs (Some name) kind f (rw (i, j) refl)

-- the reserved words
record IsWord (x : Keyword) : Type 0 where
  piece : piece_of (word_text x) ≡ Some name
  short : nat_lt (length (word_text x)) (NAME_BYTES + 1) ≡ true
  is : keyword_of (word_text x) ≡ Some x

-- each of them is one
is_word : (x : Keyword) → IsWord x
is_word w.Class = record { piece = refl; short = refl; is = refl }
is_word w.Tmp = record { piece = refl; short = refl; is = refl }
is_word w.Mut = record { piece = refl; short = refl; is = refl }
is_word w.Paused = record { piece = refl; short = refl; is = refl }
is_word w.Imm = record { piece = refl; short = refl; is = refl }
is_word w.Iso = record { piece = refl; short = refl; is = refl }
is_word w.Int = record { piece = refl; short = refl; is = refl }
is_word w.Bool = record { piece = refl; short = refl; is = refl }
is_word w.Def = record { piece = refl; short = refl; is = refl }
is_word w.Main = record { piece = refl; short = refl; is = refl }
is_word w.Arena = record { piece = refl; short = refl; is = refl }
is_word w.Count = record { piece = refl; short = refl; is = refl }
is_word w.Trace = record { piece = refl; short = refl; is = refl }
is_word w.Let = record { piece = refl; short = refl; is = refl }
is_word w.If = record { piece = refl; short = refl; is = refl }
is_word w.Else = record { piece = refl; short = refl; is = refl }
is_word w.While = record { piece = refl; short = refl; is = refl }
is_word w.Return = record { piece = refl; short = refl; is = refl }
is_word w.Print = record { piece = refl; short = refl; is = refl }
is_word w.Read = record { piece = refl; short = refl; is = refl }
is_word w.More = record { piece = refl; short = refl; is = refl }
is_word w.Call = record { piece = refl; short = refl; is = refl }
is_word w.New = record { piece = refl; short = refl; is = refl }
is_word w.Enter = record { piece = refl; short = refl; is = refl }
is_word w.As = record { piece = refl; short = refl; is = refl }
is_word w.In = record { piece = refl; short = refl; is = refl }
is_word w.Is = record { piece = refl; short = refl; is = refl }
is_word w.Freeze = record { piece = refl; short = refl; is = refl }
is_word w.Merge = record { piece = refl; short = refl; is = refl }
is_word w.Swap = record { piece = refl; short = refl; is = refl }
is_word w.Collect = record { piece = refl; short = refl; is = refl }
is_word w.Nil = record { piece = refl; short = refl; is = refl }
is_word w.True = record { piece = refl; short = refl; is = refl }
is_word w.False = record { piece = refl; short = refl; is = refl }
is_word w.And = record { piece = refl; short = refl; is = refl }
is_word w.Or = record { piece = refl; short = refl; is = refl }
is_word w.Not = record { piece = refl; short = refl; is = refl }
is_word w.SelfWord = record { piece = refl; short = refl; is = refl }
is_word w.Giving = record { piece = refl; short = refl; is = refl }
is_word w.Size = record { piece = refl; short = refl; is = refl }
is_word w.Cown = record { piece = refl; short = refl; is = refl }
is_word w.When = record { piece = refl; short = refl; is = refl }

-- Numbers.

-- the digits that std speaks of are those of a number
digits-test : IsDigitsTest (λ ds. list_all is_digit ds ≡ true)
digits-test = record {
  empty = refl;
  parts = λ c cs h. let r = both (is_digit c) (list_all is_digit cs) h in ((grind (arith, nat_tests), grind (arith, nat_tests)), r.1);
  more = λ c cs r h. let a = r.0 in let b = r.1 in let d : is_digit c ≡ true = grind (arith, nat_tests) in rw (d, h) refl;
}

digits-fold : FoldsDigits value_onto
digits-fold = record { empty = λ n. refl; more = λ n c cs r. refl }

digits-model : IsNumeralModel (λ ds. list_all is_digit ds ≡ true) (value_onto 0)
digits-model = numerals_by_fold (λ ds. list_all is_digit ds ≡ true) digits-test value_onto digits-fold

-- what stands in no name is no digit, and begins no name
name-no_digit : (b : ℕ) → is_in_name b ≡ false → is_digit b ≡ false
name-no_digit b h = grind (arith, nat_tests)

goes_on-no_name : (bs : List ℕ) → goes_on bs ≡ false → begins_name bs ≡ false
goes_on-no_name [] h = refl
goes_on-no_name (b ∷ bs) h = grind (arith, nat_tests)

-- digits that write a number within its limit
cut_from-digits : (from line n : ℕ) (ds bs : List ℕ) → list_all is_digit ds ≡ true → 0 < length ds → value_onto 0 ds ≡ n
    → nat_lt n (GREATEST_NUMBER + 1) ≡ true → goes_on bs ≡ false
    → cut_from 0 from line (ds ++ bs) ≡ with_token (token_at (k.Number (pos n)) from (length ds) line) (cut_from 0 (from + length ds) line bs)
cut_from-digits from line n [] bs d l v g e = absurd (omega arith)
cut_from-digits from line n (b ∷ t) bs d l v g e =
    let r = both (is_digit b) (list_all is_digit t) d in
    let q : suc (prefix_len is_digit (t ++ bs)) ≡ suc (length t) = ap suc (goes_on-prefix is_digit t bs name-no_digit r.1 e) in
    let f : IsFront (b ∷ (t ++ bs)) (suc (length t)) (Some number) = subst (λ m. IsFront (b ∷ (t ++ bs)) m (Some number)) q (front-digit b
    (t ++ bs) r.0) in
    let x = goes_on-no_name bs e in
    cut_from-token from line b t bs (Some number) (k.Number (pos n)) f (rw (v, g, x) refl)

within-64 : (n : ℕ) → nat_lt n (GREATEST_NUMBER + 1) ≡ true → n < 2 ^ 64
within-64 n h = grind (arith, nat_tests)

-- a number as it is printed
cut_from-number : (from line n : ℕ) (bs : List ℕ) → nat_lt n (GREATEST_NUMBER + 1) ≡ true → goes_on bs ≡ false
    → cut_from 0 from line (decimal n ++ bs)
    ≡ with_token (token_at (k.Number (pos n)) from (length (decimal n)) line) (cut_from 0 (from + length (decimal n)) line bs)
cut_from-number from line n bs h e =
    let l = within-64 n h in
    cut_from-digits from line n (decimal n) bs (digits_decimal digits-model n l) (decimal_nonempty n l) (digits_value-decimal digits-model n l) h e

-- Signs.

-- a sign of one byte
single : (a : ℕ) (x : Sign) (bs : List ℕ) → is_blank a ≡ false → is_letter a ≡ false → is_digit a ≡ false → sign_of (a ∷ []) ≡ Some x
    → ((c : ℕ) (cs : List ℕ) → bs ≡ c ∷ cs → ((a == 47 && c == 47) ≡ false) × (sign_of (a ∷ c ∷ []) ≡ None))
    → IsFront (a ∷ bs) 1 (Some (sign x))
single a x [] b l d e f = rw e at (front-alone a (record { blank = b; letter = l; digit = d }))
single a x (c ∷ cs) b l d e f =
    let r = f c cs refl in rw e at (front-single a c cs (record { blank = b; letter = l; digit = d }) r.0 r.1)

-- one that a space follows
spaced : (a : ℕ) (bs : List ℕ) → ((a == 47 && 32 == 47) ≡ false) × (sign_of (a ∷ 32 ∷ []) ≡ None) → is_spaced bs ≡ true
    → (c : ℕ) (cs : List ℕ) → bs ≡ c ∷ cs → ((a == 47 && c == 47) ≡ false) × (sign_of (a ∷ c ∷ []) ≡ None)
spaced a [] r h c cs e = cc
spaced a (b ∷ bs) r h c cs e =
    let t : b ≡ 32 = grind (arith, nat_tests) in
    let u : c ≡ 32 = cc in
    rw u r

-- the front is the sign
mark-front : (x : Sign) (bs : List ℕ) → Ends x bs → IsFront (sign_text x ++ bs) (length (sign_text x)) (Some (sign x))
mark-front s.OpenBrace bs h = single 123 s.OpenBrace bs refl refl refl refl (λ c cs e. (refl, refl))
mark-front s.CloseBrace bs h = single 125 s.CloseBrace bs refl refl refl refl (λ c cs e. (refl, refl))
mark-front s.OpenParen bs h = single 40 s.OpenParen bs refl refl refl refl (λ c cs e. (refl, refl))
mark-front s.CloseParen bs h = single 41 s.CloseParen bs refl refl refl refl (λ c cs e. (refl, refl))
mark-front s.OpenBracket bs h = single 91 s.OpenBracket bs refl refl refl refl (λ c cs e. (refl, refl))
mark-front s.CloseBracket bs h = single 93 s.CloseBracket bs refl refl refl refl (λ c cs e. (refl, refl))
mark-front s.Colon bs h = single 58 s.Colon bs refl refl refl refl (λ c cs e. (refl, refl))
mark-front s.Semicolon bs h = single 59 s.Semicolon bs refl refl refl refl (λ c cs e. (refl, refl))
mark-front s.Comma bs h = single 44 s.Comma bs refl refl refl refl (λ c cs e. (refl, refl))
mark-front s.Dot bs h = single 46 s.Dot bs refl refl refl refl (λ c cs e. (refl, refl))
mark-front s.Assign bs h = single 61 s.Assign bs refl refl refl refl (spaced 61 bs (refl, refl) h)
mark-front s.Equal bs h = front-pair 61 61 bs s.Equal (record { blank = refl; letter = refl; digit = refl }) refl refl
mark-front s.NotEqual bs h = front-pair 33 61 bs s.NotEqual (record { blank = refl; letter = refl; digit = refl }) refl refl
mark-front s.Less bs h = single 60 s.Less bs refl refl refl refl (spaced 60 bs (refl, refl) h)
mark-front s.AtMost bs h = front-pair 60 61 bs s.AtMost (record { blank = refl; letter = refl; digit = refl }) refl refl
mark-front s.Greater bs h = single 62 s.Greater bs refl refl refl refl (spaced 62 bs (refl, refl) h)
mark-front s.AtLeast bs h = front-pair 62 61 bs s.AtLeast (record { blank = refl; letter = refl; digit = refl }) refl refl
mark-front s.Plus bs h = single 43 s.Plus bs refl refl refl refl (λ c cs e. (refl, refl))
mark-front s.Minus bs h = single 45 s.Minus bs refl refl refl refl (λ c cs e. (refl, refl))
mark-front s.Star bs h = single 42 s.Star bs refl refl refl refl (λ c cs e. (refl, refl))
mark-front s.Slash bs h = single 47 s.Slash bs refl refl refl refl (spaced 47 bs (refl, refl) h)
mark-front s.Percent bs h = single 37 s.Percent bs refl refl refl refl (λ c cs e. (refl, refl))

-- the same of a text that isn't taken apart
cut_from-text : (from line : ℕ) (x bs : List ℕ) (p : Option Piece) (kind : Kind) → 0 < length x → IsFront (x ++ bs) (length x) p
    → reading p x bs ≡ Ok (Some kind)
    → cut_from 0 from line (x ++ bs) ≡ with_token (token_at kind from (length x) line) (cut_from 0 (from + length x) line bs)
cut_from-text from line [] bs p kind l f h = absurd (omega arith)
cut_from-text from line (b ∷ t) bs p kind l f h = cut_from-token from line b t bs p kind f h

some-text : (x : Sign) → 0 < length (sign_text x)
some-text s.OpenBrace = omega arith
some-text s.CloseBrace = omega arith
some-text s.OpenParen = omega arith
some-text s.CloseParen = omega arith
some-text s.OpenBracket = omega arith
some-text s.CloseBracket = omega arith
some-text s.Colon = omega arith
some-text s.Semicolon = omega arith
some-text s.Comma = omega arith
some-text s.Dot = omega arith
some-text s.Assign = omega arith
some-text s.Equal = omega arith
some-text s.NotEqual = omega arith
some-text s.Less = omega arith
some-text s.AtMost = omega arith
some-text s.Greater = omega arith
some-text s.AtLeast = omega arith
some-text s.Plus = omega arith
some-text s.Minus = omega arith
some-text s.Star = omega arith
some-text s.Slash = omega arith
some-text s.Percent = omega arith

-- lexemes that stand apart are cut into their tokens
pub cut_from-lexemes : (from line : ℕ) (xs : List Lexeme) → StandApart xs → cut_from 0 from line (text_of xs) ≡ Ok (tokens_at from line xs)
unfolding cut_from
cut_from-lexemes from line [] h = refl
cut_from-lexemes from line (gap g ∷ xs) h =
    cut_from-gap g (text_of xs) from line h.0 ∙ cut_from-lexemes (from + length g) (line_behind line g) xs h.1
cut_from-lexemes from line (word x ∷ xs) h =
    let i = is_word x in
    let r = cut_from-lexemes (from + length (word_text x)) line xs h.1 in
    cut_from-name from line (word_text x) (text_of xs) (k.Word x) i.piece i.short (ap word_or_name i.is) h.0 ∙ (rw r refl)
cut_from-lexemes from line (mark x ∷ xs) h =
    let r = cut_from-lexemes (from + length (sign_text x)) line xs h.1 in
    cut_from-text from line (sign_text x) (text_of xs) (Some (sign x)) (k.Mark x) (some-text x) (mark-front x (text_of xs) h.0) refl ∙ (rw r refl)
cut_from-lexemes from line (named n ∷ xs) h =
    let i = h.0 in
    let r = cut_from-lexemes (from + length n) line xs h.2 in
    cut_from-name from line n (text_of xs) k.Name i.piece i.short (ap word_or_name i.plain) h.1 ∙ (rw r refl)
cut_from-lexemes from line (numeral (pos n) ∷ xs) h =
    let r = cut_from-lexemes (from + length (decimal n)) line xs h.2 in
    cut_from-number from line n (text_of xs) h.0 h.1 ∙ (rw r refl)
cut_from-lexemes from line (numeral (negsuc n) ∷ xs) h = absurd h.0
