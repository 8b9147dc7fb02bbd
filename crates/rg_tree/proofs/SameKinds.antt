-- A test of kinds of tokens.
use Rattle.std.proofs.Common.{◌≡◌, ℕ, zero, suc, ◌==◌, Bool, true, false, List, [], ◌∷◌, Option, Some, None, refl, sym, ◌∙◌, ap}
use Rattle.std.specs.Ordering.{int_eq}
use Rattle.std.specs.Bool.{Decides}
use Rattle.std.proofs.lemmas.Bool.Decides.{Decides-int_eq, Decides-eqb}
use Rattle.rg_base.specs.declared.words.Keyword.{Keyword}
use Rattle.rg_base.specs.declared.words.Keyword.TheVariants as w
use Rattle.rg_base.specs.declared.words.Sign.{Sign}
use Rattle.rg_base.specs.declared.words.Sign.TheVariants as s
use Rattle.rg_base.specs.declared.token.Kind.{Kind}
use Rattle.rg_base.specs.declared.token.Kind.TheVariants as k

-- an item by its number; the last one behind the list
abbrev pick : {A : Type 0} → A → List A → ℕ → A
pick a [] n = a
pick a (x ∷ xs) zero = x
pick a (x ∷ xs) (suc n) = pick a xs n

-- the reserved words by their numbers
abbrev words : List Keyword
words = w.Class ∷ w.Tmp ∷ w.Mut ∷ w.Paused ∷ w.Imm ∷ w.Iso ∷ w.Int ∷ w.Bool ∷ w.Def ∷ w.Main ∷ w.Arena ∷ w.Count ∷ w.Trace ∷ w.Let ∷ w.If
    ∷ w.Else ∷ w.While ∷ w.Return ∷ w.Print ∷ w.Read ∷ w.More ∷ w.Call ∷ w.New ∷ w.Enter ∷ w.As ∷ w.In ∷ w.Is ∷ w.Freeze ∷ w.Merge
    ∷ w.Swap ∷ w.Collect ∷ w.Nil ∷ w.True ∷ w.False ∷ w.And ∷ w.Or ∷ w.Not ∷ w.SelfWord ∷ w.Giving ∷ w.Size ∷ w.Cown ∷ w.When ∷ []

abbrev pub word_number : Keyword → ℕ
word_number w.Class = 0
word_number w.Tmp = 1
word_number w.Mut = 2
word_number w.Paused = 3
word_number w.Imm = 4
word_number w.Iso = 5
word_number w.Int = 6
word_number w.Bool = 7
word_number w.Def = 8
word_number w.Main = 9
word_number w.Arena = 10
word_number w.Count = 11
word_number w.Trace = 12
word_number w.Let = 13
word_number w.If = 14
word_number w.Else = 15
word_number w.While = 16
word_number w.Return = 17
word_number w.Print = 18
word_number w.Read = 19
word_number w.More = 20
word_number w.Call = 21
word_number w.New = 22
word_number w.Enter = 23
word_number w.As = 24
word_number w.In = 25
word_number w.Is = 26
word_number w.Freeze = 27
word_number w.Merge = 28
word_number w.Swap = 29
word_number w.Collect = 30
word_number w.Nil = 31
word_number w.True = 32
word_number w.False = 33
word_number w.And = 34
word_number w.Or = 35
word_number w.Not = 36
word_number w.SelfWord = 37
word_number w.Giving = 38
word_number w.Size = 39
word_number w.Cown = 40
word_number w.When = 41

pick-word_number : (x : Keyword) → pick w.Class words (word_number x) ≡ x
pick-word_number w.Class = refl
pick-word_number _ = refl

word_number-same : (x y : Keyword) → word_number x ≡ word_number y → x ≡ y
word_number-same x y e = sym (pick-word_number x) ∙ ap (pick w.Class words) e ∙ pick-word_number y

-- the signs by their numbers
abbrev signs : List Sign
signs = s.OpenBrace ∷ s.CloseBrace ∷ s.OpenParen ∷ s.CloseParen ∷ s.OpenBracket ∷ s.CloseBracket ∷ s.Colon ∷ s.Semicolon ∷ s.Comma ∷ s.Dot
    ∷ s.Assign ∷ s.Equal ∷ s.NotEqual ∷ s.Less ∷ s.AtMost ∷ s.Greater ∷ s.AtLeast ∷ s.Plus ∷ s.Minus ∷ s.Star ∷ s.Slash ∷ s.Percent ∷ []

abbrev pub sign_number : Sign → ℕ
sign_number s.OpenBrace = 0
sign_number s.CloseBrace = 1
sign_number s.OpenParen = 2
sign_number s.CloseParen = 3
sign_number s.OpenBracket = 4
sign_number s.CloseBracket = 5
sign_number s.Colon = 6
sign_number s.Semicolon = 7
sign_number s.Comma = 8
sign_number s.Dot = 9
sign_number s.Assign = 10
sign_number s.Equal = 11
sign_number s.NotEqual = 12
sign_number s.Less = 13
sign_number s.AtMost = 14
sign_number s.Greater = 15
sign_number s.AtLeast = 16
sign_number s.Plus = 17
sign_number s.Minus = 18
sign_number s.Star = 19
sign_number s.Slash = 20
sign_number s.Percent = 21

pick-sign_number : (x : Sign) → pick s.OpenBrace signs (sign_number x) ≡ x
pick-sign_number s.OpenBrace = refl
pick-sign_number _ = refl

sign_number-same : (x y : Sign) → sign_number x ≡ sign_number y → x ≡ y
sign_number-same x y e = sym (pick-sign_number x) ∙ ap (pick s.OpenBrace signs) e ∙ pick-sign_number y

-- whether two kinds are the same
abbrev pub same_kind : Kind → Kind → Bool
same_kind k.Name k.Name = true
same_kind (k.Number x) (k.Number y) = int_eq x y
same_kind (k.Word x) (k.Word y) = word_number x == word_number y
same_kind (k.Mark x) (k.Mark y) = sign_number x == sign_number y
same_kind _ _ = false

pub same_kind-Decides : (x y : Kind) → Decides (same_kind x y) (x ≡ y)
same_kind-Decides k.Name k.Name = (λ e. refl, λ e. refl)
same_kind-Decides (k.Number x) (k.Number y) = let d = Decides-int_eq x y in (λ e. ap k.Number (d.0 e), λ e. let f : x ≡ y = cc in d.1 f)
same_kind-Decides (k.Word x) (k.Word y) = let d = Decides-eqb (word_number x) (word_number y) in (
  λ e.
      ap k.Word (word_number-same x y (d.0 e)),
  λ e. let f : x ≡ y = cc in d.1 (ap word_number f),
)
same_kind-Decides (k.Mark x) (k.Mark y) = let d = Decides-eqb (sign_number x) (sign_number y) in (
  λ e.
      ap k.Mark (sign_number-same x y (d.0 e)),
  λ e. let f : x ≡ y = cc in d.1 (ap sign_number f),
)
same_kind-Decides _ _ = (λ e. cc, λ e. cc)

-- whether two next tokens are the same
abbrev pub same_next : Option Kind → Option Kind → Bool
same_next None None = true
same_next None (Some y) = false
same_next (Some x) None = false
same_next (Some x) (Some y) = same_kind x y

pub same_next-Decides : (x y : Option Kind) → Decides (same_next x y) (x ≡ y)
same_next-Decides None None = (λ e. refl, λ e. refl)
same_next-Decides None (Some y) = (λ e. cc, λ e. cc)
same_next-Decides (Some x) None = (λ e. cc, λ e. cc)
same_next-Decides (Some x) (Some y) = let d = same_kind-Decides x y in (λ e. ap Some (d.0 e), λ e. let f : x ≡ y = cc in d.1 f)
