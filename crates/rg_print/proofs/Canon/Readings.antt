-- Readings of lexemes: what comes first and what ends a phrase, the counts that an expression spends, and what is read up to some
-- lexemes.
use Rattle.std.proofs.Common.{◌≡◌, ℕ, ◌+◌, ◌-◌, ◌<◌, ◌≤◌, max, nat_lt, Bool, true, false, List, [], ◌∷◌, length, take, drop, Option, Some, None, Ok}
use Rattle.std.proofs.Common.{refl, ap, subst, arith}
use Rattle.std.proofs.lemmas.Bool.Decides.{nat_tests}
use Rattle.std.specs.Fmt.{signed_decimal}
use Rattle.rg_base.specs.declared.words.Sign.TheVariants as s
use Rattle.rg_base.specs.declared.token.Kind.{Kind}
use Rattle.rg_base.specs.declared.token.Kind.TheVariants as k
use Rattle.rg_base.specs.declared.token.Token.{Token}
use Rattle.rg_base.specs.Tokens.{line_behind}
use Rattle.rg_tree.specs.declared.counts.Counts.{Counts}
use Rattle.rg_tree.specs.Tree.{Name, Variable, Expr, neg, not, binary, element}
use Rattle.rg_tree.specs.Canonical.{level, left_level, right_level}
use Rattle.rg_tree.specs.Counts.{opened, closed, one_sign}
use Rattle.rg_tree.specs.Phrases.{the}
use Rattle.rg_tree.specs.Phrases as p
use Rattle.rg_tree.specs.Table.{next, row}
use Rattle.rg_tree.specs.Forms as form
use Rattle.rg_tree.specs.Forms.{Form, Given}
use Rattle.rg_tree.specs.Grammar.{Reads, text, path_row, next_field, no_fields}
use Rattle.rg_print.proofs.Canon.Lexemes.{Lexeme, gap, word, mark, named, numeral, word_text, sign_text, dotted, path_lexemes}
use Rattle.rg_print.proofs.Canon.LexemeCuts.{tokens_at}

-- What comes first.

-- the kind of the first token of lexemes
abbrev pub first_kind : List Lexeme → Option Kind
first_kind [] = None
first_kind (gap g ∷ xs) = first_kind xs
first_kind (word x ∷ xs) = Some (k.Word x)
first_kind (mark x ∷ xs) = Some (k.Mark x)
first_kind (named n ∷ xs) = Some k.Name
first_kind (numeral z ∷ xs) = Some (k.Number z)

-- the next of the tokens
pub next-tokens_at : (from line : ℕ) (xs : List Lexeme) → next (tokens_at from line xs) ≡ first_kind xs
next-tokens_at from line [] = refl
next-tokens_at from line (gap g ∷ xs) = next-tokens_at (from + length g) (line_behind line g) xs
next-tokens_at from line (word x ∷ xs) = refl
next-tokens_at from line (mark x ∷ xs) = refl
next-tokens_at from line (named n ∷ xs) = refl
next-tokens_at from line (numeral z ∷ xs) = refl

-- a token that goes on no primary
pub record Ends7 (o : Option Kind) : Type 0 where
  pub is : row p.Is o ≡ Some []
  pub fields : row p.Fields o ≡ Some []

-- nor a product
pub record Ends5 (o : Option Kind) : Type 0 where
  pub below : Ends7 o
  pub here : row p.MulRest o ≡ Some []

-- nor a sum
pub record Ends4 (o : Option Kind) : Type 0 where
  pub below : Ends5 o
  pub here : row p.SumRest o ≡ Some []

-- nor a comparison
pub record Ends3 (o : Option Kind) : Type 0 where
  pub below : Ends4 o
  pub here : row p.CmpRest o ≡ Some []

-- nor a chain of and
pub record Ends1 (o : Option Kind) : Type 0 where
  pub below : Ends3 o
  pub here : row p.AndRest o ≡ Some []

-- nor a chain of or
pub record Ends0 (o : Option Kind) : Type 0 where
  pub below : Ends1 o
  pub here : row p.OrRest o ≡ Some []

-- a token that goes on no part of an expression
pub ends-all : {o : Option Kind} → row p.Is o ≡ Some [] → row p.Fields o ≡ Some [] → row p.MulRest o ≡ Some [] → row p.SumRest o ≡ Some []
    → row p.CmpRest o ≡ Some [] → row p.AndRest o ≡ Some [] → row p.OrRest o ≡ Some [] → Ends0 o
ends-all a b c d e f g = record {
  below = record {
    below = record { below = record { below = record { below = record { is = a; fields = b }; here = c }; here = d }; here = e };
    here = f;
  };
  here = g;
}

-- Counts.

-- the counts with so many signs
abbrev pub with_signs : Counts → ℕ → Counts
with_signs c n = record c { signs = n }

-- how many signs stand in an expression
abbrev pub signs : Expr → ℕ
signs (neg a) = signs a
signs (not a) = signs a
signs (binary op a b) = signs a + signs b + 1
signs (element q e) = signs e
signs _ = 0

-- one more, where it is so
abbrev pub one_if : Bool → ℕ → ℕ
one_if true n = n + 1
one_if false n = n

-- how many parentheses and brackets stand round one place
abbrev pub depth : Expr → ℕ
depth (neg a) = one_if (nat_lt (level a) 7) (depth a)
depth (not a) = one_if (nat_lt (level a) 3) (depth a)
depth (binary op a b) = max (one_if (nat_lt (level a) (left_level op)) (depth a)) (one_if (nat_lt (level b) (right_level op)) (depth b))
depth (element q e) = depth e + 1
depth _ = 0

-- from i signs an expression of a depth leads to j, within the limits
pub record Spends (c : Counts) (n i j : ℕ) (e : Expr) : Type 0 where
  pub room : 0 < n → c.brackets + n ≤ 64
  pub sum : j ≡ i + signs e
  pub few : 0 < signs e → j ≤ 512

-- one sign more is within its limit
pub one_sign-allowed : (c : Counts) (i : ℕ) → i < 512 → one_sign (with_signs c i) ≡ Ok (with_signs c (i + 1))
one_sign-allowed c i l = let t : nat_lt i 512 ≡ true = grind (arith, nat_tests) in rw t refl

-- one bracket more
abbrev pub deeper : Counts → Counts
deeper c = record c { brackets = c.brackets + 1 }

pub opened-allowed : (c : Counts) → c.brackets < 64 → opened c ≡ Ok (deeper c)
opened-allowed c l = let t : nat_lt c.brackets 64 ≡ true = grind (arith, nat_tests) in rw t refl

-- the bracket is closed again
pub closed-deeper : (c : Counts) → closed (deeper c) ≡ c
closed-deeper c = let e : c.brackets + 1 - 1 ≡ c.brackets = omega arith in rw e refl

module _ (S : List ℕ) where
  -- from a place on the names of lexemes stand in S
  abbrev pub Spelt : ℕ → List Lexeme → Type 0
  Spelt from [] = Unit {0}
  Spelt from (gap g ∷ xs) = Spelt (from + length g) xs
  Spelt from (word x ∷ xs) = Spelt (from + length (word_text x)) xs
  Spelt from (mark x ∷ xs) = Spelt (from + length (sign_text x)) xs
  Spelt from (named n ∷ xs) = (take (from + length n - from) (drop from S) ≡ n) × Spelt (from + length n) xs
  Spelt from (numeral z ∷ xs) = Spelt (from + length (signed_decimal z)) xs

  -- a reading up to some lexemes
  pub record Read (f : Form) (c : Counts) (ts : List Token) (a : Given f) (d : Counts) (rest : List Lexeme) : Type 0 where
    pub from : ℕ
    pub line : ℕ
    pub spelt : Spelt from rest
    pub reads : Reads S f c ts a d (tokens_at from line rest)

  -- Paths.

  -- a further field, by its text
  named_field : {c d : Counts} {t u : Token} {ts us : List Token} {fs : List Name} (n : Name)
      → t.kind ≡ k.Mark s.Dot → u.kind ≡ k.Name → text S u ≡ n → Reads S form.Fields c ts fs d us → Reads S form.Fields c (t ∷ u ∷ ts) (n ∷ fs) d us
  named_field {c} {d} {t} {u} {ts} {us} {fs} n h i e r = subst (λ x. Reads S form.Fields c (t ∷ u ∷ ts) (x ∷ fs) d us) e (next_field h i r)

  -- fields are read to their end
  fields-read : (c : Counts) (fs : List Name) (from line : ℕ) (rest : List Lexeme) → row p.Fields (first_kind rest) ≡ Some []
      → Spelt from (dotted fs rest) → Read form.Fields c (tokens_at from line (dotted fs rest)) fs c rest
  fields-read c [] from line rest e h = record { from = from; line = line; spelt = h; reads = no_fields (rw (next-tokens_at from line rest) e) }
  fields-read c (f ∷ fs) from line rest e h =
      let r = fields-read c fs (from + 1 + length f) line rest e h.1 in
      record { from = r.from; line = r.line; spelt = r.spelt; reads = named_field f refl refl h.0 r.reads }

  -- a path is read to its end
  pub path-read : (c : Counts) (b : Variable) (fs : List Name) (from line : ℕ) (rest : List Lexeme) → row p.Fields (first_kind rest) ≡ Some []
      → Spelt from (path_lexemes (record { base = b; fields = fs }) rest)
      → Read form.Path c (tokens_at from line (path_lexemes (record { base = b; fields = fs }) rest)) (record { base = b; fields = fs }) c rest
  path-read c None fs from line rest e h =
      let r = fields-read c fs (from + 4) line rest e h in
      record { from = r.from; line = r.line; spelt = r.spelt; reads = path_row refl r.reads }
  path-read c (Some x) fs from line rest e h =
      let r = fields-read c fs (from + length x) line rest e h.1 in
      record { from = r.from; line = r.line; spelt = r.spelt; reads = path_row (ap (λ n. Some (Some n)) h.0) r.reads }
