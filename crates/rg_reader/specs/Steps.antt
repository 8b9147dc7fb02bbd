-- What a step of the parser does: to the tokens that are left, to the counts, and to the tables (docs/language.md, "Grammar").
use Rattle.std.specs.Prelude.{ℕ, ◌≡◌, List, [], ◌∷◌, ◌++◌, length, Ok}
use Rattle.rg_base.specs.declared.words.Keyword.TheVariants as w
use Rattle.rg_base.specs.declared.words.Sign.TheVariants as s
use Rattle.rg_base.specs.declared.token.Kind.{Kind}
use Rattle.rg_base.specs.declared.token.Kind.TheVariants as k
use Rattle.rg_base.specs.declared.token.Token.{Token}
use Rattle.rg_reader.specs.declared.reader.halt.Halt.{Halt}
use Rattle.rg_reader.specs.declared.reader.halt.Halt.TheVariants as halt
use Rattle.rg_tree.specs.declared.counts.Counts.{Counts}
use Rattle.rg_tree.specs.declared.rows.ClassRow.{ClassRow}
use Rattle.rg_tree.specs.Phrases.{Symbol}
use Rattle.rg_tree.specs.Counts.{opened, closed, counted, one_sign, method_begins, main_begins, no_signs}
use Rattle.rg_tree.specs.Grammar.{text}
use Rattle.rg_tree.specs.Stuck.{Stops}
use Rattle.rg_tree.specs.Rows.Tables.{Tables, name_at}
use Rattle.rg_tree.specs.Rows.RowTrees.{class_of, classes_of}
use Rattle.rg_tree.specs.Rows.RowsExist.{IsNameIn}
use Rattle.rg_tree.specs.Keeps.{Keeps}
use Rattle.rg_tree.specs.Adds.{Means}
use Rattle.rg_reader.specs.Heads.{IsWithin, AreWithin}

-- the source, the tokens that are left, what is counted so far, and the tables that are built
pub record State : Type 0 where
  pub source : List ℕ
  pub rest : List Token
  pub counts : Counts
  pub tables : Tables

-- With these symbols expected, whatever is expected behind them, a reading stops with that code where the second state stands.
-- Want of memory says nothing.
abbrev pub StopsAt : List Symbol → State → Halt → State → Type 0
StopsAt ys a (halt.At f) b = (ss : List Symbol) → Stops (ys ++ ss) a.counts a.rest f b.rest
StopsAt ys a halt.Memory b = Unit {0}

-- so for a reading of the first state that expects these symbols
pub record Halts (ys : List Symbol) (a : State) (e : Halt) (b : State) : Type 0 where
  pub stops : StopsAt ys a e b

-- a token of that kind stands next, and these behind it, all within the source
pub record IsFirst (x : Kind) (a : State) (t : Token) (ts : List Token) : Type 0 where
  pub is : a.rest ≡ t ∷ ts
  pub kind : t.kind ≡ x
  pub within : IsWithin (length a.source) t
  pub others : AreWithin (length a.source) ts

-- the counts behind a token that no limit holds up
abbrev pub settled : Kind → Counts → Counts
settled (k.Mark s.CloseBrace) c = closed c
settled (k.Mark s.CloseParen) c = closed c
settled (k.Mark s.CloseBracket) c = closed c
settled (k.Word w.Def) c = method_begins c
settled (k.Word w.Main) c = main_begins c
settled _ c = c

-- no limit holds the token up
abbrev pub IsFree : Kind → Type 0
IsFree (k.Mark s.OpenBrace) = ⊥
IsFree (k.Mark s.OpenParen) = ⊥
IsFree (k.Mark s.OpenBracket) = ⊥
IsFree _ = Unit {0}

-- a token of that kind was expected as itself, and is passed
pub data Took : Kind → State → State → Type 0 where
  took : {x : Kind} {source : List ℕ} {t : Token} {ts : List Token} {c : Counts} {u : Tables}
      → IsFree x → t.kind ≡ x
      → Took x (record { source = source; rest = t ∷ ts; counts = c; tables = u })
      (record { source = source; rest = ts; counts = settled x c; tables = u })
  took_brace : {source : List ℕ} {t : Token} {ts : List Token} {c d : Counts} {u : Tables}
      → t.kind ≡ k.Mark s.OpenBrace → opened c ≡ Ok d
      → Took (k.Mark s.OpenBrace) (record { source = source; rest = t ∷ ts; counts = c; tables = u })
      (record { source = source; rest = ts; counts = d; tables = u })
  took_paren : {source : List ℕ} {t : Token} {ts : List Token} {c d : Counts} {u : Tables}
      → t.kind ≡ k.Mark s.OpenParen → opened c ≡ Ok d
      → Took (k.Mark s.OpenParen) (record { source = source; rest = t ∷ ts; counts = c; tables = u })
      (record { source = source; rest = ts; counts = d; tables = u })
  took_bracket : {source : List ℕ} {t : Token} {ts : List Token} {c d : Counts} {u : Tables}
      → t.kind ≡ k.Mark s.OpenBracket → opened c ≡ Ok d
      → Took (k.Mark s.OpenBracket) (record { source = source; rest = t ∷ ts; counts = c; tables = u })
      (record { source = source; rest = ts; counts = d; tables = u })

-- a sign of two operands of that kind is passed
pub data Signed (x : Kind) : State → State → Type 0 where
  signed : {source : List ℕ} {t : Token} {ts : List Token} {c d : Counts} {u : Tables}
      → t.kind ≡ x → one_sign c ≡ Ok d
      → Signed x (record { source = source; rest = t ∷ ts; counts = c; tables = u }) (record { source = source; rest = ts; counts = d; tables = u })

-- the tables grow, by no class
pub record Extends (old new : Tables) : Type 0 where
  pub keeps : Keeps old new
  pub classes : new.classes ≡ old.classes

-- a name that is used is passed, and has that number
pub data Used : State → ℕ → State → Type 0 where
  used : {source : List ℕ} {t : Token} {ts : List Token} {c : Counts} {u v : Tables} {n : ℕ}
      → t.kind ≡ k.Name → Means name_at IsNameIn v n (text source t) → Extends u v
      → Used (record { source = source; rest = t ∷ ts; counts = c; tables = u }) n (record { source = source; rest = ts; counts = c; tables = v })

-- a name that is declared is passed, and has that number
pub data Declared (y : Symbol) : State → ℕ → State → Type 0 where
  declared : {source : List ℕ} {t : Token} {ts : List Token} {c d : Counts} {u v : Tables} {n : ℕ}
      → t.kind ≡ k.Name → counted y c ≡ Ok d → Means name_at IsNameIn v n (text source t) → Extends u v
      → Declared y (record { source = source; rest = t ∷ ts; counts = c; tables = u }) n
      (record { source = source; rest = ts; counts = d; tables = v })

-- something is read, and has the row v
pub data Found {V A : Type 0} (reads : List ℕ → Counts → List Token → A → Counts → List Token → Type 0)
    (tree : Tables → V → A) (exists : Tables → V → Type 0) : State → V → State → Type 0 where
  found : {source : List ℕ} {ts us : List Token} {c d : Counts} {u v : Tables} {x : V} (a : A)
      → reads source c ts a d us → Means tree exists v x a → Extends u v
      → Found reads tree exists (record { source = source; rest = ts; counts = c; tables = u }) x
      (record { source = source; rest = us; counts = d; tables = v })

-- the tables grow, and nothing is read
pub data Kept : State → State → Type 0 where
  kept : {source : List ℕ} {ts : List Token} {c : Counts} {u v : Tables}
      → Extends u v
      → Kept (record { source = source; rest = ts; counts = c; tables = u }) (record { source = source; rest = ts; counts = c; tables = v })

-- the signs are counted anew
pub data Reset : State → State → Type 0 where
  reset : {source : List ℕ} {ts : List Token} {c : Counts} {u : Tables}
      → Reset (record { source = source; rest = ts; counts = c; tables = u })
      (record { source = source; rest = ts; counts = no_signs c; tables = u })

-- a class is put last, and nothing is read
pub data Classed : State → ClassRow → State → Type 0 where
  classed : {source : List ℕ} {ts : List Token} {c : Counts} {u v : Tables} {r : ClassRow}
      → classes_of v ≡ classes_of u ++ class_of u r ∷ []
      → Classed (record { source = source; rest = ts; counts = c; tables = u }) r (record { source = source; rest = ts; counts = c; tables = v })
