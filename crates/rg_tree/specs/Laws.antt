-- The laws of the grammar and of canonical text (docs/language.md, "Grammar").
use Rattle.std.specs.Prelude.{ℕ, ◌≡◌, List, Ok}
use Rattle.rg_base.specs.declared.token.Token.{Token}
use Rattle.rg_base.specs.declared.fault.Code.{Code}
use Rattle.rg_base.specs.Tokens.{cut}
use Rattle.rg_tree.specs.Tree.{Tree}
use Rattle.rg_tree.specs.Canonical.{canon}
use Rattle.rg_tree.specs.Grammar.{Spells}
use Rattle.rg_tree.specs.Lineless.{lineless}
use Rattle.rg_tree.specs.Stuck.{Stuck}

-- the tokens of a source spell at most one tree
abbrev pub SpellsOne : Type 0
SpellsOne = (source : List ℕ) (a b : Tree) (ts : List Token) → Spells source a ts → Spells source b ts → a ≡ b

-- tokens that spell a tree are nowhere stuck
abbrev pub SpeltIsNotStuck : Type 0
SpeltIsNotStuck = (source : List ℕ) (a : Tree) (ts at : List Token) (f : Code) → Spells source a ts → Stuck ts f at → ⊥

-- tokens are stuck at one place at most, with one code
abbrev pub StuckOnce : Type 0
StuckOnce = (ts a b : List Token) (f e : Code) → Stuck ts f a → Stuck ts e b → (f ≡ e) × (a ≡ b)

-- the canonical text of a tree is cut into tokens that spell it, up to lines, and is its own canonical text
pub record ParsesBack (r : Tree) : Type 0 where
  pub tokens : List Token
  pub tree : Tree
  pub is_cut : cut (canon r) ≡ Ok tokens
  pub is_spelt : Spells (canon r) tree tokens
  pub is_same : lineless tree ≡ lineless r
  pub is_settled : canon tree ≡ canon r

-- each tree that some source spells parses back from its canonical text
abbrev pub CanonParsesBack : Type 0
CanonParsesBack = (source : List ℕ) (r : Tree) (ts : List Token) → cut source ≡ Ok ts → Spells source r ts → ParsesBack r
