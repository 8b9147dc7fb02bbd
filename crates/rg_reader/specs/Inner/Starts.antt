-- By which row of the table a reading goes on, from the next token (docs/language.md, "Grammar").
use Rattle.std.specs.Prelude.{Option, Some}
use Rattle.rg_base.specs.declared.words.Keyword.TheVariants as w
use Rattle.rg_base.specs.declared.words.Sign.TheVariants as s
use Rattle.rg_base.specs.declared.token.Kind.{Kind}
use Rattle.rg_base.specs.declared.token.Kind.TheVariants as k
use Rattle.rg_reader.specs.declared.reader.starts.TypeStart.{TypeStart}
use Rattle.rg_reader.specs.declared.reader.starts.TypeStart.TheVariants as type
use Rattle.rg_reader.specs.declared.reader.starts.BaseStart.{BaseStart}
use Rattle.rg_reader.specs.declared.reader.starts.BaseStart.TheVariants as base
use Rattle.rg_reader.specs.declared.reader.starts.PrimaryStart.{PrimaryStart}
use Rattle.rg_reader.specs.declared.reader.starts.PrimaryStart.TheVariants as primary

-- how a type begins
abbrev pub type_start : Option Kind → TypeStart
type_start (Some (k.Word w.Int)) = type.Int
type_start (Some (k.Word w.Bool)) = type.Bool
type_start (Some (k.Word w.Mut)) = type.Ref
type_start (Some (k.Word w.Tmp)) = type.Ref
type_start (Some (k.Word w.Paused)) = type.Ref
type_start (Some (k.Word w.Imm)) = type.Ref
type_start (Some (k.Word w.Iso)) = type.Ref
type_start _ = type.Nothing

-- how a path begins
abbrev pub base_start : Option Kind → BaseStart
base_start (Some k.Name) = base.Name
base_start (Some (k.Word w.SelfWord)) = base.SelfWord
base_start _ = base.Nothing

-- how a primary begins
abbrev pub primary_start : Option Kind → PrimaryStart
primary_start (Some (k.Number z)) = (primary.Number z)
primary_start (Some (k.Word w.True)) = primary.True
primary_start (Some (k.Word w.False)) = primary.False
primary_start (Some (k.Word w.Nil)) = primary.Nil
primary_start (Some (k.Mark s.OpenParen)) = primary.Paren
primary_start (Some (k.Word w.Size)) = primary.Size
primary_start (Some k.Name) = primary.Path
primary_start (Some (k.Word w.SelfWord)) = primary.Path
primary_start _ = primary.Nothing
