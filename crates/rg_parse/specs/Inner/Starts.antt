-- By which row of the table a reading goes on, from the next token (docs/language.md, "Grammar").
use Rattle.std.specs.Prelude.{Option, Some}
use Rattle.rg_base.specs.declared.words.Keyword.TheVariants as w
use Rattle.rg_base.specs.declared.token.Kind.{Kind}
use Rattle.rg_base.specs.declared.token.Kind.TheVariants as k
use Rattle.rg_parse.specs.declared.starts.StmtStart.{StmtStart}
use Rattle.rg_parse.specs.declared.starts.StmtStart.TheVariants as stmt
use Rattle.rg_parse.specs.declared.starts.RightStart.{RightStart}
use Rattle.rg_parse.specs.declared.starts.RightStart.TheVariants as right
use Rattle.rg_parse.specs.declared.starts.NewStart.{NewStart}
use Rattle.rg_parse.specs.declared.starts.NewStart.TheVariants as new

-- how a statement begins
abbrev pub stmt_start : Option Kind → StmtStart
stmt_start (Some (k.Word w.Let)) = stmt.Let
stmt_start (Some k.Name) = stmt.Assign
stmt_start (Some (k.Word w.SelfWord)) = stmt.Assign
stmt_start (Some (k.Word w.Call)) = stmt.Call
stmt_start (Some (k.Word w.Swap)) = stmt.Swap
stmt_start (Some (k.Word w.If)) = stmt.If
stmt_start (Some (k.Word w.While)) = stmt.While
stmt_start (Some (k.Word w.Enter)) = stmt.Enter
stmt_start (Some (k.Word w.Print)) = stmt.Print
stmt_start (Some (k.Word w.Collect)) = stmt.Collect
stmt_start (Some (k.Word w.Return)) = stmt.Return
stmt_start _ = stmt.Nothing

-- how a right side begins
abbrev pub right_start : Option Kind → RightStart
right_start (Some (k.Word w.New)) = right.New
right_start (Some (k.Word w.Freeze)) = right.Freeze
right_start (Some (k.Word w.Merge)) = right.Merge
right_start (Some (k.Word w.Read)) = right.Read
right_start (Some (k.Word w.More)) = right.More
right_start (Some (k.Word w.Call)) = right.Call
right_start _ = right.Value

-- what stands behind new
abbrev pub new_start : Option Kind → NewStart
new_start (Some k.Name) = new.Plain
new_start (Some (k.Word w.Tmp)) = new.Tmp
new_start (Some (k.Word w.Iso)) = new.Iso
new_start _ = new.Nothing
