-- How contracts see a program: by its tables (docs/language.md, "The tree").
use Rattle.rg_tree.specs.declared.program.Program.TheInside.{Inside}
use Rattle.rg_tree.specs.Rows.Tables.{Tables}

-- the tables of a program
abbrev pub tables_of : Inside → Tables
tables_of p = record {
  names = p.names;
  numbers = p.numbers.items;
  params = p.params.items;
  members = p.members.items;
  classes = p.classes.items;
  stmts = p.stmts.items;
  exprs = p.exprs.items;
  manager = p.manager;
  body = p.body;
  line = p.line;
}
