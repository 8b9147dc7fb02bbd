-- Headings as the code keeps them, and headings that come behind others (docs/language.md, "Instructions and lowering"). No public clause
-- cites this module.
use Rattle.std.specs.Prelude.{List, ◌++◌, codes, drop, length}
use Rattle.rg_tree.specs.Tree.{Name}
use Rattle.rg_code.specs.declared.code.Entry.{Entry}
use Rattle.rg_code.specs.declared.headings.Heading as kept
use Rattle.rg_code.specs.Listing.{Heading, headings}

-- the name of a method with its class
abbrev pub full_name : Name → Name → Name
full_name c m = c ++ codes "." ++ m

-- the heading that is kept so
abbrev pub shown : kept.Heading → Heading
shown h = record { at = h.at; name = full_name h.class.now h.method.now }

-- the headings of the first methods, and behind them those of the methods that have these names
abbrev pub with_headings : List Entry → (done : List Heading) → List Name → List Heading
with_headings es done xs = done ++ headings (drop (length done) es) xs
