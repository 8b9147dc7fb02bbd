-- What a name is declared as, as a symbol of the table (docs/language.md, "Grammar").
use Rattle.rg_reader.specs.declared.reader.limits.Role.{Role}
use Rattle.rg_reader.specs.declared.reader.limits.Role.TheVariants as role
use Rattle.rg_tree.specs.Phrases.{Symbol, class_name, field_name, method_name, param_name, local_name}

-- the symbol of a declared name
abbrev pub symbol_of : Role → Symbol
symbol_of role.Class = class_name
symbol_of role.Field = field_name
symbol_of role.Method = method_name
symbol_of role.Param = param_name
symbol_of role.Local = local_name
