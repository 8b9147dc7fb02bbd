-- Instructions as the table of the source has them (docs/language.md, "Instructions and lowering"). No public clause cites this module.
use Rattle.rg_code.specs.declared.operands.Row.{Row}
use Rattle.rg_code.specs.Operands.{Form, form, listed}

-- the form that a row has
abbrev pub shown : Row → Form
shown r = form r.number r.name.now (listed r.operands)
