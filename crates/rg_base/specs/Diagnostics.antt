-- The codes and words of the diagnostics, and the text of a fault (docs/language.md, "Diagnostics").
use Rattle.std.specs.Prelude.{ℕ, List, [], ◌∷◌, ◌++◌, codes, decimal}
use Rattle.rg_base.specs.declared.fault.Code.{Code}
use Rattle.rg_base.specs.declared.fault.Code.TheVariants.{Byte, Number, Name, Syntax, Nesting, Limit, Unknown, Duplicate, BadType, Mismatch}
use Rattle.rg_base.specs.declared.fault.Code.TheVariants.{Unavailable, Capability, OutsideWindow, Loop, Arity, IsoField, Return, CallTarget}
use Rattle.rg_base.specs.declared.fault.Code.TheVariants.{Module, Unverified, Plan, Schedule, Image}
use Rattle.rg_base.specs.declared.fault.Fault.{Fault}

-- a code with its word
abbrev pub code_text : Code → List ℕ
code_text Byte = codes "E01 byte"
code_text Number = codes "E02 number"
code_text Name = codes "E03 name"
code_text Syntax = codes "E10 syntax"
code_text Nesting = codes "E11 nesting"
code_text Limit = codes "E12 limit"
code_text Unknown = codes "E20 unknown"
code_text Duplicate = codes "E21 duplicate"
code_text BadType = codes "E22 bad type"
code_text Mismatch = codes "E30 mismatch"
code_text Unavailable = codes "E31 unavailable"
code_text Capability = codes "E32 capability"
code_text OutsideWindow = codes "E33 outside window"
code_text Loop = codes "E34 loop"
code_text Arity = codes "E35 arity"
code_text IsoField = codes "E36 iso field"
code_text Return = codes "E37 return"
code_text CallTarget = codes "E38 call target"
code_text Module = codes "E91 module"
code_text Unverified = codes "E92 unverified"
code_text Plan = codes "E93 plan"
code_text Schedule = codes "E94 schedule"
code_text Image = codes "E95 image"

-- a fault, with its line and the end of the line
abbrev pub fault_text : Fault → List ℕ
fault_text f = code_text f.code ++ codes " at line " ++ decimal f.line ++ 10 ∷ []
