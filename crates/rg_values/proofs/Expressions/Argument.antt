-- Values behind those that are done.
use Rattle.std.proofs.Common.{List, ◌++◌, Result, Ok, Err}
use Rattle.rg_base.specs.declared.value.Val.{Val}
use Rattle.rg_base.specs.declared.outcome.Trap.{Trap}

abbrev pub values_behind : List Val → Result (List Val) Trap → Result (List Val) Trap
values_behind done (Ok vs) = Ok (done ++ vs)
values_behind done (Err kind) = Err kind
