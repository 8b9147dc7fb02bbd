use Rattle.std.proofs.Common.{length, sym, subst}
use Rattle.std.proofs.lemmas.Option.{slice_get_within}
use Rattle.std.proofs.lemmas.Result.{err_from_is_err_and}
use Rattle.rg_code.specs.Shapes.{IsMark}
use Rattle.rg_module.specs.Parts.{Parts}
use Rattle.rg_module.proofs.Filling.{mapped, unmapped}
use Rattle.rg_module.proofs.parts.Module.set_map.Goals as goal

pub returns-clause-ok : goal.returns-clause-ok
returns-clause-ok c =
    let s = c.self.inside in
    let mark = subst (λ (p : Parts). IsMark p.code.ops c.args.at) (sym c.self.view_is) c.requires in
    let lt = slice_get_within s.code.ops c.args.at _ mark.1 in
    mapped s.manager s.classes.items s.methods.items s.code s.maps.items c.pad.new.maps.items c.args.at c.args.map _ c.self.view_is
    (c.pad.ensures.same (length s.code.ops) lt c.self.invariant) c.in_ok-pad.ensures.there

pub returns-in_err-pad-clause-err : goal.returns-in_err-pad-clause-err
returns-in_err-pad-clause-err c =
    let s = c.self.inside in
    let mark = subst (λ (p : Parts). IsMark p.code.ops c.args.at) (sym c.self.view_is) c.requires in
    let lt = slice_get_within s.code.ops c.args.at _ mark.1 in
    let p = err_from_is_err_and c.from_residual.result c.from_residual.ensures.1 in
    rw p.1 (unmapped s.manager s.classes.items s.methods.items s.code s.maps.items c.pad.new.maps.items _ c.self.view_is
    (c.pad.ensures.same (length s.code.ops) lt c.self.invariant))
