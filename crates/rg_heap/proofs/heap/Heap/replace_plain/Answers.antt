use Rattle.std.proofs.Common.{◌⊎◌, ◌≡◌, ◌<◌, ◌∙◌, ℕ, Bool, true, false, ap, refl, sym, subst}
use Rattle.rg_base.specs.declared.value.Word.{Word}
use Rattle.rg_cells.specs.Replacing.{ReplacesPlain}
use Rattle.rg_cells.specs.Table.{Table, body_at, width, with_field}
use Rattle.rg_regions.specs.Grove.{Grove}
use Rattle.rg_regions.proofs.Callers.Told.{field_within}
use Rattle.rg_heap.specs.Parts.{Parts}
use Rattle.rg_heap.specs.Writes.{Stays, InActive}
use Rattle.rg_heap.specs.Ends.{IsTemp}
use Rattle.rg_heap.proofs.Marked.{grove_replaced, may_write}
use Rattle.rg_heap.proofs.heap.Heap.replace_plain.Goals as goal

pub invariant_of-self : goal.invariant_of-self
invariant_of-self c =
    let s = c.self.inside in
    let P : Parts → Type 0 = λ (p : Parts). c.args.index < width (body_at p.cells.heap c.args.slot)
    → InActive p.cells.heap p.regions c.args.frames.now c.args.slot
    (λ n. Stays p.cells.heap n c.args.w) ⊎ IsTemp p.cells.heap c.args.slot in
    grove_replaced c.replace_plain.result s.cells c.replace_plain.new.self s.regions c.top.result.region c.args.slot c.args.index c.args.w
    c.self.invariant c.replace_plain.ensures c.requires.plain (λ l.
    may_write s.cells.heap s.regions c.args.frames.now c.top.result c.args.slot c.args.w c.top.ensures
    (subst P (sym c.self.view_is) c.requires.place l))

put-of : (r : Bool) (old new : Table) (slot k : ℕ) (w : Word) → ReplacesPlain r old new slot k w → r ≡ true
    → (k < width (body_at old.heap slot)) × (new.heap ≡ with_field old.heap slot k w)
put-of true old new slot k w p e = (field_within old.heap slot k p.0 p.1, ap (λ (z : Table). z.heap) p.3)
put-of false old new slot k w p e = absurd cc

lacks-of : (r : Bool) (old new : Table) (slot k : ℕ) (w : Word) → ReplacesPlain r old new slot k w → r ≡ false → new ≡ old
lacks-of true old new slot k w p e = absurd cc
lacks-of false old new slot k w p e = p

pub returns-clause-put : goal.returns-clause-put
returns-clause-put c =
    let s = c.self.inside in
    let P : Parts → Type 0 = λ (p : Parts). c.replace_plain.result ≡ true → (c.args.index < width (body_at p.cells.heap c.args.slot))
    × (c.replace_plain.new.self.heap ≡ with_field p.cells.heap c.args.slot c.args.index c.args.w) in
    subst P c.self.view_is (put-of c.replace_plain.result s.cells c.replace_plain.new.self c.args.slot c.args.index c.args.w c.replace_plain.ensures)

pub returns-clause-lacks : goal.returns-clause-lacks
returns-clause-lacks c = λ e.
    let s = c.self.inside in
    let same = lacks-of c.replace_plain.result s.cells c.replace_plain.new.self c.args.slot c.args.index c.args.w c.replace_plain.ensures e in
    ap (λ (z : Table). record { cells = z; regions = s.regions }) same ∙ c.self.view_is
