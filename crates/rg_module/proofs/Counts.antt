-- A module that some bytes spell has as many classes and methods in its code as a count of 32 bits says; for callers.
use Rattle.std.proofs.Common.{◌≡◌, ◌<◌, ◌^◌, ◌∙◌, ℕ, ◌+◌, suc, List, [], ◌∷◌, length, drop, refl, sym, ap, subst}
use Rattle.std.proofs.lemmas.List.{length-map}
use Rattle.rg_code.specs.declared.op.Op.{Op}
use Rattle.rg_code.specs.Code.{Code}
use Rattle.rg_spell.specs.declared.rows.Head.{Head}
use Rattle.rg_module.specs.Parts.{Parts}
use Rattle.rg_module.specs.Follows.{body, opening, entries}
use Rattle.rg_module.specs.Spelling.{IsSpelt}

-- a method has a head
pub entries-length : (at : ℕ) (hs : List Head) (ops : List Op) → length (entries at hs ops) ≡ length hs
entries-length at [] ops = refl
entries-length at (h ∷ hs) ops = ap suc (entries-length (at + length (body ops)) hs (drop (length (body ops)) ops))

pub few-openings : (m : Parts) → IsSpelt m → length m.code.openings < 2 ^ 32
few-openings m spelt =
    let same = ap (λ (c : Code). length c.openings) spelt.code ∙ length-map m.classes opening in
    subst (λ (n : ℕ). n < 2 ^ 32) (sym same) spelt.classes.0

pub few-entries : (m : Parts) → IsSpelt m → length m.code.entries < 2 ^ 32
few-entries m spelt =
    let ops = m.code.ops in
    let main = length (body ops) in
    let same = ap (λ (c : Code). length c.entries) spelt.code ∙ entries-length main m.methods (drop main ops) in
    subst (λ (n : ℕ). n < 2 ^ 32) (sym same) spelt.methods.0
