-- The module of a program that a source spells is one that bytes spell, where these are few enough to be counted.
use Rattle.std.proofs.Common.{refl, ℕ, ◌<◌, ◌^◌, List, [], ◌∷◌, length, All, arith}
use Rattle.std.proofs.lemmas.List.Elements.{All-from_recursion, recursion_from_All}
use Rattle.std.specs.List.{AllByRecursion}
use Rattle.rg_tree.specs.Tree.{Tree}
use Rattle.rg_rules.specs.Acceptance.{Accepted}
use Rattle.rg_limits.specs.Limits.{IsWithinLimits}
use Rattle.rg_code.specs.declared.op.Op.{Op}
use Rattle.rg_code.specs.declared.op.Op.TheVariants as i
use Rattle.rg_code.specs.declared.operands.Operand.{Operand}
use Rattle.rg_code.specs.declared.operands.Operand.TheVariants as p
use Rattle.rg_code.specs.Operands.{operands_of}
use Rattle.rg_code.specs.Lowering.{block_code, main_code, methods_code, lowered}
use Rattle.rg_spell.specs.Spelling.{FitsOperand, FitsOp}
use Rattle.rg_module.specs.Spelling.{spelling, IsSpelt}
use Rattle.rg_build.specs.Inner.Near.{IsNearOperand, IsNear}
use Rattle.rg_build.specs.Maps.{maps_of}
use Rattle.rg_build.specs.ModuleOf.{heads_of, module_of}
use Rattle.rg_build.proofs.Spelt.{zip-length, heads-length, module-spelt, ops-near}
use Rattle.rg_packed.proofs.Lined.{IsLined}
use Rattle.rg_packed.proofs.Numbers.{FitsAside, AreAside, AreBounded, aside-then, mark-aside, block-aside, methods-aside}
use Rattle.rg_packed.proofs.Bounds.{class-few, fields-few, called-few, shapes-fit, parts-short}

-- Instructions whose slots and addresses are near, and whose other numbers have spellings

operand-fits : (end : ℕ) (o : Operand) → end < 2 ^ 32 → IsNearOperand end o → FitsAside o → FitsOperand o
operand-fits end (p.Line n) l h g = g
operand-fits end (p.Int z) l h g = g
operand-fits end (p.Bool b) l h g = tt
operand-fits end (p.Slot s) l h g = h
operand-fits end (p.From s) l h g = h
operand-fits end (p.Field k) l h g = g
operand-fits end (p.Class c) l h g = g
operand-fits end (p.Method m) l h g = g
operand-fits end (p.Address t) l h g = omega (arith, l, h)
operand-fits end (p.Manager m) l h g = tt

operands-fit : (end : ℕ) (os : List Operand) → end < 2 ^ 32 → AllByRecursion (IsNearOperand end) os → AllByRecursion FitsAside os →
    AllByRecursion FitsOperand os
operands-fit end [] l h g = tt
operands-fit end (o ∷ os) l h g = (operand-fits end o l h.0 g.0, operands-fit end os l h.1 g.1)

ops-fit : (end : ℕ) (os : List Op) → end < 2 ^ 32 → AllByRecursion (IsNear end) os → AreAside os → AllByRecursion FitsOp os
ops-fit end [] l h g = tt
ops-fit end (o ∷ os) l h g = (operands-fit end (operands_of o) l h.0 g.0, ops-fit end os l h.1 g.1)

module _ (t : Tree) (a : Accepted t) (w : IsWithinLimits t) (most : ℕ) (lines : most < 2 ^ 64) (lined : IsLined most t)
    (short : length (spelling (module_of t)) < 2 ^ 32) where
  heads-few : length (heads_of t.classes) < 2 ^ 32
  heads-few = let s = parts-short (module_of t) in let h = s.methods in omega (arith, h, short)

  ops-few : length (lowered t).ops < 2 ^ 32
  ops-few =
      let s = parts-short (module_of t) in
      let e = zip-length (lowered t).ops (maps_of t) in
      let h = s.rows in
      omega (arith, e, h, short)

  bounded : AreBounded t.classes most
  bounded = record {
    classes = λ x. class-few t.classes x w.parts.classes;
    fields = λ c. fields-few t.classes c w.parts.members;
    methods = λ c x. called-few t.classes c x heads-few;
    lines = lines;
  }

  code-aside : AreAside (lowered t).ops
  code-aside =
      let cs = t.classes in
      let main = main_code t in
      let body = block_code cs [] 0 t.body in
      let last = i.Mark t.line ∷ i.End 0 ∷ i.Halt ∷ [] in
      aside-then main (methods_code cs (length main) 0 cs).ops
      (aside-then body last (block-aside cs most bounded [] 0 t.body w.numbers.main lined.body)
      (mark-aside cs most bounded t.line lined.line, ((tt, tt), (tt, tt))))
      (methods-aside cs most bounded (length main) 0 cs w.numbers.methods lined.classes)

  code-fits : All FitsOp (lowered t).ops
  code-fits =
      let ops = (lowered t).ops in
      let near = recursion_from_All (IsNear (length ops)) ops (ops-near t (lowered t) refl w.names) in
      All-from_recursion FitsOp ops (ops-fit (length ops) ops ops-few near code-aside)

  pub spelt-module : IsSpelt (module_of t)
  spelt-module =
      let heads = heads-length t a in
      let few = heads-few in
      let classes = w.parts.classes in
      module-spelt t (module_of t) refl a (record {
        names = w.names;
        classes = omega (arith, classes);
        methods = omega (arith, heads, few);
        ops = ops-few;
        shapes = shapes-fit t.classes most w.parts.classes lined.classes w.parts.members;
        fits = code-fits;
      })
