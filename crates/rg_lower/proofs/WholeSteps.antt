-- Classes, one after another.
use Rattle.std.proofs.Common.{◌≡◌, refl, ap, ℕ, suc, ◌+◌, List, [], ◌∷◌, length, drop, Some, slice_get, append_assoc, length-append, arith}
use Rattle.rg_tree.specs.Tree.{Member, field, method, Class}
use Rattle.rg_code.specs.declared.op.Op.{Op}
use Rattle.rg_base.specs.declared.value.Word.{Word}
use Rattle.rg_base.proofs.Callers.Lists.{drop-get}
use Rattle.rg_code.specs.Code.{Code, with_opening}
use Rattle.rg_code.specs.Lowering.{Methods, with_method, method_code, members_code, methods_code, opening_of}
use Rattle.rg_lower.specs.Inner.Methods.{with_body, with_member, with_methods, with_openings}

with_methods-then : (c : Code) (given : ℕ) (body : List Op) (others : Methods) →
    with_methods (with_body c given body) others ≡ with_methods c (with_method (length c.ops) given body others)
with_methods-then c given body others = simp append_assoc refl

-- one more member
pub member-step : (classes : List Class) (k : ℕ) (m : Member) (ms : List Member) (c next : Code) (go : ℕ → Methods) →
    next ≡ with_member classes k m c →
    with_methods next (members_code classes (length next.ops) k ms go) ≡ with_methods c (members_code classes (length c.ops) k (m ∷ ms) go)
member-step classes k (field f) ms c next go n = rw n refl
member-step classes k (method m) ms c next go n =
    let body = method_code classes (length c.ops) k m in
    rw (n, length-append c.ops body) (with_methods-then c (suc (length m.params)) body _)

-- one more class
pub class-step : (classes : List Class) (i : ℕ) (k : Class) (c next : Code) → slice_get classes i ≡ Some k →
    ((go : ℕ → Methods) → with_methods next (go (length next.ops)) ≡ with_methods c (members_code classes (length c.ops) i k.members go)) →
    with_methods next (methods_code classes (length next.ops) (i + 1) (drop (i + 1) classes))
    ≡ with_methods c (methods_code classes (length c.ops) i (drop i classes))
class-step classes i k c next g n =
    let s : i + 1 ≡ suc i = omega arith in
    rw (s, drop-get classes i k g) (n (λ behind. methods_code classes behind (suc i) (drop (suc i) classes)))

-- one more opening
pub opening-step : (classes : List Class) (i : ℕ) (k : Class) (c next : Code) → slice_get classes i ≡ Some k →
    next ≡ with_opening c (opening_of k.element k.members) →
    with_openings next (drop (i + 1) classes) ≡ with_openings c (drop i classes)
opening-step classes i k c next g n =
    let s : i + 1 ≡ suc i = omega arith in
    rw (n, s, drop-get classes i k g) (ap (λ (o : List (List Word)). record c { openings = o })
    (append_assoc c.openings (opening_of k.element k.members ∷ []) _))
