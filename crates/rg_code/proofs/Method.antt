-- The methods among members. For callers.
use Rattle.std.proofs.Common.{◌≡◌, List, [], ◌∷◌, filter_map, refl, ap}
use Rattle.rg_tree.specs.Tree.{Member, field, method, Method}
use Rattle.rg_rules.specs.Types.{method_member}
use Rattle.rg_code.specs.Lowering.{methods_among}

pub methods_among-is : (ms : List Member) → methods_among ms ≡ filter_map method_member ms
methods_among-is [] = refl
methods_among-is (field f ∷ ms) = methods_among-is ms
methods_among-is (method m ∷ ms) = ap (λ (rest : List Method). m ∷ rest) (methods_among-is ms)
