-- A program without the lines that no mark has is the program, up to lines.
use Rattle.std.proofs.Common.{◌≡◌, refl, sym, ap, ◌∙◌, List, [], ◌∷◌, map}
use Rattle.rg_tree.specs.Tree.{Member, field, method, Class, Tree}
use Rattle.rg_tree.specs.Lineless.{member_lineless, class_lineless, lineless}
use Rattle.rg_lines.specs.Unlined.{member_unlined, classes_unlined, unlined, SameButLines}

members_by : (ms : List Member) → map member_lineless (map member_unlined ms) ≡ map member_lineless ms
members_by [] = refl
members_by (field f ∷ ms) = ap (λ others. member_lineless (field f) ∷ others) (members_by ms)
members_by (method m ∷ ms) = ap (λ others. member_lineless (method m) ∷ others) (members_by ms)

classes_by : (cs : List Class) → map class_lineless (classes_unlined cs) ≡ map class_lineless cs
classes_by [] = refl
classes_by (c ∷ cs) =
    let f : List Member → List Class → List Class = λ ms others. record c { members = ms; line = 0 } ∷ others in
    ap (λ ms. f ms (map class_lineless (classes_unlined cs))) (members_by c.members) ∙ ap (f (map member_lineless c.members)) (classes_by cs)

lineless-unlined : (t : Tree) → lineless (unlined t) ≡ lineless t
lineless-unlined t =
    let f : List Class → Tree = λ cs. record (lineless t) { classes = cs } in ap f (classes_by t.classes)

pub same-up_to_lines : (t u : Tree) → SameButLines t u → lineless t ≡ lineless u
same-up_to_lines t u h = sym (lineless-unlined t) ∙ (ap lineless h ∙ lineless-unlined u)
