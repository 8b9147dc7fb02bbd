-- The canonical text of a program has no lines.
use Rattle.std.proofs.Common.{◌≡◌, refl, sym, ap, ◌∙◌, List, [], ◌∷◌, ◌++◌, map, flat_map, codes, Option, Some, None}
use Rattle.rg_tree.specs.Tree.{Ty, Member, field, method, Class, Tree}
use Rattle.rg_tree.specs.Canonical.{line_of, block_text, manager_text, member_text, class_word, rest_text, class_text, canon}
use Rattle.rg_lines.specs.Unlined.{member_unlined, classes_unlined, unlined, SameButLines}

members_by : (ms : List Member) → flat_map member_text (map member_unlined ms) ≡ flat_map member_text ms
members_by [] = refl
members_by (field f ∷ ms) = ap (λ text. member_text (field f) ++ text) (members_by ms)
members_by (method m ∷ ms) = ap (λ text. member_text (method m) ++ text) (members_by ms)

rest_by : (o : Option Ty) (ms : List Member) → rest_text o (map member_unlined ms) ≡ rest_text o ms
rest_by None ms = ap (λ text. codes " {" ++ 10 ∷ [] ++ text ++ line_of 0 (codes "}")) (members_by ms)
rest_by (Some t) ms = refl

classes_by : (cs : List Class) → flat_map class_text (classes_unlined cs) ≡ flat_map class_text cs
classes_by [] = refl
classes_by (c ∷ cs) =
    ap (λ text. (class_word c.is_tmp ++ c.name ++ text) ++ flat_map class_text (classes_unlined cs)) (rest_by c.element c.members)
    ∙ ap (λ text. class_text c ++ text) (classes_by cs)

canon-unlined : (t : Tree) → canon (unlined t) ≡ canon t
canon-unlined t =
    ap (λ text. text ++ line_of 0 (codes "main " ++ manager_text t.manager ++ codes " {") ++ block_text 1 t.body ++ line_of 0 (codes "}"))
    (classes_by t.classes)

pub same-text : (t u : Tree) → SameButLines t u → canon t ≡ canon u
same-text t u h = sym (canon-unlined t) ∙ (ap canon h ∙ canon-unlined u)
