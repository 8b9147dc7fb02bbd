-- The bodies of a program without the lines that no mark has have as many names as those of the program.
use Rattle.std.proofs.Common.{List, [], ◌∷◌, map, All, subst}
use Rattle.std.specs.List.{AllByRecursion}
use Rattle.std.proofs.lemmas.List.Elements.{recursion_from_All, All-from_recursion}
use Rattle.rg_tree.specs.Tree.{Member, field, method, Class, Tree}
use Rattle.rg_rules.specs.Names.{HasFewNames, FewNames}
use Rattle.rg_lines.specs.Unlined.{member_unlined, classes_unlined, unlined, SameButLines}

members_to : (ms : List Member) → AllByRecursion HasFewNames ms → AllByRecursion HasFewNames (map member_unlined ms)
members_to [] h = h
members_to (field f ∷ ms) h = (h.0, members_to ms h.1)
members_to (method m ∷ ms) h = (h.0, members_to ms h.1)

members_from : (ms : List Member) → AllByRecursion HasFewNames (map member_unlined ms) → AllByRecursion HasFewNames ms
members_from [] h = h
members_from (field f ∷ ms) h = (h.0, members_from ms h.1)
members_from (method m ∷ ms) h = (h.0, members_from ms h.1)

-- the methods of a class have few names
abbrev ClassHasFew : Class → Type 0
ClassHasFew c = All HasFewNames c.members

classes_to : (cs : List Class) → AllByRecursion ClassHasFew cs → AllByRecursion ClassHasFew (classes_unlined cs)
classes_to [] h = h
classes_to (c ∷ cs) h = (
  All-from_recursion HasFewNames (map member_unlined c.members) (members_to c.members (recursion_from_All HasFewNames c.members h.0)),
  classes_to cs h.1,
)

classes_from : (cs : List Class) → AllByRecursion ClassHasFew (classes_unlined cs) → AllByRecursion ClassHasFew cs
classes_from [] h = h
classes_from (c ∷ cs) h = (
  All-from_recursion HasFewNames c.members (members_from c.members (recursion_from_All HasFewNames (map member_unlined c.members) h.0)),
  classes_from cs h.1,
)

names_to : (t : Tree) → FewNames t → FewNames (unlined t)
names_to t n = record {
  methods = All-from_recursion ClassHasFew (classes_unlined t.classes) (classes_to t.classes (recursion_from_All ClassHasFew t.classes n.methods));
  main = n.main;
}

names_from : (t : Tree) → FewNames (unlined t) → FewNames t
names_from t n = record {
  methods = All-from_recursion ClassHasFew t.classes (classes_from t.classes (recursion_from_All ClassHasFew (classes_unlined t.classes) n.methods));
  main = n.main;
}

pub same-names : (t u : Tree) → SameButLines t u → FewNames t → FewNames u
same-names t u h n = names_from u (subst FewNames h (names_to t n))
