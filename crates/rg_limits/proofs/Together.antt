-- What the parts that are tested say together.
use Rattle.std.proofs.Common.{suc, ◌≤◌, Bool as Truth, true, false, List, [], ◌∷◌, All, arith}
use Rattle.std.specs.List.{AllByRecursion}
use Rattle.std.proofs.lemmas.List.Elements.{recursion_from_All, All-from_recursion}
use Rattle.rg_base.specs.declared.limits.TheConstants.{BRACKETS, BODY_NAMES}
use Rattle.rg_tree.specs.Tree.{stmt, StmtKind, declare, assign, assign_element, call, swap, branch, while, enter, print, collect, return}
use Rattle.rg_tree.specs.Tree.{Else, no_else, otherwise, Block, empty, then as next, Member, field, method, Class, Tree}
use Rattle.rg_rules.specs.Names.{block_names, HasFewNames}
use Rattle.rg_limits.specs.Parts.{HasFewParts}
use Rattle.rg_limits.specs.Opens.{block_opens, members_opens, classes_opens}
use Rattle.rg_limits.specs.Each.{HoldsWithin, HoldsBehind, HoldsInBlock, HoldsInMember}
use Rattle.rg_limits.specs.Signs.{HasFewOwnSigns}
use Rattle.rg_limits.specs.Numbers.{HasOwnSmall}
use Rattle.rg_limits.specs.Limits.{IsWithinLimits}
use Rattle.rg_limits.specs.Telling.{Tells}
use Rattle.rg_limits.specs.Inner.Fine.{IsFine, IsMemberFine, IsClassFine}

-- What holds of each statement says less, or two things at once

module _ (P Q : StmtKind → Type 0) (less : (k : StmtKind) → P k → Q k) where
  mutual
    within-less : (k : StmtKind) → HoldsWithin P k → HoldsWithin Q k
    within-less (declare x t r) h = h
    within-less (assign p r) h = h
    within-less (assign_element q e r) h = h
    within-less (call c) h = h
    within-less (swap y p) h = h
    within-less (branch e b other) h = (block-less b h.0, behind-less other h.1)
    within-less (while e b) h = block-less b h
    within-less (enter p z b giving) h = block-less b h
    within-less (print e) h = h
    within-less collect h = h
    within-less (return e) h = h

    behind-less : (o : Else) → HoldsBehind P o → HoldsBehind Q o
    behind-less no_else h = h
    behind-less (otherwise b) h = block-less b h

    block-less : (b : Block) → HoldsInBlock P b → HoldsInBlock Q b
    block-less empty h = h
    block-less (next (stmt line k) b) h = ((less k h.0.0, within-less k h.0.1), block-less b h.1)

  member-less : (m : Member) → HoldsInMember P m → HoldsInMember Q m
  member-less (field f) h = h
  member-less (method m) h = block-less m.body h

module _ (P Q : StmtKind → Type 0) where
  -- both of a statement
  abbrev Both : StmtKind → Type 0
  Both k = P k × Q k

  mutual
    within-both : (k : StmtKind) → HoldsWithin P k → HoldsWithin Q k → HoldsWithin Both k
    within-both (declare x t r) h i = h
    within-both (assign p r) h i = h
    within-both (assign_element q e r) h i = h
    within-both (call c) h i = h
    within-both (swap y p) h i = h
    within-both (branch e b other) h i = (block-both b h.0 i.0, behind-both other h.1 i.1)
    within-both (while e b) h i = block-both b h i
    within-both (enter p z b giving) h i = block-both b h i
    within-both (print e) h i = h
    within-both collect h i = h
    within-both (return e) h i = h

    behind-both : (o : Else) → HoldsBehind P o → HoldsBehind Q o → HoldsBehind Both o
    behind-both no_else h i = h
    behind-both (otherwise b) h i = block-both b h i

    block-both : (b : Block) → HoldsInBlock P b → HoldsInBlock Q b → HoldsInBlock Both b
    block-both empty h i = h
    block-both (next (stmt line k) b) h i = (((h.0.0, i.0.0), within-both k h.0.1 i.0.1), block-both b h.1 i.1)

  member-both : (m : Member) → HoldsInMember P m → HoldsInMember Q m → HoldsInMember Both m
  member-both (field f) h i = h
  member-both (method m) h i = block-both m.body h i

-- Members and classes

module _ (Q : Member → Type 0) (part : (m : Member) → IsMemberFine m → Q m) where
  members-part : (ms : List Member) → AllByRecursion IsMemberFine ms → AllByRecursion Q ms
  members-part [] h = h
  members-part (m ∷ ms) h = (part m h.0, members-part ms h.1)

  classes-part : (cs : List Class) → AllByRecursion IsClassFine cs → AllByRecursion (λ (c : Class). All Q c.members) cs
  classes-part [] h = h
  classes-part (c ∷ cs) h = (All-from_recursion Q c.members (members-part c.members h.0), classes-part cs h.1)

  all-part : (cs : List Class) → AllByRecursion IsClassFine cs → All (λ (c : Class). All Q c.members) cs
  all-part cs h = All-from_recursion (λ (c : Class). All Q c.members) cs (classes-part cs h)

signs-of : (k : StmtKind) → IsFine k → HasFewOwnSigns k
signs-of k h = h.0

numbers-of : (k : StmtKind) → IsFine k → HasOwnSmall k
numbers-of k h = h.1

members-fine : (ms : List Member) → AllByRecursion HasFewNames ms → AllByRecursion (HoldsInMember HasFewOwnSigns) ms
    → AllByRecursion (HoldsInMember HasOwnSmall) ms → suc (members_opens ms) ≤ BRACKETS → AllByRecursion IsMemberFine ms
members-fine [] h i j l = h
members-fine (m ∷ ms) h i j l =
    ((h.0, member-both HasFewOwnSigns HasOwnSmall m i.0 j.0, omega (arith, l)), members-fine ms h.1 i.1 j.1 (omega (arith, l)))

-- each member of a class is such
abbrev InClass : (Member → Type 0) → Class → Type 0
InClass Q c = All Q c.members

classes-fine : (cs : List Class) → AllByRecursion (InClass HasFewNames) cs → AllByRecursion (InClass (HoldsInMember HasFewOwnSigns)) cs
    → AllByRecursion (InClass (HoldsInMember HasOwnSmall)) cs → classes_opens cs ≤ BRACKETS → AllByRecursion IsClassFine cs
classes-fine [] h i j l = h
classes-fine (c ∷ cs) h i j l = (
  members-fine c.members (recursion_from_All HasFewNames c.members h.0) (recursion_from_All (HoldsInMember HasFewOwnSigns) c.members i.0)
      (recursion_from_All (HoldsInMember HasOwnSmall) c.members j.0) (omega (arith, l)),
  classes-fine cs h.1 i.1 j.1 (omega (arith, l)),
)

-- and back: the brackets of members and classes are few, where those of each are

members-few : (ms : List Member) → AllByRecursion IsMemberFine ms → suc (members_opens ms) ≤ BRACKETS
members-few [] h = omega arith
members-few (m ∷ ms) h = let l = members-few ms h.1 in let k = h.0.2 in omega (arith, k, l)

classes-few : (cs : List Class) → AllByRecursion IsClassFine cs → classes_opens cs ≤ BRACKETS
classes-few [] h = omega arith
classes-few (c ∷ cs) h = let l = members-few c.members h.0 in let k = classes-few cs h.1 in omega (arith, k, l)

-- Programs

-- main has few names and few brackets, and its statements are such
abbrev IsMainFine : Tree → Type 0
IsMainFine t = (block_names t.body ≤ BODY_NAMES) × HoldsInBlock IsFine t.body × (suc (block_opens t.body) ≤ BRACKETS)

pub its-classes : (t : Tree) → IsWithinLimits t → AllByRecursion IsClassFine t.classes
its-classes t w =
    let few = w.brackets in
    classes-fine t.classes (recursion_from_All (InClass HasFewNames) t.classes w.names.methods)
    (recursion_from_All (InClass (HoldsInMember HasFewOwnSigns)) t.classes w.signs.methods)
    (recursion_from_All (InClass (HoldsInMember HasOwnSmall)) t.classes w.numbers.methods) (omega (arith, few))

pub its-main : (t : Tree) → IsWithinLimits t → IsMainFine t
its-main t w =
    let few = w.brackets in
    (w.names.main, block-both HasFewOwnSigns HasOwnSmall t.body w.signs.main w.numbers.main, omega (arith, few))

together : (t : Tree) → HasFewParts t → AllByRecursion IsClassFine t.classes → IsMainFine t → IsWithinLimits t
together t parts cs m =
    let few = classes-few t.classes cs in
    let own = m.2 in
    record {
      parts = parts;
      names = record { methods = all-part HasFewNames (λ n h. h.0) t.classes cs; main = m.0 };
      signs = record {
        methods = all-part (HoldsInMember HasFewOwnSigns) (λ n h. member-less IsFine HasFewOwnSigns signs-of n h.1) t.classes cs;
        main = block-less IsFine HasFewOwnSigns signs-of t.body m.1;
      };
      numbers = record {
        methods = all-part (HoldsInMember HasOwnSmall) (λ n h. member-less IsFine HasOwnSmall numbers-of n h.1) t.classes cs;
        main = block-less IsFine HasOwnSmall numbers-of t.body m.1;
      };
      brackets = omega (arith, few, own);
    }

-- the last test tells of the program
pub tells-whole : (t : Tree) (b : Truth) → HasFewParts t → AllByRecursion IsClassFine t.classes → Tells b (IsMainFine t) → Tells b (IsWithinLimits t)
tells-whole t true parts cs m = together t parts cs m
tells-whole t false parts cs m = λ w. m (its-main t w)
