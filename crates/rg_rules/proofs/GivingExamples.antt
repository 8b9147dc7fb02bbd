-- Programs that leave a window with another bridge, computed: their first faults, and their runs. Beside each text stands its tree.
use Rattle.std.proofs.Common.{◌≡◌, refl, pos, [], ◌∷◌, Some, None, codes}
use Rattle.std.specs.Fmt.{digits}
use Rattle.rg_base.specs.declared.words.Cap.TheVariants as cap
use Rattle.rg_base.specs.declared.words.Manager.TheVariants as manager
use Rattle.rg_base.specs.declared.fault.Code.TheVariants as code
use Rattle.rg_base.specs.declared.outcome.Trap.TheVariants as trap
use Rattle.rg_base.specs.declared.value.Val.TheVariants as val
use Rattle.rg_tree.specs.Tree.{Name, number, nil, path, value, new, new_iso, declare, assign, swap, enter, print, collect, Tree}
use Rattle.rg_rules.specs.Runs.{Done, Stopped, plain_from, plain}
use Rattle.rg_rules.proofs.Sources.{var, dot, use_of, to, block, program, fault, Example}
use Rattle.rg_rules.proofs.RunSources.{Source, shown, kept}
use Rattle.rg_rules.proofs.RunExamples.{counted, linked, nested}

-- a list whose head changes
abbrev another_head : Tree
another_head = program (linked ∷ []) manager.Trace
    (declare (codes "y") (to cap.Iso "N") (new_iso (codes "N") None manager.Trace)
    ∷ enter (var "y") (codes "z")
    (block
    (declare (codes "n") (to cap.Mut "N") (new (codes "N") None)
    ∷ assign (dot "n" "v") (value (number (pos 7))) ∷ assign (dot "n" "next") (value (use_of "z")) ∷ [])) (Some (codes "n"))
    ∷ enter (var "y") (codes "z") (block (print (path (dot "z" "v")) ∷ assign (dot "z" "next") (value nil) ∷ collect ∷ [])) None ∷ [])

another_head-text : Source
    ("class N { v: int; next: mut N; }"
    ∷ "main trace { let y: iso N = new iso N in trace; enter y as z { let n: mut N = new N; n.v = 7; n.next = z; } giving n;"
    ∷ "enter y as z { print z.v; z.next = nil; collect; } }" ∷ [])
    another_head
unfolding digits
another_head-text = (refl, refl)

another_head-ends : shown (plain another_head [] 20) ≡ (val.Int (pos 7) ∷ [], Done, 12, 2)
unfolding plain_from
another_head-ends = refl

-- the old bridge is reached only through the new one
another_head-kept : kept another_head 10 ≡ 1 ∷ []
unfolding plain_from
another_head-kept = refl

-- nil isn't given
abbrev nil_given : Tree
nil_given = program (counted ∷ []) manager.Trace
    (declare (codes "y") (to cap.Iso "N") (new_iso (codes "N") None manager.Trace)
    ∷ enter (var "y") (codes "z") (block (declare (codes "n") (to cap.Mut "N") (value nil) ∷ [])) (Some (codes "n")) ∷ [])

nil_given-text : Source
    ("class N { v: int; }"
    ∷ "main trace { let y: iso N = new iso N in trace; enter y as z { let n: mut N = nil; } giving n; }" ∷ [])
    nil_given
unfolding digits
nil_given-text = (refl, refl)

nil_given-traps : shown (plain nil_given [] 9) ≡ ([], Stopped trap.Nil 1, 3, 1)
unfolding plain_from
nil_given-traps = refl

-- the owner is a field, which leads to the other bridge afterwards
abbrev given_to_field : Tree
given_to_field = program (nested ∷ []) manager.Trace
    (declare (codes "a") (to cap.Mut "N") (new (codes "N") None)
    ∷ declare (codes "y") (to cap.Iso "N") (new_iso (codes "N") None manager.Count)
    ∷ swap (codes "y") (dot "a" "down")
    ∷ enter (dot "a" "down") (codes "z")
    (block (declare (codes "n") (to cap.Mut "N") (new (codes "N") None) ∷ assign (dot "n" "v") (value (number (pos 7))) ∷ []))
    (Some (codes "n"))
    ∷ enter (dot "a" "down") (codes "z") (block (print (path (dot "z" "v")) ∷ [])) None ∷ [])

given_to_field-text : Source
    ("class N { v: int; down: iso N; }"
    ∷ "main trace { let a: mut N = new N; let y: iso N = new iso N in count; swap y, a.down;"
    ∷ "enter a.down as z { let n: mut N = new N; n.v = 7; } giving n; enter a.down as z { print z.v; } }" ∷ [])
    given_to_field
unfolding digits
given_to_field-text = (refl, refl)

given_to_field-ends : shown (plain given_to_field [] 20) ≡ (val.Int (pos 7) ∷ [], Done, 11, 3)
unfolding plain_from
given_to_field-ends = refl

-- What is given is seen as the bridge is declared.

-- a window that gives a variable, beside an object outside of it
abbrev gives : Name → Tree
gives w = program (counted ∷ []) manager.Trace
    (declare (codes "a") (to cap.Mut "N") (new (codes "N") None)
    ∷ declare (codes "y") (to cap.Iso "N") (new_iso (codes "N") None manager.Arena)
    ∷ enter (var "y") (codes "z") (block []) (Some w) ∷ [])

outer_object_given : Example
    ("class N { v: int; }"
    ∷ "main trace { let a: mut N = new N; let y: iso N = new iso N in arena; enter y as z { } giving a; }" ∷ [])
    (fault code.Mismatch) (gives (codes "a"))
unfolding digits
outer_object_given = (refl, refl)

unknown_variable_given : Example
    ("class N { v: int; }"
    ∷ "main trace { let a: mut N = new N; let y: iso N = new iso N in arena; enter y as z { } giving q; }" ∷ [])
    (fault code.Unknown) (gives (codes "q"))
unfolding digits
unknown_variable_given = (refl, refl)

old_bridge_given : Example
    ("class N { v: int; }"
    ∷ "main trace { let a: mut N = new N; let y: iso N = new iso N in arena; enter y as z { } giving z; }" ∷ [])
    None (gives (codes "z"))
unfolding digits
old_bridge_given = (refl, refl)
