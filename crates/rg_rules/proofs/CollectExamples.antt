-- Programs that collect, and their runs, computed: what each prints, how it stands, its steps and the objects that it made; what the
-- roots of the active region reach where it collects; and the live regions. Beside each text stands its tree.
use Rattle.std.proofs.Common.{◌≡◌, refl, pos, true, [], ◌∷◌, codes, None}
use Rattle.std.specs.Fmt.{digits}
use Rattle.rg_base.specs.declared.words.Cap.TheVariants as cap
use Rattle.rg_base.specs.declared.words.Manager.{Manager}
use Rattle.rg_base.specs.declared.words.Manager.TheVariants as manager
use Rattle.rg_base.specs.declared.value.Val.TheVariants as val
use Rattle.rg_tree.specs.Tree.{number, nil, path, value, new, new_tmp, new_iso, merge, declare, assign, swap, enter, print, collect, Tree}
use Rattle.rg_rules.specs.Runs.{Done, plain_from, plain}
use Rattle.rg_rules.proofs.Sources.{var, dot, dots, use_of, to, block, field_named, class_named, program}
use Rattle.rg_rules.proofs.RunSources.{Source, shown, kept, alive}
use Rattle.rg_rules.proofs.RunExamples.{counted, linked, nested}

-- two objects that lead to each other
abbrev cycle : Manager → Tree
cycle m = program (linked ∷ []) m
    (declare (codes "a") (to cap.Mut "N") (new (codes "N") None)
    ∷ declare (codes "b") (to cap.Mut "N") (new (codes "N") None)
    ∷ assign (dot "a" "next") (value (use_of "b"))
    ∷ assign (dot "b" "next") (value (use_of "a"))
    ∷ assign (var "a") (value nil) ∷ assign (var "b") (value nil) ∷ collect ∷ print (number (pos 1)) ∷ [])

cycle-text : Source
    ("class N { v: int; next: mut N; }"
    ∷ "main trace { let a: mut N = new N; let b: mut N = new N; a.next = b; b.next = a; a = nil; b = nil; collect; print 1; }" ∷ [])
    (cycle manager.Trace)
unfolding digits
cycle-text = (refl, refl)

cycle-ends : shown (plain (cycle manager.Trace) [] 20) ≡ (val.Int (pos 1) ∷ [], Done, 9, 2)
unfolding plain_from
cycle-ends = refl

cycle_in_count-ends : shown (plain (cycle manager.Count) [] 20) ≡ (val.Int (pos 1) ∷ [], Done, 9, 2)
unfolding plain_from
cycle_in_count-ends = refl

-- one of the two variables still leads to both
cycle-kept_by_one : kept (cycle manager.Trace) 5 ≡ 1 ∷ 0 ∷ []
unfolding plain_from
cycle-kept_by_one = refl

cycle-kept : kept (cycle manager.Trace) 7 ≡ []
unfolding plain_from
cycle-kept = refl

-- three objects in a row
abbrev chain : Tree
chain = program (linked ∷ []) manager.Count
    (declare (codes "a") (to cap.Mut "N") (new (codes "N") None)
    ∷ assign (dot "a" "next") (new (codes "N") None)
    ∷ assign (dots "a" "next" "next") (new (codes "N") None) ∷ assign (var "a") (value nil) ∷ collect ∷ [])

chain-text : Source
    ("class N { v: int; next: mut N; }"
    ∷ "main count { let a: mut N = new N; a.next = new N; a.next.next = new N; a = nil; collect; }" ∷ [])
    chain
unfolding digits
chain-text = (refl, refl)

chain-ends : shown (plain chain [] 20) ≡ ([], Done, 6, 3)
unfolding plain_from
chain-ends = refl

chain-kept_by_variable : kept chain 3 ≡ 0 ∷ 1 ∷ 2 ∷ []
unfolding plain_from
chain-kept_by_variable = refl

chain-kept : kept chain 5 ≡ []
unfolding plain_from
chain-kept = refl

-- a paused variable keeps an object
abbrev paused_keeps : Tree
paused_keeps = program (linked ∷ []) manager.Trace
    (declare (codes "a") (to cap.Mut "N") (new (codes "N") None)
    ∷ assign (dot "a" "v") (value (number (pos 5)))
    ∷ declare (codes "p") (to cap.Paused "N") (value (use_of "a"))
    ∷ assign (var "a") (value nil) ∷ collect ∷ print (path (dot "p" "v")) ∷ [])

paused_keeps-text : Source
    ("class N { v: int; next: mut N; }"
    ∷ "main trace { let a: mut N = new N; a.v = 5; let p: paused N = a; a = nil; collect; print p.v; }" ∷ [])
    paused_keeps
unfolding digits
paused_keeps-text = (refl, refl)

paused_keeps-ends : shown (plain paused_keeps [] 20) ≡ (val.Int (pos 5) ∷ [], Done, 7, 1)
unfolding plain_from
paused_keeps-ends = refl

paused_keeps-kept : kept paused_keeps 5 ≡ 0 ∷ []
unfolding plain_from
paused_keeps-kept = refl

-- a temporary keeps an object while its window is open
abbrev temporary_keeps : Tree
temporary_keeps = program
    (counted ∷ class_named "T" true (field_named "p" (to cap.Paused "N") ∷ []) ∷ [])
    manager.Arena
    (declare (codes "y") (to cap.Iso "N") (new_iso (codes "N") None manager.Trace)
    ∷ enter (var "y") (codes "z")
    (block
    (declare (codes "t") (to cap.Tmp "T") (new_tmp (codes "T") None)
    ∷ assign (dot "t" "p") (new (codes "N") None) ∷ collect ∷ print (path (dots "t" "p" "v")) ∷ [])) None
    ∷ enter (var "y") (codes "z") (block (collect ∷ [])) None ∷ [])

temporary_keeps-text : Source
    ("class N { v: int; }"
    ∷ "tmp class T { p: paused N; }"
    ∷ "main arena { let y: iso N = new iso N in trace; enter y as z { let t: tmp T = new tmp T; t.p = new N; collect; print t.p.v; }"
    ∷ "enter y as z { collect; } }" ∷ [])
    temporary_keeps
unfolding digits
temporary_keeps-text = (refl, refl)

temporary_keeps-ends : shown (plain temporary_keeps [] 20) ≡ (val.Int (pos 0) ∷ [], Done, 11, 3)
unfolding plain_from
temporary_keeps-ends = refl

-- the bridge, and what the temporary's field leads to
temporary_keeps-kept : kept temporary_keeps 5 ≡ 0 ∷ 2 ∷ []
unfolding plain_from
temporary_keeps-kept = refl

-- the bridge alone
temporary_keeps-kept_later : kept temporary_keeps 9 ≡ 0 ∷ []
unfolding plain_from
temporary_keeps-kept_later = refl

-- a region hangs beneath a region, which hangs beneath an object of region 0
abbrev hung : Tree
hung = program (nested ∷ []) manager.Trace
    (declare (codes "a") (to cap.Mut "N") (new (codes "N") None)
    ∷ declare (codes "y") (to cap.Iso "N") (new_iso (codes "N") None manager.Arena)
    ∷ declare (codes "w") (to cap.Iso "N") (new_iso (codes "N") None manager.Count)
    ∷ enter (var "y") (codes "z") (block (swap (codes "w") (dot "z" "down") ∷ [])) None
    ∷ swap (codes "y") (dot "a" "down") ∷ assign (var "a") (value nil) ∷ collect ∷ [])

hung-text : Source
    ("class N { v: int; down: iso N; }"
    ∷ "main trace { let a: mut N = new N; let y: iso N = new iso N in arena; let w: iso N = new iso N in count;"
    ∷ "enter y as z { swap w, z.down; } swap y, a.down; a = nil; collect; }" ∷ [])
    hung
unfolding digits
hung-text = (refl, refl)

hung-ends : shown (plain hung [] 20) ≡ ([], Done, 10, 3)
unfolding plain_from
hung-ends = refl

-- an owner reference leads out of the region, and isn't followed
hung-kept_by_variable : kept hung 7 ≡ 0 ∷ []
unfolding plain_from
hung-kept_by_variable = refl

hung-kept : kept hung 9 ≡ []
unfolding plain_from
hung-kept = refl

-- variables own both regions
hung-alive_by_variables : alive hung 3 ≡ 0 ∷ 1 ∷ 2 ∷ []
unfolding plain_from
hung-alive_by_variables = refl

-- they hang beneath an object that is never freed
hung-alive : alive hung 9 ≡ 0 ∷ 1 ∷ 2 ∷ []
unfolding plain_from
hung-alive = refl

-- the objects of a region go to the active one
abbrev merged : Tree
merged = program (linked ∷ []) manager.Count
    (declare (codes "y") (to cap.Iso "N") (new_iso (codes "N") None manager.Trace)
    ∷ enter (var "y") (codes "z")
    (block
    (declare (codes "a") (to cap.Mut "N") (new (codes "N") None)
    ∷ assign (dot "a" "next") (value (use_of "a")) ∷ assign (var "a") (value nil) ∷ collect ∷ [])) None
    ∷ declare (codes "b") (to cap.Mut "N") (merge (codes "y")) ∷ assign (var "b") (value nil) ∷ collect ∷ [])

merged-text : Source
    ("class N { v: int; next: mut N; }"
    ∷ "main count { let y: iso N = new iso N in trace; enter y as z { let a: mut N = new N; a.next = a; a = nil; collect; }"
    ∷ "let b: mut N = merge y; b = nil; collect; }" ∷ [])
    merged
unfolding digits
merged-text = (refl, refl)

merged-ends : shown (plain merged [] 50) ≡ ([], Done, 11, 2)
unfolding plain_from
merged-ends = refl

-- the bridge alone
merged-kept_inside : kept merged 6 ≡ 0 ∷ []
unfolding plain_from
merged-kept_inside = refl

merged-kept : kept merged 10 ≡ []
unfolding plain_from
merged-kept = refl

-- the merged region is live no more
merged-alive : alive merged 8 ≡ 0 ∷ []
unfolding plain_from
merged-alive = refl
