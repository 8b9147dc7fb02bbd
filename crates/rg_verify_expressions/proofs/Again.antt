-- From the code of expressions they are raised again.
use Rattle.std.proofs.Common.{◌≡◌, ℕ, suc, ◌+◌, ◌<◌, ◌≤◌, List, [], ◌∷◌, ◌++◌, map, length, Some}
use Rattle.std.proofs.Common.{refl, sym, ap, subst, ◌∙◌, append_assoc, arith}
use Rattle.std.proofs.lemmas.List.{append-nil, length-append, length-map}
use Rattle.std.proofs.lemmas.Option.{same_Some}
use Rattle.rg_tree.specs.declared.rows.BinOp.{BinOp}
use Rattle.rg_tree.specs.declared.rows.BinOp.TheVariants as op
use Rattle.rg_code.specs.declared.op.Op.{Op}
use Rattle.rg_code.specs.declared.op.Op.TheVariants as i
use Rattle.rg_code.specs.Lowering.{gap, operator_code}
use Rattle.rg_verify_expressions.specs.declared.part.Part.{Part}
use Rattle.rg_verify_expressions.specs.declared.part.Part.TheVariants as part
use Rattle.rg_verify_expressions.specs.declared.part.Junction.{Junction}
use Rattle.rg_verify_expressions.specs.declared.part.Junction.TheVariants as junctions
use Rattle.rg_verify_expressions.specs.Raised.{Raised, number, boolean, nil, path, is_nil, size, element, neg, not, binary, Front, expression, object, place}
use Rattle.rg_verify_expressions.specs.Raised.{path_ops}
use Rattle.rg_verify_expressions.specs.Raised.{holder_ops, ops_of, place_ops, front_ops, fronts_ops}
use Rattle.rg_verify_expressions.specs.Parts.{part_of, Ends}
use Rattle.rg_verify_expressions.specs.Raises.{Stand, StandOnce}
use Rattle.rg_verify_expressions.specs.Raising.{Item, tree, checked, indexed, waits, settle, act, walk, fronts, raised, operator_of}
use Rattle.rg_verify_expressions.proofs.Settling.{jump_of, junction-code, junction-gap, element-ops, Waits, Rests, settle-before, settle-rests, settle-taken}

-- one instruction of a walk
step : (o : Op) (p : Part) (os : List Op) (here : ℕ) (items new : List Item) → part_of o ≡ Some p → act p (suc here) items ≡ Some new
    → walk (o ∷ os) here items ≡ walk os (suc here) new
unfolding walk
step o p os here items new e f = rw (walk, e, f) refl

-- A walk along the code of a tree comes to its end with the tree settled there.

-- fields behind a path
fields : (ks : List ℕ) (s : ℕ) (js : List ℕ) (here : ℕ) (rest : List Op) (items : List Item) → Waits (here + length ks) items
    → walk (map i.Field ks ++ rest) here (settle here (path s js) items)
    ≡ walk rest (here + length ks) (settle (here + length ks) (path s (js ++ ks)) items)
fields [] s js here rest items w =
    let zeroth : here ≡ here + 0 = omega arith in
    ap (λ (xs : List ℕ). walk rest here (settle here (path s xs) items)) (sym (append-nil js))
    ∙ ap (λ (n : ℕ). walk rest n (settle n (path s (js ++ [])) items)) zeroth
fields (k ∷ ks) s js here rest items w =
    let before : settle here (path s js) items ≡ tree (path s js) ∷ items = settle-before here (here + suc (length ks)) (path s js) items
    (omega arith) w in
    let next : suc here + length ks ≡ here + suc (length ks) = omega arith in
    let os = map i.Field ks ++ rest in
    ap (walk (i.Field k ∷ os) here) before
    ∙ step (i.Field k) (part.Field k) os here (tree (path s js) ∷ items) (settle (suc here) (path s (js ++ k ∷ [])) items) refl refl
    ∙ fields ks s (js ++ k ∷ []) (suc here) rest items (subst (λ (n : ℕ). Waits n items) (sym next) w)
    ∙ ap (λ (n : ℕ). walk rest n (settle n (path s ((js ++ k ∷ []) ++ ks)) items)) next
    ∙ ap (λ (xs : List ℕ). walk rest (here + suc (length ks)) (settle (here + suc (length ks)) (path s xs) items)) (append_assoc js (k ∷ []) ks)

-- a walk along the code of a tree, in front of other code
abbrev Goes : Raised → (here : ℕ) → Type 0
Goes r here =
    (rest : List Op) (items : List Item) → Waits (here + length (ops_of here r)) items
    → walk (ops_of here r ++ rest) here items ≡ walk rest (here + length (ops_of here r)) (settle (here + length (ops_of here r)) r items)

waits-sooner : (sooner end : ℕ) (items : List Item) → sooner ≤ end → Waits end items → Waits sooner items
waits-sooner sooner end [] le w = tt
waits-sooner sooner end (tree a ∷ below) le w = tt
waits-sooner sooner end (checked s ks ∷ below) le w = tt
waits-sooner sooner end (indexed s ks e ∷ below) le w = tt
waits-sooner sooner end (waits j a to ∷ below) le w = omega (arith, le, w)

-- a tree of one instruction
came : (o : Op) (p : Part) (r : Raised) (here : ℕ) (rest : List Op) (items : List Item) → part_of o ≡ Some p
    → act p (suc here) items ≡ Some (settle (suc here) r items) → walk (o ∷ rest) here items ≡ walk rest (here + 1) (settle (here + 1) r items)
came o p r here rest items e f =
    let one : suc here ≡ here + 1 = omega arith in
    step o p rest here items (settle (suc here) r items) e f ∙ ap (λ (n : ℕ). walk rest n (settle n r items)) one

-- the left operand, or the only one, and then more: it stands on top
first : (a : Raised) (here : ℕ) (behind rest : List Op) (items : List Item) (end : ℕ) → Goes a here → here + length (ops_of here a) < end
    → Waits end items
    → walk ((ops_of here a ++ behind) ++ rest) here items ≡ walk (behind ++ rest) (here + length (ops_of here a)) (tree a ∷ items)
first a here behind rest items end goes lt w =
    let code = ops_of here a in
    let m : ℕ = here + length code in
    ap (λ (os : List Op). walk os here items) (append_assoc code behind rest)
    ∙ goes (behind ++ rest) items (waits-sooner m end items (omega (arith, lt)) w)
    ∙ ap (walk (behind ++ rest) m) (settle-before m end a items lt w)

-- an instruction behind a tree
one-more : (a r : Raised) (o : Op) (p : Part) (here : ℕ) (rest : List Op) (items : List Item) → part_of o ≡ Some p
    → ((end : ℕ) → act p end (tree a ∷ items) ≡ Some (settle end r items)) → Goes a here
    → Waits (here + length (ops_of here a ++ o ∷ [])) items
    → walk ((ops_of here a ++ o ∷ []) ++ rest) here items
    ≡ walk rest (here + length (ops_of here a ++ o ∷ [])) (settle (here + length (ops_of here a ++ o ∷ [])) r items)
one-more a r o p here rest items e acts goes w =
    let code = ops_of here a in
    let m : ℕ = here + length code in
    let end : suc m ≡ here + length (code ++ o ∷ []) = omega (arith, length-append code (o ∷ [])) in
    first a here (o ∷ []) rest items (here + length (code ++ o ∷ [])) goes (omega (arith, end)) w
    ∙ step o p rest m (tree a ∷ items) (settle (suc m) r items) e (acts (suc m))
    ∙ ap (λ (n : ℕ). walk rest n (settle n r items)) end

-- an operator behind its operands
strict : (b : BinOp) (o : Op) → part_of o ≡ Some (part.Operator b) → ((end : ℕ) (right : List Op) → operator_code b end right ≡ right ++ o ∷ [])
    → gap b ≡ 0 → (x y : Raised) (here : ℕ)
    → Goes x here → ((n : ℕ) → Goes y n) → Goes (binary b x y) here
strict b o e behind together x y here goes_x goes_y rest items w =
    let left = ops_of here x in
    let middle : ℕ = here + length left + gap b in
    let right = ops_of middle y in
    let same : here + length left ≡ middle = omega (arith, together) in
    let is : ops_of here (binary b x y) ≡ left ++ (right ++ o ∷ []) =
    ap (λ (os : List Op). left ++ os) (behind (middle + length right) right) in
    let long : length (ops_of here (binary b x y)) ≡ length left + (length right + 1) =
    ap length is ∙ length-append left (right ++ o ∷ []) ∙ ap (λ (n : ℕ). length left + n) (length-append right (o ∷ [])) in
    let end : suc (middle + length right) ≡ here + length (ops_of here (binary b x y)) = omega (arith, long, together) in
    ap (λ (os : List Op). walk (os ++ rest) here items) is
    ∙ first x here (right ++ o ∷ []) rest items (here + length (ops_of here (binary b x y))) goes_x (omega (arith, long)) w
    ∙ ap (λ (os : List Op). walk os (here + length left) (tree x ∷ items)) (append_assoc right (o ∷ []) rest)
    ∙ ap (λ (n : ℕ). walk (right ++ o ∷ rest) n (tree x ∷ items)) same
    ∙ goes_y middle (o ∷ rest) (tree x ∷ items) tt
    ∙ step o (part.Operator b) rest (middle + length right) (tree y ∷ tree x ∷ items)
    (settle (suc (middle + length right)) (binary b x y) items) e refl
    ∙ ap (λ (n : ℕ). walk rest n (settle n (binary b x y) items)) end

jump-part : (j : Junction) (to : ℕ) → part_of (jump_of j to) ≡ Some (part.Between j to)
jump-part junctions.And to = refl
jump-part junctions.Or to = refl

-- a junction between its operands
between : (j : Junction) (x y : Raised) (here : ℕ) → Goes x here → ((n : ℕ) → Goes y n) → Goes (binary (operator_of j) x y) here
between j x y here goes_x goes_y rest items w =
    let left = ops_of here x in
    let middle : ℕ = here + length left + gap (operator_of j) in
    let right = ops_of middle y in
    let to : ℕ = middle + length right in
    let same : suc (here + length left) ≡ middle = omega (arith, junction-gap j) in
    let is : ops_of here (binary (operator_of j) x y) ≡ left ++ jump_of j to ∷ right =
    ap (λ (os : List Op). left ++ os) (junction-code j to right) in
    let long : length (ops_of here (binary (operator_of j) x y)) ≡ length left + suc (length right) =
    ap length is ∙ length-append left (jump_of j to ∷ right) in
    let end : to ≡ here + length (ops_of here (binary (operator_of j) x y)) = omega (arith, long, junction-gap j) in
    let held : Waits to (waits j x to ∷ items) = omega arith in
    ap (λ (os : List Op). walk (os ++ rest) here items) is
    ∙ first x here (jump_of j to ∷ right) rest items (here + length (ops_of here (binary (operator_of j) x y))) goes_x (omega (arith, long)) w
    ∙ step (jump_of j to) (part.Between j to) (right ++ rest) (here + length left) (tree x ∷ items) (waits j x to ∷ items) (jump-part j to) refl
    ∙ ap (λ (n : ℕ). walk (right ++ rest) n (waits j x to ∷ items)) same
    ∙ goes_y middle rest (waits j x to ∷ items) held
    ∙ ap (walk rest to) (settle-taken to y j x items)
    ∙ ap (λ (n : ℕ). walk rest n (settle n (binary (operator_of j) x y) items)) end

along-path : (s : ℕ) (ks : List ℕ) (here : ℕ) → Goes (path s ks) here
along-path s ks here rest items w =
    let long : suc here + length ks ≡ here + length (ops_of here (path s ks)) = omega (arith, length-map ks i.Field) in
    step (i.Load s) (part.Load s) (map i.Field ks ++ rest) here items (settle (suc here) (path s []) items) refl refl
    ∙ fields ks s [] (suc here) rest items (subst (λ (n : ℕ). Waits n items) (sym long) w)
    ∙ ap (λ (n : ℕ). walk rest n (settle n (path s ks) items)) long

-- an object, in front of more
to-object : (s : ℕ) (ks : List ℕ) (here : ℕ) (rest : List Op) (items : List Item) (end : ℕ) → here + length (path_ops s ks) < end → Waits end items
    → walk (holder_ops s ks ++ rest) here items ≡ walk rest (here + length (holder_ops s ks)) (checked s ks ∷ items)
to-object s ks here rest items end lt w =
    let code = path_ops s ks in
    let there : suc (here + length code) ≡ here + length (code ++ i.Check ∷ []) = omega (arith, length-append code (i.Check ∷ [])) in
    first (path s ks) here (i.Check ∷ []) rest items end (along-path s ks here) lt w
    ∙ step i.Check part.Check rest (here + length code) (tree (path s ks) ∷ items) (checked s ks ∷ items) refl refl
    ∙ ap (λ (n : ℕ). walk rest n (checked s ks ∷ items)) there

-- a place in an array, in front of more
to-place : (s : ℕ) (ks : List ℕ) (a : Raised) (here : ℕ) (rest : List Op) (items : List Item) (end : ℕ) → ((n : ℕ) → Goes a n)
    → here + length (path_ops s ks) < end → Waits end items
    → walk (place_ops here s ks a ++ rest) here items ≡ walk rest (here + length (place_ops here s ks a)) (indexed s ks a ∷ items)
to-place s ks a here rest items end goes_a lt w =
    let array = holder_ops s ks in
    let n : ℕ = here + length array in
    let code = ops_of n a in
    let there : suc (n + length code) ≡ here + length (array ++ (code ++ i.Bound ∷ [])) =
    omega (arith, length-append array (code ++ i.Bound ∷ []), length-append code (i.Bound ∷ [])) in
    ap (λ (os : List Op). walk os here items) (append_assoc array (code ++ i.Bound ∷ []) rest)
    ∙ to-object s ks here ((code ++ i.Bound ∷ []) ++ rest) items end lt w
    ∙ ap (λ (os : List Op). walk os n (checked s ks ∷ items)) (append_assoc code (i.Bound ∷ []) rest)
    ∙ goes_a n (i.Bound ∷ rest) (checked s ks ∷ items) tt
    ∙ step i.Bound part.Bound rest (n + length code) (tree a ∷ checked s ks ∷ items) (indexed s ks a ∷ items) refl refl
    ∙ ap (λ (m : ℕ). walk rest m (indexed s ks a ∷ items)) there

along-element : (s : ℕ) (ks : List ℕ) (a : Raised) (here : ℕ) → ((n : ℕ) → Goes a n) → Goes (element s ks a) here
along-element s ks a here goes_a rest items w =
    let array = holder_ops s ks in
    let code = place_ops here s ks a in
    let is : ops_of here (element s ks a) ≡ code ++ i.Element ∷ [] = element-ops here s ks a i.Element refl in
    let whole : ℕ = here + length (ops_of here (element s ks a)) in
    let end : suc (here + length code) ≡ whole = omega (arith, ap length is, length-append code (i.Element ∷ [])) in
    let lt : here + length (path_ops s ks) < whole =
    omega (arith, end, length-append array (ops_of (here + length array) a ++ i.Bound ∷ []), length-append (path_ops s ks) (i.Check ∷ [])) in
    ap (λ (os : List Op). walk (os ++ rest) here items) is
    ∙ ap (λ (os : List Op). walk os here items) (append_assoc code (i.Element ∷ []) rest)
    ∙ to-place s ks a here (i.Element ∷ rest) items whole goes_a lt w
    ∙ step i.Element part.Element rest (here + length code) (indexed s ks a ∷ items)
    (settle (suc (here + length code)) (element s ks a) items) refl refl
    ∙ ap (λ (n : ℕ). walk rest n (settle n (element s ks a) items)) end

pub goes : (r : Raised) (here : ℕ) → Goes r here
goes (number z) here rest items w = came (i.Int z) (part.Int z) (number z) here rest items refl refl
goes (boolean b) here rest items w = came (i.Bool b) (part.Bool b) (boolean b) here rest items refl refl
goes nil here rest items w = came i.Nil part.Nil nil here rest items refl refl
goes (path s ks) here rest items w = along-path s ks here rest items w
goes (is_nil s ks) here rest items w =
    one-more (path s ks) (is_nil s ks) i.IsNil part.IsNil here rest items refl (λ end. refl) (along-path s ks here) w
goes (size s ks) here rest items w =
    one-more (path s ks) (size s ks) i.Size part.Size here rest items refl (λ end. refl) (along-path s ks here) w
goes (element s ks a) here rest items w = along-element s ks a here (goes a) rest items w
goes (neg a) here rest items w = one-more a (neg a) i.Neg part.Neg here rest items refl (λ end. refl) (goes a here) w
goes (not a) here rest items w = one-more a (not a) i.Not part.Not here rest items refl (λ end. refl) (goes a here) w
goes (binary op.Or x y) here rest items w = between junctions.Or x y here (goes x here) (goes y) rest items w
goes (binary op.And x y) here rest items w = between junctions.And x y here (goes x here) (goes y) rest items w
goes (binary op.Eq x y) here rest items w = strict op.Eq i.Eq refl (λ end right. refl) refl x y here (goes x here) (goes y) rest items w
goes (binary op.Ne x y) here rest items w = strict op.Ne i.Ne refl (λ end right. refl) refl x y here (goes x here) (goes y) rest items w
goes (binary op.Lt x y) here rest items w = strict op.Lt i.Lt refl (λ end right. refl) refl x y here (goes x here) (goes y) rest items w
goes (binary op.Le x y) here rest items w = strict op.Le i.Le refl (λ end right. refl) refl x y here (goes x here) (goes y) rest items w
goes (binary op.Gt x y) here rest items w = strict op.Gt i.Gt refl (λ end right. refl) refl x y here (goes x here) (goes y) rest items w
goes (binary op.Ge x y) here rest items w = strict op.Ge i.Ge refl (λ end right. refl) refl x y here (goes x here) (goes y) rest items w
goes (binary op.Add x y) here rest items w = strict op.Add i.Add refl (λ end right. refl) refl x y here (goes x here) (goes y) rest items w
goes (binary op.Sub x y) here rest items w = strict op.Sub i.Sub refl (λ end right. refl) refl x y here (goes x here) (goes y) rest items w
goes (binary op.Mul x y) here rest items w = strict op.Mul i.Mul refl (λ end right. refl) refl x y here (goes x here) (goes y) rest items w
goes (binary op.Div x y) here rest items w = strict op.Div i.Div refl (λ end right. refl) refl x y here (goes x here) (goes y) rest items w
goes (binary op.Rem x y) here rest items w = strict op.Rem i.Rem refl (λ end right. refl) refl x y here (goes x here) (goes y) rest items w

-- Fronts in order

-- the item that a front is
abbrev on : Front → Item
on (expression r) = tree r
on (object s ks) = checked s ks
on (place s ks a) = indexed s ks a

on-rests : (f : Front) (items : List Item) → Rests (on f ∷ items)
on-rests (expression r) items = tt
on-rests (object s ks) items = tt
on-rests (place s ks a) items = tt

on-fronts : (f : Front) (items : List Item) (done : List Front) → fronts (on f ∷ items) done ≡ fronts items (f ∷ done)
on-fronts (expression r) items done = refl
on-fronts (object s ks) items done = refl
on-fronts (place s ks a) items done = refl

-- where nothing waits on top, nothing waits for an earlier end
rests-wait : (end : ℕ) (items : List Item) → Rests items → Waits end items
rests-wait end [] w = tt
rests-wait end (waits j a to ∷ below) w = absurd w
rests-wait end (x ∷ below) w = tt

-- fronts that come one after the other on a stack
abbrev piled : List Front → List Item → List Item
piled [] items = items
piled (f ∷ fs) items = piled fs (on f ∷ items)

front-goes : (f : Front) (here : ℕ) (rest : List Op) (items : List Item) → Rests items
    → walk (front_ops here f ++ rest) here items ≡ walk rest (here + length (front_ops here f)) (on f ∷ items)
front-goes (expression r) here rest items w =
    let m : ℕ = here + length (ops_of here r) in
    goes r here rest items (rests-wait m items w) ∙ ap (walk rest m) (settle-rests m r items w)
front-goes (object s ks) here rest items w =
    let end : ℕ = suc (here + length (path_ops s ks)) in
    to-object s ks here rest items end (omega arith) (rests-wait end items w)
front-goes (place s ks a) here rest items w =
    let end : ℕ = suc (here + length (path_ops s ks)) in
    to-place s ks a here rest items end (goes a) (omega arith) (rests-wait end items w)

all-goes : (fs : List Front) (here : ℕ) (rest : List Op) (items : List Item) → Rests items
    → walk (fronts_ops here fs ++ rest) here items ≡ walk rest (here + length (fronts_ops here fs)) (piled fs items)
all-goes [] here rest items w =
    let zeroth : here ≡ here + 0 = omega arith in
    ap (λ (n : ℕ). walk rest n items) zeroth
all-goes (f ∷ fs) here rest items w =
    let code = front_ops here f in
    let m : ℕ = here + length code in
    let others = fronts_ops m fs in
    let end : m + length others ≡ here + length (code ++ others) = omega (arith, length-append code others) in
    ap (λ (os : List Op). walk os here items) (append_assoc code others rest)
    ∙ front-goes f here (others ++ rest) items w
    ∙ all-goes fs m rest (on f ∷ items) (on-rests f items)
    ∙ ap (λ (n : ℕ). walk rest n (piled fs (on f ∷ items))) end

piled-fronts : (fs : List Front) (items : List Item) (done : List Front) → fronts (piled fs items) done ≡ fronts items (fs ++ done)
piled-fronts [] items done = refl
piled-fronts (f ∷ fs) items done = piled-fronts fs (on f ∷ items) done ∙ on-fronts f items (fs ++ done)

-- a walk stops in front of what no expression has
stops : (rest : List Op) (here : ℕ) (items : List Item) → Ends rest → walk rest here items ≡ Some (items, here)
unfolding walk
stops [] here items e = refl
stops (o ∷ os) here items e = rw (walk, e) refl

-- fronts are raised from their code
pub raised-again : (fs : List Front) (at : ℕ) (rest : List Op) → Ends rest
    → raised (fronts_ops at fs ++ rest) at ≡ Some (fs, at + length (fronts_ops at fs))
unfolding raised
raised-again fs at rest e =
    let end : ℕ = at + length (fronts_ops at fs) in
    let walked : walk (fronts_ops at fs ++ rest) at [] ≡ Some (piled fs [], end) = all-goes fs at rest [] tt ∙ stops rest end (piled fs []) e in
    let found : fronts (piled fs []) [] ≡ Some fs = piled-fronts fs [] [] ∙ ap Some (append-nil fs) in
    rw (raised, walked, found) refl

pub stand-raised : (ops : List Op) (at : ℕ) (fs : List Front) (end : ℕ) → Stand ops at fs end → raised ops at ≡ Some (fs, end)
stand-raised ops at fs end s =
    rw s.parts (raised-again fs at s.rest s.ends) ∙ ap (λ (n : ℕ). Some (fs, n)) (sym s.place)

pub stand-once : StandOnce
stand-once ops at fs gs m n s t =
    let x : List Front × ℕ = (fs, m) in
    let y : List Front × ℕ = (gs, n) in
    let both : x ≡ y = same_Some x y (sym (stand-raised ops at fs m s) ∙ stand-raised ops at gs n t) in
    (ap (λ (z : List Front × ℕ). z.0) both, ap (λ (z : List Front × ℕ). z.1) both)
