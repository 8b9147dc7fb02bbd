-- What was raised from code has that code.
use Rattle.std.proofs.Common.{◌≡◌, ℕ, suc, ◌+◌, List, [], ◌∷◌, ◌++◌, map, length, Option, Some, None, option_map}
use Rattle.std.proofs.Common.{refl, sym, ap, ◌∙◌, append_assoc, arith}
use Rattle.std.proofs.lemmas.List.{append-nil, length-append, map-append}
use Rattle.std.proofs.lemmas.Option.{same_Some}
use Rattle.rg_tree.specs.declared.rows.BinOp.{BinOp}
use Rattle.rg_code.specs.declared.op.Op.{Op}
use Rattle.rg_code.specs.declared.op.Op.TheVariants as i
use Rattle.rg_code.specs.Lowering.{gap, operator_code}
use Rattle.rg_verify_expressions.specs.declared.part.Part.{Part}
use Rattle.rg_verify_expressions.specs.declared.part.Part.TheVariants as part
use Rattle.rg_verify_expressions.specs.Raised.{Raised, number, boolean, nil, path, is_nil, size, element, neg, not, binary, Front, path_ops, holder_ops, ops_of}
use Rattle.rg_verify_expressions.specs.Raised.{fronts_ops}
use Rattle.rg_verify_expressions.specs.Parts.{part_of, Ends}
use Rattle.rg_verify_expressions.specs.Raises.{Stand}
use Rattle.rg_verify_expressions.specs.Raising.{Item, tree, checked, indexed, settle, from_path, from_checked, act, walk, fronts, raised}
use Rattle.rg_verify_expressions.proofs.Settling.{jump_of, element-ops, item_ops, items_ops, settle-ops, all-fronts-ops}
use Rattle.rg_verify_expressions.proofs.Parts.{IsOf, Stands, is-of}

path-taken : (f : ℕ → List ℕ → Raised) (end : ℕ) (items new : List Item) → from_path f end items ≡ Some new
    → (s : ℕ) × (ks : List ℕ) × (below : List Item) × (items ≡ tree (path s ks) ∷ below) × (new ≡ settle end (f s ks) below)
path-taken f end (tree (path s ks) ∷ below) new e = (s, ks, below, refl, sym (same_Some _ _ e))
path-taken f end items new e = absurd cc

checked-taken : (items new : List Item) → from_checked items ≡ Some new
    → (s : ℕ) × (ks : List ℕ) × (below : List Item) × (items ≡ tree (path s ks) ∷ below) × (new ≡ checked s ks ∷ below)
checked-taken (tree (path s ks) ∷ below) new e = (s, ks, below, refl, sym (same_Some _ _ e))
checked-taken items new e = absurd cc

module _ (at here : ℕ) (o : Op) where
  -- a tree of one instruction comes
  came : (r : Raised) (items new : List Item) → ((n : ℕ) → ops_of n r ≡ o ∷ []) → here ≡ at + length (items_ops at items)
      → Some (settle (suc here) r items) ≡ Some new → items_ops at new ≡ items_ops at items ++ o ∷ []
  came r items new one place e =
      let front = items_ops at items in
      let long : length (ops_of (at + length front) r) ≡ 1 = ap length (one (at + length front)) in
      let end : suc here ≡ at + length front + length (ops_of (at + length front) r) = omega (arith, place, long) in
      ap (items_ops at) (sym (same_Some _ _ e)) ∙ settle-ops at (suc here) r items end ∙ ap (λ (os : List Op). front ++ os) (one (at + length front))

  -- a tree comes in place of an item, with one instruction more
  replaced : (x : Item) (r : Raised) (below new : List Item) → ((n : ℕ) → ops_of n r ≡ item_ops n x ++ o ∷ [])
      → here ≡ at + length (items_ops at (x ∷ below)) → new ≡ settle (suc here) r below
      → items_ops at new ≡ items_ops at (x ∷ below) ++ o ∷ []
  replaced x r below new more place e =
      let front = items_ops at below in
      let old = item_ops (at + length front) x in
      let is : ops_of (at + length front) r ≡ old ++ o ∷ [] = more (at + length front) in
      let long : length (ops_of (at + length front) r) ≡ length old + 1 = ap length is ∙ length-append old (o ∷ []) in
      let end : suc here ≡ at + length front + length (ops_of (at + length front) r) =
      omega (arith, place, long, length-append front old) in
      ap (items_ops at) e ∙ settle-ops at (suc here) r below end ∙ ap (λ (os : List Op). front ++ os) is ∙ sym (append_assoc front old (o ∷ []))

  -- an operator comes in place of its operands
  joined : (b : BinOp) (x y : Raised) (below new : List Item) → Stands b o → here ≡ at + length (items_ops at (tree y ∷ tree x ∷ below))
      → new ≡ settle (suc here) (binary b x y) below
      → items_ops at new ≡ items_ops at (tree y ∷ tree x ∷ below) ++ o ∷ []
  joined b x y below new stands place e =
      let front = items_ops at below in
      let left = ops_of (at + length front) x in
      let right = ops_of (at + length (front ++ left)) y in
      let middle : at + length front + length left + gap b ≡ at + length (front ++ left) =
      omega (arith, stands.together, length-append front left) in
      let is : ops_of (at + length front) (binary b x y) ≡ left ++ (right ++ o ∷ []) =
      ap (λ (m : ℕ). left ++ operator_code b (m + length (ops_of m y)) (ops_of m y)) middle
      ∙ ap (λ (os : List Op). left ++ os) (stands.behind (at + length (front ++ left) + length right) right) in
      let long : length (ops_of (at + length front) (binary b x y)) ≡ length left + (length right + 1) =
      ap length is ∙ length-append left (right ++ o ∷ []) ∙ ap (λ (n : ℕ). length left + n) (length-append right (o ∷ [])) in
      let end : suc here ≡ at + length front + length (ops_of (at + length front) (binary b x y)) =
      omega (arith, place, long, length-append (front ++ left) right, length-append front left) in
      ap (items_ops at) e ∙ settle-ops at (suc here) (binary b x y) below end ∙ ap (λ (os : List Op). front ++ os) is
      ∙ sym (append_assoc front left (right ++ o ∷ []))
      ∙ sym (append_assoc (front ++ left) right (o ∷ []))

  -- an instruction adds itself to the code of the stack
  act-ops : (p : Part) (items new : List Item) → IsOf o p → here ≡ at + length (items_ops at items) → act p (suc here) items ≡ Some new
      → items_ops at new ≡ items_ops at items ++ o ∷ []
  act-ops (part.Int z) items new is place e = came (number z) items new (λ n. ap (λ (o : Op). o ∷ []) (sym is)) place e
  act-ops (part.Bool b) items new is place e = came (boolean b) items new (λ n. ap (λ (o : Op). o ∷ []) (sym is)) place e
  act-ops part.Nil items new is place e = came nil items new (λ n. ap (λ (o : Op). o ∷ []) (sym is)) place e
  act-ops (part.Load s) items new is place e = came (path s []) items new (λ n. ap (λ (o : Op). o ∷ []) (sym is)) place e
  act-ops (part.Field k) items new is place e =
      let (s, ks, below, items_are, new_is) = path-taken (λ s ks. path s (ks ++ k ∷ [])) (suc here) items new e in
      let more : (n : ℕ) → ops_of n (path s (ks ++ k ∷ [])) ≡ ops_of n (path s ks) ++ o ∷ [] =
      λ n. ap (λ (os : List Op). i.Load s ∷ os) (map-append i.Field ks (k ∷ []) ∙ ap (λ (o : Op). map i.Field ks ++ o ∷ []) (sym is)) in
      let there : here ≡ at + length (items_ops at (tree (path s ks) ∷ below)) = place
      ∙ ap (λ (xs : List Item). at + length (items_ops at xs)) items_are in
      replaced (tree (path s ks)) (path s (ks ++ k ∷ [])) below new more there new_is
      ∙ ap (λ (xs : List Item). items_ops at xs ++ o ∷ []) (sym items_are)
  act-ops part.IsNil items new is place e =
      let (s, ks, below, items_are, new_is) = path-taken is_nil (suc here) items new e in
      let more : (n : ℕ) → ops_of n (is_nil s ks) ≡ ops_of n (path s ks) ++ o ∷ [] = λ n. ap (λ (o : Op). ops_of n (path s ks) ++ o ∷ []) (sym is) in
      let there : here ≡ at + length (items_ops at (tree (path s ks) ∷ below)) = place
      ∙ ap (λ (xs : List Item). at + length (items_ops at xs)) items_are in
      replaced (tree (path s ks)) (is_nil s ks) below new more there new_is
      ∙ ap (λ (xs : List Item). items_ops at xs ++ o ∷ []) (sym items_are)
  act-ops part.Size items new is place e =
      let (s, ks, below, items_are, new_is) = path-taken size (suc here) items new e in
      let more : (n : ℕ) → ops_of n (size s ks) ≡ ops_of n (path s ks) ++ o ∷ [] = λ n. ap (λ (o : Op). ops_of n (path s ks) ++ o ∷ []) (sym is) in
      let there : here ≡ at + length (items_ops at (tree (path s ks) ∷ below)) = place
      ∙ ap (λ (xs : List Item). at + length (items_ops at xs)) items_are in
      replaced (tree (path s ks)) (size s ks) below new more there new_is
      ∙ ap (λ (xs : List Item). items_ops at xs ++ o ∷ []) (sym items_are)
  act-ops part.Check items new is place e =
      let (s, ks, below, items_are, new_is) = checked-taken items new e in
      let front = items_ops at below in
      ap (items_ops at) new_is
      ∙ ap (λ (q : Op). front ++ (path_ops s ks ++ q ∷ [])) (sym is)
      ∙ sym (append_assoc front (path_ops s ks) (o ∷ []))
      ∙ ap (λ (xs : List Item). items_ops at xs ++ o ∷ []) (sym items_are)
  act-ops part.Bound (tree a ∷ checked s ks ∷ below) new is place e =
      let front = items_ops at below in
      let array = holder_ops s ks in
      let n = at + length (front ++ array) in
      let same : at + length front + length array ≡ n = omega (arith, length-append front array) in
      ap (items_ops at) (sym (same_Some _ _ e))
      ∙ ap (λ (m : ℕ). front ++ (array ++ (ops_of m a ++ i.Bound ∷ []))) same
      ∙ ap (λ (q : Op). front ++ (array ++ (ops_of n a ++ q ∷ []))) (sym is)
      ∙ sym (append_assoc front array (ops_of n a ++ o ∷ []))
      ∙ sym (append_assoc (front ++ array) (ops_of n a) (o ∷ []))
  act-ops part.Bound items new is place e = absurd cc
  act-ops part.Element (indexed s ks a ∷ below) new is place e =
      replaced (indexed s ks a) (element s ks a) below new (λ n. element-ops n s ks a o is) place (sym (same_Some _ _ e))
  act-ops part.Element items new is place e = absurd cc
  act-ops part.Neg (tree a ∷ below) new is place e =
      replaced (tree a) (neg a) below new (λ n. ap (λ (o : Op). ops_of n a ++ o ∷ []) (sym is)) place (sym (same_Some _ _ e))
  act-ops part.Neg items new is place e = absurd cc
  act-ops part.Not (tree a ∷ below) new is place e =
      replaced (tree a) (not a) below new (λ n. ap (λ (o : Op). ops_of n a ++ o ∷ []) (sym is)) place (sym (same_Some _ _ e))
  act-ops part.Not items new is place e = absurd cc
  act-ops (part.Operator b) (tree y ∷ tree x ∷ below) new is place e = joined b x y below new is place (sym (same_Some _ _ e))
  act-ops (part.Operator b) items new is place e = absurd cc
  act-ops (part.Between j to) (tree a ∷ below) new is place e =
      let front = items_ops at below in
      let left = ops_of (at + length front) a in
      ap (items_ops at) (sym (same_Some _ _ e)) ∙ sym (append_assoc front left (jump_of j to ∷ []))
      ∙ ap (λ (o : Op). (front ++ left) ++ o ∷ []) (sym is)
  act-ops (part.Between j to) items new is place e = absurd cc

-- a walk along code: the stack has the code that was passed, and what is left begins with no instruction of an expression
pub record Walked (at : ℕ) (before : List Op) (items : List Item) (end : ℕ) : Type 0 where
  pub rest : List Op
  pub parts : before ≡ items_ops at items ++ rest
  pub place : end ≡ at + length (items_ops at items)
  pub ends : Ends rest

pub walk-ops : (ops : List Op) (at here : ℕ) (items new : List Item) (end : ℕ) → here ≡ at + length (items_ops at items)
    → walk ops here items ≡ Some (new, end) → Walked at (items_ops at items ++ ops) new end
unfolding walk
walk-ops [] at here items new end place e =
    let both : (items, here) ≡ (new, end) = same_Some _ _ e in
    let same : items ≡ new = ap (λ (x : List Item × ℕ). x.0) both in
    let there : here ≡ end = ap (λ (x : List Item × ℕ). x.1) both in
    record {
      rest = [];
      parts = ap (λ (xs : List Item). items_ops at xs ++ []) same;
      place = sym there ∙ place ∙ ap (λ (xs : List Item). at + length (items_ops at xs)) same;
      ends = tt;
    }
walk-ops (o ∷ os) at here items new end place e =
    of (λ next there h. walk-ops os at (suc here) next new end there h) (part_of o) refl e
  where
    Others : Type 0
    Others = (next : List Item) → suc here ≡ at + length (items_ops at next) → walk os (suc here) next ≡ Some (new, end)
        → Walked at (items_ops at next ++ os) new end

    acted : Others → (p : Part) (r : Option (List Item)) → part_of o ≡ Some p → act p (suc here) items ≡ r
        → ◌≡◌ {A = Option (List Item × ℕ)} (elim r [ None ↦ None | Some next ↦ walk os (suc here) next ]) (Some (new, end))
        → Walked at (items_ops at items ++ o ∷ os) new end
    acted others p None f g h = absurd cc
    acted others p (Some next) f g h =
        let more : items_ops at next ≡ items_ops at items ++ o ∷ [] = act-ops at here o p items next (is-of o p f) place g in
        let there : suc here ≡ at + length (items_ops at next) =
        omega (arith, place, length-append (items_ops at items) (o ∷ [])) ∙ ap (λ (xs : List Op). at + length xs) (sym more) in
        let w = others next there h in
        let same : items_ops at items ++ o ∷ os ≡ items_ops at next ++ os =
        sym (append_assoc (items_ops at items) (o ∷ []) os) ∙ ap (λ (xs : List Op). xs ++ os) (sym more) in
        record { rest = w.rest; parts = same ∙ w.parts; place = w.place; ends = w.ends }

    of : Others → (q : Option Part) → part_of o ≡ q
        → ◌≡◌ {A = Option (List Item × ℕ)}
        (elim q [ None ↦ Some (items, here) | Some p ↦ elim (act p (suc here) items) [ None ↦ None | Some next ↦ walk os (suc here) next ] ])
        (Some (new, end)) → Walked at (items_ops at items ++ o ∷ os) new end
    of others None f h =
        let both : (items, here) ≡ (new, end) = same_Some _ _ h in
        let same : items ≡ new = ap (λ (x : List Item × ℕ). x.0) both in
        let there : here ≡ end = ap (λ (x : List Item × ℕ). x.1) both in
        record {
          rest = o ∷ os;
          parts = ap (λ (xs : List Item). items_ops at xs ++ o ∷ os) same;
          place = sym there ∙ place ∙ ap (λ (xs : List Item). at + length (items_ops at xs)) same;
          ends = f;
        }
    of others (Some p) f h = acted others p (act p (suc here) items) f refl h

pub raised-stand : (ops : List Op) (at : ℕ) (fs : List Front) (end : ℕ) → raised ops at ≡ Some (fs, end) → Stand ops at fs end
unfolding raised
raised-stand ops at fs end e = of (walk ops at []) refl e
  where
    there : (items : List Item) (here : ℕ) (r : Option (List Front)) → walk ops at [] ≡ Some (items, here) → fronts items [] ≡ r
        → option_map {U = List Front × ℕ} (λ (xs : List Front). (xs, here)) r ≡ Some (fs, end) → Stand ops at fs end
    there items here None f g h = absurd cc
    there items here (Some xs) f g h =
        let x : List Front × ℕ = (xs, here) in
        let y : List Front × ℕ = (fs, end) in
        let both : x ≡ y = same_Some x y h in
        let same : xs ≡ fs = ap (λ (x : List Front × ℕ). x.0) both in
        let last : here ≡ end = ap (λ (x : List Front × ℕ). x.1) both in
        let zeroth : at ≡ at + 0 = omega arith in
        let w = walk-ops ops at at [] items here zeroth f in
        let code : items_ops at items ≡ fronts_ops at fs =
        sym (append-nil (items_ops at items)) ∙ all-fronts-ops at items [] xs g ∙ ap (fronts_ops at) same in
        record {
          rest = w.rest;
          parts = w.parts ∙ ap (λ (os : List Op). os ++ w.rest) code;
          place = sym last ∙ w.place ∙ ap (λ (os : List Op). at + length os) code;
          ends = w.ends;
        }

    of : (w : Option (List Item × ℕ)) → walk ops at [] ≡ w
        → ◌≡◌ {A = Option (List Front × ℕ)}
        (elim w [ None ↦ None | Some s ↦ option_map {U = List Front × ℕ} (λ (xs : List Front). (xs, s.1)) (fronts s.0 []) ]) (Some (fs, end))
        → Stand ops at fs end
    of None f h = absurd cc
    of (Some (items, here)) f h = there items here (fronts items []) f refl h
