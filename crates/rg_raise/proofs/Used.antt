-- What the instructions of fronts use up is what the fronts do; and where the first place ends.
use Rattle.std.proofs.Common.{◌≡◌, ℕ, zero, suc, ◌+◌, ◌-◌, Bool as Truth, true, false, if◌then◌else◌, List, [], ◌∷◌, ◌++◌, length}
use Rattle.std.proofs.Common.{map, drop, Option, Some, None, refl, sym, ap, ◌∙◌, subst, append_assoc, arith}
use Rattle.std.proofs.lemmas.List.{append-nil, drop-drop, length-append}
use Rattle.rg_base.specs.declared.ty.Ty.{Ty}
use Rattle.std.proofs.Math.Seq.{drop-append_seam}
use Rattle.rg_rules.specs.Capabilities.{is_iso}
use Rattle.rg_tree.specs.declared.rows.BinOp.{BinOp}
use Rattle.rg_tree.specs.declared.rows.BinOp.TheVariants as op
use Rattle.rg_code.specs.declared.op.Op.{Op}
use Rattle.rg_code.specs.declared.op.Op.TheVariants as i
use Rattle.rg_code.specs.Lowering.{gap, operator_code}
use Rattle.rg_verify_expressions.specs.declared.part.Part.{Part}
use Rattle.rg_verify_expressions.specs.Parts.{part_of, Ends}
use Rattle.rg_verify_expressions.specs.Raised.{Raised, number, boolean, nil, path, is_nil, size, element, neg, not, binary, path_ops, holder_ops, ops_of}
use Rattle.rg_verify_expressions.specs.Raised.{Front, expression, object, place, place_ops, front_ops, fronts_ops}
use Rattle.rg_verify_expressions.specs.Raising.{raised}
use Rattle.rg_verify_expressions.specs.Statements.{type_at, used_by_path, used}
use Rattle.rg_verify_expressions.specs.Blocks.{sign}
use Rattle.rg_raise.specs.Uses.{goes_by, value_by, ends_by, iso_slot, and_then, uses, ends_at, behind_place, used_in}
use Rattle.rg_verify_expressions.proofs.Raises.{raised-stand}

-- what an instruction is that stands in front
abbrev head_part : List Op → Option Part
head_part [] = None
head_part (o ∷ os) = part_of o

-- the slots that instructions use up in front of others
abbrev uses_in : (types : List Ty) → List Op → (rest : List Op) → List ℕ
uses_in types [] rest = []
uses_in types (o ∷ os) rest = and_then (iso_slot types (value_by (part_of o) (goes_by (head_part (os ++ rest))))) (uses_in types os rest)

head-sign : (ops : List Op) (at : ℕ) → sign part_of ops at ≡ head_part (drop at ops)
head-sign [] zero = refl
head-sign [] (suc n) = refl
head-sign (o ∷ os) zero = refl
head-sign (o ∷ os) (suc n) = head-sign os n

drop-one : (ops : List Op) (at : ℕ) (o : Op) (os : List Op) → drop at ops ≡ o ∷ os → drop (at + 1) ops ≡ os
drop-one ops at o os e =
    sym (drop-drop 1 at ops) ∙ ap (λ (xs : List Op). drop 1 xs) e

uses-front : (types : List Ty) (ops body rest : List Op) (at : ℕ) → drop at ops ≡ body ++ rest →
    uses types ops (length body) at ≡ uses_in types body rest
uses-front types ops [] rest at e = refl
uses-front types ops (o ∷ os) rest at e =
    let behind : drop (at + 1) ops ≡ os ++ rest = drop-one ops at o (os ++ rest) e in
    ap (λ (p : Option Part). and_then (iso_slot types (value_by p (goes_by (sign part_of ops (at + 1))))) (uses types ops (length os) (at + 1)))
    (head-sign ops at ∙ ap head_part e)
    ∙ ap (λ (p : Option Part). and_then (iso_slot types (value_by (part_of o) (goes_by p))) (uses types ops (length os) (at + 1)))
    (head-sign ops (at + 1) ∙ ap head_part behind)
    ∙ ap (λ (ss : List ℕ). and_then (iso_slot types (value_by (part_of o) (goes_by (head_part (os ++ rest))))) ss)
    (uses-front types ops os rest (at + 1) behind)

-- no path goes on with what stands in front
abbrev Stops : List Op → Type 0
Stops os = goes_by (head_part os) ≡ false

-- in front of what no path goes on with, neither does one with this
abbrev Starts : List Op → Type 0
Starts body = (rest : List Op) → Stops rest → Stops (body ++ rest)

-- the slots that a front uses up
abbrev front_uses : (types : List Ty) → Front → List ℕ
front_uses types (expression e) = used types e
front_uses types (object s ks) = []
front_uses types (place s ks e) = used types e

module _ (types : List Ty) where
  -- instructions in front of what no path goes on with use up these slots
  abbrev Uses : List Op → List ℕ → Type 0
  Uses body ss = (rest : List Op) → Stops rest → uses_in types body rest ≡ ss

  and-then : (o : Option ℕ) (ss ts : List ℕ) → and_then o ss ++ ts ≡ and_then o (ss ++ ts)
  and-then None ss ts = refl
  and-then (Some s) ss ts = refl

  uses-append : (x y rest : List Op) → uses_in types (x ++ y) rest ≡ uses_in types x (y ++ rest) ++ uses_in types y rest
  uses-append [] y rest = refl
  uses-append (o ∷ os) y rest =
      let v : List Op → Option ℕ = λ xs. iso_slot types (value_by (part_of o) (goes_by (head_part xs))) in
      ap (λ (xs : List Op). and_then (v xs) (uses_in types (os ++ y) rest)) (append_assoc os y rest)
      ∙ ap (λ (ss : List ℕ). and_then (v (os ++ (y ++ rest))) ss) (uses-append os y rest)
      ∙ sym (and-then (v (os ++ (y ++ rest))) (uses_in types os (y ++ rest)) (uses_in types y rest))

  uses-then : (x y : List Op) (ss ts : List ℕ) → Uses x ss → Starts y → Uses y ts → Uses (x ++ y) (ss ++ ts)
  uses-then x y ss ts f starts g rest stops =
      uses-append x y rest ∙ ap (λ (us : List ℕ). us ++ uses_in types y rest) (f (y ++ rest) (starts rest stops))
      ∙ ap (λ (us : List ℕ). ss ++ us) (g rest stops)

  -- an instruction that loads no variable
  uses-one : (o : Op) → ((g : Truth) → value_by (part_of o) g ≡ None) → Uses (o ∷ []) []
  uses-one o none rest stops = ap (λ (v : Option ℕ). and_then (iso_slot types v) []) (none (goes_by (head_part rest)))

  uses-behind : (x : List Op) (o : Op) (ss : List ℕ) → Uses x ss → ((g : Truth) → value_by (part_of o) g ≡ None) → goes_by (part_of o) ≡ false
      → Uses (x ++ o ∷ []) ss
  uses-behind x o ss f none stop rest stops =
      uses-then x (o ∷ []) ss [] f (λ rest s. stop) (uses-one o none) rest stops ∙ append-nil ss

  -- instructions that load no variable come last
  uses-last : (x y : List Op) (ss : List ℕ) → Uses x ss → Starts y → Uses y [] → Uses (x ++ y) ss
  uses-last x y ss f starts g rest stops = uses-then x y ss [] f starts g rest stops ∙ append-nil ss

  uses-fields : (ks : List ℕ) → Uses (map i.Field ks) []
  uses-fields [] rest stops = refl
  uses-fields (k ∷ ks) rest stops = uses-fields ks rest stops

  -- a path that goes on with an instruction
  uses-tested : (o : Op) → ((g : Truth) → value_by (part_of o) g ≡ None) → (ks : List ℕ) (rest : List Op)
      → uses_in types (map i.Field ks ++ o ∷ []) rest ≡ []
  uses-tested o none [] rest = ap (λ (v : Option ℕ). and_then (iso_slot types v) []) (none (goes_by (head_part rest)))
  uses-tested o none (k ∷ ks) rest = uses-tested o none ks rest

  uses-query : (o : Op) → ((g : Truth) → value_by (part_of o) g ≡ None) → goes_by (part_of o) ≡ true → (s : ℕ) (ks : List ℕ)
      → Uses (path_ops s ks ++ o ∷ []) []
  uses-query o none goes s [] rest stops =
      ap (λ (g : Truth). and_then (iso_slot types (value_by (part_of (i.Load s)) g)) (uses_in types (o ∷ []) rest)) goes
      ∙ uses-tested o none [] rest
  uses-query o none goes s (k ∷ ks) rest stops = uses-tested o none ks rest

  uses-holder : (s : ℕ) (ks : List ℕ) → Uses (holder_ops s ks) []
  uses-holder s ks = uses-query i.Check (λ g. refl) refl s ks

  uses-path : (s : ℕ) (ks : List ℕ) → Uses (path_ops s ks) (used_by_path types s ks)
  uses-path s (k ∷ ks) rest stops = uses-fields ks rest stops
  uses-path s [] rest stops =
      ap (λ (g : Truth). and_then (iso_slot types (value_by (part_of (i.Load s)) g)) []) stops ∙ by (is_iso (type_at types s))
    where
      by : (b : Truth) → and_then (if b then Some s else None) [] ≡ (if b then s ∷ [] else [])
      by true = refl
      by false = refl

  starts-front : (x y : List Op) → Starts x → Starts y → Starts (x ++ y)
  starts-front x y f g rest stops = subst Stops (sym (append_assoc x y rest)) (f (y ++ rest) (g rest stops))

  starts-cons : (o : Op) (os : List Op) → goes_by (part_of o) ≡ false → Starts (o ∷ os)
  starts-cons o os e rest stops = e

  starts-operator : (b : BinOp) (end : ℕ) (right : List Op) → Starts right → Starts (operator_code b end right)
  starts-operator op.Or end right f = starts-cons (i.Or end) right refl
  starts-operator op.And end right f = starts-cons (i.And end) right refl
  starts-operator op.Eq end right f = starts-front right (i.Eq ∷ []) f (starts-cons i.Eq [] refl)
  starts-operator op.Ne end right f = starts-front right (i.Ne ∷ []) f (starts-cons i.Ne [] refl)
  starts-operator op.Lt end right f = starts-front right (i.Lt ∷ []) f (starts-cons i.Lt [] refl)
  starts-operator op.Le end right f = starts-front right (i.Le ∷ []) f (starts-cons i.Le [] refl)
  starts-operator op.Gt end right f = starts-front right (i.Gt ∷ []) f (starts-cons i.Gt [] refl)
  starts-operator op.Ge end right f = starts-front right (i.Ge ∷ []) f (starts-cons i.Ge [] refl)
  starts-operator op.Add end right f = starts-front right (i.Add ∷ []) f (starts-cons i.Add [] refl)
  starts-operator op.Sub end right f = starts-front right (i.Sub ∷ []) f (starts-cons i.Sub [] refl)
  starts-operator op.Mul end right f = starts-front right (i.Mul ∷ []) f (starts-cons i.Mul [] refl)
  starts-operator op.Div end right f = starts-front right (i.Div ∷ []) f (starts-cons i.Div [] refl)
  starts-operator op.Rem end right f = starts-front right (i.Rem ∷ []) f (starts-cons i.Rem [] refl)

  starts-expr : (r : Raised) (at : ℕ) → Starts (ops_of at r)
  starts-expr (number z) at = λ rest stops. refl
  starts-expr (boolean b) at = λ rest stops. refl
  starts-expr nil at = λ rest stops. refl
  starts-expr (path s ks) at = λ rest stops. refl
  starts-expr (is_nil s ks) at = λ rest stops. refl
  starts-expr (size s ks) at = λ rest stops. refl
  starts-expr (element s ks e) at = λ rest stops. refl
  starts-expr (neg a) at = starts-front (ops_of at a) (i.Neg ∷ []) (starts-expr a at) (starts-cons i.Neg [] refl)
  starts-expr (not a) at = starts-front (ops_of at a) (i.Not ∷ []) (starts-expr a at) (starts-cons i.Not [] refl)
  starts-expr (binary o a b) at =
      let middle = at + length (ops_of at a) + gap o in
      let right = ops_of middle b in
      starts-front (ops_of at a) (operator_code o (middle + length right) right) (starts-expr a at)
      (starts-operator o (middle + length right) right (starts-expr b middle))

  uses-operator : (b : BinOp) (end : ℕ) (right : List Op) (ss : List ℕ) → Starts right → Uses right ss → Uses (operator_code b end right) ss
  uses-operator op.Or end right ss s f = uses-then (i.Or end ∷ []) right [] ss (uses-one (i.Or end) (λ g. refl)) s f
  uses-operator op.And end right ss s f = uses-then (i.And end ∷ []) right [] ss (uses-one (i.And end) (λ g. refl)) s f
  uses-operator op.Eq end right ss s f = uses-behind right i.Eq ss f (λ g. refl) refl
  uses-operator op.Ne end right ss s f = uses-behind right i.Ne ss f (λ g. refl) refl
  uses-operator op.Lt end right ss s f = uses-behind right i.Lt ss f (λ g. refl) refl
  uses-operator op.Le end right ss s f = uses-behind right i.Le ss f (λ g. refl) refl
  uses-operator op.Gt end right ss s f = uses-behind right i.Gt ss f (λ g. refl) refl
  uses-operator op.Ge end right ss s f = uses-behind right i.Ge ss f (λ g. refl) refl
  uses-operator op.Add end right ss s f = uses-behind right i.Add ss f (λ g. refl) refl
  uses-operator op.Sub end right ss s f = uses-behind right i.Sub ss f (λ g. refl) refl
  uses-operator op.Mul end right ss s f = uses-behind right i.Mul ss f (λ g. refl) refl
  uses-operator op.Div end right ss s f = uses-behind right i.Div ss f (λ g. refl) refl
  uses-operator op.Rem end right ss s f = uses-behind right i.Rem ss f (λ g. refl) refl

  uses-expr : (r : Raised) (at : ℕ) → Uses (ops_of at r) (used types r)
  uses-expr (number z) at = uses-one (i.Int z) (λ g. refl)
  uses-expr (boolean b) at = uses-one (i.Bool b) (λ g. refl)
  uses-expr nil at = uses-one i.Nil (λ g. refl)
  uses-expr (path s ks) at = uses-path s ks
  uses-expr (is_nil s ks) at = uses-query i.IsNil (λ g. refl) refl s ks
  uses-expr (size s ks) at = uses-query i.Size (λ g. refl) refl s ks
  uses-expr (element s ks e) at =
      let inside = at + length (holder_ops s ks) in
      let index = ops_of inside e ++ i.Bound ∷ i.Element ∷ [] in
      uses-then (holder_ops s ks) index [] (used types e) (uses-holder s ks)
      (starts-front (ops_of inside e) (i.Bound ∷ i.Element ∷ []) (starts-expr e inside) (starts-cons i.Bound (i.Element ∷ []) refl))
      (uses-last (ops_of inside e) (i.Bound ∷ i.Element ∷ []) (used types e) (uses-expr e inside) (starts-cons i.Bound (i.Element ∷ []) refl)
      (λ rest stops. refl))
  uses-expr (neg a) at = uses-behind (ops_of at a) i.Neg (used types a) (uses-expr a at) (λ g. refl) refl
  uses-expr (not a) at = uses-behind (ops_of at a) i.Not (used types a) (uses-expr a at) (λ g. refl) refl
  uses-expr (binary o a b) at =
      let middle = at + length (ops_of at a) + gap o in
      let right = ops_of middle b in
      let end = middle + length right in
      uses-then (ops_of at a) (operator_code o end right) (used types a) (used types b) (uses-expr a at)
      (starts-operator o end right (starts-expr b middle))
      (uses-operator o end right (used types b) (starts-expr b middle) (uses-expr b middle))

  -- a front, and fronts in order

  starts-first : (f : Front) (at : ℕ) → Starts (front_ops at f)
  starts-first (expression e) at = starts-expr e at
  starts-first (object s ks) at = λ rest stops. refl
  starts-first (place s ks e) at = λ rest stops. refl

  uses-first : (f : Front) (at : ℕ) → Uses (front_ops at f) (front_uses types f)
  uses-first (expression e) at = uses-expr e at
  uses-first (object s ks) at = uses-holder s ks
  uses-first (place s ks e) at =
      let inside = at + length (holder_ops s ks) in
      uses-then (holder_ops s ks) (ops_of inside e ++ i.Bound ∷ []) [] (used types e) (uses-holder s ks)
      (starts-front (ops_of inside e) (i.Bound ∷ []) (starts-expr e inside) (starts-cons i.Bound [] refl))
      (uses-behind (ops_of inside e) i.Bound (used types e) (uses-expr e inside) (λ g. refl) refl)

  starts-fronts : (fs : List Front) (at : ℕ) → Starts (fronts_ops at fs)
  starts-fronts [] at = λ rest stops. stops
  starts-fronts (f ∷ fs) at =
      let behind = at + length (front_ops at f) in
      starts-front (front_ops at f) (fronts_ops behind fs) (starts-first f at) (starts-fronts fs behind)

  used-first : (f : Front) (fs : List Front) → front_uses types f ++ used_in types fs ≡ used_in types (f ∷ fs)
  used-first (expression e) fs = refl
  used-first (object s ks) fs = refl
  used-first (place s ks e) fs = refl

  uses-fronts : (fs : List Front) (at : ℕ) → Uses (fronts_ops at fs) (used_in types fs)
  uses-fronts [] at = λ rest stops. refl
  uses-fronts (f ∷ fs) at = λ rest stops.
      let behind = at + length (front_ops at f) in
      uses-then (front_ops at f) (fronts_ops behind fs) (front_uses types f) (used_in types fs) (uses-first f at) (starts-fronts fs behind)
      (uses-fronts fs behind) rest stops ∙ used-first f fs

ends-stop : (rest : List Op) → Ends rest → Stops rest
ends-stop [] e = refl
ends-stop (o ∷ os) e = ap goes_by e

-- The first place that ends

-- how many instructions stand in front of where the first place has ended, of some in front of others
abbrev ended_in : List Op → (rest : List Op) → ℕ
ended_in [] rest = 0
ended_in (o ∷ os) rest = if ends_by (part_of o) (goes_by (head_part (os ++ rest))) then 1 else suc (ended_in os rest)

ended-front : (ops body rest : List Op) (at : ℕ) → drop at ops ≡ body ++ rest → behind_place ops (length body) at ≡ at + ended_in body rest
ended-front ops [] rest at e = let zeroth : at ≡ at + 0 = omega arith in zeroth
ended-front ops (o ∷ os) rest at e =
    by (ended-front ops os rest (at + 1) (drop-one ops at o (os ++ rest) e)) (ends_by (part_of o) (goes_by (head_part (os ++ rest)))) same
  where
    same : ends_at ops at (at + 1) ≡ ends_by (part_of o) (goes_by (head_part (os ++ rest)))
    same =
        ap (λ (p : Option Part). ends_by p (goes_by (sign part_of ops (at + 1)))) (head-sign ops at ∙ ap head_part e)
        ∙ ap (λ (p : Option Part). ends_by (part_of o) (goes_by p)) (head-sign ops (at + 1) ∙ ap head_part (drop-one ops at o (os ++ rest) e))

    by : behind_place ops (length os) (at + 1) ≡ at + 1 + ended_in os rest → (b : Truth) → ends_at ops at (at + 1) ≡ b
        → (if ends_at ops at (at + 1) then at + 1 else behind_place ops (length os) (at + 1)) ≡ at + (if b then 1 else suc (ended_in os rest))
    by next true f = ap (λ (b : Truth). if b then at + 1 else behind_place ops (length os) (at + 1)) f
    by next false f =
        let one : at + 1 + ended_in os rest ≡ at + suc (ended_in os rest) = omega arith in
        ap (λ (b : Truth). if b then at + 1 else behind_place ops (length os) (at + 1)) f ∙ next ∙ one

-- no place ends among instructions, whatever stands behind them
abbrev Calm : List Op → Type 0
Calm x = (y rest : List Op) → ended_in (x ++ y) rest ≡ length x + ended_in y rest

calm-nil : Calm []
calm-nil y rest = omega arith

calm-one : (o : Op) → ((g : Truth) → ends_by (part_of o) g ≡ false) → Calm (o ∷ [])
calm-one o none y rest =
    let e : suc (ended_in y rest) ≡ length (o ∷ []) + ended_in y rest = omega arith in
    ap (λ (b : Truth). if b then 1 else suc (ended_in y rest)) (none (goes_by (head_part (y ++ rest)))) ∙ e

calm-append : (x y : List Op) → Calm x → Calm y → Calm (x ++ y)
calm-append x y f g z rest =
    ap (λ (os : List Op). ended_in os rest) (append_assoc x y z) ∙ f (y ++ z) rest ∙ ap (λ (n : ℕ). length x + n) (g z rest)
    ∙ omega (arith, length-append x y)

calm-element : Calm (i.Bound ∷ i.Element ∷ [])
calm-element y rest =
    let e : suc (suc (ended_in y rest)) ≡ length (i.Bound ∷ i.Element ∷ []) + ended_in y rest = omega arith in
    e

calm-fields : (ks : List ℕ) → Calm (map i.Field ks)
calm-fields [] = calm-nil
calm-fields (k ∷ ks) = calm-append (i.Field k ∷ []) (map i.Field ks) (calm-one (i.Field k) (λ g. refl)) (calm-fields ks)

calm-path : (s : ℕ) (ks : List ℕ) → Calm (path_ops s ks)
calm-path s ks = calm-append (i.Load s ∷ []) (map i.Field ks) (calm-one (i.Load s) (λ g. refl)) (calm-fields ks)

calm-then : (x : List Op) (o : Op) → Calm x → ((g : Truth) → ends_by (part_of o) g ≡ false) → Calm (x ++ o ∷ [])
calm-then x o f none = calm-append x (o ∷ []) f (calm-one o none)

calm-holder : (s : ℕ) (ks : List ℕ) → Calm (holder_ops s ks)
calm-holder s ks = calm-then (path_ops s ks) i.Check (calm-path s ks) (λ g. refl)

calm-operator : (b : BinOp) (end : ℕ) (right : List Op) → Calm right → Calm (operator_code b end right)
calm-operator op.Or end right f = calm-append (i.Or end ∷ []) right (calm-one (i.Or end) (λ g. refl)) f
calm-operator op.And end right f = calm-append (i.And end ∷ []) right (calm-one (i.And end) (λ g. refl)) f
calm-operator op.Eq end right f = calm-then right i.Eq f (λ g. refl)
calm-operator op.Ne end right f = calm-then right i.Ne f (λ g. refl)
calm-operator op.Lt end right f = calm-then right i.Lt f (λ g. refl)
calm-operator op.Le end right f = calm-then right i.Le f (λ g. refl)
calm-operator op.Gt end right f = calm-then right i.Gt f (λ g. refl)
calm-operator op.Ge end right f = calm-then right i.Ge f (λ g. refl)
calm-operator op.Add end right f = calm-then right i.Add f (λ g. refl)
calm-operator op.Sub end right f = calm-then right i.Sub f (λ g. refl)
calm-operator op.Mul end right f = calm-then right i.Mul f (λ g. refl)
calm-operator op.Div end right f = calm-then right i.Div f (λ g. refl)
calm-operator op.Rem end right f = calm-then right i.Rem f (λ g. refl)

calm-expr : (r : Raised) (at : ℕ) → Calm (ops_of at r)
calm-expr (number z) at = calm-one (i.Int z) (λ g. refl)
calm-expr (boolean b) at = calm-one (i.Bool b) (λ g. refl)
calm-expr nil at = calm-one i.Nil (λ g. refl)
calm-expr (path s ks) at = calm-path s ks
calm-expr (is_nil s ks) at = calm-then (path_ops s ks) i.IsNil (calm-path s ks) (λ g. refl)
calm-expr (size s ks) at = calm-then (path_ops s ks) i.Size (calm-path s ks) (λ g. refl)
calm-expr (element s ks e) at =
    let inside = at + length (holder_ops s ks) in
    calm-append (holder_ops s ks) (ops_of inside e ++ i.Bound ∷ i.Element ∷ []) (calm-holder s ks)
    (calm-append (ops_of inside e) (i.Bound ∷ i.Element ∷ []) (calm-expr e inside) calm-element)
calm-expr (neg a) at = calm-then (ops_of at a) i.Neg (calm-expr a at) (λ g. refl)
calm-expr (not a) at = calm-then (ops_of at a) i.Not (calm-expr a at) (λ g. refl)
calm-expr (binary o a b) at =
    let middle = at + length (ops_of at a) + gap o in
    let right = ops_of middle b in
    calm-append (ops_of at a) (operator_code o (middle + length right) right) (calm-expr a at)
    (calm-operator o (middle + length right) right (calm-expr b middle))

-- a place ends behind its code
ended-place : (at s : ℕ) (ks : List ℕ) (e : Raised) (y rest : List Op) → Stops (y ++ rest)
    → ended_in (place_ops at s ks e ++ y) rest ≡ length (place_ops at s ks e)
ended-place at s ks e y rest stops =
    let array = holder_ops s ks in
    let index = ops_of (at + length array) e in
    let last : ended_in ((i.Bound ∷ []) ++ y) rest ≡ 1 = ap (λ (g : Truth). if ends_by (part_of i.Bound) g then 1 else suc (ended_in y rest)) stops in
    let front : ended_in ((index ++ i.Bound ∷ []) ++ y) rest ≡ length index + 1 =
    ap (λ (os : List Op). ended_in os rest) (append_assoc index (i.Bound ∷ []) y)
    ∙ calm-expr e (at + length array) ((i.Bound ∷ []) ++ y) rest ∙ ap (λ (n : ℕ). length index + n) last in
    ap (λ (os : List Op). ended_in os rest) (append_assoc array (index ++ i.Bound ∷ []) y)
    ∙ calm-holder s ks ((index ++ i.Bound ∷ []) ++ y) rest ∙ ap (λ (n : ℕ). length array + n) front
    ∙ omega (arith, length-append array (index ++ i.Bound ∷ []), length-append index (i.Bound ∷ []))

-- Fronts that were raised

module _ (ops : List Op) (at : ℕ) (fs : List Front) (end : ℕ) (told : raised (drop at ops) at ≡ Some (fs, end)) where
  pub raised-uses : (types : List Ty) → uses types ops (end - at) at ≡ used_in types fs
  raised-uses types =
      let s = raised-stand (drop at ops) at fs end told in
      let body = fronts_ops at fs in
      let many : end - at ≡ length body = omega (arith, s.place) in
      ap (λ (n : ℕ). uses types ops n at) many ∙ uses-front types ops body s.rest at s.parts
      ∙ uses-fronts types fs at s.rest (ends-stop s.rest s.ends)

module _ (ops : List Op) (at s : ℕ) (ks : List ℕ) (e : Raised) (fs : List Front) (end : ℕ)
    (told : raised (drop at ops) at ≡ Some (place s ks e ∷ fs, end)) where
  -- behind the place
  pub place-ends : behind_place ops (end - at) at ≡ at + length (place_ops at s ks e)
  place-ends =
      let stand = raised-stand (drop at ops) at (place s ks e ∷ fs) end told in
      let front = place_ops at s ks e in
      let others = fronts_ops (at + length front) fs in
      let many : end - at ≡ length (front ++ others) = omega (arith, stand.place) in
      ap (λ (n : ℕ). behind_place ops n at) many ∙ ended-front ops (front ++ others) stand.rest at stand.parts
      ∙ ap (λ (n : ℕ). at + n)
      (ended-place at s ks e others stand.rest (starts-fronts [] fs (at + length front) stand.rest (ends-stop stand.rest stand.ends)))

  pub place-uses : (types : List Ty)
      → uses types ops (end - behind_place ops (end - at) at) (behind_place ops (end - at) at) ≡ used_in types fs
  place-uses types =
      let stand = raised-stand (drop at ops) at (place s ks e ∷ fs) end told in
      let front = place_ops at s ks e in
      let behind = at + length front in
      let others = fronts_ops behind fs in
      let many : end - behind ≡ length others = omega (arith, stand.place, length-append front others) in
      let parts : drop behind ops ≡ others ++ stand.rest =
      sym (drop-drop (length front) at ops) ∙ ap (drop (length front)) (stand.parts ∙ append_assoc front others stand.rest)
      ∙ drop-append_seam front (others ++ stand.rest) in
      ap (λ (n : ℕ). uses types ops (end - n) n) place-ends ∙ ap (λ (n : ℕ). uses types ops n behind) many
      ∙ uses-front types ops others stand.rest behind parts ∙ uses-fronts types fs behind stand.rest (ends-stop stand.rest stand.ends)
