-- The code of an expression leaves the value that the expression has.
use Rattle.std.proofs.Common.{◌≡◌, ℕ, pos, ◌+◌, ◌-◌, true, false, Bool as Truth, ◌||◌, ◌&&◌, true≢false, if◌then◌else◌, not as negated, List, [], ◌∷◌}
use Rattle.std.proofs.Common.{◌++◌, length, Result, Ok, Err, refl, sym, ap, ◌∙◌, arith, append_assoc, length-append, slice_get, unwrap_or}
use Rattle.std.specs.Prelude.{neg_ℤ, nat_lt, is_some, option_and_then}
use Rattle.rg_base.specs.declared.object.Seen.{Seen}
use Rattle.rg_base.specs.declared.value.Val.{Val}
use Rattle.rg_base.specs.declared.value.Val.TheVariants as val
use Rattle.rg_base.specs.declared.ty.Ty.{Ty}
use Rattle.rg_base.specs.declared.outcome.Trap.{Trap}
use Rattle.rg_tree.specs.declared.rows.BinOp.{BinOp}
use Rattle.rg_tree.specs.declared.rows.BinOp.TheVariants as op
use Rattle.rg_tree.specs.Tree.{Name, Variable, Path, Expr, path, is_nil, neg, not, binary, size, element, Class}
use Rattle.rg_rules.specs.Answers.{◌>>=◌}
use Rattle.rg_rules.specs.State.{Local, value_in}
use Rattle.rg_rules.specs.Values.{Computed, as_int, as_bool, is_nil_value, number_value, operate, decides}
use Rattle.rg_rules.specs.Evaluation.{object_at, element_place, element_value, field_value, follow_fields, path_value, with_right_operand, value_of}
use Rattle.rg_code.specs.declared.op.Op.{Op}
use Rattle.rg_code.specs.declared.op.Op.TheVariants as i
use Rattle.rg_code.specs.Code.{Code}
use Rattle.rg_code.specs.Lowering.{Scope, slot_of, type_in, field_number, type_behind, fields_code, path_code, expr_code}
use Rattle.rg_stack.specs.Machine.{Window, slot_at}
use Rattle.rg_stack.specs.Needs.{closed_of, is_closed}
use Rattle.rg_stack.specs.Labels.{label_of}
use Rattle.rg_stack.specs.Effects.{Walked, Traps, Stuck, Go, with_value, element_in}
use Rattle.rg_stack.specs.Tops.{Work}
use Rattle.rg_stack.specs.Given.{given_act as act, given_walk as walk}
use Rattle.rg_stack.proofs.Walks.Index.{element-of, element-given}
use Rattle.std.proofs.lemmas.Bool.{not_from_false}

-- whether a value leads into a region that no window has open
abbrev pub is_shut : List Seen → List Window → Val → Truth
is_shut store windows v = is_some (option_and_then (closed_of windows) (label_of store v))

-- the fields behind a type are those of the objects that are there, which have them and lie in no closed region
abbrev pub Follows : List Class → List Seen → List Window → Ty → Val → List Name → Type 0
Follows classes store windows t v [] = Unit {0}
Follows classes store windows t v (f ∷ fs) = (o : Seen) → object_at store v ≡ Ok o →
    (field_value classes o f ≡ unwrap_or (slice_get o.fields (field_number classes t f)) val.Nil)
    × ((nat_lt (field_number classes t f) (length o.fields) && negated (is_shut store windows v)) ≡ true)
    × Follows classes store windows (type_behind classes t f) (field_value classes o f) fs

-- the same of a path
abbrev pub FollowsPath : List Class → List Seen → List Window → List Local → Scope → Path → Type 0
FollowsPath classes store windows locals scope p = Follows classes store windows (type_in scope p.base) (value_in locals p.base) p.fields

-- a computed value leads into no closed region
abbrev pub NotShut : List Seen → List Window → Computed → Type 0
NotShut store windows c = (v : Val) → c ≡ Ok v → is_shut store windows v ≡ false

-- a computed value is a truth value
abbrev pub IsTruth : Computed → Type 0
IsTruth c = (v : Val) → c ≡ Ok v → v ≡ val.Bool (as_bool v)

-- whether an operator jumps
abbrev pub Logic : BinOp → Type 0 → Type 0
Logic op.Or P = P
Logic op.And P = P
Logic op.Eq P = Unit {0}
Logic op.Ne P = Unit {0}
Logic op.Lt P = Unit {0}
Logic op.Le P = Unit {0}
Logic op.Gt P = Unit {0}
Logic op.Ge P = Unit {0}
Logic op.Add P = Unit {0}
Logic op.Sub P = Unit {0}
Logic op.Mul P = Unit {0}
Logic op.Div P = Unit {0}
Logic op.Rem P = Unit {0}

-- what the rules give of an expression: its paths lead along the declared types, operands of `and` and `or` are truth values, and arrays and
-- indices lead into no closed region
abbrev pub Agrees : List Class → List Seen → List Window → List Local → Scope → Expr → Type 0
Agrees classes store windows locals scope (path p) = FollowsPath classes store windows locals scope p
Agrees classes store windows locals scope (is_nil p) = FollowsPath classes store windows locals scope p
Agrees classes store windows locals scope (neg a) = Agrees classes store windows locals scope a
Agrees classes store windows locals scope (not a) = Agrees classes store windows locals scope a
Agrees classes store windows locals scope (binary o a b) =
    Agrees classes store windows locals scope a × Agrees classes store windows locals scope b
    × Logic o (IsTruth (value_of classes store locals a) × IsTruth (value_of classes store locals b))
Agrees classes store windows locals scope (size q) =
    FollowsPath classes store windows locals scope q × NotShut store windows (path_value classes store locals q)
Agrees classes store windows locals scope (element q e) =
    FollowsPath classes store windows locals scope q × Agrees classes store windows locals scope e
    × NotShut store windows (path_value classes store locals q) × NotShut store windows (value_of classes store locals e)
Agrees classes store windows locals scope _ = Unit {0}

-- one thing after another
pub value_then : (c : Computed) (k : Val → Computed) (go behind : Val → Walked) → ((v : Val) → c ≡ Ok v → go v ≡ with_value (k v) behind)
    → with_value c go ≡ with_value (◌>>=◌ c k) behind
value_then (Ok v) k go behind h = h v refl
value_then (Err t) k go behind h = refl

object_then : {A : Type 0} (r : Result A Trap) (go : A → Walked) (k : A → Computed) (behind : Val → Walked)
    → ((o : A) → r ≡ Ok o → go o ≡ with_value (k o) behind) → elim r [ Ok o ↦ go o | Err t ↦ Traps t ] ≡ with_value (◌>>=◌ r k) behind
object_then (Ok o) go k behind h = h o refl
object_then (Err t) go k behind h = refl

-- a test of an object that holds of the one that is there
object_given : (r : Result Seen Trap) (test : Seen → Truth) (go : Seen → Walked) → ((o : Seen) → r ≡ Ok o → test o ≡ true)
    → (if elim r [ Ok o ↦ test o | Err t ↦ true ] then elim r [ Ok o ↦ go o | Err t ↦ Traps t ] else Stuck)
    ≡ elim r [ Ok o ↦ go o | Err t ↦ Traps t ]
object_given (Ok o) test go h = ap (λ b. if b then go o else Stuck) (h o refl)
object_given (Err t) test go h = refl

flat_element : (p e t : List Op) (a b c : Op) → ((p ++ a ∷ []) ++ (e ++ b ∷ c ∷ [])) ++ t ≡ p ++ (a ∷ (e ++ (b ∷ c ∷ t)))
flat_element p e t a b c = simp append_assoc

-- the two ways round
turned : (t : Truth) (a b : Walked) → (if t then a else b) ≡ (if negated t then b else a)
turned true a b = refl
turned false a b = refl

or_by : (t u : Truth) → t ≡ false → (t || u) ≡ u
or_by true u e = absurd (true≢false e)
or_by false u e = refl

and_by : (t u : Truth) → negated t ≡ false → (t && u) ≡ u
and_by true u e = refl
and_by false u e = absurd (true≢false e)

or_both : (v y : Val) → decides op.Or v ≡ false → operate op.Or v y ≡ Ok (val.Bool (as_bool y))
or_both v y e = ap (λ t. Ok (val.Bool t)) (or_by (as_bool v) (as_bool y) e)

and_both : (v y : Val) → decides op.And v ≡ false → operate op.And v y ≡ Ok (val.Bool (as_bool y))
and_both v y e = ap (λ t. Ok (val.Bool t)) (and_by (as_bool v) (as_bool y) e)

module _ (classes : List Class) (code : Code) where
  -- instructions are passed over
  pub walk-skip : (xs rest : List Op) (at : ℕ) (stack : List Val) (w : Work) → walk code (xs ++ rest) at (length xs) stack w
      ≡ walk code rest (at + length xs) 0 stack w
  walk-skip [] rest at stack w = let e : at ≡ at + 0 = omega arith in ap (λ n. walk code rest n 0 stack w) e
  walk-skip (x ∷ xs) rest at stack w =
      let e : at + 1 + length xs ≡ at + length (x ∷ xs) = omega arith in
      walk-skip xs rest (at + 1) stack w ∙ ap (λ n. walk code rest n 0 stack w) e

  -- another address
  at_address : (rest : List Op) (stack : List Val) (w : Work) (c : Computed) (m n : ℕ) → m ≡ n
      → with_value c (λ u. walk code rest m 0 (u ∷ stack) w) ≡ with_value c (λ u. walk code rest n 0 (u ∷ stack) w)
  at_address rest stack w c m n e = ap (λ k. with_value c (λ u. walk code rest k 0 (u ∷ stack) w)) e

  pub walk-fields : (fs : List Name) (t : Ty) (v : Val) (at : ℕ) (rest : List Op) (stack : List Val) (w : Work)
      → Follows classes w.machine.store w.machine.windows t v fs → walk code (fields_code classes t fs ++ rest) at 0 (v ∷ stack) w
      ≡ with_value (follow_fields classes w.machine.store v fs) (λ u. walk code rest (at + length (fields_code classes t fs)) 0 (u ∷ stack) w)
  walk-fields [] t v at rest stack w h = let e : at ≡ at + 0 = omega arith in ap (λ n. walk code rest n 0 (v ∷ stack) w) e
  walk-fields (f ∷ fs) t v at rest stack w h =
      let more = fields_code classes (type_behind classes t f) fs in
      let e : at + 1 + length more ≡ at + length (i.Field (field_number classes t f) ∷ more) = omega arith in
      object_given (object_at w.machine.store v) (λ o. nat_lt (field_number classes t f) (length o.fields) && negated (is_closed w.machine v))
      (λ o. walk code (more ++ rest) (at + 1) 0 (unwrap_or (slice_get o.fields (field_number classes t f)) val.Nil ∷ stack) w)
      (λ o there. (h o there).1)
      ∙ object_then (object_at w.machine.store v)
      (λ o. walk code (more ++ rest) (at + 1) 0 (unwrap_or (slice_get o.fields (field_number classes t f)) val.Nil ∷ stack) w)
      (λ o. follow_fields classes w.machine.store (field_value classes o f) fs)
      (λ u. walk code rest (at + length (i.Field (field_number classes t f) ∷ more)) 0 (u ∷ stack) w)
      (λ o there.
      ap (λ u. walk code (more ++ rest) (at + 1) 0 (u ∷ stack) w) (sym ((h o there).0))
      ∙ walk-fields fs (type_behind classes t f) (field_value classes o f) (at + 1) rest stack w (h o there).2
      ∙ at_address rest stack w (follow_fields classes w.machine.store (field_value classes o f) fs) _ _ e)

  pub walk-path : (p : Path) (locals : List Local) (scope : Scope) (at : ℕ) (rest : List Op) (stack : List Val) (w : Work)
      → ((x : Variable) → slot_at w.machine (slot_of scope x) ≡ value_in locals x)
      → FollowsPath classes w.machine.store w.machine.windows locals scope p
      → walk code (path_code classes scope p.base p.fields ++ rest) at 0 stack w
      ≡ with_value (path_value classes w.machine.store locals p)
      (λ u. walk code rest (at + length (path_code classes scope p.base p.fields)) 0 (u ∷ stack) w)
  walk-path p locals scope at rest stack w slots h =
      let more = fields_code classes (type_in scope p.base) p.fields in
      let e : at + 1 + length more ≡ at + length (i.Load (slot_of scope p.base) ∷ more) = omega arith in
      ap (λ u. walk code (more ++ rest) (at + 1) 0 (u ∷ stack) w) (slots p.base)
      ∙ walk-fields p.fields (type_in scope p.base) (value_in locals p.base) (at + 1) rest stack w h
      ∙ at_address rest stack w (path_value classes w.machine.store locals p) _ _ e

  -- an operator behind its operand
  one_run : (o : Op) (k : Val → Computed) (ops : List Op) (c : Computed) (at : ℕ) (rest : List Op) (stack : List Val) (w : Work)
      → ((here : ℕ) (v : Val) → c ≡ Ok v → act code here o (walk code rest (here + 1)) (v ∷ stack) w
      ≡ with_value (k v) (λ u. walk code rest (here + 1) 0 (u ∷ stack) w))
      → walk code (ops ++ (o ∷ rest)) at 0 stack w ≡ with_value c (λ u. walk code (o ∷ rest) (at + length ops) 0 (u ∷ stack) w)
      → walk code ((ops ++ o ∷ []) ++ rest) at 0 stack w ≡ with_value (◌>>=◌ c k) (λ u. walk code rest (at + length (ops ++ o ∷ [])) 0 (u ∷ stack) w)
  one_run o k ops c at rest stack w does before =
      let e : at + length ops + 1 ≡ at + length (ops ++ o ∷ []) = omega (arith, length-append ops (o ∷ [])) in
      ap (λ l. walk code l at 0 stack w) (append_assoc ops (o ∷ []) rest)
      ∙ before
      ∙ value_then c k (λ u. walk code (o ∷ rest) (at + length ops) 0 (u ∷ stack) w) (λ u. walk code rest (at + length ops + 1) 0 (u ∷ stack) w)
      (λ v is. does (at + length ops) v is)
      ∙ at_address rest stack w (◌>>=◌ c k) _ _ e

  -- the size of an array
  size_act : (here : ℕ) (v : Val) (rest : List Op) (stack : List Val) (w : Work) → is_shut w.machine.store w.machine.windows v ≡ false
      → act code here i.Size (walk code rest (here + 1)) (v ∷ stack) w
      ≡ with_value (◌>>=◌ (object_at w.machine.store v) (λ o. Ok (val.Int (pos (length o.fields)))))
      (λ u. walk code rest (here + 1) 0 (u ∷ stack) w)
  size_act here v rest stack w shut =
      ap (λ b. if b then elim (object_at w.machine.store v) [
        | Ok o ↦ walk code rest (here + 1) 0 (val.Int (pos (length o.fields)) ∷ stack) w
        | Err t ↦ Traps t
      ] else Stuck) (not_from_false (is_closed w.machine v) shut)
      ∙ object_then (object_at w.machine.store v) (λ o. walk code rest (here + 1) 0 (val.Int (pos (length o.fields)) ∷ stack) w)
      (λ o. Ok (val.Int (pos (length o.fields)))) (λ u. walk code rest (here + 1) 0 (u ∷ stack) w) (λ o there. refl)

  -- an index of the array beneath it is tested
  pub walk-bound : (r x : Val) (o : Seen) (here : ℕ) (rest : List Op) (stack : List Val) (w : Work) → object_at w.machine.store r ≡ Ok o
      → walk code (i.Bound ∷ rest) here 0 (x ∷ r ∷ stack) w
      ≡ elim (element_place o x) [ Ok k ↦ walk code rest (here + 1) 0 (x ∷ r ∷ stack) w | Err t ↦ Traps t ]
  walk-bound r x o here rest stack w there =
      ap (λ (q : Result Seen Trap). elim q [
        | Ok o ↦ elim (element_place o x) [ Ok k ↦ walk code rest (here + 1) 0 (x ∷ r ∷ stack) w | Err t ↦ Traps t ]
        | Err t ↦ Traps t
      ]) there

  -- and the element is read
  index_run : (r x : Val) (o : Seen) (here : ℕ) (rest : List Op) (stack : List Val) (w : Work) → object_at w.machine.store r ≡ Ok o
      → is_shut w.machine.store w.machine.windows r ≡ false → is_shut w.machine.store w.machine.windows x ≡ false
      → walk code (i.Bound ∷ i.Element ∷ rest) here 0 (x ∷ r ∷ stack) w
      ≡ with_value (element_value o x) (λ u. walk code rest (here + 1 + 1) 0 (u ∷ stack) w)
  index_run r x o here rest stack w there array index =
      walk-bound r x o here (i.Element ∷ rest) stack w there
      ∙ object_then (element_place o x) (λ k. walk code (i.Element ∷ rest) (here + 1) 0 (x ∷ r ∷ stack) w)
      (λ k. Ok (unwrap_or (slice_get o.fields k) val.Nil)) (λ u. walk code rest (here + 1 + 1) 0 (u ∷ stack) w)
      (λ k is.
      ap (λ b. if b then walk code rest (here + 1 + 1) 0 (element_in w.machine.store r x ∷ stack) w else Stuck)
      (element-given code w.machine r x stack o k there is array index)
      ∙ ap (λ u. walk code rest (here + 1 + 1) 0 (u ∷ stack) w) (element-of w.machine.store r x o k there is))

  -- an element: its array, which is tested, its index, which is tested, and the element
  element_run : (front index : List Op) (c d : Computed) (at middle : ℕ) (rest : List Op) (stack : List Val) (w : Work)
      → middle ≡ at + length (front ++ i.Check ∷ []) → NotShut w.machine.store w.machine.windows c → NotShut w.machine.store w.machine.windows d
      → walk code (front ++ (i.Check ∷ (index ++ (i.Bound ∷ i.Element ∷ rest)))) at 0 stack w
      ≡ with_value c (λ u. walk code (i.Check ∷ (index ++ (i.Bound ∷ i.Element ∷ rest))) (at + length front) 0 (u ∷ stack) w)
      → ((v : Val) → walk code (index ++ (i.Bound ∷ i.Element ∷ rest)) middle 0 (v ∷ stack) w
      ≡ with_value d (λ u. walk code (i.Bound ∷ i.Element ∷ rest) (middle + length index) 0 (u ∷ v ∷ stack) w))
      → walk code (((front ++ i.Check ∷ []) ++ (index ++ (i.Bound ∷ i.Element ∷ []))) ++ rest) at 0 stack w
      ≡ with_value (◌>>=◌ c (λ v. ◌>>=◌ (object_at w.machine.store v) (λ o. ◌>>=◌ d (λ x. element_value o x))))
      (λ u. walk code rest (at + length ((front ++ i.Check ∷ []) ++ (index ++ (i.Bound ∷ i.Element ∷ [])))) 0 (u ∷ stack) w)
  element_run front index c d at middle rest stack w m array within one two =
      let tail = index ++ (i.Bound ∷ i.Element ∷ rest) in
      let whole = (front ++ i.Check ∷ []) ++ (index ++ (i.Bound ∷ i.Element ∷ [])) in
      let here : at + length front + 1 ≡ middle = omega (arith, m, length-append front (i.Check ∷ [])) in
      let end : middle + length index + 1 + 1 ≡ at + length whole =
      omega (arith, m, length-append (front ++ i.Check ∷ []) (index ++ (i.Bound ∷ i.Element ∷ [])), length-append index (i.Bound ∷ i.Element ∷ [])) in
      ap (λ l. walk code l at 0 stack w) (flat_element front index rest i.Check i.Bound i.Element)
      ∙ one
      ∙ value_then c (λ v. ◌>>=◌ (object_at w.machine.store v) (λ o. ◌>>=◌ d (λ x. element_value o x)))
      (λ v. walk code (i.Check ∷ tail) (at + length front) 0 (v ∷ stack) w) (λ u. walk code rest (at + length whole) 0 (u ∷ stack) w)
      (λ v got.
      object_then (object_at w.machine.store v) (λ o. walk code tail (at + length front + 1) 0 (v ∷ stack) w)
      (λ o. ◌>>=◌ d (λ x. element_value o x)) (λ u. walk code rest (at + length whole) 0 (u ∷ stack) w)
      (λ o there.
      ap (λ n. walk code tail n 0 (v ∷ stack) w) here
      ∙ two v
      ∙ value_then d (λ x. element_value o x) (λ x. walk code (i.Bound ∷ i.Element ∷ rest) (middle + length index) 0 (x ∷ v ∷ stack) w)
      (λ u. walk code rest (at + length whole) 0 (u ∷ stack) w)
      (λ x is.
      index_run v x o (middle + length index) rest stack w there (array v got) (within x is)
      ∙ at_address rest stack w (element_value o x) _ _ end)))

  -- an operator behind its two operands
  two_run : (b : BinOp) (o : Op) (left right : List Op) (c d : Computed) (at middle : ℕ) (rest : List Op) (stack : List Val) (w : Work)
      → ((here : ℕ) (x y : Val) → act code here o (walk code rest (here + 1)) (y ∷ x ∷ stack) w
      ≡ with_value (operate b x y) (λ u. walk code rest (here + 1) 0 (u ∷ stack) w))
      → ((v : Val) → decides b v ≡ false)
      → middle ≡ at + length left
      → walk code (left ++ (right ++ o ∷ rest)) at 0 stack w ≡ with_value c (λ v. walk code (right ++ o ∷ rest) (at + length left) 0 (v ∷ stack) w)
      → ((v : Val) → walk code (right ++ o ∷ rest) middle 0 (v ∷ stack) w
      ≡ with_value d (λ u. walk code (o ∷ rest) (middle + length right) 0 (u ∷ v ∷ stack) w))
      → walk code ((left ++ (right ++ o ∷ [])) ++ rest) at 0 stack w
      ≡ with_value (◌>>=◌ c (λ v. with_right_operand b v d)) (λ u. walk code rest (at + length (left ++ (right ++ o ∷ []))) 0 (u ∷ stack) w)
  two_run b o left right c d at middle rest stack w does never m one two =
      let e : middle + length right + 1 ≡ at + length (left ++ (right ++ o ∷ [])) =
      omega (arith, m, length-append left (right ++ o ∷ []), length-append right (o ∷ [])) in
      let flat : (left ++ (right ++ o ∷ [])) ++ rest ≡ left ++ (right ++ o ∷ rest) = simp append_assoc in
      ap (λ l. walk code l at 0 stack w) flat
      ∙ one
      ∙ value_then c (λ v. with_right_operand b v d) (λ v. walk code (right ++ o ∷ rest) (at + length left) 0 (v ∷ stack) w)
      (λ u. walk code rest (middle + length right + 1) 0 (u ∷ stack) w)
      (λ v is.
      ap (λ n. walk code (right ++ o ∷ rest) n 0 (v ∷ stack) w) (sym m)
      ∙ two v
      ∙ value_then d (λ y. operate b v y) (λ u. walk code (o ∷ rest) (middle + length right) 0 (u ∷ v ∷ stack) w)
      (λ u. walk code rest (middle + length right + 1) 0 (u ∷ stack) w) (λ y also. does (middle + length right) v y)
      ∙ sym (ap (λ t. with_value (if t then Ok (val.Bool (as_bool v)) else ◌>>=◌ d (λ y. operate b v y))
      (λ u. walk code rest (middle + length right + 1) 0 (u ∷ stack) w)) (never v)))
      ∙ at_address rest stack w (◌>>=◌ c (λ v. with_right_operand b v d)) _ _ e

  -- behind a jump of `and` or `or`, by whether the left operand decides
  chosen : (b : BinOp) (right : List Op) (d : Computed) (middle end : ℕ) (rest : List Op) (stack : List Val) (w : Work) (v : Val) (t : Truth)
      → decides b v ≡ t
      → end ≡ middle + length right
      → v ≡ val.Bool (as_bool v)
      → IsTruth d
      → ((y : Val) → decides b v ≡ false → operate b v y ≡ Ok (val.Bool (as_bool y)))
      → walk code (right ++ rest) middle 0 stack w ≡ with_value d (λ u. walk code rest (middle + length right) 0 (u ∷ stack) w)
      → (if t then walk code (right ++ rest) middle (end - middle) (v ∷ stack) w else walk code (right ++ rest) middle 0 stack w)
      ≡ with_value (if t then Ok (val.Bool (as_bool v)) else ◌>>=◌ d (λ y. operate b v y)) (λ u. walk code rest end 0 (u ∷ stack) w)
  chosen b right d middle end rest stack w v true is e one all both two =
      let n : end - middle ≡ length right = omega (arith, e) in
      ap (λ k. walk code (right ++ rest) middle k (v ∷ stack) w) n
      ∙ walk-skip right rest middle (v ∷ stack) w
      ∙ ap (λ k. walk code rest k 0 (v ∷ stack) w) (sym e)
      ∙ ap (λ u. walk code rest end 0 (u ∷ stack) w) one
  chosen b right d middle end rest stack w v false is e one all both two =
      two
      ∙ value_then d (λ y. operate b v y) (λ u. walk code rest (middle + length right) 0 (u ∷ stack) w) (λ u. walk code rest end 0 (u ∷ stack) w)
      (λ y also.
      ap (λ k. walk code rest k 0 (y ∷ stack) w) (sym e)
      ∙ ap (λ u. walk code rest end 0 (u ∷ stack) w) (all y also)
      ∙ sym (ap (λ r. with_value r (λ u. walk code rest end 0 (u ∷ stack) w)) (both y is)))

  -- `and` and `or`: the jump goes behind the right operand where the left one decides
  choice_run : (b : BinOp) (o : Op) (left right : List Op) (c d : Computed) (at end : ℕ) (rest : List Op) (stack : List Val) (w : Work)
      → ((here : ℕ) (v : Val) (go : Go) → act code here o go (v ∷ stack) w
      ≡ (if decides b v then go (end - (here + 1)) (v ∷ stack) w else go 0 stack w))
      → end ≡ at + length left + 1 + length right
      → IsTruth c
      → IsTruth d
      → ((v y : Val) → decides b v ≡ false → operate b v y ≡ Ok (val.Bool (as_bool y)))
      → walk code (left ++ (o ∷ (right ++ rest))) at 0 stack w
      ≡ with_value c (λ v. walk code (o ∷ (right ++ rest)) (at + length left) 0 (v ∷ stack) w)
      → walk code (right ++ rest) (at + length left + 1) 0 stack w
      ≡ with_value d (λ u. walk code rest (at + length left + 1 + length right) 0 (u ∷ stack) w)
      → walk code ((left ++ o ∷ right) ++ rest) at 0 stack w
      ≡ with_value (◌>>=◌ c (λ v. with_right_operand b v d)) (λ u. walk code rest (at + length (left ++ o ∷ right)) 0 (u ∷ stack) w)
  choice_run b o left right c d at end rest stack w does m lc ld both one two =
      let e : end ≡ at + length (left ++ o ∷ right) = omega (arith, m, length-append left (o ∷ right)) in
      ap (λ l. walk code l at 0 stack w) (append_assoc left (o ∷ right) rest)
      ∙ one
      ∙ value_then c (λ v. with_right_operand b v d) (λ v. walk code (o ∷ (right ++ rest)) (at + length left) 0 (v ∷ stack) w)
      (λ u. walk code rest end 0 (u ∷ stack) w)
      (λ v is. does (at + length left) v (walk code (right ++ rest) (at + length left + 1))
      ∙ chosen b right d (at + length left + 1) end rest stack w v (decides b v) refl m (lc v is) ld (both v) two)
      ∙ at_address rest stack w (◌>>=◌ c (λ v. with_right_operand b v d)) _ _ e

  -- an operator whose left operand never decides
  plain_run : (b : BinOp) (o : Op) (left right : List Op) (c d : Computed) (at : ℕ) (rest : List Op) (stack : List Val) (w : Work)
      → ((here : ℕ) (x y : Val) → act code here o (walk code rest (here + 1)) (y ∷ x ∷ stack) w
      ≡ with_value (operate b x y) (λ u. walk code rest (here + 1) 0 (u ∷ stack) w))
      → ((v : Val) → decides b v ≡ false)
      → ((more : List Op) → walk code (left ++ more) at 0 stack w ≡ with_value c (λ v. walk code more (at + length left) 0 (v ∷ stack) w))
      → ((more : List Op) (v : Val) → walk code (right ++ more) (at + length left + 0) 0 (v ∷ stack) w
      ≡ with_value d (λ u. walk code more (at + length left + 0 + length right) 0 (u ∷ v ∷ stack) w))
      → walk code ((left ++ (right ++ o ∷ [])) ++ rest) at 0 stack w
      ≡ with_value (◌>>=◌ c (λ v. with_right_operand b v d)) (λ u. walk code rest (at + length (left ++ (right ++ o ∷ []))) 0 (u ∷ stack) w)
  plain_run b o left right c d at rest stack w does never one two =
      two_run b o left right c d at (at + length left + 0) rest stack w does never (omega arith) (one (right ++ o ∷ rest)) (λ v. two (o ∷ rest) v)

  pub walk-expr : (e : Expr) (locals : List Local) (scope : Scope) (at : ℕ) (rest : List Op) (stack : List Val) (w : Work)
      → ((x : Variable) → slot_at w.machine (slot_of scope x) ≡ value_in locals x) → Agrees classes w.machine.store w.machine.windows locals scope e
      → walk code (expr_code classes scope at e ++ rest) at 0 stack w
      ≡ with_value (value_of classes w.machine.store locals e) (λ u. walk code rest (at + length (expr_code classes scope at e)) 0 (u ∷ stack) w)
  walk-expr (path p) locals scope at rest stack w slots h = walk-path p locals scope at rest stack w slots h
  walk-expr (is_nil p) locals scope at rest stack w slots h =
      one_run i.IsNil (λ v. Ok (val.Bool (is_nil_value v))) (path_code classes scope p.base p.fields) (path_value classes w.machine.store locals p)
      at rest stack w (λ here v got. refl)
      (walk-path p locals scope at (i.IsNil ∷ rest) stack w slots h)
  walk-expr (neg a) locals scope at rest stack w slots h =
      one_run i.Neg (λ v. number_value (neg_ℤ (as_int v))) (expr_code classes scope at a) (value_of classes w.machine.store locals a) at rest stack
      w (λ here v got. refl)
      (walk-expr a locals scope at (i.Neg ∷ rest) stack w slots h)
  walk-expr (not a) locals scope at rest stack w slots h =
      one_run i.Not (λ v. Ok (val.Bool (negated (as_bool v)))) (expr_code classes scope at a) (value_of classes w.machine.store locals a) at rest
      stack w (λ here v got. refl)
      (walk-expr a locals scope at (i.Not ∷ rest) stack w slots h)
  walk-expr (binary op.Or a b) locals scope at rest stack w slots h =
      let left = expr_code classes scope at a in
      let middle = at + length left + 1 in
      let right = expr_code classes scope middle b in
      choice_run op.Or (i.Or (middle + length right)) left right (value_of classes w.machine.store locals a)
      (value_of classes w.machine.store locals b) at (middle + length right) rest stack w
      (λ here v go. refl) refl h.2.0 h.2.1 or_both
      (walk-expr a locals scope at (i.Or (middle + length right) ∷ (right ++ rest)) stack w slots h.0)
      (walk-expr b locals scope middle rest stack w slots h.1)
  walk-expr (binary op.And a b) locals scope at rest stack w slots h =
      let left = expr_code classes scope at a in
      let middle = at + length left + 1 in
      let right = expr_code classes scope middle b in
      choice_run op.And (i.And (middle + length right)) left right (value_of classes w.machine.store locals a)
      (value_of classes w.machine.store locals b) at (middle + length right) rest stack w
      (λ here v go. turned (as_bool v) _ _) refl h.2.0 h.2.1 and_both
      (walk-expr a locals scope at (i.And (middle + length right) ∷ (right ++ rest)) stack w slots h.0)
      (walk-expr b locals scope middle rest stack w slots h.1)
  walk-expr (binary op.Eq a b) locals scope at rest stack w slots h =
      let left = expr_code classes scope at a in
      plain_run op.Eq i.Eq left (expr_code classes scope (at + length left + 0) b) (value_of classes w.machine.store locals a)
      (value_of classes w.machine.store locals b) at rest stack w
      (λ here x y. refl) (λ v. refl) (λ more. walk-expr a locals scope at more stack w slots h.0)
      (λ more v. walk-expr b locals scope (at + length left + 0) more (v ∷ stack) w slots h.1)
  walk-expr (binary op.Ne a b) locals scope at rest stack w slots h =
      let left = expr_code classes scope at a in
      plain_run op.Ne i.Ne left (expr_code classes scope (at + length left + 0) b) (value_of classes w.machine.store locals a)
      (value_of classes w.machine.store locals b) at rest stack w
      (λ here x y. refl) (λ v. refl) (λ more. walk-expr a locals scope at more stack w slots h.0)
      (λ more v. walk-expr b locals scope (at + length left + 0) more (v ∷ stack) w slots h.1)
  walk-expr (binary op.Lt a b) locals scope at rest stack w slots h =
      let left = expr_code classes scope at a in
      plain_run op.Lt i.Lt left (expr_code classes scope (at + length left + 0) b) (value_of classes w.machine.store locals a)
      (value_of classes w.machine.store locals b) at rest stack w
      (λ here x y. refl) (λ v. refl) (λ more. walk-expr a locals scope at more stack w slots h.0)
      (λ more v. walk-expr b locals scope (at + length left + 0) more (v ∷ stack) w slots h.1)
  walk-expr (binary op.Le a b) locals scope at rest stack w slots h =
      let left = expr_code classes scope at a in
      plain_run op.Le i.Le left (expr_code classes scope (at + length left + 0) b) (value_of classes w.machine.store locals a)
      (value_of classes w.machine.store locals b) at rest stack w
      (λ here x y. refl) (λ v. refl) (λ more. walk-expr a locals scope at more stack w slots h.0)
      (λ more v. walk-expr b locals scope (at + length left + 0) more (v ∷ stack) w slots h.1)
  walk-expr (binary op.Gt a b) locals scope at rest stack w slots h =
      let left = expr_code classes scope at a in
      plain_run op.Gt i.Gt left (expr_code classes scope (at + length left + 0) b) (value_of classes w.machine.store locals a)
      (value_of classes w.machine.store locals b) at rest stack w
      (λ here x y. refl) (λ v. refl) (λ more. walk-expr a locals scope at more stack w slots h.0)
      (λ more v. walk-expr b locals scope (at + length left + 0) more (v ∷ stack) w slots h.1)
  walk-expr (binary op.Ge a b) locals scope at rest stack w slots h =
      let left = expr_code classes scope at a in
      plain_run op.Ge i.Ge left (expr_code classes scope (at + length left + 0) b) (value_of classes w.machine.store locals a)
      (value_of classes w.machine.store locals b) at rest stack w
      (λ here x y. refl) (λ v. refl) (λ more. walk-expr a locals scope at more stack w slots h.0)
      (λ more v. walk-expr b locals scope (at + length left + 0) more (v ∷ stack) w slots h.1)
  walk-expr (binary op.Add a b) locals scope at rest stack w slots h =
      let left = expr_code classes scope at a in
      plain_run op.Add i.Add left (expr_code classes scope (at + length left + 0) b) (value_of classes w.machine.store locals a)
      (value_of classes w.machine.store locals b) at rest stack w
      (λ here x y. refl) (λ v. refl) (λ more. walk-expr a locals scope at more stack w slots h.0)
      (λ more v. walk-expr b locals scope (at + length left + 0) more (v ∷ stack) w slots h.1)
  walk-expr (binary op.Sub a b) locals scope at rest stack w slots h =
      let left = expr_code classes scope at a in
      plain_run op.Sub i.Sub left (expr_code classes scope (at + length left + 0) b) (value_of classes w.machine.store locals a)
      (value_of classes w.machine.store locals b) at rest stack w
      (λ here x y. refl) (λ v. refl) (λ more. walk-expr a locals scope at more stack w slots h.0)
      (λ more v. walk-expr b locals scope (at + length left + 0) more (v ∷ stack) w slots h.1)
  walk-expr (binary op.Mul a b) locals scope at rest stack w slots h =
      let left = expr_code classes scope at a in
      plain_run op.Mul i.Mul left (expr_code classes scope (at + length left + 0) b) (value_of classes w.machine.store locals a)
      (value_of classes w.machine.store locals b) at rest stack w
      (λ here x y. refl) (λ v. refl) (λ more. walk-expr a locals scope at more stack w slots h.0)
      (λ more v. walk-expr b locals scope (at + length left + 0) more (v ∷ stack) w slots h.1)
  walk-expr (binary op.Div a b) locals scope at rest stack w slots h =
      let left = expr_code classes scope at a in
      plain_run op.Div i.Div left (expr_code classes scope (at + length left + 0) b) (value_of classes w.machine.store locals a)
      (value_of classes w.machine.store locals b) at rest stack w
      (λ here x y. refl) (λ v. refl) (λ more. walk-expr a locals scope at more stack w slots h.0)
      (λ more v. walk-expr b locals scope (at + length left + 0) more (v ∷ stack) w slots h.1)
  walk-expr (binary op.Rem a b) locals scope at rest stack w slots h =
      let left = expr_code classes scope at a in
      plain_run op.Rem i.Rem left (expr_code classes scope (at + length left + 0) b) (value_of classes w.machine.store locals a)
      (value_of classes w.machine.store locals b) at rest stack w
      (λ here x y. refl) (λ v. refl) (λ more. walk-expr a locals scope at more stack w slots h.0)
      (λ more v. walk-expr b locals scope (at + length left + 0) more (v ∷ stack) w slots h.1)
  walk-expr (size q) locals scope at rest stack w slots h =
      one_run i.Size (λ v. ◌>>=◌ (object_at w.machine.store v) (λ o. Ok (val.Int (pos (length o.fields)))))
      (path_code classes scope q.base q.fields) (path_value classes w.machine.store locals q) at rest stack w
      (λ here v got. size_act here v rest stack w (h.1 v got)) (walk-path q locals scope at (i.Size ∷ rest) stack w slots h.0)
  walk-expr (element q e) locals scope at rest stack w slots h =
      let front = path_code classes scope q.base q.fields in
      let middle = at + length (front ++ i.Check ∷ []) in
      let index = expr_code classes scope middle e in
      element_run front index (path_value classes w.machine.store locals q) (value_of classes w.machine.store locals e) at middle rest stack w refl
      h.2 h.3 (walk-path q locals scope at (i.Check ∷ (index ++ (i.Bound ∷ i.Element ∷ rest))) stack w slots h.0)
      (λ v. walk-expr e locals scope middle (i.Bound ∷ i.Element ∷ rest) (v ∷ stack) w slots h.1)
  walk-expr _ locals scope at rest stack w slots h = refl
