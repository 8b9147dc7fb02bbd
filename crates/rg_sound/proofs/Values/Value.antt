-- What an expression computes to meets its type.
use Rattle.std.proofs.Common.{◌≡◌, refl, sym, ◌∙◌, ap, subst, ℕ, suc, ◌==◌, ◌<◌, nat_lt, length, ℤ, pos, negsuc, ◌+ℤ◌, ◌-ℤ◌, ◌*ℤ◌, neg_ℤ, int_div}
use Rattle.std.proofs.Common.{int_rem, Bool as Truth, true, false}
use Rattle.std.proofs.Common.{not as negated, if◌then◌else◌, bytes_eq, List, [], ◌∷◌, find, Option, Some, None, ok_or, option_map, unwrap_or}
use Rattle.std.proofs.Common.{slice_get, Ok, Err, IfSome, arith}
use Rattle.std.proofs.lemmas.Bool.{and_parts}
use Rattle.rg_base.specs.declared.words.Cap.{Cap}
use Rattle.rg_base.specs.declared.words.Cap.TheVariants.{Mut, Tmp, Paused, Imm, Iso}
use Rattle.rg_base.specs.declared.ty.Ty.{Ty}
use Rattle.rg_base.specs.declared.ty.Ty.TheVariants.{Int, Bool, Ref}
use Rattle.rg_base.specs.declared.fault.Code.TheVariants.{Unknown, Mismatch, Capability}
use Rattle.rg_base.specs.declared.object.Label.{Label}
use Rattle.rg_base.specs.declared.object.Seen.{Seen}
use Rattle.rg_base.specs.declared.value.Val.{Val}
use Rattle.rg_base.specs.declared.value.Val.TheVariants.{Nil, Int as IntVal, Bool as BoolVal, Obj}
use Rattle.rg_base.specs.declared.outcome.Trap.TheVariants as trap
use Rattle.rg_base.specs.Input.{in_range}
use Rattle.rg_tree.specs.declared.rows.BinOp.{BinOp}
use Rattle.rg_tree.specs.declared.rows.BinOp.TheVariants.{Or, And, Eq, Ne, Lt, Le, Gt, Ge, Add, Sub, Mul, Div, Rem}
use Rattle.rg_tree.specs.Tree.{Name, Variable, Field, Path, Expr, number, boolean, nil, path, is_nil, neg, not, binary, size, element}
use Rattle.rg_tree.specs.Tree.{Class}
use Rattle.rg_rules.specs.Answers.{◌>>=◌}
use Rattle.rg_rules.specs.Capabilities.{adapt, below, below_cap, pause, pause_cap, is_iso_cap, is_iso}
use Rattle.rg_rules.specs.Types.{type_of, fields_of, field_place, field_type, element_type}
use Rattle.rg_rules.specs.Environment.{Env, Entry, entry_of, at_depth, seen_type, available, used}
use Rattle.rg_rules.specs.Paths.{follow, Looked, look_up, read_through, walk_field, walk_fields, walk, walk_array}
use Rattle.rg_rules.specs.Expressions.{Judged, against, nil_type, judge_path, judge_is_nil, among, result_type, judge_expr}
use Rattle.rg_rules.specs.State.{Local, Window, value_in, place_in}
use Rattle.rg_rules.specs.Values.{Computed, as_int, as_bool, number_value, is_zero, operate, decides}
use Rattle.rg_rules.specs.Evaluation.{object_at, field_value, place_among, element_place, follow_fields, path_value, value_of}
use Rattle.rg_rules.proofs.Answers.{bind-ok, then-ok, test-then, ok_or-ok}
use Rattle.rg_rules.proofs.Path.{follow-ok, look_up-ok}
use Rattle.rg_rules.proofs.Expression.{against-ok, binary-ok, element-ok}
use Rattle.rg_rules.proofs.Step.{object_at-ok}
use Rattle.rg_sound.specs.Windows.{windows_of, IsOpen}
use Rattle.rg_sound.specs.Values.{LabelFits, Leads, MeetsInt, MeetsBool, MeetsRef, MeetsBy, Meets, FrameMeets}
use Rattle.rg_sound.specs.Objects.{FieldFits, FieldsMeet, ObjectsFit}
use Rattle.rg_sound.specs.Frames.{Named}
use Rattle.rg_sound.proofs.Frames.Named.{first-at}
use Rattle.rg_sound.proofs.Values.Declared.{named-fields, Elements, elements-meet}
use Rattle.rg_sound.proofs.Values.Label.{windows_of-open, paused-fits, below-fits, adapt-fits}

-- Values

pub MeetsRef-map : (store : List Seen) (c : ℕ) (P Q : Label → Type 0) (v : Val) → ((l : Label) → P l → Q l) → MeetsRef store c P v →
    MeetsRef store c Q v
MeetsRef-map store c P Q Nil f m = tt
MeetsRef-map store c P Q (Obj a) f m = record {
  object = m.object;
  there = m.there;
  class_is = m.class_is;
  label_fits =
      f m.object.label m.label_fits;
}
MeetsRef-map store c P Q (IntVal z) f m = absurd m
MeetsRef-map store c P Q (BoolVal b) f m = absurd m

pub MeetsBy-map : (store : List Seen) (F G : Cap → Label → Type 0) (t : Ty) (v : Val) → ((cap : Cap) (l : Label) → F cap l → G cap l) →
    MeetsBy store F t v → MeetsBy store G t v
MeetsBy-map store F G Int v f m = m
MeetsBy-map store F G Bool v f m = m
MeetsBy-map store F G (Ref cap c) v f m = MeetsRef-map store c (F cap) (G cap) v (f cap) m

pub pause-meets : (store : List Seen) (under ws : List Window) → ((l : Label) → IsOpen under l → IsOpen ws l) → (t : Ty) (v : Val) →
    Meets store under t v →
    Meets store ws (pause t) v
pause-meets store under ws up Int v m = m
pause-meets store under ws up Bool v m = m
pause-meets store under ws up (Ref cap c) v m = MeetsRef-map store c (LabelFits under cap) (LabelFits ws (pause_cap cap)) v
    (paused-fits under ws up cap) m

pub below-meets : (store : List Seen) (ws : List Window) (u t : Ty) (v : Val) → below u t ≡ true → Meets store ws u v → Meets store ws t v
below-meets store ws Int Int v e m = m
below-meets store ws Int Bool v e m = grind arith
below-meets store ws Int (Ref k d) v e m = grind arith
below-meets store ws Bool Int v e m = grind arith
below-meets store ws Bool Bool v e m = m
below-meets store ws Bool (Ref k d) v e m = grind arith
below-meets store ws (Ref cap c) Int v e m = grind arith
below-meets store ws (Ref cap c) Bool v e m = grind arith
below-meets store ws (Ref cap c) (Ref k d) v e m =
    let p = and_parts (c == d) (below_cap cap k) e in
    let same : c ≡ d = grind arith in
    let P : ℕ → Type 0 = λ n. MeetsRef store n (LabelFits ws k) v in
    subst P same (MeetsRef-map store c (LabelFits ws cap) (LabelFits ws k) v (λ l. below-fits ws cap k l p.1) m)

-- the value at the place of a field
abbrev pub slot_value : Option ℕ → List Val → Val
slot_value None vs = Nil
slot_value (Some k) vs = unwrap_or (slice_get vs k) Nil

slot_suc : (o : Option ℕ) (v : Val) (vs : List Val) → slot_value (option_map suc o) (v ∷ vs) ≡ slot_value o vs
slot_suc None v vs = refl
slot_suc (Some k) v vs = refl

field_by : (b : Truth) (classes : List Class) (store : List Seen) (F : Cap → Label → Type 0) (f : Field) (found : Option Field) (place : Option ℕ)
    (v : Val) (vs : List Val) (t : Ty) →
    MeetsBy store F (type_of classes f.ty) v → (option_map (λ (g : Field). type_of classes g.ty) found ≡ Some t →
    MeetsBy store F t (slot_value place vs)) →
    option_map (λ (g : Field). type_of classes g.ty) (if b then Some f else found) ≡ Some t →
    MeetsBy store F t (slot_value (if b then Some 0 else option_map suc place) (v ∷ vs))
field_by true classes store F f found place v vs t m rest e =
    let same : type_of classes f.ty ≡ t = grind arith in
    let P : Ty → Type 0 = λ q. MeetsBy store F q v in subst P same m
field_by false classes store F f found place v vs t m rest e =
    let P : Val → Type 0 = λ q. MeetsBy store F t q in subst P (sym (slot_suc place v vs)) (rest e)

-- the field of a name meets its declared type
pub field-meets : (classes : List Class) (store : List Seen) (F : Cap → Label → Type 0) (fs : List Field) (vs : List Val) (x : Name) (t : Ty) →
    FieldsMeet classes store F fs vs → option_map (λ (g : Field). type_of classes g.ty) (find (λ (g : Field). bytes_eq g.name x) fs) ≡ Some t →
    MeetsBy store F t (slot_value (field_place fs x) vs)
field-meets classes store F [] vs x t m e = grind arith
field-meets classes store F (f ∷ fs) [] x t m e = absurd m
field-meets classes store F (f ∷ fs) (v ∷ vs) x t m e =
    field_by (bytes_eq f.name x) classes store F f (find (λ (g : Field). bytes_eq g.name x) fs) (field_place fs x) v vs t m.0
    (field-meets classes store F fs vs x t m.1) e

pub field_value-slot : (classes : List Class) (o : Seen) (x : Name) →
    field_value classes o x ≡ slot_value (field_place (fields_of classes o.class) x) o.fields
field_value-slot classes o x = by_place (field_place (fields_of classes o.class) x)
  where
    by_place : (p : Option ℕ) → (elim p [ None ↦ Nil | Some k ↦ unwrap_or (slice_get o.fields k) Nil ]) ≡ slot_value p o.fields
    by_place None = refl
    by_place (Some k) = refl

adapted_by : (store : List Seen) (ws : List Window) (c : ℕ) (o : Option Cap) (u : Ty) (v : Val) →
    IfSome o (λ q. MeetsRef store c (LabelFits ws q) v) →
    ◌>>=◌ (ok_or o Capability) (λ k. Ok (Ref k c)) ≡ Ok u → Meets store ws u v
adapted_by store ws c None u v h e = grind arith
adapted_by store ws c (Some q) u v h e =
    let same : Ref q c ≡ u = grind arith in
    let P : Ty → Type 0 = λ t. Meets store ws t v in subst P same h

adapted_ref : (store : List Seen) (ws : List Window) (cap k : Cap) (c : ℕ) (own : Label) (v : Val) → LabelFits ws cap own →
    MeetsRef store c (FieldFits ws own k) v →
    IfSome (adapt cap k) (λ q. MeetsRef store c (LabelFits ws q) v)
adapted_ref store ws cap k c own Nil f m = any (adapt cap k)
  where
    any : (o : Option Cap) → IfSome o (λ q. MeetsRef store c (LabelFits ws q) Nil)
    any None = tt
    any (Some q) = tt
adapted_ref store ws cap k c own (IntVal z) f m = absurd m
adapted_ref store ws cap k c own (BoolVal b) f m = absurd m
adapted_ref store ws cap k c own (Obj a) f m = lead (adapt cap k) (adapt-fits ws cap k own m.object.label f m.label_fits)
  where
    lead : (o : Option Cap) → IfSome o (λ q. LabelFits ws q m.object.label) → IfSome o (λ q. MeetsRef store c (LabelFits ws q) (Obj a))
    lead None h = tt
    lead (Some q) h = record { object = m.object; there = m.there; class_is = m.class_is; label_fits = h }

-- what is read through a reference has the type that the rules give
read-meets : (store : List Seen) (ws : List Window) (cap : Cap) (t u : Ty) (own : Label) (v : Val) → LabelFits ws cap own →
    MeetsBy store (FieldFits ws own) t v →
    read_through cap t ≡ Ok u → Meets store ws u v
read-meets store ws cap Int u own v f m e = let same : Int ≡ u = grind arith in let P : Ty → Type 0 = λ q. Meets store ws q v in subst P same m
read-meets store ws cap Bool u own v f m e = let same : Bool ≡ u = grind arith in let P : Ty → Type 0 = λ q. Meets store ws q v in subst P same m
read-meets store ws cap (Ref k c) u own v f m e = adapted_by store ws c (adapt cap k) u v (adapted_ref store ws cap k c own v f m) e

adapt-not_iso : (cap k q : Cap) → is_iso_cap k ≡ false → adapt cap k ≡ Some q → is_iso_cap q ≡ false
adapt-not_iso cap Iso q n h = grind arith
adapt-not_iso cap k Mut n h = refl
adapt-not_iso cap k Tmp n h = refl
adapt-not_iso cap k Paused n h = refl
adapt-not_iso cap k Imm n h = refl
adapt-not_iso Mut Mut Iso n h = grind arith
adapt-not_iso Mut Tmp Iso n h = grind arith
adapt-not_iso Mut Paused Iso n h = grind arith
adapt-not_iso Mut Imm Iso n h = grind arith
adapt-not_iso Tmp Mut Iso n h = grind arith
adapt-not_iso Tmp Tmp Iso n h = grind arith
adapt-not_iso Tmp Paused Iso n h = grind arith
adapt-not_iso Tmp Imm Iso n h = grind arith
adapt-not_iso Paused Mut Iso n h = grind arith
adapt-not_iso Paused Tmp Iso n h = grind arith
adapt-not_iso Paused Paused Iso n h = grind arith
adapt-not_iso Paused Imm Iso n h = grind arith
adapt-not_iso Imm Mut Iso n h = grind arith
adapt-not_iso Imm Tmp Iso n h = grind arith
adapt-not_iso Imm Paused Iso n h = grind arith
adapt-not_iso Imm Imm Iso n h = grind arith
adapt-not_iso Iso Mut Iso n h = grind arith
adapt-not_iso Iso Tmp Iso n h = grind arith
adapt-not_iso Iso Paused Iso n h = grind arith
adapt-not_iso Iso Imm Iso n h = grind arith

-- what is read of a type that isn't `iso` isn't either
read-not_iso : (cap : Cap) (t u : Ty) → is_iso t ≡ false → read_through cap t ≡ Ok u → is_iso u ≡ false
read-not_iso cap Int u n e = let same : Int ≡ u = grind arith in ap is_iso (sym same)
read-not_iso cap Bool u n e = let same : Bool ≡ u = grind arith in ap is_iso (sym same)
read-not_iso cap (Ref k c) u n e = by (adapt cap k) refl e
  where
    by : (o : Option Cap) → adapt cap k ≡ o → ◌>>=◌ (ok_or o Capability) (λ k. Ok (Ref k c)) ≡ Ok u → is_iso u ≡ false
    by None x g = grind arith
    by (Some q) x g = let same : Ref q c ≡ u = grind arith in ap is_iso (sym same) ∙ adapt-not_iso cap k q n x

-- an object that is there and one that is there are the same
same_there : (store : List Seen) (a : ℕ) (o p : Seen) → slice_get store a ≡ Some o → slice_get store a ≡ Some p → o ≡ p
same_there store a o p e h = let both : ◌≡◌ {A = Option Seen} (Some o) (Some p) = sym e ∙ h in grind arith

pub walk_field-meets : (classes : List Class) (store : List Seen) (ws : List Window) → ObjectsFit classes store ws →
    (t u : Ty) (x : Name) (v : Val) (o : Seen) →
    Meets store ws t v → walk_field classes t x ≡ Ok u → object_at store v ≡ Ok o → Meets store ws u (field_value classes o x)
walk_field-meets classes store ws fit t u x v o m e h =
    let b = bind-ok (look_up classes t x) _ u e in
    let l = look_up-ok classes t x b.0 b.1 in
    let at = object_at-ok store v o h in
    let P : Ty → Type 0 = λ q. Meets store ws q v in
    let Q : Val → Type 0 = λ q. MeetsRef store l.class (LabelFits ws b.0.receiver) q in
    let n : Leads store at.address l.class (LabelFits ws b.0.receiver) = subst Q at.value (subst P l.reference m) in
    let same : n.object ≡ o = same_there store at.address n.object o n.there at.there in
    let class_is : o.class ≡ l.class = ap (λ (q : Seen). q.class) (sym same) ∙ n.class_is in
    let R : Seen → Type 0 = λ q. LabelFits ws b.0.receiver q.label in
    let fits : LabelFits ws b.0.receiver o.label = subst R same n.label_fits in
    let ty : field_type classes o.class x ≡ Some b.0.ty = rw class_is l.declared in
    let f = field-meets classes store (FieldFits ws o.label) (fields_of classes o.class) o.fields x b.0.ty (named-fields classes store ws o (fit
    at.address o at.there) x b.0.ty ty) ty in
    let S : Val → Type 0 = λ q. MeetsBy store (FieldFits ws o.label) b.0.ty q in
    read-meets store ws b.0.receiver b.0.ty u o.label (field_value classes o x) fits (subst S (sym (field_value-slot classes o x)) f) b.2

pub walk_fields-meets : (classes : List Class) (store : List Seen) (ws : List Window) → ObjectsFit classes store ws →
    (t u : Ty) (xs : List Name) (v w : Val) →
    Meets store ws t v → walk_fields classes t xs ≡ Ok u → follow_fields classes store v xs ≡ Ok w → Meets store ws u w
walk_fields-meets classes store ws fit t u [] v w m e h =
    let a : t ≡ u = grind arith in
    let b : v ≡ w = grind arith in
    let P : Ty → Type 0 = λ q. Meets store ws q v in
    let Q : Val → Type 0 = λ q. Meets store ws u q in subst Q b (subst P a m)
walk_fields-meets classes store ws fit t u (x ∷ xs) v w m e h =
    let b = bind-ok (walk_field classes t x) _ u e in
    let c = bind-ok (object_at store v) _ w h in
    walk_fields-meets classes store ws fit b.0 u xs (field_value classes c.0 x) w (walk_field-meets classes store ws fit t b.0 x v c.0 m b.1 c.1)
    b.2 c.2

-- what is known of the variables of a frame: their values meet the declared types, and those of the current depth do so at all windows
pub record Sees (store : List Seen) (ws : List Window) (n : ℕ) (env : Env) (locals : List Local) : Type 0 where
  pub named : Named env.entries locals
  pub values : FrameMeets store ws n locals
  pub depth : (i : ℕ) (e : Entry) → slice_get env.entries i ≡ Some e → at_depth env e ≡ true → windows_of n i ws ≡ ws

seen_by : (b : Truth) (store : List Seen) (under ws : List Window) (t : Ty) (v : Val) → ((l : Label) → IsOpen under l → IsOpen ws l) →
    (b ≡ true → under ≡ ws) →
    Meets store under t v → Meets store ws (if b then t else pause t) v
seen_by true store under ws t v up same m = let P : List Window → Type 0 = λ q. Meets store q t v in subst P (same refl) m
seen_by false store under ws t v up same m = pause-meets store under ws up t v m

-- a variable meets the type as which it is seen
pub seen-meets : (store : List Seen) (ws : List Window) (n : ℕ) (env : Env) (locals : List Local) → Sees store ws n env locals →
    (x : Variable) (e : Entry) →
    entry_of env x ≡ Some e → Meets store ws (seen_type env e) (value_in locals x)
seen-meets store ws n env locals s x e h =
    let f = first-at env.entries locals x e s.named h in
    let m = s.values (place_in locals x) f.local f.local_at in
    let P : Ty → Type 0 = λ q. Meets store (windows_of n (place_in locals x) ws) q f.local.value in
    let Q : Val → Type 0 = λ q. Meets store ws (seen_type env e) q in
    subst Q (sym f.value) (seen_by (at_depth env e) store (windows_of n (place_in locals x) ws) ws e.ty f.local.value
    (λ l. windows_of-open n (place_in locals x) ws l) (s.depth (place_in locals x) e f.entry_at) (subst P f.pair.ty m))

pub walk-meets : (classes : List Class) (store : List Seen) (ws : List Window) (n : ℕ) (env : Env) (locals : List Local) →
    ObjectsFit classes store ws →
    Sees store ws n env locals → (x : Variable) (xs : List Name) (t : Ty) (v : Val) → walk classes env x xs ≡ Ok t →
    follow_fields classes store (value_in locals x) xs ≡ Ok v → Meets store ws t v
walk-meets classes store ws n env locals fit s x xs t v e h =
    let b = bind-ok (ok_or (entry_of env x) Unknown) _ t e in
    walk_fields-meets classes store ws fit (seen_type env b.0) t xs (value_in locals x) v
    (seen-meets store ws n env locals s x b.0 (ok_or-ok (entry_of env x) Unknown b.0 b.1)) b.2 h

-- Numbers and truth values

number-meets_by : (b : Truth) (z : ℤ) (v : Val) → (if b then Ok (IntVal z) else Err trap.Overflow) ≡ Ok v → MeetsInt v
number-meets_by true z v e = let same : IntVal z ≡ v = grind arith in let P : Val → Type 0 = λ q. MeetsInt q in subst P same tt
number-meets_by false z v e = grind arith

number-meets : (z : ℤ) (v : Val) → number_value z ≡ Ok v → MeetsInt v
number-meets z v e = number-meets_by (in_range z) z v e

divided-meets_by : (b c : Truth) (z : ℤ) (v : Val) →
    (if b then Err trap.Zero else (if c then Ok (IntVal z) else Err trap.Overflow)) ≡ Ok v → MeetsInt v
divided-meets_by true c z v e = grind arith
divided-meets_by false c z v e = number-meets_by c z v e

truth-meets : (b : Truth) (v : Val) → ◌≡◌ {A = Computed} (Ok (BoolVal b)) (Ok v) → MeetsBool v
truth-meets b v e = let same : BoolVal b ≡ v = grind arith in let P : Val → Type 0 = λ q. MeetsBool q in subst P same tt

-- the result of an operator has its type
operate-meets : (op : BinOp) (x y : Val) (v : Val) (store : List Seen) (F : Cap → Label → Type 0) → operate op x y ≡ Ok v →
    MeetsBy store F (result_type (among op)) v
operate-meets Or x y v store F e = truth-meets _ v e
operate-meets And x y v store F e = truth-meets _ v e
operate-meets Eq x y v store F e = truth-meets _ v e
operate-meets Ne x y v store F e = truth-meets _ v e
operate-meets Lt x y v store F e = truth-meets _ v e
operate-meets Le x y v store F e = truth-meets _ v e
operate-meets Gt x y v store F e = truth-meets _ v e
operate-meets Ge x y v store F e = truth-meets _ v e
operate-meets Add x y v store F e = number-meets (as_int x +ℤ as_int y) v e
operate-meets Sub x y v store F e = number-meets (as_int x -ℤ as_int y) v e
operate-meets Mul x y v store F e = number-meets (as_int x *ℤ as_int y) v e
operate-meets Div x y v store F e = divided-meets_by (is_zero (as_int y)) (in_range (int_div (as_int x) (as_int y))) (int_div (as_int x) (as_int y))
    v e
operate-meets Rem x y v store F e = divided-meets_by (is_zero (as_int y)) (in_range (int_div (as_int x) (as_int y))) (int_rem (as_int x) (as_int y))
    v e

-- only `and` and `or` decide by the left operand
decided-truth : (op : BinOp) (x v : Val) (store : List Seen) (F : Cap → Label → Type 0) → decides op x ≡ true →
    ◌≡◌ {A = Computed} (Ok (BoolVal (as_bool x))) (Ok v) →
    MeetsBy store F (result_type (among op)) v
decided-truth Or x v store F d e = truth-meets _ v e
decided-truth And x v store F d e = truth-meets _ v e
decided-truth Eq x v store F d e = grind arith
decided-truth Ne x v store F d e = grind arith
decided-truth Lt x v store F d e = grind arith
decided-truth Le x v store F d e = grind arith
decided-truth Gt x v store F d e = grind arith
decided-truth Ge x v store F d e = grind arith
decided-truth Add x v store F d e = grind arith
decided-truth Sub x v store F d e = grind arith
decided-truth Mul x v store F d e = grind arith
decided-truth Div x v store F d e = grind arith
decided-truth Rem x v store F d e = grind arith

binary_by : (b : Truth) (op : BinOp) (x v : Val) (right : Computed) (store : List Seen) (F : Cap → Label → Type 0) → decides op x ≡ b →
    (if b then Ok (BoolVal (as_bool x)) else ◌>>=◌ right (λ w. operate op x w)) ≡ Ok v → MeetsBy store F (result_type (among op)) v
binary_by true op x v right store F d e = decided-truth op x v store F d e
binary_by false op x v right store F d e = let p = bind-ok right _ v e in operate-meets op x p.0 v store F p.2

nil-meets : (w : Option Ty) (t : Ty) (store : List Seen) (ws : List Window) → nil_type w ≡ Ok t → Meets store ws t Nil
nil-meets None t store ws e = grind arith
nil-meets (Some Int) t store ws e = grind arith
nil-meets (Some Bool) t store ws e = grind arith
nil-meets (Some (Ref cap c)) t store ws e = let same : Ref cap c ≡ t = grind arith in let P : Ty → Type 0 = λ q. Meets store ws q Nil in
    subst P same tt

-- a value that meets a type meets that of the whole judgement, which is the same
same-meets : (store : List Seen) (ws : List Window) (w : Option Ty) (t : Ty) (env : Env) (j : Judged) (v : Val) →
    against w t env ≡ Ok j → Meets store ws t v → Meets store ws j.ty v
same-meets store ws w t env j v e m = let a = against-ok w t env j e in let P : Ty → Type 0 = λ q. Meets store ws q v in subst P (sym a.ty) m

judge_path-meets : (classes : List Class) (store : List Seen) (ws : List Window) (n : ℕ) (env : Env) (locals : List Local) →
    ObjectsFit classes store ws →
    Sees store ws n env locals → (x : Variable) (xs : List Name) (j : Judged) (v : Val) → judge_path classes env x xs ≡ Ok j →
    follow_fields classes store (value_in locals x) xs ≡ Ok v → Meets store ws j.ty v
judge_path-meets classes store ws n env locals fit s x [] j v e h =
    let p = bind-ok (ok_or (entry_of env x) Unknown) _ j e in
    let q = test-then (available p.0) _ _ j p.2 in
    let same : record { ty = seen_type env p.0; env = used x p.0 env } ≡ j = grind arith in
    let value : value_in locals x ≡ v = grind arith in
    rw (← same, ← value) (seen-meets store ws n env locals s x p.0 (ok_or-ok (entry_of env x) Unknown p.0 p.1))
judge_path-meets classes store ws n env locals fit s x (f ∷ fs) j v e h =
    let p = bind-ok (walk classes env x (f ∷ fs)) _ j e in
    let q = test-then (negated (is_iso p.0)) _ _ j p.2 in
    let same : record { ty = p.0; env = env } ≡ j = grind arith in
    let P : Judged → Type 0 = λ q. Meets store ws q.ty v in
    subst P same (walk-meets classes store ws n env locals fit s x (f ∷ fs) p.0 v p.1 h)

-- Elements

-- an array to which a path leads
pub record ArrayAt (classes : List Class) (store : List Seen) (ws : List Window) (at : Val) (o : Seen) (a : Looked) : Type 0 where
  pub address : ℕ
  pub value : at ≡ Obj address
  pub there : slice_get store address ≡ Some o
  pub fits : LabelFits ws a.receiver o.label
  pub declared : element_type classes o.class ≡ Some a.ty
  pub elements : Elements classes store (FieldFits ws o.label) o a.ty

pub array-at : (classes : List Class) (store : List Seen) (ws : List Window) (n : ℕ) (env : Env) (locals : List Local) →
    ObjectsFit classes store ws →
    Sees store ws n env locals → (x : Variable) (xs : List Name) (a : Looked) (at : Val) (o : Seen) → walk_array classes env x xs ≡ Ok a →
    follow_fields classes store (value_in locals x) xs ≡ Ok at → object_at store at ≡ Ok o → ArrayAt classes store ws at o a
array-at classes store ws n env locals fit s x xs a at o e h k =
    let t = bind-ok (walk classes env x xs) _ a e in
    let r = bind-ok (follow t.0) _ a t.2 in
    let d = bind-ok (ok_or (element_type classes r.0.class) Mismatch) _ a r.2 in
    let followed = follow-ok t.0 r.0 r.1 in
    let declared = ok_or-ok (element_type classes r.0.class) Mismatch d.0 d.1 in
    let is : record { receiver = r.0.cap; ty = d.0 } ≡ a = let q = d.2 in grind arith in
    let m = walk-meets classes store ws n env locals fit s x xs t.0 at t.1 h in
    let p = object_at-ok store at o k in
    let P : Ty → Type 0 = λ q. Meets store ws q at in
    let Q : Val → Type 0 = λ q. MeetsRef store r.0.class (LabelFits ws r.0.cap) q in
    let l : Leads store p.address r.0.class (LabelFits ws r.0.cap) = subst Q p.value (subst P followed.reference m) in
    let one : l.object ≡ o = same_there store p.address l.object o l.there p.there in
    let class_is : o.class ≡ r.0.class = ap (λ (q : Seen). q.class) (sym one) ∙ l.class_is in
    let R : Seen → Type 0 = λ q. LabelFits ws r.0.cap q.label in
    let ty : element_type classes o.class ≡ Some d.0 = ap (element_type classes) class_is ∙ declared in
    let T : Looked → Type 0 = λ q. ArrayAt classes store ws at o q in
    subst T is (record {
      address = p.address;
      value = p.value;
      there = p.there;
      fits = subst R one l.label_fits;
      declared = ty;
      elements = elements-meet classes store ws o (fit p.address o p.there) d.0 ty;
    })

-- the place of an element is one of the array's
pub place-within : (o : Seen) (i : Val) (k : ℕ) → element_place o i ≡ Ok k → k < length o.fields
place-within o i k h = by (as_int i) (ok_or-ok (place_among (length o.fields) (as_int i)) trap.Index k h)
  where
    by_less : (b : Truth) (m : ℕ) → nat_lt m (length o.fields) ≡ b → ◌≡◌ {A = Option ℕ} (if b then Some m else None) (Some k) → k < length o.fields
    by_less true m e g = let same : m ≡ k = grind arith in let l : m < length o.fields = grind arith in omega (arith, same, l)
    by_less false m e g = grind arith

    by : (z : ℤ) → place_among (length o.fields) z ≡ Some k → k < length o.fields
    by (pos m) g = by_less (nat_lt m (length o.fields)) m refl g
    by (negsuc m) g = grind arith

-- what is read from an element meets the element's type
element-meets : (classes : List Class) (store : List Seen) (ws : List Window) (n : ℕ) (env : Env) (locals : List Local) →
    ObjectsFit classes store ws →
    Sees store ws n env locals → (w : Option Ty) (q : Path) (e : Expr) (j : Judged) (v : Val) → judge_expr classes env w (element q e) ≡ Ok j →
    value_of classes store locals (element q e) ≡ Ok v → Meets store ws j.ty v × (is_iso j.ty ≡ false)
element-meets classes store ws n env locals fit s w q e j v typed h =
    let p = element-ok classes env w q e j typed in
    let c = bind-ok (path_value classes store locals q) _ v h in
    let o = bind-ok (object_at store c.0) _ v c.2 in
    let i = bind-ok (value_of classes store locals e) _ v o.2 in
    let k = bind-ok (element_place o.0 i.0) _ v i.2 in
    let a = array-at classes store ws n env locals fit s q.base q.fields p.array c.0 o.0 p.walked c.1 o.1 in
    let is : unwrap_or (slice_get o.0.fields k.0) Nil ≡ v = let x = k.2 in grind arith in
    let m = a.elements.meets k.0 (place-within o.0 i.0 k.0 k.1) in
    let P : Val → Type 0 = λ x. Meets store ws p.ty x in (
      same-meets store ws w p.ty p.index.env j v p.last
          (subst P is (read-meets store ws p.array.receiver p.array.ty p.ty o.0.label (unwrap_or (slice_get o.0.fields k.0) Nil) a.fits m
          p.readable)),
      ap is_iso (against-ok w p.ty p.index.env j p.last).ty ∙ read-not_iso p.array.receiver p.array.ty p.ty a.elements.not_iso p.readable,
    )

-- what an expression computes to meets its type
pub value-meets : (classes : List Class) (store : List Seen) (ws : List Window) (n : ℕ) (env : Env) (locals : List Local) →
    ObjectsFit classes store ws →
    Sees store ws n env locals → (w : Option Ty) (e : Expr) (j : Judged) (v : Val) → judge_expr classes env w e ≡ Ok j →
    value_of classes store locals e ≡ Ok v → Meets store ws j.ty v
value-meets classes store ws n env locals fit s w (number z) j v e h =
    same-meets store ws w Int env j v e (let same : IntVal z ≡ v = grind arith in let P : Val → Type 0 = λ q. MeetsInt q in subst P same tt)
value-meets classes store ws n env locals fit s w (boolean b) j v e h = same-meets store ws w Bool env j v e (truth-meets b v h)
value-meets classes store ws n env locals fit s w nil j v e h =
    let p = bind-ok (nil_type w) _ j e in
    let same : Nil ≡ v = grind arith in
    let P : Val → Type 0 = λ q. Meets store ws p.0 q in
    same-meets store ws w p.0 env j v p.2 (subst P same (nil-meets w p.0 store ws p.1))
value-meets classes store ws n env locals fit s w (path q) j v e h =
    let p = bind-ok (judge_path classes env q.base q.fields) _ j e in
    same-meets store ws w p.0.ty p.0.env j v p.2 (judge_path-meets classes store ws n env locals fit s q.base q.fields p.0 v p.1 h)
value-meets classes store ws n env locals fit s w (is_nil q) j v e h =
    let p = then-ok (judge_is_nil classes env q.base q.fields) _ j e in
    let c = bind-ok (path_value classes store locals q) _ v h in same-meets store ws w Bool env j v p.2 (truth-meets _ v c.2)
value-meets classes store ws n env locals fit s w (neg a) j v e h =
    let p = bind-ok (judge_expr classes env (Some Int) a) _ j e in
    let c = bind-ok (value_of classes store locals a) _ v h in same-meets store ws w Int p.0.env j v p.2 (number-meets (neg_ℤ (as_int c.0)) v c.2)
value-meets classes store ws n env locals fit s w (not a) j v e h =
    let p = bind-ok (judge_expr classes env (Some Bool) a) _ j e in
    let c = bind-ok (value_of classes store locals a) _ v h in same-meets store ws w Bool p.0.env j v p.2 (truth-meets _ v c.2)
value-meets classes store ws n env locals fit s w (binary op a b) j v e h =
    let p = binary-ok classes env w (among op) a b j e in
    let c = bind-ok (value_of classes store locals a) _ v h in
    same-meets store ws w (result_type (among op)) p.r.env j v p.last
    (binary_by (decides op c.0) op c.0 v (value_of classes store locals b) store (LabelFits ws) refl c.2)
value-meets classes store ws n env locals fit s w (size q) j v e h =
    let p = then-ok (walk_array classes env q.base q.fields) _ j e in
    let c = bind-ok (path_value classes store locals q) _ v h in
    let o = bind-ok (object_at store c.0) _ v c.2 in
    let is : IntVal (pos (length o.0.fields)) ≡ v = let x = o.2 in grind arith in
    let P : Val → Type 0 = λ x. MeetsInt x in same-meets store ws w Int env j v p.2 (subst P is tt)
value-meets classes store ws n env locals fit s w (element q e) j v typed h =
    (element-meets classes store ws n env locals fit s w q e j v typed h).0

-- and an element isn't `iso`
pub element-not_iso : (classes : List Class) (store : List Seen) (ws : List Window) (n : ℕ) (env : Env) (locals : List Local) →
    ObjectsFit classes store ws →
    Sees store ws n env locals → (w : Option Ty) (q : Path) (e : Expr) (j : Judged) (v : Val) → judge_expr classes env w (element q e) ≡ Ok j →
    value_of classes store locals (element q e) ≡ Ok v → is_iso j.ty ≡ false
element-not_iso classes store ws n env locals fit s w q e j v typed h =
    (element-meets classes store ws n env locals fit s w q e j v typed h).1
