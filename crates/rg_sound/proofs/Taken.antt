-- `let` and assignments, whatever the right side.
use Rattle.std.proofs.Common.{◌≡◌, true, List, [], ◌∷◌, Option, Some, ok_or, Ok}
use Rattle.rg_base.specs.declared.words.Cap.{Cap}
use Rattle.rg_base.specs.declared.words.Cap.TheVariants.{Mut, Tmp, Imm, Iso}
use Rattle.rg_base.specs.declared.ty.Ty.{Ty}
use Rattle.rg_base.specs.declared.ty.Ty.TheVariants as ty
use Rattle.rg_base.specs.declared.words.Manager.{Manager}
use Rattle.rg_base.specs.declared.fault.Code.TheVariants.{Unknown, Mismatch, Unavailable}
use Rattle.rg_tree.specs.Tree.{Name, Variable, ref, Expr, Right, value, new, new_tmp, new_iso, freeze, merge, read, more, result_of}
use Rattle.rg_tree.specs.Tree.{assign, Class}
use Rattle.rg_rules.specs.Capabilities.{below, iso_class}
use Rattle.rg_rules.specs.Types.{good_type}
use Rattle.rg_rules.specs.Environment.{Env, entry_of, is_ready, marked, gone}
use Rattle.rg_rules.specs.Expressions.{Judged}
use Rattle.rg_rules.specs.Rights.{judge_size, judge_new}
use Rattle.rg_rules.proofs.Answers.{bind-ok, test-then}
use Rattle.rg_rules.proofs.Expression.{against-below}
use Rattle.rg_sound.specs.Laws.{KindKeeps, DeclareKeeps, AssignKeeps, AssignElementKeeps}
use Rattle.rg_sound.proofs.Values.Assign.{RightBelow, value-righted, read-righted, more-righted, value-below, read-below, more-below}
use Rattle.rg_sound.proofs.Values.Assign.{declare-by}
use Rattle.rg_sound.proofs.Values.Assign.{assign-by}
use Rattle.rg_sound.proofs.Values.Invoke.{declare-call, assign-call}
use Rattle.rg_sound.proofs.Stores.Field.{assign-field, assign-field-call}
use Rattle.rg_sound.proofs.Stores.Element.{assign-element, assign-element-call}
use Rattle.rg_sound.proofs.Stores.Make.{new-righted, new_tmp-righted, new_iso-righted}
use Rattle.rg_sound.proofs.Stores.Consume.{merge-righted}
use Rattle.rg_sound.proofs.Stores.Freeze.{freeze-righted}

judge_new-below : (classes : List Class) (env : Env) (wanted : Ty) (cap : Cap) (x : Name) (many : Option Expr) (j : Judged) →
    judge_new classes env wanted cap x many ≡ Ok j → below j.ty wanted ≡ true
judge_new-below classes env wanted cap x many j h =
    let p = bind-ok (good_type classes (ref cap x)) _ j h in
    let q = bind-ok (judge_size classes env x many) _ j p.2 in against-below wanted p.0 q.0 j q.2

pub new-below : (x : Name) (many : Option Expr) → RightBelow (new x many)
new-below x many classes env wanted j h = judge_new-below classes env wanted Mut x many j h

pub new_tmp-below : (x : Name) (many : Option Expr) → RightBelow (new_tmp x many)
new_tmp-below x many classes env wanted j h = judge_new-below classes env wanted Tmp x many j h

pub new_iso-below : (x : Name) (many : Option Expr) (m : Manager) → RightBelow (new_iso x many m)
new_iso-below x many m classes env wanted j h = judge_new-below classes env wanted Iso x many j h

pub merge-below : (y : Name) → RightBelow (merge y)
merge-below y classes env wanted j h =
    let e = bind-ok (ok_or (entry_of env (Some y)) Unknown) _ j h in
    let c = bind-ok (ok_or (iso_class e.0.ty) Mismatch) _ j e.2 in
    let q = test-then (is_ready e.0.readiness) Unavailable _ j c.2 in
    against-below wanted (ty.Ref Mut c.0) (marked (Some y) gone env) j q.1

pub freeze-below : (y : Name) → RightBelow (freeze y)
freeze-below y classes env wanted j h =
    let e = bind-ok (ok_or (entry_of env (Some y)) Unknown) _ j h in
    let c = bind-ok (ok_or (iso_class e.0.ty) Mismatch) _ j e.2 in
    let q = test-then (is_ready e.0.readiness) Unavailable _ j c.2 in
    against-below wanted (ty.Ref Imm c.0) (marked (Some y) gone env) j q.1

-- `let x: T = r`
pub declare-keeps : DeclareKeeps
declare-keeps x t (value e) = declare-by (value e) (value-righted e) (value-below e) x t
declare-keeps x t (new c n) = declare-by (new c n) (new-righted c n) (new-below c n) x t
declare-keeps x t (new_tmp c n) = declare-by (new_tmp c n) (new_tmp-righted c n) (new_tmp-below c n) x t
declare-keeps x t (new_iso c n m) = declare-by (new_iso c n m) (new_iso-righted c n m) (new_iso-below c n m) x t
declare-keeps x t (freeze y) = declare-by (freeze y) (freeze-righted y) (freeze-below y) x t
declare-keeps x t (merge y) = declare-by (merge y) (merge-righted y) (merge-below y) x t
declare-keeps x t read = declare-by read read-righted read-below x t
declare-keeps x t more = declare-by more more-righted more-below x t
declare-keeps x t (result_of c) = declare-call c x t

assign-keeps-by : (x : Variable) (fs : List Name) (r : Right) → KindKeeps (assign (record { base = x; fields = fs }) r)
assign-keeps-by x [] (value e) = assign-by (value e) (value-righted e) (value-below e) x
assign-keeps-by x [] (new c n) = assign-by (new c n) (new-righted c n) (new-below c n) x
assign-keeps-by x [] (new_tmp c n) = assign-by (new_tmp c n) (new_tmp-righted c n) (new_tmp-below c n) x
assign-keeps-by x [] (new_iso c n m) = assign-by (new_iso c n m) (new_iso-righted c n m) (new_iso-below c n m) x
assign-keeps-by x [] (freeze y) = assign-by (freeze y) (freeze-righted y) (freeze-below y) x
assign-keeps-by x [] (merge y) = assign-by (merge y) (merge-righted y) (merge-below y) x
assign-keeps-by x [] read = assign-by read read-righted read-below x
assign-keeps-by x [] more = assign-by more more-righted more-below x
assign-keeps-by x [] (result_of c) = assign-call c x
assign-keeps-by x (f ∷ fs) (value e) = assign-field (value e) (value-righted e) (value-below e) x f fs
assign-keeps-by x (f ∷ fs) (new c n) = assign-field (new c n) (new-righted c n) (new-below c n) x f fs
assign-keeps-by x (f ∷ fs) (new_tmp c n) = assign-field (new_tmp c n) (new_tmp-righted c n) (new_tmp-below c n) x f fs
assign-keeps-by x (f ∷ fs) (new_iso c n m) = assign-field (new_iso c n m) (new_iso-righted c n m) (new_iso-below c n m) x f fs
assign-keeps-by x (f ∷ fs) (freeze y) = assign-field (freeze y) (freeze-righted y) (freeze-below y) x f fs
assign-keeps-by x (f ∷ fs) (merge y) = assign-field (merge y) (merge-righted y) (merge-below y) x f fs
assign-keeps-by x (f ∷ fs) read = assign-field read read-righted read-below x f fs
assign-keeps-by x (f ∷ fs) more = assign-field more more-righted more-below x f fs
assign-keeps-by x (f ∷ fs) (result_of c) = assign-field-call c x f fs

-- `x = r` and `q.f = r`
pub assign-keeps : AssignKeeps
assign-keeps p r = assign-keeps-by p.base p.fields r

-- `q[e] = r`
pub assign_element-keeps : AssignElementKeeps
assign_element-keeps q i (value e) = assign-element (value e) (value-righted e) (value-below e) q i
assign_element-keeps q i (new c n) = assign-element (new c n) (new-righted c n) (new-below c n) q i
assign_element-keeps q i (new_tmp c n) = assign-element (new_tmp c n) (new_tmp-righted c n) (new_tmp-below c n) q i
assign_element-keeps q i (new_iso c n m) = assign-element (new_iso c n m) (new_iso-righted c n m) (new_iso-below c n m) q i
assign_element-keeps q i (freeze y) = assign-element (freeze y) (freeze-righted y) (freeze-below y) q i
assign_element-keeps q i (merge y) = assign-element (merge y) (merge-righted y) (merge-below y) q i
assign_element-keeps q i read = assign-element read read-righted read-below q i
assign_element-keeps q i more = assign-element more more-righted more-below q i
assign_element-keeps q i (result_of c) = assign-element-call c q i
