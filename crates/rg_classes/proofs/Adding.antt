-- Rows that stand for what was written, put together.
use Rattle.std.proofs.Common.{◌≡◌, ℕ, zero, suc, ◌<◌, List, [], ◌∷◌, ◌++◌, All, map, length, slice_get, Option, Some, None, refl}
use Rattle.std.proofs.Common.{option_map, drop, sym, ◌∙◌, ap, subst, arith}
use Rattle.std.proofs.lemmas.List.{map-append, length-map}
use Rattle.std.proofs.lemmas.Option.{slice_get-map, slice_get_within}
use Rattle.std.proofs.lemmas.List.Elements.{All-nil, All-head, All-tail, All-push, All-weaker, All-drop}
use Rattle.rg_base.specs.declared.ty.Ty.{Ty}
use Rattle.rg_base.proofs.Callers.Lists.{below, there}
use Rattle.rg_tree.specs.declared.rows.Span.{Span}
use Rattle.rg_tree.specs.declared.rows.TypeRow.{TypeRow}
use Rattle.rg_tree.specs.declared.rows.ParamRow.{ParamRow}
use Rattle.rg_tree.specs.declared.rows.MemberRow.{MemberRow}
use Rattle.rg_tree.specs.declared.rows.MemberRow.TheVariants as row
use Rattle.rg_tree.specs.declared.rows.ClassRow.{ClassRow}
use Rattle.rg_tree.specs.Tree as tree
use Rattle.rg_tree.specs.Tree.{Name, Block, Param, Member, Class, Tree}
use Rattle.rg_tree.specs.Rows.Tables.{Tables, name_at, numbers_in}
use Rattle.rg_tree.specs.Rows.RowTrees.{type_of, block_of, param_at, param_of, member_at, member_of, members_under, class_of, classes_of, program_of}
use Rattle.rg_tree.specs.Rows.RowsExist.{Holds, IsSpanBelow, IsNameIn, IsTypeIn, IsParamNumber, IsParamIn, IsMemberNumber, IsMemberIn}
use Rattle.rg_tree.specs.Rows.RowsExist.{IsClassIn}
use Rattle.rg_tree.specs.Keeps.{Keeps}
use Rattle.rg_tree.specs.Adds.{Extends, Means, Adds}
use Rattle.rg_tree.proofs.Callers.{Keeps-same, Keeps-trans, Holds-keeps, IsAbove-Keeps, block_of-keeps}
use Rattle.rg_tree.proofs.Grows.{IsBlockIn-grows}
use Rattle.rg_tree.proofs.Adding.{extends-trans, extends-by, means-later, param-means, member-means}
use Rattle.rg_spell.specs.declared.rows.Head.{Head}
use Rattle.rg_spell.specs.declared.rows.Shape.{Shape}
use Rattle.rg_verify_expressions.specs.Naming.{written, field_name, method_name, variable_name, class_name}
use Rattle.rg_classes.specs.declared.body_row.BodyRow.{BodyRow}
use Rattle.rg_classes.specs.Written.{Bodied, numbered, field_written, param_written, method_written, members_written, class_written}
use Rattle.rg_classes.specs.Rows.{body_of, IsBodyIn, AreBodies, AreMethods, AreMembers, result_of, IsResultIn, params_in, AreParamsIn, members_in}
use Rattle.rg_classes.specs.Rows.{AreMembersIn, AddsClasses}

module _ {V A : Type 0} {at : Tables → V → A} {exists : Tables → V → Type 0} where
  pub means-there : {t : Tables} {v : V} {a : A} → Means at exists t v a → exists t v
  means-there {t} m = m.there t (Keeps-same t)

  pub adds-there : {t u : Tables} {v : V} {a : A} → Adds at exists t u v a → exists u v
  adds-there a = means-there a.means

-- a row of two parts that are added in turn
pub adds-two : {B W : Type 0} {at : Tables → W → B} {exists : Tables → W → Type 0}
    {V1 A1 V2 A2 : Type 0} {at1 : Tables → V1 → A1} {exists1 : Tables → V1 → Type 0}
    {at2 : Tables → V2 → A2} {exists2 : Tables → V2 → Type 0} (row : V1 → V2 → W) (f : A1 → A2 → B)
    → ((u : Tables) (v1 : V1) (v2 : V2) → at u (row v1 v2) ≡ f (at1 u v1) (at2 u v2))
    → ((u : Tables) (v1 : V1) (v2 : V2) → exists1 u v1 → exists2 u v2 → exists u (row v1 v2))
    → {t u w : Tables} {v1 : V1} {v2 : V2} {a1 : A1} {a2 : A2} → Adds at1 exists1 t u v1 a1 → Adds at2 exists2 u w v2 a2
    → Adds at exists t w (row v1 v2) (f a1 a2)
adds-two row f e h {v1 = v1} {v2 = v2} a b =
    let m = means-later a.means b.extends in
    record {
      extends = extends-trans a.extends b.extends;
      means = record {
        is = λ x k. let p = m.is x k in let q = b.means.is x k in e x v1 v2 ∙ cc;
        there = λ x k. h x v1 v2 (m.there x k) (b.means.there x k);
      };
    }

-- what is added over a part that was added before
pub adds-over : {V W A B : Type 0} {at1 : Tables → V → A} {exists1 : Tables → V → Type 0} {at : Tables → W → B} {exists : Tables → W → Type 0}
    (f : A → B) {t u w : Tables} {v : V} {n : W} {a : A} → Adds at1 exists1 t u v a → Adds at exists u w n (f (at1 u v)) → Adds at exists t w n (f a)
adds-over f {u = u} a b =
    let same = a.means.is u (Keeps-same u) in
    record {
      extends = extends-trans a.extends b.extends;
      means = record { is = λ x k. b.means.is x k ∙ ap f same; there = b.means.there };
    }

-- a row that is put last into its table
module _ {u v : Tables} (n : ℕ) (k : Keeps u v) (p : program_of v ≡ program_of u) where
  pub param-put : (r : ParamRow) {a : Param} → n ≡ length u.params → param_at v n ≡ a → v ≡ record u { params = u.params ++ r ∷ [] }
      → Adds param_at IsParamNumber u v n a
  param-put r {a} l e w =
      record { extends = extends-by k p; means = param-means n a e (below u.params v.params r n (ap (λ (x : Tables). x.params) w) l) }

  pub member-put : (r : MemberRow) {a : Member} → n ≡ length u.members → member_at v n ≡ a → v ≡ record u { members = u.members ++ r ∷ [] }
      → Adds member_at IsMemberNumber u v n a
  member-put r {a} l e w =
      record { extends = extends-by k p; means = member-means n a e (below u.members v.members r n (ap (λ (x : Tables). x.members) w) l) }

-- the row of a field, and of a parameter
pub field-row : {t u w : Tables} (k : ℕ) (ty : Ty) {name : ℕ} {type : TypeRow} → Adds name_at IsNameIn t u name (field_name k)
    → Adds type_of IsTypeIn u w type (written ty) → Adds member_of IsMemberIn t w (row.Field name type 0) (field_written k ty)
field-row k ty a b =
    adds-two {at = member_of} {exists = IsMemberIn} (λ n y. row.Field n y 0) (λ n y. tree.field (record { name = n; ty = y; line = 0 }))
    (λ u n y. refl) (λ u n y p q. (p, q)) a b

pub param-row : {t u w : Tables} (s : ℕ) (ty : Ty) {name : ℕ} {type : TypeRow} → Adds name_at IsNameIn t u name (variable_name s)
    → Adds type_of IsTypeIn u w type (written ty) → Adds param_of IsParamIn t w (record { name = name; ty = type }) (param_written s ty)
param-row s ty a b =
    adds-two {at = param_of} {exists = IsParamIn} (λ n y. record { name = n; ty = y }) (λ n y. record { name = n; ty = y }) (λ u n y. refl)
    (λ u n y p q. record { name = p; ty = q }) a b

-- a span of rows by their numbers
pub means-span : {A : Type 0} (at : Tables → ℕ → A) (size : Tables → ℕ) {t : Tables} {ns : List ℕ} {s : Span} {xs : List A}
    → Means (λ u. map (at u)) (λ u. All (λ k. k < size u)) t ns xs → Holds t s ns
    → Means (λ w s. map (at w) (numbers_in w s)) (λ w. IsSpanBelow w (size w)) t s xs
means-span at size {ns = ns} {s = s} a h = record {
  is = λ w k. ap (map (at w)) (Holds-keeps k s ns h).these_are ∙ a.is w k;
  there = λ w k. let i = Holds-keeps k s ns h in
      record { within = i.within; each = subst (All (λ k. k < size w)) (sym i.these_are) (a.there w k) };
}

-- the row of a method, whose name, parameters and result were added in turn
pub method-row : {t u v w : Tables} (k : ℕ) (h : Head) (r : BodyRow) (b : Bodied) {name : ℕ} {params : Span} {result : Option TypeRow}
    → Adds name_at IsNameIn t u name (method_name k) → Adds params_in AreParamsIn u v params (numbered param_written 1 h.params)
    → Adds result_of IsResultIn v w result (option_map written h.result) → Means body_of IsBodyIn t r b
    → Adds member_of IsMemberIn t w (row.Method h.cap name params result r.block r.line) (tree.method (method_written k h b))
method-row {t} {u} {v} {w} k h r b {name} {params} {result} a c d m =
    let later = extends-trans c.extends d.extends in
    let all = extends-trans a.extends later in
    let n = means-later a.means later in
    let p = means-later c.means d.extends in
    let o = means-later m all in
    record {
      extends = all;
      means = record {
        is = λ x j.
            let e = n.is x j in
            let f = p.is x j in
            let g = d.means.is x j in
            let i = o.is x j in
            let block = ap (λ (y : Bodied). y.block) i in
            let line = ap (λ (y : Bodied). y.line) i in
            ap (λ (y : Name). tree.method (record {
              receiver = h.cap;
              name = y;
              params = params_in x params;
              result = result_of x result;
              body = block_of x r.block;
              line = r.line;
            })) e
            ∙ ap (λ (y : List Param). tree.method (record {
              receiver = h.cap;
              name = method_name k;
              params = y;
              result = result_of x result;
              body = block_of x r.block;
              line = r.line;
            })) f
            ∙ ap (λ (y : Option tree.Ty). tree.method (record {
              receiver = h.cap;
              name = method_name k;
              params = numbered param_written 1 h.params;
              result = y;
              body = block_of x r.block;
              line = r.line;
            })) g
            ∙ ap (λ (y : Bodied). tree.method (method_written k h y)) i;
        there = λ x j. (n.there x j, p.there x j, d.means.there x j, o.there x j);
      };
    }

-- members one behind another

pub members-none : (t : Tables) → AreMembers t [] []
members-none t = record { is = λ u k. refl; there = λ u k. All-nil (IsMemberNumber u) }

module _ {A : Type 0} (at : Tables → ℕ → A) (exists : Tables → ℕ → Type 0) where
  pub means-push : {t u : Tables} {ns : List ℕ} {n : ℕ} {xs : List A} {x : A} → Means (λ w. map (at w)) (λ w. All (exists w)) t ns xs
      → Adds at exists t u n x → Means (λ w. map (at w)) (λ w. All (exists w)) u (ns ++ n ∷ []) (xs ++ x ∷ [])
  means-push {ns = ns} {n = n} a b =
      let m = means-later a b.extends in
      record {
        is = λ w k. let e = m.is w k in let f = b.means.is w k in map-append (at w) ns (n ∷ []) ∙ cc;
        there = λ w k. All-push (exists w) ns n (m.there w k) (b.means.there w k);
      }

-- bodies by their rows

-- the body of a place
some-is : {A : Type 0} {x y : A} → Some x ≡ Some y → x ≡ y
some-is e = cc

pub body-means : {t : Tables} {rows : List BodyRow} {bs : List Bodied} (i : ℕ) (r : BodyRow) (b : Bodied) → AreBodies t rows bs
    → slice_get rows i ≡ Some r → slice_get bs i ≡ Some b → IsBodyIn t r → Means body_of IsBodyIn t r b
body-means {t} {rows} {bs} i r b m at is there = record {
  is = λ u k.
      let mapped : slice_get (map (body_of u) rows) i ≡ Some (body_of u r) =
      slice_get-map (body_of u) rows i ∙ ap (λ (o : Option BodyRow). option_map (body_of u) o) at in
      some-is (sym mapped ∙ ap (λ (xs : List Bodied). slice_get xs i) (m.is u k) ∙ is);
  there = λ u k. IsBlockIn-grows (IsAbove-Keeps k) r.block there;
}

-- methods stay where tables grow
pub methods-keep : {t u : Tables} {heads : List Head} {rows : List BodyRow} → AreMethods t heads rows → Keeps t u → AreMethods u heads rows
methods-keep {t} {u} {rows = rows} m k = record {
  few = m.few;
  params = m.params;
  bodies = All-weaker (IsBodyIn t) (IsBodyIn u) (λ r h. IsBlockIn-grows (IsAbove-Keeps k) r.block h) rows m.bodies;
  same = m.same;
}

pub bodies-keep : {t u : Tables} {rows : List BodyRow} {bs : List Bodied} → AreBodies t rows bs → Keeps t u → AreBodies u rows bs
bodies-keep m k = record { is = λ w j. m.is w (Keeps-trans k j); there = λ w j. m.there w (Keeps-trans k j) }

-- a class whose name, element and members were added

members-means : (x : Tables) (element : Option TypeRow) (of : Option Ty) (s : Span) (fields : List Ty) (methods : List Member)
    → result_of x element ≡ option_map written of → members_in x s ≡ numbered field_written 0 fields ++ methods
    → members_under x element s ≡ members_written of fields methods
members-means x None None s fields methods e m = m
members-means x (Some y) (Some t) s fields methods e m = refl
members-means x None (Some t) s fields methods e m = absurd cc
members-means x (Some y) None s fields methods e m = absurd cc

pub class-row : {t : Tables} (k : ℕ) (shape : Shape) (methods : List Member) {name : ℕ} {element : Option TypeRow} {s : Span}
    → Means name_at IsNameIn t name (class_name k) → Means result_of IsResultIn t element (option_map written shape.element)
    → Means members_in AreMembersIn t s (numbered field_written 0 shape.fields ++ methods)
    → Means class_of IsClassIn t (record { name = name; is_tmp = shape.is_tmp; element = element; members = s; line = 0 })
    (class_written k shape methods)
class-row {t} k shape methods {name} {element} {s} a b c = record {
  is = λ x j.
      let e = a.is x j in
      let f = b.is x j in
      let g = members-means x element shape.element s shape.fields methods f (c.is x j) in
      ap (λ (y : Name). record { name = y; is_tmp = shape.is_tmp; element = result_of x element; members = members_under x element s; line = 0 }) e
      ∙ ap (λ (y : Option tree.Ty). record {
        name = class_name k;
        is_tmp = shape.is_tmp;
        element = y;
        members = members_under x element s;
        line = 0;
      }) f
      ∙ ap (λ (y : List Member). record {
        name = class_name k;
        is_tmp = shape.is_tmp;
        element = option_map written shape.element;
        members = y;
        line = 0;
      }) g;
  there = λ x j. record { name = a.there x j; element = b.there x j; members = c.there x j };
}

-- it is put last
pub class-put : {t u v : Tables} {r : ClassRow} {c : Class} → Extends t u → Means class_of IsClassIn u r c → Keeps u v
    → program_of v ≡ record (program_of u) { classes = classes_of u ++ class_of u r ∷ [] } → AddsClasses t v (c ∷ [])
class-put {t} {u} {v} {r} {c} g m k e =
    let same : class_of u r ≡ c = m.is u (Keeps-same u) in
    record {
      keeps = Keeps-trans g.keeps k;
      program = e ∙ ap (λ (d : Class). record (program_of u) { classes = classes_of u ++ d ∷ [] }) same
          ∙ ap (λ (p : Tree). record p { classes = p.classes ++ c ∷ [] }) g.program;
    }

-- a list of rows by their numbers is kept as a span
pub span-put : {A : Type 0} (at : Tables → ℕ → A) (size : Tables → ℕ) {t u v : Tables} {ns ms : List ℕ} {s : Span} {xs : List A} → Extends t u
    → Means (λ w. map (at w)) (λ w. All (λ k. k < size w)) u ns xs → Keeps u v → program_of v ≡ program_of u → ms ≡ ns → Holds v s ms
    → Adds (λ w s. map (at w) (numbers_in w s)) (λ w. IsSpanBelow w (size w)) t v s xs
span-put at size {v = v} {s = s} g m k p same h =
    let later = extends-by k p in
    record {
      extends = extends-trans g later;
      means = means-span at size (means-later m later) (subst (Holds v s) same h);
    }

pub params-none : (t : Tables) → Means (λ u. map (param_at u)) (λ u. All (IsParamNumber u)) t [] []
params-none t = record { is = λ u k. refl; there = λ u k. All-nil (IsParamNumber u) }

-- a body that is there
pub body-here : {t : Tables} (r : BodyRow) → IsBodyIn t r → Means body_of IsBodyIn t r (body_of t r)
body-here {t} r h = record {
  is = λ u k. ap (λ (b : Block). record { block = b; line = r.line }) (block_of-keeps k r.block h);
  there = λ u k. IsBlockIn-grows (IsAbove-Keeps k) r.block h;
}

-- the bodies that are there
bodies-here : (t : Tables) (rows : List BodyRow) → All (IsBodyIn t) rows → (u : Tables) → Keeps t u → map (body_of u) rows ≡ map (body_of t) rows
bodies-here t [] all u k = refl
bodies-here t (r ∷ rows) all u k =
    let one = (body-here r (All-head (IsBodyIn t) r rows all)).is u k in
    let others = bodies-here t rows (All-tail (IsBodyIn t) r rows all) u k in
    ap (λ (b : Bodied). b ∷ map (body_of u) rows) one ∙ ap (λ (bs : List Bodied). body_of t r ∷ bs) others

pub bodies-there : (t : Tables) (rows : List BodyRow) → All (IsBodyIn t) rows → AreBodies t rows (map (body_of t) rows)
bodies-there t rows all = record {
  is = bodies-here t rows all;
  there = λ u k. All-weaker (IsBodyIn t) (IsBodyIn u) (λ r h. IsBlockIn-grows (IsAbove-Keeps k) r.block h) rows all;
}

-- what holds of all holds of the one at a place
pub all-at : {A : Type 0} (P : A → Type 0) (xs : List A) (i : ℕ) (x : A) → All P xs → slice_get xs i ≡ Some x → P x
all-at P [] i x all e = absurd cc
all-at P (y ∷ ys) zero x all e = let same : y ≡ x = cc in subst P same (All-head P y ys all)
all-at P (y ∷ ys) (suc i) x all e = all-at P ys i x (All-tail P y ys all) e

-- what holds of all holds of the next one
pub all-next : {A : Type 0} (P : A → Type 0) (xs : List A) (i : ℕ) (x : A) (ys : List A) → All P xs → drop i xs ≡ x ∷ ys → P x
all-next P xs i x ys all e = All-head P x ys (subst (All P) e (All-drop P i xs all))

-- the body of a place, later
pub body-next : {t u : Tables} {heads : List Head} {rows : List BodyRow} {bs : List Bodied} (i : ℕ) (r : BodyRow) → AreMethods t heads rows
    → AreBodies t rows bs → Keeps t u → slice_get rows i ≡ Some r → (b : Bodied) × (slice_get bs i ≡ Some b) × Means body_of IsBodyIn u r b
body-next {t} {u} {heads} {rows} {bs} i r m a k at =
    let long : length rows ≡ length bs = sym (length-map rows (body_of t)) ∙ ap length (a.is t (Keeps-same t)) in
    let (b, is) = there bs i (omega (arith, long, slice_get_within rows i r at)) in
    let one = body-means i r b a at is (all-at (IsBodyIn t) rows i r m.bodies at) in
    (b, is, record { is = λ w j. one.is w (Keeps-trans k j); there = λ w j. one.there w (Keeps-trans k j) })

-- the row of a class, whose parts were added in turn
pub class-is : (class : ℕ) (shape : Shape) (methods : List Member) (types : List Ty) {t0 t1 t2 t3 t4 t5 : Tables} {name : ℕ}
    {element : Option TypeRow} {s : Span} {first fields all held : List ℕ} → Adds name_at IsNameIn t0 t1 name (class_name class)
    → Adds result_of IsResultIn t1 t2 element (option_map written shape.element) → first ≡ [] → types ≡ shape.fields
    → ((ms : List Member) → AreMembers t2 first ms → AreMembers t3 fields (ms ++ numbered field_written 0 types)) → Extends t2 t3
    → ((ms : List Member) → AreMembers t3 fields ms → AreMembers t4 all (ms ++ methods)) → Extends t3 t4 → Keeps t4 t5
    → program_of t5 ≡ program_of t4 → held ≡ all → Holds t5 s held
    → Means class_of IsClassIn t5 (record { name = name; is_tmp = shape.is_tmp; element = element; members = s; line = 0 })
    (class_written class shape methods)
class-is class shape methods types {t2 = t2} {t3 = t3} {t4 = t4} {t5 = t5} {s = s} {fields = fields} {all = all} a b none same fs g ms h k p is held =
    let last = extends-by k p in
    let later = extends-trans h last in
    let from = extends-trans g later in
    let begun = fs [] (subst (λ (ns : List ℕ). AreMembers t2 ns []) (sym none) (members-none t2)) in
    let begun = subst (λ (ts : List Ty). AreMembers t3 fields (numbered field_written 0 ts)) same begun in
    let done = ms (numbered field_written 0 shape.fields) begun in
    class-row class shape methods (means-later a.means (extends-trans b.extends from)) (means-later b.means from)
    (means-span member_at (λ w. length w.members) (means-later done last) (subst (Holds t5 s) is held))
