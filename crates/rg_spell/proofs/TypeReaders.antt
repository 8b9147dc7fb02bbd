-- The two laws of managers, types, classes and heads.
use Rattle.std.proofs.Common.{◌≡◌, ℕ, ◌^◌, ◌<◌, Bool, true, false, List, [], ◌∷◌, ◌++◌, Option, Some, None, refl, sym, ap, subst, ◌∙◌}
use Rattle.std.proofs.Common.{append_assoc, inl, inr}
use Rattle.std.specs.Int.{w32}
use Rattle.rg_base.specs.declared.words.Cap.{Cap}
use Rattle.rg_base.specs.declared.words.Cap.TheVariants as cap
use Rattle.rg_base.specs.declared.words.Manager.{Manager}
use Rattle.rg_base.specs.declared.words.Manager.TheVariants as managers
use Rattle.rg_base.specs.declared.ty.Ty.{Ty}
use Rattle.rg_base.specs.declared.ty.Ty.TheVariants as ty
use Rattle.rg_spell.specs.declared.rows.Shape.{Shape}
use Rattle.rg_spell.specs.declared.rows.Head.{Head}
use Rattle.rg_spell.specs.Spelling.{four, bool_number, counted, Counted, manager_number, cap_number, ty_bytes, FitsTy, members_bytes, FitsMembers}
use Rattle.rg_spell.specs.Spelling.{shape_bytes, FitsShape, result_bytes, FitsResult, head_bytes, FitsHead}
use Rattle.rg_spell.specs.Reading.{◌>>=◌, number_at, bool_of, bool_at, counted_at, manager_of, manager_at, cap_of, cap_at, ref_at}
use Rattle.rg_spell.specs.Reading.{ty_behind, ty_at}
use Rattle.rg_spell.specs.Reading.{members_at, shape_at, result_behind, result_at, head_at}
use Rattle.rg_spell.specs.Laws.{IsBytes, Takes, Reads}
use Rattle.rg_spell.proofs.Readers.{IsBytes-rest, bind_some, some_is, pick, Takes-then, reads_four, reads_byte, reads_counted}

-- Truth values, managers, capabilities

bool_is : (n : ℕ) (b : Bool) → bool_of n ≡ Some b → n ≡ bool_number b
bool_is n b e =
    elim (pick n 0 false _ b e) [
      | inl p ↦ p.0 ∙ ap bool_number p.1
      | inr f ↦ elim (pick n 1 true _ b f) [
        | inl p ↦ p.0 ∙ ap bool_number p.1
        | inr g ↦ absurd cc
      ]
    ]

bool_again : (b : Bool) → bool_of (bool_number b) ≡ Some b
bool_again false = refl
bool_again true = refl

pub reads_bool : Reads bool_at (λ b. bool_number b ∷ []) (λ b. Unit {0})
unfolding bool_at
reads_bool = reads_byte bool_of bool_number bool_is bool_again

manager_is : (n : ℕ) (m : Manager) → manager_of n ≡ Some m → n ≡ manager_number m
manager_is n m e =
    elim (pick n 0 managers.Arena _ m e) [
      | inl p ↦ p.0 ∙ ap manager_number p.1
      | inr f ↦ elim (pick n 1 managers.Count _ m f) [
        | inl p ↦ p.0 ∙ ap manager_number p.1
        | inr g ↦ elim (pick n 2 managers.Trace _ m g) [
          | inl p ↦ p.0 ∙ ap manager_number p.1
          | inr h ↦ absurd cc
        ]
      ]
    ]

manager_again : (m : Manager) → manager_of (manager_number m) ≡ Some m
manager_again managers.Arena = refl
manager_again managers.Count = refl
manager_again managers.Trace = refl

pub reads_manager : Reads manager_at (λ m. manager_number m ∷ []) (λ m. Unit {0})
unfolding manager_at
reads_manager = reads_byte manager_of manager_number manager_is manager_again

cap_is : (n : ℕ) (k : Cap) → cap_of n ≡ Some k → n ≡ cap_number k
cap_is n k e =
    elim (pick n 2 cap.Mut _ k e) [
      | inl p ↦ p.0 ∙ ap cap_number p.1
      | inr f ↦ elim (pick n 3 cap.Tmp _ k f) [
        | inl p ↦ p.0 ∙ ap cap_number p.1
        | inr g ↦ elim (pick n 4 cap.Paused _ k g) [
          | inl p ↦ p.0 ∙ ap cap_number p.1
          | inr h ↦ elim (pick n 5 cap.Imm _ k h) [
            | inl p ↦ p.0 ∙ ap cap_number p.1
            | inr i ↦ elim (pick n 6 cap.Iso _ k i) [
              | inl p ↦ p.0 ∙ ap cap_number p.1
              | inr j ↦ absurd cc
            ]
          ]
        ]
      ]
    ]

cap_again : (k : Cap) → cap_of (cap_number k) ≡ Some k
cap_again cap.Mut = refl
cap_again cap.Tmp = refl
cap_again cap.Paused = refl
cap_again cap.Imm = refl
cap_again cap.Iso = refl

reads_cap : Reads cap_at (λ k. cap_number k ∷ []) (λ k. Unit {0})
unfolding cap_at
reads_cap = reads_byte cap_of cap_number cap_is cap_again

-- Types

ref_takes : (n : ℕ) (bytes : List ℕ) (x : Ty × List ℕ) → IsBytes bytes → ref_at n bytes ≡ Some x → Takes (n ∷ bytes) (ty_bytes x.0) x.1 × FitsTy x.0
unfolding ref_at
ref_takes n bytes x fits e =
    let a = bind_some (cap_of n) (λ k. number_at w32 bytes >>= λ c. Some (ty.Ref k c.0, c.1)) x e in
    let b = bind_some (number_at w32 bytes) (λ c. Some (ty.Ref a.0 c.0, c.1)) x a.2 in
    let t = reads_four.takes bytes b.0 fits b.1 in
    let made : Ty × List ℕ = (ty.Ref a.0 b.0.0, b.0.1) in
    let front : n ∷ bytes ≡ cap_number a.0 ∷ (four b.0.0 ++ b.0.1) = ap (λ (k : ℕ). k ∷ bytes) (cap_is n a.0 a.1)
    ∙ ap (λ (y : List ℕ). cap_number a.0 ∷ y) t.0.parts in
    subst (λ (y : Ty × List ℕ). Takes (n ∷ bytes) (ty_bytes y.0) y.1 × FitsTy y.0) (some_is made x b.2)
    (record { parts = front; rest_fits = t.0.rest_fits }, t.1)

behind_takes : (n : ℕ) (bytes : List ℕ) (x : Ty × List ℕ) → IsBytes bytes → ty_behind n bytes ≡ Some x → Takes (n ∷ bytes) (ty_bytes x.0) x.1
    × FitsTy x.0
unfolding ty_behind
behind_takes n bytes x fits e =
    let whole : Ty × List ℕ → Type 0 = λ y. Takes (n ∷ bytes) (ty_bytes y.0) y.1 × FitsTy y.0 in
    let first : Ty × List ℕ = (ty.Int, bytes) in
    let second : Ty × List ℕ = (ty.Bool, bytes) in
    elim (pick n 0 first _ x e) [
      | inl p ↦ subst whole p.1 (record { parts = ap (λ (k : ℕ). k ∷ bytes) p.0; rest_fits = fits }, tt)
      | inr f ↦ elim (pick n 1 second _ x f) [
        | inl p ↦ subst whole p.1 (record { parts = ap (λ (k : ℕ). k ∷ bytes) p.0; rest_fits = fits }, tt)
        | inr g ↦ ref_takes n bytes x fits g
      ]
    ]

ty_takes : (bytes : List ℕ) (x : Ty × List ℕ) → IsBytes bytes → ty_at bytes ≡ Some x → Takes bytes (ty_bytes x.0) x.1 × FitsTy x.0
unfolding ty_at
ty_takes [] x fits e = absurd cc
ty_takes (n ∷ bytes) x fits e = behind_takes n bytes x (IsBytes-rest n bytes fits) e

ref_again : (k : Cap) (c : ℕ) (rest : List ℕ) → c < 2 ^ 32 → ref_at (cap_number k) (four c ++ rest) ≡ Some (ty.Ref k c, rest)
unfolding ref_at
ref_again k c rest lt =
    ap (λ r. r >>= λ (l : Cap). number_at w32 (four c ++ rest) >>= λ d. Some (ty.Ref l d.0, d.1)) (cap_again k)
    ∙ ap (λ r. r >>= λ (d : ℕ × List ℕ). Some (ty.Ref k d.0, d.1)) (reads_four.again c rest lt)

behind_ref : (k : Cap) (bytes : List ℕ) → ty_behind (cap_number k) bytes ≡ ref_at (cap_number k) bytes
unfolding ty_behind
behind_ref cap.Mut bytes = refl
behind_ref cap.Tmp bytes = refl
behind_ref cap.Paused bytes = refl
behind_ref cap.Imm bytes = refl
behind_ref cap.Iso bytes = refl

ty_again : (t : Ty) (rest : List ℕ) → FitsTy t → ty_at (ty_bytes t ++ rest) ≡ Some (t, rest)
unfolding ty_at ty_behind
ty_again ty.Int rest fits = refl
ty_again ty.Bool rest fits = refl
ty_again (ty.Ref k c) rest fits = behind_ref k (four c ++ rest) ∙ ref_again k c rest fits

pub reads_ty : Reads ty_at ty_bytes FitsTy
reads_ty = record { takes = ty_takes; again = ty_again }

pub reads_tys : Reads (counted_at ty_at) (counted ty_bytes) (Counted FitsTy)
reads_tys = reads_counted reads_ty

-- Classes

members_take : (is_tmp is_array : Bool) (bytes : List ℕ) (x : Shape × List ℕ) → IsBytes bytes → members_at is_tmp is_array bytes ≡ Some x
    → Takes (bool_number is_array ∷ bytes) (members_bytes x.0.fields x.0.element) x.1 × FitsShape x.0 × (is_tmp ≡ x.0.is_tmp)
unfolding members_at
members_take is_tmp false bytes x fits e =
    let a = bind_some (counted_at ty_at bytes) (λ fields. Some (record { is_tmp = is_tmp; fields = fields.0; element = None }, fields.1)) x e in
    let t = reads_tys.takes bytes a.0 fits a.1 in
    let made : Shape × List ℕ = (record { is_tmp = is_tmp; fields = a.0.0; element = None }, a.0.1) in
    subst (λ (y : Shape × List ℕ). Takes (0 ∷ bytes) (members_bytes y.0.fields y.0.element) y.1 × FitsShape y.0 × (is_tmp ≡ y.0.is_tmp))
    (some_is made x a.2)
    (record { parts = ap (λ (y : List ℕ). 0 ∷ y) t.0.parts; rest_fits = t.0.rest_fits }, t.1, refl)
members_take is_tmp true bytes x fits e =
    let a = bind_some (ty_at bytes) (λ element. Some (record { is_tmp = is_tmp; fields = []; element = Some element.0 }, element.1)) x e in
    let t = reads_ty.takes bytes a.0 fits a.1 in
    let made : Shape × List ℕ = (record { is_tmp = is_tmp; fields = []; element = Some a.0.0 }, a.0.1) in
    subst (λ (y : Shape × List ℕ). Takes (1 ∷ bytes) (members_bytes y.0.fields y.0.element) y.1 × FitsShape y.0 × (is_tmp ≡ y.0.is_tmp))
    (some_is made x a.2)
    (record { parts = ap (λ (y : List ℕ). 1 ∷ y) t.0.parts; rest_fits = t.0.rest_fits }, (refl, t.1), refl)

shape_takes : (bytes : List ℕ) (x : Shape × List ℕ) → IsBytes bytes → shape_at bytes ≡ Some x → Takes bytes (shape_bytes x.0) x.1 × FitsShape x.0
unfolding shape_at
shape_takes bytes x fits e =
    let a = bind_some (bool_at bytes) (λ t. bool_at t.1 >>= λ k. members_at t.0 k.0 k.1) x e in
    let b = bind_some (bool_at a.0.1) (λ k. members_at a.0.0 k.0 k.1) x a.2 in
    let t0 = reads_bool.takes bytes a.0 fits a.1 in
    let t1 = reads_bool.takes a.0.1 b.0 t0.0.rest_fits b.1 in
    let t2 = members_take a.0.0 b.0.0 b.0.1 x t1.0.rest_fits b.2 in
    let behind : a.0.1 ≡ members_bytes x.0.fields x.0.element ++ x.1 = t1.0.parts ∙ t2.0.parts in
    let front : bytes ≡ bool_number x.0.is_tmp ∷ (members_bytes x.0.fields x.0.element ++ x.1) =
    t0.0.parts ∙ ap (λ (y : List ℕ). bool_number a.0.0 ∷ y) behind ∙ ap (λ (t : Bool). bool_number t ∷
    (members_bytes x.0.fields x.0.element ++ x.1)) t2.2 in
    (record { parts = front; rest_fits = t2.0.rest_fits }, t2.1)

members_again : (is_tmp : Bool) (fields : List Ty) (element : Option Ty) (rest : List ℕ) → FitsMembers fields element
    → (bool_at (members_bytes fields element ++ rest) >>= λ k. members_at is_tmp k.0 k.1)
    ≡ Some (record { is_tmp = is_tmp; fields = fields; element = element }, rest)
unfolding bool_at members_at
members_again is_tmp fields None rest fits =
    ap (λ r. r >>= λ (fs : List Ty × List ℕ). Some (record { is_tmp = is_tmp; fields = fs.0; element = None }, fs.1))
    (reads_tys.again fields rest fits)
members_again is_tmp fields (Some t) rest fits =
    ap (λ r. r >>= λ (u : Ty × List ℕ). Some (record { is_tmp = is_tmp; fields = []; element = Some u.0 }, u.1)) (reads_ty.again t rest fits.1)
    ∙ ap (λ (fs : List Ty). Some (record { is_tmp = is_tmp; fields = fs; element = Some t }, rest)) (sym fits.0)

shape_again : (s : Shape) (rest : List ℕ) → FitsShape s → shape_at (shape_bytes s ++ rest) ≡ Some (s, rest)
unfolding shape_at
shape_again s rest fits =
    ap (λ r. r >>= λ (t : Bool × List ℕ). bool_at t.1 >>= λ k. members_at t.0 k.0 k.1)
    (reads_bool.again s.is_tmp (members_bytes s.fields s.element ++ rest) tt)
    ∙ members_again s.is_tmp s.fields s.element rest fits

pub reads_shape : Reads shape_at shape_bytes FitsShape
reads_shape = record { takes = shape_takes; again = shape_again }

-- Heads

result_behind_takes : (has : Bool) (bytes : List ℕ) (x : Option Ty × List ℕ) → IsBytes bytes → result_behind has bytes ≡ Some x
    → Takes (bool_number has ∷ bytes) (result_bytes x.0) x.1 × FitsResult x.0
unfolding result_behind
result_behind_takes false bytes x fits e =
    let made : Option Ty × List ℕ = (None, bytes) in
    subst (λ (y : Option Ty × List ℕ). Takes (0 ∷ bytes) (result_bytes y.0) y.1 × FitsResult y.0) (some_is made x e)
    (record { parts = refl; rest_fits = fits }, tt)
result_behind_takes true bytes x fits e =
    let a = bind_some (ty_at bytes) (λ t. Some (Some t.0, t.1)) x e in
    let t = reads_ty.takes bytes a.0 fits a.1 in
    let made : Option Ty × List ℕ = (Some a.0.0, a.0.1) in
    subst (λ (y : Option Ty × List ℕ). Takes (1 ∷ bytes) (result_bytes y.0) y.1 × FitsResult y.0) (some_is made x a.2)
    (record { parts = ap (λ (y : List ℕ). 1 ∷ y) t.0.parts; rest_fits = t.0.rest_fits }, t.1)

result_takes : (bytes : List ℕ) (x : Option Ty × List ℕ) → IsBytes bytes → result_at bytes ≡ Some x → Takes bytes (result_bytes x.0) x.1
    × FitsResult x.0
unfolding result_at
result_takes bytes x fits e =
    let a = bind_some (bool_at bytes) (λ has. result_behind has.0 has.1) x e in
    let t0 = reads_bool.takes bytes a.0 fits a.1 in
    let t1 = result_behind_takes a.0.0 a.0.1 x t0.0.rest_fits a.2 in
    (record { parts = t0.0.parts ∙ t1.0.parts; rest_fits = t1.0.rest_fits }, t1.1)

result_again : (r : Option Ty) (rest : List ℕ) → FitsResult r → result_at (result_bytes r ++ rest) ≡ Some (r, rest)
unfolding result_at bool_at result_behind
result_again None rest fits = refl
result_again (Some t) rest fits = ap (λ r. r >>= λ (u : Ty × List ℕ). Some (Some u.0, u.1)) (reads_ty.again t rest fits)

reads_result : Reads result_at result_bytes FitsResult
reads_result = record { takes = result_takes; again = result_again }

head_takes : (bytes : List ℕ) (x : Head × List ℕ) → IsBytes bytes → head_at bytes ≡ Some x → Takes bytes (head_bytes x.0) x.1 × FitsHead x.0
unfolding head_at
head_takes bytes x fits e =
    let a = bind_some (number_at w32 bytes) (λ c. cap_at c.1 >>= λ k. counted_at ty_at k.1 >>= λ ps. result_at ps.1 >>= λ r.
    Some (record { class = c.0; cap = k.0; params = ps.0; result = r.0 }, r.1)) x e in
    let b = bind_some (cap_at a.0.1) (λ k. counted_at ty_at k.1 >>= λ ps. result_at ps.1 >>= λ r.
    Some (record { class = a.0.0; cap = k.0; params = ps.0; result = r.0 }, r.1)) x a.2 in
    let c = bind_some (counted_at ty_at b.0.1) (λ ps. result_at ps.1 >>= λ r.
    Some (record { class = a.0.0; cap = b.0.0; params = ps.0; result = r.0 }, r.1)) x b.2 in
    let d = bind_some (result_at c.0.1) (λ r. Some (record { class = a.0.0; cap = b.0.0; params = c.0.0; result = r.0 }, r.1)) x c.2 in
    let t0 = reads_four.takes bytes a.0 fits a.1 in
    let t1 = reads_cap.takes a.0.1 b.0 t0.0.rest_fits b.1 in
    let t2 = reads_tys.takes b.0.1 c.0 t1.0.rest_fits c.1 in
    let t3 = reads_result.takes c.0.1 d.0 t2.0.rest_fits d.1 in
    let e23 = Takes-then b.0.1 (counted ty_bytes c.0.0) c.0.1 (result_bytes d.0.0) d.0.1 t2.0 t3.0 in
    let e13 = Takes-then a.0.1 (cap_number b.0.0 ∷ []) b.0.1 (counted ty_bytes c.0.0 ++ result_bytes d.0.0) d.0.1 t1.0 e23 in
    let e03 = Takes-then bytes (four a.0.0) a.0.1 (cap_number b.0.0 ∷ (counted ty_bytes c.0.0 ++ result_bytes d.0.0)) d.0.1 t0.0 e13 in
    let made : Head × List ℕ = (record { class = a.0.0; cap = b.0.0; params = c.0.0; result = d.0.0 }, d.0.1) in
    subst (λ (y : Head × List ℕ). Takes bytes (head_bytes y.0) y.1 × FitsHead y.0) (some_is made x d.2)
    (e03, record { class = t0.1; params = t2.1; result = t3.1 })

head_again : (h : Head) (rest : List ℕ) → FitsHead h → head_at (head_bytes h ++ rest) ≡ Some (h, rest)
unfolding head_at
head_again h rest fits =
    let last = result_bytes h.result ++ rest in
    let third = counted ty_bytes h.params ++ last in
    let second = cap_number h.cap ∷ third in
    let regrouped : head_bytes h ++ rest ≡ four h.class ++ second =
    append_assoc (four h.class) (cap_number h.cap ∷ (counted ty_bytes h.params ++ result_bytes h.result)) rest
    ∙ ap (λ (y : List ℕ). four h.class ++ cap_number h.cap ∷ y) (append_assoc (counted ty_bytes h.params) (result_bytes h.result) rest) in
    ap head_at regrouped
    ∙ ap (λ r. r >>= λ (c : ℕ × List ℕ). cap_at c.1 >>= λ k. counted_at ty_at k.1 >>= λ ps. result_at ps.1 >>= λ q.
    Some (record { class = c.0; cap = k.0; params = ps.0; result = q.0 }, q.1)) (reads_four.again h.class second fits.class)
    ∙ ap (λ r. r >>= λ (k : Cap × List ℕ). counted_at ty_at k.1 >>= λ ps. result_at ps.1 >>= λ q.
    Some (record { class = h.class; cap = k.0; params = ps.0; result = q.0 }, q.1)) (reads_cap.again h.cap third tt)
    ∙ ap (λ r. r >>= λ (ps : List Ty × List ℕ). result_at ps.1 >>= λ q.
    Some (record { class = h.class; cap = h.cap; params = ps.0; result = q.0 }, q.1)) (reads_tys.again h.params last fits.params)
    ∙ ap (λ r. r >>= λ (q : Option Ty × List ℕ). Some (record { class = h.class; cap = h.cap; params = h.params; result = q.0 }, q.1))
    (reads_result.again h.result rest fits.result)

pub reads_head : Reads head_at head_bytes FitsHead
reads_head = record { takes = head_takes; again = head_again }
