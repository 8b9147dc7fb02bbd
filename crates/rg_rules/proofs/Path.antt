-- What a walk that gave a type says of its parts. For callers.
use Rattle.std.proofs.Common.{◌≡◌, refl, ap, ℕ, false, List, [], ◌∷◌, ◌++◌, Some, ok_or, Ok, arith}
use Rattle.rg_base.specs.declared.words.Cap.TheVariants.{Mut, Tmp, Paused, Imm, Iso}
use Rattle.rg_base.specs.declared.ty.Ty.{Ty}
use Rattle.rg_base.specs.declared.ty.Ty.TheVariants.{Int, Bool, Ref}
use Rattle.rg_base.specs.declared.fault.Code.TheVariants.{Unknown}
use Rattle.rg_tree.specs.Tree.{Name, Class}
use Rattle.rg_rules.specs.Capabilities.{is_iso}
use Rattle.rg_rules.specs.Types.{field_type}
use Rattle.rg_rules.specs.Paths.{Followed, follow, Looked, look_up, all_but_last, last_field}
use Rattle.rg_rules.proofs.Answers.{bind-ok, ok_or-ok}

-- a type that can be followed
pub record FollowedType (t : Ty) (r : Followed) : Type 0 where
  pub reference : t ≡ Ref r.cap r.class
  pub not_iso : is_iso t ≡ false

pub follow-ok : (t : Ty) (r : Followed) → follow t ≡ Ok r → FollowedType t r
follow-ok Int r h = grind arith
follow-ok Bool r h = grind arith
follow-ok (Ref Mut c) r h = let e : record { cap = Mut; class = c } ≡ r = grind arith in rw (← e) (record { reference = refl; not_iso = refl })
follow-ok (Ref Tmp c) r h = let e : record { cap = Tmp; class = c } ≡ r = grind arith in rw (← e) (record { reference = refl; not_iso = refl })
follow-ok (Ref Paused c) r h = let e : record { cap = Paused; class = c } ≡ r = grind arith in rw (← e) (record { reference = refl; not_iso = refl })
follow-ok (Ref Imm c) r h = let e : record { cap = Imm; class = c } ≡ r = grind arith in rw (← e) (record { reference = refl; not_iso = refl })
follow-ok (Ref Iso c) r h = grind arith

-- a field that was looked up
pub record LookedUp (classes : List Class) (t : Ty) (f : Name) (r : Looked) : Type 0 where
  pub class : ℕ
  pub reference : t ≡ Ref r.receiver class
  pub not_iso : is_iso t ≡ false
  pub declared : field_type classes class f ≡ Some r.ty

pub look_up-ok : (classes : List Class) (t : Ty) (f : Name) (r : Looked) → look_up classes t f ≡ Ok r → LookedUp classes t f r
look_up-ok classes t f r h =
    let p = bind-ok (follow t) _ r h in
    let q = bind-ok (ok_or (field_type classes p.0.class f) Unknown) _ r p.2 in
    let w = follow-ok t p.0 p.1 in
    let e : record { receiver = p.0.cap; ty = q.0 } ≡ r = grind arith in
    let d = ok_or-ok (field_type classes p.0.class f) Unknown q.0 q.1 in
    rw (← e) (record { class = p.0.class; reference = w.reference; not_iso = w.not_iso; declared = d })

-- the last of some fields, and those in front of it

pub all_but_last-append : (f : Name) (fs : List Name) (l : Name) → all_but_last f (fs ++ l ∷ []) ≡ f ∷ fs
all_but_last-append f [] l = refl
all_but_last-append f (g ∷ gs) l = ap (λ (rest : List Name). f ∷ rest) (all_but_last-append g gs l)

pub last_field-append : (f : Name) (fs : List Name) (l : Name) → last_field f (fs ++ l ∷ []) ≡ l
last_field-append f [] l = refl
last_field-append f (g ∷ gs) l = last_field-append g gs l
