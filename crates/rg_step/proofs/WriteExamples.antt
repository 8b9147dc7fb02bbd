-- What a step may write, on a small machine: where it ends a window with `giving`, the field of the window's owner and no other one.
use Rattle.std.proofs.Common.{◌≡◌, ◌≢◌, inl, inr, ℕ, zero, suc, List, [], ◌∷◌, Some, None, slice_get, refl, sym, ap, ◌∙◌, arith}
use Rattle.std.proofs.lemmas.Option.{none-some, same_Some}
use Rattle.rg_base.specs.declared.object.Label.TheVariants.{Region}
use Rattle.rg_base.specs.declared.object.Place.TheVariants.{Field}
use Rattle.rg_base.specs.declared.object.Seen.{Seen}
use Rattle.rg_base.specs.declared.value.Val.{Val}
use Rattle.rg_base.specs.declared.value.Val.TheVariants.{Nil, Obj}
use Rattle.rg_base.specs.declared.words.Manager.TheVariants.{Trace}
use Rattle.rg_base.proofs.Callers.Labels.{region-temp}
use Rattle.rg_code.specs.declared.op.Op.{Op}
use Rattle.rg_code.specs.declared.op.Op.TheVariants as i
use Rattle.rg_held.specs.Gone.{gone}
use Rattle.rg_stack.specs.Machine.{Machine}
use Rattle.rg_step.specs.Writes.{IsOwnersField, WritesOnly}

-- an object of region 0, whose first field owns region 1, which has two objects and is open
abbrev host : List Val → Seen
host fields = record { class = 0; fields = fields; label = Region 0 }

abbrev inner : List Val → Seen
inner fields = record { class = 1; fields = fields; label = Region 1 }

abbrev holds : (outer inside : List Val) → Machine
holds outer inside = record {
  store = host outer ∷ inner (Nil ∷ []) ∷ inner inside ∷ [];
  frames = record { slots = Obj 1 ∷ Obj 2 ∷ []; back = 0 } ∷ [];
  windows = record { number = 1; region = 1; owner = Some (Field 0 0); base = 1 }
      ∷ record { number = 0; region = 0; owner = None; base = 0 } ∷ [];
  managers = Trace ∷ Trace ∷ [];
  windows_made = 2;
  at = 0;
}

abbrev was : Machine
was = holds (Obj 1 ∷ Nil ∷ []) (Nil ∷ [])

-- the window ends with `giving`, or without
abbrev giving : List Op
giving = i.Mark 1 ∷ i.LeaveGiving 1 1 ∷ []

abbrev leaving : List Op
leaving = i.Mark 1 ∷ i.Leave 1 ∷ []

-- the owner may lead to another object
owner-written : WritesOnly giving was (holds (Obj 2 ∷ Nil ∷ []) (Nil ∷ []))
owner-written zero o n there here some live differ =
    let before : host (Obj 1 ∷ Nil ∷ []) ≡ o = same_Some (host (Obj 1 ∷ Nil ∷ [])) o there in
    let after : host (Obj 2 ∷ Nil ∷ []) ≡ n = same_Some (host (Obj 2 ∷ Nil ∷ [])) n here in (
      refl,
      λ j other.
          ap (λ (x : Seen). slice_get x.fields j) (sym after) ∙ rest j other
          ∙ ap (λ (x : Seen). slice_get x.fields j) before,
      inl (ap (λ (x : Seen). x.label) (sym before)),
    )
  where
    rest : (j : ℕ) → j ≢ 0 → slice_get (Obj 2 ∷ Nil ∷ []) j ≡ slice_get (Obj 1 ∷ Nil ∷ []) j
    rest zero other = absurd (other refl)
    rest (suc j) other = refl
owner-written (suc zero) o n there here some live differ =
    absurd (differ (ap (λ (x : Seen). x.fields) (same_Some n o (sym here ∙ there))))
owner-written (suc (suc zero)) o n there here some live differ =
    absurd (differ (ap (λ (x : Seen). x.fields) (same_Some n o (sym here ∙ there))))
owner-written (suc (suc (suc k))) o n there here some live differ = absurd (none-some o there)

live : (o : Seen) (r : ℕ) → o.label ≡ Region r → o ≢ gone
live o r label e = region-temp r _ (sym label ∙ ap (λ (x : Seen). x.label) e)

obj-nil : (a : ℕ) → Some (Obj a) ≡ Some Nil → ⊥
obj-nil a e = let same : Obj a ≡ Nil = same_Some (Obj a) Nil e in absurd cc

-- another field of that object may not
other-refused : WritesOnly giving was (holds (Obj 1 ∷ Obj 2 ∷ []) (Nil ∷ [])) → ⊥
other-refused w =
    let d : IsOwnersField was (Some (Field 0 0)) 0 (host (Obj 1 ∷ Nil ∷ [])) (host (Obj 1 ∷ Obj 2 ∷ [])) =
    w 0 (host (Obj 1 ∷ Nil ∷ [])) (host (Obj 1 ∷ Obj 2 ∷ [])) refl refl (live (host (Obj 1 ∷ Nil ∷ [])) 0 refl)
    (live (host (Obj 1 ∷ Obj 2 ∷ [])) 0 refl) (λ e. obj-nil 2 (ap (λ (vs : List Val). slice_get vs 1) e)) in
    obj-nil 2 (d.1 1 (λ e. omega (arith, e)))

-- an object of the region that is left may be written where the window ends without `giving` alone
inside-refused : WritesOnly giving was (holds (Obj 1 ∷ Nil ∷ []) (Obj 1 ∷ [])) → ⊥
inside-refused w =
    let d : IsOwnersField was (Some (Field 0 0)) 2 (inner (Nil ∷ [])) (inner (Obj 1 ∷ [])) =
    w 2 (inner (Nil ∷ [])) (inner (Obj 1 ∷ [])) refl refl (live (inner (Nil ∷ [])) 1 refl) (live (inner (Obj 1 ∷ [])) 1 refl)
    (λ e. obj-nil 1 (ap (λ (vs : List Val). slice_get vs 0) e)) in
    let same : ◌≡◌ {A = ℕ} 0 2 = d.0 in
    omega (arith, same)

-- and there no object of the region beneath may
outside-refused : WritesOnly leaving was (holds (Obj 1 ∷ Obj 2 ∷ []) (Nil ∷ [])) → ⊥
outside-refused w = elim (w 0 (host (Obj 1 ∷ Nil ∷ [])) (host (Obj 1 ∷ Obj 2 ∷ [])) refl refl (live (host (Obj 1 ∷ Nil ∷ [])) 0 refl)
    (live (host (Obj 1 ∷ Obj 2 ∷ [])) 0 refl) (λ e. obj-nil 2 (ap (λ (vs : List Val). slice_get vs 1) e))) [
      | inl region ↦
          (let same : ◌≡◌ {A = ℕ} 0 1 = number region in
          omega (arith, same))
      | inr temp ↦ region-temp 0 1 temp
    ]
  where
    number : {r k : ℕ} → Region r ≡ Region k → r ≡ k
    number e = cc
