-- The values of arguments, on the stack, in parameters and in the frame that a call makes.
use Rattle.std.proofs.Common.{◌≡◌, ℕ, suc, List, [], ◌∷◌, ◌++◌, length, map, reverse, take, Some, Result, Ok, Err, refl}
use Rattle.std.proofs.Common.{sym, ap, ◌∙◌, arith, append_assoc, append-nil, length-append}
use Rattle.std.proofs.lemmas.List.{reverse-append, reverse-reverse, length-reverse}
use Rattle.std.proofs.Math.Seq.{take-append_seam}
use Rattle.rg_base.specs.declared.value.Val.{Val}
use Rattle.rg_base.specs.declared.object.Seen.{Seen}
use Rattle.rg_base.specs.declared.outcome.Trap.{Trap}
use Rattle.rg_tree.specs.Tree.{Expr, Param, Class}
use Rattle.rg_rules.specs.Answers.{◌>>=◌}
use Rattle.rg_rules.specs.Types.{type_of}
use Rattle.rg_rules.specs.State.{Local, Window as Opened}
use Rattle.rg_rules.specs.Values.{Computed}
use Rattle.rg_rules.specs.Evaluation.{value_of, values_of}
use Rattle.rg_rules.specs.RightSides.{bound}
use Rattle.rg_code.specs.Lowering.{Scope, with_slot, with_params}
use Rattle.rg_code.specs.Places.{scope_of}
use Rattle.rg_stack.proofs.Basics.{ok-is, err-ok}
use Rattle.rg_stack.specs.Machine.{Window}
use Rattle.rg_stack.specs.Shows.{ShowsWindows}
use Rattle.rg_stack.proofs.Callers.Frame.{OpenedBelow, place_below}

length_by : (c : Computed) (r : Result (List Val) Trap) (vs : List Val) (n : ℕ) → ◌>>=◌ c (λ v. ◌>>=◌ r (λ us. Ok (v ∷ us))) ≡ Ok vs
    → ((us : List Val) → r ≡ Ok us → length us ≡ n) → length vs ≡ suc n
length_by (Ok v) (Ok us) vs n e h = let is = ok-is (v ∷ us) vs e in sym (ap length is) ∙ ap suc (h us refl)
length_by (Ok v) (Err t) vs n e h = absurd (err-ok t vs e)
length_by (Err t) r vs n e h = absurd (err-ok t vs e)

-- as many values as expressions
pub values-length : (classes : List Class) (store : List Seen) (locals : List Local) (es : List Expr) (vs : List Val)
    → values_of classes store locals es ≡ Ok vs → length vs ≡ length es
values-length classes store locals [] vs e = sym (ap length (ok-is [] vs e))
values-length classes store locals (x ∷ es) vs e = length_by (value_of classes store locals x) (values_of classes store locals es) vs (length es) e
    (λ us is. values-length classes store locals es us is)

-- arguments as they lie on the stack
pub from_stack : (v : Val) (vs : List Val) (n : ℕ) → n ≡ suc (length vs) → reverse (take n (reverse vs ++ v ∷ [])) ≡ v ∷ vs
from_stack v vs n e =
    let all = reverse vs ++ v ∷ [] in
    let size : n ≡ length all = omega (arith, e, length-append (reverse vs) (v ∷ []), length-reverse vs) in
    ap (λ l. reverse (take n l)) (sym (append-nil all))
    ∙ ap (λ k. reverse (take k (all ++ []))) size
    ∙ ap reverse (take-append_seam all [])
    ∙ reverse-append (reverse vs) (v ∷ [])
    ∙ ap (λ l. v ∷ l) (reverse-reverse vs)

-- parameters take the values
pub bound-values : (classes : List Class) (ps : List Param) (vs : List Val) → length vs ≡ length ps
    → map (λ (l : Local). l.value) (bound classes ps vs) ≡ vs
bound-values classes [] [] e = refl
bound-values classes [] (v ∷ vs) e = absurd (omega (arith, e))
bound-values classes (p ∷ ps) [] e = absurd (omega (arith, e))
bound-values classes (p ∷ ps) (v ∷ vs) e = let f : length vs ≡ length ps = omega (arith, e) in ap (λ l. v ∷ l) (bound-values classes ps vs f)

-- and stand in the slots of the method
pub bound-scope : (classes : List Class) (ps : List Param) (vs : List Val) (front : Scope) → with_params classes front ps ≡ front
    ++ scope_of (bound classes ps vs)
bound-scope classes [] vs front = sym (append-nil front)
bound-scope classes (p ∷ ps) [] front = bound-scope classes ps [] (with_slot front (Some p.name) (type_of classes p.ty))
    ∙ append_assoc front (record { name = Some p.name; ty = type_of classes p.ty } ∷ []) (scope_of (bound classes ps []))
bound-scope classes (p ∷ ps) (v ∷ vs) front = bound-scope classes ps vs (with_slot front (Some p.name) (type_of classes p.ty))
    ∙ append_assoc front (record { name = Some p.name; ty = type_of classes p.ty } ∷ []) (scope_of (bound classes ps vs))

-- a frame above moves no window's base
pub windows_above : (xs : List ℕ) (y : ℕ) (ws : List Window) (ps : List Opened) → OpenedBelow (length xs) ps → ShowsWindows xs ws ps
    → ShowsWindows (xs ++ y ∷ []) ws ps
windows_above xs y [] [] o h = tt
windows_above xs y [] (p ∷ ps) o h = h
windows_above xs y (w ∷ ws) [] o h = h
windows_above xs y (w ∷ ws) (p ∷ ps) o h = (
  record { number = h.0.number; region = h.0.region; owner = h.0.owner; base = h.0.base ∙ sym (place_below xs y p.base_frame p.base_place o.0) },
  windows_above xs y ws ps o.1 h.1,
)
