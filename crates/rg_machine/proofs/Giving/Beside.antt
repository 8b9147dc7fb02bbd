-- A word is on the stack while slots end, and is what it was.
use Rattle.std.proofs.Common.{◌≡◌, ◌==◌, ℕ, zero, suc, true, List, [], ◌∷◌, ◌++◌, Option, Some, None, IfSome, drop, reverse, slice_get, refl, sym, ap, subst, ◌∙◌}
use Rattle.std.proofs.lemmas.List.{reverse-append, reverse-reverse}
use Rattle.std.proofs.lemmas.Option.{none-some, same_Some}
use Rattle.rg_base.specs.declared.value.Val.{Val}
use Rattle.rg_base.specs.declared.value.Word.{Word}
use Rattle.rg_stack.specs.Needs.{closed_into, loose, places_into}
use Rattle.rg_machine.specs.Core.{Core, below_top, with_top}
use Rattle.rg_machine.specs.Cores.{core_of}
use Rattle.rg_machine.specs.Effects.{AllLoose, ending}
use Rattle.rg_machine.specs.Parts.{Parts, machine_in, val_in, with_word}
use Rattle.rg_machine.specs.Stands.{Leads}
use Rattle.rg_machine.proofs.Callers.Word.{core-push}

-- what leads into no closed region owns none
pub beside-loose : (p : Parts) (w : Word) → (core_of p).stack ≡ [] → closed_into (machine_in p) (val_in p w) ≡ None
    → AllLoose (core_of (with_word p w))
beside-loose p w none away k v e =
    by k (sym (ap (λ (c : Core). slice_get c.stack k) (core-push p w) ∙ ap (λ vs. slice_get (val_in p w ∷ vs) k) none) ∙ e)
  where
    by : (k : ℕ) → slice_get (val_in p w ∷ []) k ≡ Some v → loose (machine_in p) v ≡ true
    by zero e =
        ap (loose (machine_in p)) (sym (same_Some (val_in p w) v e))
        ∙ ap (λ (o : Option ℕ). elim o [ None ↦ true | Some r ↦ places_into (machine_in p) r == 0 ]) away
    by (suc k) e = absurd (none-some v e)

-- the last ones of lists with one more are the same, and so is what stands in front
last-same : (xs ys : List Word) (x y : Word) → xs ++ x ∷ [] ≡ ys ++ y ∷ [] → (xs ≡ ys) × (x ≡ y)
last-same xs ys x y e =
    let turned : x ∷ reverse xs ≡ y ∷ reverse ys = sym (reverse-append xs (x ∷ [])) ∙ ap reverse e ∙ reverse-append ys (y ∷ []) in (
      sym (reverse-reverse xs) ∙ ap reverse (ap (drop 1) turned) ∙ reverse-reverse ys,
      same_Some x y (ap (λ (l : List Word). slice_get l 0) turned),
    )

-- where slots have ended, and the word was taken back
pub record Beside (old new : Parts) (s : ℕ) (w : Word) : Type 0 where
  pub core : core_of new ≡ ending (core_of old) s
  pub leads : Leads new.heap new.frames w
  pub value : val_in new w ≡ val_in old w
  pub words : new.words ≡ old.words

pub beside : (old ended new : Parts) (s : ℕ) (w : Word) (r : Option Word) → core_of ended ≡ ending (core_of (with_word old w)) s
    → ended.words ≡ old.words ++ w ∷ [] → IfSome r (λ u. ended ≡ with_word new u)
    → IfSome r (λ u. core_of ended ≡ with_top (core_of new) (val_in new u)) → IfSome r (Leads new.heap new.frames)
    → (r ≡ None → ((core_of ended).stack ≡ []) × (new ≡ ended)) → Beside old new s w
beside old ended new s w None core words is shown leads none =
    let stack : (core_of ended).stack ≡ val_in old w ∷ (core_of old).stack =
    ap (λ (c : Core). c.stack) core ∙ ap (λ (c : Core). c.stack) (core-push old w) in
    absurd (none-some (val_in old w)
    (ap (λ (l : List Val). slice_get l 0) (sym (none refl).0 ∙ stack)))
beside old ended new s w (Some u) core words is shown leads none =
    let both = last-same new.words old.words u w (sym (ap (λ (p : Parts). p.words) is) ∙ words) in
    let whole : with_top (core_of new) (val_in new u) ≡ with_top (ending (core_of old) s) (val_in old w) =
    sym shown ∙ core ∙ ap (λ (c : Core). ending c s) (core-push old w) in
    record {
      core = ap below_top whole;
      leads = subst (Leads new.heap new.frames) both.1 leads;
      value =
          ap (val_in new) (sym both.1)
          ∙ same_Some (val_in new u) (val_in old w) (ap (λ (c : Core). slice_get c.stack 0) whole);
      words = both.0;
    }
