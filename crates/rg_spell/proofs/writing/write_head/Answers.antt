use Rattle.std.proofs.Common.{◌≡◌, ℕ, List, [], ◌∷◌, ◌++◌, subst}
use Rattle.rg_base.specs.declared.ty.Ty.{Ty}
use Rattle.rg_spell.specs.declared.rows.Head.{Head}
use Rattle.rg_spell.specs.Spelling.{four, cap_number, counted, ty_bytes, result_bytes, head_bytes, AppendsPart}
use Rattle.rg_spell.proofs.Writers.{on_err, in_front, behind}
use Rattle.rg_spell.proofs.writing.write_head.Goals as goal

-- the class and the capability came, and a part of what stands behind them
behind_cap : (h : Head) {old named capped new : List ℕ} {n : ℕ} → named ≡ old ++ four h.class → n ≡ cap_number h.cap → capped ≡ named ++ n ∷ []
    → AppendsPart capped new (counted ty_bytes h.params ++ result_bytes h.result) → AppendsPart old new (head_bytes h)
behind_cap h {old} {named} {capped} {new} {n} class cap pushed part =
    let second = cap_number h.cap ∷ [] in
    let rest = counted ty_bytes h.params ++ result_bytes h.result in
    behind old named new (four h.class) (second ++ rest) class
    (behind named capped new second rest (subst (λ (k : ℕ). capped ≡ named ++ k ∷ []) cap pushed) part)

pub returns-in_err-write_types-clause-part : goal.returns-in_err-write_types-clause-part
returns-in_err-write_types-clause-part c =
    let h = c.args.head.now in
    let part = subst (λ (ts : List Ty). AppendsPart c.push.new.self c.write_types.new.out (counted ty_bytes ts)) c.items.ensures
    c.in_err-write_types.ensures.part in
    on_err _ (behind_cap h c.in_ok-write_u32.ensures.ok c.cap_number.ensures c.in_ok-push.ensures.ok
    (in_front _ _ (counted ty_bytes h.params) (result_bytes h.result) part))

pub returns-in_err-write_result-clause-part : goal.returns-in_err-write_result-clause-part
returns-in_err-write_result-clause-part c =
    let h = c.args.head.now in
    let types = subst (λ (ts : List Ty). c.write_types.new.out ≡ c.push.new.self ++ counted ty_bytes ts) c.items.ensures
    c.in_ok-write_types.ensures.ok in
    on_err _ (behind_cap h c.in_ok-write_u32.ensures.ok c.cap_number.ensures c.in_ok-push.ensures.ok
    (behind _ _ _ (counted ty_bytes h.params) (result_bytes h.result) types c.in_err-write_result.ensures.part))
