use Rattle.std.proofs.Common.{◌≡◌, ◌-◌, ℕ, List, length, take, rules, slice_get, Some, None, sym, ap, subst, ◌∙◌}
use Rattle.rg_verify_expressions.specs.declared.held.Held.{Held}
use Rattle.rg_verify_expressions.specs.declared.held.Wait.{Wait}
use Rattle.rg_verify_expressions.proofs.TreeStack.{wait-empty, wait-stays, wait-taken}
use Rattle.rg_verify_expressions.proofs.stack.take_wait.Goals as goal

pub returns-in_default-clause-takes : goal.returns-in_default-clause-takes
returns-in_default-clause-takes c t m items p =
    let last : slice_get c.args.stack.now.items (length c.args.stack.now.items - 1) ≡ None =
    subst (λ (hs : List Held). slice_get hs (length hs - 1) ≡ None) c.deref.ensures.value (sym c.in_default.ensures.value) in
    wait-empty t m c.args.end c.args.stack.now.items items last p

pub returns-in_default-wait_of-clause-takes : goal.returns-in_default-wait_of-clause-takes
returns-in_default-wait_of-clause-takes c t m items p =
    let last : slice_get c.args.stack.now.items (length c.args.stack.now.items - 1) ≡ Some c.in-Some.top.now =
    subst (λ (hs : List Held). slice_get hs (length hs - 1) ≡ Some c.in-Some.top.now) c.deref.ensures.value (sym c.in-Some.ensures.value) in
    wait-stays t m c.args.end c.args.stack.now.items items c.in-Some.top.now last
    (λ w e here. let f = c.in_default-wait_of.ensures in absurd cc) p

pub returns-then-wait-end-clause-takes : goal.returns-then-wait-end-clause-takes
returns-then-wait-end-clause-takes c t m items p =
    let last : slice_get c.args.stack.now.items (length c.args.stack.now.items - 1) ≡ Some c.in-Some.top.now =
    subst (λ (hs : List Held). slice_get hs (length hs - 1) ≡ Some c.in-Some.top.now) c.deref.ensures.value (sym c.in-Some.ensures.value) in
    wait-stays t m c.args.end c.args.stack.now.items items c.in-Some.top.now last
    (λ w e here.
    let f = c.in-Some-wait_of.ensures in
    let same : c.in-Some-wait_of.wait ≡ w = cc in
    let at : c.in-Some-wait_of.wait.to ≡ c.args.end = ap (λ (v : Wait). v.to) same ∙ here in
    c.if-wait-end.true at) p

pub returns-clause-takes : goal.returns-clause-takes
returns-clause-takes c t m items p =
    let last : slice_get c.args.stack.now.items (length c.args.stack.now.items - 1) ≡ Some c.in-Some.top.now =
    subst (λ (hs : List Held). slice_get hs (length hs - 1) ≡ Some c.in-Some.top.now) c.deref.ensures.value (sym c.in-Some.ensures.value) in
    let n : c.len.result ≡ length c.args.stack.now.items = search rules in
    let cut : c.truncate.new.self.items ≡ take (length c.args.stack.now.items - 1) c.args.stack.now.items =
    c.truncate.ensures.items ∙ ap (λ (k : ℕ). take (k - 1) c.args.stack.now.items) n in
    wait-taken t m c.args.end c.args.stack.now.items items _ c.in-Some.top.now c.in-Some-wait_of.wait last (sym c.in-Some-wait_of.ensures)
    c.if-wait-end.false cut p
