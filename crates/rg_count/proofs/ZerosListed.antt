-- Each turn of the search for cells without a count.
use Rattle.std.proofs.Common.{◌≡◌, ◌≢◌, ℕ, ◌+◌, ◌<◌, List, ◌∷◌, length, Option, Some, None, get_or, set, refl, ap}
use Rattle.std.proofs.Common.{sym, ◌∙◌, subst, arith, inl, inr, slice_get}
use Rattle.std.proofs.lemmas.List.{get_or-set_same, get_or-set_other}
use Rattle.std.proofs.lemmas.Bool.{cases_eq, cases_lt}
use Rattle.std.proofs.lemmas.Option.{same_Some}
use Rattle.rg_cells.specs.Table.{Table, mark_at, link_at}
use Rattle.rg_regions.specs.Table.{Has, Chained}
use Rattle.rg_count.specs.Inner.Counting.{Listed}
use Rattle.rg_regions.proofs.Callers.Chain.{chained_agree}
use Rattle.rg_count.proofs.CountsLowered.{chained-head}

-- a member without a count that is no root
pub listed-more : (members : List ℕ) (n s : ℕ) (old mid new : Table) (head : Option ℕ)
    → ((i j s : ℕ) → slice_get members i ≡ Some s → slice_get members j ≡ Some s → i ≡ j) → slice_get members n ≡ Some s
    → mark_at mid s ≡ 0 → link_at mid s ≢ Some s → s < length mid.links
    → new ≡ record mid { links = set mid.links s head } → Listed members n old mid head
    → Listed members (n + 1) old new (Some s)
listed-more members n s old mid new head once at zero off room e w =
    let fresh : Has w.zeros s → ⊥ = λ m. let y = w.each s m in let v : y.0 ≡ n = once y.0 n s y.2 at in
    omega (arith, v, y.1) in
    let self : link_at new s ≡ head = ap (λ (t : Table). link_at t s) e ∙ get_or-set_same mid.links s head None room in
    let other : (x : ℕ) → x ≢ s → link_at new x ≡ link_at mid x = λ x d. ap (λ (t : Table). link_at t x) e
    ∙ get_or-set_other mid.links s x head None d in
    let Z : ℕ → Type 0 = λ z. Has w.zeros z in
    let C : Option ℕ → Type 0 = λ o. Chained new.links o w.zeros in
    record {
      zeros = s ∷ w.zeros;
      heap = ap (λ (t : Table). t.heap) e ∙ w.heap;
      marks = ap (λ (t : Table). t.marks) e ∙ w.marks;
      chain = (
        refl,
        fresh,
        subst C (sym self)
            (chained_agree mid.links new.links head w.zeros (λ k m. other k (λ q. fresh (subst Z q m))) w.chain),
      );
      each = λ x m. elim m [
        | inl q ↦ (
          n,
          omega arith,
          at ∙ ap Some (sym q),
          ap (mark_at old) q ∙ sym (ap (λ ms. get_or ms s 0) w.marks) ∙ zero,
          (λ l. off (w.same s fresh ∙ ap (link_at old) (sym q) ∙ l ∙ ap Some q)),
        )
        | inr k ↦ let y = w.each x k in (y.0, omega (arith, y.1), y.2, y.3, y.4)
      ];
      all = λ i x l q z d. elim (cases_lt i n) [
        | inl a ↦ inr (w.all i x a q z d)
        | inr a ↦ let v : i ≡ n = omega (arith, l) in inl (same_Some x s (sym q ∙ ap (slice_get members) v ∙ at))
      ];
      same = λ x k. other x (λ q. k (inl q)) ∙ w.same x (λ m. k (inr m));
      off = λ x m l. elim (cases_eq x s) [
        | inl q ↦ fresh (subst Z q (chained-head mid.links head w.zeros x w.chain
            (sym self ∙ ap (link_at new) (sym q) ∙ l)))
        | inr d ↦ elim m [ inl q ↦ d q | inr k ↦ w.off x k (sym (other x d) ∙ l) ]
      ];
    }
