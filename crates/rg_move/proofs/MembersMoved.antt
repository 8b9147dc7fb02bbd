-- Members that move to another record, one by one (docs/architecture.md, "Freeze and merge").
use Rattle.std.proofs.Common.{◌≡◌, ℕ, ◌+◌, ◌-◌, ◌<◌, [], ◌∷◌, ◌++◌, length, take, Some, get_or, ap, sym, ◌∙◌, arith}
use Rattle.std.proofs.lemmas.List.{append_assoc, take_more}
use Rattle.rg_regions.specs.Table.{Record, RegionTable, record_at, changed, with_member}
use Rattle.rg_regions.proofs.Callers.Changed.{changed_at, changed_other, changed_links}
use Rattle.rg_move.specs.Inner.Moves.{PushedFirst}

pub pushed_more : (old t new : RegionTable) (from into : ℕ) (a b : Record) (i slot : ℕ) → i < length a.members
    → get_or a.members i 0 ≡ slot
    → PushedFirst old from into a b i t → new ≡ changed t into (with_member slot)
    → PushedFirst old from into a b (i + 1) new
pushed_more old t new from into a b i slot n at p is =
    let was : Record = record b { members = b.members ++ take i a.members; room = b.room - i } in
    let listed : (b.members ++ take i a.members) ++ slot ∷ [] ≡ b.members ++ take (i + 1) a.members =
    append_assoc b.members (take i a.members) (slot ∷ [])
    ∙ ap (λ z. b.members ++ z) (ap (λ s. take i a.members ++ s ∷ []) (sym at) ∙ sym (take_more a.members i 0 n)) in
    let less : b.room - i - 1 ≡ b.room - (i + 1) = omega arith in
    let then_is : with_member slot was ≡ record b {
      members = b.members ++ take (i + 1) a.members;
      room = b.room -
          (i + 1);
    } =
    ap (λ ms. record b { members = ms; room = b.room - i - 1 }) listed
    ∙ ap (λ r. record b { members = b.members ++ take (i + 1) a.members; room = r }) less in
    let links = changed_links t into (with_member slot) in
    record {
      pushed = ap (λ z. record_at z into) is ∙ changed_at t into was (with_member slot) p.pushed ∙ ap Some then_is;
      others = λ k d. ap (λ z. record_at z k) is ∙ changed_other t into (with_member slot) k d ∙ p.others k d;
      links = ap (λ (z : RegionTable). z.links) is ∙ links.0 ∙ p.links;
      next = ap (λ (z : RegionTable). z.next) is ∙ links.1 ∙ p.next;
    }
