use Rattle.std.proofs.Common.{◌≡◌, refl, ◌∙◌, ap, subst, map, length, slice_get, Some, rules}
use Rattle.std.proofs.lemmas.Option.{slice_get_read}
use Rattle.rg_code.specs.Inner.Headings.{shown}
use Rattle.rg_code.proofs.HeadingReads.{with_headings-push}
use Rattle.rg_code.proofs.headings.add_heading.Goals as goal

pub returns-in-Ok : goal.returns-in-Ok
returns-in-Ok c =
    let es = c.args.entries.now in
    let n : c.len.result ≡ length c.args.all.now.items = search rules in
    let there : slice_get es (length c.args.all.now.items) ≡ Some c.in-Some.entry.now =
    subst (λ k. slice_get es k ≡ Some c.in-Some.entry.now) n
    (slice_get_read es (length es) c.len.result c.in-Some.entry.now refl c.in-Some.ensures.lookup.3.0 c.in-Some.ensures.lookup.1) in
    ap (map shown) c.in-Ok.ensures.items ∙ with_headings-push es c.args.all.now.items c.in-Some.entry.now _ _ there refl
