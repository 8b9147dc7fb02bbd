use Rattle.std.proofs.Common.{◌∙◌, ◌≡◌, ℕ, List, [], ◌∷◌, length, replicate, sym, ap, subst, false, arith}
use Rattle.std.proofs.lemmas.List.{length-replicate}
use Rattle.rg_rules.specs.Regions.{among}
use Rattle.rg_store.specs.Links.{listed, linked}
use Rattle.rg_store.specs.Regions.{is_marked, AreMarked}
use Rattle.rg_store.proofs.Subregions.{Reaches-first, Reaches-more, none-marked}
use Rattle.rg_store.proofs.marks.linked.Goals as goal

pub mark-requires-clause-fit : goal.mark-requires-clause-fit
mark-requires-clause-fit c r =
    let none : c.in-Ok.marks.items ≡ replicate (length c.args.led.now) false = c.in-Ok.ensures.items_if_clones_equal (λ y h. h) in
    ap (λ q. is_marked q r) none ∙ none-marked (length c.args.led.now) r ∙ ap (λ (q : List ℕ). among q r) (sym c.new.ensures.items)

pub loop-link-init : goal.loop-link-init
loop-link-init c =
    let none : c.in-Ok.marks.items ≡ replicate (length c.args.led.now) false = c.in-Ok.ensures.items_if_clones_equal (λ y h. h) in record {
      count = c.in_ok-mark.ensures.count ∙ ap length none ∙ length-replicate (length c.args.led.now) false;
      reaches =
          Reaches-first (listed c.args.led.now) c.args.region _ c.mark.new.found
          (λ r. ap (λ q. is_marked q r) none ∙ none-marked (length c.args.led.now) r) c.in_ok-mark.ensures;
    }

pub loop-link-preserved : goal.loop-link-preserved
loop-link-preserved c =
    let found = c.in_ok-done.ensures.found in record {
      count = found.count ∙ c.loop-link.invariant.count;
      reaches =
          Reaches-more (listed c.args.led.now) c.args.region c.loop-link._link c.loop-link.done c.in_ok-done.done c.loop-link.found
          c.mark_led.new.found c.loop-link.invariant.reaches found c.in_ok-done.ensures.done;
    }

pub returns : goal.returns
returns c =
    let all : c.loop-link._link ≡ length c.args.led.now = omega (arith, c.loop-link-test.false, c.loop-link.auto._link-end) in
    subst (λ n. AreMarked c.loop-link.found.marks.items (linked (listed c.args.led.now) n (c.args.region ∷ []))) all
    c.loop-link.invariant.reaches.linked
