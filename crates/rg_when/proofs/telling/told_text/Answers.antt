use Rattle.std.proofs.Common.{◌≡◌, ◌<◌, ℕ, length, Option, IfOk, subst}
use Rattle.std.specs.Prelude.{IfSome}
use Rattle.rg_slots.specs.Slots.{content_seen}
use Rattle.rg_words.specs.Answers.{Answer}
use Rattle.rg_when.specs.Inner.Puts.{text_answer}
use Rattle.rg_when.proofs.Told.{text-answers, kept-answers, content-there}
use Rattle.rg_when.proofs.telling.told_text.Goals as goal

pub content-requires : goal.content-requires
content-requires c =
    let b = c.requires.behind in
    content-there b.0 b.1 c.args.plan.now b.2 b.3 c.args.behind.now.world b.4.1
    c.in-Some.cown (subst (λ (o : Option ℕ). IfSome o (λ k. k < length c.args.plan.now.cowns)) c.in-Some.is c.requires.keep)

pub returns-in_default : goal.returns-in_default
returns-in_default c = λ t code images numbers h.
    text-answers c.plans_are_settings.ensures c.every_schedule_is_one_by_one.ensures t code c.args.plan.now images numbers c.args.behind.now c.args.keep
    c.in_ok-text.text h c.in_default.is (c.in_ok-text.ensures t code images numbers h.1)

pub returns : goal.returns
returns c = λ t code images numbers h.
    subst (λ (a : Answer). IfOk c.kept_text.result (λ text. text_answer text c.args.behind.now.taken ≡ a))
    (kept-answers c.plans_are_settings.ensures c.every_schedule_is_one_by_one.ensures t code c.args.plan.now images numbers c.args.behind.now c.args.keep
    c.in-Some.cown (content_seen c.content.result) h c.in-Some.is c.content.ensures) (c.kept_text.ensures c.args.behind.now.taken)
