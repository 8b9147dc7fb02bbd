-- Where a walk that asks the input lands, by where the walk along the code paused, or why it stopped.
use Rattle.std.proofs.Common.{◌≡◌, ℕ, ℤ, ◌+◌, inr, List, Bool as Truth, false, true≢false, Ok, Err, sym, subst, ◌∙◌}
use Rattle.rg_base.specs.declared.value.Val.{Val}
use Rattle.rg_base.specs.declared.value.Val.TheVariants.{Bool, Int}
use Rattle.rg_input.specs.declared.refusal.NumberRefusal.{NumberRefusal}
use Rattle.rg_input.specs.Numbers.{Answers, Looks}
use Rattle.rg_code.specs.Code.{Code}
use Rattle.rg_stack.specs.Effects.{Traps}
use Rattle.rg_stack.specs.Machine.{Machine}
use Rattle.rg_machine.specs.Core.{below_top, with_top}
use Rattle.rg_machine.specs.Cores.{core_of}
use Rattle.rg_machine.specs.Parts.{Parts, machine_in}
use Rattle.rg_machine.proofs.Callers.Return.{same-back}
use Rattle.rg_step.specs.declared.asks.Landing.TheVariants as landing
use Rattle.rg_step.specs.declared.stopped.Stopped.{Stopped}
use Rattle.rg_step.specs.declared.stopped.Stopped.TheVariants as stopped
use Rattle.rg_step.specs.declared.walk.Pause.TheVariants as pause
use Rattle.rg_step.specs.Inner.High.{MayMake}
use Rattle.rg_step.specs.Inner.Refusals.{Stands, StopIs, stopped_by}
use Rattle.rg_step.specs.Inner.Walks.{ComesTo, Lands, WalkEnds}
use Rattle.rg_step.proofs.Walking.Ask.{more-on, read-on}
use Rattle.rg_step.proofs.Walking.High.{may-most}
use Rattle.rg_step.proofs.Walking.Leaves.{no-asking, put-backs, stands-put, unread-left, unread-number}
use Rattle.rg_step.proofs.Walking.Stops.{no-stop, none-leaves, none-left, none-taken, stop-made}
use Rattle.rg_step.proofs.Walking.Walks.{Along, SoFar}

module _ (code : Code) (from : ℕ) (old : Parts) (at : ℕ) (now new : Parts) where
  -- Of the input

  pub comes-stop : (t : ℕ) → WalkEnds code at now new (Ok (pause.Stop t)) → (before after : List ℕ) → SoFar code from old at now before after
      → ComesTo code from (core_of old) (core_of new) (Ok (landing.Stop t)) before after
  comes-stop t w before after h = h.0 ∙ w.walk after

  pub comes-back : (t : ℕ) → WalkEnds code at now new (Ok (pause.Return t)) → (before after : List ℕ) → SoFar code from old at now before after
      → ComesTo code from (core_of old) (core_of new) (Ok (landing.Return t)) before after
  comes-back t w before after h = h.0 ∙ w.walk after

  -- a stop leaves all of the input
  pub comes-nowhere : (why : Stopped) → WalkEnds code at now new (Err why) → (before after : List ℕ) → SoFar code from old at now before after
      → ComesTo code from (core_of old) (core_of new) (Err why) before after
  comes-nowhere why w before after h = (
    subst (λ x. StopIs Traps x why) (sym h.0) (w.walk.1 after),
    unread-left code.ops from at (machine_in old) before after h.1 (λ calm. no-stop why (machine_in new) (λ m a. w.leaves m a (inr calm))),
  )

  -- so does one for want of a number
  pub comes-unread : (place : ℕ) (why : NumberRefusal) → WalkEnds code at now new (Ok (pause.Read place)) → (before between after : List ℕ)
      → SoFar code from old at now before between → Answers (Err why) between after
      → ComesTo code from (core_of old) (core_of new) (Err (stopped_by why)) before after
  comes-unread place why w before between after h none = (
    subst (λ x. StopIs Traps x (stopped_by why)) (sym (h.0 ∙ w.walk.3 between)) (none-taken why _ _ _ between after none),
    λ start asks s. none-left why between after none
        ∙ unread-left code.ops from at (machine_in old) before between h.1
        (λ calm. no-asking code.ops place (machine_in new) (λ m a. (w.leaves m a (inr calm)).0)) start asks s,
  )

  pub comes-unseen : (place : ℕ) → WalkEnds code at now new (Ok (pause.More place)) → (before between after : List ℕ)
      → SoFar code from old at now before between → after ≡ between
      → ComesTo code from (core_of old) (core_of new) (Err stopped.InputFault) before after
  comes-unseen place w before between after h same = (
    tt,
    λ start asks s. same
        ∙ unread-left code.ops from at (machine_in old) before between h.1
        (λ calm. no-asking code.ops place (machine_in new) (λ m a. w.leaves m a (inr calm))) start asks s,
  )

  module _ (a : Along code from old at now) where
    -- a number was read
    pub reads-on : (place : ℕ) (put : Parts) (z : ℤ) → WalkEnds code at now new (Ok (pause.Read place))
        → core_of put ≡ with_top (below_top (core_of new)) (Int z) → (before between after : List ℕ)
        → SoFar code from old at now before between → Answers (Ok z) between after → SoFar code from old (place + 1) put before after
    reads-on place put z w is before between after h found = (
      read-on code place (core_of new) (core_of put) z _ between after (h.0 ∙ w.walk.3 between) found is,
      unread-number code.ops from (place + 1) (machine_in old) before after (λ start asks s. (w.leaves start asks (a.stands start asks s)).1),
    )

    -- or whether anything is left
    pub sees-on : (place : ℕ) (put : Parts) (b : Truth) → WalkEnds code at now new (Ok (pause.More place))
        → core_of put ≡ with_top (below_top (core_of new)) (Bool b) → (before between after : List ℕ)
        → SoFar code from old at now before between → Looks (Ok b) between after → SoFar code from old (place + 1) put before after
    sees-on place put b w is before between after h seen = (
      more-on code place (core_of new) (core_of put) b _ between after (h.0 ∙ w.walk.3 between) seen.0 seen.1 is,
      λ start asks s. inr (seen.1 ∙ unread-left code.ops from at (machine_in old) before between h.1
          (λ calm. no-asking code.ops place (machine_in new) (λ m a. w.leaves m a (inr calm))) start asks s),
    )

    -- Of the machine

    pub lands-stop : (t : ℕ) → WalkEnds code at now new (Ok (pause.Stop t)) → Lands code from old new (Ok (landing.Stop t))
    lands-stop t w = record { leaves = λ start asks s. tt; backs = tt; high = λ start h. w.high start (a.high start h) }

    pub lands-back : (t : ℕ) → WalkEnds code at now new (Ok (pause.Return t)) → Lands code from old new (Ok (landing.Return t))
    lands-back t w = record {
      leaves = λ start asks s. tt;
      backs = same-back (machine_in old).frames (machine_in now).frames t a.backs w.backs;
      high = λ start h. w.high start (a.high start h);
    }

    pub lands-nowhere : (why : Stopped) → WalkEnds code at now new (Err why) → Lands code from old new (Err why)
    lands-nowhere why w = record {
      leaves = λ start asks s. w.leaves start asks (a.stands start asks s);
      backs = tt;
      high = λ start h. w.high start (a.high start h);
    }

    pub lands-unread : (place : ℕ) (why : NumberRefusal) → WalkEnds code at now new (Ok (pause.Read place))
        → Lands code from old new (Err (stopped_by why))
    lands-unread place why w = record {
      leaves = λ start asks s. let l = (w.leaves start asks (a.stands start asks s)).0 in
          none-leaves why start asks (machine_in new) l.asked l.same;
      backs = tt;
      high = λ start h. stop-made (stopped_by why) start new.heap
          (may-most code.ops start (place + 1) new.heap (w.high start (a.high start h)));
    }

    pub lands-unseen : (place : ℕ) → WalkEnds code at now new (Ok (pause.More place)) → Lands code from old new (Err stopped.InputFault)
    lands-unseen place w = record {
      leaves = λ start asks s. let l = w.leaves start asks (a.stands start asks s) in (l.asked, l.same);
      backs = tt;
      high = λ start h. may-most code.ops start (place + 1) new.heap (w.high start (a.high start h));
    }

    -- the answer stands on top
    module _ (place : ℕ) (put : Parts) (v : Val) (is : core_of put ≡ with_top (below_top (core_of new)) v) (same : put.heap ≡ new.heap) where
      pub along-read : WalkEnds code at now new (Ok (pause.Read place)) → Along code from old (place + 1) put
      along-read w = record {
        stands = λ start asks s. stands-put code.ops start asks place (core_of new) (core_of put) v is (w.leaves start asks (a.stands start asks s)).0;
        backs = put-backs (core_of new) (core_of put) v is ∙ w.backs ∙ a.backs;
        high = λ start h. subst (MayMake code.ops start (place + 1)) (sym same) (w.high start (a.high start h));
      }

      pub along-more : WalkEnds code at now new (Ok (pause.More place)) → Along code from old (place + 1) put
      along-more w = record {
        stands = λ start asks s. stands-put code.ops start asks place (core_of new) (core_of put) v is (w.leaves start asks (a.stands start asks s));
        backs = put-backs (core_of new) (core_of put) v is ∙ w.backs ∙ a.backs;
        high = λ start h. subst (MayMake code.ops start (place + 1)) (sym same) (w.high start (a.high start h));
      }

    -- a walk that isn't to ask doesn't
    pub never-reads : (place : ℕ) → WalkEnds code at now new (Ok (pause.Read place)) → (start : Machine)
        → Stands code.ops start false from (machine_in old) → ⊥
    never-reads place w start s = true≢false (sym (w.leaves start false (a.stands start false s)).0.asked)

    pub never-looks : (place : ℕ) → WalkEnds code at now new (Ok (pause.More place)) → (start : Machine)
        → Stands code.ops start false from (machine_in old) → ⊥
    never-looks place w start s = true≢false (sym (w.leaves start false (a.stands start false s)).asked)
