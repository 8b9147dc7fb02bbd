-- What the notes have taken of a call: the lines of a run's collections, then the text of its status, and the line of its end.
use Rattle.std.proofs.Common.{◌≡◌, ◌≢◌, ℕ, ◌≤◌, ◌⊎◌, inl, inr, Bool, true, false, List, [], ◌++◌, length, take, Option, Some, None, refl, sym, ap}
use Rattle.std.proofs.Common.{subst, arith, append-nil, append_assoc}
use Rattle.std.proofs.Math.Seq.{take-length}
use Rattle.rg_base.specs.declared.event.Event.{Event}
use Rattle.rg_base.specs.Report.{end_line}
use Rattle.rg_io.specs.Content.{Rose, Appends, AppendsPart, IsPrefix}
use Rattle.rg_io.proofs.Content.{Appends-more}
use Rattle.rg_run.specs.Machine.{Stepping}
use Rattle.rg_run.specs.Machine.{Kept, IsFresh, numbers_of}
use Rattle.rg_run.specs.Reports.{event_lines, AreCutLines}
use Rattle.rg_words.specs.declared.status.Status.{Status}
use Rattle.rg_words.specs.declared.status.Status.TheVariants as status
use Rattle.rg_words.specs.Commands.{Command, command, reports, may_report, steps_of}
use Rattle.rg_words.specs.Statuses.{status_text, ends_run}
use Rattle.rg_top.specs.Headline.{IsBefore, text_behind, TookNotes, ToldFault, steps_asked}
use Rattle.rg_words.proofs.Written.{untouched-text}
use Rattle.rg_commands.specs.Settled.{Reported}
use Rattle.rg_commands.proofs.Settled.{prefix-behind}
use Rattle.rg_commands.proofs.Generated.{prefix-more}
use Rattle.rg_top.specs.Inner.Told.{CutText, Gave, Becomes}

-- what the notes have taken before a status is told are the lines before its text
record Front (report : Bool) (s : Status) (events : List Event) (old mid : Option (List ℕ)) : Type 0 where
  pub lines : List ℕ
  pub before : IsBefore report s events lines
  pub took : Appends old mid lines

front-of : (report : Bool) (s : Status) (events : List Event) (old mid : Option (List ℕ)) → Reported report s events old mid →
    Front report s events old mid
front-of false s events old mid h = record { lines = []; before = refl; took = untouched-text old mid h }
front-of true status.Done events old mid h = record { lines = event_lines events; before = refl; took = h }
front-of true (status.Refused f) events old mid h = record { lines = []; before = refl; took = untouched-text old mid h }
front-of true status.Usage events old mid h = record { lines = []; before = refl; took = untouched-text old mid h }
front-of true (status.Trap kind line) events old mid h = record { lines = event_lines events; before = refl; took = h }
front-of true status.Spent events old mid h = record { lines = event_lines events; before = refl; took = h }
front-of true (status.Away n) events old mid h = record { lines = []; before = refl; took = untouched-text old mid h }
front-of true status.SourceFault events old mid h = record { lines = []; before = refl; took = untouched-text old mid h }
front-of true status.InputFault events old mid h = record { lines = event_lines events; before = refl; took = h }
front-of true status.OutputFault events old mid h = record { lines = h.0; before = h.1; took = h.2 }
front-of true status.Memory events old mid h = record { lines = event_lines (take h.0 events); before = (h.0, h.1, refl); took = h.2 }
front-of true status.Long events old mid h = record { lines = []; before = refl; took = untouched-text old mid h }

-- the whole text was taken
took-whole : (May : Status → Type 0) (report : Bool) (steps : ℕ) (m : Kept) (s : Status) (old new : Option (List ℕ)) (lines : List ℕ) →
    s ≢ status.OutputFault → IsBefore report s m.stepper.events lines → Appends old new (lines ++ text_behind report steps m s) →
    TookNotes May report steps m s old new
took-whole May report steps m status.Done old new lines n is took = (lines, is, took)
took-whole May report steps m (status.Refused f) old new lines n is took = (lines, is, took)
took-whole May report steps m status.Usage old new lines n is took = (lines, is, took)
took-whole May report steps m (status.Trap kind line) old new lines n is took = (lines, is, took)
took-whole May report steps m status.Spent old new lines n is took = (lines, is, took)
took-whole May report steps m (status.Away k) old new lines n is took = (lines, is, took)
took-whole May report steps m status.SourceFault old new lines n is took = (lines, is, took)
took-whole May report steps m status.InputFault old new lines n is took = (lines, is, took)
took-whole May report steps m status.OutputFault old new lines n is took = absurd (n refl)
took-whole May report steps m status.Memory old new lines n is took = (lines, is, took)
took-whole May report steps m status.Long old new lines n is took = (lines, is, took)

-- a status was told behind what the notes had taken
pub took-told : (May : Status → Type 0) (report : Bool) (steps : ℕ) (m : Kept) (given answer : Status) (old mid new : Option (List ℕ)) →
    given ≢ status.OutputFault → May given → Reported report given m.stepper.events old mid →
    Gave (text_behind report steps m given) given answer mid new → TookNotes May report steps m answer old new
took-told May report steps m given answer old mid new n may h (inl (e, wrote)) =
    let f = front-of report given m.stepper.events old mid h in
    let P : Status → Type 0 = λ s. TookNotes May report steps m s old new in
    subst P (sym e)
    (took-whole May report steps m given old new f.lines n f.before
    (Appends-more old mid new f.lines (text_behind report steps m given) f.took wrote))
took-told May report steps m given answer old mid new n may h (inr (e, cut)) =
    let f = front-of report given m.stepper.events old mid h in
    let P : Status → Type 0 = λ s. TookNotes May report steps m s old new in
    let Q : List ℕ → Type 0 = λ q. Appends old new q in
    subst P (sym e) (inr (record {
      other = given;
      may = may;
      another = n;
      lines = f.lines;
      before = f.before;
      first = cut.first;
      second = cut.second;
      first_of = cut.first_of;
      second_of = cut.second_of;
      took = subst Q (sym (append_assoc f.lines cut.first cut.second))
          (Appends-more old mid new f.lines (cut.first ++ cut.second) f.took cut.took);
    }))

-- an output fault was told behind what the notes had taken
pub took-fault : (May : Status → Type 0) (report : Bool) (steps : ℕ) (m : Kept) (old mid new : Option (List ℕ)) →
    Reported report status.OutputFault m.stepper.events old mid → AppendsPart mid new (status_text 0 status.OutputFault) →
    TookNotes May report steps m status.OutputFault old new
took-fault May report steps m old mid new h part =
    let f = front-of report status.OutputFault m.stepper.events old mid h in
    inl (f.lines, f.before, (part.0, part.1, Appends-more old mid new f.lines part.0 f.took part.2))

-- a status that may be told may be so by another word for that
pub took-may : (May Might : Status → Type 0) → ((s : Status) → s ≢ status.OutputFault → May s → Might s) →
    (report : Bool) (steps : ℕ) (m : Kept) (answer : Status) (old new : Option (List ℕ)) →
    TookNotes May report steps m answer old new → TookNotes Might report steps m answer old new
took-may May Might f report steps m status.Done old new h = h
took-may May Might f report steps m (status.Refused fault) old new h = h
took-may May Might f report steps m status.Usage old new h = h
took-may May Might f report steps m (status.Trap kind line) old new h = h
took-may May Might f report steps m status.Spent old new h = h
took-may May Might f report steps m (status.Away n) old new h = h
took-may May Might f report steps m status.SourceFault old new h = h
took-may May Might f report steps m status.InputFault old new h = h
took-may May Might f report steps m status.OutputFault old new (inl h) = inl h
took-may May Might f report steps m status.OutputFault old new (inr p) = inr (record {
  other = p.other;
  may = f p.other p.another p.may;
  another = p.another;
  lines = p.lines;
  before = p.before;
  first = p.first;
  second = p.second;
  first_of = p.first_of;
  second_of = p.second_of;
  took = p.took;
})
took-may May Might f report steps m status.Memory old new h = h
took-may May Might f report steps m status.Long old new h = h

-- and the whole of its text
pub fault-told : (report : Bool) (events : List Event) (old mid new : Option (List ℕ)) → Reported report status.OutputFault events old mid →
    Appends mid new (status_text 0 status.OutputFault) → ToldFault report events old new
fault-told report events old mid new h whole =
    let f = front-of report status.OutputFault events old mid h in
    (f.lines, f.before, Appends-more old mid new f.lines (status_text 0 status.OutputFault) f.took whole)

-- all lines are the first ones, too
all-lines : (events : List Event) (old mid : Option (List ℕ)) → Appends old mid (event_lines events) → Reported true status.Memory events old mid
all-lines events old mid h =
    let P : List Event → Type 0 = λ q. Appends old mid (event_lines q) in (length events, omega arith, subst P (sym (take-length events)) h)

-- a run that came to its end has given all of them
pub reported-memory : (s : Status) (events : List Event) (old mid : Option (List ℕ)) → ends_run s ≡ true → Reported true s events old mid →
    Reported true status.Memory events old mid
reported-memory status.Done events old mid e h = all-lines events old mid h
reported-memory (status.Refused f) events old mid e h = cc
reported-memory status.Usage events old mid e h = cc
reported-memory (status.Trap kind line) events old mid e h = all-lines events old mid h
reported-memory status.Spent events old mid e h = all-lines events old mid h
reported-memory (status.Away n) events old mid e h = cc
reported-memory status.SourceFault events old mid e h = cc
reported-memory status.InputFault events old mid e h = cc
reported-memory status.OutputFault events old mid e h = cc
reported-memory status.Memory events old mid e h = cc
reported-memory status.Long events old mid e h = cc

-- what the notes have taken, with the machine and the notes by other names
pub took-moved : (May : Status → Type 0) (report : Bool) (steps : ℕ) (m n : Kept) (s : Status) (old new behind : Option (List ℕ)) → m ≡ n →
    new ≡ behind → TookNotes May report steps m s old new → TookNotes May report steps n s old behind
took-moved May report steps m n s old new behind machine_is notes_are h =
    let P : Kept → Type 0 = λ q. TookNotes May report steps q s old new in
    let Q : Option (List ℕ) → Type 0 = λ q. TookNotes May report steps n s old q in
    subst Q notes_are (subst P machine_is h)

pub fault-moved : (report : Bool) (m n : Kept) (old new behind : Option (List ℕ)) → m ≡ n → new ≡ behind →
    ToldFault report m.stepper.events old new → ToldFault report n.stepper.events old behind
fault-moved report m n old new behind machine_is notes_are h =
    let P : Kept → Type 0 = λ q. ToldFault report q.stepper.events old new in
    let Q : Option (List ℕ) → Type 0 = λ q. ToldFault report n.stepper.events old q in
    subst Q notes_are (subst P machine_is h)

-- what is told behind the lines of collections: with a report the line of a run's end stands behind the text of the status
pub behind-end : (steps : ℕ) (m : Kept) (s : Status) → ends_run s ≡ true → text_behind true steps m s ≡ status_text steps s ++ end_line (numbers_of m)
behind-end steps m status.Done e = refl
behind-end steps m (status.Refused f) e = cc
behind-end steps m status.Usage e = cc
behind-end steps m (status.Trap kind line) e = refl
behind-end steps m status.Spent e = refl
behind-end steps m (status.Away n) e = cc
behind-end steps m status.SourceFault e = cc
behind-end steps m status.InputFault e = cc
behind-end steps m status.OutputFault e = cc
behind-end steps m status.Memory e = cc
behind-end steps m status.Long e = cc

pub behind-other : (report : Bool) (steps : ℕ) (m : Kept) (s : Status) → (report ≡ false) ⊎ (ends_run s ≡ false) →
    text_behind report steps m s ≡ status_text steps s
behind-other false steps m s h = refl
behind-other true steps m s (inl e) = cc
behind-other true steps m status.Done (inr e) = cc
behind-other true steps m (status.Refused f) (inr e) = append-nil _
behind-other true steps m status.Usage (inr e) = append-nil _
behind-other true steps m (status.Trap kind line) (inr e) = cc
behind-other true steps m status.Spent (inr e) = cc
behind-other true steps m (status.Away n) (inr e) = append-nil _
behind-other true steps m status.SourceFault (inr e) = append-nil _
behind-other true steps m status.InputFault (inr e) = append-nil _
behind-other true steps m status.OutputFault (inr e) = append-nil _
behind-other true steps m status.Memory (inr e) = append-nil _
behind-other true steps m status.Long (inr e) = append-nil _

-- a status alone is told
pub took-status : (May : Status → Type 0) (report : Bool) (steps : ℕ) (m : Kept) (given answer : Status) (old mid new : Option (List ℕ)) →
    given ≢ status.OutputFault → May given → (report ≡ false) ⊎ (ends_run given ≡ false) → Reported report given m.stepper.events old mid →
    Gave (status_text steps given) given answer mid new → TookNotes May report steps m answer old new
took-status May report steps m given answer old mid new n may alone h gave =
    let P : List ℕ → Type 0 = λ q. Gave q given answer mid new in
    took-told May report steps m given answer old mid new n may h (subst P (sym (behind-other report steps m given alone)) gave)

-- a run's end is told, or that there was no memory for its line
pub took-end : (May : Status → Type 0) (steps : ℕ) (m : Kept) (given answer : Status) (old mid new : Option (List ℕ)) → given ≢ status.OutputFault →
    May given → May status.Memory → ends_run given ≡ true → Reported true given m.stepper.events old mid →
    Gave (status_text steps given ++ end_line (numbers_of m)) given answer mid new
    ⊎ Gave (status_text steps status.Memory) status.Memory answer mid new →
    TookNotes May true steps m answer old new
took-end May steps m given answer old mid new n may memory ends h (inl gave) =
    let P : List ℕ → Type 0 = λ q. Gave q given answer mid new in
    took-told May true steps m given answer old mid new n may h (subst P (sym (behind-end steps m given ends)) gave)
took-end May steps m given answer old mid new n may memory ends h (inr gave) =
    took-status May true steps m status.Memory answer old mid new (λ e. cc) memory (inr refl)
    (reported-memory given m.stepper.events old mid ends h) gave

-- what was told of a status is that status, or another one that says that it couldn't be told
pub gave-becomes : (whole : List ℕ) (given answer : Status) (old new : Option (List ℕ)) → Gave whole given answer old new →
    (answer ≡ given) ⊎ (answer ≡ status.OutputFault)
gave-becomes whole given answer old new (inl h) = inl h.0
gave-becomes whole given answer old new (inr h) = inr h.0

-- a count rose in both of two calls together, where it rose in one
pub rose-then : (a b c : ℕ) → Rose a b → b ≤ c → Rose a c
rose-then a b c (inl h) l = inl (omega (arith, h, l))
rose-then a b c (inr h) l = inr (omega (arith, h, l))

-- what the notes have taken of a command that the words give
module _ (words : List (List ℕ)) (c : Command) (report : Bool) (m : Kept) (given answer : Status) (old mid new : Option (List ℕ))
    (asked : command words ≡ Some c) (same : report ≡ reports c) (h : Reported (reports c) given m.stepper.events old mid) where
  reported-same : Reported report given m.stepper.events old mid
  reported-same = let P : Bool → Type 0 = λ q. Reported q given m.stepper.events old mid in subst P (sym same) h

  pub asked-notes : (May Might : Status → Type 0) → ((s : Status) → s ≢ status.OutputFault → May s → Might s) → (steps : ℕ) → steps ≡ steps_of c →
      ((old : Option (List ℕ)) → Reported report given m.stepper.events old mid → TookNotes May report steps m answer old new) →
      TookNotes Might (may_report (command words)) (steps_asked (command words)) m answer old new
  asked-notes May Might f steps is took =
      let P : Bool → Type 0 = λ q. TookNotes Might q (steps_of c) m answer old new in
      let Q : ℕ → Type 0 = λ n. TookNotes Might report n m answer old new in
      rw asked (subst P same (subst Q is (took-may May Might f report steps m answer old new (took old reported-same))))

  pub asked-fault : ((old : Option (List ℕ)) → Reported report given m.stepper.events old mid → ToldFault report m.stepper.events old new) →
      ToldFault (may_report (command words)) m.stepper.events old new
  asked-fault told =
      let P : Bool → Type 0 = λ q. ToldFault q m.stepper.events old new in
      rw asked (subst P same (told old reported-same))

-- and of words that give none
pub unasked-notes : (words : List (List ℕ)) (Might : Status → Type 0) (m : Kept) (answer : Status) (old new : Option (List ℕ)) →
    command words ≡ None → Might status.Usage → TookNotes (λ s. s ≡ status.Usage) false 0 m answer old new →
    TookNotes Might (may_report (command words)) (steps_asked (command words)) m answer old new
unasked-notes words Might m answer old new none might took =
    rw none (took-may (λ s. s ≡ status.Usage) Might (λ s n e. subst Might (sym e) might) false 0 m answer old new took)

-- a fault in a text, and one behind it
pub cut-front : (text more : List ℕ) (old mid new : Option (List ℕ)) → AppendsPart old mid text →
    AppendsPart mid new (status_text 0 status.OutputFault) → CutText (text ++ more) old new
cut-front text more old mid new p q = record {
  first = p.0;
  second = q.0;
  first_of = prefix-more p.0 text more p.1;
  second_of = q.1;
  took = Appends-more old mid new p.0 q.0 p.2 q.2;
}

pub cut-behind : (text line more : List ℕ) (old mid then new : Option (List ℕ)) → line ≡ more → Appends old mid text → AppendsPart mid then line →
    AppendsPart then new (status_text 0 status.OutputFault) → CutText (text ++ more) old new
cut-behind text line more old mid then new same w p q =
    let P : List ℕ → Type 0 = λ l. CutText (text ++ l) old new in
    subst P same (record {
      first = text ++ p.0;
      second = q.0;
      first_of = prefix-behind text p.0 line p.1;
      second_of = q.1;
      took = Appends-more old then new (text ++ p.0) q.0 (Appends-more old mid then text p.0 w p.2) q.2;
    })

pub both-whole : (text line more : List ℕ) (old mid new : Option (List ℕ)) → line ≡ more → Appends old mid text → Appends mid new line →
    Appends old new (text ++ more)
both-whole text line more old mid new same w v =
    let P : List ℕ → Type 0 = λ l. Appends old new (text ++ l) in subst P same (Appends-more old mid new text line w v)

-- what is answered of a status that was told
pub becomes-told : (whole : List ℕ) (given answer : Status) (old new : Option (List ℕ)) → Gave whole given answer old new → Becomes given answer
becomes-told whole given answer old new (inl h) = inl h.0
becomes-told whole given answer old new (inr h) = inr (inl h.0)

pub becomes-end : (whole other : List ℕ) (given answer : Status) (old new : Option (List ℕ)) →
    Gave whole given answer old new ⊎ Gave other status.Memory answer old new → Becomes given answer
becomes-end whole other given answer old new (inl (inl h)) = inl h.0
becomes-end whole other given answer old new (inl (inr h)) = inr (inl h.0)
becomes-end whole other given answer old new (inr (inl h)) = inr (inr h.0)
becomes-end whole other given answer old new (inr (inr h)) = inr (inl h.0)

-- a report's end is told
pub took-report : (May : Status → Type 0) (report : Bool) (steps : ℕ) (m : Kept) (given answer : Status) (old mid new : Option (List ℕ)) →
    given ≢ status.OutputFault → May given → May status.Memory → report ≡ true → ends_run given ≡ true →
    Reported report given m.stepper.events old mid →
    Gave (status_text steps given ++ end_line (numbers_of m)) given answer mid new
    ⊎ Gave (status_text steps status.Memory) status.Memory answer mid new →
    TookNotes May report steps m answer old new
took-report May report steps m given answer old mid new n may memory is ends h gave =
    let P : Bool → Type 0 = λ b. Reported b given m.stepper.events old mid → TookNotes May b steps m answer old new in
    subst P (sym is) (λ h. took-end May steps m given answer old mid new n may memory ends h gave) h

-- another status than an output fault isn't told as one without a fault of the notes
pub no-fault-told : (given : Status) (R P : Type 0) → given ≢ status.OutputFault → ¬ R → (given ≡ status.OutputFault) ⊎ R → P
no-fault-told given R P n none (inl e) = absurd (n e)
no-fault-told given R P n none (inr r) = absurd (none r)

-- What is told of want of memory alone is what the notes take of it with a report, too, where no run has begun.
no-lines : (m : Kept) → IsFresh m → length m.stepper.events ≤ 1
no-lines m fresh =
    let none : m.stepper.events ≡ [] = ap (λ (s : Stepping). s.events) fresh.stepper in omega (arith, ap length none)

no-lines-cut : (m : Kept) (lines : List ℕ) → IsFresh m → lines ≡ [] → AreCutLines m.stepper.events lines
no-lines-cut m lines fresh none =
    subst (AreCutLines m.stepper.events) (sym none) (record {
      whole = 0;
      but_last = no-lines m fresh;
      begins = record { rest = []; whole_is = refl };
      ends = record { rest = event_lines m.stepper.events; whole_is = refl };
    })

before-memory : (report : Bool) (m : Kept) (lines : List ℕ) → IsFresh m → lines ≡ [] → IsBefore report status.Memory m.stepper.events lines
before-memory false m lines fresh none = none
before-memory true m lines fresh none = (0, no-lines m fresh, none)

before-fault : (report : Bool) (m : Kept) (lines : List ℕ) → IsFresh m → lines ≡ [] → IsBefore report status.OutputFault m.stepper.events lines
before-fault false m lines fresh none = none
before-fault true m lines fresh none = no-lines-cut m lines fresh none

memory-text : (report : Bool) (steps : ℕ) (m : Kept) → text_behind report steps m status.Memory ≡ status_text 0 status.Memory
memory-text false steps m = refl
memory-text true steps m = append-nil (status_text 0 status.Memory)

pub memory-notes : (Might : Status → Type 0) (report : Bool) (steps : ℕ) (m : Kept) (answer : Status) (old new : Option (List ℕ)) → IsFresh m →
    Might status.Memory → (answer ≡ status.Memory) ⊎ (answer ≡ status.OutputFault) →
    TookNotes (λ s. s ≡ status.Memory) false 0 m answer old new → TookNotes Might report steps m answer old new
memory-notes Might report steps m answer old new fresh might (inl e) h =
    let P : Status → Type 0 = λ s. TookNotes (λ s. s ≡ status.Memory) false 0 m s old new in
    let Q : Status → Type 0 = λ s. TookNotes Might report steps m s old new in
    subst Q (sym e) (memory-taken Might report steps m old new fresh (subst P e h))
  where
    memory-taken : (Might : Status → Type 0) (report : Bool) (steps : ℕ) (m : Kept) (old new : Option (List ℕ)) → IsFresh m →
        TookNotes (λ s. s ≡ status.Memory) false 0 m status.Memory old new → TookNotes Might report steps m status.Memory old new
    memory-taken Might report steps m old new fresh (lines, none, took) =
        let R : List ℕ → Type 0 = λ q. Appends old new (lines ++ q) in
        (lines, before-memory report m lines fresh none, subst R (sym (memory-text report steps m)) took)
memory-notes Might report steps m answer old new fresh might (inr e) h =
    let P : Status → Type 0 = λ s. TookNotes (λ s. s ≡ status.Memory) false 0 m s old new in
    let Q : Status → Type 0 = λ s. TookNotes Might report steps m s old new in
    subst Q (sym e) (fault-taken Might report steps m old new fresh might (subst P e h))
  where
    fault-taken : (Might : Status → Type 0) (report : Bool) (steps : ℕ) (m : Kept) (old new : Option (List ℕ)) → IsFresh m → Might status.Memory →
        TookNotes (λ s. s ≡ status.Memory) false 0 m status.OutputFault old new → TookNotes Might report steps m status.OutputFault old new
    fault-taken Might report steps m old new fresh might (inl (lines, none, upto)) = inl (lines, before-fault report m lines fresh none, upto)
    fault-taken Might report steps m old new fresh might (inr p) =
        let S : Status → Type 0 = λ s. IsPrefix p.first (text_behind false 0 m s) in
        let T : List ℕ → Type 0 = λ q. IsPrefix p.first q in
        inr (record {
          other = status.Memory;
          may = might;
          another = λ e. cc;
          lines = p.lines;
          before = before-memory report m p.lines fresh p.before;
          first = p.first;
          second = p.second;
          first_of = subst T (sym (memory-text report steps m)) (subst S p.may p.first_of);
          second_of = p.second_of;
          took = p.took;
        })
