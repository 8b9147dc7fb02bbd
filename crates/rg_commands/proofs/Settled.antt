-- What was answered to a source, where a run stands at a whole step, and where the input is as it was.
use Rattle.std.proofs.Common.{◌≡◌, ℕ, ◌+◌, ◌⊎◌, inl, inr, true, false, List, [], ◌∷◌, ◌++◌, ◌-◌, Option, Some, refl, sym, ◌∙◌, ap, subst}
use Rattle.std.proofs.Common.{arith, append_assoc}
use Rattle.rg_base.specs.declared.outcome.EndNumbers.{EndNumbers}
use Rattle.rg_base.specs.Text.{text}
use Rattle.rg_io.specs.Content.{Appends, IsPrefix}
use Rattle.rg_tree.specs.Rows.Tables.{Tables}
use Rattle.rg_tree.specs.Rows.RowTrees.{program_of, classes_of}
use Rattle.rg_rules.specs.Acceptance.{Accepted}
use Rattle.rg_rules.specs.State.{State}
use Rattle.rg_rules.specs.Runs.{Ending, Running, Done, Stopped, opening}
use Rattle.rg_rules.specs.Runs as rules
use Rattle.rg_rules.specs.Outside.Texts.{text_of, added}
use Rattle.rg_run.specs.Asked.{Asks}
use Rattle.rg_run.specs.Machine.{Kept, Shows, numbers_of}
use Rattle.rg_run.specs.Sound.{Stands}
use Rattle.rg_run.proofs.Sound.{stands-shown}
use Rattle.rg_run.proofs.Run.{run-of, text-split}
use Rattle.rg_words.specs.declared.status.Status.{Status}
use Rattle.rg_words.specs.declared.status.Status.TheVariants as status
use Rattle.rg_words.specs.Commands.{Command, run, plain, fmt, check, code, pack, bulk, exec, when, reads_input}
use Rattle.rg_sources.specs.Sources.{Sources}
use Rattle.rg_commands.specs.Expected.{text_after, line_behind}
use Rattle.rg_commands.specs.CutOff.{Untouched, StandsAfter, bulk_added}
use Rattle.rg_commands.specs.Asked.{Unasked}
use Rattle.rg_commands.specs.Settled.{EndsWell, StopsRun, CutOff, Settles, Does}

pub no_lie : true ≡ false → ⊥
no_lie e = cc

no_front : (b : ℕ) (bs : List ℕ) → [] ≡ b ∷ bs → ⊥
no_front b bs e = cc

-- the line behind a run is nothing, or that behind the same run of as many steps as it made
line-made : (size : ℕ) (numbers : EndNumbers) (e f : Ending) (part : List ℕ) → (e ≡ Done → f ≡ Done) → IsPrefix part (line_behind size numbers e) →
    IsPrefix part (line_behind size numbers f)
line-made size numbers Running f [] same p = record { rest = line_behind size numbers f; whole_is = refl }
line-made size numbers Running f (b ∷ bs) same p = absurd (no_front b (bs ++ p.rest) p.whole_is)
line-made size numbers Done f part same p = let P : Ending → Type 0 = λ g. IsPrefix part (line_behind size numbers g) in subst P (sym (same refl)) p
line-made size numbers (Stopped kind line) f [] same p = record { rest = line_behind size numbers f; whole_is = refl }
line-made size numbers (Stopped kind line) f (b ∷ bs) same p = absurd (no_front b (bs ++ p.rest) p.whole_is)

-- a prefix goes on behind a front
pub prefix-behind : (front part whole : List ℕ) → IsPrefix part whole → IsPrefix (front ++ part) (front ++ whole)
prefix-behind front part whole p =
    record { rest = p.rest; whole_is = ap (λ q. front ++ q) p.whole_is ∙ sym (append_assoc front part p.rest) }

-- a run of `bulk` that has written all its text, and a part of its line, stands at a whole step of it
pub bulk-stands : (size : ℕ) (t : Tables) (n : ℕ) (m : Kept) (part : List ℕ) (old new : Option (List ℕ)) → Accepted (program_of t) →
    Stands t [] n m → IsPrefix part (line_behind size (numbers_of m) (rules.plain (program_of t) [] n).ending) →
    Appends old new (text_after (program_of t) [] n ++ part) → StandsAfter t [] n m.steps m (bulk_added size t m.steps m) old new
bulk-stands size t n m part old new accepted shown prefix wrote =
    let s = opening (program_of t) [] in
    let r = run-of (classes_of t) n 0 s in
    let from : 0 + r.0 ≡ r.0 = omega arith in
    let k : m.steps ≡ r.0 = shown.steps ∙ r.1.steps ∙ from in
    let P : State → Type 0 = λ x. Shows t m x in
    let Q : List ℕ → Type 0 = λ bytes. Appends old new bytes in
    let R : ℕ → Type 0 = λ j. StandsAfter t [] n j m (bulk_added size t j m) old new in
    let all : text_after (program_of t) [] n ≡ text_of t s (r.0 - 1) ++ added t s r.0 =
    ap (λ x. text x.output) (sym r.1.state) ∙ sym (text-split t [] r.0) in
    subst R (sym k) (record {
      within = r.1.within;
      made = r.1.made_steps ∙ from;
      stands = stands-shown t [] r.0 m accepted (subst P (sym r.1.state) shown.shows) (k ∙ sym (r.1.made_steps ∙ from)) shown.told;
      wrote = (
        added t s r.0 ++ part,
        prefix-behind (added t s r.0) part _ (line-made size (numbers_of m) _ _ part r.1.done prefix),
        subst Q (ap (λ q. q ++ part) all ∙ append_assoc (text_of t s (r.0 - 1)) (added t s r.0) part) wrote,
      );
    })

-- what a command that reads no input answered holds beside what is still as it was
module _ (source : Sources) (left old new : Option (List ℕ)) (m : Kept) (still : Type 0) (quiet : still) where
  untouched-still : (c : Command) → Untouched m old new (Unit {0}) ⊎ CutOff c source left old new m (Unit {0}) → reads_input c ≡ false →
      Untouched m old new still ⊎ CutOff c source left old new m still
  untouched-still c (inl u) e = inl (u.0, u.1, quiet)
  untouched-still (run slides file n every report) (inr h) e = absurd (no_lie e)
  untouched-still (plain file n) (inr h) e = absurd (no_lie e)
  untouched-still (fmt file) (inr h) e = inr h
  untouched-still (check file) (inr h) e = inr h
  untouched-still (code file) (inr h) e = inr h
  untouched-still (pack file) (inr h) e = inr h
  untouched-still (bulk size) (inr h) e = inr h
  untouched-still (exec file n every report) (inr h) e = absurd (no_lie e)
  untouched-still (when file plan keep) (inr h) e = absurd (no_lie e)

  well-still : (c : Command) → EndsWell c source left old new m (Unit {0}) → reads_input c ≡ false → EndsWell c source left old new m still
  well-still (run slides file n every report) h e = absurd (no_lie e)
  well-still (plain file n) h e = absurd (no_lie e)
  well-still (fmt file) h e = h
  well-still (check file) h e = h
  well-still (code file) h e = h
  well-still (pack file) h e = h
  well-still (bulk size) h e = h
  well-still (exec file n every report) h e = absurd (no_lie e)
  well-still (when file plan keep) h e = absurd h

  stops-still : (c : Command) (s : Status) → StopsRun c source left s old new m (Unit {0}) → reads_input c ≡ false →
      StopsRun c source left s old new m still
  stops-still (run slides file n every report) s h e = absurd (no_lie e)
  stops-still (plain file n) s h e = absurd (no_lie e)
  stops-still (fmt file) s h e = absurd h
  stops-still (check file) s h e = absurd h
  stops-still (code file) s h e = absurd h
  stops-still (pack file) s h e = absurd h
  stops-still (bulk size) s h e = h
  stops-still (exec file n every report) s h e = absurd (no_lie e)
  stops-still (when file plan keep) s h e = absurd h

  pub settles-still : (c : Command) (s : Status) → reads_input c ≡ false → Settles c source left s old new m (Unit {0}) →
      Settles c source left s old new m still
  settles-still c status.Done e h = well-still c h e
  settles-still c (status.Refused f) e h = (h.0, (h.1.0, h.1.1, quiet))
  settles-still c status.Usage e h = h
  settles-still c (status.Trap kind line) e h = stops-still c (status.Trap kind line) h e
  settles-still c status.Spent e h = stops-still c status.Spent h e
  settles-still c (status.Away n) e h = absurd h
  settles-still c status.SourceFault e h = h
  settles-still c status.InputFault e h = h
  settles-still c status.OutputFault e h = untouched-still c h e
  settles-still c status.Memory e h = untouched-still c h e
  settles-still c status.Long e h = (h.0, (h.1.0, h.1.1, quiet))

-- So does what it answered, and whom its run asked.
pub does-still : {c : Command} {source : Sources} {input : List ℕ} {s : Status} {old new : Option (List ℕ)} {m : Kept} {still : Type 0}
    {first last : Asks} → reads_input c ≡ false → still → Does c source input s old new m (Unit {0}) first last →
    Does c source input s old new m still first last
does-still {c} {source} {input} {s} {old} {new} {m} {still} reads quiet h =
    record { settles = settles-still source (Some input) old new m still quiet c s reads h.settles; asked = h.asked }

-- where it runs nothing, nobody was asked
pub quiet-still : {c : Command} {source : Sources} {input : List ℕ} {s : Status} {old new : Option (List ℕ)} {m : Kept} {still : Type 0}
    {first last : Asks} → reads_input c ≡ false → still → Settles c source (Some input) s old new m (Unit {0}) → Unasked m first last →
    Does c source input s old new m still first last
quiet-still {c} {source} {input} {s} {old} {new} {m} {still} reads quiet h none =
    record { settles = settles-still source (Some input) old new m still quiet c s reads h; asked = inl none }
