-- A generated program, its run, and the line behind it, as what was answered to `bulk`.
use Rattle.std.proofs.Common.{◌≡◌, ◌≢◌, ℕ, inl, inr, List, [], ◌++◌, ◌⊎◌, Option, Some, refl, sym, ◌∙◌, ap, subst, arith, append-nil}
use Rattle.std.proofs.Common.{append_assoc}
use Rattle.rg_base.specs.declared.limits.TheConstants.{MOST_STEPS}
use Rattle.rg_base.specs.declared.outcome.EndNumbers.{EndNumbers}
use Rattle.rg_base.specs.Report.{bulk_line}
use Rattle.rg_io.specs.Content.{Rose, Appends, AppendsPart, IsPrefix}
use Rattle.rg_io.proofs.Content.{Appends-more}
use Rattle.rg_tree.specs.Rows.RowTrees.{program_of}
use Rattle.rg_rules.specs.Runs.{Ending, Running, Done, Stopped}
use Rattle.rg_rules.specs.Runs as rules
use Rattle.rg_make.specs.Generated as make
use Rattle.rg_run.specs.Machine.{Kept, numbers_of}
use Rattle.rg_run.specs.Sound.{Stands}
use Rattle.rg_words.specs.declared.status.Status.{Status}
use Rattle.rg_words.specs.declared.status.Status.TheVariants as status
use Rattle.rg_words.specs.Commands.{bulk, generated}
use Rattle.rg_words.specs.Answers.{ForInput, PutLine}
use Rattle.rg_sources.specs.Sources.{Sources}
use Rattle.rg_commands.specs.Expected.{status_of, text_after, line_behind}
use Rattle.rg_commands.specs.CutOff.{Untouched, CutOffAt}
use Rattle.rg_commands.specs.Settled.{RanWhole, RanFrom, RanGenerated, RunCut, Settles}
use Rattle.rg_commands.proofs.Settled.{bulk-stands}

-- a status of a run tells its ending
done-ending : (e : Ending) → status.Done ≡ status_of e → e ≡ Done
done-ending Running h = cc
done-ending Done h = refl
done-ending (Stopped kind line) h = cc

no-line : (size : ℕ) (numbers : EndNumbers) (s : Status) (e : Ending) → s ≡ status_of e → s ≢ status.Done → line_behind size numbers e ≡ []
no-line size numbers s Running h n = refl
no-line size numbers s Done h n = absurd (n h)
no-line size numbers s (Stopped kind line) h n = refl

-- what holds of a run on an empty input
module _ (size : ℕ) (source : Sources) (s : Status) (old new : Option (List ℕ)) (m : Kept) (still : Type 0)
    (r : RanWhole (generated size) MOST_STEPS source (Some []) s old new m still) where
  pub ran-status : s ≡ status_of (rules.plain (program_of r.tables) [] MOST_STEPS).ending
  ran-status =
      let P : List ℕ → Type 0 = λ q. s ≡ status_of (rules.plain (program_of r.tables) q MOST_STEPS).ending in subst P (sym r.input_is) r.status_is

  pub ran-text : Appends old new (text_after (program_of r.tables) [] MOST_STEPS)
  ran-text =
      let P : List ℕ → Type 0 = λ q. Appends old new (text_after (program_of r.tables) q MOST_STEPS) in subst P (sym r.input_is) r.wrote

  pub ran-stands : Stands r.tables [] MOST_STEPS m
  ran-stands = let P : List ℕ → Type 0 = λ q. Stands r.tables q MOST_STEPS m in subst P (sym r.input_is) r.stands

-- an input that never fails brings no fault
pub no-fault : (s : Status) → (s ≡ status.InputFault → Rose 0 0) → s ≢ status.InputFault
no-fault s h e = elim (h e) [ inl more ↦ absurd (omega (arith, more)) | inr most ↦ absurd (omega (arith, most)) ]

-- a run that stopped has no line behind it
stopped-generated : (size : ℕ) (source : Sources) (s : Status) (old new : Option (List ℕ)) (m : Kept) (still : Type 0) → s ≢ status.Done →
    RanWhole (generated size) MOST_STEPS source (Some []) s old new m still → RanGenerated size source s old new m
stopped-generated size source s old new m still n r =
    let t = program_of r.tables in
    let bytes = text_after t [] MOST_STEPS in
    let is = ran-status size source s old new m still r in
    let none = no-line size (numbers_of m) s (rules.plain t [] MOST_STEPS).ending is n in
    let P : List ℕ → Type 0 = λ q. Appends old new q in
    record {
      tables = r.tables;
      runs = r.runs;
      status_is = is;
      wrote = subst P (sym (ap (λ q. bytes ++ q) none ∙ append-nil bytes)) (ran-text size source s old new m still r);
      stands = ran-stands size source s old new m still r;
    }

-- a prefix is one of more, too
pub prefix-more : (part whole more : List ℕ) → IsPrefix part whole → IsPrefix part (whole ++ more)
prefix-more part whole more p =
    record { rest = p.rest ++ more; whole_is = ap (λ q. q ++ more) p.whole_is ∙ append_assoc part p.rest more }

-- where a run was cut off, so was `bulk`
cut-run : (size : ℕ) (source : Sources) (old new : Option (List ℕ)) (m : Kept) (still : Type 0) →
    ForInput (Some []) (λ input. RunCut (generated size) MOST_STEPS source input m old new still) →
    CutOffAt (bulk size) source [] m old new (Unit {0})
cut-run size source old new m still h =
    let P : List ℕ → Type 0 = λ q. RunCut (generated size) MOST_STEPS source q m old new still in
    let cut = subst P (sym h.1) h.2 in
    let stands = cut.2 in
    let wrote = stands.wrote in (
      cut.0,
      cut.1,
      record {
        within = stands.within;
        made = stands.made;
        stands = stands.stands;
        wrote = (wrote.0, prefix-more wrote.0 _ _ wrote.1, wrote.2);
      },
    )

cut-either : (size : ℕ) (source : Sources) (old new : Option (List ℕ)) (m : Kept) (still : Type 0) →
    Untouched m old new still ⊎ ForInput (Some []) (λ input. RunCut (generated size) MOST_STEPS source input m old new still) →
    Untouched m old new (Unit {0}) ⊎ CutOffAt (bulk size) source [] m old new (Unit {0})
cut-either size source old new m still (inl u) = inl (u.0, u.1, tt)
cut-either size source old new m still (inr h) = inr (cut-run size source old new m still h)

-- a run that didn't come to its end is what `bulk` has answered
pub generated-stops : (size : ℕ) (source : Sources) (left : Option (List ℕ)) (s : Status) (old new : Option (List ℕ)) (m : Kept) (still : Type 0) →
    s ≢ status.Done → s ≢ status.InputFault → RanFrom (generated size) MOST_STEPS source (Some []) s old new m still →
    Settles (bulk size) source left s old new m (Unit {0})
generated-stops size source left status.Done old new m still n i h = absurd (n refl)
generated-stops size source left (status.Refused f) old new m still n i h = absurd h
generated-stops size source left status.Usage old new m still n i h = h
generated-stops size source left (status.Trap kind line) old new m still n i h =
    stopped-generated size source (status.Trap kind line) old new m still n h
generated-stops size source left status.Spent old new m still n i h = stopped-generated size source status.Spent old new m still n h
generated-stops size source left (status.Away k) old new m still n i h = absurd h
generated-stops size source left status.SourceFault old new m still n i h = h
generated-stops size source left status.InputFault old new m still n i h = absurd (i refl)
generated-stops size source left status.OutputFault old new m still n i h = cut-either size source old new m still h
generated-stops size source left status.Memory old new m still n i h = cut-either size source old new m still h
generated-stops size source left status.Long old new m still n i h = absurd h

-- a run that did, with its line behind it
module _ (size : ℕ) (source : Sources) (old mid new : Option (List ℕ)) (m : Kept) (still : Type 0)
    (r : RanWhole (generated size) MOST_STEPS source (Some []) status.Done old mid m still) where
  is-done : (rules.plain (program_of r.tables) [] MOST_STEPS).ending ≡ Done
  is-done = done-ending _ (ran-status size source status.Done old mid m still r)

  ends-whole : Appends mid new (bulk_line size (numbers_of m)) → RanGenerated size source status.Done old new m
  ends-whole wrote =
      let P : Ending → Type 0 = λ e. Appends old new (text_after (program_of r.tables) [] MOST_STEPS ++ line_behind size (numbers_of m) e) in
      record {
        tables = r.tables;
        runs = r.runs;
        status_is = ran-status size source status.Done old mid m still r;
        wrote = subst P (sym is-done) (Appends-more old mid new _ _ (ran-text size source status.Done old mid m still r) wrote);
        stands = ran-stands size source status.Done old mid m still r;
      }

  ends-part : AppendsPart mid new (bulk_line size (numbers_of m)) → CutOffAt (bulk size) source [] m old new (Unit {0})
  ends-part wrote =
      let P : Ending → Type 0 = λ e. IsPrefix wrote.0 (line_behind size (numbers_of m) e) in (
        r.tables,
        r.runs,
        bulk-stands size r.tables MOST_STEPS m wrote.0 old new r.runs.accepted (ran-stands size source status.Done old mid m still r)
            (subst P (sym is-done) wrote.1)
            (Appends-more old mid new _ wrote.0 (ran-text size source status.Done old mid m still r) wrote.2),
      )

  pub generated-ends : (left : Option (List ℕ)) (s : Status) → PutLine s (bulk_line size (numbers_of m)) mid new →
      Settles (bulk size) source left s old new m (Unit {0})
  generated-ends left status.Done h = ends-whole h
  generated-ends left (status.Refused f) h = absurd h
  generated-ends left status.Usage h = h
  generated-ends left (status.Trap kind line) h = absurd h
  generated-ends left status.Spent h = absurd h
  generated-ends left (status.Away k) h = absurd h
  generated-ends left status.SourceFault h = h
  generated-ends left status.InputFault h = absurd h
  generated-ends left status.OutputFault h = inr (ends-part h)
  generated-ends left status.Memory h = inr (ends-part h)
  generated-ends left status.Long h = absurd h

-- what was answered to `bulk`: the run's status and its line's
pub bulk-settles : (size : ℕ) (source : Sources) (left : Option (List ℕ)) (ran s : Status) (old mid new : Option (List ℕ)) (m : Kept)
    (still : Type 0) →
    ran ≡ status.Done → RanFrom (generated size) MOST_STEPS source (Some []) ran old mid m still → PutLine s (bulk_line size (numbers_of m)) mid new →
    Settles (bulk size) source left s old new m (Unit {0})
bulk-settles size source left ran s old mid new m still done h put =
    let P : Status → Type 0 = λ x. RanFrom (generated size) MOST_STEPS source (Some []) x old mid m still in
    generated-ends size source old mid new m still (subst P done h) left s put
