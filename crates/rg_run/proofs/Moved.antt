-- What was said of a run, with what it worked with by other names.
use Rattle.std.proofs.Common.{◌≡◌, ℕ, Bool, List, Option, subst}
use Rattle.rg_base.specs.declared.event.Event.{Event}
use Rattle.rg_base.specs.declared.outcome.Ended.{Ended}
use Rattle.rg_tree.specs.Rows.Tables.{Tables}
use Rattle.rg_input.specs.Numbers.{Pending, OnInput}
use Rattle.rg_code.specs.Code.{Code}
use Rattle.rg_step.specs.Pacers.{Asks}
use Rattle.rg_run.specs.Machine.{Kept}
use Rattle.rg_run.specs.Reports.{Reports}
use Rattle.rg_run.specs.Runs.{Caused}
use Rattle.rg_run.specs.Whole.{WholeRun}

-- all of it
pub whole-moved : {t u : Tables} {c d : Code} {n k : ℕ} {a b : Pending} {la lb : Option (List ℕ)} {taken middle out : Option (List ℕ)} {m : Kept}
    {e : Ended} {Still : Type 0} {first last : Asks} → t ≡ u → c ≡ d → n ≡ k → middle ≡ out →
    OnInput a b la lb (WholeRun t c n taken middle m e Still first last) → OnInput a b la lb (WholeRun u d k taken out m e Still first last)
whole-moved {t} {u} {c} {d} {n} {k} {a} {b} {la} {lb} {taken} {middle} {out} {m} {e} {Still} {first} {last} tables code most text h =
    let P : Tables → Type 0 = λ q. OnInput a b la lb (WholeRun q c n taken middle m e Still first last) in
    let Q : Code → Type 0 = λ q. OnInput a b la lb (WholeRun u q n taken middle m e Still first last) in
    let R : ℕ → Type 0 = λ q. OnInput a b la lb (WholeRun u d q taken middle m e Still first last) in
    let S : Option (List ℕ) → Type 0 = λ q. OnInput a b la lb (WholeRun u d k taken q m e Still first last) in
    subst S text (subst R most (subst Q code (subst P tables h)))

-- what the notes have taken
pub reports-moved : (r report : Bool) (e : Ended) (events : List Event) (first now behind : Option (List ℕ)) → r ≡ report → now ≡ behind →
    Reports r e events first now → Reports report e events first behind
reports-moved r report e events first now behind same notes_are h =
    let P : Bool → Type 0 = λ q. Reports q e events first now in
    let Q : Option (List ℕ) → Type 0 = λ q. Reports report e events first q in
    subst Q notes_are (subst P same h)

-- from which count a fault comes
pub caused-moved : {e : Ended} {a b c d f g o n : ℕ} → d ≡ o → g ≡ n → Caused e a b c d f g → Caused e a b c o f n
caused-moved {e} {a} {b} {c} {d} {f} {g} {o} {n} out notes h =
    let P : ℕ → Type 0 = λ q. Caused e a b c q f g in
    let Q : ℕ → Type 0 = λ q. Caused e a b c o f q in
    subst Q notes (subst P out h)
