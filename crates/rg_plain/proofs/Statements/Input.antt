-- Steps on the bytes left of the input.
use Rattle.std.proofs.Common.{◌≡◌, ℕ, ℤ, Bool as Truth, List, ◌∷◌, Option, Result, Ok, Err, refl, sym, subst, ◌∙◌, ap}
use Rattle.rg_base.specs.declared.outcome.Outcome.{Outcome}
use Rattle.rg_base.specs.declared.outcome.Outcome.TheVariants as outcome
use Rattle.rg_base.specs.declared.outcome.Trap.{Trap}
use Rattle.rg_base.specs.declared.value.Val.{Val}
use Rattle.rg_base.specs.declared.value.Val.TheVariants.{Int, Bool}
use Rattle.rg_base.specs.Input.{NextNumber, found, malformed, at_end, next_number}
use Rattle.rg_tree.specs.Tree.{Right, stmt, read, more}
use Rattle.rg_tree.specs.Rows.Tables.{Tables}
use Rattle.rg_tree.specs.Rows.RowTrees.{classes_of, stmt_at}
use Rattle.rg_rules.specs.Items.{Item, Do}
use Rattle.rg_rules.specs.RightSides.{taken, is_left}
use Rattle.rg_rules.specs.State.{State}
use Rattle.rg_rules.specs.Steps.{Stepped, Went, stepped, next}
use Rattle.rg_input.specs.declared.refusal.NumberRefusal.{NumberRefusal}
use Rattle.rg_input.specs.declared.refusal.NumberRefusal.TheVariants as no
use Rattle.rg_input.specs.Numbers.{Pending, OnInput, Answers, Looks, is_more, is_fault, is_input_fault}
use Rattle.rg_input.proofs.Input.{OnInput-still}
use Rattle.rg_values.specs.declared.state.rows.ItemRow.{ItemRow}
use Rattle.rg_plain.specs.declared.steps.input.Wanted.{Wanted}
use Rattle.rg_plain.specs.declared.steps.input.Wanted.TheVariants as wanted
use Rattle.rg_values.specs.declared.targets.Left.{Left}
use Rattle.rg_values.specs.declared.targets.Aim.{Aim}
use Rattle.rg_values.specs.declared.refusal.Refusal.{Refusal}
use Rattle.rg_values.specs.declared.refusal.Refusal.TheVariants as refused
use Rattle.rg_plain.specs.Inner.Steps.{StepIs}
use Rattle.rg_values.specs.Steps.{Does, DoesPrint, Makes, Prints, outcome_of, printed_of}
use Rattle.rg_values.specs.Kept.{Kept, plain_of, shown}
use Rattle.rg_values.specs.Spots.{AimIs, statement_of, use_of}
use Rattle.rg_plain.specs.Inner.Inputs.{StepOn, Gave, refused_by, right_for}
use Rattle.rg_statements.proofs.Step.{next-at}

-- a step that reads nothing
pub reads_nothing : (t : Tables) (old new : Kept) (r : Outcome) (n : Pending) (left : Option (List ℕ)) →
    ((input : List ℕ) → StepOn t old new r input input) → OnInput n n left left (StepOn t old new r)
reads_nothing t old new r n left holds = OnInput-still n n left left (StepOn t old new r) refl refl holds

-- a step that changes nothing
pub same-plain : (t : Tables) (k new : Kept) (before after : List ℕ) → new ≡ k → after ≡ before → plain_of t new after ≡ plain_of t k before
same-plain t k new before after kept same = ap (λ q. plain_of t q after) kept ∙ ap (plain_of t k) same

-- a step that has no place for its value
pub cut-step : (t : Tables) (k : Kept) (number line : ℕ) (l : Left) (kind : Trap) (r : Right) (rest : List Item) → AimIs t k l (Err kind) →
    shown t k.items ≡ Do (stmt_at t number) ∷ rest → stmt_at t number ≡ stmt line (statement_of t l r) → (input : List ℕ) →
    StepOn t k k (outcome.Trap kind line) input input
cut-step t k number line l kind r rest is shown_is tree input =
    (next-at t (classes_of t) k input number line (statement_of t l r) rest shown_is tree ∙ ap (stepped line) (is input rest line r), refl)

-- a number was taken
read-step : (t : Tables) (k new : Kept) (number line : ℕ) (l : Left) (a : Aim) (items : List ItemRow) (z : ℤ) → AimIs t k l (Ok a) →
    shown t k.items ≡ Do (stmt_at t number) ∷ shown t items → stmt_at t number ≡ stmt line (statement_of t l read) →
    ((input : List ℕ) → plain_of t new input ≡ use_of t a (plain_of t (record k { items = items }) input) (Int z)) →
    (before after : List ℕ) → Answers (Ok z) before after → StepOn t k new outcome.Running before after
read-step t k new number line l a items z is shown_is tree new_is before after answer =
    let s = plain_of t (record k { items = items }) before in
    next-at t (classes_of t) k before number line (statement_of t l read) (shown t items) shown_is tree
    ∙ ap (stepped line) (is.1 before (shown t items) line read ∙ ap (taken s (use_of t a)) answer)
    ∙ ap Went (sym (new_is after))

is_more-is_left : (n : NextNumber) → is_more n ≡ is_left n
is_more-is_left (found z rest) = refl
is_more-is_left malformed = refl
is_more-is_left at_end = refl

-- it was asked whether a number comes
more-step : (t : Tables) (k new : Kept) (number line : ℕ) (l : Left) (a : Aim) (items : List ItemRow) (b : Truth) → AimIs t k l (Ok a) →
    shown t k.items ≡ Do (stmt_at t number) ∷ shown t items → stmt_at t number ≡ stmt line (statement_of t l more) →
    ((input : List ℕ) → plain_of t new input ≡ use_of t a (plain_of t (record k { items = items }) input) (Bool b)) →
    (before after : List ℕ) → Looks (Ok b) before after → StepOn t k new outcome.Running before after
more-step t k new number line l a items b is shown_is tree new_is before after answer =
    let s = plain_of t (record k { items = items }) before in
    next-at t (classes_of t) k before number line (statement_of t l more) (shown t items) shown_is tree
    ∙ ap (stepped line) (is.1 before (shown t items) line more)
    ∙ ap (λ q. Went (use_of t a s (Bool q))) (sym (answer.0 ∙ is_more-is_left (next_number before)))
    ∙ ap Went (sym (new_is before))
    ∙ ap (λ q. Went (plain_of t new q)) (sym answer.1)

-- a value was given
pub value-step : (t : Tables) (k new : Kept) (number line : ℕ) (l : Left) (a : Aim) (items : List ItemRow) (w : Wanted) (v : Val) → AimIs t k l (Ok a) →
    shown t k.items ≡ Do (stmt_at t number) ∷ shown t items → stmt_at t number ≡ stmt line (statement_of t l (right_for w)) →
    ((input : List ℕ) → plain_of t new input ≡ use_of t a (plain_of t (record k { items = items }) input) v) →
    (before after : List ℕ) → Gave w (Ok v) before after → StepOn t k new outcome.Running before after
value-step t k new number line l a items wanted.Number (Int z) is shown_is tree new_is before after gave =
    read-step t k new number line l a items z is shown_is tree new_is before after gave
value-step t k new number line l a items wanted.Number v is shown_is tree new_is before after gave = absurd gave
value-step t k new number line l a items wanted.More (Bool b) is shown_is tree new_is before after gave =
    more-step t k new number line l a items b is shown_is tree new_is before after gave
value-step t k new number line l a items wanted.More v is shown_is tree new_is before after gave = absurd gave

-- no value was given
pub no-value : (t : Tables) (k new : Kept) (number line : ℕ) (l : Left) (a : Aim) (rest : List Item) (w : Wanted) (r : NumberRefusal) → AimIs t k l (Ok a) →
    shown t k.items ≡ Do (stmt_at t number) ∷ rest → stmt_at t number ≡ stmt line (statement_of t l (right_for w)) → new ≡ k →
    (before after : List ℕ) → Gave w (Err r) before after → StepOn t k new (refused_by r line) before after
no-value t k new number line l a rest wanted.Number no.InputFault is shown_is tree kept before after gave = same-plain t k new before after kept gave
no-value t k new number line l a rest wanted.Number r is shown_is tree kept before after gave =
    let s : State = record (plain_of t k before) { items = rest } in (
      next-at t (classes_of t) k before number line (statement_of t l read) rest shown_is tree
          ∙ ap (stepped line) (is.1 before rest line read ∙ ap (taken s (use_of t a)) gave.0),
      same-plain t k new before after kept gave.1,
    )
no-value t k new number line l a rest wanted.More no.InputFault is shown_is tree kept before after gave = same-plain t k new before after kept gave
no-value t k new number line l a rest wanted.More r is shown_is tree kept before after gave = absurd gave

-- a step that prints nothing and reads nothing, as its outcome says
does-is : (step : Stepped) (old new : State) (line : ℕ) (r : Result (Unit {0}) Refusal) → Does step old new line r →
    StepIs step old new (outcome_of r line)
does-is step old new line (Ok u) h = h
does-is step old new line (Err (refused.Trap kind)) h = h
does-is step old new line (Err refused.Memory) h = h

pub does : (t : Tables) (old new : Kept) (line : ℕ) (r : Result (Unit {0}) Refusal) (o : Outcome) (n : Pending) (left : Option (List ℕ)) →
    o ≡ outcome_of r line → Makes t old new line r → OnInput n n left left (StepOn t old new o)
does t old new line r o n left is makes =
    let P : Outcome → Type 0 = λ q. (input : List ℕ) → StepOn t old new q input input in
    reads_nothing t old new o n left
    (subst P (sym is) (λ input. does-is (next (classes_of t) (plain_of t old input)) (plain_of t old input) (plain_of t new input) line r (makes
    input)))

-- one that prints
prints-is : (step : Stepped) (old new : State) (line : ℕ) (r : Result Val Refusal) → DoesPrint step old new line r →
    StepIs step old new (printed_of r line)
prints-is step old new line (Ok v) h = h
prints-is step old new line (Err (refused.Trap kind)) h = h
prints-is step old new line (Err refused.Memory) h = h

pub prints : (t : Tables) (old new : Kept) (line : ℕ) (r : Result Val Refusal) (o : Outcome) (n : Pending) (left : Option (List ℕ)) →
    o ≡ printed_of r line → Prints t old new line r → OnInput n n left left (StepOn t old new o)
prints t old new line r o n left is makes =
    let P : Outcome → Type 0 = λ q. (input : List ℕ) → StepOn t old new q input input in
    reads_nothing t old new o n left
    (subst P (sym is) (λ input. prints-is (next (classes_of t) (plain_of t old input)) (plain_of t old input) (plain_of t new input) line r (makes
    input)))

-- a step that has no value ends with a fault of the input where that was the answer
pub refused-fault : (why : NumberRefusal) (line : ℕ) → is_fault {A = Val} (Err why) ≡ is_input_fault (refused_by why line)
refused-fault no.End line = refl
refused-fault no.Input line = refl
refused-fault no.InputFault line = refl
