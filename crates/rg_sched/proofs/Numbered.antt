-- A schedule that is run, number by number.
use Rattle.std.proofs.Common.{◌≡◌, ◌⊎◌, inl, inr, ℕ, zero, suc, ◌+◌, ◌-◌, ◌<◌, ◌≤◌, Bool, true, false, List, [], ◌∷◌, ◌++◌, length, Option, Some, None, Result, Ok}
use Rattle.std.proofs.Common.{Err, length-append, refl, sym, ap, ◌∙◌, subst, arith}
use Rattle.std.specs.Prelude.{ℤ, if◌then◌else◌}
use Rattle.rg_base.specs.Input.{NextNumber, found, malformed, at_end, next_number}
use Rattle.rg_input.specs.Numbers.{is_more}
use Rattle.rg_sched.specs.Schedules.{Schedule, Whole, BadBehind, TooLong, taken_of, item_behind}
use Rattle.rg_sched.specs.Schedules.{behaviour_of, behind_number, behind_next, schedule_from, schedule_of}
use Rattle.rg_sched.specs.Running.{Comes, CountComes, Asks, AskedBy}
use Rattle.rg_input.specs.Numbers.{Pending, OnInput, Looks}
use Rattle.rg_input.specs.declared.refusal.InputFault.{InputFault}
use Rattle.rg_input.proofs.Input.{OnInput-still, OnInput-map, OnInput-both}
use Rattle.rg_tree.specs.Tree.{Tree}
use Rattle.rg_code.specs.Code.{Code}
use Rattle.rg_cown.specs.Cargo.{CargoList}
use Rattle.rg_plan.specs.Plans.{PlanOf}
use Rattle.rg_world.specs.Asking.{EventAsks}
use Rattle.rg_world.specs.Worlds.{WorldIn, IsBehind}
use Rattle.rg_sched.specs.declared.limits.TheConstants.{SCHEDULE}
use Rattle.rg_sched.specs.declared.running.Behind.{Behind}
use Rattle.rg_sched.specs.declared.stop.SchedStop.{SchedStop}
use Rattle.rg_sched.specs.declared.stop.SchedStop.TheVariants as stop
use Rattle.rg_sched.specs.Inner.Runs.{NoneNamed, Names}
use Rattle.rg_sched.proofs.Asking.{asked-push, from-taken}

-- the end
ends-by : (n : ℕ) (so_far : List ℕ) (next : NextNumber) (go : ℕ → List ℕ → Schedule) → is_more next ≡ false → behind_next n so_far next go ≡ Whole so_far
ends-by n so_far (found z rest) go e = absurd (cc)
ends-by n so_far malformed go e = absurd (cc)
ends-by n so_far at_end go e = refl

pub from-end : (n left : ℕ) (so_far bytes : List ℕ) → is_more (next_number bytes) ≡ false → schedule_from n left so_far bytes ≡ Whole so_far
unfolding schedule_from
from-end n zero so_far bytes e = ap (λ (b : Bool). if b then TooLong so_far else Whole so_far) e
from-end n (suc left) so_far bytes e = ends-by n so_far (next_number bytes) (λ k. schedule_from n left (so_far ++ k ∷ [])) e

pub from-long : (n : ℕ) (so_far bytes : List ℕ) → is_more (next_number bytes) ≡ true → schedule_from n 0 so_far bytes ≡ TooLong so_far
unfolding schedule_from
from-long n so_far bytes e = ap (λ (b : Bool). if b then TooLong so_far else Whole so_far) e

pub from-next : (n left : ℕ) (so_far bytes rest : List ℕ) (z : ℤ) (k : ℕ) → next_number bytes ≡ found z rest → behaviour_of n z ≡ Some k
    → schedule_from n (suc left) so_far bytes ≡ schedule_from n left (so_far ++ k ∷ []) rest
unfolding schedule_from
from-next n left so_far bytes rest z k is named =
    ap (λ x. behind_next n so_far x (λ k. schedule_from n left (so_far ++ k ∷ []))) is
    ∙ ap (λ o. behind_number so_far o (λ k. schedule_from n left (so_far ++ k ∷ []) rest)) named

bad-by : (n : ℕ) (so_far : List ℕ) (next : NextNumber) (go : ℕ → List ℕ → Schedule) → is_more next ≡ true → NoneNamed n next
    → behind_next n so_far next go ≡ BadBehind so_far
bad-by n so_far (found z rest) go more none = ap (λ o. behind_number so_far o (λ k. go k rest)) none
bad-by n so_far malformed go more none = refl
bad-by n so_far at_end go more none = absurd (cc)

pub from-bad : (n left : ℕ) (so_far bytes : List ℕ) → is_more (next_number bytes) ≡ true → NoneNamed n (next_number bytes)
    → schedule_from n (suc left) so_far bytes ≡ BadBehind so_far
unfolding schedule_from
from-bad n left so_far bytes more none = bad-by n so_far (next_number bytes) (λ k. schedule_from n left (so_far ++ k ∷ [])) more none

-- So far these numbers were taken, whose events led to a world and asked the pacers; what the input says is what it says behind them.
pub record SoFar (t : Tree) (code : Code) (p : PlanOf) (images : List CargoList) (first now : Pending) (first_left now_left : Option (List ℕ))
    (taken : ℕ) (world : WorldIn) (before after : Asks) : Type 0 where
  pub numbers : List ℕ
  pub many : taken ≡ length numbers
  pub most : taken ≤ SCHEDULE
  pub behind : IsBehind t code p images numbers world
  pub says : OnInput first now first_left now_left (λ before after. schedule_of (length p.behaviours) before
      ≡ schedule_from (length p.behaviours) (SCHEDULE - taken) numbers after)
  pub asks : AskedBy t p images numbers before after

-- those that were taken of a schedule asked the pacers
taken-asked : (t : Tree) (p : PlanOf) (images : List CargoList) (says other : Schedule) (a b : Asks) → says ≡ other
    → AskedBy t p images (taken_of other) a b → AskedBy t p images (taken_of says) a b
taken-asked t p images says other a b same asked = subst (λ (s : Schedule). AskedBy t p images (taken_of s) a b) (sym same) asked

-- want of memory says nothing
memory-comes : (t : Tree) (code : Code) (p : PlanOf) (images : List CargoList) (why : SchedStop) (a b : Asks) → why ≡ stop.Memory → (says : Schedule)
    → CountComes t code p images says (Err why) a b
memory-comes t code p images why a b e says = subst (λ (w : SchedStop). CountComes t code p images says (Err w) a b) (sym e) (tt, tt)

-- nothing was read
pub still-memory : (t : Tree) (code : Code) (p : PlanOf) (images : List CargoList) (first now : Pending) (fl nl : Option (List ℕ))
    (r : Result Behind SchedStop) (why : SchedStop) (a b : Asks) → r ≡ Err why → why ≡ stop.Memory → now ≡ first → nl ≡ fl
    → OnInput first now fl nl (λ before after. CountComes t code p images (schedule_of (length p.behaviours) before) r a b)
still-memory t code p images first now fl nl r why a b is memory same same_left =
    OnInput-still first now fl nl (λ before after. CountComes t code p images (schedule_of (length p.behaviours) before) r a b) same same_left
    (λ bytes. subst (λ q. CountComes t code p images (schedule_of (length p.behaviours) bytes) q a b) (sym is)
    (memory-comes t code p images why a b memory (schedule_of (length p.behaviours) bytes)))

pub starts : {t : Tree} {code : Code} {p : PlanOf} {images : List CargoList} (first now : Pending) (first_left now_left : Option (List ℕ))
    (world : WorldIn) (a : Asks) → now ≡ first → now_left ≡ first_left → IsBehind t code p images [] world
    → SoFar t code p images first now first_left now_left 0 world a a
starts {t} {code} {p} {images} first now first_left now_left world a same same_left behind = record {
  numbers = [];
  many = refl;
  most = omega arith;
  behind = behind;
  says = OnInput-still first now first_left now_left (λ before after. schedule_of (length p.behaviours) before
      ≡ schedule_from (length p.behaviours) (SCHEDULE - 0) [] after) same same_left (λ bytes. refl);
  asks = record { count = refl; trace = refl; count_alone = (0, refl); trace_alone = (0, refl) };
}

-- of want of memory nothing is said; behind a fault of the input the pacers are as they were behind what was taken so far
abbrev pub CutShort : SchedStop → (now last : Asks) → Type 0
CutShort why now last = (why ≡ stop.Memory) ⊎ ((why ≡ stop.InputFault) × (last ≡ now))

module _ {t : Tree} {code : Code} {p : PlanOf} {images : List CargoList} {a b : Asks} where
  pub ends : (first now mid : Pending) (fl nl tl : Option (List ℕ)) (taken : ℕ) (world : WorldIn)
      → SoFar t code p images first now fl nl taken world a b
      → OnInput now mid nl tl (Looks (Ok false))
      → OnInput first mid fl tl
      (λ before after. CountComes t code p images (schedule_of (length p.behaviours) before) (Ok (record { world = world; taken = taken })) a b)
  ends first now mid fl nl tl taken world h looks =
      OnInput-both first now mid fl nl tl (λ before after. schedule_of (length p.behaviours) before
      ≡ schedule_from (length p.behaviours) (SCHEDULE - taken) h.numbers after) (Looks (Ok false))
      (λ before after. CountComes t code p images (schedule_of (length p.behaviours) before) (Ok (record { world = world; taken = taken })) a b)
      h.says looks
      (λ before between after says look.
      let whole = says ∙ from-end (length p.behaviours) (SCHEDULE - taken) h.numbers between (sym look.0) in (
        (h.numbers, whole, (h.many, h.behind)),
        taken-asked t p images (schedule_of (length p.behaviours) before) (Whole h.numbers) a b whole h.asks,
      ))

  pub long : (first now mid : Pending) (fl nl tl : Option (List ℕ)) (taken : ℕ) (world : WorldIn)
      → SoFar t code p images first now fl nl taken world a b
      → SCHEDULE ≤ taken → OnInput now mid nl tl (Looks (Ok true))
      → OnInput first mid fl tl (λ before after. CountComes t code p images (schedule_of (length p.behaviours) before) (Err stop.Spent) a b)
  long first now mid fl nl tl taken world h many looks =
      let none : SCHEDULE - taken ≡ 0 = omega (arith, many) in
      OnInput-both first now mid fl nl tl (λ before after. schedule_of (length p.behaviours) before
      ≡ schedule_from (length p.behaviours) (SCHEDULE - taken) h.numbers after) (Looks (Ok true))
      (λ before after. CountComes t code p images (schedule_of (length p.behaviours) before) (Err stop.Spent) a b) h.says looks
      (λ before between after says look.
      let too_long = says ∙ ap (λ n. schedule_from (length p.behaviours) n h.numbers between) none
      ∙ from-long (length p.behaviours) h.numbers between (sym look.0) in (
        (h.numbers, too_long),
        taken-asked t p images (schedule_of (length p.behaviours) before) (TooLong h.numbers) a b too_long h.asks,
      ))

  -- the next number was taken
  taken-one : (first now mid behind : Pending) (fl nl tl bl : Option (List ℕ)) (taken : ℕ) (world : WorldIn) (o : Result (Option ℕ) InputFault)
      (P : List ℕ → List ℕ → Type 0) (h : SoFar t code p images first now fl nl taken world a b) → OnInput now mid nl tl (Looks (Ok true))
      → OnInput mid behind tl bl (Names (length p.behaviours) o)
      → ((before between after : List ℕ)
      → schedule_of (length p.behaviours) before ≡ schedule_from (length p.behaviours) (SCHEDULE - taken) h.numbers between
      → is_more (next_number between) ≡ true → Names (length p.behaviours) o between after → P before after)
      → OnInput first behind fl bl P
  taken-one first now mid behind fl nl tl bl taken world o P h looks names does =
      let S : List ℕ → List ℕ → Type 0 = λ before after. schedule_of (length p.behaviours) before
      ≡ schedule_from (length p.behaviours) (SCHEDULE - taken) h.numbers after in
      let Q : List ℕ → List ℕ → Type 0 = λ before after. S before after × (is_more (next_number after) ≡ true) in
      let both : OnInput first mid fl tl Q = OnInput-both first now mid fl nl tl S (Looks (Ok true)) Q h.says looks
      (λ before between after says look. (subst (S before) (sym look.1) says, subst (λ z. is_more (next_number z) ≡ true) (sym look.1) (sym look.0))) in
      OnInput-both first mid behind fl tl bl Q (Names (length p.behaviours) o) P both names
      (λ before between after q named. does before between after q.0 q.1 named)

  pub bad : (first now mid behind : Pending) (fl nl tl bl : Option (List ℕ)) (taken item : ℕ) (world : WorldIn)
      → SoFar t code p images first now fl nl taken world a b → taken < SCHEDULE → item ≡ taken + 1
      → OnInput now mid nl tl (Looks (Ok true)) → OnInput mid behind tl bl (Names (length p.behaviours) (Ok None))
      → OnInput first behind fl bl (λ before after. CountComes t code p images (schedule_of (length p.behaviours) before) (Err (stop.Bad item)) a b)
  bad first now mid behind fl nl tl bl taken item world h less is looks names =
      let more : SCHEDULE - taken ≡ suc (SCHEDULE - (taken + 1)) = omega (arith, less) in
      let many : taken ≡ length h.numbers = h.many in
      let place : item ≡ item_behind h.numbers = omega (arith, many, is) in
      taken-one first now mid behind fl nl tl bl taken world (Ok None)
      (λ before after. CountComes t code p images (schedule_of (length p.behaviours) before) (Err (stop.Bad item)) a b) h looks names
      (λ before between after says on none.
      let bad = says ∙ ap (λ n. schedule_from (length p.behaviours) n h.numbers between) more
      ∙ from-bad (length p.behaviours) (SCHEDULE - (taken + 1)) h.numbers between on none in (
        (h.numbers, bad, place),
        taken-asked t p images (schedule_of (length p.behaviours) before) (BadBehind h.numbers) a b bad h.asks,
      ))

  pub goes_on : (first now mid behind : Pending) (fl nl tl bl : Option (List ℕ)) (taken item k : ℕ) (world next : WorldIn) (c : Asks)
      → SoFar t code p images first now fl nl taken world a b → taken < SCHEDULE → item ≡ taken + 1
      → OnInput now mid nl tl (Looks (Ok true)) → OnInput mid behind tl bl (Names (length p.behaviours) (Ok (Some k)))
      → ((numbers : List ℕ) → IsBehind t code p images numbers world → IsBehind t code p images (numbers ++ k ∷ []) next)
      → ((numbers : List ℕ) → IsBehind t code p images numbers world → EventAsks t p images numbers k b c)
      → SoFar t code p images first behind fl bl item next a c
  goes_on first now mid behind fl nl tl bl taken item k world next c h less is looks names event asks =
      let many : taken ≡ length h.numbers = h.many in
      let longer : length (h.numbers ++ k ∷ []) ≡ length h.numbers + 1 = length-append h.numbers (k ∷ []) in
      let more : SCHEDULE - taken ≡ suc (SCHEDULE - item) = omega (arith, less, is) in
      let S : List ℕ → List ℕ → Type 0 = λ before after. schedule_of (length p.behaviours) before
      ≡ schedule_from (length p.behaviours) (SCHEDULE - item) (h.numbers ++ k ∷ []) after in
      record {
        numbers = h.numbers ++ k ∷ [];
        many = omega (arith, many, longer, is);
        most = omega (arith, less, is);
        behind = event h.numbers h.behind;
        says = taken-one first now mid behind fl nl tl bl taken world (Ok (Some k)) S h looks names
            (λ before between after says on named. says ∙ ap (λ n. schedule_from (length p.behaviours) n h.numbers between) more
            ∙ from-next (length p.behaviours) (SCHEDULE - item) h.numbers between after named.0 k named.1 named.2);
        asks = asked-push t p images h.numbers k a b c h.asks (asks h.numbers h.behind);
      }

  cut-comes : (first now : Pending) (fl nl : Option (List ℕ)) (taken : ℕ) (world : WorldIn) (r : Result Behind SchedStop) (why : SchedStop)
      (last : Asks) → r ≡ Err why → CutShort why b last → (h : SoFar t code p images first now fl nl taken world a b) → (before between : List ℕ)
      → schedule_of (length p.behaviours) before ≡ schedule_from (length p.behaviours) (SCHEDULE - taken) h.numbers between
      → CountComes t code p images (schedule_of (length p.behaviours) before) r a last
  cut-comes first now fl nl taken world r why last is cut h before between says =
      subst (λ q. CountComes t code p images (schedule_of (length p.behaviours) before) q a last) (sym is) (by cut)
    where
      by : CutShort why b last → CountComes t code p images (schedule_of (length p.behaviours) before) (Err why) a last
      by (inl memory) = memory-comes t code p images why a last memory (schedule_of (length p.behaviours) before)
      by (inr fault) =
          let taken_are = from-taken (length p.behaviours) (SCHEDULE - taken) h.numbers between in
          let asked : AskedBy t p images h.numbers a last = subst (λ (x : Asks). AskedBy t p images h.numbers a x) (sym fault.1) h.asks in
          subst (λ (w : SchedStop). CountComes t code p images (schedule_of (length p.behaviours) before) (Err w) a last) (sym fault.0)
          (tt, (h.numbers, taken_are.0, ap taken_of says ∙ taken_are.1, asked))

  -- behind what was taken so far, and one call more that was refused
  pub then-cut : (first now mid : Pending) (fl nl tl : Option (List ℕ)) (taken : ℕ) (world : WorldIn) (P : List ℕ → List ℕ → Type 0)
      (r : Result Behind SchedStop) (why : SchedStop) (last : Asks) → r ≡ Err why → CutShort why b last
      → SoFar t code p images first now fl nl taken world a b → OnInput now mid nl tl P
      → OnInput first mid fl tl (λ before after. CountComes t code p images (schedule_of (length p.behaviours) before) r a last)
  then-cut first now mid fl nl tl taken world P r why last is cut h call =
      OnInput-both first now mid fl nl tl (λ before after. schedule_of (length p.behaviours) before
      ≡ schedule_from (length p.behaviours) (SCHEDULE - taken) h.numbers after) P
      (λ before after. CountComes t code p images (schedule_of (length p.behaviours) before) r a last) h.says call
      (λ before between after says did. cut-comes first now fl nl taken world r why last is cut h before between says)

  -- behind what was taken so far, and two calls more
  pub both-cut : (first now mid behind : Pending) (fl nl tl bl : Option (List ℕ)) (taken : ℕ) (world : WorldIn) (P Q : List ℕ → List ℕ → Type 0)
      (r : Result Behind SchedStop) (why : SchedStop) (last : Asks) → r ≡ Err why → CutShort why b last
      → SoFar t code p images first now fl nl taken world a b → OnInput now mid nl tl P → OnInput mid behind tl bl Q
      → OnInput first behind fl bl (λ before after. CountComes t code p images (schedule_of (length p.behaviours) before) r a last)
  both-cut first now mid behind fl nl tl bl taken world P Q r why last is cut h call later =
      OnInput-both first mid behind fl tl bl (λ before after. CountComes t code p images (schedule_of (length p.behaviours) before) r a last) Q
      (λ before after. CountComes t code p images (schedule_of (length p.behaviours) before) r a last)
      (then-cut first now mid fl nl tl taken world P r why last is cut h call) later (λ before between after says did. says)

  -- the same without the count
  pub uncounted : (first mid : Pending) (fl tl : Option (List ℕ)) (r : Result Behind SchedStop) (behind : Behind) → r ≡ Ok behind
      → OnInput first mid fl tl (λ before after. CountComes t code p images (schedule_of (length p.behaviours) before) r a b)
      → OnInput first mid fl tl (λ before after. Comes t code p images (schedule_of (length p.behaviours) before) (Ok behind.world) a b)
  uncounted first mid fl tl r behind is h =
      OnInput-map first mid fl tl (λ before after. CountComes t code p images (schedule_of (length p.behaviours) before) r a b)
      (λ before after. Comes t code p images (schedule_of (length p.behaviours) before) (Ok behind.world) a b) h
      (λ before after said.
      let q = subst (λ x. CountComes t code p images (schedule_of (length p.behaviours) before) x a b) is said in
      ((q.0.0, q.0.1, q.0.2.1), q.1))

pub stopped : (t : Tree) (code : Code) (p : PlanOf) (images : List CargoList) (first mid : Pending) (fl tl : Option (List ℕ))
    (r : Result Behind SchedStop) (why : SchedStop) (a b : Asks) → r ≡ Err why
    → OnInput first mid fl tl (λ before after. CountComes t code p images (schedule_of (length p.behaviours) before) r a b)
    → OnInput first mid fl tl (λ before after. Comes t code p images (schedule_of (length p.behaviours) before) (Err why) a b)
stopped t code p images first mid fl tl r why a b is h =
    OnInput-map first mid fl tl (λ before after. CountComes t code p images (schedule_of (length p.behaviours) before) r a b)
    (λ before after. Comes t code p images (schedule_of (length p.behaviours) before) (Err why) a b) h
    (λ before after said. subst (λ x. CountComes t code p images (schedule_of (length p.behaviours) before) x a b) is said)
