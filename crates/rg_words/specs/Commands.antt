-- The commands that words give (docs/language.md, "The command line").
use Rattle.std.specs.Prelude.{ℕ, ◌==◌, Bool, true, false, not, ◌&&◌, if◌then◌else◌, nat_le, List, [], ◌∷◌, length, map, Option, Some, None}
use Rattle.std.specs.Prelude.{option_map, option_and_then, unwrap_or, is_some, bytes_eq, codes}
use Rattle.std.specs.Borrow.{Bor}
use Rattle.std.specs.List.{list_all}
use Rattle.rg_base.specs.declared.limits.TheConstants.{MOST_STEPS, USUAL_STEPS}
use Rattle.rg_base.specs.Pieces.{is_digit}
use Rattle.rg_base.specs.Tokens.{value_of}
use Rattle.rg_make.specs.declared.whole.TheConstants.{MOST_SIZE}
use Rattle.rg_words.specs.declared.words.Options.{Options}
use Rattle.rg_words.specs.declared.limits.TheConstants.{MOST_COWN, MOST_EVERY, MOST_NUMBERS, USUAL_EVERY}

-- the words as texts
abbrev pub texts : List (Bor (List ℕ)) → List (List ℕ)
texts words = map (λ w. w.now) words

-- a command with its numbers
pub data Command : Type 0 where
  -- run FILE --steps N --every N --report, or slide with the same words: what a collection of a traced region keeps slides, where the name is that
  run : (slides : Bool) → (file : List ℕ) → (steps every : ℕ) → (report : Bool) → Command
  -- plain FILE --steps N
  plain : (file : List ℕ) → (steps : ℕ) → Command
  -- fmt FILE
  fmt : (file : List ℕ) → Command
  -- check FILE
  check : (file : List ℕ) → Command
  -- code FILE
  code : (file : List ℕ) → Command
  -- pack FILE
  pack : (file : List ℕ) → Command
  -- bulk N
  bulk : (size : ℕ) → Command
  -- exec FILE --steps N --every N --report
  exec : (file : List ℕ) → (steps every : ℕ) → (report : Bool) → Command
  -- when FILE PLAN --keep K
  when : (file plan : List ℕ) → (keep : Option ℕ) → Command

-- where a command's program comes from
pub data Origin : Type 0 where
  -- a file of that name has its source
  in_file : (file : List ℕ) → Origin
  -- it is generated, with that size
  generated : (size : ℕ) → Origin
  -- a file of that name has a module, which programs raise
  in_module : (file : List ℕ) → Origin
  -- a file of that name has its source, and one of another name a plan for it; the content of the cown of a number may be kept
  with_plan : (file plan : List ℕ) → (keep : Option ℕ) → Origin

-- where the program of a command comes from
abbrev pub origin_of : Command → Origin
origin_of (run slides file steps every report) = in_file file
origin_of (plain file steps) = in_file file
origin_of (fmt file) = in_file file
origin_of (check file) = in_file file
origin_of (code file) = in_file file
origin_of (pack file) = in_file file
origin_of (bulk size) = generated size
origin_of (exec file steps every report) = in_module file
origin_of (when file plan keep) = with_plan file plan keep

-- the most steps that a command asks for; `bulk` asks for as many as there can be, `when` for as many as a schedule has numbers, and one that runs
-- nothing for none
abbrev pub steps_of : Command → ℕ
steps_of (run slides file steps every report) = steps
steps_of (plain file steps) = steps
steps_of (bulk size) = MOST_STEPS
steps_of (exec file steps every report) = steps
steps_of (when file plan keep) = MOST_NUMBERS
steps_of c = 0

-- the number to which a command tunes the pacers: how often they are asked before they say yes, 0 for never; `bulk` has them say yes never
abbrev pub every_of : Command → ℕ
every_of (run slides file steps every report) = every
every_of (exec file steps every report) = every
every_of c = 0

-- whether a command runs a program on the machine that is handed in
abbrev pub runs_on : Command → Bool
runs_on (run slides file steps every report) = true
runs_on (bulk size) = true
runs_on (exec file steps every report) = true
runs_on c = false

-- whether it is `slide`
abbrev pub is_slide : Command → Bool
is_slide (run slides file steps every report) = slides
is_slide c = false

-- whether a command reports
abbrev pub reports : Command → Bool
reports (run slides file steps every report) = report
reports (exec file steps every report) = report
reports c = false

-- whether what the words give does
abbrev pub may_report : Option Command → Bool
may_report None = false
may_report (Some c) = reports c

-- whether a command may read input
abbrev pub reads_input : Command → Bool
reads_input (run slides file steps every report) = true
reads_input (plain file steps) = true
reads_input (exec file steps every report) = true
reads_input (when file plan keep) = true
reads_input c = false

-- whether what the words give may
abbrev pub may_read : Option Command → Bool
may_read None = false
may_read (Some c) = reads_input c

-- whether what the words give runs a program on the machine that is handed in
abbrev pub may_run : Option Command → Bool
may_run None = false
may_run (Some c) = runs_on c

-- whether a command opens a file
abbrev pub opens_file : Command → Bool
opens_file (bulk size) = false
opens_file c = true

-- whether what the words give opens one
abbrev pub may_open : Option Command → Bool
may_open None = false
may_open (Some c) = opens_file c

-- the cown whose content is kept, where a command keeps one
abbrev pub keep_of : Command → Option ℕ
keep_of (when file plan keep) = keep
keep_of c = None

-- whether a command reads a schedule on the input
abbrev pub is_scheduled : Command → Bool
is_scheduled (when file plan keep) = true
is_scheduled c = false

-- whether what the words give does
abbrev pub may_schedule : Option Command → Bool
may_schedule None = false
may_schedule (Some c) = is_scheduled c

-- whether a word can name a file: it isn't empty and doesn't begin with -
abbrev pub is_file : List ℕ → Bool
is_file [] = false
is_file (b ∷ bs) = not (b == 45)

-- whether a word writes a number: 1 to 10 digits
abbrev pub is_number : List ℕ → Bool
is_number word = nat_le 1 (length word) && nat_le (length word) 10 && list_all is_digit word

-- the value of digits, up to a limit
abbrev pub value_up_to : List ℕ → ℕ → Option ℕ
value_up_to digits most = if nat_le (value_of digits) most then Some (value_of digits) else None

-- the number that a word writes, up to a limit
abbrev pub number_in : List ℕ → ℕ → Option ℕ
number_in word most = if is_number word then value_up_to word most else None

-- no option is given
abbrev pub no_options : Options
no_options = record { steps = None; every = None; report = false }

-- `--report`, where it isn't given yet
abbrev pub with_report : Options → Option Options
with_report o = if o.report then None else Some (record o { report = true })

-- `--steps N`, where it isn't given yet
abbrev pub with_steps : Options → (word : List ℕ) → Option Options
with_steps o word =
    if is_some o.steps then None else option_map (λ n. record o { steps = Some n }) (number_in word MOST_STEPS)

-- `--every N`, where it isn't given yet
abbrev pub with_every : Options → (word : List ℕ) → Option Options
with_every o word =
    if is_some o.every then None else option_map (λ n. record o { every = Some n }) (number_in word MOST_EVERY)

-- an option with its number in the next word
abbrev pub with_number : Options → (option word : List ℕ) → Option Options
with_number o option word =
    if bytes_eq option (codes "--steps") then with_steps o word else
    if bytes_eq option (codes "--every") then with_every o word else None

-- What words behind the file of `run`, `slide` or `exec` give on top of what is given: options in any order, each at most once, each number in a word of
-- its own.
abbrev pub options_in : List (List ℕ) → Options → Option Options
options_in [] o = Some o
options_in (option ∷ []) o = if bytes_eq option (codes "--report") then with_report o else None
options_in (option ∷ word ∷ words) o =
    if bytes_eq option (codes "--report") then option_and_then (options_in (word ∷ words)) (with_report o)
    else option_and_then (options_in words) (with_number o option word)

-- `run` or `slide` with its options
abbrev pub running : (slides : Bool) → List ℕ → Options → Command
running slides file o = run slides file (unwrap_or o.steps USUAL_STEPS) (unwrap_or o.every USUAL_EVERY) o.report

-- `exec` with its options
abbrev pub executing : List ℕ → Options → Command
executing file o = exec file (unwrap_or o.steps USUAL_STEPS) (unwrap_or o.every USUAL_EVERY) o.report

-- the number of steps that the words behind the file of `plain` ask for
abbrev pub steps_in : List (List ℕ) → Option ℕ
steps_in [] = Some USUAL_STEPS
steps_in (option ∷ []) = None
steps_in (option ∷ number ∷ []) = if bytes_eq option (codes "--steps") then number_in number MOST_STEPS else None
steps_in (option ∷ number ∷ more ∷ rest) = None

-- a command on a file alone: there are no words behind it
abbrev pub alone : Command → List (List ℕ) → Option Command
alone c [] = Some c
alone c (word ∷ words) = None

-- what a name says of a file with a source, with the words behind it
abbrev pub named : List ℕ → List ℕ → List (List ℕ) → Option Command
named name file options =
    if bytes_eq name (codes "run") then option_map (running false file) (options_in options no_options) else
    if bytes_eq name (codes "slide") then option_map (running true file) (options_in options no_options) else
    if bytes_eq name (codes "plain") then option_map (plain file) (steps_in options) else
    if bytes_eq name (codes "fmt") then alone (fmt file) options else
    if bytes_eq name (codes "check") then alone (check file) options else
    if bytes_eq name (codes "code") then alone (code file) options else
    if bytes_eq name (codes "pack") then alone (pack file) options else None

-- the cown whose number a word writes, in at most four digits
abbrev pub cown_in : (word : List ℕ) → Option ℕ
cown_in word = if nat_le (length word) 4 then number_in word MOST_COWN else None

-- `--keep K` with nothing behind it
abbrev pub keeping : List (List ℕ) → Option ℕ
keeping [] = None
keeping (option ∷ []) = None
keeping (option ∷ number ∷ []) = if bytes_eq option (codes "--keep") then cown_in number else None
keeping (option ∷ number ∷ more ∷ rest) = None

-- the words behind the plan: none, or what is kept
abbrev pub kept_in : List (List ℕ) → (Option ℕ → Command) → Option Command
kept_in [] go = Some (go None)
kept_in (word ∷ words) go = option_map (λ k. go (Some k)) (keeping (word ∷ words))

-- `when` on a file, with the words behind it: one, which names the file of the plan, and what is kept
abbrev pub scheduling : (file : List ℕ) → List (List ℕ) → Option Command
scheduling file [] = None
scheduling file (plan ∷ words) = if is_file plan then kept_in words (when file plan) else None

-- what a name says of a file, with the words behind it
abbrev pub on_file : List ℕ → List ℕ → List (List ℕ) → Option Command
on_file name file options =
    if bytes_eq name (codes "exec") then option_map (executing file) (options_in options no_options) else
    if bytes_eq name (codes "when") then scheduling file options else named name file options

-- a command on a size alone
abbrev pub sized : (number : List ℕ) → List (List ℕ) → Option Command
sized number [] = option_map bulk (number_in number MOST_SIZE)
sized number (word ∷ words) = None

-- The command that words give, if they give one. They don't include the program's name.
abbrev pub command : List (List ℕ) → Option Command
command [] = None
command (name ∷ []) = None
command (name ∷ word ∷ words) =
    if bytes_eq name (codes "bulk") then sized word words else
    if is_file word then on_file name word words else None
