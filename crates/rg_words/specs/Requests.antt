-- What the reader of the words answers, as a command (docs/language.md, "The command line").
use Rattle.std.specs.Prelude.{◌≤◌, ⊤, Bool, unwrap_or}
use Rattle.rg_base.specs.declared.limits.TheConstants.{USUAL_STEPS}
use Rattle.rg_make.specs.declared.whole.TheConstants.{MOST_SIZE}
use Rattle.rg_words.specs.declared.words.Request.{Request}
use Rattle.rg_words.specs.declared.words.RunOptions.{RunOptions}
use Rattle.rg_words.specs.declared.words.Options.{Options}
use Rattle.rg_words.specs.declared.limits.TheConstants.{USUAL_EVERY}
use Rattle.rg_words.specs.declared.words.Task.{Task}
use Rattle.rg_words.specs.declared.words.Task.TheVariants as task
use Rattle.rg_words.specs.declared.words.Request.TheVariants as request
use Rattle.rg_words.specs.Commands.{Command, run, plain, fmt, check, code, pack, bulk, exec, when, Origin, in_file, generated, in_module}
use Rattle.rg_words.specs.Commands.{with_plan, origin_of}

-- how a program is run with such options, and as usual where one isn't given
abbrev pub run_options : (slides : Bool) → Options → RunOptions
run_options slides o =
    record { slides = slides; steps = unwrap_or o.steps USUAL_STEPS; every = unwrap_or o.every USUAL_EVERY; report = o.report }

-- the command that is asked for of a program
abbrev pub command_of : Request → Command
command_of (request.Run file options) = run options.slides file.now options.steps options.every options.report
command_of (request.Plain file steps) = plain file.now steps
command_of (request.Format file) = fmt file.now
command_of (request.Check file) = check file.now
command_of (request.Code file) = code file.now
command_of (request.Pack file) = pack file.now
command_of (request.Bulk size) = bulk size

-- the command that the words ask for
abbrev pub command_for : Task → Command
command_for (task.OfProgram request) = command_of request
command_for (task.OfModule file options) = exec file.now options.steps options.every options.report
command_for (task.OfPlan file plan keep) = when file.now plan.now keep

-- a size is within its limit
abbrev pub IsWithin : Origin → Type 0
IsWithin (in_file file) = ⊤
IsWithin (generated size) = size ≤ MOST_SIZE
IsWithin (in_module file) = ⊤
IsWithin (with_plan file plan keep) = ⊤

-- what is asked for is
abbrev pub AsksWithin : Request → Type 0
AsksWithin r = IsWithin (origin_of (command_of r))

-- and what the words ask for
abbrev pub TaskWithin : Task → Type 0
TaskWithin w = IsWithin (origin_of (command_for w))
