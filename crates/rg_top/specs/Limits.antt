-- The limits in numbers (docs/language.md, "Limits"). All other definitions name them by constants of the sources, so without this page a source with
-- another number would keep every clause. Beside each limit stands the definition that uses it. All of these definitions are of what bytes and words
-- mean, or of what is expected of them, so each is used by the clauses `answered` and `expected` of `reggio`; what else uses it is named.
use Rattle.std.specs.Prelude.{◌≡◌}
use Rattle.rg_base.specs.declared.limits.TheConstants.{SOURCE_BYTES, NAME_BYTES, GREATEST_NUMBER, BRACKETS, CLASSES, CLASS_FIELDS, CLASS_METHODS}
use Rattle.rg_base.specs.declared.limits.TheConstants.{PARAMETERS, BODY_NAMES, STATEMENT_SIGNS, FRAMES, ARRAY_SIZE, INPUT_BLANKS, INPUT_TOKEN}
use Rattle.rg_base.specs.declared.limits.TheConstants.{MOST_STEPS, USUAL_STEPS}
use Rattle.rg_make.specs.declared.whole.TheConstants.{MOST_SIZE}
use Rattle.rg_plan.specs.declared.limits.TheConstants.{COWNS, BEHAVIOURS, NUMBER_DIGITS}
use Rattle.rg_sched.specs.declared.limits.TheConstants.{SCHEDULE}
use Rattle.rg_words.specs.declared.limits.TheConstants.{MODULE_BYTES, MOST_COWN, MOST_EVERY, MOST_NUMBERS, USUAL_EVERY}
use Rattle.rg_loading.specs.declared.limits.TheConstants.{IMAGE_BYTES}

pub record LimitsAre : Type 0 where
  -- the bytes of a source (`Means`) and of a plan (`HasPlan`)
  pub source_bytes : SOURCE_BYTES ≡ 1048576
  -- the bytes of a name, and the greatest number that a source writes (`reading`, by which a source is cut)
  pub name_bytes : NAME_BYTES ≡ 64
  pub greatest_number : GREATEST_NUMBER ≡ 9223372036854775807
  -- the brackets that are open together (`opened`, as the next six of rg_tree/specs/Counts, by which a source is parsed)
  pub brackets : BRACKETS ≡ 64
  -- the classes of a program (`one_class`)
  pub classes : CLASSES ≡ 1024
  -- the fields (`one_field`), the methods (`one_method`) of a class, and the parameters of a method (`one_param`)
  pub class_fields : CLASS_FIELDS ≡ 64
  pub class_methods : CLASS_METHODS ≡ 64
  pub parameters : PARAMETERS ≡ 16
  -- the names of a body, so the slots of a frame (`one_local`); a module's slots have 256 as a number where they are read (`FitsOperand`)
  pub body_names : BODY_NAMES ≡ 256
  -- the signs of a statement (`one_sign`)
  pub statement_signs : STATEMENT_SIGNS ≡ 512
  -- the frames (`test .. Depth` of a call) and the elements of an array (`size_within`), past which a step traps
  pub frames : FRAMES ≡ 4096
  pub array_size : ARRAY_SIZE ≡ 65535
  -- the blanks in front of a number of the input (`next_number`), and its bytes (`token_number`)
  pub input_blanks : INPUT_BLANKS ≡ 4096
  pub input_token : INPUT_TOKEN ≡ 20
  -- the steps that words may ask for (`with_steps`, `steps_in`; clause `usage`), and those of `bulk` (`steps_of`; clause `notes`)
  pub most_steps : MOST_STEPS ≡ 1000000000
  -- the steps where words ask for none (`running`, `executing`, `steps_in`)
  pub usual_steps : USUAL_STEPS ≡ 10000000
  -- the number of `--every`, where it is said (`with_every`; `usage`) and where it isn't (`running`, `executing`; clause `chosen`)
  pub most_every : MOST_EVERY ≡ 1000000000
  pub usual_every : USUAL_EVERY ≡ 1000
  -- the size of `bulk` (`sized`; `usage`), and the number of the cown of `--keep` (`cown_in`; `usage`)
  pub most_size : MOST_SIZE ≡ 100000
  pub most_cown : MOST_COWN ≡ 9999
  -- the cowns (`with_cown`) and the behaviours (`with_turn`) of a plan, and the digits of a number in it (`number`)
  pub cowns : COWNS ≡ 256
  pub behaviours : BEHAVIOURS ≡ 4096
  pub number_digits : NUMBER_DIGITS ≡ 4
  -- the numbers of a schedule (`schedule_of`), which the text of status 4 tells (`steps_of`; clause `notes`)
  pub schedule : SCHEDULE ≡ 1000000
  pub most_numbers : MOST_NUMBERS ≡ 1000000
  -- the bytes of a module (`MeansModule`) and of an image (`FileComes`)
  pub module_bytes : MODULE_BYTES ≡ 16777216
  pub image_bytes : IMAGE_BYTES ≡ 16777216
