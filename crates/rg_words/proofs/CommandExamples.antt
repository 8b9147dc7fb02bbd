-- Words of the command line, read as commands.
use Rattle.std.proofs.Common.{◌≡◌, ℕ, true, false, List, [], ◌∷◌, Some, None, codes, refl}
use Rattle.rg_words.specs.Commands.{run, plain, exec, when, command}

-- `run a`, and what stands behind it
abbrev run_a : List (List ℕ) → List (List ℕ)
run_a options = codes "run" ∷ codes "a" ∷ options

without_options : command (run_a []) ≡ Some (run false (codes "a") 10000000 1000 false)
without_options = refl

every_option : command (run_a (codes "--every" ∷ codes "0" ∷ codes "--report" ∷ codes "--steps" ∷ codes "0000000007" ∷ []))
    ≡ Some (run false (codes "a") 7 0 true)
every_option = refl

a_report_in_front : command (run_a (codes "--report" ∷ codes "--steps" ∷ codes "5" ∷ [])) ≡ Some (run false (codes "a") 5 1000 true)
a_report_in_front = refl

a_report_at_the_end : command (run_a (codes "--every" ∷ codes "100" ∷ codes "--report" ∷ [])) ≡ Some (run false (codes "a") 10000000 100 true)
a_report_at_the_end = refl

the_greatest_number : command (run_a (codes "--every" ∷ codes "1000000000" ∷ [])) ≡ Some (run false (codes "a") 10000000 1000000000 false)
the_greatest_number = refl

a_greater_one : command (run_a (codes "--every" ∷ codes "1000000001" ∷ [])) ≡ None
a_greater_one = refl

steps_given_twice : command (run_a (codes "--steps" ∷ codes "5" ∷ codes "--steps" ∷ codes "6" ∷ [])) ≡ None
steps_given_twice = refl

every_given_twice : command (run_a (codes "--every" ∷ codes "5" ∷ codes "--steps" ∷ codes "6" ∷ codes "--every" ∷ codes "5" ∷ [])) ≡ None
every_given_twice = refl

a_report_given_twice : command (run_a (codes "--report" ∷ codes "--report" ∷ [])) ≡ None
a_report_given_twice = refl

no_number : command (run_a (codes "--every" ∷ [])) ≡ None
no_number = refl

an_option_for_a_number : command (run_a (codes "--steps" ∷ codes "--report" ∷ [])) ≡ None
an_option_for_a_number = refl

a_number_in_the_word_itself : command (run_a (codes "--every=5" ∷ [])) ≡ None
a_number_in_the_word_itself = refl

a_word_behind_a_report : command (run_a (codes "--report" ∷ codes "5" ∷ [])) ≡ None
a_word_behind_a_report = refl

-- `slide` has the same options
abbrev slide_a : List (List ℕ) → List (List ℕ)
slide_a options = codes "slide" ∷ codes "a" ∷ options

slide_without_options : command (slide_a []) ≡ Some (run true (codes "a") 10000000 1000 false)
slide_without_options = refl

every_option_of_slide : command (slide_a (codes "--every" ∷ codes "0" ∷ codes "--report" ∷ codes "--steps" ∷ codes "7" ∷ []))
    ≡ Some (run true (codes "a") 7 0 true)
every_option_of_slide = refl

a_report_of_slide_given_twice : command (slide_a (codes "--report" ∷ codes "--report" ∷ [])) ≡ None
a_report_of_slide_given_twice = refl

slide_without_a_file : command (codes "slide" ∷ []) ≡ None
slide_without_a_file = refl

slide_of_a_word_with_a_dash : command (codes "slide" ∷ codes "-a" ∷ []) ≡ None
slide_of_a_word_with_a_dash = refl

options_of_plain : command (codes "plain" ∷ codes "a" ∷ codes "--steps" ∷ codes "5" ∷ []) ≡ Some (plain (codes "a") 5)
options_of_plain = refl

no_report_of_plain : command (codes "plain" ∷ codes "a" ∷ codes "--report" ∷ []) ≡ None
no_report_of_plain = refl

no_report_of_bulk : command (codes "bulk" ∷ codes "5" ∷ codes "--report" ∷ []) ≡ None
no_report_of_bulk = refl

-- `exec` has them too
abbrev exec_a : List (List ℕ) → List (List ℕ)
exec_a options = codes "exec" ∷ codes "a" ∷ options

exec_without_options : command (exec_a []) ≡ Some (exec (codes "a") 10000000 1000 false)
exec_without_options = refl

every_option_of_exec : command (exec_a (codes "--every" ∷ codes "0" ∷ codes "--report" ∷ codes "--steps" ∷ codes "7" ∷ []))
    ≡ Some (exec (codes "a") 7 0 true)
every_option_of_exec = refl

steps_of_exec_given_twice : command (exec_a (codes "--steps" ∷ codes "5" ∷ codes "--steps" ∷ codes "6" ∷ [])) ≡ None
steps_of_exec_given_twice = refl

exec_without_a_file : command (codes "exec" ∷ []) ≡ None
exec_without_a_file = refl

exec_of_a_word_with_a_dash : command (codes "exec" ∷ codes "-a" ∷ []) ≡ None
exec_of_a_word_with_a_dash = refl

-- `when` has two files, and what is kept
when_of_two_files : command (codes "when" ∷ codes "a" ∷ codes "p" ∷ []) ≡ Some (when (codes "a") (codes "p") None)
when_of_two_files = refl

when_without_a_plan : command (codes "when" ∷ codes "a" ∷ []) ≡ None
when_without_a_plan = refl

when_with_a_word_more : command (codes "when" ∷ codes "a" ∷ codes "p" ∷ codes "q" ∷ []) ≡ None
when_with_a_word_more = refl

when_of_a_plan_with_a_dash : command (codes "when" ∷ codes "a" ∷ codes "-p" ∷ []) ≡ None
when_of_a_plan_with_a_dash = refl

when_of_a_file_with_a_dash : command (codes "when" ∷ codes "-a" ∷ codes "p" ∷ []) ≡ None
when_of_a_file_with_a_dash = refl

-- `when a p`, and what stands behind it
abbrev when_p : List (List ℕ) → List (List ℕ)
when_p words = codes "when" ∷ codes "a" ∷ codes "p" ∷ words

the_first_cown : command (when_p (codes "--keep" ∷ codes "0" ∷ [])) ≡ Some (when (codes "a") (codes "p") (Some 0))
the_first_cown = refl

the_greatest_cown : command (when_p (codes "--keep" ∷ codes "9999" ∷ [])) ≡ Some (when (codes "a") (codes "p") (Some 9999))
the_greatest_cown = refl

a_cown_of_four_digits : command (when_p (codes "--keep" ∷ codes "0012" ∷ [])) ≡ Some (when (codes "a") (codes "p") (Some 12))
a_cown_of_four_digits = refl

a_cown_of_five_digits : command (when_p (codes "--keep" ∷ codes "00001" ∷ [])) ≡ None
a_cown_of_five_digits = refl

a_greater_cown : command (when_p (codes "--keep" ∷ codes "10000" ∷ [])) ≡ None
a_greater_cown = refl

no_cown : command (when_p (codes "--keep" ∷ [])) ≡ None
no_cown = refl

an_empty_cown : command (when_p (codes "--keep" ∷ [] ∷ [])) ≡ None
an_empty_cown = refl

a_cown_that_is_no_number : command (when_p (codes "--keep" ∷ codes "-1" ∷ [])) ≡ None
a_cown_that_is_no_number = refl

a_cown_in_the_word_itself : command (when_p (codes "--keep=0" ∷ [])) ≡ None
a_cown_in_the_word_itself = refl

a_cown_given_twice : command (when_p (codes "--keep" ∷ codes "0" ∷ codes "--keep" ∷ codes "0" ∷ [])) ≡ None
a_cown_given_twice = refl

a_word_behind_a_cown : command (when_p (codes "--keep" ∷ codes "0" ∷ codes "1" ∷ [])) ≡ None
a_word_behind_a_cown = refl

a_cown_before_the_plan : command (codes "when" ∷ codes "a" ∷ codes "--keep" ∷ codes "0" ∷ codes "p" ∷ []) ≡ None
a_cown_before_the_plan = refl

a_cown_without_a_plan : command (codes "when" ∷ codes "a" ∷ codes "--keep" ∷ codes "0" ∷ []) ≡ None
a_cown_without_a_plan = refl

steps_of_when : command (when_p (codes "--steps" ∷ codes "5" ∷ [])) ≡ None
steps_of_when = refl

steps_behind_a_cown : command (when_p (codes "--keep" ∷ codes "0" ∷ codes "--steps" ∷ codes "5" ∷ [])) ≡ None
steps_behind_a_cown = refl

keep_of_run : command (run_a (codes "--keep" ∷ codes "0" ∷ [])) ≡ None
keep_of_run = refl
