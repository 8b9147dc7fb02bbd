-- What is read of statements and expressions keeps the counts of classes, fields and methods.
use Rattle.std.proofs.Common.{◌≡◌, refl, sym, ap, ◌∙◌, subst, ℕ, ◌+◌, ◌<◌, Bool as Truth, true, false, nat_lt, List, Ok, arith}
use Rattle.std.proofs.lemmas.Bool.{false≢true}
use Rattle.std.proofs.lemmas.Bool.Decides.{nat_tests}
use Rattle.rg_base.specs.declared.fault.Code.{Code}
use Rattle.rg_base.specs.declared.fault.Code.TheVariants as code
use Rattle.rg_base.specs.declared.token.Token.{Token}
use Rattle.rg_base.specs.declared.limits.TheConstants.{BRACKETS, CLASSES, CLASS_FIELDS, CLASS_METHODS, PARAMETERS, BODY_NAMES, STATEMENT_SIGNS}
use Rattle.rg_tree.specs.declared.counts.Counts.{Counts}
use Rattle.rg_tree.proofs.Callers.{within-ok}
use Rattle.rg_tree.specs.Counts.{within, opened, closed, one_class, one_field, one_method, one_param, one_local, one_sign, no_signs}
use Rattle.rg_tree.specs.Forms as form
use Rattle.rg_tree.specs.Forms.{Form, Given}
use Rattle.rg_tree.specs.Grammar.{Reads, program_class, program_main, class_row, tmp_class_row, members_row, element_row, field_row, method_row}
use Rattle.rg_tree.specs.Grammar.{no_members, cap_row, plain_type, ref_type, first_param, no_params, next_param, no_more_params, some_result}
use Rattle.rg_tree.specs.Grammar.{no_result, manager_row, block_row, no_stmts, more_stmts, let_row, assign_row, call_row, swap_row, if_row}
use Rattle.rg_tree.specs.Grammar.{while_row, enter_row, print_row, collect_row, return_row, at_row, no_at, giving_row, no_giving, else_row}
use Rattle.rg_tree.specs.Grammar.{else_none, path_row, next_field, no_fields, new_row, freeze_row, merge_row, input_row, result_row, value_row}
use Rattle.rg_tree.specs.Grammar.{new_plain, new_temporary, new_region, call_start, call_base, call_further, call_args, no_args, first_arg}
use Rattle.rg_tree.specs.Grammar.{next_arg, no_more_args, expr_row, or_row, no_or, and_row, and_further, no_and, not_row, no_not, cmp_row, compared}
use Rattle.rg_tree.specs.Grammar.{not_compared, sum_row, sum_further, no_sum, mul_row, mul_further, no_mul, minus, no_minus, literal, parens}
use Rattle.rg_tree.specs.Grammar.{size_row, path_value, is_row, element_of, no_is}

-- the same counts of what a program and a class have
pub record Keeps (c d : Counts) : Type 0 where
  pub classes : d.classes ≡ c.classes
  pub fields : d.fields ≡ c.fields
  pub methods : d.methods ≡ c.methods

pub keeps-still : {c : Counts} → Keeps c c
keeps-still = record { classes = refl; fields = refl; methods = refl }

pub keeps-unsigned : {c : Counts} → Keeps c (no_signs c)
keeps-unsigned = record { classes = refl; fields = refl; methods = refl }

pub keeps-then : {c d e : Counts} → Keeps c d → Keeps d e → Keeps c e
keeps-then r s = record {
  classes = s.classes ∙ r.classes;
  fields = s.fields ∙ r.fields;
  methods = s.methods ∙ r.methods;
}

less-than : (n most : ℕ) → nat_lt n most ≡ true → n < most
less-than n most h = grind (arith, nat_tests)

-- one more
pub record OneMore (n most : ℕ) (c d : Counts) : Type 0 where
  pub less : n < most
  pub is : d ≡ c

one-more : (n most : ℕ) (f : Code) (c d : Counts) → within (nat_lt n most) f c ≡ Ok d → OneMore n most c d
one-more n most f c d h =
    let p = within-ok (nat_lt n most) f c d h in record { less = less-than n most p.0; is = sym p.1 }

pub opened-more : {c d : Counts} → opened c ≡ Ok d → OneMore c.brackets BRACKETS (record c { brackets = c.brackets + 1 }) d
opened-more {c} {d} h = one-more c.brackets BRACKETS code.Nesting (record c { brackets = c.brackets + 1 }) d h

pub class-more : (c d : Counts) → one_class c ≡ Ok d → OneMore c.classes CLASSES (record c { classes = c.classes + 1; fields = 0; methods = 0 }) d
class-more c d h = one-more c.classes CLASSES code.Limit (record c { classes = c.classes + 1; fields = 0; methods = 0 }) d h

pub field-more : {c d : Counts} → one_field c ≡ Ok d → OneMore c.fields CLASS_FIELDS (record c { fields = c.fields + 1 }) d
field-more {c} {d} h = one-more c.fields CLASS_FIELDS code.Limit (record c { fields = c.fields + 1 }) d h

pub method-more : {c d : Counts} → one_method c ≡ Ok d → OneMore c.methods CLASS_METHODS (record c { methods = c.methods + 1 }) d
method-more {c} {d} h = one-more c.methods CLASS_METHODS code.Limit (record c { methods = c.methods + 1 }) d h

pub param-more : (c d : Counts) → one_param c ≡ Ok d → OneMore c.params PARAMETERS (record c { params = c.params + 1; names = c.names + 1 }) d
param-more c d h = one-more c.params PARAMETERS code.Limit (record c { params = c.params + 1; names = c.names + 1 }) d h

keeps-param : {c d : Counts} → one_param c ≡ Ok d → Keeps c d
keeps-param {c} {d} h = subst (Keeps c) (sym (param-more c d h).is) (record { classes = refl; fields = refl; methods = refl })

keeps-local : {c d : Counts} → one_local c ≡ Ok d → Keeps c d
keeps-local {c} {d} h =
    let m = one-more c.names BODY_NAMES code.Limit (record c { names = c.names + 1 }) d h in
    subst (Keeps c) (sym m.is) (record { classes = refl; fields = refl; methods = refl })

keeps-sign : {c d : Counts} → one_sign c ≡ Ok d → Keeps c d
keeps-sign {c} {d} h =
    let m = one-more c.signs STATEMENT_SIGNS code.Limit (record c { signs = c.signs + 1 }) d h in
    subst (Keeps c) (sym m.is) (record { classes = refl; fields = refl; methods = refl })

-- between brackets
pub keeps-shut : {c d e : Counts} → opened c ≡ Ok d → Keeps d e → Keeps c (closed e)
keeps-shut {c} {d} {e} h r =
    let one = (opened-more h).is in
    record {
      classes = r.classes ∙ ap (λ (x : Counts). x.classes) one;
      fields = r.fields ∙ ap (λ (x : Counts). x.fields) one;
      methods = r.methods ∙ ap (λ (x : Counts). x.methods) one;
    }

-- a form within a class's members
abbrev pub is_inner : Form → Truth
is_inner form.Program = false
is_inner form.Class = false
is_inner form.ClassRest = false
is_inner form.Members = false
is_inner f = true

pub keeps : {source : List ℕ} {f : Form} {c d : Counts} {ts us : List Token} {a : Given f} → Reads source f c ts a d us → is_inner f ≡ true
    → Keeps c d
keeps (program_class _ _) i = absurd (false≢true i)
keeps (program_main _ _ _) i = absurd (false≢true i)
keeps (class_row _ _ _ _) i = absurd (false≢true i)
keeps (tmp_class_row _ _ _ _ _) i = absurd (false≢true i)
keeps (members_row _ _ _ _) i = absurd (false≢true i)
keeps (element_row _ _ _ _ _) i = absurd (false≢true i)
keeps (field_row _ _ _ _ _ _) i = absurd (false≢true i)
keeps (method_row _ _ _ _ _ _ _ _ _ _ _) i = absurd (false≢true i)
keeps (no_members _) i = absurd (false≢true i)
keeps (cap_row _) i = keeps-still
keeps (plain_type _) i = keeps-still
keeps (ref_type a1 _) i = keeps a1 refl
keeps (first_param _ a2 _ a4 a5) i = keeps-then (keeps-param a2) (keeps-then (keeps a4 refl) (keeps a5 refl))
keeps (no_params _) i = keeps-still
keeps (next_param _ _ a3 _ a5 a6) i = keeps-then (keeps-param a3) (keeps-then (keeps a5 refl) (keeps a6 refl))
keeps (no_more_params _) i = keeps-still
keeps (some_result _ a2) i = keeps a2 refl
keeps (no_result _) i = keeps-still
keeps (manager_row _) i = keeps-still
keeps (block_row _ a2 a3 _) i = keeps-shut a2 (keeps a3 refl)
keeps (no_stmts _) i = keeps-unsigned
keeps (more_stmts _ a2 a3) i = keeps-then (keeps-then keeps-unsigned (keeps a2 refl)) (keeps a3 refl)
keeps (let_row _ _ a3 _ a5 _ a7 _) i = keeps-then (keeps-local a3) (keeps-then (keeps a5 refl) (keeps a7 refl))
keeps (assign_row a1 a2 _ a4 _) i = keeps-then (keeps a1 refl) (keeps-then (keeps a2 refl) (keeps a4 refl))
keeps (call_row a1 _) i = keeps a1 refl
keeps (swap_row _ _ _ a4 _) i = keeps a4 refl
keeps (if_row _ a2 a3 a4) i = keeps-then (keeps a2 refl) (keeps-then (keeps a3 refl) (keeps a4 refl))
keeps (while_row _ a2 a3) i = keeps-then (keeps a2 refl) (keeps a3 refl)
keeps (enter_row _ a2 _ _ a5 a6 a7) i = keeps-then (keeps a2 refl) (keeps-then (keeps-local a5) (keeps-then (keeps a6 refl) (keeps a7 refl)))
keeps (print_row _ a2 _) i = keeps a2 refl
keeps (collect_row _ _) i = keeps-still
keeps (return_row _ a2 _) i = keeps a2 refl
keeps (at_row _ a2 a3 _) i = keeps-shut a2 (keeps a3 refl)
keeps (no_at _) i = keeps-still
keeps (giving_row _ _ _) i = keeps-still
keeps (no_giving _) i = keeps-still
keeps (else_row _ a2) i = keeps a2 refl
keeps (else_none _) i = keeps-still
keeps (path_row _ a2) i = keeps a2 refl
keeps (next_field _ _ a3) i = keeps a3 refl
keeps (no_fields _) i = keeps-still
keeps (new_row _ a2) i = keeps a2 refl
keeps (freeze_row _ _) i = keeps-still
keeps (merge_row _ _) i = keeps-still
keeps (input_row _) i = keeps-still
keeps (result_row a1) i = keeps a1 refl
keeps (value_row _ a2) i = keeps a2 refl
keeps (new_plain _ a2) i = keeps a2 refl
keeps (new_temporary _ _ a3) i = keeps a3 refl
keeps (new_region _ _ a3 _ a5) i = keeps-then (keeps a3 refl) (keeps a5 refl)
keeps (call_start _ a2 _ _ a5) i = keeps-then (keeps a2 refl) (keeps a5 refl)
keeps (call_base _) i = keeps-still
keeps (call_further _ _ a3) i = keeps a3 refl
keeps (call_args _ a2 a3 _) i = keeps-shut a2 (keeps a3 refl)
keeps (no_args _) i = keeps-still
keeps (first_arg _ a2 a3) i = keeps-then (keeps a2 refl) (keeps a3 refl)
keeps (next_arg _ a2 a3) i = keeps-then (keeps a2 refl) (keeps a3 refl)
keeps (no_more_args _) i = keeps-still
keeps (expr_row a1 a2) i = keeps-then (keeps a1 refl) (keeps a2 refl)
keeps (or_row _ a2 a3 a4) i = keeps-then (keeps-sign a2) (keeps-then (keeps a3 refl) (keeps a4 refl))
keeps (no_or _) i = keeps-still
keeps (and_row a1 a2) i = keeps-then (keeps a1 refl) (keeps a2 refl)
keeps (and_further _ a2 a3 a4) i = keeps-then (keeps-sign a2) (keeps-then (keeps a3 refl) (keeps a4 refl))
keeps (no_and _) i = keeps-still
keeps (not_row _ a2) i = keeps a2 refl
keeps (no_not _ a2) i = keeps a2 refl
keeps (cmp_row a1 a2) i = keeps-then (keeps a1 refl) (keeps a2 refl)
keeps (compared _ a2 a3) i = keeps-then (keeps-sign a2) (keeps a3 refl)
keeps (not_compared _) i = keeps-still
keeps (sum_row a1 a2) i = keeps-then (keeps a1 refl) (keeps a2 refl)
keeps (sum_further _ a2 a3 a4) i = keeps-then (keeps-sign a2) (keeps-then (keeps a3 refl) (keeps a4 refl))
keeps (no_sum _) i = keeps-still
keeps (mul_row a1 a2) i = keeps-then (keeps a1 refl) (keeps a2 refl)
keeps (mul_further _ a2 a3 a4) i = keeps-then (keeps-sign a2) (keeps-then (keeps a3 refl) (keeps a4 refl))
keeps (no_mul _) i = keeps-still
keeps (minus _ a2) i = keeps a2 refl
keeps (no_minus _ a2) i = keeps a2 refl
keeps (literal _) i = keeps-still
keeps (parens _ a2 a3 _) i = keeps-shut a2 (keeps a3 refl)
keeps (size_row _ a2) i = keeps a2 refl
keeps (path_value a1 a2) i = keeps-then (keeps a1 refl) (keeps a2 refl)
keeps (is_row _ _) i = keeps-still
keeps (element_of _ a2 a3 _) i = keeps-shut a2 (keeps a3 refl)
keeps (no_is _) i = keeps-still
