-- The bytes of a program's module mean programs that raise it, and these have its runs.
use Rattle.std.proofs.Common.{◌≡◌, refl, sym, ap, ◌∙◌, subst, ℕ, ◌≤◌, List, length, arith}
use Rattle.rg_base.specs.Text.{text}
use Rattle.rg_base.specs.declared.value.Val.{Val}
use Rattle.rg_tree.specs.Tree.{Tree}
use Rattle.rg_rules.specs.Acceptance.{Accepted, first_fault}
use Rattle.rg_rules.specs.Runs.{Ending}
use Rattle.rg_rules.specs.Runs as rules
use Rattle.rg_module.specs.Parts.{Parts}
use Rattle.rg_module.specs.Laws.{SpellsOneModule}
use Rattle.rg_build.specs.ModuleOf.{module_of}
use Rattle.rg_raised.specs.Raises.{Raises}
use Rattle.rg_packed.specs.Laws.{IsOfSource, PackedSpellsModule, PackedIsRaised, OneModuleOneRun}
use Rattle.rg_words.specs.Commands.{exec}
use Rattle.rg_words.specs.declared.limits.TheConstants.{MODULE_BYTES}
use Rattle.rg_words.specs.Answers.{Answer}
use Rattle.rg_sources.specs.Sources.{Meaning, too_long, faulty, spelt, planned, HasModule, MeansModule}
use Rattle.rg_sources.proofs.Meaning.{no-program}
use Rattle.rg_commands.specs.Expected.{status_of, run_answer, unless_fault, packed_text, expected}
use Rattle.rg_top.specs.Packed.{PackedRunsAs}

-- bytes that spell a module which a program raises mean programs that raise it, and nothing else
meant : SpellsOneModule → (bytes : List ℕ) (parts : Parts) (t : Tree) → HasModule bytes parts → Raises parts t → length bytes ≤ MODULE_BYTES →
    (m : Meaning) → MeansModule bytes m → (u : Tree) × (m ≡ spelt u) × Raises parts u
meant one bytes parts t has raises short too_long h = absurd (omega (arith, h, short))
meant one bytes parts t has raises short (faulty f) h = absurd (no-program one bytes f parts t h.1 has raises)
meant one bytes parts t has raises short (spelt u) h =
    let P : Parts → Type 0 = λ q. Raises q u in (u, refl, subst P (one bytes h.1 parts h.2 has) h.3)
meant one bytes parts t has raises short (planned u p images) h = absurd h

-- accepted programs of one module have the same answer
answered : OneModuleOneRun → (t u : Tree) → Accepted t → Accepted u → module_of u ≡ module_of t → (input : List ℕ) (n : ℕ) →
    unless_fault (first_fault u) (run_answer u input n) ≡ unless_fault (first_fault t) (run_answer t input n)
answered law t u a b e input n =
    let same = law t u a b e input n in
    let answer : Ending → List Val → Answer = λ s o. record { status = status_of s; text = text o } in
    ap (λ f. unless_fault f (run_answer u input n)) b
    ∙ ap (λ s. answer s (rules.plain u input n).state.output) same.ending
    ∙ ap (answer (rules.plain t input n).ending) same.output
    ∙ sym (ap (λ f. unless_fault f (run_answer t input n)) a)

pub packed-runs : PackedSpellsModule → PackedIsRaised → OneModuleOneRun → SpellsOneModule → PackedRunsAs
packed-runs spells raised same one source t h short =
    let s : IsOfSource source t =
    record { size = h.0.0; tokens = h.0.1.0; cuts = h.0.1.1; spells = h.0.1.2; accepted = h.1 } in
    let bytes = packed_text t in
    let has : HasModule bytes (module_of t) = spells source t s (omega (arith, short)) in
    let first = raised source t s in
    let all = meant one bytes (module_of t) first.0 has first.1 short in
    record {
      some = (first.0, (short, module_of t, has, first.1));
      alone = λ m g. let u = all m g in (u.0, u.1);
      answers = λ m g packed file n every slides report p input.
          let u = all m g in
          ap (expected (exec packed n every report) p input) u.1
          ∙ answered same t u.0 h.1 u.2.accepted u.2.its_module input n;
    }
