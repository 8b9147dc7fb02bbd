-- Accepted programs that have one module have the same runs, as far as a run tells: the machine of their code shows both.
use Rattle.std.proofs.Common.{◌≡◌, refl, sym, ap, ◌∙◌, subst, ℕ, List}
use Rattle.rg_base.specs.declared.outcome.Trap.{Trap}
use Rattle.rg_base.specs.declared.words.Manager.{Manager}
use Rattle.rg_tree.specs.Tree.{Tree}
use Rattle.rg_rules.specs.Acceptance.{Accepted}
use Rattle.rg_rules.specs.Runs.{Ending, Running, Done, Stopped, plain}
use Rattle.rg_code.specs.Code.{Code}
use Rattle.rg_code.specs.Lowering.{lowered}
use Rattle.rg_stack.specs.Runs.{Standing, Astray, Ran, coded}
use Rattle.rg_stack.specs.Runs as code
use Rattle.rg_stack.specs.Simulates.{SameEnd, SameRun}
use Rattle.rg_stack.specs.Laws.{RunShows}
use Rattle.rg_module.specs.Parts.{Parts}
use Rattle.rg_build.specs.ModuleOf.{module_of}
use Rattle.rg_packed.specs.Told.{TellsTheSame}

-- how a program's run stands, by that of its code, which never goes astray
abbrev shown_end : Standing → Ending
shown_end code.Running = Running
shown_end code.Done = Done
shown_end (code.Stopped t line) = Stopped t line
shown_end Astray = Running

end-shown : (e : Ending) (s : Standing) → SameEnd e s → e ≡ shown_end s
end-shown Running code.Running h = refl
end-shown Running code.Done h = absurd h
end-shown Running (code.Stopped t line) h = absurd h
end-shown Running Astray h = absurd h
end-shown Done code.Running h = absurd h
end-shown Done code.Done h = refl
end-shown Done (code.Stopped t line) h = absurd h
end-shown Done Astray h = absurd h
end-shown (Stopped k l) code.Running h = absurd h
end-shown (Stopped k l) code.Done h = absurd h
end-shown (Stopped k l) (code.Stopped t line) h = sym (ap (λ (x : Trap). Stopped x line) h.0 ∙ ap (Stopped k) h.1)
end-shown (Stopped k l) Astray h = absurd h

-- the machine on which a program's code runs has of the program its manager alone
coded-alike : (t u : Tree) (c : Code) (input : List ℕ) (n : ℕ) → u.manager ≡ t.manager → coded u c input n ≡ coded t c input n
coded-alike t u c input n e = ap (λ (m : Manager). coded (record t { manager = m }) c input n) e

pub one-run : RunShows → (t u : Tree) → Accepted t → Accepted u → module_of u ≡ module_of t → (input : List ℕ) (n : ℕ) →
    TellsTheSame (plain u input n) (plain t input n)
one-run law t u a b e input n =
    let c = lowered t in
    let same : c ≡ lowered u = sym (ap (λ (m : Parts). m.code) e) in
    let first = law t c input n a refl in
    let second : SameRun u.classes c (coded t c input n) (plain u input n) =
    subst (λ (r : Ran). SameRun u.classes c r (plain u input n)) (coded-alike t u c input n (ap (λ (m : Parts). m.manager) e))
    (law u c input n b same) in
    let s = (coded t c input n).standing in
    record {
      output = sym second.output ∙ first.output;
      steps = sym second.steps ∙ first.steps;
      ending = end-shown (plain u input n).ending s second.ending ∙ sym (end-shown (plain t input n).ending s first.ending);
    }
