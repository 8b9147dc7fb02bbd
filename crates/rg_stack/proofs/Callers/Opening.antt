-- The opening machine of an accepted program shows its opening state. For callers.
use Rattle.std.proofs.Common.{◌≡◌, ℕ, ◌+◌, ◌-◌, List, [], ◌∷◌, length, replicate, Some, refl, sym, ap, subst, ◌∙◌, arith, slice_get}
use Rattle.std.proofs.lemmas.List.{length-replicate}
use Rattle.rg_base.specs.declared.value.Val.TheVariants as val
use Rattle.rg_tree.specs.Tree.{Tree}
use Rattle.rg_rules.specs.Acceptance.{Accepted}
use Rattle.rg_rules.specs.Items.{EndAt}
use Rattle.rg_rules.specs.State.{Drops}
use Rattle.rg_rules.specs.Bodies.{main_body}
use Rattle.rg_rules.specs.Runs.{plain_from}
use Rattle.rg_rules.specs.Runs as plain
use Rattle.rg_rules.proofs.Acceptance.{Accepted-parts}
use Rattle.rg_sound.specs.Fit.{Fit}
use Rattle.rg_sound.proofs.Held.{fit-holds}
use Rattle.rg_sound.proofs.Law.{run-fits}
use Rattle.rg_code.specs.declared.op.Op.TheVariants as i
use Rattle.rg_code.specs.Lowering.{block_code, slots_of, main_code, methods_code, lowered}
use Rattle.rg_code.specs.Places.{StandsIn, behind_end, Level, Lies}
use Rattle.rg_stack.specs.Runs.{opening}
use Rattle.rg_stack.specs.Simulates.{Holds}
use Rattle.rg_stack.specs.Laws.{OpeningShows}
use Rattle.rg_stack.proofs.Mirrors.{Mirrors}
use Rattle.rg_stack.proofs.Walks.Place.{stands-of, front_in, back_in, get-stands, stands-back, lies_block}
use Rattle.rg_stack.proofs.Statements.Block.{block_end}
use Rattle.rg_stack.proofs.Judgements.Judge.{block-goes_on}
use Rattle.rg_stack.proofs.Judgements.Owes.{roomy_of}
use Rattle.rg_stack.proofs.Callers.Step.{mirrors-shows}

-- main's items lie where its code begins
pub main_lies : (t : Tree) → Accepted t → (l : Level) → l.scope ≡ [] → StandsIn (lowered t).ops l 0 (main_code t)
    → Lies t.classes (lowered t).ops (l ∷ []) ((plain.opening t []).items) 0
main_lies t accepted l empty stands =
    let p = Accepted-parts t accepted in
    let ops = (lowered t).ops in
    let block = block_code t.classes [] 0 t.body in
    let end = i.Mark t.line ∷ i.End 0 ∷ i.Halt ∷ [] in
    let none : Level = record l { scope = [] } in
    let closed : StandsIn ops none (0 + length block) end = back_in ops none 0 block end stands in
    let halts : slice_get ops (0 + length block + 2) ≡ Some i.Halt = get-stands ops (0 + length block + 2) i.Halt []
    (stands-back ops (0 + length block) (i.Mark t.line ∷ i.End 0 ∷ []) (i.Halt ∷ []) closed.0) in
    let leads : behind_end (slice_get ops (0 + length block + 2)) (0 + length block + 2)
    ≡ 0 + length block + 2 = ap (λ o. behind_end o (0 + length block + 2)) halts in
    subst (λ s. Lies t.classes ops (record l { scope = s } ∷ []) ((plain.opening t []).items) 0) (sym empty)
    (lies_block t.classes ops t.body none [] 0 (EndAt 0 ∷ []) (front_in ops none 0 block end stands)
    (block-goes_on t.classes t.body (main_body t).front p.out p.main)
    (block_end t.classes ops none [] t.body (0 + length block) t.line (i.Halt ∷ []) [] closed (ap (slice_get ops) leads ∙ halts)))

pub opening-fit : (t : Tree) (input : List ℕ) → Accepted t → Fit t (plain.opening t input)
unfolding plain_from
opening-fit t input accepted = run-fits t accepted input 0

lowered_opens : (t : Tree) (input : List ℕ) → Accepted t → Holds t.classes (lowered t) (opening t (lowered t) input) (plain.opening t input)
lowered_opens t input accepted =
    let main = main_code t in
    let slots = slots_of 0 main in
    let size : length (replicate slots val.Nil) ≡ slots = length-replicate slots val.Nil in
    let l : Level = record { scope = []; slots = slots; target = Drops; back = 0 } in
    let rest = (methods_code t.classes (length main) 0 t.classes).ops in
    let stands : StandsIn (lowered t).ops l 0 main = (stands-of (lowered t).ops 0 main rest refl, roomy_of 0 slots main (omega arith)) in
    let lies = main_lies t accepted l refl stands in
    let no_more : slots ≡ length (replicate slots val.Nil) - 0 = omega (arith, size) in
    let mirrors : Mirrors t.classes (lowered t) (opening t (lowered t) input).machine (plain.opening t input) = record {
      slots = (ap (λ n. replicate n val.Nil) no_more, tt);
      windows = (record { number = refl; region = refl; owner = refl; base = refl }, tt);
      places = subst (λ n. Lies t.classes (lowered t).ops (record { scope = []; slots = n; target = Drops; back = 0 } ∷ [])
          ((plain.opening t []).items) 0) (sym size) lies;
      windows_made = refl;
      managers = refl;
      store = refl;
    } in
    record {
      shows = mirrors-shows t.classes (lowered t) (opening t (lowered t) input).machine (plain.opening t input)
          (fit-holds t (plain.opening t input) (opening-fit t input accepted)) mirrors;
      input = refl;
    }

pub opening-shows : OpeningShows
opening-shows t code input accepted lowers = subst (λ c. Holds t.classes c (opening t c input) (plain.opening t input)) (sym lowers)
    (lowered_opens t input accepted)
