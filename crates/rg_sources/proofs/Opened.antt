-- Which files were opened, by what was read of those before.
use Rattle.std.proofs.Common.{◌≡◌, ℕ, inl, inr, List, [], ◌∷◌, ◌++◌, Option, true, refl, ◌∙◌, ap}
use Rattle.std.proofs.lemmas.List.{append_assoc}
use Rattle.rg_io.specs.Files.{Told, SameFiles, BegunAre}
use Rattle.rg_tree.specs.Tree.{Tree}
use Rattle.rg_plan.specs.Plans.{PlanOf}
use Rattle.rg_loading.specs.Files.{OpensFor}
use Rattle.rg_words.specs.Commands.{with_plan}
use Rattle.rg_sources.specs.Sources.{Sources, MayLoad, has_kept}
use Rattle.rg_sources.specs.Brings.{Judged, PlanThere}
use Rattle.rg_sources.specs.Opens.{OpensImages, Opens}
use Rattle.rg_sources.proofs.Read.{alone, both, file-before, files-before}

-- the file of a program, without the plan's
pub program-opened : (told : Option Told) (file plan : List ℕ) (keep : Option ℕ) (old new : List (List ℕ)) → new ≡ old ++ file ∷ [] →
    BegunAre (Opens told (with_plan file plan keep)) old new
program-opened told file plan keep old new begun = (file ∷ [], ([], inl refl, refl), begun)

-- that of the plan behind it
pub plan-opened : (told : Option Told) (file plan : List ℕ) (keep : Option ℕ) (t : Tree) (old mid new : List (List ℕ)) → Judged told file t →
    mid ≡ old ++ file ∷ [] → new ≡ mid ++ plan ∷ [] → BegunAre (Opens told (with_plan file plan keep)) old new
plan-opened told file plan keep t old mid new j before begun = (
  file ∷ plan ∷ [],
  (plan ∷ [], inr (alone j.source, t, [], j.has, j.program, inl refl, refl), refl),
  begun ∙ ap (λ names. names ++ plan ∷ []) before ∙ append_assoc old (file ∷ []) (plan ∷ []),
)

-- files that are opened behind others, by what they were before
opens-before : (told last : Option Told) (t : Tree) (p : PlanOf) (names : List (List ℕ)) → SameFiles told last → OpensFor last t p.cowns names →
    OpensFor told t p.cowns names
opens-before told last t p names same h =
    let images = h.1.0 in
    let come = h.1.1 in
    (h.0, (images, (come.0, files-before told last _ come.0 same come.1, come.2)), h.2)

-- and those of its images
pub images-opened : (told mid last : Option Told) (file plan : List ℕ) (keep : Option ℕ) (t : Tree) (p : PlanOf)
    (old first second new : List (List ℕ)) → SameFiles told mid → SameFiles told last →
    Judged told file t → PlanThere mid plan t p → has_kept keep p ≡ true →
    first ≡ old ++ file ∷ [] → second ≡ first ++ plan ∷ [] → BegunAre (OpensFor last t p.cowns) second new →
    BegunAre (Opens told (with_plan file plan keep)) old new
images-opened told mid last file plan keep t p old first second new behind after j there kept before then begun =
    let s : Sources = both j.source there.bytes [] in
    let names = begun.0 in
    let may : MayLoad keep s t p = ((j.program, there.within, there.read), kept) in
    let has = file-before told mid plan there.bytes behind there.has in
    let images : OpensImages told plan keep s t names = inr (has, (p, may, opens-before told last t p names after begun.1)) in (
      file ∷ plan ∷ names,
      (plan ∷ names, inr (s, t, names, j.has, j.program, images, refl), refl),
      begun.2 ∙ ap (λ xs. xs ++ names) then ∙ append_assoc first (plan ∷ []) names ∙ ap (λ xs. xs ++ plan ∷ names) before
          ∙ append_assoc old (file ∷ []) (plan ∷ names),
    )
