-- What files bring, by what was read of them.
use Rattle.std.proofs.Common.{◌≡◌, ◌<◌, ℕ, suc, ◌⊎◌, inl, inr, true, false, All, List, [], ◌∷◌, length, replicate, Option, Some, None}
use Rattle.std.proofs.Common.{Result, Ok, Err}
use Rattle.std.proofs.Common.{refl, sym, ◌∙◌, ap, subst, arith}
use Rattle.std.proofs.lemmas.List.{length-replicate}
use Rattle.std.proofs.lemmas.List.Elements.{All-from_recursion}
use Rattle.std.specs.Result.{result_err}
use Rattle.rg_base.specs.declared.limits.TheConstants.{SOURCE_BYTES}
use Rattle.rg_base.specs.declared.fault.Code.TheVariants.{Plan}
use Rattle.rg_base.specs.declared.fault.Fault.{Fault}
use Rattle.rg_io.specs.Files.{Told, SameFiles, HasFile, HasLongFile, FileMap, file_bytes}
use Rattle.rg_tree.specs.Tree.{Tree, Class}
use Rattle.rg_tree.specs.Rows.Tables.{Tables}
use Rattle.rg_tree.specs.Rows.RowTrees.{program_of}
use Rattle.rg_rules.specs.Acceptance.{Accepted, judge_program}
use Rattle.rg_rules.specs.Names.{FewNames, HasFewNames}
use Rattle.rg_make.specs.Generated as make
use Rattle.rg_cown.specs.Cargo.{CargoList}
use Rattle.rg_plan.specs.Plans.{PlanOf}
use Rattle.rg_loading.specs.Loading.{Failing, no_image, file_names}
use Rattle.rg_loading.specs.Loading.{too_long as image_too_long}
use Rattle.rg_loading.specs.Files.{HaveFiles, CownsCome, AreRead, status_of, IsUnread, source_fault, memory}
use Rattle.rg_words.specs.declared.limits.TheConstants.{MODULE_BYTES}
use Rattle.rg_words.specs.declared.status.Status.{Status}
use Rattle.rg_words.specs.declared.status.Status.TheVariants as status
use Rattle.rg_words.specs.Commands.{in_file, generated, in_module, with_plan}
use Rattle.rg_sources.specs.Sources.{Sources, faulty, spelt, Means, MeansModule, HasPlan, has_kept, MayLoad, HasSource, at_no_line}
use Rattle.rg_sources.specs.Brings.{Refuses, Found, Raised, Judged, RefusesProgram, PlanThere, RefusesPlan, PlannedThere}
use Rattle.rg_sources.proofs.Meaning.{program-one, plan-read, plan-ones, no-faults}

-- the bytes of one file
abbrev pub alone : List ℕ → Sources
alone bytes = record { file = bytes; plan = []; images = [] }

-- there are lists of any length
long-list : (n : ℕ) → (source : List ℕ) × (n < length source)
long-list n = (replicate (suc n) 0, omega (arith, length-replicate {A = ℕ} (suc n) 0))

-- a file that is too long has some bytes, and so many
pub long-file : (told : Option Told) (file : List ℕ) (most : ℕ) → HasLongFile told file most →
    (bytes : List ℕ) × HasFile told file bytes × (most < length bytes)
long-file None file most h = let l = long-list most in (l.0, tt, l.1)
long-file (Some t) file most h = h

-- a file that is too long is read as some source that is
pub long-refuses : (told : Option Told) (file : List ℕ) → HasLongFile told file SOURCE_BYTES → Refuses told (in_file file) status.Long
long-refuses None file h = let l = long-list SOURCE_BYTES in (alone l.0, tt, l.1)
long-refuses (Some t) file h = (alone h.0, h.1, h.2)

-- and a module that is too long is read as some module that is
pub long-module : (told : Option Told) (file : List ℕ) → HasLongFile told file MODULE_BYTES → Refuses told (in_module file) status.Long
long-module None file h = let l = long-list MODULE_BYTES in (alone l.0, tt, l.1)
long-module (Some t) file h = (alone h.0, h.1, h.2)

-- what a file brings, by what was read of it
pub file-faulty : (told : Option Told) (file bytes : List ℕ) (f : Fault) → HasFile told file bytes → Means bytes (faulty f) →
    Refuses told (in_file file) (status.Refused f)
file-faulty told file bytes f has means = (alone bytes, has, means)

pub file-found : (told : Option Told) (file bytes : List ℕ) (t : Tree) → HasFile told file bytes → Means bytes (spelt t) → FewNames t →
    Found told (in_file file) t
file-found told file bytes t has means few = record { source = alone bytes; has = has; means = means; few_names = few; accepted = tt }

pub module-faulty : (told : Option Told) (file bytes : List ℕ) (f : Fault) → HasFile told file bytes → MeansModule bytes (faulty f) →
    Refuses told (in_module file) (status.Refused f)
module-faulty told file bytes f has means = (alone bytes, has, means)

pub module-raised : (told : Option Told) (file bytes : List ℕ) (t : Tree) → HasFile told file bytes → MeansModule bytes (spelt t) → Accepted t →
    Raised told file t
module-raised told file bytes t has means accepted =
    record { source = alone bytes; has = has; runs = record { means = means; accepted = accepted } }

-- the generated programs have few names
few-generated : (seed size : ℕ) → FewNames (make.generated seed size)
few-generated seed size = record {
  methods = All-from_recursion (λ (c : Class). All HasFewNames c.members) (make.node_class ∷ make.list_class ∷ []) (
    All-from_recursion HasFewNames make.node_class.members (tt, (tt, tt)),
    (All-from_recursion HasFewNames make.list_class.members (tt, (omega arith, (omega arith, (omega arith, tt)))), tt),
  );
  main = omega arith;
}

-- a generated program is found
pub generated-found : (told : Option Told) (size : ℕ) (t : Tree) → t ≡ make.generated 1 size → Accepted t → Found told (generated size) t
generated-found told size t is accepted = record {
  source = record { file = []; plan = []; images = [] };
  has = refl;
  means = ap spelt is;
  few_names = subst FewNames (sym is) (few-generated 1 size);
  accepted = accepted;
}

-- a file that is read behind another one has the bytes that it had before
pub file-before : (old mid : Option Told) (name bytes : List ℕ) → SameFiles old mid → HasFile mid name bytes → HasFile old name bytes
file-before None mid name bytes same h = tt
file-before (Some t) None name bytes same h = absurd same
file-before (Some t) (Some u) name bytes same h =
    let P : FileMap → Type 0 = λ m. file_bytes m name ≡ Some bytes in subst P same h

-- what stays where one file is read, and then another one
pub same-after : (old mid new : Option Told) → SameFiles old mid → SameFiles mid new → SameFiles old new
same-after None mid new same then = let P : Option Told → Type 0 = λ x. SameFiles x new in subst P same then
same-after (Some a) None new same then = absurd same
same-after (Some a) (Some b) None same then = absurd then
same-after (Some a) (Some b) (Some c) same then = then ∙ same

-- so have files
pub files-before : (old mid : Option Told) (names files : List (List ℕ)) → SameFiles old mid → HaveFiles mid names files → HaveFiles old names files
files-before old mid names [] same h = tt
files-before old mid [] (bytes ∷ files) same h = absurd h
files-before old mid (name ∷ names) (bytes ∷ files) same h = (file-before old mid name bytes same h.0, files-before old mid names files same h.1)

-- where there is no program, no plan counts
pub program-refuses : (told : Option Told) (file plan : List ℕ) (keep : Option ℕ) (s : Status) → RefusesProgram told file s →
    Refuses told (with_plan file plan keep) s
program-refuses told file plan keep status.Done h = absurd h
program-refuses told file plan keep (status.Refused f) h =
    (alone h.0, (h.1, λ t k. absurd (no-faults h.0 f t h.2 k), λ t p k. absurd (no-faults h.0 f t h.2 k.0.0)), inl h.2)
program-refuses told file plan keep status.Usage h = absurd h
program-refuses told file plan keep (status.Trap kind line) h = absurd h
program-refuses told file plan keep status.Spent h = absurd h
program-refuses told file plan keep (status.Away n) h = absurd h
program-refuses told file plan keep status.SourceFault h = tt
program-refuses told file plan keep status.InputFault h = absurd h
program-refuses told file plan keep status.OutputFault h = absurd h
program-refuses told file plan keep status.Memory h = tt
program-refuses told file plan keep status.Long h =
    (alone h.0, (h.1, λ t k. absurd (omega (arith, h.2, k.0.0)), λ t p k. absurd (omega (arith, h.2, k.0.0.0.0))), inl h.2)

-- the bytes of a program and its plan, with those of images
abbrev pub both : (source plan : List ℕ) → (images : List (List ℕ)) → Sources
both source plan images = record { file = source; plan = plan; images = images }

-- a plan with a fault, or without the cown that is kept, has no images
bad-plan : (keep : Option ℕ) (s : Sources) (t u : Tree) (p : PlanOf) (n : ℕ) → HasPlan s t (Err n) → MayLoad keep s u p → ⊥
bad-plan keep s t u p n h k = let other : Err n ≡ Ok p = plan-read s t u _ _ h k.0 in cc

unkept-plan : (keep : Option ℕ) (s : Sources) (t u : Tree) (p q : PlanOf) → HasPlan s t (Ok p) → has_kept keep p ≡ false → MayLoad keep s u q → ⊥
unkept-plan keep s t u p q h without k =
    let P : PlanOf → Type 0 = λ x. has_kept keep x ≡ false in
    let kept : false ≡ true = sym (subst P (plan-ones s t u p q h k.0) without) ∙ k.1 in
    cc

-- a program whose plan has a fault
plan-refuses : (told mid : Option Told) (file plan : List ℕ) (keep : Option ℕ) (t : Tree) (s : Status) → SameFiles told mid → Judged told file t →
    RefusesPlan mid plan t s → Refuses told (with_plan file plan keep) s
plan-refuses told mid file plan keep t status.Done same j h = absurd h
plan-refuses told mid file plan keep t (status.Refused f) same j h =
    let has : HasPlan (both j.source h.0 []) t (Err f.line) = (j.program, h.2, h.3) in (
      both j.source h.0 [],
      (j.has, λ u k. file-before told mid plan h.0 same h.1, λ u p k. absurd (bad-plan keep (both j.source h.0 []) t u p f.line has k)),
      inr (inl (inl (t, has, h.4))),
    )
plan-refuses told mid file plan keep t status.Usage same j h = absurd h
plan-refuses told mid file plan keep t (status.Trap kind line) same j h = absurd h
plan-refuses told mid file plan keep t status.Spent same j h = absurd h
plan-refuses told mid file plan keep t (status.Away n) same j h = absurd h
plan-refuses told mid file plan keep t status.SourceFault same j h = tt
plan-refuses told mid file plan keep t status.InputFault same j h = absurd h
plan-refuses told mid file plan keep t status.OutputFault same j h = absurd h
plan-refuses told mid file plan keep t status.Memory same j h = tt
plan-refuses told mid file plan keep t status.Long same j h = (
  both j.source h.0 [],
  (j.has, λ u k. file-before told mid plan h.0 same h.1, λ u p k. absurd (omega (arith, h.2, k.0.1))),
  inr (inl (t, j.program, h.2)),
)

-- and one whose plan hasn't the cown that is kept
unkept-refuses : (told mid : Option Told) (file plan : List ℕ) (keep : Option ℕ) (t : Tree) (p : PlanOf) → SameFiles told mid → Judged told file t →
    PlanThere mid plan t p → has_kept keep p ≡ false → Refuses told (with_plan file plan keep) (status.Refused (at_no_line Plan))
unkept-refuses told mid file plan keep t p same j there without =
    let has : HasPlan (both j.source there.bytes []) t (Ok p) = (j.program, there.within, there.read) in (
      both j.source there.bytes [],
      (
        j.has,
        λ u k. file-before told mid plan there.bytes same there.has,
        λ u q k. absurd (unkept-plan keep (both j.source there.bytes []) t u p q has without k),
      ),
      inr (inl (inr (t, p, has, without, refl))),
    )

pub keeping-refuses : (told mid : Option Told) (file plan : List ℕ) (keep : Option ℕ) (t : Tree) (s : Status) → SameFiles told mid →
    Judged told file t → RefusesPlan mid plan t s ⊎ ((p : PlanOf) × PlanThere mid plan t p × (has_kept keep p ≡ false)
    × (s ≡ status.Refused (at_no_line Plan))) → Refuses told (with_plan file plan keep) s
keeping-refuses told mid file plan keep t s same j (inl h) = plan-refuses told mid file plan keep t s same j h
keeping-refuses told mid file plan keep t s same j (inr h) =
    let P : Status → Type 0 = Refuses told (with_plan file plan keep) in
    subst P (sym h.3) (unkept-refuses told mid file plan keep t h.0 same j h.1 h.2)

-- the files of a program, of its plan, which may load, and of its images, as far as they are read
module _ (told mid last : Option Told) (file plan : List ℕ) (keep : Option ℕ) (t : Tree) (p : PlanOf) (behind : SameFiles told mid)
    (after : SameFiles told last) (j : Judged told file t) (there : PlanThere mid plan t p) (kept : has_kept keep p ≡ true) where
  abbrev all : (images : List (List ℕ)) → Sources
  all images = both j.source there.bytes images

  may-load : (images : List (List ℕ)) → MayLoad keep (all images) t p
  may-load images = ((j.program, there.within, there.read), kept)

  has-all : (r : Result (List CargoList) Failing) (h : CownsCome last t p.cowns r) → HasSource told (with_plan file plan keep) (all h.0)
  has-all r h =
      let files = files-before told last (file_names p.cowns) h.0 after h.1 in
      let read : AreRead told t p.cowns h.0 = (files, (r, h.2)) in
      let one : (u : Tree) (q : PlanOf) → MayLoad keep (all h.0) u q → AreRead told u q.cowns h.0 = λ u q k.
      let P : Tree → Type 0 = λ x. AreRead told x p.cowns h.0 in
      let Q : PlanOf → Type 0 = λ x. AreRead told u x.cowns h.0 in
      subst Q (plan-ones (all h.0) t u p q (may-load h.0).0 k.0) (subst P (program-one j.source t u j.program k.0.0) read) in
      (j.has, λ u k. file-before told mid plan there.bytes behind there.has, one)

  image-refuses : (why : Failing) → CownsCome last t p.cowns (Err why) → Refuses told (with_plan file plan keep) (status_of why)
  image-refuses image_too_long h = (all h.0, has-all (Err image_too_long) h, inr (inr (t, p, (may-load h.0, h.2))))
  image-refuses (no_image line) h = (all h.0, has-all (Err (no_image line)) h, inr (inr (t, p, (may-load h.0, h.2), refl)))

  unread-refuses : (s : Status) → IsUnread s → Refuses told (with_plan file plan keep) s
  unread-refuses s source_fault = tt
  unread-refuses s memory = tt

  pub images-refuse : (s : Status) → ((why : Failing) × CownsCome last t p.cowns (Err why) × (s ≡ status_of why)) ⊎ IsUnread s →
      Refuses told (with_plan file plan keep) s
  images-refuse s (inl h) =
      let P : Status → Type 0 = Refuses told (with_plan file plan keep) in subst P (sym h.2) (image-refuses h.0 h.1)
  images-refuse s (inr h) = unread-refuses s h

  pub planned-there : (images : List CargoList) → CownsCome last t p.cowns (Ok images) → PlannedThere told file plan keep t p images
  planned-there images h = record { source = all h.0; has = has-all (Ok images) h; means = (may-load h.0, h.2) }

-- the status of a file without a program
pub from-file : (told : Option Told) (file : List ℕ) (s : Status) → Refuses told (in_file file) s → RefusesProgram told file s
from-file told file status.Done h = h
from-file told file (status.Refused f) h = (h.0.file, h.1, inl h.2)
from-file told file status.Usage h = h
from-file told file (status.Trap kind line) h = h
from-file told file status.Spent h = h
from-file told file (status.Away n) h = h
from-file told file status.SourceFault h = h
from-file told file status.InputFault h = h
from-file told file status.OutputFault h = h
from-file told file status.Memory h = h
from-file told file status.Long h = (h.0.file, h.1, h.2)

-- a program that the checker has passed, and one that it hasn't
pub judged-there : (told : Option Told) (file : List ℕ) (t u : Tables) → u ≡ t → Found told (in_file file) (program_of t) →
    judge_program (program_of t) ≡ Ok tt → Judged told file (program_of u)
judged-there told file t u same found judged =
    let P : Tables → Type 0 = λ q. Judged told file (program_of q) in
    subst P (sym same) (record { source = found.source.file; has = found.has; program = (found.means, ap result_err judged) })

pub judged-refused : (told : Option Told) (file : List ℕ) (t : Tree) (f : Fault) → Found told (in_file file) t → judge_program t ≡ Err f →
    RefusesProgram told file (status.Refused f)
judged-refused told file t f found judged = (found.source.file, found.has, inr (t, found.means, ap result_err judged))
