-- The bytes of a command's files mean one thing.
use Rattle.std.proofs.Common.{◌≡◌, ℕ, ◌<◌, ◌⊎◌, inl, inr, true, false, List, length, Option, Some, None, Result, Ok, Err, IfOk}
use Rattle.std.proofs.Common.{refl, sym, ◌∙◌, ap, subst, arith}
use Rattle.rg_base.specs.declared.limits.TheConstants.{SOURCE_BYTES}
use Rattle.rg_base.specs.declared.fault.Code.{Code}
use Rattle.rg_base.specs.declared.fault.Code.TheVariants.{Plan, Image}
use Rattle.rg_base.specs.declared.fault.Fault.{Fault}
use Rattle.rg_base.specs.declared.fault.Stop.{Stop}
use Rattle.rg_base.specs.declared.token.Token.{Token}
use Rattle.rg_base.specs.Tokens.{cut, end_line}
use Rattle.rg_tree.specs.Tree.{Tree}
use Rattle.rg_tree.specs.Rows.Tables.{Tables}
use Rattle.rg_tree.specs.Rows.RowTrees.{program_of}
use Rattle.rg_tree.specs.Grammar.{Spells}
use Rattle.rg_tree.specs.Stuck.{Stuck, fault_at}
use Rattle.rg_tree.proofs.Unique.{one-tree}
use Rattle.rg_tree.proofs.Stopping.{spelt-not_stuck, Stops-unique}
use Rattle.rg_rules.specs.Names.{FewNames}
use Rattle.rg_rules.specs.Acceptance.{first_fault}
use Rattle.rg_check.specs.Laws.{SpeltHasFewNames}
use Rattle.rg_module.specs.Parts.{Parts}
use Rattle.rg_module.specs.Laws.{SpellsOneModule}
use Rattle.rg_raised.specs.Raises.{Raises}
use Rattle.rg_cown.specs.Cargo.{CargoList}
use Rattle.rg_plan.specs.Plans.{PlanOf, Read}
use Rattle.rg_plan.specs.Rules.{plan_of}
use Rattle.rg_loading.specs.Loading.{Failing, no_image, LoadsCome}
use Rattle.rg_loading.specs.Loading.{too_long as image_too_long}
use Rattle.rg_loading.specs.Laws.{LoadsComeToOne}
use Rattle.rg_sources.specs.Sources.{Sources, Meaning, too_long, faulty, spelt, planned, IsStuck, SpellsTree, Means, HasModule, IsNoProgram}
use Rattle.rg_sources.specs.Sources.{HasProgram, HasPlan, has_kept, MayLoad, Loads, IsNoSource, IsNoPlan, IsNoImage, MeansPlan}

-- a program that spells the source's tokens has few names
pub few-names : (source : List ℕ) (ts : List Token) (r : Result Tables Stop) → SpeltHasFewNames
    → IfOk r (λ p. Spells source (program_of p) ts) → IfOk r (λ p. FewNames (program_of p))
few-names source ts (Ok p) law h = law source (program_of p) ts h
few-names source ts (Err e) law h = tt

-- the first fault of a source is one
fault-one : (source : List ℕ) (e f : Fault) → (cut source ≡ Err e) ⊎ IsStuck source e → (cut source ≡ Err f) ⊎ IsStuck source f → e ≡ f
fault-one source e f (inl h) (inl g) = cc
fault-one source e f (inl h) (inr g) = cc
fault-one source e f (inr h) (inl g) = cc
fault-one source e f (inr h) (inr g) =
    let tokens : h.0 ≡ g.0 = cc in
    let P : List Token → Type 0 = λ ts. Stuck ts e.code h.1 in
    let same = Stops-unique (subst P tokens h.3) g.3 in
    h.4 ∙ ap (λ c. fault_at c (end_line source) h.1) same.0 ∙ ap (λ at. fault_at f.code (end_line source) at) same.1 ∙ sym g.4

-- a source with a fault spells no tree
fault-no_tree : (source : List ℕ) (f : Fault) (t : Tree) → (cut source ≡ Err f) ⊎ IsStuck source f → SpellsTree source t → ⊥
fault-no_tree source f t (inl h) g = cc
fault-no_tree source f t (inr h) g =
    let tokens : h.0 ≡ g.0 = cc in
    let P : List Token → Type 0 = λ ts. Stuck ts f.code h.1 in
    spelt-not_stuck source t g.0 h.1 f.code g.2 (subst P tokens h.3)

-- a source spells one tree
tree-one : (source : List ℕ) (t u : Tree) → SpellsTree source t → SpellsTree source u → t ≡ u
tree-one source t u h g =
    let tokens : h.0 ≡ g.0 = cc in
    let P : List Token → Type 0 = λ ts. Spells source t ts in
    one-tree source t u g.0 (subst P tokens h.2) g.2

-- a source means one thing
pub means-one : (source : List ℕ) (m k : Meaning) → Means source m → Means source k → m ≡ k
means-one source too_long too_long h g = refl
means-one source too_long (faulty f) h g = absurd (omega arith)
means-one source too_long (spelt u) h g = absurd (omega arith)
means-one source (faulty e) too_long h g = absurd (omega arith)
means-one source (faulty e) (faulty f) h g = ap faulty (fault-one source e f h.1 g.1)
means-one source (faulty e) (spelt u) h g = absurd (fault-no_tree source e u h.1 g.1)
means-one source (spelt t) too_long h g = absurd (omega arith)
means-one source (spelt t) (faulty f) h g = absurd (fault-no_tree source f t g.1 h.1)
means-one source (spelt t) (spelt u) h g = ap spelt (tree-one source t u h.1 g.1)
means-one source (planned t p images) k h g = absurd h
means-one source too_long (planned t p images) h g = absurd g
means-one source (faulty f) (planned t p images) h g = absurd g
means-one source (spelt u) (planned t p images) h g = absurd g

-- a module without a program has one fault
pub no-program-one : SpellsOneModule → (bytes : List ℕ) (e f : Fault) → IsNoProgram bytes e → IsNoProgram bytes f → e ≡ f
no-program-one one bytes e f (inl h) (inl k) = h.0 ∙ sym k.0
no-program-one one bytes e f (inl h) (inr k) = absurd (h.1 k.1 k.2)
no-program-one one bytes e f (inr h) (inl k) = absurd (k.1 h.1 h.2)
no-program-one one bytes e f (inr h) (inr k) = h.0 ∙ sym k.0

-- and none raises it
pub no-program : SpellsOneModule → (bytes : List ℕ) (f : Fault) (m : Parts) (t : Tree) → IsNoProgram bytes f → HasModule bytes m → Raises m t → ⊥
no-program one bytes f m t (inl h) has raises = h.1 m has
no-program one bytes f m t (inr h) has raises =
    let P : Parts → Type 0 = λ q. Raises q t in h.3 t (subst P (one bytes m h.1 has h.2) raises)

-- a source has one program, and one plan, of which the files of images are read
pub program-one : (s : List ℕ) (t u : Tree) → HasProgram s t → HasProgram s u → t ≡ u
program-one s t u h k = tree-one s t u h.0.1 k.0.1

pub plan-read : (s : Sources) (t u : Tree) (a b : Read PlanOf) → HasPlan s t a → HasPlan s u b → a ≡ b
plan-read s t u a b h k =
    let P : Tree → Type 0 = λ x. plan_of x s.plan ≡ a in
    sym (subst P (program-one s.file t u h.0 k.0) h.2) ∙ k.2

pub plan-ones : (s : Sources) (t u : Tree) (p q : PlanOf) → HasPlan s t (Ok p) → HasPlan s u (Ok q) → p ≡ q
plan-ones s t u p q h k = let same : Ok p ≡ Ok q = plan-read s t u _ _ h k in cc

loads-one : LoadsComeToOne → (keep : Option ℕ) (s : Sources) (t u : Tree) (p q : PlanOf) (r x : Result (List CargoList) Failing) →
    Loads keep s t p r → Loads keep s u q x → r ≡ x
loads-one law keep s t u p q r x h k =
    let P : Tree → Type 0 = λ z. LoadsCome z p.cowns s.images r in
    let Q : PlanOf → Type 0 = λ z. LoadsCome u z.cowns s.images r in
    law u q.cowns s.images r x (subst Q (plan-ones s t u p q h.0.0 k.0.0) (subst P (program-one s.file t u h.0.0.0 k.0.0.0) h.1)) k.1

-- a source with a program has no fault
pub no-faults : (s : List ℕ) (f : Fault) (t : Tree) → Means s (faulty f) ⊎ ((u : Tree) × Means s (spelt u) × (first_fault u ≡ Some f)) →
    HasProgram s t → ⊥
no-faults s f t (inl h) k = fault-no_tree s f t h.1 k.0.1
no-faults s f t (inr h) k =
    let P : Tree → Type 0 = λ x. first_fault x ≡ Some f in
    let both : Some f ≡ None = sym (subst P (tree-one s h.0 t h.1.1 k.0.1) h.2) ∙ k.1 in
    cc

-- one of which images are read has no fault of its plan, and has the cown that is kept
no-plan-loads : (keep : Option ℕ) (s : Sources) (f : Fault) (t : Tree) (p : PlanOf) → IsNoPlan keep s f → MayLoad keep s t p → ⊥
no-plan-loads keep s f t p (inl h) k = let both : Err f.line ≡ Ok p = plan-read s h.0 t _ _ h.1 k.0 in cc
no-plan-loads keep s f t p (inr h) k =
    let P : PlanOf → Type 0 = λ x. has_kept keep x ≡ false in
    let kept : false ≡ true = sym (subst P (plan-ones s h.0 t h.1 p h.2 k.0) h.3) ∙ k.1 in
    cc

-- the program of one with a fault of its plan, or with one of an image
plan-program : (keep : Option ℕ) (s : Sources) (f : Fault) → IsNoPlan keep s f → (t : Tree) × (r : Read PlanOf) × HasPlan s t r
plan-program keep s f (inl h) = (h.0, Err f.line, h.1)
plan-program keep s f (inr h) = (h.0, Ok h.1, h.2)

-- what has a plan is not too long but for an image, nor has it a fault of its source
plan-short : (s : Sources) (t : Tree) (a : Read PlanOf) →
    Means s.file too_long ⊎ ((u : Tree) × HasProgram s.file u × (SOURCE_BYTES < length s.plan)) → HasPlan s t a → ⊥
plan-short s t a (inl h) k = absurd (omega (arith, h, k.0.0.0))
plan-short s t a (inr h) k = absurd (omega (arith, h.2, k.1))

plan-good : (keep : Option ℕ) (s : Sources) (f : Fault) (t : Tree) (p : PlanOf) (x : Result (List CargoList) Failing) → MeansPlan keep s (faulty f) →
    Loads keep s t p x → (IsNoImage keep s f → ⊥) → ⊥
plan-good keep s f t p x (inl h) k none = no-faults s.file f t h k.0.0.0
plan-good keep s f t p x (inr (inl h)) k none = no-plan-loads keep s f t p h k.0
plan-good keep s f t p x (inr (inr h)) k none = none h

-- what is too long has no fault
long-source : (s : Sources) (f : Fault) → Means s.file too_long → IsNoSource s f → ⊥
long-source s f h (inl g) = absurd (omega (arith, h, g.0))
long-source s f h (inr g) = absurd (omega (arith, h, g.1.0))

long-image : LoadsComeToOne → (keep : Option ℕ) (s : Sources) (f : Fault) (t : Tree) (p : PlanOf) → Loads keep s t p (Err image_too_long) →
    IsNoImage keep s f → ⊥
long-image law keep s f t p h g =
    let both : ◌≡◌ {A = Result (List CargoList) Failing} (Err image_too_long) (Err (no_image f.line)) =
    loads-one law keep s t g.0 p g.1 _ _ h g.2 in
    cc

plan-long : LoadsComeToOne → (keep : Option ℕ) (s : Sources) (f : Fault) → MeansPlan keep s too_long → MeansPlan keep s (faulty f) → ⊥
plan-long law keep s f (inl h) (inl g) = long-source s f h g
plan-long law keep s f (inl h) (inr (inl g)) = let p = plan-program keep s f g in plan-short s p.0 p.1 (inl h) p.2
plan-long law keep s f (inl h) (inr (inr g)) = plan-short s g.0 (Ok g.1) (inl h) g.2.0.0
plan-long law keep s f (inr (inl h)) (inl g) = no-faults s.file f h.0 g h.1
plan-long law keep s f (inr (inl h)) (inr (inl g)) = let p = plan-program keep s f g in plan-short s p.0 p.1 (inr h) p.2
plan-long law keep s f (inr (inl h)) (inr (inr g)) = plan-short s g.0 (Ok g.1) (inr h) g.2.0.0
plan-long law keep s f (inr (inr h)) g = plan-good keep s f h.0 h.1 _ g h.2 (long-image law keep s f h.0 h.1 h.2)

-- a plan has one fault
fault-of : (f : Fault) (c : Code) (n : ℕ) → f.line ≡ n → f.code ≡ c → f ≡ record { code = c; line = n }
fault-of f c n line code = rw (sym line, sym code) refl

one-line : (e f : Fault) (c : Code) → e.line ≡ f.line → e.code ≡ c → f.code ≡ c → e ≡ f
one-line e f c line h k = fault-of e c f.line line h ∙ sym (fault-of f c f.line refl k)

no-source-one : (s : Sources) (e f : Fault) → IsNoSource s e → IsNoSource s f → e ≡ f
no-source-one s e f (inl h) (inl k) = fault-one s.file e f h.1 k.1
no-source-one s e f (inl h) (inr k) = absurd (fault-no_tree s.file e k.0 h.1 k.1.1)
no-source-one s e f (inr h) (inl k) = absurd (fault-no_tree s.file f h.0 k.1 h.1.1)
no-source-one s e f (inr h) (inr k) =
    let P : Tree → Type 0 = λ x. first_fault x ≡ Some e in
    let both : Some e ≡ Some f = sym (subst P (tree-one s.file h.0 k.0 h.1.1 k.1.1) h.2) ∙ k.2 in
    cc

no-plan-one : (keep : Option ℕ) (s : Sources) (e f : Fault) → IsNoPlan keep s e → IsNoPlan keep s f → e ≡ f
no-plan-one keep s e f (inl h) (inl k) =
    let lines : Err e.line ≡ Err f.line = plan-read s h.0 k.0 _ _ h.1 k.1 in
    let line : e.line ≡ f.line = cc in
    one-line e f Plan line h.2 k.2
no-plan-one keep s e f (inl h) (inr k) = let both : Err e.line ≡ Ok k.1 = plan-read s h.0 k.0 _ _ h.1 k.2 in cc
no-plan-one keep s e f (inr h) (inl k) = let both : Err f.line ≡ Ok h.1 = plan-read s k.0 h.0 _ _ k.1 h.2 in cc
no-plan-one keep s e f (inr h) (inr k) = h.4 ∙ sym k.4

no-image-one : LoadsComeToOne → (keep : Option ℕ) (s : Sources) (e f : Fault) → IsNoImage keep s e → IsNoImage keep s f → e ≡ f
no-image-one law keep s e f h k =
    let lines : ◌≡◌ {A = Result (List CargoList) Failing} (Err (no_image e.line)) (Err (no_image f.line)) =
    loads-one law keep s h.0 k.0 h.1 k.1 _ _ h.2 k.2 in
    let line : e.line ≡ f.line = cc in
    one-line e f Image line h.3 k.3

plan-fault-one : LoadsComeToOne → (keep : Option ℕ) (s : Sources) (e f : Fault) → MeansPlan keep s (faulty e) → MeansPlan keep s (faulty f) → e ≡ f
plan-fault-one law keep s e f (inl h) (inl k) = no-source-one s e f h k
plan-fault-one law keep s e f (inl h) (inr (inl k)) = let p = plan-program keep s f k in absurd (no-faults s.file e p.0 h p.2.0)
plan-fault-one law keep s e f (inl h) (inr (inr k)) = absurd (no-faults s.file e k.0 h k.2.0.0.0)
plan-fault-one law keep s e f (inr (inl h)) (inl k) = let p = plan-program keep s e h in absurd (no-faults s.file f p.0 k p.2.0)
plan-fault-one law keep s e f (inr (inr h)) (inl k) = absurd (no-faults s.file f h.0 k h.2.0.0.0)
plan-fault-one law keep s e f (inr (inl h)) (inr (inl k)) = no-plan-one keep s e f h k
plan-fault-one law keep s e f (inr (inl h)) (inr (inr k)) = absurd (no-plan-loads keep s e k.0 k.1 h k.2.0)
plan-fault-one law keep s e f (inr (inr h)) (inr (inl k)) = absurd (no-plan-loads keep s f h.0 h.1 k h.2.0)
plan-fault-one law keep s e f (inr (inr h)) (inr (inr k)) = no-image-one law keep s e f h k

-- what has contents is neither too long nor has it a fault
long-loads : LoadsComeToOne → (keep : Option ℕ) (s : Sources) (t : Tree) (p : PlanOf) (images : List CargoList) → MeansPlan keep s too_long →
    Loads keep s t p (Ok images) → ⊥
long-loads law keep s t p images (inl h) k = plan-short s t (Ok p) (inl h) k.0.0
long-loads law keep s t p images (inr (inl h)) k = plan-short s t (Ok p) (inr h) k.0.0
long-loads law keep s t p images (inr (inr h)) k =
    let both : Err image_too_long ≡ Ok images = loads-one law keep s h.0 t h.1 p _ _ h.2 k in cc

image-loads : LoadsComeToOne → (keep : Option ℕ) (s : Sources) (f : Fault) (t : Tree) (p : PlanOf) (images : List CargoList) →
    Loads keep s t p (Ok images) → IsNoImage keep s f → ⊥
image-loads law keep s f t p images k h =
    let both : Err (no_image f.line) ≡ Ok images = loads-one law keep s h.0 t h.1 p _ _ h.2 k in cc

fault-loads : LoadsComeToOne → (keep : Option ℕ) (s : Sources) (f : Fault) (t : Tree) (p : PlanOf) (images : List CargoList) →
    MeansPlan keep s (faulty f) → Loads keep s t p (Ok images) → ⊥
fault-loads law keep s f t p images h k = plan-good keep s f t p _ h k (image-loads law keep s f t p images k)

-- a source with a plan and with its images means one thing
pub plan-one : LoadsComeToOne → (keep : Option ℕ) (s : Sources) (m k : Meaning) → MeansPlan keep s m → MeansPlan keep s k → m ≡ k
plan-one law keep s too_long too_long h g = refl
plan-one law keep s too_long (faulty f) h g = absurd (plan-long law keep s f h g)
plan-one law keep s too_long (spelt u) h g = absurd g
plan-one law keep s too_long (planned u q images) h g = absurd (long-loads law keep s u q images h g)
plan-one law keep s (faulty e) too_long h g = absurd (plan-long law keep s e g h)
plan-one law keep s (faulty e) (faulty f) h g = ap faulty (plan-fault-one law keep s e f h g)
plan-one law keep s (faulty e) (spelt u) h g = absurd g
plan-one law keep s (faulty e) (planned u q images) h g = absurd (fault-loads law keep s e u q images h g)
plan-one law keep s (spelt t) k h g = absurd h
plan-one law keep s (planned t p images) too_long h g = absurd (long-loads law keep s t p images g h)
plan-one law keep s (planned t p images) (faulty f) h g = absurd (fault-loads law keep s f t p images g h)
plan-one law keep s (planned t p images) (spelt u) h g = absurd g
plan-one law keep s (planned t p images) (planned u q others) h g =
    let same : Ok images ≡ Ok others = loads-one law keep s t u p q _ _ h g in
    let one : images ≡ others = cc in
    let trees = program-one s.file t u h.0.0.0 g.0.0.0 in
    ap (λ x. planned x p images) trees ∙ ap (λ x. planned u x images) (plan-ones s t u p q h.0.0 g.0.0) ∙ ap (planned u q) one
