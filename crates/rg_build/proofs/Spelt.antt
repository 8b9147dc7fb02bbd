-- The module of a program is one that some bytes spell.
use Rattle.std.proofs.Common.{◌≡◌, refl, sym, ap, ◌∙◌, subst, inl, inr, ℕ, suc, ◌-◌, ◌<◌, ◌^◌, Bool, false, true, List, [], ◌∷◌}
use Rattle.std.proofs.Common.{length, drop, get_or, zip, replicate, All, Some, arith}
use Rattle.std.proofs.lemmas.Bool.{cases_order}
use Rattle.std.proofs.lemmas.List.{get_or-replicate, get_or_past, length-replicate, length-map}
use Rattle.std.proofs.lemmas.List.Elements.{All-from_recursion, All-head, All-tail}
use Rattle.std.specs.List.{AllByRecursion}
use Rattle.rg_base.specs.declared.ty.Ty.{Ty}
use Rattle.rg_base.specs.declared.words.Manager.{Manager}
use Rattle.rg_tree.specs.Tree.{Tree}
use Rattle.rg_tree.specs.Rows.Tables.{Tables}
use Rattle.rg_tree.specs.Rows.RowTrees.{classes_of, program_of}
use Rattle.rg_rules.specs.Acceptance.{Accepted}
use Rattle.rg_rules.specs.Names.{FewNames}
use Rattle.rg_code.specs.declared.op.Op.{Op}
use Rattle.rg_code.specs.Code.{Code}
use Rattle.rg_code.specs.Lowering.{lowered}
use Rattle.rg_code.specs.Places.{is_mark}
use Rattle.rg_spell.specs.Spelling.{FitsOp, FitsMap, FitsRow, FitsShape}
use Rattle.rg_module.specs.Parts.{Parts, filled_up, with_code}
use Rattle.rg_module.specs.Follows.{body}
use Rattle.rg_module.specs.Spelling.{IsSpelt}
use Rattle.rg_module.proofs.Counts.{entries-length}
use Rattle.rg_build.specs.Maps.{maps_of}
use Rattle.rg_build.specs.ModuleOf.{map_here, maps_behind, laid, shapes_of, heads_of, module_of}
use Rattle.rg_build.specs.declared.laying.Laying.{Laying}
use Rattle.rg_build.specs.Inner.Laid.{IsOpen, Lays}
use Rattle.rg_build.specs.Inner.Near.{IsNear}
use Rattle.rg_build.proofs.Follows.{code-follows}
use Rattle.rg_build.proofs.LayingSteps.{lays-done}
use Rattle.rg_build.proofs.Near.{code-near}
use Rattle.rg_build.proofs.Short.{Short, maps-short, heads-fit}

-- At the start no map is set

abbrev the_none : List Ty
the_none = []

none-set : (n i : ℕ) → get_or (replicate n the_none) i [] ≡ []
none-set n i = elim (cases_order i n) [
  | inl same ↦ get_or_past (replicate n the_none) i [] (omega (arith, same, length-replicate n the_none))
  | inr apart ↦ elim apart [
    | inl lt ↦ get_or-replicate n i the_none [] lt
    | inr gt ↦ get_or_past (replicate n the_none) i [] (omega (arith, gt, length-replicate n the_none))
  ]
]

pub open-start : (l : Laying) → l.at ≡ 0 → l.module.maps ≡ filled_up (length l.module.code.ops) [] → IsOpen l
open-start l z e =
    let n = length l.module.code.ops in
    let none : (i : ℕ) → get_or l.module.maps i [] ≡ [] = λ i. ap (λ (ms : List (List Ty)). get_or ms i []) e ∙ none-set (n - 0) i in
    record {
      within = omega (arith, z);
      even = ap length e ∙ length-replicate (n - 0) the_none ∙ omega arith;
      free = λ i le. none i;
    }

-- Its rows

laid-length : (ops : List Op) (maps : List (List Ty)) → length (laid ops maps) ≡ length ops
laid-length [] maps = refl
laid-length (o ∷ os) maps = ap suc (laid-length os (maps_behind (is_mark (Some o)) maps))

pub zip-length : (ops : List Op) (maps : List (List Ty)) → length (zip ops (laid ops maps)) ≡ length ops
zip-length [] maps = refl
zip-length (o ∷ os) maps = ap suc (zip-length os (maps_behind (is_mark (Some o)) maps))

here-fits : (mark : Bool) (maps : List (List Ty)) → Short maps → FitsMap mark (map_here mark maps)
here-fits false maps h = refl
here-fits true [] h = (omega arith, tt)
here-fits true (m ∷ ms) h = h.0

behind-short : (mark : Bool) (maps : List (List Ty)) → Short maps → Short (maps_behind mark maps)
behind-short false maps h = h
behind-short true [] h = tt
behind-short true (m ∷ ms) h = h.1

rows-fit : (ops : List Op) (maps : List (List Ty)) → All FitsOp ops → Short maps → AllByRecursion FitsRow (zip ops (laid ops maps))
rows-fit [] maps h short = tt
rows-fit (o ∷ os) maps h short =
    let mark = is_mark (Some o) in (
      (All-head FitsOp o os h, here-fits mark maps short),
      rows-fit os (maps_behind mark maps) (All-tail FitsOp o os h) (behind-short mark maps short),
    )

-- a method has a head
pub heads-length : (t : Tree) → Accepted t → length (heads_of t.classes) ≡ length (lowered t).entries
heads-length t a =
    let ops = (lowered t).ops in
    sym (ap (λ (c : Code). length c.entries) (code-follows t a)
    ∙ entries-length (length (body ops)) (heads_of t.classes) (drop (length (body ops)) ops))

-- as many classes, methods and instructions as have a count, each of which has a spelling by itself
pub record IsBounded (t : Tree) : Type 0 where
  pub names : FewNames t
  pub classes : length t.classes < 2 ^ 32
  pub methods : length (lowered t).entries < 2 ^ 32
  pub ops : length (lowered t).ops < 2 ^ 32
  pub shapes : AllByRecursion FitsShape (shapes_of t.classes)
  pub fits : All FitsOp (lowered t).ops

pub module-spelt : (t : Tree) (m : Parts) → m ≡ module_of t → Accepted t → IsBounded t → IsSpelt m
module-spelt t m e a b =
    let all : List (List Ty) = maps_of t in
    let code = (lowered t).ops in
    let classes : length (shapes_of t.classes) ≡ length t.classes = length-map t.classes _ in
    let methods : length (heads_of t.classes) ≡ length (lowered t).entries = heads-length t a in
    let rows : length (zip code (laid code all)) ≡ length code = zip-length code all in
    let n = b.classes in
    let k = b.methods in
    let l = b.ops in
    subst IsSpelt (sym e) (record {
      classes = (omega (arith, classes, n), b.shapes);
      methods = (omega (arith, methods, k), heads-fit t b.names b.classes);
      rows = (omega (arith, rows, l), rows-fit code all b.fits (maps-short t b.names b.classes));
      maps = laid-length code all;
      code = code-follows t a;
    })

pub bounded : (p q : Tables) (code : Code) (first second : Parts) (n : ℕ) → p ≡ q → code ≡ lowered (program_of q) →
    second ≡ record first { classes = shapes_of (classes_of p) } → n ≡ length (classes_of p) → n < 2 ^ 32 → FewNames (program_of q) →
    length code.entries < 2 ^ 32 → length code.ops < 2 ^ 32 → AllByRecursion FitsShape second.classes → All FitsOp code.ops →
    IsBounded (program_of q)
bounded p q code first second n same c s count lt names methods ops shapes fits =
    let classes : length (classes_of p) < 2 ^ 32 = subst (λ (k : ℕ). k < 2 ^ 32) count lt in
    let own : AllByRecursion FitsShape (shapes_of (classes_of p)) =
    subst (AllByRecursion FitsShape) (ap (λ (m : Parts). m.classes) s) shapes in
    record {
      names = names;
      classes = subst (λ (t : Tables). length (classes_of t) < 2 ^ 32) same classes;
      methods = subst (λ (d : Code). length d.entries < 2 ^ 32) c methods;
      ops = subst (λ (d : Code). length d.ops < 2 ^ 32) c ops;
      shapes = subst (λ (t : Tables). AllByRecursion FitsShape (shapes_of (classes_of t))) same own;
      fits = subst (λ (d : Code). All FitsOp d.ops) c fits;
    }

-- its parts, one after the other
pub record Parted (p : Tables) (code : Code) (manager : Manager) (first second third : Parts) : Type 0 where
  pub manager_is : manager ≡ p.manager
  pub first_is : first ≡ with_code manager code
  pub second_is : second ≡ record first { classes = shapes_of (classes_of p) }
  pub third_is : third ≡ record second { methods = heads_of (classes_of p) }

pub parted-open : (p : Tables) (code : Code) (manager : Manager) (first second third : Parts) → Parted p code manager first second third →
    IsOpen (record { «module» = third; at = 0 })
parted-open p code manager first second third h =
    let maps : third.maps ≡ filled_up (length third.code.ops) [] = rw (h.third_is, h.second_is, h.first_is) refl in
    open-start (record { «module» = third; at = 0 }) refl maps

pub parted-made : (p q : Tables) (code : Code) (manager : Manager) (first second third : Parts) (new : Laying) →
    Parted p code manager first second third → p ≡ q → code ≡ lowered (program_of q) →
    Lays (record { «module» = third; at = 0 }) new (maps_of (program_of p)) → new.module ≡ module_of (program_of q)
parted-made p q code manager first second third new h same c laid_on =
    let t = program_of p in
    let code_is : code ≡ lowered t = c ∙ ap (λ (r : Tables). lowered (program_of r)) (sym same) in
    let whole : third ≡ record (with_code t.manager (lowered t)) { classes = shapes_of t.classes; methods = heads_of t.classes } =
    h.third_is ∙ ap (λ (m : Parts). record m { methods = heads_of t.classes }) (h.second_is
    ∙ ap (λ (m : Parts). record m { classes = shapes_of t.classes }) (h.first_is
    ∙ ap (λ (k : Manager). with_code k code) h.manager_is ∙ ap (with_code t.manager) code_is)) in
    lays-done (record { «module» = third; at = 0 }) new (maps_of t) refl laid_on
    ∙ ap (λ (m : Parts). record m { maps = laid m.code.ops (maps_of t) }) whole ∙ ap (λ (r : Tables). module_of (program_of r)) same

-- What a copy of the code wants

pub ops-near : (t : Tree) (code : Code) → code ≡ lowered t → FewNames t → All (IsNear (length code.ops)) code.ops
ops-near t code e few =
    let ops = (lowered t).ops in
    subst (λ (c : Code). All (IsNear (length c.ops)) c.ops) (sym e) (All-from_recursion (IsNear (length ops)) ops (code-near t few))

pub openings-length : (t : Tree) (code : Code) (n : ℕ) → n ≡ length t.classes → code ≡ lowered t → n ≡ length code.openings
openings-length t code n k e = k ∙ sym (ap (λ (c : Code). length c.openings) e ∙ length-map t.classes _)
