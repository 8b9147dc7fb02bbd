-- The two laws of a module's bytes, and what reading a module answers.
use Rattle.std.proofs.Common.{◌≡◌, ℕ, suc, Bool, true, false, cond, eqb, List, [], ◌∷◌, ◌++◌, length, map, zip, codes, Option, Some, None}
use Rattle.std.proofs.Common.{refl, sym, ap, subst, ◌∙◌}
use Rattle.std.proofs.lemmas.Bool.{eqb-true}
use Rattle.std.proofs.lemmas.List.{append-nil, nil_from_length}
use Rattle.std.proofs.lemmas.Slice.Zip.{firsts-zip, seconds-zip}
use Rattle.rg_base.specs.declared.words.Manager.{Manager}
use Rattle.rg_base.specs.declared.ty.Ty.{Ty}
use Rattle.rg_code.specs.declared.op.Op.{Op}
use Rattle.rg_code.specs.Code.{Code}
use Rattle.rg_spell.specs.declared.rows.Shape.{Shape}
use Rattle.rg_spell.specs.declared.rows.Head.{Head}
use Rattle.rg_module.specs.Parts.{Parts}
use Rattle.rg_module.specs.Follows.{code_for}
use Rattle.rg_spell.specs.Spelling.{manager_number, counted, Counted, shape_bytes, FitsShape, head_bytes, FitsHead, row_bytes, FitsRow}
use Rattle.rg_module.specs.Spelling.{rows_of}
use Rattle.rg_module.specs.Spelling.{spelling, IsSpelt, Spells}
use Rattle.rg_module.specs.Laws.{SpellsOneModule}
use Rattle.rg_spell.specs.Reading.{◌>>=◌, counted_at, manager_at, shape_at, head_at, row_at}
use Rattle.rg_module.specs.Inner.Reading.{magic_at, module_of, rows_behind}
use Rattle.rg_module.specs.Inner.Reading.{heads_behind, shapes_behind, manager_behind, module_at}
use Rattle.rg_spell.specs.Laws.{IsBytes, Takes, Reads}
use Rattle.rg_spell.proofs.Readers.{bind_some, some_is, reads_counted}
use Rattle.rg_spell.proofs.TypeReaders.{reads_manager, reads_shape, reads_head}
use Rattle.rg_spell.proofs.OpReaders.{reads_row}

reads_shapes : Reads (counted_at shape_at) (counted shape_bytes) (Counted FitsShape)
reads_shapes = reads_counted reads_shape

reads_heads : Reads (counted_at head_at) (counted head_bytes) (Counted FitsHead)
reads_heads = reads_counted reads_head

reads_rows : Reads (counted_at row_at) (counted row_bytes) (Counted FitsRow)
reads_rows = reads_counted reads_row

-- a test that held
taken : {A : Type 0} (b : Bool) (r : Option A) (y : A) → cond b r None ≡ Some y → (b ≡ true) × (r ≡ Some y)
taken true r y e = (refl, e)
taken false r y e = absurd cc

magic_takes : (bytes rest : List ℕ) → IsBytes bytes → magic_at bytes ≡ Some rest → Takes bytes (codes "RGM1") rest
magic_takes [] rest fits e = absurd cc
magic_takes (a ∷ []) rest fits e = absurd cc
magic_takes (a ∷ b ∷ []) rest fits e = absurd cc
magic_takes (a ∷ b ∷ c ∷ []) rest fits e = absurd cc
magic_takes (a ∷ b ∷ c ∷ d ∷ bytes) rest fits e =
    let p = taken (eqb a 82) _ rest e in
    let q = taken (eqb b 71) _ rest p.1 in
    let r = taken (eqb c 77) _ rest q.1 in
    let s = taken (eqb d 49) _ rest r.1 in
    let same : bytes ≡ rest = some_is bytes rest s.1 in
    let first : a ≡ 82 = eqb-true a 82 p.0 in
    let second : b ≡ 71 = eqb-true b 71 q.0 in
    let third : c ≡ 77 = eqb-true c 77 r.0 in
    let fourth : d ≡ 49 = eqb-true d 49 s.0 in
    let behind : IsBytes bytes = λ i. fits (suc (suc (suc (suc i)))) in
    record {
      parts = ap (λ (k : ℕ). k ∷ b ∷ c ∷ d ∷ bytes) first ∙ ap (λ (k : ℕ). 82 ∷ k ∷ c ∷ d ∷ bytes) second
          ∙ ap (λ (k : ℕ). 82 ∷ 71 ∷ k ∷ d ∷ bytes) third
          ∙ ap (λ (k : ℕ). 82 ∷ 71 ∷ 77 ∷ k ∷ bytes) fourth ∙ ap (λ (y : List ℕ). 82 ∷ 71 ∷ 77 ∷ 49 ∷ y) same;
      rest_fits = subst IsBytes same behind;
    }

-- lists that are taken apart and put together again
paired : {A B : Type 0} (xs : List (A × B)) → zip (map (λ (p : A × B). p.0) xs) (map (λ (p : A × B). p.1) xs) ≡ xs
paired [] = refl
paired (x ∷ xs) = ap (λ ys. x ∷ ys) (paired xs)

same_lengths : {A B C : Type 0} (f : A → B) (g : A → C) (xs : List A) → length (map f xs) ≡ length (map g xs)
same_lengths f g [] = refl
same_lengths f g (x ∷ xs) = ap suc (same_lengths f g xs)

goes_so : (bytes text rest behind : List ℕ) → bytes ≡ text ++ rest → rest ≡ behind → bytes ≡ text ++ behind
goes_so bytes text rest behind parts e = parts ∙ ap (λ (y : List ℕ). text ++ y) e

-- what was read of instructions is the rest of a module, and nothing stands behind it
rows_take : (m : Manager) (classes : List Shape) (methods : List Head) (bytes : List ℕ) (x : Parts) → IsBytes bytes
    → rows_behind m classes methods bytes ≡ Some x
    → (rows : List (Op × List Ty)) × (bytes ≡ counted row_bytes rows) × Counted FitsRow rows × (module_of m classes methods rows ≡ x)
unfolding rows_behind
rows_take m classes methods bytes x fits e =
    let a = bind_some (counted_at row_at bytes) (λ rs. cond (eqb (length rs.1) 0) (Some (module_of m classes methods rs.0)) None) x e in
    let g = taken (eqb (length a.0.1) 0) (Some (module_of m classes methods a.0.0)) x a.2 in
    let t = reads_rows.takes bytes a.0 fits a.1 in
    let nothing : a.0.1 ≡ [] = nil_from_length a.0.1 (eqb-true _ _ g.0) in
    let text : bytes ≡ counted row_bytes a.0.0 = ends_so bytes (counted row_bytes a.0.0) a.0.1 t.0.parts nothing in
    (a.0.0, text, t.1, some_is (module_of m classes methods a.0.0) x g.1)
  where
    ends_so : (bytes text rest : List ℕ) → bytes ≡ text ++ rest → rest ≡ [] → bytes ≡ text
    ends_so bytes text rest parts none = parts ∙ ap (λ (y : List ℕ). text ++ y) none ∙ append-nil text

-- a module that was read, with the text of its parts
record Read (bytes : List ℕ) (m : Manager) (classes : List Shape) (methods : List Head) (x : Parts) : Type 0 where
  rows : List (Op × List Ty)
  text : bytes ≡ counted head_bytes methods ++ counted row_bytes rows
  fits : Counted FitsRow rows
  is : module_of m classes methods rows ≡ x

heads_take : (m : Manager) (classes : List Shape) (bytes : List ℕ) (x : Parts) → IsBytes bytes → heads_behind m classes bytes ≡ Some x
    → (methods : List Head) × Counted FitsHead methods × Read bytes m classes methods x
unfolding heads_behind
heads_take m classes bytes x fits e =
    let a = bind_some (counted_at head_at bytes) (λ hs. rows_behind m classes hs.0 hs.1) x e in
    let t = reads_heads.takes bytes a.0 fits a.1 in
    let b = rows_take m classes a.0.0 a.0.1 x t.0.rest_fits a.2 in
    let text : bytes ≡ counted head_bytes a.0.0 ++ counted row_bytes b.0 = goes_so bytes (counted head_bytes a.0.0) a.0.1
    (counted row_bytes b.0) t.0.parts b.1 in
    (a.0.0, t.1, record { rows = b.0; text = text; fits = b.2; is = b.3 })

spelt_so : (bytes a b c : List ℕ) (k : Manager) (classes : List Shape) (methods : List Head) (m : Parts) → bytes ≡ codes "RGM1" ++ a → a
    ≡ manager_number k ∷ b
    → b ≡ counted shape_bytes classes ++ c → Counted FitsShape classes → Counted FitsHead methods → Read c k classes methods m → Spells bytes m
spelt_so bytes a b c k classes methods m front manager shapes fit_shapes fit_heads read =
    let made = module_of k classes methods read.rows in
    let rows : rows_of made ≡ read.rows = paired read.rows in
    let spelt : IsSpelt made = record {
      classes = fit_shapes;
      methods = fit_heads;
      rows = subst (Counted FitsRow) (sym rows) read.fits;
      maps = same_lengths (λ (r : Op × List Ty). r.1) (λ (r : Op × List Ty). r.0) read.rows;
      code = refl;
    } in
    let written : List (Op × List Ty) → List ℕ = λ rs. codes "RGM1" ++ manager_number k ∷
    (counted shape_bytes classes ++ (counted head_bytes methods ++ counted row_bytes rs)) in
    let behind = goes_so b (counted shape_bytes classes) c (counted head_bytes methods ++ counted row_bytes read.rows) shapes read.text in
    let whole : bytes ≡ written read.rows = goes_so bytes (codes "RGM1") a _ front (manager ∙ ap (λ (y : List ℕ). manager_number k ∷ y) behind) in
    subst (Spells bytes) read.is (record { spelt = spelt; same = whole ∙ ap written (sym rows) })

pub module_takes : (bytes : List ℕ) (m : Parts) → IsBytes bytes → module_at bytes ≡ Some m → Spells bytes m
unfolding module_at manager_behind shapes_behind
module_takes bytes m fits e =
    let a = bind_some (magic_at bytes) manager_behind m e in
    let b = bind_some (manager_at a.0) (λ k. shapes_behind k.0 k.1) m a.2 in
    let c = bind_some (counted_at shape_at b.0.1) (λ cs. heads_behind b.0.0 cs.0 cs.1) m b.2 in
    let t0 = magic_takes bytes a.0 fits a.1 in
    let t1 = reads_manager.takes a.0 b.0 t0.rest_fits b.1 in
    let t2 = reads_shapes.takes b.0.1 c.0 t1.0.rest_fits c.1 in
    let d = heads_take b.0.0 c.0.0 c.0.1 m t2.0.rest_fits c.2 in
    spelt_so bytes a.0 b.0.1 c.0.1 b.0.0 c.0.0 d.0 m t0.parts t1.0.parts t2.0.parts t2.1 d.1 d.2

rows_again : (m : Parts) → IsSpelt m → module_of m.manager m.classes m.methods (rows_of m) ≡ m
rows_again m spelt =
    let ops : map (λ (r : Op × List Ty). r.0) (rows_of m) ≡ m.code.ops = firsts-zip m.code.ops m.maps spelt.maps in
    let maps : map (λ (r : Op × List Ty). r.1) (rows_of m) ≡ m.maps = seconds-zip m.code.ops m.maps spelt.maps in
    let code : code_for m.classes m.methods (map (λ (r : Op × List Ty). r.0) (rows_of m)) ≡ m.code = ap (code_for m.classes m.methods) ops
    ∙ sym spelt.code in
    ap (λ (c : Code). record {
      manager = m.manager;
      classes = m.classes;
      methods = m.methods;
      code = c;
      maps = map (λ (r : Op × List Ty). r.1)
          (rows_of m);
    }) code
    ∙ ap (λ (ms : List (List Ty)). record m { maps = ms }) maps

magic_again : (rest : List ℕ) → magic_at (codes "RGM1" ++ rest) ≡ Some rest
magic_again rest = refl

module_again : (m : Parts) → IsSpelt m → module_at (spelling m) ≡ Some m
unfolding module_at manager_behind shapes_behind heads_behind rows_behind
module_again m spelt =
    let rows = counted row_bytes (rows_of m) in
    let heads = counted head_bytes m.methods ++ rows in
    let shapes = counted shape_bytes m.classes ++ heads in
    let last : counted_at row_at rows ≡ Some (rows_of m, []) = ap (counted_at row_at) (sym (append-nil rows))
    ∙ reads_rows.again (rows_of m) [] spelt.rows in
    ap (λ r. r >>= manager_behind) (magic_again (manager_number m.manager ∷ shapes))
    ∙ ap (λ r. r >>= λ (k : Manager × List ℕ). shapes_behind k.0 k.1) (reads_manager.again m.manager shapes tt)
    ∙ ap (λ r. r >>= λ (cs : List Shape × List ℕ). heads_behind m.manager cs.0 cs.1) (reads_shapes.again m.classes heads spelt.classes)
    ∙ ap (λ r. r >>= λ (hs : List Head × List ℕ). rows_behind m.manager m.classes hs.0 hs.1) (reads_heads.again m.methods rows spelt.methods)
    ∙ ap (λ r. r >>= λ (rs : List (Op × List Ty) × List ℕ). cond (eqb (length rs.1) 0)
    (Some (module_of m.manager m.classes m.methods rs.0)) None) last
    ∙ ap Some (rows_again m spelt)

read_again : (bytes : List ℕ) (m : Parts) → Spells bytes m → module_at bytes ≡ Some m
read_again bytes m s = ap module_at s.same ∙ module_again m s.spelt

pub spells_one : SpellsOneModule
spells_one bytes m n p q = some_is m n (sym (read_again bytes m p) ∙ read_again bytes n q)

-- bytes of which nothing was read
pub unread : (bytes : List ℕ) → module_at bytes ≡ None → (m : Parts) → Spells bytes m → ⊥
unread bytes given m s = let there = read_again bytes m s in absurd cc

pub is_again : (bytes : List ℕ) (n : Parts) → module_at bytes ≡ Some n → (m : Parts) → Spells bytes m → n ≡ m
is_again bytes n given m s = some_is n m (sym given ∙ read_again bytes m s)
