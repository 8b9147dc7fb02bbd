-- The maps of a module's first instructions, and empty ones behind them.
use Rattle.std.proofs.Common.{◌≡◌, ℕ, suc, ◌-◌, ◌+◌, ◌≤◌, ◌<◌, List, [], ◌∷◌, ◌++◌, length, map, zip, replicate, slice_set, refl, sym, ap, ◌∙◌}
use Rattle.std.proofs.Common.{append_assoc, arith}
use Rattle.std.proofs.lemmas.List.{append-nil, length-append, length-set, set-append_left}
use Rattle.std.proofs.lemmas.Slice.Zip.{firsts-zip, seconds-zip}
use Rattle.rg_base.specs.declared.ty.Ty.{Ty}
use Rattle.rg_base.specs.declared.words.Manager.{Manager}
use Rattle.rg_code.specs.declared.op.Op.{Op}
use Rattle.rg_code.specs.Code.{Code}
use Rattle.rg_spell.specs.declared.rows.Shape.{Shape}
use Rattle.rg_spell.specs.declared.rows.Head.{Head}
use Rattle.rg_module.specs.Parts.{Parts, filled_up, parts_of}
use Rattle.rg_module.specs.Follows.{code_for}
use Rattle.rg_module.specs.Inner.Reading.{module_of}
use Rattle.rg_module.specs.Inner.Rows.{rows_of, IsPadded}

-- an empty map more changes nothing
pub one_more : (n : ℕ) (maps : List (List Ty)) → length maps < n → filled_up n (maps ++ [] ∷ []) ≡ filled_up n maps
one_more n maps lt =
    let none : List Ty = [] in
    let k : n - length maps ≡ suc (n - (length maps + 1)) = omega arith in
    let len : length (maps ++ none ∷ []) ≡ length maps + 1 = length-append maps (none ∷ []) in
    let behind : none ∷ replicate (n - length (maps ++ none ∷ [])) none ≡ replicate (n - length maps) none = rw (len, k) refl in
    append_assoc maps (none ∷ []) (replicate (n - length (maps ++ none ∷ [])) none) ∙ ap (λ (y : List (List Ty)). maps ++ y) behind

-- as many maps as instructions need no others
pub all_there : (n : ℕ) (maps : List (List Ty)) → length maps ≡ n → filled_up n maps ≡ maps
all_there n maps e =
    let none : List Ty = [] in
    let k : n - length maps ≡ 0 = omega (arith, e) in
    let nothing : replicate (n - length maps) none ≡ [] = rw k refl in
    ap (λ (y : List (List Ty)). maps ++ y) nothing ∙ append-nil maps

pub padded-start : (n : ℕ) (maps : List (List Ty)) → length maps ≤ n → IsPadded n maps maps
padded-start n maps le = record { same = refl; within = le }

pub padded-more : (n at : ℕ) (old maps : List (List Ty)) → length maps ≤ at → at < n → IsPadded n old maps → IsPadded n old (maps ++ [] ∷ [])
padded-more n at old maps le lt now =
    let none : List Ty = [] in
    let less : length maps < n = omega (arith, le, lt) in
    record { same = one_more n maps less ∙ now.same; within = omega (arith, less, length-append maps (none ∷ [])) }

-- a map is set among the first ones
pub set_up : (n : ℕ) (maps : List (List Ty)) (at : ℕ) (ts : List Ty) → at < length maps → filled_up n (slice_set maps at ts)
    ≡ slice_set (filled_up n maps) at ts
set_up n maps at ts lt =
    let none : List Ty = [] in
    let same : replicate (n - length (slice_set maps at ts)) none ≡ replicate (n - length maps) none = ap (λ (k : ℕ). replicate (n - k) none)
    (length-set maps at ts) in
    ap (λ (y : List (List Ty)). slice_set maps at ts ++ y) same ∙ sym (set-append_left maps (replicate (n - length maps) none) at ts lt)

-- the same, in a module
pub mapped : (m : Manager) (classes : List Shape) (methods : List Head) (code : Code)
    (maps news : List (List Ty)) (at : ℕ) (ts : List Ty) (old : Parts)
    → parts_of m classes methods code maps ≡ old → IsPadded (length code.ops) maps news → at < length news
    → parts_of m classes methods code (slice_set news at ts) ≡ record old { maps = slice_set old.maps at ts }
mapped m classes methods code maps news at ts old view now lt =
    let n = length code.ops in
    let same : filled_up n (slice_set news at ts) ≡ slice_set (filled_up n maps) at ts =
    set_up n news at ts lt ∙ ap (λ (y : List (List Ty)). slice_set y at ts) now.same in
    ap (λ (ms : List (List Ty)). record { manager = m; classes = classes; methods = methods; code = code; maps = ms }) same
    ∙ ap (λ (p : Parts). record p { maps = slice_set p.maps at ts }) view

-- empty maps change nothing
pub unmapped : (m : Manager) (classes : List Shape) (methods : List Head) (code : Code) (maps news : List (List Ty)) (old : Parts)
    → parts_of m classes methods code maps ≡ old → IsPadded (length code.ops) maps news → parts_of m classes methods code news ≡ old
unmapped m classes methods code maps news old view now =
    ap (λ (ms : List (List Ty)). record { manager = m; classes = classes; methods = methods; code = code; maps = ms }) now.same ∙ view

-- a module whose code was completed is the one that was read
pub whole_is : (m : Manager) (classes : List Shape) (methods : List Head) (c code : Code) (maps : List (List Ty)) → length maps ≡ length c.ops → code
    ≡ code_for classes methods c.ops
    → module_of m classes methods (rows_of c maps) ≡ parts_of m classes methods code maps
whole_is m classes methods c code maps even is =
    let ops-is : map (λ (r : Op × List Ty). r.0) (zip c.ops maps) ≡ c.ops = firsts-zip c.ops maps even in
    let maps-is : map (λ (r : Op × List Ty). r.1) (zip c.ops maps) ≡ maps = seconds-zip c.ops maps even in
    let code-is : code_for classes methods (map (λ (r : Op × List Ty). r.0) (zip c.ops maps)) ≡ code = ap (code_for classes methods) ops-is
    ∙ sym is in
    let len : length maps ≡ length code.ops = even ∙ ap (λ (d : Code). length d.ops) (sym is) in
    ap (λ (d : Code). record {
      manager = m;
      classes = classes;
      methods = methods;
      code = d;
      maps = map (λ (r : Op × List Ty). r.1)
          (zip c.ops maps);
    }) code-is
    ∙ ap (λ (ms : List (List Ty)). record { manager = m; classes = classes; methods = methods; code = code; maps = ms })
    (maps-is ∙ sym (all_there (length code.ops) maps len))
