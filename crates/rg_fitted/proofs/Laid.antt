-- Maps that are laid along instructions.
use Rattle.std.proofs.Common.{◌≡◌, refl, sym, ap, ◌∙◌, ℕ, zero, suc, ◌+◌, Bool as Truth, true, false}
use Rattle.std.proofs.Common.{if◌then◌else◌, List, [], ◌∷◌, ◌++◌, length, drop}
use Rattle.std.proofs.Common.{slice_get, Option, Some, append_assoc, arith}
use Rattle.std.proofs.lemmas.List.{drop-drop}
use Rattle.std.proofs.Math.Seq.{drop-append_seam}
use Rattle.rg_base.specs.declared.ty.Ty.{Ty}
use Rattle.rg_code.specs.declared.op.Op.{Op}
use Rattle.rg_code.specs.declared.op.Op.TheVariants as i
use Rattle.rg_code.specs.Places.{is_mark}
use Rattle.rg_build.specs.ModuleOf.{map_here, maps_behind, laid}
use Rattle.rg_build.specs.Laws.{marks}
use Rattle.rg_verify_expressions.specs.Blocks.{◌>>=◌}
use Rattle.rg_verify_expressions.specs.Standing.{type_mapped}

laid-then : (a b : List Op) (ms ns : List (List Ty)) → marks a ≡ length ms → laid (a ++ b) (ms ++ ns) ≡ laid a ms ++ laid b ns
laid-then [] b [] ns h = refl
laid-then [] b (m ∷ ms) ns h = absurd (omega (arith, h))
laid-then (o ∷ os) b ms ns h = by (is_mark (Some o)) ms h (λ ks e. laid-then os b ks ns e)
  where
    by : (t : Truth) (ks : List (List Ty)) → (if t then suc (marks os) else marks os) ≡ length ks →
        ((qs : List (List Ty)) → marks os ≡ length qs → laid (os ++ b) (qs ++ ns) ≡ laid os qs ++ laid b ns) →
        map_here t (ks ++ ns) ∷ laid (os ++ b) (maps_behind t (ks ++ ns)) ≡ (map_here t ks ∷ laid os (maps_behind t ks)) ++ laid b ns
    by true [] e r = absurd (omega (arith, e))
    by true (k ∷ ks) e r = ap (λ (rest : List (List Ty)). k ∷ rest) (r ks (omega (arith, e)))
    by false ks e r = ap (λ (rest : List (List Ty)). [] ∷ rest) (r ks e)

laid-length : (a : List Op) (ms : List (List Ty)) → length (laid a ms) ≡ length a
laid-length [] ms = refl
laid-length (o ∷ os) ms = ap suc (laid-length os (maps_behind (is_mark (Some o)) ms))

-- from an address on, the maps are those of these instructions
abbrev pub Laid : (maps : List (List Ty)) → (at : ℕ) → List Op → List (List Ty) → Type 0
Laid maps at ops types = drop at maps ≡ laid ops types

-- behind instructions with as many marks as maps
pub skip : (maps : List (List Ty)) (at to : ℕ) (a b : List Op) (ms ns : List (List Ty)) → marks a ≡ length ms → to ≡ at + length a →
    Laid maps at (a ++ b) (ms ++ ns) → Laid maps to b ns
skip maps at to a b ms ns e n h =
    ap (λ (k : ℕ). drop k maps) n ∙ sym (drop-drop (length a) at maps) ∙ ap (drop (length a)) (h ∙ laid-then a b ms ns e)
    ∙ ap (λ (k : ℕ). drop k (laid a ms ++ laid b ns)) (sym (laid-length a ms)) ∙ drop-append_seam (laid a ms) (laid b ns)

pub drop-is : {X : Type 0} (xs : List X) (n : ℕ) (x : X) (ys : List X) → drop n xs ≡ x ∷ ys → slice_get xs n ≡ Some x
drop-is [] zero x ys h = absurd cc
drop-is [] (suc n) x ys h = absurd cc
drop-is (z ∷ zs) zero x ys h = cc
drop-is (z ∷ zs) (suc n) x ys h = drop-is zs n x ys h

-- the map of a mark
pub here : (maps : List (List Ty)) (at line : ℕ) (os : List Op) (m : List Ty) (ms : List (List Ty)) → Laid maps at (i.Mark line ∷ os) (m ∷ ms) →
    slice_get maps at ≡ Some m
here maps at line os m ms h = drop-is maps at m (laid os ms) h

last-slot : (types : List Ty) (t : Ty) → slice_get (types ++ t ∷ []) (length types) ≡ Some t
last-slot [] t = refl
last-slot (u ∷ us) t = last-slot us t

-- the type of a slot that came last
pub mapped : (maps : List (List Ty)) (at : ℕ) (types : List Ty) (t : Ty) → slice_get maps at ≡ Some (types ++ t ∷ []) →
    type_mapped maps at (length types) ≡ Some t
mapped maps at types t h =
    ap (λ (o : Option (List Ty)). ◌>>=◌ o (λ (us : List Ty). slice_get us (length types))) h ∙ last-slot types t

regroup : {A : Type 0} (f b tail rest : List A) → (f ++ (b ++ tail)) ++ rest ≡ f ++ (b ++ (tail ++ rest))
regroup f b tail rest = append_assoc f (b ++ tail) rest ∙ ap (λ (q : List _). f ++ q) (append_assoc b tail rest)

-- the block of a statement, behind its mark and what has none
pub inside_laid : (maps : List (List Ty)) (at to line : ℕ) (f b tail rest : List Op) (m : List Ty) (bs others ms : List (List Ty)) → marks f ≡ 0 →
    to ≡ at + suc (length f) → Laid maps at ((i.Mark line ∷ (f ++ (b ++ tail))) ++ rest) ((m ∷ (bs ++ others)) ++ ms) →
    Laid maps to (b ++ (tail ++ rest)) (bs ++ (others ++ ms))
inside_laid maps at to line f b tail rest m bs others ms e n h =
    let code : (i.Mark line ∷ (f ++ (b ++ tail))) ++ rest ≡ (i.Mark line ∷ f) ++ (b ++ (tail ++ rest)) =
    ap (λ (q : List Op). i.Mark line ∷ q) (regroup f b tail rest) in
    let types : (m ∷ (bs ++ others)) ++ ms ≡ (m ∷ []) ++ (bs ++ (others ++ ms)) = ap (λ (q : List (List Ty)). m ∷ q) (append_assoc bs others ms) in
    skip maps at to (i.Mark line ∷ f) (b ++ (tail ++ rest)) (m ∷ []) (bs ++ (others ++ ms)) (ap suc e) n
    (h ∙ ap (λ (q : List Op). laid q ((m ∷ (bs ++ others)) ++ ms)) code ∙ ap (laid ((i.Mark line ∷ f) ++ (b ++ (tail ++ rest)))) types)
