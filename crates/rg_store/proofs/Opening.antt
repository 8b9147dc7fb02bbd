-- The fields of a new object, one after another.
use Rattle.std.proofs.Common.{◌≡◌, ℕ, ◌+◌, ◌<◌, List, [], ◌∷◌, ◌++◌, length, get_or, drop, map, filter_map, append_assoc, sym, ◌∙◌, ap}
use Rattle.std.proofs.lemmas.List.{drop_more, map-append}
use Rattle.std.proofs.lemmas.List.Elements.{filter_map-append}
use Rattle.rg_base.specs.declared.value.Val.{Val}
use Rattle.rg_tree.specs.Tree.{Member}
use Rattle.rg_rules.specs.Types.{field_member}
use Rattle.rg_rules.specs.RightSides.{opening_value}

-- the values with which the fields among members start
abbrev pub opened : List Member → List Val
opened members = map (λ f. opening_value f.ty) (filter_map field_member members)

opened-append : (ms ns : List Member) → opened (ms ++ ns) ≡ opened ms ++ opened ns
opened-append ms ns =
    ap (map (λ f. opening_value f.ty)) (filter_map-append field_member ms ns)
    ∙ map-append (λ f. opening_value f.ty) (filter_map field_member ms) (filter_map field_member ns)

-- one more member, whose value came behind the others where it is a field
pub opened-turn : (f : ℕ → Member) (numbers : List ℕ) (i : ℕ) (m : Member) (old new whole : List Val) → i < length numbers →
    f (get_or numbers i 0) ≡ m → new ≡ old ++ opened (m ∷ []) → old ++ opened (map f (drop i numbers)) ≡ whole →
    new ++ opened (map f (drop (i + 1) numbers)) ≡ whole
opened-turn f numbers i m old new whole within m_is new_is before =
    let ms = map f (drop (i + 1) numbers) in
    let front : opened (map f (drop i numbers)) ≡ opened (m ∷ []) ++ opened ms =
    ap (λ ns. opened (map f ns)) (drop_more numbers i 0 within) ∙ ap (λ q. opened (q ∷ ms)) m_is ∙ opened-append (m ∷ []) ms in
    ap (λ q. q ++ opened ms) new_is ∙ append_assoc old (opened (m ∷ [])) (opened ms) ∙ ap (λ q. old ++ q) (sym front) ∙ before
