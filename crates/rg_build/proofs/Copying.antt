-- A code, copied part by part.
use Rattle.std.proofs.Common.{◌≡◌, sym, ap, ◌∙◌, ℕ, ◌+◌, List, [], ◌∷◌, ◌++◌, take, Some, slice_get, append_assoc}
use Rattle.rg_base.specs.declared.value.Word.{Word}
use Rattle.rg_code.specs.declared.op.Op.{Op}
use Rattle.rg_code.specs.declared.code.Entry.{Entry}
use Rattle.rg_code.specs.Code.{Code, with_op, with_opening, with_entry}
use Rattle.rg_build.proofs.Counting.{taken}

-- one part more behind those of an older list
more : {X : Type 0} (front xs : List X) (i : ℕ) (x : X) → slice_get xs i ≡ Some x → (front ++ take i xs) ++ x ∷ [] ≡ front ++ take (i + 1) xs
more {X} front xs i x g = append_assoc front (take i xs) (x ∷ []) ∙ ap (λ (r : List X). front ++ r) (sym (taken xs i x g))

pub ops-turn : (code old now new : Code) (i : ℕ) (o : Op) → slice_get code.ops i ≡ Some o →
    now ≡ record old { ops = old.ops ++ take i code.ops } → new ≡ with_op now o → new ≡ record old { ops = old.ops ++ take (i + 1) code.ops }
ops-turn code old now new i o g e n =
    n ∙ ap (λ (c : Code). with_op c o) e ∙ ap (λ (ops : List Op). record old { ops = ops }) (more old.ops code.ops i o g)

pub openings-turn : (code old now new : Code) (i : ℕ) (o : List Word) → slice_get code.openings i ≡ Some o →
    now ≡ record old { openings = old.openings ++ take i code.openings } → new ≡ with_opening now o →
    new ≡ record old { openings = old.openings ++ take (i + 1) code.openings }
openings-turn code old now new i o g e n =
    n ∙ ap (λ (c : Code). with_opening c o) e
    ∙ ap (λ (os : List (List Word)). record old { openings = os }) (more old.openings code.openings i o g)

pub entries-turn : (code old now new : Code) (i : ℕ) (o : Entry) → slice_get code.entries i ≡ Some o →
    now ≡ record old { entries = old.entries ++ take i code.entries } → new ≡ with_entry now o →
    new ≡ record old { entries = old.entries ++ take (i + 1) code.entries }
entries-turn code old now new i o g e n =
    n ∙ ap (λ (c : Code). with_entry c o) e ∙ ap (λ (es : List Entry). record old { entries = es }) (more old.entries code.entries i o g)
