-- Bodies along the instructions, and the entries of methods.
use Rattle.std.proofs.Common.{◌≡◌, ℕ, suc, ◌+◌, ◌≤◌, ◌<◌, max, Bool, true, false, cond, List, [], ◌∷◌, ◌++◌, length, map, drop, slice_get, Some}
use Rattle.std.proofs.Common.{refl, sym, ap, subst, ◌∙◌, append_assoc, arith}
use Rattle.std.proofs.lemmas.List.{append-nil, drop-drop, drop_all, length-drop}
use Rattle.rg_base.proofs.Callers.Lists.{drop-here}
use Rattle.rg_code.specs.declared.op.Op.{Op}
use Rattle.rg_code.specs.declared.code.Entry.{Entry}
use Rattle.rg_base.specs.declared.value.Word.{Word}
use Rattle.rg_code.specs.Code.{Code, empty, with_entry}
use Rattle.rg_code.specs.Lowering.{above, slots_of}
use Rattle.rg_spell.specs.declared.rows.Shape.{Shape}
use Rattle.rg_spell.specs.declared.rows.Head.{Head}
use Rattle.rg_module.specs.Follows.{ends_body, body, opening, entry, entries, code_for}

-- a body is no longer than what it stands in front of
pub body-within : (os : List Op) → length (body os) ≤ length os
body-within [] = omega arith
body-within (o ∷ os) = by_end (ends_body o) (body-within os)
  where
    by_end : (b : Bool) → length (body os) ≤ length os → suc (length (cond b [] (body os))) ≤ suc (length os)
    by_end true less = omega arith
    by_end false less = omega (arith, less)

body-there : (ops : List Op) (at : ℕ) (op : Op) (b : Bool) → slice_get ops at ≡ Some op → ends_body op ≡ b → body (drop at ops)
    ≡ op ∷ cond b [] (body (drop (at + 1) ops))
body-there ops at op b e f = ap body (drop-here ops at op e) ∙ ap (λ (c : Bool). op ∷ cond c [] (body (drop (at + 1) ops))) f

-- an instruction that ends a body
pub body-ends : (ops : List Op) (at : ℕ) (op : Op) → slice_get ops at ≡ Some op → ends_body op ≡ true → body (drop at ops) ≡ op ∷ []
body-ends ops at op e f = body-there ops at op true e f

-- one that doesn't
pub body-goes : (ops : List Op) (at : ℕ) (op : Op) → slice_get ops at ≡ Some op → ends_body op ≡ false → body (drop at ops)
    ≡ op ∷ body (drop (at + 1) ops)
body-goes ops at op e f = body-there ops at op false e f

-- nothing stands past the end
pub body-past : (ops : List Op) (at : ℕ) → length ops ≤ at → body (drop at ops) ≡ []
body-past ops at past = ap body (drop_all at ops past)

-- slots that were counted in front
pub slots-more : (g a : ℕ) (os : List Op) → slots_of (max g a) os ≡ max a (slots_of g os)
slots-more g a [] = omega arith
slots-more g a (o ∷ os) =
    let swapped : max (above o) (max a (slots_of g os)) ≡ max a (max (above o) (slots_of g os)) = omega arith in
    ap (max (above o)) (slots-more g a os) ∙ swapped

-- how far a walk along a body has come
pub record Along (ops : List Op) (from given at slots : ℕ) : Type 0 where
  pub within : at ≤ length ops
  pub end : at + length (body (drop at ops)) ≡ from + length (body (drop from ops))
  pub slots_are : slots_of slots (body (drop at ops)) ≡ slots_of given (body (drop from ops))

pub along-start : (ops : List Op) (from given : ℕ) → from ≤ length ops → Along ops from given from given
along-start ops from given le = record { within = le; end = refl; slots_are = refl }

module _ (ops : List Op) (from given at slots : ℕ) (op : Op) (there : slice_get ops at ≡ Some op) (lt : at < length ops)
    (now : Along ops from given at slots) where
  pub along-goes : ends_body op ≡ false → Along ops from given (at + 1) (max slots (above op))
  along-goes f =
      let is = body-goes ops at op there f in
      let one : (at + 1) + length (body (drop (at + 1) ops)) ≡ at + length (op ∷ body (drop (at + 1) ops)) = omega arith in
      record {
        within = omega (arith, lt);
        end = one ∙ ap (λ (b : List Op). at + length b) (sym is) ∙ now.end;
        slots_are = slots-more slots (above op) (body (drop (at + 1) ops)) ∙ ap (slots_of slots) (sym is) ∙ now.slots_are;
      }

  pub along-ends : ends_body op ≡ true → at + 1 ≡ from + length (body (drop from ops))
  along-ends f = ap (λ (b : List Op). at + length b) (sym (body-ends ops at op there f)) ∙ now.end

  pub along-slots : ends_body op ≡ true → max slots (above op) ≡ slots_of given (body (drop from ops))
  along-slots f =
      let swapped : max slots (above op) ≡ max (above op) slots = omega arith in
      swapped ∙ ap (slots_of slots) (sym (body-ends ops at op there f)) ∙ now.slots_are

pub along-past : (ops : List Op) (from given at slots : ℕ) → length ops ≤ at → Along ops from given at slots → at
    ≡ from + length (body (drop from ops))
along-past ops from given at slots past now =
    let none : at + length (body (drop at ops)) ≡ at + 0 = ap (λ (b : List Op). at + length b) (body-past ops at past) in
    let zeroth : at ≡ at + 0 = omega arith in
    zeroth ∙ sym none ∙ now.end

pub along-past-slots : (ops : List Op) (from given at slots : ℕ) → length ops ≤ at → Along ops from given at slots → slots
    ≡ slots_of given (body (drop from ops))
along-past-slots ops from given at slots past now = ap (slots_of slots) (sym (body-past ops at past)) ∙ now.slots_are

-- the end of a body stands within the code
pub end-within : (ops : List Op) (at : ℕ) → at ≤ length ops → at + length (body (drop at ops)) ≤ length ops
end-within ops at le = omega (arith, le, body-within (drop at ops), length-drop at ops)

-- the entries of methods, one more than before
pub one-entry : (ops : List Op) (at : ℕ) (h : Head) (hs : List Head) (before : List Entry)
    → (before ++ entry at h (drop at ops) ∷ []) ++ entries (at + length (body (drop at ops))) hs (drop (at + length (body (drop at ops))) ops)
    ≡ before ++ entries at (h ∷ hs) (drop at ops)
one-entry ops at h hs before =
    let n = length (body (drop at ops)) in
    append_assoc before (entry at h (drop at ops) ∷ []) (entries (at + n) hs (drop (at + n) ops))
    ∙ ap (λ (os : List Op). before ++ entry at h (drop at ops) ∷ entries (at + n) hs os) (sym (drop-drop n at ops))

-- The entries of methods so far are those of all but the heads that are left.
pub record Entered (old : Code) (from : ℕ) (heads : List Head) (code : Code) (at : ℕ) (left : List Head) : Type 0 where
  pub within : at ≤ length old.ops
  pub same : code ≡ record old { entries = code.entries }
  pub rest : code.entries ++ entries at left (drop at old.ops) ≡ old.entries ++ entries from heads (drop from old.ops)

pub entered-start : (old : Code) (from : ℕ) (heads : List Head) → from ≤ length old.ops → Entered old from heads old from heads
entered-start old from heads le = record { within = le; same = refl; rest = refl }

pub entered-next : (old : Code) (from : ℕ) (heads : List Head) (code new : Code) (at end : ℕ) (h : Head) (hs : List Head)
    → Entered old from heads code at (h ∷ hs) → new ≡ with_entry code (entry at h (drop at code.ops)) → end ≡ at + length (body (drop at code.ops))
    → Entered old from heads new end hs
entered-next old from heads code new at end h hs now is end-is =
    let ops-are : code.ops ≡ old.ops = ap (λ (c : Code). c.ops) now.same in
    let es : List Entry = code.entries ++ entry at h (drop at code.ops) ∷ [] in
    let there : end ≡ at + length (body (drop at old.ops)) = end-is ∙ ap (λ (os : List Op). at + length (body (drop at os))) ops-are in
    let one : new ≡ record old { entries = es } = is ∙ ap (λ (c : Code). record c { entries = es }) now.same in
    let es-are : new.entries ≡ code.entries ++ entry at h (drop at old.ops) ∷ [] =
    ap (λ (c : Code). c.entries) is ∙ ap (λ (os : List Op). code.entries ++ entry at h (drop at os) ∷ []) ops-are in
    let before : List Entry = code.entries ++ entry at h (drop at old.ops) ∷ [] in
    record {
      within = subst (λ (n : ℕ). n ≤ length old.ops) (sym there) (end-within old.ops at now.within);
      same = one ∙ ap (λ (c : Code). record old { entries = c.entries }) (sym one);
      rest = ap (λ (fs : List Entry). fs ++ entries end hs (drop end old.ops)) es-are
          ∙ ap (λ (n : ℕ). before ++ entries n hs (drop n old.ops)) there
          ∙ one-entry old.ops at h hs code.entries
          ∙ now.rest;
    }

pub entered-end : (old : Code) (from : ℕ) (heads : List Head) (code : Code) (at : ℕ) → Entered old from heads code at []
    → code ≡ record old { entries = old.entries ++ entries from heads (drop from old.ops) }
entered-end old from heads code at now =
    let all : code.entries ≡ old.entries ++ entries from heads (drop from old.ops) = sym (append-nil code.entries) ∙ now.rest in
    now.same ∙ ap (λ (es : List Entry). record old { entries = es }) all

-- the code of instructions alone, with what follows from classes and methods
pub completed : (old : Code) (shapes : List Shape) (heads : List Head) (end slots : ℕ) → old ≡ record empty { ops = old.ops }
    → end ≡ 0 + length (body (drop 0 old.ops)) → slots ≡ slots_of 0 (body (drop 0 old.ops))
    → record old { openings = old.openings ++ map opening shapes; main_slots = slots; entries = old.entries ++ entries end heads (drop end old.ops) }
    ≡ code_for shapes heads old.ops
completed old shapes heads end slots bare e s =
    let ops = old.ops in
    let zeroth : 0 + length (body ops) ≡ length (body ops) = omega arith in
    let made : List (List Word) → List Entry → Code = λ opens es. record { ops = ops; openings = opens; entries = es; main_slots = slots } in
    let no_openings : old.openings ≡ [] = ap (λ (c : Code). c.openings) bare in
    let no_entries : old.entries ≡ [] = ap (λ (c : Code). c.entries) bare in
    ap (λ (os : List (List Word)). made (os ++ map opening shapes) (old.entries ++ entries end heads (drop end ops))) no_openings
    ∙ ap (λ (es : List Entry). made (map opening shapes) (es ++ entries end heads (drop end ops))) no_entries
    ∙ ap (λ (n : ℕ). made (map opening shapes) (entries n heads (drop n ops))) (e ∙ zeroth)
    ∙ ap (λ (n : ℕ). record {
      ops = ops;
      openings = map opening shapes;
      entries = entries (length (body ops)) heads (drop (length (body ops)) ops);
      main_slots = n;
    }) s
