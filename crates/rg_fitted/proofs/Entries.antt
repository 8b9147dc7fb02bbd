-- Where the methods of a program begin in its code, and their maps in those of its module.
use Rattle.std.proofs.Common.{◌≡◌, refl, sym, ap, ◌∙◌, subst, ℕ, zero, suc, ◌+◌, Bool as Truth, true, false, if◌then◌else◌, bytes_eq, List, [], ◌∷◌}
use Rattle.std.proofs.Common.{drop, ◌++◌, length, find, filter_map, slice_get, Option, Some, None, append_assoc, arith}
use Rattle.std.proofs.lemmas.List.{drop-drop}
use Rattle.std.proofs.Math.Seq.{drop-append_seam}
use Rattle.rg_base.specs.declared.ty.Ty.{Ty}
use Rattle.rg_tree.specs.Tree.{Name, Member, field, method, Method, Class, Tree}
use Rattle.rg_rules.specs.Types.{method_member, members_of, method_named}
use Rattle.rg_code.specs.declared.op.Op.{Op}
use Rattle.rg_code.specs.declared.op.Op.TheVariants as i
use Rattle.rg_code.specs.declared.code.Entry.{Entry}
use Rattle.rg_code.specs.Lowering.{methods_among, method_place, method_number, number_called, block_code, method_code}
use Rattle.rg_code.specs.Lowering.{main_code, slots_of, Methods, members_code, methods_code, lowered}
use Rattle.rg_build.specs.Maps.{block_maps, method_maps, members_maps, methods_maps, maps_of}
use Rattle.rg_build.specs.Laws.{marks}
use Rattle.rg_build.specs.ModuleOf.{laid}
use Rattle.rg_build.proofs.Marks.{marks-then, block-marks, method-marks}
use Rattle.rg_numbered.proofs.Classes.{none-some, some-is}
use Rattle.rg_fitted.proofs.Laid.{Laid, skip}
use Rattle.rg_fitted.proofs.Callees.{among}

-- what stands behind code
pub after : (ops : List Op) (at : ℕ) (a b : List Op) → drop at ops ≡ a ++ b → drop (at + length a) ops ≡ b
after ops at a b h = sym (drop-drop (length a) at ops) ∙ ap (drop (length a)) h ∙ drop-append_seam a b

module _ (cs : List Class) (ops : List Op) (maps : List (List Ty)) where
  -- a method's code and its maps, with what stands behind them
  pub record StandsAt (at c : ℕ) (m : Method) : Type 0 where
    pub rest : List Op
    pub others : List (List Ty)
    pub code : drop at ops ≡ method_code cs at c m ++ rest
    pub laid_are : Laid maps at (method_code cs at c m ++ rest) (method_maps cs c m ++ others)

  -- a method by its entry
  pub record Entered (entries : List Entry) (n c : ℕ) (m : Method) : Type 0 where
    pub entry : Entry
    pub there : slice_get entries n ≡ Some entry
    pub stands : StandsAt entry.at c m

  entered_by : (b : Truth) (e : Entry) (es : List Entry) (n c : ℕ) (q m : Method) (rest : Option Method) → StandsAt e.at c q →
      (rest ≡ Some m → Entered es n c m) → (if b then Some q else rest) ≡ Some m → Entered (e ∷ es) (if b then 0 else suc n) c m
  entered_by true e es n c q m rest s h g = record { entry = e; there = refl; stands = subst (StandsAt e.at c) (some-is g) s }
  entered_by false e es n c q m rest s h g = let r = h g in record { entry = r.entry; there = r.there; stands = r.stands }

  -- the methods of a class, and what stands behind them
  record ClassStands (at c : ℕ) (ms : List Member) (go : ℕ → Methods) (others : List (List Ty)) : Type 0 where
    there : ℕ
    code : drop there ops ≡ (go there).ops
    behind : Laid maps there (go there).ops others
    entries : (n : ℕ) → slice_get (members_code cs at c ms go).entries (length (methods_among ms) + n) ≡ slice_get (go there).entries n
    each : (x : Name) (m : Method) → find (λ (q : Method). bytes_eq q.name x) (methods_among ms) ≡ Some m →
        Entered (members_code cs at c ms go).entries (method_place (methods_among ms) x) c m

  class-stands : (at c : ℕ) (ms : List Member) (go : ℕ → Methods) (others : List (List Ty)) →
      drop at ops ≡ (members_code cs at c ms go).ops → Laid maps at (members_code cs at c ms go).ops
      (members_maps cs c ms ++ others) → ClassStands at c ms go others
  class-stands at c [] go others i h = record {
    there = at;
    code = i;
    behind = h;
    entries = λ n. let e : 0 + n ≡ n = omega arith in ap (slice_get (go at).entries) e;
    each = λ x m g. absurd (none-some g);
  }
  class-stands at c (field f ∷ ms) go others i h =
      let r = class-stands at c ms go others i h in record { there = r.there; code = r.code; behind = r.behind; entries = r.entries; each = r.each }
  class-stands at c (method q ∷ ms) go others i h =
      let body = method_code cs at c q in
      let to = at + length body in
      let rest = members_code cs to c ms go in
      let own = method_maps cs c q in
      let more = members_maps cs c ms ++ others in
      let whole : Laid maps at (body ++ rest.ops) (own ++ more) = h ∙ ap (laid (body ++ rest.ops)) (append_assoc own (members_maps cs c ms) others) in
      let r = class-stands to c ms go others (after ops at body rest.ops i) (skip maps at to body rest.ops own more
      (method-marks cs at c q) refl whole) in
      let first : Entry = record { at = at; given = suc (length q.params); slots = slots_of (suc (length q.params)) body } in
      record {
        there = r.there;
        code = r.code;
        behind = r.behind;
        entries = λ n.
            let e : suc (length (methods_among ms)) + n ≡ suc (length (methods_among ms) + n) = omega arith in
            ap (slice_get (first ∷ rest.entries)) e ∙ r.entries n;
        each = λ x m g.
            entered_by (bytes_eq q.name x) first rest.entries (method_place (methods_among ms) x) c q m
            (find (λ (o : Method). bytes_eq o.name x) (methods_among ms))
            (record { rest = rest.ops; others = more; code = i; laid_are = whole }) (r.each x m) g;
      }

  -- the methods of classes in order
  classes-stand : (at c : ℕ) (ks : List Class) → drop at ops ≡ (methods_code cs at c ks).ops →
      Laid maps at (methods_code cs at c ks).ops (methods_maps cs c ks) → (d : ℕ) (x : Name) (m : Method) →
      find (λ (q : Method). bytes_eq q.name x) (filter_map method_member (members_of (slice_get ks d))) ≡ Some m →
      Entered (methods_code cs at c ks).entries (method_number ks d x) (c + d) m
  classes-stand at c [] i h d x m g = absurd (none-some g)
  classes-stand at c (k ∷ ks) i h zero x m g =
      let r = class-stands at c k.members (λ behind. methods_code cs behind (suc c) ks) (methods_maps cs (suc c) ks) i h in
      let found : find (λ (q : Method). bytes_eq q.name x) (methods_among k.members) ≡ Some m =
      ap (find (λ (q : Method). bytes_eq q.name x)) (among k.members) ∙ g in
      let same : c ≡ c + 0 = omega arith in
      subst (λ (n : ℕ). Entered (methods_code cs at c (k ∷ ks)).entries (method_place (methods_among k.members) x) n m) same (r.each x m found)
  classes-stand at c (k ∷ ks) i h (suc d) x m g =
      let r = class-stands at c k.members (λ behind. methods_code cs behind (suc c) ks) (methods_maps cs (suc c) ks) i h in
      let e = classes-stand r.there (suc c) ks r.code r.behind d x m g in
      let same : suc c + d ≡ c + suc d = omega arith in
      subst (λ (n : ℕ). Entered (methods_code cs at c (k ∷ ks)).entries (length (methods_among k.members) + method_number ks d x) n m) same
      (record { entry = e.entry; there = r.entries (method_number ks d x) ∙ e.there; stands = e.stands })

-- the maps of a program's instructions
abbrev pub maps_laid : Tree → List (List Ty)
maps_laid t = laid (lowered t).ops (maps_of t)

-- main's marks have its maps
pub main-marks : (t : Tree) → marks (main_code t) ≡ length (block_maps t.classes true [] t.body)
main-marks t =
    let block = block_code t.classes [] 0 t.body in
    let count = marks-then block (i.Mark t.line ∷ i.End 0 ∷ i.Halt ∷ []) in
    let whole = block-marks t.classes [] 0 true t.body in omega (arith, count, whole)

-- those of its methods stand behind main's
methods-stand : (t : Tree) →
    Laid (maps_laid t) (length (main_code t)) (methods_code t.classes (length (main_code t)) 0 t.classes).ops (methods_maps t.classes 0 t.classes)
methods-stand t =
    let cs = t.classes in
    let others = methods_code cs (length (main_code t)) 0 cs in
    skip (maps_laid t) 0 (length (main_code t)) (main_code t) others.ops (block_maps cs true [] t.body) (methods_maps cs 0 cs) (main-marks t)
    (omega arith) refl

-- a method begins where its entry says
pub method-entered : (t : Tree) (c : ℕ) (x : Name) (m : Method) → method_named t.classes c x ≡ Some m →
    Entered t.classes (lowered t).ops (maps_laid t) (lowered t).entries (number_called t.classes c x) c m
method-entered t c x m h =
    let others = methods_code t.classes (length (main_code t)) 0 t.classes in
    let e = classes-stand t.classes (lowered t).ops (maps_laid t) (length (main_code t)) 0 t.classes (drop-append_seam (main_code t) others.ops)
    (methods-stand t) c x m h in
    let called : number_called t.classes c x ≡ method_number t.classes c x =
    ap (λ (o : Option Method). elim o [ None ↦ 0 | Some q ↦ method_number t.classes c x ]) h in
    let same : 0 + c ≡ c = omega arith in
    record {
      entry = e.entry;
      there = ap (slice_get (lowered t).entries) called ∙ e.there;
      stands = subst (λ (k : ℕ). StandsAt t.classes (lowered t).ops (maps_laid t) e.entry.at k m) same e.stands;
    }
