-- Statements are told from their code.
use Rattle.std.proofs.Common.{◌≡◌, ◌==◌, ℕ, suc, ◌+◌, Bool as Truth, true, false, not, if◌then◌else◌, List, [], ◌∷◌, ◌++◌, length}
use Rattle.std.proofs.Common.{Option, Some, None, refl, sym, ap, ◌∙◌, subst, append_assoc, arith}
use Rattle.std.proofs.lemmas.Bool.{eq-eqb, ne_eqb}
use Rattle.std.proofs.lemmas.List.{append-nil}
use Rattle.rg_base.specs.declared.words.Cap.TheVariants as cap
use Rattle.rg_base.specs.declared.ty.Ty.{Ty}
use Rattle.rg_base.specs.declared.ty.Ty.TheVariants as ty
use Rattle.rg_rules.specs.Capabilities.{is_iso}
use Rattle.rg_code.specs.declared.op.Op.{Op}
use Rattle.rg_code.specs.declared.op.Op.TheVariants as i
use Rattle.rg_code.specs.Lowering.{dropped_code}
use Rattle.rg_verify_expressions.specs.declared.signs.Target.{Target}
use Rattle.rg_verify_expressions.specs.declared.signs.Target.TheVariants as target
use Rattle.rg_verify_expressions.specs.Raised.{Raised, Front, expression, object, place, path, path_ops, holder_ops, place_ops, fronts_ops}
use Rattle.rg_verify_expressions.specs.Parts.{part_of}
use Rattle.rg_verify_expressions.specs.Statements.{Call, Right, value, result_of, Kind, declare, assign, write, write_element, call, swap, branch, while, enter}
use Rattle.rg_verify_expressions.specs.Statements.{enter_field, print, collect, return, Else, no_else, otherwise, Block, empty, next, type_at, types_behind}
use Rattle.rg_verify_expressions.specs.Statements.{types_inside, whole_ops, call_ops, right_ops, pace_ops, assign_op, leave_op, kind_ops, block_ops}
use Rattle.rg_verify_expressions.specs.Signs.{target_of, close_of, open_of, walk_of, behind_of, mark_of, put_of, put_element_of, jump_of, end_of, leave_of}
use Rattle.rg_verify_expressions.specs.Signs.{left_of, closing_of}
use Rattle.rg_verify_expressions.specs.Blocks.{◌>>=◌, Given, sign, slot_type, fronts_at, right_behind, paces, paced, stored, taken_by}
use Rattle.rg_verify_expressions.specs.Blocks.{taken, dropped, call_by, written_to, element_written, object_by, ended, Inner, otherwise_told, jumped, tested}
use Rattle.rg_verify_expressions.specs.Blocks.{close_by, window_end, window, expr_by, open_by, kind_by, kind_told, is_last, Piece}
use Rattle.rg_verify_expressions.specs.Standing.{IsCallee, IsRightFit, type_mapped, IsBlockFit, IsKindFit, returns, Closes, BlockStand}
use Rattle.rg_verify_expressions.proofs.Pieces.{target_op, piece-nil, piece-then, piece-parts, piece-is}
use Rattle.rg_verify_expressions.proofs.Reading.{bind-is, then-is, test-is, same-is, first, behind, past, past-two, stays, marked, fronts-told, ended-told}
use Rattle.rg_verify_expressions.proofs.RightsAgain.{after_ops, fronts_of, right-pieces, after-ends, right-told, written-told, whole-by, called-by, right-taken}
use Rattle.rg_verify_expressions.proofs.RightsAgain.{paced-told}

-- what takes a value stands behind it, and is nothing else
record Taking (g : Given) (at : ℕ) (u : Target) : Type 0 where
  part : sign part_of g.ops at ≡ None
  walk : sign walk_of g.ops at ≡ None
  close : sign close_of g.ops at ≡ None
  target : sign target_of g.ops at ≡ Some u

taking : (g : Given) (at end : ℕ) (u : Target) (os : List Op) → Piece g.ops at (target_op u ∷ os) end → Taking g at u
taking g at end (target.Store s) os p = record { part = first _ p; walk = first _ p; close = first _ p; target = first _ p }
taking g at end (target.Own s) os p = record { part = first _ p; walk = first _ p; close = first _ p; target = first _ p }

-- the end of a window
left-at : (n : ℕ) (w : Option ℕ) → leave_of (leave_op n w) ≡ Some (record { slot = n; given = w })
left-at n None = refl
left-at n (Some w) = refl

left-closes : (n : ℕ) (w : Option ℕ) → closing_of (leave_op n w) ≡ Some tt
left-closes n None = refl
left-closes n (Some w) = refl

-- a block is raised wherever it stands
abbrev pub Tells : Given → Inner → Block → Type 0
Tells g inner b = (types : List Ty) (at end : ℕ) → BlockStand g types at b end → inner types at ≡ Some (b, end)

abbrev pub ElseTells : Given → Inner → Else → Type 0
ElseTells g inner no_else = Unit {0}
ElseTells g inner (otherwise b) = Tells g inner b

-- so are all blocks of a statement
abbrev pub KindTells : Given → Inner → Kind → Type 0
KindTells g inner (declare t r) = Unit {0}
KindTells g inner (assign s r) = Unit {0}
KindTells g inner (write s ks k r) = Unit {0}
KindTells g inner (write_element s ks e r) = Unit {0}
KindTells g inner (call c) = Unit {0}
KindTells g inner (swap y s ks k) = Unit {0}
KindTells g inner (branch e b other) = Tells g inner b × ElseTells g inner other
KindTells g inner (while e b) = Tells g inner b
KindTells g inner (enter s c b w) = Tells g inner b
KindTells g inner (enter_field s ks k c b w) = Tells g inner b
KindTells g inner (print e) = Unit {0}
KindTells g inner collect = Unit {0}
KindTells g inner (return e) = Unit {0}

-- where a mark stands
abbrev pub IsMark : Given → (at : ℕ) → Type 0
IsMark g at = (line : ℕ) × (sign mark_of g.ops at ≡ Some line)

module _ (g : Given) where
  pub closes-by : (end line : ℕ) (r : Truth) → sign mark_of g.ops end ≡ Some line → sign closing_of g.ops (suc end) ≡ Some tt → Closes g.ops end r
  closes-by end line true m c = tt
  closes-by end line false m c = ((line, m), c)

  -- a statement begins with its mark
  pub kind-marked : (types : List Ty) (at end line : ℕ) (k : Kind) → Piece g.ops at (kind_ops types at line k) end
      → sign mark_of g.ops at ≡ Some line
  kind-marked types at end line (declare t r) p = first _ p
  kind-marked types at end line _ p = first _ p

  -- so does a block, or what stands behind it
  pub block-marked : (types : List Ty) (at end line : ℕ) (b : Block) (os : List Op) → Piece g.ops at (block_ops types at b ++ i.Mark line ∷ os) end
      → IsMark g at
  block-marked types at end line empty os p = (line, first _ p)
  block-marked types at end line (next l k b) os p =
      let one = kind_ops types at l k in
      let others = block_ops (types_behind types k) (at + length one) b in
      let front = piece-parts g.ops at end (one ++ others) (i.Mark line ∷ os) p in
      let begin = piece-parts g.ops at (at + length (one ++ others)) one others front.0 in
      (l, kind-marked types at (at + length one) l k begin.0)

  mapped : (at slot : ℕ) (t : Ty) → IsMark g at → type_mapped g.maps at slot ≡ Some t → slot_type g.ops g.maps at slot ≡ Some t
  mapped at slot t m h = then-is (sign mark_of g.ops at) (type_mapped g.maps at slot) m.0 m.1 ∙ h

  taken-reached : (types : List Ty) (r : Right) (at end : ℕ) (u : Target) → sign target_of g.ops at ≡ Some u
      → Piece g.ops (suc at) (pace_ops r) end
      → taken g types r at ≡ ◌>>=◌ {B = Kind × ℕ} (taken_by g types r end u) (λ (k : Kind). Some (k, end))
  taken-reached types r at end u t p =
      bind-is (sign target_of g.ops at) _ u t ∙ bind-is (paced g.ops (paces r) (suc at)) _ end (paced-told g types r (suc at) end p)

  -- a variable that is there is assigned
  assigned : (types : List Ty) (r : Right) (s end : ℕ) → (s ≡ length types → ⊥)
      → (u : Target) × (assign_op types s ≡ target_op u) × (taken_by g types r end u ≡ Some (assign s r))
  assigned types r s end other = by (is_iso (type_at types s)) refl
    where
      by : (iso : Truth) → is_iso (type_at types s) ≡ iso
          → (u : Target) × ((if iso then i.Own s else i.Store s) ≡ target_op u) × (taken_by g types r end u ≡ Some (assign s r))
      by true e = (target.Own s, refl, test-is (is_iso (type_at types s)) (Some (assign s r)) e)
      by false e = (
        target.Store s,
        refl,
        ap (stored g types r end s) (ne_eqb s (length types) other)
            ∙ test-is (not (is_iso (type_at types s))) (Some (assign s r)) (ap not e),
      )

  -- a result that nobody takes
  dropped-told : (o : Option Ty) (at end : ℕ) → Piece g.ops at (dropped_code o) end → IsMark g end
      → (sign target_of g.ops at ≡ None) × (dropped g.ops o at ≡ Some end)
  dropped-told None at end p m =
      let same = stays p in
      (ap (λ (n : ℕ). sign target_of g.ops n) same ∙ marked g.ops target_of end m.0 (λ l. refl) m.1, ap Some same)
  dropped-told (Some t) at end p m = by (is_iso t) refl p
    where
      by : (iso : Truth) → is_iso t ≡ iso → Piece g.ops at (if iso then i.Drop ∷ [] else i.Pop ∷ []) end
          → (sign target_of g.ops at ≡ None) × (dropped g.ops (Some t) at ≡ Some end)
      by true e q = (
        first _ q,
        bind-is (sign left_of g.ops at) _ true (first _ q)
            ∙ test-is (if is_iso t then true else false) (Some (suc at)) (ap (λ (b : Truth). if b then true else false) e) ∙ ap Some (past q),
      )
      by false e q = (
        first _ q,
        bind-is (sign left_of g.ops at) _ false (first _ q)
            ∙ test-is (if is_iso t then false else true) (Some (suc at)) (ap (λ (b : Truth). if b then false else true) e) ∙ ap Some (past q),
      )

  -- A statement of a line whose mark stands at `start`, and whose code ends at `fin`

  module _ (types : List Ty) (inner : Inner) (line start fin : ℕ) where
    abbrev pub Told_as : Kind → Type 0
    Told_as k = kind_told g inner types line start ≡ Some (k, fin)

    abbrev pub Stands : Kind → Type 0
    Stands k = Piece g.ops start (kind_ops types start line k) fin

    pub one : start + 1 ≡ suc start
    one = omega arith

    pub from-mark : (tail : ℕ → List Op) → Piece g.ops start (i.Mark line ∷ tail (start + 1)) fin → Piece g.ops (suc start) (tail (suc start)) fin
    from-mark tail p = subst (λ (n : ℕ). Piece g.ops (suc start) (tail n) fin) one (behind p)

    pub told-by : (fs : List Front) (mid : ℕ) → Piece g.ops (suc start) (fronts_ops (suc start) fs) mid → sign part_of g.ops mid ≡ None
        → kind_told g inner types line start ≡ kind_by g inner types line start fs mid
    told-by fs mid p e = bind-is (fronts_at g.ops (suc start)) _ (fs, mid) (fronts-told fs (suc start) mid p e)

    -- Those without blocks

    pub slot-reached : (r : Right) (u : Target) → IsRightFit g.methods r
        → Piece g.ops (suc start) (right_ops types (suc start) r ++ target_op u ∷ pace_ops r) fin
        → kind_told g inner types line start ≡ ◌>>=◌ {B = Kind × ℕ} (taken_by g types r fin u) (λ (k : Kind). Some (k, fin))
    slot-reached r u h p =
        let code = right_ops types (suc start) r in
        let end : ℕ = suc start + length code in
        let mid : ℕ = suc start + length (fronts_ops (suc start) (fronts_of r)) in
        let (right, tail) = piece-parts g.ops (suc start) fin code (target_op u ∷ pace_ops r) p in
        let (front, after) = right-pieces g types r (suc start) end right in
        let q = taking g end fin u (pace_ops r) tail in
        told-by (fronts_of r) mid front (after-ends g types mid end r after q.part)
        ∙ right-taken g types mid end inner line start r u h after q.walk q.close q.target
        ∙ taken-reached types r end fin u q.target (behind tail)

    slot-told : (r : Right) (u : Target) (k : Kind) → IsRightFit g.methods r → taken_by g types r fin u ≡ Some k
        → Piece g.ops (suc start) (right_ops types (suc start) r ++ target_op u ∷ pace_ops r) fin → Told_as k
    slot-told r u k h t p = slot-reached r u h p ∙ bind-is (taken_by g types r fin u) _ k t

    declare-told : (t : Ty) (r : Right) → IsKindFit g types start line (declare t r) → IsMark g fin → Stands (declare t r) → Told_as (declare t r)
    declare-told t r (h, m) mark p =
        let n = length types in
        let there : type_mapped g.maps fin n ≡ Some t = subst (λ (a : ℕ). type_mapped g.maps a n ≡ Some t) (sym p.place) m in
        let is : stored g types r fin n true ≡ Some (declare t r) = bind-is (slot_type g.ops g.maps fin n) _ t (mapped fin n t mark there) in
        slot-told r (target.Store n) (declare t r) h (ap (stored g types r fin n) (eq-eqb n n refl) ∙ is)
        (from-mark (λ (m : ℕ). right_ops types m r ++ i.Store n ∷ pace_ops r) p)

    assign-told : (s : ℕ) (r : Right) → IsKindFit g types start line (assign s r) → Stands (assign s r) → Told_as (assign s r)
    assign-told s r (h, other) p =
        let (u, is, t) = assigned types r s fin other in
        slot-told r u (assign s r) h t
        (piece-is g.ops (ap (λ (o : Op). right_ops types (suc start) r ++ o ∷ pace_ops r) is)
        (from-mark (λ (n : ℕ). right_ops types n r ++ assign_op types s ∷ pace_ops r) p))

    pub write-reached : (s : ℕ) (ks : List ℕ) (k : ℕ) (r : Right) → Stands (write s ks k r)
        → (mid : ℕ) × (end : ℕ) × Piece g.ops mid (after_ops types r) end × Piece g.ops end (i.Put k ∷ pace_ops r) fin
        × (kind_told g inner types line start ≡ written_to g types s ks (fronts_of r) mid)
    write-reached s ks k r p =
        let holder = holder_ops s ks in
        let at : ℕ = suc start + length holder in
        let code = right_ops types at r in
        let end : ℕ = at + length code in
        let mid : ℕ = at + length (fronts_ops at (fronts_of r)) in
        let q = from-mark (λ (n : ℕ). holder ++ (right_ops types (n + length holder) r ++ i.Put k ∷ pace_ops r)) p in
        let (object_there, rest) = piece-parts g.ops (suc start) fin holder (code ++ i.Put k ∷ pace_ops r) q in
        let (right, tail) = piece-parts g.ops at fin code (i.Put k ∷ pace_ops r) rest in
        let (front, after) = right-pieces g types r at end right in (
          mid,
          end,
          after,
          tail,
          told-by (object s ks ∷ fronts_of r) mid (piece-then g.ops object_there front) (after-ends g types mid end r after (first _ tail))
              ∙ written-told g types mid end s ks r after (first _ tail),
        )

    write-told : (s : ℕ) (ks : List ℕ) (k : ℕ) (r : Right) → IsRightFit g.methods r → Stands (write s ks k r) → Told_as (write s ks k r)
    write-told s ks k r h p =
        let (mid, end, after, tail, reached) = write-reached s ks k r p in
        reached
        ∙ bind-is (right_behind g types (fronts_of r) mid) _ (r, end) (right-told g types mid end r h after (first _ tail))
        ∙ bind-is (sign put_of g.ops end) _ k (first _ tail)
        ∙ bind-is (paced g.ops (paces r) (suc end)) _ fin (paced-told g types r (suc end) fin (behind tail))

    pub element-reached : (s : ℕ) (ks : List ℕ) (e : Raised) (r : Right) → Stands (write_element s ks e r)
        → (mid : ℕ) × (end : ℕ) × Piece g.ops mid (after_ops types r) end × Piece g.ops end (i.PutElement ∷ pace_ops r) fin
        × (kind_told g inner types line start ≡ element_written g types s ks e (fronts_of r) mid)
    element-reached s ks e r p =
        let array = place_ops (suc start) s ks e in
        let at : ℕ = suc start + length array in
        let code = right_ops types at r in
        let end : ℕ = at + length code in
        let mid : ℕ = at + length (fronts_ops at (fronts_of r)) in
        let q = from-mark (λ (n : ℕ). place_ops n s ks e ++ (right_ops types (n + length (place_ops n s ks e)) r ++ i.PutElement ∷ pace_ops r)) p in
        let (place_there, rest) = piece-parts g.ops (suc start) fin array (code ++ i.PutElement ∷ pace_ops r) q in
        let (right, tail) = piece-parts g.ops at fin code (i.PutElement ∷ pace_ops r) rest in
        let (front, after) = right-pieces g types r at end right in (
          mid,
          end,
          after,
          tail,
          told-by (place s ks e ∷ fronts_of r) mid (piece-then g.ops place_there front) (after-ends g types mid end r after (first _ tail)),
        )

    element-told : (s : ℕ) (ks : List ℕ) (e : Raised) (r : Right) → IsRightFit g.methods r → Stands (write_element s ks e r)
        → Told_as (write_element s ks e r)
    element-told s ks e r h p =
        let (mid, end, after, tail, reached) = element-reached s ks e r p in
        reached
        ∙ bind-is (right_behind g types (fronts_of r) mid) _ (r, end) (right-told g types mid end r h after (first _ tail))
        ∙ then-is (sign put_element_of g.ops end) _ tt (first _ tail)
        ∙ bind-is (paced g.ops (paces r) (suc end)) _ fin (paced-told g types r (suc end) fin (behind tail))

    pub call-parts : (c : Call) (os : List Op) → Piece g.ops (suc start) (call_ops types (suc start) c ++ os) fin
        → (mid : ℕ) × (end : ℕ) × Piece g.ops mid (after_ops types (result_of c)) end × Piece g.ops end os fin
        × (kind_told g inner types line start ≡ kind_by g inner types line start (fronts_of (result_of c)) mid)
    call-parts c os p =
        let code = call_ops types (suc start) c in
        let end : ℕ = suc start + length code in
        let mid : ℕ = suc start + length (fronts_ops (suc start) (fronts_of (result_of c))) in
        let (right, tail) = piece-parts g.ops (suc start) fin code os p in
        let (front, after) = right-pieces g types (result_of c) (suc start) end right in
        (mid, end, after, tail, told-by (fronts_of (result_of c)) mid front (first _ after))

    call-told : (c : Call) → IsCallee g.methods c.callee → IsMark g fin → Stands (call c) → Told_as (call c)
    call-told c h mark p =
        let drops = dropped_code c.callee.result in
        let (mid, end, after, tail, reached) = call-parts c drops (from-mark (λ (n : ℕ). call_ops types n c ++ drops) p) in
        let (none, is) = dropped-told c.callee.result end fin tail mark in
        reached
        ∙ called-by g types mid end inner line start c h after
        ∙ ap (call_by g types c end) none
        ∙ bind-is (dropped g.ops c.callee.result end) _ fin is

    swap-told : (y s : ℕ) (ks : List ℕ) (k : ℕ) → Stands (swap y s ks k) → Told_as (swap y s ks k)
    swap-told y s ks k p =
        let holder = holder_ops s ks in
        let mid : ℕ = suc start + length holder in
        let whole : Piece g.ops (suc start) (holder ++ i.Swap y k ∷ []) fin =
        piece-is g.ops (sym (append_assoc (path_ops s ks) (i.Check ∷ []) (i.Swap y k ∷ []))) (behind p) in
        let (front, tail) = piece-parts g.ops (suc start) fin holder (i.Swap y k ∷ []) whole in
        told-by (object s ks ∷ []) mid (piece-is g.ops (sym (append-nil holder)) front) (first _ tail)
        ∙ ap (object_by g types s ks [] mid) (first behind_of tail)
        ∙ ap (λ (n : ℕ). Some (swap y s ks k, n)) (past tail)

    -- a whole expression, by what stands behind it
    whole-told : (e : Raised) (t : ℕ) → Piece g.ops (suc start) (whole_ops types (suc start) e) t → sign part_of g.ops t ≡ None
        → sign walk_of g.ops t ≡ None
        → kind_told g inner types line start ≡ close_by g inner types line start e t (sign close_of g.ops t)
    whole-told e t p n w =
        let mid : ℕ = suc start + length (fronts_ops (suc start) (expression e ∷ [])) in
        let (front, after) = right-pieces g types (value e) (suc start) t p in
        told-by (expression e ∷ []) mid front (after-ends g types mid t (value e) after n)
        ∙ whole-by g types mid t inner line start e after w

    print-told : (e : Raised) → Stands (print e) → Told_as (print e)
    print-told e p =
        let code = whole_ops types (suc start) e in
        let t : ℕ = suc start + length code in
        let q = from-mark (λ (n : ℕ). whole_ops types n e ++ i.Print ∷ []) p in
        let (front, tail) = piece-parts g.ops (suc start) fin code (i.Print ∷ []) q in
        whole-told e t front (first _ tail) (first _ tail) ∙ ap (close_by g inner types line start e t) (first close_of tail)
        ∙ ap (λ (n : ℕ). Some (print e, n)) (past tail)

    return-told : (e : Raised) → Stands (return e) → Told_as (return e)
    return-told e p =
        let code = whole_ops types (suc start) e in
        let t : ℕ = suc start + length code in
        let q = from-mark (λ (n : ℕ). whole_ops types n e ++ i.Ret ∷ []) p in
        let (front, tail) = piece-parts g.ops (suc start) fin code (i.Ret ∷ []) q in
        whole-told e t front (first _ tail) (first _ tail) ∙ ap (close_by g inner types line start e t) (first close_of tail)
        ∙ ap (λ (n : ℕ). Some (return e, n)) (past tail)

    collect-told : Stands collect → Told_as collect
    collect-told p =
        let q = behind p in
        told-by [] (suc start) (piece-nil g.ops (suc start)) (first _ q)
        ∙ ap (open_by g inner types line (suc start)) (first open_of q)
        ∙ ap (λ (n : ℕ). Some (collect, n)) (past q)

    -- Those with a test

    module _ (e : Raised) where
      abbrev pub inside : ℕ
      inside = start + 1 + length (whole_ops types (start + 1) e) + 1

      abbrev pub Tested : (to : ℕ) → List Op → Type 0
      Tested to tail = Piece g.ops start (i.Mark line ∷ (whole_ops types (start + 1) e ++ i.JumpFalse to ∷ tail)) fin

      pub test-told : (to : ℕ) (tail : List Op) → Tested to tail
          → (kind_told g inner types line start ≡ tested g inner types line start e to inside) × Piece g.ops inside tail fin
      test-told to tail p =
          let code = whole_ops types (suc start) e in
          let t : ℕ = suc start + length code in
          let q = from-mark (λ (n : ℕ). whole_ops types n e ++ i.JumpFalse to ∷ tail) p in
          let (front, rest) = piece-parts g.ops (suc start) fin code (i.JumpFalse to ∷ tail) q in
          let long : length code ≡ length (whole_ops types (start + 1) e) = ap (λ (n : ℕ). length (whole_ops types n e)) (sym one) in
          let there : suc t ≡ inside = omega (arith, long) in (
            whole-told e t front (first _ rest) (first _ rest) ∙ ap (close_by g inner types line start e t) (first close_of rest)
                ∙ ap (tested g inner types line start e to) there,
            subst (λ (n : ℕ). Piece g.ops n tail fin) there (behind rest),
          )

      module _ (b : Block) (fits : IsBlockFit g types inside b) (tells : Tells g inner b) where
        abbrev block : List Op
        block = block_ops types inside b

        abbrev last : ℕ
        last = inside + length block

        -- behind the first block
        block-told : (to : ℕ) (tail : List Op) → Tested to (block ++ i.Mark line ∷ i.End (length types) ∷ tail)
            → (kind_told g inner types line start
            ≡ (if to == last + 2 then Some (branch e b no_else, last + 2) else jumped g inner types line start e b to (last + 2)))
            × Piece g.ops (last + 2) tail fin
        block-told to tail p =
            let n = length types in
            let (told, whole) = test-told to (block ++ i.Mark line ∷ i.End n ∷ tail) p in
            let (there, rest) = piece-parts g.ops inside fin block (i.Mark line ∷ i.End n ∷ tail) whole in
            let (ends, others) = piece-parts g.ops last fin (i.Mark line ∷ i.End n ∷ []) tail rest in
            let stand : BlockStand g types inside b last =
            record { code = there; fits = fits; closes = closes-by last line (returns b) (first _ rest) (first _ (behind rest)) } in (
              told
                  ∙ bind-is (inner types inside) _ (b, last) (tells types inside last stand)
                  ∙ bind-is (ended end_of g.ops line n last) _ (last + 2) (ended-told end_of i.End line n last (last + 2) (λ m. refl) ends),
              others,
            )

        alone-told : Stands (branch e b no_else) → Told_as (branch e b no_else)
        alone-told p =
            let to : ℕ = last + 2 in
            let (told, others) = block-told to [] p in
            told
            ∙ ap (λ (t : Truth). if t then Some (branch e b no_else, to) else jumped g inner types line start e b to to) (eq-eqb to to refl)
            ∙ ap (λ (n : ℕ). Some (branch e b no_else, n)) (stays others)

        -- behind a jump, which stands behind the first block
        jump-told : (to : ℕ) (tail : List Op) → Tested (last + 3) (block ++ i.Mark line ∷ i.End (length types) ∷ i.Jump to ∷ tail)
            → (kind_told g inner types line start
            ≡ (if to == start then Some (while e b, suc (last + 2)) else otherwise_told g inner types line e b to (suc (last + 2))))
            × Piece g.ops (suc (last + 2)) tail fin
        jump-told to tail p =
            let fails : ℕ = last + 3 in
            let at : ℕ = last + 2 in
            let (told, others) = block-told fails (i.Jump to ∷ tail) p in
            let apart : (fails == at) ≡ false = ne_eqb fails at (λ (h : fails ≡ at). omega (arith, h)) in (
              told
                  ∙ ap (λ (t : Truth). if t then Some (branch e b no_else, at) else jumped g inner types line start e b fails at) apart
                  ∙ bind-is (sign jump_of g.ops at) _ to (first _ others)
                  ∙ same-is fails (suc at) _ (omega arith),
              behind others,
            )

        while-told : Stands (while e b) → Told_as (while e b)
        while-told p =
            let at : ℕ = suc (last + 2) in
            let (told, rest) = jump-told start [] p in
            told
            ∙ ap (λ (t : Truth). if t then Some (while e b, at) else otherwise_told g inner types line e b start at) (eq-eqb start start refl)
            ∙ ap (λ (n : ℕ). Some (while e b, n)) (stays rest)

        otherwise-told : (c : Block) → IsBlockFit g types (last + 2 + 1) c → Tells g inner c → Stands (branch e b (otherwise c))
            → Told_as (branch e b (otherwise c))
        otherwise-told c fits_too tells_too p =
            let n = length types in
            let at : ℕ = last + 2 + 1 in
            let second = block_ops types at c in
            let end : ℕ = at + length second in
            let to : ℕ = end + 2 in
            let (told, rest) = jump-told to (second ++ i.Mark line ∷ i.End n ∷ []) p in
            let there : suc (last + 2) ≡ at = omega arith in
            let whole = subst (λ (m : ℕ). Piece g.ops m (second ++ i.Mark line ∷ i.End n ∷ []) fin) there rest in
            let (block_there, ends) = piece-parts g.ops at fin second (i.Mark line ∷ i.End n ∷ []) whole in
            let stand : BlockStand g types at c end =
            record { code = block_there; fits = fits_too; closes = closes-by end line (returns c) (first _ ends) (first _ (behind ends)) } in
            let forward : (to == start) ≡ false = ne_eqb to start (λ (h : to ≡ start). omega (arith, h)) in
            told
            ∙ ap (λ (t : Truth). if t then Some (while e b, suc (last + 2)) else otherwise_told g inner types line e b to (suc (last + 2))) forward
            ∙ ap (otherwise_told g inner types line e b to) there
            ∙ bind-is (inner types at) _ (c, end) (tells_too types at end stand)
            ∙ bind-is (ended end_of g.ops line n end) _ fin (ended-told end_of i.End line n end fin (λ m. refl) ends)
            ∙ same-is to fin _ (omega (arith, ends.place))

    -- Windows

    left-told : (at end : ℕ) (w : Option ℕ) → Piece g.ops at (i.Mark line ∷ leave_op (length types) w ∷ []) end
        → window_end g.ops line (length types) at ≡ Some (w, end)
    left-told at end w p =
        let n = length types in
        bind-is (sign mark_of g.ops at) _ line (first _ p)
        ∙ same-is line line _ refl
        ∙ bind-is (sign leave_of g.ops (suc at)) _ (record { slot = n; given = w }) (first _ (behind p) ∙ left-at n w)
        ∙ same-is n n _ refl
        ∙ ap (λ (m : ℕ). Some (w, m)) (past-two p)

    window-told : (c : ℕ) (b : Block) (w : Option ℕ) (at : ℕ) → Tells g inner b → IsBlockFit g (types_inside types c) at b
        → type_mapped g.maps at (length types) ≡ Some (ty.Ref cap.Mut c)
        → Piece g.ops at (block_ops (types_inside types c) at b ++ i.Mark line ∷ leave_op (length types) w ∷ []) fin
        → window g inner types line (length types) at ≡ Some ((c, b, w), fin)
    window-told c b w at tells fits is p =
        let n = length types in
        let within = types_inside types c in
        let code = block_ops within at b in
        let end : ℕ = at + length code in
        let (there, ends) = piece-parts g.ops at fin code (i.Mark line ∷ leave_op n w ∷ []) p in
        let stand : BlockStand g within at b end =
        record { code = there; fits = fits; closes = closes-by end line (returns b) (first _ ends) (first _ (behind ends) ∙ left-closes n w) } in
        let mark = block-marked within at fin line b (leave_op n w ∷ []) p in
        same-is n n _ refl
        ∙ bind-is (slot_type g.ops g.maps at n) _ (ty.Ref cap.Mut c) (mapped at n (ty.Ref cap.Mut c) mark is)
        ∙ bind-is (inner within at) _ (b, end) (tells within at end stand)
        ∙ bind-is (window_end g.ops line n end) _ (w, fin) (left-told end fin w ends)

    -- the code of a window, from its block on
    abbrev pub window_ops : (at c : ℕ) → Block → Option ℕ → List Op
    window_ops at c b w = block_ops (types_inside types c) at b ++ i.Mark line ∷ leave_op (length types) w ∷ []

    pub enter-reached : (s c : ℕ) (b : Block) (w : Option ℕ) → Stands (enter s c b w)
        → Piece g.ops (start + 1 + 1) (window_ops (start + 1 + 1) c b w) fin
        × (kind_told g inner types line start ≡ ◌>>=◌ {B = Kind × ℕ} (window g inner types line (length types) (start + 1 + 1))
        (λ (x : (ℕ × Block × Option ℕ) × ℕ). Some (enter s x.0.0 x.0.1 x.0.2, x.1)))
    enter-reached s c b w p =
        let at : ℕ = start + 1 + 1 in
        let q = behind p in
        let there : suc (suc start) ≡ at = omega arith in (
          subst (λ (m : ℕ). Piece g.ops m (window_ops at c b w) fin) there (behind q),
          told-by [] (suc start) (piece-nil g.ops (suc start)) (first _ q)
              ∙ ap (open_by g inner types line (suc start)) (first open_of q)
              ∙ ap (λ (m : ℕ). ◌>>=◌ {B = Kind × ℕ} (window g inner types line (length types) m)
              (λ (x : (ℕ × Block × Option ℕ) × ℕ). Some (enter s x.0.0 x.0.1 x.0.2, x.1))) there,
        )

    enter-told : (s c : ℕ) (b : Block) (w : Option ℕ) → Tells g inner b → IsKindFit g types start line (enter s c b w) → Stands (enter s c b w)
        → Told_as (enter s c b w)
    enter-told s c b w tells (is, fits) p =
        let (whole, reached) = enter-reached s c b w p in
        reached
        ∙ bind-is (window g inner types line (length types) (start + 1 + 1)) _ ((c, b, w), fin)
        (window-told c b w (start + 1 + 1) tells fits is whole)

    -- where the block of an `enter` of a field begins
    abbrev pub behind_field : (s : ℕ) (ks : List ℕ) (k : ℕ) → ℕ
    behind_field s ks k = start + 1 + length (path_ops s ks ++ i.EnterField k (length types) ∷ [])

    pub field-reached : (s : ℕ) (ks : List ℕ) (k c : ℕ) (b : Block) (w : Option ℕ) → Stands (enter_field s ks k c b w)
        → Piece g.ops (behind_field s ks k) (window_ops (behind_field s ks k) c b w) fin
        × (kind_told g inner types line start ≡ ◌>>=◌ {B = Kind × ℕ} (window g inner types line (length types) (behind_field s ks k))
        (λ (x : (ℕ × Block × Option ℕ) × ℕ). Some (enter_field s ks k x.0.0 x.0.1 x.0.2, x.1)))
    field-reached s ks k c b w p =
        let n = length types in
        let code = path_ops s ks in
        let front = code ++ i.EnterField k n ∷ [] in
        let at : ℕ = behind_field s ks k in
        let mid : ℕ = suc start + length code in
        let tail = window_ops at c b w in
        let (enters, rest) = piece-parts g.ops (suc start) fin front tail (behind p) in
        let (path_there, op) = piece-parts g.ops (suc start) (suc start + length front) code (i.EnterField k n ∷ []) enters in
        let same : suc start + length front ≡ at = omega arith in
        let there : suc mid ≡ at = past op ∙ same in (
          subst (λ (m : ℕ). Piece g.ops m tail fin) same rest,
          told-by (expression (path s ks) ∷ []) mid (piece-is g.ops (sym (append-nil code)) path_there) (first _ op)
              ∙ ap (expr_by g inner types line start (path s ks) mid) (first walk_of op)
              ∙ ap (λ (m : ℕ). ◌>>=◌ {B = Kind × ℕ} (window g inner types line n m)
              (λ (x : (ℕ × Block × Option ℕ) × ℕ). Some (enter_field s ks k x.0.0 x.0.1 x.0.2, x.1))) there,
        )

    field-told : (s : ℕ) (ks : List ℕ) (k c : ℕ) (b : Block) (w : Option ℕ) → Tells g inner b
        → IsKindFit g types start line (enter_field s ks k c b w) → Stands (enter_field s ks k c b w) → Told_as (enter_field s ks k c b w)
    field-told s ks k c b w tells (is, fits) p =
        let (whole, reached) = field-reached s ks k c b w p in
        reached
        ∙ bind-is (window g inner types line (length types) (behind_field s ks k)) _ ((c, b, w), fin)
        (window-told c b w (behind_field s ks k) tells fits is whole)

    -- All of them; behind a statement that isn't the last one a mark stands

    pub kind-told : (k : Kind) → KindTells g inner k → IsKindFit g types start line k → (is_last k ≡ false → IsMark g fin) → Stands k
        → Told_as k
    kind-told (declare t r) tells fits mark p = declare-told t r fits (mark refl) p
    kind-told (assign s r) tells fits mark p = assign-told s r fits p
    kind-told (write s ks k r) tells fits mark p = write-told s ks k r fits p
    kind-told (write_element s ks e r) tells fits mark p = element-told s ks e r fits p
    kind-told (call c) tells fits mark p = call-told c fits (mark refl) p
    kind-told (swap y s ks k) tells fits mark p = swap-told y s ks k p
    kind-told (branch e b no_else) (tells, u) (fits, v) mark p = alone-told e b fits tells p
    kind-told (branch e b (otherwise c)) (tells, too) (fits, fits_too) mark p = otherwise-told e b fits tells c fits_too too p
    kind-told (while e b) tells fits mark p = while-told e b fits tells p
    kind-told (enter s c b w) tells fits mark p = enter-told s c b w tells fits p
    kind-told (enter_field s ks k c b w) tells fits mark p = field-told s ks k c b w tells fits p
    kind-told (print e) tells fits mark p = print-told e p
    kind-told collect tells fits mark p = collect-told p
    kind-told (return e) tells fits mark p = return-told e p
