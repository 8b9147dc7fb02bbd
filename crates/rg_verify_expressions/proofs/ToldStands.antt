-- A block that is told at an address stands there, if it ends there.
use Rattle.std.proofs.Common.{◌≡◌, ◌==◌, ◌⊎◌, inl, inr, ℕ, zero, suc, ◌+◌, ◌≤◌, max, Bool as Truth, true, false, if◌then◌else◌, List, [], ◌∷◌, ◌++◌}
use Rattle.std.proofs.Common.{length, slice_get, Option, Some, None, option_map, unwrap_or, refl, sym, ap, ◌∙◌, subst, arith}
use Rattle.std.proofs.Math.Nat.{max-le}
use Rattle.std.proofs.lemmas.Bool.{eq-eqb, false≢true}
use Rattle.std.proofs.lemmas.Option.{same_Some, slice_get_past}
use Rattle.rg_base.specs.declared.words.Cap.TheVariants as cap
use Rattle.rg_base.specs.declared.ty.Ty.{Ty}
use Rattle.rg_base.specs.declared.ty.Ty.TheVariants as ty
use Rattle.rg_rules.specs.Capabilities.{is_iso}
use Rattle.rg_code.specs.declared.op.Op.{Op}
use Rattle.rg_code.specs.declared.op.Op.TheVariants as i
use Rattle.rg_code.specs.Lowering.{dropped_code}
use Rattle.rg_verify_expressions.specs.declared.callee.Callee.{Callee}
use Rattle.rg_verify_expressions.specs.declared.signs.Making.{Making}
use Rattle.rg_verify_expressions.specs.declared.signs.Making.TheVariants as making
use Rattle.rg_verify_expressions.specs.declared.signs.Target.{Target}
use Rattle.rg_verify_expressions.specs.declared.signs.Target.TheVariants as target
use Rattle.rg_verify_expressions.specs.declared.signs.Walk.{Walk}
use Rattle.rg_verify_expressions.specs.declared.signs.Walk.TheVariants as walk
use Rattle.rg_verify_expressions.specs.Raised.{Raised, Front, expression, object, place}
use Rattle.rg_verify_expressions.specs.Statements.{Call, Right, value, new, new_tmp, new_iso, result_of, Kind, declare, assign, write}
use Rattle.rg_verify_expressions.specs.Statements.{write_element, call, swap, branch, while, enter, enter_field, print, collect, return, Else, no_else, otherwise}
use Rattle.rg_verify_expressions.specs.Statements.{Block, empty, next, type_at, all_used, types_behind, types_inside, whole_ops, call_ops, right_ops, pace_ops}
use Rattle.rg_verify_expressions.specs.Statements.{assign_op, else_gap, else_ops, kind_ops, block_ops}
use Rattle.rg_verify_expressions.specs.Signs.{making_of, target_of, walk_of, behind_of, mark_of, call_of, put_of, put_element_of, jump_of, end_of}
use Rattle.rg_verify_expressions.specs.Blocks.{Given, Told, sign, slot_type, bridge_class, values_in, cleared, called, is_room, right_of, right_by, result_by}
use Rattle.rg_verify_expressions.specs.Blocks.{right_behind, paces, paced, stored, taken_by, taken, dropped, call_by, ended, Inner}
use Rattle.rg_verify_expressions.specs.Blocks.{otherwise_told, jumped, tested, window_end, window, kind_told, starts, is_last, followed, block_by}
use Rattle.rg_verify_expressions.specs.Blocks.{statements, block_told, Piece}
use Rattle.rg_verify_expressions.specs.Standing.{kind_depth, else_depth, block_depth, IsCallee, IsRightFit, type_mapped, IsKindFit, IsElseFit, IsBlockFit}
use Rattle.rg_verify_expressions.specs.Standing.{BlockStand, TellsBlock, BlocksAreTold}
use Rattle.rg_verify_expressions.proofs.Pieces.{bind-some, then-some, test-some, end-is, piece-is, target_op}
use Rattle.rg_verify_expressions.proofs.BlockRaises.{ended-piece, kind-piece, starts-marked, block-piece, raised-blocks-stand}
use Rattle.rg_verify_expressions.proofs.RightsAgain.{fronts_of, call-reached}
use Rattle.rg_verify_expressions.proofs.KindsAgain.{Told_as, Stands, from-mark, slot-reached, write-reached, element-reached, call-parts, test-told}
use Rattle.rg_verify_expressions.proofs.KindsAgain.{enter-reached}
use Rattle.rg_verify_expressions.proofs.KindsAgain.{field-reached, behind_field}
use Rattle.rg_verify_expressions.proofs.BlocksAgain.{standing-blocks-are-told}

-- Statements that are the same have the same parts

abbrev right_in : Kind → Option Right
right_in (declare t r) = Some r
right_in (assign s r) = Some r
right_in (write s ks k r) = Some r
right_in (write_element s ks e r) = Some r
right_in (call c) = Some (result_of c)
right_in _ = None

result-same : (a b : Call) → result_of a ≡ result_of b → a ≡ b
result-same a b e = cc

declare-same : (t u : Ty) (r q : Right) → declare t r ≡ declare u q → t ≡ u
declare-same t u r q e = cc

write-same : (s : ℕ) (ks : List ℕ) (k j : ℕ) (r q : Right) → write s ks k r ≡ write s ks j q → r ≡ q
write-same s ks k j r q e = cc

element-same : (s : ℕ) (ks : List ℕ) (e : Raised) (r q : Right) → write_element s ks e r ≡ write_element s ks e q → r ≡ q
element-same s ks e r q h = cc

branch-same : (e : Raised) (a b : Block) (c d : Else) → branch e a c ≡ branch e b d → (a ≡ b) × (c ≡ d)
branch-same e a b c d h = (cc, cc)

while-same : (e : Raised) (a b : Block) → while e a ≡ while e b → a ≡ b
while-same e a b h = cc

enter-same : (s c d : ℕ) (a b : Block) (v w : Option ℕ) → enter s c a v ≡ enter s d b w → (c ≡ d) × (a ≡ b)
enter-same s c d a b v w h = (cc, cc)

field-same : (s : ℕ) (ks : List ℕ) (k c d : ℕ) (a b : Block) (v w : Option ℕ) → enter_field s ks k c a v ≡ enter_field s ks k d b w
    → (c ≡ d) × (a ≡ b)
field-same s ks k c d a b v w h = (cc, cc)

declare-not-assign : (t : Ty) (r q : Right) (s : ℕ) → declare t r ≡ assign s q → ⊥
declare-not-assign t r q s h = absurd cc

branch-not-while : (e : Raised) (a b : Block) (c : Else) → branch e a c ≡ while e b → ⊥
branch-not-while e a b c h = absurd cc

bridge-is : (t : Ty) (c : ℕ) → bridge_class t ≡ Some c → t ≡ ty.Ref cap.Mut c
bridge-is (ty.Ref cap.Mut d) c h = ap (ty.Ref cap.Mut) (same_Some d c h)
bridge-is _ c h = absurd cc

first-of : {A : Type 0} (a b : A) (m n : ℕ) → ◌≡◌ {A = Option (A × ℕ)} (Some (a, m)) (Some (b, n)) → a ≡ b
first-of {A = A} a b m n e =
    let x : A × ℕ = (a, m) in
    let y : A × ℕ = (b, n) in
    let same : x ≡ y = same_Some x y e in
    ap (λ (z : A × ℕ). z.0) same

module _ (g : Given) where
  -- What is told of right sides

  called-fit : (types : List Ty) (s : ℕ) (ks : List ℕ) (args : List Raised) (at : ℕ) (x : Call × ℕ) → called g types s ks args at ≡ Some x
      → IsCallee g.methods x.0.callee
  called-fit types s ks args at x h =
      let (b, cl, h1) = bind-some (cleared g.ops (all_used types args) at) _ x h in
      let (m, me, h2) = bind-some (sign call_of g.ops b) _ x h1 in
      let (callee, there, h3) = bind-some (slice_get g.methods m) _ x h2 in
      let made : Call × ℕ = (record { slot = s; fields = ks; callee = record callee { number = m }; args = args }, suc b) in
      let is : IsCallee g.methods made.0.callee = ap (option_map (λ (c : Callee). record c { number = m })) there in
      subst (λ (y : Call × ℕ). IsCallee g.methods y.0.callee) (same_Some made x h3) is

  abbrev Fit : Right × ℕ → Type 0
  Fit x = IsRightFit g.methods x.0

  making-fit : (m : Making) → IsRightFit g.methods (right_of m)
  making-fit (making.New c) = tt
  making-fit _ = tt

  right-by-fit : (types : List Ty) (e : Raised) (at : ℕ) (w : Option Walk) (x : Right × ℕ) → right_by g types e at w ≡ Some x → Fit x
  right-by-fit types e at None x h =
      let (b, cl, h1) = bind-some (cleared g.ops (all_used types (e ∷ [])) at) _ x h in
      subst Fit (same_Some (value e, b) x h1) tt
  right-by-fit types e at (Some (walk.New c)) x h = subst Fit (same_Some (new c (Some e), suc at) x h) tt
  right-by-fit types e at (Some (walk.NewTmp c)) x h = subst Fit (same_Some (new_tmp c (Some e), suc at) x h) tt
  right-by-fit types e at (Some (walk.NewIso c m)) x h = subst Fit (same_Some (new_iso c (Some e) m, suc at) x h) tt
  right-by-fit types e at (Some (walk.Enter k z)) x h = absurd cc

  result-fit : (types : List Ty) (s : ℕ) (ks : List ℕ) (args : Option (List Raised)) (at : ℕ) (x : Right × ℕ)
      → result_by g types s ks args at ≡ Some x → Fit x
  result-fit types s ks None at x h = absurd cc
  result-fit types s ks (Some args) at x h =
      let (b, be, h1) = bind-some (sign behind_of g.ops at) _ x h in
      let (is, h2) = test-some (is_room b) _ x h1 in
      let (c, ce, h3) = bind-some (called g types s ks args (suc at)) _ x h2 in
      subst Fit (same_Some (result_of c.0, c.1) x h3) (called-fit types s ks args (suc at) c ce)

  right-fit : (types : List Ty) (fs : List Front) (at : ℕ) (x : Right × ℕ) → right_behind g types fs at ≡ Some x → Fit x
  right-fit types [] at x h =
      let (m, me, h1) = bind-some (sign making_of g.ops at) _ x h in
      subst Fit (same_Some (right_of m, suc at) x h1) (making-fit m)
  right-fit types (expression e ∷ []) at x h = right-by-fit types e at (sign walk_of g.ops at) x h
  right-fit types (expression e ∷ f ∷ fs) at x h = absurd cc
  right-fit types (object s ks ∷ fs) at x h = result-fit types s ks (values_in fs) at x h
  right-fit types (place s ks e ∷ fs) at x h = absurd cc

  -- a statement that takes the value of a right side

  stored-in : (types : List Ty) (r : Right) (end s : ℕ) (is_next : Truth) (k : Kind) → stored g types r end s is_next ≡ Some k
      → right_in k ≡ Some r
  stored-in types r end s true k h =
      let (t, te, h1) = bind-some (slot_type g.ops g.maps end s) _ k h in
      sym (ap right_in (same_Some (declare t r) k h1))
  stored-in types r end s false k h =
      let (isnt, h1) = test-some _ _ k h in
      sym (ap right_in (same_Some (assign s r) k h1))

  taken-by-in : (types : List Ty) (r : Right) (end : ℕ) (u : Target) (k : Kind) → taken_by g types r end u ≡ Some k → right_in k ≡ Some r
  taken-by-in types r end (target.Store s) k h = stored-in types r end s (s == length types) k h
  taken-by-in types r end (target.Own s) k h =
      let (owns, h1) = test-some (is_iso (type_at types s)) _ k h in
      sym (ap right_in (same_Some (assign s r) k h1))

  taken-in : (types : List Ty) (r : Right) (at fin : ℕ) (k : Kind) → taken g types r at ≡ Some (k, fin) → right_in k ≡ Some r
  taken-in types r at fin k h =
      let (u, ue, h1) = bind-some (sign target_of g.ops at) _ (k, fin) h in
      let (end, ee, h2) = bind-some (paced g.ops (paces r) (suc at)) _ (k, fin) h1 in
      let (made, me, h3) = bind-some (taken_by g types r end u) _ (k, fin) h2 in
      ap right_in (sym (first-of made k end fin h3)) ∙ taken-by-in types r end u made me

  call-in : (types : List Ty) (c : Call) (at fin : ℕ) (u : Option Target) (k : Kind) → call_by g types c at u ≡ Some (k, fin)
      → right_in k ≡ Some (result_of c)
  call-in types c at fin (Some u) k h = taken-in types (result_of c) at fin k h
  call-in types c at fin None k h =
      let (end, ee, h1) = bind-some (dropped g.ops c.callee.result at) _ (k, fin) h in
      ap right_in (sym (first-of (call c) k end fin h1))

  -- Statements, where blocks that are told in them fit

  module _ (inner : Inner) (d : ℕ)
      (sound : (types : List Ty) (at : ℕ) (b : Block) (end : ℕ) → inner types at ≡ Some (b, end) → Piece g.ops at (block_ops types at b) end)
      (fit : (types : List Ty) (at : ℕ) (b : Block) (end : ℕ) → inner types at ≡ Some (b, end) → IsBlockFit g types at b × (block_depth b ≤ d))
    where
      module _ (types : List Ty) (line start fin : ℕ) where
        abbrev Found : Kind → Type 0
        Found k = Told_as g types inner line start fin k

        abbrev There : Kind → Type 0
        There k = Stands g types inner line start fin k

        -- the right side of a statement
        right-known : (r : Right) (os : List Op) (k : Kind) → Piece g.ops (suc start) (right_ops types (suc start) r ++ os) fin → Found k
            → right_in k ≡ Some r → IsRightFit g.methods r
        right-known (result_of c) os k p h is =
            let (mid, end, after, tail, reached) = call-parts g types inner line start fin c os p in
            let all = sym (reached ∙ call-reached g types mid end inner line start c after) ∙ h in
            let (x, xe, h1) = bind-some (called g types c.slot c.fields c.args (suc mid)) _ (k, fin) all in
            let in_k = call-in types x.0 x.1 fin (sign target_of g.ops x.1) k h1 in
            let same : x.0 ≡ c = result-same x.0 c (same_Some (result_of x.0) (result_of c) (sym in_k ∙ is)) in
            subst (λ (y : Call). IsCallee g.methods y.callee) same (called-fit types c.slot c.fields c.args (suc mid) x xe)
        right-known (value e) os k p h is = tt
        right-known _ os k p h is = tt

        -- what a slot takes is that statement
        slot-taken : (r : Right) (u : Target) (k : Kind) → IsRightFit g.methods r
            → Piece g.ops (suc start) (right_ops types (suc start) r ++ target_op u ∷ pace_ops r) fin → Found k
            → taken_by g types r fin u ≡ Some k
        slot-taken r u k known p h =
            let (made, me, h1) = bind-some (taken_by g types r fin u) _ (k, fin) (sym (slot-reached g types inner line start fin r u known p) ∙ h) in
            me ∙ ap Some (first-of made k fin fin h1)

        declare-fit : (t : Ty) (r : Right) → There (declare t r) → Found (declare t r) → IsKindFit g types start line (declare t r)
        declare-fit t r p h =
            let n = length types in
            let q = from-mark g types inner line start fin (λ (m : ℕ). right_ops types m r ++ i.Store n ∷ pace_ops r) p in
            let known = right-known r (i.Store n ∷ pace_ops r) (declare t r) q h refl in
            let stores : stored g types r fin n true ≡ Some (declare t r) =
            sym (ap (stored g types r fin n) (eq-eqb n n refl)) ∙ slot-taken r (target.Store n) (declare t r) known q h in
            let (u, there, h1) = bind-some (slot_type g.ops g.maps fin n) _ (declare t r) stores in
            let (l, me, m) = then-some (sign mark_of g.ops fin) (type_mapped g.maps fin n) u there in
            let same : u ≡ t = declare-same u t r r (same_Some (declare u r) (declare t r) h1) in
            (known, subst (λ (a : ℕ). type_mapped g.maps a n ≡ Some t) p.place (m ∙ ap Some same))

        assign-fit : (s : ℕ) (r : Right) → There (assign s r) → Found (assign s r) → IsKindFit g types start line (assign s r)
        assign-fit s r p h =
            let n = length types in
            let q = from-mark g types inner line start fin (λ (m : ℕ). right_ops types m r ++ assign_op types s ∷ pace_ops r) p in
            let known = right-known r (assign_op types s ∷ pace_ops r) (assign s r) q h refl in
            (known, λ (same : s ≡ n). apart known q same)
          where
            apart : IsRightFit g.methods r → Piece g.ops (suc start) (right_ops types (suc start) r ++ assign_op types s ∷ pace_ops r) fin
                → s ≡ length types → ⊥
            apart known q same =
                let plain : is_iso (type_at types s) ≡ false =
                ap (λ (m : ℕ). is_iso (type_at types m)) same
                ∙ ap (λ (o : Option Ty). is_iso (unwrap_or o ty.Int)) (slice_get_past types (length types) (omega arith)) in
                let stored_there =
                piece-is g.ops (ap (λ (b : Truth). right_ops types (suc start) r ++ (if b then i.Own s else i.Store s) ∷ pace_ops r) plain) q in
                let stores : stored g types r fin s true ≡ Some (assign s r) =
                sym (ap (stored g types r fin s) (eq-eqb s (length types) same))
                ∙ slot-taken r (target.Store s) (assign s r) known stored_there h in
                let (u, there, h1) = bind-some (slot_type g.ops g.maps fin s) _ (assign s r) stores in
                declare-not-assign u r r s (same_Some (declare u r) (assign s r) h1)

        write-fit : (s : ℕ) (ks : List ℕ) (k : ℕ) (r : Right) → There (write s ks k r) → Found (write s ks k r) → IsRightFit g.methods r
        write-fit s ks k r p h =
            let (mid, end, after, tail, reached) = write-reached g types inner line start fin s ks k r p in
            let y : Kind × ℕ = (write s ks k r, fin) in
            let (x, xe, h1) = bind-some (right_behind g types (fronts_of r) mid) _ y (sym reached ∙ h) in
            let (j, je, h2) = bind-some (sign put_of g.ops x.1) _ y h1 in
            let (f, fe, h3) = bind-some (paced g.ops (paces x.0) (suc x.1)) _ y h2 in
            let same = write-same s ks j k x.0 r (first-of (write s ks j x.0) (write s ks k r) f fin h3) in
            subst (IsRightFit g.methods) same (right-fit types (fronts_of r) mid x xe)

        element-fit : (s : ℕ) (ks : List ℕ) (e : Raised) (r : Right) → There (write_element s ks e r) → Found (write_element s ks e r)
            → IsRightFit g.methods r
        element-fit s ks e r p h =
            let (mid, end, after, tail, reached) = element-reached g types inner line start fin s ks e r p in
            let y : Kind × ℕ = (write_element s ks e r, fin) in
            let (x, xe, h1) = bind-some (right_behind g types (fronts_of r) mid) _ y (sym reached ∙ h) in
            let (u, ue, h2) = then-some (sign put_element_of g.ops x.1) _ y h1 in
            let (f, fe, h3) = bind-some (paced g.ops (paces x.0) (suc x.1)) _ y h2 in
            let same = element-same s ks e x.0 r (first-of (write_element s ks e x.0) (write_element s ks e r) f fin h3) in
            subst (IsRightFit g.methods) same (right-fit types (fronts_of r) mid x xe)

        call-fit : (c : Call) → There (call c) → Found (call c) → IsCallee g.methods c.callee
        call-fit c p h =
            let drops = dropped_code c.callee.result in
            let q = from-mark g types inner line start fin (λ (n : ℕ). call_ops types n c ++ drops) p in
            right-known (result_of c) drops (call c) q h refl

        -- behind a test: an `if` without a second block, a loop, or an `if` with one

        abbrev After : Raised → (end : ℕ) → Block → Kind → Type 0
        After e end b k =
            (k ≡ branch e b no_else)
            ⊎ ((k ≡ while e b) ⊎ ((c : Block) × (last : ℕ) × (inner types (suc end) ≡ Some (c, last)) × (k ≡ branch e b (otherwise c))))

        jumped-as : (e : Raised) (b : Block) (fails end : ℕ) (k : Kind) → jumped g inner types line start e b fails end ≡ Some (k, fin)
            → (k ≡ while e b) ⊎ ((c : Block) × (last : ℕ) × (inner types (suc end) ≡ Some (c, last)) × (k ≡ branch e b (otherwise c)))
        jumped-as e b fails end k h =
            let (to, te, h1) = bind-some (sign jump_of g.ops end) _ (k, fin) h in
            let (is, h2) = test-some (fails == suc end) _ (k, fin) h1 in
            by to (to == start) h2
          where
            by : (to : ℕ) (back : Truth)
                → (if back then Some (while e b, suc end) else otherwise_told g inner types line e b to (suc end)) ≡ Some (k, fin)
                → (k ≡ while e b) ⊎ ((c : Block) × (last : ℕ) × (inner types (suc end) ≡ Some (c, last)) × (k ≡ branch e b (otherwise c)))
            by to true h = inl (sym (first-of (while e b) k (suc end) fin h))
            by to false h =
                let (c, ce, h1) = bind-some (inner types (suc end)) _ (k, fin) h in
                let (f, fe, h2) = bind-some (ended end_of g.ops line (length types) c.1) _ (k, fin) h1 in
                let (is, h3) = test-some (to == f) _ (k, fin) h2 in
                inr (c.0, c.1, ce, sym (first-of (branch e b (otherwise c.0)) k f fin h3))

        tested-as : (e : Raised) (fails at : ℕ) (k : Kind) → tested g inner types line start e fails at ≡ Some (k, fin)
            → (b : Block) × (last : ℕ) × (inner types at ≡ Some (b, last)) × After e (at + length (block_ops types at b) + 2) b k
        tested-as e fails at k h =
            let (b, be, h1) = bind-some (inner types at) _ (k, fin) h in
            let (f, fe, h2) = bind-some (ended end_of g.ops line (length types) b.1) _ (k, fin) h1 in
            let ends = ended-piece g end-is line (length types) b.1 f fe in
            let code = sound types at b.0 b.1 be in
            let there : f ≡ at + length (block_ops types at b.0) + 2 = omega (arith, ends.place, code.place) in
            (b.0, b.1, be, subst (λ (n : ℕ). After e n b.0 k) there (by b.0 f (fails == f) h2))
          where
            by : (b : Block) (f : ℕ) (alone : Truth)
                → (if alone then Some (branch e b no_else, f) else jumped g inner types line start e b fails f) ≡ Some (k, fin) → After e f b k
            by b f true h = inl (sym (first-of (branch e b no_else) k f fin h))
            by b f false h = inr (jumped-as e b fails f k h)

        abbrev behind_test : Raised → ℕ
        behind_test e = start + 1 + length (whole_ops types (start + 1) e) + 1

        abbrev Good : Raised → Block → Else → Type 0
        Good e b other =
            (IsBlockFit g types (behind_test e) b
            × IsElseFit g types (behind_test e + length (block_ops types (behind_test e) b) + 2) other)
            × (max (block_depth b) (else_depth other) ≤ d)

        good-as : (e : Raised) (b a : Block) (other x : Else) → branch e b other ≡ branch e a x → Good e a x → Good e b other
        good-as e b a other x same good =
            let (b_is, other_is) = branch-same e b a other x same in
            subst (λ (y : Block). Good e y other) (sym b_is) (subst (λ (y : Else). Good e a y) (sym other_is) good)

        branch-by : (e : Raised) (b a : Block) (other : Else) (last : ℕ) → inner types (behind_test e) ≡ Some (a, last)
            → After e (behind_test e + length (block_ops types (behind_test e) a) + 2) a (branch e b other) → Good e b other
        branch-by e b a other last ae (inl same) =
            let (fits, deep) = fit types (behind_test e) a last ae in
            good-as e b a other no_else same ((fits, tt), max-le deep (omega arith))
        branch-by e b a other last ae (inr (inl same)) = absurd (branch-not-while e b a other same)
        branch-by e b a other last ae (inr (inr (c, end, ce, same))) =
            let (fits, deep) = fit types (behind_test e) a last ae in
            let second_at : ℕ = behind_test e + length (block_ops types (behind_test e) a) + 2 in
            let (second, second_deep) = fit types (suc second_at) c end ce in
            let there : suc second_at ≡ second_at + 1 = omega arith in
            good-as e b a other (otherwise c) same
            ((fits, subst (λ (n : ℕ). IsBlockFit g types n c) there second), max-le deep second_deep)

        branch-fit : (e : Raised) (b : Block) (other : Else) → There (branch e b other) → Found (branch e b other) → Good e b other
        branch-fit e b other p h =
            let at : ℕ = behind_test e in
            let block = block_ops types at b in
            let fails : ℕ = at + length block + else_gap other in
            let tail = block ++ i.Mark line ∷ i.End (length types) ∷ else_ops types (at + length block + 2) line other in
            let (told, rest) = test-told g types inner line start fin e fails tail p in
            let (a, last, ae, after) = tested-as e fails at (branch e b other) (sym told ∙ h) in
            branch-by e b a other last ae after

        while-fit : (e : Raised) (b : Block) → There (while e b) → Found (while e b)
            → IsBlockFit g types (behind_test e) b × (block_depth b ≤ d)
        while-fit e b p h =
            let at : ℕ = behind_test e in
            let block = block_ops types at b in
            let fails : ℕ = at + length block + 3 in
            let tail = block ++ i.Mark line ∷ i.End (length types) ∷ i.Jump start ∷ [] in
            let (told, rest) = test-told g types inner line start fin e fails tail p in
            let (a, last, ae, after) = tested-as e fails at (while e b) (sym told ∙ h) in
            subst (λ (x : Block). IsBlockFit g types at x × (block_depth x ≤ d)) (sym (by a after)) (fit types at a last ae)
          where
            by : (a : Block) → After e (behind_test e + length (block_ops types (behind_test e) a) + 2) a (while e b) → b ≡ a
            by a (inl same) = absurd (branch-not-while e a b no_else (sym same))
            by a (inr (inl same)) = while-same e b a same
            by a (inr (inr (c, end, ce, same))) = absurd (branch-not-while e a b (otherwise c) (sym same))

        -- windows

        abbrev Within : (at c : ℕ) → Block → Type 0
        Within at c b =
            ((type_mapped g.maps at (length types) ≡ Some (ty.Ref cap.Mut c)) × IsBlockFit g (types_inside types c) at b) × (block_depth b ≤ d)

        window-as : (at : ℕ) (made x : (ℕ × Block × Option ℕ) × ℕ) → Some made ≡ Some x → Within at made.0.0 made.0.1 → Within at x.0.0 x.0.1
        window-as at made x e good = subst (λ (y : (ℕ × Block × Option ℕ) × ℕ). Within at y.0.0 y.0.1) (same_Some made x e) good

        window-fit : (at : ℕ) (x : (ℕ × Block × Option ℕ) × ℕ) → window g inner types line (length types) at ≡ Some x → Within at x.0.0 x.0.1
        window-fit at x h =
            let n = length types in
            let (is, h1) = test-some (n == n) _ x h in
            let (t, te, h2) = bind-some (slot_type g.ops g.maps at n) _ x h1 in
            let (c, ce, h3) = bind-some (bridge_class t) _ x h2 in
            let (b, be, h4) = bind-some (inner (types_inside types c) at) _ x h3 in
            let (w, we, h5) = bind-some (window_end g.ops line n b.1) _ x h4 in
            let (l, le, m) = then-some (sign mark_of g.ops at) (type_mapped g.maps at n) t te in
            let (fits, deep) = fit (types_inside types c) at b.0 b.1 be in
            window-as at ((c, b.0, w.0), w.1) x h5 ((m ∙ ap Some (bridge-is t c ce), fits), deep)

        within-as : (at c a : ℕ) (b x : Block) → (a ≡ c) × (x ≡ b) → Within at a x → Within at c b
        within-as at c a b x (same_class, same_block) good =
            subst (λ (y : Block). Within at c y) same_block (subst (λ (k : ℕ). Within at k x) same_class good)

        enter-fit : (s c : ℕ) (b : Block) (w : Option ℕ) → There (enter s c b w) → Found (enter s c b w) → Within (start + 1 + 1) c b
        enter-fit s c b w p h =
            let at : ℕ = start + 1 + 1 in
            let (whole, reached) = enter-reached g types inner line start fin s c b w p in
            let (x, xe, h1) = bind-some (window g inner types line (length types) at) _ (enter s c b w, fin) (sym reached ∙ h) in
            let same = first-of (enter s x.0.0 x.0.1 x.0.2) (enter s c b w) x.1 fin h1 in
            within-as at c x.0.0 b x.0.1 (enter-same s x.0.0 c x.0.1 b x.0.2 w same) (window-fit at x xe)

        field-fit : (s : ℕ) (ks : List ℕ) (k c : ℕ) (b : Block) (w : Option ℕ) → There (enter_field s ks k c b w) → Found (enter_field s ks k c b w)
            → Within (behind_field g types inner line start fin s ks k) c b
        field-fit s ks k c b w p h =
            let at : ℕ = behind_field g types inner line start fin s ks k in
            let (whole, reached) = field-reached g types inner line start fin s ks k c b w p in
            let (x, xe, h1) = bind-some (window g inner types line (length types) at) _ (enter_field s ks k c b w, fin) (sym reached ∙ h) in
            let same = first-of (enter_field s ks k x.0.0 x.0.1 x.0.2) (enter_field s ks k c b w) x.1 fin h1 in
            within-as at c x.0.0 b x.0.1 (field-same s ks k x.0.0 c x.0.1 b x.0.2 w same) (window-fit at x xe)

        kind-fit : (k : Kind) → There k → Found k → IsKindFit g types start line k × (kind_depth k ≤ d)
        kind-fit (declare t r) p h = (declare-fit t r p h, omega arith)
        kind-fit (assign s r) p h = (assign-fit s r p h, omega arith)
        kind-fit (write s ks k r) p h = (write-fit s ks k r p h, omega arith)
        kind-fit (write_element s ks e r) p h = (element-fit s ks e r p h, omega arith)
        kind-fit (call c) p h = (call-fit c p h, omega arith)
        kind-fit (swap y s ks k) p h = (tt, omega arith)
        kind-fit (branch e b other) p h = branch-fit e b other p h
        kind-fit (while e b) p h = while-fit e b p h
        kind-fit (enter s c b w) p h = enter-fit s c b w p h
        kind-fit (enter_field s ks k c b w) p h = field-fit s ks k c b w p h
        kind-fit (print e) p h = (tt, omega arith)
        kind-fit collect p h = (tt, omega arith)
        kind-fit (return e) p h = (tt, omega arith)

      -- Blocks

      abbrev FitIn : Inner → Type 0
      FitIn others =
          (types : List Ty) (at : ℕ) (b : Block) (end : ℕ) → others types at ≡ Some (b, end) → IsBlockFit g types at b × (block_depth b ≤ suc d)

      followed-fit : (others : Inner) → FitIn others → (types : List Ty) (at line mid : ℕ) (k : Kind) (last : Truth) (b : Block) (end : ℕ)
          → is_last k ≡ last → mid ≡ at + length (kind_ops types at line k) → IsKindFit g types at line k × (kind_depth k ≤ d)
          → followed others types line k mid last ≡ Some (b, end) → IsBlockFit g types at b × (block_depth b ≤ suc d)
      followed-fit others fits types at line mid k true b end l where_it_ends (own, deep) h =
          let le : suc (kind_depth k) ≤ suc d = omega (arith, deep) in
          subst (λ (c : Block). IsBlockFit g types at c × (block_depth c ≤ suc d)) (first-of (next line k empty) b mid end h)
          ((own, (λ e. refl), tt), max-le le (omega arith))
      followed-fit others fits types at line mid k false b end l where_it_ends (own, deep) h =
          let (c, ce, h1) = bind-some (others (types_behind types k) mid) _ (b, end) h in
          let (rest, rest_deep) = fits (types_behind types k) mid c.0 c.1 ce in
          let le : suc (kind_depth k) ≤ suc d = omega (arith, deep) in
          let there = subst (λ (n : ℕ). IsBlockFit g (types_behind types k) n c.0) where_it_ends rest in
          subst (λ (c : Block). IsBlockFit g types at c × (block_depth c ≤ suc d)) (first-of (next line k c.0) b c.1 end h1)
          ((own, (λ e. absurd (false≢true (sym l ∙ e))), there), max-le le rest_deep)

      block-by-fit : (others : Inner) → FitIn others → (types : List Ty) (at : ℕ) (o : Option ℕ) (b : Block) (end : ℕ) → starts g.ops at ≡ o
          → block_by g inner others types at o ≡ Some (b, end) → IsBlockFit g types at b × (block_depth b ≤ suc d)
      block-by-fit others fits types at None b end f h =
          subst (λ (c : Block). IsBlockFit g types at c × (block_depth c ≤ suc d)) (first-of empty b at end h) (tt, omega arith)
      block-by-fit others fits types at (Some line) b end f h =
          let (k, ke, h1) = bind-some (kind_told g inner types line at) _ (b, end) h in
          let p = kind-piece g types line at (starts-marked g at line f) inner sound k.1 k.0 ke in
          followed-fit others fits types at line k.1 k.0 (is_last k.0) b end refl p.place (kind-fit types line at k.1 k.0 p ke) h1

      statements-fit : (n : ℕ) → FitIn (statements g inner n)
      statements-fit zero types at b end h = absurd cc
      statements-fit (suc n) types at b end h = block-by-fit (statements g inner n) (statements-fit n) types at (starts g.ops at) b end refl h

  block-fit : (depth : ℕ) (types : List Ty) (at : ℕ) (b : Block) (end : ℕ) → block_told g depth types at ≡ Some (b, end)
      → IsBlockFit g types at b × (block_depth b ≤ depth)
  unfolding block_told
  block-fit zero types at b end h = absurd cc
  block-fit (suc d) types at b end h =
      statements-fit (block_told g d) d (block-piece g d) (block-fit d) (suc (length g.ops)) types at b end h

tells-by : (g : Given) (depth : ℕ) (types : List Ty) (at : ℕ) (o : Told Block) → block_told g depth types at ≡ o → TellsBlock g depth types at o
tells-by g depth types at None h = λ b end s le. absurd (by b end s le)
  where
    by : (b : Block) (end : ℕ) → BlockStand g types at b end → block_depth b ≤ depth → ⊥
    by b end s le = let told = sym h ∙ standing-blocks-are-told g depth types at b end le s in absurd cc
tells-by g depth types at (Some (b, end)) h =
    let (fits, deep) = block-fit g depth types at b end h in
    let code = raised-blocks-stand g depth types at b end h in
    (deep, (λ closes. record { code = code; fits = fits; closes = closes }), λ c fin s le. once c fin s le)
  where
    once : (c : Block) (fin : ℕ) → BlockStand g types at c fin → block_depth c ≤ depth → (c ≡ b) × (fin ≡ end)
    once c fin s le =
        let x : Block × ℕ = (c, fin) in
        let y : Block × ℕ = (b, end) in
        let both : x ≡ y = same_Some x y (sym (standing-blocks-are-told g depth types at c fin le s) ∙ h) in
        (ap (λ (z : Block × ℕ). z.0) both, ap (λ (z : Block × ℕ). z.1) both)

pub blocks-are-told : BlocksAreTold
blocks-are-told g depth types at = tells-by g depth types at (block_told g depth types at) refl
