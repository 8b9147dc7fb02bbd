-- Right sides are told from their code.
use Rattle.std.proofs.Common.{◌≡◌, ℕ, suc, ◌+◌, List, [], ◌∷◌, ◌++◌, length, map, slice_get}
use Rattle.std.proofs.Common.{Option, Some, None, option_map, refl, sym, ap, ◌∙◌, append_assoc}
use Rattle.std.proofs.lemmas.List.{append-nil}
use Rattle.std.proofs.lemmas.Option.{same_Some}
use Rattle.rg_base.specs.declared.ty.Ty.{Ty}
use Rattle.rg_code.specs.declared.op.Op.{Op}
use Rattle.rg_code.specs.declared.op.Op.TheVariants as i
use Rattle.rg_code.specs.Lowering.{clears}
use Rattle.rg_verify_expressions.specs.declared.callee.Callee.{Callee}
use Rattle.rg_verify_expressions.specs.declared.signs.Making.{Making}
use Rattle.rg_verify_expressions.specs.declared.signs.Making.TheVariants as making
use Rattle.rg_verify_expressions.specs.declared.signs.Target.{Target}
use Rattle.rg_verify_expressions.specs.declared.signs.Walk.{Walk}
use Rattle.rg_verify_expressions.specs.declared.signs.Walk.TheVariants as walk
use Rattle.rg_verify_expressions.specs.declared.signs.Behind.TheVariants as behinds
use Rattle.rg_verify_expressions.specs.Raised.{Raised, Front, expression, object, holder_ops, ops_of, fronts_ops}
use Rattle.rg_verify_expressions.specs.Parts.{part_of}
use Rattle.rg_verify_expressions.specs.Statements.{Call, Right, value, new, new_tmp, new_iso, freeze, merge, read, more, result_of, used, all_used, new_ops}
use Rattle.rg_verify_expressions.specs.Statements.{right_ops, pace_ops}
use Rattle.rg_verify_expressions.specs.Signs.{making_of, target_of, close_of, open_of, walk_of, behind_of, call_of, pace_of}
use Rattle.rg_verify_expressions.specs.Blocks.{◌>>=◌, Given, sign, cleared, called, right_of, right_by, result_by, right_behind, paces}
use Rattle.rg_verify_expressions.specs.Blocks.{paced, taken, call_by, written_to, room_by, object_by, Inner, close_by, expr_by, open_by, kind_by, Piece}
use Rattle.rg_verify_expressions.specs.Standing.{IsCallee, IsRightFit}
use Rattle.rg_verify_expressions.proofs.Pieces.{piece-parts, piece-is}
use Rattle.rg_verify_expressions.proofs.Reading.{bind-is, then-is, first, behind, past, stays, cleared-told, behind-clears, values-told, values-code}

-- The code of a right side: fronts, and what stands behind them

abbrev count_fronts : Option Raised → List Front
count_fronts None = []
count_fronts (Some e) = expression e ∷ []

abbrev pub fronts_of : Right → List Front
fronts_of (value e) = expression e ∷ []
fronts_of (new c n) = count_fronts n
fronts_of (new_tmp c n) = count_fronts n
fronts_of (new_iso c n m) = count_fronts n
fronts_of (freeze s) = []
fronts_of (merge s) = []
fronts_of read = []
fronts_of more = []
fronts_of (result_of c) = object c.slot c.fields ∷ map expression c.args

abbrev count_op : (one many : Op) → Option Raised → Op
count_op one many None = one
count_op one many (Some e) = many

abbrev pub after_ops : (types : List Ty) → Right → List Op
after_ops types (value e) = clears (used types e)
after_ops types (new c n) = count_op (i.New c) (i.NewArray c) n ∷ []
after_ops types (new_tmp c n) = count_op (i.NewTmp c) (i.NewTmpArray c) n ∷ []
after_ops types (new_iso c n m) = count_op (i.NewIso c m) (i.NewIsoArray c m) n ∷ []
after_ops types (freeze s) = i.Freeze s ∷ []
after_ops types (merge s) = i.Merge s ∷ []
after_ops types read = i.Read ∷ []
after_ops types more = i.More ∷ []
after_ops types (result_of c) = i.Room ∷ (clears (all_used types c.args) ++ i.Call c.callee.number ∷ [])

count-code : (at : ℕ) (o a : Op) (n : Option Raised) → new_ops at o a n ≡ fronts_ops at (count_fronts n) ++ count_op o a n ∷ []
count-code at o a None = refl
count-code at o a (Some e) = ap (λ (os : List Op). os ++ a ∷ []) (sym (append-nil (ops_of at e)))

right-code : (types : List Ty) (at : ℕ) (r : Right) → right_ops types at r ≡ fronts_ops at (fronts_of r) ++ after_ops types r
right-code types at (value e) = ap (λ (os : List Op). os ++ clears (used types e)) (sym (append-nil (ops_of at e)))
right-code types at (new c n) = count-code at (i.New c) (i.NewArray c) n
right-code types at (new_tmp c n) = count-code at (i.NewTmp c) (i.NewTmpArray c) n
right-code types at (new_iso c n m) = count-code at (i.NewIso c m) (i.NewIsoArray c m) n
right-code types at (freeze s) = refl
right-code types at (merge s) = refl
right-code types at read = refl
right-code types at more = refl
right-code types at (result_of c) =
    let receiver = holder_ops c.slot c.fields in
    let inside : ℕ = at + length receiver in
    let calls = i.Room ∷ (clears (all_used types c.args) ++ i.Call c.callee.number ∷ []) in
    ap (λ (os : List Op). receiver ++ (os ++ calls)) (sym (values-code c.args inside))
    ∙ sym (append_assoc receiver (fronts_ops inside (map expression c.args)) calls)

-- a method by its number
callee-given : (n : ℕ) (c : Callee) (o : Option Callee) → option_map (λ (m : Callee). record m { number = n }) o ≡ Some c
    → (m : Callee) × (o ≡ Some m) × (record m { number = n } ≡ c)
callee-given n c None h = absurd cc
callee-given n c (Some m) h = (m, refl, same_Some (record m { number = n }) c h)

module _ (g : Given) (types : List Ty) where
  pub right-pieces : (r : Right) (at end : ℕ) → Piece g.ops at (right_ops types at r) end
      → Piece g.ops at (fronts_ops at (fronts_of r)) (at + length (fronts_ops at (fronts_of r)))
      × Piece g.ops (at + length (fronts_ops at (fronts_of r))) (after_ops types r) end
  right-pieces r at end p =
      piece-parts g.ops at end (fronts_ops at (fronts_of r)) (after_ops types r) (piece-is g.ops (right-code types at r) p)

  -- behind the fronts of a right side, whose code ends there
  module _ (mid end : ℕ) where
    pub after-ends : (r : Right) → Piece g.ops mid (after_ops types r) end → sign part_of g.ops end ≡ None → sign part_of g.ops mid ≡ None
    after-ends (value e) p h = behind-clears part_of (used types e) mid end (λ s. refl) p h
    after-ends (new c None) p h = first _ p
    after-ends (new_tmp c None) p h = first _ p
    after-ends (new_iso c None m) p h = first _ p
    after-ends _ p h = first _ p

    whole-cleared : (e : Raised) → Piece g.ops mid (clears (used types e)) end → cleared g.ops (all_used types (e ∷ [])) mid ≡ Some end
    whole-cleared e p =
        ap (λ (ss : List ℕ). cleared g.ops ss mid) (append-nil (used types e)) ∙ cleared-told (used types e) mid end p

    made : (m : Making) (o : Op) → making_of o ≡ Some m → Piece g.ops mid (o ∷ []) end → right_behind g types [] mid ≡ Some (right_of m, end)
    made m o e p = bind-is (sign making_of g.ops mid) _ m (first _ p ∙ e) ∙ ap (λ (n : ℕ). Some (right_of m, n)) (past p)

    made-array : (w : Walk) (o : Op) (e : Raised) (r : Right) → walk_of o ≡ Some w
        → ((n : ℕ) → right_by g types e n (Some w) ≡ Some (r, suc n))
        → Piece g.ops mid (o ∷ []) end → right_behind g types (expression e ∷ []) mid ≡ Some (r, end)
    made-array w o e r is f p =
        ap (right_by g types e mid) (first _ p ∙ is) ∙ f mid ∙ ap (λ (n : ℕ). Some (r, n)) (past p)

  -- behind `room`
  pub called-told : (c : Call) (at end : ℕ) → IsCallee g.methods c.callee
      → Piece g.ops at (clears (all_used types c.args) ++ i.Call c.callee.number ∷ []) end
      → called g types c.slot c.fields c.args at ≡ Some (c, end)
  called-told c at end h p =
      let n : ℕ = c.callee.number in
      let slots = all_used types c.args in
      let b : ℕ = at + length (clears slots) in
      let (cl, call) = piece-parts g.ops at end (clears slots) (i.Call n ∷ []) p in
      let (m, there, same) = callee-given n c.callee (slice_get g.methods n) h in
      bind-is (cleared g.ops slots at) _ b (cleared-told slots at b cl)
      ∙ bind-is (sign call_of g.ops b) _ n (first _ call)
      ∙ bind-is (slice_get g.methods n) _ m there
      ∙ ap (λ (x : Callee). Some (record { slot = c.slot; fields = c.fields; callee = x; args = c.args }, suc b)) same
      ∙ ap (λ (k : ℕ). Some (c, k)) (past call)

  module _ (mid end : ℕ) where
    pub right-told : (r : Right) → IsRightFit g.methods r → Piece g.ops mid (after_ops types r) end → sign walk_of g.ops end ≡ None
        → right_behind g types (fronts_of r) mid ≡ Some (r, end)
    right-told (value e) h p w =
        ap (right_by g types e mid) (behind-clears walk_of (used types e) mid end (λ s. refl) p w)
        ∙ bind-is (cleared g.ops (all_used types (e ∷ [])) mid) _ end (whole-cleared mid end e p)
    right-told (new c None) h p w = made mid end (making.New c) (i.New c) refl p
    right-told (new c (Some e)) h p w = made-array mid end (walk.New c) (i.NewArray c) e (new c (Some e)) refl (λ n. refl) p
    right-told (new_tmp c None) h p w = made mid end (making.NewTmp c) (i.NewTmp c) refl p
    right-told (new_tmp c (Some e)) h p w = made-array mid end (walk.NewTmp c) (i.NewTmpArray c) e (new_tmp c (Some e)) refl (λ n. refl) p
    right-told (new_iso c None m) h p w = made mid end (making.NewIso c m) (i.NewIso c m) refl p
    right-told (new_iso c (Some e) m) h p w =
        made-array mid end (walk.NewIso c m) (i.NewIsoArray c m) e (new_iso c (Some e) m) refl (λ n. refl) p
    right-told (freeze s) h p w = made mid end (making.Freeze s) (i.Freeze s) refl p
    right-told (merge s) h p w = made mid end (making.Merge s) (i.Merge s) refl p
    right-told read h p w = made mid end making.Read i.Read refl p
    right-told more h p w = made mid end making.More i.More refl p
    right-told (result_of c) h p w =
        ap (λ (args : Option (List Raised)). result_by g types c.slot c.fields args mid) (values-told c.args)
        ∙ bind-is (sign behind_of g.ops mid) _ behinds.Room (first _ p)
        ∙ bind-is (called g types c.slot c.fields c.args (suc mid)) _ (c, end) (called-told c (suc mid) end h (behind p))

    -- an object in front of a right side: a field of it is written
    pub written-told : (s : ℕ) (ks : List ℕ) (r : Right) → Piece g.ops mid (after_ops types r) end → sign behind_of g.ops end ≡ None
        → object_by g types s ks (fronts_of r) mid (sign behind_of g.ops mid) ≡ written_to g types s ks (fronts_of r) mid
    written-told s ks (value e) p h =
        ap (object_by g types s ks (expression e ∷ []) mid) (behind-clears behind_of (used types e) mid end (λ s. refl) p h)
    written-told s ks (new c None) p h = ap (object_by g types s ks [] mid) (first _ p)
    written-told s ks (new c (Some e)) p h = ap (object_by g types s ks (expression e ∷ []) mid) (first _ p)
    written-told s ks (new_tmp c None) p h = ap (object_by g types s ks [] mid) (first _ p)
    written-told s ks (new_tmp c (Some e)) p h = ap (object_by g types s ks (expression e ∷ []) mid) (first _ p)
    written-told s ks (new_iso c None m) p h = ap (object_by g types s ks [] mid) (first _ p)
    written-told s ks (new_iso c (Some e) m) p h = ap (object_by g types s ks (expression e ∷ []) mid) (first _ p)
    written-told s ks (freeze t) p h = ap (object_by g types s ks [] mid) (first _ p)
    written-told s ks (merge t) p h = ap (object_by g types s ks [] mid) (first _ p)
    written-told s ks read p h = ap (object_by g types s ks [] mid) (first _ p)
    written-told s ks more p h = ap (object_by g types s ks [] mid) (first _ p)
    written-told s ks (result_of c) p h = ap (object_by g types s ks (object c.slot c.fields ∷ map expression c.args) mid) (first _ p)

    -- alone, behind the mark of a statement
    module _ (inner : Inner) (line start : ℕ) where
      -- a whole expression
      pub whole-by : (e : Raised) → Piece g.ops mid (clears (used types e)) end → sign walk_of g.ops end ≡ None
          → kind_by g inner types line start (expression e ∷ []) mid ≡ close_by g inner types line start e end (sign close_of g.ops end)
      whole-by e p w =
          ap (expr_by g inner types line start e mid) (behind-clears walk_of (used types e) mid end (λ s. refl) p w)
          ∙ bind-is (cleared g.ops (all_used types (e ∷ [])) mid) _ end (whole-cleared mid end e p)

      -- a call
      pub call-reached : (c : Call) → Piece g.ops mid (after_ops types (result_of c)) end
          → kind_by g inner types line start (fronts_of (result_of c)) mid
          ≡ ◌>>=◌ (called g types c.slot c.fields c.args (suc mid)) (λ (x : Call × ℕ). call_by g types x.0 x.1 (sign target_of g.ops x.1))
      call-reached c p =
          ap (object_by g types c.slot c.fields (map expression c.args) mid) (first _ p)
          ∙ ap (λ (args : Option (List Raised)). room_by g types c.slot c.fields (map expression c.args) args mid) (values-told c.args)

      pub called-by : (c : Call) → IsCallee g.methods c.callee → Piece g.ops mid (after_ops types (result_of c)) end
          → kind_by g inner types line start (fronts_of (result_of c)) mid ≡ call_by g types c end (sign target_of g.ops end)
      called-by c h p =
          call-reached c p
          ∙ bind-is (called g types c.slot c.fields c.args (suc mid)) _ (c, end) (called-told c (suc mid) end h (behind p))

      -- a right side that goes into a slot

      made-taken : (m : Making) (o : Op) → making_of o ≡ Some m → open_of o ≡ None → Piece g.ops mid (o ∷ []) end
          → kind_by g inner types line start [] mid ≡ taken g types (right_of m) end
      made-taken m o e f p =
          ap (open_by g inner types line mid) (first _ p ∙ f)
          ∙ bind-is (right_behind g types [] mid) _ (right_of m, end) (made mid end m o e p)

      array-taken : (w : Walk) (o : Op) (e : Raised) (r : Right) → walk_of o ≡ Some w
          → ((n : ℕ) → expr_by g inner types line start e n (Some w) ≡ taken g types r (suc n))
          → Piece g.ops mid (o ∷ []) end → kind_by g inner types line start (expression e ∷ []) mid ≡ taken g types r end
      array-taken w o e r is f p = ap (expr_by g inner types line start e mid) (first _ p ∙ is) ∙ f mid ∙ ap (taken g types r) (past p)

      pub right-taken : (r : Right) (u : Target) → IsRightFit g.methods r → Piece g.ops mid (after_ops types r) end
          → sign walk_of g.ops end ≡ None → sign close_of g.ops end ≡ None → sign target_of g.ops end ≡ Some u
          → kind_by g inner types line start (fronts_of r) mid ≡ taken g types r end
      right-taken (value e) u h p w f t = whole-by e p w ∙ ap (close_by g inner types line start e end) f
      right-taken (new c None) u h p w f t = made-taken (making.New c) (i.New c) refl refl p
      right-taken (new c (Some e)) u h p w f t = array-taken (walk.New c) (i.NewArray c) e (new c (Some e)) refl (λ n. refl) p
      right-taken (new_tmp c None) u h p w f t = made-taken (making.NewTmp c) (i.NewTmp c) refl refl p
      right-taken (new_tmp c (Some e)) u h p w f t = array-taken (walk.NewTmp c) (i.NewTmpArray c) e (new_tmp c (Some e)) refl (λ n. refl) p
      right-taken (new_iso c None m) u h p w f t = made-taken (making.NewIso c m) (i.NewIso c m) refl refl p
      right-taken (new_iso c (Some e) m) u h p w f t =
          array-taken (walk.NewIso c m) (i.NewIsoArray c m) e (new_iso c (Some e) m) refl (λ n. refl) p
      right-taken (freeze s) u h p w f t = made-taken (making.Freeze s) (i.Freeze s) refl refl p
      right-taken (merge s) u h p w f t = made-taken (making.Merge s) (i.Merge s) refl refl p
      right-taken read u h p w f t = made-taken making.Read i.Read refl refl p
      right-taken more u h p w f t = made-taken making.More i.More refl refl p
      right-taken (result_of c) u h p w f t = called-by c h p ∙ ap (call_by g types c end) t

  -- what comes last

  pub paced-told : (r : Right) (at end : ℕ) → Piece g.ops at (pace_ops r) end → paced g.ops (paces r) at ≡ Some end
  paced-told (new c n) at end p = then-is (sign pace_of g.ops at) (Some (suc at)) tt (first _ p) ∙ ap Some (past p)
  paced-told _ at end p = ap Some (stays p)
