-- The block that is raised at an address has the code that stands there.
use Rattle.std.proofs.Common.{◌≡◌, ◌==◌, ℕ, zero, suc, ◌+◌, if◌then◌else◌, Bool as Truth, true, false, not, List, [], ◌∷◌, ◌++◌, length, slice_get}
use Rattle.std.proofs.Common.{Option, Some, None, refl, sym, ap, ◌∙◌, subst, append_assoc, arith}
use Rattle.std.proofs.lemmas.List.{append-nil}
use Rattle.std.proofs.lemmas.Option.{same_Some}
use Rattle.rg_base.specs.declared.ty.Ty.{Ty}
use Rattle.rg_rules.specs.Capabilities.{is_iso}
use Rattle.rg_code.specs.declared.op.Op.{Op}
use Rattle.rg_code.specs.declared.op.Op.TheVariants as i
use Rattle.rg_code.specs.Lowering.{dropped_code, clears}
use Rattle.rg_verify_expressions.specs.declared.signs.Target.{Target}
use Rattle.rg_verify_expressions.specs.declared.signs.Target.TheVariants as target
use Rattle.rg_verify_expressions.specs.declared.signs.Close.{Close}
use Rattle.rg_verify_expressions.specs.declared.signs.Close.TheVariants as close
use Rattle.rg_verify_expressions.specs.declared.signs.Open.{Open}
use Rattle.rg_verify_expressions.specs.declared.signs.Open.TheVariants as opens
use Rattle.rg_verify_expressions.specs.declared.signs.Walk.{Walk}
use Rattle.rg_verify_expressions.specs.declared.signs.Walk.TheVariants as walk
use Rattle.rg_verify_expressions.specs.declared.signs.Behind.{Behind}
use Rattle.rg_verify_expressions.specs.declared.signs.Behind.TheVariants as behind
use Rattle.rg_verify_expressions.specs.Raised.{Raised, Front, expression, object, place, path_ops, holder_ops, place_ops, ops_of, all_ops, fronts_ops}
use Rattle.rg_verify_expressions.specs.Statements.{Call, Right, value, new, new_tmp, new_iso, freeze, merge, read, more, result_of, Kind, declare, assign, write}
use Rattle.rg_verify_expressions.specs.Statements.{write_element, call, swap, branch, while, enter, enter_field, print, collect, return, no_else, otherwise}
use Rattle.rg_verify_expressions.specs.Statements.{Block, empty}
use Rattle.rg_verify_expressions.specs.Statements.{next, type_at, used, all_used, types_behind, types_inside, whole_ops, call_ops, right_ops, pace_ops, leave_op}
use Rattle.rg_verify_expressions.specs.Statements.{kind_ops, block_ops}
use Rattle.rg_verify_expressions.specs.Signs.{making_of, target_of, close_of, open_of, walk_of, behind_of, mark_of, call_of, put_of, jump_of, end_of, leave_of}
use Rattle.rg_verify_expressions.specs.Signs.{put_element_of, left_of, pace_of, closing_of}
use Rattle.rg_verify_expressions.specs.Blocks.{Given, sign, slot_type, bridge_class, fronts_at, values_in, path_in, cleared, called, is_room, right_of, right_by}
use Rattle.rg_verify_expressions.specs.Blocks.{result_by, right_behind, paces, paced, stored, taken_by, taken, dropped, call_by, written_to, element_written}
use Rattle.rg_verify_expressions.specs.Blocks.{room_by, swap_by, object_by, ended, Inner, otherwise_told, jumped, tested, close_by, window_end, window, expr_by}
use Rattle.rg_verify_expressions.specs.Blocks.{open_by, kind_by}
use Rattle.rg_verify_expressions.specs.Blocks.{kind_told, starts_by, starts}
use Rattle.rg_verify_expressions.specs.Blocks.{is_last, followed, block_by, statements, block_told, Piece, RaisedBlocksStand}
use Rattle.rg_verify_expressions.proofs.Pieces.{bind-some, then-some, test-some, equal, piece-nil, piece-then, piece-parts, piece-is}
use Rattle.rg_verify_expressions.proofs.Pieces.{target_op, walk_op, behind_op, left_op}
use Rattle.rg_verify_expressions.proofs.Pieces.{target-is, close-is, open-is, walk-is, behind-is, mark-is, call-is, put-is, jump-is, end-is, leave-is, left-is}
use Rattle.rg_verify_expressions.proofs.Pieces.{put-element-is, pace-is, path-is, values-ops, sign-piece, making-piece, fronts-piece, cleared-piece}

not-true : (b : Truth) → not b ≡ true → b ≡ false
not-true true e = absurd cc
not-true false e = refl

room-is : (b : Behind) → is_room b ≡ true → behind_op b ≡ i.Room
room-is behind.Room e = refl
room-is (behind.Swap s k) e = absurd cc

left-code : (iso owns : Truth) → (if iso then owns else not owns) ≡ true → left_op owns ∷ [] ≡ (if iso then i.Drop ∷ [] else i.Pop ∷ [])
left-code true true e = refl
left-code true false e = absurd cc
left-code false true e = absurd cc
left-code false false e = refl

module _ (g : Given) where
  -- Right sides

  whole-piece : (types : List Ty) (at mid end : ℕ) (e : Raised) → Piece g.ops at (ops_of at e) mid
      → cleared g.ops (all_used types (e ∷ [])) mid ≡ Some end → Piece g.ops at (whole_ops types at e) end
  whole-piece types at mid end e p h =
      let behind = piece-is g.ops (ap clears (append-nil (used types e))) (cleared-piece g (all_used types (e ∷ [])) mid end h) in
      piece-then g.ops p behind

  -- fronts of which the first is one thing, and the others stand behind it
  alone-front : (at end : ℕ) (e : Raised) → Piece g.ops at (fronts_ops at (expression e ∷ [])) end → Piece g.ops at (ops_of at e) end
  alone-front at end e p = piece-is g.ops (append-nil (ops_of at e)) p

  call-as : (types : List Ty) (at : ℕ) (made c : Call) (fin end : ℕ) → ◌≡◌ {A = Option (Call × ℕ)} (Some (made, fin)) (Some (c, end))
      → Piece g.ops at (call_ops types at made) fin → Piece g.ops at (call_ops types at c) end
  call-as types at made c fin end e p =
      let same : (made, fin) ≡ (c, end) = same_Some _ _ e in
      subst (λ (x : Call × ℕ). Piece g.ops at (call_ops types at x.0) x.1) same p

  right-as : (types : List Ty) (at : ℕ) (made r : Right) (fin end : ℕ) → ◌≡◌ {A = Option (Right × ℕ)} (Some (made, fin)) (Some (r, end))
      → Piece g.ops at (right_ops types at made) fin → Piece g.ops at (right_ops types at r) end
  right-as types at made r fin end e p =
      let same : (made, fin) ≡ (r, end) = same_Some _ _ e in
      subst (λ (x : Right × ℕ). Piece g.ops at (right_ops types at x.0) x.1) same p

  called-piece : (types : List Ty) (at d end : ℕ) (s : ℕ) (ks : List ℕ) (args : List Raised) (c : Call)
      → Piece g.ops at (holder_ops s ks ++ all_ops (at + length (holder_ops s ks)) args) d → Piece g.ops d (i.Room ∷ []) (suc d)
      → called g types s ks args (suc d) ≡ Some (c, end) → Piece g.ops at (call_ops types at c) end
  called-piece types at d end s ks args c front room h =
      let (behind, cl, h1) = bind-some (cleared g.ops (all_used types args) (suc d)) _ (c, end) h in
      let (m, me, h2) = bind-some (sign call_of g.ops behind) _ (c, end) h1 in
      let (callee, ce, h3) = bind-some (slice_get g.methods m) _ (c, end) h2 in
      let made : Call = record { slot = s; fields = ks; callee = record callee { number = m }; args = args } in
      let holder = holder_ops s ks in
      let given = all_ops (at + length holder) args in
      let tail = piece-then g.ops room
      (piece-then g.ops (cleared-piece g (all_used types args) (suc d) behind cl) (sign-piece g call-is behind m me)) in
      call-as types at made c (suc behind) end h3
      (piece-is g.ops (append_assoc holder given (i.Room ∷ (clears (all_used types args) ++ i.Call m ∷ []))) (piece-then g.ops front tail))

  -- an object, and expressions alone behind it
  args-front : (at d : ℕ) (s : ℕ) (ks : List ℕ) (fs : List Front) (args : List Raised) → values_in fs ≡ Some args
      → Piece g.ops at (fronts_ops at (object s ks ∷ fs)) d → Piece g.ops at (holder_ops s ks ++ all_ops (at + length (holder_ops s ks)) args) d
  args-front at d s ks fs args e p =
      piece-is g.ops (ap (λ (os : List Op). holder_ops s ks ++ os) (values-ops fs args (at + length (holder_ops s ks)) e)) p

  right-by-piece : (types : List Ty) (at b end : ℕ) (e : Raised) (r : Right) (w : Option Walk) → sign walk_of g.ops b ≡ w
      → Piece g.ops at (ops_of at e) b → right_by g types e b w ≡ Some (r, end) → Piece g.ops at (right_ops types at r) end
  right-by-piece types at b end e r None f front h =
      let (behind, cl, h1) = bind-some (cleared g.ops (all_used types (e ∷ [])) b) _ (r, end) h in
      right-as types at (value e) r behind end h1 (whole-piece types at b behind e front cl)
  right-by-piece types at b end e r (Some (walk.New c)) f front h =
      right-as types at (new c (Some e)) r (suc b) end h (piece-then g.ops front (sign-piece g walk-is b (walk.New c) f))
  right-by-piece types at b end e r (Some (walk.NewTmp c)) f front h =
      right-as types at (new_tmp c (Some e)) r (suc b) end h (piece-then g.ops front (sign-piece g walk-is b (walk.NewTmp c) f))
  right-by-piece types at b end e r (Some (walk.NewIso c m)) f front h =
      right-as types at (new_iso c (Some e) m) r (suc b) end h (piece-then g.ops front (sign-piece g walk-is b (walk.NewIso c m) f))
  right-by-piece types at b end e r (Some (walk.Enter k z)) f front h = absurd cc

  result-by-piece : (types : List Ty) (at b end : ℕ) (s : ℕ) (ks : List ℕ) (fs : List Front) (r : Right) (args : Option (List Raised))
      → values_in fs ≡ args → Piece g.ops at (fronts_ops at (object s ks ∷ fs)) b → result_by g types s ks args b ≡ Some (r, end)
      → Piece g.ops at (right_ops types at r) end
  result-by-piece types at b end s ks fs r None e front h = absurd cc
  result-by-piece types at b end s ks fs r (Some args) e front h =
      let (sign_there, se, h1) = bind-some (sign behind_of g.ops b) _ (r, end) h in
      let (is, h2) = test-some (is_room sign_there) _ (r, end) h1 in
      let (c, ce, h3) = bind-some (called g types s ks args (suc b)) _ (r, end) h2 in
      let room : Piece g.ops b (i.Room ∷ []) (suc b) =
      piece-is g.ops (ap (λ (o : Op). o ∷ []) (room-is sign_there is)) (sign-piece g behind-is b sign_there se) in
      right-as types at (result_of c.0) r c.1 end h3
      (called-piece types at b c.1 s ks args c.0 (args-front at b s ks fs args e front) room ce)

  right-piece : (types : List Ty) (at b end : ℕ) (fs : List Front) (r : Right) → Piece g.ops at (fronts_ops at fs) b
      → right_behind g types fs b ≡ Some (r, end) → Piece g.ops at (right_ops types at r) end
  right-piece types at b end [] r front h =
      let (m, me, h1) = bind-some (sign making_of g.ops b) _ (r, end) h in
      right-as types at (right_of m) r (suc b) end h1 (piece-then g.ops front (making-piece g types at b m me))
  right-piece types at b end (expression e ∷ []) r front h =
      right-by-piece types at b end e r (sign walk_of g.ops b) refl (alone-front at b e front) h
  right-piece types at b end (expression e ∷ f ∷ fs) r front h = absurd cc
  right-piece types at b end (object s ks ∷ fs) r front h = result-by-piece types at b end s ks fs r (values_in fs) refl front h
  right-piece types at b end (place s ks e ∷ fs) r front h = absurd cc

  stays : (at end : ℕ) → Some at ≡ Some end → Piece g.ops at [] end
  stays at end e = subst (λ (n : ℕ). Piece g.ops at [] n) (same_Some _ _ e) (piece-nil g.ops at)

  paced-piece : (r : Right) (at end : ℕ) → paced g.ops (paces r) at ≡ Some end → Piece g.ops at (pace_ops r) end
  paced-piece (new c n) at end h =
      let (u, there, f) = then-some (sign pace_of g.ops at) (Some (suc at)) end h in
      subst (λ (n : ℕ). Piece g.ops at (i.Pace ∷ []) n) (same_Some _ _ f) (sign-piece g pace-is at u there)
  paced-piece _ at end h = stays at end h

  dropped-piece : (t : Option Ty) (at end : ℕ) → dropped g.ops t at ≡ Some end → Piece g.ops at (dropped_code t) end
  dropped-piece None at end h = stays at end h
  dropped-piece (Some t) at end h =
      let (owns, there, h1) = bind-some (sign left_of g.ops at) _ end h in
      let (is, h2) = test-some (if is_iso t then owns else not owns) (Some (suc at)) end h1 in
      subst (λ (n : ℕ). Piece g.ops at (dropped_code (Some t)) n) (same_Some _ _ h2)
      (piece-is g.ops (left-code (is_iso t) owns is) (sign-piece g left-is at owns there))

  pub ended-piece : {of : Op → Option ℕ} {op : ℕ → Op} → ((o : Op) (x : ℕ) → of o ≡ Some x → o ≡ op x) → (line n at end : ℕ)
      → ended of g.ops line n at ≡ Some end → Piece g.ops at (i.Mark line ∷ op n ∷ []) end
  ended-piece {of = of} {op = op} tells line n at end h =
      let (l, le, h1) = bind-some (sign mark_of g.ops at) _ end h in
      let (l_is, h2) = test-some (l == line) _ end h1 in
      let (s, se, h3) = bind-some (sign of g.ops (suc at)) _ end h2 in
      let (s_is, h4) = test-some (s == n) (Some (suc (suc at))) end h3 in
      let mark : Piece g.ops at (i.Mark line ∷ []) (suc at) =
      piece-is g.ops (ap (λ (m : ℕ). i.Mark m ∷ []) (equal l line l_is)) (sign-piece g mark-is at l le) in
      let close : Piece g.ops (suc at) (op n ∷ []) (suc (suc at)) =
      piece-is g.ops (ap (λ (m : ℕ). op m ∷ []) (equal s n s_is)) (sign-piece g tells (suc at) s se) in
      subst (λ (m : ℕ). Piece g.ops at (i.Mark line ∷ op n ∷ []) m) (same_Some _ _ h4) (piece-then g.ops mark close)

  -- Statements, whose mark stands at `start`

  module _ (types : List Ty) (line start : ℕ) (marked : sign mark_of g.ops start ≡ Some line) where
    abbrev Stands : Kind → (end : ℕ) → Type 0
    Stands k end = Piece g.ops start (kind_ops types start line k) end

    stands-as : (made k : Kind) (fin end : ℕ) → ◌≡◌ {A = Option (Kind × ℕ)} (Some (made, fin)) (Some (k, end)) → Stands made fin → Stands k end
    stands-as made k fin end e p = let same : (made, fin) ≡ (k, end) = same_Some _ _ e in subst (λ (x : Kind × ℕ). Stands x.0 x.1) same p

    mark-piece : Piece g.ops start (i.Mark line ∷ []) (suc start)
    mark-piece = sign-piece g mark-is start line marked

    one : suc start ≡ start + 1
    one = omega arith

    right-there : (b end : ℕ) (fs : List Front) (r : Right) → Piece g.ops (suc start) (fronts_ops (suc start) fs) b
        → right_behind g types fs b ≡ Some (r, end) → Piece g.ops (suc start) (right_ops types (start + 1) r) end
    right-there b end fs r front h =
        subst (λ (n : ℕ). Piece g.ops (suc start) (right_ops types n r) end) one (right-piece types (suc start) b end fs r front h)

    stored-code : (r : Right) (fin s : ℕ) (is_next : Truth) (k : Kind) → (s == length types) ≡ is_next → stored g types r fin s is_next ≡ Some k
        → i.Mark line ∷ right_ops types (start + 1) r ++ i.Store s ∷ pace_ops r ≡ kind_ops types start line k
    stored-code r fin s true k f h =
        let (t, te, h1) = bind-some (slot_type g.ops g.maps fin s) _ k h in
        ap (λ (n : ℕ). i.Mark line ∷ right_ops types (start + 1) r ++ i.Store n ∷ pace_ops r) (equal s (length types) f)
        ∙ ap (kind_ops types start line) (same_Some (declare t r) k h1)
    stored-code r fin s false k f h =
        let (is, h1) = test-some (not (is_iso (type_at types s))) _ k h in
        let no : is_iso (type_at types s) ≡ false = not-true (is_iso (type_at types s)) is in
        ap (λ (b : Truth). i.Mark line ∷ right_ops types (start + 1) r ++ (if b then i.Own s else i.Store s) ∷ pace_ops r) (sym no)
        ∙ ap (kind_ops types start line) (same_Some (assign s r) k h1)

    taken-code : (r : Right) (fin : ℕ) (t : Target) (k : Kind) → taken_by g types r fin t ≡ Some k
        → i.Mark line ∷ right_ops types (start + 1) r ++ target_op t ∷ pace_ops r ≡ kind_ops types start line k
    taken-code r fin (target.Store s) k h = stored-code r fin s (s == length types) k refl h
    taken-code r fin (target.Own s) k h =
        let (owns, h1) = test-some (is_iso (type_at types s)) _ k h in
        ap (λ (b : Truth). i.Mark line ∷ right_ops types (start + 1) r ++ (if b then i.Own s else i.Store s) ∷ pace_ops r) (sym owns)
        ∙ ap (kind_ops types start line) (same_Some (assign s r) k h1)

    taken-piece : (r : Right) (at end : ℕ) (k : Kind) → Piece g.ops (suc start) (right_ops types (start + 1) r) at
        → taken g types r at ≡ Some (k, end) → Stands k end
    taken-piece r at end k front h =
        let (t, te, h1) = bind-some (sign target_of g.ops at) _ (k, end) h in
        let (fin, fe, h2) = bind-some (paced g.ops (paces r) (suc at)) _ (k, end) h1 in
        let (made, me, h3) = bind-some (taken_by g types r fin t) _ (k, end) h2 in
        let tail = piece-then g.ops (sign-piece g target-is at t te) (paced-piece r (suc at) fin fe) in
        stands-as made k fin end h3
        (piece-is g.ops (taken-code r fin t made me) (piece-then g.ops mark-piece (piece-then g.ops front tail)))

    call-by-piece : (c : Call) (at end : ℕ) (k : Kind) (t : Option Target) → sign target_of g.ops at ≡ t
        → Piece g.ops (suc start) (call_ops types (start + 1) c) at → call_by g types c at t ≡ Some (k, end) → Stands k end
    call-by-piece c at end k (Some t) f front h = taken-piece (result_of c) at end k front h
    call-by-piece c at end k None f front h =
        let (fin, fe, h1) = bind-some (dropped g.ops c.callee.result at) _ (k, end) h in
        stands-as (call c) k fin end h1
        (piece-then g.ops mark-piece (piece-then g.ops front (dropped-piece c.callee.result at fin fe)))

    -- those that begin with an object, and then with more
    module _ (s : ℕ) (ks : List ℕ) (fs : List Front) (d : ℕ) (front : Piece g.ops (suc start) (fronts_ops (suc start) (object s ks ∷ fs)) d) where
      abbrev holder : List Op
      holder = holder_ops s ks

      written-piece : (end : ℕ) (k : Kind) → written_to g types s ks fs d ≡ Some (k, end) → Stands k end
      written-piece end k h =
          let (r, re, h1) = bind-some (right_behind g types fs d) _ (k, end) h in
          let (f, fe, h2) = bind-some (sign put_of g.ops r.1) _ (k, end) h1 in
          let (fin, ne, h3) = bind-some (paced g.ops (paces r.0) (suc r.1)) _ (k, end) h2 in
          let (object_there, others) = piece-parts g.ops (suc start) d holder (fronts_ops (suc start + length holder) fs) front in
          let there : suc start + length holder ≡ start + 1 + length holder = omega arith in
          let right : Piece g.ops (suc start + length holder) (right_ops types (start + 1 + length holder) r.0) r.1 =
          subst (λ (n : ℕ). Piece g.ops (suc start + length holder) (right_ops types n r.0) r.1) there
          (right-piece types (suc start + length holder) d r.1 fs r.0 others re) in
          let tail = piece-then g.ops (sign-piece g put-is r.1 f fe) (paced-piece r.0 (suc r.1) fin ne) in
          stands-as (write s ks f r.0) k fin end h3
          (piece-then g.ops mark-piece (piece-then g.ops object_there (piece-then g.ops right tail)))

      room-piece : (end : ℕ) (k : Kind) (args : Option (List Raised)) → values_in fs ≡ args → sign behind_of g.ops d ≡ Some behind.Room
          → room_by g types s ks fs args d ≡ Some (k, end) → Stands k end
      room-piece end k None e f h = written-piece end k h
      room-piece end k (Some args) e f h =
          let (c, ce, h1) = bind-some (called g types s ks args (suc d)) _ (k, end) h in
          let whole = called-piece types (suc start) d c.1 s ks args c.0 (args-front (suc start) d s ks fs args e front)
          (sign-piece g behind-is d behind.Room f) ce in
          call-by-piece c.0 c.1 end k (sign target_of g.ops c.1) refl
          (subst (λ (n : ℕ). Piece g.ops (suc start) (call_ops types n c.0) c.1) one whole) h1

    swapped-piece : (s : ℕ) (ks : List ℕ) (fs : List Front) (d : ℕ) (y j end : ℕ) (k : Kind) → sign behind_of g.ops d ≡ Some (behind.Swap y j)
        → Piece g.ops (suc start) (fronts_ops (suc start) (object s ks ∷ fs)) d → swap_by s ks fs y j d ≡ Some (k, end) → Stands k end
    swapped-piece s ks [] d y j end k f front h =
        let whole = piece-is g.ops (append-nil (holder_ops s ks)) front in
        let swaps = piece-then g.ops whole (sign-piece g behind-is d (behind.Swap y j) f) in
        stands-as (swap y s ks j) k (suc d) end h
        (piece-then g.ops mark-piece (piece-is g.ops (append_assoc (path_ops s ks) (i.Check ∷ []) (i.Swap y j ∷ [])) swaps))
    swapped-piece s ks (r ∷ rs) d y j end k f front h = absurd cc

    object-by-piece : (s : ℕ) (ks : List ℕ) (fs : List Front) (d end : ℕ) (k : Kind) (w : Option Behind) → sign behind_of g.ops d ≡ w
        → Piece g.ops (suc start) (fronts_ops (suc start) (object s ks ∷ fs)) d → object_by g types s ks fs d w ≡ Some (k, end) → Stands k end
    object-by-piece s ks fs d end k (Some behind.Room) f front h = room-piece s ks fs d front end k (values_in fs) refl f h
    object-by-piece s ks fs d end k (Some (behind.Swap y j)) f front h = swapped-piece s ks fs d y j end k f front h
    object-by-piece s ks fs d end k None f front h = written-piece s ks fs d front end k h

    -- those that begin with a place in an array
    element-piece : (s : ℕ) (ks : List ℕ) (e : Raised) (fs : List Front) (d end : ℕ) (k : Kind)
        → Piece g.ops (suc start) (fronts_ops (suc start) (place s ks e ∷ fs)) d → element_written g types s ks e fs d ≡ Some (k, end) → Stands k end
    element-piece s ks e fs d end k front h =
        let (r, re, h1) = bind-some (right_behind g types fs d) _ (k, end) h in
        let (u, ue, h2) = then-some (sign put_element_of g.ops r.1) _ (k, end) h1 in
        let (fin, ne, h3) = bind-some (paced g.ops (paces r.0) (suc r.1)) _ (k, end) h2 in
        let (place_there, others) = piece-parts g.ops (suc start) d (place_ops (suc start) s ks e)
        (fronts_ops (suc start + length (place_ops (suc start) s ks e)) fs) front in
        let behind : ℕ = suc start + length (place_ops (suc start) s ks e) in
        let place_is : Piece g.ops (suc start) (place_ops (start + 1) s ks e) behind =
        subst (λ (n : ℕ). Piece g.ops (suc start) (place_ops n s ks e) behind) one place_there in
        let there : behind ≡ start + 1 + length (place_ops (start + 1) s ks e) = omega (arith, place_is.place) in
        let right : Piece g.ops behind (right_ops types (start + 1 + length (place_ops (start + 1) s ks e)) r.0) r.1 =
        subst (λ (n : ℕ). Piece g.ops behind (right_ops types n r.0) r.1) there (right-piece types behind d r.1 fs r.0 others re) in
        let tail = piece-then g.ops (sign-piece g put-element-is r.1 u ue) (paced-piece r.0 (suc r.1) fin ne) in
        stands-as (write_element s ks e r.0) k fin end h3
        (piece-then g.ops mark-piece (piece-then g.ops place_is (piece-then g.ops right tail)))

    -- those with blocks
    module _ (inner : Inner)
        (is : (types : List Ty) (at : ℕ) (b : Block) (end : ℕ) → inner types at ≡ Some (b, end) → Piece g.ops at (block_ops types at b) end) where
      -- the code of a window, from its block on
      abbrev window_ops : (at : ℕ) → ℕ × Block × Option ℕ → List Op
      window_ops at w = block_ops (types_inside types w.0) at w.1 ++ i.Mark line ∷ leave_op (length types) w.2 ∷ []

      window-as : (made w : ℕ × Block × Option ℕ) (at fin end : ℕ)
          → ◌≡◌ {A = Option ((ℕ × Block × Option ℕ) × ℕ)} (Some (made, fin)) (Some (w, end))
          → Piece g.ops at (window_ops at made) fin → Piece g.ops at (window_ops at w) end
      window-as made w at fin end e p =
          let same : (made, fin) ≡ (w, end) = same_Some _ _ e in
          subst (λ (x : (ℕ × Block × Option ℕ) × ℕ). Piece g.ops at (window_ops at x.0) x.1) same p

      end-as : (made w : Option ℕ) (at fin end : ℕ) → ◌≡◌ {A = Option (Option ℕ × ℕ)} (Some (made, fin)) (Some (w, end))
          → Piece g.ops at (i.Mark line ∷ leave_op (length types) made ∷ []) fin → Piece g.ops at (i.Mark line ∷ leave_op (length types) w ∷ []) end
      end-as made w at fin end e p =
          let same : (made, fin) ≡ (w, end) = same_Some _ _ e in
          subst (λ (y : Option ℕ × ℕ). Piece g.ops at (i.Mark line ∷ leave_op (length types) y.0 ∷ []) y.1) same p

      window-end-piece : (at end : ℕ) (w : Option ℕ) → window_end g.ops line (length types) at ≡ Some (w, end)
          → Piece g.ops at (i.Mark line ∷ leave_op (length types) w ∷ []) end
      window-end-piece at end w h =
          let (l, le, h1) = bind-some (sign mark_of g.ops at) _ (w, end) h in
          let (l_is, h2) = test-some (l == line) _ (w, end) h1 in
          let (x, xe, h3) = bind-some (sign leave_of g.ops (suc at)) _ (w, end) h2 in
          let (x_is, h4) = test-some (x.slot == length types) _ (w, end) h3 in
          let mark : Piece g.ops at (i.Mark line ∷ []) (suc at) =
          piece-is g.ops (ap (λ (m : ℕ). i.Mark m ∷ []) (equal l line l_is)) (sign-piece g mark-is at l le) in
          let close : Piece g.ops (suc at) (leave_op (length types) x.given ∷ []) (suc (suc at)) =
          piece-is g.ops (ap (λ (m : ℕ). leave_op m x.given ∷ []) (equal x.slot (length types) x_is)) (sign-piece g leave-is (suc at) x xe) in
          end-as x.given w at (suc (suc at)) end h4 (piece-then g.ops mark close)

      window-piece : (z at end : ℕ) (w : ℕ × Block × Option ℕ) → window g inner types line z at ≡ Some (w, end)
          → (z ≡ length types) × Piece g.ops at (window_ops at w) end
      window-piece z at end w h =
          let (z_is, h1) = test-some (z == length types) _ (w, end) h in
          let (t, te, h2) = bind-some (slot_type g.ops g.maps at z) _ (w, end) h1 in
          let (c, ce, h3) = bind-some (bridge_class t) _ (w, end) h2 in
          let (b, be, h4) = bind-some (inner (types_inside types c) at) _ (w, end) h3 in
          let (x, xe, h5) = bind-some (window_end g.ops line (length types) b.1) _ (w, end) h4 in
          let whole = piece-then g.ops (is (types_inside types c) at b.0 b.1 be) (window-end-piece b.1 x.1 x.0 xe) in
          (equal z (length types) z_is, window-as (c, b.0, x.0) w at x.1 end h5 whole)

      open-by-piece : (b end : ℕ) (k : Kind) (w : Option Open) → sign open_of g.ops b ≡ w → Piece g.ops (suc start) [] b
          → open_by g inner types line b w ≡ Some (k, end) → Stands k end
      open-by-piece b end k None f front h =
          let (r, re, h1) = bind-some (right_behind g types [] b) _ (k, end) h in
          taken-piece r.0 r.1 end k (right-there b r.1 [] r.0 front re) h1
      open-by-piece b end k (Some opens.Collect) f front h =
          stands-as collect k (suc b) end h
          (piece-then g.ops mark-piece (piece-then g.ops front (sign-piece g open-is b opens.Collect f)))
      open-by-piece b end k (Some (opens.Enter s z)) f front h =
          let (w, we, h1) = bind-some (window g inner types line z (suc b)) _ (k, end) h in
          let (z_is, block) = window-piece z (suc b) w.1 w.0 we in
          let there : suc b ≡ start + 1 + 1 = omega (arith, front.place) in
          let enters : Piece g.ops b (i.Enter s (length types) ∷ []) (suc b) =
          piece-is g.ops (ap (λ (n : ℕ). i.Enter s n ∷ []) z_is) (sign-piece g open-is b (opens.Enter s z) f) in
          let inside : Piece g.ops (suc b) (window_ops (start + 1 + 1) w.0) w.1 =
          subst (λ (n : ℕ). Piece g.ops (suc b) (window_ops n w.0) w.1) there block in
          stands-as (enter s w.0.0 w.0.1 w.0.2) k w.1 end h1
          (piece-then g.ops mark-piece (piece-then g.ops (piece-then g.ops front enters) inside))

      -- those with a test, whose jump stands at t
      module _ (e : Raised) (t fails : ℕ) (test : Piece g.ops (suc start) (whole_ops types (start + 1) e) t)
          (jump : Piece g.ops t (i.JumpFalse fails ∷ []) (suc t)) where
        abbrev inside : ℕ
        inside = start + 1 + length (whole_ops types (start + 1) e) + 1

        inside-is : suc t ≡ inside
        inside-is = omega (arith, test.place)

        module _ (b : Block) (d f : ℕ) (block : Piece g.ops (suc t) (block_ops types (suc t) b) d)
            (ends : Piece g.ops d (i.Mark line ∷ i.End (length types) ∷ []) f) where
          abbrev inner_ops : List Op
          inner_ops = block_ops types inside b

          block-there : Piece g.ops (suc t) inner_ops d
          block-there = subst (λ (n : ℕ). Piece g.ops (suc t) (block_ops types n b) d) inside-is block

          ends-there : f ≡ inside + length inner_ops + 2
          ends-there = omega (arith, ends.place, block-there.place, inside-is)

          -- what stands in front of what follows the first block
          front-piece : (x end : ℕ) (tail : List Op) → fails ≡ x → Piece g.ops f tail end
              → Piece g.ops start (i.Mark line ∷ (whole_ops types (start + 1) e ++ i.JumpFalse x ∷
              (inner_ops ++ i.Mark line ∷ i.End (length types) ∷ tail))) end
          front-piece x end tail same p =
              let fails_there : Piece g.ops t (i.JumpFalse x ∷ []) (suc t) = piece-is g.ops (ap (λ (n : ℕ). i.JumpFalse n ∷ []) same) jump in
              piece-then g.ops mark-piece
              (piece-then g.ops test (piece-then g.ops fails_there (piece-then g.ops block-there (piece-then g.ops ends p))))

          otherwise-piece : (to end : ℕ) (k : Kind) → Piece g.ops f (i.Jump to ∷ []) (suc f) → fails ≡ suc f
              → otherwise_told g inner types line e b to (suc f) ≡ Some (k, end) → Stands k end
          otherwise-piece to end k over same h =
              let (c, ce, h1) = bind-some (inner types (suc f)) _ (k, end) h in
              let (fin, fe, h2) = bind-some (ended end_of g.ops line (length types) c.1) _ (k, end) h1 in
              let (to_is, h3) = test-some (to == fin) _ (k, end) h2 in
              let at : ℕ = inside + length inner_ops + 2 in
              let there : suc f ≡ at + 1 = omega (arith, ends-there) in
              let second : Piece g.ops (suc f) (block_ops types (at + 1) c.0) c.1 =
              subst (λ (n : ℕ). Piece g.ops (suc f) (block_ops types n c.0) c.1) there (is types (suc f) c.0 c.1 ce) in
              let closes = ended-piece end-is line (length types) c.1 fin fe in
              let to_there : to ≡ at + 1 + length (block_ops types (at + 1) c.0) + 2 =
              omega (arith, equal to fin to_is, closes.place, second.place, there) in
              let jumps : Piece g.ops f (i.Jump (at + 1 + length (block_ops types (at + 1) c.0) + 2) ∷ []) (suc f) =
              piece-is g.ops (ap (λ (n : ℕ). i.Jump n ∷ []) to_there) over in
              let gap : fails ≡ inside + length inner_ops + 3 = omega (arith, same, ends-there) in
              stands-as (branch e b (otherwise c.0)) k fin end h3
              (front-piece (inside + length inner_ops + 3) fin _ gap (piece-then g.ops jumps (piece-then g.ops second closes)))

          jumped-piece : (end : ℕ) (k : Kind) → jumped g inner types line start e b fails f ≡ Some (k, end) → Stands k end
          jumped-piece end k h =
              let (to, te, h1) = bind-some (sign jump_of g.ops f) _ (k, end) h in
              let (fails_is, h2) = test-some (fails == suc f) _ (k, end) h1 in
              by to te (equal fails (suc f) fails_is) (to == start) refl h2
            where
              by : (to : ℕ) → sign jump_of g.ops f ≡ Some to → fails ≡ suc f → (back : Truth) → (to == start) ≡ back
                  → (if back then Some (while e b, suc f) else otherwise_told g inner types line e b to (suc f)) ≡ Some (k, end) → Stands k end
              by to te same true back h =
                  let gap : fails ≡ inside + length inner_ops + 3 = omega (arith, same, ends-there) in
                  let jumps : Piece g.ops f (i.Jump start ∷ []) (suc f) =
                  piece-is g.ops (ap (λ (n : ℕ). i.Jump n ∷ []) (equal to start back)) (sign-piece g jump-is f to te) in
                  stands-as (while e b) k (suc f) end h (front-piece (inside + length inner_ops + 3) (suc f) _ gap jumps)
              by to te same false back h = otherwise-piece to end k (sign-piece g jump-is f to te) same h

          alone-piece : (end : ℕ) (k : Kind) (alone : Truth) → (fails == f) ≡ alone
              → (if alone then Some (branch e b no_else, f) else jumped g inner types line start e b fails f) ≡ Some (k, end) → Stands k end
          alone-piece end k true same h =
              let gap : fails ≡ inside + length inner_ops + 2 = equal fails f same ∙ ends-there in
              stands-as (branch e b no_else) k f end h (front-piece (inside + length inner_ops + 2) f [] gap (piece-nil g.ops f))
          alone-piece end k false same h = jumped-piece end k h

        tested-piece : (end : ℕ) (k : Kind) → tested g inner types line start e fails (suc t) ≡ Some (k, end) → Stands k end
        tested-piece end k h =
            let (b, be, h1) = bind-some (inner types (suc t)) _ (k, end) h in
            let (f, fe, h2) = bind-some (ended end_of g.ops line (length types) b.1) _ (k, end) h1 in
            alone-piece b.0 b.1 f (is types (suc t) b.0 b.1 be) (ended-piece end-is line (length types) b.1 f fe) end k (fails == f) refl h2

      close-by-piece : (e : Raised) (at end : ℕ) (k : Kind) (w : Option Close) → sign close_of g.ops at ≡ w
          → Piece g.ops (suc start) (whole_ops types (start + 1) e) at → close_by g inner types line start e at w ≡ Some (k, end) → Stands k end
      close-by-piece e at end k None f front h = taken-piece (value e) at end k front h
      close-by-piece e at end k (Some close.Print) f front h =
          stands-as (print e) k (suc at) end h (piece-then g.ops mark-piece (piece-then g.ops front (sign-piece g close-is at close.Print f)))
      close-by-piece e at end k (Some close.Return) f front h =
          stands-as (return e) k (suc at) end h (piece-then g.ops mark-piece (piece-then g.ops front (sign-piece g close-is at close.Return f)))
      close-by-piece e at end k (Some (close.Test to)) f front h = tested-piece e at to front (sign-piece g close-is at (close.Test to) f) end k h

      -- a right side that begins with an expression alone, behind which an instruction makes an array
      array-piece : (e : Raised) (b end : ℕ) (k : Kind) (w : Walk) → sign walk_of g.ops b ≡ Some w → Piece g.ops (suc start) (ops_of (suc start) e) b
          → (r : Right × ℕ) → right_by g types e b (Some w) ≡ Some r → taken g types r.0 r.1 ≡ Some (k, end) → Stands k end
      array-piece e b end k w f front r re h =
          let there = right-by-piece types (suc start) b r.1 e r.0 (Some w) f front re in
          taken-piece r.0 r.1 end k (subst (λ (n : ℕ). Piece g.ops (suc start) (right_ops types n r.0) r.1) one there) h

      expr-by-piece : (e : Raised) (b end : ℕ) (k : Kind) (w : Option Walk) → sign walk_of g.ops b ≡ w
          → Piece g.ops (suc start) (ops_of (suc start) e) b → expr_by g inner types line start e b w ≡ Some (k, end) → Stands k end
      expr-by-piece e b end k None f front h =
          let (behind, cl, h1) = bind-some (cleared g.ops (all_used types (e ∷ [])) b) _ (k, end) h in
          let whole = whole-piece types (suc start) b behind e front cl in
          let whole = subst (λ (n : ℕ). Piece g.ops (suc start) (whole_ops types n e) behind) one whole in
          close-by-piece e behind end k (sign close_of g.ops behind) refl whole h1
      expr-by-piece e b end k (Some (walk.Enter j z)) f front h =
          let (p, pe, h1) = bind-some (path_in e) _ (k, end) h in
          let (w, we, h2) = bind-some (window g inner types line z (suc b)) _ (k, end) h1 in
          let (z_is, block) = window-piece z (suc b) w.1 w.0 we in
          let enters : Piece g.ops b (i.EnterField j (length types) ∷ []) (suc b) =
          piece-is g.ops (ap (λ (n : ℕ). i.EnterField j n ∷ []) z_is) (sign-piece g walk-is b (walk.Enter j z) f) in
          let begin = piece-then g.ops (piece-is g.ops (ap (ops_of (suc start)) (path-is e p pe)) front) enters in
          let front_ops : List Op = path_ops p.0 p.1 ++ i.EnterField j (length types) ∷ [] in
          let there : suc b ≡ start + 1 + length front_ops = omega (arith, begin.place) in
          let inside : Piece g.ops (suc b) (window_ops (start + 1 + length front_ops) w.0) w.1 =
          subst (λ (n : ℕ). Piece g.ops (suc b) (window_ops n w.0) w.1) there block in
          stands-as (enter_field p.0 p.1 j w.0.0 w.0.1 w.0.2) k w.1 end h2
          (piece-then g.ops mark-piece (piece-then g.ops begin inside))
      expr-by-piece e b end k (Some (walk.New c)) f front h = array-piece e b end k (walk.New c) f front (new c (Some e), suc b) refl h
      expr-by-piece e b end k (Some (walk.NewTmp c)) f front h = array-piece e b end k (walk.NewTmp c) f front (new_tmp c (Some e), suc b) refl h
      expr-by-piece e b end k (Some (walk.NewIso c m)) f front h =
          array-piece e b end k (walk.NewIso c m) f front (new_iso c (Some e) m, suc b) refl h

      kind-by-piece : (fs : List Front) (b end : ℕ) (k : Kind) → Piece g.ops (suc start) (fronts_ops (suc start) fs) b
          → kind_by g inner types line start fs b ≡ Some (k, end) → Stands k end
      kind-by-piece [] b end k front h = open-by-piece b end k (sign open_of g.ops b) refl front h
      kind-by-piece (expression e ∷ []) b end k front h =
          expr-by-piece e b end k (sign walk_of g.ops b) refl (alone-front (suc start) b e front) h
      kind-by-piece (expression e ∷ f ∷ fs) b end k front h = absurd cc
      kind-by-piece (object s ks ∷ fs) b end k front h = object-by-piece s ks fs b end k (sign behind_of g.ops b) refl front h
      kind-by-piece (place s ks e ∷ fs) b end k front h = element-piece s ks e fs b end k front h

      pub kind-piece : (end : ℕ) (k : Kind) → kind_told g inner types line start ≡ Some (k, end) → Stands k end
      kind-piece end k h =
          let (fs, fe, h1) = bind-some (fronts_at g.ops (suc start)) _ (k, end) h in
          kind-by-piece fs.0 fs.1 end k (fronts-piece g (suc start) fs.1 fs.0 fe) h1

  -- Blocks

  pub starts-marked : (at line : ℕ) → starts g.ops at ≡ Some line → sign mark_of g.ops at ≡ Some line
  starts-marked at line h =
      let (l, le, h1) = bind-some (sign mark_of g.ops at) _ line h in
      le ∙ ap Some (by l (sign closing_of g.ops (suc at)) h1)
    where
      by : (l : ℕ) (closes : Option (Unit {0})) → starts_by l closes ≡ Some line → l ≡ line
      by l None h = same_Some _ _ h
      by l (Some closes) h = absurd cc

  abbrev Sound : Inner → Type 0
  Sound inner = (types : List Ty) (at : ℕ) (b : Block) (end : ℕ) → inner types at ≡ Some (b, end) → Piece g.ops at (block_ops types at b) end

  block-as : (types : List Ty) (at : ℕ) (made b : Block) (fin end : ℕ) → ◌≡◌ {A = Option (Block × ℕ)} (Some (made, fin)) (Some (b, end))
      → Piece g.ops at (block_ops types at made) fin → Piece g.ops at (block_ops types at b) end
  block-as types at made b fin end e p =
      let same : (made, fin) ≡ (b, end) = same_Some _ _ e in
      subst (λ (x : Block × ℕ). Piece g.ops at (block_ops types at x.0) x.1) same p

  followed-piece : (others : Inner) → Sound others → (types : List Ty) (at line mid : ℕ) (k : Kind) (last : Truth) (b : Block) (end : ℕ)
      → Piece g.ops at (kind_ops types at line k) mid → followed others types line k mid last ≡ Some (b, end)
      → Piece g.ops at (block_ops types at b) end
  followed-piece others sound types at line mid k true b end first h =
      block-as types at (next line k empty) b mid end h (piece-is g.ops (sym (append-nil (kind_ops types at line k))) first)
  followed-piece others sound types at line mid k false b end first h =
      let (rest, re, h1) = bind-some (others (types_behind types k) mid) _ (b, end) h in
      let there : Piece g.ops mid (block_ops (types_behind types k) (at + length (kind_ops types at line k)) rest.0) rest.1 =
      subst (λ (n : ℕ). Piece g.ops mid (block_ops (types_behind types k) n rest.0) rest.1) first.place
      (sound (types_behind types k) mid rest.0 rest.1 re) in
      block-as types at (next line k rest.0) b rest.1 end h1 (piece-then g.ops first there)

  block-by-piece : (inner others : Inner) → Sound inner → Sound others → (types : List Ty) (at : ℕ) (o : Option ℕ) (b : Block) (end : ℕ)
      → starts g.ops at ≡ o → block_by g inner others types at o ≡ Some (b, end) → Piece g.ops at (block_ops types at b) end
  block-by-piece inner others is sound types at None b end f h = block-as types at empty b at end h (piece-nil g.ops at)
  block-by-piece inner others is sound types at (Some line) b end f h =
      let (k, ke, h1) = bind-some (kind_told g inner types line at) _ (b, end) h in
      let first = kind-piece types line at (starts-marked at line f) inner is k.1 k.0 ke in
      followed-piece others sound types at line k.1 k.0 (is_last k.0) b end first h1

  statements-piece : (inner : Inner) → Sound inner → (n : ℕ) → Sound (statements g inner n)
  statements-piece inner is zero types at b end h = absurd cc
  statements-piece inner is (suc n) types at b end h =
      block-by-piece inner (statements g inner n) is (statements-piece inner is n) types at (starts g.ops at) b end refl h

  pub block-piece : (depth : ℕ) → Sound (block_told g depth)
  unfolding block_told
  block-piece zero types at b end h = absurd cc
  block-piece (suc d) types at b end h =
      statements-piece (block_told g d) (block-piece d) (suc (length g.ops)) types at b end h

pub raised-blocks-stand : RaisedBlocksStand
raised-blocks-stand g depth types at b end h = block-piece g depth types at b end h
