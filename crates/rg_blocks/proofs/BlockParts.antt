-- Statements with blocks, by their parts.
use Rattle.std.proofs.Common.{◌≡◌, ◌==◌, ℕ, suc, ◌+◌, if◌then◌else◌, Bool as Truth, true, false, List, [], ◌∷◌, length, Option, Some, None}
use Rattle.std.proofs.Common.{refl, ap, ◌∙◌, arith}
use Rattle.std.proofs.lemmas.Bool.{eq-eqb}
use Rattle.rg_base.specs.declared.ty.Ty.{Ty}
use Rattle.rg_verify_expressions.specs.Raised.{Raised, Front, expression}
use Rattle.rg_verify_expressions.specs.Statements.{Block, branch, while, no_else, otherwise, types_inside}
use Rattle.rg_verify_expressions.specs.Signs.{end_of, jump_of}
use Rattle.rg_verify_expressions.specs.Blocks.{◌>>=◌, test, Given, Inner, sign, slot_type, bridge_class, fronts_at, ended, window_end, otherwise_told, jumped}
use Rattle.rg_verify_expressions.specs.Blocks.{tested, window, kind_by, kind_told, block_told}
use Rattle.rg_raise.proofs.Telling.{bind-is, bind-none}
use Rattle.rg_raise.proofs.RightSides.{then-is, then-none}

test-is : (b : Truth) → b ≡ true → test b ≡ Some tt
test-is b e = ap test e

test-not : (b : Truth) → b ≡ false → test b ≡ None
test-not b e = ap test e

same-is : (a b : ℕ) → a ≡ b → test (a == b) ≡ Some tt
same-is a b e = test-is (a == b) (eq-eqb a b e)

module _ (g : Given) (inner : Inner) (types : List Ty) (line : ℕ) where
  -- the second block of an `if`
  module _ (e : Raised) (b : Block) (to at : ℕ) where
    pub otherwise-none : inner types at ≡ None → otherwise_told g inner types line e b to at ≡ None
    otherwise-none h = bind-none (inner types at) _ h

    module _ (c : Block) (mid : ℕ) (block : inner types at ≡ Some (c, mid)) where
      pub otherwise-open : ended end_of g.ops line (length types) mid ≡ None → otherwise_told g inner types line e b to at ≡ None
      otherwise-open h = bind-is (inner types at) _ (c, mid) block ∙ bind-none (ended end_of g.ops line (length types) mid) _ h

      module _ (end : ℕ) (ends : ended end_of g.ops line (length types) mid ≡ Some end) where
        pub otherwise-astray : (to == end) ≡ false → otherwise_told g inner types line e b to at ≡ None
        otherwise-astray h =
            bind-is (inner types at) _ (c, mid) block ∙ bind-is (ended end_of g.ops line (length types) mid) _ end ends
            ∙ then-none (test (to == end)) _ (test-not (to == end) h)

        pub otherwise-so : to ≡ end → otherwise_told g inner types line e b to at ≡ Some (branch e b (otherwise c), end)
        otherwise-so h =
            bind-is (inner types at) _ (c, mid) block ∙ bind-is (ended end_of g.ops line (length types) mid) _ end ends
            ∙ then-is (test (to == end)) _ tt (same-is to end h)

  -- the statement of a line
  module _ (at : ℕ) where
    pub kind-unread : fronts_at g.ops (at + 1) ≡ None → kind_told g inner types line at ≡ None
    kind-unread h =
        let one : suc at ≡ at + 1 = omega arith in
        bind-none (fronts_at g.ops (suc at)) _ (ap (fronts_at g.ops) one ∙ h)

    pub kind-as : (fs : List Front) (end : ℕ) → fronts_at g.ops (at + 1) ≡ Some (fs, end)
        → kind_told g inner types line at ≡ kind_by g inner types line at fs end
    kind-as fs end h =
        let one : suc at ≡ at + 1 = omega arith in
        bind-is (fronts_at g.ops (suc at)) _ (fs, end) (ap (fronts_at g.ops) one ∙ h)

    pub kind-many : (e : Raised) (fs : List Front) (end : ℕ) → (fs ≡ [] → ⊥) → kind_by g inner types line at (expression e ∷ fs) end ≡ None
    kind-many e [] end some = absurd (some refl)
    kind-many e (f ∷ fs) end some = refl

  -- a loop, or an `if` with two blocks
  module _ (start : ℕ) (e : Raised) (b : Block) (fails at : ℕ) where
    pub jumped-none : sign jump_of g.ops at ≡ None → jumped g inner types line start e b fails at ≡ None
    jumped-none h = bind-none (sign jump_of g.ops at) _ h

    module _ (to : ℕ) (jump : sign jump_of g.ops at ≡ Some to) where
      pub jumped-astray : (fails == suc at) ≡ false → jumped g inner types line start e b fails at ≡ None
      jumped-astray h = bind-is (sign jump_of g.ops at) _ to jump ∙ then-none (test (fails == suc at)) _ (test-not (fails == suc at) h)

      module _ (falls : fails ≡ suc at) where
        jumped-by : jumped g inner types line start e b fails at
            ≡ (if to == start then Some (while e b, suc at) else otherwise_told g inner types line e b to (suc at))
        jumped-by = bind-is (sign jump_of g.ops at) _ to jump ∙ then-is (test (fails == suc at)) _ tt (same-is fails (suc at) falls)

        pub jumped-back : to ≡ start → jumped g inner types line start e b fails at ≡ Some (while e b, suc at)
        jumped-back h =
            jumped-by ∙ ap (λ (x : Truth). if x then Some (while e b, suc at) else otherwise_told g inner types line e b to (suc at))
            (eq-eqb to start h)

        pub jumped-over : (to == start) ≡ false → jumped g inner types line start e b fails at ≡ otherwise_told g inner types line e b to (suc at)
        jumped-over h =
            jumped-by ∙ ap (λ (x : Truth). if x then Some (while e b, suc at) else otherwise_told g inner types line e b to (suc at)) h

  -- an `if` or a loop
  module _ (start : ℕ) (e : Raised) (fails at : ℕ) where
    pub tested-none : inner types at ≡ None → tested g inner types line start e fails at ≡ None
    tested-none h = bind-none (inner types at) _ h

    module _ (b : Block) (mid : ℕ) (block : inner types at ≡ Some (b, mid)) where
      pub tested-open : ended end_of g.ops line (length types) mid ≡ None → tested g inner types line start e fails at ≡ None
      tested-open h = bind-is (inner types at) _ (b, mid) block ∙ bind-none (ended end_of g.ops line (length types) mid) _ h

      module _ (end : ℕ) (ends : ended end_of g.ops line (length types) mid ≡ Some end) where
        tested-by : tested g inner types line start e fails at
            ≡ (if fails == end then Some (branch e b no_else, end) else jumped g inner types line start e b fails end)
        tested-by = bind-is (inner types at) _ (b, mid) block ∙ bind-is (ended end_of g.ops line (length types) mid) _ end ends

        pub tested-alone : fails ≡ end → tested g inner types line start e fails at ≡ Some (branch e b no_else, end)
        tested-alone h =
            tested-by ∙ ap (λ (x : Truth). if x then Some (branch e b no_else, end) else jumped g inner types line start e b fails end)
            (eq-eqb fails end h)

        pub tested-more : (fails == end) ≡ false → tested g inner types line start e fails at ≡ jumped g inner types line start e b fails end
        tested-more h =
            tested-by ∙ ap (λ (x : Truth). if x then Some (branch e b no_else, end) else jumped g inner types line start e b fails end) h

  -- the block of an `enter`
  module _ (z at : ℕ) where
    pub window-astray : (z == length types) ≡ false → window g inner types line z at ≡ None
    window-astray h = then-none (test (z == length types)) _ (test-not (z == length types) h)

    module _ (next : z ≡ length types) where
      pub window-untyped : slot_type g.ops g.maps at z ≡ None → window g inner types line z at ≡ None
      window-untyped h = then-is (test (z == length types)) _ tt (same-is z (length types) next) ∙ bind-none (slot_type g.ops g.maps at z) _ h

      module _ (t : Ty) (typed : slot_type g.ops g.maps at z ≡ Some t) where
        pub window-classless : bridge_class t ≡ None → window g inner types line z at ≡ None
        window-classless h =
            then-is (test (z == length types)) _ tt (same-is z (length types) next) ∙ bind-is (slot_type g.ops g.maps at z) _ t typed
            ∙ bind-none (bridge_class t) _ h

        module _ (c : ℕ) (class : bridge_class t ≡ Some c) where
          pub window-as : window g inner types line z at
              ≡ ◌>>=◌ {B = (ℕ × Block × Option ℕ) × ℕ} (inner (types_inside types c) at) (λ b. ◌>>=◌ {B = (ℕ × Block × Option ℕ) × ℕ}
              (window_end g.ops line (length types) b.1) (λ w. Some ((c, b.0, w.0), w.1)))
          window-as =
              then-is (test (z == length types)) _ tt (same-is z (length types) next) ∙ bind-is (slot_type g.ops g.maps at z) _ t typed
              ∙ bind-is (bridge_class t) _ c class

          pub window-none : inner (types_inside types c) at ≡ None → window g inner types line z at ≡ None
          window-none h = window-as ∙ bind-none (inner (types_inside types c) at) _ h

          module _ (b : Block) (mid : ℕ) (block : inner (types_inside types c) at ≡ Some (b, mid)) where
            pub window-open : window_end g.ops line (length types) mid ≡ None → window g inner types line z at ≡ None
            window-open h =
                window-as ∙ bind-is (inner (types_inside types c) at) _ (b, mid) block ∙ bind-none (window_end g.ops line (length types) mid) _ h

            pub window-so : (w : Option ℕ) (end : ℕ) → window_end g.ops line (length types) mid ≡ Some (w, end)
                → window g inner types line z at ≡ Some ((c, b, w), end)
            window-so w end h =
                window-as ∙ bind-is (inner (types_inside types c) at) _ (b, mid) block
                ∙ bind-is (window_end g.ops line (length types) mid) _ (w, end) h

-- no block stands so deep
pub block-none : (g : Given) (depth : ℕ) (types : List Ty) (at : ℕ) → depth ≡ 0 → block_told g depth types at ≡ None
unfolding block_told
block-none g depth types at e = ap (λ (d : ℕ). block_told g d types at) e
