-- The variables behind a statement, inside a window and at the end of a block, with the names of their slots.
use Rattle.std.proofs.Common.{◌≡◌, refl, sym, ap, ◌∙◌, subst, ℕ, zero, suc, ◌+◌, ◌<◌, ◌≤◌, ◌^◌, Bool as Truth, true, false, if◌then◌else◌, List, []}
use Rattle.std.proofs.Common.{◌∷◌}
use Rattle.std.proofs.Common.{◌++◌, length, map, take, find, append_assoc, Option, Some, None, option_map, Ok, arith}
use Rattle.std.proofs.lemmas.List.{length-append}
use Rattle.rg_base.specs.declared.words.Cap.TheVariants.{Mut}
use Rattle.rg_base.specs.declared.ty.Ty.{Ty}
use Rattle.rg_base.specs.declared.ty.Ty.TheVariants.{Ref}
use Rattle.rg_tree.specs.Tree as tree
use Rattle.rg_tree.specs.Tree.{Name, Variable, Path, stmt, StmtKind, declare, assign, assign_element, call, swap, branch, while, enter}
use Rattle.rg_tree.specs.Tree.{print, collect, return, Else, no_else, otherwise, Block, empty, then as next, Class}
use Rattle.rg_rules.specs.Names.{kind_names}
use Rattle.rg_rules.specs.Types.{type_of}
use Rattle.rg_rules.specs.Environment.{Env, Entry, same_variable, closed}
use Rattle.rg_sound.proofs.Frames.Entry.{Absent, Distinct, same_variable-same}
use Rattle.rg_code.specs.Lowering.{Slot, Scope, with_slot, slot_of, type_in, type_along, class_of, scope_behind, scope_inside, scope_at_end}
use Rattle.rg_verify_expressions.specs.Naming.{variable_name, variable_in, written}
use Rattle.rg_verify_expressions.specs.Raised.{path_named}
use Rattle.rg_verify_expressions.specs.Statements as numbers
use Rattle.rg_verify_expressions.specs.Found as found
use Rattle.rg_verify_expressions.specs.Found.{right_named, kind_named, else_named, block_named}
use Rattle.rg_numbered.specs.Numbered.{numbered_right, numbered_assign, numbered_swap, numbered_enter, numbered_kind, numbered_else, numbered_block}
use Rattle.rg_renamed.specs.Renamed.{renamed_classes}
use Rattle.rg_renamed.proofs.Names.{from-long}
use Rattle.rg_renamed.proofs.Classes.{AreFew, type-again}
use Rattle.rg_renamed.proofs.Environments.{Matches}
use Rattle.rg_renamed.proofs.Scopes.{slot_again, scope_again, HasSelf, Scoped, slots-more, scope-more, self-behind, long}

-- Counts of slots

pub scope-long : (m : Truth) (ss : Scope) → length (scope_again m ss) ≡ length ss
scope-long m ss = from-long (slot_again m) 0 ss

assign-count : (cs : List Class) (ss : Scope) (n : ℕ) (x : Variable) (fs : List Name) (r : numbers.Right) →
    found.slots_behind n (numbered_assign cs ss x fs r) ≡ n
assign-count cs ss n x [] r = refl
assign-count cs ss n x (f ∷ fs) r = refl

swap-count : (cs : List Class) (ss : Scope) (n y : ℕ) (x : Variable) (fs : List Name) → found.slots_behind n (numbered_swap cs ss y x fs) ≡ n
swap-count cs ss n y x [] = refl
swap-count cs ss n y x (f ∷ fs) = refl

enter-count : (cs : List Class) (ss : Scope) (n : ℕ) (x : Variable) (fs : List Name) (b : numbers.Block) (w : Option ℕ) →
    found.slots_behind n (numbered_enter cs ss x fs b w) ≡ n
enter-count cs ss n x [] b w = refl
enter-count cs ss n x (f ∷ fs) b w = refl

pub behind-count : (cs : List Class) (ss : Scope) (k : StmtKind) →
    found.slots_behind (length ss) (numbered_kind cs ss k) ≡ length (scope_behind cs ss k)
behind-count cs ss (declare x t r) = sym (slots-more ss _)
behind-count cs ss (assign p r) = assign-count cs ss (length ss) p.base p.fields (numbered_right cs ss r)
behind-count cs ss (assign_element q e r) = refl
behind-count cs ss (call c) = refl
behind-count cs ss (swap y p) = swap-count cs ss (length ss) (slot_of ss (Some y)) p.base p.fields
behind-count cs ss (branch e b other) = refl
behind-count cs ss (while e b) = refl
behind-count cs ss (enter p z b giving) = enter-count cs ss (length ss) p.base p.fields _ _
behind-count cs ss (print e) = refl
behind-count cs ss collect = refl
behind-count cs ss (return e) = refl

-- a statement leaves room for as many names as it has not
pub behind-room : (cs : List Class) (ss : Scope) (k : StmtKind) → length (scope_behind cs ss k) ≤ length ss + kind_names k
behind-room cs ss (declare x t r) = let n = slots-more ss (record { name = Some x; ty = type_of cs t }) in omega (arith, n)
behind-room cs ss (assign p r) = omega arith
behind-room cs ss (assign_element q e r) = omega arith
behind-room cs ss (call c) = omega arith
behind-room cs ss (swap y p) = omega arith
behind-room cs ss (branch e b other) = omega arith
behind-room cs ss (while e b) = omega arith
behind-room cs ss (enter p z b giving) = omega arith
behind-room cs ss (print e) = omega arith
behind-room cs ss collect = omega arith
behind-room cs ss (return e) = omega arith

-- What is declared goes behind what is there

record More (ss out : Scope) : Type 0 where
  more : Scope
  is : out ≡ ss ++ more

nothing-more : (ss : Scope) → ss ≡ ss ++ []
nothing-more [] = refl
nothing-more (s ∷ ss) = ap (λ (xs : Scope). s ∷ xs) (nothing-more ss)

same-more : (ss : Scope) → More ss ss
same-more ss = record { more = []; is = nothing-more ss }

behind-more : (cs : List Class) (ss : Scope) (k : StmtKind) → More ss (scope_behind cs ss k)
behind-more cs ss (declare x t r) = record { more = record { name = Some x; ty = type_of cs t } ∷ []; is = refl }
behind-more cs ss (assign p r) = same-more ss
behind-more cs ss (assign_element q e r) = same-more ss
behind-more cs ss (call c) = same-more ss
behind-more cs ss (swap y p) = same-more ss
behind-more cs ss (branch e b other) = same-more ss
behind-more cs ss (while e b) = same-more ss
behind-more cs ss (enter p z b giving) = same-more ss
behind-more cs ss (print e) = same-more ss
behind-more cs ss collect = same-more ss
behind-more cs ss (return e) = same-more ss

end-more : (cs : List Class) (ss : Scope) (b : Block) → More ss (scope_at_end cs ss b)
end-more cs ss empty = same-more ss
end-more cs ss (next (stmt line k) b) =
    let f = behind-more cs ss k in
    let r = end-more cs (scope_behind cs ss k) b in
    record { more = f.more ++ r.more; is = r.is ∙ ap (λ (xs : Scope). xs ++ r.more) f.is ∙ append_assoc ss f.more r.more }

-- a variable that isn't there yet comes into the next slot
absent-slot : (es : List Entry) (ss more : Scope) (x : Variable) (t : Ty) → Matches es ss → Absent x es →
    slot_of (ss ++ record { name = x; ty = t } ∷ more) x ≡ length ss
absent-slot [] [] more x t h a = ap (λ (b : Truth). if b then 0 else suc (slot_of more x)) (same_variable-same x)
absent-slot [] (s ∷ ss) more x t h a = absurd h
absent-slot (e ∷ es) [] more x t h a = absurd h
absent-slot (e ∷ es) (s ∷ ss) more x t h a =
    ap (λ (v : Variable). if same_variable v x then 0 else suc (slot_of (ss ++ record { name = x; ty = t } ∷ more) x)) h.0
    ∙ ap (λ (b : Truth). if b then 0 else suc (slot_of (ss ++ record { name = x; ty = t } ∷ more) x)) a.0
    ∙ ap (λ (n : ℕ). suc n) (absent-slot es ss more x t h.2 a.1)

-- so is the bridge of a window, at the end of its block too
pub bridge-slot : (m : Truth) (cs : List Class) (env : Env) (ss : Scope) (p : Path) (z : Name) (b : Block) → Scoped m env ss →
    Absent (Some z) env.entries → slot_of (scope_at_end cs (scope_inside cs ss p z) b) (Some z) ≡ length ss
bridge-slot m cs env ss p z b s a =
    let t : Ty = Ref Mut (class_of cs (type_along cs (type_in ss p.base) p.fields)) in
    let r = end-more cs (scope_inside cs ss p z) b in
    ap (λ (xs : Scope). slot_of xs (Some z)) (r.is ∙ append_assoc ss (record { name = Some z; ty = t } ∷ []) r.more)
    ∙ absent-slot env.entries ss r.more (Some z) t s.matches a

-- The environment behind a block

Distinct-take : (n : ℕ) (es : List Entry) → Distinct es → Distinct (take n es)
Distinct-take zero es d = tt
Distinct-take (suc n) [] d = tt
Distinct-take (suc n) (e ∷ es) d = (Absent-take n e.name es d.0, Distinct-take n es d.1)
  where
    Absent-take : (k : ℕ) (x : Variable) (es : List Entry) → Absent x es → Absent x (take k es)
    Absent-take zero x es h = tt
    Absent-take (suc k) x [] h = tt
    Absent-take (suc k) x (e ∷ es) h = (h.0, Absent-take k x es h.1)

matches-take : (es : List Entry) (ss more : Scope) → Matches es (ss ++ more) → Matches (take (length ss) es) ss
matches-take es [] more h = tt
matches-take [] (s ∷ ss) more h = absurd h
matches-take (e ∷ es) (s ∷ ss) more h = (h.0, h.1, matches-take es ss more h.2)

-- behind a block whose scope begins so
pub scoped-closed : (m : Truth) (cs : List Class) (env out : Env) (ss inner : Scope) (s : Slot) (b : Block) → Scoped m env ss → inner ≡ ss ++ s ∷ [] →
    Scoped m out (scope_at_end cs inner b) → Scoped m (closed env out) ss
scoped-closed m cs env out ss inner x b s e o =
    let r = end-more cs inner b in
    let whole : scope_at_end cs inner b ≡ ss ++ (x ∷ r.more) =
    r.is ∙ ap (λ (xs : Scope). xs ++ r.more) e ∙ append_assoc ss (x ∷ []) r.more in
    record {
      distinct = Distinct-take (length env.entries) out.entries o.distinct;
      matches = subst (λ (n : ℕ). Matches (take n out.entries) ss) (sym (long m env ss s))
          (matches-take out.entries ss (x ∷ r.more) (subst (Matches out.entries) whole o.matches));
      self = s.self;
      room = s.room;
    }

-- Scopes again

module _ (cs : List Class) (few : AreFew cs) (m : Truth) where
  abbrev again : List Class
  again = renamed_classes cs

  assign-again : (ss ts : Scope) (n : ℕ) (x : Variable) (fs : List Name) (r : numbers.Right) →
      scope_behind again ts (kind_named m n (numbered_assign cs ss x fs r)) ≡ ts
  assign-again ss ts n x [] r = refl
  assign-again ss ts n x (f ∷ fs) r = refl

  swap-again : (ss ts : Scope) (n y : ℕ) (x : Variable) (fs : List Name) →
      scope_behind again ts (kind_named m n (numbered_swap cs ss y x fs)) ≡ ts
  swap-again ss ts n y x [] = refl
  swap-again ss ts n y x (f ∷ fs) = refl

  enter-again : (ss ts : Scope) (n : ℕ) (x : Variable) (fs : List Name) (b : numbers.Block) (w : Option ℕ) →
      scope_behind again ts (kind_named m n (numbered_enter cs ss x fs b w)) ≡ ts
  enter-again ss ts n x [] b w = refl
  enter-again ss ts n x (f ∷ fs) b w = refl

  pub behind-again : (ss : Scope) (k : StmtKind) → HasSelf m ss →
      scope_behind again (scope_again m ss) (kind_named m (length ss) (numbered_kind cs ss k)) ≡ scope_again m (scope_behind cs ss k)
  behind-again ss (declare x t r) h =
      ap (with_slot (scope_again m ss) (Some (variable_name (length ss)))) (type-again cs few t) ∙ scope-more m ss (Some x) (type_of cs t) h
  behind-again ss (assign p r) h = assign-again ss (scope_again m ss) (length ss) p.base p.fields (numbered_right cs ss r)
  behind-again ss (assign_element q e r) h = refl
  behind-again ss (call c) h = refl
  behind-again ss (swap y p) h = swap-again ss (scope_again m ss) (length ss) (slot_of ss (Some y)) p.base p.fields
  behind-again ss (branch e b other) h = refl
  behind-again ss (while e b) h = refl
  behind-again ss (enter p z b giving) h = enter-again ss (scope_again m ss) (length ss) p.base p.fields _ _
  behind-again ss (print e) h = refl
  behind-again ss collect h = refl
  behind-again ss (return e) h = refl

  pub end-again : (ss : Scope) (b : Block) → HasSelf m ss →
      scope_at_end again (scope_again m ss) (block_named m (length ss) (numbered_block cs ss b)) ≡ scope_again m (scope_at_end cs ss b)
  end-again ss empty h = refl
  end-again ss (next (stmt line k) b) h =
      let behind = scope_behind cs ss k in
      let inner = numbered_block cs behind b in
      ap (λ (ts : Scope). scope_at_end again ts (block_named m (found.slots_behind (length ss) (numbered_kind cs ss k)) inner)) (behind-again ss k h)
      ∙ ap (λ (n : ℕ). scope_at_end again (scope_again m behind) (block_named m n inner)) (behind-count cs ss k)
      ∙ end-again behind b (self-behind m cs ss k h)
