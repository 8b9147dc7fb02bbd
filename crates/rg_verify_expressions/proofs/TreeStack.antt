-- What a stack of rows stands for, as items come and go.
use Rattle.std.proofs.Common.{◌≡◌, ◌==◌, ℕ, ◌+◌, ◌-◌, ◌≤◌, Bool as Truth, true, false, List, [], ◌∷◌, ◌++◌, length, slice_get}
use Rattle.std.proofs.Common.{take, inl, inr, Some, None, Result, Ok, Err, refl, sym, ap, subst, ◌∙◌, arith}
use Rattle.std.proofs.lemmas.Bool.Decides.{nat_tests}
use Rattle.std.proofs.lemmas.List.{same_from_push, length-append, take-append-drop, drop_all}
use Rattle.std.proofs.lemmas.Option.{slice_get_cases}
use Rattle.rg_base.proofs.Callers.Lists.{drop-here}
use Rattle.rg_tree.specs.Rows.Tables.{Tables}
use Rattle.rg_tree.specs.Adds.{Extends}
use Rattle.rg_tree.proofs.Adding.{means-later}
use Rattle.rg_verify_expressions.specs.declared.held.Held.{Held}
use Rattle.rg_verify_expressions.specs.declared.held.Held.TheVariants as held
use Rattle.rg_verify_expressions.specs.declared.held.Wait.{Wait}
use Rattle.rg_verify_expressions.specs.declared.refusal.Refusal.{Refusal}
use Rattle.rg_verify_expressions.specs.declared.refusal.Refusal.TheVariants as refusal
use Rattle.rg_verify_expressions.specs.Raised.{Raised, named}
use Rattle.rg_verify_expressions.specs.Raising.{Item, tree, checked, indexed, waits, settle}
use Rattle.rg_verify_expressions.specs.Rows.{IsTree}
use Rattle.rg_verify_expressions.specs.Inner.Stacks.{IsFor, Piled, MakesRow, TakesRow, waiting, TakesWait}

-- the tables grow

pub for-later : {t u : Tables} (m : Truth) (h : Held) (x : Item) → Extends t u → IsFor t m h x → IsFor u m h x
for-later m (held.Path s ns) (tree r) g (ks, e, names) = (ks, e, means-later names g)
for-later m (held.Tree n) (tree r) g (f, not_path) = (means-later f g, not_path)
for-later m (held.Checked p) (checked s ks) g f = means-later f g
for-later m (held.Indexed p n) (indexed s ks e) g (f, h) = (means-later f g, means-later h g)
for-later m (held.Waits w) (waits j a to) g (e, f, means) = (e, f, means-later means g)
for-later m h x g f = absurd f

pub piled-later : {t u : Tables} (m : Truth) (hs : List Held) (items : List Item) → Extends t u → Piled t m hs items → Piled u m hs items
piled-later m hs [] g p = p
piled-later m hs (x ∷ xs) g (below, h, e, f, p) = (below, h, e, for-later m h x g f, piled-later m below xs g p)

-- the topmost item

not-empty : {A : Type 0} (xs : List A) (x : A) → xs ++ x ∷ [] ≡ [] → ⊥
not-empty [] x e = absurd cc
not-empty (y ∷ ys) x e = absurd cc

pub piled-push : (t : Tables) (m : Truth) (hs news : List Held) (h : Held) (items : List Item) (x : Item) → news ≡ hs ++ h ∷ []
    → IsFor t m h x → Piled t m hs items → Piled t m news (x ∷ items)
piled-push t m hs news h items x e f p = (hs, h, e, f, p)

-- what was on top stands for the topmost item
pub piled-pop : (t : Tables) (m : Truth) (hs news : List Held) (h : Held) (items : List Item) → hs ≡ news ++ h ∷ [] → Piled t m hs items
    → (x : Item) × (xs : List Item) × (items ≡ x ∷ xs) × IsFor t m h x × Piled t m news xs
piled-pop t m hs news h [] e p = absurd (not-empty news h (sym e ∙ p))
piled-pop t m hs news h (x ∷ xs) e (below, g, f, is, p) =
    let (lists, tops) = same_from_push below news g h (sym f ∙ e) in
    (x, xs, refl, subst (λ (k : Held). IsFor t m k x) tops is, subst (λ (ks : List Held). Piled t m ks xs) lists p)

pub piled-none : (t : Tables) (m : Truth) (hs : List Held) (items : List Item) → length hs ≡ 0 → Piled t m hs items → items ≡ []
piled-none t m hs [] e p = refl
piled-none t m hs (x ∷ xs) e (below, g, f, is, p) = absurd (omega (arith, e, ap length f, length-append below (g ∷ [])))

-- a row of the topmost tree

pub takes-none : (t u : Tables) (m : Truth) (hs news : List Held) (items : List Item) → length hs ≡ 0 → Piled t m hs items
    → TakesRow t u m news items (Err refusal.NotRaised)
takes-none t u m hs news items e p = rw (piled-none t m hs items e p) tt

takes-by : (t u : Tables) (m : Truth) (news : List Held) (x : Item) (xs : List Item) (r : Result ℕ Refusal) → MakesRow t u m x r → Piled t m news xs
    → TakesRow t u m news (x ∷ xs) r
takes-by t u m news (tree a) xs (Ok n) made p = (made, piled-later m news xs made.extends p)
takes-by t u m news (tree a) xs (Err refusal.NotRaised) made p = absurd made
takes-by t u m news (tree a) xs (Err refusal.Memory) made p = tt
takes-by t u m news x xs (Ok n) made p = absurd made
takes-by t u m news x xs (Err refusal.NotRaised) made p = tt
takes-by t u m news x xs (Err refusal.Memory) made p = tt

pub takes-row : (t u : Tables) (m : Truth) (hs news : List Held) (h : Held) (items : List Item) (r : Result ℕ Refusal) → hs ≡ news ++ h ∷ []
    → ((x : Item) → IsFor t m h x → MakesRow t u m x r) → Piled t m hs items → TakesRow t u m news items r
takes-row t u m hs news h items r e makes p =
    let (x, xs, same, is, below) = piled-pop t m hs news h items e p in
    rw same (takes-by t u m news x xs r (makes x is) below)

-- What waits on top

-- the last element, behind the others
pub last-on : {A : Type 0} (xs : List A) (x : A) → slice_get xs (length xs - 1) ≡ Some x → xs ≡ take (length xs - 1) xs ++ x ∷ []
last-on xs x e =
    let n : ℕ = length xs - 1 in
    let past : length xs ≤ n + 1 = omega arith in
    sym (take-append-drop n xs) ∙ ap (λ ys. take n xs ++ ys) (drop-here xs n x e ∙ ap (λ ys. x ∷ ys) (drop_all (n + 1) xs past))

no-last : {A : Type 0} (xs : List A) → slice_get xs (length xs - 1) ≡ None → length xs ≡ 0
no-last [] e = refl
no-last (x ∷ xs) e =
    elim (slice_get_cases (x ∷ xs) (length (x ∷ xs) - 1)).1 [
      | inl (y, lt, f, g) ↦ absurd cc
      | inr (le, f) ↦ absurd (omega (arith, le))
    ]

module _ (t : Tables) (m : Truth) (end : ℕ) (hs : List Held) (items : List Item) where
  pub wait-empty : slice_get hs (length hs - 1) ≡ None → Piled t m hs items → TakesWait t m end hs hs items None
  wait-empty e p = (refl, λ r. rw (piled-none t m hs items (no-last hs e) p) refl)

  stays-by : (h : Held) (x : Item) (xs : List Item) → IsFor t m h x → ((w : Wait) → waiting h ≡ Some w → w.to ≡ end → ⊥)
      → (r : Raised) → settle end r (x ∷ xs) ≡ tree r ∷ x ∷ xs
  stays-by h (tree a) xs f far r = refl
  stays-by h (checked s ks) xs f far r = refl
  stays-by h (indexed s ks e) xs f far r = refl
  stays-by (held.Path s ns) (waits j a to) xs f far r = absurd f
  stays-by (held.Tree n) (waits j a to) xs f far r = absurd f
  stays-by (held.Checked p) (waits j a to) xs f far r = absurd f
  stays-by (held.Indexed p n) (waits j a to) xs f far r = absurd f
  stays-by (held.Waits w) (waits j a to) xs (e, g, means) far r =
      let other : (to == end) ≡ false = by (to == end) refl in
      rw other refl
    where
      by : (b : Truth) → (to == end) ≡ b → (to == end) ≡ false
      by false q = q
      by true q =
          let same : to ≡ end = grind (arith, nat_tests, q) in
          absurd (far w refl (g ∙ same))

  -- the topmost item doesn't wait for this end
  pub wait-stays : (h : Held) → slice_get hs (length hs - 1) ≡ Some h → ((w : Wait) → waiting h ≡ Some w → w.to ≡ end → ⊥) → Piled t m hs items
      → TakesWait t m end hs hs items None
  wait-stays h e far p =
      let (x, xs, same, f, below) = piled-pop t m hs (take (length hs - 1) hs) h items (last-on hs h e) p in
      (refl, λ r. rw same (stays-by h x xs f far r))

  takes-wait-by : (news : List Held) (h : Held) (w : Wait) (x : Item) (xs : List Item) → waiting h ≡ Some w → w.to ≡ end → IsFor t m h x
      → Piled t m news xs → TakesWait t m end hs news (x ∷ xs) (Some w)
  takes-wait-by news (held.Waits v) w (waits j a to) xs e here (f, g, means) p =
      let same : v ≡ w = cc in
      let to-is : to ≡ end = sym g ∙ ap (λ (z : Wait). z.to) same ∙ here in
      (ap (λ (z : Wait). z.junction) (sym same) ∙ f, to-is, subst (λ (z : Wait). IsTree t z.left (named m a)) same means, p)
  takes-wait-by news (held.Waits v) w x xs e here f p = absurd f
  takes-wait-by news h w x xs e here f p = absurd cc

  -- it waits for this end
  pub wait-taken : (news : List Held) (h : Held) (w : Wait) → slice_get hs (length hs - 1) ≡ Some h → waiting h ≡ Some w → w.to ≡ end
      → news ≡ take (length hs - 1) hs → Piled t m hs items → TakesWait t m end hs news items (Some w)
  wait-taken news h w e f here cut p =
      let (x, xs, same, is, below) = piled-pop t m hs news h items (last-on hs h e ∙ ap (λ (ks : List Held). ks ++ h ∷ []) (sym cut)) p in
      rw same (takes-wait-by news h w x xs f here is below)
