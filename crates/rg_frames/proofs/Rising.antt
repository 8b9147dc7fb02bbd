-- Windows and marks that rise still rise with one more, and with one less.
use Rattle.std.proofs.Common.{◌≡◌, ◌≤◌, ◌-◌, ◌++◌, ◌∷◌, ℕ, zero, suc, [], Some, List, length, take}
use Rattle.std.proofs.Common.{slice_get, get_or, refl, sym, ap, ◌∙◌, arith, length-append}
use Rattle.std.proofs.lemmas.Option.{slice_get_within, slice_get-get_or, same_Some}
use Rattle.std.proofs.lemmas.List.{length-take-le}
use Rattle.rg_frames.specs.declared.rows.Window.{Window}
use Rattle.rg_frames.specs.Stack.{Stack, IsTop}
use Rattle.rg_frames.specs.Changes.{BasesRise}
use Rattle.rg_frames.specs.Inner.Layout.{Rises, Lies}

-- an element of a longer list is one of the list, or the new one
pub data From {X : Type 0} (xs : List X) (new : X) (k : ℕ) (x : X) : Type 0 where
  old : slice_get xs k ≡ Some x → From xs new k x
  last : k ≡ length xs → x ≡ new → From xs new k x

further : {X : Type 0} → (y : X) (xs : List X) (new : X) (k : ℕ) (x : X) → From xs new k x → From (y ∷ xs) new (suc k) x
further y xs new k x (old p) = old p
further y xs new k x (last p q) = last (omega (arith, p)) q

pub got-append : {X : Type 0} → (xs : List X) (new : X) (k : ℕ) (x : X) → slice_get (xs ++ new ∷ []) k ≡ Some x → From xs new k x
got-append [] new zero x e = last refl (cc)
got-append [] new (suc k) x e = absurd cc
got-append (y ∷ xs) new zero x e = old e
got-append (y ∷ xs) new (suc k) x e = further y xs new k x (got-append xs new k x e)

push-rise : (most : ℕ) (ws : List Window) (top new : Window) → slice_get ws (length ws - 1) ≡ Some top → top.base ≤ new.base → BasesRise most ws
    → (j k : ℕ) (v w : Window) → j ≤ k → From ws new j v → From ws new k w → v.base ≤ w.base
push-rise most ws top new is le r j k v w at (old p) (old q) = r.rise j k v w at p q
push-rise most ws top new is le r j k v w at (old p) (last e q) =
    let a : v.base ≤ top.base = r.rise j (length ws - 1) v top (omega (arith, slice_get_within ws j v p)) p is in
    let b : w.base ≡ new.base = ap (λ (x : Window). x.base) q in
    omega (arith, a, b, le)
push-rise most ws top new is le r j k v w at (last e p) (old q) = absurd (omega (arith, e, at, slice_get_within ws k w q))
push-rise most ws top new is le r j k v w at (last e p) (last f q) =
    let a : v.base ≡ new.base = ap (λ (x : Window). x.base) p in
    let b : w.base ≡ new.base = ap (λ (x : Window). x.base) q in
    omega (arith, a, b)

push-within : (most : ℕ) (ws : List Window) (new : Window) → new.base ≤ most → BasesRise most ws → (k : ℕ) (w : Window) → From ws new k w
    → w.base ≤ most
push-within most ws new le r k w (old p) = r.within k w p
push-within most ws new le r k w (last e p) =
    let a : w.base ≡ new.base = ap (λ (x : Window). x.base) p in
    omega (arith, a, le)

mark-within : (most : ℕ) (ns : List ℕ) → Rises most ns → (k n : ℕ) → From ns most k n → n ≤ most
mark-within most ns r k n (old p) = r.within k n p
mark-within most ns r k n (last e p) = omega (arith, p)

mark-rise : (most : ℕ) (ns : List ℕ) → Rises most ns → (j k m n : ℕ) → j ≤ k → From ns most j m → From ns most k n → m ≤ n
mark-rise most ns r j k m n at (old p) (old q) = r.rise j k m n at p q
mark-rise most ns r j k m n at (old p) (last e q) = omega (arith, q, r.within j m p)
mark-rise most ns r j k m n at (last e p) (old q) = absurd (omega (arith, e, at, slice_get_within ns k n q))
mark-rise most ns r j k m n at (last e p) (last f q) = omega (arith, p, q)

-- one window more, without temporaries
pub lies-push : (v : Stack) (top new : Window) (next n : ℕ) → n ≡ length v.temps → IsTop v top → top.base ≤ new.base → new.base ≤ length v.slots
    → Lies v
    → Lies (record v { windows = v.windows ++ new ∷ []; marks = v.marks ++ n ∷ []; next = next })
lies-push v top new next n e is le within h = rw e (record {
  bases = record {
    rise = λ j k a b at p q. push-rise (length v.slots) v.windows top new is le h.bases j k a b at (got-append v.windows new j a p)
        (got-append v.windows new k b q);
    within = λ k a p. push-within (length v.slots) v.windows new within h.bases k a (got-append v.windows new k a p);
  };
  marks = record {
    rise = λ j k a b at p q. mark-rise (length v.temps) v.marks h.marks j k a b at (got-append v.marks (length v.temps) j a p)
        (got-append v.marks (length v.temps) k b q);
    within = λ k a p. mark-within (length v.temps) v.marks h.marks k a (got-append v.marks (length v.temps) k a p);
  };
  as_many = omega (arith, h.as_many, length-append v.marks (length v.temps ∷ []), length-append v.windows (new ∷ []));
})

pub got-take : {X : Type 0} → (n : ℕ) (xs : List X) (k : ℕ) (x : X) → slice_get (take n xs) k ≡ Some x → slice_get xs k ≡ Some x
got-take zero [] k x e = e
got-take zero (y ∷ xs) k x e = absurd cc
got-take (suc n) [] k x e = e
got-take (suc n) (y ∷ xs) zero x e = e
got-take (suc n) (y ∷ xs) (suc k) x e = got-take n xs k x e

-- one window less
pub lies-pop : (v : Stack) (m n : ℕ) → m ≡ length v.windows → n ≡ length v.marks → Lies v
    → Lies (record v { windows = take (m - 1) v.windows; marks = take (n - 1) v.marks })
lies-pop v m n d e h = rw (d, e) (record {
  bases = record {
    rise = λ j k a b at p q. h.bases.rise j k a b at (got-take (length v.windows - 1) v.windows j a p)
        (got-take (length v.windows - 1) v.windows k b q);
    within = λ k a p. h.bases.within k a (got-take (length v.windows - 1) v.windows k a p);
  };
  marks = record {
    rise = λ j k a b at p q. h.marks.rise j k a b at (got-take (length v.marks - 1) v.marks j a p) (got-take (length v.marks - 1) v.marks k b q);
    within = λ k a p. h.marks.within k a (got-take (length v.marks - 1) v.marks k a p);
  };
  as_many = omega (
    arith,
    h.as_many,
    length-take-le (length v.marks - 1) v.marks (omega arith),
    length-take-le (length v.windows - 1) v.windows (omega arith),
  );
})

-- the window on top is the last one
pub is-last : (ws : List Window) (n : ℕ) (t u : Window) → n ≡ length ws → slice_get ws (length ws - 1) ≡ Some t → u ≡ get_or ws (n - 1) u → t ≡ u
is-last ws n t u m e f =
    let last : slice_get ws (length ws - 1) ≡ Some (get_or ws (length ws - 1) u) =
    slice_get-get_or ws (length ws - 1) u (slice_get_within ws (length ws - 1) t e) in
    same_Some t u (sym e ∙ last ∙ ap (λ k. Some (get_or ws (k - 1) u)) (sym m) ∙ ap Some (sym f))
