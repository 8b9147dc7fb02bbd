-- The ends of bodies: what is told of them stands there, and what stands there is told.
use Rattle.std.proofs.Common.{◌≡◌, ◌==◌, ℕ, suc, ◌+◌, Bool as Truth, true, false, List, [], ◌∷◌, drop, slice_get, Option, Some, None}
use Rattle.std.proofs.Common.{refl, sym, ap, ◌∙◌, subst, arith}
use Rattle.std.proofs.lemmas.Bool.{eqb-true, eq-eqb}
use Rattle.std.proofs.lemmas.Option.{same_Some}
use Rattle.rg_base.proofs.Callers.Lists.{drop-get}
use Rattle.rg_code.specs.declared.op.Op.{Op}
use Rattle.rg_code.specs.declared.op.Op.TheVariants as i
use Rattle.rg_verify_expressions.specs.Signs.{mark_of, end_of, closing_of}
use Rattle.rg_verify_expressions.specs.Statements.{Block}
use Rattle.rg_verify_expressions.specs.Blocks.{◌>>=◌, ◌>>◌, test, sign, Piece}
use Rattle.rg_verify_expressions.specs.Standing.{returns, Closes}
use Rattle.rg_classes.specs.Written.{no_line}
use Rattle.rg_bodies.specs.declared.ending.Ending.{Ending}
use Rattle.rg_bodies.specs.declared.ending.Ending.TheVariants as ending
use Rattle.rg_bodies.specs.Bodies.{halt_of, return_void_of, main_end, plain_end, end_told}
use Rattle.rg_bodies.specs.Standing.{end_ops, IsEndFit}
use Rattle.rg_bodies.proofs.Places.{drop-is, drop-next, piece-then}

-- What a block tells, by its parts, and what its parts say

pub bind-some : {A B : Type 0} (o : Option A) (go : A → Option B) (b : B) → ◌>>=◌ o go ≡ Some b → (a : A) × (o ≡ Some a) × (go a ≡ Some b)
bind-some (Some a) go b e = (a, refl, e)
bind-some None go b e = absurd cc

pub then-some : {A B : Type 0} (o : Option A) (rest : Option B) (b : B) → ◌>>◌ o rest ≡ Some b → (a : A) × (o ≡ Some a) × (rest ≡ Some b)
then-some (Some a) rest b e = (a, refl, e)
then-some None rest b e = absurd cc

pub test-some : {B : Type 0} (t : Truth) (rest : Option B) (b : B) → ◌>>◌ (test t) rest ≡ Some b → (t ≡ true) × (rest ≡ Some b)
test-some true rest b e = (refl, e)
test-some false rest b e = absurd cc

pub bind-is : {A B : Type 0} (o : Option A) (go : A → Option B) (a : A) → o ≡ Some a → ◌>>=◌ o go ≡ go a
bind-is o go a e = ap (λ (x : Option _). ◌>>=◌ x go) e

pub then-is : {A B : Type 0} (o : Option A) (rest : Option B) (a : A) → o ≡ Some a → ◌>>◌ o rest ≡ rest
then-is o rest a e = ap (λ (x : Option _). ◌>>◌ x rest) e

pub test-is : {B : Type 0} (t : Truth) (rest : Option B) → t ≡ true → ◌>>◌ (test t) rest ≡ rest
test-is t rest e = ap (λ (x : Truth). ◌>>◌ (test x) rest) e

pub same-pair : {A B : Type 0} (a c : A) (b d : B) → ◌≡◌ {A = Option (A × B)} (Some (a, b)) (Some (c, d)) → (a ≡ c) × (b ≡ d)
same-pair {A} {B} a c b d h =
    let x : A × B = (a, b) in
    let y : A × B = (c, d) in
    let both : x ≡ y = same_Some x y h in
    (ap (λ (z : A × B). z.0) both, ap (λ (z : A × B). z.1) both)

-- What a sign tells is such an instruction

mark-is : (o : Op) (x : ℕ) → mark_of o ≡ Some x → o ≡ i.Mark x
mark-is (i.Mark l) x e = ap i.Mark (same_Some _ _ e)
mark-is o x e = absurd cc

end-is : (o : Op) (x : ℕ) → end_of o ≡ Some x → o ≡ i.End x
end-is (i.End s) x e = ap i.End (same_Some _ _ e)
end-is o x e = absurd cc

halt-is : (o : Op) (x : Unit {0}) → halt_of o ≡ Some x → o ≡ i.Halt
halt-is i.Halt x e = refl
halt-is o x e = absurd cc

void-is : (o : Op) (x : Unit {0}) → return_void_of o ≡ Some x → o ≡ i.RetVoid
void-is i.RetVoid x e = refl
void-is o x e = absurd cc

module _ (ops : List Op) where
  pub piece-nil : (at : ℕ) → Piece ops at [] at
  piece-nil at = record { parts = refl; place = omega arith }

  piece-one : (at : ℕ) (o : Op) → slice_get ops at ≡ Some o → Piece ops at (o ∷ []) (suc at)
  piece-one at o e = record { parts = drop-get ops at o e; place = omega arith }

  sign-piece : {A : Type 0} (of : Op → Option A) (op : A → Op) → ((o : Op) (x : A) → of o ≡ Some x → o ≡ op x) → (at : ℕ) (x : A)
      → sign of ops at ≡ Some x → Piece ops at (op x ∷ []) (suc at)
  sign-piece of op is at x h =
      let (o, there, e) = bind-some (slice_get ops at) of x h in
      piece-one at (op x) (there ∙ ap (λ (p : Op). Some p) (is o x e))

  -- a mark in front of an instruction that ends a block
  closes-end : (at line : ℕ) (of : Op → Option ℕ) (op : ℕ → Op) → ((o : Op) (x : ℕ) → of o ≡ Some x → o ≡ op x)
      → ((s : ℕ) → closing_of (op s) ≡ Some tt) → (s : ℕ) → sign mark_of ops at ≡ Some line → sign of ops (suc at) ≡ Some s → Closes ops at false
  closes-end at line of op is closing s mark end =
      let (o, there, e) = bind-some (slice_get ops (suc at)) of s end in
      ((line, mark), ap (λ (x : Option Op). ◌>>=◌ x closing_of) there ∙ ap closing_of (is o s e) ∙ closing s)

  main-says : (at line end : ℕ) → main_end ops at ≡ Some (line, end) → Piece ops at (i.Mark line ∷ i.End 0 ∷ i.Halt ∷ []) end × Closes ops at false
  main-says at line end h =
      let (l, le, h1) = bind-some (sign mark_of ops at) _ (line, end) h in
      let (s, se, h2) = bind-some (sign end_of ops (suc at)) _ (line, end) h1 in
      let (none, h3) = test-some (s == 0) _ (line, end) h2 in
      let (u, ue, h4) = then-some (sign halt_of ops (suc (suc at))) _ (line, end) h3 in
      let (same_line, same_end) = same-pair l line (suc (suc (suc at))) end h4 in
      let mark = sign-piece mark_of i.Mark mark-is at l le in
      let all = sign-piece end_of i.End end-is (suc at) s se in
      let halt = sign-piece halt_of (λ x. i.Halt) halt-is (suc (suc at)) u ue in
      let whole : Piece ops at (i.Mark l ∷ i.End s ∷ i.Halt ∷ []) (suc (suc (suc at))) = piece-then ops mark (piece-then ops all halt) in (
        subst (λ (n : ℕ). Piece ops at (i.Mark line ∷ i.End n ∷ i.Halt ∷ []) end) (eqb-true s 0 none)
            (subst (λ (n : ℕ). Piece ops at (i.Mark n ∷ i.End s ∷ i.Halt ∷ []) end) same_line
            (subst (λ (n : ℕ). Piece ops at (i.Mark l ∷ i.End s ∷ i.Halt ∷ []) n) same_end whole)),
        closes-end at l end_of i.End end-is (λ n. refl) s le se,
      )

  plain-says : (at line end : ℕ) → plain_end ops at ≡ Some (line, end) → Piece ops at (i.Mark line ∷ i.RetVoid ∷ []) end × Closes ops at false
  plain-says at line end h =
      let (l, le, h1) = bind-some (sign mark_of ops at) _ (line, end) h in
      let (u, ue, h2) = then-some (sign return_void_of ops (suc at)) _ (line, end) h1 in
      let (same_line, same_end) = same-pair l line (suc (suc at)) end h2 in
      let (o, there, e) = bind-some (slice_get ops (suc at)) return_void_of u ue in
      let mark = sign-piece mark_of i.Mark mark-is at l le in
      let back = sign-piece return_void_of (λ x. i.RetVoid) void-is (suc at) u ue in
      let whole : Piece ops at (i.Mark l ∷ i.RetVoid ∷ []) (suc (suc at)) = piece-then ops mark back in (
        subst (λ (n : ℕ). Piece ops at (i.Mark n ∷ i.RetVoid ∷ []) end) same_line
            (subst (λ (n : ℕ). Piece ops at (i.Mark l ∷ i.RetVoid ∷ []) n) same_end whole),
        ((l, le), ap (λ (x : Option Op). ◌>>=◌ x closing_of) there ∙ ap closing_of (void-is o u e)),
      )

  -- a sign is read where its instruction stands
  sign-is : {A : Type 0} (of : Op → Option A) (at : ℕ) (o : Op) (os : List Op) → drop at ops ≡ o ∷ os → sign of ops at ≡ of o
  sign-is of at o os h = ap (λ (x : Option Op). ◌>>=◌ x of) (drop-is ops at o os h)

  main-reads : (at line end : ℕ) → Piece ops at (i.Mark line ∷ i.End 0 ∷ i.Halt ∷ []) end → (main_end ops at ≡ Some (line, end)) × Closes ops at false
  main-reads at line end p =
      let rest = drop end ops in
      let one : drop at ops ≡ i.Mark line ∷ (i.End 0 ∷ (i.Halt ∷ rest)) = p.parts in
      let two : drop (suc at) ops ≡ i.End 0 ∷ (i.Halt ∷ rest) = drop-next ops at (i.Mark line) (i.End 0 ∷ (i.Halt ∷ rest)) one in
      let three : drop (suc (suc at)) ops ≡ i.Halt ∷ rest = drop-next ops (suc at) (i.End 0) (i.Halt ∷ rest) two in
      let mark : sign mark_of ops at ≡ Some line = sign-is mark_of at (i.Mark line) (i.End 0 ∷ (i.Halt ∷ rest)) one in
      let all : sign end_of ops (suc at) ≡ Some 0 = sign-is end_of (suc at) (i.End 0) (i.Halt ∷ rest) two in
      let halt : sign halt_of ops (suc (suc at)) ≡ Some tt = sign-is halt_of (suc (suc at)) i.Halt rest three in
      let same : suc (suc (suc at)) ≡ end = omega (arith, p.place) in (
        bind-is (sign mark_of ops at) _ line mark ∙ bind-is (sign end_of ops (suc at)) _ 0 all ∙ test-is (0 == 0) _ (eq-eqb 0 0 refl)
            ∙ then-is (sign halt_of ops (suc (suc at))) _ tt halt ∙ ap (λ (n : ℕ). Some (line, n)) same,
        ((line, mark), sign-is closing_of (suc at) (i.End 0) (i.Halt ∷ rest) two),
      )

  plain-reads : (at line end : ℕ) → Piece ops at (i.Mark line ∷ i.RetVoid ∷ []) end → (plain_end ops at ≡ Some (line, end)) × Closes ops at false
  plain-reads at line end p =
      let rest = drop end ops in
      let one : drop at ops ≡ i.Mark line ∷ (i.RetVoid ∷ rest) = p.parts in
      let two : drop (suc at) ops ≡ i.RetVoid ∷ rest = drop-next ops at (i.Mark line) (i.RetVoid ∷ rest) one in
      let mark : sign mark_of ops at ≡ Some line = sign-is mark_of at (i.Mark line) (i.RetVoid ∷ rest) one in
      let back : sign return_void_of ops (suc at) ≡ Some tt = sign-is return_void_of (suc at) i.RetVoid rest two in
      let same : suc (suc at) ≡ end = omega (arith, p.place) in (
        bind-is (sign mark_of ops at) _ line mark ∙ then-is (sign return_void_of ops (suc at)) _ tt back ∙ ap (λ (n : ℕ). Some (line, n)) same,
        ((line, mark), sign-is closing_of (suc at) i.RetVoid rest two),
      )

  -- main doesn't end where no `halt` stands behind a mark and an end
  tested-none : {B : Type 0} (t : Truth) (rest : Option B) → rest ≡ None → ◌>>◌ (test t) rest ≡ None
  tested-none true rest e = e
  tested-none false rest e = refl

  pub main-none : (at line slot : ℕ) → sign mark_of ops at ≡ Some line → sign end_of ops (at + 1) ≡ Some slot → sign halt_of ops (at + 2) ≡ None
      → main_end ops at ≡ None
  main-none at line slot mark all halt =
      let one : at + 1 ≡ suc at = omega arith in
      let two : at + 2 ≡ suc (suc at) = omega arith in
      let end : sign end_of ops (suc at) ≡ Some slot = subst (λ (n : ℕ). sign end_of ops n ≡ Some slot) one all in
      let none : sign halt_of ops (suc (suc at)) ≡ None = subst (λ (n : ℕ). sign halt_of ops n ≡ None) two halt in
      bind-is (sign mark_of ops at) _ line mark ∙ bind-is (sign end_of ops (suc at)) _ slot end
      ∙ tested-none (slot == 0) _ (ap (λ (x : Option (Unit {0})). ◌>>◌ x (Some (line, suc (suc (suc at))))) none)

  -- Ends of all kinds

  closes-by : (at : ℕ) (t : Truth) → Closes ops at false → Closes ops at t
  closes-by at true c = tt
  closes-by at false c = c

  -- what stands behind a block, that the block ends there, and what the end wants of the block
  abbrev pub StandsBehind : Ending → (b : Block) → (at line end : ℕ) → Type 0
  StandsBehind e b at line end = Piece ops at (end_ops e line) end × Closes ops at (returns b) × IsEndFit e (record { block = b; line = line })

  pub end-stands : (e : Ending) (b : Block) (at line end : ℕ) → end_told ops e b at ≡ Some (line, end) → StandsBehind e b at line end
  end-stands ending.Main b at line end h = let (p, c) = main-says at line end h in (p, closes-by at (returns b) c, tt)
  end-stands ending.Plain b at line end h = let (p, c) = plain-says at line end h in (p, closes-by at (returns b) c, tt)
  end-stands ending.Giving b at line end h =
      let (r, h1) = test-some (returns b) _ (line, end) h in
      let (same_line, same_end) = same-pair no_line line at end h1 in
      (subst (λ (n : ℕ). Piece ops at [] n) same_end (piece-nil at), subst (Closes ops at) (sym r) tt, (r, sym same_line))

  pub end-reads : (e : Ending) (b : Block) (at line end : ℕ) → Piece ops at (end_ops e line) end → IsEndFit e (record { block = b; line = line })
      → (end_told ops e b at ≡ Some (line, end)) × Closes ops at (returns b)
  end-reads ending.Main b at line end p f = let (h, c) = main-reads at line end p in (h, closes-by at (returns b) c)
  end-reads ending.Plain b at line end p f = let (h, c) = plain-reads at line end p in (h, closes-by at (returns b) c)
  end-reads ending.Giving b at line end p (r, none) =
      let same : at ≡ end = omega (arith, p.place) in
      (test-is (returns b) _ r ∙ ap (λ (n : ℕ). Some (n, at)) (sym none) ∙ ap (λ (n : ℕ). Some (line, n)) same, subst (Closes ops at) (sym r) tt)
