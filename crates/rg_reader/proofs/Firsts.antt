-- The token that stands next.
use Rattle.std.proofs.Common.{◌≡◌, ◌≢◌, ℕ, ◌-◌, ◌<◌, ◌≤◌, refl, Some, None, List, [], ◌∷◌, length, get_or, take, drop, ap, sym, arith}
use Rattle.std.proofs.lemmas.List.{take_all}
use Rattle.rg_base.specs.declared.token.Kind.{Kind}
use Rattle.rg_base.specs.declared.token.Token.{Token}
use Rattle.rg_tree.specs.Table.{next}
use Rattle.rg_tree.specs.Stuck.{line_at}
use Rattle.rg_reader.specs.Heads.{AreWithin}
use Rattle.rg_reader.specs.Steps.{State, IsFirst}

-- a list is its first item and the rest
pub list-first : {A : Type 0} (d : A) (xs : List A) → 1 ≤ length xs → xs ≡ get_or xs 0 d ∷ take (length xs - 1) (drop 1 xs)
list-first d [] l = absurd (omega arith)
list-first d (x ∷ xs) l = ap (λ ys. x ∷ ys) (sym (take_all (length (x ∷ xs) - 1) xs (omega arith)))

pub first-is : {x : Kind} {a : State} {t : Token} {ts : List Token} → AreWithin (length a.source) a.rest → a.rest ≡ t ∷ ts → t.kind ≡ x
    → IsFirst x a t ts
first-is {a = a} w e h = let v = rw e at w in record { is = e; kind = h; within = v.0; others = v.1 }

-- nothing stands next
pub next-empty : (ts : List Token) → length ts < 1 → next ts ≡ None
next-empty [] l = refl
next-empty (t ∷ ts) l = absurd (omega arith)

pub no-next : (ts : List Token) (x : Kind) → length ts < 1 → next ts ≢ Some x
no-next ts x l e = let n = next-empty ts l in cc

-- the first of several stands next
pub next-some : (d : Token) (ts : List Token) → 1 ≤ length ts → Some (get_or ts 0 d).kind ≡ next ts
next-some d [] l = absurd (omega arith)
next-some d (t ∷ ts) l = refl

-- and no other kind
pub other-next : (d : Token) (ts : List Token) (x : Kind) → 1 ≤ length ts → (get_or ts 0 d).kind ≢ x → next ts ≢ Some x
other-next d ts x l h e = let n = next-some d ts l in h cc

-- it has the line of the first
pub line-some : (d : Token) (ts : List Token) (end : ℕ) → 1 ≤ length ts → (get_or ts 0 d).line ≡ line_at end ts
line-some d [] end l = absurd (omega arith)
line-some d (t ∷ ts) end l = refl

pub line-empty : (ts : List Token) (end : ℕ) → length ts < 1 → end ≡ line_at end ts
line-empty [] end l = refl
line-empty (t ∷ ts) end l = absurd (omega arith)
