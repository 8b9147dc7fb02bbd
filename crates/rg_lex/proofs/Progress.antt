-- The tokens found so far, and one piece more.
use Rattle.std.proofs.Common.{◌≡◌, ℕ, ◌+◌, ◌-◌, ◌<◌, ◌≤◌, List, [], ◌∷◌, ◌++◌, length, take, drop, get_or, Option, Some, None, Result, Ok, Err, refl}
use Rattle.std.proofs.Common.{sym, ◌∙◌, ap, arith, append-nil, append_assoc}
use Rattle.std.proofs.lemmas.List.{drop_more, take_rest, drop-drop, drop_all, length-drop}
use Rattle.rg_base.specs.declared.token.Kind.{Kind}
use Rattle.rg_base.specs.declared.token.Token.{Token}
use Rattle.rg_base.specs.declared.fault.Code.{Code}
use Rattle.rg_base.specs.declared.fault.Fault.{Fault}
use Rattle.rg_base.specs.Pieces.{front}
use Rattle.rg_base.specs.Tokens.{read_front, with_token, line_after, cut_from, cut, line_behind, end_line}
use Rattle.rg_base.proofs.Cuts.{cut_from-reads, cut_from-fails, token-line}
use Rattle.rg_lex.specs.declared.piece.Front.{Front}
use Rattle.rg_lex.specs.Inner.Front.{with_length, front_of}

-- so many tokens, and then these
abbrev pub prepend : List Token → Result (List Token) Fault → Result (List Token) Fault
prepend ts (Ok us) = Ok (ts ++ us)
prepend ts (Err e) = Err e

prepend-nil : (r : Result (List Token) Fault) → prepend [] r ≡ r
prepend-nil (Ok us) = refl
prepend-nil (Err e) = refl

prepend-with : (ts : List Token) (t : Token) (r : Result (List Token) Fault) → prepend ts (with_token t r) ≡ prepend (ts ++ t ∷ []) r
prepend-with ts t (Ok us) = ap Ok (sym (append_assoc ts (t ∷ []) us))
prepend-with ts t (Err e) = refl

-- at a place of the source, on a line, with the tokens in front of it
pub record Stands (bytes : List ℕ) (at line : ℕ) (found : List Token) : Type 0 where
  pub within : at ≤ length bytes
  pub rest : cut bytes ≡ prepend found (cut_from 0 at line (drop at bytes))
  pub lines : end_line bytes ≡ line_behind line (drop at bytes)

-- at the beginning
pub stands-first : (bytes : List ℕ) → Stands bytes 0 1 []
stands-first bytes = record { within = omega arith; rest = sym (prepend-nil (cut bytes)); lines = refl }

-- at the end
pub stands-last : (bytes : List ℕ) (at line : ℕ) (found : List Token) → Stands bytes at line found → length bytes ≤ at
    → (cut bytes ≡ Ok found) × (line ≡ end_line bytes)
unfolding cut_from
stands-last bytes at line found s l =
    let none : drop at bytes ≡ [] = drop_all at bytes l in
    (s.rest ∙ rw none (ap Ok (append-nil found)), sym (s.lines ∙ ap (line_behind line) none))

-- What was read, by its parts.

parts : (m : ℕ) (x : Result (Option Kind) Code) (f : Front) → with_length m x ≡ Ok f → (m ≡ f.len) × (x ≡ Ok f.kind)
parts m (Ok k) f h =
    let e : ◌≡◌ {A = Front} (record { kind = k; len = m }) f = cc in
    (ap (λ (g : Front). g.len) e, ap (λ (g : Front). Ok g.kind) e)
parts m (Err c) f h = cc

fault-of : (m : ℕ) (x : Result (Option Kind) Code) (c : Code) → with_length m x ≡ Err c → x ≡ Err c
fault-of m (Ok k) c h = cc
fault-of m (Err d) c h = cc

-- the slice that the code reads from
rest-is : (bytes : List ℕ) (at : ℕ) → at < length bytes → take (length bytes - at) (drop at bytes) ≡ get_or bytes at 0 ∷ drop (at + 1) bytes
rest-is bytes at l = take_rest bytes at ∙ drop_more bytes at 0 l

-- a fault
pub stands-fault : (bytes : List ℕ) (at line : ℕ) (found : List Token) (c : Code) → Stands bytes at line found → at < length bytes
    → Err c ≡ front_of (take (length bytes - at) (drop at bytes)) → cut bytes ≡ Err (record { code = c; line = line })
stands-fault bytes at line found c s l h =
    let b = get_or bytes at 0 in
    let t = drop (at + 1) bytes in
    let e = fault-of (front (b ∷ t)) (read_front (front (b ∷ t)) (b ∷ t)) c (sym (rw (rest-is bytes at l) at h)) in
    s.rest ∙ rw (drop_more bytes at 0 l, cut_from-fails at line b t c (front (b ∷ t)) refl e) refl

-- one piece further on, still within the source
pub record Goes (bytes : List ℕ) (at to : ℕ) : Type 0 where
  pub some : at < to
  pub within : to ≤ length bytes

-- what was read has a byte and ends within the source
pub goes : (bytes : List ℕ) (at : ℕ) (f : Front) → at < length bytes → Ok f ≡ front_of (take (length bytes - at) (drop at bytes))
    → Goes bytes at (at + f.len)
goes bytes at f l h =
    let b = get_or bytes at 0 in
    let t = drop (at + 1) bytes in
    let p = parts (front (b ∷ t)) (read_front (front (b ∷ t)) (b ∷ t)) f (sym (rw (rest-is bytes at l) at h)) in
    let a = cut_from-reads at 0 b t f.kind f.len p.0 (rw p.0 at p.1) in
    record { some = omega (arith, a.some); within = omega (arith, a.within, length-drop (at + 1) bytes) }

-- a blank or a comment
pub stands-none : (bytes : List ℕ) (at line : ℕ) (found : List Token) (f : Front) → Stands bytes at line found → at < length bytes
    → Ok f ≡ front_of (take (length bytes - at) (drop at bytes)) → f.kind ≡ None
    → Stands bytes (at + f.len) (line_after line (get_or bytes at 0)) found
stands-none bytes at line found f s l h none =
    let b = get_or bytes at 0 in
    let t = drop (at + 1) bytes in
    let p = parts (front (b ∷ t)) (read_front (front (b ∷ t)) (b ∷ t)) f (sym (rw (rest-is bytes at l) at h)) in
    let a = cut_from-reads at line b t None f.len p.0 (rw (p.0, none) at p.1) in
    record {
      within = (goes bytes at f l h).within;
      rest = s.rest ∙ rw (drop_more bytes at 0 l, a.cut_is, ← drop_more bytes at 0 l, drop-drop f.len at bytes) refl;
      lines = s.lines ∙ rw (drop_more bytes at 0 l, a.lines_are, ← drop_more bytes at 0 l, drop-drop f.len at bytes) refl;
    }

-- a token
pub stands-some : (bytes : List ℕ) (at line : ℕ) (found : List Token) (f : Front) (kind : Kind) → Stands bytes at line found → at < length bytes
    → Ok f ≡ front_of (take (length bytes - at) (drop at bytes)) → f.kind ≡ Some kind
    → Stands bytes (at + f.len) line (found ++ record { kind = kind; from = at; to = at + f.len; line = line } ∷ [])
stands-some bytes at line found f kind s l h some =
    let b = get_or bytes at 0 in
    let t = drop (at + 1) bytes in
    let p = parts (front (b ∷ t)) (read_front (front (b ∷ t)) (b ∷ t)) f (sym (rw (rest-is bytes at l) at h)) in
    let read = rw (p.0, some) at p.1 in
    let a = cut_from-reads at line b t (Some kind) f.len p.0 read in
    let same = token-line line b t kind f.len p.0 read in
    record {
      within = (goes bytes at f l h).within;
      rest = s.rest ∙ rw (drop_more bytes at 0 l, a.cut_is, ← drop_more bytes at 0 l, drop-drop f.len at bytes, same) (prepend-with found _ _);
      lines = s.lines ∙ rw (drop_more bytes at 0 l, a.lines_are, ← drop_more bytes at 0 l, drop-drop f.len at bytes, same) refl;
    }
