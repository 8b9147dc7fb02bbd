-- The two laws of instructions and of their maps.
use Rattle.std.proofs.Common.{◌≡◌, ℕ, ℤ, zero, suc, ◌+◌, Bool, true, false, List, [], ◌∷◌, ◌++◌, map, Option, Some, slice_get, refl}
use Rattle.std.proofs.Common.{sym, ap, subst, ◌∙◌, append_assoc, arith}
use Rattle.std.specs.List.{flat_map, AllByRecursion}
use Rattle.rg_base.specs.declared.words.Manager.{Manager}
use Rattle.rg_base.specs.declared.ty.Ty.{Ty}
use Rattle.rg_code.specs.declared.op.Op.{Op}
use Rattle.rg_code.specs.declared.op.Op.TheVariants as i
use Rattle.rg_code.specs.declared.operands.Operand.{Operand}
use Rattle.rg_code.specs.declared.operands.Operand.TheVariants as p
use Rattle.rg_code.specs.Operands.{number_of, operands_of}
use Rattle.rg_code.specs.Places.{is_mark}
use Rattle.rg_spell.specs.declared.makings.TheConstants.{BLANKS}
use Rattle.rg_spell.specs.Spelling.{operand_bytes, FitsOperand, op_bytes, FitsOp, map_bytes, FitsMap, row_bytes, FitsRow}
use Rattle.rg_spell.specs.Makings.{with_operands, of_parts}
use Rattle.rg_spell.specs.Reading.{◌>>=◌, operand_at, operands_at, op_at, map_at, row_at}
use Rattle.rg_spell.specs.Laws.{IsBytes, Takes, Reads}
use Rattle.rg_spell.proofs.Readers.{IsBytes-rest, bind_some, some_is, Takes-then, reads_four, reads_eight, reads_signed}
use Rattle.rg_spell.proofs.Readers.{reads_slot}
use Rattle.rg_spell.proofs.TypeReaders.{reads_bool, reads_manager, reads_tys}

-- The numbers of the table

abbrev numbers : (from : ℕ) → List Op → List ℕ
numbers k [] = []
numbers k (o ∷ os) = k ∷ numbers (suc k) os

blanks_numbered : map number_of BLANKS ≡ numbers 0 BLANKS
blanks_numbered = refl

numbered : (k : ℕ) (os : List Op) → map number_of os ≡ numbers k os → (n : ℕ) (o : Op) → slice_get os n ≡ Some o → number_of o ≡ k + n
numbered k [] all n o e = absurd cc
numbered k (p ∷ os) all zero o e =
    let first : number_of p ≡ k = cc in
    let zeroth : k ≡ k + 0 = omega arith in
    ap number_of (sym (some_is p o e)) ∙ first ∙ zeroth
numbered k (p ∷ os) all (suc n) o e =
    let others : map number_of os ≡ numbers (suc k) os = cc in
    let next : suc k + n ≡ k + suc n = omega arith in
    numbered (suc k) os others n o e ∙ next

blank_number : (n : ℕ) (o : Op) → slice_get BLANKS n ≡ Some o → number_of o ≡ n
blank_number n o e = let zeroth : 0 + n ≡ n = omega arith in numbered 0 BLANKS blanks_numbered n o e ∙ zeroth

-- Operands of the kinds of given ones

-- what an operand has
abbrev Content : Operand → Type 0
Content (p.Line n) = ℕ
Content (p.Int z) = ℤ
Content (p.Bool b) = Bool
Content (p.Slot s) = ℕ
Content (p.From s) = ℕ
Content (p.Field k) = ℕ
Content (p.Class c) = ℕ
Content (p.Method m) = ℕ
Content (p.Address t) = ℕ
Content (p.Manager m) = Manager

-- an operand of the same kind that has something else
abbrev filled : (a : Operand) → Content a → Operand
filled (p.Line n) x = p.Line x
filled (p.Int z) x = p.Int x
filled (p.Bool b) x = p.Bool x
filled (p.Slot s) x = p.Slot x
filled (p.From s) x = p.From x
filled (p.Field k) x = p.Field x
filled (p.Class c) x = p.Class x
filled (p.Method m) x = p.Method x
filled (p.Address t) x = p.Address x
filled (p.Manager m) x = p.Manager x

abbrev Contents : List Operand → Type 0
Contents [] = Unit {0}
Contents (a ∷ ps) = Content a × Contents ps

abbrev filled_all : (ps : List Operand) → Contents ps → List Operand
filled_all [] xs = []
filled_all (a ∷ ps) xs = filled a xs.0 ∷ filled_all ps xs.1

-- an instruction with operands of the kinds of its own has its number, and these operands
record Has (o : Op) (ps : List Operand) : Type 0 where
  number : number_of (with_operands o ps) ≡ number_of o
  operands : operands_of (with_operands o ps) ≡ ps

with_operands-has : (o : Op) (xs : Contents (operands_of o)) → Has o (filled_all (operands_of o) xs)
with_operands-has (i.Mark n) xs = record { number = refl; operands = refl }
with_operands-has _ xs = record { number = refl; operands = refl }

with_operands-same : (o : Op) → with_operands o (operands_of o) ≡ o
with_operands-same (i.Mark n) = refl
with_operands-same _ = refl

pub of_parts-same : (o : Op) → of_parts (number_of o) (operands_of o) ≡ Some o
of_parts-same (i.Mark n) = refl
of_parts-same _ = refl

-- What is read was written

-- an operand that was read from bytes
record Took (a : Operand) (bytes : List ℕ) (x : Operand × List ℕ) : Type 0 where
  content : Content a
  is : x.0 ≡ filled a content
  takes : Takes bytes (operand_bytes x.0) x.1
  fits : FitsOperand x.0

took : {A : Type 0} {reader : List ℕ → Option (A × List ℕ)} {text : A → List ℕ} {Fits : A → Type 0} (one : Reads reader text Fits) (a : Operand)
    (f : A → Operand) → ((x : A) → (c : Content a) × (f x ≡ filled a c)) → ((x : A) → operand_bytes (f x) ≡ text x)
    → ((x : A) → Fits x → FitsOperand (f x))
    → (bytes : List ℕ) (x : Operand × List ℕ) → IsBytes bytes → (reader bytes >>= λ n. Some (f n.0, n.1)) ≡ Some x → Took a bytes x
took {A} {reader} one a f kind same fitting bytes x fits e =
    let b = bind_some (reader bytes) (λ n. Some (f n.0, n.1)) x e in
    let t = one.takes bytes b.0 fits b.1 in
    let k = kind b.0.0 in
    let made : Operand × List ℕ = (f b.0.0, b.0.1) in
    let text = subst (λ (y : List ℕ). Takes bytes y b.0.1) (sym (same b.0.0)) t.0 in
    subst (Took a bytes) (some_is made x b.2) (record { content = k.0; is = k.1; takes = text; fits = fitting b.0.0 t.1 })

operand_took : (a : Operand) (bytes : List ℕ) (x : Operand × List ℕ) → IsBytes bytes → operand_at a bytes ≡ Some x → Took a bytes x
unfolding operand_at
operand_took (p.Line n) = took reads_eight (p.Line n) (λ y. p.Line y) (λ y. (y, refl)) (λ y. refl) (λ y lt. lt)
operand_took (p.Int z) = took reads_signed (p.Int z) (λ y. p.Int y) (λ y. (y, refl)) (λ y. refl) (λ y fit. fit)
operand_took (p.Bool b) = took reads_bool (p.Bool b) (λ y. p.Bool y) (λ y. (y, refl)) (λ y. refl) (λ y fit. fit)
operand_took (p.Slot s) = took reads_slot (p.Slot s) (λ y. p.Slot y) (λ y. (y, refl)) (λ y. refl) (λ y le. le)
operand_took (p.From s) = took reads_slot (p.From s) (λ y. p.From y) (λ y. (y, refl)) (λ y. refl) (λ y le. le)
operand_took (p.Field k) = took reads_four (p.Field k) (λ y. p.Field y) (λ y. (y, refl)) (λ y. refl) (λ y lt. lt)
operand_took (p.Class c) = took reads_four (p.Class c) (λ y. p.Class y) (λ y. (y, refl)) (λ y. refl) (λ y lt. lt)
operand_took (p.Method m) = took reads_four (p.Method m) (λ y. p.Method y) (λ y. (y, refl)) (λ y. refl) (λ y lt. lt)
operand_took (p.Address t) = took reads_four (p.Address t) (λ y. p.Address y) (λ y. (y, refl)) (λ y. refl) (λ y lt. lt)
operand_took (p.Manager m) = took reads_manager (p.Manager m) (λ y. p.Manager y) (λ y. (y, refl)) (λ y. refl) (λ y fit. fit)

-- operands that were read from bytes
record TookAll (ps : List Operand) (bytes : List ℕ) (x : List Operand × List ℕ) : Type 0 where
  contents : Contents ps
  are : x.0 ≡ filled_all ps contents
  takes : Takes bytes (flat_map operand_bytes x.0) x.1
  fits : AllByRecursion FitsOperand x.0

operands_took : (ps : List Operand) (bytes : List ℕ) (x : List Operand × List ℕ) → IsBytes bytes → operands_at ps bytes ≡ Some x → TookAll ps bytes x
unfolding operands_at
operands_took [] bytes x fits e =
    let made : List Operand × List ℕ = ([], bytes) in
    subst (TookAll [] bytes) (some_is made x e) (record { contents = tt; are = refl; takes = record { parts = refl; rest_fits = fits }; fits = tt })
operands_took (a ∷ ps) bytes x fits e =
    let b = bind_some (operand_at a bytes) (λ first. operands_at ps first.1 >>= λ others. Some (first.0 ∷ others.0, others.1)) x e in
    let c = bind_some (operands_at ps b.0.1) (λ others. Some (b.0.0 ∷ others.0, others.1)) x b.2 in
    let one = operand_took a bytes b.0 fits b.1 in
    let others = operands_took ps b.0.1 c.0 one.takes.rest_fits c.1 in
    let made : List Operand × List ℕ = (b.0.0 ∷ c.0.0, c.0.1) in
    subst (TookAll (a ∷ ps) bytes) (some_is made x c.2) (record {
      contents = (one.content, others.contents);
      are = ap (λ y. y ∷ c.0.0) one.is ∙ ap (λ ys. filled a one.content ∷ ys) others.are;
      takes = Takes-then bytes (operand_bytes b.0.0) b.0.1 (flat_map operand_bytes c.0.0) c.0.1 one.takes others.takes;
      fits = (one.fits, others.fits);
    })

op_takes : (bytes : List ℕ) (x : Op × List ℕ) → IsBytes bytes → op_at bytes ≡ Some x → Takes bytes (op_bytes x.0) x.1 × FitsOp x.0
unfolding op_at
op_takes [] x fits e = absurd cc
op_takes (n ∷ bytes) x fits e =
    let a = bind_some (slice_get BLANKS n) (λ o. operands_at (operands_of o) bytes >>= λ ps. Some (with_operands o ps.0, ps.1)) x e in
    let b = bind_some (operands_at (operands_of a.0) bytes) (λ ps. Some (with_operands a.0 ps.0, ps.1)) x a.2 in
    let t = operands_took (operands_of a.0) bytes b.0 (IsBytes-rest n bytes fits) b.1 in
    let has : Has a.0 b.0.0 = subst (Has a.0) (sym t.are) (with_operands-has a.0 t.contents) in
    let o = with_operands a.0 b.0.0 in
    let numbered : n ≡ number_of o = sym (has.number ∙ blank_number n a.0 a.1) in
    let front : n ∷ bytes ≡ op_bytes o ++ b.0.1 =
    ap (λ (k : ℕ). k ∷ bytes) numbered ∙ ap (λ (y : List ℕ). number_of o ∷ y) t.takes.parts
    ∙ ap (λ (ps : List Operand). number_of o ∷ (flat_map operand_bytes ps ++ b.0.1)) (sym has.operands) in
    let made : Op × List ℕ = (o, b.0.1) in
    let fit : FitsOp o = subst (λ (ps : List Operand). AllByRecursion FitsOperand ps) (sym has.operands) t.fits in
    subst (λ (y : Op × List ℕ). Takes (n ∷ bytes) (op_bytes y.0) y.1 × FitsOp y.0) (some_is made x b.2)
    (record { parts = front; rest_fits = t.takes.rest_fits }, fit)

-- What is written is read

again : {A : Type 0} {reader : List ℕ → Option (A × List ℕ)} {text : A → List ℕ} {Fits : A → Type 0} (one : Reads reader text Fits)
    (f : A → Operand) (x : A) (rest : List ℕ)
    → Fits x → ◌>>=◌ {B = Operand × List ℕ} (reader (text x ++ rest)) (λ n. Some (f n.0, n.1)) ≡ Some (f x, rest)
again {A} one f x rest fits =
    let go : A × List ℕ → Option (Operand × List ℕ) = λ n. Some (f n.0, n.1) in
    ap (λ r. r >>= go) (one.again x rest fits)

operand_again : (a : Operand) (rest : List ℕ) → FitsOperand a → operand_at a (operand_bytes a ++ rest) ≡ Some (a, rest)
unfolding operand_at
operand_again (p.Line n) = again reads_eight (λ y. p.Line y) n
operand_again (p.Int z) = again reads_signed (λ y. p.Int y) z
operand_again (p.Bool b) = again reads_bool (λ y. p.Bool y) b
operand_again (p.Slot s) = again reads_slot (λ y. p.Slot y) s
operand_again (p.From s) = again reads_slot (λ y. p.From y) s
operand_again (p.Field k) = again reads_four (λ y. p.Field y) k
operand_again (p.Class c) = again reads_four (λ y. p.Class y) c
operand_again (p.Method m) = again reads_four (λ y. p.Method y) m
operand_again (p.Address t) = again reads_four (λ y. p.Address y) t
operand_again (p.Manager m) = again reads_manager (λ y. p.Manager y) m

operands_again : (ps : List Operand) (rest : List ℕ) → AllByRecursion FitsOperand ps → operands_at ps (flat_map operand_bytes ps ++ rest)
    ≡ Some (ps, rest)
unfolding operands_at
operands_again [] rest fits = refl
operands_again (a ∷ ps) rest fits =
    let behind = flat_map operand_bytes ps ++ rest in
    ap (operands_at (a ∷ ps)) (append_assoc (operand_bytes a) (flat_map operand_bytes ps) rest)
    ∙ ap (λ r. r >>= λ (first : Operand × List ℕ). operands_at ps first.1 >>= λ others. Some (first.0 ∷ others.0, others.1))
    (operand_again a behind fits.0)
    ∙ ap (λ r. r >>= λ (others : List Operand × List ℕ). Some (a ∷ others.0, others.1)) (operands_again ps rest fits.1)

-- the instruction of a number is read as the one that has it
number_again : (o : Op) (bytes : List ℕ)
    → op_at (number_of o ∷ bytes) ≡ (operands_at (operands_of o) bytes >>= λ ps. Some (with_operands o ps.0, ps.1))
unfolding op_at operands_at operand_at
number_again (i.Mark n) bytes = refl
number_again _ bytes = refl

op_again : (o : Op) (rest : List ℕ) → FitsOp o → op_at (op_bytes o ++ rest) ≡ Some (o, rest)
op_again o rest fits =
    number_again o (flat_map operand_bytes (operands_of o) ++ rest)
    ∙ ap (λ r. r >>= λ (ps : List Operand × List ℕ). Some (with_operands o ps.0, ps.1)) (operands_again (operands_of o) rest fits)
    ∙ ap (λ (q : Op). Some (q, rest)) (with_operands-same o)

reads_op : Reads op_at op_bytes FitsOp
reads_op = record { takes = op_takes; again = op_again }

-- Instructions with their maps

map_reads : (mark : Bool) → Reads (map_at mark) (map_bytes mark) (FitsMap mark)
unfolding map_at
map_reads true = reads_tys
map_reads false = record {
  takes = λ bytes x fits e.
      let made : List Ty × List ℕ = ([], bytes) in
      subst (λ (y : List Ty × List ℕ). Takes bytes [] y.1 × (y.0 ≡ [])) (some_is made x e) (record { parts = refl; rest_fits = fits }, refl);
  again = λ ts rest none. ap (λ (us : List Ty). Some (us, rest)) (sym none);
}

row_takes : (bytes : List ℕ) (x : (Op × List Ty) × List ℕ) → IsBytes bytes → row_at bytes ≡ Some x → Takes bytes (row_bytes x.0) x.1 × FitsRow x.0
unfolding row_at
row_takes bytes x fits e =
    let a = bind_some (op_at bytes) (λ o. map_at (is_mark (Some o.0)) o.1 >>= λ ts. Some ((o.0, ts.0), ts.1)) x e in
    let b = bind_some (map_at (is_mark (Some a.0.0)) a.0.1) (λ ts. Some ((a.0.0, ts.0), ts.1)) x a.2 in
    let t0 = op_takes bytes a.0 fits a.1 in
    let t1 = (map_reads (is_mark (Some a.0.0))).takes a.0.1 b.0 t0.0.rest_fits b.1 in
    let both = Takes-then bytes (op_bytes a.0.0) a.0.1 (map_bytes (is_mark (Some a.0.0)) b.0.0) b.0.1 t0.0 t1.0 in
    let made : (Op × List Ty) × List ℕ = ((a.0.0, b.0.0), b.0.1) in
    subst (λ (y : (Op × List Ty) × List ℕ). Takes bytes (row_bytes y.0) y.1 × FitsRow y.0) (some_is made x b.2) (both, (t0.1, t1.1))

row_again : (r : Op × List Ty) (rest : List ℕ) → FitsRow r → row_at (row_bytes r ++ rest) ≡ Some (r, rest)
unfolding row_at
row_again r rest fits =
    let mark = is_mark (Some r.0) in
    ap row_at (append_assoc (op_bytes r.0) (map_bytes mark r.1) rest)
    ∙ ap (λ q. q >>= λ (o : Op × List ℕ). map_at (is_mark (Some o.0)) o.1 >>= λ ts. Some ((o.0, ts.0), ts.1))
    (op_again r.0 (map_bytes mark r.1 ++ rest) fits.0)
    ∙ ap (λ q. q >>= λ (ts : List Ty × List ℕ). Some ((r.0, ts.0), ts.1)) ((map_reads mark).again r.1 rest fits.1)

pub reads_row : Reads row_at row_bytes FitsRow
reads_row = record { takes = row_takes; again = row_again }
