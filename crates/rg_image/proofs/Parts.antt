-- What is read of a content's parts is what was spelled, and what is spelled is read.
use Rattle.std.proofs.Common.{◌≡◌, ℕ, suc, ◌^◌, ◌<◌, ◌≤◌, ◌⊎◌, Bool as Truth, true, false, cond, ltb, eqb, List, [], ◌∷◌, ◌++◌, length}
use Rattle.std.proofs.Common.{Option, Some, None, refl, sym, ap, subst, ◌∙◌, append_assoc, arith, inl, inr}
use Rattle.std.specs.Int.{w32, w64}
use Rattle.std.specs.List.{flat_map}
use Rattle.std.proofs.lemmas.Bool.{le-ltb, eqb-true}
use Rattle.std.proofs.lemmas.List.{length-append}
use Rattle.rg_base.specs.declared.object.Label.{Label}
use Rattle.rg_base.specs.declared.object.Label.TheVariants.{Region, Temp, Frozen}
use Rattle.rg_base.specs.declared.words.Manager.{Manager}
use Rattle.rg_base.specs.declared.value.Val.{Val}
use Rattle.rg_base.specs.declared.value.Val.TheVariants.{Nil, Int, Bool, Obj}
use Rattle.rg_cown.specs.declared.cargo.CargoCell.{CargoCell}
use Rattle.rg_cown.specs.Cargo.{CargoList}
use Rattle.rg_spell.specs.Laws.{IsBytes, Takes, Reads}
use Rattle.rg_spell.specs.Spelling.{four, eight, signed}
use Rattle.rg_spell.specs.Reading.{◌>>=◌, number_at, manager_at, many_at}
use Rattle.rg_spell.proofs.Readers.{IsBytes-rest, bind_some, guard_some, some_is, Takes-then, reads_four, reads_eight, reads_signed}
use Rattle.rg_spell.proofs.Readers.{many_take, many_again}
use Rattle.rg_spell.proofs.TypeReaders.{reads_bool, reads_manager}
use Rattle.rg_image.specs.ImageText.{counted, Counted, value_bytes, FitsValue, label_bytes, FitsLabel, cell_bytes, FitsCell}
use Rattle.rg_image.specs.ImageText.{manager_bytes, FitsManager, cargo_bytes, FitsCargo, content_bytes, FitsContent}
use Rattle.rg_image.specs.Inner.Reading.{count_at, counted_at, int_at, truth_at, object_at, value_behind, value_at, region_at, label_behind}
use Rattle.rg_image.specs.Inner.Reading.{label_at, cell_at, cargo_at, held_at, content_behind, content_at}

-- which way a test went
choose : {A : Type 0} (n k : ℕ) (r others : Option A) (y : A) → cond (eqb n k) r others ≡ Some y
    → ((n ≡ k) × (r ≡ Some y)) ⊎ (others ≡ Some y)
choose n k r others y = by_test (eqb n k) refl
  where
    by_test : (b : Truth) → eqb n k ≡ b → cond b r others ≡ Some y → ((n ≡ k) × (r ≡ Some y)) ⊎ (others ≡ Some y)
    by_test true t e = inl (eqb-true n k t, e)
    by_test false t e = inr e

-- A count and as many parts, each of at least one byte

at_least_one : (k : ℕ) → 1 ≤ suc k
at_least_one k = omega arith

grows : (n : ℕ) (front rest : List ℕ) → 1 ≤ length front → n ≤ length rest → suc n ≤ length (front ++ rest)
grows n front rest one more = omega (arith, one, more, length-append front rest)

module _ {A : Type 0} {reader : List ℕ → Option (A × List ℕ)} {text : A → List ℕ} {Fits : A → Type 0} (one : Reads reader text Fits)
    (some : (a : A) → 1 ≤ length (text a)) where
  as_many : (xs : List A) → length xs ≤ length (flat_map text xs)
  as_many [] = omega arith
  as_many (x ∷ xs) = grows (length xs) (text x) (flat_map text xs) (some x) (as_many xs)

  counted_takes : (bytes : List ℕ) (x : List A × List ℕ) → IsBytes bytes → counted_at reader bytes ≡ Some x
      → Takes bytes (counted text x.0) x.1 × Counted Fits x.0
  unfolding counted_at count_at
  counted_takes bytes x fits e =
      let a = bind_some (count_at bytes) (λ n. many_at reader n.0 n.1) x e in
      let b = bind_some (number_at w64 bytes) (λ n. cond (ltb (length n.1) n.0) None (Some n)) a.0 a.1 in
      let g = guard_some (ltb (length b.0.1) b.0.0) b.0 a.0 b.2 in
      let found : number_at w64 bytes ≡ Some a.0 = b.1 ∙ ap Some g.1 in
      let first = reads_eight.takes bytes a.0 fits found in
      let second = many_take one a.0.0 a.0.1 x first.0.rest_fits a.2 in
      let both = Takes-then bytes (eight a.0.0) a.0.1 (flat_map text x.0) x.1 first.0 second.0 in (
        subst (λ (k : ℕ). Takes bytes (eight k ++ flat_map text x.0) x.1) (sym second.1) both,
        (subst (λ (k : ℕ). k < 2 ^ 64) (sym second.1) first.1, second.2),
      )

  counted_again : (xs : List A) (rest : List ℕ) → Counted Fits xs → counted_at reader (counted text xs ++ rest) ≡ Some (xs, rest)
  unfolding counted_at count_at
  counted_again xs rest fits =
      let behind : List ℕ = flat_map text xs ++ rest in
      let regrouped : counted text xs ++ rest ≡ eight (length xs) ++ behind = append_assoc (eight (length xs)) (flat_map text xs) rest in
      let there : ltb (length (flat_map text xs ++ rest)) (length xs) ≡ false =
      le-ltb _ _ (omega (arith, as_many xs, length-append (flat_map text xs) rest)) in
      ap (counted_at reader) regrouped
      ∙ ap (λ r. (r >>= λ (n : ℕ × List ℕ). cond (ltb (length n.1) n.0) None (Some n)) >>= λ (n : ℕ × List ℕ). many_at reader n.0 n.1)
      (reads_eight.again (length xs) behind fits.0)
      ∙ ap (λ (b : Truth). (cond b None (Some (length xs, behind))) >>= λ (n : ℕ × List ℕ). many_at reader n.0 n.1) there
      ∙ many_again one xs rest fits.1

  reads_counted : Reads (counted_at reader) (counted text) (Counted Fits)
  reads_counted = record { takes = counted_takes; again = counted_again }

-- a part that is read for another value, behind a byte that says so
behind_byte : {A B : Type 0} {reader : List ℕ → Option (A × List ℕ)} {text : A → List ℕ} {Fits : A → Type 0} (one : Reads reader text Fits)
    (f : A → B) (whole : B → List ℕ) (FitsWhole : B → Type 0) (n : ℕ) → ((a : A) → whole (f a) ≡ n ∷ text a)
    → ((a : A) → Fits a → FitsWhole (f a))
    → (bytes : List ℕ) (x : B × List ℕ) → IsBytes bytes → (reader bytes >>= λ y. Some (f y.0, y.1)) ≡ Some x
    → Takes (n ∷ bytes) (whole x.0) x.1 × FitsWhole x.0
behind_byte {A} {B} {reader} {text} {Fits} one f whole FitsWhole n same fit bytes x fits e =
    let a = bind_some (reader bytes) (λ y. Some (f y.0, y.1)) x e in
    let t = one.takes bytes a.0 fits a.1 in
    let made : B × List ℕ = (f a.0.0, a.0.1) in
    subst (λ (y : B × List ℕ). Takes (n ∷ bytes) (whole y.0) y.1 × FitsWhole y.0) (some_is made x a.2) (
      record {
        parts = ap (λ (y : List ℕ). n ∷ y) t.0.parts ∙ ap (λ (y : List ℕ). y ++ a.0.1) (sym (same a.0.0));
        rest_fits = t.0.rest_fits;
      },
      fit a.0.0 t.1,
    )

-- Values

value_behind_takes : (n : ℕ) (bytes : List ℕ) (x : Val × List ℕ) → IsBytes bytes → value_behind n bytes ≡ Some x
    → Takes (n ∷ bytes) (value_bytes x.0) x.1 × FitsValue x.0
unfolding value_behind int_at truth_at object_at
value_behind_takes n bytes x fits e =
    let Whole : ℕ → Val × List ℕ → Type 0 = λ k y. Takes (k ∷ bytes) (value_bytes y.0) y.1 × FitsValue y.0 in
    let none : Val × List ℕ = (Nil, bytes) in
    elim (choose n 0 (Some none) _ x e) [
      | inl p ↦ subst (λ (k : ℕ). Whole k x) (sym p.0)
          (subst (Whole 0) (some_is none x p.1) (record { parts = refl; rest_fits = fits }, tt))
      | inr f ↦ elim (choose n 1 (int_at bytes) _ x f) [
        | inl p ↦ subst (λ (k : ℕ). Whole k x) (sym p.0)
            (behind_byte reads_signed Int value_bytes FitsValue 1 (λ i. refl) (λ i h. h) bytes x fits p.1)
        | inr g ↦ elim (choose n 2 (truth_at bytes) _ x g) [
          | inl p ↦ subst (λ (k : ℕ). Whole k x) (sym p.0)
              (behind_byte reads_bool Bool value_bytes FitsValue 2 (λ b. refl) (λ b h. h) bytes x fits p.1)
          | inr h ↦ elim (choose n 3 (object_at bytes) None x h) [
            | inl p ↦ subst (λ (k : ℕ). Whole k x) (sym p.0)
                (behind_byte reads_eight Obj value_bytes FitsValue 3 (λ a. refl) (λ a h. h) bytes x fits p.1)
            | inr i ↦ absurd cc
          ]
        ]
      ]
    ]

value_takes : (bytes : List ℕ) (x : Val × List ℕ) → IsBytes bytes → value_at bytes ≡ Some x
    → Takes bytes (value_bytes x.0) x.1 × FitsValue x.0
unfolding value_at
value_takes [] x fits e = absurd cc
value_takes (n ∷ bytes) x fits e = value_behind_takes n bytes x (IsBytes-rest n bytes fits) e

value_again : (v : Val) (rest : List ℕ) → FitsValue v → value_at (value_bytes v ++ rest) ≡ Some (v, rest)
unfolding value_at value_behind int_at truth_at object_at
value_again Nil rest fits = refl
value_again (Int i) rest fits = ap (λ r. r >>= λ y. Some (Int y.0, y.1)) (reads_signed.again i rest fits)
value_again (Bool b) rest fits = ap (λ r. r >>= λ y. Some (Bool y.0, y.1)) (reads_bool.again b rest tt)
value_again (Obj a) rest fits = ap (λ r. r >>= λ (y : ℕ × List ℕ). Some (Obj y.0, y.1)) (reads_eight.again a rest fits)

reads_value : Reads value_at value_bytes FitsValue
reads_value = record { takes = value_takes; again = value_again }

some_value : (v : Val) → 1 ≤ length (value_bytes v)
some_value Nil = at_least_one 0
some_value (Int i) = at_least_one (length (signed i))
some_value (Bool b) = at_least_one 1
some_value (Obj a) = at_least_one (length (eight a))

pub reads_values : Reads (counted_at value_at) (counted value_bytes) (Counted FitsValue)
reads_values = reads_counted reads_value some_value

-- Labels

label_behind_takes : (n : ℕ) (bytes : List ℕ) (x : Label × List ℕ) → IsBytes bytes → label_behind n bytes ≡ Some x
    → Takes (n ∷ bytes) (label_bytes x.0) x.1 × FitsLabel x.0
unfolding label_behind region_at
label_behind_takes n bytes x fits e =
    let Whole : ℕ → Label × List ℕ → Type 0 = λ k y. Takes (k ∷ bytes) (label_bytes y.0) y.1 × FitsLabel y.0 in
    let frozen : Label × List ℕ = (Frozen, bytes) in
    elim (choose n 0 (region_at bytes) _ x e) [
      | inl p ↦ subst (λ (k : ℕ). Whole k x) (sym p.0)
          (behind_byte reads_eight Region label_bytes FitsLabel 0 (λ r. refl) (λ r h. h) bytes x fits p.1)
      | inr f ↦ elim (choose n 1 (Some frozen) None x f) [
        | inl p ↦ subst (λ (k : ℕ). Whole k x) (sym p.0)
            (subst (Whole 1) (some_is frozen x p.1) (record { parts = refl; rest_fits = fits }, tt))
        | inr g ↦ absurd cc
      ]
    ]

label_takes : (bytes : List ℕ) (x : Label × List ℕ) → IsBytes bytes → label_at bytes ≡ Some x
    → Takes bytes (label_bytes x.0) x.1 × FitsLabel x.0
unfolding label_at
label_takes [] x fits e = absurd cc
label_takes (n ∷ bytes) x fits e = label_behind_takes n bytes x (IsBytes-rest n bytes fits) e

label_again : (l : Label) (rest : List ℕ) → FitsLabel l → label_at (label_bytes l ++ rest) ≡ Some (l, rest)
unfolding label_at label_behind region_at
label_again (Region r) rest fits = ap (λ o. o >>= λ (y : ℕ × List ℕ). Some (Region y.0, y.1)) (reads_eight.again r rest fits)
label_again (Temp t) rest fits = absurd fits
label_again Frozen rest fits = refl

reads_label : Reads label_at label_bytes FitsLabel
reads_label = record { takes = label_takes; again = label_again }

-- Objects

cell_takes : (bytes : List ℕ) (x : CargoCell × List ℕ) → IsBytes bytes → cell_at bytes ≡ Some x
    → Takes bytes (cell_bytes x.0) x.1 × FitsCell x.0
unfolding cell_at
cell_takes bytes x fits e =
    let a = bind_some (number_at w32 bytes) (λ c. label_at c.1 >>= λ l. counted_at value_at l.1 >>= λ vs.
    Some (record { class = c.0; label = l.0; fields = vs.0 }, vs.1)) x e in
    let b = bind_some (label_at a.0.1) (λ l. counted_at value_at l.1 >>= λ vs.
    Some (record { class = a.0.0; label = l.0; fields = vs.0 }, vs.1)) x a.2 in
    let c = bind_some (counted_at value_at b.0.1) (λ vs. Some (record { class = a.0.0; label = b.0.0; fields = vs.0 }, vs.1)) x b.2 in
    let t0 = reads_four.takes bytes a.0 fits a.1 in
    let t1 = reads_label.takes a.0.1 b.0 t0.0.rest_fits b.1 in
    let t2 = reads_values.takes b.0.1 c.0 t1.0.rest_fits c.1 in
    let e12 = Takes-then a.0.1 (label_bytes b.0.0) b.0.1 (counted value_bytes c.0.0) c.0.1 t1.0 t2.0 in
    let e02 = Takes-then bytes (four a.0.0) a.0.1 (label_bytes b.0.0 ++ counted value_bytes c.0.0) c.0.1 t0.0 e12 in
    let made : CargoCell × List ℕ = (record { class = a.0.0; label = b.0.0; fields = c.0.0 }, c.0.1) in
    subst (λ (y : CargoCell × List ℕ). Takes bytes (cell_bytes y.0) y.1 × FitsCell y.0) {x = made} (some_is made x c.2)
    (e02, record { class = t0.1; label = t1.1; fields = t2.1 })

cell_again : (c : CargoCell) (rest : List ℕ) → FitsCell c → cell_at (cell_bytes c ++ rest) ≡ Some (c, rest)
unfolding cell_at
cell_again c rest fits =
    let last = counted value_bytes c.fields ++ rest in
    let second = label_bytes c.label ++ last in
    let regrouped : cell_bytes c ++ rest ≡ four c.class ++ second =
    append_assoc (four c.class) (label_bytes c.label ++ counted value_bytes c.fields) rest
    ∙ ap (λ (y : List ℕ). four c.class ++ y) (append_assoc (label_bytes c.label) (counted value_bytes c.fields) rest) in
    ap cell_at regrouped
    ∙ ap (λ r. r >>= λ (d : ℕ × List ℕ). label_at d.1 >>= λ l. counted_at value_at l.1 >>= λ vs.
    Some (record { class = d.0; label = l.0; fields = vs.0 }, vs.1)) (reads_four.again c.class second fits.class)
    ∙ ap (λ r. r >>= λ (l : Label × List ℕ). counted_at value_at l.1 >>= λ vs.
    Some (record { class = c.class; label = l.0; fields = vs.0 }, vs.1)) (reads_label.again c.label last fits.label)
    ∙ ap (λ r. r >>= λ (vs : List Val × List ℕ). Some (record { class = c.class; label = c.label; fields = vs.0 }, vs.1))
    (reads_values.again c.fields rest fits.fields)

reads_cell : Reads cell_at cell_bytes FitsCell
reads_cell = record { takes = cell_takes; again = cell_again }

some_cell : (c : CargoCell) → 1 ≤ length (cell_bytes c)
some_cell c =
    let four_long : length (four c.class) ≡ 4 = refl in
    let rest = label_bytes c.label ++ counted value_bytes c.fields in
    grows 0 (four c.class) rest (omega (arith, four_long)) (omega arith)

reads_cells : Reads (counted_at cell_at) (counted cell_bytes) (Counted FitsCell)
reads_cells = reads_counted reads_cell some_cell

some_manager : (m : Manager) → 1 ≤ length (manager_bytes m)
some_manager m = at_least_one 0

reads_managers : Reads (counted_at manager_at) (counted manager_bytes) (Counted FitsManager)
reads_managers = reads_counted reads_manager some_manager

-- A cargo, and a content

cargo_takes : (bytes : List ℕ) (x : CargoList × List ℕ) → IsBytes bytes → cargo_at bytes ≡ Some x
    → Takes bytes (cargo_bytes x.0) x.1 × FitsCargo x.0
unfolding cargo_at
cargo_takes bytes x fits e =
    let a = bind_some (counted_at manager_at bytes)
    (λ ms. counted_at cell_at ms.1 >>= λ cs. Some (record { cells = cs.0; managers = ms.0 }, cs.1)) x e in
    let b = bind_some (counted_at cell_at a.0.1) (λ cs. Some (record { cells = cs.0; managers = a.0.0 }, cs.1)) x a.2 in
    let t0 = reads_managers.takes bytes a.0 fits a.1 in
    let t1 = reads_cells.takes a.0.1 b.0 t0.0.rest_fits b.1 in
    let both = Takes-then bytes (counted manager_bytes a.0.0) a.0.1 (counted cell_bytes b.0.0) b.0.1 t0.0 t1.0 in
    let made : CargoList × List ℕ = (record { cells = b.0.0; managers = a.0.0 }, b.0.1) in
    subst (λ (y : CargoList × List ℕ). Takes bytes (cargo_bytes y.0) y.1 × FitsCargo y.0) (some_is made x b.2)
    (both, record { managers = t0.1; cells = t1.1 })

cargo_again : (c : CargoList) (rest : List ℕ) → FitsCargo c → cargo_at (cargo_bytes c ++ rest) ≡ Some (c, rest)
unfolding cargo_at
cargo_again c rest fits =
    let last = counted cell_bytes c.cells ++ rest in
    ap cargo_at (append_assoc (counted manager_bytes c.managers) (counted cell_bytes c.cells) rest)
    ∙ ap
    (λ r. r >>= λ (ms : List Manager × List ℕ). counted_at cell_at ms.1 >>= λ cs. Some (record { cells = cs.0; managers = ms.0 }, cs.1))
    (reads_managers.again c.managers last fits.managers)
    ∙ ap (λ r. r >>= λ (cs : List CargoCell × List ℕ). Some (record { cells = cs.0; managers = c.managers }, cs.1))
    (reads_cells.again c.cells rest fits.cells)

reads_cargo : Reads cargo_at cargo_bytes FitsCargo
reads_cargo = record { takes = cargo_takes; again = cargo_again }

content_behind_takes : (n : ℕ) (bytes : List ℕ) (x : Option CargoList × List ℕ) → IsBytes bytes → content_behind n bytes ≡ Some x
    → Takes (n ∷ bytes) (content_bytes x.0) x.1 × FitsContent x.0
unfolding content_behind held_at
content_behind_takes n bytes x fits e =
    let Whole : ℕ → Option CargoList × List ℕ → Type 0 = λ k y. Takes (k ∷ bytes) (content_bytes y.0) y.1 × FitsContent y.0 in
    let none : Option CargoList × List ℕ = (None, bytes) in
    elim (choose n 0 (Some none) _ x e) [
      | inl p ↦ subst (λ (k : ℕ). Whole k x) (sym p.0)
          (subst (Whole 0) (some_is none x p.1) (record { parts = refl; rest_fits = fits }, tt))
      | inr f ↦ elim (choose n 1 (held_at bytes) None x f) [
        | inl p ↦ subst (λ (k : ℕ). Whole k x) (sym p.0)
            (behind_byte reads_cargo Some content_bytes FitsContent 1 (λ c. refl) (λ c h. h) bytes x fits p.1)
        | inr g ↦ absurd cc
      ]
    ]

content_takes : (bytes : List ℕ) (x : Option CargoList × List ℕ) → IsBytes bytes → content_at bytes ≡ Some x
    → Takes bytes (content_bytes x.0) x.1 × FitsContent x.0
unfolding content_at
content_takes [] x fits e = absurd cc
content_takes (n ∷ bytes) x fits e = content_behind_takes n bytes x (IsBytes-rest n bytes fits) e

content_again : (c : Option CargoList) (rest : List ℕ) → FitsContent c → content_at (content_bytes c ++ rest) ≡ Some (c, rest)
unfolding content_at content_behind held_at
content_again None rest fits = refl
content_again (Some c) rest fits = ap (λ r. r >>= λ (y : CargoList × List ℕ). Some (Some y.0, y.1)) (reads_cargo.again c rest fits)

pub reads_content : Reads content_at content_bytes FitsContent
reads_content = record { takes = content_takes; again = content_again }
