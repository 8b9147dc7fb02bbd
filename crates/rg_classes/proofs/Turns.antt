-- What the loops over types, methods and classes keep.
use Rattle.std.proofs.Common.{◌≡◌, ◌==◌, ℕ, suc, ◌+◌, ◌≤◌, Bool as Truth, true, false, if◌then◌else◌, List, [], ◌∷◌, ◌++◌, All, map}
use Rattle.std.proofs.Common.{length, drop, slice_get, Some, refl, sym, ◌∙◌, ap, subst, append_assoc, arith}
use Rattle.std.proofs.lemmas.List.{append-nil, drop_all, drop-drop}
use Rattle.rg_base.specs.declared.ty.Ty.{Ty}
use Rattle.rg_base.proofs.Callers.Lists.{drop-here}
use Rattle.rg_tree.specs.Tree.{Member, method, Class, Tree}
use Rattle.rg_tree.specs.Rows.Tables.{Tables}
use Rattle.rg_tree.specs.Rows.RowTrees.{member_at, classes_of, program_of}
use Rattle.rg_tree.specs.Rows.RowsExist.{IsMemberNumber}
use Rattle.rg_tree.specs.Adds.{Extends, Means, Adds}
use Rattle.rg_tree.specs.Keeps.{Keeps}
use Rattle.rg_tree.proofs.Callers.{Keeps-same, Keeps-trans}
use Rattle.rg_tree.proofs.Adding.{extends-same, extends-trans}
use Rattle.rg_spell.specs.declared.rows.Head.{Head}
use Rattle.rg_spell.specs.declared.rows.Shape.{Shape}
use Rattle.rg_classes.specs.declared.body_row.BodyRow.{BodyRow}
use Rattle.rg_classes.specs.Written.{Bodied, numbered, method_written, methods_written, run, class_written, classes_written}
use Rattle.rg_classes.specs.Rows.{AreBodies, AreMembers, AddsClasses}
use Rattle.rg_classes.proofs.Adding.{means-push}

-- what is left by a number, for a number and one
more-by : (k : ℕ) → suc k ≡ k + 1
more-by k = omega arith

-- Rows of types in order, numbered from a number on: so many are done, behind rows that were there.
pub record SoFar {A : Type 0} (at : Tables → ℕ → A) (exists : Tables → ℕ → Type 0) (each : ℕ → Ty → A) (from : ℕ) (types : List Ty)
    (old : Tables) (before : List ℕ) (now : Tables) (numbers : List ℕ) (i k : ℕ) : Type 0 where
  pub grown : Extends old now
  pub counted : k ≡ from + i
  pub told : (xs : List A) → Means (λ u. map (at u)) (λ u. All (exists u)) old before xs
      → (done : List A) × Means (λ u. map (at u)) (λ u. All (exists u)) now numbers (xs ++ done)
      × (done ++ numbered each k (drop i types) ≡ numbered each from types)

module _ {A : Type 0} (at : Tables → ℕ → A) (exists : Tables → ℕ → Type 0) (each : ℕ → Ty → A) (from : ℕ) (types : List Ty) (old : Tables)
    (before : List ℕ) where
  pub so_far-none : (k : ℕ) → k ≡ from → SoFar at exists each from types old before old before 0 k
  so_far-none k e = record {
    grown = extends-same old;
    counted = omega (arith, e);
    told = λ xs m. (
      [],
      subst (Means (λ u. map (at u)) (λ u. All (exists u)) old before) (sym (append-nil xs)) m,
      ap (λ (n : ℕ). numbered each n types) e,
    );
  }

  module _ (now new : Tables) (numbers more : List ℕ) (i k : ℕ) where
    pub so_far-more : (t : Ty) (n : ℕ) → SoFar at exists each from types old before now numbers i k → drop i types ≡ t ∷ drop (i + 1) types
        → Adds at exists now new n (each k t) → more ≡ numbers ++ n ∷ [] → SoFar at exists each from types old before new more (i + 1) (k + 1)
    so_far-more t n s rest a more-is = record {
      grown = extends-trans s.grown a.extends;
      counted = omega (arith, s.counted);
      told = λ xs m.
          let (done, means, all) = s.told xs m in
          let x = each k t in
          let pushed = means-push at exists means a in
          let left : numbered each k (t ∷ drop (i + 1) types) ≡ x ∷ numbered each (k + 1) (drop (i + 1) types) =
          ap (λ (j : ℕ). x ∷ numbered each j (drop (i + 1) types)) (more-by k) in (
            done ++ x ∷ [],
            subst (λ (ns : List ℕ). Means (λ u. map (at u)) (λ u. All (exists u)) new ns (xs ++ (done ++ x ∷ []))) (sym more-is)
                (subst (Means (λ u. map (at u)) (λ u. All (exists u)) new (numbers ++ n ∷ [])) (append_assoc xs done (x ∷ [])) pushed),
            append_assoc done (x ∷ []) (numbered each (k + 1) (drop (i + 1) types)) ∙ ap (λ (ys : List A). done ++ ys) (sym left)
                ∙ ap (λ (ts : List Ty). done ++ numbered each k ts) (sym rest) ∙ all,
          );
    }

  pub so_far-all : (now : Tables) (numbers : List ℕ) (i k : ℕ) → SoFar at exists each from types old before now numbers i k → length types ≤ i
      → (xs : List A) → Means (λ u. map (at u)) (λ u. All (exists u)) old before xs
      → Means (λ u. map (at u)) (λ u. All (exists u)) now numbers (xs ++ numbered each from types)
  so_far-all now numbers i k s past xs m =
      let (done, means, all) = s.told xs m in
      let none = ap (λ (ts : List Ty). done ++ numbered each k ts) (drop_all i types past) in
      let is : done ≡ numbered each from types = sym (append-nil done) ∙ sym none ∙ all in
      subst (λ (ys : List A). Means (λ u. map (at u)) (λ u. All (exists u)) now numbers (xs ++ ys)) is means

-- Methods of a class: so many are done, behind members that were there.
pub record MethodsSoFar (class next : ℕ) (heads : List Head) (rows : List BodyRow) (old : Tables) (before : List ℕ) (now : Tables)
    (members : List ℕ) (at k : ℕ) : Type 0 where
  pub grown : Extends old now
  pub place : at ≡ next + k
  pub within : k ≤ at
  pub counted : k + run class (drop at heads) ≡ run class (drop next heads)
  pub told : (bs : List Bodied) (ms : List Member) → AreBodies old rows bs → AreMembers old before ms
      → (done : List Member) × AreMembers now members (ms ++ done)
      × (done ++ methods_written class k (drop at heads) (drop at bs) ≡ methods_written class 0 (drop next heads) (drop next bs))

-- by whether the next method is of the class
run-yes : (c : ℕ) (h : Head) (hs : List Head) → (h.class == c) ≡ true → run c (h ∷ hs) ≡ suc (run c hs)
run-yes c h hs e = ap (λ (b : Truth). if b then suc (run c hs) else 0) e

run-no : (c : ℕ) (h : Head) (hs : List Head) → (h.class == c) ≡ false → run c (h ∷ hs) ≡ 0
run-no c h hs e = ap (λ (b : Truth). if b then suc (run c hs) else 0) e

written-yes : (c k : ℕ) (h : Head) (hs : List Head) (b : Bodied) (bs : List Bodied) → (h.class == c) ≡ true
    → methods_written c k (h ∷ hs) (b ∷ bs) ≡ method (method_written k h b) ∷ methods_written c (suc k) hs bs
written-yes c k h hs b bs e = ap (λ (y : Truth). if y then method (method_written k h b) ∷ methods_written c (suc k) hs bs else []) e

written-no : (c k : ℕ) (h : Head) (hs : List Head) (bs : List Bodied) → (h.class == c) ≡ false → methods_written c k (h ∷ hs) bs ≡ []
written-no c k h hs [] e = refl
written-no c k h hs (b ∷ bs) e = ap (λ (y : Truth). if y then method (method_written k h b) ∷ methods_written c (suc k) hs bs else []) e

written-none : (c k : ℕ) (bs : List Bodied) → methods_written c k [] bs ≡ []
written-none c k bs = refl

module _ (class next : ℕ) (heads : List Head) (rows : List BodyRow) (old : Tables) (before : List ℕ) where
  pub methods-none : MethodsSoFar class next heads rows old before old before next 0
  methods-none = record {
    grown = extends-same old;
    place = omega arith;
    within = omega arith;
    counted = omega arith;
    told = λ bs ms a m. ([], subst (AreMembers old before) (sym (append-nil ms)) m, refl);
  }

  module _ (now : Tables) (members : List ℕ) (at k : ℕ) (s : MethodsSoFar class next heads rows old before now members at k) where
    -- one more
    pub methods-more : (new : Tables) (more : List ℕ) (h : Head) (n : ℕ) → slice_get heads at ≡ Some h → (h.class == class) ≡ true
        → ((bs : List Bodied) → AreBodies old rows bs
        → (b : Bodied) × (slice_get bs at ≡ Some b) × Adds member_at IsMemberNumber now new n (method (method_written k h b)))
        → Extends now new → more ≡ members ++ n ∷ [] → MethodsSoFar class next heads rows old before new more (at + 1) (k + 1)
    methods-more new more h n here is adds grows more-is =
        let rest = drop-here heads at h here in
        let counted : run class (drop at heads) ≡ suc (run class (drop (at + 1) heads)) =
        ap (run class) rest ∙ run-yes class h (drop (at + 1) heads) is in
        record {
          grown = extends-trans s.grown grows;
          place = omega (arith, s.place);
          within = omega (arith, s.within);
          counted = omega (arith, s.counted, counted);
          told = λ bs ms a m.
              let (done, means, all) = s.told bs ms a m in
              let (b, there, added) = adds bs a in
              let x = method (method_written k h b) in
              let pushed = means-push member_at IsMemberNumber means added in
              let bodies = drop-here bs at b there in
              let left : methods_written class k (drop at heads) (drop at bs)
              ≡ x ∷ methods_written class (k + 1) (drop (at + 1) heads) (drop (at + 1) bs) =
              ap (λ (hs : List Head). methods_written class k hs (drop at bs)) rest
              ∙ ap (methods_written class k (h ∷ drop (at + 1) heads)) bodies
              ∙ written-yes class k h (drop (at + 1) heads) b (drop (at + 1) bs) is
              ∙ ap (λ (j : ℕ). x ∷ methods_written class j (drop (at + 1) heads) (drop (at + 1) bs)) (more-by k) in (
                done ++ x ∷ [],
                subst (λ (ns : List ℕ). AreMembers new ns (ms ++ (done ++ x ∷ []))) (sym more-is)
                    (subst (AreMembers new (members ++ n ∷ [])) (append_assoc ms done (x ∷ [])) pushed),
                append_assoc done (x ∷ []) (methods_written class (k + 1) (drop (at + 1) heads) (drop (at + 1) bs))
                    ∙ ap (λ (ys : List Member). done ++ ys) (sym left) ∙ all,
              );
        }

    -- there are no more
    ended : run class (drop at heads) ≡ 0 → ((bs : List Bodied) → methods_written class k (drop at heads) (drop at bs) ≡ [])
        → (at ≡ next + run class (drop next heads))
        × ((bs : List Bodied) (ms : List Member) → AreBodies old rows bs → AreMembers old before ms
        → AreMembers now members (ms ++ methods_written class 0 (drop next heads) (drop next bs)))
    ended none left = (
      omega (arith, s.place, s.counted, none),
      λ bs ms a m.
          let (done, means, all) = s.told bs ms a m in
          let is : done ≡ methods_written class 0 (drop next heads) (drop next bs) =
          sym (append-nil done) ∙ ap (λ (ys : List Member). done ++ ys) (sym (left bs)) ∙ all in
          subst (λ (ys : List Member). AreMembers now members (ms ++ ys)) is means,
    )

    pub methods-other : (h : Head) → slice_get heads at ≡ Some h → (h.class == class) ≡ false → (at ≡ next + run class (drop next heads))
        × ((bs : List Bodied) (ms : List Member) → AreBodies old rows bs → AreMembers old before ms
        → AreMembers now members (ms ++ methods_written class 0 (drop next heads) (drop next bs)))
    methods-other h here other =
        let rest = drop-here heads at h here in
        ended (ap (run class) rest ∙ run-no class h (drop (at + 1) heads) other)
        (λ bs. ap (λ (hs : List Head). methods_written class k hs (drop at bs)) rest ∙ written-no class k h (drop (at + 1) heads) (drop at bs) other)

    pub methods-all : length heads ≤ at → (at ≡ next + run class (drop next heads))
        × ((bs : List Bodied) (ms : List Member) → AreBodies old rows bs → AreMembers old before ms
        → AreMembers now members (ms ++ methods_written class 0 (drop next heads) (drop next bs)))
    methods-all past =
        let none = drop_all at heads past in
        ended (ap (run class) none) (λ bs. ap (λ (hs : List Head). methods_written class k hs (drop at bs)) none)

-- Classes: so many are done, behind those that were there.
pub record ClassesSoFar (shapes : List Shape) (heads : List Head) (rows : List BodyRow) (old now : Tables) (i class next : ℕ) : Type 0 where
  pub keeps : Keeps old now
  pub counted : class ≡ i
  pub told : (bs : List Bodied) → AreBodies old rows bs
      → (done : List Class) × (program_of now ≡ record (program_of old) { classes = classes_of old ++ done })
      × (done ++ classes_written class (drop i shapes) (drop next heads) (drop next bs) ≡ classes_written 0 shapes heads bs)

module _ (shapes : List Shape) (heads : List Head) (rows : List BodyRow) (old : Tables) where
  pub classes-none : ClassesSoFar shapes heads rows old old 0 0 0
  classes-none = record {
    keeps = Keeps-same old;
    counted = refl;
    told = λ bs a. (
      [],
      ap (λ (cs : List Class). record (program_of old) { classes = cs }) (sym (append-nil (classes_of old))),
      refl,
    );
  }

  pub classes-more : (now new : Tables) (i class next behind : ℕ) (s : Shape) → ClassesSoFar shapes heads rows old now i class next
      → drop i shapes ≡ s ∷ drop (i + 1) shapes
      → ((bs : List Bodied) → AreBodies now rows bs
      → AddsClasses now new (class_written class s (methods_written class 0 (drop next heads) (drop next bs)) ∷ []))
      → Keeps now new → behind ≡ next + run class (drop next heads) → ClassesSoFar shapes heads rows old new (i + 1) (class + 1) behind
  classes-more now new i class next behind s c rest adds keeps is = record {
    keeps = Keeps-trans c.keeps keeps;
    counted = omega (arith, c.counted);
    told = λ bs a.
        let (done, program, all) = c.told bs a in
        let here : AreBodies now rows bs = record { is = λ w j. a.is w (Keeps-trans c.keeps j); there = λ w j. a.there w (Keeps-trans c.keeps j) } in
        let x = class_written class s (methods_written class 0 (drop next heads) (drop next bs)) in
        let added = (adds bs here).program in
        let n = run class (drop next heads) in
        let classes-are : classes_of now ≡ classes_of old ++ done = ap (λ (p : Tree). p.classes) program in
        let heads-are : drop n (drop next heads) ≡ drop behind heads = drop-drop n next heads ∙ ap (λ (j : ℕ). drop j heads) (sym is) in
        let bodies-are : drop n (drop next bs) ≡ drop behind bs = drop-drop n next bs ∙ ap (λ (j : ℕ). drop j bs) (sym is) in
        let left : classes_written class (drop i shapes) (drop next heads) (drop next bs)
        ≡ x ∷ classes_written (class + 1) (drop (i + 1) shapes) (drop behind heads) (drop behind bs) =
        ap (λ (ss : List Shape). classes_written class ss (drop next heads) (drop next bs)) rest
        ∙ ap (λ (hs : List Head). x ∷ classes_written (suc class) (drop (i + 1) shapes) hs (drop n (drop next bs))) heads-are
        ∙ ap (λ (ys : List Bodied). x ∷ classes_written (suc class) (drop (i + 1) shapes) (drop behind heads) ys) bodies-are
        ∙ ap (λ (j : ℕ). x ∷ classes_written j (drop (i + 1) shapes) (drop behind heads) (drop behind bs)) (more-by class) in (
          done ++ x ∷ [],
          added ∙ ap (λ (p : Tree). record p { classes = p.classes ++ x ∷ [] }) program
              ∙ ap (λ (cs : List Class). record (program_of old) { classes = cs }) (append_assoc (classes_of old) done (x ∷ [])),
          append_assoc done (x ∷ []) (classes_written (class + 1) (drop (i + 1) shapes) (drop behind heads) (drop behind bs))
              ∙ ap (λ (ys : List Class). done ++ ys) (sym left) ∙ all,
        );
  }

  pub classes-all : (now : Tables) (i class next : ℕ) → ClassesSoFar shapes heads rows old now i class next → length shapes ≤ i
      → (bs : List Bodied) → AreBodies old rows bs → AddsClasses old now (classes_written 0 shapes heads bs)
  classes-all now i class next c past bs a =
      let (done, program, all) = c.told bs a in
      let none = ap (λ (ss : List Shape). done ++ classes_written class ss (drop next heads) (drop next bs)) (drop_all i shapes past) in
      let is : done ≡ classes_written 0 shapes heads bs = sym (append-nil done) ∙ sym none ∙ all in
      record {
        keeps = c.keeps;
        program = program ∙ ap (λ (cs : List Class). record (program_of old) { classes = classes_of old ++ cs }) is;
      }
