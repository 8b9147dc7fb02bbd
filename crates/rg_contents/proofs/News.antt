-- The content with which a cown begins may be owned.
use Rattle.std.proofs.Common.{◌≡◌, refl, sym, ap, subst, ℕ, zero, suc, true, false, ◌&&◌, List, [], ◌∷◌, get_or, map, filter_map}
use Rattle.std.proofs.Common.{Option, None, Some, is_some, slice_get, arith}
use Rattle.std.proofs.lemmas.Option.{same_Some}
use Rattle.rg_base.specs.declared.words.Cap.TheVariants.{Iso}
use Rattle.rg_base.specs.declared.words.Manager.{Manager}
use Rattle.rg_base.specs.declared.ty.Ty.TheVariants.{Ref}
use Rattle.rg_base.specs.declared.object.Label.{Label}
use Rattle.rg_base.specs.declared.object.Label.TheVariants.{Region}
use Rattle.rg_base.specs.declared.value.Val.{Val}
use Rattle.rg_tree.specs.Tree.{Ty as Written, int, bool, ref, Field, Class, Tree}
use Rattle.rg_rules.specs.Types.{type_of, is_array, field_member, members_of, fields_of}
use Rattle.rg_rules.specs.RightSides.{opening_value}
use Rattle.rg_cown.specs.declared.cargo.CargoCell.{CargoCell}
use Rattle.rg_cown.specs.Cargo.{CargoList, named_in, is_sound}
use Rattle.rg_typed.specs.Typed.{value_fits, fields_fit, object_of_class, is_typed}
use Rattle.rg_opening.specs.Beginning.{MayOwn}
use Rattle.rg_plan.specs.declared.cown.Cown.{Cown}
use Rattle.rg_plan.specs.declared.cown.Start.{Start}
use Rattle.rg_plan.specs.declared.cown.Start.TheVariants.{New, Image}
use Rattle.rg_plan.specs.Laws.{IsGoodStart, IsGoodCown}
use Rattle.rg_sched_atomic.specs.Contents.{Empty, Held}
use Rattle.rg_sched_atomic.specs.Settings.{new_content, start_of, start_contents}
use Rattle.rg_contents.specs.Rest.{ImagesMayBeOwned}
use Rattle.rg_contents.proofs.Returns.{OwnedAt, none-owned, held-is}

-- the values with which fields start
abbrev values : List Field → List Val
values fs = map (λ (f : Field). opening_value f.ty) fs

-- they name no object
starts-named : (fs : List Field) → named_in 1 (values fs) ≡ Some 1
starts-named [] = refl
starts-named (f ∷ fs) = by f.ty (starts-named fs)
  where
    by : (w : Written) → named_in 1 (values fs) ≡ Some 1 → named_in 1 (opening_value w ∷ values fs) ≡ Some 1
    by int rest = rest
    by bool rest = rest
    by (ref cap x) rest = rest

-- they meet the types of the fields
starts-fit : (classes : List Class) (cells : List CargoCell) (own : Label) (fs : List Field) → fields_fit classes cells own fs (values fs) ≡ true
starts-fit classes cells own [] = refl
starts-fit classes cells own (f ∷ fs) = by f.ty (starts-fit classes cells own fs)
  where
    by : (w : Written) → fields_fit classes cells own fs (values fs) ≡ true
        → (value_fits cells own (type_of classes w) (opening_value w) && fields_fit classes cells own fs (values fs)) ≡ true
    by int rest = rest
    by bool rest = rest
    by (ref cap x) rest = rest

not-array : (c : Class) → is_array c ≡ false → c.element ≡ None
not-array c h = by c.element h
  where
    by : (o : Option Written) → is_some o ≡ false → o ≡ None
    by None e = refl
    by (Some w) e = grind arith

-- a new object of an ordinary class without elements
new-owned : (t : Tree) (n : ℕ) (c : Class) (m : Manager) → slice_get t.classes n ≡ Some c → c.is_tmp ≡ false → is_array c ≡ false
    → MayOwn t (Ref Iso n) (new_content t.classes n m)
new-owned t n c m there ordinary array = record {
  class = n;
  owns = refl;
  bridge = refl;
  sound = sound (fields_of t.classes n);
  typed = typed;
}
  where
    cell : List Field → CargoCell
    cell fs = record { class = n; label = Region 0; fields = values fs }

    sound : (fs : List Field) → is_sound (record {
      cells = record { class = n; label = Region 0; fields = values fs } ∷ [];
      managers = m ∷ [];
    }) ≡ true
    sound fs = rw (starts-named fs) refl

    typed : is_typed t.classes (new_content t.classes n m) ≡ true
    typed =
        let fs : fields_of t.classes n ≡ filter_map field_member c.members = ap (λ o. filter_map field_member (members_of o)) there in
        let cells = (new_content t.classes n m).cells in
        let P : Option Class → Type 0 = λ o.
        object_of_class t.classes cells o (record { class = n; label = Region 0; fields = values (fields_of t.classes n) }) && true ≡ true in
        let Q : List Field → Type 0 = λ q. (fields_fit t.classes cells (Region 0) (filter_map field_member c.members) (values q)) && true ≡ true in
        subst P (sym there) (rw (ordinary, not-array c array) (subst Q (sym fs)
        (rw (starts-fit t.classes cells (Region 0) (filter_map field_member c.members)) refl)))

-- a cown of a plan that is read
start-owned : (t : Tree) (c : Cown) (image : CargoList) (start : Start) → IsGoodCown t.classes c → c.start ≡ start
    → ((name : List ℕ) → c.start ≡ Image name → MayOwn t (Ref Iso c.class) image)
    → MayOwn t (Ref Iso c.class) (start_of t.classes c.class image start)
start-owned t c image (New m) good is images =
    new-owned t c.class good.class m good.there good.ordinary (subst (IsGoodStart good.class) is good.start)
start-owned t c image (Image name) good is images = images name is

pub starts-owned : (t : Tree) (cs : List Cown) (images : List CargoList) → ((n : ℕ) (c : Cown) → slice_get cs n ≡ Some c → IsGoodCown t.classes c)
    → ImagesMayBeOwned t cs images → (n : ℕ) → OwnedAt t cs n (get_or (map Held (start_contents t.classes cs images)) n Empty)
starts-owned t [] images good owned n c y there is = none-owned t [] n c y there is
starts-owned t (d ∷ cs) [] good owned n c y there is = none-owned t (d ∷ cs) n c y there is
starts-owned t (d ∷ cs) (image ∷ images) good owned zero c y there is =
    let same : d ≡ c = same_Some d c there in
    let own = start-owned t d image d.start (good 0 d refl) refl (λ name e. owned 0 d name image refl e refl) in
    subst (λ (q : Cown). MayOwn t (Ref Iso q.class) y) same
    (subst (MayOwn t (Ref Iso d.class)) (held-is (start_of t.classes d.class image d.start) y is) own)
starts-owned t (d ∷ cs) (image ∷ images) good owned (suc n) c y there is =
    starts-owned t cs images (λ k e h. good (suc k) e h) (λ k e name x h i j. owned (suc k) e name x h i j) n c y there is
