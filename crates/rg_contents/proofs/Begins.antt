-- A behaviour may begin on what its cowns have, where that may be owned.
use Rattle.std.proofs.Common.{◌≡◌, refl, sym, subst, ℕ, Bool as Truth, true, ◌&&◌, if◌then◌else◌, List, [], ◌∷◌, get_or, Option, None}
use Rattle.std.proofs.Common.{Some, arith}
use Rattle.std.proofs.lemmas.Bool.{and_parts}
use Rattle.rg_base.specs.declared.words.Cap.{Cap}
use Rattle.rg_base.specs.declared.words.Cap.TheVariants.{Mut, Tmp, Paused, Imm, Iso}
use Rattle.rg_base.specs.declared.ty.Ty.{Ty}
use Rattle.rg_base.specs.declared.ty.Ty.TheVariants.{Ref}
use Rattle.rg_base.specs.declared.value.Val.TheVariants.{Nil}
use Rattle.rg_tree.specs.Tree.{Ty as Written, int, bool, ref, Param, Field, Block, empty as none, then as next, Class, Tree}
use Rattle.rg_rules.specs.Types.{type_of, fields_of}
use Rattle.rg_rules.specs.RightSides.{opening_value}
use Rattle.rg_cown.specs.Cargo.{CargoList}
use Rattle.rg_opening.specs.declared.given.Given.TheVariants as given
use Rattle.rg_opening.specs.Beginning.{MayOwn, FieldBegins, FieldsBegin}
use Rattle.rg_plan.specs.declared.cown.Cown.{Cown}
use Rattle.rg_plan.specs.Plans.{Turn as Behaviour}
use Rattle.rg_plan.specs.Lines.{no_params, no_result, is_mut}
use Rattle.rg_plan.specs.Rules.{is_arena, is_bare, has_bare_main}
use Rattle.rg_plan.specs.Laws.{IsGoodTurn}
use Rattle.rg_sched_atomic.specs.Contents.{Content, Away, Empty, Held, first_of, rest_of, contents_at, given_of, givens}
use Rattle.rg_contents.specs.Rest.{RestMayBeOwned, IsReady}
use Rattle.rg_contents.proofs.Methods.{method-among, number-of_method}
use Rattle.rg_contents.proofs.Owners.{Takes, nothing, other, one, turn-takes}

-- an `iso` field starts with nil
starts-nil : (classes : List Class) (w : Written) (class : ℕ) → type_of classes w ≡ Ref Iso class → Nil ≡ opening_value w
starts-nil classes int class h = absurd (differ h)
  where
    differ : type_of classes int ≡ Ref Iso class → ⊥
    differ e = cc
starts-nil classes bool class h = absurd (differ h)
  where
    differ : type_of classes bool ≡ Ref Iso class → ⊥
    differ e = cc
starts-nil classes (ref cap x) class h = refl

-- it may begin with what a cown has
given-begins : (t : Tree) (f : Field) (class : ℕ) (x : Content) → type_of t.classes f.ty ≡ Ref Iso class
    → ((c : CargoList) → x ≡ Held c → MayOwn t (Ref Iso class) c) → FieldBegins t f (given_of x)
given-begins t f class Away is own = starts-nil t.classes f.ty class is
given-begins t f class Empty is own = starts-nil t.classes f.ty class is
given-begins t f class (Held c) is own = subst (λ (ty : Ty). MayOwn t ty c) (sym is) (own c refl)

pub fields-begin : (t : Tree) (cowns : List Cown) (contents : List Content) (fs : List Field) (ns : List ℕ) → RestMayBeOwned t cowns contents
    → Takes t.classes cowns fs ns → FieldsBegin t fs (givens fs (contents_at contents ns))
fields-begin t cowns contents [] [] rest nothing = tt
fields-begin t cowns contents [] (n ∷ ns) rest takes = elim takes [ ]
fields-begin t cowns contents (f ∷ fs) ns rest (other out takes) =
    let cs = contents_at contents ns in
    let P : Truth → Type 0 = λ b. FieldBegins t f (if b then given_of (first_of cs) else given.Start (opening_value f.ty))
    × FieldsBegin t fs (givens fs (if b then rest_of cs else cs)) in
    subst P (sym out) (refl, fields-begin t cowns contents fs ns rest takes)
fields-begin t cowns contents (f ∷ fs) (n ∷ ns) rest (one c there iso is takes) =
    let cs = contents_at contents (n ∷ ns) in
    let P : Truth → Type 0 = λ b. FieldBegins t f (if b then given_of (first_of cs) else given.Start (opening_value f.ty))
    × FieldsBegin t fs (givens fs (if b then rest_of cs else cs)) in
    subst P (sym iso) (
      given-begins t f c.class (get_or contents n Empty) is (λ x e. rest n c x there e),
      fields-begin t cowns contents fs ns rest takes,
    )

-- The method is `def mut m() { .. }`, and main has nothing to do

no-params : (ps : List Param) → no_params ps ≡ true → ps ≡ []
no-params [] h = refl
no-params (p ∷ ps) h = grind arith

no-result : {A : Type 0} (o : Option A) → no_result o ≡ true → o ≡ None
no-result None h = refl
no-result (Some a) h = grind arith

mut-is : (cap : Cap) → is_mut cap ≡ true → cap ≡ Mut
mut-is Mut h = refl
mut-is Tmp h = grind arith
mut-is Paused h = grind arith
mut-is Imm h = grind arith
mut-is Iso h = grind arith

bare-is : (b : Block) → is_bare b ≡ true → b ≡ none
bare-is none h = refl
bare-is (next s b) h = grind arith

pub is-ready : (t : Tree) (cowns : List Cown) (contents : List Content) (b : Behaviour) → has_bare_main t ≡ true → IsGoodTurn t.classes cowns b
    → RestMayBeOwned t cowns contents → IsReady t b (givens (fields_of t.classes b.class) (contents_at contents b.cowns))
is-ready t cowns contents b main good rest =
    let m = good.method in
    let plain = and_parts (is_mut m.receiver) (no_params m.params && no_result m.result) good.plain in
    let bare = and_parts (no_params m.params) (no_result m.result) plain.1 in
    record {
      method = m;
      method_is = method-among t.classes b.class good.name m b.method good.named good.number;
      may = record {
        no_statement = bare-is t.body (and_parts (is_arena t.manager) (is_bare t.body) main).1;
        name = good.name;
        method_is = good.named;
        receiver = mut-is m.receiver plain.0;
        no_parameter = no-params m.params bare.0;
        no_result = no-result m.result bare.1;
        fields = fields-begin t cowns contents (fields_of t.classes b.class) b.cowns rest (turn-takes t.classes cowns b good);
      };
      number = number-of_method t.classes b.class good.name b.method good.number;
    }
