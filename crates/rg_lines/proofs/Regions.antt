-- What expressions compute to, and the regions beneath others, are the same without the lines of the classes.
use Rattle.std.proofs.Common.{◌≡◌, refl, ap, ◌∙◌, ℕ, zero, suc, Bool as Truth, if◌then◌else◌, List, [], ◌∷◌, ◌++◌, map, length, filter_map, Option}
use Rattle.std.proofs.Common.{Some, None, option_map, option_to_list, unwrap_or, slice_get, slice_set}
use Rattle.rg_base.specs.declared.object.Seen.{Seen}
use Rattle.rg_base.specs.declared.object.Label.{Label}
use Rattle.rg_base.specs.declared.object.Label.TheVariants.{Region, Temp, Frozen}
use Rattle.rg_base.specs.declared.value.Val.{Val}
use Rattle.rg_base.specs.declared.value.Val.TheVariants.{Nil}
use Rattle.rg_tree.specs.Tree.{Name, Path, Expr, path, is_nil, neg, not, binary, size, element, Field, Class}
use Rattle.rg_rules.specs.Types.{fields_of}
use Rattle.rg_rules.specs.State.{Local, State, locals_of, value_in}
use Rattle.rg_rules.specs.Evaluation.{object_at, field_value, with_field, follow_fields, path_value, with_right_operand, value_of, values_of}
use Rattle.rg_rules.specs.Evaluation.{computed}
use Rattle.rg_rules.specs.Regions.{region_at, owned, owned_as, owned_in, owned_by, led_from, in_regions, joined_with, beneath, relabelled}
use Rattle.rg_rules.specs.RightSides.{frozen}
use Rattle.rg_lines.specs.Unlined.{field_unlined, classes_unlined}
use Rattle.rg_lines.proofs.DoBlocks.{bind-rest, bind-same}
use Rattle.rg_lines.proofs.Types.{type_of-unlined, fields_of-unlined, field_place-unlined}

-- Values

pub field_value-unlined : (cs : List Class) (o : Seen) (x : Name) → field_value (classes_unlined cs) o x ≡ field_value cs o x
field_value-unlined cs o x =
    let f : Option ℕ → Val = λ p. elim p [ None ↦ Nil | Some k ↦ unwrap_or (slice_get o.fields k) Nil ] in
    ap f (field_place-unlined cs o.class x)

pub with_field-unlined : (cs : List Class) (x : Name) (v : Val) (o : Seen) → with_field (classes_unlined cs) x v o ≡ with_field cs x v o
with_field-unlined cs x v o =
    let f : Option ℕ → Seen = λ p. elim p [ None ↦ o | Some k ↦ record o { fields = slice_set o.fields k v } ] in
    ap f (field_place-unlined cs o.class x)

pub follow_fields-unlined : (cs : List Class) (store : List Seen) (v : Val) (xs : List Name) →
    follow_fields (classes_unlined cs) store v xs ≡ follow_fields cs store v xs
follow_fields-unlined cs store v [] = refl
follow_fields-unlined cs store v (x ∷ xs) =
    bind-rest (object_at store v) _ _
    (λ (o : Seen). ap (λ w. follow_fields (classes_unlined cs) store w xs) (field_value-unlined cs o x)
    ∙ follow_fields-unlined cs store (field_value cs o x) xs)

pub path_value-unlined : (cs : List Class) (store : List Seen) (locals : List Local) (p : Path) →
    path_value (classes_unlined cs) store locals p ≡ path_value cs store locals p
path_value-unlined cs store locals p = follow_fields-unlined cs store (value_in locals p.base) p.fields

pub value_of-unlined : (cs : List Class) (store : List Seen) (locals : List Local) (e : Expr) →
    value_of (classes_unlined cs) store locals e ≡ value_of cs store locals e
value_of-unlined cs store locals (path p) = path_value-unlined cs store locals p
value_of-unlined cs store locals (is_nil p) = bind-same _ _ _ _ (path_value-unlined cs store locals p) (λ v. refl)
value_of-unlined cs store locals (neg a) = bind-same _ _ _ _ (value_of-unlined cs store locals a) (λ v. refl)
value_of-unlined cs store locals (not a) = bind-same _ _ _ _ (value_of-unlined cs store locals a) (λ v. refl)
value_of-unlined cs store locals (binary op a b) =
    bind-same _ _ _ _ (value_of-unlined cs store locals a) (λ v. ap (with_right_operand op v) (value_of-unlined cs store locals b))
value_of-unlined cs store locals (size q) = bind-same _ _ _ _ (path_value-unlined cs store locals q) (λ v. refl)
value_of-unlined cs store locals (element q e) =
    bind-same _ _ _ _ (path_value-unlined cs store locals q)
    (λ v. bind-rest (object_at store v) _ _ (λ o. bind-same _ _ _ _ (value_of-unlined cs store locals e) (λ i. refl)))
value_of-unlined cs store locals _ = refl

pub values_of-unlined : (cs : List Class) (store : List Seen) (locals : List Local) (es : List Expr) →
    values_of (classes_unlined cs) store locals es ≡ values_of cs store locals es
values_of-unlined cs store locals [] = refl
values_of-unlined cs store locals (a ∷ more) =
    bind-same _ _ _ _ (value_of-unlined cs store locals a) (λ v. bind-same _ _ _ _ (values_of-unlined cs store locals more) (λ vs. refl))

pub computed-unlined : (cs : List Class) (s : State) (e : Expr) → computed (classes_unlined cs) s e ≡ computed cs s e
computed-unlined cs s e = bind-same _ _ _ _ (value_of-unlined cs s.store (locals_of s) e) (λ v. refl)

-- Regions

owned_in_by : (cs : List Class) (fs : List Field) (vs : List Val) →
    owned_in (classes_unlined cs) (map field_unlined fs) vs ≡ owned_in cs fs vs
owned_in_by cs [] vs = refl
owned_in_by cs (f ∷ fs) [] = refl
owned_in_by cs (f ∷ fs) (v ∷ vs) =
    ap (λ t. option_to_list (owned t v) ++ owned_in (classes_unlined cs) (map field_unlined fs) vs) (type_of-unlined cs f.ty)
    ∙ ap (λ rest. option_to_list (owned_as cs f v) ++ rest) (owned_in_by cs fs vs)

owned_by-unlined : (cs : List Class) (o : Seen) → owned_by (classes_unlined cs) o ≡ owned_by cs o
owned_by-unlined cs o =
    let f : List ℕ → List ℕ = λ ns. elim (o.label) [ Region r ↦ ns | Temp n ↦ ns | Frozen ↦ [] ] in
    ap f (ap (λ fs. owned_in (classes_unlined cs) fs o.fields) (fields_of-unlined cs o.class) ∙ owned_in_by cs (fields_of cs o.class) o.fields)

pub led_from-unlined : (cs : List Class) (store : List Seen) (test' : Label → Truth) (os : List Seen) →
    led_from (classes_unlined cs) store test' os ≡ led_from cs store test' os
led_from-unlined cs store test' [] = refl
led_from-unlined cs store test' (o ∷ os) =
    let f : List ℕ → List ℕ → List ℕ = λ ns rest. if test' o.label then filter_map (region_at store) ns ++ rest else rest in
    ap (λ ns. f ns (led_from (classes_unlined cs) store test' os)) (owned_by-unlined cs o)
    ∙ ap (f (owned_by cs o)) (led_from-unlined cs store test' os)

pub beneath-unlined : (cs : List Class) (store : List Seen) (links : ℕ) (regions : List ℕ) →
    beneath (classes_unlined cs) store links regions ≡ beneath cs store links regions
beneath-unlined cs store zero regions = refl
beneath-unlined cs store (suc k) regions =
    ap (λ ns. beneath (classes_unlined cs) store k (joined_with regions ns)) (led_from-unlined cs store (in_regions regions) store)
    ∙ beneath-unlined cs store k (joined_with regions (led_from cs store (in_regions regions) store))

pub frozen-unlined : (cs : List Class) (s : State) (o : Option ℕ) → option_map (frozen (classes_unlined cs) s) o ≡ option_map (frozen cs s) o
frozen-unlined cs s None = refl
frozen-unlined cs s (Some r) =
    let f : List ℕ → Option State = λ ns. Some (record s { store = relabelled ns Frozen s.store }) in
    ap f (beneath-unlined cs s.store (length s.managers) (r ∷ []))
