-- The steps that move regions, by what a variable holds.
use Rattle.std.proofs.Common.{◌≡◌, ℕ, ◌<◌, List, ◌∷◌, length, map, reverse, Option, Some, None, IfSome, option_map, Ok, Err, refl, sym, ◌∙◌, ap}
use Rattle.rg_base.specs.declared.object.Seen.{Seen}
use Rattle.rg_base.specs.declared.outcome.Trap.{Trap}
use Rattle.rg_base.specs.declared.value.Val.TheVariants.{Nil}
use Rattle.rg_tree.specs.Tree.{Class, Variable, stmt}
use Rattle.rg_tree.specs.Rows.Tables.{Tables, name_at}
use Rattle.rg_tree.specs.Rows.RowTrees.{classes_of, stmt_at}
use Rattle.rg_rules.specs.Evaluation.{object_at}
use Rattle.rg_rules.specs.Items.{Item, Do}
use Rattle.rg_rules.specs.Regions.{region_of}
use Rattle.rg_rules.specs.RightSides.{Use, consumed, with_right}
use Rattle.rg_rules.specs.State.{Local, State, Target, locals_of as locals_in, value_in, set_in, put_local}
use Rattle.rg_rules.specs.Steps.{Went, Trapped, next, stepped}
use Rattle.rg_store.specs.Regions.{LabelsFit}
use Rattle.rg_values.specs.declared.targets.Aim.{Aim}
use Rattle.rg_values.specs.declared.targets.Left.{Left}
use Rattle.rg_statements.specs.declared.move_.Held.{Held}
use Rattle.rg_statements.specs.declared.move_.Move.{Move}
use Rattle.rg_statements.specs.declared.move_.Move.TheVariants as moves
use Rattle.rg_values.specs.declared.state.rows.ItemRow.{ItemRow}
use Rattle.rg_values.specs.Kept.{Kept, frame_of, plain_of, shown}
use Rattle.rg_statements.specs.Inner.Moves.{right_of, regions_with, label_of, moved, carried, Holds}
use Rattle.rg_values.specs.Shown.{locals_of}
use Rattle.rg_values.specs.Spots.{AimIs, statement_of, use_of, sent_to}
use Rattle.rg_statements.proofs.Step.{next-at}

with-object : (t : Tables) (cs : List Class) (s : State) (to : Target) (put : Use) (name : ℕ) (how : Move) (o : Seen) →
    object_at s.store (value_in (locals_in s) (Some (name_at t name))) ≡ Ok o →
    with_right cs s to put (right_of t name how) ≡ Ok (consumed s put (Some (name_at t name)) (option_map (moved cs how s) (region_of o.label)))
with-object t cs s to put name moves.Freeze o at = rw (with_right, at) refl
with-object t cs s to put name moves.Merge o at = rw (with_right, at) refl

with-none : (t : Tables) (cs : List Class) (s : State) (to : Target) (put : Use) (name : ℕ) (how : Move) (kind : Trap) →
    object_at s.store (value_in (locals_in s) (Some (name_at t name))) ≡ Err kind → with_right cs s to put (right_of t name how) ≡ Err kind
with-none t cs s to put name moves.Freeze kind cut = rw (with_right, cut) refl
with-none t cs s to put name moves.Merge kind cut = rw (with_right, cut) refl

-- the variable leads to no object
pub move-cut : (t : Tables) (k : Kept) (input : List ℕ) (number line : ℕ) (l : Left) (name : ℕ) (how : Move) (a : Aim)
    (rest : List Item) (kind : Trap) →
    AimIs t k l (Ok a) → object_at k.store (value_in (locals_of t k.frame.locals) (Some (name_at t name))) ≡ Err kind →
    shown t k.items ≡ Do (stmt_at t number) ∷ rest → stmt_at t number ≡ stmt line (statement_of t l (right_of t name how)) →
    next (classes_of t) (plain_of t k input) ≡ Trapped kind line
move-cut t k input number line l name how a rest kind aim_is cut shown_is tree =
    next-at t (classes_of t) k input number line (statement_of t l (right_of t name how)) rest shown_is tree
    ∙ ap (stepped line) (aim_is.1 input rest line (right_of t name how)
    ∙ with-none t (classes_of t) (record (plain_of t k input) { items = rest }) (sent_to t a) (use_of t a) name how kind cut)

-- it leads to one
pub move-held : (t : Tables) (k : Kept) (input : List ℕ) (number line : ℕ) (l : Left) (name : ℕ) (how : Move) (a : Aim) (h : Held)
    (region : Option ℕ) (items : List ItemRow) (new : State) →
    AimIs t k l (Ok a) → Holds t k name h → h.region ≡ region → shown t k.items ≡ Do (stmt_at t number) ∷ shown t items →
    stmt_at t number ≡ stmt line (statement_of t l (right_of t name how)) →
    (let s : State = plain_of t (record k { items = items }) input in
    new ≡ consumed s (use_of t a) (Some (name_at t name)) (option_map (moved (classes_of t) how s) region)) →
    next (classes_of t) (plain_of t k input) ≡ Went new
move-held t k input number line l name how a h region items new aim_is holds region_is shown_is tree new_is =
    let s : State = plain_of t (record k { items = items }) input in
    let y = Some (name_at t name) in
    let at = ap (object_at k.store) (sym holds.value_is) ∙ holds.at in
    next-at t (classes_of t) k input number line (statement_of t l (right_of t name how)) (shown t items) shown_is tree
    ∙ ap (stepped line) (aim_is.1 input (shown t items) line (right_of t name how)
    ∙ with-object t (classes_of t) s (sent_to t a) (use_of t a) name how holds.object at
    ∙ ap (λ r. Ok (consumed s (use_of t a) y (option_map (moved (classes_of t) how s) r))) (holds.region_is ∙ region_is))
    ∙ ap Went (sym new_is)

-- the regions were moved and the value went where it goes
pub carried-moved : (t : Tables) (s : State) (a : Aim) (name : ℕ) (how : Move) (r : ℕ) →
    carried t a name s (regions_with (classes_of t) s.store (length s.managers) how r) (label_of s.windows how)
    (value_in (locals_in s) (Some (name_at t name)))
    ≡ consumed s (use_of t a) (Some (name_at t name)) (Some (moved (classes_of t) how s r))
carried-moved t s a name moves.Freeze r = refl
carried-moved t s a name moves.Merge r = refl

-- the region that an answer names was made
pub made-at : (st : List Seen) (count : ℕ) (r : Option ℕ) → LabelsFit count st → IfSome r (λ q. (n : ℕ) → LabelsFit n st → q < n) →
    IfSome r (λ q. q < count)
made-at st count None fits made = tt
made-at st count (Some q) fits made = made count fits

-- a variable became nil in a state whose objects have other labels
pub set-nil : (t : Tables) (k : Kept) (input : List ℕ) (y : Variable) (store new : List Seen) (locals : List Local) → store ≡ new →
    locals ≡ set_in y Nil (locals_of t k.frame.locals) →
    record (plain_of t k input) {
      store = store;
      frames = record (frame_of t k.frame) { locals = locals } ∷ map (frame_of t) (reverse k.below);
    }
    ≡ put_local y (record (plain_of t k input) { store = new }) Nil
set-nil t k input y store new locals store_is locals_is =
    ap (λ q. record (plain_of t k input) {
      store = q;
      frames = record (frame_of t k.frame) { locals = locals } ∷ map (frame_of t) (reverse k.below);
    }) store_is
    ∙ ap (λ q. record (plain_of t k input) {
      store = new;
      frames = record (frame_of t k.frame) { locals = q } ∷ map (frame_of t) (reverse k.below);
    }) locals_is
