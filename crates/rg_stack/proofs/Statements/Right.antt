-- Right sides: the code of each leaves the value that the step uses, in the middle of a step.
use Rattle.std.proofs.Common.{◌≡◌, ℕ, zero, suc, ◌+◌, true, false, true≢false, Bool as Truth, ◌&&◌, if◌then◌else◌, List, [], ◌∷◌, ◌++◌, length, map}
use Rattle.std.proofs.Common.{replicate, append_assoc, length-append, Option, Some, None, option_map, Result, Ok, Err, refl, sym, ap, subst, ◌∙◌, arith}
use Rattle.std.proofs.Common.{slice_get, slice_set, unwrap_or}
use Rattle.std.proofs.lemmas.List.{length-set}
use Rattle.std.proofs.lemmas.Option.{none-some}
use Rattle.std.specs.Prelude.{filter_map, not}
use Rattle.std.proofs.lemmas.Bool.{and_from, not_from_false}
use Rattle.rg_base.specs.declared.outcome.Trap.{Trap}
use Rattle.rg_base.specs.declared.value.Val.{Val}
use Rattle.rg_base.specs.declared.value.Val.TheVariants as val
use Rattle.rg_base.specs.declared.value.Word.{Word}
use Rattle.rg_base.specs.declared.object.Seen.{Seen}
use Rattle.rg_base.specs.declared.object.Label.{Label}
use Rattle.rg_base.specs.declared.object.Label.TheVariants.{Region, Temp, Frozen}
use Rattle.rg_base.specs.declared.words.Manager.{Manager}
use Rattle.rg_base.specs.Input.{NextNumber, found, malformed, at_end, next_number}
use Rattle.rg_tree.specs.Tree.{Name, Variable, Expr, Ty as Written, int, bool, ref, Field, Right, value, new, new_tmp, new_iso, freeze, merge, read, more}
use Rattle.rg_base.specs.declared.outcome.Trap.{Trap}
use Rattle.rg_tree.specs.Tree.{result_of, Member, field, method, Class}
use Rattle.rg_rules.specs.Answers.{◌>>=◌}
use Rattle.rg_rules.specs.Types.{field_member, members_of, fields_of, class_named, class_number}
use Rattle.rg_rules.specs.Items.{Item}
use Rattle.rg_rules.specs.State.{Local, Target, value_in, set_in, State, Window as Opened, active, top_number}
use Rattle.rg_rules.specs.Evaluation.{object_at, value_of, uses, cleared}
use Rattle.rg_rules.specs.Regions.{region_of, in_regions, beneath, relabelled, relabelled_object}
use Rattle.rg_rules.specs.RightSides.{Use, opening_value, new_object, made as made_plain, array_size, opening_element as plain_element, new_array}
use Rattle.rg_rules.specs.RightSides.{made_array, made_new, with_region, frozen, merged, consumed, taken, is_left, with_right}
use Rattle.rg_rules.proofs.Header.{class_number-at}
use Rattle.rg_code.specs.declared.op.Op.{Op}
use Rattle.rg_code.specs.declared.op.Op.TheVariants as i
use Rattle.rg_code.specs.Code.{Code}
use Rattle.rg_code.specs.Lowering.{Scope, slot_of, used_slots, expr_code, new_code, right_code, pace_code, opening_word, opening_words, opening_of}
use Rattle.rg_stack.specs.Machine.{Window, value_of_word}
use Rattle.rg_stack.specs.Effects.{beneath_by_labels, Traps, Stuck, with_value, opening_element, relabel}
use Rattle.rg_stack.specs.Tops.{Work, top_region, top_window}
use Rattle.rg_stack.specs.Effects.{next_taken}
use Rattle.rg_stack.specs.Needs.{needs, is_closed, owned_once, leads_nowhere, opens_plain}
use Rattle.rg_stack.specs.Shows.{ShowsWindows}
use Rattle.rg_stack.specs.Given.{given_walk as walk}
use Rattle.rg_stack.proofs.Walks.Walk.{NotShut, Agrees, walk-expr}
use Rattle.rg_stack.proofs.Walks.Slot.{ShowsSlots, cleared_slots, shows_clear, scope_set, slot_place}
use Rattle.rg_stack.proofs.Walks.End.{EndsAs, value_ends, object_ends, computed_ends, Round, work, state, RoundShows, Middle, Keeps, slots_hold}
use Rattle.rg_stack.proofs.Walks.End.{walk-whole, middle_whole, UsesUp}
use Rattle.rg_stack.proofs.Callers.Base.{if_ends}

-- what a new object starts with

word_value : (t : Written) → value_of_word (opening_word t) ≡ opening_value t
word_value int = refl
word_value bool = refl
word_value (ref cap x) = refl

pub words_values : (ms : List Member) → map value_of_word (opening_words ms) ≡ map (λ (f : Field). opening_value f.ty) (filter_map field_member ms)
words_values [] = refl
words_values (field f ∷ ms) = ap (λ v. v ∷ map value_of_word (opening_words ms)) (word_value f.ty)
    ∙ ap (λ l. opening_value f.ty ∷ l) (words_values ms)
words_values (method m ∷ ms) = words_values ms

pub words_at : (classes : List Class) (n : ℕ) (k : Class) → slice_get classes n ≡ Some k
    → slice_get (map (λ (c : Class). opening_of c.element c.members) classes) n ≡ Some (opening_of k.element k.members)
words_at [] n k h = absurd (true≢false (sym (ap (λ (o : Option Class). elim o [ Some x ↦ true | None ↦ false ]) h)))
words_at (c ∷ cs) zero k h = ap (option_map (λ (c : Class). opening_of c.element c.members)) h
words_at (c ∷ cs) (suc n) k h = words_at cs n k h

-- the openings of a code are those of the classes
abbrev pub Opens : List Class → Code → Type 0
Opens classes code = code.openings ≡ map (λ (c : Class). opening_of c.element c.members) classes

opens_as : (classes : List Class) (code : Code) (n : ℕ) (k : Class) → Opens classes code → slice_get classes n ≡ Some k → k.element ≡ None
    → map value_of_word (unwrap_or (slice_get code.openings n) []) ≡ map (λ (f : Field). opening_value f.ty) (fields_of classes n)
opens_as classes code n k opens there plain =
    ap (λ l. map value_of_word (unwrap_or (slice_get l n) [])) opens
    ∙ ap (λ o. map value_of_word (unwrap_or o [])) (words_at classes n k there)
    ∙ ap (λ e. map value_of_word (opening_of e k.members)) plain
    ∙ words_values k.members
    ∙ ap (λ o. map (λ (f : Field). opening_value f.ty) (filter_map field_member (members_of o))) (sym there)

seen_is : (classes : List Class) (code : Code) (x : Name) (k : Class) (label here : Label) → Opens classes code → class_named classes x ≡ Some k
    → k.element ≡ None → here ≡ label
    → ◌≡◌ {A = Seen} (record {
      class = class_number classes x;
      fields = map value_of_word
          (unwrap_or (slice_get code.openings (class_number classes x)) []);
      label = here;
    }) (new_object classes x label)
seen_is classes code x k label here opens named plain same =
    ap (λ fs. record { class = class_number classes x; fields = fs; label = here })
    (opens_as classes code (class_number classes x) k opens (class_number-at classes x k named) plain)
    ∙ ap (λ l. record {
      class = class_number classes x;
      fields = map (λ (f : Field). opening_value f.ty)
          (fields_of classes (class_number classes x));
      label = l;
    }) same

-- what an element starts with
element_opens : (classes : List Class) (code : Code) (n : ℕ) (k : Class) (t : Written) → Opens classes code → slice_get classes n ≡ Some k
    → k.element ≡ Some t → opening_element (unwrap_or (slice_get code.openings n) []) ≡ plain_element k.element
element_opens classes code n k t opens there is =
    ap (λ l. opening_element (unwrap_or (slice_get l n) [])) opens
    ∙ ap (λ o. opening_element (unwrap_or o [])) (words_at classes n k there)
    ∙ ap (λ e. opening_element (opening_of e k.members)) is
    ∙ word_value t ∙ ap plain_element (sym is)

array_is : (classes : List Class) (code : Code) (x : Name) (k : Class) (t : Written) (m : ℕ) (label here : Label) → Opens classes code
    → class_named classes x ≡ Some k → k.element ≡ Some t → here ≡ label
    → ◌≡◌ {A = Seen} (record {
      class = class_number classes x;
      fields = replicate m (opening_element (unwrap_or (slice_get code.openings (class_number classes x)) []));
      label = here;
    }) (new_array classes x k m label)
array_is classes code x k t m label here opens named is same =
    ap (λ v. record { class = class_number classes x; fields = replicate m v; label = here })
    (element_opens classes code (class_number classes x) k t opens (class_number-at classes x k named) is)
    ∙ ap (λ l. record { class = class_number classes x; fields = replicate m (plain_element k.element); label = l }) same

-- the topmost window
pub same_region : (sizes : List ℕ) (ws : List Window) (ps : List Opened) → ShowsWindows sizes ws ps → top_region ws ≡ active ps
same_region sizes [] [] h = refl
same_region sizes [] (p ∷ ps) h = absurd h
same_region sizes (w ∷ ws) [] h = absurd h
same_region sizes (w ∷ ws) (p ∷ ps) h = h.0.region

pub same_window : (sizes : List ℕ) (ws : List Window) (ps : List Opened) → ShowsWindows sizes ws ps → top_window ws ≡ top_number ps
same_window sizes [] [] h = refl
same_window sizes [] (p ∷ ps) h = absurd h
same_window sizes (w ∷ ws) [] h = absurd h
same_window sizes (w ∷ ws) (p ∷ ps) h = h.0.number

-- objects keep their classes, and have as many fields

get_append : (xs ys : List Seen) (a : ℕ) (o : Seen) → slice_get xs a ≡ Some o → slice_get (xs ++ ys) a ≡ Some o
get_append [] ys a o h = absurd (none-some o h)
get_append (x ∷ xs) ys zero o h = h
get_append (x ∷ xs) ys (suc a) o h = get_append xs ys a o h

get_map : (f : Seen → Seen) (xs : List Seen) (a : ℕ) (o : Seen) → slice_get xs a ≡ Some o → slice_get (map f xs) a ≡ Some (f o)
get_map f [] a o h = absurd (none-some o h)
get_map f (x ∷ xs) zero o h = ap (option_map f) h
get_map f (x ∷ xs) (suc a) o h = get_map f xs a o h

class_kept : (t : Truth) (label : Label) (o : Seen) → ◌≡◌ {A = ℕ} ((if t then record o { label = label } else o).class) o.class
class_kept true label o = refl
class_kept false label o = refl

fields_kept : (t : Truth) (label : Label) (o : Seen) → length ((if t then record o { label = label } else o).fields) ≡ length o.fields
fields_kept true label o = refl
fields_kept false label o = refl

keeps_append : (old store : List Seen) (q : Seen) → Keeps old store → Keeps old (store ++ q ∷ [])
keeps_append old store q h a o e = let g = h a o e in (g.0, get_append store (q ∷ []) a g.0 g.1, g.2, g.3)

keeps_relabelled : (old store : List Seen) (regions : List ℕ) (label : Label) → Keeps old store → Keeps old (relabelled regions label store)
keeps_relabelled old store regions label h a o e =
    let g = h a o e in (
      relabelled_object regions label g.0,
      get_map (relabelled_object regions label) store a g.0 g.1,
      class_kept
          (in_regions regions g.0.label) label g.0 ∙ g.2,
      fields_kept (in_regions regions g.0.label) label g.0 ∙ g.3,
    )

pub middle_store : (scope : Scope) (n : ℕ) (old store after : List Seen) (slots : List Val) (locals : List Local) → Keeps old after
    → Middle scope n old store slots locals → Middle scope n old after slots locals
middle_store scope n old store after slots locals k m = record { shows = m.shows; size_is = m.size_is; scope_is = m.scope_is; keeps = k }

pub middle_clear : (scope : Scope) (n : ℕ) (old store : List Seen) (slots : List Val) (locals : List Local) (x : Variable)
    → Middle scope n old store slots locals → Middle scope n old store (slice_set slots (slot_of scope x) val.Nil) (set_in x val.Nil locals)
middle_clear scope n old store slots locals x m = record {
  shows = subst (λ k. ShowsSlots (slice_set slots k val.Nil) (set_in x val.Nil locals))
      (sym (slot_place locals x) ∙ ap (λ s. slot_of s x) m.scope_is) (shows_clear slots locals x m.shows);
  size_is = length-set slots (slot_of scope x) val.Nil ∙ m.size_is;
  scope_is = scope_set x val.Nil locals ∙ m.scope_is;
  keeps = m.keeps;
}

-- the object to which a variable leads is in a region
abbrev pub InRegion : List Seen → Val → Type 0
InRegion store v = (o : Seen) → object_at store v ≡ Ok o → (g : ℕ) × (region_of o.label ≡ Some g)

-- the regions beneath one by labels are those by owner references
abbrev pub LabelsLead : List Class → List Seen → Type 0
LabelsLead classes store = (k r : ℕ) (label : Label) → relabelled (beneath_by_labels store k (r ∷ [])) label store
    ≡ relabelled (beneath classes store k (r ∷ [])) label store

-- what the rules give of `new C` and of `new C [e]`: the class is there, and it is an array class where a size stands
abbrev pub NewOwes : List Class → List Seen → List Window → List Local → Scope → Name → (many : Option Expr) → Type 0
NewOwes classes store windows locals scope x None = (k : Class) × (class_named classes x ≡ Some k) × (k.element ≡ None)
NewOwes classes store windows locals scope x (Some e) =
    Agrees classes store windows locals scope e × NotShut store windows (value_of classes store locals e)
    × (k : Class) × (class_named classes x ≡ Some k) × (t : Written) × (k.element ≡ Some t)

-- what the rules and the invariant give of a right side that makes no call
abbrev pub RightOwes : List Class → List Seen → List Window → List Local → Scope → Right → Type 0
RightOwes classes store windows locals scope (value e) = Agrees classes store windows locals scope e
RightOwes classes store windows locals scope (new x many) = NewOwes classes store windows locals scope x many
RightOwes classes store windows locals scope (new_tmp x many) = NewOwes classes store windows locals scope x many
RightOwes classes store windows locals scope (new_iso x many m) = NewOwes classes store windows locals scope x many
RightOwes classes store windows locals scope (freeze y) = InRegion store (value_in locals (Some y)) × LabelsLead classes store
RightOwes classes store windows locals scope (merge y) = InRegion store (value_in locals (Some y))
RightOwes classes store windows locals scope read = Unit {0}
RightOwes classes store windows locals scope more = Unit {0}
RightOwes classes store windows locals scope (result_of c) = ⊥

-- a use of a value that keeps it, in front of the output
abbrev pub kept : Use
kept s v = record s { output = v ∷ s.output }

-- what is known of a value and of the parts of the state that is there with it
abbrev pub Known : Type 1
Known = (store : List Seen) → List Local → List Manager → (input : List ℕ) → Val → Type 0

-- the right side gave them to the plain machine, from a state in parts
abbrev pub Gave : List Class → Round → List Item → (store : List Seen) → List Local → List Manager → (input : List ℕ) → Target → Right → Known
Gave classes r items store locals managers input target right = λ now after made left v.
    with_right classes (state r store locals managers input items) target kept right ≡ Ok (kept (state r now after made left items) v)

-- what the instructions of a right side need beside what all give
abbrev pub RightNeeds : List Class → Code → Round → Scope → List Seen → (slots : List Val) → List Local → List Manager → (input : List ℕ)
    → (stack : List Val) → Right → Type 0
RightNeeds classes code r scope store slots locals managers input stack (value e) =
    (owned_once (work r store slots managers input).machine ≡ true) × UsesUp classes store slots locals scope e stack
RightNeeds classes code r scope store slots locals managers input stack (freeze y) =
    needs code (i.Freeze (slot_of scope (Some y))) stack (work r store slots managers input).machine ≡ true
RightNeeds classes code r scope store slots locals managers input stack (merge y) =
    needs code (i.Merge (slot_of scope (Some y))) stack (work r store slots managers input).machine ≡ true
RightNeeds classes code r scope store slots locals managers input stack _ = Unit {0}

-- the openings of the classes are plain

plain_word : (t : Written) (ws : List Word) → leads_nowhere (opening_word t ∷ ws) ≡ leads_nowhere ws
plain_word int ws = refl
plain_word bool ws = refl
plain_word (ref cap x) ws = refl

pub plain_words : (ms : List Member) → leads_nowhere (opening_words ms) ≡ true
plain_words [] = refl
plain_words (field f ∷ ms) = plain_word f.ty (opening_words ms) ∙ plain_words ms
plain_words (method m ∷ ms) = plain_words ms

plain_opening : (e : Option Written) (ms : List Member) → leads_nowhere (opening_of e ms) ≡ true
plain_opening None ms = plain_words ms
plain_opening (Some t) ms = plain_word t []

plain-opens : (classes : List Class) (code : Code) (x : Name) (k : Class) → Opens classes code → class_named classes x ≡ Some k
    → opens_plain code (class_number classes x) ≡ true
plain-opens classes code x k opens named =
    ap (λ l. leads_nowhere (unwrap_or (slice_get l (class_number classes x)) [])) opens
    ∙ ap (λ o. leads_nowhere (unwrap_or o [])) (words_at classes (class_number classes x) k (class_number-at classes x k named))
    ∙ plain_opening k.element k.members

module _ (classes : List Class) (code : Code) (r : Round) (scope : Scope) (n : ℕ) (old : List Seen) (items : List Item) where
  -- what is done with the value, on both sides
  abbrev pub Then : Known → Use → (tail : List Op) → (end : ℕ) → (stack : List Val) → Type 0
  Then known put tail end stack =
      (store : List Seen) (slots : List Val) (locals : List Local) (managers : List Manager) (input : List ℕ) (v : Val)
      → Middle scope n old store slots locals → known store locals managers input v
      → EndsAs classes code r.output (Ok (put (state r store locals managers input items) v))
      (walk code tail end 0 (v ∷ stack) (work r store slots managers input))

  -- a new object; `beside` is what is done with its value beside, which leaves these managers
  new_ends : (put : Use) (beside : Use → Use) (made : List Manager) (x : Name) (label here : Label) (tail : List Op) (end : ℕ) (stack : List Val)
      (store : List Seen) (slots : List Val) (locals : List Local) (managers : List Manager) (input : List ℕ)
      → ((p : Use) (now : List Seen) (v : Val) → beside p (state r now locals managers input items) v ≡ p (state r now locals made input items) v)
      → here ≡ label → Opens classes code → Middle scope n old store slots locals → NewOwes classes store r.windows locals scope x None
      → Then (λ now after left_made left v. ◌≡◌ {A = Result State Trap} (Ok (made_plain classes (state r store locals managers input items)
      (beside kept) x label)) (Ok (kept (state r now after left_made left items) v))) put tail end stack
      → EndsAs classes code r.output (Ok (made_plain classes (state r store locals managers input items) (beside put) x label))
      (if opens_plain code (class_number classes x) then walk code tail end 0 (val.Obj (length store) ∷ stack)
      (work r (store ++ record {
        class = class_number classes x;
        fields = map value_of_word
            (unwrap_or (slice_get code.openings (class_number classes x)) []);
        label = here;
      } ∷ []) slots made input) else Stuck)
  new_ends put beside made x label here tail end stack store slots locals managers input same at opens m owes go =
      let s = state r store locals managers input items in
      let q = new_object classes x label in
      let after = λ (p : Use). beside p (state r (store ++ q ∷ []) locals managers input items) (val.Obj (length store)) in
      let goes = λ (q : Seen). walk code tail end 0 (val.Obj (length store) ∷ stack) (work r (store ++ q ∷ []) slots made input) in
      let named = owes.1 in
      if_ends classes code r.output (Ok (made_plain classes s (beside put) x label)) (opens_plain code (class_number classes x))
      (goes (record {
        class = class_number classes x;
        fields = map value_of_word
            (unwrap_or (slice_get code.openings (class_number classes x)) []);
        label = here;
      })) Stuck (plain-opens classes code x owes.0 opens named)
      (subst (λ q. EndsAs classes code r.output (Ok (made_plain classes s (beside put) x label)) (goes q))
      (sym (seen_is classes code x owes.0 label here opens named owes.2 at))
      (subst (λ o. EndsAs classes code r.output (Ok (elim o [ None ↦ s | Some c ↦ after put ])) (goes q)) (sym named)
      (subst (λ u. EndsAs classes code r.output (Ok u) (goes q)) (sym (same put (store ++ q ∷ []) (val.Obj (length store))))
      (go (store ++ q ∷ []) slots locals made input (val.Obj (length store))
      (middle_store scope n old store (store ++ q ∷ []) slots locals (keeps_append old store q m.keeps) m)
      (ap (λ o. Ok (elim o [ None ↦ s | Some c ↦ after kept ])) named
      ∙ ap (λ u. Ok u) (same kept (store ++ q ∷ []) (val.Obj (length store))))))))

  -- a new array, behind its size
  array_ends : (put : Use) (beside : Use → Use) (made : List Manager) (x : Name) (e : Expr) (label here : Label) (array : Op) (tail : List Op)
      (at : ℕ) (stack : List Val) (store : List Seen) (slots : List Val) (locals : List Local) (managers : List Manager) (input : List ℕ)
      → ((p : Use) (now : List Seen) (v : Val) → beside p (state r now locals managers input items) v ≡ p (state r now locals made input items) v)
      → ((there : ℕ) (v : Val) → walk code (array ∷ tail) there 0 (v ∷ stack) (work r store slots managers input)
      ≡ (if opens_plain code (class_number classes x) && not (is_closed (work r store slots managers input).machine v) then elim (array_size v) [
        | Ok many ↦ walk code tail (there + 1) 0 (val.Obj (length store) ∷ stack) (work r (store ++ record {
          class = class_number classes x;
          fields = replicate many (opening_element (unwrap_or (slice_get code.openings (class_number classes x)) []));
          label = here;
        } ∷ []) slots made input)
        | Err t ↦ Traps t
      ] else Stuck))
      → here ≡ label → Opens classes code → Middle scope n old store slots locals → NewOwes classes store r.windows locals scope x (Some e)
      → Then (λ now after left_made left v. made_array classes (state r store locals managers input items) (beside kept) x e label
      ≡ Ok (kept (state r now after left_made left items) v)) put tail (at + length (expr_code classes scope at e ++ array ∷ [])) stack
      → EndsAs classes code r.output (made_array classes (state r store locals managers input items) (beside put) x e label)
      (walk code ((expr_code classes scope at e ++ array ∷ []) ++ tail) at 0 stack (work r store slots managers input))
  array_ends put beside made x e label here array tail at stack store slots locals managers input same does is opens m owes go =
      let s = state r store locals managers input items in
      let w = work r store slots managers input in
      let c = owes.2 in
      let named = owes.3 in
      let ops = expr_code classes scope at e in
      let end = at + length (ops ++ array ∷ []) in
      let last : at + length ops + 1 ≡ end = omega (arith, length-append ops (array ∷ [])) in
      let q = λ (many : ℕ). new_array classes x c many label in
      let after = λ (p : Use) (many : ℕ). beside p (state r (store ++ q many ∷ []) locals managers input items) (val.Obj (length store)) in
      let behind = λ (p : Use) (v : Val). ◌>>=◌ {A = ℕ} {B = State} (array_size v) (λ many. Ok (after p many)) in
      let goes = λ (o : Seen) (to : ℕ). walk code tail to 0 (val.Obj (length store) ∷ stack) (work r (store ++ o ∷ []) slots made input) in
      let shown : ℕ → Seen = λ many. record {
        class = class_number classes x;
        fields = replicate many (opening_element (unwrap_or (slice_get code.openings (class_number classes x)) []));
        label = here;
      } in
      let walks : walk code ((ops ++ array ∷ []) ++ tail) at 0 stack w
      ≡ with_value (value_of classes store locals e) (λ v. walk code (array ∷ tail) (at + length ops) 0 (v ∷ stack) w) =
      ap (λ l. walk code l at 0 stack w) (append_assoc ops (array ∷ []) tail)
      ∙ walk-expr classes code e locals scope at (array ∷ tail) stack w (slots_hold scope slots locals m.shows m.scope_is) owes.0 in
      subst (λ o. EndsAs classes code r.output (elim o [
        | None ↦ Ok s
        | Some k ↦ ◌>>=◌ (value_of classes store locals e) (λ v.
            ◌>>=◌ {A = ℕ} {B = State} (array_size v) (λ many.
            Ok (beside put (state r (store ++ new_array classes x k many label ∷ []) locals managers input items) (val.Obj (length store)))))
      ])
      (walk code ((ops ++ array ∷ []) ++ tail) at 0 stack w)) (sym named)
      (subst (λ y. EndsAs classes code r.output (◌>>=◌ (value_of classes store locals e) (behind put)) y) (sym walks)
      (value_ends classes code r.output (value_of classes store locals e) (behind put) _ (λ v got.
      subst (λ y. EndsAs classes code r.output (behind put v) y) (sym (does (at + length ops) v))
      (if_ends classes code r.output (behind put v) (opens_plain code (class_number classes x) && not (is_closed w.machine v))
      (elim (array_size v) [ Ok many ↦ goes (shown many) (at + length ops + 1) | Err t ↦ Traps t ]) Stuck
      (and_from (opens_plain code (class_number classes x)) (not (is_closed w.machine v)) (plain-opens classes code x c opens named)
      (not_from_false (is_closed w.machine v) (owes.1 v got)))
      (object_ends classes code r.output (array_size v) (λ many. Ok (after put many)) (λ many. goes (shown many) (at + length ops + 1))
      (λ many counts.
      subst (λ o. EndsAs classes code r.output (Ok (after put many)) (goes o (at + length ops + 1)))
      (sym (array_is classes code x c owes.4 many label here opens named owes.5 is))
      (subst (λ to. EndsAs classes code r.output (Ok (after put many)) (goes (q many) to)) (sym last)
      (subst (λ u. EndsAs classes code r.output (Ok u) (goes (q many) end)) (sym (same put (store ++ q many ∷ []) (val.Obj (length store))))
      (go (store ++ q many ∷ []) slots locals made input (val.Obj (length store))
      (middle_store scope n old store (store ++ q many ∷ []) slots locals (keeps_append old store (q many) m.keeps) m)
      (ap (λ o. elim o [
        | None ↦ Ok s
        | Some k ↦ ◌>>=◌ (value_of classes store locals e) (λ v.
            ◌>>=◌ {A = ℕ} {B = State} (array_size v) (λ many.
            Ok (beside kept (state r (store ++ new_array classes x k many label ∷ []) locals managers input items) (val.Obj (length store)))))
      ]) named
      ∙ ap (λ o. ◌>>=◌ o (behind kept)) got
      ∙ ap (λ o. ◌>>=◌ {A = ℕ} {B = State} o (λ many. Ok (after kept many))) counts
      ∙ ap (λ u. Ok u) (same kept (store ++ q many ∷ []) (val.Obj (length store)))))))))))))

  -- either of them
  made_ends : (put : Use) (beside : Use → Use) (made : List Manager) (x : Name) (many : Option Expr) (label here : Label) (object array : Op)
      (tail : List Op) (at : ℕ) (stack : List Val) (store : List Seen) (slots : List Val) (locals : List Local) (managers : List Manager)
      (input : List ℕ)
      → ((p : Use) (now : List Seen) (v : Val) → beside p (state r now locals managers input items) v ≡ p (state r now locals made input items) v)
      → (walk code (object ∷ tail) at 0 stack (work r store slots managers input)
      ≡ (if opens_plain code (class_number classes x) then walk code tail (at + 1) 0 (val.Obj (length store) ∷ stack)
      (work r (store ++ record {
        class = class_number classes x;
        fields = map value_of_word
            (unwrap_or (slice_get code.openings (class_number classes x)) []);
        label = here;
      } ∷ []) slots made input) else Stuck))
      → ((there : ℕ) (v : Val) → walk code (array ∷ tail) there 0 (v ∷ stack) (work r store slots managers input)
      ≡ (if opens_plain code (class_number classes x) && not (is_closed (work r store slots managers input).machine v) then elim (array_size v) [
        | Ok many ↦ walk code tail (there + 1) 0 (val.Obj (length store) ∷ stack) (work r (store ++ record {
          class = class_number classes x;
          fields = replicate many (opening_element (unwrap_or (slice_get code.openings (class_number classes x)) []));
          label = here;
        } ∷ []) slots made input)
        | Err t ↦ Traps t
      ] else Stuck))
      → here ≡ label → Opens classes code → Middle scope n old store slots locals → NewOwes classes store r.windows locals scope x many
      → Then (λ now after left_made left v. made_new classes (state r store locals managers input items) (beside kept) x many label
      ≡ Ok (kept (state r now after left_made left items) v)) put tail (at + length (new_code classes scope at object array many)) stack
      → EndsAs classes code r.output (made_new classes (state r store locals managers input items) (beside put) x many label)
      (walk code (new_code classes scope at object array many ++ tail) at 0 stack (work r store slots managers input))
  made_ends put beside made x None label here object array tail at stack store slots locals managers input same one other is opens m owes go =
      subst (λ y. EndsAs classes code r.output (Ok (made_plain classes (state r store locals managers input items) (beside put) x label)) y) (sym one)
      (new_ends put beside made x label here tail (at + 1) stack store slots locals managers input same is opens m owes go)
  made_ends put beside made x (Some e) label here object array tail at stack store slots locals managers input same one other is opens m owes go =
      array_ends put beside made x e label here array tail at stack store slots locals managers input same other is opens m owes go

  read_ends : (put : Use) (next : NextNumber) (tail : List Op) (end : ℕ) (stack : List Val) (store : List Seen) (slots : List Val)
      (locals : List Local) (managers : List Manager) (input : List ℕ)
      → Middle scope n old store slots locals
      → Then (λ now after made left v. taken (state r store locals managers input items) kept next ≡ Ok (kept (state r now after made left items) v))
      put tail end stack
      → EndsAs classes code r.output (taken (state r store locals managers input items) put next)
      (next_taken next (walk code tail end) stack (work r store slots managers input))
  read_ends put (found z rest) tail end stack store slots locals managers input m go = go store slots locals managers rest (val.Int z) m refl
  read_ends put malformed tail end stack store slots locals managers input m go = refl
  read_ends put at_end tail end stack store slots locals managers input m go = refl

  -- a variable whose region is frozen or merged
  region_ends : (put : Use) (x : Variable) (tail : List Op) (end : ℕ) (stack : List Val) (store : List Seen) (slots : List Val)
      (locals : List Local) (managers : List Manager) (input : List ℕ)
      → (plain : Option ℕ → Option State) (shown : Option ℕ → List Seen) (after : ℕ → List Seen)
      → ((g : ℕ) → plain (Some g) ≡ Some (state r (after g) locals managers input items)) → ((g : ℕ) → shown (Some g) ≡ after g)
      → ((g : ℕ) → Keeps old (after g))
      → Middle scope n old store slots locals → InRegion store (value_in locals x)
      → Then (λ now after made left v. ◌>>=◌ (object_at store (value_in locals x))
      (λ o. Ok (consumed (state r store locals managers input items) kept x (plain (region_of o.label))))
      ≡ Ok (kept (state r now after made left items) v)) put tail end stack
      → EndsAs classes code r.output (◌>>=◌ (object_at store (value_in locals x))
      (λ o. Ok (consumed (state r store locals managers input items) put x (plain (region_of o.label)))))
      (elim (object_at store (unwrap_or (slice_get slots (slot_of scope x)) val.Nil)) [
        | Ok o ↦ walk code tail end 0 (unwrap_or (slice_get slots (slot_of scope x)) val.Nil ∷ stack)
            (work r (shown (region_of o.label)) (slice_set slots (slot_of scope x) val.Nil) managers input)
        | Err t ↦ Traps t
      ])
  region_ends put x tail end stack store slots locals managers input plain shown after a b c m owes go =
      subst (λ u. EndsAs classes code r.output (◌>>=◌ (object_at store (value_in locals x))
      (λ o. Ok (consumed (state r store locals managers input items) put x (plain (region_of o.label)))))
      (elim (object_at store u) [
        | Ok o ↦ walk code tail end 0 (u ∷ stack)
            (work r (shown (region_of o.label)) (slice_set slots (slot_of scope x) val.Nil) managers input)
        | Err t ↦ Traps t
      ]))
      (sym (slots_hold scope slots locals m.shows m.scope_is x))
      (object_ends classes code r.output (object_at store (value_in locals x)) _ _ (λ o is.
      let g = owes o is in
      let new_store = after g.0 in
      subst (λ l. EndsAs classes code r.output (Ok (consumed (state r store locals managers input items) put x (plain l)))
      (walk code tail end 0 (value_in locals x ∷ stack) (work r (shown l) (slice_set slots (slot_of scope x) val.Nil) managers input))) (sym g.1)
      (subst (λ l. EndsAs classes code r.output (Ok (consumed (state r store locals managers input items) put x l))
      (walk code tail end 0 (value_in locals x ∷ stack) (work r (shown (Some g.0)) (slice_set slots (slot_of scope x) val.Nil) managers input)))
      (sym (a g.0))
      (subst (λ l. EndsAs classes code r.output (Ok (put (state r new_store (set_in x val.Nil locals) managers input items) (value_in locals x)))
      (walk code tail end 0 (value_in locals x ∷ stack) (work r l (slice_set slots (slot_of scope x) val.Nil) managers input))) (sym (b g.0))
      (go new_store (slice_set slots (slot_of scope x) val.Nil) (set_in x val.Nil locals) managers input (value_in locals x)
      (middle_clear scope n old new_store slots locals x (middle_store scope n old store new_store slots locals (c g.0) m))
      (ap (λ q. ◌>>=◌ q (λ o. Ok (consumed (state r store locals managers input items) kept x (plain (region_of o.label))))) is
      ∙ ap (λ l. Ok (consumed (state r store locals managers input items) kept x (plain l))) g.1
      ∙ ap (λ l. Ok (consumed (state r store locals managers input items) kept x l)) (a g.0)))))))

  pub right_ends : (target : Target) (put : Use) (right : Right) (tail : List Op) (here : ℕ) (stack : List Val) (store : List Seen)
      (slots : List Val) (locals : List Local) (managers : List Manager) (input : List ℕ)
      → RoundShows r n → Opens classes code → Middle scope n old store slots locals → RightOwes classes store r.windows locals scope right
      → RightNeeds classes code r scope store slots locals managers input stack right
      → Then (Gave classes r items store locals managers input target right) put tail (here + length (right_code classes scope here right)) stack
      → EndsAs classes code r.output (with_right classes (state r store locals managers input items) target put right)
      (walk code (right_code classes scope here right ++ tail) here 0 stack (work r store slots managers input))
  right_ends target put (value e) tail here stack store slots locals managers input round opens m owes need go =
      subst (λ x. EndsAs classes code r.output (with_right classes (state r store locals managers input items) target put (value e)) x)
      (sym (walk-whole classes code r store managers input e scope slots locals tail here stack m.shows m.scope_is owes need.0 need.1))
      (computed_ends classes code r.output (value_of classes store locals e) (state r store (cleared (uses locals e) locals) managers input items) _
      _ (λ v is.
      go store (cleared_slots (used_slots scope e) slots) (cleared (uses locals e) locals) managers input v
      (middle_whole scope n old store e slots locals m)
      (ap (λ c. ◌>>=◌ {A = State × Val} (◌>>=◌ c (λ v. Ok (state r store (cleared (uses locals e) locals) managers input items, v)))
      (λ done. Ok (kept done.0 done.1)))
      is)))
  right_ends target put (new x many) tail here stack store slots locals managers input round opens m owes need go =
      made_ends put (λ p. p) managers x many (Region (active r.opened)) (Region (top_region r.windows)) (i.New (class_number classes x))
      (i.NewArray (class_number classes x)) tail here stack store slots locals managers input (λ p now v. refl) refl (λ there v. refl)
      (ap Region (same_region _ r.windows r.opened round.windows)) opens m owes go
  right_ends target put (new_tmp x many) tail here stack store slots locals managers input round opens m owes need go =
      made_ends put (λ p. p) managers x many (Temp (top_number r.opened)) (Temp (top_window r.windows)) (i.NewTmp (class_number classes x))
      (i.NewTmpArray (class_number classes x)) tail here stack store slots locals managers input (λ p now v. refl) refl (λ there v. refl)
      (ap Temp (same_window _ r.windows r.opened round.windows)) opens m owes go
  right_ends target put (new_iso x many k) tail here stack store slots locals managers input round opens m owes need go =
      made_ends put (with_region k) (managers ++ k ∷ []) x many (Region (length managers)) (Region (length managers))
      (i.NewIso (class_number classes x) k) (i.NewIsoArray (class_number classes x) k) tail here stack store slots locals managers input
      (λ p now v. refl) refl (λ there v. refl) refl opens m owes go
  right_ends target put (freeze y) tail here stack store slots locals managers input round opens m owes need go =
      if_ends classes code r.output (with_right classes (state r store locals managers input items) target put (freeze y))
      (needs code (i.Freeze (slot_of scope (Some y))) stack (work r store slots managers input).machine)
      (elim (object_at store (unwrap_or (slice_get slots (slot_of scope (Some y))) val.Nil)) [
        | Ok o ↦ walk code tail (here + 1) 0 (unwrap_or (slice_get slots (slot_of scope (Some y))) val.Nil ∷ stack)
            (work r (relabel true Frozen (work r store slots managers input) (region_of o.label))
            (slice_set slots (slot_of scope (Some y)) val.Nil) managers input)
        | Err t ↦ Traps t
      ]) Stuck need
      (region_ends put (Some y) tail (here + 1) stack store slots locals managers input
      (option_map (frozen classes (state r store locals managers input items))) (relabel true Frozen (work r store slots managers input))
      (λ g. relabelled (beneath classes store (length managers) (g ∷ [])) Frozen store)
      (λ g. refl) (λ g. owes.1 (length managers) g Frozen)
      (λ g. keeps_relabelled old store (beneath classes store (length managers) (g ∷ [])) Frozen m.keeps) m owes.0 go)
  right_ends target put (merge y) tail here stack store slots locals managers input round opens m owes need go =
      if_ends classes code r.output (with_right classes (state r store locals managers input items) target put (merge y))
      (needs code (i.Merge (slot_of scope (Some y))) stack (work r store slots managers input).machine)
      (elim (object_at store (unwrap_or (slice_get slots (slot_of scope (Some y))) val.Nil)) [
        | Ok o ↦ walk code tail (here + 1) 0 (unwrap_or (slice_get slots (slot_of scope (Some y))) val.Nil ∷ stack)
            (work r (relabel false (Region (top_region r.windows)) (work r store slots managers input) (region_of o.label))
            (slice_set slots (slot_of scope (Some y)) val.Nil) managers input)
        | Err t ↦ Traps t
      ]) Stuck need
      (region_ends put (Some y) tail (here + 1) stack store slots locals managers input
      (option_map (merged (state r store locals managers input items)))
      (relabel false (Region (top_region r.windows)) (work r store slots managers input))
      (λ g. relabelled (g ∷ []) (Region (active r.opened)) store)
      (λ g. refl) (λ g. ap (λ k. relabelled (g ∷ []) (Region k) store) (same_region _ r.windows r.opened round.windows))
      (λ g. keeps_relabelled old store (g ∷ []) (Region (active r.opened)) m.keeps) m owes go)
  right_ends target put read tail here stack store slots locals managers input round opens m owes need go =
      read_ends put (next_number input) tail (here + 1) stack store slots locals managers input m go
  right_ends target put more tail here stack store slots locals managers input round opens m owes need go =
      go store slots locals managers input (val.Bool (is_left (next_number input))) m refl
  right_ends target put (result_of c) tail here stack store slots locals managers input round opens m owes need go = absurd owes

-- what comes last where an object is made
pub walk-pace : (classes : List Class) (code : Code) (right : Right) (rest : List Op) (here : ℕ) (w : Work)
    → walk code (pace_code right ++ rest) here 0 [] w ≡ walk code rest (here + length (pace_code right)) 0 [] w
walk-pace classes code (value e) rest here w = let e : here ≡ here + 0 = omega arith in ap (λ n. walk code rest n 0 [] w) e
walk-pace classes code (new x many) rest here w = refl
walk-pace classes code _ rest here w = let e : here ≡ here + 0 = omega arith in ap (λ n. walk code rest n 0 [] w) e
