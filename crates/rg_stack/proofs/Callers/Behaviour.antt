-- A method on which a behaviour begins, in the code: its entry, what lies there, and the opening of its class. For callers.
use Rattle.std.proofs.Common.{◌≡◌, ℕ, ◌≤◌, true, List, [], ◌∷◌, ◌++◌, map, find, filter_map, Option, Some, None, refl, sym, ap, subst, ◌∙◌, arith}
use Rattle.std.proofs.Common.{slice_get}
use Rattle.std.specs.Prelude.{bytes_eq}
use Rattle.std.proofs.lemmas.Option.{none-some}
use Rattle.rg_base.specs.declared.ty.Ty.TheVariants.{Ref}
use Rattle.rg_base.specs.declared.value.Word.{Word}
use Rattle.rg_base.specs.declared.words.Cap.TheVariants.{Mut}
use Rattle.rg_tree.specs.Tree.{Name, Ty as Written, Field, Method, Block, empty as none, Class, Tree}
use Rattle.rg_rules.specs.Acceptance.{Accepted}
use Rattle.rg_rules.specs.Items.{EndAt, Back, items_of}
use Rattle.rg_rules.specs.RightSides.{opening_value}
use Rattle.rg_rules.specs.State.{Drops}
use Rattle.rg_rules.specs.Types.{field_member, method_member, members_of, fields_of, method_named}
use Rattle.rg_sound.proofs.Values.Declared.{array-class}
use Rattle.rg_code.specs.declared.code.Entry.{Entry}
use Rattle.rg_code.specs.declared.op.Op.{Op}
use Rattle.rg_code.specs.Lowering.{Scope, with_slot, with_params, method_scope, block_code, method_end_code, method_code, method_number, slots_of}
use Rattle.rg_code.specs.Lowering.{number_called, main_code, methods_code, lowered, opening_of, opening_words}
use Rattle.rg_code.specs.Places.{StandsIn, Level, Lies}
use Rattle.std.specs.Prelude.{length}
use Rattle.rg_stack.specs.Machine.{value_of_word}
use Rattle.rg_stack.specs.Needs.{leads_nowhere}
use Rattle.rg_stack.proofs.Walks.Place.{stands-of}
use Rattle.rg_stack.proofs.Statements.Call.{BodyFits, lies_method}
use Rattle.rg_stack.proofs.Statements.Right.{words_values, words_at, plain_words}
use Rattle.rg_stack.proofs.Judgements.Owes.{callee_of, roomy_of}
use Rattle.rg_stack.proofs.Judgements.Statement.{body-fits}
use Rattle.rg_stack.proofs.Callers.Opening.{main_lies}

-- the words with which the fields of a class start
pub record OpensWith (t : Tree) (class : ℕ) : Type 0 where
  pub words : List Word
  pub there : slice_get (lowered t).openings class ≡ Some words
  pub values : map value_of_word words ≡ map (λ (f : Field). opening_value f.ty) (fields_of t.classes class)
  pub plain : leads_nowhere words ≡ true

abbrev among : Name → Option Class → Option Method
among x o = find (λ (m : Method). bytes_eq m.name x) (filter_map method_member (members_of o))

class-there : (o : Option Class) (x : Name) (m : Method) → among x o ≡ Some m → (k : Class) × (o ≡ Some k)
class-there None x m e = absurd (none-some m e)
class-there (Some k) x m e = (k, refl)

-- so it is with one that has a method, which isn't an array class
pub opens-with : (t : Tree) → Accepted t → (class : ℕ) (x : Name) (m : Method) → method_named t.classes class x ≡ Some m → OpensWith t class
opens-with t accepted class x m named = let k = class-there (slice_get t.classes class) x m named in by k.0 k.1 k.0.element refl
  where
    by : (k : Class) → slice_get t.classes class ≡ Some k → (e : Option Written) → k.element ≡ e → OpensWith t class
    by k there (Some w) e =
        let no_method : among x (Some k) ≡ None =
        ap (λ ms. find (λ (m : Method). bytes_eq m.name x) (filter_map method_member ms)) (array-class t accepted class k there w e).members in
        absurd (none-some m (sym no_method ∙ (ap (among x) (sym there) ∙ named)))
    by k there None e = record {
      words = opening_words k.members;
      there = words_at t.classes class k there ∙ ap (λ e. Some (opening_of e k.members)) e;
      values = words_values k.members
          ∙ ap (λ (o : Option Class). map (λ (f : Field). opening_value f.ty) (filter_map field_member (members_of o))) (sym there);
      plain = plain_words k.members;
    }

-- the variables in front of a method without parameters
abbrev pub own_scope : (class : ℕ) → Scope
own_scope class = record { name = None; ty = Ref Mut class } ∷ []

-- the method's frame, and main's beneath it
abbrev pub own_level : (class slots : ℕ) → Level
own_level class n = record { scope = own_scope class; slots = n; target = Drops; back = 0 }

abbrev pub main_level : (slots : ℕ) → Level
main_level n = record { scope = []; slots = n; target = Drops; back = 0 }

-- the entry of a method: its body lies there, behind which main's end lies
pub record Enters (t : Tree) (class number : ℕ) (m : Method) : Type 0 where
  pub entry : Entry
  pub there : slice_get (lowered t).entries number ≡ Some entry
  pub lies : (slots : ℕ) → entry.slots ≤ slots
      → Lies t.classes (lowered t).ops (own_level class slots ∷ main_level (lowered t).main_slots ∷ []) (items_of m.body (Back ∷ EndAt 0 ∷ [])) entry.at

-- where main has nothing to do, its end lies at 0
main-end : (t : Tree) → Accepted t → t.body ≡ none
    → Lies t.classes (lowered t).ops (main_level (lowered t).main_slots ∷ []) (EndAt 0 ∷ []) 0
main-end t accepted bare =
    let main = main_code t in
    let slots = slots_of 0 main in
    let rest = (methods_code t.classes (length main) 0 t.classes).ops in
    let l = main_level slots in
    let stands : StandsIn (lowered t).ops l 0 main = (stands-of (lowered t).ops 0 main rest refl, roomy_of 0 slots main (omega arith)) in
    subst (λ (b : Block). Lies t.classes (lowered t).ops (l ∷ []) (items_of b (EndAt 0 ∷ [])) 0) bare (main_lies t accepted l refl stands)

pub enters : (t : Tree) → Accepted t → t.body ≡ none → (class : ℕ) (x : Name) (m : Method) → method_named t.classes class x ≡ Some m
    → m.receiver ≡ Mut → m.params ≡ [] → m.result ≡ None → Enters t class (method_number t.classes class x) m
enters t accepted bare class x m named receiver params void =
    let callee = callee_of t (EndAt 0) [] class x m named (body-fits t accepted class x m named) in
    let number : number_called t.classes class x ≡ method_number t.classes class x =
    ap (λ (o : Option Method). elim o [ None ↦ 0 | Some k ↦ method_number t.classes class x ]) named in
    let e : Entry = callee.0 in
    let scope : method_scope t.classes class m ≡ own_scope class =
    ap (λ r. with_params t.classes (with_slot [] None (Ref r class)) m.params) receiver
    ∙ ap (with_params t.classes (with_slot [] None (Ref Mut class))) params in
    let code : method_code t.classes e.at class m
    ≡ block_code t.classes (own_scope class) e.at m.body ++ method_end_code m.line None =
    ap (λ s. block_code t.classes s e.at m.body ++ method_end_code m.line m.result) scope
    ∙ ap (λ (r : Option Written). block_code t.classes (own_scope class) e.at m.body ++ method_end_code m.line r) void in
    record {
      entry = e;
      there = ap (slice_get (lowered t).entries) (sym number) ∙ callee.1;
      lies = λ n enough.
          lies_method t.classes (lowered t) (EndAt 0) [] None m.line m.body (own_level class n) (main_level (lowered t).main_slots ∷ []) e.at
          (subst (λ (ops : List Op). StandsIn (lowered t).ops (own_level class n) e.at ops) code (callee.2.stands, callee.2.room n enough))
          (subst (λ (r : Option Written). BodyFits r m.body) void callee.2.fits)
          (refl, main-end t accepted bare);
    }
