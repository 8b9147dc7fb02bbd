-- What the code of a program has for a behaviour that may begin.
use Rattle.std.proofs.Common.{◌≡◌, ℕ, zero, suc, ◌<◌, true, List, [], ◌∷◌, map, length, slice_get, refl, sym, ap, ◌∙◌, subst}
use Rattle.std.proofs.lemmas.Option.{none-some, same_Some, slice_get_within}
use Rattle.rg_base.specs.declared.words.Cap.TheVariants.{Iso}
use Rattle.rg_base.specs.declared.ty.Ty.TheVariants.{Ref}
use Rattle.rg_base.specs.declared.value.Val.TheVariants.{Nil, Obj}
use Rattle.rg_base.specs.declared.value.Word.{Word}
use Rattle.rg_base.specs.declared.value.Word.TheVariants as word
use Rattle.rg_tree.specs.Tree.{Ty as Written, int, bool, ref, Field, Method, Class, Tree}
use Rattle.rg_rules.specs.Types.{type_of, fields_of}
use Rattle.rg_rules.specs.RightSides.{opening_value}
use Rattle.rg_code.specs.Code.{Code}
use Rattle.rg_heap.specs.Changes.{LeadsNowhere}
use Rattle.rg_stack.specs.Needs.{leads_nowhere}
use Rattle.rg_stack.proofs.Callers.Behaviour.{opens-with, Enters, enters}
use Rattle.rg_opening.specs.declared.given.Given.{Given}
use Rattle.rg_opening.specs.declared.given.Given.TheVariants.{Start, Held}
use Rattle.rg_opening.specs.Beginning.{FieldsBegin}
use Rattle.rg_begin.specs.Starts.{Starts, MayStart}
use Rattle.rg_begin.specs.Inner.First.{Opens}
use Rattle.rg_begin.specs.Inner.Laid.{start_value, MayCome, AllMayCome}

-- a field that begins with a content begins with nil in a new object
owner-opens : (classes : List Class) (w : Written) (class : ℕ) → type_of classes w ≡ Ref Iso class → Nil ≡ opening_value w
owner-opens classes int class e = absurd cc
owner-opens classes bool class e = absurd cc
owner-opens classes (ref cap x) class e = refl

pub start-values : (t : Tree) (fs : List Field) (gs : List Given) → FieldsBegin t fs gs
    → map start_value gs ≡ map (λ (f : Field). opening_value f.ty) fs
start-values t [] [] h = refl
start-values t [] (g ∷ gs) h = absurd h
start-values t (f ∷ fs) [] h = absurd h
start-values t (f ∷ fs) (Start v ∷ gs) h =
    ap (λ x. x ∷ map start_value gs) h.0 ∙ ap (λ xs. opening_value f.ty ∷ xs) (start-values t fs gs h.1)
start-values t (f ∷ fs) (Held c ∷ gs) h =
    ap (λ x. x ∷ map start_value gs) (owner-opens t.classes f.ty h.0.class h.0.owns)
    ∙ ap (λ xs. opening_value f.ty ∷ xs) (start-values t fs gs h.1)

never-leads : (w : Written) (a : ℕ) → opening_value w ≡ Obj a → ⊥
never-leads int a e = cc
never-leads bool a e = cc
never-leads (ref cap x) a e = cc

-- what fields begin with may come
pub fields-may : (t : Tree) (fs : List Field) (gs : List Given) → FieldsBegin t fs gs → AllMayCome gs
fields-may t fs [] h k g e = absurd (none-some g e)
fields-may t [] (g ∷ gs) h k x e = absurd h
fields-may t (f ∷ fs) (Start v ∷ gs) h zero g e =
    let P : Given → Type 0 = MayCome in
    subst P (same_Some (Start v) g e) (λ a is. never-leads f.ty a (sym h.0 ∙ is))
fields-may t (f ∷ fs) (Held c ∷ gs) h zero g e =
    let P : Given → Type 0 = MayCome in
    subst P (same_Some (Held c) g e) h.0.sound
fields-may t (f ∷ fs) (Start v ∷ gs) h (suc k) g e = fields-may t fs gs h.1 k g e
fields-may t (f ∷ fs) (Held c ∷ gs) h (suc k) g e = fields-may t fs gs h.1 k g e

pub may-come : (code : Code) (class method : ℕ) (given : List Given) → MayStart code class method given → AllMayCome given
may-come code class method given h = fields-may h.0 (fields_of h.0.classes class) given h.2.may.fields

nowhere : (ws : List Word) → leads_nowhere ws ≡ true → LeadsNowhere ws
nowhere [] h k s e = none-some (word.Slot s) e
nowhere (word.Nil ∷ ws) h zero s e = let f : word.Nil ≡ word.Slot s = same_Some word.Nil (word.Slot s) e in absurd cc
nowhere (word.Nil ∷ ws) h (suc k) s e = nowhere ws h k s e
nowhere (word.Int z ∷ ws) h zero s e = let f : word.Int z ≡ word.Slot s = same_Some (word.Int z) (word.Slot s) e in absurd cc
nowhere (word.Int z ∷ ws) h (suc k) s e = nowhere ws h k s e
nowhere (word.Bool b ∷ ws) h zero s e = let f : word.Bool b ≡ word.Slot s = same_Some (word.Bool b) (word.Slot s) e in absurd cc
nowhere (word.Bool b ∷ ws) h (suc k) s e = nowhere ws h k s e
nowhere (word.Slot x ∷ ws) h k s e = absurd cc

-- the opening of the class
pub class-opens : (code : Code) (class method : ℕ) (given : List Given) → MayStart code class method given → Opens code class given
class-opens code class method given h =
    let t : Tree = h.0 in
    let s = h.2 in
    let o = opens-with t s.accepted class s.may.name h.1 s.may.method_is in
    record {
      words = o.words;
      there = ap (λ (c : Code). slice_get c.openings class) s.lowers ∙ o.there;
      plain = nowhere o.words o.plain;
      values = o.values ∙ sym (start-values t (fields_of t.classes class) given s.may.fields);
    }

-- the method's entry, and what lies there
pub starts-enters : (t : Tree) (code : Code) (class method : ℕ) (m : Method) (given : List Given) → Starts t code class method m given
    → Enters t class method m
starts-enters t code class method m given s =
    let b = s.may in
    subst (λ n. Enters t class n m) s.number
    (enters t s.accepted b.no_statement class b.name m b.method_is b.receiver b.no_parameter b.no_result)

pub method-there : (code : Code) (class method : ℕ) (given : List Given) → MayStart code class method given → method < length code.entries
method-there code class method given h =
    let e = starts-enters h.0 code class method h.1 given h.2 in
    slice_get_within code.entries method e.entry (ap (λ (c : Code). slice_get c.entries method) h.2.lowers ∙ e.there)
