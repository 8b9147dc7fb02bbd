-- The machine with which a behaviour begins shows the state in which it begins. For callers.
use Rattle.std.proofs.Common.{◌≡◌, ℕ, ◌+◌, ◌-◌, List, [], ◌∷◌, length, replicate, Some, slice_get, refl, sym, ap, ◌∙◌, subst, arith}
use Rattle.std.proofs.lemmas.List.{length-replicate}
use Rattle.std.proofs.lemmas.Option.{same_Some}
use Rattle.rg_base.specs.declared.value.Val.TheVariants as val
use Rattle.rg_tree.specs.Tree.{Method, Block, Tree, empty as none, then as next}
use Rattle.rg_rules.specs.Items.{EndAt, Back, items_of}
use Rattle.rg_code.specs.Code.{Code}
use Rattle.rg_code.specs.Lowering.{lowered}
use Rattle.rg_code.specs.Places.{Lies}
use Rattle.rg_code.specs.declared.code.Entry.{Entry}
use Rattle.rg_sound.specs.Fit.{Fit}
use Rattle.rg_sound.proofs.Held.{fit-holds}
use Rattle.rg_stack.specs.Left.{SomeLeft}
use Rattle.rg_stack.specs.Machine.{Machine}
use Rattle.rg_stack.specs.Shows.{Shows}
use Rattle.rg_stack.proofs.Callers.Behaviour.{Enters, own_level, main_level}
use Rattle.rg_held.specs.Shown.{ShowsHeld}
use Rattle.rg_opening.specs.declared.given.Given.{Given}
use Rattle.rg_opening.specs.Laws.{OpeningFits}
use Rattle.rg_opening.specs.Opening.{opening_of}
use Rattle.rg_begin.specs.Inner.Shown.{begun_machine}
use Rattle.rg_begin.specs.Starts.{Starts}
use Rattle.rg_begin.proofs.Beside.{held, begun-part}
use Rattle.rg_begin.proofs.Starting.{fields-may, starts-enters}
use Rattle.rg_rules.specs.Types.{fields_of}

-- something is left to do
pub some-left : (m : Method) → SomeLeft (items_of m.body (Back ∷ EndAt 0 ∷ []))
some-left m = by m.body
  where
    by : (b : Block) → SomeLeft (items_of b (Back ∷ EndAt 0 ∷ []))
    by none = tt
    by (next s b) = tt

module _ (t : Tree) (class method : ℕ) (m : Method) (given : List Given) (fit : Fit t (opening_of class m given)) (e : Enters t class method m) where
  shows : Shows t.classes (lowered t) (begun_machine (lowered t).main_slots e.entry class given) (opening_of class m given)
  shows =
      let n = (lowered t).main_slots in
      let k = e.entry.slots - 1 in
      let held = fit-holds t (opening_of class m given) fit in
      let many : length (replicate k val.Nil) ≡ k = length-replicate k val.Nil in
      let size : length (replicate n val.Nil) ≡ n = length-replicate n val.Nil in
      let own : length (val.Obj 0 ∷ replicate k val.Nil) ≡ k + 1 = omega (arith, many) in
      let front : k ≡ length (val.Obj 0 ∷ replicate k val.Nil) - 1 = omega (arith, many) in
      let main : n ≡ length (replicate n val.Nil) - 0 = omega (arith, size) in
      record {
        slots = (ap (λ i. val.Obj 0 ∷ replicate i val.Nil) front, (ap (λ i. replicate i val.Nil) main, tt));
        windows = (record { number = refl; region = refl; owner = refl; base = refl }, tt);
        places = subst (λ i. Lies t.classes (lowered t).ops (own_level class (length (val.Obj 0 ∷ replicate k val.Nil)) ∷ main_level i ∷ [])
            (items_of m.body (Back ∷ EndAt 0 ∷ [])) e.entry.at) (sym size)
            (e.lies (length (val.Obj 0 ∷ replicate k val.Nil)) (omega (arith, own)));
        windows_made = refl;
        managers = refl;
        store = refl;
        none_stale = held.none_stale;
        live_regions = held.live_regions;
      }

-- the machine, written out, shows all that it holds of the state in which the behaviour begins
pub begun-shows : OpeningFits → (t : Tree) (code : Code) (class method : ℕ) (m : Method) (given : List Given) (x : Machine) (e : Entry)
    → Starts t code class method m given → slice_get code.entries method ≡ Some e → x ≡ begun_machine code.main_slots e class given
    → Fit t (opening_of class m given) × ShowsHeld t.classes code x (opening_of class m given)
begun-shows fits t code class method m given x e s at is =
    let fit = fits t class m given s.accepted s.may in
    let b = starts-enters t code class method m given s in
    let there : slice_get code.entries method ≡ Some b.entry = ap (λ (c : Code). slice_get c.entries method) s.lowers ∙ b.there in
    let entry : e ≡ b.entry = same_Some e b.entry (sym at ∙ there) in
    let same : x ≡ begun_machine (lowered t).main_slots b.entry class given =
    is ∙ ap (λ (c : Code). begun_machine c.main_slots e class given) s.lowers
    ∙ ap (λ (y : Entry). begun_machine (lowered t).main_slots y class given) entry in
    let may = fields-may t (fields_of t.classes class) given s.may.fields in
    let shown : ShowsHeld t.classes (lowered t) (begun_machine (lowered t).main_slots b.entry class given) (opening_of class m given) = record {
      grown = begun_machine (lowered t).main_slots b.entry class given;
      held = held (lowered t).main_slots b.entry class given may;
      shows = shows t class method m given fit b;
      beside = begun-part (lowered t).main_slots b.entry class given may t m fit;
    } in (
      fit,
      subst (λ (c : Code). ShowsHeld t.classes c x (opening_of class m given)) (sym s.lowers)
          (subst (λ (y : Machine). ShowsHeld t.classes (lowered t) y (opening_of class m given)) (sym same) shown),
    )
