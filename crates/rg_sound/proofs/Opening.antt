-- The opening state fits.
use Rattle.std.proofs.Common.{◌≡◌, refl, sym, ◌∙◌, ap, ℕ, zero, suc, List, [], ◌∷◌, Some, None, slice_get, inl, arith}
use Rattle.std.proofs.lemmas.List.{append-nil}
use Rattle.rg_base.specs.declared.object.Place.{Place}
use Rattle.rg_base.specs.declared.object.Place.TheVariants.{Var, Field}
use Rattle.rg_tree.specs.Tree.{Class, Tree, Block, empty as none, then as next}
use Rattle.rg_rules.specs.Environment.{empty}
use Rattle.rg_rules.specs.Items.{Item, Do, EndAt, items_of}
use Rattle.rg_rules.specs.Bodies.{main_body}
use Rattle.rg_rules.specs.Points.{here, Spot}
use Rattle.rg_rules.specs.State.{Drops, Frame, Window}
use Rattle.rg_rules.specs.Owners.{leads_into, Above, direct, further}
use Rattle.rg_rules.specs.Runs.{opening}
use Rattle.rg_sound.specs.Windows.{lowest}
use Rattle.rg_sound.specs.Frames.{Stands}
use Rattle.rg_sound.specs.OpenRegions.{OneWindowEach}
use Rattle.rg_sound.specs.Bridges.{BridgesFit}
use Rattle.rg_sound.specs.Numbers.{WindowGiven}
use Rattle.rg_base.specs.declared.object.Seen.{Seen}
use Rattle.std.proofs.lemmas.Option.{same_Some}
use Rattle.rg_sound.specs.Fit.{Fit}
use Rattle.rg_sound.proofs.Basics.{none-some}
use Rattle.rg_sound.proofs.Frames.Spot.{leaves-items_of}

-- nothing owns a region
no_owner : (t : Tree) (input : List ℕ) (p : Place) → leads_into t.classes [] (opening t input).frames p ≡ None
no_owner t input (Var zero i) = refl
no_owner t input (Var (suc n) i) = refl
no_owner t input (Field a k) = refl

-- no region is above another
no_parent : (t : Tree) (input : List ℕ) (p r : ℕ) → ¬ Above t.classes [] p r
no_parent t input p r (direct h) = none-some h.lies
no_parent t input p r (further a h) = none-some h.lies

-- one window differs from no other
one_window : (w : Window) → OneWindowEach (w ∷ [])
one_window w zero zero u v a b c = refl
one_window w zero (suc j) u v a b c = none-some b
one_window w (suc i) j u v a b c = none-some a

-- the lowest window's numbers were given
given : (i : ℕ) (w : Window) → slice_get (lowest None 0 ∷ []) i ≡ Some w → WindowGiven 1 1 w
given zero w e = let same : lowest None 0 ≡ w = grind arith in rw (← same) (record { region = omega arith; number = omega arith })
given (suc i) w e = none-some e

-- in front of main's body
start : Tree → Spot
start t = record { env = empty; items = items_of t.body (EndAt 0 ∷ []); enters = [] }

-- main's frame stands there
stands : (t : Tree) → Stands (record { locals = []; target = Drops }) 0 [] (start t)
unfolding start
stands t = record {
  named = tt;
  entered = tt;
  bases = sym (leaves-items_of t.body (EndAt 0 ∷ []));
  depths = λ i e h. none-some h;
  lent_are = λ i e h. none-some h;
}

-- a block in front of an item begins with an item
begins : (b : Block) (i : Item) (rest : List Item) → (first : Item) × (more : List Item) × (items_of b (i ∷ rest) ≡ first ∷ more)
begins none i rest = (i, rest, refl)
begins (next s b) i rest = (Do s, items_of b (i ∷ rest), refl)

-- the lowest window has no owner
no-bridge : {classes : List Class} {store : List Seen} {frames : List Frame} → BridgesFit classes store frames (lowest None 0 ∷ [])
no-bridge zero w p at named = let same : lowest None 0 ≡ w = same_Some (lowest None 0) w at in none-some (ap (λ (q : Window). q.owner) same ∙ named)
no-bridge (suc i) w p at named = none-some at

-- the opening state of each program fits
pub opening-fits : (t : Tree) (input : List ℕ) → Fit t (opening t input)
unfolding start
opening-fits t input = record {
  frames = inl (record {
    body = main_body t;
    own = [];
    under = lowest None 0 ∷ [];
    windows_are = refl;
    point = here;
    spot = start t;
    spot_is = refl;
    stands = stands t;
    first = (begins t.body (EndAt 0) []).0;
    more = (begins t.body (EndAt 0) []).1;
    begins = (begins t.body (EndAt 0) []).2;
    rest = [];
    items_are = (begins t.body (EndAt 0) []).2 ∙ sym (append-nil _);
    beneath = (refl, refl, (None, 0, refl), refl);
  });
  values = (λ i l e. none-some e, tt);
  objects = λ a o e. none-some e;
  opened = record { owned = (refl, refl); one_each = one_window (lowest None 0) };
  bridges = no-bridge;
  forest = record {
    one_owner = λ p q r e d. none-some (sym (no_owner t input p) ∙ e);
    none_into_first = λ p e. none-some (sym (no_owner t input p) ∙ e);
    no_cycle = λ r h. no_parent t input r r h;
  };
  numbers = record {
    labels = λ a o e. none-some e;
    given = given;
    rising = tt;
  };
}
