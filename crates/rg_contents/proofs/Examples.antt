-- Contents that may be owned, and a behaviour that may begin on one.
use Rattle.std.proofs.Common.{◌≡◌, refl, ap, sym, ◌∙◌, ℕ, [], ◌∷◌, None, pos, false, codes, unwrap_or}
use Rattle.rg_base.specs.declared.words.Cap.TheVariants.{Mut, Iso}
use Rattle.rg_base.specs.declared.words.Manager.TheVariants.{Arena}
use Rattle.rg_base.specs.declared.ty.Ty.{Ty}
use Rattle.rg_base.specs.declared.ty.Ty.TheVariants.{Int, Bool, Ref}
use Rattle.rg_base.specs.declared.object.Label.TheVariants.{Region}
use Rattle.rg_base.specs.declared.value.Val.TheVariants as val
use Rattle.rg_tree.specs.Tree.{int, Method, stmt, collect, empty as none, then as next, Tree}
use Rattle.rg_rules.specs.Types.{fields_of}
use Rattle.rg_rules.proofs.Sources.{to, field_named, method_named, class_named}
use Rattle.rg_cown.specs.Cargo.{CargoList}
use Rattle.rg_opening.specs.Beginning.{MayOwn}
use Rattle.rg_plan.specs.Plans.{Turn as Behaviour}
use Rattle.rg_sched_atomic.specs.Contents.{Empty, Held, contents_at, givens}
use Rattle.rg_contents.specs.Rest.{IsReady}

-- class N { v: int; def mut get() { } }
-- class A { n: iso N; def mut m() { collect; } }
-- main arena { }
abbrev tree : Tree
tree = record {
  classes = class_named "N" false (field_named "v" int ∷ method_named Mut "get" [] None [] ∷ [])
      ∷ class_named "A" false (field_named "n" (to Iso "N") ∷ method_named Mut "m" [] None (collect ∷ []) ∷ []) ∷ [];
  manager = Arena;
  line = 1;
  body = none;
}

-- an N with 2, in an arena
abbrev small : CargoList
small = record { cells = record { class = 0; label = Region 0; fields = val.Int (pos 2) ∷ [] } ∷ []; managers = Arena ∷ [] }

owned-example : MayOwn tree (Ref Iso 0) small
owned-example = record { class = 0; owns = refl; bridge = refl; sound = refl; typed = refl }

abbrev class_in : Ty → ℕ
class_in Int = 0
class_in Bool = 0
class_in (Ref cap class) = class

-- a field `iso A` may not own it
not-owned : MayOwn tree (Ref Iso 1) small → ⊥
not-owned m = let one : ◌≡◌ {A = ℕ} 0 1 = ap (λ o. unwrap_or o m.class) m.bridge ∙ sym (ap class_in m.owns) in absurd cc

-- `when A.m 0`: the method is the second one of the program
abbrev behaviour : Behaviour
behaviour = record { class = 1; method = 1; name = codes "A.m"; cowns = 0 ∷ [] }

abbrev collects : Method
collects = record { receiver = Mut; name = codes "m"; params = []; result = None; body = next (stmt 1 collect) none; line = 1 }

-- it may begin on a cown that has the N, and on an empty one
ready-example : IsReady tree behaviour (givens (fields_of tree.classes 1) (contents_at (Held small ∷ []) (0 ∷ [])))
ready-example = record {
  method = collects;
  method_is = refl;
  may = record {
    no_statement = refl;
    name = codes "m";
    method_is = refl;
    receiver = refl;
    no_parameter = refl;
    no_result = refl;
    fields = (owned-example, tt);
  };
  number = refl;
}

ready-empty : IsReady tree behaviour (givens (fields_of tree.classes 1) (contents_at (Empty ∷ []) (0 ∷ [])))
ready-empty = record {
  method = collects;
  method_is = refl;
  may = record {
    no_statement = refl;
    name = codes "m";
    method_is = refl;
    receiver = refl;
    no_parameter = refl;
    no_result = refl;
    fields = (refl, tt);
  };
  number = refl;
}
