-- A program without the lines that no mark has asks the pacers at the same steps.
use Rattle.std.proofs.Common.{◌≡◌, refl, sym, ap, ◌∙◌, ℕ, zero, suc, ◌+◌, Bool as Truth, false, ◌&&◌, List, [], ◌∷◌, Option, Some, None, is_some}
use Rattle.std.proofs.Common.{option_map, option_and_then, unwrap_or}
use Rattle.rg_base.specs.declared.words.Manager.{Manager}
use Rattle.rg_tree.specs.Tree.{Name, Right, stmt, Class, Tree}
use Rattle.rg_rules.specs.Types.{class_named}
use Rattle.rg_rules.specs.Items.{Item, Do}
use Rattle.rg_rules.specs.Rights.{right_of, right_made}
use Rattle.rg_rules.specs.State.{State}
use Rattle.rg_rules.specs.Steps.{Stepped, Went, Trapped, step_item}
use Rattle.rg_rules.specs.Runs.{opening}
use Rattle.rg_rules.specs.Outside.Asks.{right_makes, item_makes, is_managed, asks_then, asks_after, asks_on, asks_from, asks}
use Rattle.rg_lines.specs.Unlined.{class_unlined, classes_unlined, unlined, SameButLines}
use Rattle.rg_lines.proofs.Types.{class_named-unlined}
use Rattle.rg_lines.proofs.Plain.{step_item-unlined}

there_by : (o : Option Class) → is_some (option_map class_unlined o) ≡ is_some o
there_by None = refl
there_by (Some c) = refl

makes_by : (cs : List Class) (o : Option Name) →
    is_some (option_and_then (class_named (classes_unlined cs)) o) ≡ is_some (option_and_then (class_named cs) o)
makes_by cs None = refl
makes_by cs (Some x) = ap is_some (class_named-unlined cs x) ∙ there_by (class_named cs x)

kind_by : (cs : List Class) (o : Option Right) →
    unwrap_or (option_map (right_makes (classes_unlined cs)) o) false ≡ unwrap_or (option_map (right_makes cs) o) false
kind_by cs None = refl
kind_by cs (Some r) = makes_by cs (right_made r)

pub item_makes-unlined : (cs : List Class) (i : Item) → item_makes (classes_unlined cs) i ≡ item_makes cs i
item_makes-unlined cs (Do (stmt line k)) = kind_by cs (right_of k)
item_makes-unlined cs _ = refl

after_by : (asking : Truth) (n : ℕ) (d : Stepped) (go to : State → List ℕ) → ((t : State) → go t ≡ to t) →
    asks_after asking n d go ≡ asks_after asking n d to
after_by asking n (Went t) go to h = ap (asks_then asking n) (h t)
after_by asking n (Trapped kind line) go to h = refl

asks_by : (cs : List Class) (m : Manager) (n : ℕ) (s : State) (its : List Item) (go to : State → List ℕ) → ((t : State) → go t ≡ to t) →
    asks_on (classes_unlined cs) m n s its go ≡ asks_on cs m n s its to
asks_by cs m n s [] go to h = refl
asks_by cs m n s (i ∷ rest) go to h =
    ap (λ b. asks_after (b && is_managed m s) n (step_item (classes_unlined cs) (record s { items = rest }) i) go) (item_makes-unlined cs i)
    ∙ (ap (λ d. asks_after (item_makes cs i && is_managed m s) n d go) (step_item-unlined cs (record s { items = rest }) i)
    ∙ after_by (item_makes cs i && is_managed m s) n (step_item cs (record s { items = rest }) i) go to h)

asks_from-unlined : (cs : List Class) (m : Manager) (k n : ℕ) (s : State) → asks_from (classes_unlined cs) m k n s ≡ asks_from cs m k n s
unfolding asks_from
asks_from-unlined cs m zero n s = refl
asks_from-unlined cs m (suc k) n s =
    asks_by cs m n s s.items (asks_from (classes_unlined cs) m k (n + 1)) (asks_from cs m k (n + 1)) (λ t. asks_from-unlined cs m k (n + 1) t)

asks-unlined : (t : Tree) (input : List ℕ) (n : ℕ) (m : Manager) → asks (unlined t) input n m ≡ asks t input n m
asks-unlined t input n m = asks_from-unlined t.classes m n 1 (opening t input)

pub same-asks : (t u : Tree) → SameButLines t u → (input : List ℕ) (n : ℕ) (m : Manager) → asks t input n m ≡ asks u input n m
same-asks t u h input n m = sym (asks-unlined t input n m) ∙ (ap (λ v. asks v input n m) h ∙ asks-unlined u input n m)
