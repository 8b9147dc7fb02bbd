-- What a stack of rows stands for, and what calls make of it.
use Rattle.std.specs.Prelude.{◌≡◌, ℕ, Bool as Truth, false, true, List, [], ◌∷◌, ◌++◌, map, Option, Some, None, Result, Ok, Err, Vec}
use Rattle.std.specs.declared.alloc.Global.{Global}
use Rattle.rg_tree.specs.Rows.Tables.{Tables}
use Rattle.rg_tree.specs.Adds.{Extends}
use Rattle.rg_tree.specs.declared.rows.Path as row
use Rattle.rg_verify_expressions.specs.declared.front.FrontRow.{FrontRow}
use Rattle.rg_verify_expressions.specs.declared.front.FrontRow.TheVariants as front
use Rattle.rg_verify_expressions.specs.declared.held.Held.{Held}
use Rattle.rg_verify_expressions.specs.declared.held.Held.TheVariants as held
use Rattle.rg_verify_expressions.specs.declared.held.Wait.{Wait}
use Rattle.rg_verify_expressions.specs.declared.refusal.Refusal.{Refusal}
use Rattle.rg_verify_expressions.specs.declared.refusal.Refusal.TheVariants as refusal
use Rattle.rg_verify_expressions.specs.Naming.{field_name}
use Rattle.rg_verify_expressions.specs.Raised.{Raised, Front, path, path_named, named}
use Rattle.rg_verify_expressions.specs.Raising.{Item, tree, checked, indexed, waits, settle, from_path, from_checked}
use Rattle.rg_verify_expressions.specs.Rows.{front_named, AreFronts}
use Rattle.rg_verify_expressions.specs.Rows.{AreNames, IsTree, IsPath}
use Rattle.rg_verify_expressions.specs.Inner.Adds.{AddsTree, AddsFront}

-- whether an expression is a path
abbrev pub is_path : Raised → Truth
is_path (path s ks) = true
is_path r = false

-- what is held stands for an item of a stack; a path isn't held by its row
abbrev pub IsFor : Tables → (in_method : Truth) → Held → Item → Type 0
IsFor t m (held.Path s ns) (tree r) = (ks : List ℕ) × (r ≡ path s ks) × AreNames t ns.items (map field_name ks)
IsFor t m (held.Tree n) (tree r) = IsTree t n (named m r) × (is_path r ≡ false)
IsFor t m (held.Checked p) (checked s ks) = IsPath t p (path_named m s ks)
IsFor t m (held.Indexed p n) (indexed s ks e) = IsPath t p (path_named m s ks) × IsTree t n (named m e)
IsFor t m (held.Waits w) (waits j a to) = (w.junction ≡ j) × (w.to ≡ to) × IsTree t w.left (named m a)
IsFor t m h x = ⊥

-- what is held, the topmost last, stands for a stack, whose topmost item is first
abbrev pub Piled : Tables → (in_method : Truth) → List Held → List Item → Type 0
Piled t m hs [] = hs ≡ []
Piled t m hs (x ∷ xs) = (below : List Held) × (h : Held) × (hs ≡ below ++ h ∷ []) × IsFor t m h x × Piled t m below xs

-- what is held stands for some item
abbrev pub IsItem : Tables → (in_method : Truth) → Held → Type 0
IsItem t m h = (x : Item) × IsFor t m h x

-- what is held stands for some stack
abbrev pub IsPiled : Tables → (in_method : Truth) → List Held → Type 0
IsPiled t m hs = (items : List Item) × Piled t m hs items

-- the tables have grown, and what is held stands for a stack
pub record Holds (old new : Tables) (m : Truth) (hs : List Held) (items : List Item) : Type 0 where
  pub extends : Extends old new
  pub piled : Piled new m hs items

-- what a call makes of a stack: what the definition does, or it is refused as that is
abbrev pub Makes : (old new : Tables) → Truth → List Held → Result (Unit {0}) Refusal → Option (List Item) → Type 0
Makes old new m hs (Ok done) (Some items) = Holds old new m hs items
Makes old new m hs (Ok done) None = ⊥
Makes old new m hs (Err refusal.NotRaised) wanted = wanted ≡ None
Makes old new m hs (Err refusal.Memory) wanted = Unit {0}

-- the rows that are made of an item, by the front that it is
abbrev pub MakesFront : (old new : Tables) → Truth → Option Front → Result FrontRow Refusal → Type 0
MakesFront old new m x (Err refusal.Memory) = Unit {0}
MakesFront old new m (Some f) (Ok r) = AddsFront old new r (front_named m f)
MakesFront old new m None (Ok r) = ⊥
MakesFront old new m (Some f) (Err refusal.NotRaised) = ⊥
MakesFront old new m None (Err refusal.NotRaised) = Unit {0}

-- the row that is made of an item, if it is a tree
abbrev pub MakesRow : (old new : Tables) → Truth → Item → Result ℕ Refusal → Type 0
MakesRow old new m (tree r) (Ok n) = AddsTree old new n (named m r)
MakesRow old new m (tree r) (Err refusal.NotRaised) = ⊥
MakesRow old new m x (Ok n) = ⊥
MakesRow old new m x (Err refusal.NotRaised) = Unit {0}
MakesRow old new m x (Err refusal.Memory) = Unit {0}

-- the row that is made of the topmost item, which is taken
abbrev pub TakesRow : (old new : Tables) → Truth → List Held → List Item → Result ℕ Refusal → Type 0
TakesRow old new m hs (tree r ∷ below) (Ok n) = AddsTree old new n (named m r) × Piled new m hs below
TakesRow old new m hs (tree r ∷ below) (Err refusal.NotRaised) = ⊥
TakesRow old new m hs items (Ok n) = ⊥
TakesRow old new m hs items (Err refusal.NotRaised) = Unit {0}
TakesRow old new m hs items (Err refusal.Memory) = Unit {0}

-- the left operand of a junction that is held
abbrev pub waiting : Held → Option Wait
waiting (held.Waits w) = Some w
waiting h = None

-- the left operand that is taken where it waits for this end; else the stack stays
abbrev pub TakesWait : Tables → (in_method : Truth) → (end : ℕ) → (old new : List Held) → List Item → Option Wait → Type 0
TakesWait t m end old new items None = (new ≡ old) × ((r : Raised) → settle end r items ≡ tree r ∷ items)
TakesWait t m end old new (waits j a to ∷ below) (Some w) = (w.junction ≡ j) × (to ≡ end) × IsTree t w.left (named m a) × Piled t m new below
TakesWait t m end old new items (Some w) = ⊥

-- one more is held, or there is no memory
abbrev pub Pushes : (old new : List Held) → Held → Result (Unit {0}) Refusal → Type 0
Pushes old new h (Ok done) = new ≡ old ++ h ∷ []
Pushes old new h (Err refusal.NotRaised) = ⊥
Pushes old new h (Err refusal.Memory) = Unit {0}

-- the stack and the address at which a walk stops
abbrev pub Walks : (old new : Tables) → (in_method : Truth) → (wanted : Option (List Item × ℕ)) → Result (Vec Held Global × ℕ) Refusal → Type 0
Walks old new m wanted (Ok x) = (items : List Item) × (wanted ≡ Some (items, x.1)) × Holds old new m x.0.items items
Walks old new m wanted (Err refusal.NotRaised) = wanted ≡ None
Walks old new m wanted (Err refusal.Memory) = Unit {0}

-- the rows of fronts in order
abbrev pub MakesFronts : (old new : Tables) → (in_method : Truth) → (wanted : Option (List Front)) → Result (Vec FrontRow Global) Refusal → Type 0
MakesFronts old new m (Some fs) (Ok rows) = Extends old new × AreFronts new rows.items (map (front_named m) fs)
MakesFronts old new m None (Ok rows) = ⊥
MakesFronts old new m wanted (Err refusal.NotRaised) = wanted ≡ None
MakesFronts old new m wanted (Err refusal.Memory) = Unit {0}

-- the topmost path, which is taken
abbrev pub TakesPath : Tables → (in_method : Truth) → (new : List Held) → List Item → Result (ℕ × Vec ℕ Global) Refusal → Type 0
TakesPath t m new items (Ok x) =
    (ks : List ℕ) × (below : List Item) × (items ≡ tree (path x.0 ks) ∷ below) × AreNames t x.1.items (map field_name ks) × Piled t m new below
TakesPath t m new items (Err refusal.NotRaised) =
    (from_checked items ≡ None) × ((f : ℕ → List ℕ → Raised) (end : ℕ) → from_path f end items ≡ None)
TakesPath t m new items (Err refusal.Memory) = ⊥

-- the topmost item, a path that was tested, which is taken
abbrev pub TakesChecked : Tables → (in_method : Truth) → (new : List Held) → List Item → Result row.Path Refusal → Type 0
TakesChecked t m new (checked s ks ∷ below) (Ok p) = IsPath t p (path_named m s ks) × Piled t m new below
TakesChecked t m new (checked s ks ∷ below) (Err refusal.NotRaised) = ⊥
TakesChecked t m new items (Ok p) = ⊥
TakesChecked t m new items (Err refusal.NotRaised) = Unit {0}
TakesChecked t m new items (Err refusal.Memory) = ⊥

-- the topmost item, a place in an array, which is taken
abbrev pub TakesPlace : Tables → (in_method : Truth) → (new : List Held) → List Item → Result (row.Path × ℕ) Refusal → Type 0
TakesPlace t m new (indexed s ks e ∷ below) (Ok x) = IsPath t x.0 (path_named m s ks) × IsTree t x.1 (named m e) × Piled t m new below
TakesPlace t m new (indexed s ks e ∷ below) (Err refusal.NotRaised) = ⊥
TakesPlace t m new items (Ok x) = ⊥
TakesPlace t m new items (Err refusal.NotRaised) = Unit {0}
TakesPlace t m new items (Err refusal.Memory) = ⊥
