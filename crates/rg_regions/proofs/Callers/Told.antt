-- What labels, fields, numbers and records tell (docs/architecture.md, "Regions").
use Rattle.std.proofs.Common.{◌≡◌, ℕ, zero, suc, ◌<◌, List, Option, Some, None, IsSome, refl, ap, sym, ◌∙◌, ◌⊎◌, inl, inr}
use Rattle.std.proofs.Common.{option_map, option_and_then, slice_get, get_or}
use Rattle.std.proofs.lemmas.Bool.{cases_eq}
use Rattle.std.proofs.lemmas.Option.{slice_get_within, slice_get-get_or, same_Some}
use Rattle.rg_base.specs.declared.object.Label.{Label}
use Rattle.rg_base.specs.declared.object.Label.TheVariants.{Region, Temp, Frozen}
use Rattle.rg_base.specs.declared.value.Word.{Word}
use Rattle.rg_base.specs.declared.value.Word.TheVariants.{Slot}
use Rattle.rg_base.proofs.Callers.Options.{some-there}
use Rattle.rg_base.proofs.Callers.Labels.{region-same}
use Rattle.rg_base.specs.declared.words.Manager.{Manager}
use Rattle.rg_base.specs.declared.words.Manager.TheVariants.{Arena, Count, Trace}
use Rattle.rg_cells.specs.declared.cell.Body.{Body}
use Rattle.rg_cells.specs.Table.{Heap, Table, body_at, field_at, label_at, width, IsHeld}
use Rattle.rg_regions.specs.Table.{Record, RegionTable, record_at, IsKey, HasNumber}
use Rattle.rg_regions.specs.Reach.{LiesIn, Roots, Walk, Reach}
use Rattle.rg_regions.specs.Grove.{Grove, Parent}
use Rattle.rg_regions.specs.Collection.{Lost}
use Rattle.rg_regions.specs.Chains.{OwnsOnce}

-- a field that can be read is one of the cell's
pub field_within : (h : Heap) (s k : ℕ) (w : Word) → field_at h s k ≡ Some w → k < width (body_at h s)
field_within h s k w e = by_body (body_at h s) k w e
  where
    by_body : (b : Option Body) (k : ℕ) (w : Word) → option_and_then (λ (b : Body). slice_get b.fields k) b ≡ Some w
        → k < width b
    by_body None k w e = cc
    by_body (Some b) k w e = slice_get_within b.fields k w e

-- a slot with a label has a cell
pub labelled_held : (h : Heap) (s : ℕ) (l : Label) → label_at h s ≡ Some l → IsHeld h s
labelled_held h s l e = by_body (body_at h s) e
  where
    by_body : (b : Option Body) → option_map (λ (b : Body). b.label) b ≡ Some l → IsSome b
    by_body None e = cc
    by_body (Some b) e = refl

pub lies_held : (h : Heap) (r s : ℕ) → LiesIn h r s → IsHeld h s
lies_held h r s l = labelled_held h s (Region r) l

-- what is in reach lies in the region
pub reach_lies : (h : Heap) (r : ℕ) (roots : Roots) (s : ℕ) → Reach h r roots s → LiesIn h r s
reach_lies h r roots s x = by_walk x.0 x.2
  where
    by_walk : (n : ℕ) → Walk h r roots n s → LiesIn h r s
    by_walk zero w = w.0
    by_walk (suc n) w = w.0

-- a cell lies in one region
pub one_region : (h : Heap) (s a b : ℕ) → LiesIn h a s → LiesIn h b s → a ≡ b
one_region h s a b p q = region-same a b (sym p ∙ q)

-- a cell lies in a region, or doesn't
pub lies_or_not : (h : Heap) (r s : ℕ) → (LiesIn h r s → ⊥) ⊎ LiesIn h r s
lies_or_not h r s = by_body (body_at h s)
  where
    by_label : (l : Label) → (Some l ≡ Some (Region r) → ⊥) ⊎ (Some l ≡ Some (Region r))
    by_label (Region q) = elim (cases_eq q r)
        [ inl e ↦ inr (ap (λ k. Some (Region k)) e) | inr d ↦ inl (λ e. d (region-same q r e)) ]
    by_label (Temp n) = inl (λ e. cc)
    by_label Frozen = inl (λ e. cc)

    by_body : (b : Option Body)
        → (option_map (λ (b : Body). b.label) b ≡ Some (Region r) → ⊥)
        ⊎ (option_map (λ (b : Body). b.label) b ≡ Some (Region r))
    by_body None = inl (λ e. cc)
    by_body (Some b) = by_label b.label

-- a region has one number
pub one_number : (t : RegionTable) (key a b : ℕ) → HasNumber t key a → HasNumber t key b → a ≡ b
one_number t key a b p q = same_Some a b (sym p ∙ q)

pub number_of : (t : RegionTable) (key n : ℕ) (r : Record) → record_at t key ≡ Some r → r.number ≡ n → HasNumber t key n
number_of t key n r a b = ap (option_map (λ (y : Record). y.number)) a ∙ ap Some b

-- the members that a key has are those of its record
pub same_members : (o : Option Record) (r : Record) (members : List ℕ) → o ≡ Some r
    → option_map (λ (r : Record). r.members) o ≡ Some members → r.members ≡ members
same_members o r members e f = same_Some r.members members (sym (ap (option_map (λ (r : Record). r.members)) e) ∙ f)

-- .. and so are its number, its manager and its bridge
pub same_number : (o : Option Record) (r : Record) (n : ℕ) → o ≡ Some r
    → option_map (λ (r : Record). r.number) o ≡ Some n → r.number ≡ n
same_number o r n e f = same_Some r.number n (sym (ap (option_map (λ (r : Record). r.number)) e) ∙ f)

pub same_manager : (o : Option Record) (r : Record) (m : Manager) → o ≡ Some r
    → option_map (λ (r : Record). r.manager) o ≡ Some m → r.manager ≡ m
same_manager o r m e f = same_Some r.manager m (sym (ap (option_map (λ (r : Record). r.manager)) e) ∙ f)

pub same_bridge : (o : Option Record) (r : Record) (b : Option ℕ) → o ≡ Some r
    → option_map (λ (r : Record). r.bridge) o ≡ Some b
    → r.bridge ≡ b
same_bridge o r b e f = same_Some r.bridge b (sym (ap (option_map (λ (r : Record). r.bridge)) e) ∙ f)

pub same_told : (o : Option Record) (r : Record) (n : ℕ) (b : Option ℕ) → o ≡ Some r
    → option_map (λ (r : Record). r.number) o ≡ Some n → option_map (λ (r : Record). r.bridge) o ≡ Some b
    → (r.number ≡ n) × (r.bridge ≡ b)
same_told o r n b e f h = (same_number o r n e f, same_bridge o r b e h)

-- the record that has a number
pub record_there : (o : Option Record) (n : ℕ) → option_map (λ (r : Record). r.number) o ≡ Some n
    → (r : Record) × (o ≡ Some r) × (r.number ≡ n)
record_there None n e = cc
record_there (Some r) n e = (r, refl, same_Some r.number n e)

-- a key of the table has a record
pub record_of_key : (t : RegionTable) (key : ℕ) → IsKey t key → (r : Record) × (record_at t key ≡ Some r)
record_of_key t key k = some-there (record_at t key) k

-- what a region's cells lead to is held
pub led_held : (c : Table) (t : RegionTable) → Grove c t → (r p k s : ℕ) → LiesIn c.heap r p
    → field_at c.heap p k ≡ Some (Slot s) → IsHeld c.heap s
led_held c t g r p k s l f = elim (g.fields r p k s l f) [
  | inl a ↦ labelled_held c.heap s Frozen a
  | inr b ↦ elim b [ inl x ↦ labelled_held c.heap s (Region r) x | inr y ↦ labelled_held c.heap s (Region y.0) y.2 ]
]

-- a region that lost its owner is a child of the region that lost the cell
pub lost_parent : (h : Heap) (r q : ℕ) (freed : ℕ → Type 0) → Lost h r freed q → Parent h r q
lost_parent h r q freed l = record {
  differ = λ e. l.other (sym e);
  from = l.slot;
  field = l.field;
  to = l.to;
  lies = l.from;
  leads = l.leads;
  child_has = l.lies;
}

-- the members of a region of the forest own each other region at most once
pub owns_once : (c : Table) (t : RegionTable) (key : ℕ) (rec : Record) → Grove c t → record_at t key ≡ Some rec
    → OwnsOnce c.heap rec.number rec.members
owns_once c t key rec g e =
    let m = g.members key rec e in
    record {
      one = λ q s k to s2 k2 to2 d l f i l2 f2 i2.
          g.one_in q rec.number s k to rec.number s2 k2 to2 (λ z. d (sym z)) l f i (λ z. d (sym z)) l2 f2 i2;
      lie = λ j l. m.lie j (get_or rec.members j 0) (slice_get-get_or rec.members j 0 l);
      once = λ a b l n z.
          m.once a b (get_or rec.members a 0) (slice_get-get_or rec.members a 0 l)
          (slice_get-get_or rec.members b 0 n ∙ ap Some (sym z));
    }

-- the key's record stays while links are set, and so do its members
pub same_record : (old now : RegionTable) (key : ℕ) (rec : Record) → now.records ≡ old.records
    → record_at old key ≡ Some rec → record_at now key ≡ Some rec
same_record old now key rec e at = ap (λ (rs : List (Option Record)). get_or rs key None) e ∙ at

pub members_read : (old now : RegionTable) (key : ℕ) (rec : Record) (members : List ℕ) → now.records ≡ old.records
    → record_at old key ≡ Some rec
    → option_map (λ (r : Record). r.members) (record_at now key) ≡ Some members → rec.members ≡ members
members_read old now key rec members e at is =
    same_members (record_at now key) rec members (same_record old now key rec e at) is

-- a manager counts, or doesn't
pub counts_or_not : (m : Manager) → (m ≡ Count) ⊎ (m ≡ Count → ⊥)
counts_or_not Arena = inr (λ e. cc)
counts_or_not Count = inl refl
counts_or_not Trace = inr (λ e. cc)
