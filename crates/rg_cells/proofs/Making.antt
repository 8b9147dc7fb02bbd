-- What the table shows after a cell is made.
use Rattle.std.proofs.Common.{◌≡◌, ℕ, ◌+◌, List, [], ◌∷◌, ◌++◌, length, Option, Some, None, IsSome}
use Rattle.std.proofs.Common.{refl, ap, sym, ◌∙◌, subst, arith, if◌then◌else◌, inl, inr}
use Rattle.std.proofs.lemmas.Bool.Decides.{eqb_tells}
use Rattle.rg_base.specs.declared.value.Word.{Word}
use Rattle.rg_base.specs.declared.object.Label.{Label}
use Rattle.rg_cells.specs.declared.cell.Body.{Body}
use Rattle.rg_cells.specs.declared.cell.Cell.{Cell}
use Rattle.rg_cells.specs.declared.cell.Beside.{Beside}
use Rattle.rg_cells.specs.declared.cell.Kind.{Kind}
use Rattle.rg_cells.specs.Table.{Table, held_count, high_of, high_after, Takes, Made}
use Rattle.rg_cells.specs.Inner.Layout.{few_of, index_in}
use Rattle.rg_cells.specs.Inner.Places.{index_of, fields_of, body_of, shown, table_of, FreeList, Owned, Taken, IsNew}
use Rattle.rg_cells.proofs.Lists.{or-map, get-end}
use Rattle.rg_cells.proofs.Shown.{high-is, held-is, body-past, body-free, made}
use Rattle.rg_cells.proofs.Free.{free_place}
use Rattle.rg_cells.proofs.Owners.{index-held, owned-many, shown-more}
use Rattle.rg_cells.proofs.FieldsKept.{fields-few, fields-beside}

-- a slot that isn't held was taken, and one that was held before where there is one
pub takes-of : (cells new : List Cell) (bs : List Beside) (next free vacant slot : ℕ) (c : Cell) → Taken cells new vacant slot c
    → FreeList cells free vacant → Takes (table_of cells bs next).heap slot
takes-of cells new bs next free vacant slot c t h =
    let a = high-is cells bs next in
    let b = held-is cells bs next in record {
      vacant = elim t.place [
        | inl p ↦ body-past cells bs next slot p.1
        | inr p ↦ let q = free_place cells slot p.1.0 p.1.1 in body-free cells bs next slot q.0 q.1 q.2
      ];
      again = λ l. elim t.place [
        | inl p ↦ absurd (omega (arith, a, b, l, h.all, p.0))
        | inr p ↦
            let q = free_place cells slot p.1.0 p.1.1 in
            let P : Option (Option Body) → Type 0 = λ o. IsSome o in
            subst P (sym (or-map (shown bs) None cells slot q.0 q.1)) refl
      ];
    }

-- how many slots were ever held
pub high-made : (cells new : List Cell) (bs ds : List Beside) (next later free vacant slot : ℕ) (c : Cell) → Taken cells new vacant slot c
    → FreeList cells free vacant → high_of (table_of new ds later).heap ≡ high_after (table_of cells bs next).heap
high-made cells new bs ds next later free vacant slot c t h =
    let a = high-is cells bs next in
    let b = held-is cells bs next in
    let d = high-is new ds later in
    let high : ℕ = high_of (table_of cells bs next).heap in
    elim (eqb_tells (held_count (table_of cells bs next).heap) high) [
      | inl e ↦
          let s : high_after (table_of cells bs next).heap ≡ high + 1 = ap (λ x. if x then high + 1 else high) e.0 in
          let m : high_of (table_of new ds later).heap ≡ high + 1 = elim t.place [
            | inl p ↦ omega (arith, a, d, p.2)
            | inr p ↦ absurd (omega (arith, a, b, e.1, h.all, p.0))
          ] in
          m ∙ sym s
      | inr e ↦
          let s : high_after (table_of cells bs next).heap ≡ high = ap (λ x. if x then high + 1 else high) e.0 in
          let m : high_of (table_of new ds later).heap ≡ high = elim t.place [
            | inl p ↦ absurd (let n = e.1 in omega (arith, a, b, n, h.all, p.0))
            | inr p ↦ omega (arith, a, d, p.2)
          ] in
          m ∙ sym s
    ]

-- what a new cell shows
body-new : (bs : List Beside) (c : Cell) (cl : ℕ) (l : Label) (sr : ℕ) (ks : List Kind) (ns : List ℕ) (fs : List Word) → IsNew c cl l sr ks ns
    → fields_of bs c ≡ fs → body_of bs c ≡ record { class = cl; label = l; serial = sr; fields = fs }
body-new bs c cl l sr ks ns fs n f = rw (n.class, n.label, n.serial, f) refl

new-index : (c : Cell) (cl : ℕ) (l : Label) (sr : ℕ) (ks : List Kind) (ns : List ℕ) → IsNew c cl l sr ks ns
    → index_in c.kinds c.words ≡ index_in ks ns
new-index c cl l sr ks ns n = ap (λ z. index_in z c.words) n.kinds ∙ ap (λ z. index_in ks z) n.words

pub new-at : (c : Cell) (cl : ℕ) (l : Label) (sr : ℕ) (ks : List Kind) (ns : List ℕ) → IsNew c cl l sr ks ns
    → index_of c ≡ index_in ks ns
new-at c cl l sr ks ns n = index-held c n.held ∙ new-index c cl l sr ks ns n

-- a cell is made with its fields in itself
pub made-few : (cells new : List Cell) (bs : List Beside) (next vacant slot : ℕ) (c : Cell) (cl : ℕ) (l : Label) (ks : List Kind) (ns : List ℕ)
    (fs : List Word) → Taken cells new vacant slot c → IsNew c cl l next ks ns → few_of ks ns ≡ fs → index_in ks ns ≡ None
    → Made (table_of cells bs next) (table_of new bs (next + 1)) slot (record { class = cl; label = l; serial = next; fields = fs })
made-few cells new bs next vacant slot c cl l ks ns fs t n f near =
    let i : index_in c.kinds c.words ≡ None = new-index c cl l next ks ns n ∙ near in
    let e : fields_of bs c ≡ fs =
    fields-few bs c i ∙ ap (λ z. few_of z c.words) n.kinds ∙ ap (λ z. few_of ks z) n.words ∙ f in
    let P : Body → Type 0 = λ b. Made (table_of cells bs next) (table_of new bs (next + 1)) slot b in
    subst P (body-new bs c cl l next ks ns fs n e)
    (made cells new bs bs next (next + 1) slot c t.at n.held n.mark n.link t.others (λ i x q. refl))

-- or beside
pub made-many : (cells new : List Cell) (bs : List Beside) (next vacant slot : ℕ) (c : Cell) (b : Beside) (cl : ℕ) (l : Label) (ks : List Kind)
    (ns : List ℕ) (fs : List Word) → Taken cells new vacant slot c → IsNew c cl l next ks ns → index_in ks ns ≡ Some (length bs) → b.fields ≡ fs
    → Owned cells bs
    → Made (table_of cells bs next) (table_of new (bs ++ b ∷ []) (next + 1)) slot (record { class = cl; label = l; serial = next; fields = fs })
made-many cells new bs next vacant slot c b cl l ks ns fs t n far f h =
    let ds : List Beside = bs ++ b ∷ [] in
    let i : index_in c.kinds c.words ≡ Some (length bs) = new-index c cl l next ks ns n ∙ far in
    let e : fields_of ds c ≡ fs = fields-beside ds c (length bs) b i (get-end bs b) ∙ f in
    let P : Body → Type 0 = λ z. Made (table_of cells bs next) (table_of new ds (next + 1)) slot z in
    subst P (body-new ds c cl l next ks ns fs n e)
    (made cells new bs ds next (next + 1) slot c t.at n.held n.mark n.link t.others (shown-more cells bs b h))

-- all that holds once a cell is made with its fields beside; there was room for one list more
pub record MadeBeside (new : List Cell) (ds : List Beside) (t : Table) (next slot cl : ℕ) (l : Label) (fs : List Word) : Type 0 where
  pub owned : Owned new ds
  pub takes : Takes t.heap slot
  pub made : Made t (table_of new ds (next + 1)) slot (record { class = cl; label = l; serial = t.heap.next; fields = fs })
  pub high : high_of (table_of new ds (next + 1)).heap ≡ high_after t.heap

pub made-beside : (cells new : List Cell) (bs room ds : List Beside) (next free vacant slot many cl : ℕ) (t : Table) (c : Cell) (b : Beside)
    (l : Label) (ks : List Kind) (ns : List ℕ) (fs : List Word) → table_of cells bs next ≡ t → FreeList cells free vacant → Owned cells bs
    → Taken cells new vacant slot c → IsNew c cl l next ks ns → room ≡ bs → many ≡ length room → index_in ks ns ≡ Some many
    → ds ≡ room ++ b ∷ [] → b.owner ≡ slot → b.fields ≡ fs → MadeBeside new ds t next slot cl l fs
made-beside cells new bs room ds next free vacant slot many cl t c b l ks ns fs same list owned t-is n r m far d o f =
    let far-is : index_in ks ns ≡ Some (length bs) = far ∙ ap Some (m ∙ ap (λ (xs : List Beside). length xs) r) in
    let at : index_of c ≡ Some (length bs) = new-at c cl l next ks ns n ∙ far-is in
    let is : bs ++ b ∷ [] ≡ ds = ap (λ (xs : List Beside). xs ++ b ∷ []) (sym r) ∙ sym d in
    let P : Table → List Beside → Type 0 = λ z xs. MadeBeside new xs z next slot cl l fs in
    subst (P t) is (subst (λ (z : Table). P z (bs ++ b ∷ [])) same (record {
      owned = owned-many cells new bs vacant slot c b t-is at o owned;
      takes = takes-of cells new bs next free vacant slot c t-is list;
      made = made-many cells new bs next vacant slot c b cl l ks ns fs t-is n far-is f owned;
      high = high-made cells new bs (bs ++ b ∷ []) next (next + 1) free vacant slot c t-is list;
    }))
