-- What holds where an object is made, or where there was no memory for it (docs/architecture.md, "The heap").
use Rattle.std.proofs.Common.{◌≡◌, ◌≢◌, ℕ, zero, suc, ◌+◌, ◌-◌, List, [], ◌∷◌, ◌++◌, Option, Some, None, refl, ap, sym, ◌∙◌}
use Rattle.std.proofs.Common.{subst, ◌⊎◌, inl, inr, option_map, slice_get, length, arith, get_or, set}
use Rattle.std.proofs.lemmas.Bool.{cases_eq}
use Rattle.std.proofs.lemmas.List.{get_or-set_other}
use Rattle.std.proofs.lemmas.Option.{same_Some}
use Rattle.rg_base.specs.declared.words.Manager.{Manager}
use Rattle.rg_base.specs.declared.object.Label.TheVariants.{Region, Temp}
use Rattle.rg_base.specs.declared.value.Word.{Word}
use Rattle.rg_base.proofs.Callers.Labels.{region-number}
use Rattle.rg_cells.specs.declared.cell.Body.{Body}
use Rattle.rg_cells.specs.Table.{Table, Made, body_at, body_in, label_at, mark_at, cancelled as cell_cancelled}
use Rattle.rg_regions.specs.Table.{Record, RegionTable, record_at, HasNumber, IsKey, IsNewest, HasRoom, Roomier, Added, fresh, changed, cancelled}
use Rattle.rg_regions.specs.Table.{with_room, with_member, with_bridge}
use Rattle.rg_regions.specs.Reach.{LiesIn}
use Rattle.rg_regions.specs.Grove.{Grove, Members}
use Rattle.rg_regions.proofs.Callers.Told.{number_of, record_of_key}
use Rattle.rg_regions.proofs.Callers.Changed.{changed_at, changed_other, changed_links}
use Rattle.rg_regions.proofs.Callers.RegionComes.{grove_comes}
use Rattle.rg_regions.proofs.Callers.CellComes.{one_more, old_one, last_one}
use Rattle.rg_heap.specs.Changes.{LeadsNowhere, Makes, SameCells, SameRecords, Opens, OpensOne, Rewritten, as_it_is, with_one}
use Rattle.rg_heap.proofs.Alike.{Alike, IsAlike, grove_alike}
use Rattle.rg_heap.proofs.Grows.{Grows, grove_grows}
use Rattle.rg_heap.proofs.Kin.{IsKin}

-- records that stay but for the room
pub rewritten_same : (t regions : RegionTable) (key : ℕ) → regions ≡ t → Rewritten t regions key as_it_is
rewritten_same t regions key e = record {
  is = λ r a. (r.room, ap (λ (z : RegionTable). record_at z key) e ∙ a);
  others = λ k d. ap (λ (z : RegionTable). record_at z k) e;
  next = ap (λ (z : RegionTable). z.next) e;
}

pub rewritten_room : (t mid : RegionTable) (key more : ℕ) → Roomier t mid key more → Rewritten t mid key as_it_is
rewritten_room t mid key more a = record {
  is = λ r e. (a.0, ap (λ (z : RegionTable). record_at z key) a.2 ∙ changed_at t key r (with_room a.0) e);
  others = λ k d. ap (λ (z : RegionTable). record_at z k) a.2 ∙ changed_other t key (with_room a.0) k d;
  next = ap (λ (z : RegionTable). z.next) a.2 ∙ (changed_links t key (with_room a.0)).1;
}

-- one member comes, for which room was made
pub rewritten_member : (t mid regions : RegionTable) (key more slot : ℕ) → Roomier t mid key more → regions ≡ changed mid key (with_member slot)
    → Rewritten t regions key (with_one slot)
rewritten_member t mid regions key more slot a b =
    let m = rewritten_room t mid key more a in
    record {
      is = λ r e.
          let x = m.is r e in
          (x.0 - 1, ap (λ (z : RegionTable). record_at z key) b ∙ changed_at mid key (with_room x.0 r) (with_member slot) x.1);
      others = λ k d. ap (λ (z : RegionTable). record_at z k) b ∙ changed_other mid key (with_member slot) k d ∙ m.others k d;
      next = ap (λ (z : RegionTable). z.next) b ∙ (changed_links mid key (with_member slot)).1 ∙ m.next;
    }

alike_self : (r : Record) (room : ℕ) → IsAlike r (with_room room r)
alike_self r room = record { number = refl; manager = refl; members = refl; bridge = refl }

-- where cells stay, and records but for the room of one, all holds as before
pub grove_roomed : (c : Table) (t : RegionTable) (cells : Table) (regions : RegionTable) (key : ℕ) → Grove c t → IsKey t key → cells ≡ c
    → Rewritten t regions key as_it_is → Grove cells regions
grove_roomed c t cells regions key g k e w =
    let P : Table → Type 0 = λ (z : Table). Grove z regions in
    subst P (sym e) (grove_alike c t c regions alike g)
  where
    alike : Alike c t c regions
    alike =
        let r = record_of_key t key k in
        let x = w.is r.0 r.1 in
        record {
          bodies = λ s. refl;
          marks = λ s. refl;
          back = λ o z a. elim (cases_eq o key) [
            | inl q ↦
                let A : Record → Type 0 = λ y. IsAlike r.0 y in
                let P : ℕ → Type 0 = λ y. record_at regions y ≡ Some z in
                let T : ℕ → Type 0 = λ y. record_at t y ≡ Some r.0 in
                (r.0, subst T (sym q) r.1, subst A (same_Some (with_room x.0 r.0) z (sym x.1 ∙ subst P q a)) (alike_self r.0 x.0))
            | inr d ↦ (z, sym (w.others o d) ∙ a, alike_self z z.room)
          ];
          on = λ o y a. elim (cases_eq o key) [
            | inl q ↦
                let A : Record → Type 0 = λ z. IsAlike z (with_room x.0 r.0) in
                let P : ℕ → Type 0 = λ z. record_at t z ≡ Some y in
                let T : ℕ → Type 0 = λ z. record_at regions z ≡ Some (with_room x.0 r.0) in
                (with_room x.0 r.0, subst T (sym q) x.1, subst A (same_Some r.0 y (sym r.1 ∙ subst P q a)) (alike_self r.0 x.0))
            | inr d ↦ (y, w.others o d ∙ a, alike_self y y.room)
          ];
        }

-- where cells and records are as they were
pub grove_same : (c : Table) (t : RegionTable) (cells : Table) (regions : RegionTable) → Grove c t → SameCells c cells → SameRecords t regions
    → Grove cells regions
grove_same c t cells regions g b r = grove_alike c t cells regions (record {
  bodies = b.bodies;
  marks = b.marks;
  back = λ k z a. (z, sym (r.records k) ∙ a, alike_self z z.room);
  on = λ k y a. (y, r.records k ∙ a, alike_self y y.room);
}) g

pub same_cells : (c cells : Table) → cells ≡ c → SameCells c cells
same_cells c cells e = record {
  bodies = λ s. ap (λ (z : Table). body_at z.heap s) e;
  marks = λ s. ap (λ (z : Table). mark_at z s) e;
  next = ap (λ (z : Table). z.heap.next) e;
}

-- labels behind a making
module _ (c cells : Table) (slot : ℕ) (b : Body) (vacant : body_at c.heap slot ≡ None) (m : Made c cells slot b) where
  label_new : label_at cells.heap slot ≡ Some b.label
  label_new = ap (option_map (λ (b : Body). b.label)) m.body

  label_other : (s : ℕ) → s ≢ slot → label_at cells.heap s ≡ label_at c.heap s
  label_other s d = ap (λ x. option_map (λ (b : Body). b.label) (body_in x)) (m.others s d)

  lay_apart : (q s : ℕ) → LiesIn c.heap q s → s ≢ slot
  lay_apart q s l e =
      let P : ℕ → Type 0 = λ z. label_at c.heap z ≡ Some (Region q) in
      let z : None ≡ Some (Region q) = sym (ap (option_map (λ (b : Body). b.label)) vacant) ∙ subst P e l in
      cc

  lies_on : (q s : ℕ) → LiesIn c.heap q s → LiesIn cells.heap q s
  lies_on q s l = label_other s (lay_apart q s l) ∙ l

  -- what lies in a region lay there before, or is the new cell
  lies_back : (q s : ℕ) → LiesIn cells.heap q s → ((s ≡ slot) × (b.label ≡ Region q)) ⊎ ((s ≢ slot) × LiesIn c.heap q s)
  lies_back q s l = elim (cases_eq s slot) [
    | inl e ↦
        let P : ℕ → Type 0 = λ z. label_at cells.heap z ≡ Some (Region q) in
        inl (e, same_Some b.label (Region q) (sym label_new ∙ subst P e l))
    | inr d ↦ inr (d, sym (label_other s d) ∙ l)
  ]

  -- members of a region to which the new cell doesn't belong
  members_on : (q : ℕ) (members : List ℕ) → (b.label ≡ Region q → ⊥) → Members c.heap q members → Members cells.heap q members
  members_on q members out w = record {
    lie = λ i s e. lies_on q s (w.lie i s e);
    all = λ s l. elim (lies_back q s l) [ inl e ↦ absurd (out e.1) | inr o ↦ w.all s o.1 ];
    once = w.once;
  }

  -- members of the region to which it belongs
  members_more : (q : ℕ) (members : List ℕ) → b.label ≡ Region q → Members c.heap q members → Members cells.heap q (members ++ slot ∷ [])
  members_more q members e w = record {
    lie = λ i s a. elim (one_more members slot i s a) [
      | inl o ↦ lies_on q s (w.lie i s o)
      | inr o ↦ let P : ℕ → Type 0 = λ z. LiesIn cells.heap q z in subst P (sym o.1) (label_new ∙ ap Some e)
    ];
    all = λ s l. elim (lies_back q s l) [
      | inl o ↦ let P : ℕ → Type 0 = λ z. slice_get (members ++ slot ∷ []) (length members) ≡ Some z in
          (length members, subst P (sym o.0) (last_one members slot))
      | inr o ↦ let a = w.all s o.1 in (a.0, old_one members slot a.0 s a.1)
    ];
    once = λ i j s a b. elim (one_more members slot i s a) [
      | inl o ↦ elim (one_more members slot j s b) [
        | inl u ↦ w.once i j s o u
        | inr u ↦ absurd (lay_apart q s (w.lie i s o) u.1)
      ]
      | inr o ↦ elim (one_more members slot j s b) [
        | inl u ↦ absurd (lay_apart q s (w.lie j s u) o.1)
        | inr u ↦ o.0 ∙ sym u.0
      ]
    ];
  }

kin_self : (r : Record) (members : List ℕ) (room : ℕ) → IsKin r (record r { members = members; room = room })
kin_self r members room = record { number = refl; manager = refl; bridge = refl }

-- a cell comes into the region of a key
pub grove_member : (c : Table) (t : RegionTable) (cells : Table) (regions : RegionTable) (key n slot class : ℕ) (fields : List Word)
    → Grove c t → HasNumber t key n → LeadsNowhere fields → Makes c cells slot class (Region n) fields → Rewritten t regions key (with_one slot)
    → IsKey t key → Grove cells regions
grove_member c t cells regions key n slot class fields g has plain m w k = grove_grows c t cells regions slot b g grows
  where
    b : Body
    b = record { class = class; label = Region n; serial = c.heap.next; fields = fields }

    r : (r : Record) × (record_at t key ≡ Some r)
    r = record_of_key t key k

    new : Record
    new = with_room (w.is r.0 r.1).0 (with_one slot r.0)

    new_is : record_at regions key ≡ Some new
    new_is = (w.is r.0 r.1).1

    number : n ≡ r.0.number
    number = same_Some n r.0.number (sym has ∙ ap (option_map (λ (y : Record). y.number)) r.1)

    grows : Grows c t cells regions slot b
    grows = record {
      vacant = m.takes.vacant;
      made = m.made;
      plain = plain;
      known = λ q e. let P : ℕ → Type 0 = λ z. HasNumber t key z in (key, subst P (region-number n q e) has);
      back = λ o z a. elim (cases_eq o key) [
        | inl q ↦
            let A : Record → Type 0 = λ y. IsKin r.0 y in
            let P : ℕ → Type 0 = λ y. record_at regions y ≡ Some z in
            let T : ℕ → Type 0 = λ y. record_at t y ≡ Some r.0 in
            (r.0, subst T (sym q) r.1, subst A (same_Some new z (sym new_is ∙ subst P q a)) (kin_self r.0 new.members new.room))
        | inr d ↦ (z, sym (w.others o d) ∙ a, kin_self z z.members z.room)
      ];
      on = λ o y a. elim (cases_eq o key) [
        | inl q ↦
            let A : Record → Type 0 = λ z. IsKin z new in
            let P : ℕ → Type 0 = λ z. record_at t z ≡ Some y in
            let T : ℕ → Type 0 = λ z. record_at regions z ≡ Some new in
            (new, subst T (sym q) new_is, subst A (same_Some r.0 y (sym r.1 ∙ subst P q a)) (kin_self r.0 new.members new.room))
        | inr d ↦ (y, w.others o d ∙ a, kin_self y y.members y.room)
      ];
      members = λ o z a. elim (cases_eq o key) [
        | inl q ↦
            let P : ℕ → Type 0 = λ y. record_at regions y ≡ Some z in
            let M : Record → Type 0 = λ y. Members cells.heap y.number y.members in
            subst M (same_Some new z (sym new_is ∙ subst P q a))
            (members_more c cells slot b m.takes.vacant m.made r.0.number r.0.members (ap Region number) (g.members key r.0 r.1))
        | inr d ↦
            let x = sym (w.others o d) ∙ a in
            members_on c cells slot b m.takes.vacant m.made z.number z.members
            (λ e. d (g.numbers o key n (number_of t o n z x (sym (region-number n z.number e))) has)) (g.members o z x)
      ];
    }

-- a temporary comes
pub grove_temp : (c : Table) (t : RegionTable) (cells : Table) (number slot class : ℕ) (fields : List Word)
    → Grove c t → LeadsNowhere fields → Makes c cells slot class (Temp number) fields → Grove cells t
grove_temp c t cells number slot class fields g plain m = grove_grows c t cells t slot b g (record {
  vacant = m.takes.vacant;
  made = m.made;
  plain = plain;
  known = λ q e. cc;
  back = λ k z a. (z, a, kin_self z z.members z.room);
  on = λ k y a. (y, a, kin_self y y.members y.room);
  members = λ k z a. members_on c cells slot b m.takes.vacant m.made z.number z.members (λ e. cc) (g.members k z a);
})
  where
    b : Body
    b = record { class = class; label = Temp number; serial = c.heap.next; fields = fields }

-- a region that was added last is taken back
pub same_cancelled : (t mid new regions : RegionTable) (key : ℕ) (m : Manager) → Added t mid key (fresh t m)
    → ((k : ℕ) → k ≢ key → record_at new k ≡ record_at mid k) → new.next ≡ mid.next → regions ≡ cancelled new key → SameRecords t regions
same_cancelled t mid new regions key m a o n e = record {
  records = λ k. ap (λ (z : RegionTable). record_at z k) e ∙ elim (cases_eq k key) [
    | inl q ↦
        let P : ℕ → Type 0 = λ z. get_or (set new.records key None) z None ≡ record_at t z in
        subst P (sym q) (gone new.records key ∙ sym a.vacant)
    | inr d ↦ get_or-set_other new.records key k None None d ∙ o k d ∙ a.others k d
  ];
  next = ap (λ (z : RegionTable). z.next) e ∙ (let x = a.next in omega (arith, n, x));
}
  where
    gone : (xs : List (Option Record)) (k : ℕ) → get_or (set xs k None) k None ≡ None
    gone [] k = refl
    gone (x ∷ xs) zero = refl
    gone (x ∷ xs) (suc k) = gone xs k

-- the region that comes with its bridge
pub opens : (t mid roomy bridged regions : RegionTable) (key more slot : ℕ) (m : Manager) → Added t mid key (fresh t m) → Roomier mid roomy key more
    → bridged ≡ changed roomy key (with_bridge slot) → regions ≡ changed bridged key (with_member slot) → Opens t regions key slot m
opens t mid roomy bridged regions key more slot m a r b e =
    let x = rewritten_room mid roomy key more r in
    let y = x.is (fresh t m) a.is in
    let z : record_at bridged key ≡ Some (with_bridge slot (with_room y.0 (fresh t m))) =
    ap (λ (z : RegionTable). record_at z key) b ∙ changed_at roomy key (with_room y.0 (fresh t m)) (with_bridge slot) y.1 in
    record {
      vacant = a.vacant;
      is = (
        y.0 - 1,
        ap (λ (z : RegionTable). record_at z key) e
            ∙ changed_at bridged key (with_bridge slot (with_room y.0 (fresh t m))) (with_member slot) z,
      );
      others = λ k d. ap (λ (z : RegionTable). record_at z k) e ∙ changed_other bridged key (with_member slot) k d
          ∙ ap (λ (z : RegionTable). record_at z k) b ∙ changed_other roomy key (with_bridge slot) k d ∙ x.others k d ∙ a.others k d;
      next = ap (λ (z : RegionTable). z.next) e ∙ (changed_links bridged key (with_member slot)).1
          ∙ ap (λ (z : RegionTable). z.next) b ∙ (changed_links roomy key (with_bridge slot)).1 ∙ x.next ∙ a.next;
    }

pub grove_opens : (c : Table) (t : RegionTable) (cells : Table) (regions : RegionTable) (slot class : ℕ) (m : Manager) (fields : List Word)
    → Grove c t → ((k : ℕ) → HasNumber t k t.next → ⊥) → LeadsNowhere fields → Makes c cells slot class (Region t.next) fields
    → OpensOne t regions slot m → Grove cells regions
grove_opens c t cells regions slot class m fields g new plain w o =
    let key = o.0 in
    let x = o.1 in
    let b : Body = record { class = class; label = Region t.next; serial = c.heap.next; fields = fields } in
    let rec : Record = record { number = t.next; manager = m; members = slot ∷ []; bridge = Some slot; room = x.is.0 } in
    grove_comes c t cells regions key slot rec b g (record {
      vacant = w.takes.vacant;
      made = w.made;
      free = x.vacant;
      is = x.is.1;
      others = x.others;
      fresh = new;
      label = refl;
      members = refl;
      bridge = refl;
      leads = λ k to f. absurd (plain k to f);
      once = λ j k q a b e f l i. absurd (plain j a e);
    })

-- a cell that was made last is taken back
pub same_taken_back : (c mid cells : Table) (slot : ℕ) (b : Body) → body_at c.heap slot ≡ None → mark_at c slot ≡ 0 → Made c mid slot b
    → mid.heap.next ≡ c.heap.next + 1 → cells ≡ cell_cancelled mid slot → SameCells c cells
same_taken_back c mid cells slot b vacant mark m n e = record {
  bodies = λ s. ap (λ (z : Table). body_at z.heap s) e ∙ elim (cases_eq s slot) [
    | inl q ↦
        let P : ℕ → Type 0 = λ z. body_in (get_or (set mid.heap.slots slot (Some None)) z None) ≡ body_at c.heap z in
        subst P (sym q) (gone mid.heap.slots slot ∙ sym vacant)
    | inr d ↦ ap body_in (get_or-set_other mid.heap.slots slot s (Some None) None d ∙ m.others s d)
  ];
  marks = λ s. ap (λ (z : Table). mark_at z s) e ∙ elim (cases_eq s slot) [
    | inl q ↦
        let P : ℕ → Type 0 = λ z. get_or (set mid.marks slot 0) z 0 ≡ mark_at c z in
        subst P (sym q) (none mid.marks slot ∙ sym mark)
    | inr d ↦ get_or-set_other mid.marks slot s 0 0 d ∙ m.marks s d
  ];
  next = ap (λ (z : Table). z.heap.next) e ∙ omega (arith, n);
}
  where
    gone : (xs : List (Option (Option Body))) (k : ℕ) → body_in (get_or (set xs k (Some None)) k None) ≡ None
    gone [] k = refl
    gone (x ∷ xs) zero = refl
    gone (x ∷ xs) (suc k) = gone xs k

    none : (xs : List ℕ) (k : ℕ) → get_or (set xs k 0) k 0 ≡ 0
    none [] k = refl
    none (x ∷ xs) zero = refl
    none (x ∷ xs) (suc k) = none xs k

-- a region for which room was made has room for a member
pub room_made : (t mid : RegionTable) (key more : ℕ) → IsKey t key → Roomier t mid key (suc more) → HasRoom mid key
room_made t mid key more k w =
    let r = record_of_key t key k in
    let le = w.1 in (
      with_room w.0 r.0,
      ap (λ (z : RegionTable). record_at z key) w.2 ∙ changed_at t key r.0 (with_room w.0) r.1,
      omega (arith, le),
    )

pub newest_fresh : (t mid new : RegionTable) (key : ℕ) (m : Manager) → Added t mid key (fresh t m) → new ≡ mid → IsNewest new key
newest_fresh t mid new key m a e = (
  fresh t m,
  ap (λ (z : RegionTable). record_at z key) e ∙ a.is,
  sym (ap (λ (z : RegionTable). z.next) e ∙ a.next),
)

pub room_bridged : (mid roomy bridged : RegionTable) (key more slot : ℕ) (r : Record) → record_at mid key ≡ Some r
    → Roomier mid roomy key (suc more)
    → bridged ≡ changed roomy key (with_bridge slot) → HasRoom bridged key
room_bridged mid roomy bridged key more slot r e w b =
    let x = ap (λ (z : RegionTable). record_at z key) w.2 ∙ changed_at mid key r (with_room w.0) e in
    let le = w.1 in (
      with_bridge slot (with_room w.0 r),
      ap (λ (z : RegionTable). record_at z key) b ∙ changed_at roomy key (with_room w.0 r) (with_bridge slot) x,
      omega (arith, le),
    )

pub number_next : (t mid roomy : RegionTable) (key more n : ℕ) (m : Manager) → Added t mid key (fresh t m) → Roomier mid roomy key more
    → HasNumber roomy key n → n ≡ t.next
number_next t mid roomy key more n m a w e =
    let x = ap (λ (z : RegionTable). record_at z key) w.2 ∙ changed_at mid key (fresh t m) (with_room w.0) a.is in
    same_Some n t.next (sym e ∙ ap (option_map (λ (y : Record). y.number)) x)

-- a slot that isn't held has no mark
pub vacant_unmarked : (c : Table) (t : RegionTable) (slot : ℕ) → Grove c t → body_at c.heap slot ≡ None → mark_at c slot ≡ 0
vacant_unmarked c t slot g e = g.unmarked slot (λ k r a m l.
    let z : None ≡ Some (Region r.number) = sym (ap (option_map (λ (b : Body). b.label)) e) ∙ l in
    cc)
