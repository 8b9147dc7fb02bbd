-- From what one pass leaves to what the next one asks for, and the bound on steps (docs/architecture.md, "A manager that
-- moves its cells").
use Rattle.std.proofs.Common.{◌≡◌, ◌≢◌, ℕ, ◌+◌, ◌≤◌, cond, List, length, Option, Some, None, IsSome, refl, ap, sym, ◌∙◌}
use Rattle.std.proofs.Common.{subst, arith, inl, inr, get_or, slice_get, option_map, option_and_then, sum_by}
use Rattle.rg_base.specs.declared.object.Label.TheVariants.{Region, Temp}
use Rattle.rg_base.specs.declared.value.Word.TheVariants.{Slot}
use Rattle.rg_cells.specs.declared.cell.Body.{Body}
use Rattle.rg_cells.specs.Table.{Heap, Table, body_at, label_at, field_at, link_at, width, IsHeld}
use Rattle.rg_frames.specs.Stack.{Stack}
use Rattle.rg_regions.specs.Table.{Record, RegionTable, record_at}
use Rattle.rg_regions.specs.Reach.{LiesIn, belongs}
use Rattle.rg_regions.specs.Chains.{LeadsToHeld}
use Rattle.rg_regions.specs.Collection.{ChainsOrphans, region_fields}
use Rattle.rg_regions.specs.Grove.{Grove, Members}
use Rattle.rg_regions.specs.Ordered.{Orders, with_members}
use Rattle.rg_regions.proofs.Callers.Fewer.{lies_belongs}
use Rattle.rg_regions.proofs.Callers.Shares.{share, sum-agree, parted-le, distinct_by, has_place}
use Rattle.rg_regions.proofs.Callers.Told.{lies_or_not, same_members, owns_once}
use Rattle.rg_regions.proofs.Callers.Ordered.{ordered_at, ordered_other, ordered_links, ordered_rise, ordered_members}
use Rattle.rg_regions.specs.Reach.{OutOfReach}
use Rattle.rg_trace.specs.Marking.{black_fields}
use Rattle.rg_trace.specs.Orphans.{FollowsWhite, if_white}
use Rattle.rg_trace.proofs.PartsJoined.{orphaning}
use Rattle.rg_trace.proofs.StepsBound.{ticks}
use Rattle.rg_copy.specs.Slid.{top_roots}
use Rattle.rg_copy.specs.Inner.Plans.{Rises}
use Rattle.rg_copy.specs.Inner.Moves.{IsTempAt, TempsForwarded}
use Rattle.rg_copy.specs.Inner.Shifts.{Downward, Shifted}
use Rattle.rg_copy.proofs.Stages.{Stages, body-e, temp-not}

-- the same labels: the same members
pub members-labels : (h k : Heap) (r : ℕ) (members : List ℕ) → ((s : ℕ) → label_at k s ≡ label_at h s)
    → Members h r members → Members k r members
members-labels h k r members same ms = record {
  lie = λ i s e. same s ∙ ms.lie i s e;
  all = λ s l. ms.all s (sym (same s) ∙ l);
  once = ms.once;
}

pub members-at : (h : Heap) (a b : ℕ) (xs ys : List ℕ) → a ≡ b → xs ≡ ys → Members h a xs → Members h b ys
members-at h a b xs ys p q ms =
    let A : ℕ → Type 0 = λ n. Members h n xs in
    let B : List ℕ → Type 0 = λ zs. Members h b zs in
    subst B q (subst A p ms)

-- the members of a region in order, and all else of the regions as it was
pub record InOrder (c : Table) (t u : RegionTable) (key : ℕ) (rec : Record) (members : List ℕ) : Type 0 where
  pub now : record_at u key ≡ Some (with_members members rec)
  pub are : Members c.heap rec.number members
  pub rise : Rises members
  pub others : (k : ℕ) → k ≢ key → record_at u k ≡ record_at t k
  pub next : u.next ≡ t.next

pub in-order : (c : Table) (t middle u : RegionTable) (key : ℕ) (rec : Record) (o : Orders middle u key) → Grove c t
    → record_at t key ≡ Some rec → middle.records ≡ t.records → middle.next ≡ t.next → InOrder c t u key rec o.members
in-order c t middle u key rec o g e same next =
    let there : record_at middle key ≡ Some rec = ap (λ (rs : List (Option Record)). get_or rs key None) same ∙ e in
    record {
      now = ordered_at middle u key o rec there;
      are = ordered_members middle u key o rec there c.heap rec.number (g.members key rec e);
      rise = ordered_rise middle u key o;
      others = λ k d. ordered_other middle u key o k d ∙ ap (λ (rs : List (Option Record)). get_or rs k None) same;
      next = (ordered_links middle u key o).1 ∙ next;
    }

-- the members that a call reads are these, behind each pass
pub read-is : {c : Table} {t u : RegionTable} {key : ℕ} {rec : Record} {members : List ℕ} (xs : List ℕ)
    → InOrder c t u key rec members → option_map (λ (r : Record). r.members) (record_at u key) ≡ Some xs → members ≡ xs
read-is {u = u} {key = key} {rec = rec} {members = members} xs w q =
    same_members (record_at u key) (with_members members rec) xs w.now q

pub read-members : {c : Table} {t u : RegionTable} {key : ℕ} {rec : Record} {members : List ℕ} (h : Heap) (region : ℕ)
    (xs : List ℕ) → InOrder c t u key rec members → rec.number ≡ region
    → option_map (λ (r : Record). r.members) (record_at u key) ≡ Some xs
    → ((s : ℕ) → label_at h s ≡ label_at c.heap s) → Members h region xs
read-members {c} {rec = rec} {members = members} h region xs w num q same =
    members-labels c.heap h region xs same
    (members-at c.heap rec.number region members xs num (read-is xs w q) w.are)

pub read-rises : {c : Table} {t u : RegionTable} {key : ℕ} {rec : Record} {members : List ℕ} (xs : List ℕ)
    → InOrder c t u key rec members → option_map (λ (r : Record). r.members) (record_at u key) ≡ Some xs → Rises xs
read-rises xs w q = let R : List ℕ → Type 0 = λ ys. Rises ys in subst R (read-is xs w q) w.rise

-- .. and what was held is held
pub held-labels : (h k : Heap) (s : ℕ) → label_at k s ≡ label_at h s → IsHeld h s → IsHeld k s
held-labels h k s e l = by_body (body_at h s) (body_at k s) e l
  where
    by_body : (a b : Option Body) → option_map (λ (b : Body). b.label) b ≡ option_map (λ (b : Body). b.label) a
        → IsSome a → IsSome b
    by_body None b e l = cc
    by_body (Some a) None e l = cc
    by_body (Some a) (Some b) e l = refl

-- what the region's cells lead to is held behind the rewriting of the temporaries
pub leads-kept : (p e : Table) (r : ℕ) (temps : List ℕ) → TempsForwarded p r temps e → LeadsToHeld p.heap r
    → LeadsToHeld e.heap r
leads-kept p e r temps w lead x k s l f =
    let lies : LiesIn p.heap r x = sym (w.alike.labels x) ∙ l in
    let temp : IsTempAt p.heap x → ⊥ = λ i. (let q : Some (Temp i.0) ≡ Some (Region r) = sym i.1 ∙ lies in cc) in
    let same = w.others x (λ i. temp i.1) in
    let led : field_at p.heap x k ≡ Some (Slot s) =
    sym (ap (option_and_then (λ (b : Body). slice_get b.fields k)) same) ∙ f in
    held-labels p.heap e.heap s (w.alike.labels s) (lead x k s lies led)

-- where cells go, behind the rewriting
pub downward-on : (h : Heap) (p f : Table) (r : ℕ) → ((s : ℕ) → label_at f.heap s ≡ label_at h s) → f.links ≡ p.links
    → Downward h r p → Downward f.heap r f
downward-on h p f r same links w =
    let link : (s : ℕ) → link_at f s ≡ link_at p s = λ s. ap (λ (ls : List (Option ℕ)). get_or ls s None) links in
    record {
      down = λ s d l e. let a = w.down s d (sym (same s) ∙ l) (sym (link s) ∙ e) in (same d ∙ a.0, a.1);
      apart = λ s x d l k e g.
          w.apart s x d (sym (same s) ∙ l) (sym (same x) ∙ k) (sym (link s) ∙ e) (sym (link x) ∙ g);
    }

-- the region's slots are the same behind the moves
pub lies-behind : (f s : Table) (r i : ℕ) (members : List ℕ) (from : ℕ → ℕ) (x : ℕ) → Shifted f r members i s from
    → LiesIn s.heap r x → LiesIn f.heap r (from x) × LiesIn f.heap r x
lies-behind f s r i members from x w l =
    let a : LiesIn f.heap r (from x) = sym (ap (option_map (λ (b : Body). b.label)) (w.bodies x)) ∙ l in (
      a,
      elim (lies_or_not f.heap r x) [
        | inl n ↦ let L : ℕ → Type 0 = λ z. LiesIn f.heap r z in absurd (n (subst L (w.outside x n) a))
        | inr k ↦ k
      ],
    )

pub members-behind : (f s : Table) (r i : ℕ) (members : List ℕ) (from : ℕ → ℕ) → Shifted f r members i s from
    → Members f.heap r members → Members s.heap r members
members-behind f s r i members from w ms = record {
  lie = λ j x e. ap (option_map (λ (b : Body). b.label)) (w.bodies x) ∙ w.inside x (ms.lie j x e);
  all = λ x l. ms.all x (lies-behind f s r i members from x w l).1;
  once = ms.once;
}

-- the members' fields are those of the region
pub members-fields : (h : Heap) (r : ℕ) (members : List ℕ) (w : ℕ → ℕ) → Members h r members
    → ((x : ℕ) → LiesIn h r x → w x ≡ width (body_at h x)) → sum_by w members ≤ region_fields h r
members-fields h r members w ms is =
    let F : Option Body → ℕ = λ b. cond (belongs r b) (width b) 0 in
    let own : (x : ℕ) → LiesIn h r x → F (body_at h x) ≡ width (body_at h x) = λ x l.
    ap (λ b. cond b (width (body_at h x)) 0) (lies_belongs r (body_at h x) l) in
    let a = sum-agree w (share F h.slots) members (λ x m.
    let p = has_place members x m in
    let l = ms.lie p.0 x p.1 in
    is x l ∙ sym (own x l)) in
    let b = parted-le F refl h.slots members (distinct_by members ms.once) in
    omega (arith, a, b)

pub members-cost : {c m p e f s cells : Table} {t u regions : RegionTable} {key : ℕ} {rec : Record} {v frames : Stack}
    {members : List ℕ} → Stages c m p e f s cells t u regions key rec v frames members
    → sum_by (λ x. width (body_at e.heap x)) members ≤ region_fields c.heap rec.number
members-cost {c} {e = e} {rec = rec} {members = members} g =
    members-fields c.heap rec.number members (λ x. width (body_at e.heap x)) g.members_are
    (λ x l. ap width (body-e g x (temp-not g x l)))

-- the regions that lost their owner
pub orphans-told : {c m p e f s cells : Table} {t u regions : RegionTable} {key : ℕ} {rec : Record} {v frames : Stack}
    {members : List ℕ} → Stages c m p e f s cells t u regions key rec v frames members → (middle : RegionTable) (region : ℕ)
    (result : Option ℕ) → rec.number ≡ region
    → FollowsWhite m.heap m.marks region rec.members (length rec.members) t middle result
    → regions.links ≡ middle.links
    → ChainsOrphans c.heap t rec.number (OutOfReach c.heap rec.number (top_roots rec v)) regions.links result
orphans-told {c} {m} {t = t} {regions = regions} {key = key} {rec = rec} {v = v} g middle region result num w links =
    let F : ℕ → Type 0 = λ n. FollowsWhite m.heap m.marks n rec.members (length rec.members) t middle result in
    let K : List (Option ℕ) → Type 0 = λ ls.
    ChainsOrphans c.heap t rec.number (OutOfReach c.heap rec.number (top_roots rec v)) ls result in
    subst K (sym links) (orphaning c m t middle key rec (top_roots rec v) result g.grove g.there g.marked
    (subst F (sym num) w))

-- what is looked at in marking and in the search for orphans
pub marking-cost : {c m p e f s cells : Table} {t u regions : RegionTable} {key : ℕ} {rec : Record} {v frames : Stack}
    {members : List ℕ} → Stages c m p e f s cells t u regions key rec v frames members → (region : ℕ)
    → rec.number ≡ region
    → black_fields c.heap region m.marks + sum_by (if_white m.heap m.marks) rec.members ≤ region_fields c.heap rec.number
marking-cost {c} {m} {t = t} {key = key} {rec = rec} g region num =
    let ow = owns_once c t key rec g.grove g.there in
    let T : Heap → ℕ → Type 0 = λ h n.
    black_fields c.heap n m.marks + sum_by (if_white h m.marks) rec.members ≤ region_fields c.heap rec.number in
    let N : ℕ → Type 0 = λ n. T c.heap n in
    let H : Heap → Type 0 = λ h. T h region in
    subst H (sym g.marked.heap) (subst N num (ticks c.heap rec.number m.marks rec.members ow.lie
    (λ i j l n q. let z : i ≡ j = ow.once i j (omega (arith, l, n)) n q in omega (arith, z, l))))
