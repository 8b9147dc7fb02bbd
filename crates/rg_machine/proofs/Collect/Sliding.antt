-- A collection of the active region that moves what it keeps: what stands behind it, and that it shows what a collection shows that moves
-- nothing.
use Rattle.std.proofs.Common.{◌≡◌, ℕ, Bool as Truth, true, List, drop, Option, Some, None, refl, sym, ap, ◌∙◌, subst, arith}
use Rattle.rg_base.specs.declared.value.Val.{Val}
use Rattle.rg_base.specs.declared.value.Word.{Word}
use Rattle.rg_base.specs.declared.words.Manager.{Manager}
use Rattle.rg_base.specs.declared.words.Manager.TheVariants.{Arena, Count, Trace}
use Rattle.rg_cells.specs.Table.{Serials}
use Rattle.rg_regions.specs.Collection.{OfRegion, roots_of}
use Rattle.rg_regions.specs.Grove.{Grove}
use Rattle.rg_regions.specs.Reach.{LiesIn}
use Rattle.rg_regions.specs.Reach.{Stands as Root}
use Rattle.rg_regions.specs.Table.{IsBridge}
use Rattle.rg_frames.specs.Stack.{Stack}
use Rattle.rg_stack.specs.Machine.{Machine}
use Rattle.rg_stack.specs.Needs.{owned_once}
use Rattle.rg_regions.specs.Reach.{OutOfReach}
use Rattle.rg_copy.specs.Slid.{base_of, top_roots}
use Rattle.rg_heap.specs.declared.answers.Collected.{Collected}
use Rattle.rg_heap.specs.Collects.{Collects}
use Rattle.rg_heap.specs.Ends.{top_temps}
use Rattle.rg_heap.specs.Parts.{OnTop, Parts}
use Rattle.rg_heap.specs.Slides.{Slides, SlidesBy}
use Rattle.rg_held.specs.Gather.{Gathered, Keeps, KeepsOf, Loses, first, further}
use Rattle.rg_view.specs.View.{machine_of}
use Rattle.rg_machine.specs.Collects.{GathersSliding, OwnerOutside, holds}
use Rattle.rg_machine.specs.High.{NoneMade}
use Rattle.rg_machine.specs.Stands.{Stands}
use Rattle.rg_machine.proofs.Callers.Collect.{Active, active, lead-behind, record-was, roots_in, stands-behind}
use Rattle.rg_machine.proofs.Collect.Effect.{by-manager}
use Rattle.rg_machine.proofs.Callers.Gather.{collection-gathered, collection-keeps}
use Rattle.rg_machine.proofs.Callers.Shift.{Shifted, holds-shift, shifted-machine, shifted-stands}
use Rattle.rg_machine.proofs.Callers.Slid.{base-is, moves, moves-frames}
use Rattle.rg_machine.proofs.Collect.Unmoved.{bridge-still, stayed, temp-still, unmoved-collects, unmoved-leads, unmoved-shifted}

-- What is kept may be said otherwise

module _ (held kept also : ℕ → Truth) (m : Machine) (same : (a : ℕ) → also a ≡ kept a) where
  loses-as : {r : ℕ} → Loses held kept m r → Loses held also m r
  loses-as (first l lacks) = first l (same l.object ∙ lacks)
  loses-as (further x l) = further (loses-as x) l

  loses-was : {r : ℕ} → Loses held also m r → Loses held kept m r
  loses-was (first l lacks) = first l (sym (same l.object) ∙ lacks)
  loses-was (further x l) = further (loses-was x) l

  one-as : (v : Val) → KeepsOf kept m v → KeepsOf also m v
  one-as v k a e lies = same a ∙ k a e lies

  pub keeps-as : Keeps held kept m → Keeps held also m
  keeps-as k = record {
    bridge = λ a e lies. same a ∙ k.bridge a e lies;
    slots = λ n s f v there at le. one-as v (k.slots n s f v there at le);
    temps = λ a i o v here there lies at. one-as v (k.temps a i o v here there lies at);
    fields = λ a i o v here left there lies at. one-as v (k.fields a i o v here (sym (same a) ∙ left) there lies at);
  }

  pub gathered-as : (f after : Machine) → Gathered held kept f after m → Gathered held also f after m
  gathered-as f after g = record {
    frames = g.frames;
    windows = g.windows;
    windows_made = g.windows_made;
    at = g.at;
    managers_made = g.managers_made;
    managers = λ r out. g.managers r (λ x. out (loses-as x));
    objects_made = g.objects_made;
    fewer = λ a e. g.fewer a (sym (same a) ∙ e);
    same = λ a e. g.same a (sym (same a) ∙ e);
    others = λ a e. g.others a (sym (same a) ∙ e);
    lost = λ a r o here there lies x. same a ∙ g.lost a r o here there lies (loses-was x);
    stays = λ a o here there lies out. same a ∙ g.stays a o here there lies (λ r is x. out r is (loses-as x));
  }

-- Where what is kept has moved

module _ (old new : Parts) (v frames : Stack) (at : ℕ) (q : Serials old.cells.heap) (g : Grove old.cells old.regions) (st : Stands old v)
    (once : owned_once (machine_of old v at) ≡ true) (qn : Serials new.cells.heap) (gn : Grove new.cells new.regions) (a : Active old v)
    (sl : Slides old new a.window.region a.rec v frames) where
  abbrev Cell : ℕ → Type 0
  Cell s = OutOfReach old.cells.heap a.rec.number (top_roots a.rec v) s

  abbrev left : Parts
  left = stayed old new v frames q g st a sl

  abbrev f : ℕ → ℕ
  f = moves old v q g st a sl.mid frames sl.slid

  collects : Collects old left a.window.region a.rec Cell
  collects = unmoved-collects old new v frames q g st a sl

  root : (s : ℕ) → LiesIn old.cells.heap a.rec.number s → Root old.cells.heap (roots_in old v a) s → Cell s → ⊥
  root s lies stands cell = cell (
    0,
    omega arith,
    (
      lies,
      subst (λ n. Root old.cells.heap (roots_of a.rec.bridge (drop n v.slots) (top_temps v)) s)
          (sym (base-is old v q g st a sl.mid frames sl.slid)) stands,
    ),
  )

  stays : Stands left v
  stays = stands-behind old left v at q g st once a Cell collects root

  shifted : Shifted f left.cells.heap new.cells.heap
  shifted = unmoved-shifted old new v frames q g st a sl gn stays

  bridges : (s r : ℕ) → LiesIn left.cells.heap r s → IsBridge new.regions r s → f s ≡ s
  bridges s r l b =
      let u = record-was old left v at q g st once a Cell collects root b.0 b.1 b.2 in
      bridge-still old new v frames q g st a sl s r l (b.0, u.0, u.1, u.2 ∙ b.3, u.4 ∙ b.4)

  pub slid-stands : Stands new frames
  slid-stands =
      subst (λ w. Stands new w) (sym (moves-frames old v q g st a sl.mid frames sl.slid))
      (shifted-stands f left.cells new.cells new.regions v shifted (temp-still old new v frames q g st a sl) bridges stays)

  same-holds : (b : ℕ) → holds new.cells.heap b ≡ holds left.cells.heap b
  same-holds b = holds-shift f left.cells.heap new.cells.heap shifted b

  pub slid-gathered : Gathered (holds old.cells.heap) (holds new.cells.heap) (machine_of old v at) (machine_of new frames at) (machine_of old v at)
  slid-gathered =
      let m = machine_of old v at in
      let shown : machine_of new frames at ≡ machine_of left v at =
      ap (λ w. machine_of new w at) (moves-frames old v q g st a sl.mid frames sl.slid)
      ∙ shifted-machine f left.cells new.cells new.regions v shifted (temp-still old new v frames q g st a sl) bridges stays qn at in
      subst (λ after. Gathered (holds old.cells.heap) (holds new.cells.heap) m after m) (sym shown)
      (gathered-as (holds old.cells.heap) (holds left.cells.heap) (holds new.cells.heap) m same-holds m (machine_of left v at)
      (collection-gathered old left v at q g (unmoved-leads old new v frames q g st a sl gn stays) st once a Cell collects root))

  pub slid-keeps : OwnerOutside (machine_of old v at) (machine_of old v at).windows
      → Keeps (holds old.cells.heap) (holds new.cells.heap) (machine_of old v at)
  slid-keeps out =
      keeps-as (holds old.cells.heap) (holds left.cells.heap) (holds new.cells.heap) (machine_of old v at) same-holds
      (collection-keeps old left v at q g (unmoved-leads old new v frames q g st a sl gn stays) st once a Cell collects root out)

-- By the manager

module _ (old new : Parts) (v frames : Stack) (at : ℕ) (q : Serials old.cells.heap) (g : Grove old.cells old.regions) (st : Stands old v)
    (once : owned_once (machine_of old v at) ≡ true) (qn : Serials new.cells.heap) (gn : Grove new.cells new.regions) (told : Option Collected)
    (by : OnTop v (λ w. OfRegion old.regions w.region (λ r. SlidesBy r.manager old new w.region r v frames told))) where
  abbrev top : Active old v
  top = active old v st.opened

  base : base_of v ≡ top.window.base
  base = ap (λ o. elim o [ None ↦ 0 | Some w ↦ w.base ]) top.is

  -- where nothing has moved, and where what is kept has
  sliding : (P : Type 0)
      → (frames ≡ v → (Cell : ℕ → Type 0) → Collects old new top.window.region top.rec Cell
      → ((s : ℕ) → LiesIn old.cells.heap top.rec.number s → Root old.cells.heap (roots_in old v top) s → Cell s → ⊥) → P)
      → (Slides old new top.window.region top.rec v frames → P) → P
  sliding P still moved = by_manager top.rec.manager (by top.window top.is top.rec top.known)
    where
      led : (s : ℕ) → Root old.cells.heap (roots_in old v top) s → Root old.cells.heap (top_roots top.rec v) s
      led s = subst (λ n. Root old.cells.heap (roots_of top.rec.bridge (drop n v.slots) (top_temps v)) s) (sym base)

      by_manager : (m : Manager) → SlidesBy m old new top.window.region top.rec v frames told → P
      by_manager Arena x =
          by-manager P old new top.window.region top.rec (top_roots top.rec v) told Arena top.known (x.0, x.1)
          (λ Cell c root. still x.2 Cell c (λ s lies stands cell. root s lies (led s stands) cell))
      by_manager Count x =
          by-manager P old new top.window.region top.rec (top_roots top.rec v) told Count top.known x.0
          (λ Cell c root. still x.1 Cell c (λ s lies stands cell. root s lies (led s stands) cell))
      by_manager Trace x = moved x.3

  pub sliding-stands : Stands new frames
  sliding-stands = sliding (Stands new frames)
      (λ same Cell c root. subst (λ w. Stands new w) (sym same) (stands-behind old new v at q g st once top Cell c root))
      (λ sl. slid-stands old new v frames at q g st once qn gn top sl)

  pub sliding-high : NoneMade old new
  sliding-high = sliding (NoneMade old new)
      (λ same Cell c root. record { made = c.serials; high = c.high })
      (λ sl. record { made = sl.released.serials ∙ sl.slid.serials; high = sl.released.high ∙ sl.slid.high })

  pub sliding-gathers : (words : List Word) (printed : Option Val) → GathersSliding
      (record { heap = old; frames = v; words = words; at = at; printed = printed })
      (record { heap = new; frames = frames; words = words; at = at; printed = printed })
  sliding-gathers words printed =
      sliding (GathersSliding (record { heap = old; frames = v; words = words; at = at; printed = printed })
      (record { heap = new; frames = frames; words = words; at = at; printed = printed })) still moved
    where
      still : frames ≡ v → (Cell : ℕ → Type 0) → Collects old new top.window.region top.rec Cell
          → ((s : ℕ) → LiesIn old.cells.heap top.rec.number s → Root old.cells.heap (roots_in old v top) s → Cell s → ⊥)
          → GathersSliding
          (record { heap = old; frames = v; words = words; at = at; printed = printed })
          (record { heap = new; frames = frames; words = words; at = at; printed = printed })
      still same Cell c root =
          let lead = lead-behind old new v at q g st once top Cell c root gn in
          let m = machine_of old v at in
          record {
            keeps = collection-keeps old new v at q g lead st once top Cell c root;
            gathered = subst (λ w. Gathered (holds old.cells.heap) (holds new.cells.heap) m (machine_of new w at) m)
                (sym same) (collection-gathered old new v at q g lead st once top Cell c root);
            frames = same ∙ ap (λ (w : Stack). record v { slots = w.slots }) (sym same);
            words = refl;
            at = refl;
            printed = refl;
          }

      moved : Slides old new top.window.region top.rec v frames → GathersSliding
          (record { heap = old; frames = v; words = words; at = at; printed = printed })
          (record { heap = new; frames = frames; words = words; at = at; printed = printed })
      moved sl = record {
        keeps = slid-keeps old new v frames at q g st once qn gn top sl;
        gathered = slid-gathered old new v frames at q g st once qn gn top sl;
        frames = sl.slid.stack;
        words = refl;
        at = refl;
        printed = refl;
      }
