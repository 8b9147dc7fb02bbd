-- The code of each method stands at its entry.
use Rattle.std.proofs.Common.{◌≡◌, ℕ, zero, suc, ◌+◌, List, [], ◌∷◌, ◌++◌, length, drop, Some, refl, sym, ap, subst, ◌∙◌, arith, append_assoc}
use Rattle.std.proofs.Common.{length-append, slice_get}
use Rattle.std.proofs.lemmas.Option.{none-some, same_Some}
use Rattle.std.proofs.Math.Seq.{drop-append_seam}
use Rattle.rg_tree.specs.Tree.{Name, Member, field, method, Method, Class}
use Rattle.rg_code.specs.declared.op.Op.{Op}
use Rattle.rg_code.specs.declared.code.Entry.{Entry}
use Rattle.rg_code.specs.Lowering.{Methods, methods_among, method_place, method_number, method_code, members_code, methods_code, slots_of}
use Rattle.rg_code.specs.Places.{Stands}
use Rattle.rg_stack.proofs.Walks.Place.{stands-of}

-- a method of the class of a number has an entry of a number among these, at which its code stands behind a front
pub record HasEntry (classes : List Class) (c : ℕ) (m : Method) (front : List Op) (r : Methods) (k : ℕ) : Type 0 where
  pub entry : Entry
  pub there : slice_get r.entries k ≡ Some entry
  pub stands : Stands (front ++ r.ops) entry.at (method_code classes entry.at c m)
  pub given : entry.given ≡ suc (length m.params)
  pub slots : entry.slots ≡ slots_of (suc (length m.params)) (method_code classes entry.at c m)

-- among the members of a class
pub entry_among : (classes : List Class) (ms : List Member) (at c k : ℕ) (go : ℕ → Methods) (front : List Op) (m : Method) → length front ≡ at
    → slice_get (methods_among ms) k ≡ Some m
    → HasEntry classes c m front (members_code classes at c ms go) k
entry_among classes [] at c k go front m n is = absurd (none-some m is)
entry_among classes (field f ∷ ms) at c k go front m n is = entry_among classes ms at c k go front m n is
entry_among classes (method o ∷ ms) at c zero go front m n is =
    let same = same_Some o m is in
    let body = method_code classes at c o in
    let others = members_code classes (at + length body) c ms go in
    let here : drop at (front ++ (body ++ others.ops)) ≡ body ++ others.ops = ap (λ k. drop k (front ++ (body ++ others.ops))) (sym n)
    ∙ drop-append_seam front (body ++ others.ops) in
    subst (λ x. HasEntry classes c x front (members_code classes at c (method o ∷ ms) go) 0) same
    (record {
      entry = record { at = at; given = suc (length o.params); slots = slots_of (suc (length o.params)) body };
      there = refl;
      stands = stands-of (front ++ (body ++ others.ops)) at body others.ops here;
      given = refl;
      slots = refl;
    })
entry_among classes (method o ∷ ms) at c (suc k) go front m n is =
    let body = method_code classes at c o in
    let others = members_code classes (at + length body) c ms go in
    let h = entry_among classes ms (at + length body) c k go (front ++ body) m (omega (arith, n, length-append front body)) is in
    record {
      entry = h.entry;
      there = h.there;
      stands = subst (λ l. Stands l h.entry.at (method_code classes h.entry.at c m)) (append_assoc front body others.ops) h.stands;
      given = h.given;
      slots = h.slots;
    }

-- behind the members of a class
pub entry_behind : (classes : List Class) (ms : List Member) (at c d k : ℕ) (go : ℕ → Methods) (front : List Op) (m : Method) → length front ≡ at
    → ((here : ℕ) (more : List Op) → length more ≡ here → HasEntry classes d m more (go here) k)
    → HasEntry classes d m front (members_code classes at c ms go) (length (methods_among ms) + k)
entry_behind classes [] at c d k go front m n h = let e : k ≡ 0 + k = omega arith in subst (HasEntry classes d m front (go at)) e (h at front n)
entry_behind classes (field f ∷ ms) at c d k go front m n h = entry_behind classes ms at c d k go front m n h
entry_behind classes (method o ∷ ms) at c d k go front m n h =
    let body = method_code classes at c o in
    let others = members_code classes (at + length body) c ms go in
    let g = entry_behind classes ms (at + length body) c d k go (front ++ body) m (omega (arith, n, length-append front body)) h in
    let e : suc (length (methods_among ms) + k) ≡ length (o ∷ methods_among ms) + k = omega arith in
    subst (HasEntry classes d m front (members_code classes at c (method o ∷ ms) go)) e
    (record {
      entry = g.entry;
      there = g.there;
      stands = subst (λ l. Stands l g.entry.at (method_code classes g.entry.at d m)) (append_assoc front body others.ops) g.stands;
      given = g.given;
      slots = g.slots;
    })

-- the entry of the number of a method of a name
pub entry_of : (classes ks : List Class) (at c d : ℕ) (front : List Op) (k : Class) (x : Name) (m : Method) → length front ≡ at → slice_get ks d
    ≡ Some k
    → slice_get (methods_among k.members) (method_place (methods_among k.members) x) ≡ Some m
    → HasEntry classes (c + d) m front (methods_code classes at c ks) (method_number ks d x)
entry_of classes [] at c d front k x m n there is = absurd (none-some k there)
entry_of classes (k' ∷ ks) at c zero front k x m n there is =
    let same = same_Some k' k there in
    let e : c ≡ c + 0 = omega arith in
    subst (λ b. HasEntry classes b m front (methods_code classes at c (k' ∷ ks)) (method_number (k' ∷ ks) 0 x)) e
    (entry_among classes k'.members at c (method_place (methods_among k'.members) x) (λ here. methods_code classes here (suc c) ks) front m n
    (subst (λ q. slice_get (methods_among (Class.members q)) (method_place (methods_among (Class.members q)) x) ≡ Some m) (sym same) is))
entry_of classes (k' ∷ ks) at c (suc d) front k x m n there is =
    let e : suc c + d ≡ c + suc d = omega arith in
    entry_behind classes k'.members at c (c + suc d) (method_number ks d x) (λ here. methods_code classes here (suc c) ks) front m n
    (λ here more size. subst (λ n. HasEntry classes n m more (methods_code classes here (suc c) ks) (method_number ks d x)) e
    (entry_of classes ks here (suc c) d more k x m size there is))
