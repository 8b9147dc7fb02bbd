-- Contents that cowns come to are those of their images, one for each.
use Rattle.std.proofs.Common.{◌≡◌, ℕ, zero, suc, List, [], ◌∷◌, length, slice_get, Option, Some, Result, Ok, Err, refl, sym, ◌∙◌, ap, subst, arith}
use Rattle.rg_base.specs.declared.words.Cap.TheVariants.{Iso}
use Rattle.rg_base.specs.declared.ty.Ty.TheVariants.{Ref}
use Rattle.rg_io.specs.Files.{Told}
use Rattle.rg_tree.specs.Tree.{Tree}
use Rattle.rg_cown.specs.Cargo.{CargoList}
use Rattle.rg_opening.specs.Beginning.{MayOwn}
use Rattle.rg_plan.specs.declared.cown.Start.{Start}
use Rattle.rg_plan.specs.declared.cown.Start.TheVariants.{New, Image}
use Rattle.rg_plan.specs.declared.cown.Cown.{Cown}
use Rattle.rg_plan.specs.Plans.{PlanOf}
use Rattle.rg_plan.specs.Rules.{plan_of}
use Rattle.rg_contents.specs.Rest.{ImagesMayBeOwned}
use Rattle.rg_contents.specs.Read.{IsReadFor}
use Rattle.rg_loading.specs.Loading.{Failing, FileComes, in_front, OneComes, no_content, FirstComes, LoadsCome}
use Rattle.rg_loading.specs.Files.{CownsCome}

-- there is a content for each cown, and those of images may be owned
record AreRead (t : Tree) (cowns : List Cown) (images : List CargoList) : Type 0 where
  many : length images ≡ length cowns
  owned : ImagesMayBeOwned t cowns images

-- what one cown has may be owned, where it is an image's
abbrev OwnedFrom : Tree → Cown → Start → CargoList → Type 0
OwnedFrom t c (New manager) x = Unit {0}
OwnedFrom t c (Image name) x = MayOwn t (Ref Iso c.class) x

owned-by : (t : Tree) (c : Cown) (s : Start) (x : CargoList) (name : List ℕ) → s ≡ Image name → OwnedFrom t c s x → MayOwn t (Ref Iso c.class) x
owned-by t c (New manager) x name e h = cc
owned-by t c (Image other) x name e h = h

one-owned : (t : Tree) (c : Cown) (cs : List Cown) (x : CargoList) (xs : List CargoList) → OwnedFrom t c c.start x → ImagesMayBeOwned t cs xs →
    (n : ℕ) (d : Cown) (name : List ℕ) (y : CargoList) → slice_get (c ∷ cs) n ≡ Some d → d.start ≡ Image name → slice_get (x ∷ xs) n ≡ Some y →
    MayOwn t (Ref Iso d.class) y
one-owned t c cs x xs h rest zero d name y there starts given =
    let first : c ≡ d = cc in
    let held : x ≡ y = cc in
    let P : Cown → Type 0 = λ e. MayOwn t (Ref Iso e.class) y in
    let Q : CargoList → Type 0 = λ z. MayOwn t (Ref Iso c.class) z in
    subst P first (subst Q held (owned-by t c c.start x name (ap (λ (e : Cown). e.start) first ∙ starts) h))
one-owned t c cs x xs h rest (suc n) d name y there starts given = rest n d name y there starts given

-- what those behind the first come to is read
abbrev RestIsRead : Tree → List Cown → (List (List ℕ) → Result (List CargoList) Failing → Type 0) → Type 0
RestIsRead t cs Rest = (files : List (List ℕ)) (xs : List CargoList) → Rest files (Ok xs) → AreRead t cs xs

behind-read : (t : Tree) (c : Cown) (cs : List Cown) (x : CargoList) (Rest : List (List ℕ) → Result (List CargoList) Failing → Type 0)
    (files : List (List ℕ)) (q : Result (List CargoList) Failing) (images : List CargoList) → OwnedFrom t c c.start x → RestIsRead t cs Rest →
    Rest files q → Ok images ≡ in_front (x ∷ []) q → AreRead t (c ∷ cs) images
behind-read t c cs x Rest files (Ok xs) images h rest g e =
    let r = rest files xs g in
    let same : x ∷ xs ≡ images = cc in
    subst (AreRead t (c ∷ cs)) same (record { many = omega (arith, r.many); owned = one-owned t c cs x xs h r.owned })
behind-read t c cs x Rest files (Err why) images h rest g e = cc

file-read : (t : Tree) (c : Cown) (cs : List Cown) (bytes : List ℕ) (one : Result CargoList Failing) (name : List ℕ)
    (Rest : List (List ℕ) → Result (List CargoList) Failing → Type 0) (files : List (List ℕ)) (images : List CargoList) → c.start ≡ Image name →
    RestIsRead t cs Rest → FileComes t c bytes one → OneComes one Rest files (Ok images) → AreRead t (c ∷ cs) images
file-read t c cs bytes (Ok x) name Rest files images is rest h g =
    let own : MayOwn t (Ref Iso c.class) x =
    record { class = c.class; owns = refl; bridge = h.1.1; sound = h.1.0.fits.0; typed = h.1.0.fits.1 } in
    let P : Start → Type 0 = λ s. OwnedFrom t c s x in
    behind-read t c cs x Rest files g.0 images (subst P (sym is) own) rest g.1 g.2
file-read t c cs bytes (Err why) name Rest files images is rest h g = cc

first-read : (t : Tree) (c : Cown) (cs : List Cown) (s : Start) (Rest : List (List ℕ) → Result (List CargoList) Failing → Type 0)
    (files : List (List ℕ)) (images : List CargoList) → c.start ≡ s → RestIsRead t cs Rest → FirstComes t c s Rest files (Ok images) →
    AreRead t (c ∷ cs) images
first-read t c cs (New manager) Rest files images is rest h =
    let P : Start → Type 0 = λ s. OwnedFrom t c s no_content in
    behind-read t c cs no_content Rest files h.0 images (subst P (sym is) tt) rest h.1 h.2
first-read t c cs (Image name) Rest [] images is rest h = absurd h
first-read t c cs (Image name) Rest (bytes ∷ files) images is rest h = file-read t c cs bytes h.0 name Rest files images is rest h.1 h.2

loads-read : (t : Tree) (cowns : List Cown) (files : List (List ℕ)) (images : List CargoList) → LoadsCome t cowns files (Ok images) →
    AreRead t cowns images
loads-read t [] files images h =
    let same : [] ≡ images = cc in
    subst (AreRead t []) same (record { many = refl; owned = λ n c name x there starts given. cc })
loads-read t (c ∷ cs) files images h =
    first-read t c cs c.start (λ fs q. LoadsCome t cs fs q) files images refl (λ fs xs g. loads-read t cs fs xs g) h

-- what a plan comes to, that was read, is what its world asks for
pub is-read : (told : Option Told) (t : Tree) (bytes : List ℕ) (p : PlanOf) (images : List CargoList) → plan_of t bytes ≡ Ok p →
    CownsCome told t p.cowns (Ok images) → IsReadFor t p images
is-read told t bytes p images read h =
    let r = loads-read t p.cowns h.0 images h.2 in record { bytes = bytes; read = read; many = r.many; owned = r.owned }
