-- What cowns come to, by what the first of them comes to.
use Rattle.std.proofs.Common.{◌≡◌, ℕ, zero, suc, ◌+◌, ◌≤◌, ◌⊎◌, inl, inr, List, [], ◌∷◌, ◌++◌, length, take, drop, slice_get, Option, Some, None}
use Rattle.std.proofs.Common.{Result, Ok, Err, refl, sym, ◌∙◌, ap, subst, arith}
use Rattle.std.proofs.lemmas.List.{append_assoc, append-nil, drop_more, take_all, take-append-drop}
use Rattle.std.proofs.lemmas.Option.{slice_get_within, get_or_from_slice_get}
use Rattle.rg_io.specs.Files.{Told, FileMap, file_bytes, SameFiles, HasFile, BegunAre}
use Rattle.rg_tree.specs.Tree.{Tree}
use Rattle.rg_cown.specs.Cargo.{CargoList}
use Rattle.rg_plan.specs.declared.cown.Start.{Start}
use Rattle.rg_plan.specs.declared.cown.Start.TheVariants.{New, Image}
use Rattle.rg_plan.specs.declared.cown.Cown.{Cown}
use Rattle.rg_words.specs.declared.status.Status.{Status}
use Rattle.rg_loading.specs.Loading.{Failing, in_front, FirstComes, LoadsCome, with_name, file_names}
use Rattle.rg_loading.specs.Files.{HaveFiles, CownsCome, OpensFor, StartComes, status_of, IsUnread}

-- files that tell the same

file-before : (old mid : Option Told) (name bytes : List ℕ) → SameFiles old mid → HasFile mid name bytes → HasFile old name bytes
file-before None mid name bytes same h = tt
file-before (Some a) None name bytes same h = absurd same
file-before (Some a) (Some b) name bytes same h =
    let P : FileMap → Type 0 = λ m. file_bytes m name ≡ Some bytes in subst P same h

pub same-after : (old mid new : Option Told) → SameFiles old mid → SameFiles mid new → SameFiles old new
same-after None mid new same then = let P : Option Told → Type 0 = λ x. SameFiles x new in subst P same then
same-after (Some a) None new same then = absurd same
same-after (Some a) (Some b) None same then = absurd then
same-after (Some a) (Some b) (Some c) same then = then ∙ same

-- a cown comes to what it came to behind the files of others
pub start-before : (old mid : Option Told) (t : Tree) (c : Cown) (s : Start) (r : Result CargoList Failing) → SameFiles old mid →
    StartComes mid t c s r → StartComes old t c s r
start-before old mid t c (New manager) r same h = h
start-before old mid t c (Image name) r same h = (h.0, file-before old mid name h.0 same h.1, h.2)

-- one cown, and those behind it

comes-start : (told : Option Told) (t : Tree) (c : Cown) (s : Start) (cs : List Cown) (x : CargoList) (r : Result (List CargoList) Failing) →
    StartComes told t c s (Ok x) → CownsCome told t cs r →
    (files : List (List ℕ)) × HaveFiles told (with_name s (file_names cs)) files
    × FirstComes t c s (λ fs q. LoadsCome t cs fs q) files (in_front (x ∷ []) r)
comes-start told t c (New manager) cs x r h g =
    let same : x ≡ record { cells = []; managers = [] } = cc in
    (g.0, g.1, (r, g.2, ap (λ y. in_front (y ∷ []) r) same))
comes-start told t c (Image name) cs x r h g = (h.0 ∷ g.0, (h.1, g.1), (Ok x, h.2, (r, g.2, refl)))

pub first-comes : (told : Option Told) (t : Tree) (c : Cown) (cs : List Cown) (x : CargoList) (r : Result (List CargoList) Failing) →
    StartComes told t c c.start (Ok x) → CownsCome told t cs r → CownsCome told t (c ∷ cs) (in_front (x ∷ []) r)
first-comes told t c cs x r h g = comes-start told t c c.start cs x r h g

fails-start : (told : Option Told) (t : Tree) (c : Cown) (s : Start) (cs : List Cown) (why : Failing) → StartComes told t c s (Err why) →
    (files : List (List ℕ)) × HaveFiles told (with_name s (file_names cs)) files
    × FirstComes t c s (λ fs q. LoadsCome t cs fs q) files (Err why)
fails-start told t c (New manager) cs why h = cc
fails-start told t c (Image name) cs why h = (h.0 ∷ [], (h.1, tt), (Err why, h.2, (refl, refl)))

pub first-fails : (told : Option Told) (t : Tree) (c : Cown) (cs : List Cown) (why : Failing) → StartComes told t c c.start (Err why) →
    CownsCome told t (c ∷ cs) (Err why)
first-fails told t c cs why h = fails-start told t c c.start cs why h

-- contents in front of contents

no-front : (r : Result (List CargoList) Failing) → in_front [] r ≡ r
no-front (Ok xs) = refl
no-front (Err why) = refl

more-front : (xs ys : List CargoList) (r : Result (List CargoList) Failing) → in_front xs (in_front ys r) ≡ in_front (xs ++ ys) r
more-front xs ys (Ok zs) = ap Ok (sym (append_assoc xs ys zs))
more-front xs ys (Err why) = refl

-- The first cowns, so many, came to contents: what others come to, these with those behind them come to behind these.
abbrev pub Lead : Option Told → Tree → (cowns : List Cown) → (at : ℕ) → List CargoList → Type 0
Lead told t cowns at images =
    (behind : List Cown) (r : Result (List CargoList) Failing) → CownsCome told t behind r →
    CownsCome told t (take at cowns ++ behind) (in_front images r)

pub none-lead : (told : Option Told) (t : Tree) (cowns : List Cown) → Lead told t cowns 0 []
none-lead told t cowns behind r h = let P : Result (List CargoList) Failing → Type 0 = λ q. CownsCome told t behind q in subst P (sym (no-front r)) h

-- the cowns behind one, and those up to it
drop-at : (xs : List Cown) (n : ℕ) (x : Cown) → slice_get xs n ≡ Some x → drop n xs ≡ x ∷ drop (n + 1) xs
drop-at xs n x there =
    drop_more xs n x (slice_get_within xs n x there) ∙ ap (λ z. z ∷ drop (n + 1) xs) (get_or_from_slice_get xs n x x there)

take-next : (xs : List Cown) (n : ℕ) (x : Cown) → slice_get xs n ≡ Some x → take (suc n) xs ≡ take n xs ++ x ∷ []
take-next [] n x there = cc
take-next (y ∷ ys) zero x there = let same : y ≡ x = cc in ap (λ z. z ∷ []) same
take-next (y ∷ ys) (suc n) x there = ap (λ zs. y ∷ zs) (take-next ys n x there)

take-at : (xs : List Cown) (n : ℕ) (x : Cown) → slice_get xs n ≡ Some x → take (n + 1) xs ≡ take n xs ++ x ∷ []
take-at xs n x there = let one_more : n + 1 ≡ suc n = omega arith in ap (λ k. take k xs) one_more ∙ take-next xs n x there

pub one-leads : (told : Option Told) (t : Tree) (cowns : List Cown) (at : ℕ) (images more : List CargoList) (c : Cown) (x : CargoList) →
    slice_get cowns at ≡ Some c → StartComes told t c c.start (Ok x) → more ≡ images ++ x ∷ [] → Lead told t cowns at images →
    Lead told t cowns (at + 1) more
one-leads told t cowns at images more c x there h grown lead behind r g =
    let P : List Cown → Type 0 = λ cs. CownsCome told t cs (in_front more r) in
    let Q : Result (List CargoList) Failing → Type 0 = λ q. CownsCome told t (take at cowns ++ c ∷ behind) q in
    let here : take at cowns ++ c ∷ behind ≡ take (at + 1) cowns ++ behind =
    sym (append_assoc (take at cowns) (c ∷ []) behind) ∙ ap (λ cs. cs ++ behind) (sym (take-at cowns at c there)) in
    let front = more-front images (x ∷ []) r ∙ ap (λ ys. in_front ys r) (sym grown) in
    subst P here (subst Q front (lead (c ∷ behind) (in_front (x ∷ []) r) (first-comes told t c behind x r h g)))

pub one-ends : (told : Option Told) (t : Tree) (cowns : List Cown) (at : ℕ) (images : List CargoList) (c : Cown) (why : Failing) →
    slice_get cowns at ≡ Some c → StartComes told t c c.start (Err why) → Lead told t cowns at images → CownsCome told t cowns (Err why)
one-ends told t cowns at images c why there h lead =
    let P : List Cown → Type 0 = λ cs. CownsCome told t cs (Err why) in
    let here : take at cowns ++ c ∷ drop (at + 1) cowns ≡ cowns =
    ap (λ cs. take at cowns ++ cs) (sym (drop-at cowns at c there)) ∙ take-append-drop at cowns in
    subst P here (lead (c ∷ drop (at + 1) cowns) (Err why) (first-fails told t c (drop (at + 1) cowns) why h))

-- what the first ones come to alone
pub first-lead : (told : Option Told) (t : Tree) (cowns : List Cown) (at : ℕ) (images : List CargoList) → Lead told t cowns at images →
    CownsCome told t (take at cowns) (Ok images)
first-lead told t cowns at images lead =
    let P : List Cown → Type 0 = λ cs. CownsCome told t cs (Ok images) in
    let Q : List CargoList → Type 0 = λ xs. CownsCome told t (take at cowns ++ []) (Ok xs) in
    subst P (append-nil (take at cowns)) (subst Q (append-nil images) (lead [] (Ok []) ([], tt, (refl, refl))))

-- no cown is left
pub all-lead : (told : Option Told) (t : Tree) (cowns : List Cown) (at : ℕ) (images : List CargoList) → length cowns ≤ at →
    Lead told t cowns at images → CownsCome told t cowns (Ok images)
all-lead told t cowns at images all lead =
    let P : List Cown → Type 0 = λ cs. CownsCome told t cs (Ok images) in subst P (take_all at cowns all) (first-lead told t cowns at images lead)

-- the files that are opened

with-name : (s : Start) (names : List (List ℕ)) → with_name s names ≡ with_name s [] ++ names
with-name (New manager) names = refl
with-name (Image name) names = refl

file_names-append : (front behind : List Cown) → file_names (front ++ behind) ≡ file_names front ++ file_names behind
file_names-append [] behind = refl
file_names-append (c ∷ cs) behind =
    ap (with_name c.start) (file_names-append cs behind) ∙ with-name c.start (file_names cs ++ file_names behind)
    ∙ sym (append_assoc (with_name c.start []) (file_names cs) (file_names behind))
    ∙ ap (λ names. names ++ file_names behind) (sym (with-name c.start (file_names cs)))

-- a cown's file is opened behind those of the cowns in front of it
pub opened-next : (cowns : List Cown) (at : ℕ) (c : Cown) (old mid new : List (List ℕ)) → slice_get cowns at ≡ Some c →
    mid ≡ old ++ file_names (take at cowns) → new ≡ mid ++ with_name c.start [] → new ≡ old ++ file_names (take (at + 1) cowns)
opened-next cowns at c old mid new there before then =
    then ∙ ap (λ names. names ++ with_name c.start []) before ∙ append_assoc old (file_names (take at cowns)) (with_name c.start [])
    ∙ ap (λ names. old ++ names) (sym (file_names-append (take at cowns) (c ∷ [])) ∙ ap file_names (sym (take-at cowns at c there)))

-- the first ones came to contents, and the next one was looked at
pub opened-for : (told : Option Told) (t : Tree) (cowns : List Cown) (at : ℕ) (images : List CargoList) (c : Cown) (old mid new : List (List ℕ)) →
    slice_get cowns at ≡ Some c → Lead told t cowns at images → mid ≡ old ++ file_names (take at cowns) → new ≡ mid ++ with_name c.start [] →
    BegunAre (OpensFor told t cowns) old new
opened-for told t cowns at images c old mid new there lead before then = (
  file_names (take (at + 1) cowns),
  (at, (images, first-lead told t cowns at images lead), refl),
  opened-next cowns at c old mid new there before then,
)

-- all came to contents
pub opened-all : (told : Option Told) (t : Tree) (cowns : List Cown) (at : ℕ) (images : List CargoList) (old new : List (List ℕ)) →
    length cowns ≤ at → Lead told t cowns at images → new ≡ old ++ file_names (take at cowns) → BegunAre (OpensFor told t cowns) old new
opened-all told t cowns at images old new all lead begun =
    let whole : take at cowns ≡ take (at + 1) cowns = take_all at cowns all ∙ sym (take_all (at + 1) cowns (omega arith)) in
    (file_names (take at cowns), (at, (images, first-lead told t cowns at images lead), ap file_names whole), begun)

-- the status of a cown is that of all
pub status-ends : (told mid : Option Told) (t : Tree) (cowns : List Cown) (at : ℕ) (images : List CargoList) (c : Cown) (s : Status) →
    SameFiles told mid → slice_get cowns at ≡ Some c → Lead told t cowns at images →
    ((why : Failing) × StartComes mid t c c.start (Err why) × (s ≡ status_of why)) ⊎ IsUnread s →
    ((why : Failing) × CownsCome told t cowns (Err why) × (s ≡ status_of why)) ⊎ IsUnread s
status-ends told mid t cowns at images c s same there lead (inl h) =
    inl (h.0, one-ends told t cowns at images c h.0 there (start-before told mid t c c.start (Err h.0) same h.1) lead, h.2)
status-ends told mid t cowns at images c s same there lead (inr h) = inr h
