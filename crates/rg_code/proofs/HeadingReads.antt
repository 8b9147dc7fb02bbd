-- Headings: those of names behind names, and the lines from one address on.
use Rattle.std.proofs.Common.{◌≡◌, refl, sym, ◌∙◌, ap, ℕ, suc, ◌+◌, ◌<◌, List, [], ◌∷◌, ◌++◌, map, length, drop, get_or, slice_get, Some}
use Rattle.std.proofs.Common.{append_assoc, arith}
use Rattle.std.proofs.lemmas.List.{append-nil, drop-drop, length-append, length-map, map-append}
use Rattle.std.proofs.lemmas.Option.{slice_get-get_or}
use Rattle.rg_base.proofs.Callers.Lists.{drop-get}
use Rattle.rg_tree.specs.Tree.{Name, Member, field, method, Class}
use Rattle.rg_code.specs.declared.op.Op.{Op}
use Rattle.rg_code.specs.declared.code.Entry.{Entry}
use Rattle.rg_code.specs.declared.headings.Heading as kept
use Rattle.rg_code.specs.Listing.{Heading, headings, member_names, method_names, heading_at, op_line, headings_behind, lines}
use Rattle.rg_code.specs.Inner.Headings.{shown, with_headings}

-- without names there is no heading
pub headings-nil : (es : List Entry) → headings es [] ≡ []
headings-nil [] = refl
headings-nil (e ∷ es) = refl

-- the headings of names, and then of further names
pub headings-append : (es : List Entry) (xs ys : List Name)
    → headings es (xs ++ ys) ≡ headings es xs ++ headings (drop (length (headings es xs)) es) ys
headings-append [] xs ys = refl
headings-append (e ∷ es) [] ys = refl
headings-append (e ∷ es) (x ∷ xs) ys = ap (λ hs. record { at = e.at; name = x } ∷ hs) (headings-append es xs ys)

-- no name adds no heading
pub with_headings-nil : (es : List Entry) (done : List Heading) → with_headings es done [] ≡ done
with_headings-nil es done = ap (λ hs. done ++ hs) (headings-nil (drop (length done) es)) ∙ append-nil done

-- the headings of names are added, and then those of further names
pub with_headings-append : (es : List Entry) (done : List Heading) (xs ys : List Name)
    → with_headings es (with_headings es done xs) ys ≡ with_headings es done (xs ++ ys)
with_headings-append es done xs ys =
    let rest = drop (length done) es in
    let hs = headings rest xs in
    let behind : drop (length (done ++ hs)) es ≡ drop (length hs) rest =
    ap (λ n. drop n es) (length-append done hs) ∙ sym (drop-drop (length hs) (length done) es) in
    ap (λ es'. (done ++ hs) ++ headings es' ys) behind ∙ append_assoc done hs _ ∙ ap (λ hs'. done ++ hs') (sym (headings-append rest xs ys))

-- what is done gains the headings of names
pub with_headings-step : (es : List Entry) (done new all : List Heading) (xs ys : List Name)
    → new ≡ with_headings es done xs → with_headings es done (xs ++ ys) ≡ all → with_headings es new ys ≡ all
with_headings-step es done new all xs ys e h = ap (λ hs. with_headings es hs ys) e ∙ (with_headings-append es done xs ys ∙ h)

-- the next entry gets its heading
pub with_headings-push : (es : List Entry) (items : List kept.Heading) (e : Entry) (h : kept.Heading) (x : Name)
    → slice_get es (length items) ≡ Some e
    → shown h ≡ record { at = e.at; name = x } → map shown (items ++ h ∷ []) ≡ with_headings es (map shown items) (x ∷ [])
with_headings-push es items e h x there same =
    let n = length items in
    let rest : drop (length (map shown items)) es ≡ e ∷ drop (suc n) es = ap (λ k. drop k es) (length-map items shown) ∙ drop-get es n e there in
    map-append shown items (h ∷ []) ∙ (ap (λ hs. map shown items ++ hs)
    (ap (λ one. one ∷ []) same ∙ ap (λ hs. record { at = e.at; name = x } ∷ hs) (sym (headings-nil (drop (suc n) es)))
    ∙ ap (λ es'. headings es' (x ∷ [])) (sym rest)))

-- the names of a member, and then of those behind it
pub member_names-next : (c : Name) (m : Member) (ms : List Member) → member_names c (m ∷ ms) ≡ member_names c (m ∷ []) ++ member_names c ms
member_names-next c (field f) ms = refl
member_names-next c (method m) ms = refl

-- the headings of a list are done where no name is left
pub with_headings-end : (es : List Entry) (hs all : List Heading) (xs : List Name) → xs ≡ [] → with_headings es hs xs ≡ all → hs ≡ all
with_headings-end es hs all xs none h = sym (with_headings-nil es hs) ∙ ap (with_headings es hs) (sym none) ∙ h

-- the next member of a class, of a number among these, has its headings
pub member-step : (es : List Entry) (c : Name) (member : ℕ → Member) (ks : List ℕ) (i : ℕ) (done new all : List Heading) → i < length ks
    → new ≡ with_headings es done (member_names c (member (get_or ks i 0) ∷ []))
    → with_headings es done (member_names c (map member (drop i ks))) ≡ all
    → with_headings es new (member_names c (map member (drop (i + 1) ks))) ≡ all
member-step es c member ks i done new all l e h =
    let s : i + 1 ≡ suc i = omega arith in
    let k = get_or ks i 0 in
    let r : drop i ks ≡ k ∷ drop (suc i) ks = drop-get ks i k (slice_get-get_or ks i 0 l) in
    let names : member_names c (map member (drop i ks)) ≡ member_names c (member k ∷ []) ++ member_names c (map member (drop (suc i) ks)) =
    ap (λ js. member_names c (map member js)) r ∙ member_names-next c (member k) (map member (drop (suc i) ks)) in
    rw s (with_headings-step es done new all _ _ e (ap (with_headings es done) (sym names) ∙ h))

-- the next class has its headings
pub class-step : (es : List Entry) (cs : List Class) (c : Class) (i : ℕ) (done new all : List Heading) → slice_get cs i ≡ Some c
    → new ≡ with_headings es done (member_names c.name c.members)
    → with_headings es done (method_names (drop i cs)) ≡ all → with_headings es new (method_names (drop (i + 1) cs)) ≡ all
class-step es cs c i done new all there e h =
    let s : i + 1 ≡ suc i = omega arith in
    rw s (with_headings-step es done new all _ _ e (ap (λ ds. with_headings es done (method_names ds)) (sym (drop-get cs i c there)) ∙ h))

-- a list in four parts
regroup : (a b c d : List ℕ) → ((a ++ b) ++ c) ++ d ≡ a ++ ((b ++ c) ++ d)
regroup a b c d = ap (λ x. x ++ d) (append_assoc a b c) ∙ append_assoc a (b ++ c) d

-- the line of an instruction with the heading in front of it, and then the lines behind it
pub lines-next : (hs hs' : List Heading) (at : ℕ) (os : List Op) (o : Op) (out headed new all : List ℕ) → slice_get os at ≡ Some o
    → hs' ≡ headings_behind at hs → headed ≡ out ++ heading_at at hs → new ≡ headed ++ op_line at o
    → out ++ lines hs at (drop at os) ≡ all → new ++ lines hs' (at + 1) (drop (at + 1) os) ≡ all
lines-next hs hs' at os o out headed new all there behind front line h =
    let s : at + 1 ≡ suc at = omega arith in
    let rest = lines (headings_behind at hs) (suc at) (drop (suc at) os) in
    let whole : out ++ ((heading_at at hs ++ op_line at o) ++ rest) ≡ all = rw (drop-get os at o there) at h in
    rw (s, behind, line, front) (regroup out (heading_at at hs) (op_line at o) rest ∙ whole)
