-- Types, capabilities and managers are read by their rows.
use Rattle.std.proofs.Common.{◌≡◌, ℕ, List, [], ◌∷◌, Option, Some, None, Ok, refl, sym, ◌∙◌, ap, subst}
use Rattle.rg_base.specs.declared.words.Cap.{Cap}
use Rattle.rg_base.specs.declared.words.Manager.{Manager}
use Rattle.rg_base.specs.declared.words.Keyword.TheVariants as w
use Rattle.rg_base.specs.declared.words.Sign.TheVariants as s
use Rattle.rg_base.specs.declared.token.Kind.{Kind}
use Rattle.rg_base.specs.declared.token.Kind.TheVariants as k
use Rattle.rg_tree.specs.declared.counts.Counts.{Counts}
use Rattle.rg_tree.specs.declared.rows.TypeRow.{TypeRow}
use Rattle.rg_tree.specs.declared.rows.TypeRow.TheVariants as type_row
use Rattle.rg_tree.specs.Counts.{behind}
use Rattle.rg_tree.specs.Tree.{int, bool, ref}
use Rattle.rg_tree.specs.Forms as form
use Rattle.rg_tree.specs.Phrases.{Symbol, word, name, the}
use Rattle.rg_tree.specs.Phrases as p
use Rattle.rg_tree.specs.Grammar.{Reads, text, cap_row, manager_row, plain_type, ref_type, some_result, no_result}
use Rattle.rg_tree.specs.Operators.{cap_of, manager_of}
use Rattle.rg_tree.specs.Table.{next, row}
use Rattle.rg_tree.specs.Rows.Tables.{Tables}
use Rattle.rg_tree.proofs.ByRows.{cap_of-behind, manager_of-behind}
use Rattle.rg_tree.specs.Adds.{Means}
use Rattle.rg_reader.proofs.Growing.{extends-same, extends-trans, means-later}
use Rattle.rg_reader.specs.Inner.Levels.{NoneNext}
use Rattle.rg_reader.specs.Inner.Starts.{type_start}
use Rattle.rg_reader.specs.declared.reader.starts.TypeStart.{TypeStart}
use Rattle.rg_reader.specs.declared.reader.starts.TypeStart.TheVariants as type
use Rattle.rg_reader.specs.Readings.{FoundCap, FoundManager, FoundType, FoundResult}
use Rattle.rg_reader.specs.Steps.{State, Took, took, took_brace, took_paren, took_bracket, Used, used, found, settled, IsFree}
use Rattle.rg_reader.proofs.Halting.{free-behind}

-- a value that is its own tree
pub means-itself : {V : Type 0} (u : Tables) (v : V) → Means (λ t a. a) (λ t a. Unit {0}) u v v
means-itself u v = record { is = λ w k. refl; there = λ w k. tt }

-- a token behind which the counts stay
pub stays : (x : Kind) (c : Counts) → IsFree x → behind x c ≡ Ok c → settled x c ≡ c
stays x c i e = let h = free-behind x c i in cc

pub cap-found : {a b : State} (x : Kind) (v : Cap) → cap_of x ≡ Some v → Took x a b → FoundCap a v b
cap-found x v e (took {source = source} {t = t} {ts = ts} {c = c} {u = u} i h) =
    let r : Reads source form.Cap c (t ∷ ts) v c ts = cap_row (ap cap_of h ∙ e) in
    found v (subst (λ d. Reads source form.Cap c (t ∷ ts) v d ts) (sym (stays x c i (cap_of-behind x v c e))) r) (means-itself u v) (extends-same u)
cap-found _ v e (took_brace h l) = cc
cap-found _ v e (took_paren h l) = cc
cap-found _ v e (took_bracket h l) = cc

pub manager-found : {a b : State} (x : Kind) (v : Manager) → manager_of x ≡ Some v → Took x a b → FoundManager a v b
manager-found x v e (took {source = source} {t = t} {ts = ts} {c = c} {u = u} i h) =
    let r : Reads source form.Manager c (t ∷ ts) v c ts = manager_row (ap manager_of h ∙ e) in
    found v (subst (λ d. Reads source form.Manager c (t ∷ ts) v d ts) (sym (stays x c i (manager_of-behind x v c e))) r) (means-itself u v)
    (extends-same u)
manager-found _ v e (took_brace h l) = cc
manager-found _ v e (took_paren h l) = cc
manager-found _ v e (took_bracket h l) = cc

-- no row holds

cap_of-no_row : (x : Kind) → cap_of x ≡ None → row p.Cap (Some x) ≡ None
cap_of-no_row (k.Word w.Mut) e = cc
cap_of-no_row (k.Word w.Tmp) e = cc
cap_of-no_row (k.Word w.Paused) e = cc
cap_of-no_row (k.Word w.Imm) e = cc
cap_of-no_row (k.Word w.Iso) e = cc
cap_of-no_row _ e = refl

pub no-cap : (o : Option Kind) → NoneNext cap_of o → row p.Cap o ≡ None
no-cap None h = refl
no-cap (Some x) h = cap_of-no_row x (h x refl)

manager_of-no_row : (x : Kind) → manager_of x ≡ None → row p.Manager (Some x) ≡ None
manager_of-no_row (k.Word w.Arena) e = cc
manager_of-no_row (k.Word w.Count) e = cc
manager_of-no_row (k.Word w.Trace) e = cc
manager_of-no_row _ e = refl

pub no-manager : (o : Option Kind) → NoneNext manager_of o → row p.Manager o ≡ None
no-manager None h = refl
no-manager (Some x) h = manager_of-no_row x (h x refl)

abbrev type_row_of : TypeStart → Option (List Symbol)
type_row_of type.Int = Some (word w.Int ∷ [])
type_row_of type.Bool = Some (word w.Bool ∷ [])
type_row_of type.Ref = Some (the p.Cap ∷ name ∷ [])
type_row_of type.Nothing = None

type-rows : (o : Option Kind) → row p.Type' o ≡ type_row_of (type_start o)
type-rows (Some (k.Word w.Int)) = refl
type-rows (Some (k.Word w.Bool)) = refl
type-rows (Some (k.Word w.Mut)) = refl
type-rows (Some (k.Word w.Tmp)) = refl
type-rows (Some (k.Word w.Paused)) = refl
type-rows (Some (k.Word w.Imm)) = refl
type-rows (Some (k.Word w.Iso)) = refl
type-rows _ = refl

pub no-type : (o : Option Kind) → type_start o ≡ type.Nothing → row p.Type' o ≡ None
no-type o e = type-rows o ∙ ap type_row_of e

-- by rows

pub int-found : {a b : State} → Took (k.Word w.Int) a b → FoundType a type_row.Int b
int-found (took {u = u} i h) = found int (plain_type (rw h refl)) (record { is = λ w k. refl; there = λ w k. tt }) (extends-same u)

pub bool-found : {a b : State} → Took (k.Word w.Bool) a b → FoundType a type_row.Bool b
bool-found (took {u = u} i h) = found bool (plain_type (rw h refl)) (record { is = λ w k. refl; there = λ w k. tt }) (extends-same u)

pub ref-row : (o : Option Kind) → type_start o ≡ type.Ref → row p.Type' o ≡ Some (the p.Cap ∷ name ∷ [])
ref-row o e = type-rows o ∙ ap type_row_of e

pub ref-found : {a m b : State} {v : Cap} {n : ℕ} → FoundCap a v m → Used m n b → FoundType a (type_row.Ref v n) b
ref-found (found x r c k) (used {source = source} {t = t} h n l) =
    found (ref x (text source t)) (ref_type r h)
    (record { is = λ u g. let e = (means-later c l).is u g in let f = n.is u g in cc; there = λ u g. n.there u g })
    (extends-trans k l)

pub no_result-found : (a : State) → next a.rest ≡ Some (k.Mark s.OpenBrace) → FoundResult a None a
no_result-found a e = found None (no_result e) (record { is = λ u k. refl; there = λ u k. tt }) (extends-same a.tables)

pub some_result-found : {a m b : State} {y : TypeRow} → Took (k.Mark s.Colon) a m → FoundType m y b → FoundResult a (Some y) b
some_result-found (took i h) (found x r m k) = found (Some x) (some_result h r) (record { is = λ u g. ap Some (m.is u g); there = m.there }) k

pub no-result : (o : Option Kind) → (o ≡ Some (k.Mark s.Colon) → ⊥) → (o ≡ Some (k.Mark s.OpenBrace) → ⊥) → row p.Result o ≡ None
no-result (Some (k.Mark s.Colon)) h i = absurd (h refl)
no-result (Some (k.Mark s.OpenBrace)) h i = absurd (i refl)
no-result _ h i = refl
