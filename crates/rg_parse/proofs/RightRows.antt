-- Right sides are read by their rows.
use Rattle.std.proofs.Common.{◌≡◌, Bool, true, false, ℕ, List, [], ◌∷◌, Option, Some, None, refl, ap, ◌∙◌}
use Rattle.rg_base.specs.declared.words.Manager.{Manager}
use Rattle.rg_base.specs.declared.words.Keyword.TheVariants as w
use Rattle.rg_base.specs.declared.token.Kind.{Kind}
use Rattle.rg_base.specs.declared.token.Kind.TheVariants as k
use Rattle.rg_tree.specs.declared.rows.CallRow.{CallRow}
use Rattle.rg_tree.specs.declared.rows.Right.{Right}
use Rattle.rg_tree.specs.declared.rows.Right.TheVariants as right_row
use Rattle.rg_tree.specs.Tree.{value, new, new_tmp, new_iso, freeze, merge, read, more, result_of}
use Rattle.rg_tree.specs.Phrases.{Symbol, word, name, the}
use Rattle.rg_tree.specs.Phrases as p
use Rattle.rg_tree.specs.Grammar.{text, new_row, freeze_row, merge_row, input_row, result_row, value_row, new_plain, new_temporary, new_region}
use Rattle.rg_tree.specs.Table.{next, row}
use Rattle.rg_parse.specs.Inner.Starts.{right_start, new_start}
use Rattle.rg_parse.specs.declared.starts.RightStart.{RightStart}
use Rattle.rg_parse.specs.declared.starts.NewStart.{NewStart}
use Rattle.std.proofs.lemmas.Bool.{false≢true}
use Rattle.rg_parse.specs.declared.starts.RightStart.TheVariants as right
use Rattle.rg_parse.specs.declared.starts.NewStart.TheVariants as new_kind
use Rattle.rg_parse.specs.Inner.Readings.{FoundRight, FoundNew}
use Rattle.rg_reader.specs.Readings.{FoundIndex, FoundCall, FoundExpr, FoundManager}
use Rattle.rg_reader.specs.Steps.{State, Took, took, Used, used, found}
use Rattle.rg_reader.proofs.Growing.{extends-same, extends-trans, means-later}

-- the row of each start

abbrev row_of_right : RightStart → Option (List Symbol)
row_of_right right.New = Some (word w.New ∷ the p.New ∷ [])
row_of_right right.Freeze = Some (word w.Freeze ∷ name ∷ [])
row_of_right right.Merge = Some (word w.Merge ∷ name ∷ [])
row_of_right right.Read = Some (word w.Read ∷ [])
row_of_right right.More = Some (word w.More ∷ [])
row_of_right right.Call = Some (the p.Call ∷ [])
row_of_right right.Value = Some (the p.Expr ∷ [])

right-rows : (o : Option Kind) → row p.Right o ≡ row_of_right (right_start o)
right-rows (Some (k.Word w.New)) = refl
right-rows (Some (k.Word w.Freeze)) = refl
right-rows (Some (k.Word w.Merge)) = refl
right-rows (Some (k.Word w.Read)) = refl
right-rows (Some (k.Word w.More)) = refl
right-rows (Some (k.Word w.Call)) = refl
right-rows _ = refl

abbrev row_of_new : NewStart → Option (List Symbol)
row_of_new new_kind.Plain = Some (name ∷ the p.At ∷ [])
row_of_new new_kind.Tmp = Some (word w.Tmp ∷ name ∷ the p.At ∷ [])
row_of_new new_kind.Iso = Some (word w.Iso ∷ name ∷ the p.At ∷ word w.In ∷ the p.Manager ∷ [])
row_of_new new_kind.Nothing = None

new-rows : (o : Option Kind) → row p.New o ≡ row_of_new (new_start o)
new-rows (Some k.Name) = refl
new-rows (Some (k.Word w.Tmp)) = refl
new-rows (Some (k.Word w.Iso)) = refl
new-rows _ = refl

abbrev is_call : RightStart → Bool
is_call right.Call = true
is_call _ = false

pub new-row : (o : Option Kind) → right_start o ≡ right.New → row p.Right o ≡ Some (word w.New ∷ the p.New ∷ [])
new-row o e = right-rows o ∙ ap row_of_right e

pub freeze-row : (o : Option Kind) → right_start o ≡ right.Freeze → row p.Right o ≡ Some (word w.Freeze ∷ name ∷ [])
freeze-row o e = right-rows o ∙ ap row_of_right e

pub merge-row : (o : Option Kind) → right_start o ≡ right.Merge → row p.Right o ≡ Some (word w.Merge ∷ name ∷ [])
merge-row o e = right-rows o ∙ ap row_of_right e

pub read-row : (o : Option Kind) → right_start o ≡ right.Read → row p.Right o ≡ Some (word w.Read ∷ [])
read-row o e = right-rows o ∙ ap row_of_right e

pub more-row : (o : Option Kind) → right_start o ≡ right.More → row p.Right o ≡ Some (word w.More ∷ [])
more-row o e = right-rows o ∙ ap row_of_right e

pub call-row : (o : Option Kind) → right_start o ≡ right.Call → row p.Right o ≡ Some (the p.Call ∷ [])
call-row o e = right-rows o ∙ ap row_of_right e

pub value-row : (o : Option Kind) → right_start o ≡ right.Value → row p.Right o ≡ Some (the p.Expr ∷ [])
value-row o e = right-rows o ∙ ap row_of_right e

-- the next token begins a call
pub call-next : (o : Option Kind) → right_start o ≡ right.Call → o ≡ Some (k.Word w.Call)
call-next (Some (k.Word w.Call)) e = refl
call-next _ e = absurd (false≢true (ap is_call e))

pub new_plain-row : (o : Option Kind) → new_start o ≡ new_kind.Plain → row p.New o ≡ Some (name ∷ the p.At ∷ [])
new_plain-row o e = new-rows o ∙ ap row_of_new e

pub new_tmp-row : (o : Option Kind) → new_start o ≡ new_kind.Tmp → row p.New o ≡ Some (word w.Tmp ∷ name ∷ the p.At ∷ [])
new_tmp-row o e = new-rows o ∙ ap row_of_new e

pub new_iso-row : (o : Option Kind) → new_start o ≡ new_kind.Iso
    → row p.New o ≡ Some (word w.Iso ∷ name ∷ the p.At ∷ word w.In ∷ the p.Manager ∷ [])
new_iso-row o e = new-rows o ∙ ap row_of_new e

pub no-new : (o : Option Kind) → new_start o ≡ new_kind.Nothing → row p.New o ≡ None
no-new o e = new-rows o ∙ ap row_of_new e

pub new-found : {a m b : State} {r : Right} → Took (k.Word w.New) a m → FoundNew m r b → FoundRight a r b
new-found (took i h) (found x r n g) = found x (new_row h r) n g

pub freeze-found : {a m b : State} {n : ℕ} → Took (k.Word w.Freeze) a m → Used m n b → FoundRight a (right_row.Freeze n) b
freeze-found (took i h) (used {source = source} {t = t} j n l) =
    found (freeze (text source t)) (freeze_row h j) (record { is = λ u z. ap freeze (n.is u z); there = n.there }) l

pub merge-found : {a m b : State} {n : ℕ} → Took (k.Word w.Merge) a m → Used m n b → FoundRight a (right_row.Merge n) b
merge-found (took i h) (used {source = source} {t = t} j n l) =
    found (merge (text source t)) (merge_row h j) (record { is = λ u z. ap merge (n.is u z); there = n.there }) l

pub read-found : {a b : State} → Took (k.Word w.Read) a b → FoundRight a right_row.Read b
read-found (took {u = u} i h) = found read (input_row (rw h refl)) (record { is = λ w z. refl; there = λ w z. tt }) (extends-same u)

pub more-found : {a b : State} → Took (k.Word w.More) a b → FoundRight a right_row.More b
more-found (took {u = u} i h) = found more (input_row (rw h refl)) (record { is = λ w z. refl; there = λ w z. tt }) (extends-same u)

pub call_right-found : {a b : State} {x : CallRow} → FoundCall a x b → FoundRight a (right_row.Call x) b
call_right-found (found x r n g) = found (result_of x) (result_row r) (record { is = λ u z. ap result_of (n.is u z); there = n.there }) g

pub value-found : {a b : State} {e : ℕ} → row p.Right (next a.rest) ≡ Some (the p.Expr ∷ []) → FoundExpr a e b → FoundRight a (right_row.Expr e) b
value-found h (found x r n g) = found (value x) (value_row h r) (record { is = λ u z. ap value (n.is u z); there = n.there }) g

pub new_plain-found : {a m b : State} {n : ℕ} {o : Option ℕ} → Used a n m → FoundIndex m o b → FoundNew a (right_row.New n o) b
new_plain-found (used {source = source} {t = t} j n l) (found x r m g) =
    found (new (text source t) x) (new_plain j r)
    (record {
      is = λ u z. let e = (means-later n g).is u z in let d = m.is u z in cc;
      there = λ u z. ((means-later n g).there u z, m.there u z);
    })
    (extends-trans l g)

pub new_tmp-found : {a m i b : State} {n : ℕ} {o : Option ℕ} → Took (k.Word w.Tmp) a m → Used m n i → FoundIndex i o b
    → FoundNew a (right_row.NewTmp n o) b
new_tmp-found (took i h) (used {source = source} {t = t} j n l) (found x r m g) =
    found (new_tmp (text source t) x) (new_temporary h j r)
    (record {
      is = λ u z. let e = (means-later n g).is u z in let d = m.is u z in cc;
      there = λ u z. ((means-later n g).there u z, m.there u z);
    })
    (extends-trans l g)

pub new_iso-found : {a b c d e f : State} {n : ℕ} {o : Option ℕ} {x : Manager} → Took (k.Word w.Iso) a b → Used b n c → FoundIndex c o d
    → Took (k.Word w.In) d e → FoundManager e x f → FoundNew a (right_row.NewIso n o x) f
new_iso-found (took i h) (used {source = source} {t = t} j n l) (found x r m g) (took i' f) (found y r' q g') =
    let later = extends-trans g g' in
    found (new_iso (text source t) x y) (new_region h j r f r')
    (record {
      is = λ u z. let e = (means-later n later).is u z in let d = (means-later m g').is u z in let c = q.is u z in cc;
      there = λ u z. ((means-later n later).there u z, (means-later m g').there u z);
    })
    (extends-trans l later)
