-- A program is read by its rows: its classes, and main.
use Rattle.std.proofs.Common.{◌≡◌, ◌≢◌, ℕ, List, [], ◌∷◌, ◌++◌, length, Option, Some, None, refl, sym, ◌∙◌, ap, subst, append_assoc, append-nil}
use Rattle.rg_base.specs.declared.words.Manager.{Manager}
use Rattle.rg_base.specs.declared.words.Keyword.TheVariants as w
use Rattle.rg_base.specs.declared.token.Kind.{Kind}
use Rattle.rg_base.specs.declared.token.Kind.TheVariants as k
use Rattle.rg_base.specs.declared.token.Token.{Token}
use Rattle.rg_tree.specs.declared.counts.Counts.{Counts}
use Rattle.rg_tree.specs.declared.rows.Span.{Span}
use Rattle.rg_tree.specs.declared.rows.ClassRow.{ClassRow}
use Rattle.rg_tree.specs.Tree.{Class, Tree}
use Rattle.rg_tree.specs.Forms as form
use Rattle.rg_tree.specs.Phrases.{the}
use Rattle.rg_tree.specs.Phrases as p
use Rattle.rg_tree.specs.Grammar.{Reads, with_class, program_class, program_main}
use Rattle.rg_tree.specs.Stuck.{line_at}
use Rattle.rg_tree.specs.Rows.RowTrees.{classes_of, block_of, program_of}
use Rattle.rg_tree.specs.Table.{next, row}
use Rattle.rg_tree.specs.Rows.Tables.{Tables}
use Rattle.rg_tree.proofs.Programs.{length-classes_of}
use Rattle.rg_tree.proofs.TreesFrom.{Begins-whole}
use Rattle.rg_reader.specs.declared.reader.halt.Halt.{Halt}
use Rattle.rg_parse.specs.Inner.Readings.{FoundClass, FoundBlock}
use Rattle.rg_reader.specs.Readings.{FoundManager}
use Rattle.rg_parse.specs.Inner.Programs.{FoundMain}
use Rattle.rg_reader.specs.Steps.{Classed, classed}
use Rattle.rg_reader.specs.Steps.{State, Took, took, found, Extends, Halts}
use Rattle.rg_reader.proofs.Growing.{extends-same}
use Rattle.rg_reader.proofs.Halting.{halts-row, halts-here, halts-found, halts-tables}
use Rattle.rg_reader.proofs.Loops.{st}

-- where tables grow by no class, the classes stay
pub classes-stay : {t u : Tables} → Extends t u → classes_of u ≡ classes_of t
classes-stay {t} {u} g = Begins-whole g.keeps.classes (length-classes_of t ∙ ap length (sym g.classes) ∙ sym (length-classes_of u))

-- The classes so far are those of the tables, and a reading of the rest gives one of the program.
pub data AlongProgram : State → State → Type 0 where
  along_program : {source : List ℕ} {ts us : List Token} {c d : Counts} {u v : Tables} (done : List Class) → classes_of v ≡ done
      → ((r : Tree) (e : Counts) → Reads source form.Program d us r e []
      → Reads source form.Program c ts (record r { classes = done ++ r.classes }) e [])
      → ((e : Halt) (b : State) → Halts (the p.Program ∷ []) (st source us d v) e b → Halts (the p.Program ∷ []) (st source ts c u) e b)
      → AlongProgram (st source ts c u) (st source us d v)

pub program-start : (a : State) → classes_of a.tables ≡ [] → AlongProgram a a
program-start a e = along_program [] e (λ r d q. q) (λ e b h. h)

-- a class begins with one of two words
pub class-row : (o : Option Kind) → o ≢ Some (k.Word w.Main) → row p.Class o ≢ None → row p.Program o ≡ Some (the p.Class ∷ the p.Program ∷ [])
class-row (Some (k.Word w.Class)) h i = refl
class-row (Some (k.Word w.Tmp)) h i = refl
class-row (Some (k.Word w.Main)) h i = absurd (h refl)
class-row _ h i = absurd (i refl)

pub no-class : (o : Option Kind) → o ≢ Some (k.Word w.Main) → o ≢ Some (k.Word w.Class) → o ≢ Some (k.Word w.Tmp) → row p.Program o ≡ None
no-class (Some (k.Word w.Main)) h i j = absurd (h refl)
no-class (Some (k.Word w.Class)) h i j = absurd (i refl)
no-class (Some (k.Word w.Tmp)) h i j = absurd (j refl)
no-class _ h i j = refl

-- what a program begins with begins a class
pub by-class_halts : {a b : State} (x : Kind) (e : Halt) → next a.rest ≡ Some x → row p.Program (Some x) ≡ Some (the p.Class ∷ the p.Program ∷ [])
    → Halts (the p.Class ∷ []) a e b → Halts (the p.Program ∷ []) a e b
by-class_halts {a} x e i j h = halts-row a e (ap (row p.Program) i ∙ j) (halts-here e h)

pub program-step : {a m n o : State} {x : ClassRow} → AlongProgram a m → row p.Program (next m.rest) ≡ Some (the p.Class ∷ the p.Program ∷ [])
    → FoundClass m x n → Classed n x o → AlongProgram a o
program-step (along_program {source = source} {us = us} {d = d} {v = v} done e reads halts) i (found {v = u} y r m g) (classed f) =
    let here = m.is u (extends-same u).keeps in
    along_program (done ++ y ∷ []) (f ∙ ap (λ z. classes_of u ++ z ∷ []) here ∙ ap (λ z. z ++ y ∷ []) (classes-stay g ∙ e))
    (λ t c q. rw (append_assoc done (y ∷ []) t.classes) (reads (with_class y t) c (program_class r q)))
    (λ e b h. halts e b (halts-row (st source us d v) e i (halts-found form.Class e tt (found y r m g) (halts-tables _ u e h))))

pub program-stop : {a m b : State} (e : Halt) → AlongProgram a m → Halts (the p.Program ∷ []) m e b → Halts (the p.Program ∷ []) a e b
program-stop {b = b} e (along_program done f reads halts) h = halts e b h

-- main

pub main-found : {a b c d : State} {x : Manager} {y : Span} (line : ℕ) (t : Tables) → line ≡ line_at 0 a.rest → Took (k.Word w.Main) a b
    → FoundManager b x c → FoundBlock c y d → d.rest ≡ []
    → program_of t ≡ record (program_of d.tables) { manager = x; body = block_of d.tables y; line = line }
    → FoundMain a t
main-found {a} line t e (took {source = source} {t = z} {ts = ts} {c = c} i h) (found {us = ms} {d = mc} m r2 m2 g2)
    (found {us = us} {d = f} {v = v} b r3 m3 g3) n q =
    let here = m3.is v (extends-same v).keeps in
    let there = m2.is v g3.keeps in
    let stays = classes-stay g2 in
    let stay = classes-stay g3 in
    record {
      tree = record { classes = []; manager = m; body = b; line = z.line };
      counts = f;
      reads = program_main h r2 (subst (λ zs. Reads source form.Block mc ms b f zs) n r3);
      none = refl;
      is = q ∙ cc;
    }

pub program-end : {a m : State} (t : Tables) → AlongProgram a m → FoundMain m t
    → (c : Counts) × Reads a.source form.Program a.counts a.rest (program_of t) c []
program-end t (along_program {source = source} {ts = ts} {c = c} done e reads halts) f =
    let all : program_of t ≡ record (f.tree) { classes = done ++ f.tree.classes } =
    f.is ∙ ap (λ xs. record (f.tree) { classes = xs }) (e ∙ sym (ap (λ ys. done ++ ys) f.none ∙ append-nil done)) in
    (f.counts, rw all (reads f.tree f.counts f.reads))
