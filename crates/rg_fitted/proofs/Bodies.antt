-- Where the bodies of a program stand in its code, with their maps.
use Rattle.std.proofs.Common.{◌≡◌, refl, sym, ap, ◌∙◌, ℕ, ◌+◌, Bool as Truth, true, false, List, [], ◌∷◌, drop, ◌++◌, length, Option, Some, None}
use Rattle.std.proofs.Common.{append_assoc}
use Rattle.std.proofs.lemmas.Bool.{false≢true}
use Rattle.rg_base.specs.declared.ty.Ty.{Ty}
use Rattle.rg_tree.specs.Tree.{Ty as Written, Method, Class, Tree, Block, empty, stmt, then as next}
use Rattle.rg_rules.specs.Acceptance.{Accepted}
use Rattle.rg_rules.specs.Bodies.{gives_result}
use Rattle.rg_rules.proofs.Acceptance.{Accepted-method}
use Rattle.rg_code.specs.declared.op.Op.{Op}
use Rattle.rg_code.specs.declared.op.Op.TheVariants as i
use Rattle.rg_code.specs.Lowering.{Scope, block_code, method_scope, method_end_code, main_code, Methods, methods_code, lowered}
use Rattle.rg_build.specs.Maps.{is_end_marked, method_maps, methods_maps, maps_of}
use Rattle.rg_build.specs.ModuleOf.{laid}
use Rattle.rg_verify_expressions.specs.Statements.{block_ops}
use Rattle.rg_verify_expressions.specs.Blocks.{Piece}
use Rattle.rg_verify_expressions.specs.Found.{types_of, BlocksHaveTheirCode}
use Rattle.rg_verify_expressions.specs.Standing.{returns, Closes}
use Rattle.rg_numbered.specs.Numbered.{numbered_block}
use Rattle.rg_numbered.specs.ModuleNames.{HasModuleNames}
use Rattle.rg_numbered.specs.Laws.{IsNumbered}
use Rattle.rg_numbered.proofs.Bodies.{accepted-numbered}
use Rattle.rg_fitted.specs.Laws.{end_mark, MapsStand, ModulesFit, given_of, body_code}
use Rattle.rg_fitted.proofs.Callees.{callees-stand}
use Rattle.rg_fitted.proofs.Ends.{ends-returns, closes-by-return, closes-by-mark}
use Rattle.rg_fitted.proofs.Entries.{after, StandsAt, maps_laid, method-entered}
use Rattle.rg_fitted.proofs.Fit.{accepted-fit}

-- code in front of other code is a piece
piece : (ops : List Op) (at : ℕ) (a b : List Op) → drop at ops ≡ a ++ b → Piece ops at a (at + length a)
piece ops at a b h = record { parts = h ∙ ap (λ (q : List Op). a ++ q) (sym (after ops at a b h)); place = refl }

-- the code of a body is that of its block with numbers
numbers-code : BlocksHaveTheirCode → (cs : List Class) (ss : Scope) (m : Truth) (b : _) (at : ℕ) → IsNumbered cs ss m b →
    block_code cs ss at b ≡ block_ops (types_of ss) at (numbered_block cs ss b)
numbers-code law cs ss m b at n = ap (block_code cs ss at) (sym n.named) ∙ law cs ss m at (numbered_block cs ss b) n.found

-- the end of a method
record Ending (r : Option Written) (line : ℕ) (rest : List Op) : Type 0 where
  more : List Op
  same : method_end_code line r ++ rest ≡ end_mark (is_end_marked r) line ++ more

ending : (r : Option Written) (line : ℕ) (rest : List Op) → Ending r line rest
ending None line rest = record { more = i.RetVoid ∷ rest; same = refl }
ending (Some t) line rest = record { more = rest; same = refl }

method-stands : BlocksHaveTheirCode → (cs : List Class) (ops : List Op) (maps : List (List Ty)) (at c : ℕ) (m : Method) →
    IsNumbered cs (method_scope cs c m) true m.body → StandsAt cs ops maps at c m →
    MapsStand cs (method_scope cs c m) (is_end_marked m.result) m.body maps at
method-stands law cs ops maps at c m n s =
    let ss = method_scope cs c m in
    let block = block_code cs ss at m.body in
    let end = ending m.result m.line s.rest in
    let all = method_maps cs c m ++ s.others in
    record {
      line = m.line;
      rest = end.more;
      others = s.others;
      laid_are = s.laid_are ∙ ap (λ (q : List Op). laid q all) (append_assoc block (method_end_code m.line m.result) s.rest)
          ∙ ap (λ (q : List Op). laid (block ++ q) all) end.same
          ∙ ap (λ (q : List Op). laid (q ++ (end_mark (is_end_marked m.result) m.line ++ end.more)) all) (numbers-code law cs ss true m.body at n);
    }

-- a method's code with numbers
method-piece : BlocksHaveTheirCode → (cs : List Class) (ops : List Op) (maps : List (List Ty)) (at c : ℕ) (m : Method) →
    IsNumbered cs (method_scope cs c m) true m.body → StandsAt cs ops maps at c m →
    Piece ops at (body_code cs (method_scope cs c m) at m.body) (at + length (body_code cs (method_scope cs c m) at m.body))
method-piece law cs ops maps at c m n s =
    let ss = method_scope cs c m in
    let block = block_code cs ss at m.body in
    let end = method_end_code m.line m.result in
    piece ops at (body_code cs ss at m.body) (end ++ s.rest)
    (s.code ∙ append_assoc block end s.rest ∙ ap (λ (q : List Op). q ++ (end ++ s.rest)) (numbers-code law cs ss true m.body at n))

-- its end
method-closes_by : (cs : List Class) (ss : Scope) (ops : List Op) (end line : ℕ) (rest : List Op) (r : Option Written) (b : Block) →
    gives_result r b ≡ true → drop end ops ≡ method_end_code line r ++ rest → Closes ops end (returns (numbered_block cs ss b))
method-closes_by cs ss ops end line rest None b g h = closes-by-mark ops end line i.RetVoid rest (returns (numbered_block cs ss b)) h refl
method-closes_by cs ss ops end line rest (Some t) empty g h = absurd (false≢true g)
method-closes_by cs ss ops end line rest (Some t) (next (stmt l k) b) g h =
    closes-by-return ops end (returns (numbered_block cs ss (next (stmt l k) b))) (ends-returns cs ss l k b g)

method-closes : BlocksHaveTheirCode → (cs : List Class) (ops : List Op) (maps : List (List Ty)) (at c : ℕ) (m : Method) →
    IsNumbered cs (method_scope cs c m) true m.body → StandsAt cs ops maps at c m → gives_result m.result m.body ≡ true →
    Closes ops (at + length (body_code cs (method_scope cs c m) at m.body)) (returns (numbered_block cs (method_scope cs c m) m.body))
method-closes law cs ops maps at c m n s g =
    let ss = method_scope cs c m in
    let block = block_code cs ss at m.body in
    let end = method_end_code m.line m.result in
    method-closes_by cs ss ops (at + length (body_code cs ss at m.body)) m.line s.rest m.result m.body g
    (after ops at (body_code cs ss at m.body) (end ++ s.rest)
    (s.code ∙ append_assoc block end s.rest ∙ ap (λ (q : List Op). q ++ (end ++ s.rest)) (numbers-code law cs ss true m.body at n)))

-- main's body, with its maps
module _ (law : BlocksHaveTheirCode) (t : Tree) (a : Accepted t) (n : HasModuleNames t) where
  abbrev cs : List Class
  cs = t.classes

  abbrev block : List Op
  block = block_code cs [] 0 t.body

  abbrev last : List Op
  last = i.Mark t.line ∷ i.End 0 ∷ i.Halt ∷ []

  abbrev others : Methods
  others = methods_code cs (length (main_code t)) 0 cs

  main-stands : MapsStand cs [] true t.body (maps_laid t) 0
  main-stands = record {
    line = t.line;
    rest = i.End 0 ∷ i.Halt ∷ others.ops;
    others = methods_maps cs 0 cs;
    laid_are = ap (λ (q : List Op). laid q (maps_of t)) (append_assoc block last others.ops)
        ∙ ap (λ (q : List Op). laid (q ++ (last ++ others.ops)) (maps_of t)) (numbers-code law cs [] false t.body 0 (accepted-numbered.main t a n));
  }

  main-code : drop 0 (lowered t).ops ≡ body_code cs [] 0 t.body ++ (last ++ others.ops)
  main-code =
      append_assoc block last others.ops
      ∙ ap (λ (q : List Op). q ++ (last ++ others.ops)) (numbers-code law cs [] false t.body 0 (accepted-numbered.main t a n))

  main-piece : Piece (lowered t).ops 0 (body_code cs [] 0 t.body) (0 + length (body_code cs [] 0 t.body))
  main-piece = piece (lowered t).ops 0 (body_code cs [] 0 t.body) (last ++ others.ops) main-code

  main-closes : Closes (lowered t).ops (0 + length (body_code cs [] 0 t.body)) (returns (numbered_block cs [] t.body))
  main-closes =
      closes-by-mark (lowered t).ops (0 + length (body_code cs [] 0 t.body)) t.line (i.End 0) (i.Halt ∷ others.ops)
      (returns (numbered_block cs [] t.body)) (after (lowered t).ops 0 (body_code cs [] 0 t.body) (last ++ others.ops) main-code) refl

pub modules-fit : BlocksHaveTheirCode → ModulesFit
modules-fit law = record {
  main = λ t a n. record {
    code = main-piece law t a n;
    fits = accepted-fit.main t a n (given_of t) 0 (callees-stand t.classes) (main-stands law t a n);
    closes = main-closes law t a n;
  };
  methods = λ t a n c x m h.
      let e = method-entered t c x m h in
      record {
        entry = e.entry;
        there = e.there;
        body = record {
          code = method-piece law t.classes (lowered t).ops (maps_laid t) e.entry.at c m (accepted-numbered.methods t a n c x m h) e.stands;
          fits = accepted-fit.methods t a n c x m h (given_of t) e.entry.at (callees-stand t.classes)
              (method-stands law t.classes (lowered t).ops (maps_laid t) e.entry.at c m (accepted-numbered.methods t a n c x m h) e.stands);
          closes = method-closes law t.classes (lowered t).ops (maps_laid t) e.entry.at c m (accepted-numbered.methods t a n c x m h) e.stands
              (Accepted-method t a c x m h).gives;
        };
      };
}
