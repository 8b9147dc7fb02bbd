-- The code of a program whose bodies are blocks with numbers is the code of these blocks.
use Rattle.std.proofs.Common.{◌≡◌, refl, sym, ap, ◌∙◌, ℕ, suc, ◌+◌, Bool as Truth, true, false, List, [], ◌∷◌, ◌++◌, map, length, Option, Some, None}
use Rattle.std.proofs.Common.{option_map}
use Rattle.std.proofs.Common.{append_assoc}
use Rattle.rg_base.specs.declared.ty.Ty.{Ty}
use Rattle.rg_base.specs.declared.ty.Ty.TheVariants as ty
use Rattle.rg_tree.specs.Tree.{Ty as Written, Block, Param, Method, Member, field, method, Class, Tree}
use Rattle.rg_rules.specs.Types.{type_of, method_result}
use Rattle.rg_code.specs.declared.op.Op.{Op}
use Rattle.rg_code.specs.declared.op.Op.TheVariants as i
use Rattle.rg_code.specs.Lowering.{Slot, Scope, with_slot, with_params, method_scope, block_code, method_end_code, method_code, main_code, Methods}
use Rattle.rg_code.specs.Lowering.{members_code, methods_code, lowered}
use Rattle.rg_spell.specs.declared.rows.Head.{Head}
use Rattle.rg_build.specs.ModuleOf.{head_of, member_heads, class_heads, heads_of}
use Rattle.rg_verify_expressions.specs.Statements.{block_ops}
use Rattle.rg_verify_expressions.specs.Found.{types_of, BlocksHaveTheirCode}
use Rattle.rg_bodies.specs.Bodies.{RaisedBody, types_in_front, ending_by}
use Rattle.rg_bodies.specs.Standing.{end_ops, main_ops, method_ops, methods_ops, bodies_ops}
use Rattle.rg_lines.specs.Unlined.{end_line}
use Rattle.rg_numbered.specs.Numbered.{numbered_block}
use Rattle.rg_numbered.specs.Laws.{IsNumbered}
use Rattle.rg_verify.specs.Bodies.{method_numbered, members_numbered, classes_numbered, bodies_numbered}

-- The variables in front of a method

types-then : (s : Scope) (x : Slot) → types_of (s ++ x ∷ []) ≡ types_of s ++ x.ty ∷ []
types-then [] x = refl
types-then (y ∷ s) x = ap (λ (ts : List Ty). y.ty ∷ ts) (types-then s x)

params-then : (cs : List Class) (s : Scope) (ps : List Param) →
    types_of (with_params cs s ps) ≡ types_of s ++ map (λ (p : Param). type_of cs p.ty) ps
params-then cs s [] = sym (nothing (types_of s))
  where
    nothing : (ts : List Ty) → ts ++ [] ≡ ts
    nothing [] = refl
    nothing (t ∷ ts) = ap (λ (us : List Ty). t ∷ us) (nothing ts)
params-then cs s (p ∷ ps) =
    let x : Slot = record { name = Some p.name; ty = type_of cs p.ty } in
    let more = map (λ (q : Param). type_of cs q.ty) ps in
    params-then cs (with_slot s (Some p.name) (type_of cs p.ty)) ps ∙ ap (λ (ts : List Ty). ts ++ more) (types-then s x)
    ∙ append_assoc (types_of s) (x.ty ∷ []) more

pub method-types : (cs : List Class) (c : ℕ) (m : Method) → types_of (method_scope cs c m) ≡ types_in_front (head_of cs c m)
method-types cs c m = params-then cs (with_slot [] None (ty.Ref m.receiver c)) m.params

-- The code of bodies

-- each method among the members of the class of a number is its block with numbers
abbrev pub AreNumbered : List Class → (c : ℕ) → List Member → Type 0
AreNumbered cs c [] = Unit {0}
AreNumbered cs c (field f ∷ ms) = AreNumbered cs c ms
AreNumbered cs c (method m ∷ ms) = IsNumbered cs (method_scope cs c m) true m.body × AreNumbered cs c ms

-- and each of classes in order
abbrev pub AreAllNumbered : List Class → (c : ℕ) → List Class → Type 0
AreAllNumbered cs c [] = Unit {0}
AreAllNumbered cs c (k ∷ ks) = AreNumbered cs c k.members × AreAllNumbered cs (suc c) ks

module _ (law : BlocksHaveTheirCode) (cs : List Class) where
  block-code : (s : Scope) (m : Truth) (b : Block) (at : ℕ) → IsNumbered cs s m b →
      block_code cs s at b ≡ block_ops (types_of s) at (numbered_block cs s b)
  block-code s m b at n = ap (block_code cs s at) (sym n.named) ∙ law cs s m at (numbered_block cs s b) n.found

  end-code : (r : Option Written) (line : ℕ) (result : Option Ty) → result ≡ option_map (type_of cs) r →
      method_end_code line r ≡ end_ops (ending_by result) (end_line r line)
  end-code None line result e = ap (λ (q : Option Ty). end_ops (ending_by q) line) (sym e)
  end-code (Some t) line result e = ap (λ (q : Option Ty). end_ops (ending_by q) 0) (sym e)

  pub method-code : (at c : ℕ) (m : Method) → IsNumbered cs (method_scope cs c m) true m.body →
      method_code cs at c m ≡ method_ops (head_of cs c m) at (method_numbered cs c m)
  method-code at c m n =
      let s = method_scope cs c m in
      let end = method_end_code m.line m.result in
      let b = numbered_block cs s m.body in
      ap (λ (os : List Op). os ++ end) (block-code s true m.body at n)
      ∙ ap (λ (os : List Op). block_ops (types_of s) at b ++ os) (end-code m.result m.line (method_result cs m) refl)
      ∙ ap (λ (ts : List Ty). block_ops ts at b ++ end_ops (ending_by (method_result cs m)) (end_line m.result m.line)) (method-types cs c m)

  members-code : (at c : ℕ) (ms : List Member) (go : ℕ → Methods) (hs : List Head) (bs : List RaisedBody) → AreNumbered cs c ms →
      ((there : ℕ) → (go there).ops ≡ methods_ops hs there bs) →
      (members_code cs at c ms go).ops ≡ methods_ops (member_heads cs c ms ++ hs) at (members_numbered cs c ms ++ bs)
  members-code at c [] go hs bs n rest = rest at
  members-code at c (field f ∷ ms) go hs bs n rest = members-code at c ms go hs bs n rest
  members-code at c (method m ∷ ms) go hs bs n rest =
      let h = head_of cs c m in
      let b = method_numbered cs c m in
      let own = method_ops h at b in
      ap (λ (os : List Op). os ++ (members_code cs (at + length os) c ms go).ops) (method-code at c m n.0)
      ∙ ap (λ (os : List Op). own ++ os) (members-code (at + length own) c ms go hs bs n.1 rest)

  classes-code : (at c : ℕ) (ks : List Class) → AreAllNumbered cs c ks →
      (methods_code cs at c ks).ops ≡ methods_ops (class_heads cs c ks) at (classes_numbered cs c ks)
  classes-code at c [] n = refl
  classes-code at c (k ∷ ks) n =
      members-code at c k.members (λ there. methods_code cs there (suc c) ks) (class_heads cs (suc c) ks) (classes_numbered cs (suc c) ks) n.0
      (λ there. classes-code there (suc c) ks n.1)

-- so is main's
pub main-same : BlocksHaveTheirCode → (t : Tree) → IsNumbered t.classes [] false t.body → main_code t ≡ main_ops (bodies_numbered t).main
main-same law t main =
    ap (λ (os : List Op). os ++ i.Mark t.line ∷ i.End 0 ∷ i.Halt ∷ []) (block-code law t.classes [] false t.body 0 main)

-- a program whose bodies are blocks with numbers has the code of these
pub lowered-code : BlocksHaveTheirCode → (t : Tree) → IsNumbered t.classes [] false t.body → AreAllNumbered t.classes 0 t.classes →
    (lowered t).ops ≡ bodies_ops (heads_of t.classes) (bodies_numbered t)
lowered-code law t main methods =
    let own = main_ops (bodies_numbered t).main in
    ap (λ (os : List Op). os ++ (methods_code t.classes (length os) 0 t.classes).ops) (main-same law t main)
    ∙ ap (λ (os : List Op). own ++ os) (classes-code law t.classes (length own) 0 t.classes methods)
