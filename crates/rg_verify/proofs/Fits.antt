-- The bodies of a program fit, one behind the other, where each fits by its entry.
use Rattle.std.proofs.Common.{◌≡◌, refl, sym, ap, ◌∙◌, subst, ℕ, suc, ◌+◌, Bool as Truth, true, false, if◌then◌else◌, bytes_eq, List, [], ◌∷◌}
use Rattle.std.proofs.Common.{◌++◌, length, slice_get, Option, Some, None, option_map, Ok, arith}
use Rattle.rg_base.specs.declared.ty.Ty.{Ty}
use Rattle.rg_tree.specs.Tree.{Name, Ty as Written, Block, Method, Member, field, method, Class}
use Rattle.rg_rules.specs.Types.{type_of, members_of, method_named, method_result}
use Rattle.rg_rules.specs.Headers.{among, member_headers, rest_header, class_names, class_members, judge_headers}
use Rattle.rg_rules.specs.Bodies.{gives_result}
use Rattle.rg_rules.proofs.Answers.{then-ok}
use Rattle.rg_rules.proofs.Header.{member_headers-parts, rest_header-members}
use Rattle.rg_code.specs.declared.op.Op.{Op}
use Rattle.rg_code.specs.declared.code.Entry.{Entry}
use Rattle.rg_code.specs.Lowering.{Scope, method_scope, methods_among, method_place, method_number, number_called, method_code, slots_of, Methods}
use Rattle.rg_code.specs.Lowering.{members_code, methods_code}
use Rattle.rg_spell.specs.declared.rows.Head.{Head}
use Rattle.rg_build.specs.ModuleOf.{head_of, member_heads, class_heads}
use Rattle.rg_verify_expressions.specs.Found.{types_of, BlocksHaveTheirCode}
use Rattle.rg_verify_expressions.specs.Blocks.{Given}
use Rattle.rg_verify_expressions.specs.Standing.{IsBlockFit}
use Rattle.rg_bodies.specs.Bodies.{RaisedBody, types_in_front, ending_by}
use Rattle.rg_bodies.specs.Standing.{method_ops, IsEndFit, IsBodyFit, AreMethodsFit}
use Rattle.rg_lines.specs.Unlined.{end_line}
use Rattle.rg_numbered.specs.Numbered.{numbered_block}
use Rattle.rg_verify.specs.Bodies.{method_numbered, members_numbered, classes_numbered}
use Rattle.rg_verify.proofs.BodyCode.{AreNumbered, AreAllNumbered, method-types, method-code}
use Rattle.rg_verify.proofs.Found.{by_name, same-name, other-name, not-among, found-later, found-first}
use Rattle.rg_verify.proofs.Endings.{block-returns}

-- a method fits where its entry among these says that it begins
pub record FitsAt (cs : List Class) (g : Given) (entries : List Entry) (c : ℕ) (x : Name) (m : Method) : Type 0 where
  pub entry : Entry
  pub there : slice_get entries (number_called cs c x) ≡ Some entry
  pub fits : IsBlockFit g (types_of (method_scope cs c m)) entry.at (numbered_block cs (method_scope cs c m) m.body)

some-is : {A : Type 0} {x y : A} → Some x ≡ Some y → x ≡ y
some-is e = grind arith

number-is : (cs : List Class) (c : ℕ) (x : Name) (m : Method) (o : Option Method) → o ≡ Some m →
    elim o [ None ↦ 0 | Some q ↦ method_number cs c x ] ≡ method_number cs c x
number-is cs c x m None e = grind arith
number-is cs c x m (Some q) e = refl

place-later : (x : Name) (m : Method) (ms : List Method) → bytes_eq x m.name ≡ false → method_place (m ∷ ms) x ≡ suc (method_place ms x)
place-later x m ms h = ap (λ (b : Truth). if b then 0 else suc (method_place ms x)) (other-name x m.name h)

place-first : (m : Method) (ms : List Method) → method_place (m ∷ ms) m.name ≡ 0
place-first m ms = ap (λ (b : Truth). if b then 0 else suc (method_place ms m.name)) (same-name m.name)

-- how a method ends
end-fits : (cs : List Class) (s : Scope) (r : Option Written) (line : ℕ) (b : Block) → gives_result r b ≡ true →
    IsEndFit (ending_by (option_map (type_of cs) r)) (record { block = numbered_block cs s b; line = end_line r line })
end-fits cs s None line b h = tt
end-fits cs s (Some t) line b h = (block-returns cs s b h, refl)

module _ (law : BlocksHaveTheirCode) (cs : List Class) (g : Given) (es : List Entry)
    (fits : (c : ℕ) (x : Name) (m : Method) → method_named cs c x ≡ Some m → FitsAt cs g es c x m)
    (ends : (c : ℕ) (x : Name) (m : Method) → method_named cs c x ≡ Some m → gives_result m.result m.body ≡ true) where
  -- the entries of a code stand from a number on
  abbrev EntriesFrom : (n : ℕ) → Methods → Type 0
  EntriesFrom n ms = (j : ℕ) → slice_get es (n + j) ≡ slice_get ms.entries j

  method-fits : (at n c : ℕ) (m : Method) (e : Entry) → method_named cs c m.name ≡ Some m → method_number cs c m.name ≡ n →
      slice_get es n ≡ Some e → e.at ≡ at →
      IsBodyFit g (types_in_front (head_of cs c m)) (ending_by (method_result cs m)) at (method_numbered cs c m)
  method-fits at n c m e found number there address =
      let f = fits c m.name m found in
      let s = method_scope cs c m in
      let b = numbered_block cs s m.body in
      let place : number_called cs c m.name ≡ n = number-is cs c m.name m (method_named cs c m.name) found ∙ number in
      let same : f.entry ≡ e = some-is (sym f.there ∙ (ap (slice_get es) place ∙ there)) in
      let begins : f.entry.at ≡ at = ap (λ (q : Entry). q.at) same ∙ address in
      let stands = subst (λ (k : ℕ). IsBlockFit g (types_of s) k b) begins f.fits in
      record {
        block = subst (λ (ts : List Ty). IsBlockFit g ts at b) (method-types cs c m) stands;
        end = end-fits cs s m.result m.line m.body (ends c m.name m found);
      }

  members-fit : (k : Class) (at n c : ℕ) (earlier : List Name) (ms : List Member) (go : ℕ → Methods) (hs : List Head) (bs : List RaisedBody) →
      member_headers cs k earlier ms ≡ Ok tt → AreNumbered cs c ms → ((x : Name) → among x earlier ≡ false → method_named cs c x ≡ by_name x ms) →
      ((x : Name) → among x earlier ≡ false → method_number cs c x ≡ n + method_place (methods_among ms) x) →
      EntriesFrom n (members_code cs at c ms go) →
      ((there : ℕ) → EntriesFrom (n + length (methods_among ms)) (go there) → AreMethodsFit g hs there bs) →
      AreMethodsFit g (member_heads cs c ms ++ hs) at (members_numbered cs c ms ++ bs)
  members-fit k at n c earlier [] go hs bs h ns found places entries rest =
      let none : n + 0 ≡ n = omega arith in
      rest at (λ j. ap (λ (q : ℕ). slice_get es (q + j)) none ∙ entries j)
  members-fit k at n c earlier (field f ∷ ms) go hs bs h ns found places entries rest =
      let p = member_headers-parts cs k earlier (field f) ms h in
      members-fit k at n c (f.name ∷ earlier) ms go hs bs p.others ns (λ x a. found x (not-among x f.name earlier a).1)
      (λ x a. places x (not-among x f.name earlier a).1) entries rest
  members-fit k at n c earlier (method m ∷ ms) go hs bs h ns found places entries rest =
      let p = member_headers-parts cs k earlier (method m) ms h in
      let own = method_ops (head_of cs c m) at (method_numbered cs c m) in
      let body = method_code cs at c m in
      let others = methods_among ms in
      let e : Entry = record { at = at; given = suc (length m.params); slots = slots_of (suc (length m.params)) body } in
      let none : n + 0 ≡ n = omega arith in
      let number : method_number cs c m.name ≡ n = places m.name p.is_new ∙ (ap (λ (q : ℕ). n + q) (place-first m others) ∙ none) in
      let there : slice_get es n ≡ Some e = ap (slice_get es) (sym none) ∙ entries 0 in
      let long : at + length body ≡ at + length own = ap (λ (os : List Op). at + length os) (method-code law cs at c m ns.0) in
      let behind = members-fit k (at + length body) (suc n) c (m.name ∷ earlier) ms go hs bs p.others ns.1
      (λ x a. let q = not-among x m.name earlier a in found x q.1 ∙ found-later x m ms q.0)
      (λ x a.
      let q = not-among x m.name earlier a in
      let next : n + suc (method_place others x) ≡ suc n + method_place others x = omega arith in
      places x q.1 ∙ (ap (λ (z : ℕ). n + z) (place-later x m others q.0) ∙ next))
      (λ j. let next : suc n + j ≡ n + suc j = omega arith in ap (slice_get es) next ∙ entries (suc j))
      (λ to w. rest to (λ j.
      let next : n + suc (length others) + j ≡ suc n + length others + j = omega arith in
      ap (slice_get es) next ∙ w j)) in (
        method-fits at n c m e (found m.name p.is_new ∙ found-first m ms) number there refl,
        subst (λ (to : ℕ). AreMethodsFit g (member_heads cs c ms ++ hs) to (members_numbered cs c ms ++ bs)) long behind,
      )

  classes-fit : (at n c : ℕ) (ks : List Class) → class_members cs ks ≡ Ok tt → AreAllNumbered cs c ks →
      ((i : ℕ) → slice_get cs (c + i) ≡ slice_get ks i) → ((i : ℕ) (x : Name) → method_number cs (c + i) x ≡ n + method_number ks i x) →
      EntriesFrom n (methods_code cs at c ks) → AreMethodsFit g (class_heads cs c ks) at (classes_numbered cs c ks)
  classes-fit at n c [] h ns there numbers entries = tt
  classes-fit at n c (k ∷ ks) h ns there numbers entries =
      let p = then-ok (rest_header cs k k.element) _ tt h in
      let none : c + 0 ≡ c = omega arith in
      let here : slice_get cs c ≡ Some k = ap (slice_get cs) (sym none) ∙ there 0 in
      let named : (x : Name) → method_named cs c x ≡ by_name x k.members = λ x. ap (λ (o : Option Class). by_name x (members_of o)) here in
      let own = methods_among k.members in
      members-fit k at n c [] k.members (λ behind. methods_code cs behind (suc c) ks) (class_heads cs (suc c) ks) (classes_numbered cs (suc c) ks)
      (rest_header-members cs k k.element p.1) ns.0 (λ x a. named x)
      (λ x a. ap (λ (d : ℕ). method_number cs d x) (sym none) ∙ numbers 0 x) entries
      (λ to w. classes-fit to (n + length own) (suc c) ks p.2 ns.1
      (λ i. let next : suc c + i ≡ c + suc i = omega arith in ap (slice_get cs) next ∙ there (suc i))
      (λ i x.
      let next : suc c + i ≡ c + suc i = omega arith in
      let sum : n + (length own + method_number ks i x) ≡ n + length own + method_number ks i x = omega arith in
      ap (λ (d : ℕ). method_number cs d x) next ∙ (numbers (suc i) x ∙ sum)) w)

  -- all methods of a program
  pub methods-fit : (at : ℕ) → judge_headers cs ≡ Ok tt → AreAllNumbered cs 0 cs → es ≡ (methods_code cs at 0 cs).entries →
      AreMethodsFit g (class_heads cs 0 cs) at (classes_numbered cs 0 cs)
  methods-fit at h ns same =
      let p = then-ok (class_names [] cs) _ tt h in
      let zero-more : (i : ℕ) → 0 + i ≡ i = λ i. omega arith in
      classes-fit at 0 0 cs p.2 ns (λ i. ap (slice_get cs) (zero-more i))
      (λ i x.
      let left : 0 + method_number cs i x ≡ method_number cs i x = omega arith in
      ap (λ (d : ℕ). method_number cs d x) (zero-more i) ∙ sym left)
      (λ j. ap (slice_get es) (zero-more j) ∙ ap (λ (xs : List Entry). slice_get xs j) same)
