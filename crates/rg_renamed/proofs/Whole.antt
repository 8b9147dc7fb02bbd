-- An accepted program is accepted with numbers for names, and its module is the same.
use Rattle.std.proofs.Common.{◌≡◌, refl, sym, ap, ◌∙◌, subst, ℕ, zero, suc, ◌+◌, ◌<◌, ◌≤◌, ◌^◌, Bool as Truth, true, false, List, [], ◌∷◌, ◌++◌}
use Rattle.std.proofs.Common.{length}
use Rattle.std.proofs.Common.{map, filter_map, All, Option, Some, None, option_map, Result, Ok, arith}
use Rattle.std.specs.List.{AllByRecursion}
use Rattle.std.specs.Result.{result_err}
use Rattle.std.proofs.lemmas.List.Elements.{recursion_from_All}
use Rattle.rg_base.specs.declared.limits.TheConstants.{CLASSES, CLASS_FIELDS, CLASS_METHODS, BODY_NAMES}
use Rattle.rg_base.specs.declared.words.Manager.{Manager}
use Rattle.rg_base.specs.declared.ty.Ty.{Ty}
use Rattle.rg_base.specs.declared.value.Word.{Word}
use Rattle.rg_tree.specs.Tree.{Ty as Written, int, bool, ref, Field, Method, Member, field, method, Class, Tree}
use Rattle.rg_rules.specs.Answers.{◌>>◌}
use Rattle.rg_rules.specs.Names.{HasFewNames, FewNames, block_names}
use Rattle.rg_rules.specs.Types.{type_of, field_member, method_member, fields_of, methods_of}
use Rattle.rg_rules.specs.Headers.{rest_header, class_names, class_members, judge_headers}
use Rattle.rg_rules.specs.Environment.{Env, empty}
use Rattle.rg_rules.specs.Bodies.{main_body, judge_body, judge_method, judge_members, judge_methods}
use Rattle.rg_rules.specs.Acceptance.{judge_program, Accepted}
use Rattle.rg_rules.proofs.Answers.{then-ok}
use Rattle.rg_rules.proofs.Header.{rest_header-members}
use Rattle.rg_rules.proofs.Acceptance.{Accepted-parts}
use Rattle.rg_limits.specs.Parts.{HasFewMembers, HasFewParts}
use Rattle.rg_code.specs.declared.op.Op.{Op}
use Rattle.rg_code.specs.declared.op.Op.TheVariants as i
use Rattle.rg_code.specs.Code.{Code}
use Rattle.rg_code.specs.Lowering.{method_code, main_code, Methods, with_method, members_code, methods_code, opening_word, opening_words, opening_of}
use Rattle.rg_code.specs.Lowering.{lowered, slots_of, block_code}
use Rattle.rg_spell.specs.declared.rows.Shape.{Shape}
use Rattle.rg_spell.specs.declared.rows.Head.{Head}
use Rattle.rg_module.specs.Parts.{Parts}
use Rattle.rg_build.specs.Maps.{block_maps, method_maps, members_maps, methods_maps, maps_of}
use Rattle.rg_build.specs.ModuleOf.{field_types, shape_of, shapes_of, head_of, member_heads, class_heads, heads_of, laid, module_of}
use Rattle.rg_verify_expressions.specs.Found.{BlocksHaveTheirCode}
use Rattle.rg_renamed.specs.Renamed.{renamed_classes, renamed_type, renamed_block, renamed_params, renamed_method, renamed_field, renamed_from}
use Rattle.rg_renamed.specs.Renamed.{renamed_members, renamed_class, renamed}
use Rattle.rg_renamed.proofs.Numbered.{params-long}
use Rattle.rg_renamed.proofs.Classes.{AreFew, type-again, params-again, result-again}
use Rattle.rg_renamed.proofs.Scopes.{env_again, Scoped}
use Rattle.rg_renamed.proofs.Blocks.{block-follows}
use Rattle.rg_renamed.proofs.Methods.{MethodFine, code-again, maps-again, method-fine, method-code-again, method-maps-again}
use Rattle.rg_renamed.proofs.Headers.{MemberFine, MethodsFine, members-fine, ClassFine, ClassesFine, headers-again}

-- Few enough names and members

few-fields : (n : ℕ) → n ≤ CLASS_FIELDS → n < 2 ^ 64
few-fields n h = omega (arith, h)

few-methods : (n : ℕ) → n ≤ CLASS_METHODS → n < 2 ^ 64
few-methods n h = omega (arith, h)

few-classes : (n : ℕ) → n ≤ CLASSES → n < 2 ^ 64
few-classes n h = omega (arith, h)

few-names : (n : ℕ) → n ≤ BODY_NAMES → 0 + n < 2 ^ 64
few-names n h = omega (arith, h)

few-at : (ds : List Class) (c : ℕ) → AllByRecursion HasFewMembers ds → (length (fields_of ds c) < 2 ^ 64) × (length (methods_of ds c) < 2 ^ 64)
few-at [] c h = (omega arith, omega arith)
few-at (d ∷ ds) zero h = (few-fields _ h.0.fields, few-methods _ h.0.methods)
few-at (d ∷ ds) (suc c) h = few-at ds c h.1

pub are-few : (t : Tree) → HasFewParts t → AreFew t.classes
are-few t h = record {
  classes = few-classes (length t.classes) h.classes;
  fields = λ c. (few-at t.classes c h.members).0;
  methods = λ c. (few-at t.classes c h.members).1;
}

-- a class whose methods have few names
abbrev ClassHasFew : Class → Type 0
ClassHasFew d = All HasFewNames d.members

classes-fine : (cs : List Class) (few : AreFew cs) (c : ℕ) (ds : List Class) → class_members cs ds ≡ Ok tt → judge_methods cs c ds ≡ Ok tt →
    AllByRecursion HasFewMembers ds → AllByRecursion ClassHasFew ds → ClassesFine cs few c ds
classes-fine cs few c [] h j p n = tt
classes-fine cs few c (d ∷ ds) h j p n =
    let r = then-ok (rest_header cs d d.element) _ tt h in
    let b = then-ok (judge_members cs c d.members) _ tt j in
    let m = members-fine cs d c [] d.members (rest_header-members cs d d.element r.1) b.1 (recursion_from_All HasFewNames d.members n.0) in (
      record {
        rest = r.1;
        fields = m.0;
        methods = m.1;
        few_fields = few-fields _ p.0.fields;
        few_methods = few-methods _ p.0.methods;
      },
      classes-fine cs few (suc c) ds r.2 b.2 p.1 n.1,
    )

-- The words of openings

word-again : (cs : List Class) (t : Written) → opening_word (renamed_type cs t) ≡ opening_word t
word-again cs int = refl
word-again cs bool = refl
word-again cs (ref cap x) = refl

no-words : (cs : List Class) (c k : ℕ) (ms : List Method) → opening_words (renamed_from (λ j m. method (renamed_method cs c j m)) k ms) ≡ []
no-words cs c k [] = refl
no-words cs c k (m ∷ ms) = no-words cs c (suc k) ms

words-again : (cs : List Class) (k : ℕ) (ms rest : List Member) → opening_words rest ≡ [] →
    opening_words (renamed_from (λ j f. field (renamed_field cs j f)) k (filter_map field_member ms) ++ rest) ≡ opening_words ms
words-again cs k [] rest h = h
words-again cs k (field f ∷ ms) rest h =
    ap (λ (w : Word). w ∷ opening_words (renamed_from (λ j q. field (renamed_field cs j q)) (suc k) (filter_map field_member ms) ++ rest))
    (word-again cs f.ty)
    ∙ ap (λ (ws : List Word). opening_word f.ty ∷ ws) (words-again cs (suc k) ms rest h)
words-again cs k (method m ∷ ms) rest h = words-again cs k ms rest h

opening-again : (cs : List Class) (c : ℕ) (d : Class) (e : Option Written) →
    opening_of (option_map (renamed_type cs) e) (renamed_members cs c d.members) ≡ opening_of e d.members
opening-again cs c d None = words-again cs 0 d.members _ (no-words cs c 0 (filter_map method_member d.members))
opening-again cs c d (Some t) = ap (λ (w : Word). w ∷ []) (word-again cs t)

openings-again : (cs : List Class) (k : ℕ) (ds : List Class) →
    map (λ (d : Class). opening_of d.element d.members) (renamed_from (renamed_class cs) k ds)
    ≡ map (λ (d : Class). opening_of d.element d.members) ds
openings-again cs k [] = refl
openings-again cs k (d ∷ ds) =
    ap (λ (ws : List Word). ws ∷ map (λ (q : Class). opening_of q.element q.members) (renamed_from (renamed_class cs) (suc k) ds))
    (opening-again cs k d d.element)
    ∙ ap (λ (os : List (List Word)). opening_of d.element d.members ∷ os) (openings-again cs (suc k) ds)

module _ (cs : List Class) (few : AreFew cs) where
  abbrev again : List Class
  again = renamed_classes cs

  -- Shapes

  no-types : (c k : ℕ) (ms : List Method) → field_types again (renamed_from (λ j m. method (renamed_method cs c j m)) k ms) ≡ []
  no-types c k [] = refl
  no-types c k (m ∷ ms) = no-types c (suc k) ms

  types-again : (k : ℕ) (ms rest : List Member) → field_types again rest ≡ [] →
      field_types again (renamed_from (λ j f. field (renamed_field cs j f)) k (filter_map field_member ms) ++ rest) ≡ field_types cs ms
  types-again k [] rest h = h
  types-again k (field f ∷ ms) rest h =
      ap (λ (t : Ty). t ∷ field_types again (renamed_from (λ j q. field (renamed_field cs j q)) (suc k) (filter_map field_member ms) ++ rest))
      (type-again cs few f.ty)
      ∙ ap (λ (ts : List Ty). type_of cs f.ty ∷ ts) (types-again (suc k) ms rest h)
  types-again k (method m ∷ ms) rest h = types-again k ms rest h

  shape-again : (c : ℕ) (d : Class) → shape_of again (renamed_class cs c d) ≡ shape_of cs d
  shape-again c d =
      let make : List Ty → Option Ty → Shape = λ ts e. record { is_tmp = d.is_tmp; fields = ts; element = e } in
      ap (λ (ts : List Ty). make ts (option_map (type_of again) (option_map (renamed_type cs) d.element)))
      (types-again 0 d.members _ (no-types c 0 (filter_map method_member d.members)))
      ∙ ap (make (field_types cs d.members)) (result-again cs few d.element)

  shapes-again : (k : ℕ) (ds : List Class) → map (shape_of again) (renamed_from (renamed_class cs) k ds) ≡ map (shape_of cs) ds
  shapes-again k [] = refl
  shapes-again k (d ∷ ds) =
      ap (λ (s : Shape). s ∷ map (shape_of again) (renamed_from (renamed_class cs) (suc k) ds)) (shape-again k d)
      ∙ ap (λ (ss : List Shape). shape_of cs d ∷ ss) (shapes-again (suc k) ds)

  -- Heads

  heads-behind : (c k : ℕ) (fs : List Field) (rest : List Member) →
      member_heads again c (renamed_from (λ j f. field (renamed_field cs j f)) k fs ++ rest) ≡ member_heads again c rest
  heads-behind c k [] rest = refl
  heads-behind c k (f ∷ fs) rest = heads-behind c (suc k) fs rest

  head-again : (c k : ℕ) (m : Method) → head_of again c (renamed_method cs c k m) ≡ head_of cs c m
  head-again c k m =
      let make : List Ty → Option Ty → Head = λ ts r. record { class = c; cap = m.receiver; params = ts; result = r } in
      ap (λ (ts : List Ty). make ts (option_map (type_of again) (option_map (renamed_type cs) m.result))) (params-again cs few 1 m.params)
      ∙ ap (make (map (λ p. type_of cs p.ty) m.params)) (result-again cs few m.result)

  member-heads : (c k : ℕ) (ms : List Member) →
      member_heads again c (renamed_from (λ j m. method (renamed_method cs c j m)) k (filter_map method_member ms)) ≡ member_heads cs c ms
  member-heads c k [] = refl
  member-heads c k (field f ∷ ms) = member-heads c k ms
  member-heads c k (method m ∷ ms) =
      ap (λ (h : Head). h ∷ member_heads again c (renamed_from (λ j q. method (renamed_method cs c j q)) (suc k) (filter_map method_member ms)))
      (head-again c k m)
      ∙ ap (λ (hs : List Head). head_of cs c m ∷ hs) (member-heads c (suc k) ms)

  heads-again : (c : ℕ) (ds : List Class) → class_heads again c (renamed_from (renamed_class cs) c ds) ≡ class_heads cs c ds
  heads-again c [] = refl
  heads-again c (d ∷ ds) =
      ap (λ (hs : List Head). hs ++ class_heads again (suc c) (renamed_from (renamed_class cs) (suc c) ds))
      (heads-behind c 0 (filter_map field_member d.members) _ ∙ member-heads c 0 d.members)
      ∙ ap (λ (hs : List Head). member_heads cs c d.members ++ hs) (heads-again (suc c) ds)

  -- Judgements of methods

  judged-behind : (c k : ℕ) (fs : List Field) (rest : List Member) →
      judge_members again c (renamed_from (λ j f. field (renamed_field cs j f)) k fs ++ rest) ≡ judge_members again c rest
  judged-behind c k [] rest = refl
  judged-behind c k (f ∷ fs) rest = judged-behind c (suc k) fs rest

  methods-judged : (d : Class) (c k : ℕ) (ms : List Method) → AllByRecursion (MemberFine cs d c) ms →
      judge_members again c (renamed_from (λ j m. method (renamed_method cs c j m)) k ms) ≡ Ok tt
  methods-judged d c k [] h = refl
  methods-judged d c k (m ∷ ms) h =
      ap (λ z. ◌>>◌ z (judge_members again c (renamed_from (λ j q. method (renamed_method cs c j q)) (suc k) ms))) (method-fine cs few c k m h.0.fine)
      ∙ methods-judged d c (suc k) ms h.1

  classes-judged : (c : ℕ) (ds : List Class) → ClassesFine cs few c ds → judge_methods again c (renamed_from (renamed_class cs) c ds) ≡ Ok tt
  classes-judged c [] h = refl
  classes-judged c (d ∷ ds) h =
      ap (λ z. ◌>>◌ z (judge_methods again (suc c) (renamed_from (renamed_class cs) (suc c) ds)))
      (judged-behind c 0 (filter_map field_member d.members) _ ∙ methods-judged d c 0 (filter_map method_member d.members) h.0.methods)
      ∙ classes-judged (suc c) ds h.1

  -- Code and maps of methods

  code-behind : (at c k : ℕ) (fs : List Field) (rest : List Member) (go : ℕ → Methods) →
      members_code again at c (renamed_from (λ j f. field (renamed_field cs j f)) k fs ++ rest) go ≡ members_code again at c rest go
  code-behind at c k [] rest go = refl
  code-behind at c k (f ∷ fs) rest go = code-behind at c (suc k) fs rest go

  module _ (law : BlocksHaveTheirCode) where
    members-code : (d : Class) (at c k : ℕ) (ms : List Member) (go to : ℕ → Methods) → MethodsFine cs d c ms → ((n : ℕ) → to n ≡ go n) →
        members_code again at c (renamed_from (λ j m. method (renamed_method cs c j m)) k (filter_map method_member ms)) to
        ≡ members_code cs at c ms go
    members-code d at c k [] go to h e = e at
    members-code d at c k (field f ∷ ms) go to h e = members-code d at c k ms go to h e
    members-code d at c k (method m ∷ ms) go to h e =
        let body = method_code cs at c m in
        let rest = renamed_from (λ j q. method (renamed_method cs c j q)) (suc k) (filter_map method_member ms) in
        ap (λ (b : List Op). with_method at (suc (length (renamed_params cs 1 m.params))) b (members_code again (at + length b) c rest to))
        (method-code-again cs few c k m h.0.fine law at)
        ∙ ap (λ (n : ℕ). with_method at (suc n) body (members_code again (at + length body) c rest to)) (params-long cs 1 m.params)
        ∙ ap (with_method at (suc (length m.params)) body) (members-code d (at + length body) c (suc k) ms go to h.1 e)

    classes-code : (at c : ℕ) (ds : List Class) → ClassesFine cs few c ds →
        methods_code again at c (renamed_from (renamed_class cs) c ds) ≡ methods_code cs at c ds
    classes-code at c [] h = refl
    classes-code at c (d ∷ ds) h =
        code-behind at c 0 (filter_map field_member d.members) _ _
        ∙ members-code d at c 0 d.members (λ n. methods_code cs n (suc c) ds)
        (λ n. methods_code again n (suc c) (renamed_from (renamed_class cs) (suc c) ds)) h.0.methods (λ n. classes-code n (suc c) ds h.1)

  maps-behind : (c k : ℕ) (fs : List Field) (rest : List Member) →
      members_maps again c (renamed_from (λ j f. field (renamed_field cs j f)) k fs ++ rest) ≡ members_maps again c rest
  maps-behind c k [] rest = refl
  maps-behind c k (f ∷ fs) rest = maps-behind c (suc k) fs rest

  member-maps : (d : Class) (c k : ℕ) (ms : List Member) → MethodsFine cs d c ms →
      members_maps again c (renamed_from (λ j m. method (renamed_method cs c j m)) k (filter_map method_member ms)) ≡ members_maps cs c ms
  member-maps d c k [] h = refl
  member-maps d c k (field f ∷ ms) h = member-maps d c k ms h
  member-maps d c k (method m ∷ ms) h =
      ap (λ (xs : List (List Ty)). xs ++ members_maps again c (renamed_from (λ j q. method (renamed_method cs c j q)) (suc k)
      (filter_map method_member ms)))
      (method-maps-again cs few c k m h.0.fine)
      ∙ ap (λ (xs : List (List Ty)). method_maps cs c m ++ xs) (member-maps d c (suc k) ms h.1)

  classes-maps : (c : ℕ) (ds : List Class) → ClassesFine cs few c ds →
      methods_maps again c (renamed_from (renamed_class cs) c ds) ≡ methods_maps cs c ds
  classes-maps c [] h = refl
  classes-maps c (d ∷ ds) h =
      ap (λ (xs : List (List Ty)). xs ++ methods_maps again (suc c) (renamed_from (renamed_class cs) (suc c) ds))
      (maps-behind c 0 (filter_map field_member d.members) _ ∙ member-maps d c 0 d.members h.0.methods)
      ∙ ap (λ (xs : List (List Ty)). members_maps cs c d.members ++ xs) (classes-maps (suc c) ds h.1)

-- The whole program

main-scoped : Scoped false empty []
main-scoped = record { distinct = tt; matches = tt; self = tt; room = omega arith }

module _ (t : Tree) (a : Accepted t) (parts : HasFewParts t) (names : FewNames t) where
  few : AreFew t.classes
  few = are-few t parts

  fine : ClassesFine t.classes few 0 t.classes
  fine =
      let p = Accepted-parts t a in
      let h = then-ok (class_names [] t.classes) _ tt p.headers in
      classes-fine t.classes few 0 t.classes h.2 p.methods parts.members (recursion_from_All ClassHasFew t.classes names.methods)

  room : 0 + block_names t.body < 2 ^ 64
  room = few-names (block_names t.body) names.main

  pub accepted-again : Accepted (renamed t)
  accepted-again =
      let again = renamed_classes t.classes in
      let p = Accepted-parts t a in
      let main : judge_body again (main_body (renamed t)) ≡ Ok (env_again false p.out) =
      (block-follows t.classes few false None empty [] t.body main-scoped room).ok p.out p.main in
      let rest = ◌>>◌ (judge_body again (main_body (renamed t))) (Ok tt) in
      let passed : judge_program (renamed t) ≡ Ok tt =
      ap (λ z. ◌>>◌ z (◌>>◌ (judge_methods again 0 again) rest)) (headers-again t.classes few fine)
      ∙ ap (λ z. ◌>>◌ z rest) (classes-judged t.classes few 0 t.classes fine)
      ∙ ap (λ z. ◌>>◌ z (Ok tt)) main in
      ap (λ r. result_err r) passed

  module _ (law : BlocksHaveTheirCode) where
    main-again : main_code (renamed t) ≡ main_code t
    main-again =
        let p = Accepted-parts t a in
        ap (λ (os : List Op). os ++ i.Mark t.line ∷ i.End 0 ∷ i.Halt ∷ [])
        (code-again t.classes few false None empty p.out [] t.body main-scoped room p.main law 0)

    lowered-again : lowered (renamed t) ≡ lowered t
    lowered-again =
        let cs = t.classes in
        let again = renamed_classes cs in
        let make : List Op → Methods → List (List Word) → Code = λ main ms os. record {
          ops = main ++ ms.ops;
          openings = os;
          entries = ms.entries;
          main_slots = slots_of 0 main;
        } in
        let openings = map (λ (d : Class). opening_of d.element d.members) again in
        let main = main_code t in
        ap (λ (os : List Op). make os (methods_code again (length os) 0 again) openings) main-again
        ∙ ap (λ (ms : Methods). make main ms openings) (classes-code cs few law (length main) 0 cs fine)
        ∙ ap (make main (methods_code cs (length main) 0 cs)) (openings-again cs 0 cs)

    maps-are : maps_of (renamed t) ≡ maps_of t
    maps-are =
        let cs = t.classes in
        let again = renamed_classes cs in
        let p = Accepted-parts t a in
        ap (λ (xs : List (List Ty)). xs ++ methods_maps again 0 again)
        (maps-again cs few false None empty p.out [] t.body main-scoped room p.main true)
        ∙ ap (λ (xs : List (List Ty)). block_maps cs true [] t.body ++ xs) (classes-maps cs few 0 cs fine)

    pub module-again : module_of (renamed t) ≡ module_of t
    module-again =
        let cs = t.classes in
        let make : List Shape → List Head → Code → List (List Ty) → Parts = λ ss hs c ms. record {
          manager = t.manager;
          classes = ss;
          methods = hs;
          code = c;
          maps = laid c.ops ms;
        } in
        ap (λ (ss : List Shape). make ss (heads_of (renamed t).classes) (lowered (renamed t)) (maps_of (renamed t))) (shapes-again cs few 0 cs)
        ∙ ap (λ (hs : List Head). make (shapes_of cs) hs (lowered (renamed t)) (maps_of (renamed t))) (heads-again cs few 0 cs)
        ∙ ap (λ (c : Code). make (shapes_of cs) (heads_of cs) c (maps_of (renamed t))) lowered-again
        ∙ ap (make (shapes_of cs) (heads_of cs) (lowered t)) maps-are
