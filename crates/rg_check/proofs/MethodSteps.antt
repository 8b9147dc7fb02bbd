-- Methods judged one after another: those of a class, and those of all classes.
use Rattle.std.proofs.Common.{◌≡◌, ℕ, suc, ◌+◌, ◌<◌, List, ◌∷◌, drop, get_or, length, map, slice_get, Some, Ok, All, refl, sym, ap, subst, ◌∙◌}
use Rattle.std.proofs.Common.{add-one, drop-cons}
use Rattle.std.proofs.lemmas.List.{get_or-map, length-map}
use Rattle.std.proofs.lemmas.List.Elements.{All-get_or}
use Rattle.rg_base.specs.declared.fault.Stop.{Stop}
use Rattle.rg_tree.specs.Tree.{Member, field, method, Class}
use Rattle.rg_tree.specs.declared.rows.MemberRow.{MemberRow}
use Rattle.rg_tree.specs.Rows.Tables.{Tables}
use Rattle.rg_tree.specs.Rows.RowTrees.{classes_of, member_at, member_of}
use Rattle.rg_rules.specs.Answers.{◌>>◌}
use Rattle.rg_rules.specs.Bodies.{judge_members, judge_methods}
use Rattle.rg_names.specs.Judged.{FailsAs}
use Rattle.rg_check.specs.Inner.Methods.{MemberMayBeJudged, judge_member}
use Rattle.rg_base.proofs.Callers.Lists.{drop-get}
use Rattle.rg_names.proofs.Fails.{FailsAs-first, FailsAs-same}

-- The members of a class.

judge_members-cons : (classes : List Class) (c : ℕ) (m : Member) (ms : List Member) →
    judge_members classes c (m ∷ ms) ≡ ◌>>◌ (judge_member classes c m) (judge_members classes c ms)
judge_members-cons classes c (field f) ms = refl
judge_members-cons classes c (method m) ms = refl

-- the first i members have no fault
abbrev pub MembersUpTo : Tables → (class : ℕ) → List ℕ → (i : ℕ) → Type 0
MembersUpTo t c ks i = judge_members (classes_of t) c (map (member_at t) (drop i ks)) ≡ judge_members (classes_of t) c (map (member_at t) ks)

module _ (t : Tables) (c : ℕ) (ks : List ℕ) (i : ℕ) (row : MemberRow) (l : i < length ks) (tree : member_at t (get_or ks i 0) ≡ member_of t row) where
  pub member-may : All (MemberMayBeJudged (classes_of t)) (map (member_at t) ks) → MemberMayBeJudged (classes_of t) (member_of t row)
  member-may all =
      let e : get_or (map (member_at t) ks) i (member_of t row) ≡ member_of t row = get_or-map (member_at t) ks i 0 (member_of t row) l ∙ tree in
      let P : Member → Type 0 = MemberMayBeJudged (classes_of t) in
      subst P e (All-get_or P (map (member_at t) ks) i (member_of t row) (rw length-map l) all)

  module _ (h : MembersUpTo t c ks i) where
    members-next : judge_members (classes_of t) c (map (member_at t) ks)
        ≡ ◌>>◌ (judge_member (classes_of t) c (member_of t row)) (judge_members (classes_of t) c (map (member_at t) (drop (suc i) ks)))
    members-next =
        let rest = ap (map (member_at t)) (drop-cons ks i 0 l) ∙ ap (λ m. m ∷ map (member_at t) (drop (suc i) ks)) tree in
        sym h ∙ ap (judge_members (classes_of t) c) rest ∙ judge_members-cons (classes_of t) c (member_of t row) _

    pub members-fault : (s : Stop) → FailsAs (judge_member (classes_of t) c (member_of t row)) s →
        FailsAs (judge_members (classes_of t) c (map (member_at t) ks)) s
    members-fault s f = FailsAs-same _ _ s members-next (FailsAs-first (judge_member (classes_of t) c (member_of t row)) _ s f)

    pub members-step : judge_member (classes_of t) c (member_of t row) ≡ Ok tt → MembersUpTo t c ks (i + 1)
    members-step p =
        rw add-one (sym (members-next ∙ ap (λ r. ◌>>◌ r (judge_members (classes_of t) c (map (member_at t) (drop (suc i) ks)))) p))

-- The classes.

-- the methods of the first i classes have no fault
abbrev pub MethodsUpTo : List Class → (i : ℕ) → Type 0
MethodsUpTo classes i = judge_methods classes i (drop i classes) ≡ judge_methods classes 0 classes

module _ (classes : List Class) (i : ℕ) (d : Class) (at : slice_get classes i ≡ Some d) (h : MethodsUpTo classes i) where
  methods-next : judge_methods classes 0 classes ≡ ◌>>◌ (judge_members classes i d.members) (judge_methods classes (suc i) (drop (suc i) classes))
  methods-next = sym h ∙ ap (judge_methods classes i) (drop-get classes i d at)

  pub methods-fault : (s : Stop) → FailsAs (judge_members classes i d.members) s → FailsAs (judge_methods classes 0 classes) s
  methods-fault s f = FailsAs-same _ _ s methods-next (FailsAs-first (judge_members classes i d.members) _ s f)

  pub methods-step : judge_members classes i d.members ≡ Ok tt → MethodsUpTo classes (i + 1)
  methods-step p = rw add-one (sym (methods-next ∙ ap (λ r. ◌>>◌ r (judge_methods classes (suc i) (drop (suc i) classes))) p))
