-- What the loop over methods keeps.
use Rattle.std.proofs.Common.{◌≡◌, ◌==◌, ℕ, ◌+◌, ◌≤◌, Bool as Truth, true, false, List, [], ◌∷◌, ◌++◌, length, drop}
use Rattle.std.proofs.Common.{Option, Some, None, option_map, Ok, Err, Vec, Global, refl, sym, ap, ◌∙◌, subst, append_assoc}
use Rattle.std.proofs.lemmas.List.{append-nil, drop_all}
use Rattle.rg_tree.specs.Rows.Tables.{Tables}
use Rattle.rg_tree.specs.Adds.{Extends}
use Rattle.rg_tree.proofs.Adding.{extends-same, extends-trans}
use Rattle.rg_spell.specs.declared.rows.Head.{Head}
use Rattle.rg_verify_expressions.specs.declared.refusal.Refusal.{Refusal}
use Rattle.rg_verify_expressions.specs.declared.refusal.Refusal.TheVariants as refusal
use Rattle.rg_verify_expressions.specs.Blocks.{◌>>=◌, ◌>>◌, test, Given}
use Rattle.rg_raise.specs.Telling.{MakesAs, MakesOne}
use Rattle.rg_raise.proofs.Telling.{bind-is, bind-none, makes-some, one-so}
use Rattle.rg_classes.specs.declared.body_row.BodyRow.{BodyRow}
use Rattle.rg_classes.specs.Written.{Bodied}
use Rattle.rg_classes.specs.Rows.{AreBodies}
use Rattle.rg_bodies.specs.Bodies.{RaisedBody, types_in_front, method_told, methods_told}
use Rattle.rg_bodies.specs.Rows.{method_named, methods_named, IsBodySaid, AreMethodsSaid}
use Rattle.rg_bodies.proofs.Making.{many-refused, one-none, bodies-none, bodies-push}

-- what is told of methods, with their names
abbrev names_told : Given → (depth : ℕ) → List Head → (at : ℕ) → Option (List Bodied)
names_told g d hs at = option_map (methods_named hs) (methods_told g d hs at)

-- no bodies are told
abbrev nil : Option (List RaisedBody)
nil = Some []

-- behind others
abbrev behind : List Bodied → Option (List Bodied) → Option (List Bodied)
behind named o = option_map (λ (ns : List Bodied). named ++ ns) o

behind-nothing : (o : Option (List Bodied)) → o ≡ behind [] o
behind-nothing None = refl
behind-nothing (Some ns) = refl

behind-more : (named : List Bodied) (n : Bodied) (o : Option (List Bodied)) → behind named (behind (n ∷ []) o) ≡ behind (named ++ n ∷ []) o
behind-more named n None = refl
behind-more named n (Some ns) = ap (λ (xs : List Bodied). Some xs) (sym (append_assoc named (n ∷ []) ns))

drop-nothing : (hs : List Head) → drop 0 hs ≡ hs
drop-nothing [] = refl
drop-nothing (h ∷ hs) = refl

map-none : {A B : Type 0} (f : A → B) (o : Option A) → option_map f o ≡ None → o ≡ None
map-none f None e = refl
map-none f (Some a) e = absurd cc

map-some : {A B : Type 0} (f : A → B) (o : Option A) (b : B) → option_map f o ≡ Some b → (a : A) × (o ≡ Some a) × (f a ≡ b)
map-some f None b e = absurd cc
map-some f (Some a) b e = (a, refl, cc)

-- The methods in front of a number are raised, as these rows.
pub record MethodsSoFar (g : Given) (d : ℕ) (hs : List Head) (at : ℕ) (t u : Tables) (k end : ℕ) (rows : List BodyRow) : Type 0 where
  pub grown : Extends t u
  pub named : List Bodied
  pub said : AreBodies u rows named
  pub rest : names_told g d hs at ≡ behind named (names_told g d (drop k hs) end)

module _ (g : Given) (d : ℕ) (hs : List Head) (at : ℕ) (t : Tables) where
  abbrev Is : Tables → Vec BodyRow Global → List RaisedBody → Type 0
  Is w v = AreMethodsSaid hs w v.items

  pub methods-none : (end : ℕ) → end ≡ at → MethodsSoFar g d hs at t t 0 end []
  methods-none end e = record {
    grown = extends-same t;
    named = [];
    said = bodies-none t;
    rest = behind-nothing (names_told g d hs at) ∙ ap (λ (xs : List Head). behind [] (names_told g d xs at)) (sym (drop-nothing hs))
        ∙ ap (λ (n : ℕ). behind [] (names_told g d (drop 0 hs) n)) (sym e);
  }

  module _ (u : Tables) (k end : ℕ) (rows : List BodyRow) (s : MethodsSoFar g d hs at t u k end rows) where
    -- what is told of the rest tells of all
    rest-none : methods_told g d (drop k hs) end ≡ None → methods_told g d hs at ≡ None
    rest-none none =
        map-none (methods_named hs) (methods_told g d hs at)
        (s.rest ∙ ap (λ (o : Option (List RaisedBody)). behind s.named (option_map (methods_named (drop k hs)) o)) none)

    module _ (h : Head) (here : drop k hs ≡ h ∷ drop (k + 1) hs) (m : Truth) (in_method : m ≡ true) (v : Tables) where
      abbrev IsOne : Tables → BodyRow → RaisedBody → Type 0
      IsOne = IsBodySaid m (length (types_in_front h))

      pub methods-refused : (r : Refusal) → MakesAs IsOne u v (method_told g d h end) (Err r) → MakesOne Is t v (methods_told g d hs at) (Err r)
      methods-refused r made =
          many-refused IsOne Is u v t v (method_told g d h end) (methods_told g d hs at) r made
          (λ none. rest-none (ap (λ (xs : List Head). methods_told g d xs end) here ∙ bind-none (method_told g d h end) _ none))

      pub methods-more : (row : BodyRow) (next : ℕ) (more : List BodyRow) → MakesAs IsOne u v (method_told g d h end) (Ok (row, next))
          → more ≡ rows ++ row ∷ [] → MethodsSoFar g d hs at t v (k + 1) next more
      methods-more row next more made e =
          let (b, told, grown, said) = makes-some IsOne u v (method_told g d h end) row next made in
          let inside : IsBodySaid true (length (types_in_front h)) v row b =
          subst (λ (x : Truth). IsBodySaid x (length (types_in_front h)) v row b) in_method said in
          let n = method_named h b in
          let left = drop (k + 1) hs in
          let one : names_told g d (h ∷ left) end ≡ behind (n ∷ []) (names_told g d left next) =
          ap (option_map (methods_named (h ∷ left))) (bind-is (method_told g d h end) _ (b, next) told)
          ∙ by b left (methods_told g d left next) in
          record {
            grown = extends-trans s.grown grown;
            named = s.named ++ n ∷ [];
            said = subst (λ (rs : List BodyRow). AreBodies v rs (s.named ++ n ∷ [])) (sym e)
                (bodies-push true (length (types_in_front h)) row b s.said grown inside);
            rest = s.rest ∙ ap (λ (xs : List Head). behind s.named (names_told g d xs end)) here ∙ ap (behind s.named) one
                ∙ behind-more s.named n (names_told g d left next);
          }
        where
          by : (b : RaisedBody) (left : List Head) (o : Option (List RaisedBody))
              → option_map (methods_named (h ∷ left)) (◌>>=◌ o (λ (bs : List RaisedBody). Some (b ∷ bs)))
              ≡ behind (method_named h b ∷ []) (option_map (methods_named left) o)
          by b left None = refl
          by b left (Some bs) = refl

    module _ (past : length hs ≤ k) where
      left-none : drop k hs ≡ []
      left-none = drop_all k hs past

      -- where the last body ends, the code goes on
      pub methods-beyond : (end == length g.ops) ≡ false → MakesOne Is t u (methods_told g d hs at) (Err refusal.NotRaised)
      methods-beyond other =
          one-none Is t u (methods_told g d hs at)
          (rest-none (ap (λ (xs : List Head). methods_told g d xs end) left-none
          ∙ ap (λ (x : Truth). ◌>>◌ (test x) nil) other))

      -- the code ends there
      pub methods-all : (v : Vec BodyRow Global) → v.items ≡ rows → (end == length g.ops) ≡ true → MakesOne Is t u (methods_told g d hs at) (Ok v)
      methods-all v items ends =
          let nothing : names_told g d (drop k hs) end ≡ Some [] =
          ap (λ (xs : List Head). names_told g d xs end) left-none
          ∙ ap (λ (x : Truth). option_map (methods_named []) (◌>>◌ (test x) (Some []))) ends in
          let whole : names_told g d hs at ≡ Some s.named =
          s.rest ∙ ap (behind s.named) nothing ∙ ap (λ (ns : List Bodied). Some ns) (append-nil s.named) in
          let (bs, told, names) = map-some (methods_named hs) (methods_told g d hs at) s.named whole in
          let said : AreBodies u v.items (methods_named hs bs) =
          subst (λ (rs : List BodyRow). AreBodies u rs (methods_named hs bs)) (sym items)
          (subst (λ (ns : List Bodied). AreBodies u rows ns) (sym names) s.said) in
          one-so Is t u (methods_told g d hs at) v bs told s.grown said
