-- What is said of the bytes that are held, and what of it stays.
use Rattle.std.proofs.Common.{◌≡◌, ℕ, inl, inr, true, false, List, [], ◌++◌, Bool, Option, Some, None, IfSome, ℤ, Result, Ok, Err, IfOk, OnOk, refl}
use Rattle.std.proofs.Common.{sym, ◌∙◌, ap}
use Rattle.std.proofs.Common.{subst, append_assoc}
use Rattle.std.specs.Option.{option_to_list}
use Rattle.std.proofs.lemmas.Bool.{false≢true}
use Rattle.rg_base.specs.Input.{found, malformed, at_end, next_number, found_or_malformed}
use Rattle.rg_io.specs.Content.{Gives}
use Rattle.rg_input.specs.declared.held.Held.{Held}
use Rattle.rg_input.specs.declared.held.Verdict.{Verdict}
use Rattle.rg_input.specs.declared.held.Verdict.TheVariants as says
use Rattle.rg_input.specs.declared.refusal.InputFault.{InputFault}
use Rattle.rg_input.specs.declared.refusal.NumberRefusal.{NumberRefusal}
use Rattle.rg_input.specs.declared.refusal.NumberRefusal.TheVariants as no
use Rattle.rg_input.specs.Inner.Held.{looked_at, pending, Reads, has_enough, IsWhole, with_rest, Says, Settled, says_more, verdict_of}
use Rattle.rg_input.specs.Numbers.{Pending, IsSure, CanCome, OnInput, is_more, is_input, Looks, Answers, Refuses}
use Rattle.rg_input.specs.Read.{is_whole}
use Rattle.rg_input.proofs.LookingAhead.{not-sure}
use Rattle.rg_input.proofs.Read.{is_whole-read, is_whole-more}

-- where bytes are told, those that were read stood in front of them
told-read : (old new : Option (List ℕ)) (read more : List ℕ) → Gives old new read → IfSome new (λ bytes. bytes ≡ more) →
    IfSome old (λ bytes. bytes ≡ read ++ more)
told-read None new read more given told = tt
told-read (Some left) new read more given told =
    let rest : given.0 ≡ more = subst (λ o. IfSome o (λ bytes. bytes ≡ more)) given.2 told in
    given.1 ∙ ap (λ q. read ++ q) rest

-- what can still come, with the bytes that were read in front of it, could come before
CanCome-read : (old_left new_left : Option (List ℕ)) (old new : Pending) (r : Reads old_left new_left old new) (more : List ℕ) →
    CanCome new new_left more → CanCome old old_left (r.read ++ more)
CanCome-read old_left new_left old new r more can = record {
  told = told-read old_left new_left r.read more r.given can.told;
  ended = λ over. ap (λ q. q ++ more) (r.ended over).0 ∙ can.ended (r.ended over).1;
}

-- a fact on the bytes that were held and read, and on those that are left of them
pub OnInput-read : (old between new : Pending) (old_left new_left : Option (List ℕ)) (P : List ℕ → List ℕ → Type 0) →
    Reads old_left new_left old between → new.ended ≡ between.ended →
    ((more : List ℕ) → CanCome between new_left more → P (between.held ++ more) (new.held ++ more)) → OnInput old new old_left new_left P
OnInput-read old between new old_left new_left P r ended holds = (
  r.read,
  r.given,
  λ more can.
      let can_between : CanCome between new_left more = record { told = can.told; ended = λ over. can.ended (ended ∙ over) } in
      let whole : between.held ++ more ≡ old.held ++ (r.read ++ more) = ap (λ q. q ++ more) r.kept ∙ append_assoc old.held r.read more in (
        CanCome-read old_left new_left old between r more can_between,
        subst (λ bytes. P bytes (new.held ++ more)) whole (holds more can_between),
      ),
)

-- what is said of the bytes that were looked at holds of all that can still come
pub said-coming : (h : Held) (ahead : Pending) (left : Option (List ℕ)) (v : Verdict) → Says h v → IsWhole h ahead → (more : List ℕ) →
    CanCome (pending h ahead) left more →
    next_number ((pending h ahead).held ++ more) ≡ with_rest v (option_to_list h.behind ++ (ahead.held ++ more))
said-coming h ahead left v said (inl enough) more can =
    ap next_number (append_assoc (looked_at h) ahead.held more) ∙ said (ahead.held ++ more) (inl enough)
said-coming h ahead left v said (inr over) more can =
    let none : ahead.held ++ more ≡ [] = ap (λ q. q ++ more) over.1 ∙ can.ended over.0 in
    ap next_number (append_assoc (looked_at h) ahead.held more) ∙ said (ahead.held ++ more) (inr none)

is_more-said : (v : Verdict) (rest : List ℕ) → is_more (with_rest v rest) ≡ says_more v
is_more-said (says.Number z) rest = refl
is_more-said says.Malformed rest = refl
is_more-said says.End rest = refl

-- the bytes that are held stay, and the verdict says whether more comes
pub looks-said : (h : Held) (ahead : Pending) (left : Option (List ℕ)) (v : Verdict) → Says h v → IsWhole h ahead → (more : List ℕ) →
    CanCome (pending h ahead) left more → Looks (Ok (says_more v)) ((pending h ahead).held ++ more) ((pending h ahead).held ++ more)
looks-said h ahead left v said whole more can =
    let rest = option_to_list h.behind ++ (ahead.held ++ more) in
    (sym (is_more-said v rest) ∙ sym (ap is_more (said-coming h ahead left v said whole more can)), refl)

-- the number is taken, and what stood behind it is held
pub found-said : (h : Held) (ahead : Pending) (left : Option (List ℕ)) (v : Verdict) (z : ℤ) (new : List ℕ) → Says h v → IsWhole h ahead →
    v ≡ says.Number z → new ≡ option_to_list h.behind → (more : List ℕ) → CanCome (pending h ahead) left more →
    Answers (Ok z) ((pending h ahead).held ++ more) ((new ++ ahead.held) ++ more)
found-said h ahead left v z new said whole is held more can =
    let rest : option_to_list h.behind ++ (ahead.held ++ more) ≡ (new ++ ahead.held) ++ more =
    ap (λ q. q ++ (ahead.held ++ more)) (sym held) ∙ sym (append_assoc new ahead.held more) in
    said-coming h ahead left v said whole more can ∙ ap (λ u. with_rest u (option_to_list h.behind ++ (ahead.held ++ more))) is
    ∙ ap (λ q. found z q) rest

-- what is no number stays
pub malformed-said : (h : Held) (ahead : Pending) (left : Option (List ℕ)) (v : Verdict) → Says h v → IsWhole h ahead → v ≡ says.Malformed →
    (more : List ℕ) → CanCome (pending h ahead) left more → Answers (Err no.Input) ((pending h ahead).held ++ more) ((pending h ahead).held ++ more)
malformed-said h ahead left v said whole is more can =
    (said-coming h ahead left v said whole more can ∙ ap (λ u. with_rest u (option_to_list h.behind ++ (ahead.held ++ more))) is, refl)

-- what is said of the bytes that are held alone
says_alone : (h : Held) (ahead : Pending) (v : Verdict) → Says h v → IsWhole h ahead →
    next_number (pending h ahead).held ≡ with_rest v (option_to_list h.behind ++ ahead.held)
says_alone h ahead v said (inl enough) = said ahead.held (inl enough)
says_alone h ahead v said (inr over) = said ahead.held (inr over.1)

-- a verdict on enough bytes, or on the last ones, stays
pub Settled-says : (h : Held) (ahead : Pending) (v : Verdict) → Says h v → (v ≡ says.End → has_enough h ≡ false) → IsWhole h ahead →
    Settled v (pending h ahead)
Settled-says h ahead (says.Number z) said short whole = tt
Settled-says h ahead says.Malformed said short (inl enough) = (
  inr (is_whole-more (looked_at h) ahead.held (is_whole-read h.blanks h.token h.behind h.read ∙ enough)),
  says_alone h ahead says.Malformed said (inl enough),
)
Settled-says h ahead says.Malformed said short (inr over) = (inl over.0, says_alone h ahead says.Malformed said (inr over))
Settled-says h ahead says.End said short (inl enough) = absurd (false≢true (sym (short refl) ∙ enough))
Settled-says h ahead says.End said short (inr over) = (over.0, says_alone h ahead says.End said (inr over))

-- too little was looked at
pub short-looked : (h : Held) → has_enough h ≡ false → is_whole (looked_at h) ≡ false
short-looked h short = is_whole-read h.blanks h.token h.behind h.read ∙ short

-- where too little was looked at, and no more has to be read, something lies ahead or the source has ended
pub has-more : (h : Held) (old ahead : Pending) → has_enough h ≡ false → (IsSure old → pending h ahead ≡ old) → IsSure old →
    ahead ≡ record { held = []; ended = false } → ⊥
has-more h old ahead short same sure none = not-sure old ahead (looked_at h) (short-looked h short) none (same sure) sure

-- where a refusal stays no more has to be read
pub sure-refused : (n : Pending) (why : NumberRefusal) → Refuses n why → IsSure n
sure-refused n no.End r = inr r.0
sure-refused n no.Input r = elim r.0 [ inl ended ↦ inr ended | inr whole ↦ inl whole ]
sure-refused n no.InputFault r = absurd r

-- the verdict by what it says
verdict-end : (v : Verdict) (rest : List ℕ) → with_rest v rest ≡ at_end → v ≡ says.End
verdict-end (says.Number z) rest e = cc
verdict-end says.Malformed rest e = cc
verdict-end says.End rest e = refl

verdict-malformed : (v : Verdict) (rest : List ℕ) → with_rest v rest ≡ malformed → v ≡ says.Malformed
verdict-malformed (says.Number z) rest e = cc
verdict-malformed says.Malformed rest e = refl
verdict-malformed says.End rest e = cc

-- the verdict on bytes that are refused
pub verdict-refused : (h : Held) (ahead : Pending) (v : Verdict) (why : NumberRefusal) → Says h v → IsWhole h ahead →
    Refuses (pending h ahead) why → v ≡ verdict_of why
verdict-refused h ahead v no.End said whole r =
    verdict-end v (option_to_list h.behind ++ ahead.held) (sym (says_alone h ahead v said whole) ∙ r.1)
verdict-refused h ahead v no.Input said whole r =
    verdict-malformed v (option_to_list h.behind ++ ahead.held) (sym (says_alone h ahead v said whole) ∙ r.1)
verdict-refused h ahead v no.InputFault said whole r = absurd r

-- the refusal of a verdict
pub refusal-end : (why : NumberRefusal) → says.End ≡ verdict_of why → why ≡ no.End
refusal-end no.End e = refl
refusal-end no.Input e = cc
refusal-end no.InputFault e = cc

-- where a refusal stays, the answer whether more comes is that of the refusal
pub more-refused : (h : Held) (ahead : Pending) (v : Verdict) (why : NumberRefusal) → Says h v → IsWhole h ahead →
    Refuses (pending h ahead) why → says_more v ≡ is_input why
more-refused h ahead v why said whole r = ap says_more (verdict-refused h ahead v why said whole r) ∙ same why
  where
    same : (why : NumberRefusal) → says_more (verdict_of why) ≡ is_input why
    same no.End = refl
    same no.Input = refl
    same no.InputFault = refl

-- the verdict on a token
abbrev pub verdict_on : Option ℤ → Verdict
verdict_on (Some z) = says.Number z
verdict_on None = says.Malformed

pub with-token : (o : Option ℤ) (rest : List ℕ) → found_or_malformed rest o ≡ with_rest (verdict_on o) rest
with-token (Some z) rest = refl
with-token None rest = refl

pub more-token : (o : Option ℤ) → says_more (verdict_on o) ≡ true
more-token (Some z) = refl
more-token None = refl

-- what `more` answers, by what was said where it didn't fail
pub looks-answered : (h : Held) (ahead : Pending) (left : Option (List ℕ)) (r : Result Bool InputFault) →
    IfOk r (λ b. (v : Verdict) × Says h v × (says_more v ≡ b)) → OnOk r (IsWhole h ahead) → (more : List ℕ) → CanCome (pending h ahead) left more →
    Looks r ((pending h ahead).held ++ more) ((pending h ahead).held ++ more)
looks-answered h ahead left (Ok b) said whole more can =
    let held = (pending h ahead).held ++ more in
    subst (λ x. Looks (Ok x) held held) said.2 (looks-said h ahead left said.0 said.1 whole more can)
looks-answered h ahead left (Err f) said whole more can = refl
