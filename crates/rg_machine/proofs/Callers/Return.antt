-- What a return does: all slots of the topmost frame end, and then it goes. For crates above too.
use Rattle.std.proofs.Common.{◌≡◌, ℕ, zero, suc, List, [], ◌∷◌, Some, drop, slice_get, Bool as Truth, true, false, ◌&&◌, if◌then◌else◌}
use Rattle.std.proofs.Common.{refl, sym, ap, ◌∙◌, subst}
use Rattle.std.proofs.lemmas.Bool.{and_parts}
use Rattle.std.proofs.lemmas.Option.{none-some, same_Some}
use Rattle.rg_base.specs.declared.value.Val.{Val}
use Rattle.rg_code.specs.Code.{empty}
use Rattle.rg_code.specs.declared.op.Op.TheVariants as i
use Rattle.rg_stack.specs.Machine.{Frame, Machine, Window, slots_below, top_slots, with_slots, ended_slots}
use Rattle.rg_stack.specs.Effects.{Returns, Stuck, begins_by, on_top, returned}
use Rattle.rg_stack.specs.Tops.{Work}
use Rattle.rg_stack.specs.Needs.{is_empty, loose, needs, owned_once}
use Rattle.rg_stack.proofs.Callers.List.{empty-is}
use Rattle.rg_held.specs.Frees.{free_act, freed, given_up}
use Rattle.rg_machine.specs.declared.next.Next.TheVariants as next
use Rattle.rg_machine.specs.Core.{Core, ActIs, Has, with_machine, work_of}
use Rattle.rg_machine.specs.Effects.{AllLoose, ending}
use Rattle.rg_machine.specs.Frames.{Went, may_go, may_return}
use Rattle.rg_machine.specs.Keeps.{GoesBack, SameBacks, backs}

-- What is needed

-- the value alone is on the stack, and owns nothing that has an owner
record Alone (c : Core) (v : Val) : Type 0 where
  alone : c.stack ≡ v ∷ []
  once : owned_once c.machine ≡ true
  free : loose c.machine v ≡ true

alone-by : (c : Core) (v : Val) (rest : List Val) → Has i.Ret c → c.stack ≡ v ∷ rest → Alone c v
alone-by c v rest has e =
    let n = subst (λ (s : List Val). needs empty i.Ret s c.machine ≡ true) e has in
    let two = and_parts (is_empty rest && owned_once c.machine) (loose c.machine v) n in
    let one = and_parts (is_empty rest) (owned_once c.machine) two.0 in
    record { alone = e ∙ ap (λ vs. v ∷ vs) (empty-is rest one.0); once = one.1; free = two.1 }

one-loose : (m : Machine) (v x : Val) (k : ℕ) → loose m v ≡ true → slice_get (v ∷ []) k ≡ Some x → loose m x ≡ true
one-loose m v x zero free e = ap (loose m) (sym (same_Some v x e)) ∙ free
one-loose m v x (suc k) free e = absurd (none-some x e)

pub ret-once : (c : Core) (v : Val) (rest : List Val) → Has i.Ret c → c.stack ≡ v ∷ rest → owned_once c.machine ≡ true
ret-once c v rest has e = (alone-by c v rest has e).once

pub ret-loose : (c : Core) (v : Val) (rest : List Val) → Has i.Ret c → c.stack ≡ v ∷ rest → AllLoose c
ret-loose c v rest has e k x there =
    let a = alone-by c v rest has e in
    one-loose c.machine v x k a.free (subst (λ (s : List Val). slice_get s k ≡ Some x) a.alone there)

pub void-once : (c : Core) → Has i.RetVoid c → owned_once c.machine ≡ true
void-once c has = (and_parts (is_empty c.stack) (owned_once c.machine) has).1

void-none : (c : Core) → Has i.RetVoid c → c.stack ≡ []
void-none c has = empty-is c.stack (and_parts (is_empty c.stack) (owned_once c.machine) has).0

pub void-loose : (c : Core) → Has i.RetVoid c → AllLoose c
void-loose c has k x there = absurd (none-some x (subst (λ (s : List Val). slice_get s k ≡ Some x) (void-none c has) there))

-- Frames

-- other slots in the topmost frame don't decide whether it may go
may-other : (vs : List Val) (fs : List Frame) (ws : List Window) → may_return (with_slots vs fs) ws ≡ may_return fs ws
may-other vs [] ws = refl
may-other vs (f ∷ []) ws = refl
may-other vs (f ∷ g ∷ fs) ws = refl

pub may-ending : (c : Core) → may_go (ending c 0).machine ≡ may_go c.machine
may-ending c = may-other (ended_slots 0 (top_slots c.machine.frames)) c.machine.frames c.machine.windows

stuck-by : (w : Work) (fs : List Frame) (stack : List Val) → may_return fs w.machine.windows ≡ false → returned w fs stack ≡ Stuck
stuck-by w [] stack e = refl
stuck-by w (f ∷ []) stack e = refl
stuck-by w (f ∷ g ∷ fs) stack e =
    ap (λ (b : Truth). if b then Returns f.back stack (record w { machine = record w.machine { frames = g ∷ fs } }) else Stuck) e

-- the frame goes of which other slots stood on top
gone-by : (w : Work) (fs : List Frame) (vs : List Val) (top caller : Frame) (others : List Frame) (back : ℕ) (stack : List Val)
    → with_slots vs fs ≡ top ∷ caller ∷ others → top.back ≡ back → begins_by w.machine.windows (slots_below (caller ∷ others)) ≡ true
    → returned w fs stack ≡ Returns back stack (record w { machine = record w.machine { frames = caller ∷ others } })
gone-by w [] vs top caller others back stack e is free = absurd cc
gone-by w (f ∷ []) vs top caller others back stack e is free = absurd cc
gone-by w (f ∷ g ∷ gs) vs top caller others back stack e is free =
    let rest : g ∷ gs ≡ caller ∷ others = ap (drop 1) e in
    let same : f.back ≡ top.back = first-back e in
    let begins : begins_by w.machine.windows (slots_below (g ∷ gs)) ≡ true =
    ap (λ (l : List Frame). begins_by w.machine.windows (slots_below l)) rest ∙ free in
    ap (λ (b : Truth). if b then Returns f.back stack (record w { machine = record w.machine { frames = g ∷ gs } }) else Stuck) begins
    ∙ ap (λ (l : List Frame). Returns f.back stack (record w { machine = record w.machine { frames = l } })) rest
    ∙ ap (λ (n : ℕ). Returns n stack (record w { machine = record w.machine { frames = caller ∷ others } })) (same ∙ is)
  where
    back-of : List Frame → ℕ
    back-of [] = 0
    back-of (x ∷ xs) = x.back

    first-back : record f { slots = vs } ∷ g ∷ gs ≡ top ∷ caller ∷ others → f.back ≡ top.back
    first-back h = ap back-of h

-- frames that go back where others do
pub same-back : (fs gs : List Frame) (t : ℕ) → backs gs ≡ backs fs → GoesBack gs t → GoesBack fs t
same-back [] [] t e g = g
same-back [] (g ∷ gs) t e h = absurd cc
same-back (f ∷ []) [] t e h = absurd h
same-back (f ∷ []) (g ∷ []) t e h = h
same-back (f ∷ []) (g ∷ k ∷ gs) t e h = absurd cc
same-back (f ∷ j ∷ fs) [] t e h = absurd h
same-back (f ∷ j ∷ fs) (g ∷ []) t e h = absurd h
same-back (f ∷ j ∷ fs) (g ∷ k ∷ gs) t e h = let same : f.back ≡ g.back = cc in same ∙ h

-- one that went had gone back there
pub went-back : (old mid new : Core) (back : ℕ) → SameBacks old.machine mid.machine → Went mid new back → GoesBack old.machine.frames back
went-back old mid new back same went =
    same-back old.machine.frames mid.machine.frames back same
    (subst (λ (fs : List Frame). GoesBack fs back) (sym went.were) went.back_is)

-- so does one whose slots ended first
backs-with : (vs : List Val) (fs : List Frame) → backs (with_slots vs fs) ≡ backs fs
backs-with vs [] = refl
backs-with vs (f ∷ fs) = refl

pub went-ending : (old new : Core) (back : ℕ) → Went (ending old 0) new back → GoesBack old.machine.frames back
went-ending old new back went =
    went-back old (ending old 0) new back (backs-with (ended_slots 0 (top_slots old.machine.frames)) old.machine.frames) went

-- Effects

-- nothing returns where the frame may not go
may-ends : (old mid : Core) → mid ≡ ending old 0 → may_go mid.machine ≡ false → may_go old.machine ≡ false
may-ends old mid ends stays =
    sym (may-other (ended_slots 0 (top_slots old.machine.frames)) old.machine.frames old.machine.windows)
    ∙ (ap (λ (c : Core). may_go c.machine) (sym ends) ∙ stays)

-- what is left of the work, behind the freeing
abbrev freed_work : Core → (input : List ℕ) → Work
freed_work c input = freed (given_up i.RetVoid c.stack c.machine) (work_of c input)

-- the frame goes, with the stack as it was
went-returned : (old mid new : Core) (back : ℕ) (input : List ℕ) → mid ≡ ending old 0 → Went mid new back
    → returned (freed_work old input) old.machine.frames old.stack ≡ Returns back new.stack (work_of new input)
went-returned old mid new back input ends went =
    let rest = went.caller ∷ went.others in
    let were : with_slots (ended_slots 0 (top_slots old.machine.frames)) old.machine.frames ≡ went.top ∷ rest =
    sym (ap (λ (c : Core). c.machine.frames) ends) ∙ went.were in
    let free : begins_by old.machine.windows (slots_below rest) ≡ true =
    sym (ap (λ (c : Core). begins_by c.machine.windows (slots_below rest)) ends) ∙ went.free in
    gone-by (freed_work old input) old.machine.frames (ended_slots 0 (top_slots old.machine.frames)) went.top went.caller went.others back old.stack
    were went.back_is free
    ∙ sym (ap (λ (c : Core). Returns back c.stack (work_of (with_machine c (record c.machine { frames = rest })) input)) ends)
    ∙ sym (ap (λ (c : Core). Returns back c.stack (work_of c input)) went.are)

-- `retv`
pub void-goes : (at : ℕ) (old mid new : Core) (back : ℕ) → Has i.RetVoid old → mid ≡ ending old 0 → Went mid new back
    → ActIs (free_act empty at i.RetVoid) at old new (next.Return back)
void-goes at old mid new back has ends went go input =
    sym (ap (returned (freed_work old input) old.machine.frames) (void-none old has)) ∙ went-returned old mid new back input ends went

pub void-stays : (at : ℕ) (old mid new : Core) → mid ≡ ending old 0 → may_go mid.machine ≡ false
    → ActIs (free_act empty at i.RetVoid) at old new next.Lost
void-stays at old mid new ends stays go input = stuck-by (freed_work old input) old.machine.frames [] (may-ends old mid ends stays)

-- `ret`
pub ret-none : (at : ℕ) (old new : Core) → old.stack ≡ [] → ActIs (free_act empty at i.Ret) at old new next.Lost
ret-none at old new e go input =
    ap (λ (s : List Val). on_top s (λ v rest. returned (freed_work old input) old.machine.frames (v ∷ []))) e

pub ret-goes : (at : ℕ) (old mid new : Core) (v : Val) (rest : List Val) (back : ℕ) → Has i.Ret old → old.stack ≡ v ∷ rest → mid ≡ ending old 0
    → Went mid new back → ActIs (free_act empty at i.Ret) at old new (next.Return back)
ret-goes at old mid new v rest back has e ends went go input =
    let a = alone-by old v rest has e in
    ap (λ (s : List Val). on_top s (λ v rest. returned (freed_work old input) old.machine.frames (v ∷ []))) a.alone
    ∙ sym (ap (returned (freed_work old input) old.machine.frames) a.alone)
    ∙ went-returned old mid new back input ends went

pub ret-stays : (at : ℕ) (old mid new : Core) (v : Val) (rest : List Val) → old.stack ≡ v ∷ rest → mid ≡ ending old 0
    → may_go mid.machine ≡ false → ActIs (free_act empty at i.Ret) at old new next.Lost
ret-stays at old mid new v rest e ends stays go input =
    ap (λ (s : List Val). on_top s (λ v rest. returned (freed_work old input) old.machine.frames (v ∷ []))) e
    ∙ stuck-by (freed_work old input) old.machine.frames (v ∷ []) (may-ends old mid ends stays)
