-- Maps, laid on the marks of a code in order.
use Rattle.std.proofs.Common.{◌≡◌, refl, sym, ap, ◌∙◌, subst, ℕ, suc, ◌+◌, ◌-◌, ◌<◌, ◌≤◌, Bool, false, true, List, [], ◌∷◌, ◌++◌, length}
use Rattle.std.proofs.Common.{take, drop, get_or, slice_set, Some, append_assoc, arith}
use Rattle.std.proofs.lemmas.List.{append-nil, take_more, take_more_set, length-set, get_or-set_other, get_or-drop, length-drop, take-append-drop}
use Rattle.std.proofs.lemmas.List.{drop_all}
use Rattle.std.proofs.lemmas.Option.{slice_get_within}
use Rattle.rg_base.specs.declared.ty.Ty.{Ty}
use Rattle.rg_base.proofs.Callers.Lists.{there, drop-here}
use Rattle.rg_code.specs.declared.op.Op.{Op}
use Rattle.rg_code.specs.declared.op.Op.TheVariants as i
use Rattle.rg_code.specs.Code.{Code}
use Rattle.rg_code.specs.Places.{is_mark}
use Rattle.rg_code.specs.Shapes.{IsMark}
use Rattle.rg_module.specs.Parts.{Parts}
use Rattle.rg_build.specs.ModuleOf.{map_here, maps_behind, laid}
use Rattle.rg_build.specs.declared.laying.Laying.{Laying}
use Rattle.rg_build.specs.Inner.Laid.{settled, IsOpen, LaysOf, Lays}

-- Steps

pub lays-still : (l : Laying) (maps : List (List Ty)) → IsOpen l → LaysOf l l maps maps
lays-still l maps h = record { open_now = h; same = refl; settles = λ others. refl }

-- some marks more got their maps
pub lays-more : (a b c : Laying) (whole front rest : List (List Ty)) → LaysOf a b whole (front ++ rest) → Lays b c front → LaysOf a c whole rest
lays-more a b c whole front rest u v = record {
  open_now = v.open_now;
  same = v.same ∙ ap (λ (m : Parts). record m { maps = c.module.maps }) u.same;
  settles = λ others. v.settles (rest ++ others) ∙ ap (settled b) (sym (append_assoc front rest others)) ∙ u.settles others;
}

-- the next marks got these maps, and then those
pub lays-then : (a b c : Laying) (front rest : List (List Ty)) → Lays a b front → Lays b c rest → Lays a c (front ++ rest)
lays-then a b c front rest u v = record {
  open_now = v.open_now;
  same = v.same ∙ ap (λ (m : Parts). record m { maps = c.module.maps }) u.same;
  settles = λ others. v.settles others ∙ u.settles (rest ++ others) ∙ ap (settled a) (sym (append_assoc front rest others));
}

-- and the last ones
pub lays-last : (a b c : Laying) (whole rest : List (List Ty)) → LaysOf a b whole rest → Lays b c rest → Lays a c whole
lays-last a b c whole rest u v = record {
  open_now = v.open_now;
  same = v.same ∙ ap (λ (m : Parts). record m { maps = c.module.maps }) u.same;
  settles = λ others. v.settles others ∙ u.settles others;
}

-- the same maps in other words
pub lays-as : (a b : Laying) (maps others : List (List Ty)) → maps ≡ others → Lays a b maps → Lays a b others
lays-as a b maps others e h = subst (Lays a b) e h

-- One instruction

not_mark : (o : Op) → ((line : ℕ) → o ≡ i.Mark line → ⊥) → is_mark (Some o) ≡ false
not_mark (i.Mark line) h = absurd (h line refl)
not_mark _ h = refl

laid-plain : (ops : List Op) (at : ℕ) (maps : List (List Ty)) → at < length ops → (IsMark ops at → ⊥) →
    laid (drop at ops) maps ≡ [] ∷ laid (drop (at + 1) ops) maps
laid-plain ops at maps lt apart =
    let o = there ops at lt in
    let plain : is_mark (Some o.0) ≡ false = not_mark o.0 (λ line e. apart (line, o.1 ∙ ap Some e)) in
    rw (drop-here ops at o.0 o.1, plain) refl

laid-mark : (ops : List Op) (at : ℕ) (m : List Ty) (maps : List (List Ty)) → IsMark ops at →
    laid (drop at ops) (m ∷ maps) ≡ m ∷ laid (drop (at + 1) ops) maps
laid-mark ops at m maps h = rw (drop-here ops at (i.Mark h.0) h.1) refl

-- an instruction that is no mark is passed over
pub lays-plain : (l new : Laying) → IsOpen l → l.at < length l.module.code.ops → (IsMark l.module.code.ops l.at → ⊥) →
    new ≡ record { «module» = l.module; at = l.at + 1 } → Lays l new []
lays-plain l new h lt apart e =
    let n = l.at in
    let shorter : n < length l.module.maps = rw h.even lt in
    let empty : take (n + 1) l.module.maps ≡ take n l.module.maps ++ [] ∷ [] =
    take_more l.module.maps n [] shorter ∙ ap (λ (m : List Ty). take n l.module.maps ++ m ∷ []) (h.free n (omega arith)) in
    rw e (record {
      open_now = record {
        within = omega (arith, lt);
        even = h.even;
        free = λ i le. h.free i (omega (arith, le));
      };
      same = refl;
      settles = λ others.
          ap (λ (front : List (List Ty)). front ++ laid (drop (n + 1) l.module.code.ops) others) empty
          ∙ append_assoc (take n l.module.maps) ([] ∷ []) (laid (drop (n + 1) l.module.code.ops) others)
          ∙ ap (λ (rest : List (List Ty)). take n l.module.maps ++ rest) (sym (laid-plain l.module.code.ops n others lt apart));
    })

-- a mark gets its map
pub lays-mark : (l new : Laying) (m : List Ty) → IsOpen l → IsMark l.module.code.ops l.at →
    new ≡ record { «module» = record l.module { maps = slice_set l.module.maps l.at m }; at = l.at + 1 } → Lays l new (m ∷ [])
lays-mark l new m h mark e =
    let n = l.at in
    let lt : n < length l.module.code.ops = slice_get_within l.module.code.ops n _ mark.1 in
    let shorter : n < length l.module.maps = rw h.even lt in
    rw e (record {
      open_now = record {
        within = omega (arith, lt);
        even = length-set l.module.maps n m ∙ h.even;
        free = λ i le. get_or-set_other l.module.maps n i m [] (λ same. absurd (omega (arith, le, same))) ∙ h.free i (omega (arith, le));
      };
      same = refl;
      settles = λ others.
          ap (λ (front : List (List Ty)). front ++ laid (drop (n + 1) l.module.code.ops) others) (take_more_set l.module.maps n m shorter)
          ∙ append_assoc (take n l.module.maps) (m ∷ []) (laid (drop (n + 1) l.module.code.ops) others)
          ∙ ap (λ (rest : List (List Ty)). take n l.module.maps ++ rest) (sym (laid-mark l.module.code.ops n m others mark));
    })

-- at the end of the code nothing is left to be laid
pub lays-past : (l : Laying) (maps : List (List Ty)) → IsOpen l → length l.module.code.ops ≤ l.at → Lays l l maps
lays-past l maps h le =
    let none : drop l.at l.module.code.ops ≡ [] = drop_all l.at l.module.code.ops le in
    let gone : (ms : List (List Ty)) → settled l ms ≡ take l.at l.module.maps ++ [] =
    λ ms. ap (λ (os : List Op). take l.at l.module.maps ++ laid os ms) none in
    record { open_now = h; same = refl; settles = λ others. gone others ∙ sym (gone (maps ++ others)) }

-- The next mark gets a map: behind what is no mark

pub put-past : (old mid : Laying) (m : List Ty) → Lays old mid [] → length mid.module.code.ops ≤ mid.at → Lays old mid (m ∷ [])
put-past old mid m h le = lays-then old mid mid [] (m ∷ []) h (lays-past mid (m ∷ []) h.open_now le)

pub put-mark : (old mid : Laying) (made : Parts) (m : List Ty) → Lays old mid [] → IsMark mid.module.code.ops mid.at →
    made ≡ record mid.module { maps = slice_set mid.module.maps mid.at m } → Lays old (record { «module» = made; at = mid.at + 1 }) (m ∷ [])
put-mark old mid made m h mark e =
    let with_module : Parts → Laying = λ p. record { «module» = p; at = mid.at + 1 } in
    lays-then old mid (with_module made) [] (m ∷ []) h (lays-mark mid (with_module made) m h.open_now mark (ap with_module e))

-- where the code goes on a mark stands
pub mark-here : (mid : Laying) (code : Code) (n : ℕ) → n ≡ length code.ops → code ≡ mid.module.code → mid.at < n →
    (mid.at < length mid.module.code.ops → IsMark mid.module.code.ops mid.at) → IsMark mid.module.code.ops mid.at
mark-here mid code n e c lt mark =
    let l : n ≡ length mid.module.code.ops = e ∙ ap (λ (d : Code). length d.ops) c in
    mark (omega (arith, l, lt))

pub skip-more : (old l new : Laying) → Lays old l [] → l.at < length l.module.code.ops → (IsMark l.module.code.ops l.at → ⊥) →
    new ≡ record { «module» = l.module; at = l.at + 1 } → Lays old new []
skip-more old l new h lt apart e = lays-then old l new [] [] h (lays-plain l new h.open_now lt apart e)

-- From the start to the end

laid-none : (xs : List (List Ty)) (ops : List Op) → length xs ≡ length ops → ((i : ℕ) → get_or xs i [] ≡ []) → laid ops [] ≡ xs
laid-none [] [] e h = refl
laid-none [] (o ∷ os) e h = absurd (omega (arith, e))
laid-none (x ∷ xs) [] e h = absurd (omega (arith, e))
laid-none (x ∷ xs) (o ∷ os) e h = none_by (is_mark (Some o)) (h 0) (laid-none xs os (omega (arith, e)) (λ i. h (suc i)))
  where
    none_by : (b : Bool) → x ≡ [] → laid os [] ≡ xs → map_here b [] ∷ laid os (maps_behind b []) ≡ x ∷ xs
    none_by true z r = rw (z, r) refl
    none_by false z r = rw (z, r) refl

-- behind all maps that were to come, each mark has its own
pub lays-done : (old new : Laying) (maps : List (List Ty)) → old.at ≡ 0 → Lays old new maps →
    new.module ≡ record old.module { maps = laid old.module.code.ops maps }
lays-done old new maps z h =
    let o = h.open_now in
    let k = new.at in
    let rest : laid (drop k new.module.code.ops) [] ≡ drop k new.module.maps =
    laid-none (drop k new.module.maps) (drop k new.module.code.ops)
    (length-drop k new.module.maps ∙ ap (λ (n : ℕ). n - k) o.even ∙ sym (length-drop k new.module.code.ops))
    (λ i. get_or-drop k new.module.maps i [] ∙ o.free (k + i) (omega arith)) in
    let all : new.module.maps ≡ settled new [] =
    sym (take-append-drop k new.module.maps) ∙ ap (λ (r : List (List Ty)). take k new.module.maps ++ r) (sym rest) in
    let from : settled old (maps ++ []) ≡ laid old.module.code.ops maps =
    ap (λ (n : ℕ). take n old.module.maps ++ laid (drop n old.module.code.ops) (maps ++ [])) z
    ∙ ap (laid old.module.code.ops) (append-nil maps) in
    h.same ∙ ap (λ (ms : List (List Ty)). record old.module { maps = ms }) (all ∙ h.settles [] ∙ from)
