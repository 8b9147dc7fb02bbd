-- The methods of a module in order of their classes, as calls need them (docs/architecture.md, "Modules").
use Rattle.std.specs.Prelude.{◌≡◌, ℕ, suc, ◌==◌, ◌&&◌, Bool as Truth, true, false, if◌then◌else◌, nat_le, nat_lt, List, [], ◌∷◌, length}
use Rattle.std.specs.Prelude.{slice_get, Option, Some, None, Result, Ok, Err, Vec}
use Rattle.std.specs.declared.alloc.Global.{Global}
use Rattle.rg_base.specs.declared.ty.Ty.{Ty}
use Rattle.rg_base.specs.declared.limits.TheConstants.{CLASSES, CLASS_FIELDS, CLASS_METHODS, PARAMETERS}
use Rattle.rg_spell.specs.declared.rows.Shape.{Shape}
use Rattle.rg_spell.specs.declared.rows.Head.{Head}
use Rattle.rg_verify_expressions.specs.declared.callee.Callee.{Callee}
use Rattle.rg_verify_expressions.specs.declared.refusal.Refusal.{Refusal}
use Rattle.rg_verify_expressions.specs.declared.refusal.Refusal.TheVariants as refusal

-- the number in its class of a method of class c, behind `place` methods of the class before
abbrev pub place_of : (before place : ℕ) → (c : ℕ) → ℕ
place_of before place c = if c == before then place else 0

-- methods in order, the first of which has this number, behind `place` methods of a class
abbrev pub callees_from : (number before place : ℕ) → List Head → List Callee
callees_from n before place [] = []
callees_from n before place (h ∷ hs) =
    let k = place_of before place h.class in
    record { number = n; place = k; result = h.result } ∷ callees_from (suc n) h.class (suc k) hs

-- the methods of a module
abbrev pub callees_of : List Head → List Callee
callees_of hs = callees_from 0 0 0 hs

-- whether a class takes methods: it is there, and isn't an array class
abbrev pub is_plain : (element : Option Ty) → Truth
is_plain None = true
is_plain (Some t) = false

abbrev pub takes_methods : Option Shape → Truth
takes_methods None = false
takes_methods (Some s) = is_plain s.element

-- whether a method may come next, as the one of this number in its class, behind methods of a class: no class is gone back to, this one takes
-- methods and has no more than it may, and the method has no more parameters than it may
abbrev pub may_follow : List Shape → (before place : ℕ) → Head → Truth
may_follow shapes before place h =
    nat_le before h.class && takes_methods (slice_get shapes h.class) && nat_lt place CLASS_METHODS && nat_le (length h.params) PARAMETERS

-- whether methods may follow in this order, behind `place` methods of a class
abbrev pub are_ordered : List Shape → (before place : ℕ) → List Head → Truth
are_ordered shapes before place [] = true
are_ordered shapes before place (h ∷ hs) =
    let k = place_of before place h.class in
    may_follow shapes before k h && are_ordered shapes h.class (suc k) hs

-- whether no class has more fields than it may
abbrev pub have_few_fields : List Shape → Truth
have_few_fields [] = true
have_few_fields (s ∷ ss) = nat_le (length s.fields) CLASS_FIELDS && have_few_fields ss

-- whether the tables are those of a program: no more classes than it may have, no more fields, and the methods in order of their classes
abbrev pub are_tables : List Shape → List Head → Truth
are_tables shapes heads = nat_le (length shapes) CLASSES && have_few_fields shapes && are_ordered shapes 0 0 heads

-- the methods, where they are in order, and only there
abbrev pub NumbersCallees : List Shape → List Head → Result (Vec Callee Global) Refusal → Type 0
NumbersCallees shapes heads (Ok v) = (are_ordered shapes 0 0 heads ≡ true) × (v.items ≡ callees_of heads)
NumbersCallees shapes heads (Err refusal.NotRaised) = are_ordered shapes 0 0 heads ≡ false
NumbersCallees shapes heads (Err refusal.Memory) = Unit {0}

-- the methods, where the tables are those of a program, and only there
abbrev pub FindsCallees : List Shape → List Head → Result (Vec Callee Global) Refusal → Type 0
FindsCallees shapes heads (Ok v) = (are_tables shapes heads ≡ true) × (v.items ≡ callees_of heads)
FindsCallees shapes heads (Err refusal.NotRaised) = are_tables shapes heads ≡ false
FindsCallees shapes heads (Err refusal.Memory) = Unit {0}
