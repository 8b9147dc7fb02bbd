-- What a reference permits: the tables of the capabilities (docs/language.md, "Capabilities"), and what the rules ask of a type.
use Rattle.std.specs.Prelude.{ℕ, ◌==◌, Bool as Truth, true, false, ◌&&◌, not, Option, Some, None}
use Rattle.rg_base.specs.declared.words.Cap.{Cap}
use Rattle.rg_base.specs.declared.words.Cap.TheVariants.{Mut, Tmp, Paused, Imm, Iso}
use Rattle.rg_base.specs.declared.ty.Ty.{Ty}
use Rattle.rg_base.specs.declared.ty.Ty.TheVariants.{Int, Bool, Ref}

-- what a field permits that is read through a receiver: the receiver, then the field
abbrev pub adapt : Cap → Cap → Option Cap
adapt Mut Mut = Some Mut
adapt Mut Tmp = None
adapt Mut Paused = None
adapt Mut Imm = Some Imm
adapt Mut Iso = Some Iso
adapt Tmp Mut = Some Mut
adapt Tmp Tmp = Some Tmp
adapt Tmp Paused = Some Paused
adapt Tmp Imm = Some Imm
adapt Tmp Iso = Some Iso
adapt Paused Mut = Some Paused
adapt Paused Tmp = Some Paused
adapt Paused Paused = Some Paused
adapt Paused Imm = Some Imm
adapt Paused Iso = None
adapt Imm Mut = Some Imm
adapt Imm Tmp = None
adapt Imm Paused = None
adapt Imm Imm = Some Imm
adapt Imm Iso = Some Imm
adapt Iso Mut = None
adapt Iso Tmp = None
adapt Iso Paused = None
adapt Iso Imm = None
adapt Iso Iso = None

-- whether a reference may stand where another capability is expected: its own, then the expected one
abbrev pub below_cap : Cap → Cap → Truth
below_cap Mut Mut = true
below_cap Mut Tmp = false
below_cap Mut Paused = true
below_cap Mut Imm = false
below_cap Mut Iso = false
below_cap Tmp Mut = false
below_cap Tmp Tmp = true
below_cap Tmp Paused = true
below_cap Tmp Imm = false
below_cap Tmp Iso = false
below_cap Paused Mut = false
below_cap Paused Tmp = false
below_cap Paused Paused = true
below_cap Paused Imm = false
below_cap Paused Iso = false
below_cap Imm Mut = false
below_cap Imm Tmp = false
below_cap Imm Paused = true
below_cap Imm Imm = true
below_cap Imm Iso = false
below_cap Iso Mut = false
below_cap Iso Tmp = false
below_cap Iso Paused = false
below_cap Iso Imm = false
below_cap Iso Iso = true

-- whether a value may stand where another type is expected: its own type, then the expected one
abbrev pub below : Ty → Ty → Truth
below Int Int = true
below Int Bool = false
below Int (Ref k d) = false
below Bool Int = false
below Bool Bool = true
below Bool (Ref k d) = false
below (Ref cap c) Int = false
below (Ref cap c) Bool = false
below (Ref cap c) (Ref k d) = c == d && below_cap cap k

-- what a reference permits inside a window that was opened behind it
abbrev pub pause_cap : Cap → Cap
pause_cap Mut = Paused
pause_cap Tmp = Paused
pause_cap Paused = Paused
pause_cap Imm = Imm
pause_cap Iso = Iso

-- the type as which a variable is seen inside a window that was opened behind it
abbrev pub pause : Ty → Ty
pause Int = Int
pause Bool = Bool
pause (Ref cap c) = Ref (pause_cap cap) c

-- whether two types are equal: each is below the other
abbrev pub same_type : Ty → Ty → Truth
same_type t u = below t u && below u t

-- whether a capability is `iso`
abbrev pub is_iso_cap : Cap → Truth
is_iso_cap Mut = false
is_iso_cap Tmp = false
is_iso_cap Paused = false
is_iso_cap Imm = false
is_iso_cap Iso = true

-- whether a type is `iso`
abbrev pub is_iso : Ty → Truth
is_iso Int = false
is_iso Bool = false
is_iso (Ref cap c) = is_iso_cap cap

-- the class of an `iso` type
abbrev pub iso_class : Ty → Option ℕ
iso_class Int = None
iso_class Bool = None
iso_class (Ref Mut c) = None
iso_class (Ref Tmp c) = None
iso_class (Ref Paused c) = None
iso_class (Ref Imm c) = None
iso_class (Ref Iso c) = Some c

-- whether a type is a reference
abbrev pub is_reference : Ty → Truth
is_reference Int = false
is_reference Bool = false
is_reference (Ref cap c) = true

-- whether fields may be written through a capability
abbrev pub may_write : Cap → Truth
may_write Mut = true
may_write Tmp = true
may_write Paused = false
may_write Imm = false
may_write Iso = false

-- whether a variable of a type may be assigned only at the depth at which it was added
abbrev pub stays_at_depth : Ty → Truth
stays_at_depth Int = false
stays_at_depth Bool = false
stays_at_depth (Ref Mut c) = true
stays_at_depth (Ref Tmp c) = true
stays_at_depth (Ref Paused c) = true
stays_at_depth (Ref Imm c) = false
stays_at_depth (Ref Iso c) = false

-- whether values may be compared by `==`: both `int`, both `bool`, or references of one class, neither of them `iso`
abbrev pub comparable : Ty → Ty → Truth
comparable Int Int = true
comparable Int Bool = false
comparable Int (Ref k d) = false
comparable Bool Int = false
comparable Bool Bool = true
comparable Bool (Ref k d) = false
comparable (Ref cap c) Int = false
comparable (Ref cap c) Bool = false
comparable (Ref cap c) (Ref k d) = c == d && (not (is_iso_cap cap) && not (is_iso_cap k))

-- whether a value may be printed
abbrev pub printable : Ty → Truth
printable Int = true
printable Bool = true
printable (Ref cap c) = false
