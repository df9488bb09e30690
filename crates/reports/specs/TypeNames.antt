-- The names of types, as C writes them (C11 6.7.7), with a star after it for each pointer.
use Rattle.std.specs.Prelude.{ℕ, zero, suc, ◌==◌, if◌then◌else◌, Bool, true, false, List, [], ◌++◌, codes, Option, Some, None}
use Rattle.c_types.specs.declared.kinds.CType.{CType}
use Rattle.c_types.specs.declared.kinds.CType.TheVariants.{Void, Num, Pointer, Array, Flexible, Struct, Union}
use Rattle.c_types.specs.Table.{Types, kind_of}

-- a signed whole number of 1, 2, 4 or 8 bytes
abbrev pub width_name : ℕ → List ℕ
width_name width =
    if width == 1 then codes "char" else (if width == 2 then codes "short" else (if width == 4 then codes "int" else codes "long"))

abbrev pub whole_name : ℕ → Bool → List ℕ
whole_name width true = width_name width
whole_name width false = codes "unsigned " ++ width_name width

-- The name of a type, by the name of what it points to. No report wants an array, a struct or a union yet.
abbrev pub kind_name : (ℕ → List ℕ) → Option CType → List ℕ
kind_name name (Some Void) = codes "void"
kind_name name (Some (Num width signed)) = whole_name width signed
kind_name name (Some (Pointer to)) = name to ++ codes "*"
kind_name name (Some (Array of count)) = []
kind_name name (Some (Flexible of)) = []
kind_name name (Some (Struct tag)) = []
kind_name name (Some (Union tag)) = []
kind_name name None = []

-- the name of a type below which at most so many others are pointed to
abbrev pub name_within : ℕ → Types → ℕ → List ℕ
name_within zero types n = []
name_within (suc depth) types n = kind_name (name_within depth types) (kind_of types n)

-- The name of the type of a number. What a type points to has a lower number.
unfoldable pub type_name : Types → ℕ → List ℕ
type_name types n = name_within n types n
