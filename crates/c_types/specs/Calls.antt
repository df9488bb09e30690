-- What the calls on a table are handed and refuse.
use Rattle.std.specs.Prelude.{◌≡◌, ℕ, ◌≤◌, Bool, List, Option, Some, None, Result, MatchResult, Contains}
use Rattle.c_types.specs.declared.kinds.Field.{Field}
use Rattle.c_types.specs.declared.kinds.TypeError.{TypeError}
use Rattle.c_types.specs.declared.kinds.TypeError.TheVariants as e
use Rattle.c_types.specs.Table.{Types, IsNumber, kind_of}
use Rattle.c_types.specs.Adding.{tag_kind}

-- A fault is told, or memory is short.
abbrev pub IsTold : Option TypeError → TypeError → Type 0
IsTold fault (e.Memory why) = Unit {0}
IsTold fault e.Incomplete = fault ≡ Some e.Incomplete
IsTold fault e.Empty = fault ≡ Some e.Empty
IsTold fault e.BadFlexible = fault ≡ Some e.BadFlexible
IsTold fault e.TooLarge = fault ≡ Some e.TooLarge
IsTold fault e.Duplicate = fault ≡ Some e.Duplicate

-- It is answered where there is no fault, and refused for the fault or for want of memory.
abbrev pub Refuses : {A : Type 0} → Result A TypeError → Option TypeError → Type 0
Refuses result fault = MatchResult result (λ x. fault ≡ None) (IsTold fault)

-- The type of this number is a struct or a union with a tag.
abbrev pub IsTagOf : Types → Bool → ℕ → Type 0
IsTagOf types union_tag n = (tag : ℕ) × (kind_of types n ≡ Some (tag_kind union_tag tag))

-- Each field is of a type of the table.
abbrev pub AreFields : Types → List Field → Type 0
AreFields types fields = (f : Field) → Contains fields f → IsNumber types f.kind
