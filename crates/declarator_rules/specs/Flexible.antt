-- Structs with a flexible member (C11 6.7.2.1p18), by their members.
use Rattle.std.specs.Prelude.{ℕ, Bool, false, List, Option, Some, None}
use Rattle.c_types.specs.declared.kinds.CType.{CType}
use Rattle.c_types.specs.declared.kinds.CType.TheVariants.{Void, Num, Pointer, Array, Flexible, Struct, Union}
use Rattle.c_types.specs.declared.kinds.Member.{Member}
use Rattle.c_types.specs.Adding.{any}
use Rattle.c_types.specs.Shapes.{Shape, is_open}

abbrev pub flexible_by : (ℕ → Shape) → List Member → Option CType → Bool
flexible_by shape found (Some (Struct tag)) = any (λ (m : Member). is_open (shape m.kind)) found
flexible_by shape found (Some Void) = false
flexible_by shape found (Some (Num width signed)) = false
flexible_by shape found (Some (Pointer to)) = false
flexible_by shape found (Some (Array of count)) = false
flexible_by shape found (Some (Flexible of)) = false
flexible_by shape found (Some (Union tag)) = false
flexible_by shape found None = false
