-- Faults as the code answers them.
use Rattle.std.specs.Prelude.{ℕ, ◌<◌, length, alloc_error}
use Rattle.c_types.specs.declared.kinds.TypeError.{TypeError}
use Rattle.c_types.specs.declared.kinds.TypeError.TheVariants as e
use Rattle.c_types.specs.Table.{Types, IsNumber}
use Rattle.static_rules.specs.declared.faults.CheckError.{CheckError}
use Rattle.static_rules.specs.declared.faults.CheckKind.TheVariants as why

-- memory runs out, also where there are too many types
abbrev pub want_of_memory : CheckError
want_of_memory = record { kind = why.Memory alloc_error; line = 0 }

-- a type that is refused
abbrev pub refused : ℕ → TypeError → CheckError
refused here (e.Memory error) = want_of_memory
refused here e.Incomplete = record { kind = why.BadType e.Incomplete; line = here }
refused here e.Empty = record { kind = why.BadType e.Empty; line = here }
refused here e.BadFlexible = record { kind = why.BadType e.BadFlexible; line = here }
refused here e.TooLarge = record { kind = why.BadType e.TooLarge; line = here }
refused here e.Duplicate = record { kind = why.BadType e.Duplicate; line = here }

-- a type may be made of this one, and there is room for it
pub record HasRoomBeside (types : Types) (n : ℕ) : Type 0 where
  pub known : IsNumber types n
  pub room : length types.kinds < 20000000
