-- The marks that count, and the names that were met.
use Rattle.std.specs.Prelude.{ℕ, Bool, true, false, ◌==◌, List, map, Option, Some, None, unwrap_or, slice_get, slice_set, if◌then◌else◌}
use Rattle.c_pp.specs.declared.marks.Mark.{Mark}
use Rattle.c_pp.specs.declared.marks.Stamped.{Stamped}
use Rattle.c_pp.specs.declared.marks.Marks.{Marks}

abbrev pub in_force : ℕ → Stamped → Option Mark
in_force changes stamped = if stamped.changes == changes then Some stamped.mark else None

unfoldable pub marks_of : Marks → List (Option Mark)
marks_of marks = map (in_force marks.changes) marks.stamped.items

-- what the list has there, if anything
abbrev pub held : {X : Type 0} → Option (Option X) → Option X
held (Some x) = x
held None = None

abbrev pub mark_at : List (Option Mark) → ℕ → Option Mark
mark_at marks number = held (slice_get marks number)

-- by number, whether the name was met since marks were last taken back
unfoldable pub met_of : Marks → List Bool
met_of marks = map (λ met. met == marks.changes) marks.meetings.items

abbrev pub is_met : List Bool → ℕ → Bool
is_met met number = unwrap_or (slice_get met number) false

abbrev pub met_also : List Bool → Option ℕ → List Bool
met_also met None = met
met_also met (Some number) = slice_set met number true
