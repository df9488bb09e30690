use Rattle.std.proofs.Common.{ℕ, ◌<◌, get_or}
use Rattle.c_types.specs.declared.kinds.Field.{Field}
use Rattle.c_types.specs.Table.{IsNumber}
use Rattle.heap_cases.proofs.types.are_fields.Given as goal

abbrev pub invariant-loop-field : goal.invariant-loop-field
invariant-loop-field l = (k : ℕ) (d : Field) → k < l.field-index → IsNumber l.types (get_or l.fields k d).kind
