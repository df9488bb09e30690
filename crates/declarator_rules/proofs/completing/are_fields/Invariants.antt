use Rattle.std.proofs.Common.{ℕ, ◌<◌}
use Rattle.std.specs.Prelude.{slice_index_or}
use Rattle.c_types.specs.declared.kinds.Field.{Field}
use Rattle.c_types.specs.Table.{IsNumber}
use Rattle.declarator_rules.proofs.completing.are_fields.Given as goal

abbrev pub invariant-loop-field : goal.invariant-loop-field
invariant-loop-field l = (k : ℕ) (d : Field) → k < l.field-index → IsNumber l.types (slice_index_or l.fields k d).kind
