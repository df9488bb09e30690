-- What the parameter at a place takes.
use Rattle.std.proofs.Common.{◌≡◌, sym, ℕ, List, map}
use Rattle.std.specs.Prelude.{option_map, slice_get}
use Rattle.std.proofs.lemmas.Option.{slice_get-map}
use Rattle.operand_plans.specs.Parameters.{taken}
use Rattle.operand_plans.specs.declared.calls.Parameter.{Parameter}

pub taken_at : (parameters : List Parameter) (place : ℕ) →
    option_map taken (slice_get parameters place) ≡ slice_get (map taken parameters) place
taken_at parameters place = sym (slice_get-map taken parameters place)
