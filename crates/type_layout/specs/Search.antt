-- How the runs are gone through, and the best match of those that were seen.
use Rattle.std.specs.Prelude.{ℕ, List, Option, Some, None, ◌<◌, ◌≤◌, IfSome, fold, if◌then◌else◌}
use Rattle.c_types.specs.Shapes.{Shape, size}
use Rattle.c_types.specs.Table.{Types, HasSize, shape_of}
use Rattle.type_layout.specs.declared.object_runs.Run.{Run}
use Rattle.type_layout.specs.declared.preference.Match.{Match}
use Rattle.type_layout.specs.Runs.{ShapeRun, end_of}
use Rattle.type_layout.specs.Preferred.{may_mean, better, run_match}

-- a run with its type
abbrev pub run_in : Types → Run → ShapeRun
run_in types run = record { kind = shape_of types run.kind; lo = run.lo; count = run.count }

-- a run of an object of so many bytes
pub record IsRunWithin (types : Types) (bytes : ℕ) (run : Run) : Type 0 where
  pub known : HasSize types run.kind
  pub sized : 0 < size (shape_of types run.kind)
  pub within : end_of (run_in types run) ≤ bytes

-- the best match so far, and one that may be there
abbrev pub consider : ℕ → Option Match → Option Match → Option Match
consider k best None = best
consider k best (Some next) = if may_mean k next then better k best next else best

abbrev pub best_of : Types → ℕ → Shape → List Run → Option Match
best_of types k want = fold (λ best run. consider k best (run_match want (run_in types run))) None

-- its span can be taken
abbrev pub IsOrdered : Option Match → Type 0
IsOrdered best = IfSome best (λ m. m.lo ≤ m.hi)
