-- What `Source.format` says: the parts of each format of `printf` (C11 7.21.6.1), and nothing for what is none.
use Rattle.std.specs.Prelude.{ℕ, List, Option, Some, None}
use Rattle.c_print.specs.Formats.{Parts}
use Rattle.c_print.specs.declared.parts.Part.{Part}

abbrev pub IsReading : List ℕ → Option (List Part) → Type 0
IsReading bytes (Some parts) = Parts bytes parts
IsReading bytes None = (parts : List Part) → Parts bytes parts → ⊥

abbrev pub ReadsFormats : (List ℕ → Option (List Part)) → Type 0
ReadsFormats format = (bytes : List ℕ) → IsReading bytes (format bytes)
