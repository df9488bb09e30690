-- The parts of a format.
use Rattle.std.specs.Prelude.{Bool, true, false}
use Rattle.c_print.specs.declared.parts.Part.{Part}
use Rattle.c_print.specs.declared.parts.Part.TheVariants as part

-- bytes that are printed as they are: they take no argument
abbrev pub is_plain : Part → Bool
is_plain (part.Plain text) = true
is_plain (part.Number letter flag width long) = false
is_plain (part.Str flag width) = false
