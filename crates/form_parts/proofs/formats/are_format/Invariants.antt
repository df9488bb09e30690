use Rattle.std.proofs.Common.{◌≡◌, ◌-◌}
use Rattle.std.specs.Str.{bytes_eq}
use Rattle.form_parts.specs.Formats.{joined_strings, format}
use Rattle.form_parts.proofs.formats.are_format.Given as goal

abbrev pub invariant-loop-token : goal.invariant-loop-token
invariant-loop-token l = bytes_eq (joined_strings l.texts (l.end - l.from) l.from) format ≡ bytes_eq (joined_strings l.texts (l.end - l.token) l.token) l.rest
