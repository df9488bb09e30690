-- A reader of the formats of `printf`, from the law that each format has parts or breaks.
use Rattle.std.proofs.Common.{◌≡◌, ℕ, List, ◌⊎◌, inl, inr, sym, ◌∙◌}
use Rattle.std.specs.Prelude.{Option, Some, None}
use Rattle.c_grammar.specs.declared.units.Unit.{Unit}
use Rattle.c_print.specs.Formats.{HasParts, Breaks}
use Rattle.c_print.specs.declared.parts.Part.{Part}
use Rattle.c_tree.specs.declared.program.Program.{Program}
use Rattle.static_rules.specs.Answers.{Answer}
use Rattle.static_rules.specs.Formats.{IsReading, ReadsFormats}
use Rattle.declaration_rules.specs.Programs.{HasAnswer}

parts_by : {format : List ℕ} → HasParts format ⊎ Breaks format → Option (List Part)
parts_by (inl (parts, is)) = Some parts
parts_by (inr breaks) = None

reads_by : (format : List ℕ) (found : HasParts format ⊎ Breaks format) → IsReading format (parts_by found)
unfolding parts_by
reads_by format (inl (parts, is)) = is
reads_by format (inr (at, breaks)) = breaks.no_parts

abbrev pub Reader : Type 0
Reader = (format : List ℕ → Option (List Part)) × ReadsFormats format

pub reader : ((format : List ℕ) → HasParts format ⊎ Breaks format) → Reader
reader law = (λ format. parts_by (law format), λ format. reads_by format (law format))

pub one_answer : Reader → (unit : Unit) (a b : Answer Program) → HasAnswer unit a → HasAnswer unit b → a ≡ b
one_answer (format, reads) unit a b first second = sym (first format reads) ∙ second format reads
