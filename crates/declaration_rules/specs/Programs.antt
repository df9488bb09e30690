-- The knot of the rules, and what a text is: a program, or a first fault.
use Rattle.std.specs.Prelude.{ℕ, zero, suc, ◌+◌, ◌*◌, ◌≡◌, List, Option, Some, None, Ok}
use Rattle.c_print.specs.declared.parts.Part.{Part}
use Rattle.c_grammar.specs.declared.limits.TheConstants.{MAX_DEPTH}
use Rattle.c_grammar.specs.declared.units.Unit.{Unit}
use Rattle.c_tree.specs.declared.program.Program.{Program}
use Rattle.c_types.specs.Table.{Types}
use Rattle.token_texts.specs.Texts.{Texts}
use Rattle.static_rules.specs.Answers.{Answer}
use Rattle.static_rules.specs.Expressions.{judged_by, called}
use Rattle.static_rules.specs.Formats.{ReadsFormats}
use Rattle.static_rules.specs.Operands.{valued, converted}
use Rattle.static_rules.specs.Source.{Source}
use Rattle.static_rules.specs.Uses.{constant, condition, literal}
use Rattle.declaration_rules.specs.Declarators.{declarator_by}
use Rattle.declaration_rules.specs.Lookups.{Word, find_type as find_type_by}
use Rattle.declaration_rules.specs.Readers.{Readers, type_phrase, too_deep}
use Rattle.declaration_rules.specs.Specifiers.{specs_by}
use Rattle.declaration_rules.specs.Units.{program_of as program_by}

-- Expressions, specifiers and declarators of one level more than those that are nested in them.
unfoldable pub readers_over : Source → Readers → Readers
readers_over source inner = record {
  expression = judged_by source (type_phrase inner) inner.expression (called source MAX_DEPTH);
  specs = specs_by source (constant inner.expression) inner;
  declarator = declarator_by source (constant inner.expression) inner;
}

-- those that nest in at most so many levels
unfoldable pub readers : Source → ℕ → Readers
readers source zero =
    record { expression = λ w s e. too_deep; specs = λ setting w s x. too_deep; declarator = λ w s d. too_deep }
readers source (suc levels) = readers_over source (readers source levels)

-- The levels of the deepest tree of the grammar: specifiers, which it does not count, take one between two that it does.
abbrev pub all_levels : ℕ
all_levels = 2 * MAX_DEPTH + 2

abbrev pub all_readers : Source → Readers
all_readers source = readers source all_levels

abbrev pub source_of : Texts → (List ℕ → Option (List Part)) → Source
source_of texts format = record { texts = texts; format = format }

-- ---- whole texts

unfoldable pub program_of : (List ℕ → Option (List Part)) → Unit → Answer Program
program_of format unit = let source = source_of unit.texts format in let all = all_readers source in
    program_by source all (constant all.expression) valued converted (literal source) (condition all.expression) unit

-- A unit has this answer: its program, or its first fault.
abbrev pub HasAnswer : Unit → Answer Program → Type 0
HasAnswer unit answer = (format : List ℕ → Option (List Part)) → ReadsFormats format → program_of format unit ≡ answer

-- The unit is this program.
abbrev pub Typed : Unit → Program → Type 0
Typed unit program = HasAnswer unit (Ok program)

-- The type that a word means at the end of a program's text, with the table that has it; nothing where it means none that has
-- a size.
unfoldable pub find_type : (List ℕ → Option (List Part)) → Program → Word → Option (ℕ × Types)
find_type format program word = find_type_by (λ source. all_readers source) program word
