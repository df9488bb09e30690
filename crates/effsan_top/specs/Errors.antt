-- What the stages' errors become.
use Rattle.std.specs.Prelude.{ℕ, List, Option, Some, None}
use Rattle.c_lexer.specs.declared.error.LexError.{LexError}
use Rattle.c_pp.specs.declared.error.PpError.{PpError}
use Rattle.program_form.specs.declared.error.FormError.{FormError}
use Rattle.program_form.specs.declared.error.FormError.TheVariants as form
use Rattle.effs_io.specs.declared.transfer.ReadError.{ReadError}
use Rattle.effs_io.specs.declared.transfer.ReadError.TheVariants as read
use Rattle.effs_words.specs.declared.error.WordError.{WordError}
use Rattle.effs_words.specs.declared.error.WordError.TheVariants as word
use Rattle.effsan_top.specs.declared.faults.Fault.{Fault}
use Rattle.effsan_top.specs.declared.faults.FaultKind.TheVariants as kind
use Rattle.effsan_top.specs.declared.program.ProgramError.{ProgramError}
use Rattle.effsan_top.specs.declared.program.ProgramError.TheVariants as error
use Rattle.effsan_top.specs.declared.refusal.Refusal.{Refusal}
use Rattle.effsan_top.specs.declared.refusal.Refusal.TheVariants as refusal
use Rattle.effsan_top.specs.Faults as fault

-- a fault, where it is one, and else the end of memory
abbrev pub of_fault : Option Fault → ProgramError
of_fault (Some fault) = error.Faulty fault
of_fault None = error.Memory

abbrev pub of_lexer : List ℕ → LexError → ProgramError
of_lexer text e = of_fault (fault.of_lexer text e)

abbrev pub of_expander : PpError → ProgramError
of_expander e = of_fault (fault.of_expander e)

abbrev pub of_form : FormError → ProgramError
of_form (form.Memory e) = error.Memory
of_form (form.NotYet line) = error.Faulty (fault.on kind.NotYet line)

abbrev pub of_program : ProgramError → Refusal
of_program error.Memory = refusal.OutOfMemory
of_program (error.Faulty fault) = refusal.Faulty fault

abbrev pub of_read : ReadError → Refusal
of_read (read.Memory e) = refusal.OutOfMemory
of_read read.Fault = refusal.ReadFault
of_read read.TooLarge = refusal.TooLarge

abbrev pub of_words : WordError → Refusal
of_words (word.Memory e) = refusal.OutOfMemory
of_words e = refusal.Words e
