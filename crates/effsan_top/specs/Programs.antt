-- The program of a source text.
use Rattle.std.specs.Prelude.{◌≡◌, ◌≢◌, ◌⊎◌, ℕ, List}
use Rattle.c_tokens.specs.declared.token.Token.{Token}
use Rattle.c_grammar.specs.declared.units.Unit.{Unit}
use Rattle.c_grammar.specs.Units.{Derives}
use Rattle.plain_meaning.specs.declared.tree.Program.{Program}
use Rattle.program_form.specs.Programs.{IsForm}
use Rattle.effsan_top.specs.declared.faults.Fault.{Fault}
use Rattle.effsan_top.specs.declared.faults.FaultKind.TheVariants.{Syntax}
use Rattle.effsan_top.specs.Faults.{BecomesTokens, IsAtFault}

-- The text is cut into tokens, its directives are obeyed and its macros replaced; what is left derives a unit, which is of the
-- form that runs, and is this program.
pub record IsProgram (text : List ℕ) (program : Program) : Type 0 where
  pub tokens : List Token
  pub becomes : BecomesTokens text tokens
  pub unit : Unit
  pub derived : Derives text tokens unit
  pub formed : IsForm unit program

-- ---- laws

abbrev pub OneProgramLaw : Type 0
OneProgramLaw = (text : List ℕ) (a b : Program) → IsProgram text a → IsProgram text b → a ≡ b

abbrev pub NeverBothLaw : Type 0
NeverBothLaw = (text : List ℕ) (program : Program) (fault : Fault) → IsProgram text program → IsAtFault text fault → ⊥

-- Only the line of `Syntax` is left open: it is that of some token.
abbrev pub OneFaultLaw : Type 0
OneFaultLaw =
    (text : List ℕ) (a b : Fault) → IsAtFault text a → IsAtFault text b → (a.kind ≡ b.kind) × (a.kind ≢ Syntax → a ≡ b)

abbrev pub ProgramOrFaultLaw : Type 0
ProgramOrFaultLaw = (text : List ℕ) → ((program : Program) × IsProgram text program) ⊎ ((fault : Fault) × IsAtFault text fault)
