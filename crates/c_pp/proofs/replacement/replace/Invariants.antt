use Rattle.std.proofs.Common.{◌≡◌, ◌+◌, ◌*◌, ℕ, List, length, ◌∷◌, [], Some, vec_len}
use Rattle.std.specs.Prelude.{slice_get}
use Rattle.c_tokens.specs.declared.token.Token.{Token}
use Rattle.c_tokens.specs.Names.{Text, Name}
use Rattle.c_pp.specs.Macros.{Macros}
use Rattle.c_pp.specs.Marked.{marks_of, met_of}
use Rattle.c_pp.specs.Walks.{Holds, Knows, IsSeen, AreClosed, Covers}
use Rattle.c_pp.proofs.MarkLemmas.{unmarked}
use Rattle.c_pp.proofs.MeetLemmas.{IsCovering}
use Rattle.c_pp.proofs.Walking.{Walking}
use Rattle.c_pp.proofs.replacement.replace.Given as goal

abbrev pub invariant-walk : goal.invariant-walk
invariant-walk l = record {
  marked : length (marks_of l.marks) ≡ length (marks_of l.fn.marks);
  unchanged : l.marks.changes ≡ l.fn.marks.changes;
  covering : Covers l.fn.source.tokens.now l.fn.source.numbers.now l.fn.source.bodies.now (marks_of l.fn.marks) (met_of l.fn.marks) →
      IsCovering l.fn.source.tokens.now l.fn.source.numbers.now l.fn.source.bodies.now (marks_of l.marks) (met_of l.marks) l.span l.opens.items;
  walks : (text : Text) (macros : Macros) (name : ℕ → Name) (made : List Token) (token : Token) →
      slice_get l.fn.source.tokens.now l.fn.at ≡ Some token →
      IsSeen text macros name l.fn.source.tokens.now l.fn.source.numbers.now l.fn.source.bodies.now →
      Knows text macros name (marks_of l.fn.marks) made → AreClosed (marks_of l.fn.marks) → Holds l.fn.output made →
      Walking text macros name l.fn.source.tokens.now (length l.fn.source.bodies.now) l.line (token ∷ []) made (marks_of l.marks) l.opens.items l.span l.output;
}

abbrev pub decreases-walk : goal.decreases-walk
decreases-walk l = 2 * unmarked (marks_of l.marks) + vec_len l.opens
