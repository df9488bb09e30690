use Rattle.std.proofs.Common.{◌≡◌, ◌<◌, ℕ, List}
use Rattle.c_tokens.specs.declared.token.Token.{Token}
use Rattle.c_tokens.specs.Names.{Text, Name}
use Rattle.c_pp.specs.Macros.{Macros}
use Rattle.c_pp.specs.Marked.{marks_of, met_of}
use Rattle.c_pp.specs.Walks.{Holds, Knows, IsSeen}
use Rattle.c_pp.proofs.MeetLemmas.{IsMeeting}
use Rattle.c_pp.proofs.WalkLemmas.{IsPutOut}
use Rattle.c_pp.proofs.replacement.put_out.Given as goal

abbrev pub invariant-loop-at : goal.invariant-loop-at
invariant-loop-at l = record {
  put : (text : Text) (macros : Macros) (name : ℕ → Name) (made : List Token) →
      IsSeen text macros name l.fn.source.tokens.now l.fn.source.numbers.now l.fn.source.bodies.now →
      Knows text macros name (marks_of l.fn.marks) made → Holds l.fn.output made →
      IsPutOut text macros l.fn.source.tokens.now l.fn.span l.line made l.output l.at;
  same : marks_of l.marks ≡ marks_of l.fn.marks;
  unchanged : l.marks.changes ≡ l.fn.marks.changes;
  meeting : IsMeeting l.fn.source.tokens.now l.fn.source.numbers.now l.fn.source.bodies.now (marks_of l.fn.marks) (met_of l.fn.marks) (met_of l.marks) l.fn.span.start l.at;
  empty : l.fn.span.end < l.fn.span.start → l.at ≡ l.fn.span.start;
}
