-- What is read of a specifier is read also where its refusal names another token.
use Rattle.std.proofs.Common.{ℕ, List, ap, Result, Ok, Err}
use Rattle.c_tokens.specs.declared.token.Token.{Token}
use Rattle.c_grammar.specs.declared.phrases.Specifier.{Specifier}
use Rattle.c_grammar.specs.Words.{Role}
use Rattle.grammar_descent.specs.Reading.{Reading}
use Rattle.token_reader.specs.declared.error.ParseError.{ParseError}
use Rattle.token_reader.specs.declared.error.ParseError.TheVariants.{Memory, Syntax}
use Rattle.token_reader.specs.Input.{Input, Reads}
use Rattle.token_reader.specs.Refused.{IsSameButToken}
use Rattle.token_reader.proofs.Refusals.{same_reads}
use Rattle.declarator_parser.specs.Roles.{with_role}

same_with_role : (r s : Result (Specifier × ℕ) ParseError) → IsSameButToken r s → IsSameButToken (with_role r) (with_role s)
same_with_role (Ok x) s e = ap with_role e
same_with_role (Err (Memory m)) s e = ap with_role e
same_with_role (Err (Syntax n)) s e = (e.0, ap with_role e.1)

pub same_specifier : (read : List ℕ → List Token → Reading (Specifier × Role × ℕ)) (before after : Input) (r s : Result (Specifier × ℕ) ParseError) →
    IsSameButToken r s → Reads read before (with_role r) after → Reads read before (with_role s) after
same_specifier read before after r s same given = same_reads read before after (with_role r) (with_role s) (same_with_role r s same) given
