-- Declarators that have a name, which is a number, as the grammar's readers say them: by its spelling.
use Rattle.std.specs.Prelude.{ℕ, ◌<◌, List, option_map, IfSome, Result, Ok, Err, IfOk, length}
use Rattle.c_tokens.specs.declared.token.Token.{Token}
use Rattle.token_texts.specs.Texts.{Texts, name_of}
use Rattle.grammar_descent.specs.Reading.{Reading}
use Rattle.grammar_descent.specs.InitialiserSteps.{NamedDeclarator as Spelled}
use Rattle.token_reader.specs.declared.error.ParseError.{ParseError}
use Rattle.token_reader.specs.Input.{Input, Reads}
use Rattle.token_reader.specs.Scoping.{spelled, AreSpelled}
use Rattle.c_parser.specs.declared.declarations.NamedDeclarator.{NamedDeclarator}

abbrev pub spelled_named : Texts → NamedDeclarator → Spelled
spelled_named texts d = record { node = d.node; name = name_of texts d.name; own = option_map (spelled texts) d.own }

abbrev pub spelled_result : Texts → Result NamedDeclarator ParseError → Result Spelled ParseError
spelled_result texts (Ok d) = Ok (spelled_named texts d)
spelled_result texts (Err e) = Err e

-- the names that it has are in the table
pub record HasSpelling (texts : Texts) (d : NamedDeclarator) : Type 0 where
  pub name : d.name < length texts.names
  pub own : IfSome d.own (AreSpelled texts)

-- a declarator is read so
pub record ReadsNamed (read : List ℕ → List Token → Reading Spelled) (before : Input) (result : Result NamedDeclarator ParseError) (after : Input) : Type 0 where
  pub reads : Reads read before (spelled_result after.texts result) after
  pub spelled : IfOk result (HasSpelling after.texts)
