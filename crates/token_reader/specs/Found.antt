-- Found declarators, whose names are numbers, as the grammar's readers say them: by their spelling.
use Rattle.std.specs.Prelude.{◌≡◌, ℕ, ◌<◌, List, Option, option_map, IfSome, Result, Ok, Err, IfOk, length}
use Rattle.c_tokens.specs.declared.token.Token.{Token}
use Rattle.token_texts.specs.Texts.{Texts, name_of}
use Rattle.grammar_descent.specs.Reading.{Reading, FoundDeclarator as Spelled}
use Rattle.token_reader.specs.declared.error.ParseError.{ParseError}
use Rattle.token_reader.specs.declared.found.FoundDeclarator.{FoundDeclarator}
use Rattle.token_reader.specs.Input.{Input, Reads}
use Rattle.token_reader.specs.Scoping.{spelled, AreSpelled}

abbrev pub spelled_declarator : Texts → FoundDeclarator → Spelled
spelled_declarator texts f =
    record { node = f.node; name = option_map (name_of texts) f.name; own = option_map (spelled texts) f.own; height = f.height }

abbrev pub spelled_found : Texts → Result FoundDeclarator ParseError → Result Spelled ParseError
spelled_found texts (Ok f) = Ok (spelled_declarator texts f)
spelled_found texts (Err e) = Err e

-- the names that it has are in the table
pub record HasSpelling (texts : Texts) (f : FoundDeclarator) : Type 0 where
  pub name : IfSome f.name (λ n. n < length texts.names)
  pub own : IfSome f.own (AreSpelled texts)

-- a declarator is read so
pub record ReadsDeclarator (read : List ℕ → List Token → Reading Spelled) (before : Input) (result : Result FoundDeclarator ParseError) (after : Input) : Type 0 where
  pub reads : Reads read before (spelled_found before.texts result) after
  pub spelled : IfOk result (HasSpelling before.texts)
