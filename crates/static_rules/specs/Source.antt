-- What the rules take of a text beside its tree, which says names and strings by numbers of tokens.
use Rattle.std.specs.Prelude.{ℕ, zero, suc, ◌+◌, ◌-◌, List, [], ◌++◌, Option}
use Rattle.c_tokens.specs.Names.{Name}
use Rattle.c_print.specs.declared.parts.Part.{Part}
use Rattle.token_texts.specs.Texts.{Texts, number_at, name_of, string_of}

pub record Source : Type 0 where
  pub texts : Texts
  -- the parts of a format of `printf`, if it is one
  pub format : List ℕ → Option (List Part)

-- A name is a number here: equal spellings have one.
abbrev pub name_at : Source → ℕ → ℕ
name_at source token = number_at source.texts token

abbrev pub spelled : Source → ℕ → Name
spelled source name = name_of source.texts name

-- the bytes of the string literal that a token is, without the zero byte
abbrev pub string_at : Source → ℕ → List ℕ
string_at source token = string_of source.texts (number_at source.texts token)

abbrev pub strings_from : Source → ℕ → ℕ → List ℕ
strings_from source token zero = []
strings_from source token (suc count) = string_at source token ++ strings_from source (token + 1) count

-- string literals one after another are one (C11 6.4.5p5): those of the tokens from a number up to another, not with it
abbrev pub strings_between : Source → ℕ → ℕ → List ℕ
strings_between source token end = strings_from source token (end - token)
