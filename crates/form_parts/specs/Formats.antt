-- The format that runs: string literals that mean `%d` and the end of a line.
use Rattle.std.specs.Prelude.{ℕ, zero, suc, ◌+◌, ◌-◌, List, [], ◌∷◌, ◌++◌, Bool, false}
use Rattle.std.specs.Str.{bytes_eq}
use Rattle.c_grammar.specs.declared.phrases.Expression.{Expression, out-Expression}
use Rattle.c_grammar.specs.declared.phrases.Declarator.TheOpen.{Expression-F}
use Rattle.token_texts.specs.Texts.{Texts, number_at, string_of}
use Rattle.form_parts.specs.Layers.{ExpressionLayer}

-- `%d` and the end of a line
abbrev pub format : List ℕ
format = 37 ∷ 100 ∷ 10 ∷ []

module _ (texts : Texts) where
  -- what so many string literals mean together, from a token on
  unfoldable pub joined_strings : ℕ → ℕ → List ℕ
  joined_strings zero token = []
  joined_strings (suc count) token = string_of texts (number_at texts token) ++ joined_strings count (token + 1)

  abbrev pub is_format_at : ExpressionLayer → Bool
  is_format_at (Expression-F.Strings place end) = bytes_eq (joined_strings (end - place.token) place.token) format
  is_format_at _ = false

  -- an expression is string literals that mean `%d` and the end of a line
  unfoldable pub is_format : Expression → Bool
  is_format e = is_format_at (out-Expression e)
