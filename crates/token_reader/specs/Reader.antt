-- What the steps of a reader leave.
use Rattle.std.specs.Prelude.{◌≡◌, ℕ, List, ◌∷◌}
use Rattle.c_tokens.specs.declared.token.Token.{Token}
use Rattle.token_texts.specs.Texts.{Texts, name_of}
use Rattle.c_grammar.specs.declared.words.NameKind.{NameKind}
use Rattle.c_grammar.specs.Scope.{Scope}
use Rattle.grammar_descent.specs.Reading.{State}
use Rattle.token_reader.specs.Input.{Input}

-- before the first token of a text
abbrev pub beginning : List ℕ → List Token → Texts → Scope → Input
beginning text tokens texts scope = record { text = text; tokens = tokens; texts = texts; state = record { at = 0; scope = scope } }

abbrev pub moved : Input → State → Input
moved i s = record { text = i.text; tokens = i.tokens; texts = i.texts; state = s }

abbrev pub with_scope : Input → Scope → Input
with_scope i scope = moved i (record { at = i.state.at; scope = scope })

-- with a name more, by its number
abbrev pub declared : Input → ℕ → NameKind → Input
declared i n kind = with_scope i ((name_of i.texts n, kind) ∷ i.state.scope)

-- of one text
pub record IsSameText (old new : Input) : Type 0 where
  pub text : new.text ≡ old.text
  pub tokens : new.tokens ≡ old.tokens
  pub texts : new.texts ≡ old.texts
