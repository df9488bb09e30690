-- What the fields of a reader show, and what holds of them.
use Rattle.std.specs.Prelude.{◌≡◌, ℕ, ◌≤◌, List, Some, length, slice_get}
use Rattle.c_tokens.specs.Limits.{max_tokens}
use Rattle.c_tokens.specs.declared.token.Token.{Token}
use Rattle.c_tokens.specs.Names.{Name}
use Rattle.token_texts.specs.Names.{name_at}
use Rattle.token_texts.specs.Texts.{Texts, IsNameAt, number_at}
use Rattle.token_reader.specs.declared.reader.Reader.TheInside.{Inside}
use Rattle.token_reader.specs.Input.{Input}
use Rattle.token_reader.specs.Scoping.{spelled, AreSpelled}

abbrev pub input_of : Inside → Input
input_of r = record {
  text = r.text.now;
  tokens = r.tokens.now;
  texts = r.texts.now;
  state = record { at = r.at; scope = spelled r.texts.now r.scope };
}

-- The table numbers the names of the tokens, each name once.
pub record AreNumbered (text : List ℕ) (tokens : List Token) (texts : Texts) : Type 0 where
  pub numbered : (at : ℕ) → IsNameAt tokens at → slice_get texts.names (number_at texts at) ≡ Some (name_at text tokens at)
  pub apart : (m n : ℕ) (name : Name) → slice_get texts.names m ≡ Some name → slice_get texts.names n ≡ Some name → m ≡ n

pub record IsWithin (r : Inside) : Type 0 where
  pub few : length r.tokens.now ≤ max_tokens
  pub at : r.at ≤ length r.tokens.now
  pub names : AreNumbered r.text.now r.tokens.now r.texts.now
  pub scope : AreSpelled r.texts.now r.scope
