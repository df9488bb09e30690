-- The words of declaration specifiers, and which of them make one type (C11 6.7.2).
use Rattle.std.specs.Prelude.{◌≡◌, ℕ, suc, List, [], ◌∷◌, Contains, IsPermutation}
use Rattle.c_tokens.specs.declared.kind.Keyword.{Keyword}
use Rattle.c_tokens.specs.declared.kind.Keyword.TheVariants as word
use Rattle.c_grammar.specs.declared.words.Storage.{Storage}
use Rattle.c_grammar.specs.declared.words.Storage.TheVariants as storage
use Rattle.c_grammar.specs.declared.words.Qualifier.{Qualifier}
use Rattle.c_grammar.specs.declared.words.Qualifier.TheVariants as qualifier
use Rattle.c_grammar.specs.declared.words.BasicWord.{BasicWord}
use Rattle.c_grammar.specs.declared.words.BasicWord.TheVariants as b
use Rattle.c_grammar.specs.declared.words.BasicType.{BasicType}
use Rattle.c_grammar.specs.declared.words.BasicType.TheVariants as t
use Rattle.c_grammar.specs.declared.words.Aggregate.{Aggregate}
use Rattle.c_grammar.specs.declared.words.Aggregate.TheVariants as aggregate

-- how each is written
abbrev pub storage_word : Storage → Keyword
storage_word storage.Typedef = word.Typedef
storage_word storage.Extern = word.Extern
storage_word storage.Static = word.Static
storage_word storage.Register = word.Register
storage_word storage.Auto = word.Auto

abbrev pub qualifier_word : Qualifier → Keyword
qualifier_word qualifier.Const = word.Const
qualifier_word qualifier.Restrict = word.Restrict
qualifier_word qualifier.Inline = word.Inline

abbrev pub basic_word : BasicWord → Keyword
basic_word b.Void = word.Void
basic_word b.Char = word.Char
basic_word b.Short = word.Short
basic_word b.Int = word.Int
basic_word b.Long = word.Long
basic_word b.Signed = word.Signed
basic_word b.Unsigned = word.Unsigned

abbrev pub aggregate_word : Aggregate → Keyword
aggregate_word aggregate.Struct = word.Struct
aggregate_word aggregate.Union = word.Union

-- which words spell a basic type, in any order: `long long` is `long`, and `char` is signed
abbrev pub spellings : List (List BasicWord × BasicType)
spellings =
    (b.Void ∷ [], t.Void)
    ∷ (b.Char ∷ [], t.Char) ∷ (b.Signed ∷ b.Char ∷ [], t.Char)
    ∷ (b.Unsigned ∷ b.Char ∷ [], t.UnsignedChar)
    ∷ (b.Short ∷ [], t.Short) ∷ (b.Signed ∷ b.Short ∷ [], t.Short)
    ∷ (b.Short ∷ b.Int ∷ [], t.Short) ∷ (b.Signed ∷ b.Short ∷ b.Int ∷ [], t.Short)
    ∷ (b.Unsigned ∷ b.Short ∷ [], t.UnsignedShort) ∷ (b.Unsigned ∷ b.Short ∷ b.Int ∷ [], t.UnsignedShort)
    ∷ (b.Int ∷ [], t.Int) ∷ (b.Signed ∷ [], t.Int) ∷ (b.Signed ∷ b.Int ∷ [], t.Int)
    ∷ (b.Unsigned ∷ [], t.UnsignedInt) ∷ (b.Unsigned ∷ b.Int ∷ [], t.UnsignedInt)
    ∷ (b.Long ∷ [], t.Long) ∷ (b.Signed ∷ b.Long ∷ [], t.Long)
    ∷ (b.Long ∷ b.Int ∷ [], t.Long) ∷ (b.Signed ∷ b.Long ∷ b.Int ∷ [], t.Long)
    ∷ (b.Unsigned ∷ b.Long ∷ [], t.UnsignedLong) ∷ (b.Unsigned ∷ b.Long ∷ b.Int ∷ [], t.UnsignedLong)
    ∷ (b.Long ∷ b.Long ∷ [], t.Long) ∷ (b.Signed ∷ b.Long ∷ b.Long ∷ [], t.Long)
    ∷ (b.Long ∷ b.Long ∷ b.Int ∷ [], t.Long) ∷ (b.Signed ∷ b.Long ∷ b.Long ∷ b.Int ∷ [], t.Long)
    ∷ (b.Unsigned ∷ b.Long ∷ b.Long ∷ [], t.UnsignedLong) ∷ (b.Unsigned ∷ b.Long ∷ b.Long ∷ b.Int ∷ [], t.UnsignedLong)
    ∷ []

pub record Spells (words : List BasicWord) (type : BasicType) : Type 0 where
  pub row : List BasicWord
  pub stands : Contains spellings (row, type)
  pub is : IsPermutation row words

-- What a specifier does: it makes the names that are declared names of types (`typedef`), or changes nothing that the
-- grammar asks for, or is one of the words that spell a type, or is a whole type by itself.
pub data Role : Type 0 where
  names_types : Role
  modifies : Role
  spells : BasicWord → Role
  is_type : Role

abbrev pub storage_role : Storage → Role
storage_role storage.Typedef = names_types
storage_role _ = modifies

abbrev pub basic_words : List Role → List BasicWord
basic_words [] = []
basic_words (names_types ∷ roles) = basic_words roles
basic_words (modifies ∷ roles) = basic_words roles
basic_words (spells w ∷ roles) = w ∷ basic_words roles
basic_words (is_type ∷ roles) = basic_words roles

abbrev pub whole_types : List Role → ℕ
whole_types [] = 0
whole_types (names_types ∷ roles) = whole_types roles
whole_types (modifies ∷ roles) = whole_types roles
whole_types (spells w ∷ roles) = whole_types roles
whole_types (is_type ∷ roles) = suc (whole_types roles)

pub record HoldsNoType (roles : List Role) : Type 0 where
  pub no_word : basic_words roles ≡ []
  pub no_whole : whole_types roles ≡ 0

-- Exactly one type: words that spell one, or one by itself.
pub data HoldsOneType (roles : List Role) : Type 0 where
  spelled : {type : BasicType} → Spells (basic_words roles) type → whole_types roles ≡ 0 → HoldsOneType roles
  by_itself : basic_words roles ≡ [] → whole_types roles ≡ 1 → HoldsOneType roles
