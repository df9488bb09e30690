-- What the worked cases share.
use Rattle.std.specs.Prelude.{ℕ, false, [], ◌∷◌, refl, codes}
use Rattle.std.proofs.Common.{arith}
use Rattle.c_tokens.specs.declared.kind.Kind.{Kind}
use Rattle.c_tokens.specs.declared.token.Token.{Token}
use Rattle.c_grammar.specs.declared.words.Place.{Place}
use Rattle.c_grammar.specs.declared.words.BasicWord.TheVariants as b
use Rattle.c_grammar.specs.declared.words.BasicType.TheVariants as t
use Rattle.c_tokens.specs.Names.{Name}
use Rattle.c_grammar.specs.Words.{Spells, HoldsOneType, spelled, spells, names_types}
use Rattle.c_grammar.specs.declared.words.NameKind.TheVariants as declares
use Rattle.c_grammar.specs.Scope.{IsType, Scope, before}

abbrev pub token : Kind → ℕ → ℕ → Token
token kind start end = record { kind = kind; start = start; end = end; line = 1; first = false }

abbrev pub place : ℕ → Place
place n = record { token = n; line = 1 }

pub int_is_int : Spells (b.Int ∷ []) t.Int
int_is_int = record { row = b.Int ∷ []; stands = (10, omega arith, refl); is = record { moves = []; below = tt; is = refl } }

-- one exchange from the row of the table
pub unsigned_long_long_int : Spells (b.Unsigned ∷ b.Long ∷ b.Long ∷ b.Int ∷ []) t.UnsignedLong
unsigned_long_long_int =
    record {
      row = b.Unsigned ∷ b.Long ∷ b.Long ∷ b.Int ∷ [];
      stands = (26, omega arith, refl);
      is = record { moves = []; below = tt; is = refl };
    }

pub an_int : HoldsOneType (spells b.Int ∷ [])
an_int = spelled int_is_int refl

pub an_int_for_a_type : HoldsOneType (names_types ∷ spells b.Int ∷ [])
an_int_for_a_type = spelled int_is_int refl

pub no_type_in_nothing : {name : Name} → IsType [] name → ⊥
no_type_in_nothing t = elim t [ ]

abbrev pub T : Scope
T = (codes "T", declares.Type) ∷ []

pub x_is_no_type : IsType T (codes "x") → ⊥
x_is_no_type (before differs t) = no_type_in_nothing t

pub y_is_no_type : IsType T (codes "y") → ⊥
y_is_no_type (before differs t) = no_type_in_nothing t
