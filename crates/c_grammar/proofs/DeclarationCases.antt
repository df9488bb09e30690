-- Declarations that are read by hand.
use Rattle.std.specs.Prelude.{ℕ, List, [], ◌∷◌, Some, None, codes, refl}
use Rattle.std.proofs.Common.{arith}
use Rattle.c_tokens.specs.declared.kind.Keyword.TheVariants as word
use Rattle.c_tokens.specs.declared.kind.Mark.TheVariants as mark
use Rattle.c_tokens.specs.declared.kind.NumType.TheVariants as n
use Rattle.c_tokens.specs.declared.kind.Kind.TheVariants as k
use Rattle.c_tokens.specs.declared.token.Token.{Token}
use Rattle.c_grammar.specs.declared.words.NameKind.TheVariants as declares
use Rattle.c_grammar.specs.declared.words.Naming.TheVariants as naming
use Rattle.c_grammar.specs.declared.words.Storage.TheVariants as storage
use Rattle.c_grammar.specs.declared.words.Aggregate.TheVariants as aggregate
use Rattle.c_grammar.specs.declared.words.BasicWord.TheVariants as b
use Rattle.c_grammar.specs.declared.phrases.Specs.{Specs}
use Rattle.c_grammar.specs.declared.phrases.Declarator.{Declarator}
use Rattle.c_grammar.specs.declared.phrases.Expression.TheVariants as e
use Rattle.c_grammar.specs.declared.phrases.Specifier.TheVariants as s
use Rattle.c_grammar.specs.declared.phrases.Declarator.TheVariants as d
use Rattle.c_grammar.specs.declared.statements.Initialiser.TheVariants as i
use Rattle.c_grammar.specs.declared.statements.Declaration.{Declaration}
use Rattle.c_grammar.specs.declared.units.External.TheVariants as x
use Rattle.c_tokens.specs.Names.{written, spelling}
use Rattle.token_texts.specs.Names.{name_at}
use Rattle.c_grammar.specs.Tokens.{kind_at, place_at, absent, present, brace, comma_and_brace}
use Rattle.c_grammar.specs.Words.{spelled, by_itself, is_type}
use Rattle.c_grammar.specs.Scope.{declared, start}
use Rattle.c_grammar.specs.Phrases.{IsDeclarator, IsSpecs, IsParameter, whole}
use Rattle.c_grammar.specs.Phrases as phrase
use Rattle.c_grammar.specs.Initialisers.{IsDeclaration, IsInitialiser}
use Rattle.c_grammar.specs.Initialisers as init
use Rattle.c_grammar.specs.Units.{AreExternals}
use Rattle.c_grammar.specs.Units as unit
use Rattle.c_grammar.proofs.CaseTokens.{token, place, T, an_int, an_int_for_a_type, unsigned_long_long_int}

abbrev int_at : ℕ → Specs
int_at at = record { place = place at; words = s.Basic (place at) b.Int ∷ [] }

abbrev T_at : ℕ → Specs
T_at at = record { place = place at; words = s.TypedefName (place at) ∷ [] }

abbrev name : ℕ → Declarator
name at = d.Name (place at)

abbrev declaration : Specs → Declarator → ℕ → Declaration
declaration specs declarator at =
    record { place = specs.place; specs = specs; declarators = (record { place = place at; declarator = declarator; value = None }) ∷ [] }

-- `typedef int T; T T;`
abbrev whole_text : List ℕ
whole_text = codes "typedef int T; T T;"

abbrev whole_tokens : List Token
whole_tokens =
    token (k.Word word.Typedef) 0 7 ∷ token (k.Word word.Int) 8 11 ∷ token k.Name 12 13 ∷ token (k.Mark mark.Semicolon) 13 14 ∷ token k.Name 15 16 ∷
    token k.Name 17 18 ∷ token (k.Mark mark.Semicolon) 18 19 ∷ []

pub a_type_and_a_name : AreExternals whole_text whole_tokens start 0 7
    (x.Declaration (declaration (record { place = place 0; words = s.Storage (place 0) storage.Typedef ∷ s.Basic (place 1) b.Int ∷ [] }) (name 2) 2)
    ∷ x.Declaration (declaration (T_at 4) (name 5) 5)
    ∷ [])
unfolding kind_at place_at name_at written spelling
a_type_and_a_name =
    unit.declaration
    (init.of_names
    (phrase.specs
    (phrase.more_specifiers (phrase.storage storage.Typedef refl) (phrase.more_specifiers (phrase.basic b.Int refl) phrase.no_specifiers))
    an_int_for_a_type)
    (init.last (init.without_value (phrase.declared_name refl))) refl)
    (unit.declaration
    (init.of_names
    (phrase.specs
    (phrase.more_specifiers (phrase.named_type refl declared (record { no_word = refl; no_whole = refl })) phrase.no_specifiers)
    (by_itself refl refl))
    (init.last (init.without_value (phrase.declared_name refl))) refl)
    unit.none)

-- `struct T { T T; };`
abbrev members_text : List ℕ
members_text = codes "struct T { T T; };"

abbrev members_tokens : List Token
members_tokens =
    token (k.Word word.Struct) 0 6 ∷ token k.Name 7 8 ∷ token (k.Mark mark.LeftBrace) 9 10 ∷ token k.Name 11 12 ∷ token k.Name 13 14 ∷
    token (k.Mark mark.Semicolon) 14 15 ∷ token (k.Mark mark.RightBrace) 16 17 ∷ token (k.Mark mark.Semicolon) 17 18 ∷ []

-- The member hides nothing.
pub a_member : IsDeclaration members_text members_tokens 3 T T 0 8
    (record {
      place = place 0;
      specs =
          record {
            place = place 0;
            words =
                s.Members (place 0) aggregate.Struct (Some 1)
                ((record { place = place 3; specs = T_at 3; declarators = name 4 ∷ [] }) ∷ [])
                ∷ [];
          };
      declarators = [];
    })
unfolding kind_at place_at name_at written spelling
a_member =
    init.of_no_name
    (phrase.specs
    (phrase.more_specifiers
    (phrase.members aggregate.Struct refl (present refl) refl
    (phrase.last_member
    (phrase.member
    (phrase.specs
    (phrase.more_specifiers (phrase.named_type refl declared (record { no_word = refl; no_whole = refl })) phrase.no_specifiers)
    (by_itself refl refl))
    (phrase.last_declarator (phrase.declared_name refl)) refl))
    refl)
    phrase.no_specifiers)
    (by_itself refl refl))
    refl

-- `T (T);`
abbrev enclosed_text : List ℕ
enclosed_text = codes "T (T);"

abbrev enclosed_tokens : List Token
enclosed_tokens =
    token k.Name 0 1 ∷ token (k.Mark mark.LeftParen) 2 3 ∷ token k.Name 3 4 ∷ token (k.Mark mark.RightParen) 4 5 ∷ token (k.Mark mark.Semicolon) 5 6 ∷ []

-- The name of the type is declared anew.
pub in_parentheses : IsDeclaration enclosed_text enclosed_tokens 3 T ((codes "T", declares.Ordinary) ∷ T) 0 5
    (declaration (T_at 0) (d.Parentheses (place 1) (name 2)) 1)
unfolding kind_at place_at name_at written spelling
in_parentheses =
    init.of_names
    (phrase.specs
    (phrase.more_specifiers (phrase.named_type refl declared (record { no_word = refl; no_whole = refl })) phrase.no_specifiers)
    (by_itself refl refl))
    (init.last (init.without_value (phrase.in_parentheses refl phrase.with_a_name (phrase.declared_name refl) (omega arith) refl)))
    refl

-- `f(T)`
abbrev unnamed_text : List ℕ
unnamed_text = codes "f(T)"

abbrev unnamed_tokens : List Token
unnamed_tokens =
    token k.Name 0 1 ∷ token (k.Mark mark.LeftParen) 1 2 ∷ token k.Name 2 3 ∷ token (k.Mark mark.RightParen) 3 4 ∷ []

-- One parameter of the type, without a name.
pub a_parameter : IsDeclarator unnamed_text unnamed_tokens naming.Named whole 3 T T 0 4 (Some (codes "f")) (Some [])
    (d.Function (place 0) (d.Name (place 0)) ((record { place = place 2; specs = T_at 2; declarator = d.Unnamed }) ∷ []))
unfolding kind_at place_at name_at written spelling
a_parameter =
    phrase.function (phrase.declared_name refl) refl
    (phrase.parameters (λ is. grind (arith, is))
    (phrase.last_parameter
    (phrase.without_name
    (phrase.specs
    (phrase.more_specifiers (phrase.named_type refl declared (record { no_word = refl; no_whole = refl })) phrase.no_specifiers)
    (by_itself refl refl))
    phrase.no_parameter_name)))
    refl

-- `f(T T)`
abbrev named_text : List ℕ
named_text = codes "f(T T)"

abbrev named_tokens : List Token
named_tokens =
    token k.Name 0 1 ∷ token (k.Mark mark.LeftParen) 1 2 ∷ token k.Name 2 3 ∷ token k.Name 4 5 ∷ token (k.Mark mark.RightParen) 5 6 ∷ []

-- One parameter of the type, which has its name.
pub a_named_parameter : IsDeclarator named_text named_tokens naming.Named whole 3 T T 0 5 (Some (codes "f")) (Some ((codes "T", declares.Ordinary) ∷ []))
    (d.Function (place 0) (d.Name (place 0)) ((record { place = place 2; specs = T_at 2; declarator = name 3 }) ∷ []))
unfolding kind_at place_at name_at written spelling
a_named_parameter =
    phrase.function (phrase.declared_name refl) refl
    (phrase.parameters (λ is. grind (arith, is))
    (phrase.last_parameter
    (phrase.with_name
    (phrase.specs
    (phrase.more_specifiers (phrase.named_type refl declared (record { no_word = refl; no_whole = refl })) phrase.no_specifiers)
    (by_itself refl refl))
    (phrase.parameter_name refl))))
    refl

-- `f(int (T))`
abbrev inner_text : List ℕ
inner_text = codes "f(int (T))"

abbrev inner_tokens : List Token
inner_tokens =
    token k.Name 0 1 ∷ token (k.Mark mark.LeftParen) 1 2 ∷ token (k.Word word.Int) 2 5 ∷ token (k.Mark mark.LeftParen) 6 7 ∷ token k.Name 7 8 ∷
    token (k.Mark mark.RightParen) 8 9 ∷ token (k.Mark mark.RightParen) 9 10 ∷ []

-- In a parameter `(T)` is a list of parameters.
pub a_parameter_that_is_a_function : IsDeclarator inner_text inner_tokens naming.Named whole 3 T T 0 7 (Some (codes "f")) (Some [])
    (d.Function (place 0) (d.Name (place 0))
    ((record {
      place = place 2;
      specs = int_at 2;
      declarator = d.Function (place 3) d.Unnamed ((record { place = place 4; specs = T_at 4; declarator = d.Unnamed }) ∷ []);
    }) ∷ []))
unfolding kind_at place_at name_at written spelling
a_parameter_that_is_a_function =
    phrase.function (phrase.declared_name refl) refl
    (phrase.parameters (λ is. grind (arith, is))
    (phrase.last_parameter
    (phrase.without_name {own = Some []} (phrase.specs (phrase.more_specifiers (phrase.basic b.Int refl) phrase.no_specifiers) an_int)
    (phrase.function phrase.no_parameter_name refl
    (phrase.parameters (λ is. grind (arith, is))
    (phrase.last_parameter
    (phrase.without_name
    (phrase.specs
    (phrase.more_specifiers (phrase.named_type refl declared (record { no_word = refl; no_whole = refl }))
    phrase.no_specifiers)
    (by_itself refl refl))
    phrase.no_parameter_name)))
    refl))))
    refl

-- `unsigned long long int T;`
abbrev words_text : List ℕ
words_text = codes "unsigned long long int T;"

abbrev words_tokens : List Token
words_tokens =
    token (k.Word word.Unsigned) 0 8 ∷ token (k.Word word.Long) 9 13 ∷ token (k.Word word.Long) 14 18 ∷ token (k.Word word.Int) 19 22 ∷
    token k.Name 23 24 ∷ token (k.Mark mark.Semicolon) 24 25 ∷ []

-- After a type word the name of a type is a name.
pub four_words : IsDeclaration words_text words_tokens 3 T ((codes "T", declares.Ordinary) ∷ T) 0 6
    (declaration
    (record {
      place = place 0;
      words = s.Basic (place 0) b.Unsigned ∷ s.Basic (place 1) b.Long ∷ s.Basic (place 2) b.Long ∷ s.Basic (place 3) b.Int ∷ [];
    })
    (name 4) 4)
unfolding kind_at place_at name_at written spelling
four_words =
    init.of_names
    (phrase.specs
    (phrase.more_specifiers (phrase.basic b.Unsigned refl)
    (phrase.more_specifiers (phrase.basic b.Long refl)
    (phrase.more_specifiers (phrase.basic b.Long refl) (phrase.more_specifiers (phrase.basic b.Int refl) phrase.no_specifiers))))
    (spelled unsigned_long_long_int refl))
    (init.last (init.without_value (phrase.declared_name refl))) refl

-- `*(*a[2])(void)`
abbrev pointers_text : List ℕ
pointers_text = codes "*(*a[2])(void)"

abbrev pointers_tokens : List Token
pointers_tokens =
    token (k.Mark mark.Star) 0 1 ∷ token (k.Mark mark.LeftParen) 1 2 ∷ token (k.Mark mark.Star) 2 3 ∷ token k.Name 3 4 ∷
    token (k.Mark mark.LeftBracket) 4 5 ∷ token (k.Number 2 n.Int) 5 6 ∷ token (k.Mark mark.RightBracket) 6 7 ∷ token (k.Mark mark.RightParen) 7 8 ∷
    token (k.Mark mark.LeftParen) 8 9 ∷ token (k.Word word.Void) 9 13 ∷ token (k.Mark mark.RightParen) 13 14 ∷ []

-- An array of two pointers to functions without parameters that give pointers: as it is written, the outermost last.
pub pointers_to_functions : IsDeclarator pointers_text pointers_tokens naming.Named whole 6 [] [] 0 11 (Some (codes "a")) (Some [])
    (d.Pointer (place 0) []
    (d.Function (place 1)
    (d.Parentheses (place 1)
    (d.Pointer (place 2) [] (d.Array (place 3) (d.Name (place 3)) (Some (e.Number (place 5) 2 n.Int)))))
    []))
unfolding kind_at place_at name_at written spelling
pointers_to_functions =
    phrase.pointer refl phrase.none
    (phrase.function
    (phrase.in_parentheses refl phrase.with_a_name
    (phrase.pointer refl phrase.none (phrase.array (phrase.declared_name refl) refl (phrase.number (omega arith) refl) refl)) (omega arith) refl)
    refl (phrase.only_void refl refl) refl)

-- `{1, {2, 3,},}`
abbrev lists_text : List ℕ
lists_text = codes "{1, {2, 3,},}"

abbrev lists_tokens : List Token
lists_tokens =
    token (k.Mark mark.LeftBrace) 0 1 ∷ token (k.Number 1 n.Int) 1 2 ∷ token (k.Mark mark.Comma) 2 3 ∷ token (k.Mark mark.LeftBrace) 4 5 ∷
    token (k.Number 2 n.Int) 5 6 ∷ token (k.Mark mark.Comma) 6 7 ∷ token (k.Number 3 n.Int) 8 9 ∷ token (k.Mark mark.Comma) 9 10 ∷
    token (k.Mark mark.RightBrace) 10 11 ∷ token (k.Mark mark.Comma) 11 12 ∷ token (k.Mark mark.RightBrace) 12 13 ∷ []

pub nested_lists : IsInitialiser lists_text lists_tokens 3 [] [] 0 11
    (i.Braces (place 0)
    (i.Value (e.Number (place 1) 1 n.Int)
    ∷ i.Braces (place 3) (i.Value (e.Number (place 4) 2 n.Int) ∷ i.Value (e.Number (place 6) 3 n.Int) ∷ []) ∷ []))
unfolding kind_at place_at name_at written spelling
nested_lists =
    init.braces refl
    (init.more_initialisers (init.value (phrase.number (omega arith) refl)) refl
    (init.last_initialiser
    (init.braces refl
    (init.more_initialisers (init.value (phrase.number (omega arith) refl)) refl
    (init.last_initialiser (init.value (phrase.number (omega arith) refl))))
    (comma_and_brace refl refl))))
    (comma_and_brace refl refl)

-- `enum { T = (T)3 }`
abbrev constant_text : List ℕ
constant_text = codes "enum { T = (T)3 }"

abbrev constant_tokens : List Token
constant_tokens =
    token (k.Word word.Enum) 0 4 ∷ token (k.Mark mark.LeftBrace) 5 6 ∷ token k.Name 7 8 ∷ token (k.Mark mark.Equal) 9 10 ∷
    token (k.Mark mark.LeftParen) 11 12 ∷ token k.Name 12 13 ∷ token (k.Mark mark.RightParen) 13 14 ∷ token (k.Number 3 n.Int) 14 15 ∷
    token (k.Mark mark.RightBrace) 16 17 ∷ []

-- In the value of the constant, its name is still that of the type; after it, the constant's.
pub a_constant_that_hides_a_type : IsSpecs constant_text constant_tokens 3 T ((codes "T", declares.Ordinary) ∷ T) (is_type ∷ []) 0 9
    (record {
      place = place 0;
      words =
          s.Enumerators (place 0) None
          ((record {
            place = place 2;
            value =
                Some
                (e.Cast (place 4) (record { place = place 5; specs = T_at 5; declarator = d.Unnamed }) (e.Number (place 7) 3 n.Int));
          }) ∷ [])
          ∷ [];
    })
unfolding kind_at place_at name_at written spelling
a_constant_that_hides_a_type =
    phrase.specs
    (phrase.more_specifiers
    (phrase.enumerators refl absent refl
    (phrase.last_enumerator
    (phrase.with_value refl refl
    (phrase.cast_to (omega arith) refl
    (phrase.type_name
    (phrase.specs
    (phrase.more_specifiers (phrase.named_type refl declared (record { no_word = refl; no_whole = refl })) phrase.no_specifiers)
    (by_itself refl refl))
    phrase.no_name)
    refl (phrase.number (omega arith) refl))))
    (brace refl))
    phrase.no_specifiers)
    (by_itself refl refl)

-- `typedef int T`
abbrev typedef_text : List ℕ
typedef_text = codes "typedef int T"

abbrev typedef_tokens : List Token
typedef_tokens = token (k.Word word.Typedef) 0 7 ∷ token (k.Word word.Int) 8 11 ∷ token k.Name 12 13 ∷ []

-- As a parameter it declares no type.
pub a_parameter_with_typedef : IsParameter typedef_text typedef_tokens 3 [] ((codes "T", declares.Ordinary) ∷ []) 0 3
    (record {
      place = place 0;
      specs = record { place = place 0; words = s.Storage (place 0) storage.Typedef ∷ s.Basic (place 1) b.Int ∷ [] };
      declarator = name 2;
    })
unfolding kind_at place_at name_at written spelling
a_parameter_with_typedef =
    phrase.with_name
    (phrase.specs
    (phrase.more_specifiers (phrase.storage storage.Typedef refl) (phrase.more_specifiers (phrase.basic b.Int refl) phrase.no_specifiers))
    an_int_for_a_type)
    (phrase.parameter_name refl)
