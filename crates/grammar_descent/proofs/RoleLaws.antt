-- What lists of roles come to is known from their parts, so that a reader may keep counts in place of the list.
use Rattle.std.proofs.Common.{◌≡◌, ℕ, suc, ◌+◌, Bool, true, false, ◌==◌, cond, List, [], ◌∷◌, ◌++◌, length, refl, ap, arith}
use Rattle.std.proofs.lemmas.Bool.Decides.{nat_tests}
use Rattle.c_grammar.specs.declared.words.NameKind.TheVariants as declares
use Rattle.c_grammar.specs.declared.words.NameKind.{NameKind}
use Rattle.c_grammar.specs.declared.words.BasicWord.{BasicWord}
use Rattle.c_grammar.specs.contracts.words.BasicWord.{the_type}
use Rattle.c_grammar.specs.Words.{Role, names_types, modifies, spells, is_type, basic_words, whole_types}
use Rattle.c_grammar.specs.Scope.{declared_kind}
use denote.Enum.Bare.{sameb}
use Rattle.grammar_descent.specs.TypeWords.{times, are_none}

pub basic_words-append : (one two : List Role) → basic_words (one ++ two) ≡ basic_words one ++ basic_words two
basic_words-append [] two = refl
basic_words-append (names_types ∷ one) two = basic_words-append one two
basic_words-append (modifies ∷ one) two = basic_words-append one two
basic_words-append (spells w ∷ one) two = ap (λ l. w ∷ l) (basic_words-append one two)
basic_words-append (is_type ∷ one) two = basic_words-append one two

pub whole_types-append : (one two : List Role) → whole_types (one ++ two) ≡ whole_types one + whole_types two
whole_types-append [] two = omega arith
whole_types-append (names_types ∷ one) two = whole_types-append one two
whole_types-append (modifies ∷ one) two = whole_types-append one two
whole_types-append (spells w ∷ one) two = whole_types-append one two
whole_types-append (is_type ∷ one) two = let e = whole_types-append one two in omega arith

-- a type where one of the two is
abbrev pub either : NameKind → NameKind → NameKind
either declares.Type other = declares.Type
either declares.Ordinary other = other

pub declared_kind-append : (one two : List Role) → declared_kind (one ++ two) ≡ either (declared_kind one) (declared_kind two)
declared_kind-append [] two = refl
declared_kind-append (names_types ∷ one) two = refl
declared_kind-append (modifies ∷ one) two = declared_kind-append one two
declared_kind-append (spells w ∷ one) two = declared_kind-append one two
declared_kind-append (is_type ∷ one) two = declared_kind-append one two

pub times-append : (w : BasicWord) (one two : List BasicWord) → times w (one ++ two) ≡ times w one + times w two
unfolding times
times-append w [] two = omega arith
times-append w (other ∷ one) two = by_test (sameb the_type w other) (times w (one ++ two)) (times w one) (times w two) (times-append w one two)
  where
    by_test : (b : Bool) (all m n : ℕ) → all ≡ m + n → cond b (suc all) all ≡ cond b (suc m) m + n
    by_test true all m n e = omega arith
    by_test false all m n e = e

pub are_none-length : (words : List BasicWord) → are_none words ≡ (length words == 0)
are_none-length [] = refl
are_none-length (w ∷ words) = grind (arith, nat_tests)
