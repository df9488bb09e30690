-- Words and whole types are counted specifier by specifier.
use Rattle.std.proofs.Common.{◌≡◌, Some, None, is_some, ℕ, suc, ◌+◌, ◌==◌, ◌&&◌, ◌||◌, Bool, true, false, cond, ◌∙◌, nat_lt, List, [], ◌∷◌, count_by, not, refl, sym, ap, arith}
use Rattle.std.specs.List.{list_any}
use Rattle.std.proofs.lemmas.List.Recursion.{is_count_by}
use Rattle.std.proofs.lemmas.Bool.Decides.{nat_tests}
use Rattle.c_grammar.specs.declared.words.BasicWord.{BasicWord}
use Rattle.c_grammar.specs.declared.words.BasicWord.TheVariants as b
use Rattle.c_grammar.specs.contracts.words.BasicWord.{the_type}
use Rattle.c_grammar.specs.declared.phrases.Specifier.{Specifier}
use Rattle.c_grammar.specs.Words.{Role, names_types, modifies, spells, is_type, basic_words, whole_types}
use Rattle.c_grammar.specs.declared.words.NameKind.{NameKind}
use Rattle.c_grammar.specs.declared.words.NameKind.TheVariants as kind
use Rattle.c_grammar.specs.Scope.{declared_kind}
use denote.Enum.Bare.{sameb}
use Rattle.grammar_descent.specs.Reading.{◌>>=◌}
use Rattle.grammar_descent.specs.TypeWords.{times, holds_no_type, are_none, Sign, sign_of, type_of, spelled_type, holds_one_type}
use Rattle.declarator_parser.specs.Roles.{role_of, roles_of, spells_word, is_whole, is_of_type, is_basic, makes_types}

abbrev pub kind_by : Bool → NameKind
kind_by true = kind.Type
kind_by false = kind.Ordinary

one_more : (b : Bool) (n : ℕ) → cond b (suc n) n ≡ cond b (1 + n) n
one_more true n = omega arith
one_more false n = refl

times-first : (which : BasicWord) (role : Role) (roles : List Role) →
    times which (basic_words (role ∷ roles)) ≡ cond (spells_word which role) (1 + times which (basic_words roles)) (times which (basic_words roles))
unfolding times
times-first which names_types roles = refl
times-first which modifies roles = refl
times-first which (spells w) roles = one_more (sameb the_type which w) (times which (basic_words roles))
times-first which is_type roles = refl

pub times-count : (which : BasicWord) (words : List Specifier) →
    count_by (λ (w : Specifier). spells_word which (role_of w)) words ≡ times which (basic_words (roles_of words))
unfolding times
times-count which words = sym (is_count_by (λ (l : List Specifier). times which (basic_words (roles_of l))) (λ (w : Specifier). spells_word which (role_of w))
    refl (λ w l. times-first which (role_of w) (roles_of l)) words)

whole-first : (role : Role) (roles : List Role) → whole_types (role ∷ roles) ≡ cond (is_whole role) (1 + whole_types roles) (whole_types roles)
whole-first names_types roles = refl
whole-first modifies roles = refl
whole-first (spells w) roles = refl
whole-first is_type roles = omega arith

pub whole-count : (words : List Specifier) → count_by (λ (w : Specifier). is_whole (role_of w)) words ≡ whole_types (roles_of words)
whole-count words = sym (is_count_by (λ (l : List Specifier). whole_types (roles_of l)) (λ (w : Specifier). is_whole (role_of w))
    refl (λ w l. whole-first (role_of w) (roles_of l)) words)

of_type-first : (role : Role) (roles : List Role) (rest : Bool) → not rest ≡ holds_no_type roles → not (is_of_type role || rest) ≡ holds_no_type (role ∷ roles)
unfolding holds_no_type
of_type-first names_types roles rest e = e
of_type-first modifies roles rest e = e
of_type-first (spells w) roles rest e = refl
of_type-first is_type roles rest e = no_type (are_none (basic_words roles)) (whole_types roles)
  where
    no_type : (b : Bool) (n : ℕ) → false ≡ (b && suc n == 0)
    no_type true n = grind (arith, nat_tests)
    no_type false n = refl

pub none-of_type : (words : List Specifier) → not (list_any (λ (w : Specifier). is_of_type (role_of w)) words) ≡ holds_no_type (roles_of words)
unfolding holds_no_type
none-of_type [] = refl
none-of_type (w ∷ words) = of_type-first (role_of w) (roles_of words) (list_any (λ (x : Specifier). is_of_type (role_of x)) words) (none-of_type words)

basic-first : (role : Role) (roles : List Role) (rest : Bool) → rest ≡ not (are_none (basic_words roles)) → (is_basic role || rest) ≡ not (are_none (basic_words (role ∷ roles)))
basic-first names_types roles rest e = e
basic-first modifies roles rest e = e
basic-first (spells w) roles rest e = refl
basic-first is_type roles rest e = e

pub some-basic : (words : List Specifier) → list_any (λ (w : Specifier). is_basic (role_of w)) words ≡ not (are_none (basic_words (roles_of words)))
some-basic [] = refl
some-basic (w ∷ words) = basic-first (role_of w) (roles_of words) (list_any (λ (x : Specifier). is_basic (role_of x)) words) (some-basic words)

types-first : (role : Role) (roles : List Role) (rest : Bool) → declared_kind roles ≡ kind_by rest → declared_kind (role ∷ roles) ≡ kind_by (makes_types role || rest)
types-first names_types roles rest e = refl
types-first modifies roles rest e = e
types-first (spells w) roles rest e = e
types-first is_type roles rest e = e

pub some-makes_types : (words : List Specifier) → declared_kind (roles_of words) ≡ kind_by (list_any (λ (w : Specifier). makes_types (role_of w)) words)
some-makes_types [] = refl
some-makes_types (w ∷ words) = types-first (role_of w) (roles_of words) (list_any (λ (x : Specifier). makes_types (role_of x)) words) (some-makes_types words)

abbrev pub counted : (Specifier → Bool) → List Specifier → ℕ
counted p [] = 0
counted p (w ∷ words) = cond (p w) (1 + counted p words) (counted p words)

none-here : (b rest : Bool) (n : ℕ) → (n == 0) ≡ not rest → (cond b (1 + n) n == 0) ≡ not (b || rest)
none-here true rest n e = grind (arith, nat_tests)
none-here false rest n e = e

none-along : (p : Specifier → Bool) (words : List Specifier) → (counted p words == 0) ≡ not (list_any p words)
none-along p [] = refl
none-along p (w ∷ words) = none-here (p w) (list_any p words) (counted p words) (none-along p words)

pub none-counted : (p : Specifier → Bool) (words : List Specifier) → (count_by p words == 0) ≡ not (list_any p words)
none-counted p words = ap (λ n. n == 0) (sym (is_count_by (counted p) p refl (λ w l. refl) words)) ∙ none-along p words

some-here : (n : ℕ) (b : Bool) → (n == 0) ≡ not b → nat_lt 0 n ≡ b
some-here n true e = grind (arith, nat_tests)
some-here n false e = grind (arith, nat_tests)

pub some-counted : (p : Specifier → Bool) (words : List Specifier) → nat_lt 0 (count_by p words) ≡ list_any p words
some-counted p words = some-here (count_by p words) (list_any p words) (none-counted p words)

pub no_type-none : (words : List Specifier) → count_by (λ (w : Specifier). makes_types (role_of w)) words ≡ 0 → declared_kind (roles_of words) ≡ kind.Ordinary
no_type-none words none = some-makes_types words ∙ by_test _ _ none (none-counted (λ (w : Specifier). makes_types (role_of w)) words)
  where
    by_test : (n : ℕ) (b : Bool) → n ≡ 0 → (n == 0) ≡ not b → kind_by b ≡ kind.Ordinary
    by_test n true z e = grind (arith, nat_tests)
    by_test n false z e = refl

pub a_type-some : (words : List Specifier) → (count_by (λ (w : Specifier). makes_types (role_of w)) words ≡ 0 → ⊥) → declared_kind (roles_of words) ≡ kind.Type
a_type-some words some = some-makes_types words ∙ by_test _ _ some (none-counted (λ (w : Specifier). makes_types (role_of w)) words)
  where
    by_test : (n : ℕ) (b : Bool) → (n ≡ 0 → ⊥) → (n == 0) ≡ not b → kind_by b ≡ kind.Type
    by_test n true z e = refl
    by_test n false z e = grind (arith, nat_tests)

pub whole-none : (roles : List Role) (fit : Bool) → whole_types roles ≡ 0 → fit ≡ is_some (spelled_type (basic_words roles)) → fit ≡ holds_one_type roles
unfolding holds_one_type
whole-none roles fit none e = by_test fit (is_some (spelled_type (basic_words roles))) (are_none (basic_words roles)) (whole_types roles) none e
  where
    by_test : (fit spelled empty : Bool) (n : ℕ) → n ≡ 0 → fit ≡ spelled → fit ≡ ((spelled && n == 0) || (empty && n == 1))
    by_test fit true empty n z e = grind (arith, nat_tests)
    by_test fit false true n z e = grind (arith, nat_tests)
    by_test fit false false n z e = e

pub whole-one : (roles : List Role) (some : Bool) → whole_types roles ≡ 1 → some ≡ not (are_none (basic_words roles)) → not some ≡ holds_one_type roles
unfolding holds_one_type
whole-one roles some one e = by_test some (is_some (spelled_type (basic_words roles))) (are_none (basic_words roles)) (whole_types roles) one e
  where
    by_test : (some spelled empty : Bool) (n : ℕ) → n ≡ 1 → some ≡ not empty → not some ≡ ((spelled && n == 0) || (empty && n == 1))
    by_test some true true n z e = grind (arith, nat_tests)
    by_test some true false n z e = grind (arith, nat_tests)
    by_test some false true n z e = grind (arith, nat_tests)
    by_test some false false n z e = grind (arith, nat_tests)

pub whole-more : (roles : List Role) → (whole_types roles ≡ 0 → ⊥) → (whole_types roles ≡ 1 → ⊥) → false ≡ holds_one_type roles
unfolding holds_one_type
whole-more roles z o = by_test (is_some (spelled_type (basic_words roles))) (are_none (basic_words roles)) (whole_types roles) z o
  where
    by_test : (spelled empty : Bool) (n : ℕ) → (n ≡ 0 → ⊥) → (n ≡ 1 → ⊥) → false ≡ ((spelled && n == 0) || (empty && n == 1))
    by_test true true n z o = grind (arith, nat_tests)
    by_test true false n z o = grind (arith, nat_tests)
    by_test false true n z o = grind (arith, nat_tests)
    by_test false false n z o = refl

pub spelled : (words : List BasicWord) (m n v c s i l : ℕ) (sign : Sign) → m ≡ times b.Signed words → n ≡ times b.Unsigned words →
    v ≡ times b.Void words → c ≡ times b.Char words → s ≡ times b.Short words → i ≡ times b.Int words → l ≡ times b.Long words →
    sign_of m n ≡ Some sign → type_of v c s i l sign ≡ spelled_type words
unfolding spelled_type
spelled words m n v c s i l sign em en ev ec es ei el is =
    ap (λ o. o >>= type_of v c s i l) (sym is)
    ∙ ap (λ o. o >>= type_of v c s i l) (ap (λ k. sign_of k n) em ∙ ap (λ k. sign_of (times b.Signed words) k) en)
    ∙ ap (λ f. sign_of (times b.Signed words) (times b.Unsigned words) >>= f) (same_counts words v c s i l ev ec es ei el)
  where
    same_counts : (words : List BasicWord) (v c s i l : ℕ) → v ≡ times b.Void words → c ≡ times b.Char words → s ≡ times b.Short words →
        i ≡ times b.Int words → l ≡ times b.Long words →
        type_of v c s i l ≡ type_of (times b.Void words) (times b.Char words) (times b.Short words) (times b.Int words) (times b.Long words)
    same_counts words v c s i l ev ec es ei el = rw (ev, ec, es, ei, el) refl

pub not_spelled : (words : List BasicWord) (m n : ℕ) → m ≡ times b.Signed words → n ≡ times b.Unsigned words → sign_of m n ≡ None → None ≡ spelled_type words
unfolding spelled_type
not_spelled words m n em en none =
    ap (λ o. o >>= type_of (times b.Void words) (times b.Char words) (times b.Short words) (times b.Int words) (times b.Long words))
    (sym none ∙ ap (λ k. sign_of k n) em ∙ ap (λ k. sign_of (times b.Signed words) k) en)

pub not_one : (n : ℕ) → (n ≡ 1 → ⊥) → (n == 1) ≡ false
not_one n other = grind (arith, nat_tests)
