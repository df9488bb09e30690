-- Where specifiers begin, and which names are types.
use Rattle.std.proofs.Common.{◌≡◌, ◌≢◌, ℕ, zero, suc, ◌≤◌, Bool, true, false, ◌&&◌, cond, List, [], ◌∷◌, length, refl, subst, arith, inl, inr}
use Rattle.std.specs.Prelude.{All}
use Rattle.std.specs.Str.{bytes_eq}
use Rattle.std.proofs.lemmas.Slice.Eq.{bytes_eq-Decides}
use Rattle.std.proofs.lemmas.Bool.{cases_Bool}
use Rattle.std.proofs.lemmas.List.Elements.{All-contains}
use Rattle.std.proofs.lemmas.List.Sorted.{length_permutation}
use Rattle.c_tokens.specs.declared.kind.Keyword.{Keyword}
use Rattle.c_tokens.specs.declared.token.Token.{Token}
use Rattle.c_grammar.specs.declared.words.NameKind.TheVariants as declares
use Rattle.c_grammar.specs.declared.words.NameKind.{NameKind}
use Rattle.c_grammar.specs.declared.words.Storage.{Storage}
use Rattle.c_grammar.specs.declared.words.Storage.TheVariants as st
use Rattle.c_grammar.specs.declared.words.Qualifier.{Qualifier}
use Rattle.c_grammar.specs.declared.words.Qualifier.TheVariants as q
use Rattle.c_grammar.specs.declared.words.BasicWord.{BasicWord}
use Rattle.c_grammar.specs.declared.words.BasicWord.TheVariants as b
use Rattle.c_grammar.specs.declared.words.BasicType.{BasicType}
use Rattle.c_grammar.specs.declared.words.Aggregate.{Aggregate}
use Rattle.c_grammar.specs.declared.words.Aggregate.TheVariants as ag
use Rattle.c_grammar.specs.declared.phrases.Specs.{Specs}
use Rattle.c_grammar.specs.declared.phrases.Specifier.{Specifier}
use Rattle.c_tokens.specs.Names.{Name}
use Rattle.c_grammar.specs.Tokens.{IsWord}
use Rattle.c_grammar.specs.Words.{Role, storage_word, qualifier_word, basic_word, aggregate_word, spellings, Spells, HoldsOneType, spelled, by_itself}
use Rattle.c_grammar.specs.Scope.{Scope, IsType, declared, before}
use Rattle.c_grammar.specs.Phrases.{IsSpecs, specs, AreSpecifiers, no_specifiers, more_specifiers, IsSpecifier, storage, qualifier, basic, members, tag, enumerators, enum_tag, named_type}
use Rattle.grammar_descent.specs.Follow.{is_specifier_word}
use Rattle.grammar_descent.specs.Types.{declares_type, names_a_type, begins_specs}

both : (a b : Bool) → (a && b) ≡ true → (a ≡ true) × (b ≡ true)
both true true h = (refl, refl)
both true false h = absurd cc
both false b h = absurd cc

-- ---- names

pub same_name : (a b : Name) → bytes_eq a b ≡ true → a ≡ b
same_name a b h = (bytes_eq-Decides a b).0 h

pub name_self : (a b : Name) → a ≡ b → bytes_eq a b ≡ true
name_self a b h = (bytes_eq-Decides a b).1 h

pub other_name : (a b : Name) → a ≢ b → bytes_eq a b ≡ false
other_name a b apart = elim (cases_Bool (bytes_eq a b)) [ inl y ↦ absurd (apart (same_name a b y)) | inr n ↦ n ]

-- what is a type is found to be one
pub type_found : {scope : Scope} {name : Name} → IsType scope name → names_a_type scope name ≡ true
unfolding names_a_type
type_found (declared {scope} {name}) = rw (name_self name name refl) refl
type_found (before {scope} {name} {other} apart is) = rw (other_name other name apart) (type_found is)

-- what is found to be a type is one
pub type_sound : (scope : Scope) (name : Name) → names_a_type scope name ≡ true → IsType scope name
unfolding names_a_type
type_sound [] name h = absurd cc
type_sound ((other, u) ∷ scope) name h = by_test (bytes_eq other name) u (type_sound scope name) refl h
  where
    by_test : (b : Bool) (u : NameKind) → (names_a_type scope name ≡ true → IsType scope name) → bytes_eq other name ≡ b → cond b (declares_type u) (names_a_type scope name) ≡ true → IsType ((other, u) ∷ scope) name
    by_test true declares.Type later same h = subst (λ (n : Name). IsType ((other, declares.Type) ∷ scope) n) (same_name other name same) declared
    by_test true declares.Ordinary later same h = absurd cc
    by_test false u later apart h = before (λ e. let same = name_self other name e in cc) (later h)

pub type_missed : (scope : Scope) (name : Name) → (IsType scope name → ⊥) → names_a_type scope name ≡ false
type_missed scope name none = elim (cases_Bool (names_a_type scope name)) [ inl y ↦ absurd (none (type_sound scope name y)) | inr n ↦ n ]

pub no_type_sound : (scope : Scope) (name : Name) → names_a_type scope name ≡ false → IsType scope name → ⊥
no_type_sound scope name h is = let y = type_found is in cc

-- ---- specifiers

storage_begins : (which : Storage) → is_specifier_word (storage_word which) ≡ true
storage_begins st.Typedef = refl
storage_begins _ = refl

qualifier_begins : (which : Qualifier) → is_specifier_word (qualifier_word which) ≡ true
qualifier_begins q.Const = refl
qualifier_begins _ = refl

basic_begins : (which : BasicWord) → is_specifier_word (basic_word which) ≡ true
basic_begins b.Void = refl
basic_begins _ = refl

aggregate_begins : (which : Aggregate) → is_specifier_word (aggregate_word which) ≡ true
aggregate_begins ag.Struct = refl
aggregate_begins _ = refl

abbrev is_some_row : List BasicWord → Bool
is_some_row [] = false
is_some_row (w ∷ rest) = true

abbrev are_some_rows : List (List BasicWord × BasicType) → Bool
are_some_rows [] = true
are_some_rows (row ∷ rows) = is_some_row row.0 && are_some_rows rows

some_row : (row : List BasicWord) → is_some_row row ≡ true → 1 ≤ length row
some_row [] h = absurd cc
some_row (w ∷ rest) h = omega arith

all_some : (rows : List (List BasicWord × BasicType)) → are_some_rows rows ≡ true → All (λ (p : List BasicWord × BasicType). 1 ≤ length p.0) rows
all_some [] h k d low = absurd (omega arith)
all_some (row ∷ rows) h zero d low = some_row row.0 (both (is_some_row row.0) (are_some_rows rows) h).0
all_some (row ∷ rows) h (suc k) d low = all_some rows (both (is_some_row row.0) (are_some_rows rows) h).1 k d (omega arith)

no_row : {type : BasicType} → Spells [] type → ⊥
no_row {type} s =
    let some : 1 ≤ length s.row = All-contains (λ (p : List BasicWord × BasicType). 1 ≤ length p.0) spellings (s.row, type) (all_some spellings refl) s.stands in
    let none = length_permutation s.row [] s.is in
    omega arith

-- no type without a specifier
pub no_type_of_none : HoldsOneType [] → ⊥
no_type_of_none (spelled s none) = no_row s
no_type_of_none (by_itself none one) = absurd cc

module _ (text : List ℕ) (ts : List Token) where
  word_begins : (scope : Scope) (at : ℕ) (w : Keyword) → IsWord ts at w → is_specifier_word w ≡ true → begins_specs text ts scope at ≡ true
  unfolding begins_specs
  word_begins scope at w is begins = rw is begins

  -- where a specifier begins, the test says so
  pub specifier_begins : {depth from to : ℕ} {scope after : Scope} {earlier : List Role} {role : Role} {found : Specifier} →
      IsSpecifier text ts depth scope after earlier role from to found → begins_specs text ts scope from ≡ true
  unfolding begins_specs
  specifier_begins {from} {scope} (storage which is) = word_begins scope from _ is (storage_begins which)
  specifier_begins {from} {scope} (qualifier which is) = word_begins scope from _ is (qualifier_begins which)
  specifier_begins {from} {scope} (basic which is) = word_begins scope from _ is (basic_begins which)
  specifier_begins {from} {scope} (members which is named opens all closes) = word_begins scope from _ is (aggregate_begins which)
  specifier_begins {from} {scope} (tag which is named) = word_begins scope from _ is (aggregate_begins which)
  specifier_begins {from} {scope} (enumerators is named opens all closes) = word_begins scope from _ is refl
  specifier_begins {from} {scope} (enum_tag is named) = word_begins scope from _ is refl
  specifier_begins {from} {scope} (named_type is known none) = rw is (type_found known)

  some_begin : {depth from to : ℕ} {scope after : Scope} {earlier roles : List Role} {all : List Specifier} →
      AreSpecifiers text ts depth scope after earlier roles from to all → earlier ≡ [] → HoldsOneType roles → begins_specs text ts scope from ≡ true
  some_begin (no_specifiers {roles}) none one = absurd (no_type_of_none (subst HoldsOneType none one))
  some_begin (more_specifiers first rest) none one = specifier_begins first

  -- where specifiers with a type begin, the test says so
  pub specs_begin : {depth from to : ℕ} {scope after : Scope} {roles : List Role} {found : Specs} →
      IsSpecs text ts depth scope after roles from to found → begins_specs text ts scope from ≡ true
  specs_begin (specs all one) = some_begin all refl one
