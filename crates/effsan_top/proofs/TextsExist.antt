-- Tokens whose string literals mean bytes have names, strings and numbers.
use Rattle.std.proofs.Common.{◌≡◌, ◌≢◌, ℕ, zero, suc, List, [], ◌∷◌, ◌++◌, length, Some, Bool, true, false, cond, inl, inr, refl, sym, ap, subst, ◌∙◌}
use Rattle.std.specs.Prelude.{slice_get, fold, map, filter, ◌||◌}
use Rattle.std.specs.List.{list_any, AllByRecursion}
use Rattle.std.specs.Str.{bytes_eq}
use Rattle.std.proofs.lemmas.Bool.{cases_Bool, cond-true, cond-false}
use Rattle.std.proofs.lemmas.List.Elements.{All-head, All-tail}
use Rattle.std.proofs.lemmas.Slice.Eq.{bytes_eq-Decides}
use Rattle.c_tokens.specs.declared.kind.Kind.{Kind}
use Rattle.c_tokens.specs.declared.kind.Kind.TheVariants as k
use Rattle.c_tokens.specs.declared.token.Token.{Token}
use Rattle.c_tokens.specs.Names.{is_name, spelling}
use Rattle.token_texts.specs.Names.{has_name, names_of, predefined}
use Rattle.token_texts.specs.Strings.{MeansBytes, HaveStrings, AreStrings}
use Rattle.token_texts.specs.Strings as strings
use Rattle.token_texts.specs.Texts.{Texts, AreTexts, AreNumbers, IsNumber, with_one, distinct}
use Rattle.token_texts.specs.Texts as texts

-- ---- what stands in a list

abbrev Has : List (List ℕ) → List ℕ → Type 0
Has list one = (n : ℕ) × (slice_get list n ≡ Some one)

at_end : (list : List (List ℕ)) (one : List ℕ) → slice_get (list ++ one ∷ []) (length list) ≡ Some one
at_end [] one = refl
at_end (first ∷ list) one = at_end list one

there_still : (list more : List (List ℕ)) (n : ℕ) (one : List ℕ) → slice_get list n ≡ Some one → slice_get (list ++ more) n ≡ Some one
there_still [] more n one h = absurd cc
there_still (first ∷ list) more zero one h = h
there_still (first ∷ list) more (suc n) one h = there_still list more n one h

among : (list : List (List ℕ)) (one : List ℕ) → list_any (bytes_eq one) list ≡ true → Has list one
among [] one h = absurd cc
among (first ∷ list) one h = elim (cases_Bool (bytes_eq one first)) [
  | inl same ↦ (let e : one ≡ first = (bytes_eq-Decides one first).0 same in (0, ap (λ x. Some x) (sym e)))
  | inr other ↦ (
      let rest : list_any (bytes_eq one) list ≡ true = subst (λ b. (b || list_any (bytes_eq one) list) ≡ true) other h in
      let later = among list one rest in
      (suc later.0, later.1))
]

keeps_one : (list : List (List ℕ)) (one other : List ℕ) → Has list other → Has (with_one list one) other
keeps_one list one other h = elim (cases_Bool (list_any (bytes_eq one) list)) [
  | inl there ↦ subst (λ l. Has l other) (sym (cond-true (list_any (bytes_eq one) list) list (list ++ one ∷ []) there)) h
  | inr new ↦ subst (λ l. Has l other) (sym (cond-false (list_any (bytes_eq one) list) list (list ++ one ∷ []) new))
      (h.0, there_still list (one ∷ []) h.0 other h.1)
]

gains_one : (list : List (List ℕ)) (one : List ℕ) → Has (with_one list one) one
gains_one list one = elim (cases_Bool (list_any (bytes_eq one) list)) [
  | inl there ↦ subst (λ l. Has l one) (sym (cond-true (list_any (bytes_eq one) list) list (list ++ one ∷ []) there)) (among list one there)
  | inr new ↦ subst (λ l. Has l one) (sym (cond-false (list_any (bytes_eq one) list) list (list ++ one ∷ []) new))
      (length list, at_end list one)
]

keeps_all : (list more : List (List ℕ)) (other : List ℕ) → Has list other → Has (fold with_one list more) other
keeps_all list [] other h = h
keeps_all list (one ∷ more) other h = keeps_all (with_one list one) more other (keeps_one list one other h)

gains_all : (list more : List (List ℕ)) → AllByRecursion (Has (fold with_one list more)) more
gains_all list [] = tt
gains_all list (one ∷ more) = (keeps_all (with_one list one) more one (gains_one list one), gains_all (with_one list one) more)

rest_of : (P : List ℕ → Type 0) (first rest : List (List ℕ)) → AllByRecursion P (first ++ rest) → AllByRecursion P rest
rest_of P [] rest h = h
rest_of P (one ∷ first) rest h = rest_of P first rest h.1

-- ---- literals

-- by what a token is
literals_with : (text : List ℕ) (token : Token) (tokens : List Token) (literals : List (List ℕ)) → MeansBytes text token →
    AreStrings text tokens literals → (kind : Kind) → token.kind ≡ kind → (more : List (List ℕ)) × AreStrings text (token ∷ tokens) more
literals_with text token tokens literals means rest k.Str is = (let m = means is in (m.0 ∷ literals, strings.string is m.1 rest))
literals_with text token tokens literals means rest k.Name is = (literals, strings.other (λ s. let e = sym is ∙ s in cc) rest)
literals_with text token tokens literals means rest (k.Word w) is = (literals, strings.other (λ s. let e = sym is ∙ s in cc) rest)
literals_with text token tokens literals means rest (k.Number n t) is = (literals, strings.other (λ s. let e = sym is ∙ s in cc) rest)
literals_with text token tokens literals means rest (k.Char c) is = (literals, strings.other (λ s. let e = sym is ∙ s in cc) rest)
literals_with text token tokens literals means rest (k.Mark m) is = (literals, strings.other (λ s. let e = sym is ∙ s in cc) rest)

literals_exist : (text : List ℕ) (tokens : List Token) → HaveStrings text tokens → (literals : List (List ℕ)) × AreStrings text tokens literals
literals_exist text [] h = ([], strings.none)
literals_exist text (token ∷ tokens) h =
    let rest = literals_exist text tokens (All-tail (MeansBytes text) token tokens h) in
    literals_with text token tokens rest.0 (All-head (MeansBytes text) token tokens h) rest.1 token.kind refl

-- ---- numbers

module _ (text : List ℕ) (names kept : List (List ℕ)) where
  abbrev AreThere : List Token → Type 0
  AreThere tokens = AllByRecursion (Has names) (map (spelling text) tokens)

  there_by : (b : Bool) (token : Token) (tokens : List Token) → AreThere (cond b (token ∷ tokens) tokens) →
      AreThere tokens × (b ≡ true → Has names (spelling text token))
  there_by true token tokens h = (h.1, λ is. h.0)
  there_by false token tokens h = (h, λ is. absurd cc)

  number_of : (token : Token) (kind : Kind) → token.kind ≡ kind → token.kind ≢ k.Str → (has_name token ≡ true → Has names (spelling text token)) →
      (n : ℕ) × IsNumber text names kept token n
  number_of token k.Name is plain named = (let n = named (ap is_name is) in (n.0, texts.name is n.1))
  number_of token k.Str is plain named = absurd (plain is)
  number_of token (k.Word w) is plain named = (0, texts.other (λ s. let e = sym is ∙ s in cc) plain)
  number_of token (k.Number n t) is plain named = (0, texts.other (λ s. let e = sym is ∙ s in cc) plain)
  number_of token (k.Char c) is plain named = (0, texts.other (λ s. let e = sym is ∙ s in cc) plain)
  number_of token (k.Mark m) is plain named = (0, texts.other (λ s. let e = sym is ∙ s in cc) plain)

  numbers_exist : (tokens : List Token) (literals : List (List ℕ)) → AreStrings text tokens literals → AreThere (filter has_name tokens) →
      AllByRecursion (Has kept) literals → (numbers : List ℕ) × AreNumbers text names kept tokens numbers
  numbers_exist [] [] strings.none named written = ([], texts.none)
  numbers_exist [] (bytes ∷ literals) nothing named written = elim nothing [ ]
  numbers_exist (token ∷ tokens) (bytes ∷ literals) (strings.string is means rest) named written =
      let split = there_by (has_name token) token (filter has_name tokens) named in
      let others = numbers_exist tokens literals rest split.0 written.1 in
      (written.0.0 ∷ others.0, texts.more (texts.string is means written.0.1) others.1)
  numbers_exist (token ∷ tokens) literals (strings.other plain rest) named written =
      let split = there_by (has_name token) token (filter has_name tokens) named in
      let others = numbers_exist tokens literals rest split.0 written in
      let own = number_of token token.kind refl plain split.1 in
      (own.0 ∷ others.0, texts.more own.1 others.1)

pub texts_exist : (text : List ℕ) (tokens : List Token) → HaveStrings text tokens → (t : Texts) × AreTexts text tokens t
texts_exist text tokens h =
    let literals = literals_exist text tokens h in
    let names = distinct (predefined ++ names_of text tokens) in
    let written = distinct literals.0 in
    let named = rest_of (Has names) predefined (names_of text tokens) (gains_all [] (predefined ++ names_of text tokens)) in
    let numbers = numbers_exist text names written tokens literals.0 literals.1 named (gains_all [] literals.0) in (
      record { names = names; strings = written; numbers = numbers.0 },
      record { literals = literals.0; are_literals = literals.1; names = refl; strings = refl; numbers = numbers.1 },
    )
