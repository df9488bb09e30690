-- Tokens have one table of texts.
use Rattle.std.proofs.Common.{◌≡◌, ℕ, zero, suc, List, [], ◌∷◌, ◌++◌, length, Option, Some, None, Bool, true, false, refl, sym, ap, subst, ◌∙◌}
use Rattle.std.specs.Prelude.{slice_get, slice_index_or, ◌↔◌, fold}
use Rattle.std.proofs.lemmas.List.Sums.{fold-append}
use Rattle.c_tokens.specs.declared.kind.Kind.{Kind}
use Rattle.c_tokens.specs.declared.kind.Kind.TheVariants as k
use Rattle.c_tokens.specs.declared.token.Token.{Token}
use Rattle.c_tokens.specs.Names.{Name, spelling, is_name}
use Rattle.c_lexer.specs.Escapes.{IsStringOf}
use Rattle.token_texts.specs.Names.{name_at, names_of, spelling_of}
use Rattle.token_texts.specs.Strings as literal
use Rattle.token_texts.specs.Strings.{AreStrings}
use Rattle.token_texts.specs.Texts.{Texts, with_one, distinct, IsNumber, name, string, other, AreNumbers, none, more, AreTextsFrom, number_at, name_of, string_of}
use Rattle.token_texts.proofs.Lists.{get_or-there}
use Rattle.token_texts.proofs.Distinct.{AreApart, distinct-apart, fold-keeps}

-- a string literal means one list of bytes
abbrev pub OneString : Type 0
OneString = (text : List ℕ) (start end : ℕ) (a b : List ℕ) → IsStringOf text start end a → IsStringOf text start end b → a ≡ b

one_strings : OneString → {text : List ℕ} {tokens : List Token} (a b : List (List ℕ)) → AreStrings text tokens a → AreStrings text tokens b → a ≡ b
one_strings law a b literal.none literal.none = refl
one_strings law {text} (s ∷ ss) (t ∷ ts) (literal.string {token} is p ps) (literal.string js q qs) =
    ap (λ first. first ∷ ss) (law text token.start token.end s t p q) ∙ ap (λ rest. t ∷ rest) (one_strings law ss ts ps qs)
one_strings law a b (literal.string is p ps) (literal.other apart qs) = absurd (apart is)
one_strings law a b (literal.other apart ps) (literal.string is q qs) = absurd (apart is)
one_strings law a b (literal.other apart ps) (literal.other away qs) = one_strings law a b ps qs

one_number : OneString → {text : List ℕ} {names strings : List (List ℕ)} {token : Token} → AreApart names → AreApart strings → (m n : ℕ) →
    IsNumber text names strings token m → IsNumber text names strings token n → m ≡ n
one_number law {text} {token = token} names strings m n (name is p) (name js q) = names.same m n (spelling text token) p q
one_number law names strings m n (name is p) (string js s q) = absurd cc
one_number law names strings m n (name is p) (other apart away) = absurd (apart is)
one_number law names strings m n (string is s p) (name js q) = absurd cc
one_number law {text} {strings = all} {token} names strings m n (string {bytes = a} is s p) (string {bytes = b} js r q) =
    strings.same m n a p (subst (λ bytes. slice_get all n ≡ Some bytes) (law text token.start token.end b a r s) q)
one_number law names strings m n (string is s p) (other apart away) = absurd (away is)
one_number law names strings m n (other apart away) (name js q) = absurd (apart js)
one_number law names strings m n (other apart away) (string js s q) = absurd (away js)
one_number law names strings m n (other apart away) (other apart2 away2) = refl

one_numbers : OneString → {text : List ℕ} {names strings : List (List ℕ)} {tokens : List Token} → AreApart names → AreApart strings → (a b : List ℕ) →
    AreNumbers text names strings tokens a → AreNumbers text names strings tokens b → a ≡ b
one_numbers law names strings a b none none = refl
one_numbers law {text = text} names strings (m ∷ ms) [] (more p ps) x = elim x [ ]
one_numbers law names strings (m ∷ ms) (n ∷ ns) (more p ps) (more q qs) =
    ap (λ first. first ∷ ms) (one_number law names strings m n p q) ∙ ap (λ rest. n ∷ rest) (one_numbers law names strings ms ns ps qs)

pub same_texts : (a b : Texts) → a.names ≡ b.names → a.strings ≡ b.strings → a.numbers ≡ b.numbers → a ≡ b
same_texts a b names strings numbers =
    let first : a ≡ record { names = b.names; strings = a.strings; numbers = a.numbers } = ap (λ l. record a { names = l }) names in
    let next : record { names = b.names; strings = a.strings; numbers = a.numbers } ≡ record { names = b.names; strings = b.strings; numbers = a.numbers } =
    ap (λ l. record a { names = b.names; strings = l }) strings in
    let last : record { names = b.names; strings = b.strings; numbers = a.numbers } ≡ b = ap (λ l. record b { numbers = l }) numbers in
    first ∙ next ∙ last

pub one_table : OneString → (given : List Name) (text : List ℕ) (tokens : List Token) (a b : Texts) → AreTextsFrom given text tokens a → AreTextsFrom given text tokens b → a ≡ b
one_table law given text tokens a b x y =
    let names : a.names ≡ b.names = x.names ∙ sym y.names in
    let strings : a.strings ≡ b.strings = x.strings ∙ ap distinct (one_strings law x.literals y.literals x.are_literals y.are_literals) ∙ sym y.strings in
    let numbered : AreNumbers text b.names b.strings tokens a.numbers =
    subst (λ l. AreNumbers text b.names l tokens a.numbers) strings (subst (λ l. AreNumbers text l a.strings tokens a.numbers) names x.numbers) in
    let apart = subst AreApart (sym y.names) (distinct-apart (given ++ names_of text tokens)) in
    let away = subst AreApart (sym y.strings) (distinct-apart y.literals) in
    let numbers : a.numbers ≡ b.numbers = one_numbers law apart away a.numbers b.numbers numbered y.numbers in
    same_texts a b names strings numbers

-- ---- what numbers tell

pub record HasNumber (text : List ℕ) (texts : Texts) (token : Token) (at : ℕ) : Type 0 where
  pub number : ℕ
  pub stands : slice_get texts.numbers at ≡ Some number
  pub is : IsNumber text texts.names texts.strings token number

there : {text : List ℕ} {names strings : List (List ℕ)} {tokens : List Token} {numbers : List ℕ} → AreNumbers text names strings tokens numbers →
    (at : ℕ) (token : Token) → slice_get tokens at ≡ Some token → HasNumber text (record { names = names; strings = strings; numbers = numbers }) token at
there none at token h = absurd cc
there {text} {names} {strings} (more {token = first} {n = n} p ps) zero token h =
    let same : first ≡ token = cc in
    record { number = n; stands = refl; is = subst (λ t. IsNumber text names strings t n) same p }
there (more p ps) (suc at) token h =
    let later = there ps at token h in
    record { number = later.number; stands = later.stands; is = later.is }

pub number_there : {given : List Name} {text : List ℕ} {tokens : List Token} (texts : Texts) → AreTextsFrom given text tokens texts → (at : ℕ) (token : Token) →
    slice_get tokens at ≡ Some token → HasNumber text texts token at
number_there texts x at token h = there x.numbers at token h

named : {text : List ℕ} (texts : Texts) {token : Token} {n : ℕ} → token.kind ≡ k.Name → IsNumber text texts.names texts.strings token n → slice_get texts.names n ≡ Some (spelling text token)
named texts is (name js p) = p
named texts is (string js s p) = absurd cc
named texts is (other apart away) = absurd (apart is)

pub record IsNamedThere (text : List ℕ) (tokens : List Token) (texts : Texts) (at : ℕ) : Type 0 where
  pub stands : slice_get texts.names (number_at texts at) ≡ Some (name_at text tokens at)
  pub is : name_of texts (number_at texts at) ≡ name_at text tokens at

pub name_there : {given : List Name} {text : List ℕ} {tokens : List Token} (texts : Texts) → AreTextsFrom given text tokens texts → (at : ℕ) (token : Token) →
    slice_get tokens at ≡ Some token → token.kind ≡ k.Name → IsNamedThere text tokens texts at
unfolding name_at
name_there {text = text} {tokens = tokens} texts x at token h is =
    let t = number_there texts x at token h in
    let n : number_at texts at ≡ t.number = get_or-there texts.numbers at t.number 0 t.stands in
    let spelled : spelling text token ≡ spelling_of text (slice_get tokens at) = ap (spelling_of text) (sym h) in
    let p : slice_get texts.names (number_at texts at) ≡ Some (spelling_of text (slice_get tokens at)) = rw (n, ← spelled) (named {text = text} texts is t.is) in
    record { stands = p; is = get_or-there texts.names (number_at texts at) (spelling_of text (slice_get tokens at)) [] p }

pub names_apart : {given : List Name} {text : List ℕ} {tokens : List Token} (texts : Texts) → AreTextsFrom given text tokens texts → AreApart texts.names
names_apart {given} {text} {tokens} texts x = subst AreApart (sym x.names) (distinct-apart (given ++ names_of text tokens))

-- equal numbers, equal names
pub equal_names : {given : List Name} {text : List ℕ} {tokens : List Token} (texts : Texts) → AreTextsFrom given text tokens texts → (i j : ℕ) →
    IsNamedThere text tokens texts i → IsNamedThere text tokens texts j → (number_at texts i ≡ number_at texts j) ↔ (name_at text tokens i ≡ name_at text tokens j)
equal_names {text = text} {tokens = tokens} texts x i j p q = (
  λ same. sym p.is ∙ ap (name_of texts) same ∙ q.is,
  λ same. (names_apart texts x).same (number_at texts i) (number_at texts j) (name_at text tokens j) (subst (λ n. slice_get texts.names (number_at texts i) ≡ Some n) same p.stands) q.stands,
)

literal_of : {text : List ℕ} (texts : Texts) {token : Token} {n : ℕ} → token.kind ≡ k.Str → IsNumber text texts.names texts.strings token n → IsStringOf text token.start token.end (string_of texts n)
literal_of texts is (name js p) = absurd cc
literal_of {text} texts {token} {n} is (string {bytes = bytes} js s p) =
    subst (λ found. IsStringOf text token.start token.end found) (sym (get_or-there texts.strings n bytes [] p)) s
literal_of texts is (other apart away) = absurd (away is)

pub string_there : {given : List Name} {text : List ℕ} {tokens : List Token} (texts : Texts) → AreTextsFrom given text tokens texts → (at : ℕ) (token : Token) →
    slice_get tokens at ≡ Some token → token.kind ≡ k.Str → IsStringOf text token.start token.end (string_of texts (number_at texts at))
string_there {text = text} texts x at token h is =
    let t = number_there texts x at token h in
    let n : number_at texts at ≡ t.number = get_or-there texts.numbers at t.number 0 t.stands in
    subst (λ m. IsStringOf text token.start token.end (string_of texts m)) (sym n) (literal_of {text = text} texts is t.is)

-- the names that are given come first
pub given_first : {given : List Name} {text : List ℕ} {tokens : List Token} (texts : Texts) → AreTextsFrom given text tokens texts → (n : ℕ) (one : Name) →
    slice_get (distinct given) n ≡ Some one → slice_get texts.names n ≡ Some one
given_first {given} {text} {tokens} texts x n one h =
    subst (λ l. slice_get l n ≡ Some one) (sym (x.names ∙ fold-append with_one [] given (names_of text tokens)))
    (fold-keeps (names_of text tokens) (distinct given) n one h)
