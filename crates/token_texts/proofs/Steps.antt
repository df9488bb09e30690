-- One more token.
use Rattle.std.proofs.Common.{◌≡◌, ◌≢◌, ℕ, zero, suc, ◌+◌, ◌<◌, List, [], ◌∷◌, ◌++◌, length, take, Option, Some, None, Bool, true, false, cond, refl, sym, ap, subst, ◌∙◌, append_assoc, append-nil, add-one, arith}
use Rattle.std.specs.Prelude.{slice_get, map, filter, fold, if◌then◌else◌}
use Rattle.std.proofs.lemmas.List.Sums.{fold-append}
use Rattle.std.proofs.lemmas.List.Elements.{filter-append}
use Rattle.std.proofs.lemmas.List.{map-append}
use Rattle.std.proofs.lemmas.Bool.{cond-true, cond-false}
use Rattle.c_tokens.specs.declared.kind.Kind.{Kind}
use Rattle.c_tokens.specs.declared.kind.Kind.TheVariants as k
use Rattle.c_tokens.specs.declared.token.Token.{Token}
use Rattle.c_tokens.specs.Names.{Name, spelling, is_name}
use Rattle.c_lexer.specs.Escapes.{IsStringOf}
use Rattle.token_texts.specs.Names.{names_of, has_name}
use Rattle.token_texts.specs.Strings as literal
use Rattle.token_texts.specs.Strings.{AreStrings}
use Rattle.token_texts.specs.Texts.{Texts, with_one, distinct, IsNumber, name, string, other, AreNumbers, none, more, AreTextsFrom}
use Rattle.token_texts.specs.Gains as gain
use Rattle.token_texts.specs.Gains.{Gains, GainsString, IsKnown}
use Rattle.token_texts.proofs.Lists.{get-take, get-low, take-one_more}
use Rattle.token_texts.proofs.Distinct.{with_one-there, with_one-keeps}
use Rattle.token_texts.proofs.Tables.{same_texts, HasNumber, number_there}

-- ---- numbers stay as the lists grow

-- what stands in the one list stands in the other
abbrev pub Keeps : List (List ℕ) → List (List ℕ) → Type 0
Keeps old new = (n : ℕ) (one : List ℕ) → slice_get old n ≡ Some one → slice_get new n ≡ Some one

number-kept : {text : List ℕ} {names strings names' strings' : List (List ℕ)} {token : Token} {n : ℕ} → Keeps names names' → Keeps strings strings' →
    IsNumber text names strings token n → IsNumber text names' strings' token n
number-kept {text} {token = token} {n} names strings (name is p) = name is (names n (spelling text token) p)
number-kept {n = n} names strings (string {bytes = bytes} is s p) = string is s (strings n bytes p)
number-kept names strings (other apart away) = other apart away

one_more : {text : List ℕ} {names strings names' strings' : List (List ℕ)} {tokens : List Token} {numbers : List ℕ} {token : Token} {n : ℕ} → Keeps names names' → Keeps strings strings' →
    AreNumbers text names strings tokens numbers → IsNumber text names' strings' token n → AreNumbers text names' strings' (tokens ++ token ∷ []) (numbers ++ n ∷ [])
one_more names strings none p = more p none
one_more names strings (more q qs) p = more (number-kept names strings q) (one_more names strings qs p)

-- ---- the names and the strings with one more token

names-more : (text : List ℕ) (tokens : List Token) (token : Token) → names_of text (tokens ++ token ∷ []) ≡ names_of text tokens ++ names_of text (token ∷ [])
names-more text tokens token =
    ap (map (spelling text)) (filter-append has_name tokens (token ∷ [])) ∙ map-append (spelling text) (filter has_name tokens) (filter has_name (token ∷ []))

strings-more : {text : List ℕ} {tokens : List Token} {literals : List (List ℕ)} (token : Token) {bytes : List ℕ} → AreStrings text tokens literals → token.kind ≡ k.Str →
    IsStringOf text token.start token.end bytes → AreStrings text (tokens ++ token ∷ []) (literals ++ bytes ∷ [])
strings-more token literal.none is s = literal.string is s literal.none
strings-more token (literal.string js r rest) is s = literal.string js r (strings-more token rest is s)
strings-more token (literal.other apart rest) is s = literal.other apart (strings-more token rest is s)

strings-same : {text : List ℕ} {tokens : List Token} {literals : List (List ℕ)} (token : Token) → AreStrings text tokens literals → token.kind ≢ k.Str →
    AreStrings text (tokens ++ token ∷ []) literals
strings-same token literal.none away = literal.other away literal.none
strings-same token (literal.string js r rest) away = literal.string js r (strings-same token rest away)
strings-same token (literal.other apart rest) away = literal.other apart (strings-same token rest away)

-- the distinct ones with those of one more token
gained : (b : Bool) (list : List (List ℕ)) (one : List ℕ) → fold with_one list (cond b (one ∷ []) []) ≡ (if b then with_one list one else list)
gained true list one = refl
gained false list one = refl

mapped : (f : Token → List ℕ) (b : Bool) (token : Token) → map f (cond b (token ∷ []) []) ≡ cond b (f token ∷ []) []
mapped f true token = refl
mapped f false token = refl

names-gained : (text : List ℕ) (token : Token) → names_of text (token ∷ []) ≡ cond (has_name token) (spelling text token ∷ []) []
names-gained text token = mapped (spelling text) (has_name token) token

keeps_names : (b : Bool) (list : List (List ℕ)) (one : List ℕ) → Keeps list (if b then with_one list one else list)
keeps_names true list one = with_one-keeps list one
keeps_names false list one = λ n one h. h

keeps_strings : {text : List ℕ} {token : Token} {old new : List (List ℕ)} → GainsString text token old new → Keeps old new
keeps_strings {old = old} (gain.string {bytes = bytes} is s) = with_one-keeps old bytes
keeps_strings (gain.other away) = λ n one h. h

pub record StringsSoFar (text : List ℕ) (tokens : List Token) (strings : List (List ℕ)) : Type 0 where
  pub literals : List (List ℕ)
  pub are : AreStrings text tokens literals
  pub is : strings ≡ distinct literals

strings_then : {text : List ℕ} {tokens : List Token} {token : Token} {old new : List (List ℕ)} (literals : List (List ℕ)) → AreStrings text tokens literals → old ≡ distinct literals →
    GainsString text token old new → StringsSoFar text (tokens ++ token ∷ []) new
strings_then {token = token} {old = old} literals are is (gain.string {bytes = bytes} js s) = record {
  literals = literals ++ bytes ∷ [];
  are = strings-more token are js s;
  is = ap (λ l. with_one l bytes) is ∙ sym (fold-append with_one [] literals (bytes ∷ []));
}
strings_then {token = token} literals are is (gain.other away) = record { literals = literals; are = strings-same token are away; is = is }

pub one_token_more : (given : List Name) (text : List ℕ) (tokens : List Token) (token : Token) (old : Texts) (names strings : List (List ℕ)) (n : ℕ) → AreTextsFrom given text tokens old →
    Gains text token old.names old.strings names strings n → AreTextsFrom given text (tokens ++ token ∷ []) (record { names = names; strings = strings; numbers = old.numbers ++ n ∷ [] })
one_token_more given text tokens token old names strings n x g =
    let s = strings_then x.literals x.are_literals x.strings g.gains_string in
    let kept = subst (Keeps old.names) (sym g.gains_name) (keeps_names (has_name token) old.names (spelling text token)) in
    let all : given ++ names_of text (tokens ++ token ∷ []) ≡ (given ++ names_of text tokens) ++ names_of text (token ∷ []) =
    ap (λ l. given ++ l) (names-more text tokens token) ∙ sym (append_assoc given (names_of text tokens) (names_of text (token ∷ []))) in
    let named : names ≡ distinct (given ++ names_of text (tokens ++ token ∷ [])) =
    g.gains_name ∙ sym (gained (has_name token) old.names (spelling text token)) ∙ ap (fold with_one old.names) (sym (names-gained text token))
    ∙ ap (λ l. fold with_one l (names_of text (token ∷ []))) x.names ∙ sym (fold-append with_one [] (given ++ names_of text tokens) (names_of text (token ∷ []))) ∙ ap distinct (sym all) in
    record {
      literals = s.literals;
      are_literals = s.are;
      names = named;
      strings = s.is;
      numbers = one_more kept (keeps_strings g.gains_string) x.numbers g.has;
    }

pub next_texts : (given : List Name) (text : List ℕ) (tokens : List Token) (at : ℕ) (token : Token) (old now : Texts) (names strings : List (List ℕ)) (n : ℕ) → at ≡ length old.numbers →
    slice_get tokens at ≡ Some token → AreTextsFrom given text (take (length old.numbers) tokens) old → Gains text token old.names old.strings names strings n →
    now.names ≡ names → now.strings ≡ strings → now.numbers ≡ old.numbers ++ n ∷ [] → AreTextsFrom given text (take (length old.numbers + 1) tokens) now
next_texts given text tokens at token old now names strings n here stands before g x y z =
    let all : take (length old.numbers + 1) tokens ≡ take (length old.numbers) tokens ++ token ∷ [] =
    rw (add-one, ← here) (take-one_more tokens at token stands) in
    let same : now ≡ record { names = names; strings = strings; numbers = old.numbers ++ n ∷ [] } = same_texts now _ x y z in
    subst (AreTextsFrom given text (take (length old.numbers + 1) tokens)) (sym same)
    (subst (λ l. AreTextsFrom given text l (record { names = names; strings = strings; numbers = old.numbers ++ n ∷ [] })) (sym all)
    (one_token_more given text (take (length old.numbers) tokens) token old names strings n before g))

pub no_tokens : (given : List Name) (text : List ℕ) (texts : Texts) → texts.names ≡ distinct given → texts.strings ≡ [] → texts.numbers ≡ [] → AreTextsFrom given text [] texts
no_tokens given text texts names strings numbers = record {
  literals = [];
  are_literals = literal.none;
  names = names ∙ ap distinct (sym (append-nil given));
  strings = strings;
  numbers = subst (AreNumbers text texts.names texts.strings []) (sym numbers) none;
}

-- ---- a token whose number is known

same_number : {text : List ℕ} {names strings : List (List ℕ)} {token other_ : Token} {n : ℕ} → IsNumber text names strings token n → token.kind ≡ other_.kind → token.start ≡ other_.start →
    token.end ≡ other_.end → spelling text token ≡ spelling text other_ → IsNumber text names strings other_ n
same_number {names = names} {n = n} (name is p) kind start ends spelled = name (sym kind ∙ is) (subst (λ s. slice_get names n ≡ Some s) spelled p)
same_number {text} {strings = strings} {token} {other_} {n} (string {bytes = bytes} is s p) kind start ends spelled =
    string (sym kind ∙ is) (subst (λ e. IsStringOf text other_.start e bytes) ends (subst (λ b. IsStringOf text b token.end bytes) start s)) p
same_number (other apart away) kind start ends spelled = other (λ h. apart (kind ∙ h)) (λ h. away (kind ∙ h))

same_spelling : (text : List ℕ) (a b : Token) → a.start ≡ b.start → a.end ≡ b.end → spelling text a ≡ spelling text b
unfolding spelling
same_spelling text a b start ends = rw (start, ends) refl

no_name : (kind : Kind) → kind ≢ k.Name → is_name kind ≡ false
no_name k.Name h = absurd (h refl)
no_name (k.Word w) h = refl
no_name (k.Number n t) h = refl
no_name (k.Char c) h = refl
no_name k.Str h = refl
no_name (k.Mark m) h = refl

-- a number that is known gains nothing
no_names : {text : List ℕ} {token : Token} {names strings : List (List ℕ)} {n : ℕ} → IsNumber text names strings token n → names ≡ (if has_name token then with_one names (spelling text token) else names)
no_names {text} {token} {names} {n = n} (name is p) =
    sym (with_one-there names n (spelling text token) p) ∙ sym (cond-true (has_name token) (with_one names (spelling text token)) names (ap is_name is))
no_names {text} {token} {names} (string is s p) = sym (cond-false (has_name token) (with_one names (spelling text token)) names (ap is_name is))
no_names {text} {token} {names} (other apart away) = sym (cond-false (has_name token) (with_one names (spelling text token)) names (no_name token.kind apart))

no_strings : {text : List ℕ} {token : Token} {names strings : List (List ℕ)} {n : ℕ} → IsNumber text names strings token n → GainsString text token strings strings
no_strings (name is p) = gain.other (λ h. absurd cc)
no_strings {text} {token} {strings = strings} {n} (string {bytes = bytes} is s p) = subst (λ l. GainsString text token strings l) (with_one-there strings n bytes p) (gain.string is s)
no_strings (other apart away) = gain.other away

pub known_gains : (given : List Name) (text : List ℕ) (tokens : List Token) (at : ℕ) (token : Token) (texts : Texts) (n : ℕ) → at ≡ length texts.numbers →
    AreTextsFrom given text (take at tokens) texts → IsKnown tokens texts.numbers token n → Gains text token texts.names texts.strings texts.names texts.strings n
known_gains given text tokens at token texts n is x known =
    let low = get-low texts.numbers known.at n known.has in
    let stands = get-take tokens at known.at known.other (omega arith) known.stands in
    let t = number_there texts x known.at known.other stands in
    let same : t.number ≡ n = (let both : Some t.number ≡ Some n = sym t.stands ∙ known.has in cc) in
    let earlier : IsNumber text texts.names texts.strings known.other n = subst (λ m. IsNumber text texts.names texts.strings known.other m) same t.is in
    let number = same_number earlier known.same.kind known.same.start known.same.end (same_spelling text known.other token known.same.start known.same.end) in
    record { gains_name = no_names number; gains_string = no_strings number; has = number }

-- ---- a token whose number is new

pub gains_of_name : (text : List ℕ) (token : Token) (old new strings : List (List ℕ)) (n : ℕ) → token.kind ≡ k.Name → new ≡ with_one old (spelling text token) →
    slice_get new n ≡ Some (spelling text token) → Gains text token old strings new strings n
gains_of_name text token old new strings n is grown there = record {
  gains_name = grown ∙ sym (cond-true (has_name token) (with_one old (spelling text token)) old (ap is_name is));
  gains_string = gain.other (λ h. absurd cc);
  has = name is there;
}

pub gains_of_string : (text : List ℕ) (token : Token) (names old new : List (List ℕ)) (n : ℕ) (bytes : List ℕ) → token.kind ≡ k.Str → IsStringOf text token.start token.end bytes →
    new ≡ with_one old bytes → slice_get new n ≡ Some bytes → Gains text token names old names new n
gains_of_string text token names old new n bytes is means grown there = record {
  gains_name = sym (cond-false (has_name token) (with_one names (spelling text token)) names (ap is_name is));
  gains_string = subst (GainsString text token old) (sym grown) (gain.string is means);
  has = string is means there;
}

pub gains_of_other : (text : List ℕ) (token : Token) (names strings : List (List ℕ)) → token.kind ≢ k.Name → token.kind ≢ k.Str → Gains text token names strings names strings 0
gains_of_other text token names strings apart away =
    let number : IsNumber text names strings token 0 = other apart away in
    record { gains_name = no_names number; gains_string = no_strings number; has = number }
