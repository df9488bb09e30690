-- What a name token is spelled with.
use Rattle.std.proofs.Common.{◌≡◌, ℕ, ◌-◌, ◌≤◌, Bool, true, false, ◌&&◌, ◌==◌, inl, inr, List, [], ◌∷◌, length, take, drop, filter, refl, sym, ap, subst, ◌∙◌, arith, Option, Some, None}
use Rattle.std.proofs.lemmas.Bool.{cases_Bool}
use Rattle.std.proofs.lemmas.Bool.Decides.{nat_tests}
use Rattle.std.proofs.lemmas.List.{length-take-le, length-drop}
use Rattle.std.specs.Prelude.{Contains}
use Rattle.c_tokens.specs.declared.kind.Kind.TheVariants.{Name}
use Rattle.c_tokens.specs.declared.kind.NumType.{NumType}
use Rattle.c_tokens.specs.declared.token.Token.{Token}
use Rattle.c_tokens.specs.Names.{joins_no_lines, written, spelling}
use Rattle.c_lexer.specs.declared.lexeme.Lexeme.{Lexeme}
use Rattle.c_lexer.specs.declared.lexeme.Lexeme.TheVariants.{Sound}
use Rattle.c_lexer.specs.Bytes.{Text, Each, is_word, is_letter, is_line_end}
use Rattle.c_lexer.specs.Joined.{joins, joined_bytes, joined_origins}
use Rattle.c_lexer.specs.Numbers.{typed_number, first_type, types_for}
use Rattle.c_lexer.specs.Escapes.{Means, string, bad_string, character, bad_character}
use Rattle.c_lexer.specs.Words.{Spells, keyword, mark, name, number, quoted, open_quote, blank, comment, open_comment, line_comment}
use Rattle.c_lexer.specs.Lexes.{IsFirst, origin_at, token_at, Tokens, IsNameOf}
use Rattle.c_lexer.proofs.Slices.{kept, part_is, bytes_kept, kept_dropped, kept_one, kept_nil}
use Rattle.c_lexer.proofs.StringTokens.{tokens_spelled}

-- ---- a word that is a name

no_number : (value : ℕ) (type : Option NumType) → typed_number value type ≡ Sound Name → ⊥
no_number value (Some t) h = cc
no_number value None h = cc

no_quotation : {quote : ℕ} {body : Text} {lexeme : Lexeme} → Means quote body lexeme → lexeme ≡ Sound Name → ⊥
no_quotation (string d) h = cc
no_quotation (bad_string none) h = cc
no_quotation (character d) h = cc
no_quotation (bad_character none) h = cc

letter_is_word : (b : ℕ) → is_letter b ≡ true → is_word b ≡ true
letter_is_word b h = rw h refl

name_word : {word : Text} {lexeme : Lexeme} → Spells word lexeme → lexeme ≡ Sound Name → Each is_word word
name_word (keyword m) h = absurd cc
name_word (mark m) h = absurd cc
name_word (name {b = b} f each none) h = (letter_is_word b f, each)
name_word (number {radix = radix} {value = value} suffix ending n m) h = absurd (no_number value (first_type value (types_for radix suffix)) h)
name_word (quoted i means) h = absurd (no_quotation means h)
name_word (open_quote q) h = absurd cc
name_word (blank b) h = absurd cc
name_word (comment body e) h = absurd cc
name_word open_comment h = absurd cc
name_word (line_comment each) h = absurd cc

-- ---- the bytes that join no lines

word_joins_none : (b : ℕ) → is_word b ≡ true → joins_no_lines b ≡ true
word_joins_none b h = grind (arith, nat_tests)

all_stay : (word : Text) → Each is_word word → filter joins_no_lines word ≡ word
all_stay [] each = refl
all_stay (b ∷ s) each = rw (word_joins_none b each.0) (ap (λ t. b ∷ t) (all_stay s each.1))

dropped : (before b : ℕ) (s : Text) → joins before b s ≡ true → joins_no_lines b ≡ false
dropped before b s h = at_tests (b == 92) (is_line_end b) refl refl
  where
    at_tests : (x y : Bool) → (b == 92) ≡ x → is_line_end b ≡ y → joins_no_lines b ≡ false
    at_tests true y p q = rw p refl
    at_tests false true p q = rw (p, q) refl
    at_tests false false p q = absurd (let no : joins before b s ≡ false = rw (p, q) (no_and (before == 92)) in cc)
      where
        no_and : (t : Bool) → (t && false) ≡ false
        no_and true = refl
        no_and false = refl

filter-kept : (before : ℕ) (s : Text) → filter joins_no_lines (kept before s) ≡ filter joins_no_lines s
filter-kept before [] = ap (filter joins_no_lines) (kept_nil before)
filter-kept before (b ∷ s) = elim (cases_Bool (joins before b s)) [
  | inl joined ↦ ap (filter joins_no_lines) (kept_dropped before b s joined) ∙ filter-kept b s ∙ sym (rw (dropped before b s joined) refl)
  | inr stays ↦ ap (filter joins_no_lines) (kept_one before b s stays) ∙ at_byte (joins_no_lines b) refl (filter-kept b s)
]
  where
    at_byte : (t : Bool) → joins_no_lines b ≡ t → filter joins_no_lines (kept b s) ≡ filter joins_no_lines s → filter joins_no_lines (b ∷ kept b s) ≡ filter joins_no_lines (b ∷ s)
    at_byte true is more = rw is (ap (λ t. b ∷ t) more)
    at_byte false is more = rw is more

-- where what is left is a word, it is all that joins no lines
filter-word : (s word : Text) → joined_bytes s ≡ word → Each is_word word → filter joins_no_lines s ≡ word
filter-word s word is each =
    sym (filter-kept 0 s) ∙ ap (filter joins_no_lines) (sym (bytes_kept s) ∙ is) ∙ all_stay word each

-- ---- the names of a text

pub name_of : (text : Text) (ts : List Token) (t : Token) → Tokens text ts → Contains ts t → t.kind ≡ Name → IsNameOf text t
unfolding spelling written
name_of text ts t d m is =
    let i = tokens_spelled d (joined_bytes text) refl m.0 t m.1 m.2 in
    let kind : i.kind ≡ Name = sym (ap (λ (t : Token). t.kind) i.is) ∙ is in
    let word : Text = take i.len (drop i.at (joined_bytes text)) in
    let each : Each is_word (take i.len (drop i.at (joined_bytes text))) = name_word i.longest.spells (ap Sound kind) in
    let p = part_is text i.at i.len i.some i.within in
    let start = ap (λ (t : Token). t.start) i.is in
    let ends = ap (λ (t : Token). t.end) i.is in
    let part : joined_bytes (take (t.end - t.start) (drop t.start text)) ≡ take i.len (drop i.at (joined_bytes text)) =
    ap (λ from. joined_bytes (take (t.end - from) (drop from text))) start
    ∙ ap (λ to. joined_bytes (take (to - (origin_at (joined_origins text) i.at).offset) (drop (origin_at (joined_origins text) i.at).offset text))) ends
    ∙ p.2 in
    let same : spelling text t ≡ take i.len (drop i.at (joined_bytes text)) = filter-word (take (t.end - t.start) (drop t.start text)) (take i.len (drop i.at (joined_bytes text))) part each in
    let within = i.within in
    let fits : i.len ≤ length (drop i.at (joined_bytes text)) = omega (arith, length-drop i.at (joined_bytes text)) in
    let len : length (spelling text t) ≡ i.len = ap length same ∙ length-take-le i.len (drop i.at (joined_bytes text)) fits in
    let first : t.first ≡ i.first = ap (λ (t : Token). t.first) i.is in
    let own : IsFirst (drop i.at (joined_bytes text)) (take i.len (drop i.at (joined_bytes text))) i.rest (Sound Name) =
    subst (λ k. IsFirst (drop i.at (joined_bytes text)) (take i.len (drop i.at (joined_bytes text))) i.rest (Sound k)) kind i.longest in
    record {
      at = i.at;
      rest = i.rest;
      first = subst (λ w. IsFirst (drop i.at (joined_bytes text)) w i.rest (Sound Name)) (sym same) own;
      token = i.is ∙ ap (λ k. token_at (joined_origins text) k i.at i.len i.first) kind ∙ ap (λ n. token_at (joined_origins text) Name i.at n i.first) (sym len)
          ∙ ap (λ f. token_at (joined_origins text) Name i.at (length (spelling text t)) f) (sym first);
    }
