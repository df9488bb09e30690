-- The lexeme that is found at the front is the longest there.
use Rattle.std.proofs.Common.{◌≡◌, ℕ, zero, suc, ◌+◌, ◌<◌, ◌≤◌, Bool, true, false, ◌==◌, inl, inr, List, [], ◌∷◌, ◌++◌, length, take, Option, Some, None, refl, sym, ap, subst, ◌∙◌, arith, length-append, cond}
use Rattle.std.proofs.Math.Seq.{take-append_seam}
use Rattle.std.proofs.lemmas.List.{append_assoc, take_at}
use Rattle.std.proofs.lemmas.List.Sums.{prefix_len-le-length}
use Rattle.std.specs.Str.{bytes_eq}
use Rattle.std.specs.List.{prefix_len}
use Rattle.c_tokens.specs.declared.kind.Keyword.{Keyword}
use Rattle.c_tokens.specs.declared.kind.Kind.{Kind}
use Rattle.c_tokens.specs.declared.kind.Kind.TheVariants.{Name, Word}
use Rattle.c_tokens.specs.Words.{keywords, Among}
use Rattle.c_lexer.specs.declared.lexeme.Lexeme.{Lexeme}
use Rattle.c_lexer.specs.declared.lexeme.Lexeme.TheVariants.{Sound, Gap, Faulty}
use Rattle.c_lexer.specs.declared.lexeme.Fault.TheVariants.{OpenString}
use Rattle.c_lexer.specs.Bytes.{Text, Each, first_passes, is_letter, is_digit, is_word, is_blank, is_line_end, is_quote}
use Rattle.c_lexer.specs.Escapes.{Inside, Means, string, bad_string, character, bad_character}
use Rattle.c_lexer.specs.Words.{Spells, keyword, name, quoted, open_quote, no_line_end}
use Rattle.c_lexer.specs.Scan.{entry_of, kind_of, word_at, number_at, closing_quote, meaning, quotation_to, quotation_at, comment_len, comment_to, sign_at, front_at, Piece}
use Rattle.c_lexer.proofs.TableLemmas.{one_entry, bytes_same, bytes_self}
use Rattle.c_lexer.proofs.Classes.{run_each, run_longest, run_some, is_sign, sign_apart, quote_is, blank_apart, front_first, no_letter}
use Rattle.c_lexer.proofs.Units.{inside_ends, closed, means_complete, means_string, means_character}
use Rattle.c_lexer.proofs.Numerals.{IsPiece}

-- what is found at the front is at least as long, and the same if it is no longer
pub record Covers (s : Text) (len : ℕ) (lexeme : Lexeme) : Type 0 where
  pub other : Piece
  pub found : front_at s ≡ Some other
  pub high : len ≤ other.1
  pub same : len ≡ other.1 → other.0 ≡ lexeme

-- ---- which branch is taken

pub front_letter : (s : Text) → first_passes is_letter s ≡ true → front_at s ≡ Some (word_at s)
unfolding front_at
front_letter [] h = absurd cc
front_letter (b ∷ s) h = rw h refl

pub front_digit : (s : Text) → first_passes is_digit s ≡ true → front_at s ≡ Some (number_at s)
unfolding front_at
front_digit [] h = absurd cc
front_digit (b ∷ s) h = rw (no_letter b h, h) refl

pub front_blank : (b : ℕ) (s : Text) → is_blank b ≡ true → front_at (b ∷ s) ≡ Some (Gap, 1)
unfolding front_at
front_blank b s h = let a = blank_apart b h in let l = a.letter in let d = a.digit in let q = a.quote in rw (l, d, q, h) refl

pub front_sign : (s : Text) → first_passes is_sign s ≡ true → front_at s ≡ sign_at s
unfolding front_at
front_sign [] h = absurd cc
front_sign (b ∷ s) h = let a = sign_apart b h in let l = a.letter in let d = a.digit in let q = a.quote in let w = a.blank in rw (l, d, q, w) refl

pub front_quote : (quote : ℕ) (s : Text) → is_quote quote ≡ true → front_at (quote ∷ s) ≡ Some (quotation_at quote s)
unfolding front_at
front_quote quote s h = elim (quote_is quote h) [
  | inl double ↦ rw double refl
  | inr single ↦ rw single refl
]

pub front_comment : (s : Text) → front_at (47 ∷ 42 ∷ s) ≡ Some (comment_to (comment_len false s))
unfolding front_at sign_at
front_comment s = refl

pub front_line : (s : Text) → front_at (47 ∷ 47 ∷ s) ≡ Some (Gap, prefix_len no_line_end s + 2)
unfolding front_at sign_at
front_line s = refl

-- ---- words

-- what is looked up is in the table, or nothing there is spelled so
abbrev pub Found : {K : Type 0} → List (K × Text) → Text → Option K → Type 0
Found table word (Some entry) = Among table entry word
Found {K} table word None = (entry : K) → Among table entry word → ⊥

entry_found : {K : Type 0} (table : List (K × Text)) (word : Text) → Found table word (entry_of table word)
entry_found [] word = λ entry m. m
entry_found {K} (e ∷ table) word = at_test (bytes_eq word e.1) refl (entry_of table word) (entry_found table word)
  where
    at_test : (b : Bool) → bytes_eq word e.1 ≡ b → (later : Option K) → Found table word later → Found (e ∷ table) word (cond b (Some e.0) later)
    at_test true is later h = inl (refl, sym (bytes_same word e.1 is))
    at_test false is (Some entry) h = inr h
    at_test false is None h = λ entry m. elim m [
      | inl same ↦ (let yes_same = bytes_self word in let now : bytes_eq word word ≡ false = subst (λ w. bytes_eq word w ≡ false) same.1 is in cc)
      | inr also ↦ h entry also
    ]

pub keyword_kind : (word : Text) (entry : Keyword) → Among keywords entry word → kind_of (entry_of keywords word) ≡ Word entry
keyword_kind word entry m = at_found (entry_of keywords word) (entry_found keywords word)
  where
    at_found : (found : Option Keyword) → Found keywords word found → kind_of found ≡ Word entry
    at_found (Some other) h = ap Word (one_entry keywords word other entry refl h m)
    at_found None h = absurd (h entry m)

pub name_kind : (word : Text) → ((entry : Keyword) → Among keywords entry word → ⊥) → kind_of (entry_of keywords word) ≡ Name
name_kind word none = at_found (entry_of keywords word) (entry_found keywords word)
  where
    at_found : (found : Option Keyword) → Found keywords word found → kind_of found ≡ Name
    at_found (Some other) h = absurd (none other h)
    at_found None h = refl

pub word_covers : (word after : Text) (kind : Kind) → first_passes is_letter word ≡ true → Each is_word word → kind_of (entry_of keywords word) ≡ kind →
    Covers (word ++ after) (length word) (Sound kind)
unfolding word_at
word_covers word after kind f each is = record {
  other = word_at (word ++ after);
  found = front_letter (word ++ after) (front_first is_letter word after f);
  high = run_longest is_word word after each;
  same = λ same. ap (λ w. Sound (kind_of (entry_of keywords w))) (take_at word after (prefix_len is_word (word ++ after)) same) ∙ ap Sound is;
}

word_spells : (word : Text) → first_passes is_letter word ≡ true → Each is_word word → Spells word (Sound (kind_of (entry_of keywords word)))
word_spells [] f each = absurd cc
word_spells (b ∷ s) f each = at_found (entry_of keywords (b ∷ s)) (entry_found keywords (b ∷ s))
  where
    at_found : (found : Option Keyword) → Found keywords (b ∷ s) found → Spells (b ∷ s) (Sound (kind_of found))
    at_found (Some entry) h = keyword h
    at_found None h = name f each.1 h

take_first : (p : ℕ → Bool) (s : Text) (n : ℕ) → 0 < n → first_passes p s ≡ true → first_passes p (take n s) ≡ true
take_first p s zero some h = absurd (omega arith)
take_first p [] (suc n) some h = absurd cc
take_first p (b ∷ s) (suc n) some h = h

word_of_letter : (s : Text) → first_passes is_letter s ≡ true → first_passes is_word s ≡ true
word_of_letter [] h = absurd cc
word_of_letter (b ∷ s) h = rw h refl

pub word_is : (s : Text) → first_passes is_letter s ≡ true → IsPiece s (word_at s)
unfolding word_at
word_is s l =
    let some : 0 < prefix_len is_word s = run_some is_word s (word_of_letter s l) in
    record {
      within = prefix_len-le-length is_word s;
      some = some;
      spells = word_spells (take (prefix_len is_word s) s) (take_first is_letter s (prefix_len is_word s) some l) (run_each is_word s);
    }

-- ---- strings and character constants

quote_of : {quote : ℕ} {body : Text} {lexeme : Lexeme} → Means quote body lexeme → is_quote quote ≡ true
quote_of (string d) = refl
quote_of (bad_string none) = refl
quote_of (character d) = refl
quote_of (bad_character none) = refl

record IsQuote (quote : ℕ) : Type 0 where
  pub no_backslash : (92 == quote) ≡ false
  pub no_line : is_line_end quote ≡ false

quote_apart : (quote : ℕ) → is_quote quote ≡ true → IsQuote quote
quote_apart quote h = elim (quote_is quote h) [
  | inl double ↦ rw double (record { no_backslash = refl; no_line = refl })
  | inr single ↦ rw single (record { no_backslash = refl; no_line = refl })
]

pub quoted_covers : (quote : ℕ) (body after : Text) (lexeme : Lexeme) → Inside quote body → Means quote body lexeme →
    Covers ((quote ∷ body ++ quote ∷ []) ++ after) (length (quote ∷ body ++ quote ∷ [])) lexeme
unfolding quotation_at
quoted_covers quote body after lexeme i m =
    let q = quote_apart quote (quote_of m) in
    let s : Text = (body ++ quote ∷ []) ++ after in
    let text : (body ++ quote ∷ []) ++ after ≡ body ++ quote ∷ after = append_assoc body (quote ∷ []) after in
    let ends : closing_quote quote false ((body ++ quote ∷ []) ++ after) ≡ Some (length body) = ap (closing_quote quote false) text ∙ inside_ends quote body after q.no_backslash q.no_line i in
    let front : take (length body) ((body ++ quote ∷ []) ++ after) ≡ body = ap (take (length body)) text ∙ take-append_seam body (quote ∷ after) in
    let len : length (quote ∷ body ++ quote ∷ []) ≡ length body + 2 = omega (arith, length-append (quote ∷ body) (quote ∷ [])) in
    record {
      other = (meaning quote (take (length body) ((body ++ quote ∷ []) ++ after)), length body + 2);
      found = front_quote quote ((body ++ quote ∷ []) ++ after) (quote_of m) ∙ ap (λ o. Some (quotation_to quote ((body ++ quote ∷ []) ++ after) o)) ends;
      high = omega arith;
      same = λ same. ap (meaning quote) front ∙ means_complete m;
    }

pub open_covers : (quote : ℕ) (after : Text) → is_quote quote ≡ true → Covers (quote ∷ after) 1 (Faulty OpenString)
unfolding quotation_at
open_covers quote after q = at_end (closing_quote quote false after) refl
  where
    at_end : (found : Option ℕ) → closing_quote quote false after ≡ found → Covers (quote ∷ after) 1 (Faulty OpenString)
    at_end (Some n) is = record {
      other = (meaning quote (take n after), n + 2);
      found = front_quote quote after q ∙ ap (λ o. Some (quotation_to quote after o)) is;
      high = omega arith;
      same = λ same. absurd (omega arith);
    }
    at_end None is = record {
      other = (Faulty OpenString, 1);
      found = front_quote quote after q ∙ ap (λ o. Some (quotation_to quote after o)) is;
      high = omega arith;
      same = λ same. refl;
    }

pub quoted_is : (quote : ℕ) (s : Text) → is_quote quote ≡ true → IsPiece (quote ∷ s) (quotation_at quote s)
unfolding quotation_at
quoted_is quote s q = at_end (closing_quote quote false s) refl
  where
    means : (body : Text) → Means quote body (meaning quote body)
    means body = elim (quote_is quote q) [
      | inl double ↦ rw double (means_string body)
      | inr single ↦ rw single (means_character body)
    ]

    at_end : (found : Option ℕ) → closing_quote quote false s ≡ found → IsPiece (quote ∷ s) (quotation_to quote s found)
    at_end (Some n) is =
        let c = closed quote false s n is in
        let e : suc (suc n) ≡ n + 2 = omega arith in
        let low = c.within in
        subst (λ k. IsPiece (quote ∷ s) (meaning quote (take n s), k)) e (record {
          within = omega arith;
          some = omega arith;
          spells = subst (λ w. Spells (quote ∷ w) (meaning quote (take n s))) (sym c.front) (quoted c.inside (means (take n s)));
        })
    at_end None is = record { within = omega arith; some = omega arith; spells = open_quote q }
