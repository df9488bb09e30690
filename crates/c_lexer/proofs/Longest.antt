-- What is found at the front is the longest lexeme there, and all that can be found.
use Rattle.std.proofs.Common.{◌≡◌, ℕ, ◌+◌, ◌<◌, ◌≤◌, Bool, true, false, inl, inr, [], ◌∷◌, ◌++◌, length, take, drop, Option, Some, None, refl, sym, ap, subst, ◌∙◌, arith, length-append, cond, codes}
use Rattle.std.proofs.lemmas.List.{take-append-drop, length-take-le, take_at}
use Rattle.std.specs.List.{prefix_len}
use Rattle.std.specs.Option.{option_map}
use Rattle.c_tokens.specs.declared.kind.Mark.{Mark}
use Rattle.c_tokens.specs.declared.kind.Mark.TheVariants.{Slash}
use Rattle.c_tokens.specs.declared.kind.Kind.TheVariants.{Mark as Punctuator}
use Rattle.c_tokens.specs.Words.{marks, Among}
use Rattle.c_lexer.specs.declared.lexeme.Lexeme.{Lexeme}
use Rattle.c_lexer.specs.declared.lexeme.Lexeme.TheVariants.{Sound, Gap}
use Rattle.c_lexer.specs.Bytes.{Text, first_passes, is_letter, is_digit, is_blank, is_quote}
use Rattle.c_lexer.specs.Numbers.{Numeral, decimal, octal, hexadecimal}
use Rattle.c_lexer.specs.Words.{Spells, keyword, mark, name, number, quoted, open_quote, blank, comment, open_comment, line_comment, no_line_end}
use Rattle.c_lexer.specs.Lexes.{IsFirst, HasNone}
use Rattle.c_lexer.specs.Scan.{begins, first_match, word_at, number_at, quotation_at, comment_len, comment_to, sign_at, front_at, Piece, punctuator}
use Rattle.c_lexer.proofs.TableLemmas.{first_is, none_matches, one_entry, begins-front, front-begins, front_same}
use Rattle.c_lexer.proofs.Classes.{keyword_first, keyword_each, mark_first, is_sign, front_first, not_empty, chosen}
use Rattle.c_lexer.proofs.Numerals.{number_covers, Numbers, number_is, IsPiece}
use Rattle.c_lexer.proofs.Fronts.{Covers, front_digit, front_blank, front_sign, keyword_kind, name_kind, word_covers, word_is, quoted_covers, open_covers, quoted_is}
use Rattle.c_lexer.proofs.CommentEnds.{comment_is, comment_covers, open_comment_covers, line_is, line_covers}

-- ---- marks

-- where a comment begins, the marks are shorter than what begins it
abbrev pub at_block : Text → Bool
at_block s = begins s (codes "/*")

abbrev pub at_line : Text → Bool
at_line s = begins s (codes "//")

short_mark : (c : ℕ) (t : Text) → first_match marks (47 ∷ c ∷ t) ≡ Some (Slash, 1) → (word after : Text) (entry : Mark) → Among marks entry word → (47 ∷ c ∷ t) ≡ word ++ after → length word ≤ 1
short_mark c t is word after entry m text =
    let found = first_is marks (47 ∷ c ∷ t) Slash 1 refl is in
    let low = found.longest word entry m (begins-front (47 ∷ c ∷ t) word after text) in
    let len = found.len in
    omega arith

sign_cases : (s : Text) (found : Option (Mark × ℕ)) → first_match marks s ≡ found →
    sign_at s ≡ cond (at_block s) (Some (comment_to (comment_len false (drop 2 s)))) (cond (at_line s) (Some (Gap, prefix_len no_line_end (drop 2 s) + 2)) (option_map punctuator found))
unfolding sign_at
sign_cases s found is = rw is refl

two_bytes : (found : Option ℕ) → 1 < (comment_to found).1
two_bytes (Some n) = omega arith
two_bytes None = omega arith

mark_covers : (word after : Text) (entry : Mark) → Among marks entry word → Covers (word ++ after) (length word) (Sound (Punctuator entry))
mark_covers word after entry m = at_tests (at_block (word ++ after)) (at_line (word ++ after)) (first_match marks (word ++ after)) refl refl refl
  where
    opened : front_at (word ++ after) ≡ sign_at (word ++ after)
    opened = front_sign (word ++ after) (front_first is_sign word after (mark_first entry word m))

    at_tests : (block line : Bool) (found : Option (Mark × ℕ)) → at_block (word ++ after) ≡ block → at_line (word ++ after) ≡ line → first_match marks (word ++ after) ≡ found →
        Covers (word ++ after) (length word) (Sound (Punctuator entry))
    at_tests true line found b l f =
        let text : word ++ after ≡ 47 ∷ 42 ∷ drop 2 (word ++ after) = front-begins (word ++ after) (codes "/*") b in
        let low = short_mark 42 (drop 2 (word ++ after)) refl word after entry m (sym text) in
        let high = two_bytes (comment_len false (drop 2 (word ++ after))) in
        record {
          other = comment_to (comment_len false (drop 2 (word ++ after)));
          found = opened ∙ sign_cases (word ++ after) found f ∙ ap (λ t. cond t (Some (comment_to (comment_len false (drop 2 (word ++ after))))) (cond (at_line (word ++ after)) (Some (Gap, prefix_len no_line_end (drop 2 (word ++ after)) + 2)) (option_map punctuator found))) b;
          high = omega arith;
          same = λ same. absurd (omega arith);
        }
    at_tests false true found b l f =
        let text : word ++ after ≡ 47 ∷ 47 ∷ drop 2 (word ++ after) = front-begins (word ++ after) (codes "//") l in
        let low = short_mark 47 (drop 2 (word ++ after)) refl word after entry m (sym text) in
        record {
          other = (Gap, prefix_len no_line_end (drop 2 (word ++ after)) + 2);
          found = opened ∙ sign_cases (word ++ after) found f ∙ rw (b, l) refl;
          high = omega arith;
          same = λ same. absurd (omega arith);
        }
    at_tests false false (Some r) b l f =
        let found = first_is marks (word ++ after) r.0 r.1 refl f in
        let low = found.longest word entry m (begins-front (word ++ after) word after refl) in
        let len = found.len in
        record {
          other = punctuator r;
          found = opened ∙ sign_cases (word ++ after) (Some r) f ∙ rw (b, l) refl;
          high = omega arith;
          same = λ same.
              (let words : found.word ≡ word = front_same (word ++ after) found.word _ word after (front-begins (word ++ after) found.word found.sees) refl (omega arith) in
              ap (λ e. Sound (Punctuator e)) (one_entry marks word r.0 entry refl (subst (λ w. Among marks r.0 w) words found.among) m));
        }
    at_tests false false None b l f = absurd (none_matches marks (word ++ after) entry word f m (begins-front (word ++ after) word after refl))

-- ---- all together

first_digit : {digits : Text} {radix : _} {value : ℕ} → Numeral digits radix value → first_passes is_digit digits ≡ true
first_digit (decimal d z each) = d
first_digit (octal each) = refl
first_digit (hexadecimal f d each) = refl

covers_number : (s : Text) (len : ℕ) (lexeme : Lexeme) → first_passes is_digit s ≡ true → Numbers (number_at s) len lexeme → Covers s len lexeme
covers_number s len lexeme d n = record { other = number_at s; found = front_digit s d; high = n.high; same = n.same }

pub covers : (word after : Text) (lexeme : Lexeme) → Spells word lexeme → Covers (word ++ after) (length word) lexeme
covers word after lexeme (keyword {kind = kind} m) = word_covers word after _ (keyword_first kind word m) (keyword_each kind word m) (keyword_kind word kind m)
covers word after lexeme (mark {kind = kind} m) = mark_covers word after kind m
covers word after lexeme (name {b = b} {s = s} f each none) = word_covers (b ∷ s) after _ f (rw f refl, each) (name_kind (b ∷ s) none)
covers word after lexeme (number {digits = digits} {radix = radix} {value = value} suffix ending n m) =
    covers_number ((digits ++ ending) ++ after) (length (digits ++ ending)) _ (front_first is_digit (digits ++ ending) after (front_first is_digit digits ending (first_digit n)))
    (number_covers digits ending after radix value suffix n m)
covers word after lexeme (quoted {quote = quote} {body = body} i means) = quoted_covers quote body after lexeme i means
covers word after lexeme (open_quote {quote = quote} q) = open_covers quote after q
covers word after lexeme (blank {b = b} h) = record { other = (Gap, 1); found = front_blank b after h; high = omega arith; same = λ same. refl }
covers word after lexeme (comment body h) = comment_covers body after h
covers word after lexeme open_comment = open_comment_covers after
covers word after lexeme (line_comment {body = body} each) = line_covers body after each

mark_is : (s : Text) (entry : Mark) (n : ℕ) → first_match marks s ≡ Some (entry, n) → IsPiece s (Sound (Punctuator entry), n)
mark_is s entry n is =
    let found = first_is marks s entry n refl is in
    let some = not_empty is_sign found.word (mark_first entry found.word found.among) in
    let text = front-begins s found.word found.sees in
    let len = found.len in
    let all = ap length text ∙ length-append found.word (drop (length found.word) s) in
    let front : take n s ≡ found.word = ap (take n) text ∙ take_at found.word (drop (length found.word) s) n (sym len) in
    record {
      within = omega arith;
      some = omega arith;
      spells = subst (λ w. Spells w (Sound (Punctuator entry))) (sym front) (mark found.among);
    }

sign_is : (s : Text) (p : Piece) → sign_at s ≡ Some p → IsPiece s p
sign_is s p h = at_found (first_match marks s) refl
  where
    at_found : (found : Option (Mark × ℕ)) → first_match marks s ≡ found → IsPiece s p
    at_found found is = elim (chosen (at_block s) (Some (comment_to (comment_len false (drop 2 s)))) _ (Some p) (sym (sign_cases s found is) ∙ h)) [
      | inl c ↦ (
          let text : s ≡ 47 ∷ 42 ∷ drop 2 s = front-begins s (codes "/*") c.0 in
          let same : comment_to (comment_len false (drop 2 s)) ≡ p = (let e = c.1 in cc) in
          subst (λ t. IsPiece t p) (sym text) (subst (λ q. IsPiece (47 ∷ 42 ∷ drop 2 s) q) same (comment_is (drop 2 s))))
      | inr c ↦ elim (chosen (at_line s) (Some (Gap, prefix_len no_line_end (drop 2 s) + 2)) (option_map punctuator found) (Some p) c.1) [
        | inl d ↦ (
            let text : s ≡ 47 ∷ 47 ∷ drop 2 s = front-begins s (codes "//") d.0 in
            let same : ◌≡◌ {A = Piece} (Gap, prefix_len no_line_end (drop 2 s) + 2) p = (let e = d.1 in cc) in
            subst (λ t. IsPiece t p) (sym text) (subst (λ q. IsPiece (47 ∷ 47 ∷ drop 2 s) q) same (line_is (drop 2 s))))
        | inr d ↦ at_mark found is d.1
      ]
    ]
      where
        at_mark : (found : Option (Mark × ℕ)) → first_match marks s ≡ found → option_map punctuator found ≡ Some p → IsPiece s p
        at_mark (Some r) is e =
            let same : ◌≡◌ {A = Piece} (Sound (Punctuator r.0), r.1) p = cc in
            subst (λ q. IsPiece s q) same (mark_is s r.0 r.1 is)
        at_mark None is e = absurd cc

pub front_is : (s : Text) (p : Piece) → front_at s ≡ Some p → IsPiece s p
unfolding front_at
front_is [] p h = absurd cc
front_is (b ∷ s) p h = elim (chosen (is_letter b) (Some (word_at (b ∷ s))) _ (Some p) h) [
  | inl c ↦ (let same : word_at (b ∷ s) ≡ p = (let e = c.1 in cc) in subst (λ q. IsPiece (b ∷ s) q) same (word_is (b ∷ s) c.0))
  | inr c ↦ elim (chosen (is_digit b) (Some (number_at (b ∷ s))) _ (Some p) c.1) [
    | inl d ↦ (let same : number_at (b ∷ s) ≡ p = (let e = d.1 in cc) in subst (λ q. IsPiece (b ∷ s) q) same (number_is (b ∷ s) d.0))
    | inr d ↦ elim (chosen (is_quote b) (Some (quotation_at b s)) _ (Some p) d.1) [
      | inl q ↦ (let same : quotation_at b s ≡ p = (let e = q.1 in cc) in subst (λ r. IsPiece (b ∷ s) r) same (quoted_is b s q.0))
      | inr q ↦ elim (chosen (is_blank b) (Some (Gap, 1)) (sign_at (b ∷ s)) (Some p) q.1) [
        | inl w ↦ (
            let same : ◌≡◌ {A = Piece} (Gap, 1) p = (let e = w.1 in cc) in
            subst (λ r. IsPiece (b ∷ s) r) same (record { within = omega arith; some = omega arith; spells = blank w.0 }))
        | inr w ↦ sign_is (b ∷ s) p w.1
      ]
    ]
  ]
]

-- ---- the relation is the function

pub found_first : (s : Text) (p : Piece) → front_at s ≡ Some p → IsFirst s (take p.1 s) (drop p.1 s) p.0
found_first s p is =
    let piece = front_is s p is in
    let len : length (take p.1 s) ≡ p.1 = length-take-le p.1 s piece.within in
    record {
      text = sym (take-append-drop p.1 s);
      spells = piece.spells;
      longest = λ (other after : Text) (otherwise : Lexeme) (text : s ≡ other ++ after) (m : Spells other otherwise).
          (let c = covers other after otherwise m in
          let same : ◌≡◌ {A = Option Piece} (Some c.other) (Some p) = sym c.found ∙ ap front_at (sym text) ∙ is in
          let both : c.other ≡ p = cc in
          let high = c.high in
          let lens : c.other.1 ≡ p.1 = ap (λ (q : Piece). q.1) both in
          omega arith);
    }

pub first_found : (s word rest : Text) (lexeme : Lexeme) → IsFirst s word rest lexeme → front_at s ≡ Some (lexeme, length word)
first_found s word rest lexeme f =
    let c = covers word rest lexeme f.spells in
    let found : front_at s ≡ Some c.other = ap front_at f.text ∙ c.found in
    let piece = front_is s c.other found in
    let low = f.longest (take c.other.1 s) (drop c.other.1 s) c.other.0 (sym (take-append-drop c.other.1 s)) piece.spells in
    let len : length (take c.other.1 s) ≡ c.other.1 = length-take-le c.other.1 s piece.within in
    let high = c.high in
    let same : length word ≡ c.other.1 = omega arith in
    let kinds = c.same same in
    found ∙ ap (λ n. Some (c.other.0, n)) (sym same) ∙ ap (λ l. Some (l, length word)) kinds

pub none_found : (s : Text) → front_at s ≡ None → HasNone s
none_found s none word after lexeme text m =
    let c = covers word after lexeme m in
    let found : front_at s ≡ Some c.other = ap front_at text ∙ c.found in
    cc

pub found_none : (s : Text) → HasNone s → front_at s ≡ None
found_none s none = at_found (front_at s) refl
  where
    at_found : (found : Option Piece) → front_at s ≡ found → front_at s ≡ None
    at_found None is = is
    at_found (Some p) is = absurd (none (take p.1 s) (drop p.1 s) p.0 (sym (take-append-drop p.1 s)) (front_is s p is).spells)
