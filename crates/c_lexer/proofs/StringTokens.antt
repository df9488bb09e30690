-- What a string token means.
use Rattle.std.proofs.Common.{◌≡◌, ℕ, zero, suc, ◌+◌, ◌-◌, ◌<◌, ◌≤◌, Bool, List, [], ◌∷◌, ◌++◌, length, take, drop, Option, Some, None, refl, sym, ap, subst, ◌∙◌, arith, length-append}
use Rattle.std.proofs.lemmas.List.{drop-drop, length-drop, drop_at, append_cancel_right}
use Rattle.std.proofs.Math.Seq.{take-append_seam}
use Rattle.std.specs.Prelude.{Contains, slice_index_or, Result, Ok, Err, IfOk}
use Rattle.std.specs.Option.{ForSome}
use Rattle.c_tokens.specs.declared.kind.Kind.{Kind}
use Rattle.c_tokens.specs.declared.kind.Kind.TheVariants.{Str}
use Rattle.c_tokens.specs.declared.kind.NumType.{NumType}
use Rattle.c_tokens.specs.declared.token.Token.{Token}
use Rattle.c_lexer.specs.declared.joined.Origin.{Origin}
use Rattle.c_lexer.specs.declared.lexeme.Lexeme.{Lexeme}
use Rattle.c_lexer.specs.declared.lexeme.Lexeme.TheVariants.{Sound}
use Rattle.c_lexer.specs.Bytes.{Text}
use Rattle.c_lexer.specs.Joined.{joined_bytes, joined_origins}
use Rattle.c_lexer.specs.Numbers.{typed_number, first_type, types_for}
use Rattle.c_lexer.specs.Escapes.{Decodes, Means, string, bad_string, character, bad_character, IsStringOf}
use Rattle.c_lexer.specs.Words.{Spells, keyword, mark, name, number, quoted, open_quote, blank, comment, open_comment, line_comment}
use Rattle.c_lexer.specs.Lexes.{IsFirst, origin_at, token_at, Lexes, end, line, gap, token, Tokens}
use Rattle.c_lexer.specs.Scan.{meant_bytes}
use Rattle.c_lexer.proofs.Units.{decodes_complete}
use Rattle.c_lexer.proofs.Longest.{front_is, first_found}
use Rattle.c_lexer.proofs.Slices.{part_is}

-- ---- one meaning

same_body : (a b : Text) → 34 ∷ a ++ 34 ∷ [] ≡ 34 ∷ b ++ 34 ∷ [] → a ≡ b
same_body a b h = let rest : a ++ 34 ∷ [] ≡ b ++ 34 ∷ [] = cc in append_cancel_right a b (34 ∷ []) rest

pub one_meaning : (text : Text) (start end : ℕ) (a b : List ℕ) → IsStringOf text start end a → IsStringOf text start end b → a ≡ b
one_meaning text start stop a b x y =
    let body : x.body ≡ y.body = same_body x.body y.body (sym x.quoted ∙ y.quoted) in
    let first : meant_bytes 0 x.body ≡ Some a = decodes_complete x.decodes in
    let other : meant_bytes 0 y.body ≡ Some b = decodes_complete y.decodes in
    let same : Some a ≡ Some b = sym first ∙ ap (meant_bytes 0) body ∙ other in
    cc

-- what is meant_bytes between the first and the last byte
pub meaning_found : (text : Text) (start end : ℕ) (bytes : List ℕ) (s inner : Text) (found : List ℕ) → IsStringOf text start end bytes → s ≡ joined_bytes (take (end - start) (drop start text)) →
    inner ≡ take (length s - 2) (drop 1 s) → ForSome (meant_bytes 0 inner) (λ meant. found ≡ meant) → found ≡ bytes
meaning_found text start stop bytes s inner found i is cut decodes =
    let whole : s ≡ 34 ∷ i.body ++ 34 ∷ [] = is ∙ i.quoted in
    let len : length s ≡ suc (length i.body + 1) = ap length whole ∙ ap suc (length-append i.body (34 ∷ [])) in
    let later : drop 1 s ≡ i.body ++ 34 ∷ [] = ap (drop 1) whole in
    let n : length s - 2 ≡ length i.body = omega arith in
    let middle : inner ≡ i.body = cut ∙ ap (λ k. take k (drop 1 s)) n ∙ ap (take (length i.body)) later ∙ take-append_seam i.body (34 ∷ []) in
    decodes bytes (ap (meant_bytes 0) middle ∙ decodes_complete i.decodes)

pub meaning_answered : (V E : Type 0) (items : V → List ℕ) (r : Result V E) (text : Text) (start end : ℕ) (bytes : List ℕ) (s inner : Text) → IsStringOf text start end bytes →
    s ≡ joined_bytes (take (end - start) (drop start text)) → inner ≡ take (length s - 2) (drop 1 s) → IfOk r (λ v. ForSome (meant_bytes 0 inner) (λ meant. items v ≡ meant)) → IfOk r (λ v. items v ≡ bytes)
meaning_answered V E items (Ok v) text start stop bytes s inner i is cut h = meaning_found text start stop bytes s inner (items v) i is cut h
meaning_answered V E items (Err e) text start stop bytes s inner i is cut h = tt

-- ---- the tokens of a text

-- the bytes from an index on, as many as the token has, spell it, and no more bytes are a lexeme
pub record IsSpelled (origins : List Origin) (bytes : Text) (t : Token) : Type 0 where
  pub kind : Kind
  pub at : ℕ
  pub len : ℕ
  pub first : Bool
  pub is : t ≡ token_at origins kind at len first
  pub some : 0 < len
  pub within : at + len ≤ length bytes
  pub rest : Text
  pub longest : IsFirst (drop at bytes) (take len (drop at bytes)) rest (Sound kind)

spelled_word : (s word rest : Text) (kind : Kind) → IsFirst s word rest (Sound kind) → (0 < length word) × (length word ≤ length s) × IsFirst s (take (length word) s) rest (Sound kind)
spelled_word s word rest kind f =
    let i = front_is s (Sound kind, length word) (first_found s word rest (Sound kind) f) in
    let front : word ≡ take (length word) s = sym (ap (take (length word)) f.text ∙ take-append_seam word rest) in
    (i.some, i.within, subst (λ w. IsFirst s w rest (Sound kind)) front f)

pub tokens_spelled : {origins : List Origin} {room at : ℕ} {first : Bool} {s : Text} {ts : List Token} → Lexes origins room at first s ts → (bytes : Text) → s ≡ drop at bytes →
    (k : ℕ) (t : Token) → k < length ts → slice_index_or ts k t ≡ t → IsSpelled origins bytes t
tokens_spelled end bytes h k t low is = absurd (omega arith)
tokens_spelled {at = at} (line d) bytes h k t low is = tokens_spelled d bytes (ap (drop 1) h ∙ drop-drop 1 at bytes) k t low is
tokens_spelled {at = at} {s = s} (gap {rest = rest} word f d) bytes h k t low is =
    tokens_spelled d bytes (sym (ap (drop (length word)) f.text ∙ drop_at word rest (length word) refl) ∙ ap (drop (length word)) h ∙ drop-drop (length word) at bytes) k t low is
tokens_spelled {at = at} {first = first} {s = s} (token {rest = rest} word kind f d) bytes h zero t low is =
    let w = spelled_word s word rest kind f in
    let some = w.0 in
    let fits = w.1 in
    let all = ap length h ∙ length-drop at bytes in
    record {
      kind = kind;
      at = at;
      len = length word;
      first = first;
      is = sym is;
      some = some;
      within = omega arith;
      rest = rest;
      longest = subst (λ u. IsFirst u (take (length word) u) rest (Sound kind)) h w.2;
    }
tokens_spelled {at = at} {s = s} (token {rest = rest} word kind f d) bytes h (suc k) t low is =
    tokens_spelled d bytes (sym (ap (drop (length word)) f.text ∙ drop_at word rest (length word) refl) ∙ ap (drop (length word)) h ∙ drop-drop (length word) at bytes) k t (omega arith) is

-- ---- a word that is a string

no_string : (value : ℕ) (type : Option NumType) → typed_number value type ≡ Sound Str → ⊥
no_string value (Some t) h = cc
no_string value None h = cc

pub record IsText (word : Text) : Type 0 where
  pub body : Text
  pub is : word ≡ 34 ∷ body ++ 34 ∷ []
  pub bytes : List ℕ
  pub decodes : Decodes body bytes

text_of : (quote : ℕ) (body : Text) (lexeme : Lexeme) → Means quote body lexeme → lexeme ≡ Sound Str → IsText (quote ∷ body ++ quote ∷ [])
text_of quote body lexeme (string {bytes = bytes} d) h = record { body = body; is = refl; bytes = bytes; decodes = d }
text_of quote body lexeme (bad_string none) h = absurd cc
text_of quote body lexeme (character d) h = absurd cc
text_of quote body lexeme (bad_character none) h = absurd cc

string_word : {word : Text} {lexeme : Lexeme} → Spells word lexeme → lexeme ≡ Sound Str → IsText word
string_word (keyword m) h = absurd cc
string_word (mark m) h = absurd cc
string_word (name f each none) h = absurd cc
string_word (number {radix = radix} {value = value} suffix ending n m) h = absurd (no_string value (first_type value (types_for radix suffix)) h)
string_word (quoted {quote = quote} {body = body} {lexeme = lexeme} i means) h = text_of quote body lexeme means h
string_word (open_quote q) h = absurd cc
string_word (blank b) h = absurd cc
string_word (comment body e) h = absurd cc
string_word open_comment h = absurd cc
string_word (line_comment each) h = absurd cc

pub some_meaning : (text : Text) (ts : List Token) (t : Token) → Tokens text ts → Contains ts t → t.kind ≡ Str → (bytes : List ℕ) × IsStringOf text t.start t.end bytes
some_meaning text ts t d m is =
    let i = tokens_spelled d (joined_bytes text) refl m.0 t m.1 m.2 in
    let kind : i.kind ≡ Str = sym (ap (λ (t : Token). t.kind) i.is) ∙ is in
    let w = string_word i.longest.spells (ap Sound kind) in
    let p = part_is text i.at i.len i.some i.within in
    let start = ap (λ (t : Token). t.start) i.is in
    let ends = ap (λ (t : Token). t.end) i.is in (
      w.bytes,
      record {
        body = w.body;
        within = (let low = p.0 in let high = p.1 in (omega arith, omega arith));
        quoted = ap (λ from. joined_bytes (take (t.end - from) (drop from text))) start
            ∙ ap (λ to. joined_bytes (take (to - (origin_at (joined_origins text) i.at).offset) (drop (origin_at (joined_origins text) i.at).offset text))) ends
            ∙ p.2 ∙ w.is;
        decodes = w.decodes;
      },
    )
