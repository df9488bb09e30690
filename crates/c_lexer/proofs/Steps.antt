-- The steps of the loop: what is read so far is completed by whatever the rest is.
use Rattle.std.proofs.Common.{◌≡◌, ℕ, suc, ◌+◌, ◌-◌, ◌<◌, ◌≤◌, Bool, true, false, ◌⊎◌, inl, inr, List, [], ◌∷◌, ◌++◌, length, get_or, drop, Option, Some, None, sym, ap, subst, ◌∙◌, arith, length-append, append_assoc, append-nil}
use Rattle.std.proofs.lemmas.List.{drop-drop, drop_all, drop_more, length-drop}
use Rattle.std.specs.Prelude.{IfSome, IfOk, IfErr, Result, Ok, Err, MatchResult, alloc_error}
use Rattle.c_tokens.specs.declared.kind.Kind.{Kind}
use Rattle.c_tokens.specs.declared.token.Token.{Token}
use Rattle.c_lexer.specs.declared.error.LexError.{LexError}
use Rattle.c_lexer.specs.declared.error.LexError.TheVariants.{Memory, BadByte, TooManyTokens}
use Rattle.c_lexer.specs.declared.joined.Origin.{Origin}
use Rattle.c_lexer.specs.declared.lexeme.Fault.{Fault}
use Rattle.c_lexer.specs.declared.lexeme.Lexeme.TheVariants.{Sound, Gap, Faulty}
use Rattle.c_lexer.specs.Bytes.{Text, is_line_end}
use Rattle.c_tokens.specs.Limits.{max_tokens}
use Rattle.c_lexer.specs.Lexes.{origin_at, token_at, refusal, Lexes, end, line, HasLexFault, line as line_refused}
use Rattle.c_lexer.specs.Scan.{front_at, Piece}
use Rattle.c_lexer.proofs.Longest.{front_is}
use Rattle.c_lexer.proofs.Readings.{lexes_one, not_both, refuses_one, lexes_gap, refuses_gap, lexes_token, refuses_token, refuses_full, refuses_faulty, refuses_unknown, lexes_few}

pub within_at : (text : Text) (at : ℕ) (found : Option Piece) → at ≤ length text → found ≡ front_at (drop at text) → IfSome found (λ p. (0 < p.1) × (at + p.1 ≤ length text))
within_at text at None low h = tt
within_at text at (Some p) low h =
    let i = front_is (drop at text) p (sym h) in
    let j = length-drop at text in
    let within = i.within in
    (i.some, omega arith)

module _ (origins : List Origin) (text : Text) where
  pub record Completes (tokens : List Token) (room at : ℕ) (first : Bool) : Type 0 where
    pub lexed : (ts : List Token) → Lexes origins room at first (drop at text) ts → Lexes origins max_tokens 0 true text (tokens ++ ts)
    pub refused : (e : LexError) → HasLexFault origins room at (drop at text) e → HasLexFault origins max_tokens 0 text e

  pub completes_line : (tokens : List Token) (room at : ℕ) (first : Bool) → at < length text → get_or text at 0 ≡ 10 → Completes tokens room at first → Completes tokens room (at + 1) true
  completes_line tokens room at first low is r =
      let opened : drop at text ≡ 10 ∷ drop (at + 1) text = drop_more text at 0 low ∙ ap (λ b. b ∷ drop (at + 1) text) is in
      record {
        lexed = λ ts d. r.lexed ts (subst (λ t. Lexes origins room at first t ts) (sym opened) (line d));
        refused = λ e d. r.refused e (subst (λ t. HasLexFault origins room at t e) (sym opened) (line_refused d));
      }

  pub completes_gap : (tokens : List Token) (room at : ℕ) (first : Bool) (n : ℕ) → Some (Gap, n) ≡ front_at (drop at text) → Completes tokens room at first → Completes tokens room (at + n) first
  completes_gap tokens room at first n found r =
      let rest = drop-drop n at text in
      record {
        lexed = λ ts d. r.lexed ts (lexes_gap origins room at first (drop at text) n ts (sym found) (subst (λ t. Lexes origins room (at + n) first t ts) (sym rest) d));
        refused = λ e d. r.refused e (refuses_gap origins room at (drop at text) n e (sym found) (subst (λ t. HasLexFault origins room (at + n) t e) (sym rest) d));
      }

  completes_token : (tokens : List Token) (room less at : ℕ) (first : Bool) (kind : Kind) (n : ℕ) → room ≡ suc less → Some (Sound kind, n) ≡ front_at (drop at text) → Completes tokens room at first →
      Completes (tokens ++ token_at origins kind at n first ∷ []) less (at + n) false
  completes_token tokens room less at first kind n is found r =
      let rest = drop-drop n at text in
      record {
        lexed = λ ts d. subst (λ us. Lexes origins max_tokens 0 true text us) (sym (append_assoc tokens (token_at origins kind at n first ∷ []) ts))
            (r.lexed (token_at origins kind at n first ∷ ts) (subst (λ k. Lexes origins k at first (drop at text) (token_at origins kind at n first ∷ ts)) (sym is)
            (lexes_token origins less at first (drop at text) kind n ts (sym found) (subst (λ t. Lexes origins less (at + n) false t ts) (sym rest) d))));
        refused = λ e d. r.refused e (subst (λ k. HasLexFault origins k at (drop at text) e) (sym is)
            (refuses_token origins less at (drop at text) kind n e (sym found) (subst (λ t. HasLexFault origins less (at + n) t e) (sym rest) d)));
      }

  fewer : (tokens : List Token) (t : Token) → length tokens < max_tokens → max_tokens - length tokens ≡ suc (max_tokens - length (tokens ++ t ∷ []))
  fewer tokens t h = omega (arith, length-append tokens (t ∷ []))

  pub completes_push : (tokens : List Token) (at : ℕ) (first : Bool) (kind : Kind) (n : ℕ) (t : Token) → length tokens < max_tokens → t ≡ token_at origins kind at n first → Some (Sound kind, n) ≡ front_at (drop at text) →
      Completes tokens (max_tokens - length tokens) at first → Completes (tokens ++ t ∷ []) (max_tokens - length (tokens ++ t ∷ [])) (at + n) false
  completes_push tokens at first kind n t h is found r =
      subst (λ t. Completes (tokens ++ t ∷ []) (max_tokens - length (tokens ++ t ∷ [])) (at + n) false) (sym is)
      (completes_token tokens _ _ at first kind n (fewer tokens (token_at origins kind at n first) h) found r)

  pub completes_all : (tokens : List Token) (room at : ℕ) (first : Bool) → length text ≤ at → Completes tokens room at first → Lexes origins max_tokens 0 true text tokens
  completes_all tokens room at first done r =
      subst (λ us. Lexes origins max_tokens 0 true text us) (append-nil tokens) (r.lexed [] (subst (λ t. Lexes origins room at first t []) (sym (drop_all at text done)) end))

  pub completes_full : (tokens : List Token) (room at : ℕ) (first : Bool) (kind : Kind) (n : ℕ) → room ≡ 0 → Some (Sound kind, n) ≡ front_at (drop at text) → Completes tokens room at first →
      HasLexFault origins max_tokens 0 text (TooManyTokens (origin_at origins at).offset)
  completes_full tokens room at first kind n is found r =
      r.refused _ (subst (λ k. HasLexFault origins k at (drop at text) (TooManyTokens (origin_at origins at).offset)) (sym is) (refuses_full origins at (drop at text) kind n (sym found)))

  pub completes_faulty : (tokens : List Token) (room at : ℕ) (first : Bool) (fault : Fault) (n : ℕ) → Some (Faulty fault, n) ≡ front_at (drop at text) → Completes tokens room at first →
      HasLexFault origins max_tokens 0 text (refusal fault (origin_at origins at).offset)
  completes_faulty tokens room at first fault n found r = r.refused _ (refuses_faulty origins room at (drop at text) fault n (sym found))

  pub completes_unknown : (tokens : List Token) (room at : ℕ) (first : Bool) → at < length text → is_line_end (get_or text at 0) ≡ false → None ≡ front_at (drop at text) → Completes tokens room at first →
      HasLexFault origins max_tokens 0 text (BadByte (origin_at origins at).offset)
  completes_unknown tokens room at first low goes_on none r =
      let opened : drop at text ≡ get_or text at 0 ∷ drop (at + 1) text = drop_more text at 0 low in
      r.refused _ (subst (λ t. HasLexFault origins room at t (BadByte (origin_at origins at).offset)) (sym opened)
      (refuses_unknown origins room at (get_or text at 0) (drop (at + 1) text) goes_on (ap front_at (sym opened) ∙ sym none)))

-- ---- the same at equal lists

pub found_at : (V : Type 0) (items : V → List Token) (r : Result V LexError) (ps qs : List Origin) (s t : Text) → ps ≡ qs → s ≡ t →
    IfOk r (λ v. Lexes ps max_tokens 0 true s (items v)) → IfOk r (λ v. Lexes qs max_tokens 0 true t (items v))
found_at V items r ps qs s t p q h =
    subst (λ ps. IfOk r (λ v. Lexes ps max_tokens 0 true t (items v))) p (subst (λ s. IfOk r (λ v. Lexes ps max_tokens 0 true s (items v))) q h)

pub refused_at : (V : Type 0) (r : Result V LexError) (ps qs : List Origin) (s t : Text) → ps ≡ qs → s ≡ t →
    IfErr r (λ e. (e ≡ Memory alloc_error) ⊎ HasLexFault ps max_tokens 0 s e) → IfErr r (λ e. (e ≡ Memory alloc_error) ⊎ HasLexFault qs max_tokens 0 t e)
refused_at V r ps qs s t p q h =
    subst (λ ps. IfErr r (λ e. (e ≡ Memory alloc_error) ⊎ HasLexFault ps max_tokens 0 t e)) p (subst (λ s. IfErr r (λ e. (e ≡ Memory alloc_error) ⊎ HasLexFault ps max_tokens 0 s e)) q h)

-- ---- one answer

module _ (V : Type 0) (items : V → List Token) (origins : List Origin) (text : Text) where
  abbrev pub IsFound : Result V LexError → Type 0
  IsFound r = IfOk r (λ v. Lexes origins max_tokens 0 true text (items v))

  abbrev pub IsFaultOf : Result V LexError → Type 0
  IsFaultOf r = IfErr r (λ e. (e ≡ Memory alloc_error) ⊎ HasLexFault origins max_tokens 0 text e)

  pub only_tokens : (r : Result V LexError) → IsFound r → IsFaultOf r → (ts : List Token) → Lexes origins max_tokens 0 true text ts → MatchResult r (λ v. items v ≡ ts) (λ e. e ≡ Memory alloc_error)
  only_tokens (Ok v) h g ts d = lexes_one origins h d
  only_tokens (Err e) h (inl memory) ts d = memory
  only_tokens (Err e) h (inr refused) ts d = absurd (not_both origins d refused)

  pub only_refused : (r : Result V LexError) → IsFound r → IsFaultOf r → (e : LexError) → HasLexFault origins max_tokens 0 text e → MatchResult r (λ v. ⊥) (λ got. (got ≡ e) ⊎ (got ≡ Memory alloc_error))
  only_refused (Ok v) h g e d = not_both origins h d
  only_refused (Err got) h (inl memory) e d = inr memory
  only_refused (Err got) h (inr refused) e d = inl (refuses_one origins refused d)

  pub few_tokens : (r : Result V LexError) → IsFound r → IfOk r (λ v. length (items v) ≤ max_tokens)
  few_tokens (Ok v) h = lexes_few origins h
  few_tokens (Err e) h = tt
