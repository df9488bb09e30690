-- A text has one reading: its tokens, or why it has none.
use Rattle.std.proofs.Common.{◌≡◌, ℕ, zero, suc, ◌+◌, ◌≤◌, Bool, true, false, ◌⊎◌, inl, inr, List, [], ◌∷◌, length, take, drop, Option, Some, None, refl, sym, ap, subst, ◌∙◌, arith, length-append, cond}
use Rattle.std.proofs.lemmas.Bool.{cases_Bool, eqb-true}
use Rattle.std.proofs.lemmas.List.{drop_at, length-drop, length-take-le}
use Rattle.c_tokens.specs.declared.kind.Kind.{Kind}
use Rattle.c_tokens.specs.declared.token.Token.{Token}
use Rattle.c_lexer.specs.declared.error.LexError.{LexError}
use Rattle.c_lexer.specs.declared.error.LexError.TheVariants.{BadByte, TooManyTokens}
use Rattle.c_lexer.specs.declared.joined.Origin.{Origin}
use Rattle.c_lexer.specs.declared.lexeme.Lexeme.{Lexeme}
use Rattle.c_lexer.specs.declared.lexeme.Lexeme.TheVariants.{Sound, Gap, Faulty}
use Rattle.c_lexer.specs.Bytes.{Text, is_line_end}
use Rattle.c_lexer.specs.Lexes.{IsFirst, origin_at, token_at, refusal, Lexes, end, line, gap, token, HasLexFault, unknown, faulty, full}
use Rattle.c_lexer.specs.Scan.{sign_at, front_at, Piece}
use Rattle.c_lexer.proofs.Longest.{front_is, found_first, first_found, none_found, found_none}

abbrev pub Outcome : Type 0
Outcome = List Token ⊎ LexError

prepend : Token → Outcome → Outcome
prepend t (inl ts) = inl (t ∷ ts)
prepend t (inr e) = inr e

-- a line end is no lexeme
line_none : (s : Text) → front_at (10 ∷ s) ≡ None
unfolding front_at sign_at
line_none s = refl

nil_none : front_at [] ≡ None
unfolding front_at
nil_none = refl

pub not_line : (b : ℕ) (s : Text) (p : Piece) → front_at (b ∷ s) ≡ Some p → is_line_end b ≡ false
not_line b s p h = elim (cases_Bool (is_line_end b)) [
  | inl is ↦ absurd (let e : front_at (b ∷ s) ≡ None = ap (λ b. front_at (b ∷ s)) (eqb-true b 10 is) ∙ line_none s in cc)
  | inr no_line ↦ no_line
]

module _ (origins : List Origin) where
  at_token : (ℕ → ℕ → Bool → Text → Outcome) → ℕ → ℕ → Bool → Text → Kind → ℕ → Outcome
  at_token below zero at first s kind n = inr (TooManyTokens (origin_at origins at).offset)
  at_token below (suc room) at first s kind n = prepend (token_at origins kind at n first) (below room (at + n) false (drop n s))

  at_lexeme : (ℕ → ℕ → Bool → Text → Outcome) → ℕ → ℕ → Bool → Text → ℕ → Lexeme → Outcome
  at_lexeme below room at first s n (Sound kind) = at_token below room at first s kind n
  at_lexeme below room at first s n Gap = below room (at + n) first (drop n s)
  at_lexeme below room at first s n (Faulty fault) = inr (refusal fault (origin_at origins at).offset)

  at_front : (ℕ → ℕ → Bool → Text → Outcome) → ℕ → ℕ → Bool → Text → Option Piece → Outcome
  at_front below room at first s None = inr (BadByte (origin_at origins at).offset)
  at_front below room at first s (Some p) = at_lexeme below room at first s p.1 p.0

  at_byte : (ℕ → ℕ → Bool → Text → Outcome) → ℕ → ℕ → Bool → ℕ → Text → Outcome
  at_byte below room at first b s = cond (is_line_end b) (below room (at + 1) true s) (at_front below room at first (b ∷ s) (front_at (b ∷ s)))

  -- the reading of a text that is no longer than the fuel
  pub read : ℕ → ℕ → ℕ → Bool → Text → Outcome
  read fuel room at first [] = inl []
  read zero room at first (b ∷ s) = inl []
  read (suc fuel) room at first (b ∷ s) = at_byte (λ room at first s. read fuel room at first s) room at first b s

  read_nil : (fuel room at : ℕ) (first : Bool) → read fuel room at first [] ≡ inl []
  unfolding read
  read_nil zero room at first = refl
  read_nil (suc fuel) room at first = refl

  read_line : (fuel room at : ℕ) (first : Bool) (s : Text) → read (suc fuel) room at first (10 ∷ s) ≡ read fuel room (at + 1) true s
  unfolding read at_byte
  read_line fuel room at first s = refl

  read_front : (fuel room at : ℕ) (first : Bool) (s : Text) (p : Piece) → front_at s ≡ Some p →
      read (suc fuel) room at first s ≡ at_lexeme (λ room at first s. read fuel room at first s) room at first s p.1 p.0
  unfolding read at_byte at_front
  read_front fuel room at first [] p h = absurd (let e = nil_none in cc)
  read_front fuel room at first (b ∷ s) p h = rw (not_line b s p h, h) refl

  read_none : (fuel room at b : ℕ) (first : Bool) (s : Text) → is_line_end b ≡ false → front_at (b ∷ s) ≡ None →
      read (suc fuel) room at first (b ∷ s) ≡ inr (BadByte (origin_at origins at).offset)
  unfolding read at_byte at_front
  read_none fuel room at b first s goes_on h = rw (goes_on, h) refl

  -- ---- what the relations say is read

  some_fuel : (s word rest : Text) (lexeme : Lexeme) (fuel : ℕ) → IsFirst s word rest lexeme → length s ≤ fuel → (less : ℕ) × (fuel ≡ suc less) × (length rest ≤ less)
  some_fuel s word rest lexeme zero f low =
      absurd (let i = front_is s (lexeme, length word) (first_found s word rest lexeme f) in let a = i.some in let b = i.within in omega arith)
  some_fuel s word rest lexeme (suc fuel) f low = (
    fuel,
    refl,
    (let i = front_is s (lexeme, length word) (first_found s word rest lexeme f) in
        let a = i.some in
        let all = ap length f.text ∙ length-append word rest in
        omega arith),
  )

  after_word : (s word rest : Text) (lexeme : Lexeme) → IsFirst s word rest lexeme → drop (length word) s ≡ rest
  after_word s word rest lexeme f = ap (drop (length word)) f.text ∙ drop_at word rest (length word) refl

  pub lexes_read : {room at : ℕ} {first : Bool} {s : Text} {ts : List Token} → Lexes origins room at first s ts → (fuel : ℕ) → length s ≤ fuel → read fuel room at first s ≡ inl ts
  unfolding at_lexeme at_token prepend
  lexes_read {room = room} {at = at} {first = first} end fuel low = read_nil fuel room at first
  lexes_read (line d) zero low = absurd (omega arith)
  lexes_read {room = room} {at = at} {first = first} (line {s = s} d) (suc fuel) low = read_line fuel room at first s ∙ lexes_read d fuel (omega arith)
  lexes_read {room = room} {at = at} {first = first} {s = s} (gap {rest = rest} word f d) fuel low =
      let (less, is, later) = some_fuel s word rest Gap fuel f low in
      ap (λ fuel. read fuel room at first s) is ∙ read_front less room at first s (Gap, length word) (first_found s word rest Gap f)
      ∙ ap (read less room (at + length word) first) (after_word s word rest Gap f) ∙ lexes_read d less later
  lexes_read {at = at} {first = first} {s = s} (token {room = room} {rest = rest} {ts = ts} word kind f d) fuel low =
      let (less, is, later) = some_fuel s word rest (Sound kind) fuel f low in
      ap (λ fuel. read fuel (suc room) at first s) is ∙ read_front less (suc room) at first s (Sound kind, length word) (first_found s word rest (Sound kind) f)
      ∙ ap (λ t. prepend (token_at origins kind at (length word) first) (read less room (at + length word) false t)) (after_word s word rest (Sound kind) f)
      ∙ ap (prepend (token_at origins kind at (length word) first)) (lexes_read d less later)

  pub refuses_read : {room at : ℕ} {s : Text} {e : LexError} → HasLexFault origins room at s e → (first : Bool) (fuel : ℕ) → length s ≤ fuel → read fuel room at first s ≡ inr e
  unfolding at_lexeme at_token prepend
  refuses_read (unknown goes_on none) first zero low = absurd (omega arith)
  refuses_read {room = room} {at = at} (unknown {b = b} {s = s} goes_on none) first (suc fuel) low = read_none fuel room at b first s goes_on (found_none (b ∷ s) none)
  refuses_read {room = room} {at = at} {s = s} (faulty {rest = rest} word fault f) first fuel low =
      let (less, is, later) = some_fuel s word rest (Faulty fault) fuel f low in
      ap (λ fuel. read fuel room at first s) is ∙ read_front less room at first s (Faulty fault, length word) (first_found s word rest (Faulty fault) f)
  refuses_read {at = at} {s = s} (full {rest = rest} word kind f) first fuel low =
      let (less, is, later) = some_fuel s word rest (Sound kind) fuel f low in
      ap (λ fuel. read fuel zero at first s) is ∙ read_front less zero at first s (Sound kind, length word) (first_found s word rest (Sound kind) f)
  refuses_read (line d) first zero low = absurd (omega arith)
  refuses_read {room = room} {at = at} (line {s = s} d) first (suc fuel) low = read_line fuel room at first s ∙ refuses_read d true fuel (omega arith)
  refuses_read {room = room} {at = at} {s = s} (gap {rest = rest} word f d) first fuel low =
      let (less, is, later) = some_fuel s word rest Gap fuel f low in
      ap (λ fuel. read fuel room at first s) is ∙ read_front less room at first s (Gap, length word) (first_found s word rest Gap f)
      ∙ ap (read less room (at + length word) first) (after_word s word rest Gap f) ∙ refuses_read d first less later
  refuses_read {at = at} {s = s} (token {room = room} {rest = rest} word kind f d) first fuel low =
      let (less, is, later) = some_fuel s word rest (Sound kind) fuel f low in
      ap (λ fuel. read fuel (suc room) at first s) is ∙ read_front less (suc room) at first s (Sound kind, length word) (first_found s word rest (Sound kind) f)
      ∙ ap (λ t. prepend (token_at origins kind at (length word) first) (read less room (at + length word) false t)) (after_word s word rest (Sound kind) f)
      ∙ ap (prepend (token_at origins kind at (length word) first)) (refuses_read d false less later)

  -- ---- one reading

  pub lexes_one : {room at : ℕ} {first : Bool} {s : Text} {ts us : List Token} → Lexes origins room at first s ts → Lexes origins room at first s us → ts ≡ us
  lexes_one {s = s} a b = let x = lexes_read a (length s) (omega arith) in let y = lexes_read b (length s) (omega arith) in cc

  pub not_both : {room at : ℕ} {first : Bool} {s : Text} {ts : List Token} {e : LexError} → Lexes origins room at first s ts → HasLexFault origins room at s e → ⊥
  not_both {first = first} {s = s} a b = let x = lexes_read a (length s) (omega arith) in let y = refuses_read b first (length s) (omega arith) in cc

  pub refuses_one : {room at : ℕ} {s : Text} {d e : LexError} → HasLexFault origins room at s d → HasLexFault origins room at s e → d ≡ e
  refuses_one {s = s} a b = let x = refuses_read a true (length s) (omega arith) in let y = refuses_read b true (length s) (omega arith) in cc

  -- ---- a token stands before the rest

  pub lexes_gap : (room at : ℕ) (first : Bool) (s : Text) (n : ℕ) (ts : List Token) → front_at s ≡ Some (Gap, n) → Lexes origins room (at + n) first (drop n s) ts → Lexes origins room at first s ts
  lexes_gap room at first s n ts h d =
      let len : length (take n s) ≡ n = length-take-le n s (front_is s (Gap, n) h).within in
      gap (take n s) (found_first s (Gap, n) h) (subst (λ k. Lexes origins room (at + k) first (drop n s) ts) (sym len) d)

  pub refuses_gap : (room at : ℕ) (s : Text) (n : ℕ) (e : LexError) → front_at s ≡ Some (Gap, n) → HasLexFault origins room (at + n) (drop n s) e → HasLexFault origins room at s e
  refuses_gap room at s n e h d =
      let len : length (take n s) ≡ n = length-take-le n s (front_is s (Gap, n) h).within in
      gap (take n s) (found_first s (Gap, n) h) (subst (λ k. HasLexFault origins room (at + k) (drop n s) e) (sym len) d)

  pub lexes_token : (room at : ℕ) (first : Bool) (s : Text) (kind : Kind) (n : ℕ) (ts : List Token) → front_at s ≡ Some (Sound kind, n) → Lexes origins room (at + n) false (drop n s) ts →
      Lexes origins (suc room) at first s (token_at origins kind at n first ∷ ts)
  lexes_token room at first s kind n ts h d =
      let len : length (take n s) ≡ n = length-take-le n s (front_is s (Sound kind, n) h).within in
      subst (λ k. Lexes origins (suc room) at first s (token_at origins kind at k first ∷ ts)) len
      (token (take n s) kind (found_first s (Sound kind, n) h) (subst (λ k. Lexes origins room (at + k) false (drop n s) ts) (sym len) d))

  pub refuses_token : (room at : ℕ) (s : Text) (kind : Kind) (n : ℕ) (e : LexError) → front_at s ≡ Some (Sound kind, n) → HasLexFault origins room (at + n) (drop n s) e → HasLexFault origins (suc room) at s e
  refuses_token room at s kind n e h d =
      let len : length (take n s) ≡ n = length-take-le n s (front_is s (Sound kind, n) h).within in
      token (take n s) kind (found_first s (Sound kind, n) h) (subst (λ k. HasLexFault origins room (at + k) (drop n s) e) (sym len) d)

  pub refuses_full : (at : ℕ) (s : Text) (kind : Kind) (n : ℕ) → front_at s ≡ Some (Sound kind, n) → HasLexFault origins zero at s (TooManyTokens (origin_at origins at).offset)
  refuses_full at s kind n h = full (take n s) kind (found_first s (Sound kind, n) h)

  pub refuses_faulty : (room at : ℕ) (s : Text) (fault : _) (n : ℕ) → front_at s ≡ Some (Faulty fault, n) → HasLexFault origins room at s (refusal fault (origin_at origins at).offset)
  refuses_faulty room at s fault n h = faulty (take n s) fault (found_first s (Faulty fault, n) h)

  pub refuses_unknown : (room at b : ℕ) (s : Text) → is_line_end b ≡ false → front_at (b ∷ s) ≡ None → HasLexFault origins room at (b ∷ s) (BadByte (origin_at origins at).offset)
  refuses_unknown room at b s goes_on h = unknown goes_on (none_found (b ∷ s) h)

  -- ---- each text has a reading

  abbrev pub Reading : ℕ → ℕ → Bool → Text → Type 0
  Reading room at first s = ((ts : List Token) × Lexes origins room at first s ts) ⊎ ((e : LexError) × HasLexFault origins room at s e)

  front_reading : (fuel room at b : ℕ) (first : Bool) (s : Text) → ((room at : ℕ) (first : Bool) (s : Text) → length s ≤ fuel → Reading room at first s) → length s ≤ fuel → is_line_end b ≡ false →
      Reading room at first (b ∷ s)
  front_reading fuel room at b first s below low line_no = at_found (front_at (b ∷ s)) refl
    where
      shorter : (p : Piece) → front_at (b ∷ s) ≡ Some p → length (drop p.1 (b ∷ s)) ≤ fuel
      shorter p is = let some = (front_is (b ∷ s) p is).some in omega (arith, length-drop p.1 (b ∷ s))

      at_room : (room : ℕ) (kind : Kind) (n : ℕ) → front_at (b ∷ s) ≡ Some (Sound kind, n) → Reading room at first (b ∷ s)
      at_room zero kind n is = inr (TooManyTokens (origin_at origins at).offset, refuses_full at (b ∷ s) kind n is)
      at_room (suc room) kind n is = elim (below room (at + n) false (drop n (b ∷ s)) (shorter (Sound kind, n) is)) [
        | inl r ↦ inl (token_at origins kind at n first ∷ r.0, lexes_token room at first (b ∷ s) kind n r.0 is r.1)
        | inr r ↦ inr (r.0, refuses_token room at (b ∷ s) kind n r.0 is r.1)
      ]

      at_piece : (lexeme : Lexeme) (n : ℕ) → front_at (b ∷ s) ≡ Some (lexeme, n) → Reading room at first (b ∷ s)
      at_piece (Sound kind) n is = at_room room kind n is
      at_piece Gap n is = elim (below room (at + n) first (drop n (b ∷ s)) (shorter (Gap, n) is)) [
        | inl r ↦ inl (r.0, lexes_gap room at first (b ∷ s) n r.0 is r.1)
        | inr r ↦ inr (r.0, refuses_gap room at (b ∷ s) n r.0 is r.1)
      ]
      at_piece (Faulty fault) n is = inr (refusal fault (origin_at origins at).offset, refuses_faulty room at (b ∷ s) fault n is)

      at_found : (found : Option Piece) → front_at (b ∷ s) ≡ found → Reading room at first (b ∷ s)
      at_found None is = inr (BadByte (origin_at origins at).offset, refuses_unknown room at b s line_no is)
      at_found (Some p) is = at_piece p.0 p.1 is

  line_reading : (room at : ℕ) (first : Bool) (s : Text) → Reading room (at + 1) true s → Reading room at first (10 ∷ s)
  line_reading room at first s (inl r) = inl (r.0, line r.1)
  line_reading room at first s (inr r) = inr (r.0, line r.1)

  pub reading : (fuel room at : ℕ) (first : Bool) (s : Text) → length s ≤ fuel → Reading room at first s
  reading fuel room at first [] low = inl ([], end)
  reading zero room at first (b ∷ s) low = absurd (omega arith)
  reading (suc fuel) room at first (b ∷ s) low = elim (cases_Bool (is_line_end b)) [
    | inl is ↦ subst (λ b. Reading room at first (b ∷ s)) (sym (eqb-true b 10 is)) (line_reading room at first s (reading fuel room (at + 1) true s (omega arith)))
    | inr other ↦ front_reading fuel room at b first s (λ room at first s low. reading fuel room at first s low) (omega arith) other
  ]

  -- ---- no more tokens than there is room for

  pub lexes_few : {room at : ℕ} {first : Bool} {s : Text} {ts : List Token} → Lexes origins room at first s ts → length ts ≤ room
  lexes_few end = omega arith
  lexes_few (line d) = lexes_few d
  lexes_few (gap word f d) = lexes_few d
  lexes_few (token word kind f d) = let few = lexes_few d in omega arith
