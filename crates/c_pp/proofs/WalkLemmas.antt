-- Macros are replaced one token after another.
use Rattle.std.proofs.Common.{◌≡◌, ℕ, ◌+◌, ◌-◌, ◌<◌, ◌≤◌, List, [], ◌∷◌, ◌++◌, length, Option, Some, None, false, take, drop, inl, inr, refl, sym, ap, subst, ◌∙◌, arith, append_assoc, append-nil, length-append}
use Rattle.std.specs.Prelude.{slice_get, slice_range}
use Rattle.std.specs.Option.{option_map}
use Rattle.std.proofs.lemmas.Option.{slice_get_past}
use Rattle.std.proofs.lemmas.Bool.{cases_lt}
use Rattle.c_tokens.specs.declared.kind.Kind.TheVariants.{Name as Identifier}
use Rattle.c_tokens.specs.declared.token.Token.{Token}
use Rattle.c_pp.specs.declared.marks.Mark.{Mark}
use Rattle.c_pp.specs.declared.marks.Mark.TheVariants as mark
use Rattle.c_pp.specs.declared.output.Output.{Output}
use Rattle.c_pp.specs.declared.replacement.Macro.{Macro}
use Rattle.c_pp.specs.declared.span.Span.{Span}
use Rattle.c_tokens.specs.Names.{Text, Name, spelling}
use Rattle.c_pp.specs.Macros.{Macros, body_of, IsPlain, on_line}
use Rattle.c_pp.specs.Marked.{held, mark_at}
use Rattle.c_pp.specs.Walks.{IsNumbered, IsSeen, IsUse, Yields, Holds, IsPart, StandsAt, IsKnown, Knows, part, macro_of, macro_at}
use Rattle.c_pp.specs.Walks as w
use Rattle.c_pp.proofs.Parts.{part_same, part_more, part_before, part_past}
use Rattle.c_pp.proofs.Replacing.{on_line-append, yields_append, yields_plain, yields_macro}

-- what stands past the last token
abbrev pub nowhere : Token
nowhere = record { kind = Identifier; start = 0; end = 0; line = 0; first = false }

-- ---- the macro that a token names

module _ (text : Text) (macros : Macros) (name : ℕ → Name) (tokens : List Token) (numbers : List (Option ℕ)) (bodies : List (Option Span)) where
  plain_at : (at : ℕ) (token : Token) (number : Option ℕ) → IsSeen text macros name tokens numbers bodies → slice_get tokens at ≡ Some token →
      held (slice_get numbers at) ≡ number → macro_of bodies number ≡ None → IsPlain text macros token
  plain_at at token None seen there is none named = absurd (let other = seen.numbered.others at token there is in cc)
  plain_at at token (Some number) seen there is none named = by (held (slice_get bodies number)) refl
    where
      by : (body : Option Span) → held (slice_get bodies number) ≡ body → body_of macros (spelling text token) ≡ None
      by None e =
          let n = seen.numbered.named at token number there is in
          ap (body_of macros) n.1 ∙ seen.defined number n.2 ∙ ap (option_map (part tokens)) e
      by (Some body) e = absurd (let x : macro_of bodies (Some number) ≡ Some (record { number = number; body = body }) = ap (option_map (λ (body : Span). record { number = number; body = body })) e in cc)

  pub seen_plain : (at : ℕ) (token : Token) → IsSeen text macros name tokens numbers bodies → slice_get tokens at ≡ Some token →
      macro_at numbers bodies at ≡ None → IsPlain text macros token
  unfolding macro_at
  seen_plain at token seen there none = plain_at at token (held (slice_get numbers at)) seen there refl none

  use_at : (at : ℕ) (token : Token) (number : Option ℕ) (found : Macro) → IsSeen text macros name tokens numbers bodies → slice_get tokens at ≡ Some token →
      held (slice_get numbers at) ≡ number → macro_of bodies number ≡ Some found → IsUse text macros name tokens (length bodies) at found
  use_at at token None found seen there is some = absurd cc
  use_at at token (Some number) found seen there is some = by (held (slice_get bodies number)) refl
    where
      by : (body : Option Span) → held (slice_get bodies number) ≡ body → IsUse text macros name tokens (length bodies) at found
      by None e = absurd (let x : macro_of bodies (Some number) ≡ None = ap (option_map (λ (body : Span). record { number = number; body = body })) e in cc)
      by (Some body) e =
          let n = seen.numbered.named at token number there is in
          let x : macro_of bodies (Some number) ≡ Some (record { number = number; body = body }) = ap (option_map (λ (body : Span). record { number = number; body = body })) e in
          let f : record { number = number; body = body } ≡ found = cc in
          subst (λ (m : Macro). IsUse text macros name tokens (length bodies) at m) f
          (record {
            token = token;
            stands = there;
            is_macro = (n.0, ap (body_of macros) n.1 ∙ seen.defined number n.2 ∙ ap (option_map (part tokens)) e);
            named = n.1;
            counted = n.2;
          })

  pub seen_macro : (at : ℕ) (token : Token) (found : Macro) → IsSeen text macros name tokens numbers bodies → slice_get tokens at ≡ Some token →
      macro_at numbers bodies at ≡ Some found → IsUse text macros name tokens (length bodies) at found
  unfolding macro_at
  seen_macro at token found seen there some = use_at at token (held (slice_get numbers at)) found seen there refl some

below_at : (bodies : List (Option Span)) (number : Option ℕ) (found : Macro) → macro_of bodies number ≡ Some found → found.number < length bodies
below_at bodies None found some = absurd cc
below_at bodies (Some number) found some = elim (cases_lt number (length bodies)) [
  | inl low ↦ by (held (slice_get bodies number)) refl low
  | inr high ↦ absurd (let none : macro_of bodies (Some number) ≡ None = ap (λ (b : Option (Option Span)). option_map (λ (body : Span). record { number = number; body = body }) (held b)) (slice_get_past bodies number high) in cc)
]
  where
    by : (body : Option Span) → held (slice_get bodies number) ≡ body → number < length bodies → found.number < length bodies
    by None e low = absurd (let x : macro_of bodies (Some number) ≡ None = ap (option_map (λ (body : Span). record { number = number; body = body })) e in cc)
    by (Some body) e low =
        let x : macro_of bodies (Some number) ≡ Some (record { number = number; body = body }) = ap (option_map (λ (body : Span). record { number = number; body = body })) e in
        let f : record { number = number; body = body } ≡ found = cc in
        let n : number ≡ found.number = ap (λ (m : Macro). m.number) f in
        omega arith

pub macro_below : (numbers : List (Option ℕ)) (bodies : List (Option Span)) (at : ℕ) (found : Macro) → macro_at numbers bodies at ≡ Some found → found.number < length bodies
unfolding macro_at
macro_below numbers bodies at found some = below_at bodies (held (slice_get numbers at)) found some

-- ---- all of a span

pub past_all : (tokens : List Token) (span : Span) (at : ℕ) → length tokens ≤ at → at < span.end → slice_range tokens span.start at ≡ part tokens span
past_all tokens span at past low = part_past tokens span.start at span.end past (omega arith)

pub all_put : (tokens : List Token) (span : Span) (at : ℕ) → span.end ≤ at → (span.start ≤ span.end → at ≤ span.end) → (span.end < span.start → at ≡ span.start) →
    slice_range tokens span.start at ≡ part tokens span
all_put tokens span at high within empty = elim (cases_lt span.end span.start) [
  | inl none ↦ (
      let e = empty none in
      let n : at - span.start ≡ span.end - span.start = omega arith in
      ap (λ k. take k (drop span.start tokens)) n)
  | inr some ↦ (let low = within some in let e : at ≡ span.end = omega arith in ap (λ k. slice_range tokens span.start k) e)
]

-- ---- what is known stays known

pub part_grown : (made more : List Token) (span : Span) (piece : List Token) → StandsAt made span piece → StandsAt (made ++ more) span piece
part_grown made more span piece stands few =
    let n = length-append made more in
    let p = stands (omega arith) in
    record {
      line = p.line;
      same = part_before made more span.start span.end p.within ∙ p.same;
      ordered = p.ordered;
      within = (let within = p.within in omega arith);
    }

module _ (text : Text) (macros : Macros) where
  known_grown : (word : Name) (made more : List Token) (span : Span) → IsKnown text macros word made span → IsKnown text macros word (made ++ more) span
  known_grown word made more span k = record { body = k.body; piece = k.piece; is_body = k.is_body; yields = k.yields; stands = part_grown made more span k.piece k.stands }

  pub knows_grown : (name : ℕ → Name) (marks : List (Option Mark)) (made more : List Token) → Knows text macros name marks made → Knows text macros name marks (made ++ more)
  knows_grown name marks made more knows number span is = known_grown (name number) made more span (knows number span is)

  -- ---- what was put out of some tokens

  -- the tokens from the span's start up to `at` were put out
  pub record IsPutOut (tokens : List Token) (span : Span) (line : ℕ) (made : List Token) (output : Output) (at : ℕ) : Type 0 where
    pub piece : List Token
    pub yields : Yields text macros (slice_range tokens span.start at) piece
    pub holds : Holds output (made ++ on_line line piece)

  pub put_none : (tokens : List Token) (span : Span) (line : ℕ) (made : List Token) (output : Output) → Holds output made → IsPutOut tokens span line made output span.start
  put_none tokens span line made output h = record {
    piece = [];
    yields = subst (λ (l : List Token). Yields text macros l []) (sym (part_same tokens span.start)) w.end;
    holds = subst (λ (l : List Token). Holds output l) (sym (append-nil made)) h;
  }

  put_more : (tokens : List Token) (span : Span) (line : ℕ) (made : List Token) (old output : Output) (at : ℕ) (token : Token) (more : List Token) → span.start ≤ at → slice_get tokens at ≡ Some token →
      (before : IsPutOut tokens span line made old at) → Yields text macros (token ∷ []) more → Holds output ((made ++ on_line line before.piece) ++ on_line line more) →
      IsPutOut tokens span line made output (at + 1)
  put_more tokens span line made old output at token more low there before yields h = record {
    piece = before.piece ++ more;
    yields = subst (λ (l : List Token). Yields text macros l (before.piece ++ more)) (sym (part_more tokens span.start at token low there)) (yields_append text macros before.yields yields);
    holds = subst (λ (l : List Token). Holds output l)
        (append_assoc made (on_line line before.piece) (on_line line more) ∙ ap (λ l. made ++ l) (sym (on_line-append line before.piece more))) h;
  }

  -- a token that is no macro's name was put out
  pub put_plain : (tokens : List Token) (span : Span) (line : ℕ) (made : List Token) (old output : Output) (at : ℕ) (token : Token) → span.start ≤ at → slice_get tokens at ≡ Some token →
      IsPlain text macros token → (before : IsPutOut tokens span line made old at) → Holds output ((made ++ on_line line before.piece) ++ record token { line = line } ∷ []) →
      IsPutOut tokens span line made output (at + 1)
  put_plain tokens span line made old output at token low there plain before h =
      put_more tokens span line made old output at token (token ∷ []) low there before (yields_plain text macros token plain) h

  -- what stands for a macro that is known was put out again
  pub put_known : (name : ℕ → Name) (count : ℕ) (tokens : List Token) (span : Span) (line : ℕ) (made : List Token) (old output : Output) (at : ℕ) (found : Macro) (marks : List (Option Mark)) (there : Span) →
      span.start ≤ at → IsUse text macros name tokens count at found → Knows text macros name marks made → mark_at marks found.number ≡ Some (mark.Known there) →
      (before : IsPutOut tokens span line made old at) →
      ((piece : List Token) → Holds old (made ++ on_line line before.piece) → StandsAt (made ++ on_line line before.piece) there piece →
      Holds output ((made ++ on_line line before.piece) ++ on_line line piece)) →
      IsPutOut tokens span line made output (at + 1)
  put_known name count tokens span line made old output at found marks there low found_use knows is before again =
      let k = knows found.number there is in
      let x = k.is_body in
      let y = found_use.is_macro.1 in
      let n = ap (body_of macros) found_use.named in
      let bodies : k.body ≡ part tokens found.body = cc in
      put_more tokens span line made old output at found_use.token k.piece low found_use.stands before
      (yields_macro text macros found_use.token (part tokens found.body) k.piece found_use.is_macro (subst (λ (l : List Token). Yields text macros l k.piece) bodies k.yields))
      (again k.piece before.holds (part_grown made (on_line line before.piece) there k.piece k.stands))
