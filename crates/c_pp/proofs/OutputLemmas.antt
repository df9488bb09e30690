-- What was put out, and parts of it that come again.
use Rattle.std.proofs.Common.{◌≡◌, ℕ, ◌+◌, ◌-◌, ◌<◌, ◌≤◌, min, List, [], ◌∷◌, ◌++◌, length, Some, Bool, true, false, inl, inr, sym, ap, subst, ◌∙◌, arith, append_assoc, append-nil, length-append}
use Rattle.std.specs.Prelude.{slice_get, slice_range, MatchBool}
use Rattle.std.proofs.lemmas.List.{length-take, length-drop}
use Rattle.std.proofs.lemmas.Bool.{cases_Bool, cases_lt}
use Rattle.c_tokens.specs.declared.token.Token.{Token}
use Rattle.c_pp.specs.declared.output.Output.{Output}
use Rattle.c_pp.specs.declared.span.Span.{Span}
use Rattle.c_pp.specs.Macros.{on_line}
use Rattle.c_tokens.specs.Limits.{max_tokens}
use Rattle.c_pp.specs.Walks.{Holds, StandsAt, IsPart}
use Rattle.c_pp.proofs.Parts.{part_same, part_more, slice_get_before}
use Rattle.c_pp.proofs.Replacing.{on_line-append, on_line-again, length-on_line}

-- ---- the two sides of `Holds`

pub whole : (output : Output) (made : List Token) → output.is_over ≡ false → Holds output made → (output.tokens.items ≡ made) × (length made ≤ max_tokens)
whole output made e h = subst (λ (over : Bool). MatchBool over (max_tokens < length made) ((output.tokens.items ≡ made) × (length made ≤ max_tokens))) e h

pub over : (output : Output) (made : List Token) → output.is_over ≡ true → Holds output made → max_tokens < length made
over output made e h = subst (λ (over : Bool). MatchBool over (max_tokens < length made) ((output.tokens.items ≡ made) × (length made ≤ max_tokens))) e h

pub is_over : (output : Output) (made : List Token) → output.is_over ≡ true → max_tokens < length made → Holds output made
is_over output made e h = subst (λ (over : Bool). MatchBool over (max_tokens < length made) ((output.tokens.items ≡ made) × (length made ≤ max_tokens))) (sym e) h

-- as long as it is not too much, it is there
pub not_over : (output : Output) (made : List Token) → Holds output made → length made ≤ max_tokens → output.is_over ≡ false
not_over output made h low = elim (cases_Bool output.is_over) [
  | inl y ↦ absurd (let high = over output made y h in omega arith)
  | inr n ↦ n
]

pub more_length : (made : List Token) (line : ℕ) (piece : List Token) → length (made ++ on_line line piece) ≡ length made + length piece
more_length made line piece = let a = length-append made (on_line line piece) in let b = length-on_line line piece in omega arith

-- ---- a part that comes again

-- a part is no longer than the places that it has
range_length : (made : List Token) (start at : ℕ) → length (slice_range made start at) ≤ at - start
range_length made start at = let e : length (slice_range made start at) ≡ min (at - start) (length made - start) = simp (length-take, length-drop) in omega arith

whole_length : (made : List Token) (start at : ℕ) → at ≤ length made → length (slice_range made start at) ≡ at - start
whole_length made start at low = let e : length (slice_range made start at) ≡ min (at - start) (length made - start) = simp (length-take, length-drop) in omega arith

piece_length : (made piece : List Token) (span : Span) → IsPart made span piece → length piece ≡ span.end - span.start
piece_length made piece span p =
    let a = ap length p.same in
    let b = length-on_line p.line piece in
    let c = whole_length made span.start span.end p.within in
    omega arith

pub again_first : (output : Output) (made : List Token) (span : Span) (line : ℕ) → Holds output made → Holds output (made ++ on_line line (slice_range made span.start span.start))
again_first output made span line h =
    let e : made ≡ made ++ on_line line (slice_range made span.start span.start) = sym (append-nil made) ∙ ap (λ l. made ++ on_line line l) (sym (part_same made span.start)) in
    subst (λ (l : List Token). Holds output l) e h

-- one token more
pub again_more : (output : Output) (made piece : List Token) (span : Span) (line at : ℕ) (token : Token) → output.is_over ≡ false → StandsAt made span piece →
    span.start ≤ at → at < span.end → slice_get output.tokens.items at ≡ Some token → Holds output (made ++ on_line line (slice_range made span.start at)) →
    (made ++ on_line line (slice_range made span.start at)) ++ record token { line = line } ∷ [] ≡ made ++ on_line line (slice_range made span.start (at + 1))
again_more output made piece span line at token sound stands low high is h =
    let w = whole output (made ++ on_line line (slice_range made span.start at)) sound h in
    let n = more_length made line (slice_range made span.start at) in
    let p = stands (let few = w.1 in omega arith) in
    let there : slice_get made at ≡ Some token =
    sym (slice_get_before made (on_line line (slice_range made span.start at)) at (let within = p.within in omega arith)) ∙ ap (λ l. slice_get l at) (sym w.0) ∙ is in
    append_assoc made (on_line line (slice_range made span.start at)) (record token { line = line } ∷ [])
    ∙ ap (λ l. made ++ l) (sym (on_line-append line (slice_range made span.start at) (token ∷ [])))
    ∙ ap (λ l. made ++ on_line line l) (sym (part_more made span.start at token low there))

-- the token is there
pub again_there : (output : Output) (made piece : List Token) (span : Span) (line at : ℕ) → output.is_over ≡ false → StandsAt made span piece → at < span.end →
    Holds output (made ++ on_line line (slice_range made span.start at)) → length output.tokens.items ≤ at → ⊥
again_there output made piece span line at sound stands high h past =
    let w = whole output (made ++ on_line line (slice_range made span.start at)) sound h in
    let n = more_length made line (slice_range made span.start at) in
    let p = stands (let few = w.1 in omega arith) in
    let within = p.within in
    let all = ap length w.0 in
    absurd (omega arith)

-- all of it
pub again_all : (old output : Output) (made piece : List Token) (span : Span) (line at : ℕ) → Holds old made → StandsAt made span piece →
    (span.start ≤ span.end → at ≤ span.end) → (output.is_over ≡ false → span.end ≤ at) →
    Holds output (made ++ on_line line (slice_range made span.start at)) → Holds output (made ++ on_line line piece)
again_all old output made piece span line at first stands below reached h = elim (cases_Bool output.is_over) [
  | inl y ↦ is_over output (made ++ on_line line piece) y (enough y)
  | inr n ↦ subst (λ (l : List Token). Holds output l) (same n) h
]
  where
    long : output.is_over ≡ true → max_tokens < length made + length (slice_range made span.start at)
    long y = let a = over output (made ++ on_line line (slice_range made span.start at)) y h in let b = more_length made line (slice_range made span.start at) in omega arith

    enough : output.is_over ≡ true → max_tokens < length (made ++ on_line line piece)
    enough y =
        let n = more_length made line piece in
        elim (cases_lt max_tokens (length made)) [
          | inl much ↦ omega arith
          | inr few ↦ (
              let p = stands few in
              let l = piece_length made piece span p in
              let k = range_length made span.start at in
              let b = below p.ordered in
              let a = long y in
              omega arith)
        ]

    same : output.is_over ≡ false → made ++ on_line line (slice_range made span.start at) ≡ made ++ on_line line piece
    same n =
        let w = whole output (made ++ on_line line (slice_range made span.start at)) n h in
        let k = more_length made line (slice_range made span.start at) in
        let p = stands (let few = w.1 in omega arith) in
        let b = below p.ordered in
        let r = reached n in
        let e : at ≡ span.end = omega arith in
        ap (λ k. made ++ on_line line (slice_range made span.start k)) e ∙ ap (λ l. made ++ on_line line l) p.same ∙ ap (λ l. made ++ l) (on_line-again line p.line piece)
