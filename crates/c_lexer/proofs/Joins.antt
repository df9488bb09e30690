-- Joined lines, byte by byte.
use Rattle.std.proofs.Common.{◌≡◌, ℕ, ◌+◌, ◌<◌, ◌≤◌, Bool, true, false, List, [], ◌∷◌, ◌++◌, length, get_or, drop, map, refl, sym, ap, subst, ◌∙◌, arith, append_assoc, append-nil, cond, length-append, inl, inr}
use Rattle.std.proofs.lemmas.List.{drop_more, drop_all, length-map, get_or_append_left, get_or_at}
use Rattle.std.proofs.lemmas.Bool.{cases_lt}
use Rattle.c_lexer.specs.declared.joined.Origin.{Origin}
use Rattle.c_lexer.specs.Bytes.{Text, is_line_end}
use Rattle.c_lexer.specs.Joined.{joins, spots, text_spots, joined_bytes, joined_origins}
use Rattle.c_lexer.specs.Lexes.{origin_at, AreSmall}

abbrev pub Spot : Type 0
Spot = ℕ × Origin

abbrev pub next_line : ℕ → ℕ → ℕ
next_line line b = cond (is_line_end b) (line + 1) line

pub spots_nil : (before at line : ℕ) → spots before at line [] ≡ []
unfolding spots
spots_nil before at line = refl

pub spots_dropped : (before at line b : ℕ) (s : Text) → joins before b s ≡ true → spots before at line (b ∷ s) ≡ spots b (at + 1) (next_line line b) s
unfolding spots
spots_dropped before at line b s h = rw h refl

pub spots_kept : (before at line b : ℕ) (s : Text) → joins before b s ≡ false → spots before at line (b ∷ s) ≡ (b, record { offset = at; line = line }) ∷ spots b (at + 1) (next_line line b) s
unfolding spots
spots_kept before at line b s h = rw h refl

-- ---- the loop

module _ {X : Type 0} (part : Spot → X) where
  pub dropped_step : (all : List X) (before at line : ℕ) (text : Text) (whole : List X) → at < length text → joins before (get_or text at 0) (drop (at + 1) text) ≡ true →
      all ++ map part (spots before at line (drop at text)) ≡ whole →
      all ++ map part (spots (get_or text at 0) (at + 1) (next_line line (get_or text at 0)) (drop (at + 1) text)) ≡ whole
  dropped_step all before at line text whole low h same =
      ap (λ t. all ++ map part t) (sym (spots_dropped before at line (get_or text at 0) (drop (at + 1) text) h) ∙ ap (spots before at line) (sym (drop_more text at 0 low))) ∙ same

  pub kept_step : (all : List X) (before at line : ℕ) (text : Text) (whole : List X) → at < length text → joins before (get_or text at 0) (drop (at + 1) text) ≡ false →
      all ++ map part (spots before at line (drop at text)) ≡ whole →
      (all ++ part (get_or text at 0, record { offset = at; line = line }) ∷ []) ++ map part (spots (get_or text at 0) (at + 1) (next_line line (get_or text at 0)) (drop (at + 1) text)) ≡ whole
  kept_step all before at line text whole low h same =
      append_assoc all (part (get_or text at 0, record { offset = at; line = line }) ∷ []) _
      ∙ ap (λ t. all ++ map part t) (sym (spots_kept before at line (get_or text at 0) (drop (at + 1) text) h) ∙ ap (spots before at line) (sym (drop_more text at 0 low))) ∙ same

  pub over_step : (all : List X) (before at line : ℕ) (text : Text) (whole : List X) → length text ≤ at → all ++ map part (spots before at line (drop at text)) ≡ whole → all ≡ whole
  over_step all before at line text whole high same =
      sym (append-nil all) ∙ ap (λ t. all ++ map part t) (sym (ap (spots before at line) (drop_all at text high) ∙ spots_nil before at line)) ∙ same

pub bytes_begin : (text : Text) → [] ++ map (λ (spot : Spot). spot.0) (spots 0 0 1 (drop 0 text)) ≡ joined_bytes text
unfolding text_spots
bytes_begin text = refl

pub origins_begin : (text : Text) → [] ++ map (λ (spot : Spot). spot.1) (spots 0 0 1 (drop 0 text)) ≡ joined_origins text
unfolding text_spots
origins_begin text = refl

pub small_later : (high : ℕ) (origins : List Origin) → AreSmall high origins → AreSmall (high + 1) origins
small_later high origins small k low = let s = small k low in omega arith

pub small_push : (high line : ℕ) (origins : List Origin) → AreSmall high origins → AreSmall (high + 1) (origins ++ record { offset = high; line = line } ∷ [])
small_push high line origins small k low = elim (cases_lt k (length origins)) [
  | inl before ↦ (
      let same : origin_at (origins ++ record { offset = high; line = line } ∷ []) k ≡ origin_at origins k = get_or_append_left origins (record { offset = high; line = line } ∷ []) (record { offset = 0; line = 0 }) k before in
      let s = small k before in
      subst (λ (p : Origin). p.offset < high + 1) (sym same) (omega arith))
  | inr past ↦ (
      let all = length-append origins (record { offset = high; line = line } ∷ []) in
      let last : length origins ≡ k = omega arith in
      let same : origin_at (origins ++ record { offset = high; line = line } ∷ []) k ≡ record { offset = high; line = line } = get_or_at origins (record { offset = high; line = line }) [] (record { offset = 0; line = 0 }) k last in
      subst (λ (p : Origin). p.offset < high + 1) (sym same) (omega arith))
]

pub alike : (text : Text) → length (joined_bytes text) ≡ length (joined_origins text)
alike text = length-map (text_spots text) (λ (spot : Spot). spot.0) ∙ sym (length-map (text_spots text) (λ (spot : Spot). spot.1))

pub next_low : (line b at : ℕ) → line ≤ at + 1 → next_line line b ≤ at + 1 + 1
next_low line b at h = on_test (is_line_end b)
  where
    on_test : (t : Bool) → cond t (line + 1) line ≤ at + 1 + 1
    on_test true = omega arith
    on_test false = omega arith
