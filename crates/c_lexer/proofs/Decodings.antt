-- The loops over what stands between quotes.
use Rattle.std.proofs.Common.{◌≡◌, ℕ, ◌+◌, ◌<◌, ◌≤◌, true, false, List, [], ◌∷◌, ◌++◌, length, drop, Option, Some, None, is_some, refl, sym, ap, ◌∙◌, arith, append_assoc, append-nil}
use Rattle.std.proofs.lemmas.List.{drop-drop, drop_all, length-drop}
use Rattle.std.specs.Prelude.{IfSome}
use Rattle.std.specs.Option.{option_map, ForSome}
use Rattle.c_lexer.specs.Bytes.{Text}
use Rattle.c_lexer.specs.Scan.{Unit, unit_at, meant_bytes}
use Rattle.c_lexer.proofs.Units.{unit_sound, meant_bytes_unit, meant_bytes_none, meant_bytes_nil}

pub unit_within : (s : Text) (at : ℕ) (found : Option Unit) → at ≤ length s → found ≡ unit_at (drop at s) → IfSome found (λ p. (0 < p.1) × (at + p.1 ≤ length s))
unit_within s at None low h = tt
unit_within s at (Some p) low h =
    let one = unit_sound (drop at s) p.0 p.1 (sym h) in
    let all = length-drop at s in
    let within = one.within in
    (one.some, omega arith)

later : (s : Text) (at value n : ℕ) → Some (value, n) ≡ unit_at (drop at s) →
    meant_bytes 0 (drop at s) ≡ option_map (λ (bytes : List ℕ). value ∷ bytes) (meant_bytes 0 (drop (at + n) s))
later s at value n h = meant_bytes_unit (drop at s) value n (sym h) ∙ ap (λ t. option_map (λ (bytes : List ℕ). value ∷ bytes) (meant_bytes 0 t)) (drop-drop n at s)

stopped : (s : Text) (at : ℕ) → at < length s → None ≡ unit_at (drop at s) → meant_bytes 0 (drop at s) ≡ None
stopped s at low h = meant_bytes_none (drop at s) (omega (arith, length-drop at s)) (sym h)

ended : (s : Text) (at : ℕ) → length s ≤ at → meant_bytes 0 (drop at s) ≡ Some []
ended s at high = ap (meant_bytes 0) (drop_all at s high) ∙ meant_bytes_nil

still_some : (f : List ℕ → List ℕ) (found : Option (List ℕ)) → is_some (option_map f found) ≡ is_some found
still_some f None = refl
still_some f (Some bytes) = refl

pub means_step : (s : Text) (at value n : ℕ) → Some (value, n) ≡ unit_at (drop at s) → is_some (meant_bytes 0 (drop at s)) ≡ is_some (meant_bytes 0 s) → is_some (meant_bytes 0 (drop (at + n) s)) ≡ is_some (meant_bytes 0 s)
means_step s at value n h same = sym (ap is_some (later s at value n h) ∙ still_some (λ (bytes : List ℕ). value ∷ bytes) (meant_bytes 0 (drop (at + n) s))) ∙ same

pub means_stop : (s : Text) (at : ℕ) → at < length s → None ≡ unit_at (drop at s) → is_some (meant_bytes 0 (drop at s)) ≡ is_some (meant_bytes 0 s) → false ≡ is_some (meant_bytes 0 s)
means_stop s at low h same = sym (ap is_some (stopped s at low h)) ∙ same

pub means_end : (s : Text) (at : ℕ) → length s ≤ at → is_some (meant_bytes 0 (drop at s)) ≡ is_some (meant_bytes 0 s) → true ≡ is_some (meant_bytes 0 s)
means_end s at high same = sym (ap is_some (ended s at high)) ∙ same

abbrev pub onto : List ℕ → Option (List ℕ) → Option (List ℕ)
onto bytes found = option_map (λ (more : List ℕ). bytes ++ more) found

onto_more : (bytes : List ℕ) (value : ℕ) (found : Option (List ℕ)) → onto (bytes ++ value ∷ []) found ≡ onto bytes (option_map (λ (more : List ℕ). value ∷ more) found)
onto_more bytes value None = refl
onto_more bytes value (Some more) = ap Some (append_assoc bytes (value ∷ []) more)

pub decode_step : (s : Text) (at value n : ℕ) (bytes : List ℕ) → Some (value, n) ≡ unit_at (drop at s) → onto bytes (meant_bytes 0 (drop at s)) ≡ meant_bytes 0 s →
    onto (bytes ++ value ∷ []) (meant_bytes 0 (drop (at + n) s)) ≡ meant_bytes 0 s
decode_step s at value n bytes h same = onto_more bytes value (meant_bytes 0 (drop (at + n) s)) ∙ ap (onto bytes) (sym (later s at value n h)) ∙ same

pub decode_begin : (found : Option (List ℕ)) → onto [] found ≡ found
decode_begin None = refl
decode_begin (Some bytes) = refl

pub decode_stop : (s : Text) (at : ℕ) (bytes : List ℕ) → at < length s → None ≡ unit_at (drop at s) → onto bytes (meant_bytes 0 (drop at s)) ≡ meant_bytes 0 s → ForSome (meant_bytes 0 s) (λ meant. bytes ≡ meant)
decode_stop s at bytes low h same meant is = absurd (let none : meant_bytes 0 s ≡ None = sym same ∙ ap (onto bytes) (stopped s at low h) in cc)

pub decode_end : (s : Text) (at : ℕ) (bytes : List ℕ) → length s ≤ at → onto bytes (meant_bytes 0 (drop at s)) ≡ meant_bytes 0 s → ForSome (meant_bytes 0 s) (λ meant. bytes ≡ meant)
decode_end s at bytes high same meant is =
    let all : meant_bytes 0 s ≡ Some (bytes ++ []) = sym same ∙ ap (onto bytes) (ended s at high) in
    let e : bytes ++ [] ≡ bytes = append-nil bytes in
    cc
