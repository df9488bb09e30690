-- What stands between quotes: its end, its bytes.
use Rattle.std.proofs.Common.{◌≡◌, ℕ, zero, suc, ◌+◌, ◌-◌, ◌<◌, ◌≤◌, Bool, true, false, ◌==◌, inl, inr, List, [], ◌∷◌, ◌++◌, length, take, drop, Option, Some, None, is_some, refl, sym, ap, subst, ◌∙◌, arith, cond, min}
use Rattle.std.proofs.lemmas.Bool.{cases_Bool, eqb-true, eq-eqb, ltb-true, lt-ltb}
use Rattle.std.proofs.lemmas.Bool.Decides.{nat_tests}
use Rattle.std.proofs.Math.Numerals.{one-add}
use Rattle.std.proofs.lemmas.List.{take-append-drop, length-take-le, take_at, drop_at, take-take, take_all, length-take, drop_all, length-drop, append-nil}
use Rattle.std.proofs.lemmas.List.Sums.{prefix_len-le-length}
use Rattle.std.specs.List.{prefix_len}
use Rattle.std.specs.Option.{option_map}
use Rattle.std.specs.Prelude.{nat_lt}
use Rattle.c_tokens.specs.declared.kind.Kind.TheVariants.{Char, Str}
use Rattle.c_lexer.specs.declared.lexeme.Lexeme.{Lexeme}
use Rattle.c_lexer.specs.declared.lexeme.Lexeme.TheVariants.{Sound, Faulty}
use Rattle.c_lexer.specs.declared.lexeme.Fault.TheVariants.{BadEscape}
use Rattle.c_lexer.specs.Bytes.{Text, Each, first_passes, is_octal, is_hexadecimal, is_line_end, digits_value}
use Rattle.c_lexer.specs.Escapes.{Inside, empty, plain, escaped, escapes, escape_byte, IsUnit, itself, letter, octal, hexadecimal, Decodes, nothing, unit, Means, string, bad_string, character, bad_character, signed_byte}
use Rattle.c_lexer.specs.Scan.{Unit, digits_unit, octal_at, hexadecimal_at, escape_at, letter_or, unit_at, meant_bytes, whole_unit, meaning, closing_quote}
use Rattle.c_lexer.proofs.Classes.{run_each, run_stops, run_whole, chosen}

-- ---- the end

pub inside_ends : (quote : ℕ) (body after : Text) → (92 == quote) ≡ false → is_line_end quote ≡ false → Inside quote body →
    closing_quote quote false (body ++ quote ∷ after) ≡ Some (length body)
unfolding closing_quote
inside_ends quote body after q n empty = rw (n, (eq-eqb quote quote refl)) refl
inside_ends quote body after q n (plain {b = b} {s = s} a c d more) = rw (d, a, c) (ap (option_map suc) (inside_ends quote s after q n more))
inside_ends quote body after q n (escaped {b = b} {s = s} d more) = rw (q, d) (ap (λ o. option_map suc (option_map suc o)) (inside_ends quote s after q n more))

abbrev pub IsInside : Bool → ℕ → Text → Type 0
IsInside false quote word = Inside quote word
IsInside true quote word = Inside quote (92 ∷ word)

-- what a place that is found says of the text before it
pub record Closes (quote : ℕ) (held : Bool) (s : Text) (n : ℕ) : Type 0 where
  pub within : n < length s
  pub front : take (suc n) s ≡ take n s ++ quote ∷ []
  pub inside : IsInside held quote (take n s)

mapped : (found : Option ℕ) (n : ℕ) → option_map suc found ≡ Some n → (m : ℕ) × (found ≡ Some m) × (n ≡ suc m)
mapped (Some m) n h = (m, refl, cc)
mapped None n h = absurd cc

pub closed : (quote : ℕ) (held : Bool) (s : Text) (n : ℕ) → closing_quote quote held s ≡ Some n → Closes quote held s n
unfolding closing_quote
closed quote held [] n h = absurd cc
closed quote true (b ∷ s) n h = elim (chosen (is_line_end b) None (option_map suc (closing_quote quote false s)) (Some n) h) [
  | inl line ↦ (let e = line.1 in absurd cc)
  | inr on ↦ (
      let (m, is, len) = mapped (closing_quote quote false s) n on.1 in
      let c = closed quote false s m is in
      subst (λ n. Closes quote true (b ∷ s) n) (sym len) (record {
        within = (let low = c.within in omega arith);
        front = ap (λ t. b ∷ t) c.front;
        inside = escaped on.0 c.inside;
      }))
]
closed quote false (b ∷ s) n h = elim (chosen (is_line_end b) None _ (Some n) h) [
  | inl line ↦ (let e = line.1 in absurd cc)
  | inr on ↦ elim (chosen (b == quote) (Some 0) (option_map suc (closing_quote quote (b == 92) s)) (Some n) on.1) [
    | inl here ↦ (
        let is : 0 ≡ n = (let e = here.1 in cc) in
        subst (λ n. Closes quote false (b ∷ s) n) is (record {
          within = omega arith;
          front = ap (λ c. c ∷ []) (eqb-true b quote here.0);
          inside = empty;
        }))
    | inr more ↦ (
        let (m, is, len) = mapped (closing_quote quote (b == 92) s) n more.1 in
        let c = closed quote (b == 92) s m is in
        subst (λ n. Closes quote false (b ∷ s) n) (sym len) (record {
          within = (let low = c.within in omega arith);
          front = ap (λ t. b ∷ t) c.front;
          inside = at_byte (b == 92) refl on.0 more.0 (take m s) c.inside;
        }))
  ]
]
  where
    at_byte : (t : Bool) → (b == 92) ≡ t → is_line_end b ≡ false → (b == quote) ≡ false → (word : Text) → IsInside t quote word → Inside quote (b ∷ word)
    at_byte true is line apart word i = subst (λ c. Inside quote (c ∷ word)) (sym (eqb-true b 92 is)) i
    at_byte false is line apart word i = plain apart is line i

-- ---- one byte

-- of at most n bytes, as many as there are
run_within : (p : ℕ → Bool) (n : ℕ) (s after : Text) → Each p s → length s ≤ n → (length s < n → first_passes p after ≡ false) → prefix_len p (take n (s ++ after)) ≡ length s
run_within p zero [] after each low stops = refl
run_within p (suc n) [] [] each low stops = refl
run_within p (suc n) [] (c ∷ after) each low stops = rw (stops (omega arith)) refl
run_within p zero (b ∷ s) after each low stops = absurd (omega arith)
run_within p (suc n) (b ∷ s) after each low stops =
    let more = run_within p n s after each.1 (omega arith) (λ less. stops (omega arith)) in
    rw (each.0, one-add (prefix_len p (take n (s ++ after)))) (ap suc more)

octal_letter : (b : ℕ) → is_octal b ≡ true → escape_byte escapes b ≡ None
octal_letter b h = grind (arith, nat_tests)

octal_no_x : (b : ℕ) → is_octal b ≡ true → (b == 120) ≡ false
octal_no_x b h = grind (arith, nat_tests)

small : (base before n b : ℕ) (word after : Text) → n ≡ suc (length word) → digits_value base 0 (b ∷ word) < 256 →
    digits_unit base before (take n (b ∷ word ++ after)) ≡ Some (digits_value base 0 (b ∷ word), before + suc (length word))
small base before n b word after len low =
    let e : take n (b ∷ word ++ after) ≡ b ∷ word = take_at (b ∷ word) after n (sym len) in
    ap (digits_unit base before) e ∙ rw (lt-ltb (digits_value base 0 (b ∷ word)) 256 low) refl

pub unit_complete : {word after : Text} {value : ℕ} → IsUnit word value after → unit_at (word ++ after) ≡ Some (value, length word)
unfolding unit_at escape_at octal_at hexadecimal_at
unit_complete (itself h) = rw h refl
unit_complete (letter h) = rw h refl
unit_complete {after = after} (octal {b = b} {s = s} o each low stops less) =
    let run : prefix_len is_octal (take 3 (b ∷ s ++ after)) ≡ suc (length s) = rw (o, one-add (prefix_len is_octal (take 2 (s ++ after)))) (ap suc (run_within is_octal 2 s after each low stops)) in
    let e : 1 + suc (length s) ≡ suc (suc (length s)) = omega arith in
    rw (octal_letter b o, octal_no_x b o) (small 8 1 (prefix_len is_octal (take 3 (b ∷ s ++ after))) b s after run less ∙ ap (λ n. Some (digits_value 8 0 (b ∷ s), n)) e)
unit_complete {after = after} (hexadecimal {b = b} {s = s} x each stops less) =
    let run : prefix_len is_hexadecimal (b ∷ s ++ after) ≡ suc (length s) = run_whole is_hexadecimal (b ∷ s) after (x, each) stops in
    let e : 2 + suc (length s) ≡ suc (suc (suc (length s))) = omega arith in
    small 16 2 (prefix_len is_hexadecimal (b ∷ s ++ after)) b s after run less ∙ ap (λ n. Some (digits_value 16 0 (b ∷ s), n)) e

pub record IsOne (s : Text) (value n : ℕ) : Type 0 where
  pub within : n ≤ length s
  pub some : 0 < n
  pub is : IsUnit (take n s) value (drop n s)

one_or_none : (base before : ℕ) (word : Text) (value n : ℕ) → digits_unit base before word ≡ Some (value, n) →
    (0 < length word) × (digits_value base 0 word ≡ value) × (before + length word ≡ n) × (value < 256)
one_or_none base before [] value n h = absurd cc
one_or_none base before (b ∷ word) value n h =
    elim (chosen (nat_lt (digits_value base 0 (b ∷ word)) 256) (Some (digits_value base 0 (b ∷ word), before + length (b ∷ word))) None (Some (value, n)) h) [
      | inl c ↦ (
          let both : ◌≡◌ {A = Unit} (digits_value base 0 (b ∷ word), before + length (b ∷ word)) (value, n) = (let e = c.1 in cc) in
          let is : digits_value base 0 (b ∷ word) ≡ value = ap (λ (p : Unit). p.0) both in
          let low = ltb-true (digits_value base 0 (b ∷ word)) 256 c.0 in
          (omega arith, is, ap (λ (p : Unit). p.1) both, subst (λ v. v < 256) is low))
      | inr c ↦ (let e = c.1 in absurd cc)
    ]

octal_most : (s : Text) → length (take (prefix_len is_octal (take 3 s)) s) ≡ prefix_len is_octal (take 3 s)
octal_most s =
    let most = prefix_len-le-length is_octal (take 3 s) in
    let three = length-take 3 s in
    length-take-le (prefix_len is_octal (take 3 s)) s (omega arith)

hexadecimal_most : (s : Text) → length (take (prefix_len is_hexadecimal s) s) ≡ prefix_len is_hexadecimal s
hexadecimal_most s = length-take-le (prefix_len is_hexadecimal s) s (prefix_len-le-length is_hexadecimal s)

-- the digits of an octal escape
octal_one : (k value n : ℕ) (s : Text) → k ≡ prefix_len is_octal (take 3 s) → 0 < k → digits_value 8 0 (take k s) ≡ value → 1 + k ≡ n → value < 256 → IsOne (92 ∷ s) value n
octal_one k value n [] run some is len low = absurd (omega arith)
octal_one zero value n (b ∷ s) run some is len low = absurd (omega arith)
octal_one (suc k) value n (b ∷ s) run some is len low =
    let each : Each is_octal (take (prefix_len is_octal (take 3 (b ∷ s))) (take 3 (b ∷ s))) = run_each is_octal (take 3 (b ∷ s)) in
    let most : prefix_len is_octal (take 3 (b ∷ s)) ≤ length (take 3 (b ∷ s)) = prefix_len-le-length is_octal (take 3 (b ∷ s)) in
    let three : length (take 3 (b ∷ s)) ≡ min 3 (length (b ∷ s)) = length-take 3 (b ∷ s) in
    let own : Each is_octal (take (suc k) (take 3 (b ∷ s))) = subst (λ j. Each is_octal (take j (take 3 (b ∷ s)))) (sym run) each in
    let digits : Each is_octal (take (suc k) (b ∷ s)) = subst (λ t. Each is_octal t) (take-take (suc k) 3 (b ∷ s) (omega arith)) own in
    let taken : length (take k s) ≡ k = length-take-le k s (omega arith) in
    let stops : first_passes is_octal (drop (suc k) (take 3 (b ∷ s))) ≡ false = subst (λ j. first_passes is_octal (drop j (take 3 (b ∷ s))) ≡ false) (sym run) (run_stops is_octal (take 3 (b ∷ s))) in
    let e : suc (suc k) ≡ n = omega arith in
    subst (λ n. IsOne (92 ∷ b ∷ s) value n) e (record {
      within = omega arith;
      some = omega arith;
      is = subst (λ v. IsUnit (92 ∷ b ∷ take k s) v (drop k s)) is
          (octal digits.0 digits.1 (omega arith) (λ less. still k s stops (omega arith)) (subst (λ v. v < 256) (sym is) low));
    })
  where
    still : (k : ℕ) (s : Text) → first_passes is_octal (drop k (take 2 s)) ≡ false → k < 2 → first_passes is_octal (drop k s) ≡ false
    still zero [] h low = refl
    still zero (b ∷ s) h low = h
    still (suc k) [] h low = refl
    still (suc zero) (b ∷ []) h low = refl
    still (suc zero) (b ∷ c ∷ s) h low = h
    still (suc (suc k)) (b ∷ s) h low = absurd (omega arith)

hexadecimal_one : (k value n : ℕ) (s : Text) → k ≡ prefix_len is_hexadecimal s → 0 < k → digits_value 16 0 (take k s) ≡ value → 2 + k ≡ n → value < 256 → IsOne (92 ∷ 120 ∷ s) value n
hexadecimal_one k value n [] run some is len low = absurd (omega arith)
hexadecimal_one zero value n (b ∷ s) run some is len low = absurd (omega arith)
hexadecimal_one (suc k) value n (b ∷ s) run some is len low =
    let digits : Each is_hexadecimal (take (suc k) (b ∷ s)) = subst (λ j. Each is_hexadecimal (take j (b ∷ s))) (sym run) (run_each is_hexadecimal (b ∷ s)) in
    let stops : first_passes is_hexadecimal (drop (suc k) (b ∷ s)) ≡ false = subst (λ j. first_passes is_hexadecimal (drop j (b ∷ s)) ≡ false) (sym run) (run_stops is_hexadecimal (b ∷ s)) in
    let most = prefix_len-le-length is_hexadecimal (b ∷ s) in
    let e : suc (suc (suc k)) ≡ n = omega arith in
    subst (λ n. IsOne (92 ∷ 120 ∷ b ∷ s) value n) e (record {
      within = omega arith;
      some = omega arith;
      is = subst (λ v. IsUnit (92 ∷ 120 ∷ b ∷ take k s) v (drop k s)) is (hexadecimal digits.0 digits.1 stops (subst (λ v. v < 256) (sym is) low));
    })

pub unit_sound : (s : Text) (value n : ℕ) → unit_at s ≡ Some (value, n) → IsOne s value n
unfolding unit_at escape_at octal_at hexadecimal_at
unit_sound [] value n h = absurd cc
unit_sound (b ∷ s) value n h = elim (chosen (b == 92) (escape_at s) (Some (b, 1)) (Some (value, n)) h) [
  | inl c ↦ subst (λ b. IsOne (b ∷ s) value n) (sym (eqb-true b 92 c.0)) (after_backslash s c.1)
  | inr c ↦ (
      let both : ◌≡◌ {A = Unit} (b, 1) (value, n) = (let e = c.1 in cc) in
      subst (λ (p : Unit). IsOne (b ∷ s) p.0 p.1) both (record { within = omega arith; some = omega arith; is = itself c.0 }))
]
  where
    digits : (b : ℕ) (s : Text) → cond (b == 120) (hexadecimal_at s) (octal_at (b ∷ s)) ≡ Some (value, n) → IsOne (92 ∷ b ∷ s) value n
    digits b s h = elim (chosen (b == 120) (hexadecimal_at s) (octal_at (b ∷ s)) (Some (value, n)) h) [
      | inl c ↦ (
          let (some, is, len, low) = one_or_none 16 2 (take (prefix_len is_hexadecimal s) s) value n c.1 in
          let most = hexadecimal_most s in
          subst (λ b. IsOne (92 ∷ b ∷ s) value n) (sym (eqb-true b 120 c.0)) (hexadecimal_one (prefix_len is_hexadecimal s) value n s refl (omega arith) is (omega arith) low))
      | inr c ↦ (
          let (some, is, len, low) = one_or_none 8 1 (take (prefix_len is_octal (take 3 (b ∷ s))) (b ∷ s)) value n c.1 in
          let most = octal_most (b ∷ s) in
          octal_one (prefix_len is_octal (take 3 (b ∷ s))) value n (b ∷ s) refl (omega arith) is (omega arith) low)
    ]

    at_letter : (b : ℕ) (s : Text) (found : Option ℕ) → escape_byte escapes b ≡ found → letter_or found (cond (b == 120) (hexadecimal_at s) (octal_at (b ∷ s))) ≡ Some (value, n) → IsOne (92 ∷ b ∷ s) value n
    at_letter b s (Some v) is h =
        let both : ◌≡◌ {A = Unit} (v, 2) (value, n) = cc in
        subst (λ (p : Unit). IsOne (92 ∷ b ∷ s) p.0 p.1) both (record { within = omega arith; some = omega arith; is = letter is })
    at_letter b s None is h = digits b s h

    after_backslash : (s : Text) → escape_at s ≡ Some (value, n) → IsOne (92 ∷ s) value n
    after_backslash [] h = absurd cc
    after_backslash (b ∷ s) h = at_letter b s (escape_byte escapes b) refl h

-- ---- all bytes

pub meant_bytes_skip : (k : ℕ) (s : Text) → meant_bytes k s ≡ meant_bytes 0 (drop k s)
unfolding meant_bytes
meant_bytes_skip zero s = refl
meant_bytes_skip (suc k) [] = refl
meant_bytes_skip (suc k) (b ∷ s) = meant_bytes_skip k s

pub meant_bytes_unit : (s : Text) (value n : ℕ) → unit_at s ≡ Some (value, n) → meant_bytes 0 s ≡ option_map (λ (bytes : List ℕ). value ∷ bytes) (meant_bytes 0 (drop n s))
unfolding meant_bytes
meant_bytes_unit [] value n h = absurd (let some = (unit_sound [] value n h).some in let low = (unit_sound [] value n h).within in omega arith)
meant_bytes_unit (b ∷ s) value zero h = absurd (let some = (unit_sound (b ∷ s) value zero h).some in omega arith)
meant_bytes_unit (b ∷ s) value (suc n) h =
    let e : suc n - 1 ≡ n = omega arith in
    rw (h, e) (ap (option_map (λ (bytes : List ℕ). value ∷ bytes)) (meant_bytes_skip n s))

pub meant_bytes_none : (s : Text) → 0 < length s → unit_at s ≡ None → meant_bytes 0 s ≡ None
unfolding meant_bytes
meant_bytes_none [] some h = absurd (omega arith)
meant_bytes_none (b ∷ s) some h = rw h refl

pub meant_bytes_nil : meant_bytes 0 [] ≡ Some []
unfolding meant_bytes
meant_bytes_nil = refl

pub decodes_complete : {s : Text} {bytes : List ℕ} → Decodes s bytes → meant_bytes 0 s ≡ Some bytes
decodes_complete nothing = meant_bytes_nil
decodes_complete (unit {word = word} {after = after} {value = value} u more) =
    meant_bytes_unit (word ++ after) value (length word) (unit_complete u)
    ∙ ap (λ t. option_map (λ (bytes : List ℕ). value ∷ bytes) (meant_bytes 0 t)) (drop_at word after (length word) refl)
    ∙ ap (option_map (λ (bytes : List ℕ). value ∷ bytes)) (decodes_complete more)

bytes_mapped : (value : ℕ) (found : Option (List ℕ)) (bytes : List ℕ) → option_map (λ (bytes : List ℕ). value ∷ bytes) found ≡ Some bytes →
    (more : List ℕ) × (found ≡ Some more) × (value ∷ more ≡ bytes)
bytes_mapped value (Some more) bytes h = (more, refl, cc)
bytes_mapped value None bytes h = absurd cc

decodes_up_to : (fuel : ℕ) (s : Text) (bytes : List ℕ) → length s ≤ fuel → meant_bytes 0 s ≡ Some bytes → Decodes s bytes
decodes_up_to fuel [] bytes low h = let is : [] ≡ bytes = (let e = meant_bytes_nil in cc) in subst (λ t. Decodes [] t) is nothing
decodes_up_to zero (b ∷ s) bytes low h = absurd (omega arith)
decodes_up_to (suc fuel) (b ∷ s) bytes low h = at_unit (λ t more low h. decodes_up_to fuel t more low h) (unit_at (b ∷ s)) refl
  where
    at_unit : ((t : Text) (more : List ℕ) → length t ≤ fuel → meant_bytes 0 t ≡ Some more → Decodes t more) → (found : Option Unit) → unit_at (b ∷ s) ≡ found → Decodes (b ∷ s) bytes
    at_unit below None is = absurd (let none = meant_bytes_none (b ∷ s) (omega arith) is in cc)
    at_unit below (Some p) is =
        let one = unit_sound (b ∷ s) p.0 p.1 is in
        let some = one.some in
        let (more, later, all) = bytes_mapped p.0 (meant_bytes 0 (drop p.1 (b ∷ s))) bytes (sym (meant_bytes_unit (b ∷ s) p.0 p.1 is) ∙ h) in
        let shorter : length (drop p.1 (b ∷ s)) ≤ fuel = omega (arith, length-drop p.1 (b ∷ s)) in
        let rest = below (drop p.1 (b ∷ s)) more shorter later in
        subst (λ t. Decodes t bytes) (take-append-drop p.1 (b ∷ s)) (subst (λ t. Decodes (take p.1 (b ∷ s) ++ drop p.1 (b ∷ s)) t) all (unit one.is rest))

pub decodes_sound : (s : Text) (bytes : List ℕ) → meant_bytes 0 s ≡ Some bytes → Decodes s bytes
decodes_sound s bytes h = decodes_up_to (length s) s bytes (omega arith) h

-- ---- what the body is

one_unit : {s : Text} {value : ℕ} → Decodes s (value ∷ []) → unit_at s ≡ Some (value, length s)
one_unit (unit {word = word} {value = value} u nothing) = unit_complete u ∙ ap (λ t. Some (value, length t)) (sym (append-nil word))

unit_one : (s : Text) (value : ℕ) → unit_at s ≡ Some (value, length s) → Decodes s (value ∷ [])
unit_one s value h =
    let one = unit_sound s value (length s) h in
    let front : take (length s) s ≡ s = take_all (length s) s (omega arith) in
    let rest : drop (length s) s ≡ [] = drop_all (length s) s (omega arith) in
    let is : IsUnit s value [] = subst (λ t. IsUnit t value []) front (subst (λ t. IsUnit (take (length s) s) value t) rest one.is) in
    subst (λ t. Decodes t (value ∷ [])) (append-nil s) (unit is nothing)

pub means_complete : {quote : ℕ} {body : Text} {lexeme : Lexeme} → Means quote body lexeme → meaning quote body ≡ lexeme
unfolding meaning
means_complete (string d) = rw (decodes_complete d) refl
means_complete (bad_string {body = body} none) = at_bytes (meant_bytes 0 body) refl
  where
    at_bytes : (found : Option (List ℕ)) → meant_bytes 0 body ≡ found → cond (is_some found) (Sound Str) (Faulty BadEscape) ≡ Faulty BadEscape
    at_bytes None is = refl
    at_bytes (Some bytes) is = absurd (none bytes (decodes_sound body bytes is))
means_complete (character {body = body} {value = value} d) = rw (one_unit d, eq-eqb (length body) (length body) refl) refl
means_complete (bad_character {body = body} none) = at_unit (unit_at body) refl
  where
    at_unit : (found : Option Unit) → unit_at body ≡ found → whole_unit (length body) found ≡ Faulty BadEscape
    at_unit None is = refl
    at_unit (Some p) is = elim (cases_Bool (p.1 == length body)) [
      | inl whole ↦ absurd (none p.0 (unit_one body p.0 (is ∙ ap (λ n. Some (p.0, n)) (eqb-true p.1 (length body) whole))))
      | inr part ↦ rw part refl
    ]

pub means_string : (body : Text) → Means 34 body (meaning 34 body)
unfolding meaning
means_string body = at_bytes (meant_bytes 0 body) refl
  where
    at_bytes : (found : Option (List ℕ)) → meant_bytes 0 body ≡ found → Means 34 body (cond (is_some found) (Sound Str) (Faulty BadEscape))
    at_bytes (Some bytes) is = string (decodes_sound body bytes is)
    at_bytes None is = bad_string (λ (bytes : List ℕ) (d : Decodes body bytes). let e : meant_bytes 0 body ≡ Some bytes = decodes_complete d in cc)

pub means_character : (body : Text) → Means 39 body (meaning 39 body)
unfolding meaning
means_character body = at_unit (unit_at body) refl
  where
    at_unit : (found : Option Unit) → unit_at body ≡ found → Means 39 body (whole_unit (length body) found)
    at_unit None is = bad_character (λ (value : ℕ) (d : Decodes body (value ∷ [])). let e : unit_at body ≡ Some (value, length body) = one_unit d in cc)
    at_unit (Some p) is = at_test (p.1 == length body) refl
      where
        at_test : (t : Bool) → (p.1 == length body) ≡ t → Means 39 body (cond t (Sound (Char (signed_byte p.0))) (Faulty BadEscape))
        at_test true whole = character (unit_one body p.0 (is ∙ ap (λ n. Some (p.0, n)) (eqb-true p.1 (length body) whole)))
        at_test false part = bad_character (λ (value : ℕ) (d : Decodes body (value ∷ [])).
            let other : unit_at body ≡ Some (value, length body) = one_unit d in
            let same : ◌≡◌ {A = Unit} p (value, length body) = cc in
            let len : p.1 ≡ length body = ap (λ (q : Unit). q.1) same in
            let no = eq-eqb p.1 (length body) len in
            cc)
