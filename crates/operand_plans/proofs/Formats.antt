-- Formats against the types of arguments.
use Rattle.std.proofs.Common.{◌≡◌, ℕ, suc, ◌+◌, ◌<◌, ◌≤◌, Bool, true, false, ◌&&◌, eqb, List, [], ◌∷◌, length, get_or, drop, map, refl, ap, sym, ◌∙◌, arith, inl, inr, drop-cons, drop_of_length-le}
use Rattle.std.proofs.lemmas.Bool.{cases_eq}
use Rattle.std.proofs.lemmas.Bool.Decides.{nat_tests}
use Rattle.c_types.specs.Table.{Types}
use Rattle.c_print.specs.declared.parts.Part.{Part}
use Rattle.c_print.specs.declared.parts.Part.TheVariants as part
use Rattle.static_rules.specs.declared.judged.Operand.{Operand}
use Rattle.operand_plans.specs.Formats.{is_plain}
use Rattle.static_rules.specs.Calls.{fit, prints}

-- what `fit` says, of the types of the arguments alone
abbrev pub kinds_fit : Types → List Part → List ℕ → Bool
kinds_fit types [] [] = true
kinds_fit types [] (x ∷ xs) = false
kinds_fit types (part.Plain text ∷ parts) xs = kinds_fit types parts xs
kinds_fit types (first ∷ parts) [] = false
kinds_fit types (first ∷ parts) (x ∷ xs) = prints types first x && kinds_fit types parts xs

pub fit_kinds : (types : Types) (parts : List Part) (xs : List Operand)
    → kinds_fit types parts (map (λ x. x.kind) xs) ≡ fit types parts xs
fit_kinds types [] [] = refl
fit_kinds types [] (x ∷ xs) = refl
fit_kinds types (part.Plain text ∷ parts) xs = fit_kinds types parts xs
fit_kinds types (part.Number letter flag width long ∷ parts) [] = refl
fit_kinds types (part.Number letter flag width long ∷ parts) (x ∷ xs) =
    ap (λ b. prints types (part.Number letter flag width long) x.kind && b) (fit_kinds types parts xs)
fit_kinds types (part.Str flag width ∷ parts) [] = refl
fit_kinds types (part.Str flag width ∷ parts) (x ∷ xs) =
    ap (λ b. prints types (part.Str flag width) x.kind && b) (fit_kinds types parts xs)

-- ---- one part

plain_first : (types : Types) (p : Part) (ps : List Part) (ks : List ℕ) → is_plain p ≡ true
    → kinds_fit types (p ∷ ps) ks ≡ kinds_fit types ps ks
plain_first types (part.Plain text) ps ks e = refl
plain_first types (part.Number letter flag width long) ps ks e = cc
plain_first types (part.Str flag width) ps ks e = cc

printed_first : (types : Types) (p : Part) (ps : List Part) (k : ℕ) (ks : List ℕ) → is_plain p ≡ false
    → kinds_fit types (p ∷ ps) (k ∷ ks) ≡ (prints types p k && kinds_fit types ps ks)
printed_first types (part.Plain text) ps k ks e = cc
printed_first types (part.Number letter flag width long) ps k ks e = refl
printed_first types (part.Str flag width) ps k ks e = refl

none_first : (types : Types) (p : Part) (ps : List Part) → is_plain p ≡ false → kinds_fit types (p ∷ ps) [] ≡ false
none_first types (part.Plain text) ps e = cc
none_first types (part.Number letter flag width long) ps e = refl
none_first types (part.Str flag width) ps e = refl

-- ---- from a part on, with the arguments from a place on

abbrev pub fit_from : Types → List Part → List ℕ → ℕ → ℕ → Bool
fit_from types parts kinds i j = kinds_fit types (drop i parts) (drop j kinds)

module _ (types : Types) (parts : List Part) (kinds : List ℕ) (i j : ℕ) where
  abbrev from : ℕ → ℕ → Bool
  from m n = fit_from types parts kinds m n

  cut : (p : Part) → i < length parts → p ≡ get_or parts i p → drop i parts ≡ p ∷ drop (i + 1) parts
  cut p h e =
      let more : i + 1 ≡ suc i = omega arith in
      drop-cons parts i p h ∙ (λ n. sym e n ∷ drop (sym more n) parts)

  cut_kinds : (d : ℕ) → j < length kinds → drop j kinds ≡ get_or kinds j d ∷ drop (j + 1) kinds
  cut_kinds d h =
      let more : j + 1 ≡ suc j = omega arith in
      drop-cons kinds j d h ∙ (λ n. get_or kinds j d ∷ drop (sym more n) kinds)

  pub plain_next : (p : Part) → i < length parts → p ≡ get_or parts i p → is_plain p ≡ true → from i j ≡ from (i + 1) j
  plain_next p h e plain =
      ap (λ ps. kinds_fit types ps (drop j kinds)) (cut p h e)
      ∙ plain_first types p (drop (i + 1) parts) (drop j kinds) plain

  next : (p : Part) (d : ℕ) → i < length parts → p ≡ get_or parts i p → is_plain p ≡ false → j < length kinds
      → from i j ≡ (prints types p (get_or kinds j d) && from (i + 1) (j + 1))
  next p d h e other k =
      (λ n. kinds_fit types (cut p h e n) (cut_kinds d k n))
      ∙ printed_first types p (drop (i + 1) parts) (get_or kinds j d) (drop (j + 1) kinds) other

  pub printed_next : (p : Part) (d : ℕ) → i < length parts → p ≡ get_or parts i p → is_plain p ≡ false
      → j < length kinds → prints types p (get_or kinds j d) ≡ true → from i j ≡ from (i + 1) (j + 1)
  printed_next p d h e other k is = next p d h e other k ∙ ap (λ b. b && from (i + 1) (j + 1)) is

  pub not_printed : (p : Part) (d : ℕ) → i < length parts → p ≡ get_or parts i p → is_plain p ≡ false → j < length kinds
      → prints types p (get_or kinds j d) ≡ false → from i j ≡ false
  not_printed p d h e other k is = next p d h e other k ∙ ap (λ b. b && from (i + 1) (j + 1)) is

  pub no_argument : (p : Part) → i < length parts → p ≡ get_or parts i p → is_plain p ≡ false → length kinds ≤ j
      → from i j ≡ false
  no_argument p h e other k =
      (λ n. kinds_fit types (cut p h e n) (drop_of_length-le kinds k n)) ∙ none_first types p (drop (i + 1) parts) other

  all_used : length parts ≤ i → length kinds ≤ j → from i j ≡ true
  all_used h k = (λ n. kinds_fit types (drop_of_length-le parts h n) (drop_of_length-le kinds k n))

  some_left : length parts ≤ i → j < length kinds → from i j ≡ false
  some_left h k = (λ n. kinds_fit types (drop_of_length-le parts h n) (cut_kinds 0 k n))

  pub at_end : length parts ≤ i → j ≤ length kinds → eqb j (length kinds) ≡ from i j
  at_end h k =
      elim (cases_eq j (length kinds)) [
        | inl e ↦ grind (arith, nat_tests, all_used h (omega (arith, e)))
        | inr d ↦ grind (arith, nat_tests, some_left h (omega (arith, k, d)))
      ]
