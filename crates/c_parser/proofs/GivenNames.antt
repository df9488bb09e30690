-- Names that are given by their numbers.
use Rattle.std.proofs.Common.{◌≡◌, ℕ, ◌<◌, List, [], ◌∷◌, map, length, Some, refl, ap, ◌∙◌}
use Rattle.std.specs.Prelude.{slice_get, All}
use Rattle.std.proofs.lemmas.List.Elements.{All-nil, All-cons}
use Rattle.c_tokens.specs.Names.{Name}
use Rattle.token_texts.specs.Texts.{Texts, name_of}
use Rattle.token_texts.proofs.Lists.{get_or-there, get-low}

module _ (texts : Texts) where
  abbrev Stand : List ℕ → List Name → Type 0
  Stand numbers given = map (slice_get texts.names) numbers ≡ map (λ (name : Name). Some name) given

  pub given_names : (numbers : List ℕ) (given : List Name) → Stand numbers given → map (name_of texts) numbers ≡ given
  given_names [] [] h = refl
  given_names [] (name ∷ given) h = absurd cc
  given_names (n ∷ numbers) [] h = absurd cc
  given_names (n ∷ numbers) (name ∷ given) h =
      let first : slice_get texts.names n ≡ Some name = cc in
      let rest : Stand numbers given = cc in
      let is : name_of texts n ≡ name = get_or-there texts.names n name [] first in
      ap (λ (x : Name). x ∷ map (name_of texts) numbers) is ∙ ap (λ (l : List Name). name ∷ l) (given_names numbers given rest)

  pub given_low : (numbers : List ℕ) (given : List Name) → Stand numbers given → All (λ n. n < length texts.names) numbers
  given_low [] [] h = All-nil (λ n. n < length texts.names)
  given_low [] (name ∷ given) h = absurd cc
  given_low (n ∷ numbers) [] h = absurd cc
  given_low (n ∷ numbers) (name ∷ given) h =
      let first : slice_get texts.names n ≡ Some name = cc in
      let rest : Stand numbers given = cc in
      All-cons (λ n. n < length texts.names) n numbers (get-low texts.names n name first) (given_low numbers given rest)
