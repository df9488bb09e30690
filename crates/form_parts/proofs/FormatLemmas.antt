-- Bytes that string literals mean together, compared one literal after another.
use Rattle.std.proofs.Common.{◌≡◌, ℕ, suc, ◌+◌, ◌-◌, ◌<◌, ◌≤◌, Bool, true, false, List, [], ◌∷◌, ◌++◌, take, drop, length, refl, sym, ap, ◌∙◌, arith}
use Rattle.std.specs.Prelude.{nat_eq}
use Rattle.std.specs.Str.{bytes_eq}
use Rattle.std.proofs.Math.Dec.{eqb-suc-zero}
use Rattle.std.proofs.Math.Seq.{drop-append_seam, take-append_seam}
use Rattle.std.proofs.lemmas.List.{take-append-drop}
use Rattle.std.proofs.lemmas.Bool.Decides.{same_from_decides, Decides-like, not_from_Decides}
use Rattle.std.proofs.lemmas.Slice.Eq.{bytes_eq-Decides}
use Rattle.token_texts.specs.Texts.{Texts, number_at, string_of}
use Rattle.form_parts.specs.Formats.{joined_strings}

false_unless : (b : Bool) → (b ≡ true → ⊥) → b ≡ false
false_unless true h = absurd (h refl)
false_unless false h = refl

-- where one begins with the literal, the rest of both is compared
pub bytes_eq-begins : (string more bytes rest : List ℕ) → bytes_eq (take (length string) bytes) string ≡ true → rest ≡ drop (length string) bytes →
    bytes_eq (string ++ more) bytes ≡ bytes_eq more rest
bytes_eq-begins string more bytes rest begins is =
    let front : take (length string) bytes ≡ string = (bytes_eq-Decides (take (length string) bytes) string).0 begins in
    let whole : string ++ rest ≡ bytes = ap (λ l. string ++ l) is ∙ ap (λ l. l ++ drop (length string) bytes) (sym front) ∙ take-append-drop (length string) bytes in
    same_from_decides (bytes_eq (string ++ more) bytes) (bytes_eq more rest) (bytes_eq-Decides (string ++ more) bytes)
    (Decides-like (bytes_eq more rest) (λ e. ap (λ l. string ++ l) e ∙ whole)
    (λ e. sym (drop-append_seam string more) ∙ ap (λ l. drop (length string) l) e ∙ sym is) (bytes_eq-Decides more rest))

-- where it does not, they differ
pub bytes_eq-apart : (string more bytes : List ℕ) → bytes_eq (take (length string) bytes) string ≡ false → bytes_eq (string ++ more) bytes ≡ false
bytes_eq-apart string more bytes apart =
    false_unless (bytes_eq (string ++ more) bytes)
    (λ same.
    let whole : string ++ more ≡ bytes = (bytes_eq-Decides (string ++ more) bytes).0 same in
    not_from_Decides (bytes_eq (take (length string) bytes) string) (bytes_eq-Decides (take (length string) bytes) string) apart
    (ap (λ l. take (length string) l) (sym whole) ∙ take-append_seam string more))

pub bytes_eq-nil : (bytes : List ℕ) → bytes_eq [] bytes ≡ nat_eq (length bytes) 0
bytes_eq-nil [] = refl
bytes_eq-nil (b ∷ bytes) = sym (eqb-suc-zero (length bytes))

module _ (texts : Texts) where
  pub joined_strings-end : (token end : ℕ) → end ≤ token → joined_strings texts (end - token) token ≡ []
  unfolding joined_strings
  joined_strings-end token end last = let e : end - token ≡ 0 = omega arith in rw e refl

  pub joined_strings-more : (token end : ℕ) → token < end →
      joined_strings texts (end - token) token ≡ string_of texts (number_at texts token) ++ joined_strings texts (end - (token + 1)) (token + 1)
  unfolding joined_strings
  joined_strings-more token end more = let e : end - token ≡ suc (end - (token + 1)) = omega arith in rw e refl
