use Rattle.std.proofs.Common.{◌≡◌, ℕ, ◌⊎◌, inl, inr, List, Ok, Err, refl, arith}
use Rattle.std.proofs.lemmas.Bool.{cases_lt}
use Rattle.c_print.specs.declared.parts.Part.{Part}
use Rattle.c_print.specs.declared.machine.State.TheVariants.{Outside}
use Rattle.c_print.specs.Formats.{Parts, BreaksAt}
use Rattle.c_print.specs.Machine.{Reading, reading}
use Rattle.c_print.proofs.Complete.{parts_read, parts_only, bad_found}
use Rattle.c_print.proofs.Sound.{parts_found}
use Rattle.c_print.proofs.laws.law_formats.Goals as goal

one_place : (format : List ℕ) (a b : ℕ) → BreaksAt format a → BreaksAt format b → a ≡ b
one_place format a b one other = elim (cases_lt a b) [
  | inl less ↦ absurd (one.longest.longest b less other.longest.within other.longest.begins)
  | inr more ↦ elim (cases_lt b a) [
    | inl less ↦ absurd (other.longest.longest a less one.longest.within one.longest.begins)
    | inr same ↦ omega (arith, more, same)
  ]
]

one_of_both : (format : List ℕ) (r : Reading) → reading Outside format ≡ r →
    ((parts : List Part) × Parts format parts) ⊎ ((at : ℕ) × BreaksAt format at)
one_of_both format (Ok parts) h = inl (parts, parts_found format parts h)
one_of_both format (Err at) h = inr (at, bad_found format at h)

pub returns : goal.returns
returns c = record {
  one_list = λ format a b p q. parts_only format b a (parts_read format b q) p;
  not_both = λ format has bad. bad.1.no_parts has.0 has.1;
  one_place = one_place;
  one_of_both = λ format. one_of_both format (reading Outside format) refl;
}
