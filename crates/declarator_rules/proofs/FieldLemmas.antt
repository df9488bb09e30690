-- Fields of types of a table, one after another.
use Rattle.std.proofs.Common.{◌≡◌, ℕ, ◌+◌, ◌≤◌, ◌<◌, List, length, get_or, sym, subst, ⊎_elim, arith}
use Rattle.std.specs.Prelude.{nat_eq}
use Rattle.std.proofs.lemmas.Bool.{cases_Bool, eqb-true, eqb-false}
use Rattle.std.proofs.lemmas.List.{get_or_read}
use Rattle.c_types.specs.declared.kinds.Field.{Field}
use Rattle.c_types.specs.Calls.{AreFields}
use Rattle.c_types.specs.Table.{Types, IsNumber}

module _ (types : Types) (fields : List Field) where
  -- so many are
  abbrev pub KnownBelow : ℕ → Type 0
  KnownBelow i = (k : ℕ) (d : Field) → k < i → IsNumber types (get_or fields k d).kind

  pub known_more : (i : ℕ) (f : Field) → i < length fields → f ≡ get_or fields i f → IsNumber types f.kind → KnownBelow i →
      KnownBelow (i + 1)
  known_more i f within is known before k d less =
      ⊎_elim
      (λ y. subst (λ n. IsNumber types (get_or fields n d).kind) (sym (eqb-true k i y))
      (subst (λ (x : Field). IsNumber types x.kind) (get_or_read fields i f within is d) known))
      (λ n. let other = eqb-false k i n in before k d (omega (arith, less, other)))
      (cases_Bool (nat_eq k i))

  pub all_known : (i : ℕ) → length fields ≤ i → KnownBelow i → AreFields types fields
  all_known i end before f (k, within, is) =
      subst (λ (x : Field). IsNumber types x.kind) is (before k f (omega (arith, within, end)))
