use Rattle.std.proofs.Common.{◌≡◌, pos, ap, ◌∙◌, sym, ◌^◌}
use Rattle.std.proofs.lemmas.Int.{to_z-of_z}
use Rattle.std.specs.Int.{w128, cast_signed, cast_unsigned, int_rem_euclid}
use Rattle.std.specs.Prelude.{unsigned_abs}
use Rattle.whole_numbers.specs.Types.{word_of}
use Rattle.whole_numbers.proofs.Words.{wrapped_as}
use Rattle.whole_numbers.proofs.values.bits_of.Goals as goal

-- a number of 128 bits is read back as it is
pub returns-clause-value : goal.returns-clause-value
unfolding word_of
returns-clause-value c =
    let read = to_z-of_z w128 c.args.number c.ranges.number in
    let left = to_z-of_z w128 c.rem_euclid.result (record { sfits = c.rem_euclid.type_inv }) in
    let rest : unsigned_abs (cast_signed w128 (cast_unsigned w128 c.rem_euclid.result))
    ≡ unsigned_abs (int_rem_euclid c.args.number (pos (2 ^ 64))) =
    ap unsigned_abs (left ∙ c.rem_euclid.ensures.value ∙ ap (λ z. int_rem_euclid z (pos (2 ^ 64))) read)
    in
    c.extended.ensures.value ∙ wrapped_as c.args.kind c.args.number _ (sym rest)
