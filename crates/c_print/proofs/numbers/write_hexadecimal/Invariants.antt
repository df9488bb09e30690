use Rattle.std.proofs.Common.{◌≡◌, ◌+◌, ◌^◌, ◌<◌, false, length, drop}
use Rattle.std.specs.Fmt.{digits, digits_onto}
use Rattle.c_print.proofs.numbers.write_hexadecimal.Given as goal

abbrev pub invariant-loop-rest : goal.invariant-loop-rest
invariant-loop-rest l =
    (l.start < 16) × (length l.out ≡ 16) × (l.rest < 16 ^ (l.start + 1))
    × (digits_onto (l.start + 49) 16 false l.rest (drop (l.start + 1) l.out) ≡ digits 16 false l.n)

abbrev pub decreases-loop-rest : goal.decreases-loop-rest
decreases-loop-rest l = l.rest
