-- Words and their parts.
use Rattle.std.proofs.Common.{◌≡◌, ℕ, ◌+◌, ◌*◌, ◌^◌, ◌<◌, arith}
use Rattle.std.proofs.lemmas.Nat.{div-mul-add, mod-mul-add, div-add-mod'}
use Rattle.slot_headers.specs.Words.{WordsLaw, address_of, version_of}

pub words_law : WordsLaw
unfolding address_of version_of
words_law = (
  λ address version small. record { address_is = mod-mul-add version (2 ^ 40) address small; version_is = div-mul-add version (2 ^ 40) address small },
  λ word. omega (arith, div-add-mod' word (2 ^ 40)),
)
