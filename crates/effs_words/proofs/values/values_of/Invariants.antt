use Rattle.std.proofs.Common.{◌≡◌, ◌++◌, drop, map, None}
use Rattle.std.specs.Prelude.{string_bytes}
use Rattle.effs_words.specs.Options.{values_of}
use Rattle.effs_words.proofs.values.values_of.Given as goal

abbrev pub invariant-loop-word : goal.invariant-loop-word
invariant-loop-word l =
    l.texts ++ values_of l.play l.listed l.before (map string_bytes (drop l.word-index l.words)) ≡ values_of l.play l.listed None (map string_bytes l.words)
