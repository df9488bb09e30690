use Rattle.std.proofs.Common.{◌≡◌, drop, map, None}
use Rattle.std.specs.Prelude.{string_bytes}
use Rattle.std.specs.List.{list_any}
use Rattle.std.specs.Str.{bytes_eq}
use Rattle.effs_words.specs.Options.{values_of}
use Rattle.effs_words.specs.declared.values.Listed.TheVariants.{Watches}
use Rattle.effs_words.proofs.values.is_watched.Given as goal

abbrev pub invariant-loop-word : goal.invariant-loop-word
invariant-loop-word l =
    list_any (bytes_eq (string_bytes l.watch)) (values_of l.play Watches l.before (map string_bytes (drop l.word-index l.words)))
    ≡ list_any (bytes_eq (string_bytes l.watch)) (values_of l.play Watches None (map string_bytes l.words))
