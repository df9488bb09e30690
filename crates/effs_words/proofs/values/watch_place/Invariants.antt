use Rattle.std.proofs.Common.{◌≡◌, ◌+◌, drop, map, None}
use Rattle.std.specs.Prelude.{slice_get, string_bytes}
use Rattle.effs_words.specs.Options.{places_of}
use Rattle.effs_words.specs.declared.values.Listed.TheVariants.{Watches}
use Rattle.effs_words.proofs.values.watch_place.Given as goal

abbrev pub invariant-loop-word : goal.invariant-loop-word
invariant-loop-word l = record {
  placed : l.place ≡ l.word-index + 2;
  found : slice_get (places_of l.play Watches l.before l.place (map string_bytes (drop l.word-index l.options))) l.left
      ≡ slice_get (places_of l.play Watches None 2 (map string_bytes l.options)) l.number;
}
