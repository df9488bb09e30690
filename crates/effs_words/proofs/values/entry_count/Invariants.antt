use Rattle.std.proofs.Common.{◌≡◌, ◌+◌, ◌≤◌, drop, length, map, None}
use Rattle.std.specs.Prelude.{string_bytes}
use Rattle.effs_words.specs.Options.{values_of}
use Rattle.effs_words.specs.declared.values.Listed.TheVariants.{Entries}
use Rattle.effs_words.proofs.values.entry_count.Given as goal

abbrev pub invariant-loop-word : goal.invariant-loop-word
invariant-loop-word l = record {
  counted : l.count + length (values_of l.play Entries l.before (map string_bytes (drop l.word-index l.words))) ≡ length (values_of l.play Entries None (map string_bytes l.words));
  few : l.count ≤ l.word-index;
}
