use Rattle.std.proofs.Common.{◌≡◌, map, take}
use Rattle.layout_table.specs.Known.{tag_of}
use Rattle.layout_table.proofs.known.tags_of.Given as goal

abbrev pub invariant-loop-tag : goal.invariant-loop-tag
invariant-loop-tag l = map tag_of l.tags.items ≡ take l.tag l.types.tags
