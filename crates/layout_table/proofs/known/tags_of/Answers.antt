use Rattle.std.proofs.Common.{ap, map, ◌∙◌}
use Rattle.layout_table.specs.Known.{tag_of}
use Rattle.layout_table.proofs.Copies.{take_kind, map_push}
use Rattle.layout_table.proofs.known.tags_of.Goals as goal

pub loop-tag-preserved : goal.loop-tag-preserved
loop-tag-preserved c =
    take_kind c.args.types.now.tags (map tag_of c.loop-tag.tags.items) (map tag_of c.push.new.self.items)
    c.loop-tag.tag (tag_of c.in_ok-known_tag.field-0) c.in_ok-known_tag.ensures
    c.loop-tag.invariant (ap (map tag_of) c.in_ok-push.ensures.items ∙
    map_push tag_of c.loop-tag.tags.items c.in_ok-known_tag.field-0)
