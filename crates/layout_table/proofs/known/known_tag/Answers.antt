use Rattle.std.proofs.Common.{◌∙◌, ap, map}
use Rattle.layout_table.specs.Known.{field_of}
use Rattle.layout_table.proofs.Copies.{fields_back, sort_back, name_back, tag_back}
use Rattle.layout_table.proofs.known.known_tag.Goals as goal

pub returns : goal.returns
returns c =
    tag_back c.args.types.now c.args.tag c.args.t c.requires c.is_union-union_tag.result c.in_ok-name.name
    c.in_ok-fields.fields.items
    (c.is_union-union_tag.ensures ∙ sort_back c.args.types.now c.args.tag c.args.t c.requires c.get.result
    c.get.ensures.kind)
    (c.in_ok-name.ensures ∙ name_back c.args.types.now c.args.tag c.args.t c.requires c.tag_name.result.now
    c.tag_name.ensures)
    (c.in_ok-fields.ensures ∙ ap (map field_of) c.members.ensures ∙ fields_back c.args.types.now c.args.tag c.args.t
    c.requires)
