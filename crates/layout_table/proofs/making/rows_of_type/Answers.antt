use Rattle.std.proofs.Common.{◌∙◌, sym, subst, ap}
use Rattle.c_types.specs.Table.{members}
use Rattle.layout_table.specs.Making as making
use Rattle.layout_table.specs.Making.{AreReadyMembers, parts}
use Rattle.layout_table.proofs.Whole.{array_is, array_whole}
use Rattle.layout_table.proofs.Parts.{ready, array_part, array_entry, members_ready, members_own, members_are_of}
use Rattle.layout_table.proofs.Arrays.{array_own}
use Rattle.layout_table.proofs.making.rows_of_type.Goals as goal

pub rows_of_array-requires-clause-ready : goal.rows_of_array-requires-clause-ready
rows_of_array-requires-clause-ready c =
    ready c.args.types.now (parts c.args.types.now c.args.t) c.args.entries.now c.args.rows.now
    c.args.levels.now.items c.in-Array.of c.requires.parts
    (array_part c.args.types.now c.args.t c.in-Array.of c.in-Array.count c.in-Array.ensures.kind)
    (array_whole c.args.types.now c.law_table.ensures c.args.t c.in-Array.of c.in-Array.count c.in-Array.ensures.kind
    c.requires.known).1

pub rows_of_members-requires : goal.rows_of_members-requires
rows_of_members-requires c = record {
  ready =
      subst (AreReadyMembers c.args.types.now c.args.entries.now c.args.rows.now) (sym c.members.ensures)
      (members_ready c.args.types.now c.law_table.ensures c.args.t c.requires.known c.args.entries.now
      c.args.rows.now c.args.levels.now.items c.requires.parts (members c.args.types.now c.args.t)
      (members_are_of c.args.types.now c.law_table.ensures c.args.t c.requires.known c.get.result c.get.ensures.kind
      c.in-Struct.is));
}

pub returns-in_ok-own-in-Array : goal.returns-in_ok-own-in-Array
returns-in_ok-own-in-Array c =
    let part = array_entry c.args.types.now c.law_table.ensures c.args.t c.in-Array.of c.in-Array.count
    c.requires.known c.in-Array.ensures.kind c.args.entries.now c.args.rows.now
    c.args.levels.now.items c.requires.parts in
    array_own c.args.types.now c.args.rows.now c.args.levels.now.items c.requires.parts.rows_ok
    c.requires.parts.levels_ok c.in-Array.of c.in-Array.count part.entry part.has part.ok part.filled part.fits
    c.args.t (array_is c.args.types.now c.law_table.ensures c.args.t c.in-Array.of c.in-Array.count
    c.in-Array.ensures.kind) c.rows_of_array.new.levels.items
    (c.in_ok-own-in-Array.ensures.levels part.entry part.here) c.in_ok-own-in-Array.own.items
    (c.in_ok-own-in-Array.ensures.rows part.entry part.here)

pub returns-in_ok-own-in-Struct : goal.returns-in_ok-own-in-Struct
returns-in_ok-own-in-Struct c =
    members_own c.args.types.now c.law_table.ensures c.args.t c.requires.known c.args.entries.now c.args.rows.now
    c.args.levels.now.items c.requires.parts (members c.args.types.now c.args.t)
    (members_are_of c.args.types.now c.law_table.ensures c.args.t c.requires.known c.get.result c.get.ensures.kind
    c.in-Struct.is) c.in_ok-own-in-Struct.own.items
    (c.in_ok-own-in-Struct.ensures ∙ ap (making.rows_of_members c.args.types.now c.args.entries.now c.args.rows.now)
    c.members.ensures)
