use Rattle.std.proofs.Common.{◌<◌, ◌≤◌, length, refl, rules, arith}
use Rattle.std.proofs.lemmas.Grind.{common_steps}
use Rattle.std.proofs.lemmas.Option.{slice_get_read}
use Rattle.token_reader.proofs.ScopeLemmas.{scope_since_more, scope_since}
use Rattle.token_reader.proofs.scope.Scope.since.Goals as goal

pub loop-place-preserved : goal.loop-place-preserved
loop-place-preserved c =
    let within : c.loop-place.place < length c.self.inside.kinds.items = first_of (search rules, grind (arith, common_steps)) in
    let what = slice_get_read c.self.inside.kinds.items (length c.self.inside.kinds.items) c.loop-place.place c.index.result.now refl within c.index.ensures in
    let low : c.args.count ≤ c.loop-place.place = first_of (search rules, grind (arith, common_steps)) in
    let e = scope_since_more c.self.inside.names c.self.inside.kinds.items c.args.self.now c.self.view_is c.self.invariant
    c.loop-place.own c.args.count c.loop-place.place c.name.result c.index.result.now c.name.ensures what low c.loop-place.invariant in
    first_of (search rules, grind (arith, common_steps))

pub returns : goal.returns
returns c =
    let done : length c.self.inside.kinds.items ≤ c.loop-place.place = first_of (search rules, grind (arith, common_steps)) in
    scope_since c.self.inside.names c.self.inside.kinds.items c.args.self.now c.self.view_is c.self.invariant
    c.loop-place.own c.args.count c.loop-place.place done c.loop-place.invariant
