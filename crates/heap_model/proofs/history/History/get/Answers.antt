use Rattle.std.proofs.Common.{◌≡◌, ◌∙◌, ◌+◌, ◌*◌, ◌/◌, ◌%◌, ◌<◌, ◌≤◌, ◌++◌, Some, length, get_or, sym, ap, arith, length-append}
use Rattle.std.specs.Prelude.{slice_get}
use Rattle.std.proofs.lemmas.Option.{slice_get-get_or}
use Rattle.heap_model.specs.History.{Log, segment_entries}
use Rattle.heap_model.specs.Segments.{entries_of}
use Rattle.heap_model.proofs.Segments.{length-segments, segment-at, open-at, last-short}
use Rattle.heap_model.specs.declared.calls.Entry.{Entry}
use Rattle.heap_model.proofs.history.History.get.Goals as goal
use Rattle.heap_model.proofs.history.History.get.Goals.{After-len}

within : (c : After-len) → c.args.at < length (entries_of c.self.inside.full.items ++ c.self.inside.last.entries)
within c = omega (arith, c.requires, ap (λ (l : Log). length l.entries) c.self.view_is)

-- the last segment has no more than a segment may have
short : (c : After-len) → length c.self.inside.last.entries ≤ segment_entries
short c = last-short (length c.self.inside.last.entries) c.self.inside.last.places (omega (arith, c.self.invariant.short)) c.self.invariant.made

-- the entry as it is seen
seen : (c : After-len) (e : Entry) → get_or (entries_of c.self.inside.full.items ++ c.self.inside.last.entries) c.args.at e ≡ e → slice_get c.args.self.now.entries c.args.at ≡ Some e
seen c e is =
    sym (ap (λ (l : Log). slice_get l.entries c.args.at) c.self.view_is)
    ∙ slice_get-get_or (entries_of c.self.inside.full.items ++ c.self.inside.last.entries) c.args.at e (within c) ∙ ap Some is

pub get-requires-else-segment-len : goal.get-requires-else-segment-len
get-requires-else-segment-len c =
    let full = c.self.inside.full.items in
    let at = (goal.at.get-requires-else-segment-len c).After-len in
    omega (arith, length-segments full c.self.invariant.full, length-append (entries_of full) c.self.inside.last.entries, within at, short at)

pub returns-then-segment-len : goal.returns-then-segment-len
returns-then-segment-len c =
    let full = c.self.inside.full.items in
    let e = c.get.result in
    let place : c.args.at ≡ segment_entries * (c.args.at / 1024) + c.args.at % 1024 = omega arith in
    let below : c.args.at / 1024 < length full = omega (arith, c.if-segment-len.true, c.len.ensures) in
    seen (goal.at.returns-then-segment-len c).After-len e
    (ap (λ n. get_or (entries_of full ++ c.self.inside.last.entries) n e) place
    ∙ segment-at full c.self.invariant.full c.self.inside.last.entries (c.args.at / 1024) (c.args.at % 1024) c.index.result.now e below (omega arith)
    ∙ ap (λ v. get_or v.entries (c.args.at % 1024) e) (sym c.index.ensures) ∙ sym c.get.ensures)

pub returns-else-segment-len : goal.returns-else-segment-len
returns-else-segment-len c =
    let full = c.self.inside.full.items in
    let last = c.self.inside.last.entries in
    let e = c.get-else-segment-len.result in
    let at = (goal.at.returns-else-segment-len c).After-len in
    let place : c.args.at ≡ segment_entries * length full + c.args.at % 1024
    = omega (arith, c.if-segment-len.false, c.len.ensures, within at, length-append (entries_of full) last, length-segments full c.self.invariant.full, short at) in
    seen at e
    (ap (λ n. get_or (entries_of full ++ last) n e) place ∙ open-at full c.self.invariant.full last (c.args.at % 1024) e ∙ sym c.get-else-segment-len.ensures)
