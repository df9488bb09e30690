use Rattle.std.proofs.Common.{◌≡◌, ◌*◌, ◌∙◌, length, ap, lit<, arith}
use Rattle.std.specs.Prelude.{nat_le}
use Rattle.std.specs.Int.{div_ceil}
use Rattle.std.proofs.lemmas.Grind.{div_ceil_times}
use Rattle.slot_store.proofs.Paging.{length-joined, same_order}
use Rattle.slot_store.proofs.pages.Pages.has_room.Goals as goal

pub returns : goal.returns
returns c =
    let size : length c.args.self.now ≡ 8192 * c.len.result =
    omega (arith, ap length c.self.view_is, length-joined c.self.inside.pages.items c.self.invariant, c.self.inside.pages.ok) in
    let bounds = div_ceil_times c.args.words 8192 (lit< tt) in
    let first = bounds.0 in
    let second = bounds.1 in
    ap (λ n. nat_le n c.len.result) c.div_ceil.ensures
    ∙ same_order (div_ceil c.args.words 8192) c.len.result c.args.words (length c.args.self.now) (λ h. omega arith) (λ h. omega arith)
