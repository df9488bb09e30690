use Rattle.std.proofs.Common.{◌≡◌, ◌∙◌, ◌-◌, ◌≤◌, ◌∷◌, [], ◌++◌, Bool, true, false, vec_capacity, ap, arith}
use Rattle.std.specs.Prelude.{if◌then◌else◌}
use Rattle.heap_model.specs.History.{SegmentLog}
use Rattle.heap_model.specs.Rows.{entries_in}
use Rattle.heap_model.proofs.Rows.{entries_in-whole}
use Rattle.heap_model.proofs.segment.Segment.push.Goals as goal

one-at-most : (reserved : Bool) → (if reserved then 1 else 0) ≤ 1
one-at-most true = omega arith
one-at-most false = omega arith

pub returns-in-None : goal.returns-in-None
returns-in-None c =
    let rows = c.self.inside.rows.items in
    let whole = c.self.inside.whole.items in
    let kept = entries_in-whole whole c.args.entry rows c.len-place.result (omega (arith, c.len-place.ensures, c.self.inside.whole.ok.0)) c.self.invariant.within in
    let entries : entries_in c.push_reserved-in-None.new.self.items c.push_reserved-in-None-2.new.self.items ≡ c.args.self.now.entries ++ c.args.entry ∷ []
    = rw (c.push_reserved-in-None-2.ensures.items, c.push_reserved-in-None.ensures.items) (kept ∙ ap (λ (l : SegmentLog). l.entries ++ c.args.entry ∷ []) c.self.view_is) in
    let spare : 0 ≡ c.args.self.now.spare - 1 = omega (arith, c.requires, one-at-most c.self.inside.reserved, ap (λ (l : SegmentLog). l.spare) c.self.view_is) in
    let places : vec_capacity c.push_reserved-in-None-2.new.self ≡ c.args.self.now.places
    = c.push_reserved-in-None-2.ensures.capacity ∙ ap (λ (l : SegmentLog). l.places) c.self.view_is in
    λ i. record { entries = entries i; spare = spare i; places = places i }
