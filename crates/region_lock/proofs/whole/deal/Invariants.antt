use Rattle.std.proofs.Common.{◌≡◌, [], vec_len, vec_capacity}
use Rattle.region_lock.specs.Known.{newcomers}
use Rattle.region_lock.specs.Rule.{counter}
use Rattle.region_lock.proofs.whole.deal.Given as goal

abbrev pub invariant-loop-i : goal.invariant-loop-i
invariant-loop-i g l = record {
  seat : (l.seat.table_id ≡ l.table.shared.table_id) × (l.seat.me ≡ (counter l.i, []));
  out : (l.out.items ≡ newcomers l.table.shared.table_id l.i) × (vec_len l.out ≡ l.i) ×
      (vec_capacity l.out ≡ vec_capacity l.fn.out);
}
