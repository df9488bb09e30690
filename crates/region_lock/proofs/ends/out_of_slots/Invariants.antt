use Rattle.std.proofs.Common.{◌≡◌, ◌<◌, Some, map, take, vec_len, vec_capacity, ℕ, false, get_or}
use Rattle.std.specs.Mem.Slots.{slots_items, slots_len, slots_filled}
use Rattle.std.specs.Mem.Slots.Ownership.{Filled}
use Rattle.region_lock.proofs.ends.out_of_slots.Given as goal

abbrev pub invariant-loop-i : goal.invariant-loop-i
invariant-loop-i g l = record {
  same : (slots_items l.closed.slots ≡ slots_items l.fn.closed.slots) ×
      (slots_len l.closed.slots ≡ slots_len l.fn.closed.slots);
  full : Filled (slots_filled l.closed.slots) l.i (slots_len l.closed.slots);
  emptied : (k : ℕ) → k < l.i → get_or (slots_filled l.closed.slots) k false ≡ false;
  taken : map Some l.values.items ≡ take l.i (slots_items l.fn.closed.slots);
  room : (vec_len l.values ≡ l.i) × (vec_capacity l.values ≡ vec_capacity l.fn.values);
}
