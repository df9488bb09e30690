-- What the fields of `FreeSlots` keep.
use Rattle.std.specs.Prelude.{◌≡◌, ◌<◌, ◌≤◌, ◌+◌, ◌^◌, ℕ, zero, suc, Bool, false, ◌==◌, nat_lt, if◌then◌else◌, List, ◌++◌, length, count_by, slice_index_or, vec_capacity}
use Rattle.std.specs.Ordering.{nat_cmp}
use Rattle.std.specs.VecDeque.{deque_capacity}
use Rattle.std.specs.FinSet as set
use Rattle.free_slots.specs.declared.slots.FreeSlots.TheInside.{Inside}
use Rattle.free_slots.specs.Slots.{Slots, made_count, rest_limit}

-- ---- what the fields stand for

-- the slots below a number that are marked
abbrev pub marked_below : ℕ → List Bool → set.FinSet nat_cmp
marked_below zero marks = set.empty
marked_below (suc n) marks =
    let lower = marked_below n marks in if slice_index_or marks n false then set.insert lower n else lower

abbrev pub marked : List Bool → set.FinSet nat_cmp
marked marks = marked_below (length marks) marks

abbrev pub slots_of : Inside → Slots
slots_of a = record { count = a.slots; taken = marked a.taken.items; given_back = a.ready.items ++ a.resting.items }

-- ---- what they keep

abbrev pub one_if : Bool → ℕ
one_if b = if b then 1 else 0

-- how often a slot stands in a list
abbrev pub times : ℕ → List ℕ → ℕ
times slot slots = count_by (λ s. s == slot) slots

-- how often a slot is taken or given back
abbrev pub places : Slots → ℕ → ℕ
places s slot = one_if (set.contains s.taken slot) + times slot s.given_back

-- Each of the slots made, which have the lowest numbers, is taken or given back, once, and no other slot is.
pub record IsWhole (s : Slots) : Type 0 where
  pub within : made_count s ≤ s.count
  pub once : (slot : ℕ) → places s slot ≡ one_if (nat_lt slot (made_count s))

-- The marks reach as far as the slots made. A slot rests no more only where as many as may rest do so. There is room for
-- each slot's return.
pub record IsKept (a : Inside) : Type 0 where
  pub whole : IsWhole (slots_of a)
  pub fits : a.slots < 2 ^ 32
  pub marks : length a.taken.items ≡ made_count (slots_of a)
  pub few : length a.resting.items ≤ rest_limit a.slots
  pub full : 0 < length a.ready.items → length a.resting.items ≡ rest_limit a.slots
  pub room : length a.taken.items ≤ vec_capacity a.ready
  pub resting_room : 0 < length a.taken.items → rest_limit a.slots < deque_capacity a.resting
