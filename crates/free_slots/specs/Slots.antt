-- The slots of a region as a heap checker gives them out: a slot that was given back rests until enough others were given
-- back after it (the quarantine of AddressSanitizer, counted in slots).
use Rattle.std.specs.Prelude.{◌≡◌, ◌≤◌, ◌↔◌, ◌+◌, ◌-◌, ◌/◌, ℕ, true, false, IsTrue, if◌then◌else◌, nat_lt, min, List, [], ◌∷◌, ◌++◌, length, take, drop, remove, slice_get, Contains, Option, Some, None, refl}
use Rattle.std.specs.Ordering.{nat_cmp}
use Rattle.std.specs.Coded.{Coded, code_by, coded×, coded_ℕ, coded_list}
use Rattle.std.specs.FinSet as set
use Rattle.free_slots.specs.declared.slots.Taken.{Taken}

-- ---- what is kept

-- How many slots there are, which of them are taken, and which were given back and not taken since, in the order in which
-- they came back.
pub record Slots : Type 0 where
  pub count : ℕ
  pub taken : set.FinSet nat_cmp
  pub given_back : List ℕ

abbrev pub slots_code : Coded Slots
slots_code =
    code_by (ℕ × (set.FinSet nat_cmp × List ℕ)) (coded× coded_ℕ (coded× (set.code coded_ℕ) (coded_list coded_ℕ)))
    (λ s. (s.count, (s.taken, s.given_back))) (λ p. record { count = p.0; taken = p.1.0; given_back = p.1.1 }) (λ _. refl)

-- none was ever taken
abbrev pub unused : ℕ → Slots
unused count = record { count = count; taken = set.empty; given_back = [] }

-- ---- what follows

abbrev pub IsTaken : Slots → ℕ → Type 0
IsTaken s slot = IsTrue (set.contains s.taken slot)

-- how many are taken
abbrev pub live_count : Slots → ℕ
live_count s = set.len s.taken

-- how many were taken at least once: each of these is taken or was given back
abbrev pub made_count : Slots → ℕ
made_count s = live_count s + length s.given_back

-- how many slots rest, where as many or more were given back
abbrev pub rest_limit : ℕ → ℕ
rest_limit count = min 64 (count / 2)

-- those of a list that rest where it was given back: its last ones
abbrev pub last_resting : ℕ → List ℕ → List ℕ
last_resting count slots = drop (length slots - rest_limit count) slots

-- the slots that rest, the first given back first
abbrev pub resting_slots : Slots → List ℕ
resting_slots s = last_resting s.count s.given_back

-- those given back before them, which rest no more
abbrev pub ready_count : Slots → ℕ
ready_count s = length s.given_back - rest_limit s.count

abbrev pub ready_slots : Slots → List ℕ
ready_slots s = take (ready_count s) s.given_back

-- all slots are taken or at rest
abbrev pub IsFull : Slots → Type 0
IsFull s = live_count s + length (resting_slots s) ≡ s.count

-- a slot that is neither taken nor at rest
abbrev pub IsFree : Slots → ℕ → Type 0
IsFree s slot = (¬ IsTaken s slot) × (¬ Contains (resting_slots s) slot)

-- whether a slot that was taken is told to be fresh as it should: those made have the numbers below the others
abbrev pub TellsFresh : Slots → Taken → Type 0
TellsFresh s taken = IsTrue taken.fresh ↔ (made_count s ≤ taken.slot)

-- ---- steps

-- the next slot that was never taken
abbrev pub next_fresh : Slots → Option Taken
next_fresh s = if nat_lt (made_count s) s.count then Some (record { slot = made_count s; fresh = true }) else None

-- this slot again, else another one
abbrev pub again_or : Option ℕ → Option Taken → Option Taken
again_or (Some slot) other = Some (record { slot = slot; fresh = false })
again_or None other = other

-- the slot that comes next: of those that rest no more the one given back last, else the next one never taken
unfoldable pub next_of : Slots → Option Taken
next_of s = again_or (slice_get (ready_slots s) (ready_count s - 1)) (next_fresh s)

-- what is kept after such a slot was taken
unfoldable pub after_take : Slots → Option Taken → Slots
after_take s None = s
after_take s (Some next) = record {
  count = s.count;
  taken = set.insert s.taken next.slot;
  given_back = if next.fresh then s.given_back else remove s.given_back (ready_count s - 1);
}

-- what is kept after a slot was given back
abbrev pub after_give : Slots → ℕ → Slots
after_give s slot = record { count = s.count; taken = set.remove s.taken slot; given_back = s.given_back ++ slot ∷ [] }
