-- What sources give and sinks take.
use Rattle.std.specs.Prelude.{◌≡◌, ℕ, ◌+◌, ◌-◌, ◌<◌, ◌≤◌, ◌^◌, ◌⊎◌, min, List, [], ◌++◌, length, take, drop, Option, Some, IfSome}

-- A count rose: it is greater than before, or stands at its last value, where it stays.
abbrev pub Rose : ℕ → ℕ → Type 0
Rose before after = (before < after) ⊎ (after ≡ 2 ^ 64 - 1)

-- a count after one more, which stands still at its type's end
abbrev pub next_count : ℕ → ℕ
next_count count = min (count + 1) (2 ^ 64 - 1)

-- a source told its bytes gave the first n of them
abbrev pub GaveFirst : ℕ → List ℕ → List ℕ → Type 0
GaveFirst n bytes buffer = (n ≤ length bytes) × (take n buffer ≡ take n bytes)

-- n bytes fewer are left, where they were told: then they are told still
abbrev pub Moves : ℕ → Option (List ℕ) → Option (List ℕ) → Type 0
Moves n before after = IfSome before (λ bytes. after ≡ Some (drop n bytes))

-- the bytes are those from before, where they were told: then they are told still
abbrev pub Stays : Option (List ℕ) → Option (List ℕ) → Type 0
Stays before after = IfSome before (λ bytes. after ≡ Some bytes)

-- no byte is left, where they are told
abbrev pub NoneLeft : Option (List ℕ) → Type 0
NoneLeft told = IfSome told (λ bytes. bytes ≡ [])

-- the first bytes were given, at most so many, and the others are left, where they were told
abbrev pub GaveSome : ℕ → Option (List ℕ) → Option (List ℕ) → Type 0
GaveSome most before after = (n : ℕ) × (n ≤ most) × IfSome before (λ bytes. n ≤ length bytes) × Moves n before after

-- so many bytes were given, of those that were told
abbrev pub Gave : ℕ → Option (List ℕ) → Option (List ℕ) → Type 0
Gave n before after = IfSome before (λ bytes. n ≤ length bytes) × Moves n before after

-- the bytes were taken after those before, where they were told: then they are told still
abbrev pub Appends : List ℕ → Option (List ℕ) → Option (List ℕ) → Type 0
Appends bytes before after = IfSome before (λ taken. after ≡ Some (taken ++ bytes))

-- some of the first bytes were taken, and no others
abbrev pub AppendsSome : List ℕ → Option (List ℕ) → Option (List ℕ) → Type 0
AppendsSome bytes before after = (n : ℕ) × (n ≤ length bytes) × Appends (take n bytes) before after

-- the most bytes that a text may have
abbrev pub max_text : ℕ
max_text = 1048576

-- the line was written; or, only where the count of faults rose, some of its first bytes
abbrev pub Writes : List ℕ → Option (List ℕ) → Option (List ℕ) → Type 0 → Type 0
Writes line before after rose = Appends line before after ⊎ (rose × AppendsSome line before after)
