-- The steps of the locks: what each tells, of the seat before, the number found and the seat after. Each has one seat,
-- whose view it may change.
-- - A holder takes a region: its word becomes 1 more than the holder's number, if it was 0, and its slot goes out
--   to the holder, who notes the region with its list. Where the word was not 0, nothing changes (taken).
-- - The value is exchanged out of the slot, and another or the same into it, while the holder has the slot. No word and
--   no view changes.
-- - The holder gives the region home: its word becomes 0, and the note goes. With the list as it was noted, nothing
--   else changes (given); with one entry more, the holder's list gets the entry and its last stamp becomes the entry's
--   (added). This is the one event.
-- - A seat is split. While the locks are made, the new view has the next number, and the seat that counts the numbers
--   counts one more (counted, numbered). Where two passes meet, the new view has the last stamp alone (stamp_of).
-- - Two seats are joined: one keeps both lists and the greater last stamp, and the other is spent (joined, nobody).
-- A new seat that knows nothing may sit down at any time (sat).
use Rattle.std.specs.Prelude.{◌≡◌, ◌≢◌, ℕ, suc, ◌≤◌, false, List, [], ◌∷◌, ◌++◌, Option, Some, max, ◌||◌, cond}
use Rattle.atomic_table.specs.Table.{Me, Step, rest}
use Rattle.heap_model.specs.declared.calls.Entry.{Entry}
use Rattle.region_lock.specs.Entries.{last_stamp}
use Rattle.region_lock.specs.Rule.{view, nobody}
use Rattle.region_lock.specs.declared.view.View.{View}

-- the greatest count of entries that the rule allows, 16 * 2 ^ 32
abbrev pub most : ℕ
most = 68719476736

-- the view with a note of a region and its list
abbrev pub noting : View → ℕ → List Entry → View
noting v region xs = view v.owns v.last region xs v.keeps v.made

-- the view without its note
abbrev pub freed : View → View
freed v = view v.owns v.last 0 [] v.keeps v.made

-- one entry more under the first number
abbrev pub grow : List (ℕ × List Entry) → Entry → List (ℕ × List Entry)
grow [] e = []
grow (o ∷ os) e = (o.0, o.1 ++ e ∷ []) ∷ os

-- the view without its note, with one entry more
abbrev pub grown : View → Entry → View
grown v e = view (grow v.owns e) e.stamp 0 [] v.keeps v.made

-- a seat's view, and the slots that it has taken
abbrev pub Sat : Type 0 → Type 0
Sat W = Me (Option W) View

module _ {W : Type 0} where
  -- the region k + 1 was home, with this value: the seat notes it and has its slot. All stamps so far are low
  abbrev pub Found : (W → ℕ) → (W → List Entry) → (W → Type 0) → ℕ → Sat W → Sat W → Type 0
  Found region list fact k m m' =
      (y : W) × (m' ≡ (noting m.0 (suc k) (list y), (k, Some y) ∷ m.1))
      × fact y × (region y ≡ suc k) × (last_stamp (list y) ≤ most) × (m.0.last ≤ most)

  abbrev pub taken : (W → ℕ) → (W → List Entry) → (W → Type 0) → Step (Option W) → Sat W → ℕ → Sat W → Type 0
  taken region list fact st m r m' =
      (r ≡ 0 → (k : ℕ) → st.word ≡ suc k → Found region list fact k m m') × (r ≢ 0 → m' ≡ m)

  -- the region is home again, with its list as it was
  abbrev pub given : Step (Option W) → Sat W → ℕ → Sat W → Type 0
  given st m r m' = m' ≡ (freed m.0, rest m.1)

  -- the same with one entry more
  abbrev pub added : (W → List Entry) → Step (Option W) → Sat W → ℕ → Sat W → Type 0
  added list st m r m' =
      (k : ℕ) (y : W) (e : Entry) (more : List (ℕ × Option W)) → m.1 ≡ (k, Some y) ∷ more
      → list y ≡ m.0.noted ++ e ∷ [] → m' ≡ (grown m.0 e, more)

  -- a new seat knows nothing
  abbrev pub sat : Step (Option W) → Sat W → ℕ → Sat W → Type 0
  sat st m r m' = m'.0 ≡ nobody

-- the count of numbers, one more
abbrev pub counted : View → View
counted v = view v.owns v.last v.region v.noted v.keeps (suc v.made)

-- the next number, under which nothing was made
abbrev pub numbered : View → View
numbered v = view ((v.made, []) ∷ []) 0 0 [] false 0

-- the last stamp alone
abbrev pub stamp_of : View → View
stamp_of v = view [] v.last 0 [] false 0

-- what two views know
abbrev pub joined : View → View → View
joined v w =
    view (v.owns ++ w.owns) (max v.last w.last) v.region v.noted (v.keeps || w.keeps) (cond w.keeps w.made v.made)
