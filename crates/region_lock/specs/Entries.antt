-- Lists of entries: the last stamp, and what one worker made.
use Rattle.std.specs.Prelude.{◌≡◌, ℕ, ◌+◌, ◌<◌, ◌≤◌, max, true, List, [], ◌∷◌}
use Rattle.std.specs.List.{AllByRecursion}
use Rattle.heap_model.specs.declared.calls.Entry.{Entry}
use Rattle.heap_model.specs.Legal.{CountsFrom}
use Rattle.heap_model.specs.Order.{StampsRise}
use Rattle.heap_model.specs.Forms.{suits_call}
use Rattle.heap_model.specs.declared.calls.Call.{Call}

-- the stamp of the last entry, or b where there is none
abbrev pub last_from : ℕ → List Entry → ℕ
last_from b [] = b
last_from b (e ∷ es) = last_from e.stamp es

-- the stamp of the last entry, or 0 where there is none
abbrev pub last_stamp : List Entry → ℕ
last_stamp es = last_from 0 es

-- what the worker n made in regions from 1 to count: its own entries, numbered from 0, with stamps that rise
pub record IsMadeBy (n count : ℕ) (es : List Entry) : Type 0 where
  pub by : AllByRecursion (λ e. e.worker ≡ n) es
  pub numbered : CountsFrom 0 es
  pub rises : StampsRise es
  pub inside : AllByRecursion (λ e. (0 < e.region) × (e.region ≤ count)) es

-- the entry is of this maker, which asked this call as its nth, in the region with this number and list. Its stamp is 1
-- above the greater of the last one that the maker knows and the list's last one (Lamport's rule for clocks), and its
-- reply suits the call
pub record IsNextEntry (maker nth last at : ℕ) (listed : List Entry) (asked : Call) (e : Entry) : Type 0 where
  pub worker : e.worker ≡ maker
  pub number : e.number ≡ nth
  pub region : e.region ≡ at
  pub call : e.call ≡ asked
  pub stamp : e.stamp ≡ max last (last_stamp listed) + 1
  pub suits : suits_call asked e.reply ≡ true
