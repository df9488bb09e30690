-- The entries of a history on one thread.
use Rattle.std.specs.Prelude.{◌≡◌, ℕ, suc, ◌+◌, List, [], ◌∷◌, length, unwrap_or}
use Rattle.heap_model.specs.Forms.{region_for}
use Rattle.heap_model.specs.Legal.{own}
use Rattle.heap_model.specs.declared.calls.Call.{Call}
use Rattle.heap_model.specs.declared.calls.Entry.{Entry}
use Rattle.heap_model.specs.declared.calls.Reply.{Reply}

-- The entry of a worker's next call: its number is how many calls the worker made before, and its stamp is above that of
-- the last entry, of whichever worker.
abbrev pub next_entry : List Entry → ℕ → Call → Reply → Entry
next_entry history worker call reply =
    record {
      worker = worker;
      number = length (own history worker);
      stamp = length history + 1;
      region = unwrap_or (region_for call) 1;
      call = call;
      reply = reply;
    }

-- the stamps of the entries go on from n
abbrev pub StampsFrom : ℕ → List Entry → Type 0
StampsFrom n [] = Unit {0}
StampsFrom n (e ∷ es) = (e.stamp ≡ n) × StampsFrom (suc n) es
