-- Lists of turns: `W` or `W*C`, joined by commas.
use Rattle.std.specs.Prelude.{ℕ, ◌-◌, ◌==◌, nat_le, List, [], ◌∷◌, ◌++◌, Option, Some, None, if◌then◌else◌, replicate}
use Rattle.std.specs.List.{slice_split}
use Rattle.effs_words.specs.Numbers.{Word, number_in}
use Rattle.effs_words.specs.declared.schedule.Turns.{Turns}

-- What stands before the first mark of a text, and what stands after it, where there is one.
pub record Cut : Type 0 where
  pub front : Word
  pub rest : Option Word

abbrev pub cut : ℕ → Word → Cut
cut mark [] = record { front = []; rest = None }
cut mark (b ∷ bs) =
    if b == mark then record { front = []; rest = Some bs }
    else record { front = b ∷ (cut mark bs).front; rest = (cut mark bs).rest }

abbrev pub turns_by : Option ℕ → Option ℕ → Option Turns
turns_by (Some worker) (Some times) = Some (record { worker = worker; times = times })
turns_by (Some worker) None = None
turns_by None times = None

-- how often: once where it is not said
abbrev pub times_in : Option Word → Option ℕ
times_in None = Some 1
times_in (Some times) = number_in 1 100000 times

-- what a part says: `W` is one turn of the worker W, `W*C` are C
unfoldable pub turns_of : ℕ → Word → Option Turns
turns_of workers part = turns_by (number_in 1 workers (cut 42 part).front) (times_in (cut 42 part).rest)

-- the parts that commas join
abbrev pub parts : Word → List Word
parts = slice_split (λ b. b == 44)

-- the parts of what is left of a list, where something is
abbrev pub parts_left : Option Word → List Word
parts_left None = []
parts_left (Some list) = parts list

abbrev pub onto : Turns → Option (List ℕ) → Option (List ℕ)
onto turns None = None
onto turns (Some rest) = Some (replicate turns.times turns.worker ++ rest)

-- The parts' turns one after another, `room` at most together.
abbrev pub all_turns : ℕ → ℕ → List Word → Option (List ℕ)
all_turns workers room [] = Some []
all_turns workers room (part ∷ more) = elim (turns_of workers part) [
  | None ↦ None
  | Some turns ↦ if nat_le turns.times room then onto turns (all_turns workers (room - turns.times) more) else None
]

-- The workers, numbered from 1, in the order of their turns: 100,000 turns at most.
unfoldable pub schedule_of : ℕ → Word → Option (List ℕ)
schedule_of workers list = all_turns workers 100000 (parts list)
