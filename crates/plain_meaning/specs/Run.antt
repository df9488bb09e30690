-- The record of a run.
use Rattle.std.specs.Prelude.{◌≡◌, ℕ, ◌≤◌, ◌-◌, List, [], ◌∷◌, ◌++◌, map}
use Rattle.std.specs.List.{AllByRecursion}
use Rattle.c_types.specs.Table.{basic_types}
use Rattle.heap_model.specs.Layouts.{Layouts, layouts_of}
use Rattle.heap_model.specs.Legal.{IsLegal, IsWellNumbered, own}
use Rattle.heap_model.specs.Order.{IsStamped}
use Rattle.heap_model.specs.declared.calls.Call.{Call}
use Rattle.heap_model.specs.declared.calls.Reply.{Reply}
use Rattle.heap_model.specs.declared.calls.Entry.{Entry}
use Rattle.plain_meaning.specs.declared.record.Ending.{Ending}
use Rattle.plain_meaning.specs.declared.record.Ending.TheVariants.{Finished}
use Rattle.plain_meaning.specs.declared.record.Setting.{Setting}
use Rattle.plain_meaning.specs.declared.record.Record.{Record}
use Rattle.plain_meaning.specs.declared.tree.Program.{Program}
use Rattle.plain_meaning.specs.Tree.{Tree}
use Rattle.plain_meaning.specs.Points.{Checked, PointerIn}
use Rattle.plain_meaning.specs.Acts.{Acts, Ends, Progress, acts, feed}
use Rattle.plain_meaning.specs.Meaning.{call, opening, finish}

-- the checked meaning of a worker with so many turns
abbrev pub checked_acts : ℕ → Tree (PointerIn Checked) (Unit {0}) → Acts Call Reply
checked_acts turns tree = acts Checked tt turns tree

-- what worker 1 does
abbrev pub worker_acts : Program → Setting → Acts Call Reply
worker_acts program setting = checked_acts setting.turns (call setting.turns program setting.entry)

-- how far worker 1 comes with these replies
abbrev pub worker : Program → Setting → List Reply → Progress Call
worker program setting replies = feed replies (worker_acts program setting)

abbrev pub calls_of : List Entry → List Call
calls_of = map (λ e. e.call)

abbrev pub replies_of : List Entry → List Reply
replies_of = map (λ e. e.reply)

-- Fed the replies of these entries, a worker asks exactly their calls, and has ended so and printed this.
pub record Works (worker : Acts Call Reply) (entries : List Entry) (ending : Ending) (text : List ℕ) : Type 0 where
  pub calls : (feed (replies_of entries) worker).calls ≡ calls_of entries
  pub ended : (feed (replies_of entries) worker).end ≡ Ends ending
  pub printed : (feed (replies_of entries) worker).text ≡ text

-- The entries of the opening, then those of the workers from 1 to a number, then those of the finish.
pub record InParts (workers : ℕ) (history : List Entry) : Type 0 where
  pub opening : List Entry
  pub middle : List Entry
  pub finish : List Entry
  pub whole : history ≡ opening ++ middle ++ finish
  pub opened_by : AllByRecursion (λ e. e.worker ≡ 0) opening
  pub worked_by : AllByRecursion (λ e. (1 ≤ e.worker) × (e.worker ≤ workers)) middle
  pub finished_by : AllByRecursion (λ e. e.worker ≡ 0) finish

-- the preferred bounds among the types of these programs
abbrev pub layouts : Layouts
layouts = layouts_of basic_types

-- The record is that of a run of the program. Its history is one that the heap may give, each worker's calls numbered in
-- their order, and stamped. Worker 0 opens, worker 1 does what its function means, worker 0 finishes, with the turns that
-- the opening left it; and each was asked and told what its own entries say.
pub record Run (program : Program) (setting : Setting) (run : Record) : Type 0 where
  pub legal : IsLegal layouts run.history.entries
  pub numbered : IsWellNumbered run.history.entries
  pub stamped : IsStamped run.history.entries
  pub parts : InParts 1 run.history.entries
  pub opening_text : List ℕ
  pub opened : Works (checked_acts setting.turns (opening program)) parts.opening Finished opening_text
  pub ending : Ending
  pub text : List ℕ
  pub worked : Works (worker_acts program setting) (own run.history.entries 1) ending text
  pub finish_text : List ℕ
  pub finished :
      Works (checked_acts (setting.turns - (feed (replies_of parts.opening) (checked_acts setting.turns (opening program))).turns) (finish program))
      parts.finish Finished finish_text
  pub endings : run.endings ≡ Finished ∷ ending ∷ []
  pub texts : run.texts ≡ opening_text ∷ text ∷ finish_text ∷ []
