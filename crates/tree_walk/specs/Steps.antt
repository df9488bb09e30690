-- What a step of the walk does, beside what the program means.
use Rattle.std.specs.Prelude.{◌≡◌, ℕ, Bool, ◌≤◌, List, ◌++◌, Result, Ok, Err}
use Rattle.std.specs.List.{AllByRecursion}
use Rattle.heap_model.specs.declared.calls.Call.{Call}
use Rattle.heap_model.specs.declared.calls.Reply.{Reply}
use Rattle.heap_model.specs.declared.calls.Reply.TheVariants.{Report}
use Rattle.heap_model.specs.declared.calls.Entry.{Entry}
use Rattle.plain_meaning.specs.declared.record.Ending.{Ending}
use Rattle.plain_meaning.specs.declared.record.Ending.TheVariants.{Finished}
use Rattle.plain_meaning.specs.declared.scalar.Scalar.{Scalar}
use Rattle.plain_meaning.specs.declared.scalar.CheckedPointer.{CheckedPointer}
use Rattle.plain_meaning.specs.declared.tree.Expression.{Expression}
use Rattle.plain_meaning.specs.declared.tree.Statement.{Statement}
use Rattle.plain_meaning.specs.Tree.{Tree, Action, Stop, Point}
use Rattle.plain_meaning.specs.Points.{Go, Halt, Onward, Ask, pointer_of, reach_at, want_at, checked_point, checked_next}
use Rattle.plain_meaning.specs.Acts.{End, feed}
use Rattle.plain_meaning.specs.Values.{Variables, is_true}
use Rattle.plain_meaning.specs.Meaning.{expression, statement}
use Rattle.plain_meaning.specs.Run.{checked_acts, calls_of, replies_of}
use Rattle.tree_walk.specs.declared.reports.Subject.{Subject}
use Rattle.tree_walk.specs.declared.stop.Stop.{Stop as StopReason}
use Rattle.tree_walk.specs.declared.stop.Stop.TheVariants.{Ended, Memory}
use Rattle.tree_walk.specs.declared.walk.Walk.{Walk}

abbrev pub Events : Type 0
Events = Tree CheckedPointer (Unit {0})

-- what is seen of a worker: all calls that it asks, all that it prints, and where it stands
pub record View : Type 0 where
  pub calls : List Call
  pub text : List ℕ
  pub end : End Call

-- after these entries and this text, with as many turns left and this to do, and with these replies to come
abbrev pub view : List Entry → List ℕ → ℕ → Events → List Reply → View
view entries text left tree replies =
    let p = feed replies (checked_acts left tree) in
    record { calls = calls_of entries ++ p.calls; text = text ++ p.text; end = p.end }

abbrev pub ahead : Walk → Events → List Reply → View
ahead walk tree replies = view walk.heaps walk.text walk.left tree replies

-- From one state with this to do the walk came to another with that to do: the history grew by entries of worker 1, and
-- whatever replies are to come, their replies before these lead to the same.
pub record Passes (old : Walk) (t : Events) (new : Walk) (u : Events) : Type 0 where
  pub more : List Entry
  pub grown : new.heaps ≡ old.heaps ++ more
  pub of_one : AllByRecursion (λ e. e.worker ≡ 1) more
  pub same : (replies : List Reply) → ahead old t (replies_of more ++ replies) ≡ ahead new u replies

-- What does something with a value leads there: what follows goes on with the value, or the worker has ended.
abbrev pub Leads : {A B : Type 0} → Walk → ((B → Events) → Events) → (A → B) → Result A StopReason → Walk → Type 0
Leads {B = B} old does value (Ok x) new = (next : B → Events) → Passes old (does next) new (next (value x))
Leads {B = B} old does value (Err (Ended ending)) new = (next : B → Events) → Passes old (does next) new (Stop ending)
Leads old does value (Err (Memory error)) new = Unit {0}

abbrev pub no_value : {A : Type 0} → A → Unit {0}
no_value x = tt

abbrev pub itself : {A : Type 0} → A → A
itself x = x

-- a test, of which what follows needs only whether it holds
abbrev pub test_of : ℕ → Expression → Variables CheckedPointer → (Bool → Events) → Events
test_of line test variables next = expression line test variables (λ v. next (is_true v))

-- ---- calls

abbrev pub IsNoReport : Reply → Type 0
IsNoReport (Report kind) = ⊥
IsNoReport reply = Unit {0}

-- how a point goes on
abbrev pub onward : (Scalar CheckedPointer → Events) → Onward → Events
onward f (Go v note) = f v
onward f (Halt ending note) = Stop ending

-- what a report at a point is about
pub record IsAbout (subject : Subject) (action : Action) (p : CheckedPointer) : Type 0 where
  pub word : subject.word ≡ p.word
  pub reach : subject.reach ≡ reach_at action p
  pub want : subject.want ≡ want_at action

-- A call was made: each point that asks it goes on from its reply, or the worker has ended by a report.
abbrev pub IsAsked : Walk → Call → Subject → Result Reply StopReason → Walk → Type 0
IsAsked old call subject (Ok reply) new =
    (action : Action) (u w : Scalar CheckedPointer) (f : Scalar CheckedPointer → Events) → checked_point tt subject.line action u w ≡ Ask call →
    Passes old (Point subject.line action u w f) new (onward f (checked_next tt subject.line action u w reply))
IsAsked old call subject (Err (Ended ending)) new =
    (action : Action) (u w : Scalar CheckedPointer) (f : Scalar CheckedPointer → Events) → checked_point tt subject.line action u w ≡ Ask call →
    IsAbout subject action (pointer_of u) → Passes old (Point subject.line action u w f) new (Stop ending)
IsAsked old call subject (Err (Memory error)) new = Unit {0}

-- ---- what is kept

pub record Fewer (old new : Walk) : Type 0 where
  pub left : new.left ≤ old.left

-- The variables are as they were, and no turns are won.
pub record Keeps (old new : Walk) : Type 0 where
  pub variables : new.variables ≡ old.variables
  pub left : new.left ≤ old.left

-- A statement leads there, whatever number of turns is looked at, as long as none that is left is missed.
abbrev pub Walks : Walk → Statement → Result (Unit {0}) StopReason → Walk → Type 0
Walks old x result new =
    (n : ℕ) → old.left ≤ n → Leads old (statement n x old.variables.items) (λ done. new.variables.items) result new

-- how a worker ends whose function is left so
abbrev pub EndsAs : Result (Unit {0}) StopReason → Ending → Type 0
EndsAs (Ok done) ending = ending ≡ Finished
EndsAs (Err (Ended e)) ending = ending ≡ e
EndsAs (Err (Memory error)) ending = ⊥
