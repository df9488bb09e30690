-- A point does not end a worker for want of turns.
use Rattle.std.proofs.Common.{ℕ, Bool, true, false, cond}
use Rattle.heap_model.specs.Reaches.{may_escape}
use Rattle.heap_model.specs.declared.calls.Reply.{Reply}
use Rattle.heap_model.specs.declared.calls.Reply.TheVariants as reply
use Rattle.plain_meaning.specs.declared.record.Ending.TheVariants.{Spent}
use Rattle.plain_meaning.specs.declared.scalar.Scalar.{Scalar}
use Rattle.plain_meaning.specs.declared.scalar.CheckedPointer.{CheckedPointer}
use Rattle.plain_meaning.specs.Tree.{Action, Null, IsNull, Allocate, Free, Load, Store, Pass, Convert, Move}
use Rattle.plain_meaning.specs.Points.{Next, Go, Halt, Now, Ask, CheckedNote, Asking, pointer_of, is_null, checked_point, checked_next}

abbrev pub IsUnspent : Next CheckedPointer CheckedNote → Type 0
IsUnspent (Go v note) = Unit {0}
IsUnspent (Halt (Spent line) note) = ⊥
IsUnspent (Halt ending note) = Unit {0}

abbrev pub AnswerIsUnspent : Asking → Type 0
AnswerIsUnspent (Now onward) = IsUnspent onward
AnswerIsUnspent (Ask c) = Unit {0}

either : (b : Bool) (x y : Asking) → AnswerIsUnspent x → AnswerIsUnspent y → AnswerIsUnspent (cond b x y)
either true x y p q = p
either false x y p q = q

pub checked_unspent : (line : ℕ) (action : Action) (v w : Scalar CheckedPointer) → AnswerIsUnspent (checked_point tt line action v w)
checked_unspent line Null v w = tt
checked_unspent line IsNull v w = tt
checked_unspent line (Allocate elem) v w = tt
checked_unspent line Free v w = tt
checked_unspent line (Load kind) v w = tt
checked_unspent line (Store kind) v w = tt
checked_unspent line Pass v w = either (may_escape (pointer_of v).reach (pointer_of v).word) _ _ tt tt
checked_unspent line (Convert want) v w =
    either (may_escape (pointer_of v).reach (pointer_of v).word) _ _ (either (is_null (pointer_of v)) _ _ tt tt) tt
checked_unspent line (Move size) v w = tt

pub told_unspent : (line : ℕ) (action : Action) (v w : Scalar CheckedPointer) (r : Reply) → IsUnspent (checked_next tt line action v w r)
told_unspent line action v w (reply.Placed word) = tt
told_unspent line action v w reply.NoSlot = tt
told_unspent line action v w reply.Done = tt
told_unspent line action v w (reply.Found reach) = tt
told_unspent line action v w (reply.Value value) = tt
told_unspent line action v w (reply.Report kind) = tt
