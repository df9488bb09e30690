-- What a report wants is one of the nine types that each table has, or none.
use Rattle.std.proofs.Common.{◌≡◌, ℕ, ◌≤◌, Bool, true, false, cond, List, [], ◌∷◌, Option, Some, None, subst, arith}
use Rattle.std.specs.Prelude.{slice_get}
use Rattle.heap_model.specs.Reaches.{may_escape}
use Rattle.heap_model.specs.declared.calls.Reach.{Reach}
use Rattle.heap_model.specs.declared.calls.Call.{Call}
use Rattle.heap_model.specs.declared.calls.Reply.{Reply}
use Rattle.heap_model.specs.declared.calls.Reply.TheVariants as reply
use Rattle.heap_model.specs.declared.calls.ReportKind.{ReportKind}
use Rattle.heap_model.specs.declared.calls.ReportKind.TheVariants as kind
use Rattle.plain_meaning.specs.declared.record.Report.{Report}
use Rattle.plain_meaning.specs.declared.record.Ending.TheVariants.{Finished, Spent, Reported}
use Rattle.plain_meaning.specs.declared.record.Setting.{Setting}
use Rattle.plain_meaning.specs.declared.scalar.Scalar.{Scalar}
use Rattle.plain_meaning.specs.declared.scalar.CheckedPointer.{CheckedPointer}
use Rattle.plain_meaning.specs.declared.tree.Function.{Function}
use Rattle.plain_meaning.specs.declared.tree.Program.{Program}
use Rattle.plain_meaning.specs.Tree.{Action, Null, IsNull, Allocate, Free, Load, Store, Pass, Convert, Move}
use Rattle.plain_meaning.specs.Points.{Checked, Next, Go, Halt, Answer, Now, Ask, CheckedNote as Nothing, Asking, pointer_of, is_null, report_on, want_at, reach_at, checked_point, checked_next}
use Rattle.plain_meaning.specs.Acts.{Acts, goes, resolve, Ends, Progress, feed}
use Rattle.plain_meaning.specs.Meaning.{body_of}
use Rattle.plain_meaning.specs.Run.{checked_acts, worker}
use Rattle.plain_meaning.proofs.Relations.{Events, Kept, IsOfForm, body_alike}

-- ---- points

abbrev IsKnown : Next CheckedPointer Nothing → Type 0
IsKnown (Go v note) = Unit {0}
IsKnown (Halt Finished note) = Unit {0}
IsKnown (Halt (Spent line) note) = Unit {0}
IsKnown (Halt (Reported report) note) = report.want ≤ 9

abbrev AnswerIsKnown : Asking → Type 0
AnswerIsKnown (Now onward) = IsKnown onward
AnswerIsKnown (Ask c) = Unit {0}

either : (b : Bool) (x y : Asking) → AnswerIsKnown x → AnswerIsKnown y → AnswerIsKnown (cond b x y)
either true x y p q = p
either false x y p q = q

checked_known : (line : ℕ) (action : Action) (v w : Scalar CheckedPointer) → AnswerIsKnown (checked_point tt line action v w)
checked_known line Null v w = tt
checked_known line IsNull v w = tt
checked_known line (Allocate elem) v w = tt
checked_known line Free v w = tt
checked_known line (Load kind) v w = tt
checked_known line (Store kind) v w = tt
checked_known line Pass v w = either (may_escape (pointer_of v).reach (pointer_of v).word) _ _ tt (omega arith)
checked_known line (Convert want) v w =
    either (may_escape (pointer_of v).reach (pointer_of v).word) _ _ (either (is_null (pointer_of v)) _ _ tt tt) (omega arith)
checked_known line (Move size) v w = tt

report_known : (k : ReportKind) (line word : ℕ) (reach : Reach) (want : ℕ) → want ≤ 9 → (report_on k line word reach want).want ≤ 9
report_known kind.WrongType line word reach want le = le
report_known kind.Bounds line word reach want le = omega arith
report_known kind.Free line word reach want le = omega arith
report_known kind.Null line word reach want le = omega arith
report_known kind.BadFree line word reach want le = omega arith
report_known kind.DoubleFree line word reach want le = omega arith
report_known kind.Align line word reach want le = omega arith
report_known kind.PointerBytes line word reach want le = omega arith
report_known kind.NotPointer line word reach want le = omega arith
report_known kind.Escape line word reach want le = omega arith
report_known kind.Compare line word reach want le = omega arith

want_known : (action : Action) → IsOfForm action → want_at action ≤ 9
want_known Null ok = omega arith
want_known IsNull ok = omega arith
want_known (Allocate elem) ok = omega arith
want_known Free ok = omega arith
want_known (Load kind) ok = omega arith
want_known (Store kind) ok = omega arith
want_known Pass ok = omega arith
want_known (Convert want) ok = ok
want_known (Move size) ok = omega arith

told_known : (line : ℕ) (action : Action) → IsOfForm action → (v w : Scalar CheckedPointer) (r : Reply) → IsKnown (checked_next tt line action v w r)
told_known line action ok v w (reply.Placed word) = tt
told_known line action ok v w reply.NoSlot = tt
told_known line action ok v w reply.Done = tt
told_known line action ok v w (reply.Found reach) = tt
told_known line action ok v w (reply.Value value) = tt
told_known line action ok v w (reply.Report k) =
    report_known k line (pointer_of v).word (reach_at action (pointer_of v)) (want_at action) (want_known action ok)

-- ---- workers

abbrev CheckedEvents : Type 0
CheckedEvents = Events CheckedPointer

abbrev Onwards : Type 0
Onwards = Scalar CheckedPointer → Nothing → Acts Call Reply

abbrev WantsOf : Progress Call → Type 0
WantsOf p = (report : Report) → p.end ≡ Ends (Reported report) → report.want ≤ 9

abbrev Wants : ℕ → CheckedEvents → CheckedEvents → Type 0
Wants left t u = (replies : List Reply) → WantsOf (feed replies (checked_acts left t))

abbrev WantingOnwards : Onwards → Type 0
WantingOnwards k = (v : Scalar CheckedPointer) (note : Nothing) (replies : List Reply) → WantsOf (feed replies (k v note))

goes_wants : (onward : Next CheckedPointer Nothing) → IsKnown onward → (k : Onwards) → WantingOnwards k → (replies : List Reply) →
    WantsOf (feed replies (goes Checked onward k))
goes_wants (Go v note) known k all replies = all v note replies
goes_wants (Halt Finished note) known k all replies = λ report is. cc
goes_wants (Halt (Spent at) note) known k all replies = λ report is. cc
goes_wants (Halt (Reported r) note) known k all replies = λ report is. let same : r ≡ report = cc in subst (λ (x : Report). x.want ≤ 9) same known

resolve_wants : (answer : Answer CheckedPointer Nothing Call) (tells : Reply → Next CheckedPointer Nothing) → AnswerIsKnown answer →
    ((r : Reply) → IsKnown (tells r)) → (k : Onwards) → WantingOnwards k → (replies : List Reply) →
    WantsOf (feed replies (resolve Checked answer tells k))
resolve_wants (Now onward) tells known told k all replies = goes_wants onward known k all replies
resolve_wants (Ask c) tells known told k all [] = λ report is. cc
resolve_wants (Ask c) tells known told k all (r ∷ replies) = goes_wants (tells r) (told r) k all replies

wants_kept : Kept CheckedPointer Wants
wants_kept = record {
  returned = λ left replies report is. cc;
  printed = λ left bytes t u all replies. all replies;
  spent = λ line t u replies report is. cc;
  turned = λ left line t u all replies. all replies;
  pointed = λ left line action ok v w f g all replies.
      resolve_wants (checked_point tt line action v w) (checked_next tt line action v w) (checked_known line action v w) (told_known line action ok v w) _
      (λ x note more. all x more) replies;
}

wants_of_body : (found : Option Function) (left : ℕ) (replies : List Reply) → WantsOf (feed replies (checked_acts left (body_of left found)))
wants_of_body (Some f) left replies = body_alike Wants wants_kept left left left (omega arith) (omega arith) f replies
wants_of_body None left replies = λ report is. cc

pub wants : (program : Program) (setting : Setting) (replies : List Reply) (report : Report) →
    (worker program setting replies).end ≡ Ends (Reported report) → report.want ≤ 9
wants program setting = wants_of_body (slice_get program.functions setting.entry) setting.turns
