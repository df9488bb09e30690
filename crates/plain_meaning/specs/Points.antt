-- What a mode makes of a point: a value, an ending, or one call on the heap with what its reply leads to.
use Rattle.std.specs.Prelude.{ℕ, ◌+◌, ◌==◌, Bool, true, false, cond, ℤ, pos, negsuc}
use Rattle.std.specs.Int.{w64, cast_signed, cast_unsigned}
use Rattle.slot_headers.specs.Words.{address_of, version_of}
use Rattle.heap_model.specs.Reaches.{may_escape, slot_bounds, moved}
use Rattle.heap_model.specs.declared.calls.Reach.{Reach}
use Rattle.heap_model.specs.declared.calls.Value.{Value}
use Rattle.heap_model.specs.declared.calls.Call.{Call}
use Rattle.heap_model.specs.declared.calls.Call.TheVariants as call
use Rattle.heap_model.specs.declared.calls.Reply.{Reply}
use Rattle.heap_model.specs.declared.calls.Reply.TheVariants as reply
use Rattle.heap_model.specs.declared.calls.ReportKind.{ReportKind}
use Rattle.heap_model.specs.declared.calls.ReportKind.TheVariants as kind
use Rattle.plain_meaning.specs.declared.record.Report.{Report}
use Rattle.plain_meaning.specs.declared.record.Ending.{Ending}
use Rattle.plain_meaning.specs.declared.record.Ending.TheVariants.{Reported}
use Rattle.plain_meaning.specs.declared.scalar.Scalar.{Scalar}
use Rattle.plain_meaning.specs.declared.scalar.Scalar.TheVariants.{Number, Pointer}
use Rattle.plain_meaning.specs.declared.scalar.CheckedPointer.{CheckedPointer}
use Rattle.plain_meaning.specs.Tree.{Action, Null, IsNull, Allocate, Free, Load, Store, Pass, Convert, Move}

-- How pointers are kept: in mode Checked a pointer is a word with a reach.
pub data Mode : Type 0 where
  Checked : Mode

-- how a point goes on, with P for pointers and N for what the mode keeps beside the values
pub data Next (P N : Type 0) : Type 0 where
  Go : Scalar P → N → Next P N
  Halt : Ending → N → Next P N

pub data Answer (P N C : Type 0) : Type 0 where
  Now : Next P N → Answer P N C
  Ask : C → Answer P N C

abbrev pub number_of : {P : Type 0} → Scalar P → ℤ
number_of (Number n) = n
number_of (Pointer p) = pos 0

abbrev pub natural : ℤ → ℕ
natural (pos n) = n
natural (negsuc n) = 0

abbrev pub bit : Bool → ℤ
bit true = pos 1
bit false = pos 0

-- ---- words with reaches

abbrev pub nowhere : Reach
nowhere = record { lo = 0; hi = 0 }

abbrev pub null : CheckedPointer
null = record { word = 0; reach = nowhere }

abbrev pub pointer_of : Scalar CheckedPointer → CheckedPointer
pointer_of (Number n) = null
pointer_of (Pointer p) = p

abbrev pub is_null : CheckedPointer → Bool
is_null p = version_of p.word == 0

-- ---- reports

abbrev pub about_nothing : ReportKind → ℕ → Report
about_nothing kind line =
    record { kind = kind; line = line; first = 0; first_reach = nowhere; second = 0; second_reach = nowhere; want = 0 }

-- about a word with the reach that belongs to it, at a check with the type that was wanted
abbrev pub report_on : ReportKind → ℕ → ℕ → Reach → ℕ → Report
report_on kind.Null line word reach want = about_nothing kind.Null line
report_on kind.WrongType line word reach want =
    record { kind = kind.WrongType; line = line; first = word; first_reach = reach; second = 0; second_reach = nowhere; want = want }
report_on other line word reach want =
    record { kind = other; line = line; first = word; first_reach = reach; second = 0; second_reach = nowhere; want = 0 }

-- An access has its own reach, a check or a free the bounds of the slot.
abbrev pub reach_at : Action → CheckedPointer → Reach
reach_at (Load kind) p = p.reach
reach_at (Store kind) p = p.reach
reach_at action p = slot_bounds p.word

abbrev pub want_at : Action → ℕ
want_at (Convert want) = want
want_at action = 0

-- what the heap reports at a point of this action
abbrev pub report_at : Action → ReportKind → ℕ → CheckedPointer → Report
report_at action kind line p = report_on kind line p.word (reach_at action p) (want_at action)

-- a pointer that is out of its reach
abbrev pub escape : ℕ → CheckedPointer → Report
escape line p = report_on kind.Escape line p.word p.reach 0

-- ---- mode Checked

-- it keeps nothing beside the values
abbrev pub CheckedNote : Type 0
CheckedNote = Unit {0}

abbrev pub Onward : Type 0
Onward = Next CheckedPointer CheckedNote

abbrev pub Asking : Type 0
Asking = Answer CheckedPointer CheckedNote Call

-- a report ends the worker
abbrev pub halt_with : Report → CheckedNote → Onward
halt_with report note = Halt (Reported report) note

-- what comes where a pointer may leave its owner, and else the report
abbrev pub unless_escape : ℕ → CheckedPointer → CheckedNote → Asking → Asking
unless_escape line p note answer = cond (may_escape p.reach p.word) answer (Now (halt_with (escape line p) note))

-- A pointer is checked for a type, unless it is null.
abbrev pub check_for : ℕ → CheckedPointer → CheckedNote → Asking
check_for want p note = cond (is_null p) (Now (Go (Pointer p) note)) (Ask (call.Check p.word want))

abbrev pub number_value : ℤ → Value
number_value n = record { bits = cast_unsigned w64 n; pointer = false }

abbrev pub shift : CheckedPointer → ℤ → ℕ → CheckedPointer
shift p count size = record { word = moved p.word count size; reach = p.reach }

abbrev pub checked_point : CheckedNote → ℕ → Action → Scalar CheckedPointer → Scalar CheckedPointer → Asking
checked_point note line Null u w = Now (Go (Pointer null) note)
checked_point note line IsNull u w = Now (Go (Number (bit (is_null (pointer_of u)))) note)
checked_point note line (Allocate elem) u w = Ask (call.Alloc elem (natural (number_of u)) false)
-- it was tested where it was passed
checked_point note line Free u w = Ask (call.Free (pointer_of u).word false)
checked_point note line (Load kind) u w = Ask (call.Load (pointer_of u).word (pointer_of u).reach kind)
checked_point note line (Store kind) u w = Ask (call.Store (pointer_of u).word (pointer_of u).reach kind (number_value (number_of w)))
checked_point note line Pass u w = unless_escape line (pointer_of u) note (Now (Go (Pointer (pointer_of u)) note))
checked_point note line (Convert want) u w = unless_escape line (pointer_of u) note (check_for want (pointer_of u) note)
checked_point note line (Move size) u w = Now (Go (Pointer (shift (pointer_of u) (number_of w) size)) note)

-- the pointer to a new object of this size
abbrev pub new_pointer : ℕ → ℕ → CheckedPointer
new_pointer word size = record { word = word; reach = record { lo = address_of word; hi = address_of word + size } }

-- how a point goes on from its reply. An allocation that finds no room gives null.
abbrev pub checked_next : CheckedNote → ℕ → Action → Scalar CheckedPointer → Scalar CheckedPointer → Reply → Onward
checked_next note line action u w (reply.Placed word) = Go (Pointer (new_pointer word (natural (number_of u)))) note
checked_next note line action u w reply.NoSlot = Go (Pointer null) note
checked_next note line action u w reply.Done = Go (Number (pos 0)) note
checked_next note line action u w (reply.Found reach) = Go (Pointer (record { word = (pointer_of u).word; reach = reach })) note
checked_next note line action u w (reply.Value v) = Go (Number (cast_signed w64 v.bits)) note
checked_next note line action u w (reply.Report kind) = halt_with (report_at action kind line (pointer_of u)) note

-- ---- each mode

abbrev pub PointerIn : Mode → Type 0
PointerIn Checked = CheckedPointer

abbrev pub Note : Mode → Type 0
Note Checked = CheckedNote

abbrev pub CallIn : Mode → Type 0
CallIn Checked = Call

abbrev pub ReplyIn : Mode → Type 0
ReplyIn Checked = Reply

-- what a worker begins with
abbrev pub first_note : (m : Mode) → Note m
first_note Checked = tt

abbrev pub point : (m : Mode) → Note m → ℕ → Action → Scalar (PointerIn m) → Scalar (PointerIn m) → Answer (PointerIn m) (Note m) (CallIn m)
point Checked note line action u w = checked_point note line action u w

abbrev pub point_next : (m : Mode) → Note m → ℕ → Action → Scalar (PointerIn m) → Scalar (PointerIn m) → ReplyIn m → Next (PointerIn m) (Note m)
point_next Checked note line action u w reply = checked_next note line action u w reply

-- the ending of a worker that ends with a note
abbrev pub final_ending : (m : Mode) → Note m → Ending → Ending
final_ending Checked note ending = ending
