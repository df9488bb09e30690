-- A report is shown by the entries of the worker that it ends.
use Rattle.std.proofs.Common.{◌≡◌, ℕ, zero, suc, Bool, true, false, cond, ◌==◌, List, [], ◌∷◌, Option, Some, None, refl, sym, ap, ◌∙◌, subst, arith}
use Rattle.std.specs.Prelude.{slice_get}
use Rattle.std.specs.List.{AllByRecursion}
use Rattle.std.specs.Prelude.{pos}
use Rattle.std.specs.Int.{w64, cast_signed}
use Rattle.heap_model.specs.Reaches.{may_escape}
use Rattle.heap_model.specs.Heap.{empty}
use Rattle.heap_model.specs.Layouts.{Layouts}
use Rattle.heap_model.specs.Answers.{Words}
use Rattle.heap_model.specs.Legal.{Answers, AllocAnswers, IsLegalFrom, after, own}
use Rattle.heap_model.specs.declared.calls.Call.{Call}
use Rattle.heap_model.specs.declared.calls.Call.TheVariants as call
use Rattle.heap_model.specs.declared.calls.Reply.{Reply}
use Rattle.heap_model.specs.declared.calls.Reply.TheVariants as reply
use Rattle.heap_model.specs.declared.calls.ReportKind.{ReportKind}
use Rattle.heap_model.specs.declared.calls.Entry.{Entry}
use Rattle.plain_meaning.specs.declared.record.Ending.{Ending}
use Rattle.plain_meaning.specs.declared.record.Ending.TheVariants.{Finished, Spent, Reported}
use Rattle.plain_meaning.specs.declared.record.Report.{Report}
use Rattle.plain_meaning.specs.declared.scalar.Scalar.{Scalar}
use Rattle.plain_meaning.specs.declared.scalar.Scalar.TheVariants.{Number, Pointer}
use Rattle.plain_meaning.specs.declared.scalar.CheckedPointer.{CheckedPointer}
use Rattle.plain_meaning.specs.declared.tree.Function.{Function}
use Rattle.plain_meaning.specs.Tree.{Action, Null, IsNull, Allocate, Free, Load, Store, Pass, Convert, Move}
use Rattle.plain_meaning.specs.Points.{Checked, Next, Go, Halt, Now, Ask, CheckedNote, Asking, number_of, natural, null, new_pointer, pointer_of, is_null, report_at, escape, checked_point, checked_next}
use Rattle.plain_meaning.specs.Acts.{Acts, goes, resolve, End, Ends, Progress, feed}
use Rattle.plain_meaning.specs.Meaning.{body_of}
use Rattle.plain_meaning.specs.Reported.{Tells, of_free, of_check, of_load, of_store, IsShown, by_last_entry, by_escape, ReportedLaw}
use Rattle.plain_meaning.specs.Run.{checked_acts, calls_of, replies_of}
use Rattle.plain_meaning.proofs.Relations.{Events, Kept, body_alike}

-- ---- allocations are not reported

abbrev IsPossible : Call → Reply → Type 0
IsPossible (call.Alloc elem size fixed) (reply.Report kind) = ⊥
IsPossible c r = Unit {0}

abbrev ArePossible : List Entry → Type 0
ArePossible entries = AllByRecursion (λ e. IsPossible e.call e.reply) entries

module _ (layouts : Layouts) (h : Words) (r : ℕ) where
  alloc_possible : (elem size : ℕ) (fixed : Bool) (given : Reply) → AllocAnswers h r given → IsPossible (call.Alloc elem size fixed) given
  unfolding AllocAnswers
  alloc_possible elem size fixed (reply.Placed word) a = tt
  alloc_possible elem size fixed reply.NoSlot a = tt
  alloc_possible elem size fixed reply.Done a = tt
  alloc_possible elem size fixed (reply.Found reach) a = tt
  alloc_possible elem size fixed (reply.Value v) a = tt
  alloc_possible elem size fixed (reply.Report kind) a = a

  possible : (c : Call) (given : Reply) → Answers layouts h r c given → IsPossible c given
  unfolding Answers
  possible (call.Alloc elem size fixed) given a = alloc_possible elem size fixed given a
  possible (call.Free p fixed) given a = tt
  possible (call.Check p want) given a = tt
  possible (call.Load p reach kind) given a = tt
  possible (call.Store p reach kind v) given a = tt
  possible (call.Add p reach kind n) given a = tt

own_first : (worker : ℕ) (e : Entry) (es : List Entry) → IsPossible e.call e.reply → ArePossible (own es worker) → (b : Bool)
    → ArePossible (cond b (e ∷ own es worker) (own es worker))
own_first worker e es first rest true = (first, rest)
own_first worker e es first rest false = rest

own_possible : (layouts : Layouts) (h : Words) (history : List Entry) (worker : ℕ) → IsLegalFrom layouts h history → ArePossible (own history worker)
own_possible layouts h [] worker legal = tt
own_possible layouts h (e ∷ es) worker legal =
    own_first worker e es (possible layouts h e.region e.call e.reply legal.0.answers)
    (own_possible layouts (after h e) es worker legal.1) (e.worker == worker)

-- ---- points

-- what ends a worker without a call is a pointer out of its reach
abbrev IsEscape : Next CheckedPointer CheckedNote → Type 0
IsEscape (Go v note) = Unit {0}
IsEscape (Halt (Reported report) note) = (p : CheckedPointer) × (line : ℕ) × (may_escape p.reach p.word ≡ false) × (report ≡ escape line p)
IsEscape (Halt ending note) = Unit {0}

-- a report to a call tells of it
abbrev Asks : ℕ → Action → CheckedPointer → Asking → Type 0
Asks line action p (Now onward) = IsEscape onward
Asks line action p (Ask c) = (kind : ReportKind) → IsPossible c (reply.Report kind) → Tells kind line c (report_at action kind line p)

module _ (line : ℕ) (action : Action) (p : CheckedPointer) where
  unless : (b : Bool) (x : Asking) → may_escape p.reach p.word ≡ b → Asks line action p x
      → Asks line action p (cond b x (Now (Halt (Reported (escape line p)) tt)))
  unless true x e a = a
  unless false x e a = (p, line, e, refl)

  either : (b : Bool) (x y : Asking) → Asks line action p x → Asks line action p y → Asks line action p (cond b x y)
  either true x y a c = a
  either false x y a c = c

asks : (line : ℕ) (action : Action) (v w : Scalar CheckedPointer) → Asks line action (pointer_of v) (checked_point tt line action v w)
asks line Null v w = tt
asks line IsNull v w = tt
asks line (Allocate elem) v w = λ kind is. absurd is
asks line Free v w = λ kind is. of_free
asks line (Load access) v w = λ kind is. of_load
asks line (Store access) v w = λ kind is. of_store
asks line Pass v w = unless line Pass (pointer_of v) (may_escape (pointer_of v).reach (pointer_of v).word) _ refl tt
asks line (Convert want) v w =
    unless line (Convert want) (pointer_of v) (may_escape (pointer_of v).reach (pointer_of v).word) _ refl
    (either line (Convert want) (pointer_of v) (is_null (pointer_of v)) _ _ tt (λ kind is. of_check))
asks line (Move size) v w = tt

-- ---- workers

abbrev CheckedEvents : Type 0
CheckedEvents = Events CheckedPointer

abbrev Onwards : Type 0
Onwards = Scalar CheckedPointer → CheckedNote → Acts Call Reply

-- fed the replies of entries whose calls it asked, it ends with no report but one that they show
abbrev ShowsIn : List Entry → Progress Call → Type 0
ShowsIn entries p = p.calls ≡ calls_of entries → (report : Report) → p.end ≡ Ends (Reported report) → IsShown entries report

abbrev Shows : Acts Call Reply → Type 0
Shows acts = (entries : List Entry) → ArePossible entries → ShowsIn entries (feed (replies_of entries) acts)

abbrev AreShown : ℕ → CheckedEvents → CheckedEvents → Type 0
AreShown left t u = Shows (checked_acts left t)

abbrev ShowingOnwards : Onwards → Type 0
ShowingOnwards k = (v : Scalar CheckedPointer) (note : CheckedNote) → Shows (k v note)

-- the end of a worker
abbrev the_end : Ending → End Call
the_end ending = Ends ending

same_report : (a b : Report) → the_end (Reported a) ≡ the_end (Reported b) → a ≡ b
same_report a b e = cc

none_left : (entries : List Entry) → [] ≡ calls_of entries → entries ≡ []
none_left [] e = refl
none_left (e ∷ es) is = absurd cc

further : (e : Entry) (entries : List Entry) (report : Report) → IsShown entries report → IsShown (e ∷ entries) report
further e entries report (by_last_entry earlier last kind line is reported tells) =
    by_last_entry (e ∷ earlier) last kind line (ap (λ (l : List Entry). e ∷ l) is) reported tells
further e entries report (by_escape p line out is) = by_escape p line out is

goes_shown : (onward : Next CheckedPointer CheckedNote) → IsEscape onward → (k : Onwards) → ShowingOnwards k → Shows (goes Checked onward k)
goes_shown (Go v note) is k all entries fine = all v note entries fine
goes_shown (Halt Finished note) is k all entries fine = λ calls report ended. absurd cc
goes_shown (Halt (Spent line) note) is k all entries fine = λ calls report ended. absurd cc
goes_shown (Halt (Reported r) note) (p, line, out, same) k all entries fine = λ calls report ended.
    by_escape p line out (sym (same_report r report ended) ∙ same)

-- what a reply leads to, after the entry of the call
module _ (line : ℕ) (action : Action) (v w : Scalar CheckedPointer) (c : Call) (k : Onwards) (all : ShowingOnwards k)
    (tells : (kind : ReportKind) → IsPossible c (reply.Report kind) → Tells kind line c (report_at action kind line (pointer_of v))) where
  asked_calls : (e : Entry) (calls : List Call) (entries : List Entry) → c ∷ calls ≡ e.call ∷ calls_of entries → (c ≡ e.call) × (calls ≡ calls_of entries)
  asked_calls e calls entries is = (cc, cc)

  go_on : (e : Entry) (entries : List Entry) (next : Acts Call Reply) → Shows next → ArePossible entries
      → c ∷ (feed (replies_of entries) next).calls ≡ e.call ∷ calls_of entries → (report : Report)
      → (feed (replies_of entries) next).end ≡ Ends (Reported report) → IsShown (e ∷ entries) report
  go_on e entries next shows fine calls report ended =
      further e entries report (shows entries fine (asked_calls e _ entries calls).1 report ended)

  halts : (e : Entry) (entries : List Entry) (kind : ReportKind) → e.reply ≡ reply.Report kind → IsPossible e.call e.reply
      → c ∷ [] ≡ e.call ∷ calls_of entries → (report : Report) → the_end (Reported (report_at action kind line (pointer_of v))) ≡ Ends (Reported report)
      → IsShown (e ∷ entries) report
  halts e entries kind is fine calls report ended =
      let parts = asked_calls e [] entries calls in
      let possible_here : IsPossible c (reply.Report kind) = subst (λ r. IsPossible c r) is (subst (λ x. IsPossible x e.reply) (sym parts.0) fine) in
      let told = subst (λ x. Tells kind line c x) (same_report _ report ended) (tells kind possible_here) in
      by_last_entry [] e kind line (ap (λ (l : List Entry). e ∷ l) (none_left entries parts.1)) is
      (subst (λ x. Tells kind line x report) parts.0 told)

  after_reply : (e : Entry) (entries : List Entry) (r : Reply) → e.reply ≡ r → IsPossible e.call e.reply → ArePossible entries
      → c ∷ (feed (replies_of entries) (goes Checked (checked_next tt line action v w r) k)).calls ≡ e.call ∷ calls_of entries → (report : Report)
      → (feed (replies_of entries) (goes Checked (checked_next tt line action v w r) k)).end ≡ Ends (Reported report) → IsShown (e ∷ entries) report
  after_reply e entries (reply.Placed word) is here fine =
      go_on e entries (k (Pointer (new_pointer word (natural (number_of v)))) tt) (all (Pointer (new_pointer word (natural (number_of v)))) tt) fine
  after_reply e entries reply.NoSlot is here fine = go_on e entries (k (Pointer null) tt) (all (Pointer null) tt) fine
  after_reply e entries reply.Done is here fine = go_on e entries (k (Number (pos 0)) tt) (all (Number (pos 0)) tt) fine
  after_reply e entries (reply.Found reach) is here fine =
      go_on e entries (k (Pointer (record { word = (pointer_of v).word; reach = reach })) tt) (all (Pointer (record { word = (pointer_of v).word; reach = reach })) tt) fine
  after_reply e entries (reply.Value value) is here fine = go_on e entries (k (Number (cast_signed w64 value.bits)) tt) (all (Number (cast_signed w64 value.bits)) tt) fine
  after_reply e entries (reply.Report kind) is here fine = halts e entries kind is here

resolve_shown : (line : ℕ) (action : Action) (v w : Scalar CheckedPointer) (answer : Asking) → Asks line action (pointer_of v) answer
    → (k : Onwards) → ShowingOnwards k → Shows (resolve Checked answer (checked_next tt line action v w) k)
resolve_shown line action v w (Now onward) is k all entries fine = goes_shown onward is k all entries fine
resolve_shown line action v w (Ask c) is k all [] fine = λ calls report ended. absurd cc
resolve_shown line action v w (Ask c) is k all (e ∷ entries) fine = after_reply line action v w c k all is e entries e.reply refl fine.0 fine.1

shown_kept : Kept CheckedPointer AreShown
shown_kept = record {
  returned = λ left entries fine calls report ended. absurd cc;
  printed = λ left bytes t u all entries fine. all entries fine;
  spent = λ line t u entries fine calls report ended. absurd cc;
  turned = λ left line t u all entries fine. all entries fine;
  pointed = λ left line action ok v w f g all.
      resolve_shown line action v w (checked_point tt line action v w) (asks line action v w) _ (λ x note. all x);
}

shown_of_body : (found : Option Function) (left : ℕ) → Shows (checked_acts left (body_of left found))
shown_of_body (Some f) left = body_alike AreShown shown_kept left left left (omega arith) (omega arith) f
shown_of_body None left = λ entries fine calls report ended. absurd cc

pub reported_law : ReportedLaw
reported_law program setting run zero report is ended = absurd (no_report (ap (λ (l : List Ending). slice_get l 0) (sym is.endings) ∙ ended))
  where
    no_report : Some Finished ≡ Some (Reported report) → ⊥
    no_report e = cc
reported_law program setting run (suc zero) report is ended =
    shown_of_body (slice_get program.functions setting.entry) setting.turns (own run.history.entries 1) (own_possible _ empty run.history.entries 1 is.legal)
    is.worked.calls report (is.worked.ended ∙ ap the_end (same (ap (λ (l : List Ending). slice_get l 1) (sym is.endings) ∙ ended)))
  where
    same : Some is.ending ≡ Some (Reported report) → is.ending ≡ Reported report
    same e = cc
reported_law program setting run (suc (suc n)) report is ended = absurd (none (ap (λ (l : List Ending). slice_get l (suc (suc n))) (sym is.endings) ∙ ended))
  where
    none : None ≡ Some (Reported report) → ⊥
    none e = cc
