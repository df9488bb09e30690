-- The laws of how far a worker comes.
use Rattle.std.proofs.Common.{◌≡◌, ℕ, zero, suc, ◌<◌, ◌≤◌, List, [], ◌∷◌, ◌++◌, Option, Some, None, length, refl, sym, ap, ◌∙◌, subst, ⊎_elim, arith, append_assoc}
use Rattle.std.specs.Prelude.{slice_get}
use Rattle.std.proofs.lemmas.Option.{slice_get_cases}
use Rattle.heap_model.specs.declared.calls.Call.{Call}
use Rattle.heap_model.specs.declared.calls.Reply.{Reply}
use Rattle.plain_meaning.specs.declared.record.Ending.TheVariants.{Finished, Spent, Reported}
use Rattle.plain_meaning.specs.declared.record.Setting.{Setting}
use Rattle.plain_meaning.specs.declared.scalar.Scalar.{Scalar}
use Rattle.plain_meaning.specs.declared.scalar.CheckedPointer.{CheckedPointer}
use Rattle.plain_meaning.specs.declared.tree.Function.{Function}
use Rattle.plain_meaning.specs.declared.tree.Program.{Program}
use Rattle.plain_meaning.specs.Tree.{Return, Stop, Lost, Print, Turn, Point}
use Rattle.plain_meaning.specs.Points.{Checked, Next, Go, Halt, Answer, Now, Ask, CheckedNote as Nothing, checked_point, checked_next}
use Rattle.plain_meaning.specs.Acts.{Acts, Over, Unknown, Says, Takes, Asks, goes, resolve, End, Ends, Waits, MayBeginWith, Progress, add_text, add_turn, add_call, feed, IsSeen, Extends}
use Rattle.plain_meaning.specs.Meaning.{body_of, call}
use Rattle.plain_meaning.specs.Run.{checked_acts, worker}
use Rattle.plain_meaning.proofs.Relations.{Events, Kept, body_alike}
use Rattle.plain_meaning.proofs.Endings.{IsUnspent, AnswerIsUnspent, checked_unspent, told_unspent}

abbrev CheckedEvents : Type 0
CheckedEvents = Events CheckedPointer

abbrev Onwards : Type 0
Onwards = Scalar CheckedPointer → Nothing → Acts Call Reply

-- ---- the turns that are looked at

abbrev SameFed : ℕ → CheckedEvents → CheckedEvents → Type 0
SameFed left t u = (replies : List Reply) → feed replies (checked_acts left t) ≡ feed replies (checked_acts left u)

abbrev SameOnwards : Onwards → Onwards → Type 0
SameOnwards k h = (v : Scalar CheckedPointer) (note : Nothing) (replies : List Reply) → feed replies (k v note) ≡ feed replies (h v note)

goes_same : (onward : Next CheckedPointer Nothing) (k h : Onwards) → SameOnwards k h → (replies : List Reply) →
    feed replies (goes Checked onward k) ≡ feed replies (goes Checked onward h)
goes_same (Go v note) k h same replies = same v note replies
goes_same (Halt ending note) k h same replies = refl

resolve_same : (answer : Answer CheckedPointer Nothing Call) (tells : Reply → Next CheckedPointer Nothing) (k h : Onwards) → SameOnwards k h →
    (replies : List Reply) → feed replies (resolve Checked answer tells k) ≡ feed replies (resolve Checked answer tells h)
resolve_same (Now onward) tells k h same replies = goes_same onward k h same replies
resolve_same (Ask c) tells k h same [] = refl
resolve_same (Ask c) tells k h same (reply ∷ replies) = ap (add_call c) (goes_same (tells reply) k h same replies)

same_kept : Kept CheckedPointer SameFed
same_kept = record {
  returned = λ left replies. refl;
  printed = λ left bytes t u same replies. ap (add_text bytes) (same replies);
  spent = λ line t u replies. refl;
  turned = λ left line t u same replies. ap add_turn (same replies);
  pointed = λ left line action ok v w f g same replies.
      resolve_same (checked_point tt line action v w) (checked_next tt line action v w) _ _ (λ x note more. same x more) replies;
}

same_bodies : (found : Option Function) (left n : ℕ) → left ≤ n → (replies : List Reply) →
    feed replies (checked_acts left (body_of n found)) ≡ feed replies (checked_acts left (body_of left found))
same_bodies (Some f) left n le = body_alike SameFed same_kept n left left le (omega arith) f
same_bodies None left n le = λ replies. refl

pub turns_looked_at : (program : Program) (setting : Setting) (n : ℕ) (replies : List Reply) → setting.turns ≤ n →
    feed replies (checked_acts setting.turns (call n program setting.entry)) ≡ worker program setting replies
turns_looked_at program setting n replies le = same_bodies (slice_get program.functions setting.entry) setting.turns n le replies

-- ---- endings

abbrev StandsSeen : ℕ → CheckedEvents → CheckedEvents → Type 0
StandsSeen left t u = (replies : List Reply) → IsSeen (feed replies (checked_acts left t)).end

abbrev SeenOnwards : Onwards → Type 0
SeenOnwards k = (v : Scalar CheckedPointer) (note : Nothing) (replies : List Reply) → IsSeen (feed replies (k v note)).end

goes_seen : (onward : Next CheckedPointer Nothing) (k : Onwards) → SeenOnwards k → (replies : List Reply) →
    IsSeen (feed replies (goes Checked onward k)).end
goes_seen (Go v note) k seen replies = seen v note replies
goes_seen (Halt ending note) k seen replies = tt

resolve_seen : (answer : Answer CheckedPointer Nothing Call) (tells : Reply → Next CheckedPointer Nothing) (k : Onwards) → SeenOnwards k →
    (replies : List Reply) → IsSeen (feed replies (resolve Checked answer tells k)).end
resolve_seen (Now onward) tells k seen replies = goes_seen onward k seen replies
resolve_seen (Ask c) tells k seen [] = tt
resolve_seen (Ask c) tells k seen (reply ∷ replies) = goes_seen (tells reply) k seen replies

seen_kept : Kept CheckedPointer StandsSeen
seen_kept = record {
  returned = λ left replies. tt;
  printed = λ left bytes t u seen replies. seen replies;
  spent = λ line t u replies. tt;
  turned = λ left line t u seen replies. seen replies;
  pointed = λ left line action ok v w f g seen replies.
      resolve_seen (checked_point tt line action v w) (checked_next tt line action v w) _ (λ x note more. seen x more) replies;
}

seen_body : (found : Option Function) (f : Function) (left : ℕ) → found ≡ Some f → (replies : List Reply) →
    IsSeen (feed replies (checked_acts left (body_of left found))).end
seen_body found f left is replies =
    subst (λ o. IsSeen (feed replies (checked_acts left (body_of left o))).end) (sym is)
    (body_alike StandsSeen seen_kept left left left (omega arith) (omega arith) f replies)

pub is_seen : (program : Program) (setting : Setting) (replies : List Reply) → setting.entry < length program.functions →
    IsSeen (worker program setting replies).end
is_seen program setting replies lt =
    ⊎_elim (λ found. seen_body (slice_get program.functions setting.entry) found.0 setting.turns found.2 replies) (λ past. absurd (omega (arith, past.0)))
    (slice_get_cases program.functions setting.entry).1

-- ---- spent turns

abbrev SpendsAllOf : ℕ → Progress Call → Type 0
SpendsAllOf left p = (line : ℕ) → p.end ≡ Ends (Spent line) → p.turns ≡ left

abbrev SpendsAll : ℕ → CheckedEvents → CheckedEvents → Type 0
SpendsAll left t u = (replies : List Reply) → SpendsAllOf left (feed replies (checked_acts left t))

abbrev SpendingOnwards : ℕ → Onwards → Type 0
SpendingOnwards left k = (v : Scalar CheckedPointer) (note : Nothing) (replies : List Reply) → SpendsAllOf left (feed replies (k v note))

goes_spent : (left : ℕ) (onward : Next CheckedPointer Nothing) → IsUnspent onward → (k : Onwards) → SpendingOnwards left k → (replies : List Reply) →
    SpendsAllOf left (feed replies (goes Checked onward k))
goes_spent left (Go v note) unspent k all replies = all v note replies
goes_spent left (Halt Finished note) unspent k all replies = λ line is. cc
goes_spent left (Halt (Spent at) note) unspent k all replies = absurd unspent
goes_spent left (Halt (Reported report) note) unspent k all replies = λ line is. cc

resolve_spent : (left : ℕ) (answer : Answer CheckedPointer Nothing Call) (tells : Reply → Next CheckedPointer Nothing) → AnswerIsUnspent answer →
    ((reply : Reply) → IsUnspent (tells reply)) → (k : Onwards) → SpendingOnwards left k → (replies : List Reply) →
    SpendsAllOf left (feed replies (resolve Checked answer tells k))
resolve_spent left (Now onward) tells unspent told k all replies = goes_spent left onward unspent k all replies
resolve_spent left (Ask c) tells unspent told k all [] = λ line is. cc
resolve_spent left (Ask c) tells unspent told k all (reply ∷ replies) = goes_spent left (tells reply) (told reply) k all replies

spends_kept : Kept CheckedPointer SpendsAll
spends_kept = record {
  returned = λ left replies line is. cc;
  printed = λ left bytes t u all replies. all replies;
  spent = λ line t u replies l is. refl;
  turned = λ left line t u all replies l is. ap suc (all replies l is);
  pointed = λ left line action ok v w f g all replies.
      resolve_spent left (checked_point tt line action v w) (checked_next tt line action v w) (checked_unspent line action v w) (told_unspent line action v w) _
      (λ x note more. all x more) replies;
}

all_of_body : (found : Option Function) (left : ℕ) (replies : List Reply) → SpendsAllOf left (feed replies (checked_acts left (body_of left found)))
all_of_body (Some f) left replies = body_alike SpendsAll spends_kept left left left (omega arith) (omega arith) f replies
all_of_body None left replies = λ line is. cc

pub all_spent : (program : Program) (setting : Setting) (replies : List Reply) (line : ℕ) →
    (worker program setting replies).end ≡ Ends (Spent line) → (worker program setting replies).turns ≡ setting.turns
all_spent program setting = all_of_body (slice_get program.functions setting.entry) setting.turns

abbrev WithinOnwards : ℕ → Onwards → Type 0
WithinOnwards left k = (v : Scalar CheckedPointer) (note : Nothing) (replies : List Reply) → (feed replies (k v note)).turns ≤ left

goes_within : (left : ℕ) (onward : Next CheckedPointer Nothing) (k : Onwards) → WithinOnwards left k → (replies : List Reply) →
    (feed replies (goes Checked onward k)).turns ≤ left
goes_within left (Go v note) k within replies = within v note replies
goes_within left (Halt ending note) k within replies = omega arith

resolve_within : (left : ℕ) (answer : Answer CheckedPointer Nothing Call) (tells : Reply → Next CheckedPointer Nothing) (k : Onwards) →
    WithinOnwards left k → (replies : List Reply) → (feed replies (resolve Checked answer tells k)).turns ≤ left
resolve_within left (Now onward) tells k within replies = goes_within left onward k within replies
resolve_within left (Ask c) tells k within [] = omega arith
resolve_within left (Ask c) tells k within (reply ∷ replies) = goes_within left (tells reply) k within replies

turns_of : (left : ℕ) (tree : CheckedEvents) (replies : List Reply) → (feed replies (checked_acts left tree)).turns ≤ left
turns_of left (Return r) replies = omega arith
turns_of left (Stop ending) replies = omega arith
turns_of left Lost replies = omega arith
turns_of left (Print bytes t) replies = turns_of left t replies
turns_of zero (Turn line t) replies = omega arith
turns_of (suc left) (Turn line t) replies = omega (arith, turns_of left t replies)
turns_of left (Point line action v w f) replies =
    resolve_within left (checked_point tt line action v w) (checked_next tt line action v w) _ (λ x note more. turns_of left (f x) more) replies

pub turns_within : (program : Program) (setting : Setting) (replies : List Reply) → (worker program setting replies).turns ≤ setting.turns
turns_within program setting replies = turns_of setting.turns (call setting.turns program setting.entry) replies

-- ---- more replies

abbrev waits : {C : Type 0} → C → End C
waits c = Waits c

-- what it waits for is what it asks next
pending_first : {C A : Type 0} (c : C) (f : A → Acts C A) (more : List A) (call : C) → waits c ≡ waits call → MayBeginWith call (feed more (Asks c f)).calls
pending_first c f [] call is = tt
pending_first c f (reply ∷ replies) call is = cc

pub extends : {C A : Type 0} (worker : Acts C A) (replies more : List A) → Extends (feed replies worker) (feed (replies ++ more) worker)
extends (Over ending) replies more = record { more_calls = []; calls = refl; more_text = []; text = refl; turns = omega arith; ended = λ e is. refl; pending = λ c is. tt }
extends Unknown replies more = record { more_calls = []; calls = refl; more_text = []; text = refl; turns = omega arith; ended = λ e is. refl; pending = λ c is. tt }
extends (Says bytes a) replies more =
    let further = extends a replies more in
    record {
      more_calls = further.more_calls;
      calls = further.calls;
      more_text = further.more_text;
      text = ap (λ t. bytes ++ t) further.text ∙ sym (append_assoc bytes (feed replies a).text further.more_text);
      turns = further.turns;
      ended = λ e is. ap (add_text bytes) (further.ended e is);
      pending = further.pending;
    }
extends (Takes a) replies more =
    let further = extends a replies more in
    record {
      more_calls = further.more_calls;
      calls = further.calls;
      more_text = further.more_text;
      text = further.text;
      turns = omega (arith, further.turns);
      ended = λ e is. ap add_turn (further.ended e is);
      pending = further.pending;
    }
extends (Asks c f) [] more = record {
  more_calls = (feed more (Asks c f)).calls;
  calls = refl;
  more_text = (feed more (Asks c f)).text;
  text = refl;
  turns = omega arith;
  ended = λ e is. cc;
  pending = pending_first c f more;
}
extends (Asks c f) (reply ∷ replies) more =
    let further = extends (f reply) replies more in
    record {
      more_calls = further.more_calls;
      calls = ap (λ calls. c ∷ calls) further.calls;
      more_text = further.more_text;
      text = further.text;
      turns = further.turns;
      ended = λ e is. ap (add_call c) (further.ended e is);
      pending = further.pending;
    }
