-- How the walk passes from one state with something to do to another.
use Rattle.std.proofs.Common.{◌≡◌, ℕ, suc, ◌-◌, ◌<◌, List, [], ◌∷◌, ◌++◌, refl, sym, ap, ◌∙◌, subst, arith, append_assoc, Result, Ok, Err}
use Rattle.std.specs.List.{AllByRecursion}
use Rattle.std.proofs.lemmas.List.{append-nil, map-append}
use Rattle.heap_model.specs.declared.calls.Call.{Call}
use Rattle.heap_model.specs.declared.calls.Reply.{Reply}
use Rattle.heap_model.specs.declared.calls.Reply.TheVariants as reply
use Rattle.heap_model.specs.declared.calls.Entry.{Entry}
use Rattle.heap_model.specs.declared.calls.ReportKind.{ReportKind}
use Rattle.tree_walk.specs.declared.reports.Subject.{Subject}
use Rattle.tree_walk.specs.declared.stop.Stop.{Stop as StopReason}
use Rattle.tree_walk.specs.declared.stop.Stop.TheVariants.{Ended, Memory}
use Rattle.plain_meaning.specs.declared.record.Ending.TheVariants.{Spent}
use Rattle.plain_meaning.specs.declared.scalar.Scalar.{Scalar}
use Rattle.plain_meaning.specs.declared.scalar.CheckedPointer.{CheckedPointer}
use Rattle.plain_meaning.specs.Tree.{Action, Stop, Print, Turn, Point}
use Rattle.plain_meaning.specs.Points.{Checked, Go, Halt, Onward, Now, Ask, pointer_of, reach_at, want_at, report_on, report_at, checked_point, checked_next}
use Rattle.plain_meaning.specs.Acts.{acts, goes, resolve, feed}
use Rattle.plain_meaning.specs.Values.{Variables}
use Rattle.plain_meaning.specs.Run.{checked_acts, calls_of, replies_of}
use Rattle.tree_walk.specs.declared.walk.Walk.{Walk}
use Rattle.tree_walk.specs.Steps.{Events, View, view, ahead, Passes, Leads, IsAsked, IsAbout, IsNoReport, onward}

pub seen_same : {entries entries' : List Entry} {text text' : List ℕ} {left left' : ℕ} (t : Events) (replies : List Reply) →
    entries ≡ entries' → text ≡ text' → left ≡ left' → view entries text left t replies ≡ view entries' text' left' t replies
seen_same {entries} {entries'} {text} {text'} {left} {left'} t replies a b c =
    ap (λ x. view x text left t replies) a ∙ ap (λ x. view entries' x left t replies) b ∙ ap (λ x. view entries' text' x t replies) c

all_of_both : (xs ys : List Entry) → AllByRecursion (λ e. e.worker ≡ 1) xs → AllByRecursion (λ e. e.worker ≡ 1) ys → AllByRecursion (λ e. e.worker ≡ 1) (xs ++ ys)
all_of_both [] ys p q = q
all_of_both (x ∷ xs) ys p q = (p.0, all_of_both xs ys p.1 q)

-- ---- without a call

-- the two states look alike, but for their variables
pub record Alike (old new : Walk) : Type 0 where
  pub heaps : new.heaps ≡ old.heaps
  pub text : new.text ≡ old.text
  pub left : new.left ≡ old.left

pub quietly : (old new : Walk) (t u : Events) → new.heaps ≡ old.heaps → ((replies : List Reply) → ahead old t replies ≡ ahead new u replies) → Passes old t new u
quietly old new t u heaps same = record {
  more = [];
  grown = heaps ∙ sym (append-nil old.heaps);
  of_one = tt;
  same = same;
}

pub stays : (old new : Walk) (t : Events) → Alike old new → Passes old t new t
stays old new t alike =
    quietly old new t t alike.heaps (λ replies. seen_same t replies (sym alike.heaps) (sym alike.text) (sym alike.left))

pub nothing : (walk : Walk) (t : Events) → Passes walk t walk t
nothing walk t = quietly walk walk t t refl (λ replies. refl)

pub passes_on : {a b c : Walk} {t u v : Events} → Passes a t b u → Passes b u c v → Passes a t c v
passes_on {a} {b} {c} {t} {u} {v} first second = record {
  more = first.more ++ second.more;
  grown = second.grown ∙ ap (λ x. x ++ second.more) first.grown ∙ append_assoc a.heaps first.more second.more;
  of_one = all_of_both first.more second.more first.of_one second.of_one;
  same = λ replies.
      ap (λ x. ahead a t (x ++ replies)) (map-append (λ (e : Entry). e.reply) first.more second.more)
      ∙ ap (ahead a t) (append_assoc (replies_of first.more) (replies_of second.more) replies)
      ∙ first.same (replies_of second.more ++ replies) ∙ second.same replies;
}

-- what is to be done, in other words
pub in_words : {old new : Walk} {t u : Events} (t' : Events) → t' ≡ t → Passes old t new u → Passes old t' new u
in_words {old} {new} {t} {u} t' is passes = subst (λ x. Passes old x new u) (sym is) passes

pub to_words : {old new : Walk} {t u : Events} (u' : Events) → u ≡ u' → Passes old t new u → Passes old t new u'
to_words {old} {new} {t} {u} u' is passes = subst (λ x. Passes old t new x) is passes

-- ---- turns

abbrev pub one_less : Walk → Walk
one_less w = record w { left = w.left - 1 }

pub turned : (old new : Walk) (line : ℕ) (t : Events) → 0 < old.left → new ≡ one_less old → Passes old (Turn line t) new t
turned old new line t some is =
    let e : old.left ≡ suc (old.left - 1) = omega arith in
    subst (λ w. Passes old (Turn line t) w t) (sym is)
    (quietly old (one_less old) (Turn line t) t refl (λ replies. ap (λ l. view old.heaps old.text l (Turn line t) replies) e))

pub spent : (old new : Walk) (line : ℕ) (t : Events) → old.left ≡ 0 → Alike old new → Passes old (Turn line t) new (Stop (Spent line))
spent old new line t none alike =
    quietly old new (Turn line t) (Stop (Spent line)) alike.heaps (λ replies.
    ap (λ l. view old.heaps old.text l (Turn line t) replies) none
    ∙ seen_same {left = old.left} {left' = new.left} (Stop (Spent line)) replies (sym alike.heaps) (sym alike.text) (sym alike.left))

-- ---- texts

pub printed : (old : Walk) (bytes : List ℕ) (t : Events) → Passes old (Print bytes t) (record old { text = old.text ++ bytes }) t
printed old bytes t =
    quietly old (record old { text = old.text ++ bytes }) (Print bytes t) t refl (λ replies.
    let p = feed replies (checked_acts old.left t) in
    ap (λ x. let r : View = record { calls = calls_of old.heaps ++ p.calls; text = x; end = p.end } in r) (sym (append_assoc old.text bytes p.text)))

-- ---- points

goes_onward : (left : ℕ) (onwards : Onward) (f : Scalar CheckedPointer → Events) (replies : List Reply) →
    feed replies (goes Checked onwards (λ v note. acts Checked note left (f v))) ≡ feed replies (checked_acts left (onward f onwards))
goes_onward left (Go v note) f replies = refl
goes_onward left (Halt ending note) f replies = refl

-- a point that asks nothing
pub passed : (walk : Walk) (line : ℕ) (action : Action) (u w : Scalar CheckedPointer) (f : Scalar CheckedPointer → Events) (onwards : Onward) →
    checked_point tt line action u w ≡ Now onwards → Passes walk (Point line action u w f) walk (onward f onwards)
passed walk line action u w f onwards is =
    quietly walk walk (Point line action u w f) (onward f onwards) refl (λ replies.
    let tells = checked_next tt line action u w in
    ap (λ a. let p = feed replies (resolve Checked a tells (λ v note. acts Checked note walk.left (f v))) in
    let r : View = record { calls = calls_of walk.heaps ++ p.calls; text = walk.text ++ p.text; end = p.end } in r) is
    ∙ ap (λ p. let r : View = record { calls = calls_of walk.heaps ++ p.calls; text = walk.text ++ p.text; end = p.end } in r)
    (goes_onward walk.left onwards f replies))

-- a point that asks a call, whose entry is added
pub asked : (old new : Walk) (line : ℕ) (action : Action) (u w : Scalar CheckedPointer) (f : Scalar CheckedPointer → Events) (call : Call) (e : Entry) →
    checked_point tt line action u w ≡ Ask call → e.call ≡ call → e.worker ≡ 1 → new.heaps ≡ old.heaps ++ e ∷ [] → new.text ≡ old.text → new.left ≡ old.left →
    Passes old (Point line action u w f) new (onward f (checked_next tt line action u w e.reply))
asked old new line action u w f call e is call_is one heaps text left = record {
  more = e ∷ [];
  grown = heaps;
  of_one = (one, tt);
  same = λ replies.
      let tells = checked_next tt line action u w in
      let after = onward f (tells e.reply) in
      let p = feed replies (checked_acts old.left after) in
      ap (λ a. let q = feed (e.reply ∷ replies) (resolve Checked a tells (λ v note. acts Checked note old.left (f v))) in
      let r : View = record { calls = calls_of old.heaps ++ q.calls; text = old.text ++ q.text; end = q.end } in r) is
      ∙ ap (λ q. let r : View = record { calls = calls_of old.heaps ++ (call ∷ q.calls); text = old.text ++ q.text; end = q.end } in r)
      (goes_onward old.left (tells e.reply) f replies)
      ∙ ap (λ c. let r : View = record { calls = calls_of old.heaps ++ (c ∷ p.calls); text = old.text ++ p.text; end = p.end } in r) (sym call_is)
      ∙ ap (λ c. let r : View = record { calls = c; text = old.text ++ p.text; end = p.end } in r)
      (sym (append_assoc (calls_of old.heaps) (e.call ∷ []) p.calls) ∙ ap (λ c. c ++ p.calls) (sym (map-append (λ (x : Entry). x.call) old.heaps (e ∷ []))))
      ∙ seen_same after replies (sym heaps) (sym text) (sym left);
}

pub report_same : (subject : Subject) (action : Action) (p : CheckedPointer) (kind : ReportKind) → IsAbout subject action p →
    report_at action kind subject.line p ≡ report_on kind subject.line subject.word subject.reach subject.want
report_same subject action p kind about =
    ap (λ w. report_on kind subject.line w (reach_at action p) (want_at action)) (sym about.word)
    ∙ ap (λ r. report_on kind subject.line subject.word r (want_at action)) (sym about.reach)
    ∙ ap (λ w. report_on kind subject.line subject.word subject.reach w) (sym about.want)

-- ---- one step after another

-- what is done before is passed, and what is left is the first step of the rest
abbrev pub Begins : {B D : Type 0} → Walk → ((B → Events) → Events) → Walk → ((D → Events) → Events) → Type 0
Begins {B} {D} old does here first = (next : B → Events) → (k : D → Events) × Passes old (does next) here (first k)

-- where that step stops, all stops
pub stops : {A B C D : Type 0} (old here new : Walk) (does : (B → Events) → Events) (value : A → B) (first : (D → Events) → Events) (given : C → D)
    (s : StopReason) → Begins old does here first → Leads here first given (Err s) new → Leads old does value (Err s) new
stops old here new does value first given (Ended ending) begins leads = λ next. let b = begins next in passes_on b.1 (leads b.0)
stops old here new does value first given (Memory error) begins leads = tt

-- where a call on the heap stops, all stops
pub ask_stops : {A B : Type 0} (old here new : Walk) (does : (B → Events) → Events) (value : A → B) (call : Call) (subject : Subject) (action : Action)
    (u w : Scalar CheckedPointer) (f : (B → Events) → Scalar CheckedPointer → Events) (s : StopReason) → checked_point tt subject.line action u w ≡ Ask call →
    IsAbout subject action (pointer_of u) → ((next : B → Events) → Passes old (does next) here (Point subject.line action u w (f next))) →
    IsAsked here call subject (Err s) new → Leads old does value (Err s) new
ask_stops old here new does value call subject action u w f (Ended ending) asks about before asked =
    λ next. passes_on (before next) (asked action u w (f next) asks about)
ask_stops old here new does value call subject action u w f (Memory error) asks about before asked = tt

-- what goes on whatever the reply, so long as it is no report
pub done_onward : (line : ℕ) (action : Action) (u w : Scalar CheckedPointer) (t : Events) (r : Reply) → IsNoReport r →
    onward (λ done. t) (checked_next tt line action u w r) ≡ t
done_onward line action u w t (reply.Placed word) quiet = refl
done_onward line action u w t reply.NoSlot quiet = refl
done_onward line action u w t reply.Done quiet = refl
done_onward line action u w t (reply.Found reach) quiet = refl
done_onward line action u w t (reply.Value v) quiet = refl
done_onward line action u w t (reply.Report kind) quiet = absurd quiet

-- ---- statements

pub begin : (walk : Walk) {t t' : Events} → t' ≡ t → Passes walk t' walk t
begin walk {t} {t'} is = in_words t' is (nothing walk t)

pub alike_of : (here new : Walk) → new ≡ record here { variables = new.variables } → Alike here new
alike_of here new is = record {
  heaps = ap (λ (w : Walk). w.heaps) is;
  text = ap (λ (w : Walk). w.text) is;
  left = ap (λ (w : Walk). w.left) is;
}

-- the variables change, and what follows goes on with them
pub settles : (here new : Walk) (next : Variables CheckedPointer → Events) (made : Variables CheckedPointer) → new ≡ record here { variables = new.variables } →
    made ≡ new.variables.items → Passes here (next made) new (next new.variables.items)
settles here new next made others is = to_words (next new.variables.items) (ap next is) (stays here new (next made) (alike_of here new others))

-- the same where the variables are as they were
pub goes_on_with : (here : Walk) (next : Variables CheckedPointer → Events) (before : Walk) → here.variables ≡ before.variables →
    Passes here (next before.variables.items) here (next here.variables.items)
goes_on_with here next before kept = to_words (next here.variables.items) (ap (λ v. next v.items) (sym kept)) (nothing here (next before.variables.items))

-- what is led to from one state is led to from an earlier one
pub leads_through : {A B : Type 0} (old here new : Walk) (does first : (B → Events) → Events) (value : A → B) (r : Result A StopReason) →
    ((next : B → Events) → Passes old (does next) here (first next)) → Leads here first value r new → Leads old does value r new
leads_through old here new does first value (Ok x) before leads = λ next. passes_on (before next) (leads next)
leads_through old here new does first value (Err (Ended ending)) before leads = λ next. passes_on (before next) (leads next)
leads_through old here new does first value (Err (Memory error)) before leads = tt
