use Rattle.std.proofs.Common.{List, ℕ, refl, subst, inl}
use Rattle.std.specs.Prelude.{map, string_bytes}
use Rattle.effs_io.specs.Streams.{Rose, Appends, AppendsSome}
use Rattle.effsan_top.specs.declared.refusal.Refusal.TheVariants.{WriteFault}
use Rattle.effsan_top.proofs.Endings.{tells, empty_history, empty_reports}
use Rattle.effsan_top.proofs.Outcomes.{Laws, of_run, of_refusal, run_words_judged, run_plays, refused_words, refused_plays, with_written, not_write, not_five_refusal}
use Rattle.effsan_top.proofs.still.effsan_still.Goals as goal

pub returns-in-Ok-clause-words : goal.returns-in-Ok-clause-words
returns-in-Ok-clause-words g c =
    let laws : Laws = record {
      apart = c.law_words.ensures.apart;
      one_command = c.law_words.ensures.one_command;
      watches = c.law_watches.ensures;
      one_program = c.law_program.ensures.one_program;
      never_both = c.law_program.ensures.never_both;
    } in
    let s = of_run c.in-Ok.answer.run.endings c.written.result.status c.written.ensures.status in
    run_words_judged laws (map string_bytes c.args.words.now) (g.S.Source.left c.args.src.now) c.in-Ok.answer.run c.in-Ok.ensures.run c.in-Ok.answer.run.endings c.written.result.status s

pub returns-in-Ok-clause-play : goal.returns-in-Ok-clause-play
returns-in-Ok-clause-play g c =
    λ play asked.
    let laws : Laws = record {
      apart = c.law_words.ensures.apart;
      one_command = c.law_words.ensures.one_command;
      watches = c.law_watches.ensures;
      one_program = c.law_program.ensures.one_program;
      never_both = c.law_program.ensures.never_both;
    } in
    let s = of_run c.in-Ok.answer.run.endings c.written.result.status c.written.ensures.status in
    rw c.written.ensures.run (run_plays laws (map string_bytes c.args.words.now) (g.S.Source.left c.args.src.now) c.in-Ok.answer.run c.in-Ok.ensures.run play asked c.in-Ok.answer.run.endings c.written.result.status s
    (λ a. tells c.written.result.status c.in-Ok.answer.run c.in-Ok.answer.run refl (s.answer a)))

pub returns-in-Ok-clause-status : goal.returns-in-Ok-clause-status
returns-in-Ok-clause-status g c =
    let s = of_run c.in-Ok.answer.run.endings c.written.result.status c.written.ensures.status in
    rw s.known refl

pub returns-in-Ok-clause-history : goal.returns-in-Ok-clause-history
returns-in-Ok-clause-history g c =
    rw c.written.ensures.run c.in-Ok.ensures.history

pub returns-in-Ok-clause-reports : goal.returns-in-Ok-clause-reports
returns-in-Ok-clause-reports g c =
    rw c.written.ensures.run c.in-Ok.ensures.reports

pub returns-in-Ok-clause-no_run : goal.returns-in-Ok-clause-no_run
returns-in-Ok-clause-no_run g c =
    let s = of_run c.in-Ok.answer.run.endings c.written.result.status c.written.ensures.status in
    λ none. absurd (let ran = s.run in cc (ran, none))

pub returns-in-Ok-clause-untouched : goal.returns-in-Ok-clause-untouched
returns-in-Ok-clause-untouched g c =
    let s = of_run c.in-Ok.answer.run.endings c.written.result.status c.written.ensures.status in
    λ is. absurd (s.words is)

pub returns-in-Ok-clause-source : goal.returns-in-Ok-clause-source
returns-in-Ok-clause-source g c =
    let s = of_run c.in-Ok.answer.run.endings c.written.result.status c.written.ensures.status in
    let whole = of_run c.in-Ok.answer.run.endings _ (inl refl) in
    record { whole = λ is. c.in-Ok.ensures.source.whole whole.whole; front = c.in-Ok.ensures.source.front }

pub returns-in-Ok-clause-out : goal.returns-in-Ok-clause-out
returns-in-Ok-clause-out g c =
    let s = of_run c.in-Ok.answer.run.endings c.written.result.status c.written.ensures.status in
    let before = g.O.Sink.taken c.args.out.now in
    let after = g.O.Sink.taken c.written.new.out in
    rw c.written.ensures.run (record {
      whole = λ a. subst (λ (t : List ℕ). Appends t before after) c.in-Ok.ensures.text (c.written.ensures.whole (s.answer a));
      part = λ five. subst (λ (t : List ℕ). AppendsSome t before after) c.in-Ok.ensures.text (c.written.ensures.part five);
    })

pub returns-in-Ok-clause-out_none : goal.returns-in-Ok-clause-out_none
returns-in-Ok-clause-out_none g c =
    let s = of_run c.in-Ok.answer.run.endings c.written.result.status c.written.ensures.status in
    λ none. absurd (let ran = s.run in cc (ran, none))

pub returns-in-Ok-clause-cause : goal.returns-in-Ok-clause-cause
returns-in-Ok-clause-cause g c =
    let s = of_run c.in-Ok.answer.run.endings c.written.result.status c.written.ensures.status in
    λ unanswered.
    let five = s.cut unanswered in
    record {
      refusal = WriteFault;
      cause = ((c.in-Ok.ensures.run.play, c.in-Ok.ensures.run.asked), c.written.ensures.cause five);
      told = five;
      line = c.written.ensures.told five;
    }

pub returns-in-Ok-clause-err_none : goal.returns-in-Ok-clause-err_none
returns-in-Ok-clause-err_none g c =
    let s = of_run c.in-Ok.answer.run.endings c.written.result.status c.written.ensures.status in
    λ a. c.written.ensures.silent (s.answer a)

pub returns-in-Err-clause-words : goal.returns-in-Err-clause-words
returns-in-Err-clause-words g c =
    let laws : Laws = record {
      apart = c.law_words.ensures.apart;
      one_command = c.law_words.ensures.one_command;
      watches = c.law_watches.ensures;
      one_program = c.law_program.ensures.one_program;
      never_both = c.law_program.ensures.never_both;
    } in
    rw c.refused.ensures.status (refused_words laws (map string_bytes c.args.words.now) (g.S.Source.left c.args.src.now) (Rose (g.S.Source.faults c.args.src.now) (g.S.Source.faults c.answer_words.new.src)) ⊥ c.in-Err.refusal c.in-Err.ensures.refused)

pub returns-in-Err-clause-play : goal.returns-in-Err-clause-play
returns-in-Err-clause-play g c =
    λ play asked.
    let laws : Laws = record {
      apart = c.law_words.ensures.apart;
      one_command = c.law_words.ensures.one_command;
      watches = c.law_watches.ensures;
      one_program = c.law_program.ensures.one_program;
      never_both = c.law_program.ensures.never_both;
    } in
    let h = c.in-Err.ensures.refused in
    rw c.refused.ensures.status (refused_plays laws (map string_bytes c.args.words.now) (g.S.Source.left c.args.src.now) (Rose (g.S.Source.faults c.args.src.now) (g.S.Source.faults c.answer_words.new.src)) ⊥ c.in-Err.refusal h (not_write (map string_bytes c.args.words.now) (g.S.Source.left c.args.src.now) (Rose (g.S.Source.faults c.args.src.now) (g.S.Source.faults c.answer_words.new.src)) c.in-Err.refusal h) c.refused.result.run play asked)

pub returns-in-Err-clause-status : goal.returns-in-Err-clause-status
returns-in-Err-clause-status g c =
    rw (c.refused.ensures.status, (of_refusal c.in-Err.refusal).known) refl

pub returns-in-Err-clause-history : goal.returns-in-Err-clause-history
returns-in-Err-clause-history g c =
    empty_history c.refused.result.run c.refused.ensures.run

pub returns-in-Err-clause-reports : goal.returns-in-Err-clause-reports
returns-in-Err-clause-reports g c =
    empty_reports c.refused.result.run c.refused.ensures.run

pub returns-in-Err-clause-untouched : goal.returns-in-Err-clause-untouched
returns-in-Err-clause-untouched g c =
    rw c.refused.ensures.status c.in-Err.ensures.untouched

pub returns-in-Err-clause-source : goal.returns-in-Err-clause-source
returns-in-Err-clause-source g c =
    rw c.refused.ensures.status c.in-Err.ensures.source

pub returns-in-Err-clause-out : goal.returns-in-Err-clause-out
returns-in-Err-clause-out g c =
    rw c.refused.ensures.status (record {
      whole = λ a. absurd (let unanswered = (of_refusal c.in-Err.refusal).answer in cc (a, unanswered));
      part = λ five. absurd (not_five_refusal (map string_bytes c.args.words.now) (g.S.Source.left c.args.src.now) (Rose (g.S.Source.faults c.args.src.now) (g.S.Source.faults c.answer_words.new.src)) c.in-Err.refusal c.in-Err.ensures.refused five);
    })

pub returns-in-Err-clause-cause : goal.returns-in-Err-clause-cause
returns-in-Err-clause-cause g c =
    λ unanswered. record {
      refusal = c.in-Err.refusal;
      cause = with_written (map string_bytes c.args.words.now) (g.S.Source.left c.args.src.now) (Rose (g.S.Source.faults c.args.src.now) (g.S.Source.faults c.answer_words.new.src)) _ c.in-Err.refusal c.in-Err.ensures.refused;
      told = c.refused.ensures.status;
      line = c.refused.ensures.err;
    }

pub returns-in-Err-clause-err_none : goal.returns-in-Err-clause-err_none
returns-in-Err-clause-err_none g c =
    rw c.refused.ensures.status (λ a. absurd (let unanswered = (of_refusal c.in-Err.refusal).answer in cc (a, unanswered)))
