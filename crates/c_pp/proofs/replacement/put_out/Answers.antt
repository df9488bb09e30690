use Rattle.std.proofs.Common.{◌≡◌, ◌++◌, ◌+◌, Bool, List, length, get_or, Some, refl, ap, sym, subst, ◌∙◌, arith}
use Rattle.std.specs.Prelude.{slice_get}
use Rattle.std.proofs.lemmas.Option.{slice_get-get_or}
use Rattle.c_pp.specs.declared.marks.Mark.TheVariants as mark
use Rattle.c_pp.specs.Macros.{on_line}
use Rattle.c_pp.specs.Marked.{marks_of, met_of, mark_at}
use Rattle.c_pp.proofs.MarkLemmas.{length-met_of}
use Rattle.c_pp.proofs.MeetLemmas.{IsMeeting, meeting_begins, meeting_other, meeting_known, meeting_past, macro_parts}
use Rattle.c_pp.proofs.WalkLemmas.{nowhere, put_none, put_plain, put_known, seen_plain, seen_macro, macro_below, all_put, past_all}
use Rattle.c_pp.proofs.replacement.put_out.Goals as goal

pub loop-at-init : goal.loop-at-init
loop-at-init c = record {
  put = λ text macros name made seen knows h. put_none text macros c.args.source.now.tokens.now c.args.span c.args.line made c.args.output.now h;
  same = refl;
  unchanged = refl;
  meeting = meeting_begins c.args.source.now.tokens.now c.args.source.now.numbers.now c.args.source.now.bodies.now (marks_of c.args.marks.now) (met_of c.args.marks.now) c.args.span.start;
  empty = λ _. refl;
}

pub loop-at-preserved-in-None : goal.loop-at-preserved-in-None
loop-at-preserved-in-None c = record {
  put = λ text macros name made seen knows h.
      let s = c.args.source.now in
      let at = c.loop-at.at in
      let token = get_or s.tokens.now at nowhere in
      let there : slice_get s.tokens.now at ≡ Some token = slice_get-get_or s.tokens.now at nowhere c.if-at-source.false in
      let before = c.loop-at.invariant.put text macros name made seen knows h in
      put_plain text macros s.tokens.now c.args.span c.args.line made c.loop-at.output c.push.new.self at token c.loop-at.auto.at there
      (seen_plain text macros name s.tokens.now s.numbers.now s.bodies.now at token seen there (sym c.in-None.ensures)) before
      (c.in_ok-push-in-None.ensures (made ++ on_line c.args.line before.piece) before.holds);
  same = c.meet_token.ensures.same_marks ∙ c.loop-at.invariant.same;
  unchanged = c.meet_token.ensures.unchanged ∙ c.loop-at.invariant.unchanged;
  meeting =
      let s = c.args.source.now in
      let at = c.loop-at.at in
      let old = c.args.marks.now in
      subst (λ (l : List Bool). IsMeeting s.tokens.now s.numbers.now s.bodies.now (marks_of old) (met_of old) l c.args.span.start (at + 1)) (sym c.meet_token.ensures.met)
      (meeting_other s.tokens.now s.numbers.now s.bodies.now (marks_of old) (met_of old) (met_of c.loop-at.marks) c.args.span.start at c.number_at.result c.loop-at.invariant.meeting
      (length-met_of old ∙ c.requires) (sym c.number_at.ensures) (sym c.in-None.ensures));
  empty = λ low. (let high = c.loop-at-test.true in let first = c.loop-at.auto.at in absurd (omega arith));
}

pub loop-at-preserved : goal.loop-at-preserved
loop-at-preserved c = record {
  put = λ text macros name made seen knows h.
      let s = c.args.source.now in
      let at = c.loop-at.at in
      let token = get_or s.tokens.now at nowhere in
      let there : slice_get s.tokens.now at ≡ Some token = slice_get-get_or s.tokens.now at nowhere c.if-at-source.false in
      let found = c.in-Some.found in
      let known : mark_at (marks_of c.args.marks.now) found.number ≡ Some (mark.Known c.in-Some-Known.piece) =
      ap (λ l. mark_at l found.number) (sym c.loop-at.invariant.same) ∙ sym c.in-Some-Known.ensures ∙ ap (λ m. Some m) c.in-Some-Known.field-0-is in
      let before = c.loop-at.invariant.put text macros name made seen knows h in
      put_known text macros name (length s.bodies.now) s.tokens.now c.args.span c.args.line made c.loop-at.output c.repeat.new.self at found (marks_of c.args.marks.now)
      c.in-Some-Known.piece c.loop-at.auto.at (seen_macro text macros name s.tokens.now s.numbers.now s.bodies.now at token found seen there (sym c.in-Some.ensures)) knows known before
      (λ piece holds stands. (rw c.in-Some-Known.field-0-is at c.in_ok-repeat-in-Some-Known.ensures) (made ++ on_line c.args.line before.piece) piece holds stands);
  same = c.loop-at.invariant.same;
  unchanged = c.loop-at.invariant.unchanged;
  meeting =
      let s = c.args.source.now in
      let at = c.loop-at.at in
      let old = c.args.marks.now in
      let found = c.in-Some.found in
      let known : mark_at (marks_of old) found.number ≡ Some (mark.Known c.in-Some-Known.piece) =
      ap (λ l. mark_at l found.number) (sym c.loop-at.invariant.same) ∙ sym c.in-Some-Known.ensures ∙ ap (λ m. Some m) c.in-Some-Known.field-0-is in
      meeting_known s.tokens.now s.numbers.now s.bodies.now (marks_of old) (met_of old) (met_of c.loop-at.marks) c.args.span.start at found.number (mark.Known c.in-Some-Known.piece)
      c.loop-at.invariant.meeting (macro_parts s.numbers.now s.bodies.now at found (sym c.in-Some.ensures)).0 known;
  empty = λ low. (let high = c.loop-at-test.true in let first = c.loop-at.auto.at in absurd (omega arith));
}

pub returns-in-Some-Open-clause-stopped : goal.returns-in-Some-Open-clause-stopped
returns-in-Some-Open-clause-stopped c text macros name made seen knows h =
    let s = c.args.source.now in
    let at = c.loop-at.at in
    let token = get_or s.tokens.now at nowhere in
    let there : slice_get s.tokens.now at ≡ Some token = slice_get-get_or s.tokens.now at nowhere c.if-at-source.false in
    let found = c.in-Some.found in
    let before = c.loop-at.invariant.put text macros name made seen knows h in
    record {
      at = at;
      piece = before.piece;
      yields = before.yields;
      holds = before.holds;
      stopped = (
        c.loop-at.auto.at,
        c.loop-at-test.true,
        (
          found,
          seen_macro text macros name s.tokens.now s.numbers.now s.bodies.now at token found seen there (sym c.in-Some.ensures),
          ap (λ l. mark_at l found.number) (sym c.loop-at.invariant.same) ∙ sym c.in-Some-Open.ensures ∙ ap (λ m. Some m) c.in-Some-Open.field-0-is,
        ),
      );
    }

pub returns-in-None-get-clause-fresh : goal.returns-in-None-get-clause-fresh
returns-in-None-get-clause-fresh c = (
  macro_below c.args.source.now.numbers.now c.args.source.now.bodies.now c.loop-at.at c.in-Some.found (sym c.in-Some.ensures),
  ap (λ l. mark_at l c.in-Some.found.number) (sym c.loop-at.invariant.same) ∙ sym c.in-None-get.ensures,
)

pub returns-in-None-get-clause-stopped : goal.returns-in-None-get-clause-stopped
returns-in-None-get-clause-stopped c text macros name made seen knows h =
    let s = c.args.source.now in
    let at = c.loop-at.at in
    let token = get_or s.tokens.now at nowhere in
    let there : slice_get s.tokens.now at ≡ Some token = slice_get-get_or s.tokens.now at nowhere c.if-at-source.false in
    let found = c.in-Some.found in
    let before = c.loop-at.invariant.put text macros name made seen knows h in
    record {
      at = at;
      piece = before.piece;
      yields = before.yields;
      holds = before.holds;
      stopped = (
        c.loop-at.auto.at,
        c.loop-at-test.true,
        refl,
        refl,
        seen_macro text macros name s.tokens.now s.numbers.now s.bodies.now at token found seen there (sym c.in-Some.ensures),
        ap (λ l. mark_at l found.number) (sym c.loop-at.invariant.same) ∙ sym c.in-None-get.ensures,
      );
    }

pub returns-then-at-source-clause-stopped : goal.returns-then-at-source-clause-stopped
returns-then-at-source-clause-stopped c text macros name made seen knows h =
    let before = c.loop-at.invariant.put text macros name made seen knows h in
    record {
      at = c.loop-at.at;
      piece = before.piece;
      yields = before.yields;
      holds = before.holds;
      stopped = past_all c.args.source.now.tokens.now c.args.span c.loop-at.at c.if-at-source.true c.loop-at-test.true;
    }

pub returns-after-loop-at-clause-stopped : goal.returns-after-loop-at-clause-stopped
returns-after-loop-at-clause-stopped c text macros name made seen knows h =
    let before = c.loop-at.invariant.put text macros name made seen knows h in
    record {
      at = c.loop-at.at;
      piece = before.piece;
      yields = before.yields;
      holds = before.holds;
      stopped = all_put c.args.source.now.tokens.now c.args.span c.loop-at.at c.loop-at-test.false c.loop-at.auto.at-end c.loop-at.invariant.empty;
    }

pub returns-in-None-get-clause-read : goal.returns-in-None-get-clause-read
returns-in-None-get-clause-read c marked =
    let s = c.args.source.now in
    let parts = macro_parts s.numbers.now s.bodies.now c.loop-at.at c.in-Some.found (sym c.in-Some.ensures) in
    (refl, parts.1, (c.loop-at.at, refl, parts.0, c.loop-at.invariant.meeting.read marked))

pub returns-then-at-source-clause-read : goal.returns-then-at-source-clause-read
returns-then-at-source-clause-read c marked =
    let s = c.args.source.now in
    let old = c.args.marks.now in
    meeting_past s.tokens.now s.numbers.now s.bodies.now (marks_of old) (met_of old) (met_of c.loop-at.marks) c.args.span.start c.loop-at.at c.args.span.end
    c.loop-at.invariant.meeting c.if-at-source.true marked

pub returns-after-loop-at-clause-read : goal.returns-after-loop-at-clause-read
returns-after-loop-at-clause-read c marked =
    λ at number low high there named below. c.loop-at.invariant.meeting.read marked at number low (let past = c.loop-at-test.false in omega arith) there named below
