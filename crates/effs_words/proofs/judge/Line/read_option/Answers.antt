use Rattle.std.proofs.Common.{◌≡◌, ◌<◌, ◌≤◌, ◌+◌, get_or, length, map, take, sym, ◌∙◌, subst, true, false, arith}
use Rattle.std.specs.Prelude.{string_bytes}
use Rattle.std.specs.Option.{ForSome}
use Rattle.std.proofs.lemmas.List.{get_or_default}
use Rattle.std.proofs.lemmas.Grind.{common_steps}
use Rattle.effs_words.specs.Options.{takes_value, with_value}
use Rattle.effs_words.specs.Lines.{AreOptions}
use Rattle.effs_words.specs.Judged.{asked_of}
use Rattle.effs_words.proofs.Steps.{few_after, watch_read, unknown_next, misplaced_next, missing_next, bad_value_next, read_alone, read_valued}
use Rattle.effs_words.proofs.judge.Line.read_option.Goals as goal

pub returns-in_default-clause-refused : goal.returns-in_default-clause-refused
returns-in_default-clause-refused c =
    let said = c.requires.before in
    unknown_next string_bytes _ _ c.args.self.now.words.now c.args.at (get_or c.args.self.now.words.now c.args.at c.index-self-at.result) c.requires.within (get_or_default _ _ _ _ c.requires.within)
    (asked_of c.args.options.now said.entries said.watch) said.reads c.in_default.ensures

pub returns-in-Some-word_fault-clause-refused : goal.returns-in-Some-word_fault-clause-refused
returns-in-Some-word_fault-clause-refused c =
    let said = c.requires.before in
    misplaced_next string_bytes _ _ c.args.self.now.words.now c.args.at (get_or c.args.self.now.words.now c.args.at c.index-self-at.result) c.requires.within (get_or_default _ _ _ _ c.requires.within)
    (asked_of c.args.options.now said.entries said.watch) said.reads c.in-Some.name c.in-Some-word_fault.error c.in-Some.ensures
    (c.in-Some-word_fault.ensures said.entries said.watch said.watched)

pub returns-then-not-takes_value-clause-read : goal.returns-then-not-takes_value-clause-read
returns-then-not-takes_value-clause-read c =
    let said = c.requires.before in
    let bare : takes_value c.in-Some.name ≡ false = grind (arith, common_steps) in
    let reads = read_alone string_bytes c.args.self.now.play c.args.self.now.workers c.args.self.now.words.now c.args.at (get_or c.args.self.now.words.now c.args.at c.index-self-at.result) c.requires.within (get_or_default _ _ _ _ c.requires.within)
    (asked_of c.args.options.now said.entries said.watch) said.reads c.in-Some.name c.in-Some.ensures
    (c.in_default-word_fault.ensures said.entries said.watch said.watched) bare in
    record {
      entries = said.entries;
      watch = said.watch;
      reads = subst (λ a. AreOptions c.args.self.now.play c.args.self.now.workers (take (c.args.at + 1) (map string_bytes c.args.self.now.words.now)) a)
          (sym (c.set_flag.ensures.asked said.entries said.watch)) reads;
      counted = c.set_flag.ensures.entries ∙ said.counted;
      watched = c.set_flag.ensures.watched ∙ said.watched;
      few = omega (arith, c.set_flag.ensures.entries, said.few);
      small = subst (λ o. ForSome o (λ n. n ≤ 5000000)) (sym c.set_flag.ensures.turns) said.small;
    }

pub returns-then-at-self-clause-refused : goal.returns-then-at-self-clause-refused
returns-then-at-self-clause-refused c =
    let said = c.requires.before in
    let taken : takes_value c.in-Some.name ≡ true = grind (arith, common_steps) in
    missing_next string_bytes _ _ c.args.self.now.words.now c.args.at (get_or c.args.self.now.words.now c.args.at c.index-self-at.result) c.requires.within (get_or_default _ _ _ _ c.requires.within)
    (asked_of c.args.options.now said.entries said.watch) said.reads c.in-Some.name c.in-Some.ensures
    (c.in_default-word_fault.ensures said.entries said.watch said.watched) taken (omega arith)

pub returns-in-Some-value_fault-clause-refused : goal.returns-in-Some-value_fault-clause-refused
returns-in-Some-value_fault-clause-refused c =
    let more : c.args.at + 1 < length c.args.self.now.words.now = omega arith in
    let said = c.requires.before in
    let taken : takes_value c.in-Some.name ≡ true = grind (arith, common_steps) in
    bad_value_next string_bytes _ _ c.args.self.now.words.now c.args.at (get_or c.args.self.now.words.now c.args.at c.index-self-at.result) c.requires.within (get_or_default _ _ _ _ c.requires.within)
    (asked_of c.args.options.now said.entries said.watch) said.reads c.in-Some.name c.in-Some.ensures
    (c.in_default-word_fault.ensures said.entries said.watch said.watched) (get_or c.args.self.now.words.now (c.args.at + 1) c.index-self-at-2.result) c.in-Some-value_fault.error taken
    more (get_or_default c.args.self.now.words.now (c.args.at + 1) c.index-self-at-2.result (get_or c.args.self.now.words.now (c.args.at + 1) c.index-self-at-2.result) more)
    (c.in-Some-value_fault.ensures said.entries said.watch said.counted
    (watch_read string_bytes c.args.self.now.play c.args.self.now.workers c.args.self.now.words.now c.args.at (asked_of c.args.options.now said.entries said.watch) said.reads))

pub returns-clause-read : goal.returns-clause-read
returns-clause-read c =
    let more : c.args.at + 1 < length c.args.self.now.words.now = omega arith in
    let said = c.requires.before in
    let before = asked_of c.args.options.now said.entries said.watch in
    let taken : takes_value c.in-Some.name ≡ true = grind (arith, common_steps) in
    let given = string_bytes (get_or c.args.self.now.words.now (c.args.at + 1) c.index-self-at-2.result) in
    let fits = c.in_default-value_fault.ensures said.entries said.watch said.counted
    (watch_read string_bytes c.args.self.now.play c.args.self.now.workers c.args.self.now.words.now c.args.at before said.reads) in
    let after = with_value before c.in-Some.name given in
    let reads = read_valued string_bytes c.args.self.now.play c.args.self.now.workers c.args.self.now.words.now c.args.at (get_or c.args.self.now.words.now c.args.at c.index-self-at.result) c.requires.within (get_or_default _ _ _ _ c.requires.within)
    before said.reads c.in-Some.name c.in-Some.ensures
    (c.in_default-word_fault.ensures said.entries said.watch said.watched) (get_or c.args.self.now.words.now (c.args.at + 1) c.index-self-at-2.result) taken
    more (get_or_default c.args.self.now.words.now (c.args.at + 1) c.index-self-at-2.result (get_or c.args.self.now.words.now (c.args.at + 1) c.index-self-at-2.result) more) fits in
    let counted = c.set_value.ensures.counted said.entries said.watch said.counted in
    record {
      entries = after.entries;
      watch = after.watch;
      reads = subst (λ a. AreOptions c.args.self.now.play c.args.self.now.workers (take (c.args.at + 2) (map string_bytes c.args.self.now.words.now)) a)
          (sym (c.set_value.ensures.asked said.entries said.watch)) reads;
      counted = counted;
      watched = c.set_value.ensures.watched said.entries said.watch said.watched;
      few = omega (arith, counted, few_after c.args.self.now.workers before (c.args.at + 2) c.in-Some.name given fits (omega (arith, said.few, said.counted)));
      small = c.set_value.ensures.small said.small;
    }
