use Rattle.std.proofs.Common.{map, subst, inl, inr, refl, arith}
use Rattle.std.specs.Prelude.{string_bytes}
use Rattle.std.proofs.lemmas.Result.{err_from_is_err_and}
use Rattle.effs_words.specs.Judged.{IsBadSomewhere, asked_of}
use Rattle.effs_words.specs.Lines.{AreOptions}
use Rattle.effs_words.specs.Options.{entry_count}
use Rattle.effs_words.specs.Words.{run_words, schedule_in}
use Rattle.effs_words.proofs.build.read_line.Goals as goal

pub returns-in_err-options-clause-refused : goal.returns-in_err-options-clause-refused
returns-in_err-options-clause-refused c =
    let p = err_from_is_err_and c.from_residual.result c.from_residual.ensures.1 in
    rw (p.1, p.2) (inl (subst (λ n. IsBadSomewhere c.args.play n (map string_bytes c.args.words.now) c.in_err-options.field-0.0) c.entry_count.ensures c.in_err-options.ensures.refused))

pub returns-in_err-ask_for-clause-refused : goal.returns-in_err-ask_for-clause-refused
returns-in_err-ask_for-clause-refused c =
    let p = err_from_is_err_and c.from_residual-in_err-ask_for.result c.from_residual-in_err-ask_for.ensures.1 in
    let ws = map string_bytes c.args.words.now in
    let said = c.in_ok-options.ensures.read.0 in
    let asked = asked_of c.in_ok-options.options said.entries said.watch in
    rw (p.1, p.2) (inr (record {
      memory = tt;
      run = run_words asked;
      list = schedule_in (entry_count c.args.play ws) asked.schedule;
      asks = record {
        asked = asked;
        reads = subst (λ n. AreOptions c.args.play n ws asked) c.entry_count.ensures said.reads;
        some = omega (arith, c.in_ok-options.ensures.read.1, said.counted);
        is = refl;
        turns = refl;
      };
    }))
