use Rattle.std.proofs.Common.{◌≡◌, refl, map, sym, ap, ◌∙◌, arith}
use Rattle.std.specs.Prelude.{string_bytes}
use Rattle.effs_words.specs.Words.{schedule_in}
use Rattle.effs_words.specs.Judged.{asked_of}
use Rattle.effs_words.proofs.Answering.{entries_read, watch_all, counted}
use Rattle.effs_words.proofs.build.ask_for.Goals as goal

pub returns : goal.returns
returns c =
    let said = c.requires.said in
    let ws = map string_bytes c.args.line.words.now in
    let asked = asked_of c.args.options said.entries said.watch in
    let workers : c.args.options.entries ≡ c.args.line.workers =
    said.counted ∙ sym (counted c.args.line.play c.args.line.workers ws asked said.reads) ∙ sym c.requires.counted in
    let entries = c.in_ok-entries.ensures ∙ entries_read c.args.line.play c.args.line.workers ws asked said.reads in
    let watch = c.in_ok-watch.ensures ∙ watch_all c.args.line.play c.args.line.workers ws asked said.reads in
    record {
      asked = asked;
      reads = said.reads;
      some = omega (arith, c.requires.some, said.counted);
      is = rw (entries, watch, c.in_ok-setup.ensures, c.in_ok-finish.ensures, c.turns_or_default.ensures) refl;
      turns = c.in_ok-schedule.ensures ∙ ap (λ n. schedule_in n asked.schedule) workers;
    }
