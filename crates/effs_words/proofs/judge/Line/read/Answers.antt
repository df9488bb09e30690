use Rattle.std.proofs.Common.{◌≡◌, [], ◌++◌, ap, length, take, map, sym, ◌∙◌, arith, take-append-drop}
use Rattle.std.specs.Prelude.{string_bytes}
use Rattle.std.proofs.lemmas.List.{drop_all, length-map}
use Rattle.effs_words.specs.Lines.{no_entry}
use Rattle.effs_words.specs.Judged.{asked_of}
use Rattle.effs_words.proofs.Steps.{empty_list}
use Rattle.effs_words.proofs.judge.Line.read.Goals as goal

pub returns-then-options-eq0-clause-refused : goal.returns-then-options-eq0-clause-refused
returns-then-options-eq0-clause-refused c =
    let said = c.loop-at.invariant.said in
    let none_named : length said.entries ≡ 0 = omega (arith, said.counted) in
    record {
      before = take c.loop-at.at (map string_bytes c.args.self.now.words.now);
      rest = [];
      joined = sym (take-append-drop c.loop-at.at (map string_bytes c.args.self.now.words.now))
          ∙ ap (λ l. take c.loop-at.at (map string_bytes c.args.self.now.words.now) ++ l)
          (drop_all c.loop-at.at (map string_bytes c.args.self.now.words.now) (omega (arith, length-map c.args.self.now.words.now string_bytes)));
      bad = record {
        asked = asked_of c.loop-at.options said.entries said.watch;
        reads = said.reads;
        bad = no_entry (empty_list said.entries none_named);
      };
    }
