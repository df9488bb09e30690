use Rattle.std.proofs.Common.{List, ℕ, ◌++◌, codes, subst}
use Rattle.std.specs.Prelude.{OnOk, OnErr}
use Rattle.effs_io.specs.Streams.{Appends, AppendsSome}
use Rattle.effsan_top.proofs.refusal.write_error_name.Goals as goal

pub returns-clause-ok : goal.returns-clause-ok
returns-clause-ok g c =
    subst (λ (n : List ℕ). OnOk c.write_both.result (Appends (codes "effsan: words: " ++ n) (g.E.Sink.taken c.args.err.now) (g.E.Sink.taken c.write_both.new.err)))
    c.name.ensures c.write_both.ensures.ok

pub returns-clause-failed : goal.returns-clause-failed
returns-clause-failed g c =
    subst (λ (n : List ℕ). OnErr c.write_both.result (AppendsSome (codes "effsan: words: " ++ n) (g.E.Sink.taken c.args.err.now) (g.E.Sink.taken c.write_both.new.err)))
    c.name.ensures c.write_both.ensures.failed
