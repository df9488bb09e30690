use Rattle.std.proofs.Common.{◌-◌, length, drop}
use Rattle.token_reader.proofs.SpelledLemmas.{closed, ended, scoped}
use Rattle.token_reader.proofs.reader.Reader.take_since.Goals as goal

pub returns-clause-value : goal.returns-clause-value
returns-clause-value c = ended c.self.inside c.args.self.now c.self.view_is c.self.invariant c.in_ok-own.own c.args.count c.in_ok-own.ensures

pub returns-clause-ok : goal.returns-clause-ok
returns-clause-ok c =
    scoped c.self.inside c.args.self.now c.self.view_is c.self.invariant c.close.new.self (drop (length c.args.self.now.state.scope - c.args.count) c.args.self.now.state.scope)
    (closed c.self.inside c.args.self.now c.self.view_is c.self.invariant c.close.new.self c.args.count c.close.ensures)
