use Rattle.std.proofs.Common.{◌-◌, length, drop}
use Rattle.token_reader.proofs.SpelledLemmas.{closed, scoped}
use Rattle.token_reader.proofs.reader.Reader.close.Goals as goal

pub returns : goal.returns
returns c =
    scoped c.self.inside c.args.self.now c.self.view_is c.self.invariant c.close.new.self (drop (length c.args.self.now.state.scope - c.args.count) c.args.self.now.state.scope)
    (closed c.self.inside c.args.self.now c.self.view_is c.self.invariant c.close.new.self c.args.count c.close.ensures)
