use Rattle.declarator_parser.proofs.Depths.{specs-at}
use Rattle.declarator_parser.proofs.declaring.Declaring.read_specs.Goals as goal

pub returns : goal.returns
returns g c = specs-at c.args.self.now.depth c.args.reader.now c.specs_step.result c.specs_step.new.reader c.specs_step.ensures
