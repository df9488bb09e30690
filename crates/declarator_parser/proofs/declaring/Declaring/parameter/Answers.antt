use Rattle.std.specs.Prelude.{option_map}
use Rattle.token_texts.specs.Texts.{name_of}
use Rattle.declarator_parser.proofs.Parts.{grows_on, grows_moved}
use Rattle.declarator_parser.proofs.declaring.Declaring.parameter.Goals as goal

pub returns-clause-grows : goal.returns-clause-grows
returns-clause-grows g c =
    grows_moved c.args.reader.now.state.scope c.inner_declarator.new.reader c.declare_parameter.new.reader
    (option_map (name_of c.inner_declarator.new.reader.texts) c.in_ok-declared.declared.name)
    (grows_on _ _ _ c.in_ok-specs.ensures.grows c.in_ok-declared.ensures.grows) c.in_ok-declare_parameter.ensures.ok
