use Rattle.std.proofs.Common.{rules, ◌≡◌, List, length, refl, arith}
use Rattle.std.proofs.lemmas.Grind.{common_steps}
use Rattle.c_grammar.specs.declared.units.External.{External}
use Rattle.c_grammar.specs.declared.units.Unit.{Unit as Tree}
use Rattle.token_texts.specs.Texts.{Texts, AreTexts}
use Rattle.token_texts.specs.Names.{predefined}
use Rattle.c_grammar.specs.Units.{Derives}
use Rattle.grammar_descent.specs.AllReaders.{read_unit}
use Rattle.token_reader.specs.declared.error.ParseError.TheVariants.{Syntax}
use Rattle.tree_sizes.specs.Sizes.{nodes_of_unit}
use Rattle.c_parser.proofs.UnitLaws.{only_one, only_memory, none_has, few_nodes}
use Rattle.c_parser.proofs.units.parse.Goals as goal

abbrev made : List External → Texts → Tree
made items texts = record { items = items; texts = texts }

pub returns-in_err-items-clause-only : goal.returns-in_err-items-clause-only
returns-in_err-items-clause-only c unit derives =
    let text = c.args.text.now in
    let tokens = c.args.tokens.now in
    let memory = only_memory made (λ (u : Tree). u.items) (λ (u : Tree). u.texts) (λ u. refl) (read_unit text tokens) (AreTexts text tokens) (Derives text tokens)
    (c.law_readers.ensures.unit text tokens) c.in_err-items.field-0.0 c.in_err-items.ensures.answers unit derives in
    first_of (search rules, grind (arith, common_steps))

pub returns-in_err-items-clause-refused : goal.returns-in_err-items-clause-refused
returns-in_err-items-clause-refused c at is unit derives =
    let text = c.args.text.now in
    let tokens = c.args.tokens.now in
    let syntax : c.in_err-items.field-0.0 ≡ Syntax at = first_of (search rules, grind (arith, common_steps)) in
    none_has made (λ (u : Tree). u.items) (λ (u : Tree). u.texts) (λ u. refl) (read_unit text tokens) (AreTexts text tokens) (Derives text tokens)
    (c.law_readers.ensures.unit text tokens) c.in_err-items.field-0.0 c.in_err-items.ensures.answers at syntax unit derives

pub returns-in_err-items-clause-within : goal.returns-in_err-items-clause-within
returns-in_err-items-clause-within c at is =
    let syntax : c.in_err-items.field-0.0 ≡ Syntax at = first_of (search rules, grind (arith, common_steps)) in
    first_of (search rules, grind (arith, common_steps))

pub returns-clause-found : goal.returns-clause-found
returns-clause-found c =
    (c.law_readers.ensures.unit c.args.text.now c.args.tokens.now (made c.in_ok-items.items c.in_ok-texts.texts)).0 (c.in_ok-items.ensures.answers, c.in_ok-texts.ensures)

pub returns-clause-only : goal.returns-clause-only
returns-clause-only c unit derives =
    let text = c.args.text.now in
    let tokens = c.args.tokens.now in
    only_one made (λ (u : Tree). u.items) (λ (u : Tree). u.texts) (λ u. refl) (read_unit text tokens) (AreTexts text tokens) (Derives text tokens)
    (c.law_readers.ensures.unit text tokens) (c.law_texts.ensures.one predefined text tokens) c.in_ok-items.items c.in_ok-texts.texts
    c.in_ok-items.ensures.answers c.in_ok-texts.ensures unit derives

pub returns-clause-few : goal.returns-clause-few
returns-clause-few c =
    let unit = made c.in_ok-items.items c.in_ok-texts.texts in
    let derived = (c.law_readers.ensures.unit c.args.text.now c.args.tokens.now unit).0 (c.in_ok-items.ensures.answers, c.in_ok-texts.ensures) in
    few_nodes (nodes_of_unit unit) (length c.args.tokens.now) (c.law_sizes.ensures.unit c.args.text.now c.args.tokens.now unit derived) c.requires.count

pub returns-clause-shallow : goal.returns-clause-shallow
returns-clause-shallow c =
    let unit = made c.in_ok-items.items c.in_ok-texts.texts in
    let derived = (c.law_readers.ensures.unit c.args.text.now c.args.tokens.now unit).0 (c.in_ok-items.ensures.answers, c.in_ok-texts.ensures) in
    c.law_depths.ensures.unit c.args.text.now c.args.tokens.now unit derived
