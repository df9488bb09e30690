use Rattle.std.proofs.Common.{rules, ◌≡◌, ◌∙◌, ◌++◌, ℕ, List, Some, Err, map, slice_get, ap, subst, sym, refl, arith}
use Rattle.std.proofs.lemmas.Grind.{common_steps}
use Rattle.c_grammar.specs.declared.phrases.TypePhrase.{TypePhrase}
use Rattle.c_grammar.specs.declared.units.TypeName.{TypeName}
use Rattle.c_tokens.specs.Names.{Name}
use Rattle.token_texts.specs.Names.{predefined}
use Rattle.token_texts.specs.Texts.{Texts, AreTextsWith}
use Rattle.c_grammar.specs.Units.{DerivesTypeName}
use Rattle.grammar_descent.specs.AllReaders.{read_type_name}
use Rattle.token_reader.specs.declared.error.ParseError.TheVariants.{Syntax}
use Rattle.c_parser.specs.Answers.{Answers}
use Rattle.c_parser.proofs.GivenNames.{given_names, given_low}
use Rattle.c_parser.proofs.UnitLaws.{only_one, only_memory, none_has}
use Rattle.c_parser.proofs.units.parse_type_name.Goals as goal

abbrev made : TypePhrase → Texts → TypeName
made phrase texts = record { phrase = phrase; texts = texts }

pub lone_phrase-requires-clause-texts : goal.lone_phrase-requires-clause-texts
lone_phrase-requires-clause-texts c =
    let names = given_names c.in_ok-found.found.texts c.deref.result.now c.args.typedefs.now (ap (λ (l : List ℕ). map (slice_get c.in_ok-found.found.texts.names) l) c.deref.ensures.value ∙ c.in_ok-found.ensures.typedefs) in
    subst (λ (l : List Name). AreTextsWith l c.args.text.now c.args.tokens.now c.in_ok-found.found.texts) (sym names) c.in_ok-found.ensures.texts

pub lone_phrase-requires-clause-spelled : goal.lone_phrase-requires-clause-spelled
lone_phrase-requires-clause-spelled c = given_low c.in_ok-found.found.texts c.deref.result.now c.args.typedefs.now
    (ap (λ (l : List ℕ). map (slice_get c.in_ok-found.found.texts.names) l) c.deref.ensures.value ∙ c.in_ok-found.ensures.typedefs)

pub returns-in_err-phrase-clause-only : goal.returns-in_err-phrase-clause-only
returns-in_err-phrase-clause-only c type derives =
    let text = c.args.text.now in
    let tokens = c.args.tokens.now in
    let typedefs = c.args.typedefs.now in
    let names = given_names c.in_ok-found.found.texts c.deref.result.now typedefs (ap (λ (l : List ℕ). map (slice_get c.in_ok-found.found.texts.names) l) c.deref.ensures.value ∙ c.in_ok-found.ensures.typedefs) in
    let answers = subst (λ (l : List Name). Answers {A = TypePhrase} (Err c.in_err-phrase.field-0.0) (read_type_name text tokens l)) names c.in_err-phrase.ensures.answers in
    let memory = only_memory made (λ (t : TypeName). t.phrase) (λ (t : TypeName). t.texts) (λ t. refl) (read_type_name text tokens typedefs) (AreTextsWith typedefs text tokens) (DerivesTypeName text tokens typedefs)
    (c.law_readers.ensures.type_name text tokens typedefs) c.in_err-phrase.field-0.0 answers type derives in
    first_of (search rules, grind (arith, common_steps))

pub returns-in_err-phrase-clause-refused : goal.returns-in_err-phrase-clause-refused
returns-in_err-phrase-clause-refused c at is type derives =
    let text = c.args.text.now in
    let tokens = c.args.tokens.now in
    let typedefs = c.args.typedefs.now in
    let names = given_names c.in_ok-found.found.texts c.deref.result.now typedefs (ap (λ (l : List ℕ). map (slice_get c.in_ok-found.found.texts.names) l) c.deref.ensures.value ∙ c.in_ok-found.ensures.typedefs) in
    let answers = subst (λ (l : List Name). Answers {A = TypePhrase} (Err c.in_err-phrase.field-0.0) (read_type_name text tokens l)) names c.in_err-phrase.ensures.answers in
    let syntax : c.in_err-phrase.field-0.0 ≡ Syntax at = first_of (search rules, grind (arith, common_steps)) in
    none_has made (λ (t : TypeName). t.phrase) (λ (t : TypeName). t.texts) (λ t. refl) (read_type_name text tokens typedefs) (AreTextsWith typedefs text tokens) (DerivesTypeName text tokens typedefs)
    (c.law_readers.ensures.type_name text tokens typedefs) c.in_err-phrase.field-0.0 answers at syntax type derives

pub returns-in_err-phrase-clause-within : goal.returns-in_err-phrase-clause-within
returns-in_err-phrase-clause-within c at is =
    let syntax : c.in_err-phrase.field-0.0 ≡ Syntax at = first_of (search rules, grind (arith, common_steps)) in
    first_of (search rules, grind (arith, common_steps))

pub returns-clause-found : goal.returns-clause-found
returns-clause-found c =
    let text = c.args.text.now in
    let tokens = c.args.tokens.now in
    let typedefs = c.args.typedefs.now in
    let names = given_names c.in_ok-found.found.texts c.deref.result.now typedefs (ap (λ (l : List ℕ). map (slice_get c.in_ok-found.found.texts.names) l) c.deref.ensures.value ∙ c.in_ok-found.ensures.typedefs) in
    let answers = subst (λ (l : List Name). read_type_name text tokens l ≡ Some c.in_ok-phrase.phrase) names c.in_ok-phrase.ensures.answers in
    (c.law_readers.ensures.type_name text tokens typedefs (made c.in_ok-phrase.phrase c.in_ok-found.found.texts)).0 (answers, c.in_ok-found.ensures.texts)

pub returns-clause-only : goal.returns-clause-only
returns-clause-only c type derives =
    let text = c.args.text.now in
    let tokens = c.args.tokens.now in
    let typedefs = c.args.typedefs.now in
    let names = given_names c.in_ok-found.found.texts c.deref.result.now typedefs (ap (λ (l : List ℕ). map (slice_get c.in_ok-found.found.texts.names) l) c.deref.ensures.value ∙ c.in_ok-found.ensures.typedefs) in
    let answers = subst (λ (l : List Name). read_type_name text tokens l ≡ Some c.in_ok-phrase.phrase) names c.in_ok-phrase.ensures.answers in
    only_one made (λ (t : TypeName). t.phrase) (λ (t : TypeName). t.texts) (λ t. refl) (read_type_name text tokens typedefs) (AreTextsWith typedefs text tokens) (DerivesTypeName text tokens typedefs)
    (c.law_readers.ensures.type_name text tokens typedefs) (c.law_texts.ensures.one (predefined ++ typedefs) text tokens) c.in_ok-phrase.phrase c.in_ok-found.found.texts
    answers c.in_ok-found.ensures.texts type derives

pub returns-clause-shallow : goal.returns-clause-shallow
returns-clause-shallow c =
    let text = c.args.text.now in
    let tokens = c.args.tokens.now in
    let typedefs = c.args.typedefs.now in
    let names = given_names c.in_ok-found.found.texts c.deref.result.now typedefs (ap (λ (l : List ℕ). map (slice_get c.in_ok-found.found.texts.names) l) c.deref.ensures.value ∙ c.in_ok-found.ensures.typedefs) in
    let answers = subst (λ (l : List Name). read_type_name text tokens l ≡ Some c.in_ok-phrase.phrase) names c.in_ok-phrase.ensures.answers in
    let type = made c.in_ok-phrase.phrase c.in_ok-found.found.texts in
    let derived = (c.law_readers.ensures.type_name text tokens typedefs type).0 (answers, c.in_ok-found.ensures.texts) in
    c.law_depths.ensures.type_name text tokens typedefs type derived
