-- What a specifier begins with, as the grammar's readers say it.
use Rattle.std.specs.Prelude.{Option, Some, None}
use Rattle.grammar_descent.specs.SpecifierSteps as reads
use Rattle.declarator_parser.specs.declared.leads.Lead.{Lead}
use Rattle.declarator_parser.specs.declared.leads.Lead.TheVariants as lead

abbrev pub one_lead : Lead → reads.Lead
one_lead (lead.Storage which) = reads.storage_word which
one_lead (lead.Qualifier which) = reads.qualifier_word which
one_lead (lead.Basic which) = reads.basic_word which
one_lead (lead.Aggregate which) = reads.aggregate_word which
one_lead lead.Enumeration = reads.enum_word
one_lead lead.TypedefName = reads.typedef_name

abbrev pub as_lead : Option Lead → Option reads.Lead
as_lead (Some lead) = Some (one_lead lead)
as_lead None = None
