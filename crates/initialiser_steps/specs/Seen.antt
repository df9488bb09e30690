-- What is stored, as the definitions say it.
use Rattle.declaration_rules.specs.Stores.{Stored, Scalar, Copied, Bytes}
use Rattle.initialiser_steps.specs.declared.stored.StoredPart.{StoredPart}
use Rattle.initialiser_steps.specs.declared.stored.StoredPart.TheVariants as part

abbrev pub stored_by : StoredPart → Stored
stored_by (part.Scalar value) = Scalar value
stored_by (part.Copied place) = Copied place
stored_by (part.Bytes bytes) = Bytes bytes
