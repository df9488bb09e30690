-- The place of an object that is initialised.
use Rattle.std.specs.Prelude.{ℕ}
use Rattle.c_tree.specs.declared.values.Place.{Place}
use Rattle.c_tree.specs.declared.values.Place.TheVariants as p
use Rattle.declaration_rules.specs.Stores.{at}
use Rattle.initialiser_steps.specs.declared.objects.InitialisedObject.{InitialisedObject}
use Rattle.initialiser_steps.specs.declared.objects.InitialisedObject.TheVariants as object

abbrev pub place_of : ℕ → ℕ → InitialisedObject → Place
place_of line kind (object.Variable number) = p.Variable (at line kind) number
place_of line kind (object.Global number) = p.Global (at line kind) number
