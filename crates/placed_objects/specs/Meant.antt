-- What the slots and the objects of the code mean.
use Rattle.lowfat_regions.specs.Regions as regions
use Rattle.heap_model.specs.Answers.{Name}
use Rattle.placed_objects.specs.declared.slot.Slot.{Slot}
use Rattle.placed_objects.specs.declared.object.Object.{Object}

abbrev pub slot_name : Slot → regions.Slot
slot_name s = record { region = s.region; number = s.number }

abbrev pub name_of : Object → Name
name_of o = record { slot = slot_name o.slot; version = o.version; worker = o.worker; number = o.number }
