-- Worked cases of the lines.
use Rattle.std.proofs.Common.{◌≡◌, ℕ, ◌+◌, ◌-◌, ◌*◌, ◌^◌, false, List, [], ◌∷◌, ◌++◌, refl}
use Rattle.std.specs.Prelude.{codes}
use Rattle.std.specs.Fmt.{digits}
use Rattle.c_types.specs.Table.{basic_kinds, basic_types}
use Rattle.c_types.specs.declared.kinds.CType.TheVariants.{Pointer}
use Rattle.lowfat_regions.specs.Regions.{slot_of, slot_in, region_of, first_multiple, size_of, sizes, slots, slot_address}
use Rattle.slot_headers.specs.Words.{address_of, version_of}
use Rattle.heap_model.specs.Objects.{offset_in}
use Rattle.heap_model.specs.declared.calls.Reach.{Reach}
use Rattle.heap_model.specs.declared.calls.Call.TheVariants.{Alloc}
use Rattle.heap_model.specs.declared.calls.Reply.TheVariants.{Placed}
use Rattle.heap_model.specs.declared.calls.Entry.{Entry}
use Rattle.heap_model.specs.declared.calls.ReportKind.{ReportKind}
use Rattle.heap_model.specs.declared.calls.ReportKind.TheVariants.{WrongType, Bounds, Free, Null, Escape, Compare}
use Rattle.plain_meaning.specs.declared.record.Report.{Report}
use Rattle.plain_meaning.specs.declared.record.Ending.TheVariants.{Finished, Spent, Reported}
use Rattle.reports.specs.TypeNames.{type_name}
use Rattle.placed_objects.specs.Placed.{object_named}
use Rattle.reports.specs.Lines.{ending_line, lines_from}

-- an object of four bytes in the first slot of region 1, freed, and another in the slot again
abbrev first_byte : ℕ
first_byte = 2 ^ 32 + 16

abbrev word : ℕ → ℕ
word version = version * 2 ^ 40 + first_byte

abbrev history : List Entry
history =
    record { worker = 1; number = 0; stamp = 1; region = 1; call = Alloc 6 4 false; reply = Placed (word 1) }
    ∷ record { worker = 1; number = 2; stamp = 3; region = 1; call = Alloc 6 4 false; reply = Placed (word 2) } ∷ []

abbrev object : Reach
object = record { lo = first_byte; hi = first_byte + 4 }

abbrev none : Reach
none = record { lo = 0; hi = 0 }

abbrev about : ReportKind → ℕ → Report
about kind first = record { kind = kind; line = 7; first = first; first_reach = object; second = word 2; second_reach = object; want = 6 }

freed : ending_line history basic_types 1 (Reported (about Free (word 1))) ≡ codes "worker 1: line 7: Free object 1#0 offset 0\n"
unfolding digits object_named type_name slot_of slot_in region_of address_of version_of first_multiple size_of sizes slots slot_address offset_in
freed = refl

past_the_end : ending_line history basic_types 1 (Reported (about Bounds (word 2 + 4))) ≡ codes "worker 1: line 7: Bounds object 1#2 offset 4 bounds 0 4\n"
unfolding digits object_named type_name slot_of slot_in region_of address_of version_of first_multiple size_of sizes slots slot_address offset_in
past_the_end = refl

before_the_first : ending_line history basic_types 1 (Reported (about Escape (word 1 - 4))) ≡ codes "worker 1: line 7: Escape object 1#0 offset -4 bounds 0 4\n"
unfolding digits object_named type_name slot_of slot_in region_of address_of version_of first_multiple size_of sizes slots slot_address offset_in
before_the_first = refl

wanted : ending_line history basic_types 1 (Reported (about WrongType (word 1))) ≡ codes "worker 1: line 7: WrongType object 1#0 offset 0 want int\n"
unfolding digits object_named type_name slot_of slot_in region_of address_of version_of first_multiple size_of sizes slots slot_address offset_in
wanted = refl

compared : ending_line history basic_types 1 (Reported (about Compare (word 1 + 4000))) ≡ codes "worker 1: line 7: Compare object 1#0 offset 4000 object 1#2 offset 0\n"
unfolding digits object_named type_name slot_of slot_in region_of address_of version_of first_multiple size_of sizes slots slot_address offset_in
compared = refl

-- no object has had version 3
unnamed : ending_line history basic_types 1 (Reported (about Bounds (word 3))) ≡ codes "worker 1: line 7: Bounds none offset 4294967312 bounds 4294967312 4294967316\n"
unfolding digits object_named type_name slot_of slot_in region_of address_of version_of first_multiple size_of sizes slots slot_address offset_in
unnamed = refl

three_workers : lines_from history basic_types 0 (Finished ∷ Spent 3 ∷ Reported (record (about Null 0) { line = 4 }) ∷ []) ≡ codes "worker 1: line 3: Spent\nworker 2: line 4: Null\n"
unfolding digits object_named type_name slot_of slot_in region_of address_of version_of first_multiple size_of sizes slots slot_address offset_in
three_workers = refl

pointers : type_name (record basic_types { kinds = basic_kinds ++ Pointer 3 ∷ Pointer 10 ∷ [] }) 11 ≡ codes "unsigned char**"
unfolding type_name
pointers = refl
