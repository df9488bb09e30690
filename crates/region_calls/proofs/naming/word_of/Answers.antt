use Rattle.std.proofs.Common.{◌≡◌, ◌∙◌, ◌<◌, ap, arith}
use Rattle.lowfat_regions.specs.Regions.{slot_of, slots, object_address}
use Rattle.lowfat_regions.proofs.Addresses.{size_ok}
use Rattle.slot_headers.specs.Words.{address_of}
use Rattle.region_calls.specs.Naming.{nth_slot}
use Rattle.region_calls.proofs.naming.word_of.Goals as goal

pub returns-clause-slot : goal.returns-clause-slot
returns-clause-slot c =
    let st = c.args.slots.now in
    let of_region = c.law_slots-2.ensures in
    let packed = c.law_words.ensures.0 c.first_byte_of.result c.version.result
    (omega (arith, c.first_byte_of.ensures.bound)) in
    let address : address_of c.pack.result ≡ object_address (nth_slot st c.args.slot) =
    ap address_of c.pack.ensures ∙ packed.address_is ∙ c.first_byte_of.ensures.value in
    let below : c.args.slot < slots st.region = omega (arith, c.requires, of_region.limit) in
    ap slot_of address
    ∙ c.law_slots.ensures (nth_slot st c.args.slot) 16
    (record { from = of_region.region.0; to = of_region.region.1; number = below })
    (omega (arith, size_ok st.region of_region.region.1))
