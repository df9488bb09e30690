use Rattle.std.proofs.Common.{rules, ◌≡◌, ◌+◌, ℕ, ap, ◌∙◌, List}
use Rattle.slot_headers.specs.Cells.{Cell, zeros}
use Rattle.slot_headers.specs.declared.header.Header.{Header}
use Rattle.slot_store.specs.Slots.{Contents, cells_of, with_cells, slot_size}
use Rattle.slot_store.proofs.Stored.{with_cells_twice, cells_of_written}
use Rattle.object_slots.specs.View.{header_in, with_header}
use Rattle.object_slots.proofs.placing.place.Goals as goal

pub returns : goal.returns
returns c =
    let old : Contents = c.args.store.now in
    let slot : ℕ = c.args.taken.slot in
    let zero : List (Cell ℕ) = zeros (slot_size old) in
    let header : Header = record { kind = c.args.elem; version = 1 + (header_in (cells_of old slot)).version; fixed = c.args.fixed; size = c.args.size } in
    let size : c.from.result ≡ c.args.size = search rules in
    c.put_header.ensures
    ∙ (λ i. with_cells c.clear.new.store c.args.taken.slot (with_header (record { kind = c.args.elem; version = 1 + (c.header-version.ensures.value i).version; fixed = c.args.fixed; size = size i }) (cells_of c.clear.new.store c.args.taken.slot)))
    ∙ ap (λ s. with_cells s slot (with_header header (cells_of s slot))) c.clear.ensures
    ∙ ap (λ cells. with_cells (with_cells old slot zero) slot (with_header header cells)) (cells_of_written old slot zero c.requires.made)
    ∙ with_cells_twice old slot zero (with_header header zero)
