use Rattle.std.proofs.Common.{rules}
use Rattle.slot_headers.proofs.Headers.{read_as, same_bytes}
use Rattle.slot_headers.proofs.header.Header.get.Goals as goal

pub returns-clause-bytes : goal.returns-clause-bytes
returns-clause-bytes c =
    same_bytes c.args.from.now c.from_le_bytes.result c.from_le_bytes-version.result c.from_le_bytes-2.result
    c.requires (λ i. search rules) (search rules) c.from_le_bytes.ensures c.from_le_bytes-version.ensures c.from_le_bytes-2.ensures

pub returns-clause-value : goal.returns-clause-value
returns-clause-value c =
    read_as c.args.from.now c.from_le_bytes.result c.from_le_bytes-version.result c.from_le_bytes-2.result
    c.requires c.from_le_bytes.ensures c.from_le_bytes-version.ensures c.from_le_bytes-2.ensures
