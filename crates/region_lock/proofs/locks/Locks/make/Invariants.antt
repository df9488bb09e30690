use Rattle.std.proofs.Common.{◌≡◌}
use mathlib.Core.Option.{some}
use lib.ListN.{get_elem?}
use Rattle.region_lock.specs.Shown.{plain_data_of}
use Rattle.region_lock.proofs.locks.Locks.make.Given as goal

abbrev pub ghosts-take : goal.ghosts-take
ghosts-take g a = record {
  fact = λ y. get_elem? (plain_data_of g.V.Kept.plain a.self.now) a.slot ≡ some
      (g.V.Kept.plain y);
}
