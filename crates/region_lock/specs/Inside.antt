-- What the fields of a pass stand for.
use Rattle.std.specs.Prelude.{◌≡◌, [], ◌∷◌, length}
use Rattle.region_lock.specs.Known.{Known}
use Rattle.region_lock.specs.Passes.{pass_view, made_list}
use Rattle.region_lock.specs.declared.pass.Pass.TheInside.{Inside}

abbrev pub known : Inside → Known
known p =
    record { locks = p.badge.table_id; worker = p.worker; list = made_list p.badge.views; last = p.last }

abbrev pub IsPass : Inside → Type 0
IsPass p =
    (p.badge.views ≡ pass_view p.worker (made_list p.badge.views) p.last ∷ [])
    × (p.made ≡ length (made_list p.badge.views))
