-- What was found where braces end.
use Rattle.std.specs.Prelude.{◌≡◌, None}
use Rattle.declaration_rules.specs.Stores.{Found, then_found}

-- what stood before the braces, which wait to be told, and what was found within them
abbrev pub IsWithin : Found → Found → Found → Type 0
IsWithin so_far before within = so_far ≡ then_found (record before { unfit = None }) within
