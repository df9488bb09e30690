-- The regions before the first call, and which calls they allow.
use Rattle.std.proofs.Common.{◌≡◌, ℕ, zero, suc, ◌+◌, ◌-◌, true, List, [], ◌∷◌, ◌++◌, map, length, Some, ⊎_elim, refl, sym, ap, ◌∙◌, subst, arith, length-append}
use mathlib.Core.Option.{some, some-injective, some-ne-none}
use lib.ListN.{get_elem?}
use Rattle.c_types.specs.Table.{Types}
use Rattle.heap_model.specs.Forms.{fits_call, region_for}
use Rattle.heap_model.specs.Layouts.{layouts_of}
use Rattle.heap_model.specs.Legal.{knows_types}
use Rattle.heap_model.specs.declared.calls.Call.{Call}
use Rattle.heap_model.proofs.Restricted.{call-region}
use Rattle.region_lock.proofs.Sums.{at_end}
use Rattle.shared_heap.specs.Regions.{Region, Allows, rules_of, fresh, fresh_up_to, fresh_regions}
use Rattle.shared_heap.specs.declared.rules.Rules.{Rules}

pub length-fresh : (types : Types) (n : ℕ) → length (fresh_up_to types n) ≡ n
length-fresh types zero = refl
length-fresh types (suc n) =
    omega (arith, length-append (fresh_up_to types n) (fresh types (suc n) ∷ []), length-fresh types n)

pub fresh-at : (types : Types) (n k : ℕ) (y : Region) → get_elem? (fresh_up_to types n) k ≡ some y
    → y ≡ fresh types (suc k)
fresh-at types zero k y e = absurd (some-ne-none y (sym e))
fresh-at types (suc n) k y e =
    ⊎_elim (λ was. fresh-at types n k y was)
    (λ (q : (k ≡ length (fresh_up_to types n)) × (fresh types (suc n) ≡ y)).
    sym q.1 ∙ ap (λ (i : ℕ). fresh types (suc i)) (sym (q.0 ∙ length-fresh types n)))
    (at_end (fresh_up_to types n) (fresh types (suc n)) y k e)

-- the rules at a place are those of the region there
pub rules-at : (xs : List Region) (k : ℕ) (p : Rules) → get_elem? (map rules_of xs) k ≡ some p
    → (y : Region) × (get_elem? xs k ≡ some y) × (rules_of y ≡ p)
rules-at [] k p e = absurd (some-ne-none p (sym e))
rules-at (x ∷ xs) zero p e = (x, refl, some-injective (rules_of x) p e)
rules-at (x ∷ xs) (suc k) p e = rules-at xs k p e

pub rules-of_region : (types : Types) (k : ℕ) (p : Rules) → get_elem? (map rules_of (fresh_regions types)) k ≡ some p
    → p ≡ rules_of (fresh types (suc k))
rules-of_region types k p e =
    let found = rules-at (fresh_regions types) k p e in
    sym found.2 ∙ ap rules_of (fresh-at types 27 k found.0 found.1)

-- the region of a call allows it
pub allowed : (types : Types) (plains : List Rules) (region : ℕ) (call : Call)
    → plains ≡ map rules_of (fresh_regions types) → region_for call ≡ Some region → fits_call call ≡ true
    → knows_types (layouts_of types) call ≡ true
    → (p : Rules) → get_elem? plains (region - 1) ≡ some p → Allows p call
allowed types plains region call are home fits known p at =
    let is = rules-of_region types (region - 1) p (ap (λ (l : List Rules). get_elem? l (region - 1)) (sym are) ∙ at) in
    let range = call-region call region home in
    let number : region ≡ suc (region - 1) = omega (arith, range.0) in
    subst (λ (q : Rules). Allows q call) (sym is)
    record { region = home ∙ ap (λ (n : ℕ). Some n) number; fits = fits; types = known }

-- regions that were made up to one, and the next
pub fresh-more : (types : Types) (regions new : List Region) (n : ℕ) (y : Region) → regions ≡ fresh_up_to types n
    → new ≡ regions ++ y ∷ [] → y ≡ fresh types (n + 1) → new ≡ fresh_up_to types (n + 1)
fresh-more types regions new n y are is next =
    let number : n + 1 ≡ suc n = omega arith in
    is ∙ ap (λ (l : List Region). l ++ y ∷ []) are
    ∙ ap (λ (z : Region). fresh_up_to types n ++ z ∷ []) (next ∙ ap (fresh types) number)
    ∙ ap (fresh_up_to types) (sym number)
