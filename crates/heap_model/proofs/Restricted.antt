-- A history is legal exactly where its entries are of the regions and its restriction to each is legal.
use Rattle.std.proofs.Common.{◌≡◌, ℕ, Bool, true, false, cond, List, [], ◌∷◌, Option, Some, None, unwrap_or, refl, subst, arith}
use Rattle.std.proofs.lemmas.Bool.{ltb-true}
use Rattle.std.proofs.lemmas.Option.{same_Some, none-some}
use Rattle.lowfat_regions.specs.Regions.{sizes, class_of, region_of, IsRegion}
use Rattle.slot_headers.specs.Words.{address_of}
use Rattle.heap_model.specs.Heap.{empty}
use Rattle.heap_model.specs.Answers.{Words}
use Rattle.heap_model.specs.Layouts.{Layouts}
use Rattle.heap_model.specs.Forms.{region_or_one, region_for}
use Rattle.heap_model.specs.Legal.{IsLegalFrom, InRegions, after}
use Rattle.heap_model.specs.Restricted.{RestrictionsLaw}
use Rattle.heap_model.specs.declared.calls.Call.{Call}
use Rattle.heap_model.specs.declared.calls.Call.TheVariants.{Alloc, Free, Check, Load, Store, Add}
use Rattle.heap_model.specs.declared.calls.Entry.{Entry}
use Rattle.heap_model.proofs.Apart.{is_region}
use Rattle.heap_model.proofs.RegionsLaw.{restricted, joined}

-- ---- a call is made in one of the regions

chosen : (b : Bool) (x r : ℕ) → cond b (Some x) None ≡ Some r → (b ≡ true) × (x ≡ r)
chosen true x r e = (refl, same_Some _ _ e)
chosen false x r e = absurd (none-some _ e)

class-region : (size r : ℕ) → class_of size ≡ Some r → IsRegion r
unfolding class_of sizes
class-region size r e =
    let is = chosen _ _ r e in
    let below = ltb-true _ _ is.0 in
    (omega (arith, is.1), omega (arith, is.1, below))

address-region : (address r : ℕ) → region_or_one address ≡ Some r → IsRegion r
address-region address r e = go (region_of address) refl e
  where
    go : (o : Option ℕ) → region_of address ≡ o → Some (unwrap_or o 1) ≡ Some r → IsRegion r
    go None found same = let one : 1 ≡ r = same_Some _ _ same in (omega (arith, one), omega (arith, one))
    go (Some q) found same = subst IsRegion (same_Some _ _ same) (is_region address q found)

pub call-region : (call : Call) (r : ℕ) → region_for call ≡ Some r → IsRegion r
unfolding region_for
call-region (Alloc elem size fixed) r e = class-region size r e
call-region (Free p fixed) r e = address-region (address_of p) r e
call-region (Check p want) r e = address-region (address_of p) r e
call-region (Load p reach kind) r e = address-region reach.lo r e
call-region (Store p reach kind v) r e = address-region reach.lo r e
call-region (Add p reach kind n) r e = address-region reach.lo r e

-- ---- the law

pub legal-regions : (layouts : Layouts) (h : Words) (es : List Entry) → IsLegalFrom layouts h es → InRegions es
legal-regions layouts h [] legal = tt
legal-regions layouts h (e ∷ es) legal =
    let r = call-region e.call e.region legal.0.region_is in
    (r.0, r.1, legal-regions layouts (after h e) es legal.1)

pub restrictions_law : RestrictionsLaw
restrictions_law layouts history = (
  λ legal. (legal-regions layouts empty history legal, λ r is. restricted layouts r empty history legal),
  λ parts. joined layouts empty history parts.0 (λ r low high. parts.1 r (low, high)),
)
