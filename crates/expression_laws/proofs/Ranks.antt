-- Promoted types and common types (C11 6.3.1.1p2, 6.3.1.8): int, unsigned int, long and unsigned long.
use Rattle.std.proofs.Common.{◌≡◌, ℕ, Bool, true, false, refl, ap, ◌∙◌}
use Rattle.whole_numbers.specs.Types as w
use Rattle.whole_numbers.specs.declared.types.Width.{Width}
use Rattle.whole_numbers.specs.declared.types.Width.TheVariants.{One, Two, Four, Eight}
use Rattle.whole_numbers.specs.declared.types.WholeType.{WholeType}
use Rattle.well_typed.specs.Kinds.{whole, whole_type, number_of, promoted, usual}
use Rattle.well_typed.specs.Surroundings.{IsWhole, IsPromoted}

-- the types that the promotions leave
data IsRank : WholeType → Type 0 where
  int : IsRank (whole Four true)
  unsigned_int : IsRank (whole Four false)
  long : IsRank (whole Eight true)
  unsigned_long : IsRank (whole Eight false)

by_width : (width : Width) (signed : Bool) → whole_type (number_of (whole width signed)) ≡ whole width signed
by_width One true = refl
by_width One false = refl
by_width Two true = refl
by_width Two false = refl
by_width Four true = refl
by_width Four false = refl
by_width Eight true = refl
by_width Eight false = refl

-- the number of a type stands for it
type_of_number : (type : WholeType) → whole_type (number_of type) ≡ type
type_of_number type = by_width type.width type.signed

number_is_whole_by : (width : Width) (signed : Bool) → IsWhole (number_of (whole width signed))
number_is_whole_by One true = refl
number_is_whole_by One false = refl
number_is_whole_by Two true = refl
number_is_whole_by Two false = refl
number_is_whole_by Four true = refl
number_is_whole_by Four false = refl
number_is_whole_by Eight true = refl
number_is_whole_by Eight false = refl

number_is_whole : (type : WholeType) → IsWhole (number_of type)
number_is_whole type = number_is_whole_by type.width type.signed

promoted_by : (width : Width) (signed : Bool) → IsRank (w.promoted (whole width signed))
promoted_by One true = int
promoted_by One false = int
promoted_by Two true = int
promoted_by Two false = int
promoted_by Four true = int
promoted_by Four false = unsigned_int
promoted_by Eight true = long
promoted_by Eight false = unsigned_long

promoted_rank : (type : WholeType) → IsRank (w.promoted type)
promoted_rank type = promoted_by type.width type.signed

rank_stays : {type : WholeType} → IsRank type → w.promoted type ≡ type
rank_stays int = refl
rank_stays unsigned_int = refl
rank_stays long = refl
rank_stays unsigned_long = refl

usual_rank : {a b : WholeType} → IsRank a → IsRank b → IsRank (w.usual a b)
usual_rank int int = int
usual_rank int unsigned_int = unsigned_int
usual_rank int long = long
usual_rank int unsigned_long = unsigned_long
usual_rank unsigned_int int = unsigned_int
usual_rank unsigned_int unsigned_int = unsigned_int
usual_rank unsigned_int long = long
usual_rank unsigned_int unsigned_long = unsigned_long
usual_rank long int = long
usual_rank long unsigned_int = long
usual_rank long long = long
usual_rank long unsigned_long = unsigned_long
usual_rank unsigned_long int = unsigned_long
usual_rank unsigned_long unsigned_int = unsigned_long
usual_rank unsigned_long long = unsigned_long
usual_rank unsigned_long unsigned_long = unsigned_long

usual_again : {a b : WholeType} → IsRank a → IsRank b → w.usual a (w.usual a b) ≡ w.usual a b
usual_again int int = refl
usual_again int unsigned_int = refl
usual_again int long = refl
usual_again int unsigned_long = refl
usual_again unsigned_int int = refl
usual_again unsigned_int unsigned_int = refl
usual_again unsigned_int long = refl
usual_again unsigned_int unsigned_long = refl
usual_again long int = refl
usual_again long unsigned_int = refl
usual_again long long = refl
usual_again long unsigned_long = refl
usual_again unsigned_long int = refl
usual_again unsigned_long unsigned_int = refl
usual_again unsigned_long long = refl
usual_again unsigned_long unsigned_long = refl

common_rank : (a b : WholeType) → IsRank (w.common a b)
unfolding w.common
common_rank a b = usual_rank (promoted_rank a) (promoted_rank b)

common_again : (a b : WholeType) → w.common a (w.common a b) ≡ w.common a b
unfolding w.common
common_again a b =
    ap (w.usual (w.promoted a)) (rank_stays (usual_rank (promoted_rank a) (promoted_rank b))) ∙
    usual_again (promoted_rank a) (promoted_rank b)

-- ---- by numbers

rank_is_promoted : (type : WholeType) → IsRank type → IsPromoted (number_of type)
unfolding promoted
rank_is_promoted type rank = (
  number_is_whole type,
  ap (λ t. number_of (w.promoted t)) (type_of_number type) ∙ ap number_of (rank_stays rank),
)

pub promoted_is : (kind : ℕ) → IsPromoted (promoted kind)
unfolding promoted
promoted_is kind = rank_is_promoted (w.promoted (whole_type kind)) (promoted_rank (whole_type kind))

pub usual_is : (a b : ℕ) → IsPromoted (usual a b)
unfolding usual
usual_is a b = rank_is_promoted (w.common (whole_type a) (whole_type b)) (common_rank (whole_type a) (whole_type b))

-- the common type of a type and a common type of it
pub usual_absorbs : (a b : ℕ) → usual a (usual a b) ≡ usual a b
unfolding usual
usual_absorbs a b =
    ap (λ t. number_of (w.common (whole_type a) t)) (type_of_number (w.common (whole_type a) (whole_type b))) ∙
    ap number_of (common_again (whole_type a) (whole_type b))
