-- The least head's entry stands before all others that are left.
use Rattle.std.proofs.Common.{◌≡◌, ◌≢◌, ℕ, zero, suc, ◌+◌, ◌<◌, ◌≤◌, ◌==◌, ◌&&◌, ◌||◌, true, false, List, [], ◌∷◌, ◌++◌, length, get_or, drop, IsPermutation, sym, ap, ◌∙◌, subst, arith, add-one, ◌⊎◌, inl, inr}
use Rattle.std.specs.Prelude.{nat_lt, slice_get, Some}
use Rattle.std.specs.List.{All, AllPairs, AllByRecursion}
use Rattle.std.specs.Ordering.{is_lt, nat_cmp, ordering_then}
use Rattle.std.specs.BinaryHeap.{IsUpperBound}
use Rattle.std.specs.declared.cmp.Ordering.{Ordering}
use Rattle.std.specs.declared.cmp.Reverse.{Reverse}
use Rattle.std.proofs.Math.Seq.{drop-cons}
use Rattle.std.proofs.lemmas.Bool.{cases_lt}
use Rattle.std.proofs.lemmas.List.{drop_all, get_or_default}
use Rattle.std.proofs.lemmas.Option.{get_or_from_slice_get}
use Rattle.heap_model.specs.History.{Log}
use Rattle.heap_model.specs.Order.{before, StampsRise}
use Rattle.heap_model.proofs.Merge.{all-map, before-from_stamps}
use Rattle.heap_model.specs.declared.calls.Entry.{Entry}
use Rattle.clock_order.specs.declared.head.Head.{Head}
use Rattle.clock_order.specs.Parts.{entries_of, AreApart}
use Rattle.clock_order.specs.Heads.{part_at, left_of, left, IsHead, AreHeads, head_cmp, IsMoved}
use Rattle.clock_order.proofs.Permuting.{all-append, all-flat_map, flat_map-permutes}
use Rattle.clock_order.proofs.Moving.{moved-next, moved-permuted}
use Rattle.clock_order.proofs.OnePerPart.{others}

-- of two keys with other regions, the one that is not greater is the less
key-before : (s t r q : ℕ) (o : Ordering) → is_lt (ordering_then (nat_cmp t s) (ordering_then (nat_cmp q r) o)) ≡ false
    → r ≢ q → (nat_lt s t || ((s == t) && nat_lt r q)) ≡ true
key-before s t r q o least other = grind (arith, least, other)

StampsRise-drop : (k : ℕ) (es : List Entry) → StampsRise es → StampsRise (drop k es)
StampsRise-drop zero es rise = rise
StampsRise-drop (suc k) [] rise = tt
StampsRise-drop (suc k) (e ∷ es) rise = StampsRise-drop k es rise.1

-- what stands before the first of a list in which stamps rise stands before all of it
before-all : (e f : Entry) (fs : List Entry) → StampsRise (f ∷ fs) → before e f ≡ true
    → AllByRecursion (λ g. before e g ≡ true) (f ∷ fs)
before-all e f fs rise first =
    (first, all-map (λ g later. before-from_stamps e g (further g later)) fs rise.0)
  where
    further : (g : Entry) → f.stamp < g.stamp → e.stamp < g.stamp
    further g later = grind (arith, first, later)

first-before : (e f : Entry) (x y : Head) → e.stamp ≡ x.stamp → e.region ≡ x.region → f.stamp ≡ y.stamp
    → f.region ≡ y.region → e.region ≢ f.region
    → is_lt (head_cmp (record { 0 = x }) (record { 0 = y })) ≡ false → before e f ≡ true
first-before e f x y a b c d other least =
    rw (a, b, c, d) (key-before x.stamp y.stamp x.region y.region
    (ordering_then (nat_cmp y.part x.part) (nat_cmp y.at x.at)) least (λ same. other (b ∙ same ∙ sym d)))

module _ (parts : List Log) (apart : AllPairs AreApart parts) (stamps : All (λ p. StampsRise p.entries) parts) where
  part-rises : (k : ℕ) → k < length parts → StampsRise (part_at parts k)
  part-rises k below = stamps k (record { entries = []; spare = 0 }) below

  regions-apart : (i j a b : ℕ) (d : Entry) → i ≢ j → i < length parts → j < length parts
      → a < length (part_at parts i) → b < length (part_at parts j)
      → (get_or (part_at parts i) a d).region ≢ (get_or (part_at parts j) b d).region
  regions-apart i j a b d other lo hi in' within = go (cases_lt i j)
    where
      go : (i < j) ⊎ (j ≤ i) → (get_or (part_at parts i) a d).region ≢ (get_or (part_at parts j) b d).region
      go (inl first) = apart i j (record { entries = []; spare = 0 }) first hi a d in' b d within
      go (inr later) =
          let last : j < i = omega (arith, later, other) in
          λ same. apart j i (record { entries = []; spare = 0 }) last lo b d within a d in' (sym same)

  left-is : (h : Head) (d : Entry) → IsHead parts h
      → left_of parts h ≡ get_or (part_at parts h.part) h.at d ∷ drop (h.at + 1) (part_at parts h.part)
  left-is h d is = rw add-one (drop-cons (part_at parts h.part) h.at d is.below)

  head-before : (x y : Head) (e : Entry) → IsHead parts x → IsHead parts y → get_or (part_at parts x.part) x.at e ≡ e
      → y.part ≢ x.part → is_lt (head_cmp (record { 0 = x }) (record { 0 = y })) ≡ false
      → AllByRecursion (λ f. before e f ≡ true) (left_of parts y)
  head-before x y e isx isy is other least =
      let f : Entry = get_or (part_at parts y.part) y.at e in
      let regions : e.region ≢ f.region = subst (λ g. g.region ≢ f.region) is
      (regions-apart x.part y.part x.at y.at e (λ same. other (sym same)) isx.inside isy.inside isx.below isy.below) in
      let first : before e f ≡ true =
      first-before e f x y (subst (λ g. g.stamp ≡ x.stamp) is (isx.stamp e))
      (subst (λ g. g.region ≡ x.region) is (isx.region e)) (isy.stamp e) (isy.region e) regions least in
      subst (AllByRecursion (λ f. before e f ≡ true)) (sym (left-is y e isy))
      (before-all e f (drop (y.at + 1) (part_at parts y.part))
      (subst StampsRise (left-is y e isy) (StampsRise-drop y.at (part_at parts y.part) (part-rises y.part isy.inside)))
      first)

  heads-before : (x : Head) (e : Entry) (ys : List (Reverse Head)) → IsHead parts x
      → get_or (part_at parts x.part) x.at e ≡ e → AllByRecursion (λ y. IsHead parts y.0) ys
      → AllByRecursion (λ y. y.0.part ≢ x.part) ys → IsUpperBound head_cmp (record { 0 = x }) ys
      → AllByRecursion (λ y. AllByRecursion (λ f. before e f ≡ true) (left_of parts y.0)) ys
  heads-before x e [] isx is each other least = tt
  heads-before x e (y ∷ ys) isx is each other least =
      (head-before x y.0 e isx each.0 is other.0 least.0, heads-before x e ys isx is each.1 other.1 least.1)

  -- the least head's entry is done next
  pub taken : (x : Head) (e : Entry) (ys : List (Reverse Head)) (done : List Entry)
      → AreHeads parts (record { 0 = x } ∷ ys) → get_or (part_at parts x.part) x.at e ≡ e
      → IsUpperBound head_cmp (record { 0 = x }) ys
      → IsMoved (entries_of parts) (left parts (record { 0 = x } ∷ ys)) done
      → IsMoved (entries_of parts) (drop (x.at + 1) (part_at parts x.part) ++ left parts ys) (done ++ e ∷ [])
  taken x e ys done h is least m =
      let isx : IsHead parts x = h.each.0 in
      let rest : List Entry = drop (x.at + 1) (part_at parts x.part) in
      let here : left_of parts x ≡ e ∷ rest =
      left-is x e isx ∙ ap (λ g. g ∷ rest) is in
      let rises : StampsRise (e ∷ rest) =
      subst StampsRise here (StampsRise-drop x.at (part_at parts x.part) (part-rises x.part isx.inside)) in
      moved-next (entries_of parts) e (rest ++ left parts ys) done
      (subst (λ es. IsMoved (entries_of parts) (es ++ left parts ys) done) here m)
      (all-append (λ f. before e f ≡ true) rest (left parts ys)
      (all-map (λ g later. before-from_stamps e g later) rest rises.0)
      (all-flat_map (λ f. before e f ≡ true) (λ y. left_of parts y.0) ys
      (heads-before x e ys isx is h.each.1 (others parts (record { 0 = x }) ys h) least)))

-- where the part has no further entry
pub taken-last : (parts : List Log) (h : Head) (ys : List (Reverse Head)) (done : List Entry)
    → length (part_at parts h.part) ≤ h.at + 1
    → IsMoved (entries_of parts) (drop (h.at + 1) (part_at parts h.part) ++ left parts ys) done
    → IsMoved (entries_of parts) (left parts ys) done
taken-last parts h ys done end m =
    subst (λ es. IsMoved (entries_of parts) (es ++ left parts ys) done)
    (drop_all (h.at + 1) (part_at parts h.part) end) m

-- where the next head of the part was put among the others
pub taken-more : (parts : List Log) (part at : ℕ) (next : Head) (ys zs : List (Reverse Head)) (done : List Entry)
    → next.part ≡ part → next.at ≡ at → IsPermutation (record { 0 = next } ∷ ys) zs
    → IsMoved (entries_of parts) (drop at (part_at parts part) ++ left parts ys) done
    → IsMoved (entries_of parts) (left parts zs) done
taken-more parts part at next ys zs done same place p m =
    moved-permuted (entries_of parts) (left parts (record { 0 = next } ∷ ys)) (left parts zs) done
    (flat_map-permutes (λ y. left_of parts y.0) (record { 0 = next } ∷ ys) zs p)
    (subst (λ k. IsMoved (entries_of parts) (drop next.at (part_at parts k) ++ left parts ys) done) (sym same)
    (subst (λ k. IsMoved (entries_of parts) (drop k (part_at parts part) ++ left parts ys) done) (sym place) m))

-- ---- entries as the code reads them

pub part-is : (parts : List Log) (k : ℕ) (p : Log) → k < length parts → p ≡ get_or parts k p
    → p.entries ≡ part_at parts k
part-is parts k p below is = ap (λ q. q.entries) (is ∙ get_or_default parts k p (record { entries = []; spare = 0 }) below)

pub stepped : (parts : List Log) → AllPairs AreApart parts → All (λ p. StampsRise p.entries) parts → (x : Head)
    (e : Entry) (p : Log) (ys : List (Reverse Head)) (done new : List Entry) → p ≡ get_or parts x.part p
    → slice_get p.entries x.at ≡ Some e → AreHeads parts (record { 0 = x } ∷ ys)
    → IsUpperBound head_cmp (record { 0 = x }) ys
    → IsMoved (entries_of parts) (left parts (record { 0 = x } ∷ ys)) done → new ≡ done ++ e ∷ []
    → IsMoved (entries_of parts) (drop (x.at + 1) (part_at parts x.part) ++ left parts ys) new
stepped parts apart stamps x e p ys done new is reads h least m grown =
    subst (IsMoved (entries_of parts) (drop (x.at + 1) (part_at parts x.part) ++ left parts ys)) (sym grown)
    (taken parts apart stamps x e ys done h
    (subst (λ es. get_or es x.at e ≡ e) (part-is parts x.part p h.each.0.inside is) (get_or_from_slice_get p.entries x.at e e reads))
    least m)
