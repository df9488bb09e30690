-- The first heads of all parts.
use Rattle.std.proofs.Common.{◌≡◌, ℕ, ◌+◌, ◌<◌, ◌≤◌, List, [], ◌∷◌, ◌++◌, length, get_or, drop, IsPermutation, sym, ap, ◌∙◌, subst, arith}
use Rattle.std.specs.Prelude.{take}
use Rattle.std.specs.List.{AllByRecursion}
use Rattle.std.specs.declared.cmp.Reverse.{Reverse}
use Rattle.std.proofs.lemmas.List.{take_more, append-nil, nil_from_length}
use Rattle.std.proofs.lemmas.List.Concat.{flat_map-append}
use Rattle.std.proofs.lemmas.List.Sorted.{IsPermutation-refl, IsPermutation-trans, IsPermutation-append_comm, IsPermutation-append_right}
use Rattle.heap_model.specs.History.{Log}
use Rattle.clock_order.specs.declared.head.Head.{Head}
use Rattle.clock_order.specs.Parts.{entries_of}
use Rattle.clock_order.specs.Heads.{part_at, left_of, left, IsHead, AreHeads}
use Rattle.clock_order.proofs.Permuting.{all-permuted, flat_map-permutes}
use Rattle.clock_order.proofs.OnePerPart.{no-heads, heads-added, heads-permuted}
use Rattle.clock_order.proofs.Leading.{part-is}

below-more : (i : ℕ) (ys : List (Reverse Head)) → AllByRecursion (λ y. y.0.part < i) ys
    → AllByRecursion (λ y. y.0.part < i + 1) ys
below-more i [] all = tt
below-more i (y ∷ ys) all = (omega (arith, all.0), below-more i ys all.1)

entries-more : (parts : List Log) (i : ℕ) → i < length parts
    → entries_of (take (i + 1) parts) ≡ entries_of (take i parts) ++ part_at parts i
entries-more parts i below =
    let none : Log = record { entries = []; spare = 0 } in
    ap entries_of (take_more parts i none below)
    ∙ flat_map-append (λ p. p.entries) (take i parts) (get_or parts i none ∷ [])
    ∙ ap (λ es. entries_of (take i parts) ++ es) (append-nil (part_at parts i))

-- the first heads of i parts
pub record AreFirst (parts : List Log) (i : ℕ) (hs : List (Reverse Head)) : Type 0 where
  pub heads : AreHeads parts hs
  pub below : AllByRecursion (λ h. h.0.part < i) hs
  pub all : IsPermutation (entries_of (take i parts)) (left parts hs)

pub first-none : (parts : List Log) → AreFirst parts 0 []
first-none parts = record { heads = no-heads parts; below = tt; all = IsPermutation-refl [] }

pub first-empty : (parts : List Log) (i : ℕ) (p : Log) (heads : List (Reverse Head)) → i < length parts
    → p ≡ get_or parts i p → length p.entries ≤ 0 → AreFirst parts i heads → AreFirst parts (i + 1) heads
first-empty parts i p heads below is none f =
    let nil : part_at parts i ≡ [] =
    nil_from_length (part_at parts i) (omega (arith, none, ap length (part-is parts i p below is))) in
    record {
      heads = f.heads;
      below = below-more i heads f.below;
      all =
          subst (λ es. IsPermutation es (left parts heads))
          (sym (entries-more parts i below ∙ ap (λ es. entries_of (take i parts) ++ es) nil
          ∙ append-nil (entries_of (take i parts)))) f.all;
    }

pub first-more : (parts : List Log) (i : ℕ) (next : Reverse Head) (ys zs : List (Reverse Head)) → i < length parts
    → IsHead parts next.0 → next.0.part ≡ i → next.0.at ≡ 0 → IsPermutation (next ∷ ys) zs → AreFirst parts i ys
    → AreFirst parts (i + 1) zs
first-more parts i next ys zs below is same start p f = record {
  heads = heads-permuted parts (next ∷ ys) zs p (heads-added parts i next ys f.heads f.below is same);
  below =
      all-permuted (λ h. h.0.part < i + 1) (next ∷ ys) zs p
      (omega (arith, same), below-more i ys f.below);
  all =
      subst (λ es. IsPermutation es (left parts zs)) (sym (entries-more parts i below))
      (IsPermutation-trans _ _ _ (IsPermutation-append_comm (entries_of (take i parts)) (part_at parts i))
      (IsPermutation-trans _ _ _
      (IsPermutation-append_right (part_at parts i) (entries_of (take i parts)) (left parts ys) f.all)
      (IsPermutation-trans _ _ _
      (subst (λ es. IsPermutation es (left parts (next ∷ ys)))
      (ap (λ es. es ++ left parts ys) whole) (IsPermutation-refl (left parts (next ∷ ys))))
      (flat_map-permutes (λ h. left_of parts h.0) (next ∷ ys) zs p))));
}
  where
    whole : left_of parts next.0 ≡ part_at parts i
    whole = ap (λ k. drop next.0.at (part_at parts k)) same ∙ ap (λ k. drop k (part_at parts i)) start
