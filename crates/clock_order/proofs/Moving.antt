-- An entry that stands before all others that are left is done next.
use Rattle.std.proofs.Common.{◌≡◌, ◌≤◌, true, length, arith, length-append, List, [], ◌∷◌, ◌++◌, IsPermutation, sym, subst, append_assoc}
use Rattle.std.specs.List.{AllByRecursion}
use Rattle.std.proofs.lemmas.List.Sorted.{IsPermutation-trans, IsPermutation-append_right, length_permutation}
use Rattle.heap_model.specs.Order.{before, Rises}
use Rattle.heap_model.proofs.Merge.{all-map}
use Rattle.heap_model.specs.declared.calls.Entry.{Entry}
use Rattle.clock_order.specs.Heads.{IsMoved}
use Rattle.clock_order.proofs.Permuting.{all-append, all-permuted}

Rises-push : (done : List Entry) (e : Entry) → Rises done → AllByRecursion (λ d. before d e ≡ true) done
    → Rises (done ++ e ∷ [])
Rises-push [] e rise ahead = (tt, tt)
Rises-push (d ∷ ds) e rise ahead =
    (all-append (λ f. before d f ≡ true) ds (e ∷ []) rise.0 (ahead.0, tt), Rises-push ds e rise.1 ahead.1)

pub moved-start : (all rest : List Entry) → IsPermutation all rest → IsMoved all rest []
moved-start all rest p = record { moved = p; rises = tt; ahead = tt }

pub moved-permuted : (all rest left done : List Entry) → IsPermutation rest left → IsMoved all rest done
    → IsMoved all left done
moved-permuted all rest left done p m = record {
  moved = IsPermutation-trans _ _ _ m.moved (IsPermutation-append_right done rest left p);
  rises = m.rises;
  ahead = all-map (λ d before. all-permuted _ rest left p before) done m.ahead;
}

pub moved-next : (all : List Entry) (e : Entry) (rest done : List Entry) → IsMoved all (e ∷ rest) done
    → AllByRecursion (λ f. before e f ≡ true) rest → IsMoved all rest (done ++ e ∷ [])
moved-next all e rest done m leads = record {
  moved = subst (IsPermutation all) (sym (append_assoc done (e ∷ []) rest)) m.moved;
  rises = Rises-push done e m.rises (all-map (λ d ahead. ahead.0) done m.ahead);
  ahead =
      all-append (λ d. AllByRecursion (λ f. before d f ≡ true) rest) done (e ∷ [])
      (all-map (λ d ahead. ahead.1) done m.ahead) (leads, tt);
}

pub moved-length : (all rest done : List Entry) → IsMoved all rest done → length done ≤ length all
moved-length all rest done m =
    omega (arith, length_permutation all (done ++ rest) m.moved, length-append done rest)
