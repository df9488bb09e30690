-- The heap of a region.
use Rattle.std.proofs.Common.{◌≡◌, ◌≢◌, ℕ, zero, suc, ◌+◌, ◌-◌, ◌<◌, ◌≤◌, Bool, true, false, cond, List, [], ◌∷◌, ◌++◌, length, get_or, set, Option, Some, None, Result, Ok, Err, IfOk, refl, sym, ap, ◌∙◌, subst, arith, ◌⊎◌, inl, inr, get_or-set_same, get_or-set_other}
use Rattle.std.proofs.Math.ListN.{get_or-append}
use Rattle.std.proofs.Math.Seq.{get_or-append_seam}
use Rattle.std.proofs.lemmas.List.{get_or_default}
use Rattle.std.proofs.lemmas.Bool.{cases_eq}
use Rattle.heap_model.specs.Answers.{Words, next}
use Rattle.heap_model.specs.Forms.{suits_call}
use Rattle.heap_model.specs.Legal.{Answers}
use Rattle.heap_model.specs.Layouts.{Layouts}
use Rattle.heap_model.specs.State.{State, StandsFor}
use Rattle.heap_model.specs.declared.calls.Reply.{Reply}
use Rattle.region_calls.specs.Serving.{KnowsElements}
use Rattle.region_heaps.specs.Regions.{IsEmptyHeap, Steps, heap_of, no_heap}
use Rattle.heap_model.specs.declared.calls.Call.{Call}

-- ---- one heap more

heap_of-push : (heaps : List State) (heap : State) (r : ℕ) → 1 ≤ r → r ≤ length heaps → heap_of (heaps ++ heap ∷ []) r ≡ heap_of heaps r
heap_of-push heaps heap zero low high = absurd (omega arith)
heap_of-push heaps heap (suc n) low high = get_or-append heaps (heap ∷ []) no_heap n (omega arith)

heap_of-last : (heaps : List State) (heap : State) (r : ℕ) → length heaps + 1 ≡ r → heap_of (heaps ++ heap ∷ []) r ≡ heap
heap_of-last heaps heap zero e = absurd (omega arith)
heap_of-last heaps heap (suc n) e =
    let n_is : length heaps ≡ n = omega arith in
    let P : ℕ → Type 0 = λ k. get_or (heaps ++ heap ∷ []) k no_heap ≡ heap in
    subst P n_is (get_or-append_seam heaps heap [] no_heap)

pub each-push : (heaps : List State) (heap : State) (r : ℕ) → length heaps + 1 ≡ r
    → ((q : ℕ) → 1 ≤ q → q < r → IsEmptyHeap (heap_of heaps q) q) → IsEmptyHeap heap r
    → (q : ℕ) → 1 ≤ q → q < r + 1 → IsEmptyHeap (heap_of (heaps ++ heap ∷ []) q) q
each-push heaps heap r count below here q low high = go (cases_eq q r)
  where
    go : (q ≡ r) ⊎ (q ≡ r → ⊥) → IsEmptyHeap (heap_of (heaps ++ heap ∷ []) q) q
    go (inl same) =
        let P : ℕ → Type 0 = λ k. IsEmptyHeap (heap_of (heaps ++ heap ∷ []) k) k in
        subst P (sym same) (subst (λ h. IsEmptyHeap h r) (sym (heap_of-last heaps heap r count)) here)
    go (inr other) =
        let apart : q ≢ r = other in
        let below_r : q < r = omega arith in
        let high' : q ≤ length heaps = omega arith in
        subst (λ h. IsEmptyHeap h q) (sym (heap_of-push heaps heap q low high')) (below q low below_r)

-- ---- one heap changed

pub heap_of-index : (heaps : List State) (r : ℕ) (d : State) → 1 ≤ r → r ≤ length heaps → get_or heaps (r - 1) d ≡ heap_of heaps r
heap_of-index heaps zero d low high = absurd (omega arith)
heap_of-index heaps (suc n) d low high =
    let place : suc n - 1 ≡ n = omega arith in
    ap (λ k. get_or heaps k d) place ∙ get_or_default heaps n d no_heap (omega arith)

heap_of-set : (heaps : List State) (r : ℕ) (heap : State) → 1 ≤ r → r ≤ length heaps → heap_of (set heaps (r - 1) heap) r ≡ heap
heap_of-set heaps zero heap low high = absurd (omega arith)
heap_of-set heaps (suc n) heap low high =
    let place : suc n - 1 ≡ n = omega arith in
    ap (λ k. get_or (set heaps k heap) n no_heap) place ∙ get_or-set_same heaps n heap no_heap (omega arith)

heap_of-set_other : (heaps : List State) (r q : ℕ) (heap : State) → 1 ≤ r → q ≢ r → heap_of (set heaps (r - 1) heap) q ≡ heap_of heaps q
heap_of-set_other heaps r zero heap low apart = refl
heap_of-set_other heaps r (suc m) heap low apart =
    let other : m ≢ r - 1 = omega arith in
    get_or-set_other heaps (r - 1) m heap no_heap other

-- what the heap of a region does, as a step of all heaps
module _ (layouts : Layouts) (heaps : List State) (r : ℕ) (call : Call) (was now : State)
    (low : 1 ≤ r) (high : r ≤ length heaps) (was_is : was ≡ heap_of heaps r) (region_is : (heap_of heaps r).region ≡ r)
    (elements : KnowsElements layouts now) (same_region : now.region ≡ was.region) where
  here : heap_of (set heaps (r - 1) now) r ≡ now
  here = heap_of-set heaps r now low high

  region_was : was.region ≡ r
  region_was = ap (λ h. h.region) was_is ∙ region_is

  stood : (h : Words) → StandsFor (heap_of heaps r) h → StandsFor was h
  stood h stands = subst (λ s. StandsFor s h) (sym was_is) stands

  pub steps-from : {E : Type 0} (result : Result Reply E)
      → IfOk result (λ reply. (h : Words) → StandsFor was h → Answers layouts h was.region call reply)
      → IfOk result (λ reply. (worker number : ℕ) (h : Words) → StandsFor was h → StandsFor now (next worker number h call reply))
      → IfOk result (λ reply. suits_call call reply ≡ true)
      → IfOk result (λ reply. Steps layouts heaps (set heaps (r - 1) now) r call reply)
  steps-from (Err e) answers nexts suits = tt
  steps-from (Ok reply) answers nexts suits = record {
    others = λ q apart. heap_of-set_other heaps r q now low apart;
    region_is = ap (λ h. h.region) here ∙ same_region ∙ region_was;
    answers = λ h stands. subst (λ q. Answers layouts h q call reply) region_was (answers h (stood h stands));
    next = λ worker number h stands. subst (λ s. StandsFor s (next worker number h call reply)) (sym here) (nexts worker number h (stood h stands));
    elements = subst (KnowsElements layouts) (sym here) elements;
    suits = suits;
  }
