-- What is kept true from one call to the next.
use Rattle.std.proofs.Common.{◌≡◌, ◌≢◌, ℕ, ◌+◌, true, List, [], ◌∷◌, ◌++◌, length, Some, refl, sym, ap, ◌∙◌, subst, arith, ◌⊎◌, inl, inr, length-append}
use Rattle.std.proofs.lemmas.Bool.{cases_eq}
use Rattle.heap_model.specs.Forms.{fits_call, region_for}
use Rattle.heap_model.specs.Layouts.{Layouts}
use Rattle.heap_model.specs.Legal.{knows_types, of_region, own}
use Rattle.heap_model.specs.State.{State}
use Rattle.heap_model.specs.declared.calls.Entry.{Entry}
use Rattle.heap_model.proofs.Restricted.{call-region}
use Rattle.typed_heap.specs.Histories.{IsHeapOf}
use Rattle.typed_heap.proofs.Histories.{without-entries, with-entry}
use Rattle.region_heaps.specs.Kept.{Keeps}
use Rattle.region_heaps.specs.Regions.{AreEmpty, Steps, heap_of}
use Rattle.region_heaps.proofs.Pushed.{of_region-push_here, of_region-push_there, own-push_here, own-push_there, StampsFrom-push, InRegions-push, IsWellNumbered-push}

-- ---- at first

pub Keeps-none : (layouts : Layouts) (heaps : List State) (counts : ℕ → ℕ) → length heaps ≡ 27 → AreEmpty heaps 27
    → ((w : ℕ) → counts w ≡ 0) → Keeps layouts heaps counts []
Keeps-none layouts heaps counts count are_empty none = record {
  count = count;
  each = λ r low high.
      let heap = are_empty r low high in
      without-entries layouts (heap_of heaps r) r heap.region_is heap.states heap.stands;
  counts_are = none;
  numbered = λ w. tt;
  stamps = tt;
  in_regions = tt;
}

-- ---- where nothing was added

pub Keeps-along : {layouts : Layouts} {heaps : List State} {counts : ℕ → ℕ} {history : List Entry}
    → Keeps layouts heaps counts history
    → (heaps' : List State) → heaps' ≡ heaps
    → (counts' : ℕ → ℕ) → ((w : ℕ) → counts' w ≡ counts w)
    → (history' : List Entry) → history' ≡ history → Keeps layouts heaps' counts' history'
Keeps-along {layouts} {heaps} {counts} {history} keeps heaps' same_heaps counts' same_counts history' same_history =
    let P : List State → Type 0 = λ hs. Keeps layouts hs counts' history' in
    let Q : List Entry → Type 0 = λ es. Keeps layouts heaps counts' es in
    subst P (sym same_heaps) (subst Q (sym same_history) (record {
      count = keeps.count;
      each = keeps.each;
      counts_are = λ w. same_counts w ∙ keeps.counts_are w;
      numbered = keeps.numbered;
      stamps = keeps.stamps;
      in_regions = keeps.in_regions;
    }))

-- ---- after a call

module _ (layouts : Layouts) (old new : List State) (history : List Entry) (e : Entry)
    (home : region_for e.call ≡ Some e.region) (fits : fits_call e.call ≡ true) (known : knows_types layouts e.call ≡ true)
    (steps : Steps layouts old new e.region e.call e.reply) where
  here : IsHeapOf layouts (heap_of old e.region) e.region (of_region e.region history)
      → IsHeapOf layouts (heap_of new e.region) e.region (of_region e.region (history ++ e ∷ []))
  here was =
      subst (IsHeapOf layouts (heap_of new e.region) e.region) (sym (of_region-push_here history e e.region refl))
      (with-entry layouts (heap_of old e.region) (heap_of new e.region) (of_region e.region history) e home fits known
      steps.answers steps.next steps.elements steps.region_is was)

  there : (r : ℕ) → (e.region ≡ r → ⊥) → IsHeapOf layouts (heap_of old r) r (of_region r history) → IsHeapOf layouts (heap_of new r) r (of_region r (history ++ e ∷ []))
  there r other was =
      subst (IsHeapOf layouts (heap_of new r) r) (sym (of_region-push_there history e r other))
      (subst (λ heap. IsHeapOf layouts heap r (of_region r history)) (sym (steps.others r (λ same. other (sym same)))) was)

  each : (r : ℕ) → IsHeapOf layouts (heap_of old r) r (of_region r history) → IsHeapOf layouts (heap_of new r) r (of_region r (history ++ e ∷ []))
  each r was = go (cases_eq e.region r)
    where
      go : (e.region ≡ r) ⊎ (e.region ≡ r → ⊥) → IsHeapOf layouts (heap_of new r) r (of_region r (history ++ e ∷ []))
      go (inl same) =
          let P : ℕ → Type 0 = λ q. IsHeapOf layouts (heap_of old q) q (of_region q history) → IsHeapOf layouts (heap_of new q) q (of_region q (history ++ e ∷ [])) in
          subst P same here was
      go (inr other) = there r other was

  module _ (counts counts' : ℕ → ℕ) (one_more : counts' e.worker ≡ counts e.worker + 1) (others : (w : ℕ) → w ≢ e.worker → counts' w ≡ counts w) where
    counted : ((w : ℕ) → counts w ≡ length (own history w)) → (w : ℕ) → counts' w ≡ length (own (history ++ e ∷ []) w)
    counted was w = go (cases_eq e.worker w)
      where
        go : (e.worker ≡ w) ⊎ (e.worker ≡ w → ⊥) → counts' w ≡ length (own (history ++ e ∷ []) w)
        go (inl same) =
            let more : counts' w ≡ counts w + 1 = subst (λ v. counts' v ≡ counts v + 1) same one_more in
            more ∙ ap (λ n. n + 1) (was w) ∙ sym (ap length (own-push_here history e w same) ∙ length-append (own history w) (e ∷ []))
        go (inr other) = others w (λ same. other (sym same)) ∙ was w ∙ sym (ap length (own-push_there history e w other))

    pub Keeps-push : Keeps layouts old counts history → length new ≡ length old → e.number ≡ counts e.worker → e.stamp ≡ length history + 1
        → Keeps layouts new counts' (history ++ e ∷ [])
    Keeps-push keeps as_many number stamp =
        let range = call-region e.call e.region home in
        record {
          count = as_many ∙ keeps.count;
          each = λ r low high. each r (keeps.each r low high);
          counts_are = counted keeps.counts_are;
          numbered = IsWellNumbered-push history e keeps.numbered (number ∙ keeps.counts_are e.worker);
          stamps = StampsFrom-push 1 history e keeps.stamps (omega (arith, stamp));
          in_regions = InRegions-push history e keeps.in_regions range.0 range.1;
        }
