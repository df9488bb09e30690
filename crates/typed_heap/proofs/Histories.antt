-- The heap of a region stays that of its entries.
use Rattle.std.proofs.Common.{◌≡◌, ℕ, true, List, [], ◌∷◌, ◌++◌, Some, sym, ap, ◌∙◌, subst}
use Rattle.std.proofs.lemmas.Option.{none-some}
use Rattle.heap_model.specs.Answers.{Words, next}
use Rattle.heap_model.specs.Forms.{fits_call, region_for}
use Rattle.heap_model.specs.Heap.{empty}
use Rattle.heap_model.specs.Layouts.{Layouts}
use Rattle.heap_model.specs.Legal.{Answers, Meets, knows_types, replay}
use Rattle.heap_model.specs.State.{State, SlotState, StandsFor}
use Rattle.heap_model.specs.declared.calls.Entry.{Entry}
use Rattle.heap_model.proofs.Push.{IsLegal-push, replay-push}
use Rattle.object_slots.specs.SlotStates.{state_at}
use Rattle.region_calls.specs.Serving.{KnowsElements}
use Rattle.typed_heap.specs.Histories.{IsHeapOf}

-- ---- no call was made

no-elements : (layouts : Layouts) (heap : State) → heap.states ≡ [] → KnowsElements layouts heap
no-elements layouts heap none n object is =
    absurd (none-some _ (sym (ap (λ (states : List SlotState). (state_at states n).body) none) ∙ is))

pub without-entries : (layouts : Layouts) (heap : State) (region : ℕ) → heap.region ≡ region → heap.states ≡ []
    → StandsFor heap empty → IsHeapOf layouts heap region []
without-entries layouts heap region region_is none stands =
    record { region_is = region_is; legal = tt; stands = stands; elements = no-elements layouts heap none }

-- ---- one call more

pub with-entry : (layouts : Layouts) (old now : State) (history : List Entry) (e : Entry)
    → region_for e.call ≡ Some e.region → fits_call e.call ≡ true → knows_types layouts e.call ≡ true
    → ((h : Words) → StandsFor old h → Answers layouts h e.region e.call e.reply)
    → ((worker number : ℕ) (h : Words) → StandsFor old h → StandsFor now (next worker number h e.call e.reply))
    → KnowsElements layouts now → now.region ≡ e.region
    → IsHeapOf layouts old e.region history → IsHeapOf layouts now e.region (history ++ e ∷ [])
with-entry layouts old now history e home fits types answers nexts elements region_is was =
    let meets : Meets layouts (replay empty history) e =
    record { fits = fits; types = types; region_is = home; answers = answers (replay empty history) was.stands } in
    record {
      region_is = region_is;
      legal = IsLegal-push layouts empty history e was.legal meets;
      stands =
          subst (StandsFor now) (sym (replay-push empty history e))
          (nexts e.worker e.number (replay empty history) was.stands);
      elements = elements;
    }
