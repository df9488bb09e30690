-- What is kept true of the heap of a region, at first and after a call.
use Rattle.std.proofs.Common.{◌≡◌, ℕ, Bool, true, false, cond, ◌==◌, [], Option, None, Result, Ok, Err, refl, sym, ap, ◌∙◌, subst, arith, rules}
use Rattle.std.specs.Prelude.{IfOk, OnErr}
use Rattle.std.proofs.lemmas.Option.{none-some}
use Rattle.std.proofs.lemmas.Bool.Decides.{nat_tests}
use Rattle.lowfat_regions.specs.Regions.{Slot}
use Rattle.heap_model.specs.Heap.{Body, empty}
use Rattle.heap_model.specs.Answers.{Words, next}
use Rattle.heap_model.specs.State.{State, SlotState, StandsFor, fresh_slot, state_of, live_at, dead_at}
use Rattle.heap_model.specs.declared.calls.Call.{Call}
use Rattle.heap_model.specs.declared.calls.Reply.{Reply}
use Rattle.region_calls.specs.Serving.{HasPieces}
use Rattle.typed_heap.specs.Region.{IsHeapOfRegion}

-- ---- no object was made

abbrev none_made : ℕ → State
none_made region = record { region = region; states = []; resting = [] }

no-state : (region : ℕ) (t : Slot) → state_of (none_made region) t ≡ fresh_slot
no-state region t = go (t.region == region)
  where
    go : (b : Bool) → ◌≡◌ {A = SlotState} (cond b fresh_slot fresh_slot) fresh_slot
    go true = refl
    go false = refl

none-lives : (v : ℕ) → None ≡ live_at fresh_slot v
none-lives v = go (v == 0)
  where
    go : (b : Bool) → ◌≡◌ {A = Option (Body ℕ)} None (cond b None None)
    go true = refl
    go false = refl

none-dead : (v : ℕ) → false ≡ dead_at fresh_slot v
none-dead v = grind (arith, nat_tests)

pub without-objects : (region : ℕ) → IsHeapOfRegion (none_made region)
without-objects region = record {
  heap = empty;
  stands = record {
    live = λ t v. none-lives v ∙ ap (λ p. live_at p v) (sym (no-state region t));
    dead = λ t v. none-dead v ∙ ap (λ p. dead_at p v) (sym (no-state region t));
    slot_live = search rules;
    slot_made = search rules;
    region_live = refl;
    region_made = refl;
    at_rest = search rules;
  };
  pieces = λ n o e. absurd (none-some o e);
}

-- ---- after a call

pub kept-after : {E : Type 0} (r : Result Reply E) (st now : State) (call : Call) → IsHeapOfRegion st
    → IfOk r (λ reply. (worker number : ℕ) (h : Words) → StandsFor st h → StandsFor now
    (next worker number h call reply))
    → OnErr r (now ≡ st) → HasPieces now → IsHeapOfRegion now
kept-after (Ok reply) st now call k steps unchanged pieces = record {
  heap = next 0 0 k.heap call reply;
  stands = steps 0 0 k.heap k.stands;
  pieces = pieces;
}
kept-after (Err error) st now call k steps unchanged pieces =
    subst (λ (s : State). IsHeapOfRegion s) (sym unchanged) k
