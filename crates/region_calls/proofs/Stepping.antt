-- Each kind of call, as one step.
use Rattle.std.proofs.Common.{◌≡◌, ℕ, Bool, true, Result, Ok, Err, refl, sym, ◌∙◌, subst}
use Rattle.std.specs.Prelude.{IfOk, OnErr}
use Rattle.heap_model.specs.Cells.{Adds, Loads, Stores}
use Rattle.heap_model.specs.Answers.{Words, access, answer_by, datum, next}
use Rattle.heap_model.specs.Legal.{Answers, knows_types}
use Rattle.heap_model.specs.Layouts.{Layouts}
use Rattle.heap_model.specs.State.{State, StandsFor, live_by, dead_by}
use Rattle.heap_model.proofs.State.{answer-same}
use Rattle.heap_model.specs.declared.calls.AccessKind.{AccessKind}
use Rattle.heap_model.specs.declared.calls.Reach.{Reach}
use Rattle.heap_model.specs.declared.calls.Value.{Value}
use Rattle.heap_model.specs.declared.calls.Call.{Call}
use Rattle.heap_model.specs.declared.calls.Call.TheVariants.{Free, Check, Load, Store, Add}
use Rattle.heap_model.specs.declared.calls.Reply.{Reply}
use Rattle.region_calls.specs.Serving.{KnowsElements, HasPieces, IsServed}

module _ (layouts : Layouts) (st : State) (h : Words) (stands : StandsFor st h) (r : ℕ) (reply : Reply) where
  pub free-answers : (p : ℕ) (fixed : Bool) → reply ≡ answer_by layouts (live_by st) (dead_by st) (Free p fixed)
      → Answers layouts h r (Free p fixed) reply
  unfolding Answers
  free-answers p fixed e = e ∙ sym (answer-same st h stands layouts (Free p fixed))

  pub check-answers : (p want : ℕ) → reply ≡ answer_by layouts (live_by st) (dead_by st) (Check p want)
      → Answers layouts h r (Check p want) reply
  unfolding Answers
  check-answers p want e = e ∙ sym (answer-same st h stands layouts (Check p want))

  pub load-answers : (p : ℕ) (reach : Reach) (kind : AccessKind) → reply ≡ access (live_by st) p reach kind Loads
      → Answers layouts h r (Load p reach kind) reply
  unfolding Answers answer_by
  load-answers p reach kind e = e ∙ sym (answer-same st h stands layouts (Load p reach kind))

  pub store-answers : (p : ℕ) (reach : Reach) (kind : AccessKind) (v : Value)
      → reply ≡ access (live_by st) p reach kind (Stores (datum v)) → Answers layouts h r (Store p reach kind v) reply
  unfolding Answers answer_by
  store-answers p reach kind v e = e ∙ sym (answer-same st h stands layouts (Store p reach kind v))

  pub add-answers : (p : ℕ) (reach : Reach) (kind : AccessKind) (n : ℕ)
      → reply ≡ access (live_by st) p reach kind (Adds n) → Answers layouts h r (Add p reach kind n) reply
  unfolding Answers answer_by
  add-answers p reach kind n e = e ∙ sym (answer-same st h stands layouts (Add p reach kind n))

-- a check and a load leave the heap
pub check-next : (p want worker number : ℕ) (h : Words) (reply : Reply) → h ≡ next worker number h (Check p want) reply
unfolding next
check-next p want worker number h reply = refl

pub load-next : (p : ℕ) (reach : Reach) (kind : AccessKind) (worker number : ℕ) (h : Words) (reply : Reply)
    → h ≡ next worker number h (Load p reach kind) reply
unfolding next
load-next p reach kind worker number h reply = refl

-- ---- what is known after a call that may be out of memory

module _ {E : Type 0} (r : Result Reply E) (st now : State) (call : Call)
    (served : IfOk r (λ reply. IsServed st now call reply)) (unchanged : OnErr r (now ≡ st)) where
  pub elements-after : (layouts : Layouts) → knows_types layouts call ≡ true → KnowsElements layouts st
      → KnowsElements layouts now
  elements-after layouts types known = go r served unchanged
    where
      go : (r : Result Reply E) → IfOk r (λ reply. IsServed st now call reply) → OnErr r (now ≡ st)
          → KnowsElements layouts now
      go (Ok reply) s u = s.elements layouts types known
      go (Err error) s u = subst (λ (s : State). KnowsElements layouts s) (sym u) known

  pub pieces-after : HasPieces st → HasPieces now
  pieces-after pieces = go r served unchanged
    where
      go : (r : Result Reply E) → IfOk r (λ reply. IsServed st now call reply) → OnErr r (now ≡ st) → HasPieces now
      go (Ok reply) s u = s.pieces pieces
      go (Err error) s u = subst (λ (s : State). HasPieces s) (sym u) pieces
