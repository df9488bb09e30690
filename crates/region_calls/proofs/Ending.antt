-- What a call leaves that ends an object or does nothing, and what holds of all live objects after a change.
use Rattle.std.proofs.Common.{◌≡◌, ℕ, ◌<◌, ◌≤◌, Bool, true, false, cond, ◌==◌, List, [], ◌∷◌, ◌++◌, length, set, Option, Some, None, refl, sym, ap, ◌∙◌, subst, arith}
use Rattle.std.specs.Prelude.{nat_lt, is_some}
use Rattle.std.proofs.lemmas.Bool.{eq-eqb, eqb-false, ltb-true}
use Rattle.free_slots.specs.Slots.{last_resting}
use Rattle.lowfat_regions.specs.Regions.{Slot, slots}
use Rattle.slot_headers.specs.Words.{address_of, version_of}
use Rattle.slot_headers.specs.Cells.{Cell}
use Rattle.heap_model.specs.Heap.{Body, with_dead}
use Rattle.heap_model.specs.Answers.{Words, names, is_at, next}
use Rattle.heap_model.specs.Forms.{suits_call}
use Rattle.heap_model.specs.Pieces.{HasWholePieces}
use Rattle.heap_model.specs.State.{State, StandsFor, ChangesSlot, SlotState, fresh_slot, state_of, live_at, live_by}
use Rattle.heap_model.specs.declared.calls.Call.{Call}
use Rattle.heap_model.specs.declared.calls.Call.TheVariants.{Alloc, Free, Check, Load, Store, Add}
use Rattle.heap_model.specs.declared.calls.Reply.TheVariants.{NoSlot, Done, Report}
use Rattle.heap_model.specs.declared.calls.ReportKind.{ReportKind}
use Rattle.heap_model.proofs.State.{stands-died}
use Rattle.object_slots.proofs.Taking.{set-at}
use Rattle.object_slots.specs.declared.facts.Facts.{Facts}
use Rattle.object_slots.specs.SlotStates.{state_at, next_object, without_object, with_object, with_cells_of}
use Rattle.region_calls.specs.declared.naming.NamedObject.{NamedObject}
use Rattle.region_calls.specs.declared.naming.NamedObject.TheVariants.{Nothing, Dead, Live}
use Rattle.region_calls.specs.Naming.{NamesLive, Names, nth_slot}
use Rattle.region_calls.specs.Serving.{IsServed}
use Rattle.region_calls.proofs.Standing.{here, changed-set, push-at}
use Rattle.region_calls.proofs.Freeing.{null-frees-nothing}

-- what is no live object
pub not-live : (st : State) (anchor word : ℕ) (named : NamedObject) → Names st anchor word named
    → ((n : ℕ) (facts : Facts) → named ≡ Live n facts → ⊥) → live_by st anchor word ≡ None
not-live st anchor word Nothing names none = names.live
not-live st anchor word (Dead n) names none = names.live
not-live st anchor word (Live n facts) names none = absurd (none n facts refl)

pub same-some : (a b : Body ℕ) → ◌≡◌ {A = Option (Body ℕ)} (Some a) (Some b) → a ≡ b
same-some a b e = cc

-- the object of a slot that has one
pub live-some : (o : Option (Body ℕ)) → is_some o ≡ true → (b : Body ℕ) × (o ≡ Some b)
live-some None e = cc
live-some (Some b) e = (b, refl)

-- ---- what holds of all live objects

abbrev pub HoldsIn : (Body ℕ → Type 0) → List SlotState → Type 0
HoldsIn P states = (n : ℕ) (o : Body ℕ) → (state_at states n).body ≡ Some o → P o

module _ (P : Body ℕ → Type 0) where
  holds-by : (old states : List SlotState) (n : ℕ) (p : SlotState)
      → ((m : ℕ) → state_at states m ≡ cond (m == n) p (state_at old m))
      → ((o : Body ℕ) → p.body ≡ Some o → P o) → HoldsIn P old → HoldsIn P states
  holds-by old states n p at new known m o is = go (m == n) (ap (λ p. p.body) (sym (at m)) ∙ is)
    where
      go : (b : Bool) → (cond b p (state_at old m)).body ≡ Some o → P o
      go true e = new o e
      go false e = known m o e

  pub holds-without : (states : List SlotState) (n : ℕ) → n < length states → HoldsIn P states
      → HoldsIn P (set states n (without_object (state_at states n)))
  holds-without states n below known =
      holds-by states (set states n (without_object (state_at states n))) n (without_object (state_at states n))
      (set-at states n (without_object (state_at states n)) below) (λ o e. absurd (none-is o e)) known
    where
      none-is : (o : Body ℕ) → ◌≡◌ {A = Option (Body ℕ)} None (Some o) → ⊥
      none-is o e = cc

  some-holds : (a b : Body ℕ) → P a → ◌≡◌ {A = Option (Body ℕ)} (Some a) (Some b) → P b
  some-holds a b here e = subst P (same-some a b e) here

  pub holds-cells : (states : List SlotState) (n : ℕ) (o : Body ℕ) (cells : List (Cell ℕ)) → n < length states
      → P (record { elem = o.elem; fixed = o.fixed; cells = cells }) → HoldsIn P states
      → HoldsIn P (set states n (with_cells_of (state_at states n) o cells))
  holds-cells states n o cells below new known =
      holds-by states (set states n (with_cells_of (state_at states n) o cells)) n
      (with_cells_of (state_at states n) o cells)
      (set-at states n (with_cells_of (state_at states n) o cells) below)
      (λ b e. some-holds (record { elem = o.elem; fixed = o.fixed; cells = cells }) b new e) known

  pub holds-object : (states : List SlotState) (n : ℕ) (o : Body ℕ) → n ≤ length states → P o → HoldsIn P states
      → HoldsIn P (with_object states n o)
  holds-object states n o next here known = go (nat_lt n (length states)) refl
    where
      go : (b : Bool) → nat_lt n (length states) ≡ b
          → HoldsIn P (cond b (set states n (next_object (state_at states n) o))
          (states ++ next_object fresh_slot o ∷ []))
      go true e =
          holds-by states (set states n (next_object (state_at states n) o)) n (next_object (state_at states n) o)
          (set-at states n (next_object (state_at states n) o) (ltb-true _ _ e)) (λ b. some-holds o b here) known
      go false e =
          holds-by states (states ++ next_object fresh_slot o ∷ []) (length states) (next_object fresh_slot o)
          (push-at states (next_object fresh_slot o)) (λ b. some-holds o b here) known

-- ---- nothing is done

-- a report leaves the heap
stays : (call : Call) (report : ReportKind) (worker number : ℕ) (h : Words)
    → next worker number h call (Report report) ≡ h
unfolding next
stays (Alloc elem size fixed) report worker number h = refl
stays (Free p fixed) report worker number h = refl
stays (Check p want) report worker number h = refl
stays (Load p reach kind) report worker number h = refl
stays (Store p reach kind v) report worker number h = refl
stays (Add p reach kind n) report worker number h = refl

pub served-report : (st : State) (call : Call) (report : ReportKind) → suits_call call (Report report) ≡ true
    → IsServed st st call (Report report)
served-report st call report suits = record {
  next = λ worker number h stands. subst (λ (g : Words). StandsFor st g)
      (sym (stays call report worker number h)) stands;
  suits = λ pieces. suits;
  elements = λ layouts types known. known;
  pieces = λ pieces. pieces;
  region = refl;
}

pub served-full : (st : State) (elem size : ℕ) (fixed : Bool) → IsServed st st (Alloc elem size fixed) NoSlot
unfolding next
served-full st elem size fixed = record {
  next = λ worker number h stands. stands;
  suits = λ pieces. refl;
  elements = λ layouts types known. known;
  pieces = λ pieces. pieces;
  region = refl;
}

pub served-null : (st : State) (p : ℕ) (fixed : Bool) → p ≡ 0 → IsServed st st (Free p fixed) Done
served-null st p fixed zero = record {
  next = λ worker number h stands.
      subst (λ (p : ℕ). StandsFor st (next worker number h (Free p fixed) Done)) (sym zero)
      (null-frees-nothing st fixed worker number h stands);
  suits = λ pieces. refl;
  elements = λ layouts types known. known;
  pieces = λ pieces. pieces;
  region = refl;
}

-- ---- the end of an object

-- the state in which the object of a slot is dead
abbrev pub ended : State → ℕ → State
ended st n = record {
  region = st.region;
  states = set st.states n (without_object (state_at st.states n));
  resting = last_resting (slots st.region) (st.resting ++ n ∷ []);
}

module _ (st : State) (anchor p n : ℕ) (facts : Facts) (named : NamesLive st anchor p n facts)
    (not_null : (version_of p == 0) ≡ false) where
  pub died-stands : (h : Words) → StandsFor st h → StandsFor (ended st n) (with_dead (names anchor p) h)
  died-stands h stands =
      let slot = nth_slot st n in
      let now : State = ended st n in
      let changed : ChangesSlot st now slot (without_object (state_of st slot)) =
      subst (λ (q : SlotState). ChangesSlot st now slot (without_object q)) (sym (here st n))
      (changed-set st now.resting n (without_object (state_at st.states n)) named.at.taken) in
      let found : live_at (state_of st slot) (version_of p) ≡ Some named.object =
      ap (λ q. live_at q (version_of p)) (here st n)
      ∙ ap (λ b. cond b (state_at st.states n).body None) (eq-eqb _ _ named.version) ∙ named.body in
      let above : 0 < version_of p = omega (arith, eqb-false _ _ not_null) in
      subst (λ (s : Option Slot). StandsFor now (with_dead (is_at s (version_of p)) h)) (sym named.at.slot)
      (stands-died st now h stands slot refl (version_of p) named.object found changed above refl)

module _ (st : State) (p n : ℕ) (fixed : Bool) (facts : Facts) (named : NamesLive st (address_of p) p n facts)
    (not_null : (version_of p == 0) ≡ false) where
  pub served-end : IsServed st (ended st n) (Free p fixed) Done
  unfolding next
  served-end = record {
    next = λ worker number h stands. died-stands st (address_of p) p n facts named not_null h stands;
    suits = λ pieces. refl;
    elements = λ layouts types known. holds-without (λ o. layouts.has o.elem ≡ true) st.states n named.at.taken known;
    pieces = λ pieces. holds-without (λ o. HasWholePieces o.cells) st.states n named.at.taken pieces;
    region = refl;
  }
