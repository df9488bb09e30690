-- What a store and an addition leave.
use Rattle.std.proofs.Common.{◌≡◌, ℕ, zero, suc, ◌+◌, ◌-◌, ◌*◌, ◌/◌, ◌%◌, ◌^◌, ◌<◌, ◌≤◌, Bool, true, false, cond, not, ◌||◌, ◌==◌, List, [], ◌∷◌, map, take, drop, length, Option, Some, None, refl, sym, ap, ◌∙◌, subst, arith}
use Rattle.std.specs.Prelude.{nat_lt}
use Rattle.std.specs.List.{AllByRecursion}
use Rattle.std.proofs.lemmas.Bool.{eq-eqb, ltb-true}
use Rattle.std.proofs.lemmas.Option.{none-some}
use Rattle.lowfat_regions.specs.Regions.{Slot}
use Rattle.slot_headers.specs.Words.{version_of}
use Rattle.slot_headers.specs.Cells.{Cell, Byte, Part, bytes, parts, number_in, cells_at, put, without_mark, without_pointer}
use Rattle.slot_store.specs.Cells.{value_cells, after_store}
use Rattle.slot_store.proofs.Digits.{bytes-mod}
use Rattle.heap_model.specs.Cells.{Act, Stores, Adds, Number, Pointer, width, cells_after_store, cells_after_add, access_cells}
use Rattle.heap_model.specs.Heap.{with_cells}
use Rattle.heap_model.specs.Answers.{Words, after_access, datum, is_at, next, offset}
use Rattle.heap_model.specs.Forms.{may_store, suits_add}
use Rattle.heap_model.specs.Pieces.{IsByte, IsWhole, all_bytes, one_pointer, HasWholePieces}
use Rattle.heap_model.specs.State.{State, StandsFor, ChangesSlot, SlotState, state_of, live_at}
use Rattle.heap_model.specs.declared.calls.AccessKind.{AccessKind}
use Rattle.heap_model.specs.declared.calls.AccessKind.TheVariants.{I8, U8, I16, U16, I32, U32, Ptr, Word}
use Rattle.heap_model.specs.declared.calls.Reach.{Reach}
use Rattle.heap_model.specs.declared.calls.Value.{Value}
use Rattle.heap_model.specs.declared.calls.Call.TheVariants.{Store, Add}
use Rattle.heap_model.specs.declared.calls.Reply.TheVariants.{Done, Value as Moved}
use Rattle.heap_model.proofs.State.{stands-cells}
use Rattle.heap_model.proofs.CellLists.{at-within}
use Rattle.heap_model.proofs.Pieces.{width_some, in_piece, pieces-number, pieces-pointer, pieces-add}
use Rattle.object_slots.specs.SlotStates.{state_at, with_cells_of, with_cells_in}
use Rattle.region_calls.specs.Naming.{IsAccess, nth_slot}
use Rattle.region_calls.specs.Serving.{IsServed}
use Rattle.region_calls.proofs.Standing.{here, changed-set}
use Rattle.region_calls.proofs.Ending.{holds-cells}
use Rattle.region_calls.proofs.Accessing.{within, place-of}

-- ---- the cells that a store leaves

module _ (kind : AccessKind) (k : ℕ) (v : Value) (cells : List (Cell ℕ)) where
  pub stored-pointer : v.pointer ≡ true
      → put k (value_cells (record { bits = v.bits; pointer = true })) cells ≡ cells_after_store kind k (datum v) cells
  unfolding value_cells cells_after_store
  stored-pointer e = sym (ap (λ b. cells_after_store kind k (cond b (Pointer v.bits) (Number v.bits)) cells) e)

  pub stored-number : v.pointer ≡ false → after_store k (width kind) v.bits cells ≡ cells_after_store kind k
      (datum v) cells
  unfolding after_store cells_after_store
  stored-number e = sym (ap (λ b. cells_after_store kind k (cond b (Pointer v.bits) (Number v.bits)) cells) e)

-- a pointer that may be stored has eight bytes, and is not null
pub pointer-fits : (kind : AccessKind) (v : Value) → v.pointer ≡ true → may_store kind v ≡ true
    → (width kind ≡ 8) × (1 ≤ version_of v.bits)
pointer-fits Ptr v e m =
    (refl, ltb-true _ _ (ap (λ c. cond c (nat_lt 0 (version_of v.bits)) (v.bits == 0)) (sym e) ∙ m))
pointer-fits Word v e m = (refl, ltb-true _ _ (ap (λ c. not c || nat_lt 0 (version_of v.bits)) (sym e) ∙ m))
pointer-fits _ v e m = absurd (let no : false ≡ true = ap not (sym e) ∙ m in cc)

stored-pieces : (kind : AccessKind) (k : ℕ) (v : Value) (cells : List (Cell ℕ)) → may_store kind v ≡ true
    → HasWholePieces cells → k % width kind ≡ 0 → k + width kind ≤ length cells
    → HasWholePieces (cells_after_store kind k (datum v) cells)
stored-pieces kind k v cells fits pieces aligned inside = go v.pointer refl
  where
    go : (b : Bool) → v.pointer ≡ b
        → HasWholePieces (cells_after_store kind k (cond b (Pointer v.bits) (Number v.bits)) cells)
    go true e =
        let f = pointer-fits kind v e fits in
        pieces-pointer kind k v.bits cells pieces
        (subst (λ w. k % w ≡ 0) f.0 aligned) (subst (λ w. k + w ≤ length cells) f.0 inside) f.1
    go false e = pieces-number kind k v.bits cells pieces aligned

-- ---- the cells that an addition leaves

put-again : (k w : ℕ) (cells : List (Cell ℕ)) → put k (cells_at k w cells) cells ≡ cells
unfolding put
put-again zero w [] = refl
put-again zero zero (c ∷ cells) = refl
put-again zero (suc w) (c ∷ cells) = ap (λ cs. c ∷ cs) (put-again zero w cells)
put-again (suc k) w [] = refl
put-again (suc k) w (c ∷ cells) = ap (λ cs. c ∷ cs) (put-again k w cells)

unmarked : (cells : List (Cell ℕ)) → AllByRecursion IsByte cells → map without_mark cells ≡ cells
unmarked [] all = refl
unmarked (Byte b ∷ cells) all = ap (λ cs. Byte b ∷ cs) (unmarked cells all.1)
unmarked (Part i p ∷ cells) all = absurd all.0

-- cells of a pointer value hold no number
no-number : (i w word : ℕ) → i < 8 → 1 ≤ w → number_in (take w (drop i (parts word))) ≡ None
no-number i zero word l h = absurd (omega arith)
no-number zero (suc w) word l h = refl
no-number (suc zero) (suc w) word l h = refl
no-number (suc (suc zero)) (suc w) word l h = refl
no-number (suc (suc (suc zero))) (suc w) word l h = refl
no-number (suc (suc (suc (suc zero)))) (suc w) word l h = refl
no-number (suc (suc (suc (suc (suc zero))))) (suc w) word l h = refl
no-number (suc (suc (suc (suc (suc (suc zero)))))) (suc w) word l h = refl
no-number (suc (suc (suc (suc (suc (suc (suc zero))))))) (suc w) word l h = refl
no-number (suc (suc (suc (suc (suc (suc (suc (suc i)))))))) (suc w) word l h = absurd (omega arith)

module _ (kind : AccessKind) (k old : ℕ) (cells : List (Cell ℕ)) (pieces : HasWholePieces cells)
    (aligned : k % width kind ≡ 0) (is : number_in (cells_at k (width kind) cells) ≡ Some old) where
  abbrev piece : List (Cell ℕ)
  piece = cells_at (8 * (k / 8)) 8 cells

  -- round a number that can be read there is no pointer
  bytes-round : IsWhole piece → AllByRecursion IsByte piece
  bytes-round (all_bytes all) = all
  bytes-round (one_pointer word v same) =
      let read : cells_at (k - 8 * (k / 8)) (width kind) (parts word) ≡ cells_at k (width kind) cells =
      ap (cells_at (k - 8 * (k / 8)) (width kind)) (sym same)
      ∙ at-within (8 * (k / 8)) k (width kind) cells (omega arith) (in_piece kind k aligned) in
      let none : number_in (cells_at (k - 8 * (k / 8)) (width kind) (parts word)) ≡ None =
      no-number (k - 8 * (k / 8)) (width kind) word (omega arith) (width_some kind) in
      absurd (none-some old (sym none ∙ ap number_in read ∙ is))

  no-pointer-round : without_pointer k cells ≡ cells
  unfolding without_pointer
  no-pointer-round =
      ap (λ cs. put (8 * (k / 8)) cs cells) (unmarked piece (bytes-round (pieces (k / 8))))
      ∙ put-again (8 * (k / 8)) 8 cells

  low-of : (n : ℕ) → (n % 2 ^ 64) % 2 ^ (8 * width kind) ≡ n % 2 ^ (8 * width kind)
  low-of n = go kind
    where
      go : (kind : AccessKind) → (n % 2 ^ 64) % 2 ^ (8 * width kind) ≡ n % 2 ^ (8 * width kind)
      go I8 = omega arith
      go U8 = omega arith
      go I16 = omega arith
      go U16 = omega arith
      go I32 = omega arith
      go U32 = omega arith
      go _ = omega arith

  same-bytes : (n : ℕ) → bytes {P = ℕ} (width kind) (n % 2 ^ 64) ≡ bytes (width kind) n
  same-bytes n =
      sym (bytes-mod (width kind) (n % 2 ^ 64)) ∙ ap (bytes {P = ℕ} (width kind)) (low-of n) ∙ bytes-mod (width kind) n

  pub added-cells : (n : ℕ) → after_store k (width kind) ((old + n) % 2 ^ 64) cells ≡ access_cells k kind (Adds n) cells
  unfolding after_store access_cells cells_after_add
  added-cells n =
      (λ i. put k (same-bytes (old + n) i) (no-pointer-round i)) ∙ sym (ap (λ r. cells_after_add kind k n r cells) is)

-- ---- the heap after an access

module _ (st : State) (p : ℕ) (reach : Reach) (kind : AccessKind) (n k : ℕ) (at : IsAccess st p reach kind n k) where
  abbrev pub left : Act ℕ → State
  left act = with_cells_in st n at.named.object (access_cells k kind act at.named.object.cells)

  access-stands : (act : Act ℕ) (h : Words) → StandsFor st h → StandsFor (left act) (after_access p reach kind act h)
  access-stands act h stands =
      let o = at.named.object in
      let slot = nth_slot st n in
      let changed : ChangesSlot st (left act) slot
      (with_cells_of (state_of st slot) o (access_cells (offset reach.lo p) kind act o.cells)) =
      subst (λ (j : ℕ). ChangesSlot st (left act) slot
      (with_cells_of (state_of st slot) o (access_cells j kind act o.cells))) at.offset_is
      (subst (λ (q : SlotState). ChangesSlot st (left act) slot (with_cells_of q o (access_cells k kind act o.cells)))
      (sym (here st n))
      (changed-set st st.resting n (with_cells_of (state_at st.states n) o (access_cells k kind act o.cells))
      at.named.at.taken)) in
      let found : live_at (state_of st slot) (version_of p) ≡ Some o =
      ap (λ q. live_at q (version_of p)) (here st n)
      ∙ ap (λ b. cond b (state_at st.states n).body None) (eq-eqb _ _ at.named.version) ∙ at.named.body in
      subst (λ (s : Option Slot). StandsFor (left act)
      (with_cells (is_at s (version_of p)) (access_cells (offset reach.lo p) kind act) h)) (sym at.named.at.slot)
      (stands-cells st (left act) h stands slot refl (version_of p) o found
      (access_cells (offset reach.lo p) kind act) changed refl)

  pub served-store : (v : Value) → may_store kind v ≡ true → (now : State)
      → now ≡ with_cells_in st n at.named.object (cells_after_store kind k (datum v) at.named.object.cells)
      → IsServed st now (Store p reach kind v) Done
  unfolding next access_cells
  served-store v fits now e =
      let o = at.named.object in
      let written = cells_after_store kind k (datum v) o.cells in
      let place = place-of st p reach kind n k at in
      subst (λ (s : State). IsServed st s (Store p reach kind v) Done) (sym e) (record {
        next = λ worker number h stands. access-stands (Stores (datum v)) h stands;
        suits = λ pieces. refl;
        elements = λ layouts types known. holds-cells
            (λ o. layouts.has o.elem ≡ true) st.states n o written at.named.at.taken (known n o at.named.body) known;
        pieces = λ pieces. holds-cells (λ o. HasWholePieces o.cells) st.states n o written at.named.at.taken
            (stored-pieces kind k v o.cells fits (pieces n o at.named.body) place.aligned
            (within st p reach kind n k at)) pieces;
        region = refl;
      })

  pub served-add : (value : ℕ) (v : Value) → suits_add kind (Moved v) ≡ true → (now : State) → now ≡ left (Adds value)
      → IsServed st now (Add p reach kind value) (Moved v)
  unfolding next
  served-add value v suits now e =
      let o = at.named.object in
      let written = access_cells k kind (Adds value) o.cells in
      let place = place-of st p reach kind n k at in
      subst (λ (s : State). IsServed st s (Add p reach kind value) (Moved v)) (sym e) (record {
        next = λ worker number h stands. access-stands (Adds value) h stands;
        suits = λ pieces. suits;
        elements = λ layouts types known. holds-cells
            (λ o. layouts.has o.elem ≡ true) st.states n o written at.named.at.taken (known n o at.named.body) known;
        pieces = λ pieces. holds-cells (λ o. HasWholePieces o.cells) st.states n o written at.named.at.taken
            (pieces-add kind k value o.cells (pieces n o at.named.body) place.aligned) pieces;
        region = refl;
      })
