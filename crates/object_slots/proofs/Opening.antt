-- Slots of which none was taken yet, and the slot that an object is placed in.
use Rattle.std.proofs.Common.{◌≡◌, ℕ, zero, suc, ◌+◌, ◌-◌, ◌<◌, true, List, [], ◌∷◌, length, drop, Some, refl, sym, ap, ◌∙◌, subst, ◌⊎◌, inl, inr, arith}
use Rattle.std.proofs.lemmas.Bool.{cases_eq}
use Rattle.std.specs.Ordering.{nat_cmp}
use Rattle.std.specs.FinSet.{len-empty}
use Rattle.lowfat_regions.specs.Regions.{IsRegion, slots}
use Rattle.free_slots.specs.Slots.{Slots, TellsFresh, live_count, made_count, next_of, rest_limit, resting_slots, unused}
use Rattle.free_slots.specs.declared.slots.Taken.{Taken}
use Rattle.slot_headers.specs.Cells.{zeros}
use Rattle.slot_store.specs.Slots.{Contents, made, cells_of, slot_size}
use Rattle.object_slots.specs.SlotStates.{count_made}
use Rattle.object_slots.specs.View.{states_in, state_of, AreKept, IsOpened}
use Rattle.object_slots.proofs.States.{length-states}
use Rattle.object_slots.proofs.Taking.{IsFresh, IsAgain, next-cases, all-at-rest, none-taken}
use Rattle.object_slots.proofs.Kept.{kept-opened}

none-of-none : {X : Type 0} (xs : List X) → length xs ≡ 0 → xs ≡ []
none-of-none [] e = refl
none-of-none (x ∷ xs) e = absurd (omega arith)

drop-none : {X : Type 0} (n : ℕ) → drop {A = X} n [] ≡ []
drop-none zero = refl
drop-none (suc n) = refl

module _ (region : ℕ) where
  abbrev no_slots : Slots
  no_slots = unused (slots region)

  abbrev no_cells : Contents
  no_cells = record { region = region; slots = [] }

  none-made : made_count no_slots ≡ 0
  none-made = omega (arith, len-empty nat_cmp)

  no-states : states_in no_slots no_cells ≡ []
  no-states = none-of-none (states_in no_slots no_cells) (length-states no_slots no_cells ∙ none-made)

  fresh-kept : IsRegion region → AreKept region no_cells no_slots 0
  fresh-kept is = record {
    is_region = is;
    same_region = refl;
    count = refl;
    opened = omega (arith, none-made);
    taken = λ n below. absurd (omega (arith, none-made));
    spare = λ n past below. absurd (omega arith);
    live = none-taken (states_in no_slots no_cells) no_slots (slots region) no-states refl;
    counted = sym (ap count_made no-states);
    most = omega arith;
  }

  fresh-seen : state_of region no_cells no_slots ≡ record { region = region; states = []; resting = [] }
  fresh-seen = λ i. record { region = region; states = no-states i; resting = drop-none {X = ℕ} (0 - rest_limit (slots region)) i }

  module _ (contents : Contents) (free : Slots) (cells_are : contents ≡ no_cells) (slots_are : free ≡ no_slots) where
    pub new-kept : IsRegion region → AreKept region contents free 0
    new-kept is =
        subst (λ (c : Contents). AreKept region c free 0) (sym cells_are)
        (subst (λ (s : Slots). AreKept region no_cells s 0) (sym slots_are) (fresh-kept is))

    pub new-seen : state_of region contents free ≡ record { region = region; states = []; resting = [] }
    new-seen = (λ i. state_of region (cells_are i) (slots_are i)) ∙ fresh-seen

-- ---- the slot that comes next has been made, and is zero if it was never taken

module _ (region : ℕ) (contents now : Contents) (free : Slots) (objects : ℕ) (k : AreKept region contents free objects) (opened : IsOpened contents now)
    (room : live_count free + length (resting_slots free) ≡ made_count free → made contents ≡ made_count free → made_count free < made now)
    (t : Taken) (is : Some t ≡ next_of free) (tells : TellsFresh free t) where
  pub next-opened : t.slot < made now
  next-opened = go (next-cases free t is tells)
    where
      more : made_count free < made now → (t.slot ≡ made_count free) → t.slot < made now
      more below e = omega arith

      fresh : live_count free + length (resting_slots free) ≡ made_count free → (made contents ≡ made_count free) ⊎ (made contents ≡ made_count free → ⊥) → made_count free < made now
      fresh rest (inl same) = room rest same
      fresh rest (inr other) = omega (arith, other, k.opened, opened.more)

      go : IsFresh free t ⊎ IsAgain free t → t.slot < made now
      go (inl f) = more (fresh (all-at-rest free f.none_ready) (cases_eq (made contents) (made_count free))) f.slot_is
      go (inr a) = omega (arith, a.made, k.opened, opened.more)

  pub next-zero : t.fresh ≡ true → cells_of now t.slot ≡ zeros (slot_size now)
  next-zero fresh = (kept-opened region contents free objects k now opened).spare t.slot (tells.0 fresh) next-opened
