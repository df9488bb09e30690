-- What a call does in its region, and that it does nothing elsewhere.
use Rattle.std.proofs.Common.{◌≡◌, ℕ, ◌+◌, true, take, Option, Some, None, refl, ap, sym, ◌∙◌, arith, unwrap_or, ◌↔◌}
use Rattle.std.proofs.lemmas.Bool.{eqb-true, eq-eqb, ne_eqb, and_parts}
use Rattle.std.proofs.lemmas.Option.{same_Some, none-some}
use Rattle.std.specs.List.{list_any}
use Rattle.lowfat_regions.specs.Regions.{Slot, slot_of, slot_in, region_of}
use Rattle.slot_headers.specs.Words.{address_of, version_of}
use Rattle.heap_model.specs.Cells.{Act, Loads, Stores, Adds}
use Rattle.heap_model.specs.Heap.{part, live_body, has_dead, is_full, is_of, rest, resting}
use Rattle.heap_model.specs.Answers.{Name, region, Words, is_in, is_at, names, slot_at, datum, reply, access, answer_by, Live, Dead, live_in, dead_in, answer, new_object, next}
use Rattle.heap_model.specs.Layouts.{Layouts}
use Rattle.heap_model.specs.Forms.{region_or_one, region_for}
use Rattle.heap_model.specs.Legal.{MayPlace, AllocAnswers, Answers}
use Rattle.heap_model.proofs.Lists.{filter-within, Within, Apart}
use Rattle.heap_model.proofs.Parts as parts
use Rattle.heap_model.specs.declared.calls.AccessKind.{AccessKind}
use Rattle.heap_model.specs.declared.calls.Reach.{Reach}
use Rattle.heap_model.specs.declared.calls.Call.{Call}
use Rattle.heap_model.specs.declared.calls.Call.TheVariants.{Alloc, Free, Check, Load, Store, Add}
use Rattle.heap_model.specs.declared.calls.Reply.{Reply}
use Rattle.heap_model.specs.declared.calls.Reply.TheVariants.{Placed, NoSlot, Done, Value as Moved}

-- the objects of a region
abbrev pub within : ℕ → Words → Words
within r h = part (is_of region r) h

-- ---- a word names objects of one region

slot_in-region : (o : Option ℕ) (a : ℕ) (s : Slot) → slot_in o a ≡ Some s → o ≡ Some s.region
unfolding slot_in
slot_in-region None a s e = absurd (none-some s e)
slot_in-region (Some r) a s e = grind arith

pub slot_of-region : (a : ℕ) (s : Slot) → slot_of a ≡ Some s → region_of a ≡ Some s.region
unfolding slot_of
slot_of-region a s e = slot_in-region (region_of a) a s e

is_at-region : (o : Option Slot) (v : ℕ) (n : Name) → is_at o v n ≡ true → (s : Slot) × (o ≡ Some s) × (region n ≡ s.region)
is_at-region None v n e = cc
is_at-region (Some s) v n e = (s, refl, eqb-true _ _ (and_parts _ _ (and_parts _ _ e).0).0)

pub names-region : (r anchor word : ℕ) (n : Name) → region_or_one anchor ≡ Some r → names anchor word n ≡ true → region n ≡ r
names-region r anchor word n home e =
    let at = is_at-region (slot_of anchor) (version_of word) n e in
    let here = slot_of-region anchor at.0 at.1 in
    at.2 ∙ same_Some _ _ (ap (λ o. Some (unwrap_or o 1)) (sym here) ∙ home)

pub names-within : (r anchor word : ℕ) → region_or_one anchor ≡ Some r → Within (names anchor word) (is_of region r)
names-within r anchor word home n e = eq-eqb _ _ (names-region r anchor word n home e)

pub names-apart : (q r anchor word : ℕ) → (r ≡ q → ⊥) → region_or_one anchor ≡ Some r → Apart (names anchor word) (is_of region q)
names-apart q r anchor word other home n e = ne_eqb _ _ (λ same. other (sym (names-region r anchor word n home e) ∙ same))

-- ---- replies

-- a call reads its region alone
module _ (r : ℕ) (l m : Live) (d e : Dead) (live : (a w : ℕ) → region_or_one a ≡ Some r → l a w ≡ m a w) (dead : (a w : ℕ) → region_or_one a ≡ Some r → d a w ≡ e a w) where
  access-agree : (p : ℕ) (reach : Reach) (kind : AccessKind) (act : Act ℕ) → region_or_one reach.lo ≡ Some r → access l p reach kind act ≡ access m p reach kind act
  unfolding access
  access-agree p reach kind act home = rw (live reach.lo p home)

  pub answer_by-agree : (layouts : Layouts) (call : Call) → region_for call ≡ Some r → answer_by layouts l d call ≡ answer_by layouts m e call
  unfolding answer_by region_for
  answer_by-agree layouts (Alloc elem size fixed) home = refl
  answer_by-agree layouts (Free p fixed) home = rw (live (address_of p) p home, dead (address_of p) p home)
  answer_by-agree layouts (Check p want) home = rw (live (address_of p) p home)
  answer_by-agree layouts (Load p reach kind) home = access-agree p reach kind Loads home
  answer_by-agree layouts (Store p reach kind v) home = access-agree p reach kind (Stores (datum v)) home
  answer_by-agree layouts (Add p reach kind n) home = access-agree p reach kind (Adds n) home

module _ (r : ℕ) (h : Words) where
  live-within : (anchor word : ℕ) → region_or_one anchor ≡ Some r → live_body (names anchor word) (within r h) ≡ live_body (names anchor word) h
  live-within anchor word home = parts.live_body-part (names anchor word) (is_of region r) h (names-within r anchor word home)

  dead-within : (anchor word : ℕ) → region_or_one anchor ≡ Some r → has_dead (names anchor word) (within r h) ≡ has_dead (names anchor word) h
  dead-within anchor word home = parts.has_dead-part (names anchor word) (is_of region r) h (names-within r anchor word home)

  pub answer-within : (layouts : Layouts) (call : Call) → region_for call ≡ Some r → answer layouts (within r h) call ≡ answer layouts h call
  answer-within layouts call home =
      answer_by-agree r (live_in (within r h)) (live_in h) (dead_in (within r h)) (dead_in h) live-within dead-within layouts call home

  full-within : is_full region (within r h) r ≡ is_full region h r
  unfolding is_full
  full-within = rw (parts.live_count-part (is_of region r) (is_of region r) h (λ n e. e), parts.dead_count-part (is_of region r) (is_of region r) h (λ n e. e))

  in-within : (s : Slot) → s.region ≡ r → Within (is_in s) (is_of region r)
  in-within s e n is = eq-eqb _ _ (eqb-true _ _ (and_parts _ _ is).0 ∙ e)

  resting-within : resting region r (within r h) ≡ resting region r h
  resting-within = ap (take (rest r)) (filter-within (is_of region r) (is_of region r) (λ n e. e) h.dead)

  pub MayPlace-within : (word : ℕ) → MayPlace (within r h) r word ↔ MayPlace h r word
  MayPlace-within word = (
    λ m. record {
      slot = m.slot;
      slot_is = m.slot_is;
      of_region = m.of_region;
      address = m.address;
      no_live = sym (parts.live_count-part (is_in m.slot) (is_of region r) h (in-within m.slot m.of_region)) ∙ m.no_live;
      rested = ap (list_any (is_in m.slot)) (sym resting-within) ∙ m.rested;
      version = m.version ∙ ap (λ n. 1 + n) (parts.made_count-part (is_in m.slot) (is_of region r) h (in-within m.slot m.of_region));
    },
    λ m. record {
      slot = m.slot;
      slot_is = m.slot_is;
      of_region = m.of_region;
      address = m.address;
      no_live = parts.live_count-part (is_in m.slot) (is_of region r) h (in-within m.slot m.of_region) ∙ m.no_live;
      rested = ap (list_any (is_in m.slot)) resting-within ∙ m.rested;
      version = m.version ∙ ap (λ n. 1 + n) (sym (parts.made_count-part (is_in m.slot) (is_of region r) h (in-within m.slot m.of_region)));
    },
  )

  alloc-within : (reply : Reply) → AllocAnswers (within r h) r reply ↔ AllocAnswers h r reply
  unfolding AllocAnswers
  alloc-within NoSlot = (λ a. sym full-within ∙ a, λ a. full-within ∙ a)
  alloc-within (Placed word) = (λ a. (sym full-within ∙ a.0, (MayPlace-within word).0 a.1), λ a. (full-within ∙ a.0, (MayPlace-within word).1 a.1))
  alloc-within _ = (λ a. a, λ a. a)

  pub Answers-within : (layouts : Layouts) (call : Call) (reply : Reply) → region_for call ≡ Some r → Answers layouts (within r h) r call reply ↔ Answers layouts h r call reply
  unfolding Answers
  Answers-within layouts (Alloc elem size fixed) reply home = alloc-within reply
  Answers-within layouts call reply home = (λ a. a ∙ answer-within layouts call home, λ a. a ∙ sym (answer-within layouts call home))

  -- ---- the next heap

  pub placed-region : (word : ℕ) → MayPlace h r word → (slot_at (address_of word)).region ≡ r
  unfolding slot_at
  placed-region word m = rw m.slot_is m.of_region

  pub next-within : (layouts : Layouts) (worker number : ℕ) (call : Call) (reply : Reply) → Answers layouts h r call reply
      → within r (next worker number h call reply) ≡ next worker number (within r h) call reply
  unfolding next Answers AllocAnswers
  next-within layouts worker number (Alloc elem size fixed) (Placed word) a = parts.part-made (is_of region r) (new_object worker number elem size fixed word) h (eq-eqb _ _ (placed-region word a.1))
  next-within layouts worker number (Free p fixed) Done a = parts.part-died (names (address_of p) p) (is_of region r) h
  next-within layouts worker number (Store p reach kind v) Done a = parts.part-cells (names reach.lo p) (is_of region r) _ h
  next-within layouts worker number (Add p reach kind n) (Moved v) a = parts.part-cells (names reach.lo p) (is_of region r) _ h
  next-within layouts worker number _ _ a = refl

  pub next-elsewhere : (q : ℕ) → (r ≡ q → ⊥) → (layouts : Layouts) (worker number : ℕ) (call : Call) (reply : Reply) → region_for call ≡ Some r → Answers layouts h r call reply
      → within q (next worker number h call reply) ≡ within q h
  unfolding next Answers AllocAnswers region_for
  next-elsewhere q other layouts worker number (Alloc elem size fixed) (Placed word) home a = parts.part-made_apart (is_of region q) (new_object worker number elem size fixed word) h (ne_eqb _ _ (λ e. other (sym (placed-region word a.1) ∙ e)))
  next-elsewhere q other layouts worker number (Free p fixed) Done home a = parts.part-died_apart (names (address_of p) p) (is_of region q) h (names-apart q r (address_of p) p other home)
  next-elsewhere q other layouts worker number (Store p reach kind v) Done home a = parts.part-cells_apart (names reach.lo p) (is_of region q) _ h (names-apart q r reach.lo p other home)
  next-elsewhere q other layouts worker number (Add p reach kind n) (Moved v) home a = parts.part-cells_apart (names reach.lo p) (is_of region q) _ h (names-apart q r reach.lo p other home)
  next-elsewhere q other layouts worker number _ _ home a = refl
