-- What a free and a check answer.
use Rattle.std.proofs.Common.{◌≡◌, ℕ, ◌+◌, Bool, true, false, not, cond, ◌&&◌, ◌==◌, List, [], ◌∷◌, ◌++◌, map, filter, Option, Some, None, refl, sym, ap, ◌∙◌, subst}
use Rattle.std.specs.Prelude.{unwrap_or}
use Rattle.std.proofs.lemmas.Bool.{eq-eqb, ne_eqb}
use Rattle.lowfat_regions.specs.Regions.{slot_of, slot_in as slot_within, region_of, slot_address}
use Rattle.slot_headers.specs.Words.{address_of, version_of}
use Rattle.std.specs.Bool.{beq}
use Rattle.heap_model.specs.Cells.{Outcome, Did, Refused}
use Rattle.heap_model.specs.Heap.{Body, Object, free_outcome}
use Rattle.heap_model.specs.Answers.{Name, Words, Live, Dead, next, answer_by, check_reply, first_byte, offset, slot_at, reply, unless_null}
use Rattle.heap_model.specs.Layouts.{Layouts}
use Rattle.heap_model.specs.State.{State, StandsFor}
use Rattle.heap_model.specs.declared.calls.Call.TheVariants.{Free, Check}
use Rattle.heap_model.specs.declared.calls.Reply.{Reply}
use Rattle.heap_model.specs.declared.calls.Reply.TheVariants.{Done, Report}
use Rattle.heap_model.specs.declared.calls.ReportKind.TheVariants.{Null, BadFree, DoubleFree}
use Rattle.region_calls.specs.Naming.{IsInSlot, nth_slot}

-- ---- at an object

-- a word of a dead object's first byte, and one past it
pub dead-first : (k : ℕ) (fixed : Bool) → k ≡ 0 → Report DoubleFree ≡ reply (free_outcome k fixed None true)
dead-first k fixed e = sym
    (ap (λ b. reply (cond {A = Outcome ℕ} b (Refused DoubleFree) (Refused BadFree))) (eq-eqb k 0 e))

pub dead-inside : (k : ℕ) (fixed : Bool) → (k ≡ 0 → ⊥) → Report BadFree ≡ reply (free_outcome k fixed None true)
dead-inside k fixed apart =
    sym (ap (λ b. reply (cond {A = Outcome ℕ} b (Refused DoubleFree) (Refused BadFree))) (ne_eqb k 0 apart))

-- a word inside a live object
pub live-inside : (k : ℕ) (fixed dead : Bool) (o : Option (Body ℕ)) (b : Body ℕ) → o ≡ Some b → (k ≡ 0 → ⊥)
    → Report BadFree ≡ reply (free_outcome k fixed o dead)
live-inside k fixed dead o b is apart =
    sym (ap (λ o. reply (free_outcome k fixed o dead)) is
    ∙ ap (λ x. reply (cond {A = Outcome ℕ} (x && beq fixed b.fixed) Did (Refused BadFree))) (ne_eqb k 0 apart))

same-mark : (a b : Bool) → not (beq a b) ≡ false → beq b a ≡ true
same-mark true true e = refl
same-mark false false e = refl
same-mark true false e = cc
same-mark false true e = cc

-- a word of its first byte, where it is fixed as told
pub live-ends : (k : ℕ) (fixed known dead : Bool) (o : Option (Body ℕ)) (b : Body ℕ) → o ≡ Some b → k ≡ 0
    → known ≡ b.fixed
    → not (beq known fixed) ≡ false → Done ≡ reply (free_outcome k fixed o dead)
live-ends k fixed known dead o b is first known_is same =
    sym (ap (λ o. reply (free_outcome k fixed o dead)) is
    ∙ (λ i. reply (cond {A = Outcome ℕ} (eq-eqb k 0 first i && beq fixed (sym known_is i)) Did (Refused BadFree)))
    ∙ ap (λ x. reply (cond {A = Outcome ℕ} x Did (Refused BadFree))) (same-mark known fixed same))

module _ (layouts : Layouts) (live : Live) (dead : Dead) (p : ℕ) where
  module _ (fixed : Bool) where
    at-object : Reply
    at-object = reply (free_outcome (offset (address_of p) p) fixed (live (address_of p) p) (dead (address_of p) p))

    pub free-zero : p ≡ 0 → Done ≡ answer_by layouts live dead (Free p fixed)
    unfolding answer_by at-object
    free-zero zero = sym (ap (λ b. cond b Done (unless_null p (Report BadFree) at-object)) (eq-eqb p 0 zero))

    pub free-null : (p ≡ 0 → ⊥) → (version_of p == 0) ≡ true
        → Report BadFree ≡ answer_by layouts live dead (Free p fixed)
    unfolding answer_by at-object
    free-null some null =
        sym (ap (λ b. cond b Done (unless_null p (Report BadFree) at-object)) (ne_eqb p 0 some) ∙ ap
        (λ b. cond b (Report BadFree) at-object) null)

    pub free-at : (p ≡ 0 → ⊥) → (version_of p == 0) ≡ false → (o : Option (Body ℕ)) (d : Bool)
        → live (address_of p) p ≡ o → dead (address_of p) p ≡ d
        → reply (free_outcome (offset (address_of p) p) fixed o d) ≡ answer_by layouts live dead (Free p fixed)
    unfolding answer_by at-object
    free-at some not_null o d e f =
        sym (ap (λ b. cond b Done (unless_null p (Report BadFree) at-object)) (ne_eqb p 0 some) ∙ ap
        (λ b. cond b (Report BadFree) at-object) not_null
        ∙ (λ i. reply (free_outcome (offset (address_of p) p) fixed (e i) (f i))))

  module _ (want : ℕ) where
    pub check-null : (version_of p == 0) ≡ true → Report Null ≡ answer_by layouts live dead (Check p want)
    unfolding answer_by
    check-null null = sym
        (ap (λ b. cond b (Report Null)
        (check_reply layouts (offset (address_of p) p) (first_byte (address_of p)) want (live (address_of p) p))) null)

    pub check-at : (version_of p == 0) ≡ false → (o : Option (Body ℕ)) → live (address_of p) p ≡ o
        → check_reply layouts (offset (address_of p) p)
        (first_byte (address_of p)) want o ≡ answer_by layouts live dead (Check p want)
    unfolding answer_by
    check-at not_null o e =
        sym (ap (λ b. cond b (Report Null)
        (check_reply layouts (offset (address_of p) p) (first_byte (address_of p)) want
        (live (address_of p) p))) not_null
        ∙ ap (check_reply layouts (offset (address_of p) p) (first_byte (address_of p)) want) e)

-- the first byte, where an address is in a slot
pub first-here : (st : State) (anchor n : ℕ) → IsInSlot st anchor n
    → first_byte anchor ≡ slot_address (nth_slot st n) + 16
unfolding first_byte slot_at
first-here st anchor n at = ap (λ s. slot_address (unwrap_or s (record { region = 0; number = 0 })) + 16) at.slot

-- ---- a free of null

keep-all : {X : Type 0} (xs : List X) → filter (λ x. true) xs ≡ xs
keep-all [] = refl
keep-all (x ∷ xs) = ap (λ ys. x ∷ ys) (keep-all xs)

keep-none : {X : Type 0} (xs : List X) → filter (λ x. false) xs ≡ []
keep-none [] = refl
keep-none (x ∷ xs) = keep-none xs

null-next : (fixed : Bool) (worker number : ℕ) (h : Words) → next worker number h (Free 0 fixed) Done ≡ h
unfolding next slot_of slot_within region_of address_of
null-next fixed worker number h = λ
    i. record {
      live = keep-all h.live i;
      dead = ap (λ os. map (λ (o : Object Name ℕ). o.name) os ++ h.dead)
          (keep-none h.live) i;
    }

pub null-frees-nothing : (st : State) (fixed : Bool) (worker number : ℕ) (h : Words) → StandsFor st h
    → StandsFor st (next worker number h (Free 0 fixed) Done)
null-frees-nothing st fixed worker number h stands =
    subst (λ (g : Words). StandsFor st g) (sym (null-next fixed worker number h)) stands
