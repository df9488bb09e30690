-- What a worker does once its pointers are kept in one way, with a limit on its turns: it says, it takes turns, and it asks a
-- heap. C is what it asks, and A what it is told.
use Rattle.std.specs.Prelude.{◌≡◌, ℕ, zero, suc, ◌≤◌, List, [], ◌∷◌, ◌++◌}
use Rattle.plain_meaning.specs.declared.record.Ending.{Ending}
use Rattle.plain_meaning.specs.declared.record.Ending.TheVariants.{Finished, Spent}
use Rattle.plain_meaning.specs.declared.scalar.Scalar.{Scalar}
use Rattle.plain_meaning.specs.Tree.{Tree, Return, Stop, Lost, Print, Turn, Point}
use Rattle.plain_meaning.specs.Points.{Mode, Next, Go, Halt, Answer, Now, Ask, PointerIn, Note, CallIn, ReplyIn, point, point_next, final_ending}

pub data Acts (C A : Type 0) : Type 0 where
  -- it has ended
  Over : Ending → Acts C A
  -- past the turns that are looked at
  Unknown : Acts C A
  Says : List ℕ → Acts C A → Acts C A
  Takes : Acts C A → Acts C A
  Asks : C → (A → Acts C A) → Acts C A

module _ {C A : Type 0} (m : Mode) where
  abbrev pub goes : Next (PointerIn m) (Note m) → (Scalar (PointerIn m) → Note m → Acts C A) → Acts C A
  goes (Go v note) next = next v note
  goes (Halt ending note) next = Over (final_ending m note ending)

-- a point, by its answer and what a reply leads to
abbrev pub resolve : (m : Mode) → Answer (PointerIn m) (Note m) (CallIn m) → (ReplyIn m → Next (PointerIn m) (Note m))
    → (Scalar (PointerIn m) → Note m → Acts (CallIn m) (ReplyIn m)) → Acts (CallIn m) (ReplyIn m)
resolve m (Now onward) tells next = goes m onward next
resolve m (Ask call) tells next = Asks call (λ reply. goes m (tells reply) next)

-- with this many turns left. `Spent` comes where no turn is left and one would begin.
abbrev pub acts : {R : Type 0} → (m : Mode) → Note m → ℕ → Tree (PointerIn m) R → Acts (CallIn m) (ReplyIn m)
acts m note left (Return r) = Over (final_ending m note Finished)
acts m note left (Stop ending) = Over (final_ending m note ending)
acts m note left Lost = Unknown
acts m note left (Print bytes t) = Says bytes (acts m note left t)
acts m note zero (Turn line t) = Over (final_ending m note (Spent line))
acts m note (suc left) (Turn line t) = Takes (acts m note left t)
acts m note left (Point line action u w f) =
    resolve m (point m note line action u w) (point_next m note line action u w) (λ v now. acts m now left (f v))

-- where a worker stands: before a call, or at its end
pub data End (C : Type 0) : Type 0 where
  Waits : C → End C
  Ends : Ending → End C
  Unseen : End C

-- the calls that were asked, what was printed, the turns that were used, and where it stands
pub record Progress (C : Type 0) : Type 0 where
  pub calls : List C
  pub text : List ℕ
  pub turns : ℕ
  pub end : End C

abbrev pub stands_at : {C : Type 0} → End C → Progress C
stands_at end = record { calls = []; text = []; turns = 0; end = end }

abbrev pub add_text : {C : Type 0} → List ℕ → Progress C → Progress C
add_text bytes p = record { calls = p.calls; text = bytes ++ p.text; turns = p.turns; end = p.end }

abbrev pub add_turn : {C : Type 0} → Progress C → Progress C
add_turn p = record { calls = p.calls; text = p.text; turns = suc p.turns; end = p.end }

abbrev pub add_call : {C : Type 0} → C → Progress C → Progress C
add_call call p = record { calls = call ∷ p.calls; text = p.text; turns = p.turns; end = p.end }

-- how far it comes with these replies
abbrev pub feed : {C A : Type 0} → List A → Acts C A → Progress C
feed replies (Over ending) = stands_at (Ends ending)
feed replies Unknown = stands_at Unseen
feed replies (Says bytes a) = add_text bytes (feed replies a)
feed replies (Takes a) = add_turn (feed replies a)
feed [] (Asks call f) = stands_at (Waits call)
feed (reply ∷ replies) (Asks call f) = add_call call (feed replies (f reply))

-- It waits for a reply, or has ended.
abbrev pub IsSeen : {C : Type 0} → End C → Type 0
IsSeen (Waits call) = Unit {0}
IsSeen (Ends ending) = Unit {0}
IsSeen Unseen = ⊥

-- no calls, or this one first
abbrev pub MayBeginWith : {C : Type 0} → C → List C → Type 0
MayBeginWith call [] = Unit {0}
MayBeginWith call (first ∷ rest) = first ≡ call

-- It has come as far, or further; where it has ended, it stays as it is, and where it waits, the call that it waits for is the first
-- of the further ones.
pub record Extends {C : Type 0} (p q : Progress C) : Type 0 where
  pub more_calls : List C
  pub calls : q.calls ≡ p.calls ++ more_calls
  pub more_text : List ℕ
  pub text : q.text ≡ p.text ++ more_text
  pub turns : p.turns ≤ q.turns
  pub ended : (ending : Ending) → p.end ≡ Ends ending → q ≡ p
  pub pending : (call : C) → p.end ≡ Waits call → MayBeginWith call more_calls
