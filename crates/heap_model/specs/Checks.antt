-- What a check is answered, whole: each of its four answers with its cause.
use Rattle.std.specs.Prelude.{◌≡◌, ◌≢◌, ℕ, List, ◌∷◌, ◌++◌, length, Some, None}
use Rattle.slot_headers.specs.Words.{address_of, version_of}
use Rattle.heap_model.specs.Heap.{Body, empty}
use Rattle.heap_model.specs.Layouts.{Layouts}
use Rattle.heap_model.specs.Answers.{Words, live_in, offset}
use Rattle.heap_model.specs.Legal.{IsLegal, replay}
use Rattle.heap_model.specs.Performed.{AreFound}
use Rattle.heap_model.specs.declared.calls.Reach.{Reach}
use Rattle.heap_model.specs.declared.calls.Call.TheVariants.{Check}
use Rattle.heap_model.specs.declared.calls.Reply.{Reply}
use Rattle.heap_model.specs.declared.calls.Reply.TheVariants.{Found, Report}
use Rattle.heap_model.specs.declared.calls.ReportKind.TheVariants.{WrongType, Free as Freed, Null}
use Rattle.heap_model.specs.declared.calls.Entry.{Entry}

-- At this heap a check of the word for the wanted type has this reply, for one of four causes. Version and type are
-- compared at one and the same heap.
pub data IsCheckReply (layouts : Layouts) (h : Words) (word want : ℕ) : Reply → Type 0 where
  -- the word is null
  null_word : version_of word ≡ 0 → IsCheckReply layouts h word want (Report Null)
  -- it names no live object: none was placed so, or the one that was is dead
  no_live_object : version_of word ≢ 0 → live_in h (address_of word) word ≡ None → IsCheckReply layouts h word want (Report Freed)
  -- it names a live object, in which nothing at the word's offset matches the type
  no_candidate : {body : Body ℕ} → version_of word ≢ 0 → live_in h (address_of word) word ≡ Some body →
      layouts.preferred body.elem (length body.cells) (offset (address_of word) word) want ≡ None → IsCheckReply layouts h word want (Report WrongType)
  -- it names a live object, and these are the preferred bounds there
  bounds_found : {reach : Reach} → version_of word ≢ 0 → AreFound layouts h word want reach → IsCheckReply layouts h word want (Found reach)

-- Each check of a legal history has one of the four answers, at the heap that the entries before it leave.
abbrev pub ChecksLaw : Type 0
ChecksLaw =
    (layouts : Layouts) (before later : List Entry) (e : Entry) (word want : ℕ) → IsLegal layouts (before ++ e ∷ later)
    → e.call ≡ Check word want → IsCheckReply layouts (replay empty before) word want e.reply
