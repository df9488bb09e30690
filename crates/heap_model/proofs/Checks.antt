-- Each check has one of four answers.
use Rattle.std.proofs.Common.{◌≡◌, ◌≢◌, ℕ, Bool, true, false, cond, ◌==◌, List, [], ◌∷◌, ◌++◌, length, Option, Some, None, refl, sym, subst}
use Rattle.std.proofs.lemmas.Bool.{eqb-true, eqb-false}
use Rattle.type_layout.specs.declared.preference.Bounds as bounds
use Rattle.slot_headers.specs.Words.{address_of, version_of}
use Rattle.heap_model.specs.Heap.{Body, empty}
use Rattle.heap_model.specs.Layouts.{Layouts}
use Rattle.heap_model.specs.Answers.{Words, answer, answer_by, live_in, offset, check_reply, found_reply, first_byte}
use Rattle.heap_model.specs.Legal.{Answers, IsLegalFrom, Meets, after, replay}
use Rattle.heap_model.specs.Checks.{IsCheckReply, null_word, no_live_object, no_candidate, bounds_found, ChecksLaw}
use Rattle.heap_model.specs.declared.calls.Call.{Call}
use Rattle.heap_model.specs.declared.calls.Call.TheVariants.{Check}
use Rattle.heap_model.specs.declared.calls.Reply.{Reply}
use Rattle.heap_model.specs.declared.calls.Reply.TheVariants.{Report}
use Rattle.heap_model.specs.declared.calls.ReportKind.TheVariants.{Null}
use Rattle.heap_model.specs.declared.calls.Entry.{Entry}

module _ (layouts : Layouts) where
  entry_meets : (h : Words) (before later : List Entry) (e : Entry) → IsLegalFrom layouts h (before ++ e ∷ later) → Meets layouts (replay h before) e
  entry_meets h [] later e legal = legal.0
  entry_meets h (f ∷ before) later e legal = entry_meets (after h f) before later e legal.1

  module _ (h : Words) (word want : ℕ) where
    looked_up : version_of word ≢ 0 → (b : Body ℕ) → live_in h (address_of word) word ≡ Some b
        → (o : Option bounds.Bounds) → layouts.preferred b.elem (length b.cells) (offset (address_of word) word) want ≡ o
        → IsCheckReply layouts h word want (found_reply (first_byte (address_of word)) o)
    looked_up some b named None e = no_candidate some named e
    looked_up some b named (Some o) e = bounds_found some (record { body = b; named = named; bounds = o; are_preferred = e; from = refl; to = refl })

    by_object : version_of word ≢ 0 → (o : Option (Body ℕ)) → live_in h (address_of word) word ≡ o
        → IsCheckReply layouts h word want (check_reply layouts (offset (address_of word) word) (first_byte (address_of word)) want o)
    by_object some None named = no_live_object some named
    by_object some (Some b) named = looked_up some b named (layouts.preferred b.elem (length b.cells) (offset (address_of word) word) want) refl

    by_version : (null : Bool) → version_of word == 0 ≡ null → IsCheckReply layouts h word want
        (cond null (Report Null) (check_reply layouts (offset (address_of word) word) (first_byte (address_of word)) want (live_in h (address_of word) word)))
    by_version true e = null_word (eqb-true _ _ e)
    by_version false e = by_object (eqb-false _ _ e) (live_in h (address_of word) word) refl

    check_answer : IsCheckReply layouts h word want (answer layouts h (Check word want))
    unfolding answer_by
    check_answer = by_version (version_of word == 0) refl

  at_entry : (h : Words) (r word want : ℕ) (call : Call) (reply : Reply) → call ≡ Check word want → Answers layouts h r call reply
      → IsCheckReply layouts h word want reply
  unfolding Answers
  at_entry h r word want call reply same answers =
      let a : reply ≡ answer layouts h (Check word want) = subst (λ c. Answers layouts h r c reply) same answers in
      subst (IsCheckReply layouts h word want) (sym a) (check_answer h word want)

pub checks_law : ChecksLaw
checks_law layouts before later e word want legal same =
    at_entry layouts (replay empty before) e.region word want e.call e.reply same (entry_meets layouts empty before later e legal).answers
