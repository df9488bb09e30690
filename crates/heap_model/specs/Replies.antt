-- The forms of the replies in legal histories.
use Rattle.std.specs.Prelude.{List, ◌∷◌, ◌++◌, IsTrue}
use Rattle.heap_model.specs.Layouts.{Layouts}
use Rattle.heap_model.specs.Forms.{suits_call}
use Rattle.heap_model.specs.Legal.{IsLegal}
use Rattle.heap_model.specs.declared.calls.Entry.{Entry}

-- Each reply of a legal history suits its call.
abbrev pub RepliesLaw : Type 0
RepliesLaw =
    (layouts : Layouts) (before later : List Entry) (e : Entry) → IsLegal layouts (before ++ e ∷ later)
    → IsTrue (suits_call e.call e.reply)
