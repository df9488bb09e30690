-- A history with one entry more.
use Rattle.std.proofs.Common.{◌≡◌, List, [], ◌∷◌, ◌++◌, refl}
use Rattle.heap_model.specs.Answers.{Words}
use Rattle.heap_model.specs.Layouts.{Layouts}
use Rattle.heap_model.specs.Legal.{Meets, after, IsLegalFrom, replay}
use Rattle.heap_model.specs.declared.calls.Entry.{Entry}

pub replay-push : (h : Words) (es : List Entry) (e : Entry) → replay h (es ++ e ∷ []) ≡ after (replay h es) e
replay-push h [] e = refl
replay-push h (x ∷ es) e = replay-push (after h x) es e

pub IsLegal-push : (layouts : Layouts) (h : Words) (es : List Entry) (e : Entry) → IsLegalFrom layouts h es → Meets layouts (replay h es) e → IsLegalFrom layouts h (es ++ e ∷ [])
IsLegal-push layouts h [] e l m = (m, tt)
IsLegal-push layouts h (x ∷ es) e l m = (l.0, IsLegal-push layouts (after h x) es e l.1 m)
