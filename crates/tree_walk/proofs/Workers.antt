-- What a worker has done whose function was walked.
use Rattle.std.proofs.Common.{◌≡◌, ℕ, List, [], ◌∷◌, ◌++◌, Some, Result, Ok, Err, refl, sym, ap, ◌∙◌, subst, cond, ◌≤◌, arith}
use Rattle.std.specs.Prelude.{◌==◌, slice_get}
use Rattle.std.specs.List.{AllByRecursion}
use Rattle.std.proofs.lemmas.List.{append-nil}
use Rattle.heap_model.specs.Legal.{own, IsLegal, IsWellNumbered}
use Rattle.heap_model.specs.Order.{IsStamped}
use Rattle.heap_model.specs.declared.calls.Entry.{Entry}
use Rattle.plain_meaning.specs.declared.record.Ending.{Ending}
use Rattle.plain_meaning.specs.declared.record.Ending.TheVariants.{Finished}
use Rattle.plain_meaning.specs.declared.record.Record.{Record}
use Rattle.plain_meaning.specs.declared.record.Setting.{Setting}
use Rattle.plain_meaning.specs.declared.tree.Function.{Function}
use Rattle.plain_meaning.specs.declared.tree.Program.{Program}
use Rattle.plain_meaning.specs.Tree.{Return, Stop}
use Rattle.plain_meaning.specs.Acts.{Ends, stands_at, feed}
use Rattle.plain_meaning.specs.Meaning.{statement, body_of}
use Rattle.plain_meaning.specs.Run.{Run, Works, InParts, checked_acts, worker_acts, layouts, calls_of, replies_of}
use Rattle.tree_walk.specs.declared.stop.Stop.{Stop as StopReason}
use Rattle.tree_walk.specs.declared.stop.Stop.TheVariants.{Ended, Memory}
use Rattle.tree_walk.specs.declared.walk.Walk.{Walk}
use Rattle.tree_walk.specs.Steps.{Events, View, view, ahead, Passes, Walks, EndsAs}
use Rattle.tree_walk.proofs.Passing.{seen_same}

-- a walk that begins
pub record Fresh (walk : Walk) (turns : ℕ) : Type 0 where
  pub variables : walk.variables.items ≡ []
  pub text : walk.text ≡ []
  pub left : walk.left ≡ turns
  pub heaps : walk.heaps ≡ []

pub record Done (turns : ℕ) (t : Events) (new : Walk) (ending : Ending) : Type 0 where
  pub worked : Works (checked_acts turns t) new.heaps ending new.text
  pub alone : AllByRecursion (λ e. e.worker ≡ 1) new.heaps

module _ (walk new : Walk) (turns : ℕ) (t last : Events) (ending : Ending) where
  pub done_by : Fresh walk turns → Passes walk t new last → feed [] (checked_acts new.left last) ≡ stands_at (Ends ending) → Done turns t new ending
  done_by fresh passes over =
      let more : new.heaps ≡ passes.more = passes.grown ∙ ap (λ h. h ++ passes.more) fresh.heaps in
      let replies : replies_of new.heaps ≡ replies_of passes.more ++ [] = ap replies_of more ∙ sym (append-nil (replies_of passes.more)) in
      let all : view [] [] turns t (replies_of new.heaps) ≡ ahead new last [] =
      seen_same t (replies_of new.heaps) (sym fresh.heaps) (sym fresh.text) (sym fresh.left) ∙ ap (ahead walk t) replies ∙ passes.same [] in
      record {
        worked = record {
          calls = ap (λ (s : View). s.calls) all ∙ ap (λ p. calls_of new.heaps ++ p.calls) over ∙ append-nil (calls_of new.heaps);
          ended = ap (λ (s : View). s.end) all ∙ ap (λ p. p.end) over;
          printed = ap (λ (s : View). s.text) all ∙ ap (λ p. new.text ++ p.text) over ∙ append-nil new.text;
        };
        alone = subst (AllByRecursion (λ e. e.worker ≡ 1)) (sym more) passes.of_one;
      }

pub worked_out : (walk new : Walk) (turns : ℕ) (f : Function) (r : Result (Unit {0}) StopReason) (ending : Ending) → Fresh walk turns →
    Walks walk f.body r new → EndsAs r ending → Done turns (body_of turns (Some f)) new ending
worked_out walk new turns f (Ok done) ending fresh walks is =
    subst (λ v. Done turns (statement turns f.body v (λ after. Return tt)) new ending) fresh.variables
    (done_by walk new turns (statement turns f.body walk.variables.items (λ after. Return tt)) (Return tt) ending fresh
    (walks turns (omega (arith, fresh.left)) (λ after. Return tt)) (ap (λ e. stands_at (Ends e)) (sym is)))
worked_out walk new turns f (Err (Ended e)) ending fresh walks is =
    subst (λ v. Done turns (statement turns f.body v (λ after. Return tt)) new ending) fresh.variables
    (done_by walk new turns (statement turns f.body walk.variables.items (λ after. Return tt)) (Stop e) ending fresh
    (walks turns (omega (arith, fresh.left)) (λ after. Return tt)) (ap (λ x. stands_at (Ends x)) (sym is)))
worked_out walk new turns f (Err (Memory error)) ending fresh walks is = absurd is

-- ---- the history

all_own : (es : List Entry) → AllByRecursion (λ e. e.worker ≡ 1) es → own es 1 ≡ es
all_own [] all = refl
all_own (e ∷ es) all =
    ap (λ w. cond (w == 1) (e ∷ own es 1) (own es 1)) all.0 ∙ ap (λ rest. e ∷ rest) (all_own es all.1)

pub in_middle : (es : List Entry) → AllByRecursion (λ e. e.worker ≡ 1) es → AllByRecursion (λ e. (1 ≤ e.worker) × (e.worker ≤ 1)) es
in_middle [] all = tt
in_middle (e ∷ es) all = ((omega (arith, all.0), omega (arith, all.0)), in_middle es all.1)

abbrev pub in_parts : (es : List Entry) → AllByRecursion (λ e. e.worker ≡ 1) es → InParts 1 es
in_parts es all = record {
  opening = [];
  middle = es;
  finish = [];
  whole = sym (append-nil es);
  opened_by = tt;
  worked_by = in_middle es all;
  finished_by = tt;
}

-- ---- the record

pub run_is : (program : Program) (setting : Setting) (run : Record) (f : Function) (heaps : List Entry) (ending : Ending) (text : List ℕ) →
    run.history.entries ≡ heaps → slice_get program.functions setting.entry ≡ Some f →
    Works (checked_acts setting.turns (body_of setting.turns (Some f))) heaps ending text → AllByRecursion (λ e. e.worker ≡ 1) heaps →
    IsLegal layouts heaps → IsWellNumbered heaps → IsStamped heaps → run.endings ≡ Finished ∷ ending ∷ [] → run.texts ≡ [] ∷ text ∷ [] ∷ [] →
    Run program setting run
run_is program setting run f heaps ending text same found worked alone legal numbered stamped endings texts =
    let alone_here = subst (AllByRecursion (λ e. e.worker ≡ 1)) (sym same) alone in
    record {
      legal = subst (IsLegal layouts) (sym same) legal;
      numbered = subst IsWellNumbered (sym same) numbered;
      stamped = subst IsStamped (sym same) stamped;
      parts = in_parts run.history.entries alone_here;
      opening_text = [];
      opened = record { calls = refl; ended = refl; printed = refl };
      ending = ending;
      text = text;
      worked =
          subst (λ es. Works (worker_acts program setting) es ending text) (sym (all_own run.history.entries alone_here ∙ same))
          (subst (λ o. Works (checked_acts setting.turns (body_of setting.turns o)) heaps ending text) (sym found) worked);
      finish_text = [];
      finished = record { calls = refl; ended = refl; printed = refl };
      endings = endings;
      texts = texts;
    }
