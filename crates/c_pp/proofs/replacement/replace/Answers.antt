use Rattle.std.proofs.Common.{◌≡◌, ◌+◌, ◌<◌, ◌++◌, ◌∷◌, [], List, Bool, true, length, get_or, Some, None, Option, refl, sym, ap, subst, ◌∙◌, inr, arith, rules}
use Rattle.std.specs.Prelude.{slice_set}
use Rattle.std.proofs.lemmas.List.{length-set, nil_from_length}
use Rattle.std.proofs.lemmas.Option.{get_or_from_slice_get}
use Rattle.c_tokens.specs.declared.token.Token.{Token}
use Rattle.c_pp.specs.declared.error.PpError.TheVariants.{MacroLoop}
use Rattle.c_pp.specs.declared.marks.Mark.{Mark}
use Rattle.c_pp.specs.declared.marks.Mark.TheVariants as mark
use Rattle.c_pp.specs.declared.replacement.Open.{Open}
use Rattle.c_pp.specs.Macros.{on_line}
use Rattle.c_pp.specs.declared.span.Span.{Span}
use Rattle.c_pp.specs.Marked.{marks_of, met_of}
use Rattle.c_pp.specs.Walks.{Holds, IsReplaced, macro_at}
use Rattle.c_pp.proofs.Replacing.{yields_plain}
use Rattle.c_pp.proofs.MeetLemmas.{IsCovering, covering_enters, covering_leaves}
use Rattle.c_pp.proofs.Parts.{part_one}
use Rattle.c_pp.proofs.MarkLemmas.{length-met_of, unmarked, fewer_unmarked, no_more_unmarked}
use Rattle.std.proofs.lemmas.Grind.{common_steps}
use Rattle.c_pp.proofs.WalkLemmas.{nowhere, seen_plain, knows_grown}
use Rattle.c_pp.proofs.Walking.{Walking, walk_begins, walk_enters, walk_leaves, walk_ends, walk_loops}
use Rattle.c_pp.proofs.replacement.replace.Goals as goal

pub returns-then-is_none-clause-replaced : goal.returns-then-is_none-clause-replaced
returns-then-is_none-clause-replaced c text macros name made token there seen knows closed h =
    let s = c.args.source.now in
    let none : macro_at s.numbers.now s.bodies.now c.args.at ≡ None = first_of (search rules, grind (arith, common_steps)) in
    record {
      piece = token ∷ [];
      yields = yields_plain text macros token (seen_plain text macros name s.tokens.now s.numbers.now s.bodies.now c.args.at token seen there none);
      holds = subst (λ (t : Token). Holds c.push.new.self (made ++ t ∷ [])) (get_or_from_slice_get s.tokens.now c.args.at token nowhere there) (c.in_ok-push.ensures made h);
      knows = knows_grown text macros name (marks_of c.args.marks.now) made (on_line token.line (token ∷ [])) knows;
      closed = closed;
    }

pub walk-init : goal.walk-init
walk-init c = record {
  marked = refl;
  unchanged = refl;
  covering = λ covers. record { covers = covers; read = rw c.new-opens.ensures.items tt };
  walks = λ text macros name made token there seen knows closed h.
      let s = c.args.source.now in
      let line = (get_or s.tokens.now c.args.at nowhere).line in
      subst (λ (opens : List Open). Walking text macros name s.tokens.now (length s.bodies.now) line (token ∷ []) made (marks_of c.args.marks.now) opens (record { start = c.args.at; end = c.args.at + 1 }) c.args.output.now)
      (sym c.new-opens.ensures.items)
      (walk_begins text macros name s.tokens.now (length s.bodies.now) line (token ∷ []) made (marks_of c.args.marks.now) (record { start = c.args.at; end = c.args.at + 1 }) c.args.output.now
      (sym (part_one s.tokens.now c.args.at token there)) h knows closed);
}

pub returns-in-Loop-clause-replaced : goal.returns-in-Loop-clause-replaced
returns-in-Loop-clause-replaced c text macros name made token there seen knows closed h =
    let s = c.args.source.now in
    let line = (get_or s.tokens.now c.args.at nowhere).line in
    let b = c.walk.invariant.walks text macros name made token there seen knows closed h in
    let put = rw c.in-Loop.is at (c.in_ok-put_out.ensures.stopped text macros name (b.made ++ on_line line b.piece) seen b.knows b.holds) in
    inr (
      ap (λ (t : Token). MacroLoop t.line) (get_or_from_slice_get s.tokens.now c.args.at token nowhere there),
      walk_loops text macros name s.tokens.now (length s.bodies.now) line (token ∷ []) made (marks_of c.walk.marks) c.walk.opens.items c.walk.span c.walk.output c.put_out.new.output token refl b put,
    )

pub walk-preserved-in-Enter : goal.walk-preserved-in-Enter
walk-preserved-in-Enter c = record {
  marked = ap length (c.set.ensures.set ∙ ap (λ l. slice_set l c.in-Enter.found.number (Some mark.Open)) (c.meet.ensures.same_marks ∙ c.put_out.ensures.same_marks))
      ∙ length-set (marks_of c.walk.marks) c.in-Enter.found.number (Some mark.Open) ∙ c.walk.invariant.marked;
  unchanged = c.set.ensures.unchanged ∙ c.meet.ensures.unchanged ∙ c.put_out.ensures.unchanged ∙ c.walk.invariant.unchanged;
  covering = λ covers.
      let s = c.args.source.now in
      let found = c.in-Enter.found in
      let fresh = rw c.in-Enter.is at c.in_ok-put_out.ensures.fresh in
      let reads = rw c.in-Enter.is at c.in_ok-put_out.ensures.read in
      let counted : length (marks_of c.walk.marks) ≡ length s.bodies.now = c.walk.invariant.marked ∙ c.requires.marked in
      let marks = c.set.ensures.set ∙ ap (λ l. slice_set l found.number (Some mark.Open)) (c.meet.ensures.same_marks ∙ c.put_out.ensures.same_marks) in
      let met = c.set.ensures.same_met ∙ c.meet.ensures.met in
      let lens : length (met_of c.put_out.new.marks) ≡ length s.bodies.now = length-met_of c.put_out.new.marks ∙ ap length c.put_out.ensures.same_marks ∙ counted in
      subst (λ (m : List (Option Mark)). IsCovering s.tokens.now s.numbers.now s.bodies.now m (met_of c.set.new.self) found.body c.push-in-Enter.new.self.items) (sym marks)
      (subst (λ (m : List Bool). IsCovering s.tokens.now s.numbers.now s.bodies.now (slice_set (marks_of c.walk.marks) found.number (Some mark.Open)) m found.body c.push-in-Enter.new.self.items) (sym met)
      (subst (λ (o : List Open). IsCovering s.tokens.now s.numbers.now s.bodies.now (slice_set (marks_of c.walk.marks) found.number (Some mark.Open))
      (slice_set (met_of c.put_out.new.marks) found.number true) found.body o) (sym c.in_ok-push-in-Enter.ensures.items)
      (covering_enters s.tokens.now s.numbers.now s.bodies.now (marks_of c.walk.marks) (met_of c.walk.marks) (met_of c.put_out.new.marks) c.walk.span c.in-Enter.rest c.walk.opens.items found
      (record { number = found.number; begin = c.len.result; rest = c.in-Enter.rest }) counted lens fresh.0 refl refl c.put_out.ensures.met reads (c.walk.invariant.covering covers))));
  walks = λ text macros name made token there seen knows closed h.
      let s = c.args.source.now in
      let line = (get_or s.tokens.now c.args.at nowhere).line in
      let b = c.walk.invariant.walks text macros name made token there seen knows closed h in
      let put = rw c.in-Enter.is at (c.in_ok-put_out.ensures.stopped text macros name (b.made ++ on_line line b.piece) seen b.knows b.holds) in
      let counted : length (marks_of c.walk.marks) ≡ length s.bodies.now = c.walk.invariant.marked ∙ c.requires.marked in
      let len : c.len.result ≡ length c.put_out.new.output.tokens.items = search rules in
      subst (λ (m : List (Option Mark)). Walking text macros name s.tokens.now (length s.bodies.now) line (token ∷ []) made m c.push-in-Enter.new.self.items c.in-Enter.found.body c.put_out.new.output)
      (sym (c.set.ensures.set ∙ ap (λ l. slice_set l c.in-Enter.found.number (Some mark.Open)) (c.meet.ensures.same_marks ∙ c.put_out.ensures.same_marks)))
      (subst (λ (o : List Open). Walking text macros name s.tokens.now (length s.bodies.now) line (token ∷ []) made (slice_set (marks_of c.walk.marks) c.in-Enter.found.number (Some mark.Open)) o
      c.in-Enter.found.body c.put_out.new.output)
      (sym c.in_ok-push-in-Enter.ensures.items)
      (walk_enters text macros name s.tokens.now (length s.bodies.now) line (token ∷ []) made (marks_of c.walk.marks) c.walk.opens.items c.walk.span c.in-Enter.rest c.walk.output c.put_out.new.output
      c.in-Enter.found c.len.result counted len b put));
}

pub walk-smaller-in-Enter : goal.walk-smaller-in-Enter
walk-smaller-in-Enter c =
    let fresh = rw c.in-Enter.is at c.in_ok-put_out.ensures.fresh in
    let low : c.in-Enter.found.number < length (marks_of c.walk.marks) = (let l = fresh.0 in let m = c.walk.invariant.marked in let n = c.requires.marked in omega arith) in
    let fewer = fewer_unmarked (marks_of c.walk.marks) c.in-Enter.found.number mark.Open low fresh.1 in
    let u = ap unmarked (c.set.ensures.set ∙ ap (λ l. slice_set l c.in-Enter.found.number (Some mark.Open)) (c.meet.ensures.same_marks ∙ c.put_out.ensures.same_marks)) in
    let len = c.in_ok-push-in-Enter.ensures.len in
    omega arith

pub returns-in-None-clause-replaced : goal.returns-in-None-clause-replaced
returns-in-None-clause-replaced c text macros name made token there seen knows closed h =
    let s = c.args.source.now in
    let line = (get_or s.tokens.now c.args.at nowhere).line in
    let b = c.walk.invariant.walks text macros name made token there seen knows closed h in
    let put = rw c.in-End.is at (c.in_ok-put_out.ensures.stopped text macros name (b.made ++ on_line line b.piece) seen b.knows b.holds) in
    let none : c.walk.opens.items ≡ [] = nil_from_length c.walk.opens.items (search (rules, c.in-None.ensures.cases)) in
    subst (λ (l : List (Option Mark)). IsReplaced text macros name token made l c.put_out.new.output) (sym c.put_out.ensures.same_marks)
    (walk_ends text macros name s.tokens.now (length s.bodies.now) line (token ∷ []) made (marks_of c.walk.marks) c.walk.opens.items c.walk.span c.walk.output c.put_out.new.output token refl
    (ap (λ (t : Token). t.line) (get_or_from_slice_get s.tokens.now c.args.at token nowhere there)) none b put)

pub walk-preserved : goal.walk-preserved
walk-preserved c = record {
  marked = ap length (c.set-in-Some.ensures.set ∙ ap (λ l. slice_set l c.in-Some.open.number (Some (mark.Known (record { start = c.in-Some.open.begin; end = c.len-end.result })))) c.put_out.ensures.same_marks)
      ∙ length-set (marks_of c.walk.marks) c.in-Some.open.number (Some (mark.Known (record { start = c.in-Some.open.begin; end = c.len-end.result }))) ∙ c.walk.invariant.marked;
  unchanged = c.set-in-Some.ensures.unchanged ∙ c.put_out.ensures.unchanged ∙ c.walk.invariant.unchanged;
  covering = λ covers.
      let s = c.args.source.now in
      let o = c.in-Some.open in
      let there : Span = record { start = o.begin; end = c.len-end.result } in
      let reads = rw c.in-End.is at c.in_ok-put_out.ensures.read in
      let covering = c.walk.invariant.covering covers in
      let counted : length (marks_of c.walk.marks) ≡ length s.bodies.now = c.walk.invariant.marked ∙ c.requires.marked in
      let marks = c.set-in-Some.ensures.set ∙ ap (λ l. slice_set l o.number (Some (mark.Known there))) c.put_out.ensures.same_marks in
      subst (λ (m : List (Option Mark)). IsCovering s.tokens.now s.numbers.now s.bodies.now m (met_of c.set-in-Some.new.self) o.rest c.pop.new.self.items) (sym marks)
      (subst (λ (m : List Bool). IsCovering s.tokens.now s.numbers.now s.bodies.now (slice_set (marks_of c.walk.marks) o.number (Some (mark.Known there))) m o.rest c.pop.new.self.items)
      (sym c.set-in-Some.ensures.same_met)
      (covering_leaves s.tokens.now s.numbers.now s.bodies.now (marks_of c.walk.marks) (met_of c.walk.marks) (met_of c.put_out.new.marks) c.walk.span there c.walk.opens.items c.pop.new.self.items o
      counted c.in-Some.ensures.items c.put_out.ensures.met reads covering));
  walks = λ text macros name made token there seen knows closed h.
      let s = c.args.source.now in
      let line = (get_or s.tokens.now c.args.at nowhere).line in
      let b = c.walk.invariant.walks text macros name made token there seen knows closed h in
      let put = rw c.in-End.is at (c.in_ok-put_out.ensures.stopped text macros name (b.made ++ on_line line b.piece) seen b.knows b.holds) in
      let counted : length (marks_of c.walk.marks) ≡ length s.bodies.now = c.walk.invariant.marked ∙ c.requires.marked in
      let len : c.len-end.result ≡ length c.put_out.new.output.tokens.items = search rules in
      subst (λ (m : List (Option Mark)). Walking text macros name s.tokens.now (length s.bodies.now) line (token ∷ []) made m c.pop.new.self.items c.in-Some.open.rest c.put_out.new.output)
      (sym (c.set-in-Some.ensures.set ∙ ap (λ l. slice_set l c.in-Some.open.number (Some (mark.Known (record { start = c.in-Some.open.begin; end = c.len-end.result })))) c.put_out.ensures.same_marks))
      (walk_leaves text macros name s.tokens.now (length s.bodies.now) line (token ∷ []) made (marks_of c.walk.marks) c.walk.opens.items c.pop.new.self.items c.in-Some.open c.walk.span c.walk.output
      c.put_out.new.output c.len-end.result counted seen.numbered.apart c.in-Some.ensures.items len b put);
}

pub walk-smaller : goal.walk-smaller
walk-smaller c =
    let u = ap unmarked (c.set-in-Some.ensures.set ∙ ap (λ l. slice_set l c.in-Some.open.number (Some (mark.Known (record { start = c.in-Some.open.begin; end = c.len-end.result })))) c.put_out.ensures.same_marks) in
    let n = no_more_unmarked (marks_of c.walk.marks) c.in-Some.open.number (mark.Known (record { start = c.in-Some.open.begin; end = c.len-end.result })) in
    let len = c.in-Some.ensures.cases in
    omega arith
