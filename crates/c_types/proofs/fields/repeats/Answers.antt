use Rattle.std.proofs.Common.{◌≡◌, ◌≢◌, ◌||◌, ◌==◌, [], ◌∷◌, List, Bool, true, false, Result, Ok, Err, IfOk, length, sym, ap, ◌∙◌, refl, true≢false, arith}
use Rattle.std.proofs.lemmas.Bool.{eqb-true}
use Rattle.std.specs.declared.alloc.AllocError.{AllocError}
use Rattle.c_types.specs.declared.kinds.Member.{Member}
use Rattle.c_types.specs.Table.{fields_of, members}
use Rattle.c_types.specs.Adding.{has_two_of_a_name, tag_of}
use Rattle.c_types.specs.Rows.{has_fields}
use Rattle.c_types.proofs.Laid.{there_are, there_are_none}
use Rattle.c_types.proofs.fields.repeats.Goals as goal

some_members : (ms : List Member) → false ≡ (length ms == 0) → ms ≢ []
some_members [] e is = true≢false (sym e)
some_members (m ∷ ms) e is = cc

no_members : (ms : List Member) → true ≡ (length ms == 0) → ms ≡ []
no_members [] e = refl
no_members (m ∷ ms) e = absurd (omega (arith, eqb-true (length (m ∷ ms)) 0 (sym e)))

or_second : (a two : Bool) (result : Result Bool AllocError) → a ≡ false → IfOk result (λ x. x ≡ two) → IfOk result (λ x. x ≡ a || two)
or_second a two (Ok x) none is = is ∙ ap (λ b. b || two) (sym none)
or_second a two (Err e) none is = is

pub returns-then-not-is_empty : goal.returns-then-not-is_empty
returns-then-not-is_empty c =
    sym (ap (λ b. b || has_two_of_a_name c.args.fields.now)
    (there_are c.args.types.now c.requires.tag.0 c.args.tag c.requires.tag.1 c.requires.tag.2
    (λ none. some_members c.members.result.now c.if-not-is_empty.ensures (c.members.ensures ∙ none))))

pub returns : goal.returns
returns c =
    or_second (has_fields (fields_of c.args.types.now.tags (tag_of c.args.types.now c.args.tag))) (has_two_of_a_name c.args.fields.now)
    c.has_two_of_a_name.result
    (there_are_none c.args.types.now c.requires.tag.0 c.args.tag c.requires.tag.1 c.requires.tag.2
    (sym c.members.ensures ∙ no_members c.members.result.now c.if-not-is_empty.ensures))
    c.has_two_of_a_name.ensures
