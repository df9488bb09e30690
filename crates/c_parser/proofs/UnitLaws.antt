-- What is found, with the texts of the tokens, is what is derived, and nothing else.
use Rattle.std.proofs.Common.{◌≡◌, ◌≤◌, ◌+◌, ◌*◌, ◌↔◌, ℕ, Option, Some, Result, Ok, Err, refl, ap, ◌∙◌, sym, subst, alloc_error, arith}
use Rattle.c_tokens.specs.Limits.{max_tokens}
use Rattle.c_grammar.specs.Limits.{max_nodes}
use Rattle.token_texts.specs.Texts.{Texts}
use Rattle.token_reader.specs.declared.error.ParseError.{ParseError}
use Rattle.token_reader.specs.declared.error.ParseError.TheVariants.{Memory, Syntax}
use Rattle.token_reader.specs.Refused.{IsSameButToken}
use Rattle.c_parser.specs.Answers.{Answers}

-- A whole has a part, which is what is found, and texts. It has the property where both are right.
module _ {Part Whole : Type 0} (make : Part → Texts → Whole) (part : Whole → Part) (texts : Whole → Texts) (made : (w : Whole) → make (part w) (texts w) ≡ w)
    (answer : Option Part) (Are : Texts → Type 0) (Has : Whole → Type 0) (law : (w : Whole) → ((answer ≡ Some (part w)) × Are (texts w)) ↔ Has w) where
  pub only_one : ((a b : Texts) → Are a → Are b → a ≡ b) → (p : Part) (t : Texts) → answer ≡ Some p → Are t → (w : Whole) → Has w → make p t ≡ w
  only_one one p t h are w has =
      let both = (law w).1 has in
      let other : answer ≡ Some (part w) = both.0 in
      let same : p ≡ part w = cc in
      ap (λ x. make x t) same ∙ ap (λ y. make (part w) y) (one t (texts w) are both.1) ∙ made w

  pub only_memory : (e : ParseError) → Answers {A = Part} (Err e) answer → (w : Whole) → Has w → e ≡ Memory alloc_error
  only_memory (Memory a) h w has = refl
  only_memory (Syntax at) h w has = let other : answer ≡ Some (part w) = ((law w).1 has).0 in let none = h at refl in absurd cc

  pub none_has : (e : ParseError) → Answers {A = Part} (Err e) answer → (at : ℕ) → e ≡ Syntax at → (w : Whole) → Has w → ⊥
  none_has e h at is w has = let other : answer ≡ Some (part w) = ((law w).1 has).0 in let none = h at is in cc

-- the same is answered where a refusal names another token
pub same_answers : {A : Type 0} (r s : Result A ParseError) (answer : Option A) → IsSameButToken r s → Answers r answer → Answers s answer
same_answers (Ok x) s answer e h = subst (λ (t : Result _ ParseError). Answers t answer) (sym e) h
same_answers (Err (Memory m)) s answer e h = subst (λ (t : Result _ ParseError). Answers t answer) (sym e) h
same_answers (Err (Syntax n)) s answer e h = subst (λ (t : Result _ ParseError). Answers t answer) (sym e.1) (λ at is. h n refl)

-- so many tokens have few nodes
pub few_nodes : (nodes tokens : ℕ) → nodes ≤ 2 * tokens + 1 → tokens ≤ max_tokens → nodes ≤ max_nodes
few_nodes nodes tokens bound few = omega arith
