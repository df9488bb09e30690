use Rattle.std.proofs.Common.{◌≡◌, ◌+◌, get_or, [], ℕ, List, Some, Option, sym, subst, ◌∙◌}
use Rattle.std.specs.Prelude.{slice_get}
use Rattle.std.proofs.lemmas.Option.{slice_get-get_or}
use Rattle.c_pp.proofs.NumberLemmas.{AreKnown, AreNumbered, number_none, number_other, naming_none, known_named, all_numbered, name_of}
use Rattle.c_pp.proofs.WalkLemmas.{nowhere}
use Rattle.c_pp.proofs.numbers.number_names.Goals as goal

pub loop-token-init : goal.loop-token-init
loop-token-init c = record {
  names = [];
  numbered = subst (λ (l : List (Option ℕ)). AreNumbered c.args.text.now c.args.tokens.now 0 l []) (sym c.in_ok-numbers.ensures.items) (number_none c.args.text.now c.args.tokens.now);
  naming = naming_none c.new-known.result c.new-known.ensures.empty;
}

pub loop-token-preserved-then-not-is_name : goal.loop-token-preserved-then-not-is_name
loop-token-preserved-then-not-is_name c =
    let index = c.loop-token.token-index in
    let token = get_or c.args.tokens.now index nowhere in
    let there : slice_get c.args.tokens.now index ≡ Some token = slice_get-get_or c.args.tokens.now index nowhere c.loop-token-test.true in
    let k = c.loop-token.invariant in
    record {
      names = k.names;
      numbered = subst (λ (l : List (Option ℕ)). AreNumbered c.args.text.now c.args.tokens.now (index + 1) l k.names) (sym c.in_ok-push.ensures.items)
          (number_other c.args.text.now c.args.tokens.now index c.loop-token.numbers.items k.names token there k.numbered (sym c.is_name.ensures ∙ c.if-not-is_name.true));
      naming = k.naming;
    }

pub loop-token-preserved : goal.loop-token-preserved
loop-token-preserved c =
    let index = c.loop-token.token-index in
    let token = get_or c.args.tokens.now index nowhere in
    let there : slice_get c.args.tokens.now index ≡ Some token = slice_get-get_or c.args.tokens.now index nowhere c.loop-token-test.true in
    subst (λ (l : List (Option ℕ)). AreKnown c.args.text.now c.args.tokens.now (index + 1) l c.number_of.new.known) (sym c.in_ok-push-2.ensures.items)
    (known_named c.args.text.now c.args.tokens.now index c.in_ok-number.number c.loop-token.numbers.items c.loop-token.known c.number_of.new.known c.in_ok-name.name.items token there
    (sym c.is_name.ensures ∙ c.if-not-is_name.false) c.in_ok-name.ensures c.in_ok-number.ensures c.loop-token.invariant)

pub returns : goal.returns
returns c =
    let k = c.loop-token.invariant in
    record {
      name = name_of k.names;
      numbered = all_numbered c.args.text.now c.args.tokens.now c.loop-token.token-index c.len.result c.loop-token.numbers.items k.names c.loop-token-test.false (c.len.ensures.len ∙ k.naming.len) k.numbered;
    }
