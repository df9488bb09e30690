use Rattle.std.proofs.Common.{arith, inl, inr, ◌≡◌, ◌<◌, get_or, length, Some, None}
use Rattle.std.specs.Prelude.{string_bytes}
use Rattle.std.proofs.lemmas.List.{get_or_default}
use Rattle.std.proofs.lemmas.Grind.{common_steps}
use Rattle.std.proofs.lemmas.Result.{err_from_is_err_and}
use Rattle.effs_words.specs.Words.{size_of, offset_of}
use Rattle.effs_words.proofs.Shapes.{layout_0, layout_1, layout_2, layout_3, layout_4, layout_more, layout_size, layout_offset}
use Rattle.effs_words.specs.declared.command.Command.TheVariants as command
use Rattle.effs_words.proofs.build.read_layout.Goals as goal

pub returns-then-is_empty : goal.returns-then-is_empty
returns-then-is_empty c = λ word named. inl (layout_0 string_bytes word named c.args.words.now (grind (arith, common_steps)))

pub returns-then-words-eq1 : goal.returns-then-words-eq1
returns-then-words-eq1 c = λ word named. inl (layout_1 string_bytes word named c.args.words.now (grind (arith, common_steps)))

pub returns-in_default : goal.returns-in_default
returns-in_default c =
    let bad : None ≡ size_of (string_bytes c.index-words-1.result) = grind (arith, common_steps) in
    λ word named. inl (layout_size string_bytes word named c.args.words.now c.index-words-1.result (grind (arith, common_steps)) c.index-words-1.is bad)

pub returns-then-words-eq2 : goal.returns-then-words-eq2
returns-then-words-eq2 c =
    let sized : Some c.in-Some.size ≡ size_of (string_bytes c.index-words-1.result) = grind (arith, common_steps) in
    λ word named. inl (layout_2 string_bytes word named c.args.words.now c.index-words-1.result c.in-Some.size (grind (arith, common_steps)) c.index-words-1.is sized)

pub returns-in_default-number_in : goal.returns-in_default-number_in
returns-in_default-number_in c =
    let sized : Some c.in-Some.size ≡ size_of (string_bytes c.index-words-1.result) = grind (arith, common_steps) in
    let bad : None ≡ offset_of (string_bytes c.index-words-2.result) = grind (arith, common_steps) in
    λ word named. inl (layout_offset string_bytes word named c.args.words.now c.index-words-1.result c.index-words-2.result c.in-Some.size (grind (arith, common_steps)) c.index-words-1.is sized c.index-words-2.is bad)

pub returns-then-words-eq3 : goal.returns-then-words-eq3
returns-then-words-eq3 c =
    let sized : Some c.in-Some.size ≡ size_of (string_bytes c.index-words-1.result) = grind (arith, common_steps) in
    let placed : Some c.in-Some-number_in.k ≡ offset_of (string_bytes c.index-words-2.result) = grind (arith, common_steps) in
    λ word named. inl (layout_3 string_bytes word named c.args.words.now c.index-words-1.result c.index-words-2.result c.in-Some.size c.in-Some-number_in.k (grind (arith, common_steps)) c.index-words-1.is sized c.index-words-2.is placed)

pub returns-then-words-gt4 : goal.returns-then-words-gt4
returns-then-words-gt4 c =
    let sized : Some c.in-Some.size ≡ size_of (string_bytes c.index-words-1.result) = grind (arith, common_steps) in
    let placed : Some c.in-Some-number_in.k ≡ offset_of (string_bytes c.index-words-2.result) = grind (arith, common_steps) in
    λ word named. inl (layout_more string_bytes word named c.args.words.now c.index-words-1.result c.index-words-2.result c.in-Some.size c.in-Some-number_in.k (grind (arith, common_steps)) c.index-words-1.is sized c.index-words-2.is placed)

pub returns-in_err-elem : goal.returns-in_err-elem
returns-in_err-elem c =
    let sized : Some c.in-Some.size ≡ size_of (string_bytes c.index-words-1.result) = grind (arith, common_steps) in
    let placed : Some c.in-Some-number_in.k ≡ offset_of (string_bytes c.index-words-2.result) = grind (arith, common_steps) in
    let four : length c.args.words.now ≡ 4 = grind (arith, common_steps) in
    let more : 3 < length c.args.words.now = omega (arith, four) in
    let last = get_or c.args.words.now 3 c.index-words-0.result in
    let p = err_from_is_err_and c.from_residual.result c.from_residual.ensures.1 in
    λ word named. rw (p.1, p.2) (inr (record {
      memory = tt;
      command = command.Layout (string_bytes c.index-words-0.result) c.in-Some.size c.in-Some-number_in.k (string_bytes last);
      asked = layout_4 string_bytes word named c.args.words.now c.index-words-1.result c.index-words-2.result c.index-words-0.result last c.in-Some.size c.in-Some-number_in.k
          four c.index-words-1.is sized c.index-words-2.is placed c.index-words-0.is (get_or_default c.args.words.now 3 c.index-words-0.result last more);
    }))

pub returns-in_err-want : goal.returns-in_err-want
returns-in_err-want c =
    let sized : Some c.in-Some.size ≡ size_of (string_bytes c.index-words-1.result) = grind (arith, common_steps) in
    let placed : Some c.in-Some-number_in.k ≡ offset_of (string_bytes c.index-words-2.result) = grind (arith, common_steps) in
    let four : length c.args.words.now ≡ 4 = grind (arith, common_steps) in
    let p = err_from_is_err_and c.from_residual-in_err-want.result c.from_residual-in_err-want.ensures.1 in
    λ word named. rw (p.1, p.2) (inr (record {
      memory = tt;
      command = command.Layout (string_bytes c.index-words-0.result) c.in-Some.size c.in-Some-number_in.k (string_bytes c.index-words-3.result);
      asked = layout_4 string_bytes word named c.args.words.now c.index-words-1.result c.index-words-2.result c.index-words-0.result c.index-words-3.result c.in-Some.size c.in-Some-number_in.k
          four c.index-words-1.is sized c.index-words-2.is placed c.index-words-0.is c.index-words-3.is;
    }))

pub returns : goal.returns
returns c =
    let sized : Some c.in-Some.size ≡ size_of (string_bytes c.index-words-1.result) = grind (arith, common_steps) in
    let placed : Some c.in-Some-number_in.k ≡ offset_of (string_bytes c.index-words-2.result) = grind (arith, common_steps) in
    let first : c.in_ok-elem.elem ≡ string_bytes c.index-words-0.result = grind (arith, common_steps) in
    let last : c.in_ok-want.want ≡ string_bytes c.index-words-3.result = grind (arith, common_steps) in
    λ word named. rw (first, last) (layout_4 string_bytes word named c.args.words.now c.index-words-1.result c.index-words-2.result c.index-words-0.result c.index-words-3.result c.in-Some.size c.in-Some-number_in.k
    (grind (arith, common_steps)) c.index-words-1.is sized c.index-words-2.is placed c.index-words-0.is c.index-words-3.is)
