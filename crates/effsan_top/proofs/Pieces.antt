-- Texts that are written piece by piece.
use Rattle.std.proofs.Common.{◌≡◌, ℕ, ◌+◌, List, ◌++◌, length, take, Option, Some, None, ap, ◌∙◌, arith, append_assoc, length-append}
use Rattle.std.proofs.lemmas.List.{take-append-le}
use Rattle.std.proofs.Math.Seq.{take-append-add}
use Rattle.std.specs.Prelude.{IfSome}
use Rattle.effs_io.specs.Streams.{Appends, AppendsSome}

pub appends_both : (a x : List ℕ) (before middle after : Option (List ℕ)) → Appends a before middle → Appends x middle after → Appends (a ++ x) before after
appends_both a x None middle after p q = tt
appends_both a x (Some t) middle after p q =
    let e : IfSome (Some (t ++ a)) (λ taken. after ≡ Some (taken ++ x)) = rw p at q in
    e ∙ ap (λ l. Some l) (append_assoc t a x)

pub some_of_front : (a y : List ℕ) (before after : Option (List ℕ)) → AppendsSome a before after → AppendsSome (a ++ y) before after
some_of_front a y before after p =
    let e : take p.0 (a ++ y) ≡ take p.0 a = take-append-le p.0 a y p.1 in
    (p.0, omega (arith, p.1, length-append a y), rw e p.2)

pub some_after : (a x : List ℕ) (before middle after : Option (List ℕ)) → Appends a before middle → AppendsSome x middle after → AppendsSome (a ++ x) before after
some_after a x before middle after p q =
    (length a + q.0, omega (arith, q.1, length-append a x), rw take-append-add (appends_both a (take q.0 x) before middle after p q.2))
