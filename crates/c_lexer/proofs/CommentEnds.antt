-- The end of a comment.
use Rattle.std.proofs.Common.{◌≡◌, ℕ, suc, ◌+◌, ◌<◌, ◌≤◌, Bool, true, false, ◌&&◌, ◌||◌, ◌==◌, ◌⊎◌, inl, inr, [], ◌∷◌, ◌++◌, length, take, Option, Some, None, refl, sym, ap, subst, ◌∙◌, arith, length-append}
use Rattle.std.proofs.lemmas.Bool.{eqb-true, and_parts, and_right}
use Rattle.std.proofs.lemmas.List.{append_assoc}
use Rattle.std.proofs.lemmas.List.Sums.{prefix_len-le-length}
use Rattle.std.specs.List.{prefix_len}
use Rattle.std.specs.Option.{option_map}
use Rattle.c_lexer.specs.declared.lexeme.Lexeme.TheVariants.{Gap, Faulty}
use Rattle.c_lexer.specs.declared.lexeme.Fault.TheVariants.{OpenComment}
use Rattle.c_lexer.specs.Bytes.{Text, Each, first_passes}
use Rattle.c_lexer.specs.Words.{Spells, comment, open_comment, line_comment, has_end, no_line_end}
use Rattle.c_lexer.specs.Scan.{comment_len, comment_to}
use Rattle.c_lexer.proofs.Classes.{run_each, run_longest, chosen}
use Rattle.c_lexer.proofs.Numerals.{IsPiece}
use Rattle.c_lexer.proofs.Fronts.{Covers, front_comment, front_line}

abbrev pub is_slash : ℕ → Bool
is_slash c = c == 47

neither : (a b : Bool) → (a || b) ≡ false → (a ≡ false) × (b ≡ false)
neither true b h = absurd cc
neither false b h = (refl, h)

comment_reaches : (star : Bool) (body after : Text) → (star && first_passes is_slash (body ++ 42 ∷ [])) ≡ false → has_end (body ++ 42 ∷ []) ≡ false →
    comment_len star (body ++ 42 ∷ 47 ∷ after) ≡ Some (length body + 2)
unfolding comment_len
comment_reaches true [] after s h = refl
comment_reaches false [] after s h = refl
comment_reaches star (b ∷ body) after s h =
    let (here, later) = neither ((b == 42) && first_passes is_slash (body ++ 42 ∷ [])) (has_end (body ++ 42 ∷ [])) h in
    let e : suc (length body + 2) ≡ suc (length body) + 2 = omega arith in
    rw s (ap (option_map suc) (comment_reaches (b == 42) body after here later) ∙ ap Some e)

-- what a length that is found says: the slash after a star that stood before, or a whole end
pub record Ends (star : Bool) (s : Text) (n : ℕ) (body : Text) : Type 0 where
  pub text : take n s ≡ body ++ 42 ∷ 47 ∷ []
  pub len : n ≡ length body + 2
  pub before : (star && first_passes is_slash (body ++ 42 ∷ [])) ≡ false
  pub within_body : has_end (body ++ 42 ∷ []) ≡ false

abbrev pub AtOnce : Bool → Text → ℕ → Type 0
AtOnce star s n = (star ≡ true) × (n ≡ 1) × (take n s ≡ 47 ∷ [])

mapped : (found : Option ℕ) (n : ℕ) → option_map suc found ≡ Some n → (m : ℕ) × (found ≡ Some m) × (n ≡ suc m)
mapped (Some m) n h = (m, refl, cc)
mapped None n h = absurd cc

comment_ends : (star : Bool) (s : Text) (n : ℕ) → comment_len star s ≡ Some n → (n ≤ length s) × (AtOnce star s n ⊎ ((body : Text) × Ends star s n body))
unfolding comment_len
comment_ends star [] n h = absurd cc
comment_ends star (b ∷ s) n h = elim (chosen (star && b == 47) (Some 1) (option_map suc (comment_len (b == 42) s)) (Some n) h) [
  | inl c ↦ (
      let is : 1 ≡ n = (let e = c.1 in cc) in
      let (held, slash) = and_parts star (b == 47) c.0 in
      subst (λ n. (n ≤ length (b ∷ s)) × (AtOnce star (b ∷ s) n ⊎ ((body : Text) × Ends star (b ∷ s) n body))) is
      (omega arith, inl (held, refl, ap (λ c. c ∷ []) (eqb-true b 47 slash))))
  | inr c ↦ (
      let (m, is, len) = mapped (comment_len (b == 42) s) n c.1 in
      let (low, later) = comment_ends (b == 42) s m is in
      subst (λ n. (n ≤ length (b ∷ s)) × (AtOnce star (b ∷ s) n ⊎ ((body : Text) × Ends star (b ∷ s) n body))) (sym len) (
        omega arith,
        inr (elim later [
          | inl once ↦ ([], at_star m c.0 once)
          | inr more ↦ (
            b ∷ more.0,
            record {
              text = ap (λ t. b ∷ t) more.1.text;
              len = (let e = more.1.len in omega arith);
              before = c.0;
              within_body = (let x = more.1.before in let y = more.1.within_body in rw (x, y) refl);
            },
          )
        ]),
      ))
]
  where
    at_star : (m : ℕ) → (star && b == 47) ≡ false → AtOnce (b == 42) s m → Ends star (b ∷ s) (suc m) []
    at_star m no_slash once =
        let e : b ≡ 42 = eqb-true b 42 once.0 in
        record {
          text = ap (λ c. c ∷ take m s) e ∙ ap (λ t. 42 ∷ t) once.2;
          len = (let one = once.1 in omega arith);
          before = and_right star (42 == 47) refl;
          within_body = refl;
        }

some_length : (star : Bool) (s : Text) (n : ℕ) → comment_len star s ≡ Some n → 0 < n
some_length star s n h = elim (comment_ends star s n h).1 [
  | inl once ↦ (let e = once.1 in omega arith)
  | inr more ↦ (let e = more.1.len in omega arith)
]

pub comment_is : (s : Text) → IsPiece (47 ∷ 42 ∷ s) (comment_to (comment_len false s))
comment_is s = at_found (comment_len false s) refl
  where
    at_end : (n : ℕ) → (n ≤ length s) → (body : Text) → Ends false s n body → IsPiece (47 ∷ 42 ∷ s) (Gap, n + 2)
    at_end n low body ends =
        let e : suc (suc n) ≡ n + 2 = omega arith in
        subst (λ k. IsPiece (47 ∷ 42 ∷ s) (Gap, k)) e (record {
          within = omega arith;
          some = omega arith;
          spells = subst (λ w. Spells (47 ∷ 42 ∷ w) Gap) (sym ends.text) (comment body ends.within_body);
        })

    at_found : (found : Option ℕ) → comment_len false s ≡ found → IsPiece (47 ∷ 42 ∷ s) (comment_to found)
    at_found (Some n) is = let (low, ends) = comment_ends false s n is in elim ends [ inl once ↦ absurd (let no = once.0 in cc) | inr more ↦ at_end n low more.0 more.1 ]
    at_found None is = record { within = omega arith; some = omega arith; spells = open_comment }

pub comment_covers : (body after : Text) → has_end (body ++ 42 ∷ []) ≡ false → Covers ((47 ∷ 42 ∷ body ++ 42 ∷ 47 ∷ []) ++ after) (length (47 ∷ 42 ∷ body ++ 42 ∷ 47 ∷ [])) Gap
comment_covers body after h =
    let text : (body ++ 42 ∷ 47 ∷ []) ++ after ≡ body ++ 42 ∷ 47 ∷ after = append_assoc body (42 ∷ 47 ∷ []) after in
    let len : length (47 ∷ 42 ∷ body ++ 42 ∷ 47 ∷ []) ≡ length body + 2 + 2 = omega (arith, length-append (47 ∷ 42 ∷ body) (42 ∷ 47 ∷ [])) in
    record {
      other = (Gap, length body + 2 + 2);
      found = front_comment ((body ++ 42 ∷ 47 ∷ []) ++ after) ∙ ap (λ t. Some (comment_to (comment_len false t))) text ∙ ap (λ o. Some (comment_to o)) (comment_reaches false body after refl h);
      high = omega arith;
      same = λ same. refl;
    }

pub open_comment_covers : (after : Text) → Covers (47 ∷ 42 ∷ after) 2 (Faulty OpenComment)
open_comment_covers after = at_found (comment_len false after) refl
  where
    at_found : (found : Option ℕ) → comment_len false after ≡ found → Covers (47 ∷ 42 ∷ after) 2 (Faulty OpenComment)
    at_found (Some n) is =
        let some = some_length false after n is in
        record {
          other = (Gap, n + 2);
          found = front_comment after ∙ ap (λ o. Some (comment_to o)) is;
          high = omega arith;
          same = λ same. absurd (omega arith);
        }
    at_found None is = record {
      other = (Faulty OpenComment, 2);
      found = front_comment after ∙ ap (λ o. Some (comment_to o)) is;
      high = omega arith;
      same = λ same. refl;
    }

pub line_is : (s : Text) → IsPiece (47 ∷ 47 ∷ s) (Gap, prefix_len no_line_end s + 2)
line_is s =
    let e : suc (suc (prefix_len no_line_end s)) ≡ prefix_len no_line_end s + 2 = omega arith in
    let low = prefix_len-le-length no_line_end s in
    subst (λ k. IsPiece (47 ∷ 47 ∷ s) (Gap, k)) e (record {
      within = omega arith;
      some = omega arith;
      spells = line_comment (run_each no_line_end s);
    })

pub line_covers : (body after : Text) → Each no_line_end body → Covers ((47 ∷ 47 ∷ body) ++ after) (length (47 ∷ 47 ∷ body)) Gap
line_covers body after each =
    let low = run_longest no_line_end body after each in
    record {
      other = (Gap, prefix_len no_line_end (body ++ after) + 2);
      found = front_line (body ++ after);
      high = omega arith;
      same = λ same. refl;
    }
