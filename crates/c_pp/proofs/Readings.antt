-- The tokens of a text become one list, or there is one reason why not.
use Rattle.std.proofs.Common.{◌≡◌, ℕ, ◌-◌, ◌≤◌, List, ◌++◌, length, Option, refl, sym, ap, subst, ◌∙◌, arith, length-append}
use Rattle.c_tokens.specs.declared.token.Token.{Token}
use Rattle.c_pp.specs.declared.error.PpError.{PpError}
use Rattle.c_tokens.specs.Names.{Text}
use Rattle.c_pp.specs.Directives.{Definition, IsLine, Obeys, Disobeys}
use Rattle.c_pp.specs.Macros.{Macros, changed, on_line}
use Rattle.c_pp.specs.Expands.{Expanded, HasPpFault, end, directive, token, bad, loop, full}
use Rattle.c_pp.proofs.Lines.{one_line, obeys_one, disobeys_one, not_obeyed}
use Rattle.c_pp.proofs.Replacing.{replaces_one, not_loops, length-on_line}

-- the macros after a line that is obeyed are the same for each reading of it
one_change : {ts a b x y : List Token} {c d : Option Definition} (text : Text) → IsLine ts a x → IsLine ts b y → Obeys text a c → Obeys text b d → (c ≡ d) × (x ≡ y)
one_change {a = a} {b = b} {d = d} text f g o p =
    let lines = one_line f g in
    (obeys_one text o (subst (λ (l : List Token). Obeys text l d) (sym lines.0) p), lines.1)

pub expanded_one : {text : Text} {macros : Macros} {ts a b : List Token} → Expanded text macros ts a → Expanded text macros ts b → a ≡ b
expanded_one end end = refl
expanded_one {text = text} {macros = macros} (directive {change = c} h f o d) (directive {rest = y} {out = b} {change = e} i g p q) =
    let same = one_change text f g o p in
    expanded_one d (subst (λ (r : List Token). Expanded text (changed c macros) r b) (sym same.1) (subst (λ (k : Option Definition). Expanded text (changed k macros) y b) (sym same.0) q))
expanded_one (directive h f o d) (token i r q) = absurd cc
expanded_one (token h r d) (directive i g p q) = absurd cc
expanded_one {text = text} {macros = macros} (token {token = t} {piece = p} {out = a} h r d) (token {piece = q} {out = b} i s e) =
    let pieces : p ≡ q = replaces_one text macros r s in
    let rest : a ≡ b = expanded_one d e in
    ap (λ l. on_line t.line l ++ a) pieces ∙ ap (λ l. on_line t.line q ++ l) rest

shorter : (line : ℕ) (piece out : List Token) (room : ℕ) → length (on_line line piece ++ out) ≤ room → (length piece ≤ room) × (length out ≤ room - length piece)
shorter line piece out room low =
    let a = length-append (on_line line piece) out in
    let b = length-on_line line piece in
    (omega arith, omega arith)

pub not_both : {text : Text} {macros : Macros} {ts out : List Token} {room : ℕ} {e : PpError} → Expanded text macros ts out → length out ≤ room → HasPpFault text macros room ts e → ⊥
not_both end low r = elim r [ ]
not_both {text = text} (directive {hash = hash} h f o d) low (bad {e = e} i g n) =
    let lines = one_line f g in
    not_obeyed text (subst (λ (l : List Token). Disobeys text l hash.line e) (sym lines.0) n) o
not_both (directive h f o d) low (loop i l) = absurd cc
not_both (directive h f o d) low (full i r over) = absurd cc
not_both {text = text} {macros = macros} {room = room} {e = e} (directive {change = c} h f o d) low (directive {rest = y} {change = k} i g p q) =
    let same = one_change text f g o p in
    not_both d low (subst (λ (r : List Token). HasPpFault text (changed c macros) room r e) (sym same.1) (subst (λ (m : Option Definition). HasPpFault text (changed m macros) room y e) (sym same.0) q))
not_both (directive h f o d) low (token i r in_room q) = absurd cc
not_both (token h r d) low (bad i g n) = absurd cc
not_both {text = text} {macros = macros} (token h r d) low (loop i l) = not_loops text macros r l
not_both {text = text} {macros = macros} {room = room} (token {token = t} {piece = p} {out = out} h r d) low (full {piece = q} i s over) =
    let pieces = ap length (replaces_one text macros r s) in
    let short = shorter t.line p out room low in
    let a = short.0 in
    absurd (omega arith)
not_both (token h r d) low (directive i g p q) = absurd cc
not_both {text = text} {macros = macros} {room = room} {e = e} (token {token = t} {ts = ts} {piece = p} {out = out} h r d) low (token {piece = q} i s in_room refused) =
    let short = shorter t.line p out room low in
    not_both d short.1 (subst (λ (l : List Token). HasPpFault text macros (room - length l) ts e) (sym (replaces_one text macros r s)) refused)

pub refuses_one : {text : Text} {macros : Macros} {ts : List Token} {room : ℕ} {d e : PpError} → HasPpFault text macros room ts d → HasPpFault text macros room ts e → d ≡ e
refuses_one {text = text} (bad {hash = hash} h f n) (bad {e = e} i g m) =
    let lines = one_line f g in
    disobeys_one text n (subst (λ (l : List Token). Disobeys text l hash.line e) (sym lines.0) m)
refuses_one (bad h f n) (loop i l) = absurd cc
refuses_one (bad h f n) (full i s over) = absurd cc
refuses_one {text = text} (bad {hash = hash} {e = e} h f n) (directive i g p q) =
    let lines = one_line f g in
    absurd (not_obeyed text (subst (λ (l : List Token). Disobeys text l hash.line e) lines.0 n) p)
refuses_one (bad h f n) (token i s low q) = absurd cc
refuses_one (loop h l) (bad i g m) = absurd cc
refuses_one (loop h l) (loop i k) = refl
refuses_one {text = text} {macros = macros} (loop h l) (full i s over) = absurd (not_loops text macros s l)
refuses_one (loop h l) (directive i g p q) = absurd cc
refuses_one {text = text} {macros = macros} (loop h l) (token i s low q) = absurd (not_loops text macros s l)
refuses_one (full h r over) (bad i g m) = absurd cc
refuses_one {text = text} {macros = macros} (full h r over) (loop i l) = absurd (not_loops text macros r l)
refuses_one (full h r over) (full i s past) = refl
refuses_one (full h r over) (directive i g p q) = absurd cc
refuses_one {text = text} {macros = macros} (full h r over) (token i s low q) = let pieces = ap length (replaces_one text macros r s) in absurd (omega arith)
refuses_one {text = text} (directive h f o d) (bad {hash = hash} {e = e} i g m) =
    let lines = one_line f g in
    absurd (not_obeyed text (subst (λ (l : List Token). Disobeys text l hash.line e) (sym lines.0) m) o)
refuses_one (directive h f o d) (loop i l) = absurd cc
refuses_one (directive h f o d) (full i s over) = absurd cc
refuses_one {text = text} {macros = macros} {room = room} {e = e} (directive {change = c} h f o d) (directive {rest = y} {change = k} i g p q) =
    let same = one_change text f g o p in
    refuses_one d (subst (λ (r : List Token). HasPpFault text (changed c macros) room r e) (sym same.1) (subst (λ (m : Option Definition). HasPpFault text (changed m macros) room y e) (sym same.0) q))
refuses_one (directive h f o d) (token i s low q) = absurd cc
refuses_one (token h r low d) (bad i g m) = absurd cc
refuses_one {text = text} {macros = macros} (token h r low d) (loop i l) = absurd (not_loops text macros r l)
refuses_one {text = text} {macros = macros} (token h r low d) (full i s over) = let pieces = ap length (replaces_one text macros r s) in absurd (omega arith)
refuses_one (token h r low d) (directive i g p q) = absurd cc
refuses_one {text = text} {macros = macros} {room = room} {e = e} (token {ts = ts} h r low d) (token {piece = q} i s fits refused) =
    refuses_one d (subst (λ (l : List Token). HasPpFault text macros (room - length l) ts e) (sym (replaces_one text macros r s)) refused)
