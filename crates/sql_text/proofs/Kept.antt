-- What `tokens` answers, by the pieces of the text.
use Rattle.std.proofs.Common.{◌≡◌, ◌<◌, ◌≤◌, ℕ, ◌+◌, ◌-◌, Bool, true, false, List, [], ◌∷◌, ◌++◌, length, take, drop, map, Option, Some, None, Result, Ok, Err, Vec, refl, sym, ap, subst, ◌∙◌, arith, append_assoc}
use Rattle.std.specs.Global.{Global}
use Rattle.std.specs.Prelude.{nat_le, All, IfOk}
use Rattle.std.proofs.lemmas.List.Elements.{All-nil, All-cons, All-append}
use Rattle.std.proofs.lemmas.Bool.{leb-true, leb-false}
use Rattle.std.proofs.lemmas.List.{length-append, take_at, drop_at}
use Rattle.scan_base.specs.declared.fault.Fault.{Fault}
use Rattle.scan_base.specs.declared.fault.Fault.TheVariants.{LimitReached, OutOfMemory}
use Rattle.scan_base.specs.Reading.{◌>>=◌, demand, GivesUnlessMemory}
use Rattle.sql_text.specs.declared.token.Token.{Token}
use Rattle.sql_text.specs.declared.token.TokenKind.{TokenKind}
use Rattle.sql_text.specs.Standard.{Lexeme, Piece, AreCut, token_here, tokens_of, AreTokens, kind_of}
use Rattle.sql_text.specs.Reading.{tokens_from, tokens_in}
use Rattle.sql_text.specs.Calls.{lexeme_of, KeepsPieces, IsAtPlace}
use Rattle.sql_text.proofs.Cutting.{reading_keeps_pieces, refused_keeps}

kept_tokens : (text : List ℕ) (tokens : List Lexeme) → tokens_in text ≡ Ok tokens → (length text ≤ 16384) × AreTokens text tokens
unfolding tokens_in
kept_tokens text tokens e = go (nat_le (length text) 16384) refl e
  where
    go : (b : Bool) → nat_le (length text) 16384 ≡ b → (demand b LimitReached >>= λ (held : Unit {0}). tokens_from 0 text) ≡ Ok tokens → (length text ≤ 16384) × AreTokens text tokens
    go true f e = (leb-true (length text) 16384 f, (reading_keeps_pieces text tokens).0 e)
    go false f e = absurd cc

kept_fault : (text : List ℕ) (fault : Fault) → tokens_in text ≡ Err fault → KeepsPieces (Err fault) text
unfolding tokens_in
kept_fault text fault e = go (nat_le (length text) 16384) refl e
  where
    go : (b : Bool) → nat_le (length text) 16384 ≡ b → (demand b LimitReached >>= λ (held : Unit {0}). tokens_from 0 text) ≡ Err fault → KeepsPieces (Err fault) text
    go true f e =
        let c = refused_keeps text fault e in
        subst (λ (x : Fault). KeepsPieces (Err x) text) (sym c.1) (leb-true (length text) 16384 f, c.2)
    go false f e =
        let same : LimitReached ≡ fault = cc in
        let long : 16384 < length text = omega (arith, leb-false (length text) 16384 f) in
        subst (λ (x : Fault). KeepsPieces (Err x) text) same long

pub kept : (result : Result (Vec Token Global) Fault) (text : List ℕ)
    → GivesUnlessMemory (λ (tokens : Vec Token Global). map lexeme_of tokens.items) result (tokens_in text) → KeepsPieces result text
kept (Ok tokens) text e = kept_tokens text (map lexeme_of tokens.items) e
kept (Err OutOfMemory) text e = tt
kept (Err other) text e = kept_fault text other (e (λ same. cc))

-- ---- each token is the part of the text at its place

here_place : (sql before text after : List ℕ) (kind : Option TokenKind) → sql ≡ before ++ (text ++ after) → All (IsAtPlace sql) (token_here kind (length before) text)
here_place sql before text after None e = All-nil (IsAtPlace sql)
here_place sql before text after (Some kind) e =
    let size : (length before + length text) - length before ≡ length text = omega arith in
    let dropped : drop (length before) sql ≡ text ++ after = ap (drop (length before)) e ∙ drop_at before (text ++ after) (length before) refl in
    let part : take ((length before + length text) - length before) (drop (length before) sql) ≡ text = rw (size, dropped) (take_at text after (length text) refl) in
    All-cons (IsAtPlace sql) _ [] part (All-nil (IsAtPlace sql))

places : (pieces : List Piece) (sql before bytes : List ℕ) → AreCut bytes pieces [] → sql ≡ before ++ bytes → All (IsAtPlace sql) (tokens_of (length before) pieces)
places [] sql before bytes cut e = All-nil (IsAtPlace sql)
places (piece ∷ pieces) sql before bytes cut e =
    let whole : sql ≡ before ++ (piece.text ++ cut.0) = e ∙ ap (λ (x : List ℕ). before ++ x) cut.1.whole in
    let next : length (before ++ piece.text) ≡ length before + length piece.text = length-append before piece.text in
    let more = places pieces sql (before ++ piece.text) cut.0 cut.2 (whole ∙ sym (append_assoc before piece.text cut.0)) in
    All-append (IsAtPlace sql) (token_here (kind_of piece.form piece.text) (length before) piece.text) (tokens_of (length before + length piece.text) pieces)
    (here_place sql before piece.text cut.0 (kind_of piece.form piece.text) whole)
    (subst (λ (n : ℕ). All (IsAtPlace sql) (tokens_of n pieces)) next more)

pub placed : (result : Result (Vec Token Global) Fault) (text : List ℕ) → KeepsPieces result text
    → IfOk result (λ (tokens : Vec Token Global). All (IsAtPlace text) (map lexeme_of tokens.items))
placed (Ok tokens) text h = subst (All (IsAtPlace text)) (sym h.1.are) (places h.1.pieces text [] text h.1.cut refl)
placed (Err fault) text h = tt
