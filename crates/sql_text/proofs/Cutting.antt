-- What reads as tokens is cut into pieces, and what is cut into pieces reads so.
use Rattle.std.proofs.Common.{◌≡◌, ◌≢◌, ◌≤◌, ◌↔◌, ◌⊎◌, inl, inr, ℕ, zero, suc, ◌+◌, Bool, true, false, List, [], ◌∷◌, ◌++◌, length, take, drop, Option, Some, None, Result, Ok, Err, refl, sym, ap, subst, ◌∙◌, arith}
use Rattle.std.specs.Prelude.{◌&&◌}
use Rattle.std.specs.List.{list_all}
use Rattle.std.proofs.lemmas.List.{length-append, take_at, drop_at}
use Rattle.scan_base.specs.declared.fault.Fault.{Fault}
use Rattle.scan_base.specs.declared.fault.Fault.TheVariants.{BadSql}
use Rattle.scan_base.specs.Reading.{◌>>=◌, wanted}
use Rattle.sql_text.specs.declared.front.Front.{Front}
use Rattle.sql_text.specs.declared.token.TokenKind.{TokenKind}
use Rattle.sql_text.proofs.Groups.{some_byte}
use Rattle.sql_text.specs.Standard.{SpellsPiece, Form, Piece, StandsInFront, AreCut, sound, kind_of, Lexeme, token_here, tokens_of, AreTokens, HasFaultAt}
use Rattle.sql_text.specs.Reading.{front_at, tokens_within, tokens_from}
use Rattle.sql_text.proofs.Fronts.{front_read}
use Rattle.sql_text.proofs.Unique.{same_piece}
use Rattle.sql_text.proofs.Faulty.{NoneSound, none_sound}
use Rattle.sql_text.proofs.Scanning.{tokens_step, tokens_stop}
use Rattle.sql_text.proofs.Boundaries.{front_some}

-- ---- a piece that is read, and the piece that stands

pub record Piecewise (bytes : List ℕ) (front : Front) : Type 0 where
  pub piece : Piece
  pub rest : List ℕ
  pub stands : StandsInFront piece bytes rest
  pub is_right : sound piece ≡ true
  pub kind_is : front.kind ≡ kind_of piece.form piece.text
  pub len_is : front.len ≡ length piece.text
  pub taken : take front.len bytes ≡ piece.text
  pub dropped : drop front.len bytes ≡ rest

pub piecewise : (bytes : List ℕ) (front : Front) → front_at bytes ≡ Some front → Piecewise bytes front
piecewise bytes front e =
    let r = front_read bytes front e in
    let s = r.stands in
    record {
      piece = record { form = r.form; text = s.front };
      rest = s.rest;
      stands = s.stands;
      is_right = r.sound;
      kind_is = r.kind_is;
      len_is = s.len_is;
      taken = ap (take front.len) s.stands.whole ∙ (take_at s.front s.rest front.len (sym s.len_is));
      dropped = ap (drop front.len) s.stands.whole ∙ (drop_at s.front s.rest front.len (sym s.len_is));
    }

-- the front of a text where this sound piece stands
pub front_again : (bytes : List ℕ) (piece : Piece) (rest : List ℕ) → StandsInFront piece bytes rest → sound piece ≡ true
    → front_at bytes ≡ Some (record { kind = kind_of piece.form piece.text; len = length piece.text })
front_again bytes piece rest s right = go bytes s (front_at bytes) refl
  where
    go : (bytes : List ℕ) → StandsInFront piece bytes rest → (o : Option Front) → front_at bytes ≡ o → front_at bytes ≡ Some (record { kind = kind_of piece.form piece.text; len = length piece.text })
    go bytes s (Some front) e =
        let p = piecewise bytes front e in
        let same = same_piece bytes p.piece piece p.rest rest p.stands s in
        let kinds : front.kind ≡ kind_of piece.form piece.text = p.kind_is ∙ ap (λ (f : Form). kind_of f p.piece.text) same.forms ∙ ap (kind_of piece.form) same.texts in
        let lens : front.len ≡ length piece.text = p.len_is ∙ ap length same.texts in
        e ∙ ap Some (λ i. record { kind = kinds i; len = lens i })
    go [] s None e = absurd (nothing piece.text s.whole s.spells)
      where
        nothing : (text : List ℕ) → [] ≡ text ++ rest → SpellsPiece piece.form text → ⊥
        nothing [] e h = some_byte piece.form h
        nothing (b ∷ text) e h = cc
    go (b ∷ bytes) s None e = let wrong = none_sound b bytes e piece rest s in absurd cc

-- ---- lists of tokens

joined : {A B : Type 0} (read : Result A Fault) (next : A → Result B Fault) (y : B) → (read >>= next) ≡ Ok y → (x : A) × (read ≡ Ok x) × (next x ≡ Ok y)
joined (Ok x) next y e = (x, refl, e)
joined (Err fault) next y e = absurd cc

pieced : (start : ℕ) (pieces : List Piece) {a b : Option TokenKind} {t u : List ℕ} {m n : ℕ} {more : List Lexeme} → a ≡ b → t ≡ u → m ≡ n → more ≡ tokens_of (start + m) pieces
    → token_here a start t ++ more ≡ token_here b start u ++ tokens_of (start + n) pieces
pieced start pieces e f g h = rw (e, f, ← g, h) refl

pub record Cut (start : ℕ) (bytes : List ℕ) (tokens : List Lexeme) : Type 0 where
  pub pieces : List Piece
  pub cut : AreCut bytes pieces []
  pub all_sound : list_all sound pieces ≡ true
  pub are : tokens ≡ tokens_of start pieces

cut_of : (most start : ℕ) (bytes : List ℕ) (tokens : List Lexeme) → tokens_within most start bytes ≡ Ok tokens → Cut start bytes tokens
unfolding tokens_within
cut_of zero start [] tokens e = let none : tokens ≡ [] = cc in record { pieces = []; cut = refl; all_sound = refl; are = none }
cut_of (suc most) start [] tokens e = let none : tokens ≡ [] = cc in record { pieces = []; cut = refl; all_sound = refl; are = none }
cut_of zero start (b ∷ bytes) tokens e = absurd cc
cut_of (suc most) start (b ∷ bytes) tokens e = go (front_at (b ∷ bytes)) refl (cut_of most) e
  where
    after : Front → Result (List Lexeme) Fault
    after front = tokens_within most (start + front.len) (drop front.len (b ∷ bytes)) >>= λ (more : List Lexeme). Ok (token_here front.kind start (take front.len (b ∷ bytes)) ++ more)

    go : (o : Option Front) → front_at (b ∷ bytes) ≡ o
        → ((start : ℕ) (rest : List ℕ) (tokens : List Lexeme) → tokens_within most start rest ≡ Ok tokens → Cut start rest tokens)
        → (wanted o (BadSql start) >>= after) ≡ Ok tokens → Cut start (b ∷ bytes) tokens
    go None f more e = absurd cc
    go (Some front) f more e =
        let p = piecewise (b ∷ bytes) front f in
        let j = joined (tokens_within most (start + front.len) (drop front.len (b ∷ bytes))) _ tokens e in
        let c = more (start + front.len) (drop front.len (b ∷ bytes)) j.0 j.1 in
        let made : token_here front.kind start (take front.len (b ∷ bytes)) ++ j.0 ≡ tokens = cc in
        record {
          pieces = p.piece ∷ c.pieces;
          cut = (p.rest, p.stands, subst (λ (r : List ℕ). AreCut r c.pieces []) p.dropped c.cut);
          all_sound = rw (p.is_right, c.all_sound) refl;
          are = sym made ∙ pieced start c.pieces p.kind_is p.taken p.len_is c.are;
        }

nothing_left : (start : ℕ) → tokens_from start [] ≡ Ok []
unfolding tokens_from tokens_within
nothing_left start = refl

tokens_again : (pieces : List Piece) (start : ℕ) (bytes : List ℕ) → AreCut bytes pieces [] → list_all sound pieces ≡ true → tokens_from start bytes ≡ Ok (tokens_of start pieces)
tokens_again [] start bytes cut right = rw cut (nothing_left start)
tokens_again (piece ∷ pieces) start bytes cut right = go (tokens_again pieces) (sound piece) refl right
  where
    go : ((start : ℕ) (bytes : List ℕ) → AreCut bytes pieces [] → list_all sound pieces ≡ true → tokens_from start bytes ≡ Ok (tokens_of start pieces))
        → (x : Bool) → sound piece ≡ x → (x && list_all sound pieces) ≡ true → tokens_from start bytes ≡ Ok (tokens_of start (piece ∷ pieces))
    go more false e right = absurd cc
    go more true e right =
        let n = length piece.text in
        let whole = cut.1.whole in
        let taken : take n bytes ≡ piece.text = ap (take n) whole ∙ take_at piece.text cut.0 n refl in
        let dropped : drop n bytes ≡ cut.0 = ap (drop n) whole ∙ drop_at piece.text cut.0 n refl in
        tokens_step start bytes _ (front_again bytes piece cut.0 cut.1 e) ∙ rw (taken, dropped, more (start + n) cut.0 cut.2 right) refl

-- ---- first faults

pub record Stop (start : ℕ) (bytes : List ℕ) (fault : Fault) : Type 0 where
  pub pieces : List Piece
  pub rest : List ℕ
  pub cut : AreCut bytes pieces rest
  pub all_sound : list_all sound pieces ≡ true
  pub position : ℕ
  pub position_is : position + length rest ≡ start + length bytes
  pub left : rest ≢ []
  pub none : NoneSound rest
  pub fault_is : fault ≡ BadSql position

refused : {B : Type 0} (read : Result (List Lexeme) Fault) (next : List Lexeme → B) (fault : Fault) → (read >>= λ (more : List Lexeme). Ok (next more)) ≡ Err fault → read ≡ Err fault
refused (Ok x) next fault e = absurd cc
refused (Err other) next fault e = let same : other ≡ fault = cc in ap Err same

stop_of : (most start : ℕ) (bytes : List ℕ) (fault : Fault) → length bytes ≤ most → tokens_within most start bytes ≡ Err fault → Stop start bytes fault
unfolding tokens_within
stop_of zero start [] fault le e = absurd cc
stop_of (suc most) start [] fault le e = absurd cc
stop_of zero start (b ∷ bytes) fault le e = absurd (omega arith)
stop_of (suc most) start (b ∷ bytes) fault le e = go (front_at (b ∷ bytes)) refl (stop_of most) e
  where
    after : Front → Result (List Lexeme) Fault
    after front = tokens_within most (start + front.len) (drop front.len (b ∷ bytes)) >>= λ (more : List Lexeme). Ok (token_here front.kind start (take front.len (b ∷ bytes)) ++ more)

    go : (o : Option Front) → front_at (b ∷ bytes) ≡ o
        → ((start : ℕ) (rest : List ℕ) (fault : Fault) → length rest ≤ most → tokens_within most start rest ≡ Err fault → Stop start rest fault)
        → (wanted o (BadSql start) >>= after) ≡ Err fault → Stop start (b ∷ bytes) fault
    go None f more e =
        let here : BadSql start ≡ fault = cc in
        record {
          pieces = [];
          rest = b ∷ bytes;
          cut = refl;
          all_sound = refl;
          position = start;
          position_is = refl;
          left = λ empty. cc;
          none = none_sound b bytes f;
          fault_is = sym here;
        }
    go (Some front) f more e =
        let p = piecewise (b ∷ bytes) front f in
        let some = front_some (b ∷ bytes) front f in
        let lens = ap length p.stands.whole in
        let sum = length-append p.piece.text p.rest in
        let left_len = ap length p.dropped in
        let j = refused (tokens_within most (start + front.len) (drop front.len (b ∷ bytes))) (λ (more : List Lexeme). token_here front.kind start (take front.len (b ∷ bytes)) ++ more) fault e in
        let c = more (start + front.len) (drop front.len (b ∷ bytes)) fault (omega (arith, p.len_is)) j in
        record {
          pieces = p.piece ∷ c.pieces;
          rest = c.rest;
          cut = (p.rest, p.stands, subst (λ (r : List ℕ). AreCut r c.pieces c.rest) p.dropped c.cut);
          all_sound = rw (p.is_right, c.all_sound) refl;
          position = c.position;
          position_is = omega (arith, c.position_is, p.len_is);
          left = c.left;
          none = c.none;
          fault_is = c.fault_is;
        }

none_read : (bytes : List ℕ) → NoneSound bytes → front_at bytes ≡ None
none_read bytes none = go (front_at bytes) refl
  where
    go : (o : Option Front) → front_at bytes ≡ o → front_at bytes ≡ None
    go None e = e
    go (Some front) e = let p = piecewise bytes front e in let wrong = none p.piece p.rest p.stands in let right = p.is_right in absurd cc

fault_again : (pieces : List Piece) (start : ℕ) (bytes rest : List ℕ) (position : ℕ) → AreCut bytes pieces rest → list_all sound pieces ≡ true
    → position + length rest ≡ start + length bytes → rest ≢ [] → NoneSound rest → tokens_from start bytes ≡ Err (BadSql position)
fault_again [] start bytes rest position cut right place left none =
    let here : position ≡ start = omega (arith, ap length cut) in
    rw here (tokens_stop start bytes (λ empty. left (sym cut ∙ empty)) (none_read bytes (rw cut none)))
fault_again (piece ∷ pieces) start bytes rest position cut right place left none = go (fault_again pieces) (sound piece) refl right
  where
    go : ((start : ℕ) (bytes rest : List ℕ) (position : ℕ) → AreCut bytes pieces rest → list_all sound pieces ≡ true
        → position + length rest ≡ start + length bytes → rest ≢ [] → NoneSound rest → tokens_from start bytes ≡ Err (BadSql position))
        → (x : Bool) → sound piece ≡ x → (x && list_all sound pieces) ≡ true → tokens_from start bytes ≡ Err (BadSql position)
    go more false e right = absurd cc
    go more true e right =
        let n = length piece.text in
        let whole = cut.1.whole in
        let dropped : drop n bytes ≡ cut.0 = ap (drop n) whole ∙ drop_at piece.text cut.0 n refl in
        let there = more (start + n) cut.0 rest position cut.2 right (omega (arith, place, ap length whole, length-append piece.text cut.0)) left none in
        tokens_step start bytes _ (front_again bytes piece cut.0 cut.1 e) ∙ rw (dropped, there) refl

-- ---- the laws

pub reading_keeps_pieces : (text : List ℕ) (tokens : List Lexeme) → (tokens_from 0 text ≡ Ok tokens) ↔ AreTokens text tokens
unfolding tokens_from
reading_keeps_pieces text tokens = (there, back)
  where
    there : tokens_from 0 text ≡ Ok tokens → AreTokens text tokens
    there e = let c = cut_of (length text) 0 text tokens e in record { pieces = c.pieces; cut = c.cut; all_sound = c.all_sound; are = c.are }

    back : AreTokens text tokens → tokens_from 0 text ≡ Ok tokens
    back h = tokens_again h.pieces 0 text h.cut h.all_sound ∙ ap Ok (sym h.are)

pub refusal_is_first_fault : (text : List ℕ) (position : ℕ) → (tokens_from 0 text ≡ Err (BadSql position)) ↔ HasFaultAt text position
unfolding tokens_from
refusal_is_first_fault text position = (there, back)
  where
    there : tokens_from 0 text ≡ Err (BadSql position) → HasFaultAt text position
    there e =
        let c = stop_of (length text) 0 text (BadSql position) (omega arith) e in
        let f = c.fault_is in
        let same : position ≡ c.position = cc in
        record { pieces = c.pieces; rest = c.rest; cut = c.cut; all_sound = c.all_sound; position_is = omega (arith, c.position_is, same); left = c.left; none = c.none }

    back : HasFaultAt text position → tokens_from 0 text ≡ Err (BadSql position)
    back h = fault_again h.pieces 0 text h.rest position h.cut h.all_sound (omega (arith, h.position_is)) h.left h.none

pub at_most_one_list : (text : List ℕ) (tokens others : List Lexeme) → AreTokens text tokens → AreTokens text others → tokens ≡ others
at_most_one_list text tokens others s t =
    let e : Ok tokens ≡ Ok others = sym ((reading_keeps_pieces text tokens).1 s) ∙ (reading_keeps_pieces text others).1 t in
    cc

pub at_most_one_fault : (text : List ℕ) (position other : ℕ) → HasFaultAt text position → HasFaultAt text other → position ≡ other
at_most_one_fault text position other s t =
    let a = (refusal_is_first_fault text position).1 s in
    let b = (refusal_is_first_fault text other).1 t in
    cc

pub tokens_or_fault : (text : List ℕ) → ((tokens : List Lexeme) × AreTokens text tokens) ⊎ ((position : ℕ) × HasFaultAt text position)
unfolding tokens_from
tokens_or_fault text = go (tokens_from 0 text) refl
  where
    go : (read : Result (List Lexeme) Fault) → tokens_from 0 text ≡ read → ((tokens : List Lexeme) × AreTokens text tokens) ⊎ ((position : ℕ) × HasFaultAt text position)
    go (Ok tokens) e = inl (tokens, (reading_keeps_pieces text tokens).0 e)
    go (Err fault) e =
        let c = stop_of (length text) 0 text fault (omega arith) e in
        inr (c.position, (refusal_is_first_fault text c.position).0 (e ∙ ap Err c.fault_is))

pub refused_keeps : (text : List ℕ) (fault : Fault) → tokens_from 0 text ≡ Err fault → (position : ℕ) × (fault ≡ BadSql position) × HasFaultAt text position
unfolding tokens_from
refused_keeps text fault e =
    let c = stop_of (length text) 0 text fault (omega arith) e in
    (c.position, c.fault_is, (refusal_is_first_fault text c.position).0 (e ∙ ap Err c.fault_is))
