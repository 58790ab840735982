-- What stands in front in the profile's words is read there.
use Rattle.std.proofs.Common.{◌≡◌, ◌≢◌, ℕ, suc, ◌+◌, ◌<◌, ◌≤◌, inl, inr, true, false, Bool, List, [], ◌∷◌, ◌++◌, length, take, drop, Some, Ok, Err, refl, arith}
use Rattle.std.specs.Prelude.{◌==◌, nat_lt, if◌then◌else◌}
use Rattle.std.specs.Int.{w16, w32, from_be_bytes, to_be_bytes}
use Rattle.std.specs.Str.{is_utf8}
use Rattle.std.proofs.lemmas.Bool.{le-ltb, lt-ltb, ne_eqb}
use Rattle.std.proofs.lemmas.List.{length-append, take_at, drop_at}
use Rattle.std.proofs.lemmas.Nat.{from_be_bytes-to_be_bytes_2, from_be_bytes-to_be_bytes_4}
use Rattle.scan_base.specs.declared.fault.Fault.{Fault}
use Rattle.scan_base.specs.declared.fault.Fault.TheVariants.{BadFrame, MessageTooLarge}
use Rattle.grpc_frame.specs.declared.place.Place.{Place}
use Rattle.grpc_frame.specs.declared.place.Place.TheVariants.{BetweenCalls, InsideCall, InAnswer}
use Rattle.grpc_frame.specs.declared.record.Record.{Record}
use Rattle.grpc_frame.specs.declared.record.Record.TheVariants.{Open, Message, End, Status}
use Rattle.grpc_frame.specs.declared.head.RecordKind.TheVariants as kinds
use Rattle.grpc_frame.specs.Records.{Received, spelling, IsRecord, place_after, Leads, IsKindAt, Flaw, wrong_kind, long_path, wrong_flag, long_message, bad_text, IsFlaw, shown_by, fault_of, Breaks}
use Rattle.grpc_frame.specs.Head.{head_by, head_of, open_head, message_head_in, status_head_in}
use Rattle.grpc_frame.specs.Front.{Faulty, Whole, front_by, front_of}
use Rattle.std.proofs.lemmas.Str.{is_utf8-from_IsUtf8}
use Rattle.scan_base.proofs.Texts.{is_utf8_false}

-- what has come at a place
abbrev pub at : Place → List ℕ → Received
at place bytes = record { bytes = bytes; place = place }

-- the kind byte is there
pub front_kind : (place : Place) (kind : ℕ) (bytes : List ℕ) → front_of (at place (kind ∷ bytes)) ≡ front_by (at place (kind ∷ bytes)) (head_by place kind (kind ∷ bytes))
unfolding front_of head_of
front_kind place kind bytes =
    let some : (length (kind ∷ bytes) == 0) ≡ false = ne_eqb _ 0 (λ z. omega arith) in
    rw some refl

-- ---- the heads of what is written

open_read : (b c n : ℕ) (rest : List ℕ) → from_be_bytes w16 (b ∷ c ∷ []) ≡ n → n ≤ 256 → open_head (1 ∷ b ∷ c ∷ rest) ≡ Ok (Some (record { kind = kinds.Open; len = 3; content_len = n }))
open_read b c n rest e small =
    let head : nat_lt (length (1 ∷ b ∷ c ∷ rest)) 3 ≡ false = le-ltb _ 3 (omega arith) in
    let within : nat_lt 256 n ≡ false = le-ltb 256 n small in
    rw (head, e, within) refl

open_refused : (b c n : ℕ) (rest : List ℕ) → from_be_bytes w16 (b ∷ c ∷ []) ≡ n → 256 < n → open_head (1 ∷ b ∷ c ∷ rest) ≡ Err BadFrame
open_refused b c n rest e large =
    let head : nat_lt (length (1 ∷ b ∷ c ∷ rest)) 3 ≡ false = le-ltb _ 3 (omega arith) in
    let above : nat_lt 256 n ≡ true = lt-ltb 256 n large in
    rw (head, e, above) refl

message_read : (b c d f n : ℕ) (rest : List ℕ) → from_be_bytes w32 (b ∷ c ∷ d ∷ f ∷ []) ≡ n → n ≤ 16777216 → message_head_in (2 ∷ 0 ∷ b ∷ c ∷ d ∷ f ∷ rest) ≡ Ok (Some (record { kind = kinds.Message; len = 6; content_len = n }))
message_read b c d f n rest e small =
    let flagged : nat_lt (length (2 ∷ 0 ∷ b ∷ c ∷ d ∷ f ∷ rest)) 2 ≡ false = le-ltb _ 2 (omega arith) in
    let head : nat_lt (length (2 ∷ 0 ∷ b ∷ c ∷ d ∷ f ∷ rest)) 6 ≡ false = le-ltb _ 6 (omega arith) in
    let within : nat_lt 16777216 n ≡ false = le-ltb 16777216 n small in
    rw (flagged, head, e, within) refl

message_refused : (b c d f n : ℕ) (rest : List ℕ) → from_be_bytes w32 (b ∷ c ∷ d ∷ f ∷ []) ≡ n → 16777216 < n → message_head_in (2 ∷ 0 ∷ b ∷ c ∷ d ∷ f ∷ rest) ≡ Err MessageTooLarge
message_refused b c d f n rest e large =
    let flagged : nat_lt (length (2 ∷ 0 ∷ b ∷ c ∷ d ∷ f ∷ rest)) 2 ≡ false = le-ltb _ 2 (omega arith) in
    let head : nat_lt (length (2 ∷ 0 ∷ b ∷ c ∷ d ∷ f ∷ rest)) 6 ≡ false = le-ltb _ 6 (omega arith) in
    let above : nat_lt 16777216 n ≡ true = lt-ltb 16777216 n large in
    rw (flagged, head, e, above) refl

flag_refused : (flag : ℕ) (rest : List ℕ) → flag ≢ 0 → message_head_in (2 ∷ flag ∷ rest) ≡ Err BadFrame
flag_refused flag rest ne =
    let flagged : nat_lt (length (2 ∷ flag ∷ rest)) 2 ≡ false = le-ltb _ 2 (omega arith) in
    let other : (flag == 0) ≡ false = ne_eqb flag 0 ne in
    rw (flagged, other) refl

status_read : (code b c n : ℕ) (rest : List ℕ) → from_be_bytes w16 (b ∷ c ∷ []) ≡ n → status_head_in (4 ∷ code ∷ b ∷ c ∷ rest) ≡ Ok (Some (record { kind = kinds.Status code; len = 4; content_len = n }))
status_read code b c n rest e =
    let head : nat_lt (length (4 ∷ code ∷ b ∷ c ∷ rest)) 4 ≡ false = le-ltb _ 4 (omega arith) in
    rw (head, e) refl

-- ---- the content after a head

content_3 : (a b c : ℕ) (content rest : List ℕ) (n : ℕ) → length content ≡ n → (drop 3 (take (3 + n) (a ∷ b ∷ c ∷ (content ++ rest))) ≡ content) × (drop (3 + n) (a ∷ b ∷ c ∷ (content ++ rest)) ≡ rest)
content_3 a b c content rest n l =
    let e : 3 + n ≡ suc (suc (suc n)) = omega arith in
    (rw e (take_at content rest n l), rw e (drop_at content rest n l))

content_4 : (a b c d : ℕ) (content rest : List ℕ) (n : ℕ) → length content ≡ n → (drop 4 (take (4 + n) (a ∷ b ∷ c ∷ d ∷ (content ++ rest))) ≡ content) × (drop (4 + n) (a ∷ b ∷ c ∷ d ∷ (content ++ rest)) ≡ rest)
content_4 a b c d content rest n l =
    let e : 4 + n ≡ suc (suc (suc (suc n))) = omega arith in
    (rw e (take_at content rest n l), rw e (drop_at content rest n l))

content_6 : (a b c d f g : ℕ) (content rest : List ℕ) (n : ℕ) → length content ≡ n → (drop 6 (take (6 + n) (a ∷ b ∷ c ∷ d ∷ f ∷ g ∷ (content ++ rest))) ≡ content) × (drop (6 + n) (a ∷ b ∷ c ∷ d ∷ f ∷ g ∷ (content ++ rest)) ≡ rest)
content_6 a b c d f g content rest n l =
    let e : 6 + n ≡ suc (suc (suc (suc (suc (suc n))))) = omega arith in
    (rw e (take_at content rest n l), rw e (drop_at content rest n l))

open_again : (b c n : ℕ) (content rest : List ℕ) → from_be_bytes w16 (b ∷ c ∷ []) ≡ n → length content ≡ n → n ≤ 256 → front_of (at BetweenCalls (1 ∷ b ∷ c ∷ (content ++ rest))) ≡ Whole (Open content) (at InsideCall rest)
open_again b c n content rest e l small =
    let p = content_3 1 b c content rest n l in
    let long : nat_lt (length (1 ∷ b ∷ c ∷ (content ++ rest))) (3 + n) ≡ false = le-ltb _ (3 + n) (omega (arith, length-append content rest)) in
    rw (front_kind BetweenCalls 1 (b ∷ c ∷ (content ++ rest)), open_read b c n (content ++ rest) e small, long, p.0, p.1) refl

message_front : (place : Place) (b c d f n : ℕ) (content rest : List ℕ) → from_be_bytes w32 (b ∷ c ∷ d ∷ f ∷ []) ≡ n → length content ≡ n → n ≤ 16777216
    → front_by (at place (2 ∷ 0 ∷ b ∷ c ∷ d ∷ f ∷ (content ++ rest))) (message_head_in (2 ∷ 0 ∷ b ∷ c ∷ d ∷ f ∷ (content ++ rest))) ≡ Whole (Message content) (at place rest)
message_front place b c d f n content rest e l small =
    let p = content_6 2 0 b c d f content rest n l in
    let long : nat_lt (length (2 ∷ 0 ∷ b ∷ c ∷ d ∷ f ∷ (content ++ rest))) (6 + n) ≡ false = le-ltb _ (6 + n) (omega (arith, length-append content rest)) in
    rw (message_read b c d f n (content ++ rest) e small, long, p.0, p.1) refl

status_front : (code b c n : ℕ) (content rest : List ℕ) (t : Bool) → from_be_bytes w16 (b ∷ c ∷ []) ≡ n → length content ≡ n → is_utf8 content ≡ t
    → front_of (at InAnswer (4 ∷ code ∷ b ∷ c ∷ (content ++ rest))) ≡ (if t then Whole (Status code content) (at InAnswer rest) else Faulty BadFrame)
status_front code b c n content rest t e l is =
    let p = content_4 4 code b c content rest n l in
    let long : nat_lt (length (4 ∷ code ∷ b ∷ c ∷ (content ++ rest))) (4 + n) ≡ false = le-ltb _ (4 + n) (omega (arith, length-append content rest)) in
    rw (front_kind InAnswer 4 (code ∷ b ∷ c ∷ (content ++ rest)), status_read code b c n (content ++ rest) e, long, p.0, p.1, is) refl

-- ---- a record

-- a record at the front is read
pub front_again : (found : Record) (place after : Place) (rest : List ℕ) → IsRecord found → place_after place found ≡ Some after → front_of (at place (spelling found ++ rest)) ≡ Whole found (at after rest)
front_again (Open path) BetweenCalls after rest fits moves =
    let here : InsideCall ≡ after = cc in
    rw (← here) (open_again _ _ (length path) path rest (from_be_bytes-to_be_bytes_2 (length path) (omega arith)) refl fits)
front_again (Open path) InsideCall after rest fits moves = absurd cc
front_again (Open path) InAnswer after rest fits moves = absurd cc
front_again (Message message) BetweenCalls after rest fits moves = absurd cc
front_again (Message message) InsideCall after rest fits moves =
    let here : InsideCall ≡ after = cc in
    rw (← here, front_kind InsideCall 2 _) (message_front InsideCall _ _ _ _ (length message) message rest (from_be_bytes-to_be_bytes_4 (length message) (omega arith)) refl fits)
front_again (Message message) InAnswer after rest fits moves =
    let here : InAnswer ≡ after = cc in
    rw (← here, front_kind InAnswer 2 _) (message_front InAnswer _ _ _ _ (length message) message rest (from_be_bytes-to_be_bytes_4 (length message) (omega arith)) refl fits)
front_again End BetweenCalls after rest fits moves = absurd cc
front_again End InsideCall after rest fits moves =
    let here : BetweenCalls ≡ after = cc in
    let long : nat_lt (length (3 ∷ rest)) 1 ≡ false = le-ltb _ 1 (omega arith) in
    rw (← here, front_kind InsideCall 3 rest, long) refl
front_again End InAnswer after rest fits moves = absurd cc
front_again (Status code text) BetweenCalls after rest fits moves = absurd cc
front_again (Status code text) InsideCall after rest fits moves = absurd cc
front_again (Status code text) InAnswer after rest fits moves =
    let here : InAnswer ≡ after = cc in
    rw (← here) (status_front code _ _ (length text) text rest true (from_be_bytes-to_be_bytes_2 (length text) fits.1) refl (is_utf8-from_IsUtf8 text fits.2))

pub leads_front : (found : Record) (old new : Received) → Leads found old new → front_of old ≡ Whole found new
leads_front found old new leads = rw leads.whole (front_again found old.place new.place new.bytes leads.fits leads.moves)

-- ---- a flaw

wrong_kind_again : (place : Place) (kind : ℕ) (bytes : List ℕ) → (¬ IsKindAt place kind) → head_by place kind bytes ≡ Err BadFrame
wrong_kind_again BetweenCalls kind bytes bad =
    let one : (kind == 1) ≡ false = ne_eqb kind 1 bad in
    rw one refl
wrong_kind_again InsideCall kind bytes bad =
    let two : (kind == 2) ≡ false = ne_eqb kind 2 (λ e. bad (inl e)) in
    let three : (kind == 3) ≡ false = ne_eqb kind 3 (λ e. bad (inr e)) in
    rw (two, three) refl
wrong_kind_again InAnswer kind bytes bad =
    let two : (kind == 2) ≡ false = ne_eqb kind 2 (λ e. bad (inl e)) in
    let four : (kind == 4) ≡ false = ne_eqb kind 4 (λ e. bad (inr e)) in
    rw (two, four) refl

-- a kind byte that may come
open_here : (place : Place) → IsKindAt place 1 → place ≡ BetweenCalls
open_here BetweenCalls is = refl
open_here InsideCall is = elim is [ inl e ↦ absurd (omega arith) | inr e ↦ absurd (omega arith) ]
open_here InAnswer is = elim is [ inl e ↦ absurd (omega arith) | inr e ↦ absurd (omega arith) ]

message_here : (place : Place) (bytes : List ℕ) → IsKindAt place 2 → head_by place 2 bytes ≡ message_head_in bytes
message_here BetweenCalls bytes is = absurd (omega arith)
message_here InsideCall bytes is = refl
message_here InAnswer bytes is = refl

status_here : (place : Place) → IsKindAt place 4 → place ≡ InAnswer
status_here BetweenCalls is = absurd (omega arith)
status_here InsideCall is = elim is [ inl e ↦ absurd (omega arith) | inr e ↦ absurd (omega arith) ]
status_here InAnswer is = refl

-- a flaw at the front is answered
pub flaw_again : (flaw : Flaw) (place : Place) (rest : List ℕ) → IsFlaw place flaw → front_of (at place (shown_by flaw ++ rest)) ≡ Faulty (fault_of flaw)
flaw_again (wrong_kind kind) place rest is =
    rw (front_kind place kind rest, wrong_kind_again place kind (kind ∷ rest) is) refl
flaw_again (long_path len) place rest is =
    rw (open_here place is.0, front_kind BetweenCalls 1 (to_be_bytes w16 len ++ rest), open_refused _ _ len rest (from_be_bytes-to_be_bytes_2 len is.2) is.1) refl
flaw_again (wrong_flag flag) place rest is =
    rw (front_kind place 2 (flag ∷ rest), message_here place (2 ∷ flag ∷ rest) is.0, flag_refused flag rest is.1) refl
flaw_again (long_message len) place rest is =
    rw (front_kind place 2 (0 ∷ (to_be_bytes w32 len ++ rest)), message_here place (2 ∷ 0 ∷ (to_be_bytes w32 len ++ rest)) is.0, message_refused _ _ _ _ len rest (from_be_bytes-to_be_bytes_4 len is.2) is.1) refl
flaw_again (bad_text code text) place rest is =
    rw (status_here place is.0) (status_front code _ _ (length text) text rest false (from_be_bytes-to_be_bytes_2 (length text) is.1) refl (is_utf8_false text is.2))

pub breaks_front : (left : Received) (fault : Fault) → Breaks left fault → front_of left ≡ Faulty fault
breaks_front left fault breaks = rw (breaks.whole, breaks.fault_is) (flaw_again breaks.flaw left.place breaks.rest breaks.is_flaw)
