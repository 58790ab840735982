-- What is read at the front stands there in the profile's words.
use Rattle.std.proofs.Common.{◌≡◌, ℕ, zero, suc, ◌+◌, ◌<◌, ◌≤◌, ◌^◌, inl, inr, true, false, Bool, List, [], ◌∷◌, ◌++◌, length, get_or, take, drop, Some, Ok, refl, sym, ap, ◌∙◌, append_assoc, arith}
use Rattle.std.specs.Prelude.{◌==◌, nat_lt}
use Rattle.std.specs.Int.{w16, w32, from_be_bytes, to_be_bytes}
use Rattle.std.specs.Str.{is_utf8}
use Rattle.std.proofs.lemmas.Bool.{cases_lt, le-ltb, lt-ltb}
use Rattle.std.proofs.lemmas.Bool.Decides.{eqb_tells}
use Rattle.std.proofs.lemmas.List.{length-take-le, take-append-drop}
use Rattle.std.proofs.lemmas.Nat.{be_bytes_2, be_bytes_4}
use Rattle.scan_base.specs.declared.fault.Fault.TheVariants.{BadFrame}
use Rattle.grpc_frame.specs.declared.place.Place.{Place}
use Rattle.grpc_frame.specs.declared.place.Place.TheVariants.{BetweenCalls, InsideCall, InAnswer}
use Rattle.grpc_frame.specs.declared.record.Record.TheVariants.{Open, Message}
use Rattle.grpc_frame.specs.declared.head.Head.{Head}
use Rattle.grpc_frame.specs.declared.head.RecordKind.TheVariants as kinds
use Rattle.grpc_frame.specs.Records.{Received, place_after, Leads, IsKindAt, wrong_kind, long_path, wrong_flag, long_message, bad_text, Breaks}
use Rattle.grpc_frame.specs.Head.{AreBytes, head_by, head_of, open_head, message_head_in, status_head_in}
use Rattle.grpc_frame.specs.Front.{Front, Wanting, Faulty, Whole, record_front, content_in, rest_behind, front_by, front_of}
use Rattle.grpc_frame.proofs.Again.{at, front_kind}
use Rattle.std.proofs.lemmas.Str.{IsUtf8-from_is_utf8, is_utf8-from_IsUtf8}

-- what the front is, in the profile's words
abbrev pub FrontIs : Received → Front → Type 0
FrontIs left Wanting = Unit {0}
FrontIs left (Faulty fault) = Breaks left fault
FrontIs left (Whole found rest) = Leads found left rest

-- ---- the content after a head

behind_3 : (a b c : ℕ) (rest : List ℕ) (n : ℕ) → (drop 3 (take (3 + n) (a ∷ b ∷ c ∷ rest)) ≡ take n rest) × (drop (3 + n) (a ∷ b ∷ c ∷ rest) ≡ drop n rest)
behind_3 a b c rest n = let e : 3 + n ≡ suc (suc (suc n)) = omega arith in (rw e refl, rw e refl)

behind_4 : (a b c d : ℕ) (rest : List ℕ) (n : ℕ) → (drop 4 (take (4 + n) (a ∷ b ∷ c ∷ d ∷ rest)) ≡ take n rest) × (drop (4 + n) (a ∷ b ∷ c ∷ d ∷ rest) ≡ drop n rest)
behind_4 a b c d rest n = let e : 4 + n ≡ suc (suc (suc (suc n))) = omega arith in (rw e refl, rw e refl)

behind_6 : (a b c d f g : ℕ) (rest : List ℕ) (n : ℕ) → (drop 6 (take (6 + n) (a ∷ b ∷ c ∷ d ∷ f ∷ g ∷ rest)) ≡ take n rest) × (drop (6 + n) (a ∷ b ∷ c ∷ d ∷ f ∷ g ∷ rest) ≡ drop n rest)
behind_6 a b c d f g rest n = let e : 6 + n ≡ suc (suc (suc (suc (suc (suc n))))) = omega arith in (rw e refl, rw e refl)

-- the front after a head: more is wanted, or the content is there
content_is : (place : Place) (bytes : List ℕ) (head : Head)
    → (head.len + head.content_len ≤ length bytes → FrontIs (at place bytes) (record_front place head.kind (content_in head bytes) (rest_behind head bytes)))
    → FrontIs (at place bytes) (front_by (at place bytes) (Ok (Some head)))
content_is place bytes head whole =
    elim (cases_lt (length bytes) (head.len + head.content_len)) [
      | inl h ↦ let short : nat_lt (length bytes) (head.len + head.content_len) ≡ true = lt-ltb _ _ h in rw short tt
      | inr h ↦ let long : nat_lt (length bytes) (head.len + head.content_len) ≡ false = le-ltb _ _ h in rw long (whole h)
    ]

-- two and four bytes of a length
two : (b c : ℕ) → b < 256 → c < 256 → (i : ℕ) → get_or (b ∷ c ∷ []) i 0 < 256
two b c bl cl zero = bl
two b c bl cl (suc zero) = cl
two b c bl cl (suc (suc i)) = omega arith

four : (b c d f : ℕ) → b < 256 → c < 256 → d < 256 → f < 256 → (i : ℕ) → get_or (b ∷ c ∷ d ∷ f ∷ []) i 0 < 256
four b c d f bl cl dl fl zero = bl
four b c d f bl cl dl fl (suc zero) = cl
four b c d f bl cl dl fl (suc (suc zero)) = dl
four b c d f bl cl dl fl (suc (suc (suc zero))) = fl
four b c d f bl cl dl fl (suc (suc (suc (suc i)))) = omega arith

-- the length in front, and content of that length
behind_length : (len : List ℕ) (n : ℕ) (spelled rest : List ℕ) → spelled ≡ len → len ++ rest ≡ (spelled ++ take n rest) ++ drop n rest
behind_length len n spelled rest e =
    sym (append_assoc spelled (take n rest) (drop n rest) ∙ ap (λ (t : List ℕ). spelled ++ t) (take-append-drop n rest) ∙ ap (λ (t : List ℕ). t ++ rest) e)

-- ---- an Open

open_whole : (b c n : ℕ) (rest : List ℕ) → to_be_bytes w16 n ≡ b ∷ c ∷ [] → n ≤ 256 → n ≤ length rest
    → Leads (Open (take n rest)) (at BetweenCalls (1 ∷ b ∷ c ∷ rest)) (at InsideCall (drop n rest))
open_whole b c n rest spelled small room =
    let len : length (take n rest) ≡ n = length-take-le n rest room in
    record {
      whole = rw len (ap (λ (t : List ℕ). 1 ∷ t) (behind_length (b ∷ c ∷ []) n (to_be_bytes w16 n) rest spelled));
      fits = omega arith;
      moves = refl;
    }

open_is : (bytes : List ℕ) → AreBytes (1 ∷ bytes) → FrontIs (at BetweenCalls (1 ∷ bytes)) (front_by (at BetweenCalls (1 ∷ bytes)) (open_head (1 ∷ bytes)))
open_is [] fits = tt
open_is (b ∷ []) fits = tt
open_is (b ∷ c ∷ rest) fits = sized (from_be_bytes w16 (b ∷ c ∷ [])) refl
  where
    sized : (n : ℕ) → n ≡ from_be_bytes w16 (b ∷ c ∷ []) → FrontIs (at BetweenCalls (1 ∷ b ∷ c ∷ rest)) (front_by (at BetweenCalls (1 ∷ b ∷ c ∷ rest)) (open_head (1 ∷ b ∷ c ∷ rest)))
    sized n e =
        let bl : b < 256 = fits 1 in
        let cl : c < 256 = fits 2 in
        let spelled : to_be_bytes w16 n ≡ b ∷ c ∷ [] = be_bytes_2 (b ∷ c ∷ []) n refl (two b c bl cl) e in
        let there : nat_lt (length (1 ∷ b ∷ c ∷ rest)) 3 ≡ false = le-ltb _ 3 (omega arith) in
        elim (cases_lt 256 n) [
          | inl h ↦
              let above : nat_lt 256 n ≡ true = lt-ltb 256 n h in
              rw (there, ← e, above) (record {
                flaw = long_path n;
                rest = rest;
                whole = ap (λ (t : List ℕ). 1 ∷ (t ++ rest)) (sym spelled);
                is_flaw = (refl, h, omega arith);
                fault_is = refl;
              })
          | inr h ↦
              let within : nat_lt 256 n ≡ false = le-ltb 256 n h in
              let p = behind_3 1 b c rest n in
              rw (there, ← e, within) (content_is BetweenCalls (1 ∷ b ∷ c ∷ rest) (record { kind = kinds.Open; len = 3; content_len = n }) (λ room. rw (p.0, p.1) (open_whole b c n rest spelled h (omega arith))))
        ]

-- ---- a Message

message_whole : (place : Place) (b c d f n : ℕ) (rest : List ℕ) → place_after place (Message (take n rest)) ≡ Some place → to_be_bytes w32 n ≡ b ∷ c ∷ d ∷ f ∷ [] → n ≤ 16777216 → n ≤ length rest
    → Leads (Message (take n rest)) (at place (2 ∷ 0 ∷ b ∷ c ∷ d ∷ f ∷ rest)) (at place (drop n rest))
message_whole place b c d f n rest moves spelled small room =
    let len : length (take n rest) ≡ n = length-take-le n rest room in
    record {
      whole = rw len (ap (λ (t : List ℕ). 2 ∷ 0 ∷ t) (behind_length (b ∷ c ∷ d ∷ f ∷ []) n (to_be_bytes w32 n) rest spelled));
      fits = omega arith;
      moves = moves;
    }

length_is : (place : Place) (bytes : List ℕ) → IsKindAt place 2 → ((message : List ℕ) → place_after place (Message message) ≡ Some place) → AreBytes (2 ∷ 0 ∷ bytes)
    → FrontIs (at place (2 ∷ 0 ∷ bytes)) (front_by (at place (2 ∷ 0 ∷ bytes)) (message_head_in (2 ∷ 0 ∷ bytes)))
length_is place [] here moves fits = tt
length_is place (b ∷ []) here moves fits = tt
length_is place (b ∷ c ∷ []) here moves fits = tt
length_is place (b ∷ c ∷ d ∷ []) here moves fits = tt
length_is place (b ∷ c ∷ d ∷ f ∷ rest) here moves fits = sized (from_be_bytes w32 (b ∷ c ∷ d ∷ f ∷ [])) refl
  where
    sized : (n : ℕ) → n ≡ from_be_bytes w32 (b ∷ c ∷ d ∷ f ∷ []) → FrontIs (at place (2 ∷ 0 ∷ b ∷ c ∷ d ∷ f ∷ rest)) (front_by (at place (2 ∷ 0 ∷ b ∷ c ∷ d ∷ f ∷ rest)) (message_head_in (2 ∷ 0 ∷ b ∷ c ∷ d ∷ f ∷ rest)))
    sized n e =
        let bl : b < 256 = fits 2 in
        let cl : c < 256 = fits 3 in
        let dl : d < 256 = fits 4 in
        let fl : f < 256 = fits 5 in
        let spelled : to_be_bytes w32 n ≡ b ∷ c ∷ d ∷ f ∷ [] = be_bytes_4 (b ∷ c ∷ d ∷ f ∷ []) n refl (four b c d f bl cl dl fl) e in
        let flagged : nat_lt (length (2 ∷ 0 ∷ b ∷ c ∷ d ∷ f ∷ rest)) 2 ≡ false = le-ltb _ 2 (omega arith) in
        let there : nat_lt (length (2 ∷ 0 ∷ b ∷ c ∷ d ∷ f ∷ rest)) 6 ≡ false = le-ltb _ 6 (omega arith) in
        elim (cases_lt 16777216 n) [
          | inl h ↦
              let above : nat_lt 16777216 n ≡ true = lt-ltb 16777216 n h in
              rw (flagged, there, ← e, above) (record {
                flaw = long_message n;
                rest = rest;
                whole = ap (λ (t : List ℕ). 2 ∷ 0 ∷ (t ++ rest)) (sym spelled);
                is_flaw = (here, h, omega arith);
                fault_is = refl;
              })
          | inr h ↦
              let within : nat_lt 16777216 n ≡ false = le-ltb 16777216 n h in
              let p = behind_6 2 0 b c d f rest n in
              rw (flagged, there, ← e, within) (content_is place (2 ∷ 0 ∷ b ∷ c ∷ d ∷ f ∷ rest) (record { kind = kinds.Message; len = 6; content_len = n }) (λ room. rw (p.0, p.1) (message_whole place b c d f n rest (moves (take n rest)) spelled h (omega arith))))
        ]

message_is : (place : Place) (bytes : List ℕ) → IsKindAt place 2 → ((message : List ℕ) → place_after place (Message message) ≡ Some place) → AreBytes (2 ∷ bytes)
    → FrontIs (at place (2 ∷ bytes)) (front_by (at place (2 ∷ bytes)) (message_head_in (2 ∷ bytes)))
message_is place [] here moves fits = tt
message_is place (flag ∷ bytes) here moves fits =
    elim (eqb_tells flag 0) [
      | inl h ↦ let there = rw h.1 at fits in rw h.1 (length_is place bytes here moves there)
      | inr h ↦
          let flagged : nat_lt (length (2 ∷ flag ∷ bytes)) 2 ≡ false = le-ltb _ 2 (omega arith) in
          let other : (flag == 0) ≡ false = h.0 in
          rw (flagged, other) (record {
            flaw = wrong_flag flag;
            rest = bytes;
            whole = refl;
            is_flaw = (here, h.1);
            fault_is = refl;
          })
    ]

-- ---- an End

end_is : (bytes : List ℕ) → FrontIs (at InsideCall (3 ∷ bytes)) (front_by (at InsideCall (3 ∷ bytes)) (Ok (Some (record { kind = kinds.End; len = 1; content_len = 0 }))))
end_is bytes = content_is InsideCall (3 ∷ bytes) (record { kind = kinds.End; len = 1; content_len = 0 }) (λ room. record { whole = refl; fits = tt; moves = refl })

-- ---- a Status

status_whole : (code b c n : ℕ) (rest : List ℕ) → code < 256 → to_be_bytes w16 n ≡ b ∷ c ∷ [] → n < 2 ^ 16 → n ≤ length rest
    → FrontIs (at InAnswer (4 ∷ code ∷ b ∷ c ∷ rest)) (record_front InAnswer (kinds.Status code) (take n rest) (drop n rest))
status_whole code b c n rest al spelled small room = by (is_utf8 (take n rest)) refl
  where
    len : length (take n rest) ≡ n
    len = length-take-le n rest room

    parts : 4 ∷ code ∷ b ∷ c ∷ rest ≡ 4 ∷ code ∷ ((to_be_bytes w16 (length (take n rest)) ++ take n rest) ++ drop n rest)
    parts = rw len (ap (λ (t : List ℕ). 4 ∷ code ∷ t) (behind_length (b ∷ c ∷ []) n (to_be_bytes w16 n) rest spelled))

    by : (t : Bool) → is_utf8 (take n rest) ≡ t → FrontIs (at InAnswer (4 ∷ code ∷ b ∷ c ∷ rest)) (record_front InAnswer (kinds.Status code) (take n rest) (drop n rest))
    by true e = rw e (record { whole = parts; fits = (al, omega (arith, len), IsUtf8-from_is_utf8 _ e); moves = refl })
    by false e = rw e (record {
      flaw = bad_text code (take n rest);
      rest = drop n rest;
      whole = parts;
      is_flaw = (inr refl, omega (arith, len), (λ is. absurd (let test : is_utf8 (take n rest) ≡ true = is_utf8-from_IsUtf8 _ is in cc)));
      fault_is = refl;
    })

status_is : (bytes : List ℕ) → AreBytes (4 ∷ bytes) → FrontIs (at InAnswer (4 ∷ bytes)) (front_by (at InAnswer (4 ∷ bytes)) (status_head_in (4 ∷ bytes)))
status_is [] fits = tt
status_is (code ∷ []) fits = tt
status_is (code ∷ b ∷ []) fits = tt
status_is (code ∷ b ∷ c ∷ rest) fits = sized (from_be_bytes w16 (b ∷ c ∷ [])) refl
  where
    sized : (n : ℕ) → n ≡ from_be_bytes w16 (b ∷ c ∷ []) → FrontIs (at InAnswer (4 ∷ code ∷ b ∷ c ∷ rest)) (front_by (at InAnswer (4 ∷ code ∷ b ∷ c ∷ rest)) (status_head_in (4 ∷ code ∷ b ∷ c ∷ rest)))
    sized n e =
        let bl : b < 256 = fits 2 in
        let cl : c < 256 = fits 3 in
        let spelled : to_be_bytes w16 n ≡ b ∷ c ∷ [] = be_bytes_2 (b ∷ c ∷ []) n refl (two b c bl cl) e in
        let there : nat_lt (length (4 ∷ code ∷ b ∷ c ∷ rest)) 4 ≡ false = le-ltb _ 4 (omega arith) in
        let p = behind_4 4 code b c rest n in
        rw (there, ← e) (content_is InAnswer (4 ∷ code ∷ b ∷ c ∷ rest) (record { kind = kinds.Status code; len = 4; content_len = n }) (λ room. rw (p.0, p.1) (status_whole code b c n rest (fits 1) spelled (omega arith) (omega arith))))

-- ---- by the kind byte

wrong : (place : Place) (kind : ℕ) (bytes : List ℕ) → (¬ IsKindAt place kind) → Breaks (at place (kind ∷ bytes)) BadFrame
wrong place kind bytes bad = record { flaw = wrong_kind kind; rest = bytes; whole = refl; is_flaw = bad; fault_is = refl }

kind_is : (place : Place) (kind : ℕ) (bytes : List ℕ) → AreBytes (kind ∷ bytes) → FrontIs (at place (kind ∷ bytes)) (front_by (at place (kind ∷ bytes)) (head_by place kind (kind ∷ bytes)))
kind_is BetweenCalls kind bytes fits =
    elim (eqb_tells kind 1) [
      | inl h ↦ let there = rw h.1 at fits in rw h.1 (open_is bytes there)
      | inr h ↦ let other : (kind == 1) ≡ false = h.0 in rw other (wrong BetweenCalls kind bytes h.1)
    ]
kind_is InsideCall kind bytes fits =
    elim (eqb_tells kind 2) [
      | inl h ↦ let there = rw h.1 at fits in rw h.1 (message_is InsideCall bytes (inl refl) (λ m. refl) there)
      | inr h ↦ elim (eqb_tells kind 3) [
        | inl k ↦ rw k.1 (end_is bytes)
        | inr k ↦
            let two : (kind == 2) ≡ false = h.0 in
            let three : (kind == 3) ≡ false = k.0 in
            rw (two, three) (wrong InsideCall kind bytes (λ is. elim is [ inl e ↦ h.1 e | inr e ↦ k.1 e ]))
      ]
    ]
kind_is InAnswer kind bytes fits =
    elim (eqb_tells kind 2) [
      | inl h ↦ let there = rw h.1 at fits in rw h.1 (message_is InAnswer bytes (inl refl) (λ m. refl) there)
      | inr h ↦ elim (eqb_tells kind 4) [
        | inl k ↦ let there = rw k.1 at fits in rw k.1 (status_is bytes there)
        | inr k ↦
            let two : (kind == 2) ≡ false = h.0 in
            let four : (kind == 4) ≡ false = k.0 in
            rw (two, four) (wrong InAnswer kind bytes (λ is. elim is [ inl e ↦ h.1 e | inr e ↦ k.1 e ]))
      ]
    ]

-- nothing has come
front_nothing : (place : Place) → front_of (at place []) ≡ Wanting
unfolding front_of head_of
front_nothing place = refl

-- what the front of bytes is
pub front_is : (place : Place) (bytes : List ℕ) → AreBytes bytes → FrontIs (at place bytes) (front_of (at place bytes))
front_is place [] fits = rw (front_nothing place) tt
front_is place (kind ∷ bytes) fits = rw (front_kind place kind bytes) (kind_is place kind bytes fits)
