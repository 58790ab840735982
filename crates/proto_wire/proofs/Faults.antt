-- No other fault than `BadProto` is read.
use Rattle.std.proofs.Common.{◌≡◌, ℕ, zero, suc, ◌/◌, ◌%◌, Bool, true, false, cond, List, [], ◌∷◌, Result, Ok, Err, refl, sym, ◌∙◌}
use Rattle.std.specs.Prelude.{nat_lt, nat_le, length, ◌==◌}
use Rattle.scan_base.specs.declared.fault.Fault.{Fault}
use Rattle.scan_base.specs.declared.fault.Fault.TheVariants.{BadProto}
use Rattle.scan_base.specs.Reading.{◌>>=◌, demand}
use Rattle.proto_wire.specs.Reading.{groups_within, varint_at, front_bytes, payload_at, is_field_number, field_at}
use Rattle.proto_wire.proofs.Then.{same_Err}

abbrev OnlyBadProto : {A : Type 0} → Result A Fault → Type 0
OnlyBadProto (Ok x) = Unit {0}
OnlyBadProto (Err fault) = fault ≡ BadProto

then_only : {A B : Type 0} (read : Result A Fault) (next : A → Result B Fault) → OnlyBadProto read → ((x : A) → OnlyBadProto (next x)) → OnlyBadProto (read >>= next)
then_only (Ok x) next h k = k x
then_only (Err fault) next h k = h

if_only : {A : Type 0} (b : Bool) (x y : Result A Fault) → OnlyBadProto x → OnlyBadProto y → OnlyBadProto (cond b x y)
if_only true x y h k = h
if_only false x y h k = k

groups_only : (places : ℕ) (bytes : List ℕ) → OnlyBadProto (groups_within places bytes)
groups_only zero bytes = refl
groups_only (suc places) [] = refl
groups_only (suc places) (b ∷ bytes) =
    if_only (nat_lt b 128) _ _ tt (then_only (groups_within places bytes) _ (groups_only places bytes) (λ high. tt))

varint_only : (bytes : List ℕ) → OnlyBadProto (varint_at bytes)
unfolding varint_at
varint_only bytes = then_only (groups_within 10 bytes) _ (groups_only 10 bytes) (λ groups. tt)

bytes_only : (count : ℕ) (bytes : List ℕ) → OnlyBadProto (front_bytes count bytes)
bytes_only count bytes = if_only (nat_le count (length bytes)) _ _ tt refl

payload_only : (wire : ℕ) (bytes : List ℕ) → OnlyBadProto (payload_at wire bytes)
unfolding payload_at
payload_only wire bytes =
    if_only (wire == 0) _ _ (then_only (varint_at bytes) _ (varint_only bytes) (λ value. tt))
    (if_only (wire == 1) _ _ (then_only (front_bytes 8 bytes) _ (bytes_only 8 bytes) (λ fixed. tt))
    (if_only (wire == 2) _ _ (then_only (varint_at bytes) _ (varint_only bytes) (λ len. then_only (front_bytes len.0 len.1) _ (bytes_only len.0 len.1) (λ chunk. tt)))
    (if_only (wire == 5) _ _ (then_only (front_bytes 4 bytes) _ (bytes_only 4 bytes) (λ fixed. tt)) refl)))

field_only : (bytes : List ℕ) → OnlyBadProto (field_at bytes)
unfolding field_at
field_only bytes =
    then_only (varint_at bytes) _ (varint_only bytes) (λ tag.
    then_only (demand (is_field_number (tag.0 / 8)) BadProto) _ (if_only (is_field_number (tag.0 / 8)) _ _ tt refl) (λ held.
    then_only (payload_at (tag.0 % 8) tag.1) _ (payload_only (tag.0 % 8) tag.1) (λ payload. tt)))

told : {A : Type 0} (read : Result A Fault) (fault : Fault) → OnlyBadProto read → read ≡ Err fault → fault ≡ BadProto
told (Ok x) fault h e = absurd cc
told (Err found) fault h e = sym (same_Err found fault e) ∙ h

pub field_fault : (bytes : List ℕ) (fault : Fault) → field_at bytes ≡ Err fault → fault ≡ BadProto
field_fault bytes fault e = told (field_at bytes) fault (field_only bytes) e
