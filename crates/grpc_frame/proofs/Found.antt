-- The front of bytes whose head is read.
use Rattle.std.proofs.Common.{◌≡◌, ℕ, ◌+◌, ◌-◌, ◌≤◌, true, false, List, length, take, drop, Some, Ok, refl, sym, arith}
use Rattle.std.specs.Prelude.{nat_lt}
use Rattle.std.proofs.lemmas.Bool.{le-ltb}
use Rattle.std.proofs.lemmas.List.{drop-take}
use Rattle.scan_base.specs.declared.fault.Fault.TheVariants.{BadFrame}
use Rattle.grpc_frame.specs.declared.place.Place.{Place}
use Rattle.grpc_frame.specs.declared.head.Head.{Head}
use Rattle.grpc_frame.specs.Head.{head_of}
use Rattle.grpc_frame.specs.Front.{Faulty, front_of, is_content, content_in, FindsFront}

-- the content, as a slice is cut
abbrev pub content_cut : Head → List ℕ → List ℕ
content_cut head bytes = take ((head.len + head.content_len) - head.len) (drop head.len bytes)

content_same : (head : Head) (bytes : List ℕ) → content_cut head bytes ≡ content_in head bytes
content_same head bytes =
    let e : (head.len + head.content_len) - head.len ≡ head.content_len = omega arith in
    rw e (sym (drop-take head.len head.content_len bytes))

-- a record may hold the content: it stands in front
pub found_whole : (place : Place) (bytes : List ℕ) (head : Head)
    → head_of place bytes ≡ Ok (Some head) → head.len + head.content_len ≤ length bytes
    → is_content head.kind (content_cut head bytes) ≡ true
    → FindsFront (Ok (Some head)) (record { bytes = bytes; place = place })
unfolding front_of
found_whole place bytes head read room looked =
    let long : nat_lt (length bytes) (head.len + head.content_len) ≡ false = le-ltb _ (head.len + head.content_len) room in
    let is : is_content head.kind (content_in head bytes) ≡ true = rw (content_same head bytes) at looked in
    (room, is, rw (read, long, is) refl)

-- it may not: a fault stands there
pub found_bad : (place : Place) (bytes : List ℕ) (head : Head)
    → head_of place bytes ≡ Ok (Some head) → head.len + head.content_len ≤ length bytes
    → is_content head.kind (content_cut head bytes) ≡ false
    → front_of (record { bytes = bytes; place = place }) ≡ Faulty BadFrame
unfolding front_of
found_bad place bytes head read room looked =
    let long : nat_lt (length bytes) (head.len + head.content_len) ≡ false = le-ltb _ (head.len + head.content_len) room in
    let is : is_content head.kind (content_in head bytes) ≡ false = rw (content_same head bytes) at looked in
    rw (read, long, is) refl

-- what `read_front` found
pub ruleset found = (found_whole, found_bad)
