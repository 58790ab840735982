-- What is written of a handle reads back.
use Rattle.std.proofs.Common.{ℕ, ◌≤◌, ◌++◌, [], length, drop, ap, ◌∙◌, arith, Ok}
use Rattle.std.proofs.lemmas.Bool.{le-leb}
use Rattle.std.proofs.lemmas.Str.{is_utf8-from_IsUtf8}
use Rattle.byteorder.specs.Endian.{big_bytes, big_number}
use Rattle.byteorder.specs.Numbers.{big_number-reads_back}
use Rattle.endpoint_split.specs.Handle.{Query, Tables, query_behind, tables_behind, HandleReadsBack}

pub reads_back : HandleReadsBack
unfolding query_behind tables_behind
reads_back (Query version from to query) h =
    let v = big_number-reads_back 8 version (big_bytes 4 from ++ (big_bytes 4 to ++ query)) h.0 in
    let f = big_number-reads_back 4 from (big_bytes 4 to ++ query) h.1 in
    let t = big_number-reads_back 4 to query h.2 in
    let bytes = big_bytes 8 version ++ (big_bytes 4 from ++ (big_bytes 4 to ++ query)) in
    let long : 16 ≤ length bytes = omega arith in
    rw (le-leb 16 (length bytes) long, is_utf8-from_IsUtf8 query h.3)
    (ap (λ (n : ℕ). Ok (Query n (big_number 4 (drop 8 bytes)) (big_number 4 (drop 12 bytes)) query)) v
    ∙ ap (λ (n : ℕ). Ok (Query version n (big_number 4 (drop 12 bytes)) query)) f
    ∙ ap (λ (n : ℕ). Ok (Query version from n query)) t)
reads_back (Tables version) h = ap (λ (n : ℕ). Ok (Tables n)) (big_number-reads_back 8 version [] h)
