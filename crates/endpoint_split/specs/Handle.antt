-- The bytes of a statement handle.
use Rattle.std.specs.Prelude.{◌≡◌, ℕ, ◌<◌, ◌^◌, ◌==◌, List, [], ◌∷◌, ◌++◌, length, drop, nat_le}
use Rattle.std.specs.Prelude.{if◌then◌else◌, Result, Ok, Err, IsUtf8}
use Rattle.byteorder.specs.Endian.{big_bytes, big_number}
use Rattle.scan_base.specs.declared.fault.Fault.{Fault}
use Rattle.scan_base.specs.declared.fault.Fault.TheVariants.{BadTicket}
use Rattle.scan_base.specs.Reading.{◌>>=◌, demand, text_in}

-- what a handle says, without where its text lies
pub data HandleAt : Type 0 where
  Query : (version from to : ℕ) → (query : List ℕ) → HandleAt
  Tables : (version : ℕ) → HandleAt

-- the bytes that are written: a kind, and big-endian numbers of 8, 4 and 4 bytes before the text
abbrev pub handle_bytes : HandleAt → List ℕ
handle_bytes (Query version from to query) =
    1 ∷ (big_bytes 8 version ++ (big_bytes 4 from ++ (big_bytes 4 to ++ query)))
handle_bytes (Tables version) = 2 ∷ big_bytes 8 version

-- the handle of a query, after its kind
unfoldable pub query_behind : List ℕ → Result HandleAt Fault
query_behind bytes = do
  _ ← demand (nat_le 16 (length bytes)) BadTicket
  query ← text_in (drop 16 bytes) BadTicket
  Ok (Query (big_number 8 bytes) (big_number 4 (drop 8 bytes)) (big_number 4 (drop 12 bytes)) query)

-- the handle of a list of tables, after its kind
unfoldable pub tables_behind : List ℕ → Result HandleAt Fault
tables_behind bytes = demand (length bytes == 8) BadTicket >>= λ _. Ok (Tables (big_number 8 bytes))

-- the handle that bytes are, by the kind that stands first
abbrev pub handle_of : List ℕ → Result HandleAt Fault
handle_of [] = Err BadTicket
handle_of (kind ∷ rest) =
    if kind == 1 then query_behind rest
    else (if kind == 2 then tables_behind rest else Err BadTicket)

-- a handle whose numbers fit their bytes, and whose query is a text
abbrev pub IsHandle : HandleAt → Type 0
IsHandle (Query version from to query) =
    (version < 2 ^ 64) × (from < 2 ^ 32) × (to < 2 ^ 32) × IsUtf8 query
IsHandle (Tables version) = version < 2 ^ 64

-- what is written reads back
abbrev pub HandleReadsBack : Type 0
HandleReadsBack =
    (handle : HandleAt) → IsHandle handle → handle_of (handle_bytes handle) ≡ Ok handle
