-- How many bytes of body a header claims.
use Rattle.std.proofs.Common.{◌↔◌, ◌≡◌, ◌<◌, ◌^◌, ℕ, List, Ok, Err, sym, ◌∙◌, subst}
use Rattle.scan_base.specs.declared.fault.Fault.{Fault}
use Rattle.flatbuf.specs.Layout.{TableAt, IsBytes, HasRoot, HasScalar}
use Rattle.flatbuf.specs.Place.{root_of, scalar_of}
use Rattle.flatbuf.proofs.Readings.{Seen, seen_finds, seen_root, seen_scalar}
use Rattle.arrow_schema.specs.declared.header.HeaderKind.TheVariants as kinds
use Rattle.ipc_stream.specs.Stream.{ClaimsBody}
use Rattle.ipc_stream.specs.Laws.{SaysBody}
use Rattle.ipc_stream.specs.inside.Front.{FindsBody}

-- a header claims one number
pub claims_one : (header : List ℕ) (size other : ℕ) → ClaimsBody header size → ClaimsBody header other → size ≡ other
claims_one header size other a b =
    let roots : Ok a.message.table ≡ Ok b.message.table = sym a.root ∙ b.root in
    let tables : a.message.table ≡ b.message.table = cc in
    let same : scalar_of 8 a.message.table 3 0 ≡ Ok other = rw tables b.claimed in
    let sizes : Ok size ≡ Ok other = sym a.claimed ∙ same in
    cc

-- the number of the slot is what the header claims, where it is not negative
pub reads_body : (header : List ℕ) (table : TableAt) (size : ℕ) → root_of header ≡ Ok table → scalar_of 8 table 3 0 ≡ Ok size → size < 2 ^ 63 → ClaimsBody header size
reads_body header table size root is fits =
    record { message = record { kind = kinds.Schema; table = table }; root = root; claimed = is; fits = fits }

-- the slot is what a claim says
slot_is : (header : List ℕ) (table : TableAt) (size : ℕ) → root_of header ≡ Ok table → ClaimsBody header size → scalar_of 8 table 3 0 ≡ Ok size
slot_is header table size root claims =
    let roots : Ok table ≡ Ok claims.message.table = sym root ∙ claims.root in
    let tables : table ≡ claims.message.table = cc in
    rw tables claims.claimed

-- where the slot does not read, it claims none
pub unread : (header : List ℕ) (table : TableAt) (fault : Fault) → IsBytes header → root_of header ≡ Ok table → scalar_of 8 table 3 0 ≡ Err fault → FindsBody header (Err fault)
unread header table fault are root is =
    let rooted : Seen (Ok table) (HasRoot header) = rw root at (seen_root header) in
    let here : IsBytes table.bytes = subst IsBytes (sym rooted.0.same) are in
    let seen : Seen (Err fault) (HasScalar 8 table 3 0) = rw is at (seen_scalar 8 table 3 0 here) in
    (seen.0, λ size claims. let both : Err fault ≡ Ok size = sym is ∙ slot_is header table size root claims in let no : ⊥ = cc in no)

-- ---- in the words of the format

says_claimed : (header : List ℕ) (size : ℕ) → IsBytes header → ClaimsBody header size → SaysBody header size
says_claimed header size are claims =
    let rooted : Seen (Ok claims.message.table) (HasRoot header) = rw claims.root at (seen_root header) in
    let here : IsBytes claims.message.table.bytes = subst IsBytes (sym rooted.0.same) are in
    let seen : Seen (Ok size) (HasScalar 8 claims.message.table 3 0) = rw claims.claimed at (seen_scalar 8 claims.message.table 3 0 here) in
    record { table = claims.message.table; root = rooted.0; number = seen.0; fits = claims.fits }

claims_said : (header : List ℕ) (size : ℕ) → IsBytes header → SaysBody header size → ClaimsBody header size
claims_said header size are says =
    let here : IsBytes says.table.bytes = subst IsBytes (sym says.root.same) are in
    let roots = seen_finds (root_of header) (HasRoot header) (seen_root header) in
    let numbers = seen_finds (scalar_of 8 says.table 3 0) (HasScalar 8 says.table 3 0) (seen_scalar 8 says.table 3 0 here) in
    reads_body header says.table size ((roots.value says.table).1 says.root) ((numbers.value size).1 says.number) says.fits

pub claims_are_said : (header : List ℕ) (size : ℕ) → IsBytes header → ClaimsBody header size ↔ SaysBody header size
claims_are_said header size are = (says_claimed header size are, claims_said header size are)
