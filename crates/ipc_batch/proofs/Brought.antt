-- What is read of a message is what it brings.
use Rattle.std.proofs.Common.{◌≡◌, ◌≤◌, ℕ, ◌==◌, nat_le, true, List, length, is_none, Option, Some, None, Ok, refl, sym, ap, ◌∙◌, subst}
use Rattle.std.proofs.lemmas.Bool.{eqb-true, leb-true, le-leb}
use Rattle.scan_base.specs.declared.fault.Fault.TheVariants.{BadFlatbuffer, UnsupportedArrow, BadBatch}
use Rattle.scan_base.specs.Reading.{demand}
use Rattle.flatbuf.specs.Layout.{TableAt, IsBytes, HasRoot, HasScalar, HasTable, HasStructs}
use Rattle.flatbuf.specs.Place.{root_of, scalar_of, table_of, structs_of}
use Rattle.flatbuf.proofs.Readings.{seen_finds, seen_root, seen_structs}
use Rattle.arrow_schema.specs.declared.header.HeaderKind.{HeaderKind}
use Rattle.arrow_schema.specs.declared.header.HeaderKind.TheVariants as kinds
use Rattle.arrow_schema.specs.Header.{MessageAt, header_kinds, header_kind, message_of, body_length_of}
use Rattle.arrow_schema.specs.Message.{kind_number}
use Rattle.arrow_schema.proofs.Readings.{bind_ok, demand_ok, wanted_ok, meaning_told, says_scalar, reads_scalar, says_table, reads_table}
use Rattle.ipc_batch.specs.Parts.{PartsAt, nodes_in, places_in, structs_wanted, body_claimed, parts_of}
use Rattle.ipc_batch.specs.SaidRows.{Sent}
use Rattle.ipc_batch.specs.Brings.{SaysMessage, SaysRecordBatch}

-- ---- the Message table

kind_told : (number : ℕ) (kind : HeaderKind) → header_kind number ≡ Ok kind → number ≡ kind_number kind
kind_told number kind e = meaning_told (λ (n : ℕ) (k : HeaderKind). n ≡ kind_number k) header_kinds number kind (refl, (refl, (refl, tt))) e

kind_read : (kind : HeaderKind) → header_kind (kind_number kind) ≡ Ok kind
kind_read kinds.Schema = refl
kind_read kinds.DictionaryBatch = refl
kind_read kinds.RecordBatch = refl

-- the root table of a buffer, and the kind of its header
pub record IsMessage (bytes : List ℕ) (message : MessageAt) : Type 0 where
  pub root : HasRoot bytes message.table
  pub version : HasScalar 2 message.table 0 0 4
  pub kind : HasScalar 1 message.table 1 0 (kind_number message.kind)

pub message_told : (bytes : List ℕ) (message : MessageAt) → IsBytes bytes → message_of bytes ≡ Ok message → IsMessage bytes message
unfolding message_of
message_told bytes message is e =
    let a = bind_ok (root_of bytes) _ message e in
    let b = bind_ok (scalar_of 2 a.0 0 0) _ message a.2 in
    let c = bind_ok (demand (b.0 == 4) UnsupportedArrow) _ message b.2 in
    let d = bind_ok (scalar_of 1 a.0 1 0) _ message c.2 in
    let f = bind_ok (header_kind d.0) _ message d.2 in
    let made : MessageAt = record { kind = f.0; table = a.0 } in
    let last = f.2 in
    let same : made ≡ message = cc in
    let root = ((seen_finds (root_of bytes) (HasRoot bytes) (seen_root bytes)).value a.0).0 a.1 in
    let is2 = subst IsBytes {y = (a.0).bytes} (sym root.same) is in
    subst (IsMessage bytes) {x = made} {y = message} same (record {
      root = root;
      version = subst (λ (n : ℕ). HasScalar 2 a.0 0 0 n) (eqb-true b.0 4 (demand_ok (b.0 == 4) UnsupportedArrow c.0 c.1)) (says_scalar 2 a.0 0 0 b.0 is2 b.1);
      kind = subst (λ (n : ℕ). HasScalar 1 a.0 1 0 n) {y = kind_number f.0} (kind_told d.0 f.0 f.1) (says_scalar 1 a.0 1 0 d.0 is2 d.1);
    })

pub message_read : (bytes : List ℕ) (message : MessageAt) → IsBytes bytes → IsMessage bytes message → message_of bytes ≡ Ok message
unfolding message_of
message_read bytes message is says =
    let is2 = subst IsBytes (sym says.root.same) is in
    rw (
      ((seen_finds (root_of bytes) (HasRoot bytes) (seen_root bytes)).value message.table).1 says.root,
      reads_scalar 2 message.table 0 0 4 is2 says.version,
      reads_scalar 1 message.table 1 0 (kind_number message.kind) is2 says.kind,
      kind_read message.kind,
    ) refl

-- how many bytes of body a message claims
pub record Claims (message : TableAt) (body : List ℕ) : Type 0 where
  pub claimed : ℕ
  pub claims : HasScalar 8 message 3 0 claimed
  pub there : claimed ≤ length body

pub claims_told : (message : MessageAt) (body : List ℕ) (u : Unit {0}) → IsBytes message.table.bytes → body_claimed message body ≡ Ok u → Claims message.table body
unfolding body_claimed
claims_told message body u is e =
    let a = bind_ok (body_length_of message) _ u e in
    record { claimed = a.0; claims = says_scalar 8 message.table 3 0 a.0 is a.1; there = leb-true a.0 (length body) (demand_ok (nat_le a.0 (length body)) BadBatch u a.2) }

pub claims_read : (message : MessageAt) (body : List ℕ) → IsBytes message.table.bytes → Claims message.table body → body_claimed message body ≡ Ok tt
unfolding body_claimed
claims_read message body is says = rw (reads_scalar 8 message.table 3 0 says.claimed is says.claims, le-leb says.claimed (length body) says.there) refl

-- a message of this kind, its header's table, and the body that it claims, are what the message says
pub record IsHeaded (message : MessageAt) (header : TableAt) (body : List ℕ) : Type 0 where
  pub headed : HasTable message.table 2 (Some header)
  pub claims : Claims message.table body

pub says_message : (sent : Sent) (message : MessageAt) (header : TableAt) → IsMessage sent.header message → IsHeaded message header sent.body → SaysMessage sent message.kind header
says_message sent message header is headed = record {
  message = message.table;
  root = is.root;
  version = is.version;
  kind_is = is.kind;
  headed = headed.headed;
  claimed = headed.claims.claimed;
  claims = headed.claims.claims;
  there = headed.claims.there;
}

-- a message's table, with the kind of its header
abbrev pub message_at : (sent : Sent) (kind : HeaderKind) (header : TableAt) → SaysMessage sent kind header → MessageAt
message_at sent kind header says = record { kind = kind; table = says.message }

pub is_message : (sent : Sent) (kind : HeaderKind) (header : TableAt) (says : SaysMessage sent kind header) → IsMessage sent.header (message_at sent kind header says)
is_message sent kind header says = record { root = says.root; version = says.version; kind = says.kind_is }

pub is_headed : (sent : Sent) (kind : HeaderKind) (header : TableAt) (says : SaysMessage sent kind header) → IsHeaded (message_at sent kind header says) header sent.body
is_headed sent kind header says = record { headed = says.headed; claims = record { claimed = says.claimed; claims = says.claims; there = says.there } }

-- ---- the RecordBatch table

says_structs : (t : TableAt) (slot : ℕ) (structs : List ℕ) → IsBytes t.bytes → structs_wanted t slot ≡ Ok structs → HasStructs 16 t slot (Some structs)
unfolding structs_wanted
says_structs t slot structs is e =
    let a = bind_ok (structs_of 16 t slot) _ structs e in
    ((seen_finds (structs_of 16 t slot) (HasStructs 16 t slot) (seen_structs 16 t slot is)).value (Some structs)).0 (a.1 ∙ ap Ok (wanted_ok a.0 BadFlatbuffer structs a.2))

reads_structs : (t : TableAt) (slot : ℕ) (structs : List ℕ) → IsBytes t.bytes → HasStructs 16 t slot (Some structs) → structs_wanted t slot ≡ Ok structs
unfolding structs_wanted
reads_structs t slot structs is h = rw (((seen_finds (structs_of 16 t slot) (HasStructs 16 t slot) (seen_structs 16 t slot is)).value (Some structs)).1 h) refl

none_there : {A : Type 0} (found : Option A) → is_none found ≡ true → found ≡ None
none_there None e = refl
none_there (Some x) e = absurd (let no : ⊥ = cc in no)

pub record IsParts (message : TableAt) (table : TableAt) (body : List ℕ) (parts : PartsAt) : Type 0 where
  pub says : SaysRecordBatch table parts
  pub claims : Claims message body

pub parts_told : (message : MessageAt) (table : TableAt) (body : List ℕ) (parts : PartsAt) → IsBytes message.table.bytes → IsBytes table.bytes → parts_of message table body ≡ Ok parts → IsParts message.table table body parts
unfolding parts_of
parts_told message table body parts is is2 e =
    let a = bind_ok (scalar_of 8 table 0 0) _ parts e in
    let b = bind_ok (structs_wanted table 1) _ parts a.2 in
    let c = bind_ok (structs_wanted table 2) _ parts b.2 in
    let d = bind_ok (table_of table 3) _ parts c.2 in
    let f = bind_ok (demand (is_none d.0) UnsupportedArrow) _ parts d.2 in
    let g = bind_ok (body_claimed message body) _ parts f.2 in
    let made : PartsAt = record { rows = a.0; nodes = nodes_in b.0; places = places_in c.0 } in
    let last = g.2 in
    let same : made ≡ parts = cc in
    let none = none_there d.0 (demand_ok (is_none d.0) UnsupportedArrow f.0 f.1) in
    subst (IsParts message.table table body) {x = made} same (record {
      says = record {
        rows = says_scalar 8 table 0 0 a.0 is2 a.1;
        nodes = b.0;
        noded = says_structs table 1 b.0 is2 b.1;
        nodes_are = refl;
        places = c.0;
        placed = says_structs table 2 c.0 is2 c.1;
        places_are = refl;
        plain = says_table table 3 None is2 (d.1 ∙ ap Ok none);
      };
      claims = claims_told message body g.0 is g.1;
    })

pub parts_read : (message : MessageAt) (table : TableAt) (body : List ℕ) (parts : PartsAt) → IsBytes message.table.bytes → IsBytes table.bytes → IsParts message.table table body parts → parts_of message table body ≡ Ok parts
unfolding parts_of
parts_read message table body parts is is2 h =
    let says = h.says in
    rw (
      reads_scalar 8 table 0 0 parts.rows is2 says.rows,
      reads_structs table 1 says.nodes is2 says.noded,
      reads_structs table 2 says.places is2 says.placed,
      reads_table table 3 None is2 says.plain,
      claims_read message body is h.claims,
      says.nodes_are,
      says.places_are,
    ) refl
