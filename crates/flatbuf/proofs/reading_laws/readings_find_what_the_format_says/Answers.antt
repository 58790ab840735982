use Rattle.flatbuf.proofs.Readings.{seen_finds, seen_number, seen_bytes, seen_target, seen_items, seen_root, seen_vtable, seen_field, seen_scalar, seen_table, seen_vector, seen_element, seen_structs, seen_text}
use Rattle.flatbuf.proofs.reading_laws.readings_find_what_the_format_says.Goals as goal

pub returns-clause-number : goal.returns-clause-number
returns-clause-number c = λ width bytes at. seen_finds _ _ (seen_number width bytes at)

pub returns-clause-bytes : goal.returns-clause-bytes
returns-clause-bytes c = λ bytes at count. seen_finds _ _ (seen_bytes bytes at count)

pub returns-clause-target : goal.returns-clause-target
returns-clause-target c = λ bytes at. seen_finds _ _ (seen_target bytes at)

pub returns-clause-items : goal.returns-clause-items
returns-clause-items c = λ width bytes at. seen_finds _ _ (seen_items width bytes at)

pub returns-clause-root : goal.returns-clause-root
returns-clause-root c = λ bytes. seen_finds _ _ (seen_root bytes)

pub returns-clause-vtable : goal.returns-clause-vtable
returns-clause-vtable c = λ table bytes. seen_finds _ _ (seen_vtable table bytes)

pub returns-clause-field : goal.returns-clause-field
returns-clause-field c = λ table slot bytes. seen_finds _ _ (seen_field table slot bytes)

pub returns-clause-scalar : goal.returns-clause-scalar
returns-clause-scalar c = λ width table slot default bytes. seen_finds _ _ (seen_scalar width table slot default bytes)

pub returns-clause-table : goal.returns-clause-table
returns-clause-table c = λ table slot bytes. seen_finds _ _ (seen_table table slot bytes)

pub returns-clause-vector : goal.returns-clause-vector
returns-clause-vector c = λ table slot bytes. seen_finds _ _ (seen_vector table slot bytes)

pub returns-clause-element : goal.returns-clause-element
returns-clause-element c = λ vector index. seen_finds _ _ (seen_element vector index)

pub returns-clause-structs : goal.returns-clause-structs
returns-clause-structs c = λ width table slot bytes. seen_finds _ _ (seen_structs width table slot bytes)

pub returns-clause-text : goal.returns-clause-text
returns-clause-text c = λ table slot bytes. seen_finds _ _ (seen_text table slot bytes)
