-- A number read from the bytes from its place on is the element at that place.
use Rattle.std.proofs.Common.{◌≡◌, ℕ, ◌+◌, ◌-◌, ◌*◌, ◌≤◌, List, length, drop, take, arith, slice_index}
use Rattle.byteorder.specs.Endian.{little_number}
use Rattle.bitmap.proofs.Masks.{little_part}
use Rattle.arrays.specs.Number.{element_at}

pub element_read : (width place : ℕ) (values : List ℕ) → width * (place + 1) ≤ length values →
    little_number width (take (length values - width * place) (drop (width * place) values)) ≡ element_at width values place
unfolding element_at
element_read width place values le = little_part (width * place) width (length values - width * place) values (omega arith)

pub byte_read : (place : ℕ) (values : List ℕ) → slice_index values place ≡ element_at 1 values place
unfolding element_at
byte_read place values = let e : 1 * place ≡ place = omega arith in rw e (omega arith)
