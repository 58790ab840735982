-- What an input is that is no Arrow IPC stream, by its first bytes.
use Rattle.std.specs.Prelude.{ℕ, ◌==◌, ◌||◌, ◌&&◌, Bool, false, nat_lt, nat_le, List, [], ◌∷◌}
use Rattle.std.specs.Prelude.{length, take, codes, if◌then◌else◌}
use Rattle.std.specs.Str.{bytes_eq}

-- whether an input begins with these bytes
abbrev pub begins_with : List ℕ → List ℕ → Bool
begins_with input first = bytes_eq first (take (length first) input)

-- whether a byte may begin a text: a printable one, white space, or the first of a longer character
abbrev pub begins_text : ℕ → Bool
begins_text b = (nat_le 32 b && nat_lt b 127) || (nat_le 9 b && nat_le b 13)
    || (nat_le 194 b && nat_le b 244)

-- the same of the first byte of an input
abbrev pub is_text : List ℕ → Bool
is_text [] = false
is_text (b ∷ bytes) = begins_text b

-- the line for an input
unfoldable pub input_line : List ℕ → List ℕ
input_line input =
    if begins_with input (codes "PAR1") then
    codes "the input is a Parquet file: write it as an Arrow IPC stream\n" else
    if begins_with input (codes "ARROW1") then
    codes "the input is an Arrow file, as Feather has it: write it as an Arrow IPC stream\n" else
    if begins_with input (codes "FEA1") then
    codes "the input is an old Feather file: write it as an Arrow IPC stream\n" else
    if begins_with input (31 ∷ 139 ∷ []) then
    codes "the input is compressed by gzip: pipe it through gunzip\n" else
    if begins_with input (40 ∷ 181 ∷ 47 ∷ 253 ∷ []) then
    codes "the input is compressed by zstd: pipe it through unzstd\n" else
    if begins_with input (codes "PK") then
    codes "the input is a zip archive, as a spreadsheet is: write it as CSV\n" else
    if begins_with input (codes "{") || begins_with input (codes "[") then
    codes "the input is JSON: write it as CSV or as an Arrow IPC stream\n" else
    if is_text input then
    codes "the input is text: CSV is put with --format csv\n"
    else codes "the input is no Arrow IPC stream, or is cut short\n"
