-- Reading columns one by one: what a loop keeps.
use Rattle.std.proofs.Common.{◌≡◌, ℕ, zero, suc, ◌+◌, ◌<◌, List, [], ◌∷◌, ◌++◌, length, drop, get_or, All, Result, Ok, Err, refl, sym, ap, ◌∙◌, arith, append_assoc, drop-cons, add-one}
use Rattle.std.proofs.lemmas.List.Elements.{All-append}
use Rattle.scan_base.specs.declared.fault.Fault.{Fault}
use Rattle.scan_base.proofs.ReadingLaws.{behind}
use Rattle.scan_base.specs.Reading.{◌>>=◌}
use Rattle.arrow_types.specs.declared.schema.Field.{Field}
use Rattle.arrays.specs.Column.{ColumnAt, whole}
use Rattle.arrays.specs.Batch.{AreLong}
use Rattle.ipc_batch.specs.declared.parts.FieldNode.{FieldNode}
use Rattle.ipc_batch.specs.declared.parts.BufferPlace.{BufferPlace}
use Rattle.ipc_batch.specs.State.{Dictionaries}
use Rattle.ipc_batch.specs.Columns.{FrontAt, front_of, columns_from}

-- the items from one on
from_one : {X : Type 0} (xs : List X) (i : ℕ) (x : X) → i < length xs → drop i xs ≡ get_or xs i x ∷ drop (i + 1) xs
from_one xs i x low = rw (add-one, drop-cons xs i x low) refl

-- columns after one more are that one and those, after the ones before
behind_more : (done : List ColumnAt) (column : ColumnAt) (rest : Result (List ColumnAt) Fault) →
    behind (done ++ column ∷ []) rest ≡ behind done (rest >>= λ others. Ok (column ∷ others))
behind_more done column (Ok rest) = ap Ok (append_assoc done (column ∷ []) rest)
behind_more done column (Err fault) = refl

pub read_more : (fields : List Field) (dictionaries : Dictionaries) (rows : ℕ) (body : List ℕ) (nodes : List FieldNode) (places : List BufferPlace) (j : ℕ) (field : Field) (none : FieldNode) (front : FrontAt) (done new : List ColumnAt) (column : ColumnAt) →
    j < length fields → j < length nodes → field ≡ get_or fields j field → front_of field.data_type dictionaries rows body (get_or nodes j none) places ≡ Ok front →
    column ≡ whole front.layout → new ≡ done ++ column ∷ [] →
    behind new (columns_from (drop (j + 1) fields) dictionaries rows body (drop (j + 1) nodes) front.behind) ≡ behind done (columns_from (drop j fields) dictionaries rows body (drop j nodes) places)
read_more fields dictionaries rows body nodes places j field none front done new column low in_nodes is told made more =
    let first : drop j fields ≡ field ∷ drop (j + 1) fields = from_one fields j field low ∙ ap (λ (x : Field). x ∷ drop (j + 1) fields) (sym is) in
    rw (more, made, first, from_one nodes j none in_nodes, told)
    (behind_more done (whole front.layout) (columns_from (drop (j + 1) fields) dictionaries rows body (drop (j + 1) nodes) front.behind))

pub long_more : (rows : ℕ) (done new : List ColumnAt) (column : ColumnAt) → AreLong rows done → column.len ≡ rows → new ≡ done ++ column ∷ [] → AreLong rows new
long_more rows done new column long last more = rw more (All-append (λ (x : ColumnAt). x.len ≡ rows) done (column ∷ []) long one)
  where
    one : All (λ (x : ColumnAt). x.len ≡ rows) (column ∷ [])
    one zero d low = last
    one (suc k) d low = absurd (omega arith)
