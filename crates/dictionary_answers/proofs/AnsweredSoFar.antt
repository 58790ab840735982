-- The columns that are answered so far.
use Rattle.std.proofs.Common.{◌≡◌, ◌<◌, ℕ, ◌+◌, List, [], ◌∷◌, ◌++◌, length, map, take, get_or, sym, ap, ◌∙◌, arith, append-nil}
use Rattle.std.proofs.lemmas.List.{length-take, map-append, take_more}
use Rattle.arrow_types.specs.declared.schema.Field.{Field}
use Rattle.arrays.specs.Column.{ColumnAt}
use Rattle.arrays.specs.Texts.{TextsAt, texts_values}
use Rattle.dictionary_answers.specs.declared.batches.ColumnDictionary.{ColumnDictionary}
use Rattle.dictionary_answers.specs.Answer.{IsAnswered, AreAnswered, column_bytes, coded_bytes, dictionaries_of, dictionary_seen}
use Rattle.dictionary_answers.proofs.Answered.{answered_more, bytes_and, bytes_front, dictionaries_and, own_dictionary}

-- one more of a list
one_more : {A : Type 0} (xs : List A) (n : ℕ) (x : A) → n < length xs → x ≡ get_or xs n x → take (n + 1) xs ≡ take n xs ++ x ∷ []
one_more {A} xs n x low is = take_more xs n x low ∙ ap (λ (y : A). take n xs ++ y ∷ []) (sym is)

pub answered_next : (fields : List Field) (columns made : List ColumnAt) (n : ℕ) (field : Field) (column new : ColumnAt) → n < length fields → n < length columns →
    field ≡ get_or fields n field → column ≡ get_or columns n column → AreAnswered (take n fields) (take n columns) made → IsAnswered field.data_type column new →
    AreAnswered (take (n + 1) fields) (take (n + 1) columns) (made ++ new ∷ [])
answered_next fields columns made n field column new low under f c are is =
    rw (one_more fields n field low f, one_more columns n column under c) (answered_more (take n fields) (take n columns) made field column new are is)

pub bytes_next : (fields : List Field) (columns : List ColumnAt) (n : ℕ) (field : Field) (column : ColumnAt) → n < length fields → n < length columns →
    field ≡ get_or fields n field → column ≡ get_or columns n column →
    coded_bytes (take (n + 1) fields) (take (n + 1) columns) ≡ coded_bytes (take n fields) (take n columns) + column_bytes field.data_type column
bytes_next fields columns n field column low under f c =
    rw (one_more fields n field low f, one_more columns n column under c)
    (bytes_and (take n fields) (take n columns) field column (omega (arith, length-take n fields, length-take n columns, low, under)))

pub dictionaries_next : (fields : List Field) (columns : List ColumnAt) (n : ℕ) (field : Field) (column : ColumnAt) → n < length fields → n < length columns →
    field ≡ get_or fields n field → column ≡ get_or columns n column →
    dictionaries_of 0 (take (n + 1) fields) (take (n + 1) columns) ≡ dictionaries_of 0 (take n fields) (take n columns) ++ own_dictionary n field column
dictionaries_next fields columns n field column low under f c =
    rw (one_more fields n field low f, one_more columns n column under c)
    (dictionaries_and 0 n (take n fields) (take n columns) field column (omega (arith, length-take n fields, length-take n columns, low, under))
    (omega (arith, length-take n fields, low)))

-- one dictionary more as it is seen, and none
pub seen_more : (made : List ColumnDictionary) (number : ℕ) (texts : TextsAt) →
    map dictionary_seen (made ++ record { number = number; texts = texts } ∷ []) ≡ map dictionary_seen made ++ (number, texts_values texts) ∷ []
seen_more made number texts = map-append dictionary_seen made (record { number = number; texts = texts } ∷ [])

pub seen_none : (made : List ColumnDictionary) → map dictionary_seen made ≡ map dictionary_seen made ++ []
seen_none made = sym (append-nil (map dictionary_seen made))

-- where a column's texts have no room, those of all have none
pub no_room_left : (fields : List Field) (columns : List ColumnAt) (n room left : ℕ) (field : Field) (column : ColumnAt) → n < length fields → n < length columns →
    field ≡ get_or fields n field → column ≡ get_or columns n column → coded_bytes (take n fields) (take n columns) + left ≡ room → left < column_bytes field.data_type column →
    room < coded_bytes fields columns
no_room_left fields columns n room left field column low under f c all full =
    omega (arith, bytes_next fields columns n field column low under f c, bytes_front (n + 1) fields columns, all, full)
