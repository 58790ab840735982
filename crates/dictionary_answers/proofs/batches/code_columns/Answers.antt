use Rattle.std.proofs.Common.{◌≡◌, ◌<◌, ℕ, ◌+◌, ◌++◌, ◌∙◌, List, length, map, get_or, take, sym, ap, subst, rules, arith}
use Rattle.std.specs.Option.{option_to_list}
use Rattle.scan_base.specs.declared.value.Value.{Value}
use Rattle.arrays.specs.Texts.{texts_values}
use Rattle.std.proofs.lemmas.List.{take_all}
use Rattle.arrow_types.specs.declared.schema.Field.{Field}
use Rattle.arrays.specs.Column.{ColumnAt}
use Rattle.dictionary_answers.specs.Answer.{AreAnswered, IsAnswered, IsCodable, column_bytes, column_dictionary, coded_bytes, dictionaries_of, dictionary_seen}
use Rattle.dictionary_answers.proofs.Answered.{codable_long, codable_at}
use Rattle.dictionary_answers.proofs.AnsweredSoFar.{answered_next, bytes_next, dictionaries_next, no_room_left}
use Rattle.dictionary_answers.proofs.batches.code_columns.Goals as goal

pub bounds-fields-place : goal.bounds-fields-place
bounds-fields-place c = omega (arith, codable_long c.args.fields.now c.args.columns.now c.requires.codable, c.loop-place-test.true)

pub bounds-fields-place-in-loop-place : goal.bounds-fields-place-in-loop-place
bounds-fields-place-in-loop-place c = omega (arith, codable_long c.args.fields.now c.args.columns.now c.requires.codable, c.loop-place-test.true)

pub answer_column-requires-clause-codable : goal.answer_column-requires-clause-codable
answer_column-requires-clause-codable c =
    subst (IsCodable (get_or c.args.fields.now c.loop-place.place c.index-fields-place.result).data_type) (sym c.index-columns-place.is)
    (codable_at c.args.fields.now c.args.columns.now c.loop-place.place c.index-fields-place.result c.index-columns-place.result c.requires.codable c.loop-place-test.true)

pub returns-in_err-column-clause-full : goal.returns-in_err-column-clause-full
returns-in_err-column-clause-full c =
    let fields = c.args.fields.now in
    let columns = c.args.columns.now in
    let place = c.loop-place.place in
    let low : place < length fields = omega (arith, codable_long fields columns c.requires.codable, c.loop-place-test.true) in
    let field = get_or fields place c.index-fields-place.result in
    let step : c.loop-place.left < column_bytes field.data_type c.index-columns-place.result → c.args.room < coded_bytes fields columns =
    λ full. no_room_left fields columns place c.args.room c.loop-place.left c.index-fields-place.result c.index-columns-place.result low c.loop-place-test.true
    c.index-fields-place.is c.index-columns-place.is c.loop-place.invariant.left
    (subst (λ (f : Field). c.loop-place.left < column_bytes f.data_type c.index-columns-place.result) (sym c.index-fields-place.is) full) in
    search (rules, step)

pub loop-place-preserved : goal.loop-place-preserved
loop-place-preserved c =
    let fields = c.args.fields.now in
    let columns = c.args.columns.now in
    let place = c.loop-place.place in
    let field = c.index-fields-place.result in
    let column = c.index-columns-place.result in
    let low : place < length fields = omega (arith, codable_long fields columns c.requires.codable, c.loop-place-test.true) in
    let is : IsAnswered field.data_type column c.in_ok-column.column =
    subst (λ (f : Field). IsAnswered f.data_type column c.in_ok-column.column) (sym c.index-fields-place.is) c.in_ok-column.ensures.column in
    let left : column_bytes field.data_type column + c.in_ok-column.rest ≡ c.loop-place.left =
    subst (λ (f : Field). column_bytes f.data_type column + c.in_ok-column.rest ≡ c.loop-place.left) (sym c.index-fields-place.is) c.in_ok-column.ensures.left in
    let texts : map texts_values (option_to_list c.in_ok-column.texts) ≡ column_dictionary field.data_type column =
    subst (λ (f : Field). map texts_values (option_to_list c.in_ok-column.texts) ≡ column_dictionary f.data_type column) (sym c.index-fields-place.is) c.in_ok-column.ensures.texts in
    record {
      answered = subst (AreAnswered (take (place + 1) fields) (take (place + 1) columns)) (sym c.in_ok-push.ensures.items)
          (answered_next fields columns c.loop-place.made.items place field column c.in_ok-column.column low c.loop-place-test.true c.index-fields-place.is c.index-columns-place.is c.loop-place.invariant.answered is);
      dictionaries = c.in_ok-add_dictionary.ensures
          ∙ ap (λ (xs : List (ℕ × List Value)). xs ++ map (λ values. (place, values)) (map texts_values (option_to_list c.in_ok-column.texts))) c.loop-place.invariant.dictionaries
          ∙ ap (λ (own : List (List Value)). dictionaries_of 0 (take place fields) (take place columns) ++ map (λ values. (place, values)) own) texts
          ∙ sym (dictionaries_next fields columns place field column low c.loop-place-test.true c.index-fields-place.is c.index-columns-place.is);
      left = omega (arith, bytes_next fields columns place field column low c.loop-place-test.true c.index-fields-place.is c.index-columns-place.is, left, c.loop-place.invariant.left);
    }

pub returns-clause-columns : goal.returns-clause-columns
returns-clause-columns c =
    let fields = c.args.fields.now in
    let columns = c.args.columns.now in
    let made = c.loop-place.made.items in
    let all = take_all c.loop-place.place columns c.loop-place-test.false in
    let each = take_all c.loop-place.place fields (omega (arith, codable_long fields columns c.requires.codable, c.loop-place-test.false)) in
    subst (λ (xs : List Field). AreAnswered xs columns made) each
    (subst (λ (xs : List ColumnAt). AreAnswered (take c.loop-place.place fields) xs made) all c.loop-place.invariant.answered)

pub returns-clause-dictionaries : goal.returns-clause-dictionaries
returns-clause-dictionaries c =
    let fields = c.args.fields.now in
    let columns = c.args.columns.now in
    let made = map dictionary_seen c.loop-place.dictionaries.items in
    let all = take_all c.loop-place.place columns c.loop-place-test.false in
    let each = take_all c.loop-place.place fields (omega (arith, codable_long fields columns c.requires.codable, c.loop-place-test.false)) in
    subst (λ (xs : List Field). made ≡ dictionaries_of 0 xs columns) each
    (subst (λ (xs : List ColumnAt). made ≡ dictionaries_of 0 (take c.loop-place.place fields) xs) all c.loop-place.invariant.dictionaries)

pub returns-clause-fits : goal.returns-clause-fits
returns-clause-fits c =
    let fields = c.args.fields.now in
    let columns = c.args.columns.now in
    let all = take_all c.loop-place.place columns c.loop-place-test.false in
    let each = take_all c.loop-place.place fields (omega (arith, codable_long fields columns c.requires.codable, c.loop-place-test.false)) in
    let same : coded_bytes (take c.loop-place.place fields) (take c.loop-place.place columns) ≡ coded_bytes fields columns =
    ap (λ (xs : List Field). coded_bytes xs (take c.loop-place.place columns)) each ∙ ap (λ (xs : List ColumnAt). coded_bytes fields xs) all in
    omega (arith, same, c.loop-place.invariant.left)
