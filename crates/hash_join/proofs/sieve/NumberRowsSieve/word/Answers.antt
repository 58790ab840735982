use Rattle.std.proofs.Common.{◌≡◌, ◌+◌, ◌&&◌, ℕ, Bool, List, Option, Some, None, ap, sym, ◌∙◌}
use Rattle.arrays.specs.Number.{integer_at}
use Rattle.arrays.specs.Validity.{is_valid}
use Rattle.hash_join.specs.Words.{passing_word}
use Rattle.hash_join.proofs.Words.{known_rows, word_places}
use Rattle.hash_join.proofs.sieve.NumberRowsSieve.word.Goals as goal

pub returns-in-None : goal.returns-in-None
returns-in-None g c =
    let rows = c.args.self.now in
    let from : ℕ = c.args.from in
    let count : ℕ = c.args.rows in
    let test : List ℕ → ℕ → Bool = λ (values : List ℕ) (place : ℕ). g.L.Look.passes rows.look.now (integer_at g.E.Integer.KIND values place) in
    let passes : ℕ → Bool = test rows.cells.values in
    let found : c.number_word-word.result ≡ passing_word passes (rows.first + from) count =
    c.number_word-word.ensures ∙ ap (λ (values : List ℕ). passing_word (test values) (rows.first + from) count) c.values.ensures in
    let valid : ◌≡◌ {A = Option (List Bool)} rows.cells.validity None = sym c.validity.ensures ∙ sym c.bits.ensures ∙ c.in-None.is in
    found ∙ word_places passes rows.first from count
    ∙ sym (ap (λ (validity : Option (List Bool)). passing_word (λ row. is_valid validity (rows.first + row) && passes (rows.first + row)) from count) valid)

pub returns-in-Some : goal.returns-in-Some
returns-in-Some g c =
    let rows = c.args.self.now in
    let from : ℕ = c.args.from in
    let count : ℕ = c.args.rows in
    let bits : List Bool = c.in-Some.bits in
    let test : List ℕ → ℕ → Bool = λ (values : List ℕ) (place : ℕ). g.L.Look.passes rows.look.now (integer_at g.E.Integer.KIND values place) in
    let passes : ℕ → Bool = test rows.cells.values in
    let found : c.number_word-word.result ≡ passing_word passes (rows.first + from) count =
    c.number_word-word.ensures ∙ ap (λ (values : List ℕ). passing_word (test values) (rows.first + from) count) c.values.ensures in
    let valid : ◌≡◌ {A = Option (List Bool)} rows.cells.validity (Some bits) = sym c.validity.ensures ∙ sym c.bits.ensures ∙ c.in-Some.is in
    known_rows bits passes rows.first from count c.known_word.result c.number_word-word.result c.known_word.ensures found
    ∙ sym (ap (λ (validity : Option (List Bool)). passing_word (λ row. is_valid validity (rows.first + row) && passes (rows.first + row)) from count) valid)
