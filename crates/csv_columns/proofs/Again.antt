-- A record that is written is the one record of its text.
use Rattle.std.proofs.Common.{◌≡◌, ◌≤◌, ◌+◌, ◌-◌, ℕ, suc, List, [], ◌∷◌, Some, length, map, length-append, refl, sym, ap, subst, ◌∙◌, append-nil, arith}
use Rattle.std.proofs.lemmas.List.{length-map}
use Rattle.csv.specs.Machine.{next_record}
use Rattle.csv.specs.Reading.{default_config, records_from, strip_bom}
use Rattle.csv.specs.Writing.{default_writer, row_text}
use Rattle.csv.specs.declared.parser.State.TheVariants as st
use Rattle.csv.proofs.RoundTrip.{read-write}
use Rattle.csv_columns.specs.TextRecords.{records_in}

-- the end of its line is a byte
some_text : (fields : List (List ℕ)) → 1 ≤ length (row_text default_writer fields)
some_text fields = simp length-append (omega arith)

one_read : (fields : List (List ℕ)) → 1 ≤ length fields → next_record default_config st.StartRecord [] [] (row_text default_writer fields) ≡ Some (fields, st.StartRecord, [])
one_read [] some = absurd (omega arith)
one_read (x ∷ rest) some = ap (next_record default_config st.StartRecord [] []) (sym (append-nil (row_text default_writer (x ∷ rest)))) ∙ read-write (x ∷ rest) []

alone : (fields : List (List ℕ)) (xs : List ℕ) (n : ℕ) → next_record default_config st.StartRecord [] [] xs ≡ Some (fields, st.StartRecord, [])
    → records_from default_config (suc (suc n)) st.StartRecord xs ≡ fields ∷ []
unfolding records_from next_record
alone fields xs n e = rw e refl

again : (fields : List (List ℕ)) → 1 ≤ length fields → strip_bom (row_text default_writer fields) ≡ row_text default_writer fields
    → records_in (row_text default_writer fields) ≡ fields ∷ []
again fields some bare =
    let text = row_text default_writer fields in
    let long : length text + 1 ≡ suc (suc (length text - 1)) = omega (arith, some_text fields) in
    ap (λ (xs : List ℕ). records_from default_config (length xs + 1) st.StartRecord xs) bare
    ∙ (ap (λ (n : ℕ). records_from default_config n st.StartRecord text) long ∙ alone fields text (length text - 1) (one_read fields some))

-- so is one that was made
pub made_again : {X : Type 0} (spelled : X → List ℕ) (columns : List X) (made : List ℕ) → made ≡ row_text default_writer (map spelled columns) → 1 ≤ length columns
    → strip_bom made ≡ made → records_in made ≡ map spelled columns ∷ []
made_again spelled columns made is some =
    subst (λ (l : List ℕ). strip_bom l ≡ l → records_in l ≡ map spelled columns ∷ []) (sym is) (again (map spelled columns) (omega (arith, length-map columns spelled, some)))
