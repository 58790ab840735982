use Rattle.table_versions.proofs.commit.refusal_at.Goals as goal

pub returns-clause-stand : goal.returns-clause-stand
returns-clause-stand c = λ none.
    let all = rw c.as_slice-4.ensures.value at (c.has_long_row.ensures.stand c.if-has_long_row.false) in
    rw (← c.put.view_is) all
