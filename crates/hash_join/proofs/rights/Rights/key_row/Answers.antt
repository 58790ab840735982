use Rattle.std.proofs.Common.{arith, ap, ◌∙◌, nat_lt, List, ℕ, length}
use Rattle.std.specs.List.{list_all}
use Rattle.arrays.specs.Batch.{BatchAt, row_of}
use Rattle.hash_join.specs.Pairs.{key_values}
use Rattle.hash_join.proofs.Numbered.{batch_there, row_there, columns_there, key_found, batch_is}
use Rattle.hash_join.proofs.rights.Rights.key_row.Goals as goal

pub index-requires-2 : goal.index-requires-2
index-requires-2 c =
    let there = batch_there c.args.self.now c.args.number c.index.result.now c.requires.whole c.requires.within c.index.ensures in
    omega (arith, there, c.args.self.now.batches.ok)

pub returns-clause-row : goal.returns-clause-row
returns-clause-row c =
    let batch = c.index-2.result.now in
    record {
      row = row_there c.args.self.now c.args.number c.index.result.now c.requires.whole c.requires.within c.index.ensures batch c.index-2.ensures;
      columns = ap (λ (key : List ℕ). list_all (λ column. nat_lt column (length batch.columns)) key) c.as_slice.ensures.value
          ∙ columns_there c.args.self.now c.args.number c.index.result.now c.requires.whole c.requires.within c.index.ensures batch c.index-2.ensures;
    }

pub returns-clause-key : goal.returns-clause-key
returns-clause-key c =
    let batch = c.index-2.result.now in
    let place = c.index.result.now in
    ap (λ (key : List ℕ). key_values key (row_of batch.columns place.1)) c.as_slice.ensures.value
    ∙ key_found c.args.self.now c.args.number place c.requires.whole c.requires.within c.index.ensures batch c.index-2.ensures

pub returns-clause-others : goal.returns-clause-others
returns-clause-others c =
    let batch = c.index-2.result.now in
    let place = c.index.result.now in
    λ row. ap (λ (key : List ℕ). key_values key (row_of batch.columns row)) c.as_slice.ensures.value
    ∙ ap (λ (b : BatchAt). key_values c.args.self.now.key.items (row_of b.columns row))
    (batch_is c.args.self.now c.args.number place c.requires.whole c.requires.within c.index.ensures batch c.index-2.ensures)

pub returns-clause-rows : goal.returns-clause-rows
returns-clause-rows c =
    let batch = c.index-2.result.now in
    let place = c.index.result.now in
    ap (λ (b : BatchAt). b.rows)
    (batch_is c.args.self.now c.args.number place c.requires.whole c.requires.within c.index.ensures batch c.index-2.ensures)
