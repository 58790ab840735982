use Rattle.arrays.specs.Column.{slot_of}
use Rattle.kernels.proofs.PairPlaces.{one_known}
use Rattle.kernels.proofs.code_pairs.compare_once.Goals as goal

pub returns-in-Unknown : goal.returns-in-Unknown
returns-in-Unknown c =
    let pairs = c.args.pairs.now in
    let left = slot_of pairs.left.now.column.now c.args.row in
    let right = slot_of pairs.right.now.column.now c.args.row in
    one_known pairs.comparison pairs.left.now.dictionary.now pairs.right.now.dictionary.now c.args.truths.now left right c.in-Some.pair c.truth.result
    c.in-Some.ensures c.truth.ensures c.requires.known
