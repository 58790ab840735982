use Rattle.std.proofs.Common.{◌<◌, length, arith}
use Rattle.std.proofs.Common.{get_or}
use Rattle.scan_base.specs.declared.value.Value.TheVariants.{Null}
use Rattle.dictionary_answers.proofs.Adding.{finds_known}
use Rattle.dictionary_answers.proofs.distinct_texts.DistinctTexts.place_of_index.Goals as goal

pub returns-then-known-clause-found : goal.returns-then-known-clause-found
returns-then-known-clause-found c =
    let low : c.args.index < length c.args.table.now = omega (arith, c.requires.table.long, c.requires.within) in
    finds_known c.args.self.now (get_or c.args.table.now c.args.index 0) (get_or c.args.dictionary.now c.args.index Null) c.if-known.true (c.requires.table.met c.args.index low c.if-known.true)
