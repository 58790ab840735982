use Rattle.std.proofs.Common.{◌≡◌, true}
use Rattle.dictionary_answers.specs.inside.Blocks.{AreCodedTo}
use Rattle.dictionary_answers.proofs.distinct_texts.DistinctTexts.copy_known.Given as goal

-- the slots before the block stay coded, and where all were known so far, those so far are
abbrev pub invariant-loop-place : goal.invariant-loop-place
invariant-loop-place g l = record {
  before : AreCodedTo l.block.of.now.column.now l.block.from l.self l.packed;
  known : l.are_known ≡ true → AreCodedTo l.block.of.now.column.now l.place l.self l.packed;
}
