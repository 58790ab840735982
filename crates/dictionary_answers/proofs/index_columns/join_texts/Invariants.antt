use Rattle.std.proofs.Common.{◌≡◌, ◌++◌, drop, map}
use Rattle.scan_base.specs.declared.value.Value.TheVariants.{Text}
use Rattle.arrays.specs.WrittenSlots.{texts_joined}
use Rattle.dictionary_answers.proofs.index_columns.join_texts.Given as goal

abbrev pub invariant-loop-text : goal.invariant-loop-text
invariant-loop-text l = l.joined.items ++ texts_joined (map Text (map (λ text. text.now) (drop l.text-index l.texts))) ≡ texts_joined (map Text (map (λ text. text.now) l.texts))
