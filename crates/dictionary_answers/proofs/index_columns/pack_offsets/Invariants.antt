use Rattle.std.proofs.Common.{◌≡◌, ◌++◌, ◌+◌, drop, map}
use Rattle.scan_base.specs.declared.value.Value.TheVariants.{Text}
use Rattle.arrays.specs.WrittenSlots.{offsets_from}
use Rattle.dictionary_answers.specs.Firsts.{bytes_in}
use Rattle.dictionary_answers.proofs.index_columns.pack_offsets.Given as goal

abbrev pub invariant-loop-text : goal.invariant-loop-text
invariant-loop-text l = record {
  total : l.offset + bytes_in (map (λ text. text.now) (drop l.text-index l.texts)) ≡ bytes_in (map (λ text. text.now) l.texts);
  out : l.packed.items ++ offsets_from l.offset (map Text (map (λ text. text.now) (drop l.text-index l.texts))) ≡ offsets_from 0 (map Text (map (λ text. text.now) l.texts));
}
