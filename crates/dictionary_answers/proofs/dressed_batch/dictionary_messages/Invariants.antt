use Rattle.std.proofs.Common.{map, take}
use Rattle.std.specs.List.{AllZip}
use Rattle.ipc_batch.specs.MessageView.{written_seen}
use Rattle.dictionary_answers.specs.Dress.{IsMessageOf}
use Rattle.dictionary_answers.proofs.dressed_batch.dictionary_messages.Given as goal

-- the messages so far are those of the dictionaries so far
abbrev pub invariant-loop-dictionary : goal.invariant-loop-dictionary
invariant-loop-dictionary l = AllZip IsMessageOf (take l.dictionary-index l.dictionaries) (map written_seen l.made.items)
