use Rattle.std.proofs.Common.{◌≡◌, ◌≤◌, ◌+◌, ◌^◌, ◌++◌, ◌∷◌, [], ◌∙◌, List, map, take, sym, ap, subst, arith}
use Rattle.std.specs.List.{AllZip}
use Rattle.std.proofs.lemmas.List.{map-append, take_all, take_more}
use Rattle.dictionary_answers.specs.declared.batches.ColumnDictionary.{ColumnDictionary}
use Rattle.ipc_batch.specs.SaidRows.{Sent}
use Rattle.ipc_batch.specs.MessageView.{written_seen}
use Rattle.dictionary_answers.specs.Dress.{IsMessageOf}
use Rattle.dictionary_answers.specs.inside.WrittenLengths.{written_length}
use Rattle.dictionary_answers.proofs.Sent.{message_more, written_among}
use Rattle.dictionary_answers.proofs.dressed_batch.dictionary_messages.Goals as goal

pub returns-in_default-clause-full : goal.returns-in_default-clause-full
returns-in_default-clause-full c =
    let dictionaries = c.args.dictionaries.now in
    let dictionary = c.dictionary-item.result in
    let full : 2 ^ 31 ≤ written_length dictionary = rw c.in_default.is at c.in_ok-message.ensures.full in
    let among = written_among dictionaries c.loop-dictionary.dictionary-index dictionary c.loop-dictionary-test.true in
    let same = ap written_length c.dictionary-item.is in
    omega (arith, full, among, same)

pub loop-dictionary-preserved : goal.loop-dictionary-preserved
loop-dictionary-preserved c =
    let dictionaries = c.args.dictionaries.now in
    let dictionary = c.dictionary-item.result in
    let made = c.loop-dictionary.made.items in
    let index = c.loop-dictionary.dictionary-index in
    let is : IsMessageOf dictionary (written_seen c.in-Some.message) = rw c.in-Some.is at c.in_ok-message.ensures.message in
    let front : take (index + 1) dictionaries ≡ take index dictionaries ++ dictionary ∷ [] =
    take_more dictionaries index dictionary c.loop-dictionary-test.true ∙ ap (λ (d : ColumnDictionary). take index dictionaries ++ d ∷ []) (sym c.dictionary-item.is) in
    let sents : map written_seen c.push.new.self.items ≡ map written_seen made ++ written_seen c.in-Some.message ∷ [] =
    ap (map written_seen) c.in_ok-push.ensures.items ∙ map-append written_seen made (c.in-Some.message ∷ []) in
    rw (front, sents) (message_more (take index dictionaries) (map written_seen made) dictionary (written_seen c.in-Some.message) c.loop-dictionary.invariant is)

pub returns-clause-messages : goal.returns-clause-messages
returns-clause-messages c =
    subst (λ (some : List ColumnDictionary). AllZip IsMessageOf some (map written_seen c.loop-dictionary.made.items))
    (take_all c.loop-dictionary.dictionary-index c.args.dictionaries.now (omega (arith, c.loop-dictionary-test.false))) c.loop-dictionary.invariant
