-- The messages of dictionaries, one by one.
use Rattle.std.proofs.Common.{◌≡◌, ◌≤◌, ◌<◌, ℕ, zero, suc, ◌+◌, false, All, List, [], ◌∷◌, ◌++◌, length, map, get_or, refl, ap, arith}
use Rattle.std.specs.List.{AllZip, AllByRecursion}
use Rattle.std.proofs.lemmas.List.Elements.{All-nil, All-cons}
use Rattle.scan_base.specs.declared.value.Value.{Value}
use Rattle.dictionary_answers.specs.declared.batches.ColumnDictionary.{ColumnDictionary}
use Rattle.dictionary_answers.specs.Answer.{dictionary_seen}
use Rattle.ipc_batch.specs.SaidRows.{Sent}
use Rattle.ipc_batch.specs.WrittenMessages.{most_header_bytes, SaysValues}
use Rattle.dictionary_answers.specs.Dress.{ClaimsAll, IsMessageOf}
use Rattle.dictionary_answers.specs.Lengths.{bodies_length}
use Rattle.dictionary_answers.specs.inside.WrittenLengths.{written_length, all_written}

-- one message more
pub message_more : (dictionaries : List ColumnDictionary) (sents : List Sent) (dictionary : ColumnDictionary) (sent : Sent) → AllZip IsMessageOf dictionaries sents → IsMessageOf dictionary sent →
    AllZip IsMessageOf (dictionaries ++ dictionary ∷ []) (sents ++ sent ∷ [])
message_more [] [] dictionary sent all is = (is, tt)
message_more (d ∷ dictionaries) (s ∷ sents) dictionary sent all is = (all.0, message_more dictionaries sents dictionary sent all.1 is)
message_more [] (s ∷ sents) dictionary sent all is = absurd all
message_more (d ∷ dictionaries) [] dictionary sent all is = absurd all

-- the body of one is no longer than those of all
pub written_among : (dictionaries : List ColumnDictionary) (k : ℕ) (d : ColumnDictionary) → k < length dictionaries → written_length (get_or dictionaries k d) ≤ all_written dictionaries
written_among [] k d low = absurd (omega (arith, low))
written_among (dictionary ∷ dictionaries) zero d low = omega arith
written_among (dictionary ∷ dictionaries) (suc k) d low = omega (arith, written_among dictionaries k d (omega (arith, low)))

-- what they say
pub messages_said : (dictionaries : List ColumnDictionary) (sents : List Sent) → AllZip IsMessageOf dictionaries sents →
    AllZip (λ (values : ℕ × List Value) sent. SaysValues sent values.0 values.1 false) (map dictionary_seen dictionaries) sents
messages_said [] [] all = tt
messages_said (d ∷ dictionaries) (s ∷ sents) all = (all.0.said, messages_said dictionaries sents all.1)
messages_said [] (s ∷ sents) all = absurd all
messages_said (d ∷ dictionaries) [] all = absurd all

-- which claim all of their bodies
pub messages_claim : (dictionaries : List ColumnDictionary) (sents : List Sent) → AllZip IsMessageOf dictionaries sents → All ClaimsAll sents
messages_claim [] [] all = All-nil ClaimsAll
messages_claim (d ∷ dictionaries) (s ∷ sents) all = All-cons ClaimsAll s sents all.0.claims (messages_claim dictionaries sents all.1)
messages_claim [] (s ∷ sents) all = absurd all
messages_claim (d ∷ dictionaries) [] all = absurd all

-- in short headers
pub messages_short : (dictionaries : List ColumnDictionary) (sents : List Sent) → AllZip IsMessageOf dictionaries sents → All (λ (sent : Sent). length sent.header ≤ most_header_bytes) sents
messages_short [] [] all = All-nil (λ (sent : Sent). length sent.header ≤ most_header_bytes)
messages_short (d ∷ dictionaries) (s ∷ sents) all = All-cons (λ (sent : Sent). length sent.header ≤ most_header_bytes) s sents all.0.short (messages_short dictionaries sents all.1)
messages_short [] (s ∷ sents) all = absurd all
messages_short (d ∷ dictionaries) [] all = absurd all

-- and how long they are
pub messages_length : (dictionaries : List ColumnDictionary) (sents : List Sent) → AllZip IsMessageOf dictionaries sents → bodies_length sents ≡ all_written dictionaries
messages_length [] [] all = refl
messages_length (d ∷ dictionaries) (s ∷ sents) all = omega (arith, all.0.sized, messages_length dictionaries sents all.1)
messages_length [] (s ∷ sents) all = absurd all
messages_length (d ∷ dictionaries) [] all = absurd all
