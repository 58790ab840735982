use Rattle.std.proofs.Common.{◌≤◌, ◌<◌, ◌+◌, ◌*◌, ◌/◌, ◌%◌, ℕ, length, arith}
use Rattle.std.proofs.lemmas.List.{get_or_read}
use Rattle.hash_join.proofs.Ranking.{ones_below, rank_in_word}
use Rattle.hash_join.proofs.ranks.Ranks.rank.Goals as goal

pub returns : goal.returns
returns c =
    let ranks = c.args.self.now in
    let place : ℕ = c.args.place in
    let before = ranks.before.items in
    let word : 64 * (place / 64) + 64 ≤ length ranks.keys = omega (arith, c.requires, ranks.all) in
    let there : place / 64 < length before = omega (arith, word, ranks.counts.all) in
    let read = get_or_read before (place / 64) c.index.result.now there c.index.ensures 0 in
    let ones = ones_below ranks.keys (64 * (place / 64)) (place % 64) c.word.result (omega arith) word c.word.ensures in
    omega (arith, read, ranks.counts.counts (place / 64) there, ones, rank_in_word ranks.keys place)
