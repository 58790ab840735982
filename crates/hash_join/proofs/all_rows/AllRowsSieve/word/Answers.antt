use Rattle.std.proofs.Common.{◌≤◌, ◌^◌, arith}
use Rattle.std.proofs.Math.Nat.{pow-le-pow_right}
use Rattle.hash_join.proofs.Words.{all_word}
use Rattle.hash_join.proofs.all_rows.AllRowsSieve.word.Goals as goal

pub returns-else-rows-eq64 : goal.returns-else-rows-eq64
returns-else-rows-eq64 c =
    let few : c.args.rows ≤ 63 = omega arith in
    let below : 2 ^ c.args.rows ≤ 2 ^ 63 = pow-le-pow_right (omega arith) few in
    omega (arith, below, all_word c.args._from c.args.rows)
