-- Inside: what one look tells of a left row whose key is a number.
use Rattle.std.specs.Prelude.{ℤ, if◌then◌else◌}
use Rattle.hash_join.specs.declared.number_look.BucketKind.{BucketKind}
use Rattle.hash_join.specs.declared.number_look.BucketKind.TheVariants as known
use Rattle.hash_join.specs.declared.ranks.Ranks.{Ranks}
use Rattle.hash_join.specs.Ranks.{rank_at}
use Rattle.hash_join.specs.Hashes.{is_key, place_among}

-- what the ranks tell of a number
abbrev pub ranks_told : Ranks → ℤ → BucketKind
ranks_told ranks number = if is_key ranks number
    then known.Own (rank_at ranks.keys (place_among ranks.span number)) else known.Nothing
