-- Inside: threads may share the values of a type. What each has of one that is lent says the same
-- to all of them. It is what `Sync` says, spelled out of the type's parts, so that it is one
-- statement wherever the type is named.
use Prim.Native.Nat.{ℕ}
use denote.RattleType.{RattleType}
use denote.Param.Send.{Common}

abbrev pub MayBeShared : RattleType → Type 0
MayBeShared type = (value : type.Denot) (block offset : ℕ) → Common (type.shr_at value block offset)
