-- Connections that handles of a network give.
use Rattle.std.specs.Prelude.{◌≡◌, ◌⊎◌, List, [], ◌∷◌, Option, Some, None}
use Rattle.command_ends.specs.Network.{Ends}

-- these handles of the network were asked for, one after the other
abbrev pub SharesHandles : {N : Type 0} → (N → N → N → Type 0) → List N → N → N → Type 0
SharesHandles Shares [] old new = new ≡ old
SharesHandles {N} Shares (handle ∷ handles) old new =
    (middle : N) × Shares old handle middle × SharesHandles Shares handles middle new

-- what came of asking a handle for a connection: one of these ends, or none
abbrev pub Giving : Type 0 → Type 1
Giving N = N → Option Ends → N → Type 0

-- a handle gave this connection: at once; or it gave none, and this one when it was asked once more
abbrev pub GivesAtLast : {N : Type 0} → Giving N → N → Ends → Type 0
GivesAtLast {N} Gives handle ends =
    ((new : N) × Gives handle (Some ends) new)
    ⊎ ((middle : N) × Gives handle None middle × ((new : N) × Gives middle (Some ends) new))

-- a handle gave none, and none when it was asked once more
abbrev pub RefusesTwice : {N : Type 0} → Giving N → N → Type 0
RefusesTwice {N} Gives handle =
    (middle : N) × Gives handle None middle × ((new : N) × Gives middle None new)

-- each handle gave the connection at its place
abbrev pub EachGives : {N : Type 0} → Giving N → List N → List Ends → Type 0
EachGives Gives [] [] = Unit {0}
EachGives Gives (handle ∷ handles) (ends ∷ made) =
    GivesAtLast Gives handle ends × EachGives Gives handles made
EachGives Gives _ _ = ⊥
