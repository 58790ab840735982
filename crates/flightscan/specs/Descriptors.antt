-- File descriptors: how many a server may need, and what is said where the system lets it have
-- fewer.
use Rattle.std.specs.Prelude.{ℕ, ◌+◌, ◌*◌, List, ◌++◌, codes}
use Rattle.std.specs.Fmt.{decimal}

-- how many a server of so many seats may need: for each seat one of its listener and two of its
-- connection, and sixteen of its own
abbrev pub needed_for : ℕ → ℕ
needed_for seats = 3 * seats + 16

-- the line of a limit that is smaller
abbrev pub limit_line : ℕ → ℕ → List ℕ
limit_line limit seats =
    codes "the limit of file descriptors is " ++ (decimal limit ++ (codes ", and " ++ (decimal seats
    ++ (codes " seats may need " ++ (decimal (needed_for seats) ++ codes "\n")))))
