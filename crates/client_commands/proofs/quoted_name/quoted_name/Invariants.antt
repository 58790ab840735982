use Rattle.std.proofs.Common.{◌≡◌, [], ◌∷◌, ◌++◌, length, string_bytes, IsUtf8}
use Rattle.std.specs.List.{flat_map}
use Rattle.std.specs.Str.{byte}
use Rattle.sql_text.specs.Values.{doubled, quoted}
use Rattle.client_commands.proofs.quoted_name.quoted_name.Given as goal

-- what was written, and what is left, are all of it
abbrev pub invariant-loop-front : goal.invariant-loop-front
invariant-loop-front l = record {
  utf8 : IsUtf8 l.rest;
  all : string_bytes l.text ++ (flat_map (doubled (byte "\"")) l.rest ++ byte "\"" ∷ []) ≡ quoted (byte "\"") l.name;
}

abbrev pub decreases-loop-front : goal.decreases-loop-front
decreases-loop-front l = length l.rest
