use Rattle.std.proofs.Common.{◌≡◌, ◌≤◌, ◌-◌}
use Rattle.row_sources.specs.Choices.{IsChoice}
use Rattle.row_sources.specs.Picking.{pick_of, given_numbered}
use Rattle.row_sources.specs.PlaceCursor.{IsPlaced, rows_ahead}
use Rattle.row_sources.specs.declared.turn.Patience.TheVariants.{Endless, Choice}
use Rattle.row_sources.proofs.place.PlaceRows.turn.Given as goal

-- nothing was passed of which a row is given
abbrev pub invariant-loop-self : goal.invariant-loop-self
invariant-loop-self l = record {
  placed : IsPlaced l.self.table l.self.cursor;
  choice : IsChoice l.self.table l.self.cursor (pick_of l.picker) l.choice;
  table : l.self.table ≡ l.fn.self.table;
  from : l.self.cursor.from ≡ l.fn.self.cursor.from;
  to : l.self.cursor.to ≡ l.fn.self.cursor.to;
  forth : l.fn.self.cursor.at ≤ l.self.cursor.at;
  rows : given_numbered (pick_of l.picker) (rows_ahead l.self.table l.fn.self.cursor)
      ≡ given_numbered (pick_of l.picker) (rows_ahead l.self.table l.self.cursor);
  endless : l.fn.looking.patience ≡ Endless → l.looking.patience ≡ Endless;
  patience : l.looking.patience ≡ Choice → l.fn.looking.patience ≡ Choice;
}

abbrev pub decreases-loop-self : goal.decreases-loop-self
decreases-loop-self l = l.self.cursor.to - l.self.cursor.at
