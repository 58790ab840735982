use Rattle.std.proofs.Common.{◌≡◌, ◌≤◌, ◌+◌, length}
use Rattle.row_sources.specs.JoinedRows.{joined_at, IsJoined}
use Rattle.row_sources.specs.Picking.{pick_of, given_numbered}
use Rattle.row_sources.specs.Running.{GoesOn}
use Rattle.row_sources.specs.declared.turn.Patience.TheVariants.{Endless, Choice}
use Rattle.row_sources.proofs.rows.+turn.Given as goal

-- nothing was passed of which a row is given
abbrev pub invariant-JoinState::turn-loop-batch : goal.invariant-JoinState::turn-loop-batch
invariant-JoinState::turn-loop-batch l = record {
  is : IsJoined l.left l.self.joiner l.self.number;
  goes : GoesOn (joined_at l.fn.left l.fn.self.joiner l.fn.self.number) (joined_at l.left l.self.joiner l.self.number);
  rows : given_numbered (pick_of l.picker) (joined_at l.fn.left l.fn.self.joiner l.fn.self.number).ahead
      ≡ given_numbered (pick_of l.picker) (joined_at l.left l.self.joiner l.self.number).ahead;
  seen : (joined_at l.left l.self.joiner l.self.number).unseen ≤ (joined_at l.fn.left l.fn.self.joiner l.fn.self.number).unseen;
  endless : l.fn.looking.patience ≡ Endless → l.looking.patience ≡ Endless;
  choice : l.looking.patience ≡ Choice → l.fn.looking.patience ≡ Choice;
}

abbrev pub decreases-JoinState::turn-loop-batch : goal.decreases-JoinState::turn-loop-batch
decreases-JoinState::turn-loop-batch l = length (joined_at l.left l.self.joiner l.self.number).ahead + length l.left.ahead

abbrev pub invariant-JoinState::turn_shown-loop-batch : goal.invariant-JoinState::turn_shown-loop-batch
invariant-JoinState::turn_shown-loop-batch l = record {
  is : IsJoined l.left l.self.joiner l.self.number;
  goes : GoesOn (joined_at l.fn.left l.fn.self.joiner l.fn.self.number) (joined_at l.left l.self.joiner l.self.number);
  rows : given_numbered (pick_of l.picker) (joined_at l.fn.left l.fn.self.joiner l.fn.self.number).ahead
      ≡ given_numbered (pick_of l.picker) (joined_at l.left l.self.joiner l.self.number).ahead;
  seen : (joined_at l.left l.self.joiner l.self.number).unseen ≤ (joined_at l.fn.left l.fn.self.joiner l.fn.self.number).unseen;
  endless : l.fn.looking.patience ≡ Endless → l.looking.patience ≡ Endless;
  choice : l.looking.patience ≡ Choice → l.fn.looking.patience ≡ Choice;
}

abbrev pub decreases-JoinState::turn_shown-loop-batch : goal.decreases-JoinState::turn_shown-loop-batch
decreases-JoinState::turn_shown-loop-batch l = length (joined_at l.left l.self.joiner l.self.number).ahead + length l.left.ahead
