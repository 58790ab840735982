use Rattle.coded_keys.specs.Numbers.{AreNumbers}
use Rattle.first_rows.specs.Numbers.{text_number}
use Rattle.grouping.specs.FedRows.{batch_at}
use Rattle.grouping.proofs.JoinedKeys.{IsJoining}
use Rattle.grouping.proofs.groups.Grouping.join_each.Given as goal

abbrev pub invariant-loop-place : goal.invariant-loop-place
invariant-loop-place g l = record {
  joining : IsJoining l.initial.firsts.keys l.others.keys l.place l.firsts.keys l.groups.items;
  seen : AreNumbers (text_number l.firsts.texts) (batch_at l.self.batches.now l.seen.number) l.self.keys.now l.seen.numbers.places.items;
  ready : g.W.Watches.ready l.watch;
  watched : g.W.Watches.watched l.fn.watch l.watch;
}
