use Rattle.std.proofs.Common.{rules}
use Rattle.std.proofs.lemmas.Result.{err_from_is_err_and}
use Rattle.version_log.specs.Log.{expired}
use Rattle.version_cell.specs.SignedEntries.{log_of}
use Rattle.version_cell.proofs.Answering.{expired_behind}
use Rattle.version_cell.proofs.Counts.{counted_more}
use Rattle.version_cell.proofs.Logs.{longer_by_one}
use Rattle.version_cell.proofs.shared_putter.CountedPublisher.expire.Goals as goal

pub invariant_of-self : goal.invariant_of-self
invariant_of-self g c = record { counted = search rules; each = rw c.in_err-floor.ensures.added c.args.self.now.each }

pub invariant_of-self-2 : goal.invariant_of-self-2
invariant_of-self-2 g c = record {
  counted = longer_by_one _ _ _ _ _ c.in_ok-floor.ensures.added c.args.self.now.counted (search rules);
  each = counted_more _ c.args.self.now.publisher _ _ _ (expired c.args.version) c.args.seat.now.made c.make-2.new.self.made c.args.self.now.each
      (search rules) (search rules) (search rules) (search rules) (search rules);
}

pub returns-clause-answered : goal.returns-clause-answered
returns-clause-answered g c = c.in_ok-floor.ensures.answered

pub returns-clause-expiry : goal.returns-clause-expiry
returns-clause-expiry g c =
    expired_behind _ _ _ c.args.version c.args.self.now.publisher _ c.requires.within c.in_ok-floor.ensures.answered (search rules) (search rules)
