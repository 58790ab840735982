use Rattle.std.proofs.Common.{take}
use Rattle.client_calls.specs.Calls.{Fit}
use Rattle.client_calls.proofs.call.all_fit.Given as goal

-- the messages so far fit
abbrev pub invariant-loop-message : goal.invariant-loop-message
invariant-loop-message l = Fit (take l.message-index l.messages)
