-- Each turn puts the answer for one record into its reply.
use Rattle.numbers.proofs.ReplyLaws.{Replied}
use Rattle.numbers.proofs.numbers_of_batch.Given as goal

abbrev pub invariant-loop-i : goal.invariant-loop-i
invariant-loop-i l = Replied l.places l.replies l.i
