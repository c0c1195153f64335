-- Each turn takes one letter into what is known of the letters before.
use Rattle.conditions.proofs.MarkLaws.{Looked}
use Rattle.conditions.proofs.is_marked.Given as goal

abbrev pub invariant-loop-letter : goal.invariant-loop-letter
invariant-loop-letter l = Looked l.word l.marked l.letter-index
