-- At the word's end no end is left.
use Rattle.strict.proofs.Walking.{none_left}
use native.Mathlib.Omega.{arith}
use Rattle.strict.proofs.FactorsIterator.next.Goals as goal

pub returns-then-self-clause-steps : goal.returns-then-self-clause-steps
returns-then-self-clause-steps c =
    let none = none_left c.args.self.now.word.now c.args.self.now.from (omega arith) in
    (none, none)
