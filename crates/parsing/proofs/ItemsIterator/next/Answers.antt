-- One number, and the byte after it.
use Rattle.parsing.proofs.ItemLaws.{given-none, given-item}
use Rattle.parsing.proofs.ItemsIterator.next.Goals as goal

pub returns-in_err-number-clause-steps : goal.returns-in_err-number-clause-steps
returns-in_err-number-clause-steps c =
    rw c.from_residual-in_err-number.ensures (given-none c.args.self.now c.in_ok-self.was c.in_err-number.ensures)

pub returns-clause-steps : goal.returns-clause-steps
returns-clause-steps c = given-item c.args.self.now c.in_ok-self.was c.in_ok-number.ensures _ c.next_place-self.ensures
