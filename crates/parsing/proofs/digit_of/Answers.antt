-- A byte among the digits, or below or above them.
use native.Mathlib.Omega.{arith}
use Rattle.parsing.proofs.NumberLoop.{digit-outside}
use Rattle.text.proofs.Readers.{digit-inside}
use Rattle.parsing.proofs.digit_of.Goals as goal

pub returns-then-is_ascii_digit : goal.returns-then-is_ascii_digit
returns-then-is_ascii_digit c =
    let range = c.if-is_ascii_digit.ensures.cases in
    let value = digit-inside c.args.byte (omega arith) (omega arith) in
    (omega (arith, value), omega arith)

pub returns-else-is_ascii_digit : goal.returns-else-is_ascii_digit
returns-else-is_ascii_digit c = digit-outside c.args.byte c.if-is_ascii_digit.ensures.cases
