-- There is no word to join; or its first letter is the letter, which is then a prefix of it; or the two differ.
use borrow.Author.Rules.{rules}
use Rattle.merging.proofs.JoinLaws.{none-joins, same-joins, other-joins}
use Rattle.merging.proofs.letter_joins.Goals as goal

pub returns-then-is_empty : goal.returns-then-is_empty
returns-then-is_empty c = none-joins _ _ (search rules)

pub returns-then-b-a : goal.returns-then-b-a
returns-then-b-a c = same-joins _ _ c.requires (search rules) c.if-b-a.true

pub returns : goal.returns
returns c = other-joins _ _ (search rules) c.if-b-a.false
