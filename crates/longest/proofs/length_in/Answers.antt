-- The letters of the longer word tell its order.
use mathlib.Core.Path.{◌∙◌}
use native.Mathlib.Omega.{arith}
use Rattle.theory.specs.Orders.Decisions.{decides-true, decides-false}
use Rattle.common.proofs.InOrderLaws.{bytes}
use Rattle.longest.proofs.LongestLaws.{known-fits, length-in, length-other}
use Rattle.longest.proofs.length_in.Goals as goal

pub overflow_sub-j : goal.overflow_sub-j
overflow_sub-j g c = omega (arith, (known-fits c.requires c.type_inv.word).0)

pub bounds-word-j-2 : goal.bounds-word-j-2
bounds-word-j-2 g c = let f = known-fits c.requires c.type_inv.word in omega (arith, f.0, f.1)

pub returns-then-precedes : goal.returns-then-precedes
returns-then-precedes g c =
    let e = c.requires.entry in
    let tells = decides-true c.precedes.ensures c.if-precedes.true in
    e ∙ length-in c.args.word.now (bytes _ c.type_inv.word) c.args.j c.requires.inside g.O.LetterOrder.natural (rw e at tells)

pub returns : goal.returns
returns g c =
    let tells = decides-false c.precedes.ensures c.if-precedes.false in
    length-other c.args.word.now (bytes _ c.type_inv.word) c.args.j c.requires.inside g.O.LetterOrder.natural (rw c.requires.entry at tells)
