-- A run that is not known is a separator, or scanned for.
use Prim.Native.Nat.{◌<◌}
use native.Mathlib.Omega.{arith}
use lib.ListN.{get_or}
use Rattle.words.specs.Separated.{separator}
use Rattle.strict.proofs.Walking.{run-repeats, run_alone, run-resumes, run-scanned}
use Rattle.strict.proofs.run_at.Goals as goal

pub returns-then-word-from : goal.returns-then-word-from
returns-then-word-from c =
    let run = run_alone c.args.word.now c.args.from c.if-word-from.true in
    let t = run-repeats run c.requires.inside in
    record { begins = t.0; right = t.1; kept = λ l. absurd (omega (arith, l, c.if-from-known.false)); found = λ l. run }

pub scan_on-s-requires : goal.scan_on-s-requires
scan_on-s-requires c =
    run-resumes c.args.word.now c.args.from _ c.requires.short c.requires.inside c.start.ensures

pub returns : goal.returns
returns c =
    let w = c.args.word.now in
    let from = c.args.from in
    let below : get_or w from 0 < separator = omega (arith, c.type_inv.word from, c.if-word-from.false) in
    let run = run-scanned w from _ below c.scan_on-s.ensures in
    let t = run-repeats run c.requires.inside in
    record { begins = t.0; right = t.1; kept = λ l. absurd (omega (arith, l, c.if-from-known.false)); found = λ l. run }
