-- Each turn puts the answer for one record into its reply; past the last record both numbers are 0.
use mathlib.Core.List.{List}
use mathlib.Core.Path.{ap, sym, ◌∙◌}
use Prim.Native.Nat.{◌<◌}
use native.Mathlib.Omega.{arith}
use Rattle.std.specs.Prelude.{Ok}
use Rattle.conditions.specs.Conditions.{most_records}
use Rattle.batch.specs.Batch.{BatchAnswer, batch_says}
use Rattle.numbers.specs.Numbers.{batch_numbers, SmallBatch}
use Rattle.numbers.specs.declared.Reply.{Reply}
use Rattle.numbers.specs.declared.Replies.{Replies}
use Rattle.numbers.proofs.ReplyLaws.{place-small, replied-on, replied-all}
use Rattle.numbers.proofs.numbers_of_batch.Goals as goal
use Rattle.numbers.proofs.numbers_of_batch.Goals.{In-Ok}

small-at : (c : In-Ok) → SmallBatch (batch_says (Ok c.in-Ok.places)) c.args.records
small-at c = rw c.in-Ok.is at c.requires

pub numbers_of-requires : goal.numbers_of-requires
numbers_of-requires c = place-small _ (small-at (goal.at.numbers_of-requires c).In-Ok) _

pub loop-i-preserved : goal.loop-i-preserved
loop-i-preserved c =
    let inside : c.loop-i.i < most_records = omega (arith, c.loop-i-test.true, c.min-i-end.ensures) in
    replied-on _ (small-at (goal.at.loop-i-preserved c).In-Ok) c.numbers_of.result c.loop-i.invariant inside c.numbers_of.ensures

pub returns-after-loop-i : goal.returns-after-loop-i
returns-after-loop-i c =
    let all = replied-all _ (small-at (goal.at.returns-after-loop-i c).In-Ok) c.loop-i.invariant (omega (arith, c.loop-i-test.false, c.min-i-end.ensures)) in
    let told : List Reply → Replies = λ t. record { refusal = 0; replies = t } in
    ap told all ∙ sym (ap (λ (a : BatchAnswer). batch_numbers (batch_says a)) c.in-Ok.is)
