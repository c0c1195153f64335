-- A record is refused by its number alone.
use native.Mathlib.Omega.{arith}
use Rattle.listing.proofs.Results.{refused-fits, refused-listed}
use Rattle.listing.proofs.write_listing.Goals as goal

pub write_refusal-requires : goal.write_refusal-requires
write_refusal-requires c = refused-fits c.args.word.now c.in-Err.refusal c.in-Err.ensures.says (omega (arith, c.told-out))

pub returns-in-Err : goal.returns-in-Err
returns-in-Err c = refused-listed c.args.word.now c.in-Err.refusal c.in-Err.ensures.says (omega (arith, c.told-out)) c.write_refusal.ensures
