-- What each turn takes, the next one takes more behind it.
use Rattle.std.proofs.KnownBytes.{Consumes-trans}
use Rattle.lister.proofs.skip_rest.Goals as goal

pub returns-then-branch-eq0 : goal.returns-then-branch-eq0
returns-then-branch-eq0 g c = λ yes.
    let rest = c.in_ok-skip_some.ensures in
    ((_, Consumes-trans _ _ _ _ _ c.loop.invariant.1 rest.0.1), λ none. rest.1 c.if-branch-eq0.true)

pub loop-preserved : goal.loop-preserved
loop-preserved g c = (_, Consumes-trans _ _ _ _ _ c.loop.invariant.1 c.in_ok-skip_some.ensures.0.1)
