-- What is summed up so far, together with the parts that follow, is the definition's summary. A part has 1 to 4,096 letters, so its band is one of the
-- thirteen; and no count is above the number of ends, so none wraps.
use mathlib.Core.Logic.{inl, inr}
use mathlib.Core.Path.{◌≡◌}
use Prim.Native.Nat.{◌-◌, ◌≤◌, ◌<◌}
use native.Mathlib.Omega.{arith}
use lib.ListN.{length}
use Rattle.words.specs.Pairs.{ends_of}
use Rattle.summary.proofs.Summing.{Chosen, summed-room, summed-above, summed-band, summed-on, summed-end}
use Rattle.summary.proofs.sum_up.Goals as goal
use Rattle.summary.proofs.sum_up.Goals.{After-bit_length-band, then-longest-size, else-longest-size}

chosen : (c : After-bit_length-band)
    → Chosen (c.factor_end-end.result - c.loop-i.last) c.loop-i.longest c.loop-i.from c.loop-i.last c.if-longest-size.longest c.if-longest-size.from
chosen c = elim c.if-longest-size.branch [
  | then-longest-size w ↦ inr (w.if-longest-size.true, w.longest-is, w.from-is)
  | else-longest-size w ↦ inl (w.if-longest-size.false, w.longest-is, w.from-is)
]

band : (c : After-bit_length-band) → (1 ≤ c.bit_length-band.result) × (c.bit_length-band.result ≤ 13)
band c = summed-band c.loop-i.invariant (omega (arith, c.count-count.ensures, c.loop-i-test.true)) c.requires c.factor_end-end.ensures c.bit_length-band.ensures

pub overflow_sub-band : goal.overflow_sub-band
overflow_sub-band c = (band (goal.at.overflow_sub-band c).After-bit_length-band).0

pub offset_bounds-bands-band : goal.offset_bounds-bands-band
offset_bounds-bands-band c = omega (arith, band (goal.at.offset_bounds-bands-band c).After-bit_length-band)

pub bounds-bands-band : goal.bounds-bands-band
bounds-bands-band c = omega (arith, band (goal.at.bounds-bands-band c).After-bit_length-band)

pub overflow_add-bands : goal.overflow_add-bands
overflow_add-bands c =
    let b = band (goal.at.overflow_add-bands c).After-bit_length-band in
    omega (arith, summed-room c.loop-i.invariant (c.bit_length-band.result - 1) (omega (arith, b)), c.requires.few)

pub bounds-bands-band-in-loop-i : goal.bounds-bands-band-in-loop-i
bounds-bands-band-in-loop-i c = omega (arith, band (goal.at.bounds-bands-band-in-loop-i c).After-bit_length-band)

pub loop-i-preserved : goal.loop-i-preserved
loop-i-preserved c =
    let at = (goal.at.loop-i-preserved c).After-bit_length-band in
    let some : c.loop-i.i < length (ends_of c.args.pairs.now) = omega (arith, c.count-count.ensures, c.loop-i-test.true) in
    summed-on c.loop-i.invariant some c.factor_end-end.ensures (summed-above c.loop-i.invariant some c.requires c.factor_end-end.ensures)
    (chosen at) c.bit_length-band.ensures (band at).0

pub returns : goal.returns
returns c =
    let all : c.loop-i.i ≡ c.count-count.result = omega (arith, c.loop-i-test.false, c.loop-i.auto.i-end) in
    rw all at (summed-end c.loop-i.invariant (omega (arith, c.count-count.ensures, c.loop-i-test.false)))
