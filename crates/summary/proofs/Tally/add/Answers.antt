-- A part has 1 to 4,096 letters, so its band is one of the thirteen; and no count is above the number of ends, so none wraps.
use mathlib.Core.Path.{refl}
use mathlib.Core.Logic.{inl, inr}
use Prim.Native.Nat.{◌-◌}
use native.Mathlib.Omega.{arith}
use Rattle.summary.proofs.Summing.{Weighed, tally-band, tally-room, tally-next}
use Rattle.summary.proofs.Tally.add.Goals as goal
use Rattle.summary.proofs.Tally.add.Goals.{After-bit_length-band, then-self-size, else-self-size}

weighed : (c : After-bit_length-band) → Weighed c.args.self.now (c.args.end - c.args.self.now.last) c.if-self-size.self
weighed c = elim c.if-self-size.branch [
  | then-self-size w ↦ rw w.self-is (record { count = refl; bands = refl; chosen = inr (w.if-self-size.true, refl, refl) })
  | else-self-size w ↦ rw w.self-is (record { count = refl; bands = refl; chosen = inl (w.if-self-size.false, refl, refl) })
]

pub overflow_sub-band : goal.overflow_sub-band
overflow_sub-band c = (tally-band c.requires.1 c.bit_length-band.ensures).0

pub offset_bounds-self-band : goal.offset_bounds-self-band
offset_bounds-self-band c = omega (arith, tally-band c.requires.1 c.bit_length-band.ensures)

pub bounds-self-band : goal.bounds-self-band
bounds-self-band c = omega (arith, tally-band c.requires.1 c.bit_length-band.ensures)

pub overflow_add-self : goal.overflow_add-self
overflow_add-self c =
    let b = tally-band c.requires.1 c.bit_length-band.ensures in
    omega (arith, tally-room c.requires.1 (weighed (goal.at.overflow_add-self c).After-bit_length-band) (c.bit_length-band.result - 1) (omega (arith, b)))

pub bounds-self-band-2 : goal.bounds-self-band-2
bounds-self-band-2 c = omega (arith, tally-band c.requires.1 c.bit_length-band.ensures)

pub returns-clause-adds : goal.returns-clause-adds
returns-clause-adds c = λ es n. tally-next n (weighed (goal.at.returns-clause-adds c).After-bit_length-band) c.bit_length-band.ensures
