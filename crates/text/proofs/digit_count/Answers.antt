-- The power of ten that the number reaches says how many digits it has.
use Rattle.text.proofs.Texts.{digits-counted}
use Rattle.text.proofs.digit_count.Goals as goal

pub returns : goal.returns
returns c =
    let e = c.checked_ilog10.ensures in
    digits-counted _ c.checked_ilog10.result e.none e.power_le e.next_power_gt c.unwrap_or-power.ensures
