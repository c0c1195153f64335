-- A condition of two parts.
use mathlib.Core.Path.{◌≡◌, refl}
use mathlib.Core.Bool.{Bool, true, false, ◌||◌, true≢false}

pub either-unmet : (a b : Bool) → (a || b) ≡ false → (a ≡ false) × (b ≡ false)
either-unmet true b e = absurd (true≢false e)
either-unmet false b e = (refl, e)
