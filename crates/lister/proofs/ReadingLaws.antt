-- What a reading that gave bytes tells.
use Rattle.std.proofs.Common.{◌≡◌, ℕ, ◌+◌, ◌≤◌, List, ◌++◌, ap, sym, ◌∙◌, subst, length, take, drop, le_refl, length-take-le, drop_at}
use Rattle.std.proofs.lemmas.Slice.{take-put_mid_below}
use Rattle.std.specs.declared.option.Option.{Option}
use Rattle.std.specs.Io.KnownBytes.{Consumes}
use Rattle.std.proofs.KnownBytes.{Consumes-trans}
use borrow.Rule.Slice.PartMut.{put_mid, post_of}
use lib.Seq.{take-add, take-append-le}

-- what a read put behind the first a bytes stands behind them
pub take-put_mid : (a k n : ℕ) (w part : List ℕ) → a ≤ length w → n ≤ length part → take (a + n) (put_mid a k w part) ≡ take a w ++ take n part
take-put_mid a k n w part low fits =
    let front = take-put_mid_below a k w part a (le_refl a) low in
    let behind : take n (drop a (put_mid a k w part)) ≡ take n part =
    ap (take n) (drop_at (take a w) (part ++ post_of a k w) a (length-take-le a w low)) ∙ take-append-le n part (post_of a k w) fits in
    take-add a n (put_mid a k w part) ∙ ap (λ l. l ++ take n (drop a (put_mid a k w part))) front ∙ ap (λ l. take a w ++ l) behind

-- what was consumed before, and by a read into the part from a on
pub consumes-behind : (x y z : Option (List ℕ)) (a k n : ℕ) (w part : List ℕ) → a ≤ length w → n ≤ length part
    → Consumes x y (take a w) → Consumes y z (take n part) → Consumes x z (take (a + n) (put_mid a k w part))
consumes-behind x y z a k n w part low fits before now = subst (Consumes x z) (sym (take-put_mid a k n w part low fits)) (Consumes-trans x y z _ _ before now)
