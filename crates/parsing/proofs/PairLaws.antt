-- Pairs of a list that was read before, one after another: what their reader's caller learns (pairs-next, pairs-none), and that an even number
-- of entries are pairs (even-paired).
use mathlib.Core.Path.{◌≡◌, refl}
use mathlib.Core.List.{List, [], ◌∷◌}
use Prim.Native.Nat.{ℕ, ◌%◌}
use native.Mathlib.Omega.{arith}
use Rattle.std.specs.Prelude.{Some, None}
use lib.ListN.{length}
use Rattle.parsing.specs.Parsing.{Left, Paired, pair, PairsLeft, PairGiven}
use Rattle.parsing.specs.declared.Pair.{Pair}
use Rattle.parsing.specs.declared.Pairs.{Pairs}

-- an even number of entries are pairs
pub even-paired : (ps : List ℕ) → length ps % 2 ≡ 0 → Paired ps
even-paired [] e = Paired.none
even-paired (a ∷ []) e = absurd (omega arith)
even-paired (a ∷ b ∷ ps) e = pair (even-paired ps (omega arith))

-- ---- what a caller learns

module _ {t : List ℕ} {i j : Pairs} (e : i.items.text.now ≡ t) where
  pub pairs-next : {ps : List ℕ} {r : Pair} → PairsLeft t i.items.next ps → PairGiven i (Some r) j
      → (qs : List ℕ) × ((ps ≡ r.end ∷ r.count ∷ qs) × PairsLeft t j.items.next qs)
  pairs-next {r = r} f g = rw e at (go f.paired (rw (← e) at f.left))
    where
      go : {us : List ℕ} → Paired us → Left 58 44 i.items.text.now i.items.next us
          → (qs : List ℕ) × ((us ≡ r.end ∷ r.count ∷ qs) × PairsLeft i.items.text.now j.items.next qs)
      go Paired.none l = let z = g.none l in absurd (cc)
      go (pair {e = e} {c = c} {ps = qs} p) l = let z = g.some l in let same = z.0 in (qs, (cc, record { paired = p; left = z.1 }))

  pub pairs-none : {ps : List ℕ} → PairsLeft t i.items.next ps → PairGiven i None j → ps ≡ []
  pairs-none f g = go f.paired (rw (← e) at f.left)
    where
      go : {us : List ℕ} → Paired us → Left 58 44 i.items.text.now i.items.next us → us ≡ []
      go Paired.none l = refl
      go (pair p) l = let z = (g.some l).0 in absurd (cc)
