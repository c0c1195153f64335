-- Letters read as numbers: of two words that agree up to a place, the numbers of the next eight letters tell that these are equal (equal-numbers) or where
-- the words part (numbers-part).
use mathlib.Core.Path.{◌≡◌, ap, sym, ◌∙◌}
use mathlib.Core.List.{List}
use Prim.Native.Nat.{ℕ, ◌+◌, ◌-◌, ◌≤◌, ◌<◌}
use native.Mathlib.Omega.{arith}
use native.Mathlib.Decide.{dec_lt}
use lib.ListN.{get_or, take}
use lib.Seq.{slice, get_or-take, get_or-drop}
use Rattle.words.specs.Words.{common_length_of}
use Rattle.theory.specs.Orders.CommonLength.{Matched, Agree, agree_same, common-agree}
use Rattle.eights.specs.Eights.{little_endian, NumberAt, PairTells}
use Rattle.eights.proofs.EightLaws.{part_length, same-letters}
use Rattle.letters.specs.Steps.{PartedAt}

-- the letters of a part
letter-in : (l : ℕ) (x : List ℕ) (t : ℕ) → t < 8 → get_or (slice l (l + 8) x) t 0 ≡ get_or x (l + t) 0
letter-in l x t k = get_or-drop l (take (l + 8) x) t 0 ∙ get_or-take (l + 8) x (l + t) 0 (omega arith)

module _ (x y : List ℕ) (l v w : ℕ) (p : NumberAt 8 x l v) (q : NumberAt 8 y l w) (g : Matched x y l) where
  abbrev at_x : List ℕ
  at_x = slice l (l + 8) x

  abbrev at_y : List ℕ
  at_y = slice l (l + 8) y

  more-matched : (k : ℕ) → k ≤ 8 → ((t : ℕ) → t < k → get_or at_x t 0 ≡ get_or at_y t 0) → Matched x y (l + k)
  more-matched k h e = record { left = omega (arith, p.remain); right = omega (arith, q.remain); equal = λ t b. go t b (dec_lt t l) }
    where
      go : (t : ℕ) → t < l + k → Dec (t < l) → get_or x t 0 ≡ get_or y t 0
      go t b (yes c) = g.equal t c
      go t b (no c) =
          let i : t ≡ l + (t - l) = omega arith in
          rw i (sym (letter-in l x (t - l) (omega arith)) ∙ (e (t - l) (omega arith) ∙ letter-in l y (t - l) (omega arith)))

  pub equal-numbers : v ≡ w → Matched x y (l + 8)
  equal-numbers e = more-matched 8 (omega arith) (λ t h. ap (λ (z : List ℕ). get_or z t 0) (same-letters (rw e at p) q))

  parted : (k : ℕ) → ¬ (v ≡ w) → Agree at_x at_y k → PartedAt x y (l + k)
  parted k d a = record {
    agree = record {
      matched = more-matched k (omega (arith, few)) a.matched.equal;
      differ = λ h i e.
          a.differ (omega (arith, few, part_length l 8 x p.remain)) (omega (arith, few, part_length l 8 y q.remain))
          (letter-in l x k few ∙ (e ∙ sym (letter-in l y k few)));
    };
    left = omega (arith, few, p.remain);
    right = omega (arith, few, q.remain);
  }
    where
      same : 8 ≤ k → at_x ≡ at_y
      same h =
          let m = part_length l 8 x p.remain in
          agree_same a (omega (arith, m)) (omega (arith, m, part_length l 8 y q.remain))

      go : Dec (k < 8) → k < 8
      go (yes h) = h
      go (no h) = absurd (d (p.number_is ∙ (ap little_endian (same (omega arith)) ∙ sym q.number_is)))

      few : k < 8
      few = go (dec_lt k 8)

  pub numbers-part : {r : ℕ} → ¬ (v ≡ w) → PairTells v w r → PartedAt x y (l + r)
  numbers-part d tells = rw (tells.common-is x y l p q) (parted (common_length_of at_x at_y) d (common-agree at_x at_y))
