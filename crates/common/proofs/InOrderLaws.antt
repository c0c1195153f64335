-- Words in either order of the letters, as the code compares them: two words agree as far in both orders (agree-in-order), and the letters where they part
-- decide which comes first (parted-decide), or the lengths where one is a prefix of the other (ends-decide).
use mathlib.Core.Path.{◌≡◌, refl, ap, sym, ◌∙◌}
use mathlib.Core.Bool.{Bool, true, false}
use mathlib.Core.List.{List, [], ◌∷◌, map}
use Prim.Native.Nat.{ℕ, zero, suc, ◌+◌, ◌-◌, ◌≤◌, ◌<◌, min}
use lib.Dec.{ltb}
use Rattle.common.proofs.BeforeLaws.{lengths-decide}
use native.Mathlib.Omega.{arith}
use lib.ListN.{length, take, drop, get_or, length-drop}
use mir.Syntax.{w8}
use mir.Val.{Fits}
use Rattle.buffers.proofs.PartLaws.{part, rest, rest-is}
use Rattle.words.specs.Words.{◌≺◌, mismatch}
use Rattle.theory.specs.Orders.Decisions.{Decides, holds, fails}
use Rattle.theory.specs.Orders.InverseLaws.{≺-≼, ≼-not-≪}
use Rattle.theory.specs.Orders.CommonLength.{Agree, matched-none, agree-sym, agree-≪}
use Rattle.theory.specs.Repetitions.TwoOrders.{reversed}
use Rattle.theory.specs.Repetitions.TwoOrders.{UpTo, reversed-length, reversed-at}
use Rattle.common.specs.Orders.{most_byte, in_order, Precedes, BothBegin}

-- ---- letters

-- a word of bytes
pub bytes : (w : List ℕ) → ((k : ℕ) → Fits w8 (get_or w k 0)) → UpTo most_byte w
bytes w f k = omega (arith, (f k).fits)

-- ---- words

pub in-order-length : (natural : Bool) (w : List ℕ) → length (in_order natural w) ≡ length w
in-order-length true w = reversed-length most_byte w
in-order-length false w = refl

map-part : (f : ℕ → ℕ) (a b : ℕ) (w : List ℕ) → map f (part a b w) ≡ part a b (map f w)
map-part f a b w = map-take (b - a) (drop a w) ∙ ap (take (b - a)) (map-drop a w)
  where
    map-take : (n : ℕ) (v : List ℕ) → map f (take n v) ≡ take n (map f v)
    map-take zero v = refl
    map-take (suc n) [] = refl
    map-take (suc n) (x ∷ v) = ap (λ (t : List ℕ). f x ∷ t) (map-take n v)

    map-drop : (n : ℕ) (v : List ℕ) → map f (drop n v) ≡ drop n (map f v)
    map-drop zero v = refl
    map-drop (suc n) [] = refl
    map-drop (suc n) (x ∷ v) = map-drop n v

pub in-order-part : (natural : Bool) (a b : ℕ) (w : List ℕ) → in_order natural (part a b w) ≡ part a b (in_order natural w)
in-order-part true a b w = map-part (λ x. most_byte - x) a b w
in-order-part false a b w = refl

agree-reversed : {u v : List ℕ} {l : ℕ} → UpTo most_byte u → UpTo most_byte v → Agree u v l → Agree (reversed most_byte u) (reversed most_byte v) l
agree-reversed {u} {v} {l} p q g = record {
  matched = record {
    left = rw (reversed-length most_byte u) g.matched.left;
    right = rw (reversed-length most_byte v) g.matched.right;
    equal = λ t h. reversed-at most_byte u t (omega (arith, g.matched.left))
        ∙ (ap (λ (a : ℕ). most_byte - a) (g.matched.equal t h) ∙ sym (reversed-at most_byte v t (omega (arith, g.matched.right))));
  };
  differ = λ h k e.
      let x : l < length u = rw (reversed-length most_byte u) at h in
      let y : l < length v = rw (reversed-length most_byte v) at k in
      g.differ x y (omega (arith, p l, q l, reversed-at most_byte u l x, reversed-at most_byte v l y));
}

agree-in-order : (natural : Bool) {u v : List ℕ} {l : ℕ} → UpTo most_byte u → UpTo most_byte v → Agree u v l → Agree (in_order natural u) (in_order natural v) l
agree-in-order true p q g = agree-reversed p q g
agree-in-order false p q g = g

-- the letters where they part
in-order-less : (natural : Bool) (u v : List ℕ) (l : ℕ) → UpTo most_byte u → UpTo most_byte v → l < length u → l < length v
    → Precedes natural (get_or u l 0) (get_or v l 0) → get_or (in_order natural v) l 0 < get_or (in_order natural u) l 0
in-order-less true u v l p q h k x = omega (arith, p l, q l, reversed-at most_byte u l h, reversed-at most_byte v l k)
in-order-less false u v l p q h k x = x

precedes-other : (natural : Bool) (a b : ℕ) → ¬ (a ≡ b) → ¬ Precedes natural a b → Precedes natural b a
precedes-other true a b n h = omega arith
precedes-other false a b n h = omega arith

-- ---- where two words part

-- at their first letters
pub agree-first : (u v : List ℕ) → ¬ (get_or v 0 0 ≡ get_or u 0 0) → Agree u v 0
agree-first u v d = record { matched = matched-none u v; differ = λ h k e. d (sym e) }

-- one letter more than what follows equal first letters agrees
pub agree-next : {u v : List ℕ} {r : ℕ} → BothBegin u v → get_or v 0 0 ≡ get_or u 0 0 → Agree (rest 1 u) (rest 1 v) r → Agree u v (1 + r)
agree-next {u = []} h e g = absurd (let o = h.left in omega arith)
agree-next {u = a ∷ u} {v = []} h e g = absurd (let o = h.right in omega arith)
agree-next {u = a ∷ u} {v = b ∷ v} {r = r} h e g = go (rw (rest-is 1 (a ∷ u), rest-is 1 (b ∷ v)) at g)
  where
    go : Agree u v r → Agree (a ∷ u) (b ∷ v) (1 + r)
    go g = record {
      matched = record {
        left = omega (arith, g.matched.left);
        right = omega (arith, g.matched.right);
        equal = λ t. elim t as (λ j. j < 1 + r → get_or (a ∷ u) j 0 ≡ get_or (b ∷ v) j 0)
            [ zero ↦ λ h. sym e | suc s ↦ λ h. g.matched.equal s (omega arith) ];
      };
      differ = let z : 1 + r ≡ suc r = omega arith in rw z (λ h n. g.differ (omega arith) (omega arith));
    }

-- what follows the first letters is one letter shorter
pub rest-length : (w : List ℕ) → length (rest 1 w) ≡ length w - 1
rest-length w = rw (rest-is 1 w) (length-drop 1 w)

module _ (natural : Bool) (u v : List ℕ) {l : ℕ} (p : UpTo most_byte u) (q : UpTo most_byte v) (g : Agree u v l) where
  agrees : Agree (in_order natural u) (in_order natural v) l
  agrees = agree-in-order natural p q g

  pub parted-decide : {t : Bool} → l < length u → l < length v → Decides (Precedes natural (get_or u l 0) (get_or v l 0)) t
      → Decides (in_order natural u ≺ in_order natural v) t
  parted-decide h k (holds x) =
      let less = agree-≪ (agree-sym agrees) (rw (in-order-length natural v) k) (rw (in-order-length natural u) h) (in-order-less natural u v l p q h k x) in
      holds (mismatch less)
  parted-decide h k (fails x) =
      let y : Precedes natural (get_or v l 0) (get_or u l 0) = precedes-other natural (get_or u l 0) (get_or v l 0) (g.differ h k) x in
      let less = agree-≪ agrees (rw (in-order-length natural u) h) (rw (in-order-length natural v) k) (in-order-less natural v u l q p k h y) in
      fails (λ z. ≼-not-≪ (≺-≼ z) less)

  -- one is a prefix of the other
  pub ends-decide : min (length u) (length v) ≤ l → Decides (in_order natural u ≺ in_order natural v) (ltb (length u) (length v))
  ends-decide k =
      let d = lengths-decide agrees (rw (in-order-length natural u, in-order-length natural v) k) in
      rw (in-order-length natural u, in-order-length natural v) at d
