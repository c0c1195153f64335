-- THEOREM fault-tells. Each way in which a list of ends fails to be Ours is a Fault, with the number of letters that tell it (Tells): whatever follows these
-- letters, the list is not that of the record.
use Rattle.std.specs.Prelude.{◌≡◌, ◌⊎◌, ℕ, suc, ◌+◌, ◌-◌, ◌≤◌, ◌<◌, length, take, get_or}
use Rattle.std.proofs.Common.{ap, sym, ◌∙◌, inl, inr, arith, le_refl, length-take-le, take_all, get_or-take}
use mathlib.Core.List.{List, [], ◌∷◌}
use Rattle.std.proofs.Math.Decide.{dec_lt}
use Rattle.std.proofs.Math.Seq.{slice, slice-cons, length-slice}
use Rattle.words.specs.Words.{◌≪◌, ◌⊑◌, InverseLyndon, common_length_of}
use Rattle.theory.specs.Orders.CommonLength.{common-agree}
use Rattle.words.specs.Factorizations.{cfl_in}
use Rattle.theory.specs.Statements.{BelowByBorders}
use Rattle.theory.specs.Orders.PrefixLaws.{⊑_refl, ⊑_trans, ⊑-both, ⊑-drop, take-⊑, take-⊑-take}
use Rattle.theory.specs.Orders.MismatchLaws.{≪-not-⊑, ≪-asym, ≪-letters}
use Rattle.theory.specs.Icfl.Extension.{prefix-inverse-lyndon}
use Rattle.theory.specs.EndsStatements.{Ours, Tells}
use Rattle.words.specs.Separated.{separator}
use Rattle.theory.specs.Stretches.Unmarked.{unmarked-at}
use Rattle.theory.specs.SeparatedStatements.{MarkOr}
use Rattle.theory.specs.Stretches.Factors.{inverse-lyndon-factor}
use Rattle.theory.specs.Judging.EndsUnique.{ours-is}
use Rattle.theory.specs.Judging.LastFactor.{common-prefix, SmallerAt, mismatch-common, last_word}
use Rattle.theory.proofs.Judging.LastFactor.{last-factor, last-prefix, border-criterion}
use Rattle.theory.specs.Judging.Faults.{Fault, MarkFault, PairFault, PartFault, begins, exceeds, marks, rises, rises-part, shares, slice-take, slice_kept}

prefix-kept : {x n n' : List ℕ} (l : ℕ) → x ⊑ n → length x ≤ l → l ≤ length n → take l n' ≡ take l n → x ⊑ n'
prefix-kept {x} {n} {n'} l p a b e = ⊑_trans (rw (← e) at (⊑-both p (take-⊑ l n) (rw (length-take-le l n b) a))) (take-⊑ l n')

-- ---- a part

part-tells : (w v : List ℕ) (i j : ℕ) {q : ℕ} → j ≤ length v → PartFault w i j q → take q v ≡ take q w → ¬ InverseLyndon (slice i j v)
part-tells w v i j d (rises x a b n) e k =
    n (rw (slice_kept (suc x) v w e i (suc x) (le_refl _)) at
    (prefix-inverse-lyndon (⊑-drop i (take-⊑-take (suc x) j v b)) (rw (length-slice i (suc x) v (omega arith)) (omega arith)) k))

mark-tells : (w v : List ℕ) (i j : ℕ) {q : ℕ} → j ≤ length v → MarkFault w i j q → take q v ≡ take q w → ¬ MarkOr InverseLyndon (slice i j v)
mark-tells w v i j d (marks c m) e = go
  where
    letter : get_or v i 0 ≡ separator
    letter = sym (get_or-take (suc i) v i 0 (omega arith)) ∙ ap (λ (t : List ℕ). get_or t i 0) e ∙ get_or-take (suc i) w i 0 (omega arith) ∙ m

    inside : get_or (slice i j v) 0 0 ≡ separator
    inside = ap (λ (t : List ℕ). get_or t 0 0) (slice-cons i j v 0 (omega arith) d) ∙ letter

    go : MarkOr InverseLyndon (slice i j v) → ⊥
    go (inl z) = omega (arith, length-slice i j v d, ap length z)
    go (inr p) = unmarked-at (slice i j v) p.1 0 inside

-- ---- two neighbouring parts

module _ (w v : List ℕ) (q : ℕ) (s : length v ≡ length w) (e : take q v ≡ take q w) (i j k : ℕ) (ij : i < j) (jk : j < k) (kn : k ≤ length w) where
  next-kept : (l : ℕ) → l ≤ length (slice j k w) → j + l ≤ q → take l (slice j k v) ≡ take l (slice j k w)
  next-kept l a b =
      let d : j + l ≤ k = omega (arith, length-slice j k w kn) in
      slice-take j k l v d (omega arith) ∙ slice_kept q v w e j (j + l) b ∙ sym (slice-take j k l w d kn)

  -- a next part that is no mark is none in v: it is the same, or longer than a mark
  pub next-unmarked : j < q → ¬ (slice j k w ≡ separator ∷ []) → ¬ (slice j k v ≡ separator ∷ [])
  next-unmarked l n z = go (dec_lt (suc j) k)
    where
      go : Dec (suc j < k) → ⊥
      go (yes h) = omega (arith, length-slice j k v (omega arith), ap length z)
      go (no h) = n (sym (slice_kept q v w e j k (omega arith)) ∙ z)

  module _ (word' : InverseLyndon (slice i j v)) (below' : BelowByBorders (slice i j v) (slice j k v)) where
    tells-below : j ≤ q → BelowByBorders (slice i j w) (slice j k v)
    tells-below l = rw (slice_kept q v w e i j l) at below'

    tells-shares : (l : ℕ) → l ≡ common_length_of (slice i j w) (slice j k w) → (l ≡ j - i) ⊎ (l ≡ k - j) → j + l ≤ q → ⊥
    tells-shares l z c b = go c
      where
        m : List ℕ
        m = slice i j w

        n : List ℕ
        n = slice j k w

        upto : (l ≤ length m) × (l ≤ length n)
        upto = let g = (common-agree m n).matched in rw z (g.left, g.right)

        kept : take l (slice j k v) ≡ take l n
        kept = next-kept l upto.1 b

        go : (l ≡ j - i) ⊎ (l ≡ k - j) → ⊥
        go (inl x) =
            let y : length m ≡ l = length-slice i j w (omega arith) ∙ sym x in
            ≪-not-⊑ (tells-below (omega arith)).0 (prefix-kept l ((common-prefix n (⊑_refl m)).1 (omega arith)) (omega arith) upto.1 kept)
        go (inr x) =
            let y : length n ≡ l = length-slice j k w kn ∙ sym x in
            let y' : length (slice j k v) ≡ l = length-slice j k v (omega arith) ∙ sym x in
            let same : slice j k v ≡ n = sym (take_all l _ (omega arith)) ∙ kept ∙ take_all l n (omega arith) in
            omega (arith, ((mismatch-common m n).0 (rw same at (tells-below (omega arith)).0)).right)

    tells-exceeds : (l : ℕ) → l ≡ common_length_of (slice i j w) (slice j k w) → SmallerAt (slice j k w) (slice i j w) l → j + suc l ≤ q → ⊥
    tells-exceeds l z c b = ≪-asym (tells-below (omega arith)).0 after
      where
        m : List ℕ
        m = slice i j w

        n : List ℕ
        n = slice j k w

        n' : List ℕ
        n' = slice j k v

        size : length n' ≡ length n
        size = length-slice j k v (omega arith) ∙ sym (length-slice j k w kn)

        letter : (t : ℕ) → t < suc l → get_or n' t 0 ≡ get_or n t 0
        letter t h = sym (get_or-take (suc l) n' t 0 h) ∙ ap (λ (x : List ℕ). get_or x t 0) (next-kept (suc l) c.left b) ∙ get_or-take (suc l) n t 0 h

        after : n' ≪ m
        after =
            ≪-letters l n' m (omega (arith, size, c.left)) c.right (λ t h. letter t (omega arith) ∙ sym ((common-agree m n).matched.equal t (rw (← z) h)))
            (rw (letter l (omega arith)) c.below)

    tells-begins : (l : ℕ) → l ≡ common_length_of (slice i j w) (slice j k w) → ¬ (last_word (cfl_in (slice i j w)) ≡ slice i j w)
        → length (last_word (cfl_in (slice i j w))) ≤ l → j + length (last_word (cfl_in (slice i j w))) ≤ q → ⊥
    tells-begins l x f a b = go ((border-criterion m (slice j k v) word).0 (tells-below (omega arith)).1)
      where
        m : List ℕ
        m = slice i j w

        n : List ℕ
        n = slice j k w

        z : List ℕ
        z = last_word (cfl_in m)

        word : InverseLyndon m
        word = rw (slice_kept q v w e i j (omega arith)) at word'

        on : z ⊑ m
        on = last-prefix (last-factor m word.nonempty) word

        upto : (length z ≤ common_length_of m n) × (length z ≤ length n)
        upto = (omega arith, omega (arith, (common-agree m n).matched.right))

        still : z ⊑ slice j k v
        still = prefix-kept (length z) ((common-prefix n on).1 upto.0) (le_refl _) upto.1 (next-kept (length z) upto.1 b)

        go : (z ≡ m) ⊎ (common_length_of m (slice j k v) < length z) → ⊥
        go (inl c) = f c
        go (inr c) = omega (arith, (common-prefix (slice j k v) on).0 still)

module _ (w : List ℕ) (i j k : ℕ) (ij : i < j) (jk : j < k) (kn : k ≤ length w) where
  pair-tells : (v : List ℕ) {q : ℕ} → length v ≡ length w → PairFault w i j k q → take q v ≡ take q w → InverseLyndon (slice i j v) → ¬ BelowByBorders (slice i j v) (slice j k v)
  pair-tells v s (shares l z c) e x b = tells-shares w v _ s e i j k ij jk kn x b l z c (le_refl _)
  pair-tells v s (exceeds l z c) e x b = tells-exceeds w v _ s e i j k ij jk kn x b l z c (le_refl _)
  pair-tells v s (begins l z d c a) e x b = tells-begins w v (j + suc l) s e i j k ij jk kn x b l z c a (omega arith)

  -- the letters that tell are some of the next part's
  pub pair_inside : {q : ℕ} → PairFault w i j k q → (j < q) × (q ≤ k)
  pair_inside (shares l z c) = (omega (arith, long c), omega (arith, (common-agree (slice i j w) (slice j k w)).matched.right, length-slice j k w kn))
    where
      long : (l ≡ j - i) ⊎ (l ≡ k - j) → 0 < l
      long (inl x) = omega arith
      long (inr x) = omega arith
  pair_inside (exceeds l z c) = (omega arith, omega (arith, c.left, length-slice j k w kn))
  pair_inside (begins l z d c a) = (omega arith, omega (arith, d.right, length-slice j k w kn))

-- ---- all of a list

pub fault-tells : {w es : List ℕ} {q : ℕ} → Fault w es q → Tells w es q
fault-tells {w} {es} {q} f v s e c = go f (rw c at (ours-is v))
  where
    go : Fault w es q → Ours v es → ⊥
    go (Fault.part i j p x) o = part-tells w v i j (rises-part o.rises p).1 x e (inverse-lyndon-factor (slice i j v) (o.parts i j p))
    go (Fault.mark i j p x) o = mark-tells w v i j (rises-part o.rises p).1 x e (o.parts i j p)
    go (Fault.pair i j k p r m n x) o =
        let a = rises-part o.rises p in
        let b = rises-part o.rises r in
        let kn : k ≤ length w = omega (arith, b.1) in
        let l = pair_inside w i j k a.0 b.0 kn x in
        pair-tells w i j k a.0 b.0 kn v s x e (inverse-lyndon-factor (slice i j v) (o.parts i j p))
        (o.neighbours i j k p r (λ z. m (sym (slice_kept q v w e i j (omega (arith, l.0))) ∙ z)) (next-unmarked w v q s e i j k a.0 b.0 kn l.0 n))
