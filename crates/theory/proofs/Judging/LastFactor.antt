-- THEOREM border-criterion (request 109: the border condition in linear time). With l the number of leading letters that m and n share, no
-- nonempty proper border of the inverse Lyndon word m is a prefix of n just where the last factor of cfl_in m is the whole of m or longer than l.
--   last-prefix, last-shortest   the last factor is a prefix of m, and no nonempty border is shorter: if m has a nonempty proper border, it is the shortest
--   mismatch-common              m ≪ n by the letters at l
use Rattle.std.specs.Prelude.{◌≡◌, refl, ◌⊎◌, ◌↔◌, length, drop}
use Rattle.std.proofs.Math.Path.{ap, sym}
use Rattle.std.proofs.Common.{◌∙◌, inl, inr, arith, length-append}
use mathlib.Core.List.{List, [], ◌∷◌, ◌++◌, flatten, append-nil}
use Prim.Native.Nat.{ℕ, ◌+◌, ◌-◌, ◌≤◌, ◌<◌, zero-le}
use Rattle.std.proofs.Math.Decide.{dec_lt}
use Rattle.std.proofs.Math.Seq.{drop-append-add, drop-append_seam}
use Rattle.words.specs.Words.{◌⊑◌, InverseLyndon, AntiLyndon, common_length_of}
use Rattle.words.specs.Factorizations.{cfl_in}
use Rattle.theory.specs.Statements.{EqualOrAfter, Linked, more}
use Rattle.theory.specs.Places.LinkedLaws.{linked-after}
use Rattle.theory.specs.Orders.PrefixLaws.{⊑_refl, ⊑-whole}
use Rattle.theory.specs.Orders.MismatchLaws.{≪-not-⊑, ≪-extend}
use Rattle.theory.specs.Orders.LexLaws.{≤ₗ-not-≪}
use Rattle.theory.specs.Orders.InverseLaws.{◌≼◌, won}
use Rattle.theory.specs.Lyndon.WordTests.{suffix-below, suffix-loses}
use Rattle.theory.specs.Places.FirstSuffixes.{Boundary, start, later}
use Rattle.theory.specs.Stretches.Separation.{flatten-append}
use Rattle.theory.proofs.CflIn.CflInIs.{cfl-in-is}
use Rattle.theory.proofs.CflIn.CflInFirst.{cfl-in-boundary-first}
use Rattle.theory.specs.Judging.LastFactor.{LastFactor, NoBorderBegins, common-prefix, last_word}

last-split : (l : List ℕ) (ls : List (List ℕ)) → (front : List (List ℕ)) × (l ∷ ls ≡ front ++ (last_word (l ∷ ls) ∷ []))
unfolding last_word
last-split l [] = ([], refl)
last-split l (k ∷ ls) = let q = last-split k ls in (l ∷ q.0, ap (λ (t : List (List ℕ)). l ∷ t) q.1)

pub last-factor : (m : List ℕ) → 0 < length m → LastFactor m (last_word (cfl_in m))
unfolding flatten
last-factor m p = go (cfl_in m) refl
  where
    go : (ls : List (List ℕ)) → cfl_in m ≡ ls → LastFactor m (last_word ls)
    go [] e = let z : [] ≡ m = rw e at (cfl-in-is m).product in absurd (omega (arith, ap length z))
    go (l ∷ ls) e = let q = last-split l ls in record { front = q.0; is = e ∙ q.1 }

boundary-at : (xs ys : List (List ℕ)) → Boundary (length (flatten xs)) (xs ++ ys)
unfolding flatten
boundary-at [] ys = start
boundary-at (x ∷ xs) ys = rw length-append (later (boundary-at xs ys))

module _ {m z : List ℕ} (q : LastFactor m z) where
  pub last-product : flatten q.front ++ z ≡ m
  unfolding flatten
  last-product =
      ap (λ (t : List ℕ). flatten q.front ++ t) (sym (append-nil z)) ∙ sym (flatten-append q.front (z ∷ [])) ∙ ap flatten (sym q.is) ∙ (cfl-in-is m).product

  pub last-anti-lyndon : AntiLyndon z
  last-anti-lyndon = go (linked-after q.front (rw q.is at (cfl-in-is m).words))
    where
      go : Linked AntiLyndon EqualOrAfter (z ∷ []) → AntiLyndon z
      go (more p d g) = p

  last-suffix : drop (length (flatten q.front)) m ≡ z
  last-suffix = rw (← last-product) (drop-append_seam (flatten q.front) z)

  pub last-prefix : InverseLyndon m → z ⊑ m
  last-prefix k = go (rw last-suffix at (cfl-in-boundary-first m (length (flatten q.front)) (rw q.is (boundary-at q.front (z ∷ []))) 0 zero-le))
    where
      go : z ≼ m → z ⊑ m
      go (won h) = absurd (≤ₗ-not-≪ (rw last-suffix at (suffix-below k (length (flatten q.front)))) h)
      go (◌≼◌.pre h) = h

  pub last-shortest : InverseLyndon m → (u s : List ℕ) → u ++ s ≡ m → 0 < length s → s ⊑ m → length z ≤ length s
  last-shortest k u s e p b = go (dec_lt (length s) (length z))
    where
      f : List ℕ
      f = flatten q.front

      go : Dec (length s < length z) → length z ≤ length s
      go (no h) = omega arith
      go (yes h) =
          let n : length f + length z ≡ length u + length s = sym (length-append f z) ∙ ap length (last-product ∙ sym e) ∙ length-append u s in
          let i : ℕ = length u - length f in
          let x : length u ≡ length f + i = omega arith in
          let y : s ≡ drop i z
          = sym (drop-append_seam u s) ∙ ap (λ (j : ℕ). drop j (u ++ s)) x ∙ ap (drop (length f + i)) (e ∙ sym last-product) ∙ drop-append-add f z i in
          absurd (≪-not-⊑ (≪-extend (rw (← y) at (suffix-loses last-anti-lyndon i (omega arith) (omega arith))) (⊑_refl s) (last-prefix k)) b)

-- ---- the border condition

module _ (m n : List ℕ) (k : InverseLyndon m) where
  last : LastFactor m (last_word (cfl_in m))
  last = last-factor m k.nonempty

  pub border-criterion : NoBorderBegins m n ↔ ((last_word (cfl_in m) ≡ m) ⊎ (common_length_of m n < length (last_word (cfl_in m))))
  unfolding last
  border-criterion = (λ b. to b (dec_lt 0 (length (flatten last.front))), from)
    where
      z : List ℕ
      z = last_word (cfl_in m)

      on : z ⊑ m
      on = last-prefix last k

      near : NoBorderBegins m n → 0 < length (flatten last.front) → Dec (common_length_of m n < length z) → (z ≡ m) ⊎ (common_length_of m n < length z)
      near b p (yes h) = inr h
      near b p (no h) = absurd (b (flatten last.front) z (last-product last) p (last-anti-lyndon last).nonempty on ((common-prefix n on).1 (omega arith)))

      to : NoBorderBegins m n → Dec (0 < length (flatten last.front)) → (z ≡ m) ⊎ (common_length_of m n < length z)
      to b (yes p) = near b p (dec_lt (common_length_of m n) (length z))
      to b (no p) = inl (⊑-whole on (omega (arith, sym (length-append (flatten last.front) z) ∙ ap length (last-product last))))

      from : (z ≡ m) ⊎ (common_length_of m n < length z) → NoBorderBegins m n
      from c u s e p q h b =
          let x : length z ≤ length s = last-shortest last k u s e q h in
          let y : length u + length s ≡ length m = sym (length-append u s) ∙ ap length e in
          let l : length s ≤ common_length_of m n = (common-prefix n h).0 b in
          go c x y l
        where
          go : (z ≡ m) ⊎ (common_length_of m n < length z) → length z ≤ length s → length u + length s ≡ length m → length s ≤ common_length_of m n → ⊥
          go (inl g) x y l = omega (arith, ap length g)
          go (inr g) x y l = omega arith
