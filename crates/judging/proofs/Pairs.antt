-- The judgement of two neighbours, case by case: l is how far they agree, z the length of the first one's last factor.
use mathlib.Core.Path.{◌≡◌, refl}
use mathlib.Core.List.{List}
use Prim.Native.Nat.{ℕ, ◌+◌, ◌≤◌, ◌<◌}
use native.Mathlib.Omega.{arith}
use native.Mathlib.Decide.{dec_lt}
use borrow.Author.Tests.{le-leb, lt-leb, lt-ltb, le-ltb}
use lib.ListN.{length, get_or}
use Rattle.words.specs.Words.{common_length_of}
use Rattle.words.specs.Factorizations.{cfl_in}
use Rattle.theory.specs.Judging.LastFactor.{last_word}
use Rattle.theory.proofs.Judging.LastFactor.{last-factor, last-anti-lyndon}
use Rattle.theory.specs.Judging.Judge.{judged_by, judged_pair}

module _ (m n : List ℕ) (j l : ℕ) (e : l ≡ common_length_of m n) where
  pub pair-whole : length m ≤ l → j + l ≡ judged_pair m n j
  unfolding judged_by
  pair-whole h = rw (← e) (rw (le-leb (length m) l h, judged_by))

  module _ (a : l < length m) where
    pub pair-next : length n ≤ l → j + l ≡ judged_pair m n j
    unfolding judged_by
    pair-next h = rw (← e) (rw (lt-leb (length m) l a, le-leb (length n) l h, judged_by))

    module _ (b : l < length n) where
      pub pair-exceeds : get_or n l 0 ≤ get_or m l 0 → j + l + 1 ≡ judged_pair m n j
      unfolding judged_by
      pair-exceeds h =
          rw (← e) (rw (lt-leb (length m) l a, lt-leb (length n) l b, le-ltb (get_or m l 0) (get_or n l 0) h, judged_by) (omega arith))

      module _ (c : get_or m l 0 < get_or n l 0) (z : ℕ) (f : z ≡ length (last_word (cfl_in m))) where
        pub pair-unbordered : length m ≤ z → 0 ≡ judged_pair m n j
        unfolding judged_by
        pair-unbordered h =
            rw (← e, ← f)
            (rw (lt-leb (length m) l a, lt-leb (length n) l b, lt-ltb (get_or m l 0) (get_or n l 0) c, le-leb (length m) z h, judged_by))

        pub pair-border : z < length m → z ≤ l → j + l + 1 ≡ judged_pair m n j
        unfolding judged_by
        pair-border h k =
            rw (← e, ← f)
            (rw (lt-leb (length m) l a, lt-leb (length n) l b, lt-ltb (get_or m l 0) (get_or n l 0) c, lt-leb (length m) z h, le-leb z l k, judged_by)
            (omega arith))

        pub pair-good : z < length m → l < z → 0 ≡ judged_pair m n j
        unfolding judged_by
        pair-good h k =
            rw (← e, ← f)
            (rw (lt-leb (length m) l a, lt-leb (length n) l b, lt-ltb (get_or m l 0) (get_or n l 0) c, lt-leb (length m) z h, lt-leb z l k, judged_by))

      -- a last factor has a letter, so where the first letters differ it does not begin the next word
      pub pair-apart : get_or m l 0 < get_or n l 0 → l ≡ 0 → 0 ≡ judged_pair m n j
      pair-apart c h = go (dec_lt (length (last_word (cfl_in m))) (length m))
        where
          some : 0 < length (last_word (cfl_in m))
          some = (last-anti-lyndon (last-factor m (omega arith))).nonempty

          go : Dec (length (last_word (cfl_in m)) < length m) → 0 ≡ judged_pair m n j
          go (yes s) = pair-good c (length (last_word (cfl_in m))) refl s (omega (arith, some))
          go (no s) = pair-unbordered c (length (last_word (cfl_in m))) refl (omega arith)
