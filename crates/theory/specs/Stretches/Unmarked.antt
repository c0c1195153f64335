-- Words without a separator: their letters and parts; and the test of a word that holds one (marked-test).
use Rattle.std.specs.Prelude.{◌≡◌, refl, ◌⊎◌, Bool, ◌||◌, ℕ, zero, suc, ◌<◌, length, get_or, drop}
use Rattle.std.proofs.Common.{sym, inl, inr, arith}
use mathlib.Core.List.Memᴰ
use mathlib.Core.List.{
  List,
  [],
  ◌∷◌,
  ◌++◌,
  Memᴰ,
}
use Rattle.theory.specs.Orders.Decisions.{Decides, holds, fails, eqb-test}
use Rattle.words.specs.Separated.{separator, mark, has_mark, Unmarked, UpToSeparator}

pub unmarked-empty : Unmarked []
unmarked-empty h = Memᴰ.not-nil h

pub unmarked-cons : {a : ℕ} {v : List ℕ} → ¬ (a ≡ separator) → Unmarked v → Unmarked (a ∷ v)
unmarked-cons {a} {v} n u h = go (Memᴰ.cases_cons h)
  where
    go : (separator ≡ a) ⊎ Memᴰ separator v → ⊥
    go (inl e) = n (sym e)
    go (inr m) = u m

pub unmarked-head : {a : ℕ} {v : List ℕ} → Unmarked (a ∷ v) → ¬ (a ≡ separator)
unmarked-head u e = u (Memᴰ.head (sym e))

pub unmarked-tail : {a : ℕ} {v : List ℕ} → Unmarked (a ∷ v) → Unmarked v
unmarked-tail u h = u (Memᴰ.tail h)

-- where 0 stands past the end
pub unmarked-at : (v : List ℕ) → Unmarked v → (i : ℕ) → ¬ (get_or v i 0 ≡ separator)
unmarked-at [] u i = λ e. absurd (omega (arith, e))
unmarked-at (a ∷ v) u zero = unmarked-head u
unmarked-at (a ∷ v) u (suc i) = unmarked-at v (unmarked-tail u) i

pub unmarked-letters : (v : List ℕ) → ((i : ℕ) → i < length v → ¬ (get_or v i 0 ≡ separator)) → Unmarked v
unmarked-letters [] h = unmarked-empty
unmarked-letters (a ∷ v) h = unmarked-cons (h 0 (omega arith)) (unmarked-letters v (λ i l. h (suc i) (omega arith)))

-- a letter of an unmarked word of bytes
pub unmarked-below : (v : List ℕ) → Unmarked v → UpToSeparator v → (i : ℕ) → get_or v i 0 < separator
unmarked-below v u b i = let n : ¬ (get_or v i 0 ≡ separator) = unmarked-at v u i in omega (arith, b i)

pub unmarked-drop : (i : ℕ) (v : List ℕ) → Unmarked v → Unmarked (drop i v)
unmarked-drop zero v u = u
unmarked-drop (suc i) [] u = u
unmarked-drop (suc i) (a ∷ v) u = unmarked-drop i v (unmarked-tail u)

pub unmarked-append : {x y : List ℕ} → Unmarked x → Unmarked y → Unmarked (x ++ y)
unmarked-append {x} {y} u n h = go (Memᴰ.append_cases x h)
  where
    go : Memᴰ separator x ⊎ Memᴰ separator y → ⊥
    go (inl m) = u m
    go (inr m) = n m

pub unmarked-before : (x y : List ℕ) → Unmarked (x ++ y) → Unmarked x
unmarked-before x y u h = u (Memᴰ.append_left y h)

pub unmarked-after : (x y : List ℕ) → Unmarked (x ++ y) → Unmarked y
unmarked-after x y u h = u (Memᴰ.append_right x h)

pub unmarked-not-mark : {m : List ℕ} → Unmarked m → ¬ (m ≡ mark)
unmarked-not-mark u e = (rw e at u) (Memᴰ.head refl)

-- ---- the test

pub marked-test : (w : List ℕ) → Decides (Memᴰ separator w) (has_mark w)
unfolding has_mark
marked-test [] = fails unmarked-empty
marked-test (a ∷ w) = go (eqb-test a separator) (marked-test w)
  where
    go : {s t : Bool} → Decides (a ≡ separator) s → Decides (Memᴰ separator w) t → Decides (Memᴰ separator (a ∷ w)) (s || t)
    go (holds e) d = holds (Memᴰ.head (sym e))
    go (fails n) (holds h) = holds (Memᴰ.tail h)
    go (fails n) (fails u) = fails (unmarked-cons n u)
