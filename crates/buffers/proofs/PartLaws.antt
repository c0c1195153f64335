-- Parts of a list: a part of a part (drop-to); and as code lends them: between two places (part-is), from a place to the end (rest-is), and the
-- whole after a part of it was lent for writing (rest_back, rest-length).
use mathlib.Core.Path.{◌≡◌, ap, ◌∙◌}
use mathlib.Core.List.{List, [], ◌∷◌, ◌++◌, append-nil}
use Prim.Native.Nat.{ℕ, zero, suc, ◌+◌, ◌-◌, ◌≤◌}
use native.Mathlib.Omega.{arith}
use lib.ListN.{length, take, drop, length-append, length-drop, drop_of_length-le}
use lib.Seq.{slice, take_all, take-nil, drop-drop, length-take-le}

-- a part from j on is a part of one from i on
pub drop-to : (i j : ℕ) (xs : List ℕ) → i ≤ j → drop (j - i) (drop i xs) ≡ drop j xs
drop-to i j xs l = let z : i + (j - i) ≡ j = omega arith in drop-drop (j - i) i xs ∙ rw z

-- `&xs[a..b]`
abbrev pub part : ℕ → ℕ → List ℕ → List ℕ
part a b xs = take (b - a) (drop a xs)

pub part-is : (a b : ℕ) (xs : List ℕ) → part a b xs ≡ slice a b xs
part-is zero b xs = let z : b - 0 ≡ b = omega arith in rw z
part-is (suc a) zero xs = let z : 0 - suc a ≡ 0 = omega arith in rw z
part-is (suc a) (suc b) [] = take-nil (suc b - suc a)
part-is (suc a) (suc b) (x ∷ xs) = let z : suc b - suc a ≡ b - a = omega arith in rw z (part-is a b xs)

-- `&xs[a..]`
abbrev pub rest : ℕ → List ℕ → List ℕ
rest a xs = part a (length xs) xs

pub rest-is : (a : ℕ) (xs : List ℕ) → rest a xs ≡ drop a xs
rest-is a xs = take_all (length xs - a) (drop a xs) (rw (length-drop a xs) (omega arith))

-- `&mut xs[a..]` was lent and came back as ys
pub rest_back : (a : ℕ) (xs ys : List ℕ) → take a xs ++ (ys ++ drop (length xs - a) (drop a xs)) ≡ take a xs ++ ys
rest_back a xs ys =
    ap (λ (t : List ℕ). take a xs ++ t)
    (ap (λ (t : List ℕ). ys ++ t) (drop_of_length-le (drop a xs) {i = length xs - a} (rw (length-drop a xs) (omega arith))) ∙ append-nil ys)

-- the whole keeps its length, since the part does
pub rest-length : (a : ℕ) (xs ys : List ℕ) → a ≤ length xs → length ys ≡ length (rest a xs)
    → length (take a xs ++ (ys ++ drop (length xs - a) (drop a xs))) ≡ length xs
rest-length a xs ys l e =
    let n : length ys ≡ length xs - a = e ∙ ap length (rest-is a xs) ∙ length-drop a xs in
    ap length (rest_back a xs ys) ∙ length-append (take a xs) ys ∙ omega (arith, n, length-take-le a xs l)
