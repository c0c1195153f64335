-- The shape of a record with separators, and the equations of what is made stretch by stretch, once for all of it: a record without separator (between-whole), and
-- a stretch with the separator after it (between_split). The stretches are what their name says: stretches-joined, stretches-unmarked.
--   Separation w, separation     a word is unmarked, or an unmarked word, a separator and such a word: laws go by induction on this
use Rattle.std.specs.Prelude.{◌≡◌, refl, ◌⊎◌, Bool, true, false, ℕ}
use Rattle.std.proofs.Common.{ap, ◌∙◌, inl, inr}
use mathlib.Core.List.Memᴰ
use mathlib.Core.List.{List, [], ◌∷◌, ◌++◌, map, flatten, append_assoc, Memᴰ}
use Rattle.words.specs.Factorizations.{icfl, icfl_ends, cfl_in, cfl_in_ends, lyndon_table, ends_from}
use Rattle.theory.specs.Orders.Decisions.{Decides, holds, fails, eqb-test}
use Rattle.theory.specs.Icfl.IcflConcat.{icfl-concat}
use Rattle.words.specs.Separated.{
  separator,
  mark,
  Unmarked,
  cons_first,
  stretches,
  between,
  separated_icfl,
  separated_cfl_in,
  separated_table,
  separated_icfl_ends,
  separated_cfl_in_ends,
}
use Rattle.theory.specs.Stretches.Unmarked.{unmarked-empty, unmarked-cons, unmarked-head, unmarked-tail}

-- ---- the shape

pub data Separation : List ℕ → Type 0 where
  whole : {v : List ℕ} → Unmarked v → Separation v
  split : {v w : List ℕ} → Unmarked v → Separation w → Separation (v ++ separator ∷ w)

pub separation : (w : List ℕ) → Separation w
separation [] = whole unmarked-empty
separation (a ∷ w) = go (eqb-test a separator) (separation w)
  where
    cons : {u : List ℕ} → ¬ (a ≡ separator) → Separation u → Separation (a ∷ u)
    cons n (whole u) = whole (unmarked-cons n u)
    cons n (split {v = v} u s) = split {v = a ∷ v} (unmarked-cons n u) s

    go : {t : Bool} → Decides (a ≡ separator) t → Separation w → Separation (a ∷ w)
    go (holds e) s = rw e (split {v = []} unmarked-empty s)
    go (fails n) s = cons n s

-- ---- stretches

stretches-other : (a : ℕ) (w : List ℕ) → ¬ (a ≡ separator) → stretches (a ∷ w) ≡ cons_first a (stretches w)
unfolding stretches
stretches-other a w n = go (eqb-test a separator)
  where
    go : {t : Bool} → Decides (a ≡ separator) t → (elim t [ true ↦ [] ∷ stretches w | false ↦ cons_first a (stretches w) ]) ≡ cons_first a (stretches w)
    go (holds e) = absurd (n e)
    go (fails m) = refl

pub stretches-whole : (v : List ℕ) → Unmarked v → stretches v ≡ v ∷ []
unfolding stretches cons_first
stretches-whole [] u = refl
stretches-whole (a ∷ v) u = rw (stretches-other a v (unmarked-head u), stretches-whole v (unmarked-tail u))

pub stretches-split : (v w : List ℕ) → Unmarked v → stretches (v ++ separator ∷ w) ≡ v ∷ stretches w
unfolding stretches cons_first
stretches-split [] w u = refl
stretches-split (a ∷ v) w u = rw (stretches-other a (v ++ separator ∷ w) (unmarked-head u), stretches-split v w (unmarked-tail u))

-- ---- what is made stretch by stretch

module _ {A : Type 0} (x : A) (f : List ℕ → List A) where
  pub between-whole : (v : List ℕ) → Unmarked v → between x (map f (stretches v)) ≡ f v
  unfolding between
  between-whole v u = rw (stretches-whole v u)

  between_next : (l : List A) (w : List ℕ) → Separation w → between x (l ∷ map f (stretches w)) ≡ l ++ x ∷ between x (map f (stretches w))
  unfolding between
  between_next l w (whole u) = rw (stretches-whole w u)
  between_next l w (split {v = v} {w = t} u s) = rw (stretches-split v t u)

  pub between_split : (v w : List ℕ) → Unmarked v → between x (map f (stretches (v ++ separator ∷ w))) ≡ f v ++ x ∷ between x (map f (stretches w))
  between_split v w u = rw (stretches-split v w u) (between_next (f v) w (separation w))

-- a word without separators has what the published definitions give
pub icfl-unmarked : (v : List ℕ) → Unmarked v → separated_icfl v ≡ icfl v
unfolding separated_icfl
icfl-unmarked v u = between-whole mark icfl v u

pub cfl-in-unmarked : (v : List ℕ) → Unmarked v → separated_cfl_in v ≡ cfl_in v
unfolding separated_cfl_in
cfl-in-unmarked v u = between-whole mark cfl_in v u

pub table-unmarked : (v : List ℕ) → Unmarked v → separated_table v ≡ lyndon_table v
unfolding separated_table
table-unmarked v u = between-whole 1 lyndon_table v u

pub icfl-ends-unmarked : (v : List ℕ) → Unmarked v → separated_icfl_ends v ≡ icfl_ends v
unfolding separated_icfl_ends icfl_ends
icfl-ends-unmarked v u = ap (ends_from 0) (icfl-unmarked v u)

pub cfl-in-ends-unmarked : (v : List ℕ) → Unmarked v → separated_cfl_in_ends v ≡ cfl_in_ends v
unfolding separated_cfl_in_ends cfl_in_ends
cfl-in-ends-unmarked v u = ap (ends_from 0) (cfl-in-unmarked v u)

-- a stretch, its separator, and what follows
pub icfl-split : (v w : List ℕ) → Unmarked v → separated_icfl (v ++ separator ∷ w) ≡ icfl v ++ mark ∷ separated_icfl w
unfolding separated_icfl
icfl-split v w u = between_split mark icfl v w u

pub cfl-in-split : (v w : List ℕ) → Unmarked v → separated_cfl_in (v ++ separator ∷ w) ≡ cfl_in v ++ mark ∷ separated_cfl_in w
unfolding separated_cfl_in
cfl-in-split v w u = between_split mark cfl_in v w u

pub table-split : (v w : List ℕ) → Unmarked v → separated_table (v ++ separator ∷ w) ≡ lyndon_table v ++ 1 ∷ separated_table w
unfolding separated_table
table-split v w u = between_split 1 lyndon_table v w u

-- ---- the stretches themselves: joined by separators they are the record, and none of them holds one

stretches-join : {w : List ℕ} → Separation w → between separator (stretches w) ≡ w
unfolding between
stretches-join (whole {v = v} u) = rw (stretches-whole v u)
stretches-join (split {v = v} {w = w} u s) = rw (stretches-split v w u) (next s ∙ ap (λ (t : List ℕ). v ++ separator ∷ t) (stretches-join s))
  where
    next : {t : List ℕ} → Separation t → between separator (v ∷ stretches t) ≡ v ++ separator ∷ between separator (stretches t)
    next (whole {v = t} n) = rw (stretches-whole t n)
    next (split {v = t} {w = w'} n s') = rw (stretches-split t w' n)

pub stretches-joined : (w : List ℕ) → between separator (stretches w) ≡ w
stretches-joined w = stretches-join (separation w)

stretch-unmarked : {w : List ℕ} → Separation w → (v : List ℕ) → Memᴰ v (stretches w) → Unmarked v
stretch-unmarked (whole {v = w} u) v h = rw (Memᴰ.eq_of_singleton (rw (stretches-whole w u) at h)) u
stretch-unmarked (split {v = t} {w = w} u s) v h = go (Memᴰ.cases_cons (rw (stretches-split t w u) at h)) (λ m. stretch-unmarked s v m)
  where
    go : (v ≡ t) ⊎ Memᴰ v (stretches w) → (Memᴰ v (stretches w) → Unmarked v) → Unmarked v
    go (inl e) next = rw e u
    go (inr m) next = next m

pub stretches-unmarked : (w v : List ℕ) → Memᴰ v (stretches w) → Unmarked v
stretches-unmarked w v h = stretch-unmarked (separation w) v h

-- ---- products

pub flatten-append : (xs ys : List (List ℕ)) → flatten (xs ++ ys) ≡ flatten xs ++ flatten ys
unfolding flatten
flatten-append [] ys = refl
flatten-append (x ∷ xs) ys = rw (flatten-append xs ys, append_assoc)

module _ (f : List ℕ → List (List ℕ)) (product : (v : List ℕ) → flatten (f v) ≡ v) where
  pub between-product : {w : List ℕ} → Separation w → flatten (between mark (map f (stretches w))) ≡ w
  unfolding flatten
  between-product (whole {v = v} u) = rw (between-whole mark f v u) (product v)
  between-product (split {v = v} {w = w} u s) =
      rw (between_split mark f v w u, flatten-append, product v) (ap (λ (t : List ℕ). v ++ separator ∷ t) (between-product s))

pub separated-icfl-concat : (w : List ℕ) → flatten (separated_icfl w) ≡ w
unfolding separated_icfl
separated-icfl-concat w = between-product icfl icfl-concat (separation w)
