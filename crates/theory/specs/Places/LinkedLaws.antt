-- Laws of Linked: parts of a linked list are linked; a weaker relation.
use Rattle.std.specs.Prelude.{List, [], ◌∷◌, ◌++◌, ℕ}
use Rattle.theory.specs.Statements.{Next, end, by, Linked, none, more}

pub linked-after : {P : List ℕ → Type 0} {R : List ℕ → List ℕ → Type 0} (xs : List (List ℕ)) {ms : List (List ℕ)} → Linked P R (xs ++ ms) → Linked P R ms
linked-after [] g = g
linked-after (x ∷ xs) (more p d g) = linked-after xs g

pub linked-before : {P : List ℕ → Type 0} {R : List ℕ → List ℕ → Type 0} (ms ys : List (List ℕ)) → Linked P R (ms ++ ys) → Linked P R ms
linked-before [] ys g = none
linked-before {R} (m ∷ ms) ys (more p d g) = more p (next ms d) (linked-before ms ys g)
  where
    next : (ns : List (List ℕ)) → Next R m (ns ++ ys) → Next R m ns
    next [] x = end
    next (n ∷ ns) (by r) = by r

pub linked-map : {P : List ℕ → Type 0} {R S : List ℕ → List ℕ → Type 0} → ((m n : List ℕ) → P m → R m n → S m n)
    → {ms : List (List ℕ)} → Linked P R ms → Linked P S ms
linked-map f none = none
linked-map {P} {R} {S} f (more {m = m} p d g) = more p (next d) (linked-map f g)
  where
    next : {ns : List (List ℕ)} → Next R m ns → Next S m ns
    next end = end
    next (by {n = n} r) = by (f m n p r)
