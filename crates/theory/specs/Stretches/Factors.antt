-- THEOREM separated-icfl-is, separated-icfl-unique, separated-cfl-in-is, separated-cfl-in-unique. Both factorizations of a record are divisions into separators and
-- unmarked factors, each factor related to the next where neither is a separator; and they are the only ones. Also: a factor that is no separator is a factor of
-- a stretch (separated-icfl-factor), and the ends rise.
use Rattle.std.specs.Prelude.{◌≡◌, ◌⊎◌, ℕ, length}
use Rattle.std.proofs.Math.Path.{refl, ap, sym}
use Rattle.std.proofs.Common.{◌∙◌, inl, inr, arith}
use mathlib.Core.List.Memᴰ
use mathlib.Core.List.{
  List,
  [],
  ◌∷◌,
  ◌++◌,
  map,
  flatten,
  append-nil,
  Memᴰ,
}
use Rattle.words.specs.Words.{InverseLyndon, AntiLyndon}
use Rattle.words.specs.Factorizations.{icfl, cfl_in}
use Rattle.theory.specs.Statements.{Next, end, by, Linked, none, more, DominatedBy}
use Rattle.theory.specs.Lyndon.AntiLyndonLaws.{letter-anti-lyndon, anti-inverse-lyndon}
use Rattle.theory.specs.Icfl.IcflConcat.{icfl-concat}
use Rattle.theory.specs.Icfl.IcflDominated.{icfl-dominated}
use Rattle.theory.specs.Uniqueness.IcflUnique.{icfl-unique}
use Rattle.theory.specs.Places.EndsRise.{Rises, ends-rise}
use Rattle.words.specs.Separated.{separator, mark, Unmarked, stretches, between, separated_icfl, separated_cfl_in, separated_icfl_ends}
use Rattle.theory.specs.SeparatedStatements.{MarkOr, UnlessMark, SeparatedOf}
use Rattle.theory.specs.Stretches.Unmarked.{unmarked-empty, unmarked-append, unmarked-before, unmarked-after, unmarked-not-mark}
use Rattle.theory.specs.Stretches.Separation.{Separation, whole, split, separation, stretches-whole, stretches-split, between-whole, between_split, flatten-append, separated-icfl-concat}

-- ---- they are such divisions

linked-mark : {P : List ℕ → Type 0} {R : List ℕ → List ℕ → Type 0} (xs ns : List (List ℕ)) → P mark
    → Linked P (UnlessMark R) xs → Linked P (UnlessMark R) ns → Linked P (UnlessMark R) (xs ++ mark ∷ ns)
linked-mark {P} {R} [] ns p x g = more p (next ns) g
  where
    next : (ms : List (List ℕ)) → Next (UnlessMark R) mark ms
    next [] = end
    next (m ∷ ms) = by (λ f s. absurd (f refl))
linked-mark {P} {R} (x ∷ xs) ns p (more q d f) g = more q (next xs d) (linked-mark xs ns p f g)
  where
    next : (ms : List (List ℕ)) → Next (UnlessMark R) x ms → Next (UnlessMark R) x (ms ++ mark ∷ ns)
    next [] c = by (λ f s. absurd (s refl))
    next (m ∷ ms) (by r) = by r

unmarked-words : {P : List ℕ → Type 0} {R : List ℕ → List ℕ → Type 0} {ms : List (List ℕ)} → Linked P R ms → Unmarked (flatten ms)
    → Linked (MarkOr P) (UnlessMark R) ms
unfolding flatten
unmarked-words none u = none
unmarked-words {R = R} (more {m = m} {ms = ms} p d g) u =
    more (inr (p, unmarked-before m (flatten ms) u)) (next d) (unmarked-words g (unmarked-after m (flatten ms) u))
  where
    next : {ns : List (List ℕ)} → Next R m ns → Next (UnlessMark R) m ns
    next end = end
    next (by r) = by (λ x y. r)

module _ {P : List ℕ → Type 0} {R : List ℕ → List ℕ → Type 0} (f : List ℕ → List (List ℕ)) (product : (v : List ℕ) → flatten (f v) ≡ v)
    (linked : (v : List ℕ) → Linked P R (f v)) where
  stretch-linked : (v : List ℕ) → Unmarked v → Linked (MarkOr P) (UnlessMark R) (f v)
  stretch-linked v u = unmarked-words (linked v) (rw (product v) u)

  pub between-linked : {w : List ℕ} → Separation w → Linked (MarkOr P) (UnlessMark R) (between mark (map f (stretches w)))
  between-linked (whole {v = v} u) = rw (between-whole mark f v u) (stretch-linked v u)
  between-linked (split {v = v} {w = w} u s) = rw (between_split mark f v w u) (linked-mark (f v) _ (inl refl) (stretch-linked v u) (between-linked s))

pub separated-icfl-is : (w : List ℕ) → SeparatedOf InverseLyndon DominatedBy w (separated_icfl w)
unfolding separated_icfl
separated-icfl-is w = record { product = separated-icfl-concat w; words = between-linked icfl icfl-concat icfl-dominated (separation w) }

-- ---- there is no other

-- such a list by its separators
data Divided (P : List ℕ → Type 0) (R : List ℕ → List ℕ → Type 0) : List (List ℕ) → Type 0 where
  all : {xs : List (List ℕ)} → Linked P R xs → Unmarked (flatten xs) → Divided P R xs
  then : {xs ns : List (List ℕ)} → Linked P R xs → Unmarked (flatten xs) → Divided P R ns → Divided P R (xs ++ mark ∷ ns)

-- what the next word is told, where the list goes on with ns
near : {R : List ℕ → List ℕ → Type 0} (m : List ℕ) → Unmarked m → (xs ns : List (List ℕ)) → Unmarked (flatten xs) → Next (UnlessMark R) m (xs ++ ns) → Next R m xs
unfolding flatten
near m u [] ns n d = end
near m u (x ∷ xs) ns n (by r) = by (r (unmarked-not-mark u) (unmarked-not-mark (unmarked-before x (flatten xs) n)))

module _ {P : List ℕ → Type 0} {R : List ℕ → List ℕ → Type 0} where
  divided-cons : (m : List ℕ) {ms : List (List ℕ)} → P m → Unmarked m → Next (UnlessMark R) m ms → Divided P R ms → Divided P R (m ∷ ms)
  unfolding flatten
  divided-cons m p u d (all {xs = xs} l n) = all (more p (near m u xs [] n (rw append-nil d)) l) (unmarked-append u n)
  divided-cons m p u d (then {xs = xs} {ns = ns} l n s) = then {xs = m ∷ xs} (more p (near m u xs (mark ∷ ns) n d) l) (unmarked-append u n) s

  divided : {ms : List (List ℕ)} → Linked (MarkOr P) (UnlessMark R) ms → Divided P R ms
  unfolding flatten
  divided none = all none unmarked-empty
  divided (more {m = m} {ms = ms} p d g) = go p (divided g)
    where
      go : MarkOr P m → Divided P R ms → Divided P R (m ∷ ms)
      go (inl e) s = rw e (then {xs = []} none unmarked-empty s)
      go (inr q) s = divided-cons m q.0 q.1 d s

  module _ (f : List ℕ → List (List ℕ)) (unique : (v : List ℕ) (ms : List (List ℕ)) → Linked P R ms → flatten ms ≡ v → ms ≡ f v) where
    divided-unique : {ms : List (List ℕ)} → Divided P R ms → ms ≡ between mark (map f (stretches (flatten ms)))
    unfolding flatten
    divided-unique (all {xs = xs} l n) = unique (flatten xs) xs l refl ∙ sym (between-whole mark f (flatten xs) n)
    divided-unique (then {xs = xs} {ns = ns} l n s) =
        let e : flatten (xs ++ mark ∷ ns) ≡ flatten xs ++ separator ∷ flatten ns = flatten-append xs (mark ∷ ns) in
        ap (λ (t : List (List ℕ)). t ++ mark ∷ ns) (unique (flatten xs) xs l refl)
        ∙ (ap (λ (t : List (List ℕ)). f (flatten xs) ++ mark ∷ t) (divided-unique s)
        ∙ (sym (between_split mark f (flatten xs) (flatten ns) n) ∙ ap (λ (t : List ℕ). between mark (map f (stretches t))) (sym e)))

    pub separated-unique : (w : List ℕ) (ms : List (List ℕ)) → SeparatedOf P R w ms → ms ≡ between mark (map f (stretches w))
    separated-unique w ms s = divided-unique (divided s.words) ∙ ap (λ (t : List ℕ). between mark (map f (stretches t))) s.product

pub separated-icfl-unique : (w : List ℕ) (ms : List (List ℕ)) → SeparatedOf InverseLyndon DominatedBy w ms → ms ≡ separated_icfl w
unfolding separated_icfl
separated-icfl-unique w ms s = separated-unique icfl icfl-unique w ms s

-- ---- words of the kind, a separator too

pub mark-anti-lyndon : AntiLyndon mark
mark-anti-lyndon = letter-anti-lyndon separator

pub inverse-lyndon-factor : (m : List ℕ) → MarkOr InverseLyndon m → InverseLyndon m
inverse-lyndon-factor m (inl e) = rw e (anti-inverse-lyndon mark-anti-lyndon)
inverse-lyndon-factor m (inr p) = p.0

pub anti-lyndon-factor : (m : List ℕ) → MarkOr AntiLyndon m → AntiLyndon m
anti-lyndon-factor m (inl e) = rw e mark-anti-lyndon
anti-lyndon-factor m (inr p) = p.0

pub separated-icfl-ends-rise : (w : List ℕ) → Rises (length w) 0 (separated_icfl_ends w)
unfolding separated_icfl_ends
separated-icfl-ends-rise w =
    let cut = separated-icfl-is w in
    ends-rise (λ m p. (inverse-lyndon-factor m p).nonempty) cut.words 0 (length w) (rw cut.product (omega arith))

-- ---- a factor is a separator, or a factor of a stretch

pub record FactorOfStretch (f : List ℕ → List (List ℕ)) (w m : List ℕ) : Type 0 where
  pub stretch : List ℕ
  pub among : Memᴰ stretch (stretches w)
  pub factor : Memᴰ m (f stretch)

module _ (f : List ℕ → List (List ℕ)) where
  between-factor : {w : List ℕ} → Separation w → (m : List ℕ) → Memᴰ m (between mark (map f (stretches w))) → (m ≡ mark) ⊎ FactorOfStretch f w m
  between-factor (whole {v = v} u) m h =
      inr (record { stretch = v; among = rw (stretches-whole v u) (Memᴰ.head refl); factor = rw (between-whole mark f v u) at h })
  between-factor (split {v = v} {w = w} u s) m h = go (Memᴰ.append_cases (f v) (rw (between_split mark f v w u) at h)) (λ x. between-factor s m x)
    where
      rest : List (List ℕ)
      rest = between mark (map f (stretches w))

      later : (m ≡ mark) ⊎ FactorOfStretch f w m → (m ≡ mark) ⊎ FactorOfStretch f (v ++ separator ∷ w) m
      later (inl e) = inl e
      later (inr x) = inr (record { stretch = x.stretch; among = rw (stretches-split v w u) (Memᴰ.tail x.among); factor = x.factor })

      near-mark : (m ≡ mark) ⊎ Memᴰ m rest → (Memᴰ m rest → (m ≡ mark) ⊎ FactorOfStretch f w m) → (m ≡ mark) ⊎ FactorOfStretch f (v ++ separator ∷ w) m
      near-mark (inl e) next = inl e
      near-mark (inr x) next = later (next x)

      go : Memᴰ m (f v) ⊎ Memᴰ m (mark ∷ rest) → (Memᴰ m rest → (m ≡ mark) ⊎ FactorOfStretch f w m) → (m ≡ mark) ⊎ FactorOfStretch f (v ++ separator ∷ w) m
      go (inl x) next = inr (record { stretch = v; among = rw (stretches-split v w u) (Memᴰ.head refl); factor = x })
      go (inr x) next = near-mark (Memᴰ.cases_cons x) next

pub separated-icfl-factor : (w m : List ℕ) → Memᴰ m (separated_icfl w) → (m ≡ mark) ⊎ FactorOfStretch icfl w m
unfolding separated_icfl
separated-icfl-factor w m h = between-factor icfl (separation w) m h

pub separated-cfl-in-factor : (w m : List ℕ) → Memᴰ m (separated_cfl_in w) → (m ≡ mark) ⊎ FactorOfStretch cfl_in w m
unfolding separated_cfl_in
separated-cfl-in-factor w m h = between-factor cfl_in (separation w) m h
