-- What the readers of lists read: numbers with two bytes between them in turn, up to the end of their line (list-reads), and the lists that we print
-- (numbers-read, pairs-read). A byte between numbers is no digit and does not end the line (Separator).
use mathlib.Core.Path.{◌≡◌, refl, ap, sym, ◌∙◌}
use mathlib.Core.List.{List, [], ◌∷◌, ◌++◌, append_assoc}
use Prim.Native.Nat.{ℕ, zero, suc, ◌%◌, ◌≤◌, ◌<◌}
use native.Mathlib.Nat.{le_refl}
use native.Mathlib.Decide.{ℕ_discrete}
use native.Mathlib.Omega.{arith}
use borrow.Author.Tests.{eq-eqb, ne_eqb, eqb-true}
use lib.ListN.{length, get_or, length-append}
use Rattle.text.specs.Text.{decimal, each_after, list_by, comma_list, pair_list}
use Rattle.text.specs.Reading.{Read, nothing, found, follow, most_number, digit_value, number, each_within, numbers_by, exactly, numbers, pairs}
use Rattle.text.proofs.Readers.{Reads, NoDigit, nothing-found, number-reads, newline-stops}
use Rattle.text.proofs.ReaderKinds.{follow-found, follow-here, carry, counted-reads}

pub record Separator (c : ℕ) : Type 0 where
  pub other : 9 < digit_value c
  pub inside : ¬ (c ≡ 10)

pub comma-separates : Separator 44
unfolding digit_value
comma-separates = record { other = omega arith; inside = λ e. omega arith }

pub colon-separates : Separator 58
unfolding digit_value
colon-separates = record { other = omega arith; inside = λ e. omega arith }

-- numbers that can be read; a nonempty list of such
abbrev pub Bounded : List ℕ → Type 0
Bounded ns = (i : ℕ) → get_or ns i 0 ≤ most_number

abbrev pub Numbers : List ℕ → Type 0
Numbers ns = (0 < length ns) × Bounded ns

-- byte s does not follow
abbrev pub NoByte : ℕ → List ℕ → Type 0
NoByte s [] = Unit {0}
NoByte s (c ∷ y) = ¬ (c ≡ s)

-- the line ends, or the text
abbrev pub LineEnd : List ℕ → Type 0
LineEnd [] = Unit {0}
LineEnd (c ∷ y) = c ≡ 10

-- ---- further numbers: at their end, at one more

module _ (s t : ℕ) where
  pub each-never : (x : List ℕ) → each_within 0 s t x ≡ nothing
  unfolding each_within
  each-never x = refl

  pub each-end : (k : ℕ) (y : List ℕ) → NoByte s y → each_within (suc k) s t y ≡ found [] y
  unfolding each_within
  each-end k [] c = refl
  each-end k (d ∷ y) c = rw (ne_eqb d s c, each_within)

  pub each_more : (k : ℕ) (x : List ℕ)
      → each_within (suc k) s t (s ∷ x) ≡ follow (number x) (λ n y. follow (each_within k t s y) (λ ns z. found (n ∷ ns) z))
  unfolding each_within
  each_more k x = rw (eq-eqb s s refl, each_within)

  pub list-is : (x : List ℕ) → numbers_by s t x ≡ follow (number x) (λ n y. follow (each_within (suc (length y)) s t y) (λ ns z. found (n ∷ ns) z))
  unfolding numbers_by
  list-is x = refl

-- ---- what stands after a number, and after a list

pub each-stops : {s : ℕ} (t : ℕ) → Separator s → (ns y : List ℕ) → LineEnd y → NoDigit (each_after (s ∷ []) (t ∷ []) ns ++ y)
unfolding each_after
each-stops t p [] [] e = tt
each-stops t p [] (c ∷ y) e = rw e newline-stops
each-stops t p (n ∷ ns) y e = p.other

end-other : {s : ℕ} → Separator s → (y : List ℕ) → LineEnd y → NoByte s y
end-other p [] e = tt
end-other p (c ∷ y) e = λ z. p.inside (sym z ∙ e)

-- ---- the numbers

bounded-more : (n : ℕ) (ns : List ℕ) → n ≤ most_number → Bounded ns → Bounded (n ∷ ns)
bounded-more n ns l h zero = l
bounded-more n ns l h (suc i) = h i

each-whole : (k : ℕ) {s t : ℕ} → Separator s → Separator t → (ns y : List ℕ) → Bounded ns → LineEnd y
    → length (each_after (s ∷ []) (t ∷ []) ns ++ y) < k → each_within k s t (each_after (s ∷ []) (t ∷ []) ns ++ y) ≡ found ns y
unfolding each_after
each-whole zero p q ns y g e l = absurd (omega arith)
each-whole (suc k) {s} {t} p q [] y g e l = each-end s t k y (end-other p y e)
each-whole (suc k) {s} {t} p q (n ∷ ns) y g e l =
    let us = each_after (t ∷ []) (s ∷ []) ns in
    let z : length (us ++ y) < k = omega (arith, length-append (decimal n ++ us) y, length-append (decimal n) us, length-append us y) in
    each_more s t k ((decimal n ++ us) ++ y)
    ∙ follow-here (λ n y. follow (each_within k t s y) (λ ns z. found (n ∷ ns) z))
    (ap number (append_assoc (decimal n) us y) ∙ number-reads.whole n (us ++ y) (g 0) (each-stops s q ns y e))
    ∙ follow-here (λ ns z. found (n ∷ ns) z) (each-whole k q p ns y (λ i. g (suc i)) e z)

each-sound : (k s t : ℕ) (x ns y : List ℕ) → each_within k s t x ≡ found ns y
    → Bounded ns × (x ≡ each_after (s ∷ []) (t ∷ []) ns ++ y)
unfolding each_after
each-sound zero s t x ns y e = absurd (nothing-found (sym (each-never s t x) ∙ e))
each-sound (suc k) s t [] ns y e =
    carry (λ ns y. Bounded ns × ([] ≡ each_after (s ∷ []) (t ∷ []) ns ++ y)) (sym (each-end s t k [] tt) ∙ e) (λ i. omega arith, refl)
each-sound (suc k) s t (c ∷ x) ns y e = go (ℕ_discrete c s) (each-sound k t s)
  where
    Is : List ℕ → List ℕ → Type 0
    Is ns y = Bounded ns × (c ∷ x ≡ each_after (s ∷ []) (t ∷ []) ns ++ y)

    go : Dec (c ≡ s)
        → ((x ns y : List ℕ) → each_within k t s x ≡ found ns y → Bounded ns × (x ≡ each_after (t ∷ []) (s ∷ []) ns ++ y))
        → Bounded ns × (c ∷ x ≡ each_after (s ∷ []) (t ∷ []) ns ++ y)
    go (no p) next = carry Is (sym (each-end s t k (c ∷ x) p) ∙ e) (λ i. omega arith, refl)
    go (yes p) next =
        let f : ℕ → List ℕ → Read (List ℕ) = λ n y. follow (each_within k t s y) (λ ns z. found (n ∷ ns) z) in
        let h : follow (number x) f ≡ found ns y = sym (ap (λ (d : ℕ). each_within (suc k) s t (d ∷ x)) p ∙ each_more s t k x) ∙ e in
        let q = follow-found (number x) f ns y h in
        let q' = follow-found (each_within k t s q.1.0) (λ ns z. found (q.0 ∷ ns) z) ns y q.1.1.1 in
        let a = number-reads.sound x q.0 q.1.0 q.1.1.0 in
        let b = next q.1.0 q'.0 q'.1.0 q'.1.1.0 in
        let us = each_after (t ∷ []) (s ∷ []) q'.0 in
        let rest : x ≡ (decimal q.0 ++ us) ++ q'.1.0
        = a.1 ∙ ap (λ (u : List ℕ). decimal q.0 ++ u) b.1 ∙ sym (append_assoc (decimal q.0) us q'.1.0) in
        carry Is q'.1.1.1 (bounded-more q.0 q'.0 a.0 b.0, ap (λ (d : ℕ). d ∷ x) p ∙ ap (λ (u : List ℕ). s ∷ u) rest)

pub list-reads : {s t : ℕ} → Separator s → Separator t → Reads (numbers_by s t) (list_by (s ∷ []) (t ∷ [])) Numbers LineEnd
unfolding list_by
list-reads {s} {t} p q = record { sound = sound; whole = whole }
  where
    rest : ℕ → List ℕ → Read (List ℕ)
    rest n y = follow (each_within (suc (length y)) s t y) (λ ns z. found (n ∷ ns) z)

    sound : (x ns y : List ℕ) → numbers_by s t x ≡ found ns y → Numbers ns × (x ≡ list_by (s ∷ []) (t ∷ []) ns ++ y)
    sound x ns y e =
        let a = follow-found (number x) rest ns y (sym (list-is s t x) ∙ e) in
        let b = follow-found (each_within (suc (length a.1.0)) s t a.1.0) (λ ns z. found (a.0 ∷ ns) z) ns y a.1.1.1 in
        let first = number-reads.sound x a.0 a.1.0 a.1.1.0 in
        let others = each-sound (suc (length a.1.0)) s t a.1.0 b.0 b.1.0 b.1.1.0 in
        carry (λ ns y. Numbers ns × (x ≡ list_by (s ∷ []) (t ∷ []) ns ++ y)) b.1.1.1 (
          (omega arith, bounded-more a.0 b.0 first.0 others.0),
          first.1 ∙ ap (λ (u : List ℕ). decimal a.0 ++ u) others.1 ∙ sym (append_assoc (decimal a.0) _ b.1.0),
        )

    whole : (ns y : List ℕ) → Numbers ns → LineEnd y → numbers_by s t (list_by (s ∷ []) (t ∷ []) ns ++ y) ≡ found ns y
    whole [] y g e = absurd (omega (arith, g.0))
    whole (n ∷ ns) y g e =
        let us = each_after (s ∷ []) (t ∷ []) ns in
        list-is s t _
        ∙ follow-here rest (ap number (append_assoc (decimal n) us y) ∙ number-reads.whole n (us ++ y) (g.1 0) (each-stops t p ns y e))
        ∙ follow-here (λ ns z. found (n ∷ ns) z) (each-whole (suc (length (us ++ y))) p q ns y (λ i. g.1 (suc i)) e (le_refl _))

-- ---- the lists that we print

pub numbers-read : Reads numbers comma_list Numbers LineEnd
numbers-read = list-reads comma-separates comma-separates

pub exactly-read : (k : ℕ) → Reads (exactly k numbers) comma_list (λ ns. Numbers ns × (length ns ≡ k)) LineEnd
exactly-read k = counted-reads numbers-read _ (λ n. n ≡ k) (λ n. (eqb-true n k, eq-eqb n k))

pub pairs-read : Reads pairs pair_list (λ ns. Numbers ns × (length ns % 2 ≡ 0)) LineEnd
pairs-read = counted-reads (list-reads colon-separates comma-separates) _ (λ n. n % 2 ≡ 0) (λ n. (eqb-true (n % 2) 0, eq-eqb (n % 2) 0))
