-- The numbers of a list that was read before, one after another: what the next call gives (item-given), and what its caller learns: the next of them
-- (left-next), that there is none (left-none); and that only one list stands at a place (left_unique).
use mathlib.Core.Path.{◌≡◌, refl, ap, sym, subst, ◌∙◌}
use mathlib.Core.List.{List, [], ◌∷◌, ◌++◌, append_assoc}
use Prim.Native.Nat.{ℕ, suc, ◌+◌, ◌<◌}
use native.Mathlib.Numerals.{add-one}
use native.Mathlib.Decide.{dec_lt}
use native.Mathlib.Omega.{arith}
use Rattle.std.specs.Prelude.{Option, Some, None}
use lib.ListN.{length, drop, get_or, drop_of_length-le}
use lib.Seq.{drop-cons}
use Rattle.text.specs.Text.{decimal, each_after, list_by}
use Rattle.text.specs.Reading.{nothing, found, number, numbers_by}
use Rattle.text.proofs.Readers.{nothing-found, number-reads}
use Rattle.text.proofs.ListReaders.{each-stops, list-reads}
use Rattle.parsing.specs.Parsing.{NumberAt, NextPlace, Standing, Left, ItemGiven}
use Rattle.parsing.specs.declared.Number.{Number}
use Rattle.parsing.specs.declared.Items.{Items}

list-front : (s u v : ℕ) (vs z : List ℕ) → list_by (s ∷ []) (u ∷ []) (v ∷ vs) ++ z ≡ decimal v ++ (each_after (s ∷ []) (u ∷ []) vs ++ z)
unfolding list_by
list-front s u v vs z = append_assoc (decimal v) (each_after (s ∷ []) (u ∷ []) vs) z

each-list : (s u v : ℕ) (vs z : List ℕ) → each_after (s ∷ []) (u ∷ []) (v ∷ vs) ++ z ≡ s ∷ (list_by (u ∷ []) (s ∷ []) (v ∷ vs) ++ z)
unfolding each_after list_by
each-list s u v vs z = refl

each_none : (s u : ℕ) (z : List ℕ) → each_after (s ∷ []) (u ∷ []) [] ++ z ≡ z
unfolding each_after
each_none s u z = refl

-- the byte at a place, and what stands after it
head_of : {c : ℕ} {x : List ℕ} (t : List ℕ) (e : ℕ) → drop e t ≡ c ∷ x → (e < length t) × ((get_or t e 0 ≡ c) × (drop (suc e) t ≡ x))
head_of {c} {x} t e h = go (dec_lt e (length t))
  where
    go : Dec (e < length t) → (e < length t) × ((get_or t e 0 ≡ c) × (drop (suc e) t ≡ x))
    go (no l) = let z : [] ≡ c ∷ x = sym (drop_of_length-le t {i = e} (omega arith)) ∙ h in absurd (omega (arith, ap length z))
    go (yes l) =
        let z : get_or t e 0 ∷ drop (suc e) t ≡ c ∷ x = sym (drop-cons t e 0 l) ∙ h in
        let a : get_or t e 0 ≡ c = cc in
        let b : drop (suc e) t ≡ x = cc in
        (l, (a, b))

-- ---- one number of them

module _ {t : List ℕ} {at : ℕ} {s u v : ℕ} {vs : List ℕ} (p : Standing s u t at (v ∷ vs)) where
  after : List ℕ
  after = each_after (s ∷ []) (u ∷ []) vs ++ 10 ∷ p.tail

  front : number (drop at t) ≡ found v after
  unfolding after
  front =
      ap number (p.is ∙ list-front s u v vs (10 ∷ p.tail))
      ∙ number-reads.whole v after (p.bounded 0) (each-stops u p.first vs (10 ∷ p.tail) refl)

  pub item-some : number (drop at t) ≡ nothing → ⊥
  item-some e = nothing-found (sym e ∙ front)

  module _ {r : Number} (n : NumberAt t at r) where
    both : found r.value (drop r.end t) ≡ found v after
    both = sym n.is ∙ front

    pub item-value : r.value ≡ v
    item-value = let z = both in cc

    after_is : drop r.end t ≡ each_after (s ∷ []) (u ∷ []) vs ++ 10 ∷ p.tail
    unfolding after
    after_is = let z = both in cc

-- the byte after the number: the line's end, or the text's
pub item-last : {t : List ℕ} {at s u v : ℕ} (vs : List ℕ) {r : Number} → (r.end < length t → get_or t r.end 0 ≡ 10)
    → Standing s u t at (v ∷ vs) → NumberAt t at r → Left u s t None vs
item-last [] h p n = Left.none
item-last {t} {at} {s} {u} (w ∷ ws) {r} h p n =
    let x = head_of t r.end (after_is p n ∙ each-list s u w ws (10 ∷ p.tail)) in absurd (p.first.inside (sym x.1.0 ∙ h x.0))

-- another byte
pub item-next : {t : List ℕ} {at s u v : ℕ} (vs : List ℕ) {r : Number} → ¬ (get_or t r.end 0 ≡ 10)
    → Standing s u t at (v ∷ vs) → NumberAt t at r → Left u s t (Some (r.end + 1)) vs
item-next {t} {at} {s} {u} [] {r} h p n = let x = head_of t r.end (after_is p n ∙ each_none s u (10 ∷ p.tail)) in absurd (h x.1.0)
item-next {t} {at} {s} {u} (w ∷ ws) {r} h p n =
    let x = head_of t r.end (after_is p n ∙ each-list s u w ws (10 ∷ p.tail)) in
    Left.some {at = r.end + 1} {v = w} {vs = ws} (record {
      first = p.second;
      second = p.first;
      bounded = λ i. p.bounded (suc i);
      tail = p.tail;
      is = rw (add-one r.end) x.1.1;
    })

-- ---- a call

standing-at : {s u : ℕ} {t vs : List ℕ} {p : Option ℕ} {at v : ℕ} → Left s u t p (v ∷ vs) → p ≡ Some at → Standing s u t at (v ∷ vs)
standing-at {s} {u} {t} {vs} {v = v} (Left.some {at = b} x) e = let same : b ≡ _ = cc in subst (λ (i : ℕ). Standing s u t i (v ∷ vs)) same x

no-place : {s u : ℕ} {t : List ℕ} {p : Option ℕ} {at : ℕ} → Left s u t p [] → p ≡ Some at → ⊥
no-place Left.none e = cc

module _ (i : Items) {at : ℕ} (e : i.next ≡ Some at) where
  pub given-none : number (drop at i.text.now) ≡ nothing → ItemGiven i None i
  given-none n = record { text = refl; some = λ l. absurd (item-some (standing-at l e) n); none = λ l. refl }

  module _ {r : Number} (n : NumberAt i.text.now at r) where
    given : (q : Option ℕ) → ((s u v : ℕ) (vs : List ℕ) → Standing s u i.text.now at (v ∷ vs) → Left u s i.text.now q vs)
        → ItemGiven i (Some r.value) (record { text = i.text; next = q })
    given q rest = record {
      text = refl;
      some = λ l. let x = standing-at l e in (ap Some (item-value x n), rest _ _ _ _ x);
      none = λ l. absurd (no-place l e);
    }

    pub given-item : (q : Option ℕ) → NextPlace i.text.now r.end q → ItemGiven i (Some r.value) (record { text = i.text; next = q })
    given-item None h = given None (λ s u v vs x. item-last vs h x n)
    given-item (Some k) h = given (Some k) (λ s u v vs x. rw h.2 (item-next vs h.1 x n))

-- ---- what a caller learns

module _ {s u : ℕ} {t : List ℕ} {i j : Items} (e : i.text.now ≡ t) where
  pub left-next : {us : List ℕ} {x : ℕ} → Left s u t i.next us → ItemGiven i (Some x) j → (vs : List ℕ) × ((us ≡ x ∷ vs) × Left u s t j.next vs)
  left-next {us = []} l g = let z = g.none (rw (← e) at l) in absurd (cc)
  left-next {us = v ∷ vs} l g = let z = g.some (rw (← e) at l) in let same = z.0 in (vs, (cc, rw e at z.1))

  pub left-none : {us : List ℕ} → Left s u t i.next us → ItemGiven i None j → us ≡ []
  left-none {us = []} l g = refl
  left-none {us = v ∷ vs} l g = let z = (g.some (rw (← e) at l)).0 in absurd (cc)

-- ---- one list at a place

standing-read : {s u : ℕ} {t : List ℕ} {at v : ℕ} {vs : List ℕ} (p : Standing s u t at (v ∷ vs)) → numbers_by s u (drop at t) ≡ found (v ∷ vs) (10 ∷ p.tail)
standing-read {s} {u} p = ap (numbers_by s u) p.is ∙ (list-reads p.first p.second).whole _ (10 ∷ p.tail) (omega arith, p.bounded) refl

pub left_unique : {s u : ℕ} {t : List ℕ} {place : Option ℕ} {vs ws : List ℕ} → Left s u t place vs → Left s u t place ws → vs ≡ ws
left_unique {s} {u} {t} x y = go x y refl
  where
    go : {p q : Option ℕ} {vs ws : List ℕ} → Left s u t p vs → Left s u t q ws → p ≡ q → vs ≡ ws
    go Left.none Left.none e = refl
    go Left.none (Left.some k) e = absurd (cc)
    go (Left.some j) Left.none e = absurd (cc)
    go (Left.some {at = p} {v = v} {vs = vs} j) (Left.some {at = q} {v = w} {vs = ws} k) e =
        let same : p ≡ q = cc in
        let z : found (v ∷ vs) (10 ∷ j.tail) ≡ found (w ∷ ws) (10 ∷ k.tail)
        = sym (standing-read j) ∙ ap (λ (i : ℕ). numbers_by s u (drop i t)) same ∙ standing-read k in
        cc
