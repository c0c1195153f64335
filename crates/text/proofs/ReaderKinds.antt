-- What readers put together read: bytes before and after a value (past-reads, upto-reads), two values (then-reads), lines (line_reads), and lists of which
-- the length is tested (counted-reads); that test may come after the line's end too (counted-line).
use mathlib.Core.Path.{◌≡◌, refl, ap, sym, ◌∙◌, fun_ext}
use mathlib.Core.Logic.{◌↔◌}
use mathlib.Core.Bool.{Bool, true, false}
use mathlib.Core.List.{List, [], ◌∷◌, ◌++◌, append_assoc}
use Prim.Native.Nat.{ℕ}
use native.Mathlib.Decide.{ℕ_discrete}
use borrow.Author.Tests.{eq-eqb, ne_eqb}
use lib.Dec.{eqb}
use lib.ListN.{length}
use Rattle.text.specs.Text.{ascii, line}
use Rattle.text.specs.Reading.{Read, nothing, found, Reader, follow, past, upto, ◌then◌, counted, line_of}
use Rattle.text.proofs.Readers.{Reads, Any, nothing-found, reads_as}

-- ---- what follows a value

pub follow-found : {A B : Type 0} (q : Read A) (f : A → List ℕ → Read B) (b : B) (y : List ℕ) → follow q f ≡ found b y
    → (a : A) × ((z : List ℕ) × ((q ≡ found a z) × (f a z ≡ found b y)))
follow-found nothing f b y e = absurd (nothing-found e)
follow-found (found a z) f b y e = (a, (z, (refl, e)))

pub follow-here : {A B : Type 0} {q : Read A} {a : A} {z : List ℕ} (f : A → List ℕ → Read B) → q ≡ found a z → follow q f ≡ f a z
follow-here f e = ap (λ (t : Read _). follow t f) e

-- what holds of what was found
pub carry : {A : Type 0} (P : A → List ℕ → Type 0) {a b : A} {y z : List ℕ} → found a y ≡ found b z → P a y → P b z
carry P {a} {b} {y} {z} e p =
    let one : a ≡ b = cc in
    let two : y ≡ z = cc in
    rw (← one, ← two) p

-- ---- bytes before a value

module _ {A : Type 0} where
  pub past-here : (cs : List ℕ) (r : Reader A) (x : List ℕ) → past cs r (cs ++ x) ≡ r x
  unfolding past
  past-here [] r x = refl
  past-here (c ∷ cs) r x = rw (eq-eqb c c refl, past) (past-here cs r x)

  pub past-found : (cs : List ℕ) (r : Reader A) (x : List ℕ) (a : A) (y : List ℕ) → past cs r x ≡ found a y
      → (z : List ℕ) × ((x ≡ cs ++ z) × (r z ≡ found a y))
  unfolding past
  past-found [] r x a y e = (x, (refl, e))
  past-found (c ∷ cs) r [] a y e = absurd (nothing-found e)
  past-found (c ∷ cs) r (d ∷ x) a y e = go (ℕ_discrete c d) (past-found cs r x a y)
    where
      go : Dec (c ≡ d) → (past cs r x ≡ found a y → (z : List ℕ) × ((x ≡ cs ++ z) × (r z ≡ found a y)))
          → (z : List ℕ) × ((d ∷ x ≡ c ∷ (cs ++ z)) × (r z ≡ found a y))
      go (yes p) next =
          let k : past (c ∷ cs) r (d ∷ x) ≡ past cs r x = rw (eq-eqb c d p, past) in
          let s = next (sym k ∙ e) in
          (s.0, (ap (λ (b : ℕ). b ∷ x) (sym p) ∙ ap (λ (t : List ℕ). c ∷ t) s.1.0, s.1.1))
      go (no p) next =
          let k : past (c ∷ cs) r (d ∷ x) ≡ nothing = rw (ne_eqb c d p, past) in
          absurd (nothing-found (sym k ∙ e))

  -- what is done with the value may be done past the bytes
  past-follow : {B : Type 0} (cs : List ℕ) (r : Reader A) (f : A → List ℕ → Read B) (x : List ℕ)
      → past cs (λ z. follow (r z) f) x ≡ follow (past cs r x) f
  unfolding past
  past-follow [] r f x = refl
  past-follow (c ∷ cs) r f [] = refl
  past-follow {B} (c ∷ cs) r f (d ∷ x) = go (eqb c d) (past-follow cs r f x)
    where
      go : (b : Bool) → past cs (λ z. follow (r z) f) x ≡ follow (past cs r x) f
          → ◌≡◌ {A = Read B} (elim b [ true ↦ past cs (λ z. follow (r z) f) x | false ↦ nothing ]) (follow (elim b [ true ↦ past cs r x | false ↦ nothing ]) f)
      go true e = e
      go false e = refl

-- ---- one value after another

module _ {A : Type 0} {r : Reader A} {print : A → List ℕ} {Good : A → Type 0} {Stop : List ℕ → Type 0} (k : Reads r print Good Stop) where
  pub past-reads : (cs : List ℕ) → Reads (past cs r) (λ a. cs ++ print a) Good Stop
  past-reads cs = record {
    sound = λ x a y e.
        let s = past-found cs r x a y e in
        let t = k.sound s.0 a y s.1.1 in
        (t.0, s.1.0 ∙ ap (λ (u : List ℕ). cs ++ u) t.1 ∙ sym (append_assoc cs (print a) y));
    whole = λ a y g s. ap (past cs r) (append_assoc cs (print a) y) ∙ past-here cs r (print a ++ y) ∙ k.whole a y g s;
  }

  pub upto-reads : (cs : List ℕ) → ((z : List ℕ) → Stop (cs ++ z)) → Reads (upto cs r) (λ a. print a ++ cs) Good Any
  unfolding upto
  upto-reads cs stops = record { sound = sound; whole = whole }
    where
      sound : (x : List ℕ) (a : A) (y : List ℕ) → follow (r x) (λ b u. past cs (λ z. found b z) u) ≡ found a y
          → Good a × (x ≡ (print a ++ cs) ++ y)
      sound x a y e =
          let s = follow-found (r x) (λ b u. past cs (λ z. found b z) u) a y e in
          let p = past-found cs (λ z. found s.0 z) s.1.0 a y s.1.1.1 in
          let t = k.sound x s.0 s.1.0 s.1.1.0 in
          carry (λ b z. Good b × (x ≡ (print b ++ cs) ++ z)) p.1.1
          (t.0, t.1 ∙ ap (λ (u : List ℕ). print s.0 ++ u) p.1.0 ∙ sym (append_assoc (print s.0) cs p.0))

      whole : (a : A) (y : List ℕ) → Good a → Any y → follow (r ((print a ++ cs) ++ y)) (λ b u. past cs (λ z. found b z) u) ≡ found a y
      whole a y g s =
          follow-here (λ b u. past cs (λ z. found b z) u) (ap r (append_assoc (print a) cs y) ∙ k.whole a (cs ++ y) g (stops y))
          ∙ past-here cs (λ z. found a z) y

  pub then-reads : {B : Type 0} {s : Reader B} {print' : B → List ℕ} {Good' : B → Type 0} {Stop' : List ℕ → Type 0} → Reads s print' Good' Stop'
      → ((b : B) (y : List ℕ) → Good' b → Stop' y → Stop (print' b ++ y))
      → Reads (r then s) (λ v. print v.0 ++ print' v.1) (λ v. Good v.0 × Good' v.1) Stop'
  unfolding ◌then◌
  then-reads {B} {s} {print'} {Good'} {Stop'} l stops = record { sound = sound; whole = whole }
    where
      sound : (x : List ℕ) (v : A × B) (y : List ℕ) → follow (r x) (λ a u. follow (s u) (λ b z. found (a, b) z)) ≡ found v y
          → (Good v.0 × Good' v.1) × (x ≡ (print v.0 ++ print' v.1) ++ y)
      sound x v y e =
          let p = follow-found (r x) (λ a u. follow (s u) (λ b z. found (a, b) z)) v y e in
          let q = follow-found (s p.1.0) (λ b z. found (p.0, b) z) v y p.1.1.1 in
          let t = k.sound x p.0 p.1.0 p.1.1.0 in
          let t' = l.sound p.1.0 q.0 q.1.0 q.1.1.0 in
          carry (λ v y. (Good v.0 × Good' v.1) × (x ≡ (print v.0 ++ print' v.1) ++ y)) q.1.1.1 (
            (t.0, t'.0),
            t.1 ∙ ap (λ (u : List ℕ). print p.0 ++ u) t'.1 ∙ sym (append_assoc (print p.0) (print' q.0) q.1.0),
          )

      whole : (v : A × B) (y : List ℕ) → Good v.0 × Good' v.1 → Stop' y
          → follow (r ((print v.0 ++ print' v.1) ++ y)) (λ a u. follow (s u) (λ b z. found (a, b) z)) ≡ found v y
      whole v y g h =
          follow-here (λ a u. follow (s u) (λ b z. found (a, b) z))
          (ap r (append_assoc (print v.0) (print' v.1) y) ∙ k.whole v.0 (print' v.1 ++ y) g.0 (stops v.1 y g.1 h))
          ∙ follow-here (λ b z. found (v.0, b) z) (l.whole v.1 y g.1 h)

module _ {A : Type 0} {r : Reader A} {print : A → List ℕ} {Good : A → Type 0} {Stop : List ℕ → Type 0} (k : Reads r print Good Stop) where
  pub line_reads : (key : List ℕ) → ((z : List ℕ) → Stop (10 ∷ z)) → Reads (line_of key r) (λ a. line key (print a)) Good Any
  unfolding line_of line
  line_reads key stops = reads_as same (past-reads (upto-reads k (ascii "\n") stops) (key ++ ascii "="))
    where
      same : (a : A) → (key ++ ascii "=") ++ (print a ++ ascii "\n") ≡ key ++ ascii "=" ++ print a ++ ascii "\n"
      same a = sym (append_assoc (key ++ ascii "=") (print a) (ascii "\n"))

-- ---- lists of which the length is tested

module _ {A : Type 0} (test : ℕ → Bool) where
  -- a list that was found, after the test
  abbrev tested : List A → List ℕ → Read (List A)
  tested vs y = elim (test (length vs)) [ true ↦ found vs y | false ↦ nothing ]

  tested-yes : (vs : List A) (y : List ℕ) → test (length vs) ≡ true → tested vs y ≡ found vs y
  tested-yes vs y e = rw (e, tested)

  tested-no : (vs : List A) (y : List ℕ) → test (length vs) ≡ false → tested vs y ≡ nothing
  tested-no vs y e = rw (e, tested)

  module _ (r : Reader (List A)) {x : List ℕ} {vs : List A} {y : List ℕ} (e : r x ≡ found vs y) where
    pub counted-yes : test (length vs) ≡ true → counted test r x ≡ found vs y
    unfolding counted
    counted-yes c = follow-here tested e ∙ tested-yes vs y c

    pub counted-no : test (length vs) ≡ false → counted test r x ≡ nothing
    unfolding counted
    counted-no c = follow-here tested e ∙ tested-no vs y c

  pub counted_none : (r : Reader (List A)) {x : List ℕ} → r x ≡ nothing → counted test r x ≡ nothing
  unfolding counted
  counted_none r e = ap (λ (q : Read (List A)). follow q tested) e

  past-nothing : (cs x : List ℕ) → past {A = List A} cs (λ z. nothing) x ≡ nothing
  past-nothing cs x = past-follow {A = List A} {B = List A} cs (λ z. nothing) (λ a z. nothing) x ∙ never (past cs (λ z. nothing) x)
    where
      never : (q : Read (List A)) → ◌≡◌ {A = Read (List A)} (follow q (λ a z. nothing)) nothing
      never nothing = refl
      never (found a z) = refl

  upto-tested : (cs : List ℕ) (q : Read (List A))
      → follow (follow q tested) (λ vs y. past cs (λ z. found vs z) y) ≡ follow (follow q (λ vs y. past cs (λ z. found vs z) y)) tested
  upto-tested cs nothing = refl
  upto-tested cs (found vs y) = go (test (length vs)) refl ∙ past-follow cs (λ z. found vs z) tested y
    where
      go : (b : Bool) → test (length vs) ≡ b → follow (tested vs y) (λ vs y. past cs (λ z. found vs z) y) ≡ past cs (λ z. tested vs z) y
      go true e = rw (e, tested)
      go false e = rw (e, tested) (sym (past-nothing cs y))

  pub counted-line : (key : List ℕ) (r : Reader (List A)) (x : List ℕ) → line_of key (counted test r) x ≡ counted test (line_of key r) x
  unfolding counted line_of upto
  counted-line key r x =
      ap (λ (q : Reader (List A)). past (key ++ ascii "=") q x) (fun_ext (λ z. upto-tested (ascii "\n") (r z)))
      ∙ past-follow (key ++ ascii "=") (upto (ascii "\n") r) tested x

module _ {A : Type 0} {r : Reader (List A)} {print : List A → List ℕ} {Good : List A → Type 0} {Stop : List ℕ → Type 0} (k : Reads r print Good Stop) where
  pub counted-reads : (test : ℕ → Bool) (Passes : ℕ → Type 0) → ((n : ℕ) → (test n ≡ true) ↔ Passes n)
      → Reads (counted test r) print (λ vs. Good vs × Passes (length vs)) Stop
  unfolding counted
  counted-reads test Passes means = record { sound = sound; whole = whole }
    where
      sound : (x : List ℕ) (vs : List A) (y : List ℕ) → follow (r x) (tested test) ≡ found vs y → (Good vs × Passes (length vs)) × (x ≡ print vs ++ y)
      sound x vs y e =
          let q = follow-found (r x) (tested test) vs y e in
          go q.0 q.1.0 (k.sound x q.0 q.1.0 q.1.1.0) q.1.1.1 (test (length q.0)) refl
        where
          go : (us : List A) (z : List ℕ) → Good us × (x ≡ print us ++ z) → tested test us z ≡ found vs y → (b : Bool) → test (length us) ≡ b
              → (Good vs × Passes (length vs)) × (x ≡ print vs ++ y)
          go us z t f true p =
              carry (λ vs y. (Good vs × Passes (length vs)) × (x ≡ print vs ++ y)) (sym (tested-yes test us z p) ∙ f) ((t.0, (means (length us)).0 p), t.1)
          go us z t f false p = absurd (nothing-found (sym (tested-no test us z p) ∙ f))

      whole : (vs : List A) (y : List ℕ) → Good vs × Passes (length vs) → Stop y → follow (r (print vs ++ y)) (tested test) ≡ found vs y
      whole vs y g s = follow-here (tested test) (k.whole vs y g.0 s) ∙ tested-yes test vs y ((means (length vs)).1 g.1)
