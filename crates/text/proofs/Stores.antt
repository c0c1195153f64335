-- What is written one after the other stands one after the other (wrote_then), what is written from entry 0 on is the buffer's front
-- (wrote-front), and a text that is written part by part is what is left of it, written after its other parts (Left).
use mathlib.Core.Path.{◌≡◌, refl, ap, sym, ◌∙◌}
use mathlib.Core.List.{List, [], ◌∷◌, ◌++◌, append_assoc}
use Prim.Native.Nat.{ℕ, suc, ◌+◌, ◌-◌, ◌≤◌}
use native.Mathlib.Nat.{add-zero, add-suc, suc-add}
use native.Mathlib.Omega.{arith}
use borrow.Rule.Slice.PartMut.{put_mid}
use lib.ListN.{length, take, drop, set, length-append}
use Rattle.std.proofs.lemmas.List.{drop-drop}
use lib.Seq.{sets, sets-eq, length-sets, set_comm}
use Rattle.buffers.specs.Buffers.{written}
use Rattle.text.specs.Writing.{WroteAt, Wrote}
use Rattle.text.specs.declared.Page.{Page}

sets-append : (vs l : List ℕ) (i : ℕ) (ws : List ℕ) → sets l i (vs ++ ws) ≡ sets (sets l i vs) (i + length vs) ws
sets-append [] l i ws = rw (add-zero i)
sets-append (v ∷ vs) l i ws = sets-append vs (set l i v) (suc i) ws ∙ rw (add-suc i (length vs), suc-add i (length vs))

-- the last of a run of stores may be the first
pub sets_last : (vs l : List ℕ) (i a : ℕ) → sets l i (vs ++ a ∷ []) ≡ sets (set l (i + length vs) a) i vs
sets_last [] l i a = rw (add-zero i)
sets_last (v ∷ vs) l i a =
    let z : suc i + length vs ≡ i + suc (length vs) = omega arith in
    sets_last vs (set l i v) (suc i) a
    ∙ rw z (ap (λ (t : List ℕ). sets t (suc i) vs) (set_comm l i (i + suc (length vs)) v a (λ e. omega (arith, e))))

-- ---- a text that was written

pub wrote-long : {at : ℕ} {vs out : List ℕ} {r : ℕ} {out' : List ℕ} → WroteAt at vs out r out' → length out' ≡ length out
wrote-long {at} {vs} {out} x = rw x.content (length-sets out at vs)

pub wrote_none : (at : ℕ) (out : List ℕ) → WroteAt at [] out at out
wrote_none at out = record { place = omega arith; content = refl }

pub wrote_then : {at : ℕ} {vs us out : List ℕ} {m r : ℕ} {out₁ out₂ : List ℕ}
    → WroteAt at vs out m out₁ → WroteAt m us out₁ r out₂ → WroteAt at (vs ++ us) out r out₂
wrote_then {at} {vs} {us} {out} x y = record {
  place = rw (length-append vs us) (omega (arith, x.place, y.place));
  content = rw (sets-append vs out at us, ← x.content, ← x.place) y.content;
}

-- a text copied over a part of the buffer
pub wrote-part : (at : ℕ) (vs out part : List ℕ) → part ≡ vs → at + length vs ≤ length out
    → WroteAt at vs out (at + length vs) (put_mid at (at + length vs - at) out part)
wrote-part at vs out part e h =
    let z : at + length vs - at ≡ length vs = omega arith in
    record {
      place = refl;
      content = rw (e, z, drop-drop (length vs) at out) (sym (sets-eq vs out at h ∙ append_assoc (take at out) vs (drop (at + length vs) out)));
    }

-- the same of a page
pub page-then : {vs us : List ℕ} {p q r : Page} → Wrote vs p q → Wrote us q r → Wrote (vs ++ us) p r
page-then x y = record { same = y.same ∙ x.same; text = wrote_then x.text y.text }

pub page-none : (p : Page) → Wrote [] p p
page-none p = record { same = refl; text = wrote_none p.at p.out.now }

-- what has room behind a text has room after it
pub record Room (n : ℕ) (p : Page) : Type 0 where
  pub inside : p.at + n ≤ length p.out.now

pub room-left : {vs : List ℕ} {n : ℕ} {p q : Page} → Wrote vs p q → Room (length vs + n) p → Room n q
room-left x r = record { inside = omega (arith, r.inside, x.text.place, wrote-long x.text) }

pub page-long : {vs : List ℕ} {p q : Page} → Wrote vs p q → length q.out.now ≡ length p.out.now
page-long x = wrote-long x.text

-- what is written from entry 0 on, as the buffer whole
pub wrote-front : {vs out : List ℕ} {r : ℕ} {out' : List ℕ}
    → WroteAt 0 vs out r out' → length vs ≤ length out → out' ≡ written vs out
wrote-front {vs} {out} x h =
    let z : 0 + length vs ≡ length vs = omega arith in
    x.content ∙ sets-eq vs out 0 (omega arith) ∙ rw z

-- ---- what is left of a text vs: rest, stored from entry place on, gives what vs gives, stored from entry at on

pub record Left (at : ℕ) (vs out₀ : List ℕ) (place : ℕ) (rest out : List ℕ) : Type 0 where
  pub place_is : place + length rest ≡ at + length vs
  pub stores : sets out place rest ≡ sets out₀ at vs
  pub long : length out ≡ length out₀

pub left-all : (at : ℕ) (vs out : List ℕ) → Left at vs out at vs out
left-all at vs out = record { place_is = refl; stores = refl; long = refl }

module _ {at : ℕ} {vs out₀ : List ℕ} {place : ℕ} {out : List ℕ} where
  pub left-text : {us rest : List ℕ} {r : ℕ} {out' : List ℕ} → Left at vs out₀ place (us ++ rest) out → WroteAt place us out r out'
      → Left at vs out₀ r rest out'
  left-text {us} {rest} g x = record {
    place_is = omega (arith, g.place_is, x.place, length-append us rest);
    stores = rw (x.place, x.content) (sym (sets-append us out place rest) ∙ g.stores);
    long = wrote-long x ∙ g.long;
  }

  pub left-none : Left at vs out₀ place [] out → WroteAt at vs out₀ place out
  left-none g = record { place = omega (arith, g.place_is); content = g.stores }
